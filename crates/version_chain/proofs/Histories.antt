-- The rows at a number, by the changes of a history.
use Rattle.std.specs.Prelude.{◌≡◌, ℕ, Bool, true, false, cond, nat_le, List, [], ◌∷◌, ◌++◌, filter}
use mathlib.Core.Path.{refl, sym, ap, ◌∙◌}
use Rattle.std.specs.FinMap.{FinMap}
use Rattle.table_laws.specs.Place.{place_cmp}
use Rattle.table_laws.specs.Table.{write}
use Rattle.iv_meaning.specs.Database.{Database, Row}
use Rattle.iv_meaning.specs.Statement.{Kept, sets, defines, keep, keep_all}
use Rattle.iv_meaning.specs.History.{Entry, fold}
use Rattle.version_chain.specs.Law.{Committed, rows_at}
use Rattle.version_chain.specs.States.{commits_in, commits_of, StateLaw}

rows_append : (n : ℕ) (l r : List (Committed Row)) (rows : FinMap place_cmp Row) → rows_at n (l ++ r) rows ≡ rows_at n r (rows_at n l rows)
rows_append n [] r rows = refl
rows_append n (c ∷ l) r rows = rows_append n l r _

kept_rows : (n m : ℕ) (ks : List Kept) (db : Database) → nat_le m n ≡ true → rows_at n (commits_in m ks) db.rows ≡ (keep_all ks db).rows
kept_rows n m [] db is = refl
kept_rows n m (sets c ∷ ks) db is = ap (λ b. rows_at n (commits_in m ks) (cond b (write db.rows c.key c.after) db.rows)) is ∙ kept_rows n m ks (keep (sets c) db) is
kept_rows n m (defines o ∷ ks) db is = kept_rows n m ks (keep (defines o) db) is

later_rows : (n m : ℕ) (ks : List Kept) (rows : FinMap place_cmp Row) → nat_le m n ≡ false → rows_at n (commits_in m ks) rows ≡ rows
later_rows n m [] rows is = refl
later_rows n m (sets c ∷ ks) rows is = ap (λ b. rows_at n (commits_in m ks) (cond b (write rows c.key c.after) rows)) is ∙ later_rows n m ks rows is
later_rows n m (defines o ∷ ks) rows is = later_rows n m ks rows is

folded_rows : (n : ℕ) (es : List Entry) (db : Database) → (fold (filter (λ e. nat_le e.number n) es) db).rows ≡ rows_at n (commits_of es) db.rows
folded_rows n [] db = refl
folded_rows n (e ∷ es) db = by (nat_le e.number n) refl (λ d. folded_rows n es d)
  where
    by : (b : Bool) → nat_le e.number n ≡ b → ((d : Database) → (fold (filter (λ e. nat_le e.number n) es) d).rows ≡ rows_at n (commits_of es) d.rows)
        → (fold (filter (λ e. nat_le e.number n) (e ∷ es)) db).rows ≡ rows_at n (commits_of (e ∷ es)) db.rows
    by true is rest =
        rw is (rest (record (keep_all e.kept db) { number = e.number })
        ∙ (ap (rows_at n (commits_of es)) (sym (kept_rows n e.number e.kept db is)) ∙ sym (rows_append n (commits_in e.number e.kept) (commits_of es) db.rows)))
    by false is rest =
        rw is (rest db ∙ (ap (rows_at n (commits_of es)) (sym (later_rows n e.number e.kept db.rows is)) ∙ sym (rows_append n (commits_in e.number e.kept) (commits_of es) db.rows)))

pub state_law : StateLaw
state_law origin history n = folded_rows n history origin
