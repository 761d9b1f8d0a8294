-- The example's statements, run alone.
use Rattle.std.specs.Prelude.{◌≡◌, ℕ, pos, List, [], ◌∷◌, map, filter, ◌==◌, codes, Option, Some, None, is_some, if◌then◌else◌}
use Rattle.std.specs.FinMap.{get, empty, entries, insert as put_row, put, find as find_entry, get-empty, get-entries, entries-insert, entries_sorted}
use Rattle.std.specs.FinMap.Entries.{same_entries}
use mathlib.Core.Path.{sym, ap, ◌∙◌}
use Rattle.iv_types.specs.declared.reply.Reply.{Reply}
use Rattle.iv_types.specs.declared.reply.Reply.TheVariants as reply
use Rattle.iv_types.specs.declared.value.Value.TheVariants.{Number}
use Rattle.iv_types.specs.declared.statement.Mode.TheVariants.{Serial, Snapshot}
use Rattle.iv_types.specs.Syntax.{StatementTree, savepoint, rollback}
use Rattle.table_laws.specs.Place.{Place, place_cmp}
use Rattle.table_laws.specs.Table.{Change, write, rows_where}
use Rattle.table_laws.proofs.Place.{place_cmp_total, place_cmp-IsAntisymmetric}
use Rattle.iv_meaning.specs.Database.{Row, Rows, Database, key_of}
use Rattle.iv_types.specs.Syntax.{at}
use Rattle.iv_meaning.specs.Values.{is_true}
use Rattle.iv_meaning.specs.Query.{BoundQuery, plain, combinations, conjunction, answer}
use Rattle.iv_meaning.specs.View.{conditions_of, rows_by_group}
use Rattle.iv_meaning.specs.Statement.{Kept, sets, Accepted, inserted, select_meaning}
use Rattle.iv_meaning.specs.Transaction.{Saved, Running, Response, told, inside, alone, alone_from, begun, ended_by, outside}
use Rattle.iv_meaning.specs.SerialExample.{sale, by_shop, shop_database, sold, shows}

pub no_entries : {X : Type 0} → entries (empty {X = X} {R = place_cmp}) ≡ []
no_entries {X = X} = same_entries place_cmp place_cmp_total place_cmp-IsAntisymmetric (entries (empty {X = X} {R = place_cmp})) [] (entries_sorted empty) tt (λ q. sym (get-entries empty q) ∙ get-empty place_cmp q)

pub one_entry : (k : Place) (r : Row) → entries (write (empty {X = Row} {R = place_cmp}) k (Some r)) ≡ (k, r) ∷ []
one_entry k r = entries-insert place_cmp_total empty k r ∙ ap (put place_cmp k r) no_entries

abbrev row : ℕ → ℕ → Row
row id amount = Number (pos id) ∷ Number (pos 7) ∷ Number (pos amount) ∷ []

abbrev pub running : Rows → List Kept → List Saved → Running
running rows kept saved = record { db = record shop_database { rows = rows }; kept = kept; saved = saved }

abbrev place : ℕ → ℕ → Place
place id amount = (1, key_of sale (row id amount))

abbrev change : ℕ → ℕ → Change Place Row
change id amount = record { key = place id amount; before = None; after = Some (row id amount) }

-- an INSERT by the row that is under its key
abbrev pub by_found : ℕ → ℕ → Running → Option Row → Response
by_found id amount t o = told (inserted (if is_some o then None else Some (change id amount ∷ [])) 1) t

one_in : (rows : Rows) (kept : List Kept) (saved : List Saved) → get rows (place 1 10) ≡ None
    → inside Serial (sold 1 10) (running rows kept saved) ≡ by_found 1 10 (running rows kept saved) None
one_in rows kept saved e = ap (by_found 1 10 (running rows kept saved)) e

two_in : (rows : Rows) (kept : List Kept) (saved : List Saved) → get rows (place 2 5) ≡ None
    → inside Serial (sold 2 5) (running rows kept saved) ≡ by_found 2 5 (running rows kept saved) None
two_in rows kept saved e = ap (by_found 2 5 (running rows kept saved)) e

abbrev one_row : Rows
one_row = put_row empty (place 1 10) (row 1 10)

no_second : get one_row (place 2 5) ≡ None
no_second = get-entries one_row (place 2 5) ∙ ap (find_entry place_cmp (place 2 5)) (one_entry (place 1 10) (row 1 10))

-- SELECT * FROM by_shop, by the entries of the rows
abbrev bound_shows : BoundQuery
bound_shows = record {
  relations = 2 ∷ [];
  conditions = [];
  items = plain (at (record { source = 0; column = 0 })) ∷ plain (at (record { source = 0; column = 1 })) ∷ plain (at (record { source = 0; column = 2 })) ∷ [];
  group = [];
  order = [];
}

abbrev shown_by : List (Place × Row) → Option (List Row)
shown_by es =
    let sales : List Row = map (λ (e : Place × Row). e.1) (rows_where (λ place row. place.0 == 1) es) in
    answer bound_shows (rows_by_group by_shop (filter (λ c. is_true (conjunction (conditions_of shop_database.schema by_shop) c)) (combinations (sales ∷ []))) ∷ [])

shows_by : (rows : Rows) (kept : List Kept) (saved : List Saved) (es : List (Place × Row)) → entries rows ≡ es
    → inside Serial shows (running rows kept saved) ≡ told (select_meaning (shown_by es)) (running rows kept saved)
shows_by rows kept saved es e = ap (λ es. told (select_meaning (shown_by es)) (running rows kept saved)) e

-- ---- the example's transaction

abbrev pub kept_one : List Kept
kept_one = sets (change 1 10) ∷ []

abbrev pub saved_one : List Saved
saved_one = record { name = codes "s"; db = record shop_database { rows = one_row }; kept = kept_one } ∷ []

-- a statement's replies before those of others
abbrev pub onto : List StatementTree → Response → List (List Reply) × Running
onto statements one = (one.replies ∷ (alone_from Serial statements one.after).0, (alone_from Serial statements one.after).1)

pub first_alone : (statements : List StatementTree) → alone Serial (sold 1 10 ∷ statements) shop_database ≡ onto statements (by_found 1 10 (running empty [] []) None)
first_alone statements = ap (onto statements) (one_in empty [] [] (get-empty place_cmp (place 1 10)))

-- and the second sale behind a savepoint
pub second_alone : (statements : List StatementTree) → alone Serial (sold 1 10 ∷ savepoint (codes "s") ∷ sold 2 5 ∷ statements) shop_database
    ≡ (let more : List (List Reply) × Running = onto statements (by_found 2 5 (running one_row kept_one saved_one) None) in ((reply.Done 1 ∷ []) ∷ (reply.Done 0 ∷ []) ∷ more.0, more.1))
second_alone statements =
    first_alone (savepoint (codes "s") ∷ sold 2 5 ∷ statements)
    ∙ ap (λ one. let more : List (List Reply) × Running = onto statements one in ((reply.Done 1 ∷ []) ∷ (reply.Done 0 ∷ []) ∷ more.0, more.1)) (two_in one_row kept_one saved_one no_second)

-- what is told of the view
abbrev pub returned : List Reply
returned = reply.Row (Number (pos 7) ∷ Number (pos 1) ∷ Number (pos 10) ∷ []) ∷ reply.Done 1 ∷ []

pub savepoint_alone : alone Serial (sold 1 10 ∷ savepoint (codes "s") ∷ sold 2 5 ∷ rollback (Some (codes "s")) ∷ shows ∷ []) shop_database
    ≡ ((reply.Done 1 ∷ []) ∷ (reply.Done 0 ∷ []) ∷ (reply.Done 1 ∷ []) ∷ (reply.Done 0 ∷ []) ∷ returned ∷ [], running one_row kept_one saved_one)
savepoint_alone =
    second_alone (rollback (Some (codes "s")) ∷ shows ∷ [])
    ∙ ap (λ one. ((reply.Done 1 ∷ []) ∷ (reply.Done 0 ∷ []) ∷ (reply.Done 1 ∷ []) ∷ (reply.Done 0 ∷ []) ∷ one.replies ∷ [], one.after)) (shows_by one_row kept_one saved_one ((place 1 10, row 1 10) ∷ []) (one_entry (place 1 10) (row 1 10)))

-- without rows the view has none
pub none_shown : inside Serial shows (begun shop_database) ≡ told (select_meaning (Some [])) (begun shop_database)
none_shown = shows_by empty [] [] [] no_entries

pub none_outside : outside shows shop_database ≡ ended_by (select_meaning (Some [])) shop_database
none_outside = ap (λ es. ended_by (select_meaning (shown_by es)) shop_database) no_entries

-- ---- other transactions

pub sold_outside : outside (sold 1 10) shop_database ≡ ended_by (Accepted [] 1 kept_one) shop_database
sold_outside = ap (λ o. ended_by (inserted (if is_some o then None else Some (change 1 10 ∷ [])) 1) shop_database) (get-empty place_cmp (place 1 10))

-- the database with the first sale
abbrev pub with_sale : Database
with_sale = record shop_database { number = 3; rows = one_row }

pub shows_outside : outside shows with_sale ≡ ended_by (Accepted ((Number (pos 7) ∷ Number (pos 1) ∷ Number (pos 10) ∷ []) ∷ []) 1 []) with_sale
shows_outside = ap (λ es. ended_by (select_meaning (shown_by es)) with_sale) (one_entry (place 1 10) (row 1 10))

pub snapshot_alone : alone Snapshot (shows ∷ []) shop_database ≡ ((reply.Done 0 ∷ []) ∷ [], begun shop_database)
snapshot_alone = ap (λ es. let one : Response = told (select_meaning (shown_by es)) (begun shop_database) in (one.replies ∷ [], one.after)) no_entries
