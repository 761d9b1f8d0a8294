-- The works of UPDATE and DELETE come to what these mean.
use Rattle.std.specs.Prelude.{◌≡◌, ◌≢◌, ℕ, List, [], ◌∷◌, ◌++◌, map, filter, length, Option, Some, None}
use Rattle.std.specs.List.{AllByRecursion}
use Rattle.std.specs.Option.{option_to_list}
use mathlib.Core.Path.{refl, sym, ap, subst, ◌∙◌}
use Rattle.std.proofs.Common.{append-nil, append_assoc}
use Rattle.std.specs.FinMap.{get}
use Rattle.iv_types.specs.declared.catalog.TableDef.{TableDef}
use Rattle.iv_types.specs.declared.statement.Mode.{Mode}
use Rattle.iv_types.specs.Syntax.{Tree}
use Rattle.table_laws.specs.Place.{Place}
use Rattle.table_laws.specs.Kept.{redo}
use Rattle.table_laws.specs.Table.{Change}
use Rattle.iv_meaning.specs.Schema.{table, numbered}
use Rattle.iv_meaning.specs.Database.{Row, Database, rows_of, key_of}
use Rattle.iv_meaning.specs.Values.{is_true}
use Rattle.iv_meaning.specs.Query.{conjunction}
use Rattle.iv_meaning.specs.Grouping.{all_of}
use Rattle.iv_meaning.specs.Statement.{BoundSet, update, delete, sets, Accepted, matching, row_after, change_to, pairs, is_changed, updated, update_meaning, delete_meaning}
use Rattle.iv_meaning.specs.Reading.{source_of}
use Rattle.query_laws.proofs.Each.{each_filtered}
use Rattle.query_laws.proofs.WholeViews.{chosen_is}
use Rattle.txn_machine.specs.Deltas.{RowChange}
use Rattle.txn_machine.specs.ViewLaws.{AreSound}
use Rattle.txn_machine.proofs.Agreeing.{written_other}
use Rattle.script_law.specs.Seen.{in_order}
use Rattle.script_law.specs.Works.{alone_on}
use Rattle.statement_law.specs.Changing.{on_interval, by_plan, chosen_by, puts_all, set_to, taken_out, updates, update_rows, delete_rows}
use Rattle.statement_law.proofs.Rows.{is_sound, Apart, apart_filter, of_listed, rows_apart}
use Rattle.statement_law.proofs.Plans.{one_part, passes_listed}

-- ---- rows and what becomes of them

-- a row that is there, under its key
abbrev pub IsThere : Database → TableDef → List RowChange → Row → Type 0
IsThere db t cs row = get (redo cs db.rows) (t.number, key_of t row) ≡ Some row

abbrev pub row_key : TableDef → Row × Option Row → List ℕ
row_key t p = key_of t p.0

abbrev pub changes_to : TableDef → List (Row × Option Row) → List (Change Place Row)
changes_to t ps = map (λ p. change_to t p.0 p.1) ps

-- rows of other keys stay
pub still_there : (db : Database) (t : TableDef) (cs : List RowChange) (row : Row) (before new : Option Row) (ps : List (Row × Option Row)) → AllByRecursion (λ p. row_key t p ≢ key_of t row) ps
    → AllByRecursion (λ p. IsThere db t cs p.0) ps → AllByRecursion (λ p. IsThere db t (record { key = (t.number, key_of t row); before = before; after = new } ∷ cs) p.0) ps
still_there db t cs row before new [] a h = tt
still_there db t cs row before new (p ∷ ps) a h = (
  written_other (redo cs db.rows) (t.number, key_of t row) new (t.number, row_key t p) (λ e. a.0 (ap (λ (q : Place). q.1) e)) ∙ h.0,
  still_there db t cs row before new ps a.1 h.1,
)

puts_alone : (db : Database) (t : TableDef) (ps : List (Row × Option Row)) (count : ℕ) (cs : List RowChange) → Apart (row_key t) ps → AllByRecursion (λ p. IsThere db t cs p.0) ps
    → alone_on (puts_all t ps count) db cs ≡ Accepted [] count (in_order cs ++ map sets (changes_to t ps))
puts_alone db t [] count cs a h = ap (Accepted [] count) (sym (append-nil (in_order cs)))
puts_alone db t (p ∷ ps) count cs a h =
    let c : RowChange = record { key = (t.number, row_key t p); before = get (redo cs db.rows) (t.number, row_key t p); after = p.1 } in
    puts_alone db t ps count (c ∷ cs) a.1 (still_there db t cs p.0 c.before p.1 ps a.0 h.1)
    ∙ ap (Accepted [] count) (append_assoc (in_order cs) (sets c ∷ []) (map sets (changes_to t ps))
    ∙ (λ i. in_order cs ++ sets (record { key = (t.number, row_key t p); before = h.0 i; after = p.1 }) ∷ map sets (changes_to t ps)))

-- ---- rows that are set, and rows that are taken out

pub apart_set : (t : TableDef) (ps : List (Row × Row)) → Apart (λ (p : Row × Row). key_of t p.0) ps → Apart (row_key t) (map set_to ps)
apart_set t [] a = tt
apart_set t (p ∷ ps) a = (all ps a.0, apart_set t ps a.1)
  where
    all : (qs : List (Row × Row)) → AllByRecursion (λ (q : Row × Row). key_of t q.0 ≢ key_of t p.0) qs → AllByRecursion (λ q. row_key t q ≢ key_of t p.0) (map set_to qs)
    all [] h = tt
    all (q ∷ qs) h = (h.0, all qs h.1)

pub each_set : (P : Row → Type 0) (ps : List (Row × Row)) → AllByRecursion (λ (p : Row × Row). P p.0) ps → AllByRecursion (λ (p : Row × Option Row). P p.0) (map set_to ps)
each_set P [] h = tt
each_set P (p ∷ ps) h = (h.0, each_set P ps h.1)

pub each_pair : (P : Row → Type 0) (rows others : List Row) → AllByRecursion P rows → AllByRecursion (λ (p : Row × Row). P p.0) (pairs rows others)
each_pair P [] others h = tt
each_pair P (row ∷ rows) [] h = tt
each_pair P (row ∷ rows) (other ∷ others) h = (h.0, each_pair P rows others h.1)

pub apart_pairs : (key : Row → List ℕ) (rows others : List Row) → Apart key rows → Apart (λ (p : Row × Row). key p.0) (pairs rows others)
apart_pairs key [] others a = tt
apart_pairs key (row ∷ rows) [] a = tt
apart_pairs key (row ∷ rows) (other ∷ others) a = (each_pair (λ r. key r ≢ key row) rows others a.0, apart_pairs key rows others a.1)

pub each_out : (P : Row → Type 0) (rows : List Row) → AllByRecursion P rows → AllByRecursion (λ (p : Row × Option Row). P p.0) (map taken_out rows)
each_out P [] h = tt
each_out P (row ∷ rows) h = (h.0, each_out P rows h.1)

pub apart_out : (t : TableDef) (rows : List Row) → Apart (key_of t) rows → Apart (row_key t) (map taken_out rows)
apart_out t [] a = tt
apart_out t (row ∷ rows) a = (each_out (λ r. key_of t r ≢ key_of t row) rows a.0, apart_out t rows a.1)

sets_are : (t : TableDef) (ps : List (Row × Row)) → map sets (changes_to t (map set_to ps)) ≡ map (λ p. sets (change_to t p.0 (Some p.1))) ps
sets_are t [] = refl
sets_are t (p ∷ ps) = ap (λ l. sets (change_to t p.0 (Some p.1)) ∷ l) (sets_are t ps)

outs_are : (t : TableDef) (rows : List Row) → map sets (changes_to t (map taken_out rows)) ≡ map (λ row. sets (change_to t row None)) rows
outs_are t [] = refl
outs_are t (row ∷ rows) = ap (λ l. sets (change_to t row None) ∷ l) (outs_are t rows)

-- ---- statements

module _ (db : Database) (t : TableDef) where
  update_alone : (ss : List BoundSet) (o : Option (List Row)) → ((rows : List Row) → o ≡ Some rows → Apart (key_of t) rows × AllByRecursion (IsThere db t []) rows)
      → alone_on (update_rows t ss o) db [] ≡ update_meaning t ss o
  update_alone ss None h = refl
  update_alone ss (Some rows) h = by (all_of (map (row_after t ss) rows)) (h rows refl)
    where
      by : (o : Option (List Row)) → Apart (key_of t) rows × AllByRecursion (IsThere db t []) rows → alone_on (updates t rows o) db [] ≡ updated t rows o
      by None a = refl
      by (Some others) a =
          puts_alone db t (map set_to (filter is_changed (pairs rows others))) (length rows) []
          (apart_set t (filter is_changed (pairs rows others)) (apart_filter (λ (p : Row × Row). key_of t p.0) is_changed (pairs rows others) (apart_pairs (key_of t) rows others a.0)))
          (each_set (IsThere db t []) (filter is_changed (pairs rows others)) (each_filtered (λ (p : Row × Row). IsThere db t [] p.0) is_changed (pairs rows others) (each_pair (IsThere db t []) rows others a.1)))
          ∙ ap (Accepted [] (length rows)) (sets_are t (filter is_changed (pairs rows others)))

  delete_alone : (o : Option (List Row)) → ((rows : List Row) → o ≡ Some rows → Apart (key_of t) rows × AllByRecursion (IsThere db t []) rows)
      → alone_on (delete_rows t o) db [] ≡ delete_meaning t o
  delete_alone None h = refl
  delete_alone (Some rows) h =
      let a = h rows refl in
      puts_alone db t (map taken_out rows) (length rows) [] (apart_out t rows a.0) (each_out (IsThere db t []) rows a.1) ∙ ap (Accepted [] (length rows)) (outs_are t rows)

  module _ (sound : AreSound db.schema db.rows) (is : numbered db.schema t.number ≡ Some (table t)) where
    -- rows that pass are there, under different keys
    pub matching_there : (condition : Option Tree) (rows : List Row) → matching t condition db.rows ≡ Some rows → Apart (key_of t) rows × AllByRecursion (IsThere db t []) rows
    matching_there condition rows e =
        let test = λ (row : Row). is_true (conjunction (option_to_list condition) (row ∷ [])) in
        let same = chosen_is (λ (row : Row). conjunction (option_to_list condition) (row ∷ [])) (rows_of db.rows t.number) rows e in
        subst (λ l. Apart (key_of t) l × AllByRecursion (IsThere db t []) l) (sym same) (
          apart_filter (key_of t) test (rows_of db.rows t.number) (rows_apart db (is_sound db sound) t is),
          each_filtered (IsThere db t []) test (rows_of db.rows t.number) (of_listed db (is_sound db sound) t is (IsThere db t []) (λ row there. there)),
        )

    pub update_right : (mode : Mode) (ss : List BoundSet) (condition : Option Tree)
        → alone_on (by_plan mode db.schema (update t.number ss condition) (λ rows. update_rows t ss (chosen_by condition rows))) db [] ≡ update_meaning t ss (matching t condition db.rows)
    update_right mode ss condition =
        ap (λ ps. alone_on (on_interval (map (source_of db.schema) ps) (λ rows. update_rows t ss (chosen_by condition rows))) db []) (one_part db (is_sound db sound) mode t.number t is condition)
        ∙ (ap (λ o. alone_on (update_rows t ss o) db []) (passes_listed db (is_sound db sound) mode t.number t is condition)
        ∙ update_alone ss (matching t condition db.rows) (λ rows e. matching_there condition rows e))

    pub delete_right : (mode : Mode) (condition : Option Tree)
        → alone_on (by_plan mode db.schema (delete t.number condition) (λ rows. delete_rows t (chosen_by condition rows))) db [] ≡ delete_meaning t (matching t condition db.rows)
    delete_right mode condition =
        ap (λ ps. alone_on (on_interval (map (source_of db.schema) ps) (λ rows. delete_rows t (chosen_by condition rows))) db []) (one_part db (is_sound db sound) mode t.number t is condition)
        ∙ (ap (λ o. alone_on (delete_rows t o) db []) (passes_listed db (is_sound db sound) mode t.number t is condition)
        ∙ delete_alone (matching t condition db.rows) (λ rows e. matching_there condition rows e))
