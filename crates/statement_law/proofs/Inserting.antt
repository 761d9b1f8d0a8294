-- An INSERT's work comes to what it means.
use Rattle.std.specs.Prelude.{◌≡◌, ℕ, is_some, cond, List, [], ◌∷◌, ◌++◌, map, length, Option, Some, None}
use Rattle.std.specs.List.{AllByRecursion}
use Rattle.std.specs.Option.{option_map}
use mathlib.Core.Path.{refl, sym, ap, ◌∙◌}
use Rattle.std.proofs.Common.{append-nil, append_assoc}
use Rattle.std.specs.FinMap.{get}
use Rattle.iv_types.specs.declared.catalog.TableDef.{TableDef}
use Rattle.iv_types.specs.declared.refusal.Refusal.TheVariants.{DuplicateKey}
use Rattle.iv_types.specs.Encoding.{kinds_of, FitAll}
use Rattle.iv_types.specs.Intervals.{point}
use Rattle.table_laws.specs.Place.{Place}
use Rattle.table_laws.specs.Kept.{redo}
use Rattle.table_laws.specs.Table.{Change}
use Rattle.iv_meaning.specs.Schema.{table, numbered}
use Rattle.iv_meaning.specs.Database.{Row, Database, key_of, set_row}
use Rattle.iv_meaning.specs.View.{read}
use Rattle.iv_meaning.specs.Statement.{sets, Meaning, Refused, Accepted, insertions, inserted, insert_meaning}
use Rattle.txn_machine.specs.Deltas.{RowChange}
use Rattle.txn_machine.specs.Alone.{with_changes}
use Rattle.txn_machine.specs.ViewLaws.{AreSound}
use Rattle.script_law.specs.Seen.{in_order}
use Rattle.script_law.specs.Works.{Work, alone_on, puts}
use Rattle.statement_law.specs.Inserting.{unless_there, inserts, insert_work}
use Rattle.statement_law.proofs.Rows.{is_sound, point_none, point_some, put_sound}

-- what further changes make of it, where these were made
abbrev after : List RowChange → Option (List (Change Place Row)) → ℕ → Meaning
after cs None count = Refused DuplicateKey
after cs (Some changes) count = Accepted [] count (in_order cs ++ map sets changes)

one_more : (cs : List RowChange) (c d : RowChange) (o : Option (List (Change Place Row))) (count : ℕ) → c ≡ d
    → after (c ∷ cs) o count ≡ after cs (option_map (λ (changes : List (Change Place Row)). d ∷ changes) o) count
one_more cs c d None count e = refl
one_more cs c d (Some changes) count e = ap (Accepted [] count) (append_assoc (in_order cs) (sets c ∷ []) (map sets changes) ∙ ap (λ x. in_order cs ++ sets x ∷ map sets changes) e)

abbrev with_change : TableDef → Row → List (Change Place Row) → List (Change Place Row)
with_change t row changes = record { key = (t.number, key_of t row); before = None; after = Some row } ∷ changes

abbrev put_next : TableDef → Row → List Row → ℕ → Work
put_next t row rows count = puts t.number (key_of t row) (Some row) (λ before. inserts t rows count)

module _ (db : Database) (t : TableDef) (is : numbered db.schema t.number ≡ Some (table t)) where
  inserts_alone : (rows : List Row) (count : ℕ) (cs : List RowChange) → AreSound db.schema (redo cs db.rows) → AllByRecursion (FitAll (kinds_of t)) rows
      → alone_on (inserts t rows count) db cs ≡ after cs (insertions t rows (redo cs db.rows)) count
  inserts_alone [] count cs sound f = ap (Accepted [] count) (sym (append-nil (in_order cs)))
  inserts_alone (row ∷ rows) count cs sound f =
      let c : RowChange = record { key = (t.number, key_of t row); before = get (redo cs db.rows) (t.number, key_of t row); after = Some row } in
      by (inserts_alone rows count (c ∷ cs) (put_sound db.schema (redo cs db.rows) sound t.number t is (key_of t row) (Some row) (refl, f.0)) f.1) (get (redo cs db.rows) (t.number, key_of t row)) refl
    where
      by : alone_on (inserts t rows count) db (record { key = (t.number, key_of t row); before = get (redo cs db.rows) (t.number, key_of t row); after = Some row } ∷ cs)
          ≡ after (record { key = (t.number, key_of t row); before = get (redo cs db.rows) (t.number, key_of t row); after = Some row } ∷ cs) (insertions t rows (set_row (redo cs db.rows) t.number (key_of t row) (Some row))) count
          → (o : Option Row) → get (redo cs db.rows) (t.number, key_of t row) ≡ o
          → alone_on (unless_there (read (with_changes cs db) t.number (point (key_of t row))) (put_next t row rows count)) db cs
          ≡ after cs (cond (is_some (get (redo cs db.rows) (t.number, key_of t row))) None (option_map (with_change t row) (insertions t rows (set_row (redo cs db.rows) t.number (key_of t row) (Some row))))) count
      by rest None e =
          ap (λ l. alone_on (unless_there l (put_next t row rows count)) db cs) (point_none (with_changes cs db) (is_sound (with_changes cs db) sound) t is (key_of t row) e)
          ∙ (rest
          ∙ (one_more cs (record { key = (t.number, key_of t row); before = get (redo cs db.rows) (t.number, key_of t row); after = Some row }) (record { key = (t.number, key_of t row); before = None; after = Some row })
          (insertions t rows (set_row (redo cs db.rows) t.number (key_of t row) (Some row))) count (λ i. record { key = (t.number, key_of t row); before = e i; after = Some row })
          ∙ sym (ap (λ (o : Option Row). after cs (cond (is_some o) None (option_map (with_change t row) (insertions t rows (set_row (redo cs db.rows) t.number (key_of t row) (Some row))))) count) e)))
      by rest (Some r) e =
          refused (read (with_changes cs db) t.number (point (key_of t row))) (point_some (with_changes cs db) (is_sound (with_changes cs db) sound) t is (key_of t row) r e)
          ∙ sym (ap (λ (o : Option Row). after cs (cond (is_some o) None (option_map (with_change t row) (insertions t rows (set_row (redo cs db.rows) t.number (key_of t row) (Some row))))) count) e)
        where
          refused : (l : List Row) → (l ≡ [] → ⊥) → alone_on (unless_there l (put_next t row rows count)) db cs ≡ Refused DuplicateKey
          refused [] h = absurd (h refl)
          refused (x ∷ l) h = refl

  ends : (o : Option (List (Change Place Row))) (count : ℕ) → after [] o count ≡ inserted o count
  ends None count = refl
  ends (Some changes) count = refl

  pub insert_right : AreSound db.schema db.rows → (o : Option (List Row)) → ((rows : List Row) → o ≡ Some rows → AllByRecursion (FitAll (kinds_of t)) rows)
      → alone_on (insert_work t o) db [] ≡ insert_meaning t o db.rows
  insert_right sound None f = refl
  insert_right sound (Some rows) f = inserts_alone rows (length rows) [] sound (f rows refl) ∙ ends (insertions t rows db.rows) (length rows)
