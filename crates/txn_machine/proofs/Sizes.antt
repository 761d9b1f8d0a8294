-- What is kept and what was entered takes as many bytes after a further definition: each change names a table that there is, or
-- has no row.
use Rattle.std.specs.Prelude.{◌≡◌, ℕ, ◌+◌, List, [], ◌∷◌, ◌++◌, map, length, Option, Some, None}
use Rattle.std.specs.List.{sum, AllByRecursion}
use mathlib.Core.Path.{refl, sym, ap, ◌∙◌}
use Rattle.std.proofs.lemmas.List.{append_assoc, append-nil}
use Rattle.iv_types.specs.declared.value.Kind.{Kind}
use Rattle.table_laws.specs.Place.{Place}
use Rattle.table_laws.specs.Kept.{AreTrue}
use Rattle.iv_meaning.specs.Schema.{Schema, Object, table, numbered, kinds_of_table}
use Rattle.iv_meaning.specs.Database.{Row, Rows, Database}
use Rattle.iv_meaning.specs.Statement.{Kept, sets, defines, keep, keep_all}
use Rattle.iv_meaning.specs.History.{Entry, fold}
use Rattle.iv_meaning.specs.Sound.{IsRow}
use Rattle.txn_machine.specs.Deltas.{RowChange}
use Rattle.txn_machine.specs.Keeping.{KeptStep, Put, Pay, changes_of}
use Rattle.txn_machine.specs.Store.{committed, schema_of, now}
use Rattle.txn_machine.specs.Counts.{perhaps_size, change_size, delta_size, kept_size, set_size, entry_size, size_of_entry}
use Rattle.txn_machine.specs.ViewLaws.{AreSound}
use Rattle.txn_machine.specs.KeptLaws.{SizesLaw}
use Rattle.txn_machine.proofs.Agreeing.{written_at}
use Rattle.txn_machine.proofs.Entered.{AreProper, sound_redo, IsEntryOf, IsHistoryOf}
use Rattle.txn_machine.proofs.Making.{numbered_more, map_same}
use Rattle.txn_machine.proofs.Reached.{reached}

-- the schema is the other with definitions behind it
abbrev Extends : Schema → Schema → Type 0
Extends objects more = (later : Schema) × (more ≡ objects ++ later)

numbered_later : (objects later : Schema) (n : ℕ) (x : Object) → numbered objects n ≡ Some x → numbered (objects ++ later) n ≡ numbered objects n
numbered_later objects [] n x e = ap (λ (l : Schema). numbered l n) (append-nil objects)
numbered_later objects (o ∷ later) n x e =
    let next : numbered (objects ++ o ∷ []) n ≡ numbered objects n = numbered_more objects o n x e in
    sym (ap (λ (l : Schema). numbered l n) (append_assoc objects (o ∷ []) later))
    ∙ (numbered_later (objects ++ o ∷ []) later n x (next ∙ e) ∙ next)

kinds_later : (objects more : Schema) → Extends objects more → (p : Place) (row : Row) → IsRow objects p row → kinds_of_table (numbered more p.0) ≡ kinds_of_table (numbered objects p.0)
kinds_later objects more x p row r = ap (λ (l : Schema). kinds_of_table (numbered l p.0)) x.1 ∙ ap kinds_of_table (numbered_later objects x.0 p.0 (table r.of) r.table_is)

-- the rows before and after, if there are any, are rows of a table
pub record IsOfTable (objects : Schema) (c : RowChange) : Type 0 where
  pub before : (row : Row) → c.before ≡ Some row → IsRow objects c.key row
  pub after : (row : Row) → c.after ≡ Some row → IsRow objects c.key row

module _ (objects more : Schema) (x : Extends objects more) (c : RowChange) where
  part : (o : Option Row) → ((row : Row) → o ≡ Some row → IsRow objects c.key row)
      → perhaps_size (kinds_of_table (numbered more c.key.0)) o ≡ perhaps_size (kinds_of_table (numbered objects c.key.0)) o
  part None r = refl
  part (Some row) r = ap (λ (kinds : List Kind). perhaps_size kinds (Some row)) (kinds_later objects more x c.key row (r row refl))

  change_later : IsOfTable objects c → change_size more c ≡ change_size objects c
  change_later r = λ i. length c.key.1 + part c.before r.before i + part c.after r.after i

-- ---- what is kept

kept_later : (objects more : Schema) → Extends objects more → (base : Rows) (ks : List KeptStep) → AreSound objects base → AreProper objects (changes_of ks) → AreTrue base (changes_of ks)
    → AllByRecursion (λ k. kept_size more k ≡ kept_size objects k) ks
kept_later objects more x base [] s p t = tt
kept_later objects more x base (Put c ds ∷ ks) s p t = (
  ap (λ n. 128 + n + sum (map delta_size ds)) (change_later objects more x c (record {
    before = λ row e. (sound_redo objects base (changes_of ks) s p.1).rows c.key row (sym t.0 ∙ e);
    after = p.0;
  })),
  kept_later objects more x base ks s p.1 t.1,
)
kept_later objects more x base (Pay d ∷ ks) s p t = (refl, kept_later objects more x base ks s p t)

-- ---- what was entered

-- what an entry keeps leaves these definitions, with more behind them
entry_extends : (ks : List Kept) (db : Database) → Extends db.schema (keep_all ks db).schema
entry_extends [] db = ([], sym (append-nil db.schema))
entry_extends (sets c ∷ ks) db = entry_extends ks (keep (sets c) db)
entry_extends (defines o ∷ ks) db =
    let rest = entry_extends ks (keep (defines o) db) in
    (o ∷ rest.0, rest.1 ∙ append_assoc db.schema (o ∷ []) rest.0)

history_extends : (es : List Entry) (db : Database) → Extends db.schema (fold es db).schema
history_extends [] db = ([], sym (append-nil db.schema))
history_extends (e ∷ es) db =
    let first = entry_extends e.kept db in
    let rest = history_extends es (fold (e ∷ []) db) in
    (first.0 ++ rest.0, rest.1 ∙ (ap (λ (l : Schema). l ++ rest.0) first.1 ∙ append_assoc db.schema first.0 rest.0))

sets_later : (one other : Schema) (db : Database) (ks : List Kept) → Extends (keep_all ks db).schema one → Extends (keep_all ks db).schema other → IsEntryOf db ks
    → AllByRecursion (λ k. set_size one k ≡ set_size other k) ks
sets_later one other db [] x y h = tt
sets_later one other db (sets c ∷ ks) x y h =
    let here = entry_extends ks (keep (sets c) db) in
    let right = h.0 in
    let of_table : IsOfTable db.schema c = record {
      before = λ row e. right.sound.rows c.key row (sym right.told ∙ e);
      after = λ row e. right.after.rows c.key row (written_at db.rows c.key c.after c.key refl ∙ e);
    } in (
      ap (λ n. 32 + n) (change_later db.schema one (here.0 ++ x.0, x.1 ∙ (ap (λ (l : Schema). l ++ x.0) here.1 ∙ append_assoc db.schema here.0 x.0)) c of_table
          ∙ sym (change_later db.schema other (here.0 ++ y.0, y.1 ∙ (ap (λ (l : Schema). l ++ y.0) here.1 ∙ append_assoc db.schema here.0 y.0)) c of_table)),
      sets_later one other (keep (sets c) db) ks x y h.1,
    )
sets_later one other db (defines o ∷ ks) x y h = (refl, sets_later one other (keep (defines o) db) ks x y h.1)

entries_later : (one other : Schema) (db : Database) (es : List Entry) → Extends (fold es db).schema one → Extends (fold es db).schema other → IsHistoryOf db es
    → AllByRecursion (λ e. size_of_entry one e ≡ size_of_entry other e) es
entries_later one other db [] x y h = tt
entries_later one other db (e ∷ es) x y h =
    let next : Database = fold (e ∷ []) db in
    let rest = history_extends es next in
    let until : (more : Schema) → Extends (fold es next).schema more → Extends (keep_all e.kept db).schema more =
    λ more z. (rest.0 ++ z.0, z.1 ∙ (ap (λ (l : Schema). l ++ z.0) rest.1 ∙ append_assoc (keep_all e.kept db).schema rest.0 z.0)) in (
      ap (λ l. entry_size + sum l) (map_same (set_size one) (set_size other) e.kept (sets_later one other db e.kept (until one x) (until other y) h.1)),
      entries_later one other next es x y h.2,
    )

pub sizes_law : SizesLaw
sizes_law s r o =
    let g = reached s r in
    let objects : Schema = schema_of s.store in
    let more : Schema = objects ++ o ∷ [] in
    let itself : Extends objects objects = ([], sym (append-nil objects)) in
    let longer : Extends objects more = (o ∷ [], refl) in (
      map_same (size_of_entry more) (size_of_entry objects) s.store.history (entries_later more objects s.store.origin s.store.history longer itself g.history),
      λ i is.
          let t = g.each i is in
          map_same (kept_size more) (kept_size objects) (now s.store i).kept
          (kept_later objects more longer (committed s.store).rows (now s.store i).kept g.sound t.proper (g.stored.told i is)),
    )
