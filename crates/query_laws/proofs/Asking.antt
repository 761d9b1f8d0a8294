-- A SELECT that is read by its plan asks only for intervals of objects that there are.
use Rattle.std.specs.Prelude.{◌≡◌, ℕ, suc, ◌+◌, ◌==◌, List, [], ◌∷◌, ◌++◌, map, filter, slice_get, Option, Some, None, IsSome, is_some}
use Rattle.std.specs.List.{AllByRecursion, filter_map}
use mathlib.Core.Path.{refl, sym, ap, subst, ◌∙◌}
use Rattle.iv_types.specs.declared.value.Kind.{Kind}
use Rattle.iv_types.specs.declared.statement.Mode.{Mode}
use Rattle.iv_types.specs.declared.statement.Mode.TheVariants.{Serial, Snapshot}
use Rattle.iv_types.specs.declared.catalog.TableDef.{TableDef}
use Rattle.iv_types.specs.declared.catalog.IndexDef.{IndexDef}
use Rattle.iv_types.specs.Syntax.{Tree}
use Rattle.iv_meaning.specs.Schema.{Schema, Object, table, index, view, as_index, indexes_of, numbered}
use Rattle.iv_meaning.specs.Database.{Database}
use Rattle.iv_meaning.specs.Query.{Combination, BoundQuery}
use Rattle.iv_meaning.specs.Sound.{IsSound}
use Rattle.iv_meaning.specs.Plan.{ColumnTerm, terms_for, KeyIndex, read_by, Part, part_of, best_of, part_for, parts_from, kinds_for, goes_on}
use Rattle.iv_meaning.specs.Reading.{Program, Source, in_key_order, extended, each_extended, reading, source_by, source_of}
use Rattle.query_laws.specs.Laws.{Asks, AskingLaw}
use Rattle.query_laws.proofs.Each.{each_append, each_filtered, each_map}
use Rattle.query_laws.proofs.ReadingLemmas.{part_index, best_has}

abbrev IsThere : Schema → ℕ → Type 0
IsThere objects n = IsSome (numbered objects n)

-- ---- programs

asks_each : (objects : Schema) (s : Source) (more : List Combination → Program) → IsThere objects s.part.index → ((found : List Combination) → Asks objects (more found))
    → (cs found : List Combination) → Asks objects (each_extended s more cs found)
asks_each objects s more here rest [] found = rest found
asks_each objects s more here rest (c ∷ cs) found = (here, λ rows. asks_each objects s more here rest cs (found ++ extended c (in_key_order s.key rows)))

asks_reading : (objects : Schema) (query : BoundQuery) (ss : List Source) → AllByRecursion (λ (s : Source). IsThere objects s.part.index) ss
    → (found : List Combination) → Asks objects (reading query ss found)
asks_reading objects query [] h found = tt
asks_reading objects query (s ∷ ss) h found = asks_each objects s (reading query ss) h.0 (asks_reading objects query ss h.1) (filter (goes_on query.conditions) found) []

-- ---- the indexes of a sound database

there : (objects : Schema) (n : ℕ) (o : Object) → numbered objects n ≡ Some o → IsThere objects n
there objects n o e = ap is_some e

module _ (db : Database) (sound : IsSound db) where
  abbrev IsOwn : Object → Type 0
  IsOwn o = (m : ℕ) × (numbered db.schema m ≡ Some o)

  all_own : (objects : List Object) → ((p : ℕ) (o : Object) → slice_get objects p ≡ Some o → IsOwn o) → AllByRecursion IsOwn objects
  all_own [] h = tt
  all_own (o ∷ objects) h = (h 0 o refl, all_own objects (λ p x e. h (suc p) x e))

  index_there : (i : IndexDef) → IsOwn (index i) → IsThere db.schema i.number
  index_there i own = there db.schema i.number (index i) (ap (numbered db.schema) (sound.objects own.0 (index i) own.1).0 ∙ own.1)

  indexes_there : (objects : List Object) → AllByRecursion IsOwn objects → AllByRecursion (λ (i : IndexDef). IsThere db.schema i.number) (filter_map as_index objects)
  indexes_there [] h = tt
  indexes_there (table t ∷ objects) h = indexes_there objects h.1
  indexes_there (index i ∷ objects) h = (index_there i h.0, indexes_there objects h.1)
  indexes_there (view v ∷ objects) h = indexes_there objects h.1

  abbrev KeyIsThere : KeyIndex → Type 0
  KeyIsThere k = IsThere db.schema k.number

  others_there : (mode : Mode) (t : TableDef) → AllByRecursion KeyIsThere (elim mode [
    | Serial ↦ map (λ i. record { number = i.number; columns = i.columns }) (indexes_of db.schema t.number)
    | Snapshot ↦ []
  ])
  others_there Serial t =
      each_map (λ (i : IndexDef). IsThere db.schema i.number) KeyIsThere (λ i. record { number = i.number; columns = i.columns }) (λ i h. h) (indexes_of db.schema t.number)
      (each_filtered (λ (i : IndexDef). IsThere db.schema i.number) (λ i. i.table == t.number) (filter_map as_index db.schema)
      (indexes_there db.schema (all_own db.schema (λ p o e. (suc p, e)))))
  others_there Snapshot t = tt

  by_object : (mode : Mode) (n : ℕ) (o : Option Object) → numbered db.schema n ≡ o → AllByRecursion KeyIsThere (read_by db.schema mode o)
  by_object mode n (Some (table t)) e = (there db.schema t.number (table t) (ap (numbered db.schema) (sound.objects n (table t) e).0 ∙ e), others_there mode t)
  by_object mode n (Some (view v)) e = (there db.schema v.number (view v) (ap (numbered db.schema) (sound.objects n (view v) e).0 ∙ e), tt)
  by_object mode n (Some (index i)) e = tt
  by_object mode n None e = tt

  -- ---- plans

  abbrev PartIsThere : Part → Type 0
  PartIsThere p = IsThere db.schema p.index

  best_there : (ps : List Part) → AllByRecursion PartIsThere ps → AllByRecursion PartIsThere (best_of ps)
  best_there [] h = tt
  best_there (p ∷ ps) h = (best_has PartIsThere p ps h.0 h.1, tt)

  part_there : (mode : Mode) (kinds : List (List Kind)) (conditions : List Tree) (source n : ℕ) → AllByRecursion PartIsThere (part_for db.schema mode kinds conditions source n)
  part_there mode kinds conditions source n =
      let ts : List ColumnTerm = terms_for kinds conditions source in
      best_there (map (part_of ts) (read_by db.schema mode (numbered db.schema n)))
      (each_map KeyIsThere PartIsThere (part_of ts) (λ k h. subst (IsThere db.schema) (sym (part_index ts k.number k.columns [])) h)
      (read_by db.schema mode (numbered db.schema n)) (by_object mode n (numbered db.schema n) refl))

  parts_there : (mode : Mode) (kinds : List (List Kind)) (conditions : List Tree) (source : ℕ) (ns : List ℕ) → AllByRecursion PartIsThere (parts_from db.schema mode kinds conditions source ns)
  parts_there mode kinds conditions source [] = tt
  parts_there mode kinds conditions source (n ∷ ns) =
      each_append PartIsThere (part_for db.schema mode kinds conditions source n) (parts_from db.schema mode kinds conditions (source + 1) ns)
      (part_there mode kinds conditions source n) (parts_there mode kinds conditions (source + 1) ns)

-- a source reads by its part's index
part_kept : (objects : Schema) (p : Part) (o : Option Object) → (source_by objects p o).part ≡ p
part_kept objects p (Some (table t)) = refl
part_kept objects p (Some (index i)) = refl
part_kept objects p (Some (view v)) = refl
part_kept objects p None = refl

pub asking_law : AskingLaw
asking_law db sound query mode =
    let parts : List Part = parts_from db.schema mode (map (kinds_for db.schema) query.relations) query.conditions 0 query.relations in
    asks_reading db.schema query (map (source_of db.schema) parts)
    (each_map (PartIsThere db sound) (λ (s : Source). IsThere db.schema s.part.index) (source_of db.schema)
    (λ p h. subst (λ (q : Part). IsThere db.schema q.index) (sym (part_kept db.schema p (numbered db.schema p.index))) h) parts
    (parts_there db sound mode (map (kinds_for db.schema) query.relations) query.conditions 0 query.relations)) ([] ∷ [])
