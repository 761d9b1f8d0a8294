-- Which indexes a plan reads by, and that what a SELECT asks for may be read.
use Rattle.std.specs.Prelude.{◌≡◌, ◌⊎◌, true, false, cond, ℕ, suc, ◌+◌, ◌==◌, List, [], ◌∷◌, ◌++◌, map, filter, slice_get, Option, Some, None, is_some}
use Rattle.std.specs.List.{AllByRecursion, filter_map}
use mathlib.Core.Path.{refl, sym, ap, subst, ◌∙◌}
use mathlib.Core.Logic.{inl, inr}
use Rattle.std.proofs.Common.{eqb-true}
use Rattle.iv_types.specs.declared.value.Kind.{Kind}
use Rattle.iv_types.specs.declared.statement.Mode.{Mode}
use Rattle.iv_types.specs.declared.statement.Mode.TheVariants.{Serial, Snapshot}
use Rattle.iv_types.specs.declared.catalog.TableDef.{TableDef}
use Rattle.iv_types.specs.declared.catalog.IndexDef.{IndexDef}
use Rattle.iv_types.specs.declared.lock.LockMode.TheVariants.{Share}
use Rattle.iv_types.specs.declared.lock.Want.{Want}
use Rattle.iv_types.specs.declared.reply.Reply.{Reply}
use Rattle.iv_types.specs.declared.reply.Reply.TheVariants as reply
use Rattle.iv_types.specs.Syntax.{Tree}
use Rattle.iv_meaning.specs.Schema.{Schema, Object, table, index, view, as_index, indexes_of, numbered}
use Rattle.iv_meaning.specs.Database.{Row, Database}
use Rattle.iv_meaning.specs.Query.{Combination, BoundQuery}
use Rattle.iv_meaning.specs.Sound.{IsSound}
use Rattle.iv_meaning.specs.Plan.{ColumnTerm, terms_for, KeyIndex, read_by, Part, part_of, best_of, part_for, parts_from, kinds_for, goes_on}
use Rattle.iv_meaning.specs.Reading.{Program, done as replies_with, fetch, Source, in_key_order, extended, each_extended, reading, program, source_by, source_of, sources_for}
use Rattle.query_laws.proofs.Each.{each_append, each_map, each_to}
use Rattle.query_laws.proofs.ReadingLemmas.{part_index, best_has}
use Rattle.txn_machine.specs.Deltas.{RowChange}
use Rattle.txn_machine.specs.May.{MayPeek}
use Rattle.script_law.specs.Works.{Work, done, refuses, fetches, puts}
use Rattle.statement_law.specs.Selecting.{with_row, replied, reads, select_work}
use Rattle.statement_law.specs.Fitting.{MayReadBy, EachFits}

-- ---- indexes

-- an index by which a table is read: its own, or one that was made of it
abbrev pub IsOf : Schema → TableDef → ℕ → Type 0
IsOf objects t n = (numbered objects n ≡ Some (table t)) ⊎ ((i : IndexDef) × (numbered objects n ≡ Some (index i)) × (i.table ≡ t.number))

module _ (db : Database) (sound : IsSound db) where
  abbrev IsOwn : Object → Type 0
  IsOwn o = (m : ℕ) × (numbered db.schema m ≡ Some o)

  all_own : (objects : List Object) → ((p : ℕ) (o : Object) → slice_get objects p ≡ Some o → IsOwn o) → AllByRecursion IsOwn objects
  all_own [] h = tt
  all_own (o ∷ objects) h = (h 0 o refl, all_own objects (λ p x e. h (suc p) x e))

  -- an index that is defined has its number
  abbrev IsNumbered : IndexDef → Type 0
  IsNumbered i = numbered db.schema i.number ≡ Some (index i)

  indexes_numbered : (objects : List Object) → AllByRecursion IsOwn objects → AllByRecursion IsNumbered (filter_map as_index objects)
  indexes_numbered [] h = tt
  indexes_numbered (table t ∷ objects) h = indexes_numbered objects h.1
  indexes_numbered (index i ∷ objects) h = (ap (numbered db.schema) (sound.objects h.0.0 (index i) h.0.1).0 ∙ h.0.1, indexes_numbered objects h.1)
  indexes_numbered (view v ∷ objects) h = indexes_numbered objects h.1

  of_table : (t : TableDef) (is : List IndexDef) → AllByRecursion IsNumbered is → AllByRecursion (λ (i : IndexDef). IsNumbered i × (i.table ≡ t.number)) (filter (λ (i : IndexDef). i.table == t.number) is)
  of_table t [] h = tt
  of_table t (i ∷ is) h =
      let rest = of_table t is h.1 in
      elim (i.table == t.number) as (λ b. (i.table == t.number) ≡ b → AllByRecursion (λ (i : IndexDef). IsNumbered i × (i.table ≡ t.number)) (cond b (i ∷ filter (λ (i : IndexDef). i.table == t.number) is) (filter (λ (i : IndexDef). i.table == t.number) is))) [
        | true ↦ λ e. ((h.0, eqb-true i.table t.number e), rest)
        | false ↦ λ e. rest
      ] refl

  -- the indexes of a table are of it
  pub read_by_own : (mode : Mode) (n : ℕ) (t : TableDef) → numbered db.schema n ≡ Some (table t) → AllByRecursion (λ (k : KeyIndex). IsOf db.schema t k.number) (read_by db.schema mode (Some (table t)))
  read_by_own mode n t is = (inl (ap (numbered db.schema) (sound.objects n (table t) is).0 ∙ is), others mode)
    where
      others : (mode : Mode) → AllByRecursion (λ (k : KeyIndex). IsOf db.schema t k.number) (elim mode [
        | Serial ↦ map (λ i. record { number = i.number; columns = i.columns }) (indexes_of db.schema t.number)
        | Snapshot ↦ []
      ])
      others Serial =
          each_map (λ (i : IndexDef). IsNumbered i × (i.table ≡ t.number)) (λ (k : KeyIndex). IsOf db.schema t k.number) (λ i. record { number = i.number; columns = i.columns }) (λ i h. inr (i, h.0, h.1)) (indexes_of db.schema t.number)
          (of_table t (filter_map as_index db.schema) (indexes_numbered db.schema (all_own db.schema (λ p o e. (suc p, e)))))
      others Snapshot = tt

-- ---- parts

module _ (objects : Schema) (mode : Mode) (P : ℕ → Type 0) where
  abbrev OfIndex : KeyIndex → Type 0
  OfIndex k = P k.number

  abbrev pub OfPart : Part → Type 0
  OfPart p = P p.index

  best_part : (ps : List Part) → AllByRecursion OfPart ps → AllByRecursion OfPart (best_of ps)
  best_part [] h = tt
  best_part (p ∷ ps) h = (best_has OfPart p ps h.0 h.1, tt)

  pub part_has : (kinds : List (List Kind)) (conditions : List Tree) (source n : ℕ) → AllByRecursion OfIndex (read_by objects mode (numbered objects n)) → AllByRecursion OfPart (part_for objects mode kinds conditions source n)
  part_has kinds conditions source n h =
      let ts : List ColumnTerm = terms_for kinds conditions source in
      best_part (map (part_of ts) (read_by objects mode (numbered objects n)))
      (each_map OfIndex OfPart (part_of ts) (λ k x. subst P (sym (part_index ts k.number k.columns [])) x) (read_by objects mode (numbered objects n)) h)

  pub parts_have : (kinds : List (List Kind)) (conditions : List Tree) (source : ℕ) (ns : List ℕ) → ((n : ℕ) → AllByRecursion OfIndex (read_by objects mode (numbered objects n))) → AllByRecursion OfPart (parts_from objects mode kinds conditions source ns)
  parts_have kinds conditions source [] h = tt
  parts_have kinds conditions source (n ∷ ns) h =
      each_append OfPart (part_for objects mode kinds conditions source n) (parts_from objects mode kinds conditions (source + 1) ns) (part_has kinds conditions source n (h n)) (parts_have kinds conditions (source + 1) ns h)

-- a source reads by its part's index
pub part_kept : (objects : Schema) (p : Part) (o : Option Object) → (source_by objects p o).part ≡ p
part_kept objects p (Some (table t)) = refl
part_kept objects p (Some (index i)) = refl
part_kept objects p (Some (view v)) = refl
part_kept objects p None = refl

-- ---- SELECT

module _ (mode : Mode) (db : Database) where
  abbrev MayRead : ℕ → Type 0
  MayRead n = MayReadBy mode Share (numbered db.schema n)

  -- whatever it is told, it asks for what may be read
  abbrev AsksWell : Program → Type 0
  AsksWell (replies_with replies) = Unit {0}
  AsksWell (fetch i interval more) = MayRead i × ((rows : List Row) → AsksWell (more rows))

  asks_each : (s : Source) (more : List Combination → Program) → MayRead s.part.index → ((found : List Combination) → AsksWell (more found)) → (cs found : List Combination) → AsksWell (each_extended s more cs found)
  asks_each s more here rest [] found = rest found
  asks_each s more here rest (c ∷ cs) found = (here, λ rows. asks_each s more here rest cs (found ++ extended c (in_key_order s.key rows)))

  asks_reading : (query : BoundQuery) (ss : List Source) → AllByRecursion (λ (s : Source). MayRead s.part.index) ss → (found : List Combination) → AsksWell (reading query ss found)
  asks_reading query [] h found = tt
  asks_reading query (s ∷ ss) h found = asks_each s (reading query ss) h.0 (asks_reading query ss h.1) (filter (goes_on query.conditions) found) []

  -- ---- its work

  with_fits : (row : Row) (w : Work) (locks : List Want) (cs : List RowChange) → EachFits mode db w locks cs → EachFits mode db (with_row row w) locks cs
  with_fits row (done listed count) locks cs h = tt
  with_fits row (refuses why) locks cs h = h
  with_fits row (fetches i interval lock f) locks cs h = h
  with_fits row (puts number key new f) locks cs h = h

  replied_fits : (replies : List Reply) (locks : List Want) (cs : List RowChange) → EachFits mode db (replied replies) locks cs
  replied_fits [] locks cs = tt
  replied_fits (reply.Row row ∷ more) locks cs = with_fits row (replied more) locks cs (replied_fits more locks cs)
  replied_fits (reply.Done count ∷ more) locks cs = tt
  replied_fits (reply.Error why ∷ more) locks cs = tt
  replied_fits (r ∷ more) locks cs = replied_fits more locks cs

  reads_fit : (p : Program) → AsksWell p → (locks : List Want) (cs : List RowChange) → EachFits mode db (reads p) locks cs
  reads_fit (replies_with replies) h locks cs = replied_fits replies locks cs
  reads_fit (fetch i interval more) h locks cs = (h.0, reads_fit (more _) (h.1 _) _ cs)

  may_read_table : (m : Mode) (n : ℕ) (t : TableDef) → numbered db.schema n ≡ Some (table t) → MayReadBy m Share (numbered db.schema n)
  may_read_table Serial n t e = ap is_some e
  may_read_table Snapshot n t e = subst MayPeek (sym e) tt

  may_read_view : (m : Mode) (n : ℕ) (v : _) → numbered db.schema n ≡ Some (view v) → MayReadBy m Share (numbered db.schema n)
  may_read_view Serial n v e = ap is_some e
  may_read_view Snapshot n v e = subst MayPeek (sym e) tt

module _ (db : Database) (sound : IsSound db) where
  may_read_of : (t : TableDef) (n : ℕ) → IsOf db.schema t n → MayReadBy Serial Share (numbered db.schema n)
  may_read_of t n (inl e) = ap is_some e
  may_read_of t n (inr h) = ap is_some h.1

  by_object : (mode : Mode) (n : ℕ) (o : Option Object) → numbered db.schema n ≡ o → AllByRecursion (λ (k : KeyIndex). MayReadBy mode Share (numbered db.schema k.number)) (read_by db.schema mode o)
  by_object Serial n (Some (table t)) e = each_to (λ (k : KeyIndex). IsOf db.schema t k.number) (λ (k : KeyIndex). MayReadBy Serial Share (numbered db.schema k.number)) (λ k h. may_read_of t k.number h) (read_by db.schema Serial (Some (table t))) (read_by_own db sound Serial n t e)
  by_object Snapshot n (Some (table t)) e = (may_read_table Snapshot db Snapshot t.number t (ap (numbered db.schema) (sound.objects n (table t) e).0 ∙ e), tt)
  by_object mode n (Some (view v)) e = (may_read_view mode db mode v.number v (ap (numbered db.schema) (sound.objects n (view v) e).0 ∙ e), tt)
  by_object mode n (Some (index i)) e = tt
  by_object mode n None e = tt

  pub select_fits : (mode : Mode) (query : BoundQuery) (locks : List Want) (cs : List RowChange) → EachFits mode db (select_work mode db.schema query) locks cs
  select_fits mode query locks cs =
      let parts : List Part = parts_from db.schema mode (map (kinds_for db.schema) query.relations) query.conditions 0 query.relations in
      reads_fit mode db (program query (sources_for db.schema query mode)) (asks_reading mode db query (map (source_of db.schema) parts)
      (each_map (λ (p : Part). MayReadBy mode Share (numbered db.schema p.index)) (λ (s : Source). MayReadBy mode Share (numbered db.schema s.part.index)) (source_of db.schema)
      (λ p h. subst (λ (q : Part). MayReadBy mode Share (numbered db.schema q.index)) (sym (part_kept db.schema p (numbered db.schema p.index))) h) parts
      (parts_have db.schema mode (λ n. MayReadBy mode Share (numbered db.schema n)) (map (kinds_for db.schema) query.relations) query.conditions 0 query.relations
      (λ n. by_object mode n (numbered db.schema n) refl))) ([] ∷ [])) locks cs
