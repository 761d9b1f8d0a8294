-- What a CREATE statement makes of a sound database is sound: a view of two tables joins them as it should.
use Rattle.std.specs.Prelude.{◌≡◌, ◌≢◌, ℕ, suc, ◌+◌, ◌<◌, ◌==◌, ◌&&◌, not, is_none, Bool, true, false, cond, List, [], ◌∷◌, ◌++◌, length, map, filter, slice_get, Option, Some, None, Ok}
use Rattle.std.specs.List.{AllByRecursion, filter_map, cons_option, flat_map, list_any, list_all}
use Rattle.std.specs.Option.{option_map, option_map_or, unwrap_or}
use mathlib.Core.Path.{refl, sym, ap, subst, ◌∙◌}
use Rattle.std.proofs.Common.{inl, inr, eq-eqb, eqb-true}
use Rattle.std.proofs.lemmas.List.{length-map}
use Rattle.std.proofs.lemmas.List.Elements.{All-from_recursion, recursion_from_All}
use Rattle.iv_types.specs.declared.value.Kind.{Kind}
use Rattle.iv_types.specs.declared.value.Kind.TheVariants.{Int, Huge, Text}
use Rattle.iv_types.specs.declared.refusal.Refusal.TheVariants.{NeedsIndex}
use Rattle.iv_types.specs.declared.statement.ColumnDef.{ColumnDef}
use Rattle.iv_types.specs.declared.catalog.TableDef.{TableDef}
use Rattle.iv_types.specs.declared.catalog.IndexDef.{IndexDef}
use Rattle.iv_types.specs.declared.catalog.Second.{Second}
use Rattle.iv_types.specs.Encoding.{kinds_of}
use Rattle.iv_types.specs.Syntax.{Tree, StatementTree}
use Rattle.iv_meaning.specs.Schema.{Schema, Object, table, index, view, ViewTree, numbered, as_table, as_index, items_at, indexes_of, sources_of}
use Rattle.iv_meaning.specs.Database.{Database}
use Rattle.iv_meaning.specs.Resolving.{how_many, Joined, ResolvedQuery, Resolved}
use Rattle.iv_meaning.specs.Types.{family, is_truth, kinds_seen, item_typed, condition_typed, query_typed, well_typed}
use Rattle.iv_meaning.specs.Shape.{has_arithmetic, terms, joins_by, joins_key, same_kind, both_kinds, is_empty, joins_tables}
use Rattle.iv_meaning.specs.Tests.{joined_with, begins_with, first_index, join_index, Test, tests, is_many_to_one, second_of, lacks_index}
use Rattle.iv_meaning.specs.Binding.{second_kept, made_view, bound_of, bind}
use Rattle.iv_meaning.specs.Resolving as resolving
use Rattle.iv_meaning.specs.Statement as statement
use Rattle.iv_meaning.specs.Sound.{IsSound, IsTable}
use Rattle.query_laws.proofs.Bound.{IsThere, IsQuery, IsResolved, IsPassed, is_bound}
use Rattle.query_laws.proofs.Fitting.{inside}
use Rattle.query_laws.proofs.GroupRows.{some_same}
use Rattle.query_laws.proofs.SoundLemmas.{named_numbered, numbered_more, numbered_cases, same_kinds}
use Rattle.query_laws.proofs.CreatingLemmas.{table_is, sources_are, many_to_one, or_first, of_create, created_law}
use Rattle.txn_machine.specs.ViewLaws.{BeginsWith, primary, secondary, IsJoin, IsJoined, IsTyped}
use Rattle.txn_machine.specs.Laws.{CreatesSound}

and_both : (a b : Bool) → (a && b) ≡ true → (a ≡ true) × (b ≡ true)
and_both true b e = (refl, e)
and_both false b e = absurd (cc)

-- ---- each column of the second table's key is joined once, with a column of its kind

same_kind_is : (k l : Kind) → same_kind k l ≡ true → k ≡ l
same_kind_is Int Int e = refl
same_kind_is Int Huge e = absurd (cc)
same_kind_is Int Text e = absurd (cc)
same_kind_is Huge Int e = absurd (cc)
same_kind_is Huge Huge e = refl
same_kind_is Huge Text e = absurd (cc)
same_kind_is Text Int e = absurd (cc)
same_kind_is Text Huge e = absurd (cc)
same_kind_is Text Text e = refl

both_are : (a b : Option Kind) → both_kinds a b ≡ true → (k : Kind) × (a ≡ Some k) × (b ≡ Some k)
both_are None b e = absurd (cc)
both_are (Some k) None e = absurd (cc)
both_are (Some k) (Some l) e = (k, refl, ap Some (sym (same_kind_is k l e)))

module _ (first second : TableDef) where
  -- the one column of the first table that is joined with a column of the second
  record IsOne (place : ℕ) (joined : List ℕ) : Type 0 where
    column : ℕ
    is : joined ≡ column ∷ []
    kind : Kind
    in_first : slice_get (kinds_of first) column ≡ Some kind
    in_second : slice_get (kinds_of second) place ≡ Some kind

  -- a term joins a column of the key
  abbrev keys_joined : Option (ℕ × ℕ) → Bool
  keys_joined o = option_map_or (λ p. list_any (λ place. place == p.1) second.primary && both_kinds (slice_get (kinds_of first) p.0) (slice_get (kinds_of second) p.1)) o false

  abbrev is_with : ℕ → Option (ℕ × ℕ) → Bool
  is_with place o = option_map_or (λ p. p.1 == place) o false

  joined_once : (place : ℕ) (es : List Tree) → list_all (joins_key first second) es ≡ true → how_many (λ e. is_with place (joins_by e)) es ≡ 1 → IsOne place (joined_with es place)
  joined_once place [] all once = absurd (cc)
  joined_once place (e ∷ es) all once = go (joins_by e) (and_both (joins_key first second e) (list_all (joins_key first second) es) all).0 once (λ more. joined_once place es (and_both (joins_key first second e) (list_all (joins_key first second) es) all).1 more)
    where
      go : (o : Option (ℕ × ℕ)) → keys_joined o ≡ true → cond (is_with place o) (how_many (λ e. is_with place (joins_by e)) es + 1) (how_many (λ e. is_with place (joins_by e)) es) ≡ 1
          → (how_many (λ e. is_with place (joins_by e)) es ≡ 1 → IsOne place (joined_with es place))
          → IsOne place (elim o [ None ↦ joined_with es place | Some p ↦ cond (p.1 == place) (p.0 ∷ []) (joined_with es place) ])
      go None key more rest = rest more
      go (Some p) key more rest = elim (p.1 == place) as (λ b. (p.1 == place) ≡ b → cond b (how_many (λ e. is_with place (joins_by e)) es + 1) (how_many (λ e. is_with place (joins_by e)) es) ≡ 1
          → IsOne place (cond b (p.0 ∷ []) (joined_with es place))) [
            | true ↦ λ t m.
                let kinds = both_are (slice_get (kinds_of first) p.0) (slice_get (kinds_of second) p.1) (and_both (list_any (λ q. q == p.1) second.primary) _ key).1 in
                record { column = p.0; is = refl; kind = kinds.0; in_first = kinds.1; in_second = ap (slice_get (kinds_of second)) (sym (eqb-true p.1 place t)) ∙ kinds.2 }
            | false ↦ λ t m. rest m
          ] refl more

  -- the columns that are joined with some of the second table
  record AreJoined (places joined : List ℕ) : Type 0 where
    in_first : AllByRecursion (λ p. p < length first.columns) joined
    kinds : items_at (kinds_of first) joined ≡ items_at (kinds_of second) places
    all : length joined ≡ length places

  joined_each : (es : List Tree) → list_all (joins_key first second) es ≡ true → (places : List ℕ) → list_all (λ place. how_many (λ e. is_with place (joins_by e)) es == 1) places ≡ true → AreJoined places (flat_map (joined_with es) places)
  joined_each es all [] once = record { in_first = tt; kinds = refl; all = refl }
  joined_each es all (place ∷ places) once =
      let both = and_both (how_many (λ e. is_with place (joins_by e)) es == 1) (list_all (λ place. how_many (λ e. is_with place (joins_by e)) es == 1) places) once in
      let one : IsOne place (joined_with es place) = joined_once place es all (eqb-true (how_many (λ e. is_with place (joins_by e)) es) 1 both.0) in
      let rest : AreJoined places (flat_map (joined_with es) places) = joined_each es all places both.1 in
      subst (λ (l : List ℕ). AreJoined (place ∷ places) (l ++ flat_map (joined_with es) places)) (sym one.is) (record {
        in_first = (subst (λ n. one.column < n) (length-map first.columns (λ (c : ColumnDef). c.kind)) (inside (kinds_of first) one.column one.kind one.in_first), rest.in_first);
        kinds = λ i. cons_option ((one.in_first ∙ sym one.in_second) i) (rest.kinds i);
        all = ap suc rest.all;
      })

-- ---- the index by which a view joins

begins_is : (joined places : List ℕ) → begins_with joined places ≡ true → (more : List ℕ) × (places ≡ joined ++ more)
begins_is [] places e = (places, refl)
begins_is (p ∷ ps) [] e = absurd (cc)
begins_is (p ∷ ps) (q ∷ qs) e =
    let both = and_both (p == q) (begins_with ps qs) e in
    let rest = begins_is ps qs both.1 in
    (rest.0, λ i. sym (eqb-true p q both.0) i ∷ rest.1 i)

module _ (db : Database) (sound : IsSound db) where
  abbrev IsIndexThere : IndexDef → Type 0
  IsIndexThere i = numbered db.schema i.number ≡ Some (index i)

  indexes_there : (objects : List Object) → ((p : ℕ) (i : IndexDef) → slice_get objects p ≡ Some (index i) → IsIndexThere i) → AllByRecursion IsIndexThere (filter_map as_index objects)
  indexes_there [] h = tt
  indexes_there (table u ∷ objects) h = indexes_there objects (λ p x e. h (suc p) x e)
  indexes_there (index i ∷ objects) h = (h 0 i refl, indexes_there objects (λ p x e. h (suc p) x e))
  indexes_there (view v ∷ objects) h = indexes_there objects (λ p x e. h (suc p) x e)

  all_there : AllByRecursion IsIndexThere (filter_map as_index db.schema)
  all_there = indexes_there db.schema (λ p i e. ap (numbered db.schema) (sound.objects (suc p) (index i) e).0 ∙ e)

  module _ (first : TableDef) (joined : List ℕ) (number : ℕ) where
    abbrev Begins : ℕ → Type 0
    Begins n = BeginsWith db.schema first joined n

    by_first_index : (is : List IndexDef) → AllByRecursion IsIndexThere is → first_index joined (filter (λ i. i.table == first.number) is) ≡ Some number → Begins number
    by_first_index [] h e = absurd (cc)
    by_first_index (i ∷ is) h e =
        let more : List IndexDef = filter (λ i. i.table == first.number) is in
        elim (i.table == first.number) as (λ b. (i.table == first.number) ≡ b → first_index joined (cond b (i ∷ more) more) ≡ Some number → Begins number) [
          | true ↦ λ t f. elim (begins_with joined i.columns) as (λ b. begins_with joined i.columns ≡ b → cond b (Some i.number) (first_index joined more) ≡ Some number → Begins number) [
            | true ↦ λ s g.
                let front = begins_is joined i.columns s in
                subst Begins (some_same i.number number g) (secondary i front.0 h.0 (eqb-true i.table first.number t) front.1)
            | false ↦ λ s g. by_first_index is h.1 g
          ] refl f
          | false ↦ λ t f. by_first_index is h.1 f
        ] refl e

    by_join_index : join_index db.schema first joined ≡ Some number → Begins number
    by_join_index e = elim (begins_with joined first.primary) as (λ b. begins_with joined first.primary ≡ b → cond b (Some first.number) (first_index joined (indexes_of db.schema first.number)) ≡ Some number → Begins number) [
      | true ↦ λ s g. let front = begins_is joined first.primary s in primary front.0 (sym (some_same first.number number g)) front.1
      | false ↦ λ s g. by_first_index (filter_map as_index db.schema) all_there g
    ] refl e

-- ---- more objects

module _ (objects : Schema) (o : Object) where
  abbrev larger : Schema
  larger = objects ++ o ∷ []

  begins_more : (first : TableDef) (joined : List ℕ) (number : ℕ) → BeginsWith objects first joined number → BeginsWith larger first joined number
  begins_more first joined number (primary more is front) = primary more is front
  begins_more first joined number (secondary i more there of front) = secondary i more (numbered_more objects o number (index i) there) of front

  pub join_more : (v : ViewTree) (second : Second) → IsJoin objects v second → IsJoin larger v second
  join_more v second j = record {
    first = j.first;
    other = j.other;
    first_is = numbered_more objects o v.first (table j.first) j.first_is;
    other_is = numbered_more objects o second.table (table j.other) j.other_is;
    differ = j.differ;
    columns = j.columns;
    kinds = j.kinds;
    all = j.all;
    begins = begins_more j.first second.joined second.index j.begins;
  }

  abbrev pub JoinedBy : Schema → ViewTree → Option Second → Type 0
  JoinedBy schema v second = elim second [ None ↦ Unit {0} | Some second ↦ IsJoin schema v second ]

  pub joined_more : (v : ViewTree) (second : Option Second) → JoinedBy objects v second → JoinedBy larger v second
  joined_more v None j = j
  joined_more v (Some second) j = join_more v second j

-- ---- the tables that a view joins

module _ (db : Database) (sound : IsSound db) (v : ViewTree) (first : TableDef) (first_is : v.first ≡ first.number) (first_there : numbered db.schema first.number ≡ Some (table first)) where
  abbrev Joins : Option Second → Type 0
  Joins second = elim second [ None ↦ Unit {0} | Some second ↦ IsJoin db.schema v second ]

  join_is : (second : TableDef) → numbered db.schema second.number ≡ Some (table second) → (on : Tree) → joins_tables (Some first) (Some second) on ≡ true
      → (n : Option ℕ) → join_index db.schema first (flat_map (joined_with (terms on)) second.primary) ≡ n → is_none n ≡ false
      → IsJoin db.schema v (second_kept db.schema first (second, flat_map (joined_with (terms on)) second.primary))
  join_is second there on many None is none = absurd (cc)
  join_is second there on many (Some number) is none =
      let apart = and_both (not (first.number == second.number)) _ many in
      let whole = and_both (list_all (joins_key first second) (terms on)) _ apart.1 in
      let joined : List ℕ = flat_map (joined_with (terms on)) second.primary in
      let are : AreJoined first second second.primary joined = joined_each first second (terms on) whole.0 second.primary whole.1 in
      record {
        first = first;
        other = second;
        first_is = ap (numbered db.schema) first_is ∙ there_first;
        other_is = there;
        differ = λ e. not_same (first.number == second.number) apart.0 (eq-eqb first.number second.number (sym (e ∙ first_is)));
        columns = All-from_recursion (λ p. p < length first.columns) joined are.in_first;
        kinds = are.kinds;
        all = are.all;
        begins = subst (λ (o : Option ℕ). BeginsWith db.schema first joined (unwrap_or o 0)) (sym is) (by_join_index db sound first joined number is);
      }
    where
      there_first : numbered db.schema first.number ≡ Some (table first)
      there_first = first_there

      not_same : (b : Bool) → not b ≡ true → b ≡ true → ⊥
      not_same true n e = absurd (cc)
      not_same false n e = absurd (cc)

  -- the second table, and the columns of the first that are equal to its key
  abbrev second_so : Option TableDef → Tree → Option (TableDef × List ℕ)
  second_so o on = option_map (λ second. (second, flat_map (joined_with (terms on)) second.primary)) o

  abbrev lacks : Option (TableDef × List ℕ) → Bool
  lacks second = option_map_or (λ x. is_none (join_index db.schema first x.1)) second false

  second_joins : (o : Object) → IsThere db.schema o → (on : Tree) → joins_tables (Some first) (as_table o) on ≡ true → lacks (second_so (as_table o) on) ≡ false → Joins (option_map (second_kept db.schema first) (second_so (as_table o) on))
  second_joins (index i) there on many none = absurd (cc)
  second_joins (view w) there on many none = absurd (cc)
  second_joins (table second) there on many none = join_is second (named_numbered db sound there.0 (table second) there.1) on many (join_index db.schema first (flat_map (joined_with (terms on)) second.primary)) refl none

  -- that of a FROM
  abbrev second_in : List Joined → Option (TableDef × List ℕ)
  second_in joins = elim joins [ [] ↦ None | j ∷ js ↦ second_so (as_table j.object) j.on ]

  view_joins : (joins : List Joined) → AllByRecursion (IsThere db.schema) (map (λ (j : Joined). j.object) joins) → is_many_to_one (table first) joins ≡ true → lacks (second_in joins) ≡ false → Joins (option_map (second_kept db.schema first) (second_in joins))
  view_joins [] there many none = tt
  view_joins (j ∷ []) there many none = second_joins j.object there.0 j.on many none
  view_joins (j ∷ other ∷ joins) there many none = absurd (cc)

-- more objects leave a view typed
typed_more : (objects : Schema) (o : Object) (v : ViewTree) → AllByRecursion (IsTable objects) (sources_of v) → IsTyped objects v → IsTyped (objects ++ o ∷ []) v
typed_more objects o v tables t = record {
  grouped = t.grouped;
  condition = λ e is. let c = t.condition e is in (ap (λ (kinds : List (List Kind)). is_truth (family kinds e)) (same_kinds objects o (sources_of v) tables) ∙ c.0, c.1);
}

-- ---- what is created

of_view : (v w : ViewTree) → view v ≡ view w → v ≡ w
of_view v w e = cc

module _ (db : Database) (sound : IsSound db) where
  -- a view joins as it should, is typed, and reads tables
  abbrev IsMade : ViewTree → Type 0
  IsMade v = IsJoined db.schema v × IsTyped db.schema v × AllByRecursion (IsTable db.schema) (sources_of v)

  some_group : {X : Type 0} (xs : List X) → is_empty xs ≡ false → xs ≢ []
  some_group [] some e = absurd (cc)
  some_group (x ∷ xs) some e = cc

  condition_is : (kinds : List (List Kind)) (condition : Option Tree) → condition_typed kinds condition ≡ true → option_map_or has_arithmetic condition false ≡ false
      → (e : Tree) → condition ≡ Some e → (is_truth (family kinds e) ≡ true) × (has_arithmetic e ≡ false)
  condition_is kinds None t a e is = absurd (cc)
  condition_is kinds (Some c) t a e is = subst (λ (x : Tree). (is_truth (family kinds x) ≡ true) × (has_arithmetic x ≡ false)) (some_same c e is) (t, a)

  no_lack : (f : Option TableDef) (q : ResolvedQuery) (first : TableDef) → f ≡ Some first → AllByRecursion IsPassed (elim f as (λ (f : Option TableDef). List Test) [ None ↦ [] | Some first ↦ (lacks_index db.schema first q, NeedsIndex first.name) ∷ [] ])
      → lacks_index db.schema first q ≡ false
  no_lack None q first e passed = absurd (cc)
  no_lack (Some f) q first e passed = subst (λ (x : TableDef). lacks_index db.schema x q ≡ false) (some_same f first e) passed.0

  made_so : (name : List ℕ) (q : ResolvedQuery) (size : ℕ) (first : TableDef) → as_table q.first ≡ Some first → IsQuery db.schema q → query_typed db.schema q ≡ true
      → AllByRecursion IsPassed (tests db.schema size (resolving.view name q)) → (v : ViewTree) → made_view db.schema name q first ≡ view v → IsMade v
  made_so name q size first e is typed passed v same =
      let many = many_to_one db.schema size name q passed in
      let sources = sources_are db sound q is.there first e many in
      let w : ViewTree = record {
        number = length db.schema + 1;
        name = name;
        names = _;
        first = first.number;
        second = option_map (second_kept db.schema first) (second_of q);
        condition = q.condition;
        group = q.group;
        sums = _;
      } in
      let first_is : q.first ≡ table first = table_is q.first first e in
      let joins = view_joins db sound w first refl (named_numbered db sound is.there.0.0 (table first) (is.there.0.1 ∙ ap Some first_is)) q.joins is.there.1
      (subst (λ (o : Object). is_many_to_one o q.joins ≡ true) first_is many) (no_lack (as_table q.first) q first e passed.1.1.1.1.1.1.1.1.1.1.1.1.1.1) in
      let kinds_typed = and_both (list_all (λ i. item_typed (kinds_seen db.schema q) i.item) q.items && list_all (λ j. is_truth (family (kinds_seen db.schema q) j.on)) q.joins) (condition_typed (kinds_seen db.schema q) q.condition) typed in
      subst IsMade (of_view w v same) (
        joins,
        record {
          grouped = some_group q.group (or_first (is_empty q.group) _ passed.1.1.1.1.1.0);
          condition = λ c h.
              let t = condition_is (kinds_seen db.schema q) q.condition kinds_typed.1 passed.1.1.1.1.1.1.0 c h in
              (ap (λ (kinds : List (List Kind)). is_truth (family kinds c)) sources.kinds ∙ t.0, t.1);
        },
        sources.tables,
      )

  by_first : (name : List ℕ) (q : ResolvedQuery) (size : ℕ) (f : Option TableDef) → as_table q.first ≡ f → IsQuery db.schema q → query_typed db.schema q ≡ true
      → AllByRecursion IsPassed (tests db.schema size (resolving.view name q)) → (v : ViewTree)
      → elim f [ None ↦ statement.control | Some first ↦ statement.create (made_view db.schema name q first) ] ≡ statement.create (view v) → IsMade v
  by_first name q size None e is typed passed v same = absurd (cc)
  by_first name q size (Some first) e is typed passed v same = made_so name q size first e is typed passed v (of_create (made_view db.schema name q first) (view v) same)

  created_so : (to : Resolved) (size : ℕ) → IsResolved db.schema to → well_typed db.schema to ≡ true → AllByRecursion IsPassed (tests db.schema size to) → (v : ViewTree) → bound_of db.schema to ≡ statement.create (view v) → IsMade v
  created_so (resolving.view name q) size is typed passed v e = by_first name q size (as_table q.first) refl is typed passed v e
  created_so (resolving.table name columns keys) size is typed passed v e = absurd (cc)
  created_so (resolving.index name target columns) size is typed passed v e = absurd (cc)
  created_so (resolving.insert target tuples) size is typed passed v e = absurd (cc)
  created_so (resolving.update target sets condition) size is typed passed v e = absurd (cc)
  created_so (resolving.delete target condition) size is typed passed v e = absurd (cc)
  created_so (resolving.select q order) size is typed passed v e = absurd (cc)
  created_so resolving.control size is typed passed v e = absurd (cc)

  view_made : (s : StatementTree) (v : ViewTree) → bind db.schema s ≡ Ok (statement.create (view v)) → IsMade v
  view_made s v e = let b = is_bound db.schema s (statement.create (view v)) e in created_so b.to b.size b.is_resolved b.typed b.passed v b.made

pub creates_sound : CreatesSound
creates_sound db s o sound e =
    let plain : IsSound db = record { objects = sound.objects; rows = sound.rows } in
    let created = created_law db plain s o e in
    let New : ViewTree → Type 0 = λ v. o ≡ view v in
    let made : (v : ViewTree) → New v → IsMade db plain v = λ v is. view_made db plain s v (e ∙ ap (λ x. Ok (statement.create x)) is) in
    record {
      objects = created.objects;
      rows = created.rows;
      joins = λ n v there. elim (numbered_cases db.schema o n (view v) there) [
        | inl old ↦ joined_more db.schema o v v.second (sound.joins n v old)
        | inr is ↦ joined_more db.schema o v v.second (made v is.1).0
      ];
      typed = λ n v there. elim (numbered_cases db.schema o n (view v) there) [
        | inl old ↦ typed_more db.schema o v (recursion_from_All (IsTable db.schema) (sources_of v) (sound.objects n (view v) old).1.tables) (sound.typed n v old)
        | inr is ↦ let m = made v is.1 in typed_more db.schema o v m.2 m.1
      ];
    }
