-- What is known of a statement that is bound: its names stand for objects and places, and no test of it fails.
use Rattle.std.specs.Prelude.{◌≡◌, ℕ, zero, suc, ◌+◌, ◌≤◌, ◌<◌, ◌==◌, ◌&&◌, not, Bool, true, false, cond, List, [], ◌∷◌, ◌++◌, length, map, filter, slice_get, Option, Some, None, Result, Ok, Err, if◌then◌else◌}
use Rattle.std.specs.List.{AllByRecursion}
use Rattle.std.specs.Option.{option_map_or}
use Rattle.std.specs.Str.{bytes_eq}
use mathlib.Core.Path.{refl, sym, ap, subst, ◌∙◌}
use Rattle.std.proofs.Common.{arith, append_assoc, length-append}
use Rattle.std.proofs.lemmas.List.{length-map}
use Rattle.iv_types.specs.declared.value.Kind.{Kind}
use Rattle.iv_types.specs.declared.refusal.Refusal.{Refusal}
use Rattle.iv_types.specs.declared.refusal.Refusal.TheVariants.{UnknownName, WrongType}
use Rattle.iv_types.specs.declared.expression.ColumnAt.{ColumnAt}
use Rattle.iv_types.specs.declared.expression.Ref.{Ref}
use Rattle.iv_types.specs.declared.statement.ColumnDef.{ColumnDef}
use Rattle.iv_types.specs.declared.statement.Relation.{Relation}
use Rattle.iv_types.specs.Printing.{statement_size}
use Rattle.iv_types.specs.Syntax as s
use Rattle.iv_types.specs.Syntax.{Tree, StatementTree, QueryTree, JoinTree}
use Rattle.iv_meaning.specs.Schema.{Schema, Object, named, object_columns, object_kinds}
use Rattle.iv_meaning.specs.Resolving.{how_many, NamedItem, and_then, each, perhaps, Column, Scope, columns_from, columns_seen, called, scope_from, scope_of_one, only, places_where, column_by, column_of, place_of, expression, known, new_object, fresh, Joined, ResolvedQuery, items_resolved, source, joins_resolved, query_resolved, Resolved, table, index, view, insert, update, delete, select, control, assignment, resolved}
use Rattle.iv_meaning.specs.Types.{sources_of, kinds_seen, well_typed}
use Rattle.iv_meaning.specs.Tests.{Test, tests}
use Rattle.iv_meaning.specs.Binding.{bound_of, refuse_if, passing, checked, bind}
use Rattle.iv_meaning.specs.Statement.{BoundTree, BoundSet}
use Rattle.query_laws.proofs.Each.{each_append, each_to, each_filtered, each_map}
use Rattle.query_laws.proofs.GroupRows.{IsKnown}
use Rattle.query_laws.proofs.TermLemmas.{get_behind}

-- ---- steps that came to their end

-- both steps came to their end
pub went_on : {A B : Type 0} (r : Result A Refusal) (more : A → Result B Refusal) (b : B) → and_then r more ≡ Ok b → (a : A) × (r ≡ Ok a) × (more a ≡ Ok b)
went_on (Ok a) more b e = (a, refl, e)
went_on (Err why) more b e = absurd (cc)

abbrev granted : {A : Type 0} → A → Result A Refusal
granted a = Ok a

pub ok_same : {A : Type 0} (a b : A) → granted a ≡ granted b → a ≡ b
ok_same a b e = cc

-- what each step gives holds of each
pub each_so : {X A : Type 0} (f : X → Result A Refusal) (P : A → Type 0) → ((x : X) (a : A) → f x ≡ Ok a → P a) → (xs : List X) (made : List A) → each f xs ≡ Ok made → AllByRecursion P made
each_so f P h [] made e = subst (AllByRecursion P) (ok_same [] made e) tt
each_so f P h (x ∷ xs) made e =
    let first = went_on (f x) (λ a. and_then (each f xs) (λ more. Ok (a ∷ more))) made e in
    let rest = went_on (each f xs) (λ more. Ok (first.0 ∷ more)) made first.2 in
    subst (AllByRecursion P) (ok_same (first.0 ∷ rest.0) made rest.2) (h x first.0 first.1, each_so f P h xs rest.0 rest.1)

-- ---- columns

module _ (P : ColumnAt → Type 0) where
  only_so : (places : List ColumnAt) (name : List ℕ) (place : ColumnAt) → only places name ≡ Ok place → AllByRecursion P places → P place
  only_so [] name place e h = absurd (cc)
  only_so (p ∷ []) name place e h = subst P (ok_same p place e) h.0
  only_so (p ∷ q ∷ places) name place e h = absurd (cc)

  module _ (scope : Scope) (all : AllByRecursion (λ (c : Column). P c.place) scope.columns) where
    where_so : (test : Column → Bool) → AllByRecursion P (places_where test scope)
    where_so test = each_map (λ (c : Column). P c.place) P (λ (c : Column). c.place) (λ c h. h) (filter test scope.columns) (each_filtered (λ (c : Column). P c.place) test scope.columns all)

    -- what holds of the place of each column holds of that of a name
    column_so : (qualifier : Option (List ℕ)) (name : List ℕ) (place : ColumnAt) → column_by scope qualifier name ≡ Ok place → P place
    column_so None name place e = only_so (places_where (λ c. bytes_eq name c.name) scope) name place e (where_so (λ c. bytes_eq name c.name))
    column_so (Some q) name place e = by (how_many (bytes_eq q) scope.relations == 1) e
      where
        by : (b : Bool) → cond b (only (places_where (λ c. bytes_eq q c.relation && bytes_eq name c.name) scope) name) (Err (UnknownName q)) ≡ Ok place → P place
        by true f = only_so (places_where (λ c. bytes_eq q c.relation && bytes_eq name c.name) scope) name place f (where_so (λ c. bytes_eq q c.relation && bytes_eq name c.name))
        by false f = absurd (cc)

-- the places of a relation's columns are within it
from_within : (relation : List ℕ) (source column : ℕ) (names : List (List ℕ)) → AllByRecursion (λ (c : Column). c.place.column < column + length names) (columns_from relation source column names)
from_within relation source column [] = tt
from_within relation source column (name ∷ names) = (
  omega arith,
  each_to (λ (c : Column). c.place.column < (column + 1) + length names) (λ (c : Column). c.place.column < column + length (name ∷ names)) (λ c h. omega (arith, h))
      (columns_from relation source (column + 1) names) (from_within relation source (column + 1) names),
)

-- the place of a name in one relation is within it
pub place_within : (name : List ℕ) (columns : List (List ℕ)) (of : List ℕ) (place : ℕ) → place_of (scope_of_one name columns) of ≡ Ok place → place < length columns
place_within name columns of place e =
    let found = went_on (column_by (scope_of_one name columns) None of) (λ p. Ok p.column) place e in
    let less : found.0.column < 0 + length columns = column_so (λ p. p.column < 0 + length columns) (scope_of_one name columns) (from_within name 0 0 columns) None of found.0 found.1 in
    subst (λ n. n < length columns) (ok_same found.0.column place found.2) (omega (arith, less))

-- a kind for each column
abbrev pub HasKinds : Schema → Object → Type 0
HasKinds objects o = length (object_columns o) ≡ length (object_kinds objects o)

-- relations that stand for these objects
abbrev pub StandFor : Schema → List Relation → List Object → Type 0
StandFor objects [] [] = Unit {0}
StandFor objects (r ∷ rs) (o ∷ os) = (named objects r.name ≡ Some o) × StandFor objects rs os
StandFor objects _ _ = ⊥

get_some : {X : Type 0} (xs : List X) (i : ℕ) → i < length xs → (x : X) × (slice_get xs i ≡ Some x)
get_some [] i lt = absurd (omega arith)
get_some (x ∷ xs) zero lt = (x, refl)
get_some (x ∷ xs) (suc i) lt = get_some xs i (omega arith)

known_at : (before after : List (List Kind)) (ks : List Kind) (p : ColumnAt) → p.source ≡ length before → p.column < length ks → IsKnown (before ++ ks ∷ after) p
known_at before after ks p at lt =
    let found = get_some ks p.column lt in
    (found.0, ap (λ (o : Option (List Kind)). elim o [ None ↦ None | Some l ↦ slice_get l p.column ]) (ap (slice_get (before ++ ks ∷ after)) at ∙ get_behind before after ks) ∙ found.1)

from_known : (before after : List (List Kind)) (ks : List Kind) (relation : List ℕ) (source column : ℕ) → source ≡ length before → (names : List (List ℕ)) → column + length names ≤ length ks
    → AllByRecursion (λ (c : Column). IsKnown (before ++ ks ∷ after) c.place) (columns_from relation source column names)
from_known before after ks relation source column at [] le = tt
from_known before after ks relation source column at (name ∷ names) le =
    (known_at before after ks (record { source = source; column = column }) at (omega (arith, le)), from_known before after ks relation source (column + 1) at names (omega (arith, le)))

seen_known : (objects : Schema) (before : List (List Kind)) (source : ℕ) → source ≡ length before → (rs : List Relation) (os : List Object) → StandFor objects rs os → AllByRecursion (HasKinds objects) os
    → AllByRecursion (λ (c : Column). IsKnown (before ++ map (object_kinds objects) os) c.place) (columns_seen objects source rs)
seen_known objects before source at [] [] f h = tt
seen_known objects before source at [] (o ∷ os) f h = absurd f
seen_known objects before source at (r ∷ rs) [] f h = absurd f
seen_known objects before source at (r ∷ rs) (o ∷ os) f h =
    let ks : List Kind = object_kinds objects o in
    let more : List (List Kind) = map (object_kinds objects) os in
    let Known : List (List Kind) → Column → Type 0 = λ kinds c. IsKnown kinds c.place in
    let here : AllByRecursion (Known (before ++ ks ∷ more)) (columns_from (called r) source 0 (option_map_or object_columns (named objects r.name) [])) =
    subst (λ (x : Option Object). AllByRecursion (Known (before ++ ks ∷ more)) (columns_from (called r) source 0 (option_map_or object_columns x []))) (sym f.0)
    (from_known before more ks (called r) source 0 at (object_columns o) (omega (arith, h.0))) in
    let moved : AllByRecursion (Known ((before ++ ks ∷ []) ++ more)) (columns_seen objects (source + 1) rs) =
    seen_known objects (before ++ ks ∷ []) (source + 1) (omega (arith, at, length-append before (ks ∷ []))) rs os f.1 h.1 in
    each_append (Known (before ++ ks ∷ more)) (columns_from (called r) source 0 (option_map_or object_columns (named objects r.name) [])) (columns_seen objects (source + 1) rs) here
    (subst (λ (kinds : List (List Kind)). AllByRecursion (Known kinds) (columns_seen objects (source + 1) rs)) (append_assoc before (ks ∷ []) more) moved)

-- ---- queries

-- an object that has a name
abbrev pub IsThere : Schema → Object → Type 0
IsThere objects o = (name : List ℕ) × (named objects name ≡ Some o)

there_each : (objects : Schema) (rs : List Relation) (os : List Object) → StandFor objects rs os → AllByRecursion (IsThere objects) os
there_each objects [] [] f = tt
there_each objects [] (o ∷ os) f = absurd f
there_each objects (r ∷ rs) [] f = absurd f
there_each objects (r ∷ rs) (o ∷ os) f = ((r.name, f.0), there_each objects rs os f.1)

-- its relations are there, and where they have a kind for each column its groups are by columns of these
pub record IsQuery (objects : Schema) (q : ResolvedQuery) : Type 0 where
  pub there : AllByRecursion (IsThere objects) (sources_of q)
  pub group : AllByRecursion (HasKinds objects) (sources_of q) → AllByRecursion (IsKnown (kinds_seen objects q)) q.group

known_is : (objects : Schema) (name : List ℕ) (o : Object) → known objects name ≡ Ok o → named objects name ≡ Some o
known_is objects name o e = by (named objects name) e
  where
    by : (x : Option Object) → elim x as (λ (x : Option Object). Result Object Refusal) [ None ↦ Err (UnknownName name) | Some object ↦ Ok object ] ≡ Ok o → x ≡ Some o
    by None f = absurd (cc)
    by (Some object) f = ap Some (ok_same object o f)

source_is : (objects : Schema) (others : List (List ℕ)) (r : Relation) (o : Object) → source objects others r ≡ Ok o → named objects r.name ≡ Some o
source_is objects others r o e =
    let found = went_on (known objects r.name) (λ object. and_then (fresh others (called r ∷ [])) (λ new. Ok object)) o e in
    let new = went_on (fresh others (called r ∷ [])) (λ new. Ok found.0) o found.2 in
    known_is objects r.name o (found.1 ∙ ap (λ (x : Object). Ok x) (ok_same found.0 o new.2))

joins_are : (objects : Schema) (scope : Scope) (others : List (List ℕ)) (joins : List JoinTree) (js : List Joined) → joins_resolved objects scope others joins ≡ Ok js
    → StandFor objects (map (λ (j : JoinTree). j.relation) joins) (map (λ (j : Joined). j.object) js)
joins_are objects scope others [] js e = subst (λ (l : List Joined). StandFor objects [] (map (λ (j : Joined). j.object) l)) (ok_same [] js e) tt
joins_are objects scope others (join ∷ joins) js e =
    let Step : Object → Tree → List Joined → Result (List Joined) Refusal = λ object on more. Ok (record { object = object; on = on } ∷ more) in
    let rest = joins_resolved objects scope (called join.relation ∷ others) joins in
    let a = went_on (source objects others join.relation) (λ object. and_then (expression scope join.on) (λ on. and_then rest (Step object on))) js e in
    let b = went_on (expression scope join.on) (λ on. and_then rest (Step a.0 on)) js a.2 in
    let c = went_on rest (Step a.0 b.0) js b.2 in
    subst (λ (l : List Joined). StandFor objects (map (λ (j : JoinTree). j.relation) (join ∷ joins)) (map (λ (j : Joined). j.object) l)) (ok_same (record { object = a.0; on = b.0 } ∷ c.0) js c.2)
    (source_is objects others join.relation a.0 a.1, joins_are objects scope (called join.relation ∷ others) joins c.0 c.1)

query_is : (of_view : Bool) (objects : Schema) (query : QueryTree) (q : ResolvedQuery) → query_resolved of_view objects query ≡ Ok q → IsQuery objects q
query_is of_view objects query q e =
    let scope : Scope = scope_from objects query in
    let Made : List NamedItem → Object → List Joined → Option Tree → List ColumnAt → Result ResolvedQuery Refusal =
    λ items first joins condition group. Ok (record { items = items; first = first; joins = joins; condition = condition; group = group }) in
    let joined = joins_resolved objects scope (called query.first ∷ []) query.joins in
    let conditioned = perhaps (expression scope) query.condition in
    let grouped = each (column_of scope) query.group in
    let a = went_on (items_resolved of_view scope [] query.items) (λ items. and_then (source objects [] query.first) (λ first. and_then joined (λ joins. and_then conditioned (λ condition. and_then grouped (Made items first joins condition))))) q e in
    let b = went_on (source objects [] query.first) (λ first. and_then joined (λ joins. and_then conditioned (λ condition. and_then grouped (Made a.0 first joins condition)))) q a.2 in
    let c = went_on joined (λ joins. and_then conditioned (λ condition. and_then grouped (Made a.0 b.0 joins condition))) q b.2 in
    let d = went_on conditioned (λ condition. and_then grouped (Made a.0 b.0 c.0 condition)) q c.2 in
    let g = went_on grouped (Made a.0 b.0 c.0 d.0) q d.2 in
    let relations : List Relation = query.first ∷ map (λ (j : JoinTree). j.relation) query.joins in
    let stand : StandFor objects relations (b.0 ∷ map (λ (j : Joined). j.object) c.0) = (source_is objects [] query.first b.0 b.1, joins_are objects scope (called query.first ∷ []) query.joins c.0 c.1) in
    subst (IsQuery objects) (ok_same (record { items = a.0; first = b.0; joins = c.0; condition = d.0; group = g.0 }) q g.2) (record {
      there = there_each objects relations (b.0 ∷ map (λ (j : Joined). j.object) c.0) stand;
      group = λ kinds.
          let all : List (List Kind) = map (object_kinds objects) (b.0 ∷ map (λ (j : Joined). j.object) c.0) in
          each_so (column_of scope) (IsKnown all)
          (λ (ref : Ref) (place : ColumnAt) f. column_so (IsKnown all) scope (seen_known objects [] 0 refl relations (b.0 ∷ map (λ (j : Joined). j.object) c.0) stand kinds) ref.qualifier ref.name place f)
          query.group g.0 g.1;
    })

-- ---- statements

-- what a statement is resolved to has its objects and columns
abbrev pub IsResolved : Schema → Resolved → Type 0
IsResolved objects (table name columns primary) = AllByRecursion (λ p. p < length columns) primary
IsResolved objects (index name target columns) = IsThere objects target × AllByRecursion (λ p. p < length (object_columns target)) columns
IsResolved objects (view name q) = IsQuery objects q
IsResolved objects (insert target tuples) = IsThere objects target
IsResolved objects (update target sets condition) = IsThere objects target
IsResolved objects (delete target condition) = IsThere objects target
IsResolved objects (select q order) = IsQuery objects q
IsResolved objects control = Unit {0}

-- a statement and what it is resolved to are of one kind
abbrev pub AreAlike : StatementTree → Resolved → Type 0
AreAlike (s.create_table name columns primary) (table _ _ _) = Unit {0}
AreAlike (s.create_index name target columns) (index _ _ _) = Unit {0}
AreAlike (s.create_view name query) (view _ _) = Unit {0}
AreAlike (s.insert target tuples) (insert _ _) = Unit {0}
AreAlike (s.update target ss condition) (update _ _ _) = Unit {0}
AreAlike (s.delete target condition) (delete _ _) = Unit {0}
AreAlike (s.select query order) (select _ _) = Unit {0}
AreAlike s.commit control = Unit {0}
AreAlike (s.rollback to) control = Unit {0}
AreAlike (s.savepoint name) control = Unit {0}
AreAlike (s.begin mode) control = Unit {0}
AreAlike _ _ = ⊥

abbrev Both : Schema → StatementTree → Resolved → Type 0
Both objects statement to = AreAlike statement to × IsResolved objects to

control_so : (objects : Schema) (statement : StatementTree) (to : Resolved) → granted control ≡ granted to → AreAlike statement control → Both objects statement to
control_so objects statement to e alike = subst (Both objects statement) (ok_same control to e) (alike, tt)

pub resolved_so : (objects : Schema) (statement : StatementTree) (to : Resolved) → resolved objects statement ≡ Ok to → Both objects statement to
resolved_so objects (s.create_table name columns primary) to e =
    let names : List (List ℕ) = map (λ c. c.name) columns in
    let places = each (place_of (scope_of_one name names)) primary in
    let a = went_on (new_object objects name) (λ new. and_then (fresh [] names) (λ distinct. and_then places (λ ps. Ok (table name columns ps)))) to e in
    let b = went_on (fresh [] names) (λ distinct. and_then places (λ ps. Ok (table name columns ps))) to a.2 in
    let c = went_on places (λ ps. Ok (table name columns ps)) to b.2 in
    subst (Both objects (s.create_table name columns primary)) (ok_same (table name columns c.0) to c.2) (
      tt,
      each_so (place_of (scope_of_one name names)) (λ p. p < length columns)
          (λ of p f. subst (λ n. p < n) (length-map columns (λ (x : ColumnDef). x.name)) (place_within name names of p f)) primary c.0 c.1,
    )
resolved_so objects (s.create_index name target columns) to e =
    let Places : Object → Result (List ℕ) Refusal = λ object. each (place_of (scope_of_one target (object_columns object))) columns in
    let a = went_on (new_object objects name) (λ new. and_then (known objects target) (λ object. and_then (Places object) (λ ps. Ok (index name object ps)))) to e in
    let b = went_on (known objects target) (λ object. and_then (Places object) (λ ps. Ok (index name object ps))) to a.2 in
    let c = went_on (Places b.0) (λ ps. Ok (index name b.0 ps)) to b.2 in
    subst (Both objects (s.create_index name target columns)) (ok_same (index name b.0 c.0) to c.2) (
      tt,
      (
        (target, known_is objects target b.0 b.1),
        each_so (place_of (scope_of_one target (object_columns b.0))) (λ p. p < length (object_columns b.0)) (λ of p f. place_within target (object_columns b.0) of p f) columns c.0 c.1,
      ),
    )
resolved_so objects (s.create_view name query) to e =
    let a = went_on (new_object objects name) (λ new. and_then (query_resolved true objects query) (λ q. Ok (view name q))) to e in
    let b = went_on (query_resolved true objects query) (λ q. Ok (view name q)) to a.2 in
    subst (Both objects (s.create_view name query)) (ok_same (view name b.0) to b.2) (tt, query_is true objects query b.0 b.1)
resolved_so objects (s.insert target tuples) to e =
    let values = each (each (expression (record { relations = []; columns = [] }))) tuples in
    let a = went_on (known objects target) (λ object. and_then values (λ vs. Ok (insert object vs))) to e in
    let b = went_on values (λ vs. Ok (insert a.0 vs)) to a.2 in
    subst (Both objects (s.insert target tuples)) (ok_same (insert a.0 b.0) to b.2) (tt, (target, known_is objects target a.0 a.1))
resolved_so objects (s.update target ss condition) to e =
    let Sets : Object → Result (List BoundSet) Refusal = λ object. each (assignment (scope_of_one target (object_columns object))) ss in
    let Where : Object → Result (Option Tree) Refusal = λ object. perhaps (expression (scope_of_one target (object_columns object))) condition in
    let a = went_on (known objects target) (λ object. and_then (Sets object) (λ sets. and_then (Where object) (λ where_. Ok (update object sets where_)))) to e in
    let b = went_on (Sets a.0) (λ sets. and_then (Where a.0) (λ where_. Ok (update a.0 sets where_))) to a.2 in
    let c = went_on (Where a.0) (λ where_. Ok (update a.0 b.0 where_)) to b.2 in
    subst (Both objects (s.update target ss condition)) (ok_same (update a.0 b.0 c.0) to c.2) (tt, (target, known_is objects target a.0 a.1))
resolved_so objects (s.delete target condition) to e =
    let Where : Object → Result (Option Tree) Refusal = λ object. perhaps (expression (scope_of_one target (object_columns object))) condition in
    let a = went_on (known objects target) (λ object. and_then (Where object) (λ where_. Ok (delete object where_))) to e in
    let b = went_on (Where a.0) (λ where_. Ok (delete a.0 where_)) to a.2 in
    subst (Both objects (s.delete target condition)) (ok_same (delete a.0 b.0) to b.2) (tt, (target, known_is objects target a.0 a.1))
resolved_so objects (s.select query order) to e =
    let a = went_on (query_resolved false objects query) (λ q. Ok (select q order)) to e in
    subst (Both objects (s.select query order)) (ok_same (select a.0 order) to a.2) (tt, query_is false objects query a.0 a.1)
resolved_so objects (s.begin mode) to e = control_so objects (s.begin mode) to e tt
resolved_so objects s.commit to e = control_so objects s.commit to e tt
resolved_so objects (s.rollback name) to e = control_so objects (s.rollback name) to e tt
resolved_so objects (s.savepoint name) to e = control_so objects (s.savepoint name) to e tt

-- ---- binding

-- a test that does not fail
abbrev pub IsPassed : Test → Type 0
IsPassed t = t.0 ≡ false

-- what a statement was resolved to, whose names stand for objects and columns and of which no test fails
pub record IsBound (objects : Schema) (statement : StatementTree) (what : BoundTree) : Type 0 where
  pub to : Resolved
  pub alike : AreAlike statement to
  pub is_resolved : IsResolved objects to
  pub size : ℕ
  pub typed : well_typed objects to ≡ true
  pub passed : AllByRecursion IsPassed (tests objects size to)
  pub made : bound_of objects to ≡ what

abbrev refusing : Bool → Refusal → Result (Unit {0}) Refusal
refusing b why = if b then Err why else Ok tt

refused_or : (t : Test) (u : Unit {0}) → refuse_if t ≡ Ok u → IsPassed t
refused_or t u e = by t.0 e
  where
    by : (b : Bool) → refusing b t.1 ≡ Ok u → b ≡ false
    by true f = absurd (cc)
    by false f = refl

pub passing_all : {A : Type 0} (ts : List Test) (a b : A) → passing ts a ≡ Ok b → AllByRecursion IsPassed ts × (a ≡ b)
passing_all [] a b e = (tt, ok_same a b e)
passing_all (t ∷ ts) a b e =
    let here = went_on (refuse_if t) (λ u. passing ts a) b e in
    let rest = passing_all ts a b here.2 in
    ((refused_or t here.0 here.1, rest.0), rest.1)

pub is_bound : (objects : Schema) (statement : StatementTree) (what : BoundTree) → bind objects statement ≡ Ok what → IsBound objects statement what
is_bound objects statement what e =
    let r = went_on (resolved objects statement) (checked objects (statement_size statement)) what e in
    let so = resolved_so objects statement r.0 r.1 in
    let c = passing_all ((not (well_typed objects r.0), WrongType) ∷ tests objects (statement_size statement) r.0) (bound_of objects r.0) what r.2 in
    record { to = r.0; alike = so.0; is_resolved = so.1; size = statement_size statement; typed = typed_is (well_typed objects r.0) c.0.0; passed = c.0.1; made = c.1 }
  where
    typed_is : (b : Bool) → not b ≡ false → b ≡ true
    typed_is true f = refl
    typed_is false f = absurd (cc)
