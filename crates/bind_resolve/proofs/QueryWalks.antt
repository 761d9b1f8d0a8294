-- Lemmas on items and relations one after another.
use Rattle.std.proofs.Common.{◌≡◌, ◌⊎◌, ℕ, Bool, true, false, IsTrue, List, [], ◌∷◌, ◌++◌, Option, Result, Ok, Err, if◌then◌else◌}
use mathlib.Core.Path.{refl, sym, ap, ◌∙◌}
use mathlib.Core.Logic.{inl, inr}
use Rattle.iv_types.specs.declared.refusal.Refusal.{Refusal}
use Rattle.iv_types.specs.declared.refusal.Refusal.TheVariants.{NoMemory}
use Rattle.iv_types.specs.declared.expression.ColumnAt.{ColumnAt}
use Rattle.iv_types.specs.Syntax.{ItemTree, JoinTree, QueryTree, Tree}
use Rattle.iv_types.specs.declared.statement.Relation.{Relation}
use Rattle.iv_meaning.specs.Schema.{Schema, Object}
use Rattle.iv_meaning.specs.Resolving.{NamedItem, Scope, Joined, and_then, called, column_of, each, expression, fresh, items_for, items_resolved, joins_resolved, known, names_in, perhaps, query_resolved, scope_from, source}
use Rattle.bind_resolve.specs.Seen.{Alike}
use Rattle.bind_resolve.proofs.Walks.{before, behind_alike, fresh_alike, nested, under}
use Rattle.bind_resolve.specs.Walking.{choice, next_items, next_join, query_by, Joins}

-- ---- items

view_alike : (view : Bool) (xs ys names : List (List ℕ)) → (IsTrue view → Alike xs ys) → (if view then fresh xs names else Ok tt) ≡ (if view then fresh ys names else Ok tt)
view_alike true xs ys names h = fresh_alike xs ys names (h refl)
view_alike false xs ys names h = refl

pub items_alike : (view : Bool) (scope : Scope) (xs ys : List (List ℕ)) (items : List ItemTree) → (IsTrue view → Alike xs ys) → items_resolved view scope xs items ≡ items_resolved view scope ys items
items_alike view scope xs ys [] h = refl
items_alike view scope xs ys (item ∷ items) h =
    under (items_for scope item) _ _ (λ some.
    ap (λ m. and_then m (λ new. and_then (items_resolved view scope (names_in some ++ xs) items) (λ more. Ok (some ++ more)))) (view_alike view xs ys (names_in some) h)
    ∙ ap (λ m. and_then (if view then fresh ys (names_in some) else Ok tt) (λ new. and_then m (λ more. Ok (some ++ more))))
    (items_alike view scope (names_in some ++ xs) (names_in some ++ ys) items (λ is. behind_alike (names_in some) xs ys (h is))))

item_step : (view : Bool) (scope : Scope) (others : List (List ℕ)) (item : ItemTree) (items : List ItemTree)
    → items_resolved view scope others (item ∷ items) ≡ and_then (next_items view scope others item) (λ some. before some (items_resolved view scope (names_in some ++ others) items))
item_step view scope others item items =
    under (items_for scope item) _ _ (λ some. sym (nested (if view then fresh others (names_in some) else Ok tt) (λ new. Ok some) (λ found. before found (items_resolved view scope (names_in found ++ others) items))))
    ∙ sym (nested (items_for scope item) (λ some. and_then (if view then fresh others (names_in some) else Ok tt) (λ new. Ok some)) (λ some. before some (items_resolved view scope (names_in some ++ others) items)))

pub one_item : (view : Bool) (scope : Scope) (others after : List (List ℕ)) (item : ItemTree) (items : List ItemTree) (some : List NamedItem)
    → next_items view scope others item ≡ Ok some → Joins view (names_in some) others after
    → items_resolved view scope others (item ∷ items) ≡ before some (items_resolved view scope after items)
one_item view scope others after item items some given joins =
    item_step view scope others item items
    ∙ (ap (λ m. and_then m (λ found. before found (items_resolved view scope (names_in found ++ others) items))) given
    ∙ ap (before some) (items_alike view scope (names_in some ++ others) after items (λ is name. sym (joins is name))))

pub no_item : (view : Bool) (scope : Scope) (others : List (List ℕ)) (item : ItemTree) (items : List ItemTree) (r : Refusal)
    → (r ≡ NoMemory) ⊎ (next_items view scope others item ≡ Err r) → (r ≡ NoMemory) ⊎ (items_resolved view scope others (item ∷ items) ≡ Err r)
no_item view scope others item items r (inl e) = inl e
no_item view scope others item items r (inr e) =
    inr (item_step view scope others item items ∙ ap (λ m. and_then m (λ found. before found (items_resolved view scope (names_in found ++ others) items))) e)

-- ---- relations

pub joins_alike : (objects : Schema) (scope : Scope) (xs ys : List (List ℕ)) (joins : List JoinTree) → Alike xs ys → joins_resolved objects scope xs joins ≡ joins_resolved objects scope ys joins
joins_alike objects scope xs ys [] h = refl
joins_alike objects scope xs ys (join ∷ joins) h =
    ap (λ m. and_then m (λ object. and_then (expression scope join.on) (λ on. and_then (joins_resolved objects scope (called join.relation ∷ xs) joins) (λ more. Ok (record { object = object; on = on } ∷ more)))))
    (under (known objects join.relation.name) _ _ (λ object. ap (λ m. and_then m (λ new. Ok object)) (fresh_alike xs ys (called join.relation ∷ []) h)))
    ∙ under (source objects ys join.relation) _ _ (λ object. under (expression scope join.on) _ _ (λ on.
    ap (λ m. and_then m (λ more. Ok (record { object = object; on = on } ∷ more)))
    (joins_alike objects scope (called join.relation ∷ xs) (called join.relation ∷ ys) joins (behind_alike (called join.relation ∷ []) xs ys h))))

join_step : (objects : Schema) (scope : Scope) (others : List (List ℕ)) (join : JoinTree) (joins : List JoinTree)
    → joins_resolved objects scope others (join ∷ joins) ≡ and_then (next_join objects scope others join) (λ j. before (j ∷ []) (joins_resolved objects scope (called join.relation ∷ others) joins))
join_step objects scope others join joins =
    let known_ : Result Object Refusal = known objects join.relation.name in
    let new_ : Result (Unit {0}) Refusal = fresh others (called join.relation ∷ []) in
    let on_ : Result Tree Refusal = expression scope join.on in
    let rest : Joined → Result (List Joined) Refusal = λ j. before (j ∷ []) (joins_resolved objects scope (called join.relation ∷ others) joins) in
    nested known_ (λ object. and_then new_ (λ new. Ok object)) (λ object. and_then on_ (λ on. rest (record { object = object; on = on })))
    ∙ (under known_ _ _ (λ object.
    nested new_ (λ new. Ok object) (λ object. and_then on_ (λ on. rest (record { object = object; on = on })))
    ∙ (under new_ _ _ (λ new. sym (nested on_ (λ on. Ok (record { object = object; on = on })) rest))
    ∙ sym (nested new_ (λ new. and_then on_ (λ on. Ok (record { object = object; on = on }))) rest)))
    ∙ sym (nested known_ (λ object. and_then new_ (λ new. and_then on_ (λ on. Ok (record { object = object; on = on })))) rest))

pub one_join : (objects : Schema) (scope : Scope) (others after : List (List ℕ)) (join : JoinTree) (joins : List JoinTree) (j : Joined)
    → next_join objects scope others join ≡ Ok j → Alike after (called join.relation ∷ others)
    → joins_resolved objects scope others (join ∷ joins) ≡ before (j ∷ []) (joins_resolved objects scope after joins)
one_join objects scope others after join joins j given is =
    join_step objects scope others join joins
    ∙ (ap (λ m. and_then m (λ (k : Joined). before (k ∷ []) (joins_resolved objects scope (called join.relation ∷ others) joins))) given
    ∙ ap (before (j ∷ [])) (joins_alike objects scope (called join.relation ∷ others) after joins (λ name. sym (is name))))

pub no_join : (objects : Schema) (scope : Scope) (others : List (List ℕ)) (join : JoinTree) (joins : List JoinTree) (r : Refusal)
    → (r ≡ NoMemory) ⊎ (next_join objects scope others join ≡ Err r) → (r ≡ NoMemory) ⊎ (joins_resolved objects scope others (join ∷ joins) ≡ Err r)
no_join objects scope others join joins r (inl e) = inl e
no_join objects scope others join joins r (inr e) =
    inr (join_step objects scope others join joins ∙ ap (λ m. and_then m (λ (k : Joined). before (k ∷ []) (joins_resolved objects scope (called join.relation ∷ others) joins))) e)

first_known : {A : Type 0} (objects : Schema) (first : Relation) (more : Object → Result A Refusal) → and_then (source objects [] first) more ≡ and_then (known objects first.name) more
first_known objects first more = nested (known objects first.name) (λ object. Ok object) more

chosen : {A : Type 0} (scope : Scope) (query : QueryTree) (more : Option Tree × List ColumnAt → Result A Refusal)
    → and_then (choice scope query) more ≡ and_then (perhaps (expression scope) query.condition) (λ condition. and_then (each (column_of scope) query.group) (λ group. more (condition, group)))
chosen scope query more =
    nested (perhaps (expression scope) query.condition) (λ condition. and_then (each (column_of scope) query.group) (λ group. Ok (condition, group))) more
    ∙ under (perhaps (expression scope) query.condition) _ _ (λ condition. nested (each (column_of scope) query.group) (λ group. Ok (condition, group)) more)

-- a query by what it sees
pub query_is : (view : Bool) (objects : Schema) (query : QueryTree) → query_by view objects (scope_from objects query) query ≡ query_resolved view objects query
query_is view objects query =
    let scope : Scope = scope_from objects query in
    under (items_resolved view scope [] query.items) _ _ (λ items.
    under (known objects query.first.name) _ _ (λ first.
    under (joins_resolved objects scope (called query.first ∷ []) query.joins) _ _ (λ joins.
    chosen scope query (λ (c : Option Tree × List ColumnAt). Ok (record { items = items; first = first; joins = joins; condition = c.0; group = c.1 }))))
    ∙ sym (first_known objects query.first _))
