-- The readers of a statement under larger limits: they read the same, and go beyond where a limit was met.
use Rattle.std.proofs.Common.{◌≡◌, ℕ, suc, ◌≤◌, List, length, Option, Some, None, Ok, refl, sym, ap, subst, ◌∙◌, arith, inl, inr}
use Rattle.text_grammar.specs.Readers.{◌>>=◌, Reader, is, one, both, mapped, behind, either, perhaps}
use Rattle.text_grammar.specs.Languages.{One, Then, Both, Either, Perhaps}
use Rattle.text_grammar.proofs.Exactness.{never, StartsWith, ok_is, bind_ok}
use Rattle.text_grammar.proofs.Repeating.{takes}
use Rattle.text_grammar.proofs.Starts.{behind_starts, mapped_starts, either_starts, both_starts, wider_starts, row_starts, one_starts}
use Rattle.text_grammar.proofs.Extends.{Extends, Stays, exact_stays, one_extends, one_stays, mapped_extends, both_extends, behind_extends, either_extends, perhaps_extends, row_extends, row_extends_in, behind_stays, perhaps_stays}
use Rattle.iv_types.specs.declared.terminal.Terminal.TheVariants as t
use Rattle.iv_types.specs.declared.statement.Relation.{Relation}
use Rattle.iv_types.specs.Tokens.{Symbol}
use Rattle.iv_types.specs.Limits.{Limits}
use Rattle.iv_types.specs.Syntax as s
use Rattle.iv_types.specs.Syntax.{Tree, JoinTree}
use Rattle.iv_types.specs.Expressions.{the, paired, comparison_op, AnExpression, or_op, and_op, sum_op, product_op, compared, positive}
use Rattle.sql_readers.proofs.Budget.{Signed, Operand, Conjunction, Negation, Disjunction, Comparison, Sum, Product, Unary, nested, Nested}
use Rattle.iv_types.specs.Grammar as g
use Rattle.iv_types.specs.Grammar.{singleton, snoc, or_none, add, Enclosed, Names, kind_of, column_of, AColumn, TableBody, table_of, index_of, AnAlias, sum_of, plain_of, AnItem, relation_of, ASource, join_of, AJoin, Sources, first_source, with_join, From, ACondition, query_of, AQuery, view_of, direction_of, or_rising, place_key, name_key, order_of, selection_of, ATuple, Tuples, insertion_of, set_of, update_of, deletion_of, begin_of, commit_of}
use Rattle.sql_readers.specs.Ladder.{is_name, is_number, name_reader, number_reader, reference, expression, inner, Inner}
use Rattle.sql_readers.specs.Statements.{comma_list, enclosed, names, column, columns, table_body, table, index, alias, item, items, source, join, from, condition, grouping, query, view, creation, key_reader, direction, order, ordering, selection, tuple, tuples, insertion, assignment, update, deletion, control, statement, line}
use Rattle.sql_readers.proofs.Apart.{on_expression}
use Rattle.sql_readers.proofs.Ladder.{countable, ExactNested, nested-exact, reference-exact, expression-exact, Numeral, numeral_starts}
use Rattle.sql_readers.proofs.Lists.{comma}
use Rattle.sql_readers.proofs.GoingOn.{as_token, on_item, on_query}
use Rattle.sql_readers.proofs.Creations.{typed, Primary, primary, primary-exact, enclosed_names-exact, enclosed_body-exact, Place, place, place-exact, view_tail, created, column-exact}
use Rattle.sql_readers.proofs.Queries.{CountTail, count_tail, SumTail, sum_tail, PlainItem, plain_item, AllItem, all_item, CountItem, SumItem, counted_source, OnPart, on_part, on_part-exact, by_references, Tail, tail, tail-exact, Body, body, body-exact, selected, Direction, direction-exact, by_orders, Ordering, ordering-exact, alias-exact, item-exact, source-exact, source_starts, join-exact, condition-exact, grouping-exact, query-exact, order-exact}
use Rattle.sql_readers.proofs.Changes.{inserted, Assignments, assignments, assignments-exact, updated, deleted, tuple-exact, tuple_starts, tuples-exact, assignment-exact}
use Rattle.sql_readers.proofs.Whole.{begun, returned}
use Rattle.sql_readers.proofs.Larger.{Raised, above, name_extends, number_extends, reference_extends, expression_extends, anything, signed_starts}
use Rattle.sql_readers.proofs.GrownLists.{Grows, listed_extends, enclosed_extends, named_extends, name_stays, counted_extends, add_long, kept, behind_reads, listed_to_extends}

-- ---- statements

names_extends : (w : ℕ) → Grows w names names
unfolding names
names_extends w l m up = listed_extends w (name_reader l) (name_reader m) (name_extends w l m up) (name_stays m)

enclosed_names_extends : (w : ℕ) (l m : Limits) → Raised w l m → Extends w (enclosed (names l)) (enclosed (names m))
enclosed_names_extends w l m up = enclosed_extends w (names l) (names m) (names_extends w l m up)

enclosed_names_stays : (m : Limits) → Stays (enclosed (names m))
enclosed_names_stays m = exact_stays (Enclosed (Names m)) never (enclosed (names m)) (enclosed_names-exact m)

column_extends : (w : ℕ) → Grows w column column
unfolding column
column_extends w l m up =
    mapped_extends w (λ x. x.0) (both (mapped column_of (typed l)) (λ _. one (the t.Comma))) (both (mapped column_of (typed m)) (λ _. one (the t.Comma)))
    (both_extends w (mapped column_of (typed l)) (mapped column_of (typed m)) (λ _. one (the t.Comma)) (λ _. one (the t.Comma))
    (mapped_extends w column_of (typed l) (typed m) (named_extends w l m (one kind_of) (one kind_of) up (one_extends w kind_of) (one_stays kind_of)))
    (λ _. one_extends w (the t.Comma)) (λ _. one_stays (the t.Comma)))

columns_extends : (w : ℕ) → Grows w columns columns
unfolding columns
columns_extends w l m up = row_extends w is_name singleton snoc (column l) (column m) (λ _. column l) (λ _. column m) (column_extends w l m up) (λ c ts h. column_extends w l m up ts) (λ c. exact_stays (AColumn m) never (column m) (column-exact m))

table_body_extends : (w : ℕ) → Grows w table_body table_body
unfolding table_body
table_body_extends w l m up =
    both_extends w (columns l) (columns m) (λ _. primary l) (λ _. primary m) (columns_extends w l m up)
    (λ _. behind_extends w (the t.Primary) (behind (the t.Key) (enclosed (names l))) (behind (the t.Key) (enclosed (names m))) (behind_extends w (the t.Key) (enclosed (names l)) (enclosed (names m)) (enclosed_names_extends w l m up)))
    (λ _. exact_stays (Primary m) never (primary m) (primary-exact m))

table_extends : (w : ℕ) → Grows w table table
unfolding table
table_extends w l m up =
    behind_extends w (the t.Table) (mapped table_of (both (name_reader l) (λ _. enclosed (table_body l)))) (mapped table_of (both (name_reader m) (λ _. enclosed (table_body m))))
    (mapped_extends w table_of (both (name_reader l) (λ _. enclosed (table_body l))) (both (name_reader m) (λ _. enclosed (table_body m)))
    (named_extends w l m (enclosed (table_body l)) (enclosed (table_body m)) up (enclosed_extends w (table_body l) (table_body m) (table_body_extends w l m up)) (exact_stays (Enclosed (TableBody m)) never (enclosed (table_body m)) (enclosed_body-exact m))))

index_extends : (w : ℕ) → Grows w index index
unfolding index
index_extends w l m up =
    behind_extends w (the t.Index) (mapped index_of (both (name_reader l) (λ _. behind (the t.On) (place l)))) (mapped index_of (both (name_reader m) (λ _. behind (the t.On) (place m))))
    (mapped_extends w index_of (both (name_reader l) (λ _. behind (the t.On) (place l))) (both (name_reader m) (λ _. behind (the t.On) (place m)))
    (named_extends w l m (behind (the t.On) (place l)) (behind (the t.On) (place m)) up
    (behind_extends w (the t.On) (place l) (place m) (named_extends w l m (enclosed (names l)) (enclosed (names m)) up (enclosed_names_extends w l m up) (enclosed_names_stays m)))
    (behind_stays (the t.On) (place m) (exact_stays (Place m) never (place m) (place-exact m)))))

alias_extends : (w : ℕ) → Grows w alias alias
alias_extends w l m up = perhaps_extends w (is (the t.As)) (behind (the t.As) (name_reader l)) (behind (the t.As) (name_reader m)) (behind_extends w (the t.As) (name_reader l) (name_reader m) (name_extends w l m up))

alias_stays : (m : Limits) → Stays (alias m)
alias_stays m = exact_stays (AnAlias m) as_token (alias m) (alias-exact m)

-- something, and perhaps its name
aliased_extends : {A : Type 0} (w : ℕ) (l m : Limits) (r s : Reader Symbol A) → Raised w l m → Extends w r s → Extends w (both r (λ _. alias l)) (both s (λ _. alias m))
aliased_extends w l m r s up e = both_extends w r s (λ _. alias l) (λ _. alias m) e (λ _. alias_extends w l m up) (λ _. alias_stays m)

count_tail_extends : (w : ℕ) → Grows w count_tail count_tail
count_tail_extends w l m up =
    behind_extends w (the t.Open) (behind (the t.Star) (behind (the t.Close) (mapped s.count (alias l)))) (behind (the t.Star) (behind (the t.Close) (mapped s.count (alias m))))
    (behind_extends w (the t.Star) (behind (the t.Close) (mapped s.count (alias l))) (behind (the t.Close) (mapped s.count (alias m)))
    (behind_extends w (the t.Close) (mapped s.count (alias l)) (mapped s.count (alias m)) (mapped_extends w s.count (alias l) (alias m) (alias_extends w l m up))))

sum_tail_extends : (w : ℕ) → Grows w sum_tail sum_tail
sum_tail_extends w l m up =
    mapped_extends w sum_of (both (enclosed (reference l)) (λ _. alias l)) (both (enclosed (reference m)) (λ _. alias m))
    (aliased_extends w l m (enclosed (reference l)) (enclosed (reference m)) up (enclosed_extends w (reference l) (reference m) (reference_extends w l m up)))

plain_item_extends : (w : ℕ) → Grows w plain_item plain_item
plain_item_extends w l m up = mapped_extends w plain_of (both (expression l) (λ _. alias l)) (both (expression m) (λ _. alias m)) (aliased_extends w l m (expression l) (expression m) up (expression_extends w l m up))

item_extends : (w : ℕ) → Grows w item item
unfolding item
item_extends w l m up =
    either_extends w (is (the t.Star)) all_item all_item (either (is (the t.Count)) (behind (the t.Count) (count_tail l)) (either (is (the t.Sum)) (behind (the t.Sum) (sum_tail l)) (plain_item l))) (either (is (the t.Count)) (behind (the t.Count) (count_tail m)) (either (is (the t.Sum)) (behind (the t.Sum) (sum_tail m)) (plain_item m)))
    (λ ts h. mapped_extends w g.all_of (one (the t.Star)) (one (the t.Star)) (one_extends w (the t.Star)) ts)
    (either_extends w (is (the t.Count)) (behind (the t.Count) (count_tail l)) (behind (the t.Count) (count_tail m)) (either (is (the t.Sum)) (behind (the t.Sum) (sum_tail l)) (plain_item l)) (either (is (the t.Sum)) (behind (the t.Sum) (sum_tail m)) (plain_item m))
    (λ ts h. behind_extends w (the t.Count) (count_tail l) (count_tail m) (count_tail_extends w l m up) ts)
    (either_extends w (is (the t.Sum)) (behind (the t.Sum) (sum_tail l)) (behind (the t.Sum) (sum_tail m)) (plain_item l) (plain_item m)
    (λ ts h. behind_extends w (the t.Sum) (sum_tail l) (sum_tail m) (sum_tail_extends w l m up) ts)
    (plain_item_extends w l m up)))

comparison_starts : (l : Limits) (n : Nested) (i : Inner) → ExactNested n i → (b : ℕ) → StartsWith (Comparison l n b) anything
unfolding Comparison Sum Product Unary
comparison_starts l n i e b =
    mapped_starts compared (Both (Sum l n b) (λ a. Perhaps (Operand comparison_op (Sum l n) b a))) anything
    (both_starts (Sum l n b) (λ a. Perhaps (Operand comparison_op (Sum l n) b a)) anything
    (row_starts (λ a. a) paired (Product l n b) (Operand sum_op (Product l n) b) anything
    (row_starts (λ a. a) paired (Unary l n b) (Operand product_op (Unary l n) b) anything
    (either_starts (Numeral l positive) (Signed l n b) anything (wider_starts (Numeral l positive) is_number anything (numeral_starts l positive) (λ x h. refl)) (signed_starts l n i e b)))))

expression_starts : (l : Limits) → StartsWith (AnExpression l) anything
unfolding Disjunction Conjunction Negation
expression_starts l ts a h =
    let n = nested l l.nesting in
    let e = nested-exact l l.nesting in
    let b = l.operations in
    row_starts (λ a. a) paired (Conjunction l n b) (Operand or_op (Conjunction l n) b) anything
    (row_starts (λ a. a) paired (Negation l n b) (Operand and_op (Negation l n) b) anything
    (either_starts (n.inversion b) (Comparison l n b) anything (wider_starts (n.inversion b) (is (the t.Not)) anything (e.inversion_starts b) (λ x h. refl)) (comparison_starts l n (inner l l.nesting) e b))) ts a (countable l ts a h)

item_starts : (l : Limits) → StartsWith (AnItem l) anything
unfolding AnItem
item_starts l =
    either_starts AllItem (Either (CountItem l) (Either (SumItem l) (PlainItem l))) anything (wider_starts AllItem (is (the t.Star)) anything (mapped_starts g.all_of (One (the t.Star)) (is (the t.Star)) (one_starts (the t.Star))) (λ x h. refl))
    (either_starts (CountItem l) (Either (SumItem l) (PlainItem l)) anything (wider_starts (CountItem l) (is (the t.Count)) anything (behind_starts (the t.Count) (CountTail l)) (λ x h. refl))
    (either_starts (SumItem l) (PlainItem l) anything (wider_starts (SumItem l) (is (the t.Sum)) anything (behind_starts (the t.Sum) (SumTail l)) (λ x h. refl))
    (mapped_starts plain_of (Then (AnExpression l) (AnAlias l)) anything (both_starts (AnExpression l) (λ _. AnAlias l) anything (expression_starts l)))))

items_extends : (w : ℕ) → Grows w items items
unfolding items
items_extends w l m up = listed_to_extends w 17 l.items m.items (AnItem l) on_item anything (item l) (item m) (item-exact l) (item_starts l) (item_extends w l m up) (exact_stays (AnItem m) on_item (item m) (item-exact m)) (λ h. up.agree.items (above w 17 h), up.items)

source_extends : (w : ℕ) → Grows w source source
unfolding source
source_extends w l m up = mapped_extends w relation_of (both (name_reader l) (λ _. alias l)) (both (name_reader m) (λ _. alias m)) (aliased_extends w l m (name_reader l) (name_reader m) up (name_extends w l m up))

join_extends : (w : ℕ) (l m : Limits) (have : ℕ) → Raised w l m → have ≤ suc l.relations → Extends w (join l have) (join m have)
unfolding join
join_extends w l m have up le =
    behind_extends w (the t.Join) (mapped join_of (both (counted_source l have) (λ _. on_part l))) (mapped join_of (both (counted_source m have) (λ _. on_part m)))
    (mapped_extends w join_of (both (counted_source l have) (λ _. on_part l)) (both (counted_source m have) (λ _. on_part m))
    (both_extends w (counted_source l have) (counted_source m have) (λ _. on_part l) (λ _. on_part m)
    (counted_extends w 7 have l.relations m.relations (source l) (source m) (source_extends w l m up) (exact_stays (ASource l) as_token (source l) (source-exact l)) (takes is_name (ASource l) as_token (source l) (source-exact l) (source_starts l)) (λ h. up.agree.relations (above w 7 h), up.relations) le)
    (λ _. behind_extends w (the t.On) (expression l) (expression m) (expression_extends w l m up))
    (λ _. exact_stays (OnPart m) on_expression (on_part m) (on_part-exact m))))

-- the relations so far are no more than the limit lets be read
abbrev Few : Limits → Sources → Type 0
Few l f = suc (length f.1) ≤ suc l.relations

join_none : (a : Option Relation) (e : Tree) → a ≡ None → join_of (a, e) ≡ None
join_none None e h = refl
join_none (Some r) e h = absurd cc

mapped_is : {A B : Type 0} (f : A → B) (r : Reader Symbol A) (ts : List Symbol) (x : B × List Symbol) → mapped f r ts ≡ Ok x → (y : A × List Symbol) × (r ts ≡ Ok y) × (x.0 ≡ f y.0)
mapped_is f r ts x e = let b = bind_ok (r ts) (λ y. Ok (f y.0, y.1)) x e in (b.0, b.1, sym (ap (λ (u : _ × List Symbol). u.0) (ok_is (f b.0.0, b.0.1) x b.2)))

both_is : {A B : Type 0} (r : Reader Symbol A) (s : A → Reader Symbol B) (ts : List Symbol) (x : (A × B) × List Symbol) → both r s ts ≡ Ok x → (y : A × List Symbol) × (r ts ≡ Ok y) × (x.0.0 ≡ y.0)
both_is r s ts x e =
    let b = bind_ok (r ts) (λ x. s x.0 x.1 >>= λ y. Ok ((x.0, y.0), y.1)) x e in
    let c = bind_ok (s b.0.0 b.0.1) (λ y. Ok ((b.0.0, y.0), y.1)) x b.2 in
    (b.0, b.1, sym (ap (λ (u : (_ × _) × List Symbol). u.0.0) (ok_is ((b.0.0, c.0.0), c.0.1) x c.2)))

joined_few : (l : Limits) (f : Sources) (ts : List Symbol) (x : Option JoinTree × List Symbol) → Few l f → join l (suc (length f.1)) ts ≡ Ok x → Few l (with_join f x.0)
unfolding join
joined_few l f ts x le e =
    let b = behind_reads t.Join (mapped join_of (both (counted_source l (suc (length f.1))) (λ _. on_part l))) ts x e in
    let c = mapped_is join_of (both (counted_source l (suc (length f.1))) (λ _. on_part l)) b.0 x b.1 in
    let d = both_is (counted_source l (suc (length f.1))) (λ _. on_part l) b.0 c.0 c.1 in
    elim (kept 7 (suc (length f.1)) l.relations (source l) b.0 d.0 d.1 le) [
      | inl none ↦
          let o : x.0 ≡ None = c.2 ∙ join_none c.0.0.0 c.0.0.1 (d.2 ∙ none) in
          subst (λ (z : Option JoinTree). suc (length (add f.1 z)) ≤ suc l.relations) (sym o) le
      | inr lt ↦ (let k = add_long f.1 x.0 in omega (arith, k, lt))
    ]

from_extends : (w : ℕ) → Grows w from from
unfolding from
from_extends w l m up =
    row_extends_in w (is (the t.Join)) first_source with_join (source l) (source m) (λ f. join l (suc (length f.1))) (λ f. join m (suc (length f.1))) (Few l) (source_extends w l m up)
    (λ ts x h. omega arith)
    (λ f le ts h. join_extends w l m (suc (length f.1)) up le ts)
    (λ f ts x le h. joined_few l f ts x le h)
    (λ f. exact_stays (AJoin m (suc (length f.1))) on_expression (join m (suc (length f.1))) (join-exact m (suc (length f.1))))

condition_extends : (w : ℕ) → Grows w condition condition
unfolding condition
condition_extends w l m up = perhaps_extends w (is (the t.Where)) (behind (the t.Where) (expression l)) (behind (the t.Where) (expression m)) (behind_extends w (the t.Where) (expression l) (expression m) (expression_extends w l m up))

condition_stays : (m : Limits) → Stays (condition m)
condition_stays m = exact_stays (ACondition m) _ (condition m) (condition-exact m)

grouping_extends : (w : ℕ) → Grows w grouping grouping
unfolding grouping
grouping_extends w l m up =
    mapped_extends w or_none (perhaps (is (the t.Group)) (behind (the t.Group) (by_references l))) (perhaps (is (the t.Group)) (behind (the t.Group) (by_references m)))
    (perhaps_extends w (is (the t.Group)) (behind (the t.Group) (by_references l)) (behind (the t.Group) (by_references m))
    (behind_extends w (the t.Group) (by_references l) (by_references m)
    (behind_extends w (the t.By) (comma_list (reference l)) (comma_list (reference m))
    (listed_extends w (reference l) (reference m) (reference_extends w l m up) (exact_stays _ _ (reference m) (reference-exact m))))))

query_extends : (w : ℕ) → Grows w query query
unfolding query
query_extends w l m up =
    behind_extends w (the t.Select) (mapped query_of (selected l)) (mapped query_of (selected m))
    (mapped_extends w query_of (selected l) (selected m)
    (both_extends w (items l) (items m) (λ _. behind (the t.From) (body l)) (λ _. behind (the t.From) (body m)) (items_extends w l m up)
    (λ _. behind_extends w (the t.From) (body l) (body m)
    (both_extends w (from l) (from m) (λ _. tail l) (λ _. tail m) (from_extends w l m up)
    (λ _. both_extends w (condition l) (condition m) (λ _. grouping l) (λ _. grouping m) (condition_extends w l m up) (λ _. grouping_extends w l m up) (λ _. exact_stays _ _ (grouping m) (grouping-exact m)))
    (λ _. exact_stays (Tail m) on_query (tail m) (tail-exact m))))
    (λ _. behind_stays (the t.From) (body m) (exact_stays (Body m) on_query (body m) (body-exact m)))))

view_extends : (w : ℕ) → Grows w view view
unfolding view
view_extends w l m up =
    behind_extends w (the t.Indexed) (behind (the t.View) (view_tail l)) (behind (the t.View) (view_tail m))
    (behind_extends w (the t.View) (view_tail l) (view_tail m)
    (mapped_extends w view_of (both (name_reader l) (λ _. behind (the t.As) (query l))) (both (name_reader m) (λ _. behind (the t.As) (query m)))
    (named_extends w l m (behind (the t.As) (query l)) (behind (the t.As) (query m)) up (behind_extends w (the t.As) (query l) (query m) (query_extends w l m up)) (behind_stays (the t.As) (query m) (exact_stays (AQuery m) on_query (query m) (query-exact m))))))

creation_extends : (w : ℕ) → Grows w creation creation
unfolding creation
creation_extends w l m up =
    behind_extends w (the t.Create) (created l) (created m)
    (either_extends w (is (the t.Table)) (table l) (table m) (either (is (the t.Index)) (index l) (view l)) (either (is (the t.Index)) (index m) (view m)) (λ ts h. table_extends w l m up ts)
    (either_extends w (is (the t.Index)) (index l) (index m) (view l) (view m) (λ ts h. index_extends w l m up ts) (view_extends w l m up)))

direction_stays : Stays direction
direction_stays = exact_stays Direction (is direction_of) direction direction-exact

order_extends : (w : ℕ) → Grows w order order
unfolding order
order_extends w l m up =
    mapped_extends w order_of (both (key_reader l) (λ _. direction)) (both (key_reader m) (λ _. direction))
    (both_extends w (key_reader l) (key_reader m) (λ _. direction) (λ _. direction)
    (either_extends w is_number (mapped place_key (number_reader l)) (mapped place_key (number_reader m)) (mapped name_key (name_reader l)) (mapped name_key (name_reader m)) (λ ts h. mapped_extends w place_key (number_reader l) (number_reader m) (number_extends w l m up) ts) (mapped_extends w name_key (name_reader l) (name_reader m) (name_extends w l m up)))
    (λ _. mapped_extends w or_rising (perhaps (is direction_of) (one direction_of)) (perhaps (is direction_of) (one direction_of)) (perhaps_extends w (is direction_of) (one direction_of) (one direction_of) (one_extends w direction_of)))
    (λ _. direction_stays))

ordering_extends : (w : ℕ) → Grows w ordering ordering
ordering_extends w l m up =
    mapped_extends w or_none (perhaps (is (the t.Order)) (behind (the t.Order) (by_orders l))) (perhaps (is (the t.Order)) (behind (the t.Order) (by_orders m)))
    (perhaps_extends w (is (the t.Order)) (behind (the t.Order) (by_orders l)) (behind (the t.Order) (by_orders m))
    (behind_extends w (the t.Order) (by_orders l) (by_orders m)
    (behind_extends w (the t.By) (comma_list (order l)) (comma_list (order m))
    (listed_extends w (order l) (order m) (order_extends w l m up) (exact_stays _ _ (order m) (order-exact m))))))

selection_extends : (w : ℕ) → Grows w selection selection
unfolding selection
selection_extends w l m up =
    mapped_extends w selection_of (both (query l) (λ _. ordering l)) (both (query m) (λ _. ordering m))
    (both_extends w (query l) (query m) (λ _. ordering l) (λ _. ordering m) (query_extends w l m up) (λ _. ordering_extends w l m up) (λ _. exact_stays (Ordering m) _ (ordering m) (ordering-exact m)))

tuple_extends : (w : ℕ) → Grows w tuple tuple
unfolding tuple
tuple_extends w l m up = enclosed_extends w (comma_list (expression l)) (comma_list (expression m)) (listed_extends w (expression l) (expression m) (expression_extends w l m up) (exact_stays (AnExpression m) on_expression (expression m) (expression-exact m)))

tuples_extends : (w : ℕ) → Grows w tuples tuples
unfolding tuples
tuples_extends w l m up = listed_to_extends w 5 l.rows m.rows (ATuple l) never (is (the t.Open)) (tuple l) (tuple m) (tuple-exact l) (tuple_starts l) (tuple_extends w l m up) (exact_stays (ATuple m) never (tuple m) (tuple-exact m)) (λ h. up.agree.rows (above w 5 h), up.rows)

insertion_extends : (w : ℕ) → Grows w insertion insertion
unfolding insertion
insertion_extends w l m up =
    behind_extends w (the t.Insert) (behind (the t.Into) (mapped insertion_of (inserted l))) (behind (the t.Into) (mapped insertion_of (inserted m)))
    (behind_extends w (the t.Into) (mapped insertion_of (inserted l)) (mapped insertion_of (inserted m))
    (mapped_extends w insertion_of (inserted l) (inserted m)
    (named_extends w l m (behind (the t.Values) (tuples l)) (behind (the t.Values) (tuples m)) up (behind_extends w (the t.Values) (tuples l) (tuples m) (tuples_extends w l m up)) (behind_stays (the t.Values) (tuples m) (exact_stays (Tuples m) comma (tuples m) (tuples-exact m))))))

assignment_extends : (w : ℕ) → Grows w assignment assignment
unfolding assignment
assignment_extends w l m up =
    mapped_extends w set_of (both (name_reader l) (λ _. behind (the t.Equal) (expression l))) (both (name_reader m) (λ _. behind (the t.Equal) (expression m)))
    (named_extends w l m (behind (the t.Equal) (expression l)) (behind (the t.Equal) (expression m)) up (behind_extends w (the t.Equal) (expression l) (expression m) (expression_extends w l m up)) (behind_stays (the t.Equal) (expression m) (exact_stays (AnExpression m) on_expression (expression m) (expression-exact m))))

update_extends : (w : ℕ) → Grows w update update
unfolding update
update_extends w l m up =
    behind_extends w (the t.Update) (mapped update_of (updated l)) (mapped update_of (updated m))
    (mapped_extends w update_of (updated l) (updated m)
    (named_extends w l m (behind (the t.Set) (assignments l)) (behind (the t.Set) (assignments m)) up
    (behind_extends w (the t.Set) (assignments l) (assignments m)
    (both_extends w (comma_list (assignment l)) (comma_list (assignment m)) (λ _. condition l) (λ _. condition m) (listed_extends w (assignment l) (assignment m) (assignment_extends w l m up) (exact_stays _ _ (assignment m) (assignment-exact m))) (λ _. condition_extends w l m up) (λ _. condition_stays m)))
    (behind_stays (the t.Set) (assignments m) (exact_stays (Assignments m) _ (assignments m) (assignments-exact m)))))

deletion_extends : (w : ℕ) → Grows w deletion deletion
unfolding deletion
deletion_extends w l m up =
    behind_extends w (the t.Delete) (behind (the t.From) (mapped deletion_of (deleted l))) (behind (the t.From) (mapped deletion_of (deleted m)))
    (behind_extends w (the t.From) (mapped deletion_of (deleted l)) (mapped deletion_of (deleted m))
    (mapped_extends w deletion_of (deleted l) (deleted m) (named_extends w l m (condition l) (condition m) up (condition_extends w l m up) (condition_stays m))))

control_extends : (w : ℕ) → Grows w control control
unfolding control
control_extends w l m up =
    either_extends w (is (the t.Begin)) (behind (the t.Begin) begun) (behind (the t.Begin) begun) (either (is (the t.Commit)) (mapped commit_of (one (the t.Commit))) (either (is (the t.Rollback)) (behind (the t.Rollback) (returned l)) (behind (the t.Savepoint) (mapped s.savepoint (name_reader l))))) (either (is (the t.Commit)) (mapped commit_of (one (the t.Commit))) (either (is (the t.Rollback)) (behind (the t.Rollback) (returned m)) (behind (the t.Savepoint) (mapped s.savepoint (name_reader m)))))
    (λ ts h. behind_extends w (the t.Begin) begun begun (mapped_extends w begin_of (perhaps (is (the t.Snapshot)) (one (the t.Snapshot))) (perhaps (is (the t.Snapshot)) (one (the t.Snapshot))) (perhaps_extends w (is (the t.Snapshot)) (one (the t.Snapshot)) (one (the t.Snapshot)) (one_extends w (the t.Snapshot)))) ts)
    (either_extends w (is (the t.Commit)) (mapped commit_of (one (the t.Commit))) (mapped commit_of (one (the t.Commit))) (either (is (the t.Rollback)) (behind (the t.Rollback) (returned l)) (behind (the t.Savepoint) (mapped s.savepoint (name_reader l)))) (either (is (the t.Rollback)) (behind (the t.Rollback) (returned m)) (behind (the t.Savepoint) (mapped s.savepoint (name_reader m))))
    (λ ts h. mapped_extends w commit_of (one (the t.Commit)) (one (the t.Commit)) (one_extends w (the t.Commit)) ts)
    (either_extends w (is (the t.Rollback)) (behind (the t.Rollback) (returned l)) (behind (the t.Rollback) (returned m)) (behind (the t.Savepoint) (mapped s.savepoint (name_reader l))) (behind (the t.Savepoint) (mapped s.savepoint (name_reader m)))
    (λ ts h. behind_extends w (the t.Rollback) (returned l) (returned m) (mapped_extends w s.rollback (perhaps (is (the t.To)) (behind (the t.To) (name_reader l))) (perhaps (is (the t.To)) (behind (the t.To) (name_reader m))) (perhaps_extends w (is (the t.To)) (behind (the t.To) (name_reader l)) (behind (the t.To) (name_reader m)) (behind_extends w (the t.To) (name_reader l) (name_reader m) (name_extends w l m up)))) ts)
    (behind_extends w (the t.Savepoint) (mapped s.savepoint (name_reader l)) (mapped s.savepoint (name_reader m)) (mapped_extends w s.savepoint (name_reader l) (name_reader m) (name_extends w l m up)))))

statement_extends : (w : ℕ) → Grows w statement statement
unfolding statement
statement_extends w l m up =
    either_extends w (is (the t.Create)) (creation l) (creation m) (either (is (the t.Insert)) (insertion l) (either (is (the t.Update)) (update l) (either (is (the t.Delete)) (deletion l) (either (is (the t.Select)) (selection l) (control l))))) (either (is (the t.Insert)) (insertion m) (either (is (the t.Update)) (update m) (either (is (the t.Delete)) (deletion m) (either (is (the t.Select)) (selection m) (control m))))) (λ ts h. creation_extends w l m up ts)
    (either_extends w (is (the t.Insert)) (insertion l) (insertion m) (either (is (the t.Update)) (update l) (either (is (the t.Delete)) (deletion l) (either (is (the t.Select)) (selection l) (control l)))) (either (is (the t.Update)) (update m) (either (is (the t.Delete)) (deletion m) (either (is (the t.Select)) (selection m) (control m)))) (λ ts h. insertion_extends w l m up ts)
    (either_extends w (is (the t.Update)) (update l) (update m) (either (is (the t.Delete)) (deletion l) (either (is (the t.Select)) (selection l) (control l))) (either (is (the t.Delete)) (deletion m) (either (is (the t.Select)) (selection m) (control m))) (λ ts h. update_extends w l m up ts)
    (either_extends w (is (the t.Delete)) (deletion l) (deletion m) (either (is (the t.Select)) (selection l) (control l)) (either (is (the t.Select)) (selection m) (control m)) (λ ts h. deletion_extends w l m up ts)
    (either_extends w (is (the t.Select)) (selection l) (selection m) (control l) (control m) (λ ts h. selection_extends w l m up ts) (control_extends w l m up)))))

pub line_extends : (w : ℕ) → Grows w line line
unfolding line
line_extends w l m up =
    let r : Reader Symbol _ = perhaps (is (the t.Semicolon)) (one (the t.Semicolon)) in
    mapped_extends w (λ x. x.0) (both (statement l) (λ _. perhaps (is (the t.Semicolon)) (one (the t.Semicolon)))) (both (statement m) (λ _. perhaps (is (the t.Semicolon)) (one (the t.Semicolon))))
    (both_extends w (statement l) (statement m) (λ _. perhaps (is (the t.Semicolon)) (one (the t.Semicolon))) (λ _. perhaps (is (the t.Semicolon)) (one (the t.Semicolon))) (statement_extends w l m up)
    (λ _. perhaps_extends w (is (the t.Semicolon)) (one (the t.Semicolon)) (one (the t.Semicolon)) (one_extends w (the t.Semicolon)))
    (λ _. perhaps_stays (is (the t.Semicolon)) (one (the t.Semicolon)) (one_stays (the t.Semicolon))))
