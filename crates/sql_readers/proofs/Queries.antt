-- The readers of queries and of their order read the grammar.
use Rattle.std.proofs.Common.{ℕ, suc, Bool, List, [], length, Option, refl}
use Rattle.std.specs.Prelude.{◌||◌}
use Rattle.text_grammar.specs.Readers.{Reader, is, one, both, mapped, behind, either, perhaps}
use Rattle.text_grammar.specs.Languages.{Lang, One, Then, Behind, Mapped, Either, Perhaps}
use Rattle.text_grammar.specs.Places.{Begins}
use Rattle.text_grammar.proofs.Exactness.{Exact, never, StartsWith, StartsWithout, widened}
use Rattle.text_grammar.proofs.Tokens.{one-exact}
use Rattle.text_grammar.proofs.Combining.{mapped-exact, either-exact, perhaps-exact}
use Rattle.text_grammar.proofs.Repeating.{row-exact}
use Rattle.text_grammar.proofs.Starts.{one_starts, behind_starts, both_starts, mapped_starts, without, either_without, mapped_without, both_without, both_begins, mapped_begins, row_begins, perhaps_begins, left_begins, or_false}
use Rattle.iv_types.specs.declared.terminal.Terminal.{Terminal}
use Rattle.iv_types.specs.declared.terminal.Terminal.TheVariants as t
use Rattle.iv_types.specs.declared.expression.Ref.{Ref}
use Rattle.iv_types.specs.declared.statement.Relation.{Relation}
use Rattle.iv_types.specs.declared.statement.OrderKey.{OrderKey}
use Rattle.iv_types.specs.declared.statement.Order.{Order}
use Rattle.iv_types.specs.Tokens.{Symbol}
use Rattle.iv_types.specs.Limits.{Limits}
use Rattle.iv_types.specs.Syntax as s
use Rattle.iv_types.specs.Syntax.{Tree, ItemTree}
use Rattle.iv_types.specs.Expressions.{the, AName, ANumber, AReference, AnExpression}
use Rattle.iv_types.specs.Grammar as g
use Rattle.iv_types.specs.Grammar.{Listed, or_none, the_hole, Counted, Enclosed, AnAlias, sum_of, plain_of, AnItem, Items, relation_of, ASource, join_of, AJoin, Sources, first_source, with_join, From, ACondition, AGrouping, query_of, AQuery, direction_of, or_rising, place_key, name_key, order_of, AnOrder, selection_of, ASelection}
use Rattle.sql_readers.specs.Ladder.{is_name, is_number, name_reader, number_reader, reference, expression}
use Rattle.sql_readers.specs.Statements.{comma_list, counted, enclosed, alias, item, items, source, join, from, condition, grouping, query, key_reader, direction, order, ordering, selection}
use Rattle.sql_readers.proofs.Apart.{apart_kinds, name_not_fixed, number_not_fixed, text_not_fixed, name_not_number, on_unary, on_expression}
use Rattle.sql_readers.proofs.Ladder.{name-exact, number-exact, name_begins, number_begins, name_starts, number_starts, behind_the, behind_some, the_begins, reference-exact, reference_begins, expression-exact, expression_begins, expression_without}
use Rattle.sql_readers.proofs.Lists.{Follows, Covers, Ends, follows_perhaps, follows_starts, follows_then, follows_mapped, follows_never, then_by, optional-exact, enclosed-exact, enclosed_begins, listed-exact, listed_begins, counted-exact, counted_begins, listed_to-exact, listed_to_begins}
use Rattle.sql_readers.proofs.GoingOn.{as_token, on_item, on_items, on_from, on_condition, on_references, on_grouping, on_query, on_orders, on_ordering, on_selection, from_covered, condition_covered, grouping_covered, Ended, comma_ends_item, as_ends_expression, join_ends_item, from_ends_items, where_ends_from, group_ends_from, group_ends_condition, order_ends_query, close_ends_unary, comma_ends_unary, comma_ends_direction, on_ends_alias, never_ends, hole_apart, hole_not_name, hole_not_number, hole_not_text}

-- ---- queries

pub alias-exact : (l : Limits) → Exact (AnAlias l) as_token (alias l)
alias-exact l = optional-exact t.As (AName l) never (name_reader l) (name-exact l) (name_begins l)

alias_begins : (l : Limits) → Begins (AnAlias l) []
alias_begins l = perhaps_begins (Behind (the t.As) (AName l))

alias_starts : (l : Limits) → StartsWith (Behind (the t.As) (AName l)) as_token
alias_starts l = behind_starts (the t.As) (AName l)

-- something, and perhaps its name
pub aliased-exact : {A : Type 0} (l : Limits) (p : Lang Symbol A) (on : Symbol → Bool) (r : Reader Symbol A) → Exact p on r → Ends as_token on → Exact (Then p (AnAlias l)) (λ x. on x || as_token x) (both r (λ _. alias l))
aliased-exact l p on r e ends =
    then_by p (AnAlias l) on as_token (λ x. on x || as_token x) r (alias l) e (alias-exact l) (alias_begins l)
    (follows_perhaps as_token (Behind (the t.As) (AName l)) on (λ x. on x || as_token x) (alias_starts l) ends (λ x h. (or_false (on x) (as_token x) h).0))
    (λ x h. (or_false (on x) (as_token x) h).1)

alias_covered : Covers on_item as_token
alias_covered x h = (or_false (on_expression x) (as_token x) h).1

abbrev pub CountTail : Limits → Lang Symbol ItemTree
CountTail l = Behind (the t.Open) (Behind (the t.Star) (Behind (the t.Close) (Mapped s.count (AnAlias l))))

abbrev pub count_tail : Limits → Reader Symbol ItemTree
count_tail l = behind (the t.Open) (behind (the t.Star) (behind (the t.Close) (mapped s.count (alias l))))

count_begins : (l : Limits) → Begins (Mapped s.count (AnAlias l)) []
count_begins l = mapped_begins s.count (AnAlias l) (alias_begins l)

pub count_tail-exact : (l : Limits) → Exact (CountTail l) as_token (count_tail l)
count_tail-exact l =
    behind_the t.Open (Behind (the t.Star) (Behind (the t.Close) (Mapped s.count (AnAlias l)))) as_token (behind (the t.Star) (behind (the t.Close) (mapped s.count (alias l))))
    (behind_the t.Star (Behind (the t.Close) (Mapped s.count (AnAlias l))) as_token (behind (the t.Close) (mapped s.count (alias l)))
    (behind_the t.Close (Mapped s.count (AnAlias l)) as_token (mapped s.count (alias l)) (mapped-exact s.count (AnAlias l) as_token (alias l) (alias-exact l)) (count_begins l))
    (behind_some t.Close (Mapped s.count (AnAlias l)) (count_begins l)))
    (behind_some t.Star (Behind (the t.Close) (Mapped s.count (AnAlias l))) (behind_some t.Close (Mapped s.count (AnAlias l)) (count_begins l)))

count_tail_begins : (l : Limits) → Begins (CountTail l) []
count_tail_begins l = behind_some t.Open (Behind (the t.Star) (Behind (the t.Close) (Mapped s.count (AnAlias l)))) (behind_some t.Star (Behind (the t.Close) (Mapped s.count (AnAlias l))) (behind_some t.Close (Mapped s.count (AnAlias l)) (count_begins l)))

abbrev pub SumTail : Limits → Lang Symbol ItemTree
SumTail l = Mapped sum_of (Then (Enclosed (AReference l)) (AnAlias l))

abbrev pub sum_tail : Limits → Reader Symbol ItemTree
sum_tail l = mapped sum_of (both (enclosed (reference l)) (λ _. alias l))

pub sum_tail-exact : (l : Limits) → Exact (SumTail l) as_token (sum_tail l)
sum_tail-exact l =
    mapped-exact sum_of (Then (Enclosed (AReference l)) (AnAlias l)) as_token (both (enclosed (reference l)) (λ _. alias l))
    (aliased-exact l (Enclosed (AReference l)) never (enclosed (reference l)) (enclosed-exact (AReference l) on_unary (reference l) (reference-exact l) (reference_begins l) close_ends_unary) (never_ends as_token))

sum_tail_begins : (l : Limits) → Begins (SumTail l) []
sum_tail_begins l = mapped_begins sum_of (Then (Enclosed (AReference l)) (AnAlias l)) (both_begins (Enclosed (AReference l)) (λ _. AnAlias l) (enclosed_begins (AReference l) (reference_begins l)) (λ _. alias_begins l))

abbrev pub PlainItem : Limits → Lang Symbol ItemTree
PlainItem l = Mapped plain_of (Then (AnExpression l) (AnAlias l))

abbrev pub plain_item : Limits → Reader Symbol ItemTree
plain_item l = mapped plain_of (both (expression l) (λ _. alias l))

pub plain_item-exact : (l : Limits) → Exact (PlainItem l) on_item (plain_item l)
plain_item-exact l = mapped-exact plain_of (Then (AnExpression l) (AnAlias l)) on_item (both (expression l) (λ _. alias l)) (aliased-exact l (AnExpression l) on_expression (expression l) (expression-exact l) as_ends_expression)

plain_without : (l : Limits) (other : Symbol → Bool) → StartsWithout (AnExpression l) other → StartsWithout (PlainItem l) other
plain_without l other w = mapped_without plain_of (Then (AnExpression l) (AnAlias l)) other (both_without (AnExpression l) (λ _. AnAlias l) other w)

-- a keyword or mark with which no expression begins
expression_not : (l : Limits) (k : Terminal) → Ended t.Not (is (the k)) → Ended t.Minus (is (the k)) → Ended t.Open (is (the k)) → StartsWithout (AnExpression l) (is (the k))
expression_not l k v m o = expression_without l (is (the k)) v m o (number_not_fixed k) (text_not_fixed k) (name_not_fixed k)

abbrev pub AllItem : Lang Symbol ItemTree
AllItem = Mapped g.all_of (One (the t.Star))

abbrev pub all_item : Reader Symbol ItemTree
all_item = mapped g.all_of (one (the t.Star))

pub all_item-exact : Exact AllItem never all_item
all_item-exact = mapped-exact g.all_of (One (the t.Star)) never (one (the t.Star)) (one-exact (the t.Star))

abbrev pub CountItem : Limits → Lang Symbol ItemTree
CountItem l = Behind (the t.Count) (CountTail l)

abbrev pub SumItem : Limits → Lang Symbol ItemTree
SumItem l = Behind (the t.Sum) (SumTail l)

pub item-exact : (l : Limits) → Exact (AnItem l) on_item (item l)
unfolding AnItem item
item-exact l =
    either-exact (is (the t.Star)) AllItem (Either (CountItem l) (Either (SumItem l) (PlainItem l))) on_item all_item (either (is (the t.Count)) (behind (the t.Count) (count_tail l)) (either (is (the t.Sum)) (behind (the t.Sum) (sum_tail l)) (plain_item l)))
    (widened AllItem never on_item all_item all_item-exact (λ x h. refl))
    (either-exact (is (the t.Count)) (CountItem l) (Either (SumItem l) (PlainItem l)) on_item (behind (the t.Count) (count_tail l)) (either (is (the t.Sum)) (behind (the t.Sum) (sum_tail l)) (plain_item l))
    (widened (CountItem l) as_token on_item (behind (the t.Count) (count_tail l)) (behind_the t.Count (CountTail l) as_token (count_tail l) (count_tail-exact l) (count_tail_begins l)) alias_covered)
    (either-exact (is (the t.Sum)) (SumItem l) (PlainItem l) on_item (behind (the t.Sum) (sum_tail l)) (plain_item l)
    (widened (SumItem l) as_token on_item (behind (the t.Sum) (sum_tail l)) (behind_the t.Sum (SumTail l) as_token (sum_tail l) (sum_tail-exact l) (sum_tail_begins l)) alias_covered)
    (plain_item-exact l) (behind_starts (the t.Sum) (SumTail l))
    (plain_without l (is (the t.Sum)) (expression_not l t.Sum (λ x h. apart_kinds t.Not t.Sum x refl h) (λ x h. apart_kinds t.Minus t.Sum x refl h) (λ x h. apart_kinds t.Open t.Sum x refl h))))
    (behind_starts (the t.Count) (CountTail l))
    (either_without (SumItem l) (PlainItem l) (is (the t.Count)) (without (SumItem l) (is (the t.Sum)) (is (the t.Count)) (behind_starts (the t.Sum) (SumTail l)) (λ x h. apart_kinds t.Sum t.Count x refl h))
    (plain_without l (is (the t.Count)) (expression_not l t.Count (λ x h. apart_kinds t.Not t.Count x refl h) (λ x h. apart_kinds t.Minus t.Count x refl h) (λ x h. apart_kinds t.Open t.Count x refl h)))))
    (mapped_starts g.all_of (One (the t.Star)) (is (the t.Star)) (one_starts (the t.Star)))
    (either_without (CountItem l) (Either (SumItem l) (PlainItem l)) (is (the t.Star)) (without (CountItem l) (is (the t.Count)) (is (the t.Star)) (behind_starts (the t.Count) (CountTail l)) (λ x h. apart_kinds t.Count t.Star x refl h))
    (either_without (SumItem l) (PlainItem l) (is (the t.Star)) (without (SumItem l) (is (the t.Sum)) (is (the t.Star)) (behind_starts (the t.Sum) (SumTail l)) (λ x h. apart_kinds t.Sum t.Star x refl h))
    (plain_without l (is (the t.Star)) (expression_not l t.Star (λ x h. apart_kinds t.Not t.Star x refl h) (λ x h. apart_kinds t.Minus t.Star x refl h) (λ x h. apart_kinds t.Open t.Star x refl h)))))

item_begins : (l : Limits) → Begins (AnItem l) []
unfolding AnItem
item_begins l = left_begins AllItem (Either (CountItem l) (Either (SumItem l) (PlainItem l))) (mapped_begins g.all_of (One (the t.Star)) (the_begins t.Star))

item_no_hole : (l : Limits) → StartsWithout (AnItem l) (is the_hole)
unfolding AnItem
item_no_hole l =
    either_without AllItem (Either (CountItem l) (Either (SumItem l) (PlainItem l))) (is the_hole)
    (without AllItem (is (the t.Star)) (is the_hole) (mapped_starts g.all_of (One (the t.Star)) (is (the t.Star)) (one_starts (the t.Star))) (hole_apart t.Star))
    (either_without (CountItem l) (Either (SumItem l) (PlainItem l)) (is the_hole) (without (CountItem l) (is (the t.Count)) (is the_hole) (behind_starts (the t.Count) (CountTail l)) (hole_apart t.Count))
    (either_without (SumItem l) (PlainItem l) (is the_hole) (without (SumItem l) (is (the t.Sum)) (is the_hole) (behind_starts (the t.Sum) (SumTail l)) (hole_apart t.Sum))
    (plain_without l (is the_hole) (expression_without l (is the_hole) (hole_apart t.Not) (hole_apart t.Minus) (hole_apart t.Open) (hole_not_number) (hole_not_text) (hole_not_name)))))

pub items-exact : (l : Limits) → Exact (Items l) on_items (items l)
unfolding Items items
items-exact l = listed_to-exact 17 l.items (AnItem l) on_item (item l) (item-exact l) (item_no_hole l) comma_ends_item

items_begins : (l : Limits) → Begins (Items l) []
unfolding Items
items_begins l = listed_to_begins l.items (AnItem l) (item_begins l)

pub source-exact : (l : Limits) → Exact (ASource l) as_token (source l)
unfolding ASource source
source-exact l = mapped-exact relation_of (Then (AName l) (AnAlias l)) as_token (both (name_reader l) (λ _. alias l)) (aliased-exact l (AName l) never (name_reader l) (name-exact l) (never_ends as_token))

source_begins : (l : Limits) → Begins (ASource l) []
unfolding ASource
source_begins l = mapped_begins relation_of (Then (AName l) (AnAlias l)) (both_begins (AName l) (λ _. AnAlias l) (name_begins l) (λ _. alias_begins l))

pub source_starts : (l : Limits) → StartsWith (ASource l) is_name
unfolding ASource
source_starts l = mapped_starts relation_of (Then (AName l) (AnAlias l)) is_name (both_starts (AName l) (λ _. AnAlias l) is_name (name_starts l))

abbrev pub CountedSource : Limits → ℕ → Lang Symbol (Option Relation)
CountedSource l have = Counted have l.relations (ASource l)

abbrev pub counted_source : Limits → ℕ → Reader Symbol (Option Relation)
counted_source l have = counted 7 have l.relations (source l)

pub counted_source-exact : (l : Limits) (have : ℕ) → Exact (CountedSource l have) as_token (counted_source l have)
counted_source-exact l have = counted-exact 7 have l.relations (ASource l) as_token (source l) (source-exact l) (without (ASource l) is_name (is the_hole) (source_starts l) hole_not_name)

abbrev pub OnPart : Limits → Lang Symbol Tree
OnPart l = Behind (the t.On) (AnExpression l)

abbrev pub on_part : Limits → Reader Symbol Tree
on_part l = behind (the t.On) (expression l)

pub on_part-exact : (l : Limits) → Exact (OnPart l) on_expression (on_part l)
on_part-exact l = behind_the t.On (AnExpression l) on_expression (expression l) (expression-exact l) (expression_begins l)

on_part_begins : (l : Limits) → Begins (OnPart l) []
on_part_begins l = behind_some t.On (AnExpression l) (expression_begins l)

join_rest_begins : (l : Limits) (have : ℕ) → Begins (Mapped join_of (Then (CountedSource l have) (OnPart l))) []
join_rest_begins l have = mapped_begins join_of (Then (CountedSource l have) (OnPart l)) (both_begins (CountedSource l have) (λ _. OnPart l) (counted_begins have l.relations (ASource l)) (λ _. on_part_begins l))

pub join-exact : (l : Limits) (have : ℕ) → Exact (AJoin l have) on_expression (join l have)
unfolding AJoin join
join-exact l have =
    behind_the t.Join (Mapped join_of (Then (CountedSource l have) (OnPart l))) on_expression (mapped join_of (both (counted_source l have) (λ _. on_part l)))
    (mapped-exact join_of (Then (CountedSource l have) (OnPart l)) on_expression (both (counted_source l have) (λ _. on_part l))
    (then_by (CountedSource l have) (OnPart l) as_token on_expression on_expression (counted_source l have) (on_part l) (counted_source-exact l have) (on_part-exact l) (on_part_begins l)
    (follows_starts (is (the t.On)) (OnPart l) as_token on_expression (behind_starts (the t.On) (AnExpression l)) on_ends_alias) (λ x h. h)))
    (join_rest_begins l have)

pub join_starts : (l : Limits) (have : ℕ) → StartsWith (AJoin l have) (is (the t.Join))
unfolding AJoin
join_starts l have = behind_starts (the t.Join) (Mapped join_of (Then (CountedSource l have) (OnPart l)))

pub from-exact : (l : Limits) → Exact (From l) on_from (from l)
unfolding From from
from-exact l =
    row-exact (is (the t.Join)) first_source with_join (ASource l) (λ f. AJoin l (suc (length f.1))) on_item on_from (source l) (λ f. join l (suc (length f.1)))
    (widened (ASource l) as_token on_item (source l) (source-exact l) alias_covered)
    (λ f. widened (AJoin l (suc (length f.1))) on_expression on_item (join l (suc (length f.1))) (join-exact l (suc (length f.1))) (λ x h. (or_false (on_expression x) (as_token x) h).0))
    (λ f. join_starts l (suc (length f.1)))
    (join_ends_item, λ x h. or_false (on_item x) (is (the t.Join) x) h)

from_begins : (l : Limits) → Begins (From l) []
unfolding From
from_begins l = row_begins first_source with_join (ASource l) (λ f. AJoin l (suc (length f.1))) (source_begins l)

pub condition-exact : (l : Limits) → Exact (ACondition l) on_condition (condition l)
unfolding ACondition condition
condition-exact l = optional-exact t.Where (AnExpression l) on_expression (expression l) (expression-exact l) (expression_begins l)

pub condition_begins : (l : Limits) → Begins (ACondition l) []
unfolding ACondition
condition_begins l = perhaps_begins (Behind (the t.Where) (AnExpression l))

pub condition_follows : (l : Limits) (on big : Symbol → Bool) → Ended t.Where on → Covers big on → Follows (ACondition l) on big
unfolding ACondition
condition_follows l on big ends covers = follows_perhaps (is (the t.Where)) (Behind (the t.Where) (AnExpression l)) on big (behind_starts (the t.Where) (AnExpression l)) ends covers

abbrev pub ByReferences : Limits → Lang Symbol (List Ref)
ByReferences l = Behind (the t.By) (Listed (AReference l))

abbrev pub by_references : Limits → Reader Symbol (List Ref)
by_references l = behind (the t.By) (comma_list (reference l))

references_begin : (l : Limits) → Begins (Listed (AReference l)) []
references_begin l = listed_begins (AReference l) (reference_begins l)

pub grouping-exact : (l : Limits) → Exact (AGrouping l) on_grouping (grouping l)
unfolding AGrouping grouping
grouping-exact l =
    mapped-exact or_none (Perhaps (Behind (the t.Group) (ByReferences l))) on_grouping (perhaps (is (the t.Group)) (behind (the t.Group) (by_references l)))
    (optional-exact t.Group (ByReferences l) on_references (by_references l)
    (behind_the t.By (Listed (AReference l)) on_references (comma_list (reference l)) (listed-exact (AReference l) on_unary (reference l) (reference-exact l) (reference_begins l) comma_ends_unary) (references_begin l))
    (behind_some t.By (Listed (AReference l)) (references_begin l)))

grouping_begins : (l : Limits) → Begins (AGrouping l) []
unfolding AGrouping
grouping_begins l = mapped_begins or_none (Perhaps (Behind (the t.Group) (ByReferences l))) (perhaps_begins (Behind (the t.Group) (ByReferences l)))

grouping_follows : (l : Limits) (on big : Symbol → Bool) → Ended t.Group on → Covers big on → Follows (AGrouping l) on big
unfolding AGrouping
grouping_follows l on big ends covers = follows_mapped or_none (Perhaps (Behind (the t.Group) (ByReferences l))) on big (follows_perhaps (is (the t.Group)) (Behind (the t.Group) (ByReferences l)) on big (behind_starts (the t.Group) (ByReferences l)) ends covers)

abbrev pub Tail : Limits → Lang Symbol (Option Tree × List Ref)
Tail l = Then (ACondition l) (AGrouping l)

abbrev pub tail : Limits → Reader Symbol (Option Tree × List Ref)
tail l = both (condition l) (λ _. grouping l)

pub tail-exact : (l : Limits) → Exact (Tail l) on_query (tail l)
tail-exact l = then_by (ACondition l) (AGrouping l) on_condition on_grouping on_query (condition l) (grouping l) (condition-exact l) (grouping-exact l) (grouping_begins l) (grouping_follows l on_condition on_query group_ends_condition condition_covered) grouping_covered

tail_begins : (l : Limits) → Begins (Tail l) []
tail_begins l = both_begins (ACondition l) (λ _. AGrouping l) (condition_begins l) (λ _. grouping_begins l)

abbrev pub Body : Limits → Lang Symbol (Sources × (Option Tree × List Ref))
Body l = Then (From l) (Tail l)

abbrev pub body : Limits → Reader Symbol (Sources × (Option Tree × List Ref))
body l = both (from l) (λ _. tail l)

pub body-exact : (l : Limits) → Exact (Body l) on_query (body l)
body-exact l = then_by (From l) (Tail l) on_from on_query on_query (from l) (tail l) (from-exact l) (tail-exact l) (tail_begins l) (follows_then (ACondition l) (AGrouping l) on_from on_from on_query (condition_follows l on_from on_from where_ends_from (λ x h. h)) (grouping_follows l on_from on_query group_ends_from from_covered)) (λ x h. h)

body_begins : (l : Limits) → Begins (Body l) []
body_begins l = both_begins (From l) (λ _. Tail l) (from_begins l) (λ _. tail_begins l)

abbrev pub Selected : Limits → Lang Symbol (List ItemTree × (Sources × (Option Tree × List Ref)))
Selected l = Then (Items l) (Behind (the t.From) (Body l))

abbrev pub selected : Limits → Reader Symbol (List ItemTree × (Sources × (Option Tree × List Ref)))
selected l = both (items l) (λ _. behind (the t.From) (body l))

pub selected-exact : (l : Limits) → Exact (Selected l) on_query (selected l)
selected-exact l = then_by (Items l) (Behind (the t.From) (Body l)) on_items on_query on_query (items l) (behind (the t.From) (body l)) (items-exact l) (behind_the t.From (Body l) on_query (body l) (body-exact l) (body_begins l)) (behind_some t.From (Body l) (body_begins l)) (follows_starts (is (the t.From)) (Behind (the t.From) (Body l)) on_items on_query (behind_starts (the t.From) (Body l)) from_ends_items) (λ x h. h)

selected_begins : (l : Limits) → Begins (Mapped query_of (Selected l)) []
selected_begins l = mapped_begins query_of (Selected l) (both_begins (Items l) (λ _. Behind (the t.From) (Body l)) (items_begins l) (λ _. behind_some t.From (Body l) (body_begins l)))

pub query-exact : (l : Limits) → Exact (AQuery l) on_query (query l)
unfolding AQuery query
query-exact l = behind_the t.Select (Mapped query_of (Selected l)) on_query (mapped query_of (selected l)) (mapped-exact query_of (Selected l) on_query (selected l) (selected-exact l)) (selected_begins l)

pub query_begins : (l : Limits) → Begins (AQuery l) []
unfolding AQuery
query_begins l = behind_some t.Select (Mapped query_of (Selected l)) (selected_begins l)

query_starts : (l : Limits) → StartsWith (AQuery l) (is (the t.Select))
unfolding AQuery
query_starts l = behind_starts (the t.Select) (Mapped query_of (Selected l))

-- ---- ORDER BY

abbrev pub Direction : Lang Symbol Bool
Direction = Mapped or_rising (Perhaps (One direction_of))

pub direction-exact : Exact Direction (is direction_of) direction
direction-exact = mapped-exact or_rising (Perhaps (One direction_of)) (is direction_of) (perhaps (is direction_of) (one direction_of)) (perhaps-exact (is direction_of) (One direction_of) never (is direction_of) (one direction_of) (one-exact direction_of) (one_starts direction_of) (λ x h. (refl, h)))

direction_begins : Begins Direction []
direction_begins = mapped_begins or_rising (Perhaps (One direction_of)) (perhaps_begins (One direction_of))

abbrev pub Key : Limits → Lang Symbol OrderKey
Key l = Either (Mapped place_key (ANumber l)) (Mapped name_key (AName l))

pub key-exact : (l : Limits) → Exact (Key l) never (key_reader l)
key-exact l = either-exact is_number (Mapped place_key (ANumber l)) (Mapped name_key (AName l)) never (mapped place_key (number_reader l)) (mapped name_key (name_reader l)) (mapped-exact place_key (ANumber l) never (number_reader l) (number-exact l)) (mapped-exact name_key (AName l) never (name_reader l) (name-exact l)) (mapped_starts place_key (ANumber l) is_number (number_starts l)) (without (Mapped name_key (AName l)) is_name is_number (mapped_starts name_key (AName l) is_name (name_starts l)) name_not_number)

key_begins : (l : Limits) → Begins (Key l) []
key_begins l = left_begins (Mapped place_key (ANumber l)) (Mapped name_key (AName l)) (mapped_begins place_key (ANumber l) (number_begins l))

pub order-exact : (l : Limits) → Exact (AnOrder l) (is direction_of) (order l)
unfolding AnOrder order
order-exact l =
    mapped-exact order_of (Then (Key l) Direction) (is direction_of) (both (key_reader l) (λ _. direction))
    (then_by (Key l) Direction never (is direction_of) (is direction_of) (key_reader l) direction (key-exact l) direction-exact direction_begins (follows_never Direction (is direction_of)) (λ x h. h))

order_begins : (l : Limits) → Begins (AnOrder l) []
unfolding AnOrder
order_begins l = mapped_begins order_of (Then (Key l) Direction) (both_begins (Key l) (λ _. Direction) (key_begins l) (λ _. direction_begins))

abbrev pub ByOrders : Limits → Lang Symbol (List Order)
ByOrders l = Behind (the t.By) (Listed (AnOrder l))

abbrev pub by_orders : Limits → Reader Symbol (List Order)
by_orders l = behind (the t.By) (comma_list (order l))

orders_begin : (l : Limits) → Begins (Listed (AnOrder l)) []
orders_begin l = listed_begins (AnOrder l) (order_begins l)

abbrev pub Ordering : Limits → Lang Symbol (List Order)
Ordering l = Mapped or_none (Perhaps (Behind (the t.Order) (ByOrders l)))

pub ordering-exact : (l : Limits) → Exact (Ordering l) on_ordering (ordering l)
ordering-exact l =
    mapped-exact or_none (Perhaps (Behind (the t.Order) (ByOrders l))) on_ordering (perhaps (is (the t.Order)) (behind (the t.Order) (by_orders l)))
    (optional-exact t.Order (ByOrders l) on_orders (by_orders l)
    (behind_the t.By (Listed (AnOrder l)) on_orders (comma_list (order l)) (listed-exact (AnOrder l) (is direction_of) (order l) (order-exact l) (order_begins l) comma_ends_direction) (orders_begin l))
    (behind_some t.By (Listed (AnOrder l)) (orders_begin l)))

ordering_begins : (l : Limits) → Begins (Ordering l) []
ordering_begins l = mapped_begins or_none (Perhaps (Behind (the t.Order) (ByOrders l))) (perhaps_begins (Behind (the t.Order) (ByOrders l)))

pub selection-exact : (l : Limits) → Exact (ASelection l) on_selection (selection l)
unfolding ASelection selection
selection-exact l =
    mapped-exact selection_of (Then (AQuery l) (Ordering l)) on_selection (both (query l) (λ _. ordering l))
    (then_by (AQuery l) (Ordering l) on_query on_ordering on_selection (query l) (ordering l) (query-exact l) (ordering-exact l) (ordering_begins l)
    (follows_mapped or_none (Perhaps (Behind (the t.Order) (ByOrders l))) on_query on_selection (follows_perhaps (is (the t.Order)) (Behind (the t.Order) (ByOrders l)) on_query on_selection (behind_starts (the t.Order) (ByOrders l)) order_ends_query (λ x h. (or_false (on_query x) (on_ordering x) h).0)))
    (λ x h. (or_false (on_query x) (on_ordering x) h).1))

pub selection_starts : (l : Limits) → StartsWith (ASelection l) (is (the t.Select))
unfolding ASelection
selection_starts l = mapped_starts selection_of (Then (AQuery l) (Ordering l)) (is (the t.Select)) (both_starts (AQuery l) (λ _. Ordering l) (is (the t.Select)) (query_starts l))
