-- With which tokens each part of a statement goes on, and which end it.
use Rattle.std.proofs.Common.{◌≡◌, Bool, true, false, refl}
use Rattle.std.specs.Prelude.{◌||◌}
use Rattle.text_grammar.specs.Readers.{is}
use Rattle.text_grammar.proofs.Exactness.{never}
use Rattle.text_grammar.proofs.Starts.{or_false}
use Rattle.iv_types.specs.declared.terminal.Terminal.{Terminal}
use Rattle.iv_types.specs.declared.terminal.Terminal.TheVariants as t
use Rattle.iv_types.specs.Terminals.{same}
use Rattle.iv_types.specs.Tokens.{Symbol, fixed, name, number, text}
use Rattle.iv_types.specs.Expressions.{or_op, and_op, comparison_op, sum_op, product_op, the}
use Rattle.iv_types.specs.Grammar.{the_hole, kind_of, direction_of}
use Rattle.sql_readers.specs.Ladder.{is_name, is_number, is_text}
use Rattle.sql_readers.proofs.Apart.{on_unary, on_product, on_sum, on_comparison, on_conjunction, on_expression}
use Rattle.sql_readers.proofs.Lists.{Covers, Ends, comma}

-- ---- what goes on with each

abbrev pub as_token : Symbol → Bool
as_token = is (the t.As)

abbrev pub on_item : Symbol → Bool
on_item x = on_expression x || as_token x

abbrev pub on_items : Symbol → Bool
on_items x = on_item x || comma x

abbrev pub on_from : Symbol → Bool
on_from x = on_item x || is (the t.Join) x

abbrev pub on_condition : Symbol → Bool
on_condition x = on_expression x || is (the t.Where) x

abbrev pub on_references : Symbol → Bool
on_references x = on_unary x || comma x

abbrev pub on_grouping : Symbol → Bool
on_grouping x = on_references x || is (the t.Group) x

abbrev pub on_query : Symbol → Bool
on_query x = (on_from x || is (the t.Where) x) || (comma x || is (the t.Group) x)

abbrev pub on_orders : Symbol → Bool
on_orders x = is direction_of x || comma x

abbrev pub on_ordering : Symbol → Bool
on_ordering x = on_orders x || is (the t.Order) x

abbrev pub on_selection : Symbol → Bool
on_selection x = on_query x || on_ordering x

abbrev pub on_sets : Symbol → Bool
on_sets x = on_expression x || comma x

abbrev pub on_statement : Symbol → Bool
on_statement x = on_selection x || (is (the t.Snapshot) x || is (the t.To) x)

abbrev pub on_line : Symbol → Bool
on_line x = on_statement x || is (the t.Semicolon) x

-- ---- tests that cover others

unary_covered : Covers on_expression on_unary
unary_covered x h =
    let a = or_false (on_conjunction x) (is or_op x) h in
    let b = or_false (on_comparison x) (is and_op x) a.0 in
    let c = or_false (on_sum x) (is comparison_op x) b.0 in
    let d = or_false (on_product x) (is sum_op x) c.0 in
    (or_false (on_unary x) (is product_op x) d.0).0

item_covered : Covers on_query on_item
item_covered x h = let a = or_false (on_from x || is (the t.Where) x) (comma x || is (the t.Group) x) h in let b = or_false (on_from x) (is (the t.Where) x) a.0 in (or_false (on_item x) (is (the t.Join) x) b.0).0

pub from_covered : Covers on_query on_from
from_covered x h = let a = or_false (on_from x || is (the t.Where) x) (comma x || is (the t.Group) x) h in (or_false (on_from x) (is (the t.Where) x) a.0).0

pub expression_covered : Covers on_query on_expression
expression_covered x h = (or_false (on_expression x) (as_token x) (item_covered x h)).0

pub condition_covered : Covers on_query on_condition
condition_covered x h =
    let a = or_false (on_from x || is (the t.Where) x) (comma x || is (the t.Group) x) h in
    let w = (or_false (on_from x) (is (the t.Where) x) a.0).1 in
    rw (expression_covered x h, w) refl

pub grouping_covered : Covers on_query on_grouping
grouping_covered x h =
    let a = or_false (on_from x || is (the t.Where) x) (comma x || is (the t.Group) x) h in
    let b = or_false (comma x) (is (the t.Group) x) a.1 in
    rw (unary_covered x (expression_covered x h), b.0, b.1) refl

-- ---- tokens that end

abbrev pub Ended : Terminal → (Symbol → Bool) → Type 0
Ended k on = Ends (is (the k)) on

pub comma_ends_item : Ended t.Comma on_item
unfolding same
comma_ends_item (fixed t.Comma) h = refl
comma_ends_item _ h = absurd cc

pub comma_ends_expression : Ended t.Comma on_expression
unfolding same
comma_ends_expression (fixed t.Comma) h = refl
comma_ends_expression _ h = absurd cc

pub as_ends_expression : Ended t.As on_expression
unfolding same
as_ends_expression (fixed t.As) h = refl
as_ends_expression _ h = absurd cc

pub join_ends_item : Ended t.Join on_item
unfolding same
join_ends_item (fixed t.Join) h = refl
join_ends_item _ h = absurd cc

pub from_ends_items : Ended t.From on_items
unfolding same
from_ends_items (fixed t.From) h = refl
from_ends_items _ h = absurd cc

pub where_ends_from : Ended t.Where on_from
unfolding same
where_ends_from (fixed t.Where) h = refl
where_ends_from _ h = absurd cc

pub group_ends_from : Ended t.Group on_from
unfolding same
group_ends_from (fixed t.Group) h = refl
group_ends_from _ h = absurd cc

pub group_ends_condition : Ended t.Group on_condition
unfolding same
group_ends_condition (fixed t.Group) h = refl
group_ends_condition _ h = absurd cc

pub order_ends_query : Ended t.Order on_query
unfolding same
order_ends_query (fixed t.Order) h = refl
order_ends_query _ h = absurd cc

pub where_ends_sets : Ended t.Where on_sets
unfolding same
where_ends_sets (fixed t.Where) h = refl
where_ends_sets _ h = absurd cc

pub semicolon_ends_statement : Ended t.Semicolon on_statement
unfolding same
semicolon_ends_statement (fixed t.Semicolon) h = refl
semicolon_ends_statement _ h = absurd cc

pub close_ends_expressions : Ended t.Close on_sets
unfolding same
close_ends_expressions (fixed t.Close) h = refl
close_ends_expressions _ h = absurd cc

pub close_ends_unary : Ended t.Close on_unary
unfolding same
close_ends_unary (fixed t.Close) h = refl
close_ends_unary _ h = absurd cc

pub comma_ends_unary : Ended t.Comma on_unary
unfolding same
comma_ends_unary (fixed t.Comma) h = refl
comma_ends_unary _ h = absurd cc

pub comma_ends_direction : Ended t.Comma (is direction_of)
unfolding same
comma_ends_direction (fixed t.Comma) h = refl
comma_ends_direction _ h = absurd cc

pub on_ends_alias : Ended t.On as_token
unfolding same
on_ends_alias (fixed t.On) h = refl
on_ends_alias _ h = absurd cc

kind_not_comma : (x : Symbol) → is kind_of x ≡ true → comma x ≡ false
unfolding same
kind_not_comma (fixed t.Int) h = refl
kind_not_comma (fixed t.Huge) h = refl
kind_not_comma (fixed t.Text) h = refl
kind_not_comma _ h = absurd cc

pub never_ends : (test : Symbol → Bool) → Ends test never
never_ends test x h = refl

pub hole_apart : (k : Terminal) → Ended k (is the_hole)
hole_apart k (fixed i) h = refl
hole_apart k _ h = absurd cc

pub hole_not_name : Ends is_name (is the_hole)
hole_not_name (name n) h = refl
hole_not_name _ h = absurd cc

pub hole_not_number : Ends is_number (is the_hole)
hole_not_number (number n) h = refl
hole_not_number _ h = absurd cc

pub hole_not_text : Ends is_text (is the_hole)
hole_not_text (text n) h = refl
hole_not_text _ h = absurd cc
