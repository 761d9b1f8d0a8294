-- The readers of what stands in lists go forward.
use Rattle.text_grammar.proofs.Exactness.{never}
use Rattle.text_grammar.proofs.Extends.{Stays, exact_stays}
use Rattle.iv_types.specs.Limits.{the_limits}
use Rattle.iv_types.specs.Expressions.{AName, AReference, AnExpression}
use Rattle.iv_types.specs.Grammar.{ATuple, AnAssignment, AnItem, AnOrder, direction_of}
use Rattle.text_grammar.specs.Readers.{is}
use Rattle.sql_readers.specs.Ladder.{name_reader, reference, expression}
use Rattle.sql_readers.specs.Statements.{tuple, assignment, item, order}
use Rattle.sql_readers.proofs.Apart.{on_unary, on_expression}
use Rattle.sql_readers.proofs.Ladder.{name-exact, reference-exact, expression-exact}
use Rattle.sql_readers.proofs.GoingOn.{on_item}
use Rattle.sql_readers.proofs.Queries.{item-exact, order-exact}
use Rattle.sql_readers.proofs.Changes.{tuple-exact, assignment-exact}

pub name_stays : Stays (name_reader the_limits)
name_stays = exact_stays (AName the_limits) never (name_reader the_limits) (name-exact the_limits)

pub reference_stays : Stays (reference the_limits)
reference_stays = exact_stays (AReference the_limits) on_unary (reference the_limits) (reference-exact the_limits)

pub expression_stays : Stays (expression the_limits)
expression_stays = exact_stays (AnExpression the_limits) on_expression (expression the_limits) (expression-exact the_limits)

pub tuple_stays : Stays (tuple the_limits)
tuple_stays = exact_stays (ATuple the_limits) never (tuple the_limits) (tuple-exact the_limits)

pub assignment_stays : Stays (assignment the_limits)
assignment_stays = exact_stays (AnAssignment the_limits) on_expression (assignment the_limits) (assignment-exact the_limits)

pub item_stays : Stays (item the_limits)
item_stays = exact_stays (AnItem the_limits) on_item (item the_limits) (item-exact the_limits)

pub order_stays : Stays (order the_limits)
order_stays = exact_stays (AnOrder the_limits) (is direction_of) (order the_limits) (order-exact the_limits)
