use Rattle.std.specs.Prelude.{codes, ◌++◌}
use Rattle.std.specs.Int.{w128}
use Rattle.std.specs.Fmt.{signed_decimal}
use Rattle.std.proofs.lemmas.Int.{to_z-of_z}
use Rattle.iv_types.specs.Replies.{spaced, row_text}
use Rattle.sql_print.proofs.Joined.{four_parts}
use Rattle.sql_print.proofs.reply.push_escrow.Goals as goal

pub returns : goal.returns
returns c =
    let bounds = rw (to_z-of_z w128 c.args.inf c.ranges.inf, to_z-of_z w128 c.args.sup c.ranges.sup) at c.push_bounds.ensures in
    four_parts c.push_bounds.result c.args.text.now.items c.push_with_name.new.text.items c.push_row.new.text.items c.push_bounds.new.text.items
    (codes "21 EscrowRange") (spaced c.args.view.now) (row_text c.args.group.now) (spaced c.args.column.now ++ (spaced (signed_decimal c.args.inf) ++ spaced (signed_decimal c.args.sup)))
    c.in_ok-push_with_name.ensures c.in_ok-push_row.ensures bounds
