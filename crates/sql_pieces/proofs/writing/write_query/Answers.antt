use Rattle.iv_types.specs.Trees.{item_tree, join_tree}
use Rattle.iv_types.specs.Printing.{item_pieces, join_pieces}
use Rattle.sql_pieces.proofs.Pieces.{behind, listed_as, each_as}
use Rattle.sql_pieces.proofs.writing.write_query.Goals as goal

pub returns : goal.returns
returns g c =
    behind c.in_ok-fixed.ensures (behind (listed_as item_pieces item_tree c.args.query.now.items c.as_slice.result.now c.as_slice.ensures c.in_ok-write_listed.ensures)
    (behind c.in_ok-fixed-2.ensures (behind c.in_ok-write_relation.ensures (behind (each_as join_pieces join_tree c.args.query.now.joins c.as_slice-2.result.now c.as_slice-2.ensures c.in_ok-write_each.ensures)
    (behind c.in_ok-write_condition.ensures c.write_group.ensures)))))
