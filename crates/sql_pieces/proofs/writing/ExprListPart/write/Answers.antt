use Rattle.iv_types.specs.Trees.{tree}
use Rattle.iv_types.specs.Printing.{tree_pieces}
use Rattle.sql_pieces.proofs.Pieces.{behind, listed_as}
use Rattle.sql_pieces.proofs.writing.ExprListPart.write.Goals as goal

pub returns : goal.returns
returns g c = behind c.in_ok-fixed.ensures (behind (listed_as (tree_pieces 0) tree c.args.self.now c.as_slice.result.now c.as_slice.ensures c.in_ok-write_listed.ensures) c.fixed-2.ensures)
