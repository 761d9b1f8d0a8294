use Rattle.iv_types.specs.Trees.{set_tree}
use Rattle.iv_types.specs.Printing.{set_pieces}
use Rattle.sql_pieces.proofs.Pieces.{behind, listed_as}
use Rattle.sql_pieces.proofs.writing.write_update.Goals as goal

pub returns : goal.returns
returns g c = rw (← c.as_slice.ensures) (behind c.in_ok-fixed.ensures (behind c.in_ok-name.ensures (behind c.in_ok-fixed-2.ensures (behind (listed_as set_pieces set_tree c.args.sets.now c.as_slice-2.result.now c.as_slice-2.ensures c.in_ok-write_listed.ensures) c.write_condition.ensures))))
