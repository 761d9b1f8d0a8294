use Rattle.iv_types.specs.Trees.{trees}
use Rattle.iv_types.specs.Printing.{tuple_pieces}
use Rattle.sql_pieces.proofs.Pieces.{behind, listed_as}
use Rattle.sql_pieces.proofs.writing.write_insertion.Goals as goal

pub returns : goal.returns
returns g c = rw (← c.as_slice.ensures) (behind c.in_ok-fixed.ensures (behind c.in_ok-fixed-2.ensures (behind c.in_ok-name.ensures (behind c.in_ok-fixed-3.ensures (listed_as tuple_pieces trees c.args.tuples.now c.as_slice-2.result.now c.as_slice-2.ensures c.write_listed.ensures)))))
