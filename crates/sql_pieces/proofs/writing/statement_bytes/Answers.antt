use Rattle.std.proofs.Common.{refl}
use Rattle.iv_types.specs.Trees.{statement_tree}
use Rattle.iv_types.specs.Printing.{statement_pieces}
use Rattle.sql_pieces.proofs.Counting.{counted}
use Rattle.sql_pieces.proofs.writing.statement_bytes.Goals as goal

pub returns : goal.returns
returns c = counted c.write_statement.result (record { bytes = 0; tight = _ }) c.write_statement.new.sink (statement_pieces (statement_tree c.args.statement.now)) refl refl c.write_statement.ensures
