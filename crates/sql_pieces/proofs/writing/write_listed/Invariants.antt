use Rattle.std.proofs.Common.{take, Ok}
use Rattle.iv_types.specs.Printing.{with_commas}
use Rattle.sql_pieces.specs.Sinks.{Wrote}
use Rattle.sql_pieces.proofs.writing.write_listed.Given as goal

abbrev pub invariant-loop-i : goal.invariant-loop-i
invariant-loop-i g l = Wrote g.W.PieceSink.holds g.W.PieceSink.takes_memory l.fn.sink (Ok tt) l.sink (with_commas g.T.Part.pieces (take l.i l.parts))
