use Rattle.std.proofs.Common.{take, Ok}
use Rattle.std.specs.List.{flat_map}
use Rattle.sql_pieces.specs.Sinks.{Wrote}
use Rattle.sql_pieces.proofs.writing.write_each.Given as goal

abbrev pub invariant-loop-part : goal.invariant-loop-part
invariant-loop-part g l = Wrote g.W.PieceSink.holds g.W.PieceSink.takes_memory l.fn.sink (Ok tt) l.sink (flat_map g.T.Part.pieces (take l.part-index l.parts))
