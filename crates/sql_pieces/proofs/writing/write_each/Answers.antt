use Rattle.std.proofs.Common.{ap, sym}
use Rattle.std.proofs.lemmas.List.{take_all}
use Rattle.std.specs.List.{flat_map}
use Rattle.sql_pieces.proofs.Pieces.{each_more, same_pieces}
use Rattle.sql_pieces.proofs.writing.write_each.Goals as goal

pub loop-part-preserved : goal.loop-part-preserved
loop-part-preserved g c = each_more g.T.Part.pieces c.args.parts.now c.loop-part.part-index c.part-item.result c.loop-part-test.true c.part-item.is c.loop-part.invariant c.in_ok-write.ensures

pub returns : goal.returns
returns g c = same_pieces (sym (ap (flat_map g.T.Part.pieces) (take_all c.loop-part.part-index c.args.parts.now c.loop-part-test.false))) c.loop-part.invariant
