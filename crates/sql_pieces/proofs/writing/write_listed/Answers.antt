use Rattle.std.proofs.Common.{ap, sym, refl, arith, ◌≡◌, [], take}
use Rattle.std.proofs.lemmas.List.{take_all}
use Rattle.iv_types.specs.Printing.{with_commas}
use Rattle.sql_pieces.proofs.Pieces.{behind, listed_more, listed_first, same_pieces, same_start}
use Rattle.sql_pieces.proofs.writing.write_listed.Goals.{then-i-gt0+in_ok-fixed, else-i-gt0}
use Rattle.sql_pieces.proofs.writing.write_listed.Goals as goal

pub loop-i-preserved : goal.loop-i-preserved
loop-i-preserved g c =
    elim c.if-i-gt0.branch [
      | then-i-gt0+in_ok-fixed w ↦ listed_more g.T.Part.pieces c.args.parts.now c.loop-i.i c.index-parts-i.result w.if-i-gt0.true c.loop-i-test.true c.index-parts-i.is c.loop-i.invariant (behind w.in_ok-fixed.ensures (same_start w.sink-is c.in_ok-write.ensures))
      | else-i-gt0 w ↦
          let none : c.loop-i.i ≡ 0 = omega arith in
          let empty : with_commas g.T.Part.pieces (take c.loop-i.i c.args.parts.now) ≡ [] = rw none refl in
          listed_first g.T.Part.pieces c.args.parts.now c.loop-i.i c.index-parts-i.result none c.loop-i-test.true c.index-parts-i.is (behind (same_pieces (sym empty) c.loop-i.invariant) (same_start w.sink-is c.in_ok-write.ensures))
    ]

pub returns : goal.returns
returns g c = same_pieces (sym (ap (with_commas g.T.Part.pieces) (take_all c.loop-i.i c.args.parts.now c.loop-i-test.false))) c.loop-i.invariant
