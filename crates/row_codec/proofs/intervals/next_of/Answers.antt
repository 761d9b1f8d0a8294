use Rattle.std.proofs.Common.{◌-◌, arith}
use Rattle.row_codec.proofs.RangeLaws.{raised}
use Rattle.row_codec.proofs.intervals.next_of.Goals as goal

pub returns : goal.returns
returns c =
    let end = c.len_without_255-end.result in
    raised c.args.bytes.now c.in_ok-high.high.items c.from_vec.result c.index_mut.result.now end (end - 1) (omega (arith, c.len_without_255-end.ensures.within)) (omega arith)
    c.in_ok-high.ensures.items (c.len_without_255-end.ensures.last (omega arith)) c.len_without_255-end.ensures.behind c.index_mut.ensures.value c.from_vec.ensures
