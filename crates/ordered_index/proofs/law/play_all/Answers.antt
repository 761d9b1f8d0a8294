use Rattle.std.proofs.Common.{arith}
use Rattle.ordered_index.proofs.Playing.{may_call, went_on, told_all, left_all}
use Rattle.ordered_index.proofs.law.play_all.Goals as goal

pub play-requires-after_bounds : goal.play-requires-after_bounds
play-requires-after_bounds g c κs within = may_call _ _ c.loop-call.call-index _ _ _ _ c.call-item.result c.loop-call.invariant (omega arith) c.call-item.is

pub loop-call-preserved : goal.loop-call-preserved
loop-call-preserved g c =
    went_on c.args.calls.now (g.M.SortedMaps.maps c.args.maps.now) c.loop-call.call-index (g.M.SortedMaps.maps c.loop-call.maps) (g.M.SortedMaps.maps c.play.new.maps)
    (g.M.SortedMaps.spare c.loop-call.maps) (g.M.SortedMaps.spare c.play.new.maps) (g.M.SortedMaps.limit c.loop-call.maps) (g.M.SortedMaps.limit c.play.new.maps)
    c.loop-call.answers.items c.push.new.self.items c.call-item.result c.in_ok-play.field-0 c.loop-call.invariant (omega arith) c.call-item.is
    c.in_ok-play.ensures.answer c.in_ok-play.ensures.maps c.in_ok-play.ensures.room c.in_ok-play.ensures.limit c.in_ok-push.ensures.items

pub returns-clause-answers : goal.returns-clause-answers
returns-clause-answers g c = told_all _ _ c.loop-call.call-index _ _ _ _ c.loop-call.invariant (omega arith)

pub returns-clause-maps : goal.returns-clause-maps
returns-clause-maps g c = left_all _ _ c.loop-call.call-index _ _ _ _ c.loop-call.invariant (omega arith)
