use Rattle.std.proofs.Common.{◌++◌, sym, subst}
use Rattle.std.proofs.lemmas.Result.{IfOk-weaker}
use Rattle.live_records.specs.declared.kept.LiveRecords.{LiveRecords}
use Rattle.live_records.specs.Live.{AreApart, HasAll}
use Rattle.record_replay.specs.Past.{left_by}
use Rattle.record_replay.proofs.Live.{are_apart}
use Rattle.record_replay.proofs.Orders.{can_reverse}
use Rattle.record_replay.proofs.replay.Replay.reverse.Goals as goal

pub into_order-requires : goal.into_order-requires
into_order-requires g c =
    let q = c.requires in
    subst (λ (live : LiveRecords). AreApart live) (sym c.replace-live.ensures.value) (are_apart c.args.self.now.live (q.0.after ++ q.0.first) (left_by q.0).live q.1.kept q.1.live.fall)

pub reverse_each-requires-after_bounds : goal.reverse_each-requires-after_bounds
reverse_each-requires-after_bounds g c κs within =
    let q = c.requires in
    let all = subst (λ (live : LiveRecords). HasAll live c.in_ok-left.left) c.replace-live.ensures.value c.in_ok-left.ensures in
    (q.0.after ++ q.0.first, left_by q.0, can_reverse g.M.SortedMaps.maps g.M.SortedMaps.limit c.args.self.now q.0 c.in_ok-left.left q.1 all)

pub returns-clause-told : goal.returns-clause-told
returns-clause-told g c =
    let all = subst (λ (live : LiveRecords). HasAll live c.in_ok-left.left) c.replace-live.ensures.value c.in_ok-left.ensures in
    IfOk-weaker c.reverse_each.result _ _ (λ answer told x h.
    told (x.after ++ x.first) (left_by x) (can_reverse g.M.SortedMaps.maps g.M.SortedMaps.limit c.args.self.now x c.in_ok-left.left h all)) c.reverse_each.ensures.told
