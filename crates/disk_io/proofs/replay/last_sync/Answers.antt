use Rattle.std.proofs.Common.{◌+◌, ◌∙◌, ap, sym, take, if◌then◌else◌, arith}
use Rattle.disk_io.specs.Images.{up_to_last}
use Rattle.disk_io.specs.Record.{is_sync_call}
use Rattle.disk_io.proofs.Replays.{last_next}
use Rattle.disk_io.proofs.replay.last_sync.Goals as goal
use Rattle.disk_io.proofs.replay.last_sync.Goals.{then-is_sync, else-is_sync}

pub loop-i-preserved : goal.loop-i-preserved
loop-i-preserved c =
    let before = up_to_last is_sync_call (take c.loop-i.i c.args.calls.now) in
    let next = last_next is_sync_call c.args.calls.now c.loop-i.i _ c.is_sync.result c.loop-i-test.true c.is_sync.ensures in
    elim c.if-is_sync.branch [
      | then-is_sync w ↦ record {
        is = w.last-is ∙ sym (next ∙ ap (λ b. if b then c.loop-i.i + 1 else before) w.if-is_sync.true);
        bound = omega (arith, w.last-is);
      }
      | else-is_sync w ↦ record {
        is = w.last-is ∙ c.loop-i.invariant.is ∙ sym (next ∙ ap (λ b. if b then c.loop-i.i + 1 else before) w.if-is_sync.false);
        bound = omega (arith, w.last-is, c.loop-i.invariant.bound);
      }
    ]
