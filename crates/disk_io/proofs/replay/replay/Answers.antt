use Rattle.std.proofs.Common.{◌∷◌, [], ◌∙◌, ap, sym}
use Rattle.disk_io.specs.Events.{after}
use Rattle.disk_io.specs.Record.{event_in}
use Rattle.disk_io.proofs.Replays.{events_next}
use Rattle.disk_io.proofs.replay.replay.Goals as goal

pub loop-call-preserved : goal.loop-call-preserved
loop-call-preserved c =
    c.redo.ensures
    ∙ ap (after (event_in c.args.bytes.now _ ∷ [])) c.loop-call.invariant
    ∙ sym (events_next c.args.bytes.now c.args.calls.now c.args.onto.now c.loop-call.call-index _ c.loop-call-test.true)
