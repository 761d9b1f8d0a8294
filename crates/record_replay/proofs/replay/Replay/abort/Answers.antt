use Rattle.std.proofs.Common.{refl, sym, ◌∙◌, ◌+◌}
use Rattle.record_replay.proofs.EachKind.{abort_more}
use Rattle.record_replay.proofs.replay.Replay.abort.Goals as goal

pub returns-clause-told : goal.returns-clause-told
returns-clause-told g c = λ x h r comes.
    let self = c.args.self.now in
    abort_more g.M.SortedMaps.maps g.M.SortedMaps.limit self x h c.args.head c.requires.number.0 c.requires.number.1 r c.args.transaction comes
    (record { store = self.store; live = c.end.new.self; commits = self.commits; next = c.args.head.number + 1 }) (sym c.has_ended.ensures ∙ c.if-has_ended.false) refl c.in_ok-end.ensures.ok refl refl
