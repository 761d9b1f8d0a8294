use Rattle.std.proofs.Common.{Bool, refl, sym, subst, ◌+◌}
use Rattle.record_replay.specs.Past.{left_by, pages_in}
use Rattle.record_replay.specs.Telling.{Defines, Tells}
use Rattle.record_replay.proofs.EachKind.{define_none, define_more}
use Rattle.record_replay.proofs.replay.Replay.define.Goals as goal

pub returns-then-not-branch-clause-told : goal.returns-then-not-branch-clause-told
returns-then-not-branch-clause-told g c = λ session x h r comes.
    let self = c.args.self.now in
    let maps = g.M.SortedMaps.maps in
    let limit = g.M.SortedMaps.limit in
    let store = c.define_text.new.store in
    subst (Tells maps limit (record { store = store; live = self.live; commits = self.commits; next = self.next }) x r) (sym c.misfit-then-not-branch.ensures)
    (define_none maps limit self x h c.args.head c.requires.number.0 c.requires.number.1 r c.args.commit session c.args.text.now comes store
    (subst (λ (b : Bool). Defines maps limit store (pages_in (left_by x)) c.args.text.now b) c.if-not-branch.true (c.in_ok-define_text.ensures.told (pages_in (left_by x)) h.store)))

pub returns-clause-told : goal.returns-clause-told
returns-clause-told g c = λ session x h r comes.
    let self = c.args.self.now in
    let maps = g.M.SortedMaps.maps in
    let limit = g.M.SortedMaps.limit in
    let store = c.define_text.new.store in
    define_more maps limit self x h c.args.head c.requires.number.0 c.requires.number.1 r c.args.commit session c.args.text.now comes
    (record { store = store; live = self.live; commits = c.args.commit; next = c.args.head.number + 1 }) (c.if-not-is_next.ensures.0 refl)
    (subst (λ (b : Bool). Defines maps limit store (pages_in (left_by x)) c.args.text.now b) c.if-not-branch.false (c.in_ok-define_text.ensures.told (pages_in (left_by x)) h.store)) refl refl refl
