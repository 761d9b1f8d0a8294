use Rattle.std.proofs.Common.{IsTrue, false, refl}
use Rattle.lock_desk.proofs.Requests.{way_back, has_to_wait, closes}
use Rattle.lock_desk.proofs.asking.ask.Goals as goal

not_true : IsTrue false → ⊥
not_true t = absurd cc

pub returns-then-not-is_somebody : goal.returns-then-not-is_somebody
returns-then-not-is_somebody c = λ held waiting a other w.
    c.conflicts-sessions.ensures.free (λ s. not_true (c.if-not-is_somebody.ensures.1 s)) other (way_back c.args.locks.now held waiting a c.args.session c.args.wants.now other w)

pub returns-in-Some : goal.returns-in-Some
returns-in-Some c = λ held waiting a.
    closes c.args.locks.now held waiting a c.recorded_waits-waits.result c.args.session c.args.wants.now c.conflicts-sessions.result c.recorded_waits-waits.ensures c.conflicts-sessions.ensures.in_the_way c.requires
    c.in-Some.cycle c.in-Some.ensures.some

pub returns-in-None : goal.returns-in-None
returns-in-None c = λ held waiting a.
    has_to_wait c.args.locks.now held waiting a c.recorded_waits-waits.result c.args.session c.args.wants.now c.conflicts-sessions.result c.recorded_waits-waits.ensures c.conflicts-sessions.ensures.in_the_way c.requires
    (c.if-not-is_somebody.ensures.0 refl) c.in-None.ensures.none
