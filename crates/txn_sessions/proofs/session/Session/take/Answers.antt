use mathlib.Core.Path.{subst, ◌∙◌}
use Rattle.statement_tasks.specs.Tasks.{mode_of, Moves}
use Rattle.txn_sessions.specs.Sessions.{stands}
use Rattle.txn_sessions.proofs.Works.{put_runs}
use Rattle.txn_sessions.proofs.session.Session.take.Goals as goal

pub returns-in-Change-clause-went : goal.returns-in-Change-clause-went
returns-in-Change-clause-went c = λ w moves memory.
    let t = c.in-Change in (
      c.ask-in-Change.ensures.comes.0
          ∙ put_runs c.args.self.now.standing.mode (stands c.args.self.now) w t.table t.key t.new c.args.task c.args.made
          (subst (λ turn. Moves (mode_of c.args.task) w turn c.args.task) t.is moves),
      c.ask-in-Change.ensures.comes.1,
    )

pub returns-in-Refused-clause-within : goal.returns-in-Refused-clause-within
returns-in-Refused-clause-within c = λ n h le. c.back.ensures.within n h

pub returns-in-NoMemory-clause-within : goal.returns-in-NoMemory-clause-within
returns-in-NoMemory-clause-within c = λ n h le. c.back-in-NoMemory.ensures.within n h
