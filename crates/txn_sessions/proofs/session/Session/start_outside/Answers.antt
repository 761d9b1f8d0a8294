use mathlib.Core.Path.{sym, ◌∙◌}
use Rattle.txn_sessions.specs.Sessions.{stands}
use Rattle.iv_types.specs.Trees.{statement_tree}
use Rattle.txn_sessions.proofs.Starts.{work_starts, begin_starts}
use Rattle.txn_sessions.proofs.session.Session.start_outside.Goals as goal

pub returns-in-Work-clause-started : goal.returns-in-Work-clause-started
returns-in-Work-clause-started c =
    let s = work_starts (stands c.args.self.now) c.args.statement c.requires (sym c.sort_of.ensures ∙ c.in-Work.is) in
    (s.0, c.ask.ensures.comes.0 ∙ s.1, c.ask.ensures.comes.1)

pub returns-in-Begin-clause-started : goal.returns-in-Begin-clause-started
returns-in-Begin-clause-started c =
    let s = begin_starts (stands c.args.self.now) (statement_tree c.args.statement) c.in-Begin.mode c.requires (sym c.sort_of.ensures ∙ c.in-Begin.is) in
    (s.0, c.ask-in-Begin.ensures.comes.0 ∙ s.1, c.ask-in-Begin.ensures.comes.1)

pub returns-in-Work-clause-within : goal.returns-in-Work-clause-within
returns-in-Work-clause-within c = λ n h. c.ask.ensures.within n h.stands tt

pub returns-in-Begin-clause-within : goal.returns-in-Begin-clause-within
returns-in-Begin-clause-within c = λ n h. c.ask-in-Begin.ensures.within n h.stands tt
