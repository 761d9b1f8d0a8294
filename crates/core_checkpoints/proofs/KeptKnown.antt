-- What open transactions keep is of tables and views that are there, in every state that steps lead to.
use Rattle.std.specs.Prelude.{ℕ, List, [], ◌∷◌}
use mathlib.Core.Path.{sym, subst}
use mathlib.Core.Logic.{inl, inr}
use Rattle.txn_machine.specs.Acts.{Act}
use Rattle.txn_machine.specs.Answers.{Answer}
use Rattle.txn_machine.specs.Fresh.{fresh}
use Rattle.txn_machine.specs.Ghosts.{the_views}
use Rattle.txn_machine.specs.Laws.{IsReached}
use Rattle.txn_machine.specs.State.{State}
use Rattle.txn_machine.specs.Steps.{Did, Run, Step}
use Rattle.txn_machine.specs.Store.{Store, Effect, does, run}
use Rattle.txn_machine.proofs.Looking.{view_laws}
use Rattle.txn_machine.proofs.Moving.{may_of}
use Rattle.txn_machine.proofs.Reached.{Holds', may_define}
use Rattle.txn_machine.proofs.Runs.{CanAll, keeps, opened_good}
use Rattle.txn_machine.proofs.Stepping.{can_says, step_good}
use Rattle.txn_log.proofs.KeptKnown.{AllKept, kept_does}
use Rattle.txn_log.proofs.Numbering.{AllOpen, finds, open_says}

by_effects : (s : Store) (i : ℕ) (a : Act) (es : List Effect) → Holds' s → CanAll the_views fresh view_laws s i es → AllOpen s i a es → AllKept s → AllKept (run the_views s i es)
by_effects s i a [] g can o h = h
by_effects s i a (e ∷ es) g can o h =
    by_effects (does the_views s i e) i a es (keeps the_views fresh view_laws s i e g can.0) can.1 o.1 (kept_does s i e g can.0 (finds s i a e g o.0) h)

by_step : (s : State) (i : ℕ) (a : Act) (said : Answer) (after : State) → Holds' s.store → AllKept s.store → Step s i a said after → AllKept after.store
by_step s i a said after g h step = elim step.does [
  | inl x ↦
      let may = may_of s i a x.runs step.may.1 in
      subst (λ (z : State). AllKept z.store) (sym x.left)
      (by_effects s.store i a x.effects g (can_says view_laws may_define s i a said x.effects g may x.says) (open_says s i a said x.effects may x.says) h)
  | inr x ↦ subst (λ (z : State). AllKept z.store) (sym x.left) h
]

by_steps : (s : State) (ds : List Did) (after : State) → Holds' s.store → AllKept s.store → Run s ds after → AllKept after.store
by_steps s [] after g h r = subst (λ (z : State). AllKept z.store) (sym r) h
by_steps s (d ∷ ds) after g h r = by_steps r.0 ds after (step_good view_laws may_define s d.session d.act d.said r.0 g r.1) (by_step s d.session d.act d.said r.0 g h r.1) r.2

pub kept_known : (s : State) → IsReached s → AllKept s.store
kept_known s r = by_steps _ r.steps s (opened_good the_views fresh view_laws r.db r.view r.was_opened.sound r.was_opened.rows r.was_opened.in_range) (λ j js. tt) r.run
