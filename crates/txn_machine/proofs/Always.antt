-- What holds of the store that is opened and is kept by each effect holds in every state that steps lead to.
use Rattle.std.specs.Prelude.{ℕ, List, [], ◌∷◌}
use mathlib.Core.Path.{sym, subst}
use mathlib.Core.Logic.{inl, inr}
use Rattle.txn_machine.specs.Acts.{Act}
use Rattle.txn_machine.specs.Answers.{Answer}
use Rattle.txn_machine.specs.Fresh.{fresh}
use Rattle.txn_machine.specs.Ghosts.{the_views}
use Rattle.txn_machine.specs.Store.{Store, opened, Effect, does, run}
use Rattle.txn_machine.specs.State.{State}
use Rattle.txn_machine.specs.Steps.{Step, Did, Run}
use Rattle.txn_machine.specs.Laws.{IsReached}
use Rattle.txn_machine.proofs.Runs.{CanAll, keeps, opened_good}
use Rattle.txn_machine.proofs.Stepping.{can_says, step_good}
use Rattle.txn_machine.proofs.Looking.{view_laws}
use Rattle.txn_machine.proofs.Telling.{Good', Can'}
use Rattle.txn_machine.proofs.Reached.{may_define}
use Rattle.txn_machine.proofs.Moving.{may_of}

module _ (P : Store → Type 0) (each : (s : Store) (i : ℕ) (e : Effect) → Good' s → Can' s i e → P s → P (does the_views s i e)) where
  all : (s : Store) (i : ℕ) (es : List Effect) → Good' s → CanAll the_views fresh view_laws s i es → P s → P (run the_views s i es)
  all s i [] g can h = h
  all s i (e ∷ es) g can h = all (does the_views s i e) i es (keeps the_views fresh view_laws s i e g can.0) can.1 (each s i e g can.0 h)

  one : (s : State) (i : ℕ) (a : Act) (said : Answer) (after : State) → Good' s.store → P s.store → Step s i a said after → P after.store
  one s i a said after g h step = elim step.does [
    | inl x ↦ subst (λ (z : State). P z.store) (sym x.left) (all s.store i x.effects g (can_says view_laws may_define s i a said x.effects g (may_of s i a x.runs step.may.1) x.says) h)
    | inr x ↦ subst (λ (z : State). P z.store) (sym x.left) h
  ]

  steps : (s : State) (ds : List Did) (after : State) → Good' s.store → P s.store → Run s ds after → P after.store
  steps s [] after g h r = subst (λ (z : State). P z.store) (sym r) h
  steps s (d ∷ ds) after g h r =
      steps r.0 ds after (step_good view_laws may_define s d.session d.act d.said r.0 g r.1) (one s d.session d.act d.said r.0 g h r.1) r.2

  pub always : (s : State) → (r : IsReached s) → P (opened r.db r.view) → P s.store
  always s r h = steps _ r.steps s (opened_good the_views fresh view_laws r.db r.view r.was_opened.sound r.was_opened.rows r.was_opened.in_range) h r.run
