-- What `clean` counts is what the machine's cleaner removed.
use Rattle.std.specs.Prelude.{◌≡◌, ℕ, ◌+◌, zero, suc}
use mathlib.Core.Path.{refl, ap, subst, ◌∙◌}
use mathlib.Core.Logic.{inl, inr}
use Rattle.std.proofs.Common.{arith}
use Rattle.iv_types.specs.declared.refusal.Refusal.{Refusal}
use Rattle.iv_types.specs.declared.refusal.EngineRefusal.{EngineRefusal}
use Rattle.table_laws.specs.Place.{Place}
use Rattle.txn_machine.specs.Acts as act
use Rattle.txn_machine.specs.Acts.{Act}
use Rattle.txn_machine.specs.Answers as answer
use Rattle.txn_machine.specs.Answers.{Answer}
use Rattle.txn_machine.specs.Ghosts.{IsCleanable, the_views}
use Rattle.txn_machine.specs.Store.{Store, run}
use Rattle.txn_machine.specs.State.{State}
use Rattle.txn_machine.specs.Alone.{Story}
use Rattle.script_law.specs.Programs.{Programs}
use Rattle.script_law.specs.RunLines.{Cleaned, all_removed, Cleans, cleaned_all, cleaned_one, clean_fails, CleansLine, pruned, prune_fails}
use Rattle.script_law.specs.Machine.{DoesOf, CleanLaw}

-- what a step of the cleaner's leaves
removed_by : (s after : Story) (count : ℕ) → DoesOf s 0 act.Clean (answer.Cleaned count) after → after.state.cleaner.removed ≡ s.state.cleaner.removed + count
removed_by s after zero h = elim h.1.does [
  | inl x ↦ ap (λ (z : Story). z.state.cleaner.removed) h.2 ∙ ap (λ (z : State). z.cleaner.removed) x.left ∙ omega (arith)
  | inr x ↦ absurd (let e = x.says in cc)
]
removed_by s after (suc n) h = elim h.1.does [
  | inl x ↦ ap (λ (z : Story). z.state.cleaner.removed) h.2 ∙ ap (λ (z : State). z.cleaner.removed) x.left
  | inr x ↦ absurd (let e = x.says in cc)
]

kept_by_prune : (s after : Story) → DoesOf s 0 act.Prune answer.Pruned after → after.state.cleaner.removed ≡ s.state.cleaner.removed
kept_by_prune s after h = elim h.1.does [
  | inl x ↦ ap (λ (z : Story). z.state.cleaner.removed) h.2 ∙ ap (λ (z : State). z.cleaner.removed) x.left
  | inr x ↦ absurd (let e = x.says in cc)
]

-- none is left after a step that removed none
none_left : (s after : Story) → DoesOf s 0 act.Clean (answer.Cleaned 0) after → (place : Place) → IsCleanable after.state.store place → ⊥
none_left s after h = elim h.1.does [
  | inl x ↦ λ place is. x.says.0 place (subst (λ (z : Store). IsCleanable z place) (ap (λ (z : Story). z.state.store) h.2 ∙ ap (λ (z : State). z.store) x.left ∙ ap (run the_views s.state.store 0) x.says.1) is)
  | inr x ↦ absurd (let e = x.says in cc)
]

count_inj : {a b : ℕ} → all_removed a ≡ all_removed b → a ≡ b
count_inj e = cc

module _ (programs : Programs) (tell : EngineRefusal → Refusal) where
  cleans : (removed : ℕ) (s : Story) (end : Cleaned) (after : Story) → Cleans DoesOf programs tell removed s end after → (count : ℕ) → end ≡ all_removed count
      → (after.state.cleaner.removed + removed ≡ s.state.cleaner.removed + count) × ((place : Place) → IsCleanable after.state.store place → ⊥)
  cleans _ _ _ _ (cleaned_all removed s after does) count e =
      let by = removed_by s after 0 does in
      let same : removed ≡ count = count_inj e in
      (omega (arith, by, same), none_left s after does)
  cleans _ _ _ _ (cleaned_one removed s mid after end does more) count e =
      let rest = cleans (removed + 1) mid end after more count e in
      let by = removed_by s mid 1 does in
      let sum = rest.0 in
      (omega (arith, by, sum), rest.1)
  cleans _ _ _ _ (clean_fails removed s after why does) count e = absurd (cc)

  line : (s : Story) (end : Cleaned) (after : Story) → CleansLine DoesOf programs tell s end after → (count : ℕ) → end ≡ all_removed count
      → (after.state.cleaner.removed ≡ s.state.cleaner.removed + count) × ((place : Place) → IsCleanable after.state.store place → ⊥)
  line _ _ _ (pruned s mid after end does more) count e =
      let rest = cleans 0 mid end after more count e in
      let same = kept_by_prune s mid does in
      let sum = rest.0 in
      (omega (arith, same, sum), rest.1)
  line _ _ _ (prune_fails s after why does) count e = absurd (cc)

pub clean_law : CleanLaw
clean_law programs tell s after count h = line programs tell s (all_removed count) after h count refl
