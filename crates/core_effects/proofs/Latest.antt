-- Which of both a session's latest kept step is.
use Rattle.std.specs.Prelude.{◌≡◌, ◌↔◌, IsTrue, IsSome, Bool, false, true, ℕ, List, ◌∷◌, reverse, Option, Some, refl}
use mathlib.Core.Path.{sym, subst}
use mathlib.Core.Logic.{inl, inr}
use Rattle.iv_types.specs.Maps.{Map}
use Rattle.iv_types.specs.declared.lock.KeptStep.{KeptStep as Step}
use Rattle.iv_types.specs.declared.lock.KeptStep.TheVariants as step
use Rattle.ghost_rows.specs.Kept.{width}
use Rattle.ghost_rows.specs.State.{CanStore}
use Rattle.txn_machine.specs.Deltas.{place_of}
use Rattle.txn_machine.specs.Log.{Log}
use Rattle.txn_machine.specs.Store.{Store, schema_of}
use Rattle.txn_book.specs.Opens.{open_at}
use Rattle.txn_book.specs.declared.open_table.Open.{Open as BookOpen}
use Rattle.core_state.specs.Stands.{Holds, Texts}
use Rattle.core_state.specs.declared.state.CoreState.{CoreState}
use Rattle.core_effects.specs.Undoing.{KeepsPay, KeepsPut, KeepsOne, FitsBack, CanGoBack, IsPay}
use Rattle.core_effects.proofs.Unpaid as pay
use Rattle.core_effects.proofs.Unput as put

not_true : IsTrue false → ⊥
not_true t = absurd cc

pub is_false : (b : Bool) → b ≡ false → IsTrue b → ⊥
is_false b e t = not_true (subst IsTrue e t)

module _ {M : Type 0} (maps : M → ℕ → Map) (spare : M → ℕ → ℕ) (limit : M → Option ℕ) (core : CoreState M) (s : Store) (l : Log) (texts : Texts) (i : ℕ) (h : Holds maps spare limit core s l texts) where
  pub some_open : KeepsOne s i → IsSome (open_at core.book.opens i)
  some_open (inl o) = subst IsSome (sym (pay.mine maps spare limit core s l texts i h o).there) refl
  some_open (inr o) = subst IsSome (sym (put.mine maps spare limit core s l texts i h o).there) refl

  module _ (t : BookOpen) (there : open_at core.book.opens i ≡ Some t) where
    pub has_latest : KeepsOne s i → (k : Step) × (ks : List Step) × (reverse t.kept.items ≡ k ∷ ks)
    has_latest (inl o) = let it = pay.last maps spare limit core s l texts i h o in (step.Pay o.latest it.before it.number, it.steps, pay.there_latest maps spare limit core s l texts i h o t there)
    has_latest (inr o) = let it = put.last maps spare limit core s l texts i h o in (step.Put it.kept it.txn_bytes it.history_bytes it.number, it.steps, put.there_latest maps spare limit core s l texts i h o t there)

    module _ (b : Bool) (is : (k : Step) (ks : List Step) → reverse t.kept.items ≡ k ∷ ks → IsTrue b ↔ IsPay k) where
      pub a_pay : b ≡ true → KeepsOne s i → KeepsPay s i
      a_pay e (inl o) = o
      a_pay e (inr o) = let it = put.last maps spare limit core s l texts i h o in
          absurd ((is (step.Put it.kept it.txn_bytes it.history_bytes it.number) it.steps (put.there_latest maps spare limit core s l texts i h o t there)).0 (subst IsTrue (sym e) refl))

      -- with room to take it back
      pub pay_room : (rows : ℕ → Map) (most : Option ℕ) → b ≡ true → (one : KeepsOne s i) → CanGoBack rows most s i one → (o : KeepsPay s i) × CanStore rows most (place_of o.latest) (width o.latest)
      pay_room rows most e (inl o) room = (o, room)
      pay_room rows most e (inr o) room = let it = put.last maps spare limit core s l texts i h o in
          absurd ((is (step.Put it.kept it.txn_bytes it.history_bytes it.number) it.steps (put.there_latest maps spare limit core s l texts i h o t there)).0 (subst IsTrue (sym e) refl))

      pub put_room : (rows : ℕ → Map) (most : Option ℕ) → b ≡ false → (one : KeepsOne s i) → CanGoBack rows most s i one → (o : KeepsPut s i) × FitsBack rows most (schema_of s) o.change
      put_room rows most e (inr o) room = (o, room)
      put_room rows most e (inl o) room = let it = pay.last maps spare limit core s l texts i h o in
          absurd (is_false b e ((is (step.Pay o.latest it.before it.number) it.steps (pay.there_latest maps spare limit core s l texts i h o t there)).1 tt))

      pub a_put : b ≡ false → KeepsOne s i → KeepsPut s i
      a_put e (inr o) = o
      a_put e (inl o) = let it = pay.last maps spare limit core s l texts i h o in
          absurd (is_false b e ((is (step.Pay o.latest it.before it.number) it.steps (pay.there_latest maps spare limit core s l texts i h o t there)).1 tt))
