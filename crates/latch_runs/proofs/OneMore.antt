-- A crew gets one seat more.
use Rattle.std.proofs.Common.{◌≡◌, ◌≢◌, ℕ, ◌+◌, List, [], ◌∷◌, ◌++◌, map, Contains, sym, ◌∙◌, subst, arith}
use mathlib.Core.Logic.{dite}
use mathlib.Core.List.{map-append}
use native.Mathlib.Decide.{ℕ_discrete}
use Rattle.std.proofs.lemmas.List.Elements.{All-push, Contains-append_left, Contains-append_right}
use Rattle.atomic_table.specs.Seated.{TableId}
use Rattle.turn_latch.specs.declared.seat.Seat.{Seat}
use Rattle.turn_latch.specs.declared.turn.Parted.{Ghosts}
use Rattle.turn_latch.specs.Words.{seat_latch, knows}
use Rattle.latch_runs.specs.Crews.{IsCrew}

module _ {T : Type 0} {p : Ghosts T} where
  -- the crew with a seat of the next number
  pub crew_push : (z : TableId) (last next : ℕ) (xs ys : List (Seat T p)) (s : Seat T p) → IsCrew z last xs → seat_latch s ≡ z → (knows s).number ≡ last + 1 → next ≡ last + 1 → ys ≡ xs ++ s ∷ [] → IsCrew z next ys
  crew_push z last next xs ys s crew latch number is items = subst (IsCrew z next) (sym items) (
    All-push (λ s. seat_latch s ≡ z) xs s crew.0 latch,
    λ n pos le. subst (λ (l : List ℕ). Contains l n) (sym (map-append (λ (s : Seat T p). (knows s).number) xs (s ∷ [])))
        (dite (ℕ_discrete n (last + 1))
        (λ (e : n ≡ last + 1). Contains-append_right (map (λ (s : Seat T p). (knows s).number) xs) ((knows s).number ∷ []) n (0, omega arith, number ∙ sym e))
        (λ (e : n ≢ last + 1). Contains-append_left (map (λ (s : Seat T p). (knows s).number) xs) ((knows s).number ∷ []) n (crew.1 n pos (omega arith)))),
  )

  pub no_crew : (z : TableId) (last : ℕ) (xs : List (Seat T p)) → xs ≡ [] → last ≡ 0 → IsCrew z last xs
  no_crew z last xs none zero = subst (IsCrew z last) (sym none) (λ k d lt. absurd (omega arith), λ n pos le. absurd (omega arith))
