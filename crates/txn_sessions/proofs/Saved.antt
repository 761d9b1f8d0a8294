-- Lemmas on savepoints, one after another.
use Rattle.std.specs.Prelude.{◌≡◌, ◌<◌, ◌+◌, ℕ, zero, suc, true, false, List, [], ◌∷◌, length, drop, get_or, if◌then◌else◌}
use Rattle.std.proofs.Common.{arith}
use Rattle.std.specs.Str.{bytes_eq}
use Rattle.std.proofs.lemmas.List.{drop-map, at_drop_more}
use mathlib.Core.Path.{refl, sym, ap, ◌∙◌}
use Rattle.script_law.specs.Sessions.{from_marked}
use Rattle.txn_sessions.specs.declared.standing.Savepoint.{Savepoint}
use Rattle.txn_sessions.specs.Standings.{mark_of, marks_of}

one_behind : (n : ℕ) → suc (n + 1) ≡ suc n + 1
one_behind n = omega arith

-- one more goes
pub drop_one : {X : Type 0} (n : ℕ) (xs : List X) → drop 1 (drop n xs) ≡ drop (n + 1) xs
drop_one zero xs = refl
drop_one (suc n) [] = ap (λ k. drop k []) (one_behind n)
drop_one (suc n) (x ∷ xs) = drop_one n xs ∙ ap (λ k. drop k (x ∷ xs)) (one_behind n)

pub marks_drop : (saved after : List Savepoint) (n : ℕ) → after ≡ drop n saved → marks_of after ≡ drop n (marks_of saved)
marks_drop saved after n e = ap marks_of e ∙ sym (drop-map mark_of n saved)

-- the one at a place
pub marked_at : (saved : List Savepoint) (place : ℕ) (s : Savepoint) → place < length saved → s ≡ get_or saved place s
    → drop place (marks_of saved) ≡ mark_of s ∷ drop (place + 1) (marks_of saved)
marked_at saved place s h is =
    drop-map mark_of place saved
    ∙ (at_drop_more marks_of saved place s h
    ∙ (ap (λ x. mark_of x ∷ marks_of (drop (place + 1) saved)) (sym is)
    ∙ ap (λ ms. mark_of s ∷ ms) (sym (drop-map mark_of (place + 1) saved))))

module _ (name : List ℕ) (p : List ℕ × ℕ) (ps : List (List ℕ × ℕ)) where
  pub is_first : bytes_eq name p.0 ≡ true → from_marked name (p ∷ ps) ≡ p ∷ ps
  is_first e = ap (λ b. if b then p ∷ ps else from_marked name ps) e

  pub is_later : bytes_eq name p.0 ≡ false → from_marked name (p ∷ ps) ≡ from_marked name ps
  is_later e = ap (λ b. if b then p ∷ ps else from_marked name ps) e
