-- Lists in which each session is followed by the first one that leads to the end in as many steps as are left.
use Rattle.std.proofs.Common.{◌≡◌, ℕ, suc, ◌+◌, ◌<◌, ◌≤◌, inl, inr, List, [], ◌∷◌, length, get_or, sym, ap, ◌∙◌, subst, arith, Ordering, Less, Equal, Greater}
use Rattle.std.proofs.lemmas.Bool.{cases_order}
use Rattle.std.proofs.lemmas.Bool.Decides.{nat_tests}
use Rattle.std.specs.Ordering.{nat_cmp, ordering_then}
use Rattle.std.specs.Cmp.Lexicographic.{slice_cmp}
use Rattle.iv_types.specs.declared.session.Sessions.{Sessions}
use Rattle.iv_types.specs.Intervals.{IsAtMost}
use Rattle.iv_types.specs.SessionSets.{Has}
use Rattle.wait_graph.specs.Walks.{HasWalk}
use Rattle.wait_graph.proofs.Walking.{Leads, walk_of_list}

-- the first session for which this one waits and from which so many steps lead to the end
pub record IsFirstStep (w : ℕ → Sessions) (end steps session next : ℕ) : Type 0 where
  pub waited : Has (w session) next
  pub leads : HasWalk w steps next end
  pub first : (other : ℕ) → Has (w session) other → HasWalk w steps other end → next ≤ other

-- each session of a list is followed by such a one, and the last waits for the end
abbrev pub AreFirstSteps : (ℕ → Sessions) → ℕ → ℕ → List ℕ → Type 0
AreFirstSteps w end s [] = Has (w s) end
AreFirstSteps w end s (t ∷ ts) = IsFirstStep w end (suc (length ts)) s t × AreFirstSteps w end t ts

pub first_steps_lead : (w : ℕ → Sessions) (ss : List ℕ) (s end : ℕ) → AreFirstSteps w end s ss → Leads w (s ∷ ss) end
first_steps_lead w [] s end h = h
first_steps_lead w (t ∷ ts) s end h = (h.0.waited, first_steps_lead w ts t end h.1)

cmp_same : (x : ℕ) → nat_cmp x x ≡ Equal
cmp_same x = grind (arith, nat_tests)

cmp_less : (x y : ℕ) → x < y → nat_cmp x y ≡ Less
cmp_less x y l = grind (arith, nat_tests)

at_most_same_head : (x : ℕ) (xs ys : List ℕ) → IsAtMost xs ys → IsAtMost (x ∷ xs) (x ∷ ys)
at_most_same_head x xs ys h = λ e. h (sym (ap (λ (o : Ordering). ordering_then o (slice_cmp nat_cmp xs ys)) (cmp_same x)) ∙ e)

at_most_less_head : (x y : ℕ) (xs ys : List ℕ) → x < y → IsAtMost (x ∷ xs) (y ∷ ys)
at_most_less_head x y xs ys l = λ e. let no : Less ≡ Greater = sym (ap (λ (o : Ordering). ordering_then o (slice_cmp nat_cmp xs ys)) (cmp_less x y l)) ∙ e in cc

first_among : (w : ℕ → Sessions) (ss os : List ℕ) (s end : ℕ) → length os ≡ length ss → AreFirstSteps w end s ss → Leads w (s ∷ os) end → IsAtMost ss os
first_among w [] [] s end e h other = λ no. cc
first_among w [] (o ∷ os) s end e h other = absurd (omega arith)
first_among w (t ∷ ts) [] s end e h other = absurd (omega arith)
first_among w (t ∷ ts) (o ∷ os) s end e h other =
    let n : length os ≡ length ts = omega arith in
    let walk : HasWalk w (suc (length ts)) o end = subst (λ (k : ℕ). HasWalk w (suc k) o end) n (walk_of_list w os o end other.1) in
    let least : t ≤ o = h.0.first o other.0 walk in
    elim (cases_order t o) [
      | inl same ↦
          subst (λ (x : ℕ). IsAtMost (t ∷ ts) (x ∷ os)) same
          (at_most_same_head t ts os (first_among w ts os t end n h.1 (subst (λ (x : ℕ). Leads w (x ∷ os) end) (sym same) other.1)))
      | inr apart ↦ elim apart [
        | inl l ↦ at_most_less_head t o ts os l
        | inr g ↦ absurd (omega arith)
      ]
    ]

pub first_of_all : (w : ℕ → Sessions) (ss os : List ℕ) (s end : ℕ) → length os ≡ length ss → AreFirstSteps w end s ss → Leads w (s ∷ os) end → IsAtMost (s ∷ ss) (s ∷ os)
first_of_all w ss os s end e h other = at_most_same_head s ss os (first_among w ss os s end e h other)

-- the steps of a list by their places
pub record AreStepsByPlace (w : ℕ → Sessions) (end total : ℕ) (ss : List ℕ) : Type 0 where
  pub each : (k n : ℕ) → suc k < total → suc k + n ≡ total → IsFirstStep w end n (get_or ss k 0) (get_or ss (suc k) 0)
  pub last : (k : ℕ) → suc k ≡ total → HasWalk w 1 (get_or ss k 0) end

pub first_steps_by_place : (w : ℕ → Sessions) (ss : List ℕ) (s end : ℕ) → AreStepsByPlace w end (suc (length ss)) (s ∷ ss) → AreFirstSteps w end s ss
first_steps_by_place w [] s end h =
    let step = h.last 0 (omega arith) in
    subst (λ (x : ℕ). Has (w s) x) step.2 step.1
first_steps_by_place w (t ∷ ts) s end h = (
  h.each 0 (suc (length ts)) (omega arith) (omega arith),
  first_steps_by_place w ts t end (record {
    each = λ k n l e. h.each (suc k) n (omega arith) (omega arith);
    last = λ k e. h.last (suc k) (omega arith);
  }),
)
