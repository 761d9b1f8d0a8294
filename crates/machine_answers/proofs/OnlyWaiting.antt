-- Two sets of the sessions that are in the way have the same members, and there is one first shortest cycle.
use Rattle.std.specs.Prelude.{◌≡◌, ◌↔◌, ◌==◌, ◌%◌, ◌/◌, cond, Bool, true, false, ℕ, zero, suc, ◌≤◌, List, [], ◌∷◌, length}
use Rattle.std.specs.List.{Contains}
use mathlib.Core.Path.{refl, sym, ap, subst}
use mathlib.Core.Logic.{inl, inr}
use Rattle.std.proofs.Common.{arith}
use Rattle.std.specs.Ordering.{nat_cmp}
use Rattle.std.specs.Cmp.Lexicographic.{slice_cmp, nat_list_cmp_total}
use Rattle.iv_types.specs.declared.lock.Want.{Want}
use Rattle.iv_types.specs.declared.session.Sessions.{Sessions}
use Rattle.iv_types.specs.Replies.{members, members_from}
use Rattle.iv_types.proofs.Members.{contains_cases, contains_head, contains_tail, bit_from_member}
use Rattle.iv_meaning.specs.Escrow.{IsSession}
use Rattle.iv_meaning.specs.Waits.{LeadsTo, IsCycle}
use Rattle.query_laws.proofs.Rising.{key_exact}
use Rattle.txn_machine.specs.Locks.{Locks, with_one, AreInTheWay, IsDeadlock}
use Rattle.machine_answers.proofs.Only.{tied_both}

-- ---- sets

abbrev SameMembers : List ℕ → List ℕ → Type 0
SameMembers xs ys = (other : ℕ) → Contains xs other ↔ Contains ys other

-- sessions that come after one
abbrev AreAfter : ℕ → List ℕ → Type 0
AreAfter session xs = (other : ℕ) → Contains xs other → suc session ≤ other

rest_same : (session : ℕ) (xs ys : List ℕ) → AreAfter session xs → ((other : ℕ) → Contains (session ∷ xs) other → Contains (session ∷ ys) other) → (other : ℕ) → Contains xs other → Contains ys other
rest_same session xs ys after same other c = elim (contains_cases session ys other (same other (contains_tail session xs other c))) [
  | inl e ↦ let later = after other c in absurd (omega (arith, e, later))
  | inr d ↦ d
]

first_same : (session : ℕ) (xs ys : List ℕ) → AreAfter session xs → AreAfter session ys → (x y : Bool) → (SameMembers xs ys → xs ≡ ys) → SameMembers (cond x (session ∷ xs) xs) (cond y (session ∷ ys) ys)
    → cond x (session ∷ xs) xs ≡ cond y (session ∷ ys) ys
first_same session xs ys up down true true rest same = ap (λ (l : List ℕ). session ∷ l) (rest (λ other. (rest_same session xs ys up (λ o. (same o).0) other, rest_same session ys xs down (λ o. (same o).1) other)))
first_same session xs ys up down false false rest same = rest same
first_same session xs ys up down true false rest same = let later = down session ((same session).0 (contains_head session xs)) in absurd (omega (arith, later))
first_same session xs ys up down false true rest same = let later = up session ((same session).1 (contains_head session ys)) in absurd (omega (arith, later))

from_same : (n session a b : ℕ) → SameMembers (members_from n session a) (members_from n session b) → members_from n session a ≡ members_from n session b
from_same zero session a b same = refl
from_same (suc n) session a b same =
    first_same session (members_from n (suc session) (a / 2)) (members_from n (suc session) (b / 2))
    (λ other c. (bit_from_member n (suc session) (a / 2) other c).from) (λ other c. (bit_from_member n (suc session) (b / 2) other c).from)
    (a % 2 == 1) (b % 2 == 1) (from_same n (suc session) (a / 2) (b / 2)) same

pub members_same : (one other : Sessions) → SameMembers (members one) (members other) → members one ≡ members other
members_same one other same = from_same 64 1 one.bits other.bits same

-- ---- cycles

module _ (locks waiting : Locks) (i : ℕ) (is : IsSession i) (wants : List Want) where
  abbrev OfAll : (ℕ → Sessions) → Type 0
  OfAll w = (s : ℕ) → IsSession s → AreInTheWay locks s (with_one waiting i wants s) (w s)

  leads_over : (w v : ℕ → Sessions) → OfAll w → OfAll v → (s : ℕ) (ss : List ℕ) (end : ℕ) → IsSession s → LeadsTo w (s ∷ ss) end → LeadsTo v (s ∷ ss) end
  leads_over w v of also s [] end at h = (also s at end).1 ((of s at end).0 h)
  leads_over w v of also s (t ∷ ss) end at h =
      let way = (of s at t).0 h.0 in
      ((also s at t).1 way, leads_over w v of also t ss end way.of_session h.1)

  cycle_over : (w v : ℕ → Sessions) → OfAll w → OfAll v → (cycle : List ℕ) → IsCycle w i cycle → IsCycle v i cycle
  cycle_over w v of also cycle c = record {
    others = c.others;
    begins = c.begins;
    different = c.different;
    leads = subst (λ (l : List ℕ). LeadsTo v l i) (sym c.begins) (leads_over w v of also i c.others i is (subst (λ (l : List ℕ). LeadsTo w l i) c.begins c.leads));
  }

  pub cycles_same : (c d : List ℕ) → IsDeadlock locks waiting i wants c → IsDeadlock locks waiting i wants d → c ≡ d
  cycles_same c d h k =
      let there = cycle_over k.waits h.waits k.of_all h.of_all d k.closes.is in
      let back = cycle_over h.waits k.waits h.of_all k.of_all c h.closes.is in
      let up : length c ≤ length d = h.closes.shortest d there in
      let down : length d ≤ length c = k.closes.shortest c back in
      key_exact c d (tied_both (slice_cmp nat_cmp) nat_list_cmp_total c d (h.closes.first d there (omega (arith, up, down))) (k.closes.first c back (omega (arith, up, down))))
