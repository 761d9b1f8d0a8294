-- The table as one session of it is set.
use Rattle.std.specs.Prelude.{◌≡◌, ◌≢◌, ℕ, zero, suc, ◌+◌, ◌==◌, ◌<◌, List, [], ◌∷◌, length, set, Some, None, slice_get, if◌then◌else◌}
use mathlib.Core.Path.{refl, sym, ap, subst, fun_ext, ◌∙◌}
use Rattle.std.proofs.Common.{arith}
use Rattle.table_laws.proofs.Stored.{by_session}
use Rattle.txn_machine.specs.Alone.{Story}
use Rattle.txn_machine.specs.Laws.{IsReachedStory}
use Rattle.script_law.specs.RunLines.{set_seat}
use Rattle.script_law.proofs.Basics.{if_same, if_other}
use Rattle.session_table.specs.declared.slot.Slot.{Slot}
use Rattle.session_table.specs.Slots.{seat_by, seat_or_none, seat_at, table_of, EachSlot, AllGo, weight, waits_in}

-- ---- one of a list is set

module _ {T : Type 0} where
  pub get_same : (l : List T) (n : ℕ) (x y : T) → slice_get l n ≡ Some y → slice_get (set l n x) n ≡ Some x
  get_same [] n x y e = absurd (cc)
  get_same (z ∷ l) zero x y e = refl
  get_same (z ∷ l) (suc n) x y e = get_same l n x y e

  pub get_other : (l : List T) (n m : ℕ) (x : T) → m ≢ n → slice_get (set l n x) m ≡ slice_get l m
  get_other [] n m x d = refl
  get_other (z ∷ l) zero zero x d = absurd (d refl)
  get_other (z ∷ l) zero (suc m) x d = refl
  get_other (z ∷ l) (suc n) zero x d = refl
  get_other (z ∷ l) (suc n) (suc m) x d = get_other l n m x (λ e. d (ap suc e))

  pub length_set : (l : List T) (n : ℕ) (x : T) → length (set l n x) ≡ length l
  length_set [] n x = refl
  length_set (z ∷ l) zero x = refl
  length_set (z ∷ l) (suc n) x = ap suc (length_set l n x)

  pub some_is : (x y : T) → Some x ≡ Some y → x ≡ y
  some_is x y e = ap (λ o. elim o [ None ↦ x | Some z ↦ z ]) e

  pub set_same : (l : List T) (n : ℕ) (x : T) → slice_get l n ≡ Some x → set l n x ≡ l
  set_same [] n x e = refl
  set_same (z ∷ l) zero x e = ap (λ y. y ∷ l) (sym (some_is z x e))
  set_same (z ∷ l) (suc n) x e = ap (λ k. z ∷ k) (set_same l n x e)

-- ---- one session is set

pub each_set : (P : ℕ → Slot → Type 0) (l : List Slot) (n : ℕ) (x y : Slot) → slice_get l n ≡ Some y → EachSlot P l → P n x → EachSlot P (set l n x)
each_set P l n x y at all one m slot e = by_session m n
    (λ same. subst (λ k. P k slot) (sym same) (subst (P n) (some_is x slot (sym (get_same l n x y at) ∙ (subst (λ k. slice_get (set l n x) k ≡ Some slot) same e))) one))
    (λ other. all m slot (sym (get_other l n m x other) ∙ e))

-- others are as they come to be
pub each_after : (P Q : ℕ → Slot → Type 0) (l : List Slot) (n : ℕ) (x y : Slot) → slice_get l n ≡ Some y → EachSlot P l → ((m : ℕ) (slot : Slot) → m ≢ n → slice_get l m ≡ Some slot → P m slot → Q m slot) → Q n x
    → EachSlot Q (set l n x)
each_after P Q l n x y at all others one m slot e = by_session m n
    (λ same. subst (λ k. Q k slot) (sym same) (subst (Q n) (some_is x slot (sym (get_same l n x y at) ∙ (subst (λ k. slice_get (set l n x) k ≡ Some slot) same e))) one))
    (λ other. let was = sym (get_other l n m x other) ∙ e in others m slot other was (all m slot was))

suc_other : (m n : ℕ) → suc m ≢ suc n → m ≢ n
suc_other m n d e = d (ap suc e)

pub table_set : (l : List Slot) (n : ℕ) (x y : Slot) → slice_get l n ≡ Some y → table_of (set l n x) ≡ set_seat (table_of l) (suc n) (seat_by x)
table_set l n x y at = fun_ext at_each
  where
    at_each : (m : ℕ) → seat_at (set l n x) m ≡ (if m == suc n then seat_by x else seat_at l m)
    at_each zero = sym (if_other zero (suc n) (seat_by x) (seat_at l zero) (λ e. cc))
    at_each (suc m) = by_session (suc m) (suc n)
        (λ d. subst (λ k. seat_at (set l n x) k ≡ (if k == suc n then seat_by x else seat_at l k)) (sym d)
        (ap seat_or_none (get_same l n x y at) ∙ sym (if_same (suc n) (seat_by x) (seat_at l (suc n)))))
        (λ d. ap seat_or_none (get_other l n m x (suc_other m n d)) ∙ sym (if_other (suc m) (suc n) (seat_by x) (seat_at l (suc m)) d))

pub waits_set : (l : List Slot) (n : ℕ) (x y : Slot) → slice_get l n ≡ Some y → waits_in (set l n x) + weight y.line ≡ waits_in l + weight x.line
waits_set [] n x y e = absurd (cc)
waits_set (z ∷ l) zero x y e =
    let h : weight z.line ≡ weight y.line = ap (λ (s : Slot). weight s.line) (some_is z y e) in
    omega (arith, h)
waits_set (z ∷ l) (suc n) x y e = omega (arith, waits_set l n x y e)

-- ---- all of them

module _ {T : Type 0} where
  -- there is one at each place below the length
  pub get_below : (l : List T) (n : ℕ) → n < length l → (x : T) × (slice_get l n ≡ Some x)
  get_below [] n h = absurd (omega (arith, h))
  get_below (x ∷ l) zero h = (x, refl)
  get_below (x ∷ l) (suc n) h = get_below l n (omega (arith, h))

pub all_reached : (slots : List Slot) (s : Story) → length slots ≡ 64 → AllGo slots s → IsReachedStory s
all_reached slots s many go = let first = get_below slots 0 (omega (arith, many)) in (go 0 first.0 first.1).reached
