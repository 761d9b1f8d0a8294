-- A set's members by its bits.
use Rattle.std.proofs.Common.{◌≡◌, ℕ, zero, suc, ◌+◌, ◌-◌, ◌*◌, ◌/◌, ◌%◌, ◌^◌, ◌<◌, ◌≤◌, ◌⊎◌, inl, inr, List, [], ◌∷◌, refl, sym, ap, ◌∙◌, subst, arith, eqb, eq-eqb, ◌↔◌, IsTrue, bit_and, bit_or, w64, min, not}
use Rattle.std.proofs.lemmas.Bool.{cases_eq, cases_lt, ne_eqb, eqb-true, eqb-false, not-true, cond-true, cond-false}
use Rattle.std.proofs.lemmas.Nat.{and_le_l}
use Rattle.std.proofs.lemmas.Nat.Bits.{bit_at-suc, bit_at_lowest, bit_at-lt, bit_at-zero, bit_at_and, bit_at_set_same, bit_at_set_other, bit_at-trailing_zeros, shr_and_one}
use Rattle.std.specs.Int.{bit_at, trailing_zeros}
use Rattle.std.specs.List.{Contains}
use Rattle.iv_types.specs.declared.session.Sessions.{Sessions}
use Rattle.iv_types.specs.Replies.{members_from, members}
use Rattle.iv_types.specs.SessionSets.{Has, IsSomebody, HaveCommon, IsFirstCommon}

pub contains_cases : (x : ℕ) (xs : List ℕ) (y : ℕ) → Contains (x ∷ xs) y → (x ≡ y) ⊎ Contains xs y
contains_cases x xs y (zero, l, e) = inl e
contains_cases x xs y (suc k, l, e) = inr (k, omega arith, e)

pub contains_head : (x : ℕ) (xs : List ℕ) → Contains (x ∷ xs) x
contains_head x xs = (0, omega arith, refl)

pub contains_tail : (x : ℕ) (xs : List ℕ) (y : ℕ) → Contains xs y → Contains (x ∷ xs) y
contains_tail x xs y (k, l, e) = (suc k, omega arith, e)

pub contains_none : (y : ℕ) → Contains [] y → ⊥
contains_none y (k, l, e) = omega arith

-- the session's place among the bits from this one on, and that it is set
pub record IsSetFrom (n session bits other : ℕ) : Type 0 where
  pub from : session ≤ other
  pub below : other < session + n
  pub bit : bit_at bits (other - session) ≡ 1

later : (n session bits other : ℕ) → IsSetFrom n (suc session) (bits / 2) other → IsSetFrom (suc n) session bits other
later n session bits other h =
    let e : other - session ≡ suc (other - suc session) = omega arith in
    record {
      from = omega arith;
      below = omega arith;
      bit = ap (bit_at bits) e ∙ bit_at-suc bits (other - suc session) ∙ h.bit;
    }

pub bit_from_member : (n session bits other : ℕ) → Contains (members_from n session bits) other → IsSetFrom n session bits other
bit_from_member zero session bits other h = absurd (contains_none other h)
bit_from_member (suc n) session bits other h = elim (cases_eq (bits % 2) 1) [
  | inl one ↦
      let here : Contains (session ∷ members_from n (suc session) (bits / 2)) other =
      subst (λ (xs : List ℕ). Contains xs other) (cond-true (eqb (bits % 2) 1) (session ∷ members_from n (suc session) (bits / 2)) (members_from n (suc session) (bits / 2)) (eq-eqb (bits % 2) 1 one)) h in
      elim (contains_cases session (members_from n (suc session) (bits / 2)) other here) [
        | inl e ↦
            let z : other - session ≡ 0 = omega arith in
            record { from = omega arith; below = omega arith; bit = ap (bit_at bits) z ∙ bit_at_lowest bits ∙ one }
        | inr rest ↦ later n session bits other (bit_from_member n (suc session) (bits / 2) other rest)
      ]
  | inr ne ↦
      let rest : Contains (members_from n (suc session) (bits / 2)) other =
      subst (λ (xs : List ℕ). Contains xs other) (cond-false (eqb (bits % 2) 1) (session ∷ members_from n (suc session) (bits / 2)) (members_from n (suc session) (bits / 2)) (ne_eqb (bits % 2) 1 ne)) h in
      later n session bits other (bit_from_member n (suc session) (bits / 2) other rest)
]

pub member_from_bit : (n session bits other : ℕ) → session ≤ other → other < session + n → bit_at bits (other - session) ≡ 1 → Contains (members_from n session bits) other
member_from_bit zero session bits other from below bit = absurd (omega arith)
member_from_bit (suc n) session bits other from below bit =
    let rest = members_from n (suc session) (bits / 2) in
    elim (cases_eq other session) [
      | inl e ↦
          let z : other - session ≡ 0 = omega arith in
          let one : bits % 2 ≡ 1 = sym (bit_at_lowest bits) ∙ ap (bit_at bits) (sym z) ∙ bit in
          subst (λ (xs : List ℕ). Contains xs other) (sym (cond-true (eqb (bits % 2) 1) (session ∷ rest) rest (eq-eqb (bits % 2) 1 one)))
          (subst (λ (x : ℕ). Contains (session ∷ rest) x) (sym e) (contains_head session rest))
      | inr ne ↦
          let z : other - session ≡ suc (other - suc session) = omega arith in
          let tail : Contains rest other = member_from_bit n (suc session) (bits / 2) other (omega arith) (omega arith) (sym (bit_at-suc bits (other - suc session)) ∙ ap (bit_at bits) (sym z) ∙ bit) in
          elim (cases_eq (bits % 2) 1) [
            | inl one ↦ subst (λ (xs : List ℕ). Contains xs other) (sym (cond-true (eqb (bits % 2) 1) (session ∷ rest) rest (eq-eqb (bits % 2) 1 one))) (contains_tail session rest other tail)
            | inr zer ↦ subst (λ (xs : List ℕ). Contains xs other) (sym (cond-false (eqb (bits % 2) 1) (session ∷ rest) rest (ne_eqb (bits % 2) 1 zer))) tail
          ]
    ]

-- a member of a set is a session from 1 to 64, and its bit is set
pub record IsMember (bits other : ℕ) : Type 0 where
  pub from : 1 ≤ other
  pub to : other ≤ 64
  pub bit : bit_at bits (other - 1) ≡ 1

member_at : (n bits other : ℕ) → n ≡ 64 → IsSetFrom n 1 bits other → IsMember bits other
member_at n bits other e h = record { from = h.from; to = omega (arith, h.below); bit = h.bit }

pub bit_of : (set : Sessions) (other : ℕ) → Has set other → IsMember set.bits other
unfolding Has
bit_of set other h = member_at 64 set.bits other refl (bit_from_member 64 1 set.bits other h)

pub has_bit : (set : Sessions) (other : ℕ) → 1 ≤ other → other ≤ 64 → bit_at set.bits (other - 1) ≡ 1 → Has set other
unfolding Has
has_bit set other from to bit = member_from_bit 64 1 set.bits other from (omega arith) bit

-- a test of the bit
pub has_by_test : (set : Sessions) (session : ℕ) → 1 ≤ session → session ≤ 64 → IsTrue (eqb (bit_and (set.bits / 2 ^ (session - 1)) 1) 1) ↔ Has set session
has_by_test set session from to = (
  λ t. has_bit set session from to (sym (shr_and_one set.bits (session - 1)) ∙ eqb-true (bit_and (set.bits / 2 ^ (session - 1)) 1) 1 t),
  λ h. eq-eqb (bit_and (set.bits / 2 ^ (session - 1)) 1) 1 (shr_and_one set.bits (session - 1) ∙ (bit_of set session h).bit),
)

abbrev pub set_with : Sessions → ℕ → Sessions
set_with set session = record { bits = bit_or set.bits (1 * 2 ^ (session - 1) % 2 ^ 64) }

added : (set : Sessions) (session other : ℕ) → 1 ≤ session → session ≤ 64 → Has (set_with set session) other → Has set other ⊎ (other ≡ session)
added set session other from to h =
    let m = bit_of (set_with set session) other h in
    elim (cases_eq other session) [
      | inl e ↦ inr e
      | inr ne ↦
          let lower : session - 1 < 64 = omega arith in
          let apart : other - 1 ≡ session - 1 → ⊥ = λ e. ne (omega (arith, m.from)) in
          inl (has_bit set other m.from m.to (sym (bit_at_set_other w64 set.bits (session - 1) lower (other - 1) apart) ∙ m.bit))
    ]

kept_same : (set : Sessions) (session other : ℕ) → 1 ≤ session → session ≤ 64 → other ≡ session → Has (set_with set session) other
kept_same set session other from to e =
    let lower : session - 1 < 64 = omega arith in
    let same : other - 1 ≡ session - 1 = omega arith in
    has_bit (set_with set session) other (omega arith) (omega arith) (ap (bit_at (set_with set session).bits) same ∙ bit_at_set_same w64 set.bits (session - 1) lower)

kept : (set : Sessions) (session other : ℕ) → 1 ≤ session → session ≤ 64 → IsMember set.bits other → Has (set_with set session) other
kept set session other from to m = elim (cases_eq other session) [
  | inl e ↦ kept_same set session other from to e
  | inr ne ↦
      let lower : session - 1 < 64 = omega arith in
      let apart : other - 1 ≡ session - 1 → ⊥ = λ e. ne (omega (arith, m.from)) in
      has_bit (set_with set session) other m.from m.to (bit_at_set_other w64 set.bits (session - 1) lower (other - 1) apart ∙ m.bit)
]

pub has_with : (set : Sessions) (session other : ℕ) → 1 ≤ session → session ≤ 64 → Has (set_with set session) other ↔ (Has set other ⊎ (other ≡ session))
has_with set session other from to = (
  added set session other from to,
  λ h. elim h [ inl before ↦ kept set session other from to (bit_of set other before) | inr e ↦ kept_same set session other from to e ],
)

both_set : (a b i : ℕ) → bit_at a i ≡ 1 → bit_at b i ≡ 1 → bit_at (bit_and a b) i ≡ 1
both_set a b i ea eb = bit_at_and a b i ∙ ap (λ (x : ℕ). min x (bit_at b i)) ea ∙ ap (min 1) eb

pub nothing_common : (a b : Sessions) → bit_and a.bits b.bits ≡ 0 → HaveCommon a b → ⊥
nothing_common a b e (session, in_a, in_b) =
    let bit : bit_at (bit_and a.bits b.bits) (session - 1) ≡ 1 = both_set a.bits b.bits (session - 1) (bit_of a session in_a).bit (bit_of b session in_b).bit in
    let no : bit_at 0 (session - 1) ≡ 1 = subst (λ (x : ℕ). bit_at x (session - 1) ≡ 1) e bit in
    omega (arith, no, bit_at-zero (session - 1))

one_of : (a b : ℕ) → a < 2 → b < 2 → min a b ≡ 1 → (a ≡ 1) × (b ≡ 1)
one_of a b la lb e = (omega arith, omega arith)

pub lowest_common : (a b : Sessions) → 0 < bit_and a.bits b.bits → bit_and a.bits b.bits < 2 ^ 64 → IsFirstCommon a b (trailing_zeros w64 (bit_and a.bits b.bits) + 1)
lowest_common a b some fits =
    let both = bit_and a.bits b.bits in
    let place = trailing_zeros w64 both in
    let low = bit_at-trailing_zeros w64 both some fits in
    let below : place < 64 = low.0 in
    let before : place + 1 - 1 ≡ place = omega arith in
    let bits = one_of (bit_at a.bits place) (bit_at b.bits place) (bit_at-lt a.bits place) (bit_at-lt b.bits place) (sym (bit_at_and a.bits b.bits place) ∙ low.1) in
    record {
      in_one = has_bit a (place + 1) (omega arith) (omega arith) (ap (bit_at a.bits) before ∙ bits.0);
      in_other = has_bit b (place + 1) (omega arith) (omega arith) (ap (bit_at b.bits) before ∙ bits.1);
      first = λ other in_a in_b.
          let ma = bit_of a other in_a in
          let bit : bit_at both (other - 1) ≡ 1 = both_set a.bits b.bits (other - 1) ma.bit (bit_of b other in_b).bit in
          elim (cases_lt (other - 1) place) [
            | inl l ↦ let no : 0 ≡ 1 = sym (low.2 (other - 1) l) ∙ bit in absurd (omega arith)
            | inr g ↦ omega (arith, ma.from)
          ];
    }

fits_too : (a b : ℕ) → a < 2 ^ 64 → bit_and a b < 2 ^ 64
fits_too a b h = omega (arith, and_le_l a b)

pub have_by_test : (a b : Sessions) → a.bits < 2 ^ 64 → IsTrue (not (eqb (bit_and a.bits b.bits) 0)) ↔ HaveCommon a b
have_by_test a b fits = (
  λ t.
      let apart : bit_and a.bits b.bits ≡ 0 → ⊥ = eqb-false (bit_and a.bits b.bits) 0 (not-true (eqb (bit_and a.bits b.bits) 0) t) in
      let lowest = lowest_common a b (omega arith) (fits_too a.bits b.bits fits) in
      (trailing_zeros w64 (bit_and a.bits b.bits) + 1, lowest.in_one, lowest.in_other),
  λ common. ap not (ne_eqb (bit_and a.bits b.bits) 0 (λ e. nothing_common a b e common)),
)

pub first_by_zeros : (a b : Sessions) → a.bits < 2 ^ 64 → HaveCommon a b → IsFirstCommon a b (trailing_zeros w64 (bit_and a.bits b.bits) + 1)
first_by_zeros a b fits common =
    let apart : bit_and a.bits b.bits ≡ 0 → ⊥ = λ e. nothing_common a b e common in
    lowest_common a b (omega arith) (fits_too a.bits b.bits fits)

nobody : (set : Sessions) (other : ℕ) → set.bits ≡ 0 → Has set other → ⊥
nobody set other e h =
    let m = bit_of set other h in
    let zero_bit : bit_at 0 (other - 1) ≡ 1 = subst (λ (x : ℕ). bit_at x (other - 1) ≡ 1) e m.bit in
    omega (arith, zero_bit, bit_at-zero (other - 1))

first_bit : (set : Sessions) → 0 < set.bits → set.bits < 2 ^ 64 → Has set (trailing_zeros w64 set.bits + 1)
first_bit set some fits =
    let place = trailing_zeros w64 set.bits in
    let low = bit_at-trailing_zeros w64 set.bits some fits in
    let below : place < 64 = low.0 in
    let before : place + 1 - 1 ≡ place = omega arith in
    has_bit set (place + 1) (omega arith) (omega arith) (ap (bit_at set.bits) before ∙ low.1)

pub somebody_by_bits : (set : Sessions) → set.bits < 2 ^ 64 → IsTrue (not (eqb set.bits 0)) ↔ IsSomebody set
somebody_by_bits set fits = (
  λ t.
      let apart : set.bits ≡ 0 → ⊥ = eqb-false set.bits 0 (not-true (eqb set.bits 0) t) in
      (trailing_zeros w64 set.bits + 1, first_bit set (omega arith) fits),
  λ (other, h). ap not (ne_eqb set.bits 0 (λ e. nobody set other e h)),
)

pub nobody_there : (other : ℕ) → Has (record { bits = 0 }) other → ⊥
nobody_there other h = nobody (record { bits = 0 }) other refl h

-- a session of the set is among its members, and the other way round
pub has_members : (set : Sessions) (session : ℕ) → Has set session ↔ Contains (members set) session
unfolding Has
has_members set session = (λ h. h, λ c. c)
