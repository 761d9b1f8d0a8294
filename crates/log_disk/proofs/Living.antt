-- The live header of a device, and the end of its first block.
use Rattle.std.proofs.Common.{◌≡◌, ◌≢◌, inl, inr, ◌⊎◌, Bool, true, false, ◌&&◌, nat_le, if◌then◌else◌, ℕ, zero, suc, ◌+◌, ◌^◌, ◌<◌, ◌≤◌, List, length, get_or, ◌++◌, Some, None, refl, sym, ◌∙◌, ap, subst, arith}
use Rattle.std.proofs.lemmas.Bool.{false≢true, and_from}
use Rattle.std.proofs.lemmas.Bool.Decides.{leb_tells}
use Rattle.byteorder.specs.Numbers.{big_number-reads_back}
use Rattle.log_records.specs.Area.{block}
use Rattle.log_records.specs.Scan.{frame_size}
use Rattle.page_store.specs.Image.{header_at, is_open, number_of, choose, live}
use Rattle.page_store.proofs.Old.{open_false, live_is}
use Rattle.log_disk.specs.Bears.{end_of_first, FirstEndLaw}
use Rattle.log_disk.specs.Found.{opens_on, live_on, IsLive, LiveLaw}
use Rattle.log_disk.proofs.Areas.{block_long}

-- ---- one of two

some_number : {x y : ℕ} → Some x ≡ Some y → x ≡ y
some_number h = cc

picked : (a b : Bool) (m n k : ℕ) → choose a b m n ≡ Some k → ((k ≡ 0) × (a ≡ true) × (b ≡ true → n ≤ m)) ⊎ ((k ≡ 1) × (b ≡ true) × (a ≡ true → m < n))
picked true true m n k h = elim (leb_tells n m) [
  | inl le ↦ inl (sym (some_number (sym (ap (λ x. if x then Some 0 else Some 1) le.0) ∙ h)), refl, λ e. le.1)
  | inr less ↦ inr (sym (some_number (sym (ap (λ x. if x then Some 0 else Some 1) less.0) ∙ h)), refl, λ e. less.1)
]
picked true false m n k h = inl (sym (some_number h), refl, λ e. absurd (false≢true e))
picked false true m n k h = inr (sym (some_number h), refl, λ e. absurd (false≢true e))
picked false false m n k h = absurd (let e : None ≡ Some k = h in cc)

pub first_picked : (a b : Bool) (m n : ℕ) → a ≡ true → (b ≡ true → n ≤ m) → choose a b m n ≡ Some 0
first_picked false b m n e le = absurd (false≢true e)
first_picked true false m n e le = refl
first_picked true true m n e le = elim (leb_tells n m) [
  | inl is ↦ ap (λ x. if x then Some 0 else Some 1) is.0
  | inr less ↦ absurd (let most = le refl in let more = less.1 in omega (arith, most, more))
]

pub second_picked : (a b : Bool) (m n : ℕ) → b ≡ true → (a ≡ true → m < n) → choose a b m n ≡ Some 1
second_picked a false m n e less = absurd (false≢true e)
second_picked false true m n e less = refl
second_picked true true m n e less = elim (leb_tells n m) [
  | inl is ↦ absurd (let more = less refl in let most = is.1 in omega (arith, most, more))
  | inr is ↦ ap (λ x. if x then Some 0 else Some 1) is.0
]

-- ---- headers

both_true : (a b : Bool) → (a && b) ≡ true → (a ≡ true) × (b ≡ true)
both_true true b h = (refl, h)
both_true false b h = absurd (false≢true h)

within : (m n : ℕ) → nat_le m n ≡ true → m ≤ n
within m n e = elim (leb_tells m n) [
  | inl is ↦ is.1
  | inr is ↦ absurd (false≢true (sym is.0 ∙ e))
]

is_within : (m n : ℕ) → m ≤ n → nat_le m n ≡ true
is_within m n le = elim (leb_tells m n) [
  | inl is ↦ is.0
  | inr is ↦ absurd (let less = is.1 in omega (arith, le, less))
]

opens_tell : (k : ℕ) (c : List ℕ) → opens_on k c ≡ true → (header_at k + 139264 ≤ length c) × (is_open k c ≡ true)
opens_tell k c e =
    let both = both_true (nat_le (header_at (suc k)) (length c)) (is_open k c) e in
    let lies = within (header_at (suc k)) (length c) both.0 in
    (omega (arith, lies), both.1)

opens_from : (k : ℕ) (c : List ℕ) → header_at k + 139264 ≤ length c → is_open k c ≡ true → opens_on k c ≡ true
opens_from k c lies e = and_from (nat_le (header_at (suc k)) (length c)) (is_open k c) (is_within (header_at (suc k)) (length c) (omega (arith, lies))) e

module _ (c : List ℕ) where
  first_lives : (opens_on 0 c ≡ true) → (opens_on 1 c ≡ true → number_of 1 c ≤ number_of 0 c) → IsLive c 0
  first_lives here most = record {
    low = omega arith;
    lies = (opens_tell 0 c here).0;
    open_there = (opens_tell 0 c here).1;
    greatest = among;
    first = λ other less. absurd (omega (arith, less));
  }
    where
      among : (other : ℕ) → other ≤ 1 → header_at other + 139264 ≤ length c → is_open other c ≡ true → number_of other c ≤ number_of 0 c
      among zero low lies e = omega arith
      among (suc zero) low lies e = most (opens_from 1 c lies e)
      among (suc (suc n)) low lies e = absurd (omega (arith, low))

  second_lives : (opens_on 1 c ≡ true) → (opens_on 0 c ≡ true → number_of 0 c < number_of 1 c) → IsLive c 1
  second_lives here less = record {
    low = omega arith;
    lies = (opens_tell 1 c here).0;
    open_there = (opens_tell 1 c here).1;
    greatest = among;
    first = before;
  }
    where
      among : (other : ℕ) → other ≤ 1 → header_at other + 139264 ≤ length c → is_open other c ≡ true → number_of other c ≤ number_of 1 c
      among zero low lies e = (let more = less (opens_from 0 c lies e) in omega (arith, more))
      among (suc zero) low lies e = omega arith
      among (suc (suc n)) low lies e = absurd (omega (arith, low))

      before : (other : ℕ) → other < 1 → header_at other + 139264 ≤ length c → is_open other c ≡ true → number_of other c < number_of 1 c
      before zero low lies e = less (opens_from 0 c lies e)
      before (suc n) low lies e = absurd (omega (arith, low))

  lives : (k : ℕ) → live_on c ≡ Some k → IsLive c k
  lives k h = elim (picked (opens_on 0 c) (opens_on 1 c) (number_of 0 c) (number_of 1 c) k h) [
    | inl is ↦ subst (IsLive c) (sym is.0) (first_lives is.1 is.2)
    | inr is ↦ subst (IsLive c) (sym is.0) (second_lives is.1 is.2)
  ]

  found : (k : ℕ) → IsLive c k → live_on c ≡ Some k
  found zero is = first_picked (opens_on 0 c) (opens_on 1 c) (number_of 0 c) (number_of 1 c) (opens_from 0 c is.lies is.open_there)
      (λ e. let other = opens_tell 1 c e in is.greatest 1 (omega arith) other.0 other.1)
  found (suc zero) is = second_picked (opens_on 0 c) (opens_on 1 c) (number_of 0 c) (number_of 1 c) (opens_from 1 c is.lies is.open_there)
      (λ e. let other = opens_tell 0 c e in is.first 0 (omega arith) other.0 other.1)
  found (suc (suc n)) is = absurd (let low = is.low in omega (arith, low))

  opens_same : 278528 ≤ length c → (k : ℕ) → k ≤ 1 → opens_on k c ≡ is_open k c
  opens_same long k low = ap (λ x. x && is_open k c) (is_within (header_at (suc k)) (length c) (omega (arith, long, low)))

  -- on a device that both headers lie on
  pub live_same : 278528 ≤ length c → live_on c ≡ live c
  live_same long = (λ t. choose (opens_same long 0 (omega arith) t) (opens_same long 1 (omega arith) t) (number_of 0 c) (number_of 1 c)) ∙ sym (live_is c)

pub header_lives : LiveLaw
header_lives = ((λ c k. (lives c k, found c k)), live_same)

-- ---- the first block

shut_end : (area : List ℕ) → get_or area 0 0 ≢ 165 → end_of_first area ≡ None
shut_end area shut = ap (λ x. if x then Some (frame_size area) else None) (open_false (get_or area 0 0) shut)

-- a block ends behind its records
pub block_ends : (bytes tail : List ℕ) → length bytes < 2 ^ 32 → end_of_first (block bytes ++ tail) ≡ Some (5 + length bytes)
unfolding block
block_ends bytes tail short = ap (λ n. Some (5 + n)) (big_number-reads_back 4 (length bytes) (bytes ++ tail) short)

pub first_ends : FirstEndLaw
first_ends area = (
  shut_end area,
  (λ bytes tail is short. ap end_of_first is ∙ block_ends bytes tail short ∙ ap (λ n. Some n) (sym (block_long bytes))),
)
