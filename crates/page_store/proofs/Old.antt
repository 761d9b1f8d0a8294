-- An image that keeps what the old one rests on means the same.
use Rattle.std.proofs.Common.{◌≡◌, ◌≢◌, ◌⊎◌, inl, inr, ⊎_elim, Bool, true, false, ◌==◌, ◌&&◌, ℕ, zero, suc, ◌+◌, ◌-◌, ◌*◌, ◌^◌, ◌<◌, ◌≤◌, List, length, get_or, drop, Some, None, map, refl, sym, ◌∙◌, ap, subst, arith}
use Rattle.std.proofs.lemmas.Bool.Decides.{nat_tests}
use Rattle.std.proofs.lemmas.Bool.{cases_lt}
use Rattle.std.proofs.lemmas.List.{get_or-drop}
use Rattle.std.proofs.lemmas.List.FromFn.{fill_by_all, length-map-range_with_len, get_or-map-range_with_len}
use Rattle.std.specs.List.{range_with_len}
use Rattle.std.specs.Str.{bytes_eq}
use Rattle.byteorder.specs.Endian.{big_from}
use Rattle.disk_io.specs.Disk.{part, splice, Torn}
use Rattle.disk_io.specs.Bytes.{part_same, length-splice, byte-splice_before, byte-splice_after}
use Rattle.page_store.specs.Image.{header_at, area_at, slot_at, number_at, magic, is_open, number_of, choose, live, named, map_byte, area_of, image_at, image_by, image}
use Rattle.page_store.specs.Publish.{old_byte}
use Rattle.page_store.specs.Kept.{Names, Held, InHeader, InArea, InSlot, Free, Outside, HeldStays, IsOld}

-- a number by its bytes
pub from_same : (i n : ℕ) (xs ys : List ℕ) → ((k : ℕ) → i ≤ k → k < i + n → get_or xs k 0 ≡ get_or ys k 0) → big_from i n xs ≡ big_from i n ys
from_same i zero xs ys same = refl
from_same i (suc n) xs ys same = λ t. same i (omega arith) (omega arith) t * 256 ^ n + from_same (suc i) n xs ys (λ k lo hi. same k (omega arith) (omega arith)) t

pub number_same : (n at from : ℕ) (c d : List ℕ) → ((i : ℕ) → i < n → get_or c (at + i) 0 ≡ get_or d (from + i) 0) → number_at n at c ≡ number_at n from d
number_same n at from c d same = from_same 0 n (drop at c) (drop from d) (λ k lo hi. get_or-drop at c k 0 ∙ same k (omega arith) ∙ sym (get_or-drop from d k 0))

pub open_false : (x : ℕ) → x ≢ 165 → (x == 165) ≡ false
open_false x e = grind (arith, nat_tests)

pub live_is : (c : List ℕ) → live c ≡ choose (is_open 0 c) (is_open 1 c) (number_of 0 c) (number_of 1 c)
unfolding live
live_is c = refl

some_same : {x y : ℕ} → Some x ≡ Some y → x ≡ y
some_same h = cc

choose_0 : (a b : Bool) (m n : ℕ) → choose a b m n ≡ Some 0 → a ≡ true
choose_0 true b m n h = refl
choose_0 false true m n h = absurd (omega (arith, some_same h))
choose_0 false false m n h = cc

choose_1 : (a b : Bool) (m n : ℕ) → choose a b m n ≡ Some 1 → b ≡ true
choose_1 a true m n h = refl
choose_1 true false m n h = absurd (omega (arith, some_same h))
choose_1 false false m n h = cc

choose_none : (a b : Bool) (m n : ℕ) → choose a b m n ≡ None → (a ≡ false) × (b ≡ false)
choose_none true true m n h = grind (arith, nat_tests)
choose_none true false m n h = cc
choose_none false true m n h = cc
choose_none false false m n h = (refl, refl)

pub one_open : (k : ℕ) (c : List ℕ) → (k ≡ 0) ⊎ (k ≡ 1) → is_open k c ≡ true → is_open (1 - k) c ≡ false → live c ≡ Some k
one_open k c (inl is) a b =
    let a' : is_open 0 c ≡ true = subst (λ n. is_open n c ≡ true) is a in
    let b' : is_open 1 c ≡ false = subst (λ n. is_open (1 - n) c ≡ false) is b in
    live_is c ∙ ap (λ x. choose x (is_open 1 c) (number_of 0 c) (number_of 1 c)) a' ∙ ap (λ x. choose true x (number_of 0 c) (number_of 1 c)) b' ∙ ap Some (sym is)
one_open k c (inr is) a b =
    let a' : is_open 1 c ≡ true = subst (λ n. is_open n c ≡ true) is a in
    let b' : is_open 0 c ≡ false = subst (λ n. is_open (1 - n) c ≡ false) is b in
    live_is c ∙ ap (λ x. choose (is_open 0 c) x (number_of 0 c) (number_of 1 c)) a' ∙ ap (λ x. choose x true (number_of 0 c) (number_of 1 c)) b' ∙ ap Some (sym is)

pub none_open : (c : List ℕ) → is_open 0 c ≡ false → is_open 1 c ≡ false → live c ≡ None
none_open c a b = live_is c ∙ ap (λ x. choose x (is_open 1 c) (number_of 0 c) (number_of 1 c)) a ∙ ap (λ x. choose false x (number_of 0 c) (number_of 1 c)) b

pub live_open : (k : ℕ) (c : List ℕ) → (k ≡ 0) ⊎ (k ≡ 1) → live c ≡ Some k → is_open k c ≡ true
live_open k c (inl is) l = subst (λ n. is_open n c ≡ true) (sym is) (choose_0 (is_open 0 c) (is_open 1 c) _ _ (sym (live_is c) ∙ l ∙ ap Some is))
live_open k c (inr is) l = subst (λ n. is_open n c ≡ true) (sym is) (choose_1 (is_open 0 c) (is_open 1 c) _ _ (sym (live_is c) ∙ l ∙ ap Some is))

pub none_closed : (c : List ℕ) → live c ≡ None → (is_open 0 c ≡ false) × (is_open 1 c ≡ false)
none_closed c none = choose_none (is_open 0 c) (is_open 1 c) (number_of 0 c) (number_of 1 c) (sym (live_is c) ∙ none)

-- a header whose gate is closed
pub shut_closed : (j : ℕ) (c : List ℕ) → get_or c (header_at j) 0 ≢ 165 → is_open j c ≡ false
shut_closed j c shut = ap (λ (b : Bool). b && bytes_eq (part (header_at j + 1) 7 c) magic) (open_false _ shut)

-- and one with the same gate and name
pub open_same : (j : ℕ) (c s : List ℕ) → length c ≡ length s → header_at j + 8 ≤ length s → ((i : ℕ) → header_at j ≤ i → i < header_at j + 8 → get_or c i 0 ≡ get_or s i 0) → is_open j c ≡ is_open j s
open_same j c s size fits same =
    let gate : get_or c (header_at j) 0 ≡ get_or s (header_at j) 0 = same (header_at j) (omega arith) (omega arith) in
    let name : part (header_at j + 1) 7 c ≡ part (header_at j + 1) 7 s = part_same (header_at j + 1) 7 c s size (omega arith) (λ i lo hi. same i (omega arith) (omega arith)) in
    λ t. (gate t == 165) && bytes_eq (name t) magic

pub map_range_same : {A : Type 0} (f g : ℕ → A) (n : ℕ) → ((p : ℕ) → p < n → f p ≡ g p) → map f (range_with_len 0 n) ≡ map g (range_with_len 0 n)
map_range_same f g n same = fill_by_all g (map f (range_with_len 0 n)) n (g 0) (length-map-range_with_len f 0 n) (λ k lt. get_or-map-range_with_len f 0 n k k (g 0) lt (omega arith) ∙ same k lt)

named_same : (room p m : ℕ) (c s : List ℕ) → ((j : ℕ) → m ≡ suc j → part (slot_at room p j) 8192 c ≡ part (slot_at room p j) 8192 s) → named room p m c ≡ named room p m s
named_same room p zero c s h = refl
named_same room p (suc j) c s h = ap Some (h j refl)

pub area_bound : (room a : ℕ) → a ≤ 1 → (area_at room a ≡ 278528) ⊎ (area_at room a ≡ 278528 + room)
area_bound room zero le = inl refl
area_bound room (suc a) le = inr refl

module _ (room pages k : ℕ) (s : List ℕ) (h : Names room pages k s) where
  side : k ≤ 1
  side = ⊎_elim (λ e. omega (arith, e)) (λ e. omega (arith, e)) h.side

  module _ (c : List ℕ) (kept : HeldStays room pages k s c) where
    byte : (i : ℕ) → i < 139264 → get_or c (header_at k + i) 0 ≡ get_or s (header_at k + i) 0
    byte i lt = kept.same (header_at k + i) (InHeader (omega arith) (omega arith))

    field : (n at : ℕ) → at + n ≤ 139264 → number_at n (header_at k + at) c ≡ number_at n (header_at k + at) s
    field n at fits = number_same n (header_at k + at) (header_at k + at) c s (λ i lt. kept.same (header_at k + at + i) (InHeader (omega arith) (omega arith)))

    pub kept_number : number_of k c ≡ number_of k s
    kept_number = field 8 24 (omega arith)

    pub kept_open : is_open k c ≡ is_open k s
    kept_open = open_same k c s kept.size (omega (arith, h.fits, side)) (λ i lo hi. kept.same i (InHeader lo (omega arith)))

    pub kept_image : live s ≡ Some k → image_at room pages k c ≡ image_at room pages k s
    unfolding image_at
    kept_image l = λ t. record {
      format = field 4 8 (omega arith) t;
      pages = field 4 12 (omega arith) t;
      area_size = field 8 16 (omega arith) t;
      number = field 8 24 (omega arith) t;
      commits = field 8 32 (omega arith) t;
      next_entry = field 8 40 (omega arith) t;
      area = byte 48 (omega arith) t;
      redo = field 8 56 (omega arith) t;
      map = byte_map t;
      log = log t;
      stored = all t;
    }
      where
        byte_map : part (header_at k + 64) pages c ≡ part (header_at k + 64) pages s
        byte_map = part_same (header_at k + 64) pages c s kept.size (omega (arith, h.fits, h.few, side)) (λ i lo hi. kept.same i (InHeader (omega arith) (omega (arith, h.few))))

        inside : area_at room (area_of k s) + room ≤ length s
        inside = ⊎_elim (λ e. omega (arith, e, h.fits)) (λ e. omega (arith, e, h.fits)) (area_bound room (area_of k s) (h.area l))

        log : part (area_at room (area_of k c)) room c ≡ part (area_at room (area_of k s)) room s
        log = ap (λ a. part (area_at room a) room c) (byte 48 (omega arith)) ∙ part_same (area_at room (area_of k s)) room c s kept.size inside (λ i lo hi. kept.same i (InArea l lo hi))

        low : (p : ℕ) → p < pages → map_byte k p s ≤ 2
        low p lt = subst (λ o. old_byte o p s ≤ 2) l (h.map p lt)

        all : map (λ p. named room p (map_byte k p c) c) (range_with_len 0 pages) ≡ map (λ p. named room p (map_byte k p s) s) (range_with_len 0 pages)
        all = map_range_same _ _ pages (λ p lt.
            ap (λ m. named room p m c) (byte (64 + p) (omega (arith, h.few)))
            ∙ named_same room p (map_byte k p s) c s (λ j is. part_same (slot_at room p j) 8192 c s kept.size (omega (arith, h.fits, low p lt, is)) (λ i lo hi. kept.same i (InSlot l p j lt is lo hi))))

    -- the whole meaning stays, where the other header is closed
    pub kept_means : is_open (1 - k) c ≡ false → image room pages c ≡ image room pages s
    kept_means shut = elim h.stands [
      | inl l ↦ ap (λ o. image_by room pages o c) (one_open k c h.side (kept_open ∙ live_open k s h.side l) shut) ∙ ap Some (kept_image l) ∙ sym (ap (λ o. image_by room pages o s) l)
      | inr none ↦
          let first : is_open 0 c ≡ false = subst (λ n. is_open n c ≡ false) none.1 (kept_open ∙ subst (λ n. is_open n s ≡ false) (sym none.1) (none_closed s none.0).0) in
          let second : is_open 1 c ≡ false = subst (λ n. is_open (1 - n) c ≡ false) none.1 shut in
          ap (λ o. image_by room pages o c) (none_open c first second) ∙ sym (ap (λ o. image_by room pages o s) none.0)
    ]

  pub old_means : (c : List ℕ) → IsOld room pages k s c → image room pages c ≡ image room pages s
  old_means c old = kept_means c old.kept (shut_closed (1 - k) c old.shut)

pub outside_torn : (at n : ℕ) (d c : List ℕ) → Torn at n d c → Outside at n d c
outside_torn at n d c torn = record { size = torn.size; same = λ i out. ⊎_elim (torn.before i) (torn.after i) out }

pub outside_splice : (at : ℕ) (w d : List ℕ) → at + length w ≤ length d → Outside at (length w) d (splice at w d)
outside_splice at w d fits = record {
  size = length-splice at w d fits;
  same = λ i out. ⊎_elim (byte-splice_before at w d i (omega (arith, fits))) (byte-splice_after at w d i (omega (arith, fits))) out;
}

pub kept_none : (room pages k : ℕ) (s : List ℕ) → HeldStays room pages k s s
kept_none room pages k s = record { size = refl; same = λ i held. refl }

-- a write on which the old image does not rest
pub kept_outside : (room pages k : ℕ) (s d c : List ℕ) (at n : ℕ) → HeldStays room pages k s d → Outside at n d c → ((i : ℕ) → at ≤ i → i < at + n → Held room pages k s i → ⊥) → HeldStays room pages k s c
kept_outside room pages k s d c at n kept out free = record {
  size = out.size ∙ kept.size;
  same = λ i held. out.same i (elim (cases_lt i at) [
    | inl lt ↦ inl lt
    | inr le ↦ elim (cases_lt i (at + n)) [ inl inside ↦ absurd (free i le inside held) | inr past ↦ inr past ]
  ]) ∙ kept.same i held;
}

pub old_outside : (room pages k : ℕ) (s d c : List ℕ) (at n : ℕ) → IsOld room pages k s d → Outside at n d c → Free room pages k s at n → IsOld room pages k s c
old_outside room pages k s d c at n old out free =
    let gate : get_or c (header_at (1 - k)) 0 ≡ get_or d (header_at (1 - k)) 0 = out.same (header_at (1 - k)) (⊎_elim (λ a. inr a) (λ b. inl b) free.gate) in
    record { kept = kept_outside room pages k s d c at n old.kept out free.held; shut = λ is. old.shut (sym gate ∙ is) }
