-- No clause of `run` rests on this module: it serves contracts between crates.
--
-- Ranges of bytes: what a write leaves, byte by byte and part by part.
use Rattle.std.specs.Prelude.{◌≡◌, ◌⊎◌, ℕ, suc, ◌+◌, ◌-◌, ◌<◌, ◌≤◌, List, [], ◌∷◌, ◌++◌, length, take, drop, get_or, refl}
use Rattle.std.proofs.Common.{sym, ◌∙◌, ap, subst, arith, length-append, length-take, length-drop}
use Rattle.std.proofs.lemmas.List.{get_or-take, get_or-drop, get_or_append_left, get_or-append_right, drop-drop, ext_get_or, drop_more}
use Rattle.std.proofs.lemmas.Bool.{cases_lt}
use mathlib.Core.Logic.{inl, inr}
use borrow.Rule.Slice.PartMut.{put_mid}
use Rattle.disk_io.specs.Disk.{part, splice, AreBytes, Torn}

-- a write of n bytes leaves the length
pub length-splice : (at : ℕ) (w s : List ℕ) → at + length w ≤ length s → length (splice at w s) ≡ length s
length-splice at w s fits = omega (arith, length-append (take at s) (w ++ drop (at + length w) s), length-append w (drop (at + length w) s), length-take at s, length-drop (at + length w) s)

front_length : (at : ℕ) (s : List ℕ) → at ≤ length s → length (take at s) ≡ at
front_length at s fits = omega (arith, length-take at s)

pub byte-splice_before : (at : ℕ) (w s : List ℕ) (i : ℕ) → at ≤ length s → i < at → get_or (splice at w s) i 0 ≡ get_or s i 0
byte-splice_before at w s i fits before =
    get_or_append_left (take at s) (w ++ drop (at + length w) s) 0 i (omega (arith, front_length at s fits)) ∙ get_or-take at s i 0 before

pub byte-splice_in : (at : ℕ) (w s : List ℕ) (i : ℕ) → at ≤ length s → i < length w → get_or (splice at w s) (at + i) 0 ≡ get_or w i 0
byte-splice_in at w s i fits inside =
    get_or-append_right (take at s) (w ++ drop (at + length w) s) at (at + i) 0 (front_length at s fits) (omega arith)
    ∙ ap (λ k. get_or (w ++ drop (at + length w) s) k 0) (let e : at + i - at ≡ i = omega arith in e)
    ∙ get_or_append_left w (drop (at + length w) s) 0 i inside

pub byte-splice_after : (at : ℕ) (w s : List ℕ) (i : ℕ) → at ≤ length s → at + length w ≤ i → get_or (splice at w s) i 0 ≡ get_or s i 0
byte-splice_after at w s i fits past =
    get_or-append_right (take at s) (w ++ drop (at + length w) s) at i 0 (front_length at s fits) (omega arith)
    ∙ get_or-append_right w (drop (at + length w) s) (length w) (i - at) 0 refl (omega arith)
    ∙ get_or-drop (at + length w) s (i - at - length w) 0
    ∙ ap (λ k. get_or s k 0) (let e : at + length w + (i - at - length w) ≡ i = omega arith in e)

-- bytes with bytes at a place are bytes
pub bytes-splice : (at : ℕ) (w s : List ℕ) → at ≤ length s → AreBytes s → AreBytes w → AreBytes (splice at w s)
bytes-splice at w s fits all more i = elim (cases_lt i at) [
  | inl below ↦ subst (λ b. b < 256) (sym (byte-splice_before at w s i fits below)) (all i)
  | inr above ↦ elim (cases_lt i (at + length w)) [
    | inl inside ↦ subst (λ b. b < 256) (sym (ap (λ k. get_or (splice at w s) k 0) (let e : i ≡ at + (i - at) = omega arith in e) ∙ byte-splice_in at w s (i - at) fits (omega arith))) (more (i - at))
    | inr past ↦ subst (λ b. b < 256) (sym (byte-splice_after at w s i fits past)) (all i)
  ]
]

-- a write that is done is one way in which it may be torn
pub torn_splice : (at : ℕ) (w s : List ℕ) → at + length w ≤ length s → AreBytes s → AreBytes w → Torn at (length w) s (splice at w s)
torn_splice at w s fits all more = record {
  size = length-splice at w s fits;
  before = λ i lt. byte-splice_before at w s i (omega arith) lt;
  after = λ i le. byte-splice_after at w s i (omega arith) le;
  bytes = bytes-splice at w s (omega arith) all more;
}

pub length-part : (at n : ℕ) (s : List ℕ) → at + n ≤ length s → length (part at n s) ≡ n
length-part at n s fits = omega (arith, length-take n (drop at s), length-drop at s)

pub byte-part : (at n : ℕ) (s : List ℕ) (i : ℕ) → i < n → get_or (part at n s) i 0 ≡ get_or s (at + i) 0
byte-part at n s i inside = get_or-take n (drop at s) i 0 inside ∙ get_or-drop at s i 0

-- at numbers the default of `get_or` can be 0
pub same_bytes : (xs ys : List ℕ) → length xs ≡ length ys → ((i : ℕ) → i < length xs → get_or xs i 0 ≡ get_or ys i 0) → xs ≡ ys
same_bytes xs ys len each = ext_get_or 0 xs ys len each

-- a part where each byte is the same is the same
pub part_same : (at n : ℕ) (c s : List ℕ) → length c ≡ length s → at + n ≤ length s → ((i : ℕ) → at ≤ i → i < at + n → get_or c i 0 ≡ get_or s i 0) → part at n c ≡ part at n s
part_same at n c s size fits each =
    let c_len : length (part at n c) ≡ n = length-part at n c (omega arith) in
    let s_len : length (part at n s) ≡ n = length-part at n s fits in
    same_bytes (part at n c) (part at n s) (omega arith) (λ i lt.
    byte-part at n c i (omega arith) ∙ each (at + i) (omega arith) (omega arith) ∙ sym (byte-part at n s i (omega arith)))

-- a part of what was written
pub part-splice_in : (at : ℕ) (w s : List ℕ) (i n : ℕ) → at + length w ≤ length s → i + n ≤ length w → part (at + i) n (splice at w s) ≡ part i n w
part-splice_in at w s i n fits inside =
    let size = length-splice at w s fits in
    let l : length (part (at + i) n (splice at w s)) ≡ n = length-part (at + i) n (splice at w s) (omega arith) in
    let r : length (part i n w) ≡ n = length-part i n w inside in
    same_bytes (part (at + i) n (splice at w s)) (part i n w) (omega arith) (λ k lt.
    byte-part (at + i) n (splice at w s) k (omega arith)
    ∙ ap (λ j. get_or (splice at w s) j 0) (let e : at + i + k ≡ at + (i + k) = omega arith in e)
    ∙ byte-splice_in at w s (i + k) (omega arith) (omega arith)
    ∙ sym (byte-part i n w k (omega arith)))

pub part-splice : (at : ℕ) (w s : List ℕ) → at + length w ≤ length s → part at (length w) (splice at w s) ≡ w
part-splice at w s fits =
    let size = length-splice at w s fits in
    let l : length (part at (length w) (splice at w s)) ≡ length w = length-part at (length w) (splice at w s) (omega arith) in
    same_bytes (part at (length w) (splice at w s)) w l (λ k lt.
    byte-part at (length w) (splice at w s) k (omega arith) ∙ byte-splice_in at w s k (omega arith) (omega arith))

-- a part that a torn write did not touch
pub torn_part : (at n : ℕ) (s c : List ℕ) (p m : ℕ) → Torn at n s c → p + m ≤ length s → (p + m ≤ at) ⊎ (at + n ≤ p) → part p m c ≡ part p m s
torn_part at n s c p m torn fits apart = part_same p m c s torn.size fits (λ i lo hi. elim apart [
  | inl below ↦ torn.before i (omega arith)
  | inr above ↦ torn.after i (omega arith)
])

-- a part that a write did not touch
pub part-splice_out : (at : ℕ) (w s : List ℕ) (p m : ℕ) → at + length w ≤ length s → p + m ≤ length s → (p + m ≤ at) ⊎ (at + length w ≤ p) → part p m (splice at w s) ≡ part p m s
part-splice_out at w s p m fits within apart = part_same p m (splice at w s) s (length-splice at w s fits) within (λ i lo hi. elim apart [
  | inl below ↦ byte-splice_before at w s i (omega arith) (omega arith)
  | inr above ↦ byte-splice_after at w s i (omega arith) (omega arith)
])

pub part-part : (at m i n : ℕ) (s : List ℕ) → i + n ≤ m → at + m ≤ length s → part i n (part at m s) ≡ part (at + i) n s
part-part at m i n s inside fits =
    let whole : length (part at m s) ≡ m = length-part at m s fits in
    let l : length (part i n (part at m s)) ≡ n = length-part i n (part at m s) (omega arith) in
    let r : length (part (at + i) n s) ≡ n = length-part (at + i) n s (omega arith) in
    same_bytes (part i n (part at m s)) (part (at + i) n s) (omega arith) (λ k lt.
    byte-part i n (part at m s) k (omega arith)
    ∙ byte-part at m s (i + k) (omega arith)
    ∙ ap (λ j. get_or s j 0) (let e : at + (i + k) ≡ at + i + k = omega arith in e)
    ∙ sym (byte-part (at + i) n s k (omega arith)))

pub part_join : (at m n : ℕ) (s : List ℕ) → at + m + n ≤ length s → part at (m + n) s ≡ part at m s ++ part (at + m) n s
part_join at m n s fits =
    let one : length (part at m s) ≡ m = length-part at m s (omega arith) in
    let two : length (part (at + m) n s) ≡ n = length-part (at + m) n s fits in
    let all : length (part at (m + n) s) ≡ m + n = length-part at (m + n) s (omega arith) in
    let both = length-append (part at m s) (part (at + m) n s) in
    same_bytes (part at (m + n) s) (part at m s ++ part (at + m) n s) (omega arith) (λ k lt.
    byte-part at (m + n) s k (omega arith)
    ∙ elim (cases_lt k m) [
      | inl below ↦ sym (get_or_append_left (part at m s) (part (at + m) n s) 0 k (omega arith) ∙ byte-part at m s k below)
      | inr above ↦ sym (get_or-append_right (part at m s) (part (at + m) n s) m k 0 one above ∙ byte-part (at + m) n s (k - m) (omega arith)
          ∙ ap (λ j. get_or s j 0) (let e : at + m + (k - m) ≡ at + k = omega arith in e))
    ])

-- a write of which nothing reached the disk
pub torn_none : (at n : ℕ) (c : List ℕ) → AreBytes c → Torn at n c c
torn_none at n c all = record { size = refl; before = λ i lt. refl; after = λ i le. refl; bytes = all }

-- two writes that are torn, in one range
pub torn_then : (at n : ℕ) (a b c : List ℕ) → Torn at n a b → Torn at n b c → Torn at n a c
torn_then at n a b c one two = record {
  size = two.size ∙ one.size;
  before = λ i lt. two.before i lt ∙ one.before i lt;
  after = λ i le. two.after i le ∙ one.after i le;
  bytes = two.bytes;
}

pub torn_wider : (lo m at n : ℕ) (a b : List ℕ) → lo ≤ at → at + n ≤ lo + m → Torn at n a b → Torn lo m a b
torn_wider lo m at n a b low high torn = record {
  size = torn.size;
  before = λ i lt. torn.before i (omega arith);
  after = λ i le. torn.after i (omega arith);
  bytes = torn.bytes;
}

pub part_one : (at : ℕ) (s : List ℕ) → at < length s → part at 1 s ≡ get_or s at 0 ∷ []
part_one at s inside = ap (take 1) (drop_more s at 0 inside)

-- a copy into a part is a splice
pub put_is : (at n : ℕ) (s w : List ℕ) → length w ≡ n → put_mid at n s w ≡ splice at w s
put_is at n s w long = ap (λ (l : List ℕ). take at s ++ (w ++ l)) (drop-drop n at s ∙ ap (λ k. drop k s) (let e : at + n ≡ at + length w = omega (arith, long) in e))

-- a part begins with its first byte
pub part_next : (at next n : ℕ) (s : List ℕ) → next ≡ at + 1 → at < length s → part at (suc n) s ≡ get_or s at 0 ∷ part next n s
part_next at next n s is inside = ap (take (suc n)) (drop_more s at 0 inside) ∙ ap (λ k. get_or s at 0 ∷ part k n s) (sym is)

-- a part of two, four or eight bytes, byte by byte
pub two_bytes : (at : ℕ) (s : List ℕ) → at + 2 ≤ length s → get_or s at 0 ∷ get_or s (at + 1) 0 ∷ [] ≡ part at 2 s
two_bytes at s fits = sym (part_next at (at + 1) 1 s (omega arith) (omega arith)
    ∙ ap (λ (l : List ℕ). get_or s at 0 ∷ l) (part_one (at + 1) s (omega arith)))

pub four_bytes : (at : ℕ) (s : List ℕ) → at + 4 ≤ length s → get_or s at 0 ∷ get_or s (at + 1) 0 ∷ get_or s (at + 2) 0 ∷ get_or s (at + 3) 0 ∷ [] ≡ part at 4 s
four_bytes at s fits = sym (part_next at (at + 1) 3 s (omega arith) (omega arith)
    ∙ ap (λ (l : List ℕ). get_or s at 0 ∷ l) (part_next (at + 1) (at + 2) 2 s (omega arith) (omega arith))
    ∙ ap (λ (l : List ℕ). get_or s at 0 ∷ get_or s (at + 1) 0 ∷ l) (part_next (at + 2) (at + 3) 1 s (omega arith) (omega arith))
    ∙ ap (λ (l : List ℕ). get_or s at 0 ∷ get_or s (at + 1) 0 ∷ get_or s (at + 2) 0 ∷ l) (part_one (at + 3) s (omega arith)))

pub eight_bytes : (at : ℕ) (s : List ℕ) → at + 8 ≤ length s
    → get_or s at 0 ∷ get_or s (at + 1) 0 ∷ get_or s (at + 2) 0 ∷ get_or s (at + 3) 0 ∷ get_or s (at + 4) 0 ∷ get_or s (at + 5) 0 ∷ get_or s (at + 6) 0 ∷ get_or s (at + 7) 0 ∷ [] ≡ part at 8 s
eight_bytes at s fits = sym (part_next at (at + 1) 7 s (omega arith) (omega arith)
    ∙ ap (λ (l : List ℕ). get_or s at 0 ∷ l) (part_next (at + 1) (at + 2) 6 s (omega arith) (omega arith))
    ∙ ap (λ (l : List ℕ). get_or s at 0 ∷ get_or s (at + 1) 0 ∷ l) (part_next (at + 2) (at + 3) 5 s (omega arith) (omega arith))
    ∙ ap (λ (l : List ℕ). get_or s at 0 ∷ get_or s (at + 1) 0 ∷ get_or s (at + 2) 0 ∷ l) (part_next (at + 3) (at + 4) 4 s (omega arith) (omega arith))
    ∙ ap (λ (l : List ℕ). get_or s at 0 ∷ get_or s (at + 1) 0 ∷ get_or s (at + 2) 0 ∷ get_or s (at + 3) 0 ∷ l) (part_next (at + 4) (at + 5) 3 s (omega arith) (omega arith))
    ∙ ap (λ (l : List ℕ). get_or s at 0 ∷ get_or s (at + 1) 0 ∷ get_or s (at + 2) 0 ∷ get_or s (at + 3) 0 ∷ get_or s (at + 4) 0 ∷ l) (part_next (at + 5) (at + 6) 2 s (omega arith) (omega arith))
    ∙ ap (λ (l : List ℕ). get_or s at 0 ∷ get_or s (at + 1) 0 ∷ get_or s (at + 2) 0 ∷ get_or s (at + 3) 0 ∷ get_or s (at + 4) 0 ∷ get_or s (at + 5) 0 ∷ l) (part_next (at + 6) (at + 7) 1 s (omega arith) (omega arith))
    ∙ ap (λ (l : List ℕ). get_or s at 0 ∷ get_or s (at + 1) 0 ∷ get_or s (at + 2) 0 ∷ get_or s (at + 3) 0 ∷ get_or s (at + 4) 0 ∷ get_or s (at + 5) 0 ∷ get_or s (at + 6) 0 ∷ l) (part_one (at + 7) s (omega arith)))
