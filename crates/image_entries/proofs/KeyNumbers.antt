-- Keys of parts by the numbers that they have.
use Rattle.std.proofs.Common.{◌≡◌, ℕ, ◌+◌, ◌%◌, ◌^◌, ◌<◌, List, [], ◌++◌, length, take, drop, sym, ap, subst, ◌∙◌, arith, length-append, length-drop, ◌-◌}
use Rattle.std.proofs.lemmas.List.{append-nil, take-append-drop, take_all, get_or-drop}
use Rattle.byteorder.specs.Endian.{big_bytes, big_number}
use Rattle.byteorder.specs.Numbers.{big_from-bytes, length-bytes_high_first}
use Rattle.iv_types.proofs.ByteNumbers.{IsBytes, bytes_of_number, back}
use Rattle.txn_log.specs.Damaged.{part_key}
use Rattle.image_entries.specs.Parts.{HasKey, AreFurther, BeginNext}

take_whole : (bs : List ℕ) (n : ℕ) → length bs ≡ n → take n bs ≡ bs
take_whole bs n e = take_all n bs (omega (arith, e))

-- bytes have what is left of a number
bytes_left : (n x : ℕ) → big_bytes n x ≡ big_bytes n (x % 256 ^ n)
bytes_left n x =
    let bytes : List ℕ = big_bytes n x in
    let size : length bytes ≡ n = length-bytes_high_first n x in
    let number : big_number n bytes ≡ x % 256 ^ n = ap (big_number n) (sym (append-nil bytes)) ∙ big_from-bytes n x [] in
    sym (take_whole bytes n size) ∙ sym (back n bytes (bytes_of_number n x) (omega (arith, size))) ∙ ap (big_bytes n) number

left_same : (n x y : ℕ) → x % 256 ^ n ≡ y % 256 ^ n → big_bytes n x ≡ big_bytes n y
left_same n x y e = bytes_left n x ∙ ap (big_bytes n) e ∙ sym (bytes_left n y)

module _ (m n i j : ℕ) (same : part_key m i ≡ part_key n j) where
  object_left : m % 256 ^ 4 ≡ n % 256 ^ 4
  object_left = sym (big_from-bytes 4 m (big_bytes 2 i)) ∙ ap (big_number 4) same ∙ big_from-bytes 4 n (big_bytes 2 j)

  part_left : i % 256 ^ 2 ≡ j % 256 ^ 2
  part_left = sym (big_from-bytes 2 i []) ∙ ap (λ (bs : List ℕ). big_number 2 (drop 4 bs)) same ∙ big_from-bytes 2 j []

  pub further_key : part_key m (i + 1) ≡ part_key n (j + 1)
  further_key = λ t. left_same 4 m n object_left t ++ left_same 2 (i + 1) (j + 1) (let e = part_left in omega (arith, e)) t

  pub next_key : part_key (m + 1) 0 ≡ part_key (n + 1) 0
  next_key = ap (λ (bs : List ℕ). bs ++ big_bytes 2 0) (left_same 4 (m + 1) (n + 1) (let e = object_left in omega (arith, e)))

-- numbers that wrap
pub wrapped_part : (m i : ℕ) → part_key m ((i + 1) % 2 ^ 16) ≡ part_key m (i + 1)
wrapped_part m i = ap (λ (bs : List ℕ). big_bytes 4 m ++ bs) (left_same 2 ((i + 1) % 2 ^ 16) (i + 1) (omega arith))

pub wrapped_object : (m : ℕ) → part_key ((m + 1) % 2 ^ 32) 0 ≡ part_key (m + 1) 0
wrapped_object m = ap (λ (bs : List ℕ). bs ++ big_bytes 2 0) (left_same 4 ((m + 1) % 2 ^ 32) (m + 1) (omega arith))

pub key_long : (m i : ℕ) → length (part_key m i) ≡ 6
key_long m i = omega (arith, length-append (big_bytes 4 m) (big_bytes 2 i), length-bytes_high_first 4 m, length-bytes_high_first 2 i)

-- six bytes are the key of their numbers
pub key_is : (key : List ℕ) → IsBytes key → IsBytes (drop 4 key) → length key ≡ 6 → key ≡ part_key (big_number 4 key) (big_number 2 (drop 4 key))
key_is key bytes rest long =
    let size : length (drop 4 key) ≡ 2 = omega (arith, length-drop 4 key, long) in
    let one : big_bytes 4 (big_number 4 key) ≡ take 4 key = back 4 key bytes (omega (arith, long)) in
    let two : big_bytes 2 (big_number 2 (drop 4 key)) ≡ drop 4 key = back 2 (drop 4 key) rest (omega (arith, size)) ∙ take_whole (drop 4 key) 2 size in
    sym (take-append-drop 4 key) ∙ sym (λ t. one t ++ two t)

-- ---- whether a key is one

pub no_key : (key : List ℕ) (object part : ℕ) → (length key ≡ 6 → ⊥) → HasKey key object part → ⊥
no_key key object part other has = other (ap length has.is ∙ key_long object part)

pub tail_number : (n i : ℕ) (s : List ℕ) → big_number n (take (length s - i) (drop i s)) ≡ big_number n (drop i s)
tail_number n i s = ap (big_number n) (take_all (length s - i) (drop i s) (omega (arith, length-drop i s)))

module _ (key : List ℕ) (bytes : IsBytes key) (long : length key ≡ 6) where
  rest : IsBytes (drop 4 key)
  rest i = subst (λ x. x < 256) (sym (get_or-drop 4 key i 0)) (bytes (4 + i))

  pub own_key : HasKey key (big_number 4 key) (big_number 2 (drop 4 key))
  own_key = record { is = key_is key bytes rest long }

  pub key_there : (object part : ℕ) → big_number 4 key ≡ object → big_number 2 (drop 4 key) ≡ part → HasKey key object part
  key_there object part e f = record { is = key_is key bytes rest long ∙ (λ t. part_key (e t) (f t)) }

  pub further_there : (next : List ℕ) → HasKey next (big_number 4 key) ((big_number 2 (drop 4 key) + 1) % 2 ^ 16) → AreFurther key next
  further_there next has = record { object = big_number 4 key; part = big_number 2 (drop 4 key); first = own_key; second = record { is = has.is ∙ wrapped_part (big_number 4 key) (big_number 2 (drop 4 key)) } }

  pub further_so : (next : List ℕ) → AreFurther key next → HasKey next (big_number 4 key) ((big_number 2 (drop 4 key) + 1) % 2 ^ 16)
  further_so next far = record {
    is = far.second.is
        ∙ (further_key far.object (big_number 4 key) far.part (big_number 2 (drop 4 key)) (sym far.first.is ∙ key_is key bytes rest long)
        ∙ sym (wrapped_part (big_number 4 key) (big_number 2 (drop 4 key))));
  }

  pub next_there : (next : List ℕ) → HasKey next ((big_number 4 key + 1) % 2 ^ 32) 0 → BeginNext key next
  next_there next has = record { object = big_number 4 key; part = big_number 2 (drop 4 key); first = own_key; second = record { is = has.is ∙ wrapped_object (big_number 4 key) } }

  pub next_so : (next : List ℕ) → BeginNext key next → HasKey next ((big_number 4 key + 1) % 2 ^ 32) 0
  next_so next far = record {
    is = far.second.is
        ∙ (next_key far.object (big_number 4 key) far.part (big_number 2 (drop 4 key)) (sym far.first.is ∙ key_is key bytes rest long) ∙ sym (wrapped_object (big_number 4 key)));
  }

-- a key has its numbers, as far as they fit
pub numbers_of : (key : List ℕ) (object part : ℕ) → object < 2 ^ 32 → part < 2 ^ 16 → HasKey key object part → (big_number 4 key ≡ object) × (big_number 2 (drop 4 key) ≡ part)
numbers_of key object part fo fp has = (
  ap (big_number 4) has.is ∙ (big_from-bytes 4 object (big_bytes 2 part) ∙ (let e : object % 256 ^ 4 ≡ object = omega (arith, fo) in e)),
  ap (λ (bs : List ℕ). big_number 2 (drop 4 bs)) has.is ∙ (big_from-bytes 2 part [] ∙ (let e : part % 256 ^ 2 ≡ part = omega (arith, fp) in e)),
)
