-- The texts of parts whose keys and sizes stand are short: a part whose number is past two bytes would begin another text.
use Rattle.std.proofs.Common.{◌≡◌, ◌⊎◌, inl, inr, Bool, true, false, ℕ, zero, suc, ◌+◌, ◌-◌, ◌*◌, ◌/◌, ◌%◌, ◌^◌, ◌<◌, ◌≤◌, List, [], ◌∷◌, ◌++◌, length, drop, Option, Some, None, refl, sym, ◌∙◌, ap, subst, arith, length-append}
use Rattle.std.specs.List.{AllByRecursion}
use Rattle.std.specs.Str.{bytes_eq}
use Rattle.std.proofs.lemmas.Bool.{cases_lt, false≢true}
use Rattle.byteorder.specs.Endian.{big_bytes, big_number}
use Rattle.byteorder.specs.Numbers.{big_from-bytes}
use Rattle.txn_machine.specs.Log.{part_bytes}
use Rattle.txn_log.specs.Damaged.{Found, key_in, part_key, IsNextKey, HasSize, with_next, in_texts, texts_found}
use Rattle.txn_log.specs.Stored.{in_parts}
use Rattle.definition_parts.specs.Parts.{IsShort}
use Rattle.definition_parts.proofs.Entries.{parts_many}
use Rattle.image_entries.specs.Entries.{NoneBad}
use Rattle.image_entries.specs.Parts.{KeyFails, SizeFails, KeysStand, SizesStand}
use Rattle.image_entries.proofs.KeyNumbers.{wrapped_part}
use Rattle.image_catalog.specs.Texts.{is_first}
use Rattle.image_catalog.proofs.Joining.{joined_by}

-- ---- numbers of parts

-- a part's own number, by its key
abbrev part_in : Found → ℕ
part_in f = big_number 2 (drop 4 (key_in f))

number_in : (f : Found) (object part : ℕ) → key_in f ≡ part_key object part → part_in f ≡ part % 256 ^ 2
number_in f object part is = ap (λ (bs : List ℕ). big_number 2 (drop 4 bs)) is ∙ big_from-bytes 2 part []

starts : (f : Found) (object : ℕ) → key_in f ≡ part_key object 0 → is_first f ≡ true
starts f object is = ap (λ (k : List ℕ). bytes_eq (drop 4 k) (big_bytes 2 0)) is

-- the next part of the same text has a greater number
rises : (d : Found) (ds : List Found) (f : Found) → IsNextKey (d ∷ ds) f → is_first f ≡ false → (part_in d < part_in f) × (part_in f < 2 ^ 16)
rises d ds f (inr begins) e = absurd (false≢true (sym e ∙ starts f (begins.0 + 1) begins.3))
rises d ds f (inl far) e = by ((far.1 + 1) % 2 ^ 16) refl
  where
    before : part_in d ≡ far.1 % 256 ^ 2
    before = number_in d far.0 far.1 far.2

    this : part_in f ≡ (far.1 + 1) % 256 ^ 2
    this = number_in f far.0 (far.1 + 1) far.3

    by : (k : ℕ) → (far.1 + 1) % 2 ^ 16 ≡ k → (part_in d < part_in f) × (part_in f < 2 ^ 16)
    by zero is = absurd (false≢true (sym e ∙ starts f far.0 (far.3 ∙ (sym (wrapped_part far.0 far.1) ∙ ap (part_key far.0) is))))
    by (suc k) is = (omega (arith, before, this, is), omega (arith, this))

rises_so : (d : Found) (ds : List Found) (f : Found) → (KeyFails (d ∷ ds) f → ⊥) → is_first f ≡ false → (part_in d < part_in f) × (part_in f < 2 ^ 16)
rises_so d ds f good e = (greater (cases_lt (part_in d) (part_in f)), within (cases_lt (part_in f) (2 ^ 16)))
  where
    greater : (part_in d < part_in f) ⊎ (part_in f ≤ part_in d) → part_in d < part_in f
    greater (inl less) = less
    greater (inr most) = absurd (good (λ is. let next = rises d ds f is e in absurd (omega (arith, next.0, most))))

    within : (part_in f < 2 ^ 16) ⊎ (2 ^ 16 ≤ part_in f) → part_in f < 2 ^ 16
    within (inl less) = less
    within (inr most) = absurd (good (λ is. let next = rises d ds f is e in absurd (omega (arith, next.1, most))))

-- ---- sizes of parts

abbrev IsSmall : Found → Type 0
IsSmall f = length f.entry.1 ≤ part_bytes

has_most : (f : Found) (after : Option Found) → HasSize f after → IsSmall f
has_most f None h = h
has_most f (Some g) h = h.1

small_so : (f : Found) (after : Option Found) → ((HasSize f after → ⊥) → ⊥) → IsSmall f
small_so f after good = by (cases_lt part_bytes (length f.entry.1))
  where
    by : (part_bytes < length f.entry.1) ⊎ (length f.entry.1 ≤ part_bytes) → IsSmall f
    by (inl more) = absurd (good (λ h. let most = has_most f after h in absurd (omega (arith, more, most))))
    by (inr most) = most

all_small : (earlier : List (Found × Option Found)) (fs : List Found) → NoneBad SizeFails earlier (with_next fs) → AllByRecursion IsSmall fs
all_small earlier [] h = tt
all_small earlier (f ∷ []) h = (small_so f None h.0, tt)
all_small earlier (f ∷ g ∷ fs) h = (small_so f (Some g) h.0, all_small ((f, Some g) ∷ earlier) (g ∷ fs) h.1)

-- ---- texts

joined : (f : Found) (fs : List Found) (first : Bool) → is_first f ≡ first → in_texts (f ∷ fs) ≡ joined_by first f (in_texts fs)
joined f fs first is = ap (λ b. joined_by b f (in_texts fs)) is

-- what goes on with a text behind one of its parts has no more parts than there are numbers left
front_few : (d : Found) (ds fs : List Found) → NoneBad KeyFails (d ∷ ds) fs → AllByRecursion IsSmall fs → length (in_texts fs).0 ≤ (65535 - part_in d) * part_bytes
front_few d ds [] keys small = omega arith
front_few d ds (f ∷ fs) keys small = by (is_first f) refl (front_few f (d ∷ ds) fs keys.1 small.1)
  where
    by : (b : Bool) → is_first f ≡ b → length (in_texts fs).0 ≤ (65535 - part_in f) * part_bytes → length (in_texts (f ∷ fs)).0 ≤ (65535 - part_in d) * part_bytes
    by true e rest =
        let none : length (in_texts (f ∷ fs)).0 ≡ 0 = ap (λ (x : List ℕ × List (ℕ × List ℕ)). length x.0) (joined f fs true e) in
        omega (arith, none)
    by false e rest =
        let next = rises_so d ds f keys.0 e in
        let all : length (in_texts (f ∷ fs)).0 ≡ length (f.entry.1 ++ (in_texts fs).0) = ap (λ (x : List ℕ × List (ℕ × List ℕ)). length x.0) (joined f fs false e) in
        let both = length-append f.entry.1 (in_texts fs).0 in
        let here : length f.entry.1 ≤ part_bytes = small.0 in
        omega (arith, next.0, next.1, rest, all, both, here)

pub is_short : (text : List ℕ) → length text ≤ 65536 * part_bytes → IsShort text
is_short text few =
    let many : length (in_parts text) ≡ (length text + 1023) / 1024 = parts_many ((length text + 1023) / 1024) text in
    let short : length (in_parts text) ≤ 2 ^ 16 = omega (arith, many, few) in
    short

-- and a text can be stored
pub short_long : (text : List ℕ) → IsShort text → length text < 2 ^ 32
short_long text short =
    let many : length (in_parts text) ≡ (length text + 1023) / 1024 = parts_many ((length text + 1023) / 1024) text in
    let few : length (in_parts text) ≤ 2 ^ 16 = short in
    omega (arith, many, few)

each_short : (earlier fs : List Found) → NoneBad KeyFails earlier fs → AllByRecursion IsSmall fs → AllByRecursion IsShort (texts_found (in_texts fs).1)
each_short earlier [] keys small = tt
each_short earlier (f ∷ fs) keys small = by (is_first f) refl (each_short (f ∷ earlier) fs keys.1 small.1)
  where
    by : (b : Bool) → is_first f ≡ b → AllByRecursion IsShort (texts_found (in_texts fs).1) → AllByRecursion IsShort (texts_found (in_texts (f ∷ fs)).1)
    by true e rest =
        let front = front_few f earlier fs keys.1 small.1 in
        let both = length-append f.entry.1 (in_texts fs).0 in
        let here : length f.entry.1 ≤ part_bytes = small.0 in
        subst (λ (x : List ℕ × List (ℕ × List ℕ)). AllByRecursion IsShort (texts_found x.1)) (sym (joined f fs true e)) (is_short (f.entry.1 ++ (in_texts fs).0) (omega (arith, front, both, here)), rest)
    by false e rest = subst (λ (x : List ℕ × List (ℕ × List ℕ)). AllByRecursion IsShort (texts_found x.1)) (sym (joined f fs false e)) rest

pub all_short : (fs : List Found) → KeysStand fs → SizesStand fs → AllByRecursion IsShort (texts_found (in_texts fs).1)
all_short fs keys sizes = each_short [] fs keys (all_small [] fs sizes)
