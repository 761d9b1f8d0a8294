-- A field that is read is the field that was written, and what was written is read again.
use Rattle.std.proofs.Common.{◌≡◌, ℕ, ℤ, zero, suc, ◌^◌, ◌<◌, ◌≤◌, Bool, true, false, cond, ltb, List, [], ◌∷◌, ◌++◌, length, take, drop, Option, Some, None, refl, sym, ap, subst, ◌∙◌, append_assoc, arith}
use Rattle.std.specs.Prelude.{IfSome}
use Rattle.std.specs.List.{flat_map, AllByRecursion}
use Rattle.std.specs.Int.{Width, w128, byte_len, cast_signed, cast_unsigned}
use Rattle.std.specs.Int.RustNames.{FitsSigned}
use mir.Val.{bits}
use mir.Facts.{Fits-of_z}
use borrow.Author.Gap.{read_sfits}
use Rattle.std.proofs.lemmas.Bool.{ltb-false, le-ltb}
use Rattle.std.proofs.lemmas.Int.{to_z-of_z, of_z-to_z}
use Rattle.std.proofs.lemmas.List.{take_at, drop_at, take-append-drop, length-append, length-take}
use Rattle.std.proofs.lemmas.List.Concat.{flat_map-cons}
use Rattle.byteorder.specs.Endian.{big_bytes, big_number}
use Rattle.byteorder.specs.Numbers.{big_from-lt, length-bytes_high_first, big_number-reads_back}
use Rattle.iv_types.proofs.ByteNumbers.{IsBytes, IsBytes-drop, IsBytes-rest, back}
use Rattle.log_records.specs.Spelling.{string, optional, signed, numbers}
use Rattle.log_records.specs.Reading.{◌>>=◌, number_at, piece_at, string_at, optional_at, signed_at, many_at, numbers_at, both}

-- the value of a step that was read
pub bind_some : {A B : Type 0} (r : Option A) (f : A → Option B) (y : B) → (r >>= f) ≡ Some y → (x : A) × (r ≡ Some x) × (f x ≡ Some y)
bind_some (Some x) f y e = (x, refl, e)
bind_some None f y e = absurd cc

pub guard_some : {A : Type 0} (b : Bool) (x y : A) → cond b None (Some x) ≡ Some y → (b ≡ false) × (x ≡ y)
guard_some true x y e = absurd cc
guard_some false x y e = (refl, cc)

abbrev done : {A : Type 0} → A → Option A
done x = Some x

pub some_is : {A : Type 0} (x y : A) → done x ≡ done y → x ≡ y
some_is x y e = cc

-- what a reader took from the front
pub record Takes (bytes text rest : List ℕ) : Type 0 where
  pub parts : bytes ≡ text ++ rest
  pub rest_fits : IsBytes rest

pub Takes-then : (a x b y c : List ℕ) → Takes a x b → Takes b y c → Takes a (x ++ y) c
Takes-then a x b y c p q = record { parts = p.parts ∙ ap (λ (t : List ℕ). x ++ t) q.parts ∙ sym (append_assoc x y c); rest_fits = q.rest_fits }

-- a reader reads just what has this spelling
pub record IsField {A : Type 0} (read : List ℕ → Option (A × List ℕ)) (text : A → List ℕ) (fits : A → Type 0) : Type 0 where
  pub takes : (bytes : List ℕ) (x : A) (rest : List ℕ) → IsBytes bytes → read bytes ≡ Some (x, rest) → Takes bytes (text x) rest × fits x
  pub again : (x : A) (rest : List ℕ) → fits x → read (text x ++ rest) ≡ Some (x, rest)

-- ---- numbers

-- numbers of n bytes
pub number_field : (n : ℕ) → IsField (number_at n) (big_bytes n) (λ x. x < 256 ^ n)
number_field n = record {
  takes = λ bytes x rest fits e.
      let g = guard_some (ltb (length bytes) n) (big_number n bytes, drop n bytes) (x, rest) e in
      let long : n ≤ length bytes = ltb-false _ _ g.0 in
      let x-is : big_number n bytes ≡ x = ap (λ (p : ℕ × List ℕ). p.0) g.1 in
      let rest-is : drop n bytes ≡ rest = ap (λ (p : ℕ × List ℕ). p.1) g.1 in
      let front : big_bytes n x ≡ take n bytes = ap (big_bytes n) (sym x-is) ∙ back n bytes fits long in (
        record {
          parts = sym (take-append-drop n bytes) ∙ ap (λ (t : List ℕ). t ++ drop n bytes) (sym front) ∙ ap (λ (t : List ℕ). big_bytes n x ++ t) rest-is;
          rest_fits = subst IsBytes rest-is (IsBytes-drop n bytes fits);
        },
        subst (λ (k : ℕ). k < 256 ^ n) x-is (big_from-lt 0 n bytes fits),
      );
  again = λ x rest lt.
      let len = length-bytes_high_first n x in
      let long : ltb (length (big_bytes n x ++ rest)) n ≡ false = le-ltb _ _ (omega (arith, length-append (big_bytes n x) rest)) in
      rw (long, big_number-reads_back n x rest lt, drop_at (big_bytes n x) rest n len) refl;
}

-- ---- pieces and strings

piece_takes : (n : ℕ) (bytes piece rest : List ℕ) → IsBytes bytes → piece_at n bytes ≡ Some (piece, rest) → Takes bytes piece rest × (length piece ≡ n)
piece_takes n bytes piece rest fits e =
    let g = guard_some (ltb (length bytes) n) (take n bytes, drop n bytes) (piece, rest) e in
    let long : n ≤ length bytes = ltb-false _ _ g.0 in
    let p-is : take n bytes ≡ piece = ap (λ (p : List ℕ × List ℕ). p.0) g.1 in
    let rest-is : drop n bytes ≡ rest = ap (λ (p : List ℕ × List ℕ). p.1) g.1 in (
      record {
        parts = sym (take-append-drop n bytes) ∙ ap (λ (t : List ℕ). t ++ drop n bytes) p-is ∙ ap (λ (t : List ℕ). piece ++ t) rest-is;
        rest_fits = subst IsBytes rest-is (IsBytes-drop n bytes fits);
      },
      ap length (sym p-is) ∙ (let l : length (take n bytes) ≡ n = omega (arith, length-take n bytes) in l),
    )

piece_again : (piece rest : List ℕ) → piece_at (length piece) (piece ++ rest) ≡ Some (piece, rest)
piece_again piece rest =
    let long : ltb (length (piece ++ rest)) (length piece) ≡ false = le-ltb _ _ (omega (arith, length-append piece rest)) in
    rw (long, take_at piece rest (length piece) refl, drop_at piece rest (length piece) refl) refl

string_takes : (n : ℕ) (bytes text rest : List ℕ) → IsBytes bytes → string_at n bytes ≡ Some (text, rest) → Takes bytes (string n text) rest × (length text < 256 ^ n)
unfolding string_at
string_takes n bytes text rest fits e =
    let b = bind_some (number_at n bytes) (λ size. piece_at size.0 size.1) (text, rest) e in
    let size = (number_field n).takes bytes b.0.0 b.0.1 fits b.1 in
    let piece = piece_takes b.0.0 b.0.1 text rest size.0.rest_fits b.2 in
    let both = Takes-then bytes (big_bytes n b.0.0) b.0.1 text rest size.0 piece.0 in
    (subst (λ (k : ℕ). Takes bytes (big_bytes n k ++ text) rest) (sym piece.1) both, subst (λ (k : ℕ). k < 256 ^ n) (sym piece.1) size.1)

string_again : (n : ℕ) (text rest : List ℕ) → length text < 256 ^ n → string_at n (string n text ++ rest) ≡ Some (text, rest)
unfolding string_at
string_again n text rest lt =
    let grouped : string n text ++ rest ≡ big_bytes n (length text) ++ (text ++ rest) = append_assoc (big_bytes n (length text)) text rest in
    ap (string_at n) grouped ∙ ap (λ r. r >>= λ size. piece_at size.0 size.1) ((number_field n).again (length text) (text ++ rest) lt) ∙ piece_again text rest

pub string_field : (n : ℕ) → IsField (string_at n) (string n) (λ text. length text < 256 ^ n)
string_field n = record { takes = string_takes n; again = string_again n }

-- ---- rows that may be missing

abbrev pub ShortRow : Option (List ℕ) → Type 0
ShortRow o = IfSome o (λ row. length row < 2 ^ 16)

optional_takes : (bytes : List ℕ) (o : Option (List ℕ)) (rest : List ℕ) → IsBytes bytes → optional_at bytes ≡ Some (o, rest) → Takes bytes (optional o) rest × ShortRow o
unfolding optional_at
optional_takes [] o rest fits e = absurd cc
optional_takes (zero ∷ bytes) o rest fits e =
    subst (λ (x : Option (List ℕ) × List ℕ). Takes (0 ∷ bytes) (optional x.0) x.1 × ShortRow x.0) (some_is (None, bytes) (o, rest) e) (record { parts = refl; rest_fits = IsBytes-rest 0 bytes fits }, tt)
optional_takes (suc zero ∷ bytes) o rest fits e =
    let b = bind_some (string_at 2 bytes) (λ row. Some (Some row.0, row.1)) (o, rest) e in
    let t = string_takes 2 bytes b.0.0 b.0.1 (IsBytes-rest 1 bytes fits) b.1 in
    subst (λ (x : Option (List ℕ) × List ℕ). Takes (1 ∷ bytes) (optional x.0) x.1 × ShortRow x.0) (some_is (Some b.0.0, b.0.1) (o, rest) b.2) (record { parts = ap (λ (w : List ℕ). 1 ∷ w) t.0.parts; rest_fits = t.0.rest_fits }, t.1)
optional_takes (suc (suc b) ∷ bytes) o rest fits e = absurd cc

optional_again : (o : Option (List ℕ)) (rest : List ℕ) → ShortRow o → optional_at (optional o ++ rest) ≡ Some (o, rest)
unfolding optional_at
optional_again None rest h = refl
optional_again (Some row) rest h = ap (λ r. r >>= λ row. Some (Some row.0, row.1)) (string_again 2 row rest h)

pub optional_field : IsField optional_at optional ShortRow
optional_field = record { takes = optional_takes; again = optional_again }

-- ---- signed numbers

signed_takes : (w : Width) → 256 ^ byte_len w ≡ 2 ^ bits w → (bytes : List ℕ) (z : ℤ) (rest : List ℕ) → IsBytes bytes → signed_at w bytes ≡ Some (z, rest) → Takes bytes (signed w z) rest × FitsSigned w z
unfolding signed_at
signed_takes w size bytes z rest fits e =
    let b = bind_some (number_at (byte_len w) bytes) (λ n. Some (cast_signed w n.0, n.1)) (z, rest) e in
    let t = (number_field (byte_len w)).takes bytes b.0.0 b.0.1 fits b.1 in
    let same : cast_unsigned w (cast_signed w b.0.0) ≡ b.0.0 = of_z-to_z w b.0.0 (subst (λ (k : ℕ). b.0.0 < k) size t.1) in
    subst (λ (x : ℤ × List ℕ). Takes bytes (signed w x.0) x.1 × FitsSigned w x.0) (some_is (cast_signed w b.0.0, b.0.1) (z, rest) b.2)
    (subst (λ (k : ℕ). Takes bytes (big_bytes (byte_len w) k) b.0.1) (sym same) t.0, read_sfits w b.0.0)

signed_again : (w : Width) → 256 ^ byte_len w ≡ 2 ^ bits w → (z : ℤ) (rest : List ℕ) → FitsSigned w z → signed_at w (signed w z ++ rest) ≡ Some (z, rest)
unfolding signed_at
signed_again w size z rest fits =
    let lt : cast_unsigned w z < 256 ^ byte_len w = subst (λ (k : ℕ). cast_unsigned w z < k) (sym size) (Fits-of_z fits).fits in
    ap (λ r. r >>= λ n. Some (cast_signed w n.0, n.1)) ((number_field (byte_len w)).again (cast_unsigned w z) rest lt)
    ∙ ap (λ (k : ℤ). Some (k, rest)) (to_z-of_z w z fits)

pub signed_field : (w : Width) → 256 ^ byte_len w ≡ 2 ^ bits w → IsField (signed_at w) (signed w) (FitsSigned w)
signed_field w size = record { takes = signed_takes w size; again = signed_again w size }

many_takes : (n : ℕ) (bytes : List ℕ) (x : List ℤ × List ℕ) → IsBytes bytes → many_at n bytes ≡ Some x → Takes bytes (flat_map (signed w128) x.0) x.1 × (length x.0 ≡ n) × AllByRecursion (FitsSigned w128) x.0
unfolding many_at
many_takes zero bytes x fits e =
    subst (λ (y : List ℤ × List ℕ). Takes bytes (flat_map (signed w128) y.0) y.1 × (length y.0 ≡ 0) × AllByRecursion (FitsSigned w128) y.0) (some_is ([], bytes) x e) (record { parts = refl; rest_fits = fits }, refl, tt)
many_takes (suc n) bytes x fits e =
    let a = bind_some (signed_at w128 bytes) (λ first. many_at n first.1 >>= λ others. Some (first.0 ∷ others.0, others.1)) x e in
    let b = bind_some (many_at n a.0.1) (λ others. Some (a.0.0 ∷ others.0, others.1)) x a.2 in
    let first = signed_takes w128 refl bytes a.0.0 a.0.1 fits a.1 in
    let second = many_takes n a.0.1 b.0 first.0.rest_fits b.1 in
    let both = Takes-then bytes (signed w128 a.0.0) a.0.1 (flat_map (signed w128) b.0.0) b.0.1 first.0 second.0 in
    let made : List ℤ × List ℕ = (a.0.0 ∷ b.0.0, b.0.1) in
    subst (λ (y : List ℤ × List ℕ). Takes bytes (flat_map (signed w128) y.0) y.1 × (length y.0 ≡ suc n) × AllByRecursion (FitsSigned w128) y.0) (some_is made x b.2) (rw flat_map-cons both, ap suc second.1, (first.1, second.2))

many_again : (zs : List ℤ) (rest : List ℕ) → AllByRecursion (FitsSigned w128) zs → many_at (length zs) (flat_map (signed w128) zs ++ rest) ≡ Some (zs, rest)
unfolding many_at
many_again [] rest fits = refl
many_again (z ∷ zs) rest fits =
    let regrouped : flat_map (signed w128) (z ∷ zs) ++ rest ≡ signed w128 z ++ (flat_map (signed w128) zs ++ rest) = ap (λ (x : List ℕ). x ++ rest) (flat_map-cons (signed w128) z zs) ∙ append_assoc (signed w128 z) (flat_map (signed w128) zs) rest in
    ap (many_at (suc (length zs))) regrouped
    ∙ ap (λ r. r >>= λ first. many_at (length zs) first.1 >>= λ others. Some (first.0 ∷ others.0, others.1)) (signed_again w128 refl z (flat_map (signed w128) zs ++ rest) fits.0)
    ∙ ap (λ r. r >>= λ others. Some (z ∷ others.0, others.1)) (many_again zs rest fits.1)

abbrev pub FewNumbers : List ℤ → Type 0
FewNumbers zs = (length zs < 2 ^ 8) × AllByRecursion (FitsSigned w128) zs

numbers_takes : (bytes : List ℕ) (zs : List ℤ) (rest : List ℕ) → IsBytes bytes → numbers_at bytes ≡ Some (zs, rest) → Takes bytes (numbers zs) rest × FewNumbers zs
unfolding numbers_at
numbers_takes bytes zs rest fits e =
    let b = bind_some (number_at 1 bytes) (λ count. many_at count.0 count.1) (zs, rest) e in
    let count = (number_field 1).takes bytes b.0.0 b.0.1 fits b.1 in
    let many = many_takes b.0.0 b.0.1 (zs, rest) count.0.rest_fits b.2 in
    let both = Takes-then bytes (big_bytes 1 b.0.0) b.0.1 (flat_map (signed w128) zs) rest count.0 many.0 in
    (subst (λ (k : ℕ). Takes bytes (big_bytes 1 k ++ flat_map (signed w128) zs) rest) (sym many.1) both, (subst (λ (k : ℕ). k < 256) (sym many.1) count.1, many.2))

numbers_again : (zs : List ℤ) (rest : List ℕ) → FewNumbers zs → numbers_at (numbers zs ++ rest) ≡ Some (zs, rest)
unfolding numbers_at
numbers_again zs rest few =
    let grouped : numbers zs ++ rest ≡ big_bytes 1 (length zs) ++ (flat_map (signed w128) zs ++ rest) = append_assoc (big_bytes 1 (length zs)) (flat_map (signed w128) zs) rest in
    ap numbers_at grouped ∙ ap (λ r. r >>= λ count. many_at count.0 count.1) ((number_field 1).again (length zs) (flat_map (signed w128) zs ++ rest) few.0) ∙ many_again zs rest few.1

pub numbers_field : IsField numbers_at numbers FewNumbers
numbers_field = record { takes = numbers_takes; again = numbers_again }

-- ---- one field behind another

pub both_field : {A B : Type 0} {p : List ℕ → Option (A × List ℕ)} {q : List ℕ → Option (B × List ℕ)} {s : A → List ℕ} {t : B → List ℕ} {P : A → Type 0} {Q : B → Type 0}
    → IsField p s P → IsField q t Q → IsField (both p q) (λ x. s x.0 ++ t x.1) (λ x. P x.0 × Q x.1)
both_field {A = A} {B = B} {p = p} {q = q} {s = s} {t = t} {P = P} {Q = Q} one two = record {
  takes = λ bytes x rest fits e.
      let a = bind_some (p bytes) (λ a. q a.1 >>= λ b. Some ((a.0, b.0), b.1)) (x, rest) e in
      let b = bind_some (q a.0.1) (λ b. Some ((a.0.0, b.0), b.1)) (x, rest) a.2 in
      let first = one.takes bytes a.0.0 a.0.1 fits a.1 in
      let second = two.takes a.0.1 b.0.0 b.0.1 first.0.rest_fits b.1 in
      let made : (A × B) × List ℕ = ((a.0.0, b.0.0), b.0.1) in
      subst (λ (y : (A × B) × List ℕ). Takes bytes (s y.0.0 ++ t y.0.1) y.1 × (P y.0.0 × Q y.0.1)) (some_is made (x, rest) b.2)
      (Takes-then bytes (s a.0.0) a.0.1 (t b.0.0) b.0.1 first.0 second.0, (first.1, second.1));
  again = λ x rest fits.
      ap (both p q) (append_assoc (s x.0) (t x.1) rest)
      ∙ ap (λ r. r >>= λ a. q a.1 >>= λ b. Some ((a.0, b.0), b.1)) (one.again x.0 (t x.1 ++ rest) fits.0)
      ∙ ap (λ r. r >>= λ b. Some ((x.0, b.0), b.1)) (two.again x.1 rest fits.1);
}
