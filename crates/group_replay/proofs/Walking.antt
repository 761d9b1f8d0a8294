-- The numbers of a stored row, one after another.
use Rattle.std.specs.Prelude.{◌≡◌, ◌↔◌, ℕ, suc, ◌+◌, ◌*◌, ℤ, ◌+ℤ◌, neg_ℤ, Bool, List, [], ◌∷◌, ◌++◌, length, FitsSigned, IsTrue, if◌then◌else◌}
use Rattle.std.specs.Int.{w128}
use Rattle.std.specs.List.{AllByRecursion}
use mathlib.Core.Path.{refl, sym, ap, subst, ◌∙◌}
use Rattle.std.proofs.Common.{arith, add-one}
use Rattle.iv_types.specs.declared.lock.GroupDelta.{GroupDelta}
use Rattle.iv_types.specs.declared.value.Kind.TheVariants.{Huge}
use Rattle.iv_types.specs.declared.value.Value.TheVariants.{Number}
use Rattle.iv_types.specs.Encoding.{value_bytes, IsHuge}
use Rattle.ghost_rows.specs.Numbers.{numbers_bytes, Fits128, step, moved}
use Rattle.ghost_rows.proofs.NumberSteps.{IsLeft, left_more, none_left, one_fewer, long}

-- the first number is read, and the bytes of the others are left
pub first_left : (stored after : List ℕ) (n : ℤ) (numbers : List ℤ) → FitsSigned w128 n → stored ≡ value_bytes Huge (Number n) ++ after → Fits128 numbers → stored ≡ numbers_bytes numbers → IsLeft (n ∷ []) after numbers
first_left stored after n numbers fits begins all is = left_more [] (n ∷ []) stored after numbers n fits begins refl (record { later = numbers; fits = all; whole = refl; bytes = is })

-- the bytes of none
pub of_none : (Q : List ℤ → Type 0) (stored : List ℕ) (numbers : List ℤ) → Q [] → stored ≡ [] → stored ≡ numbers_bytes numbers → Q numbers
of_none Q stored numbers q none is = subst Q (sym (none_left numbers (sym is ∙ none))) q

-- what is told of the others is told of all
pub of_first : (Q S : List ℤ → Type 0) (numbers : List ℤ) (n : ℤ) (after : List ℕ) (told : Bool) → IsLeft (n ∷ []) after numbers → ((later : List ℤ) → Q (n ∷ later) ↔ S later)
    → ((later : List ℤ) → Fits128 later → after ≡ numbers_bytes later → IsTrue told ↔ S later) → IsTrue told ↔ Q numbers
of_first Q S numbers n after told left both rest =
    let h = rest left.later left.fits left.bytes in
    let b = both left.later in
    (λ t. subst Q (sym left.whole) (b.1 (h.0 t)), λ q. h.1 (b.0 (subst Q left.whole q)))

-- the first refutes it
pub not_first : (Q : List ℤ → Type 0) (numbers : List ℤ) (n : ℤ) (after : List ℕ) → IsLeft (n ∷ []) after numbers → ((later : List ℤ) → Q (n ∷ later) → ⊥) → Q numbers → ⊥
not_first Q numbers n after left refuted q = refuted left.later (subst Q left.whole q)

-- the others are one fewer
pub fewer_left : (stored after : List ℕ) (n : ℤ) (many : ℕ) → stored ≡ value_bytes Huge (Number n) ++ after → length stored ≡ 16 * many → (k : ℕ) × (length after ≡ 16 * k)
fewer_left stored after n many begins all =
    let one = one_fewer (length stored) (length after) many many 0 all (ap length begins ∙ long n after) (omega arith) in
    (one.0, one.1)

pub shorter : (stored after : List ℕ) (n : ℤ) → stored ≡ value_bytes Huge (Number n) ++ after → length stored ≡ 16 + length after
shorter stored after n begins = ap length begins ∙ long n after

-- with numbers that are those
pub told_as : (back told : Bool) (n n' w w' : ℤ) → n' ≡ n → w' ≡ w → (IsTrue told ↔ IsHuge (n' +ℤ (if back then neg_ℤ w' else w'))) → IsTrue told ↔ IsHuge (n +ℤ (if back then neg_ℤ w else w))
told_as back told n n' w w' a b h =
    subst (λ x. IsTrue told ↔ IsHuge (x +ℤ (if back then neg_ℤ w else w))) a
    (subst (λ y. IsTrue told ↔ IsHuge (n' +ℤ (if back then neg_ℤ y else y))) b h)

-- ---- numbers with a delta

abbrev pub StayHuge : Bool → ℕ → GroupDelta → List ℤ → Type 0
StayHuge back column d numbers = AllByRecursion IsHuge (moved back column numbers d)

-- the first stays in range, and then the others tell
pub huge_first : (back : Bool) (column : ℕ) (d : GroupDelta) (n : ℤ) → IsHuge (n +ℤ step back column d) → (later : List ℤ) → StayHuge back column d (n ∷ later) ↔ StayHuge back (column + 1) d later
huge_first back column d n huge later =
    let next : suc column ≡ column + 1 = sym (add-one column) in
    (λ h. subst (λ k. StayHuge back k d later) next h.1, λ h. (huge, subst (λ k. StayHuge back k d later) (sym next) h))
