-- Reading one number after another.
use Rattle.std.proofs.Common.{◌≡◌, ℕ, suc, ◌+◌, ◌-◌, ◌<◌, ◌≤◌, ℤ, List, [], ◌∷◌, ◌++◌, Option, Some, None, refl, sym, ◌∙◌, ap, subst, arith, append_assoc}
use Rattle.std.proofs.lemmas.List.{append-nil}
use Rattle.std.specs.Int.{Width, w128, byte_len, cast_signed}
use Rattle.std.specs.Int.RustNames.{FitsSigned}
use borrow.Author.Gap.{read_sfits}
use Rattle.log_records.proofs.FieldLaws.{bind_some, some_is}
use Rattle.log_records.specs.declared.fault.Unread.{Unread}
use Rattle.log_records.specs.declared.fault.Unread.TheVariants as unread
use Rattle.log_records.specs.Reading.{◌>>=◌, number_at, signed_at, many_at}

-- these numbers and then those that are read
abbrev pub with_front : List ℤ → Option (List ℤ × List ℕ) → Option (List ℤ × List ℕ)
with_front front read = read >>= λ x. Some (front ++ x.0, x.1)

-- a call that ended early says why
abbrev pub Ends : {Y : Type 0} → Unread → Option Y → Type 0
Ends unread.NoRecord read = read ≡ None
Ends unread.NoMemory read = Unit {0}

regroup : (front : List ℤ) (n : ℤ) (r : Option (List ℤ × List ℕ)) → with_front front (r >>= λ x. Some (n ∷ x.0, x.1)) ≡ with_front (front ++ n ∷ []) r
regroup front n (Some x) = ap (λ (ns : List ℤ). Some (ns, x.1)) (simp append_assoc)
regroup front n None = refl

pub goes_on : (front : List ℤ) (count i : ℕ) (bytes : List ℕ) (n : ℤ) (after : List ℕ) (total : Option (List ℤ × List ℕ)) → i < count → signed_at w128 bytes ≡ Some (n, after)
    → with_front front (many_at (count - i) bytes) ≡ total → with_front (front ++ n ∷ []) (many_at (count - (i + 1)) after) ≡ total
unfolding many_at
goes_on front count i bytes n after total lt h so_far =
    let k : count - i ≡ suc (count - (i + 1)) = omega arith in
    let one : with_front front (many_at (count - i) bytes) ≡ with_front (front ++ n ∷ []) (many_at (count - (i + 1)) after) = rw (k, h) (regroup front n (many_at (count - (i + 1)) after)) in
    sym one ∙ so_far

pub ends : (e : Unread) (front : List ℤ) (count i : ℕ) (bytes : List ℕ) (total : Option (List ℤ × List ℕ)) → i < count → Ends e (signed_at w128 bytes)
    → with_front front (many_at (count - i) bytes) ≡ total → Ends e total
unfolding many_at
ends unread.NoMemory front count i bytes total lt h so_far = tt
ends unread.NoRecord front count i bytes total lt h so_far =
    let k : count - i ≡ suc (count - (i + 1)) = omega arith in
    let one : with_front front (many_at (count - i) bytes) ≡ None = rw (k, h) refl in
    sym so_far ∙ one

pub is_done : (front : List ℤ) (count i : ℕ) (bytes : List ℕ) (total : Option (List ℤ × List ℕ)) → count ≤ i → with_front front (many_at (count - i) bytes) ≡ total → total ≡ Some (front, bytes)
unfolding many_at
is_done front count i bytes total le so_far =
    let k : count - i ≡ 0 = omega arith in
    let one : with_front front (many_at (count - i) bytes) ≡ Some (front, bytes) = rw k (ap (λ (ns : List ℤ). Some (ns, bytes)) (append-nil front)) in
    sym so_far ∙ one

-- a number that is read fits its width
pub fits_read : (w : Width) (bytes : List ℕ) (z : ℤ) (rest : List ℕ) → signed_at w bytes ≡ Some (z, rest) → FitsSigned w z
unfolding signed_at
fits_read w bytes z rest is =
    let b = bind_some (number_at (byte_len w) bytes) (λ n. Some (cast_signed w n.0, n.1)) (z, rest) is in
    subst (λ (x : ℤ × List ℕ). FitsSigned w x.0) (some_is (cast_signed w b.0.0, b.0.1) (z, rest) b.2) (read_sfits w b.0.0)
