-- The first disk of a name, and what lies under names once one is taken away.
use Rattle.std.proofs.Common.{◌≡◌, ◌∙◌, ◌+◌, ◌≤◌, ◌<◌, ℕ, zero, suc, List, [], ◌∷◌, Option, Some, None, true, false, Bool, refl, sym, ap, subst, arith, length, slice_index_or, remove, String}
use Rattle.std.specs.Prelude.{Decides, if◌then◌else◌, string_bytes, eqb}
use Rattle.std.specs.Cmp.Lexicographic.{pointwise, bytes_decides}
use Rattle.std.proofs.lemmas.Option.{none-some}
use Rattle.outside.specs.declared.closed.ClosedDisk.{ClosedDisk}
use Rattle.outside.specs.Closed.{is_named, lies_in, one_if, times_in, times_open}

-- the first of the name is what lies there
pub found : (ps : List ClosedDisk) (name : List ℕ) (i : ℕ) (d : ClosedDisk) → i < length ps
    → ((j : ℕ) → j < i → is_named name (slice_index_or ps j d) ≡ false) → is_named name (slice_index_or ps i d) ≡ true
    → lies_in ps name ≡ Some ((slice_index_or ps i d).disk)
found [] name i d less before here = absurd (omega (arith, less))
found (p ∷ ps) name zero d less before here = rw here refl
found (p ∷ ps) name (suc i) d less before here =
    let other : is_named name p ≡ false = before 0 (omega arith) in
    rw other (found ps name i d (omega (arith, less)) (λ j l. before (suc j) (omega (arith, l))) here)

-- where none has the name, nothing lies there
pub none_found : (ps : List ClosedDisk) (name : List ℕ)
    → ((d : ClosedDisk) (j : ℕ) → j < length ps → is_named name (slice_index_or ps j d) ≡ false) → lies_in ps name ≡ None
none_found [] name all = refl
none_found (p ∷ ps) name all =
    let other : is_named name p ≡ false = all p 0 (omega arith) in
    rw other (none_found ps name (λ d j l. all d (suc j) (omega (arith, l))))

-- without one of another name the same lies there
pub without_other : (ps : List ClosedDisk) (name : List ℕ) (i : ℕ) (d : ClosedDisk) → i < length ps
    → is_named name (slice_index_or ps i d) ≡ false → lies_in (remove ps i) name ≡ lies_in ps name
without_other [] name i d less other = absurd (omega (arith, less))
without_other (p ∷ ps) name zero d less other = rw other refl
without_other (p ∷ ps) name (suc i) d less other =
    ap (λ (o : Option _). if is_named name p then Some p.disk else o) (without_other ps name i d (omega (arith, less)) other)

-- a test that decides what is not so fails
pub test_fails : (P : Type 0) (b : Bool) → Decides b P → (P → ⊥) → b ≡ false
test_fails P b d never = by b refl
  where
    by : (t : Bool) → b ≡ t → b ≡ false
    by true e = absurd (never (d.0 e))
    by false e = e

-- an item that is there is the same by any default
pub same_item : (ps : List ClosedDisk) (i : ℕ) (d e : ClosedDisk) → i < length ps → slice_index_or ps i d ≡ slice_index_or ps i e
same_item [] i d e less = absurd (omega (arith, less))
same_item (p ∷ ps) zero d e less = refl
same_item (p ∷ ps) (suc i) d e less = same_item ps i d e (omega (arith, less))

-- ---- how many have a name

-- where nothing lies, none has the name
pub none_times : (ps : List ClosedDisk) (name : List ℕ) → lies_in ps name ≡ None → times_in ps name ≡ 0
none_times [] name none = refl
none_times (p ∷ ps) name none = by (none_times ps name) (is_named name p) refl
  where
    by : (lies_in ps name ≡ None → times_in ps name ≡ 0) → (b : Bool) → is_named name p ≡ b → times_in (p ∷ ps) name ≡ 0
    by rest true e = absurd (none-some p.disk (sym none ∙ ap (λ (t : Bool). if t then Some p.disk else lies_in ps name) e))
    by rest false e =
        let other : one_if (is_named name p) ≡ 0 = ap one_if e in
        omega (arith, other, rest (ap (λ (t : Bool). if t then Some p.disk else lies_in ps name) (sym e) ∙ none))

-- where none has the name, nothing lies there
pub times_none : (ps : List ClosedDisk) (name : List ℕ) → times_in ps name ≡ 0 → lies_in ps name ≡ None
times_none [] name none = refl
times_none (p ∷ ps) name none = by (times_none ps name) (is_named name p) refl
  where
    by : (times_in ps name ≡ 0 → lies_in ps name ≡ None) → (b : Bool) → is_named name p ≡ b → lies_in (p ∷ ps) name ≡ None
    by rest true e =
        let one : one_if (is_named name p) ≡ 1 = ap one_if e in
        absurd (omega (arith, one, none))
    by rest false e =
        let other : one_if (is_named name p) ≡ 0 = ap one_if e in
        ap (λ (t : Bool). if t then Some p.disk else lies_in ps name) e ∙ rest (omega (arith, other, none))

-- taking one away takes one away of its name
pub times_without : (ps : List ClosedDisk) (name : List ℕ) (i : ℕ) (d : ClosedDisk) → i < length ps
    → one_if (is_named name (slice_index_or ps i d)) + times_in (remove ps i) name ≡ times_in ps name
times_without [] name i d less = absurd (omega (arith, less))
times_without (p ∷ ps) name zero d less = refl
times_without (p ∷ ps) name (suc i) d less = omega (arith, times_without ps name i d (omega (arith, less)))

pub without_fewer : (ps : List ClosedDisk) (name : List ℕ) (i : ℕ) (d : ClosedDisk) → i < length ps → times_in (remove ps i) name ≤ times_in ps name
without_fewer ps name i d less = omega (arith, times_without ps name i d less)

-- and the only one of it leaves none
pub without_only : (ps : List ClosedDisk) (name : List ℕ) (i : ℕ) (d : ClosedDisk) → i < length ps → times_in ps name ≤ 1
    → is_named name (slice_index_or ps i d) ≡ true → times_in (remove ps i) name ≡ 0
without_only ps name i d less once named =
    let one : one_if (is_named name (slice_index_or ps i d)) ≡ 1 = ap one_if named in
    omega (arith, times_without ps name i d less, one, once)

-- a name that none has is open in place of another
pub still_once : {A : Type 0} → (ps qs : List ClosedDisk) (opened : String A) (name : List ℕ) → string_bytes opened ≡ name → times_in qs name ≡ 0
    → ((n : List ℕ) → times_in qs n ≤ times_in ps n) → ((n : List ℕ) → times_in ps n ≤ 1) → (n : List ℕ) → times_in qs n + times_open (Some opened) n ≤ 1
still_once ps qs opened name same none fewer once n = by (pointwise eqb (string_bytes opened) n) refl
  where
    by : (b : Bool) → pointwise eqb (string_bytes opened) n ≡ b → times_in qs n + times_open (Some opened) n ≤ 1
    by true e =
        let here : times_in qs n ≡ 0 = subst (λ (m : List ℕ). times_in qs m ≡ 0) (sym same ∙ (bytes_decides (string_bytes opened) n).0 e) none in
        let one : times_open (Some opened) n ≡ 1 = ap one_if e in
        omega (arith, here, one)
    by false e =
        let zero_times : times_open (Some opened) n ≡ 0 = ap one_if e in
        omega (arith, zero_times, fewer n, once n)
