-- Copies of the first definitions of a catalog, and one more.
use Rattle.std.proofs.Common.{◌≡◌, ℕ, zero, suc, ◌+◌, ◌<◌, ◌≤◌, Bool, true, false, cond, List, [], ◌∷◌, ◌++◌, length, take, drop, slice_get, Option, None, Some, refl, sym, ap, ◌∙◌, arith}
use Rattle.std.specs.Prelude.{◌==◌}
use mathlib.Core.Path.{subst}
use Rattle.std.proofs.lemmas.Option.{slice_get_within}
use Rattle.std.proofs.lemmas.List.Sums.{sum_by-cons}
use Rattle.std.proofs.lemmas.List.{take-append-drop}
use Rattle.std.specs.Str.{bytes_eq}
use Rattle.iv_types.specs.declared.catalog.Definition.{Definition}
use Rattle.iv_types.specs.declared.catalog.Definition.TheVariants.{Table, Index, View}
use Rattle.iv_types.specs.Definitions.{Definitions, number_of, name_of, named, AreNumbered, AreNamed, AreFew, are_alike, how_many_alike, CanAdd, IsCopy, AreCopies}
use Rattle.iv_types.proofs.Catalogs.{named_front}

-- ---- one definition

copy_number : (c d : Definition) → IsCopy c d → number_of c ≡ number_of d
copy_number (Table c) (Table d) e = ap (λ t. t.number) e
copy_number (Index c) (Index d) e = ap (λ t. t.number) e
copy_number (View c) (View d) e = ap (λ t. t.number) e.rest
copy_number (Table c) (Index d) e = absurd e
copy_number (Table c) (View d) e = absurd e
copy_number (Index c) (Table d) e = absurd e
copy_number (Index c) (View d) e = absurd e
copy_number (View c) (Table d) e = absurd e
copy_number (View c) (Index d) e = absurd e

copy_name : (c d : Definition) → IsCopy c d → name_of c ≡ name_of d
copy_name (Table c) (Table d) e = ap (λ t. t.name) e
copy_name (Index c) (Index d) e = ap (λ t. t.name) e
copy_name (View c) (View d) e = ap (λ t. t.name) e.rest
copy_name (Table c) (Index d) e = absurd e
copy_name (Table c) (View d) e = absurd e
copy_name (Index c) (Table d) e = absurd e
copy_name (Index c) (View d) e = absurd e
copy_name (View c) (Table d) e = absurd e
copy_name (View c) (Index d) e = absurd e

abbrev kind : Definition → ℕ
kind (Table t) = 0
kind (Index i) = 1
kind (View v) = 2

copy_kind : (c d : Definition) → IsCopy c d → kind c ≡ kind d
copy_kind (Table c) (Table d) e = refl
copy_kind (Index c) (Index d) e = refl
copy_kind (View c) (View d) e = refl
copy_kind (Table c) (Index d) e = absurd e
copy_kind (Table c) (View d) e = absurd e
copy_kind (Index c) (Table d) e = absurd e
copy_kind (Index c) (View d) e = absurd e
copy_kind (View c) (Table d) e = absurd e
copy_kind (View c) (Index d) e = absurd e

alike_kinds : (c d : Definition) → are_alike c d ≡ (kind c == kind d)
alike_kinds (Table c) (Table d) = refl
alike_kinds (Table c) (Index d) = refl
alike_kinds (Table c) (View d) = refl
alike_kinds (Index c) (Table d) = refl
alike_kinds (Index c) (Index d) = refl
alike_kinds (Index c) (View d) = refl
alike_kinds (View c) (Table d) = refl
alike_kinds (View c) (Index d) = refl
alike_kinds (View c) (View d) = refl

-- a copy is of the kind of what it is of
copy_alike : (c d x y : Definition) → IsCopy c d → IsCopy x y → are_alike c x ≡ are_alike d y
copy_alike c d x y e f = alike_kinds c x ∙ (ap (λ k. k == kind x) (copy_kind c d e) ∙ (ap (λ k. kind d == k) (copy_kind x y f) ∙ sym (alike_kinds d y)))

-- ---- many

copies_long : (cs ds : Definitions) → AreCopies cs ds → length cs ≡ length ds
copies_long [] [] h = refl
copies_long (c ∷ cs) (d ∷ ds) h = ap suc (copies_long cs ds h.1)
copies_long [] (d ∷ ds) h = absurd h
copies_long (c ∷ cs) [] h = absurd h

copies_alike : (c d : Definition) (cs ds : Definitions) → IsCopy c d → AreCopies cs ds → how_many_alike c cs ≡ how_many_alike d ds
copies_alike c d [] [] e h = refl
copies_alike c d (x ∷ cs) (y ∷ ds) e h =
    omega (arith, copies_alike c d cs ds e h.1, sum_by-cons (λ z. cond (are_alike c z) 1 0) x cs, sum_by-cons (λ z. cond (are_alike d z) 1 0) y ds, ap {B = ℕ} (λ b. cond b 1 0) (copy_alike c d x y e h.0))
copies_alike c d [] (y ∷ ds) e h = absurd h
copies_alike c d (x ∷ cs) [] e h = absurd h

copies_named : (cs ds : Definitions) (name : List ℕ) → AreCopies cs ds → named ds name ≡ None → named cs name ≡ None
copies_named [] [] name h none = refl
copies_named (c ∷ cs) (d ∷ ds) name h none = by (bytes_eq name (name_of d)) (ap (bytes_eq name) (copy_name c d h.0)) none (copies_named cs ds name h.1)
  where
    by : (b : Bool) → bytes_eq name (name_of c) ≡ b → cond b (Some d) (named ds name) ≡ None → (named ds name ≡ None → named cs name ≡ None) → named (c ∷ cs) name ≡ None
    by true e f rest = absurd cc
    by false e f rest = ap (λ b. cond b (Some c) (named cs name)) e ∙ rest f
copies_named [] (d ∷ ds) name h none = absurd h
copies_named (c ∷ cs) [] name h none = absurd h

-- ---- the first ones

-- the definition that a name finds stands somewhere
named_at : (ds : Definitions) (name : List ℕ) (x : Definition) → named ds name ≡ Some x → (j : ℕ) × (slice_get ds j ≡ Some x)
named_at [] name x e = absurd cc
named_at (d ∷ ds) name x e = by (bytes_eq name (name_of d)) e (named_at ds name x)
  where
    by : (b : Bool) → cond b (Some d) (named ds name) ≡ Some x → (named ds name ≡ Some x → (j : ℕ) × (slice_get ds j ≡ Some x)) → (j : ℕ) × (slice_get (d ∷ ds) j ≡ Some x)
    by true f rest = (0, f)
    by false f rest = let r = rest f in (suc r.0, r.1)

get_first : (n j : ℕ) (ds : Definitions) (x : Definition) → slice_get (take n ds) j ≡ Some x → (j < n) × (slice_get ds j ≡ Some x)
get_first zero j ds x at = absurd cc
get_first (suc n) j [] x at = absurd cc
get_first (suc n) zero (d ∷ ds) x at = (omega arith, at)
get_first (suc n) (suc j) (d ∷ ds) x at = let r = get_first n j ds x at in (omega (arith, r.0), r.1)

-- no definition before this one has its name
not_before : (ds : Definitions) (n : ℕ) (d : Definition) → AreNumbered ds → AreNamed ds → slice_get ds n ≡ Some d → named (take n ds) (name_of d) ≡ None
not_before ds n d numbers names at = by (named (take n ds) (name_of d)) refl
  where
    by : (r : Option Definition) → named (take n ds) (name_of d) ≡ r → named (take n ds) (name_of d) ≡ None
    by None e = e
    by (Some x) e =
        let whole : named ds (name_of d) ≡ Some x = ap (λ l. named l (name_of d)) (sym (take-append-drop n ds)) ∙ named_front (take n ds) (drop n ds) (name_of d) x e in
        let same : d ≡ x = some_same d x (sym (names (suc n) d at) ∙ whole) in
        let place = named_at (take n ds) (name_of d) x e in
        let first = get_first n place.0 ds x place.1 in
        absurd (omega (arith, numbers (suc n) d at, numbers (suc place.0) x first.1, ap number_of same, first.0))
      where
        some_same : (a b : Definition) → Some a ≡ Some b → a ≡ b
        some_same a b f = cc

alike_self : (d : Definition) → are_alike d d ≡ true
alike_self (Table d) = refl
alike_self (Index d) = refl
alike_self (View d) = refl

-- fewer stand before it than there are
fewer_before : (ds : Definitions) (n : ℕ) (d e : Definition) → slice_get ds n ≡ Some d → are_alike e d ≡ true → how_many_alike e (take n ds) + 1 ≤ how_many_alike e ds
fewer_before [] n d e at alike = absurd cc
fewer_before (x ∷ ds) zero d e at alike =
    let same : x ≡ d = some_same x d at in
    omega (arith, sum_by-cons (λ z. cond (are_alike e z) 1 0) x ds, ap {B = ℕ} (λ b. cond b 1 0) (ap (are_alike e) same ∙ alike))
  where
    some_same : (a b : Definition) → Some a ≡ Some b → a ≡ b
    some_same a b f = cc
fewer_before (x ∷ ds) (suc n) d e at alike =
    omega (arith, fewer_before ds n d e at alike, sum_by-cons (λ z. cond (are_alike e z) 1 0) x ds, sum_by-cons (λ z. cond (are_alike e z) 1 0) x (take n ds))

-- a copy of the next definition can be added to copies of those before it
pub can_add_copy : (ds : Definitions) (n : ℕ) (d c : Definition) (cs : Definitions) → AreNumbered ds → AreNamed ds → AreFew ds → slice_get ds n ≡ Some d → AreCopies cs (take n ds) → IsCopy c d → CanAdd cs c
can_add_copy ds n d c cs numbers names few at copies copy = record {
  number = copy_number c d copy ∙ numbers (suc n) d at ∙ omega (arith, copies_long cs (take n ds) copies, length_take ds n (slice_get_within ds n d at));
  name = ap (named cs) (copy_name c d copy) ∙ copies_named cs (take n ds) (name_of d) copies (not_before ds n d numbers names at);
  room = omega (arith, copies_alike c d cs (take n ds) copy copies, fewer_before ds n d d at (alike_self d), few d);
}
  where
    length_take : (l : Definitions) (k : ℕ) → k < length l → length (take k l) ≡ k
    length_take [] k lt = absurd (omega arith)
    length_take (x ∷ l) zero lt = refl
    length_take (x ∷ l) (suc k) lt = ap suc (length_take l k (omega arith))

pub copies_more : (ds : Definitions) (n : ℕ) (d c : Definition) (cs : Definitions) → slice_get ds n ≡ Some d → AreCopies cs (take n ds) → IsCopy c d → AreCopies (cs ++ c ∷ []) (take (suc n) ds)
copies_more [] n d c cs at copies copy = absurd cc
copies_more (x ∷ ds) zero d c [] at copies copy =
    let same : x ≡ d = cc in
    (subst (IsCopy c) (sym same) copy, tt)
copies_more (x ∷ ds) zero d c (y ∷ cs) at copies copy = absurd copies
copies_more (x ∷ ds) (suc n) d c [] at copies copy = absurd copies
copies_more (x ∷ ds) (suc n) d c (y ∷ cs) at copies copy = (copies.0, copies_more ds n d c cs at copies.1 copy)
