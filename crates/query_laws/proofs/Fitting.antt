-- Values that fit the kinds of columns, and what the test of fitting tells.
use Rattle.std.specs.Prelude.{◌≡◌, ℕ, zero, suc, ◌<◌, not, Bool, true, false, List, [], ◌∷◌, ◌++◌, length, slice_get, Option, Some}
use Rattle.std.specs.List.{AllByRecursion, cons_option}
use mathlib.Core.Path.{refl, sym, ap, subst}
use Rattle.std.proofs.Common.{arith}
use Rattle.std.proofs.lemmas.List.Elements.{filter_map-append}
use Rattle.iv_types.specs.declared.value.Kind.{Kind}
use Rattle.iv_types.specs.declared.value.Kind.TheVariants.{Int, Huge, Text}
use Rattle.iv_types.specs.declared.value.Value.{Value}
use Rattle.iv_types.specs.declared.value.Value.TheVariants.{Number, Word}
use Rattle.iv_types.specs.Encoding.{Fits, FitAll, is_huge}
use Rattle.iv_meaning.specs.Schema.{items_at}
use Rattle.iv_meaning.specs.Values.{lies_outside}

-- ---- values of which numbers of a HUGE column may have any size

abbrev pub IsOf : Kind → Value → Type 0
IsOf Huge (Number n) = Unit {0}
IsOf k v = Fits k v

abbrev pub AreOf : List Kind → List Value → Type 0
AreOf [] [] = Unit {0}
AreOf (k ∷ ks) (v ∷ vs) = IsOf k v × AreOf ks vs
AreOf _ _ = ⊥

pub fits_is_of : (k : Kind) (v : Value) → Fits k v → IsOf k v
fits_is_of Int v f = f
fits_is_of Huge (Number n) f = tt
fits_is_of Huge (Word w) f = f
fits_is_of Text v f = f

pub all_are_of : (ks : List Kind) (vs : List Value) → FitAll ks vs → AreOf ks vs
all_are_of [] [] f = tt
all_are_of [] (v ∷ vs) f = f
all_are_of (k ∷ ks) [] f = f
all_are_of (k ∷ ks) (v ∷ vs) f = (fits_is_of k v f.0, all_are_of ks vs f.1)

pub inside_fits : (k : Kind) (v : Value) → IsOf k v → lies_outside v ≡ false → Fits k v
inside_fits Int v f e = f
inside_fits Huge (Number n) f e = not_outside (is_huge n) e
  where
    not_outside : (b : Bool) → not b ≡ false → b ≡ true
    not_outside true e = refl
    not_outside false e = absurd (cc)
inside_fits Huge (Word w) f e = f
inside_fits Text v f e = f

-- ---- columns of rows that fit

-- the value of a column, which fits its kind
pub record Column (ks : List Kind) (vs : List Value) (place : ℕ) : Type 0 where
  pub kind : Kind
  pub value : Value
  pub kind_is : slice_get ks place ≡ Some kind
  pub value_is : slice_get vs place ≡ Some value
  pub fits : Fits kind value

later : {k : Kind} {v : Value} {ks : List Kind} {vs : List Value} {place : ℕ} → Column ks vs place → Column (k ∷ ks) (v ∷ vs) (suc place)
later c = record { kind = c.kind; value = c.value; kind_is = c.kind_is; value_is = c.value_is; fits = c.fits }

pub column_at : (ks : List Kind) (vs : List Value) (place : ℕ) → FitAll ks vs → place < length ks → Column ks vs place
column_at [] vs place f lt = absurd (omega arith)
column_at (k ∷ ks) [] place f lt = absurd f
column_at (k ∷ ks) (v ∷ vs) zero f lt = record { kind = k; value = v; kind_is = refl; value_is = refl; fits = f.0 }
column_at (k ∷ ks) (v ∷ vs) (suc place) f lt = later (column_at ks vs place f.1 (omega arith))

pub inside : {X : Type 0} (xs : List X) (place : ℕ) (x : X) → slice_get xs place ≡ Some x → place < length xs
inside [] place x e = absurd (cc)
inside (y ∷ xs) zero x e = omega arith
inside (y ∷ xs) (suc place) x e = let rest : place < length xs = inside xs place x e in omega arith

-- places of columns
abbrev pub ArePlaces : List Kind → List ℕ → Type 0
ArePlaces ks places = AllByRecursion (λ p. p < length ks) places

-- places of columns of which the row's values fit
abbrev pub HaveColumns : List Kind → List Value → List ℕ → Type 0
HaveColumns ks vs places = AllByRecursion (Column ks vs) places

pub have_columns : (ks : List Kind) (vs : List Value) (places : List ℕ) → FitAll ks vs → ArePlaces ks places → HaveColumns ks vs places
have_columns ks vs [] f h = tt
have_columns ks vs (p ∷ places) f h = (column_at ks vs p f h.0, have_columns ks vs places f h.1)

pub columns_fit : (ks : List Kind) (vs : List Value) (places : List ℕ) → HaveColumns ks vs places → FitAll (items_at ks places) (items_at vs places)
columns_fit ks vs [] h = tt
columns_fit ks vs (p ∷ places) h =
    let c : Column ks vs p = h.0 in
    let rest : FitAll (items_at ks places) (items_at vs places) = columns_fit ks vs places h.1 in
    subst (λ (k : Option Kind). FitAll (cons_option k (items_at ks places)) (cons_option (slice_get vs p) (items_at vs places))) (sym c.kind_is)
    (subst (λ (v : Option Value). FitAll (c.kind ∷ items_at ks places) (cons_option v (items_at vs places))) (sym c.value_is) (c.fits, rest))

pub items_fit : (ks : List Kind) (vs : List Value) (places : List ℕ) → FitAll ks vs → ArePlaces ks places → FitAll (items_at ks places) (items_at vs places)
items_fit ks vs places f h = columns_fit ks vs places (have_columns ks vs places f h)

pub items_next : {X : Type 0} (xs : List X) (place : ℕ) (places : List ℕ) (x : X) → slice_get xs place ≡ Some x → items_at xs (place ∷ places) ≡ x ∷ items_at xs places
items_next xs place places x e = ap (λ o. cons_option o (items_at xs places)) e

pub items_append : {X : Type 0} (xs : List X) (ps qs : List ℕ) → items_at xs (ps ++ qs) ≡ items_at xs ps ++ items_at xs qs
items_append xs ps qs = filter_map-append (slice_get xs) ps qs
