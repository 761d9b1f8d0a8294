-- Values that fit their columns, one place at a time.
use Rattle.std.specs.Prelude.{ℕ, zero, suc, List, [], ◌∷◌, slice_get, Option, Some, None}
use Rattle.std.specs.List.{cons_option}
use Rattle.iv_types.specs.declared.value.Kind.{Kind}
use Rattle.iv_types.specs.declared.value.Value.{Value}
use Rattle.iv_types.specs.Encoding.{Fits, FitAll}

-- a column's kind and a value that fits it, or neither
abbrev pub FitsAt : Option Kind → Option Value → Type 0
FitsAt None None = Unit {0}
FitsAt (Some k) (Some v) = Fits k v
FitsAt _ _ = ⊥

pub fits_at : (ks : List Kind) (vs : List Value) (place : ℕ) → FitAll ks vs → FitsAt (slice_get ks place) (slice_get vs place)
fits_at [] [] place f = tt
fits_at [] (v ∷ vs) place f = absurd f
fits_at (k ∷ ks) [] place f = absurd f
fits_at (k ∷ ks) (v ∷ vs) zero f = f.0
fits_at (k ∷ ks) (v ∷ vs) (suc place) f = fits_at ks vs place f.1

pub fit_more : (k : Option Kind) (v : Option Value) (ks : List Kind) (vs : List Value) → FitsAt k v → FitAll ks vs → FitAll (cons_option k ks) (cons_option v vs)
fit_more None None ks vs h f = f
fit_more None (Some v) ks vs h f = absurd h
fit_more (Some k) None ks vs h f = absurd h
fit_more (Some k) (Some v) ks vs h f = (h, f)
