-- Lengths of keys of rows in the indexes of their table.
use Rattle.std.specs.Prelude.{◌≡◌, ℕ, ◌+◌, ◌<◌, ◌≤◌, List, [], ◌∷◌, ◌++◌, length, drop, get_or, slice_get, Option, Some, None}
use Rattle.std.specs.List.{cons_option}
use Rattle.std.proofs.Common.{arith, length-append, append-nil}
use Rattle.std.proofs.lemmas.List.{drop_more}
use mathlib.Core.Path.{refl, sym, ap, ◌∙◌}
use Rattle.iv_types.specs.declared.value.Kind.{Kind}
use Rattle.iv_types.specs.declared.value.Value.{Value}
use Rattle.iv_types.specs.declared.catalog.TableDef.{TableDef}
use Rattle.iv_types.specs.Encoding.{kinds_of, FitAll, key_value_bytes, key_bytes}
use Rattle.iv_types.proofs.FittingAt.{FitsAt, fits_at}
use Rattle.row_codec.proofs.LengthLemmas.{key_short}
use Rattle.table_store.specs.Stored.{key_at}
use Rattle.table_store.proofs.IndexKeys.{key_next}

-- the column of a place, if it is there
abbrev column_at : Option Kind → Option Value → List ℕ
column_at k v = key_bytes (cons_option k []) (cons_option v [])

at_none : (v : Option Value) → length (column_at None v) ≡ 0
at_none None = refl
at_none (Some v) = refl

pub no_place : (t : TableDef) (place : ℕ) (row : List Value) → slice_get (kinds_of t) place ≡ None → length (key_at t (place ∷ []) row) ≡ 0
no_place t place row is = ap (λ (k : Option Kind). length (column_at k (slice_get row place))) is ∙ at_none (slice_get row place)

-- a length that is that of a value's column, or nothing where there is no value
pub record IsLength (kind : Kind) (v : Option Value) (n : ℕ) : Type 0 where
  pub here : (w : Value) → v ≡ Some w → n ≡ length (key_value_bytes kind w)
  pub none : v ≡ None → n ≡ 0

at_some : (k : Kind) (v : Option Value) (n : ℕ) → IsLength k v n → n ≡ length (column_at (Some k) v)
at_some k None n is = is.none refl
at_some k (Some v) n is = is.here v refl ∙ ap length (sym (append-nil (key_value_bytes k v)))

pub this_place : (t : TableDef) (place : ℕ) (row : List Value) (k : Kind) (n : ℕ) → slice_get (kinds_of t) place ≡ Some k → IsLength k (slice_get row place) n → n ≡ length (key_at t (place ∷ []) row)
this_place t place row k n is len = at_some k (slice_get row place) n len ∙ ap (λ (o : Option Kind). length (column_at o (slice_get row place))) (sym is)

short_at : (k : Option Kind) (v : Option Value) → FitsAt k v → length (column_at k v) ≤ 402
short_at None None f = omega arith
short_at None (Some v) f = absurd f
short_at (Some k) None f = absurd f
short_at (Some k) (Some v) f = let here : length (key_value_bytes k v) ≤ 402 = key_short k v f in omega (arith, ap length (append-nil (key_value_bytes k v)))

pub place_short : (t : TableDef) (place : ℕ) (row : List Value) → FitAll (kinds_of t) row → length (key_at t (place ∷ []) row) ≤ 402
place_short t place row f = short_at (slice_get (kinds_of t) place) (slice_get row place) (fits_at (kinds_of t) row place f)

pub places_more : (t : TableDef) (places : List ℕ) (at : ℕ) (row : List Value) (sum n whole : ℕ) → FitAll (kinds_of t) row → at < length places
    → n ≡ length (key_at t (get_or places at 0 ∷ []) row) → sum + length (key_at t (drop at places) row) ≡ whole → (sum + n) + length (key_at t (drop (at + 1) places) row) ≡ whole
places_more t places at row sum n whole f lt is told =
    let next : key_at t (drop at places) row ≡ key_at t (get_or places at 0 ∷ []) row ++ key_at t (drop (at + 1) places) row =
    ap (λ (l : List ℕ). key_at t l row) (drop_more places at 0 lt) ∙ key_next t (get_or places at 0) (drop (at + 1) places) row f in
    omega (arith, is, told, ap length next ∙ length-append (key_at t (get_or places at 0 ∷ []) row) (key_at t (drop (at + 1) places) row))
