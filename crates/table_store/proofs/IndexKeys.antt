-- Keys of rows in the indexes of their table: rows with one key there have one primary key.
use Rattle.std.specs.Prelude.{◌≡◌, ℕ, suc, List, [], ◌∷◌, ◌++◌, length, drop, slice_get, Option, Some, None}
use Rattle.std.specs.List.{cons_option}
use Rattle.std.proofs.lemmas.List.Elements.{filter_map-append}
use Rattle.std.proofs.Math.Seq.{drop-append_seam}
use Rattle.std.proofs.Common.{append_assoc}
use Rattle.std.proofs.lemmas.List.{append-nil}
use mathlib.Core.Path.{refl, sym, ap, subst, ◌∙◌}
use Rattle.iv_types.specs.declared.value.Kind.{Kind}
use Rattle.iv_types.specs.declared.value.Value.{Value}
use Rattle.iv_types.specs.declared.catalog.TableDef.{TableDef}
use Rattle.iv_types.specs.declared.catalog.IndexDef.{IndexDef}
use Rattle.iv_types.specs.Encoding.{kinds_of, Fits, FitAll, key_value_bytes, key_bytes}
use Rattle.iv_types.proofs.FittingAt.{FitsAt, fits_at, fit_more}
use Rattle.iv_meaning.specs.Schema.{items_at}
use Rattle.iv_meaning.specs.Database.{key_of}
use Rattle.iv_meaning.specs.View.{index_key}
use Rattle.row_codec.specs.Laws.{OneSpelling}
use Rattle.table_store.specs.Stored.{key_at}

same_some : {A : Type 0} (x y : A) → Some x ≡ Some y → x ≡ y
same_some x y e = cc

pub items_fit : (ks : List Kind) (vs : List Value) (places : List ℕ) → FitAll ks vs → FitAll (items_at ks places) (items_at vs places)
items_fit ks vs [] f = tt
items_fit ks vs (place ∷ places) f =
    fit_more (slice_get ks place) (slice_get vs place) (items_at ks places) (items_at vs places) (fits_at ks vs place f) (items_fit ks vs places f)

pub same_length : (ks : List Kind) (vs : List Value) → FitAll ks vs → length vs ≡ length ks
same_length [] [] f = refl
same_length [] (v ∷ vs) f = absurd f
same_length (k ∷ ks) [] f = absurd f
same_length (k ∷ ks) (v ∷ vs) f = ap suc (same_length ks vs f.1)

same_end : {X : Type 0} (fs gs xs ys : List X) → length fs ≡ length gs → fs ++ xs ≡ gs ++ ys → xs ≡ ys
same_end fs gs xs ys n e = sym (drop-append_seam fs xs) ∙ (ap (drop (length fs)) e ∙ (ap (λ k. drop k (gs ++ ys)) n ∙ drop-append_seam gs ys))

pub one_key : OneSpelling key_value_bytes → (t : TableDef) (i : IndexDef) (a b : List Value) → FitAll (kinds_of t) a → FitAll (kinds_of t) b → index_key t i a ≡ index_key t i b → key_of t a ≡ key_of t b
one_key one t i a b fa fb e =
    let ks : List Kind = kinds_of t in
    let all : List ℕ = i.columns ++ t.primary in
    let same : items_at a all ≡ items_at b all = one (items_at ks all) (items_at a all) (items_at b all) (items_fit ks a all fa) (items_fit ks b all fb) e in
    let parts : items_at a i.columns ++ items_at a t.primary ≡ items_at b i.columns ++ items_at b t.primary =
    sym (filter_map-append (slice_get a) i.columns t.primary) ∙ (same ∙ filter_map-append (slice_get b) i.columns t.primary) in
    let long : length (items_at a i.columns) ≡ length (items_at b i.columns) =
    same_length (items_at ks i.columns) (items_at a i.columns) (items_fit ks a i.columns fa) ∙ sym (same_length (items_at ks i.columns) (items_at b i.columns) (items_fit ks b i.columns fb)) in
    ap (key_bytes (items_at ks t.primary)) (same_end (items_at a i.columns) (items_at b i.columns) (items_at a t.primary) (items_at b t.primary) long parts)

-- ---- a column at the front of a key

pub record FrontColumn (k : Kind) (key rest : List ℕ) : Type 0 where
  pub value : Value
  pub fits : Fits k value
  pub key_is : key ≡ key_value_bytes k value ++ rest

front_value : (k : Kind) (v : Option Value) (ks : List Kind) (vs : List Value) → FitsAt (Some k) v → FrontColumn k (key_bytes (k ∷ ks) (cons_option v vs)) (key_bytes ks vs)
front_value k None ks vs f = absurd f
front_value k (Some v) ks vs f = record { value = v; fits = f; key_is = refl }

-- a place with a column
pub front_there : (t : TableDef) (place : ℕ) (places : List ℕ) (row : List Value) (k : Kind) → FitAll (kinds_of t) row → slice_get (kinds_of t) place ≡ Some k
    → FrontColumn k (key_at t (place ∷ places) row) (key_at t places row)
front_there t place places row k f is =
    let fits : FitsAt (Some k) (slice_get row place) = subst (λ (o : Option Kind). FitsAt o (slice_get row place)) is (fits_at (kinds_of t) row place f) in
    subst (λ (o : Option Kind). FrontColumn k (key_bytes (cons_option o (items_at (kinds_of t) places)) (cons_option (slice_get row place) (items_at row places))) (key_at t places row)) (sym is)
    (front_value k (slice_get row place) (items_at (kinds_of t) places) (items_at row places) fits)

none_value : (v : Option Value) (ks : List Kind) (vs : List Value) → FitsAt None v → key_bytes ks (cons_option v vs) ≡ key_bytes ks vs
none_value None ks vs f = refl
none_value (Some v) ks vs f = absurd f

-- a place without one
pub front_none : (t : TableDef) (place : ℕ) (places : List ℕ) (row : List Value) → FitAll (kinds_of t) row → slice_get (kinds_of t) place ≡ None → key_at t (place ∷ places) row ≡ key_at t places row
front_none t place places row f is =
    let fits : FitsAt None (slice_get row place) = subst (λ (o : Option Kind). FitsAt o (slice_get row place)) is (fits_at (kinds_of t) row place f) in
    ap (λ (o : Option Kind). key_bytes (cons_option o (items_at (kinds_of t) places)) (cons_option (slice_get row place) (items_at row places))) is
    ∙ none_value (slice_get row place) (items_at (kinds_of t) places) (items_at row places) fits

-- ---- a key by its columns

no_column : (k : Option Kind) (v : Option Value) (ks : List Kind) (vs : List Value) → FitsAt k v → key_bytes (cons_option k ks) (cons_option v vs) ≡ key_bytes (cons_option k []) (cons_option v []) ++ key_bytes ks vs
no_column None None ks vs f = refl
no_column None (Some v) ks vs f = absurd f
no_column (Some k) None ks vs f = absurd f
no_column (Some k) (Some v) ks vs f = ap (λ (l : List ℕ). l ++ key_bytes ks vs) (sym (append-nil (key_value_bytes k v)))

-- the column of the first place, and then the others
pub key_next : (t : TableDef) (place : ℕ) (places : List ℕ) (row : List Value) → FitAll (kinds_of t) row → key_at t (place ∷ places) row ≡ key_at t (place ∷ []) row ++ key_at t places row
key_next t place places row f =
    no_column (slice_get (kinds_of t) place) (slice_get row place) (items_at (kinds_of t) places) (items_at row places) (fits_at (kinds_of t) row place f)

pub key_append : (t : TableDef) (xs ys : List ℕ) (row : List Value) → FitAll (kinds_of t) row → key_at t (xs ++ ys) row ≡ key_at t xs row ++ key_at t ys row
key_append t [] ys row f = refl
key_append t (x ∷ xs) ys row f =
    key_next t x (xs ++ ys) row f
    ∙ (ap (λ (l : List ℕ). key_at t (x ∷ []) row ++ l) (key_append t xs ys row f)
    ∙ (sym (append_assoc (key_at t (x ∷ []) row) (key_at t xs row) (key_at t ys row)) ∙ ap (λ (l : List ℕ). l ++ key_at t ys row) (sym (key_next t x xs row f))))

-- ---- a place with a column of a kind, and the row's value there

pub value_fits : (t : TableDef) (place : ℕ) (row : List Value) (k : Kind) (v : Value) → FitAll (kinds_of t) row → Some k ≡ slice_get (kinds_of t) place → Some v ≡ slice_get row place → FitAll (k ∷ []) (v ∷ [])
value_fits t place row k v f is at =
    subst (λ (y : Option Value). FitAll (k ∷ []) (cons_option y [])) (sym at)
    (subst (λ (x : Option Kind). FitAll (cons_option x []) (cons_option (slice_get row place) [])) (sym is) (items_fit (kinds_of t) row (place ∷ []) f))

pub value_key : (t : TableDef) (place : ℕ) (row : List Value) (k : Kind) (v : Value) → Some k ≡ slice_get (kinds_of t) place → Some v ≡ slice_get row place → key_bytes (k ∷ []) (v ∷ []) ≡ key_at t (place ∷ []) row
value_key t place row k v is at =
    ap (λ (y : Option Value). key_bytes (k ∷ []) (cons_option y [])) at
    ∙ ap (λ (x : Option Kind). key_bytes (cons_option x []) (cons_option (slice_get row place) [])) is

pub no_value : (t : TableDef) (place : ℕ) (row : List Value) (k : Kind) → Some k ≡ slice_get (kinds_of t) place → None ≡ slice_get row place → key_at t (place ∷ []) row ≡ []
no_value t place row k is at =
    ap (λ (x : Option Kind). key_bytes (cons_option x []) (cons_option (slice_get row place) [])) (sym is)
    ∙ ap (λ (y : Option Value). key_bytes (k ∷ []) (cons_option y [])) (sym at)
