-- A row that has the values of a key in its columns: any values that fit stand in one, and it has the key of each row that has them.
use Rattle.std.proofs.Common.{◌≡◌, ◌⊎◌, inl, inr, ⊎_elim, ℕ, zero, suc, ◌+◌, ◌<◌, ◌≤◌, Bool, true, false, List, [], ◌∷◌, length, Option, Some, None, refl, sym, ap, subst, ◌∙◌, arith}
use Rattle.std.proofs.lemmas.Str.{IsUtf8-nil}
use Rattle.std.proofs.lemmas.Bool.{lt-ltb, le-ltb, eqb-true, eq-eqb}
use Rattle.std.specs.Prelude.{IsTrue, ◌↔◌, ◌==◌, slice_get, if◌then◌else◌}
use Rattle.std.specs.Option.{unwrap_or}
use Rattle.std.specs.List.{Contains, cons_option}
use Rattle.txn_machine.proofs.Basics.{contains_none}
use Rattle.txn_machine.proofs.Holding.{contains_here, contains_next, by_contains}
use Rattle.iv_types.specs.declared.value.Kind.{Kind}
use Rattle.iv_types.specs.declared.value.Kind.TheVariants.{Int, Huge, Text}
use Rattle.iv_types.specs.declared.value.Value.{Value}
use Rattle.iv_types.specs.declared.catalog.TableDef.{TableDef}
use Rattle.iv_types.specs.Encoding.{Fits, FitAll, kinds_of, key_bytes}
use Rattle.iv_meaning.specs.Schema.{items_at, key_kinds}
use Rattle.iv_meaning.specs.Database.{key_of}
use Rattle.iv_types.proofs.Fitting.{text_so}
use Rattle.row_codec.proofs.Columns.{fit_lengths}
use Rattle.row_codec.proofs.Formats.{one_spelling}
use Rattle.row_codec.proofs.KeyFormat.{key_format}
use Rattle.table_store.proofs.IndexKeys.{items_fit}
use Rattle.txn_log.specs.Fitting.{IsKeyOf}
use Rattle.record_reading.specs.Completed.{blank, value_among, filled_from, completed}

-- ---- places

-- a place with an item
record IsInside {X : Type 0} (xs : List X) (place : ℕ) : Type 0 where
  item : X
  is : slice_get xs place ≡ Some item
  below : place < length xs

-- a place with none
record IsBeyond {X : Type 0} (xs : List X) (place : ℕ) : Type 0 where
  is : slice_get xs place ≡ None
  behind : length xs ≤ place

either : {X : Type 0} (xs : List X) (place : ℕ) → IsInside xs place ⊎ IsBeyond xs place
either [] place = inr (record { is = refl; behind = omega arith })
either (x ∷ xs) zero = inl (record { item = x; is = refl; below = omega arith })
either {X} (x ∷ xs) (suc place) = ⊎_elim
    (λ (h : IsInside xs place). let b = h.below in inl (record { item = h.item; is = h.is; below = omega (arith, b) }))
    (λ (h : IsBeyond xs place). let b = h.behind in inr (record { is = h.is; behind = omega (arith, b) }))
    (either xs place)

same_item : {X : Type 0} (x y : X) → Some x ≡ Some y → x ≡ y
same_item x y e = cc

-- ---- values of columns

-- what the place of a column leads to
abbrev at : ℕ → ℕ → List ℕ → List Value → ℕ → Bool → Option Value
at columns place places values column b =
    if b then elim values [
      | [] ↦ None
      | value ∷ others ↦ if place == column then Some value else value_among columns places others column
    ]
    else value_among columns places values column

one_kind : (ks : List Kind) (k l : Kind) (v : Value) (p q : ℕ) → slice_get ks p ≡ Some k → slice_get ks q ≡ Some l → p ≡ q → Fits k v → Fits l v
one_kind ks k l v p q is at e f = subst (λ (j : Kind). Fits j v) (same_item k l (sym is ∙ ap (slice_get ks) e ∙ at)) f

-- a value that a column has among those of some places fits it
module _ (ks : List Kind) (column : ℕ) (k : Kind) (is : slice_get ks column ≡ Some k) where
  at_value : (place : ℕ) (places : List ℕ) (h : IsInside ks place) (values : List Value) → FitAll (h.item ∷ items_at ks places) values
      → ((others : List Value) → FitAll (items_at ks places) others → (v : Value) → value_among (length ks) places others column ≡ Some v → Fits k v)
      → (v : Value) → (b : Bool) → (place == column) ≡ b
      → elim values [ [] ↦ None | value ∷ others ↦ if b then Some value else value_among (length ks) places others column ] ≡ Some v → Fits k v
  at_value place places h [] f rest v b same e = absurd f
  at_value place places h (value ∷ others) f rest v true same e =
      one_kind ks h.item k v place column h.is is (eqb-true place column same) (subst (λ (w : Value). Fits h.item w) (same_item value v e) f.0)
  at_value place places h (value ∷ others) f rest v false same e = rest others f.1 v e

  value_fits : (places : List ℕ) (values : List Value) → FitAll (items_at ks places) values
      → (v : Value) → value_among (length ks) places values column ≡ Some v → Fits k v
  value_fits [] values f v e = absurd (cc)
  value_fits (place ∷ places) values f v e = ⊎_elim
      (λ (h : IsInside ks place). at_value place places h values (subst (λ (o : Option Kind). FitAll (cons_option o (items_at ks places)) values) h.is f)
      (λ others g w d. value_fits places others g w d) v (place == column) refl
      (subst (λ (b : Bool). at (length ks) place places values column b ≡ Some v) (lt-ltb place (length ks) h.below) e))
      (λ (h : IsBeyond ks place). value_fits places values (subst (λ (o : Option Kind). FitAll (cons_option o (items_at ks places)) values) h.is f) v
      (subst (λ (b : Bool). at (length ks) place places values column b ≡ Some v) (le-ltb place (length ks) h.behind) e))
      (either ks place)

-- ---- a row that has them

-- among the values of a row at some places a column has its own
module _ (row : List Value) (column : ℕ) (v : Value) (is : slice_get row column ≡ Some v) where
  own_first : (place w : _) (rest : Option Value) → slice_get row place ≡ Some w → (b : Bool) → (place == column) ≡ b → (b ≡ false → rest ≡ Some v) → (if b then Some w else rest) ≡ Some v
  own_first place w rest at true same other = sym at ∙ (ap (slice_get row) (eqb-true place column same) ∙ is)
  own_first place w rest at false same other = other refl

  own_value : (places : List ℕ) → Contains places column → value_among (length row) places (items_at row places) column ≡ Some v
  own_value [] c = absurd (contains_none column c)
  own_value (place ∷ places) c = ⊎_elim
      (λ (h : IsInside row place).
      rw (lt-ltb place (length row) h.below, h.is)
      (own_first place h.item (value_among (length row) places (items_at row places) column) h.is (place == column) refl
      (λ other. own_value places (by_contains place places column c (λ same. absurd (let wrong : true ≡ false = sym (eq-eqb place column same) ∙ other in cc)) (λ d. d)))))
      (λ (h : IsBeyond row place).
      rw (le-ltb place (length row) h.behind, h.is)
      (own_value places (by_contains place places column c (λ same. absurd (let wrong : Some v ≡ None = sym is ∙ (ap (slice_get row) (sym same) ∙ h.is) in cc)) (λ d. d))))
      (either row place)

-- ---- a row that is filled

blank_fits : (k : Kind) → Fits k (blank k)
blank_fits Int = refl
blank_fits Huge = refl
blank_fits Text = text_so [] (omega arith) IsUtf8-nil

filled_fits : (f : ℕ → Option Value) (ks : List Kind) (n : ℕ) → ((column : ℕ) (k : Kind) → slice_get ks column ≡ Some k → (v : Value) → f (n + column) ≡ Some v → Fits k v) → FitAll ks (filled_from f n ks)
filled_fits f [] n h = tt
filled_fits f (k ∷ ks) n h = (
  by (f n) refl,
  filled_fits f ks (suc n) (λ column j is v e. h (suc column) j is v (ap f (omega arith) ∙ e)),
)
  where
    by : (o : Option Value) → f n ≡ o → Fits k (unwrap_or o (blank k))
    by None e = blank_fits k
    by (Some v) e = h 0 k refl v (ap f (omega arith) ∙ e)

filled_get : (f : ℕ → Option Value) (ks : List Kind) (n column : ℕ) (k : Kind) → slice_get ks column ≡ Some k → slice_get (filled_from f n ks) column ≡ Some (unwrap_or (f (n + column)) (blank k))
filled_get f [] n column k is = absurd (cc)
filled_get f (j ∷ ks) n zero k is = ap (λ (m : ℕ). Some (unwrap_or (f m) (blank j))) (omega arith) ∙ ap (λ (i : Kind). Some (unwrap_or (f (n + 0)) (blank i))) (same_item j k is)
filled_get f (j ∷ ks) n (suc column) k is = filled_get f ks (suc n) column k is ∙ ap (λ (m : ℕ). Some (unwrap_or (f m) (blank k))) (omega arith)

completed_fits : (ks : List Kind) (places : List ℕ) (values : List Value) → FitAll (items_at ks places) values → FitAll ks (completed ks places values)
completed_fits ks places values f =
    filled_fits (value_among (length ks) places values) ks 0 (λ column k is v e. value_fits ks column k is places values f v (ap (value_among (length ks) places values) (omega arith) ∙ e))

-- the items of two lists at some places, where they have the same ones at each
same_items : {X : Type 0} (xs ys : List X) (places : List ℕ) → ((place : ℕ) → Contains places place → slice_get xs place ≡ slice_get ys place) → items_at xs places ≡ items_at ys places
same_items xs ys [] h = refl
same_items xs ys (place ∷ places) h =
    ap (λ o. cons_option o (items_at xs places)) (h place (contains_here place places))
    ∙ ap (cons_option (slice_get ys place)) (same_items xs ys places (λ p c. h p (contains_next place places p c)))

none_behind : {X : Type 0} (xs : List X) (place : ℕ) → length xs ≤ place → slice_get xs place ≡ None
none_behind xs place behind = ⊎_elim (λ (h : IsInside xs place). absurd (let b = h.below in omega (arith, b, behind))) (λ (h : IsBeyond xs place). h.is) (either xs place)

some_below : {X : Type 0} (xs : List X) (place : ℕ) → place < length xs → IsInside xs place
some_below xs place below = ⊎_elim (λ (h : IsInside xs place). h) (λ (h : IsBeyond xs place). absurd (let b = h.behind in omega (arith, b, below))) (either xs place)

module _ (ks : List Kind) (places : List ℕ) (row : List Value) (fits : FitAll ks row) where
  abbrev filled : List Value
  filled = completed ks places (items_at row places)

  own_item : (column : ℕ) → Contains places column → slice_get filled column ≡ slice_get row column
  own_item column c =
      let many : length ks ≡ length row = fit_lengths ks row fits in
      let more : length ks ≡ length filled = fit_lengths ks filled (completed_fits ks places (items_at row places) (items_fit ks row places fits)) in
      ⊎_elim
      (λ (h : IsInside ks column).
      let below = h.below in
      let own : IsInside row column = some_below row column (omega (arith, below, many)) in
      let found : value_among (length ks) places (items_at row places) (0 + column) ≡ Some own.item =
      ap (value_among (length ks) places (items_at row places)) (omega arith)
      ∙ (ap (λ n. value_among n places (items_at row places) column) many ∙ own_value row column own.item own.is places c) in
      filled_get (value_among (length ks) places (items_at row places)) ks 0 column h.item h.is ∙ (ap (λ o. Some (unwrap_or o (blank h.item))) found ∙ sym own.is))
      (λ (h : IsBeyond ks column).
      let behind = h.behind in
      none_behind filled column (omega (arith, behind, more)) ∙ sym (none_behind row column (omega (arith, behind, many))))
      (either ks column)

  -- where these are the values of a row, it has them at these places
  completed_items : items_at filled places ≡ items_at row places
  completed_items = same_items filled row places own_item

-- ---- keys of a table

module _ (t : TableDef) (kinds : List Kind) (places : List ℕ) (values row : List Value) (kinds_are : kinds ≡ kinds_of t) (places_are : places ≡ t.primary)
    (fit : FitAll (key_kinds t) values) (row_is : row ≡ completed kinds places values) where
  whole : row ≡ completed (kinds_of t) t.primary values
  whole = row_is ∙ (λ i. completed (kinds_are i) (places_are i) values)

  pub fits_completed : FitAll (kinds_of t) row
  fits_completed = subst (FitAll (kinds_of t)) (sym whole) (completed_fits (kinds_of t) t.primary values fit)

  -- it is the key of this row or of none
  pub key_completed : (key : List ℕ) → key ≡ key_bytes (key_kinds t) values → (b : Bool) → (IsTrue b ↔ (key ≡ key_of t row)) → IsTrue b ↔ IsKeyOf t key
  key_completed key key_is b h = (
    (λ yes. (row, fits_completed, h.0 yes)),
    (λ k.
        let r : List Value = k.0 in
        let own : values ≡ items_at r t.primary = one_spelling key_format (key_kinds t) values (items_at r t.primary) fit (items_fit (kinds_of t) r t.primary k.1) (sym key_is ∙ k.2) in
        let items : items_at row t.primary ≡ items_at r t.primary =
        ap (λ (x : List Value). items_at x t.primary) (whole ∙ ap (completed (kinds_of t) t.primary) own) ∙ completed_items (kinds_of t) t.primary r k.1 in
        h.1 (k.2 ∙ ap (key_bytes (key_kinds t)) (sym items))),
  )

-- bytes that are no values' are no key
pub no_key : (t : TableDef) (kinds : List Kind) (key : List ℕ) → kinds ≡ key_kinds t → ((values : List Value) → FitAll kinds values → key ≡ key_bytes kinds values → ⊥) → IsTrue false ↔ IsKeyOf t key
no_key t kinds key are none = (
  (λ yes. absurd (let wrong : false ≡ true = yes in cc)),
  (λ k. absurd (none (items_at k.0 t.primary)
      (subst (λ (ks : List Kind). FitAll ks (items_at k.0 t.primary)) (sym are) (items_fit (kinds_of t) k.0 t.primary k.1))
      (k.2 ∙ ap (λ (ks : List Kind). key_bytes ks (items_at k.0 t.primary)) (sym are)))),
)
