-- What conditions that are not false say of the columns of a row.
use Rattle.std.specs.Prelude.{◌≡◌, ℕ, zero, suc, ◌<◌, ◌==◌, ◌&&◌, nat_lt, not, Bool, true, false, cond, List, [], ◌∷◌, ◌++◌, length, slice_get, Option, Some, None, if◌then◌else◌}
use Rattle.std.specs.List.{AllByRecursion, flat_map, list_all}
use Rattle.std.specs.Option.{option_and_then, option_map_or, option_to_list}
use mathlib.Core.Path.{refl, sym, ap, subst, ◌∙◌}
use Rattle.std.proofs.Common.{arith, eqb-true, ltb-true, lt-ltb}
use Rattle.std.specs.declared.cmp.Ordering.{Ordering}
use Rattle.std.specs.declared.cmp.Ordering.TheVariants.{Less, Equal, Greater}
use Rattle.std.specs.Ordering.{int_cmp, nat_cmp, is_eq, ordering_reverse}
use Rattle.std.specs.Cmp.{int_cmp_total}
use Rattle.std.specs.Cmp.Lexicographic.{slice_cmp, nat_list_cmp_total}
use Rattle.iv_types.specs.declared.value.Kind.{Kind}
use Rattle.iv_types.specs.declared.value.Kind.TheVariants.{Int, Huge, Text}
use Rattle.iv_types.specs.declared.value.Value.{Value}
use Rattle.iv_types.specs.declared.value.Value.TheVariants.{Number, Word}
use Rattle.iv_types.specs.declared.expression.Op.{Op}
use Rattle.iv_types.specs.declared.expression.Op.TheVariants as op
use Rattle.iv_types.specs.declared.expression.ColumnAt.{ColumnAt}
use Rattle.iv_types.specs.Syntax as s
use Rattle.iv_types.specs.Syntax.{Tree}
use Rattle.iv_types.specs.Encoding.{Fits, FitAll, value_cmp, fits}
use Rattle.iv_types.proofs.Orders.{value_cmp_exact}
use Rattle.iv_meaning.specs.Database.{Row}
use Rattle.iv_meaning.specs.Query.{Combination}
use Rattle.iv_meaning.specs.Values.{Outcome, number, word, truth, refused, compared, holds, combined, is_false, meaning, outcome_of, value_at, lies_outside}
use Rattle.iv_meaning.specs.Shape.{same_kind, both_kinds}
use Rattle.iv_meaning.specs.Schema.{kind_at}
use Rattle.iv_meaning.specs.Plan.{Equal as TermEqual, literal, column, Range, Term, equals, ranges, ColumnTerm, turned, literal_of, against, column_of, earlier_of, side_terms, term_terms, equal_value, lies_within}
use Rattle.query_laws.proofs.Each.{each_append}
use Rattle.iv_meaning.proofs.RangeLemmas.{seen, seen_is}
use Rattle.iv_types.proofs.Fitting.{first_true as first, second_true as second}
use Rattle.query_laws.proofs.Fitting.{IsOf, AreOf, inside_fits, Column, inside}

-- ---- rows that fit the relations' kinds

abbrev pub FitRows : List (List Kind) → Combination → Type 0
FitRows [] [] = Unit {0}
FitRows (ks ∷ kinds) (row ∷ rows) = FitAll ks row × FitRows kinds rows
FitRows _ _ = ⊥

-- rows of relations: those of a view may have sums outside the HUGE range
abbrev pub RowsAreOf : List (List Kind) → Combination → Type 0
RowsAreOf [] [] = Unit {0}
RowsAreOf (ks ∷ kinds) (row ∷ rows) = AreOf ks row × RowsAreOf kinds rows
RowsAreOf _ _ = ⊥

pub rows_lengths : (kinds : List (List Kind)) (rows : Combination) → RowsAreOf kinds rows → length rows ≡ length kinds
rows_lengths [] [] f = refl
rows_lengths [] (row ∷ rows) f = absurd f
rows_lengths (ks ∷ kinds) [] f = absurd f
rows_lengths (ks ∷ kinds) (row ∷ rows) f = ap suc (rows_lengths kinds rows f.1)

pub rows_push : (kinds : List (List Kind)) (rows : Combination) (ks : List Kind) (row : Row) → RowsAreOf kinds rows → AreOf ks row → RowsAreOf (kinds ++ ks ∷ []) (rows ++ row ∷ [])
rows_push [] [] ks row f g = (g, tt)
rows_push [] (r ∷ rows) ks row f g = absurd f
rows_push (js ∷ kinds) [] ks row f g = absurd f
rows_push (js ∷ kinds) (r ∷ rows) ks row f g = (f.0, rows_push kinds rows ks row f.1 g)

value_in : (ks : List Kind) (row : Row) (place : ℕ) (kind : Kind) → AreOf ks row → slice_get ks place ≡ Some kind → (x : Value) × (slice_get row place ≡ Some x) × IsOf kind x
value_in [] row place kind f e = absurd (cc)
value_in (k ∷ ks) [] place kind f e = absurd f
value_in (k ∷ ks) (v ∷ row) zero kind f e = (v, refl, subst (λ l. IsOf l v) (some_same k kind e) f.0)
  where
    some_same : (a b : Kind) → Some a ≡ Some b → a ≡ b
    some_same a b e = cc
value_in (k ∷ ks) (v ∷ row) (suc place) kind f e = value_in ks row place kind f.1 e

-- the value of an earlier column
pub earlier_value : (kinds more : List (List Kind)) (rows : Combination) (source place : ℕ) (kind : Kind) → RowsAreOf kinds rows → source < length kinds
    → option_and_then (λ ks. slice_get ks place) (slice_get (kinds ++ more) source) ≡ Some kind
    → (x : Value) × (option_and_then (λ row. slice_get row place) (slice_get rows source) ≡ Some x) × IsOf kind x
earlier_value [] more rows source place kind f lt e = absurd (omega arith)
earlier_value (ks ∷ kinds) more [] source place kind f lt e = absurd f
earlier_value (ks ∷ kinds) more (row ∷ rows) zero place kind f lt e = value_in ks row place kind f.0 e
earlier_value (ks ∷ kinds) more (row ∷ rows) (suc source) place kind f lt e = earlier_value kinds more rows source place kind f.1 (omega arith) e

pub get_front : {X : Type 0} (xs ys : List X) (i : ℕ) → i < length xs → slice_get (xs ++ ys) i ≡ slice_get xs i
get_front [] ys i lt = absurd (omega arith)
get_front (x ∷ xs) ys zero lt = refl
get_front (x ∷ xs) ys (suc i) lt = get_front xs ys i (omega arith)

pub get_behind : {X : Type 0} (xs ys : List X) (x : X) → slice_get (xs ++ x ∷ ys) (length xs) ≡ Some x
get_behind [] ys x = refl
get_behind (y ∷ xs) ys x = get_behind xs ys x

-- ---- comparisons of values that fit one kind

compared_fitting : (kind : Kind) (x v : Value) (test : Ordering → Bool) → Fits kind x → Fits kind v → compared test (seen x) (seen v) ≡ truth (test (value_cmp x v))
compared_fitting Int (Number m) (Number n) test f g = refl
compared_fitting Huge (Number m) (Number n) test f g = refl
compared_fitting Text (Word a) (Word b) test f g = refl
compared_fitting Int (Word a) v test f g = absurd (cc)
compared_fitting Int (Number m) (Word b) test f g = absurd (cc)
compared_fitting Huge (Word a) v test f g = absurd (cc)
compared_fitting Huge (Number m) (Word b) test f g = absurd (cc)
compared_fitting Text (Number m) v test f g = absurd (cc)
compared_fitting Text (Word a) (Number n) test f g = absurd (cc)

not_false : (b : Bool) → not b ≡ false → b ≡ true
not_false true e = refl
not_false false e = absurd (cc)

pub equal_is : (o : Ordering) → is_eq o ≡ true → o ≡ Equal
equal_is Less e = absurd (cc)
equal_is Equal e = refl
equal_is Greater e = absurd (cc)

abbrev compares : Op → Bool
compares op.Equal = true
compares op.NotEqual = true
compares op.Less = true
compares op.AtMost = true
compares op.Greater = true
compares op.AtLeast = true
compares _ = false

combined_compares : (o : Op) (a b : Outcome) → compares o ≡ true → combined o a b ≡ compared (holds o) a b
combined_compares op.Or a b e = absurd (cc)
combined_compares op.And a b e = absurd (cc)
combined_compares op.Add a b e = absurd (cc)
combined_compares op.Subtract a b e = absurd (cc)
combined_compares op.Multiply a b e = absurd (cc)
combined_compares op.Equal a b e = refl
combined_compares op.NotEqual a b e = refl
combined_compares op.Less a b e = refl
combined_compares op.AtMost a b e = refl
combined_compares op.Greater a b e = refl
combined_compares op.AtLeast a b e = refl

compares_turned : (o : Op) → compares (turned o) ≡ compares o
compares_turned op.Or = refl
compares_turned op.And = refl
compares_turned op.Add = refl
compares_turned op.Subtract = refl
compares_turned op.Multiply = refl
compares_turned op.Equal = refl
compares_turned op.NotEqual = refl
compares_turned op.Less = refl
compares_turned op.AtMost = refl
compares_turned op.Greater = refl
compares_turned op.AtLeast = refl

turned_holds : (o : Op) (q : Ordering) → holds (turned o) (ordering_reverse q) ≡ holds o q
turned_holds op.Or q = refl
turned_holds op.And q = refl
turned_holds op.Add q = refl
turned_holds op.Subtract q = refl
turned_holds op.Multiply q = refl
turned_holds op.Equal Less = refl
turned_holds op.Equal Equal = refl
turned_holds op.Equal Greater = refl
turned_holds op.NotEqual Less = refl
turned_holds op.NotEqual Equal = refl
turned_holds op.NotEqual Greater = refl
turned_holds op.Less Less = refl
turned_holds op.Less Equal = refl
turned_holds op.Less Greater = refl
turned_holds op.AtMost Less = refl
turned_holds op.AtMost Equal = refl
turned_holds op.AtMost Greater = refl
turned_holds op.Greater Less = refl
turned_holds op.Greater Equal = refl
turned_holds op.Greater Greater = refl
turned_holds op.AtLeast Less = refl
turned_holds op.AtLeast Equal = refl
turned_holds op.AtLeast Greater = refl

compared_turned : (o : Op) (a b : Outcome) → compared (holds (turned o)) b a ≡ compared (holds o) a b
compared_turned o (number a) (number b) = ap truth (ap (holds (turned o)) (int_cmp_total.antisymm b a) ∙ turned_holds o (int_cmp a b))
compared_turned o (word a) (word b) = ap truth (ap (holds (turned o)) (nat_list_cmp_total.antisymm b a) ∙ turned_holds o (slice_cmp nat_cmp a b))
compared_turned o (number a) (word b) = refl
compared_turned o (number a) (truth b) = refl
compared_turned o (number a) refused = refl
compared_turned o (word a) (number b) = refl
compared_turned o (word a) (truth b) = refl
compared_turned o (word a) refused = refl
compared_turned o (truth a) (number b) = refl
compared_turned o (truth a) (word b) = refl
compared_turned o (truth a) (truth b) = refl
compared_turned o (truth a) refused = refl
compared_turned o refused (number b) = refl
compared_turned o refused (word b) = refl
compared_turned o refused (truth b) = refl
compared_turned o refused refused = refl

-- ---- lists that are made of options

each_some : {X Y : Type 0} (P : Y → Type 0) (f : X → List Y) (o : Option X) → ((x : X) → o ≡ Some x → AllByRecursion P (f x)) → AllByRecursion P (flat_map f (option_to_list o))
each_some P f None h = tt
each_some P f (Some x) h = each_append P (f x) [] (h x refl) tt

each_if : {X : Type 0} (P : X → Type 0) (b : Bool) (x : X) → (b ≡ true → P x) → AllByRecursion P (cond b (x ∷ []) [])
each_if P true x h = (h refl, tt)
each_if P false x h = tt

-- ---- the terms

-- The relations before have these kinds and rows, and the relation has these kinds and this row.
module _ (before : List (List Kind)) (ks : List Kind) (after : List (List Kind)) (rows : Combination) (row : Row) (before_are : RowsAreOf before rows) where
  abbrev pub kinds : List (List Kind)
  kinds = before ++ ks ∷ after

  abbrev pub source : ℕ
  source = length rows

  abbrev pub extended_rows : Combination
  extended_rows = rows ++ row ∷ []

  -- the column has the value of an equality
  abbrev pub IsEqualTo : ℕ → TermEqual → Type 0
  IsEqualTo place e = (x : Value) × (slice_get row place ≡ Some x) × (equal_value rows e ≡ Some x)

  -- the column has a value as a range asks for
  abbrev pub IsWithin : ℕ → Range → Type 0
  IsWithin place r = (c : Column ks row place) × Fits c.kind r.value × (holds r.op (value_cmp c.value r.value) ≡ true)

  -- the value of an equality does not lie outside the HUGE range
  abbrev pub IsInside : TermEqual → Type 0
  IsInside e = (x : Value) → equal_value rows e ≡ Some x → lies_outside x ≡ false

  -- of a column that fits: a term of which a value lies outside the range says nothing
  abbrev pub IsSaidOf : ℕ → Term → Type 0
  IsSaidOf place (equals e) = Column ks row place → IsInside e → IsEqualTo place e
  IsSaidOf place (ranges r) = Column ks row place → IsWithin place r

  abbrev pub IsSaid : ColumnTerm → Type 0
  IsSaid t = IsSaidOf t.column t.term

  own_kinds : slice_get kinds source ≡ Some ks
  own_kinds = ap (slice_get kinds) (rows_lengths before rows before_are) ∙ get_behind before after ks

  own_kind : (place : ℕ) (kind : Kind) → kind_at kinds (record { source = source; column = place }) ≡ Some kind → slice_get ks place ≡ Some kind
  own_kind place kind e = sym (ap (option_and_then (λ (l : List Kind). slice_get l place)) own_kinds) ∙ e

  own_row : slice_get extended_rows source ≡ Some row
  own_row = get_behind rows [] row

  within_own : nat_lt source (length extended_rows) ≡ true
  within_own = lt-ltb source (length extended_rows) (inside extended_rows source row own_row)

  -- a column of the relation
  own_column : (e : Tree) (place : ℕ) → column_of source e ≡ Some place → (meaning e extended_rows ≡ outcome_of (slice_get row place)) × (lies_within (length extended_rows) e ≡ true)
  own_column (s.at p) place h =
      let same : (p.source ≡ source) × (p.column ≡ place) = test_is (p.source == source) refl h in (
        ap outcome_of (ap (λ (i : ℕ). option_and_then (λ (r : Row). slice_get r p.column) (slice_get extended_rows i)) same.0
            ∙ (ap (option_and_then (λ (r : Row). slice_get r p.column)) own_row ∙ ap (slice_get row) same.1)),
        ap (λ (i : ℕ). nat_lt i (length extended_rows)) same.0 ∙ within_own,
      )
    where
      test_is : (b : Bool) → (p.source == source) ≡ b → cond b (Some p.column) None ≡ Some place → (p.source ≡ source) × (p.column ≡ place)
      test_is true e h = (eqb-true p.source source e, cc)
      test_is false e h = absurd (cc)
  own_column (s.number n) place h = absurd (cc)
  own_column (s.word w) place h = absurd (cc)
  own_column (s.named r) place h = absurd (cc)
  own_column (s.not e) place h = absurd (cc)
  own_column (s.minus e) place h = absurd (cc)
  own_column (s.pair o a b) place h = absurd (cc)

  literal_meaning : (e : Tree) (v : Value) → literal_of e ≡ Some v → (meaning e extended_rows ≡ seen v) × (lies_within (length extended_rows) e ≡ true)
  literal_meaning (s.number n) v h = (ap (λ o. option_map_or seen o refused) h, refl)
  literal_meaning (s.word w) v h = (ap (λ o. option_map_or seen o refused) h, refl)
  literal_meaning (s.named r) v h = absurd (cc)
  literal_meaning (s.at p) v h = absurd (cc)
  literal_meaning (s.not e) v h = absurd (cc)
  literal_meaning (s.minus e) v h = absurd (cc)
  literal_meaning (s.pair o a b) v h = absurd (cc)

  earlier_meaning : (e : Tree) (p : ColumnAt) → earlier_of source e ≡ Some p → (p.source < source) × (meaning e extended_rows ≡ outcome_of (value_at rows p)) × (lies_within (length extended_rows) e ≡ true)
  earlier_meaning (s.at q) p h = test_is (nat_lt q.source source) refl h
    where
      test_is : (b : Bool) → nat_lt q.source source ≡ b → cond b (Some q) None ≡ Some p → (p.source < source) × (meaning (s.at q) extended_rows ≡ outcome_of (value_at rows p)) × (nat_lt q.source (length extended_rows) ≡ true)
      test_is true e h =
          let same : q ≡ p = cc in
          let lt : q.source < source = ltb-true q.source source e in
          let long : source < length extended_rows = inside extended_rows source row own_row in (
            subst (λ (c : ColumnAt). c.source < source) same lt,
            ap (λ o. outcome_of (option_and_then (λ (r : Row). slice_get r q.column) o)) (get_front rows (row ∷ []) q.source lt) ∙ ap (λ (c : ColumnAt). outcome_of (value_at rows c)) same,
            lt-ltb q.source (length extended_rows) (omega arith),
          )
      test_is false e h = absurd (cc)
  earlier_meaning (s.number n) p h = absurd (cc)
  earlier_meaning (s.word w) p h = absurd (cc)
  earlier_meaning (s.named r) p h = absurd (cc)
  earlier_meaning (s.not e) p h = absurd (cc)
  earlier_meaning (s.minus e) p h = absurd (cc)
  earlier_meaning (s.pair o a b) p h = absurd (cc)

  -- a comparison that is not false
  abbrev pub IsNotFalse : Op → Tree → Tree → Type 0
  IsNotFalse o a b = compares o ≡ true → lies_within (length extended_rows) a && lies_within (length extended_rows) b ≡ true → is_false (compared (holds o) (meaning a extended_rows) (meaning b extended_rows)) ≡ false

  both_true : (a b : Bool) → a ≡ true → b ≡ true → a && b ≡ true
  both_true true b p q = q
  both_true false b p q = p

  holds_of : (o : Op) (a b : Tree) (kind : Kind) (x v : Value) → compares o ≡ true → IsNotFalse o a b → (meaning a extended_rows ≡ seen x) → (lies_within (length extended_rows) a ≡ true)
      → (meaning b extended_rows ≡ seen v) → (lies_within (length extended_rows) b ≡ true) → Fits kind x → Fits kind v → holds o (value_cmp x v) ≡ true
  holds_of o a b kind x v is h ma wa mb wb fx fv =
      let test : compared (holds o) (meaning a extended_rows) (meaning b extended_rows) ≡ truth (holds o (value_cmp x v)) =
      ap (λ m. compared (holds o) m (meaning b extended_rows)) ma ∙ (ap (compared (holds o) (seen x)) mb ∙ compared_fitting kind x v (holds o) fx fv) in
      not_false (holds o (value_cmp x v)) (sym (ap is_false test) ∙ h is (both_true _ _ wa wb))

  -- the value of the column, as an expression sees it
  own_seen : (a : Tree) (place : ℕ) (c : Column ks row place) → (meaning a extended_rows ≡ outcome_of (slice_get row place)) → meaning a extended_rows ≡ seen c.value
  own_seen a place c ma = ma ∙ (ap outcome_of c.value_is ∙ seen_is c.kind c.value c.fits)

  kind_of : (place : ℕ) (kind : Kind) → slice_get ks place ≡ Some kind → (c : Column ks row place) → kind ≡ c.kind
  kind_of place kind is c = let same : Some kind ≡ Some c.kind = sym is ∙ c.kind_is in cc

  fitting_at : (place : ℕ) (kind : Kind) → slice_get ks place ≡ Some kind → (v : Value) → fits kind v ≡ true → (c : Column ks row place) → Fits c.kind v
  fitting_at place kind is v f c = subst (λ k. Fits k v) (kind_of place kind is c) f

  against_holds : (o : Op) (a b : Tree) (place : ℕ) (v : Value) → IsNotFalse o a b → (meaning a extended_rows ≡ outcome_of (slice_get row place)) → (lies_within (length extended_rows) a ≡ true)
      → literal_of b ≡ Some v → compares o ≡ true → (c : Column ks row place) → Fits c.kind v → holds o (value_cmp c.value v) ≡ true
  against_holds o a b place v h ma wa l is c fv =
      let m = literal_meaning b v l in
      holds_of o a b c.kind c.value v is h (own_seen a place c ma) wa m.0 m.1 c.fits fv

  against_said : (o : Op) (a b : Tree) (place : ℕ) (kind : Kind) → slice_get ks place ≡ Some kind → (v : Value) → IsNotFalse o a b → (meaning a extended_rows ≡ outcome_of (slice_get row place)) → (lies_within (length extended_rows) a ≡ true)
      → literal_of b ≡ Some v → AllByRecursion IsSaid (against kind o place v)
  against_said op.Equal a b place kind is v h ma wa l = each_if IsSaid (fits kind v) (record { column = place; term = equals (literal v) })
      (λ f c inside_v.
      let same : c.value ≡ v = value_cmp_exact c.value v (equal_is _ (against_holds op.Equal a b place v h ma wa l refl c (fitting_at place kind is v f c))) in
      (c.value, c.value_is, ap Some (sym same)))
  against_said op.Less a b place kind is v h ma wa l = each_if IsSaid (fits kind v) (record { column = place; term = ranges (record { op = op.Less; value = v }) })
      (λ f c. let fv = fitting_at place kind is v f c in (c, fv, against_holds op.Less a b place v h ma wa l refl c fv))
  against_said op.AtMost a b place kind is v h ma wa l = each_if IsSaid (fits kind v) (record { column = place; term = ranges (record { op = op.AtMost; value = v }) })
      (λ f c. let fv = fitting_at place kind is v f c in (c, fv, against_holds op.AtMost a b place v h ma wa l refl c fv))
  against_said op.Greater a b place kind is v h ma wa l = each_if IsSaid (fits kind v) (record { column = place; term = ranges (record { op = op.Greater; value = v }) })
      (λ f c. let fv = fitting_at place kind is v f c in (c, fv, against_holds op.Greater a b place v h ma wa l refl c fv))
  against_said op.AtLeast a b place kind is v h ma wa l = each_if IsSaid (fits kind v) (record { column = place; term = ranges (record { op = op.AtLeast; value = v }) })
      (λ f c. let fv = fitting_at place kind is v f c in (c, fv, against_holds op.AtLeast a b place v h ma wa l refl c fv))
  against_said op.Or a b place kind is v h ma wa l = tt
  against_said op.And a b place kind is v h ma wa l = tt
  against_said op.NotEqual a b place kind is v h ma wa l = tt
  against_said op.Add a b place kind is v h ma wa l = tt
  against_said op.Subtract a b place kind is v h ma wa l = tt
  against_said op.Multiply a b place kind is v h ma wa l = tt

  same_kinds : (k l : Kind) → same_kind k l ≡ true → k ≡ l
  same_kinds Int Int e = refl
  same_kinds Huge Huge e = refl
  same_kinds Text Text e = refl
  same_kinds Int Huge e = absurd (cc)
  same_kinds Int Text e = absurd (cc)
  same_kinds Huge Int e = absurd (cc)
  same_kinds Huge Text e = absurd (cc)
  same_kinds Text Int e = absurd (cc)
  same_kinds Text Huge e = absurd (cc)

  one_kind : (k l : Option Kind) → both_kinds k l ≡ true → (kind : Kind) × (k ≡ Some kind) × (l ≡ Some kind)
  one_kind (Some k) (Some l) e = (k, refl, ap Some (sym (same_kinds k l e)))
  one_kind (Some k) None e = absurd (cc)
  one_kind None l e = absurd (cc)

  equal_said : (a b : Tree) (place : ℕ) (p : ColumnAt) → IsNotFalse op.Equal a b → column_of source a ≡ Some place → earlier_of source b ≡ Some p
      → both_kinds (kind_at kinds (record { source = source; column = place })) (kind_at kinds p) ≡ true → IsSaidOf place (equals (column p))
  equal_said a b place p h ca eb same c inside_p =
      let k = one_kind _ _ same in
      let kind_is : k.0 ≡ c.kind = kind_of place k.0 (own_kind place k.0 k.1) c in
      let m = earlier_meaning b p eb in
      let early : p.source < length before = subst (λ (n : ℕ). p.source < n) (rows_lengths before rows before_are) m.0 in
      let other = earlier_value before (ks ∷ after) rows p.source p.column k.0 before_are early k.2 in
      let own = own_column a place ca in
      let fits_other : Fits c.kind other.0 = subst (λ (l : Kind). Fits l other.0) kind_is (inside_fits k.0 other.0 other.2 (inside_p other.0 other.1)) in
      let tied = holds_of op.Equal a b c.kind c.value other.0 refl h (own_seen a place c own.0) own.1 (m.1 ∙ (ap outcome_of other.1 ∙ seen_is c.kind other.0 fits_other)) m.2 c.fits fits_other in
      (c.value, c.value_is, other.1 ∙ ap Some (sym (value_cmp_exact c.value other.0 (equal_is _ tied))))

  -- what is said of a column
  abbrev literal_terms : Op → Tree → ℕ → List ColumnTerm
  literal_terms o b place = flat_map (λ k. flat_map (against k o place) (option_to_list (literal_of b))) (option_to_list (kind_at kinds (record { source = source; column = place })))

  abbrev joined_terms : Tree → ℕ → List ColumnTerm
  joined_terms b place =
      flat_map (λ other. if both_kinds (kind_at kinds (record { source = source; column = place })) (kind_at kinds other) then record { column = place; term = equals (column other) } ∷ [] else []) (option_to_list (earlier_of source b))

  abbrev column_terms : Op → Tree → ℕ → List ColumnTerm
  column_terms o b place = literal_terms o b place ++ elim o [ op.Equal ↦ joined_terms b place | _ ↦ [] ]

  literal_said : (o : Op) (a b : Tree) (place : ℕ) → IsNotFalse o a b → column_of source a ≡ Some place → AllByRecursion IsSaid (literal_terms o b place)
  literal_said o a b place h ca =
      each_some IsSaid (λ k. flat_map (against k o place) (option_to_list (literal_of b))) (kind_at kinds (record { source = source; column = place }))
      (λ kind e. each_some IsSaid (against kind o place) (literal_of b)
      (λ v l. let own = own_column a place ca in against_said o a b place kind (own_kind place kind e) v h own.0 own.1 l))

  joined_said : (o : Op) (a b : Tree) (place : ℕ) → IsNotFalse o a b → column_of source a ≡ Some place → AllByRecursion IsSaid (elim o [ op.Equal ↦ joined_terms b place | _ ↦ [] ])
  joined_said op.Equal a b place h ca =
      each_some IsSaid (λ other. if both_kinds (kind_at kinds (record { source = source; column = place })) (kind_at kinds other) then record { column = place; term = equals (column other) } ∷ [] else []) (earlier_of source b)
      (λ p eb. each_if IsSaid (both_kinds (kind_at kinds (record { source = source; column = place })) (kind_at kinds p)) (record { column = place; term = equals (column p) })
      (λ same. equal_said a b place p h ca eb same))
  joined_said op.Or a b place h ca = tt
  joined_said op.And a b place h ca = tt
  joined_said op.NotEqual a b place h ca = tt
  joined_said op.Less a b place h ca = tt
  joined_said op.AtMost a b place h ca = tt
  joined_said op.Greater a b place h ca = tt
  joined_said op.AtLeast a b place h ca = tt
  joined_said op.Add a b place h ca = tt
  joined_said op.Subtract a b place h ca = tt
  joined_said op.Multiply a b place h ca = tt

  of_column : (f : ℕ → List ColumnTerm) (o : Option ℕ) → ((place : ℕ) → o ≡ Some place → AllByRecursion IsSaid (f place)) → AllByRecursion IsSaid (elim o [ None ↦ [] | Some place ↦ f place ])
  of_column f None h = tt
  of_column f (Some place) h = h place refl

  side_said : (o : Op) (a b : Tree) → IsNotFalse o a b → AllByRecursion IsSaid (side_terms kinds source o a b)
  side_said o a b h = of_column (column_terms o b) (column_of source a)
      (λ place ca. each_append IsSaid (literal_terms o b place) _ (literal_said o a b place h ca) (joined_said o a b place h ca))

  -- a term whose columns lie in the first relations is not false
  abbrev pub GoesOn : Tree → Type 0
  GoesOn e = not (lies_within (length extended_rows) e && is_false (meaning e extended_rows)) ≡ true

  not_true : (a b : Bool) → not (a && b) ≡ true → a ≡ true → b ≡ false
  not_true true true h e = absurd (cc)
  not_true true false h e = refl
  not_true false b h e = absurd (cc)

  swapped : (a b : Bool) → a && b ≡ true → b && a ≡ true
  swapped true true h = refl
  swapped true false h = absurd (cc)
  swapped false b h = absurd (cc)

  term_said : (e : Tree) → GoesOn e → AllByRecursion IsSaid (term_terms kinds source e)
  term_said (s.number n) h = tt
  term_said (s.word w) h = tt
  term_said (s.named r) h = tt
  term_said (s.at p) h = tt
  term_said (s.not e) h = tt
  term_said (s.minus e) h = tt
  term_said (s.pair o a b) h =
      let as_written : IsNotFalse o a b = λ is w.
      sym (ap is_false (combined_compares o (meaning a extended_rows) (meaning b extended_rows) is)) ∙ not_true (lies_within (length extended_rows) a && lies_within (length extended_rows) b) _ h w in
      let the_other_way : IsNotFalse (turned o) b a = λ is w.
      ap is_false (compared_turned o (meaning a extended_rows) (meaning b extended_rows)) ∙ as_written (sym (compares_turned o) ∙ is) (swapped (lies_within (length extended_rows) b) (lies_within (length extended_rows) a) w) in
      each_append IsSaid (side_terms kinds source o a b) (side_terms kinds source (turned o) b a) (side_said o a b as_written) (side_said (turned o) b a the_other_way)

  pub terms_said : (es : List Tree) → list_all (λ e. not (lies_within (length extended_rows) e && is_false (meaning e extended_rows))) es ≡ true → AllByRecursion IsSaid (flat_map (term_terms kinds source) es)
  terms_said [] h = tt
  terms_said (e ∷ es) h =
      let test : Tree → Bool = λ (e : Tree). not (lies_within (length extended_rows) e && is_false (meaning e extended_rows)) in
      each_append IsSaid (term_terms kinds source e) (flat_map (term_terms kinds source) es)
      (term_said e (first (test e) (list_all test es) h)) (terms_said es (second (test e) (list_all test es) h))
