-- The indexes of a table among the definitions of a catalog.
use Rattle.std.specs.Prelude.{◌≡◌, ◌≢◌, ℕ, zero, suc, ◌+◌, ◌<◌, ◌==◌, true, false, cond, List, [], ◌∷◌, ◌++◌, length, slice_get, Option, Some, None}
use Rattle.std.specs.List.{AllByRecursion, flat_map}
use Rattle.std.proofs.Common.{arith}
use Rattle.std.proofs.lemmas.Bool.Decides.{nat_tests}
use Rattle.std.proofs.lemmas.Bool.{eq-eqb}
use mathlib.Core.Path.{refl, sym, ap, ◌∙◌}
use Rattle.iv_types.specs.declared.catalog.TableDef.{TableDef}
use Rattle.iv_types.specs.declared.catalog.IndexDef.{IndexDef}
use Rattle.iv_types.specs.declared.catalog.Definition.{Definition}
use Rattle.iv_types.specs.declared.catalog.Definition.TheVariants.{Table, Index, View}
use Rattle.iv_types.specs.Definitions.{Definitions, AreNumbered, number_of, numbered}
use Rattle.iv_meaning.specs.Schema.{indexes_of}
use Rattle.iv_meaning.specs.Objects.{schema_of}
use Rattle.table_store.specs.Stored.{as_table, as_index, table_of, IsIndexOf}
use Rattle.table_store.proofs.Rows.{some_same}

pub each_to : {X : Type 0} (P Q : X → Type 0) → ((x : X) → P x → Q x) → (xs : List X) → AllByRecursion P xs → AllByRecursion Q xs
each_to P Q f [] h = tt
each_to P Q f (x ∷ xs) h = (f x h.0, each_to P Q f xs h.1)

pub each_append : {X : Type 0} (P : X → Type 0) (xs ys : List X) → AllByRecursion P xs → AllByRecursion P ys → AllByRecursion P (xs ++ ys)
each_append P [] ys h k = k
each_append P (x ∷ xs) ys h k = (h.0, each_append P xs ys h.1 k)

pub each_first : {X : Type 0} (P : X → Type 0) (xs ys : List X) → AllByRecursion P (xs ++ ys) → AllByRecursion P xs
each_first P [] ys h = tt
each_first P (x ∷ xs) ys h = (h.0, each_first P xs ys h.1)

pub each_last : {X : Type 0} (P : X → Type 0) (xs ys : List X) → AllByRecursion P (xs ++ ys) → AllByRecursion P ys
each_last P [] ys h = h
each_last P (x ∷ xs) ys h = each_last P xs ys h.1

pub each_flat : {X Y : Type 0} (P : X → Type 0) (Q : Y → Type 0) (f : X → List Y) → ((x : X) → P x → AllByRecursion Q (f x)) → (xs : List X) → AllByRecursion P xs → AllByRecursion Q (flat_map f xs)
each_flat P Q f g [] h = tt
each_flat P Q f g (x ∷ xs) h = each_append Q (f x) (flat_map f xs) (g x h.0) (each_flat P Q f g xs h.1)

-- ---- among definitions from a place on

abbrev From : ℕ → Definitions → Type 0
From k ds = (p : ℕ) (d : Definition) → slice_get ds p ≡ Some d → number_of d ≡ suc (k + p)

from_next : (k : ℕ) (d : Definition) (ds : Definitions) → From k (d ∷ ds) → From (suc k) ds
from_next k d ds f p e is = f (suc p) e is ∙ omega arith

-- an index that stands at a place
pub record Stands (ds : Definitions) (n : ℕ) (i : IndexDef) : Type 0 where
  pub at : ℕ
  pub is : slice_get ds at ≡ Some (Index i)
  pub of_table : i.table ≡ n

abbrev listed : Definitions → ℕ → List IndexDef
listed ds n = indexes_of (schema_of ds) n

later : (d : Definition) (ds : Definitions) (n : ℕ) (i : IndexDef) → Stands ds n i → Stands (d ∷ ds) n i
later d ds n i s = record { at = suc s.at; is = s.is; of_table = s.of_table }

each_stands : (ds : Definitions) (n : ℕ) → AllByRecursion (Stands ds n) (listed ds n)
each_stands [] n = tt
each_stands (Table t ∷ ds) n = each_to (Stands ds n) (Stands (Table t ∷ ds) n) (later (Table t) ds n) (listed ds n) (each_stands ds n)
each_stands (View v ∷ ds) n = each_to (Stands ds n) (Stands (View v ∷ ds) n) (later (View v) ds n) (listed ds n) (each_stands ds n)
each_stands (Index i ∷ ds) n =
    let rest : AllByRecursion (Stands (Index i ∷ ds) n) (listed ds n) = each_to (Stands ds n) (Stands (Index i ∷ ds) n) (later (Index i) ds n) (listed ds n) (each_stands ds n) in
    elim (i.table == n) as (λ b. (i.table == n) ≡ b → AllByRecursion (Stands (Index i ∷ ds) n) (cond b (i ∷ listed ds n) (listed ds n))) [
      | true ↦ λ e. let same : i.table ≡ n = grind (arith, nat_tests) in (record { at = 0; is = refl; of_table = same }, rest)
      | false ↦ λ e. rest
    ] refl

above : (k : ℕ) (ds : Definitions) (n : ℕ) → From k ds → AllByRecursion (λ i. k < i.number) (listed ds n)
above k ds n f = each_to (Stands ds n) (λ i. k < i.number) (λ i s. omega (arith, f s.at (Index i) s.is)) (listed ds n) (each_stands ds n)

-- one of a list, and those around it have other numbers
pub record Split (is : List IndexDef) (i : IndexDef) : Type 0 where
  pub before : List IndexDef
  pub after : List IndexDef
  pub whole : is ≡ before ++ i ∷ after
  pub apart_before : AllByRecursion (λ j. j.number ≢ i.number) before
  pub apart_after : AllByRecursion (λ j. j.number ≢ i.number) after

split_more : (is : List IndexDef) (i j : IndexDef) → j.number ≢ i.number → Split is i → Split (j ∷ is) i
split_more is i j ne s = record { before = j ∷ s.before; after = s.after; whole = ap (λ (l : List IndexDef). j ∷ l) s.whole; apart_before = (ne, s.apart_before); apart_after = s.apart_after }

split_at : (k : ℕ) (ds : Definitions) (n : ℕ) (i : IndexDef) (at : ℕ) → From k ds → slice_get ds at ≡ Some (Index i) → i.table ≡ n → Split (listed ds n) i
split_at k [] n i at f is of = absurd (cc)
split_at k (d ∷ ds) n i zero f is of =
    let here : d ≡ Index i = some_same d (Index i) is in
    let number : i.number ≡ suc k = f 0 (Index i) is ∙ omega arith in
    let one : listed (Index i ∷ ds) n ≡ i ∷ listed ds n = ap (λ b. cond b (i ∷ listed ds n) (listed ds n)) (eq-eqb i.table n of) in
    record {
      before = [];
      after = listed ds n;
      whole = ap (λ (x : Definition). listed (x ∷ ds) n) here ∙ one;
      apart_before = tt;
      apart_after = each_to (λ j. suc k < j.number) (λ j. j.number ≢ i.number) (λ j lt e. omega (arith, lt, e, number)) (listed ds n) (above (suc k) ds n (from_next k d ds f));
    }
split_at k (Table t ∷ ds) n i (suc at) f is of = split_at (suc k) ds n i at (from_next k (Table t) ds f) is of
split_at k (View v ∷ ds) n i (suc at) f is of = split_at (suc k) ds n i at (from_next k (View v) ds f) is of
split_at k (Index j ∷ ds) n i (suc at) f is of =
    let rest = split_at (suc k) ds n i at (from_next k (Index j) ds f) is of in
    let first : j.number ≡ suc k = f 0 (Index j) refl ∙ omega arith in
    let number : i.number ≡ suc (k + suc at) = f (suc at) (Index i) is in
    elim (j.table == n) as (λ b. Split (cond b (j ∷ listed ds n) (listed ds n)) i) [
      | true ↦ split_more (listed ds n) i j (λ e. omega (arith, e, first, number)) rest
      | false ↦ rest
    ]

-- no two of them have one number
abbrev pub NumbersApart : List IndexDef → Type 0
NumbersApart [] = Unit {0}
NumbersApart (i ∷ is) = AllByRecursion (λ j. j.number ≢ i.number) is × NumbersApart is

numbers_apart : (k : ℕ) (ds : Definitions) (n : ℕ) → From k ds → NumbersApart (listed ds n)
numbers_apart k [] n f = tt
numbers_apart k (Table t ∷ ds) n f = numbers_apart (suc k) ds n (from_next k (Table t) ds f)
numbers_apart k (View v ∷ ds) n f = numbers_apart (suc k) ds n (from_next k (View v) ds f)
numbers_apart k (Index i ∷ ds) n f =
    let number : i.number ≡ suc k = f 0 (Index i) refl ∙ omega arith in
    elim (i.table == n) as (λ b. NumbersApart (cond b (i ∷ listed ds n) (listed ds n))) [
      | true ↦ (
        each_to (λ j. suc k < j.number) (λ j. j.number ≢ i.number) (λ j lt e. omega (arith, lt, e, number)) (listed ds n) (above (suc k) ds n (from_next k (Index i) ds f)),
        numbers_apart (suc k) ds n (from_next k (Index i) ds f),
      )
      | false ↦ numbers_apart (suc k) ds n (from_next k (Index i) ds f)
    ]

-- ---- among all definitions

from_start : (ds : Definitions) → AreNumbered ds → From 0 ds
from_start ds h p d is = h (suc p) d is ∙ omega arith

index_at : (ds : Definitions) (n : ℕ) (i : IndexDef) → as_index (numbered ds n) ≡ Some i → numbered ds n ≡ Some (Index i)
index_at ds n i is = elim (numbered ds n) as (λ o. as_index o ≡ Some i → o ≡ Some (Index i)) [
  | None ↦ λ e. absurd (cc)
  | Some d ↦ elim d as (λ x. as_index (Some x) ≡ Some i → Some x ≡ Some (Index i)) [
    | Table t ↦ λ e. absurd (cc)
    | View v ↦ λ e. absurd (cc)
    | Index j ↦ λ e. ap (λ (y : IndexDef). Some (Index y)) (some_same j i e)
  ]
] is

-- what is known of the indexes of a table
pub record Indexes (ds : Definitions) (t : TableDef) (is : List IndexDef) : Type 0 where
  pub all : AllByRecursion (IsIndexOf ds t) is
  pub split : (i : IndexDef) → IsIndexOf ds t i → Split is i
  pub apart : NumbersApart is

place_of : (ds : Definitions) (n : ℕ) (d : Definition) → numbered ds n ≡ Some d → (p : ℕ) × (n ≡ suc p) × (slice_get ds p ≡ Some d)
place_of ds zero d is = absurd (cc)
place_of ds (suc p) d is = (p, refl, is)

is_index : (ds : Definitions) (t : TableDef) → AreNumbered ds → (i : IndexDef) → Stands ds t.number i → IsIndexOf ds t i
is_index ds t h i s =
    let number : i.number ≡ suc s.at = h (suc s.at) (Index i) s.is in
    record { is = ap (λ n. as_index (numbered ds n)) number ∙ ap as_index s.is; of_table = s.of_table }

pub indexes_are : (ds : Definitions) (t : TableDef) → AreNumbered ds → Indexes ds t (indexes_of (schema_of ds) t.number)
indexes_are ds t h = record {
  all = each_to (Stands ds t.number) (IsIndexOf ds t) (is_index ds t h) (listed ds t.number) (each_stands ds t.number);
  split = λ i one.
      let p = place_of ds i.number (Index i) (index_at ds i.number i one.is) in
      split_at 0 ds t.number i p.0 (from_start ds h) p.2 one.of_table;
  apart = numbers_apart 0 ds t.number (from_start ds h);
}

-- a table and an index have different numbers
pub table_is_not_index : (ds : Definitions) (t u : TableDef) (i : IndexDef) → table_of ds t.number ≡ Some t → IsIndexOf ds u i → i.number ≢ t.number
table_is_not_index ds t u i is one e =
    let both : Some t ≡ as_table (Some (Index i)) = sym is ∙ (ap (table_of ds) (sym e) ∙ ap as_table (index_at ds i.number i one.is)) in absurd (cc)

-- indexes with one number are one
pub one_index : (ds : Definitions) (t u : TableDef) (i j : IndexDef) → IsIndexOf ds t i → IsIndexOf ds u j → i.number ≡ j.number → i ≡ j
one_index ds t u i j a b e = some_same i j (sym a.is ∙ (ap (λ n. as_index (numbered ds n)) e ∙ b.is))

within_list : {X : Type 0} (xs : List X) (p : ℕ) (x : X) → slice_get xs p ≡ Some x → p < length xs
within_list [] p x is = absurd (cc)
within_list (y ∷ xs) zero x is = omega arith
within_list (y ∷ xs) (suc p) x is = omega (arith, within_list xs p x is)

-- an index stands at a place of the definitions
pub record StandsAt (ds : Definitions) (i : IndexDef) : Type 0 where
  pub at : ℕ
  pub within : at < length ds
  pub is : slice_get ds at ≡ Some (Index i)

pub stands_at : (ds : Definitions) (t : TableDef) (i : IndexDef) → IsIndexOf ds t i → StandsAt ds i
stands_at ds t i one =
    let p = place_of ds i.number (Index i) (index_at ds i.number i one.is) in
    record { at = p.0; within = within_list ds p.0 (Index i) p.2; is = p.2 }

-- the number of a table is the one that it is found by
number_at : (d : Option Definition) (n : ℕ) (t : TableDef) → ((e : Definition) → d ≡ Some e → number_of e ≡ n) → as_table d ≡ Some t → t.number ≡ n
number_at None n t h is = absurd (cc)
number_at (Some (Table u)) n t h is = ap (λ (x : TableDef). x.number) (sym (some_same u t is)) ∙ h (Table u) refl
number_at (Some (Index i)) n t h is = absurd (cc)
number_at (Some (View v)) n t h is = absurd (cc)

pub table_number : (ds : Definitions) (n : ℕ) (t : TableDef) → AreNumbered ds → table_of ds n ≡ Some t → t.number ≡ n
table_number ds n t h is = number_at (numbered ds n) n t (h n) is
