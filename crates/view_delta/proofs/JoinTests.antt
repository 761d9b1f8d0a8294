-- What tests of a view's join tell.
use Rattle.std.specs.Prelude.{◌≡◌, ℕ, zero, suc, ◌<◌, ◌≤◌, ◌⊎◌, List, [], ◌∷◌, length, slice_get, Option, Some, None, ◌≢◌}
use Rattle.std.specs.List.{AllByRecursion, cons_option}
use mathlib.Core.Path.{refl, sym, ap, subst, ◌∙◌}
use mathlib.Core.Logic.{inl, inr}
use Rattle.std.proofs.Common.{arith}
use Rattle.std.proofs.lemmas.List.{length-map}
use Rattle.std.proofs.lemmas.List.Elements.{All-from_recursion, recursion_from_All}
use Rattle.iv_types.specs.declared.value.Kind.{Kind}
use Rattle.iv_types.specs.declared.catalog.TableDef.{TableDef}
use Rattle.iv_types.specs.declared.catalog.Second.{Second}
use Rattle.iv_types.specs.Encoding.{kinds_of}
use Rattle.iv_meaning.specs.Schema.{Schema, Object, table, index, view, ViewTree, numbered, items_at, kinds_of_table}
use Rattle.query_laws.proofs.Fitting.{inside}
use Rattle.query_laws.proofs.TableRows.{some_table}
use Rattle.row_eval.specs.Fresh.{AreAlike, HasOneKind}
use Rattle.txn_machine.specs.Deltas.{views_of}
use Rattle.txn_machine.specs.ViewLaws.{BeginsWith, primary, secondary, IsJoin}
use Rattle.view_delta.specs.Joining.{BeginsOwn, BeginsMade}

-- columns that are there, of the kinds of others
pub record AreSame (ks js : List Kind) (columns places : List ℕ) : Type 0 where
  pub there : AllByRecursion (λ p. p < length ks) columns
  pub kinds : items_at ks columns ≡ items_at js places
  pub all : length columns ≡ length places

both_there : (a b : Option Kind) → HasOneKind a b → (kind : Kind) × (a ≡ Some kind) × (b ≡ Some kind)
both_there (Some kind) b h = (kind, refl, h)
both_there None b h = absurd h

pub same_if_alike : (ks js : List Kind) (columns places : List ℕ) → AreAlike ks js columns places → AreSame ks js columns places
same_if_alike ks js [] [] a = record { there = tt; kinds = refl; all = refl }
same_if_alike ks js [] (p ∷ ps) a = absurd a
same_if_alike ks js (c ∷ cs) [] a = absurd a
same_if_alike ks js (c ∷ cs) (p ∷ ps) a =
    let rest = same_if_alike ks js cs ps a.1 in
    let one = both_there (slice_get ks c) (slice_get js p) a.0 in
    record {
      there = (inside ks c one.0 one.1, rest.there);
      kinds = λ i. cons_option ((one.1 ∙ sym one.2) i) (rest.kinds i);
      all = ap suc rest.all;
    }

-- ---- a view's join

pub joins_if_alike : (objects : Schema) (v : ViewTree) (second : Second) (first other : TableDef) → numbered objects v.first ≡ Some (table first) → numbered objects second.table ≡ Some (table other)
    → second.table ≢ v.first → BeginsWith objects first second.joined second.index
    → (columns places : List ℕ) → columns ≡ second.joined → places ≡ other.primary
    → AreAlike (kinds_of_table (numbered objects v.first)) (kinds_of_table (numbered objects second.table)) columns places → IsJoin objects v second
joins_if_alike objects v second first other first_is other_is differ begins columns places cs ps a =
    let alike : AreAlike (kinds_of first) (kinds_of other) second.joined other.primary =
    subst (λ (ks : List Kind). AreAlike ks (kinds_of other) second.joined other.primary) (ap kinds_of_table first_is)
    (subst (λ (js : List Kind). AreAlike (kinds_of_table (numbered objects v.first)) js second.joined other.primary) (ap kinds_of_table other_is)
    (subst (λ (c : List ℕ). AreAlike (kinds_of_table (numbered objects v.first)) (kinds_of_table (numbered objects second.table)) c other.primary) cs
    (subst (λ (p : List ℕ). AreAlike (kinds_of_table (numbered objects v.first)) (kinds_of_table (numbered objects second.table)) columns p) ps a))) in
    let same = same_if_alike (kinds_of first) (kinds_of other) second.joined other.primary alike in
    record {
      first = first;
      other = other;
      first_is = first_is;
      other_is = other_is;
      differ = differ;
      columns = All-from_recursion (λ p. p < length first.columns) second.joined
          (subst (λ n. AllByRecursion (λ p. p < n) second.joined) (length-map first.columns (λ column. column.kind)) same.there);
      kinds = same.kinds;
      all = same.all;
      begins = begins;
    }

-- ---- and back

few : (js : List Kind) (places : List ℕ) → length (items_at js places) ≤ length places
few js [] = omega arith
few js (p ∷ ps) =
    let rest = few js ps in
    elim (slice_get js p) as (λ (o : Option Kind). length (cons_option o (items_at js ps)) ≤ suc (length ps)) [ None ↦ omega arith | Some k ↦ omega arith ]

has : (ks : List Kind) (p : ℕ) → p < length ks → (k : Kind) × (slice_get ks p ≡ Some k)
has [] p h = absurd (omega (arith, h))
has (k ∷ ks) zero h = (k, refl)
has (k ∷ ks) (suc p) h = has ks p (omega (arith, h))

all_there : (ks : List Kind) (columns : List ℕ) → AllByRecursion (λ p. p < length ks) columns → length (items_at ks columns) ≡ length columns
all_there ks [] h = refl
all_there ks (c ∷ cs) h = ap (λ (o : Option Kind). length (cons_option o (items_at ks cs))) (has ks c h.0).1 ∙ ap suc (all_there ks cs h.1)

heads : (k : Kind) (ks : List Kind) (o : Option Kind) (js : List Kind) (n : ℕ) → length ks ≡ n → length js ≤ n → (k ∷ ks) ≡ cons_option o js → (o ≡ Some k) × (ks ≡ js)
heads k ks None js n l m e = absurd (omega (arith, l, m, ap length e))
heads k ks (Some j) js n l m e = (cc, cc)

alike_if_same : (ks js : List Kind) (columns places : List ℕ) → AreSame ks js columns places → AreAlike ks js columns places
alike_if_same ks js [] [] s = tt
alike_if_same ks js [] (p ∷ ps) s = absurd (let all = s.all in omega arith)
alike_if_same ks js (c ∷ cs) [] s = absurd (let all = s.all in omega arith)
alike_if_same ks js (c ∷ cs) (p ∷ ps) s =
    let one = has ks c s.there.0 in
    let all = s.all in
    let size : length cs ≡ length ps = omega arith in
    let rest = heads one.0 (items_at ks cs) (slice_get js p) (items_at js ps) (length cs) (all_there ks cs s.there.1) (omega (arith, few js ps, size))
    (sym (ap (λ (o : Option Kind). cons_option o (items_at ks cs)) one.1) ∙ s.kinds) in
    (subst (λ (o : Option Kind). HasOneKind o (slice_get js p)) (sym one.1) rest.0, alike_if_same ks js cs ps (record { there = s.there.1; kinds = rest.1; all = size }))

module _ (objects : Schema) (v : ViewTree) (second : Second) (first other : TableDef) (first_is : numbered objects v.first ≡ Some (table first)) (other_is : numbered objects second.table ≡ Some (table other)) (j : IsJoin objects v second) where
  same_first : j.first ≡ first
  same_first = some_table j.first first (sym j.first_is ∙ first_is)

  same_other : j.other ≡ other
  same_other = some_table j.other other (sym j.other_is ∙ other_is)

  pub begins_of_join : BeginsWith objects first second.joined second.index
  begins_of_join = subst (λ (t : TableDef). BeginsWith objects t second.joined second.index) same_first j.begins

  pub alike_of_join : (columns places : List ℕ) → columns ≡ second.joined → places ≡ other.primary → AreAlike (kinds_of_table (numbered objects v.first)) (kinds_of_table (numbered objects second.table)) columns places
  alike_of_join columns places cs ps =
      let own : AreAlike (kinds_of j.first) (kinds_of j.other) second.joined j.other.primary = alike_if_same (kinds_of j.first) (kinds_of j.other) second.joined j.other.primary (record {
        there = subst (λ n. AllByRecursion (λ p. p < n) second.joined) (sym (length-map j.first.columns (λ column. column.kind))) (recursion_from_All (λ p. p < length j.first.columns) second.joined j.columns);
        kinds = j.kinds;
        all = j.all;
      }) in
      subst (λ (ks : List Kind). AreAlike ks (kinds_of_table (numbered objects second.table)) columns places) (sym (ap kinds_of_table j.first_is))
      (subst (λ (js : List Kind). AreAlike (kinds_of j.first) js columns places) (sym (ap kinds_of_table j.other_is))
      (subst (λ (c : List ℕ). AreAlike (kinds_of j.first) (kinds_of j.other) c places) (sym cs)
      (subst (λ (p : List ℕ). AreAlike (kinds_of j.first) (kinds_of j.other) second.joined p) (sym (ps ∙ ap (λ (t : TableDef). t.primary) (sym same_other))) own)))

-- ---- indexes that begin with the joined columns

pub own_begins : (objects : Schema) (first : TableDef) (second : Second) → BeginsOwn first second → BeginsWith objects first second.joined second.index
own_begins objects first second h = primary h.1.0 h.0 h.1.1

pub made_begins : (objects : Schema) (first : TableDef) (second : Second) (o : Option Object) → numbered objects second.index ≡ o → BeginsMade o first second → BeginsWith objects first second.joined second.index
made_begins objects first second None e h = absurd h
made_begins objects first second (Some (table t)) e h = absurd h
made_begins objects first second (Some (index i)) e h = secondary i h.1.0 e h.0 h.1.1
made_begins objects first second (Some (view v)) e h = absurd h

pub begins_either : (objects : Schema) (first : TableDef) (second : Second) → BeginsWith objects first second.joined second.index → BeginsOwn first second ⊎ BeginsMade (numbered objects second.index) first second
begins_either objects first second (primary more is columns) = inl (is, (more, columns))
begins_either objects first second (secondary i more is of columns) = inr (subst (λ (o : Option Object). BeginsMade o first second) (sym is) (of, (more, columns)))

-- ---- all views

one_of_all : (P : ViewTree → Type 0) (os : List Object) → AllByRecursion P (views_of os) → (i : ℕ) (v : ViewTree) → slice_get os i ≡ Some (view v) → P v
one_of_all P [] h i v e = absurd (cc)
one_of_all P (table t ∷ os) h zero v e = absurd (cc)
one_of_all P (index i ∷ os) h zero v e = absurd (cc)
one_of_all P (view w ∷ os) h zero v e = let same : w ≡ v = cc in subst P same h.0
one_of_all P (table t ∷ os) h (suc i) v e = one_of_all P os h i v e
one_of_all P (index x ∷ os) h (suc i) v e = one_of_all P os h i v e
one_of_all P (view w ∷ os) h (suc i) v e = one_of_all P os h.1 i v e

pub of_all : (P : ViewTree → Type 0) (objects : Schema) → AllByRecursion P (views_of objects) → (n : ℕ) (v : ViewTree) → numbered objects n ≡ Some (view v) → P v
of_all P objects h zero v e = absurd (cc)
of_all P objects h (suc n) v e = one_of_all P objects h n v e

-- what holds of the views of all definitions holds of those of the first
pub of_head : (P : ViewTree → Type 0) (o : Object) (os : List Object) → AllByRecursion P (views_of (o ∷ os)) → AllByRecursion P (views_of (o ∷ []))
of_head P (table t) os h = tt
of_head P (index i) os h = tt
of_head P (view v) os h = (h.0, tt)
