-- The meaning of a view is refused in no sound database whose numbers are in range.
use Rattle.std.specs.Prelude.{◌≡◌, ◌≢◌, ℕ, suc, ◌<◌, ◌&&◌, cond, Bool, true, false, List, [], ◌∷◌, ◌++◌, map, length, slice_get, get_or, ℤ, pos, Option, Some, None, is_some, IsSome}
use Rattle.std.specs.List.{AllByRecursion, cons_option}
use Rattle.std.specs.Option.{option_map, option_map_or, option_to_list, option_and_then, option_zip}
use mathlib.Core.Path.{refl, sym, ap, subst, ◌∙◌}
use Rattle.std.proofs.Common.{arith}
use Rattle.std.proofs.lemmas.Bool.{false≢true}
use Rattle.std.proofs.lemmas.List.{length-map}
use Rattle.std.proofs.lemmas.List.Elements.{recursion_from_All}
use Rattle.std.specs.declared.cmp.Ordering.{Ordering}
use Rattle.iv_types.specs.declared.value.Kind.{Kind}
use Rattle.iv_types.specs.declared.value.Kind.TheVariants.{Int, Huge, Text}
use Rattle.iv_types.specs.declared.value.Value.{Value}
use Rattle.iv_types.specs.declared.value.Value.TheVariants.{Number, Word}
use Rattle.iv_types.specs.declared.expression.Op.TheVariants as op
use Rattle.iv_types.specs.declared.expression.ColumnAt.{ColumnAt}
use Rattle.iv_types.specs.declared.catalog.TableDef.{TableDef}
use Rattle.iv_types.specs.declared.catalog.Second.{Second}
use Rattle.iv_types.specs.declared.statement.ColumnDef.{ColumnDef}
use Rattle.iv_types.specs.Encoding.{kinds_of, Fits, FitAll, IsHuge, key_bytes}
use Rattle.iv_types.specs.Syntax as s
use Rattle.iv_types.specs.Syntax.{Tree}
use Rattle.table_laws.specs.Place.{Place}
use Rattle.iv_meaning.specs.Types as types
use Rattle.iv_meaning.specs.Types.{Family, family, family_of_kind, typed, is_truth, is_number, is_text, alike}
use Rattle.iv_meaning.specs.Shape.{has_arithmetic}
use Rattle.iv_meaning.specs.Values.{Outcome, number, word, truth, refused, both, either, negated, compared, holds, is_true, is_false, ranged, meaning, outcome_of, value_at, value_of}
use Rattle.iv_meaning.specs.Schema.{Object, table, view, ViewTree, numbered, items_at, sources_of, kind_at, kinds_of_table, group_kinds, primary_of}
use Rattle.iv_meaning.specs.Database.{Row, Database, rows_of}
use Rattle.iv_meaning.specs.Query.{Combination, count, sum, plain, chosen, combinations, conjunction, joined, item_of_group, row_by, values_at, listed, ordered}
use Rattle.iv_meaning.specs.Grouping.{all_of, groups_of, members, number_in, sum_by}
use Rattle.iv_meaning.specs.View.{conditions_of, join_conditions, query_of, whole_view, counted_combinations, shares}
use Rattle.iv_meaning.specs.Sound.{AreColumns}
use Rattle.query_laws.proofs.Each.{each_append, each_to, each_filtered}
use Rattle.query_laws.proofs.SoundLemmas.{neither}
use Rattle.query_laws.proofs.GroupRows.{some_same, IsGroupIn, groups_are, first_member}
use Rattle.iv_types.proofs.Fitting.{huge_so}
use Rattle.iv_meaning.proofs.RangeLemmas.{seen, seen_is, value_seen}
use Rattle.query_laws.proofs.WholeViews.{chosen_is, view_items, query_by}
use Rattle.txn_machine.specs.Deltas.{is_counted}
use Rattle.txn_machine.specs.Fresh.{fresh}
use Rattle.txn_machine.specs.ViewLaws.{AreSound, IsJoin, IsTyped}
use Rattle.txn_machine.specs.Laws.{ReadableLaw}
use Rattle.txn_machine.proofs.Keeps.{shift}
use Rattle.txn_machine.proofs.Looking.{fits_at}
use Rattle.txn_machine.proofs.Reading.{both_true}
use Rattle.query_laws.proofs.TermLemmas.{FitRows}
use Rattle.query_laws.proofs.GroupRows.{fitted_value, kind_at_is}
use Rattle.txn_machine.proofs.Sharing.{source_kinds, all_fit, groups_fit, fresh_law}
use Rattle.txn_machine.proofs.Ranging.{all_contains}

-- ---- what an expression gives

abbrev pub Has : Family → Outcome → Type 0
Has types.number (number n) = Unit {0}
Has types.text (word w) = Unit {0}
Has types.truth (truth b) = Unit {0}
Has _ _ = ⊥

abbrev pub IsTruth : Outcome → Type 0
IsTruth = Has types.truth

seen_has : (k : Kind) (x : Value) → Fits k x → Has (family_of_kind k) (seen x)
seen_has Int (Number n) f = tt
seen_has Huge (Number n) f = tt
seen_has Text (Word w) f = tt
seen_has Int (Word w) f = absurd (cc)
seen_has Huge (Word w) f = absurd (cc)
seen_has Text (Number n) f = absurd (cc)

kind_has : (k : Kind) (x : Value) → Fits k x → Has (family_of_kind k) (outcome_of (Some x))
kind_has k x f = subst (Has (family_of_kind k)) (sym (seen_is k x f)) (seen_has k x f)

typed_is : (b : Bool) (g f : Family) → typed b g ≡ Some f → (b ≡ true) × (g ≡ f)
typed_is true g f e = (refl, some_same g f e)
typed_is false g f e = absurd (cc)

truth_is : (o : Option Family) → is_truth o ≡ true → o ≡ Some types.truth
truth_is None e = absurd (cc)
truth_is (Some types.number) e = absurd (cc)
truth_is (Some types.text) e = absurd (cc)
truth_is (Some types.truth) e = refl

number_is : (o : Option Family) → is_number o ≡ true → o ≡ Some types.number
number_is None e = absurd (cc)
number_is (Some types.number) e = refl
number_is (Some types.text) e = absurd (cc)
number_is (Some types.truth) e = absurd (cc)

text_is : (o : Option Family) → is_text o ≡ true → o ≡ Some types.text
text_is None e = absurd (cc)
text_is (Some types.number) e = absurd (cc)
text_is (Some types.text) e = refl
text_is (Some types.truth) e = absurd (cc)

not_truth : (m : Outcome) → IsTruth m → IsTruth (negated m)
not_truth (truth b) h = tt
not_truth (number n) h = absurd h
not_truth (word w) h = absurd h
not_truth refused h = absurd h

pub both_truth : (m n : Outcome) → IsTruth m → IsTruth n → IsTruth (both m n)
both_truth (truth true) (truth true) h k = tt
both_truth (truth true) (truth false) h k = tt
both_truth (truth false) (truth b) h k = tt
both_truth (truth b) (number n) h k = absurd k
both_truth (truth b) (word w) h k = absurd k
both_truth (truth b) refused h k = absurd k
both_truth (number m) n h k = absurd h
both_truth (word m) n h k = absurd h
both_truth refused n h k = absurd h

either_truth : (m n : Outcome) → IsTruth m → IsTruth n → IsTruth (either m n)
either_truth (truth true) (truth b) h k = tt
either_truth (truth false) (truth true) h k = tt
either_truth (truth false) (truth false) h k = tt
either_truth (truth b) (number n) h k = absurd k
either_truth (truth b) (word w) h k = absurd k
either_truth (truth b) refused h k = absurd k
either_truth (number m) n h k = absurd h
either_truth (word m) n h k = absurd h
either_truth refused n h k = absurd h

numbers_compared : (test : Ordering → Bool) (m n : Outcome) → Has types.number m → Has types.number n → IsTruth (compared test m n)
numbers_compared test (number a) (number b) h k = tt
numbers_compared test (number a) (word b) h k = absurd k
numbers_compared test (number a) (truth b) h k = absurd k
numbers_compared test (number a) refused h k = absurd k
numbers_compared test (word a) n h k = absurd h
numbers_compared test (truth a) n h k = absurd h
numbers_compared test refused n h k = absurd h

texts_compared : (test : Ordering → Bool) (m n : Outcome) → Has types.text m → Has types.text n → IsTruth (compared test m n)
texts_compared test (word a) (word b) h k = tt
texts_compared test (word a) (number b) h k = absurd k
texts_compared test (word a) (truth b) h k = absurd k
texts_compared test (word a) refused h k = absurd k
texts_compared test (number a) n h k = absurd h
texts_compared test (truth a) n h k = absurd h
texts_compared test refused n h k = absurd h

-- what has a family has its outcomes
abbrev Gives : Option Family → Outcome → Type 0
Gives o m = (f : Family) → o ≡ Some f → Has f m

alike_compared : (test : Ordering → Bool) (f g : Option Family) (m n : Outcome) → alike f g ≡ true → Gives f m → Gives g n → IsTruth (compared test m n)
alike_compared test None g m n e h k = absurd (cc)
alike_compared test (Some types.number) g m n e h k = numbers_compared test m n (h types.number refl) (k types.number (number_is g e))
alike_compared test (Some types.text) g m n e h k = texts_compared test m n (h types.text refl) (k types.text (text_is g e))
alike_compared test (Some types.truth) g m n e h k = absurd (cc)

pub kinds_compared : (test : Ordering → Bool) (k : Kind) (x y : Value) → Fits k x → Fits k y → IsTruth (compared test (outcome_of (Some x)) (outcome_of (Some y)))
kinds_compared test Int x y f g = numbers_compared test (outcome_of (Some x)) (outcome_of (Some y)) (kind_has Int x f) (kind_has Int y g)
kinds_compared test Huge x y f g = numbers_compared test (outcome_of (Some x)) (outcome_of (Some y)) (kind_has Huge x f) (kind_has Huge y g)
kinds_compared test Text x y f g = texts_compared test (outcome_of (Some x)) (outcome_of (Some y)) (kind_has Text x f) (kind_has Text y g)

module _ (kinds : List (List Kind)) (rows : Combination) (fit : FitRows kinds rows) where
  at_has : (place : ColumnAt) (o : Option Kind) → kind_at kinds place ≡ o → (f : Family) → option_map family_of_kind o ≡ Some f → Has f (outcome_of (value_at rows place))
  at_has place None is f e = absurd (cc)
  at_has place (Some k) is f e =
      let v = fitted_value kinds rows place.source place.column k fit (sym (kind_at_is kinds place) ∙ is) in
      subst (λ (o : Option Value). Has f (outcome_of o)) (sym v.1) (subst (λ (x : Family). Has x (outcome_of (Some v.0))) (some_same (family_of_kind k) f e) (kind_has k v.0 v.2))

  truths : (a b : Tree) (combine : Outcome → Outcome → Outcome) → ((m n : Outcome) → IsTruth m → IsTruth n → IsTruth (combine m n)) → Gives (family kinds a) (meaning a rows) → Gives (family kinds b) (meaning b rows)
      → Gives (typed (is_truth (family kinds a) && is_truth (family kinds b)) types.truth) (combine (meaning a rows) (meaning b rows))
  truths a b combine good h k f e =
      let t = typed_is (is_truth (family kinds a) && is_truth (family kinds b)) types.truth f e in
      let ab = both_true (is_truth (family kinds a)) (is_truth (family kinds b)) t.0 in
      subst (λ (x : Family). Has x (combine (meaning a rows) (meaning b rows))) t.1 (good (meaning a rows) (meaning b rows) (h types.truth (truth_is (family kinds a) ab.0)) (k types.truth (truth_is (family kinds b) ab.1)))

  comparison : (a b : Tree) (test : Ordering → Bool) → Gives (family kinds a) (meaning a rows) → Gives (family kinds b) (meaning b rows)
      → Gives (typed (alike (family kinds a) (family kinds b)) types.truth) (compared test (meaning a rows) (meaning b rows))
  comparison a b test h k f e =
      let t = typed_is (alike (family kinds a) (family kinds b)) types.truth f e in
      subst (λ (x : Family). Has x (compared test (meaning a rows) (meaning b rows))) t.1 (alike_compared test (family kinds a) (family kinds b) (meaning a rows) (meaning b rows) t.0 h k)

  -- without arithmetic nothing that is typed is refused
  pub gives : (e : Tree) → has_arithmetic e ≡ false → Gives (family kinds e) (meaning e rows)
  gives (s.number n) a f e = subst (λ (x : Family). Has x (number n)) (some_same types.number f e) tt
  gives (s.word w) a f e = subst (λ (x : Family). Has x (word w)) (some_same types.text f e) tt
  gives (s.named r) a f e = absurd (cc)
  gives (s.at place) a f e = at_has place (kind_at kinds place) refl f e
  gives (s.not x) a f e =
      let t = typed_is (is_truth (family kinds x)) types.truth f e in
      subst (λ (y : Family). Has y (negated (meaning x rows))) t.1 (not_truth (meaning x rows) (gives x a types.truth (truth_is (family kinds x) t.0)))
  gives (s.minus x) a f e = absurd (cc)
  gives (s.pair op.Add x y) a f e = absurd (cc)
  gives (s.pair op.Subtract x y) a f e = absurd (cc)
  gives (s.pair op.Multiply x y) a f e = absurd (cc)
  gives (s.pair op.Or x y) a f e = let p = neither (has_arithmetic x) (has_arithmetic y) a in truths x y either either_truth (gives x p.0) (gives y p.1) f e
  gives (s.pair op.And x y) a f e = let p = neither (has_arithmetic x) (has_arithmetic y) a in truths x y both both_truth (gives x p.0) (gives y p.1) f e
  gives (s.pair op.Equal x y) a f e = let p = neither (has_arithmetic x) (has_arithmetic y) a in comparison x y (holds op.Equal) (gives x p.0) (gives y p.1) f e
  gives (s.pair op.NotEqual x y) a f e = let p = neither (has_arithmetic x) (has_arithmetic y) a in comparison x y (holds op.NotEqual) (gives x p.0) (gives y p.1) f e
  gives (s.pair op.Less x y) a f e = let p = neither (has_arithmetic x) (has_arithmetic y) a in comparison x y (holds op.Less) (gives x p.0) (gives y p.1) f e
  gives (s.pair op.AtMost x y) a f e = let p = neither (has_arithmetic x) (has_arithmetic y) a in comparison x y (holds op.AtMost) (gives x p.0) (gives y p.1) f e
  gives (s.pair op.Greater x y) a f e = let p = neither (has_arithmetic x) (has_arithmetic y) a in comparison x y (holds op.Greater) (gives x p.0) (gives y p.1) f e
  gives (s.pair op.AtLeast x y) a f e = let p = neither (has_arithmetic x) (has_arithmetic y) a in comparison x y (holds op.AtLeast) (gives x p.0) (gives y p.1) f e

  pub conditions_truth : (es : List Tree) → AllByRecursion (λ e. IsTruth (meaning e rows)) es → IsTruth (conjunction es rows)
  conditions_truth [] h = tt
  conditions_truth (e ∷ es) h = both_truth (meaning e rows) (conjunction es rows) h.0 (conditions_truth es h.1)

-- where no test is refused some are chosen
pub chosen_there : {X : Type 0} (test : X → Outcome) (xs : List X) → AllByRecursion (λ x. IsTruth (test x)) xs → IsSome (chosen test xs)
chosen_there test [] h = refl
chosen_there {X} test (x ∷ xs) h = go (test x) h.0 (chosen test xs) (chosen_there test xs h.1)
  where
    go : (m : Outcome) → IsTruth m → (o : Option (List X)) → IsSome o → IsSome (cond (is_true m) (option_map (λ more. x ∷ more) o) (cond (is_false m) o None))
    go (truth true) t (Some ys) k = refl
    go (truth true) t None k = absurd (false≢true k)
    go (truth false) t o k = k
    go (number n) t o k = absurd t
    go (word w) t o k = absurd t
    go refused t o k = absurd t

-- ---- numbers in range

ranged_there : (n : ℤ) → IsHuge n → IsSome (value_of (ranged n))
ranged_there n h = ap (λ b. is_some (value_of (cond b (number n) refused))) (huge_so n h)

-- all are there where none is wanting
all_of_there : {X Y : Type 0} (f : X → Option Y) (xs : List X) → AllByRecursion (λ x. IsSome (f x)) xs → IsSome (all_of (map f xs))
all_of_there f [] h = refl
all_of_there {X} {Y} f (x ∷ xs) h = go (f x) (all_of (map f xs)) h.0 (all_of_there f xs h.1)
  where
    go : (o : Option Y) (os : Option (List Y)) → IsSome o → IsSome os → IsSome (option_map (λ (p : Y × List Y). p.0 ∷ p.1) (option_zip o os))
    go None os a b = absurd (false≢true a)
    go (Some y) None a b = absurd (false≢true b)
    go (Some y) (Some ys) a b = refl

-- ---- the conditions of a view

joins_truth : (first other : TableDef) (r t : Row) → FitAll (kinds_of first) r → FitAll (kinds_of other) t → (joined primary : List ℕ)
    → AllByRecursion (λ p. p < length (kinds_of first)) joined → AllByRecursion (λ p. p < length (kinds_of other)) primary → items_at (kinds_of first) joined ≡ items_at (kinds_of other) primary
    → AllByRecursion (λ e. IsTruth (meaning e (r ∷ t ∷ []))) (join_conditions joined primary)
joins_truth first other r t fr ft [] primary h k e = tt
joins_truth first other r t fr ft (j ∷ js) [] h k e = tt
joins_truth first other r t fr ft (j ∷ js) (p ∷ ps) h k e =
    let a = fits_at (kinds_of first) r j fr h.0 in
    let b = fits_at (kinds_of other) t p ft k.0 in
    let same : a.0 ∷ items_at (kinds_of first) js ≡ b.0 ∷ items_at (kinds_of other) ps =
    (λ i. cons_option (sym a.2 i) (items_at (kinds_of first) js)) ∙ (e ∙ (λ i. cons_option (b.2 i) (items_at (kinds_of other) ps))) in
    let kind_is : b.0 ≡ a.0 = heads (sym same) in
    let rest = joins_truth first other r t fr ft js ps h.1 k.1 (tails same) in (
      subst (λ (o : Option Value). IsTruth (compared (holds op.Equal) (outcome_of o) (outcome_of (slice_get t p)))) (sym a.3)
          (subst (λ (o : Option Value). IsTruth (compared (holds op.Equal) (outcome_of (Some a.1)) (outcome_of o))) (sym b.3)
          (kinds_compared (holds op.Equal) a.0 a.1 b.1 a.4 (subst (λ (x : Kind). Fits x b.1) kind_is b.4))),
      rest,
    )
  where
    heads : {x y : Kind} {xs ys : List Kind} → x ∷ xs ≡ y ∷ ys → x ≡ y
    heads e = cc

    tails : {x y : Kind} {xs ys : List Kind} → x ∷ xs ≡ y ∷ ys → xs ≡ ys
    tails e = cc

in_columns : (t : TableDef) (places : List ℕ) → AreColumns t places → AllByRecursion (λ p. p < length (kinds_of t)) places
in_columns t places h = subst (λ n. AllByRecursion (λ p. p < n) places) (sym (length-map t.columns (λ (c : ColumnDef). c.kind))) (recursion_from_All (λ p. p < length t.columns) places h)

module _ (db : Database) (sound : AreSound db.schema db.rows) (n : ℕ) (v : ViewTree) (of : numbered db.schema n ≡ Some (view v)) where
  view_typed : IsTyped db.schema v
  view_typed = sound.typed n v of

  abbrev kinds : List (List Kind)
  kinds = source_kinds db.schema v

  -- the condition
  condition_truth : (c : Combination) → FitRows kinds c → (o : Option Tree) → v.condition ≡ o → AllByRecursion (λ e. IsTruth (meaning e c)) (option_to_list o)
  condition_truth c fit None is = tt
  condition_truth c fit (Some e) is = let t = view_typed.condition e is in (gives kinds c fit e t.1 types.truth (truth_is (family kinds e) t.0), tt)

  -- the columns that are joined
  second_truth : (second : Second) → IsJoin db.schema v second → (c : Combination) → FitRows (kinds_of_table (numbered db.schema v.first) ∷ kinds_of_table (numbered db.schema second.table) ∷ []) c
      → AllByRecursion (λ e. IsTruth (meaning e c)) (join_conditions second.joined (primary_of (numbered db.schema second.table)))
  second_truth second j [] fit = absurd fit
  second_truth second j (r ∷ []) fit = absurd fit.1
  second_truth second j (r ∷ t ∷ x ∷ c) fit = absurd fit.1.1
  second_truth second j (r ∷ t ∷ []) fit =
      subst (λ (o : Option Object). AllByRecursion (λ e. IsTruth (meaning e (r ∷ t ∷ []))) (join_conditions second.joined (primary_of o))) (sym j.other_is)
      (joins_truth j.first j.other r t (subst (λ (o : Option Object). FitAll (kinds_of_table o) r) j.first_is fit.0) (subst (λ (o : Option Object). FitAll (kinds_of_table o) t) j.other_is fit.1.0) second.joined j.other.primary
      (in_columns j.first second.joined j.columns) (in_columns j.other j.other.primary (sound.objects second.table (table j.other) j.other_is).1) j.kinds)

  all_truth : (c : Combination) → FitRows kinds c → IsTruth (conjunction (conditions_of db.schema v) c)
  all_truth c fit = conditions_truth kinds c fit (conditions_of db.schema v) (go v.second (sound.joins n v of) fit)
    where
      go : (o : Option Second) → elim o as (λ (x : Option Second). Type 0) [ None ↦ Unit {0} | Some second ↦ IsJoin db.schema v second ]
          → FitRows (map (λ m. kinds_of_table (numbered db.schema m)) (v.first ∷ elim o [ None ↦ [] | Some second ↦ second.table ∷ [] ])) c
          → AllByRecursion (λ e. IsTruth (meaning e c)) (option_map_or (λ second. join_conditions second.joined (primary_of (numbered db.schema second.table))) o [] ++ option_to_list v.condition)
      go None j f = condition_truth c fit v.condition refl
      go (Some second) j f = each_append (λ e. IsTruth (meaning e c)) (join_conditions second.joined (primary_of (numbered db.schema second.table))) (option_to_list v.condition) (second_truth second j c f) (condition_truth c fit v.condition refl)

  abbrev sources : List (List Row)
  sources = map (rows_of db.rows) (sources_of v)

  found_there : IsSome (joined (conditions_of db.schema v) sources)
  found_there = chosen_there (conjunction (conditions_of db.schema v)) (combinations sources)
      (each_to (FitRows kinds) (λ c. IsTruth (conjunction (conditions_of db.schema v) c)) all_truth (combinations sources) (all_fit db.schema db.rows sound n v of))

  -- ---- the rows of groups

  module _ (in_range : (place : Place) (column : ℕ) → IsHuge (fresh db.schema db.rows place column)) where
    abbrev found : List Combination
    found = counted_combinations db.schema db.rows v

    abbrev group_of : Combination → Row
    group_of = values_at v.group

    found_fit : AllByRecursion (FitRows kinds) found
    found_fit = each_filtered (FitRows kinds) (is_counted db.schema v) (combinations sources) (all_fit db.schema db.rows sound n v of)

    sums_there : (ms : List Combination) (sums : List ColumnAt) → ((i : ℕ) → i < length sums → IsHuge (get_or (map (λ column. sum_by (λ c. number_in (value_at c column)) ms) sums) i (pos 0)))
        → AllByRecursion (λ i. IsSome (value_of (item_of_group ms i))) (map sum sums)
    sums_there ms [] h = tt
    sums_there ms (column ∷ sums) h = (ranged_there (sum_by (λ c. number_in (value_at c column)) ms) (h 0 (omega arith)), sums_there ms sums (λ i l. h (suc i) (omega (arith, l))))

    values_there : (one : Combination) (others : List Combination) → FitRows kinds one → (group : List ColumnAt) → AllByRecursion (λ place. (kind : Kind) × (kind_at kinds place ≡ Some kind)) group
        → AllByRecursion (λ i. IsSome (value_of (item_of_group (one ∷ others) i))) (map (λ column. plain (s.at column)) group)
    values_there one others fit [] h = tt
    values_there one others fit (place ∷ group) h =
        let x = fitted_value kinds one place.source place.column h.0.0 fit (sym (kind_at_is kinds place) ∙ h.0.1) in
        (ap is_some (ap (λ o. value_of (outcome_of o)) x.1 ∙ value_seen h.0.0 x.0 x.2), values_there one others fit group h.1)

    group_there : (g : Row) → IsGroupIn group_of found g → IsSome (row_by item_of_group (view_items v.group v.sums) (members group_of found g))
    group_there g is =
        let m = first_member group_of found g is in
        let one_fits : FitRows kinds m.one = all_contains (FitRows kinds) found m.one found_fit m.there in
        let fits : FitAll (group_kinds db.schema v) g = subst (FitAll (group_kinds db.schema v)) is.2 (all_contains (λ c. FitAll (group_kinds db.schema v) (group_of c)) found is.0 (groups_fit db.schema db.rows sound n v of) is.1) in
        let huge : (column : ℕ) → IsHuge (get_or (shares v (m.one ∷ m.others)) column (pos 0)) = λ column.
        shift (fresh db.schema db.rows (v.number, key_bytes (group_kinds db.schema v) g) column) (get_or (shares v (m.one ∷ m.others)) column (pos 0)) (in_range (v.number, key_bytes (group_kinds db.schema v) g) column)
        (fresh_law db sound n v of g fits column ∙ ap (λ (ms : List Combination). get_or (shares v ms) column (pos 0)) m.members_are) in
        subst (λ (ms : List Combination). IsSome (row_by item_of_group (view_items v.group v.sums) ms)) (sym m.members_are)
        (all_of_there (λ i. value_of (item_of_group (m.one ∷ m.others) i)) (view_items v.group v.sums)
        (each_append (λ i. IsSome (value_of (item_of_group (m.one ∷ m.others) i))) (map (λ column. plain (s.at column)) v.group) (count ∷ map sum v.sums)
        (values_there m.one m.others one_fits v.group (recursion_from_All _ v.group (sound.objects n (view v) of).1.group))
        (ranged_there (pos (length (m.one ∷ m.others))) (huge 0), sums_there (m.one ∷ m.others) v.sums (λ i l. huge (suc i)))))

    listed_there : (group : List ColumnAt) → v.group ≡ group → group ≢ [] → IsSome (listed (query_of db.schema v) found)
    listed_there [] is none = absurd (none refl)
    listed_there (x ∷ xs) is none = subst (λ (l : List ColumnAt). IsSome (listed (query_by (sources_of v) (conditions_of db.schema v) l v.sums) found)) (sym is)
        (all_of_there (λ (g : Row). row_by item_of_group (view_items (x ∷ xs) v.sums) (members (values_at (x ∷ xs)) found g)) (groups_of (values_at (x ∷ xs)) found)
        (subst (λ (l : List ColumnAt). AllByRecursion (λ g. IsSome (row_by item_of_group (view_items l v.sums) (members (values_at l) found g))) (groups_of (values_at l) found)) is
        (each_to (IsGroupIn group_of found) (λ g. IsSome (row_by item_of_group (view_items v.group v.sums) (members group_of found g))) group_there (groups_of group_of found) (groups_are group_of found))))

    pub rows_there : IsSome (whole_view db.schema db.rows v)
    rows_there = go (joined (conditions_of db.schema v) sources) refl found_there
      where
        ordered_there : (o : Option (List Row)) → IsSome o → IsSome (option_map (ordered []) o)
        ordered_there None k = absurd (false≢true k)
        ordered_there (Some rows) k = refl

        go : (o : Option (List Combination)) → joined (conditions_of db.schema v) sources ≡ o → IsSome o → IsSome (option_map (ordered []) (option_and_then (listed (query_of db.schema v)) o))
        go None is k = absurd (false≢true k)
        go (Some cs) is k =
            let same : cs ≡ found = chosen_is (conjunction (conditions_of db.schema v)) (combinations sources) cs is in
            subst (λ (l : List Combination). IsSome (option_map (ordered []) (listed (query_of db.schema v) l))) (sym same)
            (ordered_there (listed (query_of db.schema v) found) (listed_there v.group refl view_typed.grouped))

pub readable_law : ReadableLaw
readable_law db sound in_range n v of = rows_there db sound n v of in_range
