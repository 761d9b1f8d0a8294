-- What a change owes depends on what it looks up alone.
use Rattle.std.specs.Prelude.{◌≡◌, ◌≢◌, ℕ, zero, suc, ◌+◌, ◌<◌, ◌==◌, ◌&&◌, ◌||◌, cond, Bool, true, false, List, [], ◌∷◌, ◌++◌, map, filter, length, slice_get, ℤ, Option, Some, None, IfSome}
use Rattle.std.specs.List.{AllByRecursion, Contains, flat_map, cons_option}
use Rattle.std.specs.Option.{option_map_or, option_to_list}
use mathlib.Core.Path.{refl, sym, ap, subst, ◌∙◌}
use Rattle.std.proofs.Common.{arith, eq-eqb, eqb-true, append_assoc}
use Rattle.std.proofs.lemmas.Bool.{ne_eqb, false≢true}
use Rattle.std.proofs.lemmas.List.Elements.{filter_map-append, recursion_from_All, Contains-append_left, Contains-append_right}
use Rattle.std.proofs.lemmas.Slice.Eq.{bytes_eq-Decides}
use Rattle.std.specs.FinMap.{get, entries, nat_cmp-IsAntisymmetric, slice_cmp-IsAntisymmetric, int_cmp-IsAntisymmetric}
use Rattle.std.specs.declared.cmp.Ordering.{Ordering}
use Rattle.std.specs.declared.cmp.Ordering.TheVariants.{Less, Equal, Greater}
use Rattle.std.specs.Ordering.{int_cmp, nat_cmp, is_eq, ordering_then}
use Rattle.std.specs.Cmp.{tied_itself, nat_cmp_total, int_cmp_total, nat_cmp_is}
use Rattle.std.proofs.lemmas.List.{length-map}
use Rattle.std.specs.Cmp.Lexicographic.{slice_cmp}
use Rattle.std.specs.Str.{bytes_eq}
use Rattle.iv_types.specs.declared.value.Kind.{Kind}
use Rattle.iv_types.specs.declared.value.Value.{Value}
use Rattle.iv_types.specs.declared.value.Value.TheVariants.{Number, Word}
use Rattle.iv_types.specs.declared.expression.Op.TheVariants.{Equal as Same}
use Rattle.iv_types.specs.declared.lock.GroupDelta.{GroupDelta}
use Rattle.iv_types.specs.declared.lock.Want.{Want}
use Rattle.iv_types.specs.declared.lock.LockMode.TheVariants.{Share}
use Rattle.iv_types.specs.declared.catalog.TableDef.{TableDef}
use Rattle.iv_types.specs.declared.catalog.Second.{Second}
use Rattle.iv_types.specs.Encoding.{kinds_of, Fits, FitAll, key_bytes, key_value_bytes, is_huge}
use Rattle.iv_types.specs.Syntax as syntax_tree
use Rattle.iv_types.specs.Syntax.{Tree}
use Rattle.iv_types.specs.Intervals.{IsBelow, LiesIn, next, point, prefix_interval}
use Rattle.table_laws.specs.Place.{Place}
use Rattle.table_laws.specs.Table.{write, rows_where}
use Rattle.table_laws.proofs.Tables.{rows_where_same, Contains-entries}
use Rattle.table_laws.proofs.Place.{place_cmp_total, place_cmp-IsAntisymmetric}
use Rattle.iv_meaning.specs.Schema.{Schema, Object, table, ViewTree, numbered, items_at, key_kinds, primary_of}
use Rattle.iv_meaning.specs.Database.{Row, Rows, rows_of, key_of}
use Rattle.iv_meaning.specs.Values.{Outcome, number, word, truth, refused, both, is_true, is_false, compared, holds, meaning, outcome_of}
use Rattle.iv_meaning.specs.Query.{Combination, combinations, conjunction}
use Rattle.iv_meaning.specs.View.{conditions_of, join_conditions, index_key}
use Rattle.iv_meaning.specs.Sound.{AreColumns, IsRow}
use Rattle.txn_machine.specs.Deltas.{RowChange, rows_after, contribution, is_counted, other_rows, contributions, negated, are_equal, exchanged, owed_to, views_of, owed, look_up_second, look_up_first, look_ups}
use Rattle.txn_machine.specs.Entries.{AgreeAt, NeedsAt}
use Rattle.txn_machine.specs.Fresh.{fresh}
use Rattle.txn_machine.specs.Ghosts.{the_views}
use Rattle.txn_machine.proofs.Summing.{sum_law, none_law}
use Rattle.txn_machine.specs.ViewLaws.{ViewLaws, AreSound, IsRight, IsJoin, IsJoined, primary, secondary}
use Rattle.txn_machine.proofs.Agreeing.{written_same, written_at, written_other, agree_first, agree_back}
use Rattle.table_laws.proofs.Stored.{by_session}
use Rattle.txn_machine.proofs.Columns.{and_true}
use Rattle.txn_machine.proofs.Reading.{both_true, same_passing, filter_rows, table_entry, index_entry}
use Rattle.txn_machine.proofs.Holding.{contains_here, contains_next, table_is, in_point}
use Rattle.txn_machine.proofs.Making.{each_view, made_law}
use Rattle.iv_types.proofs.Fitting.{lies_so}

-- ---- equal lists

same_sums : (s : List ℤ) → slice_cmp int_cmp s s ≡ Equal
same_sums [] = refl
same_sums (x ∷ s) = ap (λ o. ordering_then o (slice_cmp int_cmp s s)) (tied_itself int_cmp_total x) ∙ same_sums s

equal_itself : (xs : List GroupDelta) → are_equal xs xs ≡ true
equal_itself [] = refl
equal_itself (x ∷ xs) = and_true (bytes_eq x.group x.group && is_eq (slice_cmp int_cmp x.sums x.sums)) (are_equal xs xs)
    (and_true (bytes_eq x.group x.group) (is_eq (slice_cmp int_cmp x.sums x.sums)) ((bytes_eq-Decides x.group x.group).1 refl) (ap is_eq (same_sums x.sums))) (equal_itself xs)

pub exchanged_none : (xs ys : List GroupDelta) → xs ≡ ys → exchanged xs ys ≡ []
exchanged_none xs ys e = ap (exchanged xs) (sym e) ∙ ap (λ b. cond b [] (map negated xs ++ xs)) (equal_itself xs)

-- ---- places of a table

pub all_of_list : {X : Type 0} (P : X → Type 0) (xs : List X) → ((x : X) → Contains xs x → P x) → AllByRecursion P xs
all_of_list P [] h = tt
all_of_list P (x ∷ xs) h = (h x (contains_here x xs), all_of_list P xs (λ y c. h y (contains_next x xs y c)))

pub all_entries : (P : Place × Row → Type 0) (m : Rows) → ((k : Place) (r : Row) → get m k ≡ Some r → P (k, r)) → AllByRecursion P (entries m)
all_entries P m h = all_of_list P (entries m) (λ e c. h e.0 e.1 ((Contains-entries place_cmp_total place_cmp-IsAntisymmetric m e.0 e.1).0 c))

abbrev keys : List (Place × Row) → List Place
keys es = map (λ (e : Place × Row). e.0) es

restrict : (f : Place → List GroupDelta) (t u : Place → Row → Bool) (es : List (Place × Row)) → AllByRecursion (λ (e : Place × Row). t e.0 e.1 ≡ true → u e.0 e.1 ≡ false → f e.0 ≡ []) es
    → flat_map f (keys (rows_where t es)) ≡ flat_map f (keys (rows_where (λ k r. t k r && u k r) es))
restrict f t u [] h = refl
restrict f t u (e ∷ es) h =
    let rest = restrict f t u es h.1 in
    elim (t e.0 e.1) as (λ b. t e.0 e.1 ≡ b → flat_map f (keys (cond b (e ∷ rows_where t es) (rows_where t es))) ≡ flat_map f (keys (cond (b && u e.0 e.1) (e ∷ rows_where (λ k r. t k r && u k r) es) (rows_where (λ k r. t k r && u k r) es)))) [
      | false ↦ λ i. rest
      | true ↦ λ i. elim (u e.0 e.1) as (λ b. u e.0 e.1 ≡ b → f e.0 ++ flat_map f (keys (rows_where t es)) ≡ flat_map f (keys (cond b (e ∷ rows_where (λ k r. t k r && u k r) es) (rows_where (λ k r. t k r && u k r) es)))) [
        | true ↦ λ j. ap (λ l. f e.0 ++ l) rest
        | false ↦ λ j. ap (λ l. l ++ flat_map f (keys (rows_where t es))) (h.0 i j) ∙ rest
      ] refl
    ] refl

flat_where : (f g : Place → List GroupDelta) (t : Place → Row → Bool) (es : List (Place × Row)) → AllByRecursion (λ (e : Place × Row). t e.0 e.1 ≡ true → f e.0 ≡ g e.0) es
    → flat_map f (keys (rows_where t es)) ≡ flat_map g (keys (rows_where t es))
flat_where f g t [] h = refl
flat_where f g t (e ∷ es) h =
    let rest = flat_where f g t es h.1 in
    elim (t e.0 e.1) as (λ b. t e.0 e.1 ≡ b → flat_map f (keys (cond b (e ∷ rows_where t es) (rows_where t es))) ≡ flat_map g (keys (cond b (e ∷ rows_where t es) (rows_where t es)))) [
      | false ↦ λ i. rest
      | true ↦ λ i. λ x. h.0 i x ++ rest x
    ] refl

rows_of_other : (m : Rows) (key : Place) (new : Option Row) (n : ℕ) → key.0 ≢ n → rows_of (write m key new) n ≡ rows_of m n
rows_of_other m key new n d = ap (map (λ (e : Place × Row). e.1)) (rows_where_same place_cmp_total place_cmp-IsAntisymmetric (λ place row. place.0 == n) (write m key new) m (λ q. same_passing (λ row. q.0 == n) (get (write m key new) q) (get m q)
    (λ r e t. sym (written_other m key new q (λ i. d (sym (ap (λ (x : Place). x.0) i) ∙ eqb-true q.0 n t))) ∙ e)
    (λ r e t. written_other m key new q (λ i. d (sym (ap (λ (x : Place). x.0) i) ∙ eqb-true q.0 n t)) ∙ e)))

-- the table whose places are gone through
abbrev around : RowChange → Rows → Rows
around c m = elim c.after [ None ↦ m | Some row ↦ rows_after c m ]

around_other : (c : RowChange) (m : Rows) (q : Place) → q ≢ c.key → get (around c m) q ≡ get m q
around_other c m q d = go c.after
  where
    go : (o : Option Row) → get (elim o as (λ (o : Option Row). Rows) [ None ↦ m | Some row ↦ rows_after c m ]) q ≡ get m q
    go None = refl
    go (Some row) = written_other m c.key c.after q d

-- where both were told the row that was there, they have the same under the key
around_here : (c : RowChange) (m n : Rows) → c.before ≡ get m c.key → c.before ≡ get n c.key → get (around c m) c.key ≡ get (around c n) c.key
around_here c m n a b = go c.after
  where
    go : (o : Option Row) → get (elim o as (λ (o : Option Row). Rows) [ None ↦ m | Some row ↦ rows_after c m ]) c.key ≡ get (elim o as (λ (o : Option Row). Rows) [ None ↦ n | Some row ↦ rows_after c n ]) c.key
    go None = sym a ∙ b
    go (Some row) = written_same m c.key c.after ∙ sym (written_same n c.key c.after)

-- ---- conditions

true_both : (a b : Outcome) → is_true (both a b) ≡ true → (is_true a ≡ true) × (is_true b ≡ true)
true_both a b h = go (is_false a || is_false b) (is_true a && is_true b) refl h
  where
    go : (f t : Bool) → (is_true a && is_true b) ≡ t → is_true (cond f (truth false) (cond t (truth true) refused)) ≡ true → (is_true a ≡ true) × (is_true b ≡ true)
    go true t e h = absurd (false≢true h)
    go false true e h = both_true (is_true a) (is_true b) e
    go false false e h = absurd (false≢true h)

equal_is : (o : Ordering) → is_eq o ≡ true → o ≡ Equal
equal_is Less e = absurd (false≢true e)
equal_is Equal e = refl
equal_is Greater e = absurd (false≢true e)

-- what an expression sees of a column: its number or text, or nothing
abbrev IsSeen : Option Value → Outcome → Type 0
IsSeen a (number n) = a ≡ Some (Number n)
IsSeen a (word w) = a ≡ Some (Word w)
IsSeen a (truth b) = Unit {0}
IsSeen a refused = Unit {0}

is_seen : (a : Option Value) → IsSeen a (outcome_of a)
is_seen None = tt
is_seen (Some (Number n)) = elim (is_huge n) as (λ b. IsSeen (Some (Number n)) (cond b (number n) refused)) [ true ↦ refl | false ↦ tt ]
is_seen (Some (Word w)) = refl

same_by : (a b : Option Value) (m n : Outcome) → IsSeen a m → IsSeen b n → is_true (compared (holds Same) m n) ≡ true → (x : Value) × (a ≡ Some x) × (b ≡ Some x)
same_by a b (number m) (number n) s t h =
    let e : m ≡ n = int_cmp-IsAntisymmetric m n (equal_is (int_cmp m n) h) in
    (Number m, s, t ∙ ap (λ x. Some (Number x)) (sym e))
same_by a b (word m) (word n) s t h =
    let e : m ≡ n = slice_cmp-IsAntisymmetric nat_cmp-IsAntisymmetric m n (equal_is (slice_cmp nat_cmp m n) h) in
    (Word m, s, t ∙ ap (λ x. Some (Word x)) (sym e))
same_by a b (number m) (word n) s t h = absurd (false≢true h)
same_by a b (number m) (truth n) s t h = absurd (false≢true h)
same_by a b (number m) refused s t h = absurd (false≢true h)
same_by a b (word m) (number n) s t h = absurd (false≢true h)
same_by a b (word m) (truth n) s t h = absurd (false≢true h)
same_by a b (word m) refused s t h = absurd (false≢true h)
same_by a b (truth m) (number n) s t h = absurd (false≢true h)
same_by a b (truth m) (word n) s t h = absurd (false≢true h)
same_by a b (truth m) (truth n) s t h = absurd (false≢true h)
same_by a b (truth m) refused s t h = absurd (false≢true h)
same_by a b refused (number n) s t h = absurd (false≢true h)
same_by a b refused (word n) s t h = absurd (false≢true h)
same_by a b refused (truth n) s t h = absurd (false≢true h)
same_by a b refused refused s t h = absurd (false≢true h)

-- columns that are compared and found equal have one value
same_values : (a b : Option Value) → is_true (compared (holds Same) (outcome_of a) (outcome_of b)) ≡ true → (x : Value) × (a ≡ Some x) × (b ≡ Some x)
same_values a b h = same_by a b (outcome_of a) (outcome_of b) (is_seen a) (is_seen b) h

-- rows that meet the join conditions have the same values there
joined_values : (joined place_s : List ℕ) (more : List Tree) (r s : Row) → length joined ≡ length place_s
    → is_true (conjunction (join_conditions joined place_s ++ more) (r ∷ s ∷ [])) ≡ true → items_at s place_s ≡ items_at r joined
joined_values [] [] more r s l h = refl
joined_values [] (p ∷ ps) more r s l h = absurd (omega (arith, l))
joined_values (j ∷ js) [] more r s l h = absurd (omega (arith, l))
joined_values (j ∷ js) (p ∷ ps) more r s l h =
    let parts = true_both (meaning (syntax_tree.pair Same (syntax_tree.at (record { source = 0; column = j })) (syntax_tree.at (record { source = 1; column = p }))) (r ∷ s ∷ [])) (conjunction (join_conditions js ps ++ more) (r ∷ s ∷ [])) h in
    let one = same_values (slice_get r j) (slice_get s p) parts.0 in
    let rest : items_at s ps ≡ items_at r js = joined_values js ps more r s (omega (arith, l)) parts.1 in
    λ i. cons_option ((one.2 ∙ sym one.1) i) (rest i)

-- ---- keys that begin alike

from_prefix : (p q : List ℕ) → slice_cmp nat_cmp p (p ++ q) ≢ Greater
from_prefix [] [] e = cc
from_prefix [] (x ∷ q) e = cc
from_prefix (x ∷ p) q e = from_prefix p q (sym (ap (λ o. ordering_then o (slice_cmp nat_cmp p (p ++ q))) (tied_itself nat_cmp_total x)) ∙ e)

below_next : (p q : List ℕ) → IfSome (next p) (λ h. IsBelow (p ++ q) h)
below_next [] q = tt
below_next (b ∷ p) q = go (next p) (below_next p q)
  where
    last : (t : Bool) → IfSome (cond t None (Some ((b + 1) ∷ []))) (λ h. IsBelow ((b ∷ p) ++ q) h)
    last true = tt
    last false = ap (λ o. ordering_then o (slice_cmp nat_cmp (p ++ q) [])) (one_more b)
      where
        one_more : (x : ℕ) → nat_cmp x (x + 1) ≡ Less
        one_more x = sym (nat_cmp_is x (x + 1) Less (omega arith))

    go : (o : Option (List ℕ)) → IfSome o (λ h. IsBelow (p ++ q) h) → IfSome (elim o as (λ (o : Option (List ℕ)). Option (List ℕ)) [ Some more ↦ Some (b ∷ more) | None ↦ cond (b == 255) None (Some ((b + 1) ∷ [])) ]) (λ h. IsBelow ((b ∷ p) ++ q) h)
    go None h = last (b == 255)
    go (Some more) h = ap (λ o. ordering_then o (slice_cmp nat_cmp (p ++ q) more)) (tied_itself nat_cmp_total b) ∙ h

pub in_prefix : (p q : List ℕ) → LiesIn (p ++ q) (prefix_interval p)
in_prefix p q = lies_so (p ++ q) (prefix_interval p) (from_prefix p q) (below_next p q)

key_split : (ks js : List Kind) (vs ws : List Value) → FitAll ks vs → key_bytes (ks ++ js) (vs ++ ws) ≡ key_bytes ks vs ++ key_bytes js ws
key_split [] js [] ws f = refl
key_split [] js (v ∷ vs) ws f = absurd f
key_split (k ∷ ks) js [] ws f = absurd f
key_split (k ∷ ks) js (v ∷ vs) ws f =
    ap (λ l. key_value_bytes k v ++ l) (key_split ks js vs ws f.1) ∙ sym (append_assoc (key_value_bytes k v) (key_bytes ks vs) (key_bytes js ws))

-- the values at places of a row that fits
pub fits_at : (ks : List Kind) (vs : List Value) (p : ℕ) → FitAll ks vs → p < length ks → (k : Kind) × (v : Value) × (slice_get ks p ≡ Some k) × (slice_get vs p ≡ Some v) × Fits k v
fits_at [] vs p f l = absurd (omega (arith, l))
fits_at (k ∷ ks) [] p f l = absurd f
fits_at (k ∷ ks) (v ∷ vs) zero f l = (k, v, refl, refl, f.0)
fits_at (k ∷ ks) (v ∷ vs) (suc p) f l = fits_at ks vs p f.1 (omega (arith, l))

items_fit : (ks : List Kind) (vs : List Value) (places : List ℕ) → FitAll ks vs → AllByRecursion (λ p. p < length ks) places → FitAll (items_at ks places) (items_at vs places)
items_fit ks vs [] f h = tt
items_fit ks vs (p ∷ places) f h =
    let one = fits_at ks vs p f h.0 in
    subst (λ (o : Option Kind). FitAll (cons_option o (items_at ks places)) (cons_option (slice_get vs p) (items_at vs places))) (sym one.2)
    (subst (λ (o : Option Value). FitAll (one.0 ∷ items_at ks places) (cons_option o (items_at vs places))) (sym one.3) (one.4, items_fit ks vs places f h.1))

-- ---- one view

module _ (objects : Schema) (v : ViewTree) where
  abbrev of : Rows → Option Row → List GroupDelta
  of m o = contributions objects v m o

  -- what is owed for a place
  abbrev exchange : RowChange → Rows → Place → List GroupDelta
  exchange c m k = exchanged (of m (get m k)) (of (rows_after c m) (get (rows_after c m) k))

  by_others : (m n : Rows) (o : Option Row) → other_rows m v ≡ other_rows n v → of m o ≡ of n o
  by_others m n None e = refl
  by_others m n (Some r) e = ap (λ (l : List (List Row)). map (contribution objects v) (filter (is_counted objects v) (map (λ (rest : Combination). r ∷ rest) (combinations l)))) e

  abbrev in_first : Place → Row → Bool
  in_first k r = k.0 == v.first

  -- what is to be shown of two tables and the rows that matter
  record Alike (c : RowChange) (u : Place → Row → Bool) (m n : Rows) : Type 0 where
    none : (k : Place) (r : Row) → get (around c m) k ≡ Some r → k.0 ≡ v.first → u k r ≡ false → exchange c m k ≡ []
    none_other : (k : Place) (r : Row) → get (around c n) k ≡ Some r → k.0 ≡ v.first → u k r ≡ false → exchange c n k ≡ []
    same : (k : Place) (r : Row) → get (around c m) k ≡ Some r → k.0 ≡ v.first → u k r ≡ true → exchange c m k ≡ exchange c n k
    there : (k : Place) (r : Row) → get (around c m) k ≡ Some r → k.0 ≡ v.first → u k r ≡ true → get (around c n) k ≡ Some r
    back : (k : Place) (r : Row) → get (around c n) k ≡ Some r → k.0 ≡ v.first → u k r ≡ true → get (around c m) k ≡ Some r

  owed_alike : (c : RowChange) (u : Place → Row → Bool) (m n : Rows) → Alike c u m n → owed_to objects m c v ≡ owed_to objects n c v
  owed_alike c u m n a =
      let both : Place → Row → Bool = λ k r. in_first k r && u k r in
      restrict (exchange c m) in_first u (entries (around c m)) (all_entries (λ (e : Place × Row). in_first e.0 e.1 ≡ true → u e.0 e.1 ≡ false → exchange c m e.0 ≡ []) (around c m) (λ k r e t f. a.none k r e (eqb-true k.0 v.first t) f))
      ∙ (flat_where (exchange c m) (exchange c n) both (entries (around c m)) (all_entries (λ (e : Place × Row). both e.0 e.1 ≡ true → exchange c m e.0 ≡ exchange c n e.0) (around c m) (λ k r e t. let p = both_true (in_first k r) (u k r) t in a.same k r e (eqb-true k.0 v.first p.0) p.1))
      ∙ (ap (λ l. flat_map (exchange c n) (keys l)) (rows_where_same place_cmp_total place_cmp-IsAntisymmetric both (around c m) (around c n) (λ q. same_passing (both q) (get (around c m) q) (get (around c n) q)
      (λ r e t. let p = both_true (in_first q r) (u q r) t in a.there q r e (eqb-true q.0 v.first p.0) p.1)
      (λ r e t. let p = both_true (in_first q r) (u q r) t in a.back q r e (eqb-true q.0 v.first p.0) p.1)))
      ∙ sym (restrict (exchange c n) in_first u (entries (around c n)) (all_entries (λ (e : Place × Row). in_first e.0 e.1 ≡ true → u e.0 e.1 ≡ false → exchange c n e.0 ≡ []) (around c n) (λ k r e t f. a.none_other k r e (eqb-true k.0 v.first t) f)))))

  -- a place that is not the change's, of a view whose other table does not change
  unchanged : (c : RowChange) (m : Rows) (k : Place) → other_rows (rows_after c m) v ≡ other_rows m v → k ≢ c.key → exchange c m k ≡ []
  unchanged c m k others d = exchanged_none (of m (get m k)) (of (rows_after c m) (get (rows_after c m) k))
      (sym (by_others (rows_after c m) m (get m k) others) ∙ ap (of (rows_after c m)) (sym (written_other m c.key c.after k d)))

  -- a change of neither table
  neither : (c : RowChange) (m n : Rows) → c.key.0 ≢ v.first → other_rows (rows_after c m) v ≡ other_rows m v → other_rows (rows_after c n) v ≡ other_rows n v → owed_to objects m c v ≡ owed_to objects n c v
  neither c m n d om on = owed_alike c (λ k r. false) m n (record {
    none = λ k r e f u. unchanged c m k om (λ i. d (sym (ap (λ (x : Place). x.0) i) ∙ f));
    none_other = λ k r e f u. unchanged c n k on (λ i. d (sym (ap (λ (x : Place). x.0) i) ∙ f));
    same = λ k r e f u. absurd (false≢true u);
    there = λ k r e f u. absurd (false≢true u);
    back = λ k r e f u. absurd (false≢true u);
  })

  at_key : (c : RowChange) (k : Place) → c.key.0 ≡ v.first → k.0 ≡ v.first → bytes_eq k.1 c.key.1 ≡ true → k ≡ c.key
  at_key c k f g t = λ i. ((g ∙ sym f) i, (bytes_eq-Decides k.1 c.key.1).0 t i)

  off_key : (c : RowChange) (k : Place) → bytes_eq k.1 c.key.1 ≡ false → k ≢ c.key
  off_key c k t i = false≢true (sym t ∙ (bytes_eq-Decides k.1 c.key.1).1 (ap (λ (x : Place). x.1) i))

  -- a change of the first table
  of_first : (c : RowChange) (m n : Rows) → c.key.0 ≡ v.first → c.before ≡ get m c.key → c.before ≡ get n c.key
      → other_rows (rows_after c m) v ≡ other_rows m v → other_rows (rows_after c n) v ≡ other_rows n v
      → of m c.before ≡ of n c.before → of m c.after ≡ of n c.after → owed_to objects m c v ≡ owed_to objects n c v
  of_first c m n f a b om on before after =
      let here : exchange c m c.key ≡ exchange c n c.key =
      λ i. exchanged
      ((ap (of m) (sym a) ∙ (before ∙ ap (of n) b)) i)
      ((ap (of (rows_after c m)) (written_same m c.key c.after) ∙ (by_others (rows_after c m) m c.after om ∙ (after ∙ (sym (by_others (rows_after c n) n c.after on) ∙ sym (ap (of (rows_after c n)) (written_same n c.key c.after)))))) i) in
      owed_alike c (λ k r. bytes_eq k.1 c.key.1) m n (record {
        none = λ k r e g u. unchanged c m k om (off_key c k u);
        none_other = λ k r e g u. unchanged c n k on (off_key c k u);
        same = λ k r e g u. let i = at_key c k f g u in ap (exchange c m) i ∙ (here ∙ sym (ap (exchange c n) i));
        there = λ k r e g u. let i = at_key c k f g u in ap (get (around c n)) i ∙ (sym (around_here c m n a b) ∙ (sym (ap (get (around c m)) i) ∙ e));
        back = λ k r e g u. let i = at_key c k f g u in ap (get (around c m)) i ∙ (around_here c m n a b ∙ (sym (ap (get (around c n)) i) ∙ e));
      })

-- ---- a view of two tables

contains_flat : {X Y : Type 0} (f : X → List Y) (xs : List X) (x : X) (y : Y) → Contains xs x → Contains (f x) y → Contains (flat_map f xs) y
contains_flat f [] x y c h = absurd (let below = c.1 in omega arith)
contains_flat f (z ∷ xs) x y (zero, below, is) h = Contains-append_left (f z) (flat_map f xs) y (subst (λ w. Contains (f w) y) (sym is) h)
contains_flat f (z ∷ xs) x y (suc k, below, is) h = Contains-append_right (f z) (flat_map f xs) y (contains_flat f xs x y (k, omega (arith, below), is) h)

in_option : (o : Option Row) (r : Row) → o ≡ Some r → Contains (option_to_list o) r
in_option o r e = subst (λ (x : Option Row). Contains (option_to_list x) r) (sym e) (contains_here r [])

module _ (objects : Schema) (v : ViewTree) (second : Second) (is_second : v.second ≡ Some second) (j : IsJoin objects v second) where
  abbrev pub counted : Row → Row → Bool
  counted r s = is_counted objects v (r ∷ s ∷ [])

  -- the key of the row with which a row of the first table is combined
  abbrev pub joined_key : Row → List ℕ
  joined_key r = key_bytes (key_kinds j.other) (items_at r second.joined)

  abbrev pub joined_place : Row → Place
  joined_place r = (second.table, joined_key r)

  others_are : (m : Rows) → other_rows m v ≡ rows_of m second.table ∷ []
  others_are m = ap (λ (o : Option Second). option_map_or (λ (s : Second). rows_of m s.table ∷ []) o []) is_second

  chosen_rows : (r : Row) (rs : List Row) → filter (is_counted objects v) (map (λ (rest : Combination). r ∷ rest) (combinations (rs ∷ []))) ≡ map (λ s. r ∷ s ∷ []) (filter (counted r) rs)
  chosen_rows r [] = refl
  chosen_rows r (s ∷ rs) = elim (counted r s) as (λ b. cond b ((r ∷ s ∷ []) ∷ filter (is_counted objects v) (map (λ (rest : Combination). r ∷ rest) (combinations (rs ∷ [])))) (filter (is_counted objects v) (map (λ (rest : Combination). r ∷ rest) (combinations (rs ∷ []))))
      ≡ map (λ s. r ∷ s ∷ []) (cond b (s ∷ filter (counted r) rs) (filter (counted r) rs))) [
        | true ↦ ap (λ (l : List Combination). (r ∷ s ∷ []) ∷ l) (chosen_rows r rs)
        | false ↦ chosen_rows r rs
      ]

  abbrev pub found : Rows → Row → List Row
  found m r = map (λ (e : Place × Row). e.1) (rows_where (λ place s. (place.0 == second.table) && counted r s) (entries m))

  pub of_row : (m : Rows) (r : Row) → of objects v m (Some r) ≡ map (contribution objects v) (map (λ s. r ∷ s ∷ []) (found m r))
  of_row m r = ap (map (contribution objects v))
      (ap (λ (l : List (List Row)). filter (is_counted objects v) (map (λ (rest : Combination). r ∷ rest) (combinations l))) (others_are m)
      ∙ (chosen_rows r (rows_of m second.table) ∙ ap (map (λ s. r ∷ s ∷ [])) (filter_rows second.table (counted r) (entries m))))

  conditions_are : conditions_of objects v ≡ join_conditions second.joined j.other.primary ++ option_to_list v.condition
  conditions_are =
      ap (λ (o : Option Second). option_map_or (λ (s : Second). join_conditions s.joined (primary_of (numbered objects s.table))) o [] ++ option_to_list v.condition) is_second
      ∙ ap (λ (o : Option Object). join_conditions second.joined (primary_of o) ++ option_to_list v.condition) j.other_is

  -- a row that is combined stands under the joined key
  pub found_at : (m : Rows) → AreSound objects m → (r : Row) (q : Place) (s : Row) → get m q ≡ Some s → ((q.0 == second.table) && counted r s) ≡ true → q ≡ joined_place r
  found_at m sound r q s e t =
      let parts = both_true (q.0 == second.table) (counted r s) t in
      let number_is : q.0 ≡ second.table = eqb-true q.0 second.table parts.0 in
      let row : IsRow objects q s = sound.rows q s e in
      let same : row.of ≡ j.other = some_def row.of j.other (sym row.table_is ∙ (ap (numbered objects) number_is ∙ j.other_is)) in
      let values : items_at s j.other.primary ≡ items_at r second.joined = joined_values second.joined j.other.primary (option_to_list v.condition) r s j.all (sym (ap (λ (l : List Tree). is_true (conjunction l (r ∷ s ∷ []))) conditions_are) ∙ parts.1) in
      let key_is : q.1 ≡ joined_key r = row.key ∙ (ap (λ (u : TableDef). key_of u s) same ∙ ap (key_bytes (key_kinds j.other)) values) in
      λ i. (number_is i, key_is i)
    where
      some_def : (t u : TableDef) → Some (table t) ≡ Some (table u) → t ≡ u
      some_def t u e = cc

  -- what a row adds depends on the row with which it is combined
  of_depends : (m n : Rows) → AreSound objects m → AreSound objects n → (r : Row) → get m (joined_place r) ≡ get n (joined_place r) → of objects v m (Some r) ≡ of objects v n (Some r)
  of_depends m n sm sn r e =
      of_row m r
      ∙ (ap (λ l. map (contribution objects v) (map (λ s. r ∷ s ∷ []) (map (λ (x : Place × Row). x.1) l)))
      (rows_where_same place_cmp_total place_cmp-IsAntisymmetric (λ place s. (place.0 == second.table) && counted r s) m n (λ q. same_passing (λ s. (q.0 == second.table) && counted r s) (get m q) (get n q)
      (λ s g t. let i = found_at m sm r q s g t in ap (get n) i ∙ (sym e ∙ (sym (ap (get m) i) ∙ g)))
      (λ s g t. let i = found_at n sn r q s g t in ap (get m) i ∙ (e ∙ (sym (ap (get n) i) ∙ g)))))
      ∙ sym (of_row n r))

  pub others_stay : (c : RowChange) (m : Rows) → c.key.0 ≢ second.table → other_rows (rows_after c m) v ≡ other_rows m v
  others_stay c m d = others_are (rows_after c m) ∙ (ap (λ (l : List Row). l ∷ []) (rows_of_other m c.key c.after second.table d) ∙ sym (others_are m))

  -- the key in the view's index of a row that joins a key of the second table begins with that key
  pub begins : (key : List ℕ) (r : Row) (more : List ℕ) → FitAll (kinds_of j.first) r → joined_key r ≡ key
      → key_bytes (items_at (kinds_of j.first) (second.joined ++ more)) (items_at r (second.joined ++ more)) ≡ key ++ key_bytes (items_at (kinds_of j.first) more) (items_at r more)
  begins key r more fits e =
      (λ i. key_bytes (filter_map-append (slice_get (kinds_of j.first)) second.joined more i) (filter_map-append (slice_get r) second.joined more i))
      ∙ (key_split (items_at (kinds_of j.first) second.joined) (items_at (kinds_of j.first) more) (items_at r second.joined) (items_at r more) (items_fit (kinds_of j.first) r second.joined fits (column_places j.first second.joined j.columns))
      ∙ ap (λ l. l ++ key_bytes (items_at (kinds_of j.first) more) (items_at r more)) (ap (λ (ks : List Kind). key_bytes ks (items_at r second.joined)) j.kinds ∙ e))
    where
      column_places : (t : TableDef) (places : List ℕ) → AreColumns t places → AllByRecursion (λ p. p < length (kinds_of t)) places
      column_places t places h = subst (λ l. AllByRecursion (λ p. p < l) places) (sym (length-map t.columns (λ column. column.kind))) (recursion_from_All (λ p. p < length t.columns) places h)

  -- ---- what is looked up

  module _ (c : RowChange) (m n : Rows) (rm : IsRight objects m c) (rn : IsRight objects n c) (agree : (w : Want) → Contains (look_ups objects c v) w → (key : List ℕ) → LiesIn key w.interval → AgreeAt objects w.index key m n) where
    looks_first : c.key.0 ≡ v.first → look_ups objects c v ≡ flat_map (look_up_second objects second) (option_to_list c.before ++ option_to_list c.after)
    looks_first f =
        ap (λ (o : Option Second). elim o as (λ (o : Option Second). List Want) [ None ↦ [] | Some s ↦ cond (c.key.0 == v.first) (flat_map (look_up_second objects s) (option_to_list c.before ++ option_to_list c.after)) (cond (c.key.0 == s.table) (look_up_first objects s c.key.1) []) ]) is_second
        ∙ ap (λ b. cond b (flat_map (look_up_second objects second) (option_to_list c.before ++ option_to_list c.after)) (cond (c.key.0 == second.table) (look_up_first objects second c.key.1) [])) (eq-eqb c.key.0 v.first f)

    second_want : Row → Want
    second_want r = record { index = second.table; interval = point (joined_key r); mode = Share }

    second_looked : (r : Row) → look_up_second objects second r ≡ second_want r ∷ []
    unfolding second_want
    second_looked r = ap (λ (o : Option Object). elim o as (λ (o : Option Object). List Want) [ Some (table t) ↦ record { index = second.table; interval = point (key_bytes (key_kinds t) (items_at r second.joined)); mode = Share } ∷ [] | _ ↦ [] ]) j.other_is

    agree_second : c.key.0 ≡ v.first → (r : Row) → Contains (option_to_list c.before ++ option_to_list c.after) r → get m (joined_place r) ≡ get n (joined_place r)
    unfolding second_want
    agree_second f r is =
        let wanted : Contains (look_ups objects c v) (second_want r) = subst (λ l. Contains l (second_want r)) (sym (looks_first f))
        (contains_flat (look_up_second objects second) (option_to_list c.before ++ option_to_list c.after) r (second_want r) is (subst (λ l. Contains l (second_want r)) (sym (second_looked r)) (contains_here (second_want r) []))) in
        agree_first objects m n (joined_place r) (agree (second_want r) wanted (joined_key r) (in_point (joined_key r)))

    first_same : (o : Option Row) → ((r : Row) → o ≡ Some r → Contains (option_to_list c.before ++ option_to_list c.after) r) → c.key.0 ≡ v.first → of objects v m o ≡ of objects v n o
    first_same None h f = refl
    first_same (Some r) h f = of_depends m n rm.sound rn.sound r (agree_second f r (h r refl))

    changes_first : c.key.0 ≡ v.first → owed_to objects m c v ≡ owed_to objects n c v
    changes_first f =
        let apart : c.key.0 ≢ second.table = λ e. j.differ (sym e ∙ f) in
        of_first objects v c m n f rm.told rn.told (others_stay c m apart) (others_stay c n apart)
        (first_same c.before (λ r e. Contains-append_left (option_to_list c.before) (option_to_list c.after) r (in_option c.before r e)) f)
        (first_same c.after (λ r e. Contains-append_right (option_to_list c.before) (option_to_list c.after) r (in_option c.after r e)) f)

    -- ---- a change of the second table

    module _ (f : c.key.0 ≡ second.table) where
      apart_first : c.key.0 ≢ v.first
      apart_first e = j.differ (sym f ∙ e)

      looks_second : look_ups objects c v ≡ look_up_first objects second c.key.1
      looks_second =
          ap (λ (o : Option Second). elim o as (λ (o : Option Second). List Want) [ None ↦ [] | Some s ↦ cond (c.key.0 == v.first) (flat_map (look_up_second objects s) (option_to_list c.before ++ option_to_list c.after)) (cond (c.key.0 == s.table) (look_up_first objects s c.key.1) []) ]) is_second
          ∙ (ap (λ b. cond b (flat_map (look_up_second objects second) (option_to_list c.before ++ option_to_list c.after)) (cond (c.key.0 == second.table) (look_up_first objects second c.key.1) [])) (ne_eqb c.key.0 v.first apart_first)
          ∙ ap (λ b. cond b (look_up_first objects second c.key.1) []) (eq-eqb c.key.0 second.table f))

      agree_prefix : (key rest : List ℕ) → key ≡ c.key.1 ++ rest → AgreeAt objects second.index key m n
      agree_prefix key rest e =
          agree (record { index = second.index; interval = prefix_interval c.key.1; mode = Share })
          (subst (λ l. Contains l (record { index = second.index; interval = prefix_interval c.key.1; mode = Share })) (sym looks_second) (contains_here (record { index = second.index; interval = prefix_interval c.key.1; mode = Share }) []))
          key (subst (λ k. LiesIn k (prefix_interval c.key.1)) (sym e) (in_prefix c.key.1 rest))

      joining_agrees : (a b : Rows) → AreSound objects a → ((key rest : List ℕ) → key ≡ c.key.1 ++ rest → AgreeAt objects second.index key a b) → (q : Place) (r : Row) → get a q ≡ Some r → q.0 ≡ v.first → joined_key r ≡ c.key.1 → get b q ≡ Some r
      joining_agrees a b sa ag q r e g k =
          let row : IsRow objects q r = sa.rows q r e in
          let same : row.of ≡ j.first = some_def row.of j.first (sym row.table_is ∙ (ap (numbered objects) g ∙ j.first_is)) in
          let fits : FitAll (kinds_of j.first) r = subst (λ (u : TableDef). FitAll (kinds_of u) r) same row.fits in
          let first_number : j.first.number ≡ v.first = table_is objects a v.first j.first sa j.first_is in
          elim j.begins [
            | primary more number_is primary_is ↦
                let at_index : second.index ≡ q.0 = number_is ∙ (first_number ∙ sym g) in
                let key_is : key_of j.first r ≡ c.key.1 ++ key_bytes (items_at (kinds_of j.first) more) (items_at r more) =
                ap (λ (l : List ℕ). key_bytes (items_at (kinds_of j.first) l) (items_at r l)) primary_is ∙ begins c.key.1 r more fits k in
                (ag (key_of j.first r) (key_bytes (items_at (kinds_of j.first) more) (items_at r more)) key_is).there q r
                (table_entry objects a sa second.index j.first (ap (numbered objects) (at_index ∙ g) ∙ j.first_is) q r (sym at_index) e) e
            | secondary i more index_is table_of columns_are ↦
                let key_is : index_key j.first i r ≡ c.key.1 ++ key_bytes (items_at (kinds_of j.first) (more ++ j.first.primary)) (items_at r (more ++ j.first.primary)) =
                ap (λ (l : List ℕ). key_bytes (items_at (kinds_of j.first) l) (items_at r l)) (ap (λ (l : List ℕ). l ++ j.first.primary) columns_are ∙ append_assoc second.joined more j.first.primary) ∙ begins c.key.1 r (more ++ j.first.primary) fits k in
                (ag (index_key j.first i r) (key_bytes (items_at (kinds_of j.first) (more ++ j.first.primary)) (items_at r (more ++ j.first.primary))) key_is).there q r
                (index_entry objects a sa second.index i j.first index_is (ap (numbered objects) (table_of ∙ first_number) ∙ j.first_is) q r (g ∙ sym (table_of ∙ first_number)) e) e
          ]
        where
          some_def : (t u : TableDef) → Some (table t) ≡ Some (table u) → t ≡ u
          some_def t u e = cc

      off_second : (a : Rows) → AreSound objects a → AreSound objects (rows_after c a) → (k : Place) (r : Row) → get a k ≡ Some r → k ≢ c.key → bytes_eq (joined_key r) c.key.1 ≡ false → exchange objects v c a k ≡ []
      off_second a sa sn k r e d u = exchanged_none (of objects v a (get a k)) (of objects v (rows_after c a) (get (rows_after c a) k))
          (ap (of objects v a) e
          ∙ (of_depends a (rows_after c a) sa sn r (sym (written_other a c.key c.after (joined_place r) (λ i. false≢true (sym u ∙ (bytes_eq-Decides (joined_key r) c.key.1).1 (ap (λ (x : Place). x.1) i)))))
          ∙ sym (ap (of objects v (rows_after c a)) (written_other a c.key c.after k d ∙ e))))

      not_key : (k : Place) → k.0 ≡ v.first → k ≢ c.key
      not_key k g i = apart_first (sym (ap (λ (x : Place). x.0) i) ∙ g)

      changes_second : owed_to objects m c v ≡ owed_to objects n c v
      changes_second =
          let place_is : (r : Row) → bytes_eq (joined_key r) c.key.1 ≡ true → joined_place r ≡ c.key = λ r u i. (sym f i, (bytes_eq-Decides (joined_key r) c.key.1).0 u i) in
          owed_alike objects v c (λ k r. bytes_eq (joined_key r) c.key.1) m n (record {
            none = λ k r e g u. off_second m rm.sound rm.after k r (sym (around_other c m k (not_key k g)) ∙ e) (not_key k g) u;
            none_other = λ k r e g u. off_second n rn.sound rn.after k r (sym (around_other c n k (not_key k g)) ∙ e) (not_key k g) u;
            same = λ k r e g u.
                let here : get m k ≡ Some r = sym (around_other c m k (not_key k g)) ∙ e in
                let other : get n k ≡ Some r = joining_agrees m n rm.sound agree_prefix k r here g ((bytes_eq-Decides (joined_key r) c.key.1).0 u) in
                let i = place_is r u in
                λ x. exchanged
                ((ap (of objects v m) here ∙ (of_depends m n rm.sound rn.sound r (ap (get m) i ∙ (sym rm.told ∙ (rn.told ∙ sym (ap (get n) i)))) ∙ sym (ap (of objects v n) other))) x)
                ((ap (of objects v (rows_after c m)) (written_other m c.key c.after k (not_key k g) ∙ here)
                ∙ (of_depends (rows_after c m) (rows_after c n) rm.after rn.after r (written_at m c.key c.after (joined_place r) i ∙ sym (written_at n c.key c.after (joined_place r) i))
                ∙ sym (ap (of objects v (rows_after c n)) (written_other n c.key c.after k (not_key k g) ∙ other)))) x);
            there = λ k r e g u. around_other c n k (not_key k g) ∙ joining_agrees m n rm.sound agree_prefix k r (sym (around_other c m k (not_key k g)) ∙ e) g ((bytes_eq-Decides (joined_key r) c.key.1).0 u);
            back = λ k r e g u. around_other c m k (not_key k g) ∙ joining_agrees n m rn.sound (λ key rest i. agree_back objects second.index key m n (agree_prefix key rest i)) k r (sym (around_other c n k (not_key k g)) ∙ e) g ((bytes_eq-Decides (joined_key r) c.key.1).0 u);
          })

    of_two : owed_to objects m c v ≡ owed_to objects n c v
    of_two = by_session c.key.0 v.first
        (λ e. changes_first e)
        (λ d. by_session c.key.0 second.table
        (λ e. changes_second e)
        (λ l. neither objects v c m n d (others_stay c m l) (others_stay c n l)))

-- ---- a view of one table

of_one : (objects : Schema) (v : ViewTree) → v.second ≡ None → (c : RowChange) (m n : Rows) → IsRight objects m c → IsRight objects n c → owed_to objects m c v ≡ owed_to objects n c v
of_one objects v none c m n rm rn =
    let others : (a b : Rows) → other_rows a v ≡ other_rows b v = λ a b.
    ap (λ (o : Option Second). option_map_or (λ (s : Second). rows_of a s.table ∷ []) o []) none ∙ sym (ap (λ (o : Option Second). option_map_or (λ (s : Second). rows_of b s.table ∷ []) o []) none) in
    by_session c.key.0 v.first
    (λ e. of_first objects v c m n e rm.told rn.told (others (rows_after c m) m) (others (rows_after c n) n) (by_others objects v m n c.before (others m n)) (by_others objects v m n c.after (others m n)))
    (λ d. neither objects v c m n d (others (rows_after c m) m) (others (rows_after c n) n))

-- ---- all views

local_view : (objects : Schema) (v : ViewTree) → IsJoined objects v → (c : RowChange) (m n : Rows) → IsRight objects m c → IsRight objects n c
    → ((w : Want) → Contains (look_ups objects c v) w → (key : List ℕ) → LiesIn key w.interval → AgreeAt objects w.index key m n) → owed_to objects m c v ≡ owed_to objects n c v
local_view objects v joined c m n rm rn agree = go v.second refl joined
  where
    go : (o : Option Second) → v.second ≡ o → elim o as (λ (x : Option Second). Type 0) [ None ↦ Unit {0} | Some second ↦ IsJoin objects v second ] → owed_to objects m c v ≡ owed_to objects n c v
    go None e h = of_one objects v e c m n rm rn
    go (Some second) e h = of_two objects v second e h c m n rm rn agree

wanted_of_each : (objects : Schema) (c : RowChange) (m n : Rows) (vs : List ViewTree) → AllByRecursion (IsJoined objects) vs → IsRight objects m c → IsRight objects n c
    → ((w : Want) → Contains (flat_map (look_ups objects c) vs) w → (key : List ℕ) → LiesIn key w.interval → AgreeAt objects w.index key m n)
    → flat_map (owed_to objects m c) vs ≡ flat_map (owed_to objects n c) vs
wanted_of_each objects c m n [] h rm rn agree = refl
wanted_of_each objects c m n (v ∷ vs) h rm rn agree =
    let one : owed_to objects m c v ≡ owed_to objects n c v = local_view objects v h.0 c m n rm rn (λ w k. agree w (Contains-append_left (look_ups objects c v) (flat_map (look_ups objects c) vs) w k)) in
    let rest : flat_map (owed_to objects m c) vs ≡ flat_map (owed_to objects n c) vs = wanted_of_each objects c m n vs h.1 rm rn (λ w k. agree w (Contains-append_right (look_ups objects c v) (flat_map (look_ups objects c) vs) w k)) in
    λ i. one i ++ rest i

pub local_law : (objects : Schema) (m n : Rows) (c : RowChange) → IsRight objects m c → IsRight objects n c
    → ((number : ℕ) (key : List ℕ) → NeedsAt objects c number key → AgreeAt objects number key m n) → owed objects m c ≡ owed objects n c
local_law objects m n c rm rn agree = wanted_of_each objects c m n (views_of objects) (each_view (IsJoined objects) objects rm.sound.joins) rm rn
    (λ w k key lies. agree w.index key (record { want = w; wanted = k; index_is = refl; covers = lies }))

pub view_laws : ViewLaws the_views fresh
view_laws = record {
  sum = λ objects rows c right p column. sum_law objects rows c p column;
  none = none_law;
  local = local_law;
  made = λ objects rows o sound after p column. made_law objects rows o sound p column;
}
