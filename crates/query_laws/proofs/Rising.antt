-- Rows in the order of their keys: as entries of a map, and those of an interval.
use Rattle.std.specs.Prelude.{◌≡◌, ℕ, Bool, true, false, cond, T, ◌&&◌, List, [], ◌∷◌, map, filter}
use mathlib.Core.Path.{refl, sym, ap, subst, ◌∙◌}
use Rattle.std.specs.FinMap.{empty, entries, from_entries, put, IsAntisymmetric}
use Rattle.std.specs.FinMap.{entries-insert, entries_sorted, get-entries, get-empty, nat_cmp-IsAntisymmetric, slice_cmp-IsAntisymmetric}
use Rattle.std.specs.FinMap.Entries.{below_all, by_order, same_entries}
use Rattle.std.specs.declared.cmp.Ordering.{Ordering}
use Rattle.std.specs.declared.cmp.Ordering.TheVariants.{Less, Equal, Greater}
use Rattle.std.specs.Ordering.{nat_cmp, is_lt}
use Rattle.std.specs.Cmp.{IsTotalOrder}
use Rattle.std.specs.Cmp.Lexicographic.{slice_cmp, nat_list_cmp_total}
use Rattle.iv_types.specs.declared.value.Interval.{Interval}
use Rattle.iv_meaning.specs.Database.{Row}
use Rattle.iv_types.specs.Encoding.{lies_in}
use Rattle.iv_meaning.specs.View.{rows_between}
use Rattle.query_laws.specs.Laws.{IsBefore, Rises}

-- the order of keys
abbrev pub key_cmp : List ℕ → List ℕ → Ordering
key_cmp = slice_cmp nat_cmp

pub key_total : IsTotalOrder key_cmp
key_total = nat_list_cmp_total

pub key_exact : IsAntisymmetric key_cmp
key_exact = slice_cmp-IsAntisymmetric nat_cmp-IsAntisymmetric

pub less_is : (r : Ordering) → is_lt r ≡ true → r ≡ Less
less_is Less e = refl
less_is Equal e = absurd (cc)
less_is Greater e = absurd (cc)

pub is_before : (a b : List ℕ) → key_cmp a b ≡ Less → IsBefore a b
is_before a b e = ap is_lt e

pub before_less : (a b : List ℕ) → IsBefore a b → key_cmp a b ≡ Less
before_less a b h = less_is (key_cmp a b) h

pub before_through : (a b c : List ℕ) → IsBefore a b → IsBefore b c → IsBefore a c
before_through a b c p q = is_before a c (key_total.trans a b c (before_less a b p) (before_less b c q))

pub is_true : (b : Bool) → b ≡ true → T b
is_true b e = subst T (sym e) tt

and_true : (a b : Bool) → a ≡ true → b ≡ true → a && b ≡ true
and_true true b p q = q
and_true false b p q = p

-- ---- rows and what goes before them

-- the key is before those of all
abbrev pub BeforeAll : (Row → List ℕ) → List ℕ → List Row → Type 0
BeforeAll key k [] = Unit {0}
BeforeAll key k (row ∷ rows) = IsBefore k (key row) × BeforeAll key k rows

before_later : (key : Row → List ℕ) (a b : List ℕ) (rows : List Row) → IsBefore a b → BeforeAll key b rows → BeforeAll key a rows
before_later key a b [] p h = tt
before_later key a b (row ∷ rows) p h = (before_through a b (key row) p h.0, before_later key a b rows p h.1)

pub rest_rises : (key : Row → List ℕ) (row : Row) (rows : List Row) → Rises key (row ∷ rows) → Rises key rows
rest_rises key row [] h = tt
rest_rises key row (next ∷ rows) h = h.1

pub first_before : (key : Row → List ℕ) (row : Row) (rows : List Row) → Rises key (row ∷ rows) → BeforeAll key (key row) rows
first_before key row [] h = tt
first_before key row (next ∷ rows) h = (h.0, before_later key (key row) (key next) rows h.0 (first_before key next rows h.1))

pub rises_from : (key : Row → List ℕ) (row : Row) (rows : List Row) → BeforeAll key (key row) rows → Rises key rows → Rises key (row ∷ rows)
rises_from key row [] b h = tt
rises_from key row (next ∷ rows) b h = (b.0, h)

-- ---- as entries

abbrev pub keyed : (Row → List ℕ) → List Row → List (List ℕ × Row)
keyed key rows = map (λ row. (key row, row)) rows

keyed_below : (key : Row → List ℕ) (k : List ℕ) (rows : List Row) → BeforeAll key k rows → T (below_all key_cmp k (keyed key rows))
keyed_below key k [] h = tt
keyed_below key k (row ∷ rows) h = is_true _ (and_true (is_lt (key_cmp k (key row))) (below_all key_cmp k (keyed key rows)) h.0 (ap_true _ (keyed_below key k rows h.1)))
  where
    ap_true : (b : Bool) → T b → b ≡ true
    ap_true true t = refl
    ap_true false t = absurd t

entries_first : (key : Row → List ℕ) (row : Row) (rows : List Row) → BeforeAll key (key row) rows → put key_cmp (key row) row (keyed key rows) ≡ (key row, row) ∷ keyed key rows
entries_first key row [] h = refl
entries_first key row (next ∷ rows) h =
    ap (λ r. by_order r ((key row, row) ∷ keyed key (next ∷ rows)) ((key next, row) ∷ keyed key rows) ((key next, next) ∷ put key_cmp (key row) row (keyed key rows))) (before_less (key row) (key next) h.0)

pub entries_empty : entries (empty {X = Row} {R = key_cmp}) ≡ []
entries_empty = same_entries key_cmp key_total key_exact (entries empty) [] (entries_sorted empty) tt (λ q. sym (get-entries empty q) ∙ get-empty key_cmp q)

-- a map of rows that rise has them in this order
pub entries_rising : (key : Row → List ℕ) (rows : List Row) → Rises key rows → entries (from_entries {R = key_cmp} (keyed key rows)) ≡ keyed key rows
entries_rising key [] h = entries_empty
entries_rising key (row ∷ rows) h =
    entries-insert key_total (from_entries (keyed key rows)) (key row) row
    ∙ (ap (put key_cmp (key row) row) (entries_rising key rows (rest_rises key row rows h))
    ∙ entries_first key row rows (first_before key row rows h))

pub kept : (key : Row → List ℕ) (interval : Interval) (rows : List Row) → map (λ (e : List ℕ × Row). e.1) (filter (λ (e : List ℕ × Row). lies_in e.0 interval) (keyed key rows)) ≡ filter (λ row. lies_in (key row) interval) rows
kept key interval [] = refl
kept key interval (row ∷ rows) =
    let rest = kept key interval rows in
    elim (lies_in (key row) interval) as (λ b. map (λ (e : List ℕ × Row). e.1) (cond b ((key row, row) ∷ filter (λ (e : List ℕ × Row). lies_in e.0 interval) (keyed key rows)) (filter (λ (e : List ℕ × Row). lies_in e.0 interval) (keyed key rows)))
    ≡ cond b (row ∷ filter (λ row. lies_in (key row) interval) rows) (filter (λ row. lies_in (key row) interval) rows)) [
      | true ↦ ap (λ (xs : List Row). row ∷ xs) rest
      | false ↦ rest
    ]

pub between_rising : (key : Row → List ℕ) (interval : Interval) (rows : List Row) → Rises key rows → rows_between key interval rows ≡ filter (λ row. lies_in (key row) interval) rows
between_rising key interval rows h =
    ap (λ (es : List (List ℕ × Row)). map (λ (e : List ℕ × Row). e.1) (filter (λ (e : List ℕ × Row). lies_in e.0 interval) es)) (entries_rising key rows h) ∙ kept key interval rows
