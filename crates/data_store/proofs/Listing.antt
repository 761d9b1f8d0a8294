-- The entries of a view and its stored rows.
use Rattle.std.specs.Prelude.{◌≡◌, ℕ, suc, ◌==◌, ◌&&◌, ℤ, true, false, cond, T, List, [], ◌∷◌, ◌++◌, map, filter, length, Some}
use Rattle.std.specs.Option.{option_map}
use Rattle.std.specs.List.{AllByRecursion, AllZip}
use Rattle.std.proofs.Common.{arith}
use Rattle.std.proofs.lemmas.Bool.Decides.{nat_tests}
use mathlib.Core.Path.{refl, sym, ap, subst, ◌∙◌}
use Rattle.std.specs.FinMap.{get, entries, find, is_sorted, get-entries, entries_sorted}
use Rattle.std.specs.FinMap.Entries.{same_entries}
use Rattle.std.specs.Cmp.Lexicographic.{nat_list_cmp_total}
use Rattle.iv_types.specs.declared.value.Kind.{Kind}
use Rattle.iv_types.specs.declared.value.Interval.{Interval}
use Rattle.iv_types.specs.declared.value.Value.TheVariants.{Number}
use Rattle.iv_types.specs.Encoding.{IsHuge, lies_in}
use Rattle.iv_types.specs.Maps.{Map, Entry}
use Rattle.table_laws.specs.Place.{Place, place_cmp}
use Rattle.table_laws.specs.Table.{rows_where}
use Rattle.table_laws.proofs.Place.{place_cmp_total, place_cmp-IsAntisymmetric}
use Rattle.iv_meaning.specs.Schema.{Schema, ViewTree, group_kinds}
use Rattle.iv_meaning.specs.Database.{Row}
use Rattle.table_store.specs.Stored.{between}
use Rattle.table_store.proofs.Maps.{by_bytes, bytes_same}
use Rattle.table_store.proofs.Fresh.{Each, each_found, changed, changed_sorted, find_changed, filter_changed}
use Rattle.txn_machine.specs.Stored.{ViewRows, first_numbers, IsShown, is_shown, Lists}
use Rattle.ghost_rows.specs.Numbers.{numbers_bytes, Fits128}
use Rattle.data_store.specs.Shown.{StoredRow, entries_of, stands, IsShownAs, Shows}
use Rattle.data_store.proofs.ShownRows.{AllFit, one_stored}
use Rattle.data_store.proofs.ByIndex.{index_sorted, find_index}

abbrev ViewEntry : Type 0
ViewEntry = Place × List ℤ

-- ---- the stored rows of one view

abbrev without_view : ViewEntry → StoredRow
without_view e = (e.0.1, e.1)

abbrev at_view : ℕ → List ViewEntry → List ViewEntry
at_view n es = rows_where (λ place numbers. place.0 == n) es

abbrev pub of_view : ℕ → List ViewEntry → List StoredRow
of_view n es = map without_view (at_view n es)

pub view_sorted : (n : ℕ) (es : List ViewEntry) → T (is_sorted place_cmp es) → T (is_sorted by_bytes (of_view n es))
view_sorted n es s = index_sorted n es s

pub find_view : (n : ℕ) (q : List ℕ) (es : List ViewEntry) → find by_bytes q (of_view n es) ≡ find place_cmp (n, q) es
find_view n q es = find_index n q es

-- the entries of the view's index are these rows
pub encoded : (stored : ViewRows) (m : Map) (n : ℕ) → ((group : List ℕ) → get m group ≡ option_map numbers_bytes (get stored (n, group))) → entries m ≡ entries_of (of_view n (entries stored))
encoded stored m n same =
    let rows : List StoredRow = of_view n (entries stored) in
    same_entries by_bytes nat_list_cmp_total bytes_same (entries m) (changed by_bytes numbers_bytes rows) (entries_sorted m)
    (changed_sorted by_bytes numbers_bytes rows (view_sorted n (entries stored) (entries_sorted stored)))
    (λ q. sym (get-entries m q) ∙ (same q ∙ (ap (option_map numbers_bytes) (get-entries stored (n, q) ∙ sym (find_view n q (entries stored))) ∙ sym (find_changed by_bytes numbers_bytes q rows))))

-- ---- those in an interval, without ghosts

abbrev pub within : Interval → List StoredRow → List StoredRow
within interval rows = filter (λ r. lies_in r.0 interval) rows

abbrev pub counted : List StoredRow → List StoredRow
counted rows = filter (λ r. stands r.1) rows

pub shown_are : (n : ℕ) (interval : Interval) (es : List ViewEntry) → counted (within interval (of_view n es)) ≡ map without_view (rows_where (is_shown n interval) es)
shown_are n interval [] = refl
shown_are n interval (e ∷ es) =
    let rest = shown_are n interval es in
    let left : List ViewEntry = at_view n es in
    let found : List ViewEntry = rows_where (is_shown n interval) es in
    elim (e.0.0 == n) as (λ a. counted (within interval (map without_view (cond a (e ∷ left) left))) ≡ map without_view (cond ((a && lies_in e.0.1 interval) && stands e.1) (e ∷ found) found)) [
      | true ↦ elim (lies_in e.0.1 interval) as (λ b. counted (cond b (without_view e ∷ within interval (of_view n es)) (within interval (of_view n es))) ≡ map without_view (cond ((true && b) && stands e.1) (e ∷ found) found)) [
        | true ↦ elim (stands e.1) as (λ c. cond c (without_view e ∷ counted (within interval (of_view n es))) (counted (within interval (of_view n es))) ≡ map without_view (cond ((true && true) && c) (e ∷ found) found)) [
          | true ↦ ap (λ (l : List StoredRow). without_view e ∷ l) rest
          | false ↦ rest
        ]
        | false ↦ rest
      ]
      | false ↦ rest
    ]

-- ---- what the machine lists

all_numbers : (ns : List ℤ) → first_numbers (length ns) ns ≡ ns
all_numbers [] = refl
all_numbers (n ∷ ns) = ap (λ l. n ∷ l) (all_numbers ns)

module _ (objects : Schema) (v : ViewTree) where
  abbrev IsWide : ViewEntry → Type 0
  IsWide e = length e.1 ≡ suc (length v.sums)

  wide_numbers : (ns : List ℤ) → length ns ≡ suc (length v.sums) → first_numbers (suc (length v.sums)) ns ≡ ns
  wide_numbers ns w = ap (λ n. first_numbers n ns) (sym w) ∙ all_numbers ns

  to_listed : (es : List ViewEntry) (rows : List Row) → AllByRecursion IsWide es → AllZip (IsShownAs (group_kinds objects v)) (map without_view es) rows → AllZip (IsShown objects v) es rows
  to_listed [] [] w h = tt
  to_listed [] (row ∷ rows) w h = absurd h
  to_listed (e ∷ es) [] w h = absurd h
  to_listed (e ∷ es) (row ∷ rows) w h = (
    record {
      group = h.0.group;
      fits = h.0.fits;
      key = h.0.key;
      row_is = h.0.row_is ∙ ap (λ (ns : List ℤ). h.0.group ++ map Number ns) (sym (wide_numbers e.1 w.0));
    },
    to_listed es rows w.1 h.1,
  )

  of_listed : (es : List ViewEntry) (rows : List Row) → AllByRecursion IsWide es → AllZip (IsShown objects v) es rows → AllZip (IsShownAs (group_kinds objects v)) (map without_view es) rows
  of_listed [] [] w h = tt
  of_listed [] (row ∷ rows) w h = absurd h
  of_listed (e ∷ es) [] w h = absurd h
  of_listed (e ∷ es) (row ∷ rows) w h = (
    record {
      group = h.0.group;
      fits = h.0.fits;
      key = h.0.key;
      row_is = h.0.row_is ∙ ap (λ (ns : List ℤ). h.0.group ++ map Number ns) (wide_numbers e.1 w.0);
    },
    of_listed es rows w.1 h.1,
  )

-- ---- what holds of the stored rows of a view

-- so many numbers in range
pub record IsGood (many : ℕ) (numbers : List ℤ) : Type 0 where
  pub width : length numbers ≡ many
  pub in_range : AllByRecursion IsHuge numbers

pub huge_fit : (ns : List ℤ) → AllByRecursion IsHuge ns → Fits128 ns
huge_fit [] h = tt
huge_fit (n ∷ ns) h = (h.0.0, huge_fit ns h.1)

module _ (n many : ℕ) where
  abbrev Good : Place → List ℤ → Type 0
  Good place numbers = place.0 ≡ n → IsGood many numbers

  each_good : (stored : ViewRows) → ((group : List ℕ) (numbers : List ℤ) → get stored (n, group) ≡ Some numbers → IsGood many numbers) → Each Good (entries stored)
  each_good stored good = each_found place_cmp_total place_cmp-IsAntisymmetric Good (entries stored) (entries_sorted stored)
      (λ place numbers is e. good place.1 numbers (ap (λ (k : ℕ). get stored (k, place.1)) (sym e) ∙ (get-entries stored place ∙ is)))

  all_fit : (interval : Interval) (es : List ViewEntry) → Each Good es → AllFit (within interval (of_view n es))
  all_fit interval [] g = tt
  all_fit interval (e ∷ es) g = elim (e.0.0 == n) as (λ a. (e.0.0 == n) ≡ a → AllFit (within interval (map without_view (cond a (e ∷ at_view n es) (at_view n es))))) [
    | true ↦ λ is.
        let number : e.0.0 ≡ n = grind (arith, nat_tests) in
        elim (lies_in e.0.1 interval) as (λ b. AllFit (cond b (without_view e ∷ within interval (of_view n es)) (within interval (of_view n es)))) [
          | true ↦ (huge_fit e.1 (g.0 number).in_range, all_fit interval es g.1)
          | false ↦ all_fit interval es g.1
        ]
    | false ↦ λ is. all_fit interval es g.1
  ] refl

  all_wide : (interval : Interval) (es : List ViewEntry) → Each Good es → AllByRecursion (λ e. length e.1 ≡ many) (rows_where (is_shown n interval) es)
  all_wide interval [] g = tt
  all_wide interval (e ∷ es) g = elim (e.0.0 == n) as (λ a. (e.0.0 == n) ≡ a → AllByRecursion (λ (x : ViewEntry). length x.1 ≡ many) (cond ((a && lies_in e.0.1 interval) && stands e.1) (e ∷ rows_where (is_shown n interval) es) (rows_where (is_shown n interval) es))) [
    | true ↦ λ is.
        let number : e.0.0 ≡ n = grind (arith, nat_tests) in
        elim ((true && lies_in e.0.1 interval) && stands e.1) as (λ b. AllByRecursion (λ (x : ViewEntry). length x.1 ≡ many) (cond b (e ∷ rows_where (is_shown n interval) es) (rows_where (is_shown n interval) es))) [
          | true ↦ ((g.0 number).width, all_wide interval es g.1)
          | false ↦ all_wide interval es g.1
        ]
    | false ↦ λ is. all_wide interval es g.1
  ] refl

-- ---- both

-- the rows that entries show are those that the machine lists of these stored rows, where they are their entries
pub lists_by : (objects : Schema) (v : ViewTree) (stored : ViewRows) (good : (group : List ℕ) (numbers : List ℤ) → get stored (v.number, group) ≡ Some numbers → IsGood (suc (length v.sums)) numbers)
    (interval : Interval) (es : List Entry) (rows : List Row) → es ≡ entries_of (within interval (of_view v.number (entries stored))) → Shows (group_kinds objects v) es rows → Lists objects v interval stored rows
lists_by objects v stored good interval es rows e s =
    let many : ℕ = suc (length v.sums) in
    let each = each_good v.number many stored good in
    let here : List StoredRow = within interval (of_view v.number (entries stored)) in
    let is : s.stored ≡ here = one_stored s.stored here s.in_range (all_fit v.number many interval (entries stored) each) (sym s.bytes ∙ e) in
    to_listed objects v (rows_where (is_shown v.number interval) (entries stored)) rows (all_wide v.number many interval (entries stored) each)
    (subst (λ (l : List StoredRow). AllZip (IsShownAs (group_kinds objects v)) l rows) (ap counted is ∙ shown_are v.number interval (entries stored)) s.shown)

module _ (objects : Schema) (v : ViewTree) (stored : ViewRows) (m : Map)
    (same : (group : List ℕ) → get m group ≡ option_map numbers_bytes (get stored (v.number, group)))
    (good : (group : List ℕ) (numbers : List ℤ) → get stored (v.number, group) ≡ Some numbers → IsGood (suc (length v.sums)) numbers) (interval : Interval) where
  abbrev kinds : List Kind
  kinds = group_kinds objects v

  abbrev here : List StoredRow
  here = within interval (of_view v.number (entries stored))

  here_fit : AllFit here
  here_fit = all_fit v.number (suc (length v.sums)) interval (entries stored) (each_good v.number (suc (length v.sums)) stored good)

  here_encoded : between interval (entries m) ≡ entries_of here
  here_encoded = ap (between interval) (encoded stored m v.number same) ∙ filter_changed by_bytes numbers_bytes (λ k. lies_in k interval) (of_view v.number (entries stored))

  here_wide : AllByRecursion (λ e. length e.1 ≡ suc (length v.sums)) (rows_where (is_shown v.number interval) (entries stored))
  here_wide = all_wide v.number (suc (length v.sums)) interval (entries stored) (each_good v.number (suc (length v.sums)) stored good)

  -- the rows that the entries in the interval show are those that the machine lists
  pub lists : (rows : List Row) → Shows kinds (between interval (entries m)) rows → Lists objects v interval stored rows
  lists rows s = lists_by objects v stored good interval (between interval (entries m)) rows here_encoded s

  pub shows : (rows : List Row) → Lists objects v interval stored rows → Shows kinds (between interval (entries m)) rows
  shows rows l = record {
    stored = here;
    in_range = here_fit;
    bytes = here_encoded;
    shown = subst (λ (x : List StoredRow). AllZip (IsShownAs kinds) x rows) (sym (shown_are v.number interval (entries stored)))
        (of_listed objects v (rows_where (is_shown v.number interval) (entries stored)) rows here_wide l);
  }
