-- The rows that an index has in an interval, in the order of the primary key, are those of the table.
use Rattle.std.specs.Prelude.{◌≡◌, ◌≢◌, ℕ, suc, ◌<◌, Bool, true, false, cond, List, [], ◌∷◌, ◌++◌, length, map, filter, Contains}
use Rattle.std.specs.List.{AllByRecursion}
use mathlib.Core.Path.{refl, sym, ap, subst, ◌∙◌}
use Rattle.std.proofs.Common.{arith}
use Rattle.std.proofs.lemmas.List.Elements.{All-contains, All-from_recursion, filter-append}
use Rattle.std.specs.FinMap.{entries, from_entries, put, entries-insert}
use Rattle.std.specs.FinMap.Entries.{by_order}
use Rattle.std.specs.declared.cmp.Ordering.{Ordering}
use Rattle.std.specs.declared.cmp.Ordering.TheVariants.{Less, Equal, Greater}
use Rattle.std.specs.Ordering.{is_gt, ordering_reverse}
use Rattle.std.specs.Cmp.{tied_itself, upto}
use Rattle.iv_types.specs.declared.value.Kind.{Kind}
use Rattle.iv_types.specs.declared.value.Value.{Value}
use Rattle.iv_types.specs.declared.value.Interval.{Interval}
use Rattle.iv_types.specs.Encoding.{FitAll, key_bytes, row_cmp, lies_in}
use Rattle.iv_types.proofs.Orders.{row_cmp_total, row_cmp_exact}
use Rattle.row_codec.proofs.Columns.{fit_lengths}
use Rattle.row_codec.proofs.KeyOrders.{key_order}
use Rattle.iv_meaning.specs.Database.{Row}
use Rattle.iv_meaning.specs.Schema.{items_at}
use Rattle.iv_meaning.specs.View.{rows_between}
use Rattle.iv_meaning.specs.Query.{put_by, sorted_by}
use Rattle.iv_meaning.specs.Reading.{by_columns}
use Rattle.query_laws.specs.Laws.{Rises}
use Rattle.query_laws.proofs.Each.{each_append, each_filtered, each_to}
use Rattle.query_laws.proofs.Rising.{key_cmp, key_total, keyed, entries_empty, kept, before_less, BeforeAll, first_before, rest_rises}
use Rattle.query_laws.proofs.Fitting.{ArePlaces, items_fit, items_append}

-- ---- rows in the order of some columns

module _ (key : List ℕ) where
  turned : (a b : Row) (o : Ordering) → (by_columns key) a b ≡ o → (by_columns key) b a ≡ ordering_reverse o
  turned a b o e = row_cmp_total.antisymm (items_at b key) (items_at a key) ∙ ap ordering_reverse e

  put_less : (a b : Row) (rows : List Row) → is_gt ((by_columns key) a b) ≡ false → put_by (by_columns key) a (b ∷ rows) ≡ a ∷ b ∷ rows
  put_less a b rows e = ap (λ t. cond t (b ∷ put_by (by_columns key) a rows) (a ∷ b ∷ rows)) e

  put_greater : (a b : Row) (rows : List Row) → is_gt ((by_columns key) a b) ≡ true → put_by (by_columns key) a (b ∷ rows) ≡ b ∷ put_by (by_columns key) a rows
  put_greater a b rows e = ap (λ t. cond t (b ∷ put_by (by_columns key) a rows) (a ∷ b ∷ rows)) e

  -- one that is above what another is not above is above the other
  above : (a b y : Row) → is_gt ((by_columns key) a y) ≡ true → is_gt ((by_columns key) b y) ≡ false → is_gt ((by_columns key) a b) ≡ true
  above a b y g n = elim (is_gt ((by_columns key) a b)) as (λ t. is_gt ((by_columns key) a b) ≡ t → t ≡ true) [
    | true ↦ λ e. refl
    | false ↦ λ e. absurd (cc (sym g ∙ upto row_cmp_total (items_at a key) (items_at b key) (items_at y key) e n))
  ] refl

  not_above : (a b : Row) (o : Ordering) → (by_columns key) a b ≡ o → is_gt o ≡ true → is_gt ((by_columns key) b a) ≡ false
  not_above a b Less e g = absurd (cc)
  not_above a b Equal e g = absurd (cc)
  not_above a b Greater e g = ap is_gt (turned a b Greater e)

  -- of two that do not tie one is above the other
  one_above : (a b : Row) (o : Ordering) → (by_columns key) a b ≡ o → o ≢ Equal → is_gt o ≡ false → is_gt ((by_columns key) b a) ≡ true
  one_above a b Less e ne g = ap is_gt (turned a b Less e)
  one_above a b Equal e ne g = absurd (ne refl)
  one_above a b Greater e ne g = absurd (cc)

  -- a pair before others, of which the first is above the second
  swapped_pair : (a b : Row) (rows : List Row) → put_by (by_columns key) a rows ≡ a ∷ rows → put_by (by_columns key) b rows ≡ b ∷ rows → is_gt ((by_columns key) a b) ≡ true
      → put_by (by_columns key) a (put_by (by_columns key) b rows) ≡ put_by (by_columns key) b (put_by (by_columns key) a rows)
  swapped_pair a b rows pa pb g =
      ap (put_by (by_columns key) a) pb ∙ (put_greater a b rows g ∙ (ap (λ (l : List Row). b ∷ l) pa
      ∙ sym (ap (put_by (by_columns key) b) pa ∙ put_less b a rows (not_above a b ((by_columns key) a b) refl g))))

  pair : (a b : Row) (rows : List Row) → (by_columns key) a b ≢ Equal → put_by (by_columns key) a rows ≡ a ∷ rows → put_by (by_columns key) b rows ≡ b ∷ rows
      → put_by (by_columns key) a (put_by (by_columns key) b rows) ≡ put_by (by_columns key) b (put_by (by_columns key) a rows)
  pair a b rows ne pa pb = elim (is_gt ((by_columns key) a b)) as (λ t. is_gt ((by_columns key) a b) ≡ t → put_by (by_columns key) a (put_by (by_columns key) b rows) ≡ put_by (by_columns key) b (put_by (by_columns key) a rows)) [
    | true ↦ λ g. swapped_pair a b rows pa pb g
    | false ↦ λ g. sym (swapped_pair b a rows pb pa (one_above a b ((by_columns key) a b) refl ne g))
  ] refl

  -- two rows that do not tie may be put in in either order
  swap : (a b : Row) (rows : List Row) → (by_columns key) a b ≢ Equal → put_by (by_columns key) a (put_by (by_columns key) b rows) ≡ put_by (by_columns key) b (put_by (by_columns key) a rows)
  swap a b [] ne = pair a b [] ne refl refl
  swap a b (y ∷ rows) ne =
      elim (is_gt ((by_columns key) a y)) as (λ s. is_gt ((by_columns key) a y) ≡ s → put_by (by_columns key) a (put_by (by_columns key) b (y ∷ rows)) ≡ put_by (by_columns key) b (put_by (by_columns key) a (y ∷ rows))) [
        | true ↦ λ ga. elim (is_gt ((by_columns key) b y)) as (λ t. is_gt ((by_columns key) b y) ≡ t → put_by (by_columns key) a (put_by (by_columns key) b (y ∷ rows)) ≡ put_by (by_columns key) b (put_by (by_columns key) a (y ∷ rows))) [
          | true ↦ λ gb.
              ap (put_by (by_columns key) a) (put_greater b y rows gb) ∙ (put_greater a y (put_by (by_columns key) b rows) ga ∙ (ap (λ (l : List Row). y ∷ l) (swap a b rows ne)
              ∙ sym (ap (put_by (by_columns key) b) (put_greater a y rows ga) ∙ put_greater b y (put_by (by_columns key) a rows) gb)))
          | false ↦ λ gb. higher a b y rows ga gb
        ] refl
        | false ↦ λ ga. elim (is_gt ((by_columns key) b y)) as (λ t. is_gt ((by_columns key) b y) ≡ t → put_by (by_columns key) a (put_by (by_columns key) b (y ∷ rows)) ≡ put_by (by_columns key) b (put_by (by_columns key) a (y ∷ rows))) [
          | true ↦ λ gb. sym (higher b a y rows gb ga)
          | false ↦ λ gb. pair a b (y ∷ rows) ne (put_less a y rows ga) (put_less b y rows gb)
        ] refl
      ] refl
    where
      higher : (a b y : Row) (rows : List Row) → is_gt ((by_columns key) a y) ≡ true → is_gt ((by_columns key) b y) ≡ false → put_by (by_columns key) a (put_by (by_columns key) b (y ∷ rows)) ≡ put_by (by_columns key) b (put_by (by_columns key) a (y ∷ rows))
      higher a b y rows ga gb =
          ap (put_by (by_columns key) a) (put_less b y rows gb) ∙ (put_greater a b (y ∷ rows) (above a b y ga gb) ∙ (ap (λ (l : List Row). b ∷ l) (put_greater a y rows ga)
          ∙ sym (ap (put_by (by_columns key) b) (put_greater a y rows ga) ∙ put_less b y (put_by (by_columns key) a rows) gb)))

  sorted_inside : (front back : List Row) (row : Row) → AllByRecursion (λ r. (by_columns key) r row ≢ Equal) front → sorted_by (by_columns key) (front ++ row ∷ back) ≡ put_by (by_columns key) row (sorted_by (by_columns key) (front ++ back))
  sorted_inside [] back row h = refl
  sorted_inside (r ∷ front) back row h = ap (put_by (by_columns key) r) (sorted_inside front back row h.1) ∙ swap r row (sorted_by (by_columns key) (front ++ back)) h.0

  put_first : (row : Row) (rows : List Row) → AllByRecursion (λ r. (by_columns key) row r ≡ Less) rows → put_by (by_columns key) row rows ≡ row ∷ rows
  put_first row [] h = refl
  put_first row (r ∷ rows) h = put_less row r rows (ap is_gt h.0)

-- ---- entries of an index

-- the list with one thing more at some place
record PutInside (key : Row → List ℕ) (row : Row) (rows : List Row) : Type 0 where
  front : List Row
  back : List Row
  was : rows ≡ front ++ back
  now : put key_cmp (key row) row (keyed key rows) ≡ keyed key (front ++ row ∷ back)

put_inside : (key : Row → List ℕ) (row : Row) (rows : List Row) → AllByRecursion (λ r. key_cmp (key row) (key r) ≢ Equal) rows → PutInside key row rows
put_inside key row [] h = record { front = []; back = []; was = refl; now = refl }
put_inside key row (r ∷ rows) h =
    elim (key_cmp (key row) (key r)) as (λ o. key_cmp (key row) (key r) ≡ o → PutInside key row (r ∷ rows)) [
      | Less ↦ λ e. record {
        front = [];
        back = r ∷ rows;
        was = refl;
        now = ap (λ o. by_order o ((key row, row) ∷ keyed key (r ∷ rows)) ((key r, row) ∷ keyed key rows) ((key r, r) ∷ put key_cmp (key row) row (keyed key rows))) e;
      }
      | Equal ↦ λ e. absurd (h.0 e)
      | Greater ↦ λ e.
          let rest = put_inside key row rows h.1 in
          record {
            front = r ∷ rest.front;
            back = rest.back;
            was = ap (λ (l : List Row). r ∷ l) rest.was;
            now = ap (λ o. by_order o ((key row, row) ∷ keyed key (r ∷ rows)) ((key r, row) ∷ keyed key rows) ((key r, r) ∷ put key_cmp (key row) row (keyed key rows))) e
                ∙ ap (λ (l : List (List ℕ × Row)). (key r, r) ∷ l) rest.now;
          }
    ] refl

-- each is before those behind it
abbrev pub RisesBy : List ℕ → List Row → Type 0
RisesBy key [] = Unit {0}
RisesBy key (row ∷ rows) = AllByRecursion (λ r. by_columns key row r ≡ Less) rows × RisesBy key rows

each_front : (P : Row → Type 0) (front back : List Row) → AllByRecursion P (front ++ back) → AllByRecursion P front
each_front P [] back h = tt
each_front P (r ∷ front) back h = (h.0, each_front P front back h.1)

each_with : (P : Row → Type 0) (front back : List Row) (row : Row) → AllByRecursion P (front ++ back) → P row → AllByRecursion P (front ++ row ∷ back)
each_with P [] back row h p = (p, h)
each_with P (r ∷ front) back row h p = (h.0, each_with P front back row h.1 p)

-- what holds of all holds of a member
of_member : (P : Row → Type 0) (rows : List Row) (r : Row) → AllByRecursion P rows → Contains rows r → P r
of_member P rows r h c = All-contains P rows r (All-from_recursion P rows h) c

later_member : (row : Row) (rows : List Row) (r : Row) → Contains rows r → Contains (row ∷ rows) r
later_member row rows r c = (suc c.0, omega (arith, c.1), c.2)

tails_same : {X : Type 0} (xs ys us vs : List X) → length xs ≡ length us → xs ++ ys ≡ us ++ vs → ys ≡ vs
tails_same [] ys [] vs l e = e
tails_same [] ys (u ∷ us) vs l e = absurd (omega (arith, l))
tails_same (x ∷ xs) ys [] vs l e = absurd (omega (arith, l))
tails_same (x ∷ xs) ys (u ∷ us) vs l e = tails_same xs ys us vs (omega (arith, l)) (cc)

-- The index of some columns of a table with this primary key.
module _ (ks : List Kind) (columns primary : List ℕ) (columns_in : ArePlaces ks columns) (primary_in : ArePlaces ks primary) where
  abbrev pub index_key_at : Row → List ℕ
  index_key_at row = key_bytes (items_at ks (columns ++ primary)) (items_at row (columns ++ primary))

  apart : (a b : Row) → FitAll ks a → FitAll ks b → by_columns primary a b ≡ Less → key_cmp (index_key_at a) (index_key_at b) ≢ Equal
  apart a b fa fb less tied =
      let all_in : ArePlaces ks (columns ++ primary) = each_append (λ p. p < length ks) columns primary columns_in primary_in in
      let order = key_order (items_at ks (columns ++ primary)) (items_at a (columns ++ primary)) (items_at b (columns ++ primary)) (items_fit ks a (columns ++ primary) fa all_in) (items_fit ks b (columns ++ primary) fb all_in) in
      let same : items_at a (columns ++ primary) ≡ items_at b (columns ++ primary) = row_cmp_exact (items_at a (columns ++ primary)) (items_at b (columns ++ primary)) (sym order ∙ tied) in
      let long : length (items_at a columns) ≡ length (items_at b columns) =
      sym (fit_lengths (items_at ks columns) (items_at a columns) (items_fit ks a columns fa columns_in)) ∙ fit_lengths (items_at ks columns) (items_at b columns) (items_fit ks b columns fb columns_in) in
      let keys : items_at a primary ≡ items_at b primary =
      tails_same (items_at a columns) (items_at a primary) (items_at b columns) (items_at b primary) long (sym (items_append a columns primary) ∙ (same ∙ items_append b columns primary)) in
      absurd (cc (sym less ∙ (ap (λ (l : List Value). row_cmp l (items_at b primary)) keys ∙ tied_itself row_cmp_total (items_at b primary))))

  -- the rows in the order of the index
  record Listed (rows : List Row) : Type 0 where
    in_order : List Row
    entries_are : entries (from_entries {R = key_cmp} (keyed index_key_at rows)) ≡ keyed index_key_at in_order
    members : AllByRecursion (Contains rows) in_order
    sorted : (test : Row → Bool) → sorted_by (by_columns primary) (filter test in_order) ≡ filter test rows

  listed_more : (row : Row) (rows : List Row) → FitAll ks row → AllByRecursion (FitAll ks) rows → AllByRecursion (λ r. by_columns primary row r ≡ Less) rows → Listed rows → Listed (row ∷ rows)
  listed_more row rows fit fits first l =
      let others_apart : AllByRecursion (λ r. key_cmp (index_key_at row) (index_key_at r) ≢ Equal) l.in_order =
      each_to (Contains rows) (λ r. key_cmp (index_key_at row) (index_key_at r) ≢ Equal)
      (λ r c. apart row r fit (of_member (FitAll ks) rows r fits c) (of_member (λ r. by_columns primary row r ≡ Less) rows r first c)) l.in_order l.members in
      let put_in = put_inside index_key_at row l.in_order others_apart in
      let members : AllByRecursion (Contains (row ∷ rows)) (put_in.front ++ put_in.back) =
      subst (AllByRecursion (Contains (row ∷ rows))) put_in.was (each_to (Contains rows) (Contains (row ∷ rows)) (later_member row rows) l.in_order l.members) in
      let different : AllByRecursion (λ r. by_columns primary r row ≢ Equal) (put_in.front ++ put_in.back) =
      subst (AllByRecursion (λ r. by_columns primary r row ≢ Equal)) put_in.was
      (each_to (Contains rows) (λ r. by_columns primary r row ≢ Equal)
      (λ r c e. absurd (cc (sym (of_member (λ r. by_columns primary row r ≡ Less) rows r first c) ∙ turned primary r row Equal e))) l.in_order l.members) in
      record {
        in_order = put_in.front ++ row ∷ put_in.back;
        entries_are = entries-insert key_total (from_entries (keyed index_key_at rows)) (index_key_at row) row ∙ (ap (put key_cmp (index_key_at row) row) l.entries_are ∙ put_in.now);
        members = each_with (Contains (row ∷ rows)) put_in.front put_in.back row members (0, omega arith, refl);
        sorted = λ test.
            let front = filter test put_in.front in
            let back = filter test put_in.back in
            let rest : sorted_by (by_columns primary) (front ++ back) ≡ filter test rows =
            ap (sorted_by (by_columns primary)) (sym (filter-append test put_in.front put_in.back) ∙ ap (filter test) (sym put_in.was)) ∙ l.sorted test in
            let front_apart = each_filtered (λ r. by_columns primary r row ≢ Equal) test put_in.front (each_front (λ r. by_columns primary r row ≢ Equal) put_in.front put_in.back different) in
            ap (sorted_by (by_columns primary)) (filter-append test put_in.front (row ∷ put_in.back))
            ∙ elim (test row) as (λ b. sorted_by (by_columns primary) (front ++ cond b (row ∷ back) back) ≡ cond b (row ∷ filter test rows) (filter test rows)) [
              | true ↦ sorted_inside primary front back row front_apart
                  ∙ (ap (put_by (by_columns primary) row) rest ∙ put_first primary row (filter test rows) (each_filtered (λ r. by_columns primary row r ≡ Less) test rows first))
              | false ↦ rest
            ];
      }

  listed : (rows : List Row) → AllByRecursion (FitAll ks) rows → RisesBy primary rows → Listed rows
  listed [] f h = record { in_order = []; entries_are = entries_empty; members = tt; sorted = λ test. refl }
  listed (row ∷ rows) f h = listed_more row rows f.0 f.1 h.0 (listed rows f.1 h.1)

  -- in the order of the primary key, those whose keys in the index lie in the interval
  pub sorted_between : (rows : List Row) → AllByRecursion (FitAll ks) rows → RisesBy primary rows → (interval : Interval)
      → sorted_by (by_columns primary) (rows_between index_key_at interval rows) ≡ filter (λ row. lies_in (index_key_at row) interval) rows
  sorted_between rows f h interval =
      let l = listed rows f h in
      ap (sorted_by (by_columns primary)) (ap (λ (es : List (List ℕ × Row)). map (λ (e : List ℕ × Row). e.1) (filter (λ (e : List ℕ × Row). lies_in e.0 interval) es)) l.entries_are ∙ kept index_key_at interval l.in_order)
      ∙ l.sorted (λ row. lies_in (index_key_at row) interval)

-- rows that rise by their encoded keys do so by the columns of the key
pub rises_by : (ks : List Kind) (primary : List ℕ) → ArePlaces ks primary → (rows : List Row) → AllByRecursion (FitAll ks) rows
    → Rises (λ row. key_bytes (items_at ks primary) (items_at row primary)) rows → RisesBy primary rows
rises_by ks primary inside [] f h = tt
rises_by ks primary inside (row ∷ rows) f h = (
  less rows f.1 (first_before (λ r. key_bytes (items_at ks primary) (items_at r primary)) row rows h),
  rises_by ks primary inside rows f.1 (rest_rises (λ r. key_bytes (items_at ks primary) (items_at r primary)) row rows h),
)
  where
    less : (others : List Row) → AllByRecursion (FitAll ks) others → BeforeAll (λ r. key_bytes (items_at ks primary) (items_at r primary)) (key_bytes (items_at ks primary) (items_at row primary)) others
        → AllByRecursion (λ r. by_columns primary row r ≡ Less) others
    less [] g b = tt
    less (r ∷ others) g b =
        (sym (key_order (items_at ks primary) (items_at row primary) (items_at r primary) (items_fit ks row primary f.0 inside) (items_fit ks r primary g.0 inside)) ∙ before_less (key_bytes (items_at ks primary) (items_at row primary)) (key_bytes (items_at ks primary) (items_at r primary)) b.0, less others g.1 b.1)
