-- What a change owes is what it changes: of each view, by the sum over the rows of its first table.
use Rattle.std.specs.Prelude.{◌≡◌, ℕ, ◌==◌, ◌&&◌, cond, Bool, true, false, List, [], ◌∷◌, ◌++◌, map, filter, ℤ, pos, ◌+ℤ◌, ◌≤ℤ◌, neg_ℤ, get_or, Option, Some, None}
use Rattle.std.specs.List.{AllByRecursion, flat_map}
use Rattle.std.specs.Option.{option_map_or}
use mathlib.Core.Path.{refl, sym, ap, ◌∙◌}
use Rattle.std.proofs.Common.{arith}
use Rattle.std.proofs.lemmas.Int.{ints}
use Rattle.std.proofs.lemmas.Bool.{false≢true}
use Rattle.std.proofs.lemmas.Slice.Eq.{bytes_eq-Decides}
use Rattle.std.specs.FinMap.{get, entries, slice_cmp-IsAntisymmetric, int_cmp-IsAntisymmetric}
use Rattle.std.specs.declared.cmp.Ordering.{Ordering}
use Rattle.std.specs.declared.cmp.Ordering.TheVariants.{Less, Equal, Greater}
use Rattle.std.specs.Ordering.{int_cmp, is_eq}
use Rattle.std.specs.Cmp.Lexicographic.{slice_cmp}
use Rattle.std.specs.Str.{bytes_eq}
use Rattle.iv_types.specs.declared.lock.GroupDelta.{GroupDelta}
use Rattle.iv_types.specs.declared.catalog.Second.{Second}
use Rattle.table_laws.specs.Place.{Place}
use Rattle.table_laws.specs.Table.{rows_where}
use Rattle.table_laws.specs.Sums.{sum_of, total, part}
use Rattle.table_laws.proofs.Tables.{total-write, total_same, total_plus}
use Rattle.table_laws.proofs.Place.{place_cmp_total, place_cmp-IsAntisymmetric}
use Rattle.iv_meaning.specs.Schema.{Schema, ViewTree, sources_of}
use Rattle.iv_meaning.specs.Database.{Row, Rows, rows_of}
use Rattle.iv_meaning.specs.Query.{Combination, combinations}
use Rattle.txn_machine.specs.Deltas.{RowChange, rows_after, contribution, is_counted, other_rows, contributions, negated, are_equal, exchanged, owed_to, views_of, owed, worth, is_for, due}
use Rattle.txn_machine.specs.Fresh.{all_contributions, fresh}
use Rattle.txn_machine.proofs.Agreeing.{written_same}
use Rattle.txn_machine.proofs.Columns.{adds, adds-negated}

-- ---- sums of deltas

pub due_append : (p : Place) (column : ℕ) (xs ys : List GroupDelta) → due p column (xs ++ ys) ≡ due p column xs +ℤ due p column ys
due_append p column [] ys = omega (arith, ints)
due_append p column (d ∷ xs) ys = let rest : due p column (xs ++ ys) ≡ due p column xs +ℤ due p column ys = due_append p column xs ys in omega (arith, ints)

due_negated : (p : Place) (column : ℕ) (ds : List GroupDelta) → due p column (map negated ds) ≡ neg_ℤ (due p column ds)
due_negated p column [] = refl
due_negated p column (d ∷ ds) =
    let one : adds p column (negated d) ≡ neg_ℤ (adds p column d) = adds-negated p column d in
    let rest : due p column (map negated ds) ≡ neg_ℤ (due p column ds) = due_negated p column ds in
    omega (arith, ints)

-- deltas of one combination of one view
abbrev pub AreOnes : ℕ → List GroupDelta → Type 0
AreOnes view ds = AllByRecursion (λ d. (d.view ≡ view) × (d.count ≡ pos 1)) ds

equal_is : (o : Ordering) → is_eq o ≡ true → o ≡ Equal
equal_is Less e = absurd (false≢true e)
equal_is Equal e = refl
equal_is Greater e = absurd (false≢true e)

both_true : (a b : Bool) → (a && b) ≡ true → (a ≡ true) × (b ≡ true)
both_true true b h = (refl, h)
both_true false b h = absurd (false≢true h)

equal_due : (p : Place) (column view : ℕ) (xs ys : List GroupDelta) → AreOnes view xs → AreOnes view ys → are_equal xs ys ≡ true → due p column xs ≡ due p column ys
equal_due p column view [] [] h k e = refl
equal_due p column view [] (y ∷ ys) h k e = absurd (false≢true e)
equal_due p column view (x ∷ xs) [] h k e = absurd (false≢true e)
equal_due p column view (x ∷ xs) (y ∷ ys) h k e =
    let parts = both_true (bytes_eq x.group y.group && is_eq (slice_cmp int_cmp x.sums y.sums)) (are_equal xs ys) e in
    let heads = both_true (bytes_eq x.group y.group) (is_eq (slice_cmp int_cmp x.sums y.sums)) parts.0 in
    let group : x.group ≡ y.group = (bytes_eq-Decides x.group y.group).0 heads.0 in
    let sums : x.sums ≡ y.sums = slice_cmp-IsAntisymmetric int_cmp-IsAntisymmetric x.sums y.sums (equal_is (slice_cmp int_cmp x.sums y.sums) heads.1) in
    let views : x.view ≡ y.view = h.0.0 ∙ sym k.0.0 in
    let counts : x.count ≡ y.count = h.0.1 ∙ sym k.0.1 in
    let one : adds p column x ≡ adds p column y = λ i. cond ((views i == p.0) && bytes_eq (group i) p.1) (get_or (counts i ∷ sums i) column (pos 0)) (pos 0) in
    let rest : due p column xs ≡ due p column ys = equal_due p column view xs ys h.1 k.1 parts.1 in
    λ i. one i +ℤ rest i

exchanged_due : (p : Place) (column view : ℕ) (xs ys : List GroupDelta) → AreOnes view xs → AreOnes view ys → due p column (exchanged xs ys) +ℤ due p column xs ≡ due p column ys
exchanged_due p column view xs ys h k = elim (are_equal xs ys) as (λ b. are_equal xs ys ≡ b → due p column (cond b [] (map negated xs ++ ys)) +ℤ due p column xs ≡ due p column ys) [
  | true ↦ λ e. let same : due p column xs ≡ due p column ys = equal_due p column view xs ys h k e in omega (arith, ints)
  | false ↦ λ e.
      let whole : due p column (map negated xs ++ ys) ≡ due p column (map negated xs) +ℤ due p column ys = due_append p column (map negated xs) ys in
      let turned : due p column (map negated xs) ≡ neg_ℤ (due p column xs) = due_negated p column xs in
      omega (arith, ints)
] refl

-- ---- sums over the rows of a table

-- a number of each place of a table
sum_places : (n : ℕ) (p : Place) (column : ℕ) (f : Place → List GroupDelta) (es : List (Place × Row))
    → due p column (flat_map f (map (λ (e : Place × Row). e.0) (rows_where (λ place row. place.0 == n) es))) ≡ sum_of (λ k r. cond (k.0 == n) (due p column (f k)) (pos 0)) es
sum_places n p column f [] = refl
sum_places n p column f (e ∷ es) =
    let rest : due p column (flat_map f (map (λ (e : Place × Row). e.0) (rows_where (λ place row. place.0 == n) es))) ≡ sum_of (λ k r. cond (k.0 == n) (due p column (f k)) (pos 0)) es = sum_places n p column f es in
    elim (e.0.0 == n) as (λ b. due p column (flat_map f (map (λ (e : Place × Row). e.0) (cond b (e ∷ rows_where (λ place row. place.0 == n) es) (rows_where (λ place row. place.0 == n) es)))) ≡ cond b (due p column (f e.0)) (pos 0) +ℤ sum_of (λ k r. cond (k.0 == n) (due p column (f k)) (pos 0)) es) [
      | true ↦
          let whole : due p column (f e.0 ++ flat_map f (map (λ (e : Place × Row). e.0) (rows_where (λ place row. place.0 == n) es))) ≡ due p column (f e.0) +ℤ due p column (flat_map f (map (λ (e : Place × Row). e.0) (rows_where (λ place row. place.0 == n) es))) =
          due_append p column (f e.0) (flat_map f (map (λ (e : Place × Row). e.0) (rows_where (λ place row. place.0 == n) es))) in
          omega (arith, ints)
      | false ↦ omega (arith, ints)
    ]

-- a number of each row of a table
sum_rows : (n : ℕ) (p : Place) (column : ℕ) (f : Row → List GroupDelta) (es : List (Place × Row))
    → due p column (flat_map f (map (λ (e : Place × Row). e.1) (rows_where (λ place row. place.0 == n) es))) ≡ sum_of (λ k r. cond (k.0 == n) (due p column (f r)) (pos 0)) es
sum_rows n p column f [] = refl
sum_rows n p column f (e ∷ es) =
    let rest : due p column (flat_map f (map (λ (e : Place × Row). e.1) (rows_where (λ place row. place.0 == n) es))) ≡ sum_of (λ k r. cond (k.0 == n) (due p column (f r)) (pos 0)) es = sum_rows n p column f es in
    elim (e.0.0 == n) as (λ b. due p column (flat_map f (map (λ (e : Place × Row). e.1) (cond b (e ∷ rows_where (λ place row. place.0 == n) es) (rows_where (λ place row. place.0 == n) es)))) ≡ cond b (due p column (f e.1)) (pos 0) +ℤ sum_of (λ k r. cond (k.0 == n) (due p column (f r)) (pos 0)) es) [
      | true ↦
          let whole : due p column (f e.1 ++ flat_map f (map (λ (e : Place × Row). e.1) (rows_where (λ place row. place.0 == n) es))) ≡ due p column (f e.1) +ℤ due p column (flat_map f (map (λ (e : Place × Row). e.1) (rows_where (λ place row. place.0 == n) es))) =
          due_append p column (f e.1) (flat_map f (map (λ (e : Place × Row). e.1) (rows_where (λ place row. place.0 == n) es))) in
          omega (arith, ints)
      | false ↦ omega (arith, ints)
    ]

filter_append : {X : Type 0} (test : X → Bool) (xs ys : List X) → filter test (xs ++ ys) ≡ filter test xs ++ filter test ys
filter_append test [] ys = refl
filter_append test (x ∷ xs) ys = elim (test x) as (λ b. cond b (x ∷ filter test (xs ++ ys)) (filter test (xs ++ ys)) ≡ cond b (x ∷ filter test xs) (filter test xs) ++ filter test ys) [
  | true ↦ ap (λ l. x ∷ l) (filter_append test xs ys)
  | false ↦ filter_append test xs ys
]

map_append : {X Y : Type 0} (f : X → Y) (xs ys : List X) → map f (xs ++ ys) ≡ map f xs ++ map f ys
map_append f [] ys = refl
map_append f (x ∷ xs) ys = ap (λ l. f x ∷ l) (map_append f xs ys)

-- what is chosen of parts
chosen_flat : {X Y Z : Type 0} (f : Y → Z) (test : Y → Bool) (parts : X → List Y) (xs : List X) → map f (filter test (flat_map parts xs)) ≡ flat_map (λ x. map f (filter test (parts x))) xs
chosen_flat f test parts [] = refl
chosen_flat f test parts (x ∷ xs) =
    ap (map f) (filter_append test (parts x) (flat_map parts xs))
    ∙ (map_append f (filter test (parts x)) (filter test (flat_map parts xs))
    ∙ ap (λ l. map f (filter test (parts x)) ++ l) (chosen_flat f test parts xs))

module _ (objects : Schema) (v : ViewTree) where
  -- the deltas of a row of the first table
  abbrev of_row : Rows → Row → List GroupDelta
  of_row rows row = contributions objects v rows (Some row)

  others_same : (rows : Rows) → map (rows_of rows) (elim v.second [ None ↦ [] | Some second ↦ second.table ∷ [] ]) ≡ other_rows rows v
  others_same rows = go v.second
    where
      go : (o : Option Second) → map (rows_of rows) (elim o [ None ↦ [] | Some second ↦ second.table ∷ [] ]) ≡ option_map_or (λ second. rows_of rows second.table ∷ []) o []
      go None = refl
      go (Some second) = refl

  -- row by row of the first table
  pub by_rows : (rows : Rows) → all_contributions objects rows v ≡ flat_map (of_row rows) (rows_of rows v.first)
  by_rows rows =
      ap (λ (l : List (List Row)). map (contribution objects v) (filter (is_counted objects v) (combinations (rows_of rows v.first ∷ l)))) (others_same rows)
      ∙ chosen_flat (contribution objects v) (is_counted objects v) (λ row. map (λ (rest : Combination). row ∷ rest) (combinations (other_rows rows v))) (rows_of rows v.first)

  ones : (cs : List Combination) → AreOnes v.number (map (contribution objects v) cs)
  ones [] = tt
  ones (c ∷ cs) = ((refl, refl), ones cs)

  pub contributions_ones : (rows : Rows) (o : Option Row) → AreOnes v.number (contributions objects v rows o)
  contributions_ones rows None = tt
  contributions_ones rows (Some row) = ones (filter (is_counted objects v) (map (λ (rest : Combination). row ∷ rest) (combinations (other_rows rows v))))

  pub all_ones : (rows : Rows) → AreOnes v.number (all_contributions objects rows v)
  all_ones rows = ones (filter (is_counted objects v) (combinations (map (rows_of rows) (sources_of v))))

  module _ (p : Place) (column : ℕ) where
    -- what the row at a place adds
    abbrev at : Rows → Rows → Place → ℤ
    at of rows k = due p column (contributions objects v of (get rows k))

    abbrev spread : Rows → Rows → Place → Row → ℤ
    spread of rows k r = cond (k.0 == v.first) (at of rows k) (pos 0)

    total_is : (rows : Rows) → due p column (all_contributions objects rows v) ≡ total (spread rows rows) rows
    total_is rows =
        ap (due p column) (by_rows rows)
        ∙ (sum_rows v.first p column (of_row rows) (entries rows)
        ∙ total_same place_cmp_total place_cmp-IsAntisymmetric (λ k r. cond (k.0 == v.first) (due p column (of_row rows r)) (pos 0)) (spread rows rows) rows (λ q. there q (get rows q) refl))
      where
        there : (q : Place) (o : Option Row) → get rows q ≡ o → part (λ k r. cond (k.0 == v.first) (due p column (of_row rows r)) (pos 0)) q o ≡ part (spread rows rows) q o
        there q None e = refl
        there q (Some r) e = ap (λ (x : Option Row). cond (q.0 == v.first) (due p column (contributions objects v rows x)) (pos 0)) (sym e)

    -- what is exchanged, summed over a table
    exchanged_total : (m rows after : Rows) → total (λ k r. cond (k.0 == v.first) (due p column (exchanged (contributions objects v rows (get rows k)) (contributions objects v after (get after k)))) (pos 0)) m +ℤ total (spread rows rows) m ≡ total (spread after after) m
    exchanged_total m rows after =
        let f : Place → Row → ℤ = λ k r. cond (k.0 == v.first) (due p column (exchanged (contributions objects v rows (get rows k)) (contributions objects v after (get after k)))) (pos 0) in
        sym (total_plus f (spread rows rows) m)
        ∙ total_same place_cmp_total place_cmp-IsAntisymmetric (λ k r. f k r +ℤ spread rows rows k r) (spread after after) m (λ q. each q (get m q))
      where
        one : (k : Place) → cond (k.0 == v.first) (due p column (exchanged (contributions objects v rows (get rows k)) (contributions objects v after (get after k)))) (pos 0) +ℤ cond (k.0 == v.first) (at rows rows k) (pos 0) ≡ cond (k.0 == v.first) (at after after k) (pos 0)
        one k = elim (k.0 == v.first) as (λ b. cond b (due p column (exchanged (contributions objects v rows (get rows k)) (contributions objects v after (get after k)))) (pos 0) +ℤ cond b (at rows rows k) (pos 0) ≡ cond b (at after after k) (pos 0)) [
          | true ↦ exchanged_due p column v.number (contributions objects v rows (get rows k)) (contributions objects v after (get after k)) (contributions_ones rows (get rows k)) (contributions_ones after (get after k))
          | false ↦ omega (arith, ints)
        ]

        each : (q : Place) (o : Option Row) → part (λ k r. cond (k.0 == v.first) (due p column (exchanged (contributions objects v rows (get rows k)) (contributions objects v after (get after k)))) (pos 0) +ℤ spread rows rows k r) q o ≡ part (spread after after) q o
        each q None = refl
        each q (Some r) = one q

    none_there : (b : Bool) (x : ℤ) → x ≡ pos 0 → cond b x (pos 0) ≡ pos 0
    none_there true x e = e
    none_there false x e = refl

    -- one view
    pub sum_view : (rows : Rows) (c : RowChange) → due p column (all_contributions objects (rows_after c rows) v) ≡ due p column (all_contributions objects rows v) +ℤ due p column (owed_to objects rows c v)
    sum_view rows c = go c.after refl
      where
        after : Rows
        after = rows_after c rows

        exchange : Place → List GroupDelta
        exchange k = exchanged (contributions objects v rows (get rows k)) (contributions objects v (rows_after c rows) (get (rows_after c rows) k))

        go : (o : Option Row) → c.after ≡ o
            → due p column (all_contributions objects (rows_after c rows) v) ≡ due p column (all_contributions objects rows v)
            +ℤ due p column (flat_map (λ k. exchanged (contributions objects v rows (get rows k)) (contributions objects v (rows_after c rows) (get (rows_after c rows) k)))
            (map (λ (e : Place × Row). e.0) (rows_where (λ place row. place.0 == v.first) (entries (elim o as (λ (o : Option Row). Rows) [ None ↦ rows | Some row ↦ rows_after c rows ])))))
        go (Some row) is =
            let new : Rows = rows_after c rows in
            let f : Place → List GroupDelta = λ k. exchanged (contributions objects v rows (get rows k)) (contributions objects v new (get new k)) in
            let now : due p column (all_contributions objects new v) ≡ total (spread new new) new = total_is new in
            let was : due p column (all_contributions objects rows v) ≡ total (spread rows rows) rows = total_is rows in
            let owes : due p column (flat_map f (map (λ (e : Place × Row). e.0) (rows_where (λ place row. place.0 == v.first) (entries new)))) ≡ total (λ k r. cond (k.0 == v.first) (due p column (f k)) (pos 0)) new = sum_places v.first p column f (entries new) in
            let both : total (λ k r. cond (k.0 == v.first) (due p column (f k)) (pos 0)) new +ℤ total (spread rows rows) new ≡ total (spread new new) new = exchanged_total new rows new in
            let law : total (spread rows rows) new +ℤ part (spread rows rows) c.key (get rows c.key) ≡ total (spread rows rows) rows +ℤ part (spread rows rows) c.key c.after = total-write place_cmp_total place_cmp-IsAntisymmetric (spread rows rows) rows c.key c.after in
            let new_part : part (spread rows rows) c.key c.after ≡ cond (c.key.0 == v.first) (at rows rows c.key) (pos 0) = ap (part (spread rows rows) c.key) is in
            let old_part : part (spread rows rows) c.key (get rows c.key) ≡ cond (c.key.0 == v.first) (at rows rows c.key) (pos 0) = here (get rows c.key) refl in
            omega (arith, ints)
          where
            here : (o : Option Row) → get rows c.key ≡ o → part (spread rows rows) c.key o ≡ cond (c.key.0 == v.first) (at rows rows c.key) (pos 0)
            here None e = sym (none_there (c.key.0 == v.first) (at rows rows c.key) (ap (λ (x : Option Row). due p column (contributions objects v rows x)) e))
            here (Some r) e = refl
        go None is =
            let new : Rows = rows_after c rows in
            let f : Place → List GroupDelta = λ k. exchanged (contributions objects v rows (get rows k)) (contributions objects v new (get new k)) in
            let now : due p column (all_contributions objects new v) ≡ total (spread new new) new = total_is new in
            let was : due p column (all_contributions objects rows v) ≡ total (spread rows rows) rows = total_is rows in
            let owes : due p column (flat_map f (map (λ (e : Place × Row). e.0) (rows_where (λ place row. place.0 == v.first) (entries rows)))) ≡ total (λ k r. cond (k.0 == v.first) (due p column (f k)) (pos 0)) rows = sum_places v.first p column f (entries rows) in
            let both : total (λ k r. cond (k.0 == v.first) (due p column (f k)) (pos 0)) rows +ℤ total (spread rows rows) rows ≡ total (spread new new) rows = exchanged_total rows rows new in
            let law : total (spread new new) new +ℤ part (spread new new) c.key (get rows c.key) ≡ total (spread new new) rows +ℤ part (spread new new) c.key c.after = total-write place_cmp_total place_cmp-IsAntisymmetric (spread new new) rows c.key c.after in
            let gone : at new new c.key ≡ pos 0 = ap (λ (x : Option Row). due p column (contributions objects v new x)) (written_same rows c.key c.after ∙ is) in
            let new_part : part (spread new new) c.key c.after ≡ pos 0 = ap (part (spread new new) c.key) is in
            let old_part : part (spread new new) c.key (get rows c.key) ≡ pos 0 = here (get rows c.key) gone in
            omega (arith, ints)
          where
            here : (o : Option Row) → at (rows_after c rows) (rows_after c rows) c.key ≡ pos 0 → part (spread (rows_after c rows) (rows_after c rows)) c.key o ≡ pos 0
            here None e = refl
            here (Some r) e = none_there (c.key.0 == v.first) (at (rows_after c rows) (rows_after c rows) c.key) e

-- ---- all views

sum_views : (objects : Schema) (rows : Rows) (c : RowChange) (p : Place) (column : ℕ) (vs : List ViewTree)
    → due p column (flat_map (all_contributions objects (rows_after c rows)) vs) ≡ due p column (flat_map (all_contributions objects rows) vs) +ℤ due p column (flat_map (owed_to objects rows c) vs)
sum_views objects rows c p column [] = omega (arith, ints)
sum_views objects rows c p column (v ∷ vs) =
    let new : Rows = rows_after c rows in
    let one : due p column (all_contributions objects new v) ≡ due p column (all_contributions objects rows v) +ℤ due p column (owed_to objects rows c v) = sum_view objects v p column rows c in
    let rest : due p column (flat_map (all_contributions objects new) vs) ≡ due p column (flat_map (all_contributions objects rows) vs) +ℤ due p column (flat_map (owed_to objects rows c) vs) = sum_views objects rows c p column vs in
    let a : due p column (all_contributions objects new v ++ flat_map (all_contributions objects new) vs) ≡ due p column (all_contributions objects new v) +ℤ due p column (flat_map (all_contributions objects new) vs) = due_append p column (all_contributions objects new v) (flat_map (all_contributions objects new) vs) in
    let b : due p column (all_contributions objects rows v ++ flat_map (all_contributions objects rows) vs) ≡ due p column (all_contributions objects rows v) +ℤ due p column (flat_map (all_contributions objects rows) vs) = due_append p column (all_contributions objects rows v) (flat_map (all_contributions objects rows) vs) in
    let d : due p column (owed_to objects rows c v ++ flat_map (owed_to objects rows c) vs) ≡ due p column (owed_to objects rows c v) +ℤ due p column (flat_map (owed_to objects rows c) vs) = due_append p column (owed_to objects rows c v) (flat_map (owed_to objects rows c) vs) in
    omega (arith, ints)

pub sum_law : (objects : Schema) (rows : Rows) (c : RowChange) (p : Place) (column : ℕ) → fresh objects (rows_after c rows) p column ≡ fresh objects rows p column +ℤ due p column (owed objects rows c)
sum_law objects rows c p column = sum_views objects rows c p column (views_of objects)

-- ---- groups of no combinations

abbrev AreCounts : List GroupDelta → Type 0
AreCounts ds = AllByRecursion (λ d. d.count ≡ pos 1) ds

counts_of : (view : ℕ) (ds : List GroupDelta) → AreOnes view ds → AreCounts ds
counts_of view [] h = tt
counts_of view (d ∷ ds) h = (h.0.1, counts_of view ds h.1)

counts_append : (xs ys : List GroupDelta) → AreCounts xs → AreCounts ys → AreCounts (xs ++ ys)
counts_append [] ys h k = k
counts_append (x ∷ xs) ys h k = (h.0, counts_append xs ys h.1 k)

all_counts : (objects : Schema) (rows : Rows) (vs : List ViewTree) → AreCounts (flat_map (all_contributions objects rows) vs)
all_counts objects rows [] = tt
all_counts objects rows (v ∷ vs) = counts_append (all_contributions objects rows v) (flat_map (all_contributions objects rows) vs) (counts_of v.number (all_contributions objects rows v) (all_ones objects v rows)) (all_counts objects rows vs)

count_adds : (p : Place) (d : GroupDelta) → d.count ≡ pos 1 → adds p 0 d ≡ cond (is_for p d) (pos 1) (pos 0)
count_adds p d e = ap (λ n. cond (is_for p d) n (pos 0)) e

not_below : (p : Place) (ds : List GroupDelta) → AreCounts ds → pos 0 ≤ℤ due p 0 ds
not_below p [] h = omega (arith, ints)
not_below p (d ∷ ds) h =
    let rest : pos 0 ≤ℤ due p 0 ds = not_below p ds h.1 in
    let one : adds p 0 d ≡ cond (is_for p d) (pos 1) (pos 0) = count_adds p d h.0 in
    let sign : pos 0 ≤ℤ cond (is_for p d) (pos 1) (pos 0) = elim (is_for p d) as (λ b. pos 0 ≤ℤ cond b (pos 1) (pos 0)) [ true ↦ omega (arith, ints) | false ↦ omega (arith, ints) ] in
    omega (arith, ints)

none_due : (p : Place) (column : ℕ) (ds : List GroupDelta) → AreCounts ds → due p 0 ds ≡ pos 0 → due p column ds ≡ pos 0
none_due p column [] h e = refl
none_due p column (d ∷ ds) h e =
    let rest : pos 0 ≤ℤ due p 0 ds = not_below p ds h.1 in
    let one : adds p 0 d ≡ cond (is_for p d) (pos 1) (pos 0) = count_adds p d h.0 in
    elim (is_for p d) as (λ b. is_for p d ≡ b → due p column (d ∷ ds) ≡ pos 0) [
      | true ↦ λ t. let here : cond (is_for p d) (pos 1) (pos 0) ≡ pos 1 = ap (λ b. cond b (pos 1) (pos 0)) t in absurd (omega (arith, ints))
      | false ↦ λ f.
          let here : cond (is_for p d) (pos 1) (pos 0) ≡ pos 0 = ap (λ b. cond b (pos 1) (pos 0)) f in
          let zero_here : adds p column d ≡ pos 0 = ap (λ b. cond b (worth column d) (pos 0)) f in
          let more : due p column ds ≡ pos 0 = none_due p column ds h.1 (omega (arith, ints)) in
          omega (arith, ints)
    ] refl

pub none_law : (objects : Schema) (rows : Rows) (p : Place) → fresh objects rows p 0 ≡ pos 0 → (column : ℕ) → fresh objects rows p column ≡ pos 0
none_law objects rows p e column = none_due p column (flat_map (all_contributions objects rows) (views_of objects)) (all_counts objects rows (views_of objects)) e
