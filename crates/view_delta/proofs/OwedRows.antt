-- What a change of a row owes, where the rows with which a row of the first table is combined stay as they are.
use Rattle.std.specs.Prelude.{◌≡◌, ◌≢◌, ◌==◌, Bool, true, false, cond, T, ◌&&◌, ℤ, List, [], ◌∷◌, ◌++◌, map, filter, Option, Some, None, is_some}
use mathlib.Core.Path.{refl, sym, ap, ◌∙◌}
use Rattle.std.proofs.Common.{append-nil, eq-eqb, ne_eqb}
use Rattle.std.specs.List.{flat_map}
use Rattle.std.specs.Option.{option_map_or}
use Rattle.std.specs.Ordering.{int_cmp, int_eq, is_eq, is_lt}
use Rattle.std.specs.declared.cmp.Ordering.TheVariants.{Less, Equal, Greater}
use Rattle.std.specs.Cmp.Lexicographic.{slice_cmp, pointwise, lists_ties}
use Rattle.std.specs.FinMap.{get, entries, find, is_sorted}
use Rattle.std.specs.FinMap.Entries.{below_all}
use Rattle.iv_types.specs.declared.lock.GroupDelta.{GroupDelta}
use Rattle.iv_types.specs.declared.catalog.Second.{Second}
use Rattle.table_laws.specs.Place.{Place, place_cmp}
use Rattle.table_laws.specs.Table.{rows_where}
use Rattle.table_laws.specs.Sums.{passing}
use Rattle.table_laws.proofs.Place.{place_cmp_total, place_cmp-IsAntisymmetric}
use Rattle.table_laws.proofs.Tables.{by_key, same_key, other_key, get-write_same, get-write_other, rows_where_sorted, find-rows_where}
use Rattle.iv_meaning.specs.Schema.{Schema, ViewTree}
use Rattle.iv_meaning.specs.Database.{Row, Rows, rows_of}
use Rattle.iv_meaning.specs.Query.{Combination, combinations}
use Rattle.txn_machine.specs.Deltas.{RowChange, rows_after, contribution, is_counted, other_rows, contributions, exchanged, owed_to}
use Rattle.txn_machine.proofs.Looking.{exchanged_none}

-- ---- contributions that are equal

pub sums_tied : (xs ys : List ℤ) → pointwise int_eq xs ys ≡ is_eq (slice_cmp int_cmp xs ys)
sums_tied xs ys = lists_ties int_cmp (λ x y. refl) xs ys

-- ---- what a change owes

below_none : {X : Type 0} (k : Place) (es : List (Place × X)) → T (below_all place_cmp k es) → find place_cmp k es ≡ None
below_none k [] h = refl
below_none {X} k (e ∷ es) h = elim (place_cmp k e.0) as (λ r. T (is_lt r && below_all place_cmp k es) → cond (is_eq r) (Some e.1) (find place_cmp k es) ≡ None) [
  | Less ↦ λ t. below_none k es t
  | Equal ↦ λ t. absurd t
  | Greater ↦ λ t. absurd t
] h

first_holds : (a b : Bool) → T (a && b) → T a
first_holds true b p = tt
first_holds false b p = p

second : (a b : Bool) → T (a && b) → T b
second true b p = p
second false b p = absurd p

module _ {X Y : Type 0} (key : Place) (F : Place → List Y) (none : (q : Place) → q ≢ key → F q ≡ []) where
  pub at_one : (ys : List (Place × X)) → T (is_sorted place_cmp ys) → flat_map F (map (λ e. e.0) ys) ≡ cond (is_some (find place_cmp key ys)) (F key) []
  at_one [] h = refl
  at_one (e ∷ ys) h =
      let rest = at_one ys (second (below_all place_cmp e.0 ys) (is_sorted place_cmp ys) h) in
      by_key place_cmp_total place_cmp-IsAntisymmetric key e.0
      (λ same.
      let gone : find place_cmp key ys ≡ None = ap (λ k. find place_cmp k ys) same ∙ below_none e.0 ys (first_holds (below_all place_cmp e.0 ys) (is_sorted place_cmp ys) h) in
      let nothing : flat_map F (map (λ e. e.0) ys) ≡ [] = rest ∙ ap (λ o. cond (is_some o) (F key) []) gone in
      ap (λ zs. F e.0 ++ zs) nothing ∙ (append-nil (F e.0) ∙ (ap F (sym same)
      ∙ ap (λ b. cond (is_some (cond b (Some e.1) (find place_cmp key ys))) (F key) []) (sym (same_key place_cmp_total place_cmp-IsAntisymmetric key e.0 same)))))
      (λ other.
      ap (λ zs. zs ++ flat_map F (map (λ e. e.0) ys)) (none e.0 (λ i. other (sym i))) ∙ (rest
      ∙ ap (λ b. cond (is_some (cond b (Some e.1) (find place_cmp key ys))) (F key) []) (sym (other_key place_cmp_total place_cmp-IsAntisymmetric key e.0 other))))

-- what a row contributes, where the other rows are the same
pub by_others : (objects : Schema) (v : ViewTree) (m n : Rows) (o : Option Row) → other_rows m v ≡ other_rows n v → contributions objects v m o ≡ contributions objects v n o
by_others objects v m n None e = refl
by_others objects v m n (Some r) e = ap (λ (l : List (List Row)). map (contribution objects v) (filter (is_counted objects v) (map (λ (rest : Combination). r ∷ rest) (combinations l)))) e

pub alone_stays : (v : ViewTree) (m n : Rows) → v.second ≡ None → other_rows m v ≡ other_rows n v
alone_stays v m n e =
    ap (λ (o : Option Second). option_map_or (λ second. rows_of m second.table ∷ []) o []) e ∙ sym (ap (λ (o : Option Second). option_map_or (λ second. rows_of n second.table ∷ []) o []) e)

-- what is owed for the row at a place
abbrev owed_at : Schema → Rows → RowChange → ViewTree → Place → List GroupDelta
owed_at objects rows c v place = exchanged (contributions objects v rows (get rows place)) (contributions objects v (rows_after c rows) (get (rows_after c rows) place))

elsewhere : (objects : Schema) (rows : Rows) (c : RowChange) (v : ViewTree) → other_rows (rows_after c rows) v ≡ other_rows rows v → (q : Place) → q ≢ c.key → owed_at objects rows c v q ≡ []
elsewhere objects rows c v stay q n =
    exchanged_none (contributions objects v rows (get rows q)) (contributions objects v (rows_after c rows) (get (rows_after c rows) q))
    (sym (ap (contributions objects v (rows_after c rows)) (get-write_other place_cmp_total place_cmp-IsAntisymmetric rows c.key c.after q n) ∙ by_others objects v (rows_after c rows) rows (get rows q) stay))

here : (objects : Schema) (rows : Rows) (c : RowChange) (v : ViewTree) → other_rows (rows_after c rows) v ≡ other_rows rows v → get rows c.key ≡ c.before
    → owed_at objects rows c v c.key ≡ exchanged (contributions objects v rows c.before) (contributions objects v rows c.after)
here objects rows c v stay before =
    ap (λ o. exchanged (contributions objects v rows o) (contributions objects v (rows_after c rows) (get (rows_after c rows) c.key))) before
    ∙ ap (exchanged (contributions objects v rows c.before))
    (ap (contributions objects v (rows_after c rows)) (get-write_same place_cmp_total place_cmp-IsAntisymmetric rows c.key c.after) ∙ by_others objects v (rows_after c rows) rows c.after stay)

abbrev of_first : ViewTree → Place → Row → Bool
of_first v place row = place.0 == v.first

module _ (objects : Schema) (rows : Rows) (v : ViewTree) where
  walked : (m : Rows) (c : RowChange) → other_rows (rows_after c rows) v ≡ other_rows rows v
      → flat_map (owed_at objects rows c v) (map (λ e. e.0) (rows_where (of_first v) (entries m))) ≡ cond (is_some (passing (of_first v c.key) (get m c.key))) (owed_at objects rows c v c.key) []
  walked m c stay =
      at_one c.key (owed_at objects rows c v) (elsewhere objects rows c v stay) (rows_where (of_first v) (entries m)) (rows_where_sorted (of_first v) m)
      ∙ ap (λ o. cond (is_some o) (owed_at objects rows c v c.key) []) (find-rows_where place_cmp_total place_cmp-IsAntisymmetric (of_first v) m c.key)

  one_passes : {A : Type 0} (b : Bool) (row : Row) (xs : List A) → cond (is_some (cond b (Some row) None)) xs [] ≡ cond b xs []
  one_passes true row xs = refl
  one_passes false row xs = refl

  none_owed : (b : Bool) → [] ≡ cond b (exchanged [] []) []
  none_owed true = refl
  none_owed false = refl

  by_rows : (key : Place) (before after : Option Row) → get rows key ≡ before → other_rows (rows_after (record { key = key; before = before; after = after }) rows) v ≡ other_rows rows v
      → owed_to objects rows (record { key = key; before = before; after = after }) v ≡ cond (key.0 == v.first) (exchanged (contributions objects v rows before) (contributions objects v rows after)) []
  by_rows key before (Some row) is stay =
      let c : RowChange = record { key = key; before = before; after = Some row } in
      walked (rows_after c rows) c stay
      ∙ (ap (λ o. cond (is_some (passing (of_first v key) o)) (owed_at objects rows c v key) []) (get-write_same place_cmp_total place_cmp-IsAntisymmetric rows key (Some row))
      ∙ (one_passes (key.0 == v.first) row (owed_at objects rows c v key)
      ∙ ap (λ xs. cond (key.0 == v.first) xs []) (here objects rows c v stay is)))
  by_rows key (Some row) None is stay =
      let c : RowChange = record { key = key; before = Some row; after = None } in
      walked rows c stay
      ∙ (ap (λ o. cond (is_some (passing (of_first v key) o)) (owed_at objects rows c v key) []) is
      ∙ (one_passes (key.0 == v.first) row (owed_at objects rows c v key)
      ∙ ap (λ xs. cond (key.0 == v.first) xs []) (here objects rows c v stay is)))
  by_rows key None None is stay =
      let c : RowChange = record { key = key; before = None; after = None } in
      walked rows c stay
      ∙ (ap (λ o. cond (is_some (passing (of_first v key) o)) (owed_at objects rows c v key) []) is ∙ none_owed (key.0 == v.first))

-- the change of a row of the first table, or of one with which no row is combined
pub owed_where : (objects : Schema) (rows : Rows) (c : RowChange) (v : ViewTree) → other_rows (rows_after c rows) v ≡ other_rows rows v → get rows c.key ≡ c.before
    → owed_to objects rows c v ≡ cond (c.key.0 == v.first) (exchanged (contributions objects v rows c.before) (contributions objects v rows c.after)) []
owed_where objects rows c v stay is = by_rows objects rows v c.key c.before c.after is stay

pub owed_here : (objects : Schema) (rows : Rows) (c : RowChange) (v : ViewTree) → other_rows (rows_after c rows) v ≡ other_rows rows v → get rows c.key ≡ c.before → c.key.0 ≡ v.first
    → owed_to objects rows c v ≡ exchanged (contributions objects v rows c.before) (contributions objects v rows c.after)
owed_here objects rows c v stay is first_is =
    owed_where objects rows c v stay is ∙ ap (λ b. cond b (exchanged (contributions objects v rows c.before) (contributions objects v rows c.after)) []) (eq-eqb c.key.0 v.first first_is)

pub owed_elsewhere : (objects : Schema) (rows : Rows) (c : RowChange) (v : ViewTree) → other_rows (rows_after c rows) v ≡ other_rows rows v → get rows c.key ≡ c.before → c.key.0 ≢ v.first
    → owed_to objects rows c v ≡ []
owed_elsewhere objects rows c v stay is other =
    owed_where objects rows c v stay is ∙ ap (λ b. cond b (exchanged (contributions objects v rows c.before) (contributions objects v rows c.after)) []) (ne_eqb c.key.0 v.first other)
