-- The rows of a table of a sound database.
use Rattle.std.specs.Prelude.{◌≡◌, ◌≢◌, ℕ, zero, suc, ◌==◌, Bool, true, false, cond, T, ◌&&◌, List, [], ◌∷◌, ◌++◌, map, Option, Some, None, Contains}
use Rattle.std.specs.List.{All}
use mathlib.Core.Path.{refl, sym, ap, subst, ◌∙◌}
use Rattle.std.proofs.Common.{arith}
use Rattle.std.proofs.lemmas.List.Elements.{All-head, All-tail, All-map, All-append, All-weaker, All-contains_itself, Contains-append_right}
use Rattle.std.specs.FinMap.{get, entries, find, put, is_sorted}
use Rattle.std.specs.FinMap.Entries.{below_all, by_order, is_sorted-put, find-put, same_entries}
use Rattle.std.specs.declared.cmp.Ordering.{Ordering}
use Rattle.std.specs.declared.cmp.Ordering.TheVariants.{Less, Equal, Greater}
use Rattle.std.specs.Ordering.{nat_cmp, is_lt, eq_by_cmp, ordering_reverse, ordering_then}
use Rattle.std.specs.Cmp.{tied_itself, nat_cmp_total}
use Rattle.iv_types.specs.declared.catalog.TableDef.{TableDef}
use Rattle.iv_types.specs.Encoding.{kinds_of, FitAll}
use Rattle.table_laws.specs.Place.{Place, place_cmp}
use Rattle.table_laws.specs.Table.{rows_where}
use Rattle.table_laws.specs.Sums.{passing}
use Rattle.table_laws.proofs.Place.{place_cmp_total, place_cmp-IsAntisymmetric}
use Rattle.table_laws.proofs.Tables.{by_key, same_key, other_key, rows_where_sorted, find-rows_where, rows_where-write, Contains-rows_where, get-write_at, get-write_other}
use Rattle.iv_meaning.specs.Schema.{numbered, table}
use Rattle.iv_meaning.specs.Database.{Row, Rows, Database, rows_of, key_of, set_row}
use Rattle.iv_meaning.specs.Sound.{IsSound, IsRow}
use Rattle.query_laws.specs.Laws.{IsBefore, Rises, OtherRowsLaw, RowsLaw, SetRowLaw, ThereLaw}
use Rattle.query_laws.proofs.Rising.{key_cmp, key_total, before_less}

-- the entries of a table
abbrev pub in_table : ℕ → Place → Row → Bool
in_table n place row = place.0 == n

-- ---- another table

other_table : (n m : ℕ) → m ≢ n → (n == m) ≡ false
other_table n m ne = grind arith

none_passes : (n m : ℕ) (key : List ℕ) (found : Option Row) → m ≢ n → passing (in_table m (n, key)) found ≡ None
none_passes n m key None ne = refl
none_passes n m key (Some row) ne = ap (λ b. cond b (Some row) None) (other_table n m ne)

pub other_rows : OtherRowsLaw
other_rows rows n m key row ne =
    ap (map (λ (e : Place × Row). e.1)) (rows_where-write place_cmp_total place_cmp-IsAntisymmetric (in_table m) rows (n, key) row
    (none_passes n m key row ne ∙ sym (none_passes n m key (get rows (n, key)) ne)))

-- ---- rows under their keys

-- the rows as entries under their keys in their table
abbrev pub placed : ℕ → (Row → List ℕ) → List Row → List (Place × Row)
placed n key rows = map (λ row. ((n, key row), row)) rows

same_number : (n : ℕ) → nat_cmp n n ≡ Equal
same_number n = tied_itself nat_cmp_total n

pub placed_cmp : (n : ℕ) (a b : List ℕ) (r : Ordering) → key_cmp a b ≡ r → place_cmp (n, a) (n, b) ≡ r
placed_cmp n a b r e = ap (λ o. ordering_then o (key_cmp a b)) (same_number n) ∙ e

-- an entry has a row under its key in the table
abbrev pub IsPlaced : ℕ → (Row → List ℕ) → Place × Row → Type 0
IsPlaced n key e = e.0 ≡ (n, key e.1)

pub entries_placed : (n : ℕ) (key : Row → List ℕ) (es : List (Place × Row)) → All (IsPlaced n key) es → es ≡ placed n key (map (λ (e : Place × Row). e.1) es)
entries_placed n key [] h = refl
entries_placed n key (e ∷ es) h =
    let here : e.0 ≡ (n, key e.1) = All-head (IsPlaced n key) e es h in
    let rest = entries_placed n key es (All-tail (IsPlaced n key) e es h) in
    λ i. (here i, e.1) ∷ rest i

first : (a b : Bool) → T (a && b) → a ≡ true
first true b h = refl
first false b h = absurd h

second : (a b : Bool) → T (a && b) → T b
second true b h = h
second false b h = absurd h

then_equal : (n : ℕ) (o : Ordering) → is_lt (ordering_then (nat_cmp n n) o) ≡ true → is_lt o ≡ true
then_equal n o h = sym (ap (λ r. is_lt (ordering_then r o)) (same_number n)) ∙ h

pub placed_rises : (n : ℕ) (key : Row → List ℕ) (rows : List Row) → T (is_sorted place_cmp (placed n key rows)) → Rises key rows
placed_rises n key [] h = tt
placed_rises n key (row ∷ []) h = tt
placed_rises n key (row ∷ next ∷ rows) h =
    let tail : T (is_sorted place_cmp (placed n key (next ∷ rows))) = second (below_all place_cmp (n, key row) (placed n key (next ∷ rows))) _ h in
    let below : T (below_all place_cmp (n, key row) (placed n key (next ∷ rows))) = subst T (sym (first (below_all place_cmp (n, key row) (placed n key (next ∷ rows))) _ h)) tt in
    (then_equal n _ (first (is_lt (place_cmp (n, key row) (n, key next))) _ below), placed_rises n key (next ∷ rows) tail)

pub rows_placed : (n : ℕ) (key : Row → List ℕ) (rows : List Row) → map (λ (e : Place × Row). e.1) (placed n key rows) ≡ rows
rows_placed n key [] = refl
rows_placed n key (row ∷ rows) = ap (λ (xs : List Row). row ∷ xs) (rows_placed n key rows)

pub Contains-placed : (n : ℕ) (key : Row → List ℕ) (rows : List Row) (row : Row) → Contains rows row → Contains (placed n key rows) ((n, key row), row)
Contains-placed n key [] row c = absurd (omega (arith, c.1))
Contains-placed n key (r ∷ rows) row (zero, lt, is) = (0, omega arith, λ i. ((n, key (is i)), is i))
Contains-placed n key (r ∷ rows) row (suc k, lt, is) =
    let rest = Contains-placed n key rows row (k, omega (arith, lt), is) in
    (suc rest.0, omega (arith, rest.1), rest.2)

-- ---- a table of a sound database

pub some_table : (t u : TableDef) → Some (table t) ≡ Some (table u) → t ≡ u
some_table t u e = cc

module _ (db : Database) (sound : IsSound db) (n : ℕ) (t : TableDef) (is : numbered db.schema n ≡ Some (table t)) where
  abbrev pub listed : List (Place × Row)
  listed = rows_where (in_table n) (entries db.rows)

  -- what stands at a place of the table stands under its key, and fits
  pub row_there : (place : Place) (row : Row) → get db.rows place ≡ Some row → place.0 ≡ n → (place ≡ (n, key_of t row)) × FitAll (kinds_of t) row
  row_there place row there e =
      let r : IsRow db.schema place row = sound.rows place row there in
      let same : r.of ≡ t = some_table r.of t (sym r.table_is ∙ (ap (numbered db.schema) e ∙ is)) in
      (λ i. (e i, (r.key ∙ ap (λ u. key_of u row) same) i), subst (λ u. FitAll (kinds_of u) row) same r.fits)

  number_is : (a : ℕ) → (a == n) ≡ true → a ≡ n
  number_is a e = grind (arith, e)

  entry_there : (e : Place × Row) → Contains listed e → IsPlaced n (key_of t) e × FitAll (kinds_of t) e.1
  entry_there e c =
      let found = (Contains-rows_where place_cmp_total place_cmp-IsAntisymmetric (in_table n) db.rows e.0 e.1).0 c in
      row_there e.0 e.1 found.0 (number_is e.0.0 found.1)

  pub listed_placed : listed ≡ placed n (key_of t) (rows_of db.rows n)
  listed_placed = entries_placed n (key_of t) listed (All-weaker (Contains listed) (IsPlaced n (key_of t)) (λ e c. (entry_there e c).0) listed (All-contains_itself listed))

  pub rows_rise : Rises (key_of t) (rows_of db.rows n)
  rows_rise = placed_rises n (key_of t) (rows_of db.rows n) (subst (λ es. T (is_sorted place_cmp es)) listed_placed (rows_where_sorted (in_table n) db.rows))

  pub rows_fit : All (FitAll (kinds_of t)) (rows_of db.rows n)
  rows_fit = All-map (FitAll (kinds_of t)) (λ (e : Place × Row). e.1) listed (All-weaker (Contains listed) (λ e. FitAll (kinds_of t) e.1) (λ e c. (entry_there e c).1) listed (All-contains_itself listed))

  -- a row of the list stands under its key
  pub listed_there : (row : Row) → Contains (rows_of db.rows n) row → get db.rows (n, key_of t row) ≡ Some row
  listed_there row c =
      let entry : Contains listed ((n, key_of t row), row) = subst (λ es. Contains es ((n, key_of t row), row)) (sym listed_placed) (Contains-placed n (key_of t) (rows_of db.rows n) row c) in
      ((Contains-rows_where place_cmp_total place_cmp-IsAntisymmetric (in_table n) db.rows (n, key_of t row) row).0 entry).0

pub rows_law : RowsLaw
rows_law db sound n t is = (rows_rise db sound n t is, rows_fit db sound n t is)

pub there : ThereLaw
there db sound n t is row front r back split same =
    ap (λ k. get db.rows (n, k)) (sym same) ∙ listed_there db sound n t is r (subst (λ xs. Contains xs r) (sym split) (Contains-append_right front (r ∷ back) r (0, omega arith, refl)))

-- ---- a row put in

put_front : (n : ℕ) (key : Row → List ℕ) (row : Row) (front back : List Row) → All (λ r. IsBefore (key r) (key row)) front → All (λ r. IsBefore (key row) (key r)) back
    → put place_cmp (n, key row) row (placed n key (front ++ back)) ≡ placed n key (front ++ row ∷ back)
put_front n key row [] [] f b = refl
put_front n key row [] (r ∷ back) f b =
    let less : key_cmp (key row) (key r) ≡ Less = before_less (key row) (key r) (All-head (λ r. IsBefore (key row) (key r)) r back b) in
    ap (λ o. by_order o (((n, key row), row) ∷ placed n key (r ∷ back)) (((n, key r), row) ∷ placed n key back) (((n, key r), r) ∷ put place_cmp (n, key row) row (placed n key back)))
    (placed_cmp n (key row) (key r) Less less)
put_front n key row (r ∷ front) back f b =
    let less : key_cmp (key r) (key row) ≡ Less = before_less (key r) (key row) (All-head (λ r. IsBefore (key r) (key row)) r front f) in
    let greater : key_cmp (key row) (key r) ≡ Greater = key_total.antisymm (key row) (key r) ∙ ap ordering_reverse less in
    ap (λ o. by_order o (((n, key row), row) ∷ placed n key (r ∷ (front ++ back))) (((n, key r), row) ∷ placed n key (front ++ back)) (((n, key r), r) ∷ put place_cmp (n, key row) row (placed n key (front ++ back))))
    (placed_cmp n (key row) (key r) Greater greater)
    ∙ ap (λ es. ((n, key r), r) ∷ es) (put_front n key row front back (All-tail (λ r. IsBefore (key r) (key row)) r front f) b)

itself : (n : ℕ) → (n == n) ≡ true
itself n = grind arith

passing_all : (n : ℕ) (key : List ℕ) (found : Option Row) → passing (in_table n (n, key)) found ≡ found
passing_all n key None = refl
passing_all n key (Some row) = ap (λ b. cond b (Some row) None) (itself n)

cond_same : (q k : Place) (row : Row) (found : Option Row) → q ≡ k → cond (eq_by_cmp place_cmp q k) (Some row) found ≡ Some row
cond_same q k row found e = ap (λ b. cond b (Some row) found) (same_key place_cmp_total place_cmp-IsAntisymmetric q k e)

cond_other : (q k : Place) (row : Row) (found : Option Row) → q ≢ k → cond (eq_by_cmp place_cmp q k) (Some row) found ≡ found
cond_other q k row found e = ap (λ b. cond b (Some row) found) (other_key place_cmp_total place_cmp-IsAntisymmetric q k e)

-- what passes after a row of the table was put in
pub where_put : (rows : Rows) (n : ℕ) (key : List ℕ) (row : Row)
    → rows_where (in_table n) (entries (set_row rows n key (Some row))) ≡ put place_cmp (n, key) row (rows_where (in_table n) (entries rows))
where_put rows n key row =
    let was = rows_where (in_table n) (entries rows) in
    let now = set_row rows n key (Some row) in
    same_entries place_cmp place_cmp_total place_cmp-IsAntisymmetric (rows_where (in_table n) (entries now)) (put place_cmp (n, key) row was)
    (rows_where_sorted (in_table n) now) (is_sorted-put place_cmp place_cmp_total (n, key) row was (rows_where_sorted (in_table n) rows))
    (λ q.
    find-rows_where place_cmp_total place_cmp-IsAntisymmetric (in_table n) now q
    ∙ (by_key place_cmp_total place_cmp-IsAntisymmetric q (n, key)
    (λ e. ap (passing (in_table n q)) (get-write_at place_cmp_total place_cmp-IsAntisymmetric rows (n, key) (Some row) q e)
    ∙ (ap (λ (p : Place). passing (in_table n p) (Some row)) e ∙ (passing_all n key (Some row) ∙ sym (cond_same q (n, key) row (find place_cmp q was) e))))
    (λ ne. ap (passing (in_table n q)) (get-write_other place_cmp_total place_cmp-IsAntisymmetric rows (n, key) (Some row) q ne)
    ∙ (sym (find-rows_where place_cmp_total place_cmp-IsAntisymmetric (in_table n) rows q) ∙ sym (cond_other q (n, key) row (find place_cmp q was) ne)))
    ∙ sym (find-put place_cmp place_cmp_total q (n, key) row was)))

not_found : (n : ℕ) (key : Row → List ℕ) (k : List ℕ) (rows : List Row) → All (λ r. (k ≡ key r) → ⊥) rows → find place_cmp (n, k) (placed n key rows) ≡ None
not_found n key k [] h = refl
not_found n key k (r ∷ rows) h =
    ap (λ b. cond b (Some r) (find place_cmp (n, k) (placed n key rows))) (other_key place_cmp_total place_cmp-IsAntisymmetric (n, k) (n, key r) (λ e. All-head (λ r. (k ≡ key r) → ⊥) r rows h (λ i. (e i).1)))
    ∙ not_found n key k rows (All-tail (λ r. (k ≡ key r) → ⊥) r rows h)

not_itself : (k : List ℕ) → IsBefore k k → ⊥
not_itself k h = absurd (cc (sym (before_less k k h) ∙ tied_itself key_total k))

pub set_row_law : SetRowLaw
set_row_law db sound n t is row front back split f b =
    let key = key_of t in
    let stands : rows_where (in_table n) (entries db.rows) ≡ placed n key (front ++ back) = listed_placed db sound n t is ∙ ap (placed n key) split in
    let after : rows_where (in_table n) (entries (set_row db.rows n (key row) (Some row))) ≡ placed n key (front ++ row ∷ back) =
    where_put db.rows n (key row) row ∙ (ap (put place_cmp (n, key row) row) stands ∙ put_front n key row front back f b) in
    let apart : All (λ r. (key row ≡ key r) → ⊥) (front ++ back) = All-append (λ r. (key row ≡ key r) → ⊥) front back
    (All-weaker (λ r. IsBefore (key r) (key row)) (λ r. (key row ≡ key r) → ⊥) (λ r h e. not_itself (key row) (subst (λ k. IsBefore k (key row)) (sym e) h)) front f)
    (All-weaker (λ r. IsBefore (key row) (key r)) (λ r. (key row ≡ key r) → ⊥) (λ r h e. not_itself (key row) (subst (λ k. IsBefore (key row) k) (sym e) h)) back b) in (
      ap (map (λ (e : Place × Row). e.1)) after ∙ rows_placed n key (front ++ row ∷ back),
      sym (passing_all n (key row) (get db.rows (n, key row)))
          ∙ (sym (find-rows_where place_cmp_total place_cmp-IsAntisymmetric (in_table n) db.rows (n, key row))
          ∙ (ap (find place_cmp (n, key row)) stands ∙ not_found n key (key row) (front ++ back) apart)),
    )
