-- A row in place of another: what its entries do to maps that hold the rows of a table.
use Rattle.std.specs.Prelude.{◌≡◌, ◌≢◌, ℕ, true, false, cond, List, [], ◌∷◌, ◌++◌, Option, Some, None, IfSome}
use Rattle.std.specs.List.{AllByRecursion, flat_map}
use Rattle.std.proofs.lemmas.Bool.{cases_eq}
use Rattle.std.proofs.lemmas.Grind.{flat_map-append}
use Rattle.std.proofs.lemmas.Slice.Eq.{bytes_eq-Decides}
use Rattle.std.specs.Str.{bytes_eq}
use Rattle.std.specs.FinMap.{get, insert, remove}
use Rattle.std.specs.Cmp.Lexicographic.{nat_list_cmp_total}
use mathlib.Core.Path.{refl, sym, ap, subst, ◌∙◌}
use mathlib.Core.Logic.{inl, inr}
use Rattle.iv_types.specs.declared.value.Value.{Value}
use Rattle.iv_types.specs.declared.lock.IndexEntry.{IndexEntry}
use Rattle.iv_types.specs.declared.catalog.TableDef.{TableDef}
use Rattle.iv_types.specs.declared.catalog.IndexDef.{IndexDef}
use Rattle.iv_types.specs.Definitions.{Definitions, AreNumbered}
use Rattle.iv_types.specs.Encoding.{kinds_of, key_value_bytes, row_bytes}
use Rattle.iv_types.specs.Maps.{Map}
use Rattle.iv_meaning.specs.Schema.{indexes_of}
use Rattle.iv_meaning.specs.Objects.{schema_of}
use Rattle.iv_meaning.specs.Database.{Rows, key_of, set_row}
use Rattle.iv_meaning.specs.View.{index_key}
use Rattle.row_codec.specs.Laws.{OneSpelling}
use Rattle.table_laws.specs.Place.{Place}
use Rattle.table_laws.specs.Table.{write}
use Rattle.table_laws.proofs.Place.{place_cmp_total, place_cmp-IsAntisymmetric}
use Rattle.table_laws.proofs.Tables.{by_bool, by_key, get-write_at, get-write_other, write_twice, write_there}
use Rattle.table_store.specs.Stored.{stored, table_of, StandsUnder, IsOfRow, IsIndexOf, HoldsTable, HoldsIndex, HoldsAll, Holds}
use Rattle.table_store.specs.Changes.{has_key, entry_in, own_entries, without_row, with_row, Sets}
use Rattle.table_store.specs.Entries.{Off, AreApart, AreThere, AreAbsent, TakesOut, PutsIn}
use Rattle.table_store.proofs.Maps.{bytes_same}
use Rattle.table_store.proofs.Rows.{some_same, set_here, set_there}
use Rattle.table_store.proofs.IndexKeys.{one_key}
use Rattle.table_store.proofs.TableIndexes.{each_to, each_append, each_first, each_last, each_flat, Indexes, NumbersApart, indexes_are, table_is_not_index, one_index}

abbrev Row : Type 0
Row = List Value

-- ---- the test of two keys

same_keys : (a b : List ℕ) → bytes_eq a b ≡ true → a ≡ b
same_keys a b e = (bytes_eq-Decides a b).0 e

other_keys : (a b : List ℕ) → bytes_eq a b ≡ false → a ≢ b
other_keys a b e p = let is = (bytes_eq-Decides a b).1 p in absurd (cc)

not_same : (b a : List ℕ) → bytes_eq b a ≡ false → bytes_eq a b ≡ false
not_same b a e = elim (bytes_eq a b) as (λ x. bytes_eq a b ≡ x → x ≡ false) [
  | true ↦ λ is. absurd (other_keys b a e (sym (same_keys a b is)))
  | false ↦ λ is. refl
] refl

-- ---- the entries of a row

module _ (ds : Definitions) (t : TableDef) (numbered_are : AreNumbered ds) (is_table : table_of ds t.number ≡ Some t) (key : List ℕ) where
  abbrev those : List IndexDef
  those = indexes_of (schema_of ds) t.number

  known : Indexes ds t those
  known = indexes_are ds t numbered_are

  abbrev own : Option Row → Option Row → List IndexEntry
  own one other = own_entries ds t key one other

  entry_off : (n : ℕ) (row : Row) (other : Option Row) (i : IndexDef) → i.number ≢ n → Off n (entry_in t row other i)
  entry_off n row other i ne = elim (has_key t i other (index_key t i row)) as (λ b. Off n (cond b [] (record { index = i.number; key = index_key t i row; value = [] } ∷ []))) [
    | true ↦ tt
    | false ↦ (ne, tt)
  ]

  flat_off : (n : ℕ) (row : Row) (other : Option Row) (is : List IndexDef) → AllByRecursion (λ i. i.number ≢ n) is → Off n (flat_map (entry_in t row other) is)
  flat_off n row other is h = each_flat (λ i. i.number ≢ n) (λ e. e.index ≢ n) (entry_in t row other) (λ i ne. entry_off n row other i ne) is h

  -- the entries of the other indexes are not of the primary one
  others_off : (row : Row) (other : Option Row) → Off t.number (flat_map (entry_in t row other) those)
  others_off row other = flat_off t.number row other those (each_to (IsIndexOf ds t) (λ i. i.number ≢ t.number) (λ i one. table_is_not_index ds t t i is_table one) those known.all)

  -- an index in which the other row has the same key
  kept_off : (row : Row) (other : Option Row) (i : IndexDef) → IsIndexOf ds t i → has_key t i other (index_key t i row) ≡ true → Off i.number (own (Some row) other)
  kept_off row other i one has =
      let s = known.split i one in
      let none : entry_in t row other i ≡ [] = ap (λ b. cond b [] (record { index = i.number; key = index_key t i row; value = [] } ∷ [])) has in
      let parts : flat_map (entry_in t row other) those ≡ flat_map (entry_in t row other) s.before ++ flat_map (entry_in t row other) s.after =
      ap (flat_map (entry_in t row other)) s.whole ∙ (flat_map-append (entry_in t row other) s.before (i ∷ s.after)
      ∙ ap (λ (l : List IndexEntry). flat_map (entry_in t row other) s.before ++ (l ++ flat_map (entry_in t row other) s.after)) none) in (
        λ e. table_is_not_index ds t t i is_table one (sym e),
        subst (Off i.number) (sym parts) (each_append (λ e. e.index ≢ i.number) (flat_map (entry_in t row other) s.before) (flat_map (entry_in t row other) s.after)
            (flat_off i.number row other s.before s.apart_before) (flat_off i.number row other s.after s.apart_after)),
      )

  -- what holds of each entry holds of that of an index in which the other row has it not
  of_index : (P : IndexEntry → Type 0) (row : Row) (other : Option Row) (i : IndexDef) → IsIndexOf ds t i → has_key t i other (index_key t i row) ≡ false
      → AllByRecursion P (own (Some row) other) → P (record { index = i.number; key = index_key t i row; value = [] })
  of_index P row other i one has h =
      let s = known.split i one in
      let mine : entry_in t row other i ≡ record { index = i.number; key = index_key t i row; value = [] } ∷ [] = ap (λ b. cond b [] (record { index = i.number; key = index_key t i row; value = [] } ∷ [])) has in
      let parts : flat_map (entry_in t row other) those ≡ flat_map (entry_in t row other) s.before ++ (entry_in t row other i ++ flat_map (entry_in t row other) s.after) =
      ap (flat_map (entry_in t row other)) s.whole ∙ flat_map-append (entry_in t row other) s.before (i ∷ s.after) in
      let here : AllByRecursion P (entry_in t row other i) = each_first P (entry_in t row other i) (flat_map (entry_in t row other) s.after)
      (each_last P (flat_map (entry_in t row other) s.before) (entry_in t row other i ++ flat_map (entry_in t row other) s.after) (subst (AllByRecursion P) parts h.1)) in
      (subst (AllByRecursion P) mine here).0

  -- ---- they are of different indexes

  flat_apart : (row : Row) (other : Option Row) (is : List IndexDef) → NumbersApart is → AreApart (flat_map (entry_in t row other) is)
  flat_apart row other [] h = tt
  flat_apart row other (i ∷ is) h =
      elim (has_key t i other (index_key t i row)) as (λ b. AreApart (cond b [] (record { index = i.number; key = index_key t i row; value = [] } ∷ []) ++ flat_map (entry_in t row other) is)) [
        | true ↦ flat_apart row other is h.1
        | false ↦ (flat_off i.number row other is h.0, flat_apart row other is h.1)
      ]

  pub own_apart : (one other : Option Row) → AreApart (own one other)
  own_apart None other = tt
  own_apart (Some row) other = (others_off row other, flat_apart row other those known.apart)

  -- ---- an index after entries were taken out and put in

  out_of : (one other : Option Row) (old mid : ℕ → Map) → TakesOut (own one other) old mid → (i : IndexDef) → IsIndexOf ds t i
      → mid i.number ≡ elim one [ None ↦ old i.number | Some row ↦ cond (has_key t i other (index_key t i row)) (old i.number) (remove (old i.number) (index_key t i row)) ]
  out_of None other old mid takes i one = takes.rest i.number tt
  out_of (Some row) other old mid takes i one =
      elim (has_key t i other (index_key t i row)) as (λ b. has_key t i other (index_key t i row) ≡ b → mid i.number ≡ cond b (old i.number) (remove (old i.number) (index_key t i row))) [
        | true ↦ λ e. takes.rest i.number (kept_off row other i one e)
        | false ↦ λ e. of_index (λ x. mid x.index ≡ remove (old x.index) x.key) row other i one e takes.each
      ] refl

  into : (other one : Option Row) (mid new : ℕ → Map) → PutsIn (own other one) mid new → (i : IndexDef) → IsIndexOf ds t i
      → new i.number ≡ elim other [ None ↦ mid i.number | Some row ↦ cond (has_key t i one (index_key t i row)) (mid i.number) (insert (mid i.number) (index_key t i row) []) ]
  into None one mid new puts i is = puts.rest i.number tt
  into (Some row) one mid new puts i is =
      elim (has_key t i one (index_key t i row)) as (λ b. has_key t i one (index_key t i row) ≡ b → new i.number ≡ cond b (mid i.number) (insert (mid i.number) (index_key t i row) [])) [
        | true ↦ λ e. puts.rest i.number (kept_off row one i is e)
        | false ↦ λ e. of_index (λ x. new x.index ≡ insert (mid x.index) x.key x.value) row one i is e puts.each
      ] refl

  -- the primary index
  primary_is : (one other : Option Row) (old mid new : ℕ → Map) → TakesOut (own one other) old mid → PutsIn (own other one) mid new → get (old t.number) key ≡ stored t one
      → new t.number ≡ write (old t.number) key (stored t other)
  primary_is None None old mid new takes puts there = puts.rest t.number tt ∙ (takes.rest t.number tt ∙ sym (write_there nat_list_cmp_total bytes_same (old t.number) key None there))
  primary_is (Some row) None old mid new takes puts there = puts.rest t.number tt ∙ takes.each.0
  primary_is None (Some row) old mid new takes puts there = puts.each.0 ∙ ap (λ (m : Map). insert m key (row_bytes (kinds_of t) row)) (takes.rest t.number tt)
  primary_is (Some was) (Some row) old mid new takes puts there =
      puts.each.0 ∙ (ap (λ (m : Map). insert m key (row_bytes (kinds_of t) row)) takes.each.0 ∙ write_twice nat_list_cmp_total bytes_same (old t.number) key None (Some (row_bytes (kinds_of t) row)))

  -- the others
  secondary_is : (one other : Option Row) (old mid new : ℕ → Map) → TakesOut (own one other) old mid → PutsIn (own other one) mid new → (i : IndexDef) → IsIndexOf ds t i
      → ((row : Row) → one ≡ Some row → get (old i.number) (index_key t i row) ≡ Some []) → new i.number ≡ with_row t i other (without_row t i one (old i.number))
  secondary_is None None old mid new takes puts i is there = into None None mid new puts i is ∙ out_of None None old mid takes i is
  secondary_is (Some row) None old mid new takes puts i is there = into None (Some row) mid new puts i is ∙ out_of (Some row) None old mid takes i is
  secondary_is None (Some row) old mid new takes puts i is there =
      into (Some row) None mid new puts i is ∙ ap (λ (m : Map). insert m (index_key t i row) []) (out_of None (Some row) old mid takes i is)
  secondary_is (Some was) (Some row) old mid new takes puts i is there =
      let a = index_key t i was in
      let b = index_key t i row in
      by_bool (bytes_eq b a)
      (λ e.
      let same : b ≡ a = same_keys b a e in
      let e' : bytes_eq a b ≡ true = (bytes_eq-Decides a b).1 (sym same) in
      let kept : new i.number ≡ old i.number =
      into (Some row) (Some was) mid new puts i is ∙ (ap (λ x. cond x (mid i.number) (insert (mid i.number) b [])) e'
      ∙ (out_of (Some was) (Some row) old mid takes i is ∙ ap (λ x. cond x (old i.number) (remove (old i.number) a)) e)) in
      kept ∙ sym (ap (λ (k : List ℕ). insert (remove (old i.number) a) k []) same
      ∙ (write_twice nat_list_cmp_total bytes_same (old i.number) a None (Some []) ∙ write_there nat_list_cmp_total bytes_same (old i.number) a (Some []) (there was refl))))
      (λ e.
      let e' : bytes_eq a b ≡ false = not_same b a e in
      into (Some row) (Some was) mid new puts i is ∙ (ap (λ x. cond x (mid i.number) (insert (mid i.number) b [])) e'
      ∙ ap (λ (m : Map). insert m b []) (out_of (Some was) (Some row) old mid takes i is ∙ ap (λ x. cond x (old i.number) (remove (old i.number) a)) e)))

  off_own : (n : ℕ) (one other : Option Row) → n ≢ t.number → ((i : IndexDef) → IsIndexOf ds t i → n ≢ i.number) → Off n (own one other)
  off_own n None other ne h = tt
  off_own n (Some row) other ne h = (
    λ e. ne (sym e),
    flat_off n row other those (each_to (IsIndexOf ds t) (λ i. i.number ≢ n) (λ i one e. h i one (sym e)) those known.all),
  )

  pub sets : (one other : Option Row) (old mid new : ℕ → Map) → TakesOut (own one other) old mid → PutsIn (own other one) mid new → get (old t.number) key ≡ stored t one
      → ((i : IndexDef) → IsIndexOf ds t i → (row : Row) → one ≡ Some row → get (old i.number) (index_key t i row) ≡ Some []) → Sets ds key one other old new t
  sets one other old mid new takes puts there others = record {
    primary = primary_is one other old mid new takes puts there;
    secondary = λ i is. secondary_is one other old mid new takes puts i is (others i is);
    rest = λ n ne h. puts.rest n (off_own n other one ne h) ∙ takes.rest n (off_own n one other ne h);
  }

  -- ---- what is there, and what is not

  module _ (rows : Rows) (old : ℕ → Map) (holds : HoldsAll ds rows old t) where
    pub are_there : (one other : Option Row) → get rows (t.number, key) ≡ one → AreThere old (own one other)
    are_there None other is = tt
    are_there (Some row) other is = (
      holds.primary.same key ∙ ap (stored t) is,
      each_flat (IsIndexOf ds t) (λ (e : IndexEntry). get (old e.index) e.key ≡ Some e.value) (entry_in t row other)
          (λ i one. elim (has_key t i other (index_key t i row)) as (λ b. AllByRecursion (λ (e : IndexEntry). get (old e.index) e.key ≡ Some e.value) (cond b [] (record { index = i.number; key = index_key t i row; value = [] } ∷ []))) [
            | true ↦ tt
            | false ↦ ((holds.others i one).each key row is, tt)
          ]) those known.all,
    )

    module _ (spelling : OneSpelling key_value_bytes) (one other : Option Row) (is : get rows (t.number, key) ≡ one) (stands : IfSome other (StandsUnder t key)) where
      -- a row with a key of the other row is the one that is there
      only_one : (i : IndexDef) → IsIndexOf ds t i → (row : Row) → StandsUnder t key row → has_key t i one (index_key t i row) ≡ false → get (old i.number) (index_key t i row) ≡ None
      only_one i index row mine has = none_there (get (old i.number) (index_key t i row)) refl
        where
          none_there : (v : Option (List ℕ)) → get (old i.number) (index_key t i row) ≡ v → v ≡ None
          none_there None e = refl
          none_there (Some value) e =
              let o = (holds.others i index).only (index_key t i row) value e in
              let found = holds.primary.fitting o.key o.row o.is_there in
              let keys : key_of t row ≡ key_of t o.row = one_key spelling t i row o.row mine.0 found.0 o.at_is in
              let here : o.key ≡ key = found.1 ∙ (sym keys ∙ sym mine.1) in
              let that : one ≡ Some o.row = sym is ∙ (ap (λ (k : List ℕ). get rows (t.number, k)) (sym here) ∙ o.is_there) in
              let yes : has_key t i one (index_key t i row) ≡ true = ap (λ (r : Option Row). has_key t i r (index_key t i row)) that ∙ (bytes_eq-Decides (index_key t i o.row) (index_key t i row)).1 (sym o.at_is) in
              absurd (cc)

      absent_in : (i : IndexDef) → IsIndexOf ds t i → (mid : ℕ → Map) → TakesOut (own one other) old mid → (row : Row) → StandsUnder t key row → has_key t i one (index_key t i row) ≡ false
          → get (mid i.number) (index_key t i row) ≡ None
      absent_in i index mid takes row mine has = after one takes refl
        where
          not_old : get (old i.number) (index_key t i row) ≡ None
          not_old = only_one i index row mine has

          removed : (k : List ℕ) → get (remove (old i.number) k) (index_key t i row) ≡ None
          removed k = by_key nat_list_cmp_total bytes_same (index_key t i row) k
              (λ e. get-write_at nat_list_cmp_total bytes_same (old i.number) k None (index_key t i row) e)
              (λ d. get-write_other nat_list_cmp_total bytes_same (old i.number) k None (index_key t i row) d ∙ not_old)

          after : (o : Option Row) → TakesOut (own o other) old mid → o ≡ one → get (mid i.number) (index_key t i row) ≡ None
          after None t' e = ap (λ (m : Map). get m (index_key t i row)) (out_of None other old mid t' i index) ∙ not_old
          after (Some was) t' e = ap (λ (m : Map). get m (index_key t i row)) (out_of (Some was) other old mid t' i index)
              ∙ (elim (has_key t i other (index_key t i was)) as (λ b. get (cond b (old i.number) (remove (old i.number) (index_key t i was))) (index_key t i row) ≡ None) [
                | true ↦ not_old
                | false ↦ removed (index_key t i was)
              ])

      primary_absent : (mid : ℕ → Map) → (o : Option Row) → o ≡ one → TakesOut (own o other) old mid → get (mid t.number) key ≡ None
      primary_absent mid None e takes = ap (λ (m : Map). get m key) (takes.rest t.number tt) ∙ (holds.primary.same key ∙ ap (stored t) (is ∙ sym e))
      primary_absent mid (Some row) e takes = ap (λ (m : Map). get m key) takes.each.0 ∙ get-write_at nat_list_cmp_total bytes_same (old t.number) key None key refl

      pub are_absent : (mid : ℕ → Map) → TakesOut (own one other) old mid → AreAbsent mid (own other one)
      are_absent mid takes = go other stands
        where
          go : (o : Option Row) → IfSome o (StandsUnder t key) → AreAbsent mid (own o one)
          go None st = tt
          go (Some row) st = (
            primary_absent mid one refl takes,
            each_flat (IsIndexOf ds t) (λ (e : IndexEntry). get (mid e.index) e.key ≡ None) (entry_in t row one)
                (λ i index. elim (has_key t i one (index_key t i row)) as (λ b. has_key t i one (index_key t i row) ≡ b → AllByRecursion (λ (e : IndexEntry). get (mid e.index) e.key ≡ None) (cond b [] (record { index = i.number; key = index_key t i row; value = [] } ∷ []))) [
                  | true ↦ λ e. tt
                  | false ↦ λ e. (absent_in i index mid takes row st e, tt)
                ] refl) those known.all,
          )

-- ---- the rows after

module _ (spelling : OneSpelling key_value_bytes) (rows : Rows) (t : TableDef) (m0 : Map) (primary : HoldsTable rows t m0) (key : List ℕ) (one other : Option Row)
    (is : get rows (t.number, key) ≡ one) (stands : IfSome other (StandsUnder t key)) where
  abbrev after : Rows
  after = set_row rows t.number key other

  get_here : (q : List ℕ) → q ≡ key → get after (t.number, q) ≡ other
  get_here q e = get-write_at place_cmp_total place_cmp-IsAntisymmetric rows (t.number, key) other (t.number, q) (ap (λ (k : List ℕ). (t.number, k)) e)

  get_there : (q : List ℕ) → q ≢ key → get after (t.number, q) ≡ get rows (t.number, q)
  get_there q d = get-write_other place_cmp_total place_cmp-IsAntisymmetric rows (t.number, key) other (t.number, q) (λ p. d (ap (λ (x : Place). x.1) p))

  module _ (i : IndexDef) (m : Map) (holds : HoldsIndex rows t i m) where
    abbrev mid : Map
    mid = without_row t i one m

    put_there : (o : Option Row) (row : Row) → o ≡ Some row → get (with_row t i o mid) (index_key t i row) ≡ Some []
    put_there None row e = absurd (cc)
    put_there (Some r) row e = get-write_at nat_list_cmp_total bytes_same mid (index_key t i r) (Some []) (index_key t i row) (ap (index_key t i) (sym (some_same r row e)))

    -- a row under another key has another key in the index
    apart : (q : List ℕ) (row r : Row) → q ≢ key → StandsUnder t q row → StandsUnder t key r → index_key t i row ≢ index_key t i r
    apart q row r d mine its e = d (mine.1 ∙ (one_key spelling t i row r mine.0 its.0 e ∙ sym its.1))

    with_other : (k : List ℕ) (o : Option Row) → ((r : Row) → o ≡ Some r → k ≢ index_key t i r) → get (with_row t i o mid) k ≡ get mid k
    with_other k None h = refl
    with_other k (Some r) h = get-write_other nat_list_cmp_total bytes_same mid (index_key t i r) (Some []) k (h r refl)

    without_other : (k : List ℕ) (o : Option Row) → ((r : Row) → o ≡ Some r → k ≢ index_key t i r) → get (without_row t i o m) k ≡ get m k
    without_other k None h = refl
    without_other k (Some r) h = get-write_other nat_list_cmp_total bytes_same m (index_key t i r) None k (h r refl)

    some_stands : (o : Option Row) (r : Row) → IfSome o (StandsUnder t key) → o ≡ Some r → StandsUnder t key r
    some_stands o r st e = let P : Option Row → Type 0 = λ x. IfSome x (StandsUnder t key) in subst P e st

    one_stands : (r : Row) → one ≡ Some r → StandsUnder t key r
    one_stands r e = primary.fitting key r (is ∙ e)

    each_after : (q : List ℕ) (row : Row) → get after (t.number, q) ≡ Some row → get (with_row t i other mid) (index_key t i row) ≡ Some []
    each_after q row there = by_key nat_list_cmp_total bytes_same q key
        (λ e. put_there other row (sym (get_here q e) ∙ there))
        (λ d.
        let was : get rows (t.number, q) ≡ Some row = sym (get_there q d) ∙ there in
        let mine = primary.fitting q row was in
        with_other (index_key t i row) other (λ r e. apart q row r d mine (some_stands other r stands e))
        ∙ (without_other (index_key t i row) one (λ r e. apart q row r d mine (one_stands r e)) ∙ holds.each q row was))

    -- an entry that was there and is not that of the row that went
    still : (at value : List ℕ) → ((r : Row) → one ≡ Some r → at ≢ index_key t i r) → get m at ≡ Some value → IsOfRow after t i at value
    still at value h there =
        let o = holds.only at value there in
        record {
          key = o.key;
          row = o.row;
          is_there = get_there o.key (λ e. h o.row (sym is ∙ (ap (λ (k : List ℕ). get rows (t.number, k)) (sym e) ∙ o.is_there)) o.at_is) ∙ o.is_there;
          at_is = o.at_is;
          empty = o.empty;
        }

    without_still : (o : Option Row) → o ≡ one → (at value : List ℕ) → get (without_row t i o m) at ≡ Some value → IsOfRow after t i at value
    without_still None e at value there = still at value (λ r e'. let no : None ≡ Some r = e ∙ e' in absurd (cc)) there
    without_still (Some w) e at value there = by_key nat_list_cmp_total bytes_same at (index_key t i w)
        (λ e'. let no : None ≡ Some value = sym (get-write_at nat_list_cmp_total bytes_same m (index_key t i w) None at e') ∙ there in absurd (cc))
        (λ d. still at value (λ r e' e''. d (e'' ∙ ap (index_key t i) (sym (some_same w r (e ∙ e')))))
        (sym (get-write_other nat_list_cmp_total bytes_same m (index_key t i w) None at d) ∙ there))

    only_after : (o : Option Row) → o ≡ other → (at value : List ℕ) → get (with_row t i o mid) at ≡ Some value → IsOfRow after t i at value
    only_after None e at value there = without_still one refl at value there
    only_after (Some r) e at value there = by_key nat_list_cmp_total bytes_same at (index_key t i r)
        (λ e'. record {
          key = key;
          row = r;
          is_there = get_here key refl ∙ sym e;
          at_is = e';
          empty = some_same value [] (sym there ∙ get-write_at nat_list_cmp_total bytes_same mid (index_key t i r) (Some []) at e');
        })
        (λ d. without_still one refl at value (sym (get-write_other nat_list_cmp_total bytes_same mid (index_key t i r) (Some []) at d) ∙ there))

    pub index_after : HoldsIndex after t i (with_row t i other mid)
    index_after = record { each = each_after; only = λ at value there. only_after other refl at value there }

-- an index of another table
other_index : (rows : Rows) (u : TableDef) (i : IndexDef) (m : Map) (table : ℕ) (key : List ℕ) (row : Option Row) → HoldsIndex rows u i m → u.number ≢ table → HoldsIndex (set_row rows table key row) u i m
other_index rows u i m table key row holds apart = record {
  each = λ q r there. holds.each q r (sym (other q) ∙ there);
  only = λ at value there.
      let o = holds.only at value there in
      record { key = o.key; row = o.row; is_there = other o.key ∙ o.is_there; at_is = o.at_is; empty = o.empty };
}
  where
    other : (q : List ℕ) → get (set_row rows table key row) (u.number, q) ≡ get rows (u.number, q)
    other q = get-write_other place_cmp_total place_cmp-IsAntisymmetric rows (table, key) row (u.number, q) (λ p. apart (ap (λ (x : Place). x.0) p))

pub sets_rows : (ds : Definitions) (t : TableDef) → table_of ds t.number ≡ Some t → OneSpelling key_value_bytes → (key : List ℕ) (one other : Option Row) (old new : ℕ → Map) → Sets ds key one other old new t
    → IfSome other (StandsUnder t key) → (rows : Rows) → get rows (t.number, key) ≡ one → Holds ds rows old → Holds ds (set_row rows t.number key other) new
sets_rows ds t is_table spelling key one other old new set stands rows is holds u there = elim (cases_eq u.number t.number) [
  | inl e ↦
      let same : t ≡ u = some_same t u (sym is_table ∙ (ap (table_of ds) (sym e) ∙ there)) in
      let mine : HoldsAll ds rows old t = holds t is_table in
      let done : HoldsAll ds (set_row rows t.number key other) new t = record {
        primary = set_here rows t (old t.number) (new t.number) key other mine.primary set.primary stands;
        others = λ i one'. subst (λ (m : Map). HoldsIndex (set_row rows t.number key other) t i m) (sym (set.secondary i one'))
            (index_after spelling rows t (old t.number) mine.primary key one other is stands i (old i.number) (mine.others i one'));
      } in
      subst (λ (v : TableDef). HoldsAll ds (set_row rows t.number key other) new v) same done
  | inr d ↦
      let its : HoldsAll ds rows old u = holds u there in
      record {
        primary = set_there rows u (old u.number) (new u.number) t.number key other its.primary (set.rest u.number d (λ i index e. table_is_not_index ds u t i there index (sym e))) d;
        others = λ i index.
            let kept : new i.number ≡ old i.number = set.rest i.number (table_is_not_index ds t u i is_table index)
            (λ j index' e. d (sym index.of_table ∙ (ap (λ (x : IndexDef). x.table) (one_index ds u t i j index index' e) ∙ index'.of_table))) in
            subst (λ (m : Map). HoldsIndex (set_row rows t.number key other) u i m) (sym kept) (other_index rows u i (old i.number) t.number key other (its.others i index) d);
      }
]
