-- What the look-ups of a change read, and that this tells what the change owes.
use Rattle.std.specs.Prelude.{◌≡◌, ◌≢◌, ℕ, zero, suc, ◌<◌, ◌==◌, Bool, true, false, cond, ◌&&◌, List, [], ◌∷◌, ◌++◌, length, map, filter, Option, Some, None}
use Rattle.std.specs.List.{AllByRecursion, Contains, flat_map}
use Rattle.std.specs.Option.{option_to_list}
use mathlib.Core.Path.{refl, sym, ap, subst, ◌∙◌}
use Rattle.std.proofs.Common.{arith, append-nil, append_assoc, eq-eqb, eqb-true}
use Rattle.std.proofs.lemmas.Bool.{true≢false, ne_eqb}
use Rattle.std.proofs.lemmas.Grind.{flat_map-append}
use Rattle.std.proofs.lemmas.List.{length-map}
use Rattle.std.proofs.lemmas.List.Elements.{recursion_from_All, Contains-append_left, Contains-append_right}
use Rattle.std.specs.FinMap.{get, entries}
use Rattle.iv_types.specs.declared.value.Interval.{Interval}
use Rattle.iv_types.specs.declared.catalog.Second.{Second}
use Rattle.iv_types.specs.declared.catalog.TableDef.{TableDef}
use Rattle.iv_types.specs.declared.catalog.IndexDef.{IndexDef}
use Rattle.iv_types.specs.declared.lock.GroupDelta.{GroupDelta}
use Rattle.iv_types.specs.declared.lock.LockMode.TheVariants.{Share}
use Rattle.iv_types.specs.declared.lock.Want.{Want}
use Rattle.iv_types.specs.Encoding.{kinds_of, FitAll, key_bytes, lies_in}
use Rattle.iv_types.specs.Intervals.{LiesIn, point, prefix_interval}
use Rattle.table_laws.specs.Place.{Place}
use Rattle.table_laws.specs.Table.{rows_where}
use Rattle.table_laws.specs.Sums.{passing}
use Rattle.table_laws.proofs.Place.{place_cmp_total, place_cmp-IsAntisymmetric}
use Rattle.table_laws.proofs.Tables.{by_key, get-write_same, get-write_other, rows_where-write}
use Rattle.row_codec.proofs.RangeLaws.{alone}
use Rattle.iv_meaning.specs.Schema.{Schema, Object, table, index, ViewTree, numbered, items_at, key_kinds, primary_of}
use Rattle.iv_meaning.specs.Database.{Row, Rows, Database, rows_of, key_of}
use Rattle.iv_meaning.specs.Sound.{IsSound, AreColumns}
use Rattle.iv_meaning.specs.Query.{sorted_by}
use Rattle.iv_meaning.specs.Reading.{by_columns}
use Rattle.iv_meaning.specs.View.{read, object_rows, index_rows, rows_between, index_key}
use Rattle.query_laws.specs.Laws.{Rises}
use Rattle.query_laws.proofs.Fitting.{ArePlaces}
use Rattle.query_laws.proofs.IndexRows.{sorted_between, rises_by}
use Rattle.query_laws.proofs.Rising.{between_rising}
use Rattle.query_laws.proofs.TableRows.{row_there, rows_rise, rows_fit, some_table}
use Rattle.txn_machine.specs.Deltas.{RowChange, rows_after, contributions, exchanged, owed_to, look_ups, look_up_first, look_up_second}
use Rattle.txn_machine.specs.ViewLaws.{AreSound, IsRight, IsJoin, primary, secondary}
use Rattle.txn_machine.proofs.Looking.{all_entries, exchanged_none, in_prefix, begins, joined_key, joined_place, others_stay}
use Rattle.txn_machine.proofs.Holding.{contains_here}
use Rattle.txn_machine.proofs.Reading.{both_true, filter_rows}
use Rattle.view_delta.specs.Parts.{first_contributed, with_second, owed_for, of_first, looked_up}
use Rattle.query_laws.proofs.Each.{each_filtered}
use Rattle.view_delta.proofs.Fits.{unsorted_each}
use Rattle.view_delta.proofs.OwedRows.{owed_here, owed_elsewhere}
use Rattle.view_delta.proofs.SecondRows.{entry_of, one_where, contributed_second, none_elsewhere, first_is}

abbrev database : Schema → Rows → Database
database objects rows = record { number = 0; schema = objects; rows = rows }

sound_database : (objects : Schema) (rows : Rows) → AreSound objects rows → IsSound (database objects rows)
sound_database objects rows h = record { objects = h.objects; rows = h.rows }

-- ---- what is read

module _ (objects : Schema) (rows : Rows) (sound : AreSound objects rows) (n : ℕ) (t : TableDef) (is : numbered objects n ≡ Some (table t)) where
  abbrev db : Database
  db = database objects rows

  number_is : t.number ≡ n
  number_is = (sound.objects n (table t) is).0

  primary_in : ArePlaces (kinds_of t) t.primary
  primary_in = subst (λ m. AllByRecursion (λ p. p < m) t.primary) (sym (length-map t.columns (λ column. column.kind))) (recursion_from_All (λ p. p < length t.columns) t.primary (sound.objects n (table t) is).1)

  rise : Rises (key_of t) (rows_of rows n)
  rise = rows_rise db (sound_database objects rows sound) n t is

  fit : AllByRecursion (FitAll (kinds_of t)) (rows_of rows n)
  fit = recursion_from_All (FitAll (kinds_of t)) (rows_of rows n) (rows_fit db (sound_database objects rows sound) n t is)

  read_table : (interval : Interval) → read db n interval ≡ rows_between (key_of t) interval (rows_of rows n)
  read_table interval = ap (λ (o : Option Object). object_rows db o interval) is ∙ ap (λ m. rows_between (key_of t) interval (rows_of rows m)) number_is

  -- the point of a key has the row under it
  pub read_point : (k : List ℕ) → read db n (point k) ≡ option_to_list (get rows (n, k))
  read_point k =
      read_table (point k)
      ∙ (between_rising (key_of t) (point k) (rows_of rows n) rise
      ∙ (filter_rows n (λ row. lies_in (key_of t row) (point k)) (entries rows)
      ∙ (ap (map (λ (e : Place × Row). e.1)) (one_where test rows (n, k) only) ∙ told (get rows (n, k)) refl)))
    where
      test : Place → Row → Bool
      test place row = (place.0 == n) && lies_in (key_of t row) (point k)

      only : (q : Place) (row : Row) → get rows q ≡ Some row → ((q.0 == n) && lies_in (key_of t row) (point k)) ≡ true → q ≡ (n, k)
      only q row e h =
          let parts = both_true (q.0 == n) (lies_in (key_of t row) (point k)) h in
          let placed = row_there db (sound_database objects rows sound) n t is q row e (eqb-true q.0 n parts.0) in
          placed.0 ∙ (λ i. (n, (alone k (key_of t row)).0 parts.1 i))

      told : (o : Option Row) → get rows (n, k) ≡ o → map (λ (e : Place × Row). e.1) (entry_of (n, k) (passing (λ row. (n == n) && lies_in (key_of t row) (point k)) o)) ≡ option_to_list o
      told None e = refl
      told (Some row) e =
          let placed = row_there db (sound_database objects rows sound) n t is (n, k) row e refl in
          let inside : LiesIn (key_of t row) (point k) = (alone k (key_of t row)).1 (sym (ap (λ (p : Place). p.1) placed.0)) in
          ap (λ b. map (λ (x : Place × Row). x.1) (entry_of (n, k) (cond (b && lies_in (key_of t row) (point k)) (Some row) None))) (eq-eqb n n refl)
          ∙ ap (λ b. map (λ (x : Place × Row). x.1) (entry_of (n, k) (cond b (Some row) None))) inside

  -- what an index has in an interval, in the order of the primary key
  sorted_table : (interval : Interval) → sorted_by (by_columns t.primary) (read db n interval) ≡ filter (λ row. lies_in (key_of t row) interval) (rows_of rows n)
  sorted_table interval =
      ap (sorted_by (by_columns t.primary)) (read_table interval)
      ∙ sorted_between (kinds_of t) [] t.primary tt primary_in (rows_of rows n) fit (rises_by (kinds_of t) t.primary primary_in (rows_of rows n) fit rise) interval

  sorted_index : (m : ℕ) (i : IndexDef) → numbered objects m ≡ Some (index i) → i.table ≡ n → (interval : Interval)
      → sorted_by (by_columns t.primary) (read db m interval) ≡ filter (λ row. lies_in (index_key t i row) interval) (rows_of rows n)
  sorted_index m i there of interval =
      let o = sound.objects m (index i) there in
      let its_table : numbered objects i.table ≡ Some (table t) = ap (numbered objects) of ∙ is in
      let same : o.1.of ≡ t = some_table o.1.of t (sym o.1.table_is ∙ its_table) in
      let columns : ArePlaces (kinds_of t) i.columns = subst (λ (u : TableDef). ArePlaces (kinds_of u) i.columns) same (places o.1.of i.columns o.1.columns) in
      ap (sorted_by (by_columns t.primary))
      (ap (λ (x : Option Object). object_rows db x interval) there ∙ (ap (λ (x : Option Object). index_rows db i x interval) its_table ∙ ap (λ k. rows_between (index_key t i) interval (rows_of rows k)) number_is))
      ∙ sorted_between (kinds_of t) i.columns t.primary columns primary_in (rows_of rows n) fit (rises_by (kinds_of t) t.primary primary_in (rows_of rows n) fit rise) interval
    where
      places : (u : TableDef) (ps : List ℕ) → AreColumns u ps → ArePlaces (kinds_of u) ps
      places u ps h = subst (λ k. AllByRecursion (λ p. p < k) ps) (sym (length-map u.columns (λ column. column.kind))) (recursion_from_All (λ p. p < length u.columns) ps h)

-- ---- a view of two tables

module _ (objects : Schema) (v : ViewTree) (second : Second) (is_second : v.second ≡ Some second) (j : IsJoin objects v second) where
  abbrev key_at : Row → List ℕ
  key_at r = joined_key objects v second is_second j r

  abbrev place_at : Row → Place
  place_at r = joined_place objects v second is_second j r

  module _ (rows : Rows) (c : RowChange) (right : IsRight objects rows c) where
    abbrev after : Rows
    after = rows_after c rows

    abbrev reading : Want → List Row
    reading w = read (database objects rows) w.index w.interval

    told : get rows c.key ≡ c.before
    told = sym right.told

    new_is : get after c.key ≡ c.after
    new_is = get-write_same place_cmp_total place_cmp-IsAntisymmetric rows c.key c.after

    -- ---- a change of neither table

    pub owed_neither : c.key.0 ≢ v.first → c.key.0 ≢ second.table → owed_to objects rows c v ≡ []
    owed_neither f s = owed_elsewhere objects rows c v (others_stay objects v second is_second j c rows s) told f

    -- ---- a change of the first table

    module _ (f : c.key.0 ≡ v.first) where
      apart_second : c.key.0 ≢ second.table
      apart_second e = j.differ (sym e ∙ f)

      looks : look_ups objects c v ≡ flat_map (look_up_second objects second) (option_to_list c.before ++ option_to_list c.after)
      looks =
          ap (λ (o : Option Second). elim o as (λ (o : Option Second). List Want) [ None ↦ [] | Some s ↦ cond (c.key.0 == v.first) (flat_map (look_up_second objects s) (option_to_list c.before ++ option_to_list c.after)) (cond (c.key.0 == s.table) (look_up_first objects s c.key.1) []) ]) is_second
          ∙ ap (λ b. cond b (flat_map (look_up_second objects second) (option_to_list c.before ++ option_to_list c.after)) (cond (c.key.0 == second.table) (look_up_first objects second c.key.1) [])) (eq-eqb c.key.0 v.first f)

      one_look : (r : Row) → flat_map reading (look_up_second objects second r) ≡ option_to_list (get rows (place_at r))
      one_look r =
          ap (λ (o : Option Object). flat_map reading (elim o as (λ (o : Option Object). List Want) [ Some (table t) ↦ record { index = second.table; interval = point (key_bytes (key_kinds t) (items_at r second.joined)); mode = Share } ∷ [] | _ ↦ [] ])) j.other_is
          ∙ (append-nil (read (database objects rows) second.table (point (key_at r)))
          ∙ read_point objects rows right.sound second.table j.other j.other_is (key_at r))

      looked : (rs : List Row) → flat_map reading (flat_map (look_up_second objects second) rs) ≡ flat_map (λ r. option_to_list (get rows (place_at r))) rs
      looked [] = refl
      looked (r ∷ rs) =
          flat_map-append reading (look_up_second objects second r) (flat_map (look_up_second objects second) rs)
          ∙ λ i. one_look r i ++ looked rs i

      abbrev pub found_rows : List Row
      found_rows = flat_map (λ r. option_to_list (get rows (place_at r))) (option_to_list c.before ++ option_to_list c.after)

      pub looked_is : looked_up objects rows c v ≡ found_rows
      looked_is = ap (flat_map reading) looks ∙ looked (option_to_list c.before ++ option_to_list c.after)

      pub stand : (rs : List Row) → AllByRecursion (λ s. (q : Place) × (get rows q ≡ Some s) × (q.0 ≡ second.table)) (flat_map (λ r. option_to_list (get rows (place_at r))) rs)
      stand [] = tt
      stand (r ∷ rs) = go (get rows (place_at r)) refl (stand rs)
        where
          go : (o : Option Row) → get rows (place_at r) ≡ o → AllByRecursion (λ s. (q : Place) × (get rows q ≡ Some s) × (q.0 ≡ second.table)) (flat_map (λ r. option_to_list (get rows (place_at r))) rs)
              → AllByRecursion (λ s. (q : Place) × (get rows q ≡ Some s) × (q.0 ≡ second.table)) (option_to_list o ++ flat_map (λ r. option_to_list (get rows (place_at r))) rs)
          go None e h = h
          go (Some s) e h = ((place_at r, e, refl), h)

      has : (rs : List Row) (r : Row) (s : Row) → Contains rs r → get rows (place_at r) ≡ Some s → Contains (flat_map (λ r. option_to_list (get rows (place_at r))) rs) s
      has [] r s k e = absurd (omega (arith, k.1))
      has (x ∷ rs) r s (zero, lt, is) e =
          subst (λ (o : Option Row). Contains (option_to_list o ++ flat_map (λ r. option_to_list (get rows (place_at r))) rs) s) (sym (ap (λ y. get rows (place_at y)) is ∙ e))
          (contains_here s (flat_map (λ r. option_to_list (get rows (place_at r))) rs))
      has (x ∷ rs) r s (suc k, lt, is) e =
          Contains-append_right (option_to_list (get rows (place_at x))) (flat_map (λ r. option_to_list (get rows (place_at r))) rs) s (has rs r s (k, omega (arith, lt), is) e)

      one_row : (o : Option Row) (joined : List Row) → found_rows ≡ joined → ((r : Row) → o ≡ Some r → Contains (option_to_list c.before ++ option_to_list c.after) r) → contributions objects v rows o ≡ of_first objects v o joined
      one_row None joined e h = refl
      one_row (Some r) joined e h =
          contributed_second objects v second is_second j rows right.sound r
          ∙ (sym (first_is objects v second is_second j r rows right.sound found_rows (stand (option_to_list c.before ++ option_to_list c.after))
          (λ s g. has (option_to_list c.before ++ option_to_list c.after) r s (h r refl) g))
          ∙ (ap (first_contributed objects v r) e ∙ sym (append-nil (first_contributed objects v r joined))))

      in_option : (o : Option Row) (r : Row) → o ≡ Some r → Contains (option_to_list o) r
      in_option o r e = subst (λ (x : Option Row). Contains (option_to_list x) r) (sym e) (contains_here r [])

      pub owed_first : (joined : List Row) → looked_up objects rows c v ≡ joined → owed_to objects rows c v ≡ exchanged (of_first objects v c.before joined) (of_first objects v c.after joined)
      owed_first joined e =
          let found_is : found_rows ≡ joined = sym looked_is ∙ e in
          owed_here objects rows c v (others_stay objects v second is_second j c rows apart_second) told f
          ∙ λ i. exchanged
          (one_row c.before joined found_is (λ r k. Contains-append_left (option_to_list c.before) (option_to_list c.after) r (in_option c.before r k)) i)
          (one_row c.after joined found_is (λ r k. Contains-append_right (option_to_list c.before) (option_to_list c.after) r (in_option c.after r k)) i)

    -- ---- a change of the second table

    module _ (s : c.key.0 ≡ second.table) where
      apart_first : c.key.0 ≢ v.first
      apart_first e = j.differ (sym s ∙ e)

      looks_back : look_ups objects c v ≡ look_up_first objects second c.key.1
      looks_back =
          ap (λ (o : Option Second). elim o as (λ (o : Option Second). List Want) [ None ↦ [] | Some x ↦ cond (c.key.0 == v.first) (flat_map (look_up_second objects x) (option_to_list c.before ++ option_to_list c.after)) (cond (c.key.0 == x.table) (look_up_first objects x c.key.1) []) ]) is_second
          ∙ (ap (λ b. cond b (flat_map (look_up_second objects second) (option_to_list c.before ++ option_to_list c.after)) (cond (c.key.0 == second.table) (look_up_first objects second c.key.1) [])) (ne_eqb c.key.0 v.first apart_first)
          ∙ ap (λ b. cond b (look_up_first objects second c.key.1) []) (eq-eqb c.key.0 second.table s))

      -- what is owed for a row of the first table
      abbrev for_row : Row → List GroupDelta
      for_row = owed_for objects v c.before c.after

      -- one that does not join the key is owed nothing
      none_for : (r : Row) → c.key ≢ place_at r → for_row r ≡ []
      none_for r other =
          let old : with_second objects v r c.before ≡ [] = ap (with_second objects v r) right.told ∙ none_elsewhere objects v second is_second j rows right.sound r c.key s other in
          let new : with_second objects v r c.after ≡ [] = ap (with_second objects v r) (sym new_is) ∙ none_elsewhere objects v second is_second j after right.after r c.key s other in
          exchanged_none (with_second objects v r c.before) (with_second objects v r c.after) (old ∙ sym new)

      row_owed : (k : Place) (r : Row) → get rows k ≡ Some r → k.0 ≡ v.first → exchanged (contributions objects v rows (get rows k)) (contributions objects v after (get after k)) ≡ for_row r
      row_owed k r e g =
          let other : k ≢ c.key = λ i. apart_first (sym (ap (λ (p : Place). p.0) i) ∙ g) in
          let before : contributions objects v rows (get rows k) ≡ with_second objects v r (get rows (place_at r)) = ap (contributions objects v rows) e ∙ contributed_second objects v second is_second j rows right.sound r in
          let later : contributions objects v after (get after k) ≡ with_second objects v r (get after (place_at r)) =
          ap (contributions objects v after) (get-write_other place_cmp_total place_cmp-IsAntisymmetric rows c.key c.after k other ∙ e) ∙ contributed_second objects v second is_second j after right.after r in
          (λ i. exchanged (before i) (later i))
          ∙ by_key place_cmp_total place_cmp-IsAntisymmetric c.key (place_at r)
          (λ same. λ i. exchanged (with_second objects v r ((ap (get rows) (sym same) ∙ told) i)) (with_second objects v r ((ap (get after) (sym same) ∙ new_is) i)))
          (λ apart. exchanged_none (with_second objects v r (get rows (place_at r))) (with_second objects v r (get after (place_at r)))
          (ap (with_second objects v r) (sym (get-write_other place_cmp_total place_cmp-IsAntisymmetric rows c.key c.after (place_at r) (λ i. apart (sym i))))) ∙ sym (none_for r apart))

      by_entries : (es : List (Place × Row)) → AllByRecursion (λ (e : Place × Row). e.0.0 ≡ v.first → exchanged (contributions objects v rows (get rows e.0)) (contributions objects v after (get after e.0)) ≡ for_row e.1) es
          → flat_map (λ k. exchanged (contributions objects v rows (get rows k)) (contributions objects v after (get after k))) (map (λ (e : Place × Row). e.0) (rows_where (λ k r. k.0 == v.first) es))
          ≡ flat_map for_row (map (λ (e : Place × Row). e.1) (rows_where (λ k r. k.0 == v.first) es))
      by_entries [] h = refl
      by_entries (e ∷ es) h =
          let rest = by_entries es h.1 in
          elim (e.0.0 == v.first) as (λ b. (e.0.0 == v.first) ≡ b
          → flat_map (λ k. exchanged (contributions objects v rows (get rows k)) (contributions objects v after (get after k))) (map (λ (e : Place × Row). e.0) (cond b (e ∷ rows_where (λ k r. k.0 == v.first) es) (rows_where (λ k r. k.0 == v.first) es)))
          ≡ flat_map for_row (map (λ (e : Place × Row). e.1) (cond b (e ∷ rows_where (λ k r. k.0 == v.first) es) (rows_where (λ k r. k.0 == v.first) es)))) [
            | true ↦ λ t. λ i. h.0 (eqb-true e.0.0 v.first t) i ++ rest i
            | false ↦ λ t. rest
          ] refl

      around_same : (o : Option Row) → rows_where (λ place row. place.0 == v.first) (entries (elim o as (λ (o : Option Row). Rows) [ None ↦ rows | Some row ↦ rows_after c rows ])) ≡ rows_where (λ place row. place.0 == v.first) (entries rows)
      around_same None = refl
      around_same (Some row) =
          rows_where-write place_cmp_total place_cmp-IsAntisymmetric (λ place r. place.0 == v.first) rows c.key c.after (off c.after ∙ sym (off (get rows c.key)))
        where
          off : (o : Option Row) → passing (λ (r : Row). c.key.0 == v.first) o ≡ None
          off None = refl
          off (Some r) = ap (λ b. cond b (Some r) None) (ne_eqb c.key.0 v.first apart_first)

      -- row by row of the first table
      owed_rows : owed_to objects rows c v ≡ flat_map for_row (rows_of rows v.first)
      owed_rows =
          ap (λ (es : List (Place × Row)). flat_map (λ k. exchanged (contributions objects v rows (get rows k)) (contributions objects v after (get after k))) (map (λ (e : Place × Row). e.0) es)) (around_same c.after)
          ∙ by_entries (entries rows) (all_entries (λ (e : Place × Row). e.0.0 ≡ v.first → exchanged (contributions objects v rows (get rows e.0)) (contributions objects v after (get after e.0)) ≡ for_row e.1) rows (λ k r e g. row_owed k r e g))

      -- those that are left out are owed nothing
      left_out : (test : Row → Bool) (rs : List Row) → AllByRecursion (λ r. place_at r ≡ c.key → test r ≡ true) rs → flat_map for_row (filter test rs) ≡ flat_map for_row rs
      left_out test [] h = refl
      left_out test (r ∷ rs) h =
          let rest = left_out test rs h.1 in
          elim (test r) as (λ b. test r ≡ b → flat_map for_row (cond b (r ∷ filter test rs) (filter test rs)) ≡ for_row r ++ flat_map for_row rs) [
            | true ↦ λ t. ap (λ l. for_row r ++ l) rest
            | false ↦ λ t. rest ∙ sym (ap (λ l. l ++ flat_map for_row rs) (none_for r (λ i. true≢false (sym (h.0 (sym i)) ∙ t))))
          ] refl

      abbrev interval : Interval
      interval = prefix_interval c.key.1

      -- a row that joins the key has a key in the index that begins with it
      inside : (more : List ℕ) (key : Row → List ℕ) → ((r : Row) → key r ≡ key_bytes (items_at (kinds_of j.first) (second.joined ++ more)) (items_at r (second.joined ++ more)))
          → (rs : List Row) → AllByRecursion (FitAll (kinds_of j.first)) rs → AllByRecursion (λ r. place_at r ≡ c.key → lies_in (key r) interval ≡ true) rs
      inside more key is [] h = tt
      inside more key is (r ∷ rs) h = (
        λ e. ap (λ k. lies_in k interval) (is r ∙ begins objects v second is_second j c.key.1 r more h.0 (ap (λ (p : Place). p.1) e))
            ∙ in_prefix c.key.1 (key_bytes (items_at (kinds_of j.first) more) (items_at r more)),
        inside more key is rs h.1,
      )

      first_fit : AllByRecursion (FitAll (kinds_of j.first)) (rows_of rows v.first)
      first_fit = fit objects rows right.sound v.first j.first j.first_is

      first_number : j.first.number ≡ v.first
      first_number = number_is objects rows right.sound v.first j.first j.first_is

      sorted_owed : flat_map for_row (sorted_by (by_columns j.first.primary) (reading (record { index = second.index; interval = interval; mode = Share }))) ≡ flat_map for_row (rows_of rows v.first)
      sorted_owed = elim j.begins [
        | primary more number_at primary_is ↦
            ap (λ n. flat_map for_row (sorted_by (by_columns j.first.primary) (read (database objects rows) n interval))) (number_at ∙ first_number)
            ∙ (ap (flat_map for_row) (sorted_table objects rows right.sound v.first j.first j.first_is interval)
            ∙ left_out (λ r. lies_in (key_of j.first r) interval) (rows_of rows v.first)
            (inside more (key_of j.first) (λ r. ap (λ (l : List ℕ). key_bytes (items_at (kinds_of j.first) l) (items_at r l)) primary_is) (rows_of rows v.first) first_fit))
        | secondary i more index_is table_of columns_are ↦
            ap (flat_map for_row) (sorted_index objects rows right.sound v.first j.first j.first_is second.index i index_is (table_of ∙ first_number) interval)
            ∙ left_out (λ r. lies_in (index_key j.first i r) interval) (rows_of rows v.first)
            (inside (more ++ j.first.primary) (index_key j.first i)
            (λ r. ap (λ (l : List ℕ). key_bytes (items_at (kinds_of j.first) l) (items_at r l)) (ap (λ (l : List ℕ). l ++ j.first.primary) columns_are ∙ append_assoc second.joined more j.first.primary))
            (rows_of rows v.first) first_fit)
      ]

      looked_first : looked_up objects rows c v ≡ reading (record { index = second.index; interval = interval; mode = Share })
      looked_first = ap (flat_map reading) looks_back ∙ append-nil (reading (record { index = second.index; interval = interval; mode = Share }))

      -- the rows that are read fit the first table
      pub first_read : AllByRecursion (FitAll (kinds_of j.first)) (looked_up objects rows c v)
      first_read = subst (AllByRecursion (FitAll (kinds_of j.first))) (sym looked_first)
          (elim j.begins [
            | primary more number_at primary_is ↦
                subst (λ n. AllByRecursion (FitAll (kinds_of j.first)) (read (database objects rows) n interval)) (sym (number_at ∙ first_number))
                (unsorted_each (FitAll (kinds_of j.first)) (by_columns j.first.primary) (read (database objects rows) v.first interval)
                (subst (AllByRecursion (FitAll (kinds_of j.first))) (sym (sorted_table objects rows right.sound v.first j.first j.first_is interval))
                (each_filtered (FitAll (kinds_of j.first)) (λ r. lies_in (key_of j.first r) interval) (rows_of rows v.first) first_fit)))
            | secondary i more index_is table_of columns_are ↦
                unsorted_each (FitAll (kinds_of j.first)) (by_columns j.first.primary) (read (database objects rows) second.index interval)
                (subst (AllByRecursion (FitAll (kinds_of j.first))) (sym (sorted_index objects rows right.sound v.first j.first j.first_is second.index i index_is (table_of ∙ first_number) interval))
                (each_filtered (FitAll (kinds_of j.first)) (λ r. lies_in (index_key j.first i r) interval) (rows_of rows v.first) first_fit))
          ])

      pub owed_second : (joined : List Row) → looked_up objects rows c v ≡ joined → owed_to objects rows c v ≡ flat_map for_row (sorted_by (by_columns (primary_of (numbered objects v.first))) joined)
      owed_second joined e =
          let read_is : reading (record { index = second.index; interval = interval; mode = Share }) ≡ joined = sym looked_first ∙ e in
          owed_rows ∙ (sym sorted_owed
          ∙ (ap (λ rs. flat_map for_row (sorted_by (by_columns j.first.primary) rs)) read_is
          ∙ ap (λ (o : Option Object). flat_map for_row (sorted_by (by_columns (primary_of o)) joined)) (sym j.first_is)))
