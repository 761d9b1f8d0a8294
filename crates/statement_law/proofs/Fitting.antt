-- The steps of INSERT, UPDATE and DELETE fit, and where steps fit what is left is sound.
use Rattle.std.specs.Prelude.{◌≡◌, ◌≢◌, ℕ, not, true, false, cond, List, [], ◌∷◌, map, filter, Option, Some, None}
use Rattle.std.specs.List.{AllByRecursion}
use Rattle.std.specs.Option.{option_to_list}
use mathlib.Core.Path.{refl, sym, ap, subst, ◌∙◌}
use mathlib.Core.Logic.{inl, inr}
use Rattle.std.specs.FinMap.{get, entries, from_entries, put, entries-insert}
use Rattle.std.specs.FinMap.Entries.{by_order}
use Rattle.std.specs.Cmp.{tied_itself}
use Rattle.std.specs.Ordering.{eq_by_cmp, is_gt, is_eq}
use Rattle.std.specs.declared.cmp.Ordering.TheVariants.{Less, Equal, Greater}
use Rattle.iv_types.specs.declared.value.Interval.{Interval}
use Rattle.iv_types.specs.declared.catalog.TableDef.{TableDef}
use Rattle.iv_types.specs.declared.statement.Mode.TheVariants.{Serial}
use Rattle.iv_types.specs.declared.lock.LockMode.TheVariants.{Exclusive}
use Rattle.iv_types.specs.declared.lock.Want.{Want}
use Rattle.iv_types.specs.Encoding.{kinds_of, FitAll, row_cmp, lies_in}
use Rattle.iv_types.specs.Intervals.{point}
use Rattle.iv_types.specs.Syntax.{Tree}
use Rattle.iv_types.proofs.Orders.{row_cmp_total}
use Rattle.table_laws.specs.Kept.{redo}
use Rattle.iv_meaning.specs.Schema.{Schema, Object, table, numbered, items_at}
use Rattle.iv_meaning.specs.Database.{Row, Database, rows_of, key_of}
use Rattle.iv_meaning.specs.Grouping.{all_of}
use Rattle.iv_meaning.specs.Values.{is_true}
use Rattle.iv_meaning.specs.Query.{conjunction, put_by, sorted_by}
use Rattle.iv_meaning.specs.View.{read, rows_between, index_key, index_rows, object_rows}
use Rattle.iv_meaning.specs.Statement.{BoundSet, update, delete, Kept, keep_all, Accepted, row_after, pairs, is_changed}
use Rattle.iv_meaning.specs.Plan.{Part, KeyIndex, read_by, part_for, kinds_for, interval_of}
use Rattle.iv_meaning.specs.Reading.{Source, source_of, by_columns, in_key_order}
use Rattle.query_laws.proofs.Each.{each_append, each_filtered, each_map, each_to}
use Rattle.query_laws.proofs.Rising.{key_cmp, key_total, entries_empty}
use Rattle.query_laws.proofs.TableRows.{row_there}
use Rattle.query_laws.proofs.WholeViews.{all_of_cons, chosen_is}
use Rattle.txn_machine.specs.Deltas.{RowChange}
use Rattle.txn_machine.specs.Entries.{entry_key}
use Rattle.txn_machine.specs.Ghosts.{Holds}
use Rattle.txn_machine.specs.May.{MayLock, FitsUnder}
use Rattle.txn_machine.specs.ViewLaws.{AreSound}
use Rattle.txn_machine.specs.Alone.{with_changes}
use Rattle.txn_machine.proofs.Holding.{contains_here, in_point}
use Rattle.txn_machine.proofs.Reading.{between_rows, table_entry, index_entry}
use Rattle.script_law.specs.Seen.{in_order}
use Rattle.script_law.specs.Works.{Work, done, refuses, fetches, puts, alone_on}
use Rattle.script_law.proofs.Changing.{kept_makes}
use Rattle.statement_law.specs.Inserting.{unless_there, inserts, insert_work}
use Rattle.statement_law.specs.Changing.{on_interval, by_plan, chosen_by, puts_all, set_to, taken_out, updates, update_rows, delete_rows}
use Rattle.statement_law.specs.Fitting.{IsLocked, EachFits}
use Rattle.statement_law.proofs.Each.{paired, each_passes}
use Rattle.statement_law.proofs.Rows.{is_sound, Apart, apart_filter, of_listed, point_none, point_some, put_sound}
use Rattle.statement_law.proofs.Plans.{the_part, one_part, passes_listed}
use Rattle.statement_law.proofs.Binding.{SetsNot, row_after_fits}
use Rattle.statement_law.proofs.Changing.{IsThere, row_key, still_there, apart_set, apart_pairs, apart_out, each_set, each_pair, each_out, matching_there}
use Rattle.statement_law.proofs.Asking.{IsOf, read_by_own, part_has, part_kept}

-- ---- what steps that fit leave

pub sound_left : (db : Database) → (w : Work) (locks : List Want) (cs : List RowChange) → EachFits Serial db w locks cs → AreSound db.schema (redo cs db.rows)
    → (listed : List Row) (count : ℕ) (kept : List Kept) → alone_on w db cs ≡ Accepted listed count kept → AreSound (keep_all kept db).schema (keep_all kept db).rows
sound_left db (done rows n) locks cs fits sound listed count kept e =
    let same : kept ≡ in_order cs = cc in
    subst (λ (d : Database). AreSound d.schema d.rows) (sym (ap (λ ks. keep_all ks db) same ∙ kept_makes cs db)) sound
sound_left db (refuses why) locks cs fits sound listed count kept e = absurd (cc)
sound_left db (fetches i interval lock f) locks cs fits sound listed count kept e = sound_left db (f _) _ cs fits.1 sound listed count kept e
sound_left db (puts number key new f) locks cs fits sound listed count kept e =
    let p = fits.1 in
    sound_left db (f _) locks (_ ∷ cs) fits.2 (put_sound db.schema (redo cs db.rows) sound number p.of p.table_is key new p.fits) listed count kept e

-- ---- INSERT

exclusive_table : (o : Option Object) (t : TableDef) → o ≡ Some (table t) → MayLock Exclusive o
exclusive_table o t e = subst (MayLock Exclusive) (sym e) tt

none_locked : (objects : Schema) (locks : List Want) (n : ℕ) (key : List ℕ) (o : Option Row) → o ≡ None → Holds locks Exclusive n key → IsLocked objects locks (n, key) o
none_locked objects locks n key o e h = subst (IsLocked objects locks (n, key)) (sym e) h

module _ (db : Database) (t : TableDef) (is : numbered db.schema t.number ≡ Some (table t)) where
  inserts_fit : (rows : List Row) (count : ℕ) (locks : List Want) (cs : List RowChange) → AreSound db.schema (redo cs db.rows) → AllByRecursion (FitAll (kinds_of t)) rows → EachFits Serial db (inserts t rows count) locks cs
  inserts_fit [] count locks cs sound f = tt
  inserts_fit (row ∷ rows) count locks cs sound f =
      let c : RowChange = record { key = (t.number, key_of t row); before = get (redo cs db.rows) (t.number, key_of t row); after = Some row } in
      let want : Want = record { index = t.number; interval = point (key_of t row); mode = Exclusive } in (
        exclusive_table (numbered db.schema t.number) t is,
        by (inserts_fit rows count (want ∷ locks) (c ∷ cs) (put_sound db.schema (redo cs db.rows) sound t.number t is (key_of t row) (Some row) (refl, f.0)) f.1) (get (redo cs db.rows) (t.number, key_of t row)) refl,
      )
    where
      by : EachFits Serial db (inserts t rows count) (record { index = t.number; interval = point (key_of t row); mode = Exclusive } ∷ locks)
          (record { key = (t.number, key_of t row); before = get (redo cs db.rows) (t.number, key_of t row); after = Some row } ∷ cs)
          → (o : Option Row) → get (redo cs db.rows) (t.number, key_of t row) ≡ o
          → EachFits Serial db (unless_there (read (with_changes cs db) t.number (point (key_of t row))) (puts t.number (key_of t row) (Some row) (λ before. inserts t rows count)))
          (record { index = t.number; interval = point (key_of t row); mode = Exclusive } ∷ locks) cs
      by rest None e =
          let want : Want = record { index = t.number; interval = point (key_of t row); mode = Exclusive } in
          subst (λ l. EachFits Serial db (unless_there l (puts t.number (key_of t row) (Some row) (λ before. inserts t rows count))) (want ∷ locks) cs)
          (sym (point_none (with_changes cs db) (is_sound (with_changes cs db) sound) t is (key_of t row) e)) (
            refl,
            record {
              of = t;
              table_is = is;
              fits = (refl, f.0);
              changes = λ x. let y = sym e ∙ x in cc;
              locked = none_locked db.schema (want ∷ locks) t.number (key_of t row) (get (redo cs db.rows) (t.number, key_of t row)) e
                  (record { lock = want; held = contains_here want locks; mode_is = refl; index_is = refl; covers = in_point (key_of t row) });
            },
            rest,
          )
      by rest (Some r) e = refused (read (with_changes cs db) t.number (point (key_of t row))) (point_some (with_changes cs db) (is_sound (with_changes cs db) sound) t is (key_of t row) r e)
        where
          refused : (l : List Row) → (l ≡ [] → ⊥)
              → EachFits Serial db (unless_there l (puts t.number (key_of t row) (Some row) (λ before. inserts t rows count))) (record { index = t.number; interval = point (key_of t row); mode = Exclusive } ∷ locks) cs
          refused [] h = absurd (h refl)
          refused (x ∷ l) h = tt

  pub insert_fits : AreSound db.schema db.rows → (o : Option (List Row)) → ((rows : List Row) → o ≡ Some rows → AllByRecursion (FitAll (kinds_of t)) rows) → (locks : List Want) → EachFits Serial db (insert_work t o) locks []
  insert_fits sound None f locks = tt
  insert_fits sound (Some rows) f locks = inserts_fit rows _ locks [] sound (f rows refl)

-- ---- rows of an interval

each_put : (Q : Row → Type 0) (k : List ℕ) (v : Row) (es : List (List ℕ × Row)) → Q v → AllByRecursion (λ (e : List ℕ × Row). Q e.1) es → AllByRecursion (λ (e : List ℕ × Row). Q e.1) (put key_cmp k v es)
each_put Q k v [] q h = (q, tt)
each_put Q k v (e ∷ es) q h =
    let rest = each_put Q k v es q h.1 in
    elim (key_cmp k e.0) as (λ o. AllByRecursion (λ (e : List ℕ × Row). Q e.1) (by_order o ((k, v) ∷ e ∷ es) ((e.0, v) ∷ es) (e ∷ put key_cmp k v es))) [
      | Less ↦ (q, h)
      | Equal ↦ (q, h.1)
      | Greater ↦ (h.0, rest)
    ]

each_entry : (Q : Row → Type 0) (key : Row → List ℕ) (rows : List Row) → AllByRecursion Q rows → AllByRecursion (λ (e : List ℕ × Row). Q e.1) (entries (from_entries {R = key_cmp} (map (λ row. (key row, row)) rows)))
each_entry Q key [] h = subst (AllByRecursion (λ (e : List ℕ × Row). Q e.1)) (sym entries_empty) tt
each_entry Q key (row ∷ rows) h =
    subst (AllByRecursion (λ (e : List ℕ × Row). Q e.1)) (sym (entries-insert key_total (from_entries (map (λ row. (key row, row)) rows)) (key row) row))
    (each_put Q (key row) row (entries (from_entries (map (λ row. (key row, row)) rows))) h.0 (each_entry Q key rows h.1))

each_between : (P : Row → Type 0) (key : Row → List ℕ) (interval : Interval) (rows : List Row) → AllByRecursion P rows → AllByRecursion (λ row. (lies_in (key row) interval ≡ true) × P row) (rows_between key interval rows)
each_between P key interval rows h =
    subst (AllByRecursion (λ row. (lies_in (key row) interval ≡ true) × P row)) (sym (between_rows key interval rows))
    (each_map (λ (e : List ℕ × Row). (lies_in (key e.1) interval ≡ true) × P e.1) (λ row. (lies_in (key row) interval ≡ true) × P row) (λ e. e.1) (λ e h. h) (entries (from_entries {R = key_cmp} (map (λ row. (key row, row)) (filter (λ row. lies_in (key row) interval) rows))))
    (each_entry (λ row. (lies_in (key row) interval ≡ true) × P row) key (filter (λ row. lies_in (key row) interval) rows) (each_passes P (λ row. lies_in (key row) interval) rows h)))

each_sorted_put : (P : Row → Type 0) (key : List ℕ) (row : Row) (rows : List Row) → P row → AllByRecursion P rows → AllByRecursion P (put_by (by_columns key) row rows)
each_sorted_put P key row [] p h = (p, tt)
each_sorted_put P key row (r ∷ rows) p h =
    let rest = each_sorted_put P key row rows p h.1 in
    elim (is_gt (row_cmp (items_at row key) (items_at r key))) as (λ b. AllByRecursion P (cond b (r ∷ put_by (by_columns key) row rows) (row ∷ r ∷ rows))) [ true ↦ (h.0, rest) | false ↦ (p, h) ]

each_sorted : (P : Row → Type 0) (key : List ℕ) (rows : List Row) → AllByRecursion P rows → AllByRecursion P (sorted_by (by_columns key) rows)
each_sorted P key [] h = tt
each_sorted P key (row ∷ rows) h = each_sorted_put P key row (sorted_by (by_columns key) rows) h.0 (each_sorted P key rows h.1)

each_in_order : (P : Row → Type 0) (key : Option (List ℕ)) (rows : List Row) → AllByRecursion P rows → AllByRecursion P (in_key_order key rows)
each_in_order P None rows h = h
each_in_order P (Some key) rows h = each_sorted P key rows h

-- ---- rows that are locked

-- an entry of the row is locked
abbrev IsHeld : Schema → TableDef → List Want → Row → Type 0
IsHeld objects t locks row = (index : ℕ) × (key : List ℕ) × (entry_key objects index (t.number, key_of t row) row ≡ Some key) × Holds locks Exclusive index key

module _ (db : Database) (sound : AreSound db.schema db.rows) (t : TableDef) (is : numbered db.schema t.number ≡ Some (table t)) where
  covered : (number : ℕ) (interval : Interval) (locks : List Want) (key : List ℕ) → lies_in key interval ≡ true → Holds (record { index = number; interval = interval; mode = Exclusive } ∷ locks) Exclusive number key
  covered number interval locks key e = record {
    lock = record { index = number; interval = interval; mode = Exclusive };
    held = contains_here (record { index = number; interval = interval; mode = Exclusive }) locks;
    mode_is = refl;
    index_is = refl;
    covers = e;
  }

  -- what is read of an interval that is locked is locked
  read_held : (number : ℕ) (interval : Interval) (locks : List Want) → IsOf db.schema t number
      → AllByRecursion (IsHeld db.schema t (record { index = number; interval = interval; mode = Exclusive } ∷ locks)) (read db number interval)
  read_held number interval locks (inl of) =
      let own : t.number ≡ number = (sound.objects number (table t) of).0 in
      subst (AllByRecursion (IsHeld db.schema t (record { index = number; interval = interval; mode = Exclusive } ∷ locks))) (sym (ap (λ o. object_rows db o interval) of))
      (each_to (λ row. (lies_in (key_of t row) interval ≡ true) × IsThere db t [] row) (IsHeld db.schema t (record { index = number; interval = interval; mode = Exclusive } ∷ locks))
      (λ row h. (number, key_of t row, table_entry db.schema db.rows sound number t of (t.number, key_of t row) row own h.1, covered number interval locks (key_of t row) h.0))
      (rows_between (key_of t) interval (rows_of db.rows t.number))
      (each_between (IsThere db t []) (key_of t) interval (rows_of db.rows t.number) (of_listed db (is_sound db sound) t is (IsThere db t []) (λ row there. there))))
  read_held number interval locks (inr (i, of, same)) =
      let its_table : numbered db.schema i.table ≡ Some (table t) = ap (numbered db.schema) same ∙ is in
      subst (AllByRecursion (IsHeld db.schema t (record { index = number; interval = interval; mode = Exclusive } ∷ locks)))
      (sym (ap (λ o. object_rows db o interval) of ∙ ap (λ o. index_rows db i o interval) its_table))
      (each_to (λ row. (lies_in (index_key t i row) interval ≡ true) × IsThere db t [] row) (IsHeld db.schema t (record { index = number; interval = interval; mode = Exclusive } ∷ locks))
      (λ row h. (number, index_key t i row, index_entry db.schema db.rows sound number i t of its_table (t.number, key_of t row) row (sym same) h.1, covered number interval locks (index_key t i row) h.0))
      (rows_between (index_key t i) interval (rows_of db.rows t.number))
      (each_between (IsThere db t []) (index_key t i) interval (rows_of db.rows t.number) (of_listed db (is_sound db sound) t is (IsThere db t []) (λ row there. there))))

  -- ---- rows that are changed

  -- it may be changed so
  abbrev IsChange : List Want → Row × Option Row → Type 0
  IsChange locks p = FitsUnder t (key_of t p.0) p.1 × (Some p.0 ≢ p.1) × IsHeld db.schema t locks p.0

  puts_fit : (ps : List (Row × Option Row)) (count : ℕ) (locks : List Want) (cs : List RowChange) → Apart (row_key t) ps → AllByRecursion (λ p. IsThere db t cs p.0) ps → AllByRecursion (IsChange locks) ps
      → EachFits Serial db (puts_all t ps count) locks cs
  puts_fit [] count locks cs a h f = tt
  puts_fit (p ∷ ps) count locks cs a h f = (
    refl,
    record {
      of = t;
      table_is = is;
      fits = f.0.0;
      changes = λ e. f.0.1 (sym h.0 ∙ e);
      locked = subst (IsLocked db.schema locks (t.number, key_of t p.0)) (sym h.0) f.0.2;
    },
    puts_fit ps count locks (record { key = (t.number, key_of t p.0); before = get (redo cs db.rows) (t.number, key_of t p.0); after = p.1 } ∷ cs) a.1 (still_there db t cs p.0 (get (redo cs db.rows) (t.number, key_of t p.0)) p.1 ps a.0 h.1) f.1,
  )

  -- a row that fits its table
  there_fits : (row : Row) → IsThere db t [] row → FitAll (kinds_of t) row
  there_fits row there = (row_there db (is_sound db sound) t.number t is (t.number, key_of t row) row there refl).1

  abbrev AreGiven : List Want → List Row → Type 0
  AreGiven locks rows = Apart (key_of t) rows × AllByRecursion (IsThere db t []) rows × AllByRecursion (IsHeld db.schema t locks) rows

  delete_fits_of : (o : Option (List Row)) (locks : List Want) → ((rows : List Row) → o ≡ Some rows → AreGiven locks rows) → EachFits Serial db (delete_rows t o) locks []
  delete_fits_of None locks h = tt
  delete_fits_of (Some rows) locks h =
      let g = h rows refl in
      puts_fit (map taken_out rows) _ locks [] (apart_out t rows g.0) (each_out (IsThere db t []) rows g.1)
      (each_map (IsHeld db.schema t locks) (IsChange locks) taken_out (λ row k. (tt, (λ e. cc), k)) rows g.2)

  -- the pairs of rows and what becomes of them
  abbrev BecomesSo : List BoundSet → Row × Row → Type 0
  BecomesSo ss p = row_after t ss p.0 ≡ Some p.1

  become : (ss : List BoundSet) (rows others : List Row) → all_of (map (row_after t ss) rows) ≡ Some others → AllByRecursion (BecomesSo ss) (pairs rows others)
  become ss [] others e = tt
  become ss (row ∷ rows) others e =
      let parts = all_of_cons (row_after t ss row) (map (row_after t ss) rows) others e in
      subst (λ l. AllByRecursion (BecomesSo ss) (pairs (row ∷ rows) l)) (sym parts.4) (parts.2, become ss rows parts.1 parts.3)

  changed_differs : (p : Row × Row) → is_changed p ≡ true → Some p.0 ≢ Some p.1
  changed_differs p h e =
      let same : p.0 ≡ p.1 = cc in
      let tied : eq_by_cmp row_cmp p.0 p.1 ≡ true = ap (eq_by_cmp row_cmp p.0) (sym same) ∙ ap is_eq (tied_itself row_cmp_total p.0) in
      cc (sym h ∙ ap not tied)

  update_fits_of : (ss : List BoundSet) → AllByRecursion (SetsNot ss) t.primary → (o : Option (List Row)) (locks : List Want) → ((rows : List Row) → o ≡ Some rows → AreGiven locks rows) → EachFits Serial db (update_rows t ss o) locks []
  update_fits_of ss none None locks h = tt
  update_fits_of ss none (Some rows) locks h = by (all_of (map (row_after t ss) rows)) refl (h rows refl)
    where
      by : (o : Option (List Row)) → all_of (map (row_after t ss) rows) ≡ o → AreGiven locks rows → EachFits Serial db (updates t rows o) locks []
      by None e g = tt
      by (Some others) e g =
          let ps : List (Row × Row) = pairs rows others in
          let all = paired (λ (p : Row × Row). IsThere db t [] p.0) (λ (p : Row × Row). IsHeld db.schema t locks p.0 × BecomesSo ss p) ps (each_pair (IsThere db t []) rows others g.1)
          (paired (λ (p : Row × Row). IsHeld db.schema t locks p.0) (BecomesSo ss) ps (each_pair (IsHeld db.schema t locks) rows others g.2) (become ss rows others e)) in
          puts_fit (map set_to (filter is_changed ps)) _ locks []
          (apart_set t (filter is_changed ps) (apart_filter (λ (p : Row × Row). key_of t p.0) is_changed ps (apart_pairs (key_of t) rows others g.0)))
          (each_set (IsThere db t []) (filter is_changed ps) (each_filtered (λ (p : Row × Row). IsThere db t [] p.0) is_changed ps (each_pair (IsThere db t []) rows others g.1)))
          (each_map (λ (p : Row × Row). (is_changed p ≡ true) × (IsThere db t [] p.0 × (IsHeld db.schema t locks p.0 × BecomesSo ss p))) (IsChange locks) set_to
          (λ p k. (row_after_fits t ss none p.0 p.1 (there_fits p.0 k.1.0) k.1.1.1, changed_differs p k.0, k.1.1.0)) (filter is_changed ps)
          (each_passes (λ (p : Row × Row). IsThere db t [] p.0 × (IsHeld db.schema t locks p.0 × BecomesSo ss p)) is_changed ps all))

  -- ---- what the plan reads

  module _ (condition : Option Tree) where
    abbrev part : Part
    part = the_part db (is_sound db sound) Serial t.number t is condition

    abbrev source : Source
    source = source_of db.schema part

    abbrev want : Want
    want = record { index = source.part.index; interval = interval_of source.kinds source.part []; mode = Exclusive }

    abbrev listing : List Row
    listing = in_key_order source.key (read db source.part.index (interval_of source.kinds source.part []))

    part_of_table : IsOf db.schema t source.part.index
    part_of_table =
        let one = subst (AllByRecursion (λ (p : Part). IsOf db.schema t p.index)) (one_part db (is_sound db sound) Serial t.number t is condition)
        (each_append (λ (p : Part). IsOf db.schema t p.index) (part_for db.schema Serial (kinds_for db.schema t.number ∷ []) (option_to_list condition) 0 t.number) []
        (part_has db.schema Serial (IsOf db.schema t) (kinds_for db.schema t.number ∷ []) (option_to_list condition) 0 t.number
        (subst (λ o. AllByRecursion (λ (k : KeyIndex). IsOf db.schema t k.number) (read_by db.schema Serial o)) (sym is) (read_by_own db (is_sound db sound) Serial t.number t is))) tt) in
        subst (λ (p : Part). IsOf db.schema t p.index) (sym (part_kept db.schema part (numbered db.schema part.index))) one.0

    may_lock : MayLock Exclusive (numbered db.schema source.part.index)
    may_lock = by part_of_table
      where
        by : IsOf db.schema t source.part.index → MayLock Exclusive (numbered db.schema source.part.index)
        by (inl e) = exclusive_table (numbered db.schema source.part.index) t e
        by (inr h) = subst (MayLock Exclusive) (sym h.1) tt

    given : (locks : List Want) (rows : List Row) → chosen_by condition listing ≡ Some rows → AreGiven (want ∷ locks) rows
    given locks rows e =
        let there = matching_there db t sound is condition rows (sym (passes_listed db (is_sound db sound) Serial t.number t is condition) ∙ e) in
        let held : AllByRecursion (IsHeld db.schema t (want ∷ locks)) listing =
        each_in_order (IsHeld db.schema t (want ∷ locks)) source.key (read db source.part.index (interval_of source.kinds source.part [])) (read_held source.part.index (interval_of source.kinds source.part []) locks part_of_table) in (
          there.0,
          there.1,
          subst (AllByRecursion (IsHeld db.schema t (want ∷ locks))) (sym (chosen_is (λ (row : Row). conjunction (option_to_list condition) (row ∷ [])) listing rows e))
              (each_filtered (IsHeld db.schema t (want ∷ locks)) (λ (row : Row). is_true (conjunction (option_to_list condition) (row ∷ []))) listing held),
        )

    pub update_fits : (ss : List BoundSet) → AllByRecursion (SetsNot ss) t.primary → (locks : List Want)
        → EachFits Serial db (by_plan Serial db.schema (update t.number ss condition) (λ rows. update_rows t ss (chosen_by condition rows))) locks []
    update_fits ss none locks =
        subst (λ ps. EachFits Serial db (on_interval (map (source_of db.schema) ps) (λ rows. update_rows t ss (chosen_by condition rows))) locks []) (sym (one_part db (is_sound db sound) Serial t.number t is condition))
        (may_lock, update_fits_of ss none (chosen_by condition listing) (want ∷ locks) (λ rows e. given locks rows e))

    pub delete_fits : (locks : List Want) → EachFits Serial db (by_plan Serial db.schema (delete t.number condition) (λ rows. delete_rows t (chosen_by condition rows))) locks []
    delete_fits locks =
        subst (λ ps. EachFits Serial db (on_interval (map (source_of db.schema) ps) (λ rows. delete_rows t (chosen_by condition rows))) locks []) (sym (one_part db (is_sound db sound) Serial t.number t is condition))
        (may_lock, delete_fits_of (chosen_by condition listing) (want ∷ locks) (λ rows e. given locks rows e))
