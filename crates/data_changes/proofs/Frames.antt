-- What a change of one stored view row leaves.
use Rattle.std.specs.Prelude.{◌≡◌, ◌≢◌, ℕ, suc, ℤ, List, length, Option, Some, None, IsSome, IfSome}
use Rattle.std.specs.Option.{option_map}
use Rattle.std.specs.FinMap.{get, empty}
use Rattle.std.specs.List.{AllByRecursion}
use Rattle.std.specs.Cmp.Lexicographic.{nat_list_cmp_total}
use mathlib.Core.Path.{refl, sym, ap, subst, ◌∙◌}
use Rattle.iv_types.specs.Maps.{Map}
use Rattle.iv_types.specs.Definitions.{Definitions, AreNumbered}
use Rattle.iv_types.specs.Definitions as definition
use Rattle.iv_types.specs.declared.catalog.Definition.{Definition}
use Rattle.iv_types.specs.declared.catalog.Definition.TheVariants.{Table, Index, View}
use Rattle.iv_types.specs.declared.catalog.TableDef.{TableDef}
use Rattle.iv_types.specs.declared.catalog.IndexDef.{IndexDef}
use Rattle.iv_types.specs.declared.value.Value.{Value}
use Rattle.table_laws.specs.Place.{Place}
use Rattle.table_laws.specs.Table.{write}
use Rattle.table_laws.proofs.Stored.{by_session}
use Rattle.table_laws.proofs.Place.{place_cmp_total, place_cmp-IsAntisymmetric}
use Rattle.table_laws.proofs.Tables.{get-write_same, get-write_other, get-write_at, same_table}
use Rattle.iv_types.specs.Encoding.{IsHuge}
use Rattle.iv_meaning.specs.Schema as schema
use Rattle.iv_meaning.specs.Schema.{ViewTree}
use Rattle.iv_meaning.specs.Database.{Rows}
use Rattle.iv_meaning.specs.Objects.{object_of, schema_of}
use Rattle.txn_machine.specs.Keeping.{KeptStep}
use Rattle.txn_machine.specs.Locks.{with_one}
use Rattle.txn_machine.proofs.Basics.{one_same, one_other}
use Rattle.table_store.proofs.Maps.{bytes_same}
use Rattle.table_store.proofs.Held.{alike}
use Rattle.table_store.proofs.TableIndexes.{table_number}
use Rattle.table_store.specs.Changes.{Sets}
use Rattle.table_store.specs.Stored.{table_of, index_of, as_table, as_index, HoldsTable, HoldsIndex, HoldsAll, Holds, IsIndexOf}
use Rattle.ghost_rows.specs.Numbers.{numbers_bytes, Fits128}
use Rattle.ghost_rows.specs.Shares.{sum_at}
use Rattle.ghost_rows.specs.Rows.{OpenRow, row_at}
use Rattle.ghost_rows.specs.Kept.{StandsFor}
use Rattle.ghost_rows.specs.State.{State, stored_at, AreKept, HasSeat, OnlyAt, StoresOnlyAt}
use Rattle.ghost_rows.specs.Ghosts.{StayListed, IsGhostRow, IsCandidate}
use Rattle.ghost_rows.proofs.TableLemmas.{by_place}
use Rattle.ghost_rows.proofs.RowLemmas.{huge_fit}
use Rattle.ghost_rows.proofs.NumberSteps.{numbers_same}
use Rattle.data_store.specs.Contents.{Contents, pays_on}
use Rattle.data_store.specs.Held.{IsHeld}
use Rattle.data_store.proofs.Told.{texts_stay}

-- ---- objects by their numbers

no_table : (d : Option Definition) (v : ViewTree) (t : TableDef) → option_map object_of d ≡ Some (schema.view v) → as_table d ≡ Some t → ⊥
no_table None v t e f = absurd (cc)
no_table (Some (Table u)) v t e f = absurd (cc)
no_table (Some (Index i)) v t e f = absurd (cc)
no_table (Some (View w)) v t e f = absurd (cc)

no_index : (d : Option Definition) (v : ViewTree) (i : IndexDef) → option_map object_of d ≡ Some (schema.view v) → as_index d ≡ Some i → ⊥
no_index None v i e f = absurd (cc)
no_index (Some (Table u)) v i e f = absurd (cc)
no_index (Some (Index j)) v i e f = absurd (cc)
no_index (Some (View w)) v i e f = absurd (cc)

-- the number of a view is that of no table and of no index
pub is_no_table : (ds : Definitions) (n : ℕ) (v : ViewTree) (t : TableDef) → schema.numbered (schema_of ds) n ≡ Some (schema.view v) → table_of ds t.number ≡ Some t → t.number ≢ n
is_no_table ds n v t is of same = no_table (definition.numbered ds n) v t (sym (alike ds n) ∙ is) (subst (λ m. table_of ds m ≡ Some t) same of)

pub is_no_index : (ds : Definitions) (n : ℕ) (v : ViewTree) (t : TableDef) (i : IndexDef) → schema.numbered (schema_of ds) n ≡ Some (schema.view v) → IsIndexOf ds t i → i.number ≢ n
is_no_index ds n v t i is of same = no_index (definition.numbered ds n) v i (sym (alike ds n) ∙ is) (subst (λ m. index_of ds m ≡ Some i) same of.is)

-- what is no object is not defined
not_defined : (d : Option Definition) → option_map object_of d ≡ None → IsSome d → ⊥
not_defined None e there = absurd (cc)
not_defined (Some d) e there = absurd (cc)

table_some : (d : Option Definition) (t : TableDef) → as_table d ≡ Some t → IsSome d
table_some None t e = absurd (cc)
table_some (Some d) t e = refl

index_some : (d : Option Definition) (i : IndexDef) → as_index d ≡ Some i → IsSome d
index_some None i e = absurd (cc)
index_some (Some d) i e = refl

-- ---- the rows of tables

table_as : (rows : Rows) (t : TableDef) (m n : Map) → ((key : List ℕ) → get n key ≡ get m key) → HoldsTable rows t m → HoldsTable rows t n
table_as rows t m n same h = record { same = λ key. same key ∙ h.same key; fitting = h.fitting }

index_as : (rows : Rows) (t : TableDef) (i : IndexDef) (m n : Map) → ((key : List ℕ) → get n key ≡ get m key) → HoldsIndex rows t i m → HoldsIndex rows t i n
index_as rows t i m n same h = record {
  each = λ key row there. same _ ∙ h.each key row there;
  only = λ at value there. h.only at value (sym (same at) ∙ there);
}

-- they are held still where one row of a view changed
pub tables_stay : (ds : Definitions) (rows : Rows) (old new : ℕ → Map) (place : Place) (v : ViewTree) → schema.numbered (schema_of ds) place.0 ≡ Some (schema.view v)
    → StoresOnlyAt place old new → Holds ds rows old → Holds ds rows new
tables_stay ds rows old new place v is only holds t of =
    let h : HoldsAll ds rows old t = holds t of in
    record {
      primary = table_as rows t (old t.number) (new t.number) (λ key. only (t.number, key) (λ e. is_no_table ds place.0 v t is of (ap (λ (p : Place). p.0) e))) h.primary;
      others = λ i of_table. index_as rows t i (old i.number) (new i.number) (λ key. only (i.number, key) (λ e. is_no_index ds place.0 v t i is of_table (ap (λ (p : Place). p.0) e))) (h.others i of_table);
    }

-- ---- one view row

-- what is stored of a row: these numbers, or none
pub record StoredAs (maps : ℕ → Map) (place : Place) (found : Option (List ℤ)) : Type 0 where
  pub bytes : stored_at maps place ≡ option_map numbers_bytes found
  pub fit : (numbers : List ℤ) → found ≡ Some numbers → Fits128 numbers

-- A store has its contents with another row at a place of a view, and with other kept steps, where the pays on all other rows stay.
pub row_changed : (ds : Definitions) (maps new : ℕ → Map) (state after : State) (c : Contents) (place : Place) (v : ViewTree) (found : Option (List ℤ)) (kept : ℕ → List KeptStep) → IsHeld ds maps state c
    → schema.numbered c.objects place.0 ≡ Some (schema.view v) → StoresOnlyAt place maps new → OnlyAt place state after → StayListed state maps after new → StoredAs new place found
    → AreKept after new place (suc (length v.sums)) (λ s. pays_on place (kept s)) → ((q : Place) → q ≢ place → (s : ℕ) → pays_on q (kept s) ≡ pays_on q (c.kept s))
    → IsHeld ds new after (record c { view = write c.view place found; kept = kept })
row_changed ds maps new state after c place v found kept h is only rows listed stored keeps others = record {
  objects = h.objects;
  tables = tables_stay ds c.rows maps new place v (subst (λ os. schema.numbered os place.0 ≡ Some (schema.view v)) (sym h.objects) is) only h.tables;
  views = λ n u at group. by_place (n, group) place
      (λ e. subst (λ q. stored_at new q ≡ option_map numbers_bytes (get (write c.view place found) q)) (sym e)
      (stored.bytes ∙ ap (option_map numbers_bytes) (sym (get-write_same place_cmp_total place_cmp-IsAntisymmetric c.view place found))))
      (λ ne. only (n, group) ne ∙ (h.views n u at group ∙ ap (option_map numbers_bytes) (sym (get-write_other place_cmp_total place_cmp-IsAntisymmetric c.view place found (n, group) ne))));
  in_range = λ n u at group numbers there. by_place (n, group) place
      (λ e. huge_here numbers (sym (get-write_at place_cmp_total place_cmp-IsAntisymmetric c.view place found (n, group) e) ∙ there))
      (λ ne. h.in_range n u at group numbers (sym (get-write_other place_cmp_total place_cmp-IsAntisymmetric c.view place found (n, group) ne) ∙ there));
  pays = λ n u at group. by_place (n, group) place
      (λ e.
      let one : n ≡ place.0 = ap (λ (q : Place). q.0) e in
      let views : Some (schema.view v) ≡ Some (schema.view u) = sym is ∙ (ap (schema.numbered c.objects) (sym one) ∙ at) in
      let same : v ≡ u = cc in
      subst (λ (w : ViewTree). AreKept after new (n, group) (suc (length w.sums)) (λ s. pays_on (n, group) (kept s))) same
      (subst (λ q. AreKept after new q (suc (length v.sums)) (λ s. pays_on q (kept s))) (sym e) keeps))
      (λ ne. as_before (n, group) (suc (length u.sums)) ne (h.pays n u at group));
  ghosts = λ n u at group. listed (n, group) (h.ghosts n u at group);
  texts = texts_stay c.texts (maps 0) (new 0) (apart 0 refl) h.texts;
  unused = λ index other past. apart index past ∙ h.unused index other past;
}
  where
    -- what is under a number of no view stays
    apart : (index : ℕ) → schema.numbered c.objects index ≡ None → new index ≡ maps index
    apart index past =
        same_table nat_list_cmp_total bytes_same (new index) (maps index)
        (λ key. only (index, key) (λ e. let bad : None ≡ Some (schema.view v) = sym past ∙ (ap (λ (q : Place). schema.numbered c.objects q.0) e ∙ is) in absurd (cc)))

    huge_here : (numbers : List ℤ) → found ≡ Some numbers → AllByRecursion IsHuge numbers
    huge_here numbers there =
        let bytes : stored_at new place ≡ Some (numbers_bytes numbers) = stored.bytes ∙ ap (option_map numbers_bytes) there in
        let same : keeps.numbers ≡ numbers = numbers_same keeps.numbers numbers (huge_fit keeps.numbers keeps.has.huge) (stored.fit numbers there) (sym (subst (λ o. IfSome o (λ b. b ≡ numbers_bytes keeps.numbers)) bytes keeps.has.bytes)) in
        subst (AllByRecursion IsHuge) same keeps.has.huge

    as_before : (q : Place) (width : ℕ) → q ≢ place → AreKept state maps q width (λ s. pays_on q (c.kept s)) → AreKept after new q width (λ s. pays_on q (kept s))
    as_before q width ne k =
        let pays : (λ s. pays_on q (c.kept s)) ≡ (λ s. pays_on q (kept s)) = λ i. λ s. sym (others q ne s) i in
        subst (λ ps. StandsFor (row_at after.rows q) (stored_at new q) width ps) pays
        (subst (λ o. StandsFor (row_at after.rows q) o width (λ s. pays_on q (c.kept s))) (sym (only q ne))
        (subst (λ r. StandsFor r (stored_at maps q) width (λ s. pays_on q (c.kept s))) (sym (rows q ne)) k))

-- nothing is changed that it speaks of
pub unchanged : (ds : Definitions) (maps new : ℕ → Map) (state after : State) (c : Contents) → ((q : Place) → (row_at after.rows q ≡ row_at state.rows q) × (stored_at new q ≡ stored_at maps q)) → StayListed state maps after new
    → IsHeld ds maps state c → IsHeld ds new after c
unchanged ds maps new state after c same listed h = record {
  objects = h.objects;
  tables = λ t of.
      let held : HoldsAll ds c.rows maps t = h.tables t of in
      record {
        primary = table_as c.rows t (maps t.number) (new t.number) (λ key. (same (t.number, key)).1) held.primary;
        others = λ i of_table. index_as c.rows t i (maps i.number) (new i.number) (λ key. (same (i.number, key)).1) (held.others i of_table);
      };
  views = λ n u at group. (same (n, group)).1 ∙ h.views n u at group;
  in_range = h.in_range;
  pays = λ n u at group.
      subst (λ o. StandsFor (row_at after.rows (n, group)) o (suc (length u.sums)) (λ s. pays_on (n, group) (c.kept s))) (sym (same (n, group)).1)
      (subst (λ r. StandsFor r (stored_at maps (n, group)) (suc (length u.sums)) (λ s. pays_on (n, group) (c.kept s))) (sym (same (n, group)).0) (h.pays n u at group));
  ghosts = λ n u at group. listed (n, group) (h.ghosts n u at group);
  texts = texts_stay c.texts (maps 0) (new 0) (same_at 0) h.texts;
  unused = λ index other past. same_at index ∙ h.unused index other past;
}
  where
    same_at : (index : ℕ) → new index ≡ maps index
    same_at index = same_table nat_list_cmp_total bytes_same (new index) (maps index) (λ key. (same (index, key)).1)

-- seats stay where those of one row do, and all other rows are as before
pub seats_stay : (place : Place) (old new : State) → OnlyAt place old new → ((s : ℕ) → HasSeat old place s → HasSeat new place s) → (s : ℕ) (q : Place) → HasSeat old q s → HasSeat new q s
seats_stay place old new only here s q seat = by_place q place
    (λ e. subst (λ p. HasSeat new p s) (sym e) (here s (subst (λ p. HasSeat old p s) e seat)))
    (λ ne. seated (row_at old.rows q) (row_at new.rows q) (sym (only q ne)) seat)
  where
    seated : (o p : Option OpenRow) → o ≡ p → IfSome o (λ row. IsSome (sum_at row.shares s)) × IsSome o → IfSome p (λ row. IsSome (sum_at row.shares s)) × IsSome p
    seated o p e h = subst (λ x. IfSome x (λ row. IsSome (sum_at row.shares s)) × IsSome x) e h

-- the rows of tables changed, and kept steps that are no pays
pub rows_changed : (ds : Definitions) (maps new : ℕ → Map) (state : State) (c : Contents) (rows : Rows) (kept : ℕ → List KeptStep) → IsHeld ds maps state c → Holds ds rows new
    → ((n : ℕ) (v : ViewTree) → schema.numbered c.objects n ≡ Some (schema.view v) → new n ≡ maps n) → ((n : ℕ) → schema.numbered c.objects n ≡ None → new n ≡ maps n) → ((q : Place) (s : ℕ) → pays_on q (kept s) ≡ pays_on q (c.kept s)) → IsHeld ds new state (record c { rows = rows; kept = kept })
rows_changed ds maps new state c rows kept h held same past others = record {
  objects = h.objects;
  tables = held;
  views = λ n u at group. ap (λ (m : Map). get m group) (same n u at) ∙ h.views n u at group;
  in_range = h.in_range;
  pays = λ n u at group.
      let pays : (λ s. pays_on (n, group) (c.kept s)) ≡ (λ s. pays_on (n, group) (kept s)) = λ i. λ s. sym (others (n, group) s) i in
      subst (λ o. StandsFor (row_at state.rows (n, group)) o (suc (length u.sums)) (λ s. pays_on (n, group) (kept s))) (sym (ap (λ (m : Map). get m group) (same n u at)))
      (subst (λ ps. StandsFor (row_at state.rows (n, group)) (stored_at maps (n, group)) (suc (length u.sums)) ps) pays (h.pays n u at group));
  ghosts = λ n u at group. subst (λ o. IsGhostRow (row_at state.rows (n, group)) o → IsCandidate state (n, group)) (sym (ap (λ (m : Map). get m group) (same n u at))) (h.ghosts n u at group);
  texts = texts_stay c.texts (maps 0) (new 0) (past 0 refl) h.texts;
  unused = λ index other behind. past index behind ∙ h.unused index other behind;
}

-- a change of a row of a table leaves the maps of views
pub views_stay : (ds : Definitions) (maps new : ℕ → Map) (number : ℕ) (key : List ℕ) (one other : Option (List Value)) (t : TableDef) → AreNumbered ds → table_of ds number ≡ Some t → Sets ds key one other maps new t
    → (objects : schema.Schema) → schema_of ds ≡ objects → (n : ℕ) (v : ViewTree) → schema.numbered objects n ≡ Some (schema.view v) → new n ≡ maps n
views_stay ds maps new number key one other t are of sets objects same n v is =
    let here : schema.numbered (schema_of ds) n ≡ Some (schema.view v) = subst (λ os. schema.numbered os n ≡ Some (schema.view v)) (sym same) is in
    sets.rest n (λ e. is_no_table ds n v t here (subst (λ m. table_of ds m ≡ Some t) (sym (table_number ds number t are of)) of) (sym e))
    (λ i of_table e. is_no_index ds n v t i here of_table (sym e))

-- and those of no object
pub unused_stay : (ds : Definitions) (maps new : ℕ → Map) (number : ℕ) (key : List ℕ) (one other : Option (List Value)) (t : TableDef) → AreNumbered ds → table_of ds number ≡ Some t → Sets ds key one other maps new t
    → (objects : schema.Schema) → schema_of ds ≡ objects → (n : ℕ) → schema.numbered objects n ≡ None → new n ≡ maps n
unused_stay ds maps new number key one other t are of sets objects same n none =
    let here : table_of ds t.number ≡ Some t = subst (λ m. table_of ds m ≡ Some t) (sym (table_number ds number t are of)) of in
    let undefined : schema.numbered (schema_of ds) n ≡ None = subst (λ os. schema.numbered os n ≡ None) (sym same) none in
    sets.rest n (λ e. not_defined (definition.numbered ds n) (sym (alike ds n) ∙ undefined) (subst (λ m. IsSome (definition.numbered ds m)) (sym e) (table_some (definition.numbered ds t.number) t here)))
    (λ i of_table e. not_defined (definition.numbered ds n) (sym (alike ds n) ∙ undefined) (subst (λ m. IsSome (definition.numbered ds m)) (sym e) (index_some (definition.numbered ds i.number) i of_table.is)))

-- the pays of all sessions, where those of one stay
pub pays_else : (q : Place) (kept : ℕ → List KeptStep) (session : ℕ) (ks : List KeptStep) → pays_on q ks ≡ pays_on q (kept session) → (s : ℕ) → pays_on q (with_one kept session ks s) ≡ pays_on q (kept s)
pays_else q kept session ks same s = by_session s session
    (λ e. ap (pays_on q) (one_same kept session ks s e) ∙ (same ∙ ap (λ j. pays_on q (kept j)) (sym e)))
    (λ n. ap (pays_on q) (one_other kept session ks s n))
