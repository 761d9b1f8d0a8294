-- The entries of a view with the values that they had at a commit number.
use Rattle.std.specs.Prelude.{◌≡◌, ℕ, suc, ℤ, true, false, cond, T, List, [], ◌∷◌, map, length, Option, Some, None, IsSome}
use Rattle.std.specs.Option.{option_map, option_map_or}
use mathlib.Core.Path.{refl, sym, ap, subst, ◌∙◌}
use Rattle.std.specs.FinMap.{get, entries, find, is_sorted, get-entries, entries_sorted}
use Rattle.std.specs.FinMap.Entries.{below_all, same_entries}
use Rattle.std.specs.Ordering.{eq_by_cmp}
use Rattle.std.specs.Cmp.Lexicographic.{nat_list_cmp_total}
use Rattle.iv_types.specs.declared.value.Interval.{Interval}
use Rattle.iv_types.specs.Encoding.{FitAll, key_bytes, lies_in}
use Rattle.iv_types.specs.Maps.{Map, Entry}
use Rattle.iv_types.specs.declared.catalog.ViewDef.{ViewDef}
use Rattle.iv_types.specs.declared.catalog.Definition.{Definition}
use Rattle.iv_types.specs.declared.catalog.Definition.TheVariants.{Table, Index, View}
use Rattle.iv_types.specs.Definitions.{Definitions}
use Rattle.iv_types.specs.Definitions as definitions
use Rattle.iv_meaning.specs.Objects.{schema_of, object_of, view_tree}
use Rattle.iv_meaning.specs.Schema.{Schema, view, ViewTree, numbered, group_kinds}
use Rattle.iv_meaning.specs.Database.{Row}
use Rattle.table_store.specs.Stored.{between}
use Rattle.table_store.proofs.Places.{first, second, both, first_below, rest_sorted, equal}
use Rattle.table_store.proofs.Maps.{by_bytes, bytes_same}
use Rattle.table_store.proofs.Fresh.{changed, changed_sorted, find_changed, filter_changed}
use Rattle.txn_machine.specs.Stored.{ViewRows, AreStored, Lists}
use Rattle.ghost_rows.specs.Numbers.{numbers_bytes, Fits128}
use Rattle.ghost_rows.specs.Ghosts.{AreCommitted}
use Rattle.version_chain.specs.Deltas.{due, less}
use Rattle.ghost_rows.specs.State.{State, stored_at}
use Rattle.data_store.specs.Contents.{Contents, pays_on}
use Rattle.data_store.specs.Reading.{CanBeRead}
use Rattle.data_store.specs.Shown.{StoredRow, entries_of, IsGroupRow, Shows}
use Rattle.data_store.specs.ViewPast.{as_view, view_of, DeltaVersions, WereViewRows, past_value, past_entries, CanShowAt}
use Rattle.data_store.proofs.Listing.{of_view, within, view_sorted, find_view, IsGood, huge_fit, lists_by}
use Rattle.data_store.proofs.Finding.{alike, group_row, object_is}

-- ---- values by their keys

module _ (F : List ℕ → List ℕ) where
  abbrev valued : List Entry → List Entry
  valued es = map (λ e. (e.0, F e.0)) es

  valued_below : (k : List ℕ) (es : List Entry) → T (below_all by_bytes k es) → T (below_all by_bytes k (valued es))
  valued_below k [] h = tt
  valued_below k (e ∷ es) h = both _ _ (first _ _ h) (valued_below k es (second _ _ h))

  valued_sorted : (es : List Entry) → T (is_sorted by_bytes es) → T (is_sorted by_bytes (valued es))
  valued_sorted [] s = tt
  valued_sorted (e ∷ es) s = both _ _ (valued_below e.0 es (first_below by_bytes e es s)) (valued_sorted es (rest_sorted by_bytes e es s))

  find_valued : (q : List ℕ) (es : List Entry) → find by_bytes q (valued es) ≡ option_map (λ value. F q) (find by_bytes q es)
  find_valued q [] = refl
  find_valued q (e ∷ es) = elim (eq_by_cmp by_bytes q e.0) as (λ b. eq_by_cmp by_bytes q e.0 ≡ b → cond b (Some (F e.0)) (find by_bytes q (valued es)) ≡ option_map (λ value. F q) (cond b (Some e.1) (find by_bytes q es))) [
    | true ↦ λ is. ap (λ (k : List ℕ). Some (F k)) (sym (bytes_same q e.0 (equal _ is)))
    | false ↦ λ is. find_valued q es
  ] refl

  between_valued : (interval : Interval) (es : List Entry) → between interval (valued es) ≡ valued (between interval es)
  between_valued interval [] = refl
  between_valued interval (e ∷ es) = elim (lies_in e.0 interval) as (λ b. cond b ((e.0, F e.0) ∷ between interval (valued es)) (between interval (valued es)) ≡ valued (cond b (e ∷ between interval es) (between interval es))) [
    | true ↦ ap (λ (l : List Entry). (e.0, F e.0) ∷ l) (between_valued interval es)
    | false ↦ between_valued interval es
  ]

-- ---- those of a view

module _ (number : ℕ) (versions : DeltaVersions) (state : State) (maps : ℕ → Map) (n : ℕ) (past : ViewRows) (were : WereViewRows number versions state maps n past) where
  value_found : (q : List ℕ) (found : Option (List ℕ)) → get (maps n) q ≡ found → option_map (λ value. past_value past (n, q)) found ≡ option_map numbers_bytes (get past (n, q))
  value_found q None e = sym (ap (option_map numbers_bytes) (were.absent q e))
  value_found q (Some value) e =
      let was = were.there q (subst (λ (o : Option (List ℕ)). IsSome o) (sym e) refl) in
      ap (λ (o : Option (List ℤ)). Some (option_map_or numbers_bytes o [])) was.1 ∙ sym (ap (option_map numbers_bytes) was.1)

  past_encoded : past_entries past n (entries (maps n)) ≡ entries_of (of_view n (entries past))
  past_encoded =
      let rows : List StoredRow = of_view n (entries past) in
      let m : Map = maps n in
      same_entries by_bytes nat_list_cmp_total bytes_same (past_entries past n (entries m)) (changed by_bytes numbers_bytes rows)
      (valued_sorted (λ k. past_value past (n, k)) (entries m) (entries_sorted m)) (changed_sorted by_bytes numbers_bytes rows (view_sorted n (entries past) (entries_sorted past)))
      (λ q. find_valued (λ k. past_value past (n, k)) q (entries m)
      ∙ (value_found q (find by_bytes q (entries m)) (get-entries m q)
      ∙ (ap (option_map numbers_bytes) (get-entries past (n, q) ∙ sym (find_view n q (entries past))) ∙ sym (find_changed by_bytes numbers_bytes q rows))))

  pub past_between : (interval : Interval) → past_entries past n (between interval (entries (maps n))) ≡ entries_of (within interval (of_view n (entries past)))
  past_between interval =
      sym (between_valued (λ k. past_value past (n, k)) interval (entries (maps n)))
      ∙ (ap (between interval) past_encoded ∙ filter_changed by_bytes numbers_bytes (λ k. lies_in k interval) (of_view n (entries past)))

  module _ (objects : Schema) (v : ViewTree) (is : numbered objects n ≡ Some (view v)) (stored : AreStored objects past) where
    good : (group : List ℕ) (numbers : List ℤ) → get past (n, group) ≡ Some numbers → IsGood (suc (length v.sums)) numbers
    good group numbers there =
        let s = stored (n, group) numbers there in
        let same : Some (view s.of) ≡ Some (view v) = sym s.view_is ∙ is in
        let this : s.of ≡ v = cc in
        record { width = s.width ∙ ap (λ (w : ViewTree). suc (length w.sums)) this; in_range = were.in_range group numbers there }

    -- an entry of the view was a row of a group
    pub was_group : (key value : List ℕ) → get (maps n) key ≡ Some value → IsGroupRow (group_kinds objects v) key (past_value past (n, key))
    was_group key value there =
        let was = were.there key (subst (λ (o : Option (List ℕ)). IsSome o) (sym there) refl) in
        let s = stored (n, key) was.0 was.1 in
        let same : Some (view s.of) ≡ Some (view v) = sym s.view_is ∙ is in
        let this : s.of ≡ v = cc in
        let g = good key was.0 was.1 in
        subst (λ (o : Option (List ℤ)). IsGroupRow (group_kinds objects v) key (option_map_or numbers_bytes o [])) (sym was.1)
        (group_row (group_kinds objects v) key (numbers_bytes was.0) s.group (length v.sums) was.0 (subst (λ (w : ViewTree). FitAll (group_kinds objects w) s.group) this s.fits)
        (s.key ∙ ap (λ (w : ViewTree). key_bytes (group_kinds objects w) s.group) this) g.width (huge_fit was.0 g.in_range) refl)

    pub was_there : (key value : List ℕ) → get (maps n) key ≡ Some value → get past (n, key) ≡ None → ⊥
    was_there key value there none =
        let was = were.there key (subst (λ (o : Option (List ℕ)). IsSome o) (sym there) refl) in
        let no_row : None ≡ Some was.0 = sym none ∙ was.1 in
        cc

    pub past_lists : v.number ≡ n → (interval : Interval) (rows : List Row) → Shows (group_kinds objects v) (past_entries past n (between interval (entries (maps n)))) rows → Lists objects v interval past rows
    past_lists number_is interval rows s =
        lists_by objects v past (λ group numbers there. good group numbers (ap (λ (k : ℕ). get past (k, group)) (sym number_is) ∙ there)) interval (past_entries past n (between interval (entries (maps n)))) rows
        (past_between interval ∙ ap (λ (k : ℕ). entries_of (within interval (of_view k (entries past)))) (sym number_is)) s

-- ---- by the catalog

module _ (ds : Definitions) (maps : ℕ → Map) (state : State) (c : Contents) (readable : CanBeRead ds maps state c) (n : ℕ) (d : ViewDef) (defined : definitions.numbered ds n ≡ Some (View d))
    (number : ℕ) (versions : DeltaVersions) (past : ViewRows) (were : WereViewRows number versions state maps n past) (stored : AreStored c.objects past) where
  is_view : numbered c.objects n ≡ Some (view (view_tree d))
  is_view = object_is ds maps state c readable n (View d) defined

  pub can_show : CanShowAt number versions state maps n (group_kinds (schema_of ds) (view_tree d)) past
  can_show = record {
    were = were;
    each = λ key value there. record {
      many = length d.sums;
      pays = λ session. pays_on (n, key) (c.kept session);
      kept = readable.held.pays n (view_tree d) is_view key;
      was = subst (λ (o : Schema). IsGroupRow (group_kinds o (view_tree d)) key (past_value past (n, key))) (sym readable.held.objects)
          (was_group number versions state maps n past were c.objects (view_tree d) is_view stored key value there);
      there = was_there number versions state maps n past were c.objects (view_tree d) is_view stored key value there;
    };
  }

  pub shown_then : d.number ≡ n → (v : ViewTree) → numbered c.objects n ≡ Some (view v) → (interval : Interval) (rows : List Row)
      → Shows (group_kinds (schema_of ds) (view_tree d)) (past_entries past n (between interval (entries (maps n)))) rows → Lists c.objects v interval past rows
  shown_then number_is v is interval rows s =
      let same : Some (view (view_tree d)) ≡ Some (view v) = sym is_view ∙ is in
      let this : view_tree d ≡ v = cc in
      subst (λ (w : ViewTree). Lists c.objects w interval past rows) this
      (past_lists number versions state maps n past were c.objects (view_tree d) is_view stored number_is interval rows
      (subst (λ (o : Schema). Shows (group_kinds o (view_tree d)) (past_entries past n (between interval (entries (maps n)))) rows) readable.held.objects s))

-- ---- the view of a number

defined_view : (o : Option Definition) (d : ViewDef) → as_view o ≡ Some d → o ≡ Some (View d)
defined_view None d e = absurd (cc)
defined_view (Some (Table t)) d e = absurd (cc)
defined_view (Some (Index i)) d e = absurd (cc)
defined_view (Some (View w)) d e = let same : w ≡ d = cc in ap (λ (v : ViewDef). Some (View v)) same

pub view_defined : (ds : Definitions) (n : ℕ) (d : ViewDef) → view_of ds n ≡ Some d → definitions.numbered ds n ≡ Some (View d)
view_defined ds n d e = defined_view (definitions.numbered ds n) d e

a_view : (o : Option Definition) (v : ViewTree) → option_map object_of o ≡ Some (view v) → IsSome (as_view o)
a_view None v e = absurd (cc)
a_view (Some (Table t)) v e = absurd (cc)
a_view (Some (Index i)) v e = absurd (cc)
a_view (Some (View w)) v e = refl

pub is_some_view : (ds : Definitions) (maps : ℕ → Map) (state : State) (c : Contents) → CanBeRead ds maps state c → (n : ℕ) (v : ViewTree) → numbered c.objects n ≡ Some (view v) → IsSome (view_of ds n)
is_some_view ds maps state c readable n v e = a_view (definitions.numbered ds n) v (sym (alike ds n) ∙ (ap (λ objects. numbered objects n) readable.held.objects ∙ e))

-- ---- the value of one row

not_none : {A : Type 0} (o : Option A) → (o ≡ None → ⊥) → IsSome o
not_none None h = absurd (h refl)
not_none (Some x) h = refl

pub value_is : (number : ℕ) (versions : DeltaVersions) (state : State) (maps : ℕ → Map) (n : ℕ) (past : ViewRows) → WereViewRows number versions state maps n past → (group : List ℕ) (ns : List ℤ)
    → (stored_at maps (n, group) ≡ None → ⊥) → AreCommitted state maps (n, group) ns → (found : Option (List ℕ)) (now : List ℕ) → now ≡ numbers_bytes ns
    → ((numbers : List ℤ) → Fits128 numbers → Fits128 (less (λ column. due number (n, group) column versions) 0 numbers) → Some now ≡ Some (numbers_bytes numbers)
    → found ≡ Some (numbers_bytes (less (λ column. due number (n, group) column versions) 0 numbers)))
    → found ≡ option_map numbers_bytes (get past (n, group))
value_is number versions state maps n past were group ns stored committed found now is told =
    let was = were.there group (not_none (stored_at maps (n, group)) stored) in
    let both = was.2 ns committed in
    told ns both.0 (subst Fits128 both.1 (huge_fit was.0 (were.in_range group was.0 was.1))) (ap (λ (b : List ℕ). Some b) is)
    ∙ (ap (λ (l : List ℤ). Some (numbers_bytes l)) (sym both.1) ∙ sym (ap (option_map numbers_bytes) was.1))

pub some_value : (o : Option (List ℤ)) (value : List ℕ) → Some value ≡ option_map numbers_bytes o → value ≡ option_map_or numbers_bytes o []
some_value None value e = absurd (cc)
some_value (Some ns) value e = cc
