-- A store that takes one entry after another.
use Rattle.std.specs.Prelude.{◌≡◌, ◌≢◌, ℕ, suc, ◌<◌, ◌≤◌, ◌-◌, false, cond, List, [], ◌∷◌, length, Option, Some, None, IsSome, is_some}
use Rattle.std.specs.Option.{option_map}
use Rattle.std.specs.FinMap.{get, insert, remove, empty, entries, len, find, get-empty, get-entries, entries_sorted, len-remove, len-entries}
use mathlib.Core.Path.{refl, sym, ap, subst, ◌∙◌}
use Rattle.std.proofs.Common.{arith}
use Rattle.iv_types.specs.Maps.{Map}
use Rattle.iv_types.specs.Definitions.{Definitions}
use Rattle.iv_types.specs.declared.catalog.TableDef.{TableDef}
use Rattle.iv_types.specs.Encoding.{FitAll, kinds_of, row_bytes}
use Rattle.row_codec.proofs.Formats.{one_spelling}
use Rattle.row_codec.proofs.RowFormat.{row_format}
use Rattle.table_laws.specs.Place.{Place, place_cmp}
use Rattle.table_laws.proofs.Place.{place_cmp_total, place_cmp-IsAntisymmetric}
use Rattle.table_laws.proofs.Tables.{same_table, get-write_at, get-write_other}
use Rattle.iv_meaning.specs.Schema as schema
use Rattle.iv_meaning.specs.Schema.{numbered}
use Rattle.iv_meaning.specs.Database.{Row, key_of}
use Rattle.iv_meaning.specs.Objects.{schema_of}
use Rattle.spare_map.specs.Trees.{first_where, is_from}
use Rattle.spare_map.proofs.Firsts.{none_where, some_where}
use Rattle.table_store.specs.Stored.{table_of}
use Rattle.table_store.proofs.Fresh.{in_schema}
use Rattle.txn_log.specs.Fitting.{IsGroup}
use Rattle.ghost_rows.specs.Numbers.{numbers_bytes}
use Rattle.ghost_rows.specs.Rows.{OpenRows, row_at}
use Rattle.ghost_rows.specs.State.{State}
use Rattle.ghost_rows.proofs.TableLemmas.{by_place}
use Rattle.data_store.specs.Held.{IsHeld}
use Rattle.image_entries.specs.declared.stored.StoredEntry.{StoredEntry}
use Rattle.image_entries.proofs.Walks.{from_least}
use Rattle.image_store.specs.Filled.{Entries, IsFilled, IsFilling, contents_of, IsNewRow, with_row, IsNewGroup, with_group}
use Rattle.image_store.proofs.Entries.{put_here, put_elsewhere, one_bytes, no_row, no_total, of_rows_more, of_totals_more, of_part, rows_more, totals_more, proper_rows, proper_totals, IsRowOf, IsTotalOf, not_zero}

-- ---- one entry

module _ (ds : Definitions) (maps : ℕ → Map) (state : State) (done : Entries) (place : Place) (s : StoredEntry) (filled : IsFilled done ds maps state) (free : get done place ≡ None) where
  same_objects : schema_of ds ≡ filled.pages.db.schema
  same_objects = filled.held.objects

  -- a part of a definition
  pub part_filled : place.0 ≡ 0 → IsFilled (insert done place s) ds maps state
  part_filled zero = record {
    pages = filled.pages;
    held = filled.held;
    entries = of_part done filled.pages place filled.entries s zero;
    proper = filled.proper;
    closed = filled.closed;
  }

  -- a row of a table
  module _ (t : TableDef) (is : table_of ds place.0 ≡ Some t) where
    its_object : numbered filled.pages.db.schema place.0 ≡ Some (schema.table t)
    its_object = subst (λ os. numbered os place.0 ≡ Some (schema.table t)) same_objects (in_schema ds place.0 t is)

    some : place.0 ≢ 0
    some = not_zero filled.pages.db.schema place.0 (schema.table t) its_object

    -- the row that its bytes are stands under its key
    key_is : (row : Row) → IsRowOf t place s.value → FitAll (kinds_of t) row → s.value ≡ row_bytes (kinds_of t) row → place.1 ≡ key_of t row
    key_is row r fits bytes = r.key ∙ ap (key_of t) (one_spelling row_format (kinds_of t) r.row row r.fits fits (sym r.bytes ∙ bytes))

    pub new_row : (row : Row) → IsRowOf t place s.value → FitAll (kinds_of t) row → s.value ≡ row_bytes (kinds_of t) row → IsNewRow ds maps state place row (contents_of filled.pages)
    new_row row r fits bytes = record {
      held = filled.held;
      of = t;
      table_is = is;
      stands = (fits, key_is row r fits bytes);
      absent = no_row done filled.pages place filled.entries some free;
    }

    pub row_filled : (row : Row) → IsRowOf t place s.value → FitAll (kinds_of t) row → s.value ≡ row_bytes (kinds_of t) row
        → (new : ℕ → Map) → IsHeld ds new state (with_row (contents_of filled.pages) place row) → IsFilled (insert done place s) ds new state
    row_filled row r fits bytes new held = record {
      pages = rows_more filled.pages place row;
      held = held;
      entries = of_rows_more done filled.pages place filled.entries s t row its_object bytes (no_total done filled.pages place filled.entries some free);
      proper = proper_rows filled.pages place filled.proper t row its_object fits (key_is row r fits bytes);
      closed = filled.closed;
    }

  -- the numbers of a group
  module _ (is : IsTotalOf (schema_of ds) place s.value) (some : place.0 ≢ 0) where
    its_group : (g : IsGroup filled.pages.db.schema place) × (length is.numbers ≡ suc (length g.of.sums))
    its_group = subst (λ os. (g : IsGroup os place) × (length is.numbers ≡ suc (length g.of.sums))) same_objects (is.group, is.width)

    pub group_bytes : s.value ≡ numbers_bytes is.numbers
    group_bytes = is.bytes ∙ one_bytes is.numbers

    pub new_group : IsNewGroup ds maps state place is.numbers (contents_of filled.pages)
    new_group = record {
      held = filled.held;
      group = its_group.0;
      width = its_group.1;
      in_range = is.in_range;
      absent = no_total done filled.pages place filled.entries some free;
      unkept = λ session. refl;
      closed = ap (λ (rows : OpenRows). row_at rows place) filled.closed ∙ get-empty place_cmp place;
    }

    pub total_filled : (new : ℕ → Map) (after : State) → after.rows ≡ state.rows → IsHeld ds new after (with_group (contents_of filled.pages) place is.numbers) → IsFilled (insert done place s) ds new after
    total_filled new after rows held = record {
      pages = totals_more filled.pages place is.numbers;
      held = held;
      entries = of_totals_more done filled.pages place filled.entries s is.numbers is.bytes (no_row done filled.pages place filled.entries some free);
      proper = proper_totals filled.pages place filled.proper is.numbers its_group.0 its_group.1 is.in_range;
      closed = rows ∙ filled.closed;
    }

-- ---- one after another

gone_here : (m : Entries) (place q : Place) → q ≡ place → get (remove m place) q ≡ None
gone_here m place q same = get-write_at place_cmp_total place_cmp-IsAntisymmetric m place None q same

gone_elsewhere : (m : Entries) (place q : Place) → q ≢ place → get (remove m place) q ≡ get m q
gone_elsewhere m place q other = get-write_other place_cmp_total place_cmp-IsAntisymmetric m place None q other

no_some : {X : Type 0} (o : Option X) (x : X) → o ≡ None → o ≡ Some x → ⊥
no_some o x none some = let no : None ≡ Some x = sym none ∙ some in cc

-- what is left of the rest was left before
pub left_before : (left : Entries) (place : Place) (q : Place) (s : StoredEntry) → get (remove left place) q ≡ Some s → get left q ≡ Some s
left_before left place q s there = by_place q place
    (λ same. absurd (no_some (get (remove left place) q) s (gone_here left place q same) there))
    (λ other. sym (gone_elsewhere left place q other) ∙ there)

pub filling_begins : (all : Entries) (ds : Definitions) (maps : ℕ → Map) (state : State) → IsFilled empty ds maps state → IsFilling all all ds maps state
filling_begins all ds maps state filled = record {
  done = empty;
  filled = filled;
  apart = λ place s there. get-empty place_cmp place;
  still = λ place s there. there;
  others = λ place none. none ∙ sym (get-empty place_cmp place);
}

-- one that was left is in the store
pub filling_goes_on : (all left : Entries) (ds now : Definitions) (maps new : ℕ → Map) (state after : State) (place : Place) (s : StoredEntry) → (f : IsFilling all left ds maps state) → get left place ≡ Some s
    → IsFilled (insert f.done place s) now new after → IsFilling all (remove left place) now new after
filling_goes_on all left ds now maps new state after place s f there filled = record {
  done = insert f.done place s;
  filled = filled;
  apart = λ q t is. by_place q place
      (λ same. absurd (no_some (get (remove left place) q) t (gone_here left place q same) is))
      (λ other. put_elsewhere f.done place q s other ∙ f.apart q t (sym (gone_elsewhere left place q other) ∙ is));
  still = λ q t is. f.still q t (left_before left place q t is);
  others = λ q none. by_place q place
      (λ same. ap (get all) same ∙ (f.still place s there ∙ sym (put_here f.done place q s same)))
      (λ other. f.others q (sym (gone_elsewhere left place q other) ∙ none) ∙ sym (put_elsewhere f.done place q s other));
}

pub filling_done : (all left : Entries) (ds : Definitions) (maps : ℕ → Map) (state : State) → IsFilling all left ds maps state → ((place : Place) → get left place ≡ None) → IsFilled all ds maps state
filling_done all left ds maps state f none =
    subst (λ (m : Entries). IsFilled m ds maps state) (same_table place_cmp_total place_cmp-IsAntisymmetric f.done all (λ q. sym (f.others q (none q)))) f.filled

-- ---- the first that is left

of_entry : (o : Option (Place × StoredEntry)) (q : Place) → option_map (λ e. e.0) o ≡ Some q → (e : Place × StoredEntry) × (o ≡ Some e) × (e.0 ≡ q)
of_entry None q is = absurd (cc is)
of_entry (Some e) q is = (e, refl, cc is)

of_nothing : (o : Option (Place × StoredEntry)) → option_map (λ e. e.0) o ≡ None → o ≡ None
of_nothing None is = refl
of_nothing (Some e) is = absurd (cc is)

pub first_there : (left : Entries) (q : Place) → option_map (λ e. e.0) (first_where (is_from false (0, [])) (entries left)) ≡ Some q → (s : StoredEntry) × (get left q ≡ Some s)
first_there left q is =
    let one = of_entry (first_where (is_from false (0, [])) (entries left)) q is in
    let there = (some_where (is_from false (0, [])) (entries left) one.0 (entries_sorted left) one.1).there in
    (one.0.1, get-entries left q ∙ (ap (λ (k : Place). find place_cmp k (entries left)) (sym one.2) ∙ there))

pub none_there : (left : Entries) → option_map (λ e. e.0) (first_where (is_from false (0, [])) (entries left)) ≡ None → (p : Place) → get left p ≡ None
none_there left is p = get-entries left p ∙ none_where (is_from false (0, [])) (entries left) (of_nothing _ is) p (from_least p)

one_there : (place : Place) (es : List (Place × StoredEntry)) → IsSome (find place_cmp place es) → 1 ≤ length es
one_there place [] there = absurd (cc there)
one_there place (e ∷ es) there = omega arith

pub fewer_left : (left : Entries) (place : Place) (s : StoredEntry) → get left place ≡ Some s → len (remove left place) < len left
fewer_left left place s there =
    let less : len (remove left place) ≡ len left - 1 = len-remove place_cmp_total left place ∙ ap (λ o. cond (is_some o) (len left - 1) (len left)) there in
    let some = one_there place (entries left) (subst IsSome (sym there ∙ get-entries left place) refl) in
    let long = len-entries left in
    omega (arith, less, some, long)
