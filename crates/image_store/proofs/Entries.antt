-- The entries of pages, with one more, and what one stands for.
use Rattle.std.specs.Prelude.{◌≡◌, ◌≢◌, ◌⊎◌, ◌↔◌, ℕ, suc, ℤ, pos, List, [], ◌∷◌, ◌++◌, length, get_or, Option, Some, None, IsSome}
use Rattle.std.specs.List.{AllByRecursion}
use Rattle.std.specs.Option.{option_map_or}
use Rattle.std.specs.FinMap.{FinMap, get, insert, empty, get-empty}
use mathlib.Core.Path.{refl, sym, ap, subst, ◌∙◌}
use mathlib.Core.Logic.{inl, inr}
use Rattle.std.proofs.lemmas.List.Elements.{recursion_from_All}
use Rattle.iv_types.specs.declared.catalog.TableDef.{TableDef}
use Rattle.iv_types.specs.declared.value.Kind.TheVariants.{Huge}
use Rattle.iv_types.specs.declared.value.Value.TheVariants.{Number}
use Rattle.iv_types.specs.Definitions.{Definitions}
use Rattle.iv_types.specs.Encoding.{IsHuge, FitAll, kinds_of, value_bytes, row_bytes}
use Rattle.table_laws.specs.Place.{Place, place_cmp}
use Rattle.table_laws.proofs.Place.{place_cmp_total, place_cmp-IsAntisymmetric}
use Rattle.table_laws.proofs.Tables.{get-write_at, get-write_other}
use Rattle.iv_meaning.specs.Schema as schema
use Rattle.iv_meaning.specs.Schema.{Schema, Object, numbered, kinds_of_table}
use Rattle.iv_meaning.specs.Database.{Row, key_of}
use Rattle.iv_meaning.specs.Objects.{schema_of}
use Rattle.iv_meaning.specs.Sound.{IsRow}
use Rattle.table_store.specs.Stored.{table_of}
use Rattle.table_store.proofs.Held.{of_table}
use Rattle.txn_machine.specs.Stored.{IsStoredRow}
use Rattle.txn_machine.proofs.Ranging.{huge_zero}
use Rattle.txn_log.specs.Damaged.{EntryStands}
use Rattle.txn_log.specs.Fitting.{IsGroup}
use Rattle.txn_log.specs.Replay.{Pages}
use Rattle.txn_log.specs.Stored.{AreProper, total_bytes}
use Rattle.ghost_rows.specs.Numbers.{numbers_bytes}
use Rattle.ghost_rows.proofs.TableLemmas.{by_place, some_same}
use Rattle.image_entries.specs.declared.stored.StoredEntry.{StoredEntry}
use Rattle.image_store.specs.Filled.{Entries, AreOf}

pub put_here : {X : Type 0} (m : FinMap place_cmp X) (place q : Place) (x : X) → q ≡ place → get (insert m place x) q ≡ Some x
put_here m place q x same = get-write_at place_cmp_total place_cmp-IsAntisymmetric m place (Some x) q same

pub put_elsewhere : {X : Type 0} (m : FinMap place_cmp X) (place q : Place) (x : X) → q ≢ place → get (insert m place x) q ≡ get m q
put_elsewhere m place q x other = get-write_other place_cmp_total place_cmp-IsAntisymmetric m place (Some x) q other

pub none_when : {X : Type 0} (o : Option X) → ((x : X) → o ≡ Some x → ⊥) → o ≡ None
none_when None f = refl
none_when (Some x) f = absurd (f x refl)

-- the bytes of numbers, as entries and as stored rows have them
pub one_bytes : (ns : List ℤ) → total_bytes ns ≡ numbers_bytes ns
one_bytes [] = refl
one_bytes (n ∷ ns) = ap (λ bs. value_bytes Huge (Number n) ++ bs) (one_bytes ns)

-- ---- one place

-- the entry at a place is that of its row or of its numbers
abbrev AreAt : Option StoredEntry → Option Object → Option Row → Option (List ℤ) → List ℕ → Type 0
AreAt stored object row total value =
    ((s : StoredEntry) × (stored ≡ Some s) × (s.value ≡ value))
    ↔ (((r : Row) × (row ≡ Some r) × (value ≡ row_bytes (kinds_of_table object) r)) ⊎ ((ns : List ℤ) × (total ≡ Some ns) × (value ≡ total_bytes ns)))

as_at : (o p : Option StoredEntry) (x y : Option Object) (r q : Option Row) (t u : Option (List ℤ)) (value : List ℕ) → p ≡ o → y ≡ x → q ≡ r → u ≡ t → AreAt o x r t value → AreAt p y q u value
as_at o p x y r q t u value eo ex er et h =
    subst (λ a. AreAt a y q u value) (sym eo) (subst (λ a. AreAt o a q u value) (sym ex) (subst (λ a. AreAt o x a u value) (sym er) (subst (λ a. AreAt o x r a value) (sym et) h)))

at_row : (t : TableDef) (row : Row) (s : StoredEntry) (value : List ℕ) → s.value ≡ row_bytes (kinds_of t) row → AreAt (Some s) (Some (schema.table t)) (Some row) None value
at_row t row s value is = (
  λ h. inl (row, refl, sym h.2 ∙ (ap (λ (x : StoredEntry). x.value) (sym (some_same s h.0 h.1)) ∙ is)),
  λ h. elim h [
    | inl r ↦ (s, refl, is ∙ (ap (row_bytes (kinds_of t)) (some_same row r.0 r.1) ∙ sym r.2))
    | inr n ↦ absurd (let no : None ≡ Some n.0 = n.1 in cc)
  ],
)

at_total : (o : Option Object) (ns : List ℤ) (s : StoredEntry) (value : List ℕ) → s.value ≡ total_bytes ns → AreAt (Some s) o None (Some ns) value
at_total o ns s value is = (
  λ h. inr (ns, refl, sym h.2 ∙ (ap (λ (x : StoredEntry). x.value) (sym (some_same s h.0 h.1)) ∙ is)),
  λ h. elim h [
    | inl r ↦ absurd (let no : None ≡ Some r.0 = r.1 in cc)
    | inr n ↦ (s, refl, is ∙ (ap total_bytes (some_same ns n.0 n.1) ∙ sym n.2))
  ],
)

-- ---- the entries of pages

abbrev pub rows_more : Pages → Place → Row → Pages
rows_more p place row = record p { db = record p.db { rows = insert p.db.rows place row } }

abbrev pub totals_more : Pages → Place → List ℤ → Pages
totals_more p place ns = record p { view = insert p.view place ns }

pub of_none : (objects : Schema) → AreOf empty (record { db = record { number = 0; schema = objects; rows = empty }; view = empty })
of_none objects e some = (
  λ h. absurd (let no : None ≡ Some h.0 = sym (get-empty place_cmp e.0) ∙ h.1 in cc),
  λ h. elim h [
    | inl r ↦ absurd (let no : None ≡ Some r.0 = sym (get-empty place_cmp e.0) ∙ r.1 in cc)
    | inr n ↦ absurd (let no : None ≡ Some n.0 = sym (get-empty place_cmp e.0) ∙ n.1 in cc)
  ],
)

module _ (m : Entries) (p : Pages) (place : Place) (are : AreOf m p) where
  -- where there is no entry, there is neither a row nor a total
  pub no_row : place.0 ≢ 0 → get m place ≡ None → get p.db.rows place ≡ None
  no_row some none = none_when (get p.db.rows place) (λ row there.
      let h = (are (place, row_bytes (kinds_of_table (numbered p.db.schema place.0)) row) some).1 (inl (row, there, refl)) in
      let no : None ≡ Some h.0 = sym none ∙ h.1 in cc)

  pub no_total : place.0 ≢ 0 → get m place ≡ None → get p.view place ≡ None
  no_total some none = none_when (get p.view place) (λ ns there.
      let h = (are (place, total_bytes ns) some).1 (inr (ns, there, refl)) in
      let no : None ≡ Some h.0 = sym none ∙ h.1 in cc)

  pub of_rows_more : (s : StoredEntry) (t : TableDef) (row : Row) → numbered p.db.schema place.0 ≡ Some (schema.table t) → s.value ≡ row_bytes (kinds_of t) row → get p.view place ≡ None → AreOf (insert m place s) (rows_more p place row)
  of_rows_more s t row is bytes none e some = by_place e.0 place
      (λ same.
      as_at (Some s) (get (insert m place s) e.0) (Some (schema.table t)) (numbered p.db.schema e.0.0) (Some row) (get (insert p.db.rows place row) e.0) None (get p.view e.0) e.1
      (put_here m place e.0 s same) (ap (λ (q : Place). numbered p.db.schema q.0) same ∙ is) (put_here p.db.rows place e.0 row same) (ap (get p.view) same ∙ none) (at_row t row s e.1 bytes))
      (λ other.
      as_at (get m e.0) (get (insert m place s) e.0) (numbered p.db.schema e.0.0) (numbered p.db.schema e.0.0) (get p.db.rows e.0) (get (insert p.db.rows place row) e.0) (get p.view e.0) (get p.view e.0) e.1
      (put_elsewhere m place e.0 s other) refl (put_elsewhere p.db.rows place e.0 row other) refl (are e some))

  pub of_totals_more : (s : StoredEntry) (ns : List ℤ) → s.value ≡ total_bytes ns → get p.db.rows place ≡ None → AreOf (insert m place s) (totals_more p place ns)
  of_totals_more s ns bytes none e some = by_place e.0 place
      (λ same.
      as_at (Some s) (get (insert m place s) e.0) (numbered p.db.schema e.0.0) (numbered p.db.schema e.0.0) None (get p.db.rows e.0) (Some ns) (get (insert p.view place ns) e.0) e.1
      (put_here m place e.0 s same) refl (ap (get p.db.rows) same ∙ none) (put_here p.view place e.0 ns same) (at_total (numbered p.db.schema e.0.0) ns s e.1 bytes))
      (λ other.
      as_at (get m e.0) (get (insert m place s) e.0) (numbered p.db.schema e.0.0) (numbered p.db.schema e.0.0) (get p.db.rows e.0) (get p.db.rows e.0) (get p.view e.0) (get (insert p.view place ns) e.0) e.1
      (put_elsewhere m place e.0 s other) refl refl (put_elsewhere p.view place e.0 ns other) (are e some))

  -- what is entered under 0 is passed over
  pub of_part : (s : StoredEntry) → place.0 ≡ 0 → AreOf (insert m place s) p
  of_part s zero e some =
      as_at (get m e.0) (get (insert m place s) e.0) (numbered p.db.schema e.0.0) (numbered p.db.schema e.0.0) (get p.db.rows e.0) (get p.db.rows e.0) (get p.view e.0) (get p.view e.0) e.1
      (put_elsewhere m place e.0 s (λ same. some (ap (λ (q : Place). q.0) same ∙ zero))) refl refl refl (are e some)

-- ---- proper pages

huge_at : (ns : List ℤ) → AllByRecursion IsHuge ns → (column : ℕ) → IsHuge (get_or ns column (pos 0))
huge_at [] h column = huge_zero
huge_at (n ∷ ns) h ℕ.zero = h.0
huge_at (n ∷ ns) h (suc column) = huge_at ns h.1 column

module _ (p : Pages) (place : Place) (proper : AreProper p) where
  pub proper_rows : (t : TableDef) (row : Row) → numbered p.db.schema place.0 ≡ Some (schema.table t) → FitAll (kinds_of t) row → place.1 ≡ key_of t row → AreProper (rows_more p place row)
  proper_rows t row is fits key = record {
    sound = record {
      objects = proper.sound.objects;
      rows = λ q r there. by_place q place
          (λ same.
          subst (λ (x : Row). IsRow p.db.schema q x) (some_same row r (sym (put_here p.db.rows place q row same) ∙ there))
          (subst (λ (k : Place). IsRow p.db.schema k row) (sym same) (record { of = t; table_is = is; key = key; fits = fits })))
          (λ other. proper.sound.rows q r (sym (put_elsewhere p.db.rows place q row other) ∙ there));
      joins = proper.sound.joins;
      typed = proper.sound.typed;
    };
    stored = proper.stored;
    in_range = proper.in_range;
  }

  pub proper_totals : (ns : List ℤ) (g : IsGroup p.db.schema place) → length ns ≡ suc (length g.of.sums) → AllByRecursion IsHuge ns → AreProper (totals_more p place ns)
  proper_totals ns g wide huge = record {
    sound = proper.sound;
    stored = λ q numbers there. by_place q place
        (λ same.
        subst (λ (x : List ℤ). IsStoredRow p.db.schema q x) (some_same ns numbers (sym (put_here p.view place q ns same) ∙ there))
        (subst (λ (k : Place). IsStoredRow p.db.schema k ns) (sym same) (record { of = g.of; view_is = g.view_is; group = g.group; fits = g.fits; key = g.key; width = wide })))
        (λ other. proper.stored q numbers (sym (put_elsewhere p.view place q ns other) ∙ there));
    in_range = λ q column. by_place q place
        (λ same. subst (λ o. IsHuge (option_map_or (λ numbers. get_or numbers column (pos 0)) o (pos 0))) (sym (put_here p.view place q ns same)) (huge_at ns huge column))
        (λ other. subst (λ o. IsHuge (option_map_or (λ numbers. get_or numbers column (pos 0)) o (pos 0))) (sym (put_elsewhere p.view place q ns other)) (proper.in_range q column));
  }

-- ---- what an entry stands for

-- a row of the table under its key
pub record IsRowOf (t : TableDef) (place : Place) (value : List ℕ) : Type 0 where
  pub row : Row
  pub fits : FitAll (kinds_of t) row
  pub bytes : value ≡ row_bytes (kinds_of t) row
  pub key : place.1 ≡ key_of t row

-- the numbers of a group of a view
pub record IsTotalOf (objects : Schema) (place : Place) (value : List ℕ) : Type 0 where
  pub group : IsGroup objects place
  pub numbers : List ℤ
  pub width : length numbers ≡ suc (length group.of.sums)
  pub in_range : AllByRecursion IsHuge numbers
  pub bytes : value ≡ total_bytes numbers

pub not_zero : (objects : Schema) (n : ℕ) (o : Object) → numbered objects n ≡ Some o → n ≢ 0
not_zero objects ℕ.zero o e = absurd (let no : None ≡ Some o = e in cc)
not_zero objects (suc n) o e = λ zero. absurd (cc)

same_table : (t u : TableDef) → Some (schema.table t) ≡ Some (schema.table u) → t ≡ u
same_table t u e = cc

pub row_stands : (objects : Schema) (place : Place) (value : List ℕ) (t : TableDef) → numbered objects place.0 ≡ Some (schema.table t) → EntryStands objects (place, value) → IsRowOf t place value
row_stands objects place value t is (inl zero) = absurd (not_zero objects place.0 (schema.table t) is zero)
row_stands objects place value t is (inr (inl r)) = subst (λ (u : TableDef). IsRowOf u place value) (same_table r.0 t (sym r.2 ∙ is)) (record { row = r.1; fits = r.3; bytes = r.4; key = r.5 })
row_stands objects place value t is (inr (inr g)) = absurd (let no : Some (schema.table t) ≡ Some (schema.view g.0.of) = sym is ∙ g.0.view_is in cc)

pub total_stands : (ds : Definitions) (place : Place) (value : List ℕ) → (IsSome (table_of ds place.0) → ⊥) → place.0 ≢ 0 → EntryStands (schema_of ds) (place, value) → IsTotalOf (schema_of ds) place value
total_stands ds place value none some (inl zero) = absurd (some zero)
total_stands ds place value none some (inr (inl r)) = absurd (none (subst IsSome (sym (of_table ds place.0 r.0 r.2)) refl))
total_stands ds place value none some (inr (inr g)) = record { group = g.0; numbers = g.1; width = g.2; in_range = recursion_from_All IsHuge g.1 g.3; bytes = g.4 }
