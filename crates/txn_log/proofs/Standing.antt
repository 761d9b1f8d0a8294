-- Entries stand for one database and its view rows.
use Rattle.std.specs.Prelude.{◌≡◌, ℕ, suc, ℤ, pos, List, [], ◌∷◌, ◌++◌, map, length, get_or, Option, Some, None}
use Rattle.std.specs.List.{concat}
use Rattle.std.specs.FinMap.{get}
use mathlib.Core.Path.{refl, sym, ap, subst, ◌∙◌}
use mathlib.Core.Logic.{inl, inr}
use Rattle.std.proofs.lemmas.Option.{none-some}
use Rattle.iv_types.specs.Grammar.{OneStatement}
use Rattle.iv_types.specs.declared.value.Kind.{Kind}
use Rattle.iv_types.specs.declared.value.Kind.TheVariants.{Huge}
use Rattle.iv_types.specs.declared.value.Value.TheVariants.{Number}
use Rattle.iv_types.specs.Encoding.{IsHuge, FitAll, row_bytes}
use Rattle.row_codec.proofs.Formats.{one_spelling}
use Rattle.row_codec.proofs.RowFormat.{row_format}
use Rattle.table_laws.specs.Place.{Place}
use Rattle.table_laws.proofs.Tables.{same_table}
use Rattle.table_laws.proofs.Place.{place_cmp_total, place_cmp-IsAntisymmetric}
use Rattle.iv_meaning.specs.Schema.{Schema, Object, ViewTree, table, view, numbered, kinds_of_table}
use Rattle.txn_machine.proofs.Shapes.{same_view}
use Rattle.iv_meaning.specs.Database.{Row}
use Rattle.iv_meaning.specs.Sound.{IsRow}
use Rattle.txn_machine.specs.Stored.{IsStoredRow}
use Rattle.txn_machine.proofs.Columns.{number_in_row}
use Rattle.txn_log.specs.Replay.{Pages}
use Rattle.txn_log.specs.Stored.{PageEntry, total_bytes, StandFor, AllCreate, AreProper, OneStoredLaw}
use Rattle.txn_log.proofs.Once.{created}
use Rattle.iv_types.proofs.Fitting.{huge_so}

-- ---- definitions

pub creates_once : OneStatement → (objects : Schema) (texts : List (List ℕ)) (a b : Schema) → AllCreate objects texts a → AllCreate objects texts b → a ≡ b
creates_once alone objects [] a b h k = h ∙ sym k
creates_once alone objects (text ∷ texts) a b h k =
    let same : h.0 ≡ k.0 = created alone objects text h.0 k.0 h.1 k.1 in
    creates_once alone (objects ++ k.0 ∷ []) texts a b (subst (λ (o : Object). AllCreate (objects ++ o ∷ []) texts a) same h.2) k.2

-- ---- rows

row_kinds : (p : Pages) (place : Place) (row : Row) → IsRow p.db.schema place row → FitAll (kinds_of_table (numbered p.db.schema place.0)) row
row_kinds p place row r = subst (λ (o : Option Object). FitAll (kinds_of_table o) row) (sym r.table_is) r.fits

-- a table's number is no view's, and none is 0
not_view : (objects : Schema) (place : Place) (row : Row) (numbers : List ℤ) → IsRow objects place row → IsStoredRow objects place numbers → ⊥
not_view objects place row numbers r t = absurd (let both : Some (table r.of) ≡ Some (view t.of) = sym r.table_is ∙ t.view_is in cc)

pub row_numbered : (objects : Schema) (place : Place) (row : Row) → IsRow objects place row → place.0 ≡ 0 → ⊥
row_numbered objects place row r e = none-some (table r.of) (ap (numbered objects) (sym e) ∙ r.table_is)

pub total_numbered : (objects : Schema) (place : Place) (numbers : List ℤ) → IsStoredRow objects place numbers → place.0 ≡ 0 → ⊥
total_numbered objects place numbers t e = none-some (view t.of) (ap (numbered objects) (sym e) ∙ t.view_is)

-- what stands under a place, if anything
pub by_option : {X : Type 0} {P : Type 0} (o : Option X) → (o ≡ None → P) → ((x : X) → o ≡ Some x → P) → P
by_option None f g = f refl
by_option (Some x) f g = g x refl

-- one finds what the other has
both_find : {X : Type 0} (a b : Option X) → ((x : X) → a ≡ Some x → b ≡ Some x) → ((x : X) → b ≡ Some x → a ≡ Some x) → a ≡ b
both_find None b f g = by_option b (λ e. sym e) (λ x e. absurd (none-some x (g x e)))
both_find (Some x) b f g = sym (f x refl)

-- ---- numbers

all_huge : (numbers : List ℤ) → ((column : ℕ) → IsHuge (get_or numbers column (pos 0))) → FitAll (map (λ n. Huge) numbers) (map Number numbers)
all_huge [] h = tt
all_huge (n ∷ ns) h = (huge_so n (h 0), all_huge ns (λ column. h (suc column)))

same_numbers : (ms ns : List ℤ) → map Number ms ≡ map Number ns → ms ≡ ns
same_numbers [] [] e = refl
same_numbers [] (n ∷ ns) e = absurd (cc)
same_numbers (m ∷ ms) [] e = absurd (cc)
same_numbers (m ∷ ms) (n ∷ ns) e =
    let first : m ≡ n = cc in
    let rest : ms ≡ ns = same_numbers ms ns (cc) in
    λ x. first x ∷ rest x

as_huge : (ms ns : List ℤ) → length ms ≡ length ns → ◌≡◌ {A = List Kind} (map (λ n. Huge) ms) (map (λ n. Huge) ns)
as_huge [] [] e = refl
as_huge [] (n ∷ ns) e = absurd (cc)
as_huge (m ∷ ms) [] e = absurd (cc)
as_huge (m ∷ ms) (n ∷ ns) e = ap (λ (ks : List Kind). Huge ∷ ks) (as_huge ms ns (cc))

pub in_row : (p : Pages) → AreProper p → (place : Place) (numbers : List ℤ) → get p.view place ≡ Some numbers → (column : ℕ) → IsHuge (get_or numbers column (pos 0))
in_row p h place numbers e column = subst IsHuge (ap (number_in_row column) e) (h.in_range place column)

-- ---- one of both

module _ (es : List PageEntry) (texts : List (List (List ℕ))) (p q : Pages) (one : AreProper p) (other : AreProper q) (schema : p.db.schema ≡ q.db.schema) (h : StandFor es texts p) (k : StandFor es texts q) where
  row_found : (place : Place) (row : Row) → get p.db.rows place ≡ Some row → get q.db.rows place ≡ Some row
  row_found place row e =
      let entry : PageEntry = (place, row_bytes (kinds_of_table (numbered p.db.schema place.0)) row) in
      let r : IsRow p.db.schema place row = one.sound.rows place row e in
      let s : IsRow q.db.schema place row = subst (λ objects. IsRow objects place row) schema r in
      elim ((k entry).0 ((h entry).1 (inl (inl (row, e, refl))))) [
        | inl (inl found) ↦
            let there : IsRow q.db.schema place found.0 = other.sound.rows place found.0 found.1 in
            let bytes : row_bytes (kinds_of_table (numbered q.db.schema place.0)) row ≡ row_bytes (kinds_of_table (numbered q.db.schema place.0)) found.0 =
            ap (λ objects. row_bytes (kinds_of_table (numbered objects place.0)) row) (sym schema) ∙ found.2 in
            let same : row ≡ found.0 =
            one_spelling row_format (kinds_of_table (numbered q.db.schema place.0)) row found.0 (row_kinds q place row s) (row_kinds q place found.0 there) bytes in
            found.1 ∙ ap (λ (x : Row). Some x) (sym same)
        | inl (inr found) ↦ absurd (not_view q.db.schema place row found.0 s (other.stored place found.0 found.1))
        | inr found ↦ absurd (row_numbered q.db.schema place row s found.index)
      ]

  total_found : (place : Place) (numbers : List ℤ) → get p.view place ≡ Some numbers → get q.view place ≡ Some numbers
  total_found place numbers e =
      let entry : PageEntry = (place, total_bytes numbers) in
      let t : IsStoredRow p.db.schema place numbers = one.stored place numbers e in
      let u : IsStoredRow q.db.schema place numbers = subst (λ objects. IsStoredRow objects place numbers) schema t in
      elim ((k entry).0 ((h entry).1 (inl (inr (numbers, e, refl))))) [
        | inl (inl found) ↦ absurd (not_view q.db.schema place found.0 numbers (other.sound.rows place found.0 found.1) u)
        | inl (inr found) ↦
            let there : IsStoredRow q.db.schema place found.0 = other.stored place found.0 found.1 in
            let widths : length numbers ≡ length found.0 = u.width ∙ (ap (λ (v : ViewTree). suc (length v.sums)) (same_view u.of there.of (sym u.view_is ∙ there.view_is)) ∙ sym there.width) in
            let kinds : ◌≡◌ {A = List Kind} (map (λ n. Huge) numbers) (map (λ n. Huge) found.0) = as_huge numbers found.0 widths in
            let same : map Number numbers ≡ map Number found.0 = one_spelling row_format (map (λ n. Huge) found.0) (map Number numbers) (map Number found.0)
            (subst (λ ks. FitAll ks (map Number numbers)) kinds (all_huge numbers (in_row p one place numbers e)))
            (all_huge found.0 (in_row q other place found.0 found.1))
            (ap (λ ks. row_bytes ks (map Number numbers)) (sym kinds) ∙ found.2) in
            found.1 ∙ ap (λ (ns : List ℤ). Some ns) (sym (same_numbers numbers found.0 same))
        | inr found ↦ absurd (total_numbered q.db.schema place numbers u found.index)
      ]

pub one_stored : OneStatement → OneStoredLaw
one_stored alone es texts p q ps qs one other number h k =
    let schema : p.db.schema ≡ q.db.schema = creates_once alone [] (map concat texts) p.db.schema q.db.schema ps.1 qs.1 in
    let rows : p.db.rows ≡ q.db.rows = same_table place_cmp_total place_cmp-IsAntisymmetric p.db.rows q.db.rows (λ place.
    both_find (get p.db.rows place) (get q.db.rows place) (row_found es texts p q one other schema h k place) (row_found es texts q p other one (sym schema) k h place)) in
    let totals : p.view ≡ q.view = same_table place_cmp_total place_cmp-IsAntisymmetric p.view q.view (λ place.
    both_find (get p.view place) (get q.view place) (total_found es texts p q one other schema h k place) (total_found es texts q p other one (sym schema) k h place)) in
    λ x. record { db = record { number = number x; schema = schema x; rows = rows x }; view = totals x }
