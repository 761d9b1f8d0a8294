-- What stands under a key is known by its bytes, and what is put in its place.
use Rattle.std.specs.Prelude.{◌≡◌, ◌≢◌, ℕ, Bool, true, false, ◌+◌, ◌-◌, List, Option, Some, None, IfSome, refl}
use Rattle.std.specs.FinMap.{get}
use mathlib.Core.Path.{sym, ap, subst, ◌∙◌}
use Rattle.iv_types.specs.Maps.{Map, IsWithin, used}
use Rattle.iv_types.specs.Definitions.{Definitions, AreNumbered}
use Rattle.iv_types.specs.Encoding.{kinds_of, FitAll, value_bytes}
use Rattle.iv_types.specs.declared.catalog.TableDef.{TableDef}
use Rattle.iv_types.specs.declared.lock.Change.{Change}
use Rattle.table_laws.specs.Table.{write}
use Rattle.table_laws.proofs.Place.{place_cmp_total, place_cmp-IsAntisymmetric}
use Rattle.table_laws.proofs.Tables.{write_there}
use Rattle.iv_meaning.specs.Objects.{schema_of}
use Rattle.iv_meaning.specs.Database.{Row}
use Rattle.iv_meaning.specs.Schema.{numbered, table}
use Rattle.query_laws.specs.Limited.{IsLimited}
use Rattle.row_codec.specs.Laws.{OneSpelling}
use Rattle.txn_machine.specs.Deltas.{RowChange}
use Rattle.txn_machine.specs.May.{FitsUnder}
use Rattle.txn_log.specs.Fitting as fitting
use Rattle.table_store.specs.Stored.{stored, table_of, StandsUnder, IsTableAnd}
use Rattle.table_store.specs.Changes.{IsChange, Sets, SetsRow, sizes, made_by, gone_by}
use Rattle.table_store.proofs.TableIndexes.{table_number}
use Rattle.ghost_rows.specs.State.{State}
use Rattle.data_store.specs.Contents.{Contents}
use Rattle.data_store.specs.Held.{IsHeld}
use Rattle.data_store.proofs.Finding.{table_is}
use Rattle.data_changes.proofs.Frames.{rows_changed, views_stay, unused_stay}
use Rattle.data_room.proofs.Entries.{each_held}
use Rattle.row_replay.specs.Exchanged.{AreRowsUnder, with_rows}

-- rows of the same bytes are the same
same_row : (t : TableDef) (one other : Option Row) → OneSpelling value_bytes → IfSome one (FitAll (kinds_of t)) → IfSome other (FitAll (kinds_of t)) → stored t one ≡ stored t other → one ≡ other
same_row t None None law a b e = refl
same_row t None (Some y) law a b e = absurd (cc)
same_row t (Some x) None law a b e = absurd (cc)
same_row t (Some x) (Some y) law a b e = ap Some (law (kinds_of t) x y a b (cc))

-- what is told where it stands, if it does
pub by_answer : {S P : Type 0} (b : Bool) → S → (b ≡ true → S × P) → (b ≡ false → S → ⊥) → P
by_answer true s f g = (f refl).1
by_answer false s f g = absurd (g refl s)

pub fit_all : (t : TableDef) (key : List ℕ) (row : Option Row) → IfSome row (StandsUnder t key) → IfSome row (FitAll (kinds_of t))
fit_all t key None h = tt
fit_all t key (Some row) h = h.0

stand_under : (t : TableDef) (key : List ℕ) (row : Option Row) → FitsUnder t key row → IfSome row (StandsUnder t key)
stand_under t key None h = tt
stand_under t key (Some row) h = (h.1, h.0)

module _ (ds : Definitions) (maps : ℕ → Map) (state : State) (c : Contents) (held : IsHeld ds maps state c) (are : AreNumbered ds) (number : ℕ) (key : List ℕ) (t : TableDef) (is : table_of ds number ≡ Some t) where
  own_number : t.number ≡ number
  own_number = table_number ds number t are is

  its_table : table_of ds t.number ≡ Some t
  its_table = ap (table_of ds) own_number ∙ is

  pub bytes_there : get (maps number) key ≡ stored t (get c.rows (number, key))
  bytes_there = subst (λ n. get (maps n) key ≡ stored t (get c.rows (n, key))) own_number ((held.tables t its_table).primary.same key)

  pub stands_there : (row : Option Row) → get c.rows (number, key) ≡ row → IfSome row (StandsUnder t key)
  stands_there None e = tt
  stands_there (Some row) e = (held.tables t its_table).primary.fitting key row (ap (λ n. get c.rows (n, key)) own_number ∙ e)

  fits_there : (row : Option Row) → get c.rows (number, key) ≡ row → IfSome row (FitAll (kinds_of t))
  fits_there row e = fit_all t key row (stands_there row e)

  pub row_is : (row : Option Row) → OneSpelling value_bytes → IfSome row (FitAll (kinds_of t)) → get (maps number) key ≡ stored t row → get c.rows (number, key) ≡ row
  row_is row law fits e = same_row t (get c.rows (number, key)) row law (fits_there (get c.rows (number, key)) refl) fits (sym bytes_there ∙ e)

  module _ (one other : Option Row) (under : AreRowsUnder key one other t) where
    abbrev change : Change
    change = record { table = number; key = key; before = one; after = other }

    pub is_change : get c.rows (number, key) ≡ one → one ≢ other → IsLimited (schema_of ds) → (limit : Option ℕ) → limit ≡ None → IsTableAnd ds number (IsChange ds change maps limit)
    is_change there differ limited limit unlimited = (
      t,
      is,
      record {
        there = record { rows = c.rows; held = held.tables t its_table; is = ap (λ n. get c.rows (n, key)) own_number ∙ there };
        row_after = under.other_stands;
        differ = differ;
        can_hold = each_held ds are limited t its_table key other one under.other_stands;
        within = subst (λ l. IsWithin l (used maps + sizes (made_by ds change t) - sizes (gone_by ds change t))) (sym unlimited) tt;
      },
    )

    pub put_held : (new : ℕ → Map) → SetsRow ds number key other maps new → Sets ds key one other maps new t → IsHeld ds new state (with_rows c (write c.rows (number, key) other))
    put_held new holds sets =
        rows_changed ds maps new state c (write c.rows (number, key) other) c.kept held (holds c.rows held.tables)
        (views_stay ds maps new number key one other t are is sets c.objects held.objects)
        (unused_stay ds maps new number key one other t are is sets c.objects held.objects)
        (λ q s. refl)

  -- a row in its own place changes nothing
  pub still_held : (row : Option Row) → get c.rows (number, key) ≡ row → IsHeld ds maps state (with_rows c (write c.rows (number, key) row))
  still_held row there = subst (λ rows. IsHeld ds maps state (with_rows c rows)) (sym (write_there place_cmp_total place_cmp-IsAntisymmetric c.rows (number, key) row there)) held

-- a change that fits the schema is of a table of the catalog
pub of_change : (ds : Definitions) (maps : ℕ → Map) (state : State) (c : Contents) → IsHeld ds maps state c → (change : RowChange) → fitting.IsChange (schema_of ds) change
    → (t : TableDef) × (table_of ds change.key.0 ≡ Some t) × AreRowsUnder change.key.1 change.before change.after t
of_change ds maps state c held change fits = (
  fits.of,
  table_is ds maps state c held change.key.0 fits.of (subst (λ objects. numbered objects change.key.0 ≡ Some (table fits.of)) held.objects fits.table_is),
  record { one_stands = stand_under fits.of change.key.1 change.before fits.before; other_stands = stand_under fits.of change.key.1 change.after fits.after },
)
