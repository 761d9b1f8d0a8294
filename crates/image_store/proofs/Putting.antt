-- A store with one row more, of a table or of a view.
use Rattle.std.specs.Prelude.{◌≡◌, ℕ, zero, suc, ◌+◌, ◌-◌, pos, List, [], length, get_or, Option, Some, None, IsSome}
use Rattle.std.specs.List.{AllByRecursion}
use Rattle.std.specs.Option.{option_map}
use Rattle.std.specs.FinMap.{get, insert, empty, get-empty}
use Rattle.std.specs.Ordering.{nat_cmp}
use Rattle.std.specs.Cmp.Lexicographic.{slice_cmp}
use mathlib.Core.Path.{refl, sym, ap, subst, ◌∙◌}
use Rattle.iv_types.specs.Maps.{Map, IsWithin, used}
use Rattle.iv_types.specs.Definitions.{Definitions, AreNumbered}
use Rattle.iv_types.specs.declared.lock.Change.{Change}
use Rattle.iv_types.specs.Encoding.{IsHuge}
use Rattle.table_laws.specs.Place.{Place, place_cmp}
use Rattle.iv_meaning.specs.Database.{Row}
use Rattle.iv_meaning.specs.Objects.{schema_of}
use Rattle.query_laws.specs.Limited.{IsLimited}
use Rattle.txn_machine.specs.Stored.{zeros}
use Rattle.txn_machine.proofs.Ranging.{huge_zero}
use Rattle.txn_machine.specs.ViewLaws.{AreSound}
use Rattle.table_store.specs.Stored.{table_of, IsTableAnd}
use Rattle.table_store.specs.Changes.{IsChange, Sets, SetsRow, sizes, made_by, gone_by}
use Rattle.table_store.proofs.TableIndexes.{table_number}
use Rattle.ghost_rows.specs.Numbers.{numbers_bytes}
use Rattle.ghost_rows.specs.Rows.{OpenRow, OpenRows, no_rows, row_at}
use Rattle.ghost_rows.specs.Kept.{StandsFor}
use Rattle.ghost_rows.specs.State.{State, stored_at}
use Rattle.ghost_rows.proofs.GhostLemmas.{zeros_long}
use Rattle.data_store.specs.Contents.{Contents}
use Rattle.data_store.specs.Held.{IsHeld}
use Rattle.data_changes.proofs.Frames.{rows_changed, views_stay, unused_stay}
use Rattle.data_room.proofs.Entries.{each_held}
use Rattle.image_store.specs.Filled.{IsFilled, IsNewRow, with_row}
use Rattle.image_store.proofs.Entries.{of_none}

-- ---- no rows

zeros_huge : (k : ℕ) → AllByRecursion IsHuge (zeros k)
zeros_huge zero = tt
zeros_huge (suc k) = (huge_zero, zeros_huge k)

zeros_zero : (k : ℕ) → AllByRecursion (λ n. n ≡ pos 0) (zeros k)
zeros_zero zero = tt
zeros_zero (suc k) = (refl, zeros_zero k)

-- on no row nothing is kept
none_kept : (o : Option OpenRow) (stored : Option (List ℕ)) (width : ℕ) → o ≡ None → stored ≡ None → StandsFor o stored width (λ session. [])
none_kept o stored width closed absent =
    subst (λ x. StandsFor x stored width (λ session. [])) (sym closed) (subst (λ x. StandsFor None x width (λ session. [])) (sym absent) (record {
      numbers = zeros width;
      has = record { many = zeros_long width; huge = zeros_huge width; bytes = tt; zeros = λ e. zeros_zero width };
      row = tt;
      closed = λ e s. refl;
      absent = λ e s. refl;
    }))

nothing : (key : List ℕ) → get (empty {X = List ℕ} {R = slice_cmp nat_cmp}) key ≡ None
nothing key = get-empty (slice_cmp nat_cmp) key

module _ (ds : Definitions) (maps : ℕ → Map) (state : State) (bare : (index : ℕ) → maps index ≡ empty) (closed : state.rows ≡ no_rows) (sound : AreSound (schema_of ds) empty) where
  not_stored : (place : Place) → stored_at maps place ≡ None
  not_stored place = ap (λ (m : Map). get m place.1) (bare place.0) ∙ nothing place.1

  empty_held : IsHeld ds maps state (record { objects = schema_of ds; rows = empty; view = empty; kept = λ session. []; texts = Some empty })
  empty_held = record {
    objects = refl;
    tables = λ t is. record {
      primary = record {
        same = λ key. not_stored (t.number, key) ∙ sym (ap (option_map _) (get-empty place_cmp (t.number, key)));
        fitting = λ key row there. absurd (let no : None ≡ Some row = sym (get-empty place_cmp (t.number, key)) ∙ there in cc);
      };
      others = λ i of. record {
        each = λ key row there. absurd (let no : None ≡ Some row = sym (get-empty place_cmp (t.number, key)) ∙ there in cc);
        only = λ at value there. absurd (let no : None ≡ Some value = sym (not_stored (i.number, at)) ∙ there in cc);
      };
    };
    views = λ n v is group. not_stored (n, group) ∙ sym (ap (option_map numbers_bytes) (get-empty place_cmp (n, group)));
    in_range = λ n v is group numbers there. absurd (let no : None ≡ Some numbers = sym (get-empty place_cmp (n, group)) ∙ there in cc);
    pays = λ n v is group. none_kept (row_at state.rows (n, group)) (stored_at maps (n, group)) (suc (length v.sums)) (ap (λ (rows : OpenRows). row_at rows (n, group)) closed ∙ get-empty place_cmp (n, group)) (not_stored (n, group));
    ghosts = λ n v is group ghost. absurd (let no = subst IsSome (not_stored (n, group)) ghost.there in cc);
    texts = bare 0;
    unused = λ index other none. bare index;
  }

  pub empty_filled : IsFilled empty ds maps state
  empty_filled = record {
    pages = record { db = record { number = 0; schema = schema_of ds; rows = empty }; view = empty };
    held = empty_held;
    entries = of_none (schema_of ds);
    proper = record {
      sound = sound;
      stored = λ place numbers there. absurd (let no : None ≡ Some numbers = sym (get-empty place_cmp place) ∙ there in cc);
      in_range = λ place column. subst (λ o. IsHuge (Rattle.std.specs.Option.option_map_or (λ numbers. get_or numbers column (pos 0)) o (pos 0))) (sym (get-empty place_cmp place)) huge_zero;
    };
    closed = closed;
  }

-- ---- a row of a table

module _ (ds : Definitions) (maps : ℕ → Map) (state : State) (table : ℕ) (key : List ℕ) (row : Row) (c : Contents) (n : IsNewRow ds maps state (table, key) row c) (are : AreNumbered ds) where
  own_number : n.of.number ≡ table
  own_number = table_number ds table n.of are n.table_is

  its_table : table_of ds n.of.number ≡ Some n.of
  its_table = ap (table_of ds) own_number ∙ n.table_is

  abbrev change : Change
  change = record { table = table; key = key; before = None; after = Some row }

  pub is_change : IsLimited (schema_of ds) → (limit : Option ℕ) → limit ≡ None → IsTableAnd ds table (IsChange ds change maps limit)
  is_change limited limit unlimited = (
    n.of,
    n.table_is,
    record {
      there = record { rows = c.rows; held = n.held.tables n.of its_table; is = ap (λ (k : ℕ). get c.rows (k, key)) own_number ∙ n.absent };
      row_after = n.stands;
      differ = λ e. absurd (let no : None ≡ Some row = e in cc);
      can_hold = each_held ds are limited n.of its_table key (Some row) None n.stands;
      within = subst (λ l. IsWithin l (used maps + sizes (made_by ds change n.of) - sizes (gone_by ds change n.of))) (sym unlimited) tt;
    },
  )

  pub row_held : (new : ℕ → Map) → SetsRow ds table key (Some row) maps new → Sets ds key None (Some row) maps new n.of → IsHeld ds new state (with_row c (table, key) row)
  row_held new holds sets =
      rows_changed ds maps new state c (insert c.rows (table, key) row) c.kept n.held (holds c.rows n.held.tables)
      (views_stay ds maps new table key None (Some row) n.of are n.table_is sets c.objects n.held.objects)
      (unused_stay ds maps new table key None (Some row) n.of are n.table_is sets c.objects n.held.objects)
      (λ q s. refl)
