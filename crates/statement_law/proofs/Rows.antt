-- Rows of a table under their keys: what the point of a key has, rows of different keys, and rows that are set.
use Rattle.std.specs.Prelude.{◌≡◌, ◌≢◌, ℕ, zero, suc, Bool, true, false, cond, T, List, [], ◌∷◌, filter, Option, Some, None, Contains}
use Rattle.std.specs.List.{AllByRecursion}
use mathlib.Core.Path.{refl, sym, ap, subst, ◌∙◌}
use Rattle.std.proofs.Common.{arith, eq-eqb}
use Rattle.std.proofs.lemmas.List.Elements.{All-weaker, All-contains_itself, recursion_from_All}
use Rattle.std.specs.FinMap.{get, entries}
use Rattle.std.specs.Cmp.{tied_itself}
use Rattle.iv_types.specs.declared.catalog.TableDef.{TableDef}
use Rattle.iv_types.specs.Encoding.{kinds_of, FitAll, lies_in}
use Rattle.iv_types.specs.Intervals.{point}
use Rattle.iv_types.specs.declared.value.Interval.{Interval}
use Rattle.table_laws.specs.Place.{Place}
use Rattle.table_laws.specs.Table.{write, rows_where}
use Rattle.table_laws.proofs.Place.{place_cmp_total, place_cmp-IsAntisymmetric}
use Rattle.table_laws.proofs.Tables.{Contains-rows_where}
use Rattle.iv_meaning.specs.Schema.{Schema, table, numbered}
use Rattle.iv_meaning.specs.Database.{Row, Rows, Database, rows_of, key_of}
use Rattle.iv_meaning.specs.View.{read, object_rows}
use Rattle.iv_meaning.specs.Sound.{IsSound, IsRow}
use Rattle.row_codec.proofs.RangeLaws.{alone}
use Rattle.query_laws.specs.Laws.{Rises, IsBefore}
use Rattle.query_laws.proofs.Each.{each_filtered}
use Rattle.query_laws.proofs.Rising.{BeforeAll, first_before, rest_rises, before_less, between_rising, key_cmp, key_total}
use Rattle.query_laws.proofs.TableRows.{rows_rise, listed_there, row_there, in_table}
use Rattle.txn_machine.specs.ViewLaws.{AreSound}
use Rattle.txn_machine.specs.May.{FitsUnder}
use Rattle.txn_machine.proofs.Entered.{sound_after}
use Rattle.txn_machine.proofs.Holding.{contains_map}

pub is_sound : (db : Database) → AreSound db.schema db.rows → IsSound db
is_sound db h = record { objects = h.objects; rows = h.rows }

-- ---- different keys

-- things of which no two have one key
abbrev pub Apart : {X : Type 0} → (X → List ℕ) → List X → Type 0
Apart key [] = Unit {0}
Apart key (x ∷ xs) = AllByRecursion (λ y. key y ≢ key x) xs × Apart key xs

pub apart_filter : {X : Type 0} (key : X → List ℕ) (test : X → Bool) (xs : List X) → Apart key xs → Apart key (filter test xs)
apart_filter key test [] h = tt
apart_filter {X} key test (x ∷ xs) h =
    let rest = apart_filter key test xs h.1 in
    elim (test x) as (λ b. Apart key (cond b (x ∷ filter test xs) (filter test xs))) [
      | true ↦ (each_filtered (λ (y : X). key y ≢ key x) test xs h.0, rest)
      | false ↦ rest
    ]

before_differs : (a b : List ℕ) → IsBefore a b → b ≢ a
before_differs a b h e = cc (sym (before_less a b h) ∙ (ap (key_cmp a) e ∙ tied_itself key_total a))

pub rises_apart : (key : Row → List ℕ) (rows : List Row) → Rises key rows → Apart key rows
rises_apart key [] h = tt
rises_apart key (row ∷ rows) h = (all rows (first_before key row rows h), rises_apart key rows (rest_rises key row rows h))
  where
    all : (others : List Row) → BeforeAll key (key row) others → AllByRecursion (λ r. key r ≢ key row) others
    all [] b = tt
    all (r ∷ others) b = (before_differs (key row) (key r) b.0, all others b.1)

-- ---- what the point of a key has

is_true : (b : Bool) → T b → b ≡ true
is_true true h = refl
is_true false h = absurd h

-- where no row has the key, none is in its point
none_inside : (key : Row → List ℕ) (k : List ℕ) (rows : List Row) → AllByRecursion (λ r. key r ≢ k) rows → filter (λ r. lies_in (key r) (point k)) rows ≡ []
none_inside key k [] h = refl
none_inside key k (row ∷ rows) h =
    elim (lies_in (key row) (point k)) as (λ b. lies_in (key row) (point k) ≡ b → cond b (row ∷ filter (λ r. lies_in (key r) (point k)) rows) (filter (λ r. lies_in (key r) (point k)) rows) ≡ []) [
      | true ↦ λ e. absurd (h.0 ((alone k (key row)).0 e))
      | false ↦ λ e. none_inside key k rows h.1
    ] refl

some_filtered : (test : Row → Bool) (rows : List Row) (row : Row) → Contains rows row → test row ≡ true → filter test rows ≡ [] → ⊥
some_filtered test [] row c h e = omega (arith, c.1)
some_filtered test (r ∷ rows) row (zero, lt, is) h e =
    let x : row ∷ filter test rows ≡ [] = sym (ap (λ b. cond b (row ∷ filter test rows) (filter test rows)) h) ∙ (ap (λ q. cond (test q) (q ∷ filter test rows) (filter test rows)) (sym is) ∙ e) in
    absurd (cc)
some_filtered test (r ∷ rows) row (suc k, lt, is) h e =
    let rest : filter test rows ≡ [] → ⊥ = some_filtered test rows row (k, omega (arith, lt), is) h in
    rest (elim (test r) as (λ b. cond b (r ∷ filter test rows) (filter test rows) ≡ [] → filter test rows ≡ []) [ true ↦ λ x. absurd (cc) | false ↦ λ x. x ] e)

-- The rows of a table of a sound database.
module _ (db : Database) (sound : IsSound db) (t : TableDef) (is : numbered db.schema t.number ≡ Some (table t)) where
  pub inside_is : (interval : Interval) → read db t.number interval ≡ filter (λ r. lies_in (key_of t r) interval) (rows_of db.rows t.number)
  inside_is interval = ap (λ o. object_rows db o interval) is ∙ between_rising (key_of t) interval (rows_of db.rows t.number) (rows_rise db sound t.number t is)

  -- what holds under each key holds of each row
  pub of_listed : (P : Row → Type 0) → ((row : Row) → get db.rows (t.number, key_of t row) ≡ Some row → P row) → AllByRecursion P (rows_of db.rows t.number)
  of_listed P f =
      recursion_from_All P (rows_of db.rows t.number)
      (All-weaker (Contains (rows_of db.rows t.number)) P (λ row c. f row (listed_there db sound t.number t is row c)) (rows_of db.rows t.number) (All-contains_itself (rows_of db.rows t.number)))

  -- the rows have different keys
  pub rows_apart : Apart (key_of t) (rows_of db.rows t.number)
  rows_apart = rises_apart (key_of t) (rows_of db.rows t.number) (rows_rise db sound t.number t is)

  -- no row is found where none is there
  pub point_none : (k : List ℕ) → get db.rows (t.number, k) ≡ None → read db t.number (point k) ≡ []
  point_none k none = inside_is (point k)
      ∙ none_inside (key_of t) k (rows_of db.rows t.number) (of_listed (λ r. key_of t r ≢ k) (λ row there e. let x = sym (ap (λ q. get db.rows (t.number, q)) e ∙ none) ∙ there in cc))

  -- and one is where it is
  pub point_some : (k : List ℕ) (row : Row) → get db.rows (t.number, k) ≡ Some row → read db t.number (point k) ≡ [] → ⊥
  point_some k row there e =
      let placed = row_there db sound t.number t is (t.number, k) row there refl in
      let key : k ≡ key_of t row = ap (λ (p : Place). p.1) placed.0 in
      let entry = (Contains-rows_where place_cmp_total place_cmp-IsAntisymmetric (in_table t.number) db.rows (t.number, k) row).1 (there, eq-eqb t.number t.number refl) in
      let listed : Contains (rows_of db.rows t.number) row = contains_map (λ (e : Place × Row). e.1) (rows_where (in_table t.number) (entries db.rows)) ((t.number, k), row) entry in
      some_filtered (λ r. lies_in (key_of t r) (point k)) (rows_of db.rows t.number) row listed
      ((alone k (key_of t row)).1 (sym key)) (sym (inside_is (point k)) ∙ e)

-- ---- rows that are set

pub put_sound : (objects : Schema) (rows : Rows) → AreSound objects rows → (n : ℕ) (t : TableDef) → numbered objects n ≡ Some (table t) → (key : List ℕ) (new : Option Row) → FitsUnder t key new
    → AreSound objects (write rows (n, key) new)
put_sound objects rows sound n t is key new fits = sound_after objects rows (record { key = (n, key); before = None; after = new }) sound (proper new fits)
  where
    proper : (new : Option Row) → FitsUnder t key new → (row : Row) → new ≡ Some row → IsRow objects (n, key) row
    proper None f row e = absurd (cc)
    proper (Some r) f row e =
        let same : r ≡ row = cc in
        record { of = t; table_is = is; key = f.0 ∙ ap (key_of t) same; fits = subst (FitAll (kinds_of t)) same f.1 }
