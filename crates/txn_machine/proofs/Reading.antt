-- What a table or an index has in an interval depends on the rows alone that it has there.
use Rattle.std.specs.Prelude.{◌≡◌, ◌≢◌, ℕ, ◌==◌, ◌&&◌, cond, Bool, true, false, List, [], ◌∷◌, map, filter, Option, Some, None}
use Rattle.std.specs.Option.{option_map, option_and_then}
use mathlib.Core.Path.{refl, sym, ap, ◌∙◌}
use Rattle.std.proofs.Common.{eq-eqb, eqb-true}
use Rattle.std.proofs.lemmas.Bool.{ne_eqb, false≢true}
use Rattle.std.specs.declared.cmp.Ordering.{Ordering}
use Rattle.std.specs.declared.cmp.Ordering.TheVariants.{Equal}
use Rattle.std.specs.Ordering.{nat_cmp}
use Rattle.std.specs.Cmp.Lexicographic.{slice_cmp, nat_list_cmp_total}
use Rattle.std.specs.FinMap.{get, entries, from_entries, retain_keys, get-from_entries, get-retain_keys, IsAntisymmetric, nat_cmp-IsAntisymmetric, slice_cmp-IsAntisymmetric}
use Rattle.std.specs.FinMap.Entries.{where_key, find-where_key}
use Rattle.iv_types.specs.declared.value.Interval.{Interval}
use Rattle.iv_types.specs.declared.catalog.TableDef.{TableDef}
use Rattle.iv_types.specs.declared.catalog.IndexDef.{IndexDef}
use Rattle.iv_types.specs.Intervals.{LiesIn}
use Rattle.table_laws.specs.Place.{Place}
use Rattle.table_laws.specs.Table.{rows_where}
use Rattle.table_laws.specs.Sums.{passing}
use Rattle.table_laws.proofs.Tables.{passing_some, passing_true, rows_where_same, same_table, entries-retain_keys}
use Rattle.table_laws.proofs.Place.{place_cmp_total, place_cmp-IsAntisymmetric}
use Rattle.iv_meaning.specs.Schema.{Schema, Object, table, index, numbered, as_table}
use Rattle.iv_meaning.specs.Database.{Row, Rows, rows_of, key_of}
use Rattle.iv_types.specs.Encoding.{lies_in}
use Rattle.iv_meaning.specs.View.{index_key, rows_between, index_rows, object_rows, read}
use Rattle.iv_meaning.specs.Sound.{IsRow}
use Rattle.txn_machine.specs.Entries.{secondary_key, entry_key, AgreeAt}
use Rattle.txn_machine.specs.ViewLaws.{AreSound}
use Rattle.txn_machine.proofs.Agreeing.{same_option, agree_back}

abbrev key_cmp : List ℕ → List ℕ → Ordering
key_cmp = slice_cmp nat_cmp

key_exact : IsAntisymmetric key_cmp
key_exact = slice_cmp-IsAntisymmetric nat_cmp-IsAntisymmetric

-- ---- two tests

pub both_true : (a b : Bool) → (a && b) ≡ true → (a ≡ true) × (b ≡ true)
both_true true b h = (refl, h)
both_true false b h = absurd (false≢true h)

-- ---- only the rows of the interval matter

abbrev keyed : (Row → List ℕ) → List Row → List (List ℕ × Row)
keyed key rows = map (λ row. (key row, row)) rows

keyed_where : (key : Row → List ℕ) (p : List ℕ → Bool) (rows : List Row) → where_key key_cmp p (keyed key rows) ≡ keyed key (filter (λ row. p (key row)) rows)
keyed_where key p [] = refl
keyed_where key p (row ∷ rows) = elim (p (key row)) as (λ b. cond b ((key row, row) ∷ where_key key_cmp p (keyed key rows)) (where_key key_cmp p (keyed key rows)) ≡ keyed key (cond b (row ∷ filter (λ row. p (key row)) rows) (filter (λ row. p (key row)) rows))) [
  | true ↦ ap (λ (l : List (List ℕ × Row)). (key row, row) ∷ l) (keyed_where key p rows)
  | false ↦ keyed_where key p rows
]

alike : (p : List ℕ → Bool) (q x : List ℕ) → key_cmp q x ≡ Equal → p x ≡ p q
alike p q x e = ap p (sym (key_exact q x e))

kept_where : (p : List ℕ → Bool) (es : List (List ℕ × Row)) → where_key key_cmp p (entries (from_entries {R = key_cmp} es)) ≡ entries (from_entries {R = key_cmp} (where_key key_cmp p es))
kept_where p es =
    sym (entries-retain_keys nat_list_cmp_total key_exact (from_entries {R = key_cmp} es) p)
    ∙ ap entries (same_table nat_list_cmp_total key_exact (retain_keys (from_entries {R = key_cmp} es) p) (from_entries {R = key_cmp} (where_key key_cmp p es)) (λ q.
    get-retain_keys (from_entries {R = key_cmp} es) p q (alike p q)
    ∙ (ap (λ (o : Option Row). cond (p q) o None) (get-from_entries nat_list_cmp_total es q)
    ∙ (sym (find-where_key key_cmp p q (alike p q) es) ∙ sym (get-from_entries nat_list_cmp_total (where_key key_cmp p es) q)))))

pub between_rows : (key : Row → List ℕ) (interval : Interval) (rows : List Row)
    → rows_between key interval rows ≡ map (λ (e : List ℕ × Row). e.1) (entries (from_entries {R = key_cmp} (keyed key (filter (λ row. lies_in (key row) interval) rows))))
between_rows key interval rows =
    ap (map (λ (e : List ℕ × Row). e.1)) (kept_where (λ k. lies_in k interval) (keyed key rows))
    ∙ ap (λ (l : List (List ℕ × Row)). map (λ (e : List ℕ × Row). e.1) (entries (from_entries {R = key_cmp} l))) (keyed_where key (λ k. lies_in k interval) rows)

pub filter_rows : (n : ℕ) (p : Row → Bool) (es : List (Place × Row)) → filter p (map (λ (e : Place × Row). e.1) (rows_where (λ place row. place.0 == n) es)) ≡ map (λ (e : Place × Row). e.1) (rows_where (λ place row. (place.0 == n) && p row) es)
filter_rows n p [] = refl
filter_rows n p (e ∷ es) =
    elim (e.0.0 == n) as (λ b. filter p (map (λ (e : Place × Row). e.1) (cond b (e ∷ rows_where (λ place row. place.0 == n) es) (rows_where (λ place row. place.0 == n) es)))
    ≡ map (λ (e : Place × Row). e.1) (cond (b && p e.1) (e ∷ rows_where (λ place row. (place.0 == n) && p row) es) (rows_where (λ place row. (place.0 == n) && p row) es))) [
      | false ↦ filter_rows n p es
      | true ↦ elim (p e.1) as (λ b. cond b (e.1 ∷ filter p (map (λ (e : Place × Row). e.1) (rows_where (λ place row. place.0 == n) es))) (filter p (map (λ (e : Place × Row). e.1) (rows_where (λ place row. place.0 == n) es)))
          ≡ map (λ (e : Place × Row). e.1) (cond b (e ∷ rows_where (λ place row. (place.0 == n) && p row) es) (rows_where (λ place row. (place.0 == n) && p row) es))) [
            | true ↦ ap (λ (l : List Row). e.1 ∷ l) (filter_rows n p es)
            | false ↦ filter_rows n p es
          ]
    ]

-- what passes in one passes in the other
pub same_passing : (p : Row → Bool) (o u : Option Row) → ((x : Row) → o ≡ Some x → p x ≡ true → u ≡ Some x) → ((x : Row) → u ≡ Some x → p x ≡ true → o ≡ Some x) → passing p o ≡ passing p u
same_passing p o u f g = same_option (passing p o) (passing p u)
    (λ x e. let h = passing_some p o x e in passing_true p u x (f x h.0 h.1) h.1)
    (λ x e. let h = passing_some p u x e in passing_true p o x (g x h.0 h.1) h.1)

-- rows of a table by a key that is their entry's in an index
between_same : (objects : Schema) (number n : ℕ) (key : Row → List ℕ) (interval : Interval) (one other : Rows)
    → ((place : Place) (row : Row) → place.0 ≡ n → get one place ≡ Some row → entry_key objects number place row ≡ Some (key row))
    → ((place : Place) (row : Row) → place.0 ≡ n → get other place ≡ Some row → entry_key objects number place row ≡ Some (key row))
    → ((k : List ℕ) → LiesIn k interval → AgreeAt objects number k one other)
    → rows_between key interval (rows_of one n) ≡ rows_between key interval (rows_of other n)
between_same objects number n key interval one other entry_one entry_other agree =
    let test : Place → Row → Bool = λ place row. (place.0 == n) && lies_in (key row) interval in
    let crossed : (a b : Rows) → ((place : Place) (row : Row) → place.0 ≡ n → get a place ≡ Some row → entry_key objects number place row ≡ Some (key row)) → ((k : List ℕ) → LiesIn k interval → AgreeAt objects number k a b)
    → (place : Place) (row : Row) → get a place ≡ Some row → test place row ≡ true → get b place ≡ Some row =
    λ a b entry ag place row e t.
    let parts = both_true (place.0 == n) (lies_in (key row) interval) t in
    (ag (key row) parts.1).there place row (entry place row (eqb-true place.0 n parts.0) e) e in
    between_rows key interval (rows_of one n)
    ∙ (ap (λ (l : List Row). map (λ (e : List ℕ × Row). e.1) (entries (from_entries {R = key_cmp} (keyed key l))))
    (filter_rows n (λ row. lies_in (key row) interval) (entries one)
    ∙ (ap (map (λ (e : Place × Row). e.1)) (rows_where_same place_cmp_total place_cmp-IsAntisymmetric test one other (λ place. same_passing (test place) (get one place) (get other place)
    (λ row e t. crossed one other entry_one agree place row e t)
    (λ row e t. crossed other one entry_other (λ k l. agree_back objects number k one other (agree k l)) place row e t)))
    ∙ sym (filter_rows n (λ row. lies_in (key row) interval) (entries other))))
    ∙ sym (between_rows key interval (rows_of other n)))

same_table_def : (t u : TableDef) → Some (table t) ≡ Some (table u) → t ≡ u
same_table_def t u e = cc

not_index : (t : TableDef) (i : IndexDef) → Some (table t) ≡ Some (index i) → ⊥
not_index t i e = cc

module _ (objects : Schema) (rows : Rows) (sound : AreSound objects rows) where
  -- a row's place has its primary key
  pub table_entry : (n : ℕ) (t : TableDef) → numbered objects n ≡ Some (table t) → (place : Place) (row : Row) → place.0 ≡ n → get rows place ≡ Some row → entry_key objects n place row ≡ Some (key_of t row)
  unfolding entry_key
  table_entry n t of place row e g =
      let is : IsRow objects place row = sound.rows place row g in
      let same : is.of ≡ t = same_table_def is.of t (sym is.table_is ∙ (ap (numbered objects) e ∙ of)) in
      ap (λ b. cond b (Some place.1) (secondary_key objects (numbered objects n) place row)) (eq-eqb n place.0 (sym e)) ∙ ap Some (is.key ∙ ap (λ (u : TableDef). key_of u row) same)

  pub index_entry : (n : ℕ) (i : IndexDef) (t : TableDef) → numbered objects n ≡ Some (index i) → numbered objects i.table ≡ Some (table t) → (place : Place) (row : Row) → place.0 ≡ i.table → get rows place ≡ Some row → entry_key objects n place row ≡ Some (index_key t i row)
  unfolding entry_key
  index_entry n i t of table_is place row e g =
      let apart : n ≢ place.0 = λ k. not_index t i (sym table_is ∙ (ap (numbered objects) (sym e ∙ sym k) ∙ of)) in
      ap (λ b. cond b (Some place.1) (secondary_key objects (numbered objects n) place row)) (ne_eqb n place.0 apart)
      ∙ (ap (λ (o : Option Object). secondary_key objects o place row) of
      ∙ (ap (λ b. cond b (option_map (λ (u : TableDef). index_key u i row) (option_and_then as_table (numbered objects place.0))) None) (eq-eqb i.table place.0 (sym e))
      ∙ ap (λ (o : Option Object). option_map (λ (u : TableDef). index_key u i row) (option_and_then as_table o)) (ap (numbered objects) e ∙ table_is)))

-- an index of a table, or a table's own
pub data IsTableIndex (o : Option Object) : Type 0 where
  first : (t : TableDef) → o ≡ Some (table t) → IsTableIndex o
  secondary : (i : IndexDef) → o ≡ Some (index i) → IsTableIndex o

pub read_same : (objects : Schema) (a b : ℕ) (one other : Rows) → AreSound objects one → AreSound objects other → (n : ℕ) → IsTableIndex (numbered objects n) → (interval : Interval)
    → ((k : List ℕ) → LiesIn k interval → AgreeAt objects n k one other)
    → read (record { number = a; schema = objects; rows = one }) n interval ≡ read (record { number = b; schema = objects; rows = other }) n interval
read_same objects a b one other so ss n (first t of) interval agree =
    let number_is : t.number ≡ n = (so.objects n (table t) of).0 in
    ap (λ (o : Option Object). object_rows (record { number = a; schema = objects; rows = one }) o interval) of
    ∙ (ap (λ m. rows_between (key_of t) interval (rows_of one m)) number_is
    ∙ (between_same objects n n (key_of t) interval one other (table_entry objects one so n t of) (table_entry objects other ss n t of) agree
    ∙ sym (ap (λ m. rows_between (key_of t) interval (rows_of other m)) number_is))
    ∙ sym (ap (λ (o : Option Object). object_rows (record { number = b; schema = objects; rows = other }) o interval) of))
read_same objects a b one other so ss n (secondary i of) interval agree =
    let is = (so.objects n (index i) of).1 in
    let number_is : is.of.number ≡ i.table = (so.objects i.table (table is.of) is.table_is).0 in
    ap (λ (o : Option Object). object_rows (record { number = a; schema = objects; rows = one }) o interval) of
    ∙ (ap (λ (o : Option Object). index_rows (record { number = a; schema = objects; rows = one }) i o interval) is.table_is
    ∙ (ap (λ m. rows_between (index_key is.of i) interval (rows_of one m)) number_is
    ∙ (between_same objects n i.table (index_key is.of i) interval one other (index_entry objects one so n i is.of of is.table_is) (index_entry objects other ss n i is.of of is.table_is) agree
    ∙ (sym (ap (λ m. rows_between (index_key is.of i) interval (rows_of other m)) number_is)
    ∙ sym (ap (λ (o : Option Object). index_rows (record { number = b; schema = objects; rows = other }) i o interval) is.table_is))))
    ∙ sym (ap (λ (o : Option Object). object_rows (record { number = b; schema = objects; rows = other }) o interval) of))
