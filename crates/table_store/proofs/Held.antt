-- Maps that hold the rows of all tables, read by the number of a table or of an index.
use Rattle.std.specs.Prelude.{◌≡◌, ℕ, zero, suc, Option, Some, None}
use Rattle.std.specs.Option.{option_map}
use mathlib.Core.Path.{refl, sym, ap, subst, ◌∙◌}
use mathlib.Core.Logic.{inl, inr}
use Rattle.std.proofs.lemmas.Option.{slice_get-map}
use Rattle.std.specs.FinMap.{get}
use Rattle.iv_types.specs.declared.catalog.TableDef.{TableDef}
use Rattle.iv_types.specs.declared.catalog.IndexDef.{IndexDef}
use Rattle.iv_types.specs.declared.catalog.Definition.{Definition}
use Rattle.iv_types.specs.declared.catalog.Definition.TheVariants.{Table, Index, View}
use Rattle.iv_types.specs.Definitions.{Definitions, AreNumbered, number_of, numbered}
use Rattle.iv_types.specs.Maps.{Map}
use Rattle.iv_meaning.specs.Schema as schema
use Rattle.iv_meaning.specs.Objects.{object_of, schema_of}
use Rattle.iv_meaning.specs.Database.{Rows}
use Rattle.table_store.specs.Stored.{stored, as_table, as_index, table_of, index_of, StandsUnder, HoldsTable, HoldsIndex, IsOfRow, Holds, AreEntries, CanRead, HoldsRead}
use Rattle.table_store.proofs.Staging.{hold_rows}
use Rattle.table_store.proofs.TableIndexes.{table_number}

-- ---- tables and indexes by their numbers

index_at : (d : Option Definition) (n : ℕ) (i : IndexDef) → ((e : Definition) → d ≡ Some e → number_of e ≡ n) → as_index d ≡ Some i → i.number ≡ n
index_at None n i h is = absurd (cc)
index_at (Some (Index j)) n i h is = let same : i ≡ j = cc in ap (λ (x : IndexDef). x.number) same ∙ h (Index j) refl
index_at (Some (Table t)) n i h is = absurd (cc)
index_at (Some (View v)) n i h is = absurd (cc)

pub index_number : (ds : Definitions) (n : ℕ) (i : IndexDef) → AreNumbered ds → index_of ds n ≡ Some i → i.number ≡ n
index_number ds n i h is = index_at (numbered ds n) n i (h n) is

-- the object of a number
pub alike : (ds : Definitions) (n : ℕ) → schema.numbered (schema_of ds) n ≡ option_map object_of (numbered ds n)
alike ds zero = refl
alike ds (suc n) = slice_get-map object_of ds n

a_table : (o : Option Definition) (t : TableDef) → option_map object_of o ≡ Some (schema.table t) → as_table o ≡ Some t
a_table None t e = absurd (cc)
a_table (Some (Table u)) t e = cc
a_table (Some (Index i)) t e = absurd (cc)
a_table (Some (View v)) t e = absurd (cc)

an_index : (o : Option Definition) (i : IndexDef) → option_map object_of o ≡ Some (schema.index i) → as_index o ≡ Some i
an_index None i e = absurd (cc)
an_index (Some (Table u)) i e = absurd (cc)
an_index (Some (Index j)) i e = cc
an_index (Some (View v)) i e = absurd (cc)

pub of_table : (ds : Definitions) (n : ℕ) (t : TableDef) → schema.numbered (schema_of ds) n ≡ Some (schema.table t) → table_of ds n ≡ Some t
of_table ds n t e = a_table (numbered ds n) t (sym (alike ds n) ∙ e)

pub of_index : (ds : Definitions) (n : ℕ) (i : IndexDef) → schema.numbered (schema_of ds) n ≡ Some (schema.index i) → index_of ds n ≡ Some i
of_index ds n i e = an_index (numbered ds n) i (sym (alike ds n) ∙ e)

-- ---- what can be read

module _ (ds : Definitions) (rows : Rows) (maps : ℕ → Map) (are : AreNumbered ds) (holds : Holds ds rows maps) where
  table_held : (n : ℕ) (t : TableDef) → table_of ds n ≡ Some t → HoldsTable rows t (maps t.number)
  table_held n t is = (holds t (ap (table_of ds) (table_number ds n t are is) ∙ is)).primary

  index_held : (n : ℕ) (i : IndexDef) (t : TableDef) → index_of ds n ≡ Some i → table_of ds i.table ≡ Some t → HoldsIndex rows t i (maps n)
  index_held n i t is of =
      let number : i.number ≡ n = index_number ds n i are is in
      let table_is : t.number ≡ i.table = table_number ds i.table t are of in
      subst (λ m. HoldsIndex rows t i (maps m)) number
      ((holds t (ap (table_of ds) table_is ∙ of)).others i (record { is = ap (index_of ds) number ∙ is; of_table = sym table_is }))

  pub hold_read : (n : ℕ) → HoldsRead ds rows maps n
  hold_read n = record {
    primary = λ t is. subst (λ m. HoldsTable rows t (maps m)) (table_number ds n t are is) (table_held n t is);
    secondary = λ i t is of. (table_held i.table t of, index_held n i t is of);
  }

  pub read_by_table : (n : ℕ) (t : TableDef) → table_of ds n ≡ Some t → CanRead ds maps n
  read_by_table n t is = inl (t, is, hold_rows ds rows maps n t is (table_number ds n t are is) holds)

  entries_are : (t : TableDef) (i : IndexDef) (m n : Map) → HoldsTable rows t m → HoldsIndex rows t i n → AreEntries t i m n
  entries_are t i m n table_is index_is at value there =
      let of : IsOfRow rows t i at value = index_is.only at value there in
      let under : StandsUnder t of.key of.row = table_is.fitting of.key of.row of.is_there in (
        of.row,
        record {
          fits = under.0;
          at_is = of.at_is;
          stands = ap (get m) (sym under.1) ∙ (table_is.same of.key ∙ ap (stored t) of.is_there);
        },
      )

  pub read_by_index : (n : ℕ) (i : IndexDef) (t : TableDef) → index_of ds n ≡ Some i → table_of ds i.table ≡ Some t → CanRead ds maps n
  read_by_index n i t is of = inr (i, is, (t, of, entries_are t i (maps t.number) (maps n) (table_held i.table t of) (index_held n i t is of)))
