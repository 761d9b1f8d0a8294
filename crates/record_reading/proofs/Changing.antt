-- Rows and changes that fit a table.
use Rattle.std.proofs.Common.{◌≡◌, ℕ, List, Option, Some, None, sym, ap, subst, ◌∙◌}
use Rattle.std.specs.Prelude.{IfNone}
use Rattle.std.specs.Option.{option_map}
use Rattle.iv_types.specs.declared.value.Kind.{Kind}
use Rattle.iv_types.specs.declared.catalog.TableDef.{TableDef}
use Rattle.table_laws.specs.Place.{Place}
use Rattle.iv_types.specs.Encoding.{kinds_of, row_bytes}
use Rattle.iv_meaning.specs.Schema.{Schema, table, numbered, kinds_of_table}
use Rattle.iv_meaning.specs.Database.{Row}
use Rattle.txn_machine.specs.Deltas.{RowChange}
use Rattle.txn_machine.specs.May.{FitsUnder}
use Rattle.txn_log.specs.Fitting.{IsKeyOf, IsChange}
use Rattle.record_reading.specs.declared.fault.ReadFault.{ReadFault}
use Rattle.record_reading.specs.declared.fault.ReadFault.TheVariants.{Misfit, NoMemory}
use Rattle.record_reading.specs.Changes.{Refuses, IsRowOf, IsChangeIn, HasBytes}

refuses : (P Q : Type 0) → (Q → P) → (fault : ReadFault) → Refuses P fault → Refuses Q fault
refuses P Q h Misfit none = λ q. none (h q)
refuses P Q h NoMemory none = tt

-- bytes are of some row
pub refuses_some : (t : TableDef) (key bytes : List ℕ) (fault : ReadFault) → Refuses ((row : Row) × IsRowOf t key (Some bytes) (Some row)) fault → Refuses ((row : Option Row) × IsRowOf t key (Some bytes) row) fault
refuses_some t key bytes = refuses ((row : Row) × IsRowOf t key (Some bytes) (Some row)) ((row : Option Row) × IsRowOf t key (Some bytes) row) (λ h. by h.0 h.1)
  where
    by : (row : Option Row) → IsRowOf t key (Some bytes) row → (r : Row) × IsRowOf t key (Some bytes) (Some r)
    by None h = absurd (let wrong = h.1 in cc)
    by (Some r) h = (r, h)

same_table : (t u : TableDef) → Some (table t) ≡ Some (table u) → t ≡ u
same_table t u e = cc

pub none_weaker : {X : Type 0} (P Q : Type 0) → (P → Q) → (found : Option X) → IfNone found P → IfNone found Q
none_weaker P Q f None h = f h
none_weaker P Q f (Some x) h = h

-- ---- beside definitions

module _ (objects : Schema) (n : ℕ) (key : List ℕ) (t : TableDef) (is : numbered objects n ≡ Some (table t)) (before after : Option (List ℕ)) (c : RowChange) where
  kinds_are : kinds_of_table (numbered objects n) ≡ kinds_of t
  kinds_are = ap kinds_of_table is

  pub change_in_table : IsChange objects c → HasBytes objects (n, key) before after c → IsChangeIn t (n, key) before after c
  change_in_table k h =
      let of : k.of ≡ t = same_table k.of t (sym k.table_is ∙ (ap (λ (p : Place). numbered objects p.0) h.place_is ∙ is)) in
      let Fit : TableDef → Place → Type 0 = λ u p. IsKeyOf u p.1 × FitsUnder u p.1 c.before × FitsUnder u p.1 c.after in
      let fit : Fit t (n, key) = subst (λ (u : TableDef). Fit u (n, key)) of (subst (Fit k.of) h.place_is (k.key, k.before, k.after)) in
      record {
        place_is = h.place_is;
        key = fit.0;
        was = (fit.1, h.was ∙ ap (λ (ks : List Kind). option_map (row_bytes ks) c.before) kinds_are);
        becomes = (fit.2, h.becomes ∙ ap (λ (ks : List Kind). option_map (row_bytes ks) c.after) kinds_are);
      }
