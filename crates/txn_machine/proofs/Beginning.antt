-- A database that defines nothing is one to begin from.
use Rattle.std.specs.Prelude.{◌≡◌, ℕ, zero, suc, [], Some}
use mathlib.Core.Path.{sym, ap, ◌∙◌}
use Rattle.std.proofs.lemmas.Option.{none-some}
use Rattle.std.specs.FinMap.{get-empty}
use Rattle.table_laws.specs.Place.{place_cmp}
use Rattle.iv_meaning.specs.Schema.{Object, view, numbered}
use Rattle.txn_machine.specs.Laws.{EmptyLaw}
use Rattle.txn_machine.proofs.Columns.{number_in_row}
use Rattle.txn_machine.proofs.Ranging.{huge_zero}

no_object : (n : ℕ) (o : Object) → numbered [] n ≡ Some o → ⊥
no_object zero o e = none-some o e
no_object (suc n) o e = none-some o e

pub empty_law : EmptyLaw
empty_law number = record {
  sound = record {
    objects = λ n o e. absurd (no_object n o e);
    rows = λ place row e. absurd (none-some row (sym (get-empty place_cmp place) ∙ e));
    joins = λ n v e. absurd (no_object n (view v) e);
    typed = λ n v e. absurd (no_object n (view v) e);
  };
  rows = λ place column. ap (number_in_row column) (get-empty place_cmp place);
  stored = λ place numbers e. absurd (none-some numbers (sym (get-empty place_cmp place) ∙ e));
  in_range = λ place column. huge_zero;
}
