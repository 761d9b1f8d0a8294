use Rattle.std.proofs.Common.{◌≡◌, drop}
use Rattle.std.specs.FinMap.{get}
use Rattle.table_laws.specs.Place.{Place}
use Rattle.data_store.specs.Machine.{changes_on}
use Rattle.data_past.specs.Moves.{fewer, CanForget, puts_in}
use Rattle.data_past.proofs.noting.forget_changes.Given as goal

abbrev pub invariant-loop-step : goal.invariant-loop-step
invariant-loop-step g l = record {
  can : CanForget l.store.pending.entries (puts_in (drop l.step-index l.kept));
  told : (place : Place) → fewer (changes_on place (puts_in (drop l.step-index l.kept))) (get l.store.pending.entries place) ≡ fewer (changes_on place (puts_in l.kept)) (get l.fn.store.pending.entries place);
  rest : l.store ≡ record l.fn.store { pending = l.store.pending };
}
