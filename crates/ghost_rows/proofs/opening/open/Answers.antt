use Rattle.std.proofs.Common.{subst, List, ℤ, ℕ}
use Rattle.iv_types.specs.declared.lock.GroupDelta.{GroupDelta}
use Rattle.txn_machine.specs.Deltas.{place_of}
use Rattle.ghost_rows.specs.Kept.{width, no_pays, RowStands}
use Rattle.ghost_rows.specs.State.{stored_at}
use Rattle.ghost_rows.specs.Rows.{ChangesRow}
use Rattle.ghost_rows.proofs.StateLemmas.{opened_state}
use Rattle.ghost_rows.proofs.opening.open.Goals as goal

pub returns-clause-kept : goal.returns-clause-kept
returns-clause-kept g c = λ pays kept.
    let d : GroupDelta = c.args.delta.now in
    opened_state c.args.rows.now c.insert.new.self (place_of d) (stored_at (g.M.SortedMaps.maps c.args.maps.now) (place_of d)) (width d) c.in_ok-row.row c.in_ok-numbers.numbers.items pays c.requires.absent
    (subst (λ (k : List ℕ). ChangesRow (d.view, k) c.in_ok-row.row c.args.rows.now c.insert.new.self) c.in_ok-group.ensures c.in_ok-insert.ensures.ok)
    (subst (λ (l : List ℤ). RowStands c.in_ok-row.row l no_pays) c.deref.ensures.value c.in_ok-row.ensures.stands) c.in_ok-numbers.ensures kept
