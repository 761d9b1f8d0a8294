use Rattle.std.proofs.Common.{◌++◌, sym, subst, List}
use Rattle.std.specs.List.{AllByRecursion, flat_map}
use Rattle.iv_types.specs.declared.catalog.Definition.{Definition}
use Rattle.iv_meaning.specs.Objects.{schema_of}
use Rattle.txn_machine.specs.Deltas.{owed_to, views_of}
use Rattle.txn_machine.specs.ViewLaws.{IsJoined}
use Rattle.txn_machine.proofs.Making.{each_view}
use Rattle.txn_machine.specs.RowChanges.{row_change}
use Rattle.view_delta.proofs.all_views.owed.Goals as goal

pub loop-definition-init : goal.loop-definition-init
loop-definition-init g c =
    let o = schema_of c.args.catalog.now in
    record {
      left = subst (λ (ds : List Definition). AllByRecursion (IsJoined o) (views_of (schema_of ds))) (sym c.definitions-definition-items.ensures) (each_view (IsJoined o) o c.requires.1.right.sound.joins);
      owed = λ rows f. (λ i. c.new-owed.ensures i ++ flat_map (owed_to o rows (row_change c.args.change.now)) (views_of (schema_of (c.definitions-definition-items.ensures i))));
    }
