use Rattle.std.proofs.Common.{sym, subst, refl}
use Rattle.std.specs.List.{AllByRecursion}
use Rattle.iv_types.specs.declared.catalog.Definition.{Definition}
use Rattle.std.specs.Prelude.{List}
use Rattle.iv_meaning.specs.Objects.{schema_of}
use Rattle.txn_machine.specs.Deltas.{views_of}
use Rattle.txn_machine.specs.ViewLaws.{IsJoined}
use Rattle.txn_machine.proofs.Making.{each_view}
use Rattle.view_delta.proofs.wants.add_all_needs.Goals as goal

pub loop-definition-init : goal.loop-definition-init
loop-definition-init c = record {
  left = subst (λ (ds : List Definition). AllByRecursion (IsJoined (schema_of c.args.catalog.now)) (views_of (schema_of ds))) (sym c.definitions-definition-items.ensures)
      (each_view (IsJoined (schema_of c.args.catalog.now)) (schema_of c.args.catalog.now) c.requires.joined);
  added = refl;
}
