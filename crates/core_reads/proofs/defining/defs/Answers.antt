use Rattle.std.proofs.Common.{refl, ◌∙◌}
use Rattle.iv_meaning.specs.Objects.{schema_of}
use Rattle.txn_machine.specs.Acts as act
use Rattle.txn_machine.specs.Answers as answer
use Rattle.core_state.proofs.Unchanged.{unchanged_told}
use Rattle.core_reads.proofs.defining.defs.Goals as goal

pub returns : goal.returns
returns g c = λ s h.
    unchanged_told g.M.SortedMaps.maps g.M.SortedMaps.spare g.M.SortedMaps.limit c.args.core.now s c.args.session act.Defs (answer.Defs (schema_of c.in_ok-copied.field-0)) h (c.in_ok-copied.ensures ∙ h.holds.stored.objects, refl) refl refl refl refl
