use Rattle.std.proofs.Common.{◌+◌, Some, refl, arith}
use mathlib.Core.Path.{◌∙◌}
use Rattle.txn_machine.specs.Log.{block_bytes}
use Rattle.core_journal.specs.Records.{begun}
use Rattle.engine_core.specs.Standing.{nothing_saved}
use Rattle.engine_core.proofs.engine.Core.new.Goals as goal

pub returns : goal.returns
returns g c =
    let h = c.in_ok-new.ensures in
    record {
      stands = h;
      records = begun (Some c.args.most) (nothing_saved c.args.number) (block_bytes + 1);
      behind = λ _. record { has_them = c.requires.unrecorded; used = refl; same_limit = c.requires.log ∙ h.opening.log_is; same_image = h.opening.data_is };
      few = omega arith;
      well = λ _. c.requires.well;
    }
