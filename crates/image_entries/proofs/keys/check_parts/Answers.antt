use Rattle.image_entries.specs.Parts.{parts_found}
use Rattle.image_entries.proofs.Behind.{key_told, size_told, so_told, all_so}
use Rattle.image_entries.proofs.keys.check_parts.Goals as goal

pub returns-in-Ok-clause-keys : goal.returns-in-Ok-clause-keys
returns-in-Ok-clause-keys c = all_so c.check_sizes.result _ c.in-Ok.ensures.stands

pub returns-in-Ok-clause-told : goal.returns-in-Ok-clause-told
returns-in-Ok-clause-told c = so_told c.check_sizes.result _ _ (λ bad tells. size_told (parts_found c.args.parts.now) bad c.in-Ok.ensures.stands tells) c.check_sizes.ensures.told

pub returns-in-Err-clause-told : goal.returns-in-Err-clause-told
returns-in-Err-clause-told c = key_told (parts_found c.args.parts.now) c.in-Err.bad c.in-Err.ensures.told
