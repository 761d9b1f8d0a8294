use mathlib.Core.Path.{refl}
use Rattle.log_disk.proofs.Spelling.{fields_stand}
use Rattle.log_disk.proofs.images.fields_law.Goals as goal

pub returns-clause-fields : goal.returns-clause-fields
returns-clause-fields c = fields_stand

pub returns-clause-commit : goal.returns-clause-commit
returns-clause-commit c = refl
