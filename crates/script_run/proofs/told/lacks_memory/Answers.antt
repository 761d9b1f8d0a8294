use Rattle.script_run.proofs.Texts.{tells}
use Rattle.script_run.proofs.told.lacks_memory.Goals as goal

pub returns : goal.returns
returns c = tells c.args.answer.now c.find.result c.is_some.result c.find.ensures c.is_some.ensures
