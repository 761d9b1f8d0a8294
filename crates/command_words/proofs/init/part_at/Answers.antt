use Rattle.command_words.proofs.PartLaws.{pages_part, log_part, none_at, on_none}
use Rattle.command_words.proofs.init.part_at.Goals as goal

pub returns-in-Some : goal.returns-in-Some
returns-in-Some c = let h = c.in-Some.ensures in pages_part _ h.0 _ h.1 h.2 h.3

pub returns-in-Some-option_at : goal.returns-in-Some-option_at
returns-in-Some-option_at c = let h = c.in-Some-option_at.ensures in log_part _ h.0 _ h.1 h.2 h.3

pub returns-in-None-option_at : goal.returns-in-None-option_at
returns-in-None-option_at c = on_none c.file_at.result _ _ _ (none_at _ c.in-None.ensures c.in-None-option_at.ensures) c.file_at.ensures
