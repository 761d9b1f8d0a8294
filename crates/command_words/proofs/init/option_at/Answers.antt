use Rattle.command_words.proofs.PartLaws.{one_value}
use Rattle.command_words.proofs.init.option_at.Goals as goal

pub returns-in-None-number_within : goal.returns-in-None-number_within
returns-in-None-number_within c = λ number count low high at.
    c.in-None-number_within.ensures number low high (one_value _ _ _ _ _ _ c.in-Some.ensures.found at)

pub returns-in-None : goal.returns-in-None
returns-in-None c = λ number count low high at. c.in-None.ensures.none _ count at
