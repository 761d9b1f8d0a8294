use Rattle.std.proofs.lemmas.Bool.{false≢true}
use Rattle.image_entries.proofs.gather.take_stored.Goals as goal

pub returns-then-is_leaf-clause-taken : goal.returns-then-is_leaf-clause-taken
returns-then-is_leaf-clause-taken c = c.take_page.ensures.taken

pub returns-then-is_leaf-clause-twice : goal.returns-then-is_leaf-clause-twice
returns-then-is_leaf-clause-twice c = λ leaf. c.take_page.ensures.twice

pub returns-then-is_leaf-clause-no_disk : goal.returns-then-is_leaf-clause-no_disk
returns-then-is_leaf-clause-no_disk c = c.take_page.ensures.no_disk

pub returns-clause-twice : goal.returns-clause-twice
returns-clause-twice c = λ leaf fs rest gathers. absurd (false≢true (c.if-is_leaf.ensures.1 leaf))
