use Rattle.ordered_index.proofs.EditSteps.{page_size}
use Rattle.slot_page.proofs.Pages.{packed_lies}
use Rattle.ordered_index.proofs.finding.begins.Goals as goal

pub index-requires : goal.index-requires
index-requires c = page_size _ c.requires.page

pub entry-requires-clause-lies : goal.entry-requires-clause-lies
entry-requires-clause-lies c = packed_lies _ _ c.requires.page c.requires.some
