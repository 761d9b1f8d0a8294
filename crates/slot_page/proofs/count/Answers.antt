use Rattle.std.proofs.Common.{sym, ◌∙◌}
use Rattle.slot_page.proofs.Pages.{length-entries}
use Rattle.slot_page.proofs.count.Goals as goal

pub returns : goal.returns
returns c = c.number_at.ensures ∙ sym (length-entries c.args.page.now)
