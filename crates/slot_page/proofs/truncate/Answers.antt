use Rattle.std.proofs.Common.{◌≤◌, length, arith}
use Rattle.slot_page.specs.Page.{entries}
use Rattle.slot_page.proofs.Pages.{page_size, page_fits, truncated, held, entries_held, page_held}
use Rattle.slot_page.proofs.truncate.Goals as goal

pub put_number-requires-clause-inside : goal.put_number-requires-clause-inside
put_number-requires-clause-inside c = let s = page_size _ c.requires.page in omega arith

pub put_number-requires-clause-small : goal.put_number-requires-clause-small
put_number-requires-clause-small c = let f = page_fits _ c.requires.page in let i : c.args.n ≤ length (entries c.args.page.now) = c.requires.inside in omega arith

pub returns : goal.returns
returns c =
    let h = truncated _ _ _ (entries c.args.page.now) c.args.n (held _ c.requires.page) c.requires.inside c.put_number.ensures in
    record { page = page_held _ _ _ h; entries = entries_held _ _ _ h; index = h.of_index }
