use Rattle.std.proofs.Common.{refl, arith}
use Rattle.slot_page.proofs.Pages.{emptied, entries_held, page_held}
use Rattle.slot_page.proofs.empty.Goals as goal

pub returns : goal.returns
returns c =
    let h = emptied c.args.page.now _ _ _ _ c.args.index c.requires (omega arith) refl c.put_number.ensures c.put_number-2.ensures c.put_number-3.ensures in
    record { page = page_held _ _ _ h; entries = entries_held _ _ _ h; index = h.of_index }
