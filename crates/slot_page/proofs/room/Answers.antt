use Rattle.std.proofs.Common.{arith}
use Rattle.slot_page.proofs.Pages.{page_size, page_fits}
use Rattle.slot_page.proofs.room.Goals as goal

pub count-requires : goal.count-requires
count-requires c = page_size _ c.requires

pub overflow_mul-result : goal.overflow_mul-result
overflow_mul-result c = let f = page_fits _ c.requires in omega (arith, c.count.ensures)

pub overflow_sub-result : goal.overflow_sub-result
overflow_sub-result c = let f = page_fits _ c.requires in omega (arith, c.count.ensures)

pub overflow_sub-result-2 : goal.overflow_sub-result-2
overflow_sub-result-2 c = let f = page_fits _ c.requires in omega (arith, c.count.ensures, c.end.ensures)

pub returns : goal.returns
returns c = let f = page_fits _ c.requires in omega (arith, c.count.ensures, c.end.ensures)
