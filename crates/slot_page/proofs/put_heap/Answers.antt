use Rattle.std.proofs.Common.{ℕ, List, length, take, ap, subst, arith, length-append}
use Rattle.std.specs.List.{between}
use Rattle.slot_page.specs.Bytes.{Wrote}
use Rattle.slot_page.specs.Page.{heap, entries}
use Rattle.slot_page.proofs.Pages.{page_size, page_fits, heap_slice, heap_to, heap_take_le}
use Rattle.slot_page.proofs.put_heap.Goals as goal

pub slice_bounds-put_bytes-end : goal.slice_bounds-put_bytes-end
slice_bounds-put_bytes-end c =
    let es = entries c.args.other.now in
    let f = page_fits _ c.requires.other in
    let s = page_size _ c.requires.other in
    omega (arith, c.place_in-last.ensures, heap_take_le es c.args.to)

pub slice_bounds-put_bytes-start : goal.slice_bounds-put_bytes-start
slice_bounds-put_bytes-start c =
    let es = entries c.args.other.now in
    omega (arith, c.place_in-first.ensures, c.place_in-last.ensures, ap length (heap_to es c.args.from c.args.to c.requires.order), length-append (heap (take c.args.from es)) (heap (between c.args.from c.args.to es)))

pub put_bytes-requires : goal.put_bytes-requires
put_bytes-requires c =
    let e = heap_slice c.args.other.now c.args.from c.args.to _ _ c.requires.other c.requires.order c.place_in-first.ensures c.place_in-last.ensures in
    omega (arith, ap length e, c.requires.room)

pub returns : goal.returns
returns c =
    let e = heap_slice c.args.other.now c.args.from c.args.to _ _ c.requires.other c.requires.order c.place_in-first.ensures c.place_in-last.ensures in
    subst (λ (x : List ℕ). Wrote c.args.at x c.args.page.now c.put_bytes.new.page) e c.put_bytes.ensures

pub slice_bounds-put_bytes-count : goal.slice_bounds-put_bytes-count
slice_bounds-put_bytes-count c =
    let es = entries c.args.other.now in
    omega (arith, c.place_in-first.ensures, c.place_in-last.ensures, ap length (heap_to es c.args.from c.args.to c.requires.order), length-append (heap (take c.args.from es)) (heap (between c.args.from c.args.to es)))
