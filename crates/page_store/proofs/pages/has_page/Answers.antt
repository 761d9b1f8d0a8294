use Rattle.std.proofs.Common.{◌∙◌, ap}
use Rattle.disk_io.specs.Disk.{part}
use Rattle.page_store.specs.Image.{slot_at}
use Rattle.page_store.proofs.Slots.{page_decides}
use Rattle.page_store.proofs.pages.has_page.Goals as goal

pub returns-clause-answer : goal.returns-clause-answer
returns-clause-answer g c told le =
    let a = c.args in
    let s = g.D.Disk.seen a.disk.now in
    page_decides a.room a.place a.named c.named_slot.result s c.read.new.into a.page.now c.same_bytes.result (λ j is. c.named_slot.ensures.slot j le is) (λ e. c.if-named-eq0.false e)
    (c.in_ok-read.ensures.bytes told ∙ ap (λ n. part (slot_at a.room a.place c.named_slot.result) n s) c.requires.slot) c.same_bytes.ensures
