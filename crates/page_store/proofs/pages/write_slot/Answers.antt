use Rattle.std.proofs.Common.{length, ap, arith}
use Rattle.page_store.specs.Image.{slot_at}
use Rattle.page_store.proofs.Slots.{slot_written, slot_outside}
use Rattle.page_store.proofs.Free.{slot_free, slot_low}
use Rattle.page_store.proofs.pages.write_slot.Goals as goal

pub returns-clause-page : goal.returns-clause-page
returns-clause-page g c told =
    let laws = g.met.D.Disk in
    let a = c.args in
    let d = g.D.Disk.seen a.disk.now in
    slot_written a.room a.place c.free_slot-slot.result a.named d (g.D.Disk.seen c.write_apart.new.disk) a.page.now c.requires.page c.free_slot-slot.ensures (omega (arith, laws.has_size told a.disk.now, c.requires.on_disk, c.free_slot-slot.ensures, slot_low a.named)) (c.in_ok-write_apart.ensures.written told)

pub returns-clause-elsewhere : goal.returns-clause-elsewhere
returns-clause-elsewhere g c told =
    let laws = g.met.D.Disk in
    let a = c.args in
    let d = g.D.Disk.seen a.disk.now in
    slot_outside a.room a.place c.free_slot-slot.result a.named d (g.D.Disk.seen c.write_apart.new.disk) a.page.now c.requires.page c.free_slot-slot.ensures (omega (arith, laws.has_size told a.disk.now, c.requires.on_disk, c.free_slot-slot.ensures, slot_low a.named)) (c.in_ok-write_apart.ensures.written told)

pub returns-clause-old : goal.returns-clause-old
returns-clause-old g c told pages k s byte old =
    let a = c.args in
    c.in_ok-write_apart.ensures.old told a.room pages k s (slot_free a.room pages k s byte.names a.place a.named _ (length a.page.now) byte.inside byte.is (ap (slot_at a.room a.place) c.free_slot-slot.ensures) c.requires.page) old

pub returns-in_err-write_apart-clause-crash : goal.returns-in_err-write_apart-clause-crash
returns-in_err-write_apart-clause-crash g c pages k s byte guards =
    let a = c.args in
    c.write_apart.ensures.crash a.room pages k s (slot_free a.room pages k s byte.names a.place a.named _ (length a.page.now) byte.inside byte.is (ap (slot_at a.room a.place) c.free_slot-slot.ensures) c.requires.page) guards

pub returns-clause-crash : goal.returns-clause-crash
returns-clause-crash g c pages k s byte guards =
    let a = c.args in
    c.write_apart.ensures.crash a.room pages k s (slot_free a.room pages k s byte.names a.place a.named _ (length a.page.now) byte.inside byte.is (ap (slot_at a.room a.place) c.free_slot-slot.ensures) c.requires.page) guards
