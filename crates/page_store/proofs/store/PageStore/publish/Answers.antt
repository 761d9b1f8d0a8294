use Rattle.std.proofs.Common.{◌≡◌, ◌<◌, ◌-◌, ◌*◌, ◌/◌, Bool, ℕ, List, length, subst, sym, ◌∙◌, ap, arith}
use Rattle.page_store.specs.Image.{live, named}
use Rattle.page_store.specs.Publish.{area_room, LiveFits, page_if, old_byte}
use Rattle.page_store.proofs.After.{number_after, area_after, fits_after, pages_after}
use Rattle.page_store.proofs.store.PageStore.publish.Goals as goal

pub publish_pages-outcome-requires-clause-live_fits : goal.publish_pages-outcome-requires-clause-live_fits
publish_pages-outcome-requires-clause-live_fits g c told =
    subst (λ (l : List Bool). LiveFits (g.D.Disk.size_of c.args.disk.now) (length l) (g.D.Disk.seen c.args.disk.now)) (sym c.deref-2.ensures.value) (c.requires.live_fits told)

pub returns-in-Ok-clause-number_after : goal.returns-in-Ok-clause-number_after
returns-in-Ok-clause-number_after g c told = number_after _ _ _ _ _ _ (c.in-Ok.ensures.published told)

pub returns-in-Ok-clause-area_after : goal.returns-in-Ok-clause-area_after
returns-in-Ok-clause-area_after g c told area other = area_after _ _ _ _ _ _ (c.in-Ok.ensures.published told) area other

pub returns-in-Ok-clause-fits_after : goal.returns-in-Ok-clause-fits_after
returns-in-Ok-clause-fits_after g c told =
    let long : length c.deref-2.result.now ≡ length c.args.self.now.stored.items = ap length c.deref-2.ensures.value in
    let size = c.publish_pages-outcome.ensures.size in
    subst (λ (l : List Bool). LiveFits (g.D.Disk.size_of c.publish_pages-outcome.new.disk) (length l) (g.D.Disk.seen c.publish_pages-outcome.new.disk)) c.deref-2.ensures.value
    (fits_after _ _ _ _ _ _ (c.in-Ok.ensures.published told) (g.D.Disk.size_of c.publish_pages-outcome.new.disk)
    (omega (arith, c.requires.disk_size, size, c.size.ensures, c.len-pages.ensures, long)) c.requires.area)

pub returns-in-Ok-clause-tracked : goal.returns-in-Ok-clause-tracked
returns-in-Ok-clause-tracked g c told p lt is unmarked =
    let store = c.args.self.now in
    let n = length store.stored.items in
    let s = g.D.Disk.seen c.publish_pages-outcome.new.disk in
    let size = g.D.Disk.size_of c.publish_pages-outcome.new.disk in
    let inside : p < length c.deref-2.result.now = omega (arith, lt, ap length c.deref-2.ensures.value) in
    let room : (c.size.result - 278528 - 16384 * c.len-pages.result) / 2 ≡ area_room size n =
    ap (λ x. (x - 278528 - 16384 * c.len-pages.result) / 2) (c.size.ensures ∙ sym c.publish_pages-outcome.ensures.size)
    ∙ ap (λ x. (size - 278528 - 16384 * x) / 2) (c.len-pages.ensures ∙ store.stored.ok.0) in
    subst (λ r. named r p (old_byte (live s) p s) s ≡ page_if store.stored.items store.bytes.items p) room
    (pages_after _ _ _ _ _ _ (c.in-Ok.ensures.published told) p inside
    ∙ ap (λ (l : List Bool). page_if l c.deref.result.now p) c.deref-2.ensures.value
    ∙ ap (λ (b : List ℕ). page_if store.stored.items b p) c.deref.ensures.value)
