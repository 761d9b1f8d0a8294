use Rattle.std.proofs.Common.{ℕ, ◌≡◌, ◌+◌, ◌*◌, ◌<◌, ◌≤◌, ◌∙◌, List, length, get_or, sym, ap, subst, arith, OnOk}
use Rattle.disk_io.specs.Disk.{LeavesOnly}
use Rattle.page_store.specs.declared.store.PageStore.{PageStore}
use Rattle.page_store.specs.Store.{page_bytes, stored_flags, pages_in}
use Rattle.page_store.specs.Publish.{area_room, LiveFits, IsNew, OldOrNew, KeepsUnchanged}
use Rattle.ordered_index.specs.Row.{Row, pages_of, IsRow}
use Rattle.ordered_index.specs.Drawn.{Flagged}
use Rattle.ordered_index.proofs.StorePages.{length-pages_of, same_pages}
use Rattle.ordered_index.proofs.Rows.{row_is, in_range}
use Rattle.ordered_index.proofs.Laying.{laid}
use Rattle.ordered_index.proofs.leaves.Leaves.publish.Goals as goal

low : (s : PageStore) (order free : List ℕ) (o : List ℕ) → IsRow (pages_of s) order free → o ≡ order → (k : ℕ) → k < length o → get_or o k 0 < pages_in s
low s order free o sound e k lt = subst (λ (x : List ℕ). get_or x k 0 < pages_in s) (sym e) (omega (arith, in_range (pages_of s) order free k sound (subst (λ (x : List ℕ). k < length x) e lt), length-pages_of s))

pub mark_stored-requires-clause-inside : goal.mark_stored-requires-clause-inside
mark_stored-requires-clause-inside g c = low c.self.inside.store c.self.inside.order.items c.self.inside.free.items _ c.self.invariant.row c.deref.ensures.value

-- how many pages there are
pages : (s m : PageStore) (order : List ℕ) (r : Row) → row_is (pages_of s) order ≡ r → pages_in m ≡ pages_in s → pages_in m ≡ r.pages
pages s m order r is count = count ∙ sym (length-pages_of s) ∙ ap (λ (x : Row). x.pages) is

pub publish-requires-clause-block_fits : goal.publish-requires-clause-block_fits
publish-requires-clause-block_fits g c =
    let p = pages c.self.inside.store c.mark_stored.new.store c.self.inside.order.items c.args.self.now c.self.view_is c.mark_stored.ensures.count in
    subst (λ (n : ℕ). length c.args.first_block.now ≤ area_room (g.D.Disk.size_of c.args.disk.now) n) (sym p) c.requires.block_fits

pub publish-requires-clause-disk_size : goal.publish-requires-clause-disk_size
publish-requires-clause-disk_size g c =
    let p = pages c.self.inside.store c.mark_stored.new.store c.self.inside.order.items c.args.self.now c.self.view_is c.mark_stored.ensures.count in
    subst (λ (n : ℕ). 278528 + 2 * area_room (g.D.Disk.size_of c.args.disk.now) n + 16384 * n ≡ g.D.Disk.size_of c.args.disk.now) (sym p) c.requires.disk_size

pub publish-requires-clause-least_area : goal.publish-requires-clause-least_area
publish-requires-clause-least_area g c =
    let p = pages c.self.inside.store c.mark_stored.new.store c.self.inside.order.items c.args.self.now c.self.view_is c.mark_stored.ensures.count in
    subst (λ (n : ℕ). 65536 ≤ area_room (g.D.Disk.size_of c.args.disk.now) n) (sym p) c.requires.least_area

pub publish-requires-clause-most_area : goal.publish-requires-clause-most_area
publish-requires-clause-most_area g c =
    let p = pages c.self.inside.store c.mark_stored.new.store c.self.inside.order.items c.args.self.now c.self.view_is c.mark_stored.ensures.count in
    subst (λ (n : ℕ). area_room (g.D.Disk.size_of c.args.disk.now) n ≤ 268435456) (sym p) c.requires.most_area

pub publish-requires-clause-live_fits : goal.publish-requires-clause-live_fits
publish-requires-clause-live_fits g c =
    let p = pages c.self.inside.store c.mark_stored.new.store c.self.inside.order.items c.args.self.now c.self.view_is c.mark_stored.ensures.count in
    λ told. subst (λ (n : ℕ). LiveFits (g.D.Disk.size_of c.args.disk.now) n (g.D.Disk.seen c.args.disk.now)) (sym p) (c.requires.live_fits told)

-- the same pages after all
same : (s m n : PageStore) → page_bytes m ≡ page_bytes s → pages_in m ≡ pages_in s → page_bytes n ≡ page_bytes m → stored_flags n ≡ stored_flags m → pages_of n ≡ pages_of s
same s m n b c d f = same_pages s n (d ∙ b) (ap length f ∙ c)

pub invariant_of-self : goal.invariant_of-self
invariant_of-self g c =
    let a = c.self.inside in
    let e = same a.store c.mark_stored.new.store c.publish.new.self c.mark_stored.ensures.bytes c.mark_stored.ensures.count c.publish.ensures.pages c.publish.ensures.stored in
    record {
      row = subst (λ (x : List (List ℕ)). IsRow x a.order.items a.free.items) (sym e) c.self.invariant.row;
      order_room = omega (arith, ap length e, c.self.invariant.order_room);
      free_room = omega (arith, ap length e, c.self.invariant.free_room);
    }

pub returns-clause-leaves : goal.returns-clause-leaves
returns-clause-leaves g c =
    let a = c.self.inside in
    let e = same a.store c.mark_stored.new.store c.publish.new.self c.mark_stored.ensures.bytes c.mark_stored.ensures.count c.publish.ensures.pages c.publish.ensures.stored in
    ap (λ (x : List (List ℕ)). row_is x a.order.items) e ∙ c.self.view_is

pub returns-clause-image : goal.returns-clause-image
returns-clause-image g c =
    let a = c.self.inside in
    let m = c.mark_stored.new.store in
    let p = pages a.store m a.order.items c.args.self.now c.self.view_is c.mark_stored.ensures.count in
    let f : Flagged (pages_of a.store) a.order.items c.args.kept.now (length a.order.items) (stored_flags m) =
    subst (λ (x : List ℕ). Flagged (pages_of a.store) x c.args.kept.now (length x) (stored_flags m)) c.deref.ensures.value c.mark_stored.ensures.flags in
    let u = c.publish.ensures in (
      a.order.items,
      stored_flags m,
      page_bytes m,
      laid a.store m a.order.items a.free.items c.args.self.now c.args.kept.now c.self.invariant.row c.self.view_is c.mark_stored.ensures.bytes c.mark_stored.ensures.count f,
      (λ told. subst (λ (n : ℕ). OnOk c.publish.result (IsNew (area_room (g.D.Disk.size_of c.args.disk.now) n) c.args.facts.now c.args.first_block.now (stored_flags m) (page_bytes m) (g.D.Disk.seen c.publish.new.disk))) p (u.published told)),
      (λ told only. subst (λ (n : ℕ). LeavesOnly g.D.Disk.moment g.D.Disk.left_since c.args.disk.now c.publish.new.disk (OldOrNew (area_room (g.D.Disk.size_of c.args.disk.now) n) c.args.facts.now c.args.first_block.now (stored_flags m) (page_bytes m) (g.D.Disk.seen c.args.disk.now))) p (u.any_moment told only)),
      (λ told. subst (λ (n : ℕ). OnOk c.publish.result (KeepsUnchanged (area_room (g.D.Disk.size_of c.args.disk.now) n) (stored_flags m) (page_bytes m) (g.D.Disk.seen c.args.disk.now) (g.D.Disk.seen c.publish.new.disk))) p (u.unchanged told)),
    )

pub returns-clause-fits_after : goal.returns-clause-fits_after
returns-clause-fits_after g c =
    let n : length (pages_of c.publish.new.self) ≡ pages_in c.publish.new.self = length-pages_of c.publish.new.self in
    λ told. subst (λ (k : ℕ). OnOk c.publish.result (LiveFits (g.D.Disk.size_of c.publish.new.disk) k (g.D.Disk.seen c.publish.new.disk))) (sym n) (c.publish.ensures.fits_after told)
