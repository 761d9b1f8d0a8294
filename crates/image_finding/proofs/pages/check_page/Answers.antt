use Rattle.std.proofs.Common.{refl}
use Rattle.std.proofs.lemmas.Bool.{false≢true}
use Rattle.page_store.specs.Image.{named}
use Rattle.image_finding.proofs.Outcomes.{unstored, stored_leaf, stored_no_leaf}
use Rattle.image_finding.proofs.pages.check_page.Goals as goal

pub returns-then-not-stored-clause-leaf : goal.returns-then-not-stored-clause-leaf
returns-then-not-stored-clause-leaf g c told =
    unstored c.in_ok-stored.stored c.read_slot.new.into (named c.args.area_bytes c.args.n c.args.byte (g.D.Disk.seen c.args.disk.now)) (c.in_ok-stored.ensures.page told) c.if-not-stored.true

pub returns-then-is_leaf-clause-leaf : goal.returns-then-is_leaf-clause-leaf
returns-then-is_leaf-clause-leaf g c told =
    stored_leaf c.in_ok-stored.stored c.read_slot.new.into (named c.args.area_bytes c.args.n c.args.byte (g.D.Disk.seen c.args.disk.now)) (c.in_ok-stored.ensures.page told) c.if-not-stored.false
    (c.if-is_leaf.ensures.0 refl)

pub returns-clause-none : goal.returns-clause-none
returns-clause-none g c told =
    stored_no_leaf c.args.area_bytes c.args.n c.args.byte (g.D.Disk.seen c.args.disk.now) _ c.in_ok-stored.stored c.read_slot.new.into (c.in_ok-stored.ensures.page told) c.if-not-stored.false
    (λ leaf. false≢true (c.if-is_leaf.ensures.1 leaf)) refl c.slot_place.ensures
