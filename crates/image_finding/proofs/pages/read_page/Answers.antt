use Rattle.std.proofs.Common.{◌≡◌, ℕ, List, get_or, if◌then◌else◌, Some, None, subst, sym}
use Rattle.std.specs.Prelude.{IfOk}
use Rattle.page_store.specs.Image.{named}
use Rattle.image_finding.specs.Maps.{IsLeafIf}
use Rattle.image_finding.proofs.Outcomes.{leaf_if}
use Rattle.image_finding.proofs.pages.read_page.Goals as goal

pub returns-clause-page : goal.returns-clause-page
returns-clause-page g c told =
    subst (λ (b : List ℕ). IfOk c.read_slot.result (λ stored. (if stored then Some c.read_slot.new.into else None) ≡ named c.args.image.now.header.area_bytes c.args.n (get_or b c.args.n 0) (g.D.Disk.seen c.args.disk.now)))
    c.as_slice.ensures (c.read_slot.ensures.page told)

pub returns-clause-leaf : goal.returns-clause-leaf
returns-clause-leaf g c told has =
    leaf_if c.read_slot.result c.read_slot.new.into (named c.args.image.now.header.area_bytes c.args.n (get_or c.as_slice.result.now c.args.n 0) (g.D.Disk.seen c.args.disk.now)) (c.read_slot.ensures.page told)
    (subst (λ (b : List ℕ). IsLeafIf (named c.args.image.now.header.area_bytes c.args.n (get_or b c.args.n 0) (g.D.Disk.seen c.args.disk.now))) (sym c.as_slice.ensures) (has.leaves c.args.n c.requires.page))
