use Rattle.std.proofs.Common.{ℕ, ◌≡◌, List, Bool, sym, ap, subst, refl}
use Rattle.page_store.specs.Publish.{area_room, LiveFits, IsNew, OldOrNew, KeepsUnchanged}
use Rattle.std.proofs.Common.{OnOk}
use Rattle.disk_io.specs.Disk.{LeavesOnly}
use Rattle.ordered_index.specs.Tree.{Tree}
use Rattle.ordered_index.specs.Drawn.{IsDrawn, IsLaid}
use Rattle.ordered_index.specs.Good.{tree_of}
use Rattle.ordered_index.proofs.Drawing.{drawn}
use Rattle.ordered_index.proofs.page_maps.PageMaps.publish.Goals as goal

pub publish-requires-clause-live_fits : goal.publish-requires-clause-live_fits
publish-requires-clause-live_fits g c =
    let p : c.self.inside.leaves.pages ≡ c.args.self.now.pages = ap (λ (t : Tree). t.pages) c.self.view_is in
    λ told. subst (λ (n : ℕ). LiveFits (g.D.Disk.size_of c.args.disk.now) n (g.D.Disk.seen c.args.disk.now)) (sym p) (c.requires.live_fits told)

pub returns-clause-image : goal.returns-clause-image
returns-clause-image g c =
    let a = c.self.inside in
    let p : a.leaves.pages ≡ c.args.self.now.pages = ap (λ (t : Tree). t.pages) c.self.view_is in
    let u = c.publish.ensures.image in
    let l : IsLaid a.leaves.pages a.kept.items a.leaves.leaves u.0 u.1 u.2 = subst (λ (k : List Bool). IsLaid a.leaves.pages k a.leaves.leaves u.0 u.1 u.2) c.deref.ensures.value u.3 in
    let d : IsDrawn c.args.self.now u.1 u.2 = subst (λ (t : Tree). IsDrawn t u.1 u.2) c.self.view_is (drawn (tree_of a) a.leaves.leaves u.0 u.1 u.2 refl c.self.invariant.forest l) in (
      u.1,
      u.2,
      d,
      (λ told. subst (λ (n : ℕ). OnOk c.publish.result (IsNew (area_room (g.D.Disk.size_of c.args.disk.now) n) c.args.facts.now c.args.first_block.now u.1 u.2 (g.D.Disk.seen c.publish.new.disk))) p (u.4 told)),
      (λ told only. subst (λ (n : ℕ). LeavesOnly g.D.Disk.moment g.D.Disk.left_since c.args.disk.now c.publish.new.disk (OldOrNew (area_room (g.D.Disk.size_of c.args.disk.now) n) c.args.facts.now c.args.first_block.now u.1 u.2 (g.D.Disk.seen c.args.disk.now))) p (u.5 told only)),
      (λ told. subst (λ (n : ℕ). OnOk c.publish.result (KeepsUnchanged (area_room (g.D.Disk.size_of c.args.disk.now) n) u.1 u.2 (g.D.Disk.seen c.args.disk.now) (g.D.Disk.seen c.publish.new.disk))) p (u.6 told)),
    )
