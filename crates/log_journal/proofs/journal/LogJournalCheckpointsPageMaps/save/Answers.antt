use Rattle.std.proofs.Common.{ℕ, [], ◌∙◌, ap, subst}
use Rattle.disk_io.specs.Disk.{LeavesOnly}
use Rattle.iv_types.specs.Maps.{Map}
use Rattle.core_journal.specs.Records.{restarted}
use Rattle.ordered_index.specs.Tree.{map_of, spare_of}
use Rattle.log_journal.specs.Standing.{Has}
use Rattle.log_journal.specs.Cuts.{ImageOrCut, medium_of}
use Rattle.log_journal.proofs.Cuts.{image_leaves}
use Rattle.log_journal.proofs.Marks.{same_maps, same_spare}
use Rattle.log_journal.proofs.journal.LogJournalCheckpointsPageMaps.save.Goals as goal

pub returns-clause-ok : goal.returns-clause-ok
returns-clause-ok g c = (
  (λ records next carried used has.
      subst (λ (m : ℕ → Map). Has g.D.Disk.is_told g.D.Disk.size_of g.D.Disk.seen g.D.Disk.may_leave c.publish.new.self
      (restarted records (record { maps = m; definitions = c.args.catalog.now; commits = c.args.commits; next = next; carried = carried }) used))
      (same_maps c.args.maps.now c.mark_saved.new.maps c.mark_saved.ensures.same)
      (c.in_ok-publish.ensures.has c.args.catalog.now records next carried used c.mark_saved.ensures.marks has)),
  c.in_ok-publish.ensures.cause,
)

pub returns-clause-maps : goal.returns-clause-maps
returns-clause-maps g c = ap map_of c.in_ok-publish.ensures.maps ∙ same_maps c.args.maps.now c.mark_saved.new.maps c.mark_saved.ensures.same

pub returns-in_err-publish-clause-maps : goal.returns-in_err-publish-clause-maps
returns-in_err-publish-clause-maps g c = ap map_of c.in_err-publish.ensures.maps ∙ same_maps c.args.maps.now c.mark_saved.new.maps c.mark_saved.ensures.same

pub returns-clause-spare : goal.returns-clause-spare
returns-clause-spare g c = ap spare_of c.in_ok-publish.ensures.maps ∙ same_spare c.args.maps.now c.mark_saved.new.maps c.mark_saved.ensures.same

pub returns-in_err-publish-clause-spare : goal.returns-in_err-publish-clause-spare
returns-in_err-publish-clause-spare g c = ap spare_of c.in_err-publish.ensures.maps ∙ same_spare c.args.maps.now c.mark_saved.new.maps c.mark_saved.ensures.same

pub returns-clause-image : goal.returns-clause-image
returns-clause-image g c told records next carried used has =
    subst (λ (m : ℕ → Map). LeavesOnly g.D.Disk.moment g.D.Disk.left_since c.args.self.now.disk c.publish.new.self.disk (ImageOrCut c.args.self.now.log.size c.args.self.now.pages (g.D.Disk.seen c.args.self.now.disk)
    (record { saved = record { maps = m; definitions = c.args.catalog.now; commits = c.args.commits; next = next; carried = carried }; records = [] })))
    (same_maps c.args.maps.now c.mark_saved.new.maps c.mark_saved.ensures.same)
    (c.in_ok-publish.ensures.image told c.args.catalog.now records next carried used c.mark_saved.ensures.marks has)

pub returns-in_err-publish-clause-image : goal.returns-in_err-publish-clause-image
returns-in_err-publish-clause-image g c told records next carried used has =
    subst (λ (m : ℕ → Map). LeavesOnly g.D.Disk.moment g.D.Disk.left_since c.args.self.now.disk c.publish.new.self.disk (ImageOrCut c.args.self.now.log.size c.args.self.now.pages (g.D.Disk.seen c.args.self.now.disk)
    (record { saved = record { maps = m; definitions = c.args.catalog.now; commits = c.args.commits; next = next; carried = carried }; records = [] })))
    (same_maps c.args.maps.now c.mark_saved.new.maps c.mark_saved.ensures.same)
    (c.in_err-publish.ensures.image told c.args.catalog.now records next carried used c.mark_saved.ensures.marks has)

pub returns-clause-any_moment : goal.returns-clause-any_moment
returns-clause-any_moment g c records next carried used x has stands =
    image_leaves g.D.Disk.is_told g.D.Disk.moment g.D.Disk.left_since c.args.self.now.log.size c.args.self.now.pages (g.D.Disk.seen c.args.self.now.disk) (medium_of c.args.self.now) (medium_of c.publish.new.self) x
    (record { saved = record { maps = map_of c.args.maps.now; definitions = c.args.catalog.now; commits = c.args.commits; next = next; carried = carried }; records = [] })
    (λ told. returns-clause-image g c told records next carried used has) stands

pub returns-in_err-publish-clause-any_moment : goal.returns-in_err-publish-clause-any_moment
returns-in_err-publish-clause-any_moment g c records next carried used x has stands =
    image_leaves g.D.Disk.is_told g.D.Disk.moment g.D.Disk.left_since c.args.self.now.log.size c.args.self.now.pages (g.D.Disk.seen c.args.self.now.disk) (medium_of c.args.self.now) (medium_of c.publish.new.self) x
    (record { saved = record { maps = map_of c.args.maps.now; definitions = c.args.catalog.now; commits = c.args.commits; next = next; carried = carried }; records = [] })
    (λ told. returns-in_err-publish-clause-image g c told records next carried used has) stands
