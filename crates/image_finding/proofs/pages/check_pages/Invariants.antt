use Rattle.std.proofs.Common.{◌≡◌, length}
use Rattle.image_finding.specs.Reads.{IsOnlyRead}
use Rattle.image_finding.specs.Maps.{AreLeaves}
use Rattle.image_finding.proofs.pages.check_pages.Given as goal

abbrev pub invariant-loop-n : goal.invariant-loop-n
invariant-loop-n g l = record {
  page : length l.page ≡ 8192;
  faults : g.D.Disk.faults l.disk ≡ g.D.Disk.faults l.fn.disk;
  reads : IsOnlyRead g.D.Disk.is_told g.D.Disk.size_of g.D.Disk.seen g.D.Disk.may_leave g.D.Disk.moment g.D.Disk.left_since l.fn.disk l.disk;
  leaves : g.D.Disk.is_told → AreLeaves l.header.area_bytes l.n l.map (g.D.Disk.seen l.fn.disk);
}
