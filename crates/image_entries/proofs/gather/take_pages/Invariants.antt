use Rattle.std.proofs.Common.{◌≡◌, [], length}
use Rattle.image_finding.specs.Reads.{IsOnlyRead}
use Rattle.image_entries.specs.Entries.{Gathers, found_before}
use Rattle.image_entries.proofs.gather.take_pages.Given as goal

abbrev pub invariant-loop-n : goal.invariant-loop-n
invariant-loop-n g l = record {
  page : length l.page ≡ 8192;
  faults : g.D.Disk.faults l.disk ≡ g.D.Disk.faults l.fn.disk;
  reads : IsOnlyRead g.D.Disk.is_told g.D.Disk.size_of g.D.Disk.seen g.D.Disk.may_leave g.D.Disk.moment g.D.Disk.left_since l.fn.disk l.disk;
  gathers : g.D.Disk.is_told → Gathers l.fn.entries.entries [] → Gathers l.entries.entries (found_before l.image.header.area_bytes l.image.map l.n (g.D.Disk.seen l.fn.disk));
}
