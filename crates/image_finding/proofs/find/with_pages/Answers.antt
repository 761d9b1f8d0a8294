use Rattle.std.proofs.Common.{ℕ, List, sym, subst}
use Rattle.image_finding.specs.Maps.{AreLeaves}
use Rattle.image_finding.proofs.find.with_pages.Goals as goal

pub returns-in-Ok-clause-found : goal.returns-in-Ok-clause-found
returns-in-Ok-clause-found g c told stands scans = record {
  header = c.in-Ok.ensures.stands told stands;
  records = scans;
  map = c.in-Ok.ensures.map told;
  leaves = subst (λ (b : List ℕ). AreLeaves c.args.header.area_bytes c.args.header.pages b (g.D.Disk.seen c.args.disk.now)) (sym (c.in-Ok.ensures.map told)) (c.in-Ok.ensures.leaves told);
}

pub returns-in-Err-clause-refused : goal.returns-in-Err-clause-refused
returns-in-Err-clause-refused g c told stands = c.in-Err.ensures.refused told stands
