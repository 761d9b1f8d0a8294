use Rattle.std.proofs.Common.{refl}
use Rattle.image_finding.proofs.pages.check_map.Goals as goal

pub returns-in-Some-clause-high : goal.returns-in-Some-clause-high
returns-in-Some-clause-high c = record {
  page = c.in-Some.n;
  inside = c.in-Some.ensures.found.0;
  high = c.in-Some.ensures.found.1;
  first = c.in-Some.ensures.first;
  rule = refl;
  place = refl;
}
