use Rattle.std.proofs.Common.{get_or, refl, subst, rules, arith, below_more}
use Rattle.page_store.specs.Image.{named}
use Rattle.image_finding.specs.Headers.{as_header}
use Rattle.image_finding.specs.Maps.{IsLeafIf, IsNoLeaf}
use Rattle.image_finding.specs.Faults.{told_by}
use Rattle.image_finding.proofs.OnlyReads.{no_read, read_on}
use Rattle.image_finding.proofs.Paging.{pages_pass}
use Rattle.image_finding.proofs.Outcomes.{no_leaf_refused}
use Rattle.image_finding.proofs.pages.check_pages.Goals as goal

pub loop-n-init : goal.loop-n-init
loop-n-init g c = record { page = c.requires.page; faults = refl; reads = no_read; leaves = λ told n lt. absurd (omega (arith, lt)) }

pub loop-n-preserved : goal.loop-n-preserved
loop-n-preserved g c =
    let l = c.loop-n in
    record {
      page = c.check_page.ensures.page;
      faults = search rules;
      reads = read_on l.invariant.reads c.check_page.ensures.only_read;
      leaves = λ told. below_more _ _ (l.invariant.leaves told)
          (subst (λ b. IsLeafIf (named c.args.header.now.area_bytes l.n (get_or c.args.map.now l.n 0) b)) (l.invariant.reads.same_bytes told) (c.in_default.ensures.leaf told));
    }

pub returns-in-Err-clause-refused : goal.returns-in-Err-clause-refused
returns-in-Err-clause-refused g c told is stands =
    let l = c.loop-n in
    let s = g.D.Disk.seen c.args.disk.now in
    let map = c.args.map.now in
    no_leaf_refused s (as_header c.args.header.now) stands map is l.n (omega arith) (l.invariant.leaves told) c.in-Err.fault
    (subst (λ b. told_by c.in-Err.fault (λ bad. IsNoLeaf c.args.header.now.area_bytes l.n (get_or map l.n 0) b bad)) (l.invariant.reads.same_bytes told) (c.in-Err.ensures.none told))

pub returns-clause-stands : goal.returns-clause-stands
returns-clause-stands g c told is stands =
    pages_pass (g.D.Disk.seen c.args.disk.now) (as_header c.args.header.now) stands c.args.map.now is (λ n lt. c.loop-n.invariant.leaves told n (omega (arith, lt)))
