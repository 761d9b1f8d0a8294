use Rattle.std.proofs.Common.{◌≡◌, ℕ, suc, ◌+◌, List, ◌++◌, get_or, refl, sym, subst, rules, arith}
use Rattle.image_finding.specs.Faults.{told_by}
use Rattle.image_finding.specs.Images.{HasImage}
use Rattle.image_finding.proofs.OnlyReads.{no_read, read_on}
use Rattle.image_entries.specs.Entries.{found_on, found_before, Gathers, TellsTwice}
use Rattle.image_entries.proofs.Apart.{page_tells}
use Rattle.image_entries.proofs.gather.take_pages.Goals as goal

pub loop-n-init : goal.loop-n-init
loop-n-init g c = record { page = c.requires.page; faults = refl; reads = no_read; gathers = λ told start. start }

pub loop-n-preserved : goal.loop-n-preserved
loop-n-preserved g c =
    let l = c.loop-n in
    let image = c.args.image.now in
    let room = image.header.area_bytes in
    let one : suc l.n ≡ l.n + 1 = omega arith in
    record {
      page = c.take_next.ensures.page;
      faults = search rules;
      reads = read_on l.invariant.reads c.take_next.ensures.only_read;
      gathers = λ told start.
          let s = g.D.Disk.seen c.args.disk.now in
          subst (λ m. Gathers c.take_next.new.entries.entries (found_before room image.map m s)) one
          (subst (λ (b : List ℕ). Gathers c.take_next.new.entries.entries (found_before room image.map l.n s ++ found_on room l.n (get_or image.map l.n 0) b)) (l.invariant.reads.same_bytes told)
          (c.in_default.ensures.taken told (found_before room image.map l.n s) (l.invariant.gathers told start)));
    }

pub returns-in-Err-clause-twice : goal.returns-in-Err-clause-twice
returns-in-Err-clause-twice g c = λ told has start.
    let l = c.loop-n in
    let image = c.args.image.now in
    let room = image.header.area_bytes in
    let s = g.D.Disk.seen c.args.disk.now in
    let same = l.invariant.reads.same_bytes told in
    page_tells image s l.n (omega arith) c.in-Err.fault (λ rest.
    subst (λ (b : List ℕ). told_by c.in-Err.fault (λ bad. TellsTwice (found_before room image.map l.n s ++ (found_on room l.n (get_or image.map l.n 0) b ++ rest)) bad)) same
    (c.in-Err.ensures.twice told (subst (λ (b : List ℕ). HasImage b image) (sym same) has) (found_before room image.map l.n s) rest (l.invariant.gathers told start)))

pub returns-clause-taken : goal.returns-clause-taken
returns-clause-taken g c = λ told start.
    let l = c.loop-n in
    let image = c.args.image.now in
    let end : l.n ≡ image.header.pages = omega arith in
    subst (λ m. Gathers l.entries.entries (found_before image.header.area_bytes image.map m (g.D.Disk.seen c.args.disk.now))) end (l.invariant.gathers told start)
