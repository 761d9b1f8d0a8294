use Rattle.std.proofs.Common.{◌≡◌, ◌+◌, ◌-◌, ◌*◌, take, drop, ◌<◌, ◌≤◌, ℕ, List, length, get_or, false, if◌then◌else◌, Some, None, rules, sym, ◌∙◌, ap, arith}
use Rattle.disk_io.specs.Disk.{part}
use Rattle.page_store.specs.Image.{named}
use Rattle.page_store.specs.Kept.{IsByte}
use Rattle.page_store.proofs.Ranges.{range_part}
use Rattle.page_store.proofs.Runs.{keeps_then}
use Rattle.page_store.proofs.Loop.{as_first, done_step, rest_step, ahead_step, same_step}
use Rattle.page_store.proofs.pages.write_pages.Goals as goal

pub returns-in_err-header-clause-crash : goal.returns-in_err-header-clause-crash
returns-in_err-header-clause-crash g c k s beside guards =
    let a = c.args in
    let l = c.loop-p in
    let n = length a.stored.now in
    let one = l.invariant.crash k s beside guards in
    let byte : IsByte a.room n k s l.p (get_or l.header (64 + l.p) 0) = record { names = beside.names; inside = omega arith; is = l.invariant.rest l.p (omega arith) ∙ beside.map l.p (omega arith) } in
    keeps_then g.D.Disk.moment g.D.Disk.left_since g.D.Disk.may_leave a.room n k s a.disk.now l.disk c.write_stored.new.disk one (c.write_stored.ensures.crash n k s byte one.guards)

pub loop-p-preserved : goal.loop-p-preserved
loop-p-preserved g c =
    let laws = g.met.D.Disk in
    let a = c.args in
    let l = c.loop-p in
    let n = length a.stored.now in
    let p = l.p in
    let d = g.D.Disk.seen l.disk in
    let d' = g.D.Disk.seen c.write_stored.new.disk in
    let first = g.D.Disk.seen a.disk.now in
    let b = c.in_ok-header.field-0 in
    let m = get_or l.header (64 + p) 0 in
    let is_m : m ≡ get_or a.header.now (64 + p) 0 = l.invariant.rest p (omega arith) in
    let inside : p < n = omega arith in
    let long : 64 + p < length l.header = omega arith in
    let page : take (8192 * p + 8192 - 8192 * p) (drop (8192 * p) a.bytes.now) ≡ part (8192 * p) 8192 a.bytes.now = range_part (8192 * p) 8192 a.bytes.now in
    let page_is = ap (λ (x : List ℕ). if get_or a.stored.now p false then Some x else None) page in
    record {
      done = λ told low tracks.
          let size = laws.has_size told l.disk ∙ l.invariant.size ∙ c.requires.disk in
          let sizes = size ∙ sym (laws.has_size told a.disk.now ∙ c.requires.disk) in
          let low_m : m ≤ 2 = omega (arith, is_m, low p inside) in
          let wrote = c.in_ok-header.ensures.page told low_m (λ is unmarked.
          as_first a.room p n d first size inside sizes (l.invariant.ahead told) m low_m
          ∙ ap (λ x. named a.room p x first) is_m ∙ tracks p inside is unmarked
          ∙ ap (λ b. if b then Some (part (8192 * p) 8192 a.bytes.now) else None) is ∙ ap Some (sym page)) in
          done_step a.room p b n l.header a.header.now a.bytes.now d d' a.stored.now size inside long (c.in_ok-header.ensures.elsewhere told) (wrote.0, wrote.1 ∙ page_is) (l.invariant.done told low tracks);
      same = λ told low.
          let size = laws.has_size told l.disk ∙ l.invariant.size ∙ c.requires.disk in
          let sizes = size ∙ sym (laws.has_size told a.disk.now ∙ c.requires.disk) in
          let low_m : m ≤ 2 = omega (arith, is_m, low p inside) in
          same_step a.room p b n l.header a.header.now a.bytes.now d d' a.stored.now size inside long (c.in_ok-header.ensures.elsewhere told) first sizes (l.invariant.ahead told) (low p inside)
          (λ is. c.in_ok-header.ensures.unchanged told low_m (ap (λ x. named a.room p x d) is_m ∙ is ∙ sym page_is) ∙ is_m)
          (l.invariant.same told low);
      rest = rest_step p b l.header a.header.now l.invariant.rest;
      ahead = λ told.
          let size = laws.has_size told l.disk ∙ l.invariant.size ∙ c.requires.disk in
          ahead_step a.room p b n l.header a.header.now a.bytes.now d d' a.stored.now size inside long (c.in_ok-header.ensures.elsewhere told) first (l.invariant.ahead told);
      slot = search rules;
      size = search rules;
      old = λ told k s beside old.
          let byte : IsByte a.room n k s p m = record { names = beside.names; inside = inside; is = is_m ∙ beside.map p inside } in
          c.in_ok-header.ensures.old told n k s byte (l.invariant.old told k s beside old);
      crash = λ k s beside guards.
          let one = l.invariant.crash k s beside guards in
          let byte : IsByte a.room n k s p m = record { names = beside.names; inside = inside; is = is_m ∙ beside.map p inside } in
          keeps_then g.D.Disk.moment g.D.Disk.left_since g.D.Disk.may_leave a.room n k s a.disk.now l.disk c.write_stored.new.disk one (c.write_stored.ensures.crash n k s byte one.guards);
      faults = search rules;
    }
