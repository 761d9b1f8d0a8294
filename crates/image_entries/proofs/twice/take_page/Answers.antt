use Rattle.std.proofs.Common.{List, ◌++◌, ◌<◌, length, sym, subst, arith}
use Rattle.std.proofs.lemmas.List.{append-nil}
use Rattle.slot_page.specs.Page.{entries, count_of}
use Rattle.slot_page.proofs.Pages.{length-entries}
use Rattle.txn_log.specs.Damaged.{Found}
use Rattle.image_entries.specs.Entries.{Gathers}
use Rattle.image_entries.proofs.Pages.{first_all}
use Rattle.image_entries.proofs.Taking.{told_so, next_taken, next_twice}
use Rattle.image_entries.proofs.twice.take_page.Goals as goal

pub loop-i-init : goal.loop-i-init
loop-i-init c = λ fs gathers. subst (Gathers c.args.entries.now.entries) (sym (append-nil fs)) gathers

pub entry-requires-clause-lies : goal.entry-requires-clause-lies
entry-requires-clause-lies c =
    let whole : c.loop-i.i < count_of c.args.page.now = omega (arith, c.count-i-end.ensures, length-entries c.args.page.now, c.loop-i-test.true) in
    c.requires.leaf.each c.loop-i.i whole

pub loop-i-preserved : goal.loop-i-preserved
loop-i-preserved c = λ fs gathers.
    let inside : c.loop-i.i < length (entries c.args.page.now) = omega (arith, c.count-i-end.ensures, c.loop-i-test.true) in
    next_taken c.loop-i.entries.entries fs c.args.place c.index-of.result c.loop-i.i c.args.page.now c.entry.result.0.now c.entry.result.1.now inside c.index-of.ensures c.entry.ensures.key c.entry.ensures.value
    (c.loop-i.invariant fs gathers) c.take_entry.new.entries.entries c.in_default.ensures.new c.in_default.ensures.put

pub returns-in-Err-clause-twice : goal.returns-in-Err-clause-twice
returns-in-Err-clause-twice c = λ fs rest gathers.
    let inside : c.loop-i.i < length (entries c.args.page.now) = omega (arith, c.count-i-end.ensures, c.loop-i-test.true) in
    told_so c.in-Err.fault _ _
    (λ bad h. next_twice c.loop-i.entries.entries fs c.args.place c.index-of.result c.loop-i.i c.args.page.now c.entry.result.0.now c.entry.result.1.now inside c.index-of.ensures c.entry.ensures.key c.entry.ensures.value
    (c.loop-i.invariant fs gathers) rest bad h.0 h.1 h.2) c.in-Err.ensures.twice

pub returns-clause-taken : goal.returns-clause-taken
returns-clause-taken c = λ fs gathers.
    subst (λ (gs : List Found). Gathers c.loop-i.entries.entries (fs ++ gs)) (first_all c.args.place c.args.page.now c.loop-i.i (omega (arith, c.count-i-end.ensures, c.loop-i-test.false))) (c.loop-i.invariant fs gathers)
