use Rattle.std.proofs.Common.{◌≡◌, ◌<◌, ◌∙◌, arith, rules, IsTrue}
use Rattle.slot_page.specs.Page.{count_of}
use Rattle.slot_page.proofs.Pages.{length-entries}
use Rattle.slot_page.proofs.is_leaf.Goals as goal

pub lies-requires-clause-inside : goal.lies-requires-clause-inside
lies-requires-clause-inside c = omega (arith, c.count-i-end.ensures, length-entries c.args.page.now)

pub returns-then-not-lies : goal.returns-then-not-lies
returns-then-not-lies c =
    let inside : c.loop-i.i < count_of c.args.page.now = omega (arith, c.count-i-end.ensures, length-entries c.args.page.now) in
    ((λ h. absurd (cc h)), λ leaf. let t : IsTrue c.lies.result = c.lies.ensures.1 (leaf.each c.loop-i.i inside) in let f = c.if-not-lies.true in absurd (cc (t, f)))

pub returns : goal.returns
returns c =
    let same : c.count-i-end.result ≡ count_of c.args.page.now = c.count-i-end.ensures ∙ length-entries c.args.page.now in
    ((λ h. record { kind = search rules; each = λ i lt. c.loop-i.invariant i (omega arith) }), λ leaf. let k = leaf.kind in search rules)
