use Rattle.std.proofs.Common.{◌≡◌, ℕ, List, ◌++◌, ◌∷◌, [], ◌∙◌, ap, sym, subst, OnOk}
use Rattle.turn_latch.specs.Histories.{of}
use Rattle.turn_latch.specs.Views.{seen_of}
use Rattle.latch_runs.specs.declared.book.Entry.{Entry}
use Rattle.latch_runs.specs.Books.{by, entry, history}
use Rattle.latch_runs.proofs.Added.{one_added}
use Rattle.latch_runs.proofs.pair.add_one.Goals as goal

pub returns-in-Ok-clause-added : goal.returns-in-Ok-clause-added
returns-in-Ok-clause-added g c = let t = c.in-Ok.ensures.turn in let n : ℕ = c.loop.seat.pass.me.0.number in let inv = c.loop.invariant in
    let m : c.number-number.result ≡ n = c.number-number.ensures ∙ sym inv.number in
    let h = one_added n c.number-number.result c.args.amount (seen_of history c.loop.seat.pass.me.0.seen) t.found.entries.items t.left.entries.items c.in-Ok.answer t.fits.mine m t.done in
    subst (λ (p : ℕ × List Entry × List Entry). OnOk c.in-Ok.answer (of by p.0 p.1 ≡ of by p.0 p.2 ++ entry p.0 c.args.amount ∷ [])) (λ i. (inv.number i, seen_of history (sym (ap (λ v. v.seen) t.knows) i), seen_of history (inv.seen i))) h
