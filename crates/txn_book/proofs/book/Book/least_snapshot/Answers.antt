use Rattle.std.proofs.Common.{◌≡◌, ◌+◌, ◌-◌, suc, arith, ap, sym, subst, ◌∙◌}
use Rattle.txn_book.specs.Opens.{open_at}
use Rattle.txn_book.specs.Books.{least_snapshot, number_of}
use Rattle.txn_book.proofs.book.Book.least_snapshot.Goals as goal

pub loop-done-init : goal.loop-done-init
loop-done-init c = ap (least_snapshot c.args.self.now.opens 64) c.number-least.ensures

pub loop-done-preserved : goal.loop-done-preserved
loop-done-preserved c =
    let n = 64 - (c.loop-done.done + 1) in
    let lt = c.loop-done-test.true in
    let left : 64 - c.loop-done.done ≡ suc n = omega (arith, lt) in
    let before = subst (λ k. least_snapshot c.args.self.now.opens k c.loop-done.least ≡ least_snapshot c.args.self.now.opens 64 (number_of c.args.self.now)) left c.loop-done.invariant in
    let at = ap (open_at c.args.self.now.opens) (sym left) ∙ ap (λ b. open_at b.opens (64 - c.loop-done.done)) (sym c.self.view_is) ∙ sym c.get.ensures in
    sym (c.lesser-least.ensures c.args.self.now.opens n at) ∙ before

pub returns : goal.returns
returns c =
    let left : 0 ≡ 64 - c.loop-done.done = omega (arith, c.loop-done-test.false) in
    ap (λ k. least_snapshot c.args.self.now.opens k c.loop-done.least) left ∙ c.loop-done.invariant
