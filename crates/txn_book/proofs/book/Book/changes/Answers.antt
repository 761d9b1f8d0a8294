use Rattle.std.proofs.Common.{◌≡◌, ◌+◌, arith, ap, sym, ◌∙◌, length, take}
use Rattle.std.specs.Prelude.{sum_by}
use Rattle.txn_book.specs.Opens.{open_at}
use Rattle.txn_book.specs.Books.{puts_of}
use Rattle.txn_book.proofs.Booking.{opens_more, opens_within, opens_all}
use Rattle.txn_book.proofs.book.Book.changes.Goals as goal

places : (c : goal.After-puts_of-sum) → length c.args.self.now.opens ≡ 65
places c = ap (λ b. length b.opens) (sym c.self.view_is) ∙ c.self.invariant.places

-- with this session's transaction
more : (c : goal.After-puts_of-sum) → sum_by puts_of (take (c.loop-session.session + 1) c.args.self.now.opens) ≡ sum_by puts_of (take c.loop-session.session c.args.self.now.opens) + c.puts_of-sum.result
more c =
    opens_more puts_of c.args.self.now.opens c.loop-session.session _ (omega (arith, places c, c.loop-session-test.true)) (ap (λ b. open_at b.opens c.loop-session.session) (sym c.self.view_is) ∙ sym c.get.ensures)
    ∙ ap (λ n. sum_by puts_of (take c.loop-session.session c.args.self.now.opens) + n) (sym c.puts_of-sum.ensures)

pub overflow_add-sum : goal.overflow_add-sum
overflow_add-sum c =
    let inv = c.loop-session.invariant in
    let m = more c in
    let all = opens_within puts_of c.args.self.now.opens (c.loop-session.session + 1) in
    let fits = c.requires in
    omega (arith, inv, m, all, fits)

pub loop-session-preserved : goal.loop-session-preserved
loop-session-preserved c =
    let inv = c.loop-session.invariant in
    let m = more c in
    omega (arith, inv, m)

pub returns : goal.returns
returns c =
    let inv = c.loop-session.invariant in
    let places = ap (λ b. length b.opens) (sym c.self.view_is) ∙ c.self.invariant.places in
    let all = opens_all puts_of c.args.self.now.opens c.loop-session.session (omega (arith, places, c.loop-session-test.false)) in
    omega (arith, inv, all)
