use Rattle.std.proofs.Common.{sym, ap, subst, ◌∙◌, arith}
use Rattle.txn_book.specs.Opens.{open_at}
use Rattle.txn_book.specs.Books.{Books, IsBook, how_many_open, open_bytes}
use Rattle.txn_book.specs.contracts.book.Book.{the_view}
use Rattle.txn_book.proofs.Booking.{has_place, set_at, bytes_left, fewer_left, book_left}
use Rattle.txn_book.proofs.book.Book.take.Goals as goal

pub invariant_of-self : goal.invariant_of-self
invariant_of-self c =
    let b : Books = the_view c.self.inside in
    subst (λ os. IsBook (record b { opens = os; seats = c.take.new.self.room })) (sym c.take.ensures.left)
    (book_left b c.self.invariant c.args.session c.take.result c.take.ensures.taken c.take.new.self.room)

pub returns-clause-place : goal.returns-clause-place
returns-clause-place c =
    let lt = has_place c.self.inside.opens.opens c.args.session c.take.result c.take.ensures.taken in
    omega (arith, lt, c.self.invariant.places)

pub returns-clause-none : goal.returns-clause-none
returns-clause-none c =
    ap (λ os. open_at os c.args.session) c.take.ensures.left
    ∙ set_at c.self.inside.opens.opens c.args.session _ (has_place c.self.inside.opens.opens c.args.session c.take.result c.take.ensures.taken)

pub returns-clause-bytes : goal.returns-clause-bytes
returns-clause-bytes c =
    let b : Books = the_view c.self.inside in
    let left = bytes_left b c.self.invariant c.args.session c.take.result c.take.ensures.taken in
    omega (arith, left, ap open_bytes c.take.ensures.left, ap (λ s. s.entry_bytes) c.self.view_is, ap (λ s. open_bytes s.opens) c.self.view_is)

pub returns-clause-room : goal.returns-clause-room
returns-clause-room c =
    let b : Books = the_view c.self.inside in
    let left = fewer_left b c.self.invariant c.args.session c.take.result c.take.ensures.taken in
    omega (arith, left, ap how_many_open c.take.ensures.left, c.self.invariant.room)
