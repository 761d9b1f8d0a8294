use Rattle.std.proofs.Common.{◌≡◌, ◌+◌, ◌≤◌, ◌<◌, ◌^◌, None, sym, subst}
use Rattle.txn_book.specs.Opens.{open_at}
use Rattle.txn_book.specs.Books.{Books, IsBook, how_many_open, total_bytes}
use Rattle.txn_book.specs.contracts.book.Book.{the_view}
use Rattle.txn_book.proofs.Booking.{book_with}
use Rattle.txn_book.proofs.book.Book.put.Goals as goal

pub invariant_of-self : goal.invariant_of-self
invariant_of-self c =
    let b : Books = the_view c.self.inside in
    subst (λ os. IsBook (record b { opens = os; seats = c.put.new.self.room })) (sym c.put.ensures)
    (book_with b c.self.invariant c.args.session c.args.txn c.requires.place
    (subst (λ x. open_at x.opens c.args.session ≡ None) (sym c.self.view_is) c.requires.none)
    c.requires.roomy
    (subst (λ x. total_bytes x + c.args.txn.history_bytes < 2 ^ 64) (sym c.self.view_is) c.requires.fits)
    (subst (λ x. how_many_open x.opens + 1 ≤ x.room) (sym c.self.view_is) c.requires.room)
    c.put.new.self.room)
