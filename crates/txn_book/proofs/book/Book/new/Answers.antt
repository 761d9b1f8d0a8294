use Rattle.std.proofs.Common.{◌-◌, length, vec_capacity, sym, subst}
use Rattle.txn_book.specs.Books.{IsBook}
use Rattle.txn_book.proofs.Booking.{new_book}
use Rattle.txn_book.proofs.book.Book.new.Goals as goal

pub invariant_of-result : goal.invariant_of-result
invariant_of-result c =
    subst (λ es. IsBook (record { opened = c.args.number; opens = c.in_ok-opens.opens.opens; history = es; entry_bytes = 0; room = vec_capacity c.new-2.result - length c.new-2.result.items; seats = c.in_ok-opens.opens.room }))
    (sym c.new-2.ensures.items)
    (new_book c.args.number (vec_capacity c.new-2.result - length c.new-2.result.items) c.in_ok-opens.opens.room c.in_ok-opens.opens.opens c.requires c.in_ok-opens.ensures.places c.in_ok-opens.ensures.none)
