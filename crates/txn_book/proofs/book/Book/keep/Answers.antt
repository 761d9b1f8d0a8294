use Rattle.std.proofs.Common.{}
use Rattle.txn_book.proofs.Booking.{of_taken, changed}
use Rattle.txn_book.proofs.book.Book.keep.Goals as goal

pub returns : goal.returns
returns c =
    of_taken c.args.self.now c.args.session c.take-txn.result _ c.take-txn.ensures.taken
    (changed c.args.self.now c.take-txn.new.self c.put.new.self c.args.session _ _ c.take-txn.ensures.left c.put.ensures c.keep.ensures.kept)
