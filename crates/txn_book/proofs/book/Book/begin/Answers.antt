use Rattle.std.proofs.Common.{ap, sym, ◌∙◌}
use Rattle.txn_book.specs.Txns.{begun}
use Rattle.txn_book.specs.Books.{number_of}
use Rattle.txn_book.proofs.Booking.{begun_so, same_number}
use Rattle.txn_book.proofs.book.Book.begin.Goals as goal

pub returns-clause-ok : goal.returns-clause-ok
returns-clause-ok c =
    let number_same = ap number_of c.self.view_is ∙ same_number c.args.self.now c.reserve_entry.new.self c.reserve_entry.ensures.same in
    begun_so c.args.self.now c.reserve_entry.new.self _ c.put-2.new.self c.args.session _ _ c.reserve_entry.ensures.same
    (sym (ap (λ b. b.opens) c.self.view_is) ∙ sym c.reserve.ensures.opens) (sym (ap (λ b. b.opened) c.self.view_is)) (sym (ap (λ b. b.history) c.self.view_is)) (sym (ap (λ b. b.entry_bytes) c.self.view_is))
    c.put-2.ensures (c.opened.ensures.txn ∙ ap (λ n. begun c.args.mode n c.args.id) (c.number-number.ensures ∙ number_same))
