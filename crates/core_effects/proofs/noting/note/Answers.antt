use Rattle.std.proofs.Common.{◌≡◌, ◌+◌, ◌≤◌, Some, sym, subst, ◌∙◌, arith}
use Rattle.txn_machine.specs.Counts.{most_of_transaction}
use Rattle.txn_book.specs.declared.open_table.Open.{Open}
use Rattle.core_effects.proofs.Noted.{noted_holds}
use Rattle.core_effects.proofs.noting.note.Goals as goal

pub returns-clause-holds : goal.returns-clause-holds
returns-clause-holds g c = λ s l texts a n h o size last. noted_holds g.M.SortedMaps.maps g.M.SortedMaps.spare g.M.SortedMaps.limit c.args.core.now s l texts c.args.session h o a n c.args.bytes c.note.new.self c.book_law.ensures
    (λ t there. let same : t ≡ c.requires.fits.0 = let one : Some t ≡ Some c.requires.fits.0 = sym there ∙ c.requires.fits.1 in cc in subst (λ (x : Open). x.txn_bytes + c.args.bytes ≤ most_of_transaction) (sym same) c.requires.fits.2)
    c.note.ensures size last

pub note-requires : goal.note-requires
note-requires g c = let room : c.requires.fits.0.txn_bytes + c.args.bytes ≤ most_of_transaction = c.requires.fits.2 in (c.requires.fits.0, c.requires.fits.1, omega (arith, room))
