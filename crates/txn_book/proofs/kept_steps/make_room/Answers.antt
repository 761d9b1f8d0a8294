use Rattle.std.proofs.Common.{refl}
use Rattle.txn_book.proofs.Coming.{roomier}
use Rattle.txn_book.proofs.kept_steps.make_room.Goals as goal

pub returns-in_err-reserve-3-clause-roomy : goal.returns-in_err-reserve-3-clause-roomy
returns-in_err-reserve-3-clause-roomy c =
    roomier c.args.txn.now _ c.reserve.ensures.items c.reserve-2.ensures.items c.reserve-3.ensures.items refl refl refl c.reserve.ensures.capacity c.reserve-2.ensures.capacity c.reserve-3.ensures.capacity c.requires.roomy

pub returns-clause-roomy : goal.returns-clause-roomy
returns-clause-roomy c =
    roomier c.args.txn.now _ c.reserve.ensures.items c.reserve-2.ensures.items c.reserve-3.ensures.items refl refl refl c.reserve.ensures.capacity c.reserve-2.ensures.capacity c.reserve-3.ensures.capacity c.requires.roomy
