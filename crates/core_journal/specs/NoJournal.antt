-- No clause of `run` rests on this module: it serves contracts between crates.
--
-- The journal of an engine without a disk.
use Rattle.std.specs.Prelude.{ℕ, ◌<◌, ◌^◌, List, Option}
use Rattle.std.proofs.Common.{arith}
use Rattle.log_records.specs.Area.{Entry}
use Rattle.core_journal.specs.Records.{Records}
use Rattle.core_journal.specs.Cuts.{Cut}
use Rattle.core_journal.specs.declared.none.NoJournal.{NoJournal}

-- it keeps nothing, so that whatever records were given are those that it has
abbrev pub has_any : NoJournal → Records → Type 0
has_any journal rs = Unit {0}

abbrev pub carries_any : NoJournal → Records → ℕ → List Entry → ℕ → Type 0
carries_any journal rs next es used = Unit {0}

-- a crash leaves nothing of it, whatever it has
abbrev pub stands_on_any : NoJournal → Cut → Type 0
stands_on_any journal x = Unit {0}

abbrev pub leaves_any : Unit {0} → Unit {0} → Cut → Cut → Type 0
leaves_any old new x y = Unit {0}

-- the limit that it was made with
abbrev pub limit_of : NoJournal → Option ℕ
limit_of journal = journal.limit

-- no faults are few
pub none_below : 0 < 2 ^ 64
none_below = omega arith
