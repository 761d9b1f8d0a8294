use Rattle.std.proofs.Common.{◌≡◌, ℕ, ◌+◌, [], List, length}
use Rattle.iv_types.specs.Definitions.{Definitions}
use Rattle.iv_types.specs.declared.limit.TheConstants.{SEATS}
use Rattle.iv_meaning.specs.Objects.{schema_of}
use Rattle.txn_machine.specs.Counts.{told_need}
use Rattle.log_records.specs.Area.{Entry}
use Rattle.core_journal.specs.Records.{Records}
use Rattle.core_journal.specs.Cuts.{Cut}
use Rattle.core_recording.specs.Carrying.{done_at, CanCarryAll}
use Rattle.core_recording.specs.Carried.{AreCarried}
use Rattle.core_checkpoints.proofs.Parts.{left, part}
use Rattle.core_checkpoints.proofs.carrying.carry_kept.Given as goal

abbrev pub invariant-loop-session : goal.invariant-loop-session
invariant-loop-session g l = record {
  sized : length l.done ≡ SEATS;
  told : (definitions : Definitions) (rs : Records) (next : ℕ) (used : ℕ) → CanCarryAll definitions l.book.opens → g.J.Journal.carries l.fn.journal rs next [] used
      → (es : List Entry) × AreCarried (schema_of definitions) l.book.opens (done_at l.done) es × g.J.Journal.carries l.journal rs next es (used + part (schema_of definitions) l.book.opens (done_at l.done));
  bytes : (definitions : Definitions) → CanCarryAll definitions l.book.opens → l.bytes ≡ told_need (part (schema_of definitions) l.book.opens (done_at l.done));
  stands : (x : Cut) → g.J.Journal.stands_on l.fn.journal x → g.J.Journal.stands_on l.journal x;
  limit : g.J.Journal.limit l.journal ≡ g.J.Journal.limit l.fn.journal;
  medium : g.J.Journal.medium l.journal ≡ g.J.Journal.medium l.fn.journal;
}

abbrev pub decreases-loop-session : goal.decreases-loop-session
decreases-loop-session g l = left l.book.opens (done_at l.done)
