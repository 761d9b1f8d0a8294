-- No clause of `run` rests on this module: it serves contracts between crates.
--
-- What is so in every state in which a core stands: each law speaks of all states that steps lead to.
use Rattle.std.specs.Prelude.{ℕ, Option}
use Rattle.iv_types.specs.Maps.{Map}
use Rattle.txn_machine.specs.State.{State}
use Rattle.txn_machine.specs.Laws.{IsReached, AbsentLaw, AnySubsetLaw, BoundsLaw, CommittedLaw, FetchLaw, FrameLaw, PartLaw, PeekLaw, RollBackLaw, ShareLaw, SnapshotLaw, StoredLaw}
use Rattle.txn_machine.specs.KeptLaws.{NotesLaw}
use Rattle.core_journal.specs.Records.{Records}
use Rattle.engine_core.specs.Standing.{IsIn}
use Rattle.engine_core.specs.declared.engine.Core.{Core}

pub record StandingLaws {M J : Type 0} (maps : M → ℕ → Map) (spare : M → ℕ → ℕ) (limit : M → Option ℕ) (has : J → Records → Type 0) (area : J → Option ℕ) (faults : J → ℕ) : Type 0 where
  -- a core stands only where steps lead
  pub reached : (core : Core M J) (s : State) → IsIn maps spare limit has area faults core s → IsReached s
  -- its rows, with the kept changes of open transactions taken back, are what was opened and then committed
  pub committed : CommittedLaw
  -- each of its view rows is the share of what is committed, evaluated afresh, and what open transactions paid; where no row is
  -- stored both are zeros, and no pay is kept
  pub view_rows : StoredLaw
  pub absent_rows : AbsentLaw
  -- what a transaction paid and owes is what its changes make of the view
  pub shares : ShareLaw
  -- whatever becomes of a column stays in range
  pub bounds : BoundsLaw
  -- what a Fetch answers is what its interval has in what is committed with the session's own changes; steps of others leave
  -- what the session may read by its locks, and its part; and its notes stay true
  pub readings : FetchLaw
  pub frame : FrameLaw
  pub parts : PartLaw
  pub notes : NotesLaw
  -- if some open transactions that owe nothing committed at once, the shares would be the view rows less the pays of the others
  pub any_subset : AnySubsetLaw
  -- what a snapshot is answered is what is read of what was committed at its number
  pub snapshots : SnapshotLaw
  pub peeks : PeekLaw
  -- undo is never refused
  pub undo : RollBackLaw
