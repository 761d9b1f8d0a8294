-- No clause of `run` rests on this module: it serves contracts between crates.
--
-- Answers as they are taken apart.
use Rattle.std.specs.Prelude.{◌≡◌, ℕ, List, Option, Result, Ok, Err}
use Rattle.iv_types.specs.declared.lock.GroupDelta.{GroupDelta}
use Rattle.iv_types.specs.declared.refusal.EngineRefusal.{EngineRefusal}
use Rattle.iv_types.specs.Definitions.{Definitions}
use Rattle.iv_meaning.specs.Objects.{schema_of}
use Rattle.iv_meaning.specs.Database.{Row}
use Rattle.txn_machine.specs.Answers as answer
use Rattle.txn_machine.specs.Answers.{Answer}
use Rattle.txn_sessions.specs.declared.answers.Paid.{Paid}
use Rattle.txn_sessions.specs.declared.answers.Paid.TheVariants as paid
use Rattle.txn_sessions.specs.declared.answers.Created.{Created}
use Rattle.txn_sessions.specs.declared.answers.Created.TheVariants as created

abbrev pub WasBegun : Result (ℕ × ℕ) EngineRefusal → Answer → Type 0
WasBegun (Ok x) said = said ≡ answer.Begun x.0 x.1
WasBegun (Err why) said = said ≡ answer.Refused why

abbrev pub WasDefs : Result Definitions EngineRefusal → Answer → Type 0
WasDefs (Ok catalog) said = said ≡ answer.Defs (schema_of catalog)
WasDefs (Err why) said = said ≡ answer.Refused why

abbrev pub WasRows : Result (List Row) EngineRefusal → Answer → Type 0
WasRows (Ok rows) said = said ≡ answer.Rows rows
WasRows (Err why) said = said ≡ answer.Refused why

abbrev pub WasChanged : Result (Option Row × List GroupDelta) EngineRefusal → Answer → Type 0
WasChanged (Ok x) said = said ≡ answer.Changed x.0 x.1
WasChanged (Err why) said = said ≡ answer.Refused why

abbrev pub WasPaid : Paid → Answer → Type 0
WasPaid paid.Done said = (left : ℕ) × (said ≡ answer.Paid left)
WasPaid paid.NeedsGhost said = said ≡ answer.NeedsGhost
WasPaid (paid.Refused why) said = said ≡ answer.Refused why

abbrev pub WasGhosted : Result (Unit {0}) EngineRefusal → Answer → Type 0
WasGhosted (Ok u) said = said ≡ answer.Ghosted
WasGhosted (Err why) said = said ≡ answer.Refused why

abbrev pub WasUndone : Result (Unit {0}) EngineRefusal → Answer → Type 0
WasUndone (Ok u) said = (left : ℕ) × (said ≡ answer.Undone left)
WasUndone (Err why) said = said ≡ answer.Refused why

abbrev pub WasEnded : Result (Unit {0}) EngineRefusal → Answer → Type 0
WasEnded (Ok u) said = said ≡ answer.Ended
WasEnded (Err why) said = said ≡ answer.Refused why

abbrev pub WasCommitted : Result ℕ EngineRefusal → Answer → Type 0
WasCommitted (Ok number) said = said ≡ answer.Committed number
WasCommitted (Err why) said = said ≡ answer.Refused why

abbrev pub WasCreated : Created → Answer → Type 0
WasCreated (created.Committed number) said = said ≡ answer.Committed number
WasCreated (created.Denied why) said = said ≡ answer.Denied why
WasCreated (created.Refused why) said = said ≡ answer.Refused why
