-- No clause of `run` rests on this module: it serves contracts between crates.
--
-- The machine of transactions as its sessions see it.
use Rattle.std.specs.Prelude.{◌≡◌, ◌⊎◌, ℕ, ◌+◌, ◌==◌, not, false, length, List, [], ◌∷◌, Option, Some, None, IsSome}
use Rattle.std.specs.List.{Contains}
use Rattle.std.specs.Option.{option_map}
use Rattle.iv_types.specs.declared.refusal.Refusal.{Refusal}
use Rattle.iv_types.specs.declared.refusal.EngineRefusal.{EngineRefusal}
use Rattle.iv_meaning.specs.Schema.{Schema, numbered}
use Rattle.iv_meaning.specs.Escrow.{IsSession}
use Rattle.iv_meaning.specs.Database.{Database}
use Rattle.iv_meaning.specs.Said.{Said}
use Rattle.iv_meaning.specs.Serial.{opened_with, IsSerialFrom}
use Rattle.table_laws.specs.Place.{Place}
use Rattle.txn_machine.specs.Acts as act
use Rattle.txn_machine.specs.Acts.{Act}
use Rattle.txn_machine.specs.Answers.{Answer}
use Rattle.txn_machine.specs.Deltas.{RowChange}
use Rattle.txn_machine.specs.Keeping.{KeptStep, Put, Pay, Open}
use Rattle.txn_machine.specs.Stored.{ViewRows}
use Rattle.txn_machine.specs.Locks.{IsInTheWay}
use Rattle.txn_machine.specs.Store.{opened, schema_of, now, locks_of}
use Rattle.txn_machine.specs.May.{MayLock, MayPeek, MayPut, IsCreate, IsWritten, MayAct}
use Rattle.txn_machine.specs.Ghosts.{IsCleanable}
use Rattle.txn_machine.specs.Log.{Opening}
use Rattle.txn_machine.specs.State.{State, opened_state}
use Rattle.txn_machine.specs.Steps.{Step}
use Rattle.txn_machine.specs.Alone.{Fact, Story, story_after, begun_story}
use Rattle.txn_machine.specs.Laws.{IsOpened}
use Rattle.script_law.specs.Seen.{Txn, Visible, MayWant}
use Rattle.script_law.specs.Programs.{Todo, Programs, ProgramLaws}
use Rattle.script_law.specs.RunLines.{waiting, Table, RunsLine, RunsScript, all_sessions, all_removed, CleansLine}
use Rattle.script_law.specs.Laws.{AreEngines}

-- of kept steps: a change, or a pay
abbrev pub kept_seen : List KeptStep → List (Option RowChange)
kept_seen [] = []
kept_seen (Put c owed ∷ ks) = Some c ∷ kept_seen ks
kept_seen (Pay d ∷ ks) = None ∷ kept_seen ks

abbrev pub txn_seen : Schema → List Fact → Open → Txn
txn_seen objects told o = record { mode = o.mode; number = o.number; objects = objects; told = told; kept = kept_seen o.kept; owed = length o.owed; is_back = not (o.back == 0) }

abbrev pub seen_of : Story → Visible
seen_of story = record {
  origin = story.state.store.origin;
  history = story.state.store.history;
  open_of = λ session. option_map (txn_seen (schema_of story.state.store) (story.told session)) (story.state.store.open_of session);
}

-- a step of the machine, with what its session was told
abbrev pub DoesOf : Story → ℕ → Act → Answer → Story → Type 0
DoesOf story session a said after = (s : State) × Step story.state session a said s × (after ≡ story_after story (record { session = session; act = a; said = said }) s)

abbrev pub IsStopped : Story → Type 0
IsStopped story = IsSome story.state.stop

-- the act fits what is defined and stored
abbrev pub IsFitting : Story → Act → Type 0
IsFitting story (act.Fetch index interval lock) = MayLock lock (numbered (schema_of story.state.store) index)
IsFitting story (act.Peek index interval) = MayPeek (numbered (schema_of story.state.store) index)
IsFitting story (act.Put table key new) = MayPut story.state.store table key new
IsFitting story (act.Schema statement) = IsCreate statement × IsWritten statement
IsFitting story a = Unit {0}

-- no deadlock met the session's transaction, or the step takes it back or ends it
abbrev pub IsAlive : Story → ℕ → Act → Type 0
IsAlive story session act.UndoOne = Unit {0}
IsAlive story session act.End = Unit {0}
IsAlive story session a = (now story.state.store session).is_lost ≡ false

-- what may be asked for as far as a session sees may be asked of the machine
abbrev pub MayLaw : Type 0
MayLaw = (story : Story) (session : ℕ) (a : Act) → IsSession session → IsAlive story session a → IsFitting story a
    → MayWant ((seen_of story).open_of session) a → MayAct story.state.store session a

-- what the session waits for is locked by another session
abbrev pub IsHindered : Story → ℕ → Type 0
IsHindered story session = (other : ℕ) × IsInTheWay (locks_of story.state.store) session (story.state.waiting session) other

-- after each line each session whose line waits is hindered so
abbrev pub HinderedLaw : Type 0
HinderedLaw = (programs : Programs) (tell : EngineRefusal → Refusal) (said : Said) (table after_table : Table) (s after : Story) (piece : List ℕ)
    → RunsLine DoesOf programs tell all_sessions said table s piece after_table after → (session : ℕ) → Contains all_sessions session
    → (todo : Todo) → (after_table session).line ≡ waiting todo → IsHindered after session

-- a `clean` that is answered a count removed so many ghosts, and none is left that could be removed
abbrev pub CleanLaw : Type 0
CleanLaw = (programs : Programs) (tell : EngineRefusal → Refusal) (s after : Story) (count : ℕ) → CleansLine DoesOf programs tell s (all_removed count) after
    → (after.state.cleaner.removed ≡ s.state.cleaner.removed + count) × ((place : Place) → IsCleanable after.state.store place → ⊥)

-- What a script prints that is run over the machine, from an opened database, is serial; after its end no transaction is open, unless
-- the engine is stopped.
abbrev pub MachineLaw : Type 0
MachineLaw = (programs : Programs) (tell : EngineRefusal → Refusal) → ProgramLaws programs → AreEngines tell
    → (db : Database) (view : ViewRows) (opening : Opening) → IsOpened db view → (lines : List Said) (out : List ℕ) (after : Story)
    → RunsScript DoesOf programs tell seen_of lines (begun_story (opened_state opening (opened db view))) out after
    → IsSerialFrom (opened_with db) lines out
    × ((session : ℕ) → Contains all_sessions session → ((seen_of after).open_of session ≡ None) ⊎ IsStopped after)
