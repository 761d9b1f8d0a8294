-- No clause of `run` rests on this module: it serves contracts between crates.
--
-- The transcript law.
use Rattle.std.specs.Prelude.{◌≡◌, ◌⊎◌, ℕ, List, [], None, IsTrue}
use Rattle.std.specs.List.{Contains}
use Rattle.iv_types.specs.declared.refusal.Refusal.{Refusal}
use Rattle.iv_types.specs.declared.refusal.EngineRefusal.{EngineRefusal}
use Rattle.iv_meaning.specs.Database.{Database}
use Rattle.iv_meaning.specs.Said.{Said}
use Rattle.iv_meaning.specs.Serial.{opened_with, IsSerialFrom, is_engines}
use Rattle.txn_machine.specs.Acts.{Act}
use Rattle.txn_machine.specs.Answers.{Answer}
use Rattle.script_law.specs.Seen.{Visible, StepLaws}
use Rattle.script_law.specs.Programs.{Programs, ProgramLaws}
use Rattle.script_law.specs.RunLines.{RunsScript, all_sessions}
use Rattle.script_law.specs.Works.{Works, WorkLaws}
use Rattle.script_law.specs.Sessions.{programs_of}

-- nothing was committed since this database was opened, and no transaction is open
pub record IsNew (db : Database) (v : Visible) : Type 0 where
  pub origin_is : v.origin ≡ db
  pub none_committed : v.history ≡ []
  pub none_open : (session : ℕ) → v.open_of session ≡ None

-- a refusal of the cleaner's steps is told as one of the engine's
abbrev pub AreEngines : (EngineRefusal → Refusal) → Type 0
AreEngines tell = (why : EngineRefusal) → IsTrue (is_engines (tell why))

-- what a run of lines prints is serial
abbrev pub TranscriptLaw : {S : Type 0} → (S → Visible) → (S → ℕ → Act → Answer → S → Type 0) → (Stands Halts : S → Type 0) → Programs → (EngineRefusal → Refusal) → Type 0
TranscriptLaw {S} view Does Stands Halts programs tell =
    StepLaws view Does Stands Halts → ProgramLaws programs → AreEngines tell → (db : Database) (lines : List Said) (s after : S) (out : List ℕ)
    → Stands s → IsNew db (view s) → RunsScript Does programs tell view lines s out after → IsSerialFrom (opened_with db) lines out

-- a session has no open transaction after the end of the input, unless the engine is stopped
abbrev pub EndLaw : {S : Type 0} → (S → Visible) → (S → ℕ → Act → Answer → S → Type 0) → (Stands Halts : S → Type 0) → Programs → (EngineRefusal → Refusal) → Type 0
EndLaw {S} view Does Stands Halts programs tell =
    StepLaws view Does Stands Halts → ProgramLaws programs → AreEngines tell → (db : Database) (lines : List Said) (s after : S) (out : List ℕ)
    → Stands s → IsNew db (view s) → RunsScript Does programs tell view lines s out after → (session : ℕ) → Contains all_sessions session
    → ((view after).open_of session ≡ None) ⊎ Halts after

-- the programs of all statements are right, whatever works of single statements keep their laws
abbrev pub ProgramsLaw : Type 0
ProgramsLaw = (works : Works) → WorkLaws works → ProgramLaws (programs_of works)
