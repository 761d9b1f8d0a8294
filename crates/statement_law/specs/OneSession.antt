-- No clause of `run` rests on this module: it serves contracts between crates.
--
-- That one output only is printed for the lines of one session.
use Rattle.std.specs.Prelude.{◌≡◌, ◌≢◌, ℕ, IsTrue, List, [], ◌∷◌, ◌++◌, None}
use Rattle.std.specs.List.{AllByRecursion}
use Rattle.iv_types.specs.declared.session.Sessions.{Sessions}
use Rattle.iv_types.specs.declared.reply.Reply.{Reply}
use Rattle.iv_types.specs.declared.reply.Reply.TheVariants as reply
use Rattle.iv_meaning.specs.Reply.{reply_lines}
use Rattle.iv_meaning.specs.Database.{Database}
use Rattle.iv_meaning.specs.Escrow.{IsSession}
use Rattle.iv_meaning.specs.Said.{Said, nothing, too_long, bad, runs, checkpoints}
use Rattle.iv_meaning.specs.Serial.{opened_with, is_engines, IsSerialFrom}
use Rattle.txn_machine.specs.Acts.{Act}
use Rattle.txn_machine.specs.Answers as answer
use Rattle.txn_machine.specs.Answers.{Answer}
use Rattle.txn_machine.specs.Store.{opened}
use Rattle.txn_machine.specs.Stored.{ViewRows}
use Rattle.txn_machine.specs.Log.{Opening}
use Rattle.txn_machine.specs.State.{opened_state}
use Rattle.txn_machine.specs.Alone.{Story, begun_story}
use Rattle.txn_machine.specs.Laws.{IsOpened}
use Rattle.script_law.specs.RunLines.{RunsScript}
use Rattle.script_law.specs.Machine.{DoesOf, seen_of}
use Rattle.script_law.specs.Sessions.{programs_of}
use Rattle.statement_law.specs.Telling.{tell}
use Rattle.statement_law.specs.Statements.{the_works}

-- a line `N: ..` of this session, `checkpoint`, a remark, or a line that has no form or is too long
abbrev pub IsOfOne : ℕ → Said → Type 0
IsOfOne session nothing = Unit {0}
IsOfOne session too_long = Unit {0}
IsOfOne session bad = Unit {0}
IsOfOne session (runs other read) = other ≡ session
IsOfOne session checkpoints = Unit {0}
IsOfOne session said = ⊥

-- a session is told to wait, or refused by the engine
abbrev pub IsHindrance : Reply → Type 0
IsHindrance (reply.Wait sessions) = Unit {0}
IsHindrance (reply.Error why) = IsTrue (is_engines why)
IsHindrance r = ⊥

-- that stands nowhere in an output
abbrev pub IsUnhindered : List ℕ → Type 0
IsUnhindered out = (before after : List ℕ) (session : ℕ) (r : Reply) → IsHindrance r → out ≢ before ++ (reply_lines session (r ∷ []) ++ after)

-- no other session has a transaction open
abbrev pub IsLone : ℕ → Story → Type 0
IsLone session story = (other : ℕ) → IsSession other → other ≢ session → story.state.store.open_of other ≡ None

-- ---- laws

-- no step of a session that is alone is blocked, and it stays alone
abbrev pub NeverBlockedLaw : Type 0
NeverBlockedLaw = (session : ℕ) (story after : Story) (a : Act) (said : Answer) → IsLone session story → DoesOf story session a said after
    → IsLone session after × ((sessions : Sessions) → said ≢ answer.Blocked sessions)

-- of serial outputs for the lines of one session there is one at most in which this stands nowhere
abbrev pub OneSerialLaw : Type 0
OneSerialLaw = (db : Database) (session : ℕ) (lines : List Said) → AllByRecursion (IsOfOne session) lines → (out other : List ℕ)
    → IsUnhindered out → IsUnhindered other → IsSerialFrom (opened_with db) lines out → IsSerialFrom (opened_with db) lines other → out ≡ other

-- so a script of such lines, run over the machine, prints one such output only
abbrev pub OneOutputLaw : Type 0
OneOutputLaw = (db : Database) (stored : ViewRows) (opening : Opening) → IsOpened db stored → (session : ℕ) (lines : List Said) → AllByRecursion (IsOfOne session) lines
    → (out other : List ℕ) (after last : Story) → IsUnhindered out → IsUnhindered other
    → RunsScript DoesOf (programs_of the_works) (tell [] None) seen_of lines (begun_story (opened_state opening (opened db stored))) out after
    → RunsScript DoesOf (programs_of the_works) (tell [] None) seen_of lines (begun_story (opened_state opening (opened db stored))) other last
    → out ≡ other
