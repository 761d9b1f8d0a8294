-- No clause of `run` rests on this module: it serves contracts between crates.
--
-- The laws of the works of statements.
use Rattle.std.specs.Prelude.{◌≡◌, ◌⊎◌, ℕ, ℤ, ◌+◌, true, List, [], ◌++◌, length, slice_get, Some, None}
use Rattle.std.specs.List.{Contains}
use Rattle.std.specs.Option.{unwrap_or}
use Rattle.iv_types.specs.declared.value.Kind.{Kind}
use Rattle.iv_types.specs.declared.statement.Mode.{Mode}
use Rattle.iv_types.specs.declared.lock.GroupDelta.{GroupDelta}
use Rattle.iv_types.specs.declared.lock.Want.{Want}
use Rattle.iv_types.specs.declared.refusal.Refusal.TheVariants.{EscrowRange}
use Rattle.iv_types.specs.declared.refusal.EngineRefusal.TheVariants as engine
use Rattle.iv_types.specs.Syntax.{StatementTree}
use Rattle.iv_types.specs.Encoding.{FitAll, key_bytes}
use Rattle.iv_meaning.specs.Schema.{Schema}
use Rattle.iv_meaning.specs.Database.{Row, Database}
use Rattle.iv_meaning.specs.Said.{Said}
use Rattle.iv_meaning.specs.Transaction.{refused_inside}
use Rattle.iv_meaning.specs.Serial.{opened_with, IsSerialFrom}
use Rattle.txn_machine.specs.Acts.{Act}
use Rattle.txn_machine.specs.Deltas.{RowChange}
use Rattle.txn_machine.specs.May.{IsOpen, MayAct}
use Rattle.txn_machine.specs.ViewLaws.{AreSound}
use Rattle.txn_machine.specs.Stored.{ViewRows}
use Rattle.txn_machine.specs.Store.{opened, schema_of, changes_by}
use Rattle.txn_machine.specs.Log.{Opening}
use Rattle.txn_machine.specs.State.{opened_state}
use Rattle.txn_machine.specs.Alone.{Fact, Story, begun_story}
use Rattle.txn_machine.specs.Laws.{IsOpened, IsReachedStory}
use Rattle.txn_machine.specs.KeptLaws.{IsDelta}
use Rattle.script_law.specs.RunLines.{all_sessions, RunsScript}
use Rattle.script_law.specs.Machine.{DoesOf, seen_of, IsStopped, IsAlive}
use Rattle.script_law.specs.Seen.{MayWant}
use Rattle.script_law.specs.Works.{Work, is_work, WorkLaws}
use Rattle.script_law.specs.Sessions.{programs_of}
use Rattle.statement_law.specs.Telling.{values_in, tell}
use Rattle.statement_law.specs.Statements.{statement_work, the_works}
use Rattle.statement_law.specs.Fitting.{EachFits, next_step, Leads}

-- alone on a sound database each work comes to what its statement means
abbrev pub WorksLaw : Type 0
WorksLaw = WorkLaws the_works

-- ---- what is told

-- values that fit are read from their key
abbrev pub KeyLaw : Type 0
KeyLaw = (kinds : List Kind) (values : Row) → FitAll kinds values → values_in kinds (key_bytes kinds values) ≡ values

-- of a delta of a view, as transactions owe them, the escrow's refusal names the view, the values of the group and the column
abbrev pub EscrowLaw : Type 0
EscrowLaw = (objects : Schema) (d : GroupDelta) (is : IsDelta objects d) (column : ℕ) (inf sup : ℤ)
    → tell objects (Some d) (engine.Escrow column inf sup) ≡ EscrowRange is.of.name is.group (unwrap_or (slice_get is.of.names (length is.of.group + column)) []) inf sup

-- ---- steps

-- told what is so on a sound database, a work asks only for steps that fit
abbrev pub FitsLaw : Type 0
FitsLaw = (mode : Mode) (statement : StatementTree) → is_work statement ≡ true → refused_inside mode [] statement ≡ None
    → (db : Database) → AreSound db.schema db.rows → (locks : List Want) → EachFits mode db (statement_work mode db.schema statement) locks []

-- What a work asks the machine for, led there by what its transaction was told, may be asked for: the transaction is open, owes
-- nothing, and no deadlock met it.
abbrev pub AskedLaw : Type 0
AskedLaw = (story : Story) → IsReachedStory story → (session : ℕ) (o : IsOpen story.state.store session)
    → (statement : StatementTree) → is_work statement ≡ true → refused_inside o.transaction.mode [] statement ≡ None
    → (earlier cs : List RowChange) → changes_by story.state.store session ≡ cs ++ earlier → (told before : List Fact) → story.told session ≡ told ++ before
    → (work : Work) → Leads earlier (statement_work o.transaction.mode (schema_of story.state.store) statement) told cs work
    → (a : Act) → next_step o.transaction.mode work ≡ Some a → MayWant ((seen_of story).open_of session) a → IsAlive story session a → MayAct story.state.store session a

-- ---- scripts

-- What a script prints that is run over the machine, from an opened database, by the programs of these works is serial; after its
-- end no transaction is open, unless the engine is stopped.
abbrev pub StatementsLaw : Type 0
StatementsLaw = (db : Database) (stored : ViewRows) (opening : Opening) → IsOpened db stored → (lines : List Said) (out : List ℕ) (after : Story)
    → RunsScript DoesOf (programs_of the_works) (tell [] None) seen_of lines (begun_story (opened_state opening (opened db stored))) out after
    → IsSerialFrom (opened_with db) lines out
    × ((session : ℕ) → Contains all_sessions session → ((seen_of after).open_of session ≡ None) ⊎ IsStopped after)
