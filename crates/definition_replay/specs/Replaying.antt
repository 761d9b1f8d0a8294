-- No clause of `run` rests on this module: it serves contracts between crates.
--
-- What replaying a definition makes of a store.
use Rattle.std.specs.Prelude.{◌≡◌, ℕ, List, [], ◌∷◌, ◌++◌}
use Rattle.iv_types.specs.Maps.{Map}
use Rattle.iv_types.specs.Definitions.{Definitions}
use Rattle.iv_types.specs.declared.catalog.Definition.{Definition}
use Rattle.iv_meaning.specs.Database.{Database}
use Rattle.iv_meaning.specs.Objects.{object_of, schema_of}
use Rattle.iv_meaning.specs.Schema.{Object}
use Rattle.txn_machine.specs.ViewLaws.{AreSound}
use Rattle.txn_log.specs.Appended.{Creates}
use Rattle.txn_log.specs.Fitting.{IsAccepted}
use Rattle.ghost_rows.specs.State.{State}
use Rattle.data_store.specs.Contents.{Contents}
use Rattle.data_store.specs.Reading.{CanBeRead}
use Rattle.data_defining.specs.Defining.{CanEvaluate, with_object}

-- ---- what stands there

-- the store has these contents, whose rows are sound, and no session keeps a step
pub record CanReplay (definitions : Definitions) (maps : ℕ → Map) (state : State) (c : Contents) : Type 0 where
  pub readable : CanBeRead definitions maps state c
  pub sound : AreSound c.objects c.rows
  pub unkept : (session : ℕ) → c.kept session ≡ []

-- the same, and an object may come beside them
pub record CanBegin (definitions : Definitions) (maps : ℕ → Map) (state : State) (o : Object) (c : Contents) : Type 0 where
  pub evaluated : CanEvaluate definitions maps state o c
  pub unkept : (session : ℕ) → c.kept session ≡ []

-- ---- what is accepted beside it

-- a database of these contents
abbrev pub database_of : ℕ → Contents → Database
database_of number c = record { number = number; schema = c.objects; rows = c.rows }

-- the object is accepted beside them, whatever the number
abbrev pub IsAcceptedBeside : Contents → Object → Type 0
IsAcceptedBeside c o = (number : ℕ) → IsAccepted (database_of number c) o

-- it is not, whatever the number
abbrev pub IsRefusedBeside : Contents → Object → Type 0
IsRefusedBeside c o = (number : ℕ) → IsAccepted (database_of number c) o → ⊥

-- ---- what becomes of it

-- the object of a definition is accepted beside any contents that the store had, and the store has them with it
pub record IsBegun (before after : Definitions) (maps new : ℕ → Map) (state : State) (d : Definition) : Type 0 where
  pub defined : after ≡ before ++ d ∷ []
  pub accepted : (c : Contents) → CanBegin before maps state (object_of d) c → IsAcceptedBeside c (object_of d)
  pub has : (c : Contents) → CanBegin before maps state (object_of d) c → CanReplay after new state (with_object c (object_of d))

-- a text makes an object that is accepted beside any contents that the store had, and the store has them with it
pub record IsReplayed (before after : Definitions) (maps new : ℕ → Map) (state : State) (text : List ℕ) : Type 0 where
  pub object : Object
  pub creates : Creates (schema_of before) text object
  pub defined : schema_of after ≡ schema_of before ++ object ∷ []
  pub accepted : (c : Contents) → CanReplay before maps state c → IsAcceptedBeside c object
  pub has : (c : Contents) → CanReplay before maps state c → CanReplay after new state (with_object c object)

-- no object that a text makes is accepted beside any contents that the store has
abbrev pub IsNoneAccepted : Definitions → (ℕ → Map) → State → List ℕ → Type 0
IsNoneAccepted definitions maps state text = (o : Object) → Creates (schema_of definitions) text o → (c : Contents) → CanReplay definitions maps state c → IsRefusedBeside c o
