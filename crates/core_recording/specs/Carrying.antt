-- No clause of `run` rests on this module: it serves contracts between crates.
--
-- What a checkpoint carries: the records of the steps that open transactions keep.
use Rattle.std.specs.Prelude.{ℕ, List, [], map, get_or, Option, Some, None}
use Rattle.std.specs.List.{All, sum}
use Rattle.iv_types.specs.Definitions.{Definitions}
use Rattle.iv_types.specs.declared.lock.KeptStep.{KeptStep}
use Rattle.iv_meaning.specs.Escrow.{IsSession}
use Rattle.iv_meaning.specs.Objects.{schema_of}
use Rattle.iv_meaning.specs.Schema.{Schema}
use Rattle.txn_machine.specs.Counts.{sum_over}
use Rattle.txn_machine.specs.Records.{record_bytes}
use Rattle.txn_book.specs.Opens.{open_at}
use Rattle.txn_book.specs.declared.open_table.Open.{Open}
use Rattle.log_records.specs.Area.{Entry}
use Rattle.log_disk.specs.Spelled.{spelled}
use Rattle.record_lending.specs.Known.{IsOf}
use Rattle.record_lending.specs.Steps.{HasItsEntries, number_of, record_of}

-- ---- the steps of open transactions

-- those of one, the first first, and its number in the log
abbrev pub steps_of : Option Open → List KeptStep
steps_of None = []
steps_of (Some o) = o.kept.items

abbrev pub id_of : Option Open → ℕ
id_of None = 0
id_of (Some o) = o.id

-- of a session's transaction
abbrev pub steps_at : List (Option Open) → ℕ → List KeptStep
steps_at opens session = steps_of (open_at opens session)

-- a step has the entries that it took away and made, and these definitions know what it says
abbrev pub CanCarry : Definitions → ℕ → KeptStep → Type 0
CanCarry definitions transaction k = HasItsEntries definitions k × IsOf (schema_of definitions) (record_of transaction k)

abbrev pub CanCarryAll : Definitions → List (Option Open) → Type 0
CanCarryAll definitions opens = (session : ℕ) → IsSession session → All (CanCarry definitions (id_of (open_at opens session))) (steps_at opens session)

-- ---- their records

abbrev pub entry_of : Schema → ℕ → KeptStep → Entry
entry_of objects transaction k = spelled objects (record { number = number_of k; of = record_of transaction k })

-- what the records of steps take
abbrev pub steps_bytes : Schema → List KeptStep → ℕ
steps_bytes objects steps = sum (map (λ k. record_bytes objects (record_of 0 k)) steps)

-- of all sessions
unfoldable pub all_bytes : Schema → List (Option Open) → ℕ
all_bytes objects opens = sum_over 64 (λ session. steps_bytes objects (steps_at opens session))

-- session k's number stands at place k
abbrev pub done_at : List ℕ → ℕ → ℕ
done_at done session = get_or done session 0
