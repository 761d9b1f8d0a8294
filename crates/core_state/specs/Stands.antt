-- No clause of `run` rests on this module: it serves contracts between crates.
--
-- In which state of the machine a core is. Its data have a limit, its log may have one; what a crash leaves is not told.
use Rattle.std.specs.Prelude.{◌≡◌, ◌≢◌, ℕ, ◌+◌, ◌<◌, ◌≤◌, ◌^◌, List, [], ◌++◌, length, None, Some, IsSome, false, true, Bool, Option}
use Rattle.std.specs.Option.{option_map}
use Rattle.iv_types.specs.Maps.{Map}
use Rattle.iv_types.specs.declared.refusal.EngineRefusal.TheVariants.{DiskFault}
use Rattle.iv_types.specs.declared.session.Sessions.{Sessions}
use Rattle.iv_meaning.specs.Escrow.{IsSession}
use Rattle.lock_manager.specs.Table as table
use Rattle.lock_desk.specs.Asking.{HasLocks}
use Rattle.txn_machine.specs.Acts as act
use Rattle.txn_machine.specs.Acts.{Act}
use Rattle.txn_machine.specs.Answers.{Answer, Blocked, Refused}
use Rattle.txn_machine.specs.Counts.{definition_sizes}
use Rattle.txn_machine.specs.Store.{Store, Effect, committed, schema_of, locks_of, run}
use Rattle.txn_machine.specs.Ghosts.{the_views}
use Rattle.txn_machine.specs.Log.{Opening, Log, Within, unlimited, block_bytes}
use Rattle.txn_machine.specs.State.{State, is_fault, most_steps}
use Rattle.txn_machine.specs.Steps.{Says, Step, asked, definitions_after, log_after}
use Rattle.txn_machine.specs.Laws.{IsReached}
use Rattle.txn_log.specs.Room.{OpensWithin}
use Rattle.txn_book.specs.Holding as book
use Rattle.definition_parts.specs.Parts.{parts_map, HasTexts}
use Rattle.data_store.specs.Contents.{Contents, contents_of, with_texts}
use Rattle.data_store.specs.Held.{IsHeld}
use Rattle.data_store.specs.Machine.{IsPast}
use Rattle.data_past.specs.Ahead.{IsAhead}
use Rattle.data_room.specs.Reserved.{IsReserved}
use Rattle.data_room.specs.declared.room.DataRoom.{DataRoom}
use Rattle.log_room.specs.Rooms.{IsRoomOf}
use Rattle.log_room.specs.declared.room.LogRoom.{LogRoom}
use Rattle.core_state.specs.Rooms.{HasRooms}
use Rattle.core_state.specs.Seats.{machine_seat, machine_cleaner, seat_at}
use Rattle.core_state.specs.declared.state.CoreState.{CoreState}

-- with these limits of the log and of the data, where there are such, on a database that defines nothing
abbrev pub limited : Option ℕ → Option ℕ → Opening
limited log most = record unlimited { log_limit = log; data_limit = most }

-- the opening has these limits, and steps lead to the state from a database that was within them as it was opened
pub record IsOpening (log most : Option ℕ) (s : State) : Type 0 where
  pub log_is : s.opening.log_limit ≡ log
  pub data_is : s.opening.data_limit ≡ most
  pub reached : IsReached s
  pub was : reached.opening ≡ s.opening
  -- an area of the log holds an empty block
  pub least : Within log (block_bytes + 1)
  -- the data have a limit
  pub bounded : IsSome most
  pub within : OpensWithin s.opening (record { db = reached.db; view = reached.view })
  -- the numbers of its records do not end
  pub early : s.opening.next ≤ 2 ^ 62 + 1

-- what open transactions keep of the data, and what is used and reserved of the log
pub record AreKept (of_data : DataRoom) (of_log : LogRoom) (store : Store) (log : Log) : Type 0 where
  pub data_room : IsReserved of_data (schema_of store) store.open_of log.logged
  pub log_room : IsRoomOf of_log store log

-- the texts of definitions: of those that were there as the database was opened, and of those since
pub record Texts : Type 0 where
  pub before : List (List ℕ)
  pub since : List (List ℕ)

abbrev pub all_texts : Texts → List (List ℕ)
all_texts t = t.before ++ t.since

-- in a state
abbrev pub its_texts : State → Texts
its_texts s = record { before = s.opening.definitions; since = s.definitions }

-- after an act is answered so
abbrev pub texts_after : State → Act → Answer → Texts
texts_after s a said = record { before = s.opening.definitions; since = definitions_after s.definitions a said }

-- what a store has, with the texts of these definitions
abbrev pub told : Store → Texts → Contents
told store texts = with_texts (Some (parts_map (all_texts texts))) (contents_of store)

-- how many records wait where the disk failed an act: a checkpoint has none of its own
abbrev pub waiting_after : Act → ℕ
waiting_after act.Checkpoint = 0
waiting_after _ = 1

-- the session waits
abbrev pub is_blocked : Answer → Bool
is_blocked (Blocked sessions) = true
is_blocked _ = false

module _ {M : Type 0} (maps : M → ℕ → Map) (spare : M → ℕ → ℕ) (limit : M → Option ℕ) where
  -- what is stored, the open transactions with their locks, and the history
  pub record Holds (core : CoreState M) (store : Store) (log : Log) (definitions : Texts) : Type 0 where
    pub stored : IsHeld core.store.catalog (maps core.store.tables) core.store.views (contents_of store)
    -- the texts of definitions, in their parts, stand under index 0
    pub texts : HasTexts (maps core.store.tables 0) core.store.catalog (all_texts definitions)
    pub book : book.Holds core.book (schema_of store) store.open_of log.logged store.history (committed store).number (definition_sizes definitions.since)
    pub locks : (session : ℕ) → IsSession session → HasLocks (table.locks_of core.locks session) (locks_of store session)
    pub begun : core.begun ≡ log.begun
    pub next : core.next ≡ log.next
    -- versions are kept above the machine's mark
    pub row_mark : core.store.row_versions.pruned ≡ store.mark
    pub delta_mark : core.store.delta_versions.pruned ≡ store.mark
    -- the versions and the pending rows are those of the store
    pub past : IsPast core.store.row_versions.versions core.store.delta_versions.versions core.store.pending.entries store
    -- the versions that open transactions will leave are made, and the chains have room for them
    pub ahead : IsAhead core.ahead core.store.row_versions.room core.store.delta_versions.room store
    -- what open transactions need stands ready
    pub rooms : HasRooms (spare core.store.tables) core.store.catalog core.store.views core.book.opens core.locks core.wants
    -- the maps have the limit of the core
    pub most : limit core.store.tables ≡ core.data_room.limit

  -- the core knows that
  abbrev pub Reserves : CoreState M → Store → Log → Type 0
  Reserves core store log = AreKept core.data_room core.log_room store log

  -- the counts of steps, and what sessions were told
  pub record Counts (core : CoreState M) (s : State) : Type 0 where
    pub steps : core.steps ≡ s.steps
    pub seats : (session : ℕ) → session ≤ 64 → machine_seat (seat_at core.seats session) ≡ s.seat_of session
    pub few : (session : ℕ) → (s.seat_of session).steps ≤ s.steps
    pub cleaner : machine_cleaner core.cleaner ≡ s.cleaner
    pub removed : s.cleaner.removed ≤ s.steps
    pub running : s.stop ≡ None → s.steps < most_steps
    pub begun : s.log.begun ≤ s.steps
    pub next : s.log.next ≤ s.steps + s.opening.next
    pub stop : core.stop ≡ option_map (λ x. x.step) s.stop

  -- a core is in a state that steps lead to
  pub record Stands (core : CoreState M) (s : State) : Type 0 where
    pub reached : IsReached s
    pub opening : IsOpening core.log_room.limit core.data_room.limit s
    pub holds : Holds core s.store s.log (its_texts s)
    pub reserves : s.stop ≡ None → Reserves core s.store s.log
    pub waiting : (session : ℕ) → IsSession session → table.waiting_of core.locks session ≡ s.waiting session
    pub counts : Counts core s

  -- a session's step has begun: it waits for nothing, and nothing else has changed
  pub record Began (core : CoreState M) (s : State) (session : ℕ) : Type 0 where
    pub reached : IsReached s
    pub opening : IsOpening core.log_room.limit core.data_room.limit s
    pub runs : s.stop ≡ None
    pub holds : Holds core s.store s.log (its_texts s)
    pub reserves : Reserves core s.store s.log
    pub own : IsSession session → table.waiting_of core.locks session ≡ []
    pub waiting : (other : ℕ) → IsSession other → other ≢ session → table.waiting_of core.locks other ≡ s.waiting other
    pub counts : Counts core s

  -- an act was answered so, and the core holds what its effects leave
  pub record Told (s : State) (session : ℕ) (a : Act) (said : Answer) (core : CoreState M) : Type 0 where
    pub reached : IsReached s
    pub opening : IsOpening core.log_room.limit core.data_room.limit s
    pub runs : s.stop ≡ None
    pub effects : List Effect
    pub says : Says s session a said effects
    pub holds : Holds core (run the_views s.store session effects) (log_after s session a said effects) (texts_after s a said)
    pub reserves : Reserves core (run the_views s.store session effects) (log_after s session a said effects)
    pub own : (sessions : Sessions) → said ≡ Blocked sessions → table.waiting_of core.locks session ≡ asked s.store session a
    pub none : is_blocked said ≡ false → IsSession session → table.waiting_of core.locks session ≡ []
    pub waiting : (other : ℕ) → IsSession other → other ≢ session → table.waiting_of core.locks other ≡ s.waiting other
    pub counts : Counts core s
    pub no_fault : is_fault said ≡ false
    -- a step begins one transaction at most, and appends one record
    pub begins_one : (log_after s session a said effects).begun ≤ s.log.begun + 1
    pub appends_one : (log_after s session a said effects).next ≤ s.log.next + 1

  -- the disk failed an act, which has changed nothing: its record waits, if it has one
  pub record Failed (s : State) (session : ℕ) (a : Act) (core : CoreState M) : Type 0 where
    pub began : Began core s session
    pub says : Says s session a (Refused DiskFault) []
    pub appends : (log_after s session a (Refused DiskFault) []).next ≡ s.log.next + waiting_after a

  -- a step was answered so by these effects, and led to the state in which the core is
  pub record Moved (s : State) (session : ℕ) (a : Act) (said : Answer) (effects : List Effect) (core : CoreState M) : Type 0 where
    pub after : State
    pub does : Step s session a said after
    pub logged : after.log ≡ log_after s session a said effects
    pub stands : Stands core after
