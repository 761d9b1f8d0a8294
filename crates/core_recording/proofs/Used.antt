-- What the records of a journal take, as the log counts it, and that there is room for them.
use Rattle.std.specs.Prelude.{◌≡◌, ℕ, ◌+◌, ◌<◌, ◌≤◌, ◌^◌, List, [], ◌∷◌, Option, Some, None}
use mathlib.Core.Path.{refl, sym, ap, subst, ◌∙◌}
use Rattle.std.proofs.Common.{arith}
use Rattle.iv_types.specs.Maps.{Map}
use Rattle.iv_types.specs.declared.refusal.EngineRefusal.TheVariants.{DiskFault}
use Rattle.iv_meaning.specs.Schema.{Schema}
use Rattle.txn_machine.specs.Acts as act
use Rattle.txn_machine.specs.Acts.{Act}
use Rattle.txn_machine.specs.Answers.{Answer, Ghosted, Refused, Saved}
use Rattle.txn_machine.specs.Ghosts.{the_views}
use Rattle.txn_machine.specs.Log as log
use Rattle.txn_machine.specs.Log.{Log, Opening, Within, logs, log_all, logged_after, appended, with_logged, record_of, begun_after, block_bytes}
use Rattle.txn_machine.specs.Records.{Record, record_bytes, definition_bytes}
use Rattle.txn_machine.specs.State.{State, most_steps}
use Rattle.txn_machine.specs.Steps.{log_after}
use Rattle.txn_machine.specs.Store.{Store, Effect, Commits, Defines, schema_of, does, run}
use Rattle.log_room.specs.Rooms.{AreCountedIn}
use Rattle.core_journal.specs.Records.{Records, with_perhaps, flushed_after, recorded, recorded_all, records_after}
use Rattle.core_state.specs.Stands.{Began, Told}
use Rattle.core_state.specs.declared.state.CoreState.{CoreState}

-- ---- both count alike

appended_used : (objects : Schema) (number : ℕ) (r : Option Record) (rs : Records) (l : Log) → rs.used ≡ l.used → (with_perhaps objects number r rs).used ≡ (appended objects r l).used
appended_used objects number None rs l h = h
appended_used objects number (Some r) rs l h = ap (λ n. n + record_bytes objects r) h

flushed_used : (e : Effect) (rs : Records) (l : Log) → rs.used ≡ l.used → (flushed_after e rs).used ≡ (log.flushed_after e l).used
flushed_used Commits rs l h = ap (λ n. n + block_bytes) h
flushed_used (Defines object) rs l h = ap (λ n. n + block_bytes) h
flushed_used e rs l h = h

one_used : (s : Store) (i : ℕ) (a : Act) (e : Effect) (l : Log) (rs : Records) → rs.used ≡ l.used → (recorded s i a e l rs).used ≡ (logs s i a e l).used
one_used s i a e l rs h =
    let m : Log = appended (schema_of s) (record_of s i a l e) (with_logged l i (logged_after s i l e)) in
    flushed_used e (with_perhaps (schema_of s) l.next (record_of s i a l e) rs) (record m { begun = begun_after e l.begun })
    (appended_used (schema_of s) l.next (record_of s i a l e) rs (with_logged l i (logged_after s i l e)) h)

all_used : (s : Store) (i : ℕ) (a : Act) (es : List Effect) (l : Log) (rs : Records) → rs.used ≡ l.used → (recorded_all s i a es l rs).used ≡ (log_all s i a es l).used
all_used s i a [] l rs h = h
all_used s i a (e ∷ es) l rs h = all_used (does the_views s i e) i a es (logs s i a e l) (recorded s i a e l rs) (one_used s i a e l rs h)

pub used_after : (s : State) (i : ℕ) (a : Act) (said : Answer) (es : List Effect) (rs : Records) → rs.used ≡ s.log.used → (records_after s i a said es rs).used ≡ (log_after s i a said es).used
used_after s i act.Ghost Ghosted es rs h = all_used s.store i act.Ghost es s.log rs h
used_after s i act.Checkpoint (Saved number) es rs h = refl
used_after s i act.Commit (Refused DiskFault) es rs h = appended_used (schema_of s.store) s.log.next (record_of s.store i act.Commit s.log Commits) rs s.log h
used_after s i (act.Schema statement) (Refused DiskFault) es rs h = ap (λ n. n + definition_bytes (Rattle.iv_types.specs.Printing.statement_text statement)) h
used_after s i a said es rs h = all_used s.store i a es s.log rs h

-- ---- there is room

-- what is used lies within the limit
pub used_within : (most : Option ℕ) (used reserved_bytes : ℕ) (s : Store) (l : Log) → AreCountedIn most used reserved_bytes s l → Within most l.used
used_within None used reserved_bytes s l h = tt
used_within (Some most) used reserved_bytes s l h = let are = h.used_are in let within = h.within in omega (arith, are, within)

-- a record's number is 2 ^ 63 at most
pub small_next : {M : Type 0} (maps : M → ℕ → Map) (spare : M → ℕ → ℕ) (limit : M → Option ℕ) (core : CoreState M) (s : State) (i : ℕ) → Began maps spare limit core s i → s.log.next ≤ 2 ^ 63
small_next maps spare limit core s i h = let next = h.counts.next in let early = h.opening.early in let few : s.steps < most_steps = h.counts.running h.runs in omega (arith, next, early, few)

module _ {M : Type 0} (maps : M → ℕ → Map) (spare : M → ℕ → ℕ) (limit : M → Option ℕ) (s : State) (i : ℕ) (a : Act) (said : Answer) (core : CoreState M) (told : Told maps spare limit s i a said core) where
  pub next_small : s.log.next ≤ 2 ^ 63
  next_small = let next = told.counts.next in let early = told.opening.early in let few : s.steps < most_steps = told.counts.running told.runs in omega (arith, next, early, few)

  -- what was told of an act has kept its records within the limit
  pub told_within : (most : Option ℕ) → most ≡ core.log_room.limit → (rs : Records) → rs.used ≡ s.log.used → Within most (records_after s i a said told.effects rs).used
  told_within most same rs used =
      let after : Log = log_after s i a said told.effects in
      let within : Within core.log_room.limit after.used = used_within core.log_room.limit core.log_room.used core.log_room.reserved (run the_views s.store i told.effects) after told.reserves.log_room in
      subst (λ m. Within m (records_after s i a said told.effects rs).used) (sym same) (subst (Within core.log_room.limit) (sym (used_after s i a said told.effects rs used)) within)

  -- the log's limit is that of the core before
  pub limit_stays : (before : CoreState M) → Began maps spare limit before s i → core.log_room.limit ≡ before.log_room.limit
  limit_stays before began = sym told.opening.log_is ∙ began.opening.log_is

  -- and that of the data too
  pub image_stays : (before : CoreState M) → Began maps spare limit before s i → core.data_room.limit ≡ before.data_room.limit
  image_stays before began = sym told.opening.data_is ∙ began.opening.data_is
