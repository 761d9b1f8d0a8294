-- A step is counted, and its journal has its records.
use Rattle.std.specs.Prelude.{◌∷◌, ◌≡◌, ℕ, ◌+◌, ◌<◌, ◌≤◌, ◌^◌, true, false, List, [], Option, Some, None, IsSome}
use mathlib.Core.Path.{refl, sym, ap, subst, ◌∙◌}
use mathlib.Core.Logic.{inl, inr}
use Rattle.std.proofs.Common.{arith}
use Rattle.iv_types.specs.Maps.{Map}
use Rattle.iv_types.specs.declared.refusal.EngineRefusal.TheVariants as refusal
use Rattle.iv_meaning.specs.Schema.{Schema}
use Rattle.txn_machine.specs.Acts as act
use Rattle.txn_machine.specs.Acts.{Act}
use Rattle.txn_machine.specs.Answers as answer
use Rattle.txn_machine.specs.Answers.{Answer}
use Rattle.txn_machine.specs.Ghosts.{the_views}
use Rattle.txn_machine.specs.Log.{Log, Opening, logs, record_of}
use Rattle.txn_machine.specs.Records.{Record}
use Rattle.txn_machine.specs.State.{State, Stop, Seat, Cleaner, is_fault, most_steps}
use Rattle.txn_machine.specs.Steps.{Step}
use Rattle.txn_machine.specs.Store.{Store, Effect, Commits, Defines, schema_of, does}
use Rattle.txn_machine.proofs.Stepping.{some_not_none}
use Rattle.txn_log.specs.Appended.{Numbered}
use Rattle.core_journal.specs.Records.{Records, with_one, with_perhaps, flushed_all, flushed_after, recorded, recorded_all, records_after, Saved, with_saved, GivesTo}
use Rattle.core_journal.specs.Cuts.{Cut, cut_of, MayHave}
use Rattle.core_recording.specs.Giving.{IsSaved, Did, IsBehind, LeavesOne}
use Rattle.core_recording.proofs.Used.{used_after}
use Rattle.core_state.specs.Seats.{seat_at}
use Rattle.core_state.specs.Stands.{Began, Counts, Failed, Moved, Stands, Told}
use Rattle.core_state.specs.declared.state.CoreState.{CoreState}
use Rattle.engine_core.specs.Acting.{Recorded}
use Rattle.engine_core.proofs.Quiet.{stopped_records}

-- ---- what is counted has room

module _ {M : Type 0} (maps : M → ℕ → Map) (spare : M → ℕ → ℕ) (limit : M → Option ℕ) (core : CoreState M) (s : State) (counts : Counts maps spare limit core s) (runs : s.stop ≡ None) where
  few : s.steps < most_steps
  few = counts.running runs

  pub few_steps : core.steps < 2 ^ 62
  few_steps = let same = counts.steps in let lt = few in omega (arith, same, lt)

  pub few_own : (i : ℕ) → i ≤ 64 → (seat_at core.seats i).steps < 2 ^ 62
  few_own i within =
      let same : (seat_at core.seats i).steps ≡ (s.seat_of i).steps = ap (λ (x : Seat). x.steps) (counts.seats i within) in
      let le : (s.seat_of i).steps ≤ s.steps = counts.few i in
      let lt = few in
      omega (arith, same, le, lt)

  pub few_removed : core.cleaner.removed < 2 ^ 62
  few_removed =
      let same : core.cleaner.removed ≡ s.cleaner.removed = ap (λ (x : Cleaner). x.removed) counts.cleaner in
      let le : s.cleaner.removed ≤ s.steps = counts.removed in
      let lt = few in
      omega (arith, same, le, lt)

  pub few_saves : (saves : ℕ) → saves ≤ s.steps + 1 → saves ≤ 2 ^ 62
  few_saves saves le = let lt = few in omega (arith, le, lt)

  pub few_records : core.next ≡ s.log.next → s.opening.next ≤ 2 ^ 62 + 1 → core.next ≤ 2 ^ 63
  few_records same early = let le : s.log.next ≤ s.steps + s.opening.next = counts.next in let lt = few in omega (arith, same, le, early, lt)

-- ---- checkpoints are counted

-- what no record changes, no step changes
module _ {X : Type 0} (of : Records → X) (one : (objects : Schema) (r : Numbered) (rs : Records) → of (with_one objects r rs) ≡ of rs) (all : (rs : Records) → of (flushed_all rs) ≡ of rs) where
  same_perhaps : (objects : Schema) (number : ℕ) (r : Option Record) (rs : Records) → of (with_perhaps objects number r rs) ≡ of rs
  same_perhaps objects number None rs = refl
  same_perhaps objects number (Some r) rs = one objects (record { number = number; of = r }) rs

  same_flushed : (e : Effect) (rs : Records) → of (flushed_after e rs) ≡ of rs
  same_flushed Commits rs = all rs
  same_flushed (Defines object) rs = all rs
  same_flushed e rs = refl

  same_all : (s : Store) (i : ℕ) (a : Act) (es : List Effect) (l : Log) (rs : Records) → of (recorded_all s i a es l rs) ≡ of rs
  same_all s i a [] l rs = refl
  same_all s i a (e ∷ es) l rs =
      same_all (does the_views s i e) i a es (logs s i a e l) (recorded s i a e l rs)
      ∙ (same_flushed e (with_perhaps (schema_of s) l.next (record_of s i a l e) rs) ∙ same_perhaps (schema_of s) l.next (record_of s i a l e) rs)

abbrev saves_of : Records → ℕ
saves_of rs = rs.saves

abbrev image_of : Records → Option ℕ
image_of rs = rs.image_limit

image_after : (s : State) (i : ℕ) (a : Act) (said : Answer) (es : List Effect) (rs : Records) → (records_after s i a said es rs).image_limit ≡ rs.image_limit
image_after s i act.Checkpoint (answer.Saved number) es rs = refl
image_after s i act.Commit (answer.Refused refusal.DiskFault) es rs = same_perhaps image_of (λ objects r rs. refl) (λ rs. refl) (schema_of s.store) s.log.next (record_of s.store i act.Commit s.log Commits) rs
image_after s i (act.Schema statement) (answer.Refused refusal.DiskFault) es rs = refl
image_after s i a said es rs = same_all image_of (λ objects r rs. refl) (λ rs. refl) s.store i a es s.log rs

-- a step saves one at most
saves_after : (s : State) (i : ℕ) (a : Act) (said : Answer) (es : List Effect) (rs : Records) → (records_after s i a said es rs).saves ≤ rs.saves + 1
saves_after s i act.Checkpoint (answer.Saved number) es rs = omega arith
saves_after s i act.Commit (answer.Refused refusal.DiskFault) es rs = let same = same_perhaps saves_of (λ objects r rs. refl) (λ rs. refl) (schema_of s.store) s.log.next (record_of s.store i act.Commit s.log Commits) rs in omega (arith, same)
saves_after s i (act.Schema statement) (answer.Refused refusal.DiskFault) es rs = omega arith
saves_after s i a said es rs = let same = same_all saves_of (λ objects r rs. refl) (λ rs. refl) s.store i a es s.log rs in omega (arith, same)

-- what holds of records with what was saved, and of records without a checkpoint, holds of what is given
gives_more : (Has Also : Records → Type 0) (Saves : Saved → Type 0) (a : Act) (said : Answer) (rs : Records) → ((saved : Saved) → Has (with_saved saved rs) → Also (with_saved saved rs)) → (Has rs → Also rs)
    → GivesTo Has Saves a said rs → GivesTo Also Saves a said rs
gives_more Has Also Saves act.Checkpoint (answer.Saved number) rs f g h = (h.0, h.1, f h.0 h.2)
gives_more Has Also Saves a said rs f g h = g h

-- of some records, with as many checkpoints
pub gives_some : (Has : Records → Type 0) (Saves : Saved → Type 0) (a : Act) (said : Answer) (rs : Records) → GivesTo Has Saves a said rs → (xs : Records) × Has xs × (xs.saves ≡ rs.saves)
gives_some Has Saves act.Checkpoint (answer.Saved number) rs h = (with_saved h.0 rs, h.2, refl)
gives_some Has Saves a said rs h = (rs, h, refl)

-- a step of a core that runs is counted
steps_more : (s : State) (i : ℕ) (a : Act) (said : Answer) (after : State) → s.stop ≡ None → Step s i a said after → after.steps ≡ s.steps + 1
steps_more s i a said after runs step = elim step.does [ inl d ↦ ap (λ (x : State). x.steps) d.left | inr t ↦ absurd (let bad : Some t.stop ≡ None = sym t.stopped ∙ runs in cc) ]

few_after : (s : State) (i : ℕ) (a : Act) (said : Answer) (es : List Effect) (rs : Records) (after : State) → s.stop ≡ None → Step s i a said after → rs.saves ≤ s.steps + 1
    → (records_after s i a said es rs).saves ≤ after.steps + 1
few_after s i a said es rs after runs step few = let one = saves_after s i a said es rs in let more = steps_more s i a said after runs step in omega (arith, one, more, few)

-- a fault stops the core
pub fault_stops : (s : State) (i : ℕ) (a : Act) (after : State) → s.stop ≡ None → Step s i a (answer.Refused refusal.DiskFault) after → after.stop ≡ None → ⊥
fault_stops s i a after runs step none =
    elim step.does [
      | inl d ↦ let bad : Some (record { step = s.steps + 1; act = a }) ≡ None = sym (ap (λ (x : State). x.stop) d.left) ∙ none in cc
      | inr t ↦ let bad : Some t.stop ≡ None = sym t.stopped ∙ runs in cc
    ]

-- one that is stopped stays so, and counts nothing
pub stays_stopped : (s : State) (i : ℕ) (a : Act) (said : Answer) (after : State) (stop : Stop) → s.stop ≡ Some stop → Step s i a said after → (after.stop ≡ Some stop) × (after.steps ≡ s.steps)
stays_stopped s i a said after stop stopped step =
    elim step.does [
      | inl d ↦ absurd (let bad : Some stop ≡ None = sym stopped ∙ d.runs in cc)
      | inr t ↦ (ap (λ (x : State). x.stop) t.left ∙ stopped, ap (λ (x : State). x.steps) t.left)
    ]

-- ---- the limit of the log stays

pub opening_stays : (s : State) (i : ℕ) (a : Act) (said : Answer) (after : State) → Step s i a said after → after.opening ≡ s.opening
opening_stays s i a said after step = elim step.does [ inl d ↦ ap (λ (x : State). x.opening) d.left | inr t ↦ ap (λ (x : State). x.opening) t.left ]

module _ {M : Type 0} (maps : M → ℕ → Map) (spare : M → ℕ → ℕ) (limit : M → Option ℕ) (s : State) (i : ℕ) where
  -- of a step that has begun
  pub began_limit : (core then : CoreState M) → Stands maps spare limit core s → Began maps spare limit then s i → core.log_room.limit ≡ then.log_room.limit
  began_limit core then stands began = sym stands.opening.log_is ∙ began.opening.log_is

  pub began_image : (core then : CoreState M) → Stands maps spare limit core s → Began maps spare limit then s i → core.data_room.limit ≡ then.data_room.limit
  began_image core then stands began = sym stands.opening.data_is ∙ began.opening.data_is

  -- so the journal is behind a step that has begun
  pub behind_begun : {J : Type 0} (has : J → Records → Type 0) (area : J → Option ℕ) (core then : CoreState M) (journal : J) (rs : Records) → Stands maps spare limit core s → Began maps spare limit then s i
      → IsBehind maps spare limit has area core journal s.log rs → IsBehind maps spare limit has area then journal s.log rs
  behind_begun has area core then journal rs stands began behind =
      record { has_them = behind.has_them; used = behind.used; same_limit = behind.same_limit ∙ began_limit core then stands began; same_image = behind.same_image ∙ began_image core then stands began }

  -- and of one that is done
  moved_limit : (a : Act) (said : Answer) (es : List Effect) (then : CoreState M) (before : Option ℕ) → s.opening.log_limit ≡ before → Moved maps spare limit s i a said es then → before ≡ then.log_room.limit
  moved_limit a said es then before was moved =
      sym was ∙ (ap (λ (x : Opening). x.log_limit) (sym (opening_stays s i a said moved.after moved.does)) ∙ moved.stands.opening.log_is)

  moved_image : (a : Act) (said : Answer) (es : List Effect) (then : CoreState M) (before : Option ℕ) → s.opening.data_limit ≡ before → Moved maps spare limit s i a said es then → before ≡ then.data_room.limit
  moved_image a said es then before was moved =
      sym was ∙ (ap (λ (x : Opening). x.data_limit) (sym (opening_stays s i a said moved.after moved.does)) ∙ moved.stands.opening.data_is)

-- ---- what was done

module _ {M J X : Type 0} (maps : M → ℕ → Map) (spare : M → ℕ → ℕ) (limit : M → Option ℕ) (has : J → Records → Type 0) (area : J → Option ℕ) (medium : J → X) (leaves : X → X → Cut → Cut → Type 0) (s : State) (i : ℕ) (a : Act) (said : Answer) where
  module _ (core : CoreState M) (journal : J) (then : CoreState M) (after : J) where
    -- it was told, where the disk did not fail
    pub told_of : Did maps spare limit has area medium leaves s i a said core journal then after → is_fault said ≡ false → Told maps spare limit s i a said then
    told_of (inl gave) fine = gave.told
    told_of (inr up) fine = absurd (let no : false ≡ true = sym fine ∙ ap is_fault up.said_is in cc)

    pub failed_of : Did maps spare limit has area medium leaves s i a said core journal then after → is_fault said ≡ true → Failed maps spare limit s i a then
    failed_of (inl gave) bad = absurd (let no : true ≡ false = sym bad ∙ gave.told.no_fault in cc)
    failed_of (inr up) bad = up.failed

    module _ (rs : Records) (behind : IsBehind maps spare limit has area core journal s.log rs) (began : Began maps spare limit core s i) (new : CoreState M) where
      pub recorded_told : (did : Did maps spare limit has area medium leaves s i a said core journal then after) → is_fault said ≡ false → ((told : Told maps spare limit s i a said then) → Moved maps spare limit s i a said told.effects new)
          → Recorded maps spare limit has area medium leaves s i a said rs journal new after
      recorded_told (inl gave) fine closes =
          let moved : Moved maps spare limit s i a said gave.told.effects new = closes gave.told in
          record {
            effects = gave.told.effects;
            says = inl gave.told.says;
            moved = moved;
            behind = λ _.
                let given : Records = records_after s i a said gave.told.effects rs in
                let used_now = used_after s i a said gave.told.effects rs behind.used ∙ sym (ap (λ (l : Log). l.used) moved.logged) in
                let limit_now = gave.same_limit ∙ (behind.same_limit ∙ moved_limit maps spare limit s i a said gave.told.effects new core.log_room.limit began.opening.log_is moved) in
                let image_now = image_after s i a said gave.told.effects rs ∙ (behind.same_image ∙ moved_image maps spare limit s i a said gave.told.effects new core.data_room.limit began.opening.data_is moved) in
                gives_more (λ xs. has after xs × LeavesOne medium leaves journal after (cut_of rs) (cut_of xs)) (IsBehind maps spare limit has area new after moved.after.log) (IsSaved s) a said given
                (λ saved have. record { has_them = have.0; used = used_now; same_limit = limit_now; same_image = image_now })
                (λ have. record { has_them = have.0; used = used_now; same_limit = limit_now; same_image = image_now }) (gave.gave rs behind);
            few = few_after s i a said gave.told.effects rs moved.after began.runs moved.does;
            untouched = λ stopped. absurd (some_not_none s.stop stopped began.runs);
            left = λ runs fine. gave.gave rs behind;
            left_behind = λ runs bad. absurd (let no : false ≡ true = sym fine ∙ bad in cc);
          }
      recorded_told (inr up) fine closes = absurd (let no : false ≡ true = sym fine ∙ ap is_fault up.said_is in cc)

      pub recorded_fault : (did : Did maps spare limit has area medium leaves s i a said core journal then after) → is_fault said ≡ true → (Failed maps spare limit s i a then → Moved maps spare limit s i a (answer.Refused refusal.DiskFault) [] new)
          → Recorded maps spare limit has area medium leaves s i a said rs journal new after
      recorded_fault (inl gave) bad closes = absurd (let no : true ≡ false = sym bad ∙ gave.told.no_fault in cc)
      recorded_fault (inr up) bad closes =
          let moved : Moved maps spare limit s i a (answer.Refused refusal.DiskFault) [] new = closes up.failed in
          subst (λ m. Recorded maps spare limit has area medium leaves s i a m rs journal new after) (sym up.said_is)
          (record {
            effects = [];
            says = inl up.failed.says;
            moved = moved;
            behind = λ none. absurd (fault_stops s i a moved.after began.runs moved.does none);
            few = few_after s i a (answer.Refused refusal.DiskFault) [] rs moved.after began.runs moved.does;
            untouched = λ stopped. absurd (some_not_none s.stop stopped began.runs);
            left = λ runs fine. absurd (let no : true ≡ false = fine in cc);
            left_behind = λ runs bad_now. subst (λ m. MayHave (LeavesOne medium leaves journal after (cut_of rs)) (IsSaved s) a (records_after s i a m [] rs)) up.said_is (up.left rs behind);
          })

-- a session is told of a stop
pub recorded_stop : {M J X : Type 0} (maps : M → ℕ → Map) (spare : M → ℕ → ℕ) (limit : M → Option ℕ) (has : J → Records → Type 0) (area : J → Option ℕ) (medium : J → X) (leaves : X → X → Cut → Cut → Type 0) (s : State) (i : ℕ) (a : Act) (stop : Stop) (core : CoreState M) (journal : J) (rs : Records)
    → s.stop ≡ Some stop → (new : CoreState M) → Moved maps spare limit s i a (answer.Refused (refusal.Stopped stop.step)) [] new
    → Recorded maps spare limit has area medium leaves s i a (answer.Refused (refusal.Stopped stop.step)) rs journal new journal
recorded_stop maps spare limit has area medium leaves s i a stop core journal rs stopped new moved = record {
  effects = [];
  says = inr (subst IsSome (sym stopped) refl, refl);
  moved = moved;
  behind = λ none. absurd (let bad : Some stop ≡ None = sym (stays moved).0 ∙ none in cc);
  few = λ few.
      let same : (records_after s i a (answer.Refused (refusal.Stopped stop.step)) [] rs).saves ≡ rs.saves = ap (λ (x : Records). x.saves) (stopped_records s i rs a stop.step) in
      let still = (stays moved).1 in
      omega (arith, few, same, still);
  untouched = λ _. refl;
  left = λ runs fine. absurd (let bad : Some stop ≡ None = sym stopped ∙ runs in cc);
  left_behind = λ runs bad. absurd (let no : false ≡ true = bad in cc);
}
  where
    stays : (m : Moved maps spare limit s i a (answer.Refused (refusal.Stopped stop.step)) [] new) → (m.after.stop ≡ Some stop) × (m.after.steps ≡ s.steps)
    stays m = stays_stopped s i a (answer.Refused (refusal.Stopped stop.step)) m.after stop stopped m.does
