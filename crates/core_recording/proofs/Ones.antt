-- An act that gives one record, after it was done.
use Rattle.std.specs.Prelude.{◌≡◌, ◌≤◌, ◌^◌, ℕ, List, ◌∷◌, Option}
use mathlib.Core.Logic.{inl}
use mathlib.Core.Path.{sym, subst, ◌∙◌}
use Rattle.iv_types.specs.Maps.{Map}
use Rattle.iv_types.specs.declared.refusal.EngineRefusal.TheVariants as refusal
use Rattle.iv_meaning.specs.Schema.{Schema}
use Rattle.txn_machine.specs.Acts as act
use Rattle.txn_machine.specs.Acts.{Act}
use Rattle.txn_machine.specs.Answers as answer
use Rattle.txn_machine.specs.Answers.{Answer}
use Rattle.txn_machine.specs.Log.{Within}
use Rattle.txn_machine.specs.May.{MayAct}
use Rattle.txn_machine.specs.Records.{Record, Undo}
use Rattle.txn_machine.specs.State.{State}
use Rattle.txn_machine.specs.Steps.{Says}
use Rattle.txn_machine.specs.Store.{Effect, schema_of}
use Rattle.log_records.specs.declared.record.Record as bytes
use Rattle.log_records.specs.Spelling.{IsShort}
use Rattle.log_disk.specs.Spelled.{in_bytes}
use Rattle.core_journal.specs.Records.{Records, with_one, with_perhaps, records_after}
use Rattle.core_journal.specs.Cuts.{Cut, cut_of}
use Rattle.core_recording.proofs.Plain.{IsPlain, plain_gives}
use Rattle.core_state.specs.Stands.{Began, Told}
use Rattle.core_state.specs.declared.state.CoreState.{CoreState}
use Rattle.core_recording.specs.Appending.{CanAppend}
use Rattle.core_recording.specs.Giving.{IsSaved, IsBehind, IsUngiven, LeavesOne, Gave}
use Rattle.core_recording.proofs.Given.{one, ended, undo_gives, end_gives}
use Rattle.core_recording.proofs.Used.{told_within, next_small, limit_stays, image_stays}

-- ---- what is given

pub undo_told : (s : State) (i : ℕ) (rs : Records) (said : Answer) (es : List Effect) (number : ℕ) (numbers : List ℕ) → Says s i act.UndoOne said es → (s.log.logged i).kept ≡ number ∷ numbers
    → records_after s i act.UndoOne said es rs ≡ one s i rs (Undo (s.log.logged i).transaction number)
undo_told s i rs (answer.Undone left) es number numbers says are = undo_gives s i rs left es number numbers says are
undo_told s i rs (answer.Blocked sessions) es number numbers says are = absurd says.0
undo_told s i rs (answer.Refused (refusal.Deadlock cycle)) es number numbers says are = absurd says.0
undo_told s i rs (answer.Refused refusal.NoMemory) es number numbers says are = absurd says.0
undo_told s i rs said es number numbers says are = absurd says

pub end_told : (s : State) (i : ℕ) (rs : Records) (said : Answer) (es : List Effect) → Says s i act.End said es → records_after s i act.End said es rs ≡ ended s i rs (s.log.logged i).wrote
end_told s i rs answer.Ended es says = end_gives s i rs es says
end_told s i rs (answer.Blocked sessions) es says = absurd says.0
end_told s i rs (answer.Refused (refusal.Deadlock cycle)) es says = absurd says.0
end_told s i rs (answer.Refused refusal.NoMemory) es says = absurd says.0
end_told s i rs said es says = absurd says

-- ---- it is given under the number that the core had before

module _ {M J : Type 0} (maps : M → ℕ → Map) (spare : M → ℕ → ℕ) (limit : M → Option ℕ) (has : J → Records → Type 0) (area : J → Option ℕ) (core : CoreState M) (journal : J) (s : State) (i : ℕ) (a : Act) (said : Answer) (then : CoreState M)
    (began : Began maps spare limit core s i) (told : Told maps spare limit s i a said then) where
  -- there is room for a record that is given
  pub can_one : (r : Record) (rs : Records) → records_after s i a said told.effects rs ≡ with_one (schema_of s.store) (record { number = s.log.next; of = r }) rs → IsShort (in_bytes (schema_of s.store) r)
      → IsBehind maps spare limit has area core journal s.log rs → CanAppend (area journal) (schema_of s.store) core.next r rs
  can_one r rs gives short behind =
      let within = told_within maps spare limit s i a said then told (area journal) (behind.same_limit ∙ sym (limit_stays maps spare limit s i a said then told core began)) rs behind.used in
      record {
        short = short;
        numbered = subst (λ n. n ≤ 2 ^ 63) (sym began.holds.next) (next_small maps spare limit s i a said then told);
        room = subst (λ (xs : Records). Within (area journal) xs.used) gives within;
      }

  -- its record is not given yet
  abbrev pub still_ungiven : MayAct s.store i a → (rs : Records) → IsBehind maps spare limit has area core journal s.log rs → IsUngiven maps spare limit has area then journal i a said
  still_ungiven may rs behind = record {
    state = s;
    may = may;
    told = told;
    records = rs;
    behind = record { has_them = behind.has_them; used = behind.used; same_limit = behind.same_limit ∙ sym (limit_stays maps spare limit s i a said then told core began); same_image = behind.same_image ∙ sym (image_stays maps spare limit s i a said then told core began) };
  }

-- ---- the journal has it then, and nothing was written

module _ {M J X : Type 0} (maps : M → ℕ → Map) (spare : M → ℕ → ℕ) (limit : M → Option ℕ) (has : J → Records → Type 0) (area : J → Option ℕ) (medium : J → X) (leaves : X → X → Cut → Cut → Type 0) (core : CoreState M) (journal : J) (s : State) (i : ℕ) (a : Act) (said : Answer)
    (then : CoreState M) (began : Began maps spare limit core s i) (told : Told maps spare limit s i a said then) where
  pub gave_all : (after : J) → ((rs : Records) → has journal rs → has after (records_after s i a said told.effects rs)) → area after ≡ area journal → medium after ≡ medium journal → IsPlain a
      → Gave maps spare limit has area medium leaves s i a said core journal then after
  gave_all after given same still plain = record {
    told = told;
    gave = λ rs behind. plain_gives (λ xs. has after xs × LeavesOne medium leaves journal after (cut_of rs) (cut_of xs)) (IsSaved s) a said _ plain (given rs behind.has_them, inl still);
    same_limit = same;
  }

  -- a record that is given
  pub gave_one : (r : Record) (lent : bytes.Record) (after : J) → ((rs : Records) → records_after s i a said told.effects rs ≡ with_one (schema_of s.store) (record { number = s.log.next; of = r }) rs) → lent ≡ in_bytes (schema_of s.store) r
      → ((objects : Schema) (x : Record) (rs : Records) → lent ≡ in_bytes objects x → has journal rs → has after (with_one objects (record { number = core.next; of = x }) rs)) → area after ≡ area journal → medium after ≡ medium journal
      → IsPlain a → Gave maps spare limit has area medium leaves s i a said core journal then after
  gave_one r lent after gives is given same still plain =
      gave_all after (λ rs mine. subst (has after) ((λ x. with_one (schema_of s.store) (record { number = began.holds.next x; of = r }) rs) ∙ sym (gives rs)) (given (schema_of s.store) r rs is mine)) same still plain

  -- and one that is given perhaps
  pub gave_perhaps : (r : Option Record) (after : J) → ((rs : Records) → records_after s i a said told.effects rs ≡ with_perhaps (schema_of s.store) s.log.next r rs)
      → ((objects : Schema) (rs : Records) → has journal rs → has after (with_perhaps objects core.next r rs)) → area after ≡ area journal → medium after ≡ medium journal → IsPlain a
      → Gave maps spare limit has area medium leaves s i a said core journal then after
  gave_perhaps r after gives given same still plain =
      gave_all after (λ rs mine. subst (has after) ((λ x. with_perhaps (schema_of s.store) (began.holds.next x) r rs) ∙ sym (gives rs)) (given (schema_of s.store) rs mine)) same still plain
