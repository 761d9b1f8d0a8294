-- What is told of an act that may keep a step: nothing is given, or the record of that step.
use Rattle.std.specs.Prelude.{◌≡◌, ℕ, true, false, List, ◌∷◌, Option}
use mathlib.Core.Path.{refl, sym, ap, subst, ◌∙◌}
use Rattle.iv_types.specs.Maps.{Map}
use Rattle.iv_types.specs.declared.lock.GroupDelta.{GroupDelta}
use Rattle.iv_types.specs.declared.refusal.EngineRefusal.TheVariants as refusal
use Rattle.std.specs.List.{AllByRecursion}
use Rattle.query_laws.specs.Limited.{IsLimited}
use Rattle.txn_machine.specs.Acts as act
use Rattle.txn_machine.specs.Acts.{Act}
use Rattle.txn_machine.specs.Answers as answer
use Rattle.txn_machine.specs.Answers.{Answer}
use Rattle.txn_machine.specs.Ghosts.{the_views}
use Rattle.txn_machine.specs.Keeping.{KeptStep, Put, Pay}
use Rattle.txn_machine.specs.Laws.{IsReached}
use Rattle.txn_machine.specs.Log.{Within}
use Rattle.txn_machine.specs.May.{MayAct}
use Rattle.txn_machine.specs.Records.{Record, Write, Delta}
use Rattle.txn_machine.specs.State.{State}
use Rattle.txn_machine.specs.Steps.{Says, asked, log_after, put_owed}
use Rattle.txn_machine.specs.Store.{Effect, change_at, run, schema_of}
use Rattle.txn_machine.proofs.Reached.{reached}
use Rattle.txn_log.specs.Replay.{Added}
use Rattle.txn_log.specs.Fitting.{IsKnown}
use Rattle.txn_log.proofs.Knowing.{change_known, all_owed}
use Rattle.log_records.specs.Spelling.{IsShort}
use Rattle.log_disk.specs.Spelled.{in_bytes}
use Rattle.record_lending.specs.Known.{ShortLaw}
use Rattle.log_room.specs.Rooms.{KeepsLatest}
use Rattle.core_journal.specs.Records.{Records, with_one, recorded_all, records_after}
use Rattle.core_state.specs.Stands.{Told}
use Rattle.core_state.specs.declared.state.CoreState.{CoreState}
use Rattle.core_recording.specs.Appending.{CanAppend, kept_record}
use Rattle.core_recording.specs.Kept.{MayKeep, is_kept}
use Rattle.core_recording.proofs.Given.{put_gives, pay_gives}
use Rattle.core_recording.proofs.Newest.{HasKept, put_kept, pay_kept}
use Rattle.core_recording.proofs.Used.{told_within, next_small}

-- ---- no step is kept

pub quiet_records : (s : State) (i : ℕ) (rs : Records) (a : Act) (said : Answer) (es : List Effect) → MayKeep a → is_kept said ≡ false → Says s i a said es → records_after s i a said es rs ≡ rs
quiet_records s i rs (act.Put number key new) (answer.Blocked sessions) es may e says = ap (λ xs. recorded_all s.store i (act.Put number key new) xs s.log rs) says.2
quiet_records s i rs (act.Put number key new) (answer.Refused (refusal.Deadlock cycle)) es may e says = ap (λ xs. recorded_all s.store i (act.Put number key new) xs s.log rs) says.2
quiet_records s i rs (act.Put number key new) (answer.Refused refusal.NoMemory) es may e says = ap (λ xs. recorded_all s.store i (act.Put number key new) xs s.log rs) says.1
quiet_records s i rs (act.Put number key new) (answer.Refused (refusal.TxnFull kept need)) es may e says = ap (λ xs. recorded_all s.store i (act.Put number key new) xs s.log rs) says.1
quiet_records s i rs (act.Put number key new) (answer.Refused (refusal.LogFull used reserved_bytes need)) es may e says = ap (λ xs. recorded_all s.store i (act.Put number key new) xs s.log rs) says.1
quiet_records s i rs (act.Put number key new) (answer.Refused (refusal.DataFull used need)) es may e says = ap (λ xs. recorded_all s.store i (act.Put number key new) xs s.log rs) says.1
quiet_records s i rs (act.Put number key new) (answer.Refused (refusal.HistoryFull kept need)) es may e says = ap (λ xs. recorded_all s.store i (act.Put number key new) xs s.log rs) says.1
quiet_records s i rs (act.Put number key new) (answer.Changed before deltas) es may e says = absurd (let bad : true ≡ false = e in cc)
quiet_records s i rs act.Pay (answer.Blocked sessions) es may e says = ap (λ xs. recorded_all s.store i act.Pay xs s.log rs) says.2
quiet_records s i rs act.Pay (answer.Refused (refusal.Deadlock cycle)) es may e says = ap (λ xs. recorded_all s.store i act.Pay xs s.log rs) says.2
quiet_records s i rs act.Pay (answer.Refused refusal.NoMemory) es may e says = absurd says.0
quiet_records s i rs act.Pay (answer.Refused (refusal.Escrow column low high)) es may e says = ap (λ xs. recorded_all s.store i act.Pay xs s.log rs) says.effects
quiet_records s i rs act.Pay answer.NeedsGhost es may e says = ap (λ xs. recorded_all s.store i act.Pay xs s.log rs) says.effects
quiet_records s i rs act.Pay (answer.Paid left) es may e says = absurd (let bad : true ≡ false = e in cc)
quiet_records s i rs (act.Put number key new) said es may e says = absurd says
quiet_records s i rs act.Pay said es may e says = absurd says
quiet_records s i rs a said es may e says = absurd may

-- ---- one is kept

-- it is the latest then, and its record, which can be written, is given under the number that was next
pub record GivesKept (s : State) (i : ℕ) (a : Act) (said : Answer) (es : List Effect) : Type 0 where
  pub k : KeptStep
  pub latest : KeepsLatest (run the_views s.store i es) (log_after s i a said es) i k
  pub number_is : latest.number ≡ s.log.next
  pub objects : schema_of (run the_views s.store i es) ≡ schema_of s.store
  pub transaction_is : ((log_after s i a said es).logged i).transaction ≡ (s.log.logged i).transaction
  pub gives : (rs : Records) → records_after s i a said es rs ≡ with_one (schema_of s.store) (record { number = s.log.next; of = kept_record (s.log.logged i).transaction k }) rs
  pub short : IsLimited (schema_of s.store) → IsShort (in_bytes (schema_of s.store) (kept_record (s.log.logged i).transaction k))

kept_as : (s : State) (i : ℕ) (a : Act) (said : Answer) (es : List Effect) (k : KeptStep) → HasKept s.store s.log i a k es → log_after s i a said es ≡ Rattle.txn_machine.specs.Log.log_all s.store i a es s.log
    → ((rs : Records) → records_after s i a said es rs ≡ with_one (schema_of s.store) (record { number = s.log.next; of = kept_record (s.log.logged i).transaction k }) rs)
    → (IsLimited (schema_of s.store) → IsShort (in_bytes (schema_of s.store) (kept_record (s.log.logged i).transaction k))) → GivesKept s i a said es
kept_as s i a said es k has same gives short =
    let P = λ (l : Rattle.txn_machine.specs.Log.Log). (h : KeepsLatest (run the_views s.store i es) l i k) × (h.number ≡ s.log.next) × ((l.logged i).transaction ≡ (s.log.logged i).transaction) in
    let here : P (log_after s i a said es) = subst P (sym same) (has.latest, has.number_is, has.transaction_is) in
    record { k = k; latest = here.0; number_is = here.1; objects = has.objects; transaction_is = here.2; gives = gives; short = short }

pub kept_told : ShortLaw → (s : State) (i : ℕ) (a : Act) (said : Answer) (es : List Effect) → IsReached s → MayAct s.store i a → MayKeep a → is_kept said ≡ true → Says s i a said es → GivesKept s i a said es
kept_told law s i (act.Put number key new) (answer.Changed before deltas) es is may keeps e says =
    let k : KeptStep = Put (change_at s.store (number, key) new) (put_owed s.store (change_at s.store (number, key) new)) in
    kept_as s i (act.Put number key new) (answer.Changed before deltas) es k
    (subst (HasKept s.store s.log i (act.Put number key new) k) (sym says.effects) (put_kept s.store s.log i (act.Put number key new) may.0.goes_on (asked s.store i (act.Put number key new)) (number, key) new))
    refl
    (λ rs. put_gives s i rs number key new before deltas es says)
    (λ limited. law (schema_of s.store) limited (Write (s.log.logged i).transaction (change_at s.store (number, key) new)) (change_known s.store (reached s is) number key new may.1))
kept_told law s i act.Pay (answer.Paid left) es is may keeps e says =
    let d : GroupDelta = says.pays.first in
    let known : AllByRecursion (λ x. IsKnown (schema_of s.store) (Added x)) (d ∷ says.pays.others) = subst (AllByRecursion (λ x. IsKnown (schema_of s.store) (Added x))) says.pays.owed_is (all_owed s.store (reached s is) i may.goes_on.of_session) in
    kept_as s i act.Pay (answer.Paid left) es (Pay d)
    (subst (HasKept s.store s.log i act.Pay (Pay d)) (sym says.effects) (pay_kept s.store s.log i act.Pay may.goes_on (asked s.store i act.Pay) d says.pays.others says.pays.owed_is))
    refl
    (λ rs. pay_gives s i rs left es says)
    (λ limited. law (schema_of s.store) limited (Delta (s.log.logged i).transaction d) known.0)
kept_told law s i (act.Put number key new) (answer.Paid left) es is may keeps e says = absurd says
kept_told law s i act.Pay (answer.Changed before deltas) es is may keeps e says = absurd says
kept_told law s i (act.Put number key new) said es is may keeps e says = absurd (let bad : false ≡ true = e in cc)
kept_told law s i act.Pay said es is may keeps e says = absurd (let bad : false ≡ true = e in cc)
kept_told law s i a said es is may keeps e says = absurd keeps

-- ---- it can be given

module _ {M : Type 0} (maps : M → ℕ → Map) (spare : M → ℕ → ℕ) (limit : M → Option ℕ) (law : ShortLaw) (s : State) (i : ℕ) (a : Act) (said : Answer) (core : CoreState M) (told : Told maps spare limit s i a said core)
    (may : MayAct s.store i a) (keeps : MayKeep a) (is : is_kept said ≡ true) where
  abbrev pub it : GivesKept s i a said told.effects
  it = kept_told law s i a said told.effects told.reached may keeps is told.says

  abbrev its_record : Record
  its_record = kept_record (s.log.logged i).transaction it.k

  abbrev given_record : Record
  given_record = kept_record ((log_after s i a said told.effects).logged i).transaction it.k

  same_record : given_record ≡ its_record
  same_record = ap (λ n. kept_record n it.k) it.transaction_is

  limited : IsLimited (schema_of s.store)
  limited = subst IsLimited (told.holds.stored.objects ∙ it.objects) told.holds.rooms.limited

  pub can_give : (most : Option ℕ) → most ≡ core.log_room.limit → (rs : Records) → rs.used ≡ s.log.used → CanAppend most (schema_of (run the_views s.store i told.effects)) it.latest.number given_record rs
  can_give most same rs used =
      let within = told_within maps spare limit s i a said core told most same rs used in
      let here : CanAppend most (schema_of s.store) s.log.next its_record rs =
      record { short = it.short limited; numbered = next_small maps spare limit s i a said core told; room = subst (λ (xs : Records). Within most xs.used) (it.gives rs) within } in
      subst (λ os. CanAppend most os it.latest.number given_record rs) (sym it.objects)
      (subst (λ n. CanAppend most (schema_of s.store) n given_record rs) (sym it.number_is)
      (subst (λ r. CanAppend most (schema_of s.store) s.log.next r rs) (sym same_record) here))

  pub gives_it : (rs : Records) → with_one (schema_of (run the_views s.store i told.effects)) (record { number = it.latest.number; of = given_record }) rs ≡ records_after s i a said told.effects rs
  gives_it rs = (λ x. with_one (it.objects x) (record { number = it.number_is x; of = same_record x }) rs) ∙ sym (it.gives rs)
