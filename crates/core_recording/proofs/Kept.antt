-- The step that a transaction kept last, in the book and in the machine.
use Rattle.std.specs.Prelude.{◌≡◌, ◌≢◌, ℕ, List, [], ◌∷◌, reverse, Option, Some, IsSome}
use mathlib.Core.Path.{refl, sym, ap, subst, ◌∙◌}
use Rattle.iv_types.specs.Definitions.{Definitions}
use Rattle.iv_types.specs.Maps.{Map}
use Rattle.iv_types.specs.declared.lock.KeptStep.{KeptStep}
use Rattle.iv_types.specs.declared.lock.KeptStep.TheVariants as kept
use Rattle.iv_meaning.specs.Objects as defined
use Rattle.iv_meaning.specs.Schema.{Schema}
use Rattle.txn_machine.specs.Keeping as machine
use Rattle.txn_machine.specs.Log.{Log}
use Rattle.txn_machine.specs.May.{IsOpen}
use Rattle.txn_machine.specs.State.{State}
use Rattle.txn_machine.specs.Store.{Store, now, schema_of}
use Rattle.txn_book.specs.Holding.{AreKept}
use Rattle.txn_book.specs.Opens.{open_at}
use Rattle.txn_book.specs.Txns.{txn_of}
use Rattle.txn_book.specs.declared.open_table.Open.{Open}
use Rattle.log_records.specs.declared.record.Record as bytes
use Rattle.log_disk.specs.Spelled.{in_bytes}
use Rattle.record_lending.specs.Steps as steps
use Rattle.record_lending.specs.Steps.{HasItsEntries}
use Rattle.log_room.specs.Rooms.{KeepsLatest}
use Rattle.core_state.specs.Rooms.{CanBeTakenBack}
use Rattle.core_state.specs.Stands.{Began, Holds, Texts, its_texts}
use Rattle.core_state.specs.declared.state.CoreState.{CoreState}
use Rattle.core_effects.proofs.Opened.{Has, own}
use Rattle.core_recording.specs.Appending.{kept_record}

-- a step that the book keeps is this one of the machine, and the log has its record under this number
pub record IsStep (definitions : Definitions) (transaction : ℕ) (b : KeptStep) (k : machine.KeptStep) (number : ℕ) : Type 0 where
  pub entries : HasItsEntries definitions b
  pub record_is : steps.record_of transaction b ≡ kept_record transaction k
  pub number_is : steps.number_of b ≡ number

first_step : (definitions : Definitions) (transaction : ℕ) (b : KeptStep) (bs : List KeptStep) (k : machine.KeptStep) (ks : List machine.KeptStep) (n : ℕ) (ns : List ℕ)
    → AreKept (b ∷ bs) (k ∷ ks) (n ∷ ns) → CanBeTakenBack definitions (b ∷ bs) → IsStep definitions transaction b k n
first_step definitions transaction (kept.Put kept txn_bytes history_bytes number) bs (machine.Put c owed) ks n ns are can =
    record { entries = can.0; record_is = ap (λ x. Rattle.txn_machine.specs.Records.Write transaction x) are.0; number_is = are.1 }
first_step definitions transaction (kept.Put kept txn_bytes history_bytes number) bs (machine.Pay d) ks n ns are can = absurd are
first_step definitions transaction (kept.Pay d before number) bs (machine.Put c owed) ks n ns are can = absurd are
first_step definitions transaction (kept.Pay d before number) bs (machine.Pay e) ks n ns are can =
    record { entries = tt; record_is = ap (λ x. Rattle.txn_machine.specs.Records.Delta transaction x) are.0; number_is = are.1 }

-- the first of some steps
pub record HasFirst (definitions : Definitions) (transaction : ℕ) (bs : List KeptStep) (k : machine.KeptStep) (number : ℕ) : Type 0 where
  pub first : KeptStep
  pub others : List KeptStep
  pub are : bs ≡ first ∷ others
  pub step : IsStep definitions transaction first k number

first_of : (definitions : Definitions) (transaction : ℕ) (bs : List KeptStep) (k : machine.KeptStep) (ks : List machine.KeptStep) (n : ℕ) (ns : List ℕ)
    → AreKept bs (k ∷ ks) (n ∷ ns) → CanBeTakenBack definitions bs → HasFirst definitions transaction bs k n
first_of definitions transaction [] k ks n ns are can = absurd are
first_of definitions transaction (b ∷ bs) k ks n ns are can = record { first = b; others = bs; are = refl; step = first_step definitions transaction b bs k ks n ns are can }

module _ {M : Type 0} (maps : M → ℕ → Map) (spare : M → ℕ → ℕ) (limit : M → Option ℕ) (core : CoreState M) (s : Store) (l : Log) (texts : Texts) (i : ℕ) (h : Holds maps spare limit core s l texts) (k : machine.KeptStep)
    (o : KeepsLatest s l i k) where
  mine : Has (schema_of s) (open_at core.book.opens i) (now s i) (l.logged i)
  mine = own maps spare limit core s l texts i h (record { of_session = o.serial.of_session; transaction = now s i; is_open = o.serial.is_open })

  pub is_open : IsSome (open_at core.book.opens i)
  is_open = subst IsSome (sym mine.there) refl

  latest : HasFirst core.store.catalog (l.logged i).transaction (txn_of mine.txn).kept k o.number
  latest =
      first_of core.store.catalog (l.logged i).transaction (txn_of mine.txn).kept k o.earlier o.number o.numbers
      (subst (λ (ns : List ℕ). AreKept (txn_of mine.txn).kept (k ∷ o.earlier) ns) o.logged_is (subst (λ ks. AreKept (txn_of mine.txn).kept ks (l.logged i).kept) o.kept_is mine.is.kept))
      (h.rooms.each i o.serial.of_session mine.txn mine.there).kept

  module _ (t : Open) (there : open_at core.book.opens i ≡ Some t) where
    same : t ≡ mine.txn
    same = let one : Some t ≡ Some mine.txn = sym there ∙ mine.there in cc

    its_steps : reverse t.kept.items ≡ latest.first ∷ latest.others
    its_steps = ap (λ (x : Open). reverse x.kept.items) same ∙ latest.are

    pub some_kept : t.kept.items ≢ []
    some_kept none = let bad : [] ≡ latest.first ∷ latest.others = ap reverse (sym none) ∙ its_steps in absurd (cc)

    pub its_id : t.id ≡ (l.logged i).transaction
    its_id = ap (λ (x : Open). x.id) same ∙ mine.is.id

    module _ (b : KeptStep) (is : (k : KeptStep) (ks : List KeptStep) → reverse t.kept.items ≡ k ∷ ks → b ≡ k) where
      is_first : b ≡ latest.first
      is_first = is latest.first latest.others its_steps

      pub its_number : steps.number_of b ≡ o.number
      its_number = ap steps.number_of is_first ∙ latest.step.number_is

      its_entries : HasItsEntries core.store.catalog b
      its_entries = subst (HasItsEntries core.store.catalog) (sym is_first) latest.step.entries

      -- what stands for the record of the book's step is the machine's in bytes
      pub its_bytes : (r : bytes.Record) → ((definitions : Definitions) → HasItsEntries definitions b → r ≡ in_bytes (defined.schema_of definitions) (steps.record_of t.id b))
          → r ≡ in_bytes (schema_of s) (kept_record (l.logged i).transaction k)
      its_bytes r stands =
          stands core.store.catalog its_entries
          ∙ ap (λ (os : Schema). in_bytes os (steps.record_of t.id b)) h.stored.objects
          ∙ ap (in_bytes (schema_of s)) (ap (λ n. steps.record_of n b) its_id ∙ (ap (steps.record_of (l.logged i).transaction) is_first ∙ latest.step.record_is))

-- the number in the log of an open transaction
module _ {M : Type 0} (maps : M → ℕ → Map) (spare : M → ℕ → ℕ) (limit : M → Option ℕ) (core : CoreState M) (s : State) (i : ℕ) (h : Began maps spare limit core s i) where
  pub id_is : (o : IsOpen s.store i) (t : Open) → open_at core.book.opens i ≡ Some t → t.id ≡ (s.log.logged i).transaction
  id_is o t there =
      let mine : Has (schema_of s.store) (open_at core.book.opens i) (now s.store i) (s.log.logged i) = own maps spare limit core s.store s.log (its_texts s) i h.holds o in
      let one : Some t ≡ Some mine.txn = sym there ∙ mine.there in
      let same : t ≡ mine.txn = cc in
      ap (λ (x : Open). x.id) same ∙ mine.is.id
