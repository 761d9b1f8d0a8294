-- The record of a step, as it is carried.
use Rattle.std.specs.Prelude.{◌≡◌, ℕ, ◌+◌, ◌∷◌, List, length}
use mathlib.Core.Path.{ap, subst, ◌∙◌}
use Rattle.iv_types.specs.declared.lock.KeptStep.{KeptStep}
use Rattle.iv_meaning.specs.Schema.{Schema}
use Rattle.txn_machine.specs.Records.{record_bytes}
use Rattle.log_records.specs.declared.record.Record as bytes
use Rattle.log_records.specs.Area.{Entry}
use Rattle.log_records.specs.Spelling.{spelling}
use Rattle.log_disk.specs.Spelled.{in_bytes}
use Rattle.log_disk.proofs.Counting.{record_long}
use Rattle.record_lending.specs.Steps.{number_of, record_of}
use Rattle.core_recording.specs.Carrying.{entry_of}

module _ (objects : Schema) (id transaction number : ℕ) (k found : KeptStep) (lent : bytes.Record) (same : found ≡ k) (id_is : transaction ≡ id) (number_is : number ≡ number_of found) (lent_is : lent ≡ in_bytes objects (record_of transaction found)) where
  pub is : lent ≡ in_bytes objects (record_of id k)
  is = lent_is ∙ (λ x. in_bytes objects (record_of (id_is x) (same x)))

  numbered : number ≡ number_of k
  numbered = number_is ∙ ap number_of same

  pub long : length (spelling number lent) ≡ record_bytes objects (record_of id k)
  long = ap (λ (e : bytes.Record). length (spelling number e)) is ∙ record_long objects number (record_of id k)

  pub entry_is : (record { number = number; entry = lent }) ≡ entry_of objects id k
  entry_is = λ x. record { number = numbered x; entry = is x }

  pub carried_as : (C : List Entry → ℕ → Type 0) (es : List Entry) (used : ℕ) → C (record { number = number; entry = lent } ∷ es) (used + length (spelling number lent)) → C (entry_of objects id k ∷ es) (used + record_bytes objects (record_of id k))
  carried_as C es used h = subst (λ n. C (entry_of objects id k ∷ es) (used + n)) long (subst (λ (e : Entry). C (e ∷ es) (used + length (spelling number lent))) entry_is h)
