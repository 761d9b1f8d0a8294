-- A record that is given in bytes.
use Rattle.std.specs.Prelude.{◌≡◌, ℕ, ◌+◌, ◌≤◌, ◌^◌, ◌∷◌, length, Option}
use mathlib.Core.Path.{sym, ap, subst, ◌∙◌}
use Rattle.iv_meaning.specs.Schema.{Schema}
use Rattle.txn_machine.specs.Log.{Within}
use Rattle.txn_machine.specs.Records.{Record, record_bytes}
use Rattle.log_records.specs.declared.record.Record as bytes
use Rattle.log_records.specs.Spelling.{IsShort, spelling}
use Rattle.log_disk.specs.Spelled.{in_bytes}
use Rattle.log_disk.proofs.Counting.{record_long}
use Rattle.core_journal.specs.Records.{Records, with_one}
use Rattle.core_recording.specs.Appending.{CanAppend}

-- what is given stands for this record, under its number
module _ (objects : Schema) (r : Record) (number given : ℕ) (lent : bytes.Record) (numbered : given ≡ number) (is : lent ≡ in_bytes objects r) where
  long : length (spelling given lent) ≡ record_bytes objects r
  long = ap (λ (e : bytes.Record). length (spelling given e)) is ∙ record_long objects given r

  module _ (most : Option ℕ) (rs : Records) (can : CanAppend most objects number r rs) where
    pub short : IsShort lent
    short = subst IsShort (sym is) can.short

    pub its_number : given ≤ 2 ^ 63
    its_number = subst (λ n. n ≤ 2 ^ 63) (sym numbered) can.numbered

    pub room : Within most (rs.used + length (spelling given lent))
    room = subst (λ n. Within most (rs.used + n)) (sym long) can.room

  -- the journal has it then
  pub given_one : (rs : Records) → (record rs { waiting = record { number = given; entry = lent } ∷ rs.waiting; used = rs.used + length (spelling given lent) }) ≡ with_one objects (record { number = number; of = r }) rs
  given_one rs = λ x. record rs { waiting = record { number = numbered x; entry = is x } ∷ rs.waiting; used = rs.used + long x }
