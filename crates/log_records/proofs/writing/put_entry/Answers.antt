use Rattle.std.proofs.Common.{ℕ, subst, ◌≡◌, ◌%◌, ◌∷◌, ◌++◌, ◌∙◌, arith}
use Rattle.std.proofs.Math.Nat.{mod-eq_of_lt}
use Rattle.byteorder.specs.Endian.{big_bytes}
use Rattle.log_records.specs.Buffer.{Filled}
use Rattle.log_records.specs.Lent.{stands_for}
use Rattle.log_records.specs.Spelling.{fields, kind_of}
use Rattle.log_records.proofs.Puts.{behind}
use Rattle.log_records.proofs.writing.put_entry.Goals as goal

pub returns-clause-filled : goal.returns-clause-filled
returns-clause-filled c =
    let kind : c.kind.result % 256 ≡ kind_of (stands_for c.args.lent) = mod-eq_of_lt (omega arith) ∙ c.kind.ensures in
    subst (λ (k : ℕ). Filled c.args.fill c.args.buffer.now c.put_fields.result c.put_fields.new.buffer (k ∷ (big_bytes 8 c.args.number ++ fields (stands_for c.args.lent)))) kind
    (behind c.put_u8-of_kind.ensures (behind c.put_u64-of_number.ensures c.put_fields.ensures.filled))
