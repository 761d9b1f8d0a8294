use Rattle.std.proofs.Common.{rules, ◌≡◌, ℕ, subst, ap, ◌∙◌}
use Rattle.std.specs.Int.{w8, cast_unsigned}
use Rattle.std.specs.Int.RustNames.{FitsSigned}
use Rattle.std.proofs.lemmas.Int.{to_z-of_z}
use Rattle.byteorder.specs.Endian.{big_bytes}
use Rattle.log_records.specs.Buffer.{Filled}
use Rattle.log_records.proofs.Puts.{behind}
use Rattle.log_records.proofs.writing.put_delta.Goals as goal

pub returns-clause-filled : goal.returns-clause-filled
returns-clause-filled c =
    let fits : FitsSigned w8 c.args.count = search rules in
    let bits : c.cast_unsigned.result ≡ cast_unsigned w8 c.args.count = c.cast_unsigned.ensures ∙ ap (cast_unsigned w8) (to_z-of_z w8 c.args.count fits) in
    behind c.put_u64-of_transaction.ensures (behind c.put_u32-of_view.ensures (behind c.put_bytes-of_group.ensures (behind
    (subst (λ (n : ℕ). Filled c.put_bytes-of_group.result c.put_bytes-of_group.new.buffer c.put_u8-of_count.result c.put_u8-of_count.new.buffer (big_bytes 1 n)) bits c.put_u8-of_count.ensures)
    c.put_numbers.ensures.filled)))
