use Rattle.std.proofs.Common.{◌≡◌, ◌+◌, ◌*◌, ◌≤◌, length, drop}
use Rattle.std.specs.List.{flat_map}
use Rattle.iv_types.specs.Encoding.{key_byte}
use Rattle.row_codec.proofs.lengths.text_len.Given as goal

abbrev pub invariant-loop-byte : goal.invariant-loop-byte
invariant-loop-byte l = record {
  most : l.sum ≤ 2 * l.byte-index;
  told : l.sum + length (flat_map key_byte (drop l.byte-index l.text)) ≡ length (flat_map key_byte l.text);
}
