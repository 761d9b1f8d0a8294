use Rattle.std.proofs.Common.{◌≡◌, ◌+◌, ◌*◌, ◌≤◌, length, drop}
use Rattle.table_store.specs.Stored.{key_at}
use Rattle.table_store.proofs.lengths.places_len.Given as goal

abbrev pub invariant-loop-place : goal.invariant-loop-place
invariant-loop-place l = record {
  most : l.sum ≤ 402 * l.place-index;
  told : l.sum + length (key_at l.table (drop l.place-index l.places) l.row) ≡ length (key_at l.table l.places l.row);
}
