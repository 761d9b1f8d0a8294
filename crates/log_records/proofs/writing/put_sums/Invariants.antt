use Rattle.std.proofs.Common.{◌≡◌, ◌+◌, ◌*◌, ◌≤◌, take, length}
use Rattle.std.specs.Int.{w128}
use Rattle.std.specs.List.{flat_map, AllByRecursion}
use Rattle.std.specs.Int.RustNames.{FitsSigned}
use Rattle.log_records.specs.Buffer.{Filled}
use Rattle.log_records.specs.Spelling.{signed}
use Rattle.log_records.proofs.writing.put_sums.Given as goal

abbrev pub invariant-loop-sum : goal.invariant-loop-sum
invariant-loop-sum l = record {
  place : l.at ≡ l.fill + 16 * l.sum-index;
  room : l.fill + 16 * length l.sums ≤ length l.buffer;
  filled : Filled l.fill l.fn.buffer l.at l.buffer (flat_map (signed w128) (take l.sum-index l.sums));
  fits : AllByRecursion (FitsSigned w128) (take l.sum-index l.sums);
}
