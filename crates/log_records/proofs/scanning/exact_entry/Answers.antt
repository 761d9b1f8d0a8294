use Rattle.std.proofs.Common.{ap, arith}
use Rattle.log_records.specs.Scan.{or_seven, without_rest}
use Rattle.log_records.proofs.ScanLaws.{nothing_past}
use Rattle.log_records.proofs.scanning.exact_entry.Goals as goal

pub returns-then-place-bytes : goal.returns-then-place-bytes
returns-then-place-bytes c = ap (λ r. without_rest (or_seven c.args.place r)) (nothing_past c.args.place c.args.bytes.now (omega arith))
