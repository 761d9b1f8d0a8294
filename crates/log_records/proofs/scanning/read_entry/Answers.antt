use Rattle.std.proofs.Common.{subst, drop}
use Rattle.log_records.specs.Scan.{Answers}
use Rattle.iv_types.proofs.ByteNumbers.{IsBytes-drop}
use Rattle.log_records.proofs.ScanLaws.{is_found, is_only}
use Rattle.log_records.proofs.scanning.read_entry.Goals as goal

pub returns-clause-found : goal.returns-clause-found
returns-clause-found c =
    is_found c.args.place (drop c.args.place c.args.bytes.now) c.exact_entry.result (IsBytes-drop c.args.place c.args.bytes.now (λ i. (c.type_inv.bytes i).fits)) c.exact_entry.ensures

pub returns-clause-only : goal.returns-clause-only
returns-clause-only c number entry begins =
    subst (Answers (λ s. s) c.exact_entry.result) (is_only c.args.place number entry (drop c.args.place c.args.bytes.now) begins) c.exact_entry.ensures
