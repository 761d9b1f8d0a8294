use Rattle.std.proofs.Common.{◌≡◌, rules, length, ap, ◌∙◌}
use Rattle.txn_machine.specs.Counts.{told_need}
use Rattle.log_records.specs.declared.record.Record.{Record}
use Rattle.log_records.specs.Lent.{stands_for}
use Rattle.log_records.specs.Spelling.{spelling}
use Rattle.log_disk.proofs.Counting.{record_long}
use Rattle.record_lending.proofs.sizes.record_bytes.Goals as goal

pub returns-clause-counted : goal.returns-clause-counted
returns-clause-counted c objects r is =
    let told : c.min.result ≡ told_need (length (spelling 0 (stands_for c.args.lent))) = search rules in
    told ∙ ap told_need (ap (λ (e : Record). length (spelling 0 e)) is ∙ record_long objects 0 r)
