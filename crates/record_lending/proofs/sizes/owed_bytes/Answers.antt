use Rattle.std.proofs.Common.{◌-◌, false, length, take, sym, ap, ◌∙◌}
use Rattle.txn_machine.specs.Counts.{told_need}
use Rattle.txn_machine.specs.Log.{owed_bytes, pay_bytes}
use Rattle.record_lending.proofs.Owed.{none_ghosted, one_ghosted, both_told}
use Rattle.record_lending.proofs.sizes.owed_bytes.Goals as goal

pub returns-then-not-is_ghosted : goal.returns-then-not-is_ghosted
returns-then-not-is_ghosted c =
    c.unghosted_bytes.ensures ∙ ap told_need (sym (none_ghosted c.args.is_ghosted c.args.owed.now c.if-not-is_ghosted.true))

pub returns-in-len1-up : goal.returns-in-len1-up
returns-in-len1-up c =
    let owed = c.args.owed.now in
    let next = c.next-item.result in
    both_told c.unghosted_bytes-in-len1-up.result c.pay_bytes.result (owed_bytes false (take (length owed - 1) owed)) (pay_bytes next) c.saturating_add.result
    c.unghosted_bytes-in-len1-up.ensures c.pay_bytes.ensures c.saturating_add.ensures
    ∙ ap told_need (sym (one_ghosted c.args.is_ghosted owed next c.if-not-is_ghosted.false c.in-len1-up.len_at_least c.next-item.is))
