use Rattle.std.proofs.Common.{ℕ, List, ap, ◌∙◌}
use Rattle.std.specs.Option.{option_copied}
use Rattle.log_records.specs.declared.record.Record.TheVariants.{Write}
use Rattle.record_lending.proofs.Lent.{write_stands}
use Rattle.record_lending.proofs.lending.write_of.Goals as goal

pub returns : goal.returns
returns c definitions kept =
    let before = option_copied c.row_in.result in
    let after = option_copied c.row_in-2.result in
    ap (λ (key : List ℕ). Write c.args.transaction c.args.kept.now.change.table key before after) c.as_slice.ensures
    ∙ write_stands definitions c.args.transaction c.args.kept.now before after c.row_in.ensures c.row_in-2.ensures kept
