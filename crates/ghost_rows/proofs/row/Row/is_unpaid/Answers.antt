use Rattle.std.proofs.Common.{rules, ◌≡◌, slice_get, Some}
use Rattle.ghost_rows.proofs.UnpaidLemmas.{unpaid_by}
use Rattle.ghost_rows.proofs.row.Row.is_unpaid.Goals as goal

pub returns-in-Some : goal.returns-in-Some
returns-in-Some c = λ numbers pays some st counts.
    let there : slice_get c.args.self.now.columns 0 ≡ Some c.in-Some.count.now = search rules in
    unpaid_by c.args.self.now numbers pays c.in-Some.count.now c.is_sure.result there c.is_sure.ensures st counts
