use Rattle.std.proofs.Common.{rules, FitsSigned}
use Rattle.std.specs.Int.{w128}
use Rattle.std.proofs.lemmas.Int.{to_z-of_z}
use Rattle.ghost_rows.proofs.RowLemmas.{row_as, new_row}
use Rattle.ghost_rows.specs.Kept.{no_pays}
use Rattle.ghost_rows.proofs.row.Row.new.Goals as goal

pub returns : goal.returns
returns c =
    let fits : FitsSigned w128 c.first_number-committed.result = search rules in
    record {
      stands = row_as _ _ _ c.first_number-committed.result _ _ c.args.numbers.now no_pays c.in_ok-columns.ensures (to_z-of_z w128 c.first_number-committed.result fits) c.new.ensures.items
          (new_row c.args.numbers.now c.first_number-committed.result c.requires c.first_number-committed.ensures);
      shares = c.new.ensures.items;
    }
