use Rattle.std.proofs.Common.{◌∷◌, length, sym, ap, ◌∙◌}
use Rattle.ghost_rows.proofs.NumberSteps.{length_numbers}
use Rattle.data_store.proofs.shown.row_of.Goals as goal

pub push_numbers-requires : goal.push_numbers-requires
push_numbers-requires c = (length (c.requires.count ∷ c.requires.sums), ap length c.requires.value_is ∙ length_numbers (c.requires.count ∷ c.requires.sums))

pub returns : goal.returns
returns c = λ numbers fits is. record {
  group = c.in_ok-row.row;
  fits = c.in_ok-row.ensures.0;
  key = sym c.in_ok-row.ensures.1;
  row_is = c.in_ok-push_numbers.ensures numbers fits is;
}
