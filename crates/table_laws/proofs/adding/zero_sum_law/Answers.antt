use Rattle.std.specs.Prelude.{pos}
use mathlib.Core.Path.{refl}
use Rattle.table_laws.proofs.Sums.{sum_to_zero}
use Rattle.table_laws.proofs.adding.zero_sum_law.Goals as goal

pub returns : goal.returns
returns c = λ n. sum_to_zero n (λ s. pos 0) (λ s low high. refl)
