use Rattle.std.proofs.Common.{drop, length}
use Rattle.std.proofs.lemmas.Slice.Eq.{starts_is}
use Rattle.std.proofs.lemmas.Bool.Decides.{Decides-eqb}
use Rattle.view_delta.proofs.joining.begins.Goals as goal

pub returns : goal.returns
returns c =
    let is = starts_is Decides-eqb c.args.columns.now c.args.joined.now c.starts_with.result c.starts_with.ensures.value in
    ((λ t. (drop (length c.args.joined.now) c.args.columns.now, is.0 t)), (λ b. is.1 b.0 b.1))
