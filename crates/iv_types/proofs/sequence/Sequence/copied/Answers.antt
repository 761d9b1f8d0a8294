use Rattle.std.proofs.Common.{◌∙◌}
use Rattle.iv_types.proofs.sequence.Sequence.copied.Goals as goal

pub returns : goal.returns
returns g c = c.in_ok-to_vec.ensures.items_if_clones_equal c.requires ∙ c.as_slice.ensures.value ∙ c.self.view_is
