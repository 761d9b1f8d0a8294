use Rattle.std.proofs.Common.{◌∙◌, sym, ap}
use Rattle.ordered_index.specs.Row.{Row}
use Rattle.ordered_index.proofs.StorePages.{length-pages_of}
use Rattle.ordered_index.proofs.leaves.Leaves.pages.Goals as goal

pub returns : goal.returns
returns c = c.pages.ensures ∙ sym (length-pages_of c.self.inside.store) ∙ ap (λ (r : Row). r.pages) c.self.view_is
