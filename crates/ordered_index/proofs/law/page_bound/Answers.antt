use Rattle.ordered_index.proofs.Flats.{pages_free}
use Rattle.ordered_index.proofs.law.page_bound.Goals as goal

pub returns : goal.returns
returns c = pages_free
