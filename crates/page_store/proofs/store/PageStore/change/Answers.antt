use Rattle.std.proofs.Common.{◌*◌, ◌∙◌, refl}
use Rattle.page_store.proofs.Ranges.{range_part}
use Rattle.page_store.proofs.Stores.{same_store}
use Rattle.page_store.proofs.store.PageStore.change.Goals as goal

pub returns : goal.returns
returns c = ((refl, λ w. same_store _ _ refl refl refl refl refl), record { lends = tt; page = c.slice_mut.ensures.value ∙ range_part (8192 * c.args.n) 8192 c.args.self.now.bytes.items })
