use Rattle.std.proofs.Common.{◌*◌, ◌∙◌, ap}
use Rattle.disk_io.specs.Disk.{part}
use Rattle.page_store.proofs.Ranges.{range_part}
use Rattle.page_store.proofs.store.PageStore.page.Goals as goal

pub returns : goal.returns
returns c = range_part (8192 * c.args.n) 8192 c.deref.result.now ∙ ap (part (8192 * c.args.n) 8192) c.deref.ensures.value
