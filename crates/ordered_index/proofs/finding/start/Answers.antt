use Rattle.std.proofs.Common.{◌+◌, Bool, sym, subst, arith}
use Rattle.slot_page.specs.Page.{entries}
use Rattle.slot_page.proofs.Pages.{page_fits}
use Rattle.ordered_index.specs.Flat.{passes, Starts}
use Rattle.ordered_index.proofs.Indexes.{starts_missing, starts_at, starts_after}
use Rattle.ordered_index.proofs.finding.start.Goals as goal

pub overflow_add-result : goal.overflow_add-result
overflow_add-result c = let f = page_fits _ c.requires.page in omega (arith, c.in-Ok.ensures.inside)

pub returns-then-after : goal.returns-then-after
returns-then-after c = subst (λ (b : Bool). Starts (passes b c.args.key.now) (entries c.args.page.now) (c.in-Ok.i + 1)) (sym c.if-after.true) (starts_after c.args.key.now _ _ c.requires.rising c.in-Ok.ensures)

pub returns-else-after : goal.returns-else-after
returns-else-after c = subst (λ (b : Bool). Starts (passes b c.args.key.now) (entries c.args.page.now) c.in-Ok.i) (sym c.if-after.false) (starts_at c.args.key.now _ _ c.requires.rising c.in-Ok.ensures)

pub returns-in-Err : goal.returns-in-Err
returns-in-Err c = starts_missing c.args.after c.args.key.now _ _ c.in-Err.ensures
