use Rattle.std.proofs.Common.{◌∙◌}
use Rattle.lock_manager.proofs.Ways.{ways_at, free_at}
use Rattle.lock_manager.proofs.table.LockTable.conflicts.Goals as goal

pub returns-clause-in_the_way : goal.returns-clause-in_the_way
returns-clause-in_the_way c = ways_at c.deref.result.now c.args.self.now c.args.session c.as_slice.result.now c.args.wants.now c.in_the_way.result (c.deref.ensures.value ∙ c.self.view_is) c.as_slice.ensures c.in_the_way.ensures

pub returns-clause-free : goal.returns-clause-free
returns-clause-free c =
    free_at c.args.self.now c.args.session c.args.wants.now c.in_the_way.result
    (ways_at c.deref.result.now c.args.self.now c.args.session c.as_slice.result.now c.args.wants.now c.in_the_way.result (c.deref.ensures.value ∙ c.self.view_is) c.as_slice.ensures c.in_the_way.ensures)
