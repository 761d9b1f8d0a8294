use Rattle.std.proofs.Common.{◌≡◌, ◌∙◌, ap, subst, sym}
use Rattle.disk_io.specs.declared.memory.MemoryDisk.{MemoryDisk}
use Rattle.disk_io.specs.contracts.memory.MemoryDiskDisk.TheImpl.{ghosts}
use Rattle.outside.specs.Closed.{lies_in}
use Rattle.outside.proofs.list_outside.ListOutsideOutside.open_disk.Goals as goal

pub returns-clause-opened : goal.returns-clause-opened
returns-clause-opened c = λ told.
    let same : c.reopened.result.memory ≡ c.in-Some.closed.disk.memory = c.reopened.ensures.memory in
    record {
      closed = c.in-Some.closed.disk;
      there = ap (λ v. lies_in v.items c.args.name.now) (sym c.is_to_fail.ensures.counted.closed_kept) ∙ c.in-Some.ensures.found;
      same_size = ap (λ (m : MemoryDisk). ghosts.size_of m) same;
      reads = ap (λ (m : MemoryDisk). ghosts.seen m) same;
      crash = λ x left. subst (λ (m : MemoryDisk). ghosts.may_leave m x) same left;
    }
