use Rattle.std.proofs.Common.{arith}
use Rattle.disk_io.specs.Recorded.{size_kept}
use Rattle.disk_io.proofs.memory.MemoryDiskDisk.read.Goals as goal

pub slice_bounds-copy_from_slice-end : goal.slice_bounds-copy_from_slice-end
slice_bounds-copy_from_slice-end c =
    let disk = c.args.self.now in
    omega (arith, size_kept disk.kept disk.first.items disk.bytes.items disk.replays disk.fits, c.requires)
