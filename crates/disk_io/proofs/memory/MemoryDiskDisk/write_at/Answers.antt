use Rattle.std.proofs.Common.{rules, ◌≡◌, ◌++◌, ◌∷◌, [], length, refl, arith}
use Rattle.disk_io.specs.Events.{Wrote}
use Rattle.disk_io.specs.Recorded.{recorded, size_kept}
use Rattle.disk_io.proofs.Moved.{elapses_same, elapses_more, torn_same, torn_more, replays_wrote, fits_more}
use Rattle.disk_io.proofs.memory.MemoryDiskDisk.write_at.Goals as goal

pub returns-then-is_to_fail-clause-crash : goal.returns-then-is_to_fail-clause-crash
returns-then-is_to_fail-clause-crash c =
    let disk = c.args.self.now in
    torn_same disk.first.items (recorded disk.kept) _ c.args.at (length c.args.from.now) disk.fits disk.of_bytes refl

pub returns-then-is_err-clause-crash : goal.returns-then-is_err-clause-crash
returns-then-is_err-clause-crash c =
    let disk = c.args.self.now in
    let same : recorded c.note_write.new.self ≡ recorded disk.kept = search rules in
    torn_same disk.first.items (recorded disk.kept) _ c.args.at (length c.args.from.now) disk.fits disk.of_bytes same

pub returns-then-is_err-clause-time : goal.returns-then-is_err-clause-time
returns-then-is_err-clause-time c =
    let disk = c.args.self.now in
    let same : recorded c.note_write.new.self ≡ recorded disk.kept = search rules in
    elapses_same disk.first.items (recorded disk.kept) _ same

pub overwrite-requires : goal.overwrite-requires
overwrite-requires c =
    let disk = c.args.self.now in
    omega (arith, size_kept disk.kept disk.first.items disk.bytes.items disk.replays disk.fits, c.requires)

pub invariant_of-self-2 : goal.invariant_of-self-2
invariant_of-self-2 c =
    let disk = c.args.self.now in
    let more : recorded c.note_write.new.self ≡ recorded disk.kept ++ Wrote c.args.at c.args.from.now ∷ [] = search rules in
    record {
      replays = replays_wrote disk.first.items (recorded disk.kept) _ c.args.at c.args.from.now disk.bytes.items _ disk.replays c.overwrite.ensures more;
      fits = fits_more disk.first.items (recorded disk.kept) _ (Wrote c.args.at c.args.from.now) (c.requires, λ i. (c.type_inv.from i).fits) disk.fits more;
      of_bytes = disk.of_bytes;
      counts = disk.counts;
    }

pub returns-clause-crash : goal.returns-clause-crash
returns-clause-crash c =
    let disk = c.args.self.now in
    let more : recorded c.note_write.new.self ≡ recorded disk.kept ++ Wrote c.args.at c.args.from.now ∷ [] = search rules in
    torn_more disk.first.items (recorded disk.kept) _ c.args.at c.args.from.now more

pub returns-clause-time : goal.returns-clause-time
returns-clause-time c =
    let disk = c.args.self.now in
    let more : recorded c.note_write.new.self ≡ recorded disk.kept ++ Wrote c.args.at c.args.from.now ∷ [] = search rules in
    elapses_more disk.first.items (recorded disk.kept) _ (Wrote c.args.at c.args.from.now) more
