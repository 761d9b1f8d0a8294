use Rattle.std.proofs.Common.{rules, ◌≡◌, ◌++◌, ◌∷◌, []}
use Rattle.disk_io.specs.Events.{Synced}
use Rattle.disk_io.specs.Recorded.{recorded}
use Rattle.disk_io.proofs.Moved.{elapses_same, elapses_more, less_synced, synced, replays_synced, fits_more}
use Rattle.disk_io.proofs.memory.MemoryDiskDisk.sync.Goals as goal

pub returns-then-is_err-clause-time : goal.returns-then-is_err-clause-time
returns-then-is_err-clause-time c =
    let same : recorded c.note_sync.new.self ≡ recorded c.args.self.now.kept = search rules in
    elapses_same c.args.self.now.first.items (recorded c.args.self.now.kept) _ same

pub invariant_of-self-else-is_err : goal.invariant_of-self-else-is_err
invariant_of-self-else-is_err c =
    let disk = c.args.self.now in
    let more : recorded c.note_sync.new.self ≡ recorded disk.kept ++ Synced ∷ [] = search rules in
    record {
      replays = replays_synced disk.first.items (recorded disk.kept) _ disk.bytes.items disk.replays more;
      fits = fits_more disk.first.items (recorded disk.kept) _ Synced tt disk.fits more;
      of_bytes = disk.of_bytes;
      counts = disk.counts;
    }

pub returns-clause-durable : goal.returns-clause-durable
returns-clause-durable c =
    let disk = c.args.self.now in
    let more : recorded c.note_sync.new.self ≡ recorded disk.kept ++ Synced ∷ [] = search rules in
    synced disk.first.items (recorded disk.kept) _ disk.bytes.items disk.replays more

pub returns-clause-crash : goal.returns-clause-crash
returns-clause-crash c =
    let disk = c.args.self.now in
    let more : recorded c.note_sync.new.self ≡ recorded disk.kept ++ Synced ∷ [] = search rules in
    less_synced disk.first.items (recorded disk.kept) _ disk.bytes.items disk.replays disk.fits disk.of_bytes more

pub returns-clause-time : goal.returns-clause-time
returns-clause-time c =
    let disk = c.args.self.now in
    let more : recorded c.note_sync.new.self ≡ recorded disk.kept ++ Synced ∷ [] = search rules in
    elapses_more disk.first.items (recorded disk.kept) _ Synced more
