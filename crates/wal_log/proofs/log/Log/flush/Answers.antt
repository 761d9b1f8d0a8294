use Rattle.std.proofs.Common.{◌≡◌, ◌+◌, ◌-◌, [], ℕ, take, drop, length, length-take, refl, sym, ap, arith}
use Rattle.std.proofs.lemmas.List.{drop_all}
use Rattle.std.specs.Vec.{with_items}
use Rattle.disk_io.proofs.Moments.{weaker_on}
use Rattle.wal_log.specs.Log.{LogState, InPart, FlushLeaves, body}
use Rattle.wal_log.proofs.KeptLaws.{length-behind, one_flushed}
use Rattle.wal_log.proofs.BlockLaws.{is_flushed, flush_any, flush_holds, flush_beside}
use Rattle.wal_log.proofs.log.Log.flush.Goals as goal

pub returns-in_default-clause-any_moment : goal.returns-in_default-clause-any_moment
returns-in_default-clause-any_moment g c told groups rs holds wait only =
    let s = g.D.Disk.seen c.args.disk.now in
    weaker_on g.D.Disk.moment g.D.Disk.left_since c.args.disk.now c.flush_block.new.disk (FlushLeaves c.args.self.now s groups rs)
    (InPart (c.self.inside.start + c.self.inside.gate) (body (drop 4 (take c.self.inside.fill c.deref_mut.result.now))) s) (c.flush_block.ensures.any_moment told only)
    (flush_any (is_flushed c.self.inside.fill c.deref_mut.result.now c.self.inside.buffer.items c.self.view_is refl c.deref_mut.ensures.value (omega arith) (omega arith) (omega arith) c.requires.room) s groups rs holds wait)

pub returns-clause-any_moment : goal.returns-clause-any_moment
returns-clause-any_moment g c told groups rs holds wait only =
    let s = g.D.Disk.seen c.args.disk.now in
    weaker_on g.D.Disk.moment g.D.Disk.left_since c.args.disk.now c.flush_block.new.disk (FlushLeaves c.args.self.now s groups rs)
    (InPart (c.self.inside.start + c.self.inside.gate) (body (drop 4 (take c.self.inside.fill c.deref_mut.result.now))) s) (c.flush_block.ensures.any_moment told only)
    (flush_any (is_flushed c.self.inside.fill c.deref_mut.result.now c.self.inside.buffer.items c.self.view_is refl c.deref_mut.ensures.value (omega arith) (omega arith) (omega arith) c.requires.room) s groups rs holds wait)

pub returns-clause-ok : goal.returns-clause-ok
returns-clause-ok g c =
    let is = is_flushed c.self.inside.fill c.deref_mut.result.now c.self.inside.buffer.items c.self.view_is refl c.deref_mut.ensures.value (omega arith) (omega arith) (omega arith) c.requires.room in
    let none : drop 4 (take 4 (with_items c.self.inside.buffer c.flush_block.new.buffer).items) ≡ [] = drop_all 4 (take 4 (with_items c.self.inside.buffer c.flush_block.new.buffer).items) (omega (arith, length-take 4 (with_items c.self.inside.buffer c.flush_block.new.buffer).items)) in
    one_flushed _ _ _ (sym c.self.view_is) none
    (let e : c.self.inside.gate + (c.self.inside.fill + 1) ≡ c.args.self.now.gate + (5 + length c.args.self.now.waiting) = omega (arith, is.at_gate, is.long) in e)
    (ap (λ (n : ℕ). n - 5) is.left)

pub returns-clause-holds : goal.returns-clause-holds
returns-clause-holds g c told groups rs holds wait =
    flush_holds (is_flushed c.self.inside.fill c.deref_mut.result.now c.self.inside.buffer.items c.self.view_is refl c.deref_mut.ensures.value (omega arith) (omega arith) (omega arith) c.requires.room) (g.D.Disk.seen c.args.disk.now) (g.D.Disk.seen c.flush_block.new.disk) groups rs holds wait (c.in-Ok.ensures.written told)

pub returns-clause-outside : goal.returns-clause-outside
returns-clause-outside g c told =
    let is = is_flushed c.self.inside.fill c.deref_mut.result.now c.self.inside.buffer.items c.self.view_is refl c.deref_mut.ensures.value (omega arith) (omega arith) (omega arith) c.requires.room in
    let disk_size : length (g.D.Disk.seen c.args.disk.now) ≡ g.D.Disk.size_of c.args.disk.now = g.met.D.Disk.has_size told c.args.disk.now in
    flush_beside is (g.D.Disk.seen c.args.disk.now) (g.D.Disk.seen c.flush_block.new.disk) (omega (arith, disk_size, is.at_start, is.of_size)) (c.in-Ok.ensures.written told)

pub returns-in_default-clause-short : goal.returns-in_default-clause-short
returns-in_default-clause-short g c =
    let long = length-behind 4 c.self.inside.fill c.self.inside.buffer.items (omega arith) in
    omega (arith, long, ap (λ (l : LogState). length l.waiting) c.self.view_is)

pub returns-clause-short : goal.returns-clause-short
returns-clause-short g c =
    let long = length-behind 4 c.self.inside.fill c.self.inside.buffer.items (omega arith) in
    omega (arith, long, ap (λ (l : LogState). length l.waiting) c.self.view_is)
