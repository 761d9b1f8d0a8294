use Rattle.std.proofs.Common.{◌≡◌, ◌+◌, ◌∷◌, [], List, ℕ, take, drop, subst, arith}
use Rattle.std.specs.Result.{OnOk}
use Rattle.disk_io.specs.Disk.{splice, LeavesOnly}
use Rattle.wal_log.specs.Log.{InPart, body}
use Rattle.wal_log.proofs.BlockLaws.{body_is, records_stay}
use Rattle.wal_log.proofs.block.flush_block.Goals as goal

pub returns-clause-kept : goal.returns-clause-kept
returns-clause-kept g c = records_stay c.args.fill c.args.buffer.now c.close.new.buffer (omega arith) (omega arith) c.close.ensures

pub returns-clause-written : goal.returns-clause-written
returns-clause-written g c told =
    let is : take (c.args.fill + 1) c.close.new.buffer ≡ body (drop 4 (take c.args.fill c.args.buffer.now)) = body_is c.args.fill c.args.buffer.now c.close.new.buffer (omega arith) c.close.ensures in
    subst (λ (l : List ℕ). OnOk c.write_block.result (g.D.Disk.seen c.write_block.new.disk ≡ splice c.args.gate (165 ∷ []) (splice (c.args.gate + 1) l (g.D.Disk.seen c.args.disk.now)))) is
    (c.write_block.ensures.written told)

pub returns-clause-any_moment : goal.returns-clause-any_moment
returns-clause-any_moment g c told only =
    let is : take (c.args.fill + 1) c.close.new.buffer ≡ body (drop 4 (take c.args.fill c.args.buffer.now)) = body_is c.args.fill c.args.buffer.now c.close.new.buffer (omega arith) c.close.ensures in
    subst (λ (l : List ℕ). LeavesOnly g.D.Disk.moment g.D.Disk.left_since c.args.disk.now c.write_block.new.disk (InPart c.args.gate l (g.D.Disk.seen c.args.disk.now))) is
    (c.write_block.ensures.any_moment told only)
