use Rattle.std.proofs.Common.{ℕ, List, length, subst, sym, arith}
use Rattle.disk_io.proofs.Moments.{started, goes_on}
use Rattle.page_store.specs.Kept.{IsOld}
use Rattle.page_store.proofs.Old.{outside_torn, outside_splice, old_outside}
use Rattle.page_store.proofs.Runs.{ok_map}
use Rattle.page_store.proofs.apart.write_apart.Goals as goal

pub returns-clause-old : goal.returns-clause-old
returns-clause-old g c told room pages k s free old =
    let laws = g.met.D.Disk in
    let before = g.D.Disk.seen c.args.disk.now in
    ok_map _ _ c.write_at.result (λ is. subst (IsOld room pages k s) (sym is)
    (old_outside room pages k s before _ c.args.at (length c.args.from.now) old (outside_splice c.args.at c.args.from.now before (omega (arith, laws.has_size told c.args.disk.now, c.requires))) free))
    (c.write_at.ensures.written told)

pub returns-clause-crash : goal.returns-clause-crash
returns-clause-crash g c room pages k s free guards =
    let laws = g.met.D.Disk in
    let P = IsOld room pages k s in
    let after = λ (f : List ℕ) (left : g.D.Disk.may_leave c.write_at.new.self f). (let from = c.write_at.ensures.crash f left in old_outside room pages k s from.0 f c.args.at (length c.args.from.now) (guards from.0 from.1) (outside_torn _ _ _ _ from.2) free) in
    record {
      guards = after;
      moments = goes_on g.D.Disk.moment g.D.Disk.left_since c.args.disk.now c.args.disk.now c.write_at.new.self P _
          (started g.D.Disk.moment g.D.Disk.left_since c.args.disk.now P (λ f left. guards f (laws.only_now c.args.disk.now f left)))
          c.write_at.ensures.time after;
    }
