use Rattle.std.proofs.Common.{◌≤◌, length, sym, ◌∙◌, ap, arith}
use Rattle.page_store.specs.Image.{live}
use Rattle.page_store.proofs.Runs.{ok_of}
use Rattle.std.proofs.lemmas.Result.{on_ok_weaker}
use Rattle.recovery.proofs.Blanks.{gates_closed}
use Rattle.recovery.proofs.format.close_gates.Goals as goal

pub returns-clause-none : goal.returns-clause-none
returns-clause-none g c told =
    let laws = g.met.D.Disk in
    let long : 278528 ≤ length (g.D.Disk.seen c.args.disk.now) = omega (arith, laws.has_size told c.args.disk.now, c.requires) in
    ok_of _ c.sync.result (ap live (c.sync.ensures.seen told) ∙ gates_closed (g.D.Disk.seen c.args.disk.now) (g.D.Disk.seen c.write_at.new.self) (g.D.Disk.seen c.write_at-2.new.self) long (c.in_ok-write_at.ensures.written told) (c.in_ok-write_at-2.ensures.written told))

pub returns-clause-durable : goal.returns-clause-durable
returns-clause-durable g c told = on_ok_weaker c.sync.result (λ only image may. only image may ∙ sym (c.sync.ensures.seen told)) c.sync.ensures.durable
