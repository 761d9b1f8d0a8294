use Rattle.std.proofs.Common.{◌≡◌, ◌<◌, ◌∷◌, length, drop, arith}
use mathlib.Core.Path.{refl, ap, ◌∙◌}
use Rattle.iv_types.specs.declared.lock.LockMode.TheVariants.{Exclusive}
use Rattle.iv_types.specs.Intervals.{point}
use Rattle.script_law.specs.Works.{puts}
use Rattle.statement_law.specs.Inserting.{unless_there}
use Rattle.dml_exec.specs.Tasks.{left_of, left_in, left, inserts_by}
use Rattle.dml_exec.proofs.Moving.{fetch_moves, first_is}
use Rattle.dml_exec.proofs.task.Task.turn.Goals as goal

pub returns-in-Some-front : goal.returns-in-Some-front
returns-in-Some-front c =
    let t = c.args.self.now in
    let p = c.in-Some-front.pending.now in
    let ps = t.pending.items in
    let some : 0 < length ps = omega (arith, t.pending.ok, c.in-Some-front.ensures.variant.0 refl) in
    let first : ps ≡ p ∷ drop 1 ps = first_is ps p some c.in-Some-front.ensures.lookup in
    fetch_moves (left t) t.table (point p.key) Exclusive (λ found. unless_there found (puts t.table p.key p.row (λ before. inserts_by t.table (drop 1 ps) t.count))) c.look_up.result t
    (ap (λ f. left_of f (left_in t.phase t.table ps t.count)) c.in_default.is ∙ (ap (λ x. left_in x t.table ps t.count) c.in-Inserting.is ∙ ap (λ xs. inserts_by t.table xs t.count) first))
    (c.look_up.ensures (drop 1 ps) t.count) refl
