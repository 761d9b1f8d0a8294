use Rattle.std.proofs.Common.{◌≡◌, ◌<◌, length, arith}
use mathlib.Core.Path.{sym, ap, ◌∙◌}
use Rattle.std.proofs.lemmas.Bool.Decides.{nat_tests}
use Rattle.std.proofs.Common.{[]}
use Rattle.std.proofs.lemmas.List.{nil_from_length}
use Rattle.task_parts.specs.declared.turn.Told.TheVariants.{Rows}
use Rattle.dml_exec.specs.declared.task.Phase.{Phase}
use Rattle.dml_exec.specs.Tasks.{left_of, left_in, inserts_by, after}
use Rattle.dml_exec.proofs.Moving.{looked_free, looked_there, not_wanted}
use Rattle.dml_exec.proofs.task.Task.look.Goals as goal
use Rattle.dml_exec.proofs.task.Task.look.Goals.{in-empty, in-len1-up}

pub returns-after-as_slice-lt1 : goal.returns-after-as_slice-lt1
returns-after-as_slice-lt1 c =
    let t = c.args.self.now in
    let rows = c.args.rows.now in
    let ps = t.pending.items in
    let some : 0 < length ps = grind (arith, nat_tests, t.pending.ok, c.if-is_empty.ensures) in
    let new : (p : Phase) → left_of t.finding (left_in p t.table ps t.count) ≡ left_in p t.table ps t.count = λ p. ap (λ f. left_of f (left_in p t.table ps t.count)) c.requires in
    let old : inserts_by t.table ps t.count ≡ left_of t.finding (left_in t.phase t.table ps t.count) = sym (new t.phase ∙ ap (λ p. left_in p t.table ps t.count) c.in-Inserting.is) in
    elim c.if-as_slice-lt1.branch [
      | in-empty w ↦
          let none : rows ≡ [] = nil_from_length rows (omega (arith, w.in-empty.len_below, ap length c.as_slice.ensures)) in
          new c.if-as_slice-lt1.self ∙ (ap (λ p. left_in p t.table ps t.count) w.self-is ∙ (looked_free t.table ps t.count some
          ∙ (ap (λ rs. after (Rows rs) (inserts_by t.table ps t.count)) (sym none) ∙ ap (after (Rows rows)) old)))
      | in-len1-up w ↦
          let there : 0 < length rows = omega (arith, w.in-len1-up.len_at_least, ap length c.as_slice.ensures) in
          new c.if-as_slice-lt1.self ∙ (ap (λ p. left_in p t.table ps t.count) w.self-is ∙ (looked_there t.table ps t.count rows some there
          ∙ ap (after (Rows rows)) old))
    ]

pub returns-in_default : goal.returns-in_default
returns-in_default c =
    let t = c.args.self.now in
    ap (λ f. left_of f (left_in t.phase t.table t.pending.items t.count)) c.requires
    ∙ (not_wanted t.phase t.table t.pending.items t.count c.args.rows.now c.in_default.not-Inserting
    ∙ ap (λ f. after (Rows c.args.rows.now) (left_of f (left_in t.phase t.table t.pending.items t.count))) (sym c.requires))
