use Rattle.std.proofs.Common.{◌≡◌, ◌++◌, ◌∷◌, inl, inr}
use Rattle.std.specs.Option.{option_to_list}
use mathlib.Core.Path.{ap, ◌∙◌}
use Rattle.dml_exec.specs.declared.task.Phase.TheVariants as phase
use Rattle.dml_exec.specs.Tasks.{left_of, left_in, left, inserts_by, puts_by}
use Rattle.dml_exec.proofs.Moving.{put_moves}
use Rattle.dml_exec.proofs.task.Task.change_next.Goals as goal

pub returns-in-Some : goal.returns-in-Some
returns-in-Some c =
    let t = c.args.self.now in
    let p = c.in-Some.pending in
    let more = c.pop_front.new.self.items in
    let first : t.pending.items ≡ p ∷ more = c.pop_front.ensures.items ∙ ap (λ o. option_to_list o ++ more) c.in-Some.is in
    elim c.requires.phase [
      | inl h ↦ put_moves (left t) t.table p (inserts_by t.table more t.count) c.change.result _
          (ap (λ f. left_of f (left_in t.phase t.table t.pending.items t.count)) c.requires.finding ∙ (ap (λ x. left_in x t.table t.pending.items t.count) h.0 ∙ ap (λ ps. left_in phase.Free t.table ps t.count) first))
          c.change.ensures
          (ap (λ f. left_of f (left_in c.args.behind t.table more t.count)) c.requires.finding ∙ ap (λ x. left_in x t.table more t.count) h.1)
      | inr h ↦ put_moves (left t) t.table p (puts_by t.table more t.count) c.change.result _
          (ap (λ f. left_of f (left_in t.phase t.table t.pending.items t.count)) c.requires.finding ∙ (ap (λ x. left_in x t.table t.pending.items t.count) h.0 ∙ ap (λ ps. left_in phase.Changing t.table ps t.count) first))
          c.change.ensures
          (ap (λ f. left_of f (left_in c.args.behind t.table more t.count)) c.requires.finding ∙ ap (λ x. left_in x t.table more t.count) h.1)
    ]
