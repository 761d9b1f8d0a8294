use Rattle.std.proofs.Common.{◌≡◌, true, Option, sym, subst, ◌∙◌}
use Rattle.std.specs.Prelude.{◌↔◌, IsTrue}
use Rattle.std.specs.FinMap.{get}
use Rattle.table_laws.specs.Place.{Place}
use Rattle.lock_manager.specs.declared.modes.Modes.{Modes}
use Rattle.lock_manager.specs.Points.{MeetsAt}
use Rattle.lock_manager.proofs.Keys.{true_false}
use Rattle.lock_manager.proofs.HeldKeys.{meets_to, meets_lies, meets_apart}
use Rattle.lock_manager.proofs.points.meets_at.Goals as goal

pub returns-then-not-lies_in : goal.returns-then-not-lies_in
returns-then-not-lies_in c =
    let place : Place = (c.args.index, c.args.low.now) in (
      λ t. true_false (sym t),
      λ h. let t : c.lies_in.result ≡ true = c.lies_in.ensures.1 (meets_lies (get c.args.points.now.entries place) place c.args.want.now h).1 in true_false (sym t ∙ c.if-not-lies_in.true),
    )

pub returns-in-Some : goal.returns-in-Some
returns-in-Some c =
    let place : Place = (c.args.index, c.args.low.now) in
    let want = c.args.want.now in
    let modes = c.in-Some.modes.now in
    let lies = c.lies_in.ensures.0 c.if-not-lies_in.false in
    subst (λ (held : Option Modes). IsTrue c.is_apart.result ↔ MeetsAt held place want) c.in-Some.ensures
    (λ t. meets_to modes place want c.if-index-want.false lies (sym c.is_apart.ensures ∙ t), λ h. c.is_apart.ensures ∙ meets_apart modes place want h)
