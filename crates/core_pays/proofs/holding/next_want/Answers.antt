use Rattle.std.proofs.Common.{sym, ap, subst, ◌∙◌}
use Rattle.std.specs.Option.{option_copied}
use Rattle.std.specs.Prelude.{slice_get}
use Rattle.lock_manager.specs.Table as table
use Rattle.core_pays.specs.Holding.{IsNextWant}
use Rattle.core_pays.proofs.Firsts.{next_is, no_none}
use Rattle.core_pays.proofs.holding.next_want.Goals as goal

pub returns-in-Some : goal.returns-in-Some
returns-in-Some g c = λ s o h.
    subst (IsNextWant (table.locks_of c.args.core.now.locks c.args.session) o.first) (sym (c.first.ensures.value ∙ ap (λ ws. slice_get ws 0) c.as_slice.ensures))
    (next_is g.M.SortedMaps.maps g.M.SortedMaps.spare g.M.SortedMaps.limit c.args.core.now s c.args.session h o c.in-Some.wants.now (sym (ap option_copied c.in-Some.is) ∙ c.next.ensures))

pub returns-in-None : goal.returns-in-None
returns-in-None g c = λ s o h. absurd (no_none g.M.SortedMaps.maps g.M.SortedMaps.spare g.M.SortedMaps.limit c.args.core.now s c.args.session h o (sym (ap option_copied c.in-None.is) ∙ c.next.ensures))
