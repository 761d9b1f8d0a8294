use Rattle.std.proofs.Common.{◌≡◌, ◌∷◌, [], Some, sym, ap, subst, ◌∙◌}
use Rattle.std.specs.Option.{option_copied}
use Rattle.lock_desk.specs.Asking.{IsAsked}
use Rattle.lock_desk.specs.PayWants.{first_of}
use Rattle.txn_machine.specs.Steps.{group_want}
use Rattle.txn_machine.specs.Store.{locks_of}
use Rattle.core_locks.specs.Asks.{others_wait}
use Rattle.core_locks.proofs.Asked.{agrees}
use Rattle.core_pays.proofs.Firsts.{no_none, wanted_there}
use Rattle.core_pays.proofs.holding.ask_first.Goals as goal

pub unreachable-requires : goal.unreachable-requires
unreachable-requires g c = no_none g.M.SortedMaps.maps g.M.SortedMaps.spare g.M.SortedMaps.limit c.args.core.now c.requires.0 c.args.session c.requires.2 c.requires.1 (sym (ap option_copied c.in-None.is) ∙ c.next.ensures)

pub returns : goal.returns
returns g c = λ s o h lacks.
    let first = wanted_there g.M.SortedMaps.maps g.M.SortedMaps.spare g.M.SortedMaps.limit c.args.core.now s c.args.session h o lacks in
    let one : Some c.in-Some.wants.now ≡ Some (group_want o.first ∷ []) = (sym (ap option_copied c.in-Some.is) ∙ c.next.ensures) ∙ ap first_of first.1 in
    let is : c.in-Some.wants.now ≡ group_want o.first ∷ [] = cc in
    subst (IsAsked c.ask.result (locks_of s.store) (others_wait s.waiting c.args.session) c.args.session) is
    (c.ask.ensures (locks_of s.store) (others_wait s.waiting c.args.session) (agrees g.M.SortedMaps.maps g.M.SortedMaps.spare g.M.SortedMaps.limit c.args.core.now s c.args.session h o.goes_on.of_session))
