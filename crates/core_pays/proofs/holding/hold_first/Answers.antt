use Rattle.std.proofs.Common.{IsTrue, false, refl, sym, subst, ◌∷◌, []}
use Rattle.std.specs.List.{Contains}
use Rattle.lock_manager.specs.Table as table
use Rattle.txn_machine.specs.Steps.{group_want}
use Rattle.core_pays.proofs.Firsts.{the_open}
use Rattle.core_pays.proofs.Held.{already_holding, asks_first}
use Rattle.core_pays.proofs.holding.hold_first.Goals as goal

not_true : IsTrue false → ⊥
not_true t = absurd cc

pub returns-then-is_held-clause-holds : goal.returns-then-is_held-clause-holds
returns-then-is_held-clause-holds g c = λ s h o. already_holding g.M.SortedMaps.maps g.M.SortedMaps.spare g.M.SortedMaps.limit c.args.core.now s c.args.session h o ((c.is_held.ensures s o h).0 (subst IsTrue (sym c.if-is_held.true) refl))

pub ask_first-requires-after_bounds : goal.ask_first-requires-after_bounds
ask_first-requires-after_bounds g c κs within = (c.requires.0, c.requires.2, c.requires.1, λ has. not_true (subst IsTrue c.if-is_held.false ((c.is_held.ensures c.requires.0 c.requires.2 c.requires.1).1 has)))

pub take_first-requires-after_bounds : goal.take_first-requires-after_bounds
take_first-requires-after_bounds g c κs within =
    let lacks : Contains (table.locks_of c.args.core.now.locks c.args.session) (group_want c.requires.2.first) → ⊥ = λ has. not_true (subst IsTrue c.if-is_held.false ((c.is_held.ensures c.requires.0 c.requires.2 c.requires.1).1 has)) in
    (c.requires.0, c.requires.2, c.requires.1, lacks, c.in-Free.ensures c.requires.0 c.requires.2 c.requires.1 lacks)

pub wait_first-requires-after_bounds : goal.wait_first-requires-after_bounds
wait_first-requires-after_bounds g c κs within = (c.requires.0, c.requires.2, c.requires.1, λ has. not_true (subst IsTrue c.if-is_held.false ((c.is_held.ensures c.requires.0 c.requires.2 c.requires.1).1 has)))

pub returns-in-Free-clause-holds : goal.returns-in-Free-clause-holds
returns-in-Free-clause-holds g c = λ s h o.
    let lacks : Contains (table.locks_of c.args.core.now.locks c.args.session) (group_want o.first) → ⊥ = λ has. not_true (subst IsTrue c.if-is_held.false ((c.is_held.ensures s o h).1 has)) in
    c.take_first.ensures s o h lacks (c.in-Free.ensures s o h lacks)

pub returns-in-Blocked-clause-told : goal.returns-in-Blocked-clause-told
returns-in-Blocked-clause-told g c = λ s h o.
    let lacks : Contains (table.locks_of c.args.core.now.locks c.args.session) (group_want o.first) → ⊥ = λ has. not_true (subst IsTrue c.if-is_held.false ((c.is_held.ensures s o h).1 has)) in
    c.wait_first.ensures s o h (c.in-Blocked.ensures s o h lacks) lacks

pub returns-in-Deadlock-clause-told : goal.returns-in-Deadlock-clause-told
returns-in-Deadlock-clause-told g c = λ s h o.
    let lacks : Contains (table.locks_of c.args.core.now.locks c.args.session) (group_want o.first) → ⊥ = λ has. not_true (subst IsTrue c.if-is_held.false ((c.is_held.ensures s o h).1 has)) in
    let core = c.args.core.now in
    c.lose.ensures s Rattle.txn_machine.specs.Acts.Pay (group_want o.first ∷ []) h (the_open g.M.SortedMaps.maps g.M.SortedMaps.spare g.M.SortedMaps.limit core s c.args.session h o) (asks_first g.M.SortedMaps.maps g.M.SortedMaps.spare g.M.SortedMaps.limit core s c.args.session h o) (c.in-Deadlock.ensures s o h lacks)
