use Rattle.std.proofs.Common.{List, ℕ, refl, sym, subst}
use Rattle.txn_machine.specs.Answers.{Cleaned}
use Rattle.txn_machine.specs.Ghosts.{IsFirstCleanable}
use Rattle.core_upkeep.proofs.Cleaned.{none_gives, gave_none}
use Rattle.core_upkeep.proofs.Removed.{key_fits, none_told}
use Rattle.core_upkeep.proofs.cleaning.clean.Goals as goal

pub first_cleanable-requires-after_bounds : goal.first_cleanable-requires-after_bounds
first_cleanable-requires-after_bounds g c κs within = (c.requires.state, c.requires.began)

pub key_of-requires : goal.key_of-requires
key_of-requires g c =
    let q = c.requires in
    key_fits g.M.SortedMaps.maps g.M.SortedMaps.spare g.M.SortedMaps.limit c.args.core.now q.state q.began (c.in-Some.view, c.in-Some.group.now) (c.in-Some.ensures.some q.state q.began).is

pub clean_at-requires-after_bounds : goal.clean_at-requires-after_bounds
clean_at-requires-after_bounds g c κs within =
    let q = c.requires in
    (q, subst (λ (key : List ℕ). IsFirstCleanable q.state.store (c.in-Some.view, key)) (sym c.key_of.ensures) (c.in-Some.ensures.some q.state q.began))

pub returns-clause-gives : goal.returns-clause-gives
returns-clause-gives g c = λ s h may.
    c.clean_at.ensures.gives s h (subst (λ (key : List ℕ). IsFirstCleanable s.store (c.in-Some.view, key)) (sym c.key_of.ensures) (c.in-Some.ensures.some s h))

pub returns-clause-medium : goal.returns-clause-medium
returns-clause-medium g c = c.clean_at.ensures.medium

pub returns-in-None-clause-gives : goal.returns-in-None-clause-gives
returns-in-None-clause-gives g c = λ s h may.
    let core = c.args.core.now in
    let told = none_told g.M.SortedMaps.maps g.M.SortedMaps.spare g.M.SortedMaps.limit core s h (c.in-None.ensures.none refl s h) in
    gave_none g.M.SortedMaps.maps g.M.SortedMaps.spare g.M.SortedMaps.limit g.J.Journal.has g.J.Journal.limit g.J.Journal.medium g.J.Journal.leaves core c.args.journal.now s (Cleaned 0) core h told (λ rs. none_gives s rs told.effects told.says)

pub returns-in-None-clause-medium : goal.returns-in-None-clause-medium
returns-in-None-clause-medium g c = refl
