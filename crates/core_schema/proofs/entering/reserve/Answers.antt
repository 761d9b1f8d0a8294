use Rattle.std.proofs.Common.{arith}
use mathlib.Core.Path.{sym, ap, subst, ◌∙◌}
use Rattle.core_state.specs.Stands.{Began}
use Rattle.data_store.specs.declared.store.DataStore.{DataStore}
use Rattle.core_schema.proofs.Roomier.{roomier}
use Rattle.core_schema.proofs.entering.reserve.Goals as goal

pub returns-in_err-reserve_first-clause-began : goal.returns-in_err-reserve_first-clause-began
returns-in_err-reserve_first-clause-began g c = λ s session h.
    subst (λ (x : DataStore g.row.M.Denot). Began g.M.SortedMaps.maps g.M.SortedMaps.spare g.M.SortedMaps.limit (record c.args.core.now { store = x; book = c.reserve_entry.new.self }) s session) (sym c.reserve_first.ensures.rest)
    (roomier g.M.SortedMaps.maps g.M.SortedMaps.spare g.M.SortedMaps.limit c.args.core.now s session c.reserve_entry.new.self c.reserve_first.new.store.tables h c.reserve_entry.ensures.same
    c.reserve_first.ensures.maps c.reserve_first.ensures.spare c.reserve_first.ensures.limit)

pub returns-in_err-reserve_parts-clause-began : goal.returns-in_err-reserve_parts-clause-began
returns-in_err-reserve_parts-clause-began g c = λ s session h.
    let were = c.maps_mut.ensures.value in
    subst (λ (x : DataStore g.row.M.Denot). Began g.M.SortedMaps.maps g.M.SortedMaps.spare g.M.SortedMaps.limit (record c.args.core.now { store = record x { tables = c.reserve_parts.new.maps }; book = c.reserve_entry.new.self }) s session) (sym c.reserve_first.ensures.rest)
    (roomier g.M.SortedMaps.maps g.M.SortedMaps.spare g.M.SortedMaps.limit c.args.core.now s session c.reserve_entry.new.self c.reserve_parts.new.maps h c.reserve_entry.ensures.same
    (λ k. c.reserve_parts.ensures.maps k ∙ (ap (λ t. g.M.SortedMaps.maps t k) were ∙ c.reserve_first.ensures.maps k))
    (λ k. let one = c.reserve_parts.ensures.spare k in let two = c.reserve_first.ensures.spare k in let same = ap (λ t. g.M.SortedMaps.spare t k) were in omega (arith, one, two, same))
    (c.reserve_parts.ensures.limit ∙ (ap g.M.SortedMaps.limit were ∙ c.reserve_first.ensures.limit)))

pub returns-clause-first : goal.returns-clause-first
returns-clause-first g c =
    let room = c.in_ok-reserve_first.ensures.room in
    let one = c.reserve_parts.ensures.spare c.args.number in
    let same = ap (λ t. g.M.SortedMaps.spare t c.args.number) c.maps_mut.ensures.value in
    omega (arith, room, one, same)

pub returns-clause-maps : goal.returns-clause-maps
returns-clause-maps g c = λ k. c.reserve_parts.ensures.maps k ∙ (ap (λ t. g.M.SortedMaps.maps t k) c.maps_mut.ensures.value ∙ c.reserve_first.ensures.maps k)

pub returns-clause-began : goal.returns-clause-began
returns-clause-began g c = λ s session h.
    let were = c.maps_mut.ensures.value in
    subst (λ (x : DataStore g.row.M.Denot). Began g.M.SortedMaps.maps g.M.SortedMaps.spare g.M.SortedMaps.limit (record c.args.core.now { store = record x { tables = c.reserve_parts.new.maps }; book = c.reserve_entry.new.self }) s session) (sym c.reserve_first.ensures.rest)
    (roomier g.M.SortedMaps.maps g.M.SortedMaps.spare g.M.SortedMaps.limit c.args.core.now s session c.reserve_entry.new.self c.reserve_parts.new.maps h c.reserve_entry.ensures.same
    (λ k. c.reserve_parts.ensures.maps k ∙ (ap (λ t. g.M.SortedMaps.maps t k) were ∙ c.reserve_first.ensures.maps k))
    (λ k. let one = c.reserve_parts.ensures.spare k in let two = c.reserve_first.ensures.spare k in let same = ap (λ t. g.M.SortedMaps.spare t k) were in omega (arith, one, two, same))
    (c.reserve_parts.ensures.limit ∙ (ap g.M.SortedMaps.limit were ∙ c.reserve_first.ensures.limit)))
