use Rattle.std.proofs.Common.{◌≡◌, ◌+◌, [], length, refl, arith, sym, ap, subst, ◌∙◌}
use Rattle.ghost_rows.specs.Rows.{row_at, settled_at}
use Rattle.ghost_rows.specs.State.{room_of}
use Rattle.lock_manager.specs.Table.{IsReleased}
use Rattle.txn_machine.specs.May.{IsOpen}
use Rattle.txn_machine.specs.Store.{committed, Commits}
use Rattle.txn_book.specs.Books.{Committed, number_of}
use Rattle.txn_book.specs.Opens.{open_at}
use Rattle.txn_book.specs.Txns.{txn_of}
use Rattle.data_store.specs.Held.{IsHeld}
use Rattle.data_store.specs.declared.store.DataStore.{DataStore}
use Rattle.data_changes.specs.Effects.{keeping}
use Rattle.data_past.specs.Ahead.{Becomes, rows_at, deltas_at}
use Rattle.data_past.proofs.Aheads.{rows_within, deltas_within}
use Rattle.data_past.specs.Moves.{version_at, delta_at, pushed_all}
use Rattle.core_state.specs.declared.state.CoreState.{CoreState}
use Rattle.core_state.proofs.Sessions.{own_txn, of_ready}
use Rattle.core_ends.specs.Ends.{Left}
use Rattle.core_ends.proofs.Leaves.{entered}
use Rattle.core_ends.proofs.Past.{forgets, left_versions}
use Rattle.core_ends.proofs.entering.enter_it.Goals as goal

pub forget-requires-after_bounds : goal.forget-requires-after_bounds
forget-requires-after_bounds g c κs within =
    let r = c.requires.2 in
    let own = own_txn g.M.SortedMaps.maps g.M.SortedMaps.spare g.M.SortedMaps.limit c.args.core.now c.requires.0 c.args.session c.requires.1 (of_ready g.M.SortedMaps.maps g.M.SortedMaps.spare g.M.SortedMaps.limit c.args.core.now c.requires.0 c.args.session c.requires.1 r) in
    (own.txn, own.there, forgets g.M.SortedMaps.maps g.M.SortedMaps.spare g.M.SortedMaps.limit c.args.core.now c.requires.0 c.args.session c.requires.1 r own.txn own.there)

pub take-versions-requires : goal.take-versions-requires
take-versions-requires g c = let is = c.requires.2.goes_on.of_session in omega (arith, is)

pub commit-number-requires : goal.commit-number-requires
commit-number-requires g c =
    let own = own_txn g.M.SortedMaps.maps g.M.SortedMaps.spare g.M.SortedMaps.limit c.args.core.now c.requires.0 c.args.session c.requires.1 (of_ready g.M.SortedMaps.maps g.M.SortedMaps.spare g.M.SortedMaps.limit c.args.core.now c.requires.0 c.args.session c.requires.1 c.requires.2) in
    (own.txn, ap (λ (x : CoreState g.row.M.Denot). open_at x.book.opens c.args.session) c.forget.ensures.rest ∙ own.there, tt)

pub let_go-requires-after_bounds : goal.let_go-requires-after_bounds
let_go-requires-after_bounds g c κs within = c.requires.2.goes_on.of_session

pub push_versions-requires-clause-room : goal.push_versions-requires-clause-room
push_versions-requires-clause-room g c κs within =
    let core = c.args.core.now in
    let i = c.args.session in
    let same : c.let_go.new.core.store.row_versions.room ≡ core.store.row_versions.room = ap (λ (x : CoreState g.row.M.Denot). x.store.row_versions.room) c.let_go.ensures.rest ∙ ap (λ (x : CoreState g.row.M.Denot). x.store.row_versions.room) c.forget.ensures.rest in
    let many : length c.take-versions.result.rows.items ≡ length (rows_at core.ahead i) = ap length c.take-versions.ensures.rows ∙ ap (λ (x : CoreState g.row.M.Denot). length (rows_at x.ahead i)) c.forget.ensures.rest in
    let room = c.requires.1.holds.ahead.row_room in
    let part = rows_within core.ahead i in
    omega (arith, same, many, room, part)

pub push_versions-requires-clause-deltas_room : goal.push_versions-requires-clause-deltas_room
push_versions-requires-clause-deltas_room g c κs within =
    let core = c.args.core.now in
    let i = c.args.session in
    let same : c.let_go.new.core.store.delta_versions.room ≡ core.store.delta_versions.room = ap (λ (x : CoreState g.row.M.Denot). x.store.delta_versions.room) c.let_go.ensures.rest ∙ ap (λ (x : CoreState g.row.M.Denot). x.store.delta_versions.room) c.forget.ensures.rest in
    let many : length c.take-versions.result.deltas.items ≡ length (deltas_at core.ahead i) = ap length c.take-versions.ensures.deltas ∙ ap (λ (x : CoreState g.row.M.Denot). length (deltas_at x.ahead i)) c.forget.ensures.rest in
    let room = c.requires.1.holds.ahead.delta_room in
    let part = deltas_within core.ahead i in
    omega (arith, same, many, room, part)

pub returns-clause-number : goal.returns-clause-number
returns-clause-number g c = λ s h.
    c.commit-number.ensures.number ∙ ap (λ (x : CoreState g.row.M.Denot). number_of x.book + 1) c.forget.ensures.rest ∙ ap (λ n. n + 1) h.holds.book.number

pub returns-clause-left : goal.returns-clause-left
returns-clause-left g c = λ s h r some.
    let maps = g.M.SortedMaps.maps in
    let spare = g.M.SortedMaps.spare in
    let limit = g.M.SortedMaps.limit in
    let core = c.args.core.now in
    let i = c.args.session in
    let versions = c.take-versions.result in
    let left = c.take-versions.new.self in
    let forgot = c.forget.new.core in
    let number = c.commit-number.result in
    let after = c.commit-number.new.self in
    let gone = c.let_go.new.core in
    let pushed = c.push_versions.new.store in
    let first = c.forget.ensures.rest in
    let o : IsOpen s.store i = of_ready maps spare limit core s i h r in
    let own = own_txn maps spare limit core s i h o in
    -- all that changes
    let then : gone ≡ record core { store = record core.store { views = gone.store.views; pending = forgot.store.pending }; book = after; ahead = left; locks = gone.locks } =
    c.let_go.ensures.rest ∙ ap (λ (x : CoreState g.row.M.Denot). record x { store = record x.store { views = gone.store.views }; book = after; ahead = left; locks = gone.locks }) first in
    let all : record gone { store = pushed; next = gone.next + 1 }
    ≡ record core { store = record core.store { views = gone.store.views; pending = forgot.store.pending; row_versions = pushed.row_versions; delta_versions = pushed.delta_versions }; book = after; ahead = left; locks = gone.locks; next = core.next + 1 } =
    ap (λ (st : DataStore g.row.M.Denot). record gone { store = st; next = gone.next + 1 }) c.push_versions.ensures.rest
    ∙ ap (λ (x : CoreState g.row.M.Denot). record x { store = record x.store { row_versions = pushed.row_versions; delta_versions = pushed.delta_versions }; next = x.next + 1 }) then in
    let rows_are : versions.rows.items ≡ rows_at core.ahead i = c.take-versions.ensures.rows ∙ ap (λ (x : CoreState g.row.M.Denot). rows_at x.ahead i) first in
    let deltas_are : versions.deltas.items ≡ deltas_at core.ahead i = c.take-versions.ensures.deltas ∙ ap (λ (x : CoreState g.row.M.Denot). deltas_at x.ahead i) first in
    let number_is : number ≡ (committed s.store).number + 1 =
    c.commit-number.ensures.number ∙ ap (λ (x : CoreState g.row.M.Denot). number_of x.book + 1) first ∙ ap (λ n. n + 1) h.holds.book.number in
    subst (λ (x : CoreState g.row.M.Denot). Left maps spare limit s i Commits core x) (sym all)
    (entered maps spare limit core _ s i h o.of_session c.book_law.ensures
    (subst (λ (x : CoreState g.row.M.Denot). IsReleased x.locks gone.locks i) first c.let_go.ensures.locks)
    (λ cs held. subst (λ (x : CoreState g.row.M.Denot). IsHeld x.store.catalog (maps x.store.tables) gone.store.views (keeping cs i [])) then
    (c.let_go.ensures.store cs (subst (λ (x : CoreState g.row.M.Denot). IsHeld x.store.catalog (maps x.store.tables) x.store.views cs) (sym first) held)))
    (λ q. c.let_go.ensures.rows q ∙ ap (λ (x : CoreState g.row.M.Denot). settled_at i (row_at x.store.views.rows q)) first)
    (λ j n. c.let_go.ensures.rooms j n ∙ ap (λ (x : CoreState g.row.M.Denot). room_of x.store.views j) first)
    refl refl refl
    (c.push_versions.ensures.pruned ∙ ap (λ (x : CoreState g.row.M.Denot). x.store.row_versions.pruned) then)
    (c.push_versions.ensures.deltas_pruned ∙ ap (λ (x : CoreState g.row.M.Denot). x.store.delta_versions.pruned) then)
    refl refl refl refl refl refl refl r own
    (subst (λ (x : CoreState g.row.M.Denot). Committed x.book after i (txn_of own.txn)) first
    (c.commit-number.ensures.entry own.txn (ap (λ (x : CoreState g.row.M.Denot). open_at x.book.opens i) first ∙ own.there)))
    refl
    (left_versions maps spare limit core s i h r own.txn own.there number number_is versions.rows.items versions.deltas.items rows_are deltas_are
    pushed.row_versions.versions pushed.delta_versions.versions forgot.store.pending.entries
    (c.push_versions.ensures.rows ∙ ap (λ (x : CoreState g.row.M.Denot). pushed_all (version_at number) versions.rows.items x.store.row_versions.pruned x.store.row_versions.versions) then)
    (c.push_versions.ensures.deltas ∙ ap (λ (x : CoreState g.row.M.Denot). pushed_all (delta_at number) versions.deltas.items x.store.delta_versions.pruned x.store.delta_versions.versions) then)
    (c.forget.ensures.pending own.txn own.there))
    (subst (λ (x : CoreState g.row.M.Denot). Becomes x.ahead left i [] []) first c.take-versions.ensures.left)
    (let had = c.push_versions.ensures.left in let same : gone.store.row_versions.room ≡ core.store.row_versions.room = ap (λ (x : CoreState g.row.M.Denot). x.store.row_versions.room) then in let many : length versions.rows.items ≡ length (rows_at core.ahead i) = ap length rows_are in omega (arith, had, same, many))
    (let had = c.push_versions.ensures.deltas_left in let same : gone.store.delta_versions.room ≡ core.store.delta_versions.room = ap (λ (x : CoreState g.row.M.Denot). x.store.delta_versions.room) then in let many : length versions.deltas.items ≡ length (deltas_at core.ahead i) = ap length deltas_are in omega (arith, had, same, many)))
