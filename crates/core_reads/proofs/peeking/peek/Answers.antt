use Rattle.std.proofs.Common.{◌≡◌, ℕ, List, refl, sym, subst}
use Rattle.iv_meaning.specs.Database.{Row, Database}
use Rattle.iv_meaning.specs.Schema.{numbered}
use Rattle.txn_machine.specs.Acts as act
use Rattle.txn_machine.specs.Answers as answer
use Rattle.txn_machine.specs.Stored.{ViewRows}
use Rattle.txn_machine.specs.Steps.{FindsIn}
use Rattle.data_store.specs.Contents.{Contents}
use Rattle.data_store.specs.Reading.{CanBeRead}
use Rattle.data_store.specs.Peeking.{WereAll, CanPeek}
use Rattle.data_store.proofs.Peeked.{can_peek, peeked}
use Rattle.core_state.proofs.Unchanged.{unchanged_told}
use Rattle.core_state.proofs.Sessions.{is_there}
use Rattle.core_reads.proofs.Peeks.{opened_by, is_number, rows_kept, deltas_kept}
use Rattle.core_reads.proofs.peeking.peek.Goals as goal

pub own_number-number-requires-after_bounds : goal.own_number-number-requires-after_bounds
own_number-number-requires-after_bounds g c κs within = is_there g.M.SortedMaps.maps g.M.SortedMaps.spare g.M.SortedMaps.limit c.args.core.now c.requires.0 c.args.session c.requires.1 (opened_by c.requires.0 c.args.session c.requires.2.0)

pub found_at-requires-clause-rows_kept : goal.found_at-requires-clause-rows_kept
found_at-requires-clause-rows_kept g c κs within =
    let s = c.requires.0 in
    rows_kept g.M.SortedMaps.maps g.M.SortedMaps.spare g.M.SortedMaps.limit c.args.core.now s c.args.session c.requires.1 c.requires.2.0 c.own_number-number.result (c.own_number-number.ensures s c.requires.1 (opened_by s c.args.session c.requires.2.0))

pub found_at-requires-clause-deltas_kept : goal.found_at-requires-clause-deltas_kept
found_at-requires-clause-deltas_kept g c κs within =
    let s = c.requires.0 in
    deltas_kept g.M.SortedMaps.maps g.M.SortedMaps.spare g.M.SortedMaps.limit c.args.core.now s c.args.session c.requires.1 c.requires.2.0 c.own_number-number.result (c.own_number-number.ensures s c.requires.1 (opened_by s c.args.session c.requires.2.0))

pub found_at-requires-clause-past : goal.found_at-requires-clause-past
found_at-requires-clause-past g c κs within =
    let s = c.requires.0 in
    let core = c.args.core.now in
    let store = core.store in
    let maps = g.M.SortedMaps.maps store.tables in
    let on = c.requires.2.0 in
    let number : c.own_number-number.result ≡ on.transaction.number = is_number g.M.SortedMaps.maps g.M.SortedMaps.spare g.M.SortedMaps.limit core s c.args.session c.requires.1 on c.own_number-number.result (c.own_number-number.ensures s c.requires.1 (opened_by s c.args.session on)) in
    subst (λ (n : ℕ). CanPeek n store.row_versions.versions store.delta_versions.versions store.pending.entries store.catalog maps store.views c.args.index) (sym number)
    (can_peek store.catalog maps store.views s c.requires.1.reached c.requires.1.holds.stored store.row_versions.versions store.delta_versions.versions store.pending.entries c.requires.1.holds.past c.args.session (opened_by s c.args.session on) on.mode_is c.args.index c.requires.2.1)

pub returns : goal.returns
returns g c = λ s h may.
    let core = c.args.core.now in
    let store = core.store in
    let maps = g.M.SortedMaps.maps store.tables in
    let on = may.0 in
    let number : c.own_number-number.result ≡ on.transaction.number = is_number g.M.SortedMaps.maps g.M.SortedMaps.spare g.M.SortedMaps.limit core s c.args.session h on c.own_number-number.result (c.own_number-number.ensures s h (opened_by s c.args.session on)) in
    let rows : List Row = c.in_ok-found_at.field-0 in
    unchanged_told g.M.SortedMaps.maps g.M.SortedMaps.spare g.M.SortedMaps.limit core s c.args.session (act.Peek c.args.index c.args.interval.now) (answer.Rows rows) h (
      peeked store.catalog maps store.views s h.reached h.holds.stored store.row_versions.versions store.delta_versions.versions store.pending.entries h.holds.past c.args.session (opened_by s c.args.session on) on.mode_is c.args.index c.args.interval.now rows may.1
          (subst (λ (n : ℕ). (x : Contents) (db : Database) (before : ViewRows) → CanBeRead store.catalog maps store.views x → db.schema ≡ x.objects → WereAll n store.row_versions.versions store.delta_versions.versions store.pending.entries store.catalog maps store.views x db.rows before → FindsIn db before (numbered x.objects c.args.index) c.args.index c.args.interval.now rows) number c.in_ok-found_at.ensures),
      refl,
    )
    refl refl refl refl
