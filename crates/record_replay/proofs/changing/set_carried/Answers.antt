use Rattle.std.proofs.Common.{OnOk, sym, subst}
use Rattle.txn_machine.specs.RowChanges.{row_change}
use Rattle.txn_log.specs.Replay.{Pages}
use Rattle.txn_log.specs.Fitting.{IsKnown}
use Rattle.iv_meaning.specs.Objects.{schema_of}
use Rattle.live_records.specs.declared.record.LiveChange.{LiveChange}
use Rattle.live_records.specs.Live.{what_of}
use Rattle.record_replay.specs.Past.{with_rows_of}
use Rattle.record_replay.specs.Standing.{Has}
use Rattle.record_replay.proofs.Changed.{limited, carries, once_ok}
use Rattle.record_replay.proofs.Texts.{told_in, told_closed}
use Rattle.record_replay.proofs.changing.set_carried.Goals as goal

pub put_row-requires-clause-limited : goal.put_row-requires-clause-limited
put_row-requires-clause-limited g c κs within =
    let q = c.requires.has in
    limited g.M.SortedMaps.maps g.M.SortedMaps.limit c.args.store.now q.0 q.1

pub returns-in-Wrote-clause-told : goal.returns-in-Wrote-clause-told
returns-in-Wrote-clause-told g c =
    let maps = g.M.SortedMaps.maps in
    let limit = g.M.SortedMaps.limit in
    let old = c.args.store.now in
    let new = c.put_row.new.store in
    let known = subst (λ (x : LiveChange). IsKnown (schema_of old.catalog) (what_of x)) c.in-Wrote.is c.requires.known in
    subst (λ (x : LiveChange). OnOk c.put_row.result ((p : Pages) → Has maps limit old p → Has maps limit new (with_rows_of (what_of x) p))) (sym c.in-Wrote.is)
    (once_ok c.put_row.result (λ put p h. carries maps limit old new c.put_row.ensures.limit p (row_change c.in-Wrote.change) h known c.put_row.ensures.rest (put (told_in maps old p) (told_closed maps limit old p h).held)) c.put_row.ensures.put)

pub returns-in-Wrote-clause-texts : goal.returns-in-Wrote-clause-texts
returns-in-Wrote-clause-texts g c =
    let maps = g.M.SortedMaps.maps in
    let store = c.args.store.now in
    let q = c.requires.has in
    once_ok c.put_row.result (λ put. (put (told_in maps store q.0) (told_closed maps g.M.SortedMaps.limit store q.0 q.1).held).texts) c.put_row.ensures.put
