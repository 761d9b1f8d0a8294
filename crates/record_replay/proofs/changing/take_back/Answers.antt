use Rattle.std.proofs.Common.{IfOk, sym, subst}
use Rattle.txn_log.specs.Replay.{Stored}
use Rattle.live_records.specs.declared.record.LiveChange.{LiveChange}
use Rattle.live_records.specs.Live.{what_of}
use Rattle.record_replay.specs.Past.{pages_in}
use Rattle.record_replay.specs.Standing.{Has}
use Rattle.record_replay.specs.Telling.{TakesBack}
use Rattle.record_replay.proofs.changing.take_back.Goals as goal

pub returns-in-Added-clause-told : goal.returns-in-Added-clause-told
returns-in-Added-clause-told g c =
    let maps = g.M.SortedMaps.maps in
    let limit = g.M.SortedMaps.limit in
    subst (λ (x : LiveChange). IfOk c.add_back.result (λ tried. (s : Stored) → Has maps limit c.args.store.now (pages_in s) → TakesBack maps limit c.add_back.new.store s (what_of x) tried)) (sym c.in-Added.is) c.add_back.ensures.told
