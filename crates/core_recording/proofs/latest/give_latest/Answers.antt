use Rattle.std.proofs.Common.{subst, ◌∙◌}
use Rattle.log_records.specs.Lent.{stands_for}
use Rattle.txn_machine.specs.Store.{schema_of}
use Rattle.core_recording.specs.Appending.{kept_record}
use Rattle.core_recording.proofs.Bytes.{short, its_number, room, given_one}
use Rattle.core_recording.proofs.Kept as kept
use Rattle.core_recording.proofs.latest.give_latest.Goals as goal

pub open_of-txn-requires-after_bounds : goal.open_of-txn-requires-after_bounds
open_of-txn-requires-after_bounds g c κs within =
    let q = c.requires in
    kept.is_open g.M.SortedMaps.maps g.M.SortedMaps.spare g.M.SortedMaps.limit c.args.core.now q.0 q.1 q.2 c.args.session q.5 q.4 q.6

pub latest_of-step-requires : goal.latest_of-step-requires
latest_of-step-requires g c =
    let q = c.requires in
    kept.some_kept g.M.SortedMaps.maps g.M.SortedMaps.spare g.M.SortedMaps.limit c.args.core.now q.0 q.1 q.2 c.args.session q.5 q.4 q.6 c.open_of-txn.result.now c.open_of-txn.ensures

pub append-requires-clause-short : goal.append-requires-clause-short
append-requires-clause-short g c =
    let q = c.requires in
    let step = c.latest_of-step in
    let number = kept.its_number g.M.SortedMaps.maps g.M.SortedMaps.spare g.M.SortedMaps.limit c.args.core.now q.0 q.1 q.2 c.args.session q.5 q.4 q.6 c.open_of-txn.result.now c.open_of-txn.ensures step.result.now step.ensures in
    let bytes = kept.its_bytes g.M.SortedMaps.maps g.M.SortedMaps.spare g.M.SortedMaps.limit c.args.core.now q.0 q.1 q.2 c.args.session q.5 q.4 q.6 c.open_of-txn.result.now c.open_of-txn.ensures step.result.now step.ensures
    (stands_for c.step_of.result) c.step_of.ensures in
    short (schema_of q.0) (kept_record (q.1.logged c.args.session).transaction q.4) q.6.number c.number_of.result (stands_for c.step_of.result) (c.number_of.ensures ∙ number) bytes (g.J.Journal.limit c.args.journal.now) q.3 q.8

pub append-requires-clause-number : goal.append-requires-clause-number
append-requires-clause-number g c =
    let q = c.requires in
    let step = c.latest_of-step in
    let number = kept.its_number g.M.SortedMaps.maps g.M.SortedMaps.spare g.M.SortedMaps.limit c.args.core.now q.0 q.1 q.2 c.args.session q.5 q.4 q.6 c.open_of-txn.result.now c.open_of-txn.ensures step.result.now step.ensures in
    let bytes = kept.its_bytes g.M.SortedMaps.maps g.M.SortedMaps.spare g.M.SortedMaps.limit c.args.core.now q.0 q.1 q.2 c.args.session q.5 q.4 q.6 c.open_of-txn.result.now c.open_of-txn.ensures step.result.now step.ensures
    (stands_for c.step_of.result) c.step_of.ensures in
    its_number (schema_of q.0) (kept_record (q.1.logged c.args.session).transaction q.4) q.6.number c.number_of.result (stands_for c.step_of.result) (c.number_of.ensures ∙ number) bytes (g.J.Journal.limit c.args.journal.now) q.3 q.8

pub append-requires-clause-room : goal.append-requires-clause-room
append-requires-clause-room g c =
    let q = c.requires in
    let step = c.latest_of-step in
    let number = kept.its_number g.M.SortedMaps.maps g.M.SortedMaps.spare g.M.SortedMaps.limit c.args.core.now q.0 q.1 q.2 c.args.session q.5 q.4 q.6 c.open_of-txn.result.now c.open_of-txn.ensures step.result.now step.ensures in
    let bytes = kept.its_bytes g.M.SortedMaps.maps g.M.SortedMaps.spare g.M.SortedMaps.limit c.args.core.now q.0 q.1 q.2 c.args.session q.5 q.4 q.6 c.open_of-txn.result.now c.open_of-txn.ensures step.result.now step.ensures
    (stands_for c.step_of.result) c.step_of.ensures in
    (q.3, q.7, room (schema_of q.0) (kept_record (q.1.logged c.args.session).transaction q.4) q.6.number c.number_of.result (stands_for c.step_of.result) (c.number_of.ensures ∙ number) bytes (g.J.Journal.limit c.args.journal.now) q.3 q.8)

pub returns-clause-has : goal.returns-clause-has
returns-clause-has g c = λ s l texts rs k h holds has.
    let step = c.latest_of-step in
    let number = kept.its_number g.M.SortedMaps.maps g.M.SortedMaps.spare g.M.SortedMaps.limit c.args.core.now s l texts c.args.session holds k h c.open_of-txn.result.now c.open_of-txn.ensures step.result.now step.ensures in
    let bytes = kept.its_bytes g.M.SortedMaps.maps g.M.SortedMaps.spare g.M.SortedMaps.limit c.args.core.now s l texts c.args.session holds k h c.open_of-txn.result.now c.open_of-txn.ensures step.result.now step.ensures
    (stands_for c.step_of.result) c.step_of.ensures in
    subst (g.J.Journal.has c.append.new.self) (given_one (schema_of s) (kept_record (l.logged c.args.session).transaction k) h.number c.number_of.result (stands_for c.step_of.result) (c.number_of.ensures ∙ number) bytes rs)
    (c.append.ensures.has rs has)
