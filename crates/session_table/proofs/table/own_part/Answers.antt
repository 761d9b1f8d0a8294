use Rattle.std.proofs.Common.{refl, subst}
use Rattle.std.proofs.lemmas.Result.{on_ok_weaker, on_err_weaker}
use Rattle.session_table.proofs.Lining.{nothing_done, too_long_told, bad_told}
use Rattle.session_table.proofs.Seating.{own_stood, engine_done, engine_needs}
use Rattle.std.specs.Prelude.{◌≡◌, ◌≤◌, ◌<◌, ◌-◌, Some, suc, length, slice_get, slice_index_or}
use Rattle.std.proofs.Common.{arith}
use Rattle.std.proofs.lemmas.Option.{slice_get-get_or}
use Rattle.session_table.proofs.Seating.{slot_needs, seats_kept, own_done}
use Rattle.iv_meaning.specs.Said.{cleans, checkpoints}
use Rattle.line_requests.specs.Requests.{IsRequest}
use Rattle.line_requests.specs.declared.asked.Request.TheVariants as request
use Rattle.session_table.proofs.Losing.{lost_so, stood, of_engine_lost, slot_lost}
use Rattle.session_table.proofs.table.own_part.Goals as goal

pub returns-in-Nothing-clause-did : goal.returns-in-Nothing-clause-did
returns-in-Nothing-clause-did g c = rw c.in-Nothing.is (own_stood (g.S.Stepper.stands c.args.engine.now) request.Nothing c.args.slots.now c.args.text.now.items c.args.text.now.items (λ s go. nothing_done s c.args.slots.now c.args.text.now.items go))

pub returns-in-TooLong-clause-did : goal.returns-in-TooLong-clause-did
returns-in-TooLong-clause-did g c = rw c.in-TooLong.is (on_ok_weaker c.push_one.result (λ told. own_stood (g.S.Stepper.stands c.args.engine.now) request.TooLong c.args.slots.now c.args.text.now.items c.push_one.new.text.items (λ s go. too_long_told s c.args.slots.now c.args.text.now.items _ go told)) c.push_one.ensures)

pub returns-in-TooLong-clause-lost : goal.returns-in-TooLong-clause-lost
returns-in-TooLong-clause-lost g c = lost_so c.push_one.result (λ s st go. stood (g.S.Stepper.stands c.args.engine.now) s st)

pub returns-in-Bad-clause-did : goal.returns-in-Bad-clause-did
returns-in-Bad-clause-did g c = rw c.in-Bad.is (on_ok_weaker c.push_one-in-Bad.result (λ told. own_stood (g.S.Stepper.stands c.args.engine.now) request.Bad c.args.slots.now c.args.text.now.items c.push_one-in-Bad.new.text.items (λ s go. bad_told s c.args.slots.now c.args.text.now.items _ go told)) c.push_one-in-Bad.ensures)

pub returns-in-Bad-clause-lost : goal.returns-in-Bad-clause-lost
returns-in-Bad-clause-lost g c = lost_so c.push_one-in-Bad.result (λ s st go. stood (g.S.Stepper.stands c.args.engine.now) s st)

pub clean_line-requires : goal.clean_line-requires
clean_line-requires g c = engine_needs c.args.slots.now c.requires.count c.requires.engine

pub returns-in-Clean-clause-did : goal.returns-in-Clean-clause-did
returns-in-Clean-clause-did g c = rw c.in-Clean.is (on_ok_weaker c.clean_line.result (λ did. engine_done (g.S.Stepper.stands c.args.engine.now) request.Clean cleans c.args.slots.now c.args.text.now.items c.clean_line.new.text.items refl tt c.requires.count c.requires.slots did) c.clean_line.ensures.did)

pub returns-in-Clean-clause-lost : goal.returns-in-Clean-clause-lost
returns-in-Clean-clause-lost g c = on_err_weaker c.clean_line.result (of_engine_lost (g.S.Stepper.stands c.args.engine.now) c.args.slots.now c.requires.count) c.clean_line.ensures.lost

pub save_line-requires : goal.save_line-requires
save_line-requires g c = engine_needs c.args.slots.now c.requires.count c.requires.engine

pub returns-in-Checkpoint-clause-did : goal.returns-in-Checkpoint-clause-did
returns-in-Checkpoint-clause-did g c = rw c.in-Checkpoint.is (on_ok_weaker c.save_line.result (λ did. engine_done (g.S.Stepper.stands c.args.engine.now) request.Checkpoint checkpoints c.args.slots.now c.args.text.now.items c.save_line.new.text.items refl tt c.requires.count c.requires.slots did) c.save_line.ensures.did)

pub returns-in-Checkpoint-clause-lost : goal.returns-in-Checkpoint-clause-lost
returns-in-Checkpoint-clause-lost g c = on_err_weaker c.save_line.result (of_engine_lost (g.S.Stepper.stands c.args.engine.now) c.args.slots.now c.requires.count) c.save_line.ensures.lost

pub session_line-requires-clause-engine : goal.session_line-requires-clause-engine
session_line-requires-clause-engine g c =
    let is : IsRequest (request.OfSession c.in-OfSession.session c.in-OfSession.ask) = subst IsRequest c.in-OfSession.is c.requires.request in
    let low : 1 ≤ c.in-OfSession.session = is.0.0 in
    let high : c.in-OfSession.session ≤ 64 = is.0.1 in
    let lt : c.in-OfSession.session - 1 < length c.args.slots.now = omega arith in
    let slot = slice_index_or c.args.slots.now (c.in-OfSession.session - 1) c.index-slots-session.result in
    let at : slice_get c.args.slots.now (c.in-OfSession.session - 1) ≡ Some slot = slice_get-get_or c.args.slots.now (c.in-OfSession.session - 1) c.index-slots-session.result lt in
    slot_needs (c.in-OfSession.session - 1) c.args.slots.now slot at c.requires.engine

pub returns-in-OfSession-clause-did : goal.returns-in-OfSession-clause-did
returns-in-OfSession-clause-did g c =
    let is : IsRequest (request.OfSession c.in-OfSession.session c.in-OfSession.ask) = subst IsRequest c.in-OfSession.is c.requires.request in
    let low : 1 ≤ c.in-OfSession.session = is.0.0 in
    let high : c.in-OfSession.session ≤ 64 = is.0.1 in
    let lt : c.in-OfSession.session - 1 < length c.args.slots.now = omega arith in
    let slot = slice_index_or c.args.slots.now (c.in-OfSession.session - 1) c.index-slots-session.result in
    let at : slice_get c.args.slots.now (c.in-OfSession.session - 1) ≡ Some slot = slice_get-get_or c.args.slots.now (c.in-OfSession.session - 1) c.index-slots-session.result lt in
    let place : c.in-OfSession.session ≡ suc (c.in-OfSession.session - 1) = omega arith in
    rw c.in-OfSession.is (on_ok_weaker c.session_line.result (λ did. own_done (c.in-OfSession.session - 1) c.args.slots.now slot c.session_line.new.slot at (g.S.Stepper.stands c.args.engine.now) c.in-OfSession.ask c.in-OfSession.session c.args.text.now.items c.session_line.new.text.items
    c.requires.slots place did) c.session_line.ensures.did)

pub returns-in-OfSession-clause-lost : goal.returns-in-OfSession-clause-lost
returns-in-OfSession-clause-lost g c =
    let is : IsRequest (request.OfSession c.in-OfSession.session c.in-OfSession.ask) = subst IsRequest c.in-OfSession.is c.requires.request in
    let low : 1 ≤ c.in-OfSession.session = is.0.0 in
    let high : c.in-OfSession.session ≤ 64 = is.0.1 in
    let lt : c.in-OfSession.session - 1 < length c.args.slots.now = omega arith in
    let slot = slice_index_or c.args.slots.now (c.in-OfSession.session - 1) c.index-slots-session.result in
    let at : slice_get c.args.slots.now (c.in-OfSession.session - 1) ≡ Some slot = slice_get-get_or c.args.slots.now (c.in-OfSession.session - 1) c.index-slots-session.result lt in
    on_err_weaker c.session_line.result (slot_lost (g.S.Stepper.stands c.args.engine.now) (c.in-OfSession.session - 1) c.args.slots.now slot at) c.session_line.ensures.lost

pub returns-in-OfSession-clause-slots : goal.returns-in-OfSession-clause-slots
returns-in-OfSession-clause-slots g c =
    let is : IsRequest (request.OfSession c.in-OfSession.session c.in-OfSession.ask) = subst IsRequest c.in-OfSession.is c.requires.request in
    let low : 1 ≤ c.in-OfSession.session = is.0.0 in
    let high : c.in-OfSession.session ≤ 64 = is.0.1 in
    let lt : c.in-OfSession.session - 1 < length c.args.slots.now = omega arith in
    let slot = slice_index_or c.args.slots.now (c.in-OfSession.session - 1) c.index-slots-session.result in
    let at : slice_get c.args.slots.now (c.in-OfSession.session - 1) ≡ Some slot = slice_get-get_or c.args.slots.now (c.in-OfSession.session - 1) c.index-slots-session.result lt in
    seats_kept (c.in-OfSession.session - 1) c.args.slots.now slot c.session_line.new.slot at c.requires.slots c.session_line.ensures.number c.session_line.ensures.fits
