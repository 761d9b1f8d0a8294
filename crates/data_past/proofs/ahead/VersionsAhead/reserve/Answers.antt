use Rattle.std.proofs.Common.{◌<◌, List, length, sym, arith}
use Rattle.std.proofs.lemmas.Option.{slice_get_read}
use Rattle.iv_types.specs.declared.lock.GroupDelta.{GroupDelta}
use Rattle.version_chain.specs.declared.rows.Version as row
use Rattle.std.proofs.lemmas.Result.{on_ok_weaker}
use Rattle.table_laws.proofs.SetPlaces.{set_here}
use Rattle.data_past.proofs.Aheads.{set_in}
use Rattle.data_past.proofs.ahead.VersionsAhead.reserve.Goals as goal

pub returns-clause-same : goal.returns-clause-same
returns-clause-same c = set_in (λ (rs : List row.Version). rs) (λ (ds : List GroupDelta). ds) c.args.self.now c.self.inside.sessions.items c.self.view_is c.args.session c.index_mut.result.now c.reserve.new.self (slice_get_read c.self.inside.sessions.items 65 c.args.session c.index_mut.result.now (sym c.self.invariant) c.requires c.index_mut.ensures.value) c.reserve.ensures.rows c.reserve.ensures.deltas

pub returns-clause-room : goal.returns-clause-room
returns-clause-room c =
    let places = c.self.invariant in
    let within = c.requires in
    let lt : c.args.session < length c.self.inside.sessions.items = omega (arith, within, places) in
    on_ok_weaker c.reserve.result (λ room. (c.reserve.new.self, set_here c.self.inside.sessions.items c.args.session c.reserve.new.self lt, room)) c.reserve.ensures.room
