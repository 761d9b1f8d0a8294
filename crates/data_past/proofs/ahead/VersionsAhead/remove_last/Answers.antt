use Rattle.std.proofs.Common.{◌≡◌, ◌<◌, ◌-◌, List, length, take, sym, ap, arith}
use Rattle.std.proofs.lemmas.Option.{slice_get_read}
use Rattle.iv_types.specs.declared.lock.GroupDelta.{GroupDelta}
use Rattle.version_chain.specs.declared.rows.Version as row
use Rattle.data_past.proofs.Aheads.{set_in, rows_there}
use Rattle.data_past.proofs.ahead.VersionsAhead.remove_last.Goals as goal

pub returns : goal.returns
returns c =
    let had : c.args.session < length c.args.self.now = rows_there c.args.self.now c.args.session c.requires.rows in
    let all : length c.self.inside.sessions.items ≡ length c.args.self.now = ap length c.self.view_is in
    let places = c.self.invariant in
    let lt : c.args.session < 65 = omega (arith, had, all, places) in
    set_in (λ (rs : List row.Version). take (length rs - 1) rs) (λ (ds : List GroupDelta). take (length ds - c.args.owed) ds) c.args.self.now c.self.inside.sessions.items c.self.view_is c.args.session c.index_mut.result.now c.remove_last.new.self (slice_get_read c.self.inside.sessions.items 65 c.args.session c.index_mut.result.now (sym c.self.invariant) lt c.index_mut.ensures.value) c.remove_last.ensures.rows c.remove_last.ensures.deltas
