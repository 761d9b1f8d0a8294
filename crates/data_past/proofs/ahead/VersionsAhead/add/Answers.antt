use Rattle.std.proofs.Common.{◌≡◌, ◌<◌, ◌++◌, ◌∷◌, List, [], length, sym, ap, arith}
use Rattle.std.proofs.lemmas.Option.{slice_get_read, slice_get_within}
use Rattle.iv_types.specs.declared.lock.GroupDelta.{GroupDelta}
use Rattle.version_chain.specs.declared.rows.Version as row
use Rattle.data_past.proofs.Aheads.{set_in}
use Rattle.data_past.proofs.ahead.VersionsAhead.add.Goals as goal

pub returns : goal.returns
returns c =
    let had : c.args.session < length c.args.self.now = slice_get_within c.args.self.now c.args.session c.requires.0 c.requires.1 in
    let all : length c.self.inside.sessions.items ≡ length c.args.self.now = ap length c.self.view_is in
    let places = c.self.invariant in
    let lt : c.args.session < 65 = omega (arith, had, all, places) in
    set_in (λ (rs : List row.Version). rs ++ c.args.version ∷ []) (λ (ds : List GroupDelta). ds ++ c.args.owed.items) c.args.self.now c.self.inside.sessions.items c.self.view_is c.args.session c.index_mut.result.now c.add.new.self (slice_get_read c.self.inside.sessions.items 65 c.args.session c.index_mut.result.now (sym c.self.invariant) lt c.index_mut.ensures.value) c.add.ensures.rows c.add.ensures.deltas
