use Rattle.std.proofs.Common.{List, [], sym}
use Rattle.std.proofs.lemmas.Option.{slice_get_read}
use Rattle.iv_types.specs.declared.lock.GroupDelta.{GroupDelta}
use Rattle.version_chain.specs.declared.rows.Version as row
use Rattle.data_past.proofs.Aheads.{set_in}
use Rattle.data_past.proofs.ahead.VersionsAhead.clear.Goals as goal

pub returns : goal.returns
returns c = set_in (λ (rs : List row.Version). []) (λ (ds : List GroupDelta). []) c.args.self.now c.self.inside.sessions.items c.self.view_is c.args.session c.index_mut.result.now c.new.result (slice_get_read c.self.inside.sessions.items 65 c.args.session c.index_mut.result.now (sym c.self.invariant) c.requires c.index_mut.ensures.value) c.new.ensures.rows c.new.ensures.deltas
