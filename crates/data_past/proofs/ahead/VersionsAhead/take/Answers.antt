use Rattle.std.proofs.Common.{List, [], sym, ap, ◌∙◌}
use Rattle.std.proofs.lemmas.Option.{slice_get_read}
use Rattle.iv_types.specs.declared.lock.GroupDelta.{GroupDelta}
use Rattle.version_chain.specs.declared.rows.Version as row
use Rattle.data_past.specs.declared.versions.Versions.{Versions}
use Rattle.data_past.proofs.Aheads.{set_in}
use Rattle.data_past.proofs.ahead.VersionsAhead.take.Goals as goal

pub returns-clause-left : goal.returns-clause-left
returns-clause-left c =
    set_in (λ (rs : List row.Version). []) (λ (ds : List GroupDelta). []) c.args.self.now c.self.inside.sessions.items c.self.view_is c.args.session c.index_mut.result.now c.replace.new.dest (slice_get_read c.self.inside.sessions.items 65 c.args.session c.index_mut.result.now (sym c.self.invariant) c.requires c.index_mut.ensures.value)
    (ap (λ (v : Versions). v.rows.items) c.replace.ensures.after ∙ c.new-none.ensures.rows) (ap (λ (v : Versions). v.deltas.items) c.replace.ensures.after ∙ c.new-none.ensures.deltas)
