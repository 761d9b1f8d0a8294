use Rattle.std.proofs.Common.{subst, ◌∙◌}
use Rattle.std.proofs.lemmas.Result.{IfOk-weaker}
use Rattle.iv_meaning.specs.Objects.{schema_of}
use Rattle.image_entries.specs.declared.stored.StoredEntry.{StoredEntry}
use Rattle.image_rows.specs.Rows.{LeastWith}
use Rattle.image_entries.proofs.Gathering.{same_some}
use Rattle.image_rows.proofs.check.with_place.Goals as goal

pub returns : goal.returns
returns c =
    IfOk-weaker c.with_stored.result _ _ (λ found h s e.
    subst (λ (t : StoredEntry). LeastWith (schema_of c.args.catalog.now) (c.args.index, c.args.key.now) t c.args.least found) (same_some c.in-Some.stored.now s (c.in-Some.ensures ∙ e)) h) c.with_stored.ensures
