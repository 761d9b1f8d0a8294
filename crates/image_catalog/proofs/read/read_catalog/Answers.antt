use Rattle.iv_meaning.specs.Objects.{schema_of}
use Rattle.image_entries.specs.Parts.{parts_found}
use Rattle.image_entries.proofs.Taking.{told_so}
use Rattle.image_catalog.proofs.Telling.{text_refused, texts_pass}
use Rattle.image_catalog.proofs.read.read_catalog.Goals as goal

pub returns-in-Ok-clause-passes : goal.returns-in-Ok-clause-passes
returns-in-Ok-clause-passes c = λ s image entries has gathers are stands.
    texts_pass (parts_found c.args.parts.now) c.requires.keys c.requires.sizes s image entries has gathers are stands (schema_of c.take_texts.new.catalog) c.in-Ok.ensures.made

pub returns-in-Err-clause-rule : goal.returns-in-Err-clause-rule
returns-in-Err-clause-rule c = λ s image entries has gathers are stands.
    told_so c.in-Err.fault _ _ (λ bad tells. text_refused (parts_found c.args.parts.now) c.requires.keys c.requires.sizes s image entries has gathers are stands bad tells) c.in-Err.ensures.refused
