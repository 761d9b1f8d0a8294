use Rattle.std.proofs.Common.{[], refl, ap, arith}
use Rattle.iv_meaning.specs.Objects.{schema_of}
use Rattle.image_entries.specs.Parts.{parts_found}
use Rattle.image_entries.proofs.Taking.{told_so}
use Rattle.image_catalog.proofs.Telling.{begins_first, read_next, told}
use Rattle.image_catalog.proofs.read.take_texts.Goals as goal

pub loop-at-init : goal.loop-at-init
loop-at-init c = (
  record { done = []; texts = refl; make = ap schema_of c.requires.empty; begins = begins_first (parts_found c.args.parts.now) c.requires.keys },
  omega arith,
)

pub loop-at-preserved : goal.loop-at-preserved
loop-at-preserved c = (
  read_next (parts_found c.args.parts.now) c.loop-at.at (schema_of c.loop-at.catalog) c.loop-at.invariant.0 c.in-Ok.end (schema_of c.take_text.new.catalog) c.in-Ok.ensures.taken,
  c.in-Ok.ensures.within,
)

pub returns-in-Err-clause-refused : goal.returns-in-Err-clause-refused
returns-in-Err-clause-refused c =
    told_so c.in-Err.fault _ _ (λ bad refuses. told (parts_found c.args.parts.now) c.loop-at.at (schema_of c.loop-at.catalog) c.loop-at.invariant.0 bad refuses) c.in-Err.ensures.refused
