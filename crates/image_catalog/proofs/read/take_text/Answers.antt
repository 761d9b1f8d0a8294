use Rattle.std.proofs.Common.{Bool, refl, subst}
use Rattle.iv_meaning.specs.Objects.{schema_of}
use Rattle.image_entries.specs.Parts.{parts_found}
use Rattle.image_catalog.specs.Texts.{texts_from, MakesNone, MakesIf}
use Rattle.image_catalog.proofs.read.take_text.Goals as goal

pub returns-in-Ok-false-clause-refused : goal.returns-in-Ok-false-clause-refused
returns-in-Ok-false-clause-refused c =
    let objects = schema_of c.args.catalog.now in
    let none : MakesNone objects c.deref.result.now = subst (λ (b : Bool). MakesIf objects c.deref.result.now (schema_of c.define.new.catalog) b) c.in-Ok-false.field-0-test c.in-Ok-false.ensures in
    record {
      text = (c.in-Ok.text.page, c.in-Ok.text.bytes.items);
      later = texts_from c.in-Ok.text.end (parts_found c.args.parts.now);
      texts = c.in-Ok.ensures.text.texts;
      makes = subst (MakesNone objects) c.deref.ensures.value none;
      rule = refl;
      place = refl;
    }
