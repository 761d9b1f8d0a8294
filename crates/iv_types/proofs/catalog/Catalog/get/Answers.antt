use Rattle.std.proofs.Common.{◌-◌, None, Some, sym, ap, ◌∙◌, arith}
use Rattle.iv_types.specs.Definitions.{numbered}
use Rattle.iv_types.proofs.Catalogs.{from_entry, kept_number}
use Rattle.iv_types.proofs.catalog.Catalog.get.Goals as goal

-- src/catalog.rt:127:5
pub returns-in-Some-clause-value : goal.returns-in-Some-clause-value
returns-in-Some-clause-value c =
    sym (sym (ap (λ v. numbered v c.args.number) c.self.view_is)
    ∙ from_entry c.args.number c.self.inside.named.entries (Some (c.in-Some.field-0-0.now, c.in-Some.definition.now)) (omega arith) c.in-Some.ensures.entry)

-- src/catalog.rt:127:5
pub returns-in-Some-clause-number : goal.returns-in-Some-clause-number
returns-in-Some-clause-number c =
    kept_number 0 (c.args.number - 1) c.self.inside.named.entries c.in-Some.field-0-0.now c.in-Some.definition.now c.self.invariant.0 (sym c.in-Some.ensures.entry)
    ∙ omega arith

-- src/catalog.rt:127:5
pub returns-in-None-clause-value : goal.returns-in-None-clause-value
returns-in-None-clause-value c =
    sym (sym (ap (λ v. numbered v c.args.number) c.self.view_is)
    ∙ from_entry c.args.number c.self.inside.named.entries None (omega arith) c.in-None.ensures.entry)
