use Rattle.std.proofs.Common.{Some, None, refl, subst}
use Rattle.iv_meaning.specs.Objects.{schema_of}
use Rattle.image_entries.specs.Entries.{held_of}
use Rattle.image_rows.specs.Rows.{AreTold}
use Rattle.image_rows.proofs.Rising.{entries_fail, entries_stand}
use Rattle.image_rows.proofs.check.check_rows.Goals as goal

pub returns-in-Ok-None-clause-passes : goal.returns-in-Ok-None-clause-passes
returns-in-Ok-None-clause-passes c = λ s image has gathers creates stands.
    let m = c.args.entries.now.entries in
    let objects = schema_of c.args.catalog.now in
    let all : AreTold objects m None = subst (AreTold objects m) c.in-Ok-None.field-0-is c.in-Ok-None.ensures in
    entries_stand s image has m gathers objects creates stands (λ f here. all f.entry.0 (held_of f) (gathers.has.held f here))

pub returns-in-Ok-Some-clause-rule : goal.returns-in-Ok-Some-clause-rule
returns-in-Ok-Some-clause-rule c = λ s image has gathers creates stands.
    let m = c.args.entries.now.entries in
    let objects = schema_of c.args.catalog.now in
    let least : AreTold objects m (Some c.in-Ok-Some.place) = subst (AreTold objects m) c.in-Ok-Some.field-0-is c.in-Ok-Some.ensures in
    entries_fail s image has m gathers objects creates stands (record { rule = 12; place = c.in-Ok-Some.place }) (record { rule = refl; least = least })
