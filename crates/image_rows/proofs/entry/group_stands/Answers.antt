use Rattle.std.proofs.Common.{ℕ, Option, refl, subst}
use Rattle.std.specs.Prelude.{IfSome, IfNone}
use Rattle.iv_meaning.specs.Objects.{schema_of}
use Rattle.txn_log.specs.Fitting.{IsGroup}
use Rattle.record_reading.specs.Groups.{IsGroupOf}
use Rattle.image_rows.proofs.Entries.{numbers_entry}
use Rattle.image_rows.proofs.NumberBytes.{never}
use Rattle.image_rows.proofs.entry.group_stands.Goals as goal

pub returns-in-Some : goal.returns-in-Some
returns-in-Some c =
    let objects = schema_of c.args.catalog.now in
    let group = subst (λ (o : Option ℕ). IfSome o (IsGroupOf objects (c.args.view, c.args.key.now))) c.in-Some.is c.in_ok-sums.ensures.some in
    numbers_entry objects c.args.view c.args.key.now c.args.value.now c.are_numbers.result c.in-Some.sums group c.are_numbers.ensures

pub returns-in-None : goal.returns-in-None
returns-in-None c =
    let objects = schema_of c.args.catalog.now in
    let nothing = subst (λ (o : Option ℕ). IfNone o (IsGroup objects (c.args.view, c.args.key.now) → ⊥)) c.in-None.is c.in_ok-sums.ensures.none in
    never _ refl (λ h. nothing h.group)
