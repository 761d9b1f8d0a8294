use Rattle.std.proofs.Common.{◌<◌, Option, Some, refl, sym, ap, subst}
use Rattle.std.specs.FinMap.{entries}
use Rattle.table_laws.specs.Place.{Place}
use Rattle.iv_meaning.specs.Objects.{schema_of}
use Rattle.image_entries.proofs.Walks.{place_of}
use Rattle.image_rows.proofs.Walking.{IsTelling, left, telling_begins, telling_goes_on, telling_smaller, telling_done}
use Rattle.image_rows.proofs.check.least_failing.Goals as goal

pub loop-next-init : goal.loop-next-init
loop-next-init c = telling_begins (schema_of c.args.catalog.now) c.args.entries.now.entries (place_of c.first_at-next.result) c.first_at-next.ensures

pub with_place-requires : goal.with_place-requires
with_place-requires c =
    let p : Place = (c.in-Some.index, c.in-Some.key.now) in
    let here : IsTelling (schema_of c.args.catalog.now) c.args.entries.now.entries c.loop-next.least (Some p) =
    subst (IsTelling (schema_of c.args.catalog.now) c.args.entries.now.entries c.loop-next.least) (ap place_of c.in-Some.is) c.loop-next.invariant in
    here.there p refl

pub loop-next-smaller : goal.loop-next-smaller
loop-next-smaller c =
    let m = c.args.entries.now.entries in
    let objects = schema_of c.args.catalog.now in
    let p : Place = (c.in-Some.index, c.in-Some.key.now) in
    let here : IsTelling objects m c.loop-next.least (Some p) = subst (IsTelling objects m c.loop-next.least) (ap place_of c.in-Some.is) c.loop-next.invariant in
    subst (λ (q : Option Place). left (entries m) (place_of c.first_after-next.result) < left (entries m) q) (sym (ap place_of c.in-Some.is))
    (telling_smaller objects m c.loop-next.least p here (place_of c.first_after-next.result) c.first_after-next.ensures)

pub loop-next-preserved : goal.loop-next-preserved
loop-next-preserved c =
    let m = c.args.entries.now.entries in
    let objects = schema_of c.args.catalog.now in
    let p : Place = (c.in-Some.index, c.in-Some.key.now) in
    let here : IsTelling objects m c.loop-next.least (Some p) = subst (IsTelling objects m c.loop-next.least) (ap place_of c.in-Some.is) c.loop-next.invariant in
    telling_goes_on objects m c.loop-next.least p here (place_of c.first_after-next.result) c.first_after-next.ensures c.in_ok-least.least c.in_ok-least.ensures

pub returns : goal.returns
returns c =
    let m = c.args.entries.now.entries in
    let objects = schema_of c.args.catalog.now in
    telling_done objects m c.loop-next.least (subst (IsTelling objects m c.loop-next.least) (ap place_of c.in_default.is) c.loop-next.invariant)
