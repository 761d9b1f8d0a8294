use Rattle.std.proofs.Common.{◌≡◌, ◌<◌, List, length, Option, Some, IsSome, true, refl, sym, ◌∙◌, ap, subst}
use Rattle.std.specs.FinMap.{get, entries}
use Rattle.table_laws.specs.Place.{Place}
use Rattle.spare_map.specs.Trees.{is_from}
use Rattle.image_entries.specs.declared.parts.Part.{Part}
use Rattle.image_entries.specs.Parts.{IsPartAt}
use Rattle.image_entries.proofs.Walks.{IsTaking, todo, place_of, first_place, taking_begins, taking_ends_at, taking_smaller, taking_goes_on, taking_done, held_there}
use Rattle.image_entries.proofs.parts.definition_parts.Goals as goal

pub loop-next-init : goal.loop-next-init
loop-next-init c =
    let m = c.args.entries.now.entries in
    subst (λ (ps : List Part). IsTaking m ps (place_of c.first_at-next.result)) (sym c.new-parts.ensures.items) (taking_begins m (place_of c.first_at-next.result) c.first_at-next.ensures)

pub returns-then-index-ne0-clause-parts : goal.returns-then-index-ne0-clause-parts
returns-then-index-ne0-clause-parts c =
    let m = c.args.entries.now.entries in
    let p : Place = (c.in-Some.index, c.in-Some.key.now) in
    let here : IsTaking m c.loop-next.parts.items (Some p) = subst (IsTaking m c.loop-next.parts.items) (ap place_of c.in-Some.is) c.loop-next.invariant in
    taking_ends_at m c.loop-next.parts.items p here c.in-Some.index refl c.if-index-ne0.true

pub part_at-requires : goal.part_at-requires
part_at-requires c =
    let m = c.args.entries.now.entries in
    let p : Place = (c.in-Some.index, c.in-Some.key.now) in
    let here : IsTaking m c.loop-next.parts.items (Some p) = subst (IsTaking m c.loop-next.parts.items) (ap place_of c.in-Some.is) c.loop-next.invariant in
    subst IsSome (sym (ap (λ n. get m (n, c.in-Some.key.now)) (sym c.if-index-ne0.false) ∙ held_there m c.loop-next.parts.items p here)) refl

pub loop-next-smaller : goal.loop-next-smaller
loop-next-smaller c =
    let m = c.args.entries.now.entries in
    let p : Place = (c.in-Some.index, c.in-Some.key.now) in
    let here : IsTaking m c.loop-next.parts.items (Some p) = subst (IsTaking m c.loop-next.parts.items) (ap place_of c.in-Some.is) c.loop-next.invariant in
    let found : place_of c.first_after-next.result ≡ first_place (is_from true p) (entries m) =
    c.first_after-next.ensures ∙ ap (λ n. first_place (is_from true (n, c.in-Some.key.now)) (entries m)) (sym c.if-index-ne0.false) in
    subst (λ (q : Option Place). length (todo (entries m) (place_of c.first_after-next.result)) < length (todo (entries m) q)) (sym (ap place_of c.in-Some.is)) (taking_smaller m c.loop-next.parts.items p here (place_of c.first_after-next.result) found)

pub loop-next-preserved : goal.loop-next-preserved
loop-next-preserved c =
    let m = c.args.entries.now.entries in
    let p : Place = (c.in-Some.index, c.in-Some.key.now) in
    let here : IsTaking m c.loop-next.parts.items (Some p) = subst (IsTaking m c.loop-next.parts.items) (ap place_of c.in-Some.is) c.loop-next.invariant in
    let found : place_of c.first_after-next.result ≡ first_place (is_from true p) (entries m) =
    c.first_after-next.ensures ∙ ap (λ n. first_place (is_from true (n, c.in-Some.key.now)) (entries m)) (sym c.if-index-ne0.false) in
    subst (λ (ps : List Part). IsTaking m ps (place_of c.first_after-next.result)) (sym c.in_ok-push.ensures.items)
    (taking_goes_on m c.loop-next.parts.items p here (place_of c.first_after-next.result) found c.in_ok-part_at.field-0 c.if-index-ne0.false
    (subst (λ n. IsPartAt (get m (n, c.in-Some.key.now)) c.in-Some.key.now c.in_ok-part_at.field-0) (sym c.if-index-ne0.false) c.in_ok-part_at.ensures.part))

pub returns-clause-parts : goal.returns-clause-parts
returns-clause-parts c =
    let m = c.args.entries.now.entries in
    taking_done m c.loop-next.parts.items (subst (IsTaking m c.loop-next.parts.items) (ap place_of c.in_default.is) c.loop-next.invariant)
