use Rattle.std.proofs.Common.{◌≡◌, ◌<◌, ℕ, List, Option, Some, None, Bor, option_map, sym, ap, subst, ◌∙◌}
use Rattle.std.specs.FinMap.{get, remove, len}
use Rattle.table_laws.specs.Place.{Place}
use Rattle.image_store.specs.Filled.{Entries, IsFilling}
use Rattle.image_store.proofs.Taking.{first_there, none_there, fewer_left, filling_goes_on}
use Rattle.image_store.proofs.fill.take_first.Goals as goal

abbrev place_of : Option (ℕ × Bor (List ℕ)) → Option Place
place_of found = option_map (λ p. (p.0, p.1.now)) found

pub returns-in_default-clause-end : goal.returns-in_default-clause-end
returns-in_default-clause-end g c = λ none. none_there c.args.left.now.entries (sym c.first_at.ensures ∙ ap place_of c.in_default.is)

pub take_entry-requires-clause-stands : goal.take_entry-requires-clause-stands
take_entry-requires-clause-stands g c κs within =
    c.requires.stand (c.in-Some.index, c.from_vec-key.result) c.in-Some-take.entry
    (ap (λ (k : List ℕ). get c.args.left.now.entries (c.in-Some.index, k)) (sym c.as_slice.ensures) ∙ (sym c.take.ensures.taken ∙ c.in-Some-take.is))

pub take_entry-requires-clause-new : goal.take_entry-requires-clause-new
take_entry-requires-clause-new g c κs within =
    let f = c.requires.filling.1 in (
      f.done,
      f.filled,
      f.apart (c.in-Some.index, c.from_vec-key.result) c.in-Some-take.entry
          (ap (λ (k : List ℕ). get c.args.left.now.entries (c.in-Some.index, k)) (sym c.as_slice.ensures) ∙ (sym c.take.ensures.taken ∙ c.in-Some-take.is)),
    )

pub unreachable-requires : goal.unreachable-requires
unreachable-requires g c =
    let left = c.args.left.now.entries in
    let here = first_there left (c.in-Some.index, c.in-Some.key.now) (sym c.first_at.ensures ∙ ap place_of c.in-Some.is) in
    let key : c.as_slice.result.now ≡ c.in-Some.key.now = c.as_slice.ensures ∙ (c.from_vec-key.ensures ∙ c.in_ok-from_slice.ensures.items) in
    let wrong : None ≡ Some here.0 = sym c.in-None.is ∙ (c.take.ensures.taken ∙ (ap (λ (k : List ℕ). get left (c.in-Some.index, k)) key ∙ here.1)) in
    absurd (cc wrong)

pub returns-clause-filling : goal.returns-clause-filling
returns-clause-filling g c = λ all f.
    let left = c.args.left.now.entries in
    let store = c.args.store.now in
    let new = c.take_entry.new.store in
    let place : Place = (c.in-Some.index, c.from_vec-key.result) in
    let there = ap (λ (k : List ℕ). get left (c.in-Some.index, k)) (sym c.as_slice.ensures) ∙ (sym c.take.ensures.taken ∙ c.in-Some-take.is) in
    let gone : c.take.new.self.entries ≡ remove left place = c.take.ensures.entries ∙ ap (λ (k : List ℕ). remove left (c.in-Some.index, k)) c.as_slice.ensures in
    subst (λ (m : Entries). IsFilling all m new.catalog (g.M.SortedMaps.maps new.tables) new.views) (sym gone)
    (filling_goes_on all left store.catalog new.catalog (g.M.SortedMaps.maps store.tables) (g.M.SortedMaps.maps new.tables) store.views new.views place c.in-Some-take.entry f there
    (c.in_ok-take_entry-in-Some-take.ensures.filled f.done f.filled (f.apart place c.in-Some-take.entry there)))

pub returns-clause-more : goal.returns-clause-more
returns-clause-more g c = λ more.
    let left = c.args.left.now.entries in
    let place : Place = (c.in-Some.index, c.from_vec-key.result) in
    let there = ap (λ (k : List ℕ). get left (c.in-Some.index, k)) (sym c.as_slice.ensures) ∙ (sym c.take.ensures.taken ∙ c.in-Some-take.is) in
    let gone : c.take.new.self.entries ≡ remove left place = c.take.ensures.entries ∙ ap (λ (k : List ℕ). remove left (c.in-Some.index, k)) c.as_slice.ensures in
    subst (λ (m : Entries). len m < len left) (sym gone) (fewer_left left place c.in-Some-take.entry there)
