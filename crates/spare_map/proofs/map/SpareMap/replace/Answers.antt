use Rattle.std.proofs.Common.{◌≡◌, T, IsSome, sym, subst, ap, ◌∙◌}
use Rattle.std.specs.FinMap.{find, get, insert, is_sorted, from_sorted}
use Rattle.table_laws.specs.Place.{Place, place_cmp}
use Rattle.spare_map.specs.Trees.{items}
use Rattle.spare_map.proofs.Maps.{is_got, inserted, sorted_with}
use Rattle.spare_map.proofs.map.SpareMap.replace.Goals as goal

pub swap-requires-clause-held : goal.swap-requires-clause-held
swap-requires-clause-held g c =
    let k : Place = (c.args.index, c.args.key.now) in
    let es = items c.self.inside.root in
    let held : get c.args.self.now.entries k ≡ find place_cmp k es = sym (ap (λ s. get s.entries k) c.self.view_is) ∙ is_got es c.self.invariant.0 k in
    subst IsSome held c.requires.held

pub invariant_of-self : goal.invariant_of-self
invariant_of-self g c =
    let k : Place = (c.args.index, c.args.key.now) in
    let es = items c.self.inside.root in (
      subst (λ l. T (is_sorted place_cmp l)) (sym c.swap.ensures.put) (sorted_with es c.self.invariant.0 k c.args.value),
      c.self.invariant.1,
    )

pub returns-clause-entries : goal.returns-clause-entries
returns-clause-entries g c =
    let k : Place = (c.args.index, c.args.key.now) in
    let es = items c.self.inside.root in
    ap (λ l. from_sorted l) c.swap.ensures.put
    ∙ (inserted es c.self.invariant.0 k c.args.value ∙ ap (λ s. insert s.entries k c.args.value) c.self.view_is)

pub returns-clause-old : goal.returns-clause-old
returns-clause-old g c =
    let k : Place = (c.args.index, c.args.key.now) in
    let es = items c.self.inside.root in
    let held : get c.args.self.now.entries k ≡ find place_cmp k es = sym (ap (λ s. get s.entries k) c.self.view_is) ∙ is_got es c.self.invariant.0 k in
    held ∙ c.swap.ensures.found
