use Rattle.std.proofs.Common.{◌≡◌, Bool, false, Some, sym, ap, ◌∙◌}
use Rattle.std.specs.Option.{option_copied, option_map}
use Rattle.std.specs.FinMap.{entries}
use Rattle.table_laws.specs.Place.{Place}
use Rattle.spare_map.specs.Trees.{items, own, first_where, is_from}
use Rattle.spare_map.proofs.Maps.{listed}
use Rattle.spare_map.proofs.map.SpareMap.first_at.Goals as goal

pub returns-in-Some : goal.returns-in-Some
returns-in-Some g c =
    let test : Place → Bool = is_from false (c.args.index, c.args.key.now) in
    let held : items c.self.inside.root ≡ entries c.args.self.now.entries = sym (listed (items c.self.inside.root) c.self.invariant.0) ∙ ap (λ s. entries s.entries) c.self.view_is in
    let found : option_map own (option_copied c.first.result) ≡ first_where test (entries c.args.self.now.entries) = c.first.ensures ∙ ap (first_where test) held in
    ap Some c.place_of.ensures ∙ (ap (λ o. option_map (λ e. e.0) (option_map own (option_copied o))) (sym c.in-Some.is) ∙ ap (option_map (λ e. e.0)) found)

pub returns-in-None : goal.returns-in-None
returns-in-None g c =
    let test : Place → Bool = is_from false (c.args.index, c.args.key.now) in
    let held : items c.self.inside.root ≡ entries c.args.self.now.entries = sym (listed (items c.self.inside.root) c.self.invariant.0) ∙ ap (λ s. entries s.entries) c.self.view_is in
    let found : option_map own (option_copied c.first.result) ≡ first_where test (entries c.args.self.now.entries) = c.first.ensures ∙ ap (first_where test) held in
    ap (λ o. option_map (λ e. e.0) (option_map own (option_copied o))) (sym c.in-None.is) ∙ ap (option_map (λ e. e.0)) found
