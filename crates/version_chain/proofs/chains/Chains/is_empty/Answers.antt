use Rattle.std.proofs.Common.{not, sym, ap, ◌∙◌}
use Rattle.std.specs.Option.{option_copied, option_map}
use Rattle.table_laws.specs.Place.{Place}
use Rattle.version_chain.specs.Trees.{items, own}
use Rattle.version_chain.specs.Chains.{is_empty}
use Rattle.version_chain.proofs.Found.{is_empty_by_first, is_other}
use Rattle.version_chain.proofs.chains.Chains.is_empty.Goals as goal

pub returns-in-Some : goal.returns-in-Some
returns-in-Some g c =
    let p : Place = (c.args.index, c.args.key.now) in
    ap not c.is_of.ensures
    ∙ (ap (λ o. is_other p (option_map own (option_copied o))) (sym c.in-Some.is)
    ∙ (ap (is_other p) c.first.ensures
    ∙ (sym (is_empty_by_first p (items c.self.inside.root) c.self.invariant.0) ∙ ap (λ s. is_empty p s.versions) c.self.view_is)))

pub returns-in-None : goal.returns-in-None
returns-in-None g c =
    let p : Place = (c.args.index, c.args.key.now) in
    ap (λ o. is_other p (option_map own (option_copied o))) (sym c.in-None.is)
    ∙ (ap (is_other p) c.first.ensures
    ∙ (sym (is_empty_by_first p (items c.self.inside.root) c.self.invariant.0) ∙ ap (λ s. is_empty p s.versions) c.self.view_is))
