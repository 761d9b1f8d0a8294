use Rattle.std.proofs.Common.{rules, ◌≡◌, ℕ, List, false, Some, None, sym, ap, subst, ◌∙◌}
use Rattle.std.specs.Option.{option_copied, option_map}
use Rattle.version_chain.specs.Versions.{first_where, is_from, place}
use Rattle.version_chain.specs.Trees.{items, own}
use Rattle.version_chain.specs.Chains.{IsLeastFrom}
use Rattle.version_chain.proofs.Found.{least_is, least_none, least_other}
use Rattle.version_chain.proofs.chains.Chains.first_from.Goals as goal
use Rattle.version_chain.proofs.chains.Chains.first_from.Goals.{in_default-via-in-Some+else-node-index, in_default-via-in_default}

pub returns-in-Some : goal.returns-in-Some
returns-in-Some g c =
    let i : ℕ = c.args.index in
    let key : List ℕ = c.args.key.now in
    let vs = items c.self.inside.root in
    let v = own c.in-Some.node.now in
    let found : first_where (is_from false ((i, key), 0)) vs ≡ Some v = sym c.first.ensures ∙ ap (λ o. option_map own (option_copied o)) c.in-Some.is in
    let same : (place v).0 ≡ i = search rules in
    let least : IsLeastFrom i key vs (Some (place v).1) = least_is i key vs c.self.invariant.0 v found same in
    let at : (place v).1 ≡ c.as_slice.result.now = search rules in
    subst (λ k. IsLeastFrom i key c.args.self.now.versions (Some k)) at (subst (λ s. IsLeastFrom i key s.versions (Some (place v).1)) c.self.view_is least)

pub returns-in_default : goal.returns-in_default
returns-in_default g c =
    let i : ℕ = c.args.index in
    let key : List ℕ = c.args.key.now in
    let vs = items c.self.inside.root in
    elim c.in_default.branch [
      | in_default-via-in-Some+else-node-index w ↦
          let v = own w.in-Some.node.now in
          let found : first_where (is_from false ((i, key), 0)) vs ≡ Some v = sym c.first.ensures ∙ ap (λ o. option_map own (option_copied o)) w.in-Some.is in
          let other : (place v).0 ≡ i → ⊥ = search rules in
          subst (λ s. IsLeastFrom i key s.versions None) c.self.view_is (least_other i key vs c.self.invariant.0 v found other)
      | in_default-via-in_default w ↦
          let found : first_where (is_from false ((i, key), 0)) vs ≡ None = search rules in
          subst (λ s. IsLeastFrom i key s.versions None) c.self.view_is (least_none i key vs c.self.invariant.0 found)
    ]
