use Rattle.std.proofs.Common.{rules, ◌≡◌, T, sym, subst, ap, ◌∙◌}
use Rattle.std.specs.FinMap.{find, get, insert, is_sorted, from_sorted}
use Rattle.table_laws.specs.Place.{Place, place_cmp}
use Rattle.spare_map.specs.Trees.{items, own}
use Rattle.spare_map.proofs.Maps.{is_got, inserted, sorted_with}
use Rattle.spare_map.proofs.map.SpareMap.insert.Goals as goal

pub put_in-requires-clause-new : goal.put_in-requires-clause-new
put_in-requires-clause-new g c =
    let k : Place = (c.args.index, c.args.key) in
    let root : items c.replace-root.result ≡ items c.self.inside.root = ap items c.replace-root.ensures.value in
    let sorted : T (is_sorted place_cmp (items c.replace-root.result)) = subst (λ l. T (is_sorted place_cmp l)) (sym root) c.self.invariant.0 in
    let is : own c.filled.result.value ≡ (k, c.args.value) = c.filled.ensures in
    ap (λ e. find place_cmp e.0 (items c.replace-root.result)) is
    ∙ (sym (is_got (items c.replace-root.result) sorted k)
    ∙ (ap (λ l. get (from_sorted {R = place_cmp} l) k) root ∙ (ap (λ s. get s.entries k) c.self.view_is ∙ c.requires.new)))

pub invariant_of-self : goal.invariant_of-self
invariant_of-self g c =
    let k : Place = (c.args.index, c.args.key) in
    let root : items c.replace-root.result ≡ items c.self.inside.root = ap items c.replace-root.ensures.value in
    let sorted : T (is_sorted place_cmp (items c.replace-root.result)) = subst (λ l. T (is_sorted place_cmp l)) (sym root) c.self.invariant.0 in
    let is : own c.filled.result.value ≡ (k, c.args.value) = c.filled.ensures in (
      subst (λ l. T (is_sorted place_cmp l)) (sym c.put_in.ensures) (sorted_with (items c.replace-root.result) sorted (own c.filled.result.value).0 (own c.filled.result.value).1),
      search rules,
    )

pub returns-clause-entries : goal.returns-clause-entries
returns-clause-entries g c =
    let k : Place = (c.args.index, c.args.key) in
    let root : items c.replace-root.result ≡ items c.self.inside.root = ap items c.replace-root.ensures.value in
    let sorted : T (is_sorted place_cmp (items c.replace-root.result)) = subst (λ l. T (is_sorted place_cmp l)) (sym root) c.self.invariant.0 in
    let is : own c.filled.result.value ≡ (k, c.args.value) = c.filled.ensures in
    ap (λ l. from_sorted l) c.put_in.ensures
    ∙ (inserted (items c.replace-root.result) sorted (own c.filled.result.value).0 (own c.filled.result.value).1
    ∙ (ap (λ e. insert (from_sorted (items c.replace-root.result)) e.0 e.1) is
    ∙ (ap (λ l. insert (from_sorted l) k c.args.value) root ∙ ap (λ s. insert s.entries k c.args.value) c.self.view_is)))
