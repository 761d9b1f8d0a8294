use Rattle.std.proofs.Common.{rules, ◌≡◌, T, sym, subst, ap, ◌∙◌}
use Rattle.std.specs.FinMap.{find, get, remove, is_sorted, from_sorted}
use Rattle.table_laws.specs.Place.{Place, place_cmp}
use Rattle.spare_map.specs.Trees.{items}
use Rattle.spare_map.proofs.Maps.{is_got, removed, sorted_without}
use Rattle.spare_map.proofs.map.SpareMap.remove.Goals as goal
use Rattle.spare_map.proofs.map.SpareMap.remove.Goals.{then-self-lt18446744073709551615, else-self-lt18446744073709551615}

pub invariant_of-self : goal.invariant_of-self
invariant_of-self g c =
    let k : Place = (c.args.index, c.args.key.now) in
    let root : items c.replace-root.result ≡ items c.self.inside.root = ap items c.replace-root.ensures.value in
    let sorted : T (is_sorted place_cmp (items c.replace-root.result)) = subst (λ l. T (is_sorted place_cmp l)) (sym root) c.self.invariant.0 in (
      subst (λ l. T (is_sorted place_cmp l)) (sym c.take_out-root.ensures.rest) (sorted_without (items c.replace-root.result) sorted k),
      search rules,
    )

pub invariant_of-self-then-self-lt18446744073709551615 : goal.invariant_of-self-then-self-lt18446744073709551615
invariant_of-self-then-self-lt18446744073709551615 g c =
    let k : Place = (c.args.index, c.args.key.now) in
    let root : items c.replace-root.result ≡ items c.self.inside.root = ap items c.replace-root.ensures.value in
    let sorted : T (is_sorted place_cmp (items c.replace-root.result)) = subst (λ l. T (is_sorted place_cmp l)) (sym root) c.self.invariant.0 in (
      subst (λ l. T (is_sorted place_cmp l)) (sym c.take_out-root.ensures.rest) (sorted_without (items c.replace-root.result) sorted k),
      search rules,
    )

pub invariant_of-self-else-self-lt18446744073709551615 : goal.invariant_of-self-else-self-lt18446744073709551615
invariant_of-self-else-self-lt18446744073709551615 g c =
    let k : Place = (c.args.index, c.args.key.now) in
    let root : items c.replace-root.result ≡ items c.self.inside.root = ap items c.replace-root.ensures.value in
    let sorted : T (is_sorted place_cmp (items c.replace-root.result)) = subst (λ l. T (is_sorted place_cmp l)) (sym root) c.self.invariant.0 in (
      subst (λ l. T (is_sorted place_cmp l)) (sym c.take_out-root.ensures.rest) (sorted_without (items c.replace-root.result) sorted k),
      search rules,
    )

pub returns-in_err-node-clause-entries : goal.returns-in_err-node-clause-entries
returns-in_err-node-clause-entries g c =
    let k : Place = (c.args.index, c.args.key.now) in
    let root : items c.replace-root.result ≡ items c.self.inside.root = ap items c.replace-root.ensures.value in
    let sorted : T (is_sorted place_cmp (items c.replace-root.result)) = subst (λ l. T (is_sorted place_cmp l)) (sym root) c.self.invariant.0 in
    ap (λ l. from_sorted l) c.take_out-root.ensures.rest ∙ (removed (items c.replace-root.result) sorted k ∙ (ap (λ l. remove (from_sorted l) k) root ∙ ap (λ s. remove s.entries k) c.self.view_is))

pub returns-in_err-node-clause-taken : goal.returns-in_err-node-clause-taken
returns-in_err-node-clause-taken g c =
    let k : Place = (c.args.index, c.args.key.now) in
    let root : items c.replace-root.result ≡ items c.self.inside.root = ap items c.replace-root.ensures.value in
    let sorted : T (is_sorted place_cmp (items c.replace-root.result)) = subst (λ l. T (is_sorted place_cmp l)) (sym root) c.self.invariant.0 in
    let found : get c.args.self.now.entries k ≡ find place_cmp k (items c.replace-root.result) =
    sym (ap (λ s. get s.entries k) c.self.view_is) ∙ (sym (ap (λ l. get (from_sorted {R = place_cmp} l) k) root) ∙ is_got (items c.replace-root.result) sorted k) in
    search (rules, found)

pub returns-clause-taken : goal.returns-clause-taken
returns-clause-taken g c =
    let k : Place = (c.args.index, c.args.key.now) in
    let root : items c.replace-root.result ≡ items c.self.inside.root = ap items c.replace-root.ensures.value in
    let sorted : T (is_sorted place_cmp (items c.replace-root.result)) = subst (λ l. T (is_sorted place_cmp l)) (sym root) c.self.invariant.0 in
    let found : get c.args.self.now.entries k ≡ find place_cmp k (items c.replace-root.result) =
    sym (ap (λ s. get s.entries k) c.self.view_is) ∙ (sym (ap (λ l. get (from_sorted {R = place_cmp} l) k) root) ∙ is_got (items c.replace-root.result) sorted k) in
    search (rules, found)

pub returns-clause-entries : goal.returns-clause-entries
returns-clause-entries g c =
    let k : Place = (c.args.index, c.args.key.now) in
    let root : items c.replace-root.result ≡ items c.self.inside.root = ap items c.replace-root.ensures.value in
    let sorted : T (is_sorted place_cmp (items c.replace-root.result)) = subst (λ l. T (is_sorted place_cmp l)) (sym root) c.self.invariant.0 in
    let all : from_sorted (items c.take_out-root.result.0) ≡ remove c.args.self.now.entries k =
    ap (λ l. from_sorted l) c.take_out-root.ensures.rest ∙ (removed (items c.replace-root.result) sorted k ∙ (ap (λ l. remove (from_sorted l) k) root ∙ ap (λ s. remove s.entries k) c.self.view_is)) in
    elim c.if-self-lt18446744073709551615.branch [
      | then-self-lt18446744073709551615 w ↦ ap (λ s. s.entries) w.self-is ∙ all
      | else-self-lt18446744073709551615 w ↦ ap (λ s. s.entries) w.self-is ∙ all
    ]
