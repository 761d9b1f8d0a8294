use Rattle.std.proofs.Common.{rules, pos, ◌≡◌, ℕ, true, false, not, Some, sym, ap, ◌∙◌}
use Rattle.std.specs.Option.{option_copied, option_map}
use Rattle.table_laws.specs.Place.{Place}
use Rattle.version_chain.specs.Trees.{items, own}
use Rattle.version_chain.specs.Chains.{is_of, none_above}
use Rattle.version_chain.specs.Deltas.{due}
use Rattle.version_chain.proofs.Dues.{none_by_first, is_none, due_of_nothing, less_nothing}
use Rattle.std.proofs.lemmas.Result.{IfOk-weaker}
use Rattle.ghost_rows.specs.Numbers.{numbers_bytes}
use Rattle.version_chain.proofs.deltas.Chains+Delta.at.Goals as goal
use Rattle.version_chain.proofs.deltas.Chains+Delta.at.Goals.{in_default-first-via-in-Some-first+else-is_of, in_default-first-via-in_default-first}

pub returns-in_ok-row-in-Some-first-clause-same : goal.returns-in_ok-row-in-Some-first-clause-same
returns-in_ok-row-in-Some-first-clause-same c = λ none.
    let p : Place = (c.args.view, c.args.group.now) in
    let n = c.args.number in
    let v = own c.in-Some-first.node.now in
    let found : is_none p (option_map own (option_copied c.first.result)) ≡ none_above n p c.args.self.now.versions =
    ap (is_none p) c.first.ensures
    ∙ (sym (none_by_first n p (items c.tree-tree.result.now) c.tree-tree.ensures.sorted) ∙ ap (none_above n p) c.tree-tree.ensures.versions) in
    let here : not (is_of p v) ≡ true = ap (λ o. is_none p (option_map own (option_copied o))) (sym c.in-Some-first.is) ∙ (found ∙ none) in
    let of : is_of p v ≡ true = sym c.is_of.ensures ∙ c.if-is_of.true in
    let bad : false ≡ true = sym (ap not of) ∙ here in
    absurd (cc bad)

pub returns-in_default-first-clause-row : goal.returns-in_default-first-clause-row
returns-in_default-first-clause-row c =
    let p : Place = (c.args.view, c.args.group.now) in
    let n = c.args.number in
    let found : is_none p (option_map own (option_copied c.first.result)) ≡ none_above n p c.args.self.now.versions =
    ap (is_none p) c.first.ensures
    ∙ (sym (none_by_first n p (items c.tree-tree.result.now) c.tree-tree.ensures.sorted) ∙ ap (none_above n p) c.tree-tree.ensures.versions) in
    let none : is_none p (option_map own (option_copied c.first.result)) ≡ true =
    elim c.in_default-first.branch [
      | in_default-first-via-in-Some-first+else-is_of w ↦
          let other : is_of p (own w.in-Some-first.node.now) ≡ false = sym w.is_of.ensures ∙ w.if-is_of.false in
          ap (λ o. is_none p (option_map own (option_copied o))) w.in-Some-first.is ∙ ap not other
      | in_default-first-via-in_default-first w ↦ search rules
    ] in
    let zero : (column : ℕ) → due n p column c.args.self.now.versions ≡ pos 0 = λ column. due_of_nothing n p column c.args.self.now.versions (sym found ∙ none) in
    let now : Some c.in-Some.stored.now ≡ option_copied c.args.now = search rules in
    IfOk-weaker c.copied_row.result _ _ (λ row same numbers fits move is.
    same ∙ (now ∙ (is ∙ ap (λ ns. Some (numbers_bytes ns)) (sym (less_nothing (λ column. due n p column c.args.self.now.versions) 0 numbers zero))))) c.copied_row.ensures
