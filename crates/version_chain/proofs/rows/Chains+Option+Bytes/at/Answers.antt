use Rattle.std.proofs.Common.{rules, ◌≡◌, ℕ, List, Option, true, false, cond, Some, None, IfOk, sym, ap, subst, ◌∙◌}
use Rattle.std.specs.Option.{option_copied, option_map}
use Rattle.table_laws.specs.Place.{Place}
use Rattle.version_chain.specs.Trees.{items, own}
use Rattle.version_chain.specs.Chains.{is_of, row_at}
use Rattle.version_chain.proofs.Found.{row_by_first, told}
use Rattle.version_chain.proofs.rows.Chains+Option+Bytes.at.Goals as goal
use Rattle.version_chain.proofs.rows.Chains+Option+Bytes.at.Goals.{in_default-via-in-Some+else-is_of, in_default-via-in_default}

pub returns-in-Some-held : goal.returns-in-Some-held
returns-in-Some-held c =
    let p : Place = (c.args.index, c.args.key.now) in
    let now : Option (List ℕ) = option_copied c.args.now in
    let n = c.args.number in
    let v = own c.in-Some.node.now in
    let found : told p now (option_map own (option_copied c.first.result)) ≡ row_at n p now c.args.self.now.versions =
    ap (told p now) c.first.ensures
    ∙ (sym (row_by_first n p now (items c.tree.result.now) c.tree.ensures.sorted) ∙ ap (row_at n p now) c.tree.ensures.versions) in
    let here : cond (is_of p v) v.1 now ≡ row_at n p now c.args.self.now.versions = ap (λ o. told p now (option_map own (option_copied o))) (sym c.in-Some.is) ∙ found in
    let of : is_of p v ≡ true = sym c.is_of.ensures ∙ c.if-is_of.true in
    let is : v.1 ≡ row_at n p now c.args.self.now.versions = sym (ap (λ b. cond b v.1 now) of) ∙ here in
    let before : Some c.as_slice.result.now ≡ v.1 = search rules in
    subst (λ row. IfOk c.copied_row.result (λ r. r ≡ row)) (before ∙ is) c.copied_row.ensures

pub returns-in-None : goal.returns-in-None
returns-in-None c =
    let p : Place = (c.args.index, c.args.key.now) in
    let now : Option (List ℕ) = option_copied c.args.now in
    let n = c.args.number in
    let v = own c.in-Some.node.now in
    let found : told p now (option_map own (option_copied c.first.result)) ≡ row_at n p now c.args.self.now.versions =
    ap (told p now) c.first.ensures
    ∙ (sym (row_by_first n p now (items c.tree.result.now) c.tree.ensures.sorted) ∙ ap (row_at n p now) c.tree.ensures.versions) in
    let here : cond (is_of p v) v.1 now ≡ row_at n p now c.args.self.now.versions = ap (λ o. told p now (option_map own (option_copied o))) (sym c.in-Some.is) ∙ found in
    let of : is_of p v ≡ true = sym c.is_of.ensures ∙ c.if-is_of.true in
    let is : v.1 ≡ row_at n p now c.args.self.now.versions = sym (ap (λ b. cond b v.1 now) of) ∙ here in
    let none : v.1 ≡ None = search rules in
    sym none ∙ is

pub returns-in_default : goal.returns-in_default
returns-in_default c =
    let p : Place = (c.args.index, c.args.key.now) in
    let now : Option (List ℕ) = option_copied c.args.now in
    let n = c.args.number in
    let found : told p now (option_map own (option_copied c.first.result)) ≡ row_at n p now c.args.self.now.versions =
    ap (told p now) c.first.ensures
    ∙ (sym (row_by_first n p now (items c.tree.result.now) c.tree.ensures.sorted) ∙ ap (row_at n p now) c.tree.ensures.versions) in
    let as_now : now ≡ told p now (option_map own (option_copied c.first.result)) =
    elim c.in_default.branch [
      | in_default-via-in-Some+else-is_of w ↦
          let of : is_of p (own w.in-Some.node.now) ≡ false = sym w.is_of.ensures ∙ w.if-is_of.false in
          sym (ap (λ o. told p now (option_map own (option_copied o))) w.in-Some.is ∙ ap (λ b. cond b (own w.in-Some.node.now).1 now) of)
      | in_default-via-in_default w ↦ search rules
    ] in
    subst (λ row. IfOk c.copied_row-in_default.result (λ r. r ≡ row)) (as_now ∙ found) c.copied_row-in_default.ensures
