use Rattle.std.proofs.Common.{◌≡◌, ◌≢◌, ◌-◌, ◌<◌, ◌≤◌, List, Some, length, get_or, sym, ap, ◌∙◌, subst, arith}
use Rattle.slot_page.specs.Page.{Entry, no_entry, entries, index_of}
use Rattle.slot_page.proofs.Pages.{packed_lies}
use Rattle.slot_page.specs.Order.{IsRising, StandsAt, Missing}
use Rattle.ordered_index.specs.Flat.{place_cmp, Sought, IsForest, value_at, items, tagged, start}
use Rattle.ordered_index.specs.Row.{Leaf, no_leaf}
use Rattle.ordered_index.proofs.EditSteps.{page_size}
use Rattle.ordered_index.proofs.Finds.{value_before_all, value_in_leaf, value_elsewhere, value_missing, value_found, rising_leaf, leaf_is_rising, at_most_index}
use Rattle.ordered_index.proofs.finding.value_of.Goals as goal

pub returns-then-k-eq0 : goal.returns-then-k-eq0
returns-then-k-eq0 c = sym (value_before_all _ _ _ c.requires c.seek-k.ensures c.if-k-eq0.true)

pub index-requires : goal.index-requires
index-requires c = page_size _ c.page-page.ensures.page

pub returns-then-index-of : goal.returns-then-index-of
returns-then-index-of c =
    let k = c.seek-k.result in
    let some : 0 < k = omega arith in
    let l = get_or c.args.leaves.now.leaves (k - 1) no_leaf in
    let low : l.0 ≤ c.args.of = at_most_index l.0 c.args.of (get_or l.1 0 no_entry).0 c.args.key.now (c.seek-k.ensures.before some) in
    let is : index_of c.page-page.result.now ≡ l.0 = ap (λ (x : Leaf). x.0) c.page-page.ensures.leaf in
    let ne : l.0 ≢ c.args.of = λ e. c.if-index-of.true (c.index.ensures ∙ is ∙ e) in
    sym (value_in_leaf _ _ k c.requires c.seek-k.ensures some ∙ value_elsewhere c.args.of c.args.key.now l.0 l.1 (omega arith))

pub find-requires-clause-rising : goal.find-requires-clause-rising
find-requires-clause-rising c =
    let k = c.seek-k.result in
    let inside : k - 1 < length c.args.leaves.now.leaves = omega (arith, c.seek-k.ensures.inside) in
    subst (λ (x : Leaf). IsRising x.1) (sym c.page-page.ensures.leaf) (leaf_is_rising _ (k - 1) c.requires inside)

pub returns-in-Ok : goal.returns-in-Ok
returns-in-Ok c =
    let k = c.seek-k.result in
    let some : 0 < k = omega arith in
    let inside : k - 1 < length c.args.leaves.now.leaves = omega (arith, c.seek-k.ensures.inside) in
    let l = get_or c.args.leaves.now.leaves (k - 1) no_leaf in
    let is : index_of c.page-page.result.now ≡ l.0 = ap (λ (x : Leaf). x.0) c.page-page.ensures.leaf in
    let es : entries c.page-page.result.now ≡ l.1 = ap (λ (x : Leaf). x.1) c.page-page.ensures.leaf in
    let of : l.0 ≡ c.args.of = sym is ∙ sym c.index.ensures ∙ (omega arith) in
    let at : StandsAt c.args.key.now l.1 c.in-Ok.i = subst (λ (x : List Entry). StandsAt c.args.key.now x c.in-Ok.i) es c.in-Ok.ensures in
    sym (value_in_leaf _ _ k c.requires c.seek-k.ensures some
    ∙ ap (λ i. value_at (c.args.of, c.args.key.now) (tagged i l.1)) of
    ∙ value_found c.args.of c.args.key.now l.1 c.in-Ok.i (subst (λ i. Rattle.ordered_index.specs.Flat.Rising (tagged i l.1)) of (rising_leaf _ (k - 1) c.requires inside)) at.inside at.same
    ∙ ap (λ (x : List Entry). Some (get_or x c.in-Ok.i no_entry).1) (sym es) ∙ ap Some (sym c.entry.ensures.value))

pub returns-in-Err : goal.returns-in-Err
returns-in-Err c =
    let k = c.seek-k.result in
    let some : 0 < k = omega arith in
    let l = get_or c.args.leaves.now.leaves (k - 1) no_leaf in
    let is : index_of c.page-page.result.now ≡ l.0 = ap (λ (x : Leaf). x.0) c.page-page.ensures.leaf in
    let es : entries c.page-page.result.now ≡ l.1 = ap (λ (x : Leaf). x.1) c.page-page.ensures.leaf in
    let of : l.0 ≡ c.args.of = sym is ∙ sym c.index.ensures ∙ (omega arith) in
    sym (value_in_leaf _ _ k c.requires c.seek-k.ensures some
    ∙ ap (λ i. value_at (c.args.of, c.args.key.now) (tagged i l.1)) of
    ∙ value_missing c.args.of c.args.key.now l.1 c.in-Err.field-0 (subst (λ (x : List Entry). Missing c.args.key.now x c.in-Err.field-0) es c.in-Err.ensures))

pub entry-requires-clause-lies : goal.entry-requires-clause-lies
entry-requires-clause-lies c = packed_lies _ _ c.page-page.ensures.page c.in-Ok.ensures.inside
