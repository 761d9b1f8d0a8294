use Rattle.std.proofs.Common.{◌≡◌, ◌-◌, ◌<◌, Some, length, take, get_or, refl, sym, ap, ◌∙◌, subst, arith}
use Rattle.slot_page.specs.Page.{Entry, no_entry, entries}
use Rattle.slot_page.specs.Order.{IsRising}
use Rattle.slot_page.proofs.Pages.{packed_lies}
use Rattle.ordered_index.specs.Row.{Leaf}
use Rattle.ordered_index.specs.Flat.{AllBelow, items, passes}
use Rattle.ordered_index.proofs.Finds.{leaf_is_rising}
use Rattle.ordered_index.proofs.Puts.{landed, below_other}
use Rattle.ordered_index.proofs.Indexes.{first_beyond, first_landed, first_next, first_in}
use Rattle.ordered_index.proofs.finding.first_from.Goals as goal

pub returns-then-k-eq0 : goal.returns-then-k-eq0
returns-then-k-eq0 c =
    let below : AllBelow (c.args.of, c.args.key.now) (items (take c.seek-k.result c.args.leaves.now.leaves)) = subst (λ n. AllBelow (c.args.of, c.args.key.now) (items (take n c.args.leaves.now.leaves))) (sym c.if-k-eq0.true) tt in
    c.front.ensures ∙ sym (first_beyond c.args.of c.seek-k.result c.args.key.now c.args.after c.args.leaves.now.leaves c.requires c.seek-k.ensures below)

pub returns-then-index-of : goal.returns-then-index-of
returns-then-index-of c =
    let below = below_other c.args.of c.seek-k.result c.args.key.now c.args.leaves.now.leaves c.page-page.result.now c.requires c.seek-k.ensures c.if-k-eq0.false c.page-page.ensures.leaf (λ e. c.if-index-of.true (c.index.ensures ∙ e)) in
    c.front-then-index-of.ensures ∙ sym (first_beyond c.args.of c.seek-k.result c.args.key.now c.args.after c.args.leaves.now.leaves c.requires c.seek-k.ensures below)

pub start-i-requires-clause-rising : goal.start-i-requires-clause-rising
start-i-requires-clause-rising c =
    let k = c.seek-k.result in
    let inside : k - 1 < length c.args.leaves.now.leaves = omega (arith, c.seek-k.ensures.inside) in
    subst (λ (x : Leaf). IsRising x.1) (sym c.page-page.ensures.leaf) (leaf_is_rising _ (k - 1) c.requires inside)

pub entry-requires-clause-lies : goal.entry-requires-clause-lies
entry-requires-clause-lies c = packed_lies _ _ c.page-page.ensures.page (omega (arith, c.count.ensures))

pub returns-then-i-count : goal.returns-then-i-count
returns-then-i-count c =
    let h = landed c.args.of c.args.key.now _ c.seek-k.result c.page-page.result.now c.requires c.seek-k.ensures c.if-k-eq0.false c.page-page.ensures.leaf (sym c.index.ensures ∙ omega arith) in
    let es = entries c.page-page.result.now in
    let e : (c.entry.result.0.now, c.entry.result.1.now) ≡ get_or es c.start-i.result no_entry = rw (c.entry.ensures.key, c.entry.ensures.value) refl in
    ap (λ (x : Entry). Some x) e
    ∙ sym (first_landed c.args.of c.seek-k.result c.args.key.now c.args.after c.args.leaves.now.leaves es h ∙ first_in (passes c.args.after c.args.key.now) es _ c.start-i.result c.start-i.ensures (omega (arith, c.count.ensures)))

pub returns : goal.returns
returns c =
    let h = landed c.args.of c.args.key.now _ c.seek-k.result c.page-page.result.now c.requires c.seek-k.ensures c.if-k-eq0.false c.page-page.ensures.leaf (sym c.index.ensures ∙ omega arith) in
    let es = entries c.page-page.result.now in
    c.front-2.ensures ∙ sym (first_next c.args.of c.seek-k.result c.start-i.result c.args.key.now c.args.after c.args.leaves.now.leaves es c.requires c.seek-k.ensures h c.start-i.ensures (omega (arith, c.count.ensures)))
