use Rattle.std.proofs.Common.{◌≡◌, ◌+◌, ◌-◌, List, length, get_or, set, sym, ap, ◌∙◌, subst, arith}
use Rattle.std.specs.List.{remove}
use Rattle.slot_page.specs.Page.{no_entry, entries}
use Rattle.slot_page.proofs.Pages.{packed_lies}
use Rattle.slot_page.specs.Order.{IsRising, StandsAt}
use Rattle.ordered_index.specs.Flat.{IsForest, items, IsPut, TightOutside}
use Rattle.ordered_index.specs.Row.{Row, Leaf}
use Rattle.ordered_index.proofs.Finds.{leaf_is_rising}
use Rattle.ordered_index.proofs.Takes.{there, leaf_by_page, take_inside, take_alone, tight_less, tight_closed}
use Rattle.ordered_index.proofs.changing.remove_item.Goals as goal

pub overflow_sub-k : goal.overflow_sub-k
overflow_sub-k c = let t = there _ _ _ _ c.requires.forest c.seek-k.ensures c.requires.present in omega (arith, t.some)

pub page-page-requires : goal.page-page-requires
page-page-requires c = (there _ _ _ _ c.requires.forest c.seek-k.ensures c.requires.present).inside

pub spot-i-requires-clause-rising : goal.spot-i-requires-clause-rising
spot-i-requires-clause-rising c =
    let t = there _ _ _ _ c.requires.forest c.seek-k.ensures c.requires.present in
    subst (λ (x : Leaf). IsRising x.1) (sym c.page-page.ensures.leaf) (leaf_is_rising _ (c.seek-k.result - 1) c.requires.forest t.inside)

pub spot-i-requires-clause-present : goal.spot-i-requires-clause-present
spot-i-requires-clause-present c =
    let t = there _ _ _ _ c.requires.forest c.seek-k.ensures c.requires.present in
    (t.at, subst (λ (x : Leaf). StandsAt c.args.key.now x.1 t.at) (sym c.page-page.ensures.leaf) t.stands_at)

pub returns-then-count-eq1 : goal.returns-then-count-eq1
returns-then-count-eq1 c =
    let ls = c.args.leaves.now.leaves in
    let j = c.seek-k.result - 1 in
    let t = there _ _ _ _ c.requires.forest c.seek-k.ensures c.requires.present in
    let h = leaf_by_page ls j c.args.of c.page-page.result.now c.page-page.ensures.leaf t.index in
    let p = take_alone c.args.of c.args.key.now ls j c.spot-i.result (entries c.page-page.result.now) c.requires.forest t.inside h c.spot-i.ensures (omega (arith, c.count.ensures)) in
    let now : c.close.new.self.leaves ≡ remove ls j = ap (λ (r : Row). r.leaves) c.close.ensures in
    record {
      forest = subst IsForest (sym now) p.forest;
      items = ((get_or (entries c.page-page.result.now) c.spot-i.result no_entry).1, (ap length (sym c.entry.ensures.value) ∙ omega arith), subst (λ (x : List Leaf). IsPut (c.args.of, c.args.key.now) (get_or (entries c.page-page.result.now) c.spot-i.result no_entry).1 (items x) (items ls)) (sym now) p.items_are);
      pages = ap (λ (r : Row). r.pages) c.close.ensures;
      loose = λ x. subst (λ (y : List Leaf). TightOutside (j - 1) (j + 1) y) (sym now) (tight_closed ls j t.inside x);
    }

pub returns : goal.returns
returns c =
    let ls = c.args.leaves.now.leaves in
    let j = c.seek-k.result - 1 in
    let t = there _ _ _ _ c.requires.forest c.seek-k.ensures c.requires.present in
    let h = leaf_by_page ls j c.args.of c.page-page.result.now c.page-page.ensures.leaf t.index in
    let p = take_inside c.args.of c.args.key.now ls j c.spot-i.result (entries c.page-page.result.now) c.requires.forest t.inside h c.spot-i.ensures (λ e. c.if-count-eq1.false (c.count.ensures ∙ e)) in
    let now : c.remove_at.new.leaves.leaves ≡ set ls j (c.args.of, remove (entries c.page-page.result.now) c.spot-i.result) =
    ap (λ (r : Row). r.leaves) c.remove_at.ensures ∙ ap (λ (l : Leaf). set ls j (let y : Leaf = (l.0, remove l.1 c.spot-i.result) in y)) h in
    record {
      forest = subst IsForest (sym now) p.forest;
      items = ((get_or (entries c.page-page.result.now) c.spot-i.result no_entry).1, (ap length (sym c.entry.ensures.value) ∙ omega arith), subst (λ (x : List Leaf). IsPut (c.args.of, c.args.key.now) (get_or (entries c.page-page.result.now) c.spot-i.result no_entry).1 (items x) (items ls)) (sym now) p.items_are);
      pages = ap (λ (r : Row). r.pages) c.remove_at.ensures;
      loose = λ x. subst (λ (y : List Leaf). TightOutside (j - 1) (j + 1) y) (sym now) (tight_less ls j _ x);
    }

pub entry-requires-clause-lies : goal.entry-requires-clause-lies
entry-requires-clause-lies c = packed_lies _ _ c.page-page.ensures.page c.spot-i.ensures.inside
