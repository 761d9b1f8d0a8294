use Rattle.std.proofs.Common.{◌≡◌, ◌+◌, ◌-◌, ◌/◌, sym, ap, ◌∙◌, arith}
use Rattle.std.specs.declared.cmp.Ordering.TheVariants.{Less, Greater}
use Rattle.slot_page.specs.Page.{entries}
use Rattle.slot_page.specs.Order.{key_cmp, key_at}
use Rattle.slot_page.proofs.Pages.{page_size, packed_lies}
use Rattle.slot_page.proofs.Order.{all_below, all_above}
use Rattle.slot_page.proofs.find.Goals as goal

pub count-high-requires : goal.count-high-requires
count-high-requires c = page_size _ c.requires.page

pub loop-low-preserved-in-Less : goal.loop-low-preserved-in-Less
loop-low-preserved-in-Less c =
    let m = c.loop-low.low + (c.loop-low.high - c.loop-low.low) / 2 in
    let h : key_cmp (key_at (entries c.args.page.now) m) c.args.key.now ≡ Less = ap (λ k. key_cmp k c.args.key.now) (sym c.entry.ensures.key) ∙ sym c.in-Less.ensures in
    record {
      order = omega arith;
      inside = c.loop-low.invariant.inside;
      below = all_below (entries c.args.page.now) c.args.key.now m c.requires.rising (omega arith) h;
      above = c.loop-low.invariant.above;
    }

pub loop-low-preserved : goal.loop-low-preserved
loop-low-preserved c =
    let m = c.loop-low.low + (c.loop-low.high - c.loop-low.low) / 2 in
    let h : key_cmp (key_at (entries c.args.page.now) m) c.args.key.now ≡ Greater = ap (λ k. key_cmp k c.args.key.now) (sym c.entry.ensures.key) ∙ sym c.in-Greater.ensures in
    record {
      order = omega arith;
      inside = omega arith;
      below = c.loop-low.invariant.below;
      above = all_above (entries c.args.page.now) c.args.key.now m c.requires.rising h;
    }

pub entry-requires-clause-size : goal.entry-requires-clause-size
entry-requires-clause-size c = page_size _ c.requires.page

pub entry-requires-clause-lies : goal.entry-requires-clause-lies
entry-requires-clause-lies c = packed_lies _ _ c.requires.page (omega (arith, c.loop-low.invariant.inside))
