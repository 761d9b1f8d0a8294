use Rattle.std.proofs.Common.{◌≡◌, ◌≢◌, rules, subst, ◌∙◌}
use Rattle.std.specs.FinMap.{get}
use Rattle.table_store.specs.Lists.{map_at}
use Rattle.table_store.specs.Stored.{stored}
use Rattle.table_store.specs.Changes.{CanHoldEach, made_by}
use Rattle.table_store.proofs.Changing.{found_there}
use Rattle.store_cases.proofs.table_facts.is_change.Goals as goal

pub returns : goal.returns
returns c = λ held.
    let t = c.args.table.now in
    let ds = c.args.catalog.now in
    let change = c.args.change.now in
    let maps = map_at c.args.maps.now in
    let there : get (maps t.number) change.key ≡ stored t change.before = search rules in
    let other : change.before ≢ change.after = search rules in
    let made : c.as_slice.result.now ≡ made_by ds change t = c.as_slice.ensures ∙ c.in_ok-made.ensures in
    record {
      there = found_there ds c.requires.held.0 maps t change.key change.before c.row_law.ensures.spelling c.requires.table c.requires.held.1 there (c.in_ok-stands_under.ensures c.if-not-branch.false);
      row_after = c.in_ok-stands_under-2.ensures c.if-not-branch-2.false;
      differ = other;
      can_hold = subst CanHoldEach made (c.can_hold_each.ensures held);
      within = tt;
    }
