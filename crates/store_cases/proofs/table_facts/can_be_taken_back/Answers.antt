use Rattle.std.proofs.Common.{◌≡◌, None, rules, arith, ap, subst}
use Rattle.std.specs.FinMap.{get}
use Rattle.table_store.specs.Lists.{map_at, spare_at}
use Rattle.table_store.specs.Stored.{stored}
use Rattle.table_store.specs.Changes.{CanHoldEach, IsKept, HasRoom, how_many}
use Rattle.table_store.proofs.Changing.{found_there, places_for}
use Rattle.store_cases.proofs.table_facts.can_be_taken_back.Goals as goal

pub returns : goal.returns
returns c = λ held.
    let t = c.args.table.now in
    let ds = c.args.catalog.now in
    let kept = c.args.kept.now in
    let change = kept.change in
    let maps = map_at c.args.maps.now in
    let spare = spare_at c.args.maps.now in
    let there : get (maps t.number) change.key ≡ stored t change.after = search rules in
    let is : IsKept ds change kept t = c.in_ok-is_kept.ensures held in
    let room : HasRoom maps spare None kept.made kept.gone = record {
      places = λ n. omega (arith, places_for ds t c.number_law.ensures c.requires.table change.key change.before change.after spare c.requires.primary c.requires.secondary n, ap (how_many n) is.removed);
      within = tt;
    } in
    record {
      is_kept = is;
      there = found_there ds c.requires.held.0 maps t change.key change.after c.row_law.ensures.spelling c.requires.table c.requires.held.1 there (c.in_ok-stands_under-2.ensures c.if-not-branch-2.false);
      row_before = c.in_ok-stands_under.ensures c.if-not-branch.false;
      can_hold = subst CanHoldEach c.as_slice.ensures (c.can_hold_each.ensures c.if-not-can_hold_each.false);
      room = room;
    }
