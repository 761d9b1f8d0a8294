use Rattle.std.proofs.Common.{rules, ◌≡◌, ◌<◌, true, false, List, ◌∷◌, length, sym, ap, subst, ◌∙◌, arith}
use Rattle.std.specs.FinMap.{entries}
use Rattle.iv_types.specs.Maps.{Entry, entry_at}
use Rattle.table_store.specs.Stored.{before}
use Rattle.table_store.proofs.Walks.{place, todo, low_part, rest_from, past, at_held, after_held, walk_begins, walk_goes_on, ended, goes_on}
use Rattle.data_store.specs.Shown.{Shows, Counts}
use Rattle.data_store.proofs.Noting.{counts_all, counts_more, counts_none}
use Rattle.data_store.proofs.noted.noted_between.Goals as goal

pub loop-next-init : goal.loop-next-init
loop-next-init g c =
    let m = g.M.SortedMaps.maps c.args.maps.now c.args.view in
    let interval = c.args.interval.now in
    let start : place c.first_at-next.result ≡ entry_at m interval.low = c.first_at-next.ensures ∙ ap (entry_at m) c.as_slice.ensures in
    record {
      fits = omega arith;
      held = λ e is. at_held m interval.low e (sym is ∙ start);
      told = λ rows s. counts_all c.args.kinds.now _ rows (subst (λ (l : List Entry). Shows c.args.kinds.now l rows) (sym (walk_begins m interval (place c.first_at-next.result) start)) s);
    }

pub noted_shown-requires : goal.noted_shown-requires
noted_shown-requires g c =
    c.requires c.in-Some.key.now c.in-Some.value.now (c.loop-next.invariant.held (c.in-Some.key.now, c.in-Some.value.now) (ap place c.in-Some.is))

pub loop-next-smaller : goal.loop-next-smaller
loop-next-smaller g c =
    let m = g.M.SortedMaps.maps c.args.maps.now c.args.view in
    let key = c.in-Some.key.now in
    let next = walk_goes_on m key (place c.first_after-next.result) c.first_after-next.ensures in
    let now = ap (λ n. todo (entries m) (place n)) c.in-Some.is in
    let smaller : length (todo (entries m) (place c.first_after-next.result)) < length (todo (entries m) (place c.loop-next.next)) = omega (arith, ap length next, ap length now) in
    smaller

pub loop-next-preserved : goal.loop-next-preserved
loop-next-preserved g c =
    let m = g.M.SortedMaps.maps c.args.maps.now c.args.view in
    let kinds = c.args.kinds.now in
    let high = c.args.interval.now.high in
    let key = c.in-Some.key.now in
    let value = c.in-Some.value.now in
    let next = walk_goes_on m key (place c.first_after-next.result) c.first_after-next.ensures in
    let passes : before high key ≡ true = search rules in
    let left : List Entry = low_part high (rest_from (past key) (entries m)) in
    let now : low_part high (todo (entries m) (place c.loop-next.next)) ≡ (key, value) ∷ left =
    ap (λ n. low_part high (todo (entries m) (place n))) c.in-Some.is ∙ goes_on m high (key, value) passes in
    record {
      fits = search rules;
      held = λ e is. after_held m key e (sym is ∙ c.first_after-next.ensures);
      told = λ rows s.
          let whole : Counts kinds ((key, value) ∷ left) c.loop-next.size rows = subst (λ (l : List Entry). Counts kinds l c.loop-next.size rows) now (c.loop-next.invariant.told rows s) in
          subst (λ (l : List Entry). Counts kinds (low_part high l) c.saturating_add-size.result rows) (sym next)
          (counts_more kinds (key, value) left c.loop-next.size _ c.saturating_add-size.result rows c.loop-next.invariant.fits c.saturating_add-size.ensures whole (c.in_ok-noted_shown.ensures left whole.others whole.shows));
    }

pub returns-then-not-is_before : goal.returns-then-not-is_before
returns-then-not-is_before g c = λ rows s.
    let m = g.M.SortedMaps.maps c.args.maps.now c.args.view in
    let high = c.args.interval.now.high in
    let fails : before high c.in-Some.key.now ≡ false = search rules in
    counts_none c.args.kinds.now _ c.loop-next.size rows c.loop-next.invariant.fits
    (ap (λ n. low_part high (todo (entries m) (place n))) c.in-Some.is ∙ ended m high (c.in-Some.key.now, c.in-Some.value.now) fails) (c.loop-next.invariant.told rows s)

pub returns-in_default : goal.returns-in_default
returns-in_default g c = λ rows s.
    let m = g.M.SortedMaps.maps c.args.maps.now c.args.view in
    counts_none c.args.kinds.now _ c.loop-next.size rows c.loop-next.invariant.fits
    (ap (λ n. low_part c.args.interval.now.high (todo (entries m) (place n))) c.in_default.is) (c.loop-next.invariant.told rows s)
