use Rattle.std.proofs.Common.{◌≡◌, ◌<◌, ◌∷◌, List, [], length, arith, ap}
use Rattle.std.specs.Prelude.{sum_by}
use Rattle.std.specs.FinMap.{entries}
use Rattle.iv_types.specs.Maps.{Entry, entry_at, entry_size}
use Rattle.iv_types.proofs.MapSizes.{sums_cons}
use Rattle.table_store.proofs.Filled.{walk_all}
use Rattle.table_store.proofs.Walks.{place, todo, rest_from, past, walk_goes_on}
use Rattle.image_opening.proofs.bytes.index_bytes.Goals as goal

pub loop-next-init : goal.loop-next-init
loop-next-init g c =
    let m = g.M.SortedMaps.maps c.args.maps.now c.args.index in
    let start : place c.first_at-next.result ≡ entry_at m [] = c.first_at-next.ensures in
    record {
      told = let all = ap (sum_by entry_size) (walk_all m (place c.first_at-next.result) start) in omega (arith, all);
      low = omega arith;
    }

pub loop-next-smaller : goal.loop-next-smaller
loop-next-smaller g c =
    let m = g.M.SortedMaps.maps c.args.maps.now c.args.index in
    let next = walk_goes_on m c.in-Some.key.now (place c.first_after-next.result) c.first_after-next.ensures in
    let now = ap (λ n. todo (entries m) (place n)) c.in-Some.is in
    let smaller : length (todo (entries m) (place c.first_after-next.result)) < length (todo (entries m) (place c.loop-next.next)) = omega (arith, ap length next, ap length now) in
    smaller

pub loop-next-preserved : goal.loop-next-preserved
loop-next-preserved g c =
    let m = g.M.SortedMaps.maps c.args.maps.now c.args.index in
    let rest : List Entry = rest_from (past c.in-Some.key.now) (entries m) in
    let next : sum_by entry_size (todo (entries m) (place c.first_after-next.result)) ≡ sum_by entry_size rest = ap (sum_by entry_size) (walk_goes_on m c.in-Some.key.now (place c.first_after-next.result) c.first_after-next.ensures) in
    let now : sum_by entry_size (todo (entries m) (place c.loop-next.next)) ≡ sum_by entry_size ((c.in-Some.key.now, c.in-Some.value.now) ∷ rest) = ap (λ n. sum_by entry_size (todo (entries m) (place n))) c.in-Some.is in
    let first = sums_cons (c.in-Some.key.now, c.in-Some.value.now) rest in
    let one = c.entry_bytes.ensures in
    let both = c.saturating_add-bytes.ensures in
    let told = c.loop-next.invariant.told in
    record {
      told = omega (arith, next, now, first, one, both, told);
      low = omega (arith, both);
    }

pub returns : goal.returns
returns g c =
    let m = g.M.SortedMaps.maps c.args.maps.now c.args.index in
    let none : sum_by entry_size (todo (entries m) (place c.loop-next.next)) ≡ sum_by entry_size [] = ap (λ n. sum_by entry_size (todo (entries m) (place n))) c.in_default.is in
    let told = c.loop-next.invariant.told in
    let low = c.loop-next.invariant.low in
    omega (arith, none, told, low)
