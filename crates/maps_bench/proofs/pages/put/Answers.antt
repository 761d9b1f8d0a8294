use Rattle.std.proofs.Common.{◌≡◌, None, length, ap, arith, rules}
use Rattle.std.specs.FinMap.{get}
use Rattle.ordered_index.specs.Tree.{map_of}
use Rattle.iv_types.proofs.MapSizes.{used_insert}
use Rattle.maps_bench.proofs.pages.put.Goals as goal

pub insert-requires-clause-within : goal.insert-requires-clause-within
insert-requires-clause-within c =
    let s = c.reserve.new.self in
    let none : get (map_of s 5) c.args.key ≡ None = search rules in
    let u = used_insert (map_of s) 5 c.args.key c.args.value (omega arith) none in
    let k : c.as_slice-keys.result.now ≡ c.args.key = search rules in
    let v : c.as_slice-values.result.now ≡ c.args.value = search rules in
    let r = c.room.ensures in
    omega (arith, u, r, ap length k, ap length v, c.if-room-keys.false)
