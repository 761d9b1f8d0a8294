use Rattle.std.proofs.Common.{◌≡◌, ◌+◌, ◌*◌, ◌<◌, ◌≤◌, ◌^◌, ℕ, List, length, arith, sym, ap, subst, ◌∙◌}
use Rattle.std.specs.FinMap.{entries, empty}
use Rattle.iv_types.specs.declared.lock.IndexEntry.{IndexEntry}
use Rattle.iv_types.specs.Maps.{Map, map_size, used}
use Rattle.iv_types.proofs.MapSizes.{used_same}
use Rattle.table_store.specs.Filling.{filled, CanPutAll}
use Rattle.map_copying.specs.Entries.{entries_in}
use Rattle.map_copying.proofs.Copies.{filled_is, many_fewer, can_copy}
use Rattle.map_copying.proofs.copying.copy_index.Goals as goal

pub overflow_cast-as_slice : goal.overflow_cast-as_slice
overflow_cast-as_slice g c =
    let m = g.A.SortedMaps.maps c.args.from.now c.args.index in
    let few = many_fewer c.args.index (entries m) in
    let q = c.requires.limit in
    let most = q.2 in
    let fits = q.3 in
    let same : length c.in_ok-entries.entries ≡ length (entries_in c.args.index (entries m)) = ap length c.in_ok-entries.ensures in
    let slice = ap length c.as_slice.ensures in
    omega (arith, few, most, fits, same, slice)

pub put_all-requires-after_bounds : goal.put_all-requires-after_bounds
put_all-requires-after_bounds g c κs within =
    let m = g.A.SortedMaps.maps c.args.from.now c.args.index in
    let q = c.requires.limit in
    let same : c.in_ok-entries.entries ≡ entries_in c.args.index (entries m) = c.in_ok-entries.ensures in
    let maps = g.B.SortedMaps.maps c.reserve.new.self in
    let still : used maps ≡ used (g.B.SortedMaps.maps c.args.to.now) = used_same maps (g.B.SortedMaps.maps c.args.to.now) c.in_ok-reserve.ensures.maps in
    let fits = q.3 in
    let total : used maps + map_size m ≤ q.0 = omega (arith, still, fits) in
    let long : length c.in_ok-entries.entries ≡ length (entries_in c.args.index (entries m)) = ap length same in
    let room : length (entries_in c.args.index (entries m)) ≤ g.B.SortedMaps.spare c.reserve.new.self c.args.index = (let r = c.in_ok-reserve.ensures.room in let slice = ap length c.as_slice.ensures in omega (arith, r, long, slice)) in
    subst (CanPutAll c.args.index maps (g.B.SortedMaps.spare c.reserve.new.self c.args.index) (g.B.SortedMaps.limit c.reserve.new.self)) (sym same)
    (can_copy c.args.index maps m (g.B.SortedMaps.spare c.reserve.new.self c.args.index) q.0 (g.B.SortedMaps.limit c.reserve.new.self) (c.in_ok-reserve.ensures.maps c.args.index ∙ c.requires.empty) c.requires.held room
    (c.in_ok-reserve.ensures.limit ∙ q.1) total)

pub returns-clause-copied : goal.returns-clause-copied
returns-clause-copied g c =
    let m = g.A.SortedMaps.maps c.args.from.now c.args.index in
    let old = g.B.SortedMaps.maps c.reserve.new.self c.args.index in
    c.put_all.ensures.map
    ∙ (ap (λ (es : List IndexEntry). filled old es) c.in_ok-entries.ensures ∙ filled_is c.args.index old m (c.in_ok-reserve.ensures.maps c.args.index ∙ c.requires.empty))
