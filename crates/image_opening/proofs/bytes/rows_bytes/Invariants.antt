-- The indexes so far, but for index 0, are counted.
use Rattle.std.proofs.Common.{◌≡◌, ◌-◌, ◌^◌, ◌≤◌, min}
use Rattle.iv_types.specs.Maps.{map_size, size_below}
use Rattle.image_opening.proofs.bytes.rows_bytes.Given as goal

abbrev pub invariant-loop-index : goal.invariant-loop-index
invariant-loop-index g l =
    let maps = g.M.SortedMaps.maps l.maps in
    record {
      told : l.bytes ≡ min (size_below maps l.index - map_size (maps 0)) (2 ^ 64 - 1);
      least : 1 ≤ l.index;
      most : l.index ≤ 193;
    }
