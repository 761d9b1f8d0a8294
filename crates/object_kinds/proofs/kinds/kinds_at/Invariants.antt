use Rattle.std.proofs.Common.{◌≡◌, ◌++◌, drop, slice_get}
use Rattle.std.specs.List.{filter_map}
use Rattle.object_kinds.proofs.kinds.kinds_at.Given as goal

abbrev pub invariant-loop-index : goal.invariant-loop-index
invariant-loop-index l = l.found ++ filter_map (slice_get l.kinds) (drop l.index l.places) ≡ filter_map (slice_get l.kinds) l.places
