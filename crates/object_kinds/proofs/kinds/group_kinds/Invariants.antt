use Rattle.std.proofs.Common.{◌≡◌, ◌++◌, drop}
use Rattle.std.specs.List.{filter_map}
use Rattle.iv_meaning.specs.Schema.{kind_at}
use Rattle.object_kinds.proofs.kinds.group_kinds.Given as goal

abbrev pub invariant-loop-place : goal.invariant-loop-place
invariant-loop-place l = l.kinds ++ filter_map (kind_at l.sources) (drop l.place-index l.group) ≡ filter_map (kind_at l.sources) l.group
