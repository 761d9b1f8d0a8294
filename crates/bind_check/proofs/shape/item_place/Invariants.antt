use Rattle.std.proofs.Common.{◌≡◌, drop, map}
use Rattle.iv_meaning.specs.Tests.{item_place}
use Rattle.bind_resolve.specs.Seen.{item_seen}
use Rattle.bind_check.proofs.shape.item_place.Given as goal

abbrev pub invariant-loop-index : goal.invariant-loop-index
invariant-loop-index l = item_place l.name l.index (map item_seen (drop l.index l.items)) ≡ item_place l.name 0 (map item_seen l.items)
