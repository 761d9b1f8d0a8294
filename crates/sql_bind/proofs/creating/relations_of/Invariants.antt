use Rattle.std.proofs.Common.{◌≡◌, ◌++◌, map, drop}
use Rattle.iv_meaning.specs.Shape.{object_number}
use Rattle.iv_meaning.specs.Types.{sources_of}
use Rattle.bind_resolve.specs.Seen.{joined_seen, query_seen}
use Rattle.sql_bind.proofs.creating.relations_of.Given as goal

abbrev pub invariant-loop-join : goal.invariant-loop-join
invariant-loop-join l =
    l.numbers ++ map object_number (map (λ j. j.object) (map joined_seen (drop l.join-index l.join-items))) ≡ map object_number (sources_of (query_seen l.query))
