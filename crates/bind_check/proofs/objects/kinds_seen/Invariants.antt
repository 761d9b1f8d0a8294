use Rattle.std.proofs.Common.{◌≡◌, ◌++◌, map, drop}
use Rattle.iv_meaning.specs.Schema.{object_kinds}
use Rattle.iv_meaning.specs.Objects.{schema_of}
use Rattle.iv_meaning.specs.Types.{kinds_seen}
use Rattle.bind_resolve.specs.Seen.{joined_seen, query_seen}
use Rattle.bind_check.proofs.objects.kinds_seen.Given as goal

abbrev pub invariant-loop-join : goal.invariant-loop-join
invariant-loop-join l =
    l.kinds ++ map (object_kinds (schema_of l.catalog)) (map (λ j. j.object) (map joined_seen (drop l.join-index l.join-items))) ≡ kinds_seen (schema_of l.catalog) (query_seen l.query)
