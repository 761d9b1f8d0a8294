use Rattle.std.proofs.Common.{◌≡◌, drop}
use Rattle.iv_types.specs.Trees.{trees}
use Rattle.iv_meaning.specs.Types.{tuple_typed}
use Rattle.bind_check.proofs.typing.tuple_typed.Given as goal

abbrev pub invariant-loop-index : goal.invariant-loop-index
invariant-loop-index l = tuple_typed (drop l.index l.kinds) (trees (drop l.index l.tuple)) ≡ tuple_typed l.kinds (trees l.tuple)
