use Rattle.std.proofs.Common.{◌≡◌, ◌++◌, drop}
use Rattle.iv_meaning.specs.Resolving.{fresh}
use Rattle.bind_resolve.specs.Seen.{names_in, Alike}
use Rattle.bind_resolve.proofs.names.fresh.Given as goal

abbrev pub invariant-loop-index : goal.invariant-loop-index
invariant-loop-index l =
    (fresh (names_in l.others.keys) (names_in (drop l.index l.names)) ≡ fresh (names_in l.fn.others.keys) (names_in l.names))
    × Alike (names_in (drop l.index l.names) ++ names_in l.others.keys) (names_in l.names ++ names_in l.fn.others.keys)
