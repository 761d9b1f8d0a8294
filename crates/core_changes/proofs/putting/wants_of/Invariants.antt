use Rattle.std.proofs.Common.{◌≡◌, ◌++◌, [], ◌∷◌, map, drop}
use Rattle.txn_machine.specs.Steps.{group_want}
use Rattle.core_changes.proofs.putting.wants_of.Given as goal

abbrev pub invariant-loop-delta : goal.invariant-loop-delta
invariant-loop-delta l = l.wants.items ++ map (λ d. group_want d ∷ []) (drop l.delta-index l.owed) ≡ map (λ d. group_want d ∷ []) l.owed
