-- No clause of `run` rests on this module: it serves contracts between crates.
--
-- What a tree of versions has, in order, and its marks.
use Rattle.std.specs.Prelude.{ℕ, ◌≤◌, List, [], ◌∷◌, ◌++◌}
use Rattle.std.specs.List.{AllByRecursion}
use Rattle.version_chain.specs.Versions.{Moment, Version, number}
use Rattle.version_chain.specs.declared.tree.Tree.{Tree, Leaf, Fork'}
use Rattle.version_chain.specs.declared.tree.Node.{Node}

module _ {V : _} where
  -- the versions
  abbrev pub items : Tree V → List (Version V)
  items Leaf = []
  items (Fork' p left height least index key number held right) = items left ++ (((index, key), number), held) ∷ items right

  -- none has a number below this one
  abbrev pub AreFrom : ℕ → List (Version V) → Type 0
  AreFrom n vs = AllByRecursion (λ v. n ≤ number v) vs

  -- each node's mark is at most each number at it and under it
  abbrev pub IsMarked : Tree V → Type 0
  IsMarked Leaf = Unit {0}
  IsMarked (Fork' p left height least index key number held right) = AreFrom least (items left ++ (((index, key), number), held) ∷ items right) × (IsMarked left × IsMarked right)

  abbrev pub moment : Node V → Moment
  moment n = ((n.index, n.key), n.number)

  -- the version that a node holds
  abbrev pub own : Node V → Version V
  own n = (moment n, n.held)

  -- all that a node has
  abbrev pub whole : Node V → List (Version V)
  whole n = items n.left ++ own n ∷ items n.right

  -- both sides of a node are marked
  abbrev pub HasMarked : Node V → Type 0
  HasMarked n = IsMarked n.left × IsMarked n.right
