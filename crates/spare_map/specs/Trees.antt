-- No clause of `run` rests on this module: it serves contracts between crates.
--
-- What a tree has, in order.
use Rattle.std.specs.Prelude.{not, Bool, List, [], ◌∷◌, ◌++◌, Option, Some, None, if◌then◌else◌}
use Rattle.std.specs.Ordering.{eq_by_cmp, is_lt, is_gt}
use Rattle.std.specs.FinMap.Entries.{where_key}
use Rattle.table_laws.specs.Place.{Place, place_cmp}
use Rattle.spare_map.specs.declared.tree.Tree.{Tree, Leaf, Fork'}
use Rattle.spare_map.specs.declared.tree.Node.{Node}

module _ {V : _} where
  -- the values under their places
  abbrev pub items : Tree V → List (Place × V)
  items Leaf = []
  items (Fork' p left height index key held right) = items left ++ ((index, key), held) ∷ items right

  abbrev pub place : Node V → Place
  place n = (n.index, n.key)

  -- the value that a node holds under its place
  abbrev pub own : Node V → Place × V
  own n = (place n, n.held)

  -- all that a node has
  abbrev pub whole : Node V → List (Place × V)
  whole n = items n.left ++ own n ∷ items n.right

-- the entries but that of a place
abbrev pub without : {X : Type 0} → Place → List (Place × X) → List (Place × X)
without k l = where_key place_cmp (λ x. not (eq_by_cmp place_cmp k x)) l

-- the first entry whose place passes a test
abbrev pub first_where : {X : Type 0} → (Place → Bool) → List (Place × X) → Option (Place × X)
first_where test [] = None
first_where test (e ∷ es) = if test e.0 then Some e else first_where test es

-- a place is at one or behind it, or only the latter
abbrev pub is_from : Bool → Place → Place → Bool
is_from past k x = if past then is_lt (place_cmp k x) else not (is_gt (place_cmp k x))
