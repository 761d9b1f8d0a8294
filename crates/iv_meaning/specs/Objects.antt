-- No clause of `run` rests on this module: it serves contracts between crates.
--
-- What the definitions of the code are, without where they lie in memory.
use Rattle.std.specs.Prelude.{◌≡◌, List, map}
use Rattle.iv_types.specs.declared.catalog.ViewDef.{ViewDef}
use Rattle.iv_types.specs.declared.catalog.Definition.{Definition}
use Rattle.iv_types.specs.declared.catalog.Definition.TheVariants as definition
use Rattle.iv_types.specs.Definitions.{AreCopies}
use Rattle.iv_types.specs.Trees.{perhaps_tree}
use Rattle.iv_meaning.specs.Schema.{Schema, Object, table, index, view, ViewTree}

abbrev pub view_tree : ViewDef → ViewTree
view_tree v = record {
  number = v.number;
  name = v.name;
  names = v.names;
  first = v.first;
  second = v.second;
  condition = perhaps_tree v.condition;
  group = v.group;
  sums = v.sums;
}

abbrev pub object_of : Definition → Object
object_of (definition.Table t) = table t
object_of (definition.Index i) = index i
object_of (definition.View v) = view (view_tree v)

abbrev pub schema_of : List Definition → Schema
schema_of definitions = map object_of definitions

-- copies define the same
abbrev pub CopiesLaw : Type 0
CopiesLaw = (copies definitions : List Definition) → AreCopies copies definitions → schema_of copies ≡ schema_of definitions
