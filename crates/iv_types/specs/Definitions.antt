-- No clause of `run` rests on this module: it serves contracts between crates.
--
-- The definitions of a database: its tables, indexes and views in the order in which they were made.
use Rattle.std.specs.Prelude.{◌≡◌, ℕ, suc, ◌+◌, ◌<◌, ◌≤◌, Bool, true, false, List, [], ◌∷◌, length, count_by, Option, Some, None, Vec}
use Rattle.std.specs.List.{AllZip}
use Rattle.iv_types.specs.declared.catalog.Definition.{Definition}
use Rattle.iv_types.specs.declared.catalog.ViewDef.{ViewDef}
use Rattle.iv_types.specs.declared.catalog.Definition.TheVariants.{Table, Index, View}
use Rattle.iv_types.specs.declared.limit.TheConstants.{MOST_OBJECTS}
use Rattle.iv_types.specs.Naming.{of_number, of_name}
use Rattle.iv_types.specs.Trees.{perhaps_tree}

abbrev pub Definitions : Type 0
Definitions = List Definition

abbrev pub number_of : Definition → ℕ
number_of (Table table) = table.number
number_of (Index index) = index.number
number_of (View view) = view.number

abbrev pub name_of : Definition → List ℕ
name_of (Table table) = table.name
name_of (Index index) = index.name
name_of (View view) = view.name

-- the definition of an object number
abbrev pub numbered : Definitions → ℕ → Option Definition
numbered ds n = of_number ds n

-- the number of each definition is that of its place
abbrev pub AreNumbered : Definitions → Type 0
AreNumbered ds = (n : ℕ) (d : Definition) → numbered ds n ≡ Some d → number_of d ≡ n

-- the definition that has a name
abbrev pub named : Definitions → List ℕ → Option Definition
named ds name = of_name name_of ds name

-- each definition has a name of its own
abbrev pub AreNamed : Definitions → Type 0
AreNamed ds = (n : ℕ) (d : Definition) → numbered ds n ≡ Some d → named ds (name_of d) ≡ Some d

-- the definitions after the first n: each is kept under its own name, and its number is that of its place
abbrev pub AreKept : {A : Type 0} → ℕ → List (Vec ℕ A × Definition) → Type 0
AreKept n [] = Unit {0}
AreKept n (e ∷ es) = (e.0.items ≡ name_of e.1) × (number_of e.1 ≡ suc n) × AreKept (suc n) es

-- two tables, two indexes or two views
abbrev pub are_alike : Definition → Definition → Bool
are_alike (Table a) (Table b) = true
are_alike (Index a) (Index b) = true
are_alike (View a) (View b) = true
are_alike _ _ = false

-- how many definitions are of the kind of this one
abbrev pub how_many_alike : Definition → Definitions → ℕ
how_many_alike d ds = count_by (are_alike d) ds

-- no more tables, indexes or views than a database may have
abbrev pub AreFew : Definitions → Type 0
AreFew ds = (d : Definition) → how_many_alike d ds ≤ MOST_OBJECTS

-- the definition can be made: it has the next number and a name of its own, and there is room for one more of its kind
pub record CanAdd (ds : Definitions) (d : Definition) : Type 0 where
  pub number : number_of d ≡ length ds + 1
  pub name : named ds (name_of d) ≡ None
  pub room : how_many_alike d ds < MOST_OBJECTS

-- ---- copies

-- the same view, wherever its condition lies in memory
pub record IsViewCopy (copy view : ViewDef) : Type 0 where
  pub condition : perhaps_tree copy.condition ≡ perhaps_tree view.condition
  pub rest : record copy { condition = None } ≡ record view { condition = None }

abbrev pub IsCopy : Definition → Definition → Type 0
IsCopy (Table copy) (Table table) = copy ≡ table
IsCopy (Index copy) (Index index) = copy ≡ index
IsCopy (View copy) (View view) = IsViewCopy copy view
IsCopy _ _ = ⊥

-- one for one
abbrev pub AreCopies : Definitions → Definitions → Type 0
AreCopies copies ds = AllZip IsCopy copies ds
