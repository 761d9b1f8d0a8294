-- No clause of `run` rests on this module: it serves contracts between crates.
--
-- Indexes that begin with the columns by which a view joins its tables.
use Rattle.std.specs.Prelude.{◌≡◌, ℕ, List, ◌++◌, Option, Some}
use Rattle.iv_types.specs.declared.catalog.Second.{Second}
use Rattle.iv_types.specs.declared.catalog.TableDef.{TableDef}
use Rattle.iv_meaning.specs.Schema.{Object, index}

abbrev pub Begins : List ℕ → List ℕ → Type 0
Begins columns joined = (more : List ℕ) × (columns ≡ joined ++ more)

-- the view's index is the first table's own
abbrev pub BeginsOwn : TableDef → Second → Type 0
BeginsOwn first second = (second.index ≡ first.number) × Begins first.primary second.joined

-- or one that CREATE INDEX made
abbrev pub BeginsMade : Option Object → TableDef → Second → Type 0
BeginsMade (Some (index i)) first second = (i.table ≡ first.number) × Begins i.columns second.joined
BeginsMade _ first second = ⊥
