-- No clause of `run` rests on this module: it serves contracts between crates.
--
-- When the records of an image fit: each fits what stands where it is replayed, and what is left can be taken back. Lists of records
-- have the latest first. The bounds on record numbers and on the bytes of data stand apart, where images are refused.
use Rattle.std.specs.Prelude.{◌≡◌, ℕ, ◌+◌, pos, true, List, [], ◌∷◌, length, Some, None, IsSome, ◌<◌}
use Rattle.std.specs.FinMap.{get}
use Rattle.table_laws.specs.Place.{Place}
use Rattle.iv_types.specs.declared.catalog.TableDef.{TableDef}
use Rattle.iv_types.specs.Encoding.{kinds_of, IsHuge, FitAll, key_bytes}
use Rattle.iv_meaning.specs.Schema as object
use Rattle.iv_meaning.specs.Schema.{Schema, Object, ViewTree, numbered, group_kinds}
use Rattle.iv_meaning.specs.Database.{Row, Rows, Database, key_of}
use Rattle.iv_meaning.specs.Statement as meaning
use Rattle.txn_machine.specs.Deltas.{RowChange, negated, place_of}
use Rattle.txn_machine.specs.Stored.{ViewRows, add_to, stored_number}
use Rattle.txn_machine.specs.May.{FitsUnder}
use Rattle.txn_log.specs.Replay.{What, Wrote, Added, Deed, Event, Kept, Ghost, Clean, Undo, Commit, Abort, Defined, Reading, Stored, survives, own, replay, on_pages, replayed, rows_without, view_without}

abbrev pub AllDeeds : (What → Type 0) → List Deed → Type 0
AllDeeds P [] = Unit {0}
AllDeeds P (x ∷ xs) = P x.what × AllDeeds P xs

-- the key of some row of the table
abbrev pub IsKeyOf : TableDef → List ℕ → Type 0
IsKeyOf t key = (row : Row) × FitAll (kinds_of t) row × (key ≡ key_of t row)

-- of a table of the schema, with rows that fit it under that key
pub record IsChange (objects : Schema) (c : RowChange) : Type 0 where
  pub of : TableDef
  pub table_is : numbered objects c.key.0 ≡ Some (object.table of)
  pub key : IsKeyOf of c.key.1
  pub before : FitsUnder of c.key.1 c.before
  pub after : FitsUnder of c.key.1 c.after

-- of a view of the schema
pub record IsGroup (objects : Schema) (place : Place) : Type 0 where
  pub of : ViewTree
  pub view_is : numbered objects place.0 ≡ Some (object.view of)
  pub group : Row
  pub fits : FitAll (group_kinds objects of) group
  pub key : place.1 ≡ key_bytes (group_kinds objects of) group

-- its table or view is there and takes it
abbrev pub IsKnown : Schema → What → Type 0
IsKnown objects (Wrote c) = IsChange objects c
IsKnown objects (Added d) = (g : IsGroup objects (place_of d)) × (length d.sums ≡ length g.of.sums)

-- the definition is accepted beside this database
abbrev pub IsAccepted : Database → Object → Type 0
IsAccepted db o = (count : ℕ) × (kept : List meaning.Kept) × (meaning.bound_meaning (meaning.create o) db ≡ meaning.Accepted [] count kept)

-- each number of a view row is in the HUGE range
abbrev pub InRange : ViewRows → Place → Type 0
InRange view p = (column : ℕ) → IsHuge (stored_number view p column)

-- Records are tried with a condition on the numbers of the view row that a Delta leaves: that they are in range, or none.
module _ (Range : ViewRows → Place → Type 0) where
  -- an applied Write finds its row before; an applied Delta finds its view row
  abbrev pub WhatStands : Stored → What → Type 0
  WhatStands s (Wrote c) = c.before ≡ get s.db.rows c.key
  WhatStands s (Added d) = IsSome (get s.view (place_of d)) × Range (add_to s.view d) (place_of d)

  -- a reversed Write finds its row after; a reversed Delta finds its view row
  abbrev pub BackStands : Rows → ViewRows → What → Type 0
  BackStands rows view (Wrote c) = get rows c.key ≡ c.after
  BackStands rows view (Added d) = IsSome (get view (place_of d)) × Range (add_to view (negated d)) (place_of d)

-- And with a condition on what an Undo reverses.
module _ (Back : Rows → ViewRows → What → Type 0) where
  -- an Undo names the transaction's latest kept record, and that can be reversed
  pub record UndoStands (s : Stored) (t m : ℕ) : Type 0 where
    pub latest : Deed
    pub earlier : List Deed
    pub is_latest : own t s.live ≡ latest ∷ earlier
    pub number : latest.number ≡ m
    pub back : Back s.db.rows s.view latest.what

module _ (Range : ViewRows → Place → Type 0) (Back : Rows → ViewRows → What → Type 0) where
  -- the record fits what stands there, where these came before it
  abbrev pub Stands : Stored → List Event → Event → Type 0
  Stands s rs (Kept x) = (survives rs x.transaction x.number ≡ true) × IsKnown s.db.schema x.what × WhatStands Range s x.what
  Stands s rs (Ghost n p columns) = IsGroup s.db.schema p × (get s.view p ≡ None)
  Stands s rs (Clean n p) = IsGroup s.db.schema p × IsSome (get s.view p) × ((column : ℕ) → stored_number s.view p column ≡ pos 0)
  Stands s rs (Undo n t m) = UndoStands Back s t m
  Stands s rs (Commit n t k) = (survives rs t n ≡ true) × (k ≡ s.db.number + 1)
  Stands s rs (Abort n t) = survives rs t n ≡ true
  Stands s rs (Defined n k o) = (k ≡ s.db.number + 1) × IsAccepted s.db o

abbrev pub WhatFits : Stored → What → Type 0
WhatFits = WhatStands InRange

abbrev pub BackFits : Rows → ViewRows → What → Type 0
BackFits = BackStands InRange

abbrev pub UndoFits : Stored → ℕ → ℕ → Type 0
UndoFits = UndoStands BackFits

abbrev pub RecordFits : Stored → List Event → Event → Type 0
RecordFits = Stands InRange BackFits

abbrev pub number_of : Event → ℕ
number_of (Kept x) = x.number
number_of (Ghost n p c) = n
number_of (Clean n p) = n
number_of (Undo n t m) = n
number_of (Commit n t k) = n
number_of (Abort n t) = n
number_of (Defined n k o) = n

abbrev pub CarriedBelow : ℕ → List Deed → Type 0
CarriedBelow n [] = Unit {0}
CarriedBelow n (x ∷ xs) = (x.number < n) × CarriedBelow n xs

-- the numbers of these fall
abbrev pub DoNumbersFall : List Deed → Type 0
DoNumbersFall [] = Unit {0}
DoNumbersFall (x ∷ xs) = CarriedBelow x.number xs × DoNumbersFall xs

-- the numbers of these records and of the carried ones are below this one
abbrev pub AreBelow : ℕ → List Deed → List Event → Type 0
AreBelow n carried [] = CarriedBelow n carried
AreBelow n carried (r ∷ rs) = (number_of r < n) × AreBelow n carried rs

abbrev pub AllFit : Stored → List Event → Type 0
AllFit s [] = Unit {0}
AllFit s (r ∷ rs) = RecordFits (replay s rs) rs r × AreBelow (number_of r) s.live rs × AllFit s rs

-- what is left can be reversed, the latest first
abbrev pub AllBack : List Deed → Rows → ViewRows → Type 0
AllBack [] rows view = Unit {0}
AllBack (x ∷ xs) rows view = BackFits rows view x.what × AllBack xs (rows_without x.what rows) (view_without x.what view)

pub record IsFit (i : Reading) : Type 0 where
  pub known : AllDeeds (IsKnown i.pages.db.schema) i.carried
  pub fall : DoNumbersFall i.carried
  pub records : AllFit (on_pages i.pages i.carried) i.after
  pub back : AllBack (replayed i).live (replayed i).db.rows (replayed i).view
