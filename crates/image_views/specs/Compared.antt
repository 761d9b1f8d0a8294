-- No clause of `run` rests on this module: it serves contracts between crates.
--
-- The stored rows of all views of a store beside their views, evaluated afresh.
use Rattle.std.specs.Prelude.{◌≡◌, ℕ, ℤ, suc, ◌<◌, List, length, Option, Some, None}
use Rattle.std.specs.FinMap.{get}
use Rattle.iv_types.specs.Maps.{Map}
use Rattle.iv_types.specs.Definitions.{Definitions}
use Rattle.iv_types.specs.Encoding.{IsHuge}
use Rattle.iv_types.specs.declared.lock.ViewRow.{ViewRow}
use Rattle.table_laws.specs.Place.{Place}
use Rattle.iv_meaning.specs.Schema.{Schema, view, ViewTree, numbered}
use Rattle.iv_meaning.specs.Database.{Rows}
use Rattle.txn_machine.specs.Fresh.{fresh}
use Rattle.txn_machine.specs.Laws.{AreInRange}
use Rattle.txn_machine.specs.ViewLaws.{AreSound}
use Rattle.txn_log.specs.Replay.{Pages}
use Rattle.txn_log.specs.Refused.{IsFreshAt, IsFirstWrong}
use Rattle.ghost_rows.specs.State.{State}
use Rattle.data_store.specs.Contents.{Contents}
use Rattle.data_store.specs.Reading.{CanBeRead}
use Rattle.image_views.specs.declared.wrong.WrongRow.{WrongRow}
use Rattle.image_views.specs.declared.wrong.ViewsFound.{ViewsFound}
use Rattle.image_views.specs.declared.wrong.ViewsFound.TheVariants.{Same, OutOfRange, Differs}
use Rattle.image_views.specs.Rows.{ByGroup, column_of, IsCounted, AreBytesOf, listed, AreInOrder}

-- the store has these contents, which can be read and are sound
pub record CanCompare (definitions : Definitions) (maps : ℕ → Map) (state : State) (c : Contents) : Type 0 where
  pub readable : CanBeRead definitions maps state c
  pub sound : AreSound c.objects c.rows

-- and the view is one of them
pub record CanEvaluate (definitions : Definitions) (maps : ℕ → Map) (state : State) (v : ViewTree) (c : Contents) : Type 0 where
  pub comparable : CanCompare definitions maps state c
  pub is_there : numbered c.objects v.number ≡ Some (view v)

-- the rows of the tables and the stored rows of the views, as pages of an image after this commit leave them
abbrev pub pages_of : ℕ → Contents → Pages
pages_of commit c = record { db = record { number = commit; schema = c.objects; rows = c.rows }; view = c.view }

-- ---- one view

-- the row of a place, evaluated afresh: none where the group has no combination, else its count, which is not 0, and its sums
pub record IsFreshRow (objects : Schema) (rows : Rows) (place : Place) (row : Option (List ℤ)) : Type 0 where
  pub columns : (column : ℕ) → column_of row column ≡ fresh objects rows place column
  pub counted : IsCounted row
  pub long : (v : ViewTree) → numbered objects place.0 ≡ Some (view v) → (numbers : List ℤ) → row ≡ Some numbers → length numbers ≡ suc (length v.sums)

-- the numbers of a view are in the HUGE range
abbrev pub IsInRange : Contents → ℕ → Type 0
IsInRange c number = (group : List ℕ) (column : ℕ) → IsHuge (fresh c.objects c.rows (number, group) column)

-- these are the rows of a view, whose numbers are in range
pub record AreFreshRows (c : Contents) (v : ViewTree) (rows : List ViewRow) : Type 0 where
  pub in_range : IsInRange c v.number
  pub in_order : AreInOrder rows
  pub by_group : ByGroup
  pub bytes_are : AreBytesOf (suc (length v.sums)) (listed rows) by_group
  pub rows_are : (group : List ℕ) → IsFreshRow c.objects c.rows (v.number, group) (by_group group)

-- the rows of a view, or none where a number of some view is out of range
abbrev pub IsEvaluated : Contents → ViewTree → Option (List ViewRow) → Type 0
IsEvaluated c v None = AreInRange c.objects c.rows → ⊥
IsEvaluated c v (Some rows) = AreFreshRows c v rows

-- ---- all views

-- the number is not that of a view
abbrev pub IsNoView : Schema → ℕ → Type 0
IsNoView objects number = (v : ViewTree) → numbered objects number ≡ Some (view v) → ⊥

-- the first row that differs, with what is stored of its group and what the view has
pub record IsWrong (c : Contents) (w : WrongRow) : Type 0 where
  pub first : (commit : ℕ) → IsFirstWrong (pages_of commit c) (w.view, w.group)
  pub stored_is : w.stored ≡ get c.view (w.view, w.group)
  pub fresh_is : IsFreshRow c.objects c.rows (w.view, w.group) w.fresh

-- each row is what its view has; a sum of some view is out of range; or no sum is, and this row is the first that differs
abbrev pub IsFound : Contents → ViewsFound → Type 0
IsFound c Same = AreInRange c.objects c.rows × ((commit : ℕ) (place : Place) → IsFreshAt (pages_of commit c) place)
IsFound c OutOfRange = AreInRange c.objects c.rows → ⊥
IsFound c (Differs w) = AreInRange c.objects c.rows × IsWrong c w

-- the same of the views of lesser numbers alone
abbrev pub AreInRangeBelow : Contents → ℕ → Type 0
AreInRangeBelow c most = (number : ℕ) → number < most → IsInRange c number

abbrev pub IsFoundBelow : Contents → ℕ → ViewsFound → Type 0
IsFoundBelow c most Same = AreInRangeBelow c most × ((place : Place) → place.0 < most → IsFreshAt (pages_of 0 c) place)
IsFoundBelow c most OutOfRange = AreInRange c.objects c.rows → ⊥
IsFoundBelow c most (Differs w) = AreInRangeBelow c most × IsWrong c w
