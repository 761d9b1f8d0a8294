-- No clause of `run` rests on this module: it serves contracts between crates.
--
-- The page map and the pages that it names.
use Rattle.std.specs.Prelude.{◌≡◌, ℕ, suc, ◌+◌, ◌≤◌, ◌<◌, List, length, get_or, Option, Some, None}
use Rattle.disk_io.specs.Disk.{part}
use Rattle.page_store.specs.Image.{slot_at, named}
use Rattle.slot_page.specs.Page.{IsLeaf}
use Rattle.image_finding.specs.declared.fault.BadImage.{BadImage}

-- each byte of a page map is 0, 1 or 2
abbrev pub IsLow : List ℕ → Type 0
IsLow map = (n : ℕ) → get_or map n 0 ≤ 2

-- the first byte above 2 of a page map that begins at this place is told by rule 8
pub record IsHighAt (at : ℕ) (map : List ℕ) (bad : BadImage) : Type 0 where
  pub page : ℕ
  pub inside : page < length map
  pub high : 2 < get_or map page 0
  pub first : (n : ℕ) → n < page → get_or map n 0 ≤ 2
  pub rule : bad.rule ≡ 8
  pub place : bad.place ≡ at + page

-- a page is a leaf whose entries lie between its head and their places, if it is stored
abbrev pub IsLeafIf : Option (List ℕ) → Type 0
IsLeafIf None = Unit {0}
IsLeafIf (Some page) = IsLeaf page

-- each stored page is, of so many
abbrev pub AreLeaves : ℕ → ℕ → List ℕ → List ℕ → Type 0
AreLeaves room pages map c = (n : ℕ) → n < pages → IsLeafIf (named room n (get_or map n 0) c)

-- a page with this byte is stored and no such leaf, and rule 9 tells its place
pub record IsNoLeaf (room n byte : ℕ) (c : List ℕ) (bad : BadImage) : Type 0 where
  pub slot : ℕ
  pub stored : byte ≡ suc slot
  pub leaf : IsLeaf (part (slot_at room n slot) 8192 c) → ⊥
  pub rule : bad.rule ≡ 9
  pub place : bad.place ≡ slot_at room n slot
