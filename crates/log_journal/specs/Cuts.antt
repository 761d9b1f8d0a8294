-- No clause of `run` rests on this module: it serves contracts between crates.
--
-- What the bytes of a disk have of a journal, and what a crash leaves of it.
use Rattle.std.specs.Prelude.{◌≡◌, ◌⊎◌, ℕ, List, ◌∷◌, reverse}
use Rattle.std.specs.List.{AllByRecursion}
use Rattle.disk_io.specs.Disk.{LeavesOnly}
use Rattle.page_store.specs.Image.{image}
use Rattle.log_records.specs.Area.{Entry, Begins, FitsBlock}
use Rattle.txn_log.specs.Groups.{after_of}
use Rattle.core_journal.specs.Cuts.{Cut}
use Rattle.log_journal.specs.Saved.{HasSaved}
use Rattle.log_journal.specs.declared.journal.LogJournal.{LogJournal}

-- The live header among these bytes, of a disk with so many pages and areas of so many bytes, is that of a checkpoint that saved this; its
-- area begins with a block of what that carried, and behind it are blocks with these records.
pub record BearsCut (room count : ℕ) (c : List ℕ) (x : Cut) : Type 0 where
  pub saved : HasSaved room count c x.saved
  pub others : List (List Entry)
  pub fit : AllByRecursion FitsBlock (reverse x.saved.carried ∷ others)
  pub begins : Begins (reverse x.saved.carried ∷ others) saved.here.log
  pub are : after_of others ≡ x.records

-- of a disk of some size
abbrev pub IsBorne : List ℕ → Cut → Type 0
IsBorne c x = (room : ℕ) × (count : ℕ) × BearsCut room count c x

-- the image that stood in these bytes, or this
abbrev pub ImageOrCut : ℕ → ℕ → List ℕ → Cut → List ℕ → Type 0
ImageOrCut room count s x c = (image room count c ≡ image room count s) ⊎ BearsCut room count c x

-- what a journal writes to: a disk with two log areas of so many bytes, and so many pages
pub record Medium (D : Type 0) : Type 0 where
  pub disk : D
  pub area : ℕ
  pub pages : ℕ

abbrev pub medium_of : {D : Type 0} → LogJournal D → Medium D
medium_of journal = record { disk = journal.disk; area = journal.log.size; pages = journal.pages }

module _ {D : Type 0} (is_told : Type 0) where
  -- its disk has this
  abbrev pub StandsOn : (seen : D → List ℕ) → LogJournal D → Cut → Type 0
  StandsOn seen journal x = is_told → BearsCut journal.log.size journal.pages (seen journal.disk) x

  -- a crash at any moment leaves the one or the other
  abbrev pub Leaves : (moment : D → ℕ) (left_since : D → ℕ → List ℕ → Type 0) → Medium D → Medium D → Cut → Cut → Type 0
  Leaves moment left_since old new x y = is_told → LeavesOnly moment left_since old.disk new.disk (λ c. IsBorne c x ⊎ IsBorne c y)
