-- No clause of `run` rests on this module: it serves contracts between crates.
--
-- Which image the bytes of a disk bear: its live header, the entries of the pages that this names, and the records that a scan of its
-- log area gives.
use Rattle.std.specs.Prelude.{◌≡◌, ◌≢◌, ◌⊎◌, ℕ, ◌+◌, ◌==◌, if◌then◌else◌, ◌≤◌, ◌<◌, ◌^◌, List, [], ◌∷◌, ◌++◌, map, length, reverse, get_or, Option, Some, None, Ok}
use Rattle.std.specs.List.{Contains, AllByRecursion}
use Rattle.page_store.specs.Image as page
use Rattle.page_store.specs.Image.{image}
use Rattle.slot_page.specs.Page.{entry_head, page_body, entries, index_of, IsLeaf}
use Rattle.log_records.specs.Area.{Entry, group, block, laid}
use Rattle.log_records.specs.Scan.{scanned, frame_size}
use Rattle.txn_log.specs.Replay.{Pages}
use Rattle.txn_log.specs.Appended.{Image}
use Rattle.txn_log.specs.Groups.{after_of}
use Rattle.txn_log.specs.Stored.{PageEntry, IsRowEntry, IsTotalEntry, StandFor, Define, AreProper}
use Rattle.log_disk.specs.Spelled.{spelled, AreSpellable, AreSpelled}

-- ---- stored pages

abbrev pub page_entries : List ℕ → List PageEntry
page_entries page = map (λ e. ((index_of page, e.0), e.1)) (entries page)

-- the entries of all stored pages
abbrev pub all_entries : List (Option (List ℕ)) → List PageEntry
all_entries [] = []
all_entries (None ∷ pages) = all_entries pages
all_entries (Some page ∷ pages) = page_entries page ++ all_entries pages

-- each stored page is a leaf whose entries can be read
abbrev pub AreLeaves : List (Option (List ℕ)) → Type 0
AreLeaves [] = Unit {0}
AreLeaves (None ∷ pages) = AreLeaves pages
AreLeaves (Some page ∷ pages) = IsLeaf page × AreLeaves pages

-- no two are of one index and key
abbrev pub StandOnce : List PageEntry → Type 0
StandOnce [] = Unit {0}
StandOnce (e ∷ es) = (Contains (map (λ f. f.0) es) e.0 → ⊥) × StandOnce es

-- Stored pages hold the rows, the totals and the definitions of these, in entries that stand once. Object numbers fit four bytes, and
-- parts of a definition two.
pub record AreStoredAs (stored : List (Option (List ℕ))) (p : Pages) : Type 0 where
  pub proper : AreProper p
  pub leaves : AreLeaves stored
  pub apart : StandOnce (all_entries stored)
  pub texts : List (List (List ℕ))
  pub few : length texts < 2 ^ 32
  pub short : AllByRecursion (λ parts. length parts ≤ 2 ^ 16) texts
  pub define : Define texts p.db.schema
  pub stand : StandFor (all_entries stored) texts p

-- ---- the image

-- a live header and its pages are those of a checkpoint, on a disk with areas of this size and this many pages
pub record IsSavedAs (room count : ℕ) (here : page.Image) (p : Pages) : Type 0 where
  pub format : here.format ≡ 1
  pub pages : here.pages ≡ count
  pub areas : here.area_size ≡ room
  pub area : here.area ≤ 1
  pub low : (n : ℕ) → n < count → get_or here.map n 0 ≤ 2
  pub commits : here.commits ≡ p.db.number
  pub stored : AreStoredAs here.stored p

-- the first block has the carried records, and ends at the redo place; the other blocks have the further ones
pub record HasRecords (here : page.Image) (i : Image) (first : List Entry) (others : List (List Entry)) : Type 0 where
  pub carried : reverse first ≡ map (spelled i.pages.db.schema) i.carried
  pub fit : AreSpellable i.pages.db.schema i.carried
  pub redo : here.redo ≡ length (block (group first))
  pub after : AreSpelled i.pages.db.schema i.after (after_of others)

-- where the first block of an area ends, if its gate is open
abbrev pub end_of_first : List ℕ → Option ℕ
end_of_first area = if get_or area 0 0 == 165 then Some (frame_size area) else None

-- the bytes of a disk bear this image
pub record Bears (room count : ℕ) (c : List ℕ) (i : Image) : Type 0 where
  pub here : page.Image
  pub means : image room count c ≡ Some here
  pub pages : IsSavedAs room count here i.pages
  pub first : List Entry
  pub others : List (List Entry)
  pub first_end : end_of_first here.log ≡ Some here.redo
  pub scan : scanned here.log ≡ Ok (laid 0 (first ∷ others))
  pub records : HasRecords here i first others

-- ---- laws

-- it fits a page of its own
abbrev pub FitsPage : PageEntry → Type 0
FitsPage e = (e.0.0 < 2 ^ 32) × (length e.0.1 + length e.1 + entry_head ≤ page_body)

-- for proper pages whose texts and entries fit there are stored pages that hold them
abbrev pub StoredLaw : Type 0
StoredLaw = (p : Pages) (texts : List (List (List ℕ))) → AreProper p → Define texts p.db.schema → length texts < 2 ^ 32
    → AllByRecursion (λ parts. length parts ≤ 2 ^ 16) texts → ((e : PageEntry) → IsRowEntry p e ⊎ IsTotalEntry p e → FitsPage e)
    → (stored : List (Option (List ℕ))) × AreStoredAs stored p

-- a first block whose gate is closed has no end, and an open one ends behind its records
abbrev pub FirstEndLaw : Type 0
FirstEndLaw = (area : List ℕ) → (get_or area 0 0 ≢ 165 → end_of_first area ≡ None)
    × ((bytes tail : List ℕ) → area ≡ block bytes ++ tail → length bytes < 2 ^ 32 → end_of_first area ≡ Some (length (block bytes)))

-- bytes bear one image
abbrev pub OneImageLaw : Type 0
OneImageLaw = (room count : ℕ) (c : List ℕ) (i j : Image) → Bears room count c i → Bears room count c j → i ≡ j
