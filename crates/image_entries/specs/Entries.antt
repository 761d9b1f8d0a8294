-- No clause of `run` rests on this module: it serves contracts between crates.
--
-- The entries of the stored pages of an image, and a map of them.
use Rattle.std.specs.Prelude.{◌≡◌, ℕ, zero, suc, List, [], ◌∷◌, ◌++◌, get_or, map, Some}
use Rattle.std.specs.List.{Contains}
use Rattle.std.specs.FinMap.{FinMap, get}
use Rattle.disk_io.specs.Disk.{part}
use Rattle.page_store.specs.Image.{slot_at}
use Rattle.table_laws.specs.Place.{Place, place_cmp}
use Rattle.txn_log.specs.Damaged.{Found, found_in, FirstBad}
use Rattle.log_disk.specs.Bears.{page_entries}
use Rattle.image_finding.specs.declared.fault.BadImage.{BadImage}
use Rattle.image_finding.specs.declared.image.FoundImage.{FoundImage}
use Rattle.image_entries.specs.declared.stored.StoredEntry.{StoredEntry}

-- ---- the entries of the bytes

-- those of a page by its byte of the page map, with its place
abbrev pub found_on : ℕ → ℕ → ℕ → List ℕ → List Found
found_on room n zero c = []
found_on room n (suc slot) c = found_in (slot_at room n slot) (page_entries (part (slot_at room n slot) 8192 c))

-- those of so many pages, in order
abbrev pub found_before : ℕ → List ℕ → ℕ → List ℕ → List Found
found_before room map zero c = []
found_before room map (suc n) c = found_before room map n c ++ found_on room n (get_or map n 0) c

-- those of all pages
abbrev pub found_entries : FoundImage → List ℕ → List Found
found_entries image c = found_before image.header.area_bytes image.map image.header.pages c

-- ---- a map of them

-- what is kept of one under its place
abbrev pub held_of : Found → StoredEntry
held_of f = record { page = f.page; value = f.entry.1 }

-- what is kept, as an entry
abbrev pub found_at : Place → StoredEntry → Found
found_at p s = record { page = s.page; entry = (p, s.value) }

-- a map has each of these entries under its place, and no others
pub record HasEntries (m : FinMap place_cmp StoredEntry) (fs : List Found) : Type 0 where
  pub held : (f : Found) → Contains fs f → get m f.entry.0 ≡ Some (held_of f)
  pub only : (p : Place) (s : StoredEntry) → get m p ≡ Some s → Contains fs (found_at p s)

-- ---- entries of one place

-- an entry has the index and the key of an earlier one
abbrev pub IsTwice : List Found → Found → Type 0
IsTwice earlier g = Contains (map (λ e. e.entry.0) earlier) g.entry.0

-- where none of a list is bad beside those before it, of which the latest stands first
abbrev pub NoneBad : {X : Type 0} → (List X → X → Type 0) → List X → List X → Type 0
NoneBad bad earlier [] = Unit {0}
NoneBad bad earlier (y ∷ ys) = (bad earlier y → ⊥) × NoneBad bad (y ∷ earlier) ys

-- a map has these entries, of which no two have one place
pub record Gathers (m : FinMap place_cmp StoredEntry) (fs : List Found) : Type 0 where
  pub has : HasEntries m fs
  pub apart : NoneBad IsTwice [] fs

-- the page of the first of them that has the place of an earlier one is told by rule 10
pub record TellsTwice (fs : List Found) (bad : BadImage) : Type 0 where
  pub twice : Found
  pub first : FirstBad IsTwice [] fs twice
  pub rule : bad.rule ≡ 10
  pub place : bad.place ≡ twice.page
