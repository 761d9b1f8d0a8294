-- No clause of `run` rests on this module: it serves contracts between crates.
--
-- A store that has what the stored pages of an image have.
use Rattle.std.specs.Prelude.{◌≡◌, ℕ, ◌+◌, ◌-◌, ◌^◌, List, [], ◌∷◌, map, length, min, Option, None}
use Rattle.std.specs.List.{sum}
use Rattle.std.specs.FinMap.{entries}
use Rattle.iv_types.specs.Definitions.{Definitions}
use Rattle.iv_types.specs.Maps.{Map}
use Rattle.page_store.specs.Image as page
use Rattle.table_store.specs.Lists.{Listed, map_at}
use Rattle.ghost_rows.specs.Rows.{no_rows}
use Rattle.ghost_rows.specs.State.{State}
use Rattle.txn_machine.specs.Log.{entry_bytes}
use Rattle.txn_log.specs.Replay.{Pages}
use Rattle.txn_log.specs.Stored.{AreProper, parts_entries}
use Rattle.txn_log.specs.Damaged.{Found}
use Rattle.log_disk.specs.Bears.{AreStoredAs}
use Rattle.log_disk.specs.Found.{IsWhole}
use Rattle.data_store.specs.Held.{IsHeld}
use Rattle.data_store.specs.declared.store.DataStore.{DataStore}
use Rattle.definition_parts.specs.Parts.{HasTexts}
use Rattle.image_finding.specs.declared.image.FoundImage.{FoundImage}
use Rattle.image_finding.specs.Headers.{as_header, StandsUpTo}
use Rattle.image_finding.specs.Images.{HasImage}
use Rattle.image_entries.specs.declared.parts.Part.{Part}
use Rattle.image_entries.specs.Entries.{Gathers, found_entries}
use Rattle.image_entries.specs.Parts.{parts_found, definitions_in}
use Rattle.image_store.specs.Filled.{Entries, AreOf}
use Rattle.record_replay.specs.Standing.{Has, contents_of}

-- ---- what was read

-- these are the entries of the stored pages of an image in these bytes, and the parts of definitions among them
pub record IsReadFrom (c : List ℕ) (image : FoundImage) (m : Entries) (parts : List Part) : Type 0 where
  pub found : HasImage c image
  pub gathers : Gathers m (found_entries image c)
  pub parts_are : parts_found parts ≡ definitions_in (entries m)
  pub stands : StandsUpTo 10 c (as_header image.header)

-- what entries of parts count
abbrev pub found_bytes : List Found → ℕ
found_bytes [] = 0
found_bytes (f ∷ fs) = entry_bytes 6 (length f.entry.1) + found_bytes fs

-- ---- a store that has it

-- the store has what some proper pages have, of which these are the entries, with the texts of its definitions, and no row of a view is
-- open in memory
pub record IsFilledWith (texts : List (List ℕ)) (m : Entries) (definitions : Definitions) (maps : ℕ → Map) (state : State) : Type 0 where
  pub pages : Pages
  pub held : IsHeld definitions maps state (contents_of pages)
  pub entries : AreOf m pages
  pub proper : AreProper pages
  pub closed : state.rows ≡ no_rows
  pub has_texts : HasTexts (maps 0) definitions texts

-- a store over maps in memory, which have no limit
abbrev pub TreeStore : Type 0
TreeStore = DataStore (List Listed)

abbrev pub no_limit : List Listed → Option ℕ
no_limit maps = None

-- it has some pages, whatever number they have
abbrev pub HasSomePages : TreeStore → Type 0
HasSomePages store = (number : ℕ) → (p : Pages) × Has map_at no_limit store p × (p.db.number ≡ number)

-- it has those that stand in these bytes
abbrev pub HasPagesOf : List ℕ → TreeStore → Type 0
HasPagesOf c store = (room count : ℕ) (here : page.Image) → IsWhole room count c here → (p : Pages) → AreStoredAs here.stored p → p.db.number ≡ here.commits → Has map_at no_limit store p

-- these are the bytes of the entries of its texts, if they fit a `u64`
abbrev pub CountsTextsOf : List ℕ → ℕ → Type 0
CountsTextsOf c bytes = (room count : ℕ) (here : page.Image) → IsWhole room count c here → (p : Pages) (a : AreStoredAs here.stored p) → bytes ≡ min (sum (map parts_entries a.texts)) (2 ^ 64 - 1)
