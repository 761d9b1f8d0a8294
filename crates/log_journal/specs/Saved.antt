-- No clause of `run` rests on this module: it serves contracts between crates.
--
-- What a checkpoint saves: which entries, with which header, and the records that its log begins with.
use Rattle.std.specs.Prelude.{◌≡◌, ℕ, zero, suc, ◌+◌, ◌-◌, ◌<◌, ◌≤◌, Bool, true, false, List, [], ◌∷◌, ◌++◌, length, reverse, get_or, Option, Some}
use Rattle.iv_types.specs.Maps.{last_index}
use Rattle.iv_types.specs.declared.catalog.Definition.{Definition}
use Rattle.iv_types.specs.declared.catalog.Definition.TheVariants.{Table, View}
use Rattle.iv_types.specs.Definitions.{Definitions, numbered}
use Rattle.page_store.specs.declared.facts.HeaderFacts.{HeaderFacts}
use Rattle.page_store.specs.Image as page
use Rattle.page_store.specs.Image.{image}
use Rattle.ordered_index.specs.Drawn.{HoldsJust}
use Rattle.log_records.specs.Area.{group, block}
use Rattle.wal_log.specs.Log.{LogState}
use Rattle.core_journal.specs.Records.{Saved}
use Rattle.log_journal.specs.declared.journal.LogJournal.{LogJournal}

-- the rows of a table and the totals of a view are saved; the entries of an index are made from these
abbrev pub has_saved : Option Definition → Bool
has_saved (Some (Table table)) = true
has_saved (Some (View view)) = true
has_saved _ = false

-- index 0 has the definitions
abbrev pub is_saved : Definitions → ℕ → Bool
is_saved definitions zero = true
is_saved definitions (suc n) = has_saved (numbered definitions (suc n))

-- just those of all indexes are marked whose entries are saved
pub record MarksSaved (definitions : Definitions) (kept : List Bool) : Type 0 where
  pub many : length kept ≡ last_index + 1
  pub each : (index : ℕ) → index ≤ last_index → get_or kept index false ≡ is_saved definitions index

-- The live header among these bytes, of a disk with so many pages and areas of so many bytes, is that of a checkpoint that saved this: its
-- pages hold just the entries of the saved indexes.
pub record HasSaved (room count : ℕ) (bytes : List ℕ) (saved : Saved) : Type 0 where
  pub here : page.Image
  pub means : image room count bytes ≡ Some here
  pub format : here.format ≡ 1
  pub pages : here.pages ≡ count
  pub areas : here.area_size ≡ room
  pub low_area : here.area ≤ 1
  pub low_map : (p : ℕ) → p < count → get_or here.map p 0 ≤ 2
  pub commit_number : here.commits ≡ saved.commits
  pub next_number : here.next_entry ≡ saved.next
  pub redo : here.redo ≡ length (block (group (reverse saved.carried)))
  pub kept : List Bool
  pub marks : MarksSaved saved.definitions kept
  pub entries : HoldsJust kept saved.maps here.stored

-- the header: of format 1, with the next number, and in the area that is not in use
abbrev pub next_header : {D : Type 0} → LogJournal D → ℕ → HeaderFacts
next_header journal commits = record { format = 1; number = journal.saved + 1; commits = commits; next_entry = journal.log.next; area = 1 - journal.area }

-- the first block, and the closed gate behind it
abbrev pub first_block : LogState → List ℕ
first_block log = block log.first ++ 0 ∷ []
