-- No clause of `run` rests on this module: it serves contracts between crates.
--
-- The texts of definitions as entries of index 0: in parts, each under its object's number and its own.
use Rattle.std.specs.Prelude.{◌≡◌, ℕ, suc, ◌+◌, ◌≤◌, ◌<◌, ◌^◌, List, [], ◌∷◌, length, Option}
use Rattle.std.specs.List.{AllByRecursion}
use Rattle.std.specs.FinMap.{empty}
use Rattle.iv_types.specs.Definitions.{Definitions}
use Rattle.iv_types.specs.Maps.{Map, IsWithin, used}
use Rattle.iv_types.specs.declared.lock.IndexEntry.{IndexEntry}
use Rattle.table_store.specs.Filling.{filled}
use Rattle.txn_machine.specs.Log.{definition_entries}
use Rattle.txn_log.specs.Damaged.{part_key}
use Rattle.txn_log.specs.Stored.{in_parts}

-- ---- the entries of a text

-- a part of an object's text
abbrev pub part_entry : ℕ → ℕ → List ℕ → IndexEntry
part_entry number part bytes = record { index = 0; key = part_key number part; value = bytes }

-- parts, the first of which has this number
abbrev pub entries_from : ℕ → ℕ → List (List ℕ) → List IndexEntry
entries_from number part [] = []
entries_from number part (bytes ∷ parts) = part_entry number part bytes ∷ entries_from number (suc part) parts

-- all parts of an object's text
abbrev pub part_entries : ℕ → List ℕ → List IndexEntry
part_entries number text = entries_from number 0 (in_parts text)

-- two bytes tell its parts apart
abbrev pub IsShort : List ℕ → Type 0
IsShort text = length (in_parts text) ≤ 2 ^ 16

-- ---- the entries of all texts

-- the parts of texts come to a map, the first of which is that of this object
abbrev pub with_texts : ℕ → Map → List (List ℕ) → Map
with_texts number m [] = m
with_texts number m (text ∷ texts) = with_texts (suc number) (filled m (part_entries number text)) texts

-- the parts of the texts of objects 1, 2, ..
abbrev pub parts_map : List (List ℕ) → Map
parts_map texts = with_texts 1 empty texts

-- these are the entries of the parts of texts, one for each definition, whose numbers tell them apart
pub record HasTexts (entries : Map) (definitions : Definitions) (texts : List (List ℕ)) : Type 0 where
  pub are : entries ≡ parts_map texts
  pub many : length texts ≡ length definitions
  pub short : AllByRecursion IsShort texts
  pub few : length texts < 2 ^ 32

-- ---- one text more

-- These are the parts of a text that comes behind those whose parts the index has. There is room for them, and all entries are within
-- the limit then.
pub record CanPutText (maps : ℕ → Map) (room : ℕ) (limit : Option ℕ) (texts : List (List ℕ)) (text : List ℕ) (parts : List IndexEntry) : Type 0 where
  pub are : parts ≡ part_entries (suc (length texts)) text
  pub stored : maps 0 ≡ parts_map texts
  pub few : suc (length texts) < 2 ^ 32
  pub short : IsShort text
  pub places : length parts ≤ room
  pub within : IsWithin limit (used maps + definition_entries text)
