-- No clause of `run` rests on this module: it serves contracts between crates.
--
-- Entries of an image as rows of its tables and views: rule 12.
use Rattle.std.specs.Prelude.{◌≡◌, ◌⊎◌, ℕ, suc, ◌≤◌, min, ℤ, List, length, ◌++◌, Option, Some, None}
use Rattle.std.specs.List.{All}
use Rattle.std.specs.FinMap.{FinMap, get}
use Rattle.iv_types.specs.declared.catalog.TableDef.{TableDef}
use Rattle.iv_types.specs.declared.value.Kind.TheVariants.{Huge}
use Rattle.iv_types.specs.declared.value.Value.TheVariants.{Number}
use Rattle.iv_types.specs.Encoding.{IsHuge, FitAll, kinds_of, value_bytes, row_bytes}
use Rattle.table_laws.specs.Place.{Place, place_cmp}
use Rattle.iv_meaning.specs.Schema.{Schema}
use Rattle.iv_meaning.specs.Database.{Row, key_of}
use Rattle.txn_log.specs.Fitting.{IsGroup}
use Rattle.txn_log.specs.Stored.{total_bytes}
use Rattle.txn_log.specs.Damaged.{EntryStands}
use Rattle.image_finding.specs.declared.fault.BadImage.{BadImage}
use Rattle.image_entries.specs.declared.stored.StoredEntry.{StoredEntry}

-- ---- one entry

-- the bytes of a row of the table, under its key
pub record IsRowUnder (t : TableDef) (key value : List ℕ) : Type 0 where
  pub row : Row
  pub fits : FitAll (kinds_of t) row
  pub bytes : value ≡ row_bytes (kinds_of t) row
  pub key_is : key ≡ key_of t row

-- bytes with a number of the HUGE range before these
pub record HasNumber (bytes rest : List ℕ) : Type 0 where
  pub number : ℤ
  pub in_range : IsHuge number
  pub is : bytes ≡ value_bytes Huge (Number number) ++ rest

abbrev pub BeginsWithNumber : List ℕ → Type 0
BeginsWithNumber bytes = (rest : List ℕ) × HasNumber bytes rest

-- the bytes of so many numbers of the HUGE range
pub record AreNumbers (many : ℕ) (value : List ℕ) : Type 0 where
  pub numbers : List ℤ
  pub count : length numbers ≡ many
  pub in_range : All IsHuge numbers
  pub bytes : value ≡ total_bytes numbers

-- the count and the sums of a group of a view, under its key
pub record IsGroupEntry (objects : Schema) (place : Place) (value : List ℕ) : Type 0 where
  pub group : IsGroup objects place
  pub numbers : AreNumbers (suc (length group.of.sums)) value

-- ---- all entries

-- the lesser of two pages, or the only one
abbrev pub lesser : ℕ → Option ℕ → ℕ
lesser page None = page
lesser page (Some other) = min other page

-- the least page with that of this entry, if it fails
abbrev pub LeastWith : Schema → Place → StoredEntry → Option ℕ → Option ℕ → Type 0
LeastWith objects p s least found =
    (EntryStands objects (p, s.value) × (found ≡ least)) ⊎ ((EntryStands objects (p, s.value) → ⊥) × (found ≡ Some (lesser s.page least)))

-- the entry stands; or it fails, and its page is none before this one
abbrev pub StandsOrBehind : Schema → ℕ → Place → StoredEntry → Type 0
StandsOrBehind objects page p s = EntryStands objects (p, s.value) ⊎ ((EntryStands objects (p, s.value) → ⊥) × (page ≤ s.page))

-- an entry of this page fails, and none of a lesser page
pub record IsLeast (objects : Schema) (m : FinMap place_cmp StoredEntry) (page : ℕ) : Type 0 where
  pub at : Place
  pub held : StoredEntry
  pub there : get m at ≡ Some held
  pub fails : EntryStands objects (at, held.value) → ⊥
  pub page_is : page ≡ held.page
  pub others : (p : Place) (s : StoredEntry) → get m p ≡ Some s → StandsOrBehind objects page p s

-- the least page with an entry that fails, or none where each stands
abbrev pub AreTold : Schema → FinMap place_cmp StoredEntry → Option ℕ → Type 0
AreTold objects m None = (p : Place) (s : StoredEntry) → get m p ≡ Some s → EntryStands objects (p, s.value)
AreTold objects m (Some page) = IsLeast objects m page

-- it is told by rule 12
pub record TellsEntry (objects : Schema) (m : FinMap place_cmp StoredEntry) (bad : BadImage) : Type 0 where
  pub rule : bad.rule ≡ 12
  pub least : IsLeast objects m bad.place
