-- No clause of `run` rests on this module: it serves contracts between crates.
--
-- The records of an image at their places, as a scan of the log area reads them. Lists of placed records have the latest first.
use Rattle.std.specs.Prelude.{◌≡◌, ℕ, ◌+◌, ◌-◌, ◌*◌, ◌≤◌, List, [], ◌∷◌, length, reverse, Option, Some, None, Ok}
use Rattle.disk_io.specs.Disk.{part, AreBytes}
use Rattle.page_store.specs.Image as page
use Rattle.page_store.specs.Image.{area_at, image}
use Rattle.log_records.specs.declared.record.Scanned.{Scanned}
use Rattle.log_records.specs.Spelling.{spelling}
use Rattle.log_records.specs.Area.{Entry, group, block, at_places, laid, unplaced}
use Rattle.log_records.specs.Scan.{scanned}
use Rattle.iv_meaning.specs.Schema.{Schema}
use Rattle.txn_log.specs.Replay.{Pages}
use Rattle.txn_log.specs.Appended.{Numbered, Image}
use Rattle.txn_log.specs.Refused.{Placed, PlacedImage, IsPlaced}
use Rattle.log_disk.specs.Spelled.{spelled, IsSpellable, LeadTo}
use Rattle.log_disk.specs.Bears.{AreStoredAs, Bears}
use Rattle.log_disk.specs.Found.{IsWhole}

-- what the bytes of a record stand for beside these definitions, if its rows decode
abbrev pub StandsFor : Schema → Entry → Option Numbered → Type 0
StandsFor objects e None = (n : Numbered) → IsSpellable objects n.of → e ≡ spelled objects n → ⊥
StandsFor objects e (Some n) = IsSpellable objects n.of × (e ≡ spelled objects n)

abbrev pub with_known : Option Numbered → List Numbered → List Numbered
with_known None ns = ns
with_known (Some n) ns = n ∷ ns

-- the records among these that do
abbrev pub known : List Placed → List Numbered
known [] = []
known (r ∷ rs) = with_known r.entry (known rs)

-- carried records, in an area that begins at this place
abbrev pub AreCarriedAt : ℕ → Schema → List Placed → List Scanned → Type 0
AreCarriedAt at objects [] [] = Unit {0}
AreCarriedAt at objects (r ∷ rs) (s ∷ ss) = (r.place ≡ at + s.place) × StandsFor objects (unplaced s) r.entry × AreCarriedAt at objects rs ss
AreCarriedAt at objects _ _ = ⊥

-- further ones, each beside the definitions that stand where it was appended
abbrev pub AreFurtherAt : ℕ → Schema → List Placed → List Scanned → Type 0
AreFurtherAt at objects [] [] = Unit {0}
AreFurtherAt at objects (r ∷ rs) (s ∷ ss) =
    (r.place ≡ at + s.place) × ((before : Schema) → LeadTo objects (known rs) before → StandsFor before (unplaced s) r.entry) × AreFurtherAt at objects rs ss
AreFurtherAt at objects _ _ = ⊥

-- the most bytes that the entries of an image of so many pages may take
abbrev pub data_limit : ℕ → ℕ
data_limit pages = (pages - 256) * 1200

-- The pages are those that are stored, with their texts. The records of the first block are carried, those of the other blocks come after
-- the redo place.
pub record ArePlacedIn (here : page.Image) (i : PlacedImage) : Type 0 where
  pub stored : AreStoredAs here.stored i.pages
  pub commits : i.pages.db.number ≡ here.commits
  pub texts : i.texts ≡ stored.texts
  pub limit : i.data_limit ≡ Some (data_limit here.pages)
  pub first : List Entry
  pub others : List (List Entry)
  pub scan : scanned here.log ≡ Ok (laid 0 (first ∷ others))
  pub redo : here.redo ≡ length (block (group first))
  pub carried : AreCarriedAt (area_at here.area_size here.area) i.pages.db.schema i.carried (reverse (at_places 5 first))
  pub after : AreFurtherAt (area_at here.area_size here.area) i.pages.db.schema i.after (reverse (laid here.redo others))

-- ---- laws

-- what is placed of bytes that bear an image is that image at the places of its records, with the texts of its definitions; its entries
-- may take 1,200 bytes for each page above 256
pub record PlacesImage (count : ℕ) (texts : List (List (List ℕ))) (i : Image) (p : PlacedImage) : Type 0 where
  pub image : IsPlaced p i
  pub texts_are : p.texts ≡ texts
  pub limit : 256 ≤ count → (bytes : ℕ) × (p.data_limit ≡ Some bytes) × (bytes + 307200 ≡ 1200 * count)

abbrev pub PlacedLaw : Type 0
PlacedLaw = (room count : ℕ) (c : List ℕ) (i : Image) (b : Bears room count c i) (p : PlacedImage) → ArePlacedIn b.here p → PlacesImage count b.pages.stored.texts i p

-- how many bytes a record has
abbrev pub size_of : Entry → ℕ
size_of e = length (spelling e.number e.entry)

-- a record's number and fields are the device's bytes from this place on
abbrev pub BeginsAt : List ℕ → ℕ → Entry → Type 0
BeginsAt c place e = part place (size_of e) c ≡ spelling e.number e.entry

-- Records fill the device's bytes between these places: each begins where the one before it ends.
abbrev pub Fill : List ℕ → ℕ → ℕ → Schema → List Placed → Type 0
Fill c from to objects [] = from ≡ to
Fill c from to objects (r ∷ rs) = (e : Entry) × StandsFor objects e r.entry × BeginsAt c r.place e × (r.place + size_of e ≡ to) × Fill c from r.place objects rs

-- They lie between these places: none begins before the one before it ends.
abbrev pub LieBetween : List ℕ → ℕ → ℕ → Schema → List Placed → Type 0
LieBetween c from to objects [] = Unit {0}
LieBetween c from to objects (r ∷ rs) =
    (e : Entry) × ((before : Schema) → LeadTo objects (known rs) before → StandsFor before e r.entry) × BeginsAt c r.place e × (from ≤ r.place) × (r.place + size_of e ≤ to)
    × LieBetween c from r.place objects rs

-- so the carried records fill the first block behind its gate and its length, and the others lie behind the redo place
abbrev pub RecordsLieLaw : Type 0
RecordsLieLaw = (room count : ℕ) (c : List ℕ) (here : page.Image) → AreBytes c → image room count c ≡ Some here → here.area_size ≡ room → (i : PlacedImage) → ArePlacedIn here i
    → Fill c (area_at room here.area + 5) (area_at room here.area + here.redo) i.pages.db.schema i.carried
    × LieBetween c (area_at room here.area + here.redo) (area_at room here.area + room) i.pages.db.schema i.after

-- for whole blocks and stored pages there is what is placed: that there is none can't be
abbrev pub PlacedThereLaw : Type 0
PlacedThereLaw = (room count : ℕ) (c : List ℕ) (here : page.Image) → AreBytes c → IsWhole room count c here → (p : Pages) → AreStoredAs here.stored p → p.db.number ≡ here.commits
    → ((i : PlacedImage) → i.pages ≡ p → ArePlacedIn here i → ⊥) → ⊥
