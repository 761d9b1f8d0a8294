-- No clause of `run` rests on this module: it serves contracts between crates.
--
-- What is told of an image, and what is read of it.
use Rattle.std.specs.Prelude.{◌≡◌, ◌⊎◌, ℕ, ◌+◌, ◌^◌, ◌≤◌, ◌<◌, List, []}
use Rattle.std.specs.FinMap.{empty, get}
use Rattle.iv_types.specs.Maps.{used}
use Rattle.table_laws.specs.Place.{Place}
use Rattle.table_store.specs.Lists.{map_at}
use Rattle.txn_machine.specs.Laws.{AreInRange}
use Rattle.txn_log.specs.Replay.{Pages, Reading, recovered}
use Rattle.txn_log.specs.Refused.{PlacedImage, ReversesAs, IsFreshAt, BadImage, BadView, IsRefused, IsFine, most_number}
use Rattle.log_disk.specs.Placed.{data_limit}
use Rattle.data_store.specs.Contents.{Contents}
use Rattle.image_finding.specs.Headers.{as_header, StandsUpTo}
use Rattle.image_finding.specs.Rules as rules
use Rattle.image_views.specs.Compared.{pages_of, IsFreshRow, IsWrong}
use Rattle.iv_meaning.specs.Objects.{schema_of}
use Rattle.record_replay.specs.Standing.{Has}
use Rattle.log_replay.specs.Told.{IsRecovered}
use Rattle.image_pages.specs.Pages.{TreeStore, no_limit}
use Rattle.image_opening.specs.declared.fault.OpenFault.{OpenFault}
use Rattle.image_opening.specs.declared.fault.OpenFault.TheVariants as why
use Rattle.image_opening.specs.declared.fault.WrongView.{WrongView}
use Rattle.image_opening.specs.declared.views.ViewsFault.{ViewsFault}
use Rattle.image_opening.specs.declared.views.ViewsFault.TheVariants as views
use Rattle.image_opening.specs.declared.read.Recovered.{Recovered}
use Rattle.image_opening.specs.Images.{IsImageIn}

-- a store has no versions, none was dropped, and no row is pending
pub record HasNoPast (store : TreeStore) : Type 0 where
  pub row_versions : store.row_versions.versions ≡ []
  pub delta_versions : store.delta_versions.versions ≡ []
  pub row_mark : store.row_versions.pruned ≡ 0
  pub delta_mark : store.delta_versions.pruned ≡ 0
  pub pending : store.pending.entries ≡ empty

-- ---- of some contents

-- each sum is in range, so many bytes are within the limit, and each stored row is what its view has
pub record IsFineSo (bytes most : ℕ) (c : Contents) : Type 0 where
  pub in_range : AreInRange c.objects c.rows
  pub within : bytes ≤ most
  pub fresh_at : (commit : ℕ) (place : Place) → IsFreshAt (pages_of commit c) place

-- rule 14 fails by a sum, or else rule 15 by the bytes, or else a row differs
abbrev pub Tells : ℕ → ℕ → Contents → ViewsFault → Type 0
Tells bytes most c (views.Rule bad) =
    (bad.place ≡ 0)
    × (((bad.rule ≡ 14) × (AreInRange c.objects c.rows → ⊥)) ⊎ ((bad.rule ≡ 15) × AreInRange c.objects c.rows × (most < bytes)))
Tells bytes most c (views.Row wrong) = AreInRange c.objects c.rows × (bytes ≤ most) × IsWrong c wrong
Tells bytes most c views.NoMemory = Unit {0}

-- What is read has some pages, with their commit number, and whichever it has are so; what its entries count is within the limit of so
-- many pages, whatever the disk is.
pub record HasSound (r : Recovered) : Type 0 where
  pub pages : Pages
  pub has : Has map_at no_limit r.replay.store pages
  pub commits : r.replay.commits ≡ pages.db.number
  pub few : r.replay.commits < 2 ^ 63
  pub next : r.replay.next ≤ most_number + 1
  pub in_range : (p : Pages) → Has map_at no_limit r.replay.store p → AreInRange p.db.schema p.db.rows
  pub fresh_at : (p : Pages) → Has map_at no_limit r.replay.store p → (place : Place) → IsFreshAt p place
  pub within : used (map_at r.replay.store.tables) ≤ data_limit r.header.pages

-- ---- of the bytes of a device

-- the image is refused for this row, the first that differs, beside these definitions: what is stored of its group, and what its view has
pub record IsWrongIn (i : PlacedImage) (wrong : WrongView) : Type 0 where
  pub refused : IsRefused i (BadView (wrong.row.view, wrong.row.group))
  pub reading : Reading
  pub reverses : ReversesAs i reading
  pub objects : schema_of wrong.catalog ≡ (recovered reading).db.schema
  pub stored_is : wrong.row.stored ≡ get (recovered reading).view (wrong.row.view, wrong.row.group)
  pub fresh_is : IsFreshRow (recovered reading).db.schema (recovered reading).db.rows (wrong.row.view, wrong.row.group) wrong.row.fresh

-- the live header is this one and no rule up to 12 fails, the image that stands there is refused for nothing, and this is what it
-- recovers to
abbrev pub Opens : List ℕ → Recovered → Type 0
Opens c r = StandsUpTo 12 c (as_header r.header) × ((i : PlacedImage) → IsImageIn c i → IsFine i × IsRecovered map_at no_limit r.replay i)

-- they are refused for this: by a rule up to 12; or none of these fails, and the image is, for its records or its views
abbrev pub Refuses : List ℕ → OpenFault → Type 0
Refuses c (why.BadImage bad) = rules.IsRefused c bad ⊎ (rules.PassesUpTo 12 c × ((i : PlacedImage) → IsImageIn c i → IsRefused i (BadImage bad.rule bad.place)))
Refuses c (why.BadView wrong) = rules.PassesUpTo 12 c × ((i : PlacedImage) → IsImageIn c i → IsWrongIn i wrong)
Refuses c why.DiskFault = Unit {0}
Refuses c why.NoMemory = Unit {0}
