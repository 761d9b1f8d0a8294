-- No clause of `run` rests on this module: it serves contracts between crates.
--
-- The image that stands in the bytes of a device.
use Rattle.std.specs.Prelude.{ℕ, List}
use Rattle.page_store.specs.Image as page
use Rattle.txn_log.specs.Refused.{PlacedImage}
use Rattle.log_disk.specs.Found.{IsWhole}
use Rattle.log_disk.specs.Placed.{ArePlacedIn}

-- These bytes have this image: their live header, its blocks and its stored pages are whole, and these are their pages and records at
-- their places. Where no rule up to 12 fails there is one: that there is none can't be.
pub record IsImageIn (c : List ℕ) (i : PlacedImage) : Type 0 where
  pub room : ℕ
  pub count : ℕ
  pub here : page.Image
  pub whole : IsWhole room count c here
  pub placed : ArePlacedIn here i
