-- No clause of `run` rests on this module: it serves contracts between crates.
--
-- An image that was found.
use Rattle.std.specs.Prelude.{◌≡◌, ℕ, List, Ok}
use Rattle.log_records.specs.Scan.{scanned}
use Rattle.image_finding.specs.declared.image.FoundImage.{FoundImage}
use Rattle.image_finding.specs.Headers.{as_header, area_in, map_in, StandsUpTo}
use Rattle.image_finding.specs.Maps.{AreLeaves}

-- What was read of bytes whose rules up to 9 hold: the live header, the records of the log area in use, and the
-- page map, which names leaves.
pub record HasImage (c : List ℕ) (image : FoundImage) : Type 0 where
  pub header : StandsUpTo 9 c (as_header image.header)
  pub records : scanned (area_in (as_header image.header) c) ≡ Ok image.records
  pub map : image.map ≡ map_in (as_header image.header) c
  pub leaves : AreLeaves image.header.area_bytes image.header.pages image.map c
