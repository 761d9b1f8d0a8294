-- No clause of `run` rests on this module: it serves contracts between crates.
--
-- A worked image: a log area with one carried record and one behind the redo place, and the places of both.
use Rattle.std.specs.Prelude.{[], ◌∷◌, ◌++◌, Some}
use Rattle.std.specs.FinMap.{empty}
use Rattle.page_store.specs.Image as page
use Rattle.log_records.specs.Area.{Entry, blocks}
use Rattle.iv_meaning.specs.Database.{created}
use Rattle.txn_machine.specs.Records as machine
use Rattle.txn_log.specs.Appended.{Numbered}
use Rattle.txn_log.specs.Refused.{PlacedImage}
use Rattle.log_disk.specs.Spelled.{spelled}
use Rattle.log_disk.specs.Placed.{ArePlacedIn}

-- record 4 makes a row of zeros for group 7 of view 3, and record 5 commits transaction 1 with number 3
abbrev pub carried_one : Numbered
carried_one = record { number = 4; of = machine.Ghost (3, 7 ∷ []) }

abbrev pub further_one : Numbered
further_one = record { number = 5; of = machine.Commit 1 3 1 }

abbrev pub carried_entry : Entry
carried_entry = spelled [] carried_one

abbrev pub further_entry : Entry
further_entry = spelled [] further_one

-- area 1 of two areas of 64 KiB has each in a block of its own
abbrev pub worked_header : page.Image
worked_header = record {
  format = 1;
  pages = 512;
  area_size = 65536;
  number = 2;
  commits = 0;
  next_entry = 5;
  area = 1;
  redo = 21;
  map = [];
  log = blocks ((carried_entry ∷ []) ∷ (further_entry ∷ []) ∷ []) ++ 0 ∷ [];
  stored = [];
}

-- the area begins at 344,064: the first record stands 5 bytes behind that, and the other 5 bytes behind the redo place
abbrev pub worked_places : PlacedImage
worked_places = record {
  pages = record { db = created; view = empty };
  carried = record { place = 344069; entry = Some carried_one } ∷ [];
  after = record { place = 344090; entry = Some further_one } ∷ [];
  texts = [];
  data_limit = Some 307200;
}

abbrev pub WorkedPlaces : Type 0
WorkedPlaces = ArePlacedIn worked_header worked_places
