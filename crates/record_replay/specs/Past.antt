-- No clause of `run` rests on this module: it serves contracts between crates.
--
-- The records of an image that were replayed so far. Lists of records have the latest first.
use Rattle.std.specs.Prelude.{◌≡◌, List, [], ◌∷◌, ◌++◌}
use Rattle.iv_meaning.specs.Schema.{Schema, Object}
use Rattle.txn_machine.specs.Fresh.{made_of}
use Rattle.txn_machine.specs.Records.{Record}
use Rattle.txn_machine.specs.Stored.{add_all}
use Rattle.txn_log.specs.Replay.{What, Deed, Event, Pages, Stored, rows_with, view_with, rows_without, view_without, replay, on_pages}
use Rattle.txn_log.specs.Refused.{Placed, CarriedAs, SaidAs}
use Rattle.log_records.specs.declared.record.Record as bytes
use Rattle.log_disk.specs.Spelled.{in_bytes, IsSpellable}
use Rattle.log_disk.specs.Placed.{StandsFor}
use Rattle.record_replay.specs.declared.answer.Head.{Head}

-- the pages of an image, and of its records those that were replayed: at their places, and what they say
pub record Past : Type 0 where
  pub pages : Pages
  -- the carried ones
  pub first : List Placed
  pub carried : List Deed
  -- those after the redo place
  pub after : List Placed
  pub events : List Event

-- carried ones alone
abbrev pub carrying : Pages → List Placed → List Deed → Past
carrying p first ds = record { pages = p; first = first; carried = ds; after = []; events = [] }

-- one further record more
abbrev pub with_record : Past → Placed → Event → Past
with_record x r e = record x { after = r ∷ x.after; events = e ∷ x.events }

-- what they leave
abbrev pub left_by : Past → Stored
left_by x = replay (on_pages x.pages x.carried) x.events

-- each of them passed where it was replayed
pub record HavePassed (x : Past) : Type 0 where
  pub carried : CarriedAs x.pages.db.schema x.first x.carried
  pub events : SaidAs x.pages x.first x.carried x.after x.events

-- its rows, if it has some, decode beside these definitions
pub record IsReadable (objects : Schema) (fields : bytes.Record) : Type 0 where
  pub of : Record
  pub fits : IsSpellable objects of
  pub fields_are : fields ≡ in_bytes objects of

-- a record that comes next, whose place, number and fields are these, by what it stands for beside these definitions
pub record Comes (objects : Schema) (head : Head) (fields : bytes.Record) (r : Placed) : Type 0 where
  pub place : r.place ≡ head.place
  pub stands_for : StandsFor objects (record { number = head.number; entry = fields }) r.entry

-- ---- what records do to pages

abbrev pub pages_in : Stored → Pages
pages_in s = record { db = s.db; view = s.view }

abbrev pub with_what : What → Pages → Pages
with_what w p = record { db = record p.db { rows = rows_with w p.db.rows }; view = view_with w p.view }

abbrev pub without_what : What → Pages → Pages
without_what w p = record { db = record p.db { rows = rows_without w p.db.rows }; view = view_without w p.view }

-- one object is defined, and a view has its rows
abbrev pub with_defined : Object → Pages → Pages
with_defined o p = record {
  db = record p.db { schema = p.db.schema ++ o ∷ [] };
  view = add_all p.view (made_of (p.db.schema ++ o ∷ []) p.db.rows o);
}

-- a carried Write sets its row, a carried Delta is in the pages
abbrev pub with_rows_of : What → Pages → Pages
with_rows_of w p = record p { db = record p.db { rows = rows_with w p.db.rows } }
