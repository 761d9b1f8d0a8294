-- No clause of `run` rests on this module: it serves contracts between crates.
--
-- What stands in memory while the records of an image are replayed.
use Rattle.std.specs.Prelude.{◌≡◌, ◌↔◌, ℕ, ◌+◌, ◌≤◌, not, List, [], ◌++◌, Option, Some, None}
use Rattle.std.specs.Option.{option_map}
use Rattle.iv_types.specs.Definitions.{Definitions}
use Rattle.iv_types.specs.Maps.{Map}
use Rattle.iv_meaning.specs.Schema.{Schema}
use Rattle.iv_meaning.specs.Objects.{schema_of}
use Rattle.txn_machine.specs.Stored.{AreStored}
use Rattle.txn_machine.specs.ViewLaws.{AreSound}
use Rattle.txn_log.specs.Replay.{Deed, Pages, find, survives}
use Rattle.txn_log.specs.Stored.{AllCreate}
use Rattle.txn_log.specs.Fitting.{AllDeeds, IsKnown, CarriedBelow, DoNumbersFall, AreBelow}
use Rattle.txn_log.specs.Refused.{Placed, place_by, most_number}
use Rattle.data_store.specs.Contents.{Contents}
use Rattle.data_store.specs.declared.store.DataStore.{DataStore}
use Rattle.image_catalog.specs.Texts.{AreMade}
use Rattle.definition_parts.specs.Parts.{HasTexts}
use Rattle.group_replay.specs.Closed.{IsClosed}
use Rattle.live_records.specs.declared.kept.LiveRecords.{LiveRecords}
use Rattle.live_records.specs.declared.record.LiveRecord.{LiveRecord}
use Rattle.live_records.specs.Live.{deed_of, kept_at, has_ended}
use Rattle.record_replay.specs.Past.{Past, left_by, pages_in, HavePassed}
use Rattle.record_replay.specs.declared.replay.Replay.{Replay}

-- ---- the store

-- where no transaction is open
abbrev pub contents_of : Pages → Contents
contents_of p = record { objects = p.db.schema; rows = p.db.rows; view = p.view; kept = λ session. []; texts = None }

-- the entries of index 0 are the parts of texts, one for each definition, which make these objects
pub record HasItsTexts (entries : Map) (definitions : Definitions) (objects : Schema) : Type 0 where
  pub texts : List (List ℕ)
  pub has : HasTexts entries definitions texts
  pub create : AllCreate [] texts objects

-- a store without a limit, on which no transaction is open, has these definitions with their texts, rows and view rows
pub record Has {M : Type 0} (maps : M → ℕ → Map) (limit : M → Option ℕ) (store : DataStore M) (p : Pages) : Type 0 where
  pub made : AreMade (schema_of store.catalog)
  pub closed : IsClosed store.catalog (maps store.tables) store.views (contents_of p)
  pub stored : AreStored p.db.schema p.view
  pub sound : AreSound p.db.schema p.db.rows
  pub unlimited : limit store.tables ≡ None
  pub texts : HasItsTexts (maps store.tables 0) store.catalog p.db.schema

-- ---- what transactions keep

-- just these, each with the place where its record stands
pub record Keeps (live : LiveRecords) (rs : List Placed) (xs : List Deed) : Type 0 where
  pub same : (transaction number : ℕ) → option_map deed_of (kept_at live transaction number) ≡ find transaction number xs
  pub places : (transaction number : ℕ) (r : LiveRecord) → kept_at live transaction number ≡ Some r → r.place ≡ place_by number rs

-- of tables and views that are there, with numbers that fall from below this one
pub record AreLive (objects : Schema) (next : ℕ) (xs : List Deed) : Type 0 where
  pub known : AllDeeds (IsKnown objects) xs
  pub fall : DoNumbersFall xs
  pub below : CarriedBelow next xs

-- ---- all of it

-- after these records, which all passed
pub record HasReplayed {M : Type 0} (maps : M → ℕ → Map) (limit : M → Option ℕ) (r : Replay M) (x : Past) : Type 0 where
  pub passed : HavePassed x
  pub store : Has maps limit r.store (pages_in (left_by x))
  pub kept : Keeps r.live (x.after ++ x.first) (left_by x).live
  pub live : AreLive (left_by x).db.schema r.next (left_by x).live
  pub commits : r.commits ≡ (left_by x).db.number
  -- the next number is the least that a record may have now
  pub next : (number : ℕ) → AreBelow number x.carried x.events ↔ (r.next ≤ number)
  pub small : r.next ≤ most_number + 1
  -- a record with such a number survives just where its transaction has not ended
  pub ended : (transaction number : ℕ) → r.next ≤ number → survives x.events transaction number ≡ not (has_ended r.live transaction)
