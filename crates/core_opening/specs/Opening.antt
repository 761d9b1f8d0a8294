-- No clause of `run` rests on this module: it serves contracts between crates.
--
-- When a core can be opened on a database that was there.
use Rattle.std.specs.Prelude.{◌≡◌, ℕ, ◌+◌, ◌<◌, ◌≤◌, ◌^◌, List, [], Option, Some}
use Rattle.std.specs.FinMap.{empty}
use Rattle.iv_types.specs.Maps.{Map}
use Rattle.iv_meaning.specs.Database.{Database}
use Rattle.query_laws.specs.Limited.{IsLimited}
use Rattle.txn_machine.specs.Laws.{IsOpened}
use Rattle.txn_machine.specs.Log.{Opening, Within, block_bytes}
use Rattle.txn_machine.specs.Store.{opened}
use Rattle.txn_machine.specs.Stored.{ViewRows}
use Rattle.txn_log.specs.Room.{OpensWithin}
use Rattle.definition_parts.specs.Parts.{HasTexts}
use Rattle.data_store.specs.Contents.{contents_of}
use Rattle.data_store.specs.Held.{IsHeld}
use Rattle.data_store.specs.declared.store.DataStore.{DataStore}

module _ {M : Type 0} (maps : M → ℕ → Map) (limit : M → Option ℕ) where
  -- a store has a database, its stored view rows and the texts of its definitions, and nothing of a transaction
  pub record HasDatabase (store : DataStore M) (db : Database) (view : ViewRows) (definitions : List (List ℕ)) : Type 0 where
    pub stored : IsHeld store.catalog (maps store.tables) store.views (contents_of (opened db view))
    -- the texts, in their parts, stand under index 0
    pub texts : HasTexts (maps store.tables 0) store.catalog definitions
    -- it has no versions, and none above the database's number was dropped
    pub row_versions : store.row_versions.versions ≡ []
    pub delta_versions : store.delta_versions.versions ≡ []
    pub row_mark : store.row_versions.pruned ≤ db.number
    pub delta_mark : store.delta_versions.pruned ≤ db.number
    -- and no row is pending
    pub pending : store.pending.entries ≡ empty

  -- A core can be opened so on this store, with these limits of the log and of the data, this greatest commit number and this number of
  -- the log's next record.
  pub record CanOpen (store : DataStore M) (log : Option ℕ) (most number next : ℕ) (opening : Opening) (db : Database) (view : ViewRows) : Type 0 where
    -- the opening has these limits and begins with this record
    pub log_is : opening.log_limit ≡ log
    pub data_is : opening.data_limit ≡ Some most
    pub next_is : opening.next ≡ next
    pub number_is : number ≡ db.number
    -- the database is sound, with its views' rows as they are evaluated afresh
    pub was_opened : IsOpened db view
    -- all entries that may come can be held
    pub limited : IsLimited db.schema
    pub has : HasDatabase store db view opening.definitions
    -- the maps have the limit of the data, which are within it
    pub maps_limit : limit store.tables ≡ Some most
    pub within : OpensWithin opening (record { db = db; view = view })
    -- an area of the log holds an empty block
    pub least : Within log (block_bytes + 1)
    -- the numbers of commits and of records do not end
    pub few : number < 2 ^ 63
    pub early : next ≤ 2 ^ 62 + 1
