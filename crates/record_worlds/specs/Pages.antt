-- No clause of `run` rests on this module: it serves contracts between crates.
--
-- Which pages of the machine's log a checkpoint saved.
use Rattle.std.specs.Prelude.{◌≡◌, ℕ, List, [], Some}
use Rattle.std.specs.Option.{option_map}
use Rattle.std.specs.FinMap.{get}
use Rattle.iv_meaning.specs.Objects.{schema_of}
use Rattle.iv_meaning.specs.Schema.{view, ViewTree, numbered}
use Rattle.table_store.specs.Stored.{Holds}
use Rattle.ghost_rows.specs.Numbers.{numbers_bytes}
use Rattle.ghost_rows.specs.State.{stored_at}
use Rattle.txn_log.specs.Replay.{Pages}
use Rattle.txn_log.specs.Stored.{AllCreate, AreProper}
use Rattle.definition_parts.specs.Parts.{HasTexts}
use Rattle.core_journal.specs.Records.{Saved}

-- The maps that it saved hold the rows of these pages, the rows of their views and the parts of texts that make their objects, beside
-- their definitions; and it saved their commit number.
pub record HoldsPages (saved : Saved) (p : Pages) : Type 0 where
  pub objects : schema_of saved.definitions ≡ p.db.schema
  pub tables : Holds saved.definitions p.db.rows saved.maps
  pub views : (n : ℕ) (v : ViewTree) → numbered p.db.schema n ≡ Some (view v) → (group : List ℕ) → stored_at saved.maps (n, group) ≡ option_map numbers_bytes (get p.view (n, group))
  pub texts : List (List ℕ)
  pub has_texts : HasTexts (saved.maps 0) saved.definitions texts
  pub create : AllCreate [] texts p.db.schema
  pub proper : AreProper p
  pub number : saved.commits ≡ p.db.number
