-- No clause of `run` rests on this module: it serves contracts between crates.
--
-- A store over pages that has what a store over maps in memory has.
use Rattle.std.specs.Prelude.{◌≡◌, ℕ}
use Rattle.table_store.specs.Lists.{map_at}
use Rattle.ordered_index.specs.Tree.{Tree, map_of}
use Rattle.data_store.specs.declared.store.DataStore.{DataStore}
use Rattle.image_pages.specs.Pages.{TreeStore}

-- each index has the same entries, and all else is the same
pub record IsSameOver (old : TreeStore) (new : DataStore Tree) : Type 0 where
  pub entries : (index : ℕ) → map_of new.tables index ≡ map_at old.tables index
  pub catalog : new.catalog ≡ old.catalog
  pub views : new.views ≡ old.views
  pub row_versions : new.row_versions ≡ old.row_versions
  pub delta_versions : new.delta_versions ≡ old.delta_versions
  pub pending : new.pending ≡ old.pending
