-- What a core holds is told with the texts of definitions.
use Rattle.std.specs.Prelude.{ℕ, Option}
use Rattle.iv_types.specs.Maps.{Map}
use Rattle.txn_machine.specs.Log.{Log}
use Rattle.txn_machine.specs.Store.{Store}
use Rattle.definition_parts.specs.Parts.{parts_map}
use Rattle.data_store.specs.Contents.{contents_of}
use Rattle.data_store.specs.Held.{IsHeld}
use Rattle.data_store.proofs.Told.{told_held}
use Rattle.core_state.specs.Stands.{Holds, told, Texts, all_texts}
use Rattle.core_state.specs.declared.state.CoreState.{CoreState}

pub told_stored : {M : Type 0} (maps : M → ℕ → Map) (spare : M → ℕ → ℕ) (limit : M → Option ℕ) (core : CoreState M) (s : Store) (l : Log) (texts : Texts) → Holds maps spare limit core s l texts
    → IsHeld core.store.catalog (maps core.store.tables) core.store.views (told s texts)
told_stored maps spare limit core s l texts h = told_held core.store.catalog (maps core.store.tables) core.store.views (contents_of s) (parts_map (all_texts texts)) h.texts.are h.stored
