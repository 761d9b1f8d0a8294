-- No clause of `run` rests on this module: it serves contracts between crates.
--
-- The entries of an index with its number.
use Rattle.std.specs.Prelude.{ℕ, List, map}
use Rattle.iv_types.specs.Maps.{Entry}
use Rattle.iv_types.specs.declared.lock.IndexEntry.{IndexEntry}

abbrev pub entries_in : ℕ → List Entry → List IndexEntry
entries_in index es = map (λ e. record { index = index; key = e.0; value = e.1 }) es
