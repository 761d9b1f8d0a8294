-- No clause of `run` rests on this module: it serves contracts between crates.
--
-- Rows with their keys.
use Rattle.std.specs.Prelude.{ℕ, List}
use Rattle.iv_meaning.specs.Database.{Row}
use Rattle.iv_meaning.specs.Schema.{items_at}
use Rattle.row_order.specs.declared.key_order.Keyed.{Keyed}

abbrev pub keyed : List ℕ → Row → Keyed
keyed key row = record { key = items_at row key; row = row }
