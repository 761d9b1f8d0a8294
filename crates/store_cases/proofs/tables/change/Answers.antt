use Rattle.std.specs.Prelude.{List}
use mathlib.Core.Path.{sym, subst}
use Rattle.iv_meaning.specs.Database.{set_row}
use Rattle.table_store.specs.Lists.{Listed, map_at}
use Rattle.table_store.specs.Stored.{Holds}
use Rattle.store_cases.proofs.tables.change.Goals as goal

pub is_change-requires-clause-held : goal.is_change-requires-clause-held
is_change-requires-clause-held c =
    (c.requires.0, subst (λ (m : List Listed). Holds c.args.catalog.now c.requires.0 (map_at m)) (sym c.maps.ensures) c.requires.1)

pub returns : goal.returns
returns c = (set_row c.requires.0 c.args.change.table c.args.change.key c.args.change.after, c.in_ok-change.ensures.rows c.requires.0 c.requires.1)
