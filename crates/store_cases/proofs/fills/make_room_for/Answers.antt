use Rattle.std.specs.Prelude.{◌≡◌, ℕ, List, [], is_some, false, Option, Some, None}
use Rattle.std.specs.Option.{option_map}
use Rattle.std.proofs.Common.{Bor}
use mathlib.Core.Path.{sym, ap, ◌∙◌}
use Rattle.iv_types.specs.Maps.{Map, entry_at}
use Rattle.table_store.specs.Lists.{Listed, map_at}
use Rattle.table_store.proofs.Filled.{nothing_found}
use Rattle.store_cases.proofs.fills.make_room_for.Goals as goal

no_entry : (m : Map) (o : Option (Bor (List ℕ) × Bor (List ℕ))) → option_map (λ e. (e.0.now, e.1.now)) o ≡ entry_at m [] → is_some o ≡ false → entry_at m [] ≡ None
no_entry m None is none = sym is
no_entry m (Some e) is none = absurd (cc)

pub returns-clause-same : goal.returns-clause-same
returns-clause-same c = λ n. c.reserve.ensures.maps n ∙ ap (λ (maps : List Listed). map_at maps n) c.maps_mut.ensures.value

pub returns-clause-none : goal.returns-clause-none
returns-clause-none c =
    let now = c.args.tables.now in
    let number = c.args.number in
    let maps_are : c.maps.result.now ≡ now = c.maps.ensures in
    nothing_found (map_at now number) (ap (λ (maps : List Listed). entry_at (map_at maps number) []) (sym maps_are) ∙ no_entry (map_at c.maps.result.now number) c.first_at.result c.first_at.ensures (sym c.is_some.ensures ∙ c.if-is_some.false))
