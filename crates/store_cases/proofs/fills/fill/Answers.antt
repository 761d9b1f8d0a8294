use Rattle.std.specs.Prelude.{◌≡◌, ◌≤◌, length}
use Rattle.std.proofs.Common.{arith}
use mathlib.Core.Path.{refl, sym, ap, subst, ◌∙◌}
use Rattle.table_store.specs.Lists.{map_at, spare_at}
use Rattle.table_store.specs.Changes.{CanHoldEach}
use Rattle.table_store.specs.Filling.{AreIndexEntries}
use Rattle.table_store.proofs.Staging.{hold_rows}
use Rattle.store_cases.proofs.fills.fill.Goals as goal

pub index_entries-requires-after_bounds : goal.index_entries-requires-after_bounds
index_entries-requires-after_bounds c κs =
    hold_rows c.args.catalog.now c.requires.0 (map_at c.args.tables.now) c.in-Some.table.now.number c.in-Some.table.now c.in-Some.ensures.here refl c.requires.1

pub fill-requires-after_bounds : goal.fill-requires-after_bounds
fill-requires-after_bounds c κs =
    let t = c.in-Some.table.now in
    let i = c.args.index.now in
    let es = c.in_ok-entries.entries in
    let made = c.in-Ok.ensures in
    let room : length c.as_slice.result.now ≤ spare_at c.make_room_for.new.tables i.number = made.room in
    let few : length c.as_slice.result.now ≡ length es = ap length c.as_slice.ensures in (
      t,
      record {
        are = subst (λ m. AreIndexEntries t i m es) (sym (made.same t.number)) c.in_ok-entries.ensures;
        none = made.same i.number ∙ made.none;
        held = subst CanHoldEach c.as_slice.ensures made.held;
        places = omega (arith, room, few);
        within = tt;
      },
    )
