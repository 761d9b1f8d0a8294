use Rattle.std.proofs.Common.{ℕ, suc, ℤ, List, length, sym, subst}
use Rattle.txn_machine.specs.Deltas.{place_of}
use Rattle.txn_machine.specs.Stored.{ViewRows}
use Rattle.ghost_rows.specs.Numbers.{moved}
use Rattle.group_replay.specs.Closed.{IsClosed, with_view}
use Rattle.group_replay.specs.Adding.{CanReplace}
use Rattle.group_replay.proofs.Rows.{found_there, stored_row, row_length}
use Rattle.group_replay.proofs.Telling.{some_told, none_told, row_added, tells_added, tells_out, can_replace}
use Rattle.group_replay.proofs.adding.add_delta.Goals as goal

pub sum_of-requires : goal.sum_of-requires
sum_of-requires g c =
    let s = c.args.store.now in
    let d = c.args.delta.now in
    let known = c.requires.known in
    let q = c.requires.closed in
    let stored = c.in-Some.stored.now in
    let is = found_there g.M.SortedMaps.maps c.maps.result.now s.tables (place_of d) c.maps.ensures c.as_slice.result.now stored c.as_slice.ensures c.in-Some.ensures in
    let row = stored_row s.catalog (g.M.SortedMaps.maps s.tables) s.views (place_of d) known.0 q.0 q.1 stored is in
    (suc (length known.0.of.sums), row_length q.0.view (place_of d) (length known.0.of.sums) stored row)

pub returns-in-None-2-clause-told : goal.returns-in-None-2-clause-told
returns-in-None-2-clause-told g c = λ x k.
    let s = c.args.store.now in
    let d = c.args.delta.now in
    let known = c.requires.known in
    let stored = c.in-Some.stored.now in
    let is = found_there g.M.SortedMaps.maps c.maps.result.now s.tables (place_of d) c.maps.ensures c.as_slice.result.now stored c.as_slice.ensures c.in-Some.ensures in
    let row = stored_row s.catalog (g.M.SortedMaps.maps s.tables) s.views (place_of d) known.0 x k stored is in
    tells_out c.args.back d x.view (length known.0.of.sums) stored known.1 row (none_told c.in_ok-value.field-0 _ c.in-None-2.is c.in_ok-value.ensures.none row.numbers row.fits row.bytes)

pub replace_row-requires-clause-row : goal.replace_row-requires-clause-row
replace_row-requires-clause-row g c κs within =
    let s = c.args.store.now in
    let d = c.args.delta.now in
    let known = c.requires.known in
    let q = c.requires.closed in
    let stored = c.in-Some.stored.now in
    let is = found_there g.M.SortedMaps.maps c.maps.result.now s.tables (place_of d) c.maps.ensures c.as_slice.result.now stored c.as_slice.ensures c.in-Some.ensures in
    let row = stored_row s.catalog (g.M.SortedMaps.maps s.tables) s.views (place_of d) known.0 q.0 q.1 stored is in
    let huge = some_told c.in_ok-value.field-0 c.in-Some-2.value _ c.in-Some-2.is c.in_ok-value.ensures.in_range row.numbers row.fits row.bytes in (
      q.0,
      moved c.args.back 0 row.numbers d,
      subst (λ (k : List ℕ). CanReplace s.catalog (g.M.SortedMaps.maps s.tables) s.views (d.view, k) (moved c.args.back 0 row.numbers d) q.0) (sym c.as_slice-2.ensures)
          (can_replace s.catalog (g.M.SortedMaps.maps s.tables) s.views q.0 c.args.back d stored known q.1 row huge),
      some_told c.in_ok-value.field-0 c.in-Some-2.value _ c.in-Some-2.is c.in_ok-value.ensures.bytes row.numbers row.fits row.bytes,
    )

pub returns-clause-told : goal.returns-clause-told
returns-clause-told g c = λ x k.
    let s = c.args.store.now in
    let d = c.args.delta.now in
    let known = c.requires.known in
    let stored = c.in-Some.stored.now in
    let is = found_there g.M.SortedMaps.maps c.maps.result.now s.tables (place_of d) c.maps.ensures c.as_slice.result.now stored c.as_slice.ensures c.in-Some.ensures in
    let row = stored_row s.catalog (g.M.SortedMaps.maps s.tables) s.views (place_of d) known.0 x k stored is in
    tells_added c.args.back d x.view (length known.0.of.sums) stored known.1 row (some_told c.in_ok-value.field-0 c.in-Some-2.value _ c.in-Some-2.is c.in_ok-value.ensures.in_range row.numbers row.fits row.bytes)

pub returns-clause-added : goal.returns-clause-added
returns-clause-added g c = λ e x k.
    let s = c.args.store.now in
    let d = c.args.delta.now in
    let new = c.replace_row.new.store in
    let known = c.requires.known in
    let stored = c.in-Some.stored.now in
    let is = found_there g.M.SortedMaps.maps c.maps.result.now s.tables (place_of d) c.maps.ensures c.as_slice.result.now stored c.as_slice.ensures c.in-Some.ensures in
    let row = stored_row s.catalog (g.M.SortedMaps.maps s.tables) s.views (place_of d) known.0 x k stored is in
    let huge = some_told c.in_ok-value.field-0 c.in-Some-2.value _ c.in-Some-2.is c.in_ok-value.ensures.in_range row.numbers row.fits row.bytes in
    let numbers : List ℤ = moved c.args.back 0 row.numbers d in
    let can = can_replace s.catalog (g.M.SortedMaps.maps s.tables) s.views x c.args.back d stored known k row huge in
    let at = subst (λ (l : List ℕ). CanReplace s.catalog (g.M.SortedMaps.maps s.tables) s.views (d.view, l) numbers x) (sym c.as_slice-2.ensures) can in
    let done = c.in_ok-replace_row.ensures.replaced x numbers at (some_told c.in_ok-value.field-0 c.in-Some-2.value _ c.in-Some-2.is c.in_ok-value.ensures.bytes row.numbers row.fits row.bytes) in
    subst (λ (v : ViewRows). IsClosed new.catalog (g.M.SortedMaps.maps new.tables) new.views (with_view x v)) (row_added c.args.back d x.view (length known.0.of.sums) stored known.1 row)
    (subst (λ (l : List ℕ). IsClosed new.catalog (g.M.SortedMaps.maps new.tables) new.views (with_view x (Rattle.std.specs.FinMap.insert x.view (d.view, l) numbers))) c.as_slice-2.ensures done)
