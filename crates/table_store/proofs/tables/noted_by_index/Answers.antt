use Rattle.std.proofs.Common.{rules, ◌≡◌, ◌<◌, ◌+◌, ◌-◌, ◌^◌, ℕ, true, false, List, [], ◌∷◌, min, length, sym, ap, subst, ◌∙◌, arith}
use Rattle.std.specs.FinMap.{entries}
use Rattle.std.proofs.lemmas.List.Sums.{sum_by-cons}
use Rattle.iv_types.specs.declared.value.Value.{Value}
use Rattle.iv_types.specs.declared.catalog.TableDef.{TableDef}
use Rattle.iv_types.specs.Encoding.{kinds_of, row_bytes}
use Rattle.iv_types.specs.Maps.{Entry, entry_at}
use Rattle.table_store.specs.Stored.{Follow, before, noted_row, noted_rows}
use Rattle.table_store.proofs.Walks.{place, todo, low_part, rest_from, past, at_held, after_held, walk_begins, walk_goes_on, ended, goes_on}
use Rattle.table_store.proofs.IndexRows.{first_row, no_rows}
use Rattle.table_store.proofs.tables.noted_by_index.Goals as goal

abbrev Row : Type 0
Row = List Value

pub loop-next-init : goal.loop-next-init
loop-next-init g c =
    let n = g.M.SortedMaps.maps c.args.maps.now c.args.index.now.number in
    let m = g.M.SortedMaps.maps c.args.maps.now c.args.table.now.number in
    let interval = c.args.interval.now in
    let start : place c.first_at-next.result ≡ entry_at n interval.low = c.first_at-next.ensures ∙ ap (entry_at n) c.as_slice.ensures in
    record {
      fits = omega arith;
      held = λ e is. at_held n interval.low e (sym is ∙ start);
      told = λ rows f. (
        rows,
        subst (λ (es : List Entry). Follow c.args.table.now c.args.index.now m es rows) (sym (walk_begins n interval (place c.first_at-next.result) start)) f,
        ap (λ k. min k (2 ^ 64 - 1)) (let e : 0 + noted_rows c.args.table.now rows ≡ noted_rows c.args.table.now rows = omega arith in e),
      );
    }

pub noted_behind-requires-after_bounds : goal.noted_behind-requires-after_bounds
noted_behind-requires-after_bounds g c κs =
    let row = c.requires c.in-Some.key.now c.in-Some.field-0-1.now (c.loop-next.invariant.held (c.in-Some.key.now, c.in-Some.field-0-1.now) (ap place c.in-Some.is)) in
    λ bound. (row.0, row.1)

pub loop-next-smaller : goal.loop-next-smaller
loop-next-smaller g c =
    let n = g.M.SortedMaps.maps c.args.maps.now c.args.index.now.number in
    let next = walk_goes_on n c.in-Some.key.now (place c.first_after-next.result) c.first_after-next.ensures in
    let now = ap (λ x. todo (entries n) (place x)) c.in-Some.is in
    let smaller : length (todo (entries n) (place c.first_after-next.result)) < length (todo (entries n) (place c.loop-next.next)) = omega (arith, ap length next, ap length now) in
    smaller

one_more : (size noted value rest after all : ℕ) → size < 2 ^ 64 → noted ≡ min value (2 ^ 64 - 1) → after ≡ min (size + noted) (2 ^ 64 - 1) → min (size + (value + rest)) (2 ^ 64 - 1) ≡ all
    → min (after + rest) (2 ^ 64 - 1) ≡ all
one_more size noted value rest after all fits is sum told = omega arith

pub loop-next-preserved : goal.loop-next-preserved
loop-next-preserved g c =
    let n = g.M.SortedMaps.maps c.args.maps.now c.args.index.now.number in
    let m = g.M.SortedMaps.maps c.args.maps.now c.args.table.now.number in
    let t = c.args.table.now in
    let i = c.args.index.now in
    let high = c.args.interval.now.high in
    let key = c.in-Some.key.now in
    let value = c.in-Some.field-0-1.now in
    let next = walk_goes_on n key (place c.first_after-next.result) c.first_after-next.ensures in
    let passes : before high key ≡ true = search rules in
    let left : List Entry = low_part high (rest_from (past key) (entries n)) in
    let now : low_part high (todo (entries n) (place c.loop-next.next)) ≡ (key, value) ∷ left =
    ap (λ x. low_part high (todo (entries n) (place x))) c.in-Some.is ∙ goes_on n high (key, value) passes in
    record {
      fits = search rules;
      held = λ e is. after_held n key e (sym is ∙ c.first_after-next.ensures);
      told = λ rows f.
          let told = c.loop-next.invariant.told rows f in
          let first = first_row t i m (key, value) left told.0 (subst (λ (es : List Entry). Follow t i m es told.0) now told.1) in
          let size : noted_rows t told.0 ≡ length (row_bytes (kinds_of t) first.row) + noted_row + noted_rows t first.rest =
          ap (noted_rows t) first.rows_are ∙ sum_by-cons (λ (row : Row). length (row_bytes (kinds_of t) row) + noted_row) first.row first.rest in (
            first.rest,
            subst (λ (es : List Entry). Follow t i m es first.rest) (sym (ap (low_part high) next)) first.others,
            one_more c.loop-next.size c.noted_behind.result (length (row_bytes (kinds_of t) first.row) + noted_row) (noted_rows t first.rest) c.saturating_add-size.result _
                c.loop-next.invariant.fits (c.noted_behind.ensures first.row first.of_row) c.saturating_add-size.ensures (ap (λ k. min (c.loop-next.size + k) (2 ^ 64 - 1)) (sym size) ∙ told.2),
          );
    }

ends : (t : TableDef) (size : ℕ) (rest : List Row) (all : ℕ) → size < 2 ^ 64 → rest ≡ [] → min (size + noted_rows t rest) (2 ^ 64 - 1) ≡ all → size ≡ all
ends t size rest all fits none told =
    let same : size ≡ min (size + 0) (2 ^ 64 - 1) = omega arith in
    same ∙ (ap (λ (l : List Row). min (size + noted_rows t l) (2 ^ 64 - 1)) (sym none) ∙ told)

pub returns-then-not-is_before : goal.returns-then-not-is_before
returns-then-not-is_before g c = λ rows f.
    let n = g.M.SortedMaps.maps c.args.maps.now c.args.index.now.number in
    let m = g.M.SortedMaps.maps c.args.maps.now c.args.table.now.number in
    let t = c.args.table.now in
    let high = c.args.interval.now.high in
    let fails : before high c.in-Some.key.now ≡ false = search rules in
    let told = c.loop-next.invariant.told rows f in
    let none : low_part high (todo (entries n) (place c.loop-next.next)) ≡ [] = ap (λ x. low_part high (todo (entries n) (place x))) c.in-Some.is ∙ ended n high (c.in-Some.key.now, c.in-Some.field-0-1.now) fails in
    ends t c.loop-next.size told.0 _ c.loop-next.invariant.fits (no_rows t c.args.index.now m told.0 (subst (λ (es : List Entry). Follow t c.args.index.now m es told.0) none told.1)) told.2

pub returns-in_default : goal.returns-in_default
returns-in_default g c = λ rows f.
    let n = g.M.SortedMaps.maps c.args.maps.now c.args.index.now.number in
    let m = g.M.SortedMaps.maps c.args.maps.now c.args.table.now.number in
    let t = c.args.table.now in
    let high = c.args.interval.now.high in
    let told = c.loop-next.invariant.told rows f in
    let none : low_part high (todo (entries n) (place c.loop-next.next)) ≡ [] = ap (λ x. low_part high (todo (entries n) (place x))) c.in_default.is in
    ends t c.loop-next.size told.0 _ c.loop-next.invariant.fits (no_rows t c.args.index.now m told.0 (subst (λ (es : List Entry). Follow t c.args.index.now m es told.0) none told.1)) told.2
