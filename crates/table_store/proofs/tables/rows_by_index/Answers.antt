use Rattle.std.proofs.Common.{rules, ◌≡◌, ◌<◌, true, false, List, [], ◌∷◌, ◌++◌, length, sym, ap, subst, ◌∙◌, arith, append_assoc, append-nil}
use Rattle.std.specs.FinMap.{entries}
use Rattle.iv_types.specs.declared.value.Value.{Value}
use Rattle.iv_types.specs.Maps.{Entry, entry_at}
use Rattle.table_store.specs.Stored.{Follow, between, before}
use Rattle.table_store.proofs.Walks.{place, todo, low_part, rest_from, past, at_held, after_held, walk_begins, walk_goes_on, ended, goes_on}
use Rattle.table_store.proofs.tables.rows_by_index.Goals as goal
use Rattle.table_store.proofs.tables.rows_by_index.Goals.{in-Some+then-not-is_before, in_default}

pub loop-next-init : goal.loop-next-init
loop-next-init g c =
    let m = g.M.SortedMaps.maps c.args.maps.now c.args.index.now.number in
    let stood = g.M.SortedMaps.maps c.args.maps.now c.args.table.now.number in
    let interval = c.args.interval.now in
    let table = c.args.table.now in
    let start : place c.first_at-next.result ≡ entry_at m interval.low = c.first_at-next.ensures ∙ ap (entry_at m) c.as_slice.ensures in
    record {
      held = λ e is. at_held m interval.low e (sym is ∙ start);
      told = λ rows told. subst (λ (l : List (List Value)). Follow table c.args.index.now stood (between interval (entries m)) (l ++ rows)) (sym c.new-rows.ensures.items)
          (subst (λ (l : List Entry). Follow table c.args.index.now stood l rows) (walk_begins m interval (place c.first_at-next.result) start) told);
    }

pub row_behind-requires-after_bounds : goal.row_behind-requires-after_bounds
row_behind-requires-after_bounds g c κs =
    let row = c.requires c.in-Some.key.now c.in-Some.field-0-1.now (c.loop-next.invariant.held (c.in-Some.key.now, c.in-Some.field-0-1.now) (ap place c.in-Some.is)) in
    λ bound. (row.0, row.1)

pub loop-next-smaller : goal.loop-next-smaller
loop-next-smaller g c =
    let m = g.M.SortedMaps.maps c.args.maps.now c.args.index.now.number in
    let stood = g.M.SortedMaps.maps c.args.maps.now c.args.table.now.number in
    let key = c.in-Some.key.now in
    let next = walk_goes_on m key (place c.first_after-next.result) c.first_after-next.ensures in
    let now = ap (λ n. todo (entries m) (place n)) c.in-Some.is in
    let smaller : length (todo (entries m) (place c.first_after-next.result)) < length (todo (entries m) (place c.loop-next.next)) = omega (arith, ap length next, ap length now) in
    smaller

pub loop-next-preserved : goal.loop-next-preserved
loop-next-preserved g c =
    let m = g.M.SortedMaps.maps c.args.maps.now c.args.index.now.number in
    let stood = g.M.SortedMaps.maps c.args.maps.now c.args.table.now.number in
    let table = c.args.table.now in
    let high = c.args.interval.now.high in
    let key = c.in-Some.key.now in
    let value = c.in-Some.field-0-1.now in
    let row = c.in_ok-row_behind.field-0 in
    let next = walk_goes_on m key (place c.first_after-next.result) c.first_after-next.ensures in
    let passes : before high key ≡ true = search rules in
    let now : low_part high (todo (entries m) (place c.loop-next.next)) ≡ (key, value) ∷ low_part high (rest_from (past key) (entries m)) =
    ap (λ n. low_part high (todo (entries m) (place n))) c.in-Some.is ∙ goes_on m high (key, value) passes in
    record {
      held = λ e is. after_held m key e (sym is ∙ c.first_after-next.ensures);
      told = λ rows told.
          let rest = subst (λ (l : List Entry). Follow table c.args.index.now stood (low_part high l) rows) next told in
          let whole = subst (λ (l : List Entry). Follow table c.args.index.now stood l (row ∷ rows)) (sym now) (c.in_ok-row_behind.ensures, rest) in
          subst (λ (l : List (List Value)). Follow table c.args.index.now stood (between c.args.interval.now (entries m)) l)
          (sym (ap (λ (l : List (List Value)). l ++ rows) c.in_ok-push.ensures.items ∙ append_assoc c.loop-next.rows.items (row ∷ []) rows))
          (c.loop-next.invariant.told (row ∷ rows) whole);
    }

pub returns : goal.returns
returns g c =
    let m = g.M.SortedMaps.maps c.args.maps.now c.args.index.now.number in
    let stood = g.M.SortedMaps.maps c.args.maps.now c.args.table.now.number in
    let table = c.args.table.now in
    let high = c.args.interval.now.high in
    let none : low_part high (todo (entries m) (place c.loop-next.next)) ≡ [] = elim c.match-next.branch [
      | in-Some+then-not-is_before w ↦
          let fails : before high w.in-Some.key.now ≡ false = search rules in
          ap (λ n. low_part high (todo (entries m) (place n))) w.in-Some.is ∙ ended m high (w.in-Some.key.now, w.in-Some.field-0-1.now) fails
      | in_default w ↦ ap (λ n. low_part high (todo (entries m) (place n))) w.in_default.is
    ] in
    subst (λ (l : List (List Value)). Follow table c.args.index.now stood (between c.args.interval.now (entries m)) l) (append-nil c.loop-next.rows.items)
    (c.loop-next.invariant.told [] (subst (λ (l : List Entry). Follow table c.args.index.now stood l []) (sym none) tt))
