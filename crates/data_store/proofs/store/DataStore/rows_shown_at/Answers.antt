use Rattle.std.proofs.Common.{rules, ◌≡◌, ◌<◌, true, false, List, [], ◌∷◌, ◌++◌, length, Some, sym, ap, subst, ◌∙◌, arith, append-nil}
use Rattle.std.specs.FinMap.{get, entries}
use Rattle.iv_types.specs.Maps.{Entry, entry_at}
use Rattle.iv_meaning.specs.Database.{Row}
use Rattle.table_store.specs.Stored.{between, before}
use Rattle.table_store.proofs.Walks.{place, todo, low_part, rest_from, past, at_held, after_held, walk_begins, walk_goes_on, ended, goes_on}
use Rattle.data_store.specs.Shown.{Shows}
use Rattle.data_store.specs.ViewPast.{past_entries}
use Rattle.data_store.proofs.ShownRows.{none_shown}
use Rattle.data_store.proofs.store.DataStore.rows_shown_at.Goals as goal
use Rattle.data_store.proofs.store.DataStore.rows_shown_at.Goals.{in-Some+then-not-is_before, in_default}

pub loop-next-init : goal.loop-next-init
loop-next-init g c =
    let S = g.M.SortedMaps in
    let n = c.args.view in
    let m = S.maps c.maps-maps.result.now n in
    let kinds = c.args.kinds.now in
    let interval = c.args.interval.now in
    let start : place c.first_at-next.result ≡ entry_at m interval.low = c.first_at-next.ensures ∙ ap (entry_at m) c.as_slice.ensures in
    record {
      held = λ e is. at_held m interval.low e (sym is ∙ start);
      told = λ was were rest told. subst (λ (l : List Row). Shows kinds (past_entries was n (between interval (entries m))) (l ++ rest)) (sym c.new-rows.ensures)
          (subst (λ (l : List Entry). Shows kinds (past_entries was n l) rest) (walk_begins m interval (place c.first_at-next.result) start) told);
    }

pub add_shown_at-requires-clause-pays : goal.add_shown_at-requires-clause-pays
add_shown_at-requires-clause-pays g c κs within =
    let S = g.M.SortedMaps in
    let key = c.in-Some.key.now in
    let value = c.in-Some.field-0-1.now in
    let there : get (S.maps c.args.self.now.tables c.args.view) key ≡ Some value =
    subst (λ s. get (S.maps s c.args.view) key ≡ Some value) c.maps-maps.ensures (c.loop-next.invariant.held (key, value) (ap place c.in-Some.is)) in
    let was = c.requires.past.1.each key value there in
    (was.many, was.pays, was.kept)

pub add_shown_at-requires-clause-past : goal.add_shown_at-requires-clause-past
add_shown_at-requires-clause-past g c κs within =
    let S = g.M.SortedMaps in
    let key = c.in-Some.key.now in
    let value = c.in-Some.field-0-1.now in
    let there : get (S.maps c.args.self.now.tables c.args.view) key ≡ Some value =
    subst (λ s. get (S.maps s c.args.view) key ≡ Some value) c.maps-maps.ensures (c.loop-next.invariant.held (key, value) (ap place c.in-Some.is)) in
    let was = c.requires.past.1.each key value there in
    (c.requires.past.0, c.requires.past.1.were, was.was, was.there)

pub loop-next-smaller : goal.loop-next-smaller
loop-next-smaller g c =
    let m = g.M.SortedMaps.maps c.maps-maps.result.now c.args.view in
    let key = c.in-Some.key.now in
    let next = walk_goes_on m key (place c.first_after-next.result) c.first_after-next.ensures in
    let now = ap (λ n. todo (entries m) (place n)) c.in-Some.is in
    let smaller : length (todo (entries m) (place c.first_after-next.result)) < length (todo (entries m) (place c.loop-next.next)) = omega (arith, ap length next, ap length now) in
    smaller

pub loop-next-preserved : goal.loop-next-preserved
loop-next-preserved g c =
    let S = g.M.SortedMaps in
    let n = c.args.view in
    let m = S.maps c.maps-maps.result.now n in
    let kinds = c.args.kinds.now in
    let high = c.args.interval.now.high in
    let key = c.in-Some.key.now in
    let value = c.in-Some.field-0-1.now in
    let next = walk_goes_on m key (place c.first_after-next.result) c.first_after-next.ensures in
    let passes : before high key ≡ true = search rules in
    let left : List Entry = low_part high (rest_from (past key) (entries m)) in
    let now : low_part high (todo (entries m) (place c.loop-next.next)) ≡ (key, value) ∷ left =
    ap (λ x. low_part high (todo (entries m) (place x))) c.in-Some.is ∙ goes_on m high (key, value) passes in
    record {
      held = λ e is. after_held m key e (sym is ∙ c.first_after-next.ensures);
      told = λ was were rest told.
          let more = c.in_ok-add_shown_at.ensures was were (past_entries was n left) rest (subst (λ (l : List Entry). Shows kinds (past_entries was n (low_part high l)) rest) next told) in
          subst (λ (l : List Row). Shows kinds (past_entries was n (between c.args.interval.now (entries m))) l) more.1
          (c.loop-next.invariant.told was were more.0 (subst (λ (l : List Entry). Shows kinds (past_entries was n l) more.0) (sym now) more.2));
    }

pub returns : goal.returns
returns g c = λ was were.
    let S = g.M.SortedMaps in
    let n = c.args.view in
    let m = S.maps c.maps-maps.result.now n in
    let kinds = c.args.kinds.now in
    let high = c.args.interval.now.high in
    let none : low_part high (todo (entries m) (place c.loop-next.next)) ≡ [] = elim c.match-next.branch [
      | in-Some+then-not-is_before w ↦
          let fails : before high w.in-Some.key.now ≡ false = search rules in
          ap (λ x. low_part high (todo (entries m) (place x))) w.in-Some.is ∙ ended m high (w.in-Some.key.now, w.in-Some.field-0-1.now) fails
      | in_default w ↦ ap (λ x. low_part high (todo (entries m) (place x))) w.in_default.is
    ] in
    let whole : Shows kinds (past_entries was n (between c.args.interval.now (entries m))) c.loop-next.rows =
    subst (λ (l : List Row). Shows kinds (past_entries was n (between c.args.interval.now (entries m))) l) (append-nil c.loop-next.rows)
    (c.loop-next.invariant.told was were [] (subst (λ (l : List Entry). Shows kinds (past_entries was n l) []) (sym none) (none_shown kinds))) in
    subst (λ s. Shows kinds (past_entries was n (between c.args.interval.now (entries (S.maps s n)))) c.loop-next.rows) c.maps-maps.ensures whole
