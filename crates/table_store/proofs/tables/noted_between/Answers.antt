use Rattle.std.proofs.Common.{rules, ◌≡◌, ◌<◌, ◌+◌, ◌-◌, ◌^◌, ℕ, true, false, List, [], ◌∷◌, min, length, sym, ap, ◌∙◌, arith}
use Rattle.std.specs.FinMap.{entries}
use Rattle.std.proofs.lemmas.List.Sums.{sum_by-cons}
use Rattle.iv_types.specs.Maps.{Entry, entry_at}
use Rattle.table_store.specs.Stored.{before, noted_row, noted_entries}
use Rattle.table_store.proofs.Walks.{place, todo, low_part, rest_from, past, walk_begins, walk_goes_on, ended, goes_on}
use Rattle.table_store.proofs.tables.noted_between.Goals as goal

pub loop-next-init : goal.loop-next-init
loop-next-init g c =
    let m = g.M.SortedMaps.maps c.args.maps.now c.args.index in
    let interval = c.args.interval.now in
    let start : place c.first_at-next.result ≡ entry_at m interval.low = c.first_at-next.ensures ∙ ap (entry_at m) c.as_slice.ensures in
    record {
      fits = omega arith;
      told = ap (λ n. min n (2 ^ 64 - 1)) (let e : 0 + noted_entries (low_part interval.high (todo (entries m) (place c.first_at-next.result))) ≡ noted_entries (low_part interval.high (todo (entries m) (place c.first_at-next.result))) = omega arith in e)
          ∙ ap (λ es. min (noted_entries es) (2 ^ 64 - 1)) (walk_begins m interval (place c.first_at-next.result) start);
    }

pub loop-next-smaller : goal.loop-next-smaller
loop-next-smaller g c =
    let m = g.M.SortedMaps.maps c.args.maps.now c.args.index in
    let key = c.in-Some.key.now in
    let next = walk_goes_on m key (place c.first_after-next.result) c.first_after-next.ensures in
    let now = ap (λ n. todo (entries m) (place n)) c.in-Some.is in
    let smaller : length (todo (entries m) (place c.first_after-next.result)) < length (todo (entries m) (place c.loop-next.next)) = omega (arith, ap length next, ap length now) in
    smaller

one_more : (size value rest whole all : ℕ) → size < 2 ^ 64 → whole ≡ value + 16 + rest → min (size + whole) (2 ^ 64 - 1) ≡ all
    → min (min (min (size + value) (2 ^ 64 - 1) + 16) (2 ^ 64 - 1) + rest) (2 ^ 64 - 1) ≡ all
one_more size value rest whole all fits is told = omega arith

pub loop-next-preserved : goal.loop-next-preserved
loop-next-preserved g c =
    let m = g.M.SortedMaps.maps c.args.maps.now c.args.index in
    let high = c.args.interval.now.high in
    let key = c.in-Some.key.now in
    let value = c.in-Some.value.now in
    let next = walk_goes_on m key (place c.first_after-next.result) c.first_after-next.ensures in
    let passes : before high key ≡ true = search rules in
    let rest : List Entry = low_part high (rest_from (past key) (entries m)) in
    let now : low_part high (todo (entries m) (place c.loop-next.next)) ≡ (key, value) ∷ rest =
    ap (λ n. low_part high (todo (entries m) (place n))) c.in-Some.is ∙ goes_on m high (key, value) passes in
    let size : c.saturating_add-size.result ≡ min (min (c.loop-next.size + length value) (2 ^ 64 - 1) + 16) (2 ^ 64 - 1) = c.saturating_add-size.ensures ∙ ap (λ n. min (n + 16) (2 ^ 64 - 1)) c.saturating_add.ensures in
    record {
      fits = search rules;
      told = ap (λ es. min (c.saturating_add-size.result + noted_entries (low_part high es)) (2 ^ 64 - 1)) next
          ∙ (ap (λ n. min (n + noted_entries rest) (2 ^ 64 - 1)) size
          ∙ one_more c.loop-next.size (length value) (noted_entries rest) (noted_entries (low_part high (todo (entries m) (place c.loop-next.next)))) _ c.loop-next.invariant.fits
          (ap noted_entries now ∙ sum_by-cons (λ (e : Entry). length e.1 + noted_row) (key, value) rest) c.loop-next.invariant.told);
    }

ends : (size : ℕ) (es : List Entry) (all : ℕ) → size < 2 ^ 64 → es ≡ [] → min (size + noted_entries es) (2 ^ 64 - 1) ≡ all → size ≡ all
ends size es all fits none told =
    let same : size ≡ min (size + 0) (2 ^ 64 - 1) = omega arith in
    same ∙ (ap (λ (l : List Entry). min (size + noted_entries l) (2 ^ 64 - 1)) (sym none) ∙ told)

pub returns-then-not-is_before : goal.returns-then-not-is_before
returns-then-not-is_before g c =
    let m = g.M.SortedMaps.maps c.args.maps.now c.args.index in
    let high = c.args.interval.now.high in
    let fails : before high c.in-Some.key.now ≡ false = search rules in
    ends c.loop-next.size _ _ c.loop-next.invariant.fits (ap (λ n. low_part high (todo (entries m) (place n))) c.in-Some.is ∙ ended m high (c.in-Some.key.now, c.in-Some.value.now) fails) c.loop-next.invariant.told

pub returns-in_default : goal.returns-in_default
returns-in_default g c =
    let m = g.M.SortedMaps.maps c.args.maps.now c.args.index in
    ends c.loop-next.size _ _ c.loop-next.invariant.fits (ap (λ n. low_part c.args.interval.now.high (todo (entries m) (place n))) c.in_default.is) c.loop-next.invariant.told
