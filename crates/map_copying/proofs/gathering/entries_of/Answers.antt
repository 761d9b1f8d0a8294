use Rattle.std.proofs.Common.{◌≡◌, ◌<◌, ◌++◌, ◌∷◌, List, [], length, arith, sym, ap, ◌∙◌, append_assoc, append-nil}
use Rattle.std.specs.FinMap.{entries}
use Rattle.iv_types.specs.declared.lock.IndexEntry.{IndexEntry}
use Rattle.iv_types.specs.Maps.{Entry, entry_at}
use Rattle.table_store.proofs.Filled.{walk_all}
use Rattle.table_store.proofs.Walks.{place, todo, rest_from, past, walk_goes_on}
use Rattle.map_copying.specs.Entries.{entries_in}
use Rattle.map_copying.proofs.gathering.entries_of.Goals as goal

pub loop-next-init : goal.loop-next-init
loop-next-init g c =
    let m = g.M.SortedMaps.maps c.args.maps.now c.args.index in
    let start : place c.first_at-next.result ≡ entry_at m [] = c.first_at-next.ensures in
    record {
      told = ap (λ (l : List IndexEntry). l ++ entries_in c.args.index (todo (entries m) (place c.first_at-next.result))) c.new-found.ensures
          ∙ ap (entries_in c.args.index) (walk_all m (place c.first_at-next.result) start);
    }

pub loop-next-smaller : goal.loop-next-smaller
loop-next-smaller g c =
    let m = g.M.SortedMaps.maps c.args.maps.now c.args.index in
    let next = walk_goes_on m c.in-Some.key.now (place c.first_after-next.result) c.first_after-next.ensures in
    let now = ap (λ n. todo (entries m) (place n)) c.in-Some.is in
    let smaller : length (todo (entries m) (place c.first_after-next.result)) < length (todo (entries m) (place c.loop-next.next)) = omega (arith, ap length next, ap length now) in
    smaller

pub loop-next-preserved : goal.loop-next-preserved
loop-next-preserved g c =
    let m = g.M.SortedMaps.maps c.args.maps.now c.args.index in
    let i = c.args.index in
    let entry : IndexEntry = record { index = i; key = c.in-Some.key.now; value = c.in-Some.value.now } in
    let next : todo (entries m) (place c.first_after-next.result) ≡ rest_from (past c.in-Some.key.now) (entries m) = walk_goes_on m c.in-Some.key.now (place c.first_after-next.result) c.first_after-next.ensures in
    let now : todo (entries m) (place c.loop-next.next) ≡ (c.in-Some.key.now, c.in-Some.value.now) ∷ rest_from (past c.in-Some.key.now) (entries m) = ap (λ n. todo (entries m) (place n)) c.in-Some.is in
    record {
      told = (λ x. (c.in_ok-push.ensures.ok ∙ ap (λ (e : IndexEntry). c.loop-next.found ++ e ∷ []) c.in_ok-entry_of.ensures) x ++ entries_in i (next x))
          ∙ (append_assoc c.loop-next.found (entry ∷ []) (entries_in i (rest_from (past c.in-Some.key.now) (entries m)))
          ∙ (ap (λ (l : List Entry). c.loop-next.found ++ entries_in i l) (sym now) ∙ c.loop-next.invariant.told));
    }

pub returns : goal.returns
returns g c =
    let m = g.M.SortedMaps.maps c.args.maps.now c.args.index in
    let none : todo (entries m) (place c.loop-next.next) ≡ [] = ap (λ n. todo (entries m) (place n)) c.in_default.is in
    sym (append-nil c.loop-next.found) ∙ (ap (λ (l : List Entry). c.loop-next.found ++ entries_in c.args.index l) (sym none) ∙ c.loop-next.invariant.told)
