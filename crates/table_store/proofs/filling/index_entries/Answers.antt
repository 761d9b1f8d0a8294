use Rattle.std.proofs.Common.{◌≡◌, ◌<◌, List, Some, [], ◌∷◌, ◌++◌, length, sym, ap, subst, ◌∙◌, arith, append_assoc, append-nil}
use Rattle.std.specs.List.{AllZip}
use Rattle.std.specs.FinMap.{get, entries}
use Rattle.iv_types.specs.declared.lock.IndexEntry.{IndexEntry}
use Rattle.iv_types.specs.Maps.{Entry, entry_at}
use Rattle.table_store.specs.Filling.{IsIndexEntry}
use Rattle.table_store.proofs.Filled.{row_behind, walk_all}
use Rattle.table_store.proofs.Walks.{place, todo, rest_from, past, at_held, after_held, walk_goes_on}
use Rattle.table_store.proofs.filling.index_entries.Goals as goal

pub loop-next-init : goal.loop-next-init
loop-next-init g c =
    let m = g.M.SortedMaps.maps c.args.maps.now c.args.table.now.number in
    let start : place c.first_at-next.result ≡ entry_at m [] = c.first_at-next.ensures in
    let are = IsIndexEntry c.args.table.now c.args.index.now in
    record {
      held = λ e is. at_held m [] e (sym is ∙ start);
      told = λ es told. subst (λ (l : List IndexEntry). AllZip are (entries m) (l ++ es)) (sym c.new-found.ensures) (subst (λ (l : List Entry). AllZip are l es) (walk_all m (place c.first_at-next.result) start) told);
    }

pub entry_of-requires : goal.entry_of-requires
entry_of-requires g c =
    let row = c.requires c.in-Some.key.now c.in-Some.bytes.now (c.loop-next.invariant.held (c.in-Some.key.now, c.in-Some.bytes.now) (ap place c.in-Some.is)) in
    (row.0, row.1.0, row.2)

pub loop-next-smaller : goal.loop-next-smaller
loop-next-smaller g c =
    let m = g.M.SortedMaps.maps c.args.maps.now c.args.table.now.number in
    let key = c.in-Some.key.now in
    let next = walk_goes_on m key (place c.first_after-next.result) c.first_after-next.ensures in
    let now = ap (λ n. todo (entries m) (place n)) c.in-Some.is in
    let smaller : length (todo (entries m) (place c.first_after-next.result)) < length (todo (entries m) (place c.loop-next.next)) = omega (arith, ap length next, ap length now) in
    smaller

pub loop-next-preserved : goal.loop-next-preserved
loop-next-preserved g c =
    let m = g.M.SortedMaps.maps c.args.maps.now c.args.table.now.number in
    let are = IsIndexEntry c.args.table.now c.args.index.now in
    let key = c.in-Some.key.now in
    let bytes = c.in-Some.bytes.now in
    let entry = c.in_ok-entry_of.field-0 in
    let there : get m key ≡ Some bytes = c.loop-next.invariant.held (key, bytes) (ap place c.in-Some.is) in
    let here = row_behind c.args.table.now c.args.index.now m key bytes entry c.requires there c.in_ok-entry_of.ensures in
    let next = walk_goes_on m key (place c.first_after-next.result) c.first_after-next.ensures in
    let now : todo (entries m) (place c.loop-next.next) ≡ (key, bytes) ∷ rest_from (past key) (entries m) = ap (λ n. todo (entries m) (place n)) c.in-Some.is in
    record {
      held = λ e is. after_held m key e (sym is ∙ c.first_after-next.ensures);
      told = λ es told.
          let rest = subst (λ (l : List Entry). AllZip are l es) next told in
          let whole = subst (λ (l : List Entry). AllZip are l (entry ∷ es)) (sym now) (here, rest) in
          subst (λ (l : List IndexEntry). AllZip are (entries m) l)
          (sym (ap (λ (l : List IndexEntry). l ++ es) c.in_ok-push.ensures.ok ∙ append_assoc c.loop-next.found (entry ∷ []) es))
          (c.loop-next.invariant.told (entry ∷ es) whole);
    }

pub returns : goal.returns
returns g c =
    let m = g.M.SortedMaps.maps c.args.maps.now c.args.table.now.number in
    let are = IsIndexEntry c.args.table.now c.args.index.now in
    let none : todo (entries m) (place c.loop-next.next) ≡ [] = ap (λ n. todo (entries m) (place n)) c.in_default.is in
    subst (λ (l : List IndexEntry). AllZip are (entries m) l) (append-nil c.loop-next.found)
    (c.loop-next.invariant.told [] (subst (λ (l : List Entry). AllZip are l []) (sym none) tt))
