use Rattle.std.proofs.Common.{◌≡◌, [], ℕ, List, Option, sym, subst, ◌∙◌, rules}
use Rattle.std.specs.FinMap.{insert}
use Rattle.iv_types.specs.Maps.{IsWithin, used, with_map}
use Rattle.iv_types.specs.declared.lock.IndexEntry.{IndexEntry}
use Rattle.table_store.specs.Entries.{PutsIn}
use Rattle.table_store.proofs.Exchanges.{Putting, putting_last, putting_step, put_none}
use Rattle.table_store.proofs.exchange.put_in.Goals as goal

pub insert-requires-clause-within : goal.insert-requires-clause-within
insert-requires-clause-within g c =
    let maps = g.M.SortedMaps.maps in
    let spare = g.M.SortedMaps.spare in
    let rest = c.pop.new.self.items in
    let e = c.in-Some.field-0 in
    let was = subst (λ (l : List IndexEntry). Putting c.args.entries (maps c.args.maps.now) (maps c.loop-index.maps) (spare c.args.maps.now) (spare c.loop-index.maps) (g.M.SortedMaps.limit c.args.maps.now) l)
    c.in-Some.ensures.items c.loop-index.invariant.putting in
    let can = putting_last c.args.entries (maps c.args.maps.now) (maps c.loop-index.maps) (spare c.args.maps.now) (spare c.loop-index.maps) (g.M.SortedMaps.limit c.args.maps.now) rest e was in
    subst (λ (l : Option ℕ). IsWithin l (used (with_map (maps c.loop-index.maps) e.index (insert (maps c.loop-index.maps e.index) e.key e.value)))) (sym c.loop-index.invariant.limit) can.within

pub loop-index-preserved : goal.loop-index-preserved
loop-index-preserved g c =
    let maps = g.M.SortedMaps.maps in
    let spare = g.M.SortedMaps.spare in
    let rest = c.pop.new.self.items in
    let e = c.in-Some.field-0 in
    let was = subst (λ (l : List IndexEntry). Putting c.args.entries (maps c.args.maps.now) (maps c.loop-index.maps) (spare c.args.maps.now) (spare c.loop-index.maps) (g.M.SortedMaps.limit c.args.maps.now) l)
    c.in-Some.ensures.items c.loop-index.invariant.putting in
    record {
      putting = putting_step c.args.entries (maps c.args.maps.now) (maps c.loop-index.maps) (maps c.insert.new.self) (spare c.args.maps.now) (spare c.loop-index.maps) (spare c.insert.new.self)
          (g.M.SortedMaps.limit c.args.maps.now) rest e was c.insert.ensures.entry c.insert.ensures.others c.insert.ensures.spare c.insert.ensures.other_spares;
      limit = c.insert.ensures.limit ∙ c.loop-index.invariant.limit;
    }

pub returns-clause-put : goal.returns-clause-put
returns-clause-put g c =
    let maps = g.M.SortedMaps.maps in
    let none : c.loop-index.left.items ≡ [] = search rules in
    c.loop-index.invariant.putting.put (maps c.loop-index.maps)
    (subst (λ (l : List IndexEntry). PutsIn l (maps c.loop-index.maps) (maps c.loop-index.maps)) (sym none) (put_none (maps c.loop-index.maps)))
