use Rattle.std.proofs.Common.{◌≡◌, ◌+◌, ◌∷◌, [], ℕ, List, drop, sym, ap, subst, ◌∙◌}
use Rattle.std.proofs.lemmas.List.{drop_more, drop_all}
use Rattle.std.specs.FinMap.{remove}
use Rattle.iv_types.specs.declared.lock.IndexEntry.{IndexEntry}
use Rattle.table_store.specs.Entries.{TakesOut}
use Rattle.table_store.proofs.Exchanges.{Taking, taking_step, take_none}
use Rattle.table_store.proofs.exchange.take_out.Goals as goal

pub loop-entry-preserved : goal.loop-entry-preserved
loop-entry-preserved g c =
    let maps = g.M.SortedMaps.maps in
    let spare = g.M.SortedMaps.spare in
    let es = c.args.entries.now in
    let at = c.loop-entry.entry-index in
    let e = c.entry-item.result in
    let split : drop at es ≡ e ∷ drop (at + 1) es = drop_more es at e c.loop-entry-test.true ∙ ap (λ (x : IndexEntry). x ∷ drop (at + 1) es) (sym c.entry-item.is) in
    let was : Taking es (maps c.args.maps.now) (maps c.loop-entry.maps) (spare c.args.maps.now) (spare c.loop-entry.maps) (e ∷ drop (at + 1) es) =
    subst (λ (l : List IndexEntry). Taking es (maps c.args.maps.now) (maps c.loop-entry.maps) (spare c.args.maps.now) (spare c.loop-entry.maps) l) split c.loop-entry.invariant.taking in
    record {
      taking = taking_step es (maps c.args.maps.now) (maps c.loop-entry.maps) (maps c.remove.new.self) (spare c.args.maps.now) (spare c.loop-entry.maps) (spare c.remove.new.self) e (drop (at + 1) es) was
          (c.remove.ensures.entry ∙ ap (λ (k : List ℕ). remove (maps c.loop-entry.maps e.index) k) c.as_slice.ensures)
          c.remove.ensures.others c.remove.ensures.spare c.remove.ensures.other_spares;
      limit = c.remove.ensures.limit ∙ c.loop-entry.invariant.limit;
    }

pub returns-clause-out : goal.returns-clause-out
returns-clause-out g c =
    let maps = g.M.SortedMaps.maps in
    let es = c.args.entries.now in
    let none : drop c.loop-entry.entry-index es ≡ [] = drop_all _ es c.loop-entry-test.false in
    c.loop-entry.invariant.taking.out (maps c.loop-entry.maps)
    (subst (λ (l : List IndexEntry). TakesOut l (maps c.loop-entry.maps) (maps c.loop-entry.maps)) (sym none) (take_none (maps c.loop-entry.maps)))
