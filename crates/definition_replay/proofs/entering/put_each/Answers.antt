use Rattle.std.proofs.Common.{rules, ◌≡◌, [], ℕ, List, Option, length, refl, ap, sym, subst, ◌∙◌, arith}
use Rattle.std.specs.FinMap.{insert}
use Rattle.iv_types.specs.Maps.{IsWithin, used, with_map}
use Rattle.iv_types.specs.declared.lock.IndexEntry.{IndexEntry}
use Rattle.table_store.specs.Filling.{filled}
use Rattle.table_store.proofs.Filled.{Filling, filling_start, filling_last, filling_step}
use Rattle.definition_replay.proofs.entering.put_each.Goals as goal

pub loop-key-init : goal.loop-key-init
loop-key-init g c =
    let maps = g.M.SortedMaps.maps in
    let room : ℕ → ℕ = λ _. length c.args.entries in
    record {
      filling = subst (λ (l : List IndexEntry). Filling c.args.index c.args.entries (maps c.args.maps.now) (maps c.args.maps.now) room room (g.M.SortedMaps.limit c.args.maps.now) l) (sym c.into_vec-left.ensures)
          (filling_start c.args.index c.args.entries (maps c.args.maps.now) room (g.M.SortedMaps.limit c.args.maps.now) c.requires);
      limit = refl;
    }

pub put-requires-clause-absent : goal.put-requires-clause-absent
put-requires-clause-absent g c κs within = (filling_last c.pop.new.self.items c.in-Some.field-0 c.in-Some.ensures.items c.loop-key.invariant.filling).absent

pub put-requires-clause-held : goal.put-requires-clause-held
put-requires-clause-held g c κs within = (filling_last c.pop.new.self.items c.in-Some.field-0 c.in-Some.ensures.items c.loop-key.invariant.filling).held

pub put-requires-clause-within : goal.put-requires-clause-within
put-requires-clause-within g c κs within =
    let maps = g.M.SortedMaps.maps in
    let e = c.in-Some.field-0 in
    subst (λ (l : Option ℕ). IsWithin l (used (with_map (maps c.loop-key.maps) c.args.index (insert (maps c.loop-key.maps c.args.index) e.key e.value)))) (sym c.loop-key.invariant.limit)
    (filling_last c.pop.new.self.items e c.in-Some.ensures.items c.loop-key.invariant.filling).within

pub loop-key-preserved : goal.loop-key-preserved
loop-key-preserved g c =
    let maps = g.M.SortedMaps.maps in
    record {
      filling = filling_step c.pop.new.self.items c.in-Some.field-0 c.in-Some.ensures.items c.loop-key.invariant.filling (maps c.put.new.maps) (λ _. length c.args.entries)
          c.in_ok-put.ensures.entry c.in_ok-put.ensures.others (omega arith) (λ n ne. omega arith);
      limit = c.put.ensures.limit ∙ c.loop-key.invariant.limit;
    }

pub returns-clause-entries : goal.returns-clause-entries
returns-clause-entries g c =
    let maps = g.M.SortedMaps.maps in
    let none : c.loop-key.left.items ≡ [] = search rules in
    sym (ap (filled (maps c.loop-key.maps c.args.index)) none) ∙ c.loop-key.invariant.filling.map

pub returns-clause-others : goal.returns-clause-others
returns-clause-others g c = c.loop-key.invariant.filling.others

pub returns-clause-limit : goal.returns-clause-limit
returns-clause-limit g c = c.loop-key.invariant.limit
