use Rattle.std.proofs.Common.{rules, ◌≡◌, ◌+◌, ◌≤◌, [], ℕ, List, Option, length, refl, ap, sym, subst, ◌∙◌, arith}
use Rattle.std.specs.FinMap.{insert}
use Rattle.iv_types.specs.Maps.{IsWithin, used, with_map}
use Rattle.iv_types.specs.declared.lock.IndexEntry.{IndexEntry}
use Rattle.table_store.specs.Filling.{filled}
use Rattle.table_store.proofs.Filled.{Filling, filling_start, filling_last, filling_step}
use Rattle.table_store.proofs.filling.put_all.Goals as goal

pub loop-key-init : goal.loop-key-init
loop-key-init g c =
    let maps = g.M.SortedMaps.maps in
    let spare = g.M.SortedMaps.spare in
    let start = filling_start c.args.index c.args.entries (maps c.args.maps.now) (spare c.args.maps.now) (g.M.SortedMaps.limit c.args.maps.now) c.requires in
    record {
      filling = subst (λ (l : List IndexEntry). Filling c.args.index c.args.entries (maps c.args.maps.now) (maps c.args.maps.now) (spare c.args.maps.now) (spare c.args.maps.now) (g.M.SortedMaps.limit c.args.maps.now) l) (sym c.into_vec-left.ensures) start;
      limit = refl;
    }

pub insert-requires-clause-room : goal.insert-requires-clause-room
insert-requires-clause-room g c = (filling_last c.pop.new.self.items c.in-Some.field-0 c.in-Some.ensures.items c.loop-key.invariant.filling).places

pub insert-requires-clause-absent : goal.insert-requires-clause-absent
insert-requires-clause-absent g c = (filling_last c.pop.new.self.items c.in-Some.field-0 c.in-Some.ensures.items c.loop-key.invariant.filling).absent

pub insert-requires-clause-held : goal.insert-requires-clause-held
insert-requires-clause-held g c = (filling_last c.pop.new.self.items c.in-Some.field-0 c.in-Some.ensures.items c.loop-key.invariant.filling).held

pub insert-requires-clause-within : goal.insert-requires-clause-within
insert-requires-clause-within g c =
    let maps = g.M.SortedMaps.maps in
    let e = c.in-Some.field-0 in
    subst (λ (l : Option ℕ). IsWithin l (used (with_map (maps c.loop-key.maps) c.args.index (insert (maps c.loop-key.maps c.args.index) e.key e.value)))) (sym c.loop-key.invariant.limit) (filling_last c.pop.new.self.items c.in-Some.field-0 c.in-Some.ensures.items c.loop-key.invariant.filling).within

pub loop-key-preserved : goal.loop-key-preserved
loop-key-preserved g c =
    let maps = g.M.SortedMaps.maps in
    let spare = g.M.SortedMaps.spare in
    record {
      filling = filling_step c.pop.new.self.items c.in-Some.field-0 c.in-Some.ensures.items c.loop-key.invariant.filling (maps c.insert.new.self) (spare c.insert.new.self)
          c.insert.ensures.entry c.insert.ensures.others c.insert.ensures.spare c.insert.ensures.other_spares;
      limit = c.insert.ensures.limit ∙ c.loop-key.invariant.limit;
    }

pub returns-clause-map : goal.returns-clause-map
returns-clause-map g c =
    let maps = g.M.SortedMaps.maps in
    let none : c.loop-key.left.items ≡ [] = search rules in
    sym (ap (filled (maps c.loop-key.maps c.args.index)) none) ∙ c.loop-key.invariant.filling.map

pub returns-clause-others : goal.returns-clause-others
returns-clause-others g c = c.loop-key.invariant.filling.others

pub returns-clause-room : goal.returns-clause-room
returns-clause-room g c =
    let spare = g.M.SortedMaps.spare in
    let room : spare c.args.maps.now c.args.index + length c.loop-key.left.items ≤ spare c.loop-key.maps c.args.index + length c.args.entries = c.loop-key.invariant.filling.room in
    omega (arith, room)

pub returns-clause-other_rooms : goal.returns-clause-other_rooms
returns-clause-other_rooms g c = c.loop-key.invariant.filling.other_rooms

pub returns-clause-limit : goal.returns-clause-limit
returns-clause-limit g c = c.loop-key.invariant.limit
