use Rattle.std.proofs.Common.{ℕ, ◌≡◌, ◌≤◌, ◌∙◌, List, Option, Some, sym, ap, subst}
use Rattle.std.specs.FinMap as map
use Rattle.iv_types.specs.Maps.{Map, used, with_map}
use Rattle.ordered_index.specs.Tree.{Tree, map_of, data_limit}
use Rattle.iv_types.proofs.MapSizes.{get_removed}
use Rattle.ordered_index.proofs.Maps.{Grown, Reset, grown, reset, reset_in_place, used_replaced}
use Rattle.ordered_index.proofs.page_maps.PageMapsSortedMaps.replace.Goals as goal

abbrev limit_by : ℕ → Option ℕ
limit_by n = Some (data_limit n)

pub put-requires-clause-absent : goal.put-requires-clause-absent
put-requires-clause-absent c =
    let e = c.take.ensures in
    let same = c.set_in_place.ensures.same c.if-set_in_place.false in
    let g = grown c.take.new.self c.set_in_place.new.self c.args.index c.args.key.now e.all.0 e.is e.was (sym e.pages) e.all.1 in
    ap (λ (m : Map). map.get m c.args.key.now) g.back ∙ get_removed (map_of c.set_in_place.new.self c.args.index) c.args.key.now

within : (t u : Tree) (i : ℕ) (k v w x : List ℕ) → Grown t u i k w → x ≡ v → t.pages ≡ u.pages → used (with_map (map_of u) i (map.insert (map_of u i) k v)) ≤ data_limit u.pages → used (with_map (map_of t) i (map.insert (map_of t i) k x)) ≤ data_limit t.pages
within t u i k v w x g e p h =
    subst (λ (n : ℕ). used (with_map (map_of t) i (map.insert (map_of t i) k x)) ≤ data_limit n) (sym p)
    (subst (λ (y : List ℕ). used (with_map (map_of t) i (map.insert (map_of t i) k y)) ≤ data_limit u.pages) (sym e)
    (subst (λ (n : ℕ). n ≤ data_limit u.pages) (sym (used_replaced t u i k v w g)) h))

within_still : (u now : Tree) (i : ℕ) (k v : List ℕ) → now ≡ u → used (with_map (map_of u) i (map.insert (map_of u i) k v)) ≤ data_limit u.pages → used (with_map (map_of now) i (map.insert (map_of now i) k v)) ≤ data_limit now.pages
within_still u now i k v e h = subst (λ (t : Tree). used (with_map (map_of t) i (map.insert (map_of t i) k v)) ≤ data_limit t.pages) (sym e) h

pub put-requires-clause-within : goal.put-requires-clause-within
put-requires-clause-within c =
    let e = c.take.ensures in
    let same = c.set_in_place.ensures.same c.if-set_in_place.false in
    let g = grown c.take.new.self c.set_in_place.new.self c.args.index c.args.key.now e.all.0 e.is e.was (sym e.pages) e.all.1 in
    within c.take.new.self c.set_in_place.new.self c.args.index c.args.key.now c.args.value e.all.0 _ g c.as_slice-2.ensures e.pages (within_still c.args.self.now _ c.args.index c.args.key.now c.args.value same c.requires.within)

pub returns-then-set_in_place : goal.returns-then-set_in_place
returns-then-set_in_place c =
    let e = c.set_in_place.ensures in
    let s = e.all c.if-set_in_place.true in
    let r = reset_in_place c.args.self.now c.set_in_place.new.self c.args.index c.args.key.now c.as_slice.result.now e.was e.is e.pages s in
    record {
      entry = r.map ∙ ap (λ (v : List ℕ). map.insert (map_of c.args.self.now c.args.index) c.args.key.now v) c.as_slice.ensures;
      others = r.others;
      spare = r.spares;
      limit = ap (λ (n : ℕ). limit_by n) e.pages;
      kept = e.kept;
    }

-- what a removal and an insertion leave of a tree that stayed as it was
by_both : (u now t w : Tree) (i : ℕ) (k v x : List ℕ) → now ≡ u → Grown t now i k v → Grown t w i k x → Reset u w i k x
by_both u now t w i k v x e g h = subst (λ (y : Tree). Reset y w i k x) e (reset t now w i k v x g h)

pub returns : goal.returns
returns c =
    let e = c.take.ensures in
    let same = c.set_in_place.ensures.same c.if-set_in_place.false in
    let g = grown c.take.new.self c.set_in_place.new.self c.args.index c.args.key.now e.all.0 e.is e.was (sym e.pages) e.all.1 in
    let f = c.put.ensures in
    let h = grown c.take.new.self c.put.new.self c.args.index c.args.key.now c.as_slice-2.result.now f.was f.is f.pages f.all in
    let r = by_both c.args.self.now c.set_in_place.new.self c.take.new.self c.put.new.self c.args.index c.args.key.now e.all.0 c.as_slice-2.result.now same g h in
    record {
      entry = r.map ∙ ap (λ (v : List ℕ). map.insert (map_of c.args.self.now c.args.index) c.args.key.now v) c.as_slice-2.ensures;
      others = r.others;
      spare = r.spares;
      limit = ap (λ (n : ℕ). limit_by n) (f.pages ∙ e.pages ∙ ap (λ (t : Tree). t.pages) same);
      kept = f.kept ∙ e.kept ∙ ap (λ (t : Tree). t.kept) same;
    }
