use Rattle.std.proofs.Common.{ℕ, ◌≡◌, ◌+◌, ◌≤◌, ◌∙◌, sym, ap, arith, rules, List, length, Some, None}
use Rattle.std.specs.FinMap as map
use Rattle.iv_types.specs.Maps.{used}
use Rattle.ordered_index.specs.Flat.{items}
use Rattle.ordered_index.specs.Tree.{Tree, map_of, data_limit}
use Rattle.ordered_index.specs.Calls.{CanPut}
use Rattle.iv_types.proofs.MapSizes.{used_insert, used_present}
use Rattle.ordered_index.proofs.Maps.{get_of}
use Rattle.ordered_index.proofs.page_maps.PageMaps.can_put.Goals as goal

-- what is told of a value in place of another
there : (t : Tree) (i : ℕ) (k v w : List ℕ) (n : ℕ) → i ≤ 192 → length k ≤ 1024 → length v ≤ 2048 → map.get (map_of t i) k ≡ Some w → used (map_of t) + n ≡ data_limit t.pages
    → (length k + length v + 8 ≤ n + (length k + length w + 8) → CanPut i k v (map_of t) (Some (data_limit t.pages))) × (CanPut i k v (map_of t) (Some (data_limit t.pages)) → length k + length v + 8 ≤ n + (length k + length w + 8))
there t i k v w n hi hk hv some room =
    let u = used_present (map_of t) i k v w hi some in
    ((λ le. record { held = record { of_index = hi; of_key = hk; of_value = hv }; within = omega arith }), λ can. let within = can.within in omega arith)

-- and of a new one
new : (t : Tree) (i : ℕ) (k v : List ℕ) (n : ℕ) → i ≤ 192 → length k ≤ 1024 → length v ≤ 2048 → map.get (map_of t i) k ≡ None → used (map_of t) + n ≡ data_limit t.pages
    → (length k + length v + 8 ≤ n → CanPut i k v (map_of t) (Some (data_limit t.pages))) × (CanPut i k v (map_of t) (Some (data_limit t.pages)) → length k + length v + 8 ≤ n)
new t i k v n hi hk hv none room =
    let u = used_insert (map_of t) i k v hi none in
    ((λ le. record { held = record { of_index = hi; of_key = hk; of_value = hv }; within = omega arith }), λ can. let within = can.within in omega arith)

pub returns-in-Some : goal.returns-in-Some
unfolding map_of
returns-in-Some c =
    let some : map.get (map_of c.args.self.now c.args.index) c.args.key.now ≡ Some c.in-Some.old.now =
    sym (ap (λ (t : Tree). map.get (map_of t c.args.index) c.args.key.now) c.self.view_is) ∙ get_of c.args.index c.args.key.now (items c.self.inside.leaves.leaves) c.self.invariant.forest.rising ∙ sym c.in-Some.ensures in
    let r = there c.args.self.now c.args.index c.args.key.now c.args.value.now c.in-Some.old.now c.room.result (omega arith) (omega arith) (omega arith) some c.room.ensures in
    ((λ h. r.0 (search rules)), λ can. let le = r.1 can in search rules)

pub returns-in-None : goal.returns-in-None
unfolding map_of
returns-in-None c =
    let none : map.get (map_of c.args.self.now c.args.index) c.args.key.now ≡ None =
    sym (ap (λ (t : Tree). map.get (map_of t c.args.index) c.args.key.now) c.self.view_is) ∙ get_of c.args.index c.args.key.now (items c.self.inside.leaves.leaves) c.self.invariant.forest.rising ∙ sym c.in-None.ensures in
    let r = new c.args.self.now c.args.index c.args.key.now c.args.value.now c.room-in-None.result (omega arith) (omega arith) (omega arith) none c.room-in-None.ensures in
    ((λ h. r.0 (search rules)), λ can. let le = r.1 can in search rules)
