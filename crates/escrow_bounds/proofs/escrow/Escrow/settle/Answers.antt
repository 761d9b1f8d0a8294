use Rattle.std.proofs.Common.{◌≡◌, sym, ap, subst, ◌∙◌, arith, rules}
use Rattle.std.proofs.lemmas.Int.{ints, to_z-of_z}
use Rattle.std.specs.Prelude.{◌+ℤ◌, None, FitsSigned}
use Rattle.std.specs.Int.{w128}
use Rattle.std.specs.Ordering.{nat_cmp}
use Rattle.std.specs.FinMap.{FinMap, get, remove}
use Rattle.iv_types.specs.declared.lock.Prefix.{Prefix}
use Rattle.iv_meaning.specs.Escrow as meaning
use Rattle.escrow_bounds.specs.Column.{Column, none, part, settled, Narrows, Stands, KeepsOtherRoom}
use Rattle.escrow_bounds.specs.Parts.{parts_of, IsPrefix, Keeps}
use Rattle.escrow_bounds.proofs.PartLemmas.{without_parts}
use Rattle.escrow_bounds.proofs.ColumnLemmas.{Differs-without}
use Rattle.escrow_bounds.proofs.KeepLemmas.{place_at, place_none, part_at, rest_fits, inside_fits, moved_keeps, settled_fits, sum_alone, inside_sum, settled-none, follows-settled, IsPrefix-none, room_without}
use Rattle.escrow_bounds.proofs.escrow.Escrow.settle.Goals as goal

here : (c : goal.After-moved-arg-1) → part (record { committed = c.self.inside.committed; parts = parts_of c.self.inside.parts.items }) c.args.session ≡ c.index.result.now.prefix
here c = part_at c.self.inside.committed c.self.inside.parts.items c.args.session c.in-Some.place c.index.result.now (place_at c.self.inside.parts.items _ _ _ _ c.deref.ensures.value c.place.ensures c.in-Some.is) c.index.ensures

pub moved-self-inside-requires-clause-rest : goal.moved-self-inside-requires-clause-rest
moved-self-inside-requires-clause-rest c = rest_fits _ c.self.inside.bounds c.args.session c.index.result.now.prefix c.self.invariant c.requires (here c)

pub moved-self-inside-requires-clause-fits : goal.moved-self-inside-requires-clause-fits
moved-self-inside-requires-clause-fits c =
    let sum_fits : FitsSigned w128 c.index.result.now.prefix.sum = search rules in
    simp to_z-of_z (inside_fits _ c.self.inside.bounds c.args.session c.index.result.now.prefix c.self.invariant c.requires (here c) (sum_alone c.index.result.now.prefix.sum)
    (inside_sum _ (subst IsPrefix (here c) (c.self.invariant.prefixes c.args.session))))

pub overflow_add-self : goal.overflow_add-self
overflow_add-self c =
    let old : Column = record { committed = c.self.inside.committed; parts = parts_of c.self.inside.parts.items } in
    let is : part old c.args.session ≡ c.index.result.now.prefix = part_at c.self.inside.committed c.self.inside.parts.items c.args.session c.in-Some.place c.index.result.now (place_at c.self.inside.parts.items _ _ _ _ c.deref.ensures.value c.place.ensures c.in-Some.is) c.index.ensures in
    let sum_fits : FitsSigned w128 c.index.result.now.prefix.sum = search rules in
    let committed_fits : FitsSigned w128 c.self.inside.committed = search rules in
    simp to_z-of_z (settled_fits old c.self.inside.bounds c.args.session c.index.result.now.prefix c.self.invariant c.requires is).0

module _ (c : goal.After-remove) where
  old : Column
  old = record { committed = c.self.inside.committed; parts = parts_of c.self.inside.parts.items }

  is : part old c.args.session ≡ c.index.result.now.prefix
  unfolding old
  is = part_at c.self.inside.committed c.self.inside.parts.items c.args.session c.in-Some.place c.index.result.now (place_at c.self.inside.parts.items _ _ _ _ c.deref.ensures.value c.place.ensures c.in-Some.is) c.index.ensures

  left : parts_of c.remove.new.parts.items ≡ remove (parts_of c.self.inside.parts.items) c.args.session
  left = ap parts_of c.remove.ensures ∙ without_parts c.self.inside.parts.items c.args.session

  total_fits : FitsSigned w128 (c.self.inside.committed +ℤ c.index.result.now.prefix.sum)
  unfolding old
  total_fits = (settled_fits old c.self.inside.bounds c.args.session c.index.result.now.prefix c.self.invariant c.requires is).0

  keeps : Keeps (settled old c.args.session) c.moved-self-inside.result.inf c.moved-self-inside.result.sup × Narrows old (settled old c.args.session)
  unfolding old
  keeps =
      let sum_fits : FitsSigned w128 c.index.result.now.prefix.sum = search rules in
      let e = ap (λ (x : Prefix). x.sum) is in
      moved_keeps old c.self.inside.bounds c.args.session c.index.result.now.prefix c.self.invariant c.requires is
      (settled old c.args.session) (sum_alone c.index.result.now.prefix.sum) none c.moved-self-inside.result (Differs-without old c.args.session (old.committed +ℤ (part old c.args.session).sum))
      (inside_sum _ (subst IsPrefix is (c.self.invariant.prefixes c.args.session))) IsPrefix-none
      (omega (arith, ints, e)) (omega (arith, ints, e)) (simp to_z-of_z at c.moved-self-inside.ensures)

  value : record { committed = c.self.inside.committed +ℤ c.index.result.now.prefix.sum; parts = parts_of c.remove.new.parts.items } ≡ settled old c.args.session
  unfolding old
  value =
      ap (λ (m : FinMap nat_cmp Prefix). record { committed = c.self.inside.committed +ℤ c.index.result.now.prefix.sum; parts = m }) left
      ∙ ap (λ (p : Prefix). record { committed = c.self.inside.committed +ℤ p.sum; parts = remove (parts_of c.self.inside.parts.items) c.args.session }) (sym is)

pub invariant_of-self : goal.invariant_of-self
invariant_of-self c =
    let sum_fits : FitsSigned w128 c.index.result.now.prefix.sum = search rules in
    let committed_fits : FitsSigned w128 c.self.inside.committed = search rules in
    let both_fit = total_fits c in
    simp to_z-of_z (subst (λ (v : Column). Keeps v c.moved-self-inside.result.inf c.moved-self-inside.result.sup) (sym (value c)) (keeps c).0)

pub returns-in-Some-clause-value : goal.returns-in-Some-clause-value
unfolding old
returns-in-Some-clause-value c =
    let sum_fits : FitsSigned w128 c.index.result.now.prefix.sum = search rules in
    let committed_fits : FitsSigned w128 c.self.inside.committed = search rules in
    let both_fit = total_fits c in
    simp to_z-of_z (value c ∙ ap (λ (v : Column). settled v c.args.session) c.self.view_is)

pub returns-in-Some-clause-narrows : goal.returns-in-Some-clause-narrows
unfolding old
returns-in-Some-clause-narrows c =
    let narrows : Narrows c.args.self.now (settled c.args.self.now c.args.session) =
    subst (λ (v : Column). Narrows v (settled v c.args.session)) c.self.view_is (keeps c).1 in
    subst (λ (v : Column). Narrows c.args.self.now v) (sym (returns-in-Some-clause-value c)) narrows

pub returns-in-Some-clause-account : goal.returns-in-Some-clause-account
returns-in-Some-clause-account c = λ a st. subst (λ (v : Column). Stands v (meaning.settled a c.args.session)) (sym (returns-in-Some-clause-value c)) (follows-settled c.args.self.now c.args.session a st)

pub returns-in_default-clause-value : goal.returns-in_default-clause-value
returns-in_default-clause-value c =
    settled-none _ _ (subst (λ (v : Column). get v.parts c.args.session ≡ None) c.self.view_is (place_none c.self.inside.parts.items _ _ _ c.deref.ensures.value c.place.ensures c.in_default.is))

pub returns-in_default-clause-account : goal.returns-in_default-clause-account
returns-in_default-clause-account c = λ a st. subst (λ (v : Column). Stands v (meaning.settled a c.args.session)) (sym (returns-in_default-clause-value c)) (follows-settled c.args.self.now c.args.session a st)

pub returns-in-Some-clause-room : goal.returns-in-Some-clause-room
returns-in-Some-clause-room c = subst (KeepsOtherRoom c.args.session c.args.self.now) (sym (returns-in-Some-clause-value c)) (room_without c.args.self.now c.args.session (c.args.self.now.committed +ℤ (part c.args.self.now c.args.session).sum))
