use Rattle.std.proofs.Common.{◌≡◌, [], sym, ap, subst, ◌∙◌, arith}
use Rattle.std.proofs.lemmas.Int.{ints}
use Rattle.std.specs.Ordering.{nat_cmp}
use Rattle.std.specs.FinMap.{FinMap, get, remove}
use Rattle.std.specs.Prelude.{None}
use Rattle.iv_types.specs.declared.lock.Prefix.{Prefix}
use Rattle.iv_meaning.specs.Escrow.{with_kept}
use Rattle.escrow_bounds.specs.Column.{Column, none, part, without, Narrows, Stands, KeepsOtherRoom}
use Rattle.escrow_bounds.specs.Parts.{parts_of, IsPrefix, Keeps}
use Rattle.escrow_bounds.proofs.PartLemmas.{without_parts}
use Rattle.escrow_bounds.proofs.ColumnLemmas.{Differs-without}
use Rattle.escrow_bounds.proofs.KeepLemmas.{place_at, place_none, part_at, rest_fits, inside_fits, moved_keeps, inside_none, without-none, follows-without, IsPrefix-none, room_without}
use Rattle.escrow_bounds.proofs.escrow.Escrow.drop_txn.Goals as goal

here : (c : goal.After-moved-arg-1) → part (record { committed = c.self.inside.committed; parts = parts_of c.self.inside.parts.items }) c.args.session ≡ c.index.result.now.prefix
here c = part_at c.self.inside.committed c.self.inside.parts.items c.args.session c.in-Some.place c.index.result.now (place_at c.self.inside.parts.items _ _ _ _ c.deref.ensures.value c.place.ensures c.in-Some.is) c.index.ensures

pub moved-self-inside-requires-clause-rest : goal.moved-self-inside-requires-clause-rest
moved-self-inside-requires-clause-rest c = rest_fits _ c.self.inside.bounds c.args.session c.index.result.now.prefix c.self.invariant c.requires (here c)

pub moved-self-inside-requires-clause-fits : goal.moved-self-inside-requires-clause-fits
moved-self-inside-requires-clause-fits c =
    inside_fits _ c.self.inside.bounds c.args.session c.index.result.now.prefix c.self.invariant c.requires (here c) none
    (inside_none _ (subst IsPrefix (here c) (c.self.invariant.prefixes c.args.session)))

module _ (c : goal.After-remove) where
  old : Column
  old = record { committed = c.self.inside.committed; parts = parts_of c.self.inside.parts.items }

  is : part old c.args.session ≡ c.index.result.now.prefix
  unfolding old
  is = part_at c.self.inside.committed c.self.inside.parts.items c.args.session c.in-Some.place c.index.result.now (place_at c.self.inside.parts.items _ _ _ _ c.deref.ensures.value c.place.ensures c.in-Some.is) c.index.ensures

  left : parts_of c.remove.new.parts.items ≡ remove (parts_of c.self.inside.parts.items) c.args.session
  left = ap parts_of c.remove.ensures ∙ without_parts c.self.inside.parts.items c.args.session

  keeps : Keeps (without old c.args.session) c.moved-self-inside.result.inf c.moved-self-inside.result.sup × Narrows old (without old c.args.session)
  unfolding old
  keeps =
      moved_keeps old c.self.inside.bounds c.args.session c.index.result.now.prefix c.self.invariant c.requires is
      (without old c.args.session) none none c.moved-self-inside.result (Differs-without old c.args.session old.committed)
      (inside_none _ (subst IsPrefix is (c.self.invariant.prefixes c.args.session))) IsPrefix-none
      (omega (arith, ints)) (omega (arith, ints)) c.moved-self-inside.ensures

pub invariant_of-self : goal.invariant_of-self
unfolding old
invariant_of-self c =
    subst (λ (m : FinMap nat_cmp Prefix). Keeps (record { committed = c.self.inside.committed; parts = m }) c.moved-self-inside.result.inf c.moved-self-inside.result.sup) (sym (left c)) (keeps c).0

pub returns-in-Some-clause-value : goal.returns-in-Some-clause-value
returns-in-Some-clause-value c =
    ap (λ (m : FinMap nat_cmp Prefix). record { committed = c.self.inside.committed; parts = m }) (left c)
    ∙ ap (λ (v : Column). without v c.args.session) c.self.view_is

pub returns-in-Some-clause-narrows : goal.returns-in-Some-clause-narrows
unfolding old
returns-in-Some-clause-narrows c =
    let narrows : Narrows c.args.self.now (without c.args.self.now c.args.session) =
    subst (λ (v : Column). Narrows v (without v c.args.session)) c.self.view_is (keeps c).1 in
    subst (λ (v : Column). Narrows c.args.self.now v) (sym (returns-in-Some-clause-value c)) narrows

pub returns-in-Some-clause-account : goal.returns-in-Some-clause-account
returns-in-Some-clause-account c = λ a st. subst (λ (v : Column). Stands v (with_kept a c.args.session [])) (sym (returns-in-Some-clause-value c)) (follows-without c.args.self.now c.args.session a st)

pub returns-in_default-clause-value : goal.returns-in_default-clause-value
returns-in_default-clause-value c =
    without-none _ _ (subst (λ (v : Column). get v.parts c.args.session ≡ None) c.self.view_is (place_none c.self.inside.parts.items _ _ _ c.deref.ensures.value c.place.ensures c.in_default.is))

pub returns-in_default-clause-account : goal.returns-in_default-clause-account
returns-in_default-clause-account c = λ a st. subst (λ (v : Column). Stands v (with_kept a c.args.session [])) (sym (returns-in_default-clause-value c)) (follows-without c.args.self.now c.args.session a st)

pub returns-in-Some-clause-room : goal.returns-in-Some-clause-room
returns-in-Some-clause-room c = subst (KeepsOtherRoom c.args.session c.args.self.now) (sym (returns-in-Some-clause-value c)) (room_without c.args.self.now c.args.session c.args.self.now.committed)
