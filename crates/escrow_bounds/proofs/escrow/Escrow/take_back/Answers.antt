use Rattle.std.proofs.Common.{◌≡◌, sym, ap, subst, ◌∙◌, arith}
use Rattle.std.proofs.lemmas.Int.{ints}
use Rattle.std.specs.Ordering.{nat_cmp}
use Rattle.std.specs.FinMap.{FinMap}
use Rattle.iv_meaning.specs.Escrow.{with_kept}
use Rattle.iv_types.specs.declared.lock.Prefix.{Prefix}
use Rattle.escrow_bounds.specs.Column.{Column, IsReserved, IsBeforeLatest, part, with_part, Narrows, Stands, KeepsRoom}
use Rattle.escrow_bounds.specs.Parts.{parts_of, StandsAt, IsPrefix, Keeps}
use Rattle.escrow_bounds.proofs.ColumnLemmas.{Differs-with_part}
use Rattle.escrow_bounds.proofs.KeepLemmas.{place_some, place_at, part_at, rest_fits, inside_fits, moved_keeps, before_inside, before_prefix, follows-with_part, room_with_part}
use Rattle.escrow_bounds.proofs.escrow.Escrow.take_back.Goals as goal

pub unwrap-place-requires : goal.unwrap-place-requires
unwrap-place-requires c =
    place_some c.self.inside.parts.items _ _ _ c.deref.ensures.value c.place.ensures (subst (λ (v : Column). IsReserved v c.args.session) (sym c.self.view_is) c.requires.reserved)

found : (c : goal.After-moved-arg-1) → StandsAt c.self.inside.parts.items c.args.session c.unwrap-place.result
found c = place_at c.self.inside.parts.items _ _ _ _ c.deref.ensures.value c.place.ensures c.unwrap-place.ensures

here : (c : goal.After-moved-arg-1) → part (record { committed = c.self.inside.committed; parts = parts_of c.self.inside.parts.items }) c.args.session ≡ c.index.result.now.prefix
here c = part_at c.self.inside.committed c.self.inside.parts.items c.args.session c.unwrap-place.result c.index.result.now (found c) c.index.ensures

latest : (c : goal.After-moved-arg-1) → IsBeforeLatest c.args.before c.index.result.now.prefix
latest c = subst (IsBeforeLatest c.args.before) (ap (λ (v : Column). part v c.args.session) (sym c.self.view_is) ∙ here c) c.requires.latest

pub moved-self-inside-requires-clause-rest : goal.moved-self-inside-requires-clause-rest
moved-self-inside-requires-clause-rest c = rest_fits _ c.self.inside.bounds c.args.session c.index.result.now.prefix c.self.invariant c.requires.session (here c)

pub moved-self-inside-requires-clause-fits : goal.moved-self-inside-requires-clause-fits
moved-self-inside-requires-clause-fits c = inside_fits _ c.self.inside.bounds c.args.session c.index.result.now.prefix c.self.invariant c.requires.session (here c) c.args.before (before_inside _ _ (latest c))

module _ (c : goal.After-self-2-1) where
  old : Column
  old = record { committed = c.self.inside.committed; parts = parts_of c.self.inside.parts.items }

  at : StandsAt c.self.inside.parts.items c.args.session c.unwrap-place.result
  at = place_at c.self.inside.parts.items _ _ _ _ c.deref.ensures.value c.place.ensures c.unwrap-place.ensures

  is : part old c.args.session ≡ c.index.result.now.prefix
  unfolding old
  is = part_at c.self.inside.committed c.self.inside.parts.items c.args.session c.unwrap-place.result c.index.result.now at c.index.ensures

  before : IsBeforeLatest c.args.before c.index.result.now.prefix
  unfolding old
  before = subst (IsBeforeLatest c.args.before) (ap (λ (v : Column). part v c.args.session) (sym c.self.view_is) ∙ is) c.requires.latest

  keeps : Keeps (with_part old c.args.session c.args.before) c.moved-self-inside.result.inf c.moved-self-inside.result.sup × Narrows old (with_part old c.args.session c.args.before)
  unfolding old
  keeps =
      let inside = before_inside _ _ before in
      let prefix = before_prefix _ _ before (subst IsPrefix is (c.self.invariant.prefixes c.args.session)) in
      moved_keeps old c.self.inside.bounds c.args.session c.index.result.now.prefix c.self.invariant c.requires.session is
      (with_part old c.args.session c.args.before) c.args.before c.args.before c.moved-self-inside.result (Differs-with_part old c.args.session c.args.before) inside prefix
      (omega (arith, ints)) (omega (arith, ints)) c.moved-self-inside.ensures

pub invariant_of-self : goal.invariant_of-self
unfolding old
invariant_of-self c =
    subst (λ (m : FinMap nat_cmp Prefix). Keeps (record { committed = c.self.inside.committed; parts = m }) c.moved-self-inside.result.inf c.moved-self-inside.result.sup) (sym ((at c).put c.args.before)) (keeps c).0

pub returns-clause-value : goal.returns-clause-value
returns-clause-value c =
    ap (λ (m : FinMap nat_cmp Prefix). record { committed = c.self.inside.committed; parts = m }) ((at c).put c.args.before)
    ∙ ap (λ (v : Column). with_part v c.args.session c.args.before) c.self.view_is

pub returns-clause-narrows : goal.returns-clause-narrows
unfolding old
returns-clause-narrows c =
    let narrows : Narrows c.args.self.now (with_part c.args.self.now c.args.session c.args.before) =
    subst (λ (v : Column). Narrows v (with_part v c.args.session c.args.before)) c.self.view_is (keeps c).1 in
    subst (λ (v : Column). Narrows c.args.self.now v) (sym (returns-clause-value c)) narrows

pub returns-clause-account : goal.returns-clause-account
returns-clause-account c = λ ds e a st. subst (λ (v : Column). Stands v (with_kept a c.args.session ds)) (sym (returns-clause-value c)) (follows-with_part c.args.self.now c.args.session c.args.before ds e a st)

pub returns-clause-room : goal.returns-clause-room
returns-clause-room c = subst (KeepsRoom c.args.self.now) (sym (returns-clause-value c)) (room_with_part c.args.self.now c.args.session c.args.before)
