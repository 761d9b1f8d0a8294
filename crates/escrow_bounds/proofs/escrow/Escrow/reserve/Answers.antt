use Rattle.std.proofs.Common.{◌≡◌, sym, ap, subst, ◌∙◌}
use Rattle.std.specs.Prelude.{None, Option, unwrap_or, IsSome}
use Rattle.std.specs.Ordering.{nat_cmp}
use Rattle.std.specs.FinMap.{FinMap, get, insert}
use Rattle.iv_types.specs.declared.lock.Prefix.{Prefix}
use Rattle.escrow_bounds.specs.Column.{Column, none, part, with_part, Stands, IsReserved, KeepsRoom}
use Rattle.escrow_bounds.specs.Parts.{parts_of, Keeps}
use Rattle.escrow_bounds.proofs.PartLemmas.{with_pushed}
use Rattle.escrow_bounds.proofs.KeepLemmas.{place_none, place_reserved, not_some, with_part-same, reserved_keeps, reserved_follows, reserved_here, room_with_part}
use Rattle.escrow_bounds.proofs.escrow.Escrow.reserve.Goals as goal

module _ (c : goal.In_ok-push) where
  old : Column
  old = record { committed = c.self.inside.committed; parts = parts_of c.self.inside.parts.items }

  missing : get (parts_of c.self.inside.parts.items) c.args.session ≡ None
  missing = place_none c.self.inside.parts.items _ _ _ c.deref.ensures.value c.place.ensures (not_some _ c.if-is_none.ensures)

  value : record { committed = c.self.inside.committed; parts = parts_of c.push.new.self.items } ≡ with_part old c.args.session (part old c.args.session)
  unfolding old
  value =
      ap (λ (m : FinMap nat_cmp Prefix). record { committed = c.self.inside.committed; parts = m })
      (ap parts_of c.in_ok-push.ensures.items ∙ with_pushed c.self.inside.parts.items c.args.session none missing
      ∙ ap (λ (o : Option Prefix). insert (parts_of c.self.inside.parts.items) c.args.session (unwrap_or o none)) (sym missing))

pub invariant_of-self : goal.invariant_of-self
unfolding old
invariant_of-self c = subst (λ (v : Column). Keeps v c.self.inside.bounds.inf c.self.inside.bounds.sup) (sym (value c)) (reserved_keeps (old c) _ _ c.args.session c.self.invariant)

pub returns-in_ok-push-clause-ok : goal.returns-in_ok-push-clause-ok
unfolding old
returns-in_ok-push-clause-ok c = value c ∙ ap (λ (v : Column). with_part v c.args.session (part v c.args.session)) c.self.view_is

pub returns-in_ok-push-clause-account : goal.returns-in_ok-push-clause-account
returns-in_ok-push-clause-account c = λ a st. subst (λ (v : Column). Stands v a) (sym (returns-in_ok-push-clause-ok c)) (reserved_follows c.args.self.now c.args.session a st)

pub returns-else-is_none-clause-ok : goal.returns-else-is_none-clause-ok
returns-else-is_none-clause-ok c =
    with_part-same _ _ (subst (λ (v : Column). IsSome (get v.parts c.args.session)) c.self.view_is (place_reserved c.self.inside.parts.items _ _ _ c.deref.ensures.value c.place.ensures c.if-is_none.ensures))

pub returns-in_ok-push-clause-reserved : goal.returns-in_ok-push-clause-reserved
returns-in_ok-push-clause-reserved c = subst (λ (v : Column). IsReserved v c.args.session) (sym (returns-in_ok-push-clause-ok c)) (reserved_here c.args.self.now c.args.session (part c.args.self.now c.args.session))

pub returns-in_ok-push-clause-room : goal.returns-in_ok-push-clause-room
returns-in_ok-push-clause-room c = subst (KeepsRoom c.args.self.now) (sym (returns-in_ok-push-clause-ok c)) (room_with_part c.args.self.now c.args.session (part c.args.self.now c.args.session))

pub returns-else-is_none-clause-reserved : goal.returns-else-is_none-clause-reserved
returns-else-is_none-clause-reserved c = subst (λ (v : Column). IsReserved v c.args.session) (sym (returns-else-is_none-clause-ok c)) (reserved_here c.args.self.now c.args.session (part c.args.self.now c.args.session))
