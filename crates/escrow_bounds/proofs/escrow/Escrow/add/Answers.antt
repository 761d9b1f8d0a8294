use Rattle.std.proofs.Common.{◌≡◌, ◌<◌, refl, sym, ap, subst, ◌∙◌, length}
use Rattle.std.proofs.lemmas.Int.{to_z-of_z}
use Rattle.std.specs.Ordering.{nat_cmp}
use Rattle.std.specs.FinMap.{FinMap, insert}
use Rattle.iv_types.specs.declared.lock.Prefix.{Prefix}
use Rattle.iv_types.specs.Encoding.{IsHuge}
use Rattle.iv_meaning.specs.Escrow.{with_increment}
use Rattle.escrow_bounds.specs.Column.{Column, IsReserved, IsAllowed, part, after, added, Stands, KeepsRoom, IsBeforeLatest}
use Rattle.escrow_bounds.specs.Parts.{parts_of, StandsAt, IsPrefix, Keeps, AreHuge, moved_by}
use Rattle.escrow_bounds.proofs.KeepLemmas.{place_some, place_at, part_at, rest_fits, added_keeps, allows, allowed_sum, allowed_bounds, allowed_account, follows-added, least-account, greatest-account, false_true, room_with_part, latest_added}
use Rattle.escrow_bounds.proofs.escrow.Escrow.add.Goals as goal

pub unwrap-place-requires : goal.unwrap-place-requires
unwrap-place-requires c =
    place_some c.self.inside.parts.items _ _ _ c.deref.ensures.value c.place.ensures (subst (λ (v : Column). IsReserved v c.args.session) (sym c.self.view_is) c.requires.reserved)

-- ---- the sum leaves the range

pub returns-in_default-clause-allowed : goal.returns-in_default-clause-allowed
returns-in_default-clause-allowed c =
    let is = part_at c.self.inside.committed c.self.inside.parts.items c.args.session c.unwrap-place.result c.index.result.now
    (place_at c.self.inside.parts.items _ _ _ _ c.deref.ensures.value c.place.ensures c.unwrap-place.ensures) c.index.ensures in
    let fits = c.ranges.delta in
    let k = simp to_z-of_z at c.in_default.ensures.huge in (
      λ e. absurd (false_true e),
      λ h. k.1 (allowed_sum _ c.self.inside.bounds c.args.session c.index.result.now.prefix c.self.invariant c.requires.session is c.args.delta
          (subst (λ (v : Column). IsAllowed v c.args.session c.args.delta) (sym c.self.view_is) h)),
    )

pub returns-in_default-clause-account_allowed : goal.returns-in_default-clause-account_allowed
returns-in_default-clause-account_allowed c = λ a st. (λ e. absurd (false_true e), λ h. (returns-in_default-clause-allowed c).1 ((allowed_account _ _ _ a st).1 h))

pub returns-in_default-clause-account_range : goal.returns-in_default-clause-account_range
returns-in_default-clause-account_range c = λ a st. (c.self.invariant.inf_is ∙ least-account _ a (subst (λ (v : Column). Stands v a) (sym c.self.view_is) st), c.self.invariant.sup_is ∙ greatest-account _ a (subst (λ (v : Column). Stands v a) (sym c.self.view_is) st))

-- ---- the bounds leave it

pub moved_in_range-requires : goal.moved_in_range-requires
moved_in_range-requires c =
    let is = part_at c.self.inside.committed c.self.inside.parts.items c.args.session c.unwrap-place.result c.index.result.now
    (place_at c.self.inside.parts.items _ _ _ _ c.deref.ensures.value c.place.ensures c.unwrap-place.ensures) c.index.ensures in
    rest_fits _ c.self.inside.bounds c.args.session c.index.result.now.prefix c.self.invariant c.requires.session is

pub returns-in_default-moved_in_range-clause-allowed : goal.returns-in_default-moved_in_range-clause-allowed
returns-in_default-moved_in_range-clause-allowed c =
    let is = part_at c.self.inside.committed c.self.inside.parts.items c.args.session c.unwrap-place.result c.index.result.now
    (place_at c.self.inside.parts.items _ _ _ _ c.deref.ensures.value c.place.ensures c.unwrap-place.ensures) c.index.ensures in
    let fits = c.ranges.delta in
    let grown : c.in-Some.prefix ≡ after c.index.result.now.prefix c.args.delta = simp to_z-of_z at c.in-Some.ensures.value in (
      λ e. absurd (false_true e),
      λ h. c.in_default-moved_in_range.ensures.huge.1 (subst (λ (p : Prefix). AreHuge (moved_by c.self.inside.bounds c.index.result.now.prefix p)) (sym grown)
          (allowed_bounds _ c.self.inside.bounds c.args.session c.index.result.now.prefix c.self.invariant c.requires.session is c.args.delta
          (subst (λ (v : Column). IsAllowed v c.args.session c.args.delta) (sym c.self.view_is) h))),
    )

pub returns-in_default-moved_in_range-clause-account_allowed : goal.returns-in_default-moved_in_range-clause-account_allowed
returns-in_default-moved_in_range-clause-account_allowed c = λ a st. (λ e. absurd (false_true e), λ h. (returns-in_default-moved_in_range-clause-allowed c).1 ((allowed_account _ _ _ a st).1 h))

pub returns-in_default-moved_in_range-clause-account_range : goal.returns-in_default-moved_in_range-clause-account_range
returns-in_default-moved_in_range-clause-account_range c = λ a st. (c.self.invariant.inf_is ∙ least-account _ a (subst (λ (v : Column). Stands v a) (sym c.self.view_is) st), c.self.invariant.sup_is ∙ greatest-account _ a (subst (λ (v : Column). Stands v a) (sym c.self.view_is) st))

-- ---- the increment is kept

pub index_mut-requires : goal.index_mut-requires
index_mut-requires c =
    subst (λ n. c.unwrap-place.result < n) (ap length (sym c.deref.ensures.value) ∙ c.deref.ensures.len)
    (place_at c.self.inside.parts.items _ _ _ _ c.deref.ensures.value c.place.ensures c.unwrap-place.ensures).within

module _ (c : goal.After-self-1) where
  old : Column
  old = record { committed = c.self.inside.committed; parts = parts_of c.self.inside.parts.items }

  at : StandsAt c.self.inside.parts.items c.args.session c.unwrap-place.result
  at = place_at c.self.inside.parts.items _ _ _ _ c.deref.ensures.value c.place.ensures c.unwrap-place.ensures

  is : part old c.args.session ≡ c.index.result.now.prefix
  unfolding old
  is = part_at c.self.inside.committed c.self.inside.parts.items c.args.session c.unwrap-place.result c.index.result.now at c.index.ensures

  grown : c.in-Some.prefix ≡ after c.index.result.now.prefix c.args.delta
  grown = let fits = c.ranges.delta in simp to_z-of_z at c.in-Some.ensures.value

  sum_huge : IsHuge (after c.index.result.now.prefix c.args.delta).sum
  sum_huge = let fits = c.ranges.delta in let k = simp to_z-of_z at c.in-Some.ensures.huge in k.0 refl

  bounds_huge : AreHuge (moved_by c.self.inside.bounds c.index.result.now.prefix c.in-Some.prefix)
  bounds_huge = c.in-Some-moved_in_range.ensures.huge.0 refl

  value : record { committed = c.self.inside.committed; parts = insert (parts_of c.self.inside.parts.items) c.args.session c.in-Some.prefix } ≡ added old c.args.session c.args.delta
  unfolding old
  value = ap (λ (p : Prefix). record { committed = c.self.inside.committed; parts = insert (parts_of c.self.inside.parts.items) c.args.session p }) (grown ∙ ap (λ (p : Prefix). after p c.args.delta) (sym is))

  keeps : Keeps (added old c.args.session c.args.delta) c.in-Some-moved_in_range.bounds.inf c.in-Some-moved_in_range.bounds.sup
  unfolding old
  keeps =
      added_keeps old c.self.inside.bounds c.args.session c.index.result.now.prefix c.self.invariant c.requires.session is c.args.delta c.in-Some.prefix c.in-Some-moved_in_range.bounds
      grown c.in-Some-moved_in_range.ensures.value sum_huge (subst AreHuge (sym c.in-Some-moved_in_range.ensures.value) bounds_huge)

pub invariant_of-self : goal.invariant_of-self
invariant_of-self c =
    subst (λ (m : FinMap nat_cmp Prefix). Keeps (record { committed = c.self.inside.committed; parts = m }) c.in-Some-moved_in_range.bounds.inf c.in-Some-moved_in_range.bounds.sup) (sym ((at c).put c.in-Some.prefix))
    (subst (λ (v : Column). Keeps v c.in-Some-moved_in_range.bounds.inf c.in-Some-moved_in_range.bounds.sup) (sym (value c)) (keeps c))

pub returns-clause-before : goal.returns-clause-before
unfolding old
returns-clause-before c = sym (is c) ∙ ap (λ (v : Column). part v c.args.session) c.self.view_is

pub returns-clause-ok : goal.returns-clause-ok
unfolding old
returns-clause-ok c =
    ap (λ (m : FinMap nat_cmp Prefix). record { committed = c.self.inside.committed; parts = m }) ((at c).put c.in-Some.prefix)
    ∙ value c ∙ ap (λ (v : Column). added v c.args.session c.args.delta) c.self.view_is

pub returns-clause-allowed : goal.returns-clause-allowed
unfolding old
returns-clause-allowed c = (
  λ _. subst (λ (v : Column). IsAllowed v c.args.session c.args.delta) c.self.view_is
      (allows (old c) c.self.inside.bounds c.args.session c.index.result.now.prefix c.self.invariant c.requires.session (is c) c.args.delta (sum_huge c)
      (subst (λ (p : Prefix). AreHuge (moved_by c.self.inside.bounds c.index.result.now.prefix p)) (grown c) (bounds_huge c))),
  λ _. refl,
)

pub returns-clause-account : goal.returns-clause-account
returns-clause-account c = λ a st. subst (λ (v : Column). Stands v (with_increment a c.args.session c.args.delta)) (sym (returns-clause-ok c)) (follows-added c.args.self.now c.args.session c.args.delta a st)

pub returns-clause-account_allowed : goal.returns-clause-account_allowed
returns-clause-account_allowed c = λ a st. (λ _. (allowed_account _ _ _ a st).0 ((returns-clause-allowed c).0 refl), λ _. refl)

pub returns-clause-room : goal.returns-clause-room
returns-clause-room c = subst (KeepsRoom c.args.self.now) (sym (returns-clause-ok c)) (room_with_part c.args.self.now c.args.session (after (part c.args.self.now c.args.session) c.args.delta))

pub returns-clause-latest : goal.returns-clause-latest
unfolding old
returns-clause-latest c =
    subst (λ (v : Column). IsBeforeLatest c.index.result.now.prefix (part v c.args.session)) (sym (returns-clause-ok c))
    (latest_added c.args.self.now c.args.session c.args.delta c.index.result.now.prefix (subst IsPrefix (is c) (c.self.invariant.prefixes c.args.session)) (sym (returns-clause-before c)))
