use Rattle.std.proofs.Common.{◌≡◌, ◌<◌, refl, sym, ap, subst, ◌∙◌, List, length, IsSome, arith, Some, slice_get, map}
use Rattle.escrow_bounds.specs.Column.{Column, part}
use Rattle.ghost_rows.specs.Shares.{sum_at, updated}
use Rattle.ghost_rows.specs.Rows.{OpenRow, EachColumn, AreAllowed, IsFirstRefused}
use Rattle.ghost_rows.specs.Kept.{RowStands}
use Rattle.ghost_rows.proofs.RowLemmas.{paid_end, allowed_row, refused_row, prefixes_row, set_as_before, shares_as, columns_as}
use Rattle.ghost_rows.proofs.row.Row.pay.Goals as goal

pub returns-in-Some-clause-refused : goal.returns-in-Some-clause-refused
returns-in-Some-clause-refused c = λ numbers pays many st.
    refused_row c.args.self.now numbers pays st c.args.session c.args.delta.now c.in-Some.found.0 c.in-Some.found.1 many
    (subst (λ (l : List Column). IsFirstRefused c.args.session c.args.delta.now l c.in-Some.found.0 c.in-Some.found.1)
    (c.deref_mut.ensures.value ∙ ap (λ (r : OpenRow). r.columns) c.self.view_is) c.in-Some.ensures.refused)

module _ (c : goal.After-self-3-1) where
  inside_row : OpenRow
  inside_row = record { columns = c.self.inside.columns.items; committed = c.self.inside.committed; shares = c.self.inside.shares.items }

  some : 0 < length c.self.inside.columns.items
  some = let many = c.requires.stands.3.many in omega (arith, many, c.requires.stands.2, ap (λ (r : OpenRow). length r.columns) c.self.view_is)

  between : c.deref_mut-2.result.now ≡ c.self.inside.columns.items
  between = c.deref_mut-2.ensures.value ∙ (columns_as c.self.inside.columns c.self.inside.columns.items c.first_refused.new.columns refl (ap length (c.in_default.ensures.same ∙ c.deref_mut.ensures.value))
      ∙ (c.in_default.ensures.same ∙ c.deref_mut.ensures.value))

pub returns-clause-paid : goal.returns-clause-paid
returns-clause-paid c = λ numbers pays st.
    paid_end c.self.inside.columns c.self.inside.shares c.self.inside.committed c.first_refused.new.columns c.deref_mut-2.result.now c.add_all-before.new.columns c.deref_mut-3.result.now c.set.new.shares
    c.share_after.result c.args.session c.args.delta.now c.add_all-before.result numbers pays c.requires.session (subst (λ (r : OpenRow). IsSome (sum_at r.shares c.args.session)) (sym c.self.view_is) c.requires.room)
    (c.in_default.ensures.same ∙ c.deref_mut.ensures.value) c.deref_mut-2.ensures.value c.add_all-before.auto.columns
    (subst (AreAllowed c.args.session c.args.delta.now) c.deref_mut.ensures.value c.in_default.ensures.allowed) c.add_all-before.ensures.moves c.add_all-before.ensures.before (some c)
    c.deref_mut-3.ensures.value c.set.auto.shares c.set.ensures c.share_after.ensures.session c.share_after.ensures.sum c.share_after.ensures.fits
    (subst (λ (r : OpenRow). RowStands r numbers pays) (sym c.self.view_is) st)

pub returns-clause-before : goal.returns-clause-before
returns-clause-before c = λ numbers pays st.
    prefixes_row c.args.self.now numbers pays st c.args.session c.add_all-before.result
    (subst (λ (l : List Column). EachColumn (λ i k. slice_get c.add_all-before.result i ≡ Some (part k c.args.session)) l) (between c ∙ ap (λ (r : OpenRow). r.columns) c.self.view_is) c.add_all-before.ensures.before)

pub returns-clause-same : goal.returns-clause-same
returns-clause-same c =
    set_as_before c.args.self.now _ c.args.session c.share_after.result.sum
    (shares_as c.self.inside.shares c.deref_mut-3.result.now c.set.new.shares c.share_after.result c.share_after.result c.args.session c.deref_mut-3.ensures.value c.set.auto.shares c.set.ensures c.share_after.ensures.session
    ∙ ap (λ (r : OpenRow). map (updated c.args.session c.share_after.result.sum) r.shares) c.self.view_is)
    (ap (λ (r : OpenRow). r.committed) c.self.view_is)

pub returns-clause-allowed : goal.returns-clause-allowed
returns-clause-allowed c = λ numbers pays st.
    allowed_row c.args.self.now numbers pays st c.args.session c.args.delta.now
    (subst (AreAllowed c.args.session c.args.delta.now) (c.deref_mut.ensures.value ∙ ap (λ (r : OpenRow). r.columns) c.self.view_is) c.in_default.ensures.allowed)
