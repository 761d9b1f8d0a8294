use Rattle.std.proofs.Common.{rules, ◌≡◌, sym, ap, subst, ◌∙◌, List, ℤ, ◌+ℤ◌, Some, to_z, of_z, FitsSigned}
use Rattle.std.specs.Int.{w128, int_wrapping_add}
use Rattle.std.proofs.lemmas.Int.{to_z-of_z, wrapping_add_is, int_wrap_fits}
use Rattle.escrow_bounds.specs.Column.{settled}
use Rattle.std.specs.Prelude.{map}
use Rattle.ghost_rows.specs.declared.shares.Share.{Share}
use Rattle.ghost_rows.specs.Shares.{sum_at}
use Rattle.ghost_rows.specs.Rows.{OpenRow, settled_row}
use Rattle.ghost_rows.specs.Kept.{RowStands}
use Rattle.ghost_rows.proofs.RowLemmas.{settled_end, unpaid_row, row_is, settled_columns, columns_as, settled_some, settled_none}
use Rattle.ghost_rows.proofs.ShareLemmas.{others}
use Rattle.ghost_rows.proofs.row.Row.settle.Goals as goal

module _ (c : goal.After-remove) where
  share : sum_at c.self.inside.shares.items c.args.session ≡ Some c.in-Some.sum
  share = ap (λ (l : List Share). sum_at l c.args.session) (sym c.deref.ensures.value) ∙ (sym c.sum_at.ensures ∙ c.in-Some.is)

  fit_k : FitsSigned w128 c.self.inside.committed
  fit_k = search rules

  fit_s : FitsSigned w128 c.in-Some.sum
  fit_s = search rules

  fit : FitsSigned w128 c.total-self-inside.result
  fit = search rules

  whole : to_z w128 (of_z w128 c.total-self-inside.result) ≡ int_wrapping_add w128 c.self.inside.committed c.in-Some.sum
  whole = to_z-of_z w128 c.total-self-inside.result fit ∙ (c.total-self-inside.ensures
      ∙ (ap (λ (k : ℤ). int_wrapping_add w128 k (to_z w128 (of_z w128 c.in-Some.sum))) (to_z-of_z w128 c.self.inside.committed fit_k)
      ∙ ap (λ (k : ℤ). int_wrapping_add w128 c.self.inside.committed k) (to_z-of_z w128 c.in-Some.sum fit_s)))

pub returns-in-Some-clause-stands : goal.returns-in-Some-clause-stands
returns-in-Some-clause-stands c = λ numbers pays st.
    settled_end c.self.inside.columns c.self.inside.shares c.self.inside.committed (to_z w128 (of_z w128 c.total-self-inside.result)) c.in-Some.sum c.deref_mut.result.now c.settle_all.new.columns c.remove.new.shares.items c.args.session numbers pays
    c.requires c.deref_mut.ensures.value c.settle_all.auto.columns c.settle_all.ensures (share c) c.remove.ensures
    (λ f. whole c ∙ (wrapping_add_is w128 c.self.inside.committed c.in-Some.sum (fit_k c) (fit_s c) ∙ int_wrap_fits w128 (c.self.inside.committed +ℤ c.in-Some.sum) f))
    (subst (λ (r : OpenRow). RowStands r numbers pays) (sym c.self.view_is) st)

pub returns-in-Some-clause-value : goal.returns-in-Some-clause-value
returns-in-Some-clause-value c =
    row_is _ (map (λ k. settled k c.args.session) c.self.inside.columns.items) _ (int_wrapping_add w128 c.self.inside.committed c.in-Some.sum) _ (others c.args.session c.self.inside.shares.items)
    (columns_as c.self.inside.columns c.deref_mut.result.now c.settle_all.new.columns c.deref_mut.ensures.value c.settle_all.auto.columns
    ∙ (settled_columns c.deref_mut.result.now c.settle_all.new.columns c.args.session c.settle_all.ensures ∙ ap (map (λ k. settled k c.args.session)) c.deref_mut.ensures.value))
    (whole c) c.remove.ensures
    ∙ (sym (settled_some c.args.session (record { columns = c.self.inside.columns.items; committed = c.self.inside.committed; shares = c.self.inside.shares.items }) c.in-Some.sum (share c))
    ∙ ap (settled_row c.args.session) c.self.view_is)

pub returns-in_default-clause-stands : goal.returns-in_default-clause-stands
returns-in_default-clause-stands c = λ numbers pays st.
    unpaid_row c.args.self.now numbers pays st c.args.session
    (ap (λ (r : OpenRow). sum_at r.shares c.args.session) (sym c.self.view_is) ∙ (ap (λ (l : List Share). sum_at l c.args.session) (sym c.deref.ensures.value) ∙ (sym c.sum_at.ensures ∙ c.in_default.is)))

pub returns-in_default-clause-value : goal.returns-in_default-clause-value
returns-in_default-clause-value c =
    sym (settled_none c.args.session c.args.self.now
    (ap (λ (r : OpenRow). sum_at r.shares c.args.session) (sym c.self.view_is) ∙ (ap (λ (l : List Share). sum_at l c.args.session) (sym c.deref.ensures.value) ∙ (sym c.sum_at.ensures ∙ c.in_default.is))))
