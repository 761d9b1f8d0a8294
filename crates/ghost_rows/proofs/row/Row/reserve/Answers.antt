use Rattle.std.proofs.Common.{◌≡◌, sym, ap, subst, ◌∙◌, List, pos, IsSome, None}
use Rattle.ghost_rows.specs.declared.shares.Share.{Share}
use Rattle.ghost_rows.specs.Shares.{sum_at}
use Rattle.ghost_rows.specs.Rows.{OpenRow}
use Rattle.ghost_rows.specs.Kept.{RowStands}
use Rattle.ghost_rows.proofs.RowLemmas.{has_push, reserved_same, pushed_same, pushed_none, none_is, is_it}
use Rattle.ghost_rows.proofs.ShareLemmas.{push_same, push_other}
use Rattle.ghost_rows.proofs.row.Row.reserve.Goals as goal

pub returns-in_err-reserve_all-clause-keeps : goal.returns-in_err-reserve_all-clause-keeps
returns-in_err-reserve_all-clause-keeps c = record {
  stands = λ numbers pays st.
      reserved_same c.self.inside.columns c.self.inside.committed c.self.inside.shares.items c.deref_mut.result.now c.reserve_all.new.columns numbers pays
      c.deref_mut.ensures.value c.reserve_all.auto.columns c.reserve_all.ensures.widens (subst (λ (r : OpenRow). RowStands r numbers pays) (sym c.self.view_is) st);
  room = λ other has. (subst (λ (r : OpenRow). IsSome (sum_at r.shares other)) (sym c.self.view_is) has);
  only = λ other n has. subst (λ (r : OpenRow). IsSome (sum_at r.shares other)) c.self.view_is has;
  committed = ap (λ (r : OpenRow). r.committed) c.self.view_is;
}

pub returns-in_err-push-clause-keeps : goal.returns-in_err-push-clause-keeps
returns-in_err-push-clause-keeps c = record {
  stands = λ numbers pays st.
      pushed_none c.self.inside.columns c.self.inside.committed c.self.inside.shares.items c.push.new.self.items c.deref_mut.result.now c.reserve_all.new.columns numbers pays
      c.deref_mut.ensures.value c.reserve_all.auto.columns c.reserve_all.ensures.widens c.in_err-push.ensures.items (subst (λ (r : OpenRow). RowStands r numbers pays) (sym c.self.view_is) st);
  room = λ other has. subst (λ (l : List Share). IsSome (sum_at l other)) (sym c.in_err-push.ensures.items) (subst (λ (r : OpenRow). IsSome (sum_at r.shares other)) (sym c.self.view_is) has);
  only = λ other n has. subst (λ (r : OpenRow). IsSome (sum_at r.shares other)) c.self.view_is (subst (λ (l : List Share). IsSome (sum_at l other)) c.in_err-push.ensures.items has);
  committed = ap (λ (r : OpenRow). r.committed) c.self.view_is;
}

module _ (c : goal.In_ok-push) where
  none : sum_at c.self.inside.shares.items c.args.session ≡ None
  none = ap (λ (l : List Share). sum_at l c.args.session) (sym c.deref.ensures.value) ∙ (sym c.sum_at.ensures ∙ none_is c.sum_at.result c.if-is_none.ensures)

pub returns-in_ok-push-clause-keeps : goal.returns-in_ok-push-clause-keeps
returns-in_ok-push-clause-keeps c = record {
  stands = λ numbers pays st.
      pushed_same c.self.inside.columns c.self.inside.committed c.self.inside.shares.items c.push.new.self.items c.args.session c.deref_mut.result.now c.reserve_all.new.columns numbers pays
      c.deref_mut.ensures.value c.reserve_all.auto.columns c.reserve_all.ensures.widens c.in_ok-reserve_all.ensures.ok (none c) c.in_ok-push.ensures.items
      (subst (λ (r : OpenRow). RowStands r numbers pays) (sym c.self.view_is) st);
  room = λ other has.
      subst (λ (l : List Share). IsSome (sum_at l other)) (sym c.in_ok-push.ensures.items)
      (has_push c.self.inside.shares.items c.args.session (pos 0) other (none c) (subst (λ (r : OpenRow). IsSome (sum_at r.shares other)) (sym c.self.view_is) has));
  only = λ other n has.
      subst (λ (r : OpenRow). IsSome (sum_at r.shares other)) c.self.view_is
      (subst IsSome (push_other c.self.inside.shares.items c.args.session (pos 0) other n) (subst (λ (l : List Share). IsSome (sum_at l other)) c.in_ok-push.ensures.items has));
  committed = ap (λ (r : OpenRow). r.committed) c.self.view_is;
}

pub returns-in_ok-push-clause-room : goal.returns-in_ok-push-clause-room
returns-in_ok-push-clause-room c =
    is_it _ (pos 0) (ap (λ (l : List Share). sum_at l c.args.session) c.in_ok-push.ensures.items ∙ push_same c.self.inside.shares.items c.args.session (pos 0) (none c))

pub returns-else-is_none-clause-keeps : goal.returns-else-is_none-clause-keeps
returns-else-is_none-clause-keeps c = record {
  stands = λ numbers pays st.
      reserved_same c.self.inside.columns c.self.inside.committed c.self.inside.shares.items c.deref_mut.result.now c.reserve_all.new.columns numbers pays
      c.deref_mut.ensures.value c.reserve_all.auto.columns c.reserve_all.ensures.widens (subst (λ (r : OpenRow). RowStands r numbers pays) (sym c.self.view_is) st);
  room = λ other has. (subst (λ (r : OpenRow). IsSome (sum_at r.shares other)) (sym c.self.view_is) has);
  only = λ other n has. subst (λ (r : OpenRow). IsSome (sum_at r.shares other)) c.self.view_is has;
  committed = ap (λ (r : OpenRow). r.committed) c.self.view_is;
}
