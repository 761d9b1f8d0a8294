use Rattle.std.proofs.Common.{◌<◌, sym, ap, subst, ◌∙◌, List, length, IsSome, arith, map}
use Rattle.escrow_bounds.specs.Column.{Column, IsBeforeLatest, part, none}
use Rattle.std.specs.Prelude.{get_or}
use Rattle.ghost_rows.specs.Shares.{sum_at, updated}
use Rattle.ghost_rows.specs.Rows.{OpenRow, EachColumn}
use Rattle.ghost_rows.specs.Kept.{RowStands}
use Rattle.ghost_rows.proofs.RowLemmas.{taken_end, latest_row, set_as_before, shares_as, paid_has_room}
use Rattle.ghost_rows.proofs.row.Row.take_back.Goals as goal

pub take_back_all-requires-clause-latest : goal.take_back_all-requires-clause-latest
take_back_all-requires-clause-latest c =
    let last = c.requires.latest.4 in
    let st = c.requires.latest.3 in
    subst (λ (l : List Column). EachColumn (λ i k. IsBeforeLatest (get_or c.args.before.now i none) (part k c.args.session)) l)
    (sym (c.deref_mut.ensures.value ∙ ap (λ (r : OpenRow). r.columns) c.self.view_is))
    (latest_row c.args.self.now c.requires.latest.0 c.requires.latest.1 st c.args.session c.args.delta.now last.earlier c.args.before.now last.latest
    (λ at lt. last.prefixes at (omega (arith, lt, c.requires.latest.2))))

module _ (c : goal.After-self-2-1) where
  some : 0 < length c.self.inside.columns.items
  some = let many = c.requires.latest.3.many in omega (arith, many, c.requires.latest.2, ap (λ (r : OpenRow). length r.columns) c.self.view_is)

pub returns-clause-taken : goal.returns-clause-taken
returns-clause-taken c = λ numbers pays earlier st latest prefixes.
    taken_end c.self.inside.columns c.self.inside.shares c.self.inside.committed c.deref_mut.result.now c.take_back_all.new.columns c.deref_mut-2.result.now c.set.new.shares c.share_before.result
    c.args.session c.args.delta.now earlier c.args.before.now numbers pays c.requires.session
    (subst (λ (r : OpenRow). IsSome (sum_at r.shares c.args.session)) (sym c.self.view_is) (paid_has_room c.args.self.now numbers pays c.args.session c.args.delta.now earlier st latest))
    c.deref_mut.ensures.value c.take_back_all.auto.columns c.take_back_all.ensures.moves c.deref_mut-2.ensures.value c.set.auto.shares c.set.ensures c.share_before.ensures.session c.share_before.ensures.sum
    latest prefixes (some c) c.share_before.ensures.fits (subst (λ (r : OpenRow). RowStands r numbers pays) (sym c.self.view_is) st)

pub returns-clause-same : goal.returns-clause-same
returns-clause-same c =
    set_as_before c.args.self.now _ c.args.session c.share_before.result.sum
    (shares_as c.self.inside.shares c.deref_mut-2.result.now c.set.new.shares c.share_before.result c.share_before.result c.args.session c.deref_mut-2.ensures.value c.set.auto.shares c.set.ensures c.share_before.ensures.session
    ∙ ap (λ (r : OpenRow). map (updated c.args.session c.share_before.result.sum) r.shares) c.self.view_is)
    (ap (λ (r : OpenRow). r.committed) c.self.view_is)
