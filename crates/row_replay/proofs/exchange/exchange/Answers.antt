use Rattle.std.proofs.Common.{◌∙◌}
use Rattle.row_replay.proofs.Standing.{still_held}
use Rattle.row_replay.proofs.exchange.exchange.Goals as goal

pub returns-then-branch-clause-stands : goal.returns-then-branch-clause-stands
returns-then-branch-clause-stands g c = λ e x held.
    let t = c.requires.under in (
      c.in_ok-stands.ensures.stands c.if-not-branch.false x held,
      still_held c.args.store.now.catalog (g.M.SortedMaps.maps c.args.store.now.tables) c.args.store.now.views x held c.number_law.ensures c.args.table c.args.key.now t.0 t.1 c.args.to.now (c.in_ok-stands-2.ensures.stands c.if-branch.true x held),
    )

pub put-requires-clause-stands : goal.put-requires-clause-stands
put-requires-clause-stands g c κs within = let q = c.requires.held in (q.0, q.1, c.in_ok-stands.ensures.stands c.if-not-branch.false q.0 q.1)

pub put-requires-clause-differ : goal.put-requires-clause-differ
put-requires-clause-differ g c κs within = λ same.
    let q = c.requires.held in
    c.in_ok-stands-2.ensures.other c.if-branch.false q.0 q.1 (c.in_ok-stands.ensures.stands c.if-not-branch.false q.0 q.1 ∙ same)

pub returns-clause-stands : goal.returns-clause-stands
returns-clause-stands g c = λ e x held. (c.in_ok-stands.ensures.stands c.if-not-branch.false x held, c.in_ok-put.ensures.put x held)
