use Rattle.std.proofs.lemmas.Result.{err_from_is_err_and}
use Rattle.session_table.proofs.Removing.{prune_stops, pruned_needs, prunes_first}
use Rattle.session_table.proofs.cleaning.clean.Goals as goal

pub returns-in_err-prune : goal.returns-in_err-prune
returns-in_err-prune g c =
    let p = err_from_is_err_and c.from_residual.result c.from_residual.ensures.1 in
    rw (p.1, p.2) (prune_stops (g.S.Stepper.stands c.args.engine.now) c.in_err-prune.field-0.0 c.in_err-prune.ensures)

pub clean_all-requires : goal.clean_all-requires
clean_all-requires g c = pruned_needs c.requires c.in_ok-prune.ensures

pub returns : goal.returns
returns g c = prunes_first (g.S.Stepper.stands c.args.engine.now) c.clean_all.result c.in_ok-prune.ensures c.clean_all.ensures
