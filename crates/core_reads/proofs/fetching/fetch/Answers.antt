use Rattle.std.proofs.Common.{◌∙◌, sym, subst}
use Rattle.txn_machine.specs.Acts as act
use Rattle.txn_machine.specs.Steps.{IsFree}
use Rattle.core_state.specs.Stands.{Began}
use Rattle.core_reads.proofs.fetching.fetch.Goals as goal

pub fetch_free-requires-after_bounds : goal.fetch_free-requires-after_bounds
fetch_free-requires-after_bounds g c κs within =
    let s = c.requires.0 in (
      s,
      c.args.mode,
      record {
        began = subst (λ x. Began g.M.SortedMaps.maps g.M.SortedMaps.spare g.M.SortedMaps.limit x s c.args.session) (sym c.in-Ok.ensures.same) c.requires.1;
        may = c.requires.2;
        wants_are = c.in-Ok.ensures.wants ∙ c.in_ok-wants.ensures;
        free = subst (IsFree s.store c.args.session) (sym c.in-Ok.ensures.wants) (c.in-Ok.ensures.free s c.requires.1);
      },
    )

pub returns-in-Err-clause-told : goal.returns-in-Err-clause-told
returns-in-Err-clause-told g c = λ s h may. c.in-Err.ensures.told s (act.Fetch c.args.index c.args.interval.now c.args.mode) h may.0 (tt, sym c.in_ok-wants.ensures)
