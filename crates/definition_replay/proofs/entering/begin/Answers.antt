use Rattle.std.proofs.Common.{ap, subst}
use Rattle.iv_meaning.specs.Objects.{object_of}
use Rattle.ghost_rows.specs.State.{State}
use Rattle.data_store.specs.Held.{IsHeld}
use Rattle.data_store.specs.declared.store.DataStore.{DataStore}
use Rattle.data_defining.specs.Defining.{with_object}
use Rattle.definition_replay.proofs.Replayed.{can_define, first_accepted, replay_again}
use Rattle.definition_replay.proofs.entering.begin.Goals as goal

pub enter-requires-clause-begins : goal.enter-requires-clause-begins
enter-requires-clause-begins g c κs within =
    let q = c.requires.begins in
    (q.0, can_define c.args.store.now.catalog (g.M.SortedMaps.maps c.args.store.now.tables) c.args.store.now.views c.args.definition c.in-Ok.first q.0 q.1 (c.in-Ok.ensures.first q.0 q.1.evaluated))

pub returns-in_ok-enter-in-Ok-clause-begun : goal.returns-in_ok-enter-in-Ok-clause-begun
returns-in_ok-enter-in-Ok-clause-begun g c = λ _.
    let ds = c.args.store.now.catalog in
    let state = c.args.store.now.views in
    let d = c.args.definition in
    let maps = g.M.SortedMaps.maps c.args.store.now.tables in
    let after = c.enter.new.store.catalog in
    let new = g.M.SortedMaps.maps c.enter.new.store.tables in
    record {
      defined = c.in_ok-enter-in-Ok.ensures.defined;
      accepted = λ x can. first_accepted ds maps x d c.in-Ok.first (c.in-Ok.ensures.first x can.evaluated);
      has = λ x can. replay_again ds after maps new state (object_of d) x can
          (subst (λ (s : State). IsHeld after new s (with_object x (object_of d))) (ap (λ (y : DataStore g.row.M.Denot). y.views) {y = record c.args.store.now { catalog = after; tables = c.enter.new.store.tables }} c.in_ok-enter-in-Ok.ensures.rest)
          (c.in_ok-enter-in-Ok.ensures.held x (can_define ds maps state d c.in-Ok.first x can (c.in-Ok.ensures.first x can.evaluated))));
    }
