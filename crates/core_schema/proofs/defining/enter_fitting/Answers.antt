use Rattle.std.proofs.Common.{◌≡◌, true, false, sym, ap, ◌∙◌}
use Rattle.std.proofs.lemmas.Result.{IfOk-weaker}
use Rattle.core_schema.proofs.Fitting.{may_log, no_log}
use Rattle.txn_machine.specs.Answers as answer
use Rattle.txn_machine.specs.State.{is_fault}
use Rattle.core_schema.proofs.Recorded.{left_alone}
use Rattle.core_schema.proofs.defining.enter_fitting.Goals as goal

pub enter_logged-requires-after_bounds : goal.enter_logged-requires-after_bounds
enter_logged-requires-after_bounds g c κs within =
    let s = c.requires.0 in
    let f = c.requires.3 in (
      s,
      c.requires.1,
      c.requires.2,
      may_log g.M.SortedMaps.maps g.M.SortedMaps.spare g.M.SortedMaps.limit s c.args.core.now c.args.session c.requires.1 c.args.definition c.args.first c.args.text f c.definition_need.result c.as_slice.result.now c.as_slice.ensures c.definition_need.ensures
          (c.in-None.ensures.none s.store s.log f.may.began.reserves.log_room),
      c.requires.4,
    )

pub returns-in-Some-clause-did : goal.returns-in-Some-clause-did
returns-in-Some-clause-did g c = λ s statement f.
    let is = c.in-Some.ensures.some s.store s.log f.may.began.reserves.log_room in
    left_alone g.M.SortedMaps.maps g.M.SortedMaps.spare g.M.SortedMaps.limit g.J.Journal.has g.J.Journal.limit g.J.Journal.medium g.J.Journal.leaves c.args.core.now c.args.journal.now s c.args.session statement (answer.Refused c.in-Some.why) tt
    (no_log g.M.SortedMaps.maps g.M.SortedMaps.spare g.M.SortedMaps.limit s c.args.core.now c.args.session statement c.args.definition c.args.first c.args.text f c.definition_need.result c.as_slice.result.now c.as_slice.ensures c.definition_need.ensures c.in-Some.why is.0 is.1)

pub returns-in-None-clause-did : goal.returns-in-None-clause-did
returns-in-None-clause-did g c = IfOk-weaker c.enter_logged.result _ _ (λ said did s statement f. did s statement (may_log g.M.SortedMaps.maps g.M.SortedMaps.spare g.M.SortedMaps.limit s c.args.core.now c.args.session statement c.args.definition c.args.first c.args.text f c.definition_need.result c.as_slice.result.now c.as_slice.ensures c.definition_need.ensures
    (c.in-None.ensures.none s.store s.log f.may.began.reserves.log_room))) c.enter_logged.ensures.did

pub returns-in-Some-clause-rose : goal.returns-in-Some-clause-rose
returns-in-Some-clause-rose g c = λ bad.
    let s = c.requires.0 in
    let is = c.in-Some.ensures.some s.store s.log c.requires.3.may.began.reserves.log_room in
    let no : false ≡ true = sym (ap (λ why. is_fault (answer.Refused why)) is.0) ∙ bad in
    absurd cc
