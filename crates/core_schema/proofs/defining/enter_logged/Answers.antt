use Rattle.std.proofs.lemmas.Result.{IfOk-weaker}
use Rattle.core_state.proofs.Data.{began_within}
use Rattle.core_schema.proofs.Fitting.{may_keep, no_data}
use Rattle.iv_types.specs.declared.refusal.EngineRefusal.TheVariants.{DataFull}
use Rattle.txn_machine.specs.Answers as answer
use Rattle.core_schema.proofs.Recorded.{left_alone}
use Rattle.core_schema.proofs.defining.enter_logged.Goals as goal

pub full_of_data-requires-after_bounds : goal.full_of_data-requires-after_bounds
full_of_data-requires-after_bounds g c κs within = began_within g.M.SortedMaps.maps g.M.SortedMaps.spare g.M.SortedMaps.limit c.args.core.now c.requires.0 c.args.session c.requires.3.fits.may.began

pub enter_kept-requires-after_bounds : goal.enter_kept-requires-after_bounds
enter_kept-requires-after_bounds g c κs within =
    let s = c.requires.0 in
    (s, c.requires.1, c.requires.2, may_keep g.M.SortedMaps.maps g.M.SortedMaps.spare g.M.SortedMaps.limit s c.args.core.now c.args.session c.requires.1 c.args.definition c.args.first c.args.text c.requires.3 c.data_need-need.result c.as_slice.result.now c.as_slice-2.result.now c.as_slice.ensures c.as_slice-2.ensures c.data_need-need.ensures c.in-None.ensures.fits c.in-None.ensures.small, c.requires.4)

pub returns-in-Some-clause-did : goal.returns-in-Some-clause-did
returns-in-Some-clause-did g c = λ s statement f.
    left_alone g.M.SortedMaps.maps g.M.SortedMaps.spare g.M.SortedMaps.limit g.J.Journal.has g.J.Journal.limit g.J.Journal.medium g.J.Journal.leaves c.args.core.now c.args.journal.now s c.args.session statement (answer.Refused (DataFull c.in-Some.used c.data_need-need.result)) tt
    (no_data g.M.SortedMaps.maps g.M.SortedMaps.spare g.M.SortedMaps.limit s c.args.core.now c.args.session statement c.args.definition c.args.first c.args.text f c.data_need-need.result c.as_slice.result.now c.as_slice-2.result.now c.as_slice.ensures c.as_slice-2.ensures c.data_need-need.ensures c.in-Some.used c.in-Some.ensures.used c.in-Some.ensures.passes)

pub returns-in-None-clause-did : goal.returns-in-None-clause-did
returns-in-None-clause-did g c = IfOk-weaker c.enter_kept.result _ _ (λ said did s statement f. did s statement (may_keep g.M.SortedMaps.maps g.M.SortedMaps.spare g.M.SortedMaps.limit s c.args.core.now c.args.session statement c.args.definition c.args.first c.args.text f c.data_need-need.result c.as_slice.result.now c.as_slice-2.result.now c.as_slice.ensures c.as_slice-2.ensures c.data_need-need.ensures c.in-None.ensures.fits c.in-None.ensures.small)) c.enter_kept.ensures.did
