use Rattle.std.proofs.Common.{sym, ◌∙◌}
use Rattle.txn_machine.proofs.Moving.{may_of}
use Rattle.txn_book.specs.Acts.{act_of, answer_of}
use Rattle.core_recording.specs.Giving.{Did, IsBehind}
use Rattle.core_state.specs.Stands.{Failed, Told}
use Rattle.engine_core.proofs.Asking.{few_ask}
use Rattle.engine_core.proofs.Recording.{behind_begun, few_own, few_records, few_removed, few_saves, few_steps, failed_of, recorded_fault, recorded_told, told_of}
use Rattle.engine_core.proofs.acting.run.Goals as goal

pub answer-said-requires-after_bounds : goal.answer-said-requires-after_bounds
answer-said-requires-after_bounds g c κs within =
    let q = c.requires in
    let s = q.0 in
    let i = c.args.step.now.session in
    let a = act_of c.args.step.now.act in
    let began = c.open_step.ensures s q.2 q.4 in
    record {
      state = s;
      began = began;
      may = may_of s i a q.4 q.5.1;
      records = q.1;
      behind = behind_begun g.M.SortedMaps.maps g.M.SortedMaps.spare g.M.SortedMaps.limit s i g.J.Journal.has g.J.Journal.limit c.args.core.now c.open_step.new.self c.args.journal.now q.1 q.2 began q.3;
      few = few_saves g.M.SortedMaps.maps g.M.SortedMaps.spare g.M.SortedMaps.limit c.args.core.now s q.2.counts q.4 q.1.saves q.6;
    }

pub fail_step-requires-clause-session : goal.fail_step-requires-clause-session
fail_step-requires-clause-session g c κs within =
    let q = c.requires in
    let s = q.0 in
    let i = c.args.step.now.session in
    let a = act_of c.args.step.now.act in
    let did : Did g.M.SortedMaps.maps g.M.SortedMaps.spare g.M.SortedMaps.limit g.J.Journal.has g.J.Journal.limit g.J.Journal.medium g.J.Journal.leaves s i a (answer_of c.answer-said.result) c.open_step.new.self c.args.journal.now c.answer-said.new.core c.answer-said.new.journal = c.answer-said.ensures.gives s (c.open_step.ensures s q.2 q.4) (may_of s i a q.4 q.5.1) in
    few_ask i a q.5.0

pub fail_step-requires-clause-steps : goal.fail_step-requires-clause-steps
fail_step-requires-clause-steps g c κs within =
    let q = c.requires in
    let s = q.0 in
    let i = c.args.step.now.session in
    let a = act_of c.args.step.now.act in
    let did : Did g.M.SortedMaps.maps g.M.SortedMaps.spare g.M.SortedMaps.limit g.J.Journal.has g.J.Journal.limit g.J.Journal.medium g.J.Journal.leaves s i a (answer_of c.answer-said.result) c.open_step.new.self c.args.journal.now c.answer-said.new.core c.answer-said.new.journal = c.answer-said.ensures.gives s (c.open_step.ensures s q.2 q.4) (may_of s i a q.4 q.5.1) in
    let f : Failed g.M.SortedMaps.maps g.M.SortedMaps.spare g.M.SortedMaps.limit s i a c.answer-said.new.core = failed_of g.M.SortedMaps.maps g.M.SortedMaps.spare g.M.SortedMaps.limit g.J.Journal.has g.J.Journal.limit g.J.Journal.medium g.J.Journal.leaves s i a (answer_of c.answer-said.result) c.open_step.new.self c.args.journal.now c.answer-said.new.core c.answer-said.new.journal did (sym c.tells_fault.ensures ∙ c.if-tells_fault.true) in
    few_steps g.M.SortedMaps.maps g.M.SortedMaps.spare g.M.SortedMaps.limit c.answer-said.new.core s f.began.counts f.began.runs

pub fail_step-requires-clause-next : goal.fail_step-requires-clause-next
fail_step-requires-clause-next g c κs within =
    let q = c.requires in
    let s = q.0 in
    let i = c.args.step.now.session in
    let a = act_of c.args.step.now.act in
    let did : Did g.M.SortedMaps.maps g.M.SortedMaps.spare g.M.SortedMaps.limit g.J.Journal.has g.J.Journal.limit g.J.Journal.medium g.J.Journal.leaves s i a (answer_of c.answer-said.result) c.open_step.new.self c.args.journal.now c.answer-said.new.core c.answer-said.new.journal = c.answer-said.ensures.gives s (c.open_step.ensures s q.2 q.4) (may_of s i a q.4 q.5.1) in
    let f : Failed g.M.SortedMaps.maps g.M.SortedMaps.spare g.M.SortedMaps.limit s i a c.answer-said.new.core = failed_of g.M.SortedMaps.maps g.M.SortedMaps.spare g.M.SortedMaps.limit g.J.Journal.has g.J.Journal.limit g.J.Journal.medium g.J.Journal.leaves s i a (answer_of c.answer-said.result) c.open_step.new.self c.args.journal.now c.answer-said.new.core c.answer-said.new.journal did (sym c.tells_fault.ensures ∙ c.if-tells_fault.true) in
    few_records g.M.SortedMaps.maps g.M.SortedMaps.spare g.M.SortedMaps.limit c.answer-said.new.core s f.began.counts f.began.runs f.began.holds.next f.began.opening.early

pub fail_step-requires-clause-one : goal.fail_step-requires-clause-one
fail_step-requires-clause-one g c κs within = c.waiting_of.ensures.one

pub fail_step-requires-clause-few : goal.fail_step-requires-clause-few
fail_step-requires-clause-few g c κs within =
    let q = c.requires in
    let s = q.0 in
    let i = c.args.step.now.session in
    let a = act_of c.args.step.now.act in
    let did : Did g.M.SortedMaps.maps g.M.SortedMaps.spare g.M.SortedMaps.limit g.J.Journal.has g.J.Journal.limit g.J.Journal.medium g.J.Journal.leaves s i a (answer_of c.answer-said.result) c.open_step.new.self c.args.journal.now c.answer-said.new.core c.answer-said.new.journal = c.answer-said.ensures.gives s (c.open_step.ensures s q.2 q.4) (may_of s i a q.4 q.5.1) in
    let f : Failed g.M.SortedMaps.maps g.M.SortedMaps.spare g.M.SortedMaps.limit s i a c.answer-said.new.core = failed_of g.M.SortedMaps.maps g.M.SortedMaps.spare g.M.SortedMaps.limit g.J.Journal.has g.J.Journal.limit g.J.Journal.medium g.J.Journal.leaves s i a (answer_of c.answer-said.result) c.open_step.new.self c.args.journal.now c.answer-said.new.core c.answer-said.new.journal did (sym c.tells_fault.ensures ∙ c.if-tells_fault.true) in
    few_own g.M.SortedMaps.maps g.M.SortedMaps.spare g.M.SortedMaps.limit c.answer-said.new.core s f.began.counts f.began.runs i (few_ask i a q.5.0)

pub close_step-requires-clause-session : goal.close_step-requires-clause-session
close_step-requires-clause-session g c κs within =
    let q = c.requires in
    let s = q.0 in
    let i = c.args.step.now.session in
    let a = act_of c.args.step.now.act in
    let did : Did g.M.SortedMaps.maps g.M.SortedMaps.spare g.M.SortedMaps.limit g.J.Journal.has g.J.Journal.limit g.J.Journal.medium g.J.Journal.leaves s i a (answer_of c.answer-said.result) c.open_step.new.self c.args.journal.now c.answer-said.new.core c.answer-said.new.journal = c.answer-said.ensures.gives s (c.open_step.ensures s q.2 q.4) (may_of s i a q.4 q.5.1) in
    few_ask i a q.5.0

pub close_step-requires-clause-steps : goal.close_step-requires-clause-steps
close_step-requires-clause-steps g c κs within =
    let q = c.requires in
    let s = q.0 in
    let i = c.args.step.now.session in
    let a = act_of c.args.step.now.act in
    let did : Did g.M.SortedMaps.maps g.M.SortedMaps.spare g.M.SortedMaps.limit g.J.Journal.has g.J.Journal.limit g.J.Journal.medium g.J.Journal.leaves s i a (answer_of c.answer-said.result) c.open_step.new.self c.args.journal.now c.answer-said.new.core c.answer-said.new.journal = c.answer-said.ensures.gives s (c.open_step.ensures s q.2 q.4) (may_of s i a q.4 q.5.1) in
    let t : Told g.M.SortedMaps.maps g.M.SortedMaps.spare g.M.SortedMaps.limit s i a (answer_of c.answer-said.result) c.answer-said.new.core = told_of g.M.SortedMaps.maps g.M.SortedMaps.spare g.M.SortedMaps.limit g.J.Journal.has g.J.Journal.limit g.J.Journal.medium g.J.Journal.leaves s i a (answer_of c.answer-said.result) c.open_step.new.self c.args.journal.now c.answer-said.new.core c.answer-said.new.journal did (sym c.tells_fault.ensures ∙ c.if-tells_fault.false) in
    few_steps g.M.SortedMaps.maps g.M.SortedMaps.spare g.M.SortedMaps.limit c.answer-said.new.core s t.counts t.runs

pub close_step-requires-clause-few : goal.close_step-requires-clause-few
close_step-requires-clause-few g c κs within =
    let q = c.requires in
    let s = q.0 in
    let i = c.args.step.now.session in
    let a = act_of c.args.step.now.act in
    let did : Did g.M.SortedMaps.maps g.M.SortedMaps.spare g.M.SortedMaps.limit g.J.Journal.has g.J.Journal.limit g.J.Journal.medium g.J.Journal.leaves s i a (answer_of c.answer-said.result) c.open_step.new.self c.args.journal.now c.answer-said.new.core c.answer-said.new.journal = c.answer-said.ensures.gives s (c.open_step.ensures s q.2 q.4) (may_of s i a q.4 q.5.1) in
    let t : Told g.M.SortedMaps.maps g.M.SortedMaps.spare g.M.SortedMaps.limit s i a (answer_of c.answer-said.result) c.answer-said.new.core = told_of g.M.SortedMaps.maps g.M.SortedMaps.spare g.M.SortedMaps.limit g.J.Journal.has g.J.Journal.limit g.J.Journal.medium g.J.Journal.leaves s i a (answer_of c.answer-said.result) c.open_step.new.self c.args.journal.now c.answer-said.new.core c.answer-said.new.journal did (sym c.tells_fault.ensures ∙ c.if-tells_fault.false) in
    few_own g.M.SortedMaps.maps g.M.SortedMaps.spare g.M.SortedMaps.limit c.answer-said.new.core s t.counts t.runs i (few_ask i a q.5.0)

pub close_step-requires-clause-removed : goal.close_step-requires-clause-removed
close_step-requires-clause-removed g c κs within =
    let q = c.requires in
    let s = q.0 in
    let i = c.args.step.now.session in
    let a = act_of c.args.step.now.act in
    let did : Did g.M.SortedMaps.maps g.M.SortedMaps.spare g.M.SortedMaps.limit g.J.Journal.has g.J.Journal.limit g.J.Journal.medium g.J.Journal.leaves s i a (answer_of c.answer-said.result) c.open_step.new.self c.args.journal.now c.answer-said.new.core c.answer-said.new.journal = c.answer-said.ensures.gives s (c.open_step.ensures s q.2 q.4) (may_of s i a q.4 q.5.1) in
    let t : Told g.M.SortedMaps.maps g.M.SortedMaps.spare g.M.SortedMaps.limit s i a (answer_of c.answer-said.result) c.answer-said.new.core = told_of g.M.SortedMaps.maps g.M.SortedMaps.spare g.M.SortedMaps.limit g.J.Journal.has g.J.Journal.limit g.J.Journal.medium g.J.Journal.leaves s i a (answer_of c.answer-said.result) c.open_step.new.self c.args.journal.now c.answer-said.new.core c.answer-said.new.journal did (sym c.tells_fault.ensures ∙ c.if-tells_fault.false) in
    few_removed g.M.SortedMaps.maps g.M.SortedMaps.spare g.M.SortedMaps.limit c.answer-said.new.core s t.counts t.runs

pub returns-then-tells_fault-clause-recorded : goal.returns-then-tells_fault-clause-recorded
returns-then-tells_fault-clause-recorded g c = λ s rs stands behind runs asked.
    let i = c.args.step.now.session in
    let a = act_of c.args.step.now.act in
    let began = c.open_step.ensures s stands runs in
    let did : Did g.M.SortedMaps.maps g.M.SortedMaps.spare g.M.SortedMaps.limit g.J.Journal.has g.J.Journal.limit g.J.Journal.medium g.J.Journal.leaves s i a (answer_of c.answer-said.result) c.open_step.new.self c.args.journal.now c.answer-said.new.core c.answer-said.new.journal = c.answer-said.ensures.gives s began (may_of s i a runs asked.1) in
    let behind_then : IsBehind g.M.SortedMaps.maps g.M.SortedMaps.spare g.M.SortedMaps.limit g.J.Journal.has g.J.Journal.limit c.open_step.new.self c.args.journal.now s.log rs = behind_begun g.M.SortedMaps.maps g.M.SortedMaps.spare g.M.SortedMaps.limit s i g.J.Journal.has g.J.Journal.limit c.args.core.now c.open_step.new.self c.args.journal.now rs stands began behind in
    recorded_fault g.M.SortedMaps.maps g.M.SortedMaps.spare g.M.SortedMaps.limit g.J.Journal.has g.J.Journal.limit g.J.Journal.medium g.J.Journal.leaves s i a (answer_of c.answer-said.result) c.open_step.new.self c.args.journal.now c.answer-said.new.core c.answer-said.new.journal rs behind_then began c.fail_step.new.self did (sym c.tells_fault.ensures ∙ c.if-tells_fault.true) (λ failed. c.fail_step.ensures s a asked c.waiting_of.ensures.counts failed)

pub returns-else-tells_fault-clause-recorded : goal.returns-else-tells_fault-clause-recorded
returns-else-tells_fault-clause-recorded g c = λ s rs stands behind runs asked.
    let i = c.args.step.now.session in
    let a = act_of c.args.step.now.act in
    let began = c.open_step.ensures s stands runs in
    let did : Did g.M.SortedMaps.maps g.M.SortedMaps.spare g.M.SortedMaps.limit g.J.Journal.has g.J.Journal.limit g.J.Journal.medium g.J.Journal.leaves s i a (answer_of c.answer-said.result) c.open_step.new.self c.args.journal.now c.answer-said.new.core c.answer-said.new.journal = c.answer-said.ensures.gives s began (may_of s i a runs asked.1) in
    let behind_then : IsBehind g.M.SortedMaps.maps g.M.SortedMaps.spare g.M.SortedMaps.limit g.J.Journal.has g.J.Journal.limit c.open_step.new.self c.args.journal.now s.log rs = behind_begun g.M.SortedMaps.maps g.M.SortedMaps.spare g.M.SortedMaps.limit s i g.J.Journal.has g.J.Journal.limit c.args.core.now c.open_step.new.self c.args.journal.now rs stands began behind in
    recorded_told g.M.SortedMaps.maps g.M.SortedMaps.spare g.M.SortedMaps.limit g.J.Journal.has g.J.Journal.limit g.J.Journal.medium g.J.Journal.leaves s i a (answer_of c.answer-said.result) c.open_step.new.self c.args.journal.now c.answer-said.new.core c.answer-said.new.journal rs behind_then began c.close_step.new.self did (sym c.tells_fault.ensures ∙ c.if-tells_fault.false) (λ told. c.close_step.ensures s a asked told)
