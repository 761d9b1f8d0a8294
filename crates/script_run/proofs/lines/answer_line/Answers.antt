use Rattle.script_run.proofs.Ran.{moved_behind, ran_leads, on_error}
use Rattle.script_run.proofs.lines.answer_line.Goals as goal

pub returns-clause-ok : goal.returns-clause-ok
returns-clause-ok g c = λ s db lines out st h. moved_behind _ db lines out _ _ _ s _ _ _ _ _ c.clear.ensures.items c.deref.ensures.value c.in_ok-extend_from_slice.ensures.items (c.in_ok-one_line.ensures.ran s db lines out st h)

pub returns-in_err-one_line-clause-lost : goal.returns-in_err-one_line-clause-lost
returns-in_err-one_line-clause-lost g c = λ s db lines out st h. on_error c.from_residual.result (c.in_err-one_line.ensures.lost s db lines out st h)

pub returns-in_err-extend_from_slice-clause-lost : goal.returns-in_err-extend_from_slice-clause-lost
returns-in_err-extend_from_slice-clause-lost g c = λ s db lines out st h. on_error c.from_residual-in_err-extend_from_slice.result (ran_leads _ db lines out _ _ _ s _ _ (c.in_ok-one_line.ensures.ran s db lines out st h))
