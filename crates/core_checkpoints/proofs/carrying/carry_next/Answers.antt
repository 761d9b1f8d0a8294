use Rattle.std.proofs.Common.{◌≡◌, ◌+◌, Some, sym, subst, ◌∙◌}
use Rattle.iv_meaning.specs.Objects.{schema_of}
use Rattle.txn_machine.specs.Log.{Within}
use Rattle.txn_book.specs.Opens.{open_at}
use Rattle.log_records.specs.Lent.{stands_for}
use Rattle.record_lending.specs.Steps.{HasItsEntries}
use Rattle.core_recording.specs.Carrying.{id_of}
use Rattle.core_checkpoints.proofs.Given.{long, carried_as}
use Rattle.core_checkpoints.proofs.carrying.carry_next.Goals as goal

pub carry-requires-clause-room : goal.carry-requires-clause-room
carry-requires-clause-room g c =
    let q = c.requires in
    let both : Some c.in-Some.step.now ≡ Some q.5 = sym c.in-Some.ensures.some ∙ q.6 in
    let same : c.in-Some.step.now ≡ q.5 = cc in
    let id = id_of (open_at c.args.book.now.opens c.args.session) in
    let bytes = long (schema_of q.0) id c.in-Some.transaction c.number_of.result q.5 c.in-Some.step.now (stands_for c.step_of-lent.result) same c.in-Some.ensures.id c.number_of.ensures (c.step_of-lent.ensures q.0 (subst (HasItsEntries q.0) (sym same) q.7.0)) in
    (q.1, q.2, q.3, q.4, q.9, subst (λ n. Within (g.J.Journal.limit c.args.journal.now) (q.4 + n)) (sym bytes) q.10)

pub returns-clause-carries : goal.returns-clause-carries
returns-clause-carries g c = λ definitions rs next es used k there has carries.
    let both : Some c.in-Some.step.now ≡ Some k = sym c.in-Some.ensures.some ∙ there in
    let same : c.in-Some.step.now ≡ k = cc in
    let id = id_of (open_at c.args.book.now.opens c.args.session) in
    carried_as (schema_of definitions) id c.in-Some.transaction c.number_of.result k c.in-Some.step.now (stands_for c.step_of-lent.result) same c.in-Some.ensures.id c.number_of.ensures (c.step_of-lent.ensures definitions (subst (HasItsEntries definitions) (sym same) has))
    (g.J.Journal.carries c.carry.new.self rs next) es used (c.carry.ensures.carries rs next es used carries)
