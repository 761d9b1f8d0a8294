use mathlib.Core.Path.{subst}
use Rattle.iv_types.specs.declared.statement.Mode.TheVariants.{Snapshot}
use Rattle.txn_machine.specs.May.{MayLock, MayPeek}
use Rattle.core_cases.specs.Asking.{IsSpelt}
use Rattle.core_cases.proofs.Opened.{opened_in}
use Rattle.core_cases.proofs.Asked.{on_ok, on_both, on_schema, acts}
use Rattle.core_cases.proofs.asking.may_act.Goals as goal

pub returns-in-Begin : goal.returns-in-Begin
returns-in-Begin c = acts c.is_closed.result c.args.core.now c.args.session _ _ c.in-Begin.is (on_both c.is_closed.result _ _ _ (λ session closed s h. (session, closed s h)) c.is_closed.ensures.of_session c.is_closed.ensures.closed)

pub returns-in_ok-is_ready-in-Fetch : goal.returns-in_ok-is_ready-in-Fetch
returns-in_ok-is_ready-in-Fetch c = acts c.may_lock.result c.args.core.now c.args.session _ _ c.in-Fetch.is
    (on_ok c.may_lock.result _ _ (λ lock s h. (c.in_ok-is_ready-in-Fetch.ensures s h, on_schema c.args.core.now s c.in-Fetch.index (MayLock c.in-Fetch.mode) h lock)) c.may_lock.ensures)

pub returns-in_ok-goes_on-in-Peek : goal.returns-in_ok-goes_on-in-Peek
returns-in_ok-goes_on-in-Peek c = acts c.may_peek.result c.args.core.now c.args.session _ _ c.in-Peek.is
    (on_ok c.may_peek.result _ _ (λ peek s h.
    let on = c.in_ok-goes_on-in-Peek.ensures in
    (opened_in c.args.core.now s h c.args.session on.of_session c.in_ok-goes_on-in-Peek.field-0.now on.there Snapshot on.mode on.not_lost, on_schema c.args.core.now s c.in-Peek.index MayPeek h peek)) c.may_peek.ensures)

pub returns-in_ok-is_ready-in-Put : goal.returns-in_ok-is_ready-in-Put
returns-in_ok-is_ready-in-Put c = acts c.may_put.result c.args.core.now c.args.session _ _ c.in-Put.is (on_ok c.may_put.result _ _ (λ put s h. (c.in_ok-is_ready-in-Put.ensures s h, put s h)) c.may_put.ensures)

pub returns-in-Pay : goal.returns-in-Pay
returns-in-Pay c = acts c.owes.result c.args.core.now c.args.session _ _ c.in-Pay.is c.owes.ensures

pub returns-in-Ghost : goal.returns-in-Ghost
returns-in-Ghost c = acts c.holds_group.result c.args.core.now c.args.session _ _ c.in-Ghost.is c.holds_group.ensures

pub returns-in-UndoOne : goal.returns-in-UndoOne
returns-in-UndoOne c = acts c.keeps.result c.args.core.now c.args.session _ _ c.in-UndoOne.is c.keeps.ensures

pub returns-in-End : goal.returns-in-End
returns-in-End c = acts c.keeps_none.result c.args.core.now c.args.session _ _ c.in-End.is c.keeps_none.ensures

pub returns-in-Commit : goal.returns-in-Commit
returns-in-Commit c = acts c.may_commit.result c.args.core.now c.args.session _ _ c.in-Commit.is c.may_commit.ensures

pub returns-in_ok-is_closed-in-Schema : goal.returns-in_ok-is_closed-in-Schema
returns-in_ok-is_closed-in-Schema c = acts c.is_create.result c.args.core.now c.args.session _ _ c.in-Schema.is
    (on_ok c.is_create.result _ _ (λ create s h. (c.in_ok-is_closed-in-Schema.ensures.of_session, c.in_ok-is_closed-in-Schema.ensures.closed s h, create, subst IsSpelt c.in-Schema.is c.requires.spelt)) c.is_create.ensures)
