use Rattle.std.proofs.Common.{IfOk, refl, sym, ap, subst}
use Rattle.std.proofs.lemmas.Result.{IfOk-weaker}
use Rattle.txn_machine.specs.Acts as machine
use Rattle.txn_book.specs.Acts.{act_of, answer_of}
use Rattle.txn_book.specs.declared.step.Act.{Act}
use Rattle.core_recording.specs.Giving.{CanGive, MayGiveUp}
use Rattle.engine_core.proofs.Giving.{both_ok, can_give, fine_counts, gives_did, quiet_did}
use Rattle.engine_core.proofs.acting.act.Goals as goal

pub begin-requires-after_bounds : goal.begin-requires-after_bounds
begin-requires-after_bounds g c κs within = let q = can_give g.M.SortedMaps.maps g.M.SortedMaps.spare g.M.SortedMaps.limit g.J.Journal.has g.J.Journal.limit c.args.core.now c.args.journal.now c.args.session _ _ c.in-Begin.is c.requires in (q.state, q.began, q.may)

pub fetch-requires-after_bounds : goal.fetch-requires-after_bounds
fetch-requires-after_bounds g c κs within = let q = can_give g.M.SortedMaps.maps g.M.SortedMaps.spare g.M.SortedMaps.limit g.J.Journal.has g.J.Journal.limit c.args.core.now c.args.journal.now c.args.session _ _ c.in-Fetch.is c.requires in (q.state, q.began, q.may)

pub peek-requires-after_bounds : goal.peek-requires-after_bounds
peek-requires-after_bounds g c κs within = let q = can_give g.M.SortedMaps.maps g.M.SortedMaps.spare g.M.SortedMaps.limit g.J.Journal.has g.J.Journal.limit c.args.core.now c.args.journal.now c.args.session _ _ c.in-Peek.is c.requires in (q.state, q.began, q.may)

pub put-requires-after_bounds : goal.put-requires-after_bounds
put-requires-after_bounds g c κs within = can_give g.M.SortedMaps.maps g.M.SortedMaps.spare g.M.SortedMaps.limit g.J.Journal.has g.J.Journal.limit c.args.core.now c.args.journal.now c.args.session _ _ c.in-Put.is c.requires

pub pay-requires-after_bounds : goal.pay-requires-after_bounds
pay-requires-after_bounds g c κs within = can_give g.M.SortedMaps.maps g.M.SortedMaps.spare g.M.SortedMaps.limit g.J.Journal.has g.J.Journal.limit c.args.core.now c.args.journal.now c.args.session _ _ c.in-Pay.is c.requires

pub make_ghost-requires-after_bounds : goal.make_ghost-requires-after_bounds
make_ghost-requires-after_bounds g c κs within = can_give g.M.SortedMaps.maps g.M.SortedMaps.spare g.M.SortedMaps.limit g.J.Journal.has g.J.Journal.limit c.args.core.now c.args.journal.now c.args.session _ _ c.in-Ghost.is c.requires

pub undo_one-requires-after_bounds : goal.undo_one-requires-after_bounds
undo_one-requires-after_bounds g c κs within = can_give g.M.SortedMaps.maps g.M.SortedMaps.spare g.M.SortedMaps.limit g.J.Journal.has g.J.Journal.limit c.args.core.now c.args.journal.now c.args.session _ _ c.in-UndoOne.is c.requires

pub end-requires-after_bounds : goal.end-requires-after_bounds
end-requires-after_bounds g c κs within = can_give g.M.SortedMaps.maps g.M.SortedMaps.spare g.M.SortedMaps.limit g.J.Journal.has g.J.Journal.limit c.args.core.now c.args.journal.now c.args.session _ _ c.in-End.is c.requires

pub commit-requires-after_bounds : goal.commit-requires-after_bounds
commit-requires-after_bounds g c κs within = can_give g.M.SortedMaps.maps g.M.SortedMaps.spare g.M.SortedMaps.limit g.J.Journal.has g.J.Journal.limit c.args.core.now c.args.journal.now c.args.session _ _ c.in-Commit.is c.requires

pub define-requires-after_bounds : goal.define-requires-after_bounds
define-requires-after_bounds g c κs within = can_give g.M.SortedMaps.maps g.M.SortedMaps.spare g.M.SortedMaps.limit g.J.Journal.has g.J.Journal.limit c.args.core.now c.args.journal.now c.args.session _ _ c.in-Schema.is c.requires

pub clean-requires-after_bounds : goal.clean-requires-after_bounds
clean-requires-after_bounds g c κs within =
    let q = can_give g.M.SortedMaps.maps g.M.SortedMaps.spare g.M.SortedMaps.limit g.J.Journal.has g.J.Journal.limit c.args.core.now c.args.journal.now c.args.session _ _ c.in-Clean.is c.requires in
    let r = subst (λ i. CanGive g.M.SortedMaps.maps g.M.SortedMaps.spare g.M.SortedMaps.limit g.J.Journal.has g.J.Journal.limit c.args.core.now c.args.journal.now i machine.Clean) q.may q in
    r

pub save-requires-after_bounds : goal.save-requires-after_bounds
save-requires-after_bounds g c κs within =
    let q = can_give g.M.SortedMaps.maps g.M.SortedMaps.spare g.M.SortedMaps.limit g.J.Journal.has g.J.Journal.limit c.args.core.now c.args.journal.now c.args.session _ _ c.in-Checkpoint.is c.requires in
    let r = subst (λ i. CanGive g.M.SortedMaps.maps g.M.SortedMaps.spare g.M.SortedMaps.limit g.J.Journal.has g.J.Journal.limit c.args.core.now c.args.journal.now i machine.Checkpoint) q.may q in
    r

pub returns-in-Begin-clause-gives : goal.returns-in-Begin-clause-gives
returns-in-Begin-clause-gives g c =
    subst (λ (a : Act). IfOk c.begin.result (λ said. MayGiveUp g.M.SortedMaps.maps g.M.SortedMaps.spare g.M.SortedMaps.limit g.J.Journal.has g.J.Journal.limit g.J.Journal.medium g.J.Journal.leaves c.args.core.now c.args.journal.now c.args.session (act_of a) (answer_of said) c.begin.new.core c.args.journal.now)) (sym c.in-Begin.is)
    (IfOk-weaker c.begin.result _ _ (λ said tells. quiet_did g.M.SortedMaps.maps g.M.SortedMaps.spare g.M.SortedMaps.limit g.J.Journal.has g.J.Journal.limit g.J.Journal.medium g.J.Journal.leaves c.args.core.now c.args.journal.now c.args.session _ (answer_of said) c.begin.new.core tt tells) c.begin.ensures.told)

pub returns-in-Begin-clause-faults : goal.returns-in-Begin-clause-faults
returns-in-Begin-clause-faults g c =
    let q = can_give g.M.SortedMaps.maps g.M.SortedMaps.spare g.M.SortedMaps.limit g.J.Journal.has g.J.Journal.limit c.args.core.now c.args.journal.now c.args.session _ _ c.in-Begin.is c.requires in
    IfOk-weaker c.begin.result _ _ (λ said tells. fine_counts said _ _ (tells q.state q.began q.may).no_fault refl) c.begin.ensures.told

pub returns-in-Defs-clause-gives : goal.returns-in-Defs-clause-gives
returns-in-Defs-clause-gives g c =
    subst (λ (a : Act). IfOk c.defs.result (λ said. MayGiveUp g.M.SortedMaps.maps g.M.SortedMaps.spare g.M.SortedMaps.limit g.J.Journal.has g.J.Journal.limit g.J.Journal.medium g.J.Journal.leaves c.args.core.now c.args.journal.now c.args.session (act_of a) (answer_of said) c.args.core.now c.args.journal.now)) (sym c.in-Defs.is)
    (IfOk-weaker c.defs.result _ _ (λ said tells. quiet_did g.M.SortedMaps.maps g.M.SortedMaps.spare g.M.SortedMaps.limit g.J.Journal.has g.J.Journal.limit g.J.Journal.medium g.J.Journal.leaves c.args.core.now c.args.journal.now c.args.session _ (answer_of said) c.args.core.now tt (λ s began may. tells s began)) c.defs.ensures)

pub returns-in-Defs-clause-faults : goal.returns-in-Defs-clause-faults
returns-in-Defs-clause-faults g c =
    let q = can_give g.M.SortedMaps.maps g.M.SortedMaps.spare g.M.SortedMaps.limit g.J.Journal.has g.J.Journal.limit c.args.core.now c.args.journal.now c.args.session _ _ c.in-Defs.is c.requires in
    IfOk-weaker c.defs.result _ _ (λ said tells. fine_counts said _ _ (tells q.state q.began).no_fault refl) c.defs.ensures

pub returns-in-Fetch-clause-gives : goal.returns-in-Fetch-clause-gives
returns-in-Fetch-clause-gives g c =
    subst (λ (a : Act). IfOk c.fetch.result (λ said. MayGiveUp g.M.SortedMaps.maps g.M.SortedMaps.spare g.M.SortedMaps.limit g.J.Journal.has g.J.Journal.limit g.J.Journal.medium g.J.Journal.leaves c.args.core.now c.args.journal.now c.args.session (act_of a) (answer_of said) c.fetch.new.core c.args.journal.now)) (sym c.in-Fetch.is)
    (IfOk-weaker c.fetch.result _ _ (λ said tells. quiet_did g.M.SortedMaps.maps g.M.SortedMaps.spare g.M.SortedMaps.limit g.J.Journal.has g.J.Journal.limit g.J.Journal.medium g.J.Journal.leaves c.args.core.now c.args.journal.now c.args.session _ (answer_of said) c.fetch.new.core tt tells) c.fetch.ensures.told)

pub returns-in-Fetch-clause-faults : goal.returns-in-Fetch-clause-faults
returns-in-Fetch-clause-faults g c =
    let q = can_give g.M.SortedMaps.maps g.M.SortedMaps.spare g.M.SortedMaps.limit g.J.Journal.has g.J.Journal.limit c.args.core.now c.args.journal.now c.args.session _ _ c.in-Fetch.is c.requires in
    IfOk-weaker c.fetch.result _ _ (λ said tells. fine_counts said _ _ (tells q.state q.began q.may).no_fault refl) c.fetch.ensures.told

pub returns-in-Peek-clause-gives : goal.returns-in-Peek-clause-gives
returns-in-Peek-clause-gives g c =
    subst (λ (a : Act). IfOk c.peek.result (λ said. MayGiveUp g.M.SortedMaps.maps g.M.SortedMaps.spare g.M.SortedMaps.limit g.J.Journal.has g.J.Journal.limit g.J.Journal.medium g.J.Journal.leaves c.args.core.now c.args.journal.now c.args.session (act_of a) (answer_of said) c.args.core.now c.args.journal.now)) (sym c.in-Peek.is)
    (IfOk-weaker c.peek.result _ _ (λ said tells. quiet_did g.M.SortedMaps.maps g.M.SortedMaps.spare g.M.SortedMaps.limit g.J.Journal.has g.J.Journal.limit g.J.Journal.medium g.J.Journal.leaves c.args.core.now c.args.journal.now c.args.session _ (answer_of said) c.args.core.now tt tells) c.peek.ensures)

pub returns-in-Peek-clause-faults : goal.returns-in-Peek-clause-faults
returns-in-Peek-clause-faults g c =
    let q = can_give g.M.SortedMaps.maps g.M.SortedMaps.spare g.M.SortedMaps.limit g.J.Journal.has g.J.Journal.limit c.args.core.now c.args.journal.now c.args.session _ _ c.in-Peek.is c.requires in
    IfOk-weaker c.peek.result _ _ (λ said tells. fine_counts said _ _ (tells q.state q.began q.may).no_fault refl) c.peek.ensures

pub returns-in-Put-clause-gives : goal.returns-in-Put-clause-gives
returns-in-Put-clause-gives g c =
    subst (λ (a : Act). IfOk c.put.result (λ said. MayGiveUp g.M.SortedMaps.maps g.M.SortedMaps.spare g.M.SortedMaps.limit g.J.Journal.has g.J.Journal.limit g.J.Journal.medium g.J.Journal.leaves c.args.core.now c.args.journal.now c.args.session (act_of a) (answer_of said) c.put.new.core c.put.new.journal)) (sym c.in-Put.is)
    (IfOk-weaker c.put.result _ _ (λ said gives. gives_did g.M.SortedMaps.maps g.M.SortedMaps.spare g.M.SortedMaps.limit g.J.Journal.has g.J.Journal.limit g.J.Journal.medium g.J.Journal.leaves c.args.core.now c.args.journal.now c.args.session _ (answer_of said) c.put.new.core c.put.new.journal gives) c.put.ensures.gives)

pub returns-in-Put-clause-faults : goal.returns-in-Put-clause-faults
returns-in-Put-clause-faults g c =
    let q = can_give g.M.SortedMaps.maps g.M.SortedMaps.spare g.M.SortedMaps.limit g.J.Journal.has g.J.Journal.limit c.args.core.now c.args.journal.now c.args.session _ _ c.in-Put.is c.requires in
    IfOk-weaker c.put.result _ _ (λ said gives. fine_counts said _ _ (gives q.state q.began q.may).told.no_fault (ap g.J.Journal.faults c.put.ensures.medium)) c.put.ensures.gives

pub returns-in-Ghost-clause-gives : goal.returns-in-Ghost-clause-gives
returns-in-Ghost-clause-gives g c =
    subst (λ (a : Act). IfOk c.make_ghost.result (λ said. MayGiveUp g.M.SortedMaps.maps g.M.SortedMaps.spare g.M.SortedMaps.limit g.J.Journal.has g.J.Journal.limit g.J.Journal.medium g.J.Journal.leaves c.args.core.now c.args.journal.now c.args.session (act_of a) (answer_of said) c.make_ghost.new.core c.make_ghost.new.journal)) (sym c.in-Ghost.is)
    (IfOk-weaker c.make_ghost.result _ _ (λ said gives. gives_did g.M.SortedMaps.maps g.M.SortedMaps.spare g.M.SortedMaps.limit g.J.Journal.has g.J.Journal.limit g.J.Journal.medium g.J.Journal.leaves c.args.core.now c.args.journal.now c.args.session _ (answer_of said) c.make_ghost.new.core c.make_ghost.new.journal gives) c.make_ghost.ensures.gives)

pub returns-in-Ghost-clause-faults : goal.returns-in-Ghost-clause-faults
returns-in-Ghost-clause-faults g c =
    let q = can_give g.M.SortedMaps.maps g.M.SortedMaps.spare g.M.SortedMaps.limit g.J.Journal.has g.J.Journal.limit c.args.core.now c.args.journal.now c.args.session _ _ c.in-Ghost.is c.requires in
    IfOk-weaker c.make_ghost.result _ _ (λ said gives. fine_counts said _ _ (gives q.state q.began q.may).told.no_fault (ap g.J.Journal.faults c.make_ghost.ensures.medium)) c.make_ghost.ensures.gives

pub returns-in-Pay-clause-gives : goal.returns-in-Pay-clause-gives
returns-in-Pay-clause-gives g c =
    subst (λ (a : Act). MayGiveUp g.M.SortedMaps.maps g.M.SortedMaps.spare g.M.SortedMaps.limit g.J.Journal.has g.J.Journal.limit g.J.Journal.medium g.J.Journal.leaves c.args.core.now c.args.journal.now c.args.session (act_of a) (answer_of c.pay.result) c.pay.new.core c.pay.new.journal) (sym c.in-Pay.is)
    (gives_did g.M.SortedMaps.maps g.M.SortedMaps.spare g.M.SortedMaps.limit g.J.Journal.has g.J.Journal.limit g.J.Journal.medium g.J.Journal.leaves c.args.core.now c.args.journal.now c.args.session _ (answer_of c.pay.result) c.pay.new.core c.pay.new.journal c.pay.ensures.gives)

pub returns-in-Pay-clause-faults : goal.returns-in-Pay-clause-faults
returns-in-Pay-clause-faults g c =
    let q = can_give g.M.SortedMaps.maps g.M.SortedMaps.spare g.M.SortedMaps.limit g.J.Journal.has g.J.Journal.limit c.args.core.now c.args.journal.now c.args.session _ _ c.in-Pay.is c.requires in
    fine_counts c.pay.result _ _ (c.pay.ensures.gives q.state q.began q.may).told.no_fault (ap g.J.Journal.faults c.pay.ensures.medium)

pub returns-in-UndoOne-clause-gives : goal.returns-in-UndoOne-clause-gives
returns-in-UndoOne-clause-gives g c =
    subst (λ (a : Act). MayGiveUp g.M.SortedMaps.maps g.M.SortedMaps.spare g.M.SortedMaps.limit g.J.Journal.has g.J.Journal.limit g.J.Journal.medium g.J.Journal.leaves c.args.core.now c.args.journal.now c.args.session (act_of a) (answer_of c.undo_one.result) c.undo_one.new.core c.undo_one.new.journal) (sym c.in-UndoOne.is)
    (gives_did g.M.SortedMaps.maps g.M.SortedMaps.spare g.M.SortedMaps.limit g.J.Journal.has g.J.Journal.limit g.J.Journal.medium g.J.Journal.leaves c.args.core.now c.args.journal.now c.args.session _ (answer_of c.undo_one.result) c.undo_one.new.core c.undo_one.new.journal c.undo_one.ensures.gives)

pub returns-in-UndoOne-clause-faults : goal.returns-in-UndoOne-clause-faults
returns-in-UndoOne-clause-faults g c =
    let q = can_give g.M.SortedMaps.maps g.M.SortedMaps.spare g.M.SortedMaps.limit g.J.Journal.has g.J.Journal.limit c.args.core.now c.args.journal.now c.args.session _ _ c.in-UndoOne.is c.requires in
    fine_counts c.undo_one.result _ _ (c.undo_one.ensures.gives q.state q.began q.may).told.no_fault (ap g.J.Journal.faults c.undo_one.ensures.medium)

pub returns-in-End-clause-gives : goal.returns-in-End-clause-gives
returns-in-End-clause-gives g c =
    subst (λ (a : Act). MayGiveUp g.M.SortedMaps.maps g.M.SortedMaps.spare g.M.SortedMaps.limit g.J.Journal.has g.J.Journal.limit g.J.Journal.medium g.J.Journal.leaves c.args.core.now c.args.journal.now c.args.session (act_of a) (answer_of c.end.result) c.end.new.core c.end.new.journal) (sym c.in-End.is)
    (gives_did g.M.SortedMaps.maps g.M.SortedMaps.spare g.M.SortedMaps.limit g.J.Journal.has g.J.Journal.limit g.J.Journal.medium g.J.Journal.leaves c.args.core.now c.args.journal.now c.args.session _ (answer_of c.end.result) c.end.new.core c.end.new.journal c.end.ensures.gives)

pub returns-in-End-clause-faults : goal.returns-in-End-clause-faults
returns-in-End-clause-faults g c =
    let q = can_give g.M.SortedMaps.maps g.M.SortedMaps.spare g.M.SortedMaps.limit g.J.Journal.has g.J.Journal.limit c.args.core.now c.args.journal.now c.args.session _ _ c.in-End.is c.requires in
    fine_counts c.end.result _ _ (c.end.ensures.gives q.state q.began q.may).told.no_fault (ap g.J.Journal.faults c.end.ensures.medium)

pub returns-in-Commit-clause-gives : goal.returns-in-Commit-clause-gives
returns-in-Commit-clause-gives g c =
    subst (λ (a : Act). MayGiveUp g.M.SortedMaps.maps g.M.SortedMaps.spare g.M.SortedMaps.limit g.J.Journal.has g.J.Journal.limit g.J.Journal.medium g.J.Journal.leaves c.args.core.now c.args.journal.now c.args.session (act_of a) (answer_of c.commit.result) c.commit.new.core c.commit.new.journal) (sym c.in-Commit.is)
    (c.commit.ensures.gives)

pub returns-in-Commit-clause-faults : goal.returns-in-Commit-clause-faults
returns-in-Commit-clause-faults g c =
    record { rises = c.commit.ensures.rose; stays = c.commit.ensures.faults }

pub returns-in-Schema-clause-gives : goal.returns-in-Schema-clause-gives
returns-in-Schema-clause-gives g c =
    subst (λ (a : Act). IfOk c.define.result (λ said. MayGiveUp g.M.SortedMaps.maps g.M.SortedMaps.spare g.M.SortedMaps.limit g.J.Journal.has g.J.Journal.limit g.J.Journal.medium g.J.Journal.leaves c.args.core.now c.args.journal.now c.args.session (act_of a) (answer_of said) c.define.new.core c.define.new.journal)) (sym c.in-Schema.is)
    (c.define.ensures.gives)

pub returns-in-Schema-clause-faults : goal.returns-in-Schema-clause-faults
returns-in-Schema-clause-faults g c =
    both_ok c.define.result (λ said stays rises. record { rises = rises; stays = stays }) c.define.ensures.faults c.define.ensures.rose

pub returns-in-Clean-clause-gives : goal.returns-in-Clean-clause-gives
returns-in-Clean-clause-gives g c =
    subst (λ (a : Act). MayGiveUp g.M.SortedMaps.maps g.M.SortedMaps.spare g.M.SortedMaps.limit g.J.Journal.has g.J.Journal.limit g.J.Journal.medium g.J.Journal.leaves c.args.core.now c.args.journal.now c.args.session (act_of a) (answer_of c.clean.result) c.clean.new.core c.clean.new.journal) (sym c.in-Clean.is)
    (let q = can_give g.M.SortedMaps.maps g.M.SortedMaps.spare g.M.SortedMaps.limit g.J.Journal.has g.J.Journal.limit c.args.core.now c.args.journal.now c.args.session _ _ c.in-Clean.is c.requires in
    subst (λ i. MayGiveUp g.M.SortedMaps.maps g.M.SortedMaps.spare g.M.SortedMaps.limit g.J.Journal.has g.J.Journal.limit g.J.Journal.medium g.J.Journal.leaves c.args.core.now c.args.journal.now i machine.Clean (answer_of c.clean.result) c.clean.new.core c.clean.new.journal) (sym q.may) (gives_did g.M.SortedMaps.maps g.M.SortedMaps.spare g.M.SortedMaps.limit g.J.Journal.has g.J.Journal.limit g.J.Journal.medium g.J.Journal.leaves c.args.core.now c.args.journal.now 0 machine.Clean (answer_of c.clean.result) c.clean.new.core c.clean.new.journal c.clean.ensures.gives))

pub returns-in-Clean-clause-faults : goal.returns-in-Clean-clause-faults
returns-in-Clean-clause-faults g c =
    let q = can_give g.M.SortedMaps.maps g.M.SortedMaps.spare g.M.SortedMaps.limit g.J.Journal.has g.J.Journal.limit c.args.core.now c.args.journal.now c.args.session _ _ c.in-Clean.is c.requires in
    let r = subst (λ i. CanGive g.M.SortedMaps.maps g.M.SortedMaps.spare g.M.SortedMaps.limit g.J.Journal.has g.J.Journal.limit c.args.core.now c.args.journal.now i machine.Clean) q.may q in
    fine_counts c.clean.result _ _ (c.clean.ensures.gives r.state r.began r.may).told.no_fault (ap g.J.Journal.faults c.clean.ensures.medium)

pub returns-in-Checkpoint-clause-gives : goal.returns-in-Checkpoint-clause-gives
returns-in-Checkpoint-clause-gives g c =
    subst (λ (a : Act). MayGiveUp g.M.SortedMaps.maps g.M.SortedMaps.spare g.M.SortedMaps.limit g.J.Journal.has g.J.Journal.limit g.J.Journal.medium g.J.Journal.leaves c.args.core.now c.args.journal.now c.args.session (act_of a) (answer_of c.save.result) c.save.new.core c.save.new.journal) (sym c.in-Checkpoint.is)
    (let q = can_give g.M.SortedMaps.maps g.M.SortedMaps.spare g.M.SortedMaps.limit g.J.Journal.has g.J.Journal.limit c.args.core.now c.args.journal.now c.args.session _ _ c.in-Checkpoint.is c.requires in
    subst (λ i. MayGiveUp g.M.SortedMaps.maps g.M.SortedMaps.spare g.M.SortedMaps.limit g.J.Journal.has g.J.Journal.limit g.J.Journal.medium g.J.Journal.leaves c.args.core.now c.args.journal.now i machine.Checkpoint (answer_of c.save.result) c.save.new.core c.save.new.journal) (sym q.may) c.save.ensures.gives)

pub returns-in-Checkpoint-clause-faults : goal.returns-in-Checkpoint-clause-faults
returns-in-Checkpoint-clause-faults g c =
    record { rises = c.save.ensures.rose; stays = c.save.ensures.faults }

pub returns-in-Prune-clause-gives : goal.returns-in-Prune-clause-gives
returns-in-Prune-clause-gives g c =
    subst (λ (a : Act). MayGiveUp g.M.SortedMaps.maps g.M.SortedMaps.spare g.M.SortedMaps.limit g.J.Journal.has g.J.Journal.limit g.J.Journal.medium g.J.Journal.leaves c.args.core.now c.args.journal.now c.args.session (act_of a) (answer_of c.prune.result) c.prune.new.core c.args.journal.now) (sym c.in-Prune.is)
    (let q = can_give g.M.SortedMaps.maps g.M.SortedMaps.spare g.M.SortedMaps.limit g.J.Journal.has g.J.Journal.limit c.args.core.now c.args.journal.now c.args.session _ _ c.in-Prune.is c.requires in
    subst (λ i. MayGiveUp g.M.SortedMaps.maps g.M.SortedMaps.spare g.M.SortedMaps.limit g.J.Journal.has g.J.Journal.limit g.J.Journal.medium g.J.Journal.leaves c.args.core.now c.args.journal.now i machine.Prune (answer_of c.prune.result) c.prune.new.core c.args.journal.now) (sym q.may) (quiet_did g.M.SortedMaps.maps g.M.SortedMaps.spare g.M.SortedMaps.limit g.J.Journal.has g.J.Journal.limit g.J.Journal.medium g.J.Journal.leaves c.args.core.now c.args.journal.now 0 machine.Prune (answer_of c.prune.result) c.prune.new.core tt (λ s began may. c.prune.ensures.told s began)))

pub returns-in-Prune-clause-faults : goal.returns-in-Prune-clause-faults
returns-in-Prune-clause-faults g c =
    let q = can_give g.M.SortedMaps.maps g.M.SortedMaps.spare g.M.SortedMaps.limit g.J.Journal.has g.J.Journal.limit c.args.core.now c.args.journal.now c.args.session _ _ c.in-Prune.is c.requires in
    let r = subst (λ i. CanGive g.M.SortedMaps.maps g.M.SortedMaps.spare g.M.SortedMaps.limit g.J.Journal.has g.J.Journal.limit c.args.core.now c.args.journal.now i machine.Prune) q.may q in
    fine_counts c.prune.result _ _ (c.prune.ensures.told r.state r.began).no_fault refl

pub returns-in-Cancel-clause-gives : goal.returns-in-Cancel-clause-gives
returns-in-Cancel-clause-gives g c =
    subst (λ (a : Act). MayGiveUp g.M.SortedMaps.maps g.M.SortedMaps.spare g.M.SortedMaps.limit g.J.Journal.has g.J.Journal.limit g.J.Journal.medium g.J.Journal.leaves c.args.core.now c.args.journal.now c.args.session (act_of a) (answer_of c.cancel.result) c.args.core.now c.args.journal.now) (sym c.in-Cancel.is)
    (quiet_did g.M.SortedMaps.maps g.M.SortedMaps.spare g.M.SortedMaps.limit g.J.Journal.has g.J.Journal.limit g.J.Journal.medium g.J.Journal.leaves c.args.core.now c.args.journal.now c.args.session machine.Cancel (answer_of c.cancel.result) c.args.core.now tt (λ s began may. c.cancel.ensures s began))

pub returns-in-Cancel-clause-faults : goal.returns-in-Cancel-clause-faults
returns-in-Cancel-clause-faults g c =
    let q = can_give g.M.SortedMaps.maps g.M.SortedMaps.spare g.M.SortedMaps.limit g.J.Journal.has g.J.Journal.limit c.args.core.now c.args.journal.now c.args.session _ _ c.in-Cancel.is c.requires in
    fine_counts c.cancel.result _ _ (c.cancel.ensures q.state q.began).no_fault refl
