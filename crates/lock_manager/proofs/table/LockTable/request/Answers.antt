use Rattle.std.proofs.Common.{◌≡◌, ◌<◌, length, sym, ap, ◌∙◌, arith}
use Rattle.std.proofs.lemmas.List.{get_or_default, length-set}
use Rattle.lock_manager.specs.Table.{SessionLocks, nothing, of_session}
use Rattle.lock_manager.proofs.Marks.{marked_same}
use Rattle.lock_manager.proofs.Keys.{true_false}
use Rattle.lock_manager.proofs.table.LockTable.request.Goals as goal

pub invariant_of-self : goal.invariant_of-self
invariant_of-self c =
    let session = c.args.session in
    let parts = c.self.inside.parts.items in
    let part = c.index_mut.result.now in
    let within : session < length parts = omega (arith, c.self.invariant.parts, c.requires.session) in
    let before : part ≡ of_session parts session = c.index_mut.ensures.value ∙ get_or_default parts session part nothing within in
    record {
      parts = length-set parts session c.wait.new.self ∙ c.self.invariant.parts;
      marks = marked_same parts session c.wait.new.self within c.self.inside.slots.items c.self.invariant.marks (ap (λ (s : SessionLocks). s.locks) (c.wait.ensures.waits) ∙ ap (λ (s : SessionLocks). s.locks) before);
    }

pub grant-requires-clause-free : goal.grant-requires-clause-free
grant-requires-clause-free c =
    c.conflicts-sessions.ensures.free (λ somebody. true_false (sym (c.is_somebody.ensures.1 somebody) ∙ c.if-is_somebody.false))

pub returns-clause-free : goal.returns-clause-free
returns-clause-free c =
    c.conflicts-sessions.ensures.free (λ somebody. true_false (sym (c.is_somebody.ensures.1 somebody) ∙ c.if-is_somebody.false))
