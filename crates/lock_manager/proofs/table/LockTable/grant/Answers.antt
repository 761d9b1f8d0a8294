use Rattle.std.proofs.Common.{◌≡◌, List, length, slice_set, ◌<◌, sym, ◌∙◌, subst, arith}
use Rattle.std.specs.List.{Contains}
use Rattle.std.proofs.lemmas.List.{get_or_default, length-set}
use Rattle.iv_types.specs.declared.lock.Want.{Want}
use Rattle.lock_manager.specs.Table.{Table, SessionLocks, nothing, of_session, HasGained, IsGranted}
use Rattle.lock_manager.proofs.Marks.{marked_more}
use Rattle.lock_manager.proofs.Ways.{granted_at}
use Rattle.lock_manager.proofs.table.LockTable.grant.Goals as goal

pub invariant_of-self : goal.invariant_of-self
invariant_of-self c =
    let session = c.args.session in
    let parts = c.self.inside.parts.items in
    let part = c.index_mut.result.now in
    let within : session < length parts = omega (arith, c.self.invariant.parts, c.requires.session) in
    let before : part ≡ of_session parts session = c.index_mut.ensures.value ∙ get_or_default parts session part nothing within in
    record {
      parts = length-set parts session c.grant.new.self ∙ c.self.invariant.parts;
      marks = marked_more parts session c.grant.new.self within c.self.inside.slots.items c.mark.new.slots.items c.args.wants c.mark.ensures.size c.self.invariant.marks c.mark.ensures.kept
          (λ lock h. c.mark.ensures.marked lock (subst (λ (wants : List Want). Contains wants lock) (sym c.as_slice.ensures) h))
          (subst (λ (s : SessionLocks). HasGained s.locks c.args.wants c.grant.new.self.locks) before c.grant.ensures.locks);
    }

pub returns : goal.returns
returns c =
    let session = c.args.session in
    let parts = c.self.inside.parts.items in
    let part = c.index_mut.result.now in
    let within : session < length parts = omega (arith, c.self.invariant.parts, c.requires.session) in
    let before : part ≡ of_session parts session = c.index_mut.ensures.value ∙ get_or_default parts session part nothing within in
    subst (λ (t : Table). IsGranted t (slice_set parts session c.grant.new.self) session c.args.wants) c.self.view_is
    (granted_at parts session c.args.wants part c.grant.new.self within before c.grant.ensures.locks c.grant.ensures.waiting c.grant.ensures.used)
