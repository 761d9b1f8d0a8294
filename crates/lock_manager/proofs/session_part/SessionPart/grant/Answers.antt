use Rattle.std.proofs.Common.{List, ◌-◌, subst, sym, ap, arith}
use Rattle.iv_types.specs.declared.lock.Want.{Want}
use Rattle.lock_manager.specs.Table.{SessionLocks, HasGained, AddAtMost, AreNew, IsUsed}
use Rattle.lock_manager.proofs.Counts.{with_more, used_within}
use Rattle.lock_manager.proofs.session_part.SessionPart.grant.Goals as goal

pub add_all-used-requires : goal.add_all-used-requires
add_all-used-requires c =
    let part = c.self.inside in
    let here : AddAtMost part.room part.held.locks c.args.wants = subst (λ (s : SessionLocks). AddAtMost s.room s.locks c.args.wants) (sym c.self.view_is) c.requires in
    subst (λ (wants : List Want). AddAtMost part.held.spare part.held.locks wants) (sym c.into_vec.ensures) (with_more part.room part.held.spare part.held.locks c.args.wants c.self.invariant here)

pub overflow_cast-self : goal.overflow_cast-self
overflow_cast-self c =
    let part = c.self.inside in
    let here : AddAtMost part.room part.held.locks c.args.wants = subst (λ (s : SessionLocks). AddAtMost s.room s.locks c.args.wants) (sym c.self.view_is) c.requires in
    let most = used_within part.room c.add_all-used.result part.held.locks c.args.wants c.into_vec.result.items c.into_vec.ensures here c.add_all-used.ensures.new in
    omega (arith, most)

pub overflow_sub-self : goal.overflow_sub-self
overflow_sub-self c =
    let part = c.self.inside in
    let here : AddAtMost part.room part.held.locks c.args.wants = subst (λ (s : SessionLocks). AddAtMost s.room s.locks c.args.wants) (sym c.self.view_is) c.requires in
    let most = used_within part.room c.add_all-used.result part.held.locks c.args.wants c.into_vec.result.items c.into_vec.ensures here c.add_all-used.ensures.new in
    omega (arith, most)

pub returns-clause-locks : goal.returns-clause-locks
returns-clause-locks c =
    subst (λ (old : List Want). HasGained old c.args.wants c.add_all-used.new.self.locks) (ap (λ (s : SessionLocks). s.locks) c.self.view_is)
    (subst (λ (wants : List Want). HasGained c.self.inside.held.locks wants c.add_all-used.new.self.locks) c.into_vec.ensures c.add_all-used.ensures.locks)

pub returns-clause-used : goal.returns-clause-used
returns-clause-used c =
    let part = c.self.inside in
    let here : AddAtMost part.room part.held.locks c.args.wants = subst (λ (s : SessionLocks). AddAtMost s.room s.locks c.args.wants) (sym c.self.view_is) c.requires in
    let most = used_within part.room c.add_all-used.result part.held.locks c.args.wants c.into_vec.result.items c.into_vec.ensures here c.add_all-used.ensures.new in
    subst (λ (s : SessionLocks). IsUsed s.locks c.args.wants s.room (part.room - c.add_all-used.result)) c.self.view_is
    (c.add_all-used.result, subst (AreNew c.add_all-used.result part.held.locks) c.into_vec.ensures c.add_all-used.ensures.new, omega (arith, most))
