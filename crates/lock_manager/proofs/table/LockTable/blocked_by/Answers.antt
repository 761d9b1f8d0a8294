use Rattle.std.proofs.Common.{◌≡◌, length, ◌<◌, ap, ◌∙◌, arith}
use Rattle.std.proofs.lemmas.List.{get_or_default}
use Rattle.lock_manager.specs.Table.{Table, SessionLocks, nothing, of_session, waiting_of}
use Rattle.lock_manager.proofs.Ways.{ways_at}
use Rattle.lock_manager.proofs.table.LockTable.blocked_by.Goals as goal

pub returns : goal.returns
returns c =
    let session = c.args.session in
    let parts = c.self.inside.parts.items in
    let within : session < length parts = omega (arith, c.self.invariant.parts, c.requires) in
    let part : c.index.result.now ≡ of_session c.args.self.now session =
    c.index.ensures ∙ (get_or_default parts session c.index.result.now nothing within ∙ ap (λ (t : Table). of_session t session) c.self.view_is) in
    let waiting : c.waiting-waiting.result.now ≡ waiting_of c.args.self.now session = c.waiting-waiting.ensures ∙ ap (λ (s : SessionLocks). s.waiting) part in
    ways_at c.deref.result.now c.args.self.now session c.waiting-waiting.result.now (waiting_of c.args.self.now session) c.in_the_way.result (c.deref.ensures.value ∙ c.self.view_is) waiting c.in_the_way.ensures
