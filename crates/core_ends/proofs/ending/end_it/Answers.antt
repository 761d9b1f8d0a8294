use Rattle.std.proofs.Common.{◌≡◌, ◌+◌, [], cond, true, false, None, sym, ap, subst, ◌∙◌, arith}
use Rattle.txn_book.specs.Books.{Seats}
use Rattle.data_past.specs.Ahead.{Becomes}
use Rattle.core_state.specs.declared.state.CoreState.{CoreState}
use Rattle.core_state.proofs.Sessions.{is_there, wrote_is}
use Rattle.core_ends.proofs.Past.{past_ended}
use Rattle.core_ends.proofs.Leaves.{ended}
use Rattle.core_ends.proofs.ending.end_it.Goals as goal

pub open_of-requires-after_bounds : goal.open_of-requires-after_bounds
open_of-requires-after_bounds g c κs within = is_there g.M.SortedMaps.maps g.M.SortedMaps.spare g.M.SortedMaps.limit c.args.core.now c.requires.0 c.args.session c.requires.1 c.requires.2

pub returns-then-wrote : goal.returns-then-wrote
returns-then-wrote g c = λ s h o none.
    let rest = c.let_go.ensures.rest in
    let wrote : (s.log.logged c.args.session).wrote ≡ true = sym (wrote_is g.M.SortedMaps.maps g.M.SortedMaps.spare g.M.SortedMaps.limit c.args.core.now s c.args.session h o c.open_of.result.now c.open_of.ensures) ∙ c.if-wrote.true in
    ended g.M.SortedMaps.maps g.M.SortedMaps.spare g.M.SortedMaps.limit c.args.core.now (record c.let_go.new.core { next = c.let_go.new.core.next + 1 }) s c.args.session h o.of_session c.book_law.ensures c.let_go.ensures.locks c.let_go.ensures.store c.let_go.ensures.rows c.let_go.ensures.rooms
    (ap (λ (x : CoreState g.row.M.Denot). x.store.tables) rest) (ap (λ (x : CoreState g.row.M.Denot). x.store.catalog) rest) (ap (λ (x : CoreState g.row.M.Denot). x.wants) rest)
    (ap (λ (x : CoreState g.row.M.Denot). x.store.row_versions.pruned) rest) (ap (λ (x : CoreState g.row.M.Denot). x.store.delta_versions.pruned) rest)
    (ap (λ (x : CoreState g.row.M.Denot). x.begun) rest) (ap (λ (x : CoreState g.row.M.Denot). x.steps) rest) (ap (λ (x : CoreState g.row.M.Denot). x.seats) rest) (ap (λ (x : CoreState g.row.M.Denot). x.cleaner) rest)
    (ap (λ (x : CoreState g.row.M.Denot). x.stop) rest) (ap (λ (x : CoreState g.row.M.Denot). x.data_room) rest) (ap (λ (x : CoreState g.row.M.Denot). x.log_room) rest) o (subst (λ b. Seats c.args.core.now.book b c.args.session None) (sym (ap (λ (x : CoreState g.row.M.Denot). x.book) rest)) c.end.ensures)
    (ap (λ (x : CoreState g.row.M.Denot). x.next + 1) rest ∙ sym (ap (λ b. cond b (c.args.core.now.next + 1) c.args.core.now.next) wrote))
    (past_ended g.M.SortedMaps.maps g.M.SortedMaps.spare g.M.SortedMaps.limit c.args.core.now c.let_go.new.core s c.args.session h o.of_session none c.let_go.new.core.store.views (ap (λ (x : CoreState g.row.M.Denot). x.store) rest))
    (subst (λ a. Becomes c.args.core.now.ahead a c.args.session [] []) (sym (ap (λ (x : CoreState g.row.M.Denot). x.ahead) rest)) c.clear.ensures)
    (let same : c.let_go.new.core.store.row_versions.room ≡ c.args.core.now.store.row_versions.room = ap (λ (x : CoreState g.row.M.Denot). x.store.row_versions.room) rest in omega (arith, same))
    (let same : c.let_go.new.core.store.delta_versions.room ≡ c.args.core.now.store.delta_versions.room = ap (λ (x : CoreState g.row.M.Denot). x.store.delta_versions.room) rest in omega (arith, same))

pub returns-else-wrote : goal.returns-else-wrote
returns-else-wrote g c = λ s h o none.
    let rest = c.let_go.ensures.rest in
    let wrote : (s.log.logged c.args.session).wrote ≡ false = sym (wrote_is g.M.SortedMaps.maps g.M.SortedMaps.spare g.M.SortedMaps.limit c.args.core.now s c.args.session h o c.open_of.result.now c.open_of.ensures) ∙ c.if-wrote.false in
    ended g.M.SortedMaps.maps g.M.SortedMaps.spare g.M.SortedMaps.limit c.args.core.now c.let_go.new.core s c.args.session h o.of_session c.book_law.ensures c.let_go.ensures.locks c.let_go.ensures.store c.let_go.ensures.rows c.let_go.ensures.rooms
    (ap (λ (x : CoreState g.row.M.Denot). x.store.tables) rest) (ap (λ (x : CoreState g.row.M.Denot). x.store.catalog) rest) (ap (λ (x : CoreState g.row.M.Denot). x.wants) rest)
    (ap (λ (x : CoreState g.row.M.Denot). x.store.row_versions.pruned) rest) (ap (λ (x : CoreState g.row.M.Denot). x.store.delta_versions.pruned) rest)
    (ap (λ (x : CoreState g.row.M.Denot). x.begun) rest) (ap (λ (x : CoreState g.row.M.Denot). x.steps) rest) (ap (λ (x : CoreState g.row.M.Denot). x.seats) rest) (ap (λ (x : CoreState g.row.M.Denot). x.cleaner) rest)
    (ap (λ (x : CoreState g.row.M.Denot). x.stop) rest) (ap (λ (x : CoreState g.row.M.Denot). x.data_room) rest) (ap (λ (x : CoreState g.row.M.Denot). x.log_room) rest) o (subst (λ b. Seats c.args.core.now.book b c.args.session None) (sym (ap (λ (x : CoreState g.row.M.Denot). x.book) rest)) c.end.ensures)
    (ap (λ (x : CoreState g.row.M.Denot). x.next) rest ∙ sym (ap (λ b. cond b (c.args.core.now.next + 1) c.args.core.now.next) wrote))
    (past_ended g.M.SortedMaps.maps g.M.SortedMaps.spare g.M.SortedMaps.limit c.args.core.now c.let_go.new.core s c.args.session h o.of_session none c.let_go.new.core.store.views (ap (λ (x : CoreState g.row.M.Denot). x.store) rest))
    (subst (λ a. Becomes c.args.core.now.ahead a c.args.session [] []) (sym (ap (λ (x : CoreState g.row.M.Denot). x.ahead) rest)) c.clear.ensures)
    (let same : c.let_go.new.core.store.row_versions.room ≡ c.args.core.now.store.row_versions.room = ap (λ (x : CoreState g.row.M.Denot). x.store.row_versions.room) rest in omega (arith, same))
    (let same : c.let_go.new.core.store.delta_versions.room ≡ c.args.core.now.store.delta_versions.room = ap (λ (x : CoreState g.row.M.Denot). x.store.delta_versions.room) rest in omega (arith, same))

pub clear-requires : goal.clear-requires
clear-requires g c = let is = c.requires.2.of_session in omega (arith, is)
