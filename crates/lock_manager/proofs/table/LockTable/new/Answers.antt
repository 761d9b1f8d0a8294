use Rattle.std.proofs.Common.{◌≡◌, ℕ, zero, suc, ◌+◌, [], ◌∷◌, ◌++◌, length, refl, ap, ◌∙◌}
use Rattle.std.proofs.lemmas.List.{length_push}
use Rattle.lock_manager.specs.Table.{Table, SessionLocks, of_session, nothing}
use Rattle.lock_manager.proofs.table.LockTable.new.Goals as goal

none_more : (table : Table) (part : SessionLocks) (session : ℕ) → part ≡ nothing → of_session table session ≡ nothing → of_session (table ++ part ∷ []) session ≡ nothing
none_more [] part zero is none = is
none_more [] part (suc session) is none = refl
none_more (one ∷ table) part zero is none = none
none_more (one ∷ table) part (suc session) is none = none_more table part session is none

pub loop-preserved : goal.loop-preserved
loop-preserved c =
    let more = c.in_ok-push.ensures.items in
    record {
      full = ap length more ∙ length_push c.loop.parts.items c.new.result ∙ ap (λ n. n + 1) c.loop.invariant.full;
      none = λ session. ap (λ (t : Table). of_session t session) more ∙ none_more c.loop.parts.items c.new.result session c.new.ensures (c.loop.invariant.none session);
    }
