-- Between two steps what is committed is acknowledged, and so it is recovered.
use Rattle.std.specs.Prelude.{◌≡◌, ℕ}
use mathlib.Core.Path.{refl, sym, ap, subst, ◌∙◌}
use Rattle.std.proofs.Common.{arith}
use Rattle.iv_meaning.specs.History.{state_at}
use Rattle.txn_machine.specs.Store.{Store, committed, run}
use Rattle.txn_machine.specs.Ghosts.{the_views}
use Rattle.txn_machine.specs.State.{State}
use Rattle.txn_machine.proofs.Moving.{state_now}
use Rattle.txn_machine.proofs.Reached.{Holds'}
use Rattle.txn_log.specs.Replay.{Reading, recovered}
use Rattle.txn_log.specs.Appended.{Image}
use Rattle.txn_log.specs.Laws.{ReadingLaw, CommittedLaw}
use Rattle.txn_log.specs.Moments.{Disk, World, At, Amid, Halted, store_of, disk_of, with_disk, Happens, begins, acts, ends, flushes, acknowledges, publishes, fails_commit, fails_define, fails_before, fails_after, told, told_halted, Run, here, then_move, opened_world, left_by, IsRight}
use Rattle.txn_log.proofs.Following.{PrintsAgain}
use Rattle.txn_log.proofs.Happening.{good_run, good_opened, followed_world, cut_right}

-- in a step: what is still to come leaves the store that the step leaves
abbrev pub IsSettled : World → Type 0
IsSettled (At s d) = d.acknowledged ≡ (committed s.store).number
IsSettled (Amid after i a s l es d) = after.store ≡ run the_views s i es
IsSettled (Halted s next d) = Unit {0}

settled_disk : (w : World) (d : Disk) → d.acknowledged ≡ (disk_of w).acknowledged → IsSettled w → IsSettled (with_disk w d)
settled_disk (At s e) d same is = same ∙ is
settled_disk (Amid after i a s l es e) d same is = is
settled_disk (Halted s next e) d same is = tt

settled_acknowledged : (w : World) (d : Disk) → d.acknowledged ≡ (committed (store_of w)).number → IsSettled w → IsSettled (with_disk w d)
settled_acknowledged (At s e) d same is = same
settled_acknowledged (Amid after i a s l es e) d same is = is
settled_acknowledged (Halted s next e) d same is = tt

settled_move : (v w : World) → Happens v w → IsSettled v → IsSettled w
settled_move v w (begins s disk i a said after may d f) is = ap (λ (x : State). x.store) d.left
settled_move v w (acts after i a s l e es disk) is = is
settled_move v w (ends after i a s l disk done) is = done.acknowledged ∙ ap (λ (x : Store). (committed x).number) (sym is)
settled_move v w (flushes u writes) is = settled_disk u _ refl is
settled_move v w (acknowledges u none writes) is = settled_acknowledged u _ refl is
settled_move v w (publishes u xs keeps fall) is = settled_disk u _ refl is
settled_move v w (fails_commit s disk i stopped may d) is = tt
settled_move v w (fails_define s disk i statement stopped may d e same) is = tt
settled_move v w (fails_before s disk i stopped may d) is = tt
settled_move v w (fails_after s disk i stopped may d xs are fall) is = tt
settled_move v w (told s disk i said after t) is = is ∙ sym (ap (λ (x : State). (committed x.store).number) t.left)
settled_move v w (told_halted s next disk i said after t) is = tt

pub settled_run : (u w : World) → Run u w → IsSettled u → IsSettled w
settled_run u w (here x) is = is
settled_run u w (then_move a v b r move) is = settled_move v w move (settled_run u v r is)

-- what is recovered where all that is committed is acknowledged
pub right_exact : (s : Store) (i : Image) (acknowledged : ℕ) → Holds' s → acknowledged ≡ (committed s).number → (right : IsRight s i acknowledged) → (recovered right.reading).db ≡ committed s
right_exact s i a g e right =
    let n : (recovered right.reading).db.number ≡ (committed s).number = (let low = right.has_all in let high = right.not_more in omega arith) in
    right.db ∙ (ap (state_at s.origin s.history) n ∙ state_now s.origin s.history g.history)

pub all_committed : PrintsAgain → ReadingLaw → CommittedLaw
all_committed printed once p was opening s d r k reading read =
    let w : World = At s d in
    let good = followed_world w (good_run printed (opened_world opening p) w r (good_opened printed opening p was)) in
    let right : IsRight s.store (left_by w k) d.acknowledged = cut_right s.store good.0 d good.1 k in
    let exact : (recovered right.reading).db ≡ committed s.store = right_exact s.store (left_by w k) d.acknowledged good.1.sound.good (settled_run (opened_world opening p) w r refl) right in
    subst (λ (x : Reading). (recovered x).db ≡ committed s.store) (once (left_by w k) right.reading reading right.is_read read) exact
