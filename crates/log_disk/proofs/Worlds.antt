-- Worlds on the way of a run: which are stopped, and what was acknowledged.
use Rattle.std.specs.Prelude.{◌≡◌, List}
use mathlib.Core.Path.{refl, ap}
use mathlib.Core.Logic.{inl}
use Rattle.std.proofs.Common.{⊎_elim}
use Rattle.txn_log.specs.Replay.{Deed}
use Rattle.txn_log.specs.Moments.{Disk, World, At, Amid, Halted, Keeps, Writes, store_of, disk_of, Happens, begins, acts, ends, flushes, acknowledges, publishes, fails_commit, fails_define, fails_before, fails_after, told, told_halted, Run, here, then_move}
use Rattle.log_disk.specs.Calls.{AreTwins}

-- it goes on, or a fault of the disk stopped it
pub by_writes : {P : Type 0} (w : World) → (Writes w → P) → ((Writes w → ⊥) → P) → P
by_writes (At s d) f g = f tt
by_writes (Amid after i a s l es d) f g = f tt
by_writes (Halted s next d) f g = g (λ h. h)

pub twin_itself : (w : World) → (Writes w → ⊥) → AreTwins w w
twin_itself (At s d) stopped = stopped tt
twin_itself (Amid after i a s l es d) stopped = stopped tt
twin_itself (Halted s next d) stopped = (refl, inl refl)

pub twin_stopped : (v w : World) → AreTwins v w → Writes v → ⊥
twin_stopped (At s d) w twins writes = twins
twin_stopped (Amid after i a s l es d) w twins writes = twins
twin_stopped (Halted s next d) w twins writes = writes

-- a machine that is stopped stays so
twin_move : (u v w : World) → Happens v w → AreTwins v u → AreTwins w u
twin_move u v w (begins s disk i a said after may d f) twins = absurd twins
twin_move u v w (acts after i a s l e es disk) twins = absurd twins
twin_move u v w (ends after i a s l disk done) twins = absurd twins
twin_move u v w (flushes x writes) twins = absurd (twin_stopped x u twins writes)
twin_move u v w (acknowledges x none writes) twins = absurd (twin_stopped x u twins writes)
twin_move u v w (publishes x xs keeps fall) twins = absurd (never x xs keeps twins)
  where
    never : (x : World) (xs : List Deed) → Keeps x xs → AreTwins x u → ⊥
    never (At s d) xs keeps twins = twins
    never (Amid after i a s l es d) xs keeps twins = twins
    never (Halted s next d) xs keeps twins = keeps
twin_move u v w (fails_commit s disk i stopped may d) twins = absurd twins
twin_move u v w (fails_define s disk i statement stopped may d e same) twins = absurd twins
twin_move u v w (fails_before s disk i stopped may d) twins = absurd twins
twin_move u v w (fails_after s disk i stopped may d xs are fall) twins = absurd twins
twin_move u v w (told s disk i said after t) twins = absurd twins
twin_move u v w (told_halted s next disk i said after t) twins = on u twins
  where
    on : (x : World) → AreTwins (Halted s next disk) x → AreTwins (Halted after next disk) x
    on (At s d) twins = twins
    on (Amid after i a s l es d) twins = twins
    on (Halted s other d) twins = twins

pub twin_run : (u v w : World) → Run v w → AreTwins v u → AreTwins w u
twin_run u v w (here x) twins = twins
twin_run u v w (then_move a b c r move) twins = twin_move u b c move (twin_run u a b r twins)

pub twin_acknowledged : (v w : World) → AreTwins v w → (disk_of w).acknowledged ≡ (disk_of v).acknowledged
twin_acknowledged (At s d) w twins = absurd twins
twin_acknowledged (Amid after i a s l es d) w twins = absurd twins
twin_acknowledged (Halted s next d) (At t e) twins = absurd twins
twin_acknowledged (Halted s next d) (Amid after i a t l es e) twins = absurd twins
twin_acknowledged (Halted s next d) (Halted t other e) twins = ⊎_elim (λ same. ap (λ (x : Disk). x.acknowledged) same) (λ new. ap (λ (x : Disk). x.acknowledged) new.1) twins.1

pub twin_store : (v w : World) → AreTwins v w → store_of w ≡ store_of v
twin_store (At s d) w twins = absurd twins
twin_store (Amid after i a s l es d) w twins = absurd twins
twin_store (Halted s next d) (At t e) twins = absurd twins
twin_store (Halted s next d) (Amid after i a t l es e) twins = absurd twins
twin_store (Halted s next d) (Halted t other e) twins = twins.0
