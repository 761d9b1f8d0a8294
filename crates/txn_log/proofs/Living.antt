-- Openings one after another, and what a stop leaves.
use Rattle.std.specs.Prelude.{◌≡◌, ◌⊎◌, ℕ, ◌+◌, true, List, [], ◌∷◌, ◌++◌}
use mathlib.Core.Path.{refl, sym, ap, subst, ◌∙◌}
use mathlib.Core.Logic.{inl, inr}
use Rattle.iv_types.specs.declared.lock.GroupDelta.{GroupDelta}
use Rattle.iv_meaning.specs.Database.{Database}
use Rattle.iv_meaning.specs.Statement.{defines}
use Rattle.iv_meaning.specs.History.{Entry, fold}
use Rattle.txn_machine.specs.Keeping.{KeptStep, Put, Pay}
use Rattle.txn_machine.specs.Store.{Store, committed, now, entry_changes, paid_first, undone, Effect, Pays, Undoes, Commits, Defines, does, run}
use Rattle.txn_machine.specs.Ghosts.{the_views}
use Rattle.txn_machine.specs.Acts as act
use Rattle.txn_machine.specs.Acts.{Act}
use Rattle.txn_machine.specs.Answers as answer
use Rattle.iv_types.specs.declared.refusal.EngineRefusal.TheVariants as refusal
use Rattle.iv_types.specs.Syntax.{StatementTree}
use Rattle.iv_meaning.specs.Schema.{Object}
use Rattle.txn_machine.specs.State.{State, Stop, Seat, counted, seat_after, told_of_stop}
use Rattle.txn_machine.specs.Steps.{Does, Makes, waits_after, definitions_after, log_after}
use Rattle.txn_machine.proofs.Basics.{one_same, one_other}
use Rattle.txn_log.proofs.Finding.{by_number}
use Rattle.txn_machine.specs.Laws.{IsOpened}
use Rattle.txn_log.specs.Replay.{Reading, recovered}
use Rattle.txn_log.specs.Laws.{CrashLaw, ReadingLaw, LivesLaw, WasMaking, StopLaw}
use Rattle.txn_log.specs.Moments.{Disk, World, At, Amid, Halted, store_of, disk_of, with_disk, Happens, begins, acts, ends, flushes, acknowledges, publishes, fails_commit, fails_define, fails_before, fails_after, told, told_halted, Run, here, then_move, opened_world, left_by, IsRight, entries_to, formatted, crashed}

-- ---- the origin

origin_paid : (s : Store) (i : ℕ) (owed : List GroupDelta) → (paid_first s i (now s i) owed).origin ≡ s.origin
origin_paid s i [] = refl
origin_paid s i (d ∷ ds) = refl

origin_undone : (s : Store) (i : ℕ) (ks : List KeptStep) → (undone s i (now s i) ks).origin ≡ s.origin
origin_undone s i [] = refl
origin_undone s i (Put c ds ∷ ks) = refl
origin_undone s i (Pay d ∷ ks) = refl

origin_does : (s : Store) (i : ℕ) (e : Effect) → (does the_views s i e).origin ≡ s.origin
origin_does s i Pays = origin_paid s i (now s i).owed
origin_does s i Undoes = origin_undone s i (now s i).kept
origin_does s i e = refl

pub origin_all : (s : Store) (i : ℕ) (es : List Effect) → (run the_views s i es).origin ≡ s.origin
origin_all s i [] = refl
origin_all s i (e ∷ es) = origin_all (does the_views s i e) i es ∙ origin_does s i e

abbrev OriginIs : Database → World → Type 0
OriginIs db (At s d) = s.store.origin ≡ db
OriginIs db (Amid after i a s l es d) = (s.origin ≡ db) × (after.store.origin ≡ db)
OriginIs db (Halted s next d) = next.origin ≡ db

origin_disk : (db : Database) (w : World) (d : Disk) → OriginIs db w → OriginIs db (with_disk w d)
origin_disk db (At s e) d is = is
origin_disk db (Amid after i a s l es e) d is = is
origin_disk db (Halted s next e) d is = is

origin_move : (db : Database) (v w : World) → Happens v w → OriginIs db v → OriginIs db w
origin_move db v w (begins s disk i a said after may d f) is = (is, ap (λ (x : State). x.store.origin) d.left ∙ (origin_all s.store i d.effects ∙ is))
origin_move db v w (acts after i a s l e es disk) is = (origin_does s i e ∙ is.0, is.1)
origin_move db v w (ends after i a s l disk done) is = is.1
origin_move db v w (flushes u writes) is = origin_disk db u _ is
origin_move db v w (acknowledges u none writes) is = origin_disk db u _ is
origin_move db v w (publishes u xs keeps fall) is = origin_disk db u _ is
origin_move db v w (fails_commit s disk i stopped may d) is = is
origin_move db v w (fails_define s disk i statement stopped may d e same) is = origin_does s.store i e ∙ is
origin_move db v w (fails_before s disk i stopped may d) is = is
origin_move db v w (fails_after s disk i stopped may d xs are fall) is = is
origin_move db v w (told s disk i said after t) is = ap (λ (x : State). x.store.origin) t.left ∙ is
origin_move db v w (told_halted s next disk i said after t) is = is

origin_run : (db : Database) (u w : World) → Run u w → OriginIs db u → OriginIs db w
origin_run db u w (here x) is = is
origin_run db u w (then_move a v b r move) is = origin_move db v w move (origin_run db u v r is)

origin_of : (db : Database) (w : World) → OriginIs db w → (store_of w).origin ≡ db
origin_of db (At s d) is = is
origin_of db (Amid after i a s l es d) is = is.0
origin_of db (Halted s next d) is = is

-- ---- lives

pub fold_both : (es fs : List Entry) (db : Database) → fold (es ++ fs) db ≡ fold fs (fold es db)
fold_both [] fs db = refl
fold_both (e ∷ es) fs db = fold_both es fs (fold (e ∷ []) db)

module _ (crash : CrashLaw) (once : ReadingLaw) where
  pub lives : LivesLaw
  lives first was p es formatted = (was, refl)
  lives first was q fs (crashed p es life opening w r k reading read) =
      let before : IsOpened p.db p.view × (p.db ≡ fold es first.db) = lives first was p es life in
      let right : IsRight (store_of w) (left_by w k) (disk_of w).acknowledged = crash p before.0 opening w r k in
      let same : right.reading ≡ reading = once (left_by w k) right.reading reading right.is_read read in
      let later : List Entry = entries_to (recovered reading).db.number (store_of w).history in
      let origin : (store_of w).origin ≡ p.db = origin_of p.db w (origin_run p.db (opened_world opening p) w r refl) in
      let db_is : (recovered reading).db ≡ fold later (store_of w).origin = subst (λ (x : Reading). (recovered x).db ≡ fold (entries_to (recovered x).db.number (store_of w).history) (store_of w).origin) same right.db in (
        subst (λ (x : Reading). IsOpened (recovered x).db (recovered x).view) same right.opens,
        db_is ∙ (ap (λ (db : Database). fold later db) (origin ∙ before.1) ∙ sym (fold_both es later first.db)),
      )

-- ---- a stop

-- its store is this one, or lacks the entry that its last step was making
abbrev IsStopped : State → Store → Type 0
IsStopped s next = (next.origin ≡ s.store.origin)
    × ((next.history ≡ s.store.history) ⊎ ((stop : Stop) × (e : Entry) × WasMaking s stop e × (next.history ≡ s.store.history ++ e ∷ [])))

abbrev IsStop : World → Type 0
IsStop (At s d) = Unit {0}
IsStop (Amid after i a s l es d) = Unit {0}
IsStop (Halted s next d) = IsStopped s next

stop_disk : (w : World) (d : Disk) → IsStop w → IsStop (with_disk w d)
stop_disk (At s e) d is = tt
stop_disk (Amid after i a s l es e) d is = tt
stop_disk (Halted s next e) d is = is

-- a step that a fault answers
abbrev faulted : State → ℕ → Act → List Effect → State
faulted s i a es =
    counted s i a (answer.Refused refusal.DiskFault) (run the_views s.store i es) (waits_after s.store i a (answer.Refused refusal.DiskFault)) (definitions_after s.definitions a (answer.Refused refusal.DiskFault))
    (log_after s i a (answer.Refused refusal.DiskFault) es)

-- has no effects
faulted_is : (s : State) (i : ℕ) (a : Act) (stopped : State) (d : Does s i a (answer.Refused refusal.DiskFault) stopped) → d.effects ≡ [] → stopped ≡ faulted s i a []
faulted_is s i a stopped d none = d.left ∙ ap (faulted s i a) none

its_seat : (s : State) (i : ℕ) (a : Act) → ((faulted s i a []).seat_of i).last ≡ s.steps + 1
its_seat s i a = ap (λ (x : Seat). x.last) (one_same s.seat_of i (seat_after (s.seat_of i) (s.steps + 1) (answer.Refused refusal.DiskFault)) i refl)

stop_commit : (s : State) (i : ℕ) → IsStopped (faulted s i act.Commit []) (does the_views s.store i Commits)
stop_commit s i = (
  refl,
  inr (
    record { step = s.steps + 1; act = act.Commit },
    record { number = (committed s.store).number + 1; session = i; kept = entry_changes (now s.store i).kept },
    record { stops = refl; session = its_seat s i act.Commit; number = refl; kept = refl },
    refl,
  ),
)

stop_define : (s : State) (i : ℕ) (statement : StatementTree) (o : Object) → Makes s.store statement o → IsStopped (faulted s i (act.Schema statement) []) (does the_views s.store i (Defines o))
stop_define s i statement o makes = (
  refl,
  inr (
    record { step = s.steps + 1; act = act.Schema statement },
    record { number = (committed s.store).number + 1; session = i; kept = defines o ∷ [] },
    record { stops = refl; session = its_seat s i (act.Schema statement); number = refl; kept = (o, makes, refl) },
    refl,
  ),
)

-- who is told of it changes nothing of it
told_last : (s : State) (i j : ℕ) → ((told_of_stop s i).seat_of j).last ≡ (s.seat_of j).last
told_last s i j = by_number j i
    (λ e. ap (λ (x : Seat). x.last) (one_same s.seat_of i (record (s.seat_of i) { told_of_stop = true }) j e) ∙ ap (λ n. (s.seat_of n).last) (sym e))
    (λ n. ap (λ (x : Seat). x.last) (one_other s.seat_of i (record (s.seat_of i) { told_of_stop = true }) j n))

told_stopped : (s : State) (i : ℕ) (next : Store) → IsStopped s next → IsStopped (told_of_stop s i) next
told_stopped s i next (origin, inl same) = (origin, inl same)
told_stopped s i next (origin, inr more) = (
  origin,
  inr (
    more.0,
    more.1,
    record { stops = more.2.stops; session = told_last s i more.1.session ∙ more.2.session; number = more.2.number; kept = more.2.kept },
    more.3,
  ),
)

stop_move : (v w : World) → Happens v w → IsStop v → IsStop w
stop_move v w (begins s disk i a said after may d f) is = tt
stop_move v w (acts after i a s l e es disk) is = tt
stop_move v w (ends after i a s l disk done) is = tt
stop_move v w (flushes u writes) is = stop_disk u _ is
stop_move v w (acknowledges u none writes) is = stop_disk u _ is
stop_move v w (publishes u xs keeps fall) is = stop_disk u _ is
stop_move v w (fails_commit s disk i stopped may d) is =
    subst (λ (x : State). IsStopped x (does the_views s.store i Commits)) (sym (faulted_is s i act.Commit stopped d d.says.0)) (stop_commit s i)
stop_move v w (fails_define s disk i statement stopped may d e same) is =
    subst (λ (x : State). IsStopped x (does the_views s.store i e)) (sym (faulted_is s i (act.Schema statement) stopped d d.says.0))
    (subst (λ (x : Effect). IsStopped (faulted s i (act.Schema statement) []) (does the_views s.store i x)) (sym same) (stop_define s i statement d.says.3.object d.says.3.makes))
stop_move v w (fails_before s disk i stopped may d) is =
    subst (λ (x : State). IsStopped x s.store) (sym (faulted_is s i act.Checkpoint stopped d d.says)) (refl, inl refl)
stop_move v w (fails_after s disk i stopped may d xs are fall) is =
    subst (λ (x : State). IsStopped x s.store) (sym (faulted_is s i act.Checkpoint stopped d d.says)) (refl, inl refl)
stop_move v w (told s disk i said after t) is = tt
stop_move v w (told_halted s next disk i said after t) is = subst (λ (x : State). IsStopped x next) (sym t.left) (told_stopped s i next is)

stop_run : (u w : World) → Run u w → IsStop u → IsStop w
stop_run u w (here x) is = is
stop_run u w (then_move a v b r move) is = stop_move v w move (stop_run u v r is)

pub stops : StopLaw
stops p opening s next d r = stop_run (opened_world opening p) (Halted s next d) r tt
