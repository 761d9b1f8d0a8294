-- What is acknowledged on the way of a run, and what a crash within one step recovers.
use Rattle.std.specs.Prelude.{◌≡◌, ◌⊎◌, ℕ, ◌+◌, ◌≤◌, List, [], ◌∷◌, ◌++◌, Option, Some, None}
use mathlib.Core.Path.{refl, sym, ap, subst, ◌∙◌}
use mathlib.Core.Logic.{inl, inr}
use Rattle.std.proofs.Common.{arith}
use Rattle.std.proofs.lemmas.Bool.Decides.{leb_tells}
use Rattle.iv_meaning.specs.Schema.{Object}
use Rattle.iv_meaning.specs.Database.{Database}
use Rattle.iv_meaning.specs.History.{Entry, state_at, fold}
use Rattle.txn_machine.specs.Acts.{Act}
use Rattle.txn_machine.specs.Answers.{Answer}
use Rattle.txn_machine.specs.Records.{Record}
use Rattle.txn_machine.specs.Store.{Store, committed, Effect, Commits, Defines, does, run}
use Rattle.txn_machine.specs.Ghosts.{the_views}
use Rattle.txn_machine.specs.Log.{Log, Opening, logs, record_of}
use Rattle.txn_machine.specs.State.{State}
use Rattle.txn_machine.specs.May.{May}
use Rattle.txn_machine.specs.Steps.{Does}
use Rattle.txn_machine.specs.Laws.{IsOpened}
use Rattle.txn_machine.specs.Fresh.{fresh}
use Rattle.txn_machine.proofs.Lengths.{entry_law}
use Rattle.txn_machine.proofs.Looking.{view_laws}
use Rattle.txn_machine.proofs.Runs.{committed_after, defined}
use Rattle.txn_machine.proofs.Moving.{state_now}
use Rattle.txn_machine.proofs.Reached.{Holds'}
use Rattle.txn_log.specs.Replay.{Pages, Reading, recovered}
use Rattle.txn_log.specs.Appended.{IsRead}
use Rattle.txn_log.specs.Moments.{Disk, World, At, Amid, Halted, store_of, disk_of, with_disk, with_record, Happens, begins, acts, ends, flushes, acknowledges, publishes, fails_commit, fails_define, fails_before, fails_after, told, told_halted, Run, here, then_move, opened_world, left_by, IsRight}
use Rattle.txn_log.specs.Laws.{ReadingLaw}
use Rattle.txn_log.specs.Within.{StepCrashLaw, FaultCrashLaw}
use Rattle.txn_log.proofs.Following.{PrintsAgain}
use Rattle.txn_log.proofs.Lifting.{run_both}
use Rattle.txn_log.proofs.Happening.{IsGoodWorld, crash, good_run, good_opened, followed_world}
use Rattle.txn_log.proofs.Running.{Grows, grows}
use Rattle.txn_log.proofs.Living.{origin_all, fold_both}
use Rattle.txn_log.proofs.Settling.{settled_run}

pub disk_with : (w : World) (d : Disk) → disk_of (with_disk w d) ≡ d
disk_with (At s e) d = refl
disk_with (Amid after i a s l es e) d = refl
disk_with (Halted s next e) d = refl

-- ---- what is acknowledged

same_acknowledged : (o : Option Record) (n : ℕ) (d : Disk) → (with_record o n d).acknowledged ≡ d.acknowledged
same_acknowledged None n d = refl
same_acknowledged (Some r) n d = refl

at_most : (m n : ℕ) → n ≡ m → m ≤ n
at_most m n e = omega (arith, e)

module _ (printed : PrintsAgain) (p : Pages) (was : IsOpened p.db p.view) (opening : Opening) where
  had_move : (v w : World) → Run (opened_world opening p) v → Happens v w → (disk_of v).acknowledged ≤ (disk_of w).acknowledged
  had_move v w r (begins s disk i a said after may d f) = omega arith
  had_move v w r (acts after i a s l e es disk) = at_most disk.acknowledged (with_record _ l.next disk).acknowledged (same_acknowledged _ l.next disk)
  had_move v w r (ends after i a s l disk done) = omega arith
  had_move v w r (flushes u writes) = at_most (disk_of u).acknowledged _ (ap (λ (d : Disk). d.acknowledged) (disk_with u _))
  had_move v w r (acknowledges u none writes) =
      let right : IsRight (store_of u) (left_by u 0) (disk_of u).acknowledged = crash printed p was opening u r 0 in
      let e = ap (λ (d : Disk). d.acknowledged) (disk_with u (record (disk_of u) { acknowledged = (committed (store_of u)).number })) in
      omega (arith, right.has_all, right.not_more, e)
  had_move v w r (publishes u xs keeps fall) = at_most (disk_of u).acknowledged _ (ap (λ (d : Disk). d.acknowledged) (disk_with u _))
  had_move v w r (fails_commit s disk i stopped may d) = omega arith
  had_move v w r (fails_define s disk i statement stopped may d e same) = at_most disk.acknowledged (with_record _ s.log.next disk).acknowledged (same_acknowledged _ s.log.next disk)
  had_move v w r (fails_before s disk i stopped may d) = omega arith
  had_move v w r (fails_after s disk i stopped may d xs are fall) = omega arith
  had_move v w r (told s disk i said after t) = omega arith
  had_move v w r (told_halted s next disk i said after t) = omega arith

  pub acknowledged_grows : (v w : World) → Run (opened_world opening p) v → Run v w → (disk_of v).acknowledged ≤ (disk_of w).acknowledged
  acknowledged_grows v w r (here x) = omega arith
  acknowledged_grows v w r (then_move a b c s move) =
      let so_far = acknowledged_grows a b r s in
      let next = had_move b c (run_both (opened_world opening p) a b r s) move in
      omega (arith, so_far, next)

-- ---- one entry more, or none

grows_then : (r s t : Store) → Grows r s → Grows s t → Grows r t
grows_then r s t g h = record {
  states = λ n le. h.states n (let more = g.more in omega (arith, le, more)) ∙ g.states n le;
  more = (let one = g.more in let other = h.more in omega (arith, one, other));
}

grows_all : (s : Store) (i : ℕ) (es : List Effect) → Grows s (run the_views s i es)
grows_all s i [] = record { states = λ n le. refl; more = omega arith }
grows_all s i (e ∷ es) = grows_then s (does the_views s i e) (run the_views (does the_views s i e) i es) (grows s i e) (grows_all (does the_views s i e) i es)

run_split : (s : Store) (i : ℕ) (es fs : List Effect) → run the_views s i (es ++ fs) ≡ run the_views (run the_views s i es) i fs
run_split s i [] fs = refl
run_split s i (e ∷ es) fs = run_split (does the_views s i e) i es fs

store_with : (w : World) (d : Disk) → store_of (with_disk w d) ≡ store_of w
store_with (At s e) d = refl
store_with (Amid after i a s l es e) d = refl
store_with (Halted s next e) d = refl

pub same_grows : (s : Store) → Grows s s
same_grows s = record { states = λ n le. refl; more = omega arith }

disk_grows : (w : World) (d : Disk) → Grows (store_of w) (store_of (with_disk w d))
disk_grows w d = subst (Grows (store_of w)) (sym (store_with w d)) (same_grows (store_of w))

grows_move : (v w : World) → IsGoodWorld v → Happens v w → Grows (store_of v) (store_of w)
grows_move v w is (begins s disk i a said after may d f) = same_grows s.store
grows_move v w is (acts after i a s l e es disk) = grows s i e
grows_move v w is (ends after i a s l disk done) = subst (Grows s) (sym is.3) (same_grows s)
grows_move v w is (flushes u writes) = disk_grows u _
grows_move v w is (acknowledges u none writes) = disk_grows u _
grows_move v w is (publishes u xs keeps fall) = disk_grows u _
grows_move v w is (fails_commit s disk i stopped may d) = grows s.store i Commits
grows_move v w is (fails_define s disk i statement stopped may d e same) = grows s.store i e
grows_move v w is (fails_before s disk i stopped may d) = same_grows s.store
grows_move v w is (fails_after s disk i stopped may d xs are fall) = same_grows s.store
grows_move v w is (told s disk i said after t) = subst (λ (x : State). Grows s.store x.store) (sym t.left) (same_grows s.store)
grows_move v w is (told_halted s next disk i said after t) = same_grows next

pub grows_run : PrintsAgain → (p : Pages) → IsOpened p.db p.view → (opening : Opening) (v w : World) → Run (opened_world opening p) v → Run v w → Grows (store_of v) (store_of w)
grows_run printed p was opening v w r (here x) = same_grows (store_of x)
grows_run printed p was opening v w r (then_move a b c s move) =
    grows_then (store_of a) (store_of b) (store_of c) (grows_run printed p was opening a b r s)
    (grows_move b c (good_run printed (opened_world opening p) b (run_both (opened_world opening p) a b r s) (good_opened printed opening p was)) move)

-- a number that is at least that of one, and at most that of the other, where these are at most one apart
pub one_of_two : (s t : Store) (db : Database) (n : ℕ) → Holds' s → Holds' t → Grows s t → (committed t).number ≤ (committed s).number + 1 → (committed s).number ≤ n → n ≤ (committed t).number
    → db ≡ state_at t.origin t.history n → (db ≡ committed s) ⊎ (db ≡ committed t)
one_of_two s t db n g h grown near low high is = elim (leb_tells n (committed s).number) [
  | inl old ↦
      let least = old.1 in
      let same : n ≡ (committed s).number = omega (arith, low, least) in
      inl (is ∙ (grown.states n least ∙ (ap (state_at s.origin s.history) same ∙ state_now s.origin s.history g.history)))
  | inr new ↦
      let above = new.1 in
      let same : n ≡ (committed t).number = omega (arith, near, high, above) in
      inr (is ∙ (ap (state_at t.origin t.history) same ∙ state_now t.origin t.history h.history))
]

-- a step that is answered adds one entry at most
near_after : (s : State) (i : ℕ) (a : Act) (said : Answer) (after : State) → May s i a → (d : Does s i a said after) → (committed (run the_views s.store i d.effects)).number ≤ (committed s.store).number + 1
near_after s i a said after may d =
    let left : after.store ≡ run the_views s.store i d.effects = ap (λ (x : State). x.store) d.left in
    let t : Store = run the_views s.store i d.effects in
    let number : (h : List Entry) → t.history ≡ h → (committed t).number ≡ (fold h s.store.origin).number =
    λ h e. (λ x. (fold (e x) (origin_all s.store i d.effects x)).number) in
    elim (entry_law s (record { session = i; act = a; said = said }) after (record { may = may; does = inl d })) [
      | inl same ↦ (let e = number s.store.history (ap (λ (x : Store). x.history) (sym left) ∙ same) in omega (arith, e))
      | inr more ↦ (
          let e = number (s.store.history ++ more.0 ∷ []) (ap (λ (x : Store). x.history) (sym left) ∙ more.3) in
          let last = ap (λ (db : Database). db.number) (fold_both s.store.history (more.0 ∷ []) s.store.origin) in
          let is = more.2 in
          omega (arith, e, last, is))
    ]

-- all effects of a step, one after another
acts_all : (after : State) (i : ℕ) (a : Act) (s : Store) (l : Log) (es : List Effect) (d : Disk) → (k : Log) × (e : Disk) × Run (Amid after i a s l es d) (Amid after i a (run the_views s i es) k [] e)
acts_all after i a s l [] d = (l, d, here (Amid after i a s l [] d))
acts_all after i a s l (e ∷ es) d =
    let t : Store = does the_views s i e in
    let m : Log = logs s i a e l in
    let f : Disk = with_record (record_of s i a l e) l.next d in
    let more = acts_all after i a t m es f in (
      more.0,
      more.1,
      run_both (Amid after i a s l (e ∷ es) d) (Amid after i a t m es f) (Amid after i a (run the_views t i es) more.0 [] more.1)
          (then_move (Amid after i a s l (e ∷ es) d) (Amid after i a s l (e ∷ es) d) (Amid after i a t m es f) (here (Amid after i a s l (e ∷ es) d)) (acts after i a s l e es d)) more.2,
    )

-- where a move stops the machine, its store has one entry more at most
abbrev Near : World → World → Type 0
Near (At s d) (Halted stopped next e) = Grows s.store next × ((committed next).number ≤ (committed s.store).number + 1)
Near _ _ = Unit {0}

near_disk : (w : World) (d : Disk) → Near w (with_disk w d)
near_disk (At s e) d = tt
near_disk (Amid after i a s l es e) d = tt
near_disk (Halted s next e) d = tt

near_commits : (s : Store) (i : ℕ) → (committed (does the_views s i Commits)).number ≤ (committed s).number + 1
near_commits s i = (let number = ap (λ (d : Database). d.number) (committed_after the_views fresh view_laws s i) in omega (arith, number))

near_defines : (s : Store) (i : ℕ) (o : Object) → (committed (does the_views s i (Defines o))).number ≤ (committed s).number + 1
near_defines s i o = (let number = ap (λ (d : Database). d.number) (defined the_views fresh view_laws s i o) in omega (arith, number))

near_move : (v w : World) → Happens v w → Near v w
near_move v w (begins s disk i a said after may d f) = tt
near_move v w (acts after i a s l e es disk) = tt
near_move v w (ends after i a s l disk done) = tt
near_move v w (flushes u writes) = near_disk u _
near_move v w (acknowledges u none writes) = near_disk u _
near_move v w (publishes u xs keeps fall) = near_disk u _
near_move v w (fails_commit s disk i stopped may d) = (grows s.store i Commits, near_commits s.store i)
near_move v w (fails_define s disk i statement stopped may d e same) = (
  grows s.store i e,
  subst (λ (x : Effect). (committed (does the_views s.store i x)).number ≤ (committed s.store).number + 1) (sym same) (near_defines s.store i d.says.3.object),
)
near_move v w (fails_before s disk i stopped may d) = (same_grows s.store, omega arith)
near_move v w (fails_after s disk i stopped may d xs are fall) = (same_grows s.store, omega arith)
near_move v w (told s disk i said after t) = tt
near_move v w (told_halted s next disk i said after t) = tt

pub holds_at : PrintsAgain → (p : Pages) → IsOpened p.db p.view → (opening : Opening) (w : World) → Run (opened_world opening p) w → Holds' (store_of w)
holds_at printed p was opening w r = (followed_world w (good_run printed (opened_world opening p) w r (good_opened printed opening p was))).1.sound.good

module _ (printed : PrintsAgain) (once : ReadingLaw) where
  -- what is recovered of an image of a world is between what was acknowledged before it and what is committed
  recovers_one : (p : Pages) (was : IsOpened p.db p.view) (opening : Opening) (s : State) (d : Disk) (w : World) (t : Store) → Run (opened_world opening p) (At s d) → Run (At s d) w → Holds' t
      → Grows s.store t → Grows (store_of w) t → (committed t).number ≤ (committed s.store).number + 1
      → (k : ℕ) (r : Reading) → IsRead (left_by w k) r → ((recovered r).db ≡ committed s.store) ⊎ ((recovered r).db ≡ committed t)
  recovers_one p was opening s d w t before since holds grown more near k r read =
      let right : IsRight (store_of w) (left_by w k) (disk_of w).acknowledged = crash printed p was opening w (run_both (opened_world opening p) (At s d) w before since) k in
      let same : right.reading ≡ r = once (left_by w k) right.reading r right.is_read read in
      let settled : d.acknowledged ≡ (committed s.store).number = settled_run (opened_world opening p) (At s d) before refl in
      let had = acknowledged_grows printed p was opening (At s d) w before since in
      let n : ℕ = (recovered right.reading).db.number in
      let low = right.has_all in
      let high = right.not_more in
      let grew = more.more in
      let db : (recovered right.reading).db ≡ state_at t.origin t.history n = right.db ∙ sym (more.states n high) in
      subst (λ (x : Reading). ((recovered x).db ≡ committed s.store) ⊎ ((recovered x).db ≡ committed t)) same
      (one_of_two s.store t (recovered right.reading).db n (holds_at printed p was opening (At s d) before) holds grown near (omega (arith, settled, had, low)) (omega (arith, high, grew)) db)

  pub step_crash : StepCrashLaw
  step_crash p was opening s d r i a said after may does fine w since within k reading read =
      let first : World = Amid after i a s.store s.log does.effects d in
      let begun : Run (At s d) first = then_move (At s d) (At s d) first (here (At s d)) (begins s d i a said after may does fine) in
      let all = acts_all after i a s.store s.log does.effects d in
      let last : World = Amid after i a (run the_views s.store i does.effects) all.0 [] all.1 in
      let t : Store = run the_views s.store i does.effects in
      let now_is : store_of w ≡ run the_views s.store i within.done = ap store_of within.is in
      let split : run the_views (run the_views s.store i within.done) i within.others ≡ t = sym (ap (run the_views s.store i) within.split ∙ run_split s.store i within.done within.others) in
      let more : Grows (store_of w) t = subst (λ (x : Store). Grows x t) (sym now_is) (subst (Grows (run the_views s.store i within.done)) split (grows_all (run the_views s.store i within.done) i within.others)) in
      recovers_one p was opening s d w t r (run_both (At s d) first w begun since)
      (holds_at printed p was opening last (run_both (opened_world opening p) (At s d) last r (run_both (At s d) first last begun all.2)))
      (grows_all s.store i does.effects) more (near_after s i a said after may does) k reading read

  pub fault_crash : FaultCrashLaw
  fault_crash p was opening s d r stopped next e move k reading read =
      let w : World = Halted stopped next e in
      let since : Run (At s d) w = then_move (At s d) (At s d) w (here (At s d)) move in
      let near : Near (At s d) w = near_move (At s d) w move in
      recovers_one p was opening s d w next r since (holds_at printed p was opening w (run_both (opened_world opening p) (At s d) w r since)) near.0 (same_grows next) near.1 k reading read
