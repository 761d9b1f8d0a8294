-- Over every run the bytes of data stay within the limit, and so an image of all records is refused for nothing.
use Rattle.std.specs.Prelude.{◌≡◌, ℕ, Option, List, [], ◌∷◌, ◌++◌, map}
use Rattle.std.specs.List.{sum}
use mathlib.Core.Path.{refl, sym, ap, subst, ◌∙◌}
use mathlib.Core.Logic.{inl, inr}
use Rattle.std.proofs.Common.{arith, append-nil}
use Rattle.iv_meaning.specs.Database.{Database}
use Rattle.txn_machine.specs.Stored.{ViewRows}
use Rattle.txn_machine.specs.Log.{Opening, Within, definition_entries}
use Rattle.txn_machine.specs.Store.{opened}
use Rattle.txn_machine.specs.State.{State, opened_state}
use Rattle.txn_machine.specs.Steps.{Did, Step, Run, texts_of, used_data}
use Rattle.txn_machine.specs.Laws.{IsOpened, IsReached}
use Rattle.txn_machine.proofs.LogRoom.{within_less}
use Rattle.txn_machine.proofs.LogSums.{sum_none}
use Rattle.txn_machine.proofs.Moving.{may_of}
use Rattle.txn_machine.proofs.Reached.{reached}
use Rattle.txn_machine.proofs.Shapes.{stored_row_law}
use Rattle.txn_log.specs.Replay.{Pages, recovered}
use Rattle.txn_log.specs.Laws.{ReadingLaw}
use Rattle.txn_log.specs.Moments as moments
use Rattle.txn_log.specs.Moments.{Disk, World, At, Amid, Halted, Happens, begins, acts, ends, flushes, acknowledges, publishes, fails_commit, fails_define, fails_before, fails_after, told, told_halted, here, then_move, with_disk, opened_world, left_by, IsRight}
use Rattle.txn_log.specs.Refused.{data_left}
use Rattle.txn_log.specs.Room.{OpensWithin, OpensWithinLaw, DataLimitLaw, WithinLaw}
use Rattle.txn_log.proofs.Following.{PrintsAgain}
use Rattle.txn_log.proofs.Happening.{IsGoodWorld, good_run, good_opened, crash}
use Rattle.txn_log.proofs.Limiting.{IsAmple, ample_does}
use Rattle.txn_log.proofs.Refusing.{right_fine}
use Rattle.txn_log.proofs.Rooming.{data_room}

-- one step more
one_more : (s : State) (ds : List Did) (middle : State) (d : Did) (after : State) → Run s ds middle → Step middle d.session d.act d.said after → Run s (ds ++ d ∷ []) after
one_more s [] middle d after r step = (after, subst (λ x. Step x d.session d.act d.said after) r step, refl)
one_more s (e ∷ ds) middle d after r step = (r.0, r.1, one_more r.0 ds middle d after r.2 step)

module _ (db : Database) (view : ViewRows) (opening : Opening) (was : IsOpened db view) where
  abbrev first : State
  first = opened_state opening (opened db view)

  abbrev IsAfter : State → List Did → Type 0
  IsAfter s ds = Run first ds s

  reaches : (s : State) (ds : List Did) → IsAfter s ds → IsReached s
  reaches s ds r = record { db = db; view = view; opening = opening; was_opened = was; steps = ds; run = r }

  ample_step : (s : State) (before : List Did) → IsAfter s before → (d : Did) (after : State) → Step s d.session d.act d.said after → IsAmple s → IsAmple after
  ample_step s before r d after step h = elim step.does [
    | inl x ↦ ample_does s d.session d.act d.said after (reached s (reaches s before r)) (stored_row_law s (reaches s before r)) (may_of s d.session d.act x.runs step.may.1) x h
    | inr x ↦ subst IsAmple (sym x.left) h
  ]

  ample_run : (s : State) (before : List Did) → IsAfter s before → (ds : List Did) (after : State) → Run s ds after → IsAmple s → IsAmple after
  ample_run s before r [] after run h = subst IsAmple (sym run) h
  ample_run s before r (d ∷ ds) after run h = ample_run run.0 (before ++ d ∷ []) (one_more first before s d run.0 r run.1) ds after run.2 (ample_step s before r d run.0 run.1 h)

  same_opening : (s : State) (ds : List Did) (after : State) → Run s ds after → after.opening ≡ s.opening
  same_opening s [] after run = ap (λ (x : State). x.opening) run
  same_opening s (d ∷ ds) after run = same_opening run.0 ds after run.2 ∙ one run.1
    where
      one : Step s d.session d.act d.said run.0 → run.0.opening ≡ s.opening
      one step = elim step.does [ inl x ↦ ap (λ (y : State). y.opening) x.left | inr x ↦ ap (λ (y : State). y.opening) x.left ]

  pub stays_within : Within opening.data_limit (used_data first) → (s : State) (ds : List Did) → IsAfter s ds → Within opening.data_limit (used_data s)
  stays_within within s ds r = subst (λ (x : Opening). Within x.data_limit (used_data s)) (same_opening first ds s r)
      (ample_run first [] refl ds s r (record { there = λ j js. tt; fits = within })).fits

pub data_limit : DataLimitLaw
data_limit s r within = stays_within r.db r.view r.opening r.was_opened within s r.steps r.run

-- ---- with the log

-- between two steps, and after the step that is on its way
abbrev pub IsAmpleWorld : Opening → World → Type 0
IsAmpleWorld opening (At s d) = IsAmple s × (s.opening ≡ opening)
IsAmpleWorld opening (Amid after i a s l es d) = IsAmple after × (after.opening ≡ opening)
IsAmpleWorld opening (Halted s next d) = Unit {0}

same_world : (opening : Opening) (w : World) (d : Disk) → IsAmpleWorld opening w → IsAmpleWorld opening (with_disk w d)
same_world opening (At s e) d h = h
same_world opening (Amid after i a s l es e) d h = h
same_world opening (Halted s next e) d h = h

pub ample_move : (opening : Opening) (v w : World) → Happens v w → IsGoodWorld v → IsAmpleWorld opening v → IsAmpleWorld opening w
ample_move opening v w (begins s disk i a said after may d f) is h =
    (ample_does s i a said after is.sound.good is.sound.shape (may_of s i a d.runs may.1) d h.0, ap (λ (x : State). x.opening) d.left ∙ h.1)
ample_move opening v w (acts after i a s l e es disk) is h = h
ample_move opening v w (ends after i a s l disk done) is h = h
ample_move opening v w (flushes u writes) is h = same_world opening u _ h
ample_move opening v w (acknowledges u none writes) is h = same_world opening u _ h
ample_move opening v w (publishes u xs keeps fall) is h = same_world opening u _ h
ample_move opening v w (fails_commit s disk i stopped may d) is h = tt
ample_move opening v w (fails_define s disk i statement stopped may d e same) is h = tt
ample_move opening v w (fails_before s disk i stopped may d) is h = tt
ample_move opening v w (fails_after s disk i stopped may d xs are fall) is h = tt
ample_move opening v w (told s disk i said after t) is h = subst (λ (x : State). IsAmple x × (x.opening ≡ opening)) (sym t.left) h
ample_move opening v w (told_halted s next disk i said after t) is h = tt

ample_world : PrintsAgain → (opening : Opening) (u w : World) → moments.Run u w → IsGoodWorld u → IsAmpleWorld opening u → IsAmpleWorld opening w
ample_world printed opening u w (here x) is h = h
ample_world printed opening u w (then_move a v b r move) is h = ample_move opening v w move (good_run printed u v r is) (ample_world printed opening u v r is h)

pub opened_world_ample : (p : Pages) (opening : Opening) → OpensWithin opening p → IsAmpleWorld opening (opened_world opening p)
opened_world_ample p opening within = (record { there = λ j js. tt; fits = within }, refl)

-- the bytes of data between two steps
pub within_now : PrintsAgain → (p : Pages) → IsOpened p.db p.view → (opening : Opening) → OpensWithin opening p → (s : State) (d : Disk) → moments.Run (opened_world opening p) (At s d) → Within opening.data_limit (used_data s)
within_now printed p was opening within s d run =
    let h = ample_world printed opening (opened_world opening p) (At s d) run (good_opened printed opening p was) (opened_world_ample p opening within) in
    subst (λ (x : Opening). Within x.data_limit (used_data s)) h.1 h.0.fits

pub within_fine : PrintsAgain → ReadingLaw → WithinLaw
within_fine printed once p was opening opens s d run i placed few many limits same =
    let right : IsRight s.store (left_by (At s d) 0) d.acknowledged = crash printed p was opening (At s d) run 0 in
    let room = data_room printed once p was opening s d run right.reading right.is_read (texts_of s) in
    let within : Within i.data_limit (used_data s) = subst (λ (x : Option ℕ). Within x (used_data s)) (sym limits) (within_now printed p was opening opens s d run) in
    right_fine s.store (left_by (At s d) 0) d.acknowledged right i placed (within_less i.data_limit (used_data s) (data_left i (recovered right.reading)) within (omega (arith, room, same))) few many

-- ---- what an image leaves

pub opens_within : OpensWithinLaw
opens_within i f opening limits texts =
    let p : Pages = recovered f.reading in
    let s : State = opened_state opening (opened p.db p.view) in
    let none = sum_none 64 (λ j. 0) (λ j lo hi. refl) in
    let same = ap (λ (x : List (List ℕ)). sum (map definition_entries x)) (append-nil opening.definitions) in
    within_less opening.data_limit (data_left i p) (used_data s) (subst (λ (x : Option ℕ). Within x (data_left i p)) (sym limits) f.sound.within) (omega (arith, none, same, texts))
