-- A checkpoint can always be made; and the steps of a run of the machine are moves, each with a flush of its own.
use Rattle.std.specs.Prelude.{◌≡◌, ℕ, Bool, true, false, cond, List, [], ◌∷◌, ◌++◌, Option, Some, None}
use mathlib.Core.Path.{refl, sym, ap, subst, ◌∙◌}
use mathlib.Core.Logic.{inl, inr}
use Rattle.std.proofs.lemmas.Bool.{false≢true}
use Rattle.std.proofs.lemmas.Option.{none-some}
use Rattle.table_laws.proofs.Tables.{by_bool}
use Rattle.txn_machine.specs.Acts as act
use Rattle.txn_machine.specs.Acts.{Act}
use Rattle.txn_machine.specs.Answers.{Answer}
use Rattle.txn_machine.specs.Store.{Store, committed, Effect, does}
use Rattle.txn_machine.specs.Store as stores
use Rattle.txn_machine.specs.Ghosts.{the_views}
use Rattle.txn_machine.specs.Records.{Record}
use Rattle.txn_machine.specs.Log.{Log, Opening, logs, record_of}
use Rattle.txn_machine.specs.State.{State, is_fault}
use Rattle.txn_machine.specs.Steps as machine
use Rattle.txn_machine.specs.Steps.{Step, Does, Did}
use Rattle.txn_machine.specs.May.{May}
use Rattle.txn_machine.specs.Laws.{IsOpened}
use Rattle.txn_log.specs.Replay.{Deed, Event, Kept, Ghost, Clean, Undo, Commit, Abort, Defined, Pages, Stored, spares, keep_where, replay, on_pages}
use Rattle.txn_log.specs.Fitting.{CarriedBelow, DoNumbersFall, AreBelow, AllFit}
use Rattle.txn_log.specs.Moments.{Txn, txn_at, AreCarried, Disk, with_record, World, At, Amid, Halted, Keeps, Writes, begins, acts, ends, flushes, acknowledges, flushed_all, told, Run, here, then_move, opened_world}
use Rattle.txn_log.proofs.Memory.{Memory}
use Rattle.txn_log.proofs.Finding.{keep_true, keep_false}
use Rattle.txn_log.proofs.Following.{PrintsAgain}
use Rattle.txn_log.proofs.Happening.{IsFollowed, IsGoodWorld, good_run, good_opened}
use Rattle.txn_log.proofs.Tying.{replay_of}

-- ---- what a checkpoint carries

below_kept : (f : ℕ → ℕ → Bool) (n : ℕ) (xs : List Deed) → CarriedBelow n xs → CarriedBelow n (keep_where f xs)
below_kept f n [] h = tt
below_kept f n (x ∷ xs) h = by_bool (f x.transaction x.number)
    (λ b. subst (CarriedBelow n) (sym (keep_true f x xs b)) (h.0, below_kept f n xs h.1))
    (λ b. subst (CarriedBelow n) (sym (keep_false f x xs b)) (below_kept f n xs h.1))

falls_kept : (f : ℕ → ℕ → Bool) (xs : List Deed) → DoNumbersFall xs → DoNumbersFall (keep_where f xs)
falls_kept f [] h = tt
falls_kept f (x ∷ xs) h = by_bool (f x.transaction x.number)
    (λ b. subst DoNumbersFall (sym (keep_true f x xs b)) (below_kept f x.number xs h.0, falls_kept f xs h.1))
    (λ b. subst DoNumbersFall (sym (keep_false f x xs b)) (falls_kept f xs h.1))

abbrev Falls : Stored → List Event → Type 0
Falls s rs = DoNumbersFall (replay s rs).live × ((n : ℕ) → AreBelow n s.live rs → CarriedBelow n (replay s rs).live)

live_falls : (s : Stored) (rs : List Event) → DoNumbersFall s.live → AllFit s rs → Falls s rs
live_falls s [] h fit = (h, λ n b. b)
live_falls s (Kept x ∷ rs) h fit =
    let rest : Falls s rs = live_falls s rs h fit.2 in
    ((rest.1 x.number fit.1, rest.0), λ n b. (b.0, rest.1 n b.1))
live_falls s (Ghost n p c ∷ rs) h fit = let rest : Falls s rs = live_falls s rs h fit.2 in (rest.0, λ n b. rest.1 n b.1)
live_falls s (Clean n p ∷ rs) h fit = let rest : Falls s rs = live_falls s rs h fit.2 in (rest.0, λ n b. rest.1 n b.1)
live_falls s (Undo n t m ∷ rs) h fit =
    let rest : Falls s rs = live_falls s rs h fit.2 in
    let f : ℕ → ℕ → Bool = spares (Undo n t m) in
    (falls_kept f (replay s rs).live rest.0, λ n b. below_kept f n (replay s rs).live (rest.1 n b.1))
live_falls s (Commit n t k ∷ rs) h fit =
    let rest : Falls s rs = live_falls s rs h fit.2 in
    let f : ℕ → ℕ → Bool = spares (Commit n t k) in
    (falls_kept f (replay s rs).live rest.0, λ n b. below_kept f n (replay s rs).live (rest.1 n b.1))
live_falls s (Abort n t ∷ rs) h fit =
    let rest : Falls s rs = live_falls s rs h fit.2 in
    let f : ℕ → ℕ → Bool = spares (Abort n t) in
    (falls_kept f (replay s rs).live rest.0, λ n b. below_kept f n (replay s rs).live (rest.1 n b.1))
live_falls s (Defined n k o ∷ rs) h fit = let rest : Falls s rs = live_falls s rs h fit.2 in (rest.0, λ n b. rest.1 n b.1)

followed_carries : (s : Store) (l : Log) (d : Disk) → IsFollowed s l d → (xs : List Deed) × AreCarried (txn_at s l) xs × DoNumbersFall xs
followed_carries s l d is =
    let m : Memory = is.memory in
    let same : ◌≡◌ {A = ℕ → Txn} m.txn_of (txn_at s l) = λ x j. is.follows.txns j x in (
      (replay_of m).live,
      subst (λ (f : ℕ → Txn). AreCarried f (replay_of m).live) same is.sound.tied.carried,
      (live_falls (on_pages m.pages m.carried) (m.waiting ++ m.flushed) is.sound.tied.fall is.sound.tied.fits).0,
    )

world_carries : (w : World) → IsGoodWorld w → Writes w → (xs : List Deed) × Keeps w xs × DoNumbersFall xs
world_carries (At s d) is writes = followed_carries s.store s.log d is
world_carries (Amid after i a s l es d) is writes = followed_carries s l d is.0
world_carries (Halted s next d) is writes = absurd writes

pub carries : PrintsAgain → (p : Pages) → IsOpened p.db p.view → (opening : Opening) (w : World) → Run (opened_world opening p) w → Writes w → (xs : List Deed) × Keeps w xs × DoNumbersFall xs
carries printed p was opening w r writes = world_carries w (good_run printed (opened_world opening p) w r (good_opened printed opening p was)) writes

-- ---- runs

pub run_both : (u v w : World) → Run u v → Run v w → Run u w
run_both u v w r (here x) = r
run_both u v w r (then_move a b c s m) = then_move u b w (run_both u v b r s) m

-- the disk has as much, but for what waits
pub record SameDisk (d e : Disk) : Type 0 where
  pub pages : e.pages ≡ d.pages
  pub carried : e.carried ≡ d.carried
  pub flushed : e.flushed ≡ d.flushed
  pub acknowledged : e.acknowledged ≡ d.acknowledged

same_both : (d e f : Disk) → SameDisk d e → SameDisk e f → SameDisk d f
same_both d e f h k = record { pages = k.pages ∙ h.pages; carried = k.carried ∙ h.carried; flushed = k.flushed ∙ h.flushed; acknowledged = k.acknowledged ∙ h.acknowledged }

same_record : (r : Option Record) (n : ℕ) (d : Disk) → SameDisk d (with_record r n d)
same_record None n d = record { pages = refl; carried = refl; flushed = refl; acknowledged = refl }
same_record (Some r) n d = record { pages = refl; carried = refl; flushed = refl; acknowledged = refl }

-- all effects of a step are done, and what they append waits
record AllDone (after : State) (i : ℕ) (a : Act) (s : Store) (l : Log) (es : List Effect) (d : Disk) : Type 0 where
  store : Store
  log : Log
  disk : Disk
  run : Run (Amid after i a s l es d) (Amid after i a store log [] disk)
  same : SameDisk d disk
  store_is : store ≡ stores.run the_views s i es

effects_go : (after : State) (i : ℕ) (a : Act) (s : Store) (l : Log) (es : List Effect) (d : Disk) → AllDone after i a s l es d
effects_go after i a s l [] d = record {
  store = s;
  log = l;
  disk = d;
  run = here (Amid after i a s l [] d);
  same = record { pages = refl; carried = refl; flushed = refl; acknowledged = refl };
  store_is = refl;
}
effects_go after i a s l (e ∷ es) d =
    let next : Disk = with_record (record_of s i a l e) l.next d in
    let w : World = Amid after i a (does the_views s i e) (logs s i a e l) es next in
    let u : World = Amid after i a s l (e ∷ es) d in
    let rest : AllDone after i a (does the_views s i e) (logs s i a e l) es next = effects_go after i a (does the_views s i e) (logs s i a e l) es next in record {
      store = rest.store;
      log = rest.log;
      disk = rest.disk;
      run = run_both u w (Amid after i a rest.store rest.log [] rest.disk) (then_move u u w (here u) (acts after i a s l e es d)) rest.run;
      same = same_both d next rest.disk (same_record (record_of s i a l e) l.next d) rest.same;
      store_is = rest.store_is;
    }

-- within a step, before what it appended is flushed
pub record GoesIn (s : State) (d : Disk) (i : ℕ) (a : Act) (after : State) : Type 0 where
  pub store : Store
  pub log : Log
  pub disk : Disk
  pub run : Run (At s d) (Amid after i a store log [] disk)
  pub same : SameDisk d disk
  pub store_is : store ≡ after.store

does_in : (s : State) (d : Disk) (i : ℕ) (a : Act) (said : Answer) (after : State) → May s i a → Does s i a said after → is_fault said ≡ false → GoesIn s d i a after
does_in s d i a said after may does f =
    let w : World = Amid after i a s.store s.log does.effects d in
    let all : AllDone after i a s.store s.log does.effects d = effects_go after i a s.store s.log does.effects d in record {
      store = all.store;
      log = all.log;
      disk = all.disk;
      run = run_both (At s d) w (Amid after i a all.store all.log [] all.disk) (then_move (At s d) (At s d) w (here (At s d)) (begins s d i a said after may does f)) all.run;
      same = all.same;
      store_is = all.store_is ∙ sym (ap (λ (x : State). x.store) does.left);
    }

-- the step of an engine that is not stopped
pub step_in : (s : State) (d : Disk) (i : ℕ) (a : Act) (said : Answer) (after : State) → s.stop ≡ None → Step s i a said after → is_fault said ≡ false → GoesIn s d i a after
step_in s d i a said after runs h f = elim h.does [
  | inl does ↦ does_in s d i a said after h.may does f
  | inr t ↦ absurd (none-some t.stop (sym runs ∙ t.stopped))
]

-- what is stored is flushed and acknowledged
abbrev pub settled : Store → Disk → Disk
settled s d = record (flushed_all d) { acknowledged = (committed s).number }

abbrev pub is_saving : Act → Bool
is_saving act.Checkpoint = true
is_saving _ = false

-- a step that is no checkpoint ends
pub ends_go : (after : State) (i : ℕ) (a : Act) (s : Store) (l : Log) (d : Disk) → is_saving a ≡ false → Run (Amid after i a s l [] d) (At after (settled s d))
ends_go after i a s l d other =
    let w : World = Amid after i a s l [] d in
    let f : World = Amid after i a s l [] (flushed_all d) in
    let g : World = Amid after i a s l [] (settled s d) in
    then_move w g (At after (settled s d)) (then_move w f g (then_move w w f (here w) (flushes w tt)) (acknowledges f refl tt))
    (ends after i a s l (settled s d) (record { acknowledged = refl; published = λ e. absurd (false≢true (sym other ∙ ap is_saving e)) }))

-- and what is committed is acknowledged
abbrev pub Goes : World → State → Type 0
Goes w after = (e : Disk) × Run w (At after e) × (e.acknowledged ≡ (committed after.store).number)

step_goes : (s : State) (d : Did) (after : State) (disk : Disk) → disk.acknowledged ≡ (committed s.store).number → Step s d.session d.act d.said after → is_fault d.said ≡ false → is_saving d.act ≡ false → Goes (At s disk) after
step_goes s d after disk had h f other = elim h.does [
  | inl does ↦
      let in_it : GoesIn s disk d.session d.act after = does_in s disk d.session d.act d.said after h.may does f in (
        settled in_it.store in_it.disk,
        run_both (At s disk) (Amid after d.session d.act in_it.store in_it.log [] in_it.disk) (At after (settled in_it.store in_it.disk)) in_it.run
            (ends_go after d.session d.act in_it.store in_it.log in_it.disk other),
        ap (λ (x : Store). (committed x).number) in_it.store_is,
      )
  | inr t ↦ (
    disk,
    then_move (At s disk) (At s disk) (At after disk) (here (At s disk)) (told s disk d.session d.said after t),
    had ∙ sym (ap (λ (x : State). (committed x.store).number) t.left),
  )
]

-- none is answered by a fault, and none is a checkpoint
abbrev pub AreOrdinary : List Did → Type 0
AreOrdinary [] = Unit {0}
AreOrdinary (d ∷ ds) = (is_fault d.said ≡ false) × (is_saving d.act ≡ false) × AreOrdinary ds

-- as a test
abbrev pub are_ordinary : List Did → Bool
are_ordinary [] = true
are_ordinary (d ∷ ds) = cond (is_fault d.said) false (cond (is_saving d.act) false (are_ordinary ds))

-- where a test comes first
tests_first : (b c : Bool) → cond b false c ≡ true → (b ≡ false) × (c ≡ true)
tests_first true c e = absurd (cc)
tests_first false c e = (refl, e)

pub ordinary : (ds : List Did) → are_ordinary ds ≡ true → AreOrdinary ds
ordinary [] h = tt
ordinary (d ∷ ds) h =
    let faultless = tests_first (is_fault d.said) (cond (is_saving d.act) false (are_ordinary ds)) h in
    let other = tests_first (is_saving d.act) (are_ordinary ds) faultless.1 in
    (faultless.0, other.0, ordinary ds other.1)

-- a run of such steps
pub run_goes : (s : State) (ds : List Did) (after : State) (disk : Disk) → disk.acknowledged ≡ (committed s.store).number → machine.Run s ds after → AreOrdinary ds → Goes (At s disk) after
run_goes s [] after disk had r f = (
  disk,
  subst (λ (x : State). Run (At s disk) (At x disk)) (sym r) (here (At s disk)),
  had ∙ ap (λ (x : State). (committed x.store).number) (sym r),
)
run_goes s (d ∷ ds) after disk had r f =
    let first : Goes (At s disk) r.0 = step_goes s d r.0 disk had r.1 f.0 f.1 in
    let rest : Goes (At r.0 first.0) after = run_goes r.0 ds after first.0 first.2 r.2 f.2 in (
      rest.0,
      run_both (At s disk) (At r.0 first.0) (At after rest.0) first.1 rest.1,
      rest.2,
    )
