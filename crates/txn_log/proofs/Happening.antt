-- Over every run of the machine with its log, whatever a crash may leave is right.
use Rattle.std.specs.Prelude.{◌≡◌, ℕ, true, false, List, [], ◌∷◌, ◌++◌, map, drop, None}
use mathlib.Core.Path.{refl, sym, ap, subst, ◌∙◌}
use mathlib.Core.Logic.{inl, inr}
use Rattle.std.proofs.Common.{arith}
use Rattle.std.proofs.lemmas.Bool.{false≢true}
use Rattle.iv_types.specs.declared.refusal.EngineRefusal.TheVariants as refusal
use Rattle.iv_types.specs.Syntax.{StatementTree}
use Rattle.txn_machine.specs.Acts as act
use Rattle.txn_machine.specs.Acts.{Act}
use Rattle.txn_machine.specs.Answers as answer
use Rattle.txn_machine.specs.Answers.{Answer}
use Rattle.txn_machine.specs.Fresh.{fresh}
use Rattle.txn_machine.specs.Store.{Store, committed, schema_of, now, Effect, Commits, Defines, does, run}
use Rattle.txn_machine.specs.Ghosts.{the_views}
use Rattle.txn_machine.specs.Log.{Log, Logged, Opening, logs, log_all, record_of}
use Rattle.txn_machine.specs.State.{State, is_fault}
use Rattle.txn_machine.specs.May.{May, MayAct}
use Rattle.txn_machine.specs.Steps.{Does, Says, log_after, DefinesIt}
use Rattle.txn_machine.specs.Laws.{IsOpened}
use Rattle.txn_machine.proofs.Basics.{one_same, one_other}
use Rattle.txn_machine.proofs.Looking.{view_laws}
use Rattle.txn_machine.proofs.Reached.{may_define}
use Rattle.txn_machine.proofs.Runs.{Can, CanAll}
use Rattle.txn_machine.proofs.Stepping.{some_not_none, can_says, ready_owes}
use Rattle.txn_log.specs.Replay.{Deed, Event, Pages}
use Rattle.txn_log.specs.Fitting.{DoNumbersFall}
use Rattle.txn_log.specs.Meaning.{definitions}
use Rattle.txn_log.specs.Appended.{Numbered, written, AllSay}
use Rattle.txn_log.specs.Moments.{Txn, txn_in, txn_at, AreCarried, Disk, image_of, with_record, flushed_all, pages_now, published, World, At, Amid, Halted, store_of, disk_of, with_disk, Keeps, Happens, begins, acts, ends, flushes, acknowledges, publishes, fails_commit, fails_define, fails_before, fails_after, told, told_halted, Run, here, then_move, opened_world, left_by, IsRight}
use Rattle.txn_log.proofs.Memory.{Memory, reading_of, remembers, Recovers}
use Rattle.txn_log.proofs.Finding.{by_number}
use Rattle.txn_log.proofs.Numbering.{OpenFor, AllOpen, open_says}
use Rattle.txn_log.proofs.Running.{cut_at, IsSound, sound_effect, sound_flush, sound_acknowledge, sound_checkpoint, opened_memory, sound_opened}
use Rattle.txn_log.proofs.Following.{AreAsMany, Follows, PrintsAgain, schema_now, follows_does}
use Rattle.txn_log.proofs.Cutting.{cut_says}
use Rattle.txn_log.specs.Stored.{AreProper}
use Rattle.txn_log.proofs.Keeping.{stored_huge}
use Rattle.txn_machine.proofs.Good.{stored_sound}

-- what is remembered is sound and follows the log
pub record IsFollowed (s : Store) (l : Log) (d : Disk) : Type 0 where
  pub memory : Memory
  pub sound : IsSound s memory
  pub follows : Follows s l d memory

-- the log knows the same of transactions, and has the same numbers
pub record SameLog (l k : Log) : Type 0 where
  pub logged : (j : ℕ) → ((l.logged j).transaction ≡ (k.logged j).transaction) × ((l.logged j).kept ≡ (k.logged j).kept) × ((l.logged j).wrote ≡ (k.logged j).wrote)
  pub begun : l.begun ≡ k.begun
  pub next : l.next ≡ k.next

same_log : (l : Log) → SameLog l l
same_log l = record { logged = λ j. (refl, refl, refl); begun = refl; next = refl }

same_followed : (s : Store) (l k : Log) (d : Disk) → SameLog k l → IsFollowed s l d → IsFollowed s k d
same_followed s l k d same is = record {
  memory = is.memory;
  sound = is.sound;
  follows = record {
    txns = λ j. is.follows.txns j ∙ (λ x. txn_in (record { transaction = sym (same.logged j).0 x; kept = sym (same.logged j).1 x; wrote = sym (same.logged j).2 x; ghosted = false }) (now s j).kept);
    begun = is.follows.begun ∙ sym same.begun;
    next = is.follows.next ∙ sym same.next;
    pages = is.follows.pages;
    carried = is.follows.carried;
    acknowledged = is.follows.acknowledged;
    many = is.follows.many;
    say = is.follows.say;
  };
}

-- ---- the disk's own moves

flush_followed : (s : Store) (l : Log) (d : Disk) → IsFollowed s l d → IsFollowed s l (flushed_all d)
flush_followed s l d is =
    let m : Memory = is.memory in record {
      memory = record m { flushed = m.waiting ++ m.flushed; waiting = [] };
      sound = sound_flush s m is.sound;
      follows = record { txns = is.follows.txns; begun = is.follows.begun; next = is.follows.next; pages = is.follows.pages; carried = is.follows.carried; acknowledged = is.follows.acknowledged; many = tt; say = is.follows.say };
    }

none_waits : (rs : List Numbered) (es : List Event) → AreAsMany rs es → rs ≡ [] → es ≡ []
none_waits [] [] h e = refl
none_waits (r ∷ rs) es h e = absurd (cc)
none_waits [] (x ∷ es) h e = absurd h

acknowledge_followed : (s : Store) (l : Log) (d : Disk) → d.waiting ≡ [] → IsFollowed s l d → IsFollowed s l (record d { acknowledged = (committed s).number })
acknowledge_followed s l d none is =
    let m : Memory = is.memory in record {
      memory = record m { acknowledged = (committed s).number };
      sound = sound_acknowledge s m (none_waits d.waiting m.waiting is.follows.many none) is.sound;
      follows = record { txns = is.follows.txns; begun = is.follows.begun; next = is.follows.next; pages = is.follows.pages; carried = is.follows.carried; acknowledged = refl; many = is.follows.many; say = is.follows.say };
    }

publish_followed : (s : Store) (l : Log) (d : Disk) (xs : List Deed) → AreCarried (txn_at s l) xs → DoNumbersFall xs → IsFollowed s l d → IsFollowed s l (published (pages_now s) xs d)
publish_followed s l d xs are fall is =
    let m : Memory = is.memory in
    let same : ◌≡◌ {A = ℕ → Txn} (txn_at s l) m.txn_of = λ x j. sym (is.follows.txns j) x in record {
      memory = record m { pages = pages_now s; carried = xs; flushed = []; waiting = [] };
      sound = sound_checkpoint s m xs (subst (λ (f : ℕ → Txn). AreCarried f xs) same are) fall is.sound;
      follows = record { txns = is.follows.txns; begun = is.follows.begun; next = is.follows.next; pages = refl; carried = refl; acknowledged = is.follows.acknowledged; many = tt; say = tt };
    }

-- ---- worlds

abbrev pub IsGoodWorld : World → Type 0
IsGoodWorld (At s d) = IsFollowed s.store s.log d
IsGoodWorld (Amid after i a s l es d) =
    IsFollowed s l d × CanAll the_views fresh view_laws s i es × AllOpen s i a es × (after.store ≡ run the_views s i es) × SameLog after.log (log_all s i a es l)
IsGoodWorld (Halted s next d) = (l : Log) × IsFollowed next l d

may_now : (s : State) (i : ℕ) (a : Act) → s.stop ≡ None → May s i a → MayAct s.store i a
may_now s i a runs may = elim may.1 [ inl stopped ↦ absurd (some_not_none s.stop stopped runs) | inr h ↦ h ]

-- the log after a step is that after its effects, but for what it knows of room
after_effects : (s : State) (i : ℕ) (a : Act) (said : Answer) (es : List Effect) → Says s i a said es → is_fault said ≡ false → SameLog (log_after s i a said es) (log_all s.store i a es s.log)
after_effects s i act.Ghost answer.Ghosted es h f =
    let k : Log = log_all s.store i act.Ghost es s.log in record {
      logged = λ j. by_number j i
          (λ e. let one = one_same k.logged i (record (k.logged i) { ghosted = true }) j e in (
            ap (λ (t : Logged). t.transaction) one ∙ ap (λ n. (k.logged n).transaction) (sym e),
            ap (λ (t : Logged). t.kept) one ∙ ap (λ n. (k.logged n).kept) (sym e),
            ap (λ (t : Logged). t.wrote) one ∙ ap (λ n. (k.logged n).wrote) (sym e),
          ))
          (λ n. let one = one_other k.logged i (record (k.logged i) { ghosted = true }) j n in (ap (λ (t : Logged). t.transaction) one, ap (λ (t : Logged). t.kept) one, ap (λ (t : Logged). t.wrote) one));
      begun = refl;
      next = refl;
    }
after_effects s i act.Checkpoint (answer.Saved n) es h f =
    subst (λ fs. SameLog (log_after s i act.Checkpoint (answer.Saved n) fs) (log_all s.store i act.Checkpoint fs s.log)) (sym h.0) (record { logged = λ j. (refl, refl, refl); begun = refl; next = refl })
after_effects s i act.Commit (answer.Refused refusal.DiskFault) es h f = absurd (false≢true (sym f))
after_effects s i (act.Schema statement) (answer.Refused refusal.DiskFault) es h f = absurd (false≢true (sym f))
after_effects s i a said es h f = same_log (log_all s.store i a es s.log)

module _ (printed : PrintsAgain) where
  effect_followed : (s : Store) (l : Log) (d : Disk) (i : ℕ) (a : Act) (e : Effect) → IsFollowed s l d → Can the_views fresh view_laws s i e → OpenFor s i a e
      → IsFollowed (does the_views s i e) (logs s i a e l) (with_record (record_of s i a l e) l.next d)
  effect_followed s l d i a e is can found = record {
    memory = remembers s i e is.memory;
    sound = sound_effect s is.memory i a e is.sound can found;
    follows = follows_does s l d is.memory i is.follows printed a is.sound e can found;
  }

  begins_good : (s : State) (disk : Disk) (i : ℕ) (a : Act) (said : Answer) (after : State) → May s i a → (d : Does s i a said after) → is_fault said ≡ false
      → IsFollowed s.store s.log disk → IsGoodWorld (Amid after i a s.store s.log d.effects disk)
  begins_good s disk i a said after may d f is = (
    is,
    can_says view_laws may_define s i a said d.effects is.sound.good (may_now s i a d.runs may) d.says,
    open_says s i a said d.effects (may_now s i a d.runs may) d.says,
    ap (λ (x : State). x.store) d.left,
    subst (λ (x : State). SameLog x.log (log_all s.store i a d.effects s.log)) (sym d.left) (after_effects s i a said d.effects d.says f),
  )

  commit_can : (s : Store) (i : ℕ) → MayAct s i act.Commit → Can the_views fresh view_laws s i Commits
  commit_can s i may = elim may [
    | inl r ↦ (r.goes_on.of_session, ready_owes view_laws s i _ r)
    | inr r ↦ (r.goes_on.of_session, ready_owes view_laws s i _ r)
  ]

  define_good : (s : State) (disk : Disk) (i : ℕ) (statement : StatementTree) (number : ℕ) (would : List Effect) → MayAct s.store i (act.Schema statement) → (h : DefinesIt s statement number would)
      → IsFollowed s.store s.log disk
      → IsFollowed (does the_views s.store i (Defines h.object)) (logs s.store i (act.Schema statement) (Defines h.object) s.log) (with_record (record_of s.store i (act.Schema statement) s.log (Defines h.object)) s.log.next disk)
  define_good s disk i statement number would may h is = effect_followed s.store s.log disk i (act.Schema statement) (Defines h.object) is
      (may_define s.store statement h.object is.sound.good h.makes h.none_open h.accepted.0 h.accepted.1 h.accepted.2)
      (statement, refl, h.makes, may.3, h.accepted)

  disk_good : (w : World) (d : Disk) → ((s : Store) (l : Log) → store_of w ≡ s → IsFollowed s l (disk_of w) → IsFollowed s l d) → IsGoodWorld w → IsGoodWorld (with_disk w d)
  disk_good (At s e) d f is = f s.store s.log refl is
  disk_good (Amid after i a s l es e) d f is = (f s l refl is.0, is.1, is.2, is.3, is.4)
  disk_good (Halted s next e) d f is = (is.0, f next is.0 refl is.1)

  publish_good : (w : World) (xs : List Deed) → Keeps w xs → DoNumbersFall xs → IsGoodWorld w → IsGoodWorld (with_disk w (published (pages_now (store_of w)) xs (disk_of w)))
  publish_good (At s d) xs are fall is = publish_followed s.store s.log d xs are fall is
  publish_good (Amid after i a s l es d) xs are fall is = (publish_followed s l d xs are fall is.0, is.1, is.2, is.3, is.4)
  publish_good (Halted s next d) xs are fall is = absurd are

  good_move : (v w : World) → Happens v w → IsGoodWorld v → IsGoodWorld w
  good_move v w (begins s disk i a said after may d f) is = begins_good s disk i a said after may d f is
  good_move v w (acts after i a s l e es disk) is = (effect_followed s l disk i a e is.0 is.1.0 is.2.0, is.1.1, is.2.1, is.3, is.4)
  good_move v w (ends after i a s l disk done) is =
      subst (λ (t : Store). IsFollowed t after.log disk) (sym is.3) (same_followed s l after.log disk is.4 is.0)
  good_move v w (flushes u writes) is = disk_good u (flushed_all (disk_of u)) (λ s l e. flush_followed s l (disk_of u)) is
  good_move v w (acknowledges u none writes) is = disk_good u (record (disk_of u) { acknowledged = (committed (store_of u)).number })
      (λ s l e f. subst (λ (t : Store). IsFollowed s l (record (disk_of u) { acknowledged = (committed t).number })) (sym e) (acknowledge_followed s l (disk_of u) none f)) is
  good_move v w (publishes u xs keeps fall) is = publish_good u xs keeps fall is
  good_move v w (fails_commit s disk i stopped may d) is =
      (logs s.store i act.Commit Commits s.log, effect_followed s.store s.log disk i act.Commit Commits is (commit_can s.store i (may_now s i act.Commit d.runs may)) d.says.1)
  good_move v w (fails_define s disk i statement stopped may d e same) is =
      subst (λ (x : Effect). (k : Log) × IsFollowed (does the_views s.store i x) k (with_record (record_of s.store i (act.Schema statement) s.log x) s.log.next disk)) (sym same)
      (logs s.store i (act.Schema statement) (Defines d.says.3.object) s.log, define_good s disk i statement d.says.1 d.says.2 (may_now s i (act.Schema statement) d.runs may) d.says.3 is)
  good_move v w (fails_before s disk i stopped may d) is = (s.log, is)
  good_move v w (fails_after s disk i stopped may d xs are fall) is = (s.log, publish_followed s.store s.log disk xs are fall is)
  good_move v w (told s disk i said after t) is = subst (λ (x : State). IsFollowed x.store x.log disk) (sym t.left) is
  good_move v w (told_halted s next disk i said after t) is = is

  pub good_run : (u w : World) → Run u w → IsGoodWorld u → IsGoodWorld w
  good_run u w (here x) is = is
  good_run u w (then_move a v b r move) is = good_move v w move (good_run u v r is)

  pub good_opened : (opening : Opening) (p : Pages) → IsOpened p.db p.view → IsGoodWorld (opened_world opening p)
  good_opened opening p was = record {
    memory = opened_memory opening.next p;
    sound = sound_opened opening.next p was;
    follows = record { txns = λ j. refl; begun = refl; next = refl; pages = refl; carried = refl; acknowledged = refl; many = tt; say = tt };
  }

-- ---- crashes

pub followed_world : (w : World) → IsGoodWorld w → (l : Log) × IsFollowed (store_of w) l (disk_of w)
followed_world (At s d) is = (s.log, is)
followed_world (Amid after i a s l es d) is = (l, is.0)
followed_world (Halted s next d) is = is

pub cut_right : (s : Store) (l : Log) (d : Disk) → IsFollowed s l d → (k : ℕ) → IsRight s (image_of d (drop k d.waiting)) d.acknowledged
cut_right s l d is k =
    let m : Memory = is.memory in
    let right : Recovers s (reading_of m (drop k m.waiting)) m.acknowledged = cut_at (λ rs. Recovers s (reading_of m rs) m.acknowledged) m.waiting is.sound.cuts k in
    let had : m.acknowledged ≡ d.acknowledged = is.follows.acknowledged in record {
      reading = reading_of m (drop k m.waiting);
      is_read = record {
        pages = is.follows.pages;
        carried = ap (map written) (sym is.follows.carried);
        after = subst (λ (p : Pages). AllSay p.db.schema (drop k d.waiting ++ d.flushed) (drop k m.waiting ++ m.flushed)) is.follows.pages
            (cut_says m.pages.db.schema d.waiting d.flushed m.waiting m.flushed is.follows.many is.follows.say k);
      };
      fits = right.fits;
      db = right.db;
      has_all = (let h = right.has_all in omega arith);
      not_more = right.not_more;
      opens = right.opens;
    }

pub crash : PrintsAgain → (p : Pages) → IsOpened p.db p.view → (opening : Opening) (w : World) → Run (opened_world opening p) w → (k : ℕ)
    → IsRight (store_of w) (left_by w k) (disk_of w).acknowledged
crash printed p was opening w r k =
    let is = followed_world w (good_run printed (opened_world opening p) w r (good_opened printed opening p was)) in
    cut_right (store_of w) is.0 (disk_of w) is.1 k

-- ---- what its records say

-- what the records on the disk and in memory say, by which these definitions stand
pub record AllSaid (s : Store) (d : Disk) : Type 0 where
  pub events : List Event
  pub say : AllSay d.pages.db.schema (d.waiting ++ d.flushed) events
  pub schema : schema_of s ≡ definitions d.pages.db.schema events

pub all_said : PrintsAgain → (p : Pages) → IsOpened p.db p.view → (opening : Opening) (w : World) → Run (opened_world opening p) w → AllSaid (store_of w) (disk_of w)
all_said printed p was opening w r =
    let is = followed_world w (good_run printed (opened_world opening p) w r (good_opened printed opening p was)) in
    let m : Memory = is.1.memory in record {
      events = m.waiting ++ m.flushed;
      say = subst (λ (q : Pages). AllSay q.db.schema ((disk_of w).waiting ++ (disk_of w).flushed) (m.waiting ++ m.flushed)) is.1.follows.pages is.1.follows.say;
      schema = schema_now (store_of w) m is.1.sound.tied ∙ ap (λ (q : Pages). definitions q.db.schema (m.waiting ++ m.flushed)) is.1.follows.pages;
    }

-- ---- what a checkpoint publishes

pub proper : PrintsAgain → (p : Pages) → IsOpened p.db p.view → (opening : Opening) (w : World) → Run (opened_world opening p) w → AreProper (pages_now (store_of w))
proper printed p was opening w r =
    let is = followed_world w (good_run printed (opened_world opening p) w r (good_opened printed opening p was)) in
    let s : Store = store_of w in record {
      sound = stored_sound the_views fresh view_laws (committed s) s is.1.sound.good;
      stored = is.1.sound.shape;
      in_range = stored_huge s is.1.sound.good;
    }
