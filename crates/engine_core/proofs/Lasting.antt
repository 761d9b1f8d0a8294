-- A step of a core on a disk, with what a crash at any moment of it recovers.
use Rattle.std.specs.Prelude.{IsSome}
use Rattle.std.proofs.Common.{◌≡◌, ◌⊎◌, inl, inr, ⊎_elim, Bool, true, false, ℕ, ◌+◌, ◌≤◌, List, [], Option, Some, None, refl, sym, ◌∙◌, ap, subst, arith}
use Rattle.iv_types.specs.Faults.{Rose}
use Rattle.iv_types.specs.declared.refusal.EngineRefusal.TheVariants as refusal
use Rattle.iv_meaning.specs.Database.{Database}
use Rattle.txn_machine.specs.Acts as act
use Rattle.txn_machine.specs.Acts.{Act}
use Rattle.txn_machine.specs.Answers as answer
use Rattle.txn_machine.specs.Answers.{Answer}
use Rattle.txn_machine.specs.Ghosts.{the_views}
use Rattle.txn_machine.specs.Laws.{IsReached}
use Rattle.txn_machine.specs.Log.{Opening}
use Rattle.txn_machine.specs.May.{May, MayAct}
use Rattle.txn_machine.specs.State.{State, Stop, is_fault}
use Rattle.txn_machine.specs.Steps.{Says, Does, IsTold, Step, texts_of}
use Rattle.txn_machine.specs.Store.{Effect, committed, schema_of, run}
use Rattle.txn_machine.proofs.Stepping.{some_not_none}
use Rattle.txn_log.specs.Replay.{Pages}
use Rattle.txn_log.specs.Stored.{AllCreate}
use Rattle.txn_book.specs.Crashes.{IsPrefix}
use Rattle.ordered_index.specs.Tree.{Tree, map_of, spare_of, limit_of}
use Rattle.core_journal.specs.Records.{Records, Saved, records_after, GivesTo}
use Rattle.core_journal.specs.Cuts.{Cut, cut_of, MayHave}
use Rattle.log_journal.specs.Cuts.{IsBorne, Medium, medium_of, Leaves}
use Rattle.log_journal.specs.Standing.{Has, area_limit, disk_of}
use Rattle.log_journal.specs.declared.journal.LogJournal.{LogJournal}
use Rattle.log_journal.proofs.Cuts.{stands_now}
use Rattle.core_recording.specs.Giving.{IsSaved, IsBehind}
use Rattle.core_state.specs.declared.state.CoreState.{CoreState}
use Rattle.record_worlds.specs.Pages.{HoldsPages}
use Rattle.record_worlds.specs.Tied.{IsTied, SavesAll, TiesTo, Recovers, MayCommit}
use Rattle.record_worlds.specs.Laws.{StepLaw, CutLaw, FaultLaw}
use Rattle.engine_core.specs.Acting.{Recorded}
use Rattle.engine_core.specs.Crashes.{IsUpTo, IsLeft, IsLast, Lasts}
use Rattle.engine_core.proofs.Crashing.{Enters, enters, up_to_now, up_to_grows, up_to_same, prefix_now, prefix_grows, prefix_same, prefix_stopped, left_after, Given, given, GivenUp, given_up, Passes, passes, all_stopped, all_same, all_running, last_after}
use Rattle.engine_core.proofs.Creating.{creates_after}
use Rattle.engine_core.proofs.Once.{says_once}
use Rattle.engine_core.proofs.Recording.{opening_stays, fault_stops}

-- ---- records of one journal

-- what a journal has behind a step counts as what the step gives
record Behind (P : Records → Type 0) (rs : Records) : Type 0 where
  records : Records
  is : P records
  used : records.used ≡ rs.used
  image_limit : records.image_limit ≡ rs.image_limit

behind_some : (P : Records → Type 0) (Saves : Saved → Type 0) (a : Act) (said : Answer) (rs : Records) → GivesTo P Saves a said rs → Behind P rs
behind_some P Saves act.Checkpoint (answer.Saved number) rs h = record { records = record rs { saved = h.0 }; is = h.2; used = refl; image_limit = refl }
behind_some P Saves a said rs h = record { records = rs; is = h; used = refl; image_limit = refl }

the_fault : (said : Answer) → is_fault said ≡ true → said ≡ answer.Refused refusal.DiskFault
the_fault (answer.Refused refusal.DiskFault) h = refl
the_fault said h = let bad : false ≡ true = h in absurd cc

-- at a fault nothing is done
no_effects : (s : State) (i : ℕ) (a : Act) (es : List Effect) → Says s i a (answer.Refused refusal.DiskFault) es → es ≡ []
no_effects s i act.Commit es h = h.0
no_effects s i (act.Schema statement) es h = h.0
no_effects s i act.Checkpoint es h = h
no_effects s i a es h = absurd h

-- a step of an engine that runs may be asked for
may_now : (s : State) (i : ℕ) (a : Act) → s.stop ≡ None → May s i a → MayAct s.store i a
may_now s i a runs may = elim may.1 [ inl stopped ↦ absurd (some_not_none s.stop stopped runs) | inr h ↦ h ]

-- ---- a step

-- what a step may leave committed, by an answer that it has, or may have had where the disk failed
pub record MayTell (s : State) (i : ℕ) (a : Act) (said : Answer) (db : Database) : Type 0 where
  pub answer : Answer
  pub same : is_fault said ≡ false → answer ≡ said
  pub effects : List Effect
  pub says : Says s i a answer effects
  pub is : (db ≡ committed s.store) ⊎ (db ≡ committed (run the_views s.store i effects))

module _ {D : Type 0} (is_told : Type 0) (size_of : D → ℕ) (seen : D → List ℕ) (may_leave : D → List ℕ → Type 0) (moment : D → ℕ) (left_since : D → ℕ → List ℕ → Type 0) (faults : D → ℕ) where
  abbrev HasThem : LogJournal D → Records → Type 0
  HasThem = Has is_told size_of seen may_leave

  abbrev pub DiskRecorded : State → ℕ → Act → Answer → Records → LogJournal D → CoreState Tree → LogJournal D → Type 0
  DiskRecorded = Recorded map_of spare_of limit_of HasThem area_limit medium_of (Leaves is_told moment left_since)

  -- what a crash leaves that might not have been left before
  pub record NewLeft (p : Pages) (s : State) (i : ℕ) (a : Act) (said : Answer) (c : List ℕ) : Type 0 where
    pub runs : s.stop ≡ None
    pub cut : Cut
    pub borne : IsBorne c cut
    pub db : Database
    pub recovers : Recovers HoldsPages p s.opening cut db
    pub may : MayTell s i a said db

  pub record Stepped (p : Pages) (s : State) (i : ℕ) (a : Act) (said : Answer) (rs : Records) (old : LogJournal D) (core : CoreState Tree) (journal : LogJournal D) (after : State) : Type 0 where
    pub records : Records
    pub lasts : Lasts is_told may_leave moment left_since faults p journal after records
    pub behind : after.stop ≡ None → IsBehind map_of spare_of limit_of HasThem area_limit core journal after.log records
    pub few : rs.saves ≤ s.steps + 1 → records.saves ≤ after.steps + 1
    pub later : is_told → moment (disk_of old) ≤ moment (disk_of journal)
    pub images : is_told → (t : ℕ) (c : List ℕ) → t ≤ moment (disk_of old) → left_since (disk_of journal) t c → left_since (disk_of old) t c ⊎ NewLeft p s i a said c
    pub durable : s.stop ≡ None → is_fault said ≡ false → HasThem journal records × IsTied HoldsPages p after.opening after records

  module _ (counts_now : (disk : D) (t : ℕ) (c : List ℕ) → t ≤ moment disk → may_leave disk c → left_since disk t c) (only_now : (disk : D) (c : List ℕ) → left_since disk (moment disk) c → may_leave disk c)
      (step_law : StepLaw HoldsPages) (cut_law : CutLaw HoldsPages) (fault_law : FaultLaw HoldsPages) (p : Pages) (s : State) (i : ℕ) (a : Act) (said : Answer) (rs : Records) (old : LogJournal D) (core : CoreState Tree) (journal : LogJournal D)
      (lasts : Lasts is_told may_leave moment left_since faults p old s rs) (well : s.stop ≡ None → faults (disk_of old) ≡ s.opening.faults) (rises : is_fault said ≡ true → Rose (faults (disk_of old)) (faults (disk_of journal)))
      (stays : is_fault said ≡ false → faults (disk_of journal) ≡ faults (disk_of old)) (saves : s.stop ≡ None → (saved : Saved) → IsSaved s saved → SavesAll HoldsPages s saved) (r : DiskRecorded s i a said rs old core journal) (s_reached : IsReached s) where
    abbrev after : State
    after = r.moved.after

    step : Step s i a said after
    step = r.moved.does

    reached : IsReached after
    reached = r.moved.stands.reached

    same_opening : after.opening ≡ s.opening
    same_opening = opening_stays s i a said after step

    -- a count that rose before the step has risen behind it
    rise_on : faults (disk_of journal) ≡ faults (disk_of old) → Rose s.opening.faults (faults (disk_of old)) → Rose after.opening.faults (faults (disk_of journal))
    rise_on same rose = subst (λ n. Rose n (faults (disk_of journal))) (ap (λ (o : Opening). o.faults) (sym same_opening)) (subst (λ n. Rose s.opening.faults n) (sym same) rose)

    -- of a core that is stopped
    module _ (stop : Stop) (stopped : s.stop ≡ Some stop) where
      told_so : IsTold s i said after
      told_so = elim step.does [ inl d ↦ absurd (let bad : Some stop ≡ None = sym stopped ∙ d.runs in cc) | inr t ↦ t ]

      still : after.stop ≡ s.stop
      still = ap (λ (x : State). x.stop) told_so.left

      not_running : after.stop ≡ None → ⊥
      not_running runs = let bad : Some stop ≡ None = sym stopped ∙ (sym still ∙ runs) in cc

      same_disk : disk_of journal ≡ disk_of old
      same_disk = ap (λ (m : Medium D). m.disk) (r.untouched (subst IsSome (sym stopped) refl))

      stopped_step : Stepped p s i a said rs old core journal after
      stopped_step = record {
        records = rs;
        lasts = record {
          was_opened = lasts.was_opened;
          creates = λ runs. absurd (not_running runs);
          tied = λ runs. absurd (not_running runs);
          later = λ told. let le = lasts.later told in let disk = ap moment same_disk in let opening = ap (λ (o : Opening). o.moment) same_opening in omega (arith, le, disk, opening);
          images = λ told c left.
              left_after p s after (faults (disk_of old)) (faults (disk_of journal)) c same_opening (rise_on (ap faults same_disk)) (up_to_same s after (ap (λ (x : State). x.store) told_so.left)) (prefix_same s after (ap (λ (x : State). x.store) told_so.left) still)
              (lasts.images told c (subst (λ (d : D). left_since d s.opening.moment c) same_disk (subst (λ (o : Opening). left_since (disk_of journal) o.moment c) same_opening left)));
          now = λ told c may.
              last_after p s after (faults (disk_of old)) (faults (disk_of journal)) c same_opening (ap (λ (x : State). x.store) told_so.left) (rise_on (ap faults same_disk)) (all_same s after (ap (λ (x : State). x.store) told_so.left) still) (lasts.now told c (subst (λ (d : D). may_leave d c) same_disk may));
        };
        behind = λ runs. absurd (not_running runs);
        few = λ few. let steps = ap (λ (x : State). x.steps) told_so.left in omega (arith, few, steps);
        later = λ told. let disk = ap moment same_disk in omega (arith, disk);
        images = λ told t c le left. inl (subst (λ (d : D). left_since d t c) same_disk left);
        durable = λ runs. absurd (let bad : Some stop ≡ None = sym stopped ∙ runs in cc);
      }

    module _ (runs : s.stop ≡ None) where
      tied : IsTied HoldsPages p s.opening s rs
      tied = lasts.tied runs

      done : Does s i a said after
      done = elim step.does [ inl d ↦ d | inr t ↦ absurd (let bad : Some t.stop ≡ None = sym t.stopped ∙ runs in cc) ]

      same_store : after.store ≡ run the_views s.store i done.effects
      same_store = ap (λ (x : State). x.store) done.left

      entered : Enters s.store after.store
      entered = subst (Enters s.store) (sym same_store) (enters s i a said done.effects step.may runs done.says)

      -- what was committed before it
      abbrev before : Cut → Type 0
      before x = Recovers HoldsPages p s.opening x (committed s.store)

      before_now : before (cut_of rs)
      before_now = cut_law p lasts.was_opened s.opening s rs tied

      now_before : MayTell s i a said (committed s.store)
      now_before = record { answer = said; same = λ fine. refl; effects = done.effects; says = done.says; is = inl refl }

      prefix_before : IsPrefix after (committed s.store)
      prefix_before = prefix_grows s after runs entered (committed s.store) (prefix_now s s_reached)

      up_to_before : IsUpTo after (committed s.store)
      up_to_before = up_to_grows s after entered (committed s.store) (up_to_now s s_reached)

      -- what a crash left since a moment, by what it leaves in the step
      since : (y : Cut) (db : Database) → Recovers HoldsPages p s.opening y db → MayTell s i a said db → Passes is_told moment left_since old journal (cut_of rs) y
          → (t : ℕ) (c : List ℕ) → t ≤ moment (disk_of old) → left_since (disk_of journal) t c → left_since (disk_of old) t c ⊎ NewLeft p s i a said c
      since y db recovers may pass t c le left = ⊎_elim
          (λ was. inl was)
          (⊎_elim
          (λ borne. inr (record { runs = runs; cut = cut_of rs; borne = borne; db = committed s.store; recovers = before_now; may = now_before }))
          (λ borne. inr (record { runs = runs; cut = y; borne = borne; db = db; recovers = recovers; may = may })))
          (pass.before t c le left)

      -- and since the core was opened
      images_since : (y : Cut) (db : Database) → Recovers HoldsPages p s.opening y db → IsPrefix after db → IsUpTo after db ⊎ Rose after.opening.faults (faults (disk_of journal))
          → (Rose s.opening.faults (faults (disk_of old)) → Rose after.opening.faults (faults (disk_of journal))) → Passes is_told moment left_since old journal (cut_of rs) y → is_told
          → (c : List ℕ) → left_since (disk_of journal) after.opening.moment c → IsLeft p after (faults (disk_of journal)) c
      images_since y db recovers prefix exact rise pass told c left = ⊎_elim
          (λ was. left_after p s after (faults (disk_of old)) (faults (disk_of journal)) c same_opening rise (up_to_grows s after entered) (prefix_grows s after runs entered) (lasts.images told c was))
          (⊎_elim
          (λ borne. record { cut = cut_of rs; borne = borne; db = committed s.store; recovers = subst (λ (o : Opening). Recovers HoldsPages p o (cut_of rs) (committed s.store)) (sym same_opening) before_now; prefix = prefix_before; exact = inl up_to_before })
          (λ borne. record { cut = y; borne = borne; db = db; recovers = subst (λ (o : Opening). Recovers HoldsPages p o y db) (sym same_opening) recovers; prefix = prefix; exact = exact }))
          (pass.before s.opening.moment c (lasts.later told) (subst (λ (o : Opening). left_since (disk_of journal) o.moment c) same_opening left))

      later_since : (y : Cut) → Passes is_told moment left_since old journal (cut_of rs) y → is_told → after.opening.moment ≤ moment (disk_of journal)
      later_since y pass told = let le = lasts.later told in let more = pass.later in let opening = ap (λ (o : Opening). o.moment) same_opening in omega (arith, le, more, opening)

      -- no fault answers it
      module _ (fine : is_fault said ≡ false) where
        same_effects : r.effects ≡ done.effects
        same_effects = ⊎_elim
            (λ says. says_once s i a said r.effects done.effects says done.says)
            (λ stopped. absurd (some_not_none s.stop stopped.0 runs))
            r.says

        abbrev more : Records
        more = records_after s i a said r.effects rs

        is_given : Given HasThem medium_of (Leaves is_told moment left_since) old journal (cut_of rs) (IsSaved s) (SavesAll HoldsPages s) (IsTied HoldsPages p s.opening after) more
        is_given = given HasThem medium_of (Leaves is_told moment left_since) old journal (cut_of rs) (IsSaved s) (SavesAll HoldsPages s) a said (IsTied HoldsPages p s.opening after) more (r.left runs fine) (saves runs)
            (subst (λ (es : List Effect). TiesTo HoldsPages (IsTied HoldsPages p s.opening after) (SavesAll HoldsPages s) a said (records_after s i a said es rs)) (sym same_effects)
            (step_law p lasts.was_opened s.opening s rs tied i a said after step.may done fine))

        after_tied : IsTied HoldsPages p after.opening after is_given.records
        after_tied = subst (λ (o : Opening). IsTied HoldsPages p o after is_given.records) (sym same_opening) is_given.ties

        after_now : Recovers HoldsPages p s.opening (cut_of is_given.records) (committed after.store)
        after_now = cut_law p lasts.was_opened s.opening after is_given.records is_given.ties

        pass : is_told → Passes is_told moment left_since old journal (cut_of rs) (cut_of is_given.records)
        pass told = passes is_told moment left_since old journal (cut_of rs) (cut_of is_given.records) told is_given.left

        told_after : MayTell s i a said (committed after.store)
        told_after = record { answer = said; same = λ fine. refl; effects = done.effects; says = done.says; is = inr (ap committed same_store) }

        behind_after : after.stop ≡ None → IsBehind map_of spare_of limit_of HasThem area_limit core journal after.log is_given.records
        behind_after none =
            let b = behind_some (IsBehind map_of spare_of limit_of HasThem area_limit core journal after.log) (IsSaved s) a said more (r.behind none) in
            record {
              has_them = is_given.has_them;
              used = is_given.used ∙ (sym b.used ∙ b.is.used);
              same_limit = b.is.same_limit;
              same_image = is_given.image_limit ∙ (sym b.image_limit ∙ b.is.same_image);
            }

        texts_so : AllCreate [] (texts_of after) (schema_of after.store)
        texts_so =
            subst (λ (x : State). AllCreate [] (texts_of x) (schema_of x.store)) (sym done.left)
            (creates_after s i s.opening.definitions (lasts.creates runs) a said done.effects s_reached (may_now s i a runs step.may) done.says)

        fine_step : Stepped p s i a said rs old core journal after
        fine_step = record {
          records = is_given.records;
          lasts = record {
            was_opened = lasts.was_opened;
            creates = λ _. texts_so;
            tied = λ _. after_tied;
            later = λ told. later_since (cut_of is_given.records) (pass told) told;
            images = λ told. images_since (cut_of is_given.records) (committed after.store) after_now (prefix_now after reached) (inl (up_to_now after reached)) (rise_on (stays fine)) (pass told) told;
            now = λ told c may. record {
              cut = cut_of is_given.records;
              borne = subst (λ (bytes : List ℕ). IsBorne bytes (cut_of is_given.records)) (sym ((is_given.has_them.kept.header told).durable c may))
                  (journal.log.size, journal.pages, stands_now is_told size_of seen may_leave journal is_given.records is_given.has_them told);
              db = committed after.store;
              recovers = subst (λ (o : Opening). Recovers HoldsPages p o (cut_of is_given.records) (committed after.store)) (sym same_opening) after_now;
              all = inl refl;
              exact = inl refl;
            };
          };
          behind = behind_after;
          few = λ few. let less = r.few few in let same = is_given.saves in omega (arith, less, same);
          later = λ told. (pass told).later;
          images = λ told. since (cut_of is_given.records) (committed after.store) after_now told_after (pass told);
          durable = λ runs fine. (is_given.has_them, after_tied);
        }

      -- the disk fails it
      module _ (bad : is_fault said ≡ true) where
        said_is : said ≡ answer.Refused refusal.DiskFault
        said_is = the_fault said bad

        fault_done : Does s i a (answer.Refused refusal.DiskFault) after
        fault_done = subst (λ m. Does s i a m after) said_is done

        none_done : after.store ≡ s.store
        none_done =
            ap (λ (x : State). x.store) fault_done.left
            ∙ ap (λ (es : List Effect). run the_views s.store i es) (no_effects s i a fault_done.effects fault_done.says)

        stops : after.stop ≡ None → ⊥
        stops = fault_stops s i a after runs (subst (λ m. Step s i a m after) said_is step)

        stopped_then : IsSome after.stop
        stopped_then = by after.stop refl
          where
            by : (o : Option Stop) → after.stop ≡ o → IsSome after.stop
            by None e = absurd (stops e)
            by (Some x) e = subst IsSome (sym e) refl

        abbrev waits : Records
        waits = records_after s i a said [] rs

        is_up : GivenUp HasThem medium_of (Leaves is_told moment left_since) old journal (cut_of rs) (IsSaved s) (SavesAll HoldsPages s) a waits
        is_up = given_up HasThem medium_of (Leaves is_told moment left_since) old journal (cut_of rs) (IsSaved s) (SavesAll HoldsPages s) a waits (r.left_behind runs bad) (saves runs)

        found : (db : Database) × MayCommit HoldsPages s i a db × Recovers HoldsPages p s.opening is_up.cut db
        found =
            fault_law p lasts.was_opened s.opening s rs tied i a after step.may fault_done is_up.cut
            (subst (λ m. MayHave (λ y. is_up.cut ≡ y) (SavesAll HoldsPages s) a (records_after s i a m [] rs)) said_is is_up.is)

        abbrev would : MayCommit HoldsPages s i a found.0
        would = found.1

        prefix_would : IsPrefix after found.0
        prefix_would = ⊎_elim
            (λ same. subst (IsPrefix after) (sym same) prefix_before)
            (λ other. prefix_stopped s after (run the_views s.store i would.effects) s_reached none_done stopped_then (enters s i a would.said would.effects step.may runs would.says) found.0 other)
            would.is

        told_would : MayTell s i a said found.0
        told_would = record { answer = would.said; same = λ fine. absurd (let no : true ≡ false = sym bad ∙ fine in cc); effects = would.effects; says = would.says; is = would.is }

        pass_up : is_told → Passes is_told moment left_since old journal (cut_of rs) is_up.cut
        pass_up told = passes is_told moment left_since old journal (cut_of rs) is_up.cut told is_up.left

        -- the count has risen since the core was opened
        rose_up : Rose after.opening.faults (faults (disk_of journal))
        rose_up = subst (λ n. Rose n (faults (disk_of journal))) (well runs ∙ ap (λ (o : Opening). o.faults) (sym same_opening)) (rises bad)

        now_up : is_told → (c : List ℕ) → may_leave (disk_of journal) c → IsLast p after (faults (disk_of journal)) c
        now_up told c may =
            let pass = pass_up told in ⊎_elim
            (λ was. last_after p s after (faults (disk_of old)) (faults (disk_of journal)) c same_opening none_done (λ rose. rose_up) (all_running s after runs none_done) (lasts.now told c (only_now (disk_of old) c was)))
            (⊎_elim
            (λ borne. record {
              cut = cut_of rs;
              borne = borne;
              db = committed s.store;
              recovers = subst (λ (o : Opening). Recovers HoldsPages p o (cut_of rs) (committed s.store)) (sym same_opening) before_now;
              all = inl (ap committed (sym none_done));
              exact = inr rose_up;
            })
            (λ borne. record {
              cut = is_up.cut;
              borne = borne;
              db = found.0;
              recovers = subst (λ (o : Opening). Recovers HoldsPages p o is_up.cut found.0) (sym same_opening) found.2;
              all = ⊎_elim
                  (λ same. inl (same ∙ ap committed (sym none_done)))
                  (λ other. all_stopped s after (run the_views s.store i would.effects) none_done stopped_then (enters s i a would.said would.effects step.may runs would.says) found.0 other)
                  would.is;
              exact = inr rose_up;
            }))
            (pass.before (moment (disk_of old)) c (omega arith) (counts_now (disk_of journal) (moment (disk_of old)) c pass.later may))

        fault_step : Stepped p s i a said rs old core journal after
        fault_step = record {
          records = records_after s i a said r.effects rs;
          lasts = record {
            was_opened = lasts.was_opened;
            creates = λ none. absurd (stops none);
            tied = λ none. absurd (stops none);
            later = λ told. later_since is_up.cut (pass_up told) told;
            images = λ told. images_since is_up.cut found.0 found.2 prefix_would (inr rose_up) (λ rose. rose_up) (pass_up told) told;
            now = now_up;
          };
          behind = λ none. absurd (stops none);
          few = r.few;
          later = λ told. (pass_up told).later;
          images = λ told. since is_up.cut found.0 found.2 told_would (pass_up told);
          durable = λ runs fine. absurd (let no : true ≡ false = sym bad ∙ fine in cc);
        }

    pub stepped : Stepped p s i a said rs old core journal after
    stepped = by_stop s.stop refl
      where
        by_fault : (runs : s.stop ≡ None) (b : Bool) → is_fault said ≡ b → Stepped p s i a said rs old core journal after
        by_fault runs true bad = fault_step runs bad
        by_fault runs false fine = fine_step runs fine

        by_stop : (o : Option Stop) → s.stop ≡ o → Stepped p s i a said rs old core journal after
        by_stop (Some stop) stopped = stopped_step stop stopped
        by_stop None runs = by_fault runs (is_fault said) refl
