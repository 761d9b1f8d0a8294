-- The programs of statements inside a transaction are right.
use Rattle.std.specs.Prelude.{◌≡◌, ◌⊎◌, ℕ, zero, suc, ◌+◌, ◌-◌, Bool, true, false, IsTrue, ◌||◌, List, [], ◌∷◌, ◌++◌, map, length, Option, Some, None, if◌then◌else◌}
use mathlib.Core.Path.{refl, sym, ap, subst, ◌∙◌}
use mathlib.Core.Logic.{inl, inr}
use Rattle.std.proofs.Common.{arith, append-nil}
use Rattle.std.proofs.lemmas.List.{length-append}
use Rattle.std.proofs.lemmas.Option.{none-some}
use Rattle.iv_types.specs.declared.statement.Mode.{Mode}
use Rattle.iv_types.specs.declared.statement.Mode.TheVariants.{Serial, Snapshot}
use Rattle.iv_types.specs.declared.refusal.Refusal.{Refusal}
use Rattle.iv_types.specs.declared.refusal.Refusal.TheVariants.{UnknownSavepoint}
use Rattle.iv_types.specs.declared.refusal.EngineRefusal.{EngineRefusal}
use Rattle.iv_types.specs.declared.refusal.EngineRefusal.TheVariants as refusal
use Rattle.iv_types.specs.declared.reply.Reply.{Reply}
use Rattle.iv_types.specs.declared.reply.Reply.TheVariants as reply
use Rattle.iv_types.specs.Syntax.{StatementTree, insert, update, delete, select, commit, rollback, savepoint}
use Rattle.iv_meaning.specs.Database.{Row, Database}
use Rattle.iv_meaning.specs.Statement.{keep_all, Meaning, Refused, Accepted}
use Rattle.iv_meaning.specs.Transaction.{Saved, Running, told as told_of, means, inside, accepted, refused_inside, from_named, back_to}
use Rattle.iv_meaning.specs.Serial.{Unended}
use Rattle.iv_meaning.proofs.SerialLemmas.{keep_append}
use Rattle.txn_machine.specs.Acts as act
use Rattle.txn_machine.specs.Acts.{Act}
use Rattle.txn_machine.specs.Answers as answer
use Rattle.txn_machine.specs.Answers.{Answer}
use Rattle.txn_machine.specs.Deltas.{RowChange}
use Rattle.script_law.specs.Seen.{Fails, Ends, event, is_stop, is_deadlock_event, Txn, IsTruthful, kept_of, changes, in_order, IsReadyIn}
use Rattle.script_law.specs.Programs.{Standing, outside_with, Todo, says, asks, Job, IsDone, passed_inside, told, commits, rolls_back as closes_back, loses, Closes, Fits, IsOf, IsAt, Grows, AreWhole, AreMarks, AreSaved, oldest, lone, names_of, marked_names, stays_inside, Serves, MayCome, Proceeds, next_txn}
use Rattle.script_law.specs.Works.{Work, done, refuses, fetches, puts, alone_on, OnlyReads, is_work, Works, WorkLaws}
use Rattle.script_law.specs.Sessions.{undo, failed, runs, keeps_standing, rolls_back, inside_frame, from_marked, returns_to, start_inside, refused_marked, commit_next, end_next, undo_next, rows_next, changed_next}
use Rattle.script_law.proofs.Changing.{changes_append, in_order_append, kept_makes}
use Rattle.script_law.proofs.Refusing.{inside_accepted, told_as}
use Rattle.script_law.proofs.Lone.{oldest_of, oldest_more, marks_more, saved_more, marked_from, from_both, refused_same, StandsFine, fine_alone}
use Rattle.script_law.proofs.Working.{Since, since_first, since_none, begun_on, Settles, settles_back, undo_serves, ComesTo, FrameServes, runs_serves}

now_so : {X : Type 0} → IsTrue false ⊎ X → X
now_so (inl e) = absurd (cc)
now_so (inr x) = x

pub stop_is_no_deadlock : (why : EngineRefusal) → is_stop (Fails why) ≡ true → is_deadlock_event why ≡ false
stop_is_no_deadlock (refusal.Stopped n) e = refl
stop_is_no_deadlock refusal.DiskFault e = refl
stop_is_no_deadlock _ e = absurd (cc)

-- an engine that is known to be stopped says nothing else
pub data OnlyStops : Act → Answer → Type 0 where
  stops : (a : Act) (why : EngineRefusal) → is_stop (Fails why) ≡ true → OnlyStops a (answer.Refused why)

pub only_stops : (a : Act) (said : Answer) → IsTrue (is_stop (event a said)) → OnlyStops a said
only_stops a (answer.Refused why) e = stops a why e
only_stops (act.Begin mode) _ e = absurd (cc)
only_stops _ _ e = absurd (cc)

pub or_true : (b c : Bool) → c ≡ true → (b || c) ≡ true
or_true true c e = refl
or_true false c e = e

-- a step where the engine is known to be stopped
pub halted : (j : Job) (t : Option Txn) (a : Act) (f : Answer → Bool → Todo) → ((why : EngineRefusal) (memory : Bool) → is_stop (Fails why) ≡ true → Serves true j t (f (answer.Refused why) memory)) → Serves true j t (asks a f)
halted j t a f h = (inl refl, λ said memory m. by said memory (only_stops a said (m.stop refl)))
  where
    same : (t : Option Txn) (why : EngineRefusal) → next_txn t (Fails why) ≡ t
    same None why = refl
    same (Some t) why = refl

    by : (said : Answer) (memory : Bool) → OnlyStops a said → Proceeds j t (event a said) (f said memory) (Serves (true || is_stop (event a said)) j (next_txn t (event a said)) (f said memory))
    by _ memory (stops a why e) = subst (λ x. Serves true j x (f (answer.Refused why) memory)) (sym (same t why)) (h why memory e)

-- a step that only a stop can refuse
pub refused_by_stop : (b : Bool) (j : Job) (t : Txn) (next : Todo) (why : EngineRefusal) → is_stop (Fails why) ≡ true → Serves true j (Some t) next → Serves (b || is_stop (Fails why)) j (Some t) next
refused_by_stop b j t next why e h = subst (λ c. Serves c j (Some t) next) (sym (or_true b (is_stop (Fails why)) e)) h

-- a transaction that came of another
pub record Comes (first t : Txn) : Type 0 where
  pub mode_is : t.mode ≡ first.mode
  pub number_is : t.number ≡ first.number
  pub objects_is : t.objects ≡ first.objects
  pub back : (db : Database) → IsTruthful db t → IsTruthful db first

pub comes_of : (first t : Txn) (later : List (Option RowChange)) (n : ℕ) → Since first t later n → Comes first t
comes_of first t later n h = record { mode_is = h.mode_is; number_is = h.number_is; objects_is = h.objects_is; back = h.back }

pub comes_none : (first t : Txn) (later : List (Option RowChange)) (n : ℕ) → Since (record first { kept = [] }) t later n → Comes first t
comes_none first t later n h = record {
  mode_is = h.mode_is;
  number_is = h.number_is;
  objects_is = h.objects_is;
  back = λ db all. let x = h.back db all in record { sound = x.sound; schema = x.schema; told = x.told };
}

pub comes_self : (t : Txn) → Comes t t
comes_self t = record { mode_is = refl; number_is = refl; objects_is = refl; back = λ db h. h }

accepted_work : (statement : StatementTree) (r : Running) → is_work statement ≡ true → accepted statement r ≡ told_of (means statement r.db) r
accepted_work (select query order) r w = refl
accepted_work (insert table tuples) r w = refl
accepted_work (update table ss condition) r w = refl
accepted_work (delete table condition) r w = refl
accepted_work _ r w = absurd (cc)

work_stays : (statement : StatementTree) → is_work statement ≡ true → stays_inside statement ≡ true
work_stays (select query order) w = refl
work_stays (insert table tuples) w = refl
work_stays (update table ss condition) w = refl
work_stays (delete table condition) w = refl
work_stays _ w = absurd (cc)

module _ (works : Works) (laws : WorkLaws works) (b : Bool) (o : Unended) (t : Txn) (standing : Standing) (at : IsAt b o t standing) (statement : StatementTree) (number : ℕ) where
  abbrev the_job : Job
  the_job = record { statement = statement; before = Some o; number = number; copy = standing.copy }

  -- the lone transaction
  abbrev ran : Database → Running
  ran db = (lone o db).1

  of_comes : (t' : Txn) → Comes t t' → IsOf o t'
  of_comes t' h = record { mode_is = h.mode_is ∙ at.is.mode_is; number_is = h.number_is ∙ at.is.number_is; told = λ db all. at.is.told db (h.back db all) }

  copy_comes : (t' : Txn) → Comes t t' → standing.copy ≡ t'.objects
  copy_comes t' h = at.copy_is ∙ sym h.objects_is

  grows_comes : (t' : Txn) → Comes t t' → Grows standing.copy t'.objects
  grows_comes t' h = ([], sym (copy_comes t' h) ∙ sym (append-nil standing.copy))

  stopped_at : (t' : Txn) → Comes t t' → IsAt true o t' standing
  stopped_at t' h = record {
    is = of_comes t' h;
    mode_is = at.mode_is;
    copy_is = copy_comes t' h;
    names = λ db all. at.names db (h.back db all);
    fits = inl refl;
    counts = inl refl;
    marks = inl refl;
    ready = inl refl;
    snapshot = inl refl;
  }

  -- the engine is stopped
  keeps_stops : (t' : Txn) (why : EngineRefusal) → Comes t t' → is_stop (Fails why) ≡ true → Serves true the_job (Some t') (keeps_standing works standing why)
  keeps_stops t' why h e =
      passed_inside o t' standing (works.tell standing.copy None why) refl (laws.engines standing.copy None why) (laws.deadlocks standing.copy None why ∙ stop_is_no_deadlock why e) (stopped_at t' h)

  not_refused : refused_marked o.mode standing.saved statement ≡ None → (db : Database) → IsTruthful db t → refused_inside o.mode (ran db).saved statement ≡ None
  not_refused e db truth = sym (refused_same o.mode (ran db).saved standing.saved statement (at.names db truth)) ∙ e

  -- what it came to is sound, of the same definitions
  fine_ran : (db : Database) → IsTruthful db t → StandsFine works laws db.schema (ran db)
  fine_ran db truth = fine_alone works laws db.schema o.mode (map (λ (p : StatementTree × List Reply). p.0) o.told) (record { db = db; kept = []; saved = [] }) ((truth.sound, refl), tt)

  -- ---- SAVEPOINT

  saves : (name : List ℕ) → statement ≡ savepoint name → refused_marked o.mode standing.saved statement ≡ None
      → IsDone b the_job (Some t) (reply.Done 0 ∷ []) (record standing { saved = (name, standing.kept) ∷ standing.saved })
  saves name is e = told o t (reply.Done 0 ∷ []) (record standing { saved = (name, standing.kept) ∷ standing.saved }) refl (ap stays_inside is)
      (told_as b o t (record standing { saved = (name, standing.kept) ∷ standing.saved }) statement (reply.Done 0 ∷ [])
      (λ db. record (ran db) { saved = record { name = name; db = (ran db).db; kept = (ran db).kept } ∷ (ran db).saved })
      at.is at.mode_is at.copy_is
      (λ db truth. inside_accepted o.mode statement (ran db) (not_refused e db truth) ∙ ap (λ x. accepted x (ran db)) is)
      (λ db truth. ap (λ l. name ∷ l) (at.names db truth))
      (marked at.fits at.counts) at.counts (marks_now at.marks at.counts) at.ready at.snapshot)
    where
      whole : (n : ℕ) → length t.kept ≡ n → oldest n t.kept ≡ t.kept
      whole n many = ap (λ m. oldest m t.kept) (sym many) ∙ oldest_of [] t.kept

      marked : IsTrue b ⊎ ((db : Database) → IsTruthful db t → Fits t standing db (lone o db).1) → IsTrue b ⊎ (length t.kept ≡ standing.kept)
          → IsTrue b ⊎ ((db : Database) → IsTruthful db t → Fits t (record standing { saved = (name, standing.kept) ∷ standing.saved }) db (record (lone o db).1 { saved = record { name = name; db = (lone o db).1.db; kept = (lone o db).1.kept } ∷ (lone o db).1.saved }))
      marked (inl e) c = inl e
      marked (inr f) (inl e) = inl e
      marked (inr f) (inr c) = inr (λ db truth.
          let fit = f db truth in
          let same : oldest standing.kept t.kept ≡ t.kept = whole standing.kept c in
          record {
            db_is = fit.db_is;
            kept_is = fit.kept_is;
            saved = (
              fit.kept_is ∙ ap (λ l. in_order (changes l)) (sym same),
              fit.db_is ∙ ap (λ ks. keep_all ks db) (sym fit.kept_is),
              subst (λ l. AreSaved db l (lone o db).1.saved standing.saved) (sym same) fit.saved,
            );
          })

      marks_now : IsTrue b ⊎ AreMarks t.kept standing.saved → IsTrue b ⊎ (length t.kept ≡ standing.kept) → IsTrue b ⊎ AreMarks t.kept ((name, standing.kept) ∷ standing.saved)
      marks_now (inl e) c = inl e
      marks_now (inr m) (inl e) = inl e
      marks_now (inr m) (inr c) = inr ([], t.kept, refl, c, inl refl, m)

  -- ---- what comes without a step

  -- by the session's definitions the statement means what its work comes to
  at_once : (db : Database) → IsTruthful db t → is_work statement ≡ true → (w : Work) → works.work o.mode standing.copy statement ≡ w → means statement (ran db).db ≡ alone_on w (ran db).db []
  at_once db truth w x is =
      let fine = (fine_ran db truth).0 in
      sym (laws.right o.mode statement w (ran db).db fine.0) ∙ ap (λ s. alone_on (works.work o.mode s statement) (ran db).db []) (fine.1 ∙ truth.schema ∙ sym at.copy_is)
      ∙ ap (λ y. alone_on y (ran db).db []) is

  denies_at_once : (why : Refusal) → is_work statement ≡ true → refused_marked o.mode standing.saved statement ≡ None → works.work o.mode standing.copy statement ≡ refuses why
      → IsDone b the_job (Some t) (reply.Error why ∷ []) standing
  denies_at_once why w e is = told o t (reply.Error why ∷ []) standing refl (work_stays statement w)
      (told_as b o t standing statement (reply.Error why ∷ []) (λ db. (lone o db).1) at.is at.mode_is at.copy_is
      (λ db truth. inside_accepted o.mode statement (ran db) (not_refused e db truth) ∙ accepted_work statement (ran db) w
      ∙ ap (λ m. told_of m (ran db)) (at_once db truth w (refuses why) is))
      at.names at.fits at.counts at.marks at.ready at.snapshot)

-- ---- where the engine is known to be stopped

module _ (works : Works) (laws : WorkLaws works) (o : Unended) (t : Txn) (standing : Standing) (at : IsAt true o t standing) (statement : StatementTree) (number : ℕ) where
  abbrev j : Job
  j = record { statement = statement; before = Some o; number = number; copy = standing.copy }

  stop_at : (why : EngineRefusal) → is_stop (Fails why) ≡ true → Serves true (record { statement = statement; before = Some o; number = number; copy = standing.copy }) (Some t) (keeps_standing works standing why)
  stop_at why e = keeps_stops works laws true o t standing at statement number t why (comes_self t) e

  rolls_halted : (n : ℕ) (next : Todo) → Serves true j (Some t) (rolls_back works standing n next)
  rolls_halted zero next = halted j (Some t) act.End (end_next next (keeps_standing works standing)) (λ why memory e. stop_at why e)
  rolls_halted (suc n) next = halted j (Some t) act.UndoOne (undo_next _ (keeps_standing works standing)) (λ why memory e. stop_at why e)

  returns_halted : (n : ℕ) (next : Todo) → (n ≡ 0 → Serves true j (Some t) next) → Serves true j (Some t) (undo works n next (keeps_standing works standing))
  returns_halted zero next h = h refl
  returns_halted (suc n) next h = halted j (Some t) act.UndoOne (undo_next _ (keeps_standing works standing)) (λ why memory e. stop_at why e)

  failed_halted : (mode : Mode) (n : ℕ) (why : EngineRefusal) → is_stop (Fails why) ≡ true → Serves true j (Some t) (failed works standing.copy mode (inside_frame works standing) n None why)
  failed_halted mode n why e = subst (λ c. Serves true j (Some t) (if c then says (reply.Error (works.tell standing.copy None why) ∷ []) standing
      else if is_deadlock_event why then (inside_frame works standing).lost n (works.tell standing.copy None why) else (inside_frame works standing).back n (works.tell standing.copy None why))) (sym e) (stop_at why e)

  lists_halted : (listed : List Row) (count : ℕ) → is_work statement ≡ true → refused_marked o.mode standing.saved statement ≡ None → works.work o.mode standing.copy statement ≡ done listed count
      → IsDone true j (Some t) (map reply.Row listed ++ reply.Done count ∷ []) (record standing { kept = 0 + standing.kept })
  lists_halted listed count w e is = told o t (map reply.Row listed ++ reply.Done count ∷ []) (record standing { kept = 0 + standing.kept }) refl (work_stays statement w)
      (told_as true o t (record standing { kept = 0 + standing.kept }) statement (map reply.Row listed ++ reply.Done count ∷ [])
      (λ db. record (lone o db).1 { db = keep_all [] (lone o db).1.db; kept = (lone o db).1.kept ++ [] }) at.is at.mode_is at.copy_is
      (λ db truth. inside_accepted o.mode statement (lone o db).1 (not_refused works laws true o t standing at statement number e db truth) ∙ accepted_work statement (lone o db).1 w
      ∙ ap (λ m. told_of m (lone o db).1) (at_once works laws true o t standing at statement number db truth w (done listed count) is))
      at.names (inl refl) (inl refl) (inl refl) (inl refl) (inl refl))

  work_halted : is_work statement ≡ true → refused_marked o.mode standing.saved statement ≡ None → (mode : Mode) → o.mode ≡ mode → (w : Work) → works.work o.mode standing.copy statement ≡ w
      → Serves true j (Some t) (runs works standing.copy mode (inside_frame works standing) w 0)
  work_halted is e mode em (done listed count) ew = lists_halted listed count is e ew
  work_halted is e mode em (refuses why) ew = denies_at_once works laws true o t standing at statement number why is e ew
  work_halted is e Serial em (fetches index interval lock f) ew = halted j (Some t) (act.Fetch index interval lock) (rows_next _ _ _) (λ why memory x. failed_halted Serial 0 why x)
  work_halted is e Snapshot em (fetches index interval lock f) ew = halted j (Some t) (act.Peek index interval) (rows_next _ _ _) (λ why memory x. failed_halted Snapshot 0 why x)
  work_halted is e mode em (puts table key new f) ew = halted j (Some t) (act.Put table key new) (changed_next _ _ _) (λ why memory x. failed_halted mode 0 why x)

-- ---- where it is not

marked_work : (mode : Mode) (saved : List (List ℕ × ℕ)) (statement : StatementTree) → is_work statement ≡ true → refused_marked mode saved statement ≡ refused_inside mode [] statement
marked_work mode saved (select query order) w = refl
marked_work mode saved (insert table tuples) w = refl
marked_work mode saved (update table ss condition) w = refl
marked_work mode saved (delete table condition) w = refl
marked_work mode saved _ w = absurd (cc)

module _ (works : Works) (laws : WorkLaws works) (o : Unended) (t : Txn) (standing : Standing) (at : IsAt false o t standing) (statement : StatementTree) (number : ℕ) where
  abbrev job_now : Job
  job_now = record { statement = statement; before = Some o; number = number; copy = standing.copy }

  abbrev lone_now : Database → Running
  lone_now db = (lone o db).1

  fits_now : (db : Database) → IsTruthful db t → Fits t standing db (lone o db).1
  fits_now db truth = now_so at.fits db truth

  counts_now : length t.kept ≡ standing.kept
  counts_now = now_so at.counts

  marks_now : AreMarks t.kept standing.saved
  marks_now = now_so at.marks

  ready_now : IsReadyIn o.mode t
  ready_now = now_so at.ready

  snapshot_now : o.mode ≡ Snapshot → t.kept ≡ []
  snapshot_now m = now_so at.snapshot m

  stop_after : (t' : Txn) (why : EngineRefusal) → Comes t t' → is_stop (Fails why) ≡ true → Serves true job_now (Some t') (keeps_standing works standing why)
  stop_after t' why h e = keeps_stops works laws false o t standing at statement number t' why h e

  -- all is taken back that was kept since
  undone_at : (t' : Txn) → Since t t' [] 0 → t'.owed ≡ 0 → IsAt false o t' standing
  undone_at t' h none = record {
    is = of_comes works laws false o t standing at statement number t' (comes_of t t' [] 0 h);
    mode_is = at.mode_is;
    copy_is = at.copy_is ∙ sym h.objects_is;
    names = λ db all. at.names db (h.back db all);
    fits = inr (λ db all.
        let f = fits_now db (h.back db all) in
        record {
          db_is = f.db_is ∙ ap (λ l. keep_all (in_order (changes l)) db) (sym h.kept_is);
          kept_is = f.kept_is ∙ ap (λ l. in_order (changes l)) (sym h.kept_is);
          saved = subst (λ l. AreSaved db l (lone o db).1.saved standing.saved) (sym h.kept_is) f.saved;
        });
    counts = inr (ap length h.kept_is ∙ counts_now);
    marks = inr (subst (λ l. AreMarks l standing.saved) (sym h.kept_is) marks_now);
    ready = inr (record { mode_is = h.mode_is ∙ at.is.mode_is; owes_nothing = none });
    snapshot = inr (λ m. h.kept_is ∙ snapshot_now m);
  }

  -- the whole transaction is taken back and ends
  rolls_serves : (next : Todo) → ((t' : Txn) → Comes t t' → t'.kept ≡ [] → Closes job_now (Some t') Ends next) → (n : ℕ) (t' : Txn) (later : List (Option RowChange)) → Since (record t { kept = [] }) t' later n
      → Serves false job_now (Some t') (rolls_back works standing n next)
  rolls_serves next closes n t' later h = undo_serves job_now works (λ l x. Unit {0}) (λ x k l m e u. tt) t' (record t { kept = [] }) (asks act.End (end_next next (keeps_standing works standing))) (keeps_standing works standing)
      (λ t'' h'' u from. (inr h''.kept_is, by t'' (comes_none t t'' [] 0 h'') h''.kept_is))
      (λ t'' later'' n'' why h'' e. stop_after t'' why (comes_none t t'' later'' n'' h'') e)
      n t' later h tt (λ db all. all)
    where
      by : (t'' : Txn) → Comes t t'' → t''.kept ≡ [] → (said : Answer) (memory : Bool) → MayCome false (Some t'') act.End said
          → Proceeds job_now (Some t'') (event act.End said) (end_next next (keeps_standing works standing) said memory) (Serves (false || is_stop (event act.End said)) job_now (next_txn (Some t'') (event act.End said)) (end_next next (keeps_standing works standing) said memory))
      by t'' h'' none answer.Ended memory m = closes t'' h'' none
      by t'' h'' none (answer.Refused why) memory m = refused_by_stop false job_now t'' (keeps_standing works standing why) why m.can (stop_after t'' why h'' m.can)
      by t'' h'' none _ memory m = absurd m.can

  since_whole : (n : ℕ) → length t.kept ≡ n → Since (record t { kept = [] }) t t.kept n
  since_whole n many = record {
    kept_is = sym (append-nil t.kept);
    count_is = many;
    mode_is = refl;
    number_is = refl;
    objects_is = refl;
    back = λ db all. record { sound = all.sound; schema = all.schema; told = all.told };
  }

  -- ---- works

  module _ (w : is_work statement ≡ true) (goes : refused_marked o.mode standing.saved statement ≡ None) where
    abbrev whole : Work
    whole = works.work o.mode standing.copy statement

    -- what the statement means where it comes alone to this
    means_so : (t' : Txn) (m : Meaning) → ((db : Database) → IsTruthful db t' → IsTruthful db t) → ComesTo job_now works standing.copy o.mode (inside_frame works standing) t at.is.mode_is whole t' m
        → (db : Database) → IsTruthful db t' → means statement (lone_now db).db ≡ m
    means_so t' m back comes db all =
        let truth = back db all in
        let fine = fine_ran works laws false o t standing at statement number db truth in
        let same_copy : standing.copy ≡ (lone_now db).db.schema = at.copy_is ∙ sym truth.schema ∙ sym fine.0.1 in
        let same_db : begun_on t db ≡ (lone_now db).db = sym ((fits_now db truth).db_is ∙ kept_makes (changes t.kept) db) in
        sym (laws.right o.mode statement w (lone_now db).db fine.0.0) ∙ sym (λ k. alone_on (works.work o.mode (same_copy k) statement) (same_db k) []) ∙ comes db all

    told_so : (t' : Txn) (m : Meaning) → ((db : Database) → IsTruthful db t' → IsTruthful db t) → ComesTo job_now works standing.copy o.mode (inside_frame works standing) t at.is.mode_is whole t' m
        → (db : Database) → IsTruthful db t' → inside o.mode statement (lone_now db) ≡ told_of m (lone_now db)
    told_so t' m back comes db all =
        inside_accepted o.mode statement (lone_now db) (not_refused works laws false o t standing at statement number goes db (back db all))
        ∙ accepted_work statement (lone_now db) w ∙ ap (λ x. told_of x (lone_now db)) (means_so t' m back comes db all)

    kept_later : (t' : Txn) (later : List (Option RowChange)) (n : ℕ) → Since t t' later n → kept_of t' ≡ kept_of t ++ in_order (changes later)
    kept_later t' later n h = ap (λ l. in_order (changes l)) h.kept_is ∙ ap in_order (changes_append later t.kept) ∙ in_order_append (changes later) (changes t.kept)

    finishes : (t' : Txn) (later : List (Option RowChange)) (n : ℕ) (listed : List Row) (count : ℕ) → Since t t' later n → t'.owed ≡ 0 → AreWhole later
        → ComesTo job_now works standing.copy o.mode (inside_frame works standing) t at.is.mode_is whole t' (Accepted listed count (in_order (changes later)))
        → (t.mode ≡ Snapshot → later ≡ []) → Serves false job_now (Some t') ((inside_frame works standing).finish listed count n)
    finishes t' later n listed count h none whole comes reads =
        told o t' (map reply.Row listed ++ reply.Done count ∷ []) (record standing { kept = n + standing.kept }) refl (work_stays statement w)
        (told_as false o t' (record standing { kept = n + standing.kept }) statement (map reply.Row listed ++ reply.Done count ∷ [])
        (λ db. record (lone_now db) { db = keep_all (in_order (changes later)) (lone_now db).db; kept = (lone_now db).kept ++ in_order (changes later) })
        (of_comes works laws false o t standing at statement number t' (comes_of t t' later n h)) at.mode_is (at.copy_is ∙ sym h.objects_is)
        (λ db all. told_so t' (Accepted listed count (in_order (changes later))) h.back comes db all)
        (λ db all. at.names db (h.back db all))
        (inr (λ db all.
        let f = fits_now db (h.back db all) in
        record {
          db_is = ap (keep_all (in_order (changes later))) f.db_is ∙ sym (keep_append (kept_of t) (in_order (changes later)) db) ∙ ap (λ ks. keep_all ks db) (sym (kept_later t' later n h));
          kept_is = ap (λ ks. ks ++ in_order (changes later)) f.kept_is ∙ sym (kept_later t' later n h);
          saved = subst (λ l. AreSaved db l (lone o db).1.saved standing.saved) (sym h.kept_is) (saved_more db later t.kept (lone o db).1.saved standing.saved marks_now f.saved);
        }))
        (inr (ap length h.kept_is ∙ length-append later t.kept ∙ (λ k. h.count_is k + counts_now k)))
        (inr (subst (λ l. AreMarks l standing.saved) (sym h.kept_is) (marks_more later t.kept standing.saved whole marks_now)))
        (inr (record { mode_is = h.mode_is ∙ at.is.mode_is; owes_nothing = none }))
        (inr (λ m. h.kept_is ∙ (λ k. reads (at.is.mode_is ∙ m) k ++ snapshot_now m k))))

    back_serves : (t' : Txn) (later : List (Option RowChange)) (n : ℕ) (why : Refusal) → Since t t' later n → Settles later t'
        → ((t'' : Txn) → Since t t'' [] 0 → t''.owed ≡ 0 → ((db : Database) → IsTruthful db t'' → IsTruthful db t') → IsDone false job_now (Some t'') (reply.Error why ∷ []) standing)
        → Serves false job_now (Some t') ((inside_frame works standing).back n why)
    back_serves t' later n why h so leaf = undo_serves job_now works Settles settles_back t' t (says (reply.Error why ∷ []) standing) (keeps_standing works standing)
        (λ t'' h'' none from. leaf t'' h'' none from)
        (λ t'' later'' n'' x h'' e. stop_after t'' x (comes_of t t'' later'' n'' h'') e)
        n t' later h so (λ db all. all)

    frame_serves : FrameServes job_now works standing.copy o.mode (inside_frame works standing) t at.is.mode_is whole
    frame_serves = record {
      finishes = finishes;
      denied = λ t' later n why h so comes. back_serves t' later n why h so (λ t'' h'' none from.
          told o t'' (reply.Error why ∷ []) standing refl (work_stays statement w)
          (let at'' = undone_at t'' h'' none in
          told_as false o t'' standing statement (reply.Error why ∷ []) (λ db. lone_now db) at''.is at''.mode_is at''.copy_is
          (λ db all. told_so t' (Refused why) h.back comes db (from db all)) at''.names at''.fits at''.counts at''.marks at''.ready at''.snapshot));
      passes = λ t' later n why h so engines alive. back_serves t' later n why h so (λ t'' h'' none from. passed_inside o t'' standing why refl engines alive (undone_at t'' h'' none));
      loses = λ t' later n why h engines dead. rolls_serves (says (reply.Error why ∷ []) (outside_with standing.copy))
          (λ t'' c none. loses o why standing.copy refl engines dead (of_comes works laws false o t standing at statement number t'' c) none (grows_comes works laws false o t standing at statement number t'' c))
          (n + standing.kept) t' (later ++ t.kept) (subst (λ m. Since (record t { kept = [] }) t' (later ++ t.kept) (n + m)) counts_now (since_none t t' later n h));
      stops = λ t' later n why h engines alive. passed_inside o t' standing why refl engines alive (stopped_at works laws false o t standing at statement number t' (comes_of t t' later n h));
    }

    works_serve : Serves false job_now (Some t) (runs works standing.copy o.mode (inside_frame works standing) (works.work o.mode standing.copy statement) 0)
    works_serve = runs_serves job_now works standing.copy o.mode (inside_frame works standing) t at.is.mode_is whole laws frame_serves whole 0 t [] (record {
      since = since_first t;
      settles = ready_now.owes_nothing;
      ready = ready_now.owes_nothing;
      leads = λ db all. refl;
      reads = λ m. (subst (λ x. OnlyReads (works.work x standing.copy statement)) (sym (sym at.is.mode_is ∙ m)) (laws.reads statement w (reads_only m) standing.copy), refl, snapshot_now (sym at.is.mode_is ∙ m));
    })
      where
        reads_only : t.mode ≡ Snapshot → refused_inside Snapshot [] statement ≡ None
        reads_only m = subst (λ x. refused_inside x [] statement ≡ None) (sym at.is.mode_is ∙ m) (sym (marked_work o.mode standing.saved statement w) ∙ goes)

-- ---- all statements

module _ (works : Works) (laws : WorkLaws works) (o : Unended) (t : Txn) (standing : Standing) (number : ℕ) where
  abbrev job_of : StatementTree → Job
  job_of statement = record { statement = statement; before = Some o; number = number; copy = standing.copy }

  commits_serve : (b : Bool) → IsAt b o t standing
      → Serves b (job_of commit) (Some t) (asks act.Commit (commit_next (λ n. says (reply.Commit n ∷ []) (outside_with standing.copy)) (keeps_standing works standing)))
  commits_serve true at = halted (job_of commit) (Some t) act.Commit (commit_next (λ n. says (reply.Commit n ∷ []) (outside_with standing.copy)) (keeps_standing works standing)) (λ why memory e. stop_at works laws o t standing at commit number why e)
  commits_serve false at = (inr (record { mode_is = refl; owes_nothing = (now_so at.ready).owes_nothing }), by)
    where
      by : (said : Answer) (memory : Bool) → MayCome false (Some t) act.Commit said
          → Proceeds (job_of commit) (Some t) (event act.Commit said) (commit_next (λ n. says (reply.Commit n ∷ []) (outside_with standing.copy)) (keeps_standing works standing) said memory)
          (Serves (false || is_stop (event act.Commit said)) (job_of commit) (next_txn (Some t) (event act.Commit said)) (commit_next (λ n. says (reply.Commit n ∷ []) (outside_with standing.copy)) (keeps_standing works standing) said memory))
      by (answer.Committed n) memory m = commits o n standing standing.copy refl refl at (grows_comes works laws false o t standing at commit number t (comes_self t))
      by (answer.Refused why) memory m = refused_by_stop false (job_of commit) t (keeps_standing works standing why) why m.can (stop_after works laws o t standing at commit number t why (comes_self t) m.can)
      by _ memory m = absurd m.can

  rolls_all : (b : Bool) → IsAt b o t standing → Serves b (job_of (rollback None)) (Some t) (rolls_back works standing standing.kept (says (reply.Done 0 ∷ []) (outside_with standing.copy)))
  rolls_all true at = rolls_halted works laws o t standing at (rollback None) number standing.kept (says (reply.Done 0 ∷ []) (outside_with standing.copy))
  rolls_all false at = rolls_serves works laws o t standing at (rollback None) number (says (reply.Done 0 ∷ []) (outside_with standing.copy))
      (λ t' c none. closes_back o standing.copy refl refl (of_comes works laws false o t standing at (rollback None) number t' c) none (grows_comes works laws false o t standing at (rollback None) number t' c))
      standing.kept t t.kept (since_whole works laws o t standing at (rollback None) number standing.kept (now_so at.counts))

  -- ROLLBACK TO
  module _ (name : List ℕ) (p : List ℕ × ℕ) (ps : List (List ℕ × ℕ)) (is : from_marked name standing.saved ≡ p ∷ ps) (goes : refused_marked o.mode standing.saved (rollback (Some name)) ≡ None) where
    abbrev back_standing : Standing
    back_standing = record standing { saved = p ∷ ps; kept = p.1 }

    names_back : (b : Bool) → IsAt b o t standing → (db : Database) → IsTruthful db t → names_of (from_named name (lone o db).1.saved) ≡ marked_names (p ∷ ps)
    names_back b at db truth = (from_both name (lone o db).1.saved standing.saved (at.names db truth)).names ∙ ap marked_names is

    back_names : (saved : List Saved) (r : Running) → names_of saved ≡ marked_names (p ∷ ps) → names_of (back_to saved r).saved ≡ marked_names (p ∷ ps)
    back_names [] r e = absurd (cc)
    back_names (s ∷ ss) r e = e

    returns_done : (b : Bool) → IsAt b o t standing → (t' : Txn) → Comes t t'
        → (IsTrue b ⊎ ((db : Database) → IsTruthful db t' → Fits t' back_standing db (back_to (from_named name (lone o db).1.saved) (lone o db).1)))
        → (IsTrue b ⊎ (length t'.kept ≡ p.1)) → (IsTrue b ⊎ AreMarks t'.kept (p ∷ ps)) → (IsTrue b ⊎ IsReadyIn o.mode t') → (IsTrue b ⊎ (o.mode ≡ Snapshot → t'.kept ≡ []))
        → IsDone b (job_of (rollback (Some name))) (Some t') (reply.Done 0 ∷ []) back_standing
    returns_done b at t' c fits counts marks ready snapshot = told o t' (reply.Done 0 ∷ []) back_standing refl refl
        (told_as b o t' back_standing (rollback (Some name)) (reply.Done 0 ∷ []) (λ db. back_to (from_named name (lone o db).1.saved) (lone o db).1)
        (of_comes works laws b o t standing at (rollback (Some name)) number t' c) at.mode_is (at.copy_is ∙ sym c.objects_is)
        (λ db all. inside_accepted o.mode (rollback (Some name)) (lone o db).1 (not_refused works laws b o t standing at (rollback (Some name)) number goes db (c.back db all)))
        (λ db all. back_names (from_named name (lone o db).1.saved) (lone o db).1 (names_back b at db (c.back db all)))
        fits counts marks ready snapshot)

    -- it fits what the savepoint kept
    fits_back : (earlier : List (Option RowChange)) (t' : Txn) (db : Database) (r : Running) (saved : List Saved) → t'.kept ≡ earlier → length earlier ≡ p.1 → oldest p.1 t.kept ≡ earlier
        → names_of saved ≡ marked_names (p ∷ ps) → AreSaved db t.kept saved (p ∷ ps) → Fits t' back_standing db (back_to saved r)
    fits_back earlier t' db r [] kept many older e h = absurd h
    fits_back earlier t' db r (s ∷ ss) kept many older e h =
        let kept_is : s.kept ≡ in_order (changes t'.kept) = h.0 ∙ ap (λ l. in_order (changes l)) (older ∙ sym kept) in
        let whole : oldest p.1 earlier ≡ earlier = ap (λ n. oldest n earlier) (sym many) ∙ oldest_of [] earlier in
        record {
          db_is = h.1 ∙ ap (λ ks. keep_all ks db) kept_is;
          kept_is = kept_is;
          saved = (
            kept_is ∙ ap (λ l. in_order (changes l)) (kept ∙ sym whole ∙ ap (oldest p.1) (sym kept)),
            h.1,
            subst (λ l. AreSaved db l ss ps) (older ∙ sym whole ∙ ap (oldest p.1) (sym kept)) h.2,
          );
        }

    end_none : (xs ys : List (Option RowChange)) → xs ++ ys ≡ [] → ys ≡ []
    end_none [] ys e = e
    end_none (x ∷ xs) ys e = absurd (cc)

    returns_go : IsAt false o t standing
        → Serves false (job_of (rollback (Some name))) (Some t) (undo works (standing.kept - p.1) (says (reply.Done 0 ∷ []) back_standing) (keeps_standing works standing))
    returns_go at = undo_serves (job_of (rollback (Some name))) works Settles settles_back t (record t { kept = marks.1 }) (says (reply.Done 0 ∷ []) back_standing) (keeps_standing works standing)
        (λ t' h none from. returns_done false at t' (comes t' [] 0 h)
        (inr (λ db all.
        let truth = from db all in
        fits_back marks.1 t' db (lone o db).1 (from_named name (lone o db).1.saved) h.kept_is marks.3 older (names_back false at db truth)
        (subst (AreSaved db t.kept (from_named name (lone o db).1.saved)) is
        ((from_both name (lone o db).1.saved standing.saved (at.names db truth)).stand db t.kept (now_so at.marks) (now_so at.fits db truth).saved))))
        (inr (ap length h.kept_is ∙ marks.3))
        (inr ([], marks.1, h.kept_is, marks.3, inl refl, marks.5))
        (inr (record { mode_is = h.mode_is ∙ at.is.mode_is; owes_nothing = none }))
        (inr (λ m. h.kept_is ∙ end_none marks.0 marks.1 (sym marks.2 ∙ now_so at.snapshot m))))
        (λ t' later n why h e. stop_after works laws o t standing at (rollback (Some name)) number t' why (comes t' later n h) e)
        (standing.kept - p.1) t marks.0 (record {
          kept_is = marks.2;
          count_is = many;
          mode_is = refl;
          number_is = refl;
          objects_is = refl;
          back = λ db all. record { sound = all.sound; schema = all.schema; told = all.told };
        }) (settles_now marks.0 marks.4) (λ db all. all)
      where
        marks : AreMarks t.kept (p ∷ ps)
        marks = subst (AreMarks t.kept) is (marked_from name standing.saved t.kept (now_so at.marks))

        settles_now : (later : List (Option RowChange)) → AreWhole later → Settles later t
        settles_now [] h = (now_so at.ready).owes_nothing
        settles_now (k ∷ ks) (inl e) = absurd (cc)
        settles_now (k ∷ ks) (inr h) = h

        older : oldest p.1 t.kept ≡ marks.1
        older = oldest_more [] t.kept marks.0 marks.1 p.1 marks.2 marks.3

        many : length marks.0 ≡ standing.kept - p.1
        many =
            let all : length marks.0 + length marks.1 ≡ standing.kept = sym (length-append marks.0 marks.1) ∙ ap length (sym marks.2) ∙ now_so at.counts in
            let some : length marks.1 ≡ p.1 = marks.3 in
            omega (arith, all, some)

        comes : (t' : Txn) (later : List (Option RowChange)) (n : ℕ) → Since (record t { kept = marks.1 }) t' later n → Comes t t'
        comes t' later n h = record {
          mode_is = h.mode_is;
          number_is = h.number_is;
          objects_is = h.objects_is;
          back = λ db all. let x = h.back db all in record { sound = x.sound; schema = x.schema; told = x.told };
        }

    returns_stopped : IsAt true o t standing
        → Serves true (job_of (rollback (Some name))) (Some t) (undo works (standing.kept - p.1) (says (reply.Done 0 ∷ []) back_standing) (keeps_standing works standing))
    returns_stopped at = returns_halted works laws o t standing at (rollback (Some name)) number (standing.kept - p.1) (says (reply.Done 0 ∷ []) back_standing)
        (λ e. returns_done true at t (comes_self t) (inl refl) (inl refl) (inl refl) (inl refl) (inl refl))

  returns_serve : (b : Bool) (name : List ℕ) → IsAt b o t standing → refused_marked o.mode standing.saved (rollback (Some name)) ≡ None
      → Serves b (job_of (rollback (Some name))) (Some t) (returns_to works standing (from_marked name standing.saved))
  returns_serve b name at e = by b (from_marked name standing.saved) refl at e
    where
      by : (b : Bool) (ps : List (List ℕ × ℕ)) → from_marked name standing.saved ≡ ps → IsAt b o t standing → refused_marked o.mode standing.saved (rollback (Some name)) ≡ None
          → Serves b (job_of (rollback (Some name))) (Some t) (returns_to works standing ps)
      by b [] is at e = absurd (none-some (UnknownSavepoint name) (sym e ∙ (λ k. elim (is k) [ [] ↦ Some (UnknownSavepoint name) | p ∷ more ↦ None ])))
      by true (p ∷ ps) is at e = returns_stopped name p ps is e at
      by false (p ∷ ps) is at e = returns_go name p ps is e at

  pub inside_serves : (b : Bool) (statement : StatementTree) → IsAt b o t standing → refused_marked o.mode standing.saved statement ≡ None
      → Serves b (job_of statement) (Some t) (start_inside works o.mode standing statement)
  inside_serves b commit at e = commits_serve b at
  inside_serves b (rollback None) at e = rolls_all b at
  inside_serves b (rollback (Some name)) at e = returns_serve b name at e
  inside_serves b (savepoint name) at e = saves works laws b o t standing at (savepoint name) number name refl e
  inside_serves true (select query order) at e = work_halted works laws o t standing at (select query order) number refl e o.mode refl _ refl
  inside_serves false (select query order) at e = works_serve works laws o t standing at (select query order) number refl e
  inside_serves true (insert table tuples) at e = work_halted works laws o t standing at (insert table tuples) number refl e o.mode refl _ refl
  inside_serves false (insert table tuples) at e = works_serve works laws o t standing at (insert table tuples) number refl e
  inside_serves true (update table ss condition) at e = work_halted works laws o t standing at (update table ss condition) number refl e o.mode refl _ refl
  inside_serves false (update table ss condition) at e = works_serve works laws o t standing at (update table ss condition) number refl e
  inside_serves true (delete table condition) at e = work_halted works laws o t standing at (delete table condition) number refl e o.mode refl _ refl
  inside_serves false (delete table condition) at e = works_serve works laws o t standing at (delete table condition) number refl e
  inside_serves b _ at e = absurd (cc)
