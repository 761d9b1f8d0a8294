-- The programs of statements outside a transaction are right.
use Rattle.std.specs.Prelude.{◌≡◌, ◌⊎◌, ℕ, suc, ◌+◌, ◌==◌, Bool, true, false, IsTrue, ◌||◌, cond, List, [], ◌∷◌, ◌++◌, map, length, Option, Some, None, if◌then◌else◌}
use mathlib.Core.Path.{refl, sym, ap, subst, ◌∙◌}
use mathlib.Core.Logic.{inl, inr}
use Rattle.std.proofs.Common.{arith, append-nil, eqb-true}
use Rattle.std.proofs.lemmas.List.{length-append}
use Rattle.iv_types.specs.declared.statement.Mode.{Mode}
use Rattle.iv_types.specs.declared.statement.Mode.TheVariants.{Serial}
use Rattle.iv_types.specs.declared.refusal.Refusal.{Refusal}
use Rattle.iv_types.specs.declared.refusal.Refusal.TheVariants.{NoMemory}
use Rattle.iv_types.specs.declared.refusal.EngineRefusal.{EngineRefusal}
use Rattle.iv_types.specs.declared.reply.Reply.TheVariants as reply
use Rattle.iv_types.specs.Syntax.{StatementTree, create_table, create_index, create_view, insert, update, delete, select, begin}
use Rattle.iv_meaning.specs.Schema.{Schema}
use Rattle.iv_meaning.specs.Database.{Row, Database}
use Rattle.iv_meaning.specs.Statement.{keep_all, Meaning, Refused, Accepted}
use Rattle.iv_meaning.specs.Transaction.{Transaction, means, outside, ended_by, refused_outside, next_number, begin_reply}
use Rattle.iv_meaning.specs.Serial.{is_engines}
use Rattle.iv_meaning.proofs.SerialLemmas.{same_number}
use Rattle.txn_machine.specs.Acts as act
use Rattle.txn_machine.specs.Acts.{Act}
use Rattle.txn_machine.specs.Answers as answer
use Rattle.txn_machine.specs.Answers.{Answer}
use Rattle.txn_machine.specs.Deltas.{RowChange}
use Rattle.script_law.specs.Seen.{Fails, Ends, event, is_stop, Txn, IsTruthful, kept_of, changes, in_order, new_txn, MayWant}
use Rattle.script_law.specs.Programs.{outside_with, Todo, says, asks, Job, IsDone, passed_outside, began, IsClosed, is_alone, is_refused, is_passed, creates, denies, IsOut, IsLone, Grows, objects_of, is_begin, Serves, OpensFirst, Starts, BeginsSo, MayCome, Proceeds, next_txn}
use Rattle.script_law.specs.Works.{Work, alone_on, is_work, Works, WorkLaws}
use Rattle.script_law.specs.Sessions.{undo, runs, stays_out, ends_with, outside_frame, fails_defs, begins_with, creates_with, start_outside, commit_next, end_next, begun_next, defs_next, schema_next}
use Rattle.script_law.proofs.Working.{Since, since_first, undo_serves, ComesTo, FrameServes, runs_serves}
use Rattle.script_law.proofs.Inside.{refused_by_stop}

outside_by : (statement : StatementTree) (db : Database) → refused_outside statement ≡ None → outside statement db ≡ ended_by (means statement db) db
outside_by statement db e = λ k. elim (e k) [ Some refusal ↦ ended_by (Refused refusal) db | None ↦ ended_by (means statement db) db ]

work_outside : (statement : StatementTree) → is_work statement ≡ true → refused_outside statement ≡ None
work_outside (select query order) w = refl
work_outside (insert table tuples) w = refl
work_outside (update table ss condition) w = refl
work_outside (delete table condition) w = refl
work_outside _ w = absurd (cc)

work_no_begin : (statement : StatementTree) → is_work statement ≡ true → is_begin statement ≡ false
work_no_begin (select query order) w = refl
work_no_begin (insert table tuples) w = refl
work_no_begin (update table ss condition) w = refl
work_no_begin (delete table condition) w = refl
work_no_begin _ w = absurd (cc)

-- ---- a work that is a transaction of its own

module _ (works : Works) (laws : WorkLaws works) (statement : StatementTree) (w : is_work statement ≡ true) (number : ℕ) (copy : Schema) (objects : Schema) (began_at : ℕ) where
  abbrev the_job : Job
  the_job = record { statement = statement; before = None; number = number; copy = copy }

  abbrev first : Txn
  first = new_txn Serial began_at objects

  abbrev whole : Work
  whole = works.work Serial objects statement

  grows_now : (t : Txn) (later : List (Option RowChange)) (n : ℕ) → Since first t later n → Grows objects t.objects
  grows_now t later n h = ([], h.objects_is ∙ sym (append-nil objects))

  -- a stop leaves the engine's transaction open, and the session counts as outside
  stop_serves : (t : Txn) (later : List (Option RowChange)) (n : ℕ) (why : Refusal) → Since first t later n → IsTrue (is_engines why) → Serves true the_job (Some t) (says (reply.Error why ∷ []) (outside_with objects))
  stop_serves t later n why h engines = passed_outside (Some t) why objects refl engines (inr refl) (grows_now t later n h)

  stays_serves : (t : Txn) (later : List (Option RowChange)) (n : ℕ) (why : EngineRefusal) → Since first t later n → Serves true the_job (Some t) (stays_out works objects why)
  stays_serves t later n why h = stop_serves t later n (works.tell objects None why) h (laws.engines objects None why)

  -- all is taken back, and the transaction ends
  back_serves : (t : Txn) (later : List (Option RowChange)) (n : ℕ) (why : Refusal) → Since first t later n
      → ((t' : Txn) → Since first t' [] 0 → ((db : Database) → IsTruthful db t' → IsTruthful db t) → IsClosed the_job t' Ends (says (reply.Error why ∷ []) (outside_with objects)))
      → Serves false the_job (Some t) (undo works n (ends_with works objects why) (stays_out works objects))
  back_serves t later n why h closes = undo_serves the_job works (λ l x. Unit {0}) (λ x k l m e u. tt) t first (ends_with works objects why) (stays_out works objects)
      (λ t' h' u from. (inr h'.kept_is, by t' h' from))
      (λ t' later' n' x h' e. stays_serves t' later' n' x h')
      n t later h tt (λ db all. all)
    where
      by : (t' : Txn) → Since first t' [] 0 → ((db : Database) → IsTruthful db t' → IsTruthful db t) → (said : Answer) (memory : Bool) → MayCome false (Some t') act.End said
          → Proceeds the_job (Some t') (event act.End said) (end_next (says (reply.Error why ∷ []) (outside_with objects)) (stays_out works objects) said memory)
          (Serves (false || is_stop (event act.End said)) the_job (next_txn (Some t') (event act.End said)) (end_next (says (reply.Error why ∷ []) (outside_with objects)) (stays_out works objects) said memory))
      by t' h' from answer.Ended memory m = closes t' h' from
      by t' h' from (answer.Refused x) memory m = refused_by_stop false the_job t' (stays_out works objects x) x m.can (stays_serves t' [] 0 x h')
      by t' h' from _ memory m = absurd m.can

  -- what the statement means where it comes alone to this
  outside_so : (t : Txn) (later : List (Option RowChange)) (n : ℕ) (m : Meaning) → Since first t later n → ComesTo the_job works objects Serial (outside_frame works objects) first refl whole t m
      → (db : Database) → IsTruthful db t → outside statement db ≡ ended_by m db
  outside_so t later n m h comes db all =
      let truth = h.back db all in
      let right = laws.right Serial statement w db truth.sound in
      outside_by statement db (work_outside statement w)
      ∙ ap (λ x. ended_by x db) (sym right ∙ ap (λ os. alone_on (works.work Serial os statement) db []) truth.schema ∙ comes db all)

  finishes : (t : Txn) (later : List (Option RowChange)) (n : ℕ) (listed : List Row) (count : ℕ) → Since first t later n → t.owed ≡ 0
      → ComesTo the_job works objects Serial (outside_frame works objects) first refl whole t (Accepted listed count (in_order (changes later)))
      → Serves false the_job (Some t) ((outside_frame works objects).finish listed count n)
  finishes t later n listed count h none comes = (inr (record { mode_is = refl; owes_nothing = none }), by)
    where
      abbrev_next : ℕ → Todo
      abbrev_next = λ m. says (map reply.Row listed ++ reply.Done count ∷ reply.Commit m ∷ []) (outside_with objects)

      kept_is : kept_of t ≡ in_order (changes later)
      kept_is = ap (λ l. in_order (changes l)) (h.kept_is ∙ append-nil later)

      lone_so : (m : ℕ) (db : Database) → m ≡ next_number (kept_of t) db.number → IsLone statement t (map reply.Row listed ++ reply.Done count ∷ reply.Commit m ∷ []) (kept_of t) db
      lone_so m db e all =
          let so = outside_so t later n (Accepted listed count (in_order (changes later))) h comes db all in
          let number_is : m ≡ next_number (in_order (changes later)) (keep_all (in_order (changes later)) db).number =
          e ∙ ap (λ ks. next_number ks db.number) kept_is ∙ ap (next_number (in_order (changes later))) (sym (same_number (in_order (changes later)) db)) in (
            ap (λ x. map reply.Row listed ++ reply.Done count ∷ reply.Commit x ∷ []) number_is ∙ sym (ap (λ (x : Transaction). x.replies) so),
            kept_is ∙ sym (ap (λ (x : Transaction). x.kept) so),
          )

      by : (said : Answer) (memory : Bool) → MayCome false (Some t) act.Commit said
          → Proceeds the_job (Some t) (event act.Commit said) (commit_next (λ m. says (map reply.Row listed ++ reply.Done count ∷ reply.Commit m ∷ []) (outside_with objects)) (stays_out works objects) said memory)
          (Serves (false || is_stop (event act.Commit said)) the_job (next_txn (Some t) (event act.Commit said)) (commit_next (λ m. says (map reply.Row listed ++ reply.Done count ∷ reply.Commit m ∷ []) (outside_with objects)) (stays_out works objects) said memory))
      by (answer.Committed m) memory x = is_alone m (map reply.Row listed ++ reply.Done count ∷ reply.Commit m ∷ []) objects refl (work_no_begin statement w) h.mode_is (λ db e. lone_so m db e) (grows_now t later n h)
      by (answer.Refused why) memory x = refused_by_stop false the_job t (stays_out works objects why) why x.can (stays_serves t later n why h)
      by _ memory x = absurd x.can

  frame_serves : FrameServes the_job works objects Serial (outside_frame works objects) first refl whole
  frame_serves = record {
    finishes = λ t later n listed count h none whole comes reads. finishes t later n listed count h none comes;
    denied = λ t later n why h so comes. back_serves t later n why h (λ t' h' from.
        is_refused (reply.Error why ∷ []) objects refl (work_no_begin statement w) h'.mode_is
        (λ db all. let so = outside_so t later n (Refused why) h comes db (from db all) in (sym (ap (λ (x : Transaction). x.replies) so), sym (ap (λ (x : Transaction). x.kept) so)))
        h'.kept_is (grows_now t' [] 0 h'));
    passes = λ t later n why h so engines alive. back_serves t later n why h (λ t' h' from. is_passed why objects refl engines h'.kept_is (grows_now t' [] 0 h'));
    loses = λ t later n why h engines dead. back_serves t later n why h (λ t' h' from. is_passed why objects refl engines h'.kept_is (grows_now t' [] 0 h'));
    stops = λ t later n why h engines alive. stop_serves t later n why h engines;
  }

  pub work_serves : Serves false the_job (Some first) (runs works objects Serial (outside_frame works objects) whole 0)
  work_serves = runs_serves the_job works objects Serial (outside_frame works objects) first refl whole laws frame_serves whole 0 first [] (record {
    since = since_first first;
    settles = refl;
    ready = refl;
    leads = λ db all. refl;
    reads = λ m. absurd (cc);
  })

-- ---- the first steps

module _ (works : Works) (laws : WorkLaws works) (statement : StatementTree) (number : ℕ) (copy : Schema) where
  abbrev j : Job
  j = record { statement = statement; before = None; number = number; copy = copy }

  -- the engine refuses what the session needs outside a transaction
  refused_out : (b : Bool) (t : Option Txn) (held : Schema) (why : EngineRefusal) → IsOut b t → Grows held (objects_of (record { statement = statement; before = None; number = number; copy = copy }) t)
      → IsDone b j t (reply.Error (works.tell held None why) ∷ []) (outside_with held)
  refused_out b t held why out g = passed_outside t (works.tell held None why) held refl (laws.engines held None why) out g

  out_or : (b c : Bool) (t : Option Txn) → IsOut b t → IsOut (b || c) t
  out_or b c t (inl e) = inl e
  out_or true c t (inr e) = inr refl
  out_or false c t (inr e) = absurd (cc)

  no_copy : (one other : Schema) → Grows one other → length one ≡ length other → one ≡ other
  no_copy one other (more, is) many = by more is many
    where
      by : (more : Schema) → other ≡ one ++ more → length one ≡ length other → one ≡ other
      by [] is many = sym (is ∙ append-nil one)
      by (x ∷ xs) is many =
          let both : length other ≡ length one + suc (length xs) = ap length is ∙ length-append one (x ∷ xs) in
          absurd (omega (arith, many, both))

  open_not : (b : Bool) (t : Txn) → IsOut b (Some t) → (IsTrue b → ⊥) → ⊥
  open_not b t (inl e) n = cc
  open_not b t (inr e) n = n e

  -- a transaction begins, and goes on with all definitions
  module _ (mode : Mode) (next : Schema → ℕ → Todo)
      (goes : (objects : Schema) → Serves false j (Some (new_txn mode number objects)) (next objects number)) where
    -- it ends at once where it can't go on
    ends_serve : (why : Refusal) → IsTrue (is_engines why) → (objects : Schema) → Grows copy objects → Serves false j (Some (new_txn mode number objects)) (ends_with works copy why)
    ends_serve why engines objects g = (inr refl, by)
      where
        by : (said : Answer) (memory : Bool) → MayCome false (Some (new_txn mode number objects)) act.End said
            → Proceeds j (Some (new_txn mode number objects)) (event act.End said) (end_next (says (reply.Error why ∷ []) (outside_with copy)) (stays_out works copy) said memory)
            (Serves (false || is_stop (event act.End said)) j (next_txn (Some (new_txn mode number objects)) (event act.End said)) (end_next (says (reply.Error why ∷ []) (outside_with copy)) (stays_out works copy) said memory))
        by answer.Ended memory m = is_passed why copy refl engines refl g
        by (answer.Refused x) memory m = refused_by_stop false j (new_txn mode number objects) (stays_out works copy x) x m.can (refused_out true (Some (new_txn mode number objects)) copy x (inr refl) g)
        by _ memory m = absurd m.can

    began_serves : (objects : Schema) (defs : ℕ) → Grows copy objects → defs ≡ length objects
        → Serves false j (Some (new_txn mode number objects)) (if defs == length copy then next copy number else asks act.Defs (defs_next (λ held. next held number) (ends_with works copy NoMemory) (fails_defs works copy)))
    began_serves objects defs g many = by (defs == length copy) refl
      where
        same_copy : (defs == length copy) ≡ true → copy ≡ objects
        same_copy e = no_copy copy objects g (sym (eqb-true defs (length copy) e) ∙ many)

        failed : (b : Bool) (why : EngineRefusal) → is_stop (Fails why) ≡ b → Serves (is_stop (Fails why)) j (Some (new_txn mode number objects)) (fails_defs works copy why)
        failed true why e = subst (λ c. Serves c j (Some (new_txn mode number objects)) (if c then stays_out works copy why else ends_with works copy (works.tell copy None why))) (sym e)
            (refused_out true (Some (new_txn mode number objects)) copy why (inr refl) g)
        failed false why e = subst (λ c. Serves c j (Some (new_txn mode number objects)) (if c then stays_out works copy why else ends_with works copy (works.tell copy None why))) (sym e) (ends_serve (works.tell copy None why) (laws.engines copy None why) objects g)

        told_all : (said : Answer) (memory : Bool) → MayCome false (Some (new_txn mode number objects)) act.Defs said
            → Proceeds j (Some (new_txn mode number objects)) (event act.Defs said) (defs_next (λ held. next held number) (ends_with works copy NoMemory) (fails_defs works copy) said memory)
            (Serves (false || is_stop (event act.Defs said)) j (next_txn (Some (new_txn mode number objects)) (event act.Defs said)) (defs_next (λ held. next held number) (ends_with works copy NoMemory) (fails_defs works copy) said memory))
        told_all (answer.Defs held) true m = subst (λ x. Serves false j (Some (new_txn mode number objects)) (next x number)) (sym m.known) (goes objects)
        told_all (answer.Defs held) false m = ends_serve NoMemory refl objects g
        told_all (answer.Refused why) memory m = failed (is_stop (Fails why)) why refl
        told_all _ memory m = absurd m.can

        by : (b : Bool) → (defs == length copy) ≡ b
            → Serves false j (Some (new_txn mode number objects)) (cond b (next copy number) (asks act.Defs (defs_next (λ held. next held number) (ends_with works copy NoMemory) (fails_defs works copy))))
        by true e = subst (λ x. Serves false j (Some (new_txn mode number objects)) (next x number)) (sym (same_copy e)) (goes objects)
        by false e = (inr tt, told_all)

    -- how the program goes on after its first answer
    abbrev begun_goes : Answer → Bool → Todo
    begun_goes said memory =
        begun_next (λ n defs. if defs == length copy then next copy n else asks act.Defs (defs_next (λ held. next held n) (ends_with works copy NoMemory) (fails_defs works copy)))
        (ends_with works copy NoMemory) (stays_out works copy) said memory

    opens_first : (b : Bool) (t : Option Txn) → IsOut b t → Grows copy (objects_of (record { statement = statement; before = None; number = number; copy = copy }) t) → OpensFirst b j t (begins_with works mode copy next)
    opens_first b t out g = (may b t out, λ said memory m. by b t out g said memory m)
      where
        may : (b : Bool) (t : Option Txn) → IsOut b t → IsTrue b ⊎ MayWant t (act.Begin mode)
        may b None out = inr tt
        may b (Some t) (inl e) = absurd (cc)
        may b (Some t) (inr e) = inl e

        by : (b : Bool) (t : Option Txn) → IsOut b t → Grows copy (objects_of (record { statement = statement; before = None; number = number; copy = copy }) t) → (said : Answer) (memory : Bool) → MayCome b t (act.Begin mode) said
            → BeginsSo j (event (act.Begin mode) said) b t (λ b' t'. Serves b' j t' (begun_goes said memory))
        by true t out g (answer.Begun n defs) memory m = absurd (let e = m.stop refl in cc)
        by false None out g (answer.Begun n defs) true m =
            λ is objects more many. subst (λ x. Serves false j (Some (new_txn mode x objects)) (begun_goes (answer.Begun x defs) true)) (sym is) (began_serves objects defs more many)
        by false None out g (answer.Begun n defs) false m =
            λ is objects more many. subst (λ x. Serves false j (Some (new_txn mode x objects)) (begun_goes (answer.Begun x defs) false)) (sym is) (ends_serve NoMemory refl objects more)
        by false (Some t) out g (answer.Begun n defs) memory m = absurd (open_not false t out (λ e. cc))
        by b None out g (answer.Refused why) memory m = refused_out (b || is_stop (Fails why)) None copy why (out_or b (is_stop (Fails why)) None out) g
        by b (Some t) out g (answer.Refused why) memory m = refused_out (b || is_stop (Fails why)) (Some t) copy why (out_or b (is_stop (Fails why)) (Some t) out) g
        by b t out g _ memory m = absurd m.can

  creates_serve : (b : Bool) (t : Option Txn) → IsOut b t → Grows copy (objects_of (record { statement = statement; before = None; number = number; copy = copy }) t) → is_begin statement ≡ false
      → Serves b j t (creates_with works copy statement)
  creates_serve b t out g nb = (may b t out, λ said memory m. by b t out g said memory m)
    where
      may : (b : Bool) (t : Option Txn) → IsOut b t → IsTrue b ⊎ MayWant t (act.Schema statement)
      may b None out = inr tt
      may b (Some t) (inl e) = absurd (cc)
      may b (Some t) (inr e) = inl e

      by : (b : Bool) (t : Option Txn) → IsOut b t → Grows copy (objects_of (record { statement = statement; before = None; number = number; copy = copy }) t) → (said : Answer) (memory : Bool) → MayCome b t (act.Schema statement) said
          → Proceeds j t (event (act.Schema statement) said)
          (schema_next (λ n. says (reply.Done 0 ∷ reply.Commit n ∷ []) (outside_with copy)) (λ why. says (reply.Error why ∷ []) (outside_with copy)) (stays_out works copy) said memory)
          (Serves (b || is_stop (event (act.Schema statement) said)) j (next_txn t (event (act.Schema statement) said))
          (schema_next (λ n. says (reply.Done 0 ∷ reply.Commit n ∷ []) (outside_with copy)) (λ why. says (reply.Error why ∷ []) (outside_with copy)) (stays_out works copy) said memory))
      by b None out g (answer.Committed n) memory m = creates n refl nb
      by b (Some t) out g (answer.Committed n) memory m = absurd (open_not b t out (λ e. let x = m.stop e in cc))
      by b None out g (answer.Denied why) memory m = denies why refl nb
      by b (Some t) out g (answer.Denied why) memory m = absurd (open_not b t out (λ e. let x = m.stop e in cc))
      by b None out g (answer.Refused why) memory m = refused_out (b || is_stop (Fails why)) None copy why (out_or b (is_stop (Fails why)) None out) g
      by b (Some t) out g (answer.Refused why) memory m = refused_out (b || is_stop (Fails why)) (Some t) copy why (out_or b (is_stop (Fails why)) (Some t) out) g
      by b t out g _ memory m = absurd m.can

-- ---- all statements

pub outside_starts : (works : Works) → WorkLaws works → (b : Bool) (t : Option Txn) (copy : Schema) (statement : StatementTree) (number : ℕ) → IsOut b t
    → Grows copy (objects_of (record { statement = statement; before = None; number = number; copy = copy }) t) → refused_outside statement ≡ None
    → Starts b (record { statement = statement; before = None; number = number; copy = copy }) t (start_outside works copy statement)
outside_starts works laws b t copy (create_table name columns primary) number out g e = inl (creates_serve works laws (create_table name columns primary) number copy b t out g refl)
outside_starts works laws b t copy (create_index name of columns) number out g e = inl (creates_serve works laws (create_index name of columns) number copy b t out g refl)
outside_starts works laws b t copy (create_view name query) number out g e = inl (creates_serve works laws (create_view name query) number copy b t out g refl)
outside_starts works laws b t copy (begin mode) number out g e =
    inr (opens_first works laws (begin mode) number copy mode (λ held n. says (begin_reply mode n ∷ []) (record { mode = Some mode; saved = []; kept = 0; copy = held }))
    (λ objects. began mode (new_txn mode number objects) (record { mode = Some mode; saved = []; kept = 0; copy = objects }) refl refl (record {
      is = record { mode_is = refl; number_is = refl; told = λ db truth. refl };
      mode_is = refl;
      copy_is = refl;
      names = λ db truth. refl;
      fits = inr (λ db truth. record { db_is = refl; kept_is = refl; saved = tt });
      counts = inr refl;
      marks = inr tt;
      ready = inr (record { mode_is = refl; owes_nothing = refl });
      snapshot = inr (λ m. refl);
    })) b t out g)
outside_starts works laws b t copy (select query order) number out g e =
    inr (opens_first works laws (select query order) number copy Serial (λ held n. runs works held Serial (outside_frame works held) (works.work Serial held (select query order)) 0) (λ objects. work_serves works laws (select query order) refl number copy objects number) b t out g)
outside_starts works laws b t copy (insert table tuples) number out g e =
    inr (opens_first works laws (insert table tuples) number copy Serial (λ held n. runs works held Serial (outside_frame works held) (works.work Serial held (insert table tuples)) 0) (λ objects. work_serves works laws (insert table tuples) refl number copy objects number) b t out g)
outside_starts works laws b t copy (update table ss condition) number out g e =
    inr (opens_first works laws (update table ss condition) number copy Serial (λ held n. runs works held Serial (outside_frame works held) (works.work Serial held (update table ss condition)) 0) (λ objects. work_serves works laws (update table ss condition) refl number copy objects number) b t out g)
outside_starts works laws b t copy (delete table condition) number out g e =
    inr (opens_first works laws (delete table condition) number copy Serial (λ held n. runs works held Serial (outside_frame works held) (works.work Serial held (delete table condition)) 0) (λ objects. work_serves works laws (delete table condition) refl number copy objects number) b t out g)
outside_starts works laws b t copy _ number out g e = absurd (cc)
