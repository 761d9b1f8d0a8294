-- What a statement may tell in the end, whatever its steps are answered that an engine answers.
use Rattle.std.specs.Prelude.{◌≡◌, ℕ, zero, suc, ◌+◌, ◌==◌, Bool, true, false, List, [], ◌∷◌, ◌++◌, map, length, Option, Some, None, if◌then◌else◌}
use mathlib.Core.Path.{refl, sym, subst}
use Rattle.iv_types.specs.declared.statement.Mode.{Mode}
use Rattle.iv_types.specs.declared.statement.Mode.TheVariants.{Serial, Snapshot}
use Rattle.iv_types.specs.declared.lock.GroupDelta.{GroupDelta}
use Rattle.iv_types.specs.declared.lock.LockMode.{LockMode}
use Rattle.iv_types.specs.declared.value.Interval.{Interval}
use Rattle.iv_types.specs.declared.refusal.Refusal.{Refusal}
use Rattle.iv_types.specs.declared.refusal.Refusal.TheVariants.{NoMemory}
use Rattle.iv_types.specs.declared.refusal.EngineRefusal.{EngineRefusal}
use Rattle.iv_types.specs.declared.refusal.EngineRefusal.TheVariants as engine
use Rattle.iv_types.specs.declared.reply.Reply.{Reply}
use Rattle.iv_types.specs.declared.reply.Reply.TheVariants as reply
use Rattle.iv_meaning.specs.Schema.{Schema}
use Rattle.iv_meaning.specs.Database.{Row}
use Rattle.txn_machine.specs.Acts as act
use Rattle.txn_machine.specs.Acts.{Act}
use Rattle.txn_machine.specs.Answers as answer
use Rattle.txn_machine.specs.Answers.{Answer}
use Rattle.txn_machine.specs.Alone.{Story}
use Rattle.txn_machine.specs.Laws.{IsReachedStory}
use Rattle.script_law.specs.Seen.{Event, Waits, LacksRow, Fails, event, is_stop, is_deadlock_event, CanCome}
use Rattle.script_law.specs.Programs.{Standing, outside_with, Todo, says, asks, ghosts}
use Rattle.script_law.specs.RunLines.{Outcome, ended, stuck, stepped, act_of, asked_next, ghost_next, next_of, IsNotBlocked, RunsOn, has_ended, is_blocked, goes_on}
use Rattle.script_law.specs.Machine.{DoesOf}
use Rattle.script_law.specs.Works.{Work, done, refuses, fetches, puts, Works}
use Rattle.script_law.specs.Sessions.{undo_next, end_next, commit_next, rows_next, changed_next, paid_next, defs_next, Frame, reads_by, undo, failed, pay_failed, pays, runs, keeps_standing, rolls_back, inside_frame, stays_out, ends_with, outside_frame, fails_defs, begins_with}
use Rattle.script_law.proofs.OverMachine.{machine_laws}
use Rattle.statement_law.specs.Telling.{tell}
use Rattle.script_runs.proofs.Plays.{programs}

-- a step may be answered so, and the statement goes on by the answer
abbrev pub GoesBy : Act → Event → Type 0
GoesBy a (Waits sessions) = ⊥
GoesBy a LacksRow = ⊥
GoesBy a e = CanCome a e

module _ (P : List Reply → Type 0) where
  -- what it ends with is so
  abbrev pub Tells : Todo → Type 0
  Tells (says replies standing) = P replies
  Tells (asks a f) = (said : Answer) (memory : Bool) → GoesBy a (event a said) → Tells (f said memory)
  Tells (ghosts f) = (said : Answer) (memory : Bool) → GoesBy act.Pay (event act.Pay said) → Tells (f said memory)

  abbrev pub TellsSo : Outcome → Type 0
  TellsSo (ended replies standing) = P replies
  TellsSo (stuck sessions todo) = Tells todo
  TellsSo (stepped todo) = Tells todo

  -- ---- runs

  lacks_pay : (a : Act) (said : Answer) → event a said ≡ LacksRow → a ≡ act.Pay
  lacks_pay act.Pay said e = refl
  lacks_pay (act.Fetch index interval lock) (answer.Blocked x) e = absurd (cc)
  lacks_pay (act.Put table key new) (answer.Blocked x) e = absurd (cc)
  lacks_pay a (answer.Refused why) e = absurd (cc)
  lacks_pay a said e = absurd (cc)

  asked_tells : (a : Act) (f : Answer → Bool → Todo) (said : Answer) (memory : Bool) → Tells (asks a f) → CanCome a (event a said) → IsNotBlocked (event a said)
      → (e : Event) → event a said ≡ e → Tells (asked_next e said memory f)
  asked_tells a f said memory h can free LacksRow is = subst (λ x. (s : Answer) (m : Bool) → GoesBy x (event x s) → Tells (f s m)) (lacks_pay a said is) h
  asked_tells a f said memory h can free (Waits sessions) is = absurd (subst IsNotBlocked is free)
  asked_tells a f said memory h can free e is = h said memory (subst (GoesBy a) (sym is) (subst (CanCome a) is can))

  ghost_tells : (f : Answer → Bool → Todo) (said : Answer) (memory : Bool) → Tells (ghosts f) → CanCome act.Ghost (event act.Ghost said) → Tells (ghost_next said memory f)
  ghost_tells f answer.Ghosted memory h can = h
  ghost_tells f (answer.Refused why) memory h can = h (answer.Refused why) memory tt
  ghost_tells f said memory h can = absurd can

  next_tells : (todo : Todo) (a : Act) → act_of todo ≡ Some a → (said : Answer) (memory : Bool) → Tells todo → CanCome a (event a said) → IsNotBlocked (event a said) → Tells (next_of todo said memory)
  next_tells (says replies standing) a is said memory h can free = h
  next_tells (asks b f) a is said memory h can free =
      let same : b ≡ a = cc in
      asked_tells b f said memory h (subst (λ x. CanCome x (event x said)) (sym same) can) (subst (λ x. IsNotBlocked (event x said)) (sym same) free) (event b said) refl
  next_tells (ghosts f) a is said memory h can free =
      let same : act.Ghost ≡ a = cc in
      ghost_tells f said memory h (subst (λ x. CanCome x (event x said)) (sym same) can)

  pub run_tells : (i : ℕ) (todo : Todo) (s : Story) (n : ℕ) (o : Outcome) (after : Story) → RunsOn DoesOf programs (tell [] None) i todo s n o after → IsReachedStory s → Tells todo → TellsSo o
  run_tells i _ _ _ _ _ (has_ended replies standing s) r h = h
  run_tells i _ _ _ _ _ (is_blocked todo a s mid said sessions has does waits) r h = h
  run_tells i _ _ _ _ _ (goes_on todo a s mid after said memory fewer o has does free more) r h =
      run_tells i (next_of todo said memory) mid fewer o after more (machine_laws.stands s mid i a said r does) (next_tells todo a has said memory h (machine_laws.answers s mid i a said r does) free)

  -- ---- programs, where a refusal may be told

  module _ (error : (why : Refusal) → P (reply.Error why ∷ [])) (works : Works) where
    undo_tells : (n : ℕ) (next : Todo) (fail : EngineRefusal → Todo) → Tells next → ((why : EngineRefusal) → Tells (fail why)) → Tells (undo works n next fail)
    undo_tells zero next fail h k = h
    undo_tells (suc n) next fail h k = by (undo_tells n next fail h k)
      where
        by : Tells (undo works n next fail) → (said : Answer) (memory : Bool) → GoesBy act.UndoOne (event act.UndoOne said) → Tells (undo_next (undo works n next fail) fail said memory)
        by rest (answer.Undone left) memory g = rest
        by rest (answer.Refused why) memory g = k why
        by rest said memory g = absurd g

    end_tells : (next : Todo) (fail : EngineRefusal → Todo) → Tells next → ((why : EngineRefusal) → Tells (fail why)) → Tells (asks act.End (end_next next fail))
    end_tells next fail h k = by
      where
        by : (said : Answer) (memory : Bool) → GoesBy act.End (event act.End said) → Tells (end_next next fail said memory)
        by answer.Ended memory g = h
        by (answer.Refused why) memory g = k why
        by said memory g = absurd g

    commit_tells : (next : ℕ → Todo) (fail : EngineRefusal → Todo) → ((number : ℕ) → Tells (next number)) → ((why : EngineRefusal) → Tells (fail why)) → Tells (asks act.Commit (commit_next next fail))
    commit_tells next fail h k = by
      where
        by : (said : Answer) (memory : Bool) → GoesBy act.Commit (event act.Commit said) → Tells (commit_next next fail said memory)
        by (answer.Committed number) memory g = h number
        by (answer.Refused why) memory g = k why
        by said memory g = absurd g

    -- what follows a work
    record FrameTells (frame : Frame) : Type 0 where
      finish : (listed : List Row) (count n : ℕ) → Tells (frame.finish listed count n)
      back : (n : ℕ) (why : Refusal) → Tells (frame.back n why)
      lost : (n : ℕ) (why : Refusal) → Tells (frame.lost n why)
      stopped : (why : Refusal) → Tells (frame.stopped why)

    choice : (b c : Bool) (x y z : Todo) → Tells x → Tells y → Tells z → Tells (if b then x else if c then y else z)
    choice true c x y z h k l = h
    choice false true x y z h k l = k
    choice false false x y z h k l = l

    module _ (copy : Schema) (mode : Mode) (frame : Frame) (h : FrameTells frame) where
      failed_tells : (n : ℕ) (delta : Option GroupDelta) (why : EngineRefusal) → Tells (failed works copy mode frame n delta why)
      failed_tells n delta why =
          let told : Refusal = works.tell copy delta why in
          choice (is_stop (Fails why)) (is_deadlock_event why) (frame.stopped told) (frame.lost n told) (frame.back n told) (h.stopped told) (h.lost n told) (h.back n told)

      pay_failed_tells : (n : ℕ) (d : GroupDelta) (memory : Bool) (why : EngineRefusal) → Tells (pay_failed works copy mode frame n d memory why)
      pay_failed_tells n d false (engine.Escrow column inf sup) = h.back n NoMemory
      pay_failed_tells n d true why = failed_tells n (Some d) why
      pay_failed_tells n d memory why = failed_tells n (Some d) why

      pays_tell : (ds : List GroupDelta) (next : ℕ → Todo) (n : ℕ) → ((m : ℕ) → Tells (next m)) → Tells (pays works copy mode frame ds next n)
      pays_tell [] next n k = k n
      pays_tell (d ∷ ds) next n k = by (pays_tell ds next (n + 1) k)
        where
          by : Tells (pays works copy mode frame ds next (n + 1)) → (said : Answer) (memory : Bool) → GoesBy act.Pay (event act.Pay said)
              → Tells (paid_next (pays works copy mode frame ds next (n + 1)) (frame.back (n + 1) NoMemory) (pay_failed works copy mode frame n d) said memory)
          by rest (answer.Paid left) true g = rest
          by rest (answer.Paid left) false g = h.back (n + 1) NoMemory
          by rest (answer.Refused why) memory g = pay_failed_tells n d memory why
          by rest said memory g = absurd g

      rows_tell : (m : Mode) (index : ℕ) (interval : Interval) (lock : LockMode) (n : ℕ) (next : List Row → Todo) → ((rows : List Row) → Tells (next rows))
          → Tells (asks (reads_by m index interval lock) (rows_next next (frame.back n NoMemory) (failed works copy mode frame n None)))
      rows_tell Serial index interval lock n next k = by
        where
          by : (said : Answer) (memory : Bool) → GoesBy (act.Fetch index interval lock) (event (act.Fetch index interval lock) said) → Tells (rows_next next (frame.back n NoMemory) (failed works copy mode frame n None) said memory)
          by (answer.Rows rows) true g = k rows
          by (answer.Rows rows) false g = h.back n NoMemory
          by (answer.Refused why) memory g = failed_tells n None why
          by said memory g = absurd g
      rows_tell Snapshot index interval lock n next k = by
        where
          by : (said : Answer) (memory : Bool) → GoesBy (act.Peek index interval) (event (act.Peek index interval) said) → Tells (rows_next next (frame.back n NoMemory) (failed works copy mode frame n None) said memory)
          by (answer.Rows rows) true g = k rows
          by (answer.Rows rows) false g = h.back n NoMemory
          by (answer.Refused why) memory g = failed_tells n None why
          by said memory g = absurd g

      changed_tells : (table : ℕ) (key : List ℕ) (new : Option Row) (n : ℕ) (next : Option Row → List GroupDelta → Todo) → ((before : Option Row) (owed : List GroupDelta) → Tells (next before owed))
          → Tells (asks (act.Put table key new) (changed_next next (frame.back (n + 1) NoMemory) (failed works copy mode frame n None)))
      changed_tells table key new n next k = by
        where
          by : (said : Answer) (memory : Bool) → GoesBy (act.Put table key new) (event (act.Put table key new) said) → Tells (changed_next next (frame.back (n + 1) NoMemory) (failed works copy mode frame n None) said memory)
          by (answer.Changed before owed) true g = k before owed
          by (answer.Changed before owed) false g = h.back (n + 1) NoMemory
          by (answer.Refused why) memory g = failed_tells n None why
          by said memory g = absurd g

      work_tells : (w : Work) (n : ℕ) → Tells (runs works copy mode frame w n)
      work_tells (done listed count) n = h.finish listed count n
      work_tells (refuses why) n = h.back n why
      work_tells (fetches index interval lock f) n = rows_tell mode index interval lock n (λ rows. runs works copy mode frame (f rows) n) (λ rows. work_tells (f rows) n)
      work_tells (puts table key new f) n = changed_tells table key new n (λ before owed. pays works copy mode frame owed (λ m. runs works copy mode frame (f before) m) (n + 1))
          (λ before owed. pays_tell owed (λ m. runs works copy mode frame (f before) m) (n + 1) (λ m. work_tells (f before) m))

    -- ---- inside a transaction, where replies may be told

    rolls_tell : (standing : Standing) (n : ℕ) (next : Todo) → Tells next → Tells (rolls_back works standing n next)
    rolls_tell standing n next h =
        undo_tells n (asks act.End (end_next next (keeps_standing works standing))) (keeps_standing works standing) (end_tells next (keeps_standing works standing) h (λ why. error _)) (λ why. error _)

    pub inside_work : (listed : (rows : List Row) (count : ℕ) → P (map reply.Row rows ++ reply.Done count ∷ [])) → (mode : Mode) (standing : Standing) (w : Work)
        → Tells (runs works standing.copy mode (inside_frame works standing) w 0)
    inside_work listed mode standing w = work_tells standing.copy mode (inside_frame works standing) (record {
      finish = λ rows count n. listed rows count;
      back = λ n why. undo_tells n (says (reply.Error why ∷ []) standing) (keeps_standing works standing) (error why) (λ w. error _);
      lost = λ n why. rolls_tell standing (n + standing.kept) (says (reply.Error why ∷ []) (outside_with standing.copy)) (error why);
      stopped = λ why. error why;
    }) w 0

    -- ---- outside one

    ends_tell : (copy : Schema) (why : Refusal) → Tells (ends_with works copy why)
    ends_tell copy why = end_tells (says (reply.Error why ∷ []) (outside_with copy)) (stays_out works copy) (error why) (λ w. error _)

    module _ (committed : (rows : List Row) (count number : ℕ) → P (map reply.Row rows ++ reply.Done count ∷ reply.Commit number ∷ [])) where
      outside_work : (copy : Schema) (w : Work) → Tells (runs works copy Serial (outside_frame works copy) w 0)
      outside_work copy w = work_tells copy Serial (outside_frame works copy) (record {
        finish = λ rows count n. commit_tells (λ number. says (map reply.Row rows ++ reply.Done count ∷ reply.Commit number ∷ []) (outside_with copy)) (stays_out works copy) (committed rows count) (λ w. error _);
        back = λ n why. undo_tells n (ends_with works copy why) (stays_out works copy) (ends_tell copy why) (λ w. error _);
        lost = λ n why. undo_tells n (ends_with works copy why) (stays_out works copy) (ends_tell copy why) (λ w. error _);
        stopped = λ why. error why;
      }) w 0

      fails_defs_tell : (copy : Schema) (why : EngineRefusal) → Tells (fails_defs works copy why)
      fails_defs_tell copy why = by (is_stop (Fails why))
        where
          by : (b : Bool) → Tells (if b then stays_out works copy why else ends_with works copy (works.tell copy None why))
          by true = error _
          by false = ends_tell copy _

      module _ (copy : Schema) (work : Schema → Work) where
        abbrev next : Schema → ℕ → Todo
        next held number = runs works held Serial (outside_frame works held) (work held) 0

        learnt : (number : ℕ) (said : Answer) (memory : Bool) → GoesBy act.Defs (event act.Defs said) → Tells (defs_next (λ objects. next objects number) (ends_with works copy NoMemory) (fails_defs works copy) said memory)
        learnt number (answer.Defs objects) true g = outside_work objects (work objects)
        learnt number (answer.Defs objects) false g = ends_tell copy NoMemory
        learnt number (answer.Refused why) memory g = fails_defs_tell copy why
        learnt number said memory g = absurd g

        knows : (number : ℕ) (b : Bool) → Tells (if b then next copy number else asks act.Defs (defs_next (λ objects. next objects number) (ends_with works copy NoMemory) (fails_defs works copy)))
        knows number true = outside_work copy (work copy)
        knows number false = learnt number

        pub alone_tells : Tells (begins_with works Serial copy next)
        alone_tells (answer.Begun number defs) true g = knows number (defs == length copy)
        alone_tells (answer.Begun number defs) false g = ends_tell copy NoMemory
        alone_tells (answer.Refused why) memory g = error _
        alone_tells said memory g = absurd g
