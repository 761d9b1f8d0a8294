-- What the programs of all works do once a step of theirs is refused: where the engine is stopped they have ended, and after a
-- deadlock they take back and end.
use Rattle.std.specs.Prelude.{◌≡◌, ℕ, zero, suc, ◌+◌, ◌-◌, ◌==◌, Bool, true, false, List, [], ◌∷◌, length, Option, Some, None, if◌then◌else◌}
use mathlib.Core.Path.{refl, sym, ◌∙◌}
use Rattle.iv_types.specs.declared.statement.Mode.{Mode}
use Rattle.iv_types.specs.declared.statement.Mode.TheVariants.{Serial}
use Rattle.iv_types.specs.declared.lock.GroupDelta.{GroupDelta}
use Rattle.iv_types.specs.declared.refusal.Refusal.{Refusal}
use Rattle.iv_types.specs.declared.refusal.Refusal.TheVariants.{NoMemory}
use Rattle.iv_types.specs.declared.refusal.EngineRefusal.{EngineRefusal}
use Rattle.iv_types.specs.declared.refusal.EngineRefusal.TheVariants as engine
use Rattle.iv_types.specs.declared.reply.Reply.{Reply}
use Rattle.iv_types.specs.declared.reply.Reply.TheVariants as reply
use Rattle.iv_types.specs.Syntax.{StatementTree, create_table, create_index, create_view, begin, commit, rollback, savepoint}
use Rattle.iv_meaning.specs.Schema.{Schema}
use Rattle.iv_meaning.specs.Database.{Row}
use Rattle.iv_meaning.specs.Transaction.{begin_reply}
use Rattle.txn_machine.specs.Acts as act
use Rattle.txn_machine.specs.Acts.{Act}
use Rattle.txn_machine.specs.Answers as answer
use Rattle.txn_machine.specs.Answers.{Answer}
use Rattle.script_law.specs.Seen.{Fails, is_stop, is_deadlock_event}
use Rattle.script_law.specs.Programs.{Standing, outside_with, Todo, says, asks, ghosts}
use Rattle.script_law.specs.Works.{Work, done, refuses, fetches, puts, Works}
use Rattle.statement_law.specs.Deadlocks.{OnlyTakesBack, TakesBackAfter, YieldsToDeadlocks, DeadlocksLaw}
use Rattle.script_law.specs.Sessions.{Frame, by_refusal, undo_next, end_next, commit_next, rows_next, changed_next, paid_next, begun_next, defs_next, schema_next, from_marked, undo, failed, pay_failed, pays, runs, keeps_standing, rolls_back, inside_frame, returns_to, start_inside, stays_out, ends_with, outside_frame, fails_defs, begins_with, creates_with, start_outside, programs_of}

abbrev pub HasEnded : Todo → Type 0
HasEnded (says replies standing) = Unit {0}
HasEnded _ = ⊥

-- What is asked of the rest of a program that was refused a step, by the refusal. A program that has ended is right, and so is one
-- that only takes back and ends after a deadlock. Of other refusals that do not stop the engine nothing is asked.
pub record Rule (P : EngineRefusal → Todo → Type 0) : Type 0 where
  pub ended : (why : EngineRefusal) (replies : List Reply) (standing : Standing) → P why (says replies standing)
  pub takes_back : (why : EngineRefusal) (todo : Todo) → is_stop (Fails why) ≡ false → is_deadlock_event why ≡ true → OnlyTakesBack todo → P why todo
  pub other : (why : EngineRefusal) (todo : Todo) → is_stop (Fails why) ≡ false → is_deadlock_event why ≡ false → P why todo

module _ (P : EngineRefusal → Todo → Type 0) where
  abbrev pub KeepsBy : Answer → Todo → Type 0
  KeepsBy (answer.Refused why) todo = P why todo
  KeepsBy said todo = Unit {0}

  -- so it is at each of its steps
  abbrev pub Keeps : Todo → Type 0
  Keeps (says replies standing) = Unit {0}
  Keeps (asks a f) = (said : Answer) (memory : Bool) → KeepsBy said (f said memory) × Keeps (f said memory)
  Keeps (ghosts f) = (said : Answer) (memory : Bool) → KeepsBy said (f said memory) × Keeps (f said memory)

module _ (P : EngineRefusal → Todo → Type 0) (rule : Rule P) where
  -- what follows a refusal
  abbrev FailsWell : (EngineRefusal → Todo) → Type 0
  FailsWell fail = (why : EngineRefusal) → P why (fail why) × Keeps P (fail why)

  has_ended : (why : EngineRefusal) (todo : Todo) → HasEnded todo → P why todo
  has_ended why (says replies standing) h = rule.ended why replies standing
  has_ended why (asks a f) h = absurd h
  has_ended why (ghosts f) h = absurd h

  module _ (fail : EngineRefusal → Todo) (well : FailsWell fail) where
    by_refusal_ends : (said : Answer) → KeepsBy P said (by_refusal fail said) × Keeps P (by_refusal fail said)
    by_refusal_ends (answer.Refused why) = well why
    by_refusal_ends _ = (tt, tt)

    undo_ends : (next : Todo) → Keeps P next → (said : Answer) (memory : Bool) → KeepsBy P said (undo_next next fail said memory) × Keeps P (undo_next next fail said memory)
    undo_ends next h (answer.Undone left) memory = (tt, h)
    undo_ends next h (answer.Refused why) memory = well why
    undo_ends next h _ memory = (tt, tt)

    end_ends : (next : Todo) → Keeps P next → (said : Answer) (memory : Bool) → KeepsBy P said (end_next next fail said memory) × Keeps P (end_next next fail said memory)
    end_ends next h answer.Ended memory = (tt, h)
    end_ends next h (answer.Refused why) memory = well why
    end_ends next h _ memory = (tt, tt)

    commit_ends : (next : ℕ → Todo) → ((number : ℕ) → Keeps P (next number)) → (said : Answer) (memory : Bool) → KeepsBy P said (commit_next next fail said memory) × Keeps P (commit_next next fail said memory)
    commit_ends next h (answer.Committed number) memory = (tt, h number)
    commit_ends next h (answer.Refused why) memory = well why
    commit_ends next h _ memory = (tt, tt)

    rows_ends : (lacking : Todo) → Keeps P lacking → (next : List Row → Todo) → ((rows : List Row) → Keeps P (next rows)) → (said : Answer) (memory : Bool) → KeepsBy P said (rows_next next lacking fail said memory) × Keeps P (rows_next next lacking fail said memory)
    rows_ends lacking l next h (answer.Rows rows) true = (tt, h rows)
    rows_ends lacking l next h (answer.Rows rows) false = (tt, l)
    rows_ends lacking l next h (answer.Refused why) memory = well why
    rows_ends lacking l next h _ memory = (tt, tt)

    changed_ends : (lacking : Todo) → Keeps P lacking → (next : Option Row → List GroupDelta → Todo) → ((before : Option Row) (owed : List GroupDelta) → Keeps P (next before owed)) → (said : Answer) (memory : Bool) → KeepsBy P said (changed_next next lacking fail said memory) × Keeps P (changed_next next lacking fail said memory)
    changed_ends lacking l next h (answer.Changed before owed) true = (tt, h before owed)
    changed_ends lacking l next h (answer.Changed before owed) false = (tt, l)
    changed_ends lacking l next h (answer.Refused why) memory = well why
    changed_ends lacking l next h _ memory = (tt, tt)

    begun_ends : (lacking : Todo) → Keeps P lacking → (next : ℕ → ℕ → Todo) → ((number defs : ℕ) → Keeps P (next number defs)) → (said : Answer) (memory : Bool) → KeepsBy P said (begun_next next lacking fail said memory) × Keeps P (begun_next next lacking fail said memory)
    begun_ends lacking l next h (answer.Begun number defs) true = (tt, h number defs)
    begun_ends lacking l next h (answer.Begun number defs) false = (tt, l)
    begun_ends lacking l next h (answer.Refused why) memory = well why
    begun_ends lacking l next h _ memory = (tt, tt)

    defs_ends : (lacking : Todo) → Keeps P lacking → (next : Schema → Todo) → ((objects : Schema) → Keeps P (next objects)) → (said : Answer) (memory : Bool) → KeepsBy P said (defs_next next lacking fail said memory) × Keeps P (defs_next next lacking fail said memory)
    defs_ends lacking l next h (answer.Defs objects) true = (tt, h objects)
    defs_ends lacking l next h (answer.Defs objects) false = (tt, l)
    defs_ends lacking l next h (answer.Refused why) memory = well why
    defs_ends lacking l next h _ memory = (tt, tt)

    schema_ends : (next : ℕ → Todo) (denied : Refusal → Todo) → ((number : ℕ) → Keeps P (next number)) → ((why : Refusal) → Keeps P (denied why))
        → (said : Answer) (memory : Bool) → KeepsBy P said (schema_next next denied fail said memory) × Keeps P (schema_next next denied fail said memory)
    schema_ends next denied h d (answer.Committed number) memory = (tt, h number)
    schema_ends next denied h d (answer.Denied why) memory = (tt, d why)
    schema_ends next denied h d (answer.Refused why) memory = well why
    schema_ends next denied h d _ memory = (tt, tt)

  paid_ends : (fail : Bool → EngineRefusal → Todo) → ((memory : Bool) → FailsWell (fail memory)) → (lacking : Todo) → Keeps P lacking → (next : Todo) → Keeps P next
      → (said : Answer) (memory : Bool) → KeepsBy P said (paid_next next lacking fail said memory) × Keeps P (paid_next next lacking fail said memory)
  paid_ends fail well lacking l next h (answer.Paid left) true = (tt, h)
  paid_ends fail well lacking l next h (answer.Paid left) false = (tt, l)
  paid_ends fail well lacking l next h (answer.Refused why) memory = well memory why
  paid_ends fail well lacking l next h _ memory = (tt, tt)

  module _ (works : Works) where
    undo_stops : (n : ℕ) (next : Todo) (fail : EngineRefusal → Todo) → FailsWell fail → Keeps P next → Keeps P (undo works n next fail)
    undo_stops zero next fail well h = h
    undo_stops (suc n) next fail well h = undo_ends fail well (undo works n next fail) (undo_stops n next fail well h)

    -- what takes back and ends
    undo_takes : (n : ℕ) (next : Todo) (fail : EngineRefusal → Todo) → OnlyTakesBack next → ((why : EngineRefusal) → OnlyTakesBack (fail why)) → OnlyTakesBack (undo works n next fail)
    undo_takes zero next fail h k = h
    undo_takes (suc n) next fail h k = by (undo_takes n next fail h k)
      where
        by : OnlyTakesBack (undo works n next fail) → (said : Answer) (memory : Bool) → OnlyTakesBack (undo_next (undo works n next fail) fail said memory)
        by rest (answer.Undone left) memory = rest
        by rest (answer.Refused why) memory = k why
        by rest _ memory = tt

    end_takes : (next : Todo) (fail : EngineRefusal → Todo) → OnlyTakesBack next → ((why : EngineRefusal) → OnlyTakesBack (fail why)) → OnlyTakesBack (asks act.End (end_next next fail))
    end_takes next fail h k = by
      where
        by : (said : Answer) (memory : Bool) → OnlyTakesBack (end_next next fail said memory)
        by answer.Ended memory = h
        by (answer.Refused why) memory = k why
        by _ memory = tt

    -- what follows a work
    record FrameEnds (frame : Frame) : Type 0 where
      finish : (listed : List Row) (count n : ℕ) → Keeps P (frame.finish listed count n)
      back : (n : ℕ) (why : Refusal) → Keeps P (frame.back n why)
      lost : (n : ℕ) (why : Refusal) → OnlyTakesBack (frame.lost n why) × Keeps P (frame.lost n why)
      stopped : (why : Refusal) → HasEnded (frame.stopped why) × Keeps P (frame.stopped why)

    module _ (copy : Schema) (mode : Mode) (frame : Frame) (h : FrameEnds frame) where
      failed_well : (n : ℕ) (delta : Option GroupDelta) → FailsWell (failed works copy mode frame n delta)
      failed_well n delta why = by (is_stop (Fails why)) (is_deadlock_event why) refl refl
        where
          by : (b c : Bool) → is_stop (Fails why) ≡ b → is_deadlock_event why ≡ c
              → P why (if b then frame.stopped (works.tell copy delta why) else if c then frame.lost n (works.tell copy delta why) else frame.back n (works.tell copy delta why))
              × Keeps P (if b then frame.stopped (works.tell copy delta why) else if c then frame.lost n (works.tell copy delta why) else frame.back n (works.tell copy delta why))
          by true c eb ec = (has_ended why (frame.stopped (works.tell copy delta why)) (h.stopped (works.tell copy delta why)).0, (h.stopped (works.tell copy delta why)).1)
          by false true eb ec = (rule.takes_back why (frame.lost n (works.tell copy delta why)) eb ec (h.lost n (works.tell copy delta why)).0, (h.lost n (works.tell copy delta why)).1)
          by false false eb ec = (rule.other why (frame.back n (works.tell copy delta why)) eb ec, h.back n (works.tell copy delta why))

      pay_failed_well : (n : ℕ) (d : GroupDelta) (memory : Bool) → FailsWell (pay_failed works copy mode frame n d memory)
      pay_failed_well n d false (engine.Escrow column inf sup) = (rule.other (engine.Escrow column inf sup) (frame.back n NoMemory) refl refl, h.back n NoMemory)
      pay_failed_well n d true why = failed_well n (Some d) why
      pay_failed_well n d memory why = failed_well n (Some d) why

      pays_stop : (ds : List GroupDelta) (next : ℕ → Todo) (n : ℕ) → ((m : ℕ) → Keeps P (next m)) → Keeps P (pays works copy mode frame ds next n)
      pays_stop [] next n k = k n
      pays_stop (d ∷ ds) next n k =
          paid_ends (pay_failed works copy mode frame n d) (pay_failed_well n d) (frame.back (n + 1) NoMemory) (h.back (n + 1) NoMemory) (pays works copy mode frame ds next (n + 1)) (pays_stop ds next (n + 1) k)

      runs_stop : (w : Work) (n : ℕ) → Keeps P (runs works copy mode frame w n)
      runs_stop (done listed count) n = h.finish listed count n
      runs_stop (refuses why) n = h.back n why
      runs_stop (fetches index interval lock f) n =
          rows_ends (failed works copy mode frame n None) (failed_well n None) (frame.back n NoMemory) (h.back n NoMemory) (λ rows. runs works copy mode frame (f rows) n) (λ rows. runs_stop (f rows) n)
      runs_stop (puts table key new f) n =
          changed_ends (failed works copy mode frame n None) (failed_well n None) (frame.back (n + 1) NoMemory) (h.back (n + 1) NoMemory) (λ before owed. pays works copy mode frame owed (λ m. runs works copy mode frame (f before) m) (n + 1))
          (λ before owed. pays_stop owed (λ m. runs works copy mode frame (f before) m) (n + 1) (λ m. runs_stop (f before) m))

    keeps_well : (standing : Standing) → FailsWell (keeps_standing works standing)
    keeps_well standing why = (rule.ended why (reply.Error (works.tell standing.copy None why) ∷ []) standing, tt)

    out_well : (copy : Schema) → FailsWell (stays_out works copy)
    out_well copy why = (rule.ended why (reply.Error (works.tell copy None why) ∷ []) (outside_with copy), tt)

    rolls_stop : (standing : Standing) (n : ℕ) (next : Todo) → Keeps P next → Keeps P (rolls_back works standing n next)
    rolls_stop standing n next h =
        undo_stops n (asks act.End (end_next next (keeps_standing works standing))) (keeps_standing works standing) (keeps_well standing) (end_ends (keeps_standing works standing) (keeps_well standing) next h)

    inside_ends : (standing : Standing) → FrameEnds (inside_frame works standing)
    inside_ends standing = record {
      finish = λ listed count n. tt;
      back = λ n why. undo_stops n _ (keeps_standing works standing) (keeps_well standing) tt;
      lost = λ n why. (
        undo_takes (n + standing.kept) (asks act.End (end_next (says (reply.Error why ∷ []) (outside_with standing.copy)) (keeps_standing works standing))) (keeps_standing works standing)
            (end_takes (says (reply.Error why ∷ []) (outside_with standing.copy)) (keeps_standing works standing) tt (λ why. tt)) (λ why. tt),
        rolls_stop standing (n + standing.kept) _ tt,
      );
      stopped = λ why. (tt, tt);
    }

    returns_stop : (standing : Standing) (marks : List (List ℕ × ℕ)) → Keeps P (returns_to works standing marks)
    returns_stop standing [] = tt
    returns_stop standing (p ∷ ps) = undo_stops (standing.kept - p.1) (says (reply.Done 0 ∷ []) (record standing { saved = p ∷ ps; kept = p.1 })) (keeps_standing works standing) (keeps_well standing) tt

    inside_stop : (mode : Mode) (standing : Standing) (statement : StatementTree) → Keeps P (start_inside works mode standing statement)
    inside_stop mode standing commit = commit_ends (keeps_standing works standing) (keeps_well standing) _ (λ number. tt)
    inside_stop mode standing (rollback None) = rolls_stop standing standing.kept _ tt
    inside_stop mode standing (rollback (Some name)) = returns_stop standing (from_marked name standing.saved)
    inside_stop mode standing (savepoint name) = tt
    inside_stop mode standing statement = runs_stop standing.copy mode (inside_frame works standing) (inside_ends standing) (works.work mode standing.copy statement) 0

    ends_stop : (copy : Schema) (why : Refusal) → Keeps P (ends_with works copy why)
    ends_stop copy why = end_ends (stays_out works copy) (out_well copy) _ tt

    ends_take : (copy : Schema) (why : Refusal) → OnlyTakesBack (ends_with works copy why)
    ends_take copy why = end_takes (says (reply.Error why ∷ []) (outside_with copy)) (stays_out works copy) tt (λ why. tt)

    outside_ends : (copy : Schema) → FrameEnds (outside_frame works copy)
    outside_ends copy = record {
      finish = λ listed count n. commit_ends (stays_out works copy) (out_well copy) _ (λ number. tt);
      back = λ n why. undo_stops n (ends_with works copy why) (stays_out works copy) (out_well copy) (ends_stop copy why);
      lost = λ n why. (
        undo_takes n (ends_with works copy why) (stays_out works copy) (ends_take copy why) (λ why. tt),
        undo_stops n (ends_with works copy why) (stays_out works copy) (out_well copy) (ends_stop copy why),
      );
      stopped = λ why. (tt, tt);
    }

    defs_well : (copy : Schema) → FailsWell (fails_defs works copy)
    defs_well copy why = by (is_stop (Fails why)) (is_deadlock_event why) refl refl
      where
        by : (b c : Bool) → is_stop (Fails why) ≡ b → is_deadlock_event why ≡ c
            → P why (if b then stays_out works copy why else ends_with works copy (works.tell copy None why)) × Keeps P (if b then stays_out works copy why else ends_with works copy (works.tell copy None why))
        by true c eb ec = (rule.ended why (reply.Error (works.tell copy None why) ∷ []) (outside_with copy), tt)
        by false true eb ec = (rule.takes_back why (ends_with works copy (works.tell copy None why)) eb ec (ends_take copy (works.tell copy None why)), ends_stop copy (works.tell copy None why))
        by false false eb ec = (rule.other why (ends_with works copy (works.tell copy None why)) eb ec, ends_stop copy (works.tell copy None why))

    begins_stop : (mode : Mode) (copy : Schema) (next : Schema → ℕ → Todo) → ((objects : Schema) (number : ℕ) → Keeps P (next objects number)) → Keeps P (begins_with works mode copy next)
    begins_stop mode copy next h = begun_ends (stays_out works copy) (out_well copy) (ends_with works copy NoMemory) (ends_stop copy NoMemory) _ (λ number defs. by number (defs == length copy))
      where
        by : (number : ℕ) (b : Bool) → Keeps P (if b then next copy number else asks act.Defs (defs_next (λ objects. next objects number) (ends_with works copy NoMemory) (fails_defs works copy)))
        by number true = h copy number
        by number false = defs_ends (fails_defs works copy) (defs_well copy) (ends_with works copy NoMemory) (ends_stop copy NoMemory) (λ objects. next objects number) (λ objects. h objects number)

    creates_stop : (copy : Schema) (statement : StatementTree) → Keeps P (creates_with works copy statement)
    creates_stop copy statement = schema_ends (stays_out works copy) (out_well copy) _ _ (λ number. tt) (λ why. tt)

    outside_stop : (copy : Schema) (statement : StatementTree) → Keeps P (start_outside works copy statement)
    outside_stop copy (create_table name columns primary) = creates_stop copy (create_table name columns primary)
    outside_stop copy (create_index name of columns) = creates_stop copy (create_index name of columns)
    outside_stop copy (create_view name query) = creates_stop copy (create_view name query)
    outside_stop copy (begin mode) = begins_stop mode copy (λ held number. says (begin_reply mode number ∷ []) (record { mode = Some mode; saved = []; kept = 0; copy = held })) (λ objects number. tt)
    outside_stop copy statement = begins_stop Serial copy _ (λ held number. runs_stop held Serial (outside_frame works held) (outside_ends held) (works.work Serial held statement) 0)

    -- the program of a statement
    pub start_keeps : (standing : Standing) (statement : StatementTree) → Keeps P ((programs_of works).start standing statement)
    start_keeps standing statement = by standing.mode
      where
        by : (mode : Option Mode) → Keeps P (elim mode [ None ↦ start_outside works standing.copy statement | Some mode ↦ start_inside works mode standing statement ])
        by None = outside_stop standing.copy statement
        by (Some mode) = inside_stop mode standing statement

-- ---- a stopped engine

abbrev pub EndsIfStopped : EngineRefusal → Todo → Type 0
EndsIfStopped why todo = is_stop (Fails why) ≡ true → HasEnded todo

abbrev pub EndsOnStop : Todo → Type 0
EndsOnStop = Keeps EndsIfStopped

stop_rule : Rule EndsIfStopped
stop_rule = record {
  ended = λ why replies standing e. tt;
  takes_back = λ why todo goes d t e. absurd (cc (sym goes ∙ e));
  other = λ why todo goes d e. absurd (cc (sym goes ∙ e));
}

pub start_stops : (works : Works) (standing : Standing) (statement : StatementTree) → EndsOnStop ((programs_of works).start standing statement)
start_stops works standing statement = start_keeps EndsIfStopped stop_rule works standing statement

-- ---- deadlocks

abbrev TakesBackBy : EngineRefusal → Todo → Type 0
TakesBackBy why todo = TakesBackAfter (answer.Refused why) todo

deadlock_rule : Rule TakesBackBy
deadlock_rule = record { ended = ended; takes_back = takes_back; other = other }
  where
    ended : (why : EngineRefusal) (replies : List Reply) (standing : Standing) → TakesBackBy why (says replies standing)
    ended (engine.Deadlock cycle) replies standing = tt
    ended _ replies standing = tt

    takes_back : (why : EngineRefusal) (todo : Todo) → is_stop (Fails why) ≡ false → is_deadlock_event why ≡ true → OnlyTakesBack todo → TakesBackBy why todo
    takes_back (engine.Deadlock cycle) todo goes d t = t
    takes_back _ todo goes d t = absurd (cc)

    other : (why : EngineRefusal) (todo : Todo) → is_stop (Fails why) ≡ false → is_deadlock_event why ≡ false → TakesBackBy why todo
    other (engine.Deadlock cycle) todo goes d = absurd (cc)
    other _ todo goes d = tt

by_answer : (said : Answer) (todo : Todo) → KeepsBy TakesBackBy said todo → TakesBackAfter said todo
by_answer (answer.Refused why) todo h = h
by_answer _ todo h = tt

yields : (todo : Todo) → Keeps TakesBackBy todo → YieldsToDeadlocks todo
yields (says replies standing) h = tt
yields (asks a f) h = λ said memory. (by_answer said (f said memory) (h said memory).0, yields (f said memory) (h said memory).1)
yields (ghosts f) h = λ said memory. (by_answer said (f said memory) (h said memory).0, yields (f said memory) (h said memory).1)

pub deadlocks_law : DeadlocksLaw
deadlocks_law works standing statement = yields ((programs_of works).start standing statement) (start_keeps TakesBackBy deadlock_rule works standing statement)
