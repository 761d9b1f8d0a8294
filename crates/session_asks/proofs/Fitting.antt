-- What the programs of all statements ask for fits their transactions, and after a deadlock only what takes back.
use Rattle.std.specs.Prelude.{◌≡◌, ℕ, zero, suc, ◌+◌, ◌-◌, ◌==◌, Bool, true, false, ◌||◌, IsTrue, List, [], ◌∷◌, ◌++◌, length, Option, Some, None, if◌then◌else◌}
use mathlib.Core.Path.{refl, sym, ap, subst, ◌∙◌}
use Rattle.std.proofs.Common.{arith, append-nil, eqb-true}
use Rattle.std.proofs.lemmas.List.{length-append}
use Rattle.iv_types.specs.declared.statement.Mode.{Mode}
use Rattle.iv_types.specs.declared.statement.Mode.TheVariants.{Serial, Snapshot}
use Rattle.iv_types.specs.declared.lock.GroupDelta.{GroupDelta}
use Rattle.iv_types.specs.declared.value.Interval.{Interval}
use Rattle.iv_types.specs.declared.lock.LockMode.{LockMode}
use Rattle.iv_types.specs.declared.refusal.Refusal.{Refusal}
use Rattle.iv_types.specs.declared.refusal.Refusal.TheVariants.{NoMemory}
use Rattle.iv_types.specs.declared.reply.Reply.TheVariants as reply
use Rattle.iv_types.specs.declared.refusal.EngineRefusal.{EngineRefusal}
use Rattle.iv_types.specs.declared.refusal.EngineRefusal.TheVariants as refusal
use Rattle.iv_types.specs.Syntax.{StatementTree, create_table, create_index, create_view, insert, update, delete, select, begin, commit, rollback, savepoint}
use Rattle.iv_meaning.specs.Schema.{Schema}
use Rattle.iv_meaning.specs.Database.{Row}
use Rattle.iv_meaning.specs.Transaction.{begin_reply, refused_outside, refused_inside}
use Rattle.txn_machine.specs.Acts as act
use Rattle.txn_machine.specs.Acts.{Act}
use Rattle.txn_machine.specs.Answers as answer
use Rattle.txn_machine.specs.Answers.{Answer}
use Rattle.txn_machine.specs.Deltas.{RowChange}
use Rattle.txn_machine.specs.Alone.{Fact, Found, WasThere}
use Rattle.txn_machine.specs.May.{IsCreate, IsWritten}
use Rattle.script_law.specs.Seen.{Event, Waits, LacksRow, Fails, Begins, Learns, Ends, Commits, event, is_stop, is_deadlock_event, CanCome, Txn, changes, txn_after, new_txn}
use Rattle.script_law.specs.Programs.{Standing, outside_with, Todo, says, asks, ghosts, Grows}
use Rattle.script_law.specs.Works.{Work, done, refuses, fetches, puts, OnlyReads, is_work}
use Rattle.script_law.specs.Sessions.{Frame, undo_next, end_next, commit_next, rows_next, changed_next, paid_next, begun_next, defs_next, schema_next, from_marked, refused_marked, undo, failed, pay_failed, pays, runs, reads_by, keeps_standing, inside_frame, returns_to, start_inside, stays_out, ends_with, outside_frame, fails_defs, begins_with, creates_with, start_outside}
use Rattle.statement_law.specs.Fitting.{Leads, begins, finds, sets, next_step}
use Rattle.statement_law.specs.Statements.{statement_work, the_works}
use Rattle.statement_law.specs.Telling.{tell}
use Rattle.statement_law.proofs.Works.{works_law}

-- ---- what fits

-- a reading or change is the next step of a work that was led here by what was told
pub record IsLed (t : Txn) (a : Act) : Type 0 where
  pub statement : StatementTree
  pub is_its : is_work statement ≡ true
  pub may : refused_inside t.mode [] statement ≡ None
  pub earlier : List RowChange
  pub later : List RowChange
  pub kept_is : changes t.kept ≡ later ++ earlier
  pub told : List Fact
  pub before : List Fact
  pub told_is : t.told ≡ told ++ before
  pub work : Work
  pub leads : Leads earlier (statement_work t.mode t.objects statement) told later work
  pub next : next_step t.mode work ≡ Some a

abbrev pub FitsTxn : Txn → Act → Type 0
FitsTxn t (act.Fetch index interval lock) = IsLed t (act.Fetch index interval lock)
FitsTxn t (act.Peek index interval) = IsLed t (act.Peek index interval)
FitsTxn t (act.Put table key new) = IsLed t (act.Put table key new)
FitsTxn t a = Unit {0}

abbrev pub FitsNone : Act → Type 0
FitsNone (act.Schema statement) = IsCreate statement × IsWritten statement
FitsNone a = Unit {0}

abbrev pub FitsIn : Option Txn → Act → Type 0
FitsIn None a = FitsNone a
FitsIn (Some t) a = FitsTxn t a

-- a transaction that a deadlock met only takes back and ends
abbrev pub IsAliveFor : Act → Bool → Type 0
IsAliveFor act.UndoOne lost = Unit {0}
IsAliveFor act.End lost = Unit {0}
IsAliveFor a lost = lost ≡ false

module _ (copy : Schema) where
  -- what is so after a step, unless it stopped the engine
  abbrev pub AfterNone : Event → (Bool → Option Txn → Type 0) → Type 0
  AfterNone (Waits sessions) Goes = Unit {0}
  AfterNone LacksRow Goes = Unit {0}
  AfterNone (Fails why) Goes = is_stop (Fails why) ≡ false → Goes (is_deadlock_event why) None
  AfterNone (Begins mode number defs) Goes = (objects : Schema) → Grows copy objects → defs ≡ length objects → Goes false (Some (new_txn mode number objects))
  AfterNone e Goes = Goes false None

  abbrev pub AfterSome : Bool → Txn → Event → (Bool → Option Txn → Type 0) → Type 0
  AfterSome lost t (Waits sessions) Goes = Unit {0}
  AfterSome lost t LacksRow Goes = Unit {0}
  AfterSome lost t (Fails why) Goes = is_stop (Fails why) ≡ false → Goes (lost || is_deadlock_event why) (Some t)
  AfterSome lost t (Learns objects) Goes = objects ≡ t.objects → Goes lost (Some t)
  AfterSome lost t Ends Goes = Goes false None
  AfterSome lost t (Commits number) Goes = Goes false None
  AfterSome lost t e Goes = Goes lost (txn_after t e)

  abbrev pub After : Bool → Option Txn → Event → (Bool → Option Txn → Type 0) → Type 0
  After lost None e Goes = AfterNone e Goes
  After lost (Some t) e Goes = AfterSome lost t e Goes

  -- so it is at each step
  abbrev pub Fits : Todo → Bool → Option Txn → Type 0
  Fits (says replies standing) lost t = lost ≡ false
  Fits (asks a f) lost t = FitsIn t a × IsAliveFor a lost × ((said : Answer) (memory : Bool) → CanCome a (event a said) → After lost t (event a said) (Fits (f said memory)))
  Fits (ghosts f) lost t = ⊥

  -- a row is made where a pay lacks it
  abbrev pub FitsNow : Todo → Bool → Option Txn → Type 0
  FitsNow (ghosts f) lost t = (lost ≡ false) × ((said : Answer) (memory : Bool) → CanCome act.Pay (event act.Pay said) → After lost t (event act.Pay said) (Fits (f said memory)))
  FitsNow todo lost t = Fits todo lost t

  -- ---- what takes back and ends

  no_stop : (b : Bool) → IsTrue b → b ≡ false → ⊥
  no_stop true h e = cc
  no_stop false h e = cc

  undo_fits : (lost : Bool) (n : ℕ) (next : Todo) (fail : EngineRefusal → Todo) → ((t : Txn) → Fits next lost (Some t)) → (t : Txn) → Fits (undo the_works n next fail) lost (Some t)
  undo_fits lost zero next fail h t = h t
  undo_fits lost (suc n) next fail h t = (tt, tt, by (undo_fits lost n next fail h))
    where
      by : ((u : Txn) → Fits (undo the_works n next fail) lost (Some u)) → (said : Answer) (memory : Bool) → CanCome act.UndoOne (event act.UndoOne said)
          → AfterSome lost t (event act.UndoOne said) (Fits (undo_next (undo the_works n next fail) fail said memory))
      by rest (answer.Undone left) memory c = rest _
      by rest (answer.Refused why) memory c = λ goes. absurd (no_stop (is_stop (Fails why)) c goes)
      by rest _ memory c = absurd c

  end_fits : (lost : Bool) (next : Todo) (fail : EngineRefusal → Todo) → Fits next false None → (t : Txn) → Fits (asks act.End (end_next next fail)) lost (Some t)
  end_fits lost next fail h t = (tt, tt, by)
    where
      by : (said : Answer) (memory : Bool) → CanCome act.End (event act.End said) → AfterSome lost t (event act.End said) (Fits (end_next next fail said memory))
      by answer.Ended memory c = h
      by (answer.Refused why) memory c = λ goes. absurd (no_stop (is_stop (Fails why)) c goes)
      by _ memory c = absurd c

  commit_fits : (next : ℕ → Todo) (fail : EngineRefusal → Todo) → ((number : ℕ) → Fits (next number) false None) → (t : Txn) → Fits (asks act.Commit (commit_next next fail)) false (Some t)
  commit_fits next fail h t = (tt, refl, by)
    where
      by : (said : Answer) (memory : Bool) → CanCome act.Commit (event act.Commit said) → AfterSome false t (event act.Commit said) (Fits (commit_next next fail said memory))
      by (answer.Committed number) memory c = h number
      by (answer.Refused why) memory c = λ goes. absurd (no_stop (is_stop (Fails why)) c goes)
      by _ memory c = absurd c

  -- ---- works

  pub record FrameFits (frame : Frame) : Type 0 where
    pub finish : (t : Txn) (listed : List Row) (count n : ℕ) → Fits (frame.finish listed count n) false (Some t)
    pub back : (t : Txn) (n : ℕ) (why : Refusal) → Fits (frame.back n why) false (Some t)
    pub lost : (t : Txn) (n : ℕ) (why : Refusal) → Fits (frame.lost n why) true (Some t)

  inside_fits : (standing : Standing) → FrameFits (inside_frame the_works standing)
  inside_fits standing = record {
    finish = λ t listed count n. refl;
    back = λ t n why. undo_fits false n (says (reply.Error why ∷ []) standing) (keeps_standing the_works standing) (λ u. refl) t;
    lost = λ t n why. undo_fits true (n + standing.kept) (asks act.End (end_next (says (reply.Error why ∷ []) (outside_with standing.copy)) (keeps_standing the_works standing))) (keeps_standing the_works standing)
        (end_fits true (says (reply.Error why ∷ []) (outside_with standing.copy)) (keeps_standing the_works standing) refl) t;
  }

  ends_fits : (lost : Bool) (held : Schema) (why : Refusal) (t : Txn) → Fits (ends_with the_works held why) lost (Some t)
  ends_fits lost held why t = end_fits lost (says (reply.Error why ∷ []) (outside_with held)) (stays_out the_works held) refl t

  outside_fits : (held : Schema) → FrameFits (outside_frame the_works held)
  outside_fits held = record {
    finish = λ t listed count n. commit_fits _ (stays_out the_works held) (λ number. refl) t;
    back = λ t n why. undo_fits false n (ends_with the_works held why) (stays_out the_works held) (ends_fits false held why) t;
    lost = λ t n why. undo_fits true n (ends_with the_works held why) (stays_out the_works held) (ends_fits true held why) t;
  }

  module _ (held : Schema) (mode : Mode) (frame : Frame) (fs : FrameFits frame) where
    failed_fits : (t : Txn) (n : ℕ) (delta : Option GroupDelta) (why : EngineRefusal) → is_stop (Fails why) ≡ false → Fits (failed the_works held mode frame n delta why) (false || is_deadlock_event why) (Some t)
    failed_fits t n delta why goes = by (is_stop (Fails why)) (is_deadlock_event why) goes
      where
        by : (b c : Bool) → b ≡ false → Fits (if b then frame.stopped (tell held delta why) else if c then frame.lost n (tell held delta why) else frame.back n (tell held delta why)) (false || c) (Some t)
        by true c e = absurd (cc)
        by false true e = fs.lost t n (tell held delta why)
        by false false e = fs.back t n (tell held delta why)

    pay_fails : (t : Txn) (n : ℕ) (d : GroupDelta) (memory : Bool) (why : EngineRefusal) → is_stop (Fails why) ≡ false → Fits (pay_failed the_works held mode frame n d memory why) (false || is_deadlock_event why) (Some t)
    pay_fails t n d false (refusal.Escrow column inf sup) goes = fs.back t n NoMemory
    pay_fails t n d true why goes = failed_fits t n (Some d) why goes
    pay_fails t n d memory why goes = failed_fits t n (Some d) why goes

    -- it is of the same kind and has made the same changes
    record IsLike (t u : Txn) : Type 0 where
      mode_is : u.mode ≡ t.mode
      objects_is : u.objects ≡ t.objects
      changes_is : changes u.kept ≡ changes t.kept
      told_is : u.told ≡ t.told

    pays_fits : (ds : List GroupDelta) (next : ℕ → Todo) (n : ℕ) (t : Txn) → ((u : Txn) (m : ℕ) → IsLike t u → Fits (next m) false (Some u)) → Fits (pays the_works held mode frame ds next n) false (Some t)
    pays_fits [] next n t h = h t n (record { mode_is = refl; objects_is = refl; changes_is = refl; told_is = refl })
    pays_fits (d ∷ ds) next n t h = (
      tt,
      refl,
      by (pays_fits ds next (n + 1) (record t { kept = None ∷ t.kept; owed = t.owed - 1 })
          (λ u m l. h u m (record { mode_is = l.mode_is; objects_is = l.objects_is; changes_is = l.changes_is; told_is = l.told_is }))),
    )
      where
        by : Fits (pays the_works held mode frame ds next (n + 1)) false (Some (record t { kept = None ∷ t.kept; owed = t.owed - 1 })) → (said : Answer) (memory : Bool) → CanCome act.Pay (event act.Pay said)
            → AfterSome false t (event act.Pay said) (Fits (paid_next (pays the_works held mode frame ds next (n + 1)) (frame.back (n + 1) NoMemory) (pay_failed the_works held mode frame n d) said memory))
        by rest (answer.Paid left) true c = rest
        by rest (answer.Paid left) false c = fs.back _ (n + 1) NoMemory
        by rest (answer.Refused why) memory c = λ goes. pay_fails t n d memory why goes
        by rest (answer.Blocked sessions) memory c = tt
        by rest answer.NeedsGhost memory c = tt
        by rest _ memory c = absurd c

    module _ (statement : StatementTree) (is_its : is_work statement ≡ true) (may : refused_inside mode [] statement ≡ None) where
      -- so far the work has come
      pub record Point (w : Work) (t : Txn) : Type 0 where
        pub mode_is : t.mode ≡ mode
        pub objects_is : t.objects ≡ held
        pub earlier : List RowChange
        pub later : List RowChange
        pub kept_is : changes t.kept ≡ later ++ earlier
        pub told : List Fact
        pub before : List Fact
        pub told_is : t.told ≡ told ++ before
        pub leads : Leads earlier (statement_work mode held statement) told later w
        pub reads : mode ≡ Snapshot → OnlyReads w × (later ++ earlier ≡ [])

      led_at : (w : Work) (t : Txn) (a : Act) → Point w t → next_step mode w ≡ Some a → IsLed t a
      led_at w t a p e = record {
        statement = statement;
        is_its = is_its;
        may = subst (λ m. refused_inside m [] statement ≡ None) (sym p.mode_is) may;
        earlier = p.earlier;
        later = p.later;
        kept_is = p.kept_is;
        told = p.told;
        before = p.before;
        told_is = p.told_is;
        work = w;
        leads = subst (λ x. x) (λ i. Leads p.earlier (statement_work (sym p.mode_is i) (sym p.objects_is i) statement) p.told p.later w) p.leads;
        next = subst (λ m. next_step m w ≡ Some a) (sym p.mode_is) e;
      }

      found_point : (index : ℕ) (interval : Interval) (lock : LockMode) (f : List Row → Work) (t : Txn) (rows : List Row) (seen : List RowChange) → seen ≡ changes t.kept → Point (fetches index interval lock f) t
          → Point (f rows) (record t { told = Found index interval rows seen ∷ t.told })
      found_point index interval lock f t rows seen same p = record {
        mode_is = p.mode_is;
        objects_is = p.objects_is;
        earlier = p.earlier;
        later = p.later;
        kept_is = p.kept_is;
        told = Found index interval rows (p.later ++ p.earlier) ∷ p.told;
        before = p.before;
        told_is = λ i. Found index interval rows ((same ∙ p.kept_is) i) ∷ p.told_is i;
        leads = finds p.told p.later index interval lock f rows p.leads;
        reads = λ m. ((p.reads m).0 rows, (p.reads m).1);
      }

      put_point : (table : ℕ) (key : List ℕ) (new : Option Row) (f : Option Row → Work) (t u : Txn) (before : Option Row) (many : ℕ) → Point (puts table key new f) t
          → IsLike (record t { told = WasThere (table, key) new before (changes t.kept) ∷ t.told; kept = Some (record { key = (table, key); before = before; after = new }) ∷ t.kept; owed = many; is_back = false }) u
          → Point (f before) u
      put_point table key new f t u before many p l = record {
        mode_is = l.mode_is ∙ p.mode_is;
        objects_is = l.objects_is ∙ p.objects_is;
        earlier = p.earlier;
        later = record { key = (table, key); before = before; after = new } ∷ p.later;
        kept_is = l.changes_is ∙ ap (λ cs. record { key = (table, key); before = before; after = new } ∷ cs) p.kept_is;
        told = WasThere (table, key) new before (p.later ++ p.earlier) ∷ p.told;
        before = p.before;
        told_is = l.told_is ∙ (λ i. WasThere (table, key) new before (p.kept_is i) ∷ p.told_is i);
        leads = sets p.told p.later table key new f before p.leads;
        reads = λ m. absurd (p.reads m).0;
      }

      runs_fits : (w : Work) (n : ℕ) (t : Txn) → Point w t → Fits (runs the_works held mode frame w n) false (Some t)
      runs_fits (done listed count) n t p = fs.finish t listed count n
      runs_fits (refuses why) n t p = fs.back t n why
      runs_fits (fetches index interval lock f) n t p = by_mode mode refl (λ rows seen same. runs_fits (f rows) n (record t { told = Found index interval rows seen ∷ t.told }) (found_point index interval lock f t rows seen same p))
        where
          by_mode : (m : Mode) → mode ≡ m → ((rows : List Row) (seen : List RowChange) → seen ≡ changes t.kept → Fits (runs the_works held mode frame (f rows) n) false (Some (record t { told = Found index interval rows seen ∷ t.told })))
              → Fits (asks (reads_by m index interval lock) (rows_next (λ rows. runs the_works held mode frame (f rows) n) (frame.back n NoMemory) (failed the_works held mode frame n None))) false (Some t)
          by_mode Serial e rest = (led_at (fetches index interval lock f) t (act.Fetch index interval lock) p (ap (λ m. next_step m (fetches index interval lock f)) e), refl, by)
            where
              by : (said : Answer) (memory : Bool) → CanCome (act.Fetch index interval lock) (event (act.Fetch index interval lock) said)
                  → AfterSome false t (event (act.Fetch index interval lock) said) (Fits (rows_next (λ rows. runs the_works held mode frame (f rows) n) (frame.back n NoMemory) (failed the_works held mode frame n None) said memory))
              by (answer.Rows rows) true c = rest rows (changes t.kept) refl
              by (answer.Rows rows) false c = fs.back _ n NoMemory
              by (answer.Refused why) memory c = λ goes. failed_fits t n None why goes
              by (answer.Blocked sessions) memory c = tt
              by _ memory c = absurd c
          by_mode Snapshot e rest = (led_at (fetches index interval lock f) t (act.Peek index interval) p (ap (λ m. next_step m (fetches index interval lock f)) e), refl, by)
            where
              by : (said : Answer) (memory : Bool) → CanCome (act.Peek index interval) (event (act.Peek index interval) said)
                  → AfterSome false t (event (act.Peek index interval) said) (Fits (rows_next (λ rows. runs the_works held mode frame (f rows) n) (frame.back n NoMemory) (failed the_works held mode frame n None) said memory))
              by (answer.Rows rows) true c = rest rows [] (sym (p.kept_is ∙ (p.reads e).1))
              by (answer.Rows rows) false c = fs.back _ n NoMemory
              by (answer.Refused why) memory c = λ goes. failed_fits t n None why goes
              by _ memory c = absurd c
      runs_fits (puts table key new f) n t p = (
        led_at (puts table key new f) t (act.Put table key new) p refl,
        refl,
        by (λ before owed. pays_fits owed (λ m. runs the_works held mode frame (f before) m) (n + 1) _ (λ u m l. runs_fits (f before) m u (put_point table key new f t u before (length owed) p l))),
      )
        where
          by : ((before : Option Row) (owed : List GroupDelta)
              → Fits (pays the_works held mode frame owed (λ m. runs the_works held mode frame (f before) m) (n + 1)) false (Some (record t {
                told = WasThere (table, key) new before (changes t.kept) ∷ t.told;
                kept = Some (record { key = (table, key); before = before; after = new }) ∷ t.kept;
                owed = length owed;
                is_back = false;
              })))
              → (said : Answer) (memory : Bool) → CanCome (act.Put table key new) (event (act.Put table key new) said)
              → AfterSome false t (event (act.Put table key new) said)
              (Fits (changed_next (λ before owed. pays the_works held mode frame owed (λ m. runs the_works held mode frame (f before) m) (n + 1)) (frame.back (n + 1) NoMemory) (failed the_works held mode frame n None) said memory))
          by rest (answer.Changed before owed) true c = rest before owed
          by rest (answer.Changed before owed) false c = fs.back _ (n + 1) NoMemory
          by rest (answer.Refused why) memory c = λ goes. failed_fits t n None why goes
          by rest (answer.Blocked sessions) memory c = tt
          by rest _ memory c = absurd c

  -- ---- all statements

  module _ (held : Schema) (mode : Mode) (frame : Frame) (fs : FrameFits frame) (statement : StatementTree) (is_its : is_work statement ≡ true) (may : refused_inside mode [] statement ≡ None) where
    work_fits : (t : Txn) → t.mode ≡ mode → t.objects ≡ held → (mode ≡ Snapshot → changes t.kept ≡ []) → Fits (runs the_works held mode frame (statement_work mode held statement) 0) false (Some t)
    work_fits t m o none = runs_fits held mode frame fs statement is_its may (statement_work mode held statement) 0 t (record {
      mode_is = m;
      objects_is = o;
      earlier = changes t.kept;
      later = [];
      kept_is = refl;
      told = [];
      before = t.told;
      told_is = refl;
      leads = begins;
      reads = λ e. (subst (λ x. OnlyReads (statement_work x held statement)) (sym e) (works_law.reads statement is_its (subst (λ x. refused_inside x [] statement ≡ None) e may) held), none e);
    })

  returns_fits : (standing : Standing) (marks : List (List ℕ × ℕ)) (t : Txn) → Fits (returns_to the_works standing marks) false (Some t)
  returns_fits standing [] t = refl
  returns_fits standing (p ∷ ps) t = undo_fits false (standing.kept - p.1) (says (reply.Done 0 ∷ []) (record standing { saved = p ∷ ps; kept = p.1 })) (keeps_standing the_works standing) (λ u. refl) t

  pub inside_start : (mode : Mode) (standing : Standing) (statement : StatementTree) (t : Txn) → t.mode ≡ mode → t.objects ≡ standing.copy → (mode ≡ Snapshot → changes t.kept ≡ [])
      → refused_marked mode standing.saved statement ≡ None → Fits (start_inside the_works mode standing statement) false (Some t)
  inside_start mode standing commit t m o none e = commit_fits _ (keeps_standing the_works standing) (λ number. refl) t
  inside_start mode standing (rollback None) t m o none e =
      undo_fits false standing.kept (asks act.End (end_next (says (reply.Done 0 ∷ []) (outside_with standing.copy)) (keeps_standing the_works standing))) (keeps_standing the_works standing)
      (end_fits false (says (reply.Done 0 ∷ []) (outside_with standing.copy)) (keeps_standing the_works standing) refl) t
  inside_start mode standing (rollback (Some name)) t m o none e = returns_fits standing (from_marked name standing.saved) t
  inside_start mode standing (savepoint name) t m o none e = refl
  inside_start mode standing (insert table tuples) t m o none e = work_fits standing.copy mode (inside_frame the_works standing) (inside_fits standing) (insert table tuples) refl e t m o none
  inside_start mode standing (update table ss condition) t m o none e = work_fits standing.copy mode (inside_frame the_works standing) (inside_fits standing) (update table ss condition) refl e t m o none
  inside_start mode standing (delete table condition) t m o none e = work_fits standing.copy mode (inside_frame the_works standing) (inside_fits standing) (delete table condition) refl e t m o none
  inside_start mode standing (select query order) t m o none e = work_fits standing.copy mode (inside_frame the_works standing) (inside_fits standing) (select query order) refl e t m o none
  inside_start mode standing (create_table name columns primary) t m o none e = absurd (cc)
  inside_start mode standing (create_index name of columns) t m o none e = absurd (cc)
  inside_start mode standing (create_view name query) t m o none e = absurd (cc)
  inside_start mode standing (begin other) t m o none e = absurd (cc)

  same_length : (one other : Schema) → Grows one other → length one ≡ length other → one ≡ other
  same_length one other (more, is) e = sym (append-nil one) ∙ ap (λ l. one ++ l) (sym (no_more more (length-append one more) (e ∙ ap length is))) ∙ sym is
    where
      no_more : (more : Schema) → length (one ++ more) ≡ length one + length more → length one ≡ length (one ++ more) → more ≡ []
      no_more [] x y = refl
      no_more (o ∷ os) x y = absurd (omega (arith, x, y))

  learns_fits : (mode : Mode) (next : Schema → ℕ → Todo) (number : ℕ) (objects : Schema) (t : Txn) → t.objects ≡ objects → Fits (next objects number) false (Some t)
      → Fits (asks act.Defs (defs_next (λ objects. next objects number) (ends_with the_works copy NoMemory) (fails_defs the_works copy))) false (Some t)
  learns_fits mode next number objects t is h = (tt, refl, by)
    where
      fails : (why : EngineRefusal) (b : Bool) → b ≡ false → Fits (if b then stays_out the_works copy why else ends_with the_works copy (tell copy None why)) false (Some t)
      fails why true e = absurd (cc)
      fails why false e = ends_fits false copy (tell copy None why) t

      by : (said : Answer) (memory : Bool) → CanCome act.Defs (event act.Defs said)
          → AfterSome false t (event act.Defs said) (Fits (defs_next (λ objects. next objects number) (ends_with the_works copy NoMemory) (fails_defs the_works copy) said memory))
      by (answer.Defs told) true c = λ e. subst (λ l. Fits (next l number) false (Some t)) (sym (e ∙ is)) h
      by (answer.Defs told) false c = λ e. ends_fits false copy NoMemory t
      by (answer.Refused why) memory c = λ goes. subst (λ b. Fits (fails_defs the_works copy why) (false || b) (Some t)) (sym c) (fails why (is_stop (Fails why)) goes)
      by _ memory c = absurd c

  begins_fits : (mode : Mode) (next : Schema → ℕ → Todo) → ((objects : Schema) (number : ℕ) → Fits (next objects number) false (Some (new_txn mode number objects))) → Fits (begins_with the_works mode copy next) false None
  begins_fits mode next h = (tt, refl, by)
    where
      opened : (number defs : ℕ) (objects : Schema) → Grows copy objects → defs ≡ length objects → (b : Bool) → (defs == length copy) ≡ b
          → Fits (if b then next copy number else asks act.Defs (defs_next (λ objects. next objects number) (ends_with the_works copy NoMemory) (fails_defs the_works copy))) false (Some (new_txn mode number objects))
      opened number defs objects grows many true e =
          let same : copy ≡ objects = same_length copy objects grows (sym (eqb-true defs (length copy) e) ∙ many) in
          subst (λ l. Fits (next l number) false (Some (new_txn mode number objects))) (sym same) (h objects number)
      opened number defs objects grows many false e = learns_fits mode next number objects (new_txn mode number objects) refl (h objects number)

      by : (said : Answer) (memory : Bool) → CanCome (act.Begin mode) (event (act.Begin mode) said)
          → AfterNone (event (act.Begin mode) said) (Fits (begun_next (λ number defs. if defs == length copy then next copy number else asks act.Defs (defs_next (λ objects. next objects number) (ends_with the_works copy NoMemory) (fails_defs the_works copy)))
          (ends_with the_works copy NoMemory) (stays_out the_works copy) said memory))
      by (answer.Begun number defs) true c = λ objects grows many. opened number defs objects grows many (defs == length copy) refl
      by (answer.Begun number defs) false c = λ objects grows many. ends_fits false copy NoMemory (new_txn mode number objects)
      by (answer.Refused why) memory c = λ goes. c
      by _ memory c = absurd c

  creates_fits : (statement : StatementTree) → IsCreate statement → IsWritten statement → Fits (creates_with the_works copy statement) false None
  creates_fits statement is written = ((is, written), refl, by)
    where
      by : (said : Answer) (memory : Bool) → CanCome (act.Schema statement) (event (act.Schema statement) said)
          → AfterNone (event (act.Schema statement) said) (Fits (schema_next (λ number. says (reply.Done 0 ∷ reply.Commit number ∷ []) (outside_with copy)) (λ why. says (reply.Error why ∷ []) (outside_with copy)) (stays_out the_works copy) said memory))
      by (answer.Committed number) memory c = refl
      by (answer.Denied why) memory c = refl
      by (answer.Refused why) memory c = λ goes. c
      by _ memory c = absurd c

  lone_work : (statement : StatementTree) → is_work statement ≡ true → refused_inside Serial [] statement ≡ None
      → Fits (begins_with the_works Serial copy (λ held number. runs the_works held Serial (outside_frame the_works held) (statement_work Serial held statement) 0)) false None
  lone_work statement is may = begins_fits Serial _ (λ objects number. work_fits objects Serial (outside_frame the_works objects) (outside_fits objects) statement is may (new_txn Serial number objects) refl refl (λ e. refl))

  pub outside_start : (statement : StatementTree) → IsWritten statement → refused_outside statement ≡ None → Fits (start_outside the_works copy statement) false None
  outside_start (create_table name columns primary) written e = creates_fits (create_table name columns primary) tt written
  outside_start (create_index name of columns) written e = creates_fits (create_index name of columns) tt written
  outside_start (create_view name query) written e = creates_fits (create_view name query) tt written
  outside_start (begin mode) written e = begins_fits mode (λ held number. says (begin_reply mode number ∷ []) (record { mode = Some mode; saved = []; kept = 0; copy = held })) (λ objects number. refl)
  outside_start (insert table tuples) written e = lone_work (insert table tuples) refl refl
  outside_start (update table ss condition) written e = lone_work (update table ss condition) refl refl
  outside_start (delete table condition) written e = lone_work (delete table condition) refl refl
  outside_start (select query order) written e = lone_work (select query order) refl refl
  outside_start commit written e = absurd (cc)
  outside_start (rollback to) written e = absurd (cc)
  outside_start (savepoint name) written e = absurd (cc)
