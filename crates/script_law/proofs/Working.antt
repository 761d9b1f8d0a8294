-- A statement's work in steps: wherever all that it was told is so, it comes to what it comes to alone.
use Rattle.std.specs.Prelude.{◌≡◌, if◌then◌else◌, ℕ, zero, suc, ◌+◌, ◌-◌, Bool, true, false, IsTrue, ◌||◌, List, [], ◌∷◌, ◌++◌, length, Option, Some, None}
use mathlib.Core.Path.{refl, sym, ap, subst, ◌∙◌}
use mathlib.Core.Logic.{inl, inr}
use Rattle.std.proofs.Common.{arith, append-nil}
use Rattle.std.proofs.lemmas.List.{length-append}
use Rattle.std.specs.FinMap.{get}
use Rattle.iv_types.specs.declared.statement.Mode.{Mode}
use Rattle.iv_types.specs.declared.statement.Mode.TheVariants.{Serial, Snapshot}
use Rattle.iv_types.specs.declared.lock.GroupDelta.{GroupDelta}
use Rattle.iv_types.specs.declared.value.Interval.{Interval}
use Rattle.iv_types.specs.declared.lock.LockMode.{LockMode}
use Rattle.iv_types.specs.declared.refusal.Refusal.{Refusal}
use Rattle.iv_types.specs.declared.refusal.Refusal.TheVariants.{NoMemory}
use Rattle.iv_types.specs.declared.refusal.EngineRefusal.{EngineRefusal}
use Rattle.iv_types.specs.declared.refusal.EngineRefusal.TheVariants as refusal
use Rattle.table_laws.specs.Kept.{redo}
use Rattle.iv_meaning.specs.Schema.{Schema}
use Rattle.iv_meaning.specs.Database.{Row, Database}
use Rattle.iv_meaning.specs.View.{read}
use Rattle.iv_meaning.specs.Statement.{Meaning, Refused, Accepted}
use Rattle.iv_meaning.specs.Serial.{is_engines, is_deadlock}
use Rattle.txn_machine.specs.Acts as act
use Rattle.txn_machine.specs.Acts.{Act}
use Rattle.txn_machine.specs.Answers as answer
use Rattle.txn_machine.specs.Answers.{Answer}
use Rattle.txn_machine.specs.Deltas.{RowChange}
use Rattle.txn_machine.specs.Alone.{Fact, Found, WasThere, with_changes}
use Rattle.script_law.specs.Seen.{Fails, event, is_stop, is_deadlock_event, Txn, taken_back, but_latest, owed_again, is_pay, changes, in_order, IsTruthful}
use Rattle.script_law.specs.Programs.{Todo, asks, Job, EndsInChange, AreWhole, Serves, MayCome, Proceeds, next_txn}
use Rattle.script_law.specs.Works.{Work, done, refuses, fetches, puts, alone_on, OnlyReads, Works, WorkLaws}
use Rattle.script_law.specs.Sessions.{Frame, reads_by, undo, failed, pays, pay_failed, runs, undo_next, rows_next, paid_next, changed_next}
use Rattle.script_law.proofs.Changing.{changes_append, with_more}

-- ---- how a transaction stands since another

-- Where nothing is kept since, nothing is owed; else the oldest of what is kept since is a change, so that nothing is owed once all
-- of it is taken back.
abbrev pub Settles : List (Option RowChange) → Txn → Type 0
Settles [] t = t.owed ≡ 0
Settles (k ∷ ks) t = EndsInChange (k ∷ ks)

-- the transaction as it came, and what it kept since
pub record Since (first t : Txn) (later : List (Option RowChange)) (n : ℕ) : Type 0 where
  pub kept_is : t.kept ≡ later ++ first.kept
  pub count_is : length later ≡ n
  pub mode_is : t.mode ≡ first.mode
  pub number_is : t.number ≡ first.number
  pub objects_is : t.objects ≡ first.objects
  pub back : (db : Database) → IsTruthful db t → IsTruthful db first

pub since_first : (t : Txn) → Since t t [] 0
since_first t = record { kept_is = refl; count_is = refl; mode_is = refl; number_is = refl; objects_is = refl; back = λ db h. h }

-- where it has kept nothing
pub since_none : (first t : Txn) (later : List (Option RowChange)) (n : ℕ) → Since first t later n → Since (record first { kept = [] }) t (later ++ first.kept) (n + length first.kept)
since_none first t later n h = record {
  kept_is = h.kept_is ∙ sym (append-nil (later ++ first.kept));
  count_is = length-append later first.kept ∙ ap (λ m. m + length first.kept) h.count_is;
  mode_is = h.mode_is;
  number_is = h.number_is;
  objects_is = h.objects_is;
  back = λ db all. let b = h.back db all in record { sound = b.sound; schema = b.schema; told = b.told };
}

-- the database on which the work began
abbrev pub begun_on : Txn → Database → Database
begun_on first db = with_changes (changes first.kept) db

-- ---- one step taken back

back_told : (kept : List (Option RowChange)) (t : Txn) (db : Database) → IsTruthful db (record t { told = taken_back kept t.told; kept = but_latest kept; owed = owed_again kept t.owed; is_back = is_pay kept }) → IsTruthful db t
back_told [] t db h = record { sound = h.sound; schema = h.schema; told = h.told }
back_told (Some c ∷ ks) t db h = record { sound = h.sound; schema = h.schema; told = h.told.1 }
back_told (None ∷ ks) t db h = record { sound = h.sound; schema = h.schema; told = h.told }

since_back : (first t : Txn) (k : Option RowChange) (later : List (Option RowChange)) (n : ℕ) → Since first t (k ∷ later) (suc n)
    → Since first (record t { told = taken_back t.kept t.told; kept = but_latest t.kept; owed = owed_again t.kept t.owed; is_back = is_pay t.kept }) later n
since_back first t k later n h = record {
  kept_is = ap but_latest h.kept_is;
  count_is = cc (h.count_is);
  mode_is = h.mode_is;
  number_is = h.number_is;
  objects_is = h.objects_is;
  back = λ db all. h.back db (back_told t.kept t db all);
}

-- what was taken back settles
pub settles_back : (t : Txn) (k : Option RowChange) (later rest : List (Option RowChange)) → t.kept ≡ k ∷ rest → Settles (k ∷ later) t
    → Settles later (record t { told = taken_back t.kept t.told; kept = but_latest t.kept; owed = owed_again t.kept t.owed; is_back = is_pay t.kept })
settles_back t k [] rest e h = ap (λ l. owed_again l t.owed) (e ∙ ap (λ x. x ∷ rest) h.1)
settles_back t k (l ∷ ks) rest e h = h

settles_put : (c : RowChange) (later : List (Option RowChange)) (t : Txn) → Settles later t → EndsInChange (Some c ∷ later)
settles_put c [] t h = (c, refl)
settles_put c (k ∷ ks) t h = h

settles_pay : (later : List (Option RowChange)) → EndsInChange later → EndsInChange (None ∷ later)
settles_pay [] h = absurd h
settles_pay (k ∷ ks) h = h

pub whole_of : (later : List (Option RowChange)) (t : Txn) → Settles later t → AreWhole later
whole_of [] t h = inl refl
whole_of (k ∷ ks) t h = inr h

pub settled_by : (later : List (Option RowChange)) (t : Txn) → EndsInChange later → Settles later t
settled_by [] t h = absurd h
settled_by (k ∷ ks) t h = h

-- ---- steps that fail

-- an answer that stops nothing comes only where the engine is not known to be stopped
or_true : (b : Bool) → (b || true) ≡ true
or_true true = refl
or_true false = refl

or_false : (b : Bool) → (b || false) ≡ b
or_false true = refl
or_false false = refl

suc_is : (n : ℕ) → suc n ≡ n + 1
suc_is n = omega (arith)

less_one : (n : ℕ) → suc n - 1 ≡ n
less_one n = omega (arith)

module _ (j : Job) (works : Works) where
  -- so many kept steps are taken back, and then the program goes on; this is so of what is left each time
  pub undo_serves : (Holds : List (Option RowChange) → Txn → Type 0)
      → ((t : Txn) (k : Option RowChange) (later rest : List (Option RowChange)) → t.kept ≡ k ∷ rest → Holds (k ∷ later) t
      → Holds later (record t { told = taken_back t.kept t.told; kept = but_latest t.kept; owed = owed_again t.kept t.owed; is_back = is_pay t.kept }))
      → (start first : Txn) (next : Todo) (fail : EngineRefusal → Todo)
      → ((t : Txn) → Since first t [] 0 → Holds [] t → ((db : Database) → IsTruthful db t → IsTruthful db start) → Serves false j (Some t) next)
      → ((t : Txn) (later : List (Option RowChange)) (n : ℕ) (why : EngineRefusal) → Since first t later n → IsTrue (is_stop (Fails why)) → Serves true j (Some t) (fail why))
      → (n : ℕ) (t : Txn) (later : List (Option RowChange)) → Since first t later n → Holds later t → ((db : Database) → IsTruthful db t → IsTruthful db start)
      → Serves false j (Some t) (undo works n next fail)
  undo_serves Holds lasts start first next fail goes stops zero t [] h so from = goes t h so from
  undo_serves Holds lasts start first next fail goes stops zero t (k ∷ later) h so from = absurd (cc (h.count_is))
  undo_serves Holds lasts start first next fail goes stops (suc n) t [] h so from = absurd (cc (h.count_is))
  undo_serves Holds lasts start first next fail goes stops (suc n) t (k ∷ later) h so from = (
    inr (λ e. let x = sym h.kept_is ∙ e in cc),
    by (undo_serves Holds lasts start first next fail goes stops n
        (record t { told = taken_back t.kept t.told; kept = but_latest t.kept; owed = owed_again t.kept t.owed; is_back = is_pay t.kept }) later (since_back first t k later n h)
        (lasts t k later (later ++ first.kept) h.kept_is so) (λ db all. from db (back_told t.kept t db all))),
  )
    where
      by : Serves false j (Some (record t { told = taken_back t.kept t.told; kept = but_latest t.kept; owed = owed_again t.kept t.owed; is_back = is_pay t.kept })) (undo works n next fail)
          → (said : Answer) (memory : Bool) → MayCome false (Some t) act.UndoOne said
          → Proceeds j (Some t) (event act.UndoOne said) (undo_next (undo works n next fail) fail said memory)
          (Serves (false || is_stop (event act.UndoOne said)) j (next_txn (Some t) (event act.UndoOne said)) (undo_next (undo works n next fail) fail said memory))
      by rest (answer.Undone left) memory m = rest
      by rest (answer.Refused why) memory m = subst (λ b. Serves b j (Some t) (fail why)) (sym m.can) (stops t (k ∷ later) (suc n) why h m.can)
      by rest _ memory m = absurd m.can

  -- ---- works

  module _ (copy : Schema) (mode : Mode) (frame : Frame) (first : Txn) (mode_is : first.mode ≡ mode) (whole : Work) where
    -- alone the whole work comes to this
    abbrev pub ComesTo : Txn → Meaning → Type 0
    ComesTo t m = (db : Database) → IsTruthful db t → alone_on whole (begun_on first db) [] ≡ m

    -- what follows the work is right
    pub record FrameServes : Type 0 where
      pub finishes : (t : Txn) (later : List (Option RowChange)) (n : ℕ) (listed : List Row) (count : ℕ) → Since first t later n → t.owed ≡ 0 → AreWhole later → ComesTo t (Accepted listed count (in_order (changes later)))
          → (first.mode ≡ Snapshot → later ≡ []) → Serves false j (Some t) (frame.finish listed count n)
      pub denied : (t : Txn) (later : List (Option RowChange)) (n : ℕ) (why : Refusal) → Since first t later n → Settles later t → ComesTo t (Refused why) → Serves false j (Some t) (frame.back n why)
      pub passes : (t : Txn) (later : List (Option RowChange)) (n : ℕ) (why : Refusal) → Since first t later n → Settles later t → IsTrue (is_engines why) → is_deadlock why ≡ false → Serves false j (Some t) (frame.back n why)
      pub loses : (t : Txn) (later : List (Option RowChange)) (n : ℕ) (why : Refusal) → Since first t later n → IsTrue (is_engines why) → IsTrue (is_deadlock why) → Serves false j (Some t) (frame.lost n why)
      pub stops : (t : Txn) (later : List (Option RowChange)) (n : ℕ) (why : Refusal) → Since first t later n → IsTrue (is_engines why) → is_deadlock why ≡ false → Serves true j (Some t) (frame.stopped why)

    module _ (works_laws : WorkLaws works) (fs : FrameServes) where
      stop_not_deadlock : (why : EngineRefusal) → is_stop (Fails why) ≡ true → is_deadlock_event why ≡ false
      stop_not_deadlock (refusal.Stopped n) e = refl
      stop_not_deadlock refusal.DiskFault e = refl
      stop_not_deadlock _ e = absurd (cc)

      fails_serves : (t : Txn) (later : List (Option RowChange)) (n : ℕ) (delta : Option GroupDelta) (why : EngineRefusal) → Since first t later n → Settles later t
          → Serves (is_stop (Fails why)) j (Some t) (failed works copy mode frame n delta why)
      fails_serves t later n delta why h so = by (is_stop (Fails why)) (is_deadlock_event why) refl refl
        where
          told : Refusal
          told = works.tell copy delta why

          by : (b c : Bool) → is_stop (Fails why) ≡ b → is_deadlock_event why ≡ c
              → Serves b j (Some t) (if b then frame.stopped (works.tell copy delta why) else if c then frame.lost n (works.tell copy delta why) else frame.back n (works.tell copy delta why))
          by true c stop dead = fs.stops t later n (works.tell copy delta why) h (works_laws.engines copy delta why) (works_laws.deadlocks copy delta why ∙ stop_not_deadlock why stop)
          by false true stop dead = fs.loses t later n (works.tell copy delta why) h (works_laws.engines copy delta why) (works_laws.deadlocks copy delta why ∙ dead)
          by false false stop dead = fs.passes t later n (works.tell copy delta why) h so (works_laws.engines copy delta why) (works_laws.deadlocks copy delta why ∙ dead)

      -- for want of memory it is taken back
      lacks_serves : (t : Txn) (later : List (Option RowChange)) (n : ℕ) → Since first t later n → Settles later t → Serves false j (Some t) (frame.back n NoMemory)
      lacks_serves t later n h so = fs.passes t later n NoMemory h so refl refl

      pay_fails : (t : Txn) (later : List (Option RowChange)) (n : ℕ) (d : GroupDelta) (memory : Bool) (why : EngineRefusal) → Since first t later n → Settles later t
          → Serves (is_stop (Fails why)) j (Some t) (pay_failed works copy mode frame n d memory why)
      pay_fails t later n d false (refusal.Escrow column inf sup) h so = lacks_serves t later n h so
      pay_fails t later n d true why h so = fails_serves t later n (Some d) why h so
      pay_fails t later n d memory why h so = fails_serves t later n (Some d) why h so

      -- a pay more
      since_pay : (t : Txn) (later : List (Option RowChange)) (n : ℕ) → Since first t later n → Since first (record t { kept = None ∷ t.kept; owed = t.owed - 1 }) (None ∷ later) (n + 1)
      since_pay t later n h = record {
        kept_is = ap (λ l. None ∷ l) h.kept_is;
        count_is = ap suc h.count_is ∙ suc_is n;
        mode_is = h.mode_is;
        number_is = h.number_is;
        objects_is = h.objects_is;
        back = λ db all. h.back db (record { sound = all.sound; schema = all.schema; told = all.told });
      }

      -- all that is owed is paid, and then the program goes on
      pays_serves : (ds : List GroupDelta) (next : ℕ → Todo) (n : ℕ) (t : Txn) (later : List (Option RowChange)) → Since first t later n → t.mode ≡ Serial → EndsInChange later → t.owed ≡ length ds → t.is_back ≡ false
          → ((t' : Txn) (later' : List (Option RowChange)) (n' : ℕ) → Since first t' later' n' → EndsInChange later' → t'.owed ≡ 0 → changes later' ≡ changes later → ((db : Database) → IsTruthful db t' → IsTruthful db t)
          → Serves false j (Some t') (next n'))
          → Serves false j (Some t) (pays works copy mode frame ds next n)
      pays_serves [] next n t later h serial ends owes not_back goes = goes t later n h ends owes refl (λ db all. all)
      pays_serves (d ∷ ds) next n t later h serial ends owes not_back goes = (
        inr (record { mode_is = serial; owes = λ e. let x = sym owes ∙ e in cc; not_back = not_back }),
        by (pays_serves ds next (n + 1) (record t { kept = None ∷ t.kept; owed = t.owed - 1 }) (None ∷ later) (since_pay t later n h) serial (settles_pay later ends) (ap (λ m. m - 1) owes ∙ less_one (length ds)) not_back
            (λ t' later' n' h' ends' none same truth. goes t' later' n' h' ends' none same (λ db all. let x = truth db all in record { sound = x.sound; schema = x.schema; told = x.told }))),
      )
        where
          by : Serves false j (Some (record t { kept = None ∷ t.kept; owed = t.owed - 1 })) (pays works copy mode frame ds next (n + 1)) → (said : Answer) (memory : Bool) → MayCome false (Some t) act.Pay said
              → Proceeds j (Some t) (event act.Pay said) (paid_next (pays works copy mode frame ds next (n + 1)) (frame.back (n + 1) NoMemory) (pay_failed works copy mode frame n d) said memory)
              (Serves (false || is_stop (event act.Pay said)) j (next_txn (Some t) (event act.Pay said))
              (paid_next (pays works copy mode frame ds next (n + 1)) (frame.back (n + 1) NoMemory) (pay_failed works copy mode frame n d) said memory))
          by rest (answer.Paid left) true m = rest
          by rest (answer.Paid left) false m =
              lacks_serves (record t { kept = None ∷ t.kept; owed = t.owed - 1 }) (None ∷ later) (n + 1) (since_pay t later n h) (settled_by (None ∷ later) (record t { kept = None ∷ t.kept; owed = t.owed - 1 }) (settles_pay later ends))
          by rest (answer.Refused why) memory m = pay_fails t later n d memory why h (settled_by later t ends)
          by rest (answer.Blocked sessions) memory m = tt
          by rest answer.NeedsGhost memory m = tt
          by rest _ memory m = absurd m.can

      -- so far the work has come
      pub record Point (w : Work) (t : Txn) (later : List (Option RowChange)) (n : ℕ) : Type 0 where
        pub since : Since first t later n
        pub settles : Settles later t
        pub ready : t.owed ≡ 0
        pub leads : (db : Database) → IsTruthful db t → alone_on whole (begun_on first db) [] ≡ alone_on w (begun_on first db) (changes later)
        pub reads : first.mode ≡ Snapshot → OnlyReads w × (later ≡ []) × (first.kept ≡ [])

      found_since : (t : Txn) (later : List (Option RowChange)) (n : ℕ) (x : Fact) → Since first t later n → Since first (record t { told = x ∷ t.told }) later n
      found_since t later n x h = record {
        kept_is = h.kept_is;
        count_is = h.count_is;
        mode_is = h.mode_is;
        number_is = h.number_is;
        objects_is = h.objects_is;
        back = λ db all. h.back db (record { sound = all.sound; schema = all.schema; told = all.told.1 });
      }

      found_settles : (later : List (Option RowChange)) (t : Txn) (x : Fact) → Settles later t → Settles later (record t { told = x ∷ t.told })
      found_settles [] t x h = h
      found_settles (k ∷ ks) t x h = h

      -- the database as its own changes left it
      on_way : (t : Txn) (later : List (Option RowChange)) (n : ℕ) (db : Database) → Since first t later n → with_changes (changes t.kept) db ≡ with_changes (changes later) (begun_on first db)
      on_way t later n db h = ap (λ l. with_changes l db) (ap changes h.kept_is ∙ changes_append later first.kept) ∙ with_more (changes later) (changes first.kept) db

      goes_found : (index : ℕ) (interval : Interval) (lock : LockMode) (f : List Row → Work) (t : Txn) (later : List (Option RowChange)) (n : ℕ) (rows : List Row) (cs : List RowChange)
          → Point (fetches index interval lock f) t later n → ((db : Database) → with_changes cs db ≡ with_changes (changes later) (begun_on first db))
          → Point (f rows) (record t { told = Found index interval rows cs ∷ t.told }) later n
      goes_found index interval lock f t later n rows cs p same = record {
        since = found_since t later n (Found index interval rows cs) p.since;
        settles = found_settles later t (Found index interval rows cs) p.settles;
        ready = p.ready;
        leads = λ db all. p.leads db (record { sound = all.sound; schema = all.schema; told = all.told.1 })
            ∙ ap (λ (x : List Row). alone_on (f x) (begun_on first db) (changes later)) (ap (λ d. read d index interval) (sym (same db)) ∙ all.told.0);
        reads = λ m. let x = p.reads m in (x.0 rows, x.1, x.2);
      }

      none_changed : (t : Txn) (later : List (Option RowChange)) (db : Database) → later ≡ [] → first.kept ≡ [] → with_changes [] db ≡ with_changes (changes later) (begun_on first db)
      none_changed t later db l k = λ x. with_changes (changes (sym l x)) (with_changes (changes (sym k x)) db)

      -- a change more; what it owes is still to be paid
      put_since : (table : ℕ) (key : List ℕ) (new : Option Row) (t : Txn) (later : List (Option RowChange)) (n : ℕ) (before : Option Row) (many : ℕ) → Since first t later n
          → Since first (record t {
            told = WasThere (table, key) new before (changes t.kept) ∷ t.told;
            kept = Some (record { key = (table, key); before = before; after = new }) ∷ t.kept;
            owed = many;
            is_back = false;
          }) (Some (record { key = (table, key); before = before; after = new }) ∷ later) (n + 1)
      put_since table key new t later n before many h = record {
        kept_is = ap (λ l. Some (record { key = (table, key); before = before; after = new }) ∷ l) h.kept_is;
        count_is = ap suc h.count_is ∙ suc_is n;
        mode_is = h.mode_is;
        number_is = h.number_is;
        objects_is = h.objects_is;
        back = λ db all. h.back db (record { sound = all.sound; schema = all.schema; told = all.told.1 });
      }

      -- once it is paid
      put_point : (table : ℕ) (key : List ℕ) (new : Option Row) (f : Option Row → Work) (t : Txn) (later : List (Option RowChange)) (n : ℕ) (before : Option Row) (many : ℕ) (t' : Txn) (later' : List (Option RowChange)) (n' : ℕ)
          → Point (puts table key new f) t later n → Since first t' later' n' → EndsInChange later' → t'.owed ≡ 0
          → changes later' ≡ record { key = (table, key); before = before; after = new } ∷ changes later
          → ((db : Database) → IsTruthful db t' → IsTruthful db (record t {
            told = WasThere (table, key) new before (changes t.kept) ∷ t.told;
            kept = Some (record { key = (table, key); before = before; after = new }) ∷ t.kept;
            owed = many;
            is_back = false;
          }))
          → Point (f before) t' later' n'
      put_point table key new f t later n before many t' later' n' p h ends none same truth = record {
        since = h;
        settles = settled_by later' t' ends;
        ready = none;
        leads = λ db all.
            let x = truth db all in
            let was : before ≡ get (redo (changes later) (begun_on first db).rows) (table, key) = x.told.0 ∙ ap (λ (d : Database). get d.rows (table, key)) (on_way t later n db p.since) in
            p.leads db (record { sound = x.sound; schema = x.schema; told = x.told.1 })
            ∙ ap (λ (y : Option Row). alone_on (f y) (begun_on first db) (record { key = (table, key); before = y; after = new } ∷ changes later)) (sym was)
            ∙ ap (alone_on (f before) (begun_on first db)) (sym same);
        reads = λ m. absurd (p.reads m).0;
      }

      serial_by : (t : Txn) (later : List (Option RowChange)) (n : ℕ) → Since first t later n → mode ≡ Serial → t.mode ≡ Serial
      serial_by t later n h e = h.mode_is ∙ mode_is ∙ e

      -- what changes rows is no snapshot's
      serial_now : (table : ℕ) (key : List ℕ) (new : Option Row) (f : Option Row → Work) (t : Txn) (later : List (Option RowChange)) (n : ℕ) → Point (puts table key new f) t later n → t.mode ≡ Serial
      serial_now table key new f t later n p = by first.mode refl
        where
          by : (m : Mode) → first.mode ≡ m → t.mode ≡ Serial
          by Serial e = p.since.mode_is ∙ e
          by Snapshot e = absurd (p.reads e).0

      pub runs_serves : (w : Work) (n : ℕ) (t : Txn) (later : List (Option RowChange)) → Point w t later n → Serves false j (Some t) (runs works copy mode frame w n)
      runs_serves (done listed count) n t later p = fs.finishes t later n listed count p.since p.ready (whole_of later t p.settles) (λ db all. p.leads db all) (λ m. (p.reads m).1)
      runs_serves (refuses why) n t later p = fs.denied t later n why p.since p.settles (λ db all. p.leads db all)
      runs_serves (fetches index interval lock f) n t later p = by_mode mode refl (λ rows cs same. runs_serves (f rows) n (record t { told = Found index interval rows cs ∷ t.told }) later (goes_found index interval lock f t later n rows cs p same))
        where
          by_mode : (m : Mode) → mode ≡ m
              → ((rows : List Row) (cs : List RowChange) → ((db : Database) → with_changes cs db ≡ with_changes (changes later) (begun_on first db))
              → Serves false j (Some (record t { told = Found index interval rows cs ∷ t.told })) (runs works copy mode frame (f rows) n))
              → Serves false j (Some t) (asks (reads_by m index interval lock) (rows_next (λ rows. runs works copy mode frame (f rows) n) (frame.back n NoMemory) (failed works copy mode frame n None)))
          by_mode Serial e rest = (inr (record { mode_is = serial_by t later n p.since e; owes_nothing = p.ready }), by)
            where
              by : (said : Answer) (memory : Bool) → MayCome false (Some t) (act.Fetch index interval lock) said
                  → Proceeds j (Some t) (event (act.Fetch index interval lock) said) (rows_next (λ rows. runs works copy mode frame (f rows) n) (frame.back n NoMemory) (failed works copy mode frame n None) said memory)
                  (Serves (false || is_stop (event (act.Fetch index interval lock) said)) j (next_txn (Some t) (event (act.Fetch index interval lock) said)) (rows_next (λ rows. runs works copy mode frame (f rows) n) (frame.back n NoMemory) (failed works copy mode frame n None) said memory))
              by (answer.Rows rows) true m = rest rows (changes t.kept) (λ db. on_way t later n db p.since)
              by (answer.Rows rows) false m =
                  lacks_serves (record t { told = Found index interval rows (changes t.kept) ∷ t.told }) later n (found_since t later n (Found index interval rows (changes t.kept)) p.since) (found_settles later t (Found index interval rows (changes t.kept)) p.settles)
              by (answer.Refused why) memory m = fails_serves t later n None why p.since p.settles
              by (answer.Blocked sessions) memory m = tt
              by _ memory m = absurd m.can
          by_mode Snapshot e rest = (inr (record { mode_is = p.since.mode_is ∙ mode_is ∙ e; owes_nothing = p.ready }), by)
            where
              by : (said : Answer) (memory : Bool) → MayCome false (Some t) (act.Peek index interval) said
                  → Proceeds j (Some t) (event (act.Peek index interval) said) (rows_next (λ rows. runs works copy mode frame (f rows) n) (frame.back n NoMemory) (failed works copy mode frame n None) said memory)
                  (Serves (false || is_stop (event (act.Peek index interval) said)) j (next_txn (Some t) (event (act.Peek index interval) said)) (rows_next (λ rows. runs works copy mode frame (f rows) n) (frame.back n NoMemory) (failed works copy mode frame n None) said memory))
              by (answer.Rows rows) true m = let x = p.reads (mode_is ∙ e) in rest rows [] (λ db. none_changed t later db x.1 x.2)
              by (answer.Rows rows) false m =
                  lacks_serves (record t { told = Found index interval rows [] ∷ t.told }) later n (found_since t later n (Found index interval rows []) p.since) (found_settles later t (Found index interval rows []) p.settles)
              by (answer.Refused why) memory m = fails_serves t later n None why p.since p.settles
              by _ memory m = absurd m.can
      runs_serves (puts table key new f) n t later p = (
        inr (record { mode_is = serial_now table key new f t later n p; owes_nothing = p.ready }),
        by (λ before owed. pays_serves owed (λ m. runs works copy mode frame (f before) m) (n + 1) _ _ (put_since table key new t later n before (length owed) p.since) (serial_now table key new f t later n p)
            (settles_put (record { key = (table, key); before = before; after = new }) later t p.settles) refl refl
            (λ t' later' n' h' ends none same truth. runs_serves (f before) n' t' later' (put_point table key new f t later n before (length owed) t' later' n' p h' ends none same truth))),
      )
        where
          by : ((before : Option Row) (owed : List GroupDelta)
              → Serves false j (Some (record t {
                told = WasThere (table, key) new before (changes t.kept) ∷ t.told;
                kept = Some (record { key = (table, key); before = before; after = new }) ∷ t.kept;
                owed = length owed;
                is_back = false;
              })) (pays works copy mode frame owed (λ m. runs works copy mode frame (f before) m) (n + 1)))
              → (said : Answer) (memory : Bool) → MayCome false (Some t) (act.Put table key new) said
              → Proceeds j (Some t) (event (act.Put table key new) said) (changed_next (λ before owed. pays works copy mode frame owed (λ m. runs works copy mode frame (f before) m) (n + 1)) (frame.back (n + 1) NoMemory) (failed works copy mode frame n None) said memory)
              (Serves (false || is_stop (event (act.Put table key new) said)) j (next_txn (Some t) (event (act.Put table key new) said))
              (changed_next (λ before owed. pays works copy mode frame owed (λ m. runs works copy mode frame (f before) m) (n + 1)) (frame.back (n + 1) NoMemory) (failed works copy mode frame n None) said memory))
          by rest (answer.Changed before owed) true m = rest before owed
          by rest (answer.Changed before owed) false m =
              let after : Txn = record t {
                told = WasThere (table, key) new before (changes t.kept) ∷ t.told;
                kept = Some (record { key = (table, key); before = before; after = new }) ∷ t.kept;
                owed = length owed;
                is_back = false;
              } in
              lacks_serves after (Some (record { key = (table, key); before = before; after = new }) ∷ later) (n + 1) (put_since table key new t later n before (length owed) p.since)
              (settled_by (Some (record { key = (table, key); before = before; after = new }) ∷ later) after (settles_put (record { key = (table, key); before = before; after = new }) later t p.settles))
          by rest (answer.Refused why) memory m = fails_serves t later n None why p.since p.settles
          by rest (answer.Blocked sessions) memory m = tt
          by rest _ memory m = absurd m.can
