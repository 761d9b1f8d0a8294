-- What is told of an act that asks for locks and is not free.
use Rattle.std.specs.Prelude.{◌≡◌, ℕ, ◌+◌, ◌≤◌, ◌==◌, cond, true, false, List, [], ◌∷◌, Some, refl, Option}
use mathlib.Core.Path.{sym, ap, subst, ◌∙◌}
use Rattle.std.proofs.Common.{arith}
use Rattle.table_laws.proofs.Stored.{by_session}
use Rattle.iv_types.specs.Maps.{Map}
use Rattle.iv_types.specs.declared.lock.Want.{Want}
use Rattle.iv_types.specs.declared.session.Sessions.{Sessions}
use Rattle.iv_types.specs.declared.session.Cycle.{Cycle}
use Rattle.iv_types.specs.declared.refusal.EngineRefusal.TheVariants as refusal
use Rattle.iv_meaning.specs.Escrow.{IsSession}
use Rattle.iv_meaning.specs.Waits.{sessions_of}
use Rattle.lock_manager.specs.Table as table
use Rattle.lock_manager.specs.Table.{Table, SessionLocks, IsRecorded}
use Rattle.lock_desk.specs.Asking.{HasLocks, Agrees, HasToWait}
use Rattle.txn_machine.specs.Acts as act
use Rattle.txn_machine.specs.Acts.{Act}
use Rattle.txn_machine.specs.Answers as answer
use Rattle.txn_machine.specs.Answers.{Answer}
use Rattle.txn_machine.specs.Keeping.{Open}
use Rattle.txn_machine.specs.Locks.{Locks, with_one, AreInTheWay, IsDeadlock}
use Rattle.txn_machine.specs.Waiting.{WaitsOn, IsRing}
use Rattle.txn_machine.specs.Log.{Log, Logged, logs, log_all}
use Rattle.txn_machine.specs.Store.{Effect, Loses, now, schema_of, committed, locks_of, with_txn}
use Rattle.txn_machine.specs.Counts.{definition_sizes}
use Rattle.txn_machine.specs.State.{State}
use Rattle.txn_machine.specs.May.{IsOpen}
use Rattle.txn_machine.specs.Steps.{MayWait, IsBlocked, log_after, definitions_after}
use Rattle.txn_machine.proofs.Basics.{one_same, one_other}
use Rattle.txn_machine.proofs.LogRoom.{logs_logged}
use Rattle.txn_book.specs.Opens.{open_at}
use Rattle.txn_book.specs.Books.{Books, IsBook, Changes}
use Rattle.txn_book.specs.Txns.{txn_of, lost}
use Rattle.txn_book.specs.Holding as book
use Rattle.txn_book.proofs.Holding.{changed_holds, lost_is}
use Rattle.data_store.specs.Contents.{contents_of}
use Rattle.data_store.specs.Held.{IsHeld}
use Rattle.data_room.proofs.Kept.{reserved_one}
use Rattle.data_room.proofs.Transactions.{now_room}
use Rattle.log_room.specs.Rooms.{SameRoomLaw}
use Rattle.core_state.specs.Stands.{Began, Told, Holds, Reserves, its_texts}
use Rattle.core_state.specs.declared.state.CoreState.{CoreState}
use Rattle.lock_desk.specs.PayWants.{wants_at}
use Rattle.data_past.proofs.Aheads.{ahead_loses}
use Rattle.data_past.proofs.Effects.{past_loses}
use Rattle.core_state.specs.Rooms.{HasRooms, gone_if}
use Rattle.core_state.proofs.Rooms.{rooms_changed, elsewhere_same, covered_alike}
use Rattle.core_state.proofs.Sessions.{contents_as, kept_same, locks_same, HasTxn, now_is}
use Rattle.core_locks.specs.Asks.{Asks, others_wait}

-- ---- acts that lock have no log and no definition of their own

plain_log : (s : State) (i : ℕ) (a : Act) (said : Answer) (es : List Effect) → MayWait a → log_after s i a said es ≡ log_all s.store i a es s.log
plain_log s i (act.Fetch number interval mode) said es m = refl
plain_log s i (act.Put number key new) said es m = refl
plain_log s i act.Pay said es m = refl
plain_log s i (act.Begin mode) said es m = absurd m
plain_log s i act.Defs said es m = absurd m
plain_log s i (act.Peek number interval) said es m = absurd m
plain_log s i act.Ghost said es m = absurd m
plain_log s i act.UndoOne said es m = absurd m
plain_log s i act.End said es m = absurd m
plain_log s i act.Commit said es m = absurd m
plain_log s i (act.Schema statement) said es m = absurd m
plain_log s i act.Clean said es m = absurd m
plain_log s i act.Prune said es m = absurd m
plain_log s i act.Checkpoint said es m = absurd m
plain_log s i act.Cancel said es m = absurd m

plain_definitions : (texts : List (List ℕ)) (a : Act) (said : Answer) → MayWait a → definitions_after texts a said ≡ texts
plain_definitions texts (act.Fetch number interval mode) said m = refl
plain_definitions texts (act.Put number key new) said m = refl
plain_definitions texts act.Pay said m = refl
plain_definitions texts (act.Begin mode) said m = absurd m
plain_definitions texts act.Defs said m = absurd m
plain_definitions texts (act.Peek number interval) said m = absurd m
plain_definitions texts act.Ghost said m = absurd m
plain_definitions texts act.UndoOne said m = absurd m
plain_definitions texts act.End said m = absurd m
plain_definitions texts act.Commit said m = absurd m
plain_definitions texts (act.Schema statement) said m = absurd m
plain_definitions texts act.Clean said m = absurd m
plain_definitions texts act.Prune said m = absurd m
plain_definitions texts act.Checkpoint said m = absurd m
plain_definitions texts act.Cancel said m = absurd m

-- ---- what sessions wait for

again : (waiting : Locks) (i : ℕ) (wants : List Want) (k : ℕ) → with_one (others_wait waiting i) i wants k ≡ with_one waiting i wants k
again waiting i wants k = elim (k == i) as (λ b. cond b wants (cond b [] (waiting k)) ≡ cond b wants (waiting k)) [ true ↦ refl | false ↦ refl ]

all_again : (waiting : Locks) (i : ℕ) (wants : List Want) → with_one (others_wait waiting i) i wants ≡ with_one waiting i wants
all_again waiting i wants = λ j k. again waiting i wants k j

-- ---- what is told

pub agrees : {M : Type 0} (maps : M → ℕ → Map) (spare : M → ℕ → ℕ) (limit : M → Option ℕ) (core : CoreState M) (s : State) (i : ℕ) → Began maps spare limit core s i → IsSession i → Agrees core.locks (locks_of s.store) (others_wait s.waiting i)
agrees maps spare limit core s i h is = record {
  locks = h.holds.locks;
  waiting = λ k js. by_session k i
      (λ e. subst (λ n. table.waiting_of core.locks n ≡ others_wait s.waiting i n) (sym e) (h.own is ∙ sym (one_same s.waiting i [] i refl)))
      (λ n. h.waiting k js n ∙ sym (one_other s.waiting i [] k n));
}

module _ {M : Type 0} (maps : M → ℕ → Map) (spare : M → ℕ → ℕ) (limit : M → Option ℕ) (core : CoreState M) (s : State) (i : ℕ) (h : Began maps spare limit core s i) (o : IsOpen s.store i) where
  module _ (a : Act) (wants : List Want) (asks : Asks s i a wants) where
    -- it waits
    pub waits_told : (after : Table) (back : List (List (List Want))) (sessions : Sessions) → IsRecorded core.locks after i wants
        → HasRooms (spare core.store.tables) core.store.catalog core.store.views core.book.opens after back → HasToWait (locks_of s.store) (others_wait s.waiting i) i wants sessions → Told maps spare limit s i a (answer.Blocked sessions) (record core { locks = after; wants = back })
    waits_told after back sessions recorded rooms waits = record {
      reached = h.reached;
      opening = h.opening;
      runs = h.runs;
      effects = [];
      says = (
        asks.0,
        subst (λ ws. IsBlocked s i ws sessions) (sym asks.1) (record {
          in_the_way = waits.in_the_way;
          not_empty = waits.not_empty;
          no_cycle = λ others ring. waits.no_cycle others (subst (λ (w : Locks). IsRing (WaitsOn (locks_of s.store) w) i others) (sym (all_again s.waiting i wants)) ring);
        }),
        refl,
      );
      holds = subst (λ ds. Holds maps spare limit (record core { locks = after; wants = back }) s.store (log_after s i a (answer.Blocked sessions) []) (record { before = s.opening.definitions; since = ds })) (sym (plain_definitions s.definitions a (answer.Blocked sessions) asks.0))
          (subst (λ l. Holds maps spare limit (record core { locks = after; wants = back }) s.store l (its_texts s)) (sym same_log) (record {
            stored = h.holds.stored;
            book = h.holds.book;
            locks = λ k is. by_session k i
                (λ e. subst (λ n. HasLocks (table.locks_of after n) (locks_of s.store n)) (sym e) (subst (λ ls. HasLocks ls (locks_of s.store i)) (sym (ap (λ (x : SessionLocks). x.locks) recorded.changed)) (h.holds.locks i o.of_session)))
                (λ n. subst (λ (x : SessionLocks). HasLocks x.locks (locks_of s.store k)) (sym (recorded.others k n)) (h.holds.locks k is));
            begun = h.holds.begun;
            next = h.holds.next;
            texts = h.holds.texts;
            row_mark = h.holds.row_mark;
            delta_mark = h.holds.delta_mark;
            most = h.holds.most;
            past = h.holds.past;
            ahead = h.holds.ahead;
            rooms = rooms;
          }));
      reserves = subst (λ l. Reserves maps spare limit (record core { locks = after; wants = back }) s.store l) (sym same_log) (record { data_room = h.reserves.data_room; log_room = h.reserves.log_room });
      own = λ all e. ap (λ (x : SessionLocks). x.waiting) recorded.changed ∙ sym asks.1;
      none = λ b. absurd (cc);
      waiting = λ k is n. ap (λ (x : SessionLocks). x.waiting) (recorded.others k n) ∙ h.waiting k is n;
      counts = record { steps = h.counts.steps; seats = h.counts.seats; few = h.counts.few; cleaner = h.counts.cleaner; removed = h.counts.removed; running = h.counts.running; begun = h.counts.begun; next = h.counts.next; stop = h.counts.stop };
      no_fault = refl;
      begins_one = subst (λ (l : Log). l.begun ≤ s.log.begun + 1) (sym same_log) (omega arith);
      appends_one = subst (λ (l : Log). l.next ≤ s.log.next + 1) (sym same_log) (omega arith);
    }
      where
        same_log : log_after s i a (answer.Blocked sessions) [] ≡ s.log
        same_log = plain_log s i a (answer.Blocked sessions) [] asks.0

    -- a deadlock met it
    pub lost_told : (after : Books) (cycle : Cycle) (own : HasTxn (schema_of s.store) (open_at core.book.opens i) o.transaction (s.log.logged i)) → IsBook core.book → SameRoomLaw → Changes core.book after i (lost (txn_of own.txn))
        → IsDeadlock (locks_of s.store) (others_wait s.waiting i) i wants (sessions_of cycle) → Told maps spare limit s i a (answer.Refused (refusal.Deadlock cycle)) (record core { book = after })
    lost_told after cycle own good law changes deadlock = record {
      reached = h.reached;
      opening = h.opening;
      runs = h.runs;
      effects = Loses ∷ [];
      says = (
        asks.0,
        subst (λ ws. IsDeadlock (locks_of s.store) s.waiting i ws (sessions_of cycle)) (sym asks.1) (record {
          waits = deadlock.waits;
          of_all = λ k is. subst (λ ws. AreInTheWay (locks_of s.store) k ws (deadlock.waits k)) (again s.waiting i wants k) (deadlock.of_all k is);
          closes = deadlock.closes;
        }),
        refl,
      );
      holds = subst (λ ds. Holds maps spare limit (record core { book = after }) (with_txn s.store i (Some lost_one)) (log_after s i a (answer.Refused (refusal.Deadlock cycle)) (Loses ∷ [])) (record { before = s.opening.definitions; since = ds })) (sym (plain_definitions s.definitions a (answer.Refused (refusal.Deadlock cycle)) asks.0))
          (subst (λ l. Holds maps spare limit (record core { book = after }) (with_txn s.store i (Some lost_one)) l (its_texts s)) (sym same_log) (record {
            stored = subst (IsHeld core.store.catalog (maps core.store.tables) core.store.views)
                (contents_as (contents_of s.store) (contents_of (with_txn s.store i (Some lost_one))) refl refl refl (λ j. sym (kept_same s.store.open_of i (Some lost_one) refl j)))
                h.holds.stored;
            book = subst (λ l. book.Holds after (schema_of s.store) (with_one s.store.open_of i (Some lost_one)) l s.store.history (committed s.store).number (definition_sizes s.definitions)) (sym (logs_logged s.store i a Loses s.log))
                (changed_holds core.book (schema_of s.store) s.store.open_of s.log.logged s.store.history (committed s.store).number (definition_sizes s.definitions) h.holds.book good i o.of_session after (with_one s.store.open_of i (Some lost_one)) (with_one s.log.logged i (s.log.logged i))
                (λ j n. (one_other s.store.open_of i (Some lost_one) j n, one_other s.log.logged i (s.log.logged i) j n))
                (lost (txn_of own.txn)) lost_one changes (one_same s.store.open_of i (Some lost_one) i refl)
                (subst (book.IsTxn (schema_of s.store) (lost (txn_of own.txn)) lost_one) (sym (one_same s.log.logged i (s.log.logged i) i refl)) (lost_is (schema_of s.store) (txn_of own.txn) (now s.store i) (s.log.logged i) (subst (λ t. book.IsTxn (schema_of s.store) (txn_of own.txn) t (s.log.logged i)) (sym (now_is maps spare limit core s i h o)) own.is))));
            locks = λ j js. subst (HasLocks (table.locks_of core.locks j)) (sym (locks_same s.store.open_of i (Some lost_one) refl j)) (h.holds.locks j js);
            begun = h.holds.begun;
            next = h.holds.next;
            texts = h.holds.texts;
            row_mark = h.holds.row_mark;
            delta_mark = h.holds.delta_mark;
            most = h.holds.most;
            past = past_loses core.store.row_versions.versions core.store.delta_versions.versions core.store.pending.entries s.store h.holds.past i o.of_session;
            ahead = ahead_loses core.ahead core.store.row_versions.room core.store.delta_versions.room s.store h.holds.ahead i;
            rooms = rooms_changed (spare core.store.tables) (spare core.store.tables) core.store.catalog core.store.views core.store.views core.book after core.locks core.locks core.wants core.wants i
                (lost (txn_of own.txn)) good o.of_session h.holds.rooms changes (λ index. let same : gone_if index (open_at core.book.opens i) ≡ gone_if index (Some own.txn) = ap (gone_if index) own.there in omega (arith, same)) (elsewhere_same i core.store.views core.locks core.wants)
                (covered_alike core.store.catalog core.store.views core.locks (wants_at core.wants i) i (txn_of own.txn) (lost (txn_of own.txn)) refl refl refl (h.holds.rooms.each i o.of_session own.txn own.there).small (h.holds.rooms.each i o.of_session own.txn own.there));
          }));
      reserves = subst (λ l. Reserves maps spare limit (record core { book = after }) (with_txn s.store i (Some lost_one)) l) (sym same_log)
          (record {
            data_room = reserved_one (schema_of s.store) s.store.open_of s.log.logged (logs s.store i a Loses s.log).logged i (Some lost_one) (s.log.logged i) (λ j. ap (λ (f : ℕ → Logged). f j) (logs_logged s.store i a Loses s.log))
                core.data_room (now_room (schema_of s.store) (s.store.open_of i) (s.log.logged i).ghosted) h.reserves.data_room;
            log_room = law.deadlocks core.log_room s.store s.log i a o.of_session (o.is_open ∙ ap Some (sym (now_is maps spare limit core s i h o))) h.reserves.log_room;
          });
      own = λ sessions e. absurd (cc);
      none = λ _ is. h.own is;
      waiting = h.waiting;
      counts = record { steps = h.counts.steps; seats = h.counts.seats; few = h.counts.few; cleaner = h.counts.cleaner; removed = h.counts.removed; running = h.counts.running; begun = h.counts.begun; next = h.counts.next; stop = h.counts.stop };
      no_fault = refl;
      begins_one = subst (λ (l : Log). l.begun ≤ s.log.begun + 1) (sym same_log) (omega arith);
      appends_one = subst (λ (l : Log). l.next ≤ s.log.next + 1) (sym same_log) (omega arith);
    }
      where
        lost_one : Open
        lost_one = record (now s.store i) { is_lost = true }

        same_log : log_after s i a (answer.Refused (refusal.Deadlock cycle)) (Loses ∷ []) ≡ logs s.store i a Loses s.log
        same_log = plain_log s i a (answer.Refused (refusal.Deadlock cycle)) (Loses ∷ []) asks.0
