-- A core as it is opened.
use Rattle.std.specs.Prelude.{◌≡◌, ℕ, ◌+◌, ◌≤◌, ◌^◌, max, List, [], length, Option, None, Some, IsSome, refl}
use Rattle.std.specs.List.{AllZip}
use Rattle.std.specs.FinMap.{empty}
use Rattle.std.specs.declared.alloc.Global.{Global}
use mathlib.Core.Path.{sym, ap, subst, ◌∙◌}
use Rattle.std.proofs.Common.{arith, append-nil}
use Rattle.iv_types.specs.Maps.{Map}
use Rattle.iv_meaning.specs.Database.{Database}
use Rattle.query_laws.specs.Limited.{IsLimited}
use Rattle.lock_manager.specs.Table.{SessionLocks}
use Rattle.lock_desk.specs.Asking.{HasLocks}
use Rattle.txn_machine.specs.Laws.{IsReached}
use Rattle.txn_machine.specs.Log.{Opening, Within, block_bytes, not_logged}
use Rattle.txn_machine.specs.State.{State, opened_state}
use Rattle.txn_machine.specs.Store.{opened}
use Rattle.txn_machine.specs.Stored.{ViewRows}
use Rattle.txn_book.specs.Holding as book
use Rattle.txn_book.specs.Opens.{open_at}
use Rattle.txn_book.specs.declared.open_table.Open.{Open}
use Rattle.version_chain.specs.Chains.{Chains}
use Rattle.version_chain.specs.Versions.{above}
use Rattle.version_chain.specs.declared.deltas.Delta.{Delta}
use Rattle.definition_parts.specs.Parts.{HasTexts}
use Rattle.data_store.specs.Machine.{IsPast}
use Rattle.data_store.specs.Past.{Pendings, RowVersions}
use Rattle.data_store.specs.ViewPast.{DeltaVersions}
use Rattle.data_store.specs.declared.store.DataStore.{DataStore}
use Rattle.data_past.proofs.Aheads.{ahead_opened}
use Rattle.data_past.proofs.Effects.{past_opened}
use Rattle.data_room.proofs.Kept.{reserved_none}
use Rattle.core_state.specs.Seats.{machine_seat}
use Rattle.core_state.specs.Stands.{Stands, IsOpening}
use Rattle.core_state.specs.declared.state.CoreState.{CoreState}
use Rattle.core_state.proofs.Rooms.{no_rooms}
use Rattle.core_opening.specs.Idle.{IsIdle}
use Rattle.core_opening.specs.Opening.{CanOpen}
use Rattle.core_opening.specs.declared.idle.Idle.{Idle}

-- nobody has a transaction in the book
nobody : (db : Database) (o : Option Open) → o ≡ None → book.IsSame db.schema o None not_logged
nobody db o e = subst (λ x. book.IsSame db.schema x None not_logged) (sym e) tt

-- a store without versions and pending rows has the past of a database that is opened
past_of : (db : Database) (view : ViewRows) {rows : RowVersions} {deltas : DeltaVersions} {pending : Pendings} → rows ≡ [] → deltas ≡ [] → pending ≡ empty → IsPast rows deltas pending (opened db view)
past_of db view {rows} {deltas} {pending} no_rows no_deltas none =
    subst (λ (r : RowVersions). IsPast r deltas pending (opened db view)) (sym no_rows)
    (subst (λ (d : DeltaVersions). IsPast [] d pending (opened db view)) (sym no_deltas)
    (subst (λ (p : Pendings). IsPast [] [] p (opened db view)) (sym none) (past_opened db view)))

module _ {M : Type 0} (maps : M → ℕ → Map) (spare : M → ℕ → ℕ) (limit : M → Option ℕ) (store : DataStore M) (log : Option ℕ) (most number next : ℕ) (opening : Opening) (db : Database) (view : ViewRows) (can : CanOpen maps limit store log most number next opening db view) where
  abbrev the_state : State
  the_state = opened_state opening (opened db view)

  abbrev reached_here : IsReached the_state
  reached_here = record { db = db; view = view; opening = opening; was_opened = can.was_opened; steps = []; run = refl }

  opening_here : (of_log of_data : Option ℕ) → of_log ≡ log → of_data ≡ Some most → IsOpening of_log of_data the_state
  opening_here of_log of_data of_log_is of_data_is = record {
    log_is = can.log_is ∙ sym of_log_is;
    data_is = can.data_is ∙ sym of_data_is;
    reached = reached_here;
    was = refl;
    least = subst (λ l. Within l (block_bytes + 1)) (sym of_log_is) can.least;
    bounded = subst IsSome (sym of_data_is) refl;
    within = can.within;
    early = subst (λ n. n ≤ 2 ^ 62 + 1) (sym can.next_is) can.early;
  }

  -- the mark is the database's number, which it did not pass
  marked : (pruned mark : ℕ) → pruned ≤ db.number → mark ≡ max pruned number → mark ≡ db.number
  marked pruned mark le is = let same : number ≡ db.number = can.number_is in omega (arith, le, is, same)

  module _ (alloc : Global) (idle : Idle) (idle_is : IsIdle log most number idle) (rows : Chains (Option (List ℕ))) (deltas : Chains Delta) where
    -- with the parts of an idle core, and other chains in the store
    abbrev the_core : CoreState M
    the_core = record {
      alloc = alloc;
      store = record store { row_versions = rows; delta_versions = deltas };
      book = idle.book;
      locks = idle.locks;
      wants = idle.wants;
      ahead = idle.ahead;
      data_room = idle.data_room;
      log_room = idle.log_room;
      begun = 0;
      next = next;
      steps = 0;
      seats = idle.seats;
      cleaner = record { pruned = 0; found_none = 0; removed = 0; saved = 0 };
      stop = None;
    }

    -- where the chains are pruned up to the number, the core stands where the machine begins
    pub stands : rows.versions ≡ above number store.row_versions.versions → deltas.versions ≡ above number store.delta_versions.versions → rows.pruned ≡ max store.row_versions.pruned number → deltas.pruned ≡ max store.delta_versions.pruned number
        → Stands maps spare limit the_core the_state
    stands rows_left deltas_left row_mark delta_mark = record {
      reached = reached_here;
      opening = opening_here idle.log_room.limit idle.data_room.limit idle_is.log_limit idle_is.data_limit;
      reserves = λ _. record {
        data_room = reserved_none idle.data_room db.schema (λ session. None) (λ session. not_logged) idle_is.total idle_is.shares (λ session. refl);
        log_room = idle_is.log_room db view opening.next;
      };
      holds = record {
        stored = can.has.stored;
        texts = subst (λ ts. HasTexts (maps store.tables 0) store.catalog ts) (sym (append-nil opening.definitions)) can.has.texts;
        book = record {
          number = omega (arith, idle_is.number_is, can.number_is, ap length idle_is.history);
          nobody = idle_is.opens 0;
          txns = λ j js. nobody db (open_at idle.book.opens j) (idle_is.opens j);
          entries = subst (λ es. AllZip book.IsEntry es []) (sym idle_is.history) tt;
          bytes = idle_is.entry_bytes;
        };
        locks = λ j js. subst (λ ls. HasLocks ls []) (sym (ap (λ (x : SessionLocks). x.locks) (idle_is.locks j))) (λ w. (λ h. h, λ h. h));
        begun = refl;
        next = sym can.next_is;
        row_mark = marked store.row_versions.pruned rows.pruned can.has.row_mark row_mark;
        delta_mark = marked store.delta_versions.pruned deltas.pruned can.has.delta_mark delta_mark;
        past = past_of db view (rows_left ∙ ap (above number) can.has.row_versions) (deltas_left ∙ ap (above number) can.has.delta_versions) can.has.pending;
        ahead = ahead_opened idle.ahead rows.room deltas.room db view idle_is.rows idle_is.deltas;
        most = can.maps_limit ∙ sym idle_is.data_limit;
        rooms = no_rooms (spare store.tables) store.catalog store.views idle.book.opens idle.locks idle.wants (subst IsLimited (sym can.has.stored.objects) can.limited) idle_is.opens;
      };
      waiting = λ j js. ap (λ (x : SessionLocks). x.waiting) (idle_is.locks j);
      counts = record {
        steps = refl;
        seats = λ j le. ap machine_seat (idle_is.seats j);
        few = λ j. omega arith;
        cleaner = refl;
        removed = omega arith;
        running = λ e. omega arith;
        begun = omega arith;
        next = omega arith;
        stop = refl;
      };
    }
