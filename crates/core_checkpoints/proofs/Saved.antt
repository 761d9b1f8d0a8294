-- What is told of a Checkpoint.
use Rattle.std.specs.Prelude.{◌≡◌, ℕ, ◌+◌, List, [], Option, refl}
use mathlib.Core.Path.{sym, ap, subst, ◌∙◌}
use Rattle.std.proofs.Common.{arith}
use Rattle.iv_types.specs.Maps.{Map}
use Rattle.iv_meaning.specs.Objects as defined
use Rattle.iv_meaning.specs.Schema.{Schema}
use Rattle.txn_machine.specs.Acts as act
use Rattle.txn_machine.specs.Answers as answer
use Rattle.txn_machine.specs.Log.{Within, block_bytes, carried}
use Rattle.txn_machine.specs.State.{State}
use Rattle.txn_machine.specs.Store.{committed}
use Rattle.txn_machine.specs.Steps.{texts_of}
use Rattle.txn_machine.proofs.LogRoom.{within_less}
use Rattle.txn_book.specs.Books.{number_of}
use Rattle.log_room.specs.Rooms.{IsRoomOf}
use Rattle.log_room.specs.declared.room.LogRoom.{LogRoom}
use Rattle.data_store.specs.Contents.{contents_of}
use Rattle.data_store.specs.Held.{IsHeld}
use Rattle.log_records.specs.Area.{Entry}
use Rattle.core_state.specs.Rooms.{HasRooms}
use Rattle.core_state.specs.Stands.{Began, Told}
use Rattle.core_state.specs.declared.state.CoreState.{CoreState}
use Rattle.core_state.proofs.Logged.{carries_less}
use Rattle.definition_parts.proofs.Staying.{same_texts}
use Rattle.core_effects.proofs.Done.{done_told}
use Rattle.core_recording.specs.Carried.{CarriesAll}
use Rattle.core_recording.specs.Giving.{IsSaved}
use Rattle.core_recording.proofs.Used.{used_within}

module _ {M : Type 0} (maps : M → ℕ → Map) (spare : M → ℕ → ℕ) (limit : M → Option ℕ) (core : CoreState M) (s : State) (h : Began maps spare limit core s 0) where
  -- what is saved is that of the machine's state
  pub is_saved : (entries : ℕ → Map) → entries ≡ maps core.store.tables → (number : ℕ) → number ≡ (committed s.store).number → (es : List Entry) → CarriesAll (defined.schema_of core.store.catalog) core.book.opens es
      → IsSaved s (record { maps = entries; definitions = core.store.catalog; commits = number; next = core.next; carried = es })
  is_saved entries same number number_is es all = record {
    rows = core.store.views;
    held = subst (λ (m : ℕ → Map). IsHeld core.store.catalog m core.store.views (contents_of s.store)) (sym same) h.holds.stored;
    texts = same_texts (maps core.store.tables 0) (entries 0) core.store.catalog (texts_of s) h.holds.texts (ap (λ (m : ℕ → Map). m 0) same);
    number = number_is;
    next_number = h.holds.next;
    opens = core.book.opens;
    same = h.holds.book.txns;
    records = subst (λ (os : Schema). CarriesAll os core.book.opens es) h.holds.stored.objects all;
  }

  -- ---- a journal with the log's limit has room

  pub within_empty : (most : Option ℕ) → most ≡ core.log_room.limit → Within most (block_bytes + 1)
  within_empty most same = subst (λ m. Within m (block_bytes + 1)) (sym same) h.opening.least

  -- for what is carried
  pub within_carried : (most : Option ℕ) → most ≡ core.log_room.limit → Within most (block_bytes + 1 + carried s.store)
  within_carried most same =
      subst (λ m. Within m (block_bytes + 1 + carried s.store)) (sym same)
      (within_less core.log_room.limit s.log.used (block_bytes + 1 + carried s.store) (used_within core.log_room.limit core.log_room.used core.log_room.reserved s.store s.log h.reserves.log_room)
      (carries_less maps spare limit core s 0 h))

  -- ---- the core with other maps that have the same entries

  pub same_tables : (tables : M) → maps tables ≡ maps core.store.tables → spare tables ≡ spare core.store.tables → limit tables ≡ limit core.store.tables
      → Began maps spare limit (record core { store = record core.store { tables = tables } }) s 0
  same_tables tables same_maps same_spare same_limit = record {
    reached = h.reached;
    opening = h.opening;
    runs = h.runs;
    holds = record {
      stored = subst (λ (m : ℕ → Map). IsHeld core.store.catalog m core.store.views (contents_of s.store)) (sym same_maps) h.holds.stored;
      book = h.holds.book;
      locks = h.holds.locks;
      begun = h.holds.begun;
      next = h.holds.next;
      texts = same_texts (maps core.store.tables 0) (maps tables 0) core.store.catalog (texts_of s) h.holds.texts (ap (λ (m : ℕ → Map). m 0) same_maps);
      row_mark = h.holds.row_mark;
      delta_mark = h.holds.delta_mark;
      past = h.holds.past;
      ahead = h.holds.ahead;
      rooms = subst (λ (m : ℕ → ℕ). HasRooms m core.store.catalog core.store.views core.book.opens core.locks core.wants) (sym same_spare) h.holds.rooms;
      most = same_limit ∙ h.holds.most;
    };
    reserves = h.reserves;
    own = h.own;
    waiting = h.waiting;
    counts = record { steps = h.counts.steps; seats = h.counts.seats; few = h.counts.few; cleaner = h.counts.cleaner; removed = h.counts.removed; running = h.counts.running; begun = h.counts.begun; next = h.counts.next; stop = h.counts.stop };
  }

  -- ---- the log has what is carried alone

  pub saved_told : (number : ℕ) → number ≡ number_of core.book → (room : LogRoom) → room.limit ≡ core.log_room.limit → IsRoomOf room s.store (record s.log { used = block_bytes + 1 + carried s.store })
      → Told maps spare limit s 0 act.Checkpoint (answer.Saved number) (record core { log_room = room })
  saved_told number is room same_limit logged =
      done_told maps spare limit core (record core { log_room = room }) s 0 h act.Checkpoint (answer.Saved number) [] (refl, is ∙ h.holds.book.number)
      (record {
        stored = h.holds.stored;
        book = h.holds.book;
        locks = h.holds.locks;
        begun = h.holds.begun;
        next = h.holds.next;
        texts = h.holds.texts;
        row_mark = h.holds.row_mark;
        delta_mark = h.holds.delta_mark;
        most = h.holds.most;
        past = h.holds.past;
        ahead = h.holds.ahead;
        rooms = h.holds.rooms;
      })
      (record { data_room = h.reserves.data_room; log_room = logged })
      (record { steps = refl; seats = refl; cleaner = refl; stop = refl; limit = refl; log_limit = same_limit })
      h.own (λ j js n. h.waiting j js n) refl refl (omega arith) (omega arith)
