-- Room is made for a change, one part after another.
use Rattle.std.specs.Prelude.{◌≡◌, ◌≢◌, ℕ, ◌+◌, ◌*◌, ◌≤◌, List, [], ◌∷◌, length, map, reverse, Option, Some, IsSome, refl}
use Rattle.std.specs.List.{Contains, sum}
use mathlib.Core.Path.{sym, ap, subst, ◌∙◌}
use Rattle.std.proofs.Common.{arith}
use Rattle.std.proofs.lemmas.List.{length-reverse}
use Rattle.iv_types.specs.Maps.{Map}
use Rattle.iv_types.specs.declared.lock.GroupDelta.{GroupDelta}
use Rattle.iv_types.specs.declared.lock.KeptStep.{KeptStep as BookStep}
use Rattle.iv_types.specs.declared.lock.KeptStep.TheVariants as step
use Rattle.lock_desk.specs.PayWants.{wants_at}
use Rattle.lock_manager.specs.Table as table
use Rattle.ghost_rows.specs.State.{HasSeat, room_of}
use Rattle.table_store.specs.Readying.{HasPlaces}
use Rattle.table_store.specs.Stored.{OfTable}
use Rattle.txn_machine.specs.Deltas.{place_of}
use Rattle.txn_machine.specs.Counts.{kept_size, note_size, most_of_transaction}
use Rattle.txn_machine.specs.May.{IsOpen}
use Rattle.txn_machine.specs.State.{State}
use Rattle.txn_machine.specs.Store.{now, schema_of}
use Rattle.txn_machine.proofs.Reached.{reached}
use Rattle.txn_book.specs.Books.{IsOpenAnd, OfOpen, open_changes}
use Rattle.txn_book.specs.Txns.{HasRoomFor}
use Rattle.txn_book.specs.Opens.{open_at}
use Rattle.txn_book.specs.Txns.{txn_of}
use Rattle.txn_book.specs.declared.open_table.Open.{Open as BookOpen}
use Rattle.core_state.specs.Rooms.{IsCovered, paid}
use Rattle.core_state.specs.Stands.{Began, Holds, Reserves, its_texts}
use Rattle.core_state.specs.declared.state.CoreState.{CoreState}
use Rattle.core_changes.specs.Room.{HasRoom}
use Rattle.core_state.proofs.Few.{kept_few}
use Rattle.core_effects.proofs.Counted.{many_same}
use Rattle.core_effects.proofs.Done.{begun_underway, still_underway}
use Rattle.core_effects.proofs.Opened.{Has, own}

-- pays are kept steps
paid_few : (bs : List BookStep) → length (paid bs) ≤ length bs
paid_few [] = omega arith
paid_few (step.Put k a b n ∷ bs) = omega (arith, paid_few bs)
paid_few (step.Pay d before n ∷ bs) = omega (arith, paid_few bs)

-- what changed in the store and the book at most
pub book_rest : {M : Type 0} (core new : CoreState M) → new ≡ record core { book = new.book } → new ≡ record core { store = new.store; book = new.book }
book_rest {M} core new rest = rest ∙ (λ x. record core { store = ap (λ (y : CoreState M). y.store) (sym rest) x; book = new.book })

pub tables_rest : {M : Type 0} (core new : CoreState M) → new ≡ record core { store = record core.store { tables = new.store.tables } } → new ≡ record core { store = new.store; book = new.book }
tables_rest {M} core new rest = rest ∙ (λ x. record core { store = ap (λ (y : CoreState M). y.store) (sym rest) x; book = ap (λ (y : CoreState M). y.book) (sym rest) x })

pub views_rest : {M : Type 0} (core new : CoreState M) → new ≡ record core { store = record core.store { views = new.store.views } } → new ≡ record core { store = new.store; book = new.book }
views_rest {M} core new rest = rest ∙ (λ x. record core { store = ap (λ (y : CoreState M). y.store) (sym rest) x; book = ap (λ (y : CoreState M). y.book) (sym rest) x })

module _ {M : Type 0} (maps : M → ℕ → Map) (spare : M → ℕ → ℕ) (limit : M → Option ℕ) (core : CoreState M) (s : State) (i : ℕ) (h : Began maps spare limit core s i) where
  -- a core that holds the same, and has changed in its store and its book at most
  pub began_on : (new : CoreState M) → new ≡ record core { store = new.store; book = new.book } → Holds maps spare limit new s.store s.log (its_texts s) → Began maps spare limit new s i
  began_on new rest holds =
      let u = still_underway maps spare limit core new s i (begun_underway maps spare limit core s i h)
      (record { steps = ap (λ (x : CoreState M). x.steps) rest; seats = ap (λ (x : CoreState M). x.seats) rest; cleaner = ap (λ (x : CoreState M). x.cleaner) rest; stop = ap (λ (x : CoreState M). x.stop) rest; limit = ap (λ (x : CoreState M). x.data_room.limit) rest; log_limit = ap (λ (x : CoreState M). x.log_room.limit) rest })
      (λ js. ap (λ (x : CoreState M). table.waiting_of x.locks i) rest ∙ h.own js) (λ j n. ap (λ (x : CoreState M). table.waiting_of x.locks j) rest) in
      record { reached = u.reached; opening = u.opening; runs = u.runs; holds = holds; reserves = subst (λ (x : CoreState M). Reserves maps spare limit x s.store s.log) (sym rest) h.reserves; own = u.own; waiting = u.waiting; counts = u.counts }

  module _ (o : IsOpen s.store i) where
    abbrev pub mine : Has (schema_of s.store) (open_at core.book.opens i) (now s.store i) (s.log.logged i)
    mine = own maps spare limit core s.store s.log (its_texts s) i h.holds o

    pub some_open : IsSome (open_at core.book.opens i)
    some_open = subst IsSome (sym mine.there) refl

    -- it keeps few steps
    pub few_kept : (t : BookOpen) → open_at core.book.opens i ≡ Some t → length t.kept.items ≤ 524288
    few_kept t there =
        let one : Some t ≡ Some mine.txn = sym there ∙ mine.there in
        let same : t ≡ mine.txn = cc in
        let here : length t.kept.items ≡ length mine.txn.kept.items = ap (λ (x : BookOpen). length x.kept.items) same in
        let turned : length (reverse mine.txn.kept.items) ≡ length mine.txn.kept.items = length-reverse mine.txn.kept.items in
        let many : length (txn_of mine.txn).kept ≡ length (now s.store i).kept = many_same (txn_of mine.txn).kept (now s.store i).kept (s.log.logged i).kept mine.is.kept in
        let small : mine.txn.txn_bytes ≤ most_of_transaction = (h.holds.rooms.each i o.of_session mine.txn mine.there).small in
        let bytes : mine.txn.txn_bytes ≡ sum (map (note_size (schema_of s.store)) (now s.store i).notes) + sum (map (kept_size (schema_of s.store)) (now s.store i).kept) = mine.is.txn_bytes in
        let few : 128 * (length (now s.store i).kept + length (now s.store i).owed) ≤ sum (map (kept_size (schema_of s.store)) (now s.store i).kept) = kept_few (schema_of s.store) (now s.store i).kept (now s.store i).owed ((reached s h.reached).each i o.of_session).settled in
        omega (arith, here, turned, many, small, bytes, few)

    -- buffers for them and for the pays of others
    pub has_buffers : (owed : List GroupDelta) (t : BookOpen) (kept : ℕ) → open_at core.book.opens i ≡ Some t → kept ≡ length t.kept.items → (owed ≢ [] → 2 * length owed + kept ≤ room_of core.store.views i)
        → IsOpenAnd core.book i (λ x. 2 * length owed + length (paid (reverse x.kept.items)) ≤ room_of core.store.views i)
    has_buffers owed t kept there kept_is room =
        let one : Some t ≡ Some mine.txn = sym there ∙ mine.there in
        let same : t ≡ mine.txn = cc in
        (mine.txn, mine.there, by owed room same)
      where
        had : IsCovered core.store.catalog core.store.views core.locks (wants_at core.wants i) i (txn_of mine.txn)
        had = h.holds.rooms.each i o.of_session mine.txn mine.there

        by : (owed : List GroupDelta) → (owed ≢ [] → 2 * length owed + kept ≤ room_of core.store.views i) → t ≡ mine.txn → 2 * length owed + length (paid (reverse mine.txn.kept.items)) ≤ room_of core.store.views i
        by [] room same = let b = had.buffers in omega (arith, b)
        by (d ∷ ds) room same =
            let many : kept ≡ length mine.txn.kept.items = kept_is ∙ ap (λ (x : BookOpen). length x.kept.items) same in
            let turned : length (reverse mine.txn.kept.items) ≡ length mine.txn.kept.items = length-reverse mine.txn.kept.items in
            let few = paid_few (reverse mine.txn.kept.items) in
            let enough = room (λ e. absurd (let bad : d ∷ ds ≡ [] = e in cc)) in
            omega (arith, many, turned, few, enough)

-- the parts of the room, in the core that all are made in
module _ {M : Type 0} (spare : M → ℕ → ℕ) (one two three four : CoreState M) (i number wants : ℕ) (owed : List GroupDelta) where
  pub all_room : two ≡ record one { store = record one.store { tables = two.store.tables } } → three ≡ record two { locks = three.locks } → four ≡ record three { store = record three.store { views = four.store.views } }
      → OfOpen one.book i (HasRoomFor (length owed)) → OfTable two.store.catalog number (HasPlaces two.store.catalog (open_changes two.book.opens + 1) (spare two.store.tables))
      → wants + length owed ≤ table.room_of three.locks i → IsOpenAnd four.book i (λ o. 2 * length owed + length (paid (reverse o.kept.items)) ≤ room_of four.store.views i)
      → ((d : GroupDelta) → Contains owed d → HasSeat four.store.views (place_of d) i) → HasRoom spare four i number wants owed
  all_room rest2 rest3 rest4 step places locks buffers seats = record {
    locks = subst (λ t. wants + length owed ≤ table.room_of t i) (sym (ap (λ (x : CoreState M). x.locks) rest4)) locks;
    places = subst (λ (x : CoreState M). OfTable x.store.catalog number (HasPlaces x.store.catalog (open_changes x.book.opens + 1) (spare x.store.tables))) (sym rest4)
        (subst (λ (x : CoreState M). OfTable x.store.catalog number (HasPlaces x.store.catalog (open_changes x.book.opens + 1) (spare x.store.tables))) (sym rest3) places);
    step = subst (λ b. OfOpen b i (HasRoomFor (length owed))) (sym (ap (λ (x : CoreState M). x.book) rest4 ∙ (ap (λ (x : CoreState M). x.book) rest3 ∙ ap (λ (x : CoreState M). x.book) rest2))) step;
    owes = record {
      locks = let had = locks in let same : table.room_of four.locks i ≡ table.room_of three.locks i = ap (λ (x : CoreState M). table.room_of x.locks i) rest4 in omega (arith, had, same);
      buffers = buffers;
      seats = seats;
    };
  }
