-- Room for versions, and how many there are at most.
use Rattle.std.specs.Prelude.{◌≡◌, ℕ, ◌<◌, ◌≤◌, ◌^◌, List, [], ◌∷◌, length, Option}
use mathlib.Core.Path.{ap}
use mathlib.Core.Logic.{inl, inr}
use Rattle.std.proofs.Common.{arith, length-append}
use Rattle.iv_types.specs.Maps.{Map}
use Rattle.iv_meaning.specs.Escrow.{IsSession}
use Rattle.txn_machine.specs.Keeping.{KeptStep, Put, Pay, Open, changes_of}
use Rattle.txn_machine.specs.State.{State}
use Rattle.txn_machine.specs.Store.{now, changes_by}
use Rattle.txn_machine.proofs.Good.{the_open}
use Rattle.txn_machine.proofs.Seats.{session_or, nobody_open}
use Rattle.data_past.specs.Ahead.{Becomes, rows_at, deltas_at}
use Rattle.data_past.specs.Moves.{pays_of}
use Rattle.data_past.specs.declared.versions.Versions.{Versions}
use Rattle.data_past.proofs.Aheads.{rows_many, deltas_many, ahead_reserved}
use Rattle.core_state.specs.Stands.{Began, its_texts}
use Rattle.core_state.specs.declared.state.CoreState.{CoreState}
use Rattle.core_state.proofs.Few.{session_few, steps_few}
use Rattle.txn_machine.proofs.Reached.{reached}

pays_few : (ks : List KeptStep) → length (pays_of ks) ≤ length ks
pays_few [] = omega arith
pays_few (Put c ds ∷ ks) = omega (arith, pays_few ks)
pays_few (Pay d ∷ ks) = omega (arith, pays_few ks, length-append (pays_of ks) (d ∷ []))

module _ {M : Type 0} (maps : M → ℕ → Map) (spare : M → ℕ → ℕ) (limit : M → Option ℕ) (core : CoreState M) (s : State) (i : ℕ) (h : Began maps spare limit core s i) where
  nobody : (j : ℕ) → (IsSession j → ⊥) → (the_open (s.store.open_of j)).kept ≡ []
  nobody j n = ap (λ (o : Option Open). (the_open o).kept) (nobody_open s h.reached j n)

  pub few_rows : (j : ℕ) → length (rows_at core.ahead j) < 2 ^ 20
  few_rows j =
      let many = rows_many core.ahead core.store.row_versions.room core.store.delta_versions.room s.store h.holds.ahead j in
      elim (session_or j) [
        | inl js ↦ (let few = session_few maps spare limit core s.store s.log (its_texts s) h.holds j js in omega (arith, many, few))
        | inr n ↦ (let none : length (changes_by s.store j) ≡ 0 = ap (λ ks. length (changes_of ks)) (nobody j n) in omega (arith, many, none))
      ]

  pub few_deltas : (j : ℕ) → length (deltas_at core.ahead j) < 2 ^ 20
  few_deltas j =
      let many = deltas_many core.ahead core.store.row_versions.room core.store.delta_versions.room s.store h.holds.ahead j in
      let pays = pays_few (now s.store j).kept in
      elim (session_or j) [
        | inl js ↦ (let few = steps_few maps spare limit core s.store s.log (its_texts s) h.holds j js ((reached s h.reached).each j js).settled in omega (arith, many, pays, few))
        | inr n ↦ (let none : length (now s.store j).kept ≡ 0 = ap length (nobody j n) in let owes : length (now s.store j).owed ≡ 0 = ap (λ (o : Option Open). length (the_open o).owed) (nobody_open s h.reached j n) in omega (arith, many, pays, none, owes))
      ]

  -- nothing is changed but room
  pub roomier_began : (row_room delta_room : ℕ) (ahead : List Versions) → core.store.row_versions.room ≤ row_room → core.store.delta_versions.room ≤ delta_room → Becomes core.ahead ahead i (rows_at core.ahead i) (deltas_at core.ahead i)
      → Began maps spare limit (record core { store = record core.store { row_versions = record core.store.row_versions { room = row_room }; delta_versions = record core.store.delta_versions { room = delta_room } }; ahead = ahead }) s i
  roomier_began row_room delta_room ahead more more_deltas same = record {
    reached = h.reached;
    opening = h.opening;
    runs = h.runs;
    holds = record {
      stored = h.holds.stored;
      book = h.holds.book;
      locks = h.holds.locks;
      begun = h.holds.begun;
      next = h.holds.next;
      texts = h.holds.texts;
      row_mark = h.holds.row_mark;
      delta_mark = h.holds.delta_mark;
      most = h.holds.most;
      past = h.holds.past;
      ahead = ahead_reserved core.ahead core.store.row_versions.room core.store.delta_versions.room s.store h.holds.ahead i ahead same row_room delta_room more more_deltas;
      rooms = h.holds.rooms;
    };
    reserves = h.reserves;
    own = h.own;
    waiting = h.waiting;
    counts = record { steps = h.counts.steps; seats = h.counts.seats; few = h.counts.few; cleaner = h.counts.cleaner; removed = h.counts.removed; running = h.counts.running; begun = h.counts.begun; next = h.counts.next; stop = h.counts.stop };
  }
