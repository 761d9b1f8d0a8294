-- What stands ready for open transactions, after what changes one of them.
use Rattle.std.specs.Prelude.{◌≡◌, ◌≢◌, ℕ, ◌+◌, ◌≤◌, ◌<◌, ◌==◌, cond, true, false, List, [], ◌∷◌, ◌++◌, map, drop, length, slice_set, Option, None, Some, IsSome, IfSome, ℤ, refl, not}
use Rattle.std.specs.Int.{w128, int_wrapping_add}
use Rattle.escrow_bounds.specs.Column as column
use Rattle.std.specs.List.{Contains, filter}
use mathlib.Core.Path.{sym, ap, subst, ◌∙◌}
use mathlib.Core.Logic.{inl, inr}
use Rattle.std.proofs.Common.{arith}
use Rattle.std.proofs.lemmas.List.Sums.{sum_by-cons}
use Rattle.table_laws.specs.Place.{Place}
use Rattle.table_laws.proofs.Stored.{by_session}
use Rattle.iv_types.specs.Definitions.{Definitions}
use Rattle.iv_types.specs.declared.lock.Want.{Want}
use Rattle.iv_types.specs.declared.lock.GroupDelta.{GroupDelta}
use Rattle.iv_meaning.specs.Objects as defined
use Rattle.iv_meaning.specs.Escrow.{IsSession}
use Rattle.query_laws.specs.Limited.{IsLimited}
use Rattle.ghost_rows.specs.Rows.{OpenRow, row_at, settled_at, left_open}
use Rattle.ghost_rows.specs.Shares.{sum_at}
use Rattle.ghost_rows.specs.State.{State as ViewState, HasSeat, room_of}
use Rattle.ghost_rows.specs.declared.shares.Share.{Share}
use Rattle.ghost_rows.proofs.RowLemmas.{has_left}
use Rattle.lock_manager.specs.Table as table
use Rattle.lock_manager.specs.Table.{Table, SessionLocks, IsCancelled, IsRecorded}
use Rattle.lock_desk.specs.PayWants.{wants_at}
use Rattle.txn_machine.specs.Counts.{most_of_transaction}
use Rattle.txn_machine.specs.Steps.{group_want}
use Rattle.txn_book.specs.Opens.{open_at}
use Rattle.iv_types.specs.declared.statement.Mode.{Mode}
use Rattle.txn_book.specs.Txns.{Txn, txn_of, begun}
use Rattle.txn_book.specs.Books.{Books, IsBook, Changes}
use Rattle.txn_book.specs.declared.open_table.Open.{Open}
use Rattle.txn_book.proofs.Booking.{set_at, set_other, sum_set, at_place, no_place}
use Rattle.core_state.specs.Rooms.{gone_of, IsWanted, AreWanted, IsCovered, HasRooms, all_gone, gone_if, still_owed, paid, CanBeTakenBack}

-- ---- entries that go back in

pub gone_set : (index : ℕ) (opens : List (Option Open)) (i : ℕ) (o : Option Open) → i < length opens → all_gone index (slice_set opens i o) + gone_if index (open_at opens i) ≡ all_gone index opens + gone_if index o
gone_set index opens i o lt = by (open_at opens i) refl
  where
    by : (x : Option Open) → open_at opens i ≡ x → all_gone index (slice_set opens i o) + gone_if index x ≡ all_gone index opens + gone_if index o
    by None e = sum_set (gone_if index) opens i None o (no_place opens i lt e)
    by (Some p) e = sum_set (gone_if index) opens i (Some p) o (at_place opens i p e)

-- nothing where no transaction is open
pub nothing_gone : (index : ℕ) (opens : List (Option Open)) → ((session : ℕ) → open_at opens session ≡ None) → all_gone index opens ≡ 0
nothing_gone index [] none = refl
nothing_gone index (None ∷ opens) none = let rest : all_gone index opens ≡ 0 = nothing_gone index opens (λ session. none (ℕ.suc session)) in omega (arith, sum_by-cons (gone_if index) None opens, rest)
nothing_gone index (Some o ∷ opens) none = let bad : Some o ≡ None = none 0 in absurd cc

-- where one transaction has others to go back in
pub undo_set : (index : ℕ) (opens : List (Option Open)) (i : ℕ) (o : Option Open) (before after : ℕ) → i < length opens → all_gone index opens ≤ before → before + gone_if index o ≤ after + gone_if index (open_at opens i) → all_gone index (slice_set opens i o) ≤ after
undo_set index opens i o before after lt had more = let s = gone_set index opens i o lt in omega (arith, s, had, more)

-- ---- others stay covered

-- what one session's step leaves of the rest
pub record IsElsewhere (i : ℕ) (views views_after : ViewState) (locks locks_after : Table) (wants wants_after : List (List (List Want))) : Type 0 where
  pub of_locks : (j : ℕ) → j ≢ i → table.of_session locks_after j ≡ table.of_session locks j
  pub of_wants : (j : ℕ) → j ≢ i → wants_at wants_after j ≡ wants_at wants j
  pub of_buffers : (j : ℕ) → j ≢ i → room_of views j ≤ room_of views_after j
  pub of_seats : (j : ℕ) (place : Place) → j ≢ i → HasSeat views place j → HasSeat views_after place j

-- a session is covered where what it needs is there as before
pub covered_by : (definitions : Definitions) (views views_after : ViewState) (locks locks_after : Table) (wants wants_after : List (List Want)) (j : ℕ) (t : Txn) → IsCovered definitions views locks wants j t
    → table.of_session locks_after j ≡ table.of_session locks j → wants_after ≡ wants → room_of views j ≤ room_of views_after j → ((place : Place) → HasSeat views place j → HasSeat views_after place j) → IsCovered definitions views_after locks_after wants_after j t
covered_by definitions views views_after locks locks_after wants wants_after j t c of_locks of_wants of_buffers of_seats = record {
  wanted = subst (λ (p : SessionLocks). AreWanted p.room p.locks p.waiting wants_after (still_owed t)) (sym of_locks)
      (subst (λ ws. AreWanted (table.room_of locks j) (table.locks_of locks j) (table.waiting_of locks j) ws (still_owed t)) (sym of_wants) c.wanted);
  buffers = omega (arith, c.buffers, of_buffers);
  seats = λ d has. of_seats (d.view, d.group) (c.seats d has);
  kept = c.kept;
  small = c.small;
}

-- what stands ready, where one session's transaction is another, or none
pub rooms_with : (spare spare_after : ℕ → ℕ) (definitions : Definitions) (views views_after : ViewState) (opens opens_after : List (Option Open)) (locks locks_after : Table)
    (wants wants_after : List (List (List Want))) (i : ℕ) (o : Option Open)
    → HasRooms spare definitions views opens locks wants → ((index : ℕ) → all_gone index opens_after ≤ spare_after index)
    → open_at opens_after i ≡ o → ((j : ℕ) → j ≢ i → open_at opens_after j ≡ open_at opens j)
    → IsElsewhere i views views_after locks locks_after wants wants_after
    → ((t : Open) → o ≡ Some t → IsSession i → IsCovered definitions views_after locks_after (wants_at wants_after i) i (txn_of t))
    → HasRooms spare_after definitions views_after opens_after locks_after wants_after
rooms_with spare spare_after definitions views views_after opens opens_after locks locks_after wants wants_after i o h undo here there others own = record {
  limited = h.limited;
  undo = undo;
  each = λ j js t is. by_session j i
      (λ e. subst (λ k. IsCovered definitions views_after locks_after (wants_at wants_after k) k (txn_of t)) (sym e) (own t (sym here ∙ (ap (open_at opens_after) (sym e) ∙ is)) (subst IsSession e js)))
      (λ n. covered_by definitions views views_after locks locks_after (wants_at wants j) (wants_at wants_after j) j (txn_of t) (h.each j js t (sym (there j n) ∙ is)) (others.of_locks j n) (others.of_wants j n) (others.of_buffers j n)
      (λ place. others.of_seats j place n));
}

-- nothing is elsewhere but as it was
pub elsewhere_same : (i : ℕ) (views : ViewState) (locks : Table) (wants : List (List (List Want))) → IsElsewhere i views views locks locks wants wants
elsewhere_same i views locks wants = record { of_locks = λ j n. refl; of_wants = λ j n. refl; of_buffers = λ j n. omega arith; of_seats = λ j place n h. h }

-- ---- a transaction with the same steps and the same debts

pub covered_alike : (definitions : Definitions) (views : ViewState) (locks : Table) (wants : List (List Want)) (j : ℕ) (t u : Txn) → u.kept ≡ t.kept → u.owed ≡ t.owed → u.back ≡ t.back → u.txn_bytes ≤ most_of_transaction → IsCovered definitions views locks wants j t → IsCovered definitions views locks wants j u
covered_alike definitions views locks wants j t u kept owed back small c =
    let still : still_owed u ≡ still_owed t = ap (λ n. drop n u.owed) back ∙ ap (drop t.back) owed in
    record {
      wanted = subst (AreWanted (table.room_of locks j) (table.locks_of locks j) (table.waiting_of locks j) wants) (sym still) c.wanted;
      buffers = let one : length (still_owed u) ≡ length (still_owed t) = ap length still in let other : length (paid u.kept) ≡ length (paid t.kept) = ap (λ ks. length (paid ks)) kept in omega (arith, one, other, c.buffers);
      seats = λ d has. c.seats d (subst (λ ds. Contains ds d) (ap (λ ds. ds ++ paid u.kept) still ∙ ap (λ ks. still_owed t ++ paid ks) kept) has);
      kept = subst (CanBeTakenBack definitions) (sym kept) c.kept;
      small = small;
    }

-- ---- a session that waits, or does so no more

-- its step begins: what it waited for is put back among the wants of its pays
pub wanted_back : (room : ℕ) (locks waiting : List Want) (wants back : List (List Want)) (ds : List GroupDelta)
    → ((more : List (List Want)) → wants ≡ [] ∷ more → back ≡ waiting ∷ more)
    → ((want : Want) (others : List Want) (more : List (List Want)) → wants ≡ (want ∷ others) ∷ more → back ≡ wants)
    → AreWanted room locks waiting wants ds → AreWanted room locks [] back ds
wanted_back room locks waiting wants back [] put there h = tt
wanted_back room locks waiting [] back (d ∷ ds) put there h = absurd h
wanted_back room locks waiting (w ∷ ws) back (d ∷ ds) put there h = by h.0
  where
    by : IsWanted room locks waiting w d (length ds) → AreWanted room locks [] back (d ∷ ds)
    by (inl full) =
        let same : back ≡ (group_want d ∷ []) ∷ ws = there (group_want d) [] ws (ap (λ x. x ∷ ws) full.0) ∙ ap (λ x. x ∷ ws) full.0 in
        subst (λ b. AreWanted room locks [] b (d ∷ ds)) (sym same) (inl (refl, full.1), h.1)
    by (inr (inl held)) =
        let same : back ≡ [] ∷ ws = put ws (ap (λ x. x ∷ ws) held.0) ∙ ap (λ x. x ∷ ws) held.1 in
        subst (λ b. AreWanted room locks [] b (d ∷ ds)) (sym same) (inr (inl (refl, refl, held.2, held.3)), h.1)
    by (inr (inr waits)) =
        let same : back ≡ (group_want d ∷ []) ∷ ws = put ws (ap (λ x. x ∷ ws) waits.0) ∙ ap (λ x. x ∷ ws) waits.1 in
        subst (λ b. AreWanted room locks [] b (d ∷ ds)) (sym same) (inl (refl, waits.2), h.1)

-- ---- a session that has settled

abbrev settled_as : OpenRow → ℕ → Option ℤ → OpenRow
settled_as row i o = elim o [
  | None ↦ row
  | Some sum ↦ record {
    columns = map (λ c. column.settled c i) row.columns;
    committed = int_wrapping_add w128 row.committed sum;
    shares = filter (λ (s : Share). not (s.session == i)) row.shares;
  }
]

abbrev Seated : Option OpenRow → ℕ → Type 0
Seated o j = IfSome o (λ row. IsSome (sum_at row.shares j)) × IsSome o

stays_open : (row : OpenRow) (shares : List Share) (j : ℕ) → row.shares ≡ shares → IsSome (sum_at row.shares j) → Seated (left_open (Some row)) j
stays_open row [] j e has = let none : IsSome (sum_at [] j) = subst (λ xs. IsSome (sum_at xs j)) e has in absurd cc
stays_open row (s ∷ ss) j e has = subst (λ b. Seated (cond b (Some row) None) j) (sym (ap (λ (xs : List Share). elim xs [ [] ↦ false | x ∷ ys ↦ true ]) e)) (has, refl)

seat_of : (o n : Option OpenRow) (i j : ℕ) → j ≢ i → n ≡ settled_at i o → Seated o j → Seated n j
seat_of None n i j differ e h = let none : IsSome {T = OpenRow} None = h.1 in absurd cc
seat_of (Some row) n i j differ e h = subst (λ x. Seated x j) (sym e) (elim (sum_at row.shares i) as (λ x. Seated (left_open (Some (settled_as row i x))) j) [
  | None ↦ stays_open row row.shares j refl h.0
  | Some sum ↦ stays_open (settled_as row i (Some sum)) (filter (λ (s : Share). not (s.session == i)) row.shares) j refl (has_left row.shares i j differ h.0)
])

-- the other sessions have their seats
pub seats_left : (old new : ViewState) (i j : ℕ) (place : Place) → j ≢ i → row_at new.rows place ≡ settled_at i (row_at old.rows place) → HasSeat old place j → HasSeat new place j
seats_left old new i j place differ e h = seat_of (row_at old.rows place) (row_at new.rows place) i j differ e h

-- ---- a core as it is made, and as a step begins

pub no_rooms : (spare : ℕ → ℕ) (definitions : Definitions) (views : ViewState) (opens : List (Option Open)) (locks : Table) (wants : List (List (List Want))) → IsLimited (defined.schema_of definitions)
    → ((session : ℕ) → open_at opens session ≡ None) → HasRooms spare definitions views opens locks wants
no_rooms spare definitions views opens locks wants limited none = record {
  limited = limited;
  undo = λ index. let zero : all_gone index opens ≡ 0 = nothing_gone index opens none in omega (arith, zero);
  each = λ j js t is. let bad : None ≡ Some t = sym (none j) ∙ is in absurd cc;
}

-- a session's step begins
pub rooms_back : (spare : ℕ → ℕ) (definitions : Definitions) (views : ViewState) (opens : List (Option Open)) (locks after : Table) (wants back : List (List (List Want))) (i : ℕ)
    → HasRooms spare definitions views opens locks wants → IsCancelled locks after i
    → ((more : List (List Want)) → wants_at wants i ≡ [] ∷ more → wants_at back i ≡ table.waiting_of locks i ∷ more)
    → ((want : Want) (others : List Want) (more : List (List Want)) → wants_at wants i ≡ (want ∷ others) ∷ more → wants_at back i ≡ wants_at wants i)
    → ((j : ℕ) → j ≢ i → wants_at back j ≡ wants_at wants j)
    → HasRooms spare definitions views opens after back
rooms_back spare definitions views opens locks after wants back i h cancelled put there others =
    rooms_with spare spare definitions views views opens opens locks after wants back i (open_at opens i) h h.undo refl (λ j n. refl)
    (record { of_locks = cancelled.others; of_wants = others; of_buffers = λ j n. omega arith; of_seats = λ j place n has. has })
    (λ t is js. let c = h.each i js t is in record {
      wanted = subst (λ (p : SessionLocks). AreWanted p.room p.locks p.waiting (wants_at back i) (still_owed (txn_of t))) (sym cancelled.changed)
          (wanted_back (table.room_of locks i) (table.locks_of locks i) (table.waiting_of locks i) (wants_at wants i) (wants_at back i) (still_owed (txn_of t)) put there c.wanted);
      buffers = c.buffers;
      seats = c.seats;
      kept = c.kept;
      small = c.small;
    })

-- ---- a transaction that changes, or ends

-- with room for what is to go back in then
pub rooms_moved : (spare spare_after : ℕ → ℕ) (definitions : Definitions) (views views_after : ViewState) (b after : Books) (locks locks_after : Table)
    (wants wants_after : List (List (List Want))) (i : ℕ) (t : Txn)
    → IsBook b → IsSession i → HasRooms spare definitions views b.opens locks wants → Changes b after i t
    → ((index : ℕ) → all_gone index b.opens + gone_of index t.kept ≤ spare_after index + gone_if index (open_at b.opens i))
    → IsElsewhere i views views_after locks locks_after wants wants_after → IsCovered definitions views_after locks_after (wants_at wants_after i) i t
    → HasRooms spare_after definitions views_after after.opens locks_after wants_after
rooms_moved spare spare_after definitions views views_after b after locks locks_after wants wants_after i t good is h changes more others covered =
    let lt : i < length b.opens = omega (arith, good.places, is.1) in
    let opens : after.opens ≡ slice_set b.opens i (Some changes.after) = changes.seats.opens in
    rooms_with spare spare_after definitions views views_after b.opens after.opens locks locks_after wants wants_after i (Some changes.after) h
    (λ index. subst (λ os. all_gone index os ≤ spare_after index) (sym opens)
    (let same : gone_if index (Some changes.after) ≡ gone_of index t.kept = ap (λ (u : Txn). gone_of index u.kept) changes.is in let set = gone_set index b.opens i (Some changes.after) lt in omega (arith, same, more index, set)))
    (ap (λ os. open_at os i) opens ∙ set_at b.opens i (Some changes.after) lt)
    (λ j n. ap (λ os. open_at os j) opens ∙ set_other b.opens i j (Some changes.after) n) others
    (λ u e js. let same : changes.after ≡ u = cc in subst (λ x. IsCovered definitions views_after locks_after (wants_at wants_after i) i (txn_of x)) same (subst (IsCovered definitions views_after locks_after (wants_at wants_after i) i) (sym changes.is) covered))

pub rooms_changed : (spare spare_after : ℕ → ℕ) (definitions : Definitions) (views views_after : ViewState) (b after : Books) (locks locks_after : Table)
    (wants wants_after : List (List (List Want))) (i : ℕ) (t : Txn)
    → IsBook b → IsSession i → HasRooms spare definitions views b.opens locks wants → Changes b after i t
    → ((index : ℕ) → spare index + gone_of index t.kept ≤ spare_after index + gone_if index (open_at b.opens i))
    → IsElsewhere i views views_after locks locks_after wants wants_after → IsCovered definitions views_after locks_after (wants_at wants_after i) i t
    → HasRooms spare_after definitions views_after after.opens locks_after wants_after
rooms_changed spare spare_after definitions views views_after b after locks locks_after wants wants_after i t good is h changes more others covered =
    rooms_moved spare spare_after definitions views views_after b after locks locks_after wants wants_after i t good is h changes
    (λ index. let had = h.undo index in omega (arith, had, more index)) others covered

pub rooms_closed : (spare spare_after : ℕ → ℕ) (definitions : Definitions) (views views_after : ViewState) (b : Books) (opens : List (Option Open)) (locks locks_after : Table)
    (wants wants_after : List (List (List Want))) (i : ℕ)
    → IsBook b → IsSession i → HasRooms spare definitions views b.opens locks wants → opens ≡ slice_set b.opens i None
    → ((index : ℕ) → spare index ≤ spare_after index)
    → IsElsewhere i views views_after locks locks_after wants wants_after
    → HasRooms spare_after definitions views_after opens locks_after wants_after
rooms_closed spare spare_after definitions views views_after b opens locks locks_after wants wants_after i good is h closed more others =
    let lt : i < length b.opens = omega (arith, good.places, is.1) in
    rooms_with spare spare_after definitions views views_after b.opens opens locks locks_after wants wants_after i None h
    (λ index. subst (λ os. all_gone index os ≤ spare_after index) (sym closed) (undo_set index b.opens i None (spare index) (spare_after index) lt (h.undo index) (omega (arith, more index))))
    (ap (λ os. open_at os i) closed ∙ set_at b.opens i None lt)
    (λ j n. ap (λ os. open_at os j) closed ∙ set_other b.opens i j None n) others
    (λ u e js. absurd (let bad : None ≡ Some u = e in cc))

-- of a transaction that has only begun
pub covered_begun : (definitions : Definitions) (views : ViewState) (locks : Table) (wants : List (List Want)) (j : ℕ) (mode : Mode) (number id : ℕ) → IsCovered definitions views locks wants j (begun mode number id)
covered_begun definitions views locks wants j mode number id = record {
  wanted = tt;
  buffers = omega arith;
  seats = λ d has. absurd (omega (arith, has.1));
  kept = tt;
  small = omega arith;
}

-- a session that owes nothing waits
pub rooms_waiting : (spare : ℕ → ℕ) (definitions : Definitions) (views : ViewState) (opens : List (Option Open)) (locks after : Table) (wants : List (List (List Want))) (i : ℕ) (ws : List Want)
    → HasRooms spare definitions views opens locks wants → IsRecorded locks after i ws → ((t : Open) → open_at opens i ≡ Some t → still_owed (txn_of t) ≡ []) → HasRooms spare definitions views opens after wants
rooms_waiting spare definitions views opens locks after wants i ws h recorded nothing =
    rooms_with spare spare definitions views views opens opens locks after wants wants i (open_at opens i) h h.undo refl (λ j n. refl)
    (record { of_locks = recorded.others; of_wants = λ j n. refl; of_buffers = λ j n. omega arith; of_seats = λ j place n has. has })
    (λ t is js. let c = h.each i js t is in record {
      wanted = subst (AreWanted (table.room_of after i) (table.locks_of after i) (table.waiting_of after i) (wants_at wants i)) (sym (nothing t is)) tt;
      buffers = c.buffers;
      seats = c.seats;
      kept = c.kept;
      small = c.small;
    })
