-- A book that has the transactions of a state has them after each effect of a step.
use Rattle.std.specs.Prelude.{◌≡◌, ◌≢◌, ℕ, ◌+◌, ◌<◌, ◌≤◌, nat_le, cond, true, false, List, [], ◌∷◌, map, length, Option, Some}
use Rattle.std.specs.List.{sum, AllZip}
use mathlib.Core.Path.{refl, sym, ap, subst, ◌∙◌}
use Rattle.std.proofs.Common.{arith}
use Rattle.std.proofs.lemmas.List.Sums.{sum_by-cons}
use Rattle.std.proofs.lemmas.Bool.{lt-leb}
use Rattle.table_laws.proofs.Stored.{by_session}
use Rattle.iv_types.specs.declared.lock.GroupDelta.{GroupDelta}
use Rattle.iv_types.specs.declared.lock.Kept.{Kept}
use Rattle.iv_types.specs.declared.lock.KeptStep.{KeptStep}
use Rattle.iv_types.specs.declared.lock.KeptStep.TheVariants as kept
use Rattle.iv_types.specs.declared.lock.Prefix.{Prefix}
use Rattle.iv_types.specs.declared.statement.Mode.{Mode}
use Rattle.iv_meaning.specs.Schema.{Schema}
use Rattle.iv_meaning.specs.History.{Entry}
use Rattle.iv_meaning.specs.Escrow.{IsSession}
use Rattle.txn_machine.specs.Keeping as machine
use Rattle.txn_machine.specs.Keeping.{Note}
use Rattle.txn_machine.specs.Store.{notes_before}
use Rattle.txn_machine.specs.Counts.{note_size, kept_size, kept_change_size, put_size}
use Rattle.txn_machine.specs.Log.{Logged, rest}
use Rattle.txn_machine.specs.Deltas.{RowChange}
use Rattle.txn_machine.specs.RowChanges.{row_change}
use Rattle.txn_book.specs.Opens.{open_at}
use Rattle.txn_book.specs.Txns.{Txn, begun, noting, with_ghost, lost, with_put, with_pay, without_step, entry_size}
use Rattle.txn_book.specs.Books.{Books, IsBook, Seats, Changes}
use Rattle.txn_book.specs.Holding.{AreKept, AreCounted, txn_size, changes_size, IsTxn, IsSame, IsEntry, Holds}
use Rattle.txn_book.specs.declared.open_table.Open.{Open}
use Rattle.txn_book.proofs.Booking.{set_at, set_other}

sum-cons : (n : ℕ) (ns : List ℕ) → sum (n ∷ ns) ≡ n + sum ns
sum-cons n ns = sum_by-cons (λ m. m) n ns

le_false : (a b : ℕ) → b < a → nat_le a b ≡ false
le_false a b lt = lt-leb a b lt

-- ---- one transaction

pub begun_is : (objects : Schema) (mode : Mode) (number id : ℕ) → IsTxn objects (begun mode number id) (machine.begun mode number) (record { transaction = id; kept = []; wrote = false; ghosted = false })
begun_is objects mode number id = record {
  mode = refl;
  number = refl;
  id = refl;
  kept = tt;
  owed = refl;
  back = refl;
  ghosted = refl;
  lost = refl;
  wrote = refl;
  txn_bytes = refl;
  history_bytes = omega arith;
  counted = tt;
}

behind_put : (k : Kept) (a b n : ℕ) (bs : List KeptStep) (c : RowChange) (owed : List GroupDelta) (ks : List machine.KeptStep) (ns : List ℕ)
    → AreKept (kept.Put k a b n ∷ bs) (machine.Put c owed ∷ ks) ns → AreKept bs ks (rest ns)
behind_put k a b n bs c owed ks [] h = absurd h
behind_put k a b n bs c owed ks (m ∷ ns) h = h.2

behind_pay : (d : GroupDelta) (before : List Prefix) (n : ℕ) (bs : List KeptStep) (e : GroupDelta) (ks : List machine.KeptStep) (ns : List ℕ)
    → AreKept (kept.Pay d before n ∷ bs) (machine.Pay e ∷ ks) ns → (d ≡ e) × AreKept bs ks (rest ns)
behind_pay d before n bs e ks [] h = absurd h
behind_pay d before n bs e ks (m ∷ ns) h = (h.0, h.2)

-- a note that was made behind these steps is in no count before them
counted_after : (objects : Schema) (entry : ℕ) (n : Note) (notes : List Note) (bs : List KeptStep) (ks : List machine.KeptStep) → length ks ≤ n.kept → AreCounted objects entry notes bs ks → AreCounted objects entry (n ∷ notes) bs ks
counted_after objects entry n notes [] ks late h = tt
counted_after objects entry n notes (kept.Put k a b m ∷ bs) (machine.Put c owed ∷ ks) late h =
    let out : nat_le n.kept (length ks) ≡ false = le_false n.kept (length ks) (omega (arith, late)) in
    subst (λ ns. (a ≡ txn_size objects ns ks) × (b ≡ entry + changes_size objects ks) × AreCounted objects entry ns bs ks) (sym (ap (λ x. cond x (n ∷ notes_before (length ks) notes) (notes_before (length ks) notes)) out)) h
counted_after objects entry n notes (kept.Pay d before m ∷ bs) (machine.Pay e ∷ ks) late h = counted_after objects entry n notes bs ks (omega (arith, late)) h
counted_after objects entry n notes (kept.Put k a b m ∷ bs) [] late h = absurd h
counted_after objects entry n notes (kept.Put k a b m ∷ bs) (machine.Pay e ∷ ks) late h = absurd h
counted_after objects entry n notes (kept.Pay d before m ∷ bs) [] late h = absurd h
counted_after objects entry n notes (kept.Pay d before m ∷ bs) (machine.Put c owed ∷ ks) late h = absurd h

module _ (objects : Schema) (t : Txn) (o : machine.Open) (l : Logged) (is : IsTxn objects t o l) where
  pub lost_is : IsTxn objects (lost t) (record o { is_lost = true }) l
  lost_is = record {
    mode = is.mode;
    number = is.number;
    id = is.id;
    kept = is.kept;
    owed = is.owed;
    back = is.back;
    ghosted = is.ghosted;
    lost = refl;
    wrote = is.wrote;
    txn_bytes = is.txn_bytes;
    history_bytes = is.history_bytes;
    counted = is.counted;
  }

  pub ghosted_is : IsTxn objects (with_ghost t) o (record l { ghosted = true })
  ghosted_is = record {
    mode = is.mode;
    number = is.number;
    id = is.id;
    kept = is.kept;
    owed = is.owed;
    back = is.back;
    ghosted = refl;
    lost = is.lost;
    wrote = is.wrote;
    txn_bytes = is.txn_bytes;
    history_bytes = is.history_bytes;
    counted = is.counted;
  }

  more_kept : (k : machine.KeptStep) (size : ℕ) → kept_size objects k ≡ size → txn_size objects o.notes (k ∷ o.kept) ≡ txn_size objects o.notes o.kept + size
  more_kept k size same = omega (arith, same, sum-cons (kept_size objects k) (map (kept_size objects) o.kept))

  pub paid_is : (d : GroupDelta) (ds : List GroupDelta) (before : List Prefix) (number : ℕ)
      → IsTxn objects (with_pay t d ds before number) (record o { kept = machine.Pay d ∷ o.kept; owed = ds }) (record l { kept = number ∷ l.kept; wrote = true; ghosted = false })
  paid_is d ds before number = record {
    mode = is.mode;
    number = is.number;
    id = is.id;
    kept = (refl, refl, is.kept);
    owed = refl;
    back = is.back;
    ghosted = refl;
    lost = is.lost;
    wrote = refl;
    txn_bytes = omega (arith, is.txn_bytes, more_kept (machine.Pay d) 0 refl);
    history_bytes = is.history_bytes;
    counted = is.counted;
  }

  pub put_is : (k : Kept) (c : RowChange) (owed : List GroupDelta) (number : ℕ) → row_change k.change ≡ c → notes_before (length o.kept) o.notes ≡ o.notes
      → IsTxn objects (with_put t k number owed (put_size objects c owed) (kept_change_size objects c)) (record o { kept = machine.Put c owed ∷ o.kept; owed = owed; back = 0 }) (record l { kept = number ∷ l.kept; wrote = true; ghosted = false })
  put_is k c owed number same notes = record {
    mode = is.mode;
    number = is.number;
    id = is.id;
    kept = (same, refl, is.kept);
    owed = refl;
    back = refl;
    ghosted = refl;
    lost = is.lost;
    wrote = refl;
    txn_bytes = omega (arith, is.txn_bytes, more_kept (machine.Put c owed) (put_size objects c owed) refl);
    history_bytes = omega (arith, is.history_bytes, sum-cons (kept_change_size objects c) (map (kept_change_size objects) (machine.changes_of o.kept)));
    counted = (
      is.txn_bytes ∙ ap (λ ns. txn_size objects ns o.kept) (sym notes),
      is.history_bytes,
      subst (λ ns. AreCounted objects (entry_size o.mode) ns t.kept o.kept) (sym notes) is.counted,
    );
  }

  -- a change is taken back
  pub put_undone : (k : Kept) (txn_bytes history_bytes number : ℕ) (bs : List KeptStep) (c : RowChange) (owed : List GroupDelta) (ks : List machine.KeptStep)
      → t.kept ≡ kept.Put k txn_bytes history_bytes number ∷ bs → o.kept ≡ machine.Put c owed ∷ ks
      → IsTxn objects (without_step t (kept.Put k txn_bytes history_bytes number) bs) (record o { kept = ks; owed = []; back = 0; notes = notes_before (length ks) o.notes }) (record l { kept = rest l.kept; ghosted = false })
  put_undone k txn_bytes history_bytes number bs c owed ks kept_is steps_are =
      let counts : AreCounted objects (entry_size o.mode) o.notes (kept.Put k txn_bytes history_bytes number ∷ bs) (machine.Put c owed ∷ ks) =
      subst (λ x. AreCounted objects (entry_size o.mode) o.notes (kept.Put k txn_bytes history_bytes number ∷ bs) x) steps_are (subst (λ x. AreCounted objects (entry_size o.mode) o.notes x o.kept) kept_is is.counted) in
      record {
        mode = is.mode;
        number = is.number;
        id = is.id;
        kept = behind_put k txn_bytes history_bytes number bs c owed ks l.kept (subst (λ x. AreKept (kept.Put k txn_bytes history_bytes number ∷ bs) x l.kept) steps_are (subst (λ x. AreKept x o.kept l.kept) kept_is is.kept));
        owed = refl;
        back = refl;
        ghosted = refl;
        lost = is.lost;
        wrote = is.wrote;
        txn_bytes = counts.0;
        history_bytes = counts.1;
        counted = counts.2;
      }

  -- a pay is
  pub pay_undone : (d : GroupDelta) (before : List Prefix) (number : ℕ) (bs : List KeptStep) (e : GroupDelta) (ks : List machine.KeptStep)
      → t.kept ≡ kept.Pay d before number ∷ bs → o.kept ≡ machine.Pay e ∷ ks
      → IsTxn objects (without_step t (kept.Pay d before number) bs) (record o { kept = ks; owed = e ∷ o.owed; back = o.back + 1 }) (record l { kept = rest l.kept })
  pay_undone d before number bs e ks kept_is steps_are =
      let counts : AreCounted objects (entry_size o.mode) o.notes (kept.Pay d before number ∷ bs) (machine.Pay e ∷ ks) =
      subst (λ x. AreCounted objects (entry_size o.mode) o.notes (kept.Pay d before number ∷ bs) x) steps_are (subst (λ x. AreCounted objects (entry_size o.mode) o.notes x o.kept) kept_is is.counted) in
      let behind = behind_pay d before number bs e ks l.kept (subst (λ x. AreKept (kept.Pay d before number ∷ bs) x l.kept) steps_are (subst (λ x. AreKept x o.kept l.kept) kept_is is.kept)) in
      record {
        mode = is.mode;
        number = is.number;
        id = is.id;
        kept = behind.1;
        owed = ap (λ x. x ∷ t.owed) behind.0 ∙ ap (λ x. e ∷ x) is.owed;
        back = ap (λ n. n + 1) is.back;
        ghosted = is.ghosted;
        lost = is.lost;
        wrote = is.wrote;
        txn_bytes = omega (arith, is.txn_bytes, ap (txn_size objects o.notes) steps_are, sum-cons (kept_size objects (machine.Pay e)) (map (kept_size objects) ks));
        history_bytes = is.history_bytes ∙ ap (λ x. entry_size o.mode + changes_size objects x) steps_are;
        counted = counts;
      }

  -- a Fetch is noted, behind all that is kept
  pub noted_is : (n : Note) → n.kept ≡ length o.kept → IsTxn objects (noting t (note_size objects n)) (record o { notes = n ∷ o.notes }) l
  noted_is n last = record {
    mode = is.mode;
    number = is.number;
    id = is.id;
    kept = is.kept;
    owed = is.owed;
    back = is.back;
    ghosted = is.ghosted;
    lost = is.lost;
    wrote = is.wrote;
    txn_bytes = omega (arith, is.txn_bytes, sum-cons (note_size objects n) (map (note_size objects) o.notes));
    history_bytes = is.history_bytes;
    counted = counted_after objects (entry_size o.mode) n o.notes t.kept o.kept (omega (arith, last)) is.counted;
  }

-- ---- the book

module _ (b : Books) (objects : Schema) (open_of : ℕ → Option machine.Open) (logged : ℕ → Logged) (history : List Entry) (greatest definitions : ℕ) (holds : Holds b objects open_of logged history greatest definitions)
    (good : IsBook b) (session : ℕ) (of_session : IsSession session) (after : Books) (open_after : ℕ → Option machine.Open) (logged_after : ℕ → Logged)
    (others : (j : ℕ) → j ≢ session → (open_after j ≡ open_of j) × (logged_after j ≡ logged j)) where
  -- one session's transaction is another, or none
  pub seated_holds : (o : Option Open) → Seats b after session o → IsSame objects o (open_after session) (logged_after session) → Holds after objects open_after logged_after history greatest definitions
  seated_holds o seats same = record {
    number = omega (arith, seats.opened, ap length seats.history, holds.number);
    nobody = ap (λ os. open_at os 0) seats.opens ∙ (set_other b.opens session 0 o (λ e. absurd (omega (arith, e, of_session.0))) ∙ holds.nobody);
    txns = λ j js. by_session j session
        (λ e. subst (λ k. IsSame objects (open_at after.opens k) (open_after k) (logged_after k)) (sym e)
        (subst (λ x. IsSame objects x (open_after session) (logged_after session)) (sym (ap (λ os. open_at os session) seats.opens ∙ set_at b.opens session o (omega (arith, good.places, of_session.1)))) same))
        (λ n. subst (λ x. IsSame objects x (open_after j) (logged_after j)) (sym (ap (λ os. open_at os j) seats.opens ∙ set_other b.opens session j o n))
        (subst (λ x. IsSame objects (open_at b.opens j) x (logged_after j)) (sym (others j n).0) (subst (λ x. IsSame objects (open_at b.opens j) (open_of j) x) (sym (others j n).1) (holds.txns j js))));
    entries = subst (λ es. AllZip IsEntry es history) (sym seats.history) holds.entries;
    bytes = seats.entry_bytes ∙ holds.bytes;
  }

  pub changed_holds : (t : Txn) (o : machine.Open) → Changes b after session t → open_after session ≡ Some o → IsTxn objects t o (logged_after session) → Holds after objects open_after logged_after history greatest definitions
  changed_holds t o changes is same =
      seated_holds (Some changes.after) changes.seats (subst (λ x. IsSame objects (Some changes.after) x (logged_after session)) (sym is) (subst (λ x. IsTxn objects x o (logged_after session)) (sym changes.is) same))
