-- Each effect of the machine keeps the log what it is.
use Rattle.std.specs.Prelude.{◌≡◌, ◌≢◌, ℕ, ◌+◌, ◌≤◌, true, List, [], ◌∷◌, ◌++◌, Some, IsSome, pos, ◌+ℤ◌}
use Rattle.std.specs.FinMap.{get}
use mathlib.Core.Path.{refl, sym, ap, subst, ◌∙◌}
use mathlib.Core.Logic.{inl}
use Rattle.std.proofs.Common.{arith, length}
use Rattle.std.proofs.lemmas.Int.{ints}
use Rattle.iv_types.specs.declared.statement.Mode.TheVariants.{Serial, Snapshot}
use Rattle.iv_types.specs.declared.lock.GroupDelta.{GroupDelta}
use Rattle.table_laws.specs.Place.{Place}
use Rattle.table_laws.specs.Kept.{redo, Touches}
use Rattle.table_laws.specs.Table.{write}
use Rattle.iv_meaning.specs.Escrow.{IsSession, over_sessions}
use Rattle.txn_machine.specs.Deltas.{RowChange, negated, place_of}
use Rattle.txn_machine.specs.Keeping.{KeptStep, Put, Pay, changes_of, begun}
use Rattle.txn_machine.specs.Stored.{add_to, stored_number}
use Rattle.txn_machine.specs.Fresh.{fresh}
use Rattle.txn_machine.specs.Store.{Store, committed, schema_of, now, changes_by, change_at, locks_of, paid_first, undone, notes_before, Effect, Opens, Takes, Notes, Writes, Pays, Ghosts, Undoes, Loses, Ends, Commits, Defines, Cleans, Prunes, does}
use Rattle.txn_machine.specs.Ghosts.{the_views}
use Rattle.txn_machine.proofs.Agreeing.{written_at}
use Rattle.txn_machine.proofs.Bounds.{over_zero}
use Rattle.txn_machine.proofs.Columns.{paid_in}
use Rattle.txn_machine.proofs.Keeps.{pays_none}
use Rattle.txn_machine.proofs.Reached.{Holds'}
use Rattle.txn_machine.proofs.Good.{PaysOn}
use Rattle.txn_machine.proofs.Runs.{CanPay, none_kept}
use Rattle.std.specs.List.{AllByRecursion}
use Rattle.txn_machine.proofs.Shapes.{Stored'}
use Rattle.txn_machine.proofs.Looking.{view_laws}
use Rattle.txn_log.specs.Replay.{Wrote, Added, Deed, rows_without, view_without}
use Rattle.txn_log.specs.Fitting.{BackFits}
use Rattle.txn_log.specs.Replay.{own}
use Rattle.txn_log.specs.Fitting.{IsKnown, IsAccepted}
use Rattle.txn_log.proofs.Memory.{Memory, pays, undoes, remembers, HasNumber}
use Rattle.txn_log.proofs.Finding.{by_number}
use Rattle.txn_log.proofs.Reversing.{not_nothing}
use Rattle.txn_log.proofs.Knowing.{all_owed, ghost_group, accepted_stored, stored_group}
use Rattle.txn_log.proofs.Tying.{whats_of, whats_in, whats_changes, changes_kept, replay_of, Tied}
use Rattle.txn_log.proofs.Keeping.{CanDo, some_of, not_empty, stored_huge, same_head, same_tail, tied_stay, tied_begin, tied_bare, tied_keep, tied_undo, tied_end, tied_commit, tied_ghost, tied_clean, tied_define}

-- a change is of a table, a definition is accepted, and a Clean finds its row
abbrev pub Finds : Store → ℕ → Effect → Type 0
Finds s i (Writes place new) = IsKnown (schema_of s) (Wrote (change_at s place new))
Finds s i (Defines o) = IsAccepted (committed s) o
Finds s i (Cleans p) = IsSome (get s.view p)
Finds s i _ = Unit {0}

module _ (s : Store) (l : Memory) (t : Tied s l) (i : ℕ) (one : IsSession i) where
  pays_tied : 1 ≤ (l.txn_of i).id → (owed : List GroupDelta) → AllByRecursion (λ d. IsKnown (schema_of s) (Added d)) owed → CanPay the_views fresh view_laws s i owed → Holds' (paid_first s i (now s i) owed)
      → Tied (paid_first s i (now s i) owed) (pays l i owed)
  pays_tied at [] known can good = t
  pays_tied at (d ∷ ds) known can good =
      tied_keep s l t i one at (Added d) (record (now s i) { kept = Pay d ∷ (now s i).kept; owed = ds }) s.rows (add_to s.view d) refl refl refl known.0
      (some_of (get s.view (place_of d)) can.0, λ column. stored_huge (paid_first s i (now s i) (d ∷ ds)) good (place_of d) column)

  has_number : (x : Deed) (xs : List Deed) → (l.txn_of i).kept ≡ x ∷ xs → 1 ≤ (l.txn_of i).id
  has_number x xs e = by_number (l.txn_of i).id 0
      (λ z. absurd (not_nothing x xs (sym e ∙ (sym (t.carried.each i one) ∙ (ap (λ a. own a (replay_of l).live) z ∙ t.carried.of_none)))))
      (λ z. omega arith)

  -- a transaction that keeps a change has a number
  pub number_of_changes : changes_by s i ≢ [] → 1 ≤ (l.txn_of i).id
  number_of_changes some = by_kept (l.txn_of i).kept refl
    where
      by_kept : (xs : List Deed) → (l.txn_of i).kept ≡ xs → 1 ≤ (l.txn_of i).id
      by_kept [] e = absurd (some (changes_kept (now s i).kept ∙ ap whats_changes (sym (t.whats i one) ∙ ap whats_of e)))
      by_kept (x ∷ xs) e = has_number x xs e

  module _ (good : Holds' s) where
    -- the latest change's row is the one that it left
    row_after_is : (c : RowChange) (ds : List GroupDelta) (ks : List KeptStep) → (now s i).kept ≡ Put c ds ∷ ks → get s.rows c.key ≡ c.after
    row_after_is c ds ks e =
        let changes : changes_by s i ≡ c ∷ changes_of ks = ap changes_of e in
        good.stored.own i c.key one (subst (Touches c.key) (sym changes) (inl refl))
        ∙ (ap (λ cs. get (redo cs (committed s).rows) c.key) changes ∙ written_at (redo (changes_of ks) (committed s).rows) c.key c.after c.key refl)

    row_there : (d : GroupDelta) (ks : List KeptStep) → (now s i).kept ≡ Pay d ∷ ks → IsSome (get s.view (place_of d))
    row_there d ks e = some_of (get s.view (place_of d)) (λ none. good.present (place_of d) none i one (subst (PaysOn (place_of d)) (sym e) (inl refl)))

    undo_tied : (ks : List KeptStep) (xs : List Deed) → (now s i).kept ≡ ks → (l.txn_of i).kept ≡ xs → Holds' (undone s i (now s i) ks)
        → Tied (undone s i (now s i) ks) (undoes l i xs)
    undo_tied [] [] eks exs after = t
    undo_tied [] (x ∷ xs) eks exs after = absurd (not_empty x.what (whats_of xs) (sym (ap whats_of exs) ∙ (t.whats i one ∙ ap whats_in eks)))
    undo_tied (Put c ds ∷ ks) [] eks exs after = absurd (not_empty (Wrote c) (whats_in ks) (sym (ap whats_in eks) ∙ (sym (t.whats i one) ∙ ap whats_of exs)))
    undo_tied (Pay d ∷ ks) [] eks exs after = absurd (not_empty (Added d) (whats_in ks) (sym (ap whats_in eks) ∙ (sym (t.whats i one) ∙ ap whats_of exs)))
    undo_tied (Put c ds ∷ ks) (x ∷ xs) eks exs after =
        let both : x.what ∷ whats_of xs ≡ Wrote c ∷ whats_in ks = sym (ap whats_of exs) ∙ (t.whats i one ∙ ap whats_in eks) in
        let head : x.what ≡ Wrote c = same_head x.what (Wrote c) (whats_of xs) (whats_in ks) both in
        let tail : whats_of xs ≡ whats_in ks = same_tail x.what (Wrote c) (whats_of xs) (whats_in ks) both in
        tied_undo s l t i one (has_number x xs exs) x xs exs (record (now s i) { kept = ks; owed = []; back = 0; notes = notes_before (length ks) (now s i).notes })
        (write s.rows c.key c.before) s.view (sym tail) (ap (λ w. rows_without w s.rows) (sym head)) (ap (λ w. view_without w s.view) (sym head))
        (subst (BackFits s.rows s.view) (sym head) (row_after_is c ds ks eks))
    undo_tied (Pay d ∷ ks) (x ∷ xs) eks exs after =
        let both : x.what ∷ whats_of xs ≡ Added d ∷ whats_in ks = sym (ap whats_of exs) ∙ (t.whats i one ∙ ap whats_in eks) in
        let head : x.what ≡ Added d = same_head x.what (Added d) (whats_of xs) (whats_in ks) both in
        let tail : whats_of xs ≡ whats_in ks = same_tail x.what (Added d) (whats_of xs) (whats_in ks) both in
        tied_undo s l t i one (has_number x xs exs) x xs exs (record (now s i) { kept = ks; owed = d ∷ (now s i).owed; back = (now s i).back + 1 })
        s.rows (add_to s.view (negated d)) (sym tail) (ap (λ w. rows_without w s.rows) (sym head)) (ap (λ w. view_without w s.view) (sym head))
        (subst (BackFits s.rows s.view) (sym head) (row_there d ks eks, λ column. stored_huge (undone s i (now s i) (Pay d ∷ ks)) after (place_of d) column))

-- a row that may be removed holds zeros
zeros_there : (s : Store) → Holds' s → (p : Place) → CanDo s 0 (Cleans p) → (column : ℕ) → stored_number s.view p column ≡ pos 0
zeros_there s g p can column =
    let there : stored_number s.view p column ≡ fresh (schema_of s) (committed s).rows p column +ℤ over_sessions (λ j. paid_in p column (now s j).kept) = g.view p column in
    let none : fresh (schema_of s) (committed s).rows p column ≡ pos 0 = view_laws.none (schema_of s) (committed s).rows p can.0 column in
    let idle_ : over_sessions (λ j. paid_in p column (now s j).kept) ≡ pos 0 =
    over_zero (λ j. paid_in p column (now s j).kept) (λ j js. pays_none (schema_of s) (locks_of s j) p column (now s j).kept (g.each j js).held (can.1 j js)) in
    omega (arith, ints)

pub tied_does : (s : Store) (l : Memory) (i : ℕ) (e : Effect) → Holds' s → Stored' s → Holds' (does the_views s i e) → Tied s l → CanDo s i e → HasNumber e (l.txn_of i) → Finds s i e
    → Tied (does the_views s i e) (remembers s i e l)
tied_does s l i (Opens Serial) g shape after t can has finds = tied_begin s l t i can.0 (begun Serial (committed s).number) (none_kept the_views fresh view_laws s i can.1) refl has
tied_does s l i (Opens Snapshot) g shape after t can has finds = tied_bare s l t i can.0 (Some (begun Snapshot (committed s).number)) (none_kept the_views fresh view_laws s i can.1) refl
tied_does s l i (Takes wants) g shape after t can has finds = tied_stay s l t i can.0 (Some (record (now s i) { locks = wants ++ (now s i).locks })) refl
tied_does s l i (Notes note) g shape after t can has finds = tied_stay s l t i can (Some (record (now s i) { notes = note ∷ (now s i).notes })) refl
tied_does s l i (Writes place new) g shape after t can has finds =
    let c : RowChange = change_at s place new in
    let owed : List GroupDelta = the_views.owed (schema_of s) s.rows c in
    tied_keep s l t i can.0 has (Wrote c) (record (now s i) { kept = Put c owed ∷ (now s i).kept; owed = owed; back = 0 }) (write s.rows place new) s.view refl refl refl finds refl
tied_does s l i Pays g shape after t can has finds = pays_tied s l t i can.0 has (now s i).owed (all_owed s g i can.0) can.1 after
tied_does s l i (Ghosts p n) g shape after t can has finds = tied_ghost s l t p n (ghost_group s g i can.1 p n can.2) can.0
tied_does s l i Undoes g shape after t can has finds = undo_tied s l t i can g (now s i).kept (l.txn_of i).kept refl refl after
tied_does s l i Loses g shape after t can has finds = tied_stay s l t i can (Some (record (now s i) { is_lost = true })) refl
tied_does s l i Ends g shape after t can has finds = tied_end s l t i can.0 can.1 (l.txn_of i).wrote has
tied_does s l i Commits g shape after t can has finds = tied_commit s l t i can.0 has
tied_does s l i (Defines o) g shape after t can has finds = tied_define s l t i o (accepted_stored s g o can finds)
tied_does s l i (Cleans p) g shape after t can has finds = tied_clean s l t p (stored_group (schema_of s) s.view p shape finds) finds (zeros_there s g p can)
tied_does s l i Prunes g shape after t can has finds =
    record { carried = t.carried; apart = t.apart; clear = t.clear; whats = t.whats; db = t.db; view = t.view; fits = t.fits; known = t.known; fall = t.fall; below = t.below }
