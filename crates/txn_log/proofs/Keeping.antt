-- Each effect of the machine, with the record that it appends, keeps the log what it is.
use Rattle.std.specs.Prelude.{◌≡◌, ◌≢◌, ℕ, suc, ◌+◌, ◌<◌, ◌≤◌, ◌==◌, Bool, true, false, not, List, [], ◌∷◌, ◌++◌, Option, Some, None, IsSome, ℤ, pos, ◌+ℤ◌, ◌≤ℤ◌}
use Rattle.std.specs.FinMap.{get}
use mathlib.Core.Path.{refl, sym, ap, subst, ◌∙◌}
use Rattle.std.proofs.Common.{arith, eq-eqb, length}
use Rattle.std.proofs.lemmas.Int.{ints}
use Rattle.std.proofs.lemmas.Bool.{ne_eqb, and_right, and_from}
use Rattle.iv_types.specs.declared.statement.Mode.TheVariants.{Serial}
use Rattle.table_laws.specs.Place.{Place}
use Rattle.iv_types.specs.Encoding.{IsHuge}
use Rattle.table_laws.specs.Table.{write}
use Rattle.iv_meaning.specs.Schema.{Object}
use Rattle.iv_meaning.specs.Database.{Rows, Database}
use Rattle.iv_meaning.specs.Escrow.{IsSession, over_sessions, paid, lo, hi}
use Rattle.txn_machine.specs.Locks.{with_one}
use Rattle.txn_machine.specs.Deltas.{place_of}
use Rattle.txn_machine.specs.Keeping.{increments, Open}
use Rattle.txn_machine.specs.Stored.{ViewRows, add_to, add_all, zeros, stored_number}
use Rattle.txn_machine.specs.Fresh.{fresh, made_of}
use Rattle.txn_machine.specs.Store.{Store, committed, schema_of, now, with_txn, Effect, Commits, Defines, does}
use Rattle.txn_machine.specs.Ghosts.{the_views}
use Rattle.txn_machine.proofs.Basics.{one_same, one_other}
use Rattle.txn_machine.proofs.Bounds.{over_at_most, signs, huge_inside}
use Rattle.txn_machine.proofs.Reached.{Holds'}
use Rattle.txn_machine.proofs.Good.{the_open}
use Rattle.txn_machine.proofs.Runs.{Can, committed_after, defined}
use Rattle.txn_machine.specs.Steps.{stored}
use Rattle.txn_machine.proofs.Looking.{view_laws}
use Rattle.txn_log.specs.Replay.{What, Wrote, Added, Deed, Event, Kept, Ghost, Clean, Undo, Commit, Abort, spares, find, Stored, undo_found, rows_with, view_with, rows_without, view_without}
use Rattle.txn_log.specs.Fitting.{WhatFits, BackFits, InRange, CarriedBelow, AreBelow}
use Rattle.txn_log.specs.Fitting.{IsKnown, IsGroup, IsAccepted}
use Rattle.txn_log.specs.Moments.{Txn}
use Rattle.txn_log.proofs.Memory.{no_txn, Memory, with_event, set_txn, deed_now, keeps, undoes, aborts, begins, remembers}
use Rattle.txn_log.proofs.Finding.{by_number}
use Rattle.txn_log.proofs.Owning.{set_each, IsKept, kept_weaker, find_latest, AreApart, apart_set, carried_begin, carried_keep, carried_undo, carried_end, carried_leave, carried_same}
use Rattle.txn_log.proofs.Tying.{whats_of, whats_in, IsClear, clear_set, replay_of, Tied}

abbrev pub CanDo : Store → ℕ → Effect → Type 0
CanDo = Can the_views fresh view_laws

-- the open transaction of one session is replaced
now_this : (s : Store) (i : ℕ) (o : Option Open) (j : ℕ) → j ≡ i → the_open (with_one s.open_of i o j) ≡ the_open o
now_this s i o j e = ap the_open (one_same s.open_of i o j e)

now_other : (s : Store) (i : ℕ) (o : Option Open) (j : ℕ) → j ≢ i → the_open (with_one s.open_of i o j) ≡ now s j
now_other s i o j n = ap the_open (one_other s.open_of i o j n)

-- ---- lists of what is kept

head_or : What → List What → What
head_or w [] = w
head_or w (v ∷ vs) = v

tail_of : List What → List What
tail_of [] = []
tail_of (v ∷ vs) = vs

pub same_head : (v w : What) (vs ws : List What) → v ∷ vs ≡ w ∷ ws → v ≡ w
unfolding head_or
same_head v w vs ws e = ap (head_or v) e

pub same_tail : (v w : What) (vs ws : List What) → v ∷ vs ≡ w ∷ ws → vs ≡ ws
unfolding tail_of
same_tail v w vs ws e = ap tail_of e

pub not_empty : (v : What) (vs : List What) → v ∷ vs ≡ [] → ⊥
not_empty v vs e = let lengths : suc (length vs) ≡ 0 = ap length e in omega arith

carried_more : (n m : ℕ) (xs : List Deed) → n ≤ m → CarriedBelow n xs → CarriedBelow m xs
carried_more n m [] h b = tt
carried_more n m (x ∷ xs) h b = ((let l = b.0 in omega arith), carried_more n m xs h b.1)

below_more : (n m : ℕ) (carried : List Deed) (rs : List Event) → n ≤ m → AreBelow n carried rs → AreBelow m carried rs
below_more n m carried [] h b = carried_more n m carried h b
below_more n m carried (r ∷ rs) h b = ((let l = b.0 in omega arith), below_more n m carried rs h b.1)

pub next_below : (s : Store) (l : Memory) → Tied s l → (l.next < l.next + 1) × AreBelow (l.next + 1) l.carried (l.waiting ++ l.flushed)
next_below s l t = (omega arith, below_more l.next (l.next + 1) l.carried (l.waiting ++ l.flushed) (omega arith) t.below)

-- as a record fits, of the machine's rows
abbrev FitsIn : Rows → ViewRows → What → Type 0
FitsIn rows view (Wrote c) = c.before ≡ get rows c.key
FitsIn rows view (Added d) = IsSome (get view (place_of d)) × InRange (add_to view d) (place_of d)

pub what_fits : (s : Store) (l : Memory) → Tied s l → (w : What) → FitsIn s.rows s.view w → WhatFits (replay_of l) w
what_fits s l t (Wrote c) h = h ∙ ap (λ (d : Database). get d.rows c.key) (sym t.db)
what_fits s l t (Added d) h = subst (λ (v : ViewRows). IsSome (get v (place_of d)) × InRange (add_to v d) (place_of d)) (sym t.view) h

pub some_of : {X : Type 0} (o : Option X) → (o ≡ None → ⊥) → IsSome o
some_of None h = absurd (h refl)
some_of (Some x) h = refl

-- a stored number lies between its bounds
pub stored_huge : (s : Store) → Holds' s → (p : Place) (column : ℕ) → IsHuge (stored_number s.view p column)
stored_huge s g p column =
    let kept : ℕ → List ℤ = λ j. increments p column (now s j).kept in
    let base : ℤ = fresh (schema_of s) (committed s).rows p column in
    let there : stored_number s.view p column ≡ base +ℤ over_sessions (λ j. paid (kept j)) = g.view p column in
    let low : over_sessions (λ j. lo (kept j)) ≤ℤ over_sessions (λ j. paid (kept j)) = over_at_most (λ j. lo (kept j)) (λ j. paid (kept j)) (λ j. (signs (kept j)).1) in
    let high : over_sessions (λ j. paid (kept j)) ≤ℤ over_sessions (λ j. hi (kept j)) = over_at_most (λ j. paid (kept j)) (λ j. hi (kept j)) (λ j. (signs (kept j)).3) in
    huge_inside (base +ℤ over_sessions (λ j. lo (kept j))) (stored_number s.view p column) (base +ℤ over_sessions (λ j. hi (kept j))) (g.low p column)
    (omega (arith, ints, there, low)) (omega (arith, ints, there, high)) (g.high p column)

pub no_whats : (xs : List Deed) → whats_of xs ≡ [] → xs ≡ []
no_whats [] e = refl
no_whats (x ∷ xs) e = absurd (not_empty x.what (whats_of xs) e)

module _ (s : Store) (l : Memory) (t : Tied s l) (i : ℕ) (one : IsSession i) where
  abbrev st : Stored
  st = replay_of l

  abbrev id : ℕ
  id = (l.txn_of i).id

  abbrev log : List Event
  log = l.waiting ++ l.flushed

  others_apart : 1 ≤ id → (j : ℕ) → IsSession j → j ≢ i → id ≢ (l.txn_of j).id
  others_apart at j k d = t.apart.apart i j one k (λ e. d (sym e)) at

  -- what is kept, where the session's transaction is replaced in both
  whats_set : (u : Txn) (o : Option Open) → whats_of u.kept ≡ whats_in (the_open o).kept
      → (j : ℕ) → IsSession j → whats_of (with_one l.txn_of i u j).kept ≡ whats_in (the_open (with_one s.open_of i o j)).kept
  whats_set u o this j = set_each (λ k p. IsSession k → whats_of p.kept ≡ whats_in (the_open (with_one s.open_of i o k)).kept) l.txn_of i u
      (λ k. this ∙ ap (λ (p : Open). whats_in p.kept) (sym (now_this s i o i refl)))
      (λ k n is. t.whats k is ∙ ap (λ (p : Open). whats_in p.kept) (sym (now_other s i o k n)))
      j

  -- where it is replaced in the machine alone, and keeps what it kept
  whats_stay : (o : Option Open) → whats_in (the_open o).kept ≡ whats_in (now s i).kept
      → (j : ℕ) → IsSession j → whats_of (l.txn_of j).kept ≡ whats_in (the_open (with_one s.open_of i o j)).kept
  whats_stay o same j is = by_number j i
      (λ e. t.whats j is ∙ (ap (λ k. whats_in (now s k).kept) e ∙ (sym same ∙ ap (λ (p : Open). whats_in p.kept) (sym (now_this s i o j e)))))
      (λ n. t.whats j is ∙ ap (λ (p : Open). whats_in p.kept) (sym (now_other s i o j n)))

  -- the machine's transaction changes, the log stays
  pub tied_stay : (o : Option Open) → whats_in (the_open o).kept ≡ whats_in (now s i).kept → Tied (with_txn s i o) l
  tied_stay o same = record {
    carried = t.carried;
    apart = t.apart;
    clear = t.clear;
    whats = whats_stay o same;
    db = t.db;
    view = t.view;
    fits = t.fits;
    known = t.known;
    fall = t.fall;
    below = t.below;
  }

  -- a transaction begins
  pub tied_begin : (o : Open) → (now s i).kept ≡ [] → o.kept ≡ [] → id ≡ 0 → Tied (with_txn s i (Some o)) (begins l i Serial)
  tied_begin o none kept zero_id =
      let u : Txn = record { id = l.begun + 1; kept = []; wrote = false } in record {
        carried = carried_begin l.txn_of st.live t.carried i one l.begun t.apart.in_range zero_id;
        apart = apart_set l.txn_of l.begun l.next (l.begun + 1) l.next i u one t.apart (omega arith) (omega arith) (omega arith) tt
            (λ at j k d same. let range = t.apart.in_range j k in omega arith);
        clear = clear_set log l.txn_of (l.begun + 1) l.next i u
            (λ at n h. t.clear.new (l.begun + 1) (omega arith) n h)
            (λ j k d at n h. t.clear.ours j k at n h)
            (λ j g n h. t.clear.new j (omega arith) n h);
        whats = whats_set u (Some o) (sym (ap whats_in kept));
        db = t.db;
        view = t.view;
        fits = t.fits;
        known = t.known;
        fall = t.fall;
        below = t.below;
      }

  -- a change or a delta
  pub tied_keep : 1 ≤ id → (w : What) (o : Open) (rows : Rows) (view : ViewRows) → whats_in o.kept ≡ w ∷ whats_in (now s i).kept
      → rows ≡ rows_with w s.rows → view ≡ view_with w s.view → IsKnown (schema_of s) w → FitsIn s.rows s.view w
      → Tied (record s { rows = rows; view = view; open_of = with_one s.open_of i (Some o) }) (keeps l i w)
  tied_keep at w o rows view kept rows_are view_is known fits =
      let x : Deed = deed_now l i w in
      let u : Txn = record { id = id; kept = x ∷ (l.txn_of i).kept; wrote = true } in record {
        carried = carried_keep l.txn_of st.live t.carried i one at (others_apart at) x true refl;
        apart = apart_set l.txn_of l.begun l.next l.begun (l.next + 1) i u one t.apart (omega arith) (omega arith)
            (t.apart.in_range i one) (refl, omega arith, t.apart.kept i one) (λ b. others_apart at);
        clear = clear_set (Kept x ∷ log) l.txn_of l.begun (l.next + 1) i u
            (λ b n h. t.clear.ours i one b n (omega arith))
            (λ j k d b n h. t.clear.ours j k b n (omega arith))
            (λ j g n h. t.clear.new j g n (omega arith));
        whats = whats_set u (Some o) (ap (λ (ws : List What). w ∷ ws) (t.whats i one) ∙ sym kept);
        db = ap (λ (d : Database). record d { rows = rows_with w d.rows }) t.db ∙ ap (λ (m : Rows). record (committed s) { rows = m }) (sym rows_are);
        view = ap (view_with w) t.view ∙ sym view_is;
        fits = ((t.clear.ours i one at l.next (omega arith), subst (λ (d : Database). IsKnown d.schema w) (sym t.db) known, what_fits s l t w fits), t.below, t.fits);
        known = t.known;
        fall = t.fall;
        below = next_below s l t;
      }

  -- the latest one taken back
  pub tied_undo : 1 ≤ id → (x : Deed) (ks : List Deed) → (l.txn_of i).kept ≡ x ∷ ks → (o : Open) (rows : Rows) (view : ViewRows) → whats_in o.kept ≡ whats_of ks
      → rows ≡ rows_without x.what s.rows → view ≡ view_without x.what s.view → BackFits s.rows s.view x.what
      → Tied (record s { rows = rows; view = view; open_of = with_one s.open_of i (Some o) }) (undoes l i (x ∷ ks))
  tied_undo at x ks latest o rows view kept rows_are view_is back =
      let u : Txn = record { id = id; kept = ks; wrote = (l.txn_of i).wrote } in
      let r : Event = Undo l.next id x.number in
      let are : IsKept id l.next (x ∷ ks) = subst (IsKept id l.next) latest (t.apart.kept i one) in
      let low : x.number < l.next = are.1 in
      let found : find id x.number st.live ≡ Some x = find_latest id x ks st.live are.0 (t.carried.each i one ∙ latest) in
      let spared : (j n : ℕ) → l.next + 1 ≤ n → spares r j n ≡ true =
      λ j n h. ap not (and_right (id == j) (x.number == n) (ne_eqb x.number n (λ same. omega arith))) in record {
        carried = carried_undo l.txn_of st.live t.carried i one at (others_apart at) l.next x ks (l.txn_of i).wrote l.next latest are;
        apart = apart_set l.txn_of l.begun l.next l.begun (l.next + 1) i u one t.apart (omega arith) (omega arith)
            (t.apart.in_range i one) (kept_weaker id x.number (l.next + 1) ks (omega arith) are.2) (λ b. others_apart at);
        clear = clear_set (r ∷ log) l.txn_of l.begun (l.next + 1) i u
            (λ b n h. and_from _ _ (spared id n h) (t.clear.ours i one b n (omega arith)))
            (λ j k d b n h. and_from _ _ (spared (l.txn_of j).id n h) (t.clear.ours j k b n (omega arith)))
            (λ j g n h. and_from _ _ (spared j n h) (t.clear.new j g n (omega arith)));
        whats = whats_set u (Some o) (sym kept);
        db = ap (λ f. (undo_found st f).db) found
            ∙ (ap (λ (d : Database). record d { rows = rows_without x.what d.rows }) t.db ∙ ap (λ (m : Rows). record (committed s) { rows = m }) (sym rows_are));
        view = ap (λ f. (undo_found st f).view) found ∙ (ap (view_without x.what) t.view ∙ sym view_is);
        fits = (
          record {
            latest = x;
            earlier = ks;
            is_latest = t.carried.each i one ∙ latest;
            number = refl;
            back = subst (λ v. BackFits st.db.rows v x.what) (sym t.view) (subst (λ (d : Database). BackFits d.rows s.view x.what) (sym t.db) back);
          },
          t.below,
          t.fits,
        );
        known = t.known;
        fall = t.fall;
        below = next_below s l t;
      }

  -- ---- the end of a transaction

  end_apart : (next : ℕ) → l.next ≤ next → AreApart (with_one l.txn_of i no_txn) l.begun next
  end_apart next h = apart_set l.txn_of l.begun l.next l.begun next i no_txn one t.apart (omega arith) h (omega arith) tt (λ at. absurd (omega arith))

  end_clear : (r : Event) → 1 ≤ id → ((j n : ℕ) → id ≢ j → spares r j n ≡ true) → IsClear (r ∷ log) (with_one l.txn_of i no_txn) l.begun (l.next + 1)
  end_clear r at spared =
      let range = t.apart.in_range i one in
      clear_set (r ∷ log) l.txn_of l.begun (l.next + 1) i no_txn
      (λ z. absurd (omega arith))
      (λ j k d z n h. and_from _ _ (spared (l.txn_of j).id n (others_apart at j k d)) (t.clear.ours j k z n (omega arith)))
      (λ j g n h. and_from _ _ (spared j n (λ same. omega arith)) (t.clear.new j g n (omega arith)))

  -- without a record
  pub tied_bare : (o : Option Open) → (now s i).kept ≡ [] → (the_open o).kept ≡ [] → Tied (with_txn s i o) (set_txn l i no_txn)
  tied_bare o none kept =
      let nothing : (l.txn_of i).kept ≡ [] = no_whats (l.txn_of i).kept (t.whats i one ∙ ap whats_in none) in record {
        carried = by_number id 0
            (λ z. carried_same l.txn_of st.live t.carried i one no_txn (sym z) (sym nothing))
            (λ z. carried_leave l.txn_of st.live t.carried i one (omega arith) (others_apart (omega arith)) nothing);
        apart = end_apart l.next (omega arith);
        clear = clear_set log l.txn_of l.begun l.next i no_txn
            (λ z. absurd (omega arith))
            (λ j k d at n h. t.clear.ours j k at n h)
            t.clear.new;
        whats = whats_set no_txn o (sym (ap whats_in kept));
        db = t.db;
        view = t.view;
        fits = t.fits;
        known = t.known;
        fall = t.fall;
        below = t.below;
      }

  pub tied_leave : (now s i).kept ≡ [] → Tied (with_txn s i None) (set_txn l i no_txn)
  tied_leave none = tied_bare None none refl

  pub tied_abort : 1 ≤ id → Tied (with_txn s i None) (set_txn (with_event l (Abort l.next id)) i no_txn)
  tied_abort at =
      let r : Event = Abort l.next id in
      let spared : (j n : ℕ) → id ≢ j → spares r j n ≡ true = λ j n d. ap not (ne_eqb id j d) in record {
        carried = carried_end l.txn_of st.live t.carried i one at (others_apart at) (spares r) (λ n. ap not (eq-eqb id id refl)) (λ j d n. spared j n d);
        apart = end_apart (l.next + 1) (omega arith);
        clear = end_clear r at spared;
        whats = whats_set no_txn None refl;
        db = t.db;
        view = t.view;
        fits = (t.clear.ours i one at l.next (omega arith), t.below, t.fits);
        known = t.known;
        fall = t.fall;
        below = next_below s l t;
      }

  -- an Abort where there was a record
  pub tied_end : (now s i).kept ≡ [] → (wrote : Bool) → (wrote ≡ true → 1 ≤ id) → Tied (with_txn s i None) (set_txn (aborts l id wrote) i no_txn)
  tied_end none false h = tied_leave none
  tied_end none true h = tied_abort (h refl)

  pub tied_commit : 1 ≤ id → Tied (does the_views s i Commits) (remembers s i Commits l)
  tied_commit at =
      let number : ℕ = (committed s).number + 1 in
      let r : Event = Commit l.next id number in
      let spared : (j n : ℕ) → id ≢ j → spares r j n ≡ true = λ j n d. ap not (ne_eqb id j d) in record {
        carried = carried_end l.txn_of st.live t.carried i one at (others_apart at) (spares r) (λ n. ap not (eq-eqb id id refl)) (λ j d n. spared j n d);
        apart = end_apart (l.next + 1) (omega arith);
        clear = end_clear r at spared;
        whats = whats_set no_txn None refl;
        db = ap (λ (d : Database). record d { number = number }) t.db
            ∙ sym (ap (λ (d : Database). record d { rows = s.rows }) (committed_after the_views fresh view_laws s i));
        view = t.view;
        fits = ((t.clear.ours i one at l.next (omega arith), sym (ap (λ (d : Database). d.number + 1) t.db)), t.below, t.fits);
        known = t.known;
        fall = t.fall;
        below = next_below s l t;
      }

-- ---- records of no transaction

module _ (s : Store) (l : Memory) (t : Tied s l) where
  same_apart : AreApart l.txn_of l.begun (l.next + 1)
  same_apart = record {
    in_range = t.apart.in_range;
    apart = t.apart.apart;
    kept = λ j k. kept_weaker (l.txn_of j).id l.next (l.next + 1) (l.txn_of j).kept (omega arith) (t.apart.kept j k);
  }

  same_clear : IsClear (l.waiting ++ l.flushed) l.txn_of l.begun (l.next + 1)
  same_clear = record {
    ours = λ j k at n h. t.clear.ours j k at n (omega arith);
    new = λ j g n h. t.clear.new j g n (omega arith);
  }

  pub tied_ghost : (p : Place) (columns : ℕ) → IsGroup (schema_of s) p → get s.view p ≡ None → Tied (record s { view = write s.view p (Some (zeros columns)) }) (with_event l (Ghost l.next p columns))
  tied_ghost p columns group absent = record {
    carried = t.carried;
    apart = same_apart;
    clear = record { ours = same_clear.ours; new = same_clear.new };
    whats = t.whats;
    db = t.db;
    view = ap (λ (v : ViewRows). write v p (Some (zeros columns))) t.view;
    fits = ((subst (λ (d : Database). IsGroup d.schema p) (sym t.db) group, ap (λ (v : ViewRows). get v p) t.view ∙ absent), t.below, t.fits);
    known = t.known;
    fall = t.fall;
    below = next_below s l t;
  }

  pub tied_clean : (p : Place) → IsGroup (schema_of s) p → IsSome (get s.view p) → ((column : ℕ) → stored_number s.view p column ≡ pos 0) → Tied (record s { view = write s.view p None }) (with_event l (Clean l.next p))
  tied_clean p group there zeros_are = record {
    carried = t.carried;
    apart = same_apart;
    clear = record { ours = same_clear.ours; new = same_clear.new };
    whats = t.whats;
    db = t.db;
    view = ap (λ (v : ViewRows). write v p None) t.view;
    fits = (
      (
        subst (λ (d : Database). IsGroup d.schema p) (sym t.db) group,
        subst (λ (v : ViewRows). IsSome (get v p)) (sym t.view) there,
        subst (λ (v : ViewRows). (column : ℕ) → stored_number v p column ≡ pos 0) (sym t.view) zeros_are,
      ),
      t.below,
      t.fits,
    );
    known = t.known;
    fall = t.fall;
    below = next_below s l t;
  }

  -- a definition
  pub tied_define : (i : ℕ) (o : Object) → IsAccepted (stored s) o → Tied (does the_views s i (Defines o)) (remembers s i (Defines o) l)
  tied_define i o accepted =
      let st : Stored = replay_of l in
      let number : ℕ = (committed s).number + 1 in
      let after_is = defined the_views fresh view_laws s i o in
      let replayed_view : add_all st.view (made_of (st.db.schema ++ o ∷ []) st.db.rows o) ≡ add_all s.view (made_of (schema_of s ++ o ∷ []) s.rows o) =
      λ x. add_all (t.view x) (made_of ((t.db x).schema ++ o ∷ []) (t.db x).rows o) in record {
        carried = t.carried;
        apart = same_apart;
        clear = record { ours = same_clear.ours; new = same_clear.new };
        whats = t.whats;
        db = ap (λ (d : Database). record d { number = number; schema = d.schema ++ o ∷ [] }) t.db ∙ sym (ap (λ (d : Database). record d { rows = s.rows }) after_is);
        view = replayed_view ∙ sym (ap (λ (d : Database). add_all s.view (made_of d.schema s.rows o)) after_is);
        fits = ((sym (ap (λ (d : Database). d.number + 1) t.db), subst (λ (d : Database). IsAccepted d o) (sym t.db) accepted), t.below, t.fits);
        known = t.known;
        fall = t.fall;
        below = next_below s l t;
      }
