-- Snapshots: what is kept for them, and what stood at their numbers.
use Rattle.std.specs.Prelude.{◌≡◌, ℕ, zero, suc, ◌+◌, ◌≤◌, nat_le, cond, true, false, filter, map, reverse, length, List, [], ◌∷◌, ◌++◌, ◌+ℤ◌, Option, Some, None}
use Rattle.std.specs.List.{AllByRecursion, Contains}
use Rattle.std.proofs.lemmas.List.Elements.{Contains-append_left, Contains-append_right, Contains-append_cases}
use mathlib.Core.Path.{refl, sym, ap, subst, ◌∙◌}
use mathlib.Core.Logic.{inl, inr}
use Rattle.std.proofs.Common.{arith, append-nil}
use Rattle.std.proofs.lemmas.Bool.{false≢true}
use Rattle.std.proofs.lemmas.Int.{ints}
use Rattle.std.proofs.lemmas.Bool.Decides.{leb_tells}
use Rattle.std.specs.FinMap.{get}
use Rattle.iv_types.specs.declared.statement.Mode.{Mode}
use Rattle.iv_types.specs.declared.statement.Mode.TheVariants.{Serial, Snapshot}
use Rattle.iv_types.specs.declared.lock.GroupDelta.{GroupDelta}
use Rattle.table_laws.specs.Place.{Place}
use Rattle.table_laws.specs.Table.{write}
use Rattle.table_laws.specs.Kept.{redo, take_back, AreTrue}
use Rattle.table_laws.proofs.Kept.{back_redo}
use Rattle.table_laws.proofs.Stored.{by_session}
use Rattle.table_laws.proofs.Place.{place_cmp_total, place_cmp-IsAntisymmetric}
use Rattle.iv_meaning.specs.Database.{Rows, Database}
use Rattle.iv_meaning.specs.Statement.{Kept, sets, defines, keep, keep_all}
use Rattle.iv_meaning.specs.History.{Entry, fold, state_at}
use Rattle.iv_meaning.specs.Escrow.{IsSession, over_sessions, paid}
use Rattle.txn_machine.specs.Locks.{with_one}
use Rattle.txn_machine.specs.Deltas.{RowChange, rows_after, owed, due}
use Rattle.txn_machine.specs.Keeping.{KeptStep, Put, Pay, changes_of, increments, Open, begun, idle}
use Rattle.txn_machine.specs.Stored.{stored_number}
use Rattle.txn_machine.specs.Fresh.{fresh}
use Rattle.txn_machine.specs.Ghosts.{the_views}
use Rattle.txn_machine.specs.Store.{Store, committed, schema_of, now, change_at, notes_before, paid_first, undone, with_entry, entry_changes, least_snapshot, Effect, Opens, Takes, Notes, Writes, Pays, Ghosts, Undoes, Loses, Ends, Commits, Defines, Cleans, Prunes, does, run, entry_deltas, deltas_above}
use Rattle.txn_machine.specs.State.{State}
use Rattle.txn_machine.specs.May.{IsOpen}
use Rattle.txn_machine.specs.Steps.{Step, Did, Run}
use Rattle.txn_machine.specs.Laws.{IsReached, MarkLaw, SnapshotLaw, PruneLaw, changes_in, changes_above, RowsAtLaw}
use Rattle.txn_machine.proofs.Basics.{after_all}
use Rattle.txn_machine.proofs.Entered.{IsEntryOf, IsHistoryOf}
use Rattle.txn_machine.proofs.Good.{the_open}
use Rattle.txn_machine.proofs.Runs.{CanAll, keeps, committed_after, defined, opened_good}
use Rattle.txn_machine.proofs.Stepping.{can_says, step_good}
use Rattle.txn_machine.proofs.Looking.{view_laws}
use Rattle.txn_machine.proofs.Summing.{sum_law, due_append}
use Rattle.txn_machine.proofs.Telling.{Good', Can', above}
use Rattle.txn_machine.proofs.Moving.{may_of, numbers_rise, at_most}
use Rattle.txn_machine.proofs.Reached.{may_define, reached}

-- ---- what an open snapshot can need

abbrev pub AreSets : List Kept → Type 0
AreSets [] = Unit {0}
AreSets (sets c ∷ ks) = AreSets ks
AreSets (defines o ∷ ks) = ⊥

-- entries above the number define nothing
abbrev pub ArePlain : ℕ → List Entry → Type 0
ArePlain n es = AllByRecursion (λ (e : Entry). nat_le e.number n ≡ false → AreSets e.kept) es

pub record SnapOk (mark : ℕ) (origin : Database) (history : List Entry) (number : ℕ) : Type 0 where
  pub marked : mark ≤ number
  pub since : origin.number ≤ number
  pub below : number ≤ (fold history origin).number
  pub plain : ArePlain number history

abbrev pub Ok : ℕ → Database → List Entry → Option Open → Type 0
Ok mark origin history o = (the_open o).mode ≡ Snapshot → SnapOk mark origin history (the_open o).number

pub record MarkGood (s : Store) : Type 0 where
  pub marked : s.mark ≤ (committed s).number
  pub each : (j : ℕ) → IsSession j → Ok s.mark s.origin s.history (s.open_of j)

set_ok : (s : Store) (i : ℕ) (u : Open) → MarkGood s → IsSession i → u.mode ≡ (now s i).mode → u.number ≡ (now s i).number → (j : ℕ) → IsSession j → Ok s.mark s.origin s.history (with_one s.open_of i (Some u) j)
set_ok s i u m is mode number j js = after_all s.open_of i (Some u) (Ok s.mark s.origin s.history) j
    (λ x. subst (SnapOk s.mark s.origin s.history) (sym number) (m.each i is (sym mode ∙ x)))
    (λ n. m.each j js)

none_ok : (s : Store) (i : ℕ) → MarkGood s → (j : ℕ) → IsSession j → Ok s.mark s.origin s.history (with_one s.open_of i None j)
none_ok s i m j js = after_all s.open_of i None (Ok s.mark s.origin s.history) j (λ x. absurd (cc)) (λ n. m.each j js)

-- nothing above the greatest number
all_plain : (n : ℕ) (es : List Entry) → AllByRecursion (λ (e : Entry). e.number ≤ n) es → ArePlain n es
all_plain n [] h = tt
all_plain n (e ∷ es) h = ((λ f. absurd (false≢true (sym f ∙ at_most e.number n h.0))), all_plain n es h.1)

plain_push : (n : ℕ) (es : List Entry) (e : Entry) → ArePlain n es → AreSets e.kept → ArePlain n (es ++ e ∷ [])
plain_push n [] e h s = ((λ f. s), tt)
plain_push n (x ∷ es) e h s = (h.0, plain_push n es e h.1 s)

sets_only : (cs : List RowChange) → AreSets (map sets cs)
sets_only [] = tt
sets_only (c ∷ cs) = sets_only cs

pays_mark : (s : Store) (i : ℕ) → MarkGood s → IsSession i → (ds : List GroupDelta) → MarkGood (paid_first s i (now s i) ds)
pays_mark s i m is [] = m
pays_mark s i m is (d ∷ ds) = record { marked = m.marked; each = set_ok s i (record (now s i) { kept = Pay d ∷ (now s i).kept; owed = ds }) m is refl refl }

undoes_mark : (s : Store) (i : ℕ) → MarkGood s → IsSession i → (ks : List KeptStep) → MarkGood (undone s i (now s i) ks)
undoes_mark s i m is [] = m
undoes_mark s i m is (Put c ds ∷ ks) = record { marked = m.marked; each = set_ok s i (record (now s i) { kept = ks; owed = []; back = 0; notes = notes_before (length ks) (now s i).notes }) m is refl refl }
undoes_mark s i m is (Pay d ∷ ks) = record { marked = m.marked; each = set_ok s i (record (now s i) { kept = ks; owed = d ∷ (now s i).owed; back = (now s i).back + 1 }) m is refl refl }

-- ---- the least number of a snapshot

pick : Option Open → ℕ → ℕ
pick None number = number
pick (Some o) number = elim o.mode [ Serial ↦ number | Snapshot ↦ cond (nat_le o.number number) o.number number ]

least_next : (open_of : ℕ → Option Open) (n number : ℕ) → least_snapshot open_of (suc n) number ≡ least_snapshot open_of n (pick (open_of (suc n)) number)
unfolding pick
least_next open_of n number = go (open_of (suc n))
  where
    go : (o : Option Open) → elim o as (λ (o : Option Open). ℕ) [ None ↦ least_snapshot open_of n number | Some o ↦ elim o.mode [ Serial ↦ least_snapshot open_of n number | Snapshot ↦ cond (nat_le o.number number) (least_snapshot open_of n o.number) (least_snapshot open_of n number) ] ] ≡ least_snapshot open_of n (pick o number)
    go None = refl
    go (Some o) = by_mode o.mode
      where
        by_mode : (m : Mode) → elim m as (λ (m : Mode). ℕ) [ Serial ↦ least_snapshot open_of n number | Snapshot ↦ cond (nat_le o.number number) (least_snapshot open_of n o.number) (least_snapshot open_of n number) ] ≡ least_snapshot open_of n (elim m as (λ (m : Mode). ℕ) [ Serial ↦ number | Snapshot ↦ cond (nat_le o.number number) o.number number ])
        by_mode Serial = refl
        by_mode Snapshot = elim (nat_le o.number number) as (λ b. cond b (least_snapshot open_of n o.number) (least_snapshot open_of n number) ≡ least_snapshot open_of n (cond b o.number number)) [ true ↦ refl | false ↦ refl ]

lesser : (a b : ℕ) → (cond (nat_le a b) a b ≤ a) × (cond (nat_le a b) a b ≤ b)
lesser a b = elim (leb_tells a b) [
  | inl t ↦ let c : cond (nat_le a b) a b ≡ a = ap (λ x. cond x a b) t.0 in let l = t.1 in (omega (arith, c), omega (arith, c, l))
  | inr f ↦ let c : cond (nat_le a b) a b ≡ b = ap (λ x. cond x a b) f.0 in let l = f.1 in (omega (arith, c, l), omega (arith, c))
]

pick_below : (o : Option Open) (number : ℕ) → pick o number ≤ number
unfolding pick
pick_below None number = omega arith
pick_below (Some o) number = elim o.mode as (λ (m : Mode). elim m as (λ (m : Mode). ℕ) [ Serial ↦ number | Snapshot ↦ cond (nat_le o.number number) o.number number ] ≤ number) [ Serial ↦ omega arith | Snapshot ↦ (lesser o.number number).1 ]

pick_own : (o : Option Open) (number : ℕ) → (the_open o).mode ≡ Snapshot → pick o number ≤ (the_open o).number
unfolding pick
pick_own None number e = absurd (cc)
pick_own (Some o) number e = elim o.mode as (λ (m : Mode). m ≡ Snapshot → elim m as (λ (m : Mode). ℕ) [ Serial ↦ number | Snapshot ↦ cond (nat_le o.number number) o.number number ] ≤ o.number) [ Serial ↦ λ x. absurd (cc) | Snapshot ↦ λ x. (lesser o.number number).0 ] e

least_below : (open_of : ℕ → Option Open) (n number : ℕ) → least_snapshot open_of n number ≤ number
least_below open_of zero number = omega arith
least_below open_of (suc n) number =
    let e : least_snapshot open_of (suc n) number ≡ least_snapshot open_of n (pick (open_of (suc n)) number) = least_next open_of n number in
    let a : least_snapshot open_of n (pick (open_of (suc n)) number) ≤ pick (open_of (suc n)) number = least_below open_of n (pick (open_of (suc n)) number) in
    let b : pick (open_of (suc n)) number ≤ number = pick_below (open_of (suc n)) number in
    omega (arith, e, a, b)

least_own : (open_of : ℕ → Option Open) (n number j : ℕ) → 1 ≤ j → j ≤ n → (the_open (open_of j)).mode ≡ Snapshot → least_snapshot open_of n number ≤ (the_open (open_of j)).number
least_own open_of zero number j low high e = absurd (omega (arith, low, high))
least_own open_of (suc n) number j low high e =
    let step : least_snapshot open_of (suc n) number ≡ least_snapshot open_of n (pick (open_of (suc n)) number) = least_next open_of n number in
    by_session j (suc n)
    (λ k.
    let a : least_snapshot open_of n (pick (open_of (suc n)) number) ≤ pick (open_of (suc n)) number = least_below open_of n (pick (open_of (suc n)) number) in
    let b : pick (open_of (suc n)) number ≤ (the_open (open_of (suc n))).number = pick_own (open_of (suc n)) number (subst (λ x. (the_open (open_of x)).mode ≡ Snapshot) k e) in
    let c : (the_open (open_of j)).number ≡ (the_open (open_of (suc n))).number = ap (λ x. (the_open (open_of x)).number) k in
    omega (arith, step, a, b, c))
    (λ d.
    let a : least_snapshot open_of n (pick (open_of (suc n)) number) ≤ (the_open (open_of j)).number = least_own open_of n (pick (open_of (suc n)) number) j low (omega (arith, high)) e in
    omega (arith, step, a))

-- ---- effects

pub mark_effect : (s : Store) (i : ℕ) (e : Effect) → Good' s → Can' s i e → MarkGood s → MarkGood (does the_views s i e)
mark_effect s i (Opens mode) g can m = record {
  marked = m.marked;
  each = λ j js. after_all s.open_of i (Some (begun mode (committed s).number)) (Ok s.mark s.origin s.history) j
      (λ x. record { marked = m.marked; since = (numbers_rise s.history s.origin g.history).0; below = omega arith; plain = all_plain (committed s).number s.history (numbers_rise s.history s.origin g.history).1 })
      (λ n. m.each j js);
}
mark_effect s i (Takes wants) g can m = record { marked = m.marked; each = set_ok s i (record (now s i) { locks = wants ++ (now s i).locks }) m can.0 refl refl }
mark_effect s i (Notes n) g can m = record { marked = m.marked; each = set_ok s i (record (now s i) { notes = n ∷ (now s i).notes }) m can refl refl }
mark_effect s i (Writes p new) g can m = record {
  marked = m.marked;
  each = set_ok s i (record (now s i) { kept = Put (change_at s p new) (owed (schema_of s) s.rows (change_at s p new)) ∷ (now s i).kept; owed = owed (schema_of s) s.rows (change_at s p new); back = 0 }) m can.0 refl refl;
}
mark_effect s i Pays g can m = pays_mark s i m can.0 (now s i).owed
mark_effect s i (Ghosts p n) g can m = record { marked = m.marked; each = m.each }
mark_effect s i Undoes g can m = undoes_mark s i m can (now s i).kept
mark_effect s i Loses g can m = record { marked = m.marked; each = set_ok s i (record (now s i) { is_lost = true }) m can refl refl }
mark_effect s i Ends g can m = record { marked = m.marked; each = none_ok s i m }
mark_effect s i Commits g can m =
    let e : Entry = record { number = (committed s).number + 1; session = i; kept = entry_changes (now s i).kept } in
    let made : (committed (does the_views s i Commits)).number ≡ (committed s).number + 1 = ap (λ (d : Database). d.number) (committed_after the_views fresh view_laws s i) in
    record {
      marked = (let a = m.marked in omega (arith, made, a));
      each = λ j js. after_all s.open_of i None (Ok s.mark s.origin (s.history ++ e ∷ [])) j (λ x. absurd (cc))
          (λ n x. let was = m.each j js x in record {
            marked = was.marked;
            since = was.since;
            below = (let b = was.below in omega (arith, made, b));
            plain = plain_push (the_open (s.open_of j)).number s.history e was.plain (sets_only (reverse (changes_of (now s i).kept)));
          });
    }
mark_effect s i (Defines o) g can m =
    let made : (committed (with_entry s i (defines o ∷ []))).number ≡ (committed s).number + 1 = ap (λ (d : Database). d.number) (defined the_views fresh view_laws s i o) in
    record {
      marked = (let a = m.marked in omega (arith, made, a));
      each = λ j js x. absurd (not_idle (ap the_open (can.none_open j js)) x);
    }
  where
    not_idle : {t : Open} → t ≡ idle → t.mode ≡ Snapshot → ⊥
    not_idle e x = cc (sym (ap (λ (t : Open). t.mode) e) ∙ x)
mark_effect s i (Cleans p) g can m = record { marked = m.marked; each = m.each }
mark_effect s i Prunes g can m = record {
  marked = least_below s.open_of 64 (committed s).number;
  each = λ j js x. let was = m.each j js x in record { marked = least_own s.open_of 64 (committed s).number j js.0 js.1 x; since = was.since; below = was.below; plain = was.plain };
}

mark_run : (s : Store) (i : ℕ) (es : List Effect) → Good' s → CanAll the_views fresh view_laws s i es → MarkGood s → MarkGood (run the_views s i es)
mark_run s i [] g can m = m
mark_run s i (e ∷ es) g can m = mark_run (does the_views s i e) i es (keeps the_views fresh view_laws s i e g can.0) can.1 (mark_effect s i e g can.0 m)

mark_step : (s : State) (d : Did) (after : State) → Good' s.store → MarkGood s.store → Step s d.session d.act d.said after → MarkGood after.store
mark_step s d after g m step = elim step.does [
  | inl x ↦ subst (λ (z : State). MarkGood z.store) (sym x.left)
      (mark_run s.store d.session x.effects g (can_says view_laws may_define s d.session d.act d.said x.effects g (may_of s d.session d.act x.runs step.may.1) x.says) m)
  | inr x ↦ subst (λ (z : State). MarkGood z.store) (sym x.left) m
]

mark_steps : (s : State) (ds : List Did) (after : State) → Good' s.store → MarkGood s.store → Run s ds after → MarkGood after.store
mark_steps s [] after g m r = subst (λ (z : State). MarkGood z.store) (sym r) m
mark_steps s (d ∷ ds) after g m r = mark_steps r.0 ds after (step_good view_laws may_define s d.session d.act d.said r.0 g r.1) (mark_step s d r.0 g m r.1) r.2

pub mark_reached : (s : State) → IsReached s → MarkGood s.store
mark_reached s r = mark_steps _ r.steps s (opened_good the_views fresh view_laws r.db r.view r.was_opened.sound r.was_opened.rows r.was_opened.in_range)
    (record { marked = omega arith; each = λ j js x. absurd (cc) }) r.run

pub snap_of : (s : State) → IsReached s → (i : ℕ) → (o : IsOpen s.store i) → o.transaction.mode ≡ Snapshot → SnapOk s.store.mark s.store.origin s.store.history o.transaction.number
snap_of s r i o m = subst (λ (x : Option Open). Ok s.store.mark s.store.origin s.store.history x) o.is_open ((mark_reached s r).each i o.of_session) m

pub mark_law : MarkLaw
mark_law s r i o m = (snap_of s r i o m).marked

-- ---- the numbers of views at a number

later_number : (ks : List Kept) (db : Database) (p : Place) (column : ℕ) → AreSets ks
    → fresh (keep_all ks db).schema (keep_all ks db).rows p column ≡ fresh db.schema db.rows p column +ℤ due p column (entry_deltas the_views db ks)
later_number [] db p column h = omega (arith, ints)
later_number (defines o ∷ ks) db p column h = absurd h
later_number (sets c ∷ ks) db p column h =
    let rest : fresh (keep_all ks (keep (sets c) db)).schema (keep_all ks (keep (sets c) db)).rows p column ≡ fresh db.schema (rows_after c db.rows) p column +ℤ due p column (entry_deltas the_views (keep (sets c) db) ks) = later_number ks (keep (sets c) db) p column h in
    let one : fresh db.schema (rows_after c db.rows) p column ≡ fresh db.schema db.rows p column +ℤ due p column (owed db.schema db.rows c) = sum_law db.schema db.rows c p column in
    let both : due p column (owed db.schema db.rows c ++ entry_deltas the_views (keep (sets c) db) ks) ≡ due p column (owed db.schema db.rows c) +ℤ due p column (entry_deltas the_views (keep (sets c) db) ks) = due_append p column (owed db.schema db.rows c) (entry_deltas the_views (keep (sets c) db) ks) in
    omega (arith, ints)

-- entries above the number
abbrev pub AreAbove : ℕ → List Entry → Type 0
AreAbove n es = AllByRecursion (λ (e : Entry). nat_le e.number n ≡ false) es

pub rest_above : (n : ℕ) (es : List Entry) (db : Database) → suc n ≤ db.number → IsHistoryOf db es → AreAbove n es
rest_above n [] db l h = tt
rest_above n (e ∷ es) db l h =
    let one : e.number ≡ db.number + 1 = h.0 in
    (above e.number n (omega (arith, l, one)), rest_above n es (fold (e ∷ []) db) (omega (arith, l, one)) h.2)

pub none_kept : (n : ℕ) (es : List Entry) → AreAbove n es → filter (λ (e : Entry). nat_le e.number n) es ≡ []
none_kept n [] h = refl
none_kept n (e ∷ es) h = ap (λ b. cond b (e ∷ filter (λ (x : Entry). nat_le x.number n) es) (filter (λ (x : Entry). nat_le x.number n) es)) h.0 ∙ none_kept n es h.1

above_number : (n : ℕ) (es : List Entry) (db : Database) (p : Place) (column : ℕ) → AreAbove n es → ArePlain n es
    → fresh (fold es db).schema (fold es db).rows p column ≡ fresh db.schema db.rows p column +ℤ due p column (deltas_above the_views n db es)
above_number n [] db p column a h = omega (arith, ints)
above_number n (e ∷ es) db p column a h =
    let next : Database = fold (e ∷ []) db in
    let rest : fresh (fold es next).schema (fold es next).rows p column ≡ fresh next.schema next.rows p column +ℤ due p column (deltas_above the_views n next es) = above_number n es next p column a.1 h.1 in
    let one : fresh next.schema next.rows p column ≡ fresh db.schema db.rows p column +ℤ due p column (entry_deltas the_views db e.kept) = later_number e.kept db p column (h.0 a.0) in
    let is : deltas_above the_views n db (e ∷ es) ≡ entry_deltas the_views db e.kept ++ deltas_above the_views n next es = ap (λ b. cond b (deltas_above the_views n next es) (entry_deltas the_views db e.kept ++ deltas_above the_views n next es)) a.0 in
    let both : due p column (deltas_above the_views n db (e ∷ es)) ≡ due p column (entry_deltas the_views db e.kept) +ℤ due p column (deltas_above the_views n next es) = ap (due p column) is ∙ due_append p column (entry_deltas the_views db e.kept) (deltas_above the_views n next es) in
    omega (arith, ints)

number_at : (n : ℕ) (es : List Entry) (db : Database) (p : Place) (column : ℕ) → IsHistoryOf db es → ArePlain n es
    → fresh (fold es db).schema (fold es db).rows p column ≡ fresh (state_at db es n).schema (state_at db es n).rows p column +ℤ due p column (deltas_above the_views n db es)
number_at n [] db p column h a = omega (arith, ints)
number_at n (e ∷ es) db p column h a = elim (leb_tells e.number n) [
  | inl t ↦
      let next : Database = fold (e ∷ []) db in
      let rest : fresh (fold es next).schema (fold es next).rows p column ≡ fresh (state_at next es n).schema (state_at next es n).rows p column +ℤ due p column (deltas_above the_views n next es) = number_at n es next p column h.2 a.1 in
      let state : state_at db (e ∷ es) n ≡ state_at next es n = ap (λ b. fold (cond b (e ∷ filter (λ (x : Entry). nat_le x.number n) es) (filter (λ (x : Entry). nat_le x.number n) es)) db) t.0 in
      let numbers : fresh (state_at db (e ∷ es) n).schema (state_at db (e ∷ es) n).rows p column ≡ fresh (state_at next es n).schema (state_at next es n).rows p column = ap (λ (d : Database). fresh d.schema d.rows p column) state in
      let deltas : due p column (deltas_above the_views n db (e ∷ es)) ≡ due p column (deltas_above the_views n next es) = ap (λ b. due p column (cond b (deltas_above the_views n next es) (entry_deltas the_views db e.kept ++ deltas_above the_views n next es))) t.0 in
      omega (arith, ints)
  | inr f ↦
      let all : AreAbove n (e ∷ es) = (f.0, rest_above n es (fold (e ∷ []) db) f.1 h.2) in
      let none : state_at db (e ∷ es) n ≡ db = ap (λ l. fold l db) (none_kept n (e ∷ es) all) in
      let numbers : fresh (state_at db (e ∷ es) n).schema (state_at db (e ∷ es) n).rows p column ≡ fresh db.schema db.rows p column = ap (λ (d : Database). fresh d.schema d.rows p column) none in
      let whole : fresh (fold (e ∷ es) db).schema (fold (e ∷ es) db).rows p column ≡ fresh db.schema db.rows p column +ℤ due p column (deltas_above the_views n db (e ∷ es)) = above_number n (e ∷ es) db p column all a in
      omega (arith, ints)
]

pub snapshot_law : SnapshotLaw
snapshot_law s r i o m p column =
    let g = reached s r in
    let kept : stored_number s.store.view p column ≡ fresh (schema_of s.store) (committed s.store).rows p column +ℤ over_sessions (λ t. paid (increments p column (now s.store t).kept)) = g.view p column in
    let number : fresh (schema_of s.store) (committed s.store).rows p column
    ≡ fresh (state_at s.store.origin s.store.history o.transaction.number).schema (state_at s.store.origin s.store.history o.transaction.number).rows p column +ℤ due p column (deltas_above the_views o.transaction.number s.store.origin s.store.history) =
    number_at o.transaction.number s.store.history s.store.origin p column g.history (snap_of s r i o m).plain in
    omega (arith, ints)

-- ---- the rows at a number

redo_append : (xs ys : List RowChange) (m : Rows) → redo (xs ++ ys) m ≡ redo xs (redo ys m)
redo_append [] ys m = refl
redo_append (x ∷ xs) ys m = ap (λ (t : Rows). write t x.key x.after) (redo_append xs ys m)

true_append : (xs ys : List RowChange) (m : Rows) → AreTrue m ys → AreTrue (redo ys m) xs → AreTrue m (xs ++ ys)
true_append [] ys m h k = h
true_append (x ∷ xs) ys m h k = (k.0 ∙ ap (λ (t : Rows). get t x.key) (sym (redo_append xs ys m)), true_append xs ys m h k.1)

-- what an entry's changes make of the rows
entry_rows : (ks : List Kept) (db : Database) → IsEntryOf db ks → (redo (changes_in ks) db.rows ≡ (keep_all ks db).rows) × AreTrue db.rows (changes_in ks)
entry_rows [] db h = (refl, tt)
entry_rows (sets c ∷ ks) db h =
    let rest = entry_rows ks (keep (sets c) db) h.1 in
    (redo_append (changes_in ks) (c ∷ []) db.rows ∙ rest.0, true_append (changes_in ks) (c ∷ []) db.rows (h.0.told, tt) rest.1)
entry_rows (defines o ∷ ks) db h = entry_rows ks (keep (defines o) db) h.1

rows_at : (n : ℕ) (es : List Entry) (db : Database) → IsHistoryOf db es
    → (redo (changes_above n es) (state_at db es n).rows ≡ (fold es db).rows) × AreTrue (state_at db es n).rows (changes_above n es)
rows_at n [] db h = (refl, tt)
rows_at n (e ∷ es) db h = elim (leb_tells e.number n) [
  | inl t ↦
      let next : Database = fold (e ∷ []) db in
      let rest = rows_at n es next h.2 in
      let state : state_at next es n ≡ state_at db (e ∷ es) n = sym (ap (λ b. fold (cond b (e ∷ filter (λ (x : Entry). nat_le x.number n) es) (filter (λ (x : Entry). nat_le x.number n) es)) db) t.0) in
      let changes : changes_above n es ≡ changes_above n (e ∷ es) = sym (ap (λ b. changes_above n es ++ cond b [] (changes_in e.kept)) t.0 ∙ append-nil (changes_above n es)) in
      subst (λ (l : List RowChange). (redo l (state_at db (e ∷ es) n).rows ≡ (fold es next).rows) × AreTrue (state_at db (e ∷ es) n).rows l) changes
      (subst (λ (d : Database). (redo (changes_above n es) d.rows ≡ (fold es next).rows) × AreTrue d.rows (changes_above n es)) state rest)
  | inr f ↦
      let next : Database = fold (e ∷ []) db in
      let later : AreAbove n es = rest_above n es next f.1 h.2 in
      let none : state_at db (e ∷ es) n ≡ db = ap (λ l. fold l db) (none_kept n (e ∷ es) (f.0, later)) in
      let none_next : state_at next es n ≡ next = ap (λ l. fold l next) (none_kept n es later) in
      let rest = subst (λ (d : Database). (redo (changes_above n es) d.rows ≡ (fold es next).rows) × AreTrue d.rows (changes_above n es)) none_next (rows_at n es next h.2) in
      let own = entry_rows e.kept db h.1 in
      let changes : changes_above n es ++ changes_in e.kept ≡ changes_above n (e ∷ es) = sym (ap (λ b. changes_above n es ++ cond b [] (changes_in e.kept)) f.0) in
      subst (λ (l : List RowChange). (redo l (state_at db (e ∷ es) n).rows ≡ (fold es next).rows) × AreTrue (state_at db (e ∷ es) n).rows l) changes
      (subst (λ (d : Database). (redo (changes_above n es ++ changes_in e.kept) d.rows ≡ (fold es next).rows) × AreTrue d.rows (changes_above n es ++ changes_in e.kept)) (sym none) (
        redo_append (changes_above n es) (changes_in e.kept) db.rows ∙ (ap (redo (changes_above n es)) own.0 ∙ rest.0),
        true_append (changes_above n es) (changes_in e.kept) db.rows own.1 (subst (λ (m : Rows). AreTrue m (changes_above n es)) (sym own.0) rest.1),
      ))
]

pub rows_at_law : RowsAtLaw
rows_at_law s r n =
    let g = reached s r in
    let at_number = rows_at n s.store.history s.store.origin g.history in
    ap (take_back (changes_above n s.store.history)) (sym at_number.0) ∙ back_redo place_cmp_total place_cmp-IsAntisymmetric (changes_above n s.store.history) (state_at s.store.origin s.store.history n).rows at_number.1

-- ---- what is dropped

above_more : (mark number : ℕ) → mark ≤ number → (es : List Entry) (db : Database) (d : GroupDelta) → Contains (deltas_above the_views number db es) d → Contains (deltas_above the_views mark db es) d
above_more mark number l [] db d c = c
above_more mark number l (e ∷ es) db d c =
    let next : Database = fold (e ∷ []) db in
    let rest : Contains (deltas_above the_views number next es) d → Contains (deltas_above the_views mark next es) d = above_more mark number l es next d in
    elim (leb_tells e.number mark) [
      | inl t ↦
          let above_number : nat_le e.number number ≡ true = at_most e.number number (let a = t.1 in omega (arith, l, a)) in
          subst (λ b. Contains (cond b (deltas_above the_views mark next es) (entry_deltas the_views db e.kept ++ deltas_above the_views mark next es)) d) (sym t.0)
          (rest (subst (λ b. Contains (cond b (deltas_above the_views number next es) (entry_deltas the_views db e.kept ++ deltas_above the_views number next es)) d) above_number c))
      | inr f ↦
          subst (λ b. Contains (cond b (deltas_above the_views mark next es) (entry_deltas the_views db e.kept ++ deltas_above the_views mark next es)) d) (sym f.0)
          (elim (nat_le e.number number) as (λ b. Contains (cond b (deltas_above the_views number next es) (entry_deltas the_views db e.kept ++ deltas_above the_views number next es)) d → Contains (entry_deltas the_views db e.kept ++ deltas_above the_views mark next es) d) [
            | true ↦ λ k. Contains-append_right (entry_deltas the_views db e.kept) (deltas_above the_views mark next es) d (rest k)
            | false ↦ λ k. elim (Contains-append_cases (entry_deltas the_views db e.kept) (deltas_above the_views number next es) d k) [
              | inl here ↦ Contains-append_left (entry_deltas the_views db e.kept) (deltas_above the_views mark next es) d here
              | inr later ↦ Contains-append_right (entry_deltas the_views db e.kept) (deltas_above the_views mark next es) d (rest later)
            ]
          ] c)
    ]

pub prune_law : PruneLaw
prune_law s number l d c = above_more s.mark number l s.history s.origin d c
