-- What steps do to what is committed: for the sessions that hold locks, for the numbers of commits, and for snapshots.
use Rattle.std.specs.Prelude.{◌≡◌, ◌≢◌, ◌⊎◌, ℕ, suc, ◌+◌, ◌≤◌, nat_le, cond, ◌==◌, ◌||◌, true, false, filter, length, List, [], ◌∷◌, ◌++◌, ℤ, pos, ◌+ℤ◌, Option, Some, None, IsSome}
use Rattle.std.specs.List.{AllByRecursion, Contains, list_any}
use mathlib.Core.Path.{refl, sym, ap, subst, ◌∙◌}
use mathlib.Core.Logic.{inl, inr}
use Rattle.std.proofs.Common.{arith, eq-eqb}
use Rattle.std.proofs.lemmas.Bool.{ne_eqb}
use Rattle.std.proofs.lemmas.Bool.Decides.{leb_tells}
use Rattle.std.proofs.lemmas.Option.{none-some}
use Rattle.std.proofs.lemmas.List.Elements.{recursion_from_All}
use Rattle.iv_types.specs.declared.lock.GroupDelta.{GroupDelta}
use Rattle.iv_types.specs.declared.lock.Want.{Want}
use Rattle.iv_types.specs.declared.value.Interval.{Interval}
use Rattle.table_laws.specs.Place.{Place}
use Rattle.table_laws.specs.Kept.{redo, redo_all}
use Rattle.table_laws.proofs.Stored.{by_session}
use Rattle.iv_meaning.specs.Database.{Rows, Database}
use Rattle.iv_meaning.specs.History.{Entry, fold, state_at}
use Rattle.iv_meaning.specs.Escrow.{IsSession, over_sessions, paid}
use Rattle.iv_meaning.specs.Waits.{AreDifferent}
use Rattle.txn_machine.specs.Acts as act
use Rattle.txn_machine.specs.Acts.{Act}
use Rattle.txn_machine.specs.Answers as answer
use Rattle.txn_machine.specs.Answers.{Answer}
use Rattle.txn_machine.specs.Deltas.{RowChange, owed}
use Rattle.txn_machine.specs.Keeping.{KeptStep, Put, Pay, changes_of, increments, Open, begun}
use Rattle.txn_machine.specs.Stored.{stored_number}
use Rattle.txn_machine.specs.Fresh.{fresh}
use Rattle.txn_machine.specs.Ghosts.{MayReadIn, the_views}
use Rattle.txn_machine.specs.Store.{Store, committed, schema_of, now, changes_by, locks_of, change_at, notes_before, paid_first, undone, entry_changes, Effect, Opens, Takes, Notes, Writes, Pays, Ghosts, Undoes, Loses, Ends, Commits, Defines, Cleans, Prunes, does, run}
use Rattle.txn_machine.specs.State.{State}
use Rattle.txn_machine.specs.May.{MayAct}
use Rattle.txn_machine.specs.Steps.{CommitsAs}
use Rattle.txn_machine.specs.ViewLaws.{AreSound}
use Rattle.txn_machine.specs.Laws.{IsSameReading, FrameLaw, CommitLaw, AnySubsetLaw}
use Rattle.txn_machine.proofs.Basics.{one_same, one_other}
use Rattle.txn_machine.proofs.Agreeing.{agree_on}
use Rattle.txn_machine.proofs.Columns.{paid_in}
use Rattle.txn_machine.proofs.Bounds.{over_same}
use Rattle.txn_machine.proofs.Entered.{IsHistoryOf}
use Rattle.txn_machine.proofs.Good.{the_open, own_sound}
use Rattle.txn_machine.proofs.Runs.{CanAll, keeps, committed_after}
use Rattle.txn_machine.proofs.Stepping.{some_not_none, can_says}
use Rattle.txn_machine.proofs.Looking.{view_laws}
use Rattle.txn_machine.proofs.Framing.{Framed, framed_itself, framed_commit, reads_framed}
use Rattle.txn_machine.proofs.Telling.{Good', Can', state_at_push}
use Rattle.txn_machine.proofs.Reached.{may_define, reached}

-- ---- the committed database, as another session sees it change

pub record Changed (s t : Store) (locks : List Want) : Type 0 where
  pub number : ℕ
  pub rows : Rows
  pub is : committed t ≡ record { number = number; schema = schema_of s; rows = rows }
  pub framed : Framed (schema_of s) locks (committed s).rows rows
  pub sound : AreSound (schema_of s) rows

unchanged : (s t : Store) (locks : List Want) → Good' s → committed t ≡ committed s → Changed s t locks
unchanged s t locks g e = record { number = (committed s).number; rows = (committed s).rows; is = e; framed = framed_itself (schema_of s) locks (committed s).rows; sound = g.sound }

pub same_pays : (s : Store) (i : ℕ) (ds : List GroupDelta) → committed (paid_first s i (now s i) ds) ≡ committed s
same_pays s i [] = refl
same_pays s i (d ∷ ds) = refl

pub same_undoes : (s : Store) (i : ℕ) (ks : List KeptStep) → committed (undone s i (now s i) ks) ≡ committed s
same_undoes s i [] = refl
same_undoes s i (Put c ds ∷ ks) = refl
same_undoes s i (Pay d ∷ ks) = refl

changed_effect : (s : Store) (i : ℕ) (e : Effect) → Good' s → Can' s i e → (j : ℕ) → IsSession j → j ≢ i → (o : Open) → s.open_of j ≡ Some o → Changed s (does the_views s i e) (locks_of s j)
changed_effect s i (Opens mode) g can j js n o is = unchanged s (does the_views s i (Opens mode)) (locks_of s j) g refl
changed_effect s i (Takes wants) g can j js n o is = unchanged s (does the_views s i (Takes wants)) (locks_of s j) g refl
changed_effect s i (Notes x) g can j js n o is = unchanged s (does the_views s i (Notes x)) (locks_of s j) g refl
changed_effect s i (Writes p new) g can j js n o is = unchanged s (does the_views s i (Writes p new)) (locks_of s j) g refl
changed_effect s i Pays g can j js n o is = unchanged s (does the_views s i Pays) (locks_of s j) g (same_pays s i (now s i).owed)
changed_effect s i (Ghosts p x) g can j js n o is = unchanged s (does the_views s i (Ghosts p x)) (locks_of s j) g refl
changed_effect s i Undoes g can j js n o is = unchanged s (does the_views s i Undoes) (locks_of s j) g (same_undoes s i (now s i).kept)
changed_effect s i Loses g can j js n o is = unchanged s (does the_views s i Loses) (locks_of s j) g refl
changed_effect s i Ends g can j js n o is = unchanged s (does the_views s i Ends) (locks_of s j) g refl
changed_effect s i Commits g can j js n o is = record {
  number = (committed s).number + 1;
  rows = redo (changes_by s i) (committed s).rows;
  is = committed_after the_views fresh view_laws s i;
  framed = framed_commit (committed s) s g i j can.0 js n can.1;
  sound = own_sound the_views fresh view_laws (committed s) s g i can.0;
}
changed_effect s i (Defines x) g can j js n o is = absurd (none-some o (sym (can.none_open j js) ∙ is))
changed_effect s i (Cleans p) g can j js n o is = unchanged s (does the_views s i (Cleans p)) (locks_of s j) g refl
changed_effect s i Prunes g can j js n o is = unchanged s (does the_views s i Prunes) (locks_of s j) g refl

other_open_pays : (s : Store) (i j : ℕ) → j ≢ i → (ds : List GroupDelta) → (paid_first s i (now s i) ds).open_of j ≡ s.open_of j
other_open_pays s i j n [] = refl
other_open_pays s i j n (d ∷ ds) = one_other s.open_of i (Some (record (now s i) { kept = Pay d ∷ (now s i).kept; owed = ds })) j n

other_open_undoes : (s : Store) (i j : ℕ) → j ≢ i → (ks : List KeptStep) → (undone s i (now s i) ks).open_of j ≡ s.open_of j
other_open_undoes s i j n [] = refl
other_open_undoes s i j n (Put c ds ∷ ks) = one_other s.open_of i (Some (record (now s i) { kept = ks; owed = []; back = 0; notes = notes_before (length ks) (now s i).notes })) j n
other_open_undoes s i j n (Pay d ∷ ks) = one_other s.open_of i (Some (record (now s i) { kept = ks; owed = d ∷ (now s i).owed; back = (now s i).back + 1 })) j n

-- an effect leaves the transactions of the other sessions
pub other_open : (s : Store) (i : ℕ) (e : Effect) (j : ℕ) → j ≢ i → (does the_views s i e).open_of j ≡ s.open_of j
other_open s i (Opens mode) j n = one_other s.open_of i (Some (begun mode (committed s).number)) j n
other_open s i (Takes wants) j n = one_other s.open_of i (Some (record (now s i) { locks = wants ++ (now s i).locks })) j n
other_open s i (Notes x) j n = one_other s.open_of i (Some (record (now s i) { notes = x ∷ (now s i).notes })) j n
other_open s i (Writes p new) j n = one_other s.open_of i (Some (record (now s i) { kept = Put (change_at s p new) (owed (schema_of s) s.rows (change_at s p new)) ∷ (now s i).kept; owed = owed (schema_of s) s.rows (change_at s p new); back = 0 })) j n
other_open s i Pays j n = other_open_pays s i j n (now s i).owed
other_open s i (Ghosts p x) j n = refl
other_open s i Undoes j n = other_open_undoes s i j n (now s i).kept
other_open s i Loses j n = one_other s.open_of i (Some (record (now s i) { is_lost = true })) j n
other_open s i Ends j n = one_other s.open_of i None j n
other_open s i Commits j n = one_other s.open_of i None j n
other_open s i (Defines o) j n = refl
other_open s i (Cleans p) j n = refl
other_open s i Prunes j n = refl

-- one after the other
together : (s t u : Store) (locks : List Want) → Changed s t locks → Changed t u locks → Changed s u locks
together s t u locks a b =
    let moved : (Framed (schema_of s) locks a.rows b.rows × AreSound (schema_of s) b.rows) × (committed u ≡ record { number = b.number; schema = schema_of s; rows = b.rows }) =
    subst (λ (d : Database). (Framed d.schema locks d.rows b.rows × AreSound d.schema b.rows) × (committed u ≡ record { number = b.number; schema = d.schema; rows = b.rows })) a.is ((b.framed, b.sound), b.is) in
    record {
      number = b.number;
      rows = b.rows;
      is = moved.1;
      framed = record {
        agree = λ n k r. agree_on (schema_of s) n k (committed s).rows a.rows b.rows (a.framed.agree n k r) (moved.0.0.agree n k r);
        same = λ n k r column. a.framed.same n k r column ∙ moved.0.0.same n k r column;
      };
      sound = moved.0.1;
    }

changed_run : (s : Store) (i : ℕ) (es : List Effect) → Good' s → CanAll the_views fresh view_laws s i es → (j : ℕ) → IsSession j → j ≢ i → (o : Open) → s.open_of j ≡ Some o → Changed s (run the_views s i es) (locks_of s j)
changed_run s i [] g can j js n o is = unchanged s s (locks_of s j) g refl
changed_run s i (e ∷ es) g can j js n o is =
    let t : Store = does the_views s i e in
    let same : t.open_of j ≡ s.open_of j = other_open s i e j n in
    let rest : Changed t (run the_views t i es) (locks_of t j) = changed_run t i es (keeps the_views fresh view_laws s i e g can.0) can.1 j js n o (same ∙ is) in
    together s t (run the_views t i es) (locks_of s j) (changed_effect s i e g can.0 j js n o is)
    (subst (λ l. Changed t (run the_views t i es) l) (ap (λ (x : Option Open). (the_open x).locks) same) rest)

same_reading : (s t : Store) (locks : List Want) → Good' s → Changed s t locks → (n : ℕ) (interval : Interval) → MayReadIn locks n interval → IsSameReading (committed s) (committed t) n interval
same_reading s t locks g c n interval may = subst (λ (d : Database). IsSameReading (committed s) d n interval) (sym c.is)
    (reads_framed (schema_of s) (committed s).number c.number locks (committed s).rows c.rows c.framed g.sound c.sound n interval may)

pub may_of : (s : State) (i : ℕ) (a : Act) → s.stop ≡ None → (IsSome s.stop ⊎ MayAct s.store i a) → MayAct s.store i a
may_of s i a runs (inl stopped) = absurd (some_not_none s.stop stopped runs)
may_of s i a runs (inr may) = may

pub frame_law : FrameLaw
frame_law s r d after step j n o number interval may = elim step.does [
  | inl x ↦
      let g = reached s r in
      let can = can_says view_laws may_define s d.session d.act d.said x.effects g (may_of s d.session d.act x.runs step.may.1) x.says in
      subst (λ (z : State). IsSameReading (committed s.store) (committed z.store) number interval) (sym x.left)
      (same_reading s.store (run the_views s.store d.session x.effects) (locks_of s.store j) g (changed_run s.store d.session x.effects g can j o.of_session n o.transaction o.is_open) number interval may)
  | inr x ↦ subst (λ (z : State). IsSameReading (committed s.store) (committed z.store) number interval) (sym x.left) refl
]

-- ---- numbers

-- numbers rise
pub numbers_rise : (es : List Entry) (db : Database) → IsHistoryOf db es → (db.number ≤ (fold es db).number) × AllByRecursion (λ (e : Entry). e.number ≤ (fold es db).number) es
numbers_rise [] db h = (omega arith, tt)
numbers_rise (e ∷ es) db h =
    let rest = numbers_rise es (fold (e ∷ []) db) h.2 in
    let low : e.number ≤ (fold es (fold (e ∷ []) db)).number = rest.0 in
    let one : e.number ≡ db.number + 1 = h.0 in
    (omega (arith, low, one), (low, rest.1))

pub at_most : (x n : ℕ) → x ≤ n → nat_le x n ≡ true
at_most x n h = elim (leb_tells x n) [ inl t ↦ t.0 | inr f ↦ absurd (let l = f.1 in omega (arith, h, l)) ]

filter_all : (n : ℕ) (es : List Entry) → AllByRecursion (λ (e : Entry). e.number ≤ n) es → filter (λ (e : Entry). nat_le e.number n) es ≡ es
filter_all n [] h = refl
filter_all n (e ∷ es) h = ap (λ b. cond b (e ∷ filter (λ (x : Entry). nat_le x.number n) es) (filter (λ (x : Entry). nat_le x.number n) es)) (at_most e.number n h.0) ∙ ap (λ (l : List Entry). e ∷ l) (filter_all n es h.1)

-- the state at the greatest number is what is committed
pub state_now : (origin : Database) (es : List Entry) → IsHistoryOf origin es → state_at origin es (fold es origin).number ≡ fold es origin
state_now origin es h = ap (λ (l : List Entry). fold l origin) (filter_all (fold es origin).number es (numbers_rise es origin h).1)

commits_as : (s : Store) (i number : ℕ) (es : List Effect) (cs : List RowChange) → cs ≢ [] → CommitsAs s i cs number es → (number ≡ (committed s).number + 1) × (es ≡ Commits ∷ [])
commits_as s i number es [] n c = absurd (n refl)
commits_as s i number es (x ∷ cs) n c = c

pub commit_law : CommitLaw
commit_law s r i number after step changed = elim step.does [
  | inl x ↦
      let g = reached s r in
      let as_ = commits_as s.store i number x.effects (changes_by s.store i) changed x.says in
      let base : Database = committed s.store in
      let e : Entry = record { number = base.number + 1; session = i; kept = entry_changes (now s.store i).kept } in
      let next : Store = does the_views s.store i Commits in
      let can = can_says view_laws may_define s i act.Commit (answer.Committed number) x.effects g (may_of s i act.Commit x.runs step.may.1) x.says in
      let good : Good' next = keeps the_views fresh view_laws s.store i Commits g (subst (CanAll the_views fresh view_laws s.store i) as_.1 can).0 in
      let is_after : after.store ≡ next = ap (λ (z : State). z.store) x.left ∙ ap (run the_views s.store i) as_.1 in
      let made : committed next ≡ record base { number = base.number + 1; rows = redo (changes_by s.store i) base.rows } = committed_after the_views fresh view_laws s.store i in
      let number_is : (committed next).number ≡ number = ap (λ (d : Database). d.number) made ∙ sym as_.0 in
      subst (λ (z : Store). (state_at s.store.origin z.history number ≡ committed z) × ((before : ℕ) → number ≡ before + 1 → state_at s.store.origin z.history before ≡ committed s.store) × ((committed z).rows ≡ redo (changes_by s.store i) (committed s.store).rows)) (sym is_after) (
        ap (state_at s.store.origin next.history) (sym number_is) ∙ state_now s.store.origin next.history good.history,
        λ before same.
            let before_is : before ≡ base.number = (let a : number ≡ base.number + 1 = as_.0 in omega (arith, a, same)) in
            state_at_push s.store.origin s.store.history e before (omega (arith, before_is)) ∙ (ap (state_at s.store.origin s.store.history) before_is ∙ state_now s.store.origin s.store.history g.history),
        ap (λ (d : Database). d.rows) made,
      )
  | inr x ↦ absurd (cc)
]

-- ---- any subset

but_store : List ℕ → Store → Place → ℕ → ℕ → ℤ
but_store chosen s p column j = cond (list_any (λ c. c == j) chosen) (pos 0) (paid (increments p column (now s j).kept))

redo_all_same : (k l : ℕ → List RowChange) (chosen : List ℕ) (rows : Rows) → AllByRecursion (λ j. k j ≡ l j) chosen → redo_all k chosen rows ≡ redo_all l chosen rows
redo_all_same k l [] rows h = refl
redo_all_same k l (j ∷ chosen) rows h = ap (λ (c : List RowChange). redo_all k chosen (redo c rows)) h.0 ∙ redo_all_same k l chosen (redo (l j) rows) h.1

not_first : (i : ℕ) (chosen : List ℕ) → (Contains chosen i → ⊥) → AllByRecursion (λ j. j ≢ i) chosen
not_first i [] h = tt
not_first i (j ∷ chosen) h = ((λ e. h (0, omega arith, e)), not_first i chosen (λ c. h (suc c.0, (let l = c.1 in omega (arith, l)), c.2)))

both_all : {X : Type 0} (P Q R : X → Type 0) (xs : List X) → ((x : X) → P x → Q x → R x) → AllByRecursion P xs → AllByRecursion Q xs → AllByRecursion R xs
both_all P Q R [] f h k = tt
both_all P Q R (x ∷ xs) f h k = (f x h.0 k.0, both_all P Q R xs f h.1 k.1)

subset : (chosen : List ℕ) (s : Store) → Good' s → AreDifferent chosen → AllByRecursion IsSession chosen → AllByRecursion (λ j. (now s j).owed ≡ []) chosen → (p : Place) (column : ℕ)
    → fresh (schema_of s) (redo_all (changes_by s) chosen (committed s).rows) p column +ℤ over_sessions (but_store chosen s p column) ≡ stored_number s.view p column
unfolding but_store
subset [] s g d is owes p column = sym (g.view p column)
subset (i ∷ chosen) s g d is owes p column =
    let base : Database = committed s in
    let t : Store = does the_views s i Commits in
    let good : Good' t = keeps the_views fresh view_laws s i Commits g (is.0, owes.0) in
    let others : AllByRecursion (λ j. j ≢ i) chosen = not_first i chosen d.0 in
    let same_open : (j : ℕ) → j ≢ i → t.open_of j ≡ s.open_of j = λ j n. other_open s i Commits j n in
    let owes_still : AllByRecursion (λ j. (now t j).owed ≡ []) chosen = both_all (λ j. j ≢ i) (λ j. (now s j).owed ≡ []) (λ j. (now t j).owed ≡ []) chosen (λ j n e. ap (λ (x : Option Open). (the_open x).owed) (same_open j n) ∙ e) others owes.1 in
    let rest : fresh (schema_of t) (redo_all (changes_by t) chosen (committed t).rows) p column +ℤ over_sessions (but_store chosen t p column) ≡ stored_number s.view p column = subset chosen t good d.1 is.1 owes_still p column in
    let made : committed t ≡ record base { number = base.number + 1; rows = redo (changes_by s i) base.rows } = committed_after the_views fresh view_laws s i in
    let kept_same : redo_all (changes_by t) chosen (redo (changes_by s i) base.rows) ≡ redo_all (changes_by s) chosen (redo (changes_by s i) base.rows) =
    redo_all_same (changes_by t) (changes_by s) chosen (redo (changes_by s i) base.rows) (both_all (λ j. j ≢ i) (λ j. j ≢ i) (λ j. changes_by t j ≡ changes_by s j) chosen (λ j n m. ap (λ (x : Option Open). changes_of (the_open x).kept) (same_open j n)) others others) in
    let numbers : fresh (schema_of t) (redo_all (changes_by t) chosen (committed t).rows) p column ≡ fresh base.schema (redo_all (changes_by s) chosen (redo (changes_by s i) base.rows)) p column =
    ap (λ (x : Database). fresh x.schema (redo_all (changes_by t) chosen x.rows) p column) made ∙ ap (λ (x : Rows). fresh base.schema x p column) kept_same in
    let pays : over_sessions (but_store (i ∷ chosen) s p column) ≡ over_sessions (but_store chosen t p column) = over_same (but_store (i ∷ chosen) s p column) (but_store chosen t p column) (λ j js. by_session j i
    (λ e. mine chosen s t i p column j e (ap (λ (x : Option Open). paid_in p column (the_open x).kept) (ap t.open_of e ∙ one_same s.open_of i None i refl)))
    (λ n. ap (λ b. cond (b || list_any (λ c. c == j) chosen) (pos 0) (paid (increments p column (now s j).kept))) (ne_eqb i j (λ e. n (sym e)))
    ∙ ap (λ (x : Option Open). cond (list_any (λ c. c == j) chosen) (pos 0) (paid (increments p column (the_open x).kept))) (sym (same_open j n)))) in
    ap (λ x. fresh base.schema (redo_all (changes_by s) chosen (redo (changes_by s i) base.rows)) p column +ℤ x) pays ∙ (ap (λ x. x +ℤ over_sessions (but_store chosen t p column)) (sym numbers) ∙ rest)
  where
    mine : (chosen : List ℕ) (s t : Store) (i : ℕ) (p : Place) (column j : ℕ) → j ≡ i → paid_in p column (now t j).kept ≡ pos 0 → but_store (i ∷ chosen) s p column j ≡ but_store chosen t p column j
    mine chosen s t i p column j e none =
        ap (λ b. cond (b || list_any (λ c. c == j) chosen) (pos 0) (paid (increments p column (now s j).kept))) (eq-eqb i j (sym e))
        ∙ sym (elim (list_any (λ c. c == j) chosen) as (λ b. cond b (pos 0) (paid (increments p column (now t j).kept)) ≡ pos 0) [ true ↦ refl | false ↦ none ])

pub any_subset_law : AnySubsetLaw
unfolding but_store
any_subset_law s r chosen d is owes p column =
    subset chosen s.store (reached s r) d (recursion_from_All IsSession chosen is) (recursion_from_All (λ j. (now s.store j).owed ≡ []) chosen owes) p column
