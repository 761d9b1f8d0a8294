-- What the log and the pages of a machine are: replayed, they are what is stored. And with what is left taken back, they are
-- what was committed.
use Rattle.std.specs.Prelude.{◌≡◌, ◌≢◌, ℕ, ◌<◌, ◌≤◌, ℤ, pos, ◌+ℤ◌, ◌-ℤ◌, true, List, [], ◌∷◌, ◌++◌, Option, Some, None, IsSome}
use Rattle.std.specs.FinMap.{get}
use mathlib.Core.Path.{refl, sym, ap, subst, ◌∙◌}
use mathlib.Core.Logic.{inl, inr}
use Rattle.std.proofs.Common.{arith}
use Rattle.std.proofs.lemmas.Int.{ints}
use Rattle.iv_types.specs.Encoding.{IsHuge}
use Rattle.table_laws.specs.Kept.{AreTrue, Touches, redo}
use Rattle.table_laws.specs.Place.{Place}
use Rattle.iv_meaning.specs.Database.{Rows, Database}
use Rattle.iv_meaning.specs.History.{state_at}
use Rattle.iv_meaning.specs.Escrow.{IsSession, over_sessions, lo, hi}
use Rattle.txn_machine.specs.Locks.{with_one}
use Rattle.txn_machine.specs.Deltas.{RowChange, place_of, negated}
use Rattle.txn_machine.specs.Keeping as keeping
use Rattle.txn_machine.specs.Keeping.{KeptStep, Put, Pay, Open}
use Rattle.txn_machine.specs.Stored.{ViewRows, stored_number}
use Rattle.txn_machine.specs.Fresh.{fresh}
use Rattle.txn_machine.specs.Store.{Store, committed, schema_of, now, changes_by}
use Rattle.txn_machine.specs.Steps.{stored}
use Rattle.txn_machine.specs.Laws.{IsOpened}
use Rattle.txn_machine.proofs.Bounds.{over_same}
use Rattle.txn_machine.proofs.Columns.{adds, paid_in, paid_in_pay}
use Rattle.txn_machine.proofs.Good.{base_sound, PaysOn}
use Rattle.txn_machine.proofs.Fetching.{committed_huge}
use Rattle.txn_machine.proofs.Moving.{state_now}
use Rattle.txn_machine.proofs.Reached.{Holds'}
use Rattle.txn_machine.proofs.Looking.{view_laws}
use Rattle.txn_machine.specs.Ghosts.{the_views}
use Rattle.std.specs.List.{Contains}
use Rattle.iv_types.specs.declared.lock.GroupDelta.{GroupDelta}
use Rattle.iv_meaning.specs.Schema.{Schema}
use Rattle.txn_machine.specs.Stored.{AreStored}
use Rattle.txn_machine.specs.KeptLaws.{IsDelta}
use Rattle.txn_machine.proofs.Holding.{contains_here}
use Rattle.std.proofs.lemmas.List.Elements.{Contains-append_right}
use Rattle.txn_machine.proofs.Shapes.{Stored', add_stored, negated_is, all_are}
use Rattle.txn_log.specs.Replay.{What, Wrote, Added, Deed, Event, Pages, survives, Stored, on_pages, replayed, recovered, all_rows_back, all_view_back, view_without, amount_of, amounts}
use Rattle.txn_log.specs.Fitting.{DoNumbersFall, AllFit, AllBack, AllDeeds, IsKnown, AreBelow}
use Rattle.txn_log.specs.Replay.{own}
use Rattle.txn_log.specs.Moments.{Txn, AreCarried}
use Rattle.txn_log.proofs.Memory.{Memory, reading_of, Recovers}
use Rattle.txn_log.proofs.Finding.{by_number}
use Rattle.txn_log.proofs.Owning.{set_each, AreApart, own_this, own_other}
use Rattle.txn_log.proofs.Reversing.{by_owner, change_in, changes_of, rows_reversed, sums_reversed}
use Rattle.txn_log.proofs.Backing.{number_without, HasRow, AllPresent, CanBack, all_back, inc_with, incs, AreOwned, ranged}

-- ---- what is kept, in memory and in the log

abbrev pub whats_of : List Deed → List What
whats_of [] = []
whats_of (x ∷ xs) = x.what ∷ whats_of xs

abbrev pub whats_in : List KeptStep → List What
whats_in [] = []
whats_in (Put c ds ∷ ks) = Wrote c ∷ whats_in ks
whats_in (Pay d ∷ ks) = Added d ∷ whats_in ks

abbrev pub whats_changes : List What → List RowChange
whats_changes [] = []
whats_changes (w ∷ ws) = change_in w (whats_changes ws)

abbrev pub whats_amounts : Place → ℕ → List What → ℤ
whats_amounts p column [] = pos 0
whats_amounts p column (w ∷ ws) = whats_amounts p column ws +ℤ amount_of p column w

changes_logged : (xs : List Deed) → changes_of xs ≡ whats_changes (whats_of xs)
changes_logged [] = refl
changes_logged (x ∷ xs) = ap (change_in x.what) (changes_logged xs)

pub changes_kept : (ks : List KeptStep) → keeping.changes_of ks ≡ whats_changes (whats_in ks)
changes_kept [] = refl
changes_kept (Put c ds ∷ ks) = ap (λ (cs : List RowChange). c ∷ cs) (changes_kept ks)
changes_kept (Pay d ∷ ks) = changes_kept ks

amounts_logged : (p : Place) (column : ℕ) (xs : List Deed) → amounts p column xs ≡ whats_amounts p column (whats_of xs)
amounts_logged p column [] = refl
amounts_logged p column (x ∷ xs) = ap (λ z. z +ℤ amount_of p column x.what) (amounts_logged p column xs)

amounts_kept : (p : Place) (column : ℕ) (ks : List KeptStep) → paid_in p column ks ≡ whats_amounts p column (whats_in ks)
amounts_kept p column [] = refl
amounts_kept p column (Put c ds ∷ ks) =
    let rest : paid_in p column ks ≡ whats_amounts p column (whats_in ks) = amounts_kept p column ks in
    omega (arith, ints)
amounts_kept p column (Pay d ∷ ks) =
    let rest : paid_in p column ks ≡ whats_amounts p column (whats_in ks) = amounts_kept p column ks in
    let one : paid_in p column (Pay d ∷ ks) ≡ paid_in p column ks +ℤ adds p column d = paid_in_pay p column d ks in
    one ∙ ap (λ z. z +ℤ adds p column d) rest

-- ---- numbers of view rows taken back

pub number_all_back : (xs : List Deed) (view : ViewRows) (p : Place) (column : ℕ) → stored_number (all_view_back xs view) p column ≡ stored_number view p column -ℤ amounts p column xs
number_all_back [] view p column = omega (arith, ints)
number_all_back (x ∷ xs) view p column =
    let rest : stored_number (all_view_back xs (view_without x.what view)) p column ≡ stored_number (view_without x.what view) p column -ℤ amounts p column xs =
    number_all_back xs (view_without x.what view) p column in
    let one : stored_number (view_without x.what view) p column ≡ stored_number view p column -ℤ amount_of p column x.what = number_without x.what view p column in
    omega (arith, ints)

-- ---- the log names no record to come of an open transaction or of one to begin

pub record IsClear (log : List Event) (txn_of : ℕ → Txn) (begun next : ℕ) : Type 0 where
  pub ours : (s : ℕ) → IsSession s → 1 ≤ (txn_of s).id → (n : ℕ) → next ≤ n → survives log (txn_of s).id n ≡ true
  pub new : (t : ℕ) → begun < t → (n : ℕ) → next ≤ n → survives log t n ≡ true

pub clear_set : (log : List Event) (txn_of : ℕ → Txn) (begun next : ℕ) (s : ℕ) (o : Txn)
    → (1 ≤ o.id → (n : ℕ) → next ≤ n → survives log o.id n ≡ true)
    → ((t : ℕ) → IsSession t → t ≢ s → 1 ≤ (txn_of t).id → (n : ℕ) → next ≤ n → survives log (txn_of t).id n ≡ true)
    → ((t : ℕ) → begun < t → (n : ℕ) → next ≤ n → survives log t n ≡ true)
    → IsClear log (with_one txn_of s o) begun next
clear_set log txn_of begun next s o this others new = record {
  ours = set_each (λ t p. IsSession t → 1 ≤ p.id → (n : ℕ) → next ≤ n → survives log p.id n ≡ true) txn_of s o
      (λ k. this)
      (λ t d k. others t k d);
  new = new;
}

-- ---- what a log is

abbrev pub replay_of : Memory → Stored
replay_of l = replayed (reading_of l l.waiting)

pub record Tied (s : Store) (l : Memory) : Type 0 where
  pub carried : AreCarried l.txn_of (replay_of l).live
  pub apart : AreApart l.txn_of l.begun l.next
  pub clear : IsClear (l.waiting ++ l.flushed) l.txn_of l.begun l.next
  pub whats : (i : ℕ) → IsSession i → whats_of (l.txn_of i).kept ≡ whats_in (now s i).kept
  pub db : (replay_of l).db ≡ stored s
  pub view : (replay_of l).view ≡ s.view
  pub fits : AllFit (on_pages l.pages l.carried) (l.waiting ++ l.flushed)
  pub fall : DoNumbersFall l.carried
  pub known : AllDeeds (IsKnown l.pages.db.schema) l.carried
  pub below : AreBelow l.next l.carried (l.waiting ++ l.flushed)

-- ---- what is left can be reversed

abbrev whats_present : ViewRows → List What → Type 0
whats_present view [] = Unit {0}
whats_present view (Wrote c ∷ ws) = whats_present view ws
whats_present view (Added d ∷ ws) = IsSome (get view (place_of d)) × whats_present view ws

pub some_of : {X : Type 0} (o : Option X) → (o ≡ None → ⊥) → IsSome o
some_of None h = absurd (h refl)
some_of (Some x) h = refl

present_kept : (view : ViewRows) (ks : List KeptStep) → ((p : Place) → get view p ≡ None → PaysOn p ks → ⊥) → whats_present view (whats_in ks)
present_kept view [] h = tt
present_kept view (Put c ds ∷ ks) h = present_kept view ks h
present_kept view (Pay d ∷ ks) h = (some_of (get view (place_of d)) (λ e. h (place_of d) e (inl refl)), present_kept view ks (λ p e u. h p e (inr u)))

present_one : (w : What) (view : ViewRows) (ws : List What) → whats_present view (w ∷ ws) → whats_present view (w ∷ []) × whats_present view ws
present_one (Wrote c) view ws h = (tt, h)
present_one (Added d) view ws h = ((h.0, tt), h.1)

present_all : (view : ViewRows) (xs : List Deed) → ((t : ℕ) → whats_present view (whats_of (own t xs))) → AllPresent view xs
present_all view [] h = tt
present_all view (x ∷ xs) h =
    let this : whats_present view (x.what ∷ whats_of (own x.transaction xs)) = subst (λ ys. whats_present view (whats_of ys)) (own_this x.transaction x xs refl) (h x.transaction) in (
      has_row x.what (present_one x.what view (whats_of (own x.transaction xs)) this).0,
      present_all view xs (λ t. by_number x.transaction t
          (λ e. (present_one x.what view (whats_of (own t xs)) (subst (λ ys. whats_present view (whats_of ys)) (own_this t x xs e) (h t))).1)
          (λ n. subst (λ ys. whats_present view (whats_of ys)) (own_other t x xs n) (h t))),
    )
  where
    has_row : (w : What) → whats_present view (w ∷ []) → HasRow view w
    has_row (Wrote c) h = tt
    has_row (Added d) h = h.0

whats_incs : Place → ℕ → List What → List ℤ
whats_incs p column [] = []
whats_incs p column (w ∷ ws) = inc_with p column w (whats_incs p column ws)

incs_logged : (p : Place) (column : ℕ) (xs : List Deed) → incs p column xs ≡ whats_incs p column (whats_of xs)
unfolding whats_incs
incs_logged p column [] = refl
incs_logged p column (x ∷ xs) = ap (inc_with p column x.what) (incs_logged p column xs)

incs_kept : (p : Place) (column : ℕ) (ks : List KeptStep) → keeping.increments p column ks ≡ whats_incs p column (whats_in ks)
unfolding whats_incs
incs_kept p column [] = refl
incs_kept p column (Put c ds ∷ ks) = incs_kept p column ks
incs_kept p column (Pay d ∷ ks) = ap (inc_with p column (Added d)) (incs_kept p column ks)

module _ (s : Store) (l : Memory) (g : Holds' s) (t : Tied s l) where
  pub same_changes : (i : ℕ) → IsSession i → changes_of (l.txn_of i).kept ≡ changes_by s i
  same_changes i is = changes_logged (l.txn_of i).kept ∙ (ap whats_changes (t.whats i is) ∙ sym (changes_kept (now s i).kept))

  own_changes : (i : ℕ) → IsSession i → changes_of (own (l.txn_of i).id (replay_of l).live) ≡ changes_by s i
  own_changes i is = ap changes_of (t.carried.each i is) ∙ same_changes i is

  -- what is stored of a number: the committed one and what is live
  pub number_live : (p : Place) (column : ℕ) → stored_number s.view p column ≡ fresh (schema_of s) (committed s).rows p column +ℤ amounts p column (replay_of l).live
  number_live p column =
      let now_is : stored_number s.view p column ≡ fresh (schema_of s) (committed s).rows p column +ℤ over_sessions (λ j. paid_in p column (now s j).kept) = g.view p column in
      let sums : over_sessions (λ j. amounts p column (l.txn_of j).kept) ≡ amounts p column (replay_of l).live = sums_reversed l.txn_of (replay_of l).live l.begun l.next t.carried t.apart p column in
      let same_sums : over_sessions (λ j. paid_in p column (now s j).kept) ≡ over_sessions (λ j. amounts p column (l.txn_of j).kept) =
      over_same (λ j. paid_in p column (now s j).kept) (λ j. amounts p column (l.txn_of j).kept)
      (λ j js. amounts_kept p column (now s j).kept ∙ (ap (whats_amounts p column) (sym (t.whats j js)) ∙ sym (amounts_logged p column (l.txn_of j).kept))) in
      omega (arith, ints)

  same_incs : (p : Place) (column i : ℕ) → IsSession i → keeping.increments p column (now s i).kept ≡ incs p column (own (l.txn_of i).id (replay_of l).live)
  same_incs p column i is =
      incs_kept p column (now s i).kept
      ∙ (ap (whats_incs p column) (sym (t.whats i is)) ∙ (sym (incs_logged p column (l.txn_of i).kept) ∙ ap (incs p column) (sym (t.carried.each i is))))

  owned : AreOwned (λ i. (l.txn_of i).id) (replay_of l).live
  owned = record {
    one = λ i j k m d e. by_number (l.txn_of i).id 0
        (λ z. ap (λ a. own a (replay_of l).live) z ∙ t.carried.of_none)
        (λ z. absurd (t.apart.apart i j k m d (omega arith) e));
    none = t.carried.others;
  }

  by_txn : {P : Type 0} (j : ℕ) → ((i : ℕ) → IsSession i → (l.txn_of i).id ≡ j → P) → (own j (replay_of l).live ≡ [] → P) → P
  by_txn j f h = by_owner (λ i. (l.txn_of i).id) j 64 f (λ none. h (t.carried.others j none))

  -- what a transaction touches is touched by its session
  touched_by : (i : ℕ) → IsSession i → (j : ℕ) → (l.txn_of i).id ≡ j → (q : Place) → Touches q (changes_of (own j (replay_of l).live)) → Touches q (changes_by s i)
  touched_by i is j e q u = subst (Touches q) (own_changes i is) (subst (λ a. Touches q (changes_of (own a (replay_of l).live))) (sym e) u)

  can_back : CanBack (committed s).rows (fresh (schema_of s) (committed s).rows) (replay_of l).live s.rows s.view
  can_back = record {
    told = λ j. by_txn j
        (λ i is e. subst (λ a. AreTrue (committed s).rows (changes_of (own a (replay_of l).live))) e (subst (λ cs. AreTrue (committed s).rows cs) (sym (own_changes i is)) (g.stored.told i is)))
        (λ none. subst (λ ys. AreTrue (committed s).rows (changes_of ys)) (sym none) tt);
    apart = λ j k n q a b. by_txn j
        (λ i is e. by_txn k
        (λ m ms f. g.stored.apart i m q is ms (λ same. n (sym e ∙ (ap (λ x. (l.txn_of x).id) same ∙ f))) (touched_by i is j e q a) (touched_by m ms k f q b))
        (λ none. subst (λ ys. Touches q (changes_of ys)) none b))
        (λ none. subst (λ ys. Touches q (changes_of ys)) none a);
    there = λ j q u. by_txn j
        (λ i is e. g.stored.own i q is (touched_by i is j e q u)
        ∙ (ap (λ cs. get (redo cs (committed s).rows) q) (sym (own_changes i is)) ∙ ap (λ a. get (redo (changes_of (own a (replay_of l).live)) (committed s).rows) q) e))
        (λ none. absurd (subst (λ ys. Touches q (changes_of ys)) none u));
    present = present_all s.view (replay_of l).live (λ j. by_txn j
        (λ i is e. subst (λ a. whats_present s.view (whats_of (own a (replay_of l).live))) e
        (subst (whats_present s.view) (sym (t.whats i is) ∙ ap whats_of (sym (t.carried.each i is)))
        (present_kept s.view (now s i).kept (λ p none u. g.present p none i is u))))
        (λ none. subst (λ ys. whats_present s.view (whats_of ys)) (sym none) tt));
    numbers = number_live;
    ranges = ranged (λ i. (l.txn_of i).id) (replay_of l).live (fresh (schema_of s) (committed s).rows)
        (λ p column. subst (λ z. IsHuge (fresh (schema_of s) (committed s).rows p column +ℤ z))
        (over_same (λ j. lo (keeping.increments p column (now s j).kept)) (λ i. lo (incs p column (own (l.txn_of i).id (replay_of l).live))) (λ i is. ap lo (same_incs p column i is))) (g.low p column))
        (λ p column. subst (λ z. IsHuge (fresh (schema_of s) (committed s).rows p column +ℤ z))
        (over_same (λ j. hi (keeping.increments p column (now s j).kept)) (λ i. hi (incs p column (own (l.txn_of i).id (replay_of l).live))) (λ i is. ap hi (same_incs p column i is))) (g.high p column))
        (replay_of l).live (λ p column i. (omega (arith, ints), omega (arith, ints))) owned;
  }

  pub back_now : AllBack (replay_of l).live (replay_of l).db.rows (replay_of l).view
  back_now =
      subst (λ (d : Database). AllBack (replay_of l).live d.rows (replay_of l).view) (sym t.db)
      (subst (λ (v : ViewRows). AllBack (replay_of l).live s.rows v) (sym t.view)
      (all_back (committed s).rows (fresh (schema_of s) (committed s).rows) (replay_of l).live s.rows s.view can_back))

-- ---- what is left taken back leaves rows of views

-- the record is a delta of a view of the schema, or none
abbrev pub IsShaped : Schema → What → Type 0
IsShaped objects (Wrote c) = Unit {0}
IsShaped objects (Added d) = IsDelta objects d

abbrev pub AllWhats : (What → Type 0) → List What → Type 0
AllWhats P [] = Unit {0}
AllWhats P (w ∷ ws) = P w × AllWhats P ws

-- what holds of what each transaction has holds of all
pub of_each : (P : What → Type 0) (xs : List Deed) → ((t : ℕ) → AllWhats P (whats_of (own t xs))) → AllDeeds P xs
of_each P [] h = tt
of_each P (x ∷ xs) h = (
  (subst (λ ys. AllWhats P (whats_of ys)) (own_this x.transaction x xs refl) (h x.transaction)).0,
  of_each P xs (λ t. by_number x.transaction t
      (λ e. (subst (λ ys. AllWhats P (whats_of ys)) (own_this t x xs e) (h t)).1)
      (λ n. subst (λ ys. AllWhats P (whats_of ys)) (own_other t x xs n) (h t))),
)

pub shaped_kept : (objects : Schema) (ks : List KeptStep) → ((d : GroupDelta) → Contains ks (Pay d) → IsDelta objects d) → AllWhats (IsShaped objects) (whats_in ks)
shaped_kept objects [] h = tt
shaped_kept objects (Put c ds ∷ ks) h = (tt, shaped_kept objects ks (λ d u. h d (Contains-append_right (Put c ds ∷ []) ks (Pay d) u)))
shaped_kept objects (Pay x ∷ ks) h = (h x (contains_here (Pay x) ks), shaped_kept objects ks (λ d u. h d (Contains-append_right (Pay x ∷ []) ks (Pay d) u)))

back_stored : (objects : Schema) (xs : List Deed) (view : ViewRows) → AllDeeds (IsShaped objects) xs → AreStored objects view → AreStored objects (all_view_back xs view)
back_stored objects [] view h stored = stored
back_stored objects (x ∷ xs) view h stored = back_stored objects xs (view_without x.what view) h.1 (one x.what h.0)
  where
    one : (w : What) → IsShaped objects w → AreStored objects (view_without w view)
    one (Wrote c) k = stored
    one (Added d) k = add_stored objects view (negated d) stored (negated_is objects d k)

pub shaped_live : (s : Store) (l : Memory) → Holds' s → Tied s l → AllDeeds (IsShaped (schema_of s)) (replay_of l).live
shaped_live s l g t = of_each (IsShaped (schema_of s)) (replay_of l).live (λ j. by_txn s l g t j
    (λ i is e. subst (λ a. AllWhats (IsShaped (schema_of s)) (whats_of (own a (replay_of l).live))) e
    (subst (AllWhats (IsShaped (schema_of s))) (sym (t.whats i is) ∙ ap whats_of (sym (t.carried.each i is)))
    (shaped_kept (schema_of s) (now s i).kept (all_are s g i is).1)))
    (λ none. subst (λ ys. AllWhats (IsShaped (schema_of s)) (whats_of ys)) (sym none) tt))

-- all records written: what is recovered is what is committed
pub right_now : (s : Store) (l : Memory) → Holds' s → Stored' s → Tied s l → l.acknowledged ≤ (committed s).number → Recovers s (reading_of l l.waiting) l.acknowledged
right_now s l g shape t has =
    let st : Stored = replay_of l in
    let p : Pages = recovered (reading_of l l.waiting) in
    let same : (i : ℕ) → IsSession i → changes_of (l.txn_of i).kept ≡ changes_by s i =
    λ i is. changes_logged (l.txn_of i).kept ∙ (ap whats_changes (t.whats i is) ∙ sym (changes_kept (now s i).kept)) in
    let back : all_rows_back st.live s.rows ≡ (committed s).rows = rows_reversed l.txn_of st.live (changes_by s) (committed s).rows s.rows t.carried same g.stored in
    let db_is : p.db ≡ committed s =
    ap (λ (d : Database). record d { rows = all_rows_back st.live d.rows }) t.db ∙ ap (λ (m : Rows). record (committed s) { rows = m }) back in
    let number_is : p.db.number ≡ (committed s).number = ap (λ (d : Database). d.number) db_is in
    let fresh_is : (place : Place) (column : ℕ) → stored_number p.view place column ≡ fresh (schema_of s) (committed s).rows place column =
    λ place column.
    let taken : stored_number p.view place column ≡ stored_number st.view place column -ℤ amounts place column st.live = number_all_back st.live st.view place column in
    let there : stored_number st.view place column ≡ stored_number s.view place column = ap (λ (v : ViewRows). stored_number v place column) t.view in
    let now_is : stored_number s.view place column ≡ fresh (schema_of s) (committed s).rows place column +ℤ over_sessions (λ j. paid_in place column (now s j).kept) = g.view place column in
    let sums : over_sessions (λ j. amounts place column (l.txn_of j).kept) ≡ amounts place column st.live = sums_reversed l.txn_of st.live l.begun l.next t.carried t.apart place column in
    let same_sums : over_sessions (λ j. paid_in place column (now s j).kept) ≡ over_sessions (λ j. amounts place column (l.txn_of j).kept) =
    over_same (λ j. paid_in place column (now s j).kept) (λ j. amounts place column (l.txn_of j).kept)
    (λ j js. amounts_kept place column (now s j).kept ∙ (ap (whats_amounts place column) (sym (t.whats j js)) ∙ sym (amounts_logged place column (l.txn_of j).kept))) in
    omega (arith, ints) in
    let opens : IsOpened (committed s) p.view = record {
      sound = base_sound the_views fresh view_laws (committed s) s g;
      rows = fresh_is;
      stored = back_stored (schema_of s) st.live st.view (shaped_live s l g t) (subst (AreStored (schema_of s)) (sym t.view) shape);
      in_range = λ place column. committed_huge s g place column;
    } in record {
      fits = record { known = t.known; fall = t.fall; records = t.fits; back = back_now s l g t };
      db = db_is ∙ (sym (state_now s.origin s.history g.history) ∙ ap (λ n. state_at s.origin s.history n) (sym number_is));
      has_all = omega arith;
      not_more = omega arith;
      opens = subst (λ (d : Database). IsOpened d p.view) (sym db_is) opens;
    }
