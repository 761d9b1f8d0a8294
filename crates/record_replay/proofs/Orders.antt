-- What is left, taken one after another, the latest first.
use Rattle.std.proofs.Common.{◌≡◌, ℕ, ◌<◌, ◌≤◌, cond, List, [], ◌∷◌, ◌++◌, Option, Some, None, refl, sym, ap, subst, ◌∙◌, arith, eq-eqb, inl, inr}
use Rattle.std.specs.Prelude.{◌≢◌, ◌==◌, IsSome}
use Rattle.std.specs.Option.{option_map}
use Rattle.std.proofs.lemmas.Bool.{ne_eqb}
use Rattle.iv_types.specs.Maps.{Map}
use Rattle.txn_log.specs.Replay.{Deed, Stored, find, rows_without, view_without}
use Rattle.txn_log.specs.Fitting.{AllDeeds, IsKnown, CarriedBelow, DoNumbersFall, BackFits}
use Rattle.txn_log.specs.Refused.{Placed, place_by, BackBreaks}
use Rattle.txn_log.specs.Reversals.{BreaksBack}
use Rattle.txn_log.proofs.Finding.{by_number, by_sought, find_this, find_later}
use Rattle.data_store.specs.declared.store.DataStore.{DataStore}
use Rattle.image_finding.specs.declared.fault.BadImage.{BadImage}
use Rattle.live_records.specs.declared.kept.LiveRecords.{LiveRecords}
use Rattle.live_records.specs.declared.kept.OrderedRecords.{OrderedRecords}
use Rattle.live_records.specs.declared.record.LiveRecord.{LiveRecord}
use Rattle.live_records.specs.Live.{what_of, deed_of, kept_at, record_at, HasAll}
use Rattle.record_replay.specs.Past.{Past, left_by}
use Rattle.record_replay.specs.Standing.{Keeps, HasReplayed}
use Rattle.record_replay.specs.declared.replay.Replay.{Replay}
use Rattle.record_replay.specs.Reversing.{numbered, AreLeft, CanReverse}
use Rattle.record_replay.specs.Telling.{TellsBack, TellsReversed}
use Rattle.record_replay.specs.declared.answer.Replayed.{Replayed}
use Rattle.record_replay.specs.declared.answer.Replayed.TheVariants.{Passed, Broken}
use Rattle.record_replay.proofs.Lists.{same_deed, nothing, found_below}
use Rattle.record_replay.proofs.Live.{by_option, is_found, no_record}

-- ---- by numbers alone

number_this : (n : ℕ) (x : Deed) (xs : List Deed) → n ≡ x.number → numbered n (x ∷ xs) ≡ Some x
number_this n x xs e = ap (λ b. cond b (Some x) (numbered n xs)) (eq-eqb n x.number e)

number_later : (n : ℕ) (x : Deed) (xs : List Deed) → n ≢ x.number → numbered n (x ∷ xs) ≡ numbered n xs
number_later n x xs d = ap (λ b. cond b (Some x) (numbered n xs)) (ne_eqb n x.number d)

numbered_below : (b n : ℕ) (xs : List Deed) (d : Deed) → CarriedBelow b xs → numbered n xs ≡ Some d → n < b
numbered_below b n [] d h e = nothing d e
numbered_below b n (x ∷ xs) d h e = by_number n x.number
    (λ i. subst (λ m. m < b) (sym i) h.0)
    (λ k. numbered_below b n xs d h.1 (sym (number_later n x xs k) ∙ e))

none_numbered : (b n : ℕ) (xs : List Deed) → CarriedBelow b xs → b ≤ n → numbered n xs ≡ None
none_numbered b n [] h l = refl
none_numbered b n (x ∷ xs) h l = by_number n x.number
    (λ i. let less : x.number < b = h.0 in absurd (omega (arith, less, i, l)))
    (λ k. number_later n x xs k ∙ none_numbered b n xs h.1 l)

numbered_of : (t n : ℕ) (xs : List Deed) (d : Deed) → DoNumbersFall xs → find t n xs ≡ Some d → numbered n xs ≡ Some d
numbered_of t n [] d fall e = nothing d e
numbered_of t n (x ∷ xs) d fall e = by_sought t n x
    (λ a b. number_this n x xs b ∙ (sym (find_this t n x xs a b) ∙ e))
    (λ k.
    let later : find t n xs ≡ Some d = sym (find_later t n x xs k) ∙ e in
    let less : n < x.number = found_below x.number t n xs d fall.0 later in
    number_later n x xs (λ i. absurd (omega (arith, less, i))) ∙ numbered_of t n xs d fall.1 later)

find_of : (n : ℕ) (xs : List Deed) (d : Deed) → numbered n xs ≡ Some d → find d.transaction n xs ≡ Some d
find_of n [] d e = nothing d e
find_of n (x ∷ xs) d e = by_number n x.number
    (λ i.
    let same : x ≡ d = same_deed x d (sym (number_this n x xs i) ∙ e) in
    find_this d.transaction n x xs (ap (λ (y : Deed). y.transaction) (sym same)) i ∙ ap Some same)
    (λ k.
    let rest : find d.transaction n xs ≡ Some d = find_of n xs d (sym (number_later n x xs k) ∙ e) in
    by_sought d.transaction n x
    (λ a b. absurd (k b))
    (λ other. find_later d.transaction n x xs other ∙ rest))

-- ---- all of them in order

some_back : (o : Option LiveRecord) (d : Deed) → option_map deed_of o ≡ Some d → (q : LiveRecord) × (o ≡ Some q) × (deed_of q ≡ d)
some_back None d e = nothing d e
some_back (Some q) d e = (q, refl, same_deed (deed_of q) d e)

by_deed : {P : Type 0} (o : Option Deed) → (o ≡ None → P) → ((d : Deed) → o ≡ Some d → P) → P
by_deed None f g = f refl
by_deed (Some d) f g = g d refl

pub in_order : (live : LiveRecords) (left : OrderedRecords) (rs : List Placed) (xs : List Deed) → Keeps live rs xs → DoNumbersFall xs → HasAll live left → AreLeft left rs xs
in_order live left rs xs keeps fall all = record {
  same = λ n. by_option (record_at left n)
      (λ e. by_deed (numbered n xs)
      (λ f. ap (option_map deed_of) e ∙ sym f)
      (λ d f.
      let back = some_back (kept_at live d.transaction n) d (keeps.same d.transaction n ∙ find_of n xs d f) in
      let its : kept_at live back.0.transaction n ≡ Some back.0 = subst (λ t. kept_at live t n ≡ Some back.0) (ap (λ (y : Deed). y.transaction) (sym back.2)) back.1 in
      no_record back.0 (sym e ∙ (all n back.0).1 its)))
      (λ q e.
      let found : find q.transaction n xs ≡ Some (deed_of q) = is_found live rs xs keeps q.transaction n q ((all n q).0 e) in
      ap (option_map deed_of) e ∙ sym (numbered_of q.transaction n xs (deed_of q) fall found));
  places = λ n q e. keeps.places q.transaction n q ((all n q).0 e);
}

-- the latest is the first of the list
module _ (left new : OrderedRecords) (rs : List Placed) (q : LiveRecord) (most : (n : ℕ) → IsSome (record_at left n) → n ≤ q.number) (was : record_at left q.number ≡ Some q)
    (taken : (n : ℕ) → record_at new n ≡ cond (n == q.number) None (record_at left n)) where
  pub pop_first : (xs : List Deed) → DoNumbersFall xs → AreLeft left rs xs → (rest : List Deed) × (xs ≡ deed_of q ∷ rest) × AreLeft new rs rest
  pop_first [] fall are = nothing (deed_of q) (sym (sym (ap (option_map deed_of) was) ∙ are.same q.number))
  pop_first (x ∷ rest) fall are =
      let its : numbered q.number (x ∷ rest) ≡ Some (deed_of q) = sym (are.same q.number) ∙ ap (option_map deed_of) was in
      let back = some_back (record_at left x.number) x (are.same x.number ∙ number_this x.number x rest refl) in
      let at_most : x.number ≤ q.number = most x.number (subst IsSome (sym back.1) refl) in
      by_number q.number x.number
      (λ i.
      let same : x ≡ deed_of q = same_deed x (deed_of q) (sym (number_this q.number x rest i) ∙ its) in
      (rest, ap (λ (y : Deed). y ∷ rest) same, left_behind x rest fall are i))
      (λ k.
      let less : q.number < x.number = numbered_below x.number q.number rest (deed_of q) fall.0 (sym (number_later q.number x rest k) ∙ its) in
      absurd (omega (arith, less, at_most)))
    where
      left_behind : (x : Deed) (rest : List Deed) → DoNumbersFall (x ∷ rest) → AreLeft left rs (x ∷ rest) → q.number ≡ x.number → AreLeft new rs rest
      left_behind x rest fall are i = record {
        same = λ n. by_number n q.number
            (λ e. ap (option_map deed_of) (taken n ∙ ap (λ b. cond b None (record_at left n)) (eq-eqb n q.number e))
            ∙ sym (none_numbered x.number n rest fall.0 (omega (arith, e, i))))
            (λ d. ap (option_map deed_of) (taken n ∙ ap (λ b. cond b None (record_at left n)) (ne_eqb n q.number d))
            ∙ (are.same n ∙ number_later n x rest (λ e. d (e ∙ sym i))));
        places = λ n p e. by_number n q.number
            (λ s. no_record p (sym (taken n ∙ ap (λ b. cond b None (record_at left n)) (eq-eqb n q.number s)) ∙ e))
            (λ d. are.places n p (sym (taken n ∙ ap (λ b. cond b None (record_at left n)) (ne_eqb n q.number d)) ∙ e));
      }

pub none_left : (left : OrderedRecords) (rs : List Placed) (xs : List Deed) → AreLeft left rs xs → ((n : ℕ) → record_at left n ≡ None) → xs ≡ []
none_left left rs [] are none = refl
none_left left rs (x ∷ xs) are none = nothing x (sym (ap (option_map deed_of) (none x.number)) ∙ (are.same x.number ∙ number_this x.number x xs refl))

-- ---- one taken back, and then the others

pub rest_on : {M : Type 0} (a b c : DataStore M) → b ≡ record a { tables = b.tables; views = b.views } → c ≡ record b { tables = c.tables; views = c.views } → c ≡ record a { tables = c.tables; views = c.views }
rest_on {M = M} a b c h k = k ∙ ap (λ (d : DataStore M). record d { tables = c.tables; views = c.views }) h

module _ {M : Type 0} (maps : M → ℕ → Map) (limit : M → Option ℕ) where
  -- what is left when the first was taken back
  abbrev pub rest_of : Stored → Deed → List Deed → Stored
  rest_of s x rest = record { db = record s.db { rows = rows_without x.what s.db.rows }; view = view_without x.what s.view; live = rest }

  tells_first : (new : DataStore M) (rs : List Placed) (s : Stored) (x : Deed) (rest : List Deed) → s.live ≡ x ∷ rest → BackFits s.db.rows s.view x.what
      → (answer : Replayed) → TellsReversed maps limit new rs (rest_of s x rest) answer → TellsReversed maps limit new rs s answer
  tells_first new rs s x rest is back answer told =
      subst (λ (t : Stored). TellsReversed maps limit new rs t answer) (λ i. record { db = s.db; view = s.view; live = sym is i }) (with answer told)
    where
      with : (answer : Replayed) → TellsReversed maps limit new rs (rest_of s x rest) answer → TellsReversed maps limit new rs (record { db = s.db; view = s.view; live = x ∷ rest }) answer
      with Passed h = ((back, h.0), h.1)
      with (Broken bad) h = inr (back, h)

  breaks_first : (new : DataStore M) (rs : List Placed) (s : Stored) (x : Deed) (rest : List Deed) → s.live ≡ x ∷ rest → (bad : BadImage) → bad.place ≡ place_by x.number rs
      → BreaksBack bad.rule s.db.rows s.view x.what → TellsReversed maps limit new rs s (Broken bad)
  breaks_first new rs s x rest is bad place breaks =
      subst (λ (xs : List Deed). BackBreaks (λ n. place_by n rs) xs s.db.rows s.view bad.rule bad.place) (sym is) (inl (place, breaks))

  -- a loop over them: what is answered of those that are left is answered of all
  pub record GoesOn (now : DataStore M) (left_now : OrderedRecords) (rs : List Placed) (s : Stored) : Type 0 where
    pub state : Stored
    pub can : CanReverse maps limit now left_now rs state
    pub tells : (new : DataStore M) (answer : Replayed) → TellsReversed maps limit new rs state answer → TellsReversed maps limit new rs s answer

  module _ (store after : DataStore M) (left new : OrderedRecords) (rs : List Placed) (s : Stored) (can : CanReverse maps limit store left rs s)
      (q : LiveRecord) (most : (n : ℕ) → IsSome (record_at left n) → n ≤ q.number) (was : record_at left q.number ≡ Some q)
      (taken : (n : ℕ) → record_at new n ≡ cond (n == q.number) None (record_at left n)) where
    popped : (rest : List Deed) × (s.live ≡ deed_of q ∷ rest) × AreLeft new rs rest
    popped = pop_first left new rs q most was taken s.live can.fall can.left

    pub its_known : IsKnown s.db.schema (what_of q.change)
    its_known = (subst (AllDeeds (IsKnown s.db.schema)) popped.1 can.known).0

    -- the first is taken back
    pub one_back : TellsBack maps limit after q s Passed → GoesOn after new rs s
    one_back told = record {
      state = rest_of s (deed_of q) popped.0;
      can = record {
        has = told.1;
        left = popped.2;
        known = (subst (AllDeeds (IsKnown s.db.schema)) popped.1 can.known).1;
        fall = (subst DoNumbersFall popped.1 can.fall).1;
      };
      tells = λ n answer h. tells_first n rs s (deed_of q) popped.0 popped.1 told.0 answer h;
    }

    -- or it is not
    pub one_breaks : (bad : BadImage) → TellsBack maps limit after q s (Broken bad) → TellsReversed maps limit after rs s (Broken bad)
    one_breaks bad told = breaks_first after rs s (deed_of q) popped.0 popped.1 bad (told.0 ∙ can.left.places q.number q was) told.1

    -- the answer is not that it was
    pub one_told : (answer : Replayed) → (answer ≡ Passed → ⊥) → TellsBack maps limit after q s answer → TellsReversed maps limit after rs s answer
    one_told Passed none told = absurd (none refl)
    one_told (Broken bad) none told = one_breaks bad told

  pub all_back : (store : DataStore M) (left : OrderedRecords) (rs : List Placed) (s : Stored) → CanReverse maps limit store left rs s → ((n : ℕ) → record_at left n ≡ None) → TellsReversed maps limit store rs s Passed
  all_back store left rs s can none =
      let is : s.live ≡ [] = none_left left rs s.live can.left none in
      subst (λ (t : Stored). TellsReversed maps limit store rs t Passed) (λ i. record { db = s.db; view = s.view; live = sym is i }) (tt, can.has)

  -- at the start all are left
  pub goes_first : (store : DataStore M) (left : OrderedRecords) (rs : List Placed) (s : Stored) → CanReverse maps limit store left rs s → GoesOn store left rs s
  goes_first store left rs s can = record { state = s; can = can; tells = λ new answer h. h }

  -- one more
  pub goes_on : (store after : DataStore M) (left new : OrderedRecords) (rs : List Placed) (s : Stored) (on : GoesOn store left rs s) → GoesOn after new rs on.state → GoesOn after new rs s
  goes_on store after left new rs s on more = record { state = more.state; can = more.can; tells = λ n answer h. on.tells n answer (more.tells n answer h) }

  -- what transactions keep after some records
  pub can_reverse : (r : Replay M) (x : Past) (left : OrderedRecords) → HasReplayed maps limit r x → HasAll r.live left → CanReverse maps limit r.store left (x.after ++ x.first) (left_by x)
  can_reverse r x left h all = record {
    has = h.store;
    left = in_order r.live left (x.after ++ x.first) (left_by x).live h.kept h.live.fall all;
    known = h.live.known;
    fall = h.live.fall;
  }
