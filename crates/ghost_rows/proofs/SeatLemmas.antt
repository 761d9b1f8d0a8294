-- Where sessions have room.
use Rattle.std.specs.Prelude.{◌≡◌, ◌≢◌, ℕ, zero, suc, Bool, true, false, cond, ℤ, pos, List, [], ◌∷◌, ◌++◌, get_or, slice_set, length, ◌<◌, Option, Some, None, IsSome, ◌⊎◌}
use mathlib.Core.Path.{refl, sym, ap, subst, ◌∙◌}
use mathlib.Core.Logic.{inl, inr}
use Rattle.std.proofs.Common.{arith}
use Rattle.std.proofs.lemmas.Bool.{true≢false}
use Rattle.std.specs.List.{Contains}
use Rattle.std.proofs.lemmas.List.{get_or-set_same, get_or-set_other}
use Rattle.std.proofs.lemmas.List.Elements.{Contains-append_left, Contains-append_right, Contains-append_cases}
use Rattle.std.specs.FinMap.{get}
use Rattle.table_laws.specs.Place.{Place}
use Rattle.table_laws.proofs.Stored.{by_session}
use Rattle.escrow_bounds.proofs.PartLemmas.{self_tie}
use Rattle.ghost_rows.specs.declared.shares.Share.{Share}
use Rattle.ghost_rows.specs.Shares.{sum_at}
use Rattle.ghost_rows.specs.Rows.{OpenRow, OpenRows, row_at, HasRoom, ChangesRow, IsSeated, AreOpen, AreSeated, GivesRoom, IsSettledAt, IsLeftAt, AreSettled, settled_row, settled_at, is_open, left_open}
use Rattle.ghost_rows.specs.Candidates.{Places, IsAmong}
use Rattle.ghost_rows.specs.Kept.{IsAsBefore, Keeps}
use Rattle.ghost_rows.proofs.ShareLemmas.{no_some, remove_same, remove_other, others}
use Rattle.ghost_rows.proofs.RowLemmas.{settled_some, settled_none}
use Rattle.ghost_rows.proofs.TableLemmas.{by_place, some_same, not_some, settled_here, left_open_row, left_shut_row}

pub no_room : (session : ℕ) → IsSome (sum_at [] session) → ⊥
no_room session e = true≢false (sym e)

-- a row is open where a session has room in it
open_list : (l : List Share) (session : ℕ) → IsSome (sum_at l session) → elim l [ [] ↦ false | s ∷ shares ↦ true ] ≡ true
open_list [] session h = absurd (no_room session h)
open_list (x ∷ xs) session h = refl

pub open_with : (row : OpenRow) (session : ℕ) → HasRoom session row → is_open row ≡ true
open_with row session h = open_list row.shares session h

with_list : (l : List Share) → elim l [ [] ↦ false | s ∷ shares ↦ true ] ≡ true → (session : ℕ) × IsSome (sum_at l session)
with_list [] h = absurd (true≢false (sym h))
with_list (x ∷ xs) h = (x.session, ap (λ b. is_some_if b) (self_tie x.session))
  where
    is_some_if : Bool → Bool
    is_some_if b = elim (cond b (Some x.sum) (sum_at xs x.session)) [ None ↦ false | Some y ↦ true ]

pub with_open : (row : OpenRow) → is_open row ≡ true → (session : ℕ) × HasRoom session row
with_open row h = with_list row.shares h

same_row : (rows : OpenRows) (place : Place) (a b : OpenRow) → row_at rows place ≡ Some a → row_at rows place ≡ Some b → a ≡ b
same_row rows place a b x y = some_same a b (sym x ∙ y)

-- ---- room is given at a place

pub gives_opened : (session : ℕ) (place : Place) (row : OpenRow) (old new : OpenRows) → row_at old place ≡ None → ChangesRow place row old new → HasRoom session row
    → ((other : ℕ) → other ≢ session → HasRoom other row → ⊥) → GivesRoom session place old new
gives_opened session place row old new none changes room only = record {
  others = changes.others;
  room = λ s seated. absurd (let no : Some seated.0 ≡ None = sym seated.1 ∙ none in cc);
  only = λ s n seated. absurd (only s n (subst (HasRoom s) (same_row new place seated.0 row seated.1 changes.here) seated.2));
  still = λ open_before q r is. by_place q place
      (λ k. subst (λ x. is_open x ≡ true) (same_row new place row r changes.here (ap (row_at new) (sym k) ∙ is)) (open_with row session room))
      (λ n. open_before q r (sym (changes.others q n) ∙ is));
}

pub gives_kept : (session : ℕ) (place : Place) (row after : OpenRow) (old new : OpenRows) → row_at old place ≡ Some row → ChangesRow place after old new → Keeps session row after → GivesRoom session place old new
gives_kept session place row after old new there changes keeps = record {
  others = changes.others;
  room = λ s seated. (after, changes.here, keeps.room s (subst (HasRoom s) (same_row old place seated.0 row seated.1 there) seated.2));
  only = λ s n seated. (row, there, keeps.only s n (subst (HasRoom s) (same_row new place seated.0 after seated.1 changes.here) seated.2));
  still = λ open_before q r is. by_place q place
      (λ k.
      let before = with_open row (open_before place row there) in
      subst (λ x. is_open x ≡ true) (same_row new place after r changes.here (ap (row_at new) (sym k) ∙ is)) (open_with after before.0 (keeps.room before.0 before.1)))
      (λ n. open_before q r (sym (changes.others q n) ∙ is));
}

-- ---- a session ends

-- of these places those that are left are not settled yet
abbrev pub AreSettling : ℕ → List Place → List Place → OpenRows → OpenRows → Places → Places → Type 0
AreSettling session places left old now before after =
    (q : Place) → IsSettledAt session q old now before after ⊎ IsLeftAt q old now before after × (Contains places q → Contains left q)

not_in_none : (q : Place) → Contains [] q → ⊥
not_in_none q has = absurd (omega (arith, has.1))

the_one : (p q : Place) → Contains (p ∷ []) q → p ≡ q
the_one p q (zero, lt, e) = e
the_one p q (suc k, lt, e) = absurd (omega (arith, lt))

pub settling_begun : (session : ℕ) (places : List Place) (rows : OpenRows) (candidates : Places) → AreSettling session places places rows rows candidates candidates
settling_begun session places rows candidates q = inr (record { row = refl; candidate = refl }, λ in_. in_)

pub unseated : (session : ℕ) (row : OpenRow) → sum_at (settled_row session row).shares session ≡ None
unseated session row = by_sum (sum_at row.shares session) refl
  where
    by_sum : (o : Option ℤ) → sum_at row.shares session ≡ o → sum_at (settled_row session row).shares session ≡ None
    by_sum None e = ap (λ (r : OpenRow). sum_at r.shares session) (settled_none session row e) ∙ e
    by_sum (Some sum) e = ap (λ (r : OpenRow). sum_at r.shares session) (settled_some session row sum e) ∙ remove_same row.shares session

-- a row that is settled again stays
settled_twice : (session : ℕ) (o : Option OpenRow) → settled_at session (settled_at session o) ≡ settled_at session o
settled_twice session None = refl
settled_twice session (Some row) = by_open (is_open (settled_row session row)) refl
  where
    by_open : (b : Bool) → is_open (settled_row session row) ≡ b → settled_at session (settled_at session (Some row)) ≡ settled_at session (Some row)
    by_open true e =
        let stays : settled_at session (Some row) ≡ Some (settled_row session row) = left_open_row (settled_row session row) e in
        ap (settled_at session) stays ∙ ap (λ r. left_open (Some r)) (settled_none session (settled_row session row) (unseated session row))
    by_open false e =
        let goes : settled_at session (Some row) ≡ None = left_shut_row (settled_row session row) e in
        ap (settled_at session) goes ∙ sym goes

-- a step at a place, behind nothing and behind another
module _ (session : ℕ) (p : Place) (old now next : OpenRows) (before mid after : Places) (step : IsSettledAt session p now next mid after) where
  settled_first : IsLeftAt p old now before mid → IsSettledAt session p old next before after
  settled_first same = record {
    row = step.row ∙ ap (settled_at session) same.row;
    ghost = λ row there no_count. step.ghost row (same.row ∙ there) no_count;
    other = λ none. step.other (same.row ∙ none) ∙ same.candidate;
  }

  settled_again : IsSettledAt session p old now before mid → IsSettledAt session p old next before after
  settled_again done = record {
    row = step.row ∙ (ap (settled_at session) done.row ∙ settled_twice session (row_at old p));
    ghost = λ row there no_count. by_open row there no_count (is_open (settled_row session row)) refl;
    other = λ none. step.other (done.row ∙ ap (settled_at session) none) ∙ done.other none;
  }
    where
      by_open : (row : OpenRow) → row_at old p ≡ Some row → (settled_row session row).committed ≡ pos 0 → (b : Bool) → is_open (settled_row session row) ≡ b → IsAmong after p
      by_open row there no_count true is =
          let here : row_at now p ≡ Some (settled_row session row) = done.row ∙ (settled_here session (row_at old p) row there ∙ left_open_row (settled_row session row) is) in
          step.ghost (settled_row session row) here (ap (λ (r : OpenRow). r.committed) (settled_none session (settled_row session row) (unseated session row)) ∙ no_count)
      by_open row there no_count false is =
          let gone : row_at now p ≡ None = done.row ∙ (settled_here session (row_at old p) row there ∙ left_shut_row (settled_row session row) is) in
          subst IsSome (sym (step.other gone)) (done.ghost row there no_count)

pub settling_more : (session : ℕ) (places left rest : List Place) (p : Place) (old now next : OpenRows) (before mid after : Places) → left ≡ rest ++ p ∷ [] → AreSettling session places left old now before mid
    → IsSettledAt session p now next mid after → ((q : Place) → q ≢ p → row_at next q ≡ row_at now q) → ((q : Place) → q ≢ p → get after q ≡ get mid q) → AreSettling session places rest old next before after
settling_more session places left rest p old now next before mid after split settling step others others_too q = by_place q p
    (λ k. inl (subst (λ x. IsSettledAt session x old next before after) (sym k) (elim (settling p) [
      | inl done ↦ settled_again session p old now next before mid after step done
      | inr same ↦ settled_first session p old now next before mid after step same.0
    ])))
    (λ n. elim (settling q) [
      | inl done ↦ inl (record { row = others q n ∙ done.row; ghost = λ row there no_count. subst IsSome (sym (others_too q n)) (done.ghost row there no_count); other = λ none. others_too q n ∙ done.other none })
      | inr same ↦ inr (record { row = others q n ∙ same.0.row; candidate = others_too q n ∙ same.0.candidate }, λ in_. in_rest n (subst (λ l. Contains l q) split (same.1 in_)))
    ])
  where
    in_rest : q ≢ p → Contains (rest ++ p ∷ []) q → Contains rest q
    in_rest n has = elim (Contains-append_cases rest (p ∷ []) q has) [
      | inl first ↦ first
      | inr last ↦ absurd (n (sym (the_one p q last)))
    ]

pub settling_done : (session : ℕ) (places left : List Place) (old now : OpenRows) (before after : Places) → left ≡ [] → AreSettling session places left old now before after → AreSettled session places old now before after
settling_done session places left old now before after none settling q = elim (settling q) [
  | inl done ↦ inl done
  | inr same ↦ inr (same.0, λ in_. not_in_none q (subst (λ l. Contains l q) none (same.1 in_)))
]

-- what a row that stays was before
pub settled_from : (session : ℕ) (o : Option OpenRow) (r : OpenRow) → settled_at session o ≡ Some r → (row : OpenRow) × (o ≡ Some row) × (r ≡ settled_row session row) × (is_open r ≡ true)
settled_from session None r e = absurd (let no : Some r ≡ None = sym e in cc)
settled_from session (Some row) r e = by_open (is_open (settled_row session row)) refl
  where
    by_open : (b : Bool) → is_open (settled_row session row) ≡ b → (x : OpenRow) × (Some row ≡ Some x) × (r ≡ settled_row session x) × (is_open r ≡ true)
    by_open true is =
        let same : settled_row session row ≡ r = some_same (settled_row session row) r (sym (left_open_row (settled_row session row) is) ∙ e) in
        (row, refl, sym same, subst (λ x. is_open x ≡ true) same is)
    by_open false is = absurd (let no : Some r ≡ None = sym e ∙ left_shut_row (settled_row session row) is in cc)

room_before : (session other : ℕ) (row : OpenRow) → other ≢ session → HasRoom other (settled_row session row) → HasRoom other row
room_before session other row n has = by_sum (sum_at row.shares session) refl
  where
    by_sum : (o : Option ℤ) → sum_at row.shares session ≡ o → HasRoom other row
    by_sum None e = subst (HasRoom other) (settled_none session row e) has
    by_sum (Some sum) e = subst IsSome (remove_other row.shares session other n) (subst (HasRoom other) (settled_some session row sum e) has)

module _ (session : ℕ) (places : List Place) (old new : OpenRows) (before after : Places) (open_before : AreOpen old) (seated : (q : Place) → IsSeated old q session → Contains places q) (settled : AreSettled session places old new before after) where
  untouched : (q : Place) (o : Option OpenRow) → row_at old q ≡ o → (Contains places q → ⊥) → o ≡ settled_at session o
  untouched q None e out = refl
  untouched q (Some row) e out =
      let none : sum_at row.shares session ≡ None = not_some (sum_at row.shares session) (λ some. out (seated q (row, e, some))) in
      sym (ap (λ r. left_open (Some r)) (settled_none session row none) ∙ left_open_row row (open_before q row e))

  pub settled_all : (q : Place) → row_at new q ≡ settled_at session (row_at old q)
  settled_all q = elim (settled q) [
    | inl done ↦ done.row
    | inr same ↦ same.0.row ∙ untouched q (row_at old q) refl same.1
  ]

  pub settled_open : AreOpen new
  settled_open q r is = (settled_from session (row_at old q) r (sym (settled_all q) ∙ is)).3

  pub settled_seated : (lists : List (List Place)) (none : List Place) → AreSeated old lists → AreSeated new (slice_set lists session none)
  settled_seated lists none at_first s q h =
      let was = settled_from session (row_at old q) h.0 (sym (settled_all q) ∙ h.1) in
      let has : HasRoom s (settled_row session was.0) = subst (HasRoom s) was.2 h.2 in
      by_session s session
      (λ e. absurd (no_some (subst IsSome (ap (sum_at (settled_row session was.0).shares) e ∙ unseated session was.0) has)))
      (λ n. subst (λ l. Contains l q) (sym (get_or-set_other lists session s none [] n)) (at_first s q (was.0, was.1, room_before session s was.0 n has)))

-- ---- the lists

-- behind a call that leaves each session's room as it was
module _ (place : Place) (row after : OpenRow) (old new : OpenRows) (there : row_at old place ≡ Some row) (changes : ChangesRow place after old new) (same : IsAsBefore row after) where
  pub still_open : AreOpen old → AreOpen new
  still_open open_before q r is = by_place q place
      (λ k.
      let before = with_open row (open_before place row there) in
      subst (λ x. is_open x ≡ true) (same_row new place after r changes.here (ap (row_at new) (sym k) ∙ is)) (open_with after before.0 (same.room before.0 before.1)))
      (λ n. open_before q r (sym (changes.others q n) ∙ is))

  pub still_seated : (seats : List (List Place)) → AreSeated old seats → AreSeated new seats
  still_seated seats seated s q at = by_place q place
      (λ k.
      let here : row_at new place ≡ Some at.0 = ap (row_at new) (sym k) ∙ at.1 in
      seated s q (row, ap (row_at old) k ∙ there, same.only s (subst (HasRoom s) (same_row new place at.0 after here changes.here) at.2)))
      (λ n. seated s q (at.0, sym (changes.others q n) ∙ at.1, at.2))

-- behind one that leaves each row as it was
pub same_open : (old new : OpenRows) → ((q : Place) → row_at new q ≡ row_at old q) → AreOpen old → AreOpen new
same_open old new same open_before q r is = open_before q r (sym (same q) ∙ is)

pub same_seated : (old new : OpenRows) (seats : List (List Place)) → ((q : Place) → row_at new q ≡ row_at old q) → AreSeated old seats → AreSeated new seats
same_seated old new seats same seated s q at = seated s q (at.0, sym (same q) ∙ at.1, at.2)

pub none_open : (rows : OpenRows) → ((q : Place) → row_at rows q ≡ None) → AreOpen rows
none_open rows none q r is = absurd (let no : Some r ≡ None = sym is ∙ none q in cc)

pub none_seated : (rows : OpenRows) (seats : List (List Place)) → ((q : Place) → row_at rows q ≡ None) → AreSeated rows seats
none_seated rows seats none s q at = absurd (let no : Some at.0 ≡ None = sym at.1 ∙ none q in cc)

-- ---- the lists as they are changed

module _ (lists : List (List Place)) (s : ℕ) (within : s < length lists) where
  -- a place is added to one
  pub seated_more : (place : Place) (rows : OpenRows) → AreSeated rows lists → AreSeated rows (slice_set lists s (get_or lists s [] ++ place ∷ []))
  seated_more place rows seated q at h = by_session q s
      (λ e. subst (λ l. Contains l at) (sym (ap (λ k. get_or (slice_set lists s (get_or lists s [] ++ place ∷ [])) k []) e ∙ get_or-set_same lists s (get_or lists s [] ++ place ∷ []) [] within))
      (Contains-append_left (get_or lists s []) (place ∷ []) at (subst (λ k. Contains (get_or lists k []) at) e (seated q at h))))
      (λ n. subst (λ l. Contains l at) (sym (get_or-set_other lists s q (get_or lists s [] ++ place ∷ []) [] n)) (seated q at h))

  -- and the session has room there
  pub seated_given : (place : Place) (old new : OpenRows) → GivesRoom s place old new → AreSeated old lists → AreSeated new (slice_set lists s (get_or lists s [] ++ place ∷ []))
  seated_given place old new gives seated q at h = by_place at place
      (λ k. by_session q s
      (λ e. subst (λ l. Contains l at) (sym (ap (λ j. get_or (slice_set lists s (get_or lists s [] ++ place ∷ [])) j []) e ∙ get_or-set_same lists s (get_or lists s [] ++ place ∷ []) [] within))
      (Contains-append_right (get_or lists s []) (place ∷ []) at (subst (λ p. Contains (place ∷ []) p) (sym k) (0, omega arith, refl))))
      (λ n. seated_more place old seated q at (subst (λ p. IsSeated old p q) (sym k) (gives.only q n (subst (λ p. IsSeated new p q) k h)))))
      (λ n. seated_more place old seated q at (h.0, sym (gives.others at n) ∙ h.1, h.2))
