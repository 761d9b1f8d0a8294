-- The row in memory and the stored row, together.
use Rattle.std.specs.Prelude.{replicate, ◌≡◌, ◌≢◌, ℕ, zero, suc, ◌*◌, ◌<◌, Bool, true, false, cond, ℤ, pos, List, [], ◌∷◌, length, Option, Some, None, IsSome, IfSome, is_some}
use mathlib.Core.Path.{refl, sym, ap, subst, ◌∙◌}
use Rattle.std.proofs.Common.{arith, Bor}
use Rattle.std.proofs.lemmas.Bool.{true≢false}
use Rattle.std.specs.Option.{option_copied}
use Rattle.std.specs.List.{AllByRecursion}
use Rattle.std.specs.FinMap.{get, insert, remove}
use Rattle.std.specs.Cmp.Lexicographic.{nat_list_cmp_total}
use Rattle.iv_types.specs.declared.lock.GroupDelta.{GroupDelta}
use Rattle.iv_types.specs.declared.lock.Prefix.{Prefix}
use Rattle.iv_types.specs.Maps.{Map}
use Rattle.table_laws.specs.Place.{Place}
use Rattle.table_laws.proofs.Tables.{get-write_same, get-write_other}
use Rattle.table_laws.proofs.Stored.{by_session}
use Rattle.table_store.proofs.Maps.{bytes_same}
use Rattle.ghost_rows.specs.Numbers.{numbers_bytes, moved, Fits128}
use Rattle.ghost_rows.specs.Shares.{sum_at}
use Rattle.iv_meaning.specs.Escrow.{IsSession}
use Rattle.ghost_rows.specs.declared.shares.Share.{Share}
use Rattle.ghost_rows.specs.Rows.{OpenRow, OpenRows, row_at, HasRoom, IsSeated, ChangesRow, settled_row, settled_at, left_open}
use Rattle.ghost_rows.specs.Kept.{Pays, with_pays, width, HasNumbers, RowStands, StandsFor, IsPaid, IsTaken, ArePrefixes, Refuses, IsRefusedAt, committed_at, Keeps, no_pays}
use Rattle.txn_machine.specs.Deltas.{place_of}
use Rattle.ghost_rows.specs.State.{State, HasSeat, stored_at, Stores}
use Rattle.ghost_rows.proofs.NumberSteps.{length_numbers}
use Rattle.ghost_rows.proofs.RowLemmas.{moved_many, numbers_huge, huge_fit, pays_here, pays_other, settled_stands, committed_fits}

-- a row that stays where it has shares
abbrev left_as : OpenRow → List Share → Option OpenRow
left_as row l = cond (elim l [ [] ↦ false | x ∷ xs ↦ true ]) (Some row) None

pub some_of : {A : Type 0} (o : Option A) → IsSome o → (x : A) × (o ≡ Some x)
some_of None h = absurd (true≢false (sym h))
some_of (Some x) h = (x, refl)

pub some_there : {A : Type 0} (o : Option A) → (o ≡ None → ⊥) → IsSome o
some_there None f = absurd (f refl)
some_there (Some x) f = refl

pub not_both : {A : Type 0} (o : Option A) (x : A) → o ≡ Some x → o ≡ None → ⊥
not_both o x a b = let e : Some x ≡ None = sym a ∙ b in cc

pub stored_is : (stored : Option (List ℕ)) (numbers : List ℤ) → (stored ≡ None → ⊥) → IfSome stored (λ b. b ≡ numbers_bytes numbers) → stored ≡ Some (numbers_bytes numbers)
stored_is None numbers there is = absurd (there refl)
stored_is (Some b) numbers there is = ap Some is

pub row_of : (o : Option OpenRow) (row : OpenRow) (numbers : List ℤ) (pays : Pays) → o ≡ Some row → IfSome o (λ r. RowStands r numbers pays) → RowStands row numbers pays
row_of o row numbers pays e st = subst (λ p. IfSome p (λ r. RowStands r numbers pays)) e st

-- the row and its stored value, both moved
pub moved_state : (back : Bool) (d : GroupDelta) (rows : OpenRows) (place : Place) (stored : Option (List ℕ)) (after : OpenRow) (numbers : List ℤ) (pays : Pays) → length numbers ≡ width d
    → row_at rows place ≡ Some after → RowStands after (moved back 0 numbers d) pays → stored ≡ Some (numbers_bytes (moved back 0 numbers d)) → StandsFor (row_at rows place) stored (width d) pays
moved_state back d rows place stored after numbers pays many there st is = record {
  numbers = moved back 0 numbers d;
  has = record {
    many = moved_many back 0 numbers d ∙ many;
    huge = numbers_huge after (moved back 0 numbers d) pays st;
    bytes = subst (λ o. IfSome o (λ b. b ≡ numbers_bytes (moved back 0 numbers d))) (sym is) refl;
    zeros = λ none. absurd (not_both stored (numbers_bytes (moved back 0 numbers d)) is none);
  };
  row = subst (λ o. IfSome o (λ r. RowStands r (moved back 0 numbers d) pays)) (sym there) st;
  closed = λ none. absurd (not_both (row_at rows place) after there none);
  absent = λ none. absurd (not_both stored (numbers_bytes (moved back 0 numbers d)) is none);
}

-- what is asked before a value is stored
abbrev pub CanMove : Bool → GroupDelta → Option (List ℕ) → Type 0
CanMove back d stored = (numbers : List ℤ) × (stored ≡ Some (numbers_bytes numbers)) × (length numbers ≡ width d) × Fits128 numbers × Fits128 (moved back 0 numbers d)

pub paid_can : (d : GroupDelta) (s : ℕ) (before : List Prefix) (o : Option OpenRow) (stored : Option (List ℕ)) (row after : OpenRow) (pays : Pays) → o ≡ Some row → StandsFor o stored (width d) pays
    → (stored ≡ None → ⊥) → IsPaid s d before row after → CanMove false d stored
paid_can d s before o stored row after pays there st some paid = (
  st.numbers,
  stored_is stored st.numbers some st.has.bytes,
  st.has.many,
  huge_fit st.numbers st.has.huge,
  huge_fit (moved false 0 st.numbers d) (numbers_huge after (moved false 0 st.numbers d) (with_pays pays s (d ∷ pays s)) (paid.stands st.numbers pays (row_of o row st.numbers pays there st.row))),
)

pub paid_state : (d : GroupDelta) (s : ℕ) (before : List Prefix) (rows new : OpenRows) (place : Place) (stored next : Option (List ℕ)) (row after : OpenRow) (pays : Pays) → row_at rows place ≡ Some row
    → StandsFor (row_at rows place) stored (width d) pays → (stored ≡ None → ⊥) → ChangesRow place after rows new → IsPaid s d before row after
    → ((numbers : List ℤ) → stored ≡ Some (numbers_bytes numbers) → Fits128 numbers → Fits128 (moved false 0 numbers d) → next ≡ Some (numbers_bytes (moved false 0 numbers d)))
    → StandsFor (row_at new place) next (width d) (with_pays pays s (d ∷ pays s))
unfolding paid_can
paid_state d s before rows new place stored next row after pays there st some changes paid is =
    let can = paid_can d s before (row_at rows place) stored row after pays there st some paid in
    moved_state false d new place next after st.numbers (with_pays pays s (d ∷ pays s)) st.has.many changes.here
    (paid.stands st.numbers pays (row_of (row_at rows place) row st.numbers pays there st.row)) (is st.numbers can.1 can.3 can.4)

-- the row is stored with the delta added
pub paid_stores : (d : GroupDelta) (s : ℕ) (before : List Prefix) (o : Option OpenRow) (maps new : ℕ → Map) (place : Place) (row after : OpenRow) (pays : Pays) (st : StandsFor o (stored_at maps place) (width d) pays) → o ≡ Some row
    → (stored_at maps place ≡ None → ⊥) → IsPaid s d before row after
    → ((numbers : List ℤ) → stored_at maps place ≡ Some (numbers_bytes numbers) → Fits128 numbers → Fits128 (moved false 0 numbers d) → stored_at new place ≡ Some (numbers_bytes (moved false 0 numbers d)))
    → Stores new place (moved false 0 st.numbers d)
unfolding paid_can
paid_stores d s before o maps new place row after pays st there some paid is =
    let can = paid_can d s before o (stored_at maps place) row after pays there st some paid in
    record { bytes = is st.numbers can.1 can.3 can.4; fit = can.4 }

pub paid_here : (pays : Pays) (s : ℕ) (d : GroupDelta) (earlier : List GroupDelta) (stored : Option (List ℕ)) → pays s ≡ d ∷ earlier → (stored ≡ None → (q : ℕ) → pays q ≡ []) → stored ≡ None → ⊥
paid_here pays s d earlier stored latest absent none = let e : d ∷ earlier ≡ [] = sym latest ∙ absent none s in cc

pub taken_can : (d : GroupDelta) (s : ℕ) (before : List Prefix) (o : Option OpenRow) (stored : Option (List ℕ)) (row after : OpenRow) (pays : Pays) (earlier : List GroupDelta) → o ≡ Some row → StandsFor o stored (width d) pays
    → pays s ≡ d ∷ earlier → ArePrefixes before (width d) earlier → IsTaken s d before row after → CanMove true d stored
taken_can d s before o stored row after pays earlier there st latest prefixes taken = (
  st.numbers,
  stored_is stored st.numbers (paid_here pays s d earlier stored latest st.absent) st.has.bytes,
  st.has.many,
  huge_fit st.numbers st.has.huge,
  huge_fit (moved true 0 st.numbers d) (numbers_huge after (moved true 0 st.numbers d) (with_pays pays s earlier)
      (taken.stands st.numbers pays earlier (row_of o row st.numbers pays there st.row) latest (subst (λ n. ArePrefixes before n earlier) (sym st.has.many) prefixes))),
)

pub taken_state : (d : GroupDelta) (s : ℕ) (before : List Prefix) (rows new : OpenRows) (place : Place) (stored next : Option (List ℕ)) (row after : OpenRow) (pays : Pays) (earlier : List GroupDelta) → row_at rows place ≡ Some row
    → StandsFor (row_at rows place) stored (width d) pays → pays s ≡ d ∷ earlier → ArePrefixes before (width d) earlier → ChangesRow place after rows new → IsTaken s d before row after
    → ((numbers : List ℤ) → stored ≡ Some (numbers_bytes numbers) → Fits128 numbers → Fits128 (moved true 0 numbers d) → next ≡ Some (numbers_bytes (moved true 0 numbers d)))
    → StandsFor (row_at new place) next (width d) (with_pays pays s earlier)
unfolding taken_can
taken_state d s before rows new place stored next row after pays earlier there st latest prefixes changes taken is =
    let can = taken_can d s before (row_at rows place) stored row after pays earlier there st latest prefixes taken in
    moved_state true d new place next after st.numbers (with_pays pays s earlier) st.has.many changes.here
    (taken.stands st.numbers pays earlier (row_of (row_at rows place) row st.numbers pays there st.row) latest (subst (λ n. ArePrefixes before n earlier) (sym st.has.many) prefixes))
    (is st.numbers can.1 can.3 can.4)

-- the row is stored with the delta taken back
pub taken_stores : (d : GroupDelta) (s : ℕ) (before : List Prefix) (o : Option OpenRow) (maps new : ℕ → Map) (place : Place) (row after : OpenRow) (pays : Pays) (earlier : List GroupDelta)
    (st : StandsFor o (stored_at maps place) (width d) pays) → o ≡ Some row → pays s ≡ d ∷ earlier → ArePrefixes before (width d) earlier → IsTaken s d before row after
    → ((numbers : List ℤ) → stored_at maps place ≡ Some (numbers_bytes numbers) → Fits128 numbers → Fits128 (moved true 0 numbers d) → stored_at new place ≡ Some (numbers_bytes (moved true 0 numbers d)))
    → Stores new place (moved true 0 st.numbers d)
unfolding taken_can
taken_stores d s before o maps new place row after pays earlier st there latest prefixes taken is =
    let can = taken_can d s before o (stored_at maps place) row after pays earlier there st latest prefixes taken in
    record { bytes = is st.numbers can.1 can.3 can.4; fit = can.4 }

-- the row in memory of a session with kept pays
pub row_there : (o : Option OpenRow) (stored : Option (List ℕ)) (w : ℕ) (pays : Pays) (s : ℕ) (d : GroupDelta) (earlier : List GroupDelta) → StandsFor o stored w pays → pays s ≡ d ∷ earlier → IsSome o
row_there None stored w pays s d earlier st latest = absurd (let e : d ∷ earlier ≡ [] = sym latest ∙ st.closed refl s in cc)
row_there (Some row) stored w pays s d earlier st latest = refl

-- ---- seats

pub seated_is : (state : State) (place : Place) (s : ℕ) → HasSeat state place s → IsSeated state.rows place s
seated_is state place s has = let there = some_of (row_at state.rows place) has.1 in (there.0, there.1, subst (λ o. IfSome o (HasRoom s)) there.1 has.0)

pub seat_of : (rows : OpenRows) (place : Place) (s : ℕ) → IsSeated rows place s → IfSome (row_at rows place) (HasRoom s) × IsSome (row_at rows place)
seat_of rows place s seated = (subst (λ o. IfSome o (HasRoom s)) (sym seated.1) seated.2, subst IsSome (sym seated.1) refl)

-- ---- maps

pub value_length : (stored : Option (List ℕ)) (b : List ℕ) (numbers : List ℤ) (w : ℕ) → Some b ≡ stored → stored ≡ Some (numbers_bytes numbers) → length numbers ≡ w → length b ≡ 16 * w
value_length stored b numbers w a e many =
    let same : Some b ≡ Some (numbers_bytes numbers) = a ∙ e in
    let is : b ≡ numbers_bytes numbers = cc in
    ap length is ∙ (length_numbers numbers ∙ ap (λ n. 16 * n) many)

pub stored_here : (maps new : ℕ → Map) (place : Place) (value : List ℕ) → new place.0 ≡ insert (maps place.0) place.1 value → stored_at new place ≡ Some value
stored_here maps new place value e = ap (λ (m : Map). get m place.1) e ∙ get-write_same nat_list_cmp_total bytes_same (maps place.0) place.1 (Some value)

pub stored_elsewhere : (maps new : ℕ → Map) (place q : Place) (value : List ℕ) → new place.0 ≡ insert (maps place.0) place.1 value → ((i : ℕ) → i ≢ place.0 → new i ≡ maps i) → q ≢ place → stored_at new q ≡ stored_at maps q
stored_elsewhere maps new place q value e others n = by_session q.0 place.0
    (λ same.
    let other : q.1 ≢ place.1 = λ k. n (λ i. (same i, k i)) in
    subst (λ j. get (new j) q.1 ≡ get (maps j) q.1) (sym same)
    (ap (λ (m : Map). get m q.1) e ∙ get-write_other nat_list_cmp_total bytes_same (maps place.0) place.1 (Some value) q.1 other))
    (λ far. ap (λ (m : Map). get m q.1) (others q.0 far))

pub stored_gone : (maps new : ℕ → Map) (place : Place) → new place.0 ≡ remove (maps place.0) place.1 → stored_at new place ≡ None
stored_gone maps new place e = ap (λ (m : Map). get m place.1) e ∙ get-write_same nat_list_cmp_total bytes_same (maps place.0) place.1 None

pub stored_away : (maps new : ℕ → Map) (place q : Place) → new place.0 ≡ remove (maps place.0) place.1 → ((i : ℕ) → i ≢ place.0 → new i ≡ maps i) → q ≢ place → stored_at new q ≡ stored_at maps q
stored_away maps new place q e others n = by_session q.0 place.0
    (λ same.
    let other : q.1 ≢ place.1 = λ k. n (λ i. (same i, k i)) in
    subst (λ j. get (new j) q.1 ≡ get (maps j) q.1) (sym same)
    (ap (λ (m : Map). get m q.1) e ∙ get-write_other nat_list_cmp_total bytes_same (maps place.0) place.1 None q.1 other))
    (λ far. ap (λ (m : Map). get m q.1) (others q.0 far))

pub copied_some : (o : Option (Bor (List ℕ))) (stored : Option (List ℕ)) → option_copied o ≡ stored → is_some o ≡ true → stored ≡ None → ⊥
copied_some None stored e h none = true≢false (sym h)
copied_some (Some b) stored e h none = let no : Some b.now ≡ None = e ∙ none in cc

-- what a call on the rows told, at the place of a delta
pub told_at : (inside rows new : OpenRows) (d : GroupDelta) (group : List ℕ) (s : ℕ) (before : List Prefix) (row : OpenRow) → inside ≡ rows → group ≡ d.group
    → ((r : OpenRow) → row_at inside (d.view, group) ≡ Some r → (after : OpenRow) × ChangesRow (d.view, group) after inside new × IsPaid s d before r after)
    → row_at rows (place_of d) ≡ Some row → (after : OpenRow) × ChangesRow (place_of d) after rows new × IsPaid s d before row after
told_at inside rows new d group s before row i e f there =
    subst (λ (l : OpenRows). (r : OpenRow) → row_at l (place_of d) ≡ Some r → (after : OpenRow) × ChangesRow (place_of d) after l new × IsPaid s d before r after) i
    (subst (λ (k : List ℕ). (r : OpenRow) → row_at inside (d.view, k) ≡ Some r → (after : OpenRow) × ChangesRow (d.view, k) after inside new × IsPaid s d before r after) e f) row there

pub taken_at : (inside rows new : OpenRows) (d : GroupDelta) (group : List ℕ) (s : ℕ) (before : List Prefix) (row : OpenRow) → inside ≡ rows → group ≡ d.group
    → ((r : OpenRow) → row_at inside (d.view, group) ≡ Some r → (after : OpenRow) × ChangesRow (d.view, group) after inside new × IsTaken s d before r after)
    → row_at rows (place_of d) ≡ Some row → (after : OpenRow) × ChangesRow (place_of d) after rows new × IsTaken s d before row after
taken_at inside rows new d group s before row i e f there =
    subst (λ (l : OpenRows). (r : OpenRow) → row_at l (place_of d) ≡ Some r → (after : OpenRow) × ChangesRow (place_of d) after l new × IsTaken s d before r after) i
    (subst (λ (k : List ℕ). (r : OpenRow) → row_at inside (d.view, k) ≡ Some r → (after : OpenRow) × ChangesRow (d.view, k) after inside new × IsTaken s d before r after) e f) row there

pub refusal_at : (inside rows : OpenRows) (d : GroupDelta) (group : List ℕ) (s : ℕ) (row : OpenRow) (at : ℕ) (low high : ℤ) → inside ≡ rows → group ≡ d.group
    → ((r : OpenRow) → row_at inside (d.view, group) ≡ Some r → Refuses s d r at low high) → row_at rows (place_of d) ≡ Some row → Refuses s d row at low high
refusal_at inside rows d group s row at low high i e f there =
    f row (ap (λ (k : List ℕ). row_at inside (d.view, k)) e ∙ (ap (λ (l : OpenRows). row_at l (place_of d)) i ∙ there))

pub refusal_as : (row : OpenRow) (pays : Pays) (s : ℕ) (d : GroupDelta) (at : ℕ) (low' high' low high : ℤ) → low' ≡ low → high' ≡ high → IsRefusedAt (committed_at row) pays s d at low high → IsRefusedAt (committed_at row) pays s d at low' high'
refusal_as row pays s d at low' high' low high l h is = subst (λ n. IsRefusedAt (committed_at row) pays s d at n high') (sym l) (subst (λ n. IsRefusedAt (committed_at row) pays s d at low n) (sym h) is)

-- ---- a session ends

pub settled_state : (s : ℕ) (o new : Option OpenRow) (stored : Option (List ℕ)) (many : ℕ) (pays : Pays) → IsSession s → new ≡ settled_at s o → StandsFor o stored (suc many) pays → StandsFor new stored (suc many) (with_pays pays s [])
settled_state s o new stored many pays session e st = subst (λ p. StandsFor p stored (suc many) (with_pays pays s [])) (sym e) (by_row o st)
  where
    gone : (q : ℕ) → pays q ≡ [] → with_pays pays s [] q ≡ []
    gone q none = by_session q s (λ same. ap (with_pays pays s []) same ∙ pays_here pays s []) (λ other. pays_other pays s [] q other ∙ none)

    by_row : (p : Option OpenRow) → StandsFor p stored (suc many) pays → StandsFor (settled_at s p) stored (suc many) (with_pays pays s [])
    by_row None h = record { numbers = h.numbers; has = h.has; row = tt; closed = λ e q. gone q (h.closed refl q); absent = λ e q. gone q (h.absent e q) }
    by_row (Some row) h =
        let some : 0 < length h.numbers = omega (arith, h.has.many) in
        let after : RowStands (settled_row s row) h.numbers (with_pays pays s []) = settled_stands s row h.numbers pays session (committed_fits row h.numbers pays h.row some) h.row in
        by_shares (settled_row s row).shares refl after h
      where
        by_shares : (l : List Share) → (settled_row s row).shares ≡ l → RowStands (settled_row s row) h.numbers (with_pays pays s []) → StandsFor (Some row) stored (suc many) pays
            → StandsFor (left_open (Some (settled_row s row))) stored (suc many) (with_pays pays s [])
        by_shares [] is after k =
            let shut : left_open (Some (settled_row s row)) ≡ None = ap (left_as (settled_row s row)) is in
            subst (λ p. StandsFor p stored (suc many) (with_pays pays s [])) (sym shut)
            (record { numbers = h.numbers; has = h.has; row = tt; closed = λ e q. after.unpaid q (ap (λ x. sum_at x q) is); absent = λ e q. gone q (h.absent e q) })
        by_shares (x ∷ xs) is after k =
            let open_still : left_open (Some (settled_row s row)) ≡ Some (settled_row s row) = ap (left_as (settled_row s row)) is in
            subst (λ p. StandsFor p stored (suc many) (with_pays pays s [])) (sym open_still)
            (record { numbers = h.numbers; has = h.has; row = after; closed = λ e. absurd (let no : Some (settled_row s row) ≡ None = e in cc); absent = λ e q. gone q (h.absent e q) })

-- ---- room is made

pub has_bytes : (stored : Option (List ℕ)) (b : List ℕ) (w : ℕ) (numbers : List ℤ) → Some b ≡ stored → HasNumbers stored w numbers → b ≡ numbers_bytes numbers
has_bytes stored b w numbers e has = subst (λ o. IfSome o (λ x. x ≡ numbers_bytes numbers)) (sym e) has.bytes

pub has_length : (stored : Option (List ℕ)) (b : List ℕ) (w : ℕ) (numbers : List ℤ) → Some b ≡ stored → HasNumbers stored w numbers → length b ≡ 16 * w
has_length stored b w numbers e has = ap length (has_bytes stored b w numbers e has) ∙ (length_numbers numbers ∙ ap (λ n. 16 * n) has.many)

pub all_zeros : (numbers : List ℤ) (n : ℕ) → length numbers ≡ n → AllByRecursion (λ z. z ≡ pos 0) numbers → replicate n (pos 0) ≡ numbers
all_zeros [] zero e z = refl
all_zeros [] (suc n) e z = absurd (omega (arith, e))
all_zeros (x ∷ xs) zero e z = absurd (omega (arith, e))
all_zeros (x ∷ xs) (suc n) e z = let rest : replicate n (pos 0) ≡ xs = all_zeros xs n (omega (arith, e)) z.1 in λ i. (sym z.0 i) ∷ rest i

pub opened_state : (rows new : OpenRows) (place : Place) (stored : Option (List ℕ)) (w : ℕ) (row : OpenRow) (found : List ℤ) (pays : Pays) → row_at rows place ≡ None → ChangesRow place row rows new
    → RowStands row found no_pays → ((numbers : List ℤ) → HasNumbers stored w numbers → found ≡ numbers) → StandsFor (row_at rows place) stored w pays → StandsFor (row_at new place) stored w pays
opened_state rows new place stored w row found pays none changes st is kept =
    let nothing : no_pays ≡ pays = λ i s. sym (kept.closed none s) i in
    let stands : RowStands row kept.numbers pays = subst (RowStands row kept.numbers) nothing (subst (λ ns. RowStands row ns no_pays) (is kept.numbers kept.has) st) in
    record {
      numbers = kept.numbers;
      has = kept.has;
      row = subst (λ o. IfSome o (λ r. RowStands r kept.numbers pays)) (sym changes.here) stands;
      closed = λ e. absurd (not_both (row_at new place) row changes.here e);
      absent = kept.absent;
    }

pub kept_state : (rows new : OpenRows) (place : Place) (stored : Option (List ℕ)) (w : ℕ) (s : ℕ) (row after : OpenRow) (pays : Pays) → row_at rows place ≡ Some row → ChangesRow place after rows new → Keeps s row after
    → StandsFor (row_at rows place) stored w pays → StandsFor (row_at new place) stored w pays
kept_state rows new place stored w s row after pays there changes keeps kept = record {
  numbers = kept.numbers;
  has = kept.has;
  row = subst (λ o. IfSome o (λ r. RowStands r kept.numbers pays)) (sym changes.here) (keeps.stands kept.numbers pays (row_of (row_at rows place) row kept.numbers pays there kept.row));
  closed = λ e. absurd (not_both (row_at new place) after changes.here e);
  absent = kept.absent;
}

pub not_there : {A : Type 0} (o : Option A) → (IsSome o → ⊥) → o ≡ None
not_there None f = refl
not_there (Some x) f = absurd (f refl)

pub copied_none : (o : Option (Bor OpenRow)) (r : Option OpenRow) → option_copied o ≡ r → is_some o ≡ false → r ≡ None
copied_none None r e h = sym e
copied_none (Some b) r e h = absurd (true≢false h)

pub copied_there : (o : Option (Bor OpenRow)) (r : Option OpenRow) → option_copied o ≡ r → is_some o ≡ true → IsSome r
copied_there None r e h = absurd (true≢false (sym h))
copied_there (Some b) r e h = subst IsSome e refl

-- what a call that gives room told, at the place of a delta
pub given_at : (rows new : OpenRows) (d : GroupDelta) (group : List ℕ) (s : ℕ) (row : OpenRow) → group ≡ d.group
    → ((r : OpenRow) → row_at rows (d.view, group) ≡ Some r → (after : OpenRow) × ChangesRow (d.view, group) after rows new × Keeps s r after)
    → row_at rows (place_of d) ≡ Some row → (after : OpenRow) × ChangesRow (place_of d) after rows new × Keeps s row after
given_at rows new d group s row e f there =
    subst (λ (k : List ℕ). (r : OpenRow) → row_at rows (d.view, k) ≡ Some r → (after : OpenRow) × ChangesRow (d.view, k) after rows new × Keeps s r after) e f row there

pub changed_as : (inside rows new : OpenRows) (d : GroupDelta) (group : List ℕ) (row : OpenRow) → inside ≡ rows → group ≡ d.group → ChangesRow (d.view, group) row inside new → ChangesRow (place_of d) row rows new
changed_as inside rows new d group row i e changes =
    subst (λ (l : OpenRows). ChangesRow (place_of d) row l new) i (subst (λ (k : List ℕ). ChangesRow (d.view, k) row inside new) e changes)
