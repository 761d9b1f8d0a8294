-- How many changes of a row are kept, after one session's transaction is another.
use Rattle.std.specs.Prelude.{◌≡◌, ◌≢◌, ◌≤◌, ◌<◌, ◌+◌, ◌*◌, ℕ, zero, suc, true, false, cond, List, [], ◌∷◌, length, Option}
use mathlib.Core.Path.{refl, sym, ap, ◌∙◌}
use mathlib.Core.Logic.{inl, inr}
use Rattle.std.proofs.Common.{arith}
use Rattle.std.specs.Ordering.{eq_by_cmp}
use Rattle.table_laws.specs.Place.{Place, place_cmp}
use Rattle.table_laws.specs.Kept.{Touches}
use Rattle.table_laws.proofs.Place.{place_cmp_total, place_cmp-IsAntisymmetric}
use Rattle.table_laws.proofs.Stored.{by_session}
use Rattle.table_laws.proofs.Tables.{same_key, other_key}
use Rattle.iv_meaning.specs.Escrow.{IsSession}
use Rattle.txn_machine.specs.Locks.{with_one}
use Rattle.txn_machine.specs.Deltas.{RowChange}
use Rattle.txn_machine.specs.Keeping.{Open, changes_of}
use Rattle.txn_machine.specs.Store.{Store, changes_by}
use Rattle.txn_machine.proofs.Basics.{one_same, one_other}
use Rattle.txn_machine.proofs.Good.{the_open}
use Rattle.data_store.specs.Machine.{changes_on, kept_up_to, kept_on}

abbrev pub changes_in : (ℕ → Option Open) → ℕ → List RowChange
changes_in open_of j = changes_of (the_open (open_of j)).kept

-- sessions above the last have no part in it
same_below : (open_of : ℕ → Option Open) (i : ℕ) (o : Option Open) (p : Place) (n : ℕ) → n < i → kept_up_to (changes_in (with_one open_of i o)) p n ≡ kept_up_to (changes_in open_of) p n
same_below open_of i o p zero lt = refl
same_below open_of i o p (suc n) lt =
    let rest : kept_up_to (changes_in (with_one open_of i o)) p n ≡ kept_up_to (changes_in open_of) p n = same_below open_of i o p n (omega (arith, lt)) in
    let other : suc n ≢ i = λ e. omega (arith, lt, e) in
    let here : changes_on p (changes_in (with_one open_of i o) (suc n)) ≡ changes_on p (changes_in open_of (suc n)) = ap (λ (x : Option Open). changes_on p (changes_of (the_open x).kept)) (one_other open_of i o (suc n) other) in
    omega (arith, rest, here)

-- what one session keeps is another number
pub kept_with : (open_of : ℕ → Option Open) (i : ℕ) (o : Option Open) (p : Place) (n : ℕ) → 1 ≤ i → i ≤ n
    → kept_up_to (changes_in (with_one open_of i o)) p n + changes_on p (changes_in open_of i) ≡ kept_up_to (changes_in open_of) p n + changes_on p (changes_of (the_open o).kept)
kept_with open_of i o p zero low high = absurd (omega (arith, low, high))
kept_with open_of i o p (suc n) low high = by_session i (suc n)
    (λ e.
    let rest : kept_up_to (changes_in (with_one open_of i o)) p n ≡ kept_up_to (changes_in open_of) p n = same_below open_of i o p n (omega (arith, e)) in
    let here : changes_on p (changes_in (with_one open_of i o) (suc n)) ≡ changes_on p (changes_of (the_open o).kept) = ap (λ (x : Option Open). changes_on p (changes_of (the_open x).kept)) (one_same open_of i o (suc n) (sym e)) in
    let was : changes_on p (changes_in open_of i) ≡ changes_on p (changes_in open_of (suc n)) = ap (λ j. changes_on p (changes_in open_of j)) e in
    omega (arith, rest, here, was))
    (λ ne.
    let rest : kept_up_to (changes_in (with_one open_of i o)) p n + changes_on p (changes_in open_of i) ≡ kept_up_to (changes_in open_of) p n + changes_on p (changes_of (the_open o).kept) = kept_with open_of i o p n low (omega (arith, high, ne)) in
    let here : changes_on p (changes_in (with_one open_of i o) (suc n)) ≡ changes_on p (changes_in open_of (suc n)) = ap (λ (x : Option Open). changes_on p (changes_of (the_open x).kept)) (one_other open_of i o (suc n) (λ e. ne (sym e))) in
    omega (arith, rest, here))

-- of a store: after a session's transaction is another
pub kept_after : (s : Store) (i : ℕ) (o : Option Open) (p : Place) → IsSession i
    → kept_up_to (changes_in (with_one s.open_of i o)) p 64 + changes_on p (changes_by s i) ≡ kept_on s p + changes_on p (changes_of (the_open o).kept)
kept_after s i o p is = kept_with s.open_of i o p 64 is.0 is.1

-- no more than so many times the most of one session
pub kept_few : (changes : ℕ → List RowChange) (p : Place) (most n : ℕ) → ((j : ℕ) → 1 ≤ j → j ≤ n → length (changes j) ≤ most) → kept_up_to changes p n ≤ most * n
kept_few changes p most zero each = omega arith
kept_few changes p most (suc n) each =
    let rest : kept_up_to changes p n ≤ most * n = kept_few changes p most n (λ j low high. each j low (omega (arith, high))) in
    let here = on_few p (changes (suc n)) in
    let few = each (suc n) (omega arith) (omega arith) in
    omega (arith, rest, here, few)
  where
    on_few : (p : Place) (cs : List RowChange) → changes_on p cs ≤ length cs
    on_few p [] = omega arith
    on_few p (c ∷ cs) = elim (eq_by_cmp place_cmp p c.key) as (λ b. cond b 1 0 + changes_on p cs ≤ suc (length cs)) [ true ↦ omega (arith, on_few p cs) | false ↦ omega (arith, on_few p cs) ]

-- ---- one change

pub on_itself : (c : RowChange) (cs : List RowChange) → changes_on c.key (c ∷ cs) ≡ suc (changes_on c.key cs)
on_itself c cs = ap (λ b. cond b 1 0 + changes_on c.key cs) (same_key place_cmp_total place_cmp-IsAntisymmetric c.key c.key refl) ∙ omega arith

pub on_other : (p : Place) (c : RowChange) (cs : List RowChange) → eq_by_cmp place_cmp p c.key ≡ false → changes_on p (c ∷ cs) ≡ changes_on p cs
on_other p c cs n = ap (λ b. cond b 1 0 + changes_on p cs) n ∙ omega arith

pub on_key : (p : Place) (c : RowChange) (cs : List RowChange) → eq_by_cmp place_cmp p c.key ≡ true → changes_on p (c ∷ cs) ≡ suc (changes_on p cs)
on_key p c cs n = ap (λ b. cond b 1 0 + changes_on p cs) n ∙ omega arith

-- ---- rows that nobody changes

pub untouched_on : (p : Place) (cs : List RowChange) → (Touches p cs → ⊥) → changes_on p cs ≡ 0
untouched_on p [] h = refl
untouched_on p (c ∷ cs) h =
    on_other p c cs (other_key place_cmp_total place_cmp-IsAntisymmetric p c.key (λ e. h (inl e))) ∙ untouched_on p cs (λ t. h (inr t))

-- all are kept by one session, if only that one changes the row
pub kept_alone : (changes : ℕ → List RowChange) (i : ℕ) (p : Place) (n : ℕ) → 1 ≤ i → i ≤ n → ((j : ℕ) → 1 ≤ j → j ≤ n → j ≢ i → Touches p (changes j) → ⊥) → kept_up_to changes p n ≡ changes_on p (changes i)
kept_alone changes i p zero low high alone = absurd (omega (arith, low, high))
kept_alone changes i p (suc n) low high alone = by_session i (suc n)
    (λ e.
    let rest : kept_up_to changes p n ≡ 0 = none_below n (λ j a b. alone j a (omega (arith, b)) (λ f. omega (arith, b, e, f))) in
    let same : changes_on p (changes (suc n)) ≡ changes_on p (changes i) = ap (λ j. changes_on p (changes j)) (sym e) in
    omega (arith, rest, same))
    (λ ne.
    let rest : kept_up_to changes p n ≡ changes_on p (changes i) = kept_alone changes i p n low (omega (arith, high, ne)) (λ j a b. alone j a (omega (arith, b))) in
    let none : changes_on p (changes (suc n)) ≡ 0 = untouched_on p (changes (suc n)) (alone (suc n) (omega arith) (omega arith) (λ e. ne (sym e))) in
    omega (arith, rest, none))
  where
    none_below : (m : ℕ) → ((j : ℕ) → 1 ≤ j → j ≤ m → Touches p (changes j) → ⊥) → kept_up_to changes p m ≡ 0
    none_below zero h = refl
    none_below (suc m) h =
        let rest : kept_up_to changes p m ≡ 0 = none_below m (λ j a b. h j a (omega (arith, b))) in
        let here : changes_on p (changes (suc m)) ≡ 0 = untouched_on p (changes (suc m)) (h (suc m) (omega arith) (omega arith)) in
        omega (arith, rest, here)
