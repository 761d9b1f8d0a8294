-- Transactions that are taken out of the book and put in again.
use Rattle.std.specs.Prelude.{◌≡◌, ◌≢◌, ℕ, zero, suc, ◌+◌, ◌≤◌, ◌<◌, ◌^◌, cond, List, [], ◌∷◌, take, length, get_or, slice_get, slice_set, sum_by, is_some, Option, None, Some}
use Rattle.std.specs.Option.{option_and_then}
use mathlib.Core.Path.{refl, sym, ap, subst, ◌∙◌}
use Rattle.std.proofs.Common.{arith}
use Rattle.std.proofs.lemmas.Option.{slice_get_within, slice_get-get_or}
use Rattle.std.proofs.lemmas.List.Sums.{sum_by-cons, sum_by_more}
use Rattle.table_laws.proofs.Stored.{by_session}
use Rattle.table_laws.proofs.SetPlaces.{set_here, set_elsewhere, set_length}
use Rattle.txn_book.specs.declared.open_table.Open.{Open}
use Rattle.txn_book.specs.Opens.{open_at}
use Rattle.txn_book.specs.Txns.{Txn, txn_of, IsRoomy}
use Rattle.txn_book.specs.Books.{Books, IsBook, IsSame, OfOpen, Seats, Changes, bytes_of, open_bytes, total_bytes, how_many_open, number_of}

-- ---- a place of the list

abbrev Opens : Type 0
Opens = List (Option Open)

-- what stands at a place
pub at_place : (opens : Opens) (i : ℕ) (o : Open) → open_at opens i ≡ Some o → slice_get opens i ≡ Some (Some o)
at_place opens i o is = by (slice_get opens i) refl
  where
    by : (x : Option (Option Open)) → slice_get opens i ≡ x → x ≡ Some (Some o)
    by None e = let f : open_at opens i ≡ None = ap (option_and_then (λ x. x)) e in absurd cc
    by (Some None) e = let f : open_at opens i ≡ None = ap (option_and_then (λ x. x)) e in absurd cc
    by (Some (Some p)) e = ap Some (sym (ap (option_and_then (λ x. x)) e) ∙ is)

pub has_place : (opens : Opens) (i : ℕ) (o : Open) → open_at opens i ≡ Some o → i < length opens
has_place opens i o is = slice_get_within opens i (Some o) (at_place opens i o is)

pub no_place : (opens : Opens) (i : ℕ) → i < length opens → open_at opens i ≡ None → slice_get opens i ≡ Some None
no_place opens i lt is = by (slice_get opens i) refl
  where
    by : (x : Option (Option Open)) → slice_get opens i ≡ x → x ≡ Some None
    by None e = let f : slice_get opens i ≡ Some (get_or opens i None) = slice_get-get_or opens i None lt in absurd cc
    by (Some None) e = refl
    by (Some (Some p)) e = let f : open_at opens i ≡ Some p = ap (option_and_then (λ x. x)) e in absurd cc

pub set_at : (opens : Opens) (i : ℕ) (o : Option Open) → i < length opens → open_at (slice_set opens i o) i ≡ o
set_at opens i o lt = ap (option_and_then (λ x. x)) (set_here opens i o lt)

pub set_other : (opens : Opens) (i j : ℕ) (o : Option Open) → j ≢ i → open_at (slice_set opens i o) j ≡ open_at opens j
set_other opens i j o n = ap (option_and_then (λ x. x)) (set_elsewhere opens i j o n)

pub set_twice : {X : Type 0} (xs : List X) (i : ℕ) (x y : X) → slice_set (slice_set xs i x) i y ≡ slice_set xs i y
set_twice [] i x y = refl
set_twice (z ∷ xs) zero x y = refl
set_twice (z ∷ xs) (suc i) x y = ap (λ ys. z ∷ ys) (set_twice xs i x y)

-- ---- sums

pub sum_set : {X : Type 0} (f : X → ℕ) (xs : List X) (i : ℕ) (x y : X) → slice_get xs i ≡ Some x → sum_by f (slice_set xs i y) + f x ≡ sum_by f xs + f y
sum_set f [] i x y at = absurd cc
sum_set f (z ∷ xs) zero x y at = let same : z ≡ x = cc in omega (arith, sum_by-cons f y xs, sum_by-cons f z xs, ap f same)
sum_set f (z ∷ xs) (suc i) x y at = omega (arith, sum_by-cons f z (slice_set xs i y), sum_by-cons f z xs, sum_set f xs i x y at)

-- of a sum over all places: with one more place
pub opens_more : (f : Option Open → ℕ) (opens : Opens) (i : ℕ) (o : Option Open) → i < length opens → open_at opens i ≡ o → sum_by f (take (i + 1) opens) ≡ sum_by f (take i opens) + f o
opens_more f opens i o lt is = sum_by_more f opens i None lt ∙ ap (λ x. sum_by f (take i opens) + f x) (sym (ap (option_and_then (λ x. x)) (slice_get-get_or opens i None lt)) ∙ is)

pub opens_within : (f : Option Open → ℕ) (opens : Opens) (i : ℕ) → sum_by f (take i opens) ≤ sum_by f opens
opens_within f [] zero = omega arith
opens_within f [] (suc i) = omega arith
opens_within f (o ∷ opens) zero = omega (arith, sum_by-cons f o opens)
opens_within f (o ∷ opens) (suc i) = omega (arith, opens_within f opens i, sum_by-cons f o opens, sum_by-cons f o (take i opens))

pub opens_all : (f : Option Open → ℕ) (opens : Opens) (i : ℕ) → length opens ≤ i → sum_by f (take i opens) ≡ sum_by f opens
opens_all f [] zero le = refl
opens_all f [] (suc i) le = refl
opens_all f (o ∷ opens) zero le = absurd (omega arith)
opens_all f (o ∷ opens) (suc i) le = omega (arith, opens_all f opens i (omega arith), sum_by-cons f o opens, sum_by-cons f o (take i opens))

-- ---- the book

module _ (b : Books) (good : IsBook b) (session : ℕ) (o : Open) (is : open_at b.opens session ≡ Some o) where
  at : slice_get b.opens session ≡ Some (Some o)
  at = at_place b.opens session o is

  pub bytes_left : open_bytes (slice_set b.opens session None) + o.history_bytes ≡ open_bytes b.opens
  bytes_left = let s = sum_set bytes_of b.opens session (Some o) None at in omega (arith, s)

  pub fewer_left : how_many_open (slice_set b.opens session None) + 1 ≡ how_many_open b.opens
  fewer_left = let s = sum_set (λ x. cond (is_some x) 1 0) b.opens session (Some o) None at in omega (arith, s)

  pub roomy_left : (other : ℕ) (p : Open) → open_at (slice_set b.opens session None) other ≡ Some p → IsRoomy p
  roomy_left other p e = by_session other session same (λ n. good.roomy other p (sym (set_other b.opens session other None n) ∙ e))
    where
      same : other ≡ session → IsRoomy p
      same s =
          let gone : open_at (slice_set b.opens session None) other ≡ None = ap (open_at (slice_set b.opens session None)) s ∙ set_at b.opens session None (has_place b.opens session o is) in
          absurd cc

  -- a book without it is one, whatever room for others there is
  pub book_left : (seats : ℕ) → IsBook (record b { opens = slice_set b.opens session None; seats = seats })
  book_left seats = record {
    opened = good.opened;
    places = set_length b.opens session None ∙ good.places;
    roomy = roomy_left;
    fits = omega (arith, bytes_left, good.fits);
    room = omega (arith, fewer_left, good.room);
  }

module _ (b : Books) (good : IsBook b) (session : ℕ) (o : Open) (within : session < 65) (none : open_at b.opens session ≡ None) (roomy : IsRoomy o)
    (fits : total_bytes b + o.history_bytes < 2 ^ 64) (room : how_many_open b.opens + 1 ≤ b.room) where
  inside : session < length b.opens
  inside = omega (arith, good.places, within)

  free : slice_get b.opens session ≡ Some None
  free = no_place b.opens session inside none

  roomy_with : (other : ℕ) (p : Open) → open_at (slice_set b.opens session (Some o)) other ≡ Some p → IsRoomy p
  roomy_with other p e = by_session other session same (λ n. good.roomy other p (sym (set_other b.opens session other (Some o) n) ∙ e))
    where
      same : other ≡ session → IsRoomy p
      same s =
          let here : open_at (slice_set b.opens session (Some o)) other ≡ Some o = ap (open_at (slice_set b.opens session (Some o))) s ∙ set_at b.opens session (Some o) inside in
          let is : o ≡ p = cc in
          subst IsRoomy is roomy

  -- a book with it is one, whatever room for others is left
  pub book_with : (seats : ℕ) → IsBook (record b { opens = slice_set b.opens session (Some o); seats = seats })
  book_with seats = record {
    opened = good.opened;
    places = set_length b.opens session (Some o) ∙ good.places;
    roomy = roomy_with;
    fits = let s = sum_set bytes_of b.opens session None (Some o) free in omega (arith, s, fits);
    room = let s = sum_set (λ x. cond (is_some x) 1 0) b.opens session None (Some o) free in omega (arith, s, room);
  }

-- taken out and put in again
pub changed : (a b c : Books) (session : ℕ) (n : Open) (t : Txn) → Seats a b session None → Seats b c session (Some n) → txn_of n ≡ t → Changes a c session t
changed a b c session n t out back is = record {
  after = n;
  is = is;
  seats = record {
    opens = back.opens ∙ ap (λ os. slice_set os session (Some n)) out.opens ∙ set_twice a.opens session None (Some n);
    opened = back.opened ∙ out.opened;
    history = back.history ∙ out.history;
    entry_bytes = back.entry_bytes ∙ out.entry_bytes;
  };
}

-- what holds of the transaction that was taken, holds of the session's
pub of_taken : (b : Books) (session : ℕ) (o : Open) (P : Open → Type 0) → open_at b.opens session ≡ Some o → P o → OfOpen b session P
of_taken b session o P is p q at = let same : o ≡ q = some_same o q (sym is ∙ at) in subst P same p
  where
    some_same : (x y : Open) → Some x ≡ Some y → x ≡ y
    some_same x y e = cc

-- a transaction that was begun where nothing changed but room
pub begun_so : (a b c d : Books) (session : ℕ) (n : Open) (t : Txn) → IsSame a b → b.opens ≡ c.opens → b.opened ≡ c.opened → b.history ≡ c.history → b.entry_bytes ≡ c.entry_bytes
    → Seats c d session (Some n) → txn_of n ≡ t → Changes a d session t
begun_so a b c d session n t same opens opened history bytes put is = record {
  after = n;
  is = is;
  seats = record {
    opens = put.opens ∙ ap (λ os. slice_set os session (Some n)) (sym opens ∙ same.opens);
    opened = put.opened ∙ sym opened ∙ same.opened;
    history = put.history ∙ sym history ∙ same.history;
    entry_bytes = put.entry_bytes ∙ sym bytes ∙ same.entry_bytes;
  };
}

-- an empty book
pub new_book : (number room seats : ℕ) (opens : List (Option Open)) → number < 2 ^ 63 → length opens ≡ 65 → ((session : ℕ) → open_at opens session ≡ None)
    → IsBook (record { opened = number; opens = opens; history = []; entry_bytes = 0; room = room; seats = seats })
new_book number room seats opens lt places none = record {
  opened = lt;
  places = places;
  roomy = λ session o is. let n = none session in absurd cc;
  fits = omega (arith, no_bytes opens none);
  room = omega (arith, none_counted opens none);
}
  where
    first_none : (x : Option Open) (xs : List (Option Open)) → ((session : ℕ) → open_at (x ∷ xs) session ≡ None) → x ≡ None
    first_none x xs h = h 0

    no_bytes : (xs : List (Option Open)) → ((session : ℕ) → open_at xs session ≡ None) → open_bytes xs ≡ 0
    no_bytes [] h = refl
    no_bytes (x ∷ xs) h = omega (arith, sum_by-cons bytes_of x xs, ap bytes_of (first_none x xs h), no_bytes xs (λ i. h (suc i)))

    none_counted : (xs : List (Option Open)) → ((session : ℕ) → open_at xs session ≡ None) → how_many_open xs ≡ 0
    none_counted [] h = refl
    none_counted (x ∷ xs) h = omega (arith, sum_by-cons (λ y. cond (is_some y) 1 0) x xs, ap {B = ℕ} (λ y. cond (is_some y) 1 0) (first_none x xs h), none_counted xs (λ i. h (suc i)))

pub same_number : (a b : Books) → IsSame a b → number_of b ≡ number_of a
same_number a b same = omega (arith, same.opened, ap length same.history)
