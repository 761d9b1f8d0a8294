-- Transactions that are put into a slab and taken out of it.
use Rattle.std.specs.Prelude.{◌≡◌, ◌≢◌, ℕ, zero, suc, ◌<◌, List, [], ◌∷◌, ◌++◌, map, length, get_or, slice_get, slice_set, Option, None, Some, IsSome}
use mathlib.Core.Path.{refl, sym, ap, subst, ◌∙◌}
use Rattle.std.proofs.Common.{arith}
use Rattle.std.proofs.lemmas.Option.{slice_get_within, slice_get-map, slice_get-get_or}
use Rattle.std.specs.Option.{option_map, option_and_then}
use Rattle.slab.specs.Slab.{Slab, get, Updates}
use Rattle.table_laws.proofs.Stored.{by_session}
use Rattle.table_laws.proofs.SetPlaces.{set_here, set_elsewhere, map_set}
use Rattle.txn_book.specs.declared.open_table.Open.{Open}
use Rattle.txn_book.specs.Opens.{at_key, open_at, AreSeated}

not_there : IsSome {T = Open} None → ⊥
not_there some = absurd cc

-- nobody has a key
abbrev pub AreFree : List (Option ℕ) → Type 0
AreFree seats = (i : ℕ) (s : Option ℕ) → slice_get seats i ≡ Some s → s ≡ None

pub one_more_free : (seats : List (Option ℕ)) → AreFree seats → AreFree (seats ++ None ∷ [])
one_more_free [] free zero s at = sym (some_same None s at)
  where
    some_same : (a b : Option ℕ) → Some a ≡ Some b → a ≡ b
    some_same a b e = cc
one_more_free [] free (suc i) s at = absurd cc
one_more_free (x ∷ seats) free zero s at = free zero s at
one_more_free (x ∷ seats) free (suc i) s at = one_more_free seats (λ j t h. free (suc j) t h) i s at

-- then no transaction is open
pub none_open : (slab : Slab Open) (seats : List (Option ℕ)) → AreFree seats → (i : ℕ) → open_at (map (at_key slab) seats) i ≡ None
none_open slab [] free i = refl
none_open slab (None ∷ seats) free zero = refl
none_open slab (Some k ∷ seats) free zero = let e = free 0 (Some k) refl in absurd cc
none_open slab (x ∷ seats) free (suc i) = none_open slab seats (λ j t h. free (suc j) t h) i

-- none is seated where nobody is
pub none_seated : (slab : Slab Open) (seats : List (Option ℕ)) → AreFree seats → AreSeated slab seats
none_seated slab seats none = record {
  there = λ i key at. absurd (not_some key (none i (Some key) at));
  apart = λ i j key at other. absurd (not_some key (none i (Some key) at));
}
  where
    not_some : (key : ℕ) → Some key ≡ None → ⊥
    not_some key e = absurd cc

module _ (slab after : Slab Open) (seats : List (Option ℕ)) (seated : AreSeated slab seats) (i key : ℕ) where
  -- who has a key after a seat was left, had it before, and it is another one
  module _ (here : slice_get seats i ≡ Some (Some key)) (left : Updates slab after key None) where
    still : (j k : ℕ) → slice_get (slice_set seats i None) j ≡ Some (Some k) → (slice_get seats j ≡ Some (Some k)) × (k ≢ key)
    still j k at = by_session j i same other
      where
        same : j ≡ i → (slice_get seats j ≡ Some (Some k)) × (k ≢ key)
        same e =
            let gone : slice_get (slice_set seats i None) j ≡ Some None = ap (slice_get (slice_set seats i None)) e ∙ set_here seats i None (slice_get_within seats i (Some key) here) in
            absurd (cc)

        other : j ≢ i → (slice_get seats j ≡ Some (Some k)) × (k ≢ key)
        other n =
            let was : slice_get seats j ≡ Some (Some k) = sym (set_elsewhere seats i j None n) ∙ at in
            (was, λ e. n (seated.apart j i key (was ∙ ap (λ x. Some (Some x)) e) here))

    pub seated_without : AreSeated after (slice_set seats i None)
    seated_without = record {
      there = λ j k at. let was = still j k at in subst IsSome (sym (left.others k was.1)) (seated.there j k was.0);
      apart = λ j l k one two. seated.apart j l k (still j k one).0 (still l k two).0;
    }

    pub opens_without : map (at_key after) (slice_set seats i None) ≡ slice_set (map (at_key slab) seats) i None
    opens_without = map_set (at_key slab) (at_key after) seats i None same
      where
        same : (j : ℕ) (x : Option ℕ) → slice_get seats j ≡ Some x → j ≢ i → at_key after x ≡ at_key slab x
        same j None at n = refl
        same j (Some k) at n = left.others k (λ e. n (seated.apart j i key (at ∙ ap (λ x. Some (Some x)) e) here))

    pub opened_at : (o : Open) → get slab key ≡ Some o → open_at (map (at_key slab) seats) i ≡ Some o
    opened_at o is = ap (option_and_then (λ x. x)) (slice_get-map (at_key slab) seats i ∙ ap (option_map (at_key slab)) here) ∙ is

  -- who has a key after a seat was taken, had it before, or it is this one
  module _ (o : Open) (within : i < length seats) (free : slice_get seats i ≡ Some None) (vacant : get slab key ≡ None) (come : Updates slab after key (Some o)) where
    apart_from : (j k : ℕ) → slice_get seats j ≡ Some (Some k) → k ≢ key
    apart_from j k at e =
        let some : IsSome (get slab key) = subst (λ x. IsSome (get slab x)) e (seated.there j k at) in
        not_there (subst IsSome vacant some)

    abbrev now : List (Option ℕ)
    now = slice_set seats i (Some key)

    at_place : slice_get now i ≡ Some (Some key)
    at_place = set_here seats i (Some key) within

    there : (j k : ℕ) → slice_get now j ≡ Some (Some k) → IsSome (get after k)
    there j k at = by_session j i same other
      where
        same : j ≡ i → IsSome (get after k)
        same e =
            let both : Some (Some k) ≡ Some (Some key) = sym at ∙ ap (slice_get now) e ∙ at_place in
            let keys : k ≡ key = cc in
            subst IsSome (sym (ap (get after) keys ∙ come.changed)) refl

        other : j ≢ i → IsSome (get after k)
        other n =
            let was : slice_get seats j ≡ Some (Some k) = sym (set_elsewhere seats i j (Some key) n) ∙ at in
            subst IsSome (sym (come.others k (apart_from j k was))) (seated.there j k was)

    -- of one that is not here, the key is another
    elsewhere : (j k : ℕ) → slice_get now j ≡ Some (Some k) → j ≢ i → slice_get seats j ≡ Some (Some k)
    elsewhere j k at n = sym (set_elsewhere seats i j (Some key) n) ∙ at

    here_only : (j k : ℕ) → slice_get now j ≡ Some (Some k) → k ≡ key → j ≡ i
    here_only j k at e = by_session j i (λ x. x) (λ n. absurd (apart_from j k (elsewhere j k at n) e))

    key_here : (j k : ℕ) → slice_get now j ≡ Some (Some k) → j ≡ i → k ≡ key
    key_here j k at e =
        let both : Some (Some k) ≡ Some (Some key) = sym at ∙ ap (slice_get now) e ∙ at_place in
        cc

    apart : (j l k : ℕ) → slice_get now j ≡ Some (Some k) → slice_get now l ≡ Some (Some k) → j ≡ l
    apart j l k one two = by_session j i
        (λ e. e ∙ sym (here_only l k two (key_here j k one e)))
        (λ n. by_session l i (λ e. here_only j k one (key_here l k two e) ∙ sym e) (λ m. seated.apart j l k (elsewhere j k one n) (elsewhere l k two m)))

    pub seated_with : AreSeated after (slice_set seats i (Some key))
    seated_with = record { there = there; apart = apart }

    pub opens_with : map (at_key after) (slice_set seats i (Some key)) ≡ slice_set (map (at_key slab) seats) i (Some o)
    opens_with = map_set (at_key slab) (at_key after) seats i (Some key) same ∙ ap (slice_set (map (at_key slab) seats) i) come.changed
      where
        same : (j : ℕ) (x : Option ℕ) → slice_get seats j ≡ Some x → j ≢ i → at_key after x ≡ at_key slab x
        same j None at n = refl
        same j (Some k) at n = come.others k (apart_from j k at)

-- a seat without a transaction is free
pub free_seat : (slab : Slab Open) (seats : List (Option ℕ)) → AreSeated slab seats → (i : ℕ) → i < length seats → open_at (map (at_key slab) seats) i ≡ None → slice_get seats i ≡ Some None
free_seat slab seats seated i within none = by (slice_get seats i) refl
  where
    by : (x : Option (Option ℕ)) → slice_get seats i ≡ x → x ≡ Some None
    by None e =
        let is : slice_get seats i ≡ Some (get_or seats i None) = slice_get-get_or seats i None within in
        absurd cc
    by (Some None) e = refl
    by (Some (Some k)) e =
        let found : get slab k ≡ None = sym (ap (option_and_then (λ x. x)) (slice_get-map (at_key slab) seats i ∙ ap (option_map (at_key slab)) e)) ∙ none in
        absurd (not_there (subst IsSome found (seated.there i k e)))

-- a session with a transaction has a seat
pub has_seat : (slab : Slab Open) (seats : List (Option ℕ)) (i : ℕ) → IsSome (open_at (map (at_key slab) seats) i) → i < length seats
has_seat slab [] i some = absurd (not_there some)
has_seat slab (x ∷ seats) zero some = omega arith
has_seat slab (x ∷ seats) (suc i) some = let lt = has_seat slab seats i some in omega (arith, lt)
