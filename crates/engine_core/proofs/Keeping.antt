-- The steps that a book keeps, as the deeds of the machine's log.
use Rattle.std.specs.Prelude.{reverse, slice_get, Option}
use Rattle.std.specs.List.{Contains}
use Rattle.std.proofs.Common.{◌≡◌, ℕ, zero, suc, ◌<◌, List, [], ◌∷◌, ◌++◌, map, Some, None, refl, sym, ◌∙◌, ap, subst, arith}
use Rattle.std.proofs.lemmas.List.{reverse-append}
use Rattle.std.proofs.lemmas.List.Elements.{Contains-append_left, Contains-append_right}
use Rattle.iv_types.specs.declared.lock.KeptStep.{KeptStep}
use Rattle.iv_types.specs.declared.lock.KeptStep.TheVariants as kept
use Rattle.txn_machine.specs.Keeping as machine
use Rattle.txn_machine.proofs.Holding.{by_contains, contains_here, contains_next, contains_none}
use Rattle.txn_book.specs.Holding.{AreKept}
use Rattle.txn_log.specs.Replay.{Deed, Wrote, Added, own}
use Rattle.txn_log.specs.Fitting.{DoNumbersFall, CarriedBelow}
use Rattle.txn_log.specs.Moments.{kept_deeds}
use Rattle.txn_log.proofs.Finding.{by_number}
use Rattle.txn_log.proofs.Owning.{IsKept, own_this, own_other}
use Rattle.record_lending.specs.Steps.{number_of}
use Rattle.engine_core.proofs.Carrying.{deed_of, push, firsts_of}

-- ---- the deeds of steps, the latest first

abbrev pub backs : ℕ → List KeptStep → List Deed
backs t [] = []
backs t (k ∷ ks) = backs t ks ++ deed_of t k ∷ []

map_append : (t : ℕ) (xs ys : List KeptStep) → map (deed_of t) (xs ++ ys) ≡ map (deed_of t) xs ++ map (deed_of t) ys
map_append t [] ys = refl
map_append t (x ∷ xs) ys = ap (λ (ds : List Deed). deed_of t x ∷ ds) (map_append t xs ys)

backs_are : (t : ℕ) (ks : List KeptStep) → map (deed_of t) (reverse ks) ≡ backs t ks
backs_are t [] = refl
backs_are t (k ∷ ks) = ap (map (deed_of t)) (reverse-append (k ∷ []) ks) ∙ (map_append t (reverse ks) (k ∷ []) ∙ ap (λ (ds : List Deed). ds ++ deed_of t k ∷ []) (backs_are t ks))

-- as the log knows them
known_so : (t : ℕ) (bs : List KeptStep) (ks : List machine.KeptStep) (ns : List ℕ) → AreKept bs ks ns → kept_deeds t ns ks ≡ map (deed_of t) bs
known_so t [] [] [] h = refl
known_so t (kept.Put k txn_bytes history_bytes number ∷ bs) (machine.Put c owed ∷ ks) (n ∷ ns) h =
    λ x. record { number = sym h.1 x; transaction = t; what = Wrote (sym h.0 x) } ∷ known_so t bs ks ns h.2 x
known_so t (kept.Pay d before number ∷ bs) (machine.Pay e ∷ ks) (n ∷ ns) h =
    λ x. record { number = sym h.1 x; transaction = t; what = Added (sym h.0 x) } ∷ known_so t bs ks ns h.2 x
known_so t bs ks ns h = absurd h

pub kept_so : (t : ℕ) (items : List KeptStep) (ks : List machine.KeptStep) (ns : List ℕ) → AreKept (reverse items) ks ns → kept_deeds t ns ks ≡ backs t items
kept_so t items ks ns h = known_so t (reverse items) ks ns h ∙ backs_are t items

-- all of them are the first ones
firsts_more : (t : ℕ) (k : KeptStep) (ks : List KeptStep) (n : ℕ) → firsts_of t (k ∷ ks) (suc n) ≡ firsts_of t ks n ++ deed_of t k ∷ []
firsts_more t k ks zero = refl
firsts_more t k ks (suc n) = ap (push t (slice_get ks n)) (firsts_more t k ks n) ∙ pushed (slice_get ks n)
  where
    pushed : (o : Option KeptStep) → push t o (firsts_of t ks n ++ deed_of t k ∷ []) ≡ push t o (firsts_of t ks n) ++ deed_of t k ∷ []
    pushed None = refl
    pushed (Some j) = refl

firsts_none : (t n : ℕ) → firsts_of t [] n ≡ []
firsts_none t zero = refl
firsts_none t (suc n) = firsts_none t n

pub firsts_all : (t : ℕ) (ks : List KeptStep) (n : ℕ) → slice_get ks n ≡ None → firsts_of t ks n ≡ backs t ks
firsts_all t [] n e = firsts_none t n
firsts_all t (k ∷ ks) zero e = absurd (let bad : Some k ≡ None = e in cc)
firsts_all t (k ∷ ks) (suc n) e = firsts_more t k ks n ∙ ap (λ (ds : List Deed). ds ++ deed_of t k ∷ []) (firsts_all t ks n e)

-- ---- each step is one of them

pub among : (t : ℕ) (ks : List KeptStep) (n : ℕ) (k : KeptStep) → slice_get ks n ≡ Some k → Contains (backs t ks) (deed_of t k)
among t [] n k e = absurd (let bad : None ≡ Some k = e in cc)
among t (x ∷ ks) zero k e = subst (λ (j : KeptStep). Contains (backs t ks ++ deed_of t x ∷ []) (deed_of t j)) (some_same x k e) (last (backs t ks))
  where
    some_same : (a b : KeptStep) → Some a ≡ Some b → a ≡ b
    some_same a b e = cc

    last : (ds : List Deed) → Contains (ds ++ deed_of t x ∷ []) (deed_of t x)
    last ds = Contains-append_right ds (deed_of t x ∷ []) (deed_of t x) (contains_here (deed_of t x) [])
among t (x ∷ ks) (suc n) k e = Contains-append_left (backs t ks) (deed_of t x ∷ []) (deed_of t k) (among t ks n k e)

-- ---- numbers rise

abbrev AreAbove : ℕ → List Deed → Type 0
AreAbove n [] = Unit {0}
AreAbove n (d ∷ ds) = (n < d.number) × AreAbove n ds

split_kept : (t n : ℕ) (ds : List Deed) (d : Deed) → IsKept t n (ds ++ d ∷ []) → IsKept t n ds × AreAbove d.number ds × (d.number < n)
split_kept t n [] d h = (tt, tt, h.1)
split_kept t n (x ∷ ds) d h = let more = split_kept t x.number ds d h.2 in ((h.0, h.1, more.0), (more.2, more.1), (let one = h.1 in let less = more.2 in omega (arith, one, less)))

above_at : (t m : ℕ) (ks : List KeptStep) (n : ℕ) (k : KeptStep) → AreAbove m (backs t ks) → slice_get ks n ≡ Some k → m < number_of k
above_at t m ks n k h e = above_all (backs t ks) (deed_of t k) h (among t ks n k e)
  where
    above_all : (ds : List Deed) (d : Deed) → AreAbove m ds → Contains ds d → m < d.number
    above_all [] d h c = absurd (contains_none d c)
    above_all (x ∷ ds) d h c = by_contains x ds d c (λ same. subst (λ (y : Deed). m < y.number) same h.0) (λ more. above_all ds d h.1 more)

pub rise_at : (t n : ℕ) (ks : List KeptStep) → IsKept t n (backs t ks) → (m : ℕ) (j k : KeptStep) → slice_get ks m ≡ Some j → slice_get ks (suc m) ≡ Some k → number_of j < number_of k
rise_at t n [] h m j k e f = absurd (let bad : None ≡ Some j = e in cc)
rise_at t n (x ∷ ks) h zero j k e f =
    let s = split_kept t n (backs t ks) (deed_of t x) h in
    subst (λ (i : KeptStep). number_of i < number_of k) (some_same x j e) (above_at t (number_of x) ks zero k s.1 f)
  where
    some_same : (a b : KeptStep) → Some a ≡ Some b → a ≡ b
    some_same a b e = cc
rise_at t n (x ∷ ks) h (suc m) j k e f = rise_at t n ks (split_kept t n (backs t ks) (deed_of t x) h).0 m j k e f

-- ---- of records whose numbers fall one has a number

below_all : (n : ℕ) (ds : List Deed) (d : Deed) → CarriedBelow n ds → Contains ds d → d.number < n
below_all n [] d h c = absurd (contains_none d c)
below_all n (x ∷ ds) d h c = by_contains x ds d c (λ same. subst (λ (y : Deed). y.number < n) same h.0) (λ more. below_all n ds d h.1 more)

pub the_deed : (ds : List Deed) → DoNumbersFall ds → (a b : Deed) → Contains ds a → Contains ds b → a.number ≡ b.number → a ≡ b
the_deed [] h a b c d e = absurd (contains_none a c)
the_deed (x ∷ ds) h a b c d e =
    by_contains x ds a c
    (λ first.
    by_contains x ds b d
    (λ second. sym first ∙ second)
    (λ later. let less = below_all x.number ds b h.0 later in let same : x.number ≡ a.number = ap (λ (y : Deed). y.number) first in absurd (omega (arith, less, same, e))))
    (λ earlier.
    by_contains x ds b d
    (λ second. let less = below_all x.number ds a h.0 earlier in let same : x.number ≡ b.number = ap (λ (y : Deed). y.number) second in absurd (omega (arith, less, same, e)))
    (λ later. the_deed ds h.1 a b earlier later e))

-- what is of a transaction is among all
pub owned_among : (t : ℕ) (ds : List Deed) (d : Deed) → Contains (own t ds) d → Contains ds d
owned_among t [] d c = absurd (contains_none d c)
owned_among t (x ∷ ds) d c =
    by_number x.transaction t
    (λ is.
    by_contains x (own t ds) d (subst (λ (xs : List Deed). Contains xs d) (own_this t x ds is) c)
    (λ same. subst (Contains (x ∷ ds)) same (contains_here x ds))
    (λ more. contains_next x ds d (owned_among t ds d more)))
    (λ other. contains_next x ds d (owned_among t ds d (subst (λ (xs : List Deed). Contains xs d) (own_other t x ds other) c)))
