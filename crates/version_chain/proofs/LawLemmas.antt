-- The version chain law.
use Rattle.std.specs.Prelude.{◌≡◌, ◌≢◌, ◌≤◌, ◌<◌, ℕ, max, Bool, true, false, cond, nat_lt, nat_le, List, [], ◌∷◌, ◌++◌, map, Option}
use mathlib.Core.Path.{refl, sym, ap, subst, ◌∙◌}
use Rattle.std.proofs.Common.{arith}
use Rattle.std.specs.List.{AllByRecursion}
use Rattle.std.proofs.lemmas.List.{append-nil}
use Rattle.std.proofs.lemmas.List.Elements.{filter-append}
use Rattle.std.specs.FinMap.{FinMap, get}
use Rattle.std.specs.declared.cmp.Ordering.{Ordering}
use Rattle.std.specs.declared.cmp.Ordering.TheVariants.{Less, Equal, Greater}
use Rattle.std.specs.Ordering.{nat_cmp, eq_by_cmp, is_lt, is_eq, ordering_then}
use Rattle.table_laws.specs.Place.{Place, place_cmp}
use Rattle.table_laws.specs.Table.{write}
use Rattle.version_chain.specs.Versions.{moment_cmp, Version, place, number, above, with_version, AreInOrder}
use Rattle.version_chain.specs.Chains.{pushed, is_of, chain_of, is_empty, row_at}
use Rattle.version_chain.specs.Law.{Call, Push, Prune, called, called_all, left_by, pushed_by, AreRising, Committed, version_of, rows_at, rows_after, AreTrue, ChainLaw, EmptyLaw, AtLaw, PruneLaw}
use Rattle.version_chain.proofs.Around.{in_order_with, in_order_above, all_right, all_with, all_kept}
use Rattle.version_chain.proofs.Found.{none_after}
use Rattle.std.specs.Cmp.{tied_itself, ranked}
use Rattle.table_laws.proofs.Place.{place_cmp_total, place_cmp-IsAntisymmetric}
use Rattle.table_laws.proofs.Tables.{get-write_other}
use Rattle.std.proofs.Common.{append_assoc}

not_less_nat : (m n : ℕ) → n ≤ m → nat_cmp m n ≢ Less
not_less_nat m n up is = let less : m < n = ranked m n Less (sym is) in omega (arith, up, less)

pub same_place : (p q : Place) → eq_by_cmp place_cmp p q ≡ true → p ≡ q
same_place p q is = place_cmp-IsAntisymmetric p q (tied (place_cmp p q) is)
  where
    tied : (o : Ordering) → is_eq o ≡ true → o ≡ Equal
    tied Less e = absurd (cc e)
    tied Equal e = refl
    tied Greater e = absurd (cc e)

pub other_place : (p q : Place) → eq_by_cmp place_cmp p q ≡ false → p ≢ q
other_place p q is same = let bad : true ≡ false = sym (ap is_eq (tied_itself place_cmp_total p)) ∙ (ap (λ r. eq_by_cmp place_cmp p r) same ∙ is) in absurd (cc bad)

same_before : {V : Type 0} (p : Place) (v w : Version V) → is_of p v ≡ true → place_cmp (place v) (place w) ≡ Less → place_cmp p (place w) ≡ Less
same_before p v w of lt = ap (λ q. place_cmp q (place w)) (same_place p (place v) of) ∙ lt

-- ---- numbers

above_max_both : (m n k : ℕ) → nat_lt m k ≡ true → nat_lt n k ≡ true → nat_lt (max m n) k ≡ true
above_max_both m n k p q = grind (arith, p, q)

above_max_first : (m n k : ℕ) → nat_lt m k ≡ false → nat_lt (max m n) k ≡ false
above_max_first m n k p = grind (arith, p)

above_max_second : (m n k : ℕ) → nat_lt n k ≡ false → nat_lt (max m n) k ≡ false
above_max_second m n k p = grind (arith, p)

pub not_above : (m n k : ℕ) → m ≤ n → nat_lt m k ≡ false → nat_lt n k ≡ false
not_above m n k p q = grind (arith, p, q)

not_yet : (n m k : ℕ) → n < m → m ≤ k → nat_le k n ≡ false
not_yet n m k p q = grind (arith, p, q)

lt_of : (n k : ℕ) → nat_lt n k ≡ true → n < k
lt_of n k p = grind (arith, p)

le_of : (n k : ℕ) → nat_lt n k ≡ false → nat_le k n ≡ true
le_of n k p = grind (arith, p)

le_refl : (k : ℕ) → k ≤ k
le_refl k = omega arith

-- none of the versions has a greater number
abbrev pub AreUpTo : {V : Type 0} → ℕ → List (Version V) → Type 0
AreUpTo n vs = AllByRecursion (λ v. number v ≤ n) vs

module _ {V : Type 0} where
  -- ---- chains

  no_chain : (p : Place) (vs : List (Version V)) → is_empty p vs ≡ true → chain_of p vs ≡ []
  no_chain p [] e = refl
  no_chain p (v ∷ vs) e = by (is_of p v) refl e (λ x. no_chain p vs x)
    where
      by : (b : Bool) → is_of p v ≡ b → is_empty p (v ∷ vs) ≡ true → (is_empty p vs ≡ true → chain_of p vs ≡ []) → chain_of p (v ∷ vs) ≡ []
      by true is e rest = absurd (cc)
      by false is e rest = rw is (rest (cc))

  -- a version that comes before another one of no greater number has another place
  lesser_place : (v w : Version V) → moment_cmp v.0 w.0 ≡ Less → number w ≤ number v → place_cmp (place v) (place w) ≡ Less
  lesser_place v w lt up = by (place_cmp (place v) (place w)) refl
    where
      number_order : nat_cmp (number v) (number w) ≢ Less
      number_order is = not_less_nat (number v) (number w) up is

      by : (o : Ordering) → place_cmp (place v) (place w) ≡ o → place_cmp (place v) (place w) ≡ Less
      by Less is = is
      by Equal is = absurd (number_order (sym (ap (λ o. ordering_then o (nat_cmp (number v) (number w))) is) ∙ lt))
      by Greater is = let bad : Greater ≡ Less = sym (ap (λ o. ordering_then o (nat_cmp (number v) (number w))) is) ∙ lt in absurd (cc bad)

  chain_with : (p : Place) (v : Version V) (vs : List (Version V)) → AreInOrder vs → AreUpTo (number v) vs → chain_of p (with_version v vs) ≡ chain_of p vs ++ chain_of p (v ∷ [])
  chain_with p v [] h up = refl
  chain_with p v (w ∷ vs) h up = by (moment_cmp v.0 w.0) refl (is_of p v) refl (chain_with p v vs h.1 up.1)
    where
      behind : is_lt (moment_cmp v.0 w.0) ≡ false → chain_of p (with_version v vs) ≡ chain_of p vs ++ chain_of p (v ∷ []) → chain_of p (with_version v (w ∷ vs)) ≡ chain_of p (w ∷ vs) ++ chain_of p (v ∷ [])
      behind is rest = rw is (elim (is_of p w) as (λ b. cond b (w ∷ chain_of p (with_version v vs)) (chain_of p (with_version v vs)) ≡ cond b (w ∷ chain_of p vs) (chain_of p vs) ++ chain_of p (v ∷ [])) [
        | true ↦ ap (λ (t : List (Version V)). w ∷ t) rest
        | false ↦ rest
      ])

      by : (o : Ordering) → moment_cmp v.0 w.0 ≡ o → (b : Bool) → is_of p v ≡ b → chain_of p (with_version v vs) ≡ chain_of p vs ++ chain_of p (v ∷ [])
          → chain_of p (with_version v (w ∷ vs)) ≡ chain_of p (w ∷ vs) ++ chain_of p (v ∷ [])
      by Less is true of rest =
          let apart : place_cmp p (place w) ≡ Less = same_before p v w of (lesser_place v w is up.0) in
          let none : is_empty p (w ∷ vs) ≡ true = rw apart (none_after p w vs h apart) in
          let gone : chain_of p (w ∷ vs) ≡ [] = no_chain p (w ∷ vs) none in
          rw is (rw of (ap (λ (t : List (Version V)). v ∷ t) gone ∙ sym (ap (λ (t : List (Version V)). t ++ v ∷ []) gone)))
      by Less is false of rest = rw is (rw of (sym (append-nil (chain_of p (w ∷ vs)))))
      by Equal is b of rest = behind (ap is_lt is) rest
      by Greater is b of rest = behind (ap is_lt is) rest

  chain_above : (p : Place) (n : ℕ) (vs : List (Version V)) → chain_of p (above n vs) ≡ above n (chain_of p vs)
  chain_above p n [] = refl
  chain_above p n (v ∷ vs) = by (is_of p v) (nat_lt n (number v)) refl refl (chain_above p n vs)
    where
      by : (a b : Bool) → is_of p v ≡ a → nat_lt n (number v) ≡ b → chain_of p (above n vs) ≡ above n (chain_of p vs) → chain_of p (above n (v ∷ vs)) ≡ above n (chain_of p (v ∷ vs))
      by true true of is rest = rw of (rw is (rw of (ap (λ (t : List (Version V)). v ∷ t) rest)))
      by true false of is rest = rw of (rw is rest)
      by false true of is rest = rw of (rw is (rw of rest))
      by false false of is rest = rw of (rw is rest)

  above_twice : (m n : ℕ) (vs : List (Version V)) → above n (above m vs) ≡ above (max m n) vs
  above_twice m n [] = refl
  above_twice m n (v ∷ vs) = by (nat_lt m (number v)) (nat_lt n (number v)) refl refl (above_twice m n vs)
    where
      by : (a b : Bool) → nat_lt m (number v) ≡ a → nat_lt n (number v) ≡ b → above n (above m vs) ≡ above (max m n) vs → above n (above m (v ∷ vs)) ≡ above (max m n) (v ∷ vs)
      by true true p q rest = rw p (rw q (rw (above_max_both m n (number v) p q) (ap (λ (t : List (Version V)). v ∷ t) rest)))
      by true false p q rest = rw p (rw q (rw (above_max_second m n (number v) q) rest))
      by false b p q rest = rw p (rw (above_max_first m n (number v) p) rest)

  -- ---- what calls leave

  pub record Stands (c : List (Version V) × ℕ) (l : List (Version V)) : Type 0 where
    pub sorted : AreInOrder c.0
    pub chains : (p : Place) → chain_of p c.0 ≡ chain_of p (above c.1 l)
    pub up_to : (n : ℕ) → AreUpTo n l → AreUpTo n c.0

  rising_up_to : (l : List (Version V)) (v : Version V) (r : List (Version V)) → AreRising (l ++ v ∷ r) → AreUpTo (number v) l
  rising_up_to [] v r h = tt
  rising_up_to (w ∷ l) v r h = ((all_right _ l (v ∷ r) h.0).0, rising_up_to l v r h.1)

  up_to_left : (n : ℕ) (l r : List (Version V)) → AreUpTo n (l ++ r) → AreUpTo n l × AreUpTo n r
  up_to_left n [] r h = (tt, h)
  up_to_left n (w ∷ l) r h = let rest = up_to_left n l r h.1 in ((h.0, rest.0), rest.1)

  after_push : (c : List (Version V) × ℕ) (l : List (Version V)) (v : Version V) → Stands c l → AreUpTo (number v) l → Stands (called c (Push v)) (l ++ v ∷ [])
  after_push c l v s up = by (nat_lt c.1 (number v)) refl
    where
      kept : (b : Bool) → nat_lt c.1 (number v) ≡ b → pushed v c.1 c.0 ≡ cond b (with_version v c.0) c.0
      kept b is = ap (λ b. cond b (with_version v c.0) c.0) is

      one : (b : Bool) → nat_lt c.1 (number v) ≡ b → cond b (v ∷ []) [] ≡ above c.1 (v ∷ [])
      one b is = sym (ap (λ b. cond b (v ∷ []) []) is)

      by : (b : Bool) → nat_lt c.1 (number v) ≡ b → Stands (called c (Push v)) (l ++ v ∷ [])
      by true is = record {
        sorted = rw is (in_order_with v c.0 s.sorted);
        chains = λ p.
            ap (chain_of p) (kept true is)
            ∙ (chain_with p v c.0 s.sorted (s.up_to (number v) up)
            ∙ (ap (λ t. t ++ chain_of p (v ∷ [])) (s.chains p)
            ∙ (sym (filter-append (is_of p) (above c.1 l) (v ∷ [])) ∙ ap (λ t. chain_of p (above c.1 l ++ t)) (one true is) ∙ ap (chain_of p) (sym (filter-append (λ w. nat_lt c.1 (number w)) l (v ∷ []))))));
        up_to = λ n all. let both = up_to_left n l (v ∷ []) all in rw is (all_with (λ w. number w ≤ n) v c.0 both.1.0 (s.up_to n both.0));
      }
      by false is = record {
        sorted = rw is s.sorted;
        chains = λ p.
            ap (chain_of p) (kept false is)
            ∙ (s.chains p ∙ (ap (chain_of p) (sym (append-nil (above c.1 l))) ∙ (ap (λ t. chain_of p (above c.1 l ++ t)) (one false is) ∙ ap (chain_of p) (sym (filter-append (λ w. nat_lt c.1 (number w)) l (v ∷ []))))));
        up_to = λ n all. rw is (s.up_to n (up_to_left n l (v ∷ []) all).0);
      }

  after_prune : (c : List (Version V) × ℕ) (l : List (Version V)) (oldest : ℕ) → Stands c l → Stands (called c (Prune oldest)) l
  after_prune c l oldest s = record {
    sorted = in_order_above oldest c.0 s.sorted;
    chains = λ p. chain_above p oldest c.0 ∙ (ap (above oldest) (s.chains p) ∙ (sym (chain_above p oldest (above c.1 l)) ∙ ap (chain_of p) (above_twice c.1 oldest l)));
    up_to = λ n all. all_kept _ oldest c.0 (s.up_to n all);
  }

  after_calls : (c : List (Version V) × ℕ) (l : List (Version V)) (calls : List (Call V)) → Stands c l → AreRising (l ++ pushed_by calls) → Stands (called_all c calls) (l ++ pushed_by calls)
  after_calls c l [] s h = subst (Stands c) (sym (append-nil l)) s
  after_calls c l (Push v ∷ calls) s h =
      let moved : (l ++ v ∷ []) ++ pushed_by calls ≡ l ++ v ∷ pushed_by calls = append_assoc l (v ∷ []) (pushed_by calls) in
      subst (Stands (called_all (called c (Push v)) calls)) moved
      (after_calls (called c (Push v)) (l ++ v ∷ []) calls (after_push c l v s (rising_up_to l v (pushed_by calls) h)) (subst AreRising (sym moved) h))
  after_calls c l (Prune oldest ∷ calls) s h = after_calls (called c (Prune oldest)) l calls (after_prune c l oldest s) h

  pub after_all : (calls : List (Call V)) → AreRising (pushed_by calls) → Stands (left_by calls) (pushed_by calls)
  after_all calls h = after_calls ([], 0) [] calls (record { sorted = tt; chains = λ p. refl; up_to = λ n all. tt }) h

  pub chain_law : ChainLaw V
  chain_law calls h p = (after_all calls h).chains p

  -- ---- what a chain tells

  pub empty_chain : (p : Place) (vs : List (Version V)) → is_empty p vs ≡ is_empty p (chain_of p vs)
  empty_chain p [] = refl
  empty_chain p (v ∷ vs) = by (is_of p v) refl (empty_chain p vs)
    where
      by : (b : Bool) → is_of p v ≡ b → is_empty p vs ≡ is_empty p (chain_of p vs) → is_empty p (v ∷ vs) ≡ is_empty p (chain_of p (v ∷ vs))
      by true is rest = rw is (rw is refl)
      by false is rest = rw is rest

  pub empty_law : EmptyLaw V
  empty_law calls h p = empty_chain p (left_by calls).0 ∙ (ap (is_empty p) (chain_law calls h p) ∙ sym (empty_chain p (above (left_by calls).1 (pushed_by calls))))

module _ {X : Type 0} where
  pub row_chain : (n : ℕ) (p : Place) (now : Option X) (vs : List (Version (Option X))) → row_at n p now vs ≡ row_at n p now (chain_of p vs)
  row_chain n p now [] = refl
  row_chain n p now (v ∷ vs) = by (is_of p v) (nat_lt n (number v)) refl refl (row_chain n p now vs)
    where
      by : (a b : Bool) → is_of p v ≡ a → nat_lt n (number v) ≡ b → row_at n p now vs ≡ row_at n p now (chain_of p vs) → row_at n p now (v ∷ vs) ≡ row_at n p now (chain_of p (v ∷ vs))
      by true true of is rest = rw of (rw is (rw of refl))
      by true false of is rest = rw of (rw is (rw of rest))
      by false b of is rest = rw of rest

  pub prune_law : PruneLaw X
  prune_law [] oldest n up p now = refl
  prune_law (v ∷ vs) oldest n up p now = by (nat_lt oldest (number v)) (is_of p v) (nat_lt n (number v)) refl refl refl (prune_law vs oldest n up p now)
    where
      by : (k a b : Bool) → nat_lt oldest (number v) ≡ k → is_of p v ≡ a → nat_lt n (number v) ≡ b → row_at n p now (above oldest vs) ≡ row_at n p now vs
          → row_at n p now (above oldest (v ∷ vs)) ≡ row_at n p now (v ∷ vs)
      by true true true kept of is rest = rw kept (rw of (rw is refl))
      by true true false kept of is rest = rw kept (rw of (rw is rest))
      by true false b kept of is rest = rw kept (rw of rest)
      by false true true kept of is rest = let bad : true ≡ false = sym is ∙ not_above oldest n (number v) up kept in absurd (cc bad)
      by false true false kept of is rest = rw kept (rw of (rw is rest))
      by false false b kept of is rest = rw kept (rw of rest)

  -- ---- rows

  -- before the first commit that is above a number the rows are those at that number
  none_yet : (n m : ℕ) (rows : FinMap place_cmp X) (cs : List (Committed X)) → n < m → AllByRecursion (λ w. m ≤ number w) (map version_of cs) → rows_at n cs rows ≡ rows
  none_yet n m rows [] lt h = refl
  none_yet n m rows (c ∷ cs) lt h = rw (not_yet n m c.0 lt h.0) (none_yet n m rows cs lt h.1)

  pub row_of_state : (n : ℕ) (rows : FinMap place_cmp X) (cs : List (Committed X)) → AreTrue rows cs → AreRising (map version_of cs) → (p : Place)
      → row_at n p (get (rows_after cs rows) p) (map version_of cs) ≡ get (rows_at n cs rows) p
  row_of_state n rows [] h up p = refl
  row_of_state n rows (c ∷ cs) h up p =
      by (nat_lt n c.0) (is_of p (version_of c)) refl refl (row_of_state n (write rows c.1.key c.1.after) cs h.1 up.1 p)
    where
      by : (a b : Bool) → nat_lt n c.0 ≡ a → is_of p (version_of c) ≡ b
          → row_at n p (get (rows_after cs (write rows c.1.key c.1.after)) p) (map version_of cs) ≡ get (rows_at n cs (write rows c.1.key c.1.after)) p
          → row_at n p (get (rows_after (c ∷ cs) rows) p) (map version_of (c ∷ cs)) ≡ get (rows_at n (c ∷ cs) rows) p
      by true true less of rest =
          rw of (rw less (h.0 ∙ (ap (get rows) (sym (same_place p c.1.key of)) ∙ ap (λ t. get t p) (sym (none_yet n c.0 rows (c ∷ cs) (lt_of n c.0 less) (le_refl c.0, up.0))))))
      by true false less of rest =
          rw of (rest ∙ (ap (λ t. get t p) (none_yet n c.0 (write rows c.1.key c.1.after) cs (lt_of n c.0 less) up.0)
          ∙ (get-write_other place_cmp_total place_cmp-IsAntisymmetric rows c.1.key c.1.after p (other_place p c.1.key of)
          ∙ ap (λ t. get t p) (sym (none_yet n c.0 rows (c ∷ cs) (lt_of n c.0 less) (le_refl c.0, up.0))))))
      by false true less of rest = let now : nat_le c.0 n ≡ true = le_of n c.0 less in rw now (rw of (rw less rest))
      by false false less of rest = let now : nat_le c.0 n ≡ true = le_of n c.0 less in rw now (rw of rest)

  pub at_law : AtLaw X
  at_law calls h base commits told same n kept p =
      row_chain n p (get (rows_after commits base) p) (left_by calls).0
      ∙ (ap (row_at n p (get (rows_after commits base) p)) (chain_law calls h p)
      ∙ (sym (row_chain n p (get (rows_after commits base) p) (above (left_by calls).1 (pushed_by calls)))
      ∙ (prune_law (pushed_by calls) (left_by calls).1 n kept p (get (rows_after commits base) p)
      ∙ (ap (row_at n p (get (rows_after commits base) p)) same ∙ row_of_state n base commits told (subst AreRising same h) p))))
