-- Sums of deltas above a number.
use Rattle.std.specs.Prelude.{◌≡◌, ◌&&◌, ◌≤◌, ◌<◌, ◌+◌, ℕ, suc, ℤ, pos, ◌+ℤ◌, ◌-ℤ◌, neg_ℤ, FitsSigned, Bool, true, false, cond, not, nat_lt, List, [], ◌∷◌, ◌++◌, length, Option, Some, None}
use mathlib.Core.Path.{refl, sym, ap, subst, ◌∙◌}
use Rattle.std.proofs.Common.{arith, append_assoc, append-nil, add-one}
use Rattle.std.specs.Int.{w128, int_wrap}
use Rattle.std.proofs.lemmas.Int.{ints, int_wrap-add_left, int_wrap_fits}
use Rattle.std.specs.declared.cmp.Ordering.{Ordering}
use Rattle.std.specs.declared.cmp.Ordering.TheVariants.{Less, Equal, Greater}
use Rattle.std.specs.Ordering.{nat_cmp, ordering_then, is_lt, is_eq}
use Rattle.table_laws.specs.Place.{Place, place_cmp}
use Rattle.iv_types.specs.declared.value.Kind.TheVariants.{Huge}
use Rattle.iv_types.specs.declared.value.Value.TheVariants.{Number}
use Rattle.iv_types.specs.Encoding.{value_bytes}
use Rattle.row_codec.proofs.Numbers.{signed_split}
use Rattle.ghost_rows.specs.Numbers.{numbers_bytes, Fits128}
use Rattle.ghost_rows.proofs.NumberSteps.{long}
use Rattle.version_chain.specs.declared.deltas.Delta.{Delta}
use Rattle.version_chain.specs.Versions.{Version, place, number, above, AreInOrder, first_where, is_from}
use Rattle.version_chain.specs.Chains.{is_of, is_empty, chain_of, none_above}
use Rattle.version_chain.specs.Law.{left_by, pushed_by}
use Rattle.version_chain.specs.Deltas.{worth, due, less, DueLaw}
use Rattle.version_chain.proofs.Around.{all_right, before_fails, in_order_right}
use Rattle.version_chain.proofs.Found.{none_after, is_lt_nat}
use Rattle.version_chain.proofs.LawLemmas.{chain_law, not_above}

-- ---- around one version

-- what one version adds
abbrev pub part : ℕ → Place → ℕ → Version Delta → ℤ
part n p column v = cond (is_of p v && nat_lt n (number v)) (worth column v.1) (pos 0)

-- a version is above a number of a place or not
is_above_as : (n : ℕ) (p : Place) (v : Version Delta) → is_of p v ≡ true → is_from true (p, n) v ≡ nat_lt n (number v)
is_above_as n p v of = by (place_cmp p (place v)) refl of
  where
    by : (w : Ordering) → place_cmp p (place v) ≡ w → is_of p v ≡ true → is_from true (p, n) v ≡ nat_lt n (number v)
    by Less is of = absurd (let bad : false ≡ true = sym (ap is_eq is) ∙ of in cc bad)
    by Equal is of = rw is (is_lt_nat n (number v))
    by Greater is of = absurd (let bad : false ≡ true = sym (ap is_eq is) ∙ of in cc bad)

no_part : (n : ℕ) (p : Place) (column : ℕ) (v : Version Delta) → is_from true (p, n) v ≡ false → part n p column v ≡ pos 0
no_part n p column v fails = by (is_of p v) refl
  where
    by : (b : Bool) → is_of p v ≡ b → part n p column v ≡ pos 0
    by true of = let no : nat_lt n (number v) ≡ false = sym (is_above_as n p v of) ∙ fails in rw of (rw no refl)
    by false of = rw of refl

zero_left : (z : ℤ) → pos 0 +ℤ z ≡ z
zero_left z = omega (arith, ints)

nested : (x l r : ℤ) → x +ℤ (l +ℤ r) ≡ (x +ℤ l) +ℤ r
nested x l r = omega (arith, ints)

no_more : (l r t : ℤ) → r ≡ pos 0 → t ≡ l +ℤ r → t ≡ l
no_more l r t zero whole = omega (arith, ints, zero, whole)

without_zero : (n z : ℤ) → z ≡ pos 0 → n -ℤ z ≡ n
without_zero n z zero = omega (arith, ints, zero)

three_less : (from a w b : ℤ) → ((from -ℤ a) -ℤ w) -ℤ b ≡ from -ℤ ((a +ℤ w) +ℤ b)
three_less from a w b = omega (arith, ints)

-- versions up to a moment add nothing
due_behind : (n : ℕ) (p : Place) (column : ℕ) (l r : List (Version Delta)) (e : Version Delta) → AreInOrder (l ++ e ∷ r) → is_from true (p, n) e ≡ false
    → due n p column (l ++ e ∷ r) ≡ due n p column r
due_behind n p column [] r e h fails = ap (λ z. z +ℤ due n p column r) (no_part n p column e fails) ∙ zero_left (due n p column r)
due_behind n p column (x ∷ l) r e h fails =
    ap (λ z. z +ℤ due n p column (l ++ e ∷ r)) (no_part n p column x (before_fails true (p, n) x e (all_right _ l (e ∷ r) h.0).0 fails))
    ∙ (zero_left (due n p column (l ++ e ∷ r)) ∙ due_behind n p column l r e h.1 fails)

pub due_append : (n : ℕ) (p : Place) (column : ℕ) (l r : List (Version Delta)) → due n p column (l ++ r) ≡ due n p column l +ℤ due n p column r
due_append n p column [] r = sym (zero_left (due n p column r))
due_append n p column (x ∷ l) r = ap (λ z. part n p column x +ℤ z) (due_append n p column l r) ∙ nested (part n p column x) (due n p column l) (due n p column r)

due_of_none : (n : ℕ) (p : Place) (column : ℕ) (vs : List (Version Delta)) → is_empty p vs ≡ true → due n p column vs ≡ pos 0
due_of_none n p column [] e = refl
due_of_none n p column (v ∷ vs) e = by (is_of p v) refl e (λ x. due_of_none n p column vs x)
  where
    by : (b : Bool) → is_of p v ≡ b → is_empty p (v ∷ vs) ≡ true → (is_empty p vs ≡ true → due n p column vs ≡ pos 0) → due n p column (v ∷ vs) ≡ pos 0
    by true of e rest = absurd (cc)
    by false of e rest = rw of (zero_left (due n p column vs) ∙ rest (cc))

-- from a version on that is of a later place there are none
place_behind : (n : ℕ) (p : Place) (e : Version Delta) → is_from true (p, n) e ≡ true → is_of p e ≡ false → place_cmp p (place e) ≡ Less
place_behind n p e from other = by (place_cmp p (place e)) refl
  where
    by : (w : Ordering) → place_cmp p (place e) ≡ w → place_cmp p (place e) ≡ Less
    by Less is = is
    by Equal is = absurd (let bad : true ≡ false = sym (ap is_eq is) ∙ other in cc bad)
    by Greater is = absurd (let bad : false ≡ true = sym (ap (λ o. is_lt (ordering_then o (nat_cmp n (number e)))) is) ∙ from in cc bad)

module _ (n : ℕ) (p : Place) (column : ℕ) (t l r : List (Version Delta)) (e : Version Delta) (is : t ≡ l ++ e ∷ r) (sorted : AreInOrder t) where
  parts : AreInOrder (l ++ e ∷ r)
  parts = subst AreInOrder is sorted

  pub due_right : is_from true (p, n) e ≡ false → due n p column t ≡ due n p column r
  due_right fails = ap (due n p column) is ∙ due_behind n p column l r e parts fails

  pub due_left : is_from true (p, n) e ≡ true → is_of p e ≡ false → due n p column t ≡ due n p column l
  due_left from other =
      let lt : place_cmp p (place e) ≡ Less = place_behind n p e from other in
      let none : is_empty p (e ∷ r) ≡ true = rw lt (none_after p e r (in_order_right l (e ∷ r) parts) lt) in
      let zero : due n p column (e ∷ r) ≡ pos 0 = due_of_none n p column (e ∷ r) none in
      let whole : due n p column t ≡ due n p column l +ℤ due n p column (e ∷ r) = ap (due n p column) is ∙ due_append n p column l (e ∷ r) in
      no_more (due n p column l) (due n p column (e ∷ r)) (due n p column t) zero whole

  pub due_both : is_from true (p, n) e ≡ true → is_of p e ≡ true → due n p column t ≡ (due n p column l +ℤ worth column e.1) +ℤ due n p column r
  due_both from of =
      let here : part n p column e ≡ worth column e.1 = (let yes : nat_lt n (number e) ≡ true = sym (is_above_as n p e of) ∙ from in rw of (rw yes refl)) in
      let whole : due n p column t ≡ due n p column l +ℤ due n p column (e ∷ r) = ap (due n p column) is ∙ due_append n p column l (e ∷ r) in
      whole ∙ (ap (λ z. due n p column l +ℤ (z +ℤ due n p column r)) here ∙ nested (due n p column l) (worth column e.1) (due n p column r))

-- ---- modulo 2^128

wrap_less : (a b : ℤ) → int_wrap w128 (int_wrap w128 a -ℤ b) ≡ int_wrap w128 (a -ℤ b)
wrap_less a b = int_wrap-add_left w128 a (neg_ℤ b)

pub nothing_less : (from : ℤ) → FitsSigned w128 from → from ≡ int_wrap w128 (from -ℤ pos 0)
nothing_less from fits = let same : from -ℤ pos 0 ≡ from = without_zero from (pos 0) refl in sym (ap (int_wrap w128) same ∙ int_wrap_fits w128 from fits)

-- three steps are one
pub steps_less : (from before here after a w b : ℤ) → before ≡ int_wrap w128 (from -ℤ a) → here ≡ int_wrap w128 (before -ℤ w) → after ≡ int_wrap w128 (here -ℤ b)
    → after ≡ int_wrap w128 (from -ℤ ((a +ℤ w) +ℤ b))
steps_less from before here after a w b x y z =
    z
    ∙ (ap (λ h. int_wrap w128 (h -ℤ b)) (y ∙ (ap (λ h. int_wrap w128 (h -ℤ w)) x ∙ wrap_less (from -ℤ a) w))
    ∙ (wrap_less ((from -ℤ a) -ℤ w) b ∙ ap (int_wrap w128) (three_less from a w b)))

-- ---- bytes

-- numbers of which those from a column on are still to be lessened
pub record IsLessening (f : ℕ → ℤ) (column : ℕ) (rest out whole : List ℕ) : Type 0 where
  pub later : List ℤ
  pub fits : Fits128 later
  pub less_fits : Fits128 (less f column later)
  pub bytes : rest ≡ numbers_bytes later
  pub told : out ++ numbers_bytes (less f column later) ≡ whole

pub lessening_more : (f : ℕ → ℤ) (column : ℕ) (rest behind out after whole : List ℕ) (n m : ℤ) → FitsSigned w128 n → rest ≡ value_bytes Huge (Number n) ++ behind
    → m ≡ int_wrap w128 (n -ℤ f column) → after ≡ out ++ value_bytes Huge (Number m)
    → IsLessening f column rest out whole → IsLessening f (column + 1) behind after whole
lessening_more f column rest behind out after whole n m fit b is a going = by_later going.later going.fits going.less_fits going.bytes going.told
  where
    by_later : (later : List ℤ) → Fits128 later → Fits128 (less f column later) → rest ≡ numbers_bytes later → out ++ numbers_bytes (less f column later) ≡ whole
        → IsLessening f (column + 1) behind after whole
    by_later [] g h r t = absurd (let l : 16 + length behind ≡ 0 = sym (long n behind) ∙ ap length (sym b ∙ r) in omega (arith, l))
    by_later (k ∷ ks) g h r t =
        let both = signed_split w128 refl n k behind (numbers_bytes ks) fit g.0 (sym b ∙ r) in
        let this : m ≡ k -ℤ f column = is ∙ (ap (λ z. int_wrap w128 (z -ℤ f column)) both.0 ∙ int_wrap_fits w128 (k -ℤ f column) h.0) in
        subst (λ at. IsLessening f at behind after whole) (sym (add-one column)) (record {
          later = ks;
          fits = g.1;
          less_fits = h.1;
          bytes = both.1;
          told = ap (λ xs. xs ++ numbers_bytes (less f (suc column) ks)) a
              ∙ (ap (λ z. (out ++ value_bytes Huge (Number z)) ++ numbers_bytes (less f (suc column) ks)) this
              ∙ (append_assoc out (value_bytes Huge (Number (k -ℤ f column))) (numbers_bytes (less f (suc column) ks)) ∙ t));
        })

pub lessening_none : (f : ℕ → ℤ) (column : ℕ) (rest out whole : List ℕ) → length rest < 16 → IsLessening f column rest out whole → out ≡ whole
lessening_none f column rest out whole few going = by_later going.later going.bytes going.told
  where
    by_later : (later : List ℤ) → rest ≡ numbers_bytes later → out ++ numbers_bytes (less f column later) ≡ whole → out ≡ whole
    by_later [] r t = sym (append-nil out) ∙ t
    by_later (k ∷ ks) r t = absurd (let l : length rest ≡ 16 + length (numbers_bytes ks) = ap length r ∙ long k (numbers_bytes ks) in omega (arith, l, few))

-- ---- what is found

-- nothing is above where what is found first is of another place
abbrev pub is_none : Place → Option (Version Delta) → Bool
is_none p None = true
is_none p (Some v) = not (is_of p v)

none_of : (n : ℕ) (p : Place) (vs : List (Version Delta)) → is_empty p vs ≡ true → none_above n p vs ≡ true
none_of n p [] e = refl
none_of n p (v ∷ vs) e = by (is_of p v) refl e (λ x. none_of n p vs x)
  where
    by : (b : Bool) → is_of p v ≡ b → is_empty p (v ∷ vs) ≡ true → (is_empty p vs ≡ true → none_above n p vs ≡ true) → none_above n p (v ∷ vs) ≡ true
    by true of e rest = absurd (cc)
    by false of e rest = rw of (rest (cc))

pub none_by_first : (n : ℕ) (p : Place) (vs : List (Version Delta)) → AreInOrder vs → none_above n p vs ≡ is_none p (first_where (is_from true (p, n)) vs)
none_by_first n p [] h = refl
none_by_first n p (v ∷ vs) h = by (place_cmp p (place v)) (nat_lt n (number v)) refl refl (none_by_first n p vs h.1)
  where
    by : (w : Ordering) (b : Bool) → place_cmp p (place v) ≡ w → nat_lt n (number v) ≡ b
        → none_above n p vs ≡ is_none p (first_where (is_from true (p, n)) vs)
        → none_above n p (v ∷ vs) ≡ is_none p (first_where (is_from true (p, n)) (v ∷ vs))
    by Less b is less rest = rw is (rw is (none_of n p vs (none_after p v vs h is)))
    by Equal true is less rest = rw is (rw (is_lt_nat n (number v)) (rw less (rw is refl)))
    by Equal false is less rest = rw is (rw (is_lt_nat n (number v)) (rw less rest))
    by Greater b is less rest = rw is rest

pub due_of_nothing : (n : ℕ) (p : Place) (column : ℕ) (vs : List (Version Delta)) → none_above n p vs ≡ true → due n p column vs ≡ pos 0
due_of_nothing n p column [] e = refl
due_of_nothing n p column (v ∷ vs) e = by (is_of p v && nat_lt n (number v)) refl e (λ x. due_of_nothing n p column vs x)
  where
    by : (b : Bool) → (is_of p v && nat_lt n (number v)) ≡ b → none_above n p (v ∷ vs) ≡ true → (none_above n p vs ≡ true → due n p column vs ≡ pos 0) → due n p column (v ∷ vs) ≡ pos 0
    by true of e rest = absurd (cc)
    by false of e rest = ap (λ b. cond b (worth column v.1) (pos 0) +ℤ due n p column vs) of ∙ (zero_left (due n p column vs) ∙ rest (cc))

pub less_nothing : (f : ℕ → ℤ) (column : ℕ) (ns : List ℤ) → ((c : ℕ) → f c ≡ pos 0) → less f column ns ≡ ns
less_nothing f column [] z = refl
less_nothing f column (n ∷ ns) z = let here : n -ℤ f column ≡ n = without_zero n (f column) (z column) in ap (λ (m : ℤ). m ∷ less f (suc column) ns) here ∙ ap (λ (t : List ℤ). n ∷ t) (less_nothing f (suc column) ns z)

-- ---- the law

either : (b : Bool) (z : ℤ) → cond (b && false) z (pos 0) ≡ pos 0
either true z = refl
either false z = refl

due_chain : (n : ℕ) (p : Place) (column : ℕ) (vs : List (Version Delta)) → due n p column vs ≡ due n p column (chain_of p vs)
due_chain n p column [] = refl
due_chain n p column (v ∷ vs) = by (is_of p v) refl (due_chain n p column vs)
  where
    by : (b : Bool) → is_of p v ≡ b → due n p column vs ≡ due n p column (chain_of p vs) → due n p column (v ∷ vs) ≡ due n p column (chain_of p (v ∷ vs))
    by true of rest = ap (λ z. part n p column v +ℤ z) rest ∙ ap (due n p column) (sym (ap (λ b. cond b (v ∷ chain_of p vs) (chain_of p vs)) of))
    by false of rest = rw of (zero_left (due n p column vs) ∙ rest)

due_pruned : (n oldest : ℕ) (p : Place) (column : ℕ) (vs : List (Version Delta)) → oldest ≤ n → due n p column (above oldest vs) ≡ due n p column vs
due_pruned n oldest p column [] up = refl
due_pruned n oldest p column (v ∷ vs) up = by (nat_lt oldest (number v)) refl (due_pruned n oldest p column vs up)
  where
    by : (b : Bool) → nat_lt oldest (number v) ≡ b → due n p column (above oldest vs) ≡ due n p column vs → due n p column (above oldest (v ∷ vs)) ≡ due n p column (v ∷ vs)
    by true kept rest = rw kept (ap (λ z. part n p column v +ℤ z) rest)
    by false kept rest =
        let no : part n p column v ≡ pos 0 = ap (λ b. cond (is_of p v && b) (worth column v.1) (pos 0)) (not_above oldest n (number v) up kept) ∙ either (is_of p v) (worth column v.1) in
        rw kept (rest ∙ (sym (zero_left (due n p column vs)) ∙ ap (λ z. z +ℤ due n p column vs) (sym no)))

pub due_law : DueLaw
due_law calls h n kept p column =
    due_chain n p column (left_by calls).0
    ∙ (ap (due n p column) (chain_law calls h p)
    ∙ (sym (due_chain n p column (above (left_by calls).1 (pushed_by calls))) ∙ due_pruned n (left_by calls).1 p column (pushed_by calls) kept))
