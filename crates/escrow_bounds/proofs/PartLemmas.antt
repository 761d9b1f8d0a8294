-- The parts as a map.
use Rattle.std.proofs.Common.{◌≡◌, ℕ, suc, ◌<◌, ◌≤◌, Bool, true, false, cond, not, List, [], ◌∷◌, ◌++◌, length, nat_lt, refl, ap, sym, subst, ◌∙◌, arith}
use Rattle.std.specs.Prelude.{◌==◌, ◌≢◌, Option, Some, None, slice_index_or, slice_set, filter}
use Rattle.std.specs.List.{position_or_len, position}
use Rattle.std.specs.Ordering.{nat_cmp, eq_by_cmp}
use Rattle.std.specs.Cmp.{nat_cmp_total}
use Rattle.std.specs.FinMap.{FinMap, get, insert, remove, get-empty, get-insert, get-remove, same_map, nat_cmp-IsAntisymmetric}
use Rattle.std.proofs.lemmas.Bool.Decides.{nat_tests}
use Rattle.std.proofs.lemmas.List.Recursion.{is_position_or_len}
use Rattle.std.proofs.lemmas.Bool.{ltb-true, ltb-false}
use Rattle.iv_types.specs.declared.lock.Prefix.{Prefix}
use Rattle.escrow_bounds.specs.declared.part.Part.{Part}
use Rattle.escrow_bounds.specs.Parts.{parts_of, StandsAt}

pub tied : (q k : ℕ) → eq_by_cmp nat_cmp q k ≡ (q == k)
tied q k = grind (arith, nat_tests)

-- what a map answers after a change, with the keys' own test
pub get-inserted : {X : Type 0} (m : FinMap nat_cmp X) (k : ℕ) (v : X) (q : ℕ) → get (insert m k v) q ≡ cond (q == k) (Some v) (get m q)
get-inserted m k v q = get-insert nat_cmp_total m k v q ∙ ap (λ b. cond b (Some v) (get m q)) (tied q k)

pub get-removed : {X : Type 0} (m : FinMap nat_cmp X) (k q : ℕ) → get (remove m k) q ≡ cond (q == k) None (get m q)
get-removed m k q = get-remove nat_cmp_total m k q ∙ ap (λ b. cond b None (get m q)) (tied q k)

pub same : {X : Type 0} (m n : FinMap nat_cmp X) → ((q : ℕ) → get m q ≡ get n q) → m ≡ n
same m n h = same_map nat_cmp_total nat_cmp-IsAntisymmetric m n h

is_of : ℕ → Part → Bool
is_of session p = p.session == session

pub self_tie : (a : ℕ) → (a == a) ≡ true
self_tie a = grind (arith, nat_tests)

apart : (a b : ℕ) → (a == b) ≡ false → (b == a) ≡ false
apart a b h = grind (arith, nat_tests)

pub untied : (a b : ℕ) → a ≢ b → (a == b) ≡ false
untied a b h = grind (arith, nat_tests)

joined : (a b : ℕ) → (a == b) ≡ true → a ≡ b
joined a b h = grind (arith, nat_tests)

-- the first place of a session's part, and the number of parts where it has none
abbrev spot : ℕ → List Part → ℕ
spot session [] = 0
spot session (p ∷ ps) = cond (p.session == session) 0 (suc (spot session ps))

spot_is : (session : ℕ) (ps : List Part) → spot session ps ≡ position_or_len (is_of session) ps
unfolding is_of
spot_is session ps = is_position_or_len (spot session) (is_of session) refl (λ p ps. ap (λ n. cond (p.session == session) 0 n) (omega arith)) ps

twice : {A : Type 0} (b : Bool) (x y z : A) → cond b x (cond b y z) ≡ cond b x z
twice true x y z = refl
twice false x y z = refl

swapped : {A : Type 0} (b c : Bool) (x y z : A) → (b ≡ true → c ≡ true → ⊥) → cond b x (cond c y z) ≡ cond c y (cond b x z)
swapped true true x y z h = absurd (h refl refl)
swapped true false x y z h = refl
swapped false true x y z h = refl
swapped false false x y z h = refl

true_false : false ≡ true → ⊥
true_false h = cc

get_first : (p : Part) (ps : List Part) (q : ℕ) → get (parts_of (p ∷ ps)) q ≡ cond (q == p.session) (Some p.prefix) (get (parts_of ps) q)
get_first p ps q = get-inserted (parts_of ps) p.session p.prefix q

get_here : (p : Part) (ps : List Part) (q : ℕ) → (p.session == q) ≡ true → get (parts_of (p ∷ ps)) q ≡ Some p.prefix
get_here p ps q is =
    let e : p.session ≡ q = joined _ _ is in
    get_first p ps q ∙ ap (λ b. cond b (Some p.prefix) (get (parts_of ps) q)) (subst (λ (k : ℕ). (q == k) ≡ true) (sym e) (self_tie q))

get_past : (p : Part) (ps : List Part) (q : ℕ) → (p.session == q) ≡ false → get (parts_of (p ∷ ps)) q ≡ get (parts_of ps) q
get_past p ps q is = get_first p ps q ∙ ap (λ b. cond b (Some p.prefix) (get (parts_of ps) q)) (apart _ _ is)

found_at : (ps : List Part) (s : ℕ) (d : Part) → spot s ps < length ps → get (parts_of ps) s ≡ Some (slice_index_or ps (spot s ps) d).prefix
found_at [] s d h = absurd (omega arith)
found_at (p ∷ ps) s d h =
    elim (p.session == s) as (λ t. (p.session == s) ≡ t → cond t 0 (suc (spot s ps)) < length (p ∷ ps) → get (parts_of (p ∷ ps)) s ≡ Some (slice_index_or (p ∷ ps) (cond t 0 (suc (spot s ps))) d).prefix) [
      | true ↦ λ is h. get_here p ps s is
      | false ↦ λ is h. get_past p ps s is ∙ found_at ps s d (omega arith)
    ] refl h

none_at : (ps : List Part) (s : ℕ) → length ps ≤ spot s ps → get (parts_of ps) s ≡ None
none_at [] s h = get-empty nat_cmp s
none_at (p ∷ ps) s h =
    elim (p.session == s) as (λ t. (p.session == s) ≡ t → length (p ∷ ps) ≤ cond t 0 (suc (spot s ps)) → get (parts_of (p ∷ ps)) s ≡ None) [
      | true ↦ λ is h. absurd (omega arith)
      | false ↦ λ is h. get_past p ps s is ∙ none_at ps s (omega arith)
    ] refl h

abbrev pub made : ℕ → Prefix → Part
made s v = record { session = s; prefix = v }

put_at : (ps : List Part) (s : ℕ) (v : Prefix) (q : ℕ) → spot s ps < length ps → get (parts_of (slice_set ps (spot s ps) (made s v))) q ≡ cond (q == s) (Some v) (get (parts_of ps) q)
put_at [] s v q h = absurd (omega arith)
put_at (p ∷ ps) s v q h =
    elim (p.session == s) as (λ t. (p.session == s) ≡ t → cond t 0 (suc (spot s ps)) < length (p ∷ ps) → get (parts_of (slice_set (p ∷ ps) (cond t 0 (suc (spot s ps))) (made s v))) q ≡ cond (q == s) (Some v) (get (parts_of (p ∷ ps)) q)) [
      | true ↦ λ is h.
          let e : p.session ≡ s = joined _ _ is in
          get_first (made s v) ps q
          ∙ sym (ap (cond (q == s) (Some v)) (get_first p ps q) ∙ ap (λ k. cond (q == s) (Some v) (cond (q == k) (Some p.prefix) (get (parts_of ps) q))) e ∙ twice (q == s) _ _ _)
      | false ↦ λ is h.
          get_first p (slice_set ps (spot s ps) (made s v)) q
          ∙ ap (cond (q == p.session) (Some p.prefix)) (put_at ps s v q (omega arith))
          ∙ swapped (q == p.session) (q == s) _ _ _ (λ a b. absurd (true_false (sym is ∙ ap (λ k. k == s) (sym (joined _ _ a)) ∙ b)))
          ∙ sym (ap (cond (q == s) (Some v)) (get_first p ps q))
    ] refl h

some_none : {A : Type 0} {x : A} → Some x ≡ None → ⊥
some_none h = cc

some-injective : {A : Type 0} {x y : A} → Some x ≡ Some y → x ≡ y
some-injective h = cc

from_position : (b : Bool) (k i : ℕ) → cond b (Some k) None ≡ Some i → (b ≡ true) × (i ≡ k)
from_position true k i h = (refl, sym (some-injective h))
from_position false k i h = absurd (some_none (sym h))

from_none : (b : Bool) (k : ℕ) → cond b (Some k) None ≡ None → b ≡ false
from_none true k h = absurd (some_none h)
from_none false k h = refl

-- what `place` finds
pub stands_at : (ps : List Part) (s i : ℕ) → position (λ p. p.session == s) ps ≡ Some i → StandsAt ps s i
unfolding is_of
stands_at ps s i h =
    let e : spot s ps ≡ position_or_len (λ p. p.session == s) ps = spot_is s ps in
    let f : (nat_lt (position_or_len (λ p. p.session == s) ps) (length ps) ≡ true) × (i ≡ position_or_len (λ p. p.session == s) ps) = from_position _ _ _ h in
    let at : i ≡ spot s ps = f.1 ∙ sym e in
    let below : nat_lt (spot s ps) (length ps) ≡ true = ap (λ k. nat_lt k (length ps)) e ∙ f.0 in
    let lt : spot s ps < length ps = ltb-true _ _ below in
    subst (StandsAt ps s) (sym at) (record {
      within = lt;
      found = λ d. found_at ps s d lt;
      put = λ p. same _ _ (λ q. put_at ps s p q lt ∙ sym (get-inserted (parts_of ps) s p q));
    })

pub stands_nowhere : (ps : List Part) (s : ℕ) → position (λ p. p.session == s) ps ≡ None → get (parts_of ps) s ≡ None
unfolding is_of
stands_nowhere ps s h =
    let e : spot s ps ≡ position_or_len (λ p. p.session == s) ps = spot_is s ps in
    let f : nat_lt (position_or_len (λ p. p.session == s) ps) (length ps) ≡ false = from_none _ _ h in
    none_at ps s (ltb-false _ _ (ap (λ k. nat_lt k (length ps)) e ∙ f))

-- what `remove` leaves
none_either : (b : Bool) → ◌≡◌ {A = Option Prefix} None (cond b None None)
none_either true = refl
none_either false = refl

get_kept : (ps : List Part) (s q : ℕ) → get (parts_of (filter (λ p. not (p.session == s)) ps)) q ≡ cond (q == s) None (get (parts_of ps) q)
get_kept [] s q = get-empty nat_cmp q ∙ none_either (q == s) ∙ sym (ap (cond (q == s) None) (get-empty nat_cmp q))
get_kept (p ∷ ps) s q =
    elim (p.session == s) as (λ t. (p.session == s) ≡ t → get (parts_of (cond (not t) (p ∷ filter (λ p. not (p.session == s)) ps) (filter (λ p. not (p.session == s)) ps))) q ≡ cond (q == s) None (get (parts_of (p ∷ ps)) q)) [
      | true ↦ λ is.
          let e : p.session ≡ s = joined _ _ is in
          get_kept ps s q
          ∙ sym (ap (cond (q == s) None) (get_first p ps q) ∙ ap (λ k. cond (q == s) None (cond (q == k) (Some p.prefix) (get (parts_of ps) q))) e ∙ twice (q == s) _ _ _)
      | false ↦ λ is.
          get_first p (filter (λ p. not (p.session == s)) ps) q
          ∙ ap (cond (q == p.session) (Some p.prefix)) (get_kept ps s q)
          ∙ swapped (q == p.session) (q == s) _ _ _ (λ a b. absurd (true_false (sym is ∙ ap (λ k. k == s) (sym (joined _ _ a)) ∙ b)))
          ∙ sym (ap (cond (q == s) None) (get_first p ps q))
    ] refl

pub without_parts : (ps : List Part) (s : ℕ) → parts_of (filter (λ p. not (p.session == s)) ps) ≡ remove (parts_of ps) s
without_parts ps s = same _ _ (λ q. get_kept ps s q ∙ sym (get-removed (parts_of ps) s q))

-- what `push` adds
get_pushed : (ps : List Part) (s : ℕ) (v : Prefix) (q : ℕ) → get (parts_of ps) s ≡ None → get (parts_of (ps ++ made s v ∷ [])) q ≡ cond (q == s) (Some v) (get (parts_of ps) q)
get_pushed [] s v q h = get_first (made s v) [] q
get_pushed (p ∷ ps) s v q h =
    elim (p.session == s) as (λ t. (p.session == s) ≡ t → get (parts_of (p ∷ (ps ++ made s v ∷ []))) q ≡ cond (q == s) (Some v) (get (parts_of (p ∷ ps)) q)) [
      | true ↦ λ is. absurd (some_none (sym (get_here p ps s is) ∙ h))
      | false ↦ λ is.
          get_first p (ps ++ made s v ∷ []) q
          ∙ ap (cond (q == p.session) (Some p.prefix)) (get_pushed ps s v q (sym (get_past p ps s is) ∙ h))
          ∙ swapped (q == p.session) (q == s) _ _ _ (λ a b. absurd (true_false (sym is ∙ ap (λ k. k == s) (sym (joined _ _ a)) ∙ b)))
          ∙ sym (ap (cond (q == s) (Some v)) (get_first p ps q))
    ] refl

pub with_pushed : (ps : List Part) (s : ℕ) (v : Prefix) → get (parts_of ps) s ≡ None → parts_of (ps ++ made s v ∷ []) ≡ insert (parts_of ps) s v
with_pushed ps s v h = same _ _ (λ q. get_pushed ps s v q h ∙ sym (get-inserted (parts_of ps) s v q))
