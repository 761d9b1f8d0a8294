-- A reader under larger limits: it reads the same, and goes beyond where a limit was met.
use Rattle.std.proofs.Common.{◌≡◌, ℕ, zero, suc, ◌<◌, ◌≤◌, Bool, true, false, cond, List, [], ◌∷◌, length, Option, Some, None, Result, Ok, Err, refl, sym, ap, subst, ◌∙◌, arith, inl, inr}
use Rattle.std.specs.Prelude.{is_some, ◌==◌, ◌&&◌, nat_le}
use Rattle.std.proofs.lemmas.List.{length-append}
use Rattle.text_grammar.specs.declared.fault.Cause.{Cause}
use Rattle.text_grammar.specs.declared.fault.Cause.TheVariants.{Syntax, Limit}
use Rattle.text_grammar.specs.declared.fault.Fault.{Fault}
use Rattle.text_grammar.specs.Readers.{Reader, ◌>>=◌, fault_at, starts, accept, one, one_or, both, mapped, behind, either, perhaps, refused, goes_first, blocked, folded_by, folded, row}
use Rattle.text_grammar.specs.Languages.{Lang}
use Rattle.text_grammar.proofs.Exactness.{Exact, the_test, the_result, err_is}
use Rattle.text_grammar.proofs.Repeating.{Consumes}
use Rattle.text_grammar.proofs.Blocking.{first_goes, first_is, blocked_first, blocked_else}

-- read or faulted with fewer than n tokens left
abbrev pub Beyond : {T A : Type 0} → ℕ → Result (A × List T) Fault → Type 0
Beyond n (Ok x) = length x.1 < n
Beyond n (Err g) = g.left < n

-- read or faulted with no more than n tokens left
abbrev pub Within : {T A : Type 0} → ℕ → Result (A × List T) Fault → Type 0
Within n (Ok x) = length x.1 ≤ n
Within n (Err g) = g.left ≤ n

-- whether the cause is a limit that is raised where the limits of all numbers from w on are
abbrev pub raised : ℕ → Cause → Bool
raised w Syntax = false
raised w (Limit v) = nat_le w v

-- Under larger limits the result is the same, but for a fault whose limit is raised: there more tokens are read.
abbrev pub OutrunsBy : {T A : Type 0} → Bool → Fault → Result (A × List T) Fault → Type 0
OutrunsBy true f y = Beyond f.left y
OutrunsBy false f y = y ≡ Err f

abbrev pub Outruns : {T A : Type 0} → ℕ → Result (A × List T) Fault → Result (A × List T) Fault → Type 0
Outruns w (Ok x) y = y ≡ Ok x
Outruns w (Err f) y = OutrunsBy (raised w f.cause) f y

-- of each text
abbrev pub Extends : {T A : Type 0} → ℕ → Reader T A → Reader T A → Type 0
Extends {T = T} w r s = (ts : List T) → Outruns w (r ts) (s ts)

-- leaves or faults at no more tokens than there were
abbrev pub Stays : {T A : Type 0} → Reader T A → Type 0
Stays {T = T} r = (ts : List T) → Within (length ts) (r ts)

-- a reader of a language stays
pub exact_stays : {T A : Type 0} (p : Lang T A) (on : T → Bool) (r : Reader T A) → Exact p on r → Stays r
exact_stays {T = T} {A = A} p on r re ts =
    elim (the_result (r ts)) [
      | inl x ↦ let k = re.ok ts x.0 x.1 in let le : length x.0.1 ≤ length ts = omega (arith, ap length k.text, length-append k.front x.0.1) in subst (λ (z : Result (A × List T) Fault). Within (length ts) z) (sym x.1) le
      | inr d ↦ let k = re.err ts d.0 d.1 in let le : d.0.left ≤ length ts = omega (arith, ap length k.text, length-append k.front k.rest, ap (λ (g : Fault). g.left) k.place) in subst (λ (z : Result (A × List T) Fault). Within (length ts) z) (sym d.1) le
    ]

within_below : {T A : Type 0} (n m : ℕ) (z : Result (A × List T) Fault) → Within n z → n < m → Beyond m z
within_below n m (Ok x) h lt = omega arith
within_below n m (Err g) h lt = omega arith

beyond_bind : {T A B : Type 0} (n : ℕ) (y : Result (A × List T) Fault) (g : A × List T → Result (B × List T) Fault) → Beyond n y → ((a : A × List T) → Within (length a.1) (g a)) → Beyond n (y >>= g)
beyond_bind n (Ok b) g h stay = within_below (length b.1) n (g b) (stay b) h
beyond_bind n (Err d) g h stay = h

outruns_err : {T A B : Type 0} (b : Bool) (f : Fault) (y : Result (A × List T) Fault) (g : A × List T → Result (B × List T) Fault) → OutrunsBy b f y → ((a : A × List T) → Within (length a.1) (g a)) → OutrunsBy b f (y >>= g)
outruns_err true f y g h stay = beyond_bind f.left y g h stay
outruns_err false f y g h stay = rw h refl

outruns_bind : {T A B : Type 0} (w : ℕ) (x y : Result (A × List T) Fault) (f g : A × List T → Result (B × List T) Fault) → Outruns w x y → ((a : A × List T) → x ≡ Ok a → Outruns w (f a) (g a)) → ((a : A × List T) → Within (length a.1) (g a)) → Outruns w (x >>= f) (y >>= g)
outruns_bind w (Ok a) y f g h k stay = rw h (k a refl)
outruns_bind w (Err d) y f g h k stay = outruns_err (raised w d.cause) d y g h stay

-- What one token does under larger limits: where it was picked it is picked as it was; where its refusal was for a limit
-- that is raised it is picked, and where it was not it is refused as it was.
abbrev pub Picks : {A : Type 0} → Bool → (why why' : Cause) → (o o' : Option A) → Type 0
Picks up why why' (Some a) o' = o' ≡ Some a
Picks true why why' None o' = is_some o' ≡ true
Picks false why why' None o' = (o' ≡ None) × (why' ≡ why)

abbrev pub PicksMore : {T A : Type 0} → ℕ → (why why' : T → Cause) → (pick pick' : T → Option A) → T → Type 0
PicksMore w why why' pick pick' t = Picks (raised w (why t)) (why t) (why' t) (pick t) (pick' t)

accept_beyond : {T A : Type 0} (why : Cause) (o : Option A) (t : T) (ts : List T) → is_some o ≡ true → Beyond (length (t ∷ ts)) (accept why o (t ∷ ts) ts)
accept_beyond why (Some a) t ts h = omega arith
accept_beyond why None t ts h = absurd cc

accept_none : {T A : Type 0} (b : Bool) (why why' : Cause) (o : Option A) (t : T) (ts : List T) → Picks b why why' None o → OutrunsBy b (fault_at why (t ∷ ts)) (accept why' o (t ∷ ts) ts)
accept_none true why why' o t ts h = accept_beyond why' o t ts h
accept_none false why why' o t ts h = rw (h.0, h.1) refl

accept_outruns : {T A : Type 0} (w : ℕ) (why why' : Cause) (o o' : Option A) (t : T) (ts : List T) → Picks (raised w why) why why' o o' → Outruns w (accept why o (t ∷ ts) ts) (accept why' o' (t ∷ ts) ts)
accept_outruns w why why' (Some a) o' t ts h = rw h refl
accept_outruns w why why' None o' t ts h = accept_none (raised w why) why why' o' t ts h

-- one token, under larger limits
pub one_or_extends : {T A : Type 0} (w : ℕ) (why why' : T → Cause) (pick pick' : T → Option A) → ((t : T) → PicksMore w why why' pick pick' t) → Extends w (one_or why pick) (one_or why' pick')
one_or_extends w why why' pick pick' h [] = refl
one_or_extends w why why' pick pick' h (t ∷ ts) = accept_outruns w (why t) (why' t) (pick t) (pick' t) t ts (h t)

picks_of : {A : Type 0} (up : Bool) (why why' : Cause) (o o' : Option A) → ((a : A) → o ≡ Some a → o' ≡ Some a) → (o ≡ None → up ≡ true → is_some o' ≡ true) → (o ≡ None → up ≡ false → (o' ≡ None) × (why' ≡ why)) → Picks up why why' o o'
picks_of up why why' (Some a) o' some more same = some a refl
picks_of true why why' None o' some more same = more refl refl
picks_of false why why' None o' some more same = same refl refl

-- the three cases one by one
pub picks_more : {T A : Type 0} (w : ℕ) (why why' : T → Cause) (pick pick' : T → Option A) (t : T) → ((a : A) → pick t ≡ Some a → pick' t ≡ Some a) → (pick t ≡ None → raised w (why t) ≡ true → is_some (pick' t) ≡ true) → (pick t ≡ None → raised w (why t) ≡ false → (pick' t ≡ None) × (why' t ≡ why t)) → PicksMore w why why' pick pick' t
picks_more w why why' pick pick' t some more same = picks_of (raised w (why t)) (why t) (why' t) (pick t) (pick' t) some more same

-- a token that is refused for no limit that is raised
pub one_or_same : {T A : Type 0} (w : ℕ) (why : T → Cause) (pick : T → Option A) → ((t : T) → pick t ≡ None → raised w (why t) ≡ false) → Extends w (one_or why pick) (one_or why pick)
one_or_same w why pick low = one_or_extends w why why pick pick (λ t. picks_more w why why pick pick t (λ a h. h) (λ none up. absurd (let down = low t none in cc)) (λ none down. (none, refl)))

-- one token is read as it was
pub one_extends : {T A : Type 0} (w : ℕ) (pick : T → Option A) → Extends w (one pick) (one pick)
one_extends w pick = one_or_same w (λ _. Syntax) pick (λ t none. refl)

-- made of what was read
pub mapped_extends : {T A B : Type 0} (w : ℕ) (f : A → B) (r s : Reader T A) → Extends w r s → Extends w (mapped f r) (mapped f s)
mapped_extends w f r s h ts = outruns_bind w (r ts) (s ts) (λ x. Ok (f x.0, x.1)) (λ x. Ok (f x.0, x.1)) (h ts) (λ a is. refl) (λ a. omega arith)

within_more : {T A : Type 0} (n m : ℕ) (z : Result (A × List T) Fault) → Within n z → n ≤ m → Within m z
within_more n m (Ok x) h le = omega arith
within_more n m (Err g) h le = omega arith

within_bind : {T A B : Type 0} (n : ℕ) (y : Result (A × List T) Fault) (g : A × List T → Result (B × List T) Fault) → Within n y → ((a : A × List T) → Within (length a.1) (g a)) → Within n (y >>= g)
within_bind n (Ok b) g h stay = within_more (length b.1) n (g b) (stay b) h
within_bind n (Err d) g h stay = h

-- one after the other, where of what the first reads only some values can be
pub both_extends_in : {T A B : Type 0} (w : ℕ) (r r' : Reader T A) (s s' : A → Reader T B) (In : A → Type 0) → Extends w r r' → ((ts : List T) (x : A × List T) → r ts ≡ Ok x → In x.0) → ((a : A) → In a → Extends w (s a) (s' a)) → ((a : A) → Stays (s' a)) → Extends w (both r s) (both r' s')
both_extends_in w r r' s s' In h found k stay ts =
    outruns_bind w (r ts) (r' ts) (λ x. s x.0 x.1 >>= λ y. Ok ((x.0, y.0), y.1)) (λ x. s' x.0 x.1 >>= λ y. Ok ((x.0, y.0), y.1)) (h ts)
    (λ a is. outruns_bind w (s a.0 a.1) (s' a.0 a.1) (λ y. Ok ((a.0, y.0), y.1)) (λ y. Ok ((a.0, y.0), y.1)) (k a.0 (found ts a is) a.1) (λ b is. refl) (λ b. omega arith))
    (λ a. within_bind (length a.1) (s' a.0 a.1) (λ y. Ok ((a.0, y.0), y.1)) (stay a.0 a.1) (λ b. omega arith))

-- one after the other
pub both_extends : {T A B : Type 0} (w : ℕ) (r r' : Reader T A) (s s' : A → Reader T B) → Extends w r r' → ((a : A) → Extends w (s a) (s' a)) → ((a : A) → Stays (s' a)) → Extends w (both r s) (both r' s')
both_extends w r r' s s' h k stay = both_extends_in w r r' s s' (λ _. Unit {0}) h (λ ts x e. tt) (λ a _. k a) stay

-- on tokens that pass the test
abbrev pub ExtendsOn : {T A : Type 0} → ℕ → (T → Bool) → Reader T A → Reader T A → Type 0
ExtendsOn {T = T} w test r s = (ts : List T) → starts test ts ≡ true → Outruns w (r ts) (s ts)

guard_outruns : {T A : Type 0} (w : ℕ) (b : Bool) (x y : Result (A × List T) Fault) (z : Result (A × List T) Fault) → (b ≡ true → Outruns w x y) → Outruns w z z → Outruns w (cond b x z) (cond b y z)
guard_outruns w true x y z h k = h refl
guard_outruns w false x y z h k = k

-- behind a token
pub behind_extends : {T A B : Type 0} (w : ℕ) (pick : T → Option A) (r s : Reader T B) → Extends w r s → Extends w (behind pick r) (behind pick s)
behind_extends w pick r s h [] = refl
behind_extends w pick r s h (t ∷ ts) = guard_outruns w (is_some (pick t)) (r ts) (s ts) (Err (fault_at Syntax (t ∷ ts))) (λ e. h ts) refl

choice_outruns : {T A : Type 0} (w : ℕ) (b : Bool) (x y : Result (A × List T) Fault) (z z' : Result (A × List T) Fault) → (b ≡ true → Outruns w x y) → Outruns w z z' → Outruns w (cond b x z) (cond b y z')
choice_outruns w true x y z z' h k = h refl
choice_outruns w false x y z z' h k = k

-- one or the other: the first matters where the test passes
pub either_extends : {T A : Type 0} (w : ℕ) (test : T → Bool) (r r' s s' : Reader T A) → ExtendsOn w test r r' → Extends w s s' → Extends w (either test r s) (either test r' s')
either_extends w test r r' s s' h k ts = choice_outruns w (starts test ts) (r ts) (r' ts) (s ts) (s' ts) (h ts) (k ts)

-- a value or none: the value matters where the test passes
pub perhaps_extends_on : {T A : Type 0} (w : ℕ) (test : T → Bool) (r s : Reader T A) → ExtendsOn w test r s → Extends w (perhaps test r) (perhaps test s)
perhaps_extends_on w test r s h ts = guard_outruns w (starts test ts) (r ts >>= (λ x. Ok (Some x.0, x.1))) (s ts >>= (λ x. Ok (Some x.0, x.1))) (Ok (None, ts)) (λ e. outruns_bind w (r ts) (s ts) (λ x. Ok (Some x.0, x.1)) (λ x. Ok (Some x.0, x.1)) (h ts e) (λ a is. refl) (λ a. omega arith)) refl

pub perhaps_extends : {T A : Type 0} (w : ℕ) (test : T → Bool) (r s : Reader T A) → Extends w r s → Extends w (perhaps test r) (perhaps test s)
perhaps_extends w test r s h = perhaps_extends_on w test r s (λ ts e. h ts)

guard_within : {T A : Type 0} (n : ℕ) (b : Bool) (x z : Result (A × List T) Fault) → Within n x → Within n z → Within n (cond b x z)
guard_within n true x z h k = h
guard_within n false x z h k = k

folded_stays : {T A B : Type 0} (test : T → Bool) (step : A → B → A) (r : A → Reader T B) (n : ℕ) (acc : A) → ((c : A) → Stays (r c)) → Stays (folded_by test step r n acc)
unfolding folded_by
folded_stays test step r zero acc stay ts = omega arith
folded_stays test step r (suc n) acc stay ts = guard_within (length ts) (starts test ts) (r acc ts >>= (λ x. folded_by test step r n (step acc x.0) x.1)) (Ok (acc, ts)) (within_bind (length ts) (r acc ts) (λ x. folded_by test step r n (step acc x.0) x.1) (stay acc ts) (λ a. folded_stays test step r n (step acc a.0) stay a.1)) (omega arith)

folded_extends : {T A B : Type 0} (w : ℕ) (test : T → Bool) (step : A → B → A) (r s : A → Reader T B) (In : A → Type 0) (n : ℕ) (acc : A) → In acc → ((c : A) → In c → ExtendsOn w test (r c) (s c)) → ((c : A) (ts : List T) (x : B × List T) → In c → r c ts ≡ Ok x → In (step c x.0)) → ((c : A) → Stays (s c)) → Extends w (folded_by test step r n acc) (folded_by test step s n acc)
unfolding folded_by
folded_extends w test step r s In zero acc i h keep stay ts = refl
folded_extends w test step r s In (suc n) acc i h keep stay ts =
    guard_outruns w (starts test ts) (r acc ts >>= (λ x. folded_by test step r n (step acc x.0) x.1)) (s acc ts >>= (λ x. folded_by test step s n (step acc x.0) x.1)) (Ok (acc, ts))
    (λ e. outruns_bind w (r acc ts) (s acc ts) (λ x. folded_by test step r n (step acc x.0) x.1) (λ x. folded_by test step s n (step acc x.0) x.1) (h acc i ts e) (λ a is. folded_extends w test step r s In n (step acc a.0) (keep acc ts a i is) h keep stay a.1) (λ a. folded_stays test step s n (step acc a.0) stay a.1))
    refl

-- A row, where only some values can have been made before an item. A limit on how long a row is needs this: behind more
-- items than the limit lets through, a larger limit may block an item too.
pub row_extends_in : {T A B C : Type 0} (w : ℕ) (test : T → Bool) (init : A → C) (step : C → B → C) (r r' : Reader T A) (s s' : C → Reader T B) (In : C → Type 0) → Extends w r r' → ((ts : List T) (x : A × List T) → r ts ≡ Ok x → In (init x.0)) → ((c : C) → In c → ExtendsOn w test (s c) (s' c)) → ((c : C) (ts : List T) (x : B × List T) → In c → s c ts ≡ Ok x → In (step c x.0)) → ((c : C) → Stays (s' c)) → Extends w (row test init step r s) (row test init step r' s')
row_extends_in w test init step r r' s s' In h found k keep stay ts =
    outruns_bind w (r ts) (r' ts) (λ x. folded test step s (init x.0) x.1) (λ x. folded test step s' (init x.0) x.1) (h ts) (λ a is. folded_extends w test step s s' In (length a.1) (init a.0) (found ts a is) k keep stay a.1) (λ a. folded_stays test step s' (length a.1) (init a.0) stay a.1)

-- a row, whose items matter where the test passes
pub row_extends : {T A B C : Type 0} (w : ℕ) (test : T → Bool) (init : A → C) (step : C → B → C) (r r' : Reader T A) (s s' : C → Reader T B) → Extends w r r' → ((c : C) → ExtendsOn w test (s c) (s' c)) → ((c : C) → Stays (s' c)) → Extends w (row test init step r s) (row test init step r' s')
row_extends w test init step r r' s s' h k stay = row_extends_in w test init step r r' s s' (λ _. Unit {0}) h (λ ts x e. tt) (λ c _. k c) (λ c ts x _ e. tt) stay

-- goes beyond its first token where the test passes
abbrev pub Leaves : {T A : Type 0} → (T → Bool) → Reader T A → Type 0
Leaves {T = T} test r = (ts : List T) → starts test ts ≡ true → Beyond (length ts) (r ts)

guard_beyond : {T A : Type 0} (n : ℕ) (b : Bool) (x z : Result (A × List T) Fault) → b ≡ true → Beyond n x → Beyond n (cond b x z)
guard_beyond n true x z e h = h
guard_beyond n false x z e h = absurd cc

-- behind a token that passes more is read
pub behind_leaves : {T A B : Type 0} (pick : T → Option A) (r : Reader T B) → Stays r → Leaves (λ t. is_some (pick t)) (behind pick r)
behind_leaves pick r stay [] e = absurd cc
behind_leaves pick r stay (t ∷ ts) e = guard_beyond (length (t ∷ ts)) (is_some (pick t)) (r ts) (Err (fault_at Syntax (t ∷ ts))) e (within_below (length ts) (length (t ∷ ts)) (r ts) (stay ts) (omega arith))

-- readers stay where their parts stay
pub mapped_stays : {T A B : Type 0} (f : A → B) (r : Reader T A) → Stays r → Stays (mapped f r)
mapped_stays f r stay ts = within_bind (length ts) (r ts) (λ x. Ok (f x.0, x.1)) (stay ts) (λ a. omega arith)

pub both_stays : {T A B : Type 0} (r : Reader T A) (s : A → Reader T B) → Stays r → ((a : A) → Stays (s a)) → Stays (both r s)
both_stays r s stay more ts = within_bind (length ts) (r ts) (λ x. s x.0 x.1 >>= λ y. Ok ((x.0, y.0), y.1)) (stay ts) (λ a. within_bind (length a.1) (s a.0 a.1) (λ y. Ok ((a.0, y.0), y.1)) (more a.0 a.1) (λ b. omega arith))

pub perhaps_stays : {T A : Type 0} (test : T → Bool) (r : Reader T A) → Stays r → Stays (perhaps test r)
perhaps_stays test r stay ts = guard_within (length ts) (starts test ts) (r ts >>= (λ x. Ok (Some x.0, x.1))) (Ok (None, ts)) (within_bind (length ts) (r ts) (λ x. Ok (Some x.0, x.1)) (stay ts) (λ a. omega arith)) (omega arith)

pub behind_stays : {T A B : Type 0} (pick : T → Option A) (r : Reader T B) → Stays r → Stays (behind pick r)
behind_stays pick r stay [] = omega arith
behind_stays pick r stay (t ∷ ts) = guard_within (length (t ∷ ts)) (is_some (pick t)) (r ts) (Err (fault_at Syntax (t ∷ ts))) (within_more (length ts) (length (t ∷ ts)) (r ts) (stay ts) (omega arith)) (omega arith)

pub either_stays : {T A : Type 0} (test : T → Bool) (r s : Reader T A) → Stays r → Stays s → Stays (either test r s)
either_stays test r s stay more ts = guard_within (length ts) (starts test ts) (r ts) (s ts) (stay ts) (more ts)

accept_stays : {T A : Type 0} (why : Cause) (o : Option A) (t : T) (ts : List T) → Within (length (t ∷ ts)) (accept why o (t ∷ ts) ts)
accept_stays why (Some a) t ts = omega arith
accept_stays why None t ts = omega arith

pub one_or_stays : {T A : Type 0} (why : T → Cause) (pick : T → Option A) → Stays (one_or why pick)
one_or_stays why pick [] = omega arith
one_or_stays why pick (t ∷ ts) = accept_stays (why t) (pick t) t ts

pub one_stays : {T A : Type 0} (pick : T → Option A) → Stays (one pick)
one_stays pick = one_or_stays (λ _. Syntax) pick

pub refused_stays : {T : Type 0} (A : Type 0) (cause : Cause) → Stays {T = T} {A = A} (refused cause)
refused_stays A cause ts = omega arith

pub row_stays : {T A B C : Type 0} (test : T → Bool) (init : A → C) (step : C → B → C) (r : Reader T A) (s : C → Reader T B) → Stays r → ((c : C) → Stays (s c)) → Stays (row test init step r s)
row_stays test init step r s stay more ts = within_bind (length ts) (r ts) (λ x. folded test step s (init x.0) x.1) (stay ts) (λ a. folded_stays test step s (length a.1) (init a.0) more a.1)

-- ---- readers that go beyond the first token

-- what is read first says whether the whole leaves
pub mapped_leaves : {T A B : Type 0} (test : T → Bool) (f : A → B) (r : Reader T A) → Leaves test r → Leaves test (mapped f r)
mapped_leaves test f r leave ts e = beyond_bind (length ts) (r ts) (λ x. Ok (f x.0, x.1)) (leave ts e) (λ a. omega arith)

pub both_leaves : {T A B : Type 0} (test : T → Bool) (r : Reader T A) (s : A → Reader T B) → Leaves test r → ((a : A) → Stays (s a)) → Leaves test (both r s)
both_leaves test r s leave more ts e = beyond_bind (length ts) (r ts) (λ x. s x.0 x.1 >>= λ y. Ok ((x.0, y.0), y.1)) (leave ts e) (λ a. within_bind (length a.1) (s a.0 a.1) (λ y. Ok ((a.0, y.0), y.1)) (more a.0 a.1) (λ b. omega arith))

pub row_leaves : {T A B C : Type 0} (test on : T → Bool) (init : A → C) (step : C → B → C) (r : Reader T A) (s : C → Reader T B) → Leaves test r → ((c : C) → Stays (s c)) → Leaves test (row on init step r s)
row_leaves test on init step r s leave more ts e = beyond_bind (length ts) (r ts) (λ x. folded on step s (init x.0) x.1) (leave ts e) (λ a. folded_stays on step s (length a.1) (init a.0) more a.1)

-- ---- refusals

-- a refusal for a limit that is not raised stays
pub refused_extends : {T : Type 0} (A : Type 0) (w : ℕ) (cause : Cause) → raised w cause ≡ false → Extends {T = T} {A = A} w (refused cause) (refused cause)
refused_extends A w cause h ts = rw h refl

-- a refusal for a limit that is raised gives way to a reader that goes beyond the first token
pub refused_raised : {T A : Type 0} (w : ℕ) (cause : Cause) (test : T → Bool) (s : Reader T A) → raised w cause ≡ true → Leaves test s → ExtendsOn w test (refused cause) s
refused_raised w cause test s h leave ts e = rw h (leave ts e)

number_below : (a b : ℕ) → nat_le a b ≡ true → a ≤ b
number_below a b h = grind arith

number_above : (a b : ℕ) → nat_le a b ≡ false → b < a
number_above a b h = grind arith

not_below : (a b : ℕ) → b < a → nat_le a b ≡ false
not_below a b h = grind arith

is_below : (a b : ℕ) → a ≤ b → nat_le a b ≡ true
is_below a b h = grind arith

-- a cause that goes before a limit that is not raised is not raised
goes_unraised : (w v : ℕ) (cause : Cause) → nat_le w v ≡ false → goes_first cause (Limit v) ≡ true → raised w cause ≡ false
goes_unraised w v Syntax h k = refl
goes_unraised w v (Limit u) h k = let lt : v < w = number_above w v h in let le : suc u ≤ v = number_below (suc u) v k in not_below w u (omega arith)

-- a cause that does not go before a limit that is raised is raised
stays_raised : (w v : ℕ) (cause : Cause) → nat_le w v ≡ true → goes_first cause (Limit v) ≡ false → raised w cause ≡ true
stays_raised w v Syntax h k = absurd cc
stays_raised w v (Limit u) h k = let le : w ≤ v = number_below w v h in let ge : v < suc u = number_above (suc u) v k in is_below w u (omega arith)

-- ---- what larger limits give where it is known what was given

-- what was read stays read
pub outruns_ok : {T A : Type 0} (w : ℕ) (x y : Result (A × List T) Fault) (a : A × List T) → Outruns w x y → x ≡ Ok a → y ≡ Ok a
outruns_ok w (Ok b) y a h e = h ∙ e
outruns_ok w (Err d) y a h e = absurd cc

-- a fault stays, or is passed where its limit is raised
pub outruns_fault : {T A : Type 0} (w : ℕ) (x y : Result (A × List T) Fault) (f : Fault) → Outruns w x y → x ≡ Err f → OutrunsBy (raised w f.cause) f y
outruns_fault w (Ok b) y f h e = absurd cc
outruns_fault {T = T} {A = A} w (Err d) y f h e = subst (λ (g : Fault). OutrunsBy (raised w g.cause) g y) (err_is {A = A × List T} d f e) h

-- a fault whose limit is not raised stays
pub outruns_same : {T A : Type 0} (w : ℕ) (x y : Result (A × List T) Fault) (f : Fault) → Outruns w x y → x ≡ Err f → raised w f.cause ≡ false → y ≡ Err f
outruns_same w x y f h e low = subst (λ (b : Bool). OutrunsBy b f y) low (outruns_fault w x y f h e)

-- a fault whose limit is raised is passed
pub outruns_beyond : {T A : Type 0} (w : ℕ) (x y : Result (A × List T) Fault) (f : Fault) → Outruns w x y → x ≡ Err f → raised w f.cause ≡ true → Beyond f.left y
outruns_beyond w x y f h e up = subst (λ (b : Bool). OutrunsBy b f y) up (outruns_fault w x y f h e)

same_outruns : {T A : Type 0} (w : ℕ) (x y : Result (A × List T) Fault) (f : Fault) → x ≡ Err f → y ≡ Err f → raised w f.cause ≡ false → Outruns w x y
same_outruns w x y f e k low = subst (λ (z : Result _ Fault). Outruns w z y) (sym e) (subst (λ (b : Bool). OutrunsBy b f y) (sym low) k)

beyond_outruns : {T A : Type 0} (w : ℕ) (x y : Result (A × List T) Fault) (f : Fault) → x ≡ Err f → Beyond f.left y → raised w f.cause ≡ true → Outruns w x y
beyond_outruns w x y f e k up = subst (λ (z : Result _ Fault). Outruns w z y) (sym e) (subst (λ (b : Bool). OutrunsBy b f y) (sym up) k)

-- ---- blocked readers

beyond_more : {T A : Type 0} (n m : ℕ) (z : Result (A × List T) Fault) → Beyond n z → n ≤ m → Beyond m z
beyond_more n m (Ok x) h le = omega arith
beyond_more n m (Err g) h le = omega arith

other_number : (a b : ℕ) → a < b → (a == b) ≡ false
other_number a b h = grind arith

and_other : (a b : Bool) → a ≡ false → (a && b) ≡ false
and_other a b h = rw h refl

beyond_first : {T A : Type 0} (cause : Cause) (ts : List T) (z : Result (A × List T) Fault) (n : ℕ) → Beyond n z → n ≤ length ts → first_goes cause ts z ≡ false
beyond_first cause ts (Ok x) n h le = refl
beyond_first cause ts (Err g) n h le = let lt : g.left < length ts = omega arith in and_other (g.left == length ts) (goes_first g.cause cause) (other_number g.left (length ts) lt)

-- where no fault goes first, none does under larger limits
never_first : {T A : Type 0} (w : ℕ) (cause : Cause) (ts : List T) (x y : Result (A × List T) Fault) → Outruns w x y → Within (length ts) x → first_goes cause ts x ≡ false → first_goes cause ts y ≡ false
never_first w cause ts (Ok a) y h stay not = rw h refl
never_first w cause ts (Err d) y h stay not =
    elim (the_test (raised w d.cause)) [
      | inl up ↦ beyond_first cause ts y d.left (outruns_beyond w (Err d) y d h refl up) stay
      | inr low ↦ ap (first_goes cause ts) (outruns_same w (Err d) y d h refl low) ∙ not
    ]

blocked_same_at : {T A : Type 0} (w v : ℕ) (r s : Reader T A) (ts : List T) → nat_le w v ≡ false → Outruns w (r ts) (s ts) → Within (length ts) (r ts) → Outruns w (blocked (Limit v) r ts) (blocked (Limit v) s ts)
blocked_same_at w v r s ts h k stay =
    elim (the_test (first_goes (Limit v) ts (r ts))) [
      | inl goes ↦
          let d = first_is (Limit v) ts (r ts) goes in
          let low : raised w d.0.cause ≡ false = goes_unraised w v d.0.cause h d.3 in
          let same : s ts ≡ Err d.0 = outruns_same w (r ts) (s ts) d.0 k d.1 low in
          same_outruns w (blocked (Limit v) r ts) (blocked (Limit v) s ts) d.0 (blocked_first (Limit v) r ts d.0 d.1 d.2 d.3) (blocked_first (Limit v) s ts d.0 same d.2 d.3) low
      | inr not ↦
          let same : first_goes (Limit v) ts (s ts) ≡ false = never_first w (Limit v) ts (r ts) (s ts) k stay not in
          same_outruns w (blocked (Limit v) r ts) (blocked (Limit v) s ts) (fault_at (Limit v) ts) (blocked_else (Limit v) r ts not) (blocked_else (Limit v) s ts same) h
    ]

-- a block of a limit that is not raised stays
pub blocked_same : {T A : Type 0} (w v : ℕ) (r s : Reader T A) → nat_le w v ≡ false → Extends w r s → Stays r → Extends w (blocked (Limit v) r) (blocked (Limit v) s)
blocked_same w v r s h k stay ts = blocked_same_at w v r s ts h (k ts) (stay ts)

-- the same of texts that pass the test
pub blocked_same_on : {T A : Type 0} (w v : ℕ) (test : T → Bool) (r s : Reader T A) → nat_le w v ≡ false → ExtendsOn w test r s → Stays r → ExtendsOn w test (blocked (Limit v) r) (blocked (Limit v) s)
blocked_same_on w v test r s h k stay ts e = blocked_same_at w v r s ts h (k ts e) (stay ts)

and_rest : (a b : Bool) → (a && b) ≡ false → a ≡ true → b ≡ false
and_rest true b h e = h
and_rest false b h e = absurd cc

less_number : (a b : ℕ) → a ≤ b → (a == b) ≡ false → a < b
less_number a b le h = grind arith

blocked_beyond : {T A : Type 0} (w v : ℕ) (ts : List T) (x y : Result (A × List T) Fault) → nat_le w v ≡ true → Outruns w x y → Within (length ts) x → ((a : A × List T) → x ≡ Ok a → length a.1 < length ts) → first_goes (Limit v) ts x ≡ false → Beyond (length ts) y
blocked_beyond w v ts (Ok a) y h k stay less not = subst (λ (z : Result _ Fault). Beyond (length ts) z) (sym k) (less a refl)
blocked_beyond w v ts (Err d) y h k stay less not =
    elim (the_test (raised w d.cause)) [
      | inl up ↦ beyond_more d.left (length ts) y (outruns_beyond w (Err d) y d k refl up) stay
      | inr low ↦
          elim (the_test (d.left == length ts)) [
            | inl first ↦ absurd (let up = stays_raised w v d.cause h (and_rest (d.left == length ts) (goes_first d.cause (Limit v)) not first) in cc)
            | inr later ↦ subst (λ (z : Result _ Fault). Beyond (length ts) z) (sym (outruns_same w (Err d) y d k refl low)) (less_number d.left (length ts) stay later)
          ]
    ]

blocked_raised_at : {T A : Type 0} (w v : ℕ) (r s : Reader T A) (ts : List T) → nat_le w v ≡ true → Outruns w (r ts) (s ts) → Within (length ts) (r ts) → ((x : A × List T) → r ts ≡ Ok x → length x.1 < length ts) → Outruns w (blocked (Limit v) r ts) (s ts)
blocked_raised_at w v r s ts h k stay less =
    elim (the_test (first_goes (Limit v) ts (r ts))) [
      | inl goes ↦
          let d = first_is (Limit v) ts (r ts) goes in
          subst (λ (z : Result _ Fault). Outruns w z (s ts)) (d.1 ∙ sym (blocked_first (Limit v) r ts d.0 d.1 d.2 d.3)) k
      | inr not ↦ beyond_outruns w (blocked (Limit v) r ts) (s ts) (fault_at (Limit v) ts) (blocked_else (Limit v) r ts not) (blocked_beyond w v ts (r ts) (s ts) h k stay less not) h
    ]

-- a block of a limit that is raised gives way to a reader that takes at least a token of what was blocked
pub blocked_raised : {T A : Type 0} (w v : ℕ) (r s : Reader T A) → nat_le w v ≡ true → Extends w r s → Stays r → ((ts : List T) (x : A × List T) → r ts ≡ Ok x → length x.1 < length ts) → Extends w (blocked (Limit v) r) s
blocked_raised w v r s h k stay less ts = blocked_raised_at w v r s ts h (k ts) (stay ts) (less ts)

-- the same of texts that pass the test
pub blocked_raised_on : {T A : Type 0} (w v : ℕ) (test : T → Bool) (r s : Reader T A) → nat_le w v ≡ true → ExtendsOn w test r s → Stays r → Consumes test r → ExtendsOn w test (blocked (Limit v) r) s
blocked_raised_on w v test r s h k stay small ts e = blocked_raised_at w v r s ts h (k ts e) (stay ts) (λ x read. small ts x e read)

-- a blocked reader faults at its first token
pub blocked_stays : {T A : Type 0} (cause : Cause) (r : Reader T A) → Stays (blocked cause r)
blocked_stays cause r ts =
    elim (the_test (first_goes cause ts (r ts))) [
      | inl goes ↦
          let d = first_is cause ts (r ts) goes in
          let le : d.0.left ≤ length ts = omega (arith, d.2) in
          subst (λ (z : Result _ Fault). Within (length ts) z) (sym (blocked_first cause r ts d.0 d.1 d.2 d.3)) le
      | inr not ↦ let le : length ts ≤ length ts = omega arith in subst (λ (z : Result _ Fault). Within (length ts) z) (sym (blocked_else cause r ts not)) le
    ]
