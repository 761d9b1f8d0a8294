-- No clause of `run` rests on this module: it serves contracts between crates.
--
-- Readers: what is read off the front of a list of tokens, or the first fault.
use Rattle.std.specs.Prelude.{◌≡◌, ℕ, zero, suc, ◌==◌, ◌&&◌, nat_le, Bool, true, false, List, [], ◌∷◌, length, Option, Some, None, Result, Ok, Err, is_some, if◌then◌else◌}
use Rattle.text_grammar.specs.declared.fault.Cause.{Cause}
use Rattle.text_grammar.specs.declared.fault.Cause.TheVariants.{Syntax, Limit}
use Rattle.text_grammar.specs.declared.fault.Fault.{Fault}
use Rattle.text_grammar.specs.declared.fault.ParseError.{ParseError}
use Rattle.text_grammar.specs.declared.fault.ParseError.TheVariants as errors

infixl 10 ◌>>=◌
abbrev pub ◌>>=◌ : {A B : Type 0} → Result A Fault → (A → Result B Fault) → Result B Fault
(Ok x) >>= f = f x
(Err e) >>= f = Err e

-- What a function returned, seen by view, is what reading gives, unless memory ran out.
abbrev pub Fails : {Y : Type 0} → ParseError → Result Y Fault → Type 0
Fails errors.Memory read = Unit {0}
Fails (errors.Fault f) read = read ≡ Err f

abbrev pub Gives : {X Y : Type 0} → (X → Y) → Result X ParseError → Result Y Fault → Type 0
Gives view (Ok x) read = read ≡ Ok (view x)
Gives view (Err e) read = Fails e read

-- a value off the front and the tokens after it, or the first fault
abbrev pub Reader : Type 0 → Type 0 → Type 0
Reader T A = List T → Result (A × List T) Fault

-- the fault at the first of these tokens, or at the end where there are none
abbrev pub fault_at : {T : Type 0} → Cause → List T → Fault
fault_at cause tokens = record { cause = cause; left = length tokens }

-- whether the first token passes the test
abbrev pub starts : {T : Type 0} → (T → Bool) → List T → Bool
starts test [] = false
starts test (t ∷ ts) = test t

-- whether pick has a value for the token
abbrev pub is : {T A : Type 0} → (T → Option A) → T → Bool
is pick token = is_some (pick token)

abbrev pub accept : {T A : Type 0} → Cause → Option A → List T → List T → Result (A × List T) Fault
accept why (Some a) all rest = Ok (a, rest)
accept why None all rest = Err (fault_at why all)

-- one token that pick has a value for, refused for a cause of its own
abbrev pub one_or : {T A : Type 0} → (T → Cause) → (T → Option A) → Reader T A
one_or {T = T} why pick [] = Err (fault_at {T = T} Syntax [])
one_or why pick (t ∷ ts) = accept (why t) (pick t) (t ∷ ts) ts

-- one token that pick has a value for
abbrev pub one : {T A : Type 0} → (T → Option A) → Reader T A
one pick = one_or (λ _. Syntax) pick

-- one after the other, where the first may say how the second is read
abbrev pub both : {T A B : Type 0} → Reader T A → (A → Reader T B) → Reader T (A × B)
both r s ts = r ts >>= λ x. s x.0 x.1 >>= λ y. Ok ((x.0, y.0), y.1)

abbrev pub mapped : {T A B : Type 0} → (A → B) → Reader T A → Reader T B
mapped f r ts = r ts >>= λ x. Ok (f x.0, x.1)

-- a token, and then what r reads
abbrev pub behind : {T A B : Type 0} → (T → Option A) → Reader T B → Reader T B
behind {T = T} pick r [] = Err (fault_at {T = T} Syntax [])
behind pick r (t ∷ ts) = if is_some (pick t) then r ts else Err (fault_at Syntax (t ∷ ts))

-- what r reads, and then a token
abbrev pub before : {T A B : Type 0} → (T → Option A) → Reader T B → Reader T B
before pick r = mapped (λ x. x.0) (both r (λ _. one pick))

-- the first where the token passes the test, otherwise the second
abbrev pub either : {T A : Type 0} → (T → Bool) → Reader T A → Reader T A → Reader T A
either test r s ts = if starts test ts then r ts else s ts

abbrev pub perhaps : {T A : Type 0} → (T → Bool) → Reader T A → Reader T (Option A)
perhaps test r ts = if starts test ts then r ts >>= (λ x. Ok (Some x.0, x.1)) else Ok (None, ts)

-- refuses every token
abbrev pub refused : {T A : Type 0} → Cause → Reader T A
refused cause ts = Err (fault_at cause ts)

-- Of two causes at one token a syntax fault goes first, and of two limits the lower number.
abbrev pub goes_first : Cause → Cause → Bool
goes_first Syntax Syntax = false
goes_first Syntax (Limit v) = true
goes_first (Limit u) Syntax = false
goes_first (Limit u) (Limit v) = nat_le (suc u) v

-- what is wrong with the first token, where that goes first, else the cause
abbrev pub fault_of_first : {T A : Type 0} → Cause → List T → Result (A × List T) Fault → Fault
fault_of_first cause ts (Ok x) = fault_at cause ts
fault_of_first cause ts (Err f) = if (f.left == length ts) && goes_first f.cause cause then f else fault_at cause ts

-- Refuses the first token of what r reads, for the cause, unless r refuses it for one that goes first.
abbrev pub blocked : {T A : Type 0} → Cause → Reader T A → Reader T A
blocked cause r ts = Err (fault_of_first cause ts (r ts))

-- as many as there are, folded from the left onto what was read before them, which says how the next is read
unfoldable pub folded_by : {T A B : Type 0} → (T → Bool) → (A → B → A) → (A → Reader T B) → ℕ → A → Reader T A
folded_by test step r zero acc ts = Ok (acc, ts)
folded_by test step r (suc n) acc ts = if starts test ts then r acc ts >>= (λ x. folded_by test step r n (step acc x.0) x.1) else Ok (acc, ts)

-- no more than there are tokens
abbrev pub folded : {T A B : Type 0} → (T → Bool) → (A → B → A) → (A → Reader T B) → A → Reader T A
folded test step r acc ts = folded_by test step r (length ts) acc ts

-- a first one, and as many others as there are
abbrev pub row : {T A B C : Type 0} → (T → Bool) → (A → C) → (C → B → C) → Reader T A → (C → Reader T B) → Reader T C
row test init step first other ts = first ts >>= λ x. folded test step other (init x.0) x.1

abbrev pub ended : {T A : Type 0} → A × List T → Result A Fault
ended x = elim x.1 [ [] ↦ Ok x.0 | (t ∷ ts) ↦ Err (fault_at Syntax (t ∷ ts)) ]

-- all of the tokens
abbrev pub all_of : {T A : Type 0} → Reader T A → List T → Result A Fault
all_of r ts = r ts >>= λ x. ended x
