-- Readers that are blocked.
use Rattle.std.proofs.Common.{◌≡◌, ℕ, Bool, true, false, List, [], ◌∷◌, ◌++◌, length, Result, Ok, Err, refl, sym, ap, subst, ◌∙◌, arith, inl, inr}
use Rattle.std.specs.Prelude.{◌==◌, ◌&&◌}
use Rattle.std.proofs.lemmas.List.{length-append}
use Rattle.text_grammar.specs.declared.fault.Cause.{Cause}
use Rattle.text_grammar.specs.declared.fault.Fault.{Fault}
use Rattle.text_grammar.specs.Readers.{Reader, fault_at, goes_first, fault_of_first, blocked}
use Rattle.text_grammar.specs.Languages.{Lang, Nothing}
use Rattle.text_grammar.proofs.Exactness.{failed, err_is, first_of, SameStart, Faults, Exact, never, the_test}

-- ---- a blocked reader

no_length : {A : Type 0} (xs : List A) → length xs ≡ 0 → xs ≡ []
no_length [] h = refl
no_length (x ∷ xs) h = absurd (omega arith)

-- a fault at the first token is the same wherever that token stands first
first_again : {T A : Type 0} (p : Lang T A) (on : T → Bool) (r : Reader T A) → Exact p on r → (ts other : List T) (d : Fault) → r ts ≡ Err d → d.left ≡ length ts → SameStart ts other → r other ≡ Err (fault_at d.cause other)
first_again p on r re ts other d e left same =
    let k = re.err ts d e in
    let short : length k.front ≡ 0 = omega (arith, ap length k.text, length-append k.front k.rest, ap (λ (g : Fault). g.left) k.place) in
    let none : k.front ≡ [] = no_length k.front short in
    let text : ts ≡ k.rest = k.text ∙ ap (λ (z : List _). z ++ k.rest) none in
    ap (λ (z : List _). r (z ++ other)) (sym none) ∙ k.again other (ap first_of (sym text) ∙ same)

-- whether a reader refuses the first token for a cause that goes before this one
abbrev pub first_goes : {T A : Type 0} → Cause → List T → Result (A × List T) Fault → Bool
first_goes cause ts (Ok x) = false
first_goes cause ts (Err d) = (d.left == length ts) && goes_first d.cause cause

and_is : (a b : Bool) → (a && b) ≡ true → (a ≡ true) × (b ≡ true)
and_is true b h = (refl, h)
and_is false b h = absurd cc

same_number : (a b : ℕ) → (a == b) ≡ true → a ≡ b
same_number a b h = grind arith

number_same : (a b : ℕ) → a ≡ b → (a == b) ≡ true
number_same a b h = grind arith

-- what the test says
pub goes_is : (cause : Cause) (d : Fault) (n : ℕ) → ((d.left == n) && goes_first d.cause cause) ≡ true → (d.left ≡ n) × (goes_first d.cause cause ≡ true)
goes_is cause d n h = let k = and_is (d.left == n) (goes_first d.cause cause) h in (same_number d.left n k.0, k.1)

-- a fault that goes first is the fault of the blocked reader
pub blocked_first : {T A : Type 0} (cause : Cause) (r : Reader T A) (ts : List T) (d : Fault) → r ts ≡ Err d → d.left ≡ length ts → goes_first d.cause cause ≡ true → blocked cause r ts ≡ Err d
blocked_first cause r ts d e left goes = rw e (let at : (d.left == length ts) ≡ true = number_same d.left (length ts) left in rw (at, goes) refl)

fault_where : {T A : Type 0} (cause : Cause) (ts : List T) (z : Result (A × List T) Fault) → first_goes cause ts z ≡ false → fault_of_first cause ts z ≡ fault_at cause ts
fault_where cause ts (Ok x) h = refl
fault_where cause ts (Err d) h = rw h refl

-- where none goes first the cause of the block is the fault
pub blocked_else : {T A : Type 0} (cause : Cause) (r : Reader T A) (ts : List T) → first_goes cause ts (r ts) ≡ false → blocked cause r ts ≡ Err (fault_at cause ts)
blocked_else cause r ts h = ap (λ (g : Fault). failed g) (fault_where cause ts (r ts) h)

-- what goes first
pub first_is : {T A : Type 0} (cause : Cause) (ts : List T) (z : Result (A × List T) Fault) → first_goes cause ts z ≡ true → (d : Fault) × (z ≡ Err d) × (d.left ≡ length ts) × (goes_first d.cause cause ≡ true)
first_is cause ts (Ok x) h = absurd cc
first_is cause ts (Err d) h = let k = goes_is cause d (length ts) h in (d, refl, k.0, k.1)

goes_again : {T A : Type 0} (cause : Cause) (p : Lang T A) (on : T → Bool) (r : Reader T A) → Exact p on r → (ts other : List T) → SameStart ts other → first_goes cause ts (r ts) ≡ true → first_goes cause other (r other) ≡ true
goes_again cause p on r re ts other same h =
    let d = first_is cause ts (r ts) h in
    let again : r other ≡ Err (fault_at d.0.cause other) = first_again p on r re ts other d.0 d.1 d.2 same in
    let goes = d.3 in
    let at : (length other == length other) ≡ true = number_same (length other) (length other) refl in
    rw again (rw (at, goes) refl)

not_again : {T A : Type 0} (cause : Cause) (p : Lang T A) (on : T → Bool) (r : Reader T A) → Exact p on r → (ts other : List T) → SameStart ts other → first_goes cause ts (r ts) ≡ false → first_goes cause other (r other) ≡ false
not_again cause p on r re ts other same h =
    elim (the_test (first_goes cause other (r other))) [
      | inl goes ↦ absurd (let back = goes_again cause p on r re other ts (sym same) goes in cc)
      | inr not ↦ not
    ]

blocked_err : {T A : Type 0} (cause : Cause) (p : Lang T A) (on : T → Bool) (r : Reader T A) → Exact p on r → (ts : List T) (f : Fault) → blocked cause r ts ≡ Err f → Faults {A = A} Nothing (blocked cause r) ts f
blocked_err {T = T} {A = A} cause p on r re ts f e =
    elim (the_test (first_goes cause ts (r ts))) [
      | inl goes ↦
          let d = first_is cause ts (r ts) goes in
          let is : d.0 ≡ f = err_is {A = A × List T} d.0 f (sym (blocked_first cause r ts d.0 d.1 d.2 d.3) ∙ e) in
          subst (λ (g : Fault). Faults {A = A} Nothing (blocked cause r) ts g) is (record {
            front = [];
            rest = ts;
            text = refl;
            place = ap (λ (n : ℕ). record { cause = d.0.cause; left = n }) d.2;
            viable = inl refl;
            again = λ other same. blocked_first cause r other (fault_at d.0.cause other) (first_again p on r re ts other d.0 d.1 d.2 same) refl d.3;
          })
      | inr not ↦
          let is : fault_at cause ts ≡ f = err_is {A = A × List T} (fault_at cause ts) f (sym (blocked_else cause r ts not) ∙ e) in
          subst (λ (g : Fault). Faults {A = A} Nothing (blocked cause r) ts g) is (record {
            front = [];
            rest = ts;
            text = refl;
            place = refl;
            viable = inl refl;
            again = λ other same. blocked_else cause r other (not_again cause p on r re ts other same not);
          })
    ]

-- a blocked reader reads nothing
pub blocked-exact : {T A : Type 0} (cause : Cause) (p : Lang T A) (on : T → Bool) (r : Reader T A) → Exact p on r → Exact {A = A} Nothing never (blocked cause r)
blocked-exact {T = T} {A = A} cause p on r re = record {
  ok = λ ts x e. absurd (let bad : failed {A = A × List T} (fault_of_first cause ts (r ts)) ≡ Ok x = e in cc);
  err = λ ts f e. blocked_err cause p on r re ts f e;
  complete = λ front rest a h stop. absurd h;
}
