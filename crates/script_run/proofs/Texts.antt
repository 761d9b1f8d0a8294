-- Texts with another at their front, at their end, or within.
use Rattle.std.proofs.Common.{◌≡◌, ◌∙◌, ◌++◌, ◌+◌, ℕ, List, [], ◌∷◌, length, take, drop, Option, Some, None, Bool, true, refl, sym, ap, subst, codes, arith}
use Rattle.std.specs.Prelude.{MatchOption, is_some}
use Rattle.std.proofs.lemmas.List.{append_cancel_left, append_cancel_right, take-append-drop}
use Rattle.memchr.specs.Find.{OccursAt, FindsNeedle}
use Rattle.memchr.proofs.lemmas.MatchLemmas.{OccursAt-split, OccursAt-from_part}
use Rattle.script_run.specs.Summary.{IsRolledBack, LacksMemory}

pub at_some : {A : Type 0} (r : Option A) (x : A) (N : Type 0) (S : A → Type 0) → MatchOption r N S → r ≡ Some x → S x
at_some {A = A} r x N S h e = subst (λ (o : Option A). MatchOption o N S) e h

pub at_none : {A : Type 0} (r : Option A) (N : Type 0) (S : A → Type 0) → MatchOption r N S → r ≡ None → N
at_none {A = A} r N S h e = subst (λ (o : Option A). MatchOption o N S) e h

-- what stands behind the session in the answer
pub behind : (line answer session rest : List ℕ) → line ≡ session ++ codes ": ROLLBACK" → answer ≡ session ++ rest → (r : IsRolledBack line answer) → rest ≡ codes " OK 0\n" ++ r.more
behind line answer session rest asks told r =
    let same : session ≡ r.session = append_cancel_right session r.session (codes ": ROLLBACK") (sym asks ∙ r.asks) in
    append_cancel_left session rest (codes " OK 0\n" ++ r.more) (sym told ∙ r.told ∙ ap (λ (s : List ℕ). s ++ (codes " OK 0\n" ++ r.more)) (sym same))

pub session_first : (line answer session : List ℕ) → line ≡ session ++ codes ": ROLLBACK" → (r : IsRolledBack line answer) → answer ≡ session ++ (codes " OK 0\n" ++ r.more)
session_first line answer session asks r =
    let same : session ≡ r.session = append_cancel_right session r.session (codes ": ROLLBACK") (sym asks ∙ r.asks) in
    r.told ∙ ap (λ (s : List ℕ). s ++ (codes " OK 0\n" ++ r.more)) (sym same)

drop_front : (front more : List ℕ) → drop (length front) (front ++ more) ≡ more
drop_front [] more = refl
drop_front (x ∷ front) more = drop_front front more

length_more : (front more : List ℕ) → length (front ++ more) ≡ length front + length more
length_more [] more = omega arith
length_more (x ∷ front) more = omega (arith, length_more front more)

abbrev refusal : List ℕ
refusal = codes " ERR 29 NoMemory\n"

pub found_refusal : (answer : List ℕ) (k : ℕ) → OccursAt answer (codes " ERR 29 NoMemory\n") k → LacksMemory answer
found_refusal answer k h = record {
  front = take k answer;
  more = drop (k + length refusal) answer;
  told = sym (take-append-drop k answer) ∙ ap (λ (xs : List ℕ). take k answer ++ xs) (OccursAt-split answer refusal k h);
}

finds_by : (answer : List ℕ) (r : Option ℕ) → FindsNeedle answer refusal 0 r → LacksMemory answer → is_some r ≡ true
finds_by answer None h l =
    let size : length answer ≡ length l.front + (17 + length l.more) = ap length l.told ∙ length_more l.front (refusal ++ l.more) ∙ ap (λ (n : ℕ). length l.front + n) (length_more refusal l.more) in
    absurd (h (length l.front) (omega arith) (omega (arith, size))
    (OccursAt-from_part answer refusal (length l.front) (omega (arith, size)) (ap (λ (xs : List ℕ). take 17 (drop (length l.front) xs)) l.told ∙ ap (λ (xs : List ℕ). take 17 xs) (drop_front l.front (refusal ++ l.more)))))
finds_by answer (Some k) h l = refl

pub tells : (answer : List ℕ) (r : Option ℕ) (t : Bool) → FindsNeedle answer refusal 0 r → t ≡ is_some r → (t ≡ true → LacksMemory answer) × (LacksMemory answer → t ≡ true)
tells answer None t h e = (λ is. absurd (cc), λ l. e ∙ finds_by answer None h l)
tells answer (Some k) t h e = (λ is. found_refusal answer k h.1, λ l. e)
