-- The first line of some bytes, and the bytes before their first LF.
use Rattle.std.proofs.Common.{◌≡◌, ◌≢◌, ◌<◌, ◌≤◌, ◌+◌, ◌-◌, ℕ, zero, suc, drop, Bool, true, false, List, [], ◌∷◌, ◌++◌, length, get_or, cond, refl, ap, sym, ◌∙◌, arith, inl, inr}
use Rattle.std.specs.Prelude.{◌==◌, ◌&&◌}
use Rattle.std.proofs.lemmas.Bool.{eqb-true, eqb-false, eq-eqb, ne_eqb, cases_lt}
use Rattle.std.proofs.lemmas.List.{get_or-append_right}
use Rattle.std.proofs.lemmas.Bool.Decides.{nat_tests}
use Rattle.std.proofs.Math.Bool.{and-false}
use Rattle.iv_meaning.specs.Lines.{begins_with_lf, is_return, first_line, after_line}
use Rattle.line_wire.specs.Reading.{before_lf, DropsReturn}

-- a byte before the others
first_here : (b : ℕ) (xs : List ℕ) → b ≡ 10 → before_lf (b ∷ xs) ≡ []
first_here b xs e = grind (arith, nat_tests)

first_later : (b : ℕ) (xs : List ℕ) → b ≢ 10 → before_lf (b ∷ xs) ≡ b ∷ before_lf xs
first_later b xs ne = grind (arith, nat_tests)

after_here : (b : ℕ) (xs : List ℕ) → b ≡ 10 → after_line (b ∷ xs) ≡ xs
after_here b xs e = grind (arith, nat_tests)

after_later : (b : ℕ) (xs : List ℕ) → b ≢ 10 → after_line (b ∷ xs) ≡ after_line xs
after_later b xs ne = grind (arith, nat_tests)

by_end : {P : Type 0} (b : ℕ) → (b ≡ 10 → P) → (b ≢ 10 → P) → P
by_end {P = P} b f g = elim (b == 10) as (λ t. (b == 10) ≡ t → P) [ true ↦ λ e. f (eqb-true b 10 e) | false ↦ λ e. g (eqb-false b 10 e) ] refl

pub length-before_lf : (xs : List ℕ) → length (before_lf xs) ≤ length xs
length-before_lf [] = omega arith
length-before_lf (b ∷ xs) = by_end b
    (λ e. let h : length (before_lf (b ∷ xs)) ≡ 0 = ap length (first_here b xs e) in omega arith)
    (λ ne. let h : length (before_lf (b ∷ xs)) ≡ length (b ∷ before_lf xs) = ap length (first_later b xs ne) in omega (arith, length-before_lf xs))

-- some bytes are their first line, its end and what is behind it, where they have a line end
pub before_lf_whole : (xs : List ℕ) → length (before_lf xs) < length xs → xs ≡ before_lf xs ++ 10 ∷ after_line xs
before_lf_whole [] lt = absurd (omega arith)
before_lf_whole (b ∷ xs) lt = by_end b
    (λ e. rw (first_here b xs e, after_here b xs e) (ap (λ (x : ℕ). x ∷ xs) e))
    (λ ne. let h : length (before_lf (b ∷ xs)) ≡ length (b ∷ before_lf xs) = ap length (first_later b xs ne) in
    rw (first_later b xs ne, after_later b xs ne) (ap (λ (ys : List ℕ). b ∷ ys) (before_lf_whole xs (omega arith))))

-- and otherwise they are their first line
pub before_lf_all : (xs : List ℕ) → length xs ≤ length (before_lf xs) → before_lf xs ≡ xs
before_lf_all [] le = refl
before_lf_all (b ∷ xs) le = by_end b
    (λ e. absurd (let h : length (before_lf (b ∷ xs)) ≡ 0 = ap length (first_here b xs e) in omega arith))
    (λ ne. let h : length (before_lf (b ∷ xs)) ≡ length (b ∷ before_lf xs) = ap length (first_later b xs ne) in
    first_later b xs ne ∙ ap (λ (ys : List ℕ). b ∷ ys) (before_lf_all xs (omega arith)))

-- no line end stands before the first one
pub before_lf_before : (xs : List ℕ) (k : ℕ) → k < length (before_lf xs) → get_or xs k 0 ≢ 10
before_lf_before [] k lt e = omega arith
before_lf_before (b ∷ xs) zero lt e = by_end b
    (λ h. let none : length (before_lf (b ∷ xs)) ≡ 0 = ap length (first_here b xs h) in omega arith)
    (λ ne. ne e)
before_lf_before (b ∷ xs) (suc k) lt e = by_end b
    (λ h. let none : length (before_lf (b ∷ xs)) ≡ 0 = ap length (first_here b xs h) in omega arith)
    (λ ne. let h : length (before_lf (b ∷ xs)) ≡ length (b ∷ before_lf xs) = ap length (first_later b xs ne) in before_lf_before xs k (omega arith) e)

-- the first line ends at one
pub before_lf_stops : (xs : List ℕ) → length (before_lf xs) < length xs → get_or xs (length (before_lf xs)) 0 ≡ 10
before_lf_stops xs lt =
    ap (λ (ys : List ℕ). get_or ys (length (before_lf xs)) 0) (before_lf_whole xs lt)
    ∙ get_or-append_right (before_lf xs) (10 ∷ after_line xs) (length (before_lf xs)) (length (before_lf xs)) 0 refl (omega arith)
    ∙ ap (λ (k : ℕ). get_or (10 ∷ after_line xs) k 0) (let z : length (before_lf xs) - length (before_lf xs) ≡ 0 = omega arith in z)

-- the first line has no line end
pub before_lf_twice : (xs : List ℕ) → before_lf (before_lf xs) ≡ before_lf xs
before_lf_twice [] = refl
before_lf_twice (b ∷ xs) = by_end b
    (λ e. rw (first_here b xs e) refl)
    (λ ne. rw (first_later b xs ne) (first_later b (before_lf xs) ne ∙ ap (λ (ys : List ℕ). b ∷ ys) (before_lf_twice xs)))

tail_of : (b : ℕ) (xs ys : List ℕ) → b ∷ xs ≡ b ∷ ys → xs ≡ ys
tail_of b xs ys e = ap (drop 1) e

-- bytes without a line end, before others
pub before_lf-append : (p q : List ℕ) → before_lf p ≡ p → before_lf (p ++ q) ≡ p ++ before_lf q
before_lf-append [] q e = refl
before_lf-append (b ∷ p) q e = by_end b
    (λ h. absurd (let none : [] ≡ b ∷ p = sym (first_here b p h) ∙ e in cc))
    (λ ne. first_later b (p ++ q) ne ∙ ap (λ (ys : List ℕ). b ∷ ys) (before_lf-append p q (tail_of b (before_lf p) p (sym (first_later b p ne) ∙ e))))

pub after_line-append : (p q : List ℕ) → before_lf p ≡ p → after_line (p ++ q) ≡ after_line q
after_line-append [] q e = refl
after_line-append (b ∷ p) q e = by_end b
    (λ h. absurd (let none : [] ≡ b ∷ p = sym (first_here b p h) ∙ e in cc))
    (λ ne. after_later b (p ++ q) ne ∙ after_line-append p q (tail_of b (before_lf p) p (sym (first_later b p ne) ∙ e)))

-- the place of the first line end
pub place_is : (xs : List ℕ) (place : ℕ) → place < length xs → ((k : ℕ) → k < place → get_or xs k 0 ≢ 10) → get_or xs place 0 ≡ 10 → place ≡ length (before_lf xs)
place_is xs place lt before here = elim (cases_lt place (length (before_lf xs))) [
  | inl sooner ↦ absurd (before_lf_before xs place sooner here)
  | inr le ↦ elim (cases_lt (length (before_lf xs)) place) [
    | inl later ↦ absurd (before (length (before_lf xs)) later (before_lf_stops xs (omega arith)))
    | inr ge ↦ omega arith
  ]
]

pub no_place : (xs : List ℕ) → ((k : ℕ) → k < length xs → get_or xs k 0 ≢ 10) → before_lf xs ≡ xs
no_place xs none = elim (cases_lt (length (before_lf xs)) (length xs)) [
  | inl lt ↦ absurd (none (length (before_lf xs)) lt (before_lf_stops xs lt))
  | inr le ↦ before_lf_all xs le
]

-- ---- the CR before a LF

-- a byte of a line, and those behind it
parts : (b : ℕ) (p : List ℕ) → before_lf (b ∷ p) ≡ b ∷ p → (b ≢ 10) × (before_lf p ≡ p)
parts b p e = by_end b
    (λ h. absurd (let none : [] ≡ b ∷ p = sym (first_here b p h) ∙ e in cc))
    (λ ne. (ne, tail_of b (before_lf p) p (sym (first_later b p ne) ∙ e)))

no_return : (b c : ℕ) (bytes : List ℕ) → c ≢ 10 → is_return b (c ∷ bytes) ≡ false
no_return b c bytes ne = ap (λ (t : Bool). (b == 13) && t) (ne_eqb c 10 ne) ∙ and-false (b == 13)

line_more : (b : ℕ) (bytes : List ℕ) → b ≢ 10 → is_return b bytes ≡ false → first_line (b ∷ bytes) ≡ b ∷ first_line bytes
line_more b bytes ne other =
    ap (λ (t : Bool). cond t [] (cond (is_return b bytes) [] (b ∷ first_line bytes))) (ne_eqb b 10 ne)
    ∙ ap (λ (t : Bool). cond t [] (b ∷ first_line bytes)) other

line_here : (b : ℕ) (bytes : List ℕ) → b ≢ 10 → b ≡ 13 → begins_with_lf bytes ≡ true → first_line (b ∷ bytes) ≡ []
line_here b bytes ne cr lf =
    ap (λ (t : Bool). cond t [] (cond ((b == 13) && begins_with_lf bytes) [] (b ∷ first_line bytes))) (ne_eqb b 10 ne)
    ∙ ap (λ (t : Bool). cond (t && begins_with_lf bytes) [] (b ∷ first_line bytes)) (eq-eqb b 13 cr)
    ∙ ap (λ (t : Bool). cond t [] (b ∷ first_line bytes)) lf

-- bytes without a LF are one line
pub line_unended : (p : List ℕ) → before_lf p ≡ p → first_line p ≡ p
line_unended [] e = refl
line_unended (b ∷ []) e = line_more b [] (parts b [] e).0 (and-false (b == 13))
line_unended (b ∷ c ∷ p) e =
    let h = parts b (c ∷ p) e in
    line_more b (c ∷ p) h.0 (no_return b c p (parts c p h.1).0) ∙ ap (λ (xs : List ℕ). b ∷ xs) (line_unended (c ∷ p) h.1)

-- a CR before the LF is no part of the line
line_returned : (p q : List ℕ) → before_lf (p ++ 13 ∷ []) ≡ p ++ 13 ∷ [] → first_line ((p ++ 13 ∷ []) ++ 10 ∷ q) ≡ p
line_returned [] q e = line_here 13 (10 ∷ q) (parts 13 [] e).0 refl refl
line_returned (b ∷ []) q e = line_more b (13 ∷ 10 ∷ q) (parts b (13 ∷ []) e).0 (and-false (b == 13)) ∙ ap (λ (xs : List ℕ). b ∷ xs) (line_returned [] q (parts b (13 ∷ []) e).1)
line_returned (b ∷ c ∷ p) q e =
    let h = parts b (c ∷ p ++ 13 ∷ []) e in
    line_more b (c ∷ (p ++ 13 ∷ []) ++ 10 ∷ q) h.0 (no_return b c ((p ++ 13 ∷ []) ++ 10 ∷ q) (parts c (p ++ 13 ∷ []) h.1).0) ∙ ap (λ (xs : List ℕ). b ∷ xs) (line_returned (c ∷ p) q h.1)

-- and any other byte is
line_kept : (p q : List ℕ) → before_lf p ≡ p → ((front : List ℕ) → p ≢ front ++ 13 ∷ []) → first_line (p ++ 10 ∷ q) ≡ p
line_kept [] q e none = refl
line_kept (b ∷ []) q e none =
    let ne : b ≢ 13 = λ cr. none [] (ap (λ (x : ℕ). x ∷ []) cr) in
    line_more b (10 ∷ q) (parts b [] e).0 (ap (λ (t : Bool). t && true) (ne_eqb b 13 ne))
line_kept (b ∷ c ∷ p) q e none =
    let h = parts b (c ∷ p) e in
    line_more b (c ∷ p ++ 10 ∷ q) h.0 (no_return b c (p ++ 10 ∷ q) (parts c p h.1).0)
    ∙ ap (λ (xs : List ℕ). b ∷ xs) (line_kept (c ∷ p) q h.1 (λ front z. none (b ∷ front) (ap (λ (xs : List ℕ). b ∷ xs) z)))

pub line_ended : (p q line : List ℕ) → before_lf p ≡ p → DropsReturn p line → first_line (p ++ 10 ∷ q) ≡ line
line_ended p q line e (inl cr) = ap (λ (xs : List ℕ). first_line (xs ++ 10 ∷ q)) cr ∙ line_returned line q (sym (ap before_lf cr) ∙ e ∙ cr)
line_ended p q line e (inr other) = line_kept p q e other.1 ∙ sym other.0

-- a line is at most a byte shorter than what stands before its LF
pub line_size : (p q : List ℕ) → before_lf p ≡ p → length p ≤ length (first_line (p ++ 10 ∷ q)) + 1
line_size [] q e = omega arith
line_size (b ∷ []) q e = omega arith
line_size (b ∷ c ∷ p) q e =
    let h = parts b (c ∷ p) e in
    let more = ap length (line_more b (c ∷ p ++ 10 ∷ q) h.0 (no_return b c (p ++ 10 ∷ q) (parts c p h.1).0)) in
    omega (arith, more, line_size (c ∷ p) q h.1)
