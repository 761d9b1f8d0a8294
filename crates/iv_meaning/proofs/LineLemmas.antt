-- The lines of an input are what they are said to be.
use Rattle.std.proofs.Common.{◌≡◌, ◌≢◌, ℕ, Bool, true, false, List, [], ◌∷◌, ◌++◌, drop, refl, ap, sym, ◌∙◌, inl, inr}
use Rattle.std.specs.Prelude.{◌==◌, cond}
use Rattle.std.specs.List.{All}
use Rattle.std.proofs.lemmas.Bool.{eqb-true, eqb-false, eq-eqb, and_parts, and_from, false≢true}
use Rattle.std.proofs.lemmas.List.Elements.{All-nil, All-cons}
use Rattle.iv_meaning.specs.Lines.{begins_with_lf, is_return, lines_of, onto_first}
use Rattle.iv_meaning.specs.LineLaws.{HasFirstLine, AreLines}

abbrev HasNoLf : List ℕ → Type 0
HasNoLf line = All (λ b. b ≢ 10) line

-- a LF, before some lines
lf_first : (b : ℕ) (bytes : List ℕ) (lines : List (List ℕ)) → b ≡ 10 → AreLines bytes lines → AreLines (b ∷ bytes) ([] ∷ lines)
lf_first b bytes lines e are = (All-nil (λ x. x ≢ 10), inr (bytes, inr (ap (λ (x : ℕ). x ∷ bytes) e, none), are))
  where
    none : (front : List ℕ) → ◌≢◌ {A = List ℕ} [] (front ++ 13 ∷ [])
    none [] z = cc
    none (x ∷ front) z = cc

-- a CR and a LF, before some lines
return_first : (b c : ℕ) (bytes : List ℕ) (lines : List (List ℕ)) → b ≡ 13 → c ≡ 10 → AreLines bytes lines → AreLines (b ∷ c ∷ bytes) ([] ∷ lines)
return_first b c bytes lines e f are = (All-nil (λ x. x ≢ 10), inr (bytes, inl (ap (λ (x : ℕ). x ∷ c ∷ bytes) e ∙ ap (λ (x : ℕ). 13 ∷ x ∷ bytes) f), are))

-- no CR before a LF ends a line that it is put before
no_return : (b : ℕ) (bytes line rest : List ℕ) → is_return b bytes ≡ false → bytes ≡ line ++ 10 ∷ rest → ((front : List ℕ) → line ≢ front ++ 13 ∷ []) → (front : List ℕ) → b ∷ line ≢ front ++ 13 ∷ []
no_return b bytes [] rest other e none [] z =
    let cr : b ≡ 13 = cc in
    false≢true (sym other ∙ and_from (b == 13) (begins_with_lf bytes) (eq-eqb b 13 cr) (ap begins_with_lf e))
no_return b bytes (x ∷ line) rest other e none [] z = cc
no_return b bytes line rest other e none (x ∷ front) z = none front (ap (λ (xs : List ℕ). drop 1 xs) z)

-- any other byte, before the first of some lines
byte_first : (b : ℕ) (bytes : List ℕ) (lines : List (List ℕ)) → b ≢ 10 → is_return b bytes ≡ false → AreLines bytes lines → AreLines (b ∷ bytes) (onto_first b lines)
byte_first b bytes [] ne other are =
    (All-cons (λ x. x ≢ 10) b [] ne (All-nil (λ x. x ≢ 10)), inl (record { whole = ap (λ (xs : List ℕ). b ∷ xs) are; some = λ e. absurd (let none : b ∷ [] ≡ [] = e in cc); last = refl }))
byte_first b bytes (line ∷ lines) ne other are = (
  All-cons (λ x. x ≢ 10) b line ne are.0,
  elim are.1 [
    | inl h ↦ inl (record { whole = ap (λ (xs : List ℕ). b ∷ xs) h.whole; some = λ e. absurd (let none : b ∷ line ≡ [] = e in cc); last = h.last })
    | inr h ↦ inr (h.0, longer h.0 h.1, h.2)
  ],
)
  where
    longer : (rest : List ℕ) → HasFirstLine bytes line rest → HasFirstLine (b ∷ bytes) (b ∷ line) rest
    longer rest (inl e) = inl (ap (λ (xs : List ℕ). b ∷ xs) e)
    longer rest (inr h) = inr (ap (λ (xs : List ℕ). b ∷ xs) h.0, no_return b bytes line rest other h.0 h.1)

by_return : (b c : ℕ) (bytes : List ℕ) (t : Bool) → (c == 10) ≡ t → b ≡ 13 → AreLines bytes (lines_of bytes) → (t ≡ true) → AreLines (b ∷ c ∷ bytes) (cond t ([] ∷ lines_of bytes) (cond (is_return c bytes) (lines_of bytes) (onto_first c (lines_of bytes))))
by_return b c bytes true e cr are here = return_first b c bytes (lines_of bytes) cr (eqb-true c 10 e) are
by_return b c bytes false e cr are here = absurd (false≢true here)

by_byte : (b : ℕ) (bytes : List ℕ) (s t : Bool) → (b == 10) ≡ s → is_return b bytes ≡ t → AreLines bytes (lines_of bytes) → (t ≡ true → AreLines (b ∷ bytes) (lines_of bytes)) → AreLines (b ∷ bytes) (cond s ([] ∷ lines_of bytes) (cond t (lines_of bytes) (onto_first b (lines_of bytes))))
by_byte b bytes true t e f are return = lf_first b bytes (lines_of bytes) (eqb-true b 10 e) are
by_byte b bytes false true e f are return = return refl
by_byte b bytes false false e f are return = byte_first b bytes (lines_of bytes) (eqb-false b 10 e) f are

pub are_lines : (input : List ℕ) → AreLines input (lines_of input)
are_lines [] = refl
are_lines (b ∷ []) = by_byte b [] (b == 10) (is_return b []) refl refl refl (λ here. absurd (false≢true ((and_parts (b == 13) false here).1)))
are_lines (b ∷ c ∷ bytes) = by_byte b (c ∷ bytes) (b == 10) (is_return b (c ∷ bytes)) refl refl (are_lines (c ∷ bytes))
    (λ here. let both = and_parts (b == 13) (c == 10) here in by_return b c bytes (c == 10) refl (eqb-true b 13 both.0) (are_lines bytes) both.1)
