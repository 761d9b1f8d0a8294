-- A line is of one session, and has one text.
use Rattle.std.proofs.Common.{◌≡◌, ◌≢◌, ℕ, List, [], ◌∷◌, ◌++◌, length, drop, refl, ap, sym, ◌∙◌, arith}
use Rattle.std.specs.Prelude.{codes}
use Rattle.std.specs.List.{All}
use Rattle.std.proofs.lemmas.List.Elements.{All-head, All-tail}
use Rattle.std.proofs.lemmas.List.Prefix.{front_rest}
use Rattle.iv_meaning.specs.Number.{digits_at_front}
use Rattle.iv_meaning.specs.SerialLaws.{IsOne, SessionLaw}
use Rattle.iv_meaning.proofs.NumberLemmas.{one_decimal}

abbrev OnlySpaces : List ℕ → Type 0
OnlySpaces spaces = All (λ b. b ≡ 32) spaces

abbrev HasNoSpace : List ℕ → Type 0
HasNoSpace text = (rest : List ℕ) → text ≢ codes " " ++ rest

pub same_behind : (word xs ys : List ℕ) → word ++ xs ≡ word ++ ys → xs ≡ ys
same_behind word xs ys e = sym (front_rest (word ++ xs) word xs refl) ∙ ap (drop (length word)) e ∙ front_rest (word ++ ys) word ys refl

tail_same : (x y : ℕ) (xs ys : List ℕ) → x ∷ xs ≡ y ∷ ys → xs ≡ ys
tail_same x y xs ys e = ap (drop 1) e

-- spaces end where no space follows
pub same_text : (p q s t : List ℕ) → OnlySpaces p → OnlySpaces q → HasNoSpace s → HasNoSpace t → p ++ s ≡ q ++ t → s ≡ t
same_text [] [] s t hp hq hs ht e = e
same_text [] (y ∷ q) s t hp hq hs ht e = absurd (hs (q ++ t) (e ∙ ap (λ (b : ℕ). b ∷ (q ++ t)) (All-head (λ b. b ≡ 32) y q hq)))
same_text (x ∷ p) [] s t hp hq hs ht e = absurd (ht (p ++ s) (sym e ∙ ap (λ (b : ℕ). b ∷ (p ++ s)) (All-head (λ b. b ≡ 32) x p hp)))
same_text (x ∷ p) (y ∷ q) s t hp hq hs ht e = same_text p q s t (All-tail (λ b. b ≡ 32) x p hp) (All-tail (λ b. b ≡ 32) y q hq) hs ht (tail_same x y (p ++ s) (q ++ t) e)

pub one_marked : (mark : List ℕ) → ((rest : List ℕ) → digits_at_front (mark ++ rest) ≡ 0) → IsOne mark
one_marked mark none line s t m n a b =
    let parts = one_decimal m n (mark ++ (a.spaces ++ s)) (mark ++ (b.spaces ++ t)) (omega (arith, a.last)) (omega (arith, b.last)) (none (a.spaces ++ s)) (none (b.spaces ++ t)) (sym a.written ∙ b.written) in
    (parts.0, same_text a.spaces b.spaces s t a.only_spaces b.only_spaces a.unspaced b.unspaced (same_behind mark (a.spaces ++ s) (b.spaces ++ t) parts.1))

pub session_law : SessionLaw
session_law = (one_marked (codes ":") (λ rest. refl), one_marked (codes "/") (λ rest. refl))
