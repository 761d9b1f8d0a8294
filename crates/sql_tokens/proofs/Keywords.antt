-- Words and keywords.
use Rattle.std.proofs.Common.{◌≡◌, ℕ, ◌+◌, ◌<◌, Bool, true, false, List, ◌∷◌, length, drop, get_or, map, Some, IsTrue, ◌↔◌, refl, sym, ap, ◌∙◌}
use Rattle.std.specs.Char.{to_ascii_lowercase}
use Rattle.std.specs.Str.{str_eq_ignore_ascii_case}
use Rattle.std.proofs.lemmas.Slice.Eq.{bytes_eq-Decides}
use Rattle.std.proofs.lemmas.Bool.Decides.{same_from_decides}
use Rattle.std.proofs.lemmas.List.{drop_more}
use Rattle.iv_types.specs.declared.terminal.Terminal.{Terminal}
use Rattle.iv_types.specs.Terminals.{spelling}
use Rattle.iv_types.specs.Tokens.{keyword_among}

-- the test of the code is that of the definition
pub same_test : (r : Bool) (x y : List ℕ) → (IsTrue r ↔ (map to_ascii_lowercase x ≡ map to_ascii_lowercase y)) → r ≡ str_eq_ignore_ascii_case x y
same_test r x y h = same_from_decides r (str_eq_ignore_ascii_case x y) (h.0, h.1) (bytes_eq-Decides (map to_ascii_lowercase x) (map to_ascii_lowercase y))

pub keyword_here : (k : Terminal) (ks : List Terminal) (word : List ℕ) → str_eq_ignore_ascii_case word (spelling k) ≡ true → keyword_among (k ∷ ks) word ≡ Some k
keyword_here k ks word h = rw h refl

pub keyword_later : (k : Terminal) (ks : List Terminal) (word : List ℕ) → str_eq_ignore_ascii_case word (spelling k) ≡ false → keyword_among (k ∷ ks) word ≡ keyword_among ks word
keyword_later k ks word h = rw h refl

-- the word is the keyword at a place, or none before the next
pub keyword_at : (ks : List Terminal) (i : ℕ) (word bytes : List ℕ) (d : Terminal) (r : Bool) → i < length ks → bytes ≡ spelling (get_or ks i d) → (IsTrue r ↔ (map to_ascii_lowercase word ≡ map to_ascii_lowercase bytes)) → r ≡ true → Some (get_or ks i d) ≡ keyword_among (drop i ks) word
keyword_at ks i word bytes d r lt is test found =
    sym (ap (λ (l : List Terminal). keyword_among l word) (drop_more ks i d lt)
    ∙ keyword_here (get_or ks i d) (drop (i + 1) ks) word (ap (str_eq_ignore_ascii_case word) (sym is) ∙ sym (same_test r word bytes test) ∙ found))

pub not_keyword_at : (ks : List Terminal) (i : ℕ) (word bytes : List ℕ) (d : Terminal) (r : Bool) → i < length ks → bytes ≡ spelling (get_or ks i d) → (IsTrue r ↔ (map to_ascii_lowercase word ≡ map to_ascii_lowercase bytes)) → r ≡ false → keyword_among (drop (i + 1) ks) word ≡ keyword_among (drop i ks) word
not_keyword_at ks i word bytes d r lt is test other =
    sym (ap (λ (l : List Terminal). keyword_among l word) (drop_more ks i d lt)
    ∙ keyword_later (get_or ks i d) (drop (i + 1) ks) word (ap (str_eq_ignore_ascii_case word) (sym is) ∙ sym (same_test r word bytes test) ∙ other))
