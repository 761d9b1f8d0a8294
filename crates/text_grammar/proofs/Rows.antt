-- Rows, built up from the left.
use Rattle.std.proofs.Common.{◌≡◌, List, [], ◌∷◌, ◌++◌, refl, sym, ap, subst, ◌∙◌, append_assoc}
use Rattle.std.proofs.lemmas.List.{append-nil}
use Rattle.text_grammar.specs.Languages.{Lang, Many, fold_left, Row}

many_snoc : {T A B : Type 0} (step : A → B → A) (q : A → Lang T B) (acc : A) (xs : List B) (ts us : List T) (y : B) → Many step q acc ts xs → q (fold_left step acc xs) us y → Many step q acc (ts ++ us) (xs ++ (y ∷ []))
many_snoc step q acc [] ts us y h k = record { front = us; back = []; text = ap (λ (z : List _). z ++ us) h ∙ sym (append-nil us); first = k; second = refl }
many_snoc step q acc (x ∷ xs) ts us y h k = record { front = h.front; back = h.back ++ us; text = ap (λ (z : List _). z ++ us) h.text ∙ append_assoc h.front h.back us; first = h.first; second = many_snoc step q (step acc x) xs h.back us y h.second k }

fold_snoc : {A B : Type 0} (step : A → B → A) (acc : A) (xs : List B) (y : B) → fold_left step acc (xs ++ (y ∷ [])) ≡ step (fold_left step acc xs) y
fold_snoc step acc [] y = refl
fold_snoc step acc (x ∷ xs) y = fold_snoc step (step acc x) xs y

-- a row of the first alone
pub row_one : {T A B C : Type 0} (init : A → C) (step : C → B → C) (p : Lang T A) (q : C → Lang T B) (ts : List T) (a : A) → p ts a → Row init step p q ts (init a)
row_one init step p q ts a h = record { value = (a, []); spelled = record { front = ts; back = []; text = sym (append-nil ts); first = h; second = refl }; made = refl }

-- one more at the end, which what was made before says how to spell
pub row_snoc : {T A B C : Type 0} (init : A → C) (step : C → B → C) (p : Lang T A) (q : C → Lang T B) (ts us : List T) (c : C) (b : B) → Row init step p q ts c → q c us b → Row init step p q (ts ++ us) (step c b)
row_snoc init step p q ts us c b h k =
    let s = h.spelled in
    record {
      value = (h.value.0, h.value.1 ++ (b ∷ []));
      spelled = record { front = s.front; back = s.back ++ us; text = ap (λ (z : List _). z ++ us) s.text ∙ append_assoc s.front s.back us; first = s.first; second = many_snoc step q (init h.value.0) h.value.1 s.back us b s.second (subst (λ (d : _). q d us b) h.made k) };
      made = ap (λ (z : _). step z b) h.made ∙ sym (fold_snoc step (init h.value.0) h.value.1 b);
    }
