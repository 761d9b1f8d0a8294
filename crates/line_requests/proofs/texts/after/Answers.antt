use Rattle.std.proofs.Common.{◌≡◌, ◌∙◌, ℕ, ◌+◌, List, ◌++◌, length, take, drop, true, false, ap, sym, refl}
use Rattle.std.specs.Prelude.{Option, Some, None, IfSome, IsSomeAnd, MatchOption}
use Rattle.std.specs.Cmp.Lexicographic.{bytes_decides}
use lib.Pointwise.{pointwise}
use lib.Dec.{eqb}
use Rattle.std.proofs.lemmas.Bool.{both_ways}
use Rattle.std.proofs.lemmas.List.{take_at, take-append-drop}
use Rattle.std.proofs.lemmas.List.Prefix.{front_rest}
use Rattle.line_requests.proofs.texts.after.Goals as goal

starts : List ℕ → List ℕ → Type 0
starts text word = pointwise eqb (take (length word) text) word ≡ true

sound : {X : Type 0} (f : X → List ℕ) (r : Option X) (text word : List ℕ) → MatchOption r (pointwise eqb (take (length word) text) word ≡ false) (λ x. (pointwise eqb (take (length word) text) word ≡ true) × (f x ≡ drop (length word) text) × (length (f x) + length word ≡ length text)) → IfSome r (λ x. text ≡ word ++ f x)
sound f None text word h = tt
sound f (Some x) text word h =
    sym (take-append-drop (length word) text)
    ∙ ap (λ (xs : List ℕ). xs ++ drop (length word) text) ((bytes_decides (take (length word) text) word).0 h.0)
    ∙ ap (λ (xs : List ℕ). word ++ xs) (sym h.1)

complete : {X : Type 0} (f : X → List ℕ) (r : Option X) (text word : List ℕ) → MatchOption r (pointwise eqb (take (length word) text) word ≡ false) (λ x. (pointwise eqb (take (length word) text) word ≡ true) × (f x ≡ drop (length word) text) × (length (f x) + length word ≡ length text)) → (rest : List ℕ) → text ≡ word ++ rest → IsSomeAnd r (λ x. f x ≡ rest)
complete f None text word h rest e = both_ways _ h ((bytes_decides (take (length word) text) word).1 (ap (take (length word)) e ∙ take_at word rest (length word) refl))
complete f (Some x) text word h rest e = h.1 ∙ front_rest text word rest e

pub returns-clause-sound : goal.returns-clause-sound
returns-clause-sound c = sound (λ x. x.now) c.strip_prefix.result c.args.text.now c.args.word.now c.strip_prefix.ensures.cases

pub returns-clause-complete : goal.returns-clause-complete
returns-clause-complete c = complete (λ x. x.now) c.strip_prefix.result c.args.text.now c.args.word.now c.strip_prefix.ensures.cases
