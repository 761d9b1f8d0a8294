-- Languages: which tokens spell which value. The parts of a grammar, with no word of how it is read.
use Rattle.std.specs.Prelude.{◌≡◌, true, List, [], ◌∷◌, ◌++◌, Option, Some, None, is_some, ◌⊎◌}

-- the tokens spell the value
abbrev pub Lang : Type 0 → Type 0 → Type 1
Lang T A = List T → A → Type 0

-- one token
pub record One {T A : Type 0} (pick : T → Option A) (ts : List T) (a : A) : Type 0 where
  pub token : T
  pub text : ts ≡ token ∷ []
  pub value : pick token ≡ Some a

-- one after the other, where the first may say what the second can be
pub record Both {T A B : Type 0} (p : Lang T A) (q : A → Lang T B) (ts : List T) (x : A × B) : Type 0 where
  pub front : List T
  pub back : List T
  pub text : ts ≡ front ++ back
  pub first : p front x.0
  pub second : q x.0 back x.1

-- a token and then a value
pub record Behind {T A B : Type 0} (pick : T → Option A) (q : Lang T B) (ts : List T) (b : B) : Type 0 where
  pub token : T
  pub back : List T
  pub text : ts ≡ token ∷ back
  pub is : is_some (pick token) ≡ true
  pub value : q back b

pub record Mapped {T A B : Type 0} (f : A → B) (p : Lang T A) (ts : List T) (b : B) : Type 0 where
  pub value : A
  pub spelled : p ts value
  pub made : b ≡ f value

-- one after the other
abbrev pub Then : {T A B : Type 0} → Lang T A → Lang T B → Lang T (A × B)
Then p q = Both p (λ _. q)

-- a value and then a token
abbrev pub Before : {T A B : Type 0} → (T → Option B) → Lang T A → Lang T A
Before pick p = Mapped (λ x. x.0) (Then p (One pick))

abbrev pub Either : {T A : Type 0} → Lang T A → Lang T A → Lang T A
Either p q ts a = p ts a ⊎ q ts a

abbrev pub Nothing : {T A : Type 0} → Lang T A
Nothing ts a = ⊥

abbrev pub Perhaps : {T A : Type 0} → Lang T A → Lang T (Option A)
Perhaps p ts None = ts ≡ []
Perhaps p ts (Some a) = p ts a

-- None or more, one after the other. What was made of those before says what the next can be.
abbrev pub Many : {T A B : Type 0} → (A → B → A) → (A → Lang T B) → A → Lang T (List B)
Many step q a ts [] = ts ≡ []
Many step q a ts (x ∷ xs) = Both (q a) (λ _ us ys. Many step q (step a x) us xs) ts (x, xs)

-- step by step from the left
abbrev pub fold_left : {A B : Type 0} → (A → B → A) → A → List B → A
fold_left step a [] = a
fold_left step a (b ∷ bs) = fold_left step (step a b) bs

-- a first one, and more of others, folded from the left
abbrev pub Row : {T A B C : Type 0} → (A → C) → (C → B → C) → Lang T A → (C → Lang T B) → Lang T C
Row init step p q = Mapped (λ x. fold_left step (init x.0) x.1) (Both p (λ a. Many step q (init a)))
