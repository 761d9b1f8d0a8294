-- No clause of `run` rests on this module: it serves contracts between crates.
--
-- How the words behind `init` are read, part by part.
use Rattle.std.specs.Prelude.{◌≡◌, ◌⊎◌, ◌≤◌, ◌==◌, ℕ, false, List, [], ◌∷◌, ◌++◌, length, codes}
use Rattle.std.specs.List.{AllByRecursion}
use Rattle.command_words.specs.Words.{Part, Fits, all_words, files_in, pages_in, logs_in}

-- a word that is not empty and does not begin with `-`, by a test
abbrev pub IsPlain : List ℕ → Type 0
IsPlain [] = ⊥
IsPlain (b ∷ bs) = (b == 45) ≡ false

-- the words begin with an option of this name with that value, in so many words
abbrev pub ValueAt : List ℕ → List (List ℕ) → List ℕ → ℕ → Type 0
ValueAt name words value count =
    ((count ≡ 1) × ((rest : List (List ℕ)) × (words ≡ (name ++ codes "=" ++ value) ∷ rest))) ⊎ ((count ≡ 2) × ((rest : List (List ℕ)) × (words ≡ name ∷ value ∷ rest)))

-- the words are parts: FILE once, and each option at most once
pub record HasParts (words : List (List ℕ)) : Type 0 where
  pub parts : List Part
  pub are : words ≡ all_words parts
  pub fit : AllByRecursion Fits parts
  pub one_file : length (files_in parts) ≡ 1
  pub few_pages : length (pages_in parts) ≤ 1
  pub few_log : length (logs_in parts) ≤ 1
