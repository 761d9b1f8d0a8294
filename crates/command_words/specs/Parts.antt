-- No clause of `run` rests on this module: it serves contracts between crates.
--
-- The part with which words begin, and the parts that were met.
use Rattle.std.specs.Prelude.{◌≡◌, ℕ, Bool, true, false, List, ◌++◌, length, Option, Some, None}
use Rattle.command_words.specs.declared.parts.Sort.{Sort}
use Rattle.command_words.specs.declared.parts.Sort.TheVariants as sort
use Rattle.command_words.specs.declared.parts.Met.{Met}
use Rattle.command_words.specs.Words.{Part, file, pages, log_kib, Fits, words_of}

abbrev pub sort_of : Part → Sort
sort_of (file name) = sort.File
sort_of (pages joined number) = sort.Pages
sort_of (log_kib joined number) = sort.LogKib

-- the words begin with a part of this sort, of so many words
pub record PartAt (words : List (List ℕ)) (kind : Sort) (count : ℕ) : Type 0 where
  pub part : Part
  pub fits : Fits part
  pub kind_is : kind ≡ sort_of part
  pub rest : List (List ℕ)
  pub are : words ≡ words_of part ++ rest
  pub counted : length (words_of part) ≡ count

-- they begin with no part
abbrev pub NoPartAt : List (List ℕ) → Type 0
NoPartAt words = (part : Part) (rest : List (List ℕ)) → Fits part → words ≡ words_of part ++ rest → ⊥

-- whether a part of this sort was met
abbrev pub has_met : Met → Sort → Bool
has_met met sort.File = met.file
has_met met sort.Pages = met.pages
has_met met sort.LogKib = met.log_kib

abbrev pub with_met : Met → Sort → Met
with_met met sort.File = record met { file = true }
with_met met sort.Pages = record met { pages = true }
with_met met sort.LogKib = record met { log_kib = true }

-- what was met with one part more, or none where it was met before
abbrev pub WithOne : Met → Sort → Option Met → Type 0
WithOne met kind None = has_met met kind ≡ true
WithOne met kind (Some more) = (has_met met kind ≡ false) × (more ≡ with_met met kind)
