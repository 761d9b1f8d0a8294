-- What index 0 counts is at most what the parts that were found do, of which its texts are joined: each text has no more parts than that.
use Rattle.std.proofs.Common.{inl, inr, Bool, true, false, ℕ, ◌+◌, ◌≤◌, List, [], ◌∷◌, ◌++◌, map, length, Option, Some, ◌∙◌, ap, arith, length-append}
use Rattle.std.proofs.lemmas.Bool.{cases_lt}
use Rattle.iv_types.specs.Definitions.{Definitions}
use Rattle.iv_types.specs.Maps.{Map, map_size}
use Rattle.txn_machine.specs.Log.{entry_bytes, definition_entries, part_bytes}
use Rattle.txn_machine.proofs.LogSums.{sum_first}
use Rattle.txn_log.specs.Damaged.{Found, with_next, in_texts, texts_found}
use Rattle.definition_parts.specs.Parts.{HasTexts}
use Rattle.definition_parts.proofs.Sizes.{sizes_are}
use Rattle.image_entries.specs.Entries.{NoneBad}
use Rattle.image_entries.specs.Parts.{SizeFails, SizesStand}
use Rattle.image_catalog.specs.Texts.{is_first}
use Rattle.image_catalog.proofs.Joining.{joined_by}
use Rattle.record_replay.proofs.Texts.{sizes}
use Rattle.image_pages.specs.Pages.{found_bytes}

-- what goes on with the text before, and the texts
abbrev counted : List ℕ × List (ℕ × List ℕ) → ℕ
counted left = definition_entries left.0 + sizes (texts_found left.1)

one_more : (first : Bool) (f : Found) (left : List ℕ × List (ℕ × List ℕ)) → length f.entry.1 ≤ part_bytes → counted (joined_by first f left) ≤ entry_bytes 6 (length f.entry.1) + counted left
one_more true f left few =
    let both = length-append f.entry.1 left.0 in
    let all = sum_first (definition_entries (f.entry.1 ++ left.0)) (map definition_entries (texts_found left.1)) in
    omega (arith, both, all, few)
one_more false f left few = let both = length-append f.entry.1 left.0 in omega (arith, both, few)

at_most : (m n : ℕ) → ((m ≤ n → ⊥) → ⊥) → m ≤ n
at_most m n h = elim (cases_lt n m) [
  | inl more ↦ absurd (h (λ le. omega (arith, more, le)))
  | inr le ↦ le
]

all_counted : (earlier : List (Found × Option Found)) (fs : List Found) → NoneBad SizeFails earlier (with_next fs) → counted (in_texts fs) ≤ found_bytes fs
all_counted earlier [] h = omega arith
all_counted earlier (f ∷ []) h =
    let one : counted (in_texts (f ∷ [])) ≤ entry_bytes 6 (length f.entry.1) + counted (in_texts []) = one_more (is_first f) f (in_texts []) (at_most (length f.entry.1) part_bytes h.0) in
    omega (arith, one)
all_counted earlier (f ∷ g ∷ fs) h =
    let rest = all_counted ((f, Some g) ∷ earlier) (g ∷ fs) h.1 in
    let one : counted (in_texts (f ∷ g ∷ fs)) ≤ entry_bytes 6 (length f.entry.1) + counted (in_texts (g ∷ fs)) =
    one_more (is_first f) f (in_texts (g ∷ fs)) (at_most (length f.entry.1) part_bytes (λ none. h.0 (λ has. none has.1))) in
    omega (arith, rest, one)

pub index_counts : (m : Map) (ds : Definitions) (fs : List Found) → SizesStand fs → HasTexts m ds (texts_found (in_texts fs).1) → map_size m ≤ found_bytes fs
index_counts m ds fs stand has =
    let all = ap map_size has.are ∙ sizes_are (texts_found (in_texts fs).1) has.short has.few in
    let most = all_counted [] fs stand in
    omega (arith, all, most)
