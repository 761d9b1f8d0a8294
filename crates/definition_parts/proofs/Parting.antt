-- A text is parted, one part after another.
use Rattle.std.specs.Prelude.{◌≡◌, ℕ, zero, suc, ◌+◌, ◌-◌, ◌*◌, min, List, [], ◌∷◌, ◌++◌, length, take, drop}
use mathlib.Core.Path.{refl, sym, ap, ◌∙◌}
use mathlib.Core.Logic.{inl, inr}
use Rattle.std.proofs.Common.{arith}
use Rattle.std.proofs.lemmas.Bool.{cases_lt}
use Rattle.std.proofs.lemmas.List.{length-drop, drop-drop, take_all}
use Rattle.txn_machine.specs.Log.{part_bytes}
use Rattle.txn_log.specs.Stored.{first_parts}
use Rattle.definition_parts.specs.Parts.{part_entry, entries_from}
use Rattle.definition_parts.proofs.Entries.{parts_many}

more_parts : (k : ℕ) (text : List ℕ) → first_parts (suc k) text ≡ first_parts k text ++ take part_bytes (drop (k * part_bytes) text) ∷ []
more_parts zero text = refl
more_parts (suc k) text =
    ap (λ l. take part_bytes text ∷ l) (more_parts k (drop part_bytes text))
    ∙ ap (λ b. take part_bytes text ∷ (first_parts k (drop part_bytes text) ++ take part_bytes b ∷ []))
    (drop-drop (k * part_bytes) part_bytes text ∙ ap (λ i. drop i text) (let same : part_bytes + k * part_bytes ≡ suc k * part_bytes = omega arith in same))

entries_last : (n j : ℕ) (parts : List (List ℕ)) (bytes : List ℕ) → entries_from n j (parts ++ bytes ∷ []) ≡ entries_from n j parts ++ part_entry n (j + length parts) bytes ∷ []
entries_last n j [] bytes = ap (λ k. part_entry n k bytes ∷ []) (let same : j ≡ j + 0 = omega arith in same)
entries_last n j (part ∷ parts) bytes =
    ap (λ l. part_entry n j part ∷ l) (entries_last n (suc j) parts bytes
    ∙ ap (λ k. entries_from n (suc j) parts ++ part_entry n k bytes ∷ []) (let same : suc j + length parts ≡ j + suc (length parts) = omega arith in same))

-- one part more
pub one_part : (n k : ℕ) (text : List ℕ) → entries_from n 0 (first_parts (k + 1) text) ≡ entries_from n 0 (first_parts k text) ++ part_entry n k (take part_bytes (drop (k * part_bytes) text)) ∷ []
one_part n k text =
    ap (λ c. entries_from n 0 (first_parts c text)) (let same : k + 1 ≡ suc k = omega arith in same)
    ∙ (ap (entries_from n 0) (more_parts k text)
    ∙ (entries_last n 0 (first_parts k text) (take part_bytes (drop (k * part_bytes) text))
    ∙ ap (λ i. entries_from n 0 (first_parts k text) ++ part_entry n i (take part_bytes (drop (k * part_bytes) text)) ∷ []) (let many = parts_many k text in let same : 0 + length (first_parts k text) ≡ k = omega (arith, many) in same)))

-- what is cut off at the text's end is a part
pub is_cut : (text : List ℕ) (from to : ℕ) → to ≡ min (from + part_bytes) (length text) → take (to - from) (drop from text) ≡ take part_bytes (drop from text)
is_cut text from to is =
    let left = length-drop from text in
    elim (cases_lt (from + part_bytes) (length text)) [
      | inl less ↦ ap (λ n. take n (drop from text)) (let same : to - from ≡ part_bytes = omega (arith, is, less) in same)
      | inr most ↦ take_all (to - from) (drop from text) (omega (arith, is, most, left)) ∙ sym (take_all part_bytes (drop from text) (omega (arith, most, left)))
    ]
