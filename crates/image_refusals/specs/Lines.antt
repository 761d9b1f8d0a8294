-- How the refusal of an image is told.
use Rattle.std.specs.Prelude.{ℕ, ℤ, List, [], ◌++◌, codes, decimal, Option, Some, None}
use Rattle.std.specs.List.{flat_map}
use Rattle.std.specs.Fmt.{signed_decimal}
use Rattle.iv_types.specs.Replies.{row_text, spaced}
use Rattle.iv_meaning.specs.Schema.{Schema, Object, view, numbered, group_kinds}
use Rattle.statement_law.specs.Telling.{values_in}
use Rattle.image_finding.specs.declared.fault.BadImage.{BadImage}
use Rattle.image_views.specs.declared.wrong.WrongRow.{WrongRow}

-- the rule that fails, and the place
abbrev pub rule_line : BadImage → List ℕ
rule_line bad = codes "BADIMAGE " ++ (decimal bad.rule ++ (codes " " ++ (decimal bad.place ++ codes "\n")))

-- a space and the number, for each
abbrev pub numbers_of : List ℤ → List ℕ
numbers_of numbers = flat_map (λ n. spaced (signed_decimal n)) numbers

-- the count and the sums of a row, or that there is none
abbrev pub side_text : Option (List ℤ) → List ℕ
side_text None = codes " NONE"
side_text (Some numbers) = numbers_of numbers

-- the name of a view and the values of a group
abbrev pub named_group : Schema → Option Object → List ℕ → List ℕ
named_group objects (Some (view v)) group = spaced v.name ++ row_text (values_in (group_kinds objects v) group)
named_group objects _ group = []

-- the view and the group, and the row as it is stored and as the view has it
abbrev pub row_line : Schema → WrongRow → List ℕ
row_line objects w =
    codes "BADVIEW" ++ (named_group objects (numbered objects w.view) w.group ++ (codes " STORED" ++ (side_text w.stored ++ (codes " FRESH" ++ (side_text w.fresh ++ codes "\n")))))
