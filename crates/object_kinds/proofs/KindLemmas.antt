-- Lemmas on kinds.
use Rattle.std.specs.Prelude.{◌≡◌, ◌<◌, ℕ, ◌+◌, List, ◌∷◌, map, drop}
use Rattle.std.proofs.Common.{length}
use Rattle.std.proofs.lemmas.List.{at_drop_more}
use Rattle.iv_types.specs.declared.value.Kind.TheVariants.{Huge}
use Rattle.iv_types.specs.declared.expression.ColumnAt.{ColumnAt}

pub one_huge : (sums : List ColumnAt) (i : ℕ) → i < length sums → map (λ (sum : ColumnAt). Huge) (drop i sums) ≡ Huge ∷ map (λ (sum : ColumnAt). Huge) (drop (i + 1) sums)
one_huge sums i h = at_drop_more (map (λ (sum : ColumnAt). Huge)) sums i (record { source = 0; column = 0 }) h
