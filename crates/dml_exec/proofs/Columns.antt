-- Lemmas on rows after assignments, column by column and row by row.
use Rattle.std.specs.Prelude.{◌≡◌, ◌<◌, ◌≤◌, ◌+◌, ℕ, List, [], ◌∷◌, map, length, drop, get_or}
use Rattle.std.proofs.lemmas.List.{at_drop_more, at_drop_all}
use mathlib.Core.Path.{refl, sym, ap, ◌∙◌}
use Rattle.iv_types.specs.declared.value.Kind.{Kind}
use Rattle.iv_types.specs.declared.value.Value.{Value}
use Rattle.iv_meaning.specs.Database.{Row}
use Rattle.iv_meaning.specs.Statement.{BoundSet, column_after, columns_after}

module _ (ss : List BoundSet) (row : Row) where
  pub next_column : (kinds : List Kind) (values : List Value) (i : ℕ) (d : Kind) (v : Value) → i < length kinds → i < length values → v ≡ get_or values i v
      → columns_after ss row (drop i kinds) i (drop i values) ≡ column_after ss row (get_or kinds i d) i v ∷ columns_after ss row (drop (i + 1) kinds) (i + 1) (drop (i + 1) values)
  next_column kinds values i d v p q is =
      at_drop_more (λ ks. columns_after ss row ks i (drop i values)) kinds i d p
      ∙ (at_drop_more (λ vs. columns_after ss row (get_or kinds i d ∷ drop (i + 1) kinds) i vs) values i v q
      ∙ ap (λ x. column_after ss row (get_or kinds i d) i x ∷ columns_after ss row (drop (i + 1) kinds) (i + 1) (drop (i + 1) values)) (sym is))

  no_values : (kinds : List Kind) (i : ℕ) → columns_after ss row kinds i [] ≡ []
  no_values [] i = refl
  no_values (k ∷ kinds) i = refl

  pub no_more_columns : (kinds : List Kind) (values : List Value) (i : ℕ) → length values ≤ i → columns_after ss row (drop i kinds) i (drop i values) ≡ []
  no_more_columns kinds values i h = at_drop_all (λ vs. columns_after ss row (drop i kinds) i vs) values i h ∙ no_values (drop i kinds) i

-- one more row
pub next_row : {X Y : Type 0} (f : X → Y) (rows : List X) (i : ℕ) (row : X) → i < length rows → row ≡ get_or rows i row
    → map f (drop i rows) ≡ f row ∷ map f (drop (i + 1) rows)
next_row f rows i row h is = at_drop_more (map f) rows i row h ∙ ap (λ x. f x ∷ map f (drop (i + 1) rows)) (sym is)
