-- Lemmas on what a query sees.
use Rattle.std.proofs.Common.{◌≡◌, ℕ, List, ◌∷◌, map}
use mathlib.Core.Path.{ap, ◌∙◌}
use Rattle.iv_types.specs.declared.statement.Join.{Join}
use Rattle.iv_types.specs.declared.statement.Relation.{Relation}
use Rattle.iv_types.specs.Trees.{join_tree}
use Rattle.iv_meaning.specs.Schema.{Schema}
use Rattle.iv_meaning.specs.Resolving.{Column, Scope, called, columns_seen}

abbrev pub relations_in : List Join → List Relation
relations_in joins = map (λ join. join.relation) (map join_tree joins)

abbrev pub called_in : List Join → List (List ℕ)
called_in joins = map called (relations_in joins)

abbrev seen : Schema → Relation → List Join → Scope
seen objects first joins = record { relations = called first ∷ called_in joins; columns = columns_seen objects 0 (first ∷ relations_in joins) }

pub seen_is : (objects : Schema) (first : Relation) (joins all : List Join) (names : List (List ℕ)) (columns : List Column)
    → names ≡ called first ∷ called_in joins → columns ≡ columns_seen objects 0 (first ∷ relations_in joins) → joins ≡ all
    → record { relations = names; columns = columns } ≡ seen objects first all
seen_is objects first joins all names columns e f is =
    ap (λ (ns : List (List ℕ)). record { relations = ns; columns = columns }) e
    ∙ (ap (λ (cs : List Column). record { relations = called first ∷ called_in joins; columns = cs }) f ∙ ap (seen objects first) is)
