-- What texts make, and that a catalog takes what one more makes.
use Rattle.std.proofs.Common.{◌≡◌, ℕ, suc, List, [], ◌∷◌, ◌++◌, length, Option, Some, None, Ok, refl, sym, ◌∙◌, ap, subst}
use Rattle.std.proofs.lemmas.List.{length-map}
use Rattle.std.specs.FinMap.{empty}
use Rattle.iv_types.specs.Definitions.{Definitions, CanAdd, number_of}
use Rattle.iv_types.specs.declared.catalog.Definition.{Definition}
use Rattle.iv_types.specs.declared.catalog.Definition.TheVariants.{Table, Index, View}
use Rattle.iv_types.specs.Grammar.{Spells}
use Rattle.iv_types.specs.Syntax as s
use Rattle.iv_types.specs.Syntax.{StatementTree}
use Rattle.iv_meaning.specs.Schema.{Schema, Object}
use Rattle.iv_meaning.specs.Objects.{object_of, schema_of}
use Rattle.iv_meaning.specs.Binding.{bind, bound_of}
use Rattle.iv_meaning.specs.Database.{Database}
use Rattle.iv_meaning.specs.Resolving as resolving
use Rattle.iv_meaning.specs.Resolving.{Resolved}
use Rattle.iv_meaning.specs.Sound.{IsSound, IsObject}
use Rattle.iv_meaning.specs.Statement.{create}
use Rattle.query_laws.specs.Limited.{IsLimited}
use Rattle.query_laws.proofs.Bound.{AreAlike, is_bound}
use Rattle.query_laws.proofs.LimitedLemmas.{limited_law, numbers_law}
use Rattle.query_laws.proofs.TermLemmas.{get_behind}
use Rattle.sql_parse.proofs.Lines.{unique}
use Rattle.txn_machine.specs.May.{IsCreate}
use Rattle.txn_machine.specs.ViewLaws.{AreSound}
use Rattle.txn_machine.proofs.Creating.{creates_sound}
use Rattle.data_defining.proofs.Adding.{can_add}
use Rattle.data_defining.proofs.Names.{name_is_free}
use Rattle.txn_log.specs.Appended.{Creates}
use Rattle.txn_log.specs.Stored.{AllCreate}
use Rattle.log_disk.proofs.Building.{none_sound}
use Rattle.image_catalog.specs.Texts.{IsBound, IsDefined, AreMade}

-- what a text's one statement creates, the text makes
pub bound_defined : (objects : Schema) (text : List ℕ) (statement : StatementTree) (made : Option Definition) → Spells text statement → IsBound objects statement made → IsDefined objects text made
bound_defined objects text statement None spells h = λ o creates. h o (subst (λ (x : StatementTree). bind objects x ≡ Ok (create o)) (unique text creates.0 statement creates.1 spells) creates.2)
bound_defined objects text statement (Some d) spells h = (statement, spells, h)

-- ---- one definition more

-- a database without rows
abbrev without_rows : Schema → Database
without_rows objects = record { number = 0; schema = objects; rows = empty }

-- what texts make is sound and within the limits
pub record StandSo (objects : Schema) : Type 0 where
  pub sound : AreSound objects empty
  pub limited : IsLimited objects

as_database : (objects : Schema) → AreSound objects empty → IsSound (without_rows objects)
as_database objects sound = record { objects = sound.objects; rows = sound.rows }

one_more : (objects : Schema) (statement : StatementTree) (o : Object) → StandSo objects → bind objects statement ≡ Ok (create o) → StandSo (objects ++ o ∷ [])
one_more objects statement o so e = record {
  sound = creates_sound (without_rows objects) statement o so.sound e;
  limited = limited_law (without_rows objects) (as_database objects so.sound) so.limited statement o e;
}

all_more : (objects : Schema) (texts : List (List ℕ)) (all : Schema) → StandSo objects → AllCreate objects texts all → StandSo all
all_more objects [] all so h = subst StandSo (sym h) so
all_more objects (text ∷ texts) all so h = all_more (objects ++ h.0 ∷ []) texts all (one_more objects h.1.0 h.0 so h.1.2) h.2

pub made_so : (objects : Schema) → AreMade objects → StandSo objects
made_so objects made = all_more [] made.texts objects (record { sound = none_sound; limited = numbers_law.0 }) made.all_create

number_here : (objects : Schema) (n : ℕ) (d : Definition) → IsObject objects n (object_of d) → number_of d ≡ n
number_here objects n (Table t) h = h.0
number_here objects n (Index i) h = h.0
number_here objects n (View v) h = h.0

number_new : (ds : Definitions) (statement : StatementTree) (d : Definition) → StandSo (schema_of ds) → bind (schema_of ds) statement ≡ Ok (create (object_of d)) → number_of d ≡ suc (length ds)
number_new ds statement d so e =
    let after : StandSo (schema_of ds ++ object_of d ∷ []) = one_more (schema_of ds) statement (object_of d) so e in
    number_here (schema_of ds ++ object_of d ∷ []) (suc (length (schema_of ds))) d (after.sound.objects (suc (length (schema_of ds))) (object_of d) (get_behind (schema_of ds) [] (object_of d)))
    ∙ ap suc (length-map ds object_of)

-- what creates an object is a CREATE statement
creating : (objects : Schema) (statement : StatementTree) (to : Resolved) (o : Object) → AreAlike statement to → bound_of objects to ≡ create o → IsCreate statement
creating objects (s.create_table name columns primary) to o alike e = tt
creating objects (s.create_index name target columns) to o alike e = tt
creating objects (s.create_view name query) to o alike e = tt
creating objects (s.insert target tuples) (resolving.insert _ _) o alike e = absurd (cc)
creating objects (s.update target ss condition) (resolving.update _ _ _) o alike e = absurd (cc)
creating objects (s.delete target condition) (resolving.delete _ _) o alike e = absurd (cc)
creating objects (s.select query order) (resolving.select _ _) o alike e = absurd (cc)
creating objects statement resolving.control o alike e = absurd (cc)
creating objects _ _ o alike e = absurd alike

is_create : (objects : Schema) (statement : StatementTree) (o : Object) → bind objects statement ≡ Ok (create o) → IsCreate statement
is_create objects statement o e = let b = is_bound objects statement (create o) e in creating objects statement b.to o b.alike b.made

pub takes_one : (ds : Definitions) (text : List ℕ) (d : Definition) → AreMade (schema_of ds) → Creates (schema_of ds) text (object_of d) → CanAdd ds d
takes_one ds text d made creates =
    let so : StandSo (schema_of ds) = made_so (schema_of ds) made in
    let more : StandSo (schema_of ds ++ object_of d ∷ []) = one_more (schema_of ds) creates.0 (object_of d) so creates.2 in
    let free = name_is_free (schema_of ds) creates.0 (object_of d) (is_create (schema_of ds) creates.0 (object_of d) creates.2) creates.2 in
    can_add ds (schema_of ds) d refl (number_new ds creates.0 d so creates.2) free more.limited
