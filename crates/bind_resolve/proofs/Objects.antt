-- What is defined under a name or a number, without where it lies in memory.
use Rattle.std.proofs.Common.{is_some, slice_get, add-one, ◌+◌, ◌≡◌, ℕ, zero, suc, Bool, true, false, List, [], ◌∷◌, ◌⊎◌, Option, Some, None, Result, Ok, Err, if◌then◌else◌}
use denote.Ref.{Bor}
use mathlib.Core.Path.{refl, sym, ap, ◌∙◌}
use mathlib.Core.Logic.{inl, inr}
use Rattle.std.specs.Option.{option_map, option_copied}
use Rattle.std.specs.Str.{bytes_eq}
use Rattle.std.proofs.lemmas.Option.{slice_get-map}
use Rattle.iv_types.specs.declared.catalog.Definition.{Definition}
use Rattle.iv_types.specs.declared.catalog.Definition.TheVariants.{Table, Index, View}
use Rattle.iv_types.specs.Definitions as definitions
use Rattle.iv_types.specs.declared.refusal.Refusal.{Refusal}
use Rattle.iv_types.specs.declared.refusal.Refusal.TheVariants.{NoMemory, UnknownName}
use Rattle.iv_meaning.specs.Resolving.{known}
use Rattle.iv_meaning.specs.Schema.{Object, name_of, named, numbered}
use Rattle.iv_meaning.specs.Objects.{object_of, schema_of}

pub name_alike : (d : Definition) → name_of (object_of d) ≡ definitions.name_of d
name_alike (Table t) = refl
name_alike (Index i) = refl
name_alike (View v) = refl

at_test : (b : Bool) (d : Definition) (rest : Option Object) (more : Option Definition) → rest ≡ option_map object_of more
    → (if b then Some (object_of d) else rest) ≡ option_map object_of (if b then Some d else more)
at_test true d rest more e = refl
at_test false d rest more e = e

pub named_alike : (ds : List Definition) (name : List ℕ) → named (schema_of ds) name ≡ option_map object_of (definitions.named ds name)
named_alike [] name = refl
named_alike (d ∷ ds) name =
    ap (λ n. if bytes_eq name n then Some (object_of d) else named (schema_of ds) name) (name_alike d)
    ∙ at_test (bytes_eq name (definitions.name_of d)) d (named (schema_of ds) name) (definitions.named ds name) (named_alike ds name)

pub numbered_alike : (ds : List Definition) (n : ℕ) → numbered (schema_of ds) n ≡ option_map object_of (definitions.numbered ds n)
numbered_alike ds zero = refl
numbered_alike ds (suc n) = slice_get-map object_of ds n

pub is_some_alike : (o : Option Definition) → is_some (option_map object_of o) ≡ is_some o
is_some_alike None = refl
is_some_alike (Some d) = refl

pub is_some_copied : {A : Type 0} (o : Option (Bor A)) → is_some o ≡ is_some (option_copied o)
is_some_copied None = refl
is_some_copied (Some b) = refl

-- the object behind so many others
pub object_behind : (ds : List Definition) (index : ℕ) (o : Option Definition) → o ≡ definitions.numbered ds (index + 1) → option_map object_of o ≡ slice_get (schema_of ds) index
object_behind ds index o e = ap (option_map object_of) (e ∙ ap (definitions.numbered ds) (add-one index)) ∙ sym (slice_get-map object_of ds index)

-- ---- what a name stands for

abbrev known_by : List ℕ → Option Object → Result Object Refusal
known_by name None = Err (UnknownName name)
known_by name (Some object) = Ok object

known_is : (name : List ℕ) (ds : List Definition) → known (schema_of ds) name ≡ known_by name (option_map object_of (definitions.named ds name))
known_is name ds = ap (known_by name) (named_alike ds name)

pub is_known : (ds : List Definition) (name : List ℕ) (d : Definition) → Some d ≡ definitions.named ds name → known (schema_of ds) name ≡ Ok (object_of d)
is_known ds name d e = known_is name ds ∙ ap (λ o. known_by name (option_map object_of o)) (sym e)

pub is_unknown : (ds : List Definition) (name : List ℕ) (r : Refusal) → None ≡ definitions.named ds name → (r ≡ NoMemory) ⊎ (r ≡ UnknownName name) → (r ≡ NoMemory) ⊎ (known (schema_of ds) name ≡ Err r)
is_unknown ds name r e (inl h) = inl h
is_unknown ds name r e (inr h) = inr (known_is name ds ∙ (ap (λ o. known_by name (option_map object_of o)) (sym e) ∙ ap Err (sym h)))

pub is_object : (ds : List Definition) (name : List ℕ) (o : Option (Bor Definition)) → option_copied o ≡ definitions.named ds name → is_some o ≡ is_some (named (schema_of ds) name)
is_object ds name o e = is_some_copied o ∙ (ap is_some e ∙ (sym (is_some_alike (definitions.named ds name)) ∙ ap is_some (sym (named_alike ds name))))
