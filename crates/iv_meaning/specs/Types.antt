-- Pass 2: the types of a resolved statement.
use Rattle.std.specs.Prelude.{◌&&◌, Bool, true, false, List, [], ◌∷◌, map, Option, Some, None}
use Rattle.std.specs.List.{list_all}
use Rattle.std.specs.Option.{option_map, option_map_or}
use Rattle.iv_types.specs.declared.value.Kind.{Kind}
use Rattle.iv_types.specs.declared.value.Kind.TheVariants.{Int, Huge, Text}
use Rattle.iv_types.specs.declared.expression.Op.{Op}
use Rattle.iv_types.specs.declared.expression.Op.TheVariants as op
use Rattle.iv_types.specs.Syntax as s
use Rattle.iv_types.specs.Syntax.{Tree}
use Rattle.iv_meaning.specs.Schema.{Schema, Object, object_kinds, kind_at}
use Rattle.iv_meaning.specs.Query.{BoundItem, count, sum, plain}
use Rattle.iv_meaning.specs.Statement.{BoundSet}
use Rattle.iv_meaning.specs.Resolving.{ResolvedQuery, Resolved, view, insert, update, delete, select}

-- ---- families of expressions

pub data Family : Type 0 where
  number : Family
  text : Family
  truth : Family

abbrev pub family_of_kind : Kind → Family
family_of_kind Int = number
family_of_kind Huge = number
family_of_kind Text = text

abbrev pub is_number : Option Family → Bool
is_number (Some number) = true
is_number _ = false

abbrev pub is_text : Option Family → Bool
is_text (Some text) = true
is_text _ = false

abbrev pub is_truth : Option Family → Bool
is_truth (Some truth) = true
is_truth _ = false

-- of the family of a column
abbrev pub is_of : Kind → Option Family → Bool
is_of Int f = is_number f
is_of Huge f = is_number f
is_of Text f = is_text f

-- a number or a text
abbrev pub is_value : Option Family → Bool
is_value (Some number) = true
is_value (Some text) = true
is_value _ = false

abbrev pub alike : Option Family → Option Family → Bool
alike (Some number) g = is_number g
alike (Some text) g = is_text g
alike _ g = false

-- a family, if the operands have their types
abbrev pub typed : Bool → Family → Option Family
typed true f = Some f
typed false f = None

abbrev pub family_of_pair : Op → Option Family → Option Family → Option Family
family_of_pair op.Or f g = typed (is_truth f && is_truth g) truth
family_of_pair op.And f g = typed (is_truth f && is_truth g) truth
family_of_pair op.Add f g = typed (is_number f && is_number g) number
family_of_pair op.Subtract f g = typed (is_number f && is_number g) number
family_of_pair op.Multiply f g = typed (is_number f && is_number g) number
family_of_pair _ f g = typed (alike f g) truth

-- the family of a bound expression on relations of these columns, or none where a type is wrong
abbrev pub family : List (List Kind) → Tree → Option Family
family kinds (s.number n) = Some number
family kinds (s.word w) = Some text
family kinds (s.named ref) = None
family kinds (s.at place) = option_map family_of_kind (kind_at kinds place)
family kinds (s.not e) = typed (is_truth (family kinds e)) truth
family kinds (s.minus e) = typed (is_number (family kinds e)) number
family kinds (s.pair o a b) = family_of_pair o (family kinds a) (family kinds b)

-- ---- statements

abbrev pub sources_of : ResolvedQuery → List Object
sources_of query = query.first ∷ map (λ j. j.object) query.joins

abbrev pub kinds_seen : Schema → ResolvedQuery → List (List Kind)
kinds_seen objects query = map (object_kinds objects) (sources_of query)

abbrev pub item_typed : List (List Kind) → BoundItem → Bool
item_typed kinds count = true
item_typed kinds (sum place) = is_number (family kinds (s.at place))
item_typed kinds (plain e) = is_value (family kinds e)

abbrev pub condition_typed : List (List Kind) → Option Tree → Bool
condition_typed kinds condition = option_map_or (λ e. is_truth (family kinds e)) condition true

abbrev pub query_typed : Schema → ResolvedQuery → Bool
query_typed objects query =
    let kinds : List (List Kind) = kinds_seen objects query in
    list_all (λ i. item_typed kinds i.item) query.items && list_all (λ j. is_truth (family kinds j.on)) query.joins && condition_typed kinds query.condition

-- the values behind the last column are values of some type
abbrev pub tuple_typed : List Kind → List Tree → Bool
tuple_typed kinds [] = true
tuple_typed [] (e ∷ es) = is_value (family [] e) && tuple_typed [] es
tuple_typed (kind ∷ kinds) (e ∷ es) = is_of kind (family [] e) && tuple_typed kinds es

abbrev pub set_typed : List (List Kind) → BoundSet → Bool
set_typed kinds a = option_map_or (λ kind. is_of kind (family kinds a.value)) (kind_at kinds (record { source = 0; column = a.column })) false

abbrev pub well_typed : Schema → Resolved → Bool
well_typed objects (view name query) = query_typed objects query
well_typed objects (insert target tuples) = list_all (tuple_typed (object_kinds objects target)) tuples
well_typed objects (update target sets condition) =
    let kinds : List (List Kind) = object_kinds objects target ∷ [] in
    list_all (set_typed kinds) sets && condition_typed kinds condition
well_typed objects (delete target condition) = condition_typed (object_kinds objects target ∷ []) condition
well_typed objects (select query order) = query_typed objects query
well_typed objects _ = true
