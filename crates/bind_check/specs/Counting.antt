-- No clause of `run` rests on this module: it serves contracts between crates.
--
-- What the limits count.
use Rattle.std.specs.Prelude.{ℕ, ◌==◌, Bool, true, false, is_some, length}
use Rattle.std.specs.List.{filter_map, list_any}
use Rattle.iv_types.specs.declared.value.Kind.{Kind}
use Rattle.iv_meaning.specs.Schema.{Schema, Object, ViewTree, as_index, as_table, as_view, sources_of}
use Rattle.iv_meaning.specs.Resolving.{NamedItem}
use Rattle.iv_meaning.specs.Shape.{key_width, row_width}
use Rattle.iv_meaning.specs.Query.{count, sum, plain}
use Rattle.bind_check.specs.declared.objects.ObjectKind.{ObjectKind}
use Rattle.bind_check.specs.declared.objects.ObjectKind.TheVariants as kind
use Rattle.bind_check.specs.declared.column_widths.Width.{Width}
use Rattle.bind_check.specs.declared.column_widths.Width.TheVariants.{Key, Row}

-- an object is of this kind
abbrev pub is_a : ObjectKind → Object → Bool
is_a kind.Table o = is_some (as_table o)
is_a kind.Index o = is_some (as_index o)
is_a kind.View o = is_some (as_view o)

abbrev pub count_of : ObjectKind → Schema → ℕ
count_of kind.Table objects = length (filter_map as_table objects)
count_of kind.Index objects = length (filter_map as_index objects)
count_of kind.View objects = length (filter_map as_view objects)

abbrev pub reads : ℕ → ViewTree → Bool
reads number v = list_any (λ n. n == number) (sources_of v)

abbrev pub is_sum : NamedItem → Bool
is_sum i = elim i.item [ sum place ↦ true | count ↦ false | plain e ↦ false ]

abbrev pub width_of : Width → Kind → ℕ
width_of Key kind = key_width kind
width_of Row kind = row_width kind
