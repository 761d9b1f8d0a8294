-- No clause of `run` rests on this module: it serves contracts between crates.
--
-- The items of a view, and arithmetic.
use Rattle.std.specs.Prelude.{is_some, Bool, true, false}
use Rattle.iv_types.specs.declared.expression.Op.{Op}
use Rattle.iv_types.specs.declared.expression.Op.TheVariants as op
use Rattle.iv_meaning.specs.Query.{count, sum, plain}
use Rattle.iv_meaning.specs.Resolving.{NamedItem}

abbrev pub is_arithmetic : Op → Bool
is_arithmetic op.Add = true
is_arithmetic op.Subtract = true
is_arithmetic op.Multiply = true
is_arithmetic _ = false

-- it is a count, or a sum, with a name
abbrev pub is_named_count : NamedItem → Bool
is_named_count i = elim i.item [ count ↦ is_some i.name | sum place ↦ false | plain e ↦ false ]

abbrev pub is_named_sum : NamedItem → Bool
is_named_sum i = elim i.item [ sum place ↦ is_some i.name | count ↦ false | plain e ↦ false ]
