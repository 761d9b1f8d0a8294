-- The text of a statement that creates an object is short.
use Rattle.std.specs.Prelude.{◌≡◌, ◌≤◌, false, not, nat_lt, List, ◌∷◌, length, Ok}
use Rattle.std.specs.List.{AllByRecursion}
use Rattle.std.proofs.Common.{arith}
use Rattle.std.proofs.lemmas.Bool.{ltb-false}
use Rattle.iv_types.specs.Printing.{statement_text, statement_size}
use Rattle.iv_types.specs.Syntax.{StatementTree}
use Rattle.iv_types.specs.declared.limit.TheConstants.{LONGEST_DEFINITION}
use Rattle.iv_types.specs.declared.refusal.Refusal.TheVariants.{WrongType}
use Rattle.iv_meaning.specs.Binding.{bind, bound_of, checked}
use Rattle.iv_meaning.specs.Resolving as resolving
use Rattle.iv_meaning.specs.Resolving.{Resolved, resolved}
use Rattle.iv_meaning.specs.Schema.{Schema, Object}
use Rattle.iv_meaning.specs.Statement as statement
use Rattle.iv_meaning.specs.Tests.{tests}
use Rattle.iv_meaning.specs.Types.{well_typed}
use Rattle.query_laws.proofs.Bound.{IsPassed, passing_all, went_on}

of_size : (s : StatementTree) → nat_lt LONGEST_DEFINITION (statement_size s) ≡ false → length (statement_text s) ≤ LONGEST_DEFINITION
of_size s e = let few = ltb-false LONGEST_DEFINITION (statement_size s) e in omega (arith, few)

by : (objects : Schema) (s : StatementTree) (to : Resolved) → AllByRecursion IsPassed (tests objects (statement_size s) to) → (o : Object) → bound_of objects to ≡ statement.create o → length (statement_text s) ≤ LONGEST_DEFINITION
by objects s (resolving.table name columns primary) passed o e = of_size s passed.1.1.1.1.1.0
by objects s (resolving.index name target columns) passed o e = of_size s passed.1.1.1.1.1.0
by objects s (resolving.view name q) passed o e = of_size s passed.1.1.1.1.1.1.1.1.1.1.1.1.1.0
by objects s (resolving.insert target tuples) passed o e = absurd (cc)
by objects s (resolving.update target sets condition) passed o e = absurd (cc)
by objects s (resolving.delete target condition) passed o e = absurd (cc)
by objects s (resolving.select q order) passed o e = absurd (cc)
by objects s resolving.control passed o e = absurd (cc)

pub text_short : (objects : Schema) (s : StatementTree) (o : Object) → bind objects s ≡ Ok (statement.create o) → length (statement_text s) ≤ LONGEST_DEFINITION
text_short objects s o e =
    let r = went_on (resolved objects s) (checked objects (statement_size s)) (statement.create o) e in
    let c = passing_all ((not (well_typed objects r.0), WrongType) ∷ tests objects (statement_size s) r.0) (bound_of objects r.0) (statement.create o) r.2 in
    by objects s r.0 c.0.1 o c.1
