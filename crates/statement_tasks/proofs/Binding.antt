-- What a statement that a transaction of a mode may have is bound to.
use Rattle.std.specs.Prelude.{◌≡◌, [], true, None, Ok}
use mathlib.Core.Path.{refl, sym, subst}
use Rattle.iv_types.specs.declared.statement.Mode.{Mode}
use Rattle.iv_types.specs.declared.statement.Mode.TheVariants.{Serial, Snapshot}
use Rattle.iv_types.specs.Syntax as tree
use Rattle.iv_types.specs.Syntax.{StatementTree}
use Rattle.iv_meaning.specs.Schema.{Schema}
use Rattle.iv_meaning.specs.Binding.{bind}
use Rattle.iv_meaning.specs.Statement as statement
use Rattle.iv_meaning.specs.Statement.{BoundTree}
use Rattle.iv_meaning.specs.Transaction.{refused_inside}
use Rattle.script_law.specs.Works.{is_work}
use Rattle.statement_law.proofs.Binding.{IsWork, bound_is_work, bound_select}
use Rattle.statement_tasks.specs.Tasks.{IsFor}

serial_for : (what : BoundTree) → IsWork what → IsFor Serial what
serial_for (statement.select query) w = tt
serial_for (statement.insert number tuples) w = refl
serial_for (statement.update number sets condition) w = refl
serial_for (statement.delete number condition) w = refl
serial_for (statement.create object) w = absurd w
serial_for statement.control w = absurd w

pub bound_for : (mode : Mode) (objects : Schema) (s : StatementTree) (what : BoundTree) → is_work s ≡ true → refused_inside mode [] s ≡ None
    → bind objects s ≡ Ok what → IsFor mode what
bound_for Serial objects s what w allowed e = serial_for what (bound_is_work objects s what w e)
bound_for Snapshot objects (tree.select query order) what w allowed e =
    let b = bound_select objects query order what e in subst (IsFor Snapshot) (sym b.1) tt
bound_for Snapshot objects (tree.insert table tuples) what w allowed e = absurd (cc)
bound_for Snapshot objects (tree.update table sets condition) what w allowed e = absurd (cc)
bound_for Snapshot objects (tree.delete table condition) what w allowed e = absurd (cc)
bound_for Snapshot objects _ what w allowed e = absurd (cc)
