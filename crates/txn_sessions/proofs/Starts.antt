-- How statements start, by what they are to their session.
use Rattle.std.specs.Prelude.{◌≡◌, Option, None}
use mathlib.Core.Path.{refl, sym, subst}
use Rattle.iv_types.specs.declared.statement.Mode.{Mode}
use Rattle.iv_types.specs.declared.statement.Mode.TheVariants.{Serial}
use Rattle.iv_types.specs.declared.statement.Statement.{Statement}
use Rattle.iv_types.specs.Syntax as tree
use Rattle.iv_types.specs.Syntax.{StatementTree}
use Rattle.iv_types.specs.Trees.{statement_tree}
use Rattle.iv_meaning.specs.Schema.{Schema}
use Rattle.iv_meaning.specs.Transaction.{refused_outside}
use Rattle.txn_machine.specs.Acts as act
use Rattle.script_law.specs.Programs.{Standing, Todo}
use Rattle.script_law.specs.Sessions.{begins_with, outside_frame, runs, start_outside, programs_of}
use Rattle.statement_law.specs.Statements.{statement_work, the_works}
use Rattle.txn_sessions.specs.declared.starting.Sort.TheVariants as sort
use Rattle.txn_sessions.specs.declared.line.Opening.TheVariants as opening
use Rattle.txn_sessions.specs.declared.line.Stage.TheVariants as stage
use Rattle.txn_sessions.specs.Starts.{sort_of}
use Rattle.txn_sessions.specs.Left.{asked_as}

-- ---- outside a transaction

work_outside : (copy : Schema) (t : StatementTree) → sort_of t ≡ sort.Work
    → (refused_outside t ≡ None) × (begins_with the_works Serial copy (λ held number. runs the_works held Serial (outside_frame the_works held) (statement_work Serial held t) 0) ≡ start_outside the_works copy t)
work_outside copy (tree.insert table tuples) e = (refl, refl)
work_outside copy (tree.update table sets condition) e = (refl, refl)
work_outside copy (tree.delete table condition) e = (refl, refl)
work_outside copy (tree.select query order) e = (refl, refl)
work_outside copy _ e = absurd (cc)

-- how a session starts it, and that it does not refuse it
abbrev Starts : Standing → StatementTree → Todo → Type 0
Starts st t todo = ((programs_of the_works).refuses st t ≡ None) × (todo ≡ (programs_of the_works).start st t)

-- a session is in this mode
in_mode : (st : Standing) (m : Option Mode) → st.mode ≡ m → record st { mode = m } ≡ st
in_mode st m e = λ i. record st { mode = sym e i }

pub work_starts : (st : Standing) (s : Statement) → st.mode ≡ None → sort_of (statement_tree s) ≡ sort.Work
    → Starts st (statement_tree s) (asked_as st.mode st (act.Begin Serial) (stage.Opening (opening.Alone s)))
work_starts st s e is =
    let out = work_outside st.copy (statement_tree s) is in
    subst (λ (x : Standing). Starts x (statement_tree s) (asked_as x.mode x (act.Begin Serial) (stage.Opening (opening.Alone s)))) (in_mode st None e) (out.0, out.1)

begin_outside : (t : StatementTree) (mode : Mode) → sort_of t ≡ sort.Begin mode → t ≡ tree.begin mode
begin_outside (tree.begin other) mode e = cc
begin_outside (tree.create_table name columns primary) mode e = absurd (cc)
begin_outside (tree.create_index name of columns) mode e = absurd (cc)
begin_outside (tree.create_view name query) mode e = absurd (cc)
begin_outside (tree.insert table tuples) mode e = absurd (cc)
begin_outside (tree.update table sets condition) mode e = absurd (cc)
begin_outside (tree.delete table condition) mode e = absurd (cc)
begin_outside (tree.select query order) mode e = absurd (cc)
begin_outside tree.commit mode e = absurd (cc)
begin_outside (tree.rollback to) mode e = absurd (cc)
begin_outside (tree.savepoint name) mode e = absurd (cc)

pub begin_starts : (st : Standing) (t : StatementTree) (mode : Mode) → st.mode ≡ None → sort_of t ≡ sort.Begin mode
    → Starts st t (asked_as st.mode st (act.Begin mode) (stage.Opening (opening.Begin mode)))
begin_starts st t mode e is =
    subst (λ (x : Standing). Starts x t (asked_as x.mode x (act.Begin mode) (stage.Opening (opening.Begin mode)))) (in_mode st None e)
    (subst (λ (s : StatementTree). Starts (record st { mode = None }) s (asked_as None (record st { mode = None }) (act.Begin mode) (stage.Opening (opening.Begin mode)))) (sym (begin_outside t mode is)) (refl, refl))
