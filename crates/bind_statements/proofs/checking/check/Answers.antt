use Rattle.std.proofs.Common.{subst, sym, map}
use Rattle.iv_types.specs.Printing.{statement_size}
use Rattle.iv_types.specs.Trees.{perhaps_tree, statement_tree, trees}
use Rattle.iv_meaning.specs.Bound.{set_tree}
use Rattle.iv_meaning.specs.Objects.{object_of, schema_of}
use Rattle.iv_meaning.specs.Resolving as meant
use Rattle.iv_meaning.specs.Binding.{passed}
use Rattle.bind_resolve.specs.Meant.{IsMeant}
use Rattle.bind_resolve.specs.Seen.{query_seen, resolved_seen}
use Rattle.bind_statements.specs.Checked.{every_test}
use Rattle.bind_statements.proofs.TestLemmas.{select_is, view_is}
use Rattle.bind_statements.proofs.checking.check.Goals as goal

pub returns-in-Table : goal.returns-in-Table
returns-in-Table c =
    subst (λ r. IsMeant (λ u. u) c.check_table.result (passed (every_test (schema_of c.args.catalog.now) (statement_size (statement_tree c.args.statement.now)) (resolved_seen r)))) (sym c.in-Table.is)
    (subst (λ primary. IsMeant (λ u. u) c.check_table.result (passed (every_test (schema_of c.args.catalog.now) (statement_size (statement_tree c.args.statement.now)) (meant.table c.in-Table.name.now c.in-Table.columns.now primary))))
    c.as_slice.ensures c.check_table.ensures)

pub returns-in-Index : goal.returns-in-Index
returns-in-Index c =
    subst (λ r. IsMeant (λ u. u) c.check_index.result (passed (every_test (schema_of c.args.catalog.now) (statement_size (statement_tree c.args.statement.now)) (resolved_seen r)))) (sym c.in-Index.is)
    (subst (λ columns. IsMeant (λ u. u) c.check_index.result (passed (every_test (schema_of c.args.catalog.now) (statement_size (statement_tree c.args.statement.now)) (meant.index c.in-Index.name.now (object_of c.in-Index.target.now) columns))))
    c.as_slice-in-Index.ensures c.check_index.ensures)

pub returns-in-View : goal.returns-in-View
returns-in-View c =
    subst (λ r. IsMeant (λ u. u) c.check_view.result (passed (every_test (schema_of c.args.catalog.now) (statement_size (statement_tree c.args.statement.now)) (resolved_seen r)))) (sym c.in-View.is)
    (subst (IsMeant (λ u. u) c.check_view.result) (view_is (schema_of c.args.catalog.now) (statement_size (statement_tree c.args.statement.now)) c.in-View.name.now (query_seen c.in-View.query)) c.check_view.ensures)

pub returns-in-Insert : goal.returns-in-Insert
returns-in-Insert c =
    subst (λ r. IsMeant (λ u. u) c.check_insert.result (passed (every_test (schema_of c.args.catalog.now) (statement_size (statement_tree c.args.statement.now)) (resolved_seen r)))) (sym c.in-Insert.is)
    (subst (λ tuples. IsMeant (λ u. u) c.check_insert.result (passed (every_test (schema_of c.args.catalog.now) 0 (meant.insert (object_of c.in-Insert.target.now) (map trees tuples)))))
    c.as_slice-in-Insert.ensures c.check_insert.ensures)

pub returns-in-Update : goal.returns-in-Update
returns-in-Update c =
    subst (λ r. IsMeant (λ u. u) c.check_update.result (passed (every_test (schema_of c.args.catalog.now) (statement_size (statement_tree c.args.statement.now)) (resolved_seen r)))) (sym c.in-Update.is)
    (subst (λ sets. IsMeant (λ u. u) c.check_update.result (passed (every_test (schema_of c.args.catalog.now) 0 (meant.update (object_of c.in-Update.target.now) (map set_tree sets) (perhaps_tree c.in-Update.condition)))))
    c.as_slice-in-Update.ensures c.check_update.ensures)

pub returns-in-Select : goal.returns-in-Select
returns-in-Select c =
    subst (λ r. IsMeant (λ u. u) c.check_select.result (passed (every_test (schema_of c.args.catalog.now) (statement_size (statement_tree c.args.statement.now)) (resolved_seen r)))) (sym c.in-Select.is)
    (subst (IsMeant (λ u. u) c.check_select.result) (select_is (schema_of c.args.catalog.now) (statement_size (statement_tree c.args.statement.now)) (query_seen c.in-Select.query) c.in-Select.order.now) c.check_select.ensures)
