-- No clause of `run` rests on this module: it serves contracts between crates.
--
-- The readers of a statement, each as the rule of the grammar that it reads.
use Rattle.std.specs.Prelude.{ℕ, suc, nat_lt, Bool, List, length, Option, Result, if◌then◌else◌}
use Rattle.text_grammar.specs.declared.fault.Cause.TheVariants.{Limit}
use Rattle.text_grammar.specs.declared.fault.Fault.{Fault}
use Rattle.text_grammar.specs.Readers.{Reader, is, one, both, mapped, behind, before, either, perhaps, blocked, row, all_of}
use Rattle.iv_types.specs.declared.terminal.Terminal.TheVariants as t
use Rattle.iv_types.specs.declared.value.Kind.{Kind}
use Rattle.iv_types.specs.declared.expression.Ref.{Ref}
use Rattle.iv_types.specs.declared.statement.ColumnDef.{ColumnDef}
use Rattle.iv_types.specs.declared.statement.Relation.{Relation}
use Rattle.iv_types.specs.declared.statement.OrderKey.{OrderKey}
use Rattle.iv_types.specs.declared.statement.Order.{Order}
use Rattle.iv_types.specs.Tokens.{Symbol}
use Rattle.iv_types.specs.Limits.{Limits}
use Rattle.iv_types.specs.Syntax as s
use Rattle.iv_types.specs.Syntax.{Tree, JoinTree, ItemTree, QueryTree, SetTree, StatementTree}
use Rattle.iv_types.specs.Expressions.{the}
use Rattle.iv_types.specs.Grammar as g
use Rattle.iv_types.specs.Grammar.{singleton, snoc, or_none, the_hole, no_item, an_item, add, kind_of, column_of, table_of, index_of, sum_of, plain_of, relation_of, join_of, Sources, first_source, with_join, query_of, view_of, direction_of, or_rising, place_key, name_key, order_of, selection_of, insertion_of, set_of, update_of, deletion_of, begin_of, commit_of}
use Rattle.sql_readers.specs.Ladder.{is_name, is_number, name_reader, number_reader, reference, expression}

abbrev pub comma_item : {A : Type 0} → Reader Symbol A → Reader Symbol A
comma_item r = behind (the t.Comma) r

abbrev pub comma_list : {A : Type 0} → Reader Symbol A → Reader Symbol (List A)
comma_list r = row (is (the t.Comma)) singleton snoc r (λ _. comma_item r)

-- one more of what there are so many of already, or its first token is one too many
abbrev pub counted : {A : Type 0} → ℕ → ℕ → ℕ → Reader Symbol A → Reader Symbol (Option A)
counted limit have most r = either (is the_hole) (mapped no_item (one the_hole)) (λ ts. if nat_lt have most then mapped an_item r ts else blocked (Limit limit) (mapped an_item r) ts)

abbrev pub listed_to : {A : Type 0} → ℕ → ℕ → Reader Symbol A → Reader Symbol (List A)
listed_to limit most r = row (is (the t.Comma)) singleton add r (λ have. comma_item (counted limit (length have) most r))

abbrev pub enclosed : {A : Type 0} → Reader Symbol A → Reader Symbol A
enclosed r = behind (the t.Open) (before (the t.Close) r)

unfoldable pub names : Limits → Reader Symbol (List (List ℕ))
names l = comma_list (name_reader l)

-- ---- CREATE

abbrev pub kind_reader : Reader Symbol Kind
kind_reader = one kind_of

unfoldable pub column : Limits → Reader Symbol ColumnDef
column l = before (the t.Comma) (mapped column_of (both (name_reader l) (λ _. one kind_of)))

unfoldable pub columns : Limits → Reader Symbol (List ColumnDef)
columns l = row is_name singleton snoc (column l) (λ _. column l)

unfoldable pub table_body : Limits → Reader Symbol (List ColumnDef × List (List ℕ))
table_body l = both (columns l) (λ _. behind (the t.Primary) (behind (the t.Key) (enclosed (names l))))

unfoldable pub table : Limits → Reader Symbol StatementTree
table l = behind (the t.Table) (mapped table_of (both (name_reader l) (λ _. enclosed (table_body l))))

unfoldable pub index : Limits → Reader Symbol StatementTree
index l = behind (the t.Index) (mapped index_of (both (name_reader l) (λ _. behind (the t.On) (both (name_reader l) (λ _. enclosed (names l))))))

-- ---- queries

abbrev pub alias : Limits → Reader Symbol (Option (List ℕ))
alias l = perhaps (is (the t.As)) (behind (the t.As) (name_reader l))

-- an item behind its COUNT or its SUM, and one without
abbrev pub count_item : Limits → Reader Symbol ItemTree
count_item l = behind (the t.Open) (behind (the t.Star) (behind (the t.Close) (mapped s.count (alias l))))

abbrev pub sum_item : Limits → Reader Symbol ItemTree
sum_item l = mapped sum_of (both (enclosed (reference l)) (λ _. alias l))

abbrev pub plain_item : Limits → Reader Symbol ItemTree
plain_item l = mapped plain_of (both (expression l) (λ _. alias l))

unfoldable pub item : Limits → Reader Symbol ItemTree
item l =
    either (is (the t.Star)) (mapped g.all_of (one (the t.Star)))
    (either (is (the t.Count)) (behind (the t.Count) (count_item l))
    (either (is (the t.Sum)) (behind (the t.Sum) (sum_item l))
    (plain_item l)))

unfoldable pub items : Limits → Reader Symbol (List ItemTree)
items l = listed_to 17 l.items (item l)

abbrev pub join_one : Relation × Tree → JoinTree
join_one x = record { relation = x.0; on = x.1 }

unfoldable pub source : Limits → Reader Symbol Relation
source l = mapped relation_of (both (name_reader l) (λ _. alias l))

-- a relation and its condition, behind a JOIN
abbrev pub joined_source : Limits → Reader Symbol JoinTree
joined_source l = mapped join_one (both (source l) (λ _. behind (the t.On) (expression l)))

unfoldable pub join : Limits → ℕ → Reader Symbol (Option JoinTree)
join l have = behind (the t.Join) (mapped join_of (both (counted 7 have l.relations (source l)) (λ _. behind (the t.On) (expression l))))

unfoldable pub from : Limits → Reader Symbol Sources
from l = row (is (the t.Join)) first_source with_join (source l) (λ f. join l (suc (length f.1)))

unfoldable pub condition : Limits → Reader Symbol (Option Tree)
condition l = perhaps (is (the t.Where)) (behind (the t.Where) (expression l))

unfoldable pub grouping : Limits → Reader Symbol (List Ref)
grouping l = mapped or_none (perhaps (is (the t.Group)) (behind (the t.Group) (behind (the t.By) (comma_list (reference l)))))

unfoldable pub query : Limits → Reader Symbol QueryTree
query l = behind (the t.Select) (mapped query_of (both (items l) (λ _. behind (the t.From) (both (from l) (λ _. both (condition l) (λ _. grouping l))))))

unfoldable pub view : Limits → Reader Symbol StatementTree
view l = behind (the t.Indexed) (behind (the t.View) (mapped view_of (both (name_reader l) (λ _. behind (the t.As) (query l)))))

unfoldable pub creation : Limits → Reader Symbol StatementTree
creation l = behind (the t.Create) (either (is (the t.Table)) (table l) (either (is (the t.Index)) (index l) (view l)))

abbrev pub key_reader : Limits → Reader Symbol OrderKey
key_reader l = either is_number (mapped place_key (number_reader l)) (mapped name_key (name_reader l))

abbrev pub direction : Reader Symbol Bool
direction = mapped or_rising (perhaps (is direction_of) (one direction_of))

unfoldable pub order : Limits → Reader Symbol Order
order l = mapped order_of (both (key_reader l) (λ _. direction))

abbrev pub ordering : Limits → Reader Symbol (List Order)
ordering l = mapped or_none (perhaps (is (the t.Order)) (behind (the t.Order) (behind (the t.By) (comma_list (order l)))))

unfoldable pub selection : Limits → Reader Symbol StatementTree
selection l = mapped selection_of (both (query l) (λ _. ordering l))

-- ---- rows

unfoldable pub tuple : Limits → Reader Symbol (List Tree)
tuple l = enclosed (comma_list (expression l))

unfoldable pub tuples : Limits → Reader Symbol (List (List Tree))
tuples l = listed_to 5 l.rows (tuple l)

unfoldable pub insertion : Limits → Reader Symbol StatementTree
insertion l = behind (the t.Insert) (behind (the t.Into) (mapped insertion_of (both (name_reader l) (λ _. behind (the t.Values) (tuples l)))))

unfoldable pub assignment : Limits → Reader Symbol SetTree
assignment l = mapped set_of (both (name_reader l) (λ _. behind (the t.Equal) (expression l)))

unfoldable pub update : Limits → Reader Symbol StatementTree
update l = behind (the t.Update) (mapped update_of (both (name_reader l) (λ _. behind (the t.Set) (both (comma_list (assignment l)) (λ _. condition l)))))

unfoldable pub deletion : Limits → Reader Symbol StatementTree
deletion l = behind (the t.Delete) (behind (the t.From) (mapped deletion_of (both (name_reader l) (λ _. condition l))))

-- ---- transactions

unfoldable pub control : Limits → Reader Symbol StatementTree
control l =
    either (is (the t.Begin)) (behind (the t.Begin) (mapped begin_of (perhaps (is (the t.Snapshot)) (one (the t.Snapshot)))))
    (either (is (the t.Commit)) (mapped commit_of (one (the t.Commit)))
    (either (is (the t.Rollback)) (behind (the t.Rollback) (mapped s.rollback (perhaps (is (the t.To)) (behind (the t.To) (name_reader l)))))
    (behind (the t.Savepoint) (mapped s.savepoint (name_reader l)))))

-- ---- statements

unfoldable pub statement : Limits → Reader Symbol StatementTree
statement l =
    either (is (the t.Create)) (creation l)
    (either (is (the t.Insert)) (insertion l)
    (either (is (the t.Update)) (update l)
    (either (is (the t.Delete)) (deletion l)
    (either (is (the t.Select)) (selection l) (control l)))))

unfoldable pub line : Limits → Reader Symbol StatementTree
line l = mapped (λ x. x.0) (both (statement l) (λ _. perhaps (is (the t.Semicolon)) (one (the t.Semicolon))))

-- all of the tokens
unfoldable pub whole_line : Limits → List Symbol → Result StatementTree Fault
whole_line l ts = all_of (line l) ts
