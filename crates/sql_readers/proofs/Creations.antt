-- The readers of CREATE read its grammar.
use Rattle.std.proofs.Common.{ℕ, Bool, List, [], refl}
use Rattle.std.specs.Prelude.{◌||◌}
use Rattle.text_grammar.specs.Readers.{Reader, is, one, both, mapped, behind, either}
use Rattle.text_grammar.specs.Languages.{Lang, One, Then, Behind, Mapped, Either, Row}
use Rattle.text_grammar.specs.Places.{Begins}
use Rattle.text_grammar.proofs.Exactness.{Exact, never, StartsWith, widened}
use Rattle.text_grammar.proofs.Tokens.{one-exact}
use Rattle.text_grammar.proofs.Combining.{mapped-exact, either-exact}
use Rattle.text_grammar.proofs.Repeating.{row-exact}
use Rattle.text_grammar.proofs.Starts.{one_starts, behind_starts, both_starts, mapped_starts, without, either_without, one_begins, both_begins, mapped_begins, row_begins, left_begins}
use Rattle.iv_types.specs.declared.terminal.Terminal.TheVariants as t
use Rattle.iv_types.specs.declared.value.Kind.{Kind}
use Rattle.iv_types.specs.declared.value.Kind.TheVariants as kind
use Rattle.iv_types.specs.declared.statement.ColumnDef.{ColumnDef}
use Rattle.iv_types.specs.Terminals.{same}
use Rattle.iv_types.specs.Tokens.{Symbol, fixed}
use Rattle.iv_types.specs.Limits.{Limits}
use Rattle.iv_types.specs.Syntax.{StatementTree}
use Rattle.iv_types.specs.Expressions.{the, AName}
use Rattle.iv_types.specs.Grammar.{singleton, snoc, Enclosed, Names, kind_of, column_of, AColumn, TableBody, table_of, ATable, index_of, AnIndex, AQuery, view_of, AView, ACreation}
use Rattle.sql_readers.specs.Ladder.{is_name, name_reader}
use Rattle.sql_readers.specs.Statements.{enclosed, names, column, columns, table_body, table, index, query, view, creation}
use Rattle.sql_readers.proofs.Apart.{apart_kinds, fixed_not_name}
use Rattle.sql_readers.proofs.Ladder.{name-exact, name_begins, name_starts, behind_the, behind_some, the_begins}
use Rattle.sql_readers.proofs.Lists.{follows_starts, follows_never, then_by, enclosed-exact, enclosed_begins, comma, listed-exact, listed_begins}
use Rattle.sql_readers.proofs.GoingOn.{on_query, Ended, never_ends}
use Rattle.sql_readers.proofs.Queries.{query-exact, query_begins}

-- ---- names

abbrev pub on_names : Symbol → Bool
on_names x = never x || comma x

pub names-exact : (l : Limits) → Exact (Names l) on_names (names l)
unfolding Names names
names-exact l = listed-exact (AName l) never (name_reader l) (name-exact l) (name_begins l) (never_ends comma)

names_begins : (l : Limits) → Begins (Names l) []
unfolding Names
names_begins l = listed_begins (AName l) (name_begins l)

close_ends_names : Ended t.Close on_names
unfolding same
close_ends_names (fixed t.Close) h = refl
close_ends_names _ h = absurd cc

pub enclosed_names-exact : (l : Limits) → Exact (Enclosed (Names l)) never (enclosed (names l))
enclosed_names-exact l = enclosed-exact (Names l) on_names (names l) (names-exact l) (names_begins l) close_ends_names

enclosed_names_begins : (l : Limits) → Begins (Enclosed (Names l)) []
enclosed_names_begins l = enclosed_begins (Names l) (names_begins l)

-- ---- CREATE TABLE, CREATE INDEX

abbrev pub Typed : Limits → Lang Symbol (List ℕ × Kind)
Typed l = Then (AName l) (One kind_of)

abbrev pub typed : Limits → Reader Symbol (List ℕ × Kind)
typed l = both (name_reader l) (λ _. one kind_of)

kind_begins : Begins (One kind_of) []
kind_begins = one_begins kind_of (fixed t.Int) kind.Int refl

typed_begins : (l : Limits) → Begins (Typed l) []
typed_begins l = both_begins (AName l) (λ _. One kind_of) (name_begins l) (λ _. kind_begins)

pub typed-exact : (l : Limits) → Exact (Typed l) never (typed l)
typed-exact l = then_by (AName l) (One kind_of) never never never (name_reader l) (one kind_of) (name-exact l) (one-exact kind_of) kind_begins (follows_starts (is kind_of) (One kind_of) never never (one_starts kind_of) (never_ends (is kind_of))) (λ x h. refl)

pub column-exact : (l : Limits) → Exact (AColumn l) never (column l)
unfolding AColumn column
column-exact l =
    mapped-exact (λ x. x.0) (Then (Mapped column_of (Typed l)) (One (the t.Comma))) never (both (mapped column_of (typed l)) (λ _. one (the t.Comma)))
    (then_by (Mapped column_of (Typed l)) (One (the t.Comma)) never never never (mapped column_of (typed l)) (one (the t.Comma)) (mapped-exact column_of (Typed l) never (typed l) (typed-exact l)) (one-exact (the t.Comma)) (the_begins t.Comma)
    (follows_starts comma (One (the t.Comma)) never never (one_starts (the t.Comma)) (never_ends comma)) (λ x h. refl))

column_begins : (l : Limits) → Begins (AColumn l) []
unfolding AColumn
column_begins l = mapped_begins (λ x. x.0) (Then (Mapped column_of (Typed l)) (One (the t.Comma))) (both_begins (Mapped column_of (Typed l)) (λ _. One (the t.Comma)) (mapped_begins column_of (Typed l) (typed_begins l)) (λ _. the_begins t.Comma))

pub column_starts : (l : Limits) → StartsWith (AColumn l) is_name
unfolding AColumn
column_starts l = mapped_starts (λ x. x.0) (Then (Mapped column_of (Typed l)) (One (the t.Comma))) is_name (both_starts (Mapped column_of (Typed l)) (λ _. One (the t.Comma)) is_name (mapped_starts column_of (Typed l) is_name (both_starts (AName l) (λ _. One kind_of) is_name (name_starts l))))

abbrev pub Columns : Limits → Lang Symbol (List ColumnDef)
Columns l = Row singleton snoc (AColumn l) (λ _. AColumn l)

pub columns-exact : (l : Limits) → Exact (Row singleton snoc (AColumn l) (λ _. AColumn l)) is_name (columns l)
unfolding columns
columns-exact l = row-exact is_name singleton snoc (AColumn l) (λ _. AColumn l) never is_name (column l) (λ _. column l) (column-exact l) (λ c. column-exact l) (λ c. column_starts l) (λ x h. refl, λ x h. (refl, h))

abbrev pub Primary : Limits → Lang Symbol (List (List ℕ))
Primary l = Behind (the t.Primary) (Behind (the t.Key) (Enclosed (Names l)))

abbrev pub primary : Limits → Reader Symbol (List (List ℕ))
primary l = behind (the t.Primary) (behind (the t.Key) (enclosed (names l)))

pub primary-exact : (l : Limits) → Exact (Primary l) never (primary l)
primary-exact l = behind_the t.Primary (Behind (the t.Key) (Enclosed (Names l))) never (behind (the t.Key) (enclosed (names l))) (behind_the t.Key (Enclosed (Names l)) never (enclosed (names l)) (enclosed_names-exact l) (enclosed_names_begins l)) (behind_some t.Key (Enclosed (Names l)) (enclosed_names_begins l))

primary_begins : (l : Limits) → Begins (Primary l) []
primary_begins l = behind_some t.Primary (Behind (the t.Key) (Enclosed (Names l))) (behind_some t.Key (Enclosed (Names l)) (enclosed_names_begins l))

pub table_body-exact : (l : Limits) → Exact (TableBody l) never (table_body l)
unfolding TableBody table_body
table_body-exact l =
    then_by (Columns l) (Primary l) is_name never never (columns l) (primary l) (columns-exact l) (primary-exact l) (primary_begins l)
    (follows_starts (is (the t.Primary)) (Primary l) is_name never (behind_starts (the t.Primary) (Behind (the t.Key) (Enclosed (Names l)))) (fixed_not_name t.Primary)) (λ x h. refl)

table_body_begins : (l : Limits) → Begins (TableBody l) []
unfolding TableBody
table_body_begins l = both_begins (Columns l) (λ _. Primary l) (row_begins singleton snoc (AColumn l) (λ _. AColumn l) (column_begins l)) (λ _. primary_begins l)

pub enclosed_body-exact : (l : Limits) → Exact (Enclosed (TableBody l)) never (enclosed (table_body l))
enclosed_body-exact l = enclosed-exact (TableBody l) never (table_body l) (table_body-exact l) (table_body_begins l) (never_ends (is (the t.Close)))

-- a name and what follows it with no doubt
pub named-exact : {A : Type 0} (l : Limits) (q : Lang Symbol A) (on : Symbol → Bool) (r : Reader Symbol A) → Exact q on r → Begins q [] → Exact (Then (AName l) q) on (both (name_reader l) (λ _. r))
named-exact l q on r e some = then_by (AName l) q never on on (name_reader l) r (name-exact l) e some (follows_never q on) (λ x h. h)

table_rest_begins : (l : Limits) → Begins (Mapped table_of (Then (AName l) (Enclosed (TableBody l)))) []
table_rest_begins l = mapped_begins table_of (Then (AName l) (Enclosed (TableBody l))) (both_begins (AName l) (λ _. Enclosed (TableBody l)) (name_begins l) (λ _. enclosed_begins (TableBody l) (table_body_begins l)))

pub table-exact : (l : Limits) → Exact (ATable l) never (table l)
unfolding ATable table
table-exact l =
    behind_the t.Table (Mapped table_of (Then (AName l) (Enclosed (TableBody l)))) never (mapped table_of (both (name_reader l) (λ _. enclosed (table_body l))))
    (mapped-exact table_of (Then (AName l) (Enclosed (TableBody l))) never (both (name_reader l) (λ _. enclosed (table_body l)))
    (named-exact l (Enclosed (TableBody l)) never (enclosed (table_body l)) (enclosed_body-exact l) (enclosed_begins (TableBody l) (table_body_begins l))))
    (table_rest_begins l)

pub table_starts : (l : Limits) → StartsWith (ATable l) (is (the t.Table))
unfolding ATable
table_starts l = behind_starts (the t.Table) (Mapped table_of (Then (AName l) (Enclosed (TableBody l))))

table_begins : (l : Limits) → Begins (ATable l) []
unfolding ATable
table_begins l = behind_some t.Table (Mapped table_of (Then (AName l) (Enclosed (TableBody l)))) (table_rest_begins l)

abbrev pub Place : Limits → Lang Symbol (List ℕ × List (List ℕ))
Place l = Then (AName l) (Enclosed (Names l))

abbrev pub place : Limits → Reader Symbol (List ℕ × List (List ℕ))
place l = both (name_reader l) (λ _. enclosed (names l))

pub place-exact : (l : Limits) → Exact (Place l) never (place l)
place-exact l = named-exact l (Enclosed (Names l)) never (enclosed (names l)) (enclosed_names-exact l) (enclosed_names_begins l)

place_begins : (l : Limits) → Begins (Place l) []
place_begins l = both_begins (AName l) (λ _. Enclosed (Names l)) (name_begins l) (λ _. enclosed_names_begins l)

pub index-exact : (l : Limits) → Exact (AnIndex l) never (index l)
unfolding AnIndex index
index-exact l =
    behind_the t.Index (Mapped index_of (Then (AName l) (Behind (the t.On) (Place l)))) never (mapped index_of (both (name_reader l) (λ _. behind (the t.On) (place l))))
    (mapped-exact index_of (Then (AName l) (Behind (the t.On) (Place l))) never (both (name_reader l) (λ _. behind (the t.On) (place l)))
    (named-exact l (Behind (the t.On) (Place l)) never (behind (the t.On) (place l)) (behind_the t.On (Place l) never (place l) (place-exact l) (place_begins l)) (behind_some t.On (Place l) (place_begins l))))
    (mapped_begins index_of (Then (AName l) (Behind (the t.On) (Place l))) (both_begins (AName l) (λ _. Behind (the t.On) (Place l)) (name_begins l) (λ _. behind_some t.On (Place l) (place_begins l))))

pub index_starts : (l : Limits) → StartsWith (AnIndex l) (is (the t.Index))
unfolding AnIndex
index_starts l = behind_starts (the t.Index) (Mapped index_of (Then (AName l) (Behind (the t.On) (Place l))))

abbrev pub ViewTail : Limits → Lang Symbol StatementTree
ViewTail l = Mapped view_of (Then (AName l) (Behind (the t.As) (AQuery l)))

abbrev pub view_tail : Limits → Reader Symbol StatementTree
view_tail l = mapped view_of (both (name_reader l) (λ _. behind (the t.As) (query l)))

view_tail_begins : (l : Limits) → Begins (ViewTail l) []
view_tail_begins l = mapped_begins view_of (Then (AName l) (Behind (the t.As) (AQuery l))) (both_begins (AName l) (λ _. Behind (the t.As) (AQuery l)) (name_begins l) (λ _. behind_some t.As (AQuery l) (query_begins l)))

pub view-exact : (l : Limits) → Exact (AView l) on_query (view l)
unfolding AView view
view-exact l =
    behind_the t.Indexed (Behind (the t.View) (ViewTail l)) on_query (behind (the t.View) (view_tail l))
    (behind_the t.View (ViewTail l) on_query (view_tail l)
    (mapped-exact view_of (Then (AName l) (Behind (the t.As) (AQuery l))) on_query (both (name_reader l) (λ _. behind (the t.As) (query l)))
    (named-exact l (Behind (the t.As) (AQuery l)) on_query (behind (the t.As) (query l)) (behind_the t.As (AQuery l) on_query (query l) (query-exact l) (query_begins l)) (behind_some t.As (AQuery l) (query_begins l))))
    (view_tail_begins l))
    (behind_some t.View (ViewTail l) (view_tail_begins l))

view_starts : (l : Limits) → StartsWith (AView l) (is (the t.Indexed))
unfolding AView
view_starts l = behind_starts (the t.Indexed) (Behind (the t.View) (ViewTail l))

abbrev pub Created : Limits → Lang Symbol StatementTree
Created l = Either (ATable l) (Either (AnIndex l) (AView l))

abbrev pub created : Limits → Reader Symbol StatementTree
created l = either (is (the t.Table)) (table l) (either (is (the t.Index)) (index l) (view l))

pub created-exact : (l : Limits) → Exact (Created l) on_query (created l)
created-exact l =
    either-exact (is (the t.Table)) (ATable l) (Either (AnIndex l) (AView l)) on_query (table l) (either (is (the t.Index)) (index l) (view l))
    (widened (ATable l) never on_query (table l) (table-exact l) (λ x h. refl))
    (either-exact (is (the t.Index)) (AnIndex l) (AView l) on_query (index l) (view l) (widened (AnIndex l) never on_query (index l) (index-exact l) (λ x h. refl)) (view-exact l) (index_starts l)
    (without (AView l) (is (the t.Indexed)) (is (the t.Index)) (view_starts l) (λ x h. apart_kinds t.Indexed t.Index x refl h)))
    (table_starts l)
    (either_without (AnIndex l) (AView l) (is (the t.Table)) (without (AnIndex l) (is (the t.Index)) (is (the t.Table)) (index_starts l) (λ x h. apart_kinds t.Index t.Table x refl h)) (without (AView l) (is (the t.Indexed)) (is (the t.Table)) (view_starts l) (λ x h. apart_kinds t.Indexed t.Table x refl h)))

pub creation-exact : (l : Limits) → Exact (ACreation l) on_query (creation l)
unfolding ACreation creation
creation-exact l = behind_the t.Create (Created l) on_query (created l) (created-exact l) (left_begins (ATable l) (Either (AnIndex l) (AView l)) (table_begins l))

pub creation_starts : (l : Limits) → StartsWith (ACreation l) (is (the t.Create))
unfolding ACreation
creation_starts l = behind_starts (the t.Create) (Created l)

pub creation_begins : (l : Limits) → Begins (ACreation l) []
unfolding ACreation
creation_begins l = behind_some t.Create (Created l) (left_begins (ATable l) (Either (AnIndex l) (AView l)) (table_begins l))
