-- The written grammar of a statement.
--
-- Where a list may have no more than so many tuples, relations or items, a `hole` may stand for one of them. No text has
-- a hole, so it makes no statement more; it says what the comma or the JOIN before one too many still begins.
use Rattle.std.specs.Prelude.{◌≡◌, ℕ, suc, nat_lt, pos, Bool, true, false, List, [], ◌∷◌, ◌++◌, length, Option, Some, None}
use Rattle.text_grammar.specs.Languages.{Lang, One, Then, Behind, Before, Mapped, Either, Perhaps, Row}
use Rattle.iv_types.specs.declared.terminal.Terminal.TheVariants as t
use Rattle.iv_types.specs.declared.value.Kind.{Kind}
use Rattle.iv_types.specs.declared.value.Kind.TheVariants as kind
use Rattle.iv_types.specs.declared.expression.Ref.{Ref}
use Rattle.iv_types.specs.declared.statement.ColumnDef.{ColumnDef}
use Rattle.iv_types.specs.declared.statement.Relation.{Relation}
use Rattle.iv_types.specs.declared.statement.OrderKey.{OrderKey}
use Rattle.iv_types.specs.declared.statement.OrderKey.TheVariants as key
use Rattle.iv_types.specs.declared.statement.Order.{Order}
use Rattle.iv_types.specs.declared.statement.Mode.TheVariants as mode
use Rattle.iv_types.specs.Tokens.{Symbol, fixed, hole, tokens, symbols}
use Rattle.iv_types.specs.Limits.{Limits, the_limits}
use Rattle.iv_types.specs.Syntax as s
use Rattle.iv_types.specs.Syntax.{Tree, JoinTree, ItemTree, QueryTree, SetTree, StatementTree}
use Rattle.iv_types.specs.Expressions.{the, AName, ANumber, AReference, AnExpression}

-- ---- lists

abbrev pub singleton : {A : Type 0} → A → List A
singleton x = x ∷ []

abbrev pub snoc : {A : Type 0} → List A → A → List A
snoc xs x = xs ++ (x ∷ [])

-- one { "," one }
abbrev pub Listed : {A : Type 0} → Lang Symbol A → Lang Symbol (List A)
Listed p = Row singleton snoc p (λ _. Behind (the t.Comma) p)

-- none where it is left out
abbrev pub or_none : {A : Type 0} → Option (List A) → List A
or_none None = []
or_none (Some xs) = xs

abbrev pub the_hole : Symbol → Option (Unit {0})
the_hole hole = Some tt
the_hole _ = None

abbrev pub no_item : {A : Type 0} → Unit {0} → Option A
no_item _ = None

abbrev pub an_item : {A : Type 0} → A → Option A
an_item a = Some a

-- one more, unless a hole stands for it
abbrev pub add : {A : Type 0} → List A → Option A → List A
add xs None = xs
add xs (Some x) = snoc xs x

-- where the test holds
abbrev pub Only : {T A : Type 0} → Bool → Lang T A → Lang T A
Only test p ts a = (test ≡ true) × p ts a

-- one more of what there are so many of already, where there may be so many at most; or a hole
abbrev pub Counted : {A : Type 0} → ℕ → ℕ → Lang Symbol A → Lang Symbol (Option A)
Counted have most p = Either (Mapped no_item (One the_hole)) (Only (nat_lt have most) (Mapped an_item p))

-- one { "," one }, no more than so many
abbrev pub ListedTo : {A : Type 0} → ℕ → Lang Symbol A → Lang Symbol (List A)
ListedTo most p = Row singleton add p (λ have. Behind (the t.Comma) (Counted (length have) most p))

-- in parentheses
abbrev pub Enclosed : {A : Type 0} → Lang Symbol A → Lang Symbol A
Enclosed p = Behind (the t.Open) (Before (the t.Close) p)

-- names = name { "," name }
unfoldable pub Names : Limits → Lang Symbol (List (List ℕ))
Names l = Listed (AName l)

-- ---- CREATE

abbrev pub kind_of : Symbol → Option Kind
kind_of (fixed t.Int) = Some kind.Int
kind_of (fixed t.Huge) = Some kind.Huge
kind_of (fixed t.Text) = Some kind.Text
kind_of _ = None

abbrev pub column_of : List ℕ × Kind → ColumnDef
column_of x = record { name = x.0; kind = x.1 }

-- column ","
unfoldable pub AColumn : Limits → Lang Symbol ColumnDef
AColumn l = Before (the t.Comma) (Mapped column_of (Then (AName l) (One kind_of)))

-- column "," { column "," } PRIMARY KEY "(" names ")"
unfoldable pub TableBody : Limits → Lang Symbol (List ColumnDef × List (List ℕ))
TableBody l = Then (Row singleton snoc (AColumn l) (λ _. AColumn l)) (Behind (the t.Primary) (Behind (the t.Key) (Enclosed (Names l))))

abbrev pub table_of : List ℕ × (List ColumnDef × List (List ℕ)) → StatementTree
table_of x = s.create_table x.0 x.1.0 x.1.1

-- TABLE name "(" .. ")"
unfoldable pub ATable : Limits → Lang Symbol StatementTree
ATable l = Behind (the t.Table) (Mapped table_of (Then (AName l) (Enclosed (TableBody l))))

abbrev pub index_of : List ℕ × (List ℕ × List (List ℕ)) → StatementTree
index_of x = s.create_index x.0 x.1.0 x.1.1

-- INDEX name ON name "(" names ")"
unfoldable pub AnIndex : Limits → Lang Symbol StatementTree
AnIndex l = Behind (the t.Index) (Mapped index_of (Then (AName l) (Behind (the t.On) (Then (AName l) (Enclosed (Names l))))))

-- ---- queries

-- [ AS name ]
abbrev pub AnAlias : Limits → Lang Symbol (Option (List ℕ))
AnAlias l = Perhaps (Behind (the t.As) (AName l))

abbrev pub sum_of : Ref × Option (List ℕ) → ItemTree
sum_of x = s.sum x.0 x.1

abbrev pub plain_of : Tree × Option (List ℕ) → ItemTree
plain_of x = s.plain x.0 x.1

abbrev pub all_of : Unit {0} → ItemTree
all_of _ = s.all

-- "*" | COUNT "(" "*" ")" [ AS name ] | SUM "(" ref ")" [ AS name ] | expr [ AS name ]
unfoldable pub AnItem : Limits → Lang Symbol ItemTree
AnItem l =
    Either (Mapped all_of (One (the t.Star)))
    (Either (Behind (the t.Count) (Behind (the t.Open) (Behind (the t.Star) (Behind (the t.Close) (Mapped s.count (AnAlias l))))))
    (Either (Behind (the t.Sum) (Mapped sum_of (Then (Enclosed (AReference l)) (AnAlias l))))
    (Mapped plain_of (Then (AnExpression l) (AnAlias l)))))

-- item { "," item }
unfoldable pub Items : Limits → Lang Symbol (List ItemTree)
Items l = ListedTo l.items (AnItem l)

abbrev pub relation_of : List ℕ × Option (List ℕ) → Relation
relation_of x = record { name = x.0; alias = x.1 }

-- name [ AS name ]
unfoldable pub ASource : Limits → Lang Symbol Relation
ASource l = Mapped relation_of (Then (AName l) (AnAlias l))

abbrev pub join_of : Option Relation × Tree → Option JoinTree
join_of x = elim x.0 [
  | None ↦ None
  | Some r ↦ Some (record { relation = r; on = x.1 })
]

-- JOIN source ON expr, behind so many relations
unfoldable pub AJoin : Limits → ℕ → Lang Symbol (Option JoinTree)
AJoin l have = Behind (the t.Join) (Mapped join_of (Then (Counted have l.relations (ASource l)) (Behind (the t.On) (AnExpression l))))

-- a first relation and those that are joined
abbrev pub Sources : Type 0
Sources = Relation × List JoinTree

abbrev pub first_source : Relation → Sources
first_source r = (r, [])

abbrev pub with_join : Sources → Option JoinTree → Sources
with_join f j = (f.0, add f.1 j)

-- source { JOIN source ON expr }
unfoldable pub From : Limits → Lang Symbol Sources
From l = Row first_source with_join (ASource l) (λ f. AJoin l (suc (length f.1)))

-- [ WHERE expr ]
unfoldable pub ACondition : Limits → Lang Symbol (Option Tree)
ACondition l = Perhaps (Behind (the t.Where) (AnExpression l))

-- [ GROUP BY ref { "," ref } ]
unfoldable pub AGrouping : Limits → Lang Symbol (List Ref)
AGrouping l = Mapped or_none (Perhaps (Behind (the t.Group) (Behind (the t.By) (Listed (AReference l)))))

abbrev pub query_of : List ItemTree × (Sources × (Option Tree × List Ref)) → QueryTree
query_of x = record { items = x.0; first = x.1.0.0; joins = x.1.0.1; condition = x.1.1.0; group = x.1.1.1 }

-- SELECT items FROM sources [ WHERE expr ] [ GROUP BY refs ]
unfoldable pub AQuery : Limits → Lang Symbol QueryTree
AQuery l = Behind (the t.Select) (Mapped query_of (Then (Items l) (Behind (the t.From) (Then (From l) (Then (ACondition l) (AGrouping l))))))

abbrev pub view_of : List ℕ × QueryTree → StatementTree
view_of x = s.create_view x.0 x.1

-- INDEXED VIEW name AS query
unfoldable pub AView : Limits → Lang Symbol StatementTree
AView l = Behind (the t.Indexed) (Behind (the t.View) (Mapped view_of (Then (AName l) (Behind (the t.As) (AQuery l)))))

unfoldable pub ACreation : Limits → Lang Symbol StatementTree
ACreation l = Behind (the t.Create) (Either (ATable l) (Either (AnIndex l) (AView l)))

abbrev pub direction_of : Symbol → Option Bool
direction_of (fixed t.Asc) = Some false
direction_of (fixed t.Desc) = Some true
direction_of _ = None

abbrev pub or_rising : Option Bool → Bool
or_rising None = false
or_rising (Some descending) = descending

abbrev pub place_key : ℕ → OrderKey
place_key n = key.Place (pos n)

abbrev pub name_key : List ℕ → OrderKey
name_key n = key.Name n

abbrev pub order_of : OrderKey × Bool → Order
order_of x = record { by = x.0; descending = x.1 }

-- ( number | name ) [ ASC | DESC ]
unfoldable pub AnOrder : Limits → Lang Symbol Order
AnOrder l = Mapped order_of (Then (Either (Mapped place_key (ANumber l)) (Mapped name_key (AName l))) (Mapped or_rising (Perhaps (One direction_of))))

abbrev pub selection_of : QueryTree × List Order → StatementTree
selection_of x = s.select x.0 x.1

-- query [ ORDER BY order { "," order } ]
unfoldable pub ASelection : Limits → Lang Symbol StatementTree
ASelection l = Mapped selection_of (Then (AQuery l) (Mapped or_none (Perhaps (Behind (the t.Order) (Behind (the t.By) (Listed (AnOrder l)))))))

-- ---- rows

-- "(" expr { "," expr } ")"
unfoldable pub ATuple : Limits → Lang Symbol (List Tree)
ATuple l = Enclosed (Listed (AnExpression l))

-- tuple { "," tuple }
unfoldable pub Tuples : Limits → Lang Symbol (List (List Tree))
Tuples l = ListedTo l.rows (ATuple l)

abbrev pub insertion_of : List ℕ × List (List Tree) → StatementTree
insertion_of x = s.insert x.0 x.1

-- INSERT INTO name VALUES tuples
unfoldable pub AnInsertion : Limits → Lang Symbol StatementTree
AnInsertion l = Behind (the t.Insert) (Behind (the t.Into) (Mapped insertion_of (Then (AName l) (Behind (the t.Values) (Tuples l)))))

abbrev pub set_of : List ℕ × Tree → SetTree
set_of x = record { name = x.0; value = x.1 }

-- name "=" expr
unfoldable pub AnAssignment : Limits → Lang Symbol SetTree
AnAssignment l = Mapped set_of (Then (AName l) (Behind (the t.Equal) (AnExpression l)))

abbrev pub update_of : List ℕ × (List SetTree × Option Tree) → StatementTree
update_of x = s.update x.0 x.1.0 x.1.1

-- UPDATE name SET assignments [ WHERE expr ]
unfoldable pub AnUpdate : Limits → Lang Symbol StatementTree
AnUpdate l = Behind (the t.Update) (Mapped update_of (Then (AName l) (Behind (the t.Set) (Then (Listed (AnAssignment l)) (ACondition l)))))

abbrev pub deletion_of : List ℕ × Option Tree → StatementTree
deletion_of x = s.delete x.0 x.1

-- DELETE FROM name [ WHERE expr ]
unfoldable pub ADeletion : Limits → Lang Symbol StatementTree
ADeletion l = Behind (the t.Delete) (Behind (the t.From) (Mapped deletion_of (Then (AName l) (ACondition l))))

-- ---- transactions

abbrev pub begin_of : Option (Unit {0}) → StatementTree
begin_of None = s.begin mode.Serial
begin_of (Some _) = s.begin mode.Snapshot

abbrev pub commit_of : Unit {0} → StatementTree
commit_of _ = s.commit

-- BEGIN [ SNAPSHOT ] | COMMIT | ROLLBACK [ TO name ] | SAVEPOINT name
unfoldable pub AControl : Limits → Lang Symbol StatementTree
AControl l =
    Either (Behind (the t.Begin) (Mapped begin_of (Perhaps (One (the t.Snapshot)))))
    (Either (Mapped commit_of (One (the t.Commit)))
    (Either (Behind (the t.Rollback) (Mapped s.rollback (Perhaps (Behind (the t.To) (AName l)))))
    (Behind (the t.Savepoint) (Mapped s.savepoint (AName l)))))

-- ---- statements

unfoldable pub AStatement : Limits → Lang Symbol StatementTree
AStatement l = Either (ACreation l) (Either (AnInsertion l) (Either (AnUpdate l) (Either (ADeletion l) (Either (ASelection l) (AControl l)))))

-- line = statement [ ";" ]
unfoldable pub ALine : Limits → Lang Symbol StatementTree
ALine l = Mapped (λ x. x.0) (Then (AStatement l) (Perhaps (One (the t.Semicolon))))

-- the text is the statement's
abbrev pub Spells : List ℕ → StatementTree → Type 0
Spells text statement = ALine the_limits (symbols (tokens text)) statement

-- no text is that of two statements
abbrev pub OneStatement : Type 0
OneStatement = (text : List ℕ) (one other : StatementTree) → Spells text one → Spells text other → one ≡ other
