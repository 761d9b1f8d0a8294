-- What is printed of a statement is in the grammar.
use Rattle.std.proofs.Common.{◌≡◌, ℕ, suc, ◌<◌, arith, length-append, Bool, true, false, List, [], ◌∷◌, ◌++◌, length, drop, Option, Some, None, inl, inr, refl, sym, ap, subst, ◌∙◌, append_assoc}
use Rattle.std.specs.Prelude.{if◌then◌else◌}
use Rattle.std.specs.List.{flat_map}
use Rattle.std.proofs.lemmas.List.{append-nil}
use Rattle.std.proofs.lemmas.List.Concat.{flat_map-cons}
use Rattle.std.proofs.lemmas.Grind.{flat_map-append}
use Rattle.text_grammar.specs.Languages.{Lang, One, Then, Behind, Mapped, Either, Perhaps, Row, fold_left}
use Rattle.iv_types.specs.declared.terminal.Terminal.{Terminal}
use Rattle.iv_types.specs.declared.terminal.Terminal.TheVariants as t
use Rattle.iv_types.specs.declared.value.Kind.{Kind}
use Rattle.iv_types.specs.declared.value.Kind.TheVariants as kind
use Rattle.iv_types.specs.declared.expression.Ref.{Ref}
use Rattle.iv_types.specs.declared.statement.ColumnDef.{ColumnDef}
use Rattle.iv_types.specs.declared.statement.Relation.{Relation}
use Rattle.iv_types.specs.Tokens.{Symbol, fixed}
use Rattle.iv_types.specs.Limits.{Limits}
use Rattle.iv_types.specs.Syntax as s
use Rattle.iv_types.specs.Syntax.{Tree, JoinTree, ItemTree, QueryTree, SetTree, StatementTree}
use Rattle.iv_types.specs.Expressions.{the, AName, ANumber, AReference, AnExpression}
use Rattle.iv_types.specs.Grammar.{singleton, snoc, Listed, Enclosed, Names, kind_of, column_of, AColumn, TableBody, table_of, ATable, index_of, AnIndex, AnAlias, sum_of, plain_of, all_of, AnItem, Items, relation_of, ASource, join_of, AJoin, Counted, Sources, first_source, with_join, From, or_none, AGrouping, query_of, AQuery, view_of, AView, ACreation, place_key, name_key, order_of, or_rising, direction_of, AnOrder, selection_of, ASelection, begin_of, commit_of, AStatement, ALine, ATuple, Tuples, insertion_of, AnInsertion, set_of, AnAssignment, update_of, AnUpdate, ACondition, deletion_of, ADeletion, AControl}
use Rattle.iv_types.proofs.Spellings.{the_value}
use Rattle.iv_types.specs.Printing as p
use Rattle.iv_types.specs.Printing.{Piece, with_commas, enclosed, name_pieces, names_pieces, ref_pieces, tree_pieces, kind_mark, column_pieces, alias_pieces, item_pieces, relation_pieces, join_pieces, group_pieces, query_pieces, key_pieces, order_pieces, orders_pieces, perhaps_pieces, condition_pieces, set_pieces, tuple_pieces, statement_pieces}
use Rattle.sql_print.proofs.Printed.{symbols_of_pieces}
use Rattle.sql_print.proofs.Facts.{AllReal, Real, all_front, number_facts}
use Rattle.sql_print.proofs.Fine.{AllFine}
use Rattle.sql_print.proofs.Spelled.{number_spelled}
use Rattle.iv_types.specs.declared.statement.Order.{Order}
use Rattle.sql_print.proofs.Again.{Again, again_behind, again_then, again_before, again_enclosed, again_mapped, again_either, again_name, again_reference, again_expression, again_row, again_listed, as_left, as_right, again_listed_to, again_counted, no_counted, or_nothing}

-- printed otherwise, and yet the same
pub again_same : (N : List ℕ → Type 0) (l : Limits) {A : Type 0} (q : Lang Symbol A) (f g : A → List Piece) → ((ts : List Symbol) (x : A) → q ts x → g x ≡ f x) → Again N l q f → Again N l q g
again_same N l q f g same again ts x h all = subst (λ (ps : List Piece). q (symbols_of_pieces ps) x × AllFine N l ps) (sym (same ts x h)) (again ts x h all)

names_again : (N : List ℕ → Type 0) (l : Limits) → Again N l (Names l) (with_commas name_pieces)
unfolding Names
names_again N l = again_listed N l (AName l) name_pieces (again_name N l)

in_parentheses : (N : List ℕ → Type 0) (l : Limits) → Again N l (Enclosed (Names l)) names_pieces
in_parentheses N l = again_enclosed N l (Names l) (with_commas name_pieces) (names_again N l)

pub alias_again : (N : List ℕ → Type 0) (l : Limits) → Again N l (AnAlias l) alias_pieces
alias_again N l ts None h all = (refl, tt)
alias_again N l ts (Some w) h all = again_behind N l t.As (AName l) name_pieces (again_name N l) ts w h all

pub condition_again : (N : List ℕ → Type 0) (l : Limits) → Again N l (ACondition l) condition_pieces
unfolding ACondition
condition_again N l ts None h all = (refl, tt)
condition_again N l ts (Some e) h all = again_behind N l t.Where (AnExpression l) (tree_pieces 0) (again_expression N l) ts e h all

abbrev kind_pieces : Kind → List Piece
kind_pieces k = p.fixed (kind_mark k) ∷ []

kind_read : (k : Kind) → kind_of (fixed (kind_mark k)) ≡ Some k
kind_read kind.Int = refl
kind_read kind.Huge = refl
kind_read kind.Text = refl

kind_again : (N : List ℕ → Type 0) (l : Limits) → Again N l (One kind_of) kind_pieces
kind_again N l ts k h all = (record { token = fixed (kind_mark k); text = refl; value = kind_read k }, (tt, tt))

column_again : (N : List ℕ → Type 0) (l : Limits) → Again N l (AColumn l) column_pieces
unfolding AColumn
column_again N l =
    let both = Then (AName l) (One kind_of) in
    again_before N l t.Comma (Mapped column_of both) (λ (c : ColumnDef). p.name c.name ∷ p.fixed (kind_mark c.kind) ∷ [])
    (again_mapped N l column_of both (λ x. name_pieces x.0 ++ kind_pieces x.1) (λ (c : ColumnDef). p.name c.name ∷ p.fixed (kind_mark c.kind) ∷ []) (λ x. refl) (again_then N l (AName l) (One kind_of) name_pieces kind_pieces (again_name N l) (kind_again N l)))

column_more : (columns : List ColumnDef) (c : ColumnDef) → flat_map column_pieces (columns ++ c ∷ []) ≡ flat_map column_pieces columns ++ column_pieces c
column_more columns c = flat_map-append column_pieces columns (c ∷ []) ∙ ap (λ (ps : List Piece). flat_map column_pieces columns ++ ps) (flat_map-cons column_pieces c [] ∙ append-nil (column_pieces c))

columns_again : (N : List ℕ → Type 0) (l : Limits) → Again N l (Row singleton snoc (AColumn l) (λ _. AColumn l)) (flat_map column_pieces)
columns_again N l =
    again_row N l singleton snoc (AColumn l) (λ _. AColumn l) column_pieces (flat_map column_pieces) (λ _. Unit {0}) (λ c b begun. (column_more c b, tt)) (λ a. tt)
    (again_same N l (AColumn l) column_pieces (λ c. flat_map column_pieces (c ∷ [])) (λ ts c h. flat_map-cons column_pieces c [] ∙ append-nil (column_pieces c)) (column_again N l)) (λ c. column_again N l)

abbrev key_part : List (List ℕ) → List Piece
key_part primary = p.fixed t.Primary ∷ p.fixed t.Key ∷ names_pieces primary

body_again : (N : List ℕ → Type 0) (l : Limits) → Again N l (TableBody l) (λ x. flat_map column_pieces x.0 ++ key_part x.1)
unfolding TableBody
body_again N l =
    again_then N l (Row singleton snoc (AColumn l) (λ _. AColumn l)) (Behind (the t.Primary) (Behind (the t.Key) (Enclosed (Names l)))) (flat_map column_pieces) key_part (columns_again N l)
    (again_behind N l t.Primary (Behind (the t.Key) (Enclosed (Names l))) (λ x. p.fixed t.Key ∷ names_pieces x) (again_behind N l t.Key (Enclosed (Names l)) names_pieces (in_parentheses N l)))

-- behind the first words of a statement
abbrev pub behind_words : ℕ → StatementTree → List Piece
behind_words n statement = drop n (statement_pieces statement)

table_again : (N : List ℕ → Type 0) (l : Limits) → Again N l (ATable l) (behind_words 1)
unfolding ATable
table_again N l =
    let body = Enclosed (TableBody l) in
    let both = Then (AName l) body in
    again_same N l (ATable l) (λ x. p.fixed t.Table ∷ behind_words 2 x) (behind_words 1) (λ ts x h. rw h.value.made refl)
    (again_behind N l t.Table (Mapped table_of both) (behind_words 2)
    (again_mapped N l table_of both (λ x. name_pieces x.0 ++ enclosed (flat_map column_pieces x.1.0 ++ key_part x.1.1)) (behind_words 2) (λ x. refl)
    (again_then N l (AName l) body name_pieces (λ x. enclosed (flat_map column_pieces x.0 ++ key_part x.1)) (again_name N l) (again_enclosed N l (TableBody l) (λ x. flat_map column_pieces x.0 ++ key_part x.1) (body_again N l)))))

index_again : (N : List ℕ → Type 0) (l : Limits) → Again N l (AnIndex l) (behind_words 1)
unfolding AnIndex
index_again N l =
    let names = Enclosed (Names l) in
    let table = Then (AName l) names in
    let both = Then (AName l) (Behind (the t.On) table) in
    again_same N l (AnIndex l) (λ x. p.fixed t.Index ∷ behind_words 2 x) (behind_words 1) (λ ts x h. rw h.value.made refl)
    (again_behind N l t.Index (Mapped index_of both) (behind_words 2)
    (again_mapped N l index_of both (λ x. name_pieces x.0 ++ p.fixed t.On ∷ (name_pieces x.1.0 ++ names_pieces x.1.1)) (behind_words 2) (λ x. refl)
    (again_then N l (AName l) (Behind (the t.On) table) name_pieces (λ x. p.fixed t.On ∷ (name_pieces x.0 ++ names_pieces x.1)) (again_name N l)
    (again_behind N l t.On table (λ x. name_pieces x.0 ++ names_pieces x.1) (again_then N l (AName l) names name_pieces names_pieces (again_name N l) (in_parentheses N l))))))

-- ---- rows

tuple_again : (N : List ℕ → Type 0) (l : Limits) → Again N l (ATuple l) tuple_pieces
unfolding ATuple
tuple_again N l = again_enclosed N l (Listed (AnExpression l)) (with_commas (tree_pieces 0)) (again_listed N l (AnExpression l) (tree_pieces 0) (again_expression N l))

tuples_again : (N : List ℕ → Type 0) (l : Limits) → Again N l (Tuples l) (with_commas tuple_pieces)
unfolding Tuples
tuples_again N l = again_listed_to N l l.rows (ATuple l) tuple_pieces (tuple_again N l)

pub insertion_again : (N : List ℕ → Type 0) (l : Limits) → Again N l (AnInsertion l) statement_pieces
unfolding AnInsertion
insertion_again N l =
    let rows = Behind (the t.Values) (Tuples l) in
    let both = Then (AName l) rows in
    again_same N l (AnInsertion l) (λ x. p.fixed t.Insert ∷ p.fixed t.Into ∷ behind_words 2 x) statement_pieces (λ ts x h. rw h.value.value.made refl)
    (again_behind N l t.Insert (Behind (the t.Into) (Mapped insertion_of both)) (λ x. p.fixed t.Into ∷ behind_words 2 x)
    (again_behind N l t.Into (Mapped insertion_of both) (behind_words 2)
    (again_mapped N l insertion_of both (λ x. name_pieces x.0 ++ p.fixed t.Values ∷ with_commas tuple_pieces x.1) (behind_words 2) (λ x. refl)
    (again_then N l (AName l) rows name_pieces (λ x. p.fixed t.Values ∷ with_commas tuple_pieces x) (again_name N l) (again_behind N l t.Values (Tuples l) (with_commas tuple_pieces) (tuples_again N l))))))

assignment_again : (N : List ℕ → Type 0) (l : Limits) → Again N l (AnAssignment l) set_pieces
unfolding AnAssignment
assignment_again N l =
    let value = Behind (the t.Equal) (AnExpression l) in
    let both = Then (AName l) value in
    again_mapped N l set_of both (λ x. name_pieces x.0 ++ p.fixed t.Equal ∷ tree_pieces 0 x.1) set_pieces (λ x. refl)
    (again_then N l (AName l) value name_pieces (λ e. p.fixed t.Equal ∷ tree_pieces 0 e) (again_name N l) (again_behind N l t.Equal (AnExpression l) (tree_pieces 0) (again_expression N l)))

pub deletion_again : (N : List ℕ → Type 0) (l : Limits) → Again N l (ADeletion l) statement_pieces
unfolding ADeletion
deletion_again N l =
    let both = Then (AName l) (ACondition l) in
    again_same N l (ADeletion l) (λ x. p.fixed t.Delete ∷ p.fixed t.From ∷ behind_words 2 x) statement_pieces (λ ts x h. rw h.value.value.made refl)
    (again_behind N l t.Delete (Behind (the t.From) (Mapped deletion_of both)) (λ x. p.fixed t.From ∷ behind_words 2 x)
    (again_behind N l t.From (Mapped deletion_of both) (behind_words 2)
    (again_mapped N l deletion_of both (λ x. name_pieces x.0 ++ condition_pieces x.1) (behind_words 2) (λ x. refl)
    (again_then N l (AName l) (ACondition l) name_pieces condition_pieces (again_name N l) (condition_again N l)))))

pub update_again : (N : List ℕ → Type 0) (l : Limits) → Again N l (AnUpdate l) statement_pieces
unfolding AnUpdate
update_again N l =
    let rest = Then (Listed (AnAssignment l)) (ACondition l) in
    let both = Then (AName l) (Behind (the t.Set) rest) in
    again_same N l (AnUpdate l) (λ x. p.fixed t.Update ∷ behind_words 1 x) statement_pieces (λ ts x h. rw h.value.made refl)
    (again_behind N l t.Update (Mapped update_of both) (behind_words 1)
    (again_mapped N l update_of both (λ x. name_pieces x.0 ++ p.fixed t.Set ∷ (with_commas set_pieces x.1.0 ++ condition_pieces x.1.1)) (behind_words 1) (λ x. refl)
    (again_then N l (AName l) (Behind (the t.Set) rest) name_pieces (λ x. p.fixed t.Set ∷ (with_commas set_pieces x.0 ++ condition_pieces x.1)) (again_name N l)
    (again_behind N l t.Set rest (λ x. with_commas set_pieces x.0 ++ condition_pieces x.1)
    (again_then N l (Listed (AnAssignment l)) (ACondition l) (with_commas set_pieces) condition_pieces (again_listed N l (AnAssignment l) set_pieces (assignment_again N l)) (condition_again N l))))))

-- ---- queries

star_again : (N : List ℕ → Type 0) (l : Limits) → Again N l (One (the t.Star)) (λ _. p.fixed t.Star ∷ [])
star_again N l ts x h all = (record { token = fixed t.Star; text = refl; value = the_value t.Star }, (tt, tt))

abbrev behind_item : ℕ → ItemTree → List Piece
behind_item n item = drop n (item_pieces item)

count_again : (N : List ℕ → Type 0) (l : Limits) → Again N l (Behind (the t.Count) (Behind (the t.Open) (Behind (the t.Star) (Behind (the t.Close) (Mapped s.count (AnAlias l)))))) item_pieces
count_again N l =
    let alias = Mapped s.count (AnAlias l) in
    again_same N l (Behind (the t.Count) (Behind (the t.Open) (Behind (the t.Star) (Behind (the t.Close) alias)))) (λ x. p.fixed t.Count ∷ p.fixed t.Open ∷ p.fixed t.Star ∷ p.fixed t.Close ∷ behind_item 4 x) item_pieces (λ ts x h. rw h.value.value.value.value.made refl)
    (again_behind N l t.Count (Behind (the t.Open) (Behind (the t.Star) (Behind (the t.Close) alias))) (λ x. p.fixed t.Open ∷ p.fixed t.Star ∷ p.fixed t.Close ∷ behind_item 4 x)
    (again_behind N l t.Open (Behind (the t.Star) (Behind (the t.Close) alias)) (λ x. p.fixed t.Star ∷ p.fixed t.Close ∷ behind_item 4 x)
    (again_behind N l t.Star (Behind (the t.Close) alias) (λ x. p.fixed t.Close ∷ behind_item 4 x)
    (again_behind N l t.Close alias (behind_item 4) (again_mapped N l s.count (AnAlias l) alias_pieces (behind_item 4) (λ x. refl) (alias_again N l))))))

sum_again : (N : List ℕ → Type 0) (l : Limits) → Again N l (Behind (the t.Sum) (Mapped sum_of (Then (Enclosed (AReference l)) (AnAlias l)))) item_pieces
sum_again N l =
    let both = Then (Enclosed (AReference l)) (AnAlias l) in
    again_same N l (Behind (the t.Sum) (Mapped sum_of both)) (λ x. p.fixed t.Sum ∷ behind_item 1 x) item_pieces (λ ts x h. rw h.value.made refl)
    (again_behind N l t.Sum (Mapped sum_of both) (behind_item 1)
    (again_mapped N l sum_of both (λ x. enclosed (ref_pieces x.0) ++ alias_pieces x.1) (behind_item 1) (λ x. refl)
    (again_then N l (Enclosed (AReference l)) (AnAlias l) (λ x. enclosed (ref_pieces x)) alias_pieces (again_enclosed N l (AReference l) ref_pieces (again_reference N l)) (alias_again N l))))

pub item_again : (N : List ℕ → Type 0) (l : Limits) → Again N l (AnItem l) item_pieces
unfolding AnItem
item_again N l ts x (inl h) all = as_left (again_mapped N l all_of (One (the t.Star)) (λ _. p.fixed t.Star ∷ []) item_pieces (λ y. refl) (star_again N l) ts x h all)
item_again N l ts x (inr (inl h)) all = as_right (as_left (count_again N l ts x h all))
item_again N l ts x (inr (inr (inl h))) all = as_right (as_right (as_left (sum_again N l ts x h all)))
item_again N l ts x (inr (inr (inr h))) all =
    as_right (as_right (as_right (again_mapped N l plain_of (Then (AnExpression l) (AnAlias l)) (λ y. tree_pieces 0 y.0 ++ alias_pieces y.1) item_pieces (λ y. refl)
    (again_then N l (AnExpression l) (AnAlias l) (tree_pieces 0) alias_pieces (again_expression N l) (alias_again N l)) ts x h all)))

items_again : (N : List ℕ → Type 0) (l : Limits) → Again N l (Items l) (with_commas item_pieces)
unfolding Items
items_again N l = again_listed_to N l l.items (AnItem l) item_pieces (item_again N l)

source_again : (N : List ℕ → Type 0) (l : Limits) → Again N l (ASource l) relation_pieces
unfolding ASource
source_again N l =
    again_mapped N l relation_of (Then (AName l) (AnAlias l)) (λ x. name_pieces x.0 ++ alias_pieces x.1) relation_pieces (λ x. refl)
    (again_then N l (AName l) (AnAlias l) name_pieces alias_pieces (again_name N l) (alias_again N l))

abbrev on_pieces : Tree → List Piece
on_pieces e = p.fixed t.On ∷ tree_pieces 0 e

abbrev behind_join : Option JoinTree → List Piece
behind_join None = []
behind_join (Some j) = relation_pieces j.relation ++ on_pieces j.on

abbrev joined_pieces : Option Relation × Tree → List Piece
joined_pieces x = elim x.0 [
  | None ↦ []
  | Some r ↦ relation_pieces r ++ on_pieces x.1
]

abbrev Joined : Limits → ℕ → Lang Symbol (Option Relation × Tree)
Joined l have = Then (Counted have l.relations (ASource l)) (Behind (the t.On) (AnExpression l))

joined_same : (x : Option Relation × Tree) → behind_join (join_of x) ≡ joined_pieces x
joined_same (None, e) = refl
joined_same (Some r, e) = refl

joined_again : (N : List ℕ → Type 0) (l : Limits) (have : ℕ) → Again N l (Joined l have) joined_pieces
joined_again N l have ts (None, e) h all = absurd (no_counted N l have l.relations (ASource l) h.front h.first (all_front (Real N) h.front h.back (subst (AllReal N) h.text all)))
joined_again N l have ts (Some r, e) h all =
    again_then N l (Counted have l.relations (ASource l)) (Behind (the t.On) (AnExpression l)) (or_nothing relation_pieces) on_pieces
    (again_counted N l have l.relations (ASource l) relation_pieces (source_again N l)) (again_behind N l t.On (AnExpression l) (tree_pieces 0) (again_expression N l)) ts (Some r, e) h all

no_join : (N : List ℕ → Type 0) (l : Limits) (have : ℕ) (ts : List Symbol) (x : Option Relation × Tree) → Joined l have ts x → AllReal N ts → None ≡ join_of x → ⊥
no_join N l have ts (None, e) h all made = no_counted N l have l.relations (ASource l) h.front h.first (all_front (Real N) h.front h.back (subst (AllReal N) h.text all))
no_join N l have ts (Some r, e) h all made = cc

join_again : (N : List ℕ → Type 0) (l : Limits) (have : ℕ) → Again N l (AJoin l have) (or_nothing join_pieces)
unfolding AJoin
join_again N l have ts None h all = absurd (no_join N l have h.back h.value.value h.value.spelled (subst (AllReal N) h.text all).1 h.value.made)
join_again N l have ts (Some j) h all =
    again_behind N l t.Join (Mapped join_of (Joined l have)) behind_join (again_mapped N l join_of (Joined l have) joined_pieces behind_join joined_same (joined_again N l have)) ts (Some j) h all

abbrev sources_pieces : Sources → List Piece
sources_pieces f = relation_pieces f.0 ++ flat_map join_pieces f.1

sources_more : (f : Sources) (j : Option JoinTree) → sources_pieces (with_join f j) ≡ sources_pieces f ++ or_nothing join_pieces j
sources_more f None = sym (append-nil (sources_pieces f))
sources_more f (Some j) =
    ap (λ (ps : List Piece). relation_pieces f.0 ++ ps) (flat_map-append join_pieces f.1 (j ∷ []) ∙ ap (λ (ps : List Piece). flat_map join_pieces f.1 ++ ps) (flat_map-cons join_pieces j [] ∙ append-nil (join_pieces j)))
    ∙ sym (append_assoc (relation_pieces f.0) (flat_map join_pieces f.1) (join_pieces j))

from_again : (N : List ℕ → Type 0) (l : Limits) → Again N l (From l) sources_pieces
unfolding From
from_again N l =
    again_row N l first_source with_join (ASource l) (λ (f : Sources). AJoin l (suc (length f.1))) (or_nothing join_pieces) sources_pieces (λ _. Unit {0}) (λ c b begun. (sources_more c b, tt)) (λ a. tt)
    (again_same N l (ASource l) relation_pieces (λ r. sources_pieces (first_source r)) (λ ts r h. append-nil (relation_pieces r)) (source_again N l)) (λ f. join_again N l (suc (length f.1)))

many_some : {A : Type 0} (acc xs : List A) → 0 < length acc → 0 < length (fold_left snoc acc xs)
many_some acc [] h = h
many_some acc (x ∷ xs) h = many_some (snoc acc x) xs (omega (arith, length-append acc (x ∷ [])))

listed_some : {A : Type 0} (q : Lang Symbol A) (ts : List Symbol) (xs : List A) → Listed q ts xs → 0 < length xs
listed_some q ts xs h = subst (λ (ys : List _). 0 < length ys) (sym h.made) (many_some (singleton h.value.0) h.value.1 (omega arith))

none_listed : {A : Type 0} (q : Lang Symbol A) (ts : List Symbol) → Listed q ts [] → ⊥
none_listed q ts h = let some : 0 < 0 = listed_some q ts [] h in omega arith

-- where there are some, they stand behind two words
abbrev two_words : {A : Type 0} → Terminal → Terminal → (A → List Piece) → List A → List Piece
two_words j k f [] = []
two_words j k f (x ∷ xs) = p.fixed j ∷ p.fixed k ∷ with_commas f (x ∷ xs)

words_again : (N : List ℕ → Type 0) (l : Limits) {A : Type 0} (j k : Terminal) (q : Lang Symbol A) (f : A → List Piece) → Again N l q f → (o : Option (List A)) (ts : List Symbol) → Perhaps (Behind (the j) (Behind (the k) (Listed q))) ts o → AllReal N ts → Perhaps (Behind (the j) (Behind (the k) (Listed q))) (symbols_of_pieces (two_words j k f (or_none o))) o × AllFine N l (two_words j k f (or_none o))
words_again N l j k q f again None ts h all = (refl, tt)
words_again N l j k q f again (Some []) ts h all = absurd (none_listed q h.value.back h.value.value)
words_again N l j k q f again (Some (x ∷ xs)) ts h all =
    again_behind N l j (Behind (the k) (Listed q)) (λ ys. p.fixed k ∷ with_commas f ys) (again_behind N l k (Listed q) (with_commas f) (again_listed N l q f again)) ts (x ∷ xs) h all

group_same : (refs : List Ref) → group_pieces refs ≡ two_words t.Group t.By ref_pieces refs
group_same [] = refl
group_same (ref ∷ refs) = refl

grouping_again : (N : List ℕ → Type 0) (l : Limits) → Again N l (AGrouping l) group_pieces
unfolding AGrouping
grouping_again N l ts x h all =
    let found = words_again N l t.Group t.By (AReference l) ref_pieces (again_reference N l) h.value ts h.spelled all in
    let pieces : group_pieces x ≡ two_words t.Group t.By ref_pieces (or_none h.value) = group_same x ∙ ap (two_words t.Group t.By ref_pieces) h.made in
    let moved = subst (λ (ps : List Piece). Perhaps (Behind (the t.Group) (Behind (the t.By) (Listed (AReference l)))) (symbols_of_pieces ps) h.value × AllFine N l ps) (sym pieces) found in
    (record { value = h.value; spelled = moved.0; made = h.made }, moved.1)

query_more : (x : List ItemTree × (Sources × (Option Tree × List Ref))) → query_pieces (query_of x) ≡ p.fixed t.Select ∷ (with_commas item_pieces x.0 ++ p.fixed t.From ∷ (sources_pieces x.1.0 ++ (condition_pieces x.1.1.0 ++ group_pieces x.1.1.1)))
query_more x = ap (λ (ps : List Piece). p.fixed t.Select ∷ (with_commas item_pieces x.0 ++ p.fixed t.From ∷ ps)) (sym (append_assoc (relation_pieces x.1.0.0) (flat_map join_pieces x.1.0.1) (condition_pieces x.1.1.0 ++ group_pieces x.1.1.1)))

query_again : (N : List ℕ → Type 0) (l : Limits) → Again N l (AQuery l) query_pieces
unfolding AQuery
query_again N l =
    let ends = Then (ACondition l) (AGrouping l) in
    let rest = Then (From l) ends in
    let all = Then (Items l) (Behind (the t.From) rest) in
    again_same N l (AQuery l) (λ q. p.fixed t.Select ∷ drop 1 (query_pieces q)) query_pieces (λ ts q h. refl)
    (again_behind N l t.Select (Mapped query_of all) (λ q. drop 1 (query_pieces q))
    (again_mapped N l query_of all (λ x. with_commas item_pieces x.0 ++ p.fixed t.From ∷ (sources_pieces x.1.0 ++ (condition_pieces x.1.1.0 ++ group_pieces x.1.1.1))) (λ q. drop 1 (query_pieces q)) (λ x. ap (drop 1) (query_more x))
    (again_then N l (Items l) (Behind (the t.From) rest) (with_commas item_pieces) (λ x. p.fixed t.From ∷ (sources_pieces x.0 ++ (condition_pieces x.1.0 ++ group_pieces x.1.1))) (items_again N l)
    (again_behind N l t.From rest (λ x. sources_pieces x.0 ++ (condition_pieces x.1.0 ++ group_pieces x.1.1))
    (again_then N l (From l) ends sources_pieces (λ x. condition_pieces x.0 ++ group_pieces x.1) (from_again N l)
    (again_then N l (ACondition l) (AGrouping l) condition_pieces group_pieces (condition_again N l) (grouping_again N l)))))))

view_again : (N : List ℕ → Type 0) (l : Limits) → Again N l (AView l) (behind_words 1)
unfolding AView
view_again N l =
    let query = Behind (the t.As) (AQuery l) in
    let both = Then (AName l) query in
    again_same N l (AView l) (λ x. p.fixed t.Indexed ∷ p.fixed t.View ∷ behind_words 3 x) (behind_words 1) (λ ts x h. rw h.value.value.made refl)
    (again_behind N l t.Indexed (Behind (the t.View) (Mapped view_of both)) (λ x. p.fixed t.View ∷ behind_words 3 x)
    (again_behind N l t.View (Mapped view_of both) (behind_words 3)
    (again_mapped N l view_of both (λ x. name_pieces x.0 ++ p.fixed t.As ∷ query_pieces x.1) (behind_words 3) (λ x. refl)
    (again_then N l (AName l) query name_pieces (λ x. p.fixed t.As ∷ query_pieces x) (again_name N l) (again_behind N l t.As (AQuery l) query_pieces (query_again N l))))))

-- a statement that makes a table, an index or a view
created : (l : Limits) (ts : List Symbol) (x : StatementTree) → ACreation l ts x → statement_pieces x ≡ p.fixed t.Create ∷ behind_words 1 x
unfolding ACreation ATable AnIndex AView
created l ts x h = elim h.value [
  | inl table ↦ rw table.value.made refl
  | inr other ↦ elim other [
    | inl index ↦ rw index.value.made refl
    | inr view ↦ rw view.value.value.made refl
  ]
]

creation_again : (N : List ℕ → Type 0) (l : Limits) → Again N l (ACreation l) statement_pieces
unfolding ACreation
creation_again N l =
    let kinds = Either (ATable l) (Either (AnIndex l) (AView l)) in
    again_same N l (ACreation l) (λ x. p.fixed t.Create ∷ behind_words 1 x) statement_pieces (created l)
    (again_behind N l t.Create kinds (behind_words 1) (again_either N l (ATable l) (Either (AnIndex l) (AView l)) (behind_words 1) (table_again N l) (again_either N l (AnIndex l) (AView l) (behind_words 1) (index_again N l) (view_again N l))))

-- ---- ORDER BY

place_again : (N : List ℕ → Type 0) (l : Limits) → Again N l (ANumber l) (λ n. p.number n ∷ [])
place_again N l ts n h all = let fits = number_facts l ts n h in (number_spelled l n fits, (fits, tt))

key_again : (N : List ℕ → Type 0) (l : Limits) → Again N l (Either (Mapped place_key (ANumber l)) (Mapped name_key (AName l))) key_pieces
key_again N l =
    again_either N l (Mapped place_key (ANumber l)) (Mapped name_key (AName l)) key_pieces
    (again_mapped N l place_key (ANumber l) (λ n. p.number n ∷ []) key_pieces (λ n. refl) (place_again N l))
    (again_mapped N l name_key (AName l) name_pieces key_pieces (λ n. refl) (again_name N l))

abbrev direction_pieces : Bool → List Piece
direction_pieces descending = if descending then p.fixed t.Desc ∷ [] else []

-- a rising order is not marked
direction_again : (N : List ℕ → Type 0) (l : Limits) → Again N l (Mapped or_rising (Perhaps (One direction_of))) direction_pieces
direction_again N l ts true h all = (record { value = Some true; spelled = record { token = fixed t.Desc; text = refl; value = refl }; made = refl }, (tt, tt))
direction_again N l ts false h all = (record { value = None; spelled = refl; made = refl }, tt)

order_again : (N : List ℕ → Type 0) (l : Limits) → Again N l (AnOrder l) order_pieces
unfolding AnOrder
order_again N l =
    let key = Either (Mapped place_key (ANumber l)) (Mapped name_key (AName l)) in
    let direction = Mapped or_rising (Perhaps (One direction_of)) in
    again_mapped N l order_of (Then key direction) (λ x. key_pieces x.0 ++ direction_pieces x.1) order_pieces (λ x. refl) (again_then N l key direction key_pieces direction_pieces (key_again N l) (direction_again N l))

orders_same : (orders : List Order) → orders_pieces orders ≡ two_words t.Order t.By order_pieces orders
orders_same [] = refl
orders_same (order ∷ orders) = refl

orders_again : (N : List ℕ → Type 0) (l : Limits) → Again N l (Mapped or_none (Perhaps (Behind (the t.Order) (Behind (the t.By) (Listed (AnOrder l)))))) orders_pieces
orders_again N l ts x h all =
    let found = words_again N l t.Order t.By (AnOrder l) order_pieces (order_again N l) h.value ts h.spelled all in
    let pieces : orders_pieces x ≡ two_words t.Order t.By order_pieces (or_none h.value) = orders_same x ∙ ap (two_words t.Order t.By order_pieces) h.made in
    let moved = subst (λ (ps : List Piece). Perhaps (Behind (the t.Order) (Behind (the t.By) (Listed (AnOrder l)))) (symbols_of_pieces ps) h.value × AllFine N l ps) (sym pieces) found in
    (record { value = h.value; spelled = moved.0; made = h.made }, moved.1)

selection_again : (N : List ℕ → Type 0) (l : Limits) → Again N l (ASelection l) statement_pieces
unfolding ASelection
selection_again N l =
    let order = Mapped or_none (Perhaps (Behind (the t.Order) (Behind (the t.By) (Listed (AnOrder l))))) in
    again_mapped N l selection_of (Then (AQuery l) order) (λ x. query_pieces x.0 ++ orders_pieces x.1) statement_pieces (λ x. refl) (again_then N l (AQuery l) order query_pieces orders_pieces (query_again N l) (orders_again N l))

-- ---- transactions

begin_same : (o : Option (Unit {0})) → statement_pieces (begin_of o) ≡ p.fixed t.Begin ∷ behind_words 1 (begin_of o)
begin_same None = refl
begin_same (Some x) = refl

mode_of : (N : List ℕ → Type 0) (l : Limits) (o : Option (Unit {0})) → Mapped begin_of (Perhaps (One (the t.Snapshot))) (symbols_of_pieces (behind_words 1 (begin_of o))) (begin_of o) × AllFine N l (behind_words 1 (begin_of o))
mode_of N l None = (record { value = None; spelled = refl; made = refl }, tt)
mode_of N l (Some x) = (record { value = Some x; spelled = record { token = fixed t.Snapshot; text = refl; value = the_value t.Snapshot }; made = refl }, (tt, tt))

mode_again : (N : List ℕ → Type 0) (l : Limits) → Again N l (Mapped begin_of (Perhaps (One (the t.Snapshot)))) (behind_words 1)
mode_again N l ts x h all =
    subst (λ (y : StatementTree). Mapped begin_of (Perhaps (One (the t.Snapshot))) (symbols_of_pieces (behind_words 1 y)) y × AllFine N l (behind_words 1 y)) (sym h.made) (mode_of N l h.value)

to_again : (N : List ℕ → Type 0) (l : Limits) → Again N l (Perhaps (Behind (the t.To) (AName l))) (perhaps_pieces t.To name_pieces)
to_again N l ts None h all = (refl, tt)
to_again N l ts (Some w) h all = again_behind N l t.To (AName l) name_pieces (again_name N l) ts w h all

begin_again : (N : List ℕ → Type 0) (l : Limits) → Again N l (Behind (the t.Begin) (Mapped begin_of (Perhaps (One (the t.Snapshot))))) statement_pieces
begin_again N l =
    let mode = Mapped begin_of (Perhaps (One (the t.Snapshot))) in
    again_same N l (Behind (the t.Begin) mode) (λ x. p.fixed t.Begin ∷ behind_words 1 x) statement_pieces (λ ts x h. rw h.value.made (begin_same h.value.value))
    (again_behind N l t.Begin mode (behind_words 1) (mode_again N l))

commit_again : (N : List ℕ → Type 0) (l : Limits) → Again N l (Mapped commit_of (One (the t.Commit))) statement_pieces
commit_again N l = again_mapped N l commit_of (One (the t.Commit)) (λ _. p.fixed t.Commit ∷ []) statement_pieces (λ x. refl) (λ ts x h all. (record { token = fixed t.Commit; text = refl; value = the_value t.Commit }, (tt, tt)))

rollback_again : (N : List ℕ → Type 0) (l : Limits) → Again N l (Behind (the t.Rollback) (Mapped s.rollback (Perhaps (Behind (the t.To) (AName l))))) statement_pieces
rollback_again N l =
    let to = Perhaps (Behind (the t.To) (AName l)) in
    again_same N l (Behind (the t.Rollback) (Mapped s.rollback to)) (λ x. p.fixed t.Rollback ∷ behind_words 1 x) statement_pieces (λ ts x h. rw h.value.made refl)
    (again_behind N l t.Rollback (Mapped s.rollback to) (behind_words 1) (again_mapped N l s.rollback to (perhaps_pieces t.To name_pieces) (behind_words 1) (λ x. refl) (to_again N l)))

savepoint_again : (N : List ℕ → Type 0) (l : Limits) → Again N l (Behind (the t.Savepoint) (Mapped s.savepoint (AName l))) statement_pieces
savepoint_again N l =
    again_same N l (Behind (the t.Savepoint) (Mapped s.savepoint (AName l))) (λ x. p.fixed t.Savepoint ∷ behind_words 1 x) statement_pieces (λ ts x h. rw h.value.made refl)
    (again_behind N l t.Savepoint (Mapped s.savepoint (AName l)) (behind_words 1) (again_mapped N l s.savepoint (AName l) name_pieces (behind_words 1) (λ x. refl) (again_name N l)))

control_again : (N : List ℕ → Type 0) (l : Limits) → Again N l (AControl l) statement_pieces
unfolding AControl
control_again N l ts x (inl h) all = as_left (begin_again N l ts x h all)
control_again N l ts x (inr (inl h)) all = as_right (as_left (commit_again N l ts x h all))
control_again N l ts x (inr (inr (inl h))) all = as_right (as_right (as_left (rollback_again N l ts x h all)))
control_again N l ts x (inr (inr (inr h))) all = as_right (as_right (as_right (savepoint_again N l ts x h all)))

-- ---- statements

statement_again : (N : List ℕ → Type 0) (l : Limits) → Again N l (AStatement l) statement_pieces
unfolding AStatement
statement_again N l ts x (inl h) all = as_left (creation_again N l ts x h all)
statement_again N l ts x (inr (inl h)) all = as_right (as_left (insertion_again N l ts x h all))
statement_again N l ts x (inr (inr (inl h))) all = as_right (as_right (as_left (update_again N l ts x h all)))
statement_again N l ts x (inr (inr (inr (inl h)))) all = as_right (as_right (as_right (as_left (deletion_again N l ts x h all))))
statement_again N l ts x (inr (inr (inr (inr (inl h))))) all = as_right (as_right (as_right (as_right (as_left (selection_again N l ts x h all)))))
statement_again N l ts x (inr (inr (inr (inr (inr h))))) all = as_right (as_right (as_right (as_right (as_right (control_again N l ts x h all)))))

-- The symbols of a printed statement spell that statement again, if symbols of a text spell it.
pub line_again : (N : List ℕ → Type 0) (l : Limits) → Again N l (ALine l) statement_pieces
unfolding ALine
line_again N l ts x h all =
    let k = h.spelled in
    let real = subst (AllReal N) k.text all in
    let found = subst (λ (y : StatementTree). AStatement l (symbols_of_pieces (statement_pieces y)) y × AllFine N l (statement_pieces y)) (sym h.made) (statement_again N l k.front h.value.0 k.first (all_front (Real N) k.front k.back real)) in
    let made : ALine l (symbols_of_pieces (statement_pieces x)) x = record {
      value = (x, None);
      spelled = record { front = symbols_of_pieces (statement_pieces x); back = []; text = sym (append-nil (symbols_of_pieces (statement_pieces x))); first = found.0; second = refl };
      made = refl;
    } in
    (made, found.1)
