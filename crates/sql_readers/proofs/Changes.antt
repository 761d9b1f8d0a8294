-- The readers of INSERT, UPDATE and DELETE read their grammar.
use Rattle.std.proofs.Common.{ℕ, Bool, List, [], Option, refl}
use Rattle.std.specs.Prelude.{◌||◌}
use Rattle.text_grammar.specs.Readers.{Reader, is, both, mapped, behind}
use Rattle.text_grammar.specs.Languages.{Lang, Then, Behind, Mapped, Before}
use Rattle.text_grammar.specs.Places.{Begins}
use Rattle.text_grammar.proofs.Exactness.{Exact, never, StartsWith}
use Rattle.text_grammar.proofs.Combining.{mapped-exact}
use Rattle.text_grammar.proofs.Starts.{behind_starts, without, both_begins, mapped_begins, or_false}
use Rattle.iv_types.specs.declared.terminal.Terminal.TheVariants as t
use Rattle.iv_types.specs.Tokens.{Symbol}
use Rattle.iv_types.specs.Limits.{Limits}
use Rattle.iv_types.specs.Syntax.{Tree, SetTree}
use Rattle.iv_types.specs.Expressions.{the, AName, AnExpression}
use Rattle.iv_types.specs.Grammar.{Listed, the_hole, ACondition, ATuple, Tuples, insertion_of, AnInsertion, set_of, AnAssignment, update_of, AnUpdate, deletion_of, ADeletion}
use Rattle.sql_readers.specs.Ladder.{name_reader, expression}
use Rattle.sql_readers.specs.Statements.{comma_list, condition, tuple, tuples, insertion, assignment, update, deletion}
use Rattle.sql_readers.proofs.Apart.{on_expression}
use Rattle.sql_readers.proofs.Ladder.{name_begins, behind_the, behind_some, expression-exact, expression_begins}
use Rattle.sql_readers.proofs.Lists.{Covers, then_by, enclosed-exact, enclosed_begins, comma, listed-exact, listed_begins, listed_to-exact, listed_to_begins}
use Rattle.sql_readers.proofs.GoingOn.{on_condition, on_sets, comma_ends_expression, where_ends_sets, close_ends_expressions, never_ends, hole_apart}
use Rattle.sql_readers.proofs.Queries.{condition-exact, condition_begins, condition_follows}
use Rattle.sql_readers.proofs.Creations.{named-exact}

-- ---- rows

pub tuple-exact : (l : Limits) → Exact (ATuple l) never (tuple l)
unfolding ATuple tuple
tuple-exact l = enclosed-exact (Listed (AnExpression l)) on_sets (comma_list (expression l)) (listed-exact (AnExpression l) on_expression (expression l) (expression-exact l) (expression_begins l) comma_ends_expression) (listed_begins (AnExpression l) (expression_begins l)) close_ends_expressions

tuple_begins : (l : Limits) → Begins (ATuple l) []
unfolding ATuple
tuple_begins l = enclosed_begins (Listed (AnExpression l)) (listed_begins (AnExpression l) (expression_begins l))

pub tuple_starts : (l : Limits) → StartsWith (ATuple l) (is (the t.Open))
unfolding ATuple
tuple_starts l = behind_starts (the t.Open) (Before (the t.Close) (Listed (AnExpression l)))

pub tuples-exact : (l : Limits) → Exact (Tuples l) comma (tuples l)
unfolding Tuples tuples
tuples-exact l = listed_to-exact 5 l.rows (ATuple l) never (tuple l) (tuple-exact l) (without (ATuple l) (is (the t.Open)) (is the_hole) (tuple_starts l) (hole_apart t.Open)) (never_ends comma)

tuples_begins : (l : Limits) → Begins (Tuples l) []
unfolding Tuples
tuples_begins l = listed_to_begins l.rows (ATuple l) (tuple_begins l)

abbrev pub Inserted : Limits → Lang Symbol (List ℕ × List (List Tree))
Inserted l = Then (AName l) (Behind (the t.Values) (Tuples l))

abbrev pub inserted : Limits → Reader Symbol (List ℕ × List (List Tree))
inserted l = both (name_reader l) (λ _. behind (the t.Values) (tuples l))

inserted_begins : (l : Limits) → Begins (Mapped insertion_of (Inserted l)) []
inserted_begins l = mapped_begins insertion_of (Inserted l) (both_begins (AName l) (λ _. Behind (the t.Values) (Tuples l)) (name_begins l) (λ _. behind_some t.Values (Tuples l) (tuples_begins l)))

pub insertion-exact : (l : Limits) → Exact (AnInsertion l) comma (insertion l)
unfolding AnInsertion insertion
insertion-exact l =
    behind_the t.Insert (Behind (the t.Into) (Mapped insertion_of (Inserted l))) comma (behind (the t.Into) (mapped insertion_of (inserted l)))
    (behind_the t.Into (Mapped insertion_of (Inserted l)) comma (mapped insertion_of (inserted l))
    (mapped-exact insertion_of (Inserted l) comma (inserted l) (named-exact l (Behind (the t.Values) (Tuples l)) comma (behind (the t.Values) (tuples l)) (behind_the t.Values (Tuples l) comma (tuples l) (tuples-exact l) (tuples_begins l)) (behind_some t.Values (Tuples l) (tuples_begins l))))
    (inserted_begins l))
    (behind_some t.Into (Mapped insertion_of (Inserted l)) (inserted_begins l))

pub insertion_starts : (l : Limits) → StartsWith (AnInsertion l) (is (the t.Insert))
unfolding AnInsertion
insertion_starts l = behind_starts (the t.Insert) (Behind (the t.Into) (Mapped insertion_of (Inserted l)))

abbrev pub Assigned : Limits → Lang Symbol (List ℕ × Tree)
Assigned l = Then (AName l) (Behind (the t.Equal) (AnExpression l))

pub assignment-exact : (l : Limits) → Exact (AnAssignment l) on_expression (assignment l)
unfolding AnAssignment assignment
assignment-exact l = mapped-exact set_of (Assigned l) on_expression (both (name_reader l) (λ _. behind (the t.Equal) (expression l))) (named-exact l (Behind (the t.Equal) (AnExpression l)) on_expression (behind (the t.Equal) (expression l)) (behind_the t.Equal (AnExpression l) on_expression (expression l) (expression-exact l) (expression_begins l)) (behind_some t.Equal (AnExpression l) (expression_begins l)))

assignment_begins : (l : Limits) → Begins (AnAssignment l) []
unfolding AnAssignment
assignment_begins l = mapped_begins set_of (Assigned l) (both_begins (AName l) (λ _. Behind (the t.Equal) (AnExpression l)) (name_begins l) (λ _. behind_some t.Equal (AnExpression l) (expression_begins l)))

abbrev pub on_update : Symbol → Bool
on_update x = on_sets x || is (the t.Where) x

abbrev pub Assignments : Limits → Lang Symbol (List SetTree × Option Tree)
Assignments l = Then (Listed (AnAssignment l)) (ACondition l)

abbrev pub assignments : Limits → Reader Symbol (List SetTree × Option Tree)
assignments l = both (comma_list (assignment l)) (λ _. condition l)

update_covers_sets : Covers on_update on_sets
update_covers_sets x h = (or_false (on_sets x) (is (the t.Where) x) h).0

update_covers_condition : Covers on_update on_condition
update_covers_condition x h =
    let a = or_false (on_sets x) (is (the t.Where) x) h in
    let b = or_false (on_expression x) (comma x) a.0 in
    rw (b.0, a.1) refl

pub assignments-exact : (l : Limits) → Exact (Assignments l) on_update (assignments l)
assignments-exact l = then_by (Listed (AnAssignment l)) (ACondition l) on_sets on_condition on_update (comma_list (assignment l)) (condition l) (listed-exact (AnAssignment l) on_expression (assignment l) (assignment-exact l) (assignment_begins l) comma_ends_expression) (condition-exact l) (condition_begins l) (condition_follows l on_sets on_update where_ends_sets update_covers_sets) update_covers_condition

assignments_begins : (l : Limits) → Begins (Assignments l) []
assignments_begins l = both_begins (Listed (AnAssignment l)) (λ _. ACondition l) (listed_begins (AnAssignment l) (assignment_begins l)) (λ _. condition_begins l)

abbrev pub Updated : Limits → Lang Symbol (List ℕ × (List SetTree × Option Tree))
Updated l = Then (AName l) (Behind (the t.Set) (Assignments l))

abbrev pub updated : Limits → Reader Symbol (List ℕ × (List SetTree × Option Tree))
updated l = both (name_reader l) (λ _. behind (the t.Set) (assignments l))

pub update-exact : (l : Limits) → Exact (AnUpdate l) on_update (update l)
unfolding AnUpdate update
update-exact l =
    behind_the t.Update (Mapped update_of (Updated l)) on_update (mapped update_of (updated l))
    (mapped-exact update_of (Updated l) on_update (updated l) (named-exact l (Behind (the t.Set) (Assignments l)) on_update (behind (the t.Set) (assignments l)) (behind_the t.Set (Assignments l) on_update (assignments l) (assignments-exact l) (assignments_begins l)) (behind_some t.Set (Assignments l) (assignments_begins l))))
    (mapped_begins update_of (Updated l) (both_begins (AName l) (λ _. Behind (the t.Set) (Assignments l)) (name_begins l) (λ _. behind_some t.Set (Assignments l) (assignments_begins l))))

pub update_starts : (l : Limits) → StartsWith (AnUpdate l) (is (the t.Update))
unfolding AnUpdate
update_starts l = behind_starts (the t.Update) (Mapped update_of (Updated l))

abbrev pub Deleted : Limits → Lang Symbol (List ℕ × Option Tree)
Deleted l = Then (AName l) (ACondition l)

abbrev pub deleted : Limits → Reader Symbol (List ℕ × Option Tree)
deleted l = both (name_reader l) (λ _. condition l)

deleted_begins : (l : Limits) → Begins (Mapped deletion_of (Deleted l)) []
deleted_begins l = mapped_begins deletion_of (Deleted l) (both_begins (AName l) (λ _. ACondition l) (name_begins l) (λ _. condition_begins l))

pub deletion-exact : (l : Limits) → Exact (ADeletion l) on_condition (deletion l)
unfolding ADeletion deletion
deletion-exact l =
    behind_the t.Delete (Behind (the t.From) (Mapped deletion_of (Deleted l))) on_condition (behind (the t.From) (mapped deletion_of (deleted l)))
    (behind_the t.From (Mapped deletion_of (Deleted l)) on_condition (mapped deletion_of (deleted l)) (mapped-exact deletion_of (Deleted l) on_condition (deleted l) (named-exact l (ACondition l) on_condition (condition l) (condition-exact l) (condition_begins l))) (deleted_begins l))
    (behind_some t.From (Mapped deletion_of (Deleted l)) (deleted_begins l))

pub deletion_starts : (l : Limits) → StartsWith (ADeletion l) (is (the t.Delete))
unfolding ADeletion
deletion_starts l = behind_starts (the t.Delete) (Behind (the t.From) (Mapped deletion_of (Deleted l)))
