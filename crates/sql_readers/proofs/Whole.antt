-- The readers of statements read their grammar.
use Rattle.std.proofs.Common.{Bool, [], refl}
use Rattle.std.specs.Prelude.{◌||◌}
use Rattle.text_grammar.specs.Readers.{Reader, is, one, both, mapped, behind, either, perhaps}
use Rattle.text_grammar.specs.Languages.{Lang, One, Then, Behind, Mapped, Either, Perhaps}
use Rattle.text_grammar.specs.Places.{Begins}
use Rattle.text_grammar.proofs.Exactness.{Exact, never, StartsWith, StartsWithout, widened}
use Rattle.text_grammar.proofs.Tokens.{one-exact}
use Rattle.text_grammar.proofs.Combining.{mapped-exact, either-exact, perhaps-exact}
use Rattle.text_grammar.proofs.Starts.{one_starts, behind_starts, mapped_starts, without, either_without, both_begins, mapped_begins, perhaps_begins, left_begins, or_false}
use Rattle.iv_types.specs.declared.terminal.Terminal.{Terminal}
use Rattle.iv_types.specs.declared.terminal.Terminal.TheVariants as t
use Rattle.iv_types.specs.Tokens.{Symbol}
use Rattle.iv_types.specs.Limits.{Limits}
use Rattle.iv_types.specs.Syntax as s
use Rattle.iv_types.specs.Syntax.{StatementTree}
use Rattle.iv_types.specs.Expressions.{the, AName}
use Rattle.iv_types.specs.Grammar.{ACreation, ASelection, AnInsertion, AnUpdate, ADeletion, begin_of, commit_of, AControl, AStatement, ALine}
use Rattle.sql_readers.specs.Ladder.{name_reader}
use Rattle.sql_readers.specs.Statements.{creation, selection, insertion, update, deletion, control, statement, line}
use Rattle.sql_readers.proofs.Apart.{apart_kinds}
use Rattle.sql_readers.proofs.Ladder.{name-exact, name_begins, behind_the}
use Rattle.sql_readers.proofs.Lists.{Covers, follows_perhaps, then_by, comma}
use Rattle.sql_readers.proofs.GoingOn.{on_from, on_condition, on_query, on_ordering, on_selection, on_statement, on_line, expression_covered, condition_covered, Ended, semicolon_ends_statement}
use Rattle.sql_readers.proofs.Queries.{selection-exact, selection_starts}
use Rattle.sql_readers.proofs.Creations.{creation-exact, creation_starts, creation_begins}
use Rattle.sql_readers.proofs.Changes.{insertion-exact, insertion_starts, on_update, update-exact, update_starts, deletion-exact, deletion_starts}

-- ---- transactions

abbrev pub on_control : Symbol → Bool
on_control x = is (the t.Snapshot) x || is (the t.To) x

abbrev pub Begun : Lang Symbol StatementTree
Begun = Mapped begin_of (Perhaps (One (the t.Snapshot)))

abbrev pub begun : Reader Symbol StatementTree
begun = mapped begin_of (perhaps (is (the t.Snapshot)) (one (the t.Snapshot)))

pub begun-exact : Exact Begun on_control begun
begun-exact = mapped-exact begin_of (Perhaps (One (the t.Snapshot))) on_control (perhaps (is (the t.Snapshot)) (one (the t.Snapshot))) (perhaps-exact (is (the t.Snapshot)) (One (the t.Snapshot)) never on_control (one (the t.Snapshot)) (one-exact (the t.Snapshot)) (one_starts (the t.Snapshot)) (λ x h. (refl, (or_false (is (the t.Snapshot) x) (is (the t.To) x) h).0)))

begun_begins : Begins Begun []
begun_begins = mapped_begins begin_of (Perhaps (One (the t.Snapshot))) (perhaps_begins (One (the t.Snapshot)))

abbrev pub Returned : Limits → Lang Symbol StatementTree
Returned l = Mapped s.rollback (Perhaps (Behind (the t.To) (AName l)))

abbrev pub returned : Limits → Reader Symbol StatementTree
returned l = mapped s.rollback (perhaps (is (the t.To)) (behind (the t.To) (name_reader l)))

pub returned-exact : (l : Limits) → Exact (Returned l) on_control (returned l)
returned-exact l = mapped-exact s.rollback (Perhaps (Behind (the t.To) (AName l))) on_control (perhaps (is (the t.To)) (behind (the t.To) (name_reader l))) (perhaps-exact (is (the t.To)) (Behind (the t.To) (AName l)) never on_control (behind (the t.To) (name_reader l)) (behind_the t.To (AName l) never (name_reader l) (name-exact l) (name_begins l)) (behind_starts (the t.To) (AName l)) (λ x h. (refl, (or_false (is (the t.Snapshot) x) (is (the t.To) x) h).1)))

returned_begins : (l : Limits) → Begins (Returned l) []
returned_begins l = mapped_begins s.rollback (Perhaps (Behind (the t.To) (AName l))) (perhaps_begins (Behind (the t.To) (AName l)))

abbrev pub BeginPart : Lang Symbol StatementTree
BeginPart = Behind (the t.Begin) Begun

abbrev pub CommitPart : Lang Symbol StatementTree
CommitPart = Mapped commit_of (One (the t.Commit))

abbrev pub RollbackPart : Limits → Lang Symbol StatementTree
RollbackPart l = Behind (the t.Rollback) (Returned l)

abbrev pub SavepointPart : Limits → Lang Symbol StatementTree
SavepointPart l = Behind (the t.Savepoint) (Mapped s.savepoint (AName l))

savepoint_begins : (l : Limits) → Begins (Mapped s.savepoint (AName l)) []
savepoint_begins l = mapped_begins s.savepoint (AName l) (name_begins l)

pub savepoint-exact : (l : Limits) → Exact (SavepointPart l) on_control (behind (the t.Savepoint) (mapped s.savepoint (name_reader l)))
savepoint-exact l = widened (SavepointPart l) never on_control (behind (the t.Savepoint) (mapped s.savepoint (name_reader l))) (behind_the t.Savepoint (Mapped s.savepoint (AName l)) never (mapped s.savepoint (name_reader l)) (mapped-exact s.savepoint (AName l) never (name_reader l) (name-exact l)) (savepoint_begins l)) (λ x h. refl)

pub commit-exact : Exact CommitPart on_control (mapped commit_of (one (the t.Commit)))
commit-exact = widened CommitPart never on_control (mapped commit_of (one (the t.Commit))) (mapped-exact commit_of (One (the t.Commit)) never (one (the t.Commit)) (one-exact (the t.Commit))) (λ x h. refl)

commit_starts : StartsWith CommitPart (is (the t.Commit))
commit_starts = mapped_starts commit_of (One (the t.Commit)) (is (the t.Commit)) (one_starts (the t.Commit))

control_not_begin : (l : Limits) → StartsWithout (Either CommitPart (Either (RollbackPart l) (SavepointPart l))) (is (the t.Begin))
control_not_begin l =
    either_without CommitPart (Either (RollbackPart l) (SavepointPart l)) (is (the t.Begin)) (without CommitPart (is (the t.Commit)) (is (the t.Begin)) commit_starts (λ x h. apart_kinds t.Commit t.Begin x refl h))
    (either_without (RollbackPart l) (SavepointPart l) (is (the t.Begin)) (without (RollbackPart l) (is (the t.Rollback)) (is (the t.Begin)) (behind_starts (the t.Rollback) (Returned l)) (λ x h. apart_kinds t.Rollback t.Begin x refl h)) (without (SavepointPart l) (is (the t.Savepoint)) (is (the t.Begin)) (behind_starts (the t.Savepoint) (Mapped s.savepoint (AName l))) (λ x h. apart_kinds t.Savepoint t.Begin x refl h)))

pub control-exact : (l : Limits) → Exact (AControl l) on_control (control l)
unfolding AControl control
control-exact l =
    either-exact (is (the t.Begin)) BeginPart (Either CommitPart (Either (RollbackPart l) (SavepointPart l))) on_control (behind (the t.Begin) begun) (either (is (the t.Commit)) (mapped commit_of (one (the t.Commit))) (either (is (the t.Rollback)) (behind (the t.Rollback) (returned l)) (behind (the t.Savepoint) (mapped s.savepoint (name_reader l)))))
    (behind_the t.Begin Begun on_control begun begun-exact begun_begins)
    (either-exact (is (the t.Commit)) CommitPart (Either (RollbackPart l) (SavepointPart l)) on_control (mapped commit_of (one (the t.Commit))) (either (is (the t.Rollback)) (behind (the t.Rollback) (returned l)) (behind (the t.Savepoint) (mapped s.savepoint (name_reader l))))
    commit-exact
    (either-exact (is (the t.Rollback)) (RollbackPart l) (SavepointPart l) on_control (behind (the t.Rollback) (returned l)) (behind (the t.Savepoint) (mapped s.savepoint (name_reader l)))
    (behind_the t.Rollback (Returned l) on_control (returned l) (returned-exact l) (returned_begins l)) (savepoint-exact l) (behind_starts (the t.Rollback) (Returned l))
    (without (SavepointPart l) (is (the t.Savepoint)) (is (the t.Rollback)) (behind_starts (the t.Savepoint) (Mapped s.savepoint (AName l))) (λ x h. apart_kinds t.Savepoint t.Rollback x refl h)))
    commit_starts
    (either_without (RollbackPart l) (SavepointPart l) (is (the t.Commit)) (without (RollbackPart l) (is (the t.Rollback)) (is (the t.Commit)) (behind_starts (the t.Rollback) (Returned l)) (λ x h. apart_kinds t.Rollback t.Commit x refl h)) (without (SavepointPart l) (is (the t.Savepoint)) (is (the t.Commit)) (behind_starts (the t.Savepoint) (Mapped s.savepoint (AName l))) (λ x h. apart_kinds t.Savepoint t.Commit x refl h))))
    (behind_starts (the t.Begin) Begun)
    (control_not_begin l)

-- a keyword with which no statement of a transaction begins
pub control_without : (l : Limits) (k : Terminal) → Ended t.Begin (is (the k)) → Ended t.Commit (is (the k)) → Ended t.Rollback (is (the k)) → Ended t.Savepoint (is (the k)) → StartsWithout (AControl l) (is (the k))
unfolding AControl
control_without l k b c r p =
    either_without BeginPart (Either CommitPart (Either (RollbackPart l) (SavepointPart l))) (is (the k)) (without BeginPart (is (the t.Begin)) (is (the k)) (behind_starts (the t.Begin) Begun) b)
    (either_without CommitPart (Either (RollbackPart l) (SavepointPart l)) (is (the k)) (without CommitPart (is (the t.Commit)) (is (the k)) commit_starts c)
    (either_without (RollbackPart l) (SavepointPart l) (is (the k)) (without (RollbackPart l) (is (the t.Rollback)) (is (the k)) (behind_starts (the t.Rollback) (Returned l)) r) (without (SavepointPart l) (is (the t.Savepoint)) (is (the k)) (behind_starts (the t.Savepoint) (Mapped s.savepoint (AName l))) p)))

-- ---- statements

query_in_statement : Covers on_statement on_query
query_in_statement x h = let a = or_false (on_selection x) (on_control x) h in (or_false (on_query x) (on_ordering x) a.0).0

update_in_statement : Covers on_statement on_update
update_in_statement x h =
    let q = query_in_statement x h in
    let a = or_false (on_from x || is (the t.Where) x) (comma x || is (the t.Group) x) q in
    let w = (or_false (on_from x) (is (the t.Where) x) a.0).1 in
    let c = (or_false (comma x) (is (the t.Group) x) a.1).0 in
    rw (expression_covered x q, c, w) refl

comma_in_statement : Covers on_statement comma
comma_in_statement x h = let q = query_in_statement x h in (or_false (comma x) (is (the t.Group) x) (or_false (on_from x || is (the t.Where) x) (comma x || is (the t.Group) x) q).1).0

abbrev Rest3 : Limits → Lang Symbol StatementTree
Rest3 l = Either (ASelection l) (AControl l)

abbrev Rest2 : Limits → Lang Symbol StatementTree
Rest2 l = Either (ADeletion l) (Rest3 l)

abbrev Rest1 : Limits → Lang Symbol StatementTree
Rest1 l = Either (AnUpdate l) (Rest2 l)

abbrev Rest0 : Limits → Lang Symbol StatementTree
Rest0 l = Either (AnInsertion l) (Rest1 l)

pub statement-exact : (l : Limits) → Exact (AStatement l) on_statement (statement l)
unfolding AStatement statement
statement-exact l =
    let r3 = either (is (the t.Select)) (selection l) (control l) in
    let r2 = either (is (the t.Delete)) (deletion l) r3 in
    let r1 = either (is (the t.Update)) (update l) r2 in
    let r0 = either (is (the t.Insert)) (insertion l) r1 in
    let c3 : (k : Terminal) → Ended t.Select (is (the k)) → StartsWithout (AControl l) (is (the k)) → StartsWithout (Rest3 l) (is (the k)) = λ k a b. either_without (ASelection l) (AControl l) (is (the k)) (without (ASelection l) (is (the t.Select)) (is (the k)) (selection_starts l) a) b in
    let c2 : (k : Terminal) → Ended t.Delete (is (the k)) → StartsWithout (Rest3 l) (is (the k)) → StartsWithout (Rest2 l) (is (the k)) = λ k a b. either_without (ADeletion l) (Rest3 l) (is (the k)) (without (ADeletion l) (is (the t.Delete)) (is (the k)) (deletion_starts l) a) b in
    let c1 : (k : Terminal) → Ended t.Update (is (the k)) → StartsWithout (Rest2 l) (is (the k)) → StartsWithout (Rest1 l) (is (the k)) = λ k a b. either_without (AnUpdate l) (Rest2 l) (is (the k)) (without (AnUpdate l) (is (the t.Update)) (is (the k)) (update_starts l) a) b in
    let c0 : (k : Terminal) → Ended t.Insert (is (the k)) → StartsWithout (Rest1 l) (is (the k)) → StartsWithout (Rest0 l) (is (the k)) = λ k a b. either_without (AnInsertion l) (Rest1 l) (is (the k)) (without (AnInsertion l) (is (the t.Insert)) (is (the k)) (insertion_starts l) a) b in
    let k_select = control_without l t.Select (λ x h. apart_kinds t.Begin t.Select x refl h) (λ x h. apart_kinds t.Commit t.Select x refl h) (λ x h. apart_kinds t.Rollback t.Select x refl h) (λ x h. apart_kinds t.Savepoint t.Select x refl h) in
    let k_delete = c3 t.Delete (λ x h. apart_kinds t.Select t.Delete x refl h) (control_without l t.Delete (λ x h. apart_kinds t.Begin t.Delete x refl h) (λ x h. apart_kinds t.Commit t.Delete x refl h) (λ x h. apart_kinds t.Rollback t.Delete x refl h) (λ x h. apart_kinds t.Savepoint t.Delete x refl h)) in
    let k_update = c2 t.Update (λ x h. apart_kinds t.Delete t.Update x refl h) (c3 t.Update (λ x h. apart_kinds t.Select t.Update x refl h) (control_without l t.Update (λ x h. apart_kinds t.Begin t.Update x refl h) (λ x h. apart_kinds t.Commit t.Update x refl h) (λ x h. apart_kinds t.Rollback t.Update x refl h) (λ x h. apart_kinds t.Savepoint t.Update x refl h))) in
    let k_insert = c1 t.Insert (λ x h. apart_kinds t.Update t.Insert x refl h) (c2 t.Insert (λ x h. apart_kinds t.Delete t.Insert x refl h) (c3 t.Insert (λ x h. apart_kinds t.Select t.Insert x refl h) (control_without l t.Insert (λ x h. apart_kinds t.Begin t.Insert x refl h) (λ x h. apart_kinds t.Commit t.Insert x refl h) (λ x h. apart_kinds t.Rollback t.Insert x refl h) (λ x h. apart_kinds t.Savepoint t.Insert x refl h)))) in
    let k_create = c0 t.Create (λ x h. apart_kinds t.Insert t.Create x refl h) (c1 t.Create (λ x h. apart_kinds t.Update t.Create x refl h) (c2 t.Create (λ x h. apart_kinds t.Delete t.Create x refl h) (c3 t.Create (λ x h. apart_kinds t.Select t.Create x refl h) (control_without l t.Create (λ x h. apart_kinds t.Begin t.Create x refl h) (λ x h. apart_kinds t.Commit t.Create x refl h) (λ x h. apart_kinds t.Rollback t.Create x refl h) (λ x h. apart_kinds t.Savepoint t.Create x refl h))))) in
    either-exact (is (the t.Create)) (ACreation l) (Rest0 l) on_statement (creation l) r0
    (widened (ACreation l) on_query on_statement (creation l) (creation-exact l) query_in_statement)
    (either-exact (is (the t.Insert)) (AnInsertion l) (Rest1 l) on_statement (insertion l) r1
    (widened (AnInsertion l) comma on_statement (insertion l) (insertion-exact l) comma_in_statement)
    (either-exact (is (the t.Update)) (AnUpdate l) (Rest2 l) on_statement (update l) r2
    (widened (AnUpdate l) on_update on_statement (update l) (update-exact l) update_in_statement)
    (either-exact (is (the t.Delete)) (ADeletion l) (Rest3 l) on_statement (deletion l) r3
    (widened (ADeletion l) on_condition on_statement (deletion l) (deletion-exact l) (λ x h. condition_covered x (query_in_statement x h)))
    (either-exact (is (the t.Select)) (ASelection l) (AControl l) on_statement (selection l) (control l)
    (widened (ASelection l) on_selection on_statement (selection l) (selection-exact l) (λ x h. (or_false (on_selection x) (on_control x) h).0))
    (widened (AControl l) on_control on_statement (control l) (control-exact l) (λ x h. (or_false (on_selection x) (on_control x) h).1))
    (selection_starts l) k_select)
    (deletion_starts l) k_delete)
    (update_starts l) k_update)
    (insertion_starts l) k_insert)
    (creation_starts l) k_create

pub statement_begins : (l : Limits) → Begins (AStatement l) []
unfolding AStatement
statement_begins l = left_begins (ACreation l) (Rest0 l) (creation_begins l)

pub line-exact : (l : Limits) → Exact (ALine l) on_line (line l)
unfolding ALine line
line-exact l =
    let q = Perhaps (One (the t.Semicolon)) in
    let r = perhaps (is (the t.Semicolon)) (one (the t.Semicolon)) in
    mapped-exact (λ x. x.0) (Then (AStatement l) (Perhaps (One (the t.Semicolon)))) on_line (both (statement l) (λ _. perhaps (is (the t.Semicolon)) (one (the t.Semicolon))))
    (then_by (AStatement l) (Perhaps (One (the t.Semicolon))) on_statement on_line on_line (statement l) (perhaps (is (the t.Semicolon)) (one (the t.Semicolon))) (statement-exact l)
    (perhaps-exact (is (the t.Semicolon)) (One (the t.Semicolon)) never on_line (one (the t.Semicolon)) (one-exact (the t.Semicolon)) (one_starts (the t.Semicolon)) (λ x h. (refl, (or_false (on_statement x) (is (the t.Semicolon) x) h).1)))
    (perhaps_begins (One (the t.Semicolon)))
    (follows_perhaps (is (the t.Semicolon)) (One (the t.Semicolon)) on_statement on_line (one_starts (the t.Semicolon)) semicolon_ends_statement (λ x h. (or_false (on_statement x) (is (the t.Semicolon) x) h).0))
    (λ x h. h))

pub line_begins : (l : Limits) → Begins (ALine l) []
unfolding ALine
line_begins l = mapped_begins (λ x. x.0) (Then (AStatement l) (Perhaps (One (the t.Semicolon)))) (both_begins (AStatement l) (λ _. Perhaps (One (the t.Semicolon))) (statement_begins l) (λ _. perhaps_begins (One (the t.Semicolon))))
