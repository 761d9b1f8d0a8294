use Rattle.std.proofs.Common.{◌≡◌, ◌+◌, true, false, sym, ◌∙◌}
use mathlib.Core.Logic.{inl, inr}
use Rattle.txn_machine.specs.Records.{Record, Commit}
use Rattle.txn_machine.specs.Store.{schema_of, committed}
use Rattle.txn_book.specs.Acts.{answer_of}
use Rattle.log_records.specs.Lent.{stands_for}
use Rattle.log_disk.specs.Spelled.{in_bytes}
use Rattle.core_state.proofs.Sessions.{is_there, open_to_commit}
use Rattle.core_recording.proofs.Commits.{can_commit, can_flush, gave_commit, gave_up}
use Rattle.core_recording.proofs.Kept.{id_is}
use Rattle.core_recording.proofs.ending.commit_changes.Goals as goal

pub open_of-txn-requires-after_bounds : goal.open_of-txn-requires-after_bounds
open_of-txn-requires-after_bounds g c κs within =
    let q = c.requires.0 in
    is_there g.M.SortedMaps.maps g.M.SortedMaps.spare g.M.SortedMaps.limit c.args.core.now q.state c.args.session q.began (open_to_commit g.M.SortedMaps.maps g.M.SortedMaps.spare g.M.SortedMaps.limit c.args.core.now q.state c.args.session q.began q.may)

pub next_commit-commit-requires-after_bounds : goal.next_commit-commit-requires-after_bounds
next_commit-commit-requires-after_bounds g c κs within = (c.requires.0.state, c.args.session, c.requires.0.began)

pub give_and_flush-requires : goal.give_and_flush-requires
give_and_flush-requires g c =
    let q = c.requires.0 in
    let s = q.state in
    let i = c.args.session in
    let o = open_to_commit g.M.SortedMaps.maps g.M.SortedMaps.spare g.M.SortedMaps.limit c.args.core.now s i q.began q.may in
    let id = id_is g.M.SortedMaps.maps g.M.SortedMaps.spare g.M.SortedMaps.limit c.args.core.now s i q.began o c.open_of-txn.result.now c.open_of-txn.ensures in
    let number = c.next_commit-commit.ensures s i q.began in (
      schema_of s.store,
      Commit (s.log.logged i).transaction ((committed s.store).number + 1) i,
      q.records,
      c.commit_of.ensures (schema_of s.store) ∙ (λ x. in_bytes (schema_of s.store) (Commit (id x) (number x) i)),
      q.behind.has_them,
      can_commit g.M.SortedMaps.maps g.M.SortedMaps.spare g.M.SortedMaps.limit g.J.Journal.has g.J.Journal.limit c.args.core.now c.args.journal.now s i q.began q.may c.requires.1 q.records q.behind,
      can_flush g.M.SortedMaps.maps g.M.SortedMaps.spare g.M.SortedMaps.limit g.J.Journal.has g.J.Journal.limit c.args.core.now c.args.journal.now s i q.began q.may c.requires.1 q.records q.behind,
    )

pub commit-requires-after_bounds : goal.commit-requires-after_bounds
commit-requires-after_bounds g c κs within = (c.requires.0.state, c.requires.0.began, c.requires.0.may)

pub returns-in-Ok-clause-gives : goal.returns-in-Ok-clause-gives
returns-in-Ok-clause-gives g c = λ s began may some.
    let i = c.args.session in
    let o = open_to_commit g.M.SortedMaps.maps g.M.SortedMaps.spare g.M.SortedMaps.limit c.args.core.now s i began may in
    let id = id_is g.M.SortedMaps.maps g.M.SortedMaps.spare g.M.SortedMaps.limit c.args.core.now s i began o c.open_of-txn.result.now c.open_of-txn.ensures in
    let number = c.next_commit-commit.ensures s i began in
    let r : Record = Commit (s.log.logged i).transaction ((committed s.store).number + 1) i in
    let is : stands_for c.commit_of.result ≡ in_bytes (schema_of s.store) r = c.commit_of.ensures (schema_of s.store) ∙ (λ x. in_bytes (schema_of s.store) (Commit (id x) (number x) i)) in
    inl (gave_commit g.M.SortedMaps.maps g.M.SortedMaps.spare g.M.SortedMaps.limit g.J.Journal.has g.J.Journal.limit g.J.Journal.medium g.J.Journal.leaves c.args.core.now c.args.journal.now s i began may some (answer_of c.commit.result) c.commit.new.core c.give_and_flush.new.journal
    (c.commit.ensures s began may) (λ rs has. c.in-Ok.ensures.ok.0 (schema_of s.store) r rs is has) (λ rs has. c.in-Ok.ensures.any_moment (schema_of s.store) r rs is has) c.in-Ok.ensures.limit)

pub returns-in-Ok-clause-faults : goal.returns-in-Ok-clause-faults
returns-in-Ok-clause-faults g c = λ fine. c.in-Ok.ensures.ok.1

pub returns-in-Ok-clause-rose : goal.returns-in-Ok-clause-rose
returns-in-Ok-clause-rose g c = λ bad.
    let q = c.requires.0 in
    let told = c.commit.ensures q.state q.began q.may in
    let no : true ≡ false = sym bad ∙ told.no_fault in
    absurd cc

pub returns-in-Err-clause-gives : goal.returns-in-Err-clause-gives
returns-in-Err-clause-gives g c = λ s began may some.
    let i = c.args.session in
    let o = open_to_commit g.M.SortedMaps.maps g.M.SortedMaps.spare g.M.SortedMaps.limit c.args.core.now s i began may in
    let id = id_is g.M.SortedMaps.maps g.M.SortedMaps.spare g.M.SortedMaps.limit c.args.core.now s i began o c.open_of-txn.result.now c.open_of-txn.ensures in
    let number = c.next_commit-commit.ensures s i began in
    let r : Record = Commit (s.log.logged i).transaction ((committed s.store).number + 1) i in
    let is : stands_for c.commit_of.result ≡ in_bytes (schema_of s.store) r = c.commit_of.ensures (schema_of s.store) ∙ (λ x. in_bytes (schema_of s.store) (Commit (id x) (number x) i)) in
    inr (gave_up g.M.SortedMaps.maps g.M.SortedMaps.spare g.M.SortedMaps.limit g.J.Journal.has g.J.Journal.limit g.J.Journal.medium g.J.Journal.leaves c.args.core.now c.args.journal.now s i began may some c.give_and_flush.new.journal
    (λ rs has. c.in-Err.ensures.any_moment (schema_of s.store) r rs is has) c.in-Err.ensures.limit)

pub returns-in-Err-clause-faults : goal.returns-in-Err-clause-faults
returns-in-Err-clause-faults g c = λ fine. let no : true ≡ false = fine in absurd cc

pub returns-in-Err-clause-rose : goal.returns-in-Err-clause-rose
returns-in-Err-clause-rose g c = λ bad. c.in-Err.ensures.err
