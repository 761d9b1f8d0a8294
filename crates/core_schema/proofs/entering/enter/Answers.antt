use Rattle.std.proofs.Common.{◌≡◌, ◌+◌, true, false, sym, subst, ◌∙◌}
use mathlib.Core.Logic.{inl, inr}
use Rattle.iv_types.specs.Printing.{statement_text}
use Rattle.txn_machine.specs.Records.{Record, Definition}
use Rattle.txn_machine.specs.Store.{schema_of, committed}
use Rattle.log_records.specs.Lent.{stands_for}
use Rattle.log_disk.specs.Spelled.{in_bytes}
use Rattle.definition_parts.specs.Parts.{part_entries, IsShort}
use Rattle.core_state.specs.Stands.{Began}
use Rattle.core_state.specs.declared.state.CoreState.{CoreState}
use Rattle.core_schema.proofs.Recorded.{at_number, can_record, can_flush, gave_definition, gave_up}
use Rattle.core_schema.proofs.Needs.{text_short_then}
use Rattle.core_schema.proofs.Roomier.{on_err_of}
use Rattle.core_schema.proofs.entering.enter.Goals as goal

pub next_commit-commit-requires-after_bounds : goal.next_commit-commit-requires-after_bounds
next_commit-commit-requires-after_bounds g c κs within = (c.requires.0, c.args.session, c.requires.3.may.began)

pub parts_of-requires : goal.parts_of-requires
parts_of-requires g c =
    let m = c.requires.3 in
    record { short = subst IsShort (sym c.as_slice.ensures) (text_short_then g.M.SortedMaps.maps g.M.SortedMaps.spare g.M.SortedMaps.limit c.args.core.now c.requires.0 c.args.session c.requires.1 c.args.definition m.may c.args.first m.first_are c.args.text m.text_is) }

pub returns-in_err-parts-clause-err : goal.returns-in_err-parts-clause-err
returns-in_err-parts-clause-err g c = on_err_of c.from_residual.result (λ s h. h)

pub make_ready-requires-after_bounds : goal.make_ready-requires-after_bounds
make_ready-requires-after_bounds g c κs within = (c.requires.0, c.args.session, c.requires.1, c.args.need, c.requires.3)

pub text_of-requires : goal.text_of-requires
text_of-requires g c =
    let r = c.in_ok-changes.ensures.ready c.requires.0 c.args.session c.requires.1 c.args.need c.requires.3 c.in_ok-parts.parts (c.in_ok-parts.ensures ∙ (λ x. part_entries (c.number-number.ensures x) (c.as_slice.ensures x))) in
    (r.text, r.texts)

pub give_and_flush-requires : goal.give_and_flush-requires
give_and_flush-requires g c =
    let s = c.requires.0 in
    let i = c.args.session in
    let m = c.requires.3 in
    let r = c.in_ok-changes.ensures.ready s i c.requires.1 c.args.need m c.in_ok-parts.parts (c.in_ok-parts.ensures ∙ (λ x. part_entries (c.number-number.ensures x) (c.as_slice.ensures x))) in
    let number = c.next_commit-commit.ensures s i m.may.began in
    let text = c.text_of.ensures r.text r.texts ∙ r.may.text_is in (
      schema_of s.store,
      Definition ((committed s.store).number + 1) i (statement_text c.requires.1),
      c.requires.2,
      c.definition_of-lent.ensures (schema_of s.store) ∙ (λ x. in_bytes (schema_of s.store) (Definition (number x) i (text x))),
      c.requires.4.has_them,
      can_record g.M.SortedMaps.maps g.M.SortedMaps.spare g.M.SortedMaps.limit g.J.Journal.has g.J.Journal.limit c.args.core.now c.args.journal.now s i c.requires.1 c.args.definition c.args.first c.args.text c.args.need m c.requires.2 c.requires.4,
      can_flush g.M.SortedMaps.maps g.M.SortedMaps.spare g.M.SortedMaps.limit g.J.Journal.has g.J.Journal.limit c.args.core.now c.args.journal.now s i c.requires.1 c.args.definition c.args.first c.args.text c.args.need m c.requires.2 c.requires.4,
    )

pub enter_flushed-entered-requires-after_bounds : goal.enter_flushed-entered-requires-after_bounds
enter_flushed-entered-requires-after_bounds g c κs within =
    (c.requires.0, c.requires.1, at_number g.M.SortedMaps.maps g.M.SortedMaps.spare g.M.SortedMaps.limit c.number-number.ensures (c.in_ok-changes.ensures.ready c.requires.0 c.args.session c.requires.1 c.args.need c.requires.3 c.in_ok-parts.parts (c.in_ok-parts.ensures ∙ (λ x. part_entries (c.number-number.ensures x) (c.as_slice.ensures x)))))

pub take_back-requires-after_bounds : goal.take_back-requires-after_bounds
take_back-requires-after_bounds g c κs within =
    let r = c.in_ok-changes.ensures.ready c.requires.0 c.args.session c.requires.1 c.args.need c.requires.3 c.in_ok-parts.parts (c.in_ok-parts.ensures ∙ (λ x. part_entries (c.number-number.ensures x) (c.as_slice.ensures x))) in
    (r.before, r.definition, r.last.are)

pub returns-in_err-changes-clause-err : goal.returns-in_err-changes-clause-err
returns-in_err-changes-clause-err g c = on_err_of c.from_residual-in_err-changes.result (λ s h. c.in_err-changes.ensures.err s c.args.session h)

pub returns-in-Ok-clause-did : goal.returns-in-Ok-clause-did
returns-in-Ok-clause-did g c = λ s statement m.
    let i = c.args.session in
    let r = c.in_ok-changes.ensures.ready s i statement c.args.need m c.in_ok-parts.parts (c.in_ok-parts.ensures ∙ (λ x. part_entries (c.number-number.ensures x) (c.as_slice.ensures x))) in
    let number = c.next_commit-commit.ensures s i m.may.began in
    let text = c.text_of.ensures r.text r.texts ∙ r.may.text_is in
    let it : Record = Definition ((committed s.store).number + 1) i (statement_text statement) in
    let is : stands_for c.definition_of-lent.result ≡ in_bytes (schema_of s.store) it = c.definition_of-lent.ensures (schema_of s.store) ∙ (λ x. in_bytes (schema_of s.store) (Definition (number x) i (text x))) in
    inl (gave_definition g.M.SortedMaps.maps g.M.SortedMaps.spare g.M.SortedMaps.limit g.J.Journal.has g.J.Journal.limit g.J.Journal.medium g.J.Journal.leaves c.args.core.now c.args.journal.now s i statement c.args.definition c.args.first c.args.text c.args.need m
    c.enter_flushed-entered.result c.enter_flushed-entered.new.core c.give_and_flush.new.journal
    (c.enter_flushed-entered.ensures s statement (at_number g.M.SortedMaps.maps g.M.SortedMaps.spare g.M.SortedMaps.limit c.number-number.ensures r))
    (λ rs has. c.in-Ok.ensures.ok.0 (schema_of s.store) it rs is has) (λ rs has. c.in-Ok.ensures.any_moment (schema_of s.store) it rs is has) c.in-Ok.ensures.limit)

pub returns-in-Ok-clause-faults : goal.returns-in-Ok-clause-faults
returns-in-Ok-clause-faults g c = λ fine. c.in-Ok.ensures.ok.1

pub returns-in-Ok-clause-rose : goal.returns-in-Ok-clause-rose
returns-in-Ok-clause-rose g c = λ bad. absurd (let no : false ≡ true = bad in cc)

pub returns-in-Err-clause-did : goal.returns-in-Err-clause-did
returns-in-Err-clause-did g c = λ s statement m.
    let i = c.args.session in
    let r = c.in_ok-changes.ensures.ready s i statement c.args.need m c.in_ok-parts.parts (c.in_ok-parts.ensures ∙ (λ x. part_entries (c.number-number.ensures x) (c.as_slice.ensures x))) in
    let number = c.next_commit-commit.ensures s i m.may.began in
    let text = c.text_of.ensures r.text r.texts ∙ r.may.text_is in
    let it : Record = Definition ((committed s.store).number + 1) i (statement_text statement) in
    let is : stands_for c.definition_of-lent.result ≡ in_bytes (schema_of s.store) it = c.definition_of-lent.ensures (schema_of s.store) ∙ (λ x. in_bytes (schema_of s.store) (Definition (number x) i (text x))) in
    inr (gave_up g.M.SortedMaps.maps g.M.SortedMaps.spare g.M.SortedMaps.limit g.J.Journal.has g.J.Journal.limit g.J.Journal.medium g.J.Journal.leaves c.args.core.now c.args.journal.now s i statement c.args.definition c.args.first c.args.text c.args.need m
    c.take_back.new.core c.give_and_flush.new.journal
    (subst (λ (x : CoreState g.row.M.Denot). Began g.M.SortedMaps.maps g.M.SortedMaps.spare g.M.SortedMaps.limit x s i) (sym (c.take_back.ensures r.before r.definition r.last.are)) r.may.may.began)
    (λ rs has. c.in-Err.ensures.any_moment (schema_of s.store) it rs is has) c.in-Err.ensures.limit)

pub returns-in-Err-clause-faults : goal.returns-in-Err-clause-faults
returns-in-Err-clause-faults g c = λ fine. absurd (let no : true ≡ false = fine in cc)

pub returns-in-Err-clause-rose : goal.returns-in-Err-clause-rose
returns-in-Err-clause-rose g c = λ bad. c.in-Err.ensures.err
