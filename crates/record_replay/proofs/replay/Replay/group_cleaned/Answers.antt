use Rattle.std.specs.Prelude.{is_none}
use Rattle.std.proofs.Common.{rules, ◌≡◌, false, refl, sym, ap, subst, ◌∙◌, ◌+◌}
use Rattle.std.proofs.lemmas.Bool.{false≢true}
use Rattle.iv_meaning.specs.Objects.{schema_of}
use Rattle.iv_meaning.specs.Schema.{Schema}
use Rattle.txn_log.specs.Fitting.{IsGroup}
use Rattle.data_store.specs.declared.store.DataStore.{DataStore}
use Rattle.record_replay.specs.Past.{left_by, pages_in}
use Rattle.record_replay.specs.Standing.{contents_of}
use Rattle.record_replay.specs.Telling.{Tells}
use Rattle.record_replay.proofs.Standing.{objects_are}
use Rattle.record_replay.proofs.EachKind.{clean_not_zeros, clean_more, a_group}
use Rattle.record_replay.proofs.Texts.{told_in, told_closed}
use Rattle.record_replay.proofs.replay.Replay.group_cleaned.Goals as goal

pub returns-then-not-remove_row-clause-told : goal.returns-then-not-remove_row-clause-told
returns-then-not-remove_row-clause-told g c = λ x h r comes.
    let self = c.args.self.now in
    let maps = g.M.SortedMaps.maps in
    let limit = g.M.SortedMaps.limit in
    subst (Tells maps limit (record { store = c.remove_row.new.store; live = self.live; commits = self.commits; next = self.next }) x r) (sym c.misfit-then-not-remove_row.ensures)
    (clean_not_zeros maps limit self x h c.args.head c.requires.number.0 c.requires.number.1 r c.args.view c.args.group.now comes
    (λ zeros. false≢true (sym c.if-not-remove_row.true ∙ (c.remove_row.ensures.zeros (contents_of (pages_in (left_by x))) h.store.closed).1 zeros)))

pub returns-clause-told : goal.returns-clause-told
returns-clause-told g c = λ x h r comes.
    let self = c.args.self.now in
    let maps = g.M.SortedMaps.maps in
    let limit = g.M.SortedMaps.limit in
    let here = told_in maps self.store (pages_in (left_by x)) in
    let closed = told_closed maps limit self.store (pages_in (left_by x)) h.store in
    let some : is_none c.in_ok-read_group.field-0 ≡ false = search rules in
    let group : IsGroup (schema_of self.store.catalog) (c.args.view, c.args.group.now) = a_group (schema_of self.store.catalog) (c.args.view, c.args.group.now) c.in_ok-read_group.field-0 some c.in_ok-read_group.ensures.some in
    clean_more maps limit self x h c.args.head c.requires.number.0 c.requires.number.1 r c.args.view c.args.group.now comes
    (record { store = c.remove_row.new.store; live = self.live; commits = self.commits; next = c.args.head.number + 1 })
    (subst (λ (objects : Schema). IsGroup objects (c.args.view, c.args.group.now)) (objects_are maps limit self.store (pages_in (left_by x)) h.store) group)
    ((c.remove_row.ensures.zeros here closed).0 c.if-not-remove_row.false) (c.remove_row.ensures.removed c.if-not-remove_row.false here closed)
    (ap (λ (d : DataStore g.row.M.Denot). d.catalog) c.remove_row.ensures.rest) c.remove_row.ensures.limit refl refl refl

pub returns-clause-texts : goal.returns-clause-texts
returns-clause-texts g c =
    let maps = g.M.SortedMaps.maps in
    let store = c.args.self.now.store in
    let q = c.requires.replayed in
    let there = pages_in (left_by q.0) in
    (c.remove_row.ensures.removed c.if-not-remove_row.false (told_in maps store there) (told_closed maps g.M.SortedMaps.limit store there q.1.store)).held.texts
