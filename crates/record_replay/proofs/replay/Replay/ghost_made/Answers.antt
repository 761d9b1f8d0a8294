use Rattle.std.proofs.Common.{Option, refl, sym, ap, subst, ◌∙◌, ◌+◌}
use Rattle.std.specs.Prelude.{IfSome}
use Rattle.std.proofs.lemmas.Bool.{false≢true}
use Rattle.iv_meaning.specs.Objects.{schema_of}
use Rattle.iv_meaning.specs.Schema.{Schema}
use Rattle.data_store.specs.declared.store.DataStore.{DataStore}
use Rattle.record_reading.specs.Groups.{IsGroupOf}
use Rattle.record_replay.specs.Past.{left_by, pages_in}
use Rattle.record_replay.specs.Standing.{contents_of}
use Rattle.record_replay.specs.Telling.{Tells}
use Rattle.record_replay.proofs.Changed.{limited}
use Rattle.record_replay.proofs.Standing.{objects_are}
use Rattle.record_replay.proofs.EachKind.{ghost_there, ghost_more}
use Rattle.record_replay.proofs.Texts.{told_in, told_closed}
use Rattle.record_replay.proofs.replay.Replay.ghost_made.Goals as goal

pub make_row-requires-clause-limited : goal.make_row-requires-clause-limited
make_row-requires-clause-limited g c κs within =
    let q = c.requires.replayed in
    limited g.M.SortedMaps.maps g.M.SortedMaps.limit c.args.self.now.store (pages_in (left_by q.0)) q.1.store

pub returns-then-not-branch-clause-told : goal.returns-then-not-branch-clause-told
returns-then-not-branch-clause-told g c = λ x h r comes.
    let self = c.args.self.now in
    let maps = g.M.SortedMaps.maps in
    let limit = g.M.SortedMaps.limit in
    subst (Tells maps limit (record { store = c.make_row.new.store; live = self.live; commits = self.commits; next = self.next }) x r) (sym c.misfit-then-not-branch.ensures)
    (ghost_there maps limit self x h c.args.head c.requires.number.0 c.requires.number.1 r c.args.view c.args.group.now comes
    (λ none. false≢true (sym c.if-not-branch.true ∙ (c.in_ok-make_row.ensures.absent (contents_of (pages_in (left_by x))) h.store.closed).1 none)))

pub returns-clause-told : goal.returns-clause-told
returns-clause-told g c = λ x h r comes.
    let self = c.args.self.now in
    let maps = g.M.SortedMaps.maps in
    let limit = g.M.SortedMaps.limit in
    let here = told_in maps self.store (pages_in (left_by x)) in
    let closed = told_closed maps limit self.store (pages_in (left_by x)) h.store in
    let group = subst (λ (o : Option _). IfSome o (λ sums. IsGroupOf (schema_of self.store.catalog) (c.args.view, c.args.group.now) sums)) c.in-Some.is c.in_ok-sums.ensures.some in
    ghost_more maps limit self x h c.args.head c.requires.number.0 c.requires.number.1 r c.args.view c.args.group.now comes
    (record { store = c.make_row.new.store; live = self.live; commits = self.commits; next = c.args.head.number + 1 }) c.in-Some.sums
    (subst (λ (objects : Schema). IsGroupOf objects (c.args.view, c.args.group.now) c.in-Some.sums) (objects_are maps limit self.store (pages_in (left_by x)) h.store) group)
    ((c.in_ok-make_row.ensures.absent here closed).0 c.if-not-branch.false) (c.in_ok-make_row.ensures.made c.if-not-branch.false here closed)
    (ap (λ (d : DataStore g.row.M.Denot). d.catalog) c.make_row.ensures.rest) c.make_row.ensures.limit refl refl refl

pub returns-clause-texts : goal.returns-clause-texts
returns-clause-texts g c =
    let maps = g.M.SortedMaps.maps in
    let store = c.args.self.now.store in
    let q = c.requires.replayed in
    let there = pages_in (left_by q.0) in
    (c.in_ok-make_row.ensures.made c.if-not-branch.false (told_in maps store there) (told_closed maps g.M.SortedMaps.limit store there q.1.store)).held.texts
