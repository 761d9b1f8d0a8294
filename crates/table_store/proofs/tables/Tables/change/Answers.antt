use Rattle.std.proofs.Common.{◌≡◌, ◌+◌, ℕ, List, Option, arith, sym, ap, subst, ◌∙◌}
use Rattle.iv_types.specs.declared.lock.Change.{Change}
use Rattle.iv_types.specs.declared.lock.IndexEntry.{IndexEntry}
use Rattle.iv_types.specs.Maps.{Map}
use Rattle.table_store.specs.Stored.{OfTable}
use Rattle.table_store.specs.Changes.{gone_by, made_by, IsChange, Sets, SetsRow, KeepsRoom, TakesRoom}
use Rattle.table_store.specs.Readying.{HasPlaces}
use Rattle.table_store.proofs.Changing.{keeps_room}
use Rattle.table_store.proofs.Readying.{ready_so}
use Rattle.table_store.proofs.tables.Tables.change.Goals as goal

pub apply-requires-after_bounds : goal.apply-requires-after_bounds
apply-requires-after_bounds g c κs within =
    let S = g.M.SortedMaps in
    let ds = c.args.catalog.now in
    let change = c.args.change in
    let t = c.requires.change.0 in
    let found = c.requires.change.1 in
    let old = c.args.self.now in
    let mid = c.reserve.new.self in
    let kept : S.maps mid ≡ S.maps old = λ i n. c.reserve.ensures.maps n i in
    let here : IsChange ds change (S.maps mid) (S.limit mid) t =
    subst (λ (l : Option ℕ). IsChange ds change (S.maps mid) l t) (sym c.reserve.ensures.limit) (subst (λ (m : ℕ → Map). IsChange ds change m (S.limit old) t) (sym kept) c.requires.change.2) in
    let room : HasPlaces ds (c.args.room + 1) (S.spare mid) t = c.in_ok-reserve.ensures.room t found in
    ready_so ds c.in_ok-ready.ready t change (S.maps mid) (S.spare mid) (S.limit mid) found (c.in_ok-ready.ensures.kept t found) c.in_ok-ready.ensures.coming here
    (record { primary = omega (arith, room.primary); secondary = λ i index. omega (arith, room.secondary i index) })

pub returns-clause-set : goal.returns-clause-set
returns-clause-set g c =
    let S = g.M.SortedMaps in
    let ds = c.args.catalog.now in
    let t = c.requires.change.0 in
    let old = c.args.self.now in
    let mid = c.reserve.new.self in
    let new = c.apply.new.self in
    let kept : S.maps mid ≡ S.maps old = λ i n. c.reserve.ensures.maps n i in
    let is = c.in_ok-ready.ensures.kept t c.requires.change.1 in
    subst (λ (m : ℕ → Map). OfTable ds c.args.change.table (Sets ds c.args.change.key c.args.change.before c.args.change.after m (S.maps new))) kept
    (subst (λ (x : Change). OfTable ds x.table (Sets ds x.key x.before x.after (S.maps mid) (S.maps new))) is.change_is c.apply.ensures.set)

pub returns-clause-rows : goal.returns-clause-rows
returns-clause-rows g c =
    let S = g.M.SortedMaps in
    let ds = c.args.catalog.now in
    let t = c.requires.change.0 in
    let old = c.args.self.now in
    let mid = c.reserve.new.self in
    let new = c.apply.new.self in
    let kept : S.maps mid ≡ S.maps old = λ i n. c.reserve.ensures.maps n i in
    let is = c.in_ok-ready.ensures.kept t c.requires.change.1 in
    subst (λ (m : ℕ → Map). SetsRow ds c.args.change.table c.args.change.key c.args.change.after m (S.maps new)) kept
    (subst (λ (x : Change). SetsRow ds x.table x.key x.after (S.maps mid) (S.maps new)) is.change_is c.apply.ensures.rows)

pub returns-clause-room : goal.returns-clause-room
returns-clause-room g c = λ t found.
    let S = g.M.SortedMaps in
    let ds = c.args.catalog.now in
    let change = c.args.change in
    let mid = c.reserve.new.self in
    let new = c.apply.new.self in
    let is = c.in_ok-ready.ensures.kept t found in
    let room : HasPlaces ds (c.args.room + 1) (S.spare mid) t = c.in_ok-reserve.ensures.room t found in
    let takes : TakesRoom (S.spare mid) (S.spare new) (gone_by ds change t) (made_by ds change t) =
    subst (λ (l : List IndexEntry). TakesRoom (S.spare mid) (S.spare new) (gone_by ds change t) l) is.made
    (subst (λ (l : List IndexEntry). TakesRoom (S.spare mid) (S.spare new) l c.in_ok-ready.ready.kept.made) is.removed c.apply.ensures.spare) in
    let keeps : KeepsRoom ds c.args.room (gone_by ds change t) (S.spare new) t = keeps_room ds change.table t c.number_law.ensures found change c.args.room (S.spare mid) (S.spare new) takes room.primary room.secondary in
    subst (λ (l : List IndexEntry). KeepsRoom ds c.args.room l (S.spare new) t) (sym is.removed ∙ sym (ap (λ k. k.gone) c.apply.ensures.kept)) keeps
