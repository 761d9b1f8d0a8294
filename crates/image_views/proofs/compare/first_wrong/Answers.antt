use Rattle.std.proofs.Common.{◌≡◌, ◌∷◌, ◌+◌, ◌≤◌, Option, Some, List, ℕ, drop, length, sym, ap, subst, arith}
use Rattle.std.proofs.lemmas.Result.{IfOk-weaker}
use Rattle.std.specs.Option.{option_copied}
use Rattle.iv_types.specs.declared.lock.ViewRow.{ViewRow}
use Rattle.image_views.specs.declared.wrong.WrongRow.{WrongRow}
use Rattle.image_views.specs.Rows.{UpTo, IsToldOf}
use Rattle.image_views.proofs.Merging.{IsWalkedTo, its_bytes, its_place, none_before, walk_goes_on, walk_stops, none_behind, walk_ends, next_left, none_left}
use Rattle.image_views.proofs.compare.first_wrong.Goals as goal

pub wrong_up_to-requires-clause-fresh : goal.wrong_up_to-requires-clause-fresh
wrong_up_to-requires-clause-fresh g c κs within =
    let m = g.M.SortedMaps.maps c.args.maps.now c.args.view in
    let rows : List ViewRow = c.args.rows.now in
    let i = c.loop-index.index in
    let row : ViewRow = c.index-rows-index.result in
    let left : drop i rows ≡ row ∷ drop (i + 1) rows = next_left c.as_slice-rows.result.now rows c.as_slice-rows.ensures i row c.loop-index-test.true c.index-rows-index.is in
    let b = c.requires.3 in
    (c.requires.0, c.requires.2 row.group, its_bytes m rows i (i + 1) (option_copied c.loop-index.last) row left c.requires.0 c.requires.1 c.requires.2 b (c.loop-index.invariant c.requires.0 c.requires.1 c.requires.2 b))

pub returns-in-Some : goal.returns-in-Some
returns-in-Some g c = λ width stored fresh b.
    let m = g.M.SortedMaps.maps c.args.maps.now c.args.view in
    let rows : List ViewRow = c.args.rows.now in
    let i = c.loop-index.index in
    let row : ViewRow = c.index-rows-index.result in
    let last = option_copied c.loop-index.last in
    let left : drop i rows ≡ row ∷ drop (i + 1) rows = next_left c.as_slice-rows.result.now rows c.as_slice-rows.ensures i row c.loop-index-test.true c.index-rows-index.is in
    let walked = c.loop-index.invariant width stored fresh b in
    let told = c.in_ok-wrong.ensures width stored fresh b.stored_are (its_place m rows i (i + 1) last row left stored fresh walked) (its_bytes m rows i (i + 1) last row left width stored fresh b walked)
    (b.counted row.group) (none_before m rows i (i + 1) last row left width stored fresh b walked) in
    walk_stops m rows i (i + 1) last row left stored fresh c.args.view walked c.in-Some.wrong (subst (λ (o : Option WrongRow). IsToldOf (UpTo last row.group) c.args.view stored fresh o) c.in-Some.is told)

pub loop-index-preserved : goal.loop-index-preserved
loop-index-preserved g c = λ width stored fresh b.
    let m = g.M.SortedMaps.maps c.args.maps.now c.args.view in
    let rows : List ViewRow = c.args.rows.now in
    let i = c.loop-index.index in
    let row : ViewRow = c.index-rows-index.result in
    let last = option_copied c.loop-index.last in
    let left : drop i rows ≡ row ∷ drop (i + 1) rows = next_left c.as_slice-rows.result.now rows c.as_slice-rows.ensures i row c.loop-index-test.true c.index-rows-index.is in
    let walked = c.loop-index.invariant width stored fresh b in
    let told = c.in_ok-wrong.ensures width stored fresh b.stored_are (its_place m rows i (i + 1) last row left stored fresh walked) (its_bytes m rows i (i + 1) last row left width stored fresh b walked)
    (b.counted row.group) (none_before m rows i (i + 1) last row left width stored fresh b walked) in
    subst (λ (k : List ℕ). IsWalkedTo rows stored fresh (i + 1) (Some k)) (sym c.as_slice.ensures)
    (walk_goes_on m rows i (i + 1) last row left stored fresh c.args.view walked (subst (λ (o : Option WrongRow). IsToldOf (UpTo last row.group) c.args.view stored fresh o) c.in-None.is told))

pub returns : goal.returns
returns g c = IfOk-weaker c.wrong_between.result _ _ (λ found h width stored fresh b.
    let m = g.M.SortedMaps.maps c.args.maps.now c.args.view in
    let rows : List ViewRow = c.args.rows.now in
    let i = c.loop-index.index in
    let last = option_copied c.loop-index.last in
    let ended : length rows ≤ i = omega (arith, c.loop-index-test.false, ap length c.as_slice-rows.ensures) in
    let walked = c.loop-index.invariant width stored fresh b in
    walk_ends rows i last c.args.view stored fresh walked found (h width stored fresh b.stored_are (none_behind m rows i last width stored fresh b walked (none_left rows i ended)))) c.wrong_between.ensures
