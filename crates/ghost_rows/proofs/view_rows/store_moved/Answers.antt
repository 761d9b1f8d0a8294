use Rattle.std.proofs.Common.{◌≡◌, sym, ap, subst, ◌∙◌, ◌*◌, List, ℕ, length, Some}
use Rattle.std.specs.FinMap.{insert}
use Rattle.iv_types.specs.Maps.{CanHold, IsWithin, used, with_map}
use Rattle.txn_machine.specs.Deltas.{place_of}
use Rattle.ghost_rows.specs.Kept.{width}
use Rattle.ghost_rows.specs.Numbers.{moved}
use Rattle.ghost_rows.proofs.NumberSteps.{length_numbers}
use Rattle.ghost_rows.proofs.RowLemmas.{moved_many}
use Rattle.ghost_rows.proofs.StateLemmas.{stored_here, stored_elsewhere}
use Rattle.ghost_rows.proofs.view_rows.store_moved.Goals as goal

pub replace-requires-clause-held : goal.replace-requires-clause-held
replace-requires-clause-held g c =
    let numbers = c.requires.stored.0 in
    let long : length c.moved_value-value.result ≡ 16 * width c.args.delta.now =
    ap length (c.moved_value-value.ensures numbers c.requires.stored.1 c.requires.stored.3 c.requires.stored.4)
    ∙ (length_numbers (moved c.args.back 0 numbers c.args.delta.now) ∙ ap (λ n. 16 * n) (moved_many c.args.back 0 numbers c.args.delta.now ∙ c.requires.stored.2)) in
    subst (λ (k : List ℕ). CanHold c.args.delta.now.view k c.moved_value-value.result) (sym c.as_slice.ensures) (c.requires.can c.moved_value-value.result long).0

pub replace-requires-clause-within : goal.replace-requires-clause-within
replace-requires-clause-within g c =
    let numbers = c.requires.stored.0 in
    let long : length c.moved_value-value.result ≡ 16 * width c.args.delta.now =
    ap length (c.moved_value-value.ensures numbers c.requires.stored.1 c.requires.stored.3 c.requires.stored.4)
    ∙ (length_numbers (moved c.args.back 0 numbers c.args.delta.now) ∙ ap (λ n. 16 * n) (moved_many c.args.back 0 numbers c.args.delta.now ∙ c.requires.stored.2)) in
    subst (λ (k : List ℕ). IsWithin (g.M.SortedMaps.limit c.args.maps.now)
    (used (with_map (g.M.SortedMaps.maps c.args.maps.now) c.args.delta.now.view (insert (g.M.SortedMaps.maps c.args.maps.now c.args.delta.now.view) k c.moved_value-value.result))))
    (sym c.as_slice.ensures) (c.requires.can c.moved_value-value.result long).1

pub returns-clause-entry : goal.returns-clause-entry
returns-clause-entry g c = λ numbers is fits move.
    stored_here (g.M.SortedMaps.maps c.args.maps.now) (g.M.SortedMaps.maps c.replace.new.self) (place_of c.args.delta.now) c.moved_value-value.result
    (c.replace.ensures.entry ∙ ap (λ (k : List ℕ). insert (g.M.SortedMaps.maps c.args.maps.now c.args.delta.now.view) k c.moved_value-value.result) c.as_slice.ensures)
    ∙ ap Some (c.moved_value-value.ensures numbers is fits move)

pub returns-clause-others : goal.returns-clause-others
returns-clause-others g c = λ q n.
    stored_elsewhere (g.M.SortedMaps.maps c.args.maps.now) (g.M.SortedMaps.maps c.replace.new.self) (place_of c.args.delta.now) q c.moved_value-value.result
    (c.replace.ensures.entry ∙ ap (λ (k : List ℕ). insert (g.M.SortedMaps.maps c.args.maps.now c.args.delta.now.view) k c.moved_value-value.result) c.as_slice.ensures) c.replace.ensures.others n
