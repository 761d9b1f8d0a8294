use Rattle.std.proofs.Common.{rules, ◌≡◌, sym, ap, subst, ◌∙◌, ◌*◌, suc, Some, List, ℕ, length, add-one}
use Rattle.std.specs.FinMap.{insert}
use Rattle.table_laws.specs.Place.{Place}
use Rattle.iv_types.specs.Maps.{Map, CanHold, IsWithin, used, with_map}
use Rattle.txn_machine.specs.Stored.{zeros}
use Rattle.ghost_rows.specs.Numbers.{numbers_bytes}
use Rattle.ghost_rows.specs.Rows.{OpenRows, row_at}
use Rattle.ghost_rows.specs.State.{State, stored_at}
use Rattle.ghost_rows.specs.Kept.{StandsFor}
use Rattle.ghost_rows.proofs.NumberSteps.{length_numbers}
use Rattle.ghost_rows.proofs.StateLemmas.{stored_here, stored_elsewhere}
use Rattle.ghost_rows.proofs.GhostLemmas.{zeros_long, zeros_made}
use Rattle.ghost_rows.proofs.ListedLemmas.{listed_as, made_listed}
use Rattle.ghost_rows.proofs.view_rows.ViewRows.make_ghost.Goals as goal

pub insert-requires-clause-held : goal.insert-requires-clause-held
insert-requires-clause-held g c =
    let key : c.from_vec-key.result ≡ c.args.group.now = search rules in
    let value : c.in_ok-value.value ≡ numbers_bytes (zeros (suc c.args.sums)) = c.in_ok-value.ensures ∙ ap (λ n. numbers_bytes (zeros n)) (add-one c.args.sums) in
    let long : length c.in_ok-value.value ≡ 16 * suc c.args.sums = ap length value ∙ (length_numbers (zeros (suc c.args.sums)) ∙ ap (λ n. 16 * n) (zeros_long (suc c.args.sums))) in
    subst (λ (k : List ℕ). CanHold c.args.view k c.in_ok-value.value) (sym key) (c.requires.can c.in_ok-value.value long).0

pub insert-requires-clause-within : goal.insert-requires-clause-within
insert-requires-clause-within g c =
    let maps = g.M.SortedMaps.maps c.args.maps.now in
    let same : g.M.SortedMaps.maps c.reserve.new.self ≡ maps = λ i x. c.reserve.ensures.maps x i in
    let key : c.from_vec-key.result ≡ c.args.group.now = search rules in
    let value : c.in_ok-value.value ≡ numbers_bytes (zeros (suc c.args.sums)) = c.in_ok-value.ensures ∙ ap (λ n. numbers_bytes (zeros n)) (add-one c.args.sums) in
    let long : length c.in_ok-value.value ≡ 16 * suc c.args.sums = ap length value ∙ (length_numbers (zeros (suc c.args.sums)) ∙ ap (λ n. 16 * n) (zeros_long (suc c.args.sums))) in
    let bytes = c.in_ok-value.value in
    let view = c.args.view in
    subst (λ l. IsWithin l (used (with_map (g.M.SortedMaps.maps c.reserve.new.self) view (insert (g.M.SortedMaps.maps c.reserve.new.self view) c.from_vec-key.result bytes)))) (sym c.reserve.ensures.limit)
    (subst (λ (m : ℕ → Map). IsWithin (g.M.SortedMaps.limit c.args.maps.now) (used (with_map m view (insert (m view) c.from_vec-key.result bytes)))) (sym same)
    (subst (λ (k : List ℕ). IsWithin (g.M.SortedMaps.limit c.args.maps.now) (used (with_map maps view (insert (maps view) k bytes)))) (sym key)
    (c.requires.can bytes long).1))

pub returns-clause-made : goal.returns-clause-made
returns-clause-made g c =
    let place : Place = (c.args.view, c.args.group.now) in
    let key : c.from_vec-key.result ≡ c.args.group.now = search rules in
    let entry : g.M.SortedMaps.maps c.insert.new.self c.args.view ≡ insert (g.M.SortedMaps.maps c.reserve.new.self c.args.view) c.args.group.now c.in_ok-value.value =
    c.insert.ensures.entry ∙ ap (λ (k : List ℕ). insert (g.M.SortedMaps.maps c.reserve.new.self c.args.view) k c.in_ok-value.value) key in
    stored_here (g.M.SortedMaps.maps c.reserve.new.self) (g.M.SortedMaps.maps c.insert.new.self) place c.in_ok-value.value entry
    ∙ ap Some (c.in_ok-value.ensures ∙ ap (λ n. numbers_bytes (zeros n)) (add-one c.args.sums))

pub returns-clause-stores : goal.returns-clause-stores
returns-clause-stores g c = λ q n.
    let place : Place = (c.args.view, c.args.group.now) in
    let maps = g.M.SortedMaps.maps c.args.maps.now in
    let same : g.M.SortedMaps.maps c.reserve.new.self ≡ maps = λ i x. c.reserve.ensures.maps x i in
    let key : c.from_vec-key.result ≡ c.args.group.now = search rules in
    let entry : g.M.SortedMaps.maps c.insert.new.self c.args.view ≡ insert (g.M.SortedMaps.maps c.reserve.new.self c.args.view) c.args.group.now c.in_ok-value.value =
    c.insert.ensures.entry ∙ ap (λ (k : List ℕ). insert (g.M.SortedMaps.maps c.reserve.new.self c.args.view) k c.in_ok-value.value) key in
    stored_elsewhere (g.M.SortedMaps.maps c.reserve.new.self) (g.M.SortedMaps.maps c.insert.new.self) place q c.in_ok-value.value entry c.insert.ensures.others n
    ∙ ap (λ (m : ℕ → Map). stored_at m q) same

pub returns-clause-kept : goal.returns-clause-kept
returns-clause-kept g c = λ pays kept.
    let place : Place = (c.args.view, c.args.group.now) in
    let maps = g.M.SortedMaps.maps c.args.maps.now in
    zeros_made (row_at c.self.inside.rows place) (stored_at maps place) (stored_at (g.M.SortedMaps.maps c.insert.new.self) place) (suc c.args.sums) pays c.requires.absent (returns-clause-made g c)
    (subst (λ (l : OpenRows). StandsFor (row_at l place) (stored_at maps place) (suc c.args.sums) pays) (sym (ap (λ (s : State). s.rows) c.self.view_is)) kept)

pub returns-clause-listed : goal.returns-clause-listed
returns-clause-listed g c = λ q listed ghost.
    let place : Place = (c.args.view, c.args.group.now) in
    let before = g.M.SortedMaps.maps c.args.maps.now in
    let rows : c.args.self.now.rows ≡ c.self.inside.rows = sym (ap (λ (s : State). s.rows) c.self.view_is) in
    let candidates : c.args.self.now.candidates ≡ c.self.inside.candidates = sym (ap (λ (s : State). s.candidates) c.self.view_is) in
    made_listed place c.self.inside.rows before (g.M.SortedMaps.maps c.insert.new.self) c.self.inside.candidates c.add.new.self (returns-clause-stores g c)
    (c.add.ensures ∙ ap (λ (p : Place). insert c.self.inside.candidates p tt) c.in_ok-seat.ensures) q (listed_as rows candidates before q listed) ghost
