use Rattle.std.proofs.Common.{◌≡◌, sym, ap, ◌∙◌, ◌*◌, List, ℕ, pos, None, replicate}
use Rattle.std.proofs.lemmas.Result.{IfOk-weaker}
use Rattle.std.specs.FinMap.{get}
use Rattle.txn_machine.specs.Deltas.{place_of}
use Rattle.ghost_rows.specs.Kept.{width}
use Rattle.ghost_rows.specs.State.{stored_at}
use Rattle.ghost_rows.proofs.RowLemmas.{huge_fit}
use Rattle.ghost_rows.proofs.StateLemmas.{has_bytes, has_length, all_zeros}
use Rattle.ghost_rows.proofs.opening.numbers_at.Goals as goal

pub numbers_of-requires : goal.numbers_of-requires
numbers_of-requires g c =
    has_length _ c.in-Some.stored.now (width c.args.delta.now) c.requires.stored.0
    (c.in-Some.ensures ∙ ap (λ (k : List ℕ). get (g.M.SortedMaps.maps c.args.maps.now c.args.delta.now.view) k) c.as_slice.ensures) c.requires.stored.1
    ∙ ap (λ n. 16 * n) (sym c.width.ensures)

pub returns-in-Some : goal.returns-in-Some
returns-in-Some g c = IfOk-weaker c.numbers_of.result _ _ (λ found told numbers has.
    told numbers (huge_fit numbers has.huge)
    (has_bytes _ c.in-Some.stored.now (width c.args.delta.now) numbers
    (c.in-Some.ensures ∙ ap (λ (k : List ℕ). get (g.M.SortedMaps.maps c.args.maps.now c.args.delta.now.view) k) c.as_slice.ensures) has)) c.numbers_of.ensures.value

pub returns-in-None : goal.returns-in-None
returns-in-None g c = IfOk-weaker c.zeros.result _ _ (λ found e numbers has.
    let none : stored_at (g.M.SortedMaps.maps c.args.maps.now) (place_of c.args.delta.now) ≡ None =
    sym (c.in-None.ensures ∙ ap (λ (k : List ℕ). get (g.M.SortedMaps.maps c.args.maps.now c.args.delta.now.view) k) c.as_slice.ensures) in
    e ∙ (ap (λ n. replicate n (pos 0)) c.width-in-None.ensures ∙ all_zeros numbers (width c.args.delta.now) has.many (has.zeros none))) c.zeros.ensures
