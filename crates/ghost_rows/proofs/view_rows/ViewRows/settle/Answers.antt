use Rattle.std.proofs.Common.{◌≡◌, ◌<◌, sym, ap, subst, ◌∙◌, [], arith, length}
use Rattle.std.specs.Prelude.{get_or}
use Rattle.std.specs.List.{Contains}
use Rattle.std.proofs.lemmas.List.{get_or_default}
use Rattle.table_laws.specs.Place.{Place}
use Rattle.ghost_rows.specs.Rows.{OpenRows, IsSeated, AreSettled, settled_at, row_at}
use Rattle.ghost_rows.specs.Candidates.{Places}
use Rattle.ghost_rows.specs.State.{State, stored_at}
use Rattle.table_laws.proofs.SetPlaces.{set_length}
use Rattle.ghost_rows.proofs.SeatLemmas.{settled_all, settled_open, settled_seated}
use Rattle.ghost_rows.proofs.StateLemmas.{settled_state}
use Rattle.ghost_rows.proofs.ListedLemmas.{settled_listed}
use Rattle.ghost_rows.proofs.view_rows.ViewRows.settle.Goals as goal

module _ (c : goal.After-drop-index_mut) where
  within : c.args.session < length c.self.inside.seats.items
  within = omega (arith, c.self.invariant.1, c.requires.1)

  held : c.replace-seats.result ≡ get_or c.self.inside.seats.items c.args.session []
  held = c.replace-seats.ensures.value ∙ (c.index_mut.ensures.value ∙ get_or_default c.self.inside.seats.items c.args.session c.index_mut.result.now [] within)

  seated : (q : Place) → IsSeated c.self.inside.rows q c.args.session → Contains c.replace-seats.result q
  seated q h = subst (λ l. Contains l q) (sym held) (c.self.invariant.3 c.args.session q h)

pub invariant_of-self : goal.invariant_of-self
invariant_of-self c = (
  set_length c.self.inside.pools.items c.args.session c.new-2.result ∙ c.self.invariant.0,
  set_length c.self.inside.seats.items c.args.session c.replace-seats.new.dest ∙ c.self.invariant.1,
  settled_open c.args.session c.replace-seats.result c.self.inside.rows c.settle_each.new.rows c.self.inside.candidates c.settle_each.new.candidates c.self.invariant.2 (seated c) c.settle_each.ensures,
  settled_seated c.args.session c.replace-seats.result c.self.inside.rows c.settle_each.new.rows c.self.inside.candidates c.settle_each.new.candidates c.self.invariant.2 (seated c) c.settle_each.ensures c.self.inside.seats.items c.replace-seats.new.dest c.self.invariant.3,
)

pub returns-clause-rows : goal.returns-clause-rows
returns-clause-rows c = λ q.
    settled_all c.args.session c.replace-seats.result c.self.inside.rows c.settle_each.new.rows c.self.inside.candidates c.settle_each.new.candidates c.self.invariant.2 (seated c) c.settle_each.ensures q
    ∙ ap (λ (s : State). settled_at c.args.session (row_at s.rows q)) c.self.view_is

pub returns-clause-kept : goal.returns-clause-kept
returns-clause-kept c = λ maps place many pays kept.
    settled_state c.args.session (row_at c.args.self.now.rows place) (row_at c.settle_each.new.rows place) (stored_at maps place) many pays c.requires (returns-clause-rows c place) kept

pub returns-clause-listed : goal.returns-clause-listed
returns-clause-listed c = λ maps place many pays kept listed.
    let rows : c.self.inside.rows ≡ c.args.self.now.rows = ap (λ (s : State). s.rows) c.self.view_is in
    let candidates : c.self.inside.candidates ≡ c.args.self.now.candidates = ap (λ (s : State). s.candidates) c.self.view_is in
    settled_listed c.args.session c.replace-seats.result c.args.self.now.rows c.settle_each.new.rows c.args.self.now.candidates c.settle_each.new.candidates maps place many pays c.requires
    (subst (λ (l : OpenRows). AreSettled c.args.session c.replace-seats.result l c.settle_each.new.rows c.args.self.now.candidates c.settle_each.new.candidates) rows
    (subst (λ (m : Places). AreSettled c.args.session c.replace-seats.result c.self.inside.rows c.settle_each.new.rows m c.settle_each.new.candidates) candidates c.settle_each.ensures)) kept listed
