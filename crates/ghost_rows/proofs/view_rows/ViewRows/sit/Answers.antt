use Rattle.std.proofs.Common.{◌≡◌, ◌<◌, sym, ap, subst, ◌∙◌, ◌++◌, ◌∷◌, [], List, ℕ, arith, length}
use Rattle.std.specs.Prelude.{slice_set, get_or}
use Rattle.std.proofs.lemmas.List.{get_or_default}
use Rattle.table_laws.specs.Place.{Place}
use Rattle.iv_types.specs.declared.lock.GroupDelta.{GroupDelta}
use Rattle.txn_machine.specs.Deltas.{place_of}
use Rattle.ghost_rows.specs.Rows.{AreSeated, IsSeated, OpenRows, row_at}
use Rattle.ghost_rows.specs.Kept.{StandsFor, width}
use Rattle.ghost_rows.specs.State.{State, stored_at}
use Rattle.table_laws.proofs.SetPlaces.{set_length}
use Rattle.ghost_rows.proofs.Steps.{read_here, set_same}
use Rattle.ghost_rows.proofs.SeatLemmas.{seated_given}
use Rattle.ghost_rows.proofs.StateLemmas.{seated_is, seat_of}
use Rattle.ghost_rows.proofs.ListedLemmas.{given_listed}
use Rattle.ghost_rows.proofs.view_rows.ViewRows.sit.Goals as goal

pub invariant_of-self : goal.invariant_of-self
invariant_of-self g c =
    let lists : List (List Place) = c.self.inside.seats.items in
    let s : ℕ = c.args.session in
    let within : s < length lists = omega (arith, c.self.invariant.1, c.requires.session.1) in (
      c.self.invariant.0,
      set_length lists s c.push.new.self ∙ c.self.invariant.1,
      c.self.invariant.2,
      subst (AreSeated c.self.inside.rows) (sym (set_same lists s c.index_mut.result.now c.push.new.self (read_here lists s c.index_mut.result.now within c.index_mut.ensures.value) c.in_err-push.ensures.err)) c.self.invariant.3,
    )

pub invariant_of-self-2 : goal.invariant_of-self-2
invariant_of-self-2 g c =
    let lists : List (List Place) = c.self.inside.seats.items in
    let s : ℕ = c.args.session in
    let d : GroupDelta = c.args.delta.now in
    let within : s < length lists = omega (arith, c.self.invariant.1, c.requires.session.1) in
    let seat : c.in_ok-seat.seat ≡ place_of d = c.in_ok-seat.ensures ∙ ap (λ (k : List ℕ). (d.view, k)) c.as_slice.ensures in
    let old : c.index_mut.result.now ≡ get_or lists s [] = c.index_mut.ensures.value ∙ get_or_default lists s c.index_mut.result.now [] within in
    let is : c.push.new.self ≡ get_or lists s [] ++ place_of d ∷ [] = c.in_ok-push.ensures.ok ∙ (λ i. old i ++ seat i ∷ []) in (
      c.self.invariant.0,
      set_length lists s c.push.new.self ∙ c.self.invariant.1,
      c.seat_in.ensures.room.still c.self.invariant.2,
      subst (λ l. AreSeated c.seat_in.new.rows (slice_set lists s l)) (sym is) (seated_given lists s within (place_of d) c.self.inside.rows c.seat_in.new.rows c.seat_in.ensures.room c.self.invariant.3),
    )

pub returns-clause-seats : goal.returns-clause-seats
returns-clause-seats g c = λ s has.
    seat_of c.seat_in.new.rows (place_of c.args.delta.now) s
    (c.seat_in.ensures.room.room s (subst (λ (l : OpenRows). IsSeated l (place_of c.args.delta.now) s) (sym (ap (λ (x : State). x.rows) c.self.view_is)) (seated_is c.args.self.now (place_of c.args.delta.now) s has)))

pub returns-clause-listed : goal.returns-clause-listed
returns-clause-listed g c =
    let d : GroupDelta = c.args.delta.now in
    let rows : c.self.inside.rows ≡ c.args.self.now.rows = ap (λ (x : State). x.rows) c.self.view_is in
    let maps = g.M.SortedMaps.maps c.args.maps.now in
    let kept : StandsFor (row_at c.self.inside.rows (place_of d)) (stored_at maps (place_of d)) (width d) c.requires.kept.0 =
    subst (λ (l : OpenRows). StandsFor (row_at l (place_of d)) (stored_at maps (place_of d)) (width d) c.requires.kept.0) (sym rows) c.requires.kept.1 in
    given_listed (place_of d) c.args.self.now.rows c.seat_in.new.rows maps c.args.self.now.candidates c.self.inside.candidates (length d.sums) c.requires.kept.0
    (ap (λ (x : State). x.candidates) c.self.view_is) (λ q n. c.seat_in.ensures.room.others q n ∙ ap (λ (l : OpenRows). row_at l q) rows) c.requires.kept.1 (c.seat_in.ensures.kept c.requires.kept.0 kept)
