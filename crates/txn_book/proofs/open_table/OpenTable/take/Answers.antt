use Rattle.std.proofs.Common.{◌≡◌, slice_get, slice_set, None, Some, IsSome, sym, ap, subst, ◌∙◌}
use Rattle.std.proofs.lemmas.Option.{slice_get-get_or}
use Rattle.table_laws.proofs.SetPlaces.{set_length}
use Rattle.txn_book.specs.Opens.{open_at}
use Rattle.txn_book.proofs.Seating.{seated_without, opens_without, opened_at, has_seat}
use Rattle.txn_book.proofs.open_table.OpenTable.take.Goals as goal

-- where the session's key stands
here : (c : goal.After-remove) → slice_get c.self.inside.seats.items c.args.session ≡ Some (Some c.in-Some.key)
here c =
    slice_get-get_or c.self.inside.seats.items c.args.session c.index.result.now
    (has_seat c.self.inside.opens c.self.inside.seats.items c.args.session (subst (λ s. IsSome (open_at s.opens c.args.session)) (sym c.self.view_is) c.requires))
    ∙ ap Some (sym c.index.ensures ∙ c.in-Some.is)

pub invariant_of-self : goal.invariant_of-self
invariant_of-self c = (
  seated_without c.self.inside.opens c.remove.new.self c.self.inside.seats.items c.self.invariant.0 c.args.session c.in-Some.key (here c) c.remove.ensures.updates,
  set_length c.self.inside.seats.items c.args.session None ∙ c.self.invariant.1,
)

pub returns-clause-taken : goal.returns-clause-taken
returns-clause-taken c =
    ap (λ s. open_at s.opens c.args.session) (sym c.self.view_is)
    ∙ opened_at c.self.inside.opens c.remove.new.self c.self.inside.seats.items c.self.invariant.0 c.args.session c.in-Some.key (here c) c.remove.ensures.updates c.remove.result c.remove.ensures.value

pub returns-clause-left : goal.returns-clause-left
returns-clause-left c =
    opens_without c.self.inside.opens c.remove.new.self c.self.inside.seats.items c.self.invariant.0 c.args.session c.in-Some.key (here c) c.remove.ensures.updates
    ∙ ap (λ s. slice_set s.opens c.args.session None) c.self.view_is
