use Rattle.std.proofs.Common.{◌≡◌, ◌<◌, length, slice_get, slice_set, None, Some, sym, ap, subst, ◌∙◌}
use Rattle.std.proofs.lemmas.List.{length-map}
use Rattle.table_laws.proofs.SetPlaces.{set_length}
use Rattle.txn_book.specs.Opens.{open_at, at_key}
use Rattle.txn_book.proofs.Seating.{seated_with, opens_with, free_seat}
use Rattle.txn_book.proofs.open_table.OpenTable.put.Goals as goal

within : (c : goal.After-self-1) → c.args.session < length c.self.inside.seats.items
within c = subst (λ n. c.args.session < n) (ap (λ s. length s.opens) (sym c.self.view_is) ∙ length-map c.self.inside.seats.items (at_key c.self.inside.opens)) c.requires.place

free : (c : goal.After-self-1) → slice_get c.self.inside.seats.items c.args.session ≡ Some None
free c = free_seat c.self.inside.opens c.self.inside.seats.items c.self.invariant.0 c.args.session (within c) (ap (λ s. open_at s.opens c.args.session) c.self.view_is ∙ c.requires.absent)

pub invariant_of-self : goal.invariant_of-self
invariant_of-self c = (
  seated_with c.self.inside.opens c.insert_reserved-key.new.self c.self.inside.seats.items c.self.invariant.0 c.args.session c.insert_reserved-key.result c.args.transaction
      (within c) (free c) c.insert_reserved-key.ensures.was_vacant c.insert_reserved-key.ensures.updates,
  set_length c.self.inside.seats.items c.args.session (Some c.insert_reserved-key.result) ∙ c.self.invariant.1,
)

pub returns : goal.returns
returns c =
    opens_with c.self.inside.opens c.insert_reserved-key.new.self c.self.inside.seats.items c.self.invariant.0 c.args.session c.insert_reserved-key.result c.args.transaction
    (within c) (free c) c.insert_reserved-key.ensures.was_vacant c.insert_reserved-key.ensures.updates
    ∙ ap (λ s. slice_set s.opens c.args.session (Some c.args.transaction)) c.self.view_is
