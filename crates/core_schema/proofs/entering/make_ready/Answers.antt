use Rattle.std.proofs.Common.{◌<◌, ◌≤◌, ℕ, List, length, ◌^◌, refl, sym, ap, subst, ◌∙◌, arith}
use Rattle.txn_log.specs.Stored.{in_parts}
use Rattle.iv_types.specs.Definitions.{Definitions}
use Rattle.core_state.specs.Stands.{Began}
use Rattle.core_state.specs.declared.state.CoreState.{CoreState}
use Rattle.core_schema.specs.Making.{with_catalog}
use Rattle.core_schema.proofs.Roomier.{on_err_of}
use Rattle.core_schema.proofs.Entered.{still_may, adds}
use Rattle.core_schema.proofs.Needs.{first_few, text_few}
use Rattle.core_schema.proofs.entering.make_ready.Goals as goal

pub reserve-requires-clause-text : goal.reserve-requires-clause-text
reserve-requires-clause-text g c κs within =
    let q = c.requires in
    let few = text_few g.M.SortedMaps.maps g.M.SortedMaps.spare g.M.SortedMaps.limit c.args.core.now q.0 q.1 q.2 c.args.definition q.4.may q.4.data_small in
    let same = ap length (c.text_of.ensures c.args.text c.in_ok-changes.ensures ∙ q.4.text_is) in
    omega (arith, few, same)

pub reserve-requires-clause-first : goal.reserve-requires-clause-first
reserve-requires-clause-first g c κs within =
    let q = c.requires in
    subst (λ es. length es < 2 ^ 32) (sym c.as_slice.ensures)
    (first_few g.M.SortedMaps.maps g.M.SortedMaps.spare g.M.SortedMaps.limit c.args.core.now q.0 q.1 q.2 c.args.definition q.4.may c.args.first.now q.4.first_are q.4.data_small)

pub returns-in_err-reserve-clause-err : goal.returns-in_err-reserve-clause-err
returns-in_err-reserve-clause-err g c = on_err_of c.from_residual-in_err-reserve.result (λ s session h. c.in_err-reserve.ensures.began s session h)

pub add-requires : goal.add-requires
add-requires g c =
    let q = c.requires in
    let began = c.in_ok-reserve.ensures.began q.0 q.1 q.4.may.began in
    let m = still_may g.M.SortedMaps.maps g.M.SortedMaps.spare g.M.SortedMaps.limit q.0 q.1 q.2 c.args.definition c.args.first.now c.args.text q.3 c.args.core.now c.reserve.new.core q.4 began
    (ap (λ (x : CoreState g.row.M.Denot). x.store.catalog) c.in_ok-reserve.ensures.rest) c.in_ok-reserve.ensures.maps in
    adds g.M.SortedMaps.maps g.M.SortedMaps.spare g.M.SortedMaps.limit q.0 q.1 q.2 c.args.definition c.args.first.now c.args.text q.3 c.reserve.new.core m c.book_law.ensures

pub returns-in_err-add-clause-err : goal.returns-in_err-add-clause-err
returns-in_err-add-clause-err g c = on_err_of c.from_residual-in_err-add.result (λ s session h.
    subst (λ (ds : Definitions). Began g.M.SortedMaps.maps g.M.SortedMaps.spare g.M.SortedMaps.limit (with_catalog ds c.reserve.new.core) s session) (sym c.in_err-add.ensures.err)
    (c.in_ok-reserve.ensures.began s session h))

pub returns-clause-ready : goal.returns-clause-ready
returns-clause-ready g c = λ s session statement need m parts parts_are.
    let began = c.in_ok-reserve.ensures.began s session m.may.began in record {
      before = c.reserve.new.core.store.catalog;
      definition = c.args.definition;
      text = c.args.text;
      may = still_may g.M.SortedMaps.maps g.M.SortedMaps.spare g.M.SortedMaps.limit s session statement c.args.definition c.args.first.now c.args.text need c.args.core.now c.reserve.new.core m began
          (ap (λ (x : CoreState g.row.M.Denot). x.store.catalog) c.in_ok-reserve.ensures.rest) c.in_ok-reserve.ensures.maps;
      last = record { are = c.in_ok-add.ensures.ok; number_is = refl };
      texts = c.in_ok-changes.ensures;
      parts_are = parts_are;
      parts_room = subst (λ (t : List ℕ). length (in_parts t) ≤ g.M.SortedMaps.spare c.reserve.new.core.store.tables 0) (c.text_of.ensures c.args.text c.in_ok-changes.ensures) c.in_ok-reserve.ensures.parts;
      first_room = subst (λ (n : ℕ). length c.args.first.now ≤ g.M.SortedMaps.spare c.reserve.new.core.store.tables n) c.number-number.ensures
          (subst (λ es. length es ≤ g.M.SortedMaps.spare c.reserve.new.core.store.tables c.number-number.result) c.as_slice.ensures c.in_ok-reserve.ensures.first);
      entry_room = c.in_ok-reserve.ensures.entry;
    }
