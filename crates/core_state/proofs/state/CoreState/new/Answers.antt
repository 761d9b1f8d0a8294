use Rattle.std.proofs.Common.{ℕ, ◌+◌, [], Option, None, IsSome, refl, sym, ap, subst, ◌∙◌}
use Rattle.std.specs.FinMap.{empty}
use Rattle.txn_machine.specs.Log.{Within, block_bytes}
use Rattle.txn_machine.specs.State.{opened_state}
use Rattle.txn_machine.specs.Store.{opened}
use Rattle.core_state.specs.Stands.{Stands, limited}
use Rattle.core_state.specs.declared.state.CoreState.{CoreState}
use Rattle.core_state.proofs.Opened.{made}
use Rattle.core_state.proofs.state.CoreState.new.Goals as goal

pub returns : goal.returns
returns g c =
    let core : CoreState g.row.M.Denot = record {
      alloc = c.args.alloc;
      store = c.in_ok-new_store.field-0;
      book = c.in_ok-new-6.field-0;
      locks = c.in_ok-new-5.field-0;
      wants = c.in_ok-new-2.field-0;
      ahead = c.in_ok-new-3.field-0;
      data_room = c.in_ok-new-4.field-0;
      log_room = c.new-5.result;
      begun = 0;
      next = 1;
      steps = 0;
      seats = c.in_ok-new.field-0;
      cleaner = record { pruned = 0; found_none = 0; removed = 0; saved = 0 };
      stop = None;
    } in
    subst (λ (most : Option ℕ). Stands g.M.SortedMaps.maps g.M.SortedMaps.spare g.M.SortedMaps.limit core (opened_state (limited c.args.log most) (opened (record { number = c.args.number; schema = []; rows = empty }) empty))) c.in_ok-new-4.ensures.limit
    (subst (λ (log : Option ℕ). Stands g.M.SortedMaps.maps g.M.SortedMaps.spare g.M.SortedMaps.limit core (opened_state (limited log core.data_room.limit) (opened (record { number = c.args.number; schema = []; rows = empty }) empty))) c.new-5.ensures.limit
    (made g.M.SortedMaps.maps g.M.SortedMaps.spare g.M.SortedMaps.limit core c.args.number c.empty_law.ensures c.in_ok-new_store.ensures.held (ap (λ t. g.M.SortedMaps.maps t 0) c.in_ok-new_store.ensures.maps ∙ c.requires.empty 0) c.in_ok-new_store.ensures.marks c.in_ok-new_store.ensures.past c.in_ok-new-6.ensures.number c.in_ok-new-6.ensures.history.0 c.in_ok-new-6.ensures.history.1 c.in_ok-new-6.ensures.opens
    (c.new-5.ensures.room (record { number = c.args.number; schema = []; rows = empty }) empty 1) (subst (λ (log : Option ℕ). Within log (block_bytes + 1)) (sym c.new-5.ensures.limit) c.requires.log) (subst IsSome (sym c.in_ok-new-4.ensures.limit) refl)
    c.in_ok-new-5.ensures c.in_ok-new-3.ensures.rows c.in_ok-new-3.ensures.deltas (ap g.M.SortedMaps.limit c.in_ok-new_store.ensures.maps ∙ (c.requires.data ∙ sym c.in_ok-new-4.ensures.limit)) c.in_ok-new-4.ensures.total c.in_ok-new-4.ensures.shares refl refl refl
    c.in_ok-new.ensures refl refl))
