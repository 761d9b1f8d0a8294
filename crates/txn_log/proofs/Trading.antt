-- The shop's day.
use Rattle.std.specs.Prelude.{◌≡◌, ℕ, true, List, [], ◌∷◌, map, Some, None}
use mathlib.Core.Path.{refl, sym, ap, subst, ◌∙◌}
use mathlib.Core.Logic.{inl}
use Rattle.std.specs.FinMap.{empty}
use Rattle.iv_types.specs.declared.statement.Mode.TheVariants.{Serial, Snapshot}
use Rattle.iv_meaning.specs.Database.{Row, Database, key_of}
use Rattle.txn_machine.specs.Store.{committed, opened}
use Rattle.txn_machine.specs.Log.{unlimited}
use Rattle.txn_machine.specs.State.{State, opened_state}
use Rattle.txn_machine.specs.Steps.{Did}
use Rattle.txn_machine.specs.Example.{sale, shop_database, sale_row}
use Rattle.txn_machine.proofs.PlainStates.{Plain, state_of, shop_schema, start, schema, base, number_of}
use Rattle.txn_machine.proofs.Playing.{Turn, begins, fetches, puts, lacks, makes, pays, commits, played}
use Rattle.txn_machine.proofs.Tabled.{plain_db, committed_is}
use Rattle.txn_machine.proofs.Played.{run_to}
use Rattle.txn_machine.proofs.Replays.{turn, inserting, putting, taking_back}
use Rattle.txn_log.specs.Moments.{Disk, World, At, flushed_all, Run, here, then_move, flushes, acknowledges, opened_disk, pages_now, published}
use Rattle.txn_log.specs.Worked.{shop, opened_shop, Leads, Total, Shows}
use Rattle.txn_log.specs.Day.{both_shops, of_shop, old_sale, new_sale, day_steps, day_rows, day_totals, StopAfter, StopAfterDay}
use Rattle.txn_log.proofs.Lifting.{run_both, are_ordinary, ordinary, Goes, run_goes}
use Rattle.txn_log.proofs.Shopping.{TotalsIn, settled_shows}
use Rattle.txn_log.proofs.Saving.{saved_plain, saves_does, may_save, saves_goes}

abbrev selling : ℕ → List Row → List Turn → List Turn
selling i [] more = more
selling i (row ∷ rows) more = inserting i row (selling i rows more)

abbrev selling_first : ℕ → Row → List Turn → List Turn
selling_first i row more = putting i row (turn i lacks ∷ turn i makes ∷ turn i pays ∷ more)

abbrev pub day_turns : List Turn
day_turns =
    turn 1 (begins Serial) ∷ turn 2 (begins Serial) ∷ turn 3 (begins Serial) ∷
    selling_first 1 old_sale (selling_first 1 (sale_row 2 2 2) (selling 1 (both_shops 8 3) (
    selling 2 (both_shops 10 11) (
    selling_first 3 (sale_row 21 3 21) (selling 3 (of_shop 3 9 22) (
    turn 4 (begins Serial) ∷ selling 4 (of_shop 2 10 31) (turn 4 commits ∷
    turn 2 commits ∷
    turn 4 (begins Snapshot) ∷
    turn 1 (fetches 1 (key_of sale old_sale)) ∷ turn 1 (puts 1 (key_of sale old_sale) (Some new_sale)) ∷ turn 1 pays ∷ turn 1 pays ∷
    taking_back 3 20 (
    turn 1 commits ∷ []))))))))

-- a checkpoint leaves what is committed
saved_committed : (p : Plain) (n : ℕ) → committed (state_of (saved_plain p n)).store ≡ plain_db p
saved_committed p n = committed_is (saved_plain p n)

saved_runs : (p : Plain) (steps : List Did) (number : ℕ) (rows : List Row) (totals : List Total) → Leads steps (state_of p) → are_ordinary steps ≡ true → (state_of p).stop ≡ None → number ≡ number_of p → schema p ≡ shop_schema
    → map (λ row. ((1, key_of sale row), row)) rows ≡ base p → TotalsIn (base p) totals → StopAfter steps number rows totals
saved_runs p steps number rows totals leads clear runs number_is defined rows_are totals_are =
    let s : State = state_of p in
    let goes : Goes opened_shop s = run_goes (opened_state unlimited (opened shop_database empty)) steps s (opened_disk shop) refl leads (ordinary steps clear) in
    let f : Disk = flushed_all goes.0 in
    let g : Disk = record f { acknowledged = (committed s.store).number } in
    let w : World = At s goes.0 in
    let run : Run opened_shop (At s g) = run_both opened_shop w (At s g) goes.1 (then_move w (At s f) (At s g) (then_move w w (At s f) (here w) (flushes w tt)) (acknowledges (At s f) refl tt)) in
    let committed_number : number ≡ (committed s.store).number = number_is ∙ sym (ap (λ (db : Database). db.number) (committed_is p)) in
    let saves = saves_goes p number g runs committed_number refl run in
    let t : State = state_of (saved_plain p number) in
    let e : Disk = published (pages_now s.store) saves.0 g in
    let saved_run : Run opened_shop (At t e) = run_both opened_shop (At s g) (At t e) run saves.1 in
    let saved_number : (committed s.store).number ≡ (committed t.store).number =
    ap (λ (db : Database). db.number) (committed_is p) ∙ sym (ap (λ (db : Database). db.number) (saved_committed p number)) in record {
      ended = s;
      leads = leads;
      flushed = g;
      run = run;
      shows = λ k. subst (λ n. Shows (At s g) k n rows totals) (sym number_is) (settled_shows (At s g) run p (committed_is p) defined refl rows rows_are totals totals_are k);
      saved = t;
      saves = (t, record { may = may_save s; does = inl (saves_does p number runs committed_number) }, refl);
      published = e;
      checkpoint = saves.1;
      shows_published = λ k. subst (λ n. Shows (At t e) k n rows totals) (sym number_is) (settled_shows (At t e) saved_run p (saved_committed p number) defined saved_number rows rows_are totals totals_are k);
    }

pub stop_after_day : StopAfterDay
stop_after_day = saved_runs (played start day_turns) day_steps 5 day_rows day_totals (run_to day_turns tt) refl refl refl refl refl (refl, refl, (refl, refl, (refl, refl, tt)))
