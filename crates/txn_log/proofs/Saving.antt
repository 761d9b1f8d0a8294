-- The shop's worked run with a checkpoint.
use Rattle.std.specs.Prelude.{◌≡◌, ℕ, List, [], ◌∷◌, None}
use mathlib.Core.Path.{refl, ap}
use mathlib.Core.Logic.{inl, inr}
use Rattle.std.proofs.Common.{arith}
use Rattle.iv_types.specs.declared.statement.Mode.TheVariants.{Serial}
use Rattle.iv_meaning.specs.Database.{key_of}
use Rattle.txn_machine.specs.Acts as act
use Rattle.txn_machine.specs.Answers as answer
use Rattle.txn_machine.specs.Store.{Store, committed}
use Rattle.txn_machine.specs.Log.{unlimited}
use Rattle.txn_machine.specs.State.{State, counted}
use Rattle.txn_machine.specs.Steps.{Does, Step, log_after}
use Rattle.txn_machine.specs.May.{May}
use Rattle.txn_machine.specs.Example.{sale, one_sale, other_sale, starts, inserts}
use Rattle.txn_machine.proofs.ShopOpening.{shop_opened}
use Rattle.txn_machine.proofs.PlainStates.{Plain, state_of}
use Rattle.txn_machine.proofs.Playing.{Turn, begins, commits, played}
use Rattle.txn_machine.proofs.Tabled.{committed_is, get_is}
use Rattle.txn_machine.proofs.MovesAlone.{in_order}
use Rattle.txn_machine.proofs.Played.{run_to, runs, sound}
use Rattle.txn_machine.proofs.Replays.{turn, inserting}
use Rattle.txn_log.specs.Replay.{Deed}
use Rattle.txn_log.specs.Fitting.{DoNumbersFall}
use Rattle.txn_log.specs.Moments as moments
use Rattle.txn_log.specs.Moments.{Disk, World, At, Amid, Keeps, pages_now, published, flushed_all, Run, here, then_move, publishes, ends, flushes}
use Rattle.txn_log.specs.Worked.{shop, opened_shop, other_total, StopAfterCheckpoint}
use Rattle.txn_log.proofs.Lifting.{run_both, ordinary, Goes, GoesIn, run_goes, step_in, settled, ends_go, carries}
use Rattle.txn_log.proofs.Printed.{prints_again}
use Rattle.txn_log.proofs.Shopping.{inserting_turns, not_committed, inserting_goes, settled_shows, before_flush}

-- the state after a checkpoint
abbrev pub saved_state : Plain → ℕ → State
saved_state p number = counted (state_of p) 0 act.Checkpoint (answer.Saved number) (state_of p).store [] (state_of p).definitions (log_after (state_of p) 0 act.Checkpoint (answer.Saved number) [])

abbrev pub saved_plain : Plain → ℕ → Plain
saved_plain p number = record p { of = saved_state p number }

abbrev pub saves_does : (p : Plain) (number : ℕ) → (state_of p).stop ≡ None → number ≡ (committed (state_of p).store).number → Does (state_of p) 0 act.Checkpoint (answer.Saved number) (state_of (saved_plain p number))
saves_does p number runs is = record { runs = runs; effects = []; says = (refl, is); left = refl }

pub may_save : (s : State) → May s 0 act.Checkpoint
may_save s = (omega arith, inr refl)

-- a checkpoint is made
pub saves_goes : (p : Plain) (number : ℕ) (d : Disk) → (state_of p).stop ≡ None → number ≡ (committed (state_of p).store).number → d.acknowledged ≡ (committed (state_of p).store).number → Run opened_shop (At (state_of p) d)
    → (xs : List Deed) × Run (At (state_of p) d) (At (state_of (saved_plain p number)) (published (pages_now (state_of p).store) xs d))
saves_goes p number d runs is had r =
    let s : State = state_of p in
    let t : State = state_of (saved_plain p number) in
    let w : World = Amid t 0 act.Checkpoint s.store s.log [] d in
    let begun : Run (At s d) w = then_move (At s d) (At s d) w (here (At s d)) (moments.begins s d 0 act.Checkpoint (answer.Saved number) t (may_save s) (saves_does p number runs is) refl) in
    let carried : (xs : List Deed) × Keeps w xs × DoNumbersFall xs = carries prints_again shop shop_opened unlimited w (run_both opened_shop (At s d) w r begun) tt in
    let e : Disk = published (pages_now s.store) carried.0 d in
    let u : World = Amid t 0 act.Checkpoint s.store s.log [] e in (
      carried.0,
      then_move (At s d) u (At t e) (then_move (At s d) w u begun (publishes w carried.0 carried.1 carried.2)) (ends t 0 act.Checkpoint s.store s.log e (record { acknowledged = had; published = λ same. (refl, refl, refl) })),
    )

abbrev saved : Plain
saved = saved_plain not_committed 2

abbrev other_inserting : List Turn
other_inserting = turn 2 (begins Serial) ∷ inserting 2 other_sale []

abbrev other_waits : Plain
other_waits = played saved other_inserting

abbrev other_turns : List Turn
other_turns = turn 2 (begins Serial) ∷ inserting 2 other_sale (turn 2 commits ∷ [])

abbrev other : Plain
other = played saved other_turns

pub stop_after_checkpoint : StopAfterCheckpoint
stop_after_checkpoint =
    let s : State = state_of not_committed in
    let goes : Goes opened_shop s = inserting_goes in
    let d : Disk = goes.0 in
    let saves = saves_goes not_committed 2 d refl refl goes.2 goes.1 in
    let t : State = state_of saved in
    let e : Disk = published (pages_now s.store) saves.0 d in
    let saved_run : Run opened_shop (At t e) = run_both opened_shop (At s d) (At t e) goes.1 saves.1 in
    let more : Goes (At t e) (state_of other_waits) = run_goes t (starts 2 2 (inserts 2 other_sale [])) (state_of other_waits) e goes.2 (runs saved other_inserting tt) (ordinary (starts 2 2 (inserts 2 other_sale [])) refl) in
    let v : State = state_of other_waits in
    let f : Disk = flushed_all more.0 in
    let at : Run (At t e) (At v f) = then_move (At t e) (At v more.0) (At v f) more.1 (flushes (At v more.0) tt) in
    let u : State = state_of other in
    let step : Step v 2 act.Commit (answer.Committed 3) u = sound other_waits 2 (in_order other_waits tt) (omega arith) commits tt in
    let go : GoesIn v f 2 act.Commit u = step_in v f 2 act.Commit (answer.Committed 3) u refl step refl in
    let w : World = Amid u 2 act.Commit go.store go.log [] go.disk in
    let g : Disk = settled go.store go.disk in
    let before : Run (At t e) w = run_both (At t e) (At v f) w at go.run in
    let after : Run w (At u g) = ends_go u 2 act.Commit go.store go.log go.disk refl in record {
      inserted = s;
      leads = run_to inserting_turns tt;
      waiting = d;
      inserts = goes.1;
      shows_inserted = settled_shows (At s d) goes.1 not_committed (committed_is not_committed) refl goes.2 [] refl [] tt;
      saved = t;
      saves = (t, record { may = may_save s; does = inl (saves_does not_committed 2 refl refl) }, refl);
      published = e;
      checkpoint = saves.1;
      has_sale = get_is not_committed.rows (1, key_of sale one_sale) tt;
      shows_published = settled_shows (At t e) saved_run saved (committed_is saved) refl goes.2 [] refl [] tt;
      committed = u;
      more = runs saved other_turns tt;
      store = go.store;
      log = go.log;
      unflushed = go.disk;
      commits = before;
      shows_before = before_flush v more.0 2 act.Commit u go 2 (settled_shows (At v f) (run_both opened_shop (At t e) (At v f) saved_run at) other_waits (committed_is other_waits) refl more.2 [] refl [] tt 0);
      flushed = g;
      after = after;
      shows_after = settled_shows (At u g) (run_both opened_shop w (At u g) (run_both opened_shop (At t e) w saved_run before) after) other (committed_is other) refl (ap (λ (x : Store). (committed x).number) go.store_is) (other_sale ∷ []) refl other_total (refl, refl, tt);
    }
