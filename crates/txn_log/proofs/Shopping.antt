-- What is recovered at the moments of the shop's worked runs.
use Rattle.std.specs.Prelude.{◌≡◌, ℕ, ◌≤◌, pos, List, [], ◌∷◌, map, length, drop}
use mathlib.Core.Path.{refl, sym, ap, subst, ◌∙◌}
use mathlib.Core.Logic.{inl, inr}
use Rattle.std.proofs.Common.{arith}
use Rattle.std.specs.FinMap.{empty}
use Rattle.table_laws.specs.Place.{Place}
use Rattle.iv_meaning.specs.Schema.{Schema}
use Rattle.iv_meaning.specs.Database.{Row, Database, key_of}
use Rattle.iv_meaning.specs.History.{state_at}
use Rattle.iv_types.specs.declared.statement.Mode.TheVariants.{Serial}
use Rattle.txn_machine.specs.Fresh.{fresh}
use Rattle.txn_machine.specs.Stored.{stored_number}
use Rattle.txn_machine.specs.Store.{Store, committed, opened, Commits, does}
use Rattle.txn_machine.specs.Log.{unlimited}
use Rattle.txn_machine.specs.State.{State, opened_state}
use Rattle.txn_machine.specs.Example.{sale, shop_database, one_sale}
use Rattle.txn_machine.proofs.ShopOpening.{shop_opened}
use Rattle.txn_machine.proofs.PlainStates.{Plain, state_of, shop_schema, start, schema, base, number_of, fresh_in}
use Rattle.txn_machine.proofs.Playing.{Turn, begins, lacks, makes, pays, commits, said_of, after, played}
use Rattle.txn_machine.proofs.Tabled.{InOrder, with_rows, plain_db, committed_is, base_sorted, fresh_is, origin_is}
use Rattle.std.proofs.lemmas.Bool.Decides.{leb_tells}
use Rattle.iv_types.specs.declared.refusal.EngineRefusal.TheVariants as refusal
use Rattle.txn_machine.specs.Acts as act
use Rattle.txn_machine.specs.Acts.{Act}
use Rattle.txn_machine.specs.Answers as answer
use Rattle.txn_machine.specs.Ghosts.{the_views}
use Rattle.txn_machine.specs.Log.{record_of}
use Rattle.txn_machine.specs.State.{counted}
use Rattle.txn_machine.specs.Steps.{Step, Does, log_after}
use Rattle.txn_machine.proofs.MovesAlone.{in_order}
use Rattle.txn_machine.proofs.Played.{run_to, sound}
use Rattle.txn_machine.proofs.Replays.{turn, putting}
use Rattle.txn_log.specs.Replay.{Pages, recovered}
use Rattle.txn_log.specs.Appended.{Image, IsRead}
use Rattle.txn_log.specs.Moments.{Disk, with_record, fails_commit, World, At, Amid, Halted, store_of, disk_of, image_of, left_by, flushed_all, Run, here, then_move, flushes, opened_disk, IsRight}
use Rattle.txn_log.specs.Worked.{shop, opened_shop, Leads, Total, total_place, HasTotals, Shows, inserting_steps, one_total, StopInCommit, FaultInCommit}
use Rattle.txn_log.proofs.Happening.{good_run, good_opened, followed_world, cut_right}
use Rattle.txn_log.proofs.Lifting.{run_both, ordinary, Goes, GoesIn, run_goes, step_in, settled, ends_go}
use Rattle.txn_log.proofs.Settling.{right_exact}
use Rattle.txn_log.proofs.Printed.{prints_again}

-- what is recovered where all that is committed is acknowledged
abbrev pub Settled : World → Type 0
Settled w = (disk_of w).acknowledged ≡ (committed (store_of w)).number

-- the totals of a list of sales
abbrev pub TotalsIn : List (Place × Row) → List Total → Type 0
TotalsIn l [] = Unit {0}
TotalsIn l (t ∷ ts) = (fresh_in shop_schema l (total_place t.shop) 0 ≡ pos t.count) × (fresh_in shop_schema l (total_place t.shop) 1 ≡ pos t.total) × TotalsIn l ts

totals_in : (p : Pages) (n : ℕ) (l : List (Place × Row)) → InOrder l → p.db ≡ with_rows n shop_schema l → ((place : Place) (column : ℕ) → stored_number p.view place column ≡ fresh p.db.schema p.db.rows place column)
    → (ts : List Total) → TotalsIn l ts → HasTotals p.view ts
totals_in p n l sorted is rows [] h = tt
totals_in p n l sorted is rows (t ∷ ts) h = (number 0 ∙ h.0, number 1 ∙ h.1, totals_in p n l sorted is rows ts h.2)
  where
    number : (column : ℕ) → stored_number p.view (total_place t.shop) column ≡ fresh_in shop_schema l (total_place t.shop) column
    number column = rows (total_place t.shop) column
        ∙ (ap (λ (db : Database). fresh db.schema db.rows (total_place t.shop) column) is ∙ fresh_is shop_schema l (total_place t.shop) column sorted)

-- of the moment after some moves
pub settled_shows : (w : World) → Run opened_shop w → (p : Plain) → committed (store_of w) ≡ plain_db p → schema p ≡ shop_schema → Settled w
    → (rows : List Row) → map (λ row. ((1, key_of sale row), row)) rows ≡ base p → (totals : List Total) → TotalsIn (base p) totals → (k : ℕ) → Shows w k (number_of p) rows totals
settled_shows w r p is defined settled rows rows_are totals h k =
    let good = followed_world w (good_run prints_again opened_shop w r (good_opened prints_again unlimited shop shop_opened)) in
    let right : IsRight (store_of w) (left_by w k) (disk_of w).acknowledged = cut_right (store_of w) good.0 (disk_of w) good.1 k in
    let db_is : (recovered right.reading).db ≡ with_rows (number_of p) shop_schema (base p) =
    right_exact (store_of w) (left_by w k) (disk_of w).acknowledged good.1.sound.good settled right ∙ (is ∙ ap (λ (objects : Schema). with_rows (number_of p) objects (base p)) defined) in
    record {
      reading = right.reading;
      is_read = right.is_read;
      db = db_is ∙ ap (with_rows (number_of p) shop_schema) (sym rows_are);
      view = totals_in (recovered right.reading) (number_of p) (base p) (base_sorted p) db_is right.opens.rows totals h;
    }

pub none_left : {X : Type 0} (xs : List X) → drop (length xs) xs ≡ []
none_left [] = refl
none_left (x ∷ xs) = none_left xs

-- without what waits, the image is the same
pub same_shown : (v w : World) (number : ℕ) (image : left_by v 0 ≡ left_by w (length (disk_of w).waiting)) → Shows v 0 number [] [] → Shows w (length (disk_of w).waiting) number [] []
same_shown v w number image h = record { reading = h.reading; is_read = subst (λ (i : Image). IsRead i h.reading) image h.is_read; db = h.db; view = tt }

-- in a step, where nothing waited as it began
pub before_flush : (s : State) (d : Disk) (i : ℕ) (a : Act) (t : State) (go : GoesIn s (flushed_all d) i a t) (number : ℕ) → Shows (At s (flushed_all d)) 0 number [] []
    → Shows (Amid t i a go.store go.log [] go.disk) (length go.disk.waiting) number [] []
before_flush s d i a t go number h = same_shown (At s (flushed_all d)) (Amid t i a go.store go.log [] go.disk) number
    (λ x. image_of (record { pages = sym go.same.pages x; carried = sym go.same.carried x; flushed = sym go.same.flushed x; waiting = []; acknowledged = 0 }) (sym (none_left go.disk.waiting) x)) h

-- ---- a stop in a commit

abbrev pub inserting_turns : List Turn
inserting_turns = turn 1 (begins Serial) ∷ putting 1 one_sale (turn 1 lacks ∷ turn 1 makes ∷ turn 1 pays ∷ [])

abbrev pub not_committed : Plain
not_committed = played start inserting_turns

abbrev inserted_turns : List Turn
inserted_turns = turn 1 (begins Serial) ∷ putting 1 one_sale (turn 1 lacks ∷ turn 1 makes ∷ turn 1 pays ∷ turn 1 commits ∷ [])

abbrev inserted : Plain
inserted = played start inserted_turns

pub inserting_goes : Goes opened_shop (state_of not_committed)
inserting_goes =
    run_goes (opened_state unlimited (opened shop_database empty)) inserting_steps (state_of not_committed) (opened_disk shop) refl (run_to inserting_turns tt) (ordinary inserting_steps refl)

pub stop_in_commit : StopInCommit
stop_in_commit =
    let s : State = state_of not_committed in
    let t : State = state_of inserted in
    let goes : Goes opened_shop s = inserting_goes in
    let f : Disk = flushed_all goes.0 in
    let at : Run opened_shop (At s f) = then_move opened_shop (At s goes.0) (At s f) goes.1 (flushes (At s goes.0) tt) in
    let step : Step s 1 act.Commit (answer.Committed 3) t = sound not_committed 1 (in_order not_committed tt) (omega arith) commits tt in
    let go : GoesIn s f 1 act.Commit t = step_in s f 1 act.Commit (answer.Committed 3) t refl step refl in
    let w : World = Amid t 1 act.Commit go.store go.log [] go.disk in
    let g : Disk = settled go.store go.disk in
    let before : Run opened_shop w = run_both opened_shop (At s f) w at go.run in
    let after : Run w (At t g) = ends_go t 1 act.Commit go.store go.log go.disk refl in record {
      committed = t;
      leads = run_to inserted_turns tt;
      store = go.store;
      log = go.log;
      waiting = go.disk;
      before = before;
      shows_before = before_flush s goes.0 1 act.Commit t go 2 (settled_shows (At s f) at not_committed (committed_is not_committed) refl goes.2 [] refl [] tt 0);
      flushed = g;
      after = after;
      shows_after = settled_shows (At t g) (run_both opened_shop w (At t g) before after) inserted (committed_is inserted) refl (ap (λ (x : Store). (committed x).number) go.store_is) (one_sale ∷ []) refl one_total (refl, refl, tt);
    }

-- ---- a fault in a commit

pub fault_in_commit : FaultInCommit
fault_in_commit =
    let s : State = state_of not_committed in
    let leads : Leads inserting_steps s = run_to inserting_turns tt in
    let goes : Goes opened_shop s = inserting_goes in
    let step : Step s 1 act.Commit (said_of not_committed 1 commits) (state_of (after not_committed 1 commits)) =
    sound not_committed 1 (in_order not_committed tt) (omega arith) commits tt in
    let stopped : State = counted s 1 act.Commit (answer.Refused refusal.DiskFault) s.store [] s.definitions (log_after s 1 act.Commit (answer.Refused refusal.DiskFault) []) in
    let fails : Does s 1 act.Commit (answer.Refused refusal.DiskFault) stopped = record { runs = refl; effects = []; says = (refl, λ e. absurd (cc)); left = refl } in
    let next : Store = does the_views s.store 1 Commits in
    let disk : Disk = with_record (record_of s.store 1 act.Commit s.log Commits) s.log.next goes.0 in
    let run : Run opened_shop (Halted stopped next disk) =
    run_both opened_shop (At s goes.0) (Halted stopped next disk) goes.1 (then_move (At s goes.0) (At s goes.0) (Halted stopped next disk) (here (At s goes.0)) (fails_commit s goes.0 1 stopped step.may fails)) in
    let w : World = Halted stopped next disk in
    let good = followed_world w (good_run prints_again opened_shop w run (good_opened prints_again unlimited shop shop_opened)) in
    let had : disk.acknowledged ≡ 2 = goes.2 ∙ ap (λ (db : Database). db.number) (committed_is not_committed) in
    let right : (k : ℕ) → IsRight next (left_by w k) disk.acknowledged = λ k. cut_right next good.0 disk good.1 k in
    let early : (k : ℕ) → (recovered (right k).reading).db.number ≤ 2 → Shows w k 2 [] [] = λ k h.
    let number : (recovered (right k).reading).db.number ≡ 2 = (let low : disk.acknowledged ≤ (recovered (right k).reading).db.number = (right k).has_all in omega arith) in record {
      reading = (right k).reading;
      is_read = (right k).is_read;
      db = (right k).db ∙ (ap (state_at shop_database next.history) number ∙ origin_is 2 shop_schema);
      view = tt;
    } in
    let late : (k : ℕ) → 3 ≤ (recovered (right k).reading).db.number → Shows w k 3 (one_sale ∷ []) one_total = λ k h.
    let number : (recovered (right k).reading).db.number ≡ 3 = (let high : (recovered (right k).reading).db.number ≤ 3 = (right k).not_more in omega arith) in
    let db_is : (recovered (right k).reading).db ≡ with_rows 3 shop_schema (base inserted) = (right k).db ∙ (ap (state_at shop_database next.history) number ∙ committed_is inserted) in record {
      reading = (right k).reading;
      is_read = (right k).is_read;
      db = db_is;
      view = totals_in (recovered (right k).reading) 3 (base inserted) (base_sorted inserted) db_is (right k).opens.rows one_total (refl, refl, tt);
    } in
    record {
      inserted = s;
      leads = leads;
      stopped = stopped;
      next = next;
      disk = disk;
      run = run;
      shows = λ k. elim (leb_tells (recovered (right k).reading).db.number 2) [ inl h ↦ inl (early k h.1) | inr h ↦ inr (late k h.1) ];
    }
