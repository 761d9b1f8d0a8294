-- Each move that passes its test is a step, and moves one after the other are a run.
use Rattle.std.specs.Prelude.{◌≡◌, ℕ, ◌≤◌, nat_le, ◌&&◌, T, List, [], ◌∷◌}
use mathlib.Core.Path.{refl, sym, subst}
use Rattle.std.specs.FinMap.{empty}
use Rattle.iv_meaning.specs.Schema.{Schema}
use Rattle.txn_machine.specs.Store.{opened}
use Rattle.txn_machine.specs.Log.{unlimited}
use Rattle.txn_machine.specs.State.{State, opened_state}
use Rattle.txn_machine.specs.Steps.{Step, Run}
use Rattle.txn_machine.specs.Example.{shop_database}
use Rattle.txn_machine.proofs.PlainStates.{bare, put_in, Plain, state_of, start_with, start, txn}
use Rattle.txn_machine.proofs.Playing.{owes, lacks_first, makes_first, pays_first, refuses_first, Move, act_of, said_of, test, after, is_in_order, Turn, fine, told, played, begins, learns, scans, views, puts, lacks, makes, pays, undoes, ends, commits, leaves, refuses, blocks, reads_later, puts_later, cancels, deadlocks, peeks, creates, denies, finds_busy, cleans_none, cleans, prunes, saves}
use Rattle.txn_machine.proofs.Tabled.{none_is}
use Rattle.txn_machine.proofs.Testing.{left_one, right_one, at_most}
use Rattle.txn_machine.proofs.MovesAlone.{Sorted, in_order, begins_so, learns_so, scans_so, views_so, puts_so, lacks_by, makes_by, pays_by, undoes_so, ends_so, commits_so, leaves_so}
use Rattle.txn_machine.proofs.MovesWaiting.{refuses_by, blocks_so, reads_later_so, puts_later_so, cancels_so, deadlocks_so}
use Rattle.txn_machine.proofs.MovesCleaning.{peeks_so, cleans_none_so, cleans_so, prunes_so, saves_so}
use Rattle.txn_machine.proofs.MovesDefining.{creates_so, denies_so, finds_busy_so}

module _ (p : Plain) (i : ℕ) (sorted : Sorted p) (session : i ≤ 64) where
  pub sound : (m : Move) → T (test p i m) → Step (state_of p) i (act_of m) (said_of p i m) (state_of (after p i m))
  sound (begins mode) h = begins_so p i sorted session mode h
  sound learns h = learns_so p i sorted session h
  sound (scans number interval lock) h = scans_so p i sorted session number interval lock h
  sound (views number interval groups) h = views_so p i sorted session number interval groups h
  sound (puts number key new) h = puts_so p i sorted session number key new h
  sound lacks h = lacks_by p i sorted session (left_one (owes p i) (lacks_first p i (txn p i).owed) h) (txn p i).owed refl (right_one (owes p i) (lacks_first p i (txn p i).owed) h)
  sound makes h = makes_by p i sorted session (left_one (owes p i) (makes_first p i (txn p i).owed) h) (txn p i).owed refl (right_one (owes p i) (makes_first p i (txn p i).owed) h)
  sound pays h = pays_by p i sorted session (left_one (owes p i) (pays_first p i (txn p i).owed) h) (txn p i).owed refl (right_one (owes p i) (pays_first p i (txn p i).owed) h)
  sound undoes h = undoes_so p i sorted session h
  sound ends h = ends_so p i sorted session h
  sound commits h = commits_so p i sorted session h
  sound leaves h = leaves_so p i sorted session h
  sound (refuses column) h = refuses_by p i sorted session column (left_one (owes p i) (refuses_first p i (txn p i).owed column) h) (txn p i).owed refl (right_one (owes p i) (refuses_first p i (txn p i).owed column) h)
  sound (blocks sessions) h = blocks_so p i sorted session sessions h
  sound (deadlocks other mine theirs) h = deadlocks_so p i sorted session other mine theirs h
  sound (reads_later index interval lock sessions) h = reads_later_so p i sorted session index interval lock sessions h
  sound (puts_later number key new sessions) h = puts_later_so p i sorted session number key new sessions h
  sound cancels h = cancels_so p i sorted session h
  sound (peeks number interval) h = peeks_so p i sorted session number interval h
  sound (creates statement written) h = creates_so p i sorted session statement written h
  sound (denies statement written) h = denies_so p i sorted session statement written h
  sound (finds_busy statement written busy) h = finds_busy_so p i sorted session statement written busy h
  sound cleans_none h = cleans_none_so p i sorted session h
  sound (cleans place) h = cleans_so p i sorted session place h
  sound prunes h = prunes_so p i sorted session h
  sound saves h = saves_so p i sorted session h

-- ---- moves one after the other

pub runs : (p : Plain) (ts : List Turn) → T (fine p ts) → Run (state_of p) (told p ts) (state_of (played p ts))
runs p [] h = refl
runs p (t ∷ ts) h =
    let next : Plain = after p t.session t.move in
    let h1 = right_one (is_in_order p) (nat_le t.session 64 && (test p t.session t.move && fine next ts)) h in
    let h2 = right_one (nat_le t.session 64) (test p t.session t.move && fine next ts) h1 in (
      state_of next,
      sound p t.session (in_order p (left_one (is_in_order p) (nat_le t.session 64 && (test p t.session t.move && fine next ts)) h)) (at_most t.session 64 (left_one (nat_le t.session 64) (test p t.session t.move && fine next ts) h1)) t.move (left_one (test p t.session t.move) (fine next ts) h2),
      runs next ts (right_one (test p t.session t.move) (fine next ts) h2),
    )

-- the moves begin at a database without rows as it is opened
pub begins_at : (n : ℕ) (objects : Schema) → state_of (start_with n objects) ≡ opened_state unlimited (opened (bare n objects) empty)
begins_at n objects = λ j. put_in (opened_state unlimited (opened (bare n objects) empty)) (bare n objects) [] (sym none_is j) (sym none_is j)

-- the example's begin at the shop
pub start_is : state_of start ≡ opened_state unlimited (opened shop_database empty)
start_is = begins_at 2 shop_database.schema

pub run_to : (ts : List Turn) → T (fine start ts) → Run (opened_state unlimited (opened shop_database empty)) (told start ts) (state_of (played start ts))
run_to ts h = subst (λ (s : State). Run s (told start ts) (state_of (played start ts))) start_is (runs start ts h)

pub run_of : (ts : List Turn) → T (fine start ts) → (after : State) × Run (opened_state unlimited (opened shop_database empty)) (told start ts) after
run_of ts h = (state_of (played start ts), run_to ts h)
