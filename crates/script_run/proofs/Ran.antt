-- Lines that were run, one after another.
use Rattle.std.specs.Prelude.{◌≡◌, ℕ, List, [], ◌∷◌, ◌++◌, None, Result, Ok, Err, OnOk, OnErr}
use mathlib.Core.Path.{refl, sym, ap, subst, ◌∙◌}
use Rattle.std.proofs.Common.{append-nil}
use Rattle.std.proofs.lemmas.List.{append_assoc}
use Rattle.iv_meaning.specs.Database.{Database}
use Rattle.iv_meaning.specs.Said.{Said}
use Rattle.iv_meaning.specs.Serial.{opened_with, IsSerialFrom}
use Rattle.txn_machine.specs.State.{State, opened_state}
use Rattle.txn_machine.specs.Store as store
use Rattle.txn_machine.specs.Alone.{Story, begun_story}
use Rattle.txn_machine.specs.Laws.{IsReachedStory}
use Rattle.script_law.specs.RunLines.{Table, RunsLine, RunsLines, LeaveAll, new_table, all_sessions}
use Rattle.script_law.specs.Laws.{IsNew}
use Rattle.script_law.specs.Machine.{DoesOf, seen_of, IsStopped}
use Rattle.script_law.proofs.OverMachine.{machine_laws}
use Rattle.script_law.proofs.Running as running
use Rattle.script_law.proofs.Running.{begun_agrees}
use Rattle.script_law.proofs.Leaving.{end_law}
use Rattle.statement_law.specs.Statements.{the_works}
use Rattle.statement_law.proofs.Works.{works_law}
use Rattle.statement_law.proofs.Telling.{told_engines}
use Rattle.script_law.proofs.Right.{programs_law}
use Rattle.session_asks.specs.Askable.{the_programs}
use Rattle.line_requests.specs.declared.asked.Request.{Request}
use Rattle.line_requests.specs.Requests.{SaysSo}
use Rattle.session_table.specs.declared.slot.Slot.{Slot}
use Rattle.session_table.specs.Going.{the_tell, StandsIn, Leads}
use Rattle.session_table.specs.Slots.{table_of, AllGo, GoFirst}
use Rattle.session_table.specs.Requests.{RanLine}
use Rattle.session_table.proofs.Leading.{line_leads}
use Rattle.script_run.specs.Lines.{WasOpened, HasRun, IsRunning, RanOneMore, Rests}

abbrev pub Runs : List Said → Table → Story → List ℕ → Table → Story → Type 0
Runs = RunsLines DoesOf the_programs the_tell all_sessions

-- a line more
pub runs_more : (lines : List Said) (said : Said) (t0 : Table) (s0 : Story) (out : List ℕ) (t : Table) (s : Story) (piece : List ℕ) (t' : Table) (s' : Story) → Runs lines t0 s0 out t s
    → RunsLine DoesOf the_programs the_tell all_sessions said t s piece t' s' → Runs (lines ++ said ∷ []) t0 s0 (out ++ piece) t' s'
runs_more [] said t0 s0 out t s piece t' s' r one = (
  piece,
  t',
  s',
  [],
  subst (λ x. x) (λ k. RunsLine DoesOf the_programs the_tell all_sessions said (r.1 k) (r.2 k) piece t' s') one,
  ap (λ o. o ++ piece) r.0 ∙ sym (append-nil piece),
  (refl, refl, refl),
)
runs_more (first ∷ lines) said t0 s0 out t s piece t' s' (p, mt, mid, rest, r, is, more) one =
    (p, mt, mid, rest ++ piece, r, ap (λ o. o ++ piece) is ∙ append_assoc p rest piece, runs_more lines said mt mid rest t s piece t' s' more one)

-- what was printed so far is serial
pub serial : (db : Database) (lines : List Said) (out : List ℕ) (slots : List Slot) (s : Story) → HasRun db lines out slots s → IsSerialFrom (opened_with db) lines out
serial db lines out slots s h =
    let begun : Story = begun_story (opened_state h.opening (store.opened db h.stored)) in
    let reached : IsReachedStory begun = record { db = db; view = h.stored; opening = h.opening; was_opened = h.is_opened; steps = []; tells = refl } in
    let new : IsNew db (seen_of begun) = record { origin_is = refl; none_committed = refl; none_open = λ session. refl } in
    running.lines seen_of DoesOf IsReachedStory IsStopped machine_laws the_programs (programs_law the_works works_law) the_tell (λ why. (told_engines [] None why).0) all_sessions lines
    (opened_with db) new_table begun out (table_of slots) s reached (begun_agrees seen_of IsStopped db begun new) h.runs

-- a line was run that asks for this
pub one_more : (db : Database) (lines : List Said) (out : List ℕ) (slots slots' : List Slot) (asked : Request) (MaySay : Said → Type 0) (old new : List ℕ) (s after : Story)
    → ((said : Said) → SaysSo asked said → MaySay said) → HasRun db lines out slots s → RanLine asked s slots old slots' new after → RanOneMore db lines out MaySay slots s old new slots' after
one_more db lines out slots slots' asked MaySay old new s after says h r =
    let ran : HasRun db (lines ++ r.said ∷ []) (out ++ r.piece) slots' after = record {
      stored = h.stored;
      opening = h.opening;
      is_opened = h.is_opened;
      runs = runs_more lines r.said new_table (begun_story (opened_state h.opening (store.opened db h.stored))) out (table_of slots) s r.piece (table_of slots') after h.runs r.run;
      go = r.go;
    } in
    record {
      said = r.said;
      says = says r.said r.says;
      piece = r.piece;
      told = r.told;
      run = r.run;
      ran = ran;
      serial = serial db (lines ++ r.said ∷ []) (out ++ r.piece) slots' after ran;
    }

module _ {Stands : State → Type 0} where
  pub so : {P Q : Story → Type 0} → StandsIn Stands P → ((s : Story) → P s → Q s) → StandsIn Stands Q
  so h f = record { story = h.story; stands = h.stands; holds = f h.story h.holds }

  -- the sessions may go on
  pub may_go : (slots : List Slot) → IsRunning Stands slots → StandsIn Stands (AllGo slots)
  may_go slots r = so r.so_far (λ s h. h.go)

  -- some lines were run, with one more
  pub runs_on : (db : Database) (lines : List Said) (out : List ℕ) (MaySay : Said → Type 0) (before : List Slot) (s : Story) (old new : List ℕ) (slots : List Slot) → StandsIn Stands (RanOneMore db lines out MaySay before s old new slots) → IsRunning Stands slots
  runs_on db lines out MaySay before s old new slots h = record { db = db; lines = lines ++ h.holds.said ∷ []; out = out ++ h.holds.piece; so_far = record { story = h.story; stands = h.stands; holds = h.holds.ran } }

-- what a line asks for was run
pub line_ran : {A E : Type 0} (r : Result A E) (Before Now : State → Type 0) (slots slots' : List Slot) (asked : Request) (MaySay : Said → Type 0) (old new : List ℕ) → ((said : Said) → SaysSo asked said → MaySay said)
    → OnOk r ((s : Story) → Before s.state → AllGo slots s → StandsIn Now (RanLine asked s slots old slots' new)) → (s : Story) (db : Database) (lines : List Said) (out : List ℕ) → Before s.state → HasRun db lines out slots s
    → OnOk r (StandsIn Now (RanOneMore db lines out MaySay slots s old new slots'))
line_ran (Ok x) Before Now slots slots' asked MaySay old new says ran s db lines out st h = so (ran s st h.go) (λ after r. one_more db lines out slots slots' asked MaySay old new s after says h r)
line_ran (Err x) Before Now slots slots' asked MaySay old new says ran s db lines out st h = tt

-- steps led to where a line was run
pub ran_leads : (Now : State → Type 0) (db : Database) (lines : List Said) (out : List ℕ) (MaySay : Said → Type 0) (slots slots' : List Slot) (s : Story) (old new : List ℕ) → StandsIn Now (RanOneMore db lines out MaySay slots s old new slots') → StandsIn Now (Leads s)
ran_leads Now db lines out MaySay slots slots' s old new h = so h (λ after r. line_leads r.said (table_of slots) s r.piece (table_of slots') after r.run)

-- what holds anyhow
pub on_error : {A E X : Type 0} (r : Result A E) → X → OnErr r X
on_error (Ok a) x = tt
on_error (Err e) x = x

-- a line lacked memory for its answer
pub lost_at : {A E : Type 0} (r : Result A E) (Before Now : State → Type 0) (slots : List Slot) → OnErr r ((s : Story) → Before s.state → AllGo slots s → StandsIn Now (Leads s)) → (s : Story) (db : Database) (lines : List Said) (out : List ℕ) → Before s.state → HasRun db lines out slots s
    → OnErr r (StandsIn Now (Leads s))
lost_at (Ok x) Before Now slots lost s db lines out st h = tt
lost_at (Err x) Before Now slots lost s db lines out st h = lost s st h.go

-- what it printed was put behind what waits
pub moved_behind : (Now : State → Type 0) (db : Database) (lines : List Said) (out : List ℕ) (MaySay : Said → Type 0) (slots slots' : List Slot) (s : Story) (empty text piece waiting new : List ℕ) → empty ≡ [] → piece ≡ text
    → new ≡ waiting ++ piece → StandsIn Now (RanOneMore db lines out MaySay slots s empty text slots') → StandsIn Now (RanOneMore db lines out MaySay slots s waiting new slots')
moved_behind Now db lines out MaySay slots slots' s empty text piece waiting new none same added h = so h (λ after r. record {
  said = r.said;
  says = r.says;
  piece = r.piece;
  told = added ∙ ap (λ (xs : List ℕ). waiting ++ xs) (same ∙ r.told ∙ ap (λ (xs : List ℕ). xs ++ r.piece) none);
  run = r.run;
  ran = r.ran;
  serial = r.serial;
})

-- no line was run yet
abbrev pub beginning : {Stands : State → Type 0} → WasOpened Stands → Story
beginning o = begun_story (opened_state o.opening (store.opened o.db o.stored))

pub no_lines : (Stands : State → Type 0) (o : WasOpened Stands) (slots : List Slot) → table_of slots ≡ new_table → GoFirst slots → HasRun o.db [] [] slots (beginning o)
no_lines Stands o slots table go = record { stored = o.stored; opening = o.opening; is_opened = o.is_opened; runs = (refl, table, refl); go = go o.db o.stored o.opening o.is_opened }

pub just_opened : (Stands : State → Type 0) → WasOpened Stands → (slots : List Slot) → table_of slots ≡ new_table → GoFirst slots → IsRunning Stands slots
just_opened Stands o slots table go = record {
  db = o.db;
  lines = [];
  out = [];
  so_far = record { story = beginning o; stands = o.stands; holds = no_lines Stands o slots table go };
}

-- ---- the end of the input

pub at_rest : {Before Now : State → Type 0} (slots : List Slot) → IsRunning Before slots
    → ((s : Story) → Before s.state → AllGo slots s → StandsIn Now (LeaveAll DoesOf the_programs the_tell seen_of all_sessions (table_of slots) s)) → StandsIn Now Rests
at_rest slots r leaves =
    let i = r.so_far in
    let h = i.holds in
    let begun : Story = begun_story (opened_state h.opening (store.opened r.db h.stored)) in
    let reached : IsReachedStory begun = record { db = r.db; view = h.stored; opening = h.opening; was_opened = h.is_opened; steps = []; tells = refl } in
    let new : IsNew r.db (seen_of begun) = record { origin_is = refl; none_committed = refl; none_open = λ session. refl } in
    so (leaves i.story i.stands h.go) (λ after left. end_law seen_of DoesOf IsReachedStory IsStopped the_programs the_tell machine_laws (programs_law the_works works_law) (λ why. (told_engines [] None why).0) r.db r.lines begun after r.out
    reached new (record { table = table_of slots; last = i.story; of_lines = h.runs; leaves = left }))
