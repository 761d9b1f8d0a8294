-- The world that is known by the lines, the table of sessions and what is seen of the engine agree.
use Rattle.std.specs.Prelude.{◌≡◌, ◌≢◌, ℕ, Bool, IsTrue, List, [], ◌∷◌, Option, Some, None}
use mathlib.Core.Path.{sym, subst, ◌∙◌}
use Rattle.table_laws.proofs.Stored.{by_session}
use Rattle.iv_types.specs.Syntax.{StatementTree}
use Rattle.iv_meaning.specs.Schema.{Schema}
use Rattle.iv_meaning.specs.Database.{Database}
use Rattle.iv_meaning.specs.Serial.{World, Unended, Unfinished, none, waits, loaded, base_of, WasAlone}
use Rattle.txn_machine.specs.Deltas.{RowChange}
use Rattle.script_law.specs.Seen.{Event, Begins, Finds, FindsThen, Changes, Pays, TakesBack, Ends, Commits, Txn, taken_back, but_latest, owed_again, is_pay, Visible, visible_after, history_after, open_after, committed, base, IsTruthful}
use Rattle.script_law.specs.Programs.{Standing, outside_with, Todo, Job, Serves, Starts, IsOf, IsAt, IsOut, Grows, next_txn}
use Rattle.script_law.specs.RunLines.{Line, idle, waiting, stepping, held, AtTable, Table, set_seat}
use Rattle.script_law.proofs.Basics.{if_same, if_other, base_same, IsQuiet}
use Rattle.script_law.proofs.Growing.{grows_by, step_grows}

-- ---- one session

abbrev pub job : StatementTree → Option Unended → ℕ → Schema → Job
job statement run number copy = record { statement = statement; before = run; number = number; copy = copy }

-- between two statements
abbrev pub Between : Schema → Bool → Option Unended → Standing → Option Txn → Type 0
Between objects stopped None standing t = IsOut stopped t × (standing ≡ outside_with standing.copy) × Grows standing.copy objects
Between objects stopped (Some o) standing None = ⊥
Between objects stopped (Some o) standing (Some t) = IsAt stopped o t standing

-- within one
abbrev pub Within : Option Unended → Option Txn → Type 0
Within None t = Unit {0}
Within (Some o) None = ⊥
Within (Some o) (Some t) = IsOf o t

abbrev pub Under : Schema → Bool → Option Unended → StatementTree → ℕ → Todo → Option Txn → Type 0
Under objects stopped run statement number todo t = (copy : Schema) × Grows copy objects × Serves stopped (job statement run number copy) t todo × Within run t

abbrev pub SeatAgrees : Schema → Bool → Option Unended → Unfinished → Standing → Line → Option Txn → Type 0
SeatAgrees objects stopped run none standing idle t = Between objects stopped run standing t
SeatAgrees objects stopped run (waits statement number) standing (waiting todo) t = Under objects stopped run statement number todo t
SeatAgrees objects stopped run (loaded statement None) standing (stepping todo) t =
    (copy : Schema) × Grows copy objects × ((number : ℕ) → Starts stopped (job statement run number copy) t todo) × Within run t
SeatAgrees objects stopped run (loaded statement (Some number)) standing (stepping todo) t = Under objects stopped run statement number todo t
SeatAgrees objects stopped run (loaded statement (Some number)) standing (held todo) t = Under objects stopped run statement number todo t
SeatAgrees objects stopped run _ standing _ t = ⊥

-- whether the session knows that the engine is stopped, which is so then
abbrev pub SeatIs : Schema → Type 0 → Option Unended → Unfinished → Standing → Line → Option Txn → Type 0
SeatIs objects H run left standing line t = (stopped : Bool) × (IsTrue stopped → H) × SeatAgrees objects stopped run left standing line t

-- ---- all sessions

abbrev pub objects_in : Visible → Schema
objects_in v = (committed v).schema

pub record Agrees (w : World) (table : Table) (v : Visible) (H : Type 0) : Type 0 where
  pub origin : w.origin ≡ v.origin
  pub history : w.history ≡ v.history
  pub seats : (j : ℕ) → SeatIs (objects_in v) H (w.running j) (w.unfinished j) (table j).standing (table j).line (v.open_of j)

-- all but one
pub record Others (i : ℕ) (w : World) (table : Table) (v : Visible) (H : Type 0) : Type 0 where
  pub origin : w.origin ≡ v.origin
  pub history : w.history ≡ v.history
  pub seats : (j : ℕ) → j ≢ i → SeatIs (objects_in v) H (w.running j) (w.unfinished j) (table j).standing (table j).line (v.open_of j)

pub others_of : (i : ℕ) (w : World) (table : Table) (v : Visible) (H : Type 0) → Agrees w table v H → Others i w table v H
others_of i w table v H h = record { origin = h.origin; history = h.history; seats = λ j n. h.seats j }

agrees_later : (objects objects' : Schema) → Grows objects objects' → (stopped : Bool) (run : Option Unended) (u : Unfinished) (standing : Standing) (line : Line) (t : Option Txn)
    → SeatAgrees objects stopped run u standing line t → SeatAgrees objects' stopped run u standing line t
agrees_later objects objects' g stopped None none standing idle t h = (h.0, h.1, grows_by standing.copy objects objects' h.2 g)
agrees_later objects objects' g stopped (Some o) none standing idle None h = h
agrees_later objects objects' g stopped (Some o) none standing idle (Some t) h = h
agrees_later objects objects' g stopped run (waits statement number) standing (waiting todo) t h = (h.0, grows_by h.0 objects objects' h.1 g, h.2, h.3)
agrees_later objects objects' g stopped run (loaded statement None) standing (stepping todo) t h = (h.0, grows_by h.0 objects objects' h.1 g, h.2, h.3)
agrees_later objects objects' g stopped run (loaded statement (Some number)) standing (stepping todo) t h = (h.0, grows_by h.0 objects objects' h.1 g, h.2, h.3)
agrees_later objects objects' g stopped run (loaded statement (Some number)) standing (held todo) t h = (h.0, grows_by h.0 objects objects' h.1 g, h.2, h.3)
agrees_later objects objects' g stopped run _ standing _ t h = absurd h

pub lasting : (objects objects' : Schema) {H H' : Type 0} → Grows objects objects' → (run : Option Unended) (u : Unfinished) (standing : Standing) (line : Line) (t : Option Txn) → (H → H')
    → SeatIs objects H run u standing line t → SeatIs objects' H' run u standing line t
lasting objects objects' g run u standing line t k x = (x.0, λ e. k (x.1 e), agrees_later objects objects' g x.0 run u standing line t x.2)

-- a step of the session leaves the others
pub others_step : (i : ℕ) (w : World) (table : Table) (v : Visible) (H H' : Type 0) (e : Event) → (H → H') → history_after v i e ≡ v.history → Others i w table v H
    → Others i w table (visible_after v i e) H'
others_step i w table v H H' e lasts same h = record {
  origin = h.origin;
  history = h.history ∙ sym same;
  seats = λ j n. lasting (objects_in v) (objects_in (visible_after v i e)) (step_grows v i e) (w.running j) (w.unfinished j) (table j).standing (table j).line ((visible_after v i e).open_of j) lasts
      (subst (SeatIs (objects_in v) H (w.running j) (w.unfinished j) (table j).standing (table j).line) (sym (if_other j i (open_after v (v.open_of i) e) (v.open_of j) n)) (h.seats j n));
}

pub own_step : (i : ℕ) (v : Visible) (e : Event) → (visible_after v i e).open_of i ≡ open_after v (v.open_of i) e
own_step i v e = if_same i (open_after v (v.open_of i) e) (v.open_of i)

seat_is : (objects : Schema) (H : Type 0) {r r' : Option Unended} {u u' : Unfinished} {t t' : Option Txn} (standing : Standing) (line : Line) → r ≡ r' → u ≡ u' → t ≡ t'
    → SeatIs objects H r' u' standing line t' → SeatIs objects H r u standing line t
seat_is objects H standing line er eu et h = subst (λ x. x) (λ k. SeatIs objects H (sym er k) (sym eu k) standing line (sym et k)) h

-- the session's own seat too
pub record Closing (i : ℕ) (w : World) (v : Visible) (H : Type 0) (seat : AtTable) (w' : World) (v' : Visible) (H' : Type 0) : Type 0 where
  pub lasts : H → H'
  pub grows : Grows (objects_in v) (objects_in v')
  pub origin : w'.origin ≡ v'.origin
  pub history : w'.history ≡ v'.history
  pub running : (j : ℕ) → j ≢ i → w'.running j ≡ w.running j
  pub unfinished : (j : ℕ) → j ≢ i → w'.unfinished j ≡ w.unfinished j
  pub opened : (j : ℕ) → j ≢ i → v'.open_of j ≡ v.open_of j
  pub run : Option Unended
  pub left : Unfinished
  pub txn : Option Txn
  pub run_is : w'.running i ≡ run
  pub left_is : w'.unfinished i ≡ left
  pub txn_is : v'.open_of i ≡ txn
  pub agrees : SeatIs (objects_in v') H' run left seat.standing seat.line txn

pub close : (i : ℕ) (w : World) (table : Table) (v : Visible) (H : Type 0) (seat : AtTable) (w' : World) (v' : Visible) (H' : Type 0) → Others i w table v H → Closing i w v H seat w' v' H' → Agrees w' (set_seat table i seat) v' H'
close i w table v H seat w' v' H' h c = record {
  origin = c.origin;
  history = c.history;
  seats = λ j. by_session j i
      (λ e. subst (λ (k : ℕ). SeatIs objects H' (w'.running k) (w'.unfinished k) (set_seat table i seat k).standing (set_seat table i seat k).line (v'.open_of k)) (sym e)
      (subst (λ (x : AtTable). SeatIs objects H' (w'.running i) (w'.unfinished i) x.standing x.line (v'.open_of i)) (sym (if_same i seat (table i)))
      (seat_is objects H' seat.standing seat.line c.run_is c.left_is c.txn_is c.agrees)))
      (λ n. subst (λ (x : AtTable). SeatIs objects H' (w'.running j) (w'.unfinished j) x.standing x.line (v'.open_of j)) (sym (if_other j i seat (table j) n))
      (seat_is objects H' (table j).standing (table j).line (c.running j n) (c.unfinished j n) (c.opened j n)
      (lasting (objects_in v) objects c.grows (w.running j) (w.unfinished j) (table j).standing (table j).line (v.open_of j) c.lasts (h.seats j n))));
}
  where
    objects : Schema
    objects = objects_in v'

-- ---- within a statement

-- what was told before a step is so where all is
before_back : (kept : List (Option RowChange)) (t : Txn) (db : Database) → IsTruthful db (record t { told = taken_back kept t.told; kept = but_latest kept; owed = owed_again kept t.owed; is_back = is_pay kept }) → IsTruthful db t
before_back [] t db h = record { sound = h.sound; schema = h.schema; told = h.told }
before_back (Some c ∷ ks) t db h = record { sound = h.sound; schema = h.schema; told = h.told.1 }
before_back (None ∷ ks) t db h = record { sound = h.sound; schema = h.schema; told = h.told }

pub within_after : (run : Option Unended) (t : Option Txn) (e : Event) → IsQuiet e → Within run t → Within run (next_txn t e)
within_after None t e q h = tt
within_after (Some o) None e q h = absurd h
within_after (Some o) (Some t) (Begins mode number defs) q h = absurd q
within_after (Some o) (Some t) Ends q h = absurd q
within_after (Some o) (Some t) (Commits number) q h = absurd q
within_after (Some o) (Some t) (Finds index interval rows) q h =
    record { mode_is = h.mode_is; number_is = h.number_is; told = λ db all. h.told db (record { sound = all.sound; schema = all.schema; told = all.told.1 }) }
within_after (Some o) (Some t) (FindsThen index interval rows) q h =
    record { mode_is = h.mode_is; number_is = h.number_is; told = λ db all. h.told db (record { sound = all.sound; schema = all.schema; told = all.told.1 }) }
within_after (Some o) (Some t) (Changes place new before owed) q h =
    record { mode_is = h.mode_is; number_is = h.number_is; told = λ db all. h.told db (record { sound = all.sound; schema = all.schema; told = all.told.1 }) }
within_after (Some o) (Some t) Pays q h =
    record { mode_is = h.mode_is; number_is = h.number_is; told = λ db all. h.told db (record { sound = all.sound; schema = all.schema; told = all.told }) }
within_after (Some o) (Some t) TakesBack q h = record { mode_is = h.mode_is; number_is = h.number_is; told = λ db all. h.told db (before_back t.kept t db all) }
within_after (Some o) (Some t) _ q h = h

pub between_within : (objects : Schema) (stopped : Bool) (run : Option Unended) (standing : Standing) (t : Option Txn) → Between objects stopped run standing t → Within run t
between_within objects stopped None standing t h = tt
between_within objects stopped (Some o) standing None h = h
between_within objects stopped (Some o) standing (Some t) h = h.is

pub seat_within : (objects : Schema) (stopped : Bool) (run : Option Unended) (u : Unfinished) (standing : Standing) (line : Line) (t : Option Txn)
    → SeatAgrees objects stopped run u standing line t → Within run t
seat_within objects stopped run none standing idle t h = between_within objects stopped run standing t h
seat_within objects stopped run (waits statement number) standing (waiting todo) t h = h.3
seat_within objects stopped run (loaded statement None) standing (stepping todo) t h = h.3
seat_within objects stopped run (loaded statement (Some number)) standing (stepping todo) t h = h.3
seat_within objects stopped run (loaded statement (Some number)) standing (held todo) t h = h.3
seat_within objects stopped run _ standing _ t h = absurd h

-- what it was told is what its statements are told alone
pub was_alone : (w : World) (v : Visible) (o : Unended) (t : Txn) → w.origin ≡ v.origin → w.history ≡ v.history → IsOf o t → IsTruthful (base v t) t → WasAlone w o
was_alone w v o t origin history is truth = is.told (base_of w o) (subst (λ db. IsTruthful db t) (base_same w v o t origin history is.mode_is is.number_is) truth)
