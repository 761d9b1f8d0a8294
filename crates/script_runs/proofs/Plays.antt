-- Scripts, played: what each line prints and what it leaves, all of which computes.
use Rattle.std.specs.Prelude.{ℕ, zero, suc, ◌+◌, nat_le, Bool, true, false, ◌&&◌, List, [], ◌∷◌, ◌++◌, length, Option, Some, None, Result, Ok, Err, codes}
use Rattle.std.specs.Str.{bytes_eq}
use Rattle.iv_types.specs.declared.refusal.Refusal.{Refusal}
use Rattle.iv_types.specs.declared.refusal.Refusal.TheVariants as refusal
use Rattle.iv_types.specs.declared.reply.Reply.{Reply}
use Rattle.iv_types.specs.declared.reply.Reply.TheVariants as reply
use Rattle.iv_types.specs.Syntax.{StatementTree}
use Rattle.iv_meaning.specs.Reply.{reply_lines}
use Rattle.iv_meaning.specs.Said.{Said, nothing, too_long, bad, runs, loads, unread, steps, cleans, checkpoints}
use Rattle.txn_machine.specs.Acts as act
use Rattle.txn_machine.specs.Acts.{Act}
use Rattle.txn_machine.specs.Answers as answer
use Rattle.txn_machine.specs.Answers.{Answer}
use Rattle.txn_machine.specs.Keeping.{Open}
use Rattle.txn_machine.proofs.PlainStates.{Plain}
use Rattle.txn_machine.proofs.Playing.{is_in_order, test, said_of, after}
use Rattle.script_law.specs.Seen.{Event, Waits, event}
use Rattle.script_law.specs.Programs.{Standing, Todo, says, asks, ghosts, Programs}
use Rattle.script_law.specs.RunLines.{Line, idle, waiting, stepping, held, AtTable, Table, set_seat, new_table, Outcome, ended, stuck, stepped, printed, seat_run, seat_stepped, printed_later, next_of, outcome_of, all_sessions, counted_line}
use Rattle.script_law.specs.Machine.{kept_seen}
use Rattle.script_law.specs.Sessions.{programs_of}
use Rattle.statement_law.specs.Statements.{the_works}
use Rattle.script_runs.proofs.Choosing.{Chosen, chosen, none, choose}

abbrev pub programs : Programs
programs = programs_of the_works

-- ---- steps

-- a step that passes its test, and what follows by its answer
abbrev pub doing : {X : Type 0} (p : Plain) (i : ℕ) (a : Act) → Chosen a → (Answer → Plain → X) → X → X
doing p i a none next lost = lost
doing p i a (chosen m e) next lost = elim (is_in_order p && (nat_le i 64 && test p i m)) [ true ↦ next (said_of p i m) (after p i m) | false ↦ lost ]

-- how far a statement came
pub record Came : Type 0 where
  pub passes : Bool
  pub moved : ℕ
  pub outcome : Outcome
  pub left : Plain

abbrev pub fails : Todo → Plain → Came
fails todo p = record { passes = false; moved = 0; outcome = stepped todo; left = p }

abbrev pub at_rest : Outcome → Plain → Came
at_rest o p = record { passes = true; moved = 0; outcome = o; left = p }

abbrev pub one_more : Came → Came
one_more c = record { passes = c.passes; moved = c.moved + 1; outcome = c.outcome; left = c.left }

abbrev pub goes_by : Event → Todo → Todo → Plain → (Todo → Plain → Came) → Came
goes_by (Waits sessions) todo next p More = at_rest (stuck sessions todo) p
goes_by e todo next p More = one_more (More next p)

abbrev pub moves : ℕ → (a : Act) → Todo → Plain → (Todo → Plain → Came) → Came
moves i a todo p More = doing p i a (choose p i a) (λ said q. goes_by (event a said) todo (next_of todo said true) q More) (fails todo p)

-- so many steps at most
abbrev pub advance : ℕ → ℕ → Todo → Plain → Came
advance zero i todo p = fails todo p
advance (suc n) i (says replies standing) p = at_rest (ended replies standing) p
advance (suc n) i (asks a f) p = moves i a (asks a f) p (advance n i)
advance (suc n) i (ghosts f) p = moves i act.Ghost (ghosts f) p (advance n i)

abbrev pub one_step : ℕ → (a : Act) → Todo → Plain → Came
one_step i a todo p = doing p i a (choose p i a) (λ said q. at_rest (outcome_of (event a said) todo (next_of todo said true)) q) (fails todo p)

abbrev pub once : ℕ → Todo → Plain → Came
once i (says replies standing) p = at_rest (ended replies standing) p
once i (asks a f) p = one_step i a (asks a f) p
once i (ghosts f) p = one_step i act.Ghost (ghosts f) p

-- ---- lines

-- what is printed and left
pub record Went : Type 0 where
  pub passes : Bool
  pub out : List ℕ
  pub table : Table
  pub left : Plain

abbrev pub lost : Table → Plain → Went
lost table p = record { passes = false; out = []; table = table; left = p }

abbrev pub prints : List ℕ → Table → Plain → Went
prints out table p = record { passes = true; out = out; table = table; left = p }

abbrev pub tells : ℕ → Reply → Table → Plain → Went
tells session r table p = prints (reply_lines session (r ∷ [])) table p

abbrev pub comes : ℕ → (Outcome → AtTable) → Table → Came → Went
comes session seat table c = record { passes = c.passes; out = printed session c.outcome; table = set_seat table session (seat c.outcome); left = c.left }

-- a statement does no more steps
abbrev pub most : ℕ
most = 99

abbrev pub runs_it : ℕ → StatementTree → Standing → Table → Plain → Went
runs_it session statement standing table p = comes session seat_run table (advance most session (programs.start standing statement) p)

abbrev pub loads_it : ℕ → StatementTree → Standing → Table → Plain → Went
loads_it session statement standing table p = comes session seat_stepped table (at_rest (stepped (programs.start standing statement)) p)

abbrev pub unless_refused : ℕ → Option Refusal → (Table → Plain → Went) → Table → Plain → Went
unless_refused session (Some why) goes table p = tells session (reply.Error why) table p
unless_refused session None goes table p = goes table p

abbrev pub given : ℕ → Standing → Line → Result StatementTree Refusal → (StatementTree → Standing → Table → Plain → Went) → Table → Plain → Went
given session standing idle (Err why) goes table p = tells session (reply.Error why) table p
given session standing idle (Ok statement) goes table p = unless_refused session (programs.refuses standing statement) (goes statement standing) table p
given session standing line read goes table p = tells session (reply.Error refusal.SessionWaiting) table p

abbrev pub steps_it : ℕ → Line → Table → Plain → Went
steps_it session (stepping todo) table p = comes session seat_stepped table (once session todo p)
steps_it session (held todo) table p = comes session seat_stepped table (once session todo p)
steps_it session line table p = tells 0 (reply.Error refusal.BadLine) table p

-- how many ghosts were removed
pub record Swept : Type 0 where
  pub passes : Bool
  pub removed : ℕ
  pub left : Plain

abbrev pub not_swept : Plain → Swept
not_swept p = record { passes = false; removed = 0; left = p }

abbrev pub swept_by : ℕ → Answer → Plain → (ℕ → Plain → Swept) → Swept
swept_by removed (answer.Cleaned zero) p More = record { passes = true; removed = removed; left = p }
swept_by removed (answer.Cleaned (suc zero)) p More = More (removed + 1) p
swept_by removed said p More = not_swept p

abbrev pub sweeps : ℕ → ℕ → Plain → Swept
sweeps zero removed p = not_swept p
sweeps (suc n) removed p = doing p 0 act.Clean (choose p 0 act.Clean) (λ said q. swept_by removed said q (sweeps n)) (not_swept p)

abbrev pub pruned_by : Answer → Plain → Swept
pruned_by answer.Pruned p = sweeps most 0 p
pruned_by said p = not_swept p

abbrev pub cleans_it : Plain → Swept
cleans_it p = doing p 0 act.Prune (choose p 0 act.Prune) pruned_by (not_swept p)

abbrev pub tells_swept : Table → Swept → Went
tells_swept table s = record { passes = s.passes; out = counted_line (codes "CLEAN") s.removed; table = table; left = s.left }

abbrev pub saved_by : Table → Answer → Plain → Went
saved_by table (answer.Saved number) p = prints (counted_line (codes "CHECKPOINT") number) table p
saved_by table said p = lost table p

abbrev pub does_line : Said → Table → Plain → Went
does_line nothing table p = prints [] table p
does_line too_long table p = tells 0 (reply.Error refusal.LineTooLong) table p
does_line bad table p = tells 0 (reply.Error refusal.BadLine) table p
does_line (runs session read) table p = given session (table session).standing (table session).line read (runs_it session) table p
does_line (loads session read) table p = given session (table session).standing (table session).line read (loads_it session) table p
does_line (unread session) table p = tells session (reply.Error refusal.NoMemory) table p
does_line (steps session) table p = steps_it session (table session).line table p
does_line cleans table p = tells_swept table (cleans_it p)
does_line checkpoints table p = doing p 0 act.Checkpoint (choose p 0 act.Checkpoint) (saved_by table) (lost table p)

-- ---- sessions that are tried again

pub record Passed : Type 0 where
  pub moved : ℕ
  pub went : Went

abbrev pub joined : ℕ → Came → Passed → Passed
joined n c w = record {
  moved = c.moved + w.moved;
  went = record { passes = c.passes && w.went.passes; out = printed_later n c.outcome ++ w.went.out; table = w.went.table; left = w.went.left };
}

abbrev pub tried : ℕ → Table → (Table → Plain → Passed) → Came → Passed
tried n table More c = joined n c (More (set_seat table n (seat_run c.outcome)) c.left)

abbrev pub tries : ℕ → Line → (Table → Plain → Passed) → Table → Plain → Passed
tries n (waiting todo) More table p = tried n table More (advance most n todo p)
tries n line More table p = More table p

abbrev pub pass : List ℕ → Table → Plain → Passed
pass [] table p = record { moved = 0; went = prints [] table p }
pass (n ∷ ns) table p = tries n (table n).line (pass ns) table p

abbrev pub then : Went → Went → Went
then one other = record { passes = one.passes && other.passes; out = one.out ++ other.out; table = other.table; left = other.left }

-- another pass where some step was not blocked
abbrev pub again : ℕ → Went → (Table → Plain → Went) → Went
again zero w More = w
again (suc moved) w More = then w (More w.table w.left)

abbrev pub again_by : Passed → (Table → Plain → Went) → Went
again_by w More = again w.moved w.went More

abbrev pub passes_on : ℕ → Table → Plain → Went
passes_on zero table p = lost table p
passes_on (suc n) table p = again_by (pass all_sessions table p) (passes_on n)

-- ---- scripts

abbrev pub goes_on : Went → (Table → Plain → Went) → Went
goes_on w More = then w (More w.table w.left)

abbrev pub whole_line : Said → Table → Plain → Went
whole_line said table p = goes_on (does_line said table p) (passes_on most)

abbrev pub whole_lines : List Said → Table → Plain → Went
whole_lines [] table p = prints [] table p
whole_lines (said ∷ more) table p = goes_on (whole_line said table p) (whole_lines more)

-- ---- the end of the input

pub record Gone : Type 0 where
  pub passes : Bool
  pub left : Plain

abbrev pub not_gone : Plain → Gone
not_gone p = record { passes = false; left = p }

abbrev pub gone : Plain → Gone
gone p = record { passes = true; left = p }

abbrev pub ended_by : Answer → Plain → Gone
ended_by answer.Ended p = gone p
ended_by said p = not_gone p

abbrev pub undone_by : Answer → Plain → (Plain → Gone) → Gone
undone_by (answer.Undone left) p More = More p
undone_by said p More = not_gone p

abbrev pub rolls : ℕ → ℕ → Plain → Gone
rolls i zero p = doing p i act.End (choose p i act.End) ended_by (not_gone p)
rolls i (suc n) p = doing p i act.UndoOne (choose p i act.UndoOne) (λ said q. undone_by said q (rolls i n)) (not_gone p)

-- what a session leaves open
abbrev pub open_in : AtTable → Option Open → Option Open
open_in seat t = elim seat.line [
  | idle ↦ elim seat.standing.mode [ None ↦ None | Some mode ↦ t ]
  | waiting todo ↦ t
  | stepping todo ↦ t
  | held todo ↦ t
]

abbrev pub leaves_idle : ℕ → Option Open → Plain → Gone
leaves_idle i None p = gone p
leaves_idle i (Some t) p = rolls i (length (kept_seen t.kept)) p

abbrev pub cancels_first : ℕ → Option Open → Plain → Gone
cancels_first i t p = doing p i act.Cancel (choose p i act.Cancel) (λ said q. leaves_idle i t q) (not_gone p)

abbrev pub leaves_by : ℕ → Line → Option Open → Plain → Gone
leaves_by i idle t p = leaves_idle i t p
leaves_by i (waiting todo) t p = cancels_first i t p
leaves_by i (stepping todo) t p = leaves_idle i t p
leaves_by i (held todo) t p = cancels_first i t p

abbrev pub and_then : Gone → (Plain → Gone) → Gone
and_then g More = let h : Gone = More g.left in record { passes = g.passes && h.passes; left = h.left }

abbrev pub leave_all : List ℕ → Table → Plain → Gone
leave_all [] table p = gone p
leave_all (n ∷ ns) table p = and_then (leaves_by n (table n).line (open_in (table n) (p.of.store.open_of n)) p) (leave_all ns table)

-- ---- a script's output

abbrev pub went_so : List ℕ → Went → Bool
went_so out w = w.passes && (bytes_eq w.out out && (leave_all all_sessions w.table w.left).passes)

abbrev pub plays : Plain → List Said → List ℕ → Bool
plays p lines out = went_so out (whole_lines lines new_table p)
