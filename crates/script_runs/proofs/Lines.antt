-- Lines that are played are run, with the passes behind them.
use Rattle.std.specs.Prelude.{◌≡◌, ℕ, zero, suc, ◌+◌, T, List, [], ◌∷◌, Option, Some, None, Result, Ok, Err}
use mathlib.Core.Path.{refl, subst}
use Rattle.std.proofs.Common.{arith}
use Rattle.iv_types.specs.declared.refusal.Refusal.{Refusal}
use Rattle.iv_types.specs.declared.refusal.Refusal.TheVariants as refusal
use Rattle.iv_types.specs.declared.reply.Reply.{Reply}
use Rattle.iv_types.specs.declared.reply.Reply.TheVariants as reply
use Rattle.iv_types.specs.Syntax.{StatementTree}
use Rattle.iv_meaning.specs.Said.{Said, nothing, too_long, bad, runs, loads, unread, steps, cleans, checkpoints}
use Rattle.txn_machine.specs.Acts as act
use Rattle.txn_machine.specs.Answers as answer
use Rattle.txn_machine.specs.Answers.{Answer}
use Rattle.txn_machine.proofs.PlainStates.{Plain}
use Rattle.txn_machine.proofs.Testing.{left_one, right_one}
use Rattle.script_law.specs.Programs.{Standing, Todo}
use Rattle.script_law.specs.RunLines.{Line, idle, waiting, stepping, held, Table, set_seat, seat_run, seat_stepped, all_removed, Tells, Rel, RefusedOr, Given, RunsIt, LoadsIt, Stepped, Cleans, cleaned_all, cleaned_one, CleansLine, pruned, saved, Own, Tries, Pass, Passes, RunsLine, RunsLines, all_sessions}
use Rattle.script_law.specs.Machine.{DoesOf}
use Rattle.statement_law.specs.Telling.{tell}
use Rattle.script_runs.proofs.Choosing.{choose}
use Rattle.script_runs.proofs.Plays.{lost, programs, Came, advance, once, Went, tells, comes, most, runs_it, loads_it, unless_refused, given, steps_it, Swept, not_swept, swept_by, sweeps, pruned_by, cleans_it, saved_by, does_line, Passed, tries, pass, again, passes_on, whole_line, whole_lines}
use Rattle.script_runs.proofs.Steps.{Told, story, told_then, IsStep, doing_so, advance_so, once_so}

-- ---- what a line does itself

-- the play of something that relates tables and states is so
abbrev pub IsSo : Rel DoesOf programs (tell [] None) → Table → Plain → Went → Type 0
IsSo R table p w = T w.passes → (told : Told) → (later : Told) × R table (story p told) w.out w.table (story w.left later)

tells_so : (session : ℕ) (r : Reply) (table : Table) (p : Plain) → IsSo (Tells DoesOf programs (tell [] None) session r) table p (tells session r table p)
tells_so session r table p h told = (told, record { told = refl; table_left = refl; left = refl })

runs_so : (session : ℕ) (statement : StatementTree) (standing : Standing) (table : Table) (p : Plain)
    → IsSo (RunsIt DoesOf programs (tell [] None) session statement standing) table p (runs_it session statement standing table p)
runs_so session statement standing table p h told =
    let c : Came = advance most session (programs.start standing statement) p in
    let r = advance_so most session (programs.start standing statement) p h told in
    (r.0, (c.moved, c.outcome, r.1, record { told = refl; seat = refl }))

loads_so : (session : ℕ) (statement : StatementTree) (standing : Standing) (table : Table) (p : Plain)
    → IsSo (LoadsIt DoesOf programs (tell [] None) session statement standing) table p (loads_it session statement standing table p)
loads_so session statement standing table p h told = (told, (refl, record { told = refl; seat = refl }))

-- a statement's line
abbrev pub Play : Type 0
Play = StatementTree → Standing → Table → Plain → Went

module _ (session : ℕ) (Goes : StatementTree → Standing → Rel DoesOf programs (tell [] None)) (goes : Play)
    (all : (statement : StatementTree) (standing : Standing) (table : Table) (p : Plain) → IsSo (Goes statement standing) table p (goes statement standing table p)) where
  refused_so : (o : Option Refusal) (statement : StatementTree) (standing : Standing) (table : Table) (p : Plain)
      → IsSo (RefusedOr DoesOf programs (tell [] None) session o (Goes statement standing)) table p (unless_refused session o (goes statement standing) table p)
  refused_so (Some why) statement standing table p = tells_so session (reply.Error why) table p
  refused_so None statement standing table p = all statement standing table p

  given_so : (standing : Standing) (line : Line) (read : Result StatementTree Refusal) (table : Table) (p : Plain)
      → IsSo (Given DoesOf programs (tell [] None) session standing line read Goes) table p (given session standing line read goes table p)
  given_so standing idle (Err why) table p = tells_so session (reply.Error why) table p
  given_so standing idle (Ok statement) table p = refused_so (programs.refuses standing statement) statement standing table p
  given_so standing (waiting todo) (Err why) table p = tells_so session (reply.Error refusal.SessionWaiting) table p
  given_so standing (waiting todo) (Ok statement) table p = tells_so session (reply.Error refusal.SessionWaiting) table p
  given_so standing (stepping todo) (Err why) table p = tells_so session (reply.Error refusal.SessionWaiting) table p
  given_so standing (stepping todo) (Ok statement) table p = tells_so session (reply.Error refusal.SessionWaiting) table p
  given_so standing (held todo) (Err why) table p = tells_so session (reply.Error refusal.SessionWaiting) table p
  given_so standing (held todo) (Ok statement) table p = tells_so session (reply.Error refusal.SessionWaiting) table p

stepped_so : (session : ℕ) (todo : Todo) (table : Table) (p : Plain) → T (comes session seat_stepped table (once session todo p)).passes → (told : Told)
    → (later : Told) × Stepped DoesOf programs (tell [] None) session (stepping todo) table (story p told) (comes session seat_stepped table (once session todo p)).out
    (comes session seat_stepped table (once session todo p)).table (story (once session todo p).left later)
stepped_so session todo table p h told =
    let c : Came = once session todo p in
    let r = once_so session todo p h told in
    (r.0, (c.outcome, r.1, record { told = refl; seat = refl }))

steps_so : (session : ℕ) (line : Line) (table : Table) (p : Plain) → IsSo (Stepped DoesOf programs (tell [] None) session line) table p (steps_it session line table p)
steps_so session idle table p = tells_so 0 (reply.Error refusal.BadLine) table p
steps_so session (waiting todo) table p = tells_so 0 (reply.Error refusal.BadLine) table p
steps_so session (stepping todo) table p = stepped_so session todo table p
steps_so session (held todo) table p = stepped_so session todo table p

-- ---- clean

abbrev SweepsTo : ℕ → Plain → Swept → Type 0
SweepsTo removed p s = T s.passes → (told : Told) → (later : Told) × Cleans DoesOf programs (tell [] None) removed (story p told) (all_removed s.removed) (story s.left later)

swept_so : (removed : ℕ) (p : Plain) (More : ℕ → Plain → Swept) → ((r : ℕ) (q : Plain) → SweepsTo r q (More r q)) → (said : Answer) (q : Plain) → IsStep p 0 act.Clean said q
    → SweepsTo removed p (swept_by removed said q More)
swept_so removed p More all (answer.Cleaned zero) q does h told = (told_then p told 0 act.Clean (answer.Cleaned 0), cleaned_all removed (story p told) (story q (told_then p told 0 act.Clean (answer.Cleaned 0))) (does told))
swept_so removed p More all (answer.Cleaned (suc zero)) q does h told =
    let mid : Told = told_then p told 0 act.Clean (answer.Cleaned 1) in
    let s : Swept = More (removed + 1) q in
    let r = all (removed + 1) q h mid in
    (r.0, cleaned_one removed (story p told) (story q mid) (story s.left r.0) (all_removed s.removed) (does told) r.1)
swept_so removed p More all (answer.Cleaned (suc (suc n))) q does h told = absurd h
swept_so removed p More all said q does h told = absurd h

sweeps_so : (n removed : ℕ) (p : Plain) → SweepsTo removed p (sweeps n removed p)
sweeps_so zero removed p h = absurd h
sweeps_so (suc n) removed p h = doing_so (SweepsTo removed p) p 0 act.Clean (choose p 0 act.Clean) (λ said q. swept_by removed said q (sweeps n)) (not_swept p)
    (swept_so removed p (sweeps n) (sweeps_so n)) (λ k. absurd k) h

abbrev CleansTo : Plain → Swept → Type 0
CleansTo p s = T s.passes → (told : Told) → (later : Told) × CleansLine DoesOf programs (tell [] None) (story p told) (all_removed s.removed) (story s.left later)

pruned_so : (p : Plain) (said : Answer) (q : Plain) → IsStep p 0 act.Prune said q → CleansTo p (pruned_by said q)
pruned_so p answer.Pruned q does h told =
    let mid : Told = told_then p told 0 act.Prune answer.Pruned in
    let s : Swept = sweeps most 0 q in
    let r = sweeps_so most 0 q h mid in
    (r.0, pruned (story p told) (story q mid) (story s.left r.0) (all_removed s.removed) (does told) r.1)
pruned_so p said q does h told = absurd h

cleans_so : (p : Plain) → CleansTo p (cleans_it p)
cleans_so p = doing_so (CleansTo p) p 0 act.Prune (choose p 0 act.Prune) pruned_by (not_swept p) (pruned_so p) (λ k. absurd k)

-- ---- checkpoint

saved_so : (table : Table) (p : Plain) (said : Answer) (q : Plain) → IsStep p 0 act.Checkpoint said q → IsSo (Own DoesOf programs (tell [] None) checkpoints) table p (saved_by table said q)
saved_so table p (answer.Saved number) q does h told =
    (told_then p told 0 act.Checkpoint (answer.Saved number), (refl, saved (story p told) (story q (told_then p told 0 act.Checkpoint (answer.Saved number))) number (does told)))
saved_so table p said q does h told = absurd h

-- ---- every line

does_so : (said : Said) (table : Table) (p : Plain) → IsSo (Own DoesOf programs (tell [] None) said) table p (does_line said table p)
does_so nothing table p h told = (told, record { told = refl; table_left = refl; left = refl })
does_so too_long table p h told = tells_so 0 (reply.Error refusal.LineTooLong) table p h told
does_so bad table p h told = tells_so 0 (reply.Error refusal.BadLine) table p h told
does_so (runs session read) table p h told =
    given_so session (RunsIt DoesOf programs (tell [] None) session) (runs_it session) (runs_so session) (table session).standing (table session).line read table p h told
does_so (loads session read) table p h told =
    given_so session (LoadsIt DoesOf programs (tell [] None) session) (loads_it session) (loads_so session) (table session).standing (table session).line read table p h told
does_so (unread session) table p h told = tells_so session (reply.Error refusal.NoMemory) table p h told
does_so (steps session) table p h told = steps_so session (table session).line table p h told
does_so cleans table p h told =
    let r = cleans_so p h told in
    (r.0, (refl, (all_removed (cleans_it p).removed, refl, r.1)))
does_so checkpoints table p h told =
    doing_so (IsSo (Own DoesOf programs (tell [] None) checkpoints) table p) p 0 act.Checkpoint (choose p 0 act.Checkpoint) (saved_by table) (lost table p) (saved_so table p) (λ k. absurd k) h told

-- ---- sessions that are tried again

abbrev PassesSo : (ℕ → Rel DoesOf programs (tell [] None)) → Table → Plain → Passed → Type 0
PassesSo R table p w = T w.went.passes → (told : Told) → (later : Told) × R w.moved table (story p told) w.went.out w.went.table (story w.went.left later)

tries_so : (n : ℕ) (line : Line) (More : ℕ → Rel DoesOf programs (tell [] None)) (more : Table → Plain → Passed) → ((t : Table) (q : Plain) → PassesSo More t q (more t q))
    → (table : Table) (p : Plain) → PassesSo (λ moved. Tries DoesOf programs (tell [] None) n line moved More) table p (tries n line more table p)
tries_so n (waiting todo) More more all table p h told =
    let c : Came = advance most n todo p in
    let w : Passed = more (set_seat table n (seat_run c.outcome)) c.left in
    let first = advance_so most n todo p (left_one c.passes w.went.passes h) told in
    let others = all (set_seat table n (seat_run c.outcome)) c.left (right_one c.passes w.went.passes h) first.0 in
    (others.0, (c.moved, c.outcome, story c.left first.0, w.moved, w.went.out, first.1, others.1, refl, refl))
tries_so n idle More more all table p h told = all table p h told
tries_so n (stepping todo) More more all table p h told = all table p h told
tries_so n (held todo) More more all table p h told = all table p h told

pass_so : (ns : List ℕ) (table : Table) (p : Plain) → PassesSo (Pass DoesOf programs (tell [] None) ns) table p (pass ns table p)
pass_so [] table p h told = (told, (refl, refl, refl, refl))
pass_so (n ∷ ns) table p h told = tries_so n (table n).line (Pass DoesOf programs (tell [] None) ns) (pass ns) (pass_so ns) table p h told

-- so many passes, the last of which moves none
abbrev RetriesSo : Table → Plain → Went → Type 0
RetriesSo table p w = T w.passes → (told : Told) → (n : ℕ) × (later : Told) × Passes DoesOf programs (tell [] None) all_sessions n table (story p told) w.out w.table (story w.left later)

again_so : (table : Table) (p : Plain) (moved : ℕ) (w : Went) (More : Table → Plain → Went) → ((t : Table) (q : Plain) → RetriesSo t q (More t q))
    → (T w.passes → (told : Told) → (later : Told) × Pass DoesOf programs (tell [] None) all_sessions moved table (story p told) w.out w.table (story w.left later))
    → RetriesSo table p (again moved w More)
again_so table p zero w More all one h told = let r = one h told in (0, r.0, r.1)
again_so table p (suc moved) w More all one h told =
    let next : Went = More w.table w.left in
    let r = one (left_one w.passes next.passes h) told in
    let later = all w.table w.left (right_one w.passes next.passes h) r.0 in
    let e : suc moved ≡ moved + 1 = omega arith in (
      suc later.0,
      later.1,
      (moved, w.out, w.table, story w.left r.0, next.out, subst (λ m. Pass DoesOf programs (tell [] None) all_sessions m table (story p told) w.out w.table (story w.left r.0)) e r.1, later.2, refl),
    )

passes_so : (n : ℕ) (table : Table) (p : Plain) → RetriesSo table p (passes_on n table p)
passes_so zero table p h = absurd h
passes_so (suc n) table p h =
    let w : Passed = pass all_sessions table p in
    again_so table p w.moved w.went (passes_on n) (passes_so n) (pass_so all_sessions table p) h

-- ---- whole lines

line_so : (said : Said) (table : Table) (p : Plain) → IsSo (RunsLine DoesOf programs (tell [] None) all_sessions said) table p (whole_line said table p)
line_so said table p h told =
    let w : Went = does_line said table p in
    let next : Went = passes_on most w.table w.left in
    let r = does_so said table p (left_one w.passes next.passes h) told in
    let later = passes_so most w.table w.left (right_one w.passes next.passes h) r.0 in (
      later.1,
      record { own = w.out; mid_table = w.table; mid = story w.left r.0; first = r.1; passes = later.0; more = next.out; later = later.2; whole = refl },
    )

pub lines_so : (lines : List Said) (table : Table) (p : Plain) → IsSo (RunsLines DoesOf programs (tell [] None) all_sessions lines) table p (whole_lines lines table p)
lines_so [] table p h told = (told, (refl, refl, refl))
lines_so (said ∷ more) table p h told =
    let w : Went = whole_line said table p in
    let next : Went = whole_lines more w.table w.left in
    let r = line_so said table p (left_one w.passes next.passes h) told in
    let later = lines_so more w.table w.left (right_one w.passes next.passes h) r.0 in
    (later.0, (w.out, w.table, story w.left r.0, next.out, r.1, refl, later.1))
