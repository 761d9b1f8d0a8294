-- Statements end, and so do the passes over waiting sessions.
use Rattle.std.specs.Prelude.{◌≡◌, ◌≢◌, ◌≤◌, ℕ, zero, suc, ◌+◌, ◌-◌, ◌==◌, ◌&&◌, not, Bool, true, false, cond, List, [], ◌∷◌, length, Option, Some, None, Result, Ok, Err}
use Rattle.std.specs.List.{AllByRecursion, list_all}
use mathlib.Core.Path.{refl, sym, ap, subst, ◌∙◌}
use mathlib.Core.Logic.{inl, inr}
use Rattle.std.proofs.Common.{arith, eq-eqb}
use Rattle.query_laws.proofs.Each.{each_to}
use Rattle.iv_types.specs.declared.refusal.Refusal.{Refusal}
use Rattle.iv_types.specs.declared.refusal.Refusal.TheVariants as refusal
use Rattle.iv_types.specs.declared.refusal.EngineRefusal.{EngineRefusal}
use Rattle.iv_types.specs.declared.refusal.EngineRefusal.TheVariants as engine
use Rattle.iv_types.specs.declared.reply.Reply.{Reply}
use Rattle.iv_types.specs.declared.reply.Reply.TheVariants as reply
use Rattle.iv_types.specs.Syntax.{StatementTree}
use Rattle.iv_meaning.specs.Said.{Said, nothing, too_long, bad, runs, loads, unread, steps, cleans, checkpoints}
use Rattle.txn_machine.specs.Acts as act
use Rattle.txn_machine.specs.Acts.{Act}
use Rattle.txn_machine.specs.Answers as answer
use Rattle.txn_machine.specs.Answers.{Answer}
use Rattle.txn_machine.specs.Store.{opened}
use Rattle.txn_machine.specs.State.{State, opened_state, most_steps}
use Rattle.txn_machine.specs.Alone.{Story, begun_story}
use Rattle.txn_machine.specs.Laws.{IsReachedStory}
use Rattle.txn_machine.proofs.Lengths.{length_law}
use Rattle.script_law.specs.Seen.{Event, Waits, LacksRow, event}
use Rattle.script_law.specs.Programs.{Standing, Todo, says, asks, ghosts, Programs}
use Rattle.script_law.specs.RunLines.{Line, idle, waiting, stepping, held, AtTable, Table, set_seat, new_table, Outcome, ended, stuck, stepped, seat_run, seat_stepped, act_of, asked_next, ghost_next, next_of, outcome_at, outcome_of, all_sessions, RunsOn, has_ended, is_blocked, goes_on, StepsOnce, had_ended, steps_once, Cleaned, Tells, Comes, RunsIt, LoadsIt, RefusedOr, Given, Stepped, Cleans, cleaned_all, cleaned_one, clean_fails, CleansLine, pruned, prune_fails, SavesLine, saved, save_fails, Tries, Pass, Passes, Own, RunsLines}
use Rattle.script_law.specs.Machine.{DoesOf}
use Rattle.script_law.specs.Works.{Works}
use Rattle.script_law.specs.Sessions.{programs_of}
use Rattle.script_law.proofs.Basics.{if_same, if_other}
use Rattle.script_law.proofs.OverMachine.{reached_of, machine_laws}
use Rattle.statement_law.specs.Retrying.{steps_left, StepsOn, MovesOn, StepsEndLaw, RetriesEndLaw}
use Rattle.statement_law.proofs.Refused.{HasEnded, KeepsBy, EndsIfStopped, EndsOnStop, start_stops}

-- ---- what is left of a statement after a step

asked_stops : (e : Event) (said : Answer) (memory : Bool) (f : Answer → Bool → Todo) → ((s : Answer) (m : Bool) → KeepsBy EndsIfStopped s (f s m) × EndsOnStop (f s m)) → EndsOnStop (asked_next e said memory f)
asked_stops LacksRow said memory f h = h
asked_stops _ said memory f h = (h said memory).1

ghost_stops : (said : Answer) (memory : Bool) (f : Answer → Bool → Todo) → ((s : Answer) (m : Bool) → KeepsBy EndsIfStopped s (f s m) × EndsOnStop (f s m)) → EndsOnStop (ghost_next said memory f)
ghost_stops answer.Ghosted memory f h = h
ghost_stops said memory f h = (h said memory).1

next_stops : (todo : Todo) (said : Answer) (memory : Bool) → EndsOnStop todo → EndsOnStop (next_of todo said memory)
next_stops (says replies standing) said memory h = tt
next_stops (asks a f) said memory h = asked_stops (event a said) said memory f h
next_stops (ghosts f) said memory h = ghost_stops said memory f h

-- once it is told that the engine is stopped, it has ended
ended_by_stop : (todo : Todo) (a : Act) (said : Answer) (memory : Bool) (step : ℕ) → EndsOnStop todo → act_of todo ≡ Some a → said ≡ answer.Refused (engine.Stopped step) → HasEnded (next_of todo said memory)
ended_by_stop (says replies standing) a said memory step h has is = absurd (cc)
ended_by_stop (asks b f) a said memory step h has is = subst (λ x. HasEnded (next_of (asks b f) x memory)) (sym is) ((h (answer.Refused (engine.Stopped step)) memory).0 refl)
ended_by_stop (ghosts f) a said memory step h has is = subst (λ x. HasEnded (next_of (ghosts f) x memory)) (sym is) ((h (answer.Refused (engine.Stopped step)) memory).0 refl)

-- ---- steps are counted

-- the step was counted, or the statement has ended by it
data Counts (story mid : Story) (next : Todo) : Type 0 where
  counted : steps_left mid + 1 ≡ steps_left story → Counts story mid next
  has_stopped : steps_left mid ≡ steps_left story → HasEnded next → Counts story mid next

minus : (n : ℕ) → n + 1 ≤ most_steps → (most_steps - (n + 1)) + 1 ≡ most_steps - n
minus n h = omega arith

reached_by : (story mid : Story) (session : ℕ) (a : Act) (said : Answer) → IsReachedStory story → DoesOf story session a said mid → IsReachedStory mid
reached_by story mid session a said r d = machine_laws.stands story mid session a said r d

counts : (story mid : Story) (session : ℕ) (a : Act) (said : Answer) (memory : Bool) (todo : Todo) → IsReachedStory story → EndsOnStop todo → act_of todo ≡ Some a → DoesOf story session a said mid → Counts story mid (next_of todo said memory)
counts story mid session a said memory todo r h has d = elim d.1.does [
  | inl x ↦
      let more : mid.state.steps ≡ story.state.steps + 1 = ap (λ (z : Story). z.state.steps) d.2 ∙ ap (λ (z : State). z.steps) x.left in
      let most : mid.state.steps ≤ most_steps = (length_law mid.state (reached_of mid (reached_by story mid session a said r d))).1 in
      counted (ap (λ n. (most_steps - n) + 1) more ∙ minus story.state.steps (subst (λ n. n ≤ most_steps) more most))
  | inr x ↦ has_stopped (ap (λ n. most_steps - n) (ap (λ (z : Story). z.state.steps) d.2 ∙ ap (λ (z : State). z.steps) x.left)) (ended_by_stop todo a said memory x.stop.step h has x.says)
]

no_act : (todo : Todo) (a : Act) → HasEnded todo → act_of todo ≡ Some a → ⊥
no_act (says replies standing) a h e = cc
no_act (asks b f) a h e = h
no_act (ghosts f) a h e = h

no_more : (n session : ℕ) (todo : Todo) (s : Story) → HasEnded todo → StepsOn n session todo s → n ≡ 0
no_more zero session todo s h g = refl
no_more (suc n) session todo s h (a, said, memory, mid, has, does, free, more) = absurd (no_act todo a h has)

-- so many steps are at most those that are left and one more
goes_so : (n session : ℕ) (todo : Todo) (s : Story) → IsReachedStory s → EndsOnStop todo → StepsOn n session todo s → n ≤ steps_left s + 1
goes_so zero session todo s r h g = omega arith
goes_so (suc n) session todo s r h (a, said, memory, mid, has, does, free, more) =
    by (goes_so n session (next_of todo said memory) mid (reached_by s mid session a said r does) (next_stops todo said memory h) more) (counts s mid session a said memory todo r h has does)
  where
    by : n ≤ steps_left mid + 1 → Counts s mid (next_of todo said memory) → suc n ≤ steps_left s + 1
    by rest (counted e) = omega (arith, rest, e)
    by rest (has_stopped e x) = let none : n ≡ 0 = no_more n session (next_of todo said memory) mid x more in omega (arith, none)

pub steps_end_law : StepsEndLaw
steps_end_law works story r session standing statement n g = goes_so n session ((programs_of works).start standing statement) story r (start_stops works standing statement) g

-- ---- lines

-- what waits ends once the engine is stopped
abbrev LineStops : Line → Type 0
LineStops idle = Unit {0}
LineStops (waiting todo) = EndsOnStop todo
LineStops (stepping todo) = EndsOnStop todo
LineStops (held todo) = EndsOnStop todo

abbrev AllStop : Table → Type 0
AllStop table = (session : ℕ) → LineStops (table session).line

abbrev OutcomeStops : Outcome → Type 0
OutcomeStops (ended replies standing) = Unit {0}
OutcomeStops (stuck sessions todo) = EndsOnStop todo
OutcomeStops (stepped todo) = EndsOnStop todo

run_stops : (o : Outcome) → OutcomeStops o → LineStops (seat_run o).line
run_stops (ended replies standing) h = tt
run_stops (stuck sessions todo) h = h
run_stops (stepped todo) h = h

stepped_stops : (o : Outcome) → OutcomeStops o → LineStops (seat_stepped o).line
stepped_stops (ended replies standing) h = tt
stepped_stops (stuck sessions todo) h = h
stepped_stops (stepped todo) h = h

set_stops : (table : Table) (n : ℕ) (seat : AtTable) → AllStop table → LineStops seat.line → AllStop (set_seat table n seat)
set_stops table n seat all h m = elim (m == n) as (λ b. LineStops (cond b seat (table m)).line) [ true ↦ h | false ↦ all m ]

-- how many of these wait
abbrev weight : Line → ℕ
weight (waiting todo) = 1
weight line = 0

abbrev waits_in : List ℕ → Table → ℕ
waits_in [] table = 0
waits_in (n ∷ ns) table = weight (table n).line + waits_in ns table

abbrev outcome_weight : Outcome → ℕ
outcome_weight (ended replies standing) = 0
outcome_weight _ = 1

seat_weight : (o : Outcome) → weight (seat_run o).line ≡ outcome_weight o
seat_weight (ended replies standing) = refl
seat_weight (stuck sessions todo) = refl
seat_weight (stepped todo) = refl

weight_most : (line : Line) → weight line ≤ 1
weight_most idle = omega arith
weight_most (waiting todo) = omega arith
weight_most (stepping todo) = omega arith
weight_most (held todo) = omega arith

waits_most : (ns : List ℕ) (table : Table) → waits_in ns table ≤ length ns
waits_most [] table = omega arith
waits_most (n ∷ ns) table = let one = weight_most (table n).line in let rest = waits_most ns table in omega (arith, one, rest)

waits_same : (ns : List ℕ) (table other : Table) → AllByRecursion (λ n. other n ≡ table n) ns → waits_in ns other ≡ waits_in ns table
waits_same [] table other h = refl
waits_same (n ∷ ns) table other h = λ k. weight (h.0 k).line + waits_same ns table other h.1 k

-- ---- different sessions

abbrev IsOut : ℕ → List ℕ → Type 0
IsOut n ns = AllByRecursion (λ k. n ≢ k) ns

abbrev Differ : List ℕ → Type 0
Differ [] = Unit {0}
Differ (n ∷ ns) = IsOut n ns × Differ ns

they_differ : List ℕ → Bool
they_differ [] = true
they_differ (n ∷ ns) = list_all (λ k. not (n == k)) ns && they_differ ns

differ_so : (ns : List ℕ) → they_differ ns ≡ true → Differ ns
unfolding they_differ
differ_so [] h = tt
differ_so (n ∷ ns) h = let both = two (list_all (λ k. not (n == k)) ns) (they_differ ns) h in (out ns both.0, differ_so ns both.1)
  where
    two : (a b : Bool) → a && b ≡ true → (a ≡ true) × (b ≡ true)
    two true b e = (refl, e)
    two false b e = absurd (cc)

    out : (ks : List ℕ) → list_all (λ k. not (n == k)) ks ≡ true → IsOut n ks
    out [] e = tt
    out (k ∷ ks) e = let both = two (not (n == k)) (list_all (λ k. not (n == k)) ks) e in ((λ same. let x = ap not (eq-eqb n k same) in cc), out ks both.1)

sessions_differ : Differ all_sessions
unfolding they_differ
sessions_differ = differ_so all_sessions refl

-- ---- runs

outcome_stops : (e : Event) (stay next : Todo) → EndsOnStop stay → EndsOnStop next → OutcomeStops (outcome_of e stay next)
outcome_stops e stay next h k = by e
  where
    at : (todo : Todo) → EndsOnStop todo → OutcomeStops (outcome_at todo)
    at (says replies standing) x = tt
    at (asks a f) x = x
    at (ghosts f) x = x

    by : (e : Event) → OutcomeStops (outcome_of e stay next)
    by (Waits sessions) = h
    by _ = at next k

module _ (works : Works) (tell : EngineRefusal → Refusal) where
  abbrev programs : Programs
  programs = programs_of works

  -- what a run of a statement leaves
  record Left (s : Story) (moved : ℕ) (o : Outcome) (after : Story) : Type 0 where
    reached : IsReachedStory after
    stops : OutcomeStops o
    fewer : (steps_left after + outcome_weight o) + moved ≤ steps_left s + 1

  ended_run : (session : ℕ) (todo : Todo) (s : Story) (moved : ℕ) (o : Outcome) (after : Story) → RunsOn DoesOf programs tell session todo s moved o after → HasEnded todo
      → (moved ≡ 0) × (outcome_weight o ≡ 0) × (steps_left after ≡ steps_left s)
  ended_run session _ _ _ _ _ (has_ended replies standing s) h = (refl, refl, refl)
  ended_run session _ _ _ _ _ (is_blocked todo a s mid said sessions has does is) h = absurd (no_act todo a h has)
  ended_run session _ _ _ _ _ (goes_on todo a s mid after said memory fewer o has does free more) h = absurd (no_act todo a h has)

  runs_so : (session : ℕ) (todo : Todo) (s : Story) (moved : ℕ) (o : Outcome) (after : Story) → RunsOn DoesOf programs tell session todo s moved o after → IsReachedStory s → EndsOnStop todo → Left s moved o after
  runs_so session _ _ _ _ _ (has_ended replies standing s) r h = record { reached = r; stops = tt; fewer = omega arith }
  runs_so session _ _ _ _ _ (is_blocked todo a s mid said sessions has does is) r h = record {
    reached = reached_by s mid session a said r does;
    stops = h;
    fewer = elim (counts s mid session a said true todo r h has does) [ counted e ↦ omega (arith, e) | has_stopped e x ↦ omega (arith, e) ];
  }
  runs_so session _ _ _ _ _ (goes_on todo a s mid after said memory fewer o has does free more) r h =
      let rest = runs_so session (next_of todo said memory) mid fewer o after more (reached_by s mid session a said r does) (next_stops todo said memory h) in
      let less : (steps_left after + outcome_weight o) + fewer ≤ steps_left mid + 1 = rest.fewer in
      record {
        reached = rest.reached;
        stops = rest.stops;
        fewer = elim (counts s mid session a said memory todo r h has does) [
          | counted e ↦ omega (arith, e, less)
          | has_stopped e x ↦ let z = ended_run session (next_of todo said memory) mid fewer o after more x in omega (arith, e, z.0, z.1, z.2)
        ];
      }

  once_so : (session : ℕ) (todo : Todo) (s : Story) (o : Outcome) (after : Story) → StepsOnce DoesOf programs tell session todo s o after → IsReachedStory s → EndsOnStop todo → IsReachedStory after × OutcomeStops o
  once_so session _ _ _ _ (had_ended replies standing s) r h = (r, tt)
  once_so session _ _ _ _ (steps_once todo a s after said memory has does) r h = (reached_by s after session a said r does, outcome_stops (event a said) todo (next_of todo said memory) h (next_stops todo said memory h))

  -- ---- passes

  record Passed (ns : List ℕ) (table : Table) (s : Story) (moved : ℕ) (table' : Table) (s' : Story) : Type 0 where
    reached : IsReachedStory s'
    stops : AllStop table'
    same : (m : ℕ) → IsOut m ns → table' m ≡ table m
    fewer : (steps_left s' + waits_in ns table') + moved ≤ steps_left s + waits_in ns table

  pass_so : (ns : List ℕ) → Differ ns → (moved : ℕ) (table : Table) (s : Story) (piece : List ℕ) (table' : Table) (s' : Story) → IsReachedStory s → AllStop table
      → Pass DoesOf programs tell ns moved table s piece table' s' → Passed ns table s moved table' s'
  pass_so [] differ moved table s piece table' s' r all p =
      let left : steps_left s' ≡ steps_left s = ap steps_left p.2 in
      record {
        reached = subst IsReachedStory (sym p.2) r;
        stops = subst AllStop (sym p.1) all;
        same = λ m out. ap (λ (t : Table). t m) p.1;
        fewer = omega (arith, left, p.3);
      }
  pass_so (n ∷ ns) differ moved table s piece table' s' r all p =
      by (λ moved table s piece r all p. pass_so ns differ.1 moved table s piece table' s' r all p) (table n).line refl p
    where
      skip : ((moved : ℕ) (table : Table) (s : Story) (piece : List ℕ) → IsReachedStory s → AllStop table → Pass DoesOf programs tell ns moved table s piece table' s' → Passed ns table s moved table' s')
          → Pass DoesOf programs tell ns moved table s piece table' s' → Passed (n ∷ ns) table s moved table' s'
      skip rest p =
          let x = rest moved table s piece r all p in
          let own : weight (table' n).line ≡ weight (table n).line = ap (λ (y : AtTable). weight y.line) (x.same n differ.0) in
          let less : (steps_left s' + waits_in ns table') + moved ≤ steps_left s + waits_in ns table = x.fewer in
          record { reached = x.reached; stops = x.stops; same = λ m out. x.same m out.1; fewer = omega (arith, own, less) }

      by : ((moved : ℕ) (table : Table) (s : Story) (piece : List ℕ) → IsReachedStory s → AllStop table → Pass DoesOf programs tell ns moved table s piece table' s' → Passed ns table s moved table' s')
          → (line : Line) → (table n).line ≡ line → Tries DoesOf programs tell n line moved (Pass DoesOf programs tell ns) table s piece table' s' → Passed (n ∷ ns) table s moved table' s'
      by rest (waiting todo) is (some, o, mid, others, more, run, later, told, sum) =
          let x = runs_so n todo s some o mid run r (subst LineStops is (all n)) in
          let seat : AtTable = seat_run o in
          let y = rest others (set_seat table n seat) mid more x.reached (set_stops table n seat all (run_stops o x.stops)) later in
          let a : (steps_left mid + outcome_weight o) + some ≤ steps_left s + 1 = x.fewer in
          let b : (steps_left s' + waits_in ns table') + others ≤ steps_left mid + waits_in ns (set_seat table n seat) = y.fewer in
          let c : waits_in ns (set_seat table n seat) ≡ waits_in ns table = waits_same ns table (set_seat table n seat) (each_to (λ k. n ≢ k) (λ k. set_seat table n seat k ≡ table k) (λ k ne. if_other k n seat (table k) (λ e. ne (sym e))) ns differ.0) in
          let d : weight (table' n).line ≡ outcome_weight o = ap (λ (z : AtTable). weight z.line) (y.same n differ.0 ∙ if_same n seat (table n)) ∙ seat_weight o in
          let e : weight (table n).line ≡ 1 = ap weight is in
          record {
            reached = y.reached;
            stops = y.stops;
            same = λ m out. y.same m out.1 ∙ if_other m n seat (table m) out.0;
            fewer = omega (arith, a, b, c, d, e, sum);
          }
      by rest idle is p = skip rest p
      by rest (stepping todo) is p = skip rest p
      by rest (held todo) is p = skip rest p

  -- a pass that moves leaves fewer steps, or fewer that wait
  moves_so : (n : ℕ) (table : Table) (s : Story) → IsReachedStory s → AllStop table → MovesOn programs tell n table s → n ≤ steps_left s + waits_in all_sessions table
  moves_so zero table s r all m = omega arith
  moves_so (suc n) table s r all (moved, piece, mid_table, mid, one, more) =
      let p = pass_so all_sessions sessions_differ (moved + 1) table s piece mid_table mid r all one in
      let less : (steps_left mid + waits_in all_sessions mid_table) + (moved + 1) ≤ steps_left s + waits_in all_sessions table = p.fewer in
      let rest : n ≤ steps_left mid + waits_in all_sessions mid_table = moves_so n mid_table mid p.reached p.stops more in
      omega (arith, less, rest)

  passes_so : (count : ℕ) (table : Table) (s : Story) (piece : List ℕ) (table' : Table) (s' : Story) → IsReachedStory s → AllStop table
      → Passes DoesOf programs tell all_sessions count table s piece table' s' → IsReachedStory s' × AllStop table'
  passes_so zero table s piece table' s' r all p = let x = pass_so all_sessions sessions_differ 0 table s piece table' s' r all p in (x.reached, x.stops)
  passes_so (suc n) table s piece table' s' r all (moved, first, mid_table, mid, more, one, others, is) =
      let x = pass_so all_sessions sessions_differ (moved + 1) table s first mid_table mid r all one in
      passes_so n mid_table mid more table' s' x.reached x.stops others

  -- ---- lines

  -- what a line leaves
  abbrev GoesWell : Table → Story → Type 0
  GoesWell table' s' = IsReachedStory s' × AllStop table'

  told_so : (session : ℕ) (told : Reply) (table : Table) (s : Story) (piece : List ℕ) (table' : Table) (s' : Story) → IsReachedStory s → AllStop table
      → Tells DoesOf programs tell session told table s piece table' s' → GoesWell table' s'
  told_so session told table s piece table' s' r all t = (subst IsReachedStory (sym t.left) r, subst AllStop (sym t.table_left) all)

  -- a statement that is given goes well, if it is not refused
  given_so : (session : ℕ) (standing : Standing) (line : Line) (read : Result StatementTree Refusal) (Goes : StatementTree → Standing → Table → Story → List ℕ → Table → Story → Type 0)
      → ((statement : StatementTree) (standing : Standing) (table : Table) (s : Story) (piece : List ℕ) (table' : Table) (s' : Story) → IsReachedStory s → AllStop table → Goes statement standing table s piece table' s' → GoesWell table' s')
      → (table : Table) (s : Story) (piece : List ℕ) (table' : Table) (s' : Story) → IsReachedStory s → AllStop table → Given DoesOf programs tell session standing line read Goes table s piece table' s' → GoesWell table' s'
  given_so session standing idle (Err why) Goes go table s piece table' s' r all g = told_so session (reply.Error why) table s piece table' s' r all g
  given_so session standing idle (Ok statement) Goes go table s piece table' s' r all g = by (programs.refuses standing statement) g
    where
      by : (refused : Option Refusal) → RefusedOr DoesOf programs tell session refused (Goes statement standing) table s piece table' s' → GoesWell table' s'
      by (Some why) x = told_so session (reply.Error why) table s piece table' s' r all x
      by None x = go statement standing table s piece table' s' r all x
  given_so session standing (waiting todo) read Goes go table s piece table' s' r all g = told_so session (reply.Error refusal.SessionWaiting) table s piece table' s' r all g
  given_so session standing (stepping todo) read Goes go table s piece table' s' r all g = told_so session (reply.Error refusal.SessionWaiting) table s piece table' s' r all g
  given_so session standing (held todo) read Goes go table s piece table' s' r all g = told_so session (reply.Error refusal.SessionWaiting) table s piece table' s' r all g

  run_so : (session : ℕ) (statement : StatementTree) (standing : Standing) (table : Table) (s : Story) (piece : List ℕ) (table' : Table) (s' : Story) → IsReachedStory s → AllStop table
      → RunsIt DoesOf programs tell session statement standing table s piece table' s' → GoesWell table' s'
  run_so session statement standing table s piece table' s' r all (moved, o, run, comes) =
      let x = runs_so session (programs.start standing statement) s moved o s' run r (start_stops works standing statement) in
      (x.reached, subst AllStop (sym comes.seat) (set_stops table session (seat_run o) all (run_stops o x.stops)))

  load_so : (session : ℕ) (statement : StatementTree) (standing : Standing) (table : Table) (s : Story) (piece : List ℕ) (table' : Table) (s' : Story) → IsReachedStory s → AllStop table
      → LoadsIt DoesOf programs tell session statement standing table s piece table' s' → GoesWell table' s'
  load_so session statement standing table s piece table' s' r all (is, comes) = (
    subst IsReachedStory (sym is) r,
    subst AllStop (sym comes.seat) (set_stops table session (seat_stepped (stepped (programs.start standing statement))) all (start_stops works standing statement)),
  )

  step_so : (session : ℕ) (todo : Todo) (table : Table) (s : Story) (piece : List ℕ) (table' : Table) (s' : Story) → IsReachedStory s → AllStop table → EndsOnStop todo
      → (o : Outcome) → StepsOnce DoesOf programs tell session todo s o s' → Comes DoesOf programs tell session seat_stepped o table piece table' → GoesWell table' s'
  step_so session todo table s piece table' s' r all h o once comes =
      let x = once_so session todo s o s' once r h in
      (x.0, subst AllStop (sym comes.seat) (set_stops table session (seat_stepped o) all (stepped_stops o x.1)))

  stepped_so : (session : ℕ) (line : Line) (table : Table) (s : Story) (piece : List ℕ) (table' : Table) (s' : Story) → IsReachedStory s → AllStop table → LineStops line
      → Stepped DoesOf programs tell session line table s piece table' s' → GoesWell table' s'
  stepped_so session idle table s piece table' s' r all h t = told_so 0 (reply.Error refusal.BadLine) table s piece table' s' r all t
  stepped_so session (waiting todo) table s piece table' s' r all h t = told_so 0 (reply.Error refusal.BadLine) table s piece table' s' r all t
  stepped_so session (stepping todo) table s piece table' s' r all h (o, once, comes) = step_so session todo table s piece table' s' r all h o once comes
  stepped_so session (held todo) table s piece table' s' r all h (o, once, comes) = step_so session todo table s piece table' s' r all h o once comes

  cleans_so : (removed : ℕ) (s : Story) (end : Cleaned) (after : Story) → Cleans DoesOf programs tell removed s end after → IsReachedStory s → IsReachedStory after
  cleans_so _ _ _ _ (cleaned_all removed s after does) r = reached_by s after 0 act.Clean (answer.Cleaned 0) r does
  cleans_so _ _ _ _ (cleaned_one removed s mid after end does more) r = cleans_so (removed + 1) mid end after more (reached_by s mid 0 act.Clean (answer.Cleaned 1) r does)
  cleans_so _ _ _ _ (clean_fails removed s after why does) r = reached_by s after 0 act.Clean (answer.Refused why) r does

  cleaned_so : (s : Story) (end : Cleaned) (after : Story) → CleansLine DoesOf programs tell s end after → IsReachedStory s → IsReachedStory after
  cleaned_so _ _ _ (pruned s mid after end does more) r = cleans_so 0 mid end after more (reached_by s mid 0 act.Prune answer.Pruned r does)
  cleaned_so _ _ _ (prune_fails s after why does) r = reached_by s after 0 act.Prune (answer.Refused why) r does

  saved_so : (s : Story) (piece : List ℕ) (after : Story) → SavesLine DoesOf programs tell s piece after → IsReachedStory s → IsReachedStory after
  saved_so _ _ _ (saved s after number does) r = reached_by s after 0 act.Checkpoint (answer.Saved number) r does
  saved_so _ _ _ (save_fails s after why does) r = reached_by s after 0 act.Checkpoint (answer.Refused why) r does

  own_so : (said : Said) (table : Table) (s : Story) (piece : List ℕ) (table' : Table) (s' : Story) → IsReachedStory s → AllStop table → Own DoesOf programs tell said table s piece table' s' → GoesWell table' s'
  own_so nothing table s piece table' s' r all h = (subst IsReachedStory (sym h.left) r, subst AllStop (sym h.table_left) all)
  own_so too_long table s piece table' s' r all h = told_so 0 (reply.Error refusal.LineTooLong) table s piece table' s' r all h
  own_so bad table s piece table' s' r all h = told_so 0 (reply.Error refusal.BadLine) table s piece table' s' r all h
  own_so (runs session read) table s piece table' s' r all g = given_so session (table session).standing (table session).line read (RunsIt DoesOf programs tell session) (run_so session) table s piece table' s' r all g
  own_so (loads session read) table s piece table' s' r all g = given_so session (table session).standing (table session).line read (LoadsIt DoesOf programs tell session) (load_so session) table s piece table' s' r all g
  own_so (unread session) table s piece table' s' r all t = told_so session (reply.Error refusal.NoMemory) table s piece table' s' r all t
  own_so (steps session) table s piece table' s' r all h = stepped_so session (table session).line table s piece table' s' r all (all session) h
  own_so cleans table s piece table' s' r all h = (cleaned_so s h.1.0 s' h.1.2 r, subst AllStop (sym h.0) all)
  own_so checkpoints table s piece table' s' r all h = (saved_so s piece s' h.1 r, subst AllStop (sym h.0) all)

  lines_so : (lines : List Said) (table : Table) (s : Story) (out : List ℕ) (table' : Table) (s' : Story) → IsReachedStory s → AllStop table → RunsLines DoesOf programs tell all_sessions lines table s out table' s' → GoesWell table' s'
  lines_so [] table s out table' s' r all h = (subst IsReachedStory (sym h.2) r, subst AllStop (sym h.1) all)
  lines_so (said ∷ more) table s out table' s' r all (piece, mid_table, mid, rest, one, is, others) =
      let x = own_so said table s one.own one.mid_table one.mid r all one.first in
      let y = passes_so one.passes one.mid_table one.mid one.more mid_table mid x.0 x.1 one.later in
      lines_so more mid_table mid rest table' s' y.0 y.1 others

pub retries_end_law : RetriesEndLaw
retries_end_law works tell db stored opening was_opened lines out table s run said own mid_table mid first n moves =
    let begun : Story = begun_story (opened_state opening (opened db stored)) in
    let reached : IsReachedStory begun = record { db = db; view = stored; opening = opening; was_opened = was_opened; steps = []; tells = refl } in
    let x = lines_so works tell lines new_table begun out table s reached (λ session. tt) run in
    let y = own_so works tell said table s own mid_table mid x.0 x.1 first in
    let less = moves_so works tell n mid_table mid y.0 y.1 moves in
    let most : waits_in all_sessions mid_table ≤ 64 = waits_most all_sessions mid_table in
    omega (arith, less, most)
