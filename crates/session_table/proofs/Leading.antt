-- What a session, a line or a pass does leads on by steps.
use Rattle.std.specs.Prelude.{◌≡◌, ℕ, zero, suc, ◌+◌, ◌-◌, Bool, List, [], ◌∷◌, length, Option, Some, None, Result, Ok, Err}
use mathlib.Core.Path.{refl, sym, subst}
use Rattle.iv_types.specs.declared.session.Sessions.{Sessions}
use Rattle.iv_types.specs.declared.refusal.EngineRefusal.{EngineRefusal}
use Rattle.iv_types.specs.declared.refusal.Refusal.{Refusal}
use Rattle.iv_types.specs.Syntax.{StatementTree}
use Rattle.iv_meaning.specs.Said.{Said, nothing, too_long, bad, runs, loads, unread, steps, cleans, checkpoints}
use Rattle.txn_machine.specs.Acts as act
use Rattle.txn_machine.specs.Acts.{Act}
use Rattle.txn_machine.specs.Answers as answer
use Rattle.txn_machine.specs.Answers.{Answer}
use Rattle.txn_machine.specs.Alone.{Story}
use Rattle.script_law.specs.Programs.{Standing, Todo}
use Rattle.script_law.specs.RunLines.{Line, idle, waiting, stepping, held, Table, set_seat, seat_run, Outcome, RunsOn, has_ended, is_blocked, goes_on, StepsOnce, had_ended, steps_once, Rel, RefusedOr, Given, RunsIt, LoadsIt, Stepped, Cleaned, Cleans, cleaned_all, cleaned_one, clean_fails, CleansLine, pruned, prune_fails, SavesLine, saved, save_fails, Own, Tries, Pass, Passes, all_sessions, RunsLine}
use Rattle.script_law.specs.Machine.{DoesOf}
use Rattle.txn_sessions.specs.declared.session.Session.{Session}
use Rattle.txn_sessions.specs.Sessions.{todo_of}
use Rattle.line_requests.specs.declared.asked.Ask.{Ask}
use Rattle.line_requests.specs.declared.asked.Request.{Request}
use Rattle.session_asks.specs.Askable.{the_programs}
use Rattle.session_table.specs.declared.going.Came.{Came}
use Rattle.session_table.specs.declared.going.Went.{Went}
use Rattle.session_table.specs.declared.slot.LineKind.{LineKind}
use Rattle.session_table.specs.declared.slot.LineKind.TheVariants.{Idle, Waiting, Stepping, Held}
use Rattle.session_table.specs.declared.slot.Slot.{Slot}
use Rattle.session_table.specs.Going.{the_tell, Leads, no_step, one_step, AnsweredBy, DidStep, WentOn, outcome_in}
use Rattle.session_table.specs.Slots.{seat_by, table_of, numbers}
use Rattle.session_table.specs.Trying.{TriedBy, Tried, Passed, Retried}
use Rattle.session_table.specs.Requests.{WentOnce, SlotDid, EngineDid, DidOwn}
use Rattle.session_table.specs.Cleaning.{cleaned_by, CleansLineBy}

pub leads_on : (s mid after : Story) → Leads s mid → Leads mid after → Leads s after
leads_on _ _ after (no_step s) more = more
leads_on _ _ after (one_step s next mid session a said does others) more = one_step s next after session a said does (leads_on next mid after others more)

pub leads_by_one : (s after : Story) (session : ℕ) (a : Act) (said : Answer) → DoesOf s session a said after → Leads s after
leads_by_one s after session a said does = one_step s after after session a said does (no_step after)

pub leads_same : (s after : Story) → after ≡ s → Leads s after
leads_same s after e = subst (λ (t : Story). Leads s t) (sym e) (no_step s)

-- ---- steps of a statement

pub run_led : (n : ℕ) (todo : Todo) (s : Story) (count : ℕ) (o : Outcome) (after : Story) → RunsOn DoesOf the_programs the_tell n todo s count o after → Leads s after
run_led n _ _ _ _ _ (has_ended replies standing s) = no_step s
run_led n _ _ _ _ _ (is_blocked todo a s mid said sessions asks does waits) = leads_by_one s mid n a said does
run_led n _ _ _ _ _ (goes_on todo a s mid after said memory fewer o asks does free more) = one_step s mid after n a said does (run_led n _ mid fewer o after more)

pub once_led : (n : ℕ) (todo : Todo) (s : Story) (o : Outcome) (after : Story) → StepsOnce DoesOf the_programs the_tell n todo s o after → Leads s after
once_led n _ _ _ _ (had_ended replies standing s) = no_step s
once_led n _ _ _ _ (steps_once todo a s after said memory asks does) = leads_by_one s after n a said does

-- ---- steps that no session asks for

sweeps_led : (removed : ℕ) (s : Story) (end : Cleaned) (after : Story) → Cleans DoesOf the_programs the_tell removed s end after → Leads s after
sweeps_led _ _ _ _ (cleaned_all removed s after does) = leads_by_one s after 0 act.Clean (answer.Cleaned 0) does
sweeps_led _ _ _ _ (cleaned_one removed s mid after end does more) = one_step s mid after 0 act.Clean (answer.Cleaned 1) does (sweeps_led (removed + 1) mid end after more)
sweeps_led _ _ _ _ (clean_fails removed s after why does) = leads_by_one s after 0 act.Clean (answer.Refused why) does

pub clean_led : (s : Story) (end : Cleaned) (after : Story) → CleansLine DoesOf the_programs the_tell s end after → Leads s after
clean_led _ _ _ (pruned s mid after end does more) = one_step s mid after 0 act.Prune answer.Pruned does (sweeps_led 0 mid end after more)
clean_led _ _ _ (prune_fails s after why does) = leads_by_one s after 0 act.Prune (answer.Refused why) does

pub save_led : (s : Story) (piece : List ℕ) (after : Story) → SavesLine DoesOf the_programs the_tell s piece after → Leads s after
save_led _ _ _ (saved s after number does) = leads_by_one s after 0 act.Checkpoint (answer.Saved number) does
save_led _ _ _ (save_fails s after why does) = leads_by_one s after 0 act.Checkpoint (answer.Refused why) does

-- ---- what a line does itself

-- what a relation says of two stories leads from one to the other
abbrev LeadsBy : Rel DoesOf the_programs the_tell → Type 0
LeadsBy R = (table : Table) (s : Story) (piece : List ℕ) (table' : Table) (s' : Story) → R table s piece table' s' → Leads s s'

-- a text that is given to a session
module _ (n : ℕ) (Goes : StatementTree → Standing → Rel DoesOf the_programs the_tell) (all : (statement : StatementTree) (standing : Standing) → LeadsBy (Goes statement standing)) where
  given_led : (standing : Standing) (line : Line) (read : Result StatementTree Refusal) → LeadsBy (Given DoesOf the_programs the_tell n standing line read Goes)
  given_led standing idle (Err why) table s piece table' s' h = leads_same s s' h.left
  given_led standing idle (Ok statement) table s piece table' s' h = by (the_programs.refuses standing statement) h
    where
      by : (o : Option Refusal) → RefusedOr DoesOf the_programs the_tell n o (Goes statement standing) table s piece table' s' → Leads s s'
      by (Some why) x = leads_same s s' x.left
      by None x = all statement standing table s piece table' s' x
  given_led standing (waiting todo) (Err why) table s piece table' s' h = leads_same s s' h.left
  given_led standing (waiting todo) (Ok statement) table s piece table' s' h = leads_same s s' h.left
  given_led standing (stepping todo) (Err why) table s piece table' s' h = leads_same s s' h.left
  given_led standing (stepping todo) (Ok statement) table s piece table' s' h = leads_same s s' h.left
  given_led standing (held todo) (Err why) table s piece table' s' h = leads_same s s' h.left
  given_led standing (held todo) (Ok statement) table s piece table' s' h = leads_same s s' h.left

steps_led : (n : ℕ) (line : Line) → LeadsBy (Stepped DoesOf the_programs the_tell n line)
steps_led n (stepping todo) table s piece table' s' h = once_led n todo s h.0 s' h.1
steps_led n (held todo) table s piece table' s' h = once_led n todo s h.0 s' h.1
steps_led n idle table s piece table' s' h = leads_same s s' h.left
steps_led n (waiting todo) table s piece table' s' h = leads_same s s' h.left

pub own_led : (said : Said) (table : Table) (s : Story) (piece : List ℕ) (table' : Table) (s' : Story) → Own DoesOf the_programs the_tell said table s piece table' s' → Leads s s'
own_led nothing table s piece table' s' h = leads_same s s' h.left
own_led too_long table s piece table' s' h = leads_same s s' h.left
own_led bad table s piece table' s' h = leads_same s s' h.left
own_led (runs n read) table s piece table' s' h =
    given_led n (RunsIt DoesOf the_programs the_tell n) (λ statement standing table s piece table' s' h. run_led n _ s h.0 h.1 s' h.2) (table n).standing (table n).line read table s piece table' s' h
own_led (loads n read) table s piece table' s' h =
    given_led n (LoadsIt DoesOf the_programs the_tell n) (λ statement standing table s piece table' s' h. leads_same s s' h.0) (table n).standing (table n).line read table s piece table' s' h
own_led (unread n) table s piece table' s' h = leads_same s s' h.left
own_led (steps n) table s piece table' s' h = steps_led n (table n).line table s piece table' s' h
own_led cleans table s piece table' s' h = clean_led s h.1.0 s' h.1.2
own_led checkpoints table s piece table' s' h = save_led s piece s' h.1

-- ---- sessions that are tried again

tries_led : (n : ℕ) (line : Line) (moved : ℕ) (More : ℕ → Rel DoesOf the_programs the_tell) → ((m : ℕ) → LeadsBy (More m)) → LeadsBy (Tries DoesOf the_programs the_tell n line moved More)
tries_led n (waiting todo) moved More all table s piece table' s' (some, o, mid, others, more, run, later, told, sum) =
    leads_on s mid s' (run_led n todo s some o mid run) (all others (set_seat table n (seat_run o)) mid more table' s' later)
tries_led n idle moved More all table s piece table' s' h = all moved table s piece table' s' h
tries_led n (stepping todo) moved More all table s piece table' s' h = all moved table s piece table' s' h
tries_led n (held todo) moved More all table s piece table' s' h = all moved table s piece table' s' h

pub pass_led : (ns : List ℕ) (moved : ℕ) (table : Table) (s : Story) (piece : List ℕ) (table' : Table) (s' : Story) → Pass DoesOf the_programs the_tell ns moved table s piece table' s' → Leads s s'
pass_led [] moved table s piece table' s' h = leads_same s s' h.2
pass_led (n ∷ ns) moved table s piece table' s' h = tries_led n (table n).line moved (Pass DoesOf the_programs the_tell ns) (pass_led ns) table s piece table' s' h

pub passes_led : (all : List ℕ) (n : ℕ) (table : Table) (s : Story) (piece : List ℕ) (table' : Table) (s' : Story) → Passes DoesOf the_programs the_tell all n table s piece table' s' → Leads s s'
passes_led all zero table s piece table' s' h = pass_led all 0 table s piece table' s' h
passes_led all (suc n) table s piece table' s' (moved, first, mid_table, mid, more, one, others, is) =
    leads_on s mid s' (pass_led all (moved + 1) table s first mid_table mid one) (passes_led all n mid_table mid more table' s' others)

-- ---- lines

pub line_leads : (said : Said) (table : Table) (s : Story) (piece : List ℕ) (table' : Table) (s' : Story) → RunsLine DoesOf the_programs the_tell all_sessions said table s piece table' s' → Leads s s'
line_leads said table s piece table' s' h = leads_on s h.mid s' (own_led said table s h.own h.mid_table h.mid h.first) (passes_led all_sessions h.passes h.mid_table h.mid h.more table' s' h.later)

-- ---- as this crate says it

pub answered_led : (s : Story) (x : Session) (said : Answer) (after : Story) → AnsweredBy s x said after → Leads s after
answered_led s x said after h = leads_by_one s after x.number h.act said h.does

pub did_step_led : (s : Story) (x : Session) (waits : Option Sessions) (x' : Session) (after : Story) → DidStep s x waits x' after → Leads s after
did_step_led s x waits x' after h = leads_by_one s after x.number h.act h.said h.does

pub went_on_led : (s : Story) (x : Session) (went : Went) (x' : Session) (after : Story) → WentOn s x went x' after → Leads s after
went_on_led s x went x' after h = run_led x.number (todo_of x) s h.moved (outcome_in went.came (todo_of x')) after h.run

pub went_once_led : (s : Story) (x : Session) (c : Came) (x' : Session) (after : Story) → WentOnce s x c x' after → Leads s after
went_once_led s x c x' after h = once_led x.number (todo_of x) s (outcome_in c (todo_of x')) after h.once

pub slot_led : (number : ℕ) (a : Ask) (s : Story) (slot : Slot) (out : List ℕ) (slot' : Slot) (out' : List ℕ) (after : Story) → SlotDid number a s slot out slot' out' after → Leads s after
slot_led number a s slot out slot' out' after h =
    let table : Table = λ n. seat_by slot in
    own_led h.said table s h.piece (set_seat table number (seat_by slot')) after (h.own table refl)

pub engine_led : (said : Said) (table : Table) (s : Story) (out out' : List ℕ) (after : Story) → EngineDid said s out out' after → Leads s after
engine_led said table s out out' after h = own_led said table s h.piece table after (h.own table)

pub did_own_led : (asked : Request) (s : Story) (slots : List Slot) (out : List ℕ) (slots' : List Slot) (out' : List ℕ) (after : Story) → DidOwn asked s slots out slots' out' after → Leads s after
did_own_led asked s slots out slots' out' after h = own_led h.said (table_of slots) s h.piece (table_of slots') after h.own

pub clean_by_led : (s : Story) (result : Result ℕ EngineRefusal) (after : Story) → CleansLineBy s result after → Leads s after
clean_by_led s result after h = clean_led s (cleaned_by result) after h

tried_by_led : (line : LineKind) (s : Story) (slot : Slot) (out : List ℕ) (moved : Bool) (slot' : Slot) (out' : List ℕ) (after : Story) → TriedBy line s slot out moved slot' out' after → Leads s after
tried_by_led Waiting s slot out moved slot' out' after (count, o, is, run, seat, told, counts) = run_led slot.session.number (todo_of slot.session) s count o after run
tried_by_led Idle s slot out moved slot' out' after (is, same, stays, told) = leads_same s after stays
tried_by_led Stepping s slot out moved slot' out' after (is, same, stays, told) = leads_same s after stays
tried_by_led Held s slot out moved slot' out' after (is, same, stays, told) = leads_same s after stays

pub tried_led : (s : Story) (slot : Slot) (out : List ℕ) (moved : Bool) (slot' : Slot) (out' : List ℕ) (after : Story) → Tried s slot out moved slot' out' after → Leads s after
tried_led s slot out moved slot' out' after h = tried_by_led slot.line s slot out moved slot' out' after h.tried

pub passed_led : (place : ℕ) (s : Story) (slots : List Slot) (out : List ℕ) (moved : Bool) (slots' : List Slot) (out' : List ℕ) (after : Story) → Passed place s slots out moved slots' out' after → Leads s after
passed_led place s slots out moved slots' out' after h = pass_led (numbers (suc place) (length slots - place)) h.count (table_of slots) s h.piece (table_of slots') after h.pass

pub retried_led : (s : Story) (slots : List Slot) (out : List ℕ) (slots' : List Slot) (out' : List ℕ) (after : Story) → Retried s slots out slots' out' after → Leads s after
retried_led s slots out slots' out' after h = passes_led (numbers 1 (length slots)) h.count (table_of slots) s h.piece (table_of slots') after h.passes
