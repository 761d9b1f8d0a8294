-- Lines lead a state that steps led to, to another one.
use Rattle.std.specs.Prelude.{ℕ, zero, suc, ◌+◌, List, [], ◌∷◌, Option, Some, None, Result, Ok, Err}
use mathlib.Core.Path.{sym, subst}
use Rattle.iv_types.specs.declared.refusal.Refusal.{Refusal}
use Rattle.iv_types.specs.Syntax.{StatementTree}
use Rattle.iv_meaning.specs.Said.{Said, nothing, too_long, bad, runs, loads, unread, steps, cleans, checkpoints}
use Rattle.txn_machine.specs.Acts as act
use Rattle.txn_machine.specs.Answers as answer
use Rattle.txn_machine.specs.Alone.{Story}
use Rattle.txn_machine.specs.Laws.{IsReachedStory}
use Rattle.script_law.specs.Programs.{Standing, Todo}
use Rattle.script_law.specs.RunLines.{Line, idle, waiting, stepping, held, Table, Outcome, RunsOn, has_ended, is_blocked, goes_on, StepsOnce, had_ended, steps_once, Rel, RefusedOr, Given, RunsIt, LoadsIt, Stepped, Cleaned, Cleans, cleaned_all, cleaned_one, clean_fails, CleansLine, pruned, prune_fails, SavesLine, saved, save_fails, Own, Tries, Pass, Passes, RunsLine, RunsLines}
use Rattle.script_law.specs.Machine.{DoesOf}
use Rattle.script_law.proofs.OverMachine.{machine_laws}
use Rattle.statement_law.specs.Telling.{tell}
use Rattle.script_runs.proofs.Plays.{programs}

-- a relation leads from states that are reached to such states
abbrev Leads : Rel DoesOf programs (tell [] None) → Type 0
Leads R = (table : Table) (s : Story) (piece : List ℕ) (table' : Table) (s' : Story) → R table s piece table' s' → IsReachedStory s → IsReachedStory s'

run_leads : (i : ℕ) (todo : Todo) (s : Story) (n : ℕ) (o : Outcome) (after : Story) → RunsOn DoesOf programs (tell [] None) i todo s n o after → IsReachedStory s → IsReachedStory after
run_leads i _ _ _ _ _ (has_ended replies standing s) r = r
run_leads i _ _ _ _ _ (is_blocked todo a s mid said sessions has does waits) r = machine_laws.stands s mid i a said r does
run_leads i _ _ _ _ _ (goes_on todo a s mid after said memory fewer o has does free more) r = run_leads i _ mid fewer o after more (machine_laws.stands s mid i a said r does)

step_leads : (i : ℕ) (todo : Todo) (s : Story) (o : Outcome) (after : Story) → StepsOnce DoesOf programs (tell [] None) i todo s o after → IsReachedStory s → IsReachedStory after
step_leads i _ _ _ _ (had_ended replies standing s) r = r
step_leads i _ _ _ _ (steps_once todo a s after said memory has does) r = machine_laws.stands s after i a said r does

-- a statement's line
module _ (session : ℕ) (Goes : StatementTree → Standing → Rel DoesOf programs (tell [] None)) (all : (statement : StatementTree) (standing : Standing) → Leads (Goes statement standing)) where
  given_leads : (standing : Standing) (line : Line) (read : Result StatementTree Refusal) → Leads (Given DoesOf programs (tell [] None) session standing line read Goes)
  given_leads standing idle (Err why) table s piece table' s' h r = subst IsReachedStory (sym h.left) r
  given_leads standing idle (Ok statement) table s piece table' s' h r = by (programs.refuses standing statement) h
    where
      by : (o : Option Refusal) → RefusedOr DoesOf programs (tell [] None) session o (Goes statement standing) table s piece table' s' → IsReachedStory s'
      by (Some why) x = subst IsReachedStory (sym x.left) r
      by None x = all statement standing table s piece table' s' x r
  given_leads standing (waiting todo) (Err why) table s piece table' s' h r = subst IsReachedStory (sym h.left) r
  given_leads standing (waiting todo) (Ok statement) table s piece table' s' h r = subst IsReachedStory (sym h.left) r
  given_leads standing (stepping todo) (Err why) table s piece table' s' h r = subst IsReachedStory (sym h.left) r
  given_leads standing (stepping todo) (Ok statement) table s piece table' s' h r = subst IsReachedStory (sym h.left) r
  given_leads standing (held todo) (Err why) table s piece table' s' h r = subst IsReachedStory (sym h.left) r
  given_leads standing (held todo) (Ok statement) table s piece table' s' h r = subst IsReachedStory (sym h.left) r

steps_lead : (session : ℕ) (line : Line) → Leads (Stepped DoesOf programs (tell [] None) session line)
steps_lead session (stepping todo) table s piece table' s' h r = step_leads session todo s h.0 s' h.1 r
steps_lead session (held todo) table s piece table' s' h r = step_leads session todo s h.0 s' h.1 r
steps_lead session idle table s piece table' s' h r = subst IsReachedStory (sym h.left) r
steps_lead session (waiting todo) table s piece table' s' h r = subst IsReachedStory (sym h.left) r

sweeps_lead : (removed : ℕ) (s : Story) (end : Cleaned) (after : Story) → Cleans DoesOf programs (tell [] None) removed s end after → IsReachedStory s → IsReachedStory after
sweeps_lead _ _ _ _ (cleaned_all removed s after does) r = machine_laws.stands s after 0 act.Clean (answer.Cleaned 0) r does
sweeps_lead _ _ _ _ (cleaned_one removed s mid after end does more) r = sweeps_lead (removed + 1) mid end after more (machine_laws.stands s mid 0 act.Clean (answer.Cleaned 1) r does)
sweeps_lead _ _ _ _ (clean_fails removed s after why does) r = machine_laws.stands s after 0 act.Clean (answer.Refused why) r does

clean_leads : (s : Story) (end : Cleaned) (after : Story) → CleansLine DoesOf programs (tell [] None) s end after → IsReachedStory s → IsReachedStory after
clean_leads _ _ _ (pruned s mid after end does more) r = sweeps_lead 0 mid end after more (machine_laws.stands s mid 0 act.Prune answer.Pruned r does)
clean_leads _ _ _ (prune_fails s after why does) r = machine_laws.stands s after 0 act.Prune (answer.Refused why) r does

save_leads : (s : Story) (piece : List ℕ) (after : Story) → SavesLine DoesOf programs (tell [] None) s piece after → IsReachedStory s → IsReachedStory after
save_leads _ _ _ (saved s after number does) r = machine_laws.stands s after 0 act.Checkpoint (answer.Saved number) r does
save_leads _ _ _ (save_fails s after why does) r = machine_laws.stands s after 0 act.Checkpoint (answer.Refused why) r does

own_leads : (said : Said) → Leads (Own DoesOf programs (tell [] None) said)
own_leads nothing table s piece table' s' h r = subst IsReachedStory (sym h.left) r
own_leads too_long table s piece table' s' h r = subst IsReachedStory (sym h.left) r
own_leads bad table s piece table' s' h r = subst IsReachedStory (sym h.left) r
own_leads (runs session read) table s piece table' s' h r =
    given_leads session (RunsIt DoesOf programs (tell [] None) session) (λ statement standing table s piece table' s' h r. run_leads session _ s h.0 h.1 s' h.2 r) (table session).standing (table session).line read table s piece table' s' h r
own_leads (loads session read) table s piece table' s' h r =
    given_leads session (LoadsIt DoesOf programs (tell [] None) session) (λ statement standing table s piece table' s' h r. subst IsReachedStory (sym h.0) r) (table session).standing (table session).line read table s piece table' s' h r
own_leads (unread session) table s piece table' s' h r = subst IsReachedStory (sym h.left) r
own_leads (steps session) table s piece table' s' h r = steps_lead session (table session).line table s piece table' s' h r
own_leads cleans table s piece table' s' h r = clean_leads s h.1.0 s' h.1.2 r
own_leads checkpoints table s piece table' s' h r = save_leads s piece s' h.1 r

tries_lead : (n : ℕ) (line : Line) (moved : ℕ) (More : ℕ → Rel DoesOf programs (tell [] None)) → ((m : ℕ) → Leads (More m)) → Leads (Tries DoesOf programs (tell [] None) n line moved More)
tries_lead n (waiting todo) moved More all table s piece table' s' (some, o, mid, others, more, run, later, told, sum) r = all others _ mid more table' s' later (run_leads n todo s some o mid run r)
tries_lead n idle moved More all table s piece table' s' h r = all moved table s piece table' s' h r
tries_lead n (stepping todo) moved More all table s piece table' s' h r = all moved table s piece table' s' h r
tries_lead n (held todo) moved More all table s piece table' s' h r = all moved table s piece table' s' h r

pass_leads : (ns : List ℕ) (moved : ℕ) → Leads (Pass DoesOf programs (tell [] None) ns moved)
pass_leads [] moved table s piece table' s' h r = subst IsReachedStory (sym h.2) r
pass_leads (n ∷ ns) moved table s piece table' s' h r = tries_lead n (table n).line moved (Pass DoesOf programs (tell [] None) ns) (pass_leads ns) table s piece table' s' h r

passes_lead : (all : List ℕ) (n : ℕ) → Leads (Passes DoesOf programs (tell [] None) all n)
passes_lead all zero table s piece table' s' h r = pass_leads all 0 table s piece table' s' h r
passes_lead all (suc n) table s piece table' s' (moved, first, mid_table, mid, more, one, others, is) r =
    passes_lead all n mid_table mid more table' s' others (pass_leads all (moved + 1) table s first mid_table mid one r)

pub line_leads : (all : List ℕ) (said : Said) → Leads (RunsLine DoesOf programs (tell [] None) all said)
line_leads all said table s piece table' s' h r = passes_lead all h.passes h.mid_table h.mid h.more table' s' h.later (own_leads said table s h.own h.mid_table h.mid h.first r)

pub lines_lead : (all : List ℕ) (lines : List Said) → Leads (RunsLines DoesOf programs (tell [] None) all lines)
lines_lead all [] table s out table' s' h r = subst IsReachedStory (sym h.2) r
lines_lead all (said ∷ more) table s out table' s' (piece, mid_table, mid, rest, line, is, others) r =
    lines_lead all more mid_table mid rest table' s' others (line_leads all said table s piece mid_table mid line r)
