-- Outputs of sessions that are not tried again, or not in their order.
use Rattle.std.specs.Prelude.{◌≡◌, ◌⊎◌, ℕ, zero, suc, ◌+◌, Bool, true, false, List, [], ◌∷◌, ◌++◌, codes, ℤ, pos, None, Ok}
use Rattle.std.specs.Fmt.{digits}
use Rattle.std.specs.List.{AllZip}
use mathlib.Core.Path.{refl, sym, ap, subst, ◌∙◌}
use mathlib.Core.Logic.{inl, inr}
use Rattle.std.proofs.Common.{arith, append-nil}
use Rattle.iv_types.specs.declared.lock.LockMode.TheVariants.{Share}
use Rattle.iv_types.specs.declared.value.Interval.{Interval}
use Rattle.iv_types.specs.declared.refusal.Refusal.{Refusal}
use Rattle.iv_types.specs.declared.refusal.Refusal.TheVariants as refusal
use Rattle.iv_types.specs.declared.refusal.EngineRefusal.TheVariants as engine
use Rattle.iv_types.specs.declared.reply.Reply.{Reply}
use Rattle.iv_types.specs.declared.reply.Reply.TheVariants as reply
use Rattle.iv_types.specs.declared.value.Value.TheVariants.{Number}
use Rattle.iv_types.specs.Encoding.{key_bytes}
use Rattle.iv_types.specs.Intervals.{next}
use Rattle.iv_meaning.specs.Schema.{group_kinds}
use Rattle.iv_types.specs.Syntax.{rollback}
use Rattle.table_laws.specs.Place.{Place}
use Rattle.table_laws.specs.Table.{rows_where}
use Rattle.iv_meaning.specs.Said.{runs}
use Rattle.iv_meaning.specs.SerialExample.{by_shop}
use Rattle.txn_machine.specs.Acts as act
use Rattle.txn_machine.specs.Acts.{Act}
use Rattle.txn_machine.specs.Answers as answer
use Rattle.txn_machine.specs.Answers.{Answer}
use Rattle.txn_machine.specs.Stored.{IsShown, is_shown}
use Rattle.txn_machine.specs.Store.{Ends}
use Rattle.txn_machine.specs.Alone.{Story}
use Rattle.txn_machine.proofs.PlainStates.{shop_schema, Plain, state_of, start}
use Rattle.txn_machine.proofs.Playing.{read_want, after as left_by_move, ends}
use Rattle.txn_machine.proofs.Tabled.{entries_are}
use Rattle.txn_machine.proofs.MovesAlone.{in_order, free}
use Rattle.script_law.specs.Programs.{Standing, Todo, says, outside_with}
use Rattle.script_law.specs.RunLines.{new_table, Line, waiting, Table, set_seat, seat_run, all_sessions, Outcome, ended, printed, printed_later, next_of, RunsOn, Pass, Passes, RunsLine}
use Rattle.script_law.specs.Machine.{DoesOf}
use Rattle.statement_law.specs.Telling.{tell}
use Rattle.script_runs.specs.Misses.{both_wait, TriedInFallingOrder, NotTriedAgain}
use Rattle.script_runs.proofs.Plays.{programs, Went, whole_lines}
use Rattle.script_runs.proofs.Steps.{Told, story, told_then}
use Rattle.script_runs.proofs.Scripts.{behind}
use Rattle.script_runs.proofs.Inverting.{left_with, stays_there, Doing, doing_of, run_by, EndsBy, ends_said, byte}
use Rattle.script_runs.proofs.Missed.{closes, stop_none}
use Rattle.script_runs.proofs.MissedWaiting.{no_rows, not_blocked}

abbrev went : Went
went = whole_lines both_wait.lines new_table start

abbrev before : Plain
before = went.left

-- the third session has ended
abbrev then : Plain
then = left_by_move before 3 ends

abbrev leaving : Todo
leaving = programs.start (went.table 3).standing (rollback None)

-- ---- the session's own line

record IsLeft (told : Told) (o : Outcome) (after : Story) : Type 0 where
  pub comes : EndsBy (reply.Done 0 ∷ []) o
  pub later : Told
  pub is : after ≡ story then later

ends_left : (p : Plain) (told : Told) → left_with (story p told) 3 act.End answer.Ended (Ends ∷ []) ≡ story (left_by_move p 3 ends) (told_then p told 3 act.End answer.Ended)
ends_left p told = refl

ended_told : (told : Told) (mid : Story) (said : Answer) (memory : Bool) → Doing (story before told) 3 act.End said mid
    → (n : ℕ) (o : Outcome) (after : Story) → RunsOn DoesOf programs (tell [] None) 3 (next_of leaving said memory) mid n o after → IsLeft told o after
ended_told told mid answer.Ended memory d n o after r = record {
  comes = ends_said 3 (reply.Done 0 ∷ []) _ mid n o after r;
  later = told_then before told 3 act.End answer.Ended;
  is = stays_there 3 (reply.Done 0 ∷ []) _ mid n o after r ∙ (d.left ∙ (ap (left_with (story before told) 3 act.End answer.Ended) d.says ∙ ends_left before told));
}
ended_told told mid (answer.Refused (engine.Deadlock cycle)) memory d n o after r = absurd (d.says.0)
ended_told told mid (answer.Refused engine.NoMemory) memory d n o after r = absurd (d.says.0)
ended_told told mid (answer.Refused w) memory d n o after r = absurd (d.says)
ended_told told mid (answer.Blocked x) memory d n o after r = absurd (d.says.0)
ended_told told mid said memory d n o after r = absurd (d.says)

-- ---- a reader that is tried again

abbrev todo_of : Line → Todo
todo_of (waiting todo) = todo
todo_of line = says [] (outside_with [])

abbrev reading : Todo
reading = todo_of (went.table 1).line

-- the keys that begin with that of shop 7
abbrev sevens : Interval
sevens =
    let key : List ℕ = key_bytes (group_kinds shop_schema by_shop) (Number (pos 7) ∷ []) in
    record { low = key; high = next key }

abbrev reads : Act
reads = act.Fetch 2 sevens Share

abbrev ListsNone : Outcome → Type 0
ListsNone o = EndsBy (reply.Done 0 ∷ []) o ⊎ ((why : Refusal) × EndsBy (reply.Error why ∷ []) o)

read_told : (told : Told) (mid : Story) (said : Answer) (memory : Bool) → Doing (story then told) 1 reads said mid
    → (n : ℕ) (o : Outcome) (after : Story) → RunsOn DoesOf programs (tell [] None) 1 (next_of reading said memory) mid n o after → ListsNone o
read_told told mid (answer.Rows rows) memory d n o after r =
    let none : rows ≡ [] = no_rows rows (subst (λ (es : List (Place × List ℤ)). AllZip (IsShown shop_schema by_shop) (rows_where (is_shown 2 sevens) es) rows) (entries_are then.view tt) d.says.found) in
    by_memory memory (subst (λ x. RunsOn DoesOf programs (tell [] None) 1 (next_of reading (answer.Rows x) memory) mid n o after) none r)
  where
    by_memory : (m : Bool) → RunsOn DoesOf programs (tell [] None) 1 (next_of reading (answer.Rows []) m) mid n o after → ListsNone o
    by_memory true r = inl (ends_said 1 (reply.Done 0 ∷ []) _ mid n o after r)
    by_memory false r = inr (refusal.NoMemory, ends_said 1 (reply.Error refusal.NoMemory ∷ []) _ mid n o after r)
read_told told mid (answer.Refused (engine.Deadlock cycle)) memory d n o after r =
    inr (refusal.Deadlock cycle, closes 1 (refusal.Deadlock cycle) _ _ mid (stop_none (story then told) mid 1 reads (answer.Refused (engine.Deadlock cycle)) d refl then.of.steps refl refl) n o after r)
read_told told mid (answer.Refused engine.NoMemory) memory d n o after r = inr (refusal.NoMemory, ends_said 1 (reply.Error refusal.NoMemory ∷ []) _ mid n o after r)
read_told told mid (answer.Refused (engine.TxnFull kept need)) memory d n o after r = inr (refusal.TxnFull kept need, ends_said 1 (reply.Error (refusal.TxnFull kept need) ∷ []) _ mid n o after r)
read_told told mid (answer.Refused w) memory d n o after r = absurd (d.says)
read_told told mid (answer.Blocked sessions) memory d n o after r =
    absurd (not_blocked (state_of then) 1 (read_want 2 sevens Share) sessions (free then 1 (in_order then tt) (omega arith) (read_want 2 sevens Share) tt) d.says.1)
read_told told mid said memory d n o after r = absurd (d.says)

read_prints : (told : Told) (n : ℕ) (o : Outcome) (after : Story) → RunsOn DoesOf programs (tell [] None) 1 reading (story then told) n o after → ListsNone o
read_prints told n o after r = elim (run_by 1 reading (story then told) n o after r reads refl) [
  | inl b ↦ absurd (not_blocked (state_of then) 1 (read_want 2 sevens Share) b.sessions (free then 1 (in_order then tt) (omega arith) (read_want 2 sevens Share) tt)
      (doing_of (story then told) 1 reads (answer.Blocked b.sessions) after refl b.does).says.1)
  | inr m ↦ read_told told m.mid m.said m.memory (doing_of (story then told) 1 reads m.said m.mid refl m.does) m.fewer o after m.more
]

leave_prints : (told : Told) (n : ℕ) (o : Outcome) (after : Story) → RunsOn DoesOf programs (tell [] None) 3 leaving (story before told) n o after → IsLeft told o after
leave_prints told n o after r = elim (run_by 3 leaving (story before told) n o after r act.End refl) [
  | inl b ↦ absurd ((doing_of (story before told) 3 act.End (answer.Blocked b.sessions) after refl b.does).says.0)
  | inr m ↦ ended_told told m.mid m.said m.memory (doing_of (story before told) 3 act.End m.said m.mid refl m.does) m.fewer o after m.more
]

-- ---- the first pass

record FirstPass (table : Table) (s : Story) (more : List ℕ) : Type 0 where
  moved : ℕ
  first : List ℕ
  rest : List ℕ
  table' : Table
  s' : Story
  passes : Pass DoesOf programs (tell [] None) all_sessions moved table s first table' s'
  is : more ≡ first ++ rest

first_of : (n : ℕ) (table : Table) (s : Story) (more : List ℕ) (table' : Table) (s' : Story) → Passes DoesOf programs (tell [] None) all_sessions n table s more table' s' → FirstPass table s more
first_of zero table s more table' s' h = record { moved = 0; first = more; rest = []; table' = table'; s' = s'; passes = h; is = sym (append-nil more) }
first_of (suc n) table s more table' s' (moved, first, mid_table, mid, rest, one, others, is) = record { moved = moved + 1; first = first; rest = rest; table' = mid_table; s' = mid; passes = one; is = is }

-- the first session prints something
first_prints : (told : Told) (replies : List Reply) (standing : Standing) (more : List ℕ) → FirstPass (set_seat went.table 3 (seat_run (ended replies standing))) (story then told) more → byte 0 more ≡ 49
unfolding digits
first_prints told replies standing more f =
    let h = f.passes in
    elim (read_prints told h.0 h.1 h.2 h.5) [
      | inl e ↦ ap (byte 0) (f.is ∙ ap (λ x. x ++ f.rest) (h.7 ∙ ap (λ x. printed_later 1 x ++ h.4) e.is))
      | inr e ↦ ap (byte 0) (f.is ∙ ap (λ x. x ++ f.rest) (h.7 ∙ ap (λ x. printed_later 1 x ++ h.4) e.1.is))
    ]

prints_first : (told : Told) (piece : List ℕ) (later_table : Table) (after : Story) → RunsLine DoesOf programs (tell [] None) all_sessions (runs 3 (Ok (rollback None))) went.table (story before told) piece later_table after → byte 7 piece ≡ 49
unfolding digits
prints_first told piece later_table after l =
    let own = leave_prints told l.first.0 l.first.1 l.mid l.first.2 in
    let seat = l.first.3.seat ∙ ap (λ x. set_seat went.table 3 (seat_run x)) own.comes.is in
    let pass = subst (λ t. FirstPass t (story then own.later) l.more) seat (subst (λ s. FirstPass l.mid_table s l.more) own.is (first_of l.passes l.mid_table l.mid l.more later_table after l.later)) in
    ap (byte 7) (l.whole ∙ ap (λ x. x ++ l.more) (l.first.3.told ∙ ap (printed 3) own.comes.is)) ∙ first_prints own.later (reply.Done 0 ∷ []) own.comes.standing l.more pass

-- ---- the misses

pub tried_in_falling_order : TriedInFallingOrder
unfolding digits
tried_in_falling_order =
    let r = behind both_wait tt in
    record {
      table = went.table;
      s = story before r.0;
      comes = r.1;
      never = λ later_table after l. let same : 50 ≡ 49 = prints_first r.0 (codes "3 OK 0\n2 OK 0\n1 OK 0\n") later_table after l in omega (arith, same);
    }

pub not_tried_again : NotTriedAgain
unfolding digits
not_tried_again =
    let r = behind both_wait tt in
    record {
      table = went.table;
      s = story before r.0;
      comes = r.1;
      never = λ later_table after l. let same : 0 ≡ 49 = prints_first r.0 (codes "3 OK 0\n") later_table after l in omega (arith, same);
    }
