-- Outputs that no run prints.
use Rattle.std.specs.Prelude.{◌≡◌, ◌≢◌, ◌⊎◌, ℕ, ◌+◌, Bool, true, false, List, [], ◌∷◌, ◌++◌, codes, None, Ok}
use Rattle.std.specs.Fmt.{digits}
use mathlib.Core.Path.{refl, sym, ap, subst, ◌∙◌}
use mathlib.Core.Logic.{inl, inr}
use Rattle.std.proofs.Common.{arith}
use Rattle.iv_types.specs.declared.statement.Mode.TheVariants.{Serial}
use Rattle.iv_types.specs.declared.refusal.Refusal.{Refusal}
use Rattle.iv_types.specs.declared.refusal.Refusal.TheVariants as refusal
use Rattle.iv_types.specs.declared.refusal.EngineRefusal.{EngineRefusal}
use Rattle.iv_types.specs.declared.refusal.EngineRefusal.TheVariants as engine
use Rattle.iv_types.specs.declared.reply.Reply.TheVariants as reply
use Rattle.iv_types.specs.Syntax.{begin}
use Rattle.iv_meaning.specs.Said.{runs, steps}
use Rattle.txn_machine.specs.Acts as act
use Rattle.txn_machine.specs.Acts.{Act}
use Rattle.txn_machine.specs.Answers as answer
use Rattle.txn_machine.specs.Answers.{Answer}
use Rattle.txn_machine.specs.Store.{Effect}
use Rattle.txn_machine.specs.State.{stop_after}
use Rattle.txn_machine.specs.Steps.{Says}
use Rattle.txn_machine.specs.Alone.{Story}
use Rattle.txn_machine.proofs.PlainStates.{state_of, start}
use Rattle.script_law.specs.Seen.{event}
use Rattle.script_law.specs.Programs.{Standing, Todo, says, asks, outside_with}
use Rattle.script_law.specs.RunLines.{new_table, all_sessions, Outcome, printed, next_of, outcome_of, RunsOn}
use Rattle.script_law.specs.Machine.{DoesOf}
use Rattle.script_law.specs.Sessions.{end_next, stays_out}
use Rattle.statement_law.specs.Telling.{tell}
use Rattle.statement_law.specs.Statements.{the_works}
use Rattle.script_runs.specs.Scripts.{opened_shop}
use Rattle.script_runs.specs.Misses.{loaded, StepOfNone, DeadlockOfBegin, RefusedByNone, TwoStepsAtOnce}
use Rattle.script_runs.proofs.Plays.{programs, Went, whole_lines}
use Rattle.script_runs.proofs.Steps.{story}
use Rattle.script_runs.proofs.Scripts.{behind}
use Rattle.script_runs.proofs.Inverting.{Doing, doing_of, run_by, EndsBy, ends_said, step_by, byte, Begins, line_begins, lines_begin}

-- ---- a step of nothing

pub step_of_none : StepOfNone
unfolding digits
step_of_none after r =
    let b = lines_begin all_sessions (steps 1) [] new_table opened_shop (codes "1 STEP\n") r.table r.last r.of_lines in
    let e : 49 ≡ 48 = ap (byte 0) (b.whole ∙ ap (λ o. o ++ b.rest) b.first.told) in
    omega (arith, e)

-- ---- an engine that goes on

pub stop_none : (s mid : Story) (i : ℕ) (a : Act) (said : Answer) → Doing s i a said mid → s.state.stop ≡ None → (k : ℕ) → s.state.steps ≡ k → stop_after None (k + 1) a said ≡ None → mid.state.stop ≡ None
stop_none s mid i a said d none k e h =
    ap (λ (z : Story). z.state.stop) d.left ∙ (ap (λ st. stop_after st (s.state.steps + 1) a said) none ∙ (ap (λ n. stop_after None (n + 1) a said) e ∙ h))

pub steps_are : (s mid : Story) (i : ℕ) (a : Act) (said : Answer) → Doing s i a said mid → (k : ℕ) → s.state.steps ≡ k → mid.state.steps ≡ k + 1
steps_are s mid i a said d k e = ap (λ (z : Story). z.state.steps) d.left ∙ ap (λ n. n + 1) e

-- ---- a transaction that ends without a commit

abbrev pub closing : Refusal → Standing → (EngineRefusal → Todo) → Todo
closing why standing failed = asks act.End (end_next (says (reply.Error why ∷ []) standing) failed)

closed : (i : ℕ) (why : Refusal) (standing : Standing) (failed : EngineRefusal → Todo) (s mid : Story) (said : Answer) (memory : Bool) (es : List Effect) → Says s.state i act.End said es
    → (n : ℕ) (o : Outcome) (after : Story) → RunsOn DoesOf programs (tell [] None) i (next_of (closing why standing failed) said memory) mid n o after → EndsBy (reply.Error why ∷ []) o
closed i why standing failed s mid answer.Ended memory es h n o after r = ends_said i (reply.Error why ∷ []) standing mid n o after r
closed i why standing failed s mid (answer.Refused (engine.Deadlock cycle)) memory es h n o after r = absurd (h.0)
closed i why standing failed s mid (answer.Refused engine.NoMemory) memory es h n o after r = absurd (h.0)
closed i why standing failed s mid (answer.Refused w) memory es h n o after r = absurd h
closed i why standing failed s mid (answer.Blocked x) memory es h n o after r = absurd (h.0)
closed i why standing failed s mid said memory es h n o after r = absurd h

pub closes : (i : ℕ) (why : Refusal) (standing : Standing) (failed : EngineRefusal → Todo) (s : Story) → s.state.stop ≡ None
    → (n : ℕ) (o : Outcome) (after : Story) → RunsOn DoesOf programs (tell [] None) i (closing why standing failed) s n o after → EndsBy (reply.Error why ∷ []) o
closes i why standing failed s none n o after r = elim (run_by i (closing why standing failed) s n o after r act.End refl) [
  | inl b ↦ absurd ((doing_of s i act.End (answer.Blocked b.sessions) after none b.does).says.0)
  | inr m ↦ let d = doing_of s i act.End m.said m.mid none m.does in closed i why standing failed s m.mid m.said m.memory d.effects d.says m.fewer o after m.more
]

-- ---- BEGIN

abbrev BeginsOr : Outcome → Type 0
BeginsOr o = EndsBy (reply.Done 0 ∷ []) o ⊎ EndsBy (reply.Error refusal.NoMemory ∷ []) o

abbrev beginning : Todo
beginning = programs.start (outside_with []) (begin Serial)

abbrev learning : ℕ → Todo
learning number = next_of beginning (answer.Begun number 2) true

defs_told : (number : ℕ) (s mid : Story) → mid.state.stop ≡ None → (said : Answer) (memory : Bool) (es : List Effect) → Says s.state 1 act.Defs said es
    → (n : ℕ) (o : Outcome) (after : Story) → RunsOn DoesOf programs (tell [] None) 1 (next_of (learning number) said memory) mid n o after → BeginsOr o
defs_told number s mid none (answer.Defs objects) true es h n o after r = inl (ends_said 1 (reply.Done 0 ∷ []) _ mid n o after r)
defs_told number s mid none (answer.Defs objects) false es h n o after r = inr (closes 1 refusal.NoMemory (outside_with []) (stays_out the_works []) mid none n o after r)
defs_told number s mid none (answer.Refused (engine.Deadlock cycle)) memory es h n o after r = absurd (h.0)
defs_told number s mid none (answer.Refused engine.NoMemory) memory es h n o after r = inr (closes 1 refusal.NoMemory (outside_with []) (stays_out the_works []) mid none n o after r)
defs_told number s mid none (answer.Refused w) memory es h n o after r = absurd h
defs_told number s mid none (answer.Blocked x) memory es h n o after r = absurd (h.0)
defs_told number s mid none said memory es h n o after r = absurd h

-- no answer of Defs stops an engine
defs_go_on : (s : Story) (said : Answer) (es : List Effect) → Says s.state 1 act.Defs said es → stop_after None 2 act.Defs said ≡ None
defs_go_on s (answer.Defs objects) es h = refl
defs_go_on s (answer.Refused (engine.Deadlock cycle)) es h = refl
defs_go_on s (answer.Refused engine.NoMemory) es h = refl
defs_go_on s (answer.Refused w) es h = absurd h
defs_go_on s (answer.Blocked x) es h = refl
defs_go_on s said es h = absurd h

learns : (number : ℕ) (s : Story) → s.state.stop ≡ None → s.state.steps ≡ 1
    → (n : ℕ) (o : Outcome) (after : Story) → RunsOn DoesOf programs (tell [] None) 1 (learning number) s n o after → BeginsOr o
learns number s none one n o after r = elim (run_by 1 (learning number) s n o after r act.Defs refl) [
  | inl b ↦ absurd ((doing_of s 1 act.Defs (answer.Blocked b.sessions) after none b.does).says.0)
  | inr m ↦
      let d = doing_of s 1 act.Defs m.said m.mid none m.does in
      defs_told number s m.mid (stop_none s m.mid 1 act.Defs m.said d none 1 one (defs_go_on s m.said d.effects d.says)) m.said m.memory d.effects d.says m.fewer o after m.more
]

begin_told : (mid : Story) (said : Answer) (memory : Bool) → Doing opened_shop 1 (act.Begin Serial) said mid
    → (n : ℕ) (o : Outcome) (after : Story) → RunsOn DoesOf programs (tell [] None) 1 (next_of beginning said memory) mid n o after → BeginsOr o
begin_told mid (answer.Begun number defs) true d n o after r =
    learns number mid (stop_none opened_shop mid 1 (act.Begin Serial) (answer.Begun number defs) d refl 0 refl refl) (steps_are opened_shop mid 1 (act.Begin Serial) (answer.Begun number defs) d 0 refl) n o after
    (subst (λ x. RunsOn DoesOf programs (tell [] None) 1 (next_of beginning (answer.Begun number x) true) mid n o after) d.says.defs_are r)
begin_told mid (answer.Begun number defs) false d n o after r =
    inr (closes 1 refusal.NoMemory (outside_with []) (stays_out the_works []) mid (stop_none opened_shop mid 1 (act.Begin Serial) (answer.Begun number defs) d refl 0 refl refl) n o after r)
begin_told mid (answer.Refused (engine.Deadlock cycle)) memory d n o after r = absurd (d.says.0)
begin_told mid (answer.Refused engine.NoMemory) memory d n o after r = inr (ends_said 1 (reply.Error refusal.NoMemory ∷ []) (outside_with []) mid n o after r)
begin_told mid (answer.Refused (engine.LogFull used reserved need)) memory d n o after r = absurd (d.says.3.full)
begin_told mid (answer.Refused (engine.HistoryFull kept need)) memory d n o after r =
    let k : kept ≡ 0 = d.says.2.kept_is in
    let w : need ≡ 256 = d.says.1 in
    let full = d.says.2.full in
    absurd (omega (arith, k, w, full))
begin_told mid (answer.Refused w) memory d n o after r = absurd (d.says)
begin_told mid (answer.Blocked x) memory d n o after r = absurd (d.says.0)
begin_told mid said memory d n o after r = absurd (d.says)

begin_prints : (n : ℕ) (o : Outcome) (after : Story) → RunsOn DoesOf programs (tell [] None) 1 beginning opened_shop n o after → BeginsOr o
begin_prints n o after r = elim (run_by 1 beginning opened_shop n o after r (act.Begin Serial) refl) [
  | inl b ↦ absurd ((doing_of opened_shop 1 (act.Begin Serial) (answer.Blocked b.sessions) after refl b.does).says.0)
  | inr m ↦ begin_told m.mid m.said m.memory (doing_of opened_shop 1 (act.Begin Serial) m.said m.mid refl m.does) m.fewer o after m.more
]

-- another refusal is not told
begin_misses : (out : List ℕ) → byte 2 out ≡ 69 → byte 7 out ≢ 57 → (b : Begins (runs 1 (Ok (begin Serial))) new_table opened_shop out) → ⊥
unfolding digits
begin_misses out two seven b = elim (begin_prints b.first.0 b.first.1 b.mid b.first.2) [
  | inl e ↦ let same : 69 ≡ 79 = sym two ∙ ap (byte 2) (b.whole ∙ ap (λ o. o ++ b.rest) (b.first.3.told ∙ ap (printed 1) e.is)) in omega (arith, same)
  | inr e ↦ seven (ap (byte 7) (b.whole ∙ ap (λ o. o ++ b.rest) (b.first.3.told ∙ ap (printed 1) e.is)))
]

pub deadlock_of_begin : DeadlockOfBegin
deadlock_of_begin after r =
    begin_misses (codes "1 ERR 20 Deadlock 1 2\n") refl (λ e. omega (arith, e)) (lines_begin all_sessions (runs 1 (Ok (begin Serial))) [] new_table opened_shop (codes "1 ERR 20 Deadlock 1 2\n") r.table r.last r.of_lines)

pub refused_by_none : RefusedByNone
refused_by_none after r =
    begin_misses (codes "1 ERR 22 LogFull 0 0 40\n") refl (λ e. omega (arith, e)) (lines_begin all_sessions (runs 1 (Ok (begin Serial))) [] new_table opened_shop (codes "1 ERR 22 LogFull 0 0 40\n") r.table r.last r.of_lines)

-- ---- two steps at once

once_begun : (said : Answer) (memory : Bool) (es : List Effect) → Says (state_of start) 1 (act.Begin Serial) said es → (rest : List ℕ)
    → codes "1 OK 0\n" ≡ printed 1 (outcome_of (event (act.Begin Serial) said) beginning (next_of beginning said memory)) ++ rest → ⊥
unfolding digits
once_begun (answer.Begun number defs) true es h rest e =
    let s : 79 ≡ 83 = ap (byte 2) (e ∙ ap (λ x. printed 1 (outcome_of (event (act.Begin Serial) (answer.Begun number x)) beginning (next_of beginning (answer.Begun number x) true)) ++ rest) h.defs_are) in
    omega (arith, s)
once_begun (answer.Begun number defs) false es h rest e = let s : 79 ≡ 83 = ap (byte 2) e in omega (arith, s)
once_begun (answer.Refused (engine.Deadlock cycle)) memory es h rest e = absurd (h.0)
once_begun (answer.Refused why) memory es h rest e = let s : 79 ≡ 69 = ap (byte 2) e in omega (arith, s)
once_begun (answer.Blocked x) memory es h rest e = absurd (h.0)
once_begun said memory es h rest e = absurd h

pub two_steps_at_once : TwoStepsAtOnce
unfolding digits
two_steps_at_once =
    let w : Went = whole_lines loaded.lines new_table start in
    let r = behind loaded tt in
    record {
      table = w.table;
      s = story w.left r.0;
      comes = r.1;
      never = λ later_table after l.
          let b = line_begins all_sessions (steps 1) w.table (story w.left r.0) (codes "1 OK 0\n") later_table after l in
          let o = step_by 1 beginning (story start r.0) b.first.0 b.mid b.first.1 (act.Begin Serial) refl in
          let d = doing_of (story start r.0) 1 (act.Begin Serial) o.said b.mid refl o.does in
          once_begun o.said o.memory d.effects d.says b.rest (b.whole ∙ ap (λ x. x ++ b.rest) (b.first.2.told ∙ ap (printed 1) o.comes));
    }
