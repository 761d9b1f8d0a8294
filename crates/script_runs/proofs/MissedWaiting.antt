-- Waits that no run prints.
use Rattle.std.specs.Prelude.{◌≡◌, ◌≢◌, ◌⊎◌, ℕ, Bool, true, false, List, [], ◌∷◌, ◌++◌, codes, ℤ, None, Ok}
use Rattle.std.specs.Fmt.{digits}
use Rattle.std.specs.List.{AllZip, Contains}
use mathlib.Core.Path.{refl, ap, subst, ◌∙◌}
use mathlib.Core.Logic.{inl, inr}
use Rattle.std.proofs.Common.{arith}
use Rattle.iv_types.specs.declared.lock.LockMode.TheVariants.{Share}
use Rattle.iv_types.specs.declared.lock.Want.{Want}
use Rattle.iv_types.specs.declared.session.Sessions.{Sessions}
use Rattle.iv_types.specs.declared.refusal.Refusal.{Refusal}
use Rattle.iv_types.specs.declared.refusal.Refusal.TheVariants as refusal
use Rattle.iv_types.specs.declared.refusal.EngineRefusal.TheVariants as engine
use Rattle.iv_types.specs.declared.reply.Reply.TheVariants as reply
use Rattle.iv_types.specs.Replies.{members}
use Rattle.table_laws.specs.Place.{Place}
use Rattle.table_laws.specs.Table.{rows_where}
use Rattle.iv_meaning.specs.Database.{Row}
use Rattle.iv_meaning.specs.Said.{runs}
use Rattle.iv_meaning.specs.SerialExample.{by_shop, shows}
use Rattle.txn_machine.specs.Acts as act
use Rattle.txn_machine.specs.Acts.{Act}
use Rattle.txn_machine.specs.Answers as answer
use Rattle.txn_machine.specs.Answers.{Answer}
use Rattle.txn_machine.specs.Stored.{IsShown, is_shown}
use Rattle.txn_machine.specs.State.{State}
use Rattle.txn_machine.specs.Steps.{IsFree, IsBlocked}
use Rattle.txn_machine.specs.Alone.{Story}
use Rattle.txn_machine.specs.Example.{all_keys}
use Rattle.txn_machine.proofs.Holding.{contains_here}
use Rattle.txn_machine.proofs.PlainStates.{shop_schema, state_of, start}
use Rattle.txn_machine.proofs.Playing.{read_want}
use Rattle.txn_machine.proofs.Tabled.{entries_are}
use Rattle.txn_machine.proofs.MovesAlone.{in_order, free}
use Rattle.script_law.specs.Programs.{Todo}
use Rattle.script_law.specs.RunLines.{new_table, all_sessions, Outcome, printed, next_of, RunsOn}
use Rattle.script_law.specs.Machine.{DoesOf}
use Rattle.statement_law.specs.Telling.{tell}
use Rattle.script_runs.specs.Misses.{begun, WaitsForNobody}
use Rattle.script_runs.proofs.Plays.{programs, Went, whole_lines}
use Rattle.script_runs.proofs.Steps.{Told, story}
use Rattle.script_runs.proofs.Scripts.{behind}
use Rattle.script_runs.proofs.Inverting.{Doing, doing_of, run_by, EndsBy, ends_said, byte, line_begins}
use Rattle.script_runs.proofs.Missed.{closes, stop_none}

-- who waits is told of somebody
first_of : (sessions : List ℕ) → sessions ≢ [] → (other : ℕ) × Contains sessions other
first_of [] n = absurd (n refl)
first_of (x ∷ xs) n = (x, contains_here x xs)

pub not_blocked : (s : State) (i : ℕ) (wants : List Want) (sessions : Sessions) → IsFree s.store i wants → IsBlocked s i wants sessions → ⊥
not_blocked s i wants sessions nobody b = let one = first_of (members sessions) b.not_empty in nobody one.0 ((b.in_the_way one.0).0 one.1)

-- ---- a reader of an empty view

abbrev went : Went
went = whole_lines begun.lines new_table start

abbrev reading : Todo
reading = programs.start (went.table 1).standing shows

pub no_rows : (rows : List Row) → AllZip (IsShown shop_schema by_shop) [] rows → rows ≡ []
no_rows [] h = refl
no_rows (row ∷ rows) h = absurd h

-- it lists nothing, or is refused
abbrev ListsNone : Outcome → Type 0
ListsNone o = EndsBy (reply.Done 0 ∷ []) o ⊎ ((why : Refusal) × EndsBy (reply.Error why ∷ []) o)

abbrev reads : Act
reads = act.Fetch 2 all_keys Share

read_told : (told : Told) (mid : Story) (said : Answer) (memory : Bool) → Doing (story went.left told) 1 reads said mid
    → (n : ℕ) (o : Outcome) (after : Story) → RunsOn DoesOf programs (tell [] None) 1 (next_of reading said memory) mid n o after → ListsNone o
read_told told mid (answer.Rows rows) memory d n o after r =
    let none : rows ≡ [] = no_rows rows (subst (λ (es : List (Place × List ℤ)). AllZip (IsShown shop_schema by_shop) (rows_where (is_shown 2 all_keys) es) rows) (entries_are [] tt) d.says.found) in
    by_memory memory (subst (λ x. RunsOn DoesOf programs (tell [] None) 1 (next_of reading (answer.Rows x) memory) mid n o after) none r)
  where
    by_memory : (m : Bool) → RunsOn DoesOf programs (tell [] None) 1 (next_of reading (answer.Rows []) m) mid n o after → ListsNone o
    by_memory true r = inl (ends_said 1 (reply.Done 0 ∷ []) _ mid n o after r)
    by_memory false r = inr (refusal.NoMemory, ends_said 1 (reply.Error refusal.NoMemory ∷ []) _ mid n o after r)
read_told told mid (answer.Refused (engine.Deadlock cycle)) memory d n o after r =
    inr (refusal.Deadlock cycle, closes 1 (refusal.Deadlock cycle) _ _ mid (stop_none (story went.left told) mid 1 reads (answer.Refused (engine.Deadlock cycle)) d refl went.left.of.steps refl refl) n o after r)
read_told told mid (answer.Refused engine.NoMemory) memory d n o after r = inr (refusal.NoMemory, ends_said 1 (reply.Error refusal.NoMemory ∷ []) _ mid n o after r)
read_told told mid (answer.Refused (engine.TxnFull kept need)) memory d n o after r = inr (refusal.TxnFull kept need, ends_said 1 (reply.Error (refusal.TxnFull kept need) ∷ []) _ mid n o after r)
read_told told mid (answer.Refused w) memory d n o after r = absurd (d.says)
read_told told mid (answer.Blocked sessions) memory d n o after r =
    absurd (not_blocked (state_of went.left) 1 (read_want 2 all_keys Share) sessions (free went.left 1 (in_order went.left tt) (omega arith) (read_want 2 all_keys Share) tt) d.says.1)
read_told told mid said memory d n o after r = absurd (d.says)

read_prints : (told : Told) (n : ℕ) (o : Outcome) (after : Story) → RunsOn DoesOf programs (tell [] None) 1 reading (story went.left told) n o after → ListsNone o
read_prints told n o after r = elim (run_by 1 reading (story went.left told) n o after r reads refl) [
  | inl b ↦ absurd (not_blocked (state_of went.left) 1 (read_want 2 all_keys Share) b.sessions (free went.left 1 (in_order went.left tt) (omega arith) (read_want 2 all_keys Share) tt)
      (doing_of (story went.left told) 1 reads (answer.Blocked b.sessions) after refl b.does).says.1)
  | inr m ↦ read_told told m.mid m.said m.memory (doing_of (story went.left told) 1 reads m.said m.mid refl m.does) m.fewer o after m.more
]

abbrev wait : List ℕ
wait = codes "1 WAIT 2\n"

pub waits_for_nobody : WaitsForNobody
unfolding digits
waits_for_nobody =
    let r = behind begun tt in
    record {
      table = went.table;
      s = story went.left r.0;
      comes = r.1;
      never = λ later_table after l.
          let b = line_begins all_sessions (runs 1 (Ok shows)) went.table (story went.left r.0) wait later_table after l in
          elim (read_prints r.0 b.first.0 b.first.1 b.mid b.first.2) [
            | inl e ↦ let same : 87 ≡ 79 = ap (byte 2) (b.whole ∙ ap (λ o. o ++ b.rest) (b.first.3.told ∙ ap (printed 1) e.is)) in omega (arith, same)
            | inr e ↦ let same : 87 ≡ 69 = ap (byte 2) (b.whole ∙ ap (λ o. o ++ b.rest) (b.first.3.told ∙ ap (printed 1) e.1.is)) in omega (arith, same)
          ];
    }
