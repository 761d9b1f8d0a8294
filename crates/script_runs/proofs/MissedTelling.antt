-- Replies that no run prints, since no statement ends so.
use Rattle.std.specs.Prelude.{◌≡◌, ◌≢◌, ◌⊎◌, ◌≤◌, ℕ, zero, suc, Bool, true, false, T, List, [], ◌∷◌, ◌++◌, map, codes, length, Option, Some, None, is_some, Ok}
use Rattle.std.specs.Fmt.{digits}
use Rattle.std.specs.FinMap.{empty}
use mathlib.Core.Path.{refl, ap, ◌∙◌}
use mathlib.Core.Logic.{inl, inr}
use Rattle.std.proofs.Common.{arith}
use Rattle.std.proofs.lemmas.List.{length-append}
use Rattle.iv_types.specs.declared.statement.Mode.{Mode}
use Rattle.iv_types.specs.declared.statement.Mode.TheVariants.{Serial}
use Rattle.iv_types.specs.declared.refusal.Refusal.{Refusal}
use Rattle.iv_types.specs.declared.reply.Reply.{Reply}
use Rattle.iv_types.specs.declared.reply.Reply.TheVariants as reply
use Rattle.iv_meaning.specs.Reply.{reply_line, reply_lines}
use Rattle.iv_meaning.specs.Database.{Row}
use Rattle.iv_meaning.specs.Said.{runs}
use Rattle.iv_meaning.specs.SerialExample.{shop_database}
use Rattle.txn_machine.specs.Log.{unlimited}
use Rattle.txn_machine.specs.Laws.{IsReachedStory}
use Rattle.txn_machine.proofs.ShopOpening.{shop_opened}
use Rattle.script_law.specs.Programs.{Standing, Todo, outside_with}
use Rattle.script_law.specs.RunLines.{new_table, all_sessions, Outcome, ended, stuck, stepped, printed}
use Rattle.script_law.specs.Sessions.{start_outside, start_inside}
use Rattle.statement_law.specs.Statements.{statement_work, the_works}
use Rattle.script_runs.specs.Scripts.{opened_shop, sold_to}
use Rattle.script_runs.specs.Misses.{crossed, ToldUncommitted, WrongSessionTold}
use Rattle.script_runs.proofs.Plays.{programs, Went, whole_lines}
use Rattle.script_runs.proofs.Inverting.{byte, line_begins, lines_begin}
use Rattle.script_runs.proofs.Steps.{story}
use Rattle.script_runs.proofs.Scripts.{behind}
use Rattle.script_runs.proofs.Reaching.{lines_lead}
use Rattle.txn_machine.proofs.PlainStates.{start}
use Rattle.script_runs.proofs.Speaking.{Tells, TellsSo, run_tells, inside_work, alone_tells}

pub shop_reached : IsReachedStory opened_shop
shop_reached = record { db = shop_database; view = empty; opening = unlimited; was_opened = shop_opened; steps = []; tells = refl }

-- ---- a statement outside a transaction

-- it is refused, or told with its commit
abbrev IsCommitted : List Reply → Type 0
IsCommitted replies = ((why : Refusal) × (replies ≡ reply.Error why ∷ []))
    ⊎ ((rows : List Row) × (count : ℕ) × (number : ℕ) × (replies ≡ map reply.Row rows ++ reply.Done count ∷ reply.Commit number ∷ []))

abbrev selling : Todo
selling = programs.start (outside_with []) (sold_to 1 7 10)

selling_tells : Tells IsCommitted selling
selling_tells = alone_tells IsCommitted (λ why. inl (why, refl)) the_works (λ rows count number. inr (rows, count, number, refl)) [] (λ held. statement_work Serial held (sold_to 1 7 10))

-- a text has so many bytes
abbrev has : ℕ → List ℕ → Bool
has zero bytes = true
has (suc n) [] = false
has (suc n) (b ∷ bytes) = has n bytes

has_so : (n : ℕ) (bytes : List ℕ) → T (has n bytes) → n ≤ length bytes
has_so zero bytes h = omega arith
has_so (suc n) [] h = absurd h
has_so (suc n) (b ∷ bytes) h = let m = has_so n bytes h in omega (arith, m)

short : List ℕ
short = codes "1 OK 1\n"

too_long : (count number : ℕ) (rest : List ℕ) → codes "1 OK 1\n" ≡ (reply_line 1 (reply.Done count) ++ (reply_line 1 (reply.Commit number) ++ [])) ++ rest → ⊥
unfolding digits
too_long count number rest e =
    let first : List ℕ = reply_line 1 (reply.Done count) in
    let second : List ℕ = reply_line 1 (reply.Commit number) ++ [] in
    let all : 7 ≡ length ((first ++ second) ++ rest) = ap length e in
    let parts = length-append (first ++ second) rest in
    let two = length-append first second in
    let one = has_so 4 first tt in
    let other = has_so 8 second tt in
    omega (arith, all, parts, two, one, other)

not_short : (o : Outcome) (rest : List ℕ) → TellsSo IsCommitted o → codes "1 OK 1\n" ≡ printed 1 o ++ rest → ⊥
unfolding digits
not_short (ended replies standing) rest (inl r) e = let b : 79 ≡ 69 = ap (byte 2) (e ∙ ap (λ x. reply_lines 1 x ++ rest) r.1) in omega (arith, b)
not_short (ended replies standing) rest (inr ([], count, number, is)) e = too_long count number rest (e ∙ ap (λ x. reply_lines 1 x ++ rest) is)
not_short (ended replies standing) rest (inr (row ∷ rows, count, number, is)) e = let b : 79 ≡ 82 = ap (byte 2) (e ∙ ap (λ x. reply_lines 1 x ++ rest) is) in omega (arith, b)
not_short (stuck sessions todo) rest h e = let b : 79 ≡ 87 = ap (byte 2) e in omega (arith, b)
not_short (stepped todo) rest h e = let b : 79 ≡ 83 = ap (byte 2) e in omega (arith, b)

pub told_uncommitted : ToldUncommitted
told_uncommitted after r =
    let b = lines_begin all_sessions (runs 1 (Ok (sold_to 1 7 10))) [] new_table opened_shop (codes "1 OK 1\n") r.table r.last r.of_lines in
    not_short b.first.1 b.rest (run_tells IsCommitted 1 selling opened_shop b.first.0 b.first.1 b.mid b.first.2 shop_reached selling_tells) (b.whole ∙ ap (λ o. o ++ b.rest) b.first.3.told)

-- ---- a deadlock

abbrev AreSome : List Reply → Type 0
AreSome replies = replies ≢ []

listed_some : (rows : List Row) (count : ℕ) → AreSome (map reply.Row rows ++ reply.Done count ∷ [])
listed_some [] count e = absurd (cc)
listed_some (row ∷ rows) count e = absurd (cc)

-- what a line of the second session prints begins with its number
second_first : (o : Outcome) (rest : List ℕ) → TellsSo AreSome o → byte 0 (printed 2 o ++ rest) ≡ 50
unfolding digits
second_first (ended [] standing) rest h = absurd (h refl)
second_first (ended (r ∷ rs) standing) rest h = refl
second_first (stuck sessions todo) rest h = refl
second_first (stepped todo) rest h = refl

-- an insert inside a transaction
insert_tells : (standing : Standing) (id shop amount : ℕ) → T (is_some standing.mode) → Tells AreSome (programs.start standing (sold_to id shop amount))
insert_tells standing id shop amount h = by standing.mode h
  where
    by : (o : Option Mode) → T (is_some o)
        → Tells AreSome (elim o [ None ↦ start_outside the_works standing.copy (sold_to id shop amount) | Some mode ↦ start_inside the_works mode standing (sold_to id shop amount) ])
    by None h = absurd h
    by (Some mode) h = inside_work AreSome (λ why e. absurd (cc)) the_works listed_some mode standing (statement_work mode standing.copy (sold_to id shop amount))

abbrev crossed_went : Went
crossed_went = whole_lines crossed.lines new_table start

crossing_tells : Tells AreSome (programs.start (crossed_went.table 2).standing (sold_to 4 1 5))
crossing_tells = insert_tells (crossed_went.table 2).standing 4 1 5 tt

pub wrong_session_told : WrongSessionTold
unfolding digits
wrong_session_told =
    let r = behind crossed tt in
    let piece : List ℕ = codes "1 ERR 20 Deadlock 1 2\n2 OK 1\n" in
    record {
      table = crossed_went.table;
      s = story crossed_went.left r.0;
      comes = r.1;
      never = λ later_table after l.
          let b = line_begins all_sessions (runs 2 (Ok (sold_to 4 1 5))) crossed_went.table (story crossed_went.left r.0) piece later_table after l in
          let reached = lines_lead all_sessions crossed.lines new_table opened_shop crossed.out crossed_went.table (story crossed_went.left r.0) r.1 shop_reached in
          let same : 49 ≡ 50 = ap (byte 0) (b.whole ∙ ap (λ o. o ++ b.rest) b.first.3.told) ∙ second_first b.first.1 b.rest (run_tells AreSome 2 (programs.start (crossed_went.table 2).standing (sold_to 4 1 5)) (story crossed_went.left r.0) b.first.0 b.first.1 b.mid b.first.2 reached crossing_tells) in
          omega (arith, same);
    }
