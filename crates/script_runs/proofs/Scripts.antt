-- A script that is played prints what the play says.
use Rattle.std.specs.Prelude.{◌≡◌, ℕ, ◌&&◌, T, List, [], None}
use Rattle.std.specs.Str.{bytes_eq}
use mathlib.Core.Path.{subst}
use Rattle.iv_meaning.specs.Schema.{Schema}
use Rattle.iv_meaning.specs.Database.{Database}
use Rattle.iv_meaning.specs.Said.{Said}
use Rattle.txn_machine.specs.State.{State}
use Rattle.txn_machine.specs.Alone.{Story, begun_story}
use Rattle.txn_machine.proofs.PlainStates.{bare, Plain, state_of, start_with, shop_schema, start}
use Rattle.txn_machine.proofs.Played.{begins_at, start_is}
use Rattle.txn_machine.specs.Laws.{IsOpened}
use Rattle.txn_machine.specs.Log.{unlimited}
use Rattle.std.specs.FinMap.{empty}
use Rattle.txn_machine.proofs.Testing.{bytes_same, left_one, right_one}
use Rattle.script_law.specs.RunLines.{new_table, all_sessions, RunsLines, RunsScript}
use Rattle.script_law.specs.Machine.{DoesOf, seen_of}
use Rattle.statement_law.specs.Telling.{tell}
use Rattle.statement_law.proofs.Works.{statements_law}
use Rattle.script_runs.specs.Scripts.{Script, RunsTo, IsPrintedOn, IsPrinted, IsTranscriptOn, opened_shop}
use Rattle.script_runs.proofs.Plays.{programs, Went, whole_lines, leave_all, plays}
use Rattle.script_runs.proofs.Steps.{Told, story}
use Rattle.script_runs.proofs.Lines.{lines_so}
use Rattle.script_runs.proofs.Ends.{leave_so}

-- on a database of these definitions without rows
prints : (n : ℕ) (objects : Schema) (lines : List Said) (out : List ℕ) → T (plays (start_with n objects) lines out) → (after : Story) × RunsTo (bare n objects) lines out after
prints n objects lines out h =
    let begun : Plain = start_with n objects in
    let none_told : Told = λ session. [] in
    let w : Went = whole_lines lines new_table begun in
    let more = right_one w.passes (bytes_eq w.out out && (leave_all all_sessions w.table w.left).passes) h in
    let r = lines_so lines new_table begun (left_one w.passes (bytes_eq w.out out && (leave_all all_sessions w.table w.left).passes) h) none_told in
    let same : w.out ≡ out = bytes_same w.out out (left_one (bytes_eq w.out out) (leave_all all_sessions w.table w.left).passes more) in
    let last = leave_so all_sessions w.table w.left (right_one (bytes_eq w.out out) (leave_all all_sessions w.table w.left).passes more) r.0 in (
      story (leave_all all_sessions w.table w.left).left last.0,
      subst (λ (s : State). RunsScript DoesOf programs (tell [] None) seen_of lines (begun_story s) out (story (leave_all all_sessions w.table w.left).left last.0)) (begins_at n objects)
          (record {
            table = w.table;
            last = story w.left r.0;
            of_lines = subst (λ (o : List ℕ). RunsLines DoesOf programs (tell [] None) all_sessions lines new_table (begun_story (state_of begun)) o w.table (story w.left r.0)) same r.1;
            leaves = last.1;
          }),
    )

pub printed_on : (n : ℕ) (objects : Schema) (s : Script) → T (plays (start_with n objects) s.lines s.out) → IsPrintedOn (bare n objects) s
printed_on n objects s h = prints n objects s.lines s.out h

-- on the shop
pub printed : (s : Script) → T (plays start s.lines s.out) → IsPrinted s
printed s h = printed_on 2 shop_schema s h

-- and that is serial
pub serial : (db : Database) → IsOpened db empty → (s : Script) → IsPrintedOn db s → IsTranscriptOn db s
serial db opened s run = (statements_law db empty unlimited opened s.lines s.out run.0 run.1).0

-- lines that are played lead to what is left of them
pub behind : (s : Script) → (let w : Went = whole_lines s.lines new_table start in T (w.passes && bytes_eq w.out s.out)) → (told : Told)
    × RunsLines DoesOf programs (tell [] None) all_sessions s.lines new_table opened_shop s.out (whole_lines s.lines new_table start).table (story (whole_lines s.lines new_table start).left told)
behind s h =
    let w : Went = whole_lines s.lines new_table start in
    let r = lines_so s.lines new_table start (left_one w.passes (bytes_eq w.out s.out) h) (λ session. []) in (
      r.0,
      subst (λ (o : List ℕ). RunsLines DoesOf programs (tell [] None) all_sessions s.lines new_table opened_shop o w.table (story w.left r.0)) (bytes_same w.out s.out (right_one w.passes (bytes_eq w.out s.out) h))
          (subst (λ (x : State). RunsLines DoesOf programs (tell [] None) all_sessions s.lines new_table (begun_story x) w.out w.table (story w.left r.0)) start_is r.1),
    )
