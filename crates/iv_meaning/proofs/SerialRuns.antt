-- The example's transcript.
use Rattle.std.specs.Prelude.{◌≡◌, ℕ, ◌==◌, Bool, true, false, List, [], ◌∷◌, ◌++◌, map, codes, Some, None, Ok, if◌then◌else◌}
use Rattle.std.specs.Fmt.{digits}
use mathlib.Core.Path.{refl, sym, ap, ◌∙◌}
use mathlib.Core.Logic.{inl, inr}
use Rattle.std.proofs.lemmas.Option.{none-some}
use Rattle.iv_types.specs.declared.reply.Reply.{Reply}
use Rattle.iv_types.specs.declared.reply.Reply.TheVariants as reply
use Rattle.iv_types.specs.declared.statement.Mode.TheVariants.{Serial}
use Rattle.iv_types.specs.Syntax.{StatementTree, begin, commit, rollback, savepoint}
use Rattle.iv_meaning.specs.Statement.{Kept}
use Rattle.iv_meaning.specs.Transaction.{Running, alone, committed, refused_inside}
use Rattle.iv_meaning.specs.Said.{Said, runs}
use Rattle.iv_meaning.specs.Serial.{World, Unended, none, opened_with, set_open, set_unfinished, commits, refused_by_mode, Runs, OwnPiece, IsEnd, WasAlone, IsSerialFrom}
use Rattle.iv_meaning.specs.SerialExample.{shop_database, sold, shows, savepoint_output, SavepointTranscript}
use Rattle.iv_meaning.proofs.SerialLemmas.{alone_piece, taken}
use Rattle.iv_meaning.proofs.SaleLemmas.{returned, first_alone, second_alone, savepoint_alone}
use Rattle.iv_meaning.proofs.Saying.{savepoint_said, savepoint_says}

-- a line with its own piece alone
pub one_line : (said : Said) (more : List Said) (w after : World) (piece rest : List ℕ) → OwnPiece said w piece after → IsSerialFrom after more rest → IsSerialFrom w (said ∷ more) (piece ++ rest)
one_line said more w after piece rest own goes =
    (piece, after, rest, alone_piece said w after piece own, refl, goes)

-- a statement that the mode does not refuse
runs_so : (w after : World) (statement : StatementTree) (piece : List ℕ) → w.unfinished 1 ≡ none → refused_by_mode w (w.running 1) statement ≡ None
    → Runs w 1 statement piece after → OwnPiece (runs 1 (Ok statement)) w piece after
runs_so w after statement piece idle free h = taken w after 1 statement (Runs w 1) piece idle free h

-- ---- the lines

abbrev opened : World
opened = opened_with shop_database

abbrev pub Pairs : Type 0
Pairs = List (StatementTree × List Reply)

abbrev pub open_with : Pairs → Unended
open_with told = record { mode = Serial; number = 2; told = told }

-- the world after a line of the transaction
abbrev next : World → Pairs → World
next w told = set_open (set_unfinished w 1 none) 1 (Some (open_with told))

abbrev pub began : World
began = next opened []

abbrev pub one_told : Pairs
one_told = (sold 1 10, reply.Done 1 ∷ []) ∷ []

abbrev saved_told : Pairs
saved_told = (sold 1 10, reply.Done 1 ∷ []) ∷ (savepoint (codes "s"), reply.Done 0 ∷ []) ∷ []

abbrev two_told : Pairs
two_told = (sold 1 10, reply.Done 1 ∷ []) ∷ (savepoint (codes "s"), reply.Done 0 ∷ []) ∷ (sold 2 5, reply.Done 1 ∷ []) ∷ []

abbrev back_told : Pairs
back_told = (sold 1 10, reply.Done 1 ∷ []) ∷ (savepoint (codes "s"), reply.Done 0 ∷ []) ∷ (sold 2 5, reply.Done 1 ∷ []) ∷ (rollback (Some (codes "s")), reply.Done 0 ∷ []) ∷ []

abbrev all_told : Pairs
all_told = (sold 1 10, reply.Done 1 ∷ []) ∷ (savepoint (codes "s"), reply.Done 0 ∷ []) ∷ (sold 2 5, reply.Done 1 ∷ []) ∷ (rollback (Some (codes "s")), reply.Done 0 ∷ []) ∷ (shows, returned) ∷ []

abbrev pub with_one : World
with_one = next began one_told

abbrev with_saved : World
with_saved = next with_one saved_told

abbrev with_two : World
with_two = next with_saved two_told

abbrev with_back : World
with_back = next with_two back_told

abbrev with_all : World
with_all = next with_back all_told

abbrev ended : World
ended = set_open (commits (set_unfinished with_all 1 none) 1 (alone Serial (map (λ (p : StatementTree × List Reply). p.0) all_told) shop_database).1.kept) 1 None

pub begins : OwnPiece (runs 1 (Ok (begin Serial))) opened (codes "1 OK 0\n") began
unfolding digits
begins = inl (record { replies = reply.Done 0 ∷ []; told = refl; ends = inr (refl, refl) })

pub first_sold : OwnPiece (runs 1 (Ok (sold 1 10))) began (codes "1 OK 1\n") with_one
unfolding digits
first_sold = inl (record { replies = reply.Done 1 ∷ []; told = refl; ends = inr refl })

saves : OwnPiece (runs 1 (Ok (savepoint (codes "s")))) with_one (codes "1 OK 0\n") with_saved
unfolding digits
saves = runs_so with_one with_saved (savepoint (codes "s")) (codes "1 OK 0\n") refl
    (ap (λ (r : List (List Reply) × Running). refused_inside Serial r.1.saved (savepoint (codes "s"))) (first_alone []))
    (inl (record { replies = reply.Done 0 ∷ []; told = refl; ends = inr refl }))

second_sold : OwnPiece (runs 1 (Ok (sold 2 5))) with_saved (codes "1 OK 1\n") with_two
unfolding digits
second_sold = inl (record { replies = reply.Done 1 ∷ []; told = refl; ends = inr refl })

returns : OwnPiece (runs 1 (Ok (rollback (Some (codes "s"))))) with_two (codes "1 OK 0\n") with_back
unfolding digits
returns = runs_so with_two with_back (rollback (Some (codes "s"))) (codes "1 OK 0\n") refl
    (ap (λ (r : List (List Reply) × Running). refused_inside Serial r.1.saved (rollback (Some (codes "s")))) (second_alone []))
    (inl (record { replies = reply.Done 0 ∷ []; told = refl; ends = inr refl }))

shown : OwnPiece (runs 1 (Ok shows)) with_back (codes "1 ROW 7 1 10\n1 OK 1\n") with_all
unfolding digits
shown = inl (record { replies = returned; told = refl; ends = inr refl })

was_alone : WasAlone with_all (open_with all_told)
was_alone = ap (λ r. r.0) savepoint_alone

commits_so : OwnPiece (runs 1 (Ok commit)) with_all (codes "1 COMMIT 3\n") ended
unfolding digits
commits_so = inl (record {
  replies = reply.Commit 3 ∷ [];
  told = refl;
  ends = inr (was_alone, ap (λ (r : List (List Reply) × Running). reply.Commit (committed r.1).number ∷ []) (sym savepoint_alone), refl);
})

-- ---- the end

kept_running : (w : World) (kept : List Kept) (session : ℕ) → (commits w 1 kept).running session ≡ w.running session
kept_running w [] session = refl
kept_running w (k ∷ ks) session = refl

others_idle : (session : ℕ) → (session == 1) ≡ false → with_all.running session ≡ None
others_idle session e = ap (λ b. if b then Some (open_with all_told) else if b then Some (open_with back_told) else if b then Some (open_with two_told) else if b then Some (open_with saved_told) else if b then Some (open_with one_told) else if b then Some (open_with []) else None) e

is_end : IsEnd ended
is_end session o is = by (session == 1) refl
  where
    kept : List Kept
    kept = (alone Serial (map (λ (p : StatementTree × List Reply). p.0) all_told) shop_database).1.kept

    by : (b : Bool) → (session == 1) ≡ b → WasAlone ended o
    by true e = absurd (none-some o (sym (ap (λ b. if b then None else (commits (set_unfinished with_all 1 none) 1 kept).running session) e) ∙ is))
    by false e = absurd (none-some o (sym (others_idle session e) ∙ (sym (kept_running (set_unfinished with_all 1 none) kept session) ∙ (sym (ap (λ b. if b then None else (commits (set_unfinished with_all 1 none) 1 kept).running session) e) ∙ is))))

-- the lines from some on, with what stands in the output for them
from_last : IsSerialFrom with_all (runs 1 (Ok commit) ∷ []) (codes "1 COMMIT 3\n")
from_last = one_line (runs 1 (Ok commit)) [] with_all ended (codes "1 COMMIT 3\n") [] commits_so (refl, is_end)

from_sixth : IsSerialFrom with_back (runs 1 (Ok shows) ∷ runs 1 (Ok commit) ∷ []) (codes "1 ROW 7 1 10\n1 OK 1\n" ++ codes "1 COMMIT 3\n")
from_sixth = one_line (runs 1 (Ok shows)) (runs 1 (Ok commit) ∷ []) with_back with_all (codes "1 ROW 7 1 10\n1 OK 1\n") (codes "1 COMMIT 3\n") shown from_last

from_fifth : IsSerialFrom with_two (runs 1 (Ok (rollback (Some (codes "s")))) ∷ runs 1 (Ok shows) ∷ runs 1 (Ok commit) ∷ []) (codes "1 OK 0\n" ++ (codes "1 ROW 7 1 10\n1 OK 1\n" ++ codes "1 COMMIT 3\n"))
from_fifth = one_line (runs 1 (Ok (rollback (Some (codes "s"))))) (runs 1 (Ok shows) ∷ runs 1 (Ok commit) ∷ []) with_two with_back (codes "1 OK 0\n") (codes "1 ROW 7 1 10\n1 OK 1\n" ++ codes "1 COMMIT 3\n") returns from_sixth

from_fourth : IsSerialFrom with_saved (runs 1 (Ok (sold 2 5)) ∷ runs 1 (Ok (rollback (Some (codes "s")))) ∷ runs 1 (Ok shows) ∷ runs 1 (Ok commit) ∷ []) (codes "1 OK 1\n" ++ (codes "1 OK 0\n" ++ (codes "1 ROW 7 1 10\n1 OK 1\n" ++ codes "1 COMMIT 3\n")))
from_fourth = one_line (runs 1 (Ok (sold 2 5))) (runs 1 (Ok (rollback (Some (codes "s")))) ∷ runs 1 (Ok shows) ∷ runs 1 (Ok commit) ∷ []) with_saved with_two (codes "1 OK 1\n") (codes "1 OK 0\n" ++ (codes "1 ROW 7 1 10\n1 OK 1\n" ++ codes "1 COMMIT 3\n")) second_sold from_fifth

from_third : IsSerialFrom with_one (runs 1 (Ok (savepoint (codes "s"))) ∷ runs 1 (Ok (sold 2 5)) ∷ runs 1 (Ok (rollback (Some (codes "s")))) ∷ runs 1 (Ok shows) ∷ runs 1 (Ok commit) ∷ []) (codes "1 OK 0\n" ++ (codes "1 OK 1\n" ++ (codes "1 OK 0\n" ++ (codes "1 ROW 7 1 10\n1 OK 1\n" ++ codes "1 COMMIT 3\n"))))
from_third = one_line (runs 1 (Ok (savepoint (codes "s")))) (runs 1 (Ok (sold 2 5)) ∷ runs 1 (Ok (rollback (Some (codes "s")))) ∷ runs 1 (Ok shows) ∷ runs 1 (Ok commit) ∷ []) with_one with_saved (codes "1 OK 0\n") (codes "1 OK 1\n" ++ (codes "1 OK 0\n" ++ (codes "1 ROW 7 1 10\n1 OK 1\n" ++ codes "1 COMMIT 3\n"))) saves from_fourth

from_second : IsSerialFrom began (runs 1 (Ok (sold 1 10)) ∷ runs 1 (Ok (savepoint (codes "s"))) ∷ runs 1 (Ok (sold 2 5)) ∷ runs 1 (Ok (rollback (Some (codes "s")))) ∷ runs 1 (Ok shows) ∷ runs 1 (Ok commit) ∷ []) (codes "1 OK 1\n" ++ (codes "1 OK 0\n" ++ (codes "1 OK 1\n" ++ (codes "1 OK 0\n" ++ (codes "1 ROW 7 1 10\n1 OK 1\n" ++ codes "1 COMMIT 3\n")))))
from_second = one_line (runs 1 (Ok (sold 1 10))) (runs 1 (Ok (savepoint (codes "s"))) ∷ runs 1 (Ok (sold 2 5)) ∷ runs 1 (Ok (rollback (Some (codes "s")))) ∷ runs 1 (Ok shows) ∷ runs 1 (Ok commit) ∷ []) began with_one (codes "1 OK 1\n") (codes "1 OK 0\n" ++ (codes "1 OK 1\n" ++ (codes "1 OK 0\n" ++ (codes "1 ROW 7 1 10\n1 OK 1\n" ++ codes "1 COMMIT 3\n")))) first_sold from_third

from_opened : IsSerialFrom opened savepoint_said savepoint_output
from_opened = one_line (runs 1 (Ok (begin Serial))) (runs 1 (Ok (sold 1 10)) ∷ runs 1 (Ok (savepoint (codes "s"))) ∷ runs 1 (Ok (sold 2 5)) ∷ runs 1 (Ok (rollback (Some (codes "s")))) ∷ runs 1 (Ok shows) ∷ runs 1 (Ok commit) ∷ []) opened began (codes "1 OK 0\n") (codes "1 OK 1\n" ++ (codes "1 OK 0\n" ++ (codes "1 OK 1\n" ++ (codes "1 OK 0\n" ++ (codes "1 ROW 7 1 10\n1 OK 1\n" ++ codes "1 COMMIT 3\n"))))) begins from_second

pub savepoint_transcript : SavepointTranscript
savepoint_transcript = (savepoint_said, savepoint_says, from_opened)
