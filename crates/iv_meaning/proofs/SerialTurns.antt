-- The example's transcripts of several sessions.
use Rattle.std.specs.Prelude.{◌≡◌, ◌==◌, Bool, true, false, List, [], ◌∷◌, ◌++◌, codes, Some, None, Ok, if◌then◌else◌}
use Rattle.std.specs.Fmt.{digits}
use mathlib.Core.Path.{refl, sym, ap, ◌∙◌}
use mathlib.Core.Logic.{inl, inr}
use Rattle.std.proofs.lemmas.Option.{none-some}
use Rattle.iv_types.specs.declared.reply.Reply.{Reply}
use Rattle.iv_types.specs.declared.reply.Reply.TheVariants as reply
use Rattle.iv_types.specs.declared.statement.Mode.TheVariants.{Serial, Snapshot}
use Rattle.iv_types.specs.Syntax.{StatementTree, begin, commit}
use Rattle.iv_meaning.specs.Transaction.{Running, committed}
use Rattle.iv_meaning.specs.Said.{runs, loads, steps}
use Rattle.iv_meaning.specs.Serial.{World, Unended, none, waits, loaded, opened_with, set_open, set_unfinished, commits, OwnPiece, IsEnd, IsSerialFrom}
use Rattle.iv_meaning.specs.SerialExample.{shop_database, sold, shows, StepsTranscript, WaitsTranscript}
use Rattle.iv_meaning.proofs.SaleLemmas.{returned, kept_one, first_alone, sold_outside, shows_outside, snapshot_alone}
use Rattle.iv_meaning.proofs.SerialRuns.{one_line, open_with, one_told, began, with_one, begins, first_sold}

abbrev first : World
first = opened_with shop_database

-- ---- a snapshot in steps

abbrev snapshot_of : List (StatementTree × List Reply) → Unended
snapshot_of told = record { mode = Snapshot; number = 2; told = told }

abbrev loaded_world : World
loaded_world = set_unfinished first 2 (loaded (begin Snapshot) None)

abbrev stepped : World
stepped = set_unfinished loaded_world 2 (loaded (begin Snapshot) (Some 2))

abbrev sold_between : World
sold_between = commits (set_unfinished stepped 1 none) 1 kept_one

abbrev snapshot_open : World
snapshot_open = set_open (set_unfinished sold_between 2 none) 2 (Some (snapshot_of []))

abbrev snapshot_shown : World
snapshot_shown = set_open (set_unfinished snapshot_open 2 none) 2 (Some (snapshot_of ((shows, reply.Done 0 ∷ []) ∷ [])))

abbrev snapshot_ended : World
snapshot_ended = set_open (set_unfinished snapshot_shown 2 none) 2 None

loads_so : OwnPiece (loads 2 (Ok (begin Snapshot))) first (codes "2 STEP\n") loaded_world
unfolding digits
loads_so = record { told = refl; left_is = refl }

steps_so : OwnPiece (steps 2) loaded_world (codes "2 STEP\n") stepped
unfolding digits
steps_so = inr (inl (record { told = refl; left_is = refl }))

sells : OwnPiece (runs 1 (Ok (sold 1 10))) stepped (codes "1 OK 1\n1 COMMIT 3\n") sold_between
unfolding digits
sells = inl (record {
  replies = reply.Done 1 ∷ reply.Commit 3 ∷ [];
  told = refl;
  ends = inr (sym (ap (λ t. t.replies) sold_outside), sym (ap (λ t. commits (set_unfinished stepped 1 none) 1 t.kept) sold_outside));
})

begins_snapshot : OwnPiece (steps 2) sold_between (codes "2 SNAPSHOT 2\n") snapshot_open
unfolding digits
begins_snapshot = inl (record { replies = reply.Snapshot 2 ∷ []; told = refl; ends = inr (refl, refl) })

shows_none : OwnPiece (runs 2 (Ok shows)) snapshot_open (codes "2 OK 0\n") snapshot_shown
unfolding digits
shows_none = inl (record { replies = reply.Done 0 ∷ []; told = refl; ends = inr refl })

ends_snapshot : OwnPiece (runs 2 (Ok commit)) snapshot_shown (codes "2 COMMIT 2\n") snapshot_ended
unfolding digits
ends_snapshot = inl (record {
  replies = reply.Commit 2 ∷ [];
  told = refl;
  ends = inr (
    ap (λ r. r.0) snapshot_alone,
    ap (λ (r : List (List Reply) × Running). reply.Commit (committed r.1).number ∷ []) (sym snapshot_alone),
    ap (λ (r : List (List Reply) × Running). set_open (commits (set_unfinished snapshot_shown 2 none) 2 r.1.kept) 2 None) (sym snapshot_alone),
  );
})

snapshot_end : IsEnd snapshot_ended
snapshot_end session o is = absurd (none-some o (sym (by (session == 2)) ∙ is))
  where
    by : (b : Bool) → (if b then None else if b then Some (snapshot_of ((shows, reply.Done 0 ∷ []) ∷ [])) else if b then Some (snapshot_of []) else None) ≡ None
    by true = refl
    by false = refl

pub steps_transcript : StepsTranscript
steps_transcript =
    let last : IsSerialFrom snapshot_shown (runs 2 (Ok commit) ∷ []) (codes "2 COMMIT 2\n") = one_line (runs 2 (Ok commit)) [] snapshot_shown snapshot_ended (codes "2 COMMIT 2\n") [] ends_snapshot (refl, snapshot_end) in
    let fifth : IsSerialFrom snapshot_open (runs 2 (Ok shows) ∷ runs 2 (Ok commit) ∷ []) (codes "2 OK 0\n" ++ codes "2 COMMIT 2\n") = one_line (runs 2 (Ok shows)) (runs 2 (Ok commit) ∷ []) snapshot_open snapshot_shown (codes "2 OK 0\n") (codes "2 COMMIT 2\n") shows_none last in
    let fourth : IsSerialFrom sold_between (steps 2 ∷ runs 2 (Ok shows) ∷ runs 2 (Ok commit) ∷ []) (codes "2 SNAPSHOT 2\n" ++ (codes "2 OK 0\n" ++ codes "2 COMMIT 2\n")) =
    one_line (steps 2) (runs 2 (Ok shows) ∷ runs 2 (Ok commit) ∷ []) sold_between snapshot_open (codes "2 SNAPSHOT 2\n") (codes "2 OK 0\n" ++ codes "2 COMMIT 2\n") begins_snapshot fifth in
    let third : IsSerialFrom stepped (runs 1 (Ok (sold 1 10)) ∷ steps 2 ∷ runs 2 (Ok shows) ∷ runs 2 (Ok commit) ∷ []) (codes "1 OK 1\n1 COMMIT 3\n" ++ (codes "2 SNAPSHOT 2\n" ++ (codes "2 OK 0\n" ++ codes "2 COMMIT 2\n"))) =
    one_line (runs 1 (Ok (sold 1 10))) (steps 2 ∷ runs 2 (Ok shows) ∷ runs 2 (Ok commit) ∷ []) stepped sold_between (codes "1 OK 1\n1 COMMIT 3\n") (codes "2 SNAPSHOT 2\n" ++ (codes "2 OK 0\n" ++ codes "2 COMMIT 2\n")) sells fourth in
    let second : IsSerialFrom loaded_world (steps 2 ∷ runs 1 (Ok (sold 1 10)) ∷ steps 2 ∷ runs 2 (Ok shows) ∷ runs 2 (Ok commit) ∷ []) (codes "2 STEP\n" ++ (codes "1 OK 1\n1 COMMIT 3\n" ++ (codes "2 SNAPSHOT 2\n" ++ (codes "2 OK 0\n" ++ codes "2 COMMIT 2\n")))) =
    one_line (steps 2) (runs 1 (Ok (sold 1 10)) ∷ steps 2 ∷ runs 2 (Ok shows) ∷ runs 2 (Ok commit) ∷ []) loaded_world stepped (codes "2 STEP\n") (codes "1 OK 1\n1 COMMIT 3\n" ++ (codes "2 SNAPSHOT 2\n" ++ (codes "2 OK 0\n" ++ codes "2 COMMIT 2\n"))) steps_so third in
    one_line (loads 2 (Ok (begin Snapshot))) (steps 2 ∷ runs 1 (Ok (sold 1 10)) ∷ steps 2 ∷ runs 2 (Ok shows) ∷ runs 2 (Ok commit) ∷ []) first loaded_world (codes "2 STEP\n")
    (codes "2 STEP\n" ++ (codes "1 OK 1\n1 COMMIT 3\n" ++ (codes "2 SNAPSHOT 2\n" ++ (codes "2 OK 0\n" ++ codes "2 COMMIT 2\n")))) loads_so second

-- ---- a session that waits

abbrev waiting : World
waiting = set_unfinished with_one 2 (waits shows 2)

-- the first commits
abbrev freed : World
freed = set_open (commits (set_unfinished waiting 1 none) 1 kept_one) 1 None

-- and the second ends
abbrev all_ended : World
all_ended = set_unfinished freed 2 none

waits_so : OwnPiece (runs 2 (Ok shows)) with_one (codes "2 WAIT 1\n") waiting
unfolding digits
waits_so = inr (record { for = record { bits = 1 }; goes_on = record { told = refl; left_is = refl } })

commits_one : OwnPiece (runs 1 (Ok commit)) waiting (codes "1 COMMIT 3\n") freed
unfolding digits
commits_one = inl (record {
  replies = reply.Commit 3 ∷ [];
  told = refl;
  ends = inr (
    ap (λ r. r.0) (first_alone []),
    ap (λ (r : List (List Reply) × Running). reply.Commit (committed r.1).number ∷ []) (sym (first_alone [])),
    ap (λ (r : List (List Reply) × Running). set_open (commits (set_unfinished waiting 1 none) 1 r.1.kept) 1 None) (sym (first_alone [])),
  );
})

waits_end : IsEnd all_ended
waits_end session o is = absurd (none-some o (sym (by (session == 1)) ∙ is))
  where
    by : (b : Bool) → (if b then None else if b then Some (open_with one_told) else if b then Some (open_with []) else None) ≡ None
    by true = refl
    by false = refl

-- the line of the commit, with the end of the other behind it
answers_both : IsSerialFrom waiting (runs 1 (Ok commit) ∷ []) (codes "1 COMMIT 3\n2 ROW 7 1 10\n2 OK 1\n2 COMMIT 3\n")
unfolding digits
answers_both = (
  codes "1 COMMIT 3\n2 ROW 7 1 10\n2 OK 1\n2 COMMIT 3\n",
  all_ended,
  [],
  record {
    own = codes "1 COMMIT 3\n";
    between = freed;
    first = commits_one;
    retried = (2, codes "2 ROW 7 1 10\n2 OK 1\n2 COMMIT 3\n") ∷ [];
    more = codes "2 ROW 7 1 10\n2 OK 1\n2 COMMIT 3\n";
    later = (
      all_ended,
      [],
      record {
        statement = shows;
        number = 2;
        waited = refl;
        ends = record {
          replies = returned ++ reply.Commit 3 ∷ [];
          told = refl;
          ends = inr (sym (ap (λ t. t.replies) shows_outside), sym (ap (λ t. commits all_ended 2 t.kept) shows_outside));
        };
      },
      refl,
      (refl, refl),
    );
    whole = refl;
  },
  refl,
  (refl, waits_end),
)

pub waits_transcript : WaitsTranscript
waits_transcript =
    let third : IsSerialFrom with_one (runs 2 (Ok shows) ∷ runs 1 (Ok commit) ∷ []) (codes "2 WAIT 1\n" ++ codes "1 COMMIT 3\n2 ROW 7 1 10\n2 OK 1\n2 COMMIT 3\n") =
    one_line (runs 2 (Ok shows)) (runs 1 (Ok commit) ∷ []) with_one waiting (codes "2 WAIT 1\n") (codes "1 COMMIT 3\n2 ROW 7 1 10\n2 OK 1\n2 COMMIT 3\n") waits_so answers_both in
    let second : IsSerialFrom began (runs 1 (Ok (sold 1 10)) ∷ runs 2 (Ok shows) ∷ runs 1 (Ok commit) ∷ []) (codes "1 OK 1\n" ++ (codes "2 WAIT 1\n" ++ codes "1 COMMIT 3\n2 ROW 7 1 10\n2 OK 1\n2 COMMIT 3\n")) =
    one_line (runs 1 (Ok (sold 1 10))) (runs 2 (Ok shows) ∷ runs 1 (Ok commit) ∷ []) began with_one (codes "1 OK 1\n") (codes "2 WAIT 1\n" ++ codes "1 COMMIT 3\n2 ROW 7 1 10\n2 OK 1\n2 COMMIT 3\n") first_sold third in
    one_line (runs 1 (Ok (begin Serial))) (runs 1 (Ok (sold 1 10)) ∷ runs 2 (Ok shows) ∷ runs 1 (Ok commit) ∷ []) first began (codes "1 OK 0\n")
    (codes "1 OK 1\n" ++ (codes "2 WAIT 1\n" ++ codes "1 COMMIT 3\n2 ROW 7 1 10\n2 OK 1\n2 COMMIT 3\n")) begins second
