-- The numbers of a transcript's commits.
use Rattle.std.specs.Prelude.{◌≡◌, ◌≤◌, ℕ, ◌+◌, nat_le, Bool, true, false, List, [], ◌∷◌, ◌++◌, filter, Option, Some, None, Result, Ok, Err, if◌then◌else◌}
use mathlib.Core.Path.{refl, sym, ap, subst, ◌∙◌}
use mathlib.Core.Logic.{inl, inr}
use Rattle.std.proofs.Common.{arith, le-leb}
use Rattle.iv_types.specs.declared.refusal.Refusal.{Refusal}
use Rattle.iv_types.specs.declared.reply.Reply.{Reply}
use Rattle.iv_types.specs.Syntax.{StatementTree, begin, commit, rollback}
use Rattle.iv_meaning.specs.Database.{Database}
use Rattle.iv_meaning.specs.Statement.{Kept}
use Rattle.iv_meaning.specs.Transaction.{outside}
use Rattle.iv_meaning.specs.History.{Entry, fold}
use Rattle.iv_meaning.specs.SerialLaws.{AreNumbered, IsSince, HistoryLaw, LatestLaw}
use Rattle.iv_meaning.specs.Said.{Said, nothing, too_long, bad, runs, loads, unread, steps, cleans, checkpoints}
use Rattle.iv_meaning.specs.Serial.{World, Unended, Unfinished, none, waits, loaded, latest, set_open, set_unfinished, commits, is_deadlock, PassesOver, EndsOutside, EndsInside, EndsBy, Ends, IsRefused, Takes, Runs, Loads, Steps, OwnPiece, LaterPieces, refused_by_mode}

numbered_push : (number : ℕ) (es : List Entry) (e : Entry) (db : Database) → db.number ≡ number → AreNumbered number es → e.number ≡ (fold es db).number + 1 → AreNumbered number (es ++ e ∷ [])
numbered_push number [] e db same h next = (next ∙ ap (λ n. n + 1) same, tt)
numbered_push number (x ∷ es) e db same h next = (h.0, numbered_push x.number es e (fold (x ∷ []) db) refl h.1 next)

module _ (db : Database) where
  since_commits : (w : World) (session : ℕ) (kept : List Kept) → IsSince db w → IsSince db (commits w session kept)
  since_commits w session [] h = h
  since_commits w session (k ∷ ks) h = record {
    began = h.began;
    numbered = numbered_push db.number w.history (record { number = (latest w).number + 1; session = session; kept = k ∷ ks }) w.origin (ap (λ d. d.number) h.began) h.numbered refl;
  }

  -- sessions' transactions and lines are no part of it
  since_open : (w : World) (session : ℕ) (o : Option Unended) → IsSince db w → IsSince db (set_open w session o)
  since_open w session o h = record { began = h.began; numbered = h.numbered }

  since_unfinished : (w : World) (session : ℕ) (u : Unfinished) → IsSince db w → IsSince db (set_unfinished w session u)
  since_unfinished w session u h = record { began = h.began; numbered = h.numbered }

  at : (w after : World) → after ≡ w → IsSince db w → IsSince db after
  at w after e h = subst (IsSince db) (sym e) h

  since_passed : (w after : World) (session : ℕ) (replies : List Reply) → IsSince db w → PassesOver w session replies after → IsSince db after
  since_passed w after session replies h over = at _ after over.left (by (is_deadlock over.why))
    where
      by : (b : Bool) → IsSince db (if b then set_open w session None else w)
      by true = since_open w session None h
      by false = h

  since_outside : (w after : World) (session number : ℕ) (statement : StatementTree) (replies : List Reply) → IsSince db w → EndsOutside w session statement number replies after → IsSince db after
  since_outside w after session number (begin mode) replies h ends = at _ after ends.1 (since_open w session _ h)
  since_outside w after session number statement replies h ends = at _ after ends.1 (since_commits w session (outside statement (latest w)).kept h)

  since_inside : (w after : World) (session : ℕ) (o : Unended) (statement : StatementTree) (replies : List Reply) → IsSince db w → EndsInside w session o statement replies after → IsSince db after
  since_inside w after session o commit replies h ends = at _ after ends.2 (since_open _ session None (since_commits w session _ h))
  since_inside w after session o (rollback None) replies h ends = at _ after ends.2 (since_open w session None h)
  since_inside w after session o statement replies h ends = at _ after ends (since_open w session (Some (record o { told = o.told ++ (statement, replies) ∷ [] })) h)

  since_by : (w after : World) (session number : ℕ) (o : Option Unended) (statement : StatementTree) (replies : List Reply) → IsSince db w → EndsBy w session o statement number replies after → IsSince db after
  since_by w after session number None statement replies h ends = since_outside w after session number statement replies h ends
  since_by w after session number (Some o) statement replies h ends = since_inside w after session o statement replies h ends

  since_ends : (w after : World) (session number : ℕ) (statement : StatementTree) (replies : List Reply) → IsSince db w → Ends w session statement number replies after → IsSince db after
  since_ends w after session number statement replies h (inl over) = since_passed _ after session replies (since_unfinished w session none h) over
  since_ends w after session number statement replies h (inr ends) = since_by _ after session number (w.running session) statement replies (since_unfinished w session none h) ends

  since_runs : (w after : World) (session : ℕ) (statement : StatementTree) (piece : List ℕ) → IsSince db w → Runs w session statement piece after → IsSince db after
  since_runs w after session statement piece h (inl now) = since_ends w after session (latest w).number statement now.replies h now.ends
  since_runs w after session statement piece h (inr wait) = at _ after wait.goes_on.left_is (since_unfinished w session _ h)

  since_loads : (w after : World) (session : ℕ) (statement : StatementTree) (piece : List ℕ) → IsSince db w → Loads w session statement piece after → IsSince db after
  since_loads w after session statement piece h goes = at _ after goes.left_is (since_unfinished w session _ h)

  since_takes : (w after : World) (session : ℕ) (u : Unfinished) (read : Result StatementTree Refusal) (Goes : StatementTree → List ℕ → World → Type 0) (piece : List ℕ) → IsSince db w
      → ((statement : StatementTree) → Goes statement piece after → IsSince db after) → Takes w session u read Goes piece after → IsSince db after
  since_takes w after session none (Err why) Goes piece h goes tells = at _ after tells.left h
  since_takes w after session none (Ok statement) Goes piece h goes takes = by (refused_by_mode w (w.running session) statement) takes
    where
      by : (o : Option Refusal) → (elim o as (λ o. List ℕ → World → Type 0) [ Some why ↦ IsRefused w session statement why | None ↦ Goes statement ]) piece after → IsSince db after
      by (Some why) refused = since_by w after session (latest w).number (w.running session) statement _ h refused.ends
      by None g = goes statement g
  since_takes w after session (waits statement number) read Goes piece h goes tells = at _ after tells.left h
  since_takes w after session (loaded statement number) read Goes piece h goes tells = at _ after tells.left h

  since_steps : (w after : World) (session : ℕ) (u : Unfinished) (piece : List ℕ) → IsSince db w → Steps w session u piece after → IsSince db after
  since_steps w after session none piece h tells = at _ after tells.left h
  since_steps w after session (waits statement number) piece h tells = at _ after tells.left h
  since_steps w after session (loaded statement number) piece h (inl now) = since_ends w after session _ statement now.replies h now.ends
  since_steps w after session (loaded statement number) piece h (inr (inl goes)) = at _ after goes.left_is (since_unfinished w session _ h)
  since_steps w after session (loaded statement number) piece h (inr (inr wait)) = at _ after wait.goes_on.left_is (since_unfinished w session _ h)

  since_own : (said : Said) (w after : World) (piece : List ℕ) → IsSince db w → OwnPiece said w piece after → IsSince db after
  since_own nothing w after piece h own = at _ after own.1 h
  since_own too_long w after piece h own = at _ after own.left h
  since_own bad w after piece h own = at _ after own.left h
  since_own (runs session read) w after piece h takes = since_takes w after session (w.unfinished session) read (Runs w session) piece h (λ statement. since_runs w after session statement piece h) takes
  since_own (loads session read) w after piece h takes = since_takes w after session (w.unfinished session) read (Loads w session) piece h (λ statement. since_loads w after session statement piece h) takes
  since_own (unread session) w after piece h own = at _ after own.left h
  since_own (steps session) w after piece h own = since_steps w after session (w.unfinished session) piece h own
  since_own cleans w after piece h (inl counts) = at _ after counts.left h
  since_own cleans w after piece h (inr over) = at _ after over.tells.left h
  since_own checkpoints w after piece h (inl counts) = at _ after counts.left h
  since_own checkpoints w after piece h (inr over) = at _ after over.tells.left h

  since_later : (pieces : List (ℕ × List ℕ)) (w after : World) (piece : List ℕ) → IsSince db w → LaterPieces pieces w piece after → IsSince db after
  since_later [] w after piece h later = at _ after later.1 h
  since_later (p ∷ ps) w after piece h later =
      since_later ps later.0 after later.1 (since_ends w later.0 p.0 later.2.number later.2.statement later.2.ends.replies h later.2.ends.ends) later.4

pub history_law : HistoryLaw
history_law db said w after piece h answers = since_later db answers.retried answers.between after answers.more (since_own db said w answers.between answers.own h answers.first) answers.later

-- ---- the greatest number

at_most_last : (number : ℕ) (es : List Entry) (db : Database) → db.number ≡ number → AreNumbered number es → number ≤ (fold es db).number
at_most_last number [] db same h = omega (arith, same)
at_most_last number (e ∷ es) db same h = let more : e.number ≤ (fold es (fold (e ∷ []) db)).number = at_most_last e.number es (fold (e ∷ []) db) refl h.1 in omega (arith, more, h.0)

-- no entry is left out
all_in : (number last : ℕ) (es : List Entry) (db : Database) → db.number ≡ number → AreNumbered number es → (fold es db).number ≤ last → filter (λ (e : Entry). nat_le e.number last) es ≡ es
all_in number last [] db same h le = refl
all_in number last (e ∷ es) db same h le =
    let here : e.number ≤ (fold es (fold (e ∷ []) db)).number = at_most_last e.number es (fold (e ∷ []) db) refl h.1 in
    ap (λ b. if b then e ∷ filter (λ (x : Entry). nat_le x.number last) es else filter (λ (x : Entry). nat_le x.number last) es) (le-leb e.number last (omega (arith, here, le)))
    ∙ ap (λ xs. e ∷ xs) (all_in e.number last es (fold (e ∷ []) db) refl h.1 le)

pub latest_law : LatestLaw
latest_law db w h = sym (ap (λ es. fold es w.origin) (all_in db.number (latest w).number w.history w.origin (ap (λ d. d.number) h.began) h.numbered (omega arith)))
