-- Transcripts that are not serial.
use Rattle.std.specs.Prelude.{◌≡◌, ◌≢◌, ℕ, ◌==◌, Bool, true, false, List, [], ◌∷◌, ◌++◌, drop, codes, Some, None, Ok, if◌then◌else◌}
use Rattle.std.specs.Fmt.{digits}
use mathlib.Core.Path.{refl, sym, ap, subst, ◌∙◌}
use mathlib.Core.Logic.{inl, inr}
use Rattle.std.proofs.Common.{arith, append_assoc}
use Rattle.iv_types.specs.declared.refusal.Refusal.{Refusal}
use Rattle.iv_types.specs.declared.refusal.Refusal.TheVariants as refusal
use Rattle.iv_types.specs.declared.reply.Reply.{Reply}
use Rattle.iv_types.specs.declared.reply.Reply.TheVariants as reply
use Rattle.iv_types.specs.declared.statement.Mode.TheVariants.{Serial, Snapshot}
use Rattle.iv_types.specs.Syntax.{StatementTree, begin, commit, rollback}
use Rattle.iv_meaning.specs.Reply.{reply_lines}
use Rattle.iv_meaning.specs.Transaction.{committed, refused_inside}
use Rattle.iv_meaning.specs.Said.{Said, runs, loads}
use Rattle.iv_meaning.specs.Serial.{World, none, waits, latest, opened_with, set_open, set_unfinished, IsRefused, EndsBy, Runs, Loads, LaterPieces, OwnPiece, IsEnd, IsSerialFrom}
use Rattle.iv_meaning.specs.SerialExample.{shop_database, sold, shows, with_open, with_sale, IsMiss, NearMisses}
use Rattle.iv_meaning.proofs.SaleLemmas.{first_alone, none_outside}

-- ---- lines of which nobody waits

abbrev NobodyWaits : World → Type 0
NobodyWaits w = (session : ℕ) (statement : StatementTree) (number : ℕ) → w.unfinished session ≡ waits statement number → ⊥

still_nobody : (w : World) → NobodyWaits w → NobodyWaits (set_unfinished w 1 none)
still_nobody w h session statement number = by (session == 1)
  where
    by : (b : Bool) → (if b then none else w.unfinished session) ≡ waits statement number → ⊥
    by true e = absurd (cc)
    by false e = h session statement number e

no_later : (pieces : List (ℕ × List ℕ)) (w : World) (more : List ℕ) (after : World) → NobodyWaits w → LaterPieces pieces w more after → (more ≡ []) × (after ≡ w)
no_later [] w more after h l = l
no_later (p ∷ ps) w more after h l = absurd (h p.0 l.2.statement l.2.number l.2.waited)

-- a line's own piece, what is printed behind it, and the lines that follow where nobody waits
pub record Starts (w : World) (said : Said) (more : List Said) (out : List ℕ) : Type 0 where
  pub own : List ℕ
  pub between : World
  pub rest : List ℕ
  pub first : OwnPiece said w own between
  pub whole : out ≡ own ++ rest
  pub goes : NobodyWaits between → IsSerialFrom between more rest

starts : (w : World) (said : Said) (more : List Said) (out : List ℕ) → IsSerialFrom w (said ∷ more) out → Starts w said more out
starts w said more out h = record {
  own = h.3.own;
  between = h.3.between;
  rest = h.3.more ++ h.2;
  first = h.3.first;
  whole = h.4 ∙ (ap (λ p. p ++ h.2) h.3.whole ∙ append_assoc h.3.own h.3.more h.2);
  goes = λ idle.
      let none_later = no_later h.3.retried h.3.between h.3.more h.1 idle h.3.later in
      subst (λ w. IsSerialFrom w more (h.3.more ++ h.2)) none_later.1 (subst (λ r. IsSerialFrom h.1 more (r ++ h.2)) (sym none_later.0) h.5);
}

-- ---- pieces by their third byte

abbrev third : List ℕ → ℕ
third (a ∷ b ∷ c ∷ bytes) = c
third _ = 0

error_third : (why : Refusal) (own rest : List ℕ) → own ≡ reply_lines 1 (reply.Error why ∷ []) → third (own ++ rest) ≡ 69
unfolding digits
error_third why own rest e = ap (λ o. third (o ++ rest)) e

-- neither a refusal nor a wait
record IsEnded (w : World) (statement : StatementTree) (number : ℕ) (own : List ℕ) (between : World) : Type 0 where
  replies : List Reply
  told : own ≡ reply_lines 1 replies
  ends : EndsBy (set_unfinished w 1 none) 1 (w.running 1) statement number replies between

ended_line : (w between : World) (statement : StatementTree) (own rest out : List ℕ) → out ≡ own ++ rest → third out ≢ 69 → third out ≢ 87
    → Runs w 1 statement own between → IsEnded w statement (latest w).number own between
unfolding digits
ended_line w between statement own rest out whole error wait (inl now) = elim now.ends [
  | inl over ↦ absurd (error (ap third whole ∙ error_third over.why own rest (now.told ∙ ap (reply_lines 1) over.told)))
  | inr ends ↦ record { replies = now.replies; told = now.told; ends = ends }
]
ended_line w between statement own rest out whole error wait (inr w') = absurd (wait (ap third whole ∙ ap (λ o. third (o ++ rest)) w'.goes_on.told))

opened_nobody : NobodyWaits (opened_with shop_database)
opened_nobody session statement number e = absurd (cc)

-- ---- the misses

never_ends : IsMiss (with_open []) (runs 1 (Ok (sold 1 10)) ∷ []) (codes "1 OK 2\n")
unfolding digits
never_ends h =
    let s = starts (with_open []) (runs 1 (Ok (sold 1 10))) [] (codes "1 OK 2\n") h in
    let line = ended_line (with_open []) s.between (sold 1 10) s.own s.rest (codes "1 OK 2\n") s.whole (λ e. omega (arith, e)) (λ e. omega (arith, e)) s.first in
    let idle : NobodyWaits s.between = subst NobodyWaits (sym line.ends) (still_nobody (with_open []) opened_nobody) in
    let end : IsEnd (told_so line.replies) = subst IsEnd line.ends (s.goes idle).1 in
    let alone : (reply.Done 1 ∷ []) ∷ [] ≡ line.replies ∷ [] = sym (ap (λ r. r.0) (first_alone [])) ∙ end 1 (record { mode = Serial; number = 2; told = (sold 1 10, line.replies) ∷ [] }) refl in
    let same : reply.Done 1 ∷ [] ≡ line.replies = ap first alone in
    let byte : 50 ≡ 49 = ap (λ o. third (drop 3 o)) (s.whole ∙ ap (λ o. o ++ s.rest) (line.told ∙ ap (reply_lines 1) (sym same))) in
    omega (arith, byte)
  where
    told_so : List Reply → World
    told_so replies = set_open (set_unfinished (with_open []) 1 none) 1 (Some (record { mode = Serial; number = 2; told = (sold 1 10, replies) ∷ [] }))

    first : List (List Reply) → List Reply
    first [] = []
    first (r ∷ rs) = r

skipped : IsMiss with_sale (runs 1 (Ok commit) ∷ []) (codes "1 COMMIT 4\n")
unfolding digits
skipped h =
    let s = starts with_sale (runs 1 (Ok commit)) [] (codes "1 COMMIT 4\n") h in
    let line = ended_line with_sale s.between commit s.own s.rest (codes "1 COMMIT 4\n") s.whole (λ e. omega (arith, e)) (λ e. omega (arith, e)) s.first in
    let replies : line.replies ≡ reply.Commit 3 ∷ [] = line.ends.1 ∙ ap (λ r. reply.Commit (committed r.1).number ∷ []) (first_alone []) in
    let byte : 52 ≡ 51 = ap (λ o. third (drop 7 o)) (s.whole ∙ ap (λ o. o ++ s.rest) (line.told ∙ ap (reply_lines 1) replies)) in
    omega (arith, byte)

cut_off : IsMiss with_sale (runs 1 (Ok commit) ∷ []) []
unfolding digits
cut_off h =
    let s = starts with_sale (runs 1 (Ok commit)) [] [] h in
    let line = ended_line with_sale s.between commit s.own s.rest [] s.whole (λ e. omega (arith, e)) (λ e. omega (arith, e)) s.first in
    let byte : 0 ≡ 67 = ap third (s.whole ∙ ap (λ o. o ++ s.rest) (line.told ∙ ap (reply_lines 1) line.ends.1)) in
    omega (arith, byte)

wrong_snapshot : IsMiss (opened_with shop_database) (runs 1 (Ok (begin Snapshot)) ∷ []) (codes "1 SNAPSHOT 3\n")
unfolding digits
wrong_snapshot h =
    let s = starts (opened_with shop_database) (runs 1 (Ok (begin Snapshot))) [] (codes "1 SNAPSHOT 3\n") h in
    let line = ended_line (opened_with shop_database) s.between (begin Snapshot) s.own s.rest (codes "1 SNAPSHOT 3\n") s.whole (λ e. omega (arith, e)) (λ e. omega (arith, e)) s.first in
    let byte : 51 ≡ 50 = ap (λ o. third (drop 9 o)) (s.whole ∙ ap (λ o. o ++ s.rest) (line.told ∙ ap (reply_lines 1) line.ends.0)) in
    omega (arith, byte)

abbrev no_name : StatementTree
no_name = rollback (Some (codes "nosuch"))

not_stepped : (own : List ℕ) (between : World) (rest : List ℕ) → codes "1 STEP\n" ≡ own ++ rest → OwnPiece (loads 1 (Ok no_name)) with_sale own between → ⊥
not_stepped own between rest whole takes =
    let refused : IsRefused with_sale 1 no_name (refusal.UnknownSavepoint (codes "nosuch")) own between =
    subst (λ o. (elim o as (λ o. List ℕ → World → Type 0) [ Some why ↦ IsRefused with_sale 1 no_name why | None ↦ Loads with_sale 1 no_name ]) own between) (ap (λ r. refused_inside Serial r.1.saved no_name) (first_alone [])) takes in
    let byte : 83 ≡ 69 = ap third whole ∙ error_third (refusal.UnknownSavepoint (codes "nosuch")) own rest refused.told in
    omega (arith, byte)

no_savepoint : IsMiss with_sale (loads 1 (Ok no_name) ∷ []) (codes "1 STEP\n")
no_savepoint h = let s = starts with_sale (loads 1 (Ok no_name)) [] (codes "1 STEP\n") h in not_stepped s.own s.between s.rest s.whole s.first

-- the world after the rollback
abbrev closed : World
closed = set_open (set_unfinished with_sale 1 none) 1 None

abbrev row_shown : List ℕ
row_shown = codes "1 ROW 7 1 10\n1 OK 1\n1 COMMIT 2\n"

not_shown : IsMiss closed (runs 1 (Ok shows) ∷ []) row_shown
unfolding digits
not_shown h =
    let s = starts closed (runs 1 (Ok shows)) [] row_shown h in
    let line = ended_line closed s.between shows s.own s.rest row_shown s.whole (λ e. omega (arith, e)) (λ e. omega (arith, e)) s.first in
    let replies : line.replies ≡ reply.Done 0 ∷ reply.Commit 2 ∷ [] = line.ends.0 ∙ ap (λ t. t.replies) none_outside in
    let byte : 82 ≡ 79 = ap third (s.whole ∙ ap (λ o. o ++ s.rest) (line.told ∙ ap (reply_lines 1) replies)) in
    omega (arith, byte)

rolled_back : IsMiss with_sale (runs 1 (Ok (rollback None)) ∷ runs 1 (Ok shows) ∷ []) (codes "1 OK 0\n1 ROW 7 1 10\n1 OK 1\n1 COMMIT 2\n")
unfolding digits
rolled_back h =
    let out : List ℕ = codes "1 OK 0\n1 ROW 7 1 10\n1 OK 1\n1 COMMIT 2\n" in
    let s = starts with_sale (runs 1 (Ok (rollback None))) (runs 1 (Ok shows) ∷ []) out h in
    let line = ended_line with_sale s.between (rollback None) s.own s.rest out s.whole (λ e. omega (arith, e)) (λ e. omega (arith, e)) s.first in
    let idle : NobodyWaits s.between = subst NobodyWaits (sym line.ends.2) (still_nobody with_sale opened_nobody) in
    let rest : row_shown ≡ s.rest = ap (drop 7) (s.whole ∙ ap (λ o. o ++ s.rest) (line.told ∙ ap (reply_lines 1) line.ends.1)) in
    not_shown (subst (λ o. IsSerialFrom closed (runs 1 (Ok shows) ∷ []) o) (sym rest) (subst (λ w. IsSerialFrom w (runs 1 (Ok shows) ∷ []) s.rest) line.ends.2 (s.goes idle)))

pub near_misses : NearMisses
near_misses = record {
  rolled_back = rolled_back;
  skipped = skipped;
  no_savepoint = no_savepoint;
  never_ends = never_ends;
  cut_off = cut_off;
  wrong_snapshot = wrong_snapshot;
}
