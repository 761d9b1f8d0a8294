-- The output of one session is one only.
use Rattle.std.specs.Prelude.{◌≡◌, ◌≢◌, ℕ, ◌==◌, Bool, true, false, List, [], ◌∷◌, ◌++◌, map, codes, decimal, Option, Some, None, Result, Ok, Err, if◌then◌else◌}
use Rattle.std.specs.List.{AllByRecursion, Contains}
use Rattle.std.specs.Option.{unwrap_or}
use mathlib.Core.Path.{refl, sym, ap, subst, ◌∙◌}
use mathlib.Core.Logic.{inl, inr}
use Rattle.std.proofs.Common.{append-nil, append_assoc}
use Rattle.iv_types.specs.declared.lock.Want.{Want}
use Rattle.iv_types.specs.declared.refusal.Refusal.{Refusal}
use Rattle.iv_types.specs.declared.refusal.Refusal.TheVariants as refusal
use Rattle.iv_types.specs.declared.reply.Reply.{Reply}
use Rattle.iv_types.specs.declared.reply.Reply.TheVariants as reply
use Rattle.iv_types.specs.declared.statement.Mode.TheVariants.{Serial, Snapshot}
use Rattle.iv_types.specs.Syntax.{StatementTree, begin, commit, rollback}
use Rattle.iv_meaning.specs.Reply.{reply_lines}
use Rattle.iv_meaning.specs.Database.{Database}
use Rattle.iv_meaning.specs.Statement.{Kept}
use Rattle.iv_meaning.specs.Transaction.{alone, committed, outside, inside, begin_reply}
use Rattle.iv_meaning.specs.History.{fold, state_at}
use Rattle.iv_meaning.specs.Said.{Said, nothing, too_long, bad, runs, loads, unread, steps, cleans, checkpoints}
use Rattle.iv_meaning.specs.Serial.{World, Unended, Unfinished, none, latest, base_of, set_open, set_unfinished, commits, ran, WasAlone, refused_by_mode, EndsOutside, EndsInside, EndsBy, Ends, IsRefused, Takes, Runs, OwnPiece, LaterPieces, Answers, IsSerialFrom, opened_with}
use Rattle.txn_machine.specs.Acts.{Act}
use Rattle.txn_machine.specs.Answers.{Answer}
use Rattle.txn_machine.specs.Keeping.{idle}
use Rattle.txn_machine.specs.Store.{Store, locks_of}
use Rattle.txn_machine.specs.Alone.{Story}
use Rattle.txn_machine.proofs.Basics.{contains_none}
use Rattle.txn_machine.proofs.Parting.{part_law}
use Rattle.script_law.specs.Machine.{DoesOf, IsHindered}
use Rattle.script_law.proofs.Blocking.{blocked_so}
use Rattle.script_law.specs.Seen.{entries}
use Rattle.script_law.specs.Programs.{with_told}
use Rattle.script_law.proofs.Basics.{if_same, commits_origin, commits_running, commits_unfinished, commits_history}
use Rattle.script_law.proofs.Refusing.{alone_more, map_more}
use Rattle.statement_law.specs.OneSession.{IsOfOne, IsHindrance, IsUnhindered, IsLone, NeverBlockedLaw, OneSerialLaw, OneOutputLaw}
use Rattle.statement_law.proofs.Works.{statements_law}

-- ---- lists

abbrev head_or : {A : Type 0} → A → List A → A
head_or d [] = d
head_or d (x ∷ xs) = x

abbrev tail_of : {A : Type 0} → List A → List A
tail_of [] = []
tail_of (x ∷ xs) = xs

-- lists with one more at their end are the same where all before it and that one are
last_same : {A : Type 0} (xs ys : List A) (x y : A) → xs ++ x ∷ [] ≡ ys ++ y ∷ [] → (xs ≡ ys) × (x ≡ y)
last_same [] [] x y e = (refl, ap (head_or x) e)
last_same [] (z ∷ []) x y e = absurd (cc)
last_same [] (z ∷ u ∷ zs) x y e = absurd (cc)
last_same (z ∷ []) [] x y e = absurd (cc)
last_same (z ∷ u ∷ zs) [] x y e = absurd (cc)
last_same (z ∷ zs) (u ∷ us) x y e =
    let more = last_same zs us x y (ap tail_of e) in
    (λ k. head_or z (e k) ∷ more.0 k, more.1)

-- ---- outputs

-- a piece that is one hindrance stands at the front of no unhindered output
free_front : (out own rest : List ℕ) → out ≡ own ++ rest → IsUnhindered out → (session : ℕ) (r : Reply) → IsHindrance r → own ≢ reply_lines session (r ∷ [])
free_front out own rest e free session r h same = free [] rest session r h (e ∙ ap (λ l. l ++ rest) same)

free_rest : (out piece rest : List ℕ) → out ≡ piece ++ rest → IsUnhindered out → IsUnhindered rest
free_rest out piece rest e free before after session r h same =
    free (piece ++ before) after session r h (e ∙ ap (λ l. piece ++ l) same ∙ sym (append_assoc piece before (reply_lines session (r ∷ []) ++ after)))

-- ---- worlds

abbrev IsSettled : World → Type 0
IsSettled w = (t : ℕ) → w.unfinished t ≡ none

module _ (i : ℕ) where
  cleared : (w : World) → IsSettled w → set_unfinished w i none ≡ w
  cleared w settled = λ k. record w { unfinished = λ t. by (t == i) (w.unfinished t) (settled t) k }
    where
      by : (b : Bool) (u : Unfinished) → u ≡ none → (if b then none else u) ≡ u
      by true u e = sym e
      by false u e = refl

  opened_so : (w : World) (o : Option Unended) → (set_open w i o).running i ≡ o
  opened_so w o = if_same i o (w.running i)

  settled_at : (w after : World) → after ≡ w → IsSettled w → IsSettled after
  settled_at w after e h = subst IsSettled (sym e) h

  settled_commits : (w : World) (kept : List Kept) → IsSettled w → IsSettled (commits w i kept)
  settled_commits w kept h t = commits_unfinished w i kept t ∙ h t

  settled_outside : (w after : World) (number : ℕ) (statement : StatementTree) (replies : List Reply) → IsSettled w → EndsOutside w i statement number replies after → IsSettled after
  settled_outside w after number (begin mode) replies h ends = settled_at (set_open w i (Some (record { mode = mode; number = number; told = [] }))) after ends.1 h
  settled_outside w after number statement replies h ends = settled_at _ after ends.1 (settled_commits w (outside statement (latest w)).kept h)

  settled_inside : (w after : World) (o : Unended) (statement : StatementTree) (replies : List Reply) → IsSettled w → EndsInside w i o statement replies after → IsSettled after
  settled_inside w after o commit replies h ends = settled_at (set_open (commits w i (ran w o).1.kept) i None) after ends.2 (settled_commits w (ran w o).1.kept h)
  settled_inside w after o (rollback None) replies h ends = settled_at (set_open w i None) after ends.2 h
  settled_inside w after o statement replies h ends = settled_at (set_open w i (Some (with_told o statement replies))) after ends h

  settled_by : (w after : World) (number : ℕ) (o : Option Unended) (statement : StatementTree) (replies : List Reply) → IsSettled w → EndsBy w i o statement number replies after → IsSettled after
  settled_by w after number None statement replies h ends = settled_outside w after number statement replies h ends
  settled_by w after number (Some o) statement replies h ends = settled_inside w after o statement replies h ends

  -- ---- what a line does

  -- a statement went to its end
  record Ended (w : World) (statement : StatementTree) (piece : List ℕ) (after : World) : Type 0 where
    replies : List Reply
    told : piece ≡ reply_lines i replies
    ends : EndsBy w i (w.running i) statement (latest w).number replies after

  abbrev Stays : List ℕ → World → List ℕ → World → Type 0
  Stays known w piece after = (piece ≡ known) × (after ≡ w)

  abbrev checkpoint_line : World → List ℕ
  checkpoint_line w = codes "CHECKPOINT" ++ (codes " " ++ (decimal (latest w).number ++ codes "\n"))

  abbrev Way : Said → World → List ℕ → World → Type 0
  Way nothing w piece after = Stays [] w piece after
  Way too_long w piece after = Stays (reply_lines 0 (reply.Error refusal.LineTooLong ∷ [])) w piece after
  Way bad w piece after = Stays (reply_lines 0 (reply.Error refusal.BadLine ∷ [])) w piece after
  Way (runs session (Err why)) w piece after = Stays (reply_lines i (reply.Error why ∷ [])) w piece after
  Way (runs session (Ok statement)) w piece after = Ended w statement piece after
  Way checkpoints w piece after = Stays (checkpoint_line w) w piece after
  Way _ w piece after = ⊥

  abbrev Free : List ℕ → Type 0
  Free own = (session : ℕ) (r : Reply) → IsHindrance r → own ≢ reply_lines session (r ∷ [])

  runs_way : (w after : World) (statement : StatementTree) (own : List ℕ) → IsSettled w → Free own → Runs w i statement own after → Ended w statement own after
  runs_way w after statement own settled free (inl now) = by now.ends
    where
      by : Ends w i statement (latest w).number now.replies after → Ended w statement own after
      by (inl over) = absurd (free i (reply.Error over.why) over.engines (now.told ∙ ap (reply_lines i) over.told))
      by (inr ends) = record {
        replies = now.replies;
        told = now.told;
        ends = subst (λ (v : World). EndsBy v i (v.running i) statement (latest w).number now.replies after) (cleared w settled) ends;
      }
  runs_way w after statement own settled free (inr wait) = absurd (free i (reply.Wait wait.for) tt wait.goes_on.told)

  takes_way : (w after : World) (read : Result StatementTree Refusal) (session : ℕ) (own : List ℕ) → IsSettled w → Free own → Takes w i none read (Runs w i) own after → Way (runs session read) w own after
  takes_way w after (Err why) session own settled free tells = (tells.told, tells.left)
  takes_way w after (Ok statement) session own settled free takes = by (refused_by_mode w (w.running i) statement) takes
    where
      by : (o : Option Refusal) → (elim o as (λ o. List ℕ → World → Type 0) [ Some why ↦ IsRefused w i statement why | None ↦ Runs w i statement ]) own after → Ended w statement own after
      by (Some why) refused = record { replies = reply.Error why ∷ []; told = refused.told; ends = refused.ends }
      by None goes = runs_way w after statement own settled free goes

  own_way : (said : Said) (w after : World) (own : List ℕ) → IsOfOne i said → IsSettled w → Free own → OwnPiece said w own after → Way said w own after
  own_way nothing w after own is settled free h = h
  own_way too_long w after own is settled free h = (h.told, h.left)
  own_way bad w after own is settled free h = (h.told, h.left)
  own_way (runs session read) w after own is settled free h =
      takes_way w after read session own settled free (subst (λ (u : Unfinished). Takes w i u read (Runs w i) own after) (settled i) (subst (λ s. OwnPiece (runs s read) w own after) is h))
  own_way (loads session read) w after own is settled free h = absurd is
  own_way (unread session) w after own is settled free h = absurd is
  own_way (steps session) w after own is settled free h = absurd is
  own_way cleans w after own is settled free h = absurd is
  own_way checkpoints w after own is settled free (inl counts) =
      (counts.told ∙ ap (λ n. codes "CHECKPOINT" ++ (codes " " ++ (decimal n ++ codes "\n"))) counts.right, counts.left)
  own_way checkpoints w after own is settled free (inr over) = absurd (free 0 (reply.Error over.why) over.engines over.tells.told)

  settled_way : (said : Said) (w after : World) (piece : List ℕ) → IsSettled w → Way said w piece after → IsSettled after
  settled_way nothing w after piece h way = settled_at w after way.1 h
  settled_way too_long w after piece h way = settled_at w after way.1 h
  settled_way bad w after piece h way = settled_at w after way.1 h
  settled_way (runs session (Err why)) w after piece h way = settled_at w after way.1 h
  settled_way (runs session (Ok statement)) w after piece h way = settled_by w after (latest w).number (w.running i) statement way.replies h way.ends
  settled_way checkpoints w after piece h way = settled_at w after way.1 h
  settled_way _ w after piece h way = absurd way

  -- nobody waits, so nobody is tried again
  later_none : (pieces : List (ℕ × List ℕ)) (w after : World) (more : List ℕ) → IsSettled w → LaterPieces pieces w more after → (more ≡ []) × (after ≡ w)
  later_none [] w after more settled later = later
  later_none (p ∷ ps) w after more settled later = absurd (let waited = sym (settled p.0) ∙ later.2.waited in cc)

  answers_way : (said : Said) (w after : World) (piece out rest : List ℕ) → IsOfOne i said → IsSettled w → out ≡ piece ++ rest → IsUnhindered out → Answers said w piece after → Way said w piece after
  answers_way said w after piece out rest is settled e free a =
      let whole : out ≡ a.own ++ (a.more ++ rest) = e ∙ ap (λ l. l ++ rest) a.whole ∙ append_assoc a.own a.more rest in
      let way = own_way said w a.between a.own is settled (free_front out a.own (a.more ++ rest) whole free) a.first in
      let none_later = later_none a.retried a.between after a.more (settled_way said w a.between a.own settled way) a.later in
      let same : piece ≡ a.own = a.whole ∙ ap (λ l. a.own ++ l) none_later.0 ∙ append-nil a.own in
      subst (λ (v : World). Way said w piece v) (sym none_later.1) (subst (λ p. Way said w p a.between) (sym same) way)

  -- ---- what an open transaction was told

  opened_after : (w after : World) (o : Unended) → after ≡ set_open w i (Some o) → after.running i ≡ Some o
  opened_after w after o e = ap (λ (v : World). v.running i) e ∙ opened_so w (Some o)

  -- so it was with its last statement, and so with those before it
  told_before : (w after : World) (o : Unended) (statement : StatementTree) (replies : List Reply) → after ≡ set_open w i (Some (with_told o statement replies)) → WasAlone after (with_told o statement replies)
      → WasAlone w o × (replies ≡ (inside o.mode statement (ran w o).1).replies)
  told_before w after o statement replies e was =
      let last = subst (λ (v : World). WasAlone v (with_told o statement replies)) e was in
      let more = alone_more o.mode (map (λ p. p.0) o.told) statement (record { db = base_of w o; kept = []; saved = [] }) in
      let both = sym more.0 ∙ ap (λ l. (alone o.mode l (base_of w o)).0) (sym (map_more (λ (p : StatementTree × List Reply). p.0) o.told (statement, replies))) ∙ last
      ∙ map_more (λ (p : StatementTree × List Reply). p.1) o.told (statement, replies) in
      let parts = last_same (ran w o).0 (map (λ p. p.1) o.told) (inside o.mode statement (ran w o).1).replies replies both in
      (parts.0, sym parts.1)

  -- what a session has open was told what it is told alone, since it is so as it ends
  abbrev Foreseen : World → Type 0
  Foreseen w = IsSettled w → (o : Unended) → w.running i ≡ Some o → WasAlone w o

  stayed : (w after : World) → IsSettled w → Foreseen after → (o : Unended) → w.running i ≡ Some o → after ≡ w → WasAlone w o
  stayed w after settled later o is_open e =
      subst (λ (v : World). WasAlone v o) e (later (settled_at w after e settled) o (ap (λ (v : World). v.running i) e ∙ is_open))

  inside_by : (w after : World) → IsSettled w → Foreseen after → (o : Unended) (statement : StatementTree) (replies : List Reply) → EndsInside w i o statement replies after → WasAlone w o
  inside_by w after settled later o commit replies ends = ends.0
  inside_by w after settled later o (rollback None) replies ends = ends.0
  inside_by w after settled later o statement replies ends =
      (told_before w after o statement replies ends (later (settled_inside w after o statement replies settled ends) (with_told o statement replies) (opened_after w after (with_told o statement replies) ends))).0

  foreseen_by : (said : Said) (w after : World) (piece : List ℕ) → IsSettled w → Foreseen after → (o : Unended) → w.running i ≡ Some o → Way said w piece after → WasAlone w o
  foreseen_by nothing w after piece settled later o is_open way = stayed w after settled later o is_open way.1
  foreseen_by too_long w after piece settled later o is_open way = stayed w after settled later o is_open way.1
  foreseen_by bad w after piece settled later o is_open way = stayed w after settled later o is_open way.1
  foreseen_by (runs session (Err why)) w after piece settled later o is_open way = stayed w after settled later o is_open way.1
  foreseen_by (runs session (Ok statement)) w after piece settled later o is_open way =
      inside_by w after settled later o statement way.replies (subst (λ (x : Option Unended). EndsBy w i x statement (latest w).number way.replies after) is_open way.ends)
  foreseen_by checkpoints w after piece settled later o is_open way = stayed w after settled later o is_open way.1
  foreseen_by _ w after piece settled later o is_open way = absurd way

  foreseen : (lines : List Said) (w : World) (out : List ℕ) → AllByRecursion (IsOfOne i) lines → IsUnhindered out → IsSerialFrom w lines out → Foreseen w
  foreseen [] w out are free t settled o is_open = t.1 i o is_open
  foreseen (said ∷ lines) w out are free (piece, after, rest, answers, whole, t) settled o is_open =
      foreseen_by said w after piece settled (foreseen lines after rest are.1 (free_rest out piece rest whole free) t) o is_open
      (answers_way said w after piece out rest are.0 settled whole free answers)

  -- ---- two transcripts

  -- the same but for what their statements were told
  abbrev AlikeOpen : Option Unended → Option Unended → Type 0
  AlikeOpen None None = Unit {0}
  AlikeOpen (Some o) (Some p) = (o.mode ≡ p.mode) × (o.number ≡ p.number) × (map (λ x. x.0) o.told ≡ map (λ x. x.0) p.told)
  AlikeOpen _ _ = ⊥

  record Alike (w v : World) : Type 0 where
    origin : w.origin ≡ v.origin
    history : w.history ≡ v.history
    open_alike : AlikeOpen (w.running i) (v.running i)

  latest_alike : (w v : World) → Alike w v → latest w ≡ latest v
  latest_alike w v a = λ k. fold (a.history k) (a.origin k)

  ran_alike : (w v : World) → Alike w v → (o p : Unended) → AlikeOpen (Some o) (Some p) → ran w o ≡ ran v p
  ran_alike w v a o p alike = λ k. alone (alike.0 k) (alike.2 k) (elim (alike.0 k) [
    | Serial ↦ fold (a.history k) (a.origin k)
    | Snapshot ↦ state_at (a.origin k) (a.history k) (alike.1 k)
  ])

  -- both have this open now
  with_open : (w v : World) (o p : Option Unended) → w.origin ≡ v.origin → w.history ≡ v.history → AlikeOpen o p → Alike (set_open w i o) (set_open v i p)
  with_open w v o p origin history alike = record {
    origin = origin;
    history = history;
    open_alike = subst (λ x. AlikeOpen x ((set_open v i p).running i)) (sym (opened_so w o)) (subst (λ y. AlikeOpen o y) (sym (opened_so v p)) alike);
  }

  commits_alike : (w v : World) (kept others : List Kept) → Alike w v → kept ≡ others → ((commits w i kept).origin ≡ (commits v i others).origin) × ((commits w i kept).history ≡ (commits v i others).history)
  commits_alike w v kept others a e = (
    commits_origin w i kept ∙ a.origin ∙ sym (commits_origin v i others),
    commits_history w i kept ∙ (λ k. a.history k ++ entries (latest_alike w v a k).number i (e k)) ∙ sym (commits_history v i others),
  )

  alike_at : (w v after last : World) → after ≡ w → last ≡ v → Alike w v → Alike after last
  alike_at w v after last e f a = subst (λ (x : World). Alike x last) (sym e) (subst (Alike w) (sym f) a)

  outside_same : (w v after last : World) (number other : ℕ) (statement : StatementTree) (replies others : List Reply) → number ≡ other → Alike w v → w.running i ≡ None → v.running i ≡ None
      → EndsOutside w i statement number replies after → EndsOutside v i statement other others last → (replies ≡ others) × Alike after last
  outside_same w v after last number other (begin mode) replies others same a none_w none_v ends ends' = (
    ends.0 ∙ ap (λ n. begin_reply mode n ∷ []) same ∙ sym ends'.0,
    alike_at _ _ after last ends.1 ends'.1 (with_open w v _ _ a.origin a.history (refl, same, refl)),
  )
  outside_same w v after last number other statement replies others same a none_w none_v ends ends' =
      let latest_same = latest_alike w v a in
      let kept = (outside statement (latest w)).kept in
      let kept' = (outside statement (latest v)).kept in
      let committed_so = commits_alike w v kept kept' a (ap (λ db. (outside statement db).kept) latest_same) in (
        ends.0 ∙ ap (λ db. (outside statement db).replies) latest_same ∙ sym ends'.0,
        alike_at (commits w i kept) (commits v i kept') after last ends.1 ends'.1 (record {
          origin = committed_so.0;
          history = committed_so.1;
          open_alike = subst (λ x. AlikeOpen x ((commits v i kept').running i)) (sym (commits_running w i kept i ∙ none_w)) (subst (AlikeOpen None) (sym (commits_running v i kept' i ∙ none_v)) tt);
        }),
      )

  inside_same : (w v after last : World) (o p : Unended) (statement : StatementTree) (replies others : List Reply) → IsSettled w → IsSettled v → Foreseen after → Foreseen last
      → Alike w v → AlikeOpen (Some o) (Some p) → EndsInside w i o statement replies after → EndsInside v i p statement others last → (replies ≡ others) × Alike after last
  inside_same w v after last o p commit replies others settled settled' later later' a alike ends ends' =
      let same = ran_alike w v a o p alike in
      let committed_so = commits_alike w v (ran w o).1.kept (ran v p).1.kept a (ap (λ x. x.1.kept) same) in (
        ends.1 ∙ ap (λ x. reply.Commit (committed x.1).number ∷ []) same ∙ sym ends'.1,
        alike_at _ _ after last ends.2 ends'.2 (with_open (commits w i (ran w o).1.kept) (commits v i (ran v p).1.kept) None None committed_so.0 committed_so.1 tt),
      )
  inside_same w v after last o p (rollback None) replies others settled settled' later later' a alike ends ends' =
      (ends.1 ∙ sym ends'.1, alike_at _ _ after last ends.2 ends'.2 (with_open w v None None a.origin a.history tt))
  inside_same w v after last o p statement replies others settled settled' later later' a alike ends ends' =
      let told = told_before w after o statement replies ends (later (settled_inside w after o statement replies settled ends) (with_told o statement replies) (opened_after w after (with_told o statement replies) ends)) in
      let told' = told_before v last p statement others ends' (later' (settled_inside v last p statement others settled' ends') (with_told p statement others) (opened_after v last (with_told p statement others) ends')) in
      let same = ran_alike w v a o p alike in (
        told.1 ∙ (λ k. (inside (alike.0 k) statement (same k).1).replies) ∙ sym told'.1,
        alike_at _ _ after last ends ends' (with_open w v (Some (with_told o statement replies)) (Some (with_told p statement others)) a.origin a.history (
          alike.0,
          alike.1,
          map_more (λ (x : StatementTree × List Reply). x.0) o.told (statement, replies) ∙ ap (λ l. l ++ statement ∷ []) alike.2
              ∙ sym (map_more (λ (x : StatementTree × List Reply). x.0) p.told (statement, others)),
        )),
      )

  ended_same : (w v after last : World) (statement : StatementTree) (piece other : List ℕ) → IsSettled w → IsSettled v → Foreseen after → Foreseen last
      → Alike w v → Ended w statement piece after → Ended v statement other last → (piece ≡ other) × Alike after last
  ended_same w v after last statement piece other settled settled' later later' a end end' =
      let both = by (w.running i) (v.running i) refl refl a.open_alike end.ends end'.ends in
      (end.told ∙ ap (reply_lines i) both.0 ∙ sym end'.told, both.1)
    where
      by : (x y : Option Unended) → w.running i ≡ x → v.running i ≡ y → AlikeOpen x y → EndsBy w i x statement (latest w).number end.replies after → EndsBy v i y statement (latest v).number end'.replies last
          → (end.replies ≡ end'.replies) × Alike after last
      by None None x y alike ends ends' = outside_same w v after last (latest w).number (latest v).number statement end.replies end'.replies (ap (λ (db : Database). db.number) (latest_alike w v a)) a x y ends ends'
      by (Some o) (Some p) x y alike ends ends' = inside_same w v after last o p statement end.replies end'.replies settled settled' later later' a alike ends ends'
      by None (Some p) x y alike ends ends' = absurd alike
      by (Some o) None x y alike ends ends' = absurd alike

  stays_same : (w v after last : World) (known known' piece other : List ℕ) → known ≡ known' → Alike w v → Stays known w piece after → Stays known' v other last → (piece ≡ other) × Alike after last
  stays_same w v after last known known' piece other e a stays stays' = (stays.0 ∙ e ∙ sym stays'.0, alike_at w v after last stays.1 stays'.1 a)

  way_same : (said : Said) (w v after last : World) (piece other : List ℕ) → IsSettled w → IsSettled v → Foreseen after → Foreseen last
      → Alike w v → Way said w piece after → Way said v other last → (piece ≡ other) × Alike after last
  way_same nothing w v after last piece other settled settled' later later' a way way' = stays_same w v after last _ _ piece other refl a way way'
  way_same too_long w v after last piece other settled settled' later later' a way way' = stays_same w v after last _ _ piece other refl a way way'
  way_same bad w v after last piece other settled settled' later later' a way way' = stays_same w v after last _ _ piece other refl a way way'
  way_same (runs session (Err why)) w v after last piece other settled settled' later later' a way way' = stays_same w v after last _ _ piece other refl a way way'
  way_same (runs session (Ok statement)) w v after last piece other settled settled' later later' a way way' = ended_same w v after last statement piece other settled settled' later later' a way way'
  way_same checkpoints w v after last piece other settled settled' later later' a way way' =
      stays_same w v after last (checkpoint_line w) (checkpoint_line v) piece other (ap (λ (db : Database). codes "CHECKPOINT" ++ (codes " " ++ (decimal db.number ++ codes "\n"))) (latest_alike w v a)) a way way'
  way_same _ w v after last piece other settled settled' later later' a way way' = absurd way

  one_from : (lines : List Said) (w v : World) (out other : List ℕ) → AllByRecursion (IsOfOne i) lines → IsSettled w → IsSettled v → Alike w v → IsUnhindered out → IsUnhindered other
      → IsSerialFrom w lines out → IsSerialFrom v lines other → out ≡ other
  one_from [] w v out other are settled settled' a free free' t t' = t.0 ∙ sym t'.0
  one_from (said ∷ lines) w v out other are settled settled' a free free' (piece, after, rest, answers, whole, t) (piece', last, rest', answers', whole', t') =
      let way = answers_way said w after piece out rest are.0 settled whole free answers in
      let way' = answers_way said v last piece' other rest' are.0 settled' whole' free' answers' in
      let free_after = free_rest out piece rest whole free in
      let free_last = free_rest other piece' rest' whole' free' in
      let same = way_same said w v after last piece piece' settled settled' (foreseen lines after rest are.1 free_after t) (foreseen lines last rest' are.1 free_last t') a way way' in
      let more = one_from lines after last rest rest' are.1 (settled_way said w after piece settled way) (settled_way said v last piece' settled' way') same.1 free_after free_last t t' in
      whole ∙ (λ k. same.0 k ++ more k) ∙ sym whole'

pub one_serial_law : OneSerialLaw
one_serial_law db session lines are out other free free' serial serial' =
    one_from session lines (opened_with db) (opened_with db) out other are (λ t. refl) (λ t. refl) (record { origin = refl; history = refl; open_alike = tt }) free free' serial serial'

pub one_output_law : OneOutputLaw
one_output_law db stored opening opened_so session lines are out other after last free free' first second =
    one_serial_law db session lines are out other free free'
    (statements_law db stored opening opened_so lines out after first).0
    (statements_law db stored opening opened_so lines other last second).0

-- ---- steps

stays_lone : (session : ℕ) (story after : Story) (a : Act) (said : Answer) → IsLone session story → DoesOf story session a said after → IsLone session after
stays_lone session story after a said lone does other is n =
    ap (λ (z : Story). z.state.store.open_of other) does.2 ∙ ((part_law story.state (record { session = session; act = a; said = said }) does.0 does.1).0 other n).open_is ∙ lone other is n

-- a session without a transaction holds no lock
no_locks : (s : Store) (other : ℕ) → s.open_of other ≡ None → locks_of s other ≡ []
no_locks s other e = ap (λ o. (unwrap_or o idle).locks) e

never_hindered : (session : ℕ) (story : Story) → IsLone session story → IsHindered story session → ⊥
never_hindered session story lone h =
    let meet = h.1.meet in
    contains_none meet.lock (subst (λ (l : List Want). Contains l meet.lock) (no_locks story.state.store h.0 (lone h.0 h.1.of_session h.1.not_itself)) meet.held)

pub never_blocked_law : NeverBlockedLaw
never_blocked_law session story after a said lone does =
    let still = stays_lone session story after a said lone does in
    (still, λ sessions e. never_hindered session after still (blocked_so story after session a sessions (subst (λ x. DoesOf story session a x after) e does)).hindered)
