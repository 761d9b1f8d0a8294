-- A statement that ends: the serial meaning takes its replies, and all agree after it.
use Rattle.std.specs.Prelude.{◌≡◌, ◌≢◌, ◌⊎◌, ℕ, Bool, true, false, IsTrue, List, [], ◌∷◌, ◌++◌, Option, Some, None, if◌then◌else◌}
use mathlib.Core.Path.{refl, sym, ap, subst, ◌∙◌}
use mathlib.Core.Logic.{inl, inr}
use Rattle.std.proofs.Common.{append-nil}
use Rattle.std.proofs.lemmas.Option.{none-some}
use Rattle.iv_types.specs.declared.refusal.Refusal.{Refusal}
use Rattle.iv_types.specs.declared.reply.Reply.{Reply}
use Rattle.iv_types.specs.declared.reply.Reply.TheVariants as reply
use Rattle.iv_types.specs.declared.statement.Mode.TheVariants.{Serial}
use Rattle.iv_types.specs.Syntax.{StatementTree}
use Rattle.iv_meaning.specs.Schema.{Schema}
use Rattle.iv_meaning.specs.Database.{Database}
use Rattle.iv_meaning.specs.Statement.{Kept}
use Rattle.iv_meaning.specs.Transaction.{Running, outside, next_number, begin_reply}
use Rattle.iv_meaning.specs.Serial.{World, Unended, none, latest, base_of, ran, WasAlone, set_open, set_unfinished, commits, is_engines, is_deadlock, Ends as EndsSo, EndsBy}
use Rattle.iv_meaning.proofs.SerialLemmas.{same_number}
use Rattle.script_law.specs.Seen.{Event, Ends, Commits, Creates, Denies, Txn, txn_after, Visible, visible_after, open_after, committed, base, entries, kept_by, kept_of, IsTruthful}
use Rattle.script_law.specs.Programs.{Standing, outside_with, Todo, says, IsDone, passed_inside, passed_outside, told, began, IsClosed, commits as closes_commit, rolls_back, loses, is_alone, is_refused, is_passed, Fits, IsOf, IsOut, Grows, objects_of, with_told, new_open, is_begin}
use Rattle.script_law.specs.RunLines.{idle, Table, set_seat}
use Rattle.script_law.proofs.Basics.{if_same, if_other, base_same, latest_same, base_serial, commits_origin, commits_running, commits_unfinished, commits_history, inside_goes, outside_ends}
use Rattle.script_law.proofs.Growing.{same_grows, grows_by, step_grows}
use Rattle.script_law.proofs.Agreeing.{job, Between, Others, Agrees, objects_in, close, own_step, was_alone}

-- an engine that is not known to be stopped
fits_now : {X : Type 0} → IsTrue false ⊎ X → X
fits_now (inl e) = absurd (cc)
fits_now (inr x) = x

grows_same : (copy objects objects' : Schema) → objects ≡ objects' → Grows copy objects → Grows copy objects'
grows_same copy objects objects' e g = subst (Grows copy) e g

module _ (i : ℕ) (w : World) (table : Table) (statement : StatementTree) (number : ℕ) (held : Schema) where
  abbrev before : World
  before = set_unfinished w i none

  -- what the world and the table are then
  abbrev pub EndResult : List Reply → Standing → Visible → Type 0 → Type 0
  EndResult replies standing v H = (after : World) × EndsSo w i statement number replies after × Agrees after (set_seat table i (record { standing = standing; line = idle })) v H

  -- a world with what is seen now, in which only the history may be another
  record IsNext (v : Visible) (w' : World) (v' : Visible) : Type 0 where
    pub grows : Grows (objects_in v) (objects_in v')
    pub origin : w'.origin ≡ v'.origin
    pub history : w'.history ≡ v'.history
    pub running : (j : ℕ) → w'.running j ≡ w.running j
    pub unfinished : (j : ℕ) → w'.unfinished j ≡ before.unfinished j
    pub opened : (j : ℕ) → j ≢ i → v'.open_of j ≡ v.open_of j

  -- between two statements, of a session that may know that the engine is stopped
  abbrev IsBetween : Visible → Type 0 → Option Unended → Standing → Option Txn → Type 0
  IsBetween v H run standing t = (stopped : Bool) × (IsTrue stopped → H) × Between (objects_in v) stopped run standing t

  module _ (v : Visible) (H H' : Type 0) (lasts : H → H') (h : Others i w table v H) (held_grows : Grows held (objects_in v)) where
    next_same : IsNext v before v
    next_same = record { grows = same_grows (objects_in v); origin = h.origin; history = h.history; running = λ j. refl; unfinished = λ j. refl; opened = λ j n. refl }

    end_same : (w' : World) (v' : Visible) → IsNext v w' v' → (standing : Standing) → IsBetween v' H' (w.running i) standing (v'.open_of i)
        → Agrees w' (set_seat table i (record { standing = standing; line = idle })) v' H'
    end_same w' v' n standing b = close i w table v H (record { standing = standing; line = idle }) w' v' H' h (record {
      lasts = lasts;
      grows = n.grows;
      origin = n.origin;
      history = n.history;
      running = λ j d. n.running j;
      unfinished = λ j d. n.unfinished j ∙ if_other j i none (w.unfinished j) d;
      opened = n.opened;
      run = w.running i;
      left = none;
      txn = v'.open_of i;
      run_is = n.running i;
      left_is = n.unfinished i ∙ if_same i none (w.unfinished i);
      txn_is = refl;
      agrees = b;
    })

    end_open : (w' : World) (v' : Visible) → IsNext v w' v' → (o : Option Unended) (standing : Standing) → IsBetween v' H' o standing (v'.open_of i)
        → Agrees (set_open w' i o) (set_seat table i (record { standing = standing; line = idle })) v' H'
    end_open w' v' n o standing b = close i w table v H (record { standing = standing; line = idle }) (set_open w' i o) v' H' h (record {
      lasts = lasts;
      grows = n.grows;
      origin = n.origin;
      history = n.history;
      running = λ j d. if_other j i o (w'.running j) d ∙ n.running j;
      unfinished = λ j d. n.unfinished j ∙ if_other j i none (w.unfinished j) d;
      opened = n.opened;
      run = o;
      left = none;
      txn = v'.open_of i;
      run_is = if_same i o (w'.running i);
      left_is = n.unfinished i ∙ if_same i none (w.unfinished i);
      txn_is = refl;
      agrees = b;
    })

    -- no transaction is open
    is_out : (v' : Visible) (t : Option Txn) (copy : Schema) → t ≡ None → Grows copy (objects_in v') → IsBetween v' H' None (outside_with copy) t
    is_out v' t copy e g = (false, λ x. absurd (cc), (inl e, refl, g))

    -- the engine's refusal outside a transaction
    passed : (v' : Visible) → IsNext v before v' → (why : Refusal) (copy : Schema) → w.running i ≡ None → IsTrue (is_engines why) → IsBetween v' H' None (outside_with copy) (v'.open_of i)
        → EndResult (reply.Error why ∷ []) (outside_with copy) v' H'
    passed v' n why copy shut eng gone = by (is_deadlock why) refl
      where
        over : (after : World) → after ≡ (if is_deadlock why then set_open before i None else before) → EndsSo w i statement number (reply.Error why ∷ []) after
        over after left = inl (record { why = why; engines = eng; told = refl; ended = λ o is d. absurd (none-some o (sym shut ∙ is)); left = left })

        by : (b : Bool) → is_deadlock why ≡ b → EndResult (reply.Error why ∷ []) (outside_with copy) v' H'
        by true e = (set_open before i None, over (set_open before i None) (sym (ap (λ b. if b then set_open before i None else before) e)), end_open before v' n None (outside_with copy) gone)
        by false e = (
          before,
          over before (sym (ap (λ b. if b then set_open before i None else before) e)),
          end_same before v' n (outside_with copy) (subst (λ r. IsBetween v' H' r (outside_with copy) (v'.open_of i)) (sym shut) gone),
        )

    pub done_ends : (stopped : Bool) (t : Option Txn) (replies : List Reply) (standing : Standing) → (IsTrue stopped → H') → v.open_of i ≡ t
        → Grows (objects_of (job statement (w.running i) number held) t) (objects_in v) → IsDone stopped (job statement (w.running i) number held) t replies standing
        → EndResult replies standing v H'
    done_ends stopped _ _ _ known e known_objects (passed_inside o t standing why run eng alive at) = (
      before,
      inl (record { why = why; engines = eng; told = refl; ended = λ other is d. absurd (cc); left = sym (ap (λ b. if b then set_open before i None else before) alive) }),
      end_same before v next_same standing (stopped, known, subst (λ x. x) (λ k. Between (objects_in v) stopped (sym run k) standing (sym e k)) at),
    )
    done_ends stopped _ _ _ known e known_objects (passed_outside t why copy run eng out g) =
        passed v next_same why copy run eng
        (stopped, known, (subst (IsOut stopped) (sym e) out, refl, grows_by copy (objects_of (job statement (w.running i) number held) t) (objects_in v) g known_objects))
    done_ends stopped _ _ _ known e known_objects (told o t replies standing run goes at) = (
      set_open before i (Some (with_told o statement replies)),
      inr (subst (λ r. EndsBy before i r statement number replies (set_open before i (Some (with_told o statement replies)))) (sym run)
          (inside_goes before i o statement replies (set_open before i (Some (with_told o statement replies))) goes refl)),
      end_open before v next_same (Some (with_told o statement replies)) standing
          (stopped, known, subst (Between (objects_in v) stopped (Some (with_told o statement replies)) standing) (sym e) at),
    )
    done_ends stopped _ _ _ known e known_objects (began mode t standing run is at) = (
      set_open before i (Some (new_open mode number)),
      inr (subst (λ x. x) (λ k. EndsBy before i (sym run k) (sym is k) number (begin_reply mode number ∷ []) (set_open before i (Some (new_open mode number)))) (refl, refl)),
      end_open before v next_same (Some (new_open mode number)) standing (stopped, known, subst (Between (objects_in v) stopped (Some (new_open mode number)) standing) (sym e) at),
    )

    opened : (e : Event) (j : ℕ) → j ≢ i → (visible_after v i e).open_of j ≡ v.open_of j
    opened e j n = if_other j i (open_after v (v.open_of i) e) (v.open_of j) n

    -- ---- CREATE statements

    module _ (shut : w.running i ≡ None) (out : v.open_of i ≡ None) (nb : is_begin statement ≡ false) where
      gone : (e : Event) → open_after v None e ≡ None → (visible_after v i e).open_of i ≡ None
      gone e is = own_step i v e ∙ ap (λ t. open_after v t e) out ∙ is

      abbrev kept_now : List Kept
      kept_now = (outside statement (latest before)).kept

      same_latest : committed v ≡ latest before
      same_latest = latest_same before v h.origin h.history

      next_created : (n : ℕ) → IsNext v (commits before i kept_now) (visible_after v i (Creates statement n))
      next_created n = record {
        grows = step_grows v i (Creates statement n);
        origin = commits_origin before i kept_now ∙ h.origin;
        history = commits_history before i kept_now ∙ (λ k. h.history k ++ entries (sym same_latest k).number i (outside statement (sym same_latest k)).kept);
        running = λ j. commits_running before i kept_now j;
        unfinished = λ j. commits_unfinished before i kept_now j;
        opened = opened (Creates statement n);
      }

      pub created : (n : ℕ) → (outside statement (committed v)).replies ≡ reply.Done 0 ∷ reply.Commit n ∷ []
          → EndResult (reply.Done 0 ∷ reply.Commit n ∷ []) (outside_with held) (visible_after v i (Creates statement n)) H'
      created n so = (
        commits before i kept_now,
        inr (subst (λ r. EndsBy before i r statement number (reply.Done 0 ∷ reply.Commit n ∷ []) (commits before i kept_now)) (sym shut)
            (outside_ends before i statement number (reply.Done 0 ∷ reply.Commit n ∷ []) (commits before i kept_now) nb (sym so ∙ ap (λ db. (outside statement db).replies) same_latest) refl)),
        end_same (commits before i kept_now) v' (next_created n) (outside_with held)
            (subst (λ r. IsBetween v' H' r (outside_with held) (v'.open_of i)) (sym shut)
            (is_out v' (v'.open_of i) held (gone (Creates statement n) refl) (grows_by held (objects_in v) (objects_in v') held_grows (step_grows v i (Creates statement n))))),
      )
        where
          v' : Visible
          v' = visible_after v i (Creates statement n)

      next_denied : (why : Refusal) → (outside statement (committed v)).kept ≡ [] → IsNext v (commits before i kept_now) (visible_after v i (Denies statement why))
      next_denied why none_kept = record {
        grows = same_grows (objects_in v);
        origin = commits_origin before i kept_now ∙ h.origin;
        history = commits_history before i kept_now ∙ (λ k. h.history k ++ entries (latest before).number i ((ap (λ db. (outside statement db).kept) (sym same_latest) ∙ none_kept) k)) ∙ append-nil v.history;
        running = λ j. commits_running before i kept_now j;
        unfinished = λ j. commits_unfinished before i kept_now j;
        opened = opened (Denies statement why);
      }

      pub denied : (why : Refusal) → (outside statement (committed v)).replies ≡ reply.Error why ∷ [] → (outside statement (committed v)).kept ≡ []
          → EndResult (reply.Error why ∷ []) (outside_with held) (visible_after v i (Denies statement why)) H'
      denied why so none_kept = (
        commits before i kept_now,
        inr (subst (λ r. EndsBy before i r statement number (reply.Error why ∷ []) (commits before i kept_now)) (sym shut)
            (outside_ends before i statement number (reply.Error why ∷ []) (commits before i kept_now) nb (sym so ∙ ap (λ db. (outside statement db).replies) same_latest) refl)),
        end_same (commits before i kept_now) v' (next_denied why none_kept) (outside_with held)
            (subst (λ r. IsBetween v' H' r (outside_with held) (v'.open_of i)) (sym shut) (is_out v' (v'.open_of i) held (gone (Denies statement why) refl) held_grows)),
      )
        where
          v' : Visible
          v' = visible_after v i (Denies statement why)

    -- ---- steps that end a transaction

    module _ (t : Txn) (e : v.open_of i ≡ Some t) (truth : IsTruthful (base v t) t) (defined : t.objects ≡ objects_in v) where
      -- after a commit of what was kept
      next_commit : (n : ℕ) (kept : List Kept) → kept ≡ kept_of t → IsNext v (commits before i kept) (visible_after v i (Commits n))
      next_commit n kept is = record {
        grows = step_grows v i (Commits n);
        origin = commits_origin before i kept ∙ h.origin;
        history = commits_history before i kept ∙ (λ k. h.history k ++ entries (sym (latest_same before v h.origin h.history) k).number i ((is ∙ sym (ap kept_by e)) k));
        running = λ j. commits_running before i kept j;
        unfinished = λ j. commits_unfinished before i kept j;
        opened = opened (Commits n);
      }

      next_end : (kept : List Kept) → kept ≡ [] → IsNext v (commits before i kept) (visible_after v i Ends)
      next_end kept is = record {
        grows = same_grows (objects_in v);
        origin = commits_origin before i kept ∙ h.origin;
        history = commits_history before i kept ∙ (λ k. h.history k ++ entries (latest before).number i (is k)) ∙ append-nil v.history;
        running = λ j. commits_running before i kept j;
        unfinished = λ j. commits_unfinished before i kept j;
        opened = opened Ends;
      }

      next_ended : IsNext v before (visible_after v i Ends)
      next_ended = next_end [] refl

      gone_after : (event : Event) → txn_after t event ≡ None → (visible_after v i event).open_of i ≡ None
      gone_after event is = own_step i v event ∙ ap (λ x. open_after v x event) e ∙ is

      out_after : (event : Event) (copy : Schema) → txn_after t event ≡ None → Grows copy t.objects → IsBetween (visible_after v i event) H' None (outside_with copy) ((visible_after v i event).open_of i)
      out_after event copy is g =
          is_out (visible_after v i event) ((visible_after v i event).open_of i) copy (gone_after event is)
          (grows_by copy (objects_in v) (objects_in (visible_after v i event)) (grows_same copy t.objects (objects_in v) defined g) (step_grows v i event))

      alone_so : (o : Unended) → IsOf o t → WasAlone before o
      alone_so o is = was_alone before v o t h.origin h.history is truth

      -- on the database that was committed last
      truth_now : t.mode ≡ Serial → IsTruthful (latest before) t
      truth_now m = subst (λ db. IsTruthful db t) (base_serial v t m ∙ latest_same before v h.origin h.history) truth

      pub closed_ends : (event : Event) (next : Todo) → ((n : ℕ) → event ≡ Commits n → n ≡ next_number (kept_of t) (base v t).number)
          → IsClosed (job statement (w.running i) number held) t event next
          → (replies : List Reply) × (standing : Standing) × (next ≡ says replies standing) × EndResult replies standing (visible_after v i event) H'
      closed_ends _ _ numbers (closes_commit o n standing copy run is at g) =
          let db : Database = base_of before o in
          let r : Running = (ran before o).1 in
          let fits : Fits t standing db r = fits_now at.fits db (subst (λ x. IsTruthful x t) (base_same before v o t h.origin h.history at.is.mode_is at.is.number_is) truth) in
          let db_number : (base v t).number ≡ r.db.number = ap (λ (x : Database). x.number) (base_same before v o t h.origin h.history at.is.mode_is at.is.number_is) ∙ sym (ap (λ (x : Database). x.number) fits.db_is ∙ same_number (kept_of t) db) in
          let n_is : n ≡ next_number r.kept r.db.number = numbers n refl ∙ (λ k. next_number (sym fits.kept_is k) (db_number k)) in (
            reply.Commit n ∷ [],
            outside_with copy,
            refl,
            (
              set_open (commits before i r.kept) i None,
              inr (subst (λ x. x) (λ k. EndsBy before i (sym run k) (sym is k) number (reply.Commit n ∷ []) (set_open (commits before i r.kept) i None))
                  (alone_so o at.is, ap (λ m. reply.Commit m ∷ []) n_is, refl)),
              end_open (commits before i r.kept) (visible_after v i (Commits n)) (next_commit n r.kept fits.kept_is) None (outside_with copy) (out_after (Commits n) copy refl g),
            ),
          )
      closed_ends _ _ numbers (rolls_back o copy run is of nothing g) = (
        reply.Done 0 ∷ [],
        outside_with copy,
        refl,
        (
          set_open before i None,
          inr (subst (λ x. x) (λ k. EndsBy before i (sym run k) (sym is k) number (reply.Done 0 ∷ []) (set_open before i None)) (alone_so o of, refl, refl)),
          end_open before (visible_after v i Ends) next_ended None (outside_with copy) (out_after Ends copy refl g),
        ),
      )
      closed_ends _ _ numbers (loses o why copy run eng dead of nothing g) = (
        reply.Error why ∷ [],
        outside_with copy,
        refl,
        (
          set_open before i None,
          inl (record { why = why; engines = eng; told = refl; ended = λ other is d. subst (WasAlone before) (ap (λ x. elim x [ None ↦ o | Some y ↦ y ]) (sym run ∙ is)) (alone_so o of); left = sym (ap (λ b. if b then set_open before i None else before) dead) }),
          end_open before (visible_after v i Ends) next_ended None (outside_with copy) (out_after Ends copy refl g),
        ),
      )
      closed_ends _ _ numbers (is_alone n replies copy run nb mode lone g) =
          let now = lone (latest before) (numbers n refl ∙ ap (λ (x : Database). next_number (kept_of t) x.number) (base_serial v t mode ∙ latest_same before v h.origin h.history)) (truth_now mode) in
          let kept : List Kept = (outside statement (latest before)).kept in (
            replies,
            outside_with copy,
            refl,
            (
              commits before i kept,
              inr (subst (λ r. EndsBy before i r statement number replies (commits before i kept)) (sym run) (outside_ends before i statement number replies (commits before i kept) nb now.0 refl)),
              end_same (commits before i kept) (visible_after v i (Commits n)) (next_commit n kept (sym now.1)) (outside_with copy)
                  (subst (λ r. IsBetween (visible_after v i (Commits n)) H' r (outside_with copy) ((visible_after v i (Commits n)).open_of i)) (sym run) (out_after (Commits n) copy refl g)),
            ),
          )
      closed_ends _ _ numbers (is_refused replies copy run nb mode lone nothing g) =
          let now = lone (latest before) (truth_now mode) in
          let kept : List Kept = (outside statement (latest before)).kept in (
            replies,
            outside_with copy,
            refl,
            (
              commits before i kept,
              inr (subst (λ r. EndsBy before i r statement number replies (commits before i kept)) (sym run) (outside_ends before i statement number replies (commits before i kept) nb now.0 refl)),
              end_same (commits before i kept) (visible_after v i Ends) (next_end kept (sym now.1)) (outside_with copy)
                  (subst (λ r. IsBetween (visible_after v i Ends) H' r (outside_with copy) ((visible_after v i Ends).open_of i)) (sym run) (out_after Ends copy refl g)),
            ),
          )
      closed_ends _ _ numbers (is_passed why copy run eng nothing g) =
          (reply.Error why ∷ [], outside_with copy, refl, passed (visible_after v i Ends) next_ended why copy run eng (out_after Ends copy refl g))
