-- A statement that goes on: after each step it is served as before, or it has ended.
use Rattle.std.specs.Prelude.{◌≡◌, ◌≢◌, ◌⊎◌, ℕ, Bool, true, false, IsTrue, ◌||◌, List, [], ◌∷◌, length, Option, Some, None}
use mathlib.Core.Path.{refl, sym, ap, subst, ◌∙◌}
use mathlib.Core.Logic.{inl, inr}
use Rattle.std.proofs.lemmas.Option.{none-some}
use Rattle.iv_types.specs.declared.reply.Reply.{Reply}
use Rattle.iv_types.specs.declared.reply.Reply.TheVariants as reply
use Rattle.iv_types.specs.declared.statement.Mode.{Mode}
use Rattle.iv_types.specs.declared.session.Sessions.{Sessions}
use Rattle.iv_types.specs.declared.refusal.EngineRefusal.{EngineRefusal}
use Rattle.iv_types.specs.declared.refusal.Refusal.{Refusal}
use Rattle.iv_types.specs.Syntax.{StatementTree}
use Rattle.iv_meaning.specs.Schema.{Schema}
use Rattle.iv_meaning.specs.Transaction.{next_number}
use Rattle.iv_meaning.specs.Serial.{World, Unended}
use Rattle.txn_machine.specs.Acts as act
use Rattle.txn_machine.specs.Acts.{Act}
use Rattle.txn_machine.specs.Answers as answer
use Rattle.txn_machine.specs.Answers.{Answer}
use Rattle.script_law.specs.Seen.{Event, Waits, LacksRow, Fails, Begins, Learns, Idles, Commits, event, is_stop, CanCome, Txn, Visible, visible_after, open_after, history_after, committed, base, kept_of, new_txn, StepLaws}
use Rattle.script_law.specs.Programs.{Standing, Todo, says, asks, ghosts, Job, Grows, objects_of, Serves, OpensFirst, Starts, BeginsSo, MayCome, IsKnown, Closes, IsCreated, creates, denies, Programs, next_txn, outside_with}
use Rattle.script_law.specs.RunLines.{Outcome, ended, stuck, stepped, act_of, asked_next, ghost_next, next_of, outcome_at, outcome_of, IsNotBlocked, RunsOn, has_ended, is_blocked, goes_on, StepsOnce, had_ended, steps_once, Table}
use Rattle.script_law.proofs.Basics.{IsQuiet, quiet_history, quiet_open, same_open, Came, blocked, lacks, closed, on, came, either_true, outcome_free}
use Rattle.script_law.proofs.Growing.{same_grows, grows_by, step_grows}
use Rattle.script_law.proofs.Agreeing.{job, Others, Within, others_step, own_step, within_after, objects_in}
use Rattle.script_law.proofs.Ending.{EndResult, done_ends, closed_ends, created, denied}

-- ---- nodes

next_is : (e : Event) (said : Answer) (memory : Bool) (f : Answer → Bool → Todo) → e ≢ LacksRow → asked_next e said memory f ≡ f said memory
next_is LacksRow said memory f n = absurd (n refl)
next_is _ said memory f n = refl

lacks_pay : (a : Act) (said : Answer) → event a said ≡ LacksRow → a ≡ act.Pay
lacks_pay act.Pay said e = refl
lacks_pay _ (answer.Refused why) e = absurd (cc)
lacks_pay _ _ e = absurd (cc)

or_false : (b : Bool) → (b || false) ≡ b
or_false true = refl
or_false false = refl

idle_same : (t : Option Txn) → next_txn t Idles ≡ t
idle_same None = refl
idle_same (Some t) = refl

fails_known : (t : Option Txn) (why : EngineRefusal) → IsKnown t (Fails why)
fails_known None why = tt
fails_known (Some t) why = tt

some_inj : {A : Type 0} {a b : A} → Some a ≡ Some b → a ≡ b
some_inj e = cc

-- ---- first steps

abbrev FirstStep : Bool → Job → Option Txn → Act → (Answer → Bool → Todo) → Type 0
FirstStep stopped j t a f = (said : Answer) (memory : Bool) → MayCome stopped t a said → BeginsSo j (event a said) stopped t (λ stopped' t'. Serves stopped' j t' (f said memory))

opens_asks : (stopped : Bool) (j : Job) (t : Option Txn) (a : Act) (f : Answer → Bool → Todo) → OpensFirst stopped j t (asks a f) → (mode : Mode) × (a ≡ act.Begin mode) × FirstStep stopped j t (act.Begin mode) f
opens_asks stopped j t (act.Begin mode) f h = (mode, refl, h.1)
opens_asks stopped j t _ f h = absurd h

-- how a Begin can come
data Began (mode : Mode) (e : Event) : Type 1 where
  opens : (number defs : ℕ) → e ≡ Begins mode number defs → Began mode e
  fails : IsNotBlocked e → e ≢ LacksRow → IsQuiet e → ((j : Job) (stopped : Bool) (t : Option Txn) (More : Bool → Option Txn → Type 0) → BeginsSo j e stopped t More → More (stopped || is_stop e) (next_txn t e)) → Began mode e

began : (mode : Mode) (said : Answer) → CanCome (act.Begin mode) (event (act.Begin mode) said) → Began mode (event (act.Begin mode) said)
began mode (answer.Refused why) c = fails tt (λ x. cc) tt (λ j stopped t More h. by_txn stopped t More h)
  where
    by_txn : (stopped : Bool) (t : Option Txn) (More : Bool → Option Txn → Type 0) → More (stopped || is_stop (event (act.Begin mode) (answer.Refused why))) t
        → More (stopped || is_stop (event (act.Begin mode) (answer.Refused why))) (next_txn t (event (act.Begin mode) (answer.Refused why)))
    by_txn stopped None More h = h
    by_txn stopped (Some t) More h = h
began mode (answer.Begun number defs) c = opens number defs refl
began mode _ c = absurd c

module _ {S : Type 0} (view : S → Visible) (Does : S → ℕ → Act → Answer → S → Type 0) (Stands Halts : S → Type 0) (laws : StepLaws view Does Stands Halts)
    (programs : Programs) (tell : EngineRefusal → Refusal) (i : ℕ) (w : World) (table : Table) (statement : StatementTree) (number : ℕ) (held : Schema) where
  abbrev the_job : Job
  the_job = job statement (w.running i) number held

  abbrev HasEnded : List Reply → Standing → S → Type 0
  HasEnded replies standing s = EndResult i w table statement number held replies standing (view s) (Halts s)

  -- what holds of the engine and of all others while the session's statement goes on
  pub record Stage (s : S) : Type 0 where
    pub stands : Stands s
    -- whether the session knows that the engine is stopped, which is so then
    pub stopped : Bool
    pub known : IsTrue stopped → Halts s
    pub others : Others i w table (view s) (Halts s)
    pub within : Within (w.running i) ((view s).open_of i)
    pub held_grows : Grows held (objects_in (view s))

  -- the statement stands so
  pub record Stays (s : S) (todo : Todo) : Type 0 where
    pub stage : Stage s
    pub serves : Serves stage.stopped the_job ((view s).open_of i) todo

  data StepResult (stay next : Todo) (e : Event) (mid : S) : Type 0 where
    was_blocked : (others : Sessions) → e ≡ Waits others → Stays mid stay → StepResult stay next e mid
    ended_so : IsNotBlocked e → (replies : List Reply) (standing : Standing) → next ≡ says replies standing → Stands mid → HasEnded replies standing mid → StepResult stay next e mid
    goes : IsNotBlocked e → Stays mid next → StepResult stay next e mid

  -- the definitions that are known are the engine's
  objects_known : (s : S) → Stands s → Grows held (objects_in (view s)) → (t : Option Txn) → (view s).open_of i ≡ t → Grows (objects_of the_job t) (objects_in (view s))
  objects_known s stands g None e = g
  objects_known s stands g (Some t) e = subst (Grows t.objects) (laws.defined s i t stands e) (same_grows t.objects)

  -- ---- one step

  module _ (s mid : S) (a : Act) (said : Answer) (does : Does s i a said mid) (st : Stage s) where
    abbrev now : Option Txn
    now = (view s).open_of i

    abbrev e : Event
    e = event a said

    moved_view : view mid ≡ visible_after (view s) i e
    moved_view = laws.moves s mid i a said st.stands does

    open_mid : (view mid).open_of i ≡ open_after (view s) now e
    open_mid = ap (λ (v : Visible). v.open_of i) moved_view ∙ own_step i (view s) e

    lasts : Halts s → Halts mid
    lasts x = (laws.stays s mid i a said does x).0

    known_after : IsTrue (st.stopped || is_stop e) → Halts mid
    known_after x = elim (either_true st.stopped (is_stop e) x) [ inl y ↦ lasts (st.known y) | inr y ↦ laws.halts s mid i a said does y ]

    held_after : Grows held (objects_in (view mid))
    held_after = subst (λ v. Grows held (objects_in v)) (sym moved_view)
        (grows_by held (objects_in (view s)) (objects_in (visible_after (view s) i e)) st.held_grows (step_grows (view s) i e))

    is_known : (t : Option Txn) (x : Event) → now ≡ t → e ≡ x → IsKnown t x
    is_known None x is ex = tt
    is_known (Some t) (Learns objects) is ex = laws.learns s mid i a said objects st.stands does ex ∙ sym (laws.defined s i t st.stands is)
    is_known (Some t) _ is ex = tt

    may_come : MayCome st.stopped now a said
    may_come = record {
      can = laws.answers s mid i a said st.stands does;
      stop = λ x. (laws.stays s mid i a said does (st.known x)).1;
      known = is_known now e refl refl;
    }

    -- a quiet step
    stage_after : IsQuiet e → Stage mid
    stage_after q = record {
      stands = laws.stands s mid i a said st.stands does;
      stopped = st.stopped || is_stop e;
      known = known_after;
      others = subst (λ v. Others i w table v (Halts mid)) (sym moved_view) (others_step i w table (view s) (Halts s) (Halts mid) e lasts (quiet_history (view s) i e q) st.others);
      within = subst (Within (w.running i)) (sym (open_mid ∙ quiet_open (view s) now e q)) (within_after (w.running i) now e q st.within);
      held_grows = held_after;
    }

    quiet_stays : (next : Todo) → (q : IsQuiet e) → Serves (st.stopped || is_stop e) the_job (next_txn now e) next → Stays mid next
    unfolding stage_after
    quiet_stays next q serves = record {
      stage = stage_after q;
      serves = subst (λ t. Serves (st.stopped || is_stop e) the_job t next) (sym (open_mid ∙ quiet_open (view s) now e q)) serves;
    }

    -- a step that leaves what is seen of the session's transaction
    same_stays : (next : Todo) → ((e ≡ LacksRow) ⊎ ((sessions : Sessions) × (e ≡ Waits sessions))) → Serves st.stopped the_job now next → Stays mid next
    same_stays next is serves = record {
      stage = record {
        stands = laws.stands s mid i a said st.stands does;
        stopped = st.stopped;
        known = λ x. lasts (st.known x);
        others = subst (λ v. Others i w table v (Halts mid)) (sym moved_view) (others_step i w table (view s) (Halts s) (Halts mid) e lasts (quiet_history (view s) i e quiet) st.others);
        within = subst (Within (w.running i)) (sym same) st.within;
        held_grows = held_after;
      };
      serves = subst (λ t. Serves st.stopped the_job t next) (sym same) serves;
    }
      where
        quiet : IsQuiet e
        quiet = elim is [ inl x ↦ subst IsQuiet (sym x) tt | inr x ↦ subst IsQuiet (sym x.1) tt ]

        same : (view mid).open_of i ≡ now
        same = open_mid ∙ same_open now e is (view s)

    closes : (next stay : Todo) → IsNotBlocked e → (t : Option Txn) → now ≡ t → Closes the_job t e next → StepResult stay next e mid
    closes next stay free (Some t) is c =
        let numbers : (n : ℕ) → e ≡ Commits n → n ≡ next_number (kept_of t) (base (view s) t).number = λ n ex. laws.numbers s mid i a said n t st.stands does ex is in
        let r = closed_ends i w table statement number held (view s) (Halts s) (Halts mid) lasts st.others st.held_grows t is (laws.truth s i t st.stands is)
        (laws.defined s i t st.stands is) e next numbers c in
        ended_so free r.0 r.1 r.2 (laws.stands s mid i a said st.stands does)
        (subst (λ v. EndResult i w table statement number held r.0 r.1 v (Halts mid)) (sym moved_view) r.3)
    closes next stay free None is c = by e next refl c
      where
        by : (x : Event) (next : Todo) → e ≡ x → IsCreated the_job x next → StepResult stay next e mid
        by _ _ ex (creates n shut nb) = ended_so free (reply.Done 0 ∷ reply.Commit n ∷ []) (outside_with held) refl (laws.stands s mid i a said st.stands does)
            (subst (λ v. EndResult i w table statement number held (reply.Done 0 ∷ reply.Commit n ∷ []) (outside_with held) v (Halts mid)) (sym (moved_view ∙ ap (visible_after (view s) i) ex))
            (created i w table statement number held (view s) (Halts s) (Halts mid) lasts st.others st.held_grows shut is nb n (laws.creates s mid i a said statement n st.stands does ex)))
        by _ _ ex (denies why shut nb) =
            let so = laws.denies s mid i a said statement why st.stands does ex in
            ended_so free (reply.Error why ∷ []) (outside_with held) refl (laws.stands s mid i a said st.stands does)
            (subst (λ v. EndResult i w table statement number held (reply.Error why ∷ []) (outside_with held) v (Halts mid)) (sym (moved_view ∙ ap (visible_after (view s) i) ex))
            (denied i w table statement number held (view s) (Halts s) (Halts mid) lasts st.others st.held_grows shut is nb why so.0 so.1))

    asked : (memory : Bool) (f : Answer → Bool → Todo) → Serves st.stopped the_job now (asks a f) → StepResult (asks a f) (asked_next e said memory f) e mid
    asked memory f serves = by (came the_job now e (f said memory) (Serves (st.stopped || is_stop e) the_job (next_txn now e) (f said memory)) (serves.1 said memory may_come))
      where
        by : Came the_job now e (f said memory) (Serves (st.stopped || is_stop e) the_job (next_txn now e) (f said memory)) → StepResult (asks a f) (asked_next e said memory f) e mid
        by (blocked others' x) = was_blocked others' x (same_stays (asks a f) (inr (others', x)) serves)
        by (lacks x) = goes (subst IsNotBlocked (sym x) tt) (subst (Stays mid) (sym (ap (λ y. asked_next y said memory f) x))
            (same_stays (ghosts f) (inl x) (subst (λ b. Serves st.stopped the_job now (asks b f)) (lacks_pay a said x) serves)))
        by (closed free n c) = subst (λ next. StepResult (asks a f) next e mid) (sym (next_is e said memory f n)) (closes (f said memory) (asks a f) free now refl c)
        by (on free n q more) = goes free (subst (Stays mid) (sym (next_is e said memory f n)) (quiet_stays (f said memory) q more))

  -- the row of a group is made
  ghosted : (s mid : S) (said : Answer) (memory : Bool) → Does s i act.Ghost said mid → (st : Stage s) → (f : Answer → Bool → Todo) → Serves st.stopped the_job ((view s).open_of i) (ghosts f)
      → StepResult (ghosts f) (ghost_next said memory f) (event act.Ghost said) mid
  ghosted s mid answer.Ghosted memory does st f serves = goes tt (quiet_stays s mid act.Ghost answer.Ghosted does st (asks act.Pay f) tt
      (subst (λ x. x) (λ k. Serves (sym (or_false st.stopped) k) the_job (sym (idle_same ((view s).open_of i)) k) (asks act.Pay f)) serves))
  ghosted s mid (answer.Refused why) memory does st f serves = goes tt (quiet_stays s mid act.Ghost (answer.Refused why) does st (f (answer.Refused why) memory) tt
      (serves.1 (answer.Refused why) memory (record { can = tt; stop = λ x. (laws.stays s mid i act.Ghost (answer.Refused why) does (st.known x)).1; known = fails_known ((view s).open_of i) why })))
  ghosted s mid _ memory does st f serves = absurd (laws.answers s mid i act.Ghost _ st.stands does)

  step_result : (todo : Todo) (a : Act) (s mid : S) (said : Answer) (memory : Bool) → act_of todo ≡ Some a → Does s i a said mid → Stays s todo → StepResult todo (next_of todo said memory) (event a said) mid
  step_result (says replies standing) a s mid said memory is does h = absurd (none-some a is)
  step_result (asks b f) a s mid said memory is does h = subst (λ x. StepResult (asks b f) (next_of (asks b f) said memory) (event x said) mid) (some_inj is) (asked s mid b said (subst (λ x. Does s i x said mid) (sym (some_inj is)) does) h.stage memory f h.serves)
  step_result (ghosts f) a s mid said memory is does h = subst (λ x. StepResult (ghosts f) (next_of (ghosts f) said memory) (event x said) mid) (some_inj is) (ghosted s mid said memory (subst (λ x. Does s i x said mid) (sym (some_inj is)) does) h.stage f h.serves)

  -- ---- runs

  abbrev pub OnOutcome : Outcome → S → Type 0
  OnOutcome (ended replies standing) s = Stands s × HasEnded replies standing s
  OnOutcome (stuck others todo) s = Stays s todo
  OnOutcome (stepped todo) s = Stays s todo

  stays_outcome : (s : S) (todo : Todo) → Stays s todo → OnOutcome (outcome_at todo) s
  stays_outcome s (says replies standing) h = (
    h.stage.stands,
    done_ends i w table statement number held (view s) (Halts s) (Halts s) (λ x. x) h.stage.others h.stage.held_grows h.stage.stopped ((view s).open_of i) replies standing h.stage.known refl
        (objects_known s h.stage.stands h.stage.held_grows ((view s).open_of i) refl) h.serves,
  )
  stays_outcome s (asks a f) h = h
  stays_outcome s (ghosts f) h = h

  once_on : (stay next : Todo) (e : Event) (mid : S) → StepResult stay next e mid → OnOutcome (outcome_of e stay next) mid
  once_on stay next e mid (was_blocked others b stays) = subst (λ x. OnOutcome (outcome_of x stay next) mid) (sym b) stays
  once_on stay next e mid (ended_so free replies standing n stands end) = subst (λ o. OnOutcome o mid) (sym (outcome_free e stay next free ∙ ap outcome_at n)) (stands, end)
  once_on stay next e mid (goes free stays) = subst (λ o. OnOutcome o mid) (sym (outcome_free e stay next free)) (stays_outcome mid next stays)

  blocked_on : (stay next : Todo) (e : Event) (mid : S) (others : Sessions) → e ≡ Waits others → StepResult stay next e mid → Stays mid stay
  blocked_on stay next e mid others is (was_blocked others' b stays) = stays
  blocked_on stay next e mid others is (ended_so free replies standing n stands end) = absurd (subst IsNotBlocked is free)
  blocked_on stay next e mid others is (goes free stays) = absurd (subst IsNotBlocked is free)

  -- nothing follows what has ended
  ends_at : (todo : Todo) (mid : S) (fewer : ℕ) (o : Outcome) (after : S) (replies : List Reply) (standing : Standing) → RunsOn Does programs tell i todo mid fewer o after
      → todo ≡ says replies standing → (o ≡ ended replies standing) × (after ≡ mid)
  ends_at _ _ _ _ _ replies standing (has_ended replies' standing' s) is = (ap outcome_at is, refl)
  ends_at _ _ _ _ _ replies standing (is_blocked todo a s mid said sessions has does x) is = absurd (none-some a (sym (ap act_of is) ∙ has))
  ends_at _ _ _ _ _ replies standing (goes_on todo a s mid after said memory fewer o has does free more) is = absurd (none-some a (sym (ap act_of is) ∙ has))

  after_step : (stay next : Todo) (x : Event) (mid after : S) (fewer : ℕ) (o : Outcome) → IsNotBlocked x → (Stays mid next → OnOutcome o after) → RunsOn Does programs tell i next mid fewer o after
      → StepResult stay next x mid → OnOutcome o after
  after_step stay next x mid after fewer o free then r (was_blocked others b stays) = absurd (subst IsNotBlocked b free)
  after_step stay next x mid after fewer o free then r (ended_so free' replies standing n stands end) =
      let both = ends_at next mid fewer o after replies standing r n in
      subst (λ x. x) (λ k. OnOutcome (sym both.0 k) (sym both.1 k)) (stands, end)
  after_step stay next x mid after fewer o free then r (goes free' stays) = then stays

  pub runs_on : (todo : Todo) (s : S) (moved : ℕ) (o : Outcome) (after : S) → Stays s todo → RunsOn Does programs tell i todo s moved o after → OnOutcome o after
  runs_on _ _ _ _ _ h (has_ended replies standing s) = stays_outcome s (says replies standing) h
  runs_on _ _ _ _ _ h (is_blocked todo a s mid said sessions has does x) =
      blocked_on todo (next_of todo said true) (event a said) mid sessions x (step_result todo a s mid said true has does h)
  runs_on _ _ _ _ _ h (goes_on todo a s mid after said memory fewer o has does free more) =
      after_step todo (next_of todo said memory) (event a said) mid after fewer o free (λ stays. runs_on (next_of todo said memory) mid fewer o after stays more) more (step_result todo a s mid said memory has does h)

  pub steps_on : (todo : Todo) (s : S) (o : Outcome) (after : S) → Stays s todo → StepsOnce Does programs tell i todo s o after → OnOutcome o after
  steps_on _ _ _ _ h (had_ended replies standing s) = stays_outcome s (says replies standing) h
  steps_on _ _ _ _ h (steps_once todo a s after said memory has does) = once_on todo (next_of todo said memory) (event a said) after (step_result todo a s after said memory has does h)

  -- ---- from the first step on

  pub record Fresh (s : S) (todo : Todo) : Type 0 where
    pub stage : Stage s
    pub starts : Starts stage.stopped the_job ((view s).open_of i) todo
    pub number_is : number ≡ (committed (view s)).number

  within_new : (run : Option Unended) (t : Option Txn) → Within run None → Within run t
  within_new None t h = tt
  within_new (Some o) t h = absurd h

  opened : (s mid : S) (mode : Mode) (said : Answer) (memory : Bool) (f : Answer → Bool → Todo) → Does s i (act.Begin mode) said mid → (st : Stage s) → number ≡ (committed (view s)).number
      → (n d : ℕ) → event (act.Begin mode) said ≡ Begins mode n d → (t : Option Txn) → (view s).open_of i ≡ t
      → BeginsSo the_job (Begins mode n d) st.stopped t (λ stopped' t'. Serves stopped' the_job t' (f said memory))
      → StepResult (asks (act.Begin mode) f) (asked_next (event (act.Begin mode) said) said memory f) (event (act.Begin mode) said) mid
  opened s mid mode said memory f does st e n d is (Some t) out h = absurd h
  opened s mid mode said memory f does st e n d is None out h =
      goes (subst IsNotBlocked (sym is) tt) (subst (λ x. Stays mid (asked_next x said memory f)) (sym is) (record {
        stage = record {
          stands = laws.stands s mid i (act.Begin mode) said st.stands does;
          stopped = st.stopped;
          known = λ x. lasts s mid (act.Begin mode) said does st (st.known x);
          others = subst (λ v. Others i w table v (Halts mid)) (sym (moved_view s mid (act.Begin mode) said does st))
              (others_step i w table (view s) (Halts s) (Halts mid) (event (act.Begin mode) said) (lasts s mid (act.Begin mode) said does st) (ap (history_after (view s) i) is) st.others);
          within = subst (Within (w.running i)) (sym now_open) (within_new (w.running i) (Some (new_txn mode n (objects_in (view s)))) (subst (Within (w.running i)) out st.within));
          held_grows = held_after s mid (act.Begin mode) said does st;
        };
        serves = subst (λ t. Serves st.stopped the_job t (f said memory)) (sym now_open) (h (facts.0 ∙ sym e) (objects_in (view s)) st.held_grows facts.1);
      }))
    where
      facts : (n ≡ (committed (view s)).number) × (d ≡ length (objects_in (view s)))
      facts = laws.begins s mid i (act.Begin mode) said mode n d st.stands does is

      now_open : (view mid).open_of i ≡ Some (new_txn mode n (objects_in (view s)))
      now_open = open_mid s mid (act.Begin mode) said does st ∙ (λ k. open_after (view s) (out k) (is k))

  begins : (s mid : S) (mode : Mode) (said : Answer) (memory : Bool) (f : Answer → Bool → Todo) → Does s i (act.Begin mode) said mid → (st : Stage s) → number ≡ (committed (view s)).number
      → FirstStep st.stopped the_job ((view s).open_of i) (act.Begin mode) f → StepResult (asks (act.Begin mode) f) (asked_next (event (act.Begin mode) said) said memory f) (event (act.Begin mode) said) mid
  begins s mid mode said memory f does st e first = by (event (act.Begin mode) said) refl (began mode said (laws.answers s mid i (act.Begin mode) said st.stands does)) (first said memory (may_come s mid (act.Begin mode) said does st))
    where
      by : (x : Event) → event (act.Begin mode) said ≡ x → Began mode (event (act.Begin mode) said)
          → BeginsSo the_job (event (act.Begin mode) said) st.stopped ((view s).open_of i) (λ stopped' t'. Serves stopped' the_job t' (f said memory))
          → StepResult (asks (act.Begin mode) f) (asked_next (event (act.Begin mode) said) said memory f) (event (act.Begin mode) said) mid
      by x ex (opens n d is) h = opened s mid mode said memory f does st e n d is ((view s).open_of i) refl
          (subst (λ y. BeginsSo the_job y st.stopped ((view s).open_of i) (λ stopped' t'. Serves stopped' the_job t' (f said memory))) is h)
      by x ex (fails free n quiet so) h =
          goes free (subst (Stays mid) (sym (next_is (event (act.Begin mode) said) said memory f n))
          (quiet_stays s mid (act.Begin mode) said does st (f said memory) quiet (so the_job st.stopped ((view s).open_of i) (λ stopped' t'. Serves stopped' the_job t' (f said memory)) h)))

  first_result : (todo : Todo) (a : Act) (s mid : S) (said : Answer) (memory : Bool) → act_of todo ≡ Some a → Does s i a said mid → Fresh s todo → StepResult todo (next_of todo said memory) (event a said) mid
  first_result (says replies standing) a s mid said memory is does h = absurd (none-some a is)
  first_result (asks b f) a s mid said memory is does h = elim h.starts [
    | inl serves ↦ step_result (asks b f) a s mid said memory is does (record { stage = h.stage; serves = serves })
    | inr first ↦ let x = opens_asks h.stage.stopped the_job ((view s).open_of i) b f first in by x.0 x.1 x.2
  ]
    where
      by : (mode : Mode) → b ≡ act.Begin mode → FirstStep h.stage.stopped the_job ((view s).open_of i) (act.Begin mode) f → StepResult (asks b f) (next_of (asks b f) said memory) (event a said) mid
      by mode eb first =
          subst (λ x. StepResult (asks x f) (next_of (asks x f) said memory) (event a said) mid) (sym eb)
          (subst (λ x. StepResult (asks (act.Begin mode) f) (next_of (asks (act.Begin mode) f) said memory) (event x said) mid) (sym eb ∙ some_inj is)
          (begins s mid mode said memory f (subst (λ x. Does s i x said mid) (sym (sym eb ∙ some_inj is)) does) h.stage h.number_is first))
  first_result (ghosts f) a s mid said memory is does h = elim h.starts [
    | inl serves ↦ step_result (ghosts f) a s mid said memory is does (record { stage = h.stage; serves = serves })
    | inr first ↦ absurd first
  ]

  fresh_says : (s : S) (replies : List Reply) (standing : Standing) → Fresh s (says replies standing) → Stays s (says replies standing)
  fresh_says s replies standing h = elim h.starts [
    | inl serves ↦ record { stage = h.stage; serves = serves }
    | inr first ↦ absurd first
  ]

  pub first_runs : (todo : Todo) (s : S) (moved : ℕ) (o : Outcome) (after : S) → Fresh s todo → RunsOn Does programs tell i todo s moved o after → OnOutcome o after
  first_runs _ _ _ _ _ h (has_ended replies standing s) = stays_outcome s (says replies standing) (fresh_says s replies standing h)
  first_runs _ _ _ _ _ h (is_blocked todo a s mid said sessions has does x) =
      blocked_on todo (next_of todo said true) (event a said) mid sessions x (first_result todo a s mid said true has does h)
  first_runs _ _ _ _ _ h (goes_on todo a s mid after said memory fewer o has does free more) =
      after_step todo (next_of todo said memory) (event a said) mid after fewer o free (λ stays. runs_on (next_of todo said memory) mid fewer o after stays more) more (first_result todo a s mid said memory has does h)

  pub first_steps : (todo : Todo) (s : S) (o : Outcome) (after : S) → Fresh s todo → StepsOnce Does programs tell i todo s o after → OnOutcome o after
  first_steps _ _ _ _ h (had_ended replies standing s) = stays_outcome s (says replies standing) (fresh_says s replies standing h)
  first_steps _ _ _ _ h (steps_once todo a s after said memory has does) = once_on todo (next_of todo said memory) (event a said) after (first_result todo a s after said memory has does h)
