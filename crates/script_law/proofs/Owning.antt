-- What a line prints itself, and what all agree on after it.
use Rattle.std.specs.Prelude.{◌≡◌, ◌⊎◌, ℕ, ◌+◌, codes, Bool, IsTrue, List, [], ◌∷◌, Option, Some, None, Result, Ok, Err}
use mathlib.Core.Path.{refl, sym, ap, subst, ◌∙◌}
use mathlib.Core.Logic.{inl, inr}
use Rattle.table_laws.proofs.Stored.{by_session}
use Rattle.iv_types.specs.declared.refusal.Refusal.{Refusal}
use Rattle.iv_types.specs.declared.refusal.Refusal.TheVariants as refusal
use Rattle.iv_types.specs.declared.refusal.EngineRefusal.{EngineRefusal}
use Rattle.iv_types.specs.declared.reply.Reply.{Reply}
use Rattle.iv_types.specs.declared.reply.Reply.TheVariants as reply
use Rattle.iv_types.specs.Syntax.{StatementTree}
use Rattle.iv_meaning.specs.Schema.{Schema}
use Rattle.iv_meaning.specs.Database.{Database}
use Rattle.iv_meaning.specs.Transaction.{Transaction, outside, refused_outside}
use Rattle.iv_meaning.specs.Said.{Said, nothing, too_long, bad, runs, loads, unread, steps, cleans, checkpoints}
use Rattle.iv_meaning.specs.Serial.{World, Unended, Unfinished, none, waits, loaded, latest, base_of, ran, set_open, set_unfinished, commits, OnlyReplies as TellsSo, EndsNow, IsRefused, StaysUnfinished, PrintsWait as WaitsSo, refused_by_mode, Takes, Runs, Loads, Steps, PrintsCount, IsPassedOver, OwnPiece, EndsBy}
use Rattle.txn_machine.specs.Acts as act
use Rattle.txn_machine.specs.Acts.{Act}
use Rattle.txn_machine.specs.Answers as answer
use Rattle.txn_machine.specs.Answers.{Answer}
use Rattle.script_law.specs.Seen.{Event, Fails, Idles, event, Txn, txn_after, Visible, open_after, visible_after, committed, IsTruthful, StepLaws}
use Rattle.script_law.specs.Programs.{Standing, outside_with, Todo, Starts, Programs, ProgramLaws, Grows, objects_of, with_told}
use Rattle.script_law.specs.RunLines.{Line, seat_run, seat_stepped, idle, waiting, stepping, held as is_held, AtTable, Table, set_seat, Outcome, ended, stuck, stepped, next_of, RunsOn, has_ended, is_blocked, goes_on, Tells, Comes, RunsIt, LoadsIt, RefusedOr, Given, Stepped, Cleaned, cleaned_text, Cleans, cleaned_all, cleaned_one, clean_fails, CleansLine, pruned, prune_fails, SavesLine, saved, save_fails, Own}
use Rattle.script_law.specs.Laws.{AreEngines}
use Rattle.script_law.proofs.Basics.{IsQuiet, quiet_history, if_same, if_other, base_same, latest_same, outside_ends, inside_goes}
use Rattle.script_law.proofs.Growing.{same_grows, step_grows}
use Rattle.script_law.proofs.Agreeing.{job, Between, Within, between_within, Under, SeatAgrees, SeatIs, objects_in, others_of, Agrees, lasting, close}
use Rattle.script_law.proofs.Going.{Stays, Stage, OnOutcome, steps_on, first_runs, first_steps}
use Rattle.script_law.proofs.Refusing.{refused_at, refused_goes, not_begin, outside_refused}

-- nothing that is seen changes by it
pub data IsIdle (e : Event) : Type 0 where
  idles : e ≡ Idles → IsIdle e
  fails : (why : EngineRefusal) → e ≡ Fails why → IsIdle e

pub idle_open : (v : Visible) (t : Option Txn) (e : Event) → IsIdle e → open_after v t e ≡ t
idle_open v None e (idles x) = ap (open_after v None) x
idle_open v (Some t) e (idles x) = ap (txn_after t) x
idle_open v None e (fails why x) = ap (open_after v None) x
idle_open v (Some t) e (fails why x) = ap (txn_after t) x

module _ {S : Type 0} (view : S → Visible) (Does : S → ℕ → Act → Answer → S → Type 0) (Stands Halts : S → Type 0) (laws : StepLaws view Does Stands Halts)
    (programs : Programs) (program_laws : ProgramLaws programs) (tell : EngineRefusal → Refusal) (engines : AreEngines tell) where
  -- a piece of this kind was printed, and all agree after it
  abbrev pub Leads : (World → Type 0) → Table → S → Type 0
  Leads Piece table s = Stands s × ((after : World) × Piece after × Agrees after table (view s) (Halts s))

  -- ---- steps that end in no blocked step

  pub never_stepped : (i : ℕ) (todo left : Todo) (s after : S) (moved : ℕ) (o : Outcome) → RunsOn Does programs tell i todo s moved o after → o ≡ stepped left → ⊥
  never_stepped i _ left _ _ _ _ (has_ended replies standing s) e = absurd (cc)
  never_stepped i _ left _ _ _ _ (is_blocked todo a s mid said sessions has does x) e = absurd (cc)
  never_stepped i _ left _ _ _ _ (goes_on todo a s mid after said memory fewer o has does free more) e = never_stepped i (next_of todo said memory) left mid after fewer o more e

  module _ (i : ℕ) (w : World) (table : Table) (s : S) (stands : Stands s) (h : Agrees w table (view s) (Halts s)) where
    abbrev the_seat : AtTable
    the_seat = table i

    -- nothing changes
    silent : (Piece : World → Type 0) (table' : Table) (s' : S) → table' ≡ table → s' ≡ s → Piece w → Leads Piece table' s'
    silent Piece table' s' et es p = subst (λ x. x) (λ k. Leads Piece (sym et k) (sym es k)) (stands, (w, p, h))

    tells : (n : ℕ) (r : Reply) (piece : List ℕ) (table' : Table) (s' : S) → Tells Does programs tell n r table s piece table' s' → Leads (TellsSo w n r piece) table' s'
    tells n r piece table' s' x = silent (TellsSo w n r piece) table' s' x.table_left x.left (record { told = x.told; left = refl })

    -- ---- a statement that goes on

    going : (statement : StatementTree) (number : ℕ) (held : Schema) (kind : Todo → Line) (left : Unfinished)
        → ((objects : Schema) (todo : Todo) (stopped : Bool) (u : Option Txn) → Under objects stopped (w.running i) statement number todo u → SeatAgrees objects stopped (w.running i) left (outside_with []) (kind todo) u)
        → (todo : Todo) (s' : S) → Stays view Does Stands Halts laws programs tell i w table statement number held s' todo
        → Agrees (set_unfinished w i left) (set_seat table i (record { standing = outside_with []; line = kind todo })) (view s') (Halts s')
    going statement number held kind left so todo s' st = close i w table (view s') (Halts s') (record { standing = outside_with []; line = kind todo }) (set_unfinished w i left) (view s') (Halts s') st.stage.others (record {
      lasts = λ x. x;
      grows = same_grows (objects_in (view s'));
      origin = st.stage.others.origin;
      history = st.stage.others.history;
      running = λ j d. refl;
      unfinished = λ j d. if_other j i left (w.unfinished j) d;
      opened = λ j d. refl;
      run = w.running i;
      left = left;
      txn = (view s').open_of i;
      run_is = refl;
      left_is = if_same i left (w.unfinished i);
      txn_is = refl;
      agrees = (st.stage.stopped, st.stage.known, so (objects_in (view s')) todo st.stage.stopped ((view s').open_of i) (held, st.stage.held_grows, st.serves, st.stage.within));
    })

    -- `N: ..`
    came_running : (statement : StatementTree) (number : ℕ) (held : Schema) (o : Outcome) (piece : List ℕ) (table' : Table) (s' : S) → ((todo : Todo) → o ≡ stepped todo → ⊥)
        → OnOutcome view Does Stands Halts laws programs tell i w table statement number held o s' → Comes Does programs tell i seat_run o table piece table'
        → Leads (λ after. EndsNow w i statement number piece after ⊎ WaitsSo w i (waits statement number) piece after) table' s'
    came_running statement number held (ended replies standing) piece table' s' not x c = (
      x.0,
      (x.1.0, inl (record { replies = replies; told = c.told; ends = x.1.1 }), subst (λ y. Agrees x.1.0 y (view s') (Halts s')) (sym c.seat) x.1.2),
    )
    came_running statement number held (stuck others todo) piece table' s' not x c = (
      x.stage.stands,
      (
        set_unfinished w i (waits statement number),
        inr (record { for = others; goes_on = record { told = c.told; left_is = refl } }),
        subst (λ y. Agrees (set_unfinished w i (waits statement number)) y (view s') (Halts s')) (sym c.seat) (going statement number held waiting (waits statement number) (λ objects todo' stopped u y. y) todo s' x),
      ),
    )
    came_running statement number held (stepped todo) piece table' s' not x c = absurd (not todo refl)

    -- `N+`
    came_stepping : (statement : StatementTree) (number : ℕ) (held : Schema) (o : Outcome) (piece : List ℕ) (table' : Table) (s' : S)
        → OnOutcome view Does Stands Halts laws programs tell i w table statement number held o s' → Comes Does programs tell i seat_stepped o table piece table'
        → Leads (λ after. EndsNow w i statement number piece after ⊎ StaysUnfinished w i reply.Step (loaded statement (Some number)) piece after ⊎ WaitsSo w i (loaded statement (Some number)) piece after) table' s'
    came_stepping statement number held (ended replies standing) piece table' s' x c = (
      x.0,
      (x.1.0, inl (record { replies = replies; told = c.told; ends = x.1.1 }), subst (λ y. Agrees x.1.0 y (view s') (Halts s')) (sym c.seat) x.1.2),
    )
    came_stepping statement number held (stuck others todo) piece table' s' x c = (
      x.stage.stands,
      (
        set_unfinished w i (loaded statement (Some number)),
        inr (inr (record { for = others; goes_on = record { told = c.told; left_is = refl } })),
        subst (λ y. Agrees (set_unfinished w i (loaded statement (Some number))) y (view s') (Halts s')) (sym c.seat) (going statement number held is_held (loaded statement (Some number)) (λ objects todo' stopped u y. y) todo s' x),
      ),
    )
    came_stepping statement number held (stepped todo) piece table' s' x c = (
      x.stage.stands,
      (
        set_unfinished w i (loaded statement (Some number)),
        inr (inl (record { told = c.told; left_is = refl })),
        subst (λ y. Agrees (set_unfinished w i (loaded statement (Some number))) y (view s') (Halts s')) (sym c.seat) (going statement number held stepping (loaded statement (Some number)) (λ objects todo' stopped u y. y) todo s' x),
      ),
    )

    -- ---- a text that is given to a session

    abbrev open_now : Option Txn
    open_now = (view s).open_of i

    abbrev here : Schema
    here = objects_in (view s)

    known_objects : (stopped : Bool) (statement : StatementTree) (number : ℕ) (copy : Schema) (t : Option Txn) → open_now ≡ t → Grows copy here
        → Grows copy (objects_of (job statement None number copy) t)
    known_objects stopped statement number copy None e g = same_grows copy
    known_objects stopped statement number copy (Some t) e g = subst (Grows copy) (sym (laws.defined s i t stands e)) g

    starts : (stopped : Bool) (run : Option Unended) (standing : Standing) (t : Option Txn) (statement : StatementTree) (number : ℕ) → open_now ≡ t → Between here stopped run standing t
        → programs.refuses standing statement ≡ None → Starts stopped (job statement run number standing.copy) t (programs.start standing statement)
    starts stopped None standing t statement number now b e =
        subst (λ z. Starts stopped (job statement None number standing.copy) t (programs.start z statement)) (sym b.1)
        (program_laws.starts_outside stopped t standing.copy statement number b.0 (known_objects stopped statement number standing.copy t now b.2)
        (sym (program_laws.refuses_outside standing.copy statement) ∙ ap (λ z. programs.refuses z statement) (sym b.1) ∙ e))
    starts stopped (Some o) standing None statement number now b e = absurd b
    starts stopped (Some o) standing (Some t) statement number now b e = program_laws.starts_inside stopped o t standing statement number b e

    copy_grows : (stopped : Bool) (run : Option Unended) (standing : Standing) (t : Option Txn) → open_now ≡ t → Between here stopped run standing t → Grows standing.copy here
    copy_grows stopped None standing t now b = b.2
    copy_grows stopped (Some o) standing None now b = absurd b
    copy_grows stopped (Some o) standing (Some t) now b = subst (Grows standing.copy) (b.copy_is ∙ laws.defined s i t stands now) (same_grows standing.copy)

    mode_refuses : (stopped : Bool) (run : Option Unended) (standing : Standing) (t : Option Txn) (statement : StatementTree) → open_now ≡ t → Between here stopped run standing t
        → refused_by_mode w run statement ≡ programs.refuses standing statement
    mode_refuses stopped None standing t statement e b = sym (program_laws.refuses_outside standing.copy statement) ∙ ap (λ z. programs.refuses z statement) (sym b.1)
    mode_refuses stopped (Some o) standing None statement e b = absurd b
    mode_refuses stopped (Some o) standing (Some t) statement e b =
        let truth = subst (λ db. IsTruthful db t) (base_same w (view s) o t h.origin h.history b.is.mode_is b.is.number_is) (laws.truth s i t stands e) in
        sym (program_laws.refuses_inside standing o.mode (ran w o).1.saved statement b.mode_is (b.names (base_of w o) truth))

    reseat : (stopped : Bool) → (IsTrue stopped → Halts s) → (run : Option Unended) (standing : Standing) (t : Option Txn) → open_now ≡ t → the_seat.standing ≡ standing → the_seat.line ≡ idle → w.unfinished i ≡ none → Between here stopped run standing t
        → Agrees (set_open w i run) table (view s) (Halts s)
    reseat stopped known run standing t et es el eu b = record {
      origin = h.origin;
      history = h.history;
      seats = λ j. by_session j i
          (λ e. subst (λ (k : ℕ). SeatIs here (Halts s) ((set_open w i run).running k) (w.unfinished k) (table k).standing (table k).line ((view s).open_of k)) (sym e)
          (stopped, known, subst (λ x. x) (λ k. SeatAgrees here stopped (sym (if_same i run (w.running i)) k) (sym eu k) (sym es k) (sym el k) (sym et k)) b))
          (λ n. subst (λ r. SeatIs here (Halts s) r (w.unfinished j) (table j).standing (table j).line ((view s).open_of j)) (sym (if_other j i run (w.running j) n)) (h.seats j));
    }

    -- it is refused by mode and savepoints
    refused : (stopped : Bool) → (IsTrue stopped → Halts s) → (run : Option Unended) (standing : Standing) (t : Option Txn) (statement : StatementTree) (why : Refusal) (piece : List ℕ) (table' : Table) (s' : S)
        → w.running i ≡ run → open_now ≡ t → the_seat.standing ≡ standing → the_seat.line ≡ idle → w.unfinished i ≡ none → Between here stopped run standing t → programs.refuses standing statement ≡ Some why
        → Tells Does programs tell i (reply.Error why) table s piece table' s' → Leads (IsRefused w i statement why piece) table' s'
    refused stopped known None standing t statement why piece table' s' er et es el eu b e x =
        let so : refused_outside statement ≡ Some why = sym (program_laws.refuses_outside standing.copy statement) ∙ ap (λ z. programs.refuses z statement) (sym b.1) ∙ e in
        let same = outside_refused statement why (latest w) so in
        let kept = (outside statement (latest w)).kept in
        let after : World = commits w i kept in
        let left : w ≡ after = ap (commits w i) (sym (ap (λ (y : Transaction). y.kept) same)) in
        subst (λ x. x) (λ k. Leads (IsRefused w i statement why piece) (sym x.table_left k) (sym x.left k)) (
          stands,
          (
            after,
            record {
              told = x.told;
              ends = subst (λ r. EndsBy w i r statement (latest w).number (reply.Error why ∷ []) after) (sym er)
                  (outside_ends w i statement (latest w).number (reply.Error why ∷ []) after (not_begin statement why so) (sym (ap (λ (y : Transaction). y.replies) same)) refl);
            },
            subst (λ y. Agrees y table (view s) (Halts s)) left h,
          ),
        )
    refused stopped known (Some o) standing None statement why piece table' s' er et es el eu b e x = absurd b
    refused stopped known (Some o) standing (Some t) statement why piece table' s' er et es el eu b e x =
        let other : Unended = with_told o statement (reply.Error why ∷ []) in
        let at = refused_at stopped o t standing statement why b (λ saved is. sym (program_laws.refuses_inside standing o.mode saved statement b.mode_is is) ∙ e) in
        let goes = refused_goes o.mode (ran w o).1.saved statement why (mode_refuses stopped (Some o) standing (Some t) statement et b ∙ e) in
        subst (λ x. x) (λ k. Leads (IsRefused w i statement why piece) (sym x.table_left k) (sym x.left k)) (
          stands,
          (
            set_open w i (Some other),
            record {
              told = x.told;
              ends = subst (λ r. EndsBy w i r statement (latest w).number (reply.Error why ∷ []) (set_open w i (Some other))) (sym er)
                  (inside_goes w i o statement (reply.Error why ∷ []) (set_open w i (Some other)) goes refl);
            },
            reseat stopped known (Some other) standing (Some t) et es el eu at,
          ),
        )

    takes : (u : Unfinished) (standing : Standing) (line : Line) (read : Result StatementTree Refusal) → w.unfinished i ≡ u → the_seat.standing ≡ standing → the_seat.line ≡ line
        → (stopped : Bool) → (IsTrue stopped → Halts s) → SeatAgrees here stopped (w.running i) u standing line open_now
        → (Goes : StatementTree → List ℕ → World → Type 0) (It : StatementTree → Standing → Table → S → List ℕ → Table → S → Type 0) (piece : List ℕ) (table' : Table) (s' : S)
        → ((statement : StatementTree) → Between here stopped (w.running i) standing open_now → programs.refuses standing statement ≡ None → It statement standing table s piece table' s' → Leads (Goes statement piece) table' s')
        → Given Does programs tell i standing line read It table s piece table' s' → Leads (Takes w i u read Goes piece) table' s'
    takes none standing idle (Err why) eu es el stopped known a Goes It piece table' s' go g = tells i (reply.Error why) piece table' s' g
    takes none standing idle (Ok statement) eu es el stopped known a Goes It piece table' s' go g = by (programs.refuses standing statement) refl g
      where
        back : (z : Option Refusal) → refused_by_mode w (w.running i) statement ≡ z
            → Leads ((elim z as (λ z. List ℕ → World → Type 0) [ Some why ↦ IsRefused w i statement why | None ↦ Goes statement ]) piece) table' s' → Leads (Takes w i none (Ok statement) Goes piece) table' s'
        back z e x = subst (λ (y : Option Refusal). Leads ((elim y as (λ z. List ℕ → World → Type 0) [ Some why ↦ IsRefused w i statement why | None ↦ Goes statement ]) piece) table' s') (sym e) x

        by : (r : Option Refusal) → programs.refuses standing statement ≡ r → RefusedOr Does programs tell i r (It statement standing) table s piece table' s' → Leads (Takes w i none (Ok statement) Goes piece) table' s'
        by (Some why) e x = back (Some why) (mode_refuses stopped (w.running i) standing open_now statement refl a ∙ e) (refused stopped known (w.running i) standing open_now statement why piece table' s' refl refl es el eu a e x)
        by None e x = back None (mode_refuses stopped (w.running i) standing open_now statement refl a ∙ e) (go statement a e x)
    takes (waits st n) standing (waiting todo) read eu es el stopped known a Goes It piece table' s' go g = tells i (reply.Error refusal.SessionWaiting) piece table' s' g
    takes (loaded st None) standing (stepping todo) read eu es el stopped known a Goes It piece table' s' go g = tells i (reply.Error refusal.SessionWaiting) piece table' s' g
    takes (loaded st (Some n)) standing (stepping todo) read eu es el stopped known a Goes It piece table' s' go g = tells i (reply.Error refusal.SessionWaiting) piece table' s' g
    takes (loaded st (Some n)) standing (is_held todo) read eu es el stopped known a Goes It piece table' s' go g = tells i (reply.Error refusal.SessionWaiting) piece table' s' g
    takes _ standing _ read eu es el stopped known a Goes It piece table' s' go g = absurd a

    now_number : (latest w).number ≡ (committed (view s)).number
    now_number = ap (λ (db : Database). db.number) (sym (latest_same w (view s) h.origin h.history))

    pub own_runs : (read : Result StatementTree Refusal) (piece : List ℕ) (table' : Table) (s' : S) → Own Does programs tell (runs i read) table s piece table' s' → Leads (OwnPiece (runs i read) w piece) table' s'
    own_runs read piece table' s' g = (takes (w.unfinished i) the_seat.standing the_seat.line read refl refl refl (h.seats i).0 (h.seats i).1 (h.seats i).2 (Runs w i) (RunsIt Does programs tell i) piece table' s' go g)
      where
        go : (statement : StatementTree) → Between here (h.seats i).0 (w.running i) the_seat.standing open_now → programs.refuses the_seat.standing statement ≡ None
            → RunsIt Does programs tell i statement the_seat.standing table s piece table' s' → Leads (Runs w i statement piece) table' s'
        go statement b e x = came_running statement (latest w).number the_seat.standing.copy x.1 piece table' s'
            (λ todo is. never_stepped i (programs.start the_seat.standing statement) todo s s' x.0 x.1 x.2 is)
            (first_runs view Does Stands Halts laws programs tell i w table statement (latest w).number the_seat.standing.copy (programs.start the_seat.standing statement) s x.0 x.1 s' (record {
              stage = record {
                stands = stands;
                stopped = (h.seats i).0;
                known = (h.seats i).1;
                others = others_of i w table (view s) (Halts s) h;
                within = between_within here (h.seats i).0 (w.running i) the_seat.standing open_now b;
                held_grows = copy_grows (h.seats i).0 (w.running i) the_seat.standing open_now refl b;
              };
              starts = starts (h.seats i).0 (w.running i) the_seat.standing open_now statement (latest w).number refl b e;
              number_is = now_number;
            }) x.2) x.3

    pub own_loads : (read : Result StatementTree Refusal) (piece : List ℕ) (table' : Table) (s' : S) → Own Does programs tell (loads i read) table s piece table' s' → Leads (OwnPiece (loads i read) w piece) table' s'
    own_loads read piece table' s' g = (takes (w.unfinished i) the_seat.standing the_seat.line read refl refl refl (h.seats i).0 (h.seats i).1 (h.seats i).2 (Loads w i) (LoadsIt Does programs tell i) piece table' s' go g)
      where
        go : (statement : StatementTree) → Between here (h.seats i).0 (w.running i) the_seat.standing open_now → programs.refuses the_seat.standing statement ≡ None
            → LoadsIt Does programs tell i statement the_seat.standing table s piece table' s' → Leads (Loads w i statement piece) table' s'
        go statement b e x = subst (λ (z : S). Leads (Loads w i statement piece) table' z) (sym x.0) (
          stands,
          (
            set_unfinished w i (loaded statement None),
            record { told = x.1.told; left_is = refl },
            subst (λ y. Agrees (set_unfinished w i (loaded statement None)) y (view s) (Halts s)) (sym x.1.seat)
                (close i w table (view s) (Halts s) (record { standing = (outside_with []); line = stepping (programs.start the_seat.standing statement) }) (set_unfinished w i (loaded statement None)) (view s) (Halts s) (others_of i w table (view s) (Halts s) h) (record {
                  lasts = λ z. z;
                  grows = same_grows here;
                  origin = h.origin;
                  history = h.history;
                  running = λ j d. refl;
                  unfinished = λ j d. if_other j i (loaded statement None) (w.unfinished j) d;
                  opened = λ j d. refl;
                  run = w.running i;
                  left = loaded statement None;
                  txn = open_now;
                  run_is = refl;
                  left_is = if_same i (loaded statement None) (w.unfinished i);
                  txn_is = refl;
                  agrees = (
                    (h.seats i).0,
                    (h.seats i).1,
                    (
                      the_seat.standing.copy,
                      copy_grows (h.seats i).0 (w.running i) the_seat.standing open_now refl b,
                      λ number. starts (h.seats i).0 (w.running i) the_seat.standing open_now statement number refl b e,
                      between_within here (h.seats i).0 (w.running i) the_seat.standing open_now b,
                    ),
                  );
                })),
          ),
        )

    abbrev stage : {st : StatementTree} {n : ℕ} (stopped : Bool) → (IsTrue stopped → Halts s) → (held : Schema) → Grows held here → Within (w.running i) open_now → Stage view Does Stands Halts laws programs tell i w table st n held s
    stage stopped known held grows within = record { stands = stands; stopped = stopped; known = known; others = others_of i w table (view s) (Halts s) h; within = within; held_grows = grows }

    steps_from : (u : Unfinished) (line : Line) (piece : List ℕ) (table' : Table) (s' : S) (stopped : Bool) → (IsTrue stopped → Halts s) → SeatAgrees here stopped (w.running i) u the_seat.standing line open_now
        → Stepped Does programs tell i line table s piece table' s' → Leads (Steps w i u piece) table' s'
    steps_from none idle piece table' s' stopped known a x = tells 0 (reply.Error refusal.BadLine) piece table' s' x
    steps_from (waits st n) (waiting todo) piece table' s' stopped known a x = tells 0 (reply.Error refusal.BadLine) piece table' s' x
    steps_from (loaded st None) (stepping todo) piece table' s' stopped known a x = came_stepping st (latest w).number a.0 x.0 piece table' s'
        (first_steps view Does Stands Halts laws programs tell i w table st (latest w).number a.0 todo s x.0 s' (record { stage = stage stopped known a.0 a.1 a.3; starts = a.2 (latest w).number; number_is = now_number }) x.1) x.2
    steps_from (loaded st (Some n)) (stepping todo) piece table' s' stopped known a x = came_stepping st n a.0 x.0 piece table' s'
        (steps_on view Does Stands Halts laws programs tell i w table st n a.0 todo s x.0 s' (record { stage = stage stopped known a.0 a.1 a.3; serves = a.2 }) x.1) x.2
    steps_from (loaded st (Some n)) (is_held todo) piece table' s' stopped known a x = came_stepping st n a.0 x.0 piece table' s'
        (steps_on view Does Stands Halts laws programs tell i w table st n a.0 todo s x.0 s' (record { stage = stage stopped known a.0 a.1 a.3; serves = a.2 }) x.1) x.2
    steps_from _ _ piece table' s' stopped known a x = absurd a

    pub own_steps : (piece : List ℕ) (table' : Table) (s' : S) → Own Does programs tell (steps i) table s piece table' s' → Leads (OwnPiece (steps i) w piece) table' s'
    own_steps piece table' s' x = steps_from (w.unfinished i) the_seat.line piece table' s' (h.seats i).0 (h.seats i).1 (h.seats i).2 x

  -- ---- steps of the cleaner

  idle_quiet : (e : Event) → IsIdle e → IsQuiet e
  idle_quiet e (idles x) = subst IsQuiet (sym x) tt
  idle_quiet e (fails why x) = subst IsQuiet (sym x) tt

  idle_step : (w : World) (table : Table) (s s' : S) (a : Act) (said : Answer) → Stands s → Agrees w table (view s) (Halts s) → Does s 0 a said s' → IsIdle (event a said)
      → Stands s' × Agrees w table (view s') (Halts s')
  idle_step w table s s' a said stands h does still = (
    laws.stands s s' 0 a said stands does,
    subst (λ v. Agrees w table v (Halts s')) (sym (laws.moves s s' 0 a said stands does)) (record {
      origin = h.origin;
      history = h.history ∙ sym (quiet_history (view s) 0 e (idle_quiet e still));
      seats = λ j. subst (SeatIs (objects_in next) (Halts s') (w.running j) (w.unfinished j) (table j).standing (table j).line) (sym (same j))
          (lasting (objects_in (view s)) (objects_in next) (step_grows (view s) 0 e) (w.running j) (w.unfinished j) (table j).standing (table j).line ((view s).open_of j)
          (λ x. (laws.stays s s' 0 a said does x).0) (h.seats j));
    }),
  )
    where
      e : Event
      e = event a said

      next : Visible
      next = visible_after (view s) 0 e

      same : (j : ℕ) → next.open_of j ≡ (view s).open_of j
      same j = by_session j 0
          (λ is. ap next.open_of is ∙ if_same 0 (open_after (view s) ((view s).open_of 0) e) ((view s).open_of 0) ∙ idle_open (view s) ((view s).open_of 0) e still ∙ sym (ap (view s).open_of is))
          (λ n. if_other j 0 (open_after (view s) ((view s).open_of 0) e) ((view s).open_of j) n)

  -- `clean` prints a count or a refusal, and all agree on the same
  abbrev CleansSo : World → Table → Cleaned → S → Type 0
  CleansSo w table end s' =
      (PrintsCount w (codes "CLEAN") (λ k. Unit {0}) (cleaned_text Does programs tell end) w ⊎ IsPassedOver w (cleaned_text Does programs tell end) w) × Stands s' × Agrees w table (view s') (Halts s')

  pub cleaned : (w : World) (table : Table) (removed : ℕ) (s : S) (end : Cleaned) (s' : S) → Stands s → Agrees w table (view s) (Halts s) → Cleans Does programs tell removed s end s' → CleansSo w table end s'
  cleaned w table _ _ _ _ stands h (cleaned_all removed s after does) =
      let x = idle_step w table s after act.Clean (answer.Cleaned 0) stands h does (idles refl) in
      (inl (record { count = removed; told = refl; right = tt; left = refl }), x.0, x.1)
  cleaned w table _ _ _ _ stands h (cleaned_one removed s mid after end does more) =
      let x = idle_step w table s mid act.Clean (answer.Cleaned 1) stands h does (idles refl) in
      cleaned w table (removed + 1) mid end after x.0 x.1 more
  cleaned w table _ _ _ _ stands h (clean_fails removed s after why does) =
      let x = idle_step w table s after act.Clean (answer.Refused why) stands h does (fails why refl) in
      (inr (record { why = tell why; engines = engines why; tells = record { told = refl; left = refl } }), x.0, x.1)

  pub cleaned_line : (w : World) (table : Table) (s : S) (end : Cleaned) (s' : S) → Stands s → Agrees w table (view s) (Halts s) → CleansLine Does programs tell s end s' → CleansSo w table end s'
  cleaned_line w table _ _ _ stands h (pruned s mid after end does more) =
      let x = idle_step w table s mid act.Prune answer.Pruned stands h does (idles refl) in
      cleaned w table 0 mid end after x.0 x.1 more
  cleaned_line w table _ _ _ stands h (prune_fails s after why does) =
      let x = idle_step w table s after act.Prune (answer.Refused why) stands h does (fails why refl) in
      (inr (record { why = tell why; engines = engines why; tells = record { told = refl; left = refl } }), x.0, x.1)

  pub saved_line : (w : World) (table : Table) (s : S) (piece : List ℕ) (s' : S) → Stands s → Agrees w table (view s) (Halts s) → SavesLine Does programs tell s piece s'
      → (PrintsCount w (codes "CHECKPOINT") (λ n. n ≡ (latest w).number) piece w ⊎ IsPassedOver w piece w) × Stands s' × Agrees w table (view s') (Halts s')
  saved_line w table _ _ _ stands h (saved s after number does) =
      let x = idle_step w table s after act.Checkpoint (answer.Saved number) stands h does (idles refl) in
      (inl (record { count = number; told = refl; right = laws.saves s after 0 number stands does ∙ ap (λ (db : Database). db.number) (latest_same w (view s) h.origin h.history); left = refl }), x.0, x.1)
  saved_line w table _ _ _ stands h (save_fails s after why does) =
      let x = idle_step w table s after act.Checkpoint (answer.Refused why) stands h does (fails why refl) in
      (inr (record { why = tell why; engines = engines why; tells = record { told = refl; left = refl } }), x.0, x.1)

  pub own : (said : Said) (w : World) (table : Table) (s : S) (stands : Stands s) (h : Agrees w table (view s) (Halts s)) (piece : List ℕ) (table' : Table) (s' : S)
      → Own Does programs tell said table s piece table' s' → Leads (OwnPiece said w piece) table' s'
  own nothing w table s stands h piece table' s' x = silent 0 w table s stands h (OwnPiece nothing w piece) table' s' x.table_left x.left (x.told, refl)
  own too_long w table s stands h piece table' s' x = tells 0 w table s stands h 0 (reply.Error refusal.LineTooLong) piece table' s' x
  own bad w table s stands h piece table' s' x = tells 0 w table s stands h 0 (reply.Error refusal.BadLine) piece table' s' x
  own (runs i read) w table s stands h piece table' s' x = own_runs i w table s stands h read piece table' s' x
  own (loads i read) w table s stands h piece table' s' x = own_loads i w table s stands h read piece table' s' x
  own (unread i) w table s stands h piece table' s' x = tells i w table s stands h i (reply.Error refusal.NoMemory) piece table' s' x
  own (steps i) w table s stands h piece table' s' x = own_steps i w table s stands h piece table' s' x
  own cleans w table s stands h piece table' s' x =
      let y = cleaned_line w table s x.1.0 s' stands h x.1.2 in
      (y.1, (w, subst (λ l. PrintsCount w (codes "CLEAN") (λ k. Unit {0}) l w ⊎ IsPassedOver w l w) (sym x.1.1) y.0, subst (λ z. Agrees w z (view s') (Halts s')) (sym x.0) y.2))
  own checkpoints w table s stands h piece table' s' x =
      let y = saved_line w table s piece s' stands h x.1 in
      (y.1, (w, y.0, subst (λ z. Agrees w z (view s') (Halts s')) (sym x.0) y.2))
