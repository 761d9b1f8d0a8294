-- Wherever a session comes, what it asks for may be asked for.
use Rattle.std.specs.Prelude.{◌≡◌, ◌≢◌, ◌⊎◌, ℕ, Bool, false, IsTrue, List, [], Option, Some, None}
use mathlib.Core.Path.{refl, sym, ap, subst, ◌∙◌}
use mathlib.Core.Logic.{inl, inr}
use Rattle.iv_types.specs.declared.session.Sessions.{Sessions}
use Rattle.iv_types.specs.declared.refusal.EngineRefusal.TheVariants as engine
use Rattle.iv_types.specs.declared.reply.Reply.{Reply}
use Rattle.iv_types.specs.declared.statement.Mode.{Mode}
use Rattle.iv_types.specs.Syntax.{StatementTree}
use Rattle.iv_meaning.specs.Escrow.{IsSession}
use Rattle.iv_meaning.specs.Serial.{Unended}
use Rattle.iv_meaning.specs.Transaction.{refused_outside}
use Rattle.txn_machine.specs.Acts.{Act}
use Rattle.txn_machine.specs.Answers as answer
use Rattle.txn_machine.specs.Answers.{Answer}
use Rattle.txn_machine.specs.Alone.{Story, begun_story}
use Rattle.txn_machine.specs.Laws.{IsReachedStory}
use Rattle.txn_machine.specs.May.{May, IsWritten}
use Rattle.txn_machine.specs.State.{opened_state}
use Rattle.txn_machine.specs.Store.{opened}
use Rattle.script_law.specs.Seen.{Event, Waits, LacksRow, event, Txn, changes}
use Rattle.script_law.specs.Programs.{Standing, outside_with, Todo, says, asks, ghosts, Grows, ProgramLaws, Starts, IsAt}
use Rattle.script_law.specs.RunLines.{act_of, asked_next, ghost_next, next_of, IsNotBlocked}
use Rattle.script_law.specs.Machine.{DoesOf, IsStopped}
use Rattle.script_law.specs.Sessions.{refused_marked, start_inside, start_outside}
use Rattle.script_law.proofs.Agreeing.{job}
use Rattle.script_law.proofs.Growing.{same_grows}
use Rattle.script_law.proofs.OverMachine.{machine_laws}
use Rattle.script_law.proofs.Right.{programs_law}
use Rattle.statement_law.specs.Statements.{the_works}
use Rattle.statement_law.proofs.Works.{works_law}
use Rattle.statement_law.proofs.Refused.{HasEnded, KeepsBy, EndsIfStopped, EndsOnStop, start_stops}
use Rattle.session_asks.specs.Askable.{the_programs, left_after, ComesTo, is_there, begins, steps, others_step, AskableLaw}
use Rattle.session_asks.proofs.Coming.{free_left}
use Rattle.session_asks.proofs.Fitting.{Fits, inside_start, outside_start}
use Rattle.session_asks.proofs.Serving.{Rests, Serving, rests, starts, serving_rests, objects_at, txn_at}
use Rattle.session_asks.proofs.Living.{Live, may_ask, live_may, live_other, live_step, live_waits, fits_now, fits_locks}

record Stands (n : ℕ) (todo : Todo) (s : Story) : Type 0 where
  reached : IsReachedStory s
  stops : EndsOnStop todo
  lives : Live n todo s ⊎ IsStopped s

-- ---- once it is told that the engine is stopped

asked_stops : (e : Event) (said : Answer) (memory : Bool) (f : Answer → Bool → Todo) → ((s : Answer) (m : Bool) → KeepsBy EndsIfStopped s (f s m) × EndsOnStop (f s m)) → EndsOnStop (asked_next e said memory f)
asked_stops LacksRow said memory f h = h
asked_stops _ said memory f h = (h said memory).1

ghost_stops : (said : Answer) (memory : Bool) (f : Answer → Bool → Todo) → ((s : Answer) (m : Bool) → KeepsBy EndsIfStopped s (f s m) × EndsOnStop (f s m)) → EndsOnStop (ghost_next said memory f)
ghost_stops answer.Ghosted memory f h = h
ghost_stops said memory f h = (h said memory).1

next_stops : (todo : Todo) (said : Answer) (memory : Bool) → EndsOnStop todo → EndsOnStop (next_of todo said memory)
next_stops (says replies standing) said memory h = tt
next_stops (asks a f) said memory h = asked_stops (event a said) said memory f h
next_stops (ghosts f) said memory h = ghost_stops said memory f h

ended_act : (todo : Todo) → HasEnded todo → act_of todo ≡ None
ended_act (says replies standing) h = refl
ended_act (asks a f) h = absurd h
ended_act (ghosts f) h = absurd h

told_stop : (todo : Todo) (a : Act) (step : ℕ) (memory : Bool) → EndsOnStop todo → act_of todo ≡ Some a → act_of (next_of todo (answer.Refused (engine.Stopped step)) memory) ≡ None
told_stop (says replies standing) a step memory h has = absurd (cc)
told_stop (asks b f) a step memory h has = ended_act (f (answer.Refused (engine.Stopped step)) memory) ((h (answer.Refused (engine.Stopped step)) memory).0 refl)
told_stop (ghosts f) a step memory h has = ended_act (f (answer.Refused (engine.Stopped step)) memory) ((h (answer.Refused (engine.Stopped step)) memory).0 refl)

-- ---- what may be asked for

may : (n : ℕ) (todo : Todo) (s : Story) (a : Act) → IsSession n → Stands n todo s → act_of todo ≡ Some a → May s.state n a
may n todo s a is h has = elim h.lives [
  | inl live ↦ (may_ask n a is, inr (live_may n s is h.reached todo a live has))
  | inr stopped ↦ (may_ask n a is, inl stopped)
]

-- ---- steps

stays : (s mid : Story) (i : ℕ) (a : Act) (said : Answer) → DoesOf s i a said mid → IsStopped s → IsStopped mid
stays s mid i a said does h = (machine_laws.stays s mid i a said does h).0

other_stands : (n other : ℕ) (todo : Todo) (s mid : Story) (a : Act) (said : Answer) → other ≢ n → DoesOf s other a said mid → Stands n todo s → Stands n todo mid
other_stands n other todo s mid a said differs does h = record {
  reached = machine_laws.stands s mid other a said h.reached does;
  stops = h.stops;
  lives = elim h.lives [
    | inl live ↦ inl (live_other n other s mid a said h.reached differs does todo live)
    | inr stopped ↦ inr (stays s mid other a said does stopped)
  ];
}

data Free (e : Event) : Type 0 where
  waits : (sessions : Sessions) → e ≡ Waits sessions → Free e
  free : IsNotBlocked e → Free e

is_free : (e : Event) → Free e
is_free (Waits sessions) = waits sessions refl
is_free _ = free tt

own_stands : (n : ℕ) (todo : Todo) (s mid : Story) (a : Act) (said : Answer) (memory : Bool) → act_of todo ≡ Some a → DoesOf s n a said mid → Stands n todo s → Stands n (left_after (event a said) todo (next_of todo said memory)) mid
own_stands n todo s mid a said memory has does h = by (is_free (event a said))
  where
    reached : IsReachedStory mid
    reached = machine_laws.stands s mid n a said h.reached does

    by : Free (event a said) → Stands n (left_after (event a said) todo (next_of todo said memory)) mid
    by (waits sessions is) = subst (λ t. Stands n t mid) (sym (ap (λ e. left_after e todo (next_of todo said memory)) is)) (record {
      reached = reached;
      stops = h.stops;
      lives = elim h.lives [
        | inl live ↦ inl (live_waits n s mid a said sessions h.reached does todo has is live)
        | inr stopped ↦ inr (stays s mid n a said does stopped)
      ];
    })
    by (free is) = subst (λ t. Stands n t mid) (sym (free_left (event a said) todo (next_of todo said memory) is)) (record {
      reached = reached;
      stops = next_stops todo said memory h.stops;
      lives = elim h.lives [
        | inl live ↦ live_step n s mid a said h.reached does memory todo has is live
        | inr stopped ↦ inr (stays s mid n a said does stopped)
      ];
    })

-- ---- statements

false_or : {P : Type 0} → IsTrue false ⊎ P → P
false_or (inl never) = absurd (cc)
false_or (inr p) = p

laws : ProgramLaws the_programs
laws = programs_law the_works works_law

begun_live : (n : ℕ) (replies : List Reply) (standing : Standing) (statement : StatementTree) (s : Story) → IsReachedStory s → IsWritten statement → the_programs.refuses standing statement ≡ None
    → Live n (says replies standing) s → Live n (the_programs.start standing statement) s
begun_live n replies standing statement s reached written goes live = by (txn_at s n) refl (serving_rests (objects_at s) (txn_at s n) replies standing live.serving)
  where
    todo : Todo
    todo = the_programs.start standing statement

    live_by : (copy : _) → Grows copy (objects_at s) → (t : Option Txn) → txn_at s n ≡ t → Serving (objects_at s) t (the_programs.start standing statement) → Fits copy (the_programs.start standing statement) false t → Live n (the_programs.start standing statement) s
    live_by copy grows t is serving fits = record {
      serving = subst (λ u. Serving (objects_at s) u (the_programs.start standing statement)) (sym is) serving;
      lost = false;
      alive = λ e. live.alive live.fits;
      copy = copy;
      grows = grows;
      fits = fits_now copy (the_programs.start standing statement) false (txn_at s n) (subst (Fits copy (the_programs.start standing statement) false) (sym is) fits);
      locks = fits_locks copy (the_programs.start standing statement) false t s.state.store n fits;
    }

    inside_live : (t : Txn) → txn_at s n ≡ Some t → (o : Unended) → IsAt false o t standing → Live n (the_programs.start standing statement) s
    inside_live t is o at =
        let objects : t.objects ≡ objects_at s = machine_laws.defined s n t reached is in
        let copies : standing.copy ≡ objects_at s = at.copy_is ∙ objects in
        let grows : Grows standing.copy (objects_at s) = subst (λ l. Grows standing.copy l) copies (same_grows standing.copy) in
        live_by standing.copy grows (Some t) is
        (starts statement (Some o) standing.copy grows (λ number. laws.starts_inside false o t standing statement number at goes))
        (subst (λ (m : Option Mode). Fits standing.copy (elim m [ None ↦ start_outside the_works standing.copy statement | Some mode ↦ start_inside the_works mode standing statement ]) false (Some t)) (sym at.mode_is)
        (inside_start standing.copy o.mode standing statement t at.is.mode_is (sym at.copy_is) (λ e. ap changes (false_or at.snapshot e))
        (sym (ap (λ (m : Option Mode). elim m [ None ↦ refused_outside statement | Some mode ↦ refused_marked mode standing.saved statement ]) at.mode_is) ∙ goes)))

    by : (t : Option Txn) → txn_at s n ≡ t → Rests (objects_at s) standing t → Live n (the_programs.start standing statement) s
    by None is h =
        let refused : refused_outside statement ≡ None = sym (laws.refuses_outside standing.copy statement) ∙ ap (λ st. the_programs.refuses st statement) (sym h.0) ∙ goes in
        live_by standing.copy h.1 None is
        (starts statement None standing.copy h.1 (λ number. subst (λ st. Starts false (job statement None number standing.copy) None (the_programs.start st statement)) (sym h.0)
        (laws.starts_outside false None standing.copy statement number (inl refl) (same_grows standing.copy) refused)))
        (subst (λ st. Fits standing.copy (the_programs.start st statement) false None) (sym h.0) (outside_start standing.copy statement written refused))
    by (Some t) is h = inside_live t is h.0 h.1

begun_stands : (n : ℕ) (replies : List Reply) (standing : Standing) (statement : StatementTree) (s : Story) → IsWritten statement → the_programs.refuses standing statement ≡ None
    → Stands n (says replies standing) s → Stands n (the_programs.start standing statement) s
begun_stands n replies standing statement s written goes h = record {
  reached = h.reached;
  stops = start_stops the_works standing statement;
  lives = elim h.lives [
    | inl live ↦ inl (begun_live n replies standing statement s h.reached written goes live)
    | inr stopped ↦ inr stopped
  ];
}

-- ---- wherever it comes

comes : (n : ℕ) (todo : Todo) (s : Story) (last : Todo) (after : Story) → ComesTo n todo s last after → Stands n todo s → Stands n last after
comes n _ _ _ _ (is_there todo s) h = h
comes n _ _ _ _ (begins replies standing statement last s after written goes more) h = comes n _ s last after more (begun_stands n replies standing statement s written goes h)
comes n _ _ _ _ (steps todo a said memory last s mid after has does more) h = comes n _ mid last after more (own_stands n todo s mid a said memory has does h)
comes n _ _ _ _ (others_step other todo a said last s mid after differs does more) h = comes n todo mid last after more (other_stands n other todo s mid a said differs does h)

pub askable_law : AskableLaw
askable_law db stored opening was_opened n is = record {
  may = λ last after a more has. may n last after a is (comes n _ _ last after more new) has;
  stops = λ last after a step memory more has. told_stop last a step memory (comes n _ _ last after more new).stops has;
}
  where
    first : Story
    first = begun_story (opened_state opening (opened db stored))

    reached : IsReachedStory (begun_story (opened_state opening (opened db stored)))
    reached = record { db = db; view = stored; opening = opening; was_opened = was_opened; steps = []; tells = refl }

    new : Stands n (says [] (outside_with [])) (begun_story (opened_state opening (opened db stored)))
    new = record {
      reached = reached;
      stops = tt;
      lives = inl (record {
        serving = rests [] (outside_with []) refl (refl, (objects_at (begun_story (opened_state opening (opened db stored))), refl));
        lost = false;
        alive = λ e. refl;
        copy = [];
        grows = (objects_at (begun_story (opened_state opening (opened db stored))), refl);
        fits = refl;
        locks = tt;
      });
    }
