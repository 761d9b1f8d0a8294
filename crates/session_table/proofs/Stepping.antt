-- A step that a session asks for, and what follows its answer.
use Rattle.std.specs.Prelude.{◌≡◌, ◌≢◌, ◌+◌, ℕ, Bool, true, Some, None}
use mathlib.Core.Path.{refl, sym, ap, subst, ◌∙◌}
use mathlib.Core.Logic.{inl, inr}
use Rattle.iv_types.specs.declared.session.Sessions.{Sessions}
use Rattle.iv_types.specs.declared.refusal.EngineRefusal.TheVariants as engine
use Rattle.txn_machine.specs.Acts as act
use Rattle.txn_machine.specs.Acts.{Act}
use Rattle.txn_machine.specs.Answers as answer
use Rattle.txn_machine.specs.Answers.{Answer}
use Rattle.txn_machine.specs.State.{State}
use Rattle.txn_machine.specs.Steps as machine
use Rattle.txn_machine.specs.Alone.{Story, story_after}
use Rattle.txn_machine.specs.May.{May}
use Rattle.txn_book.specs.declared.step.Step.{Step}
use Rattle.txn_book.specs.declared.step.Answer.{Answer as BookAnswer}
use Rattle.txn_book.specs.declared.step.Answer.TheVariants as book_answer
use Rattle.txn_book.specs.Acts as book
use Rattle.txn_book.specs.Moves.{IsAsked, IsAskable as CanAsk, Moves}
use Rattle.script_law.specs.Seen.{Event, Waits, event, CanCome}
use Rattle.script_law.specs.RunLines.{act_of, next_of, IsNotBlocked}
use Rattle.script_law.specs.Machine.{DoesOf}
use Rattle.script_law.proofs.OverMachine.{machine_laws}
use Rattle.txn_sessions.specs.declared.session.Session.{Session}
use Rattle.txn_sessions.specs.Fits.{IsOwn, IsAnswered, IsRefused}
use Rattle.txn_sessions.specs.Sessions.{todo_of}
use Rattle.txn_sessions.specs.Within.{IsWithin}
use Rattle.session_asks.specs.Askable.{is_there}
use Rattle.session_table.specs.Going.{StandsIn, MayGo, AnsweredBy, DidStep}
use Rattle.std.proofs.Common.{arith}
use Rattle.session_table.proofs.Counting.{within_more}

-- ---- events

pub own_event : (a : Act) (said : Answer) → CanCome a (event a said) → ((sessions : Sessions) → said ≢ answer.Blocked sessions) → IsOwn (event a said)
own_event (act.Begin mode) (answer.Begun number defs) h free = tt
own_event act.Defs (answer.Defs objects) h free = tt
own_event (act.Fetch i r m) (answer.Rows rows) h free = tt
own_event (act.Peek i r) (answer.Rows rows) h free = tt
own_event (act.Put t k n) (answer.Changed before owed) h free = tt
own_event act.Pay (answer.Paid left) h free = tt
own_event act.Pay answer.NeedsGhost h free = tt
own_event act.Ghost answer.Ghosted h free = tt
own_event act.UndoOne (answer.Undone left) h free = tt
own_event act.End answer.Ended h free = tt
own_event act.Commit (answer.Committed number) h free = tt
own_event (act.Schema statement) (answer.Committed number) h free = tt
own_event (act.Schema statement) (answer.Denied why) h free = tt
own_event act.Clean (answer.Cleaned count) h free = tt
own_event act.Prune answer.Pruned h free = tt
own_event act.Checkpoint (answer.Saved number) h free = tt
own_event act.Cancel answer.Cancelled h free = tt
own_event a (answer.Refused why) h free = tt
own_event a (answer.Blocked sessions) h free = absurd (free sessions refl)
own_event _ _ h free = absurd h

pub own_free : (e : Event) → IsOwn e → IsNotBlocked e
own_free (Waits sessions) h = absurd h
own_free _ h = tt

pub blocked_waits : (a : Act) (sessions : Sessions) → CanCome a (event a (answer.Blocked sessions)) → event a (answer.Blocked sessions) ≡ Waits sessions
blocked_waits (act.Fetch i r m) sessions h = refl
blocked_waits (act.Put t k n) sessions h = refl
blocked_waits act.Pay sessions h = refl
blocked_waits _ sessions h = absurd h

-- ---- what is asked

-- the step that a session asks for may be asked for
pub may_step : (x : Session) (s : Story) (b : Step) → MayGo x s → Some (book.act_of b.act) ≡ act_of (todo_of x) → b.session ≡ x.number → IsAsked s.state b
may_step x s b go e n = subst (λ i. May s.state i (book.act_of b.act)) (sym n) (go.askable.may (todo_of x) s (book.act_of b.act) (is_there (todo_of x) s) (sym e))

pub can_step : (Stands : State → Type 0) (x : Session) (b : Step) (h : StandsIn Stands (MayGo x)) → Some (book.act_of b.act) ≡ act_of (todo_of x) → b.session ≡ x.number → CanAsk Stands b
can_step Stands x b h e n = record { state = h.story.state; stands = h.stands; asked = may_step x h.story b h.holds e n }

pub answered_by : (Stands : State → Type 0) (May : _) (x : Session) (s : Story) (b : Step) (said : BookAnswer) → Some (book.act_of b.act) ≡ act_of (todo_of x) → b.session ≡ x.number
    → Moves Stands May s.state b said → StandsIn Stands (AnsweredBy s x (book.answer_of said))
answered_by Stands May x s b said e n m =
    let did : machine.Did = record { session = x.number; act = book.act_of b.act; said = book.answer_of said } in
    record {
      story = story_after s did m.after;
      stands = m.stands;
      holds = record {
        act = book.act_of b.act;
        asks = sym e;
        does = (m.after, subst (λ i. machine.Step s.state i (book.act_of b.act) (book.answer_of said) m.after) n m.does, refl);
      };
    }

-- ---- what follows

abbrev pub IsFree : Answer → Type 0
IsFree said = (sessions : Sessions) → said ≢ answer.Blocked sessions

module _ (s : Story) (x : Session) (a : Act) (said : Answer) (after : Story) (go : MayGo x s) (asks : act_of (todo_of x) ≡ Some a) (does : DoesOf s x.number a said after) where
  can_come : CanCome a (event a said)
  can_come = machine_laws.answers s after x.number a said go.reached does

  pub answered_own : IsFree said → IsAnswered (act_of (todo_of x)) said
  answered_own free = subst (λ o. IsAnswered o said) (sym asks) (own_event a said can_come free)

  pub goes_on : (x' : Session) (memory : Bool) → IsFree said → todo_of x' ≡ next_of (todo_of x) said memory → ((n : ℕ) → IsWithin n x → IsWithin (n + 1) x')
      → ((n : ℕ) → IsWithin n x → IsRefused said → IsWithin n x') → DidStep s x None x' after
  goes_on x' memory free is more same = elim does.1.does [
    | inl d ↦
        let steps : after.state.steps ≡ s.state.steps + 1 = ap (λ (z : Story). z.state.steps) does.2 ∙ ap (λ (z : State). z.steps) d.left in
        record {
          act = a;
          said = said;
          memory = memory;
          asks = asks;
          does = does;
          goes = (own_free (event a said) (own_event a said can_come free), is);
          counts = inl steps;
          within = subst (λ n. IsWithin n x') (sym steps) (more s.state.steps go.within);
        }
    | inr d ↦
        let steps : after.state.steps ≡ s.state.steps = ap (λ (z : Story). z.state.steps) does.2 ∙ ap (λ (z : State). z.steps) d.left in
        record {
          act = a;
          said = said;
          memory = memory;
          asks = asks;
          does = does;
          goes = (own_free (event a said) (own_event a said can_come free), is);
          counts = inr (steps, ap act_of is ∙ (subst (λ y. act_of (next_of (todo_of x) y memory) ≡ None) (sym d.says) (go.askable.stops (todo_of x) s a d.stop.step memory (is_there (todo_of x) s) asks)));
          within = subst (λ n. IsWithin n x') (sym steps) (same s.state.steps go.within (subst IsRefused (sym d.says) tt));
        }
  ]

  pub waits_on : (sessions : Sessions) → said ≡ answer.Blocked sessions → DidStep s x (Some sessions) x after
  waits_on sessions is = elim does.1.does [
    | inl d ↦
        let steps : after.state.steps ≡ s.state.steps + 1 = ap (λ (z : Story). z.state.steps) does.2 ∙ ap (λ (z : State). z.steps) d.left in
        record {
          act = a;
          said = said;
          memory = true;
          asks = asks;
          does = does;
          goes = (ap (event a) is ∙ blocked_waits a sessions (subst (λ y. CanCome a (event a y)) is can_come), refl);
          counts = inl steps;
          within = subst (λ n. IsWithin n x) (sym steps) (within_more s.state.steps (s.state.steps + 1) (omega arith) x go.within);
        }
    | inr d ↦ let no : answer.Blocked sessions ≡ answer.Refused (engine.Stopped d.stop.step) = sym is ∙ d.says in absurd (cc)
  ]

-- ---- answers of the code

pub blocked_is : (x : BookAnswer) (sessions : Sessions) → book.answer_of x ≡ answer.Blocked sessions → (s : Sessions) × (x ≡ book_answer.Blocked s)
blocked_is (book_answer.Blocked s) sessions e = (s, refl)
blocked_is _ sessions e = absurd (cc)
