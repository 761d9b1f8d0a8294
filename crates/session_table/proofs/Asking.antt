-- What is known of an engine and a session after each call.
use Rattle.std.specs.Prelude.{◌≡◌, ◌≤◌, ◌<◌, ◌+◌, ◌-◌, ◌^◌, ℕ, Bool, true, false, List, length, Option, Some, None, Ok, Err}
use mathlib.Core.Path.{sym, subst, ◌∙◌}
use Rattle.std.proofs.Common.{arith}
use Rattle.iv_types.specs.declared.session.Sessions.{Sessions}
use Rattle.txn_machine.specs.Answers.{Answer}
use Rattle.txn_machine.specs.State.{State, most_steps}
use Rattle.txn_machine.specs.Alone.{Story}
use Rattle.txn_book.specs.declared.step.Step.{Step}
use Rattle.txn_book.specs.declared.step.Answer.{Answer as BookAnswer}
use Rattle.txn_book.specs.Acts as book
use Rattle.txn_book.specs.Moves.{IsAskable as CanAsk, Moves}
use Rattle.script_law.specs.Programs.{says}
use Rattle.script_law.specs.RunLines.{act_of, next_of}
use Rattle.txn_sessions.specs.declared.line.Replies.{Replies}
use Rattle.txn_sessions.specs.declared.session.Session.{Session}
use Rattle.txn_sessions.specs.Standings.{replies_of}
use Rattle.txn_sessions.specs.Fits.{IsAnswered, IsRefused}
use Rattle.txn_sessions.specs.Sessions.{todo_of, stands, IsIdle, Comes}
use Rattle.txn_sessions.specs.Within.{IsWithin}
use Rattle.session_table.specs.declared.going.Came.TheVariants as came
use Rattle.session_table.specs.declared.going.Went.{Went}
use Rattle.session_table.specs.declared.slot.Slot.{Slot}
use Rattle.session_table.specs.Going.{StandsIn, MayGo, ToldBy, AnsweredBy, DidStep, WentOn}
use Rattle.session_table.proofs.Knowing.{then, so}
use Rattle.session_table.proofs.Counting.{within_most, steps_most, has_room}
use Rattle.session_table.proofs.Stepping.{can_step, answered_by, answered_own, goes_on, waits_on}
use Rattle.session_table.proofs.Gone.{Gone, gone_none, gone_more, gone_stuck, gone_ended, gone_few}
use Rattle.session_table.specs.Slots.{AllGo}
use Rattle.session_table.specs.Trying.{Passed, Retried}
use Rattle.session_table.proofs.Passing.{PassesFrom, passes_none, passes_more, passes_end, passes_few}
use Rattle.session_table.proofs.Tables.{all_reached}

-- ---- a step is asked for

pub ask_needs : {St : State → Type 0} (x : Session) (b : Step) → Some (book.act_of b.act) ≡ act_of (todo_of x) → b.session ≡ x.number → StandsIn St (MayGo x) → CanAsk St b
ask_needs {St = St} x b e n h = can_step St x b h e n

pub ask_answers : {St : State → Type 0} {May : _} (x : Session) (s : Story) (b : Step) (said : BookAnswer) → Some (book.act_of b.act) ≡ act_of (todo_of x) → b.session ≡ x.number
    → Moves St May s.state b said → StandsIn St (AnsweredBy s x (book.answer_of said))
ask_answers {St = St} {May = May} x s b said e n m = answered_by St May x s b said e n m

-- ---- it is answered

pub next_answered : {St0 St : State → Type 0} (x : Session) (said : Answer) (b : BookAnswer) → ToldBy said (Ok b) → StandsIn St0 (MayGo x) → ((s : Story) → St0 s.state → MayGo x s → StandsIn St (AnsweredBy s x said))
    → IsAnswered (act_of (todo_of x)) (book.answer_of b)
next_answered {St = St} x said b (same, free) h answered =
    let a : StandsIn St (AnsweredBy h.story x said) = answered h.story h.stands h.holds in
    subst (IsAnswered (act_of (todo_of x))) (sym same) (answered_own h.story x a.holds.act said a.story h.holds a.holds.asks a.holds.does free)

pub next_room : {St : State → Type 0} (x : Session) → StandsIn St (MayGo x) → IsWithin (2 ^ 64 - 2) x
next_room x h = has_room x (within_most h.story x h.holds.reached h.holds.within)

pub step_waits : {St : State → Type 0} (s : Story) (x : Session) (said : Answer) (sessions : Sessions) → MayGo x s → ToldBy said (Err sessions) → StandsIn St (AnsweredBy s x said)
    → StandsIn St (DidStep s x (Some sessions) x)
step_waits s x said sessions go told h = so h (λ after a. waits_on s x a.act said after go a.asks a.does sessions told)

pub step_goes : {St : State → Type 0} (s : Story) (x x' : Session) (said : Answer) (b : BookAnswer) → MayGo x s → ToldBy said (Ok b) → (memory : Bool) × Comes x' (next_of (todo_of x) (book.answer_of b) memory)
    → ((n : ℕ) → IsWithin n x → IsWithin (n + 1) x') → ((n : ℕ) → IsWithin n x → IsRefused (book.answer_of b) → IsWithin n x') → StandsIn St (AnsweredBy s x said)
    → StandsIn St (DidStep s x None x')
step_goes s x x' said b go (same, free) (memory, comes) more lasts h = so h (λ after a. goes_on s x a.act said after go a.asks a.does x' memory free
    (subst (λ y. todo_of x' ≡ next_of (todo_of x) y memory) same comes.0) more (subst (λ y. (n : ℕ) → IsWithin n x → IsRefused y → IsWithin n x') same lasts))

-- ---- steps one after another

module _ (St0 : State → Type 0) (x0 : Session) where
  -- what is known where so many steps were done
  abbrev pub Known : (State → Type 0) → Bool → ℕ → Session → Type 0
  Known St moved many x = (s : Story) → St0 s.state → MayGo x0 s → StandsIn St (Gone s x0 moved many x)

  pub go_none : StandsIn St0 (MayGo x0) → Known St0 false 0 x0
  go_none h s st go = record { story = s; stands = st; holds = gone_none s x0 go }

  pub go_needs : {St : State → Type 0} (x : Session) (moved : Bool) (many : ℕ) → StandsIn St0 (MayGo x0) → Known St moved many x → StandsIn St (MayGo x)
  go_needs x moved many h known = then h (λ s st go. so (known s st go) (λ t gone. gone.go))

  pub go_more : {St St' : State → Type 0} (x x' : Session) (moved : Bool) (many : ℕ) (waits : Option Sessions) → waits ≡ None → x.number ≡ x0.number → x'.number ≡ x0.number → Known St moved many x
      → ((s : Story) → St s.state → MayGo x s → StandsIn St' (DidStep s x waits x')) → Known St' true (many + 1) x'
  go_more x x' moved many waits none n n' known stepped s st go = then (known s st go)
      (λ t st' gone. so (stepped t st' gone.go) (λ after d. gone_more s x0 x x' moved many t after gone n n' (subst (λ o. DidStep t x o x' after) none d)))

  pub go_stuck : {St St' : State → Type 0} (x x' : Session) (moved : Bool) (many : ℕ) (waits : Option Sessions) (sessions : Sessions) → waits ≡ Some sessions → x.number ≡ x0.number → x'.number ≡ x0.number → Known St moved many x
      → ((s : Story) → St s.state → MayGo x s → StandsIn St' (DidStep s x waits x'))
      → (s : Story) → St0 s.state → MayGo x0 s → StandsIn St' (WentOn s x0 (record { moved = moved; came = came.Stuck sessions }) x')
  go_stuck x x' moved many waits sessions is n n' known stepped s st go = then (known s st go)
      (λ t st' gone. so (stepped t st' gone.go) (λ after d. gone_stuck s x0 x x' moved many t after sessions gone n n' (subst (λ o. DidStep t x o x' after) is d)))

  pub go_ended : {St : State → Type 0} (x x' : Session) (moved : Bool) (many : ℕ) (replies : Replies) → Known St moved many x → todo_of x ≡ says (replies_of replies) (stands x') → x'.number ≡ x.number → IsIdle x'
      → ((n : ℕ) → IsWithin n x → IsWithin n x') → (s : Story) → St0 s.state → MayGo x0 s → StandsIn St (WentOn s x0 (record { moved = moved; came = came.Ended replies }) x')
  go_ended x x' moved many replies known told n was_idle within s st go = so (known s st go)
      (λ after gone. gone_ended s x0 x x' moved many after replies gone told n was_idle (within after.state.steps gone.go.within))

  -- no engine counts so many
  pub go_over : {St : State → Type 0} (x : Session) (moved : Bool) (many : ℕ) (went : Went) → Known St moved many x → most_steps + 1 < many → (s : Story) → St0 s.state → MayGo x0 s → StandsIn St (WentOn s x0 went x)
  go_over x moved many went known over s st go = so (known s st go) (λ after gone. let few : many ≤ most_steps + 1 = gone_few s x0 x moved many after gone in absurd (omega (arith, few, over)))

-- ---- passes one after another

module _ (St0 : State → Type 0) (slots0 : List Slot) (out0 : List ℕ) where
  abbrev pub PassesKnown : (State → Type 0) → ℕ → List Slot → List ℕ → Type 0
  PassesKnown St many slots out = (s : Story) → St0 s.state → AllGo slots0 s → StandsIn St (PassesFrom s slots0 out0 many slots out)

  pub passes_zero : StandsIn St0 (AllGo slots0) → PassesKnown St0 0 slots0 out0
  passes_zero h s st go = record { story = s; stands = st; holds = passes_none s slots0 out0 go }

  pub passes_needs : {St : State → Type 0} (slots : List Slot) (out : List ℕ) (many : ℕ) → StandsIn St0 (AllGo slots0) → PassesKnown St many slots out → StandsIn St (AllGo slots)
  passes_needs slots out many h known = then h (λ s st go. so (known s st go) (λ t p. p.go))

  pub passes_on : {St St' : State → Type 0} (slots slots' : List Slot) (out out' : List ℕ) (many : ℕ) (moved : Bool) → length slots' ≡ length slots → moved ≡ true → PassesKnown St many slots out
      → ((s : Story) → St s.state → AllGo slots s → StandsIn St' (Passed 0 s slots out moved slots' out')) → PassesKnown St' (many + 1) slots' out'
  passes_on slots slots' out out' many moved same e known passed s st go = then (known s st go)
      (λ t st' p. so (passed t st' p.go) (λ u q. passes_more s t u slots0 slots slots' out0 out out' many moved p q same e))

  pub passes_over : {St St' : State → Type 0} (slots slots' : List Slot) (out out' : List ℕ) (many : ℕ) (moved : Bool) → moved ≡ false → PassesKnown St many slots out
      → ((s : Story) → St s.state → AllGo slots s → StandsIn St' (Passed 0 s slots out moved slots' out')) → (s : Story) → St0 s.state → AllGo slots0 s → StandsIn St' (Retried s slots0 out0 slots' out')
  passes_over slots slots' out out' many moved e known passed s st go = then (known s st go)
      (λ t st' p. so (passed t st' p.go) (λ u q. passes_end s t u slots0 slots slots' out0 out out' many moved p q e))

  -- no engine counts so many steps
  pub passes_never : {St : State → Type 0} (slots : List Slot) (out : List ℕ) (many : ℕ) → length slots0 ≡ 64 → most_steps + 64 < many → StandsIn St0 (AllGo slots0) → PassesKnown St many slots out → ⊥
  passes_never {St = St} slots out many count over h known =
      let p : StandsIn St (PassesFrom h.story slots0 out0 many slots out) = known h.story h.stands h.holds in
      let most : p.story.state.steps ≤ most_steps = steps_most p.story (all_reached slots p.story (p.holds.length_is ∙ count) p.holds.go) in
      let less : many ≤ most_steps + length slots0 = passes_few h.story slots0 out0 many slots out p.story most p.holds in
      omega (arith, less, count, over)
