-- What a line of a session does, as an engine stands before and after it.
use Rattle.std.specs.Prelude.{◌≡◌, ◌≢◌, ◌⊎◌, ℕ, false, List, [], ◌∷◌, ◌++◌, Some, None, Result}
use mathlib.Core.Path.{refl, sym, ap, subst, ◌∙◌}
use mathlib.Core.Logic.{inl, inr}
use Rattle.iv_types.specs.declared.statement.Statement.{Statement}
use Rattle.iv_types.specs.declared.refusal.Refusal.{Refusal}
use Rattle.iv_types.specs.declared.refusal.Refusal.TheVariants as refusal
use Rattle.iv_types.specs.declared.reply.Reply.TheVariants as reply
use Rattle.iv_meaning.specs.Reply.{reply_lines}
use Rattle.txn_machine.specs.State.{State}
use Rattle.txn_machine.specs.Alone.{Story}
use Rattle.script_law.specs.RunLines.{stepped, printed, printed_later}
use Rattle.line_requests.specs.declared.asked.Ask.TheVariants as ask
use Rattle.line_requests.specs.Requests.{read_of, WasRead}
use Rattle.txn_sessions.specs.declared.session.Session.{Session}
use Rattle.txn_sessions.specs.Sessions.{todo_of, IsIdle}
use Rattle.txn_sessions.specs.Within.{IsWithin}
use Rattle.session_table.specs.declared.going.Came.{Came}
use Rattle.session_table.specs.declared.going.Came.TheVariants as came
use Rattle.session_table.specs.declared.going.Went.{Went}
use Rattle.session_table.specs.declared.slot.LineKind.{LineKind}
use Rattle.session_table.specs.declared.slot.LineKind.TheVariants.{Idle, Waiting, Stepping, Held}
use Rattle.session_table.specs.declared.slot.Slot.{Slot}
use Rattle.session_table.specs.Going.{StandsIn, MayGo, WentOn, outcome_in, HasCome}
use Rattle.session_table.specs.Slots.{FitsLine}
use Rattle.session_table.specs.Trying.{Tried}
use Rattle.session_table.specs.Requests.{Gave, kept_line, WentOnce, SlotDid}
use Rattle.session_table.proofs.Knowing.{so}
use Rattle.session_table.proofs.Owning.{given_goes_on, runs_refused, loads_refused, ran, loaded, did_step, no_step, not_read}
use Rattle.session_table.proofs.Passing.{tried_went, tried_not}

same_slot : (slot : Slot) (x : Session) (l : LineKind) → slot.session ≡ x → slot.line ≡ l → record { session = x; line = l } ≡ slot
same_slot slot x l e f = sym (λ k. record { session = e k; line = f k })

-- the line that is kept fits the session
pub fits_kept : (slot : Slot) (x : Session) (c : Came) (stuck_line stepped_line : LineKind) → slot.session ≡ x → slot.line ≡ kept_line stuck_line stepped_line c → stuck_line ≢ Idle → stepped_line ≢ Idle → HasCome c x
    → FitsLine slot.line slot.session
fits_kept slot x c stuck_line stepped_line e f one other come = subst (λ l. FitsLine l slot.session) (sym f) (subst (λ (y : Session). FitsLine (kept_line stuck_line stepped_line c) y) (sym e) (by c come))
  where
    busy : (l : LineKind) → l ≢ Idle → (IsIdle x → ⊥) → FitsLine l x
    busy Idle idles h = absurd (idles refl)
    busy Waiting idles h = h
    busy Stepping idles h = h
    busy Held idles h = h

    by : (c : Came) → HasCome c x → FitsLine (kept_line stuck_line stepped_line c) x
    by (came.Ended replies) h = h
    by (came.Stuck sessions) h = busy stuck_line one h
    by came.Stepped h = busy stepped_line other h

pub waiting_fits : (l : LineKind) (x : Session) → l ≡ Waiting → FitsLine l x → IsIdle x → ⊥
waiting_fits l x e fits = subst (λ k. FitsLine k x) e fits

pub stepping_busy : (slot : Slot) → (slot.line ≡ Stepping) ⊎ (slot.line ≡ Held) → FitsLine slot.line slot.session → IsIdle slot.session → ⊥
stepping_busy slot (inl e) fits = subst (λ k. FitsLine k slot.session) e fits
stepping_busy slot (inr e) fits = subst (λ k. FitsLine k slot.session) e fits

pub waiting_not : Waiting ≡ Idle → ⊥
waiting_not e = cc

pub stepping_not : Stepping ≡ Idle → ⊥
stepping_not e = cc

pub held_not : Held ≡ Idle → ⊥
held_not e = cc

-- the engine stands as it stood
pub loaded_stood : (St0 : State → Type 0) (slot slot' : Slot) (out out' : List ℕ) (read : Result Statement Refusal) → ((s : Story) → MayGo slot.session s → SlotDid slot.session.number (ask.Loads read) s slot out slot' out' s)
    → (s : Story) → St0 s.state → MayGo slot.session s → StandsIn St0 (SlotDid slot.session.number (ask.Loads read) s slot out slot' out')
loaded_stood St0 slot slot' out out' read f s st go = record { story = s; stands = st; holds = f s go }

module _ (St0 : State → Type 0) (slot : Slot) (out : List ℕ) (fits : FitsLine slot.line slot.session) where
  n : ℕ
  n = slot.session.number

  -- ---- nothing is asked of the engine

  pub runs_refused_told : (read : Result Statement Refusal) (why : Refusal) (slot' : Slot) (out' : List ℕ) → Gave slot (read_of read) (Some why) slot' → slot'.session.number ≡ slot.session.number → ((k : ℕ) → IsWithin k slot.session → IsWithin k slot'.session)
      → out' ≡ out ++ reply_lines slot'.session.number (reply.Error why ∷ []) → (s : Story) → St0 s.state → MayGo slot.session s → StandsIn St0 (SlotDid slot.session.number (ask.Runs read) s slot out slot' out')
  runs_refused_told read why slot' out' gave same within told s st go = record {
    story = s;
    stands = st;
    holds = runs_refused s slot out slot.session.number refl fits go read why slot' out' gave same within (told ∙ ap (λ i. out ++ reply_lines i (reply.Error why ∷ [])) same);
  }

  pub loads_refused_told : (read : Result Statement Refusal) (why : Refusal) (slot' : Slot) (out' : List ℕ) → Gave slot (read_of read) (Some why) slot' → slot'.session.number ≡ slot.session.number → ((k : ℕ) → IsWithin k slot.session → IsWithin k slot'.session)
      → out' ≡ out ++ reply_lines slot'.session.number (reply.Error why ∷ []) → (s : Story) → MayGo slot.session s → SlotDid slot.session.number (ask.Loads read) s slot out slot' out' s
  loads_refused_told read why slot' out' gave same within told s go =
      loads_refused s slot out slot.session.number refl fits go read why slot' out' gave same within (told ∙ ap (λ i. out ++ reply_lines i (reply.Error why ∷ [])) same)

  pub loaded_told : (read : Result Statement Refusal) (given slot' : Slot) (out' : List ℕ) → WasRead read → Gave slot (read_of read) None given → given.session.number ≡ slot.session.number → ((k : ℕ) → IsWithin k slot.session → IsWithin k given.session)
      → slot'.session ≡ given.session → slot'.line ≡ Stepping → out' ≡ out ++ printed given.session.number (stepped (todo_of given.session))
      → (s : Story) → MayGo slot.session s → SlotDid slot.session.number (ask.Loads read) s slot out slot' out' s
  loaded_told read given slot' out' written gave same within session_is line_is told s go = subst (λ (z : Slot). SlotDid slot.session.number (ask.Loads read) s slot out z out' s) (same_slot slot' given.session Stepping session_is line_is)
      (loaded s slot out slot.session.number refl fits go read given Stepping out' gave (given_goes_on s slot given read fits written gave same within go) refl
      (told ∙ ap (λ i. out ++ printed i (stepped (todo_of given.session))) same))

  pub no_step_told : (out' : List ℕ) → (slot.line ≡ Idle) ⊎ (slot.line ≡ Waiting) → out' ≡ out ++ reply_lines 0 (reply.Error refusal.BadLine ∷ []) → (s : Story) → St0 s.state → MayGo slot.session s
      → StandsIn St0 (SlotDid slot.session.number ask.Steps s slot out slot out')
  no_step_told out' line_is told s st go = record { story = s; stands = st; holds = no_step s slot out slot.session.number refl fits go out' line_is told }

  pub not_read_told : (out' : List ℕ) → out' ≡ out ++ reply_lines slot.session.number (reply.Error refusal.NoMemory ∷ []) → (s : Story) → St0 s.state → MayGo slot.session s
      → StandsIn St0 (SlotDid slot.session.number ask.Unread s slot out slot out')
  not_read_told out' told s st go = record { story = s; stands = st; holds = not_read s slot out slot.session.number refl fits go out' told }

  pub tried_not_told : slot.line ≢ Waiting → (s : Story) → St0 s.state → MayGo slot.session s → StandsIn St0 (Tried s slot out false slot out)
  tried_not_told not s st go = record { story = s; stands = st; holds = tried_not s slot out not go }

  -- ---- its statement goes on

  pub given_needs : (read : Result Statement Refusal) (given : Slot) → WasRead read → Gave slot (read_of read) None given → given.session.number ≡ slot.session.number → ((k : ℕ) → IsWithin k slot.session → IsWithin k given.session)
      → StandsIn St0 (MayGo slot.session) → StandsIn St0 (MayGo given.session)
  given_needs read given written gave same within h = so h (λ s go. given_goes_on s slot given read fits written gave same within go)

  module _ {St1 : State → Type 0} (x' : Session) (slot' : Slot) (out' : List ℕ) (session_is : slot'.session ≡ x') where
    pub ran_told : (read : Result Statement Refusal) (given : Slot) (went : Went) → WasRead read → Gave slot (read_of read) None given → given.session.number ≡ slot.session.number → ((k : ℕ) → IsWithin k slot.session → IsWithin k given.session)
        → slot'.line ≡ kept_line Waiting Waiting went.came → x'.number ≡ given.session.number → out' ≡ out ++ printed x'.number (outcome_in went.came (todo_of x'))
        → ((s : Story) → St0 s.state → MayGo given.session s → StandsIn St1 (WentOn s given.session went x'))
        → (s : Story) → St0 s.state → MayGo slot.session s → StandsIn St1 (SlotDid slot.session.number (ask.Runs read) s slot out slot' out')
    ran_told read given went written gave same within line_is number told did s st go =
        so (did s st (given_goes_on s slot given read fits written gave same within go)) (λ t h. subst (λ (z : Slot). SlotDid slot.session.number (ask.Runs read) s slot out z out' t) (same_slot slot' x' (kept_line Waiting Waiting went.came) session_is line_is)
        (ran s slot out slot.session.number refl fits go read given went x' (kept_line Waiting Waiting went.came) out' t gave same h refl (told ∙ ap (λ i. out ++ printed i (outcome_in went.came (todo_of x'))) (number ∙ same))))

    pub stepped_on_told : (c : Came) → (slot.line ≡ Stepping) ⊎ (slot.line ≡ Held) → slot'.line ≡ kept_line Held Stepping c → x'.number ≡ slot.session.number → out' ≡ out ++ printed x'.number (outcome_in c (todo_of x'))
        → ((s : Story) → St0 s.state → MayGo slot.session s → StandsIn St1 (WentOnce s slot.session c x'))
        → (s : Story) → St0 s.state → MayGo slot.session s → StandsIn St1 (SlotDid slot.session.number ask.Steps s slot out slot' out')
    stepped_on_told c was line_is number told did s st go = so (did s st go) (λ t h. subst (λ (z : Slot). SlotDid slot.session.number ask.Steps s slot out z out' t) (same_slot slot' x' (kept_line Held Stepping c) session_is line_is)
        (did_step s slot out slot.session.number refl fits go c x' (kept_line Held Stepping c) out' t was h refl (told ∙ ap (λ i. out ++ printed i (outcome_in c (todo_of x'))) number)))

    pub tried_told : (went : Went) → slot.line ≡ Waiting → slot'.line ≡ kept_line Waiting Waiting went.came → x'.number ≡ slot.session.number → out' ≡ out ++ printed_later x'.number (outcome_in went.came (todo_of x'))
        → ((s : Story) → St0 s.state → MayGo slot.session s → StandsIn St1 (WentOn s slot.session went x'))
        → (s : Story) → St0 s.state → MayGo slot.session s → StandsIn St1 (Tried s slot out went.moved slot' out')
    tried_told went waits line_is number told did s st go =
        so (did s st go) (λ t h. tried_went s slot slot' out out' went x' t waits session_is line_is (told ∙ ap (λ i. out ++ printed_later i (outcome_in went.came (todo_of x'))) number) h)
