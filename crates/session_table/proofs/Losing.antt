-- Where an engine stands that steps led on, and there was no memory for what they tell.
use Rattle.std.specs.Prelude.{◌≡◌, ℕ, Bool, List, length, set, Some, None, slice_get, Result, Ok, Err, OnErr}
use mathlib.Core.Path.{sym, subst}
use Rattle.iv_types.specs.declared.statement.Statement.{Statement}
use Rattle.iv_types.specs.declared.refusal.EngineRefusal.{EngineRefusal}
use Rattle.iv_types.specs.declared.refusal.Refusal.{Refusal}
use Rattle.txn_machine.specs.Acts.{Act}
use Rattle.txn_machine.specs.Answers.{Answer}
use Rattle.txn_machine.specs.State.{State}
use Rattle.txn_machine.specs.Alone.{Story}
use Rattle.txn_machine.specs.Laws.{IsReachedStory}
use Rattle.script_law.specs.Machine.{DoesOf}
use Rattle.line_requests.specs.declared.asked.Request.{Request}
use Rattle.line_requests.specs.Requests.{read_of, WasRead}
use Rattle.txn_sessions.specs.declared.session.Session.{Session}
use Rattle.txn_sessions.specs.Within.{IsWithin}
use Rattle.session_table.specs.declared.going.Came.{Came}
use Rattle.session_table.specs.declared.going.Went.{Went}
use Rattle.session_table.specs.declared.slot.Slot.{Slot}
use Rattle.session_table.specs.Going.{StandsIn, Leads, no_step, MayGo, WentOn}
use Rattle.session_table.specs.Slots.{FitsLine, AreSlots, AllGo}
use Rattle.session_table.specs.Trying.{Tried}
use Rattle.session_table.specs.Requests.{Gave, WentOnce, DidOwn}
use Rattle.session_table.specs.Cleaning.{CleansLineBy}
use Rattle.session_table.proofs.Knowing.{then, so}
use Rattle.session_table.proofs.Asking.{PassesKnown}
use Rattle.session_table.proofs.Leading.{leads_on, leads_by_one, went_on_led, went_once_led, tried_led, did_own_led, clean_by_led}
use Rattle.session_table.proofs.Owning.{given_goes_on}
use Rattle.session_table.proofs.Passing.{all_after}
use Rattle.session_table.proofs.Tables.{all_reached}

-- what holds however it ended
pub lost_so : {V E P : Type 0} (result : Result V E) → P → OnErr result P
lost_so (Ok value) p = tt
lost_so (Err why) p = p

-- it stands as it stood
pub stood : (St : State → Type 0) (s : Story) → St s.state → StandsIn St (Leads s)
stood St s st = record { story = s; stands = st; holds = no_step s }

module _ (St0 : State → Type 0) {St1 : State → Type 0} where
  -- ---- steps that no session asks for

  pub clean_lost : (result : Result ℕ EngineRefusal) → ((s : Story) → St0 s.state → IsReachedStory s → StandsIn St1 (CleansLineBy s result)) → (s : Story) → St0 s.state → IsReachedStory s → StandsIn St1 (Leads s)
  clean_lost result did s st r = so (did s st r) (λ t line. clean_by_led s result t line)

  pub step_lost : (session : ℕ) (a : Act) (said : Answer) → ((s : Story) → St0 s.state → StandsIn St1 (DoesOf s session a said)) → (s : Story) → St0 s.state → IsReachedStory s → StandsIn St1 (Leads s)
  step_lost session a said did s st r = so (did s st) (λ t does. leads_by_one s t session a said does)

  -- ---- a session's statement

  pub went_lost : (x : Session) (went : Went) (x' : Session) → ((s : Story) → St0 s.state → MayGo x s → StandsIn St1 (WentOn s x went x')) → (s : Story) → St0 s.state → MayGo x s → StandsIn St1 (Leads s)
  went_lost x went x' did s st go = so (did s st go) (λ t h. went_on_led s x went x' t h)

  pub went_once_lost : (x : Session) (c : Came) (x' : Session) → ((s : Story) → St0 s.state → MayGo x s → StandsIn St1 (WentOnce s x c x')) → (s : Story) → St0 s.state → MayGo x s → StandsIn St1 (Leads s)
  went_once_lost x c x' did s st go = so (did s st go) (λ t h. went_once_led s x c x' t h)

  -- one that was given to it
  pub given_lost : (slot : Slot) → FitsLine slot.line slot.session → (read : Result Statement Refusal) (given : Slot) → WasRead read → Gave slot (read_of read) None given → given.session.number ≡ slot.session.number
      → ((k : ℕ) → IsWithin k slot.session → IsWithin k given.session) → (went : Went) (x' : Session) → ((s : Story) → St0 s.state → MayGo given.session s → StandsIn St1 (WentOn s given.session went x'))
      → (s : Story) → St0 s.state → MayGo slot.session s → StandsIn St1 (Leads s)
  given_lost slot fits read given written gave same within went x' did s st go = went_lost given.session went x' did s st (given_goes_on s slot given read fits written gave same within go)

  -- ---- all sessions

  pub of_engine_lost : (slots : List Slot) → length slots ≡ 64 → ((s : Story) → St0 s.state → IsReachedStory s → StandsIn St1 (Leads s)) → (s : Story) → St0 s.state → AllGo slots s → StandsIn St1 (Leads s)
  of_engine_lost slots many lost s st go = lost s st (all_reached slots s many go)

  pub slot_lost : (place : ℕ) (slots : List Slot) (slot : Slot) → slice_get slots place ≡ Some slot → ((s : Story) → St0 s.state → MayGo slot.session s → StandsIn St1 (Leads s)) → (s : Story) → St0 s.state → AllGo slots s → StandsIn St1 (Leads s)
  slot_lost place slots slot at lost s st go = lost s st (go place slot at)

  pub table_lost : (slots value : List Slot) → slots ≡ value → ((s : Story) → St0 s.state → AllGo slots s → StandsIn St1 (Leads s)) → (s : Story) → St0 s.state → AllGo value s → StandsIn St1 (Leads s)
  table_lost slots value e lost s st go = lost s st (subst (λ (l : List Slot). AllGo l s) (sym e) go)

  -- ---- behind steps that were told

  module _ {St2 : State → Type 0} where
    pub more_lost : (place : ℕ) (slots : List Slot) (slot slot' : Slot) → slice_get slots place ≡ Some slot → AreSlots slots → (out out' : List ℕ) (moved : Bool)
        → ((s : Story) → St0 s.state → MayGo slot.session s → StandsIn St1 (Tried s slot out moved slot' out')) → ((s : Story) → St1 s.state → AllGo (set slots place slot') s → StandsIn St2 (Leads s))
        → (s : Story) → St0 s.state → AllGo slots s → StandsIn St2 (Leads s)
    more_lost place slots slot slot' at are out out' moved tried lost s st go = then (tried s st (go place slot at))
        (λ t st' d. so (lost t st' (all_after s slots place slot slot' out moved out' t at are go d)) (λ u l. leads_on s t u (tried_led s slot out moved slot' out' t d) l))

    pub pass_lost : (slots0 : List Slot) (out0 : List ℕ) (many : ℕ) (slots : List Slot) (out : List ℕ) → PassesKnown St0 slots0 out0 St1 many slots out → ((s : Story) → St1 s.state → AllGo slots s → StandsIn St2 (Leads s))
        → (s : Story) → St0 s.state → AllGo slots0 s → StandsIn St2 (Leads s)
    pass_lost slots0 out0 many slots out known lost s st go = then (known s st go) (λ t st' p. so (lost t st' p.go) (λ u l. leads_on s t u p.leads l))

    pub retry_lost : (asked : Request) (slots now : List Slot) (out told : List ℕ) → ((s : Story) → St0 s.state → AllGo slots s → StandsIn St1 (DidOwn asked s slots out now told))
        → ((s : Story) → St1 s.state → AllGo now s → StandsIn St2 (Leads s)) → (s : Story) → St0 s.state → AllGo slots s → StandsIn St2 (Leads s)
    retry_lost asked slots now out told did lost s st go = then (did s st go) (λ t st' d. so (lost t st' d.go) (λ u l. leads_on s t u (did_own_led asked s slots out now told t d) l))
