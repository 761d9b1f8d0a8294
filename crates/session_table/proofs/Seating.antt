-- What is known of all sessions where one of them went on.
use Rattle.std.specs.Prelude.{◌≡◌, ◌≢◌, ◌<◌, ◌≤◌, ◌+◌, ℕ, zero, suc, Bool, false, ◌||◌, List, [], ◌∷◌, length, set, Some, slice_get, Vec}
use mathlib.Core.Path.{refl, sym, ap, subst, ◌∙◌}
use Rattle.std.specs.Vec.{with_items}
use Rattle.std.proofs.Common.{arith}
use Rattle.std.proofs.lemmas.List.{with_items_is}
use Rattle.txn_machine.specs.State.{State}
use Rattle.txn_machine.specs.Alone.{Story}
use Rattle.txn_machine.specs.Laws.{IsReachedStory}
use Rattle.iv_meaning.specs.Said.{Said}
use Rattle.line_requests.specs.Requests.{SaysSo}
use Rattle.line_requests.specs.declared.asked.Ask.{Ask}
use Rattle.line_requests.specs.declared.asked.Request.{Request}
use Rattle.line_requests.specs.declared.asked.Request.TheVariants as request
use Rattle.session_table.specs.declared.slot.Slot.{Slot}
use Rattle.session_table.specs.declared.slot.LineKind.TheVariants.{Waiting}
use Rattle.session_table.specs.Going.{StandsIn, MayGo}
use Rattle.session_table.specs.Slots.{table_of, FitsLine, IsSlot, AreSlots, AllGo}
use Rattle.session_table.specs.Leaving.{LeftAll}
use Rattle.session_table.specs.Trying.{Tried, NoneWaits, Passed, Retried}
use Rattle.session_table.specs.Requests.{LacksAt, SlotDid, EngineDid, DidOwn, RanLine}
use Rattle.session_table.proofs.Knowing.{then, so}
use Rattle.session_table.proofs.Tables.{each_set, all_reached}
use Rattle.session_table.proofs.Passing.{all_after, pass_step, passed_all, tried_not}
use Rattle.session_table.proofs.Lining.{session_did, engine_did, line_ran}

pub slot_needs : {St : State → Type 0} (place : ℕ) (slots : List Slot) (slot : Slot) → slice_get slots place ≡ Some slot → StandsIn St (AllGo slots) → StandsIn St (MayGo slot.session)
slot_needs place slots slot at h = so h (λ s go. go place slot at)

pub pass_none : (St0 : State → Type 0) (place : ℕ) (slots : List Slot) (out : List ℕ) → length slots ≤ place → (s : Story) → St0 s.state → AllGo slots s → StandsIn St0 (Passed place s slots out false slots out)
pass_none St0 place slots out past s st go = record { story = s; stands = st; holds = passed_all place slots s out past go }

module _ (place : ℕ) (slots : List Slot) (slot slot' : Slot) (at : slice_get slots place ≡ Some slot) where
  pub seats_kept : AreSlots slots → slot'.session.number ≡ slot.session.number → FitsLine slot'.line slot'.session → AreSlots (set slots place slot')
  seats_kept are n fits = each_set (λ p x. IsSlot (p + 1) x) slots place slot' slot at are (record { number_is = n ∙ (are place slot at).number_is; fits = fits })

  module _ (are : AreSlots slots) (out out' : List ℕ) (moved : Bool) where
    pub try_needs : {St0 St1 : State → Type 0} → StandsIn St0 (AllGo slots) → ((s : Story) → St0 s.state → MayGo slot.session s → StandsIn St1 (Tried s slot out moved slot' out'))
        → StandsIn St1 (AllGo (set slots place slot'))
    try_needs h tried = then h (λ s st go. so (tried s st (go place slot at)) (λ t d. all_after s slots place slot slot' out moved out' t at are go d))

    pub pass_done : {St1 St2 : State → Type 0} (St0 : State → Type 0) (slots'' : List Slot) (out'' : List ℕ) (more : Bool) → place < length slots
        → ((s : Story) → St0 s.state → MayGo slot.session s → StandsIn St1 (Tried s slot out moved slot' out'))
        → ((s : Story) → St1 s.state → AllGo (set slots place slot') s → StandsIn St2 (Passed (place + 1) s (set slots place slot') out' more slots'' out''))
        → (s : Story) → St0 s.state → AllGo slots s → StandsIn St2 (Passed place s slots out (moved || more) slots'' out'')
    pass_done St0 slots'' out'' more below tried passed s st go = then (tried s st (go place slot at))
        (λ t st' d. so (passed t st' (all_after s slots place slot slot' out moved out' t at are go d))
        (λ u p. pass_step place slots slot slot' slots'' s t u out out' out'' moved more below at (are place slot at).number_is p d))

  -- the line of a session
  pub own_done : {St1 : State → Type 0} (St0 : State → Type 0) (a : Ask) (session : ℕ) (out out' : List ℕ) → AreSlots slots → session ≡ suc place
      → ((s : Story) → St0 s.state → MayGo slot.session s → StandsIn St1 (SlotDid slot.session.number a s slot out slot' out'))
      → (s : Story) → St0 s.state → AllGo slots s → StandsIn St1 (DidOwn (request.OfSession session a) s slots out (set slots place slot') out')
  own_done St0 a session out out' are e did s st go = so (did s st (go place slot at))
      (λ t d. subst (λ k. DidOwn (request.OfSession k a) s slots out (set slots place slot') out' t) (sym e)
      (session_did place a s slots slot slot' out out' t at are go (subst (λ k. SlotDid k a s slot out slot' out' t) ((are place slot at).number_is ∙ omega arith) d)))

-- one of the engine's own
pub engine_done : {St1 : State → Type 0} (St0 : State → Type 0) (asked : Request) (said : Said) (slots : List Slot) (out out' : List ℕ) → SaysSo asked said → LacksAt (table_of slots) asked said → length slots ≡ 64 → AreSlots slots
    → ((s : Story) → St0 s.state → IsReachedStory s → StandsIn St1 (EngineDid said s out out')) → (s : Story) → St0 s.state → AllGo slots s → StandsIn St1 (DidOwn asked s slots out slots out')
engine_done St0 asked said slots out out' says of_engine many are did s st go = so (did s st (all_reached slots s many go)) (λ t d. engine_did asked said s t slots out out' says of_engine are go d)

pub engine_needs : {St0 : State → Type 0} (slots : List Slot) → length slots ≡ 64 → StandsIn St0 (AllGo slots) → StandsIn St0 IsReachedStory
engine_needs slots many h = so h (λ s go. all_reached slots s many go)

-- the engine stands as it stood
pub own_stood : (St0 : State → Type 0) (asked : Request) (slots : List Slot) (out out' : List ℕ) → ((s : Story) → AllGo slots s → DidOwn asked s slots out slots out' s)
    → (s : Story) → St0 s.state → AllGo slots s → StandsIn St0 (DidOwn asked s slots out slots out')
own_stood St0 asked slots out out' f s st go = record { story = s; stands = st; holds = f s go }

-- the list that a vector holds once a slice of all of it was changed
pub items_as : {Z : Type 0} (v : Vec Slot Z) (old new : List Slot) → old ≡ v.items → length new ≡ length old → (with_items v new).items ≡ new
items_as v old new o l = with_items_is v new (l ∙ (ap length o ∙ sym v.ok.0))

pub line_as : {St1 : State → Type 0} (St0 : State → Type 0) (asked : Request) (slots value now next : List Slot) (out out' : List ℕ) → slots ≡ value → next ≡ now
    → ((s : Story) → St0 s.state → AllGo slots s → StandsIn St1 (RanLine asked s slots out now out')) → (s : Story) → St0 s.state → AllGo value s → StandsIn St1 (RanLine asked s value out next out')
line_as {St1 = St1} St0 asked slots value now next out out' e f did s st go = subst (λ l. StandsIn St1 (RanLine asked s l out next out')) e
    (subst (λ l. StandsIn St1 (RanLine asked s slots out l out')) (sym f) (did s st (subst (λ l. AllGo l s) (sym e) go)))

-- all sessions leave
pub table_left : {St1 : State → Type 0} (St0 : State → Type 0) (items slots : List Slot) → slots ≡ items → length items ≡ 64 → ((s : Story) → St0 s.state → IsReachedStory s → StandsIn St1 (LeftAll slots s))
    → (s : Story) → St0 s.state → AllGo items s → StandsIn St1 (LeftAll items s)
table_left {St1 = St1} St0 items slots e count did s st go = subst (λ l. StandsIn St1 (LeftAll l s)) e (did s st (all_reached items s count go))

pub line_done : {St1 St2 : State → Type 0} (St0 : State → Type 0) (asked : Request) (slots now next : List Slot) (out told told' : List ℕ) → length now ≡ 64
    → ((s : Story) → St0 s.state → AllGo slots s → StandsIn St1 (DidOwn asked s slots out now told))
    → ((s : Story) → St1 s.state → AllGo now s → StandsIn St2 (Retried s now told next told')) → (s : Story) → St0 s.state → AllGo slots s → StandsIn St2 (RanLine asked s slots out next told')
line_done St0 asked slots now next out told told' many did retried s st go = then (did s st go)
    (λ t st' d. so (retried t st' d.go) (λ u r. line_ran asked s t u slots now next out told told' many d r))

pub own_needs : {St0 St1 : State → Type 0} (asked : Request) (slots now : List Slot) (out told : List ℕ) → StandsIn St0 (AllGo slots)
    → ((s : Story) → St0 s.state → AllGo slots s → StandsIn St1 (DidOwn asked s slots out now told)) → StandsIn St1 (AllGo now)
own_needs asked slots now out told h did = then h (λ s st go. so (did s st go) (λ t d. d.go))

-- ---- sessions whose lines do not wait

there : (slots : List Slot) (place : ℕ) → place < length slots → (slot : Slot) × (slice_get slots place ≡ Some slot)
there [] place below = absurd (omega arith)
there (slot ∷ slots) zero below = (slot, refl)
there (slot ∷ slots) (suc place) below = there slots place (omega arith)

set_there : (slots : List Slot) (place : ℕ) (slot : Slot) → slice_get slots place ≡ Some slot → set slots place slot ≡ slots
set_there [] place slot at = refl
set_there (one ∷ slots) zero slot at = ap (λ (x : Slot). x ∷ slots) (let same : slot ≡ one = cc at in same)
set_there (one ∷ slots) (suc place) slot at = ap (λ (x : List Slot). one ∷ x) (set_there slots place slot at)

-- one is passed over
pass_over : (St0 St1 : State → Type 0) (place : ℕ) (slots slots'' : List Slot) (slot : Slot) → slice_get slots place ≡ Some slot → AreSlots slots → (out out'' : List ℕ) (more : Bool) → place < length slots → slot.line ≢ Waiting
    → ((s : Story) → St0 s.state → AllGo slots s → StandsIn St1 (Passed (place + 1) s slots out more slots'' out''))
    → (s : Story) → St0 s.state → AllGo slots s → StandsIn St1 (Passed place s slots out more slots'' out'')
pass_over St0 St1 place slots slots'' slot at are out out'' more below not passed =
    let same : set slots place slot ≡ slots = set_there slots place slot at in
    pass_done place slots slot slot at are out out false {St1 = St0} {St2 = St1} St0 slots'' out'' more below
    (λ s st go. record { story = s; stands = st; holds = tried_not s slot out not go })
    (λ s st go. subst (λ (x : List Slot). StandsIn St1 (Passed (place + 1) s x out more slots'' out'')) (sym same) (passed s st (subst (λ (x : List Slot). AllGo x s) same go)))

-- and so are several
pub pass_over_all : (St0 St1 : State → Type 0) (count place : ℕ) (slots slots'' : List Slot) → AreSlots slots → (out out'' : List ℕ) (more : Bool) → place + count ≤ length slots → NoneWaits place count slots
    → ((s : Story) → St0 s.state → AllGo slots s → StandsIn St1 (Passed (place + count) s slots out more slots'' out''))
    → (s : Story) → St0 s.state → AllGo slots s → StandsIn St1 (Passed place s slots out more slots'' out'')
pass_over_all St0 St1 zero place slots slots'' are out out'' more inside none passed =
    let here : place + 0 ≡ place = omega arith in
    λ s st go. subst (λ (n : ℕ). StandsIn St1 (Passed n s slots out more slots'' out'')) here (passed s st go)
pass_over_all St0 St1 (suc count) place slots slots'' are out out'' more inside none passed =
    let below : place < length slots = omega arith in
    let next : place + suc count ≡ place + 1 + count = omega arith in
    let at = there slots place below in
    pass_over St0 St1 place slots slots'' at.0 at.1 are out out'' more below (none place at.0 (omega arith) (omega arith) at.1)
    (pass_over_all St0 St1 count (place + 1) slots slots'' are out out'' more (omega arith) (λ i slot low high is. none i slot (omega arith) (omega arith) is)
    (λ s st go. subst (λ (n : ℕ). StandsIn St1 (Passed n s slots out more slots'' out'')) next (passed s st go)))
