-- A session's program is served over the machine: after each step of its own and of others.
use Rattle.std.specs.Prelude.{◌≡◌, ◌≢◌, ◌⊎◌, ℕ, Bool, true, false, IsTrue, ◌||◌, List, Option, Some, None}
use mathlib.Core.Path.{refl, sym, ap, subst, ◌∙◌}
use mathlib.Core.Logic.{inl, inr}
use Rattle.iv_types.specs.declared.refusal.EngineRefusal.{EngineRefusal}
use Rattle.iv_types.specs.declared.reply.Reply.{Reply}
use Rattle.iv_types.specs.declared.statement.Mode.{Mode}
use Rattle.iv_types.specs.Syntax.{StatementTree}
use Rattle.iv_meaning.specs.Schema.{Schema}
use Rattle.iv_meaning.specs.Serial.{Unended}
use Rattle.txn_machine.specs.Acts as act
use Rattle.txn_machine.specs.Acts.{Act}
use Rattle.txn_machine.specs.Answers as answer
use Rattle.txn_machine.specs.Answers.{Answer}
use Rattle.txn_machine.specs.Alone.{Story}
use Rattle.txn_machine.specs.Laws.{IsReachedStory}
use Rattle.script_law.specs.Seen.{Event, Waits, LacksRow, Fails, Begins, Learns, Idles, Ends, Commits, event, is_stop, CanCome, Txn, Visible, visible_after, open_after, committed, new_txn, MayWant}
use Rattle.script_law.specs.Programs.{Standing, outside_with, Todo, says, asks, ghosts, Job, Grows, objects_of, Serves, OpensFirst, Starts, BeginsSo, MayCome, IsKnown, Closes, IsDone, passed_inside, passed_outside, told, began, IsClosed, commits, rolls_back, loses, is_alone, is_refused, is_passed, IsCreated, creates, denies, IsAt, with_told, new_open, next_txn}
use Rattle.script_law.specs.RunLines.{act_of, asked_next, ghost_next, next_of, IsNotBlocked}
use Rattle.script_law.specs.Machine.{DoesOf, seen_of, IsStopped}
use Rattle.script_law.proofs.Basics.{quiet_open, same_open, Came, blocked, lacks, closed, on, came}
use Rattle.script_law.proofs.Growing.{grows_by, step_grows}
use Rattle.script_law.proofs.Agreeing.{job, own_step}
use Rattle.script_law.proofs.OverMachine.{machine_laws}

abbrev pub objects_at : Story → Schema
objects_at s = (committed (seen_of s)).schema

abbrev pub txn_at : Story → ℕ → Option Txn
txn_at s n = (seen_of s).open_of n

-- ---- between two statements

abbrev pub Rests : Schema → Standing → Option Txn → Type 0
Rests objects standing None = (standing ≡ outside_with standing.copy) × Grows standing.copy objects
Rests objects standing (Some t) = (o : Unended) × IsAt false o t standing

rests_later : (objects objects' : Schema) → Grows objects objects' → (standing : Standing) (t : Option Txn) → Rests objects standing t → Rests objects' standing t
rests_later objects objects' g standing None h = (h.0, grows_by standing.copy objects objects' h.1 g)
rests_later objects objects' g standing (Some t) h = h

-- its transaction has all definitions
abbrev pub Knows : Schema → Option Txn → Type 0
Knows objects t = (u : Txn) → t ≡ Some u → u.objects ≡ objects

done_rests : (objects : Schema) (j : Job) → Grows j.copy objects → (t : Option Txn) (replies : List Reply) (standing : Standing) → IsDone false j t replies standing → Rests objects standing t
done_rests objects j g _ _ _ (passed_inside o t standing why before engines dead at) = (o, at)
done_rests objects j g _ _ _ (passed_outside t why copy before engines out grows) = elim out [
  | inl none ↦ subst (λ (u : Option Txn). Rests objects (outside_with copy) u) (sym none) (refl, grows_by copy j.copy objects (subst (λ u. Grows copy (objects_of j u)) none grows) g)
  | inr never ↦ absurd (cc)
]
done_rests objects j g _ _ _ (told o t replies standing before stays at) = (with_told o j.statement replies, at)
done_rests objects j g _ _ _ (began mode t standing before is at) = (new_open mode j.number, at)

-- ---- within one

pub data Serving (objects : Schema) (t : Option Txn) (todo : Todo) : Type 0 where
  rests : (replies : List Reply) (standing : Standing) → todo ≡ says replies standing → Rests objects standing t → Serving objects t todo
  begun : (j : Job) → Grows j.copy objects → Serves false j t todo → Serving objects t todo
  starts : (statement : StatementTree) (run : Option Unended) (copy : Schema) → Grows copy objects → ((number : ℕ) → Starts false (job statement run number copy) t todo) → Serving objects t todo

pub serving_later : (objects objects' : Schema) → Grows objects objects' → (t : Option Txn) (todo : Todo) → Serving objects t todo → Serving objects' t todo
serving_later objects objects' g t todo (rests replies standing is h) = rests replies standing is (rests_later objects objects' g standing t h)
serving_later objects objects' g t todo (begun j grows h) = begun j (grows_by j.copy objects objects' grows g) h
serving_later objects objects' g t todo (starts statement run copy grows h) = starts statement run copy (grows_by copy objects objects' grows g) h

-- where it has ended
pub serving_rests : (objects : Schema) (t : Option Txn) (replies : List Reply) (standing : Standing) → Serving objects t (says replies standing) → Rests objects standing t
serving_rests objects t replies standing (rests r st is h) = let same : st ≡ standing = cc (is) in subst (λ x. Rests objects x t) same h
serving_rests objects t replies standing (begun j g h) = done_rests objects j g t replies standing h
serving_rests objects t replies standing (starts statement run copy g h) = elim (h 0) [
  | inl d ↦ done_rests objects (job statement run 0 copy) g t replies standing d
  | inr never ↦ absurd never
]

-- ---- what is wanted

false_or : {P : Type 0} → IsTrue false ⊎ P → P
false_or (inl never) = absurd (cc)
false_or (inr p) = p

abbrev pub wanted : Act → Act
wanted act.Ghost = act.Pay
wanted a = a

abbrev pub WantsBy : Option Txn → Todo → Type 0
WantsBy t (says replies standing) = Unit {0}
WantsBy t (asks a f) = MayWant t a
WantsBy t (ghosts f) = MayWant t act.Pay

serves_wants : (j : Job) (t : Option Txn) (todo : Todo) → Serves false j t todo → WantsBy t todo
serves_wants j t (says replies standing) h = tt
serves_wants j t (asks a f) h = false_or h.0
serves_wants j t (ghosts f) h = false_or h.0

opens_wants : (j : Job) (t : Option Txn) (todo : Todo) → OpensFirst false j t todo → WantsBy t todo
opens_wants j t (asks (act.Begin mode) f) h = false_or h.0
opens_wants j t _ h = absurd h

pub serving_wants : (objects : Schema) (t : Option Txn) (todo : Todo) → Serving objects t todo → WantsBy t todo
serving_wants objects t todo (rests r st is h) = subst (WantsBy t) (sym is) tt
serving_wants objects t todo (begun j g h) = serves_wants j t todo h
serving_wants objects t todo (starts statement run copy g h) = elim (h 0) [ inl s ↦ serves_wants _ t todo s | inr o ↦ opens_wants _ t todo o ]

-- ---- a step of its own

next_is : (e : Event) (said : Answer) (memory : Bool) (f : Answer → Bool → Todo) → e ≢ LacksRow → asked_next e said memory f ≡ f said memory
next_is LacksRow said memory f n = absurd (n refl)
next_is _ said memory f n = refl

lacks_pay : (a : Act) (said : Answer) → event a said ≡ LacksRow → a ≡ act.Pay
lacks_pay act.Pay said e = refl
lacks_pay _ (answer.Refused why) e = absurd (cc)
lacks_pay _ _ e = absurd (cc)

idle_same : (t : Option Txn) (v : Visible) → open_after v t Idles ≡ t
idle_same None v = refl
idle_same (Some t) v = refl

fails_known : (t : Option Txn) (why : EngineRefusal) → IsKnown t (Fails why)
fails_known None why = tt
fails_known (Some t) why = tt

abbrev number_of : Event → ℕ
number_of (Begins mode number defs) = number
number_of e = 0

module _ (n : ℕ) (s mid : Story) (a : Act) (said : Answer) (reached : IsReachedStory s) (does : DoesOf s n a said mid) (memory : Bool) where
  abbrev now : Option Txn
  now = txn_at s n

  abbrev e : Event
  e = event a said

  moved_view : seen_of mid ≡ visible_after (seen_of s) n e
  moved_view = machine_laws.moves s mid n a said reached does

  pub open_mid : txn_at mid n ≡ open_after (seen_of s) now e
  open_mid = ap (λ (v : Visible). v.open_of n) moved_view ∙ own_step n (seen_of s) e

  pub grows_mid : Grows (objects_at s) (objects_at mid)
  grows_mid = subst (λ v. Grows (objects_at s) (committed v).schema) (sym moved_view) (step_grows (seen_of s) n e)

  pub can_come : CanCome a e
  can_come = machine_laws.answers s mid n a said reached does

  pub knows : Knows (objects_at s) now
  knows u is = machine_laws.defined s n u reached is

  is_known : (t : Option Txn) (x : Event) → now ≡ t → e ≡ x → IsKnown t x
  is_known None x is ex = tt
  is_known (Some t) (Learns objects) is ex = machine_laws.learns s mid n a said objects reached does ex ∙ sym (knows t is)
  is_known (Some t) _ is ex = tt

  may_come : MayCome false now a said
  may_come = record { can = can_come; stop = λ x. absurd (cc); known = is_known now e refl refl }

  abbrev Goes : Todo → Type 0
  Goes todo = Serving (objects_at mid) (txn_at mid n) todo ⊎ IsStopped mid

  served : (j : Job) → Grows j.copy (objects_at s) → (t : Option Txn) → t ≡ open_after (seen_of s) now e → (todo : Todo) (b : Bool) → is_stop e ≡ b → Serves b j t todo → Goes todo
  served j g t is todo true stop h = inr (machine_laws.halts s mid n a said does stop)
  served j g t is todo false stop h = inl (begun j (grows_by j.copy (objects_at s) (objects_at mid) g grows_mid) (subst (λ u. Serves false j u todo) (is ∙ sym open_mid) h))

  rests_out : (replies : List Reply) (copy : Schema) (todo : Todo) → todo ≡ says replies (outside_with copy) → Grows copy (objects_at s) → open_after (seen_of s) now e ≡ None → Goes todo
  rests_out replies copy todo is g none = inl (rests replies (outside_with copy) is
      (subst (λ (u : Option Txn). Rests (objects_at mid) (outside_with copy) u) (sym (open_mid ∙ none)) (refl, grows_by copy (objects_at s) (objects_at mid) g grows_mid)))

  ends_none : (t : Option Txn) → e ≡ Ends → open_after (seen_of s) t e ≡ None
  ends_none None is = ap (open_after (seen_of s) None) is
  ends_none (Some t) is = ap (open_after (seen_of s) (Some t)) is

  commits_none : (t : Option Txn) (number : ℕ) → e ≡ Commits number → open_after (seen_of s) t e ≡ None
  commits_none None number is = ap (open_after (seen_of s) None) is
  commits_none (Some t) number is = ap (open_after (seen_of s) (Some t)) is

  closes_some : (j : Job) (t : Txn) (next : Todo) → now ≡ Some t → (x : Event) → e ≡ x → IsClosed j t x next → Goes next
  closes_some j t _ is _ ex (commits o number standing copy before st at g) = rests_out _ copy _ refl (subst (Grows copy) (knows t is) g) (commits_none now number ex)
  closes_some j t _ is _ ex (rolls_back o copy before st of none g) = rests_out _ copy _ refl (subst (Grows copy) (knows t is) g) (ends_none now ex)
  closes_some j t _ is _ ex (loses o why copy before en dead of none g) = rests_out _ copy _ refl (subst (Grows copy) (knows t is) g) (ends_none now ex)
  closes_some j t _ is _ ex (is_alone number replies copy before nb m lone g) = rests_out _ copy _ refl (subst (Grows copy) (knows t is) g) (commits_none now number ex)
  closes_some j t _ is _ ex (is_refused replies copy before nb m lone none g) = rests_out _ copy _ refl (subst (Grows copy) (knows t is) g) (ends_none now ex)
  closes_some j t _ is _ ex (is_passed why copy before en none g) = rests_out _ copy _ refl (subst (Grows copy) (knows t is) g) (ends_none now ex)

  closes_none : (j : Job) (next : Todo) → Grows j.copy (objects_at s) → now ≡ None → (x : Event) → e ≡ x → IsCreated j x next → Goes next
  closes_none j _ g is _ ex (creates number before nb) = rests_out _ j.copy _ refl g (ap (λ t. open_after (seen_of s) t e) is ∙ ap (open_after (seen_of s) None) ex)
  closes_none j _ g is _ ex (denies why before nb) = rests_out _ j.copy _ refl g (ap (λ t. open_after (seen_of s) t e) is ∙ ap (open_after (seen_of s) None) ex)

  closes : (j : Job) (next : Todo) → Grows j.copy (objects_at s) → (t : Option Txn) → now ≡ t → Closes j t e next → Goes next
  closes j next g (Some t) is c = closes_some j t next is e refl c
  closes j next g None is c = closes_none j next g is e refl c

  -- a step that its program asks for
  asked_goes : (j : Job) → Grows j.copy (objects_at s) → (f : Answer → Bool → Todo) → IsNotBlocked e → Serves false j now (asks a f) → Goes (asked_next e said memory f)
  asked_goes j g f free h = by (came j now e (f said memory) _ (h.1 said memory may_come))
    where
      by : Came j now e (f said memory) (Serves (false || is_stop e) j (next_txn now e) (f said memory)) → Goes (asked_next e said memory f)
      by (blocked sessions is) = absurd (subst IsNotBlocked is free)
      by (lacks is) = subst (λ x. Goes (asked_next x said memory f)) (sym is) (inl (begun j (grows_by j.copy (objects_at s) (objects_at mid) g grows_mid)
          (subst (λ u. Serves false j u (ghosts f)) (sym (open_mid ∙ same_open now e (inl is) (seen_of s))) (subst (λ b. Serves false j now (asks b f)) (lacks_pay a said is) h))))
      by (closed nb nl c) = subst Goes (sym (next_is e said memory f nl)) (closes j (f said memory) g now refl c)
      by (on nb nl q more) = subst Goes (sym (next_is e said memory f nl)) (served j g (next_txn now e) (sym (quiet_open (seen_of s) now e q)) (f said memory) (is_stop e) refl more)

-- the making of a row
ghost_goes : (n : ℕ) (s mid : Story) (said : Answer) (reached : IsReachedStory s) (does : DoesOf s n act.Ghost said mid) (memory : Bool) (j : Job) → Grows j.copy (objects_at s) → (f : Answer → Bool → Todo)
    → Serves false j (txn_at s n) (ghosts f) → CanCome act.Ghost (event act.Ghost said) → Goes n s mid act.Ghost said reached does memory (ghost_next said memory f)
ghost_goes n s mid answer.Ghosted reached does memory j g f h c =
    served n s mid act.Ghost answer.Ghosted reached does memory j g (txn_at s n) (sym (idle_same (txn_at s n) (seen_of s))) (asks act.Pay f) false refl h
ghost_goes n s mid (answer.Refused why) reached does memory j g f h c =
    served n s mid act.Ghost (answer.Refused why) reached does memory j g (next_txn (txn_at s n) (Fails why)) (sym (quiet_open (seen_of s) (txn_at s n) (Fails why) tt)) (f (answer.Refused why) memory) (is_stop (Fails why)) refl
    (h.1 (answer.Refused why) memory (record { can = tt; stop = λ x. absurd (cc); known = fails_known (txn_at s n) why }))
ghost_goes n s mid _ reached does memory j g f h c = absurd c

-- the first step, by which a transaction opens
fails_same : (t : Option Txn) (v : Visible) (why : EngineRefusal) → open_after v t (Fails why) ≡ t
fails_same None v why = refl
fails_same (Some t) v why = refl

opens_goes : (n : ℕ) (s mid : Story) (mode : Mode) (said : Answer) (reached : IsReachedStory s) (does : DoesOf s n (act.Begin mode) said mid) (memory : Bool) (j : Job) → Grows j.copy (objects_at s) → (f : Answer → Bool → Todo)
    → number_of (event (act.Begin mode) said) ≡ j.number → (t : Option Txn) → txn_at s n ≡ t → CanCome (act.Begin mode) (event (act.Begin mode) said)
    → BeginsSo j (event (act.Begin mode) said) false t (λ stopped' t'. Serves stopped' j t' (f said memory)) → Goes n s mid (act.Begin mode) said reached does memory (asked_next (event (act.Begin mode) said) said memory f)
opens_goes n s mid mode (answer.Begun number defs) reached does memory j g f is None e c h =
    served n s mid (act.Begin mode) (answer.Begun number defs) reached does memory j g (Some (new_txn mode number (objects_at s))) (sym (ap (λ t. open_after (seen_of s) t (Begins mode number defs)) e))
    (f (answer.Begun number defs) memory) false refl (h is (objects_at s) g (machine_laws.begins s mid n (act.Begin mode) (answer.Begun number defs) mode number defs reached does refl).1)
opens_goes n s mid mode (answer.Begun number defs) reached does memory j g f is (Some t) e c h = absurd h
opens_goes n s mid mode (answer.Refused why) reached does memory j g f is None e c h =
    served n s mid (act.Begin mode) (answer.Refused why) reached does memory j g None (sym (fails_same (txn_at s n) (seen_of s) why ∙ e)) (f (answer.Refused why) memory) (is_stop (Fails why)) refl h
opens_goes n s mid mode (answer.Refused why) reached does memory j g f is (Some t) e c h =
    served n s mid (act.Begin mode) (answer.Refused why) reached does memory j g (Some t) (sym (fails_same (txn_at s n) (seen_of s) why ∙ e)) (f (answer.Refused why) memory) (is_stop (Fails why)) refl h
opens_goes n s mid mode _ reached does memory j g f is t e c h = absurd c

started_goes : (n : ℕ) (s mid : Story) (a : Act) (said : Answer) (reached : IsReachedStory s) (does : DoesOf s n a said mid) (memory : Bool) (j : Job) → Grows j.copy (objects_at s) → (f : Answer → Bool → Todo)
    → number_of (event a said) ≡ j.number → OpensFirst false j (txn_at s n) (asks a f) → Goes n s mid a said reached does memory (asked_next (event a said) said memory f)
started_goes n s mid (act.Begin mode) said reached does memory j g f is h =
    opens_goes n s mid mode said reached does memory j g f is (txn_at s n) refl (can_come n s mid (act.Begin mode) said reached does memory) (h.1 said memory (may_come n s mid (act.Begin mode) said reached does memory))
started_goes n s mid _ said reached does memory j g f is h = absurd h

some_is : {A : Type 0} {a b : A} → Some a ≡ Some b → a ≡ b
some_is e = cc

pub serving_step : (n : ℕ) (s mid : Story) (a : Act) (said : Answer) (reached : IsReachedStory s) (does : DoesOf s n a said mid) (memory : Bool) (todo : Todo) → act_of todo ≡ Some a → IsNotBlocked (event a said)
    → Serving (objects_at s) (txn_at s n) todo → Serving (objects_at mid) (txn_at mid n) (next_of todo said memory) ⊎ IsStopped mid
serving_step n s mid a said reached does memory (says replies standing) has free h = absurd (cc)
serving_step n s mid a said reached does memory (asks b f) has free h = subst (λ c. Serving (objects_at s) (txn_at s n) (asks c f) → Serving (objects_at mid) (txn_at mid n) (asked_next (event c said) said memory f) ⊎ IsStopped mid) (sym (some_is has)) by h
  where
    by : Serving (objects_at s) (txn_at s n) (asks a f) → Serving (objects_at mid) (txn_at mid n) (asked_next (event a said) said memory f) ⊎ IsStopped mid
    by (rests replies standing is x) = absurd (cc)
    by (begun j g x) = asked_goes n s mid a said reached does memory j g f free x
    by (starts statement run copy g x) = elim (x (number_of (event a said))) [
      | inl y ↦ asked_goes n s mid a said reached does memory (job statement run (number_of (event a said)) copy) g f free y
      | inr y ↦ started_goes n s mid a said reached does memory (job statement run (number_of (event a said)) copy) g f refl y
    ]
serving_step n s mid a said reached does memory (ghosts f) has free h =
    let is : act.Ghost ≡ a = some_is has in
    by (subst (λ b. DoesOf s n b said mid) (sym is) does) h
  where
    by : DoesOf s n act.Ghost said mid → Serving (objects_at s) (txn_at s n) (ghosts f) → Serving (objects_at mid) (txn_at mid n) (ghost_next said memory f) ⊎ IsStopped mid
    by does (rests replies standing is x) = absurd (cc)
    by does (begun j g x) = ghost_goes n s mid said reached does memory j g f x (can_come n s mid act.Ghost said reached does memory)
    by does (starts statement run copy g x) = elim (x 0) [
      | inl y ↦ ghost_goes n s mid said reached does memory (job statement run 0 copy) g f y (can_come n s mid act.Ghost said reached does memory)
      | inr never ↦ absurd never
    ]

-- a step that is blocked leaves it
pub blocked_same : (n : ℕ) (s mid : Story) (a : Act) (said : Answer) (reached : IsReachedStory s) (does : DoesOf s n a said mid) → IsReachedStory s → (event a said ≡ LacksRow) ⊎ ((sessions : _) × (event a said ≡ Waits sessions))
    → txn_at mid n ≡ txn_at s n
blocked_same n s mid a said reached does r is = open_mid n s mid a said reached does true ∙ same_open (txn_at s n) (event a said) is (seen_of s)
