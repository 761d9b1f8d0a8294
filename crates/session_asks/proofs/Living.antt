-- What holds of a session while an engine is not stopped, after each step.
use Rattle.std.specs.Prelude.{◌≡◌, ◌≢◌, ◌⊎◌, ℕ, Bool, true, false, ◌||◌, length, Option, Some, None}
use Rattle.std.specs.Option.{option_map}
use mathlib.Core.Path.{refl, sym, ap, subst, ◌∙◌}
use mathlib.Core.Logic.{inl, inr}
use Rattle.iv_types.specs.declared.refusal.EngineRefusal.{EngineRefusal}
use Rattle.iv_meaning.specs.Escrow.{IsSession}
use Rattle.txn_machine.specs.Acts as act
use Rattle.txn_machine.specs.Acts.{Act}
use Rattle.txn_machine.specs.Answers as answer
use Rattle.txn_machine.specs.Answers.{Answer}
use Rattle.txn_machine.specs.Alone.{Story}
use Rattle.iv_types.specs.declared.lock.LockMode.TheVariants.{Increment}
use Rattle.iv_types.specs.declared.session.Sessions.{Sessions}
use Rattle.iv_meaning.specs.Schema.{Schema}
use Rattle.txn_machine.specs.Ghosts.{Holds}
use Rattle.txn_machine.specs.Keeping.{Open, changes_of}
use Rattle.txn_machine.specs.Laws.{IsReachedStory}
use Rattle.txn_machine.specs.May.{MayAsk, MayAct, Owes}
use Rattle.txn_machine.specs.Store.{Store, schema_of}
use Rattle.txn_machine.proofs.Good.{the_open}
use Rattle.txn_machine.proofs.Parting.{part_law}
use Rattle.script_law.specs.Seen.{Event, Waits, LacksRow, Fails, Begins, Learns, Ends, Commits, Idles, event, is_stop, is_deadlock_event, CanCome, Txn, Visible, open_after, committed, MayWant}
use Rattle.script_law.specs.Programs.{Todo, says, asks, ghosts, Grows}
use Rattle.script_law.specs.RunLines.{act_of, asked_next, ghost_next, next_of, IsNotBlocked}
use Rattle.script_law.specs.Machine.{DoesOf, seen_of, txn_seen, IsStopped, IsFitting}
use Rattle.script_law.specs.Machine as machine
use Rattle.script_law.proofs.Basics.{if_other}
use Rattle.script_law.proofs.Growing.{grows_by}
use Rattle.script_law.proofs.Asking.{may_law}
use Rattle.script_law.proofs.OverMachine.{machine_laws}
use Rattle.script_law.proofs.Showing.{changes_seen}
use Rattle.statement_law.proofs.Asked.{asked_law}
use Rattle.session_asks.proofs.Fitting.{IsLed, FitsIn, IsAliveFor, After, Fits, FitsNow}
use Rattle.session_asks.proofs.Serving.{Serving, objects_at, txn_at, serving_later, serving_wants, serving_step, grows_mid, open_mid, can_come, blocked_same}
use Rattle.session_asks.proofs.Losing.{IsAlive, HoldsFirst, is_dead, step_alive, lacking_holds}

abbrev pub LocksFor : Todo → Store → ℕ → Type 0
LocksFor (ghosts f) s n = HoldsFirst s n
LocksFor todo s n = Unit {0}

pub record Live (n : ℕ) (todo : Todo) (s : Story) : Type 0 where
  pub serving : Serving (objects_at s) (txn_at s n) todo
  pub lost : Bool
  pub alive : lost ≡ false → IsAlive s.state.store n
  pub copy : Schema
  pub grows : Grows copy (objects_at s)
  pub fits : FitsNow copy todo lost (txn_at s n)
  pub locks : LocksFor todo s.state.store n

-- ---- what it asks for

some_is : {A : Type 0} {a b : A} → Some a ≡ Some b → a ≡ b
some_is e = cc

pub may_ask : (n : ℕ) (a : Act) → IsSession n → MayAsk n a
may_ask n act.Defs is = is
may_ask n (act.Schema statement) is = is
may_ask n act.Cancel is = is
may_ask n _ is = is.1

module _ (n : ℕ) (s : Story) (is : IsSession n) (reached : IsReachedStory s) where
  -- what a work was led to
  led_may : (t : Txn) → txn_at s n ≡ Some t → (a : Act) → IsLed t a → MayWant (txn_at s n) a → machine.IsAlive s n a → MayAct s.state.store n a
  led_may t e a led want alive = by (s.state.store.open_of n) refl e
    where
      by : (o : Option Open) → s.state.store.open_of n ≡ o → option_map (txn_seen (schema_of s.state.store) (s.told n)) o ≡ Some t → MayAct s.state.store n a
      by None opened e = absurd (cc)
      by (Some o) opened e =
          let same : txn_seen (schema_of s.state.store) (s.told n) o ≡ t = some_is e in
          let l : IsLed (txn_seen (schema_of s.state.store) (s.told n) o) a = subst (λ u. IsLed u a) (sym same) led in
          asked_law s reached n (record { of_session = is; transaction = o; is_open = opened }) l.statement l.is_its l.may l.earlier l.later
          (ap (λ (x : Option Open). changes_of (the_open x).kept) opened ∙ sym (changes_seen o.kept) ∙ l.kept_is) l.told l.before l.told_is l.work l.leads a l.next want alive

  alive_for : (a : Act) (lost : Bool) → IsAliveFor a lost → (lost ≡ false → IsAlive s.state.store n) → machine.IsAlive s n a
  alive_for act.UndoOne lost h k = tt
  alive_for act.End lost h k = tt
  alive_for _ lost h k = k h

  fits_may : (t : Option Txn) → txn_at s n ≡ t → (a : Act) → FitsIn t a → MayWant t a → machine.IsAlive s n a → MayAct s.state.store n a
  fits_may (Some t) e (act.Fetch index interval lock) fit want alive = led_may t e (act.Fetch index interval lock) fit (subst (λ u. MayWant u (act.Fetch index interval lock)) (sym e) want) alive
  fits_may (Some t) e (act.Peek index interval) fit want alive = led_may t e (act.Peek index interval) fit (subst (λ u. MayWant u (act.Peek index interval)) (sym e) want) alive
  fits_may (Some t) e (act.Put table key new) fit want alive = led_may t e (act.Put table key new) fit (subst (λ u. MayWant u (act.Put table key new)) (sym e) want) alive
  fits_may (Some t) e act.Defs fit want alive = may_law s n act.Defs is alive tt (subst (λ u. MayWant u act.Defs) (sym e) want)
  fits_may (Some t) e act.Pay fit want alive = may_law s n act.Pay is alive tt (subst (λ u. MayWant u act.Pay) (sym e) want)
  fits_may (Some t) e act.UndoOne fit want alive = may_law s n act.UndoOne is alive tt (subst (λ u. MayWant u act.UndoOne) (sym e) want)
  fits_may (Some t) e act.End fit want alive = may_law s n act.End is alive tt (subst (λ u. MayWant u act.End) (sym e) want)
  fits_may (Some t) e act.Commit fit want alive = may_law s n act.Commit is alive tt (subst (λ u. MayWant u act.Commit) (sym e) want)
  fits_may (Some t) e _ fit want alive = absurd want
  fits_may None e (act.Begin mode) fit want alive = may_law s n (act.Begin mode) is alive tt (subst (λ u. MayWant u (act.Begin mode)) (sym e) want)
  fits_may None e act.Defs fit want alive = may_law s n act.Defs is alive tt (subst (λ u. MayWant u act.Defs) (sym e) want)
  fits_may None e (act.Schema statement) fit want alive = may_law s n (act.Schema statement) is alive fit (subst (λ u. MayWant u (act.Schema statement)) (sym e) want)
  fits_may None e _ fit want alive = absurd want

  pub live_may : (todo : Todo) (a : Act) → Live n todo s → act_of todo ≡ Some a → MayAct s.state.store n a
  live_may (says replies standing) a live has = absurd (cc)
  live_may (asks b f) a live has = subst (MayAct s.state.store n) (some_is has)
      (fits_may (txn_at s n) refl b live.fits.0 (serving_wants (objects_at s) (txn_at s n) (asks b f) live.serving) (alive_for b live.lost live.fits.1 live.alive))
  live_may (ghosts f) a live has =
      let owes : Owes s.state.store n = may_law s n act.Pay is (live.alive live.fits.0) tt (serving_wants (objects_at s) (txn_at s n) (ghosts f) live.serving) in
      subst (MayAct s.state.store n) (some_is has) (owes, live.locks owes)

-- ---- a step of another

module _ (n other : ℕ) (s mid : Story) (a : Act) (said : Answer) (reached : IsReachedStory s) (differs : other ≢ n) (does : DoesOf s other a said mid) where
  n_other : n ≢ other
  n_other e = differs (sym e)

  txn_same : txn_at mid n ≡ txn_at s n
  txn_same = ap (λ (v : Visible). v.open_of n) (machine_laws.moves s mid other a said reached does) ∙ if_other n other (open_after (seen_of s) ((seen_of s).open_of other) (event a said)) ((seen_of s).open_of n) n_other

  open_same : mid.state.store.open_of n ≡ s.state.store.open_of n
  open_same = ap (λ (z : Story). z.state.store.open_of n) does.2 ∙ ((part_law s.state (record { session = other; act = a; said = said }) does.0 does.1).0 n n_other).open_is

  holds_same : HoldsFirst s.state.store n → HoldsFirst mid.state.store n
  holds_same h o =
      let was : Owes s.state.store n = record { goes_on = record { of_session = o.goes_on.of_session; transaction = o.goes_on.transaction; is_open = sym open_same ∙ o.goes_on.is_open; mode_is = o.goes_on.mode_is; not_lost = o.goes_on.not_lost }; first = o.first; others = o.others; owed_is = o.owed_is; none_back = o.none_back } in
      subst (λ locks. Holds locks Increment o.first.view o.first.group) (ap (λ (x : Option Open). (the_open x).locks) (sym open_same)) (h was)

  locks_same : (todo : Todo) → LocksFor todo s.state.store n → LocksFor todo mid.state.store n
  locks_same (ghosts f) h = holds_same h
  locks_same (says replies standing) h = tt
  locks_same (asks b f) h = tt

  pub live_other : (todo : Todo) → Live n todo s → Live n todo mid
  live_other todo live =
      let g = grows_mid other s mid a said reached does true in
      record {
        serving = subst (λ t. Serving (objects_at mid) t todo) (sym txn_same) (serving_later (objects_at s) (objects_at mid) g (txn_at s n) todo live.serving);
        lost = live.lost;
        alive = λ e. ap (λ (x : Option Open). (the_open x).is_lost) open_same ∙ live.alive e;
        copy = live.copy;
        grows = grows_by live.copy (objects_at s) (objects_at mid) live.grows g;
        fits = subst (FitsNow live.copy todo live.lost) (sym txn_same) live.fits;
        locks = locks_same todo live.locks;
      }

-- ---- a step of its own

abbrev lost_after : Bool → Option Txn → Event → Bool
lost_after lost None (Fails why) = is_deadlock_event why
lost_after lost None e = false
lost_after lost (Some t) (Fails why) = lost || is_deadlock_event why
lost_after lost (Some t) Ends = false
lost_after lost (Some t) (Commits number) = false
lost_after lost (Some t) e = lost

module _ (copy : Schema) (v : Visible) where
  abbrev Opens : Option Txn → Event → Type 0
  Opens None (Begins mode number defs) = Grows copy (committed v).schema × (defs ≡ length (committed v).schema)
  Opens (Some t) (Learns objects) = objects ≡ t.objects
  Opens t e = Unit {0}

  after_goes : (lost : Bool) (t : Option Txn) (e : Event) (Goes : Bool → Option Txn → Type 0) → IsNotBlocked e → e ≢ LacksRow → is_stop e ≡ false → Opens t e → After copy lost t e Goes → Goes (lost_after lost t e) (open_after v t e)
  after_goes lost None (Waits sessions) Goes free nl goes o h = absurd free
  after_goes lost None LacksRow Goes free nl goes o h = absurd (nl refl)
  after_goes lost None (Fails why) Goes free nl goes o h = h goes
  after_goes lost None (Begins mode number defs) Goes free nl goes o h = h (committed v).schema o.0 o.1
  after_goes lost None _ Goes free nl goes o h = h
  after_goes lost (Some t) (Waits sessions) Goes free nl goes o h = absurd free
  after_goes lost (Some t) LacksRow Goes free nl goes o h = absurd (nl refl)
  after_goes lost (Some t) (Fails why) Goes free nl goes o h = h goes
  after_goes lost (Some t) (Learns objects) Goes free nl goes o h = h o
  after_goes lost (Some t) _ Goes free nl goes o h = h

-- where a deadlock met it
data Deadly (said : Answer) : Type 0 where
  dies : (why : EngineRefusal) → said ≡ answer.Refused why → is_deadlock_event why ≡ true → Deadly said
  lives : is_dead said ≡ false → Deadly said

deadly : (said : Answer) → Deadly said
deadly (answer.Refused why) = by (is_deadlock_event why) refl
  where
    by : (b : Bool) → is_deadlock_event why ≡ b → Deadly (answer.Refused why)
    by true e = dies why refl e
    by false e = lives e
deadly _ = lives refl

or_true : (b : Bool) → (b || true) ≡ true
or_true true = refl
or_true false = refl

lost_dead : (lost : Bool) (t : Option Txn) (why : EngineRefusal) → is_deadlock_event why ≡ true → lost_after lost t (Fails why) ≡ true
lost_dead lost None why d = d
lost_dead lost (Some t) why d = ap (λ b. lost || b) d ∙ or_true lost

-- the flag was down, or there is no transaction
lost_before : (v : Visible) (lost : Bool) (t : Option Txn) (e : Event) → lost_after lost t e ≡ false → (lost ≡ false) ⊎ ((t ≡ None) ⊎ (open_after v t e ≡ None))
lost_before v lost None e h = inr (inl refl)
lost_before v lost (Some t) (Fails why) h = inl (first lost (is_deadlock_event why) h)
  where
    first : (b c : Bool) → (b || c) ≡ false → b ≡ false
    first true c h = absurd (cc)
    first false c h = refl
lost_before v lost (Some t) Ends h = inr (inr refl)
lost_before v lost (Some t) (Commits number) h = inr (inr refl)
lost_before v lost (Some t) _ h = inl h

none_alive : (s : Story) (n : ℕ) → txn_at s n ≡ None → IsAlive s.state.store n
none_alive s n e = by (s.state.store.open_of n) refl e
  where
    by : (o : Option Open) → s.state.store.open_of n ≡ o → option_map (txn_seen (schema_of s.state.store) (s.told n)) o ≡ None → IsAlive s.state.store n
    by None opened e = ap (λ (x : Option Open). (the_open x).is_lost) opened
    by (Some o) opened e = absurd (cc)

next_is : (e : Event) (said : Answer) (memory : Bool) (f : Answer → Bool → Todo) → e ≢ LacksRow → asked_next e said memory f ≡ f said memory
next_is LacksRow said memory f n = absurd (n refl)
next_is _ said memory f n = refl

data Lacking (a : Act) (said : Answer) : Type 0 where
  lacks : a ≡ act.Pay → said ≡ answer.NeedsGhost → Lacking a said
  has : event a said ≢ LacksRow → Lacking a said

lacking : (a : Act) (said : Answer) → Lacking a said
lacking act.Pay answer.NeedsGhost = lacks refl refl
lacking a (answer.Refused why) = has (λ e. cc)
lacking (act.Fetch i r m) (answer.Blocked sessions) = has (λ e. cc)
lacking (act.Put t k w) (answer.Blocked sessions) = has (λ e. cc)
lacking act.Pay (answer.Blocked sessions) = has (λ e. cc)
lacking (act.Begin mode) (answer.Begun number defs) = has (λ e. cc)
lacking act.Defs (answer.Defs objects) = has (λ e. cc)
lacking (act.Fetch i r m) (answer.Rows rows) = has (λ e. cc)
lacking (act.Peek i r) (answer.Rows rows) = has (λ e. cc)
lacking (act.Put t k w) (answer.Changed before owed) = has (λ e. cc)
lacking act.Pay (answer.Paid left) = has (λ e. cc)
lacking act.Ghost answer.Ghosted = has (λ e. cc)
lacking act.UndoOne (answer.Undone left) = has (λ e. cc)
lacking act.End answer.Ended = has (λ e. cc)
lacking act.Commit (answer.Committed number) = has (λ e. cc)
lacking (act.Schema statement) (answer.Committed number) = has (λ e. cc)
lacking (act.Schema statement) (answer.Denied why) = has (λ e. cc)
lacking act.Clean (answer.Cleaned count) = has (λ e. cc)
lacking act.Prune answer.Pruned = has (λ e. cc)
lacking act.Checkpoint (answer.Saved number) = has (λ e. cc)
lacking act.Cancel answer.Cancelled = has (λ e. cc)
lacking _ _ = has (λ e. cc)

pub fits_locks : (copy : Schema) (todo : Todo) (lost : Bool) (t : Option Txn) (s : Store) (n : ℕ) → Fits copy todo lost t → LocksFor todo s n
fits_locks copy (ghosts f) lost t s n h = absurd h
fits_locks copy (says replies standing) lost t s n h = tt
fits_locks copy (asks a f) lost t s n h = tt

pub fits_now : (copy : Schema) (todo : Todo) (lost : Bool) (t : Option Txn) → Fits copy todo lost t → FitsNow copy todo lost t
fits_now copy (ghosts f) lost t h = absurd h
fits_now copy (says replies standing) lost t h = h
fits_now copy (asks a f) lost t h = h

module _ (n : ℕ) (s mid : Story) (a : Act) (said : Answer) (reached : IsReachedStory s) (does : DoesOf s n a said mid) where
  abbrev e : Event
  e = event a said

  abbrev g : Grows (objects_at s) (objects_at mid)
  g = grows_mid n s mid a said reached does true

  alive_after : (lost : Bool) → (lost ≡ false → IsAlive s.state.store n) → lost_after lost (txn_at s n) e ≡ false → IsAlive mid.state.store n
  alive_after lost alive h = by (deadly said)
    where
      by : Deadly said → IsAlive mid.state.store n
      by (dies why is d) =
          let so : true ≡ false = sym (lost_dead lost (txn_at s n) why d) ∙ ap (lost_after lost (txn_at s n)) (sym (ap (event a) is)) ∙ h in
          absurd (cc)
      by (lives l) = elim (lost_before (seen_of s) lost (txn_at s n) e h) [
        | inl x ↦ step_alive s mid n a said does l (alive x)
        | inr x ↦ elim x [
          | inl y ↦ step_alive s mid n a said does l (none_alive s n y)
          | inr y ↦ none_alive mid n (open_mid n s mid a said reached does true ∙ y)
        ]
      ]

  opens_so : (copy : Schema) → Grows copy (objects_at s) → (t : Option Txn) → txn_at s n ≡ t → (x : Event) → e ≡ x → Opens copy (seen_of s) t x
  opens_so copy c None is (Begins mode number defs) ex = (c, (machine_laws.begins s mid n a said mode number defs reached does ex).1)
  opens_so copy c (Some t) is (Learns objects) ex = machine_laws.learns s mid n a said objects reached does ex ∙ sym (machine_laws.defined s n t reached is)
  opens_so copy c None is _ ex = tt
  opens_so copy c (Some t) is _ ex = tt

  abbrev Lives : Todo → Type 0
  Lives todo = Live n todo mid ⊎ IsStopped mid

  -- the rest of the program after an answer of its own
  rest_lives : (copy : Schema) → Grows copy (objects_at s) → (lost : Bool) → (lost ≡ false → IsAlive s.state.store n) → (todo : Todo) → IsNotBlocked e → e ≢ LacksRow → is_stop e ≡ false
      → Serving (objects_at mid) (txn_at mid n) todo → After copy lost (txn_at s n) e (Fits copy todo) → Lives todo
  rest_lives copy c lost alive todo free nl goes serving h =
      let fits = after_goes copy (seen_of s) lost (txn_at s n) e (Fits copy todo) free nl goes (opens_so copy c (txn_at s n) refl e refl) h in
      let fits' : Fits copy todo (lost_after lost (txn_at s n) e) (txn_at mid n) = subst (Fits copy todo (lost_after lost (txn_at s n) e)) (sym (open_mid n s mid a said reached does true)) fits in
      inl (record {
        serving = serving;
        lost = lost_after lost (txn_at s n) e;
        alive = alive_after lost alive;
        copy = copy;
        grows = grows_by copy (objects_at s) (objects_at mid) c g;
        fits = fits_now copy todo (lost_after lost (txn_at s n) e) (txn_at mid n) fits';
        locks = fits_locks copy todo (lost_after lost (txn_at s n) e) (txn_at mid n) mid.state.store n fits';
      })

  stop_or : (todo : Todo) → (is_stop e ≡ false → Lives todo) → Lives todo
  stop_or todo h = by (is_stop e) refl h
    where
      by : (b : Bool) → is_stop e ≡ b → (b ≡ false → Lives todo) → Lives todo
      by true stop h = inr (machine_laws.halts s mid n a said does stop)
      by false stop h = h refl

-- the transaction stays as it is seen, and nothing met it
same_lives : (n : ℕ) (s mid : Story) (a : Act) (said : Answer) (reached : IsReachedStory s) (does : DoesOf s n a said mid) (todo : Todo) (lost : Bool) (copy : Schema) → Grows copy (objects_at s) → (lost ≡ false → IsAlive s.state.store n)
    → is_dead said ≡ false → txn_at mid n ≡ txn_at s n → Serving (objects_at mid) (txn_at mid n) todo → FitsNow copy todo lost (txn_at s n) → LocksFor todo mid.state.store n → Live n todo mid
same_lives n s mid a said reached does todo lost copy c alive dead same serving fits locks = record {
  serving = serving;
  lost = lost;
  alive = λ e. step_alive s mid n a said does dead (alive e);
  copy = copy;
  grows = grows_by copy (objects_at s) (objects_at mid) c (grows_mid n s mid a said reached does true);
  fits = subst (FitsNow copy todo lost) (sym same) fits;
  locks = locks;
}

lacks_lives : (n : ℕ) (s mid : Story) (reached : IsReachedStory s) (does : DoesOf s n act.Pay answer.NeedsGhost mid) (f : Answer → Bool → Todo) → Live n (asks act.Pay f) s → Serving (objects_at mid) (txn_at mid n) (ghosts f) → Live n (ghosts f) mid
lacks_lives n s mid reached does f live serving =
    same_lives n s mid act.Pay answer.NeedsGhost reached does (ghosts f) live.lost live.copy live.grows live.alive refl (blocked_same n s mid act.Pay answer.NeedsGhost reached does reached (inl refl)) serving
    (live.fits.1, live.fits.2) (lacking_holds s mid n does)

pay_fits : (t : Option Txn) → FitsIn t act.Pay
pay_fits None = tt
pay_fits (Some t) = tt

idle_same : (t : Option Txn) (v : Visible) → open_after v t Idles ≡ t
idle_same None v = refl
idle_same (Some t) v = refl

ghosted_lives : (n : ℕ) (s mid : Story) (reached : IsReachedStory s) (does : DoesOf s n act.Ghost answer.Ghosted mid) (f : Answer → Bool → Todo) → Live n (ghosts f) s → Serving (objects_at mid) (txn_at mid n) (asks act.Pay f) → Live n (asks act.Pay f) mid
ghosted_lives n s mid reached does f live serving =
    same_lives n s mid act.Ghost answer.Ghosted reached does (asks act.Pay f) live.lost live.copy live.grows live.alive refl (open_mid n s mid act.Ghost answer.Ghosted reached does true ∙ idle_same (txn_at s n) (seen_of s)) serving
    (pay_fits (txn_at s n), live.fits.0, live.fits.1) tt

ghost_lives : (n : ℕ) (s mid : Story) (said : Answer) (reached : IsReachedStory s) (does : DoesOf s n act.Ghost said mid) (memory : Bool) (f : Answer → Bool → Todo) → CanCome act.Ghost (event act.Ghost said) → Live n (ghosts f) s
    → Serving (objects_at mid) (txn_at mid n) (ghost_next said memory f) → Live n (ghost_next said memory f) mid ⊎ IsStopped mid
ghost_lives n s mid answer.Ghosted reached does memory f c live serving = inl (ghosted_lives n s mid reached does f live serving)
ghost_lives n s mid (answer.Refused why) reached does memory f c live serving =
    stop_or n s mid act.Ghost (answer.Refused why) reached does (f (answer.Refused why) memory)
    (λ goes. rest_lives n s mid act.Ghost (answer.Refused why) reached does live.copy live.grows live.lost live.alive (f (answer.Refused why) memory) tt (λ e. cc) goes serving (live.fits.1 (answer.Refused why) memory tt))
ghost_lives n s mid _ reached does memory f c live serving = absurd c

abbrev GoesSo : ℕ → Story → Story → Bool → (Answer → Bool → Todo) → Act → Answer → Type 0
GoesSo n s mid memory f a said =
    DoesOf s n a said mid → Live n (asks a f) s → Serving (objects_at mid) (txn_at mid n) (asked_next (event a said) said memory f) → Live n (asked_next (event a said) said memory f) mid ⊎ IsStopped mid

asked_lives : (n : ℕ) (s mid : Story) (a : Act) (said : Answer) (reached : IsReachedStory s) (does : DoesOf s n a said mid) (memory : Bool) (f : Answer → Bool → Todo) → IsNotBlocked (event a said) → Live n (asks a f) s
    → Serving (objects_at mid) (txn_at mid n) (asked_next (event a said) said memory f) → Live n (asked_next (event a said) said memory f) mid ⊎ IsStopped mid
asked_lives n s mid a said reached does memory f free live serving = by (lacking a said)
  where
    by : Lacking a said → Live n (asked_next (event a said) said memory f) mid ⊎ IsStopped mid
    by (lacks a_is said_is) =
        subst (λ (b : Act). GoesSo n s mid memory f b said) (sym a_is) (subst (λ (x : Answer). GoesSo n s mid memory f act.Pay x) (sym said_is) (λ d l v. inl (lacks_lives n s mid reached d f l v))) does live serving
    by (has nl) =
        subst (λ t. Live n t mid ⊎ IsStopped mid) (sym (next_is (event a said) said memory f nl))
        (stop_or n s mid a said reached does (f said memory)
        (λ goes. rest_lives n s mid a said reached does live.copy live.grows live.lost live.alive (f said memory) free nl goes
        (subst (Serving (objects_at mid) (txn_at mid n)) (next_is (event a said) said memory f nl) serving)
        (live.fits.2 said memory (can_come n s mid a said reached does true))))

pub live_step : (n : ℕ) (s mid : Story) (a : Act) (said : Answer) → IsReachedStory s → DoesOf s n a said mid → (memory : Bool) (todo : Todo) → act_of todo ≡ Some a → IsNotBlocked (event a said) → Live n todo s
    → Live n (next_of todo said memory) mid ⊎ IsStopped mid
live_step n s mid a said reached does memory (says replies standing) is free live = absurd (cc)
live_step n s mid a said reached does memory (asks b f) is free live = elim (serving_step n s mid a said reached does memory (asks b f) is free live.serving) [
  | inl serving ↦
      let same : b ≡ a = some_is is in
      subst (λ (c : Act). Live n (asks c f) s → Serving (objects_at mid) (txn_at mid n) (asked_next (event c said) said memory f) → Live n (asked_next (event c said) said memory f) mid ⊎ IsStopped mid) (sym same)
      (λ l v. asked_lives n s mid a said reached does memory f free l v) live serving
  | inr stopped ↦ inr stopped
]
live_step n s mid a said reached does memory (ghosts f) is free live = elim (serving_step n s mid a said reached does memory (ghosts f) is free live.serving) [
  | inl serving ↦
      let same : act.Ghost ≡ a = some_is is in
      let d : DoesOf s n act.Ghost said mid = subst (λ b. DoesOf s n b said mid) (sym same) does in
      ghost_lives n s mid said reached d memory f (can_come n s mid act.Ghost said reached d true) live serving
  | inr stopped ↦ inr stopped
]

-- a step that is blocked leaves it
waits_alive : (a : Act) (said : Answer) (sessions : Sessions) → event a said ≡ Waits sessions → is_dead said ≡ false
waits_alive a (answer.Refused why) sessions e = absurd (cc)
waits_alive a _ sessions e = refl

ghost_waits : (said : Answer) (sessions : Sessions) → event act.Ghost said ≡ Waits sessions → ⊥
ghost_waits (answer.Refused why) sessions e = cc
ghost_waits answer.Ghosted sessions e = cc
ghost_waits _ sessions e = cc

pub live_waits : (n : ℕ) (s mid : Story) (a : Act) (said : Answer) (sessions : Sessions) → IsReachedStory s → DoesOf s n a said mid → (todo : Todo) → act_of todo ≡ Some a → event a said ≡ Waits sessions → Live n todo s → Live n todo mid
live_waits n s mid a said sessions reached does todo wants is live =
    let same : txn_at mid n ≡ txn_at s n = blocked_same n s mid a said reached does reached (inr (sessions, is)) in
    same_lives n s mid a said reached does todo live.lost live.copy live.grows live.alive (waits_alive a said sessions is) same
    (subst (λ t. Serving (objects_at mid) t todo) (sym same) (serving_later (objects_at s) (objects_at mid) (grows_mid n s mid a said reached does true) (txn_at s n) todo live.serving)) live.fits (by todo wants)
  where
    by : (t : Todo) → act_of t ≡ Some a → LocksFor t mid.state.store n
    by (says replies standing) h = tt
    by (asks b f) h = tt
    by (ghosts f) h = let same : act.Ghost ≡ a = some_is h in absurd (ghost_waits said sessions (subst (λ b. event b said ≡ Waits sessions) (sym same) is))
