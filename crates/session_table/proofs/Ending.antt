-- How sessions leave at the end of the input.
use Rattle.std.specs.Prelude.{◌≡◌, ◌≢◌, ◌<◌, ◌≤◌, ◌+◌, ◌-◌, ◌⊎◌, ℕ, suc, Bool, true, false, List, [], ◌∷◌, length, Option, Some, None, slice_get}
use Rattle.std.specs.Option.{option_map}
use mathlib.Core.Path.{refl, sym, ap, subst, ◌∙◌}
use mathlib.Core.Logic.{inl, inr}
use Rattle.std.proofs.Common.{arith}
use Rattle.iv_types.specs.declared.refusal.EngineRefusal.{EngineRefusal}
use Rattle.iv_types.specs.declared.statement.Mode.{Mode}
use Rattle.iv_meaning.specs.Escrow.{IsSession}
use Rattle.txn_machine.specs.Acts as act
use Rattle.txn_machine.specs.Acts.{Act}
use Rattle.txn_machine.specs.Answers as answer
use Rattle.txn_machine.specs.Answers.{Answer}
use Rattle.txn_machine.specs.Deltas.{RowChange}
use Rattle.txn_machine.specs.Keeping.{KeptStep, Put, Pay, Open}
use Rattle.txn_machine.specs.Store.{schema_of}
use Rattle.txn_machine.specs.State.{State}
use Rattle.txn_machine.specs.Steps as machine
use Rattle.txn_machine.specs.Alone.{Story, story_after}
use Rattle.txn_machine.specs.Laws.{IsReachedStory}
use Rattle.txn_machine.specs.May.{May}
use Rattle.txn_book.specs.declared.step.Step.{Step}
use Rattle.txn_book.specs.declared.step.Answer.{Answer as BookAnswer}
use Rattle.txn_book.specs.Acts as book
use Rattle.txn_book.specs.Moves.{IsAskable as CanAsk, Moves, kept_count}
use Rattle.script_law.specs.Seen.{TakesBack, Idles, Fails, event, CanCome, Txn, Visible, but_latest, open_after, MayWant}
use Rattle.script_law.specs.RunLines.{AtTable, idle, open_at, RollsBack, ends_it, takes_back, stops_ending, stops_taking, Leaves, cancels, cancels_held, steps_no_more, has_none, rolls_back, LeaveAll}
use Rattle.script_law.specs.Machine.{DoesOf, kept_seen, txn_seen, seen_of}
use Rattle.script_law.proofs.Asking.{may_law}
use Rattle.script_law.proofs.Basics.{if_same}
use Rattle.script_law.proofs.OverMachine.{machine_laws}
use Rattle.session_asks.specs.Askable.{the_programs}
use Rattle.txn_sessions.specs.Sessions.{todo_of, stands, left_of, IsIdle}
use Rattle.session_table.specs.declared.slot.LineKind.TheVariants.{Idle, Waiting, Stepping, Held}
use Rattle.session_table.specs.declared.slot.Slot.{Slot}
use Rattle.session_table.specs.Going.{StandsIn, the_tell, standing_in}
use Rattle.session_table.specs.Slots.{FitsLine, seat_in, seat_by, seat_or_none, table_of, numbers, IsSlot, AreSlots}
use Rattle.session_table.specs.Leaving.{IsOpenAt, IsUndone, WasUndone, TookOne, RolledBack, EndedOpen, Cancelled, LeftWaiting, LeftBy, LeftAll}
use Rattle.session_table.proofs.Knowing.{then, so}
use Rattle.session_table.proofs.Lining.{all_numbers}
use Rattle.session_table.proofs.Passing.{numbers_split, minus_none}

-- ---- steps of the end

-- so many kept steps were taken back, and so many are left
pub record TakenBack (n kept many : ℕ) (s after : Story) : Type 0 where
  pub left : ℕ
  pub sum : many + left ≡ kept
  pub opens : IsOpenAt n left after
  pub joins : (end : Story) → RollsBack DoesOf the_programs the_tell n left after end → RollsBack DoesOf the_programs the_tell n kept s end

abbrev pub TakenKnown : (n kept : ℕ) (St0 St : State → Type 0) → ℕ → Type 0
TakenKnown n kept St0 St many = (s : Story) → St0 s.state → IsOpenAt n kept s → StandsIn St (TakenBack n kept many s)

module _ (n : ℕ) (is : IsSession n) where
  seen_after : (s after : Story) (a : Act) (said : Answer) → IsReachedStory s → DoesOf s n a said after → (seen_of after).open_of n ≡ open_after (seen_of s) ((seen_of s).open_of n) (event a said)
  seen_after s after a said r does = ap (λ (v : Visible). v.open_of n) (machine_laws.moves s after n a said r does)
      ∙ if_same n (open_after (seen_of s) ((seen_of s).open_of n) (event a said)) ((seen_of s).open_of n)

  reach : (s after : Story) (a : Act) (said : Answer) → IsReachedStory s → DoesOf s n a said after → IsReachedStory after
  reach s after a said r does = machine_laws.stands s after n a said r does

  pub step_does : {St : State → Type 0} {MayRecover : _} (s : Story) (b : Step) (said : BookAnswer) → b.session ≡ n → Moves St MayRecover s.state b said → StandsIn St (DoesOf s n (book.act_of b.act) (book.answer_of said))
  step_does s b said e m =
      let did : machine.Did = record { session = n; act = book.act_of b.act; said = book.answer_of said } in
      record {
        story = story_after s did m.after;
        stands = m.stands;
        holds = (m.after, subst (λ i. machine.Step s.state i (book.act_of b.act) (book.answer_of said) m.after) e m.does, refl);
      }

  -- ---- UndoOne

  keeps_some : (t : Txn) (fewer : ℕ) → length t.kept ≡ fewer + 1 → t.kept ≢ []
  keeps_some t fewer e none = let z : length t.kept ≡ 0 = ap length none in omega (arith, e, z)

  pub undo_may : (s : Story) (fewer : ℕ) → IsOpenAt n (fewer + 1) s → May s.state n act.UndoOne
  undo_may s fewer o = (is.1, inr (may_law s n act.UndoOne is tt tt (subst (λ t. MayWant t act.UndoOne) (sym o.is_open) (keeps_some o.txn fewer o.keeps))))

  undo_came : (y : Answer) → CanCome act.UndoOne (event act.UndoOne y) → IsUndone y
  undo_came (answer.Undone left) h = tt
  undo_came (answer.Refused why) h = tt
  undo_came _ h = absurd h

  fewer_kept : (ks : List (Option RowChange)) (fewer : ℕ) → length ks ≡ fewer + 1 → length (but_latest ks) ≡ fewer
  fewer_kept [] fewer e = absurd (omega (arith, e))
  fewer_kept (k ∷ ks) fewer e = omega (arith, e)

  took : (s after : Story) (fewer : ℕ) (b : Bool) (said : Answer) → IsOpenAt n (fewer + 1) s → DoesOf s n act.UndoOne said after → WasUndone b said → TookOne n fewer s b after
  took s after fewer true said o does (left, e) =
      let did : DoesOf s n act.UndoOne (answer.Undone left) after = subst (λ y. DoesOf s n act.UndoOne y after) e does in (
        left,
        did,
        record {
          reached = reach s after act.UndoOne (answer.Undone left) o.reached did;
          txn = _;
          is_open = seen_after s after act.UndoOne (answer.Undone left) o.reached did ∙ ap (λ t. open_after (seen_of s) t TakesBack) o.is_open;
          keeps = fewer_kept o.txn.kept fewer o.keeps;
        },
      )
  took s after fewer false said o does (why, e) =
      let did : DoesOf s n act.UndoOne (answer.Refused why) after = subst (λ y. DoesOf s n act.UndoOne y after) e does in
      (why, did, machine_laws.answers s after n act.UndoOne (answer.Refused why) o.reached did, reach s after act.UndoOne (answer.Refused why) o.reached did)

  -- ---- End

  pub end_may : (s : Story) → IsOpenAt n 0 s → May s.state n act.End
  end_may s o = (is.1, inr (may_law s n act.End is tt tt (subst (λ t. MayWant t act.End) (sym o.is_open) (by o.txn.kept o.keeps))))
    where
      by : (ks : List (Option RowChange)) → length ks ≡ 0 → ks ≡ []
      by [] e = refl
      by (k ∷ ks) e = absurd (omega (arith, e))

  ended : (s after : Story) (said : Answer) → IsOpenAt n 0 s → DoesOf s n act.End said after → RolledBack n 0 s after
  ended s after said o does = record { rolls = by said does (machine_laws.answers s after n act.End said o.reached does); reached = reach s after act.End said o.reached does }
    where
      by : (y : Answer) → DoesOf s n act.End y after → CanCome act.End (event act.End y) → RollsBack DoesOf the_programs the_tell n 0 s after
      by answer.Ended d h = ends_it s after d
      by (answer.Refused why) d h = stops_ending s after why h d
      by _ d h = absurd h

  -- ---- Cancel

  pub cancel_may : (s : Story) → May s.state n act.Cancel
  cancel_may s = (is, inr is)

  idles_same : (v : Visible) (t : Option Txn) → open_after v t Idles ≡ t
  idles_same v None = refl
  idles_same v (Some t) = refl

  fails_same : (v : Visible) (t : Option Txn) (why : EngineRefusal) → open_after v t (Fails why) ≡ t
  fails_same v None why = refl
  fails_same v (Some t) why = refl

  cancel_same : (v : Visible) (t : Option Txn) (y : Answer) → CanCome act.Cancel (event act.Cancel y) → open_after v t (event act.Cancel y) ≡ t
  cancel_same v t answer.Cancelled h = idles_same v t
  cancel_same v t (answer.Refused why) h = fails_same v t why
  cancel_same v t _ h = absurd h

  cancelled : (s after : Story) (said : Answer) → IsReachedStory s → DoesOf s n act.Cancel said after → Cancelled n s after
  cancelled s after said r does = record {
    said = said;
    does = does;
    same = seen_after s after act.Cancel said r does ∙ cancel_same (seen_of s) ((seen_of s).open_of n) said (machine_laws.answers s after n act.Cancel said r does);
    reached = reach s after act.Cancel said r does;
  }

  -- ---- as an engine stands

  pub undo_needs : {St : State → Type 0} (b : Step) → b.session ≡ n → book.act_of b.act ≡ act.UndoOne → StandsIn St (λ s. (fewer : ℕ) × IsOpenAt n (fewer + 1) s) → CanAsk St b
  undo_needs b e a h = record { state = h.story.state; stands = h.stands; asked = subst (λ i. May h.story.state i (book.act_of b.act)) (sym e) (subst (May h.story.state n) (sym a) (undo_may h.story h.holds.0 h.holds.1)) }

  pub undo_fits : {St St' : State → Type 0} (said : Answer) → StandsIn St (λ s. (fewer : ℕ) × IsOpenAt n (fewer + 1) s) → ((s : Story) → St s.state → May s.state n act.UndoOne → StandsIn St' (DoesOf s n act.UndoOne said)) → IsUndone said
  undo_fits {St' = St'} said h did =
      let d : StandsIn St' (DoesOf h.story n act.UndoOne said) = did h.story h.stands (undo_may h.story h.holds.0 h.holds.1) in
      undo_came said (machine_laws.answers h.story d.story n act.UndoOne said h.holds.1.reached d.holds)

  pub undo_took : (St : State → Type 0) {St' : State → Type 0} (b : Bool) (said : Answer) → WasUndone b said → ((s : Story) → St s.state → May s.state n act.UndoOne → StandsIn St' (DoesOf s n act.UndoOne said))
      → (s : Story) (fewer : ℕ) → St s.state → IsOpenAt n (fewer + 1) s → StandsIn St' (TookOne n fewer s b)
  undo_took St b said was did s fewer st o = so (did s st (undo_may s fewer o)) (λ t does. took s t fewer b said o does was)

  pub end_needs : {St : State → Type 0} (b : Step) → b.session ≡ n → book.act_of b.act ≡ act.End → StandsIn St (IsOpenAt n 0) → CanAsk St b
  end_needs b e a h = record { state = h.story.state; stands = h.stands; asked = subst (λ i. May h.story.state i (book.act_of b.act)) (sym e) (subst (May h.story.state n) (sym a) (end_may h.story h.holds)) }

  pub end_told : (St : State → Type 0) {St' : State → Type 0} (said : Answer) → ((s : Story) → St s.state → May s.state n act.End → StandsIn St' (DoesOf s n act.End said))
      → (s : Story) → St s.state → IsOpenAt n 0 s → StandsIn St' (RolledBack n 0 s)
  end_told St said did s st o = so (did s st (end_may s o)) (λ t does. ended s t said o does)

  pub cancel_needs : {St : State → Type 0} (b : Step) → b.session ≡ n → book.act_of b.act ≡ act.Cancel → StandsIn St IsReachedStory → CanAsk St b
  cancel_needs b e a h = record { state = h.story.state; stands = h.stands; asked = subst (λ i. May h.story.state i (book.act_of b.act)) (sym e) (subst (May h.story.state n) (sym a) (cancel_may h.story)) }

  pub cancel_told : (St : State → Type 0) {St' : State → Type 0} (said : Answer) → ((s : Story) → St s.state → May s.state n act.Cancel → StandsIn St' (DoesOf s n act.Cancel said))
      → (s : Story) → St s.state → IsReachedStory s → StandsIn St' (Cancelled n s)
  cancel_told St said did s st r = so (did s st (cancel_may s)) (λ t does. cancelled s t said r does)

  -- ---- kept steps one after another

  module _ (St0 : State → Type 0) (kept : ℕ) where
    pub taken_none : TakenKnown n kept St0 St0 0
    taken_none s st o = record { story = s; stands = st; holds = record { left = kept; sum = omega arith; opens = o; joins = λ end h. h } }

    -- one more is left
    less : (t : Story) (many : ℕ) (s : Story) → many < kept → (d : TakenBack n kept many s t) → (fewer : ℕ) × (d.left ≡ fewer + 1)
    less t many s below d = (d.left - 1, omega (arith, below, d.sum))

    pub taken_needs : {St : State → Type 0} (many : ℕ) → many < kept → StandsIn St0 (IsOpenAt n kept) → TakenKnown n kept St0 St many → StandsIn St (λ s. (fewer : ℕ) × IsOpenAt n (fewer + 1) s)
    taken_needs many below h known = then h (λ s st o. so (known s st o) (λ t d. let l = less t many s below d in (l.0, subst (λ k. IsOpenAt n k t) l.1 d.opens)))

    pub taken_end : {St : State → Type 0} (many : ℕ) → kept ≤ many → StandsIn St0 (IsOpenAt n kept) → TakenKnown n kept St0 St many → StandsIn St (IsOpenAt n 0)
    taken_end many all h known = then h (λ s st o. so (known s st o) (λ t d. subst (λ k. IsOpenAt n k t) (let z : d.left ≡ 0 = omega (arith, all, d.sum) in z) d.opens))

    module _ {St St' : State → Type 0} (many : ℕ) (known : TakenKnown n kept St0 St many) where
      pub taken_more : (b : Bool) → b ≡ true → many < kept → ((s : Story) (fewer : ℕ) → St s.state → IsOpenAt n (fewer + 1) s → StandsIn St' (TookOne n fewer s b)) → TakenKnown n kept St0 St' (many + 1)
      taken_more b e below did s st o = then (known s st o) (λ t st' d.
          let l = less t many s below d in
          so (did t l.0 st' (subst (λ k. IsOpenAt n k t) l.1 d.opens)) (λ u one. more s t u d l.0 l.1 (subst (λ c. TookOne n l.0 t c u) e one)))
        where
          more : (s t u : Story) (d : TakenBack n kept many s t) (fewer : ℕ) → d.left ≡ fewer + 1 → TookOne n fewer t true u → TakenBack n kept (many + 1) s u
          more s t u d fewer is (left, does, o) = record {
            left = fewer;
            sum = omega (arith, d.sum, is);
            opens = o;
            joins = λ end h. d.joins end (subst (λ k. RollsBack DoesOf the_programs the_tell n k t end) (sym is) (takes_back fewer left t u end does h));
          }

      pub taken_stops : (b : Bool) → b ≡ false → many < kept → ((s : Story) (fewer : ℕ) → St s.state → IsOpenAt n (fewer + 1) s → StandsIn St' (TookOne n fewer s b))
          → (s : Story) → St0 s.state → IsOpenAt n kept s → StandsIn St' (RolledBack n kept s)
      taken_stops b e below did s st o = then (known s st o) (λ t st' d.
          let l = less t many s below d in
          so (did t l.0 st' (subst (λ k. IsOpenAt n k t) l.1 d.opens)) (λ u one. stops s t u d l.0 l.1 (subst (λ c. TookOne n l.0 t c u) e one)))
        where
          stops : (s t u : Story) (d : TakenBack n kept many s t) (fewer : ℕ) → d.left ≡ fewer + 1 → TookOne n fewer t false u → RolledBack n kept s u
          stops s t u d fewer is (why, does, stop, r) = record {
            rolls = d.joins u (subst (λ k. RollsBack DoesOf the_programs the_tell n k t u) (sym is) (stops_taking fewer t u why stop does));
            reached = r;
          }

      pub taken_all : kept ≤ many → ((s : Story) → St s.state → IsOpenAt n 0 s → StandsIn St' (RolledBack n 0 s)) → (s : Story) → St0 s.state → IsOpenAt n kept s → StandsIn St' (RolledBack n kept s)
      taken_all all did s st o = then (known s st o) (λ t st' d.
          let z : d.left ≡ 0 = omega (arith, all, d.sum) in
          so (did t st' (subst (λ k. IsOpenAt n k t) z d.opens)) (λ u r. record { rolls = d.joins u (subst (λ k. RollsBack DoesOf the_programs the_tell n k t u) (sym z) r.rolls); reached = r.reached }))

  -- ---- an open transaction is rolled back

  length_seen : (ks : List KeptStep) → length (kept_seen ks) ≡ length ks
  length_seen [] = refl
  length_seen (Put c owed ∷ ks) = ap suc (length_seen ks)
  length_seen (Pay d ∷ ks) = ap suc (length_seen ks)

  opened : (s : Story) (kept : ℕ) → IsReachedStory s → Some kept ≡ option_map kept_count (s.state.store.open_of n) → IsOpenAt n kept s
  opened s kept r e = by (s.state.store.open_of n) refl e
    where
      by : (o : Option Open) → s.state.store.open_of n ≡ o → Some kept ≡ option_map kept_count o → IsOpenAt n kept s
      by None is same = absurd (cc)
      by (Some o) is same = record {
        reached = r;
        txn = txn_seen (schema_of s.state.store) (s.told n) o;
        is_open = ap (option_map (txn_seen (schema_of s.state.store) (s.told n))) is;
        keeps = length_seen o.kept ∙ (let k : kept ≡ length o.kept = cc in sym k);
      }

  none_opened : (s : Story) → None ≡ option_map kept_count (s.state.store.open_of n) → (seen_of s).open_of n ≡ None
  none_opened s e = by (s.state.store.open_of n) refl e
    where
      by : (o : Option Open) → s.state.store.open_of n ≡ o → None ≡ option_map kept_count o → (seen_of s).open_of n ≡ None
      by None is same = ap (option_map (txn_seen (schema_of s.state.store) (s.told n))) is
      by (Some o) is same = absurd (cc)

  pub open_needs : {St : State → Type 0} (kept : ℕ) → StandsIn St IsReachedStory → ((s : State) → St s → Some kept ≡ option_map kept_count (s.store.open_of n)) → StandsIn St (IsOpenAt n kept)
  open_needs kept h told = record { story = h.story; stands = h.stands; holds = opened h.story kept h.holds (told h.story.state h.stands) }

  pub open_ended : {St St' : State → Type 0} (kept : ℕ) → ((s : State) → St s → Some kept ≡ option_map kept_count (s.store.open_of n)) → ((s : Story) → St s.state → IsOpenAt n kept s → StandsIn St' (RolledBack n kept s))
      → (s : Story) → St s.state → IsReachedStory s → StandsIn St' (EndedOpen n s)
  open_ended kept told did s st r =
      let o = opened s kept r (told s.state st) in
      so (did s st o) (λ t d. record {
        leaves = subst (λ x. Leaves DoesOf the_programs the_tell n idle x s t) (sym o.is_open) (rolls_back o.txn s t (subst (λ k. RollsBack DoesOf the_programs the_tell n k s t) (sym o.keeps) d.rolls));
        reached = d.reached;
      })

  pub none_ended : {St : State → Type 0} → ((s : State) → St s → None ≡ option_map kept_count (s.store.open_of n)) → (s : Story) → St s.state → IsReachedStory s → StandsIn St (EndedOpen n s)
  none_ended told s st r = record {
    story = s;
    stands = st;
    holds = record { leaves = subst (λ x. Leaves DoesOf the_programs the_tell n idle x s s) (sym (none_opened s (told s.state st))) (has_none s); reached = r };
  }

-- ---- a session leaves

module _ (slot : Slot) where
  abbrev Leaving : AtTable → Story → Story → Type 0
  Leaving seat s after = Leaves DoesOf the_programs the_tell slot.session.number seat.line (open_at seat ((seen_of s).open_of slot.session.number)) s after

  -- the mode of an idle session is in its seat
  idle_mode : IsIdle slot.session → (standing_in (todo_of slot.session)).mode ≡ (stands slot.session).mode
  idle_mode e = ap (λ l. (standing_in (left_of (stands slot.session) l)).mode) e

  open_in : Option Mode → Option Txn → Option Txn
  open_in m t = elim m [ None ↦ None | Some mode ↦ t ]

  -- one that counts as outside has nothing open
  outside_leaves : (s : Story) → slot.line ≡ Idle → FitsLine slot.line slot.session → (stands slot.session).mode ≡ None → IsReachedStory s → LeftBy slot s s
  outside_leaves s e fits none r = record {
    leaves = subst (λ l. Leaving (seat_in l (todo_of slot.session)) s s) (sym e)
        (subst (λ m. Leaves DoesOf the_programs the_tell slot.session.number idle (elim m as (λ z. Option Txn) [ None ↦ None | Some mode ↦ (seen_of s).open_of slot.session.number ]) s s)
        (sym (idle_mode (subst (λ l. FitsLine l slot.session) e fits) ∙ none)) (has_none s));
    reached = r;
  }

  inside_leaves : (s after : Story) (mode : Mode) → slot.line ≡ Idle → FitsLine slot.line slot.session → (stands slot.session).mode ≡ Some mode → EndedOpen slot.session.number s after → LeftBy slot s after
  inside_leaves s after mode e fits some d = record {
    leaves = subst (λ l. Leaving (seat_in l (todo_of slot.session)) s after) (sym e)
        (subst (λ m. Leaves DoesOf the_programs the_tell slot.session.number idle (elim m as (λ z. Option Txn) [ None ↦ None | Some mode ↦ (seen_of s).open_of slot.session.number ]) s after)
        (sym (idle_mode (subst (λ l. FitsLine l slot.session) e fits) ∙ some)) d.leaves);
    reached = d.reached;
  }

  stepping_leaves : (s after : Story) → slot.line ≡ Stepping → EndedOpen slot.session.number s after → LeftBy slot s after
  stepping_leaves s after e d = record {
    leaves = subst (λ l. Leaving (seat_in l (todo_of slot.session)) s after) (sym e) (steps_no_more (todo_of slot.session) ((seen_of s).open_of slot.session.number) s after d.leaves);
    reached = d.reached;
  }

  waiting_leaves : (s mid after : Story) → (slot.line ≡ Waiting) ⊎ (slot.line ≡ Held) → Cancelled slot.session.number s mid → EndedOpen slot.session.number mid after → LeftBy slot s after
  waiting_leaves s mid after which c d = record { leaves = by which; reached = d.reached }
    where
      rest : Leaves DoesOf the_programs the_tell slot.session.number idle ((seen_of s).open_of slot.session.number) mid after
      rest = subst (λ t. Leaves DoesOf the_programs the_tell slot.session.number idle t mid after) c.same d.leaves

      by : (slot.line ≡ Waiting) ⊎ (slot.line ≡ Held) → Leaving (seat_by slot) s after
      by (inl e) = subst (λ l. Leaving (seat_in l (todo_of slot.session)) s after) (sym e) (cancels (todo_of slot.session) ((seen_of s).open_of slot.session.number) s mid after c.said c.does rest)
      by (inr e) = subst (λ l. Leaving (seat_in l (todo_of slot.session)) s after) (sym e) (cancels_held (todo_of slot.session) ((seen_of s).open_of slot.session.number) s mid after c.said c.does rest)

  module _ (St0 : State → Type 0) where
    pub outside_told : slot.line ≡ Idle → FitsLine slot.line slot.session → (stands slot.session).mode ≡ None → (s : Story) → St0 s.state → IsReachedStory s → StandsIn St0 (LeftBy slot s)
    outside_told e fits none s st r = record { story = s; stands = st; holds = outside_leaves s e fits none r }

    module _ {St1 : State → Type 0} (did : (s : Story) → St0 s.state → IsReachedStory s → StandsIn St1 (EndedOpen slot.session.number s)) where
      pub inside_told : (mode : Mode) → slot.line ≡ Idle → FitsLine slot.line slot.session → (stands slot.session).mode ≡ Some mode → (s : Story) → St0 s.state → IsReachedStory s → StandsIn St1 (LeftBy slot s)
      inside_told mode e fits some s st r = so (did s st r) (λ t d. inside_leaves s t mode e fits some d)

      pub stepping_told : slot.line ≡ Stepping → (s : Story) → St0 s.state → IsReachedStory s → StandsIn St1 (LeftBy slot s)
      stepping_told e s st r = so (did s st r) (λ t d. stepping_leaves s t e d)

    pub waiting_told : {St1 : State → Type 0} → (slot.line ≡ Waiting) ⊎ (slot.line ≡ Held) → ((s : Story) → St0 s.state → IsReachedStory s → StandsIn St1 (LeftWaiting slot.session.number s))
        → (s : Story) → St0 s.state → IsReachedStory s → StandsIn St1 (LeftBy slot s)
    waiting_told which did s st r = so (did s st r) (λ u d. waiting_leaves s d.mid u which d.forgets d.ends)

pub then_ended : {St1 St2 : State → Type 0} (St0 : State → Type 0) (n : ℕ) → ((s : Story) → St0 s.state → IsReachedStory s → StandsIn St1 (Cancelled n s)) → ((s : Story) → St1 s.state → IsReachedStory s → StandsIn St2 (EndedOpen n s))
    → (s : Story) → St0 s.state → IsReachedStory s → StandsIn St2 (LeftWaiting n s)
then_ended St0 n first rest s st r = then (first s st r) (λ t st' c. so (rest t st' c.reached) (λ u d. record { mid = t; forgets = c; ends = d }))

pub cancel_reaches : {St0 St1 : State → Type 0} (n : ℕ) → StandsIn St0 IsReachedStory → ((s : Story) → St0 s.state → IsReachedStory s → StandsIn St1 (Cancelled n s)) → StandsIn St1 IsReachedStory
cancel_reaches n h did = then h (λ s st r. so (did s st r) (λ t c. c.reached))

module _ {St1 : State → Type 0} (St0 : State → Type 0) (n m : ℕ) (same : n ≡ m) where
  pub ended_as : ((s : Story) → St0 s.state → IsReachedStory s → StandsIn St1 (EndedOpen n s)) → (s : Story) → St0 s.state → IsReachedStory s → StandsIn St1 (EndedOpen m s)
  ended_as did = subst (λ k. (s : Story) → St0 s.state → IsReachedStory s → StandsIn St1 (EndedOpen k s)) same did

  pub waited_as : ((s : Story) → St0 s.state → IsReachedStory s → StandsIn St1 (LeftWaiting n s)) → (s : Story) → St0 s.state → IsReachedStory s → StandsIn St1 (LeftWaiting m s)
  waited_as did = subst (λ k. (s : Story) → St0 s.state → IsReachedStory s → StandsIn St1 (LeftWaiting k s)) same did

-- ---- one after another

abbrev Leave : List ℕ → List Slot → Story → Story → Type 0
Leave ns slots s after = LeaveAll DoesOf the_programs the_tell seen_of ns (table_of slots) s after

-- So many have left: what the others leave from here is what all leave from there.
pub record LeftSome (slots : List Slot) (many : ℕ) (s after : Story) : Type 0 where
  pub joins : (end : Story) → Leave (numbers (suc many) (length slots - many)) slots after end → Leave (numbers 1 (length slots)) slots s end
  pub reached : IsReachedStory after

left_one : (slots : List Slot) (many : ℕ) (slot : Slot) (s t u : Story) → many < length slots → slice_get slots many ≡ Some slot → IsSlot (many + 1) slot → LeftSome slots many s t → LeftBy slot t u → LeftSome slots (many + 1) s u
left_one slots many slot s t u below at is d one = record {
  joins = λ end more. d.joins end (subst (λ ns. Leave ns slots t end) (sym (numbers_split many (length slots) below)) (
    u,
    subst (λ (x : AtTable). Leaves DoesOf the_programs the_tell (suc many) x.line (open_at x ((seen_of t).open_of (suc many))) t u) (sym (ap seat_or_none at))
        (subst (λ n. Leaves DoesOf the_programs the_tell n (seat_by slot).line (open_at (seat_by slot) ((seen_of t).open_of n)) t u) (is.number_is ∙ (let e : many + 1 ≡ suc many = omega arith in e)) one.leaves),
    subst (λ n. Leave (numbers (suc n) (length slots - n)) slots u end) (let e : many + 1 ≡ suc many = omega arith in e) more,
  ));
  reached = one.reached;
}

module _ (St0 : State → Type 0) (slots : List Slot) where
  abbrev pub LeftKnown : (State → Type 0) → ℕ → Type 0
  LeftKnown St many = (s : Story) → St0 s.state → IsReachedStory s → StandsIn St (LeftSome slots many s)

  pub left_none : LeftKnown St0 0
  left_none s st r = record { story = s; stands = st; holds = record { joins = λ end h. subst (λ n. Leave (numbers 1 n) slots s end) (minus_none (length slots)) h; reached = r } }

  pub left_needs : {St : State → Type 0} (many : ℕ) → StandsIn St0 IsReachedStory → LeftKnown St many → StandsIn St IsReachedStory
  left_needs many h known = then h (λ s st r. so (known s st r) (λ t d. d.reached))

  pub left_more : {St St' : State → Type 0} (many : ℕ) (slot : Slot) → many < length slots → slice_get slots many ≡ Some slot → AreSlots slots → LeftKnown St many
      → ((s : Story) → St s.state → IsReachedStory s → StandsIn St' (LeftBy slot s)) → LeftKnown St' (many + 1)
  left_more many slot below at are known did s st r = then (known s st r) (λ t st' d. so (did t st' d.reached) (λ u one. left_one slots many slot s t u below at (are many slot at) d one))

  pub left_all : {St : State → Type 0} (many : ℕ) → length slots ≡ 64 → length slots ≤ many → LeftKnown St many → (s : Story) → St0 s.state → IsReachedStory s → StandsIn St (LeftAll slots s)
  left_all many count all known s st r = so (known s st r) (λ t d. subst (λ ns. Leave ns slots s t) (ap (numbers 1) count ∙ all_numbers)
      (d.joins t (subst (λ n. Leave (numbers (suc many) n) slots t t) (let e : 0 ≡ length slots - many = omega (arith, all) in e) refl)))
