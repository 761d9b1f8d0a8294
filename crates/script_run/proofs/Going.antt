-- What steps of an engine keep, and what lines leave.
use Rattle.std.proofs.Common.{◌≡◌, ℕ, ◌+◌, List, [], ◌∷◌, ◌++◌, length, refl, ap, sym, subst, ◌∙◌, append_assoc, inl, inr}
use Rattle.std.specs.Prelude.{◌⊎◌, Option, None}
use Rattle.iv_meaning.specs.Database.{Database}
use Rattle.iv_meaning.specs.History.{Entry, fold}
use Rattle.iv_meaning.specs.Said.{Said}
use Rattle.iv_meaning.specs.Serial.{World, opened_with}
use Rattle.txn_machine.specs.Acts as act
use Rattle.txn_machine.specs.Acts.{Act}
use Rattle.txn_machine.specs.Answers as answer
use Rattle.txn_machine.specs.Answers.{Answer}
use Rattle.txn_machine.specs.State.{State, opened_state}
use Rattle.txn_machine.specs.Store as store
use Rattle.txn_machine.specs.Alone.{Story, begun_story}
use Rattle.txn_machine.specs.Laws.{IsReachedStory}
use Rattle.txn_machine.proofs.Entered.{fold_push}
use Rattle.txn_machine.proofs.Lengths.{entry_law}
use Rattle.script_law.specs.Seen.{Txn, Visible, event, history_after}
use Rattle.script_law.specs.Laws.{IsNew}
use Rattle.script_law.specs.Machine.{DoesOf, seen_of, IsStopped}
use Rattle.script_law.specs.RunLines.{Line, Table, RollsBack, ends_it, takes_back, stops_ending, stops_taking, Leaves, cancels, cancels_held, steps_no_more, has_none, rolls_back, LeaveAll, new_table, all_sessions}
use Rattle.script_law.proofs.Agreeing.{Agrees}
use Rattle.script_law.proofs.OverMachine.{machine_laws}
use Rattle.script_law.proofs.Right.{programs_law}
use Rattle.script_law.proofs.Running.{one_line, begun_agrees}
use Rattle.session_asks.specs.Askable.{the_programs}
use Rattle.statement_law.specs.Statements.{the_works}
use Rattle.statement_law.proofs.Telling.{told_engines}
use Rattle.statement_law.proofs.Works.{works_law}
use Rattle.session_table.specs.declared.slot.Slot.{Slot}
use Rattle.session_table.specs.Going.{the_tell, Leads, no_step, one_step}
use Rattle.session_table.specs.Slots.{table_of}
use Rattle.script_run.specs.Lines.{HasRun}
use Rattle.script_run.specs.Recovered.{LeaveWorld, AreNext}
use Rattle.script_run.proofs.Apart.{append_none}
use Rattle.script_run.proofs.Ran.{Runs}

-- ---- steps

-- what an engine has committed behind a story
pub record GoesOn (s after : Story) : Type 0 where
  pub reached : IsReachedStory after
  pub origin : after.state.store.origin ≡ s.state.store.origin
  pub opening : after.state.opening ≡ s.state.opening
  pub more : List Entry
  pub history : after.state.store.history ≡ s.state.store.history ++ more
  pub next : AreNext (store.committed s.state.store).number more

same_opening : (s after : Story) (i : ℕ) (a : Act) (said : Answer) → DoesOf s i a said after → after.state.opening ≡ s.state.opening
same_opening s after i a said d =
    ap (λ (x : Story). x.state.opening) d.2 ∙ elim d.1.does [ inl x ↦ ap (λ (z : State). z.opening) x.left | inr x ↦ ap (λ (z : State). z.opening) x.left ]

same_origin : (s after : Story) (i : ℕ) (a : Act) (said : Answer) → IsReachedStory s → DoesOf s i a said after → after.state.store.origin ≡ s.state.store.origin
same_origin s after i a said r d = ap (λ (v : Visible). v.origin) (machine_laws.moves s after i a said r d)

pub goes_on : (s after : Story) → IsReachedStory s → Leads s after → GoesOn s after
goes_on _ _ r (no_step s) = record { reached = r; origin = refl; opening = refl; more = []; history = sym (append_none s.state.store.history); next = tt }
goes_on _ _ r (one_step s mid after i a said d leads) = by (goes_on mid after (machine_laws.stands s mid i a said r d) leads) (entry_law s.state (record { session = i; act = a; said = said }) d.0 d.1)
  where
    origin_is : mid.state.store.origin ≡ s.state.store.origin
    origin_is = same_origin s mid i a said r d

    history_is : mid.state.store.history ≡ d.0.store.history
    history_is = ap (λ (x : Story). x.state.store.history) d.2

    by : GoesOn mid after → (d.0.store.history ≡ s.state.store.history) ⊎ ((e : Entry) × (e.session ≡ i) × (e.number ≡ (store.committed s.state.store).number + 1) × (d.0.store.history ≡ s.state.store.history ++ e ∷ [])) → GoesOn s after
    by g (inl same) = record {
      reached = g.reached;
      origin = g.origin ∙ origin_is;
      opening = g.opening ∙ same_opening s mid i a said d;
      more = g.more;
      history = g.history ∙ ap (λ (h : List Entry). h ++ g.more) (history_is ∙ same);
      next = subst (λ (n : ℕ). AreNext n g.more) (λ k. (fold ((history_is ∙ same) k) (origin_is k)).number) g.next;
    }
    by g (inr (e, session, number, more)) = record {
      reached = g.reached;
      origin = g.origin ∙ origin_is;
      opening = g.opening ∙ same_opening s mid i a said d;
      more = e ∷ g.more;
      history = g.history ∙ ap (λ (h : List Entry). h ++ g.more) (history_is ∙ more) ∙ append_assoc s.state.store.history (e ∷ []) g.more;
      next = (
        number,
        subst (λ (n : ℕ). AreNext n g.more)
            ((λ k. (fold ((history_is ∙ more) k) (origin_is k)).number) ∙ ap (λ (x : Database). x.number) (fold_push s.state.store.history e s.state.store.origin) ∙ number) g.next,
      );
    }

-- ---- the end of the input

-- nothing more is committed
pub record Stays (s after : Story) : Type 0 where
  pub reached : IsReachedStory after
  pub origin : after.state.store.origin ≡ s.state.store.origin
  pub opening : after.state.opening ≡ s.state.opening
  pub history : after.state.store.history ≡ s.state.store.history

no_more : (s : Story) → IsReachedStory s → Stays s s
no_more s r = record { reached = r; origin = refl; opening = refl; history = refl }

step_stays : (n : ℕ) (a : Act) (said : Answer) (s mid after : Story) → IsReachedStory s → DoesOf s n a said mid → history_after (seen_of s) n (event a said) ≡ s.state.store.history
    → (IsReachedStory mid → Stays mid after) → Stays s after
step_stays n a said s mid after r d none later =
    let x = later (machine_laws.stands s mid n a said r d) in
    record {
      reached = x.reached;
      origin = x.origin ∙ same_origin s mid n a said r d;
      opening = x.opening ∙ same_opening s mid n a said d;
      history = x.history ∙ ap (λ (v : Visible). v.history) (machine_laws.moves s mid n a said r d) ∙ none;
    }

cancel_none : (s : Story) (n : ℕ) (said : Answer) → history_after (seen_of s) n (event act.Cancel said) ≡ s.state.store.history
cancel_none s n (answer.Refused why) = refl
cancel_none s n answer.Cancelled = refl
cancel_none s n _ = refl

rolls_stay : (n kept : ℕ) (s after : Story) → IsReachedStory s → RollsBack DoesOf the_programs the_tell n kept s after → Stays s after
rolls_stay n _ _ _ r (ends_it s after d) = step_stays n act.End answer.Ended s after after r d refl (no_more after)
rolls_stay n _ _ _ r (takes_back kept left s mid after d more) = step_stays n act.UndoOne (answer.Undone left) s mid after r d refl (λ m. rolls_stay n kept mid after m more)
rolls_stay n _ _ _ r (stops_ending s after why stop d) = step_stays n act.End (answer.Refused why) s after after r d refl (no_more after)
rolls_stay n _ _ _ r (stops_taking kept s after why stop d) = step_stays n act.UndoOne (answer.Refused why) s after after r d refl (no_more after)

leave_stays : (n : ℕ) (line : Line) (t : Option Txn) (s after : Story) → IsReachedStory s → Leaves DoesOf the_programs the_tell n line t s after → Stays s after
leave_stays n _ _ _ _ r (cancels todo t s mid after said d more) = step_stays n act.Cancel said s mid after r d (cancel_none s n said) (λ m. leave_stays n _ t mid after m more)
leave_stays n _ _ _ _ r (cancels_held todo t s mid after said d more) = step_stays n act.Cancel said s mid after r d (cancel_none s n said) (λ m. leave_stays n _ t mid after m more)
leave_stays n _ _ _ _ r (steps_no_more todo t s after more) = leave_stays n _ t s after r more
leave_stays n _ _ _ _ r (has_none s) = no_more s r
leave_stays n _ _ _ _ r (rolls_back t s after more) = rolls_stay n (length t.kept) s after r more

pub leave_all_stays : (ns : List ℕ) (table : Table) (s after : Story) → IsReachedStory s → LeaveAll DoesOf the_programs the_tell seen_of ns table s after → Stays s after
leave_all_stays [] table s after r e = subst (Stays s) (sym e) (no_more s r)
leave_all_stays (n ∷ ns) table s after r (mid, one, more) =
    let x = leave_stays n _ _ s mid r one in
    let y = leave_all_stays ns table mid after x.reached more in
    record { reached = y.reached; origin = y.origin ∙ x.origin; opening = y.opening ∙ x.opening; history = y.history ∙ x.history }

-- ---- lines

-- the world that lines left has what the engine has committed
pub record HasLeft (db : Database) (lines : List Said) (out : List ℕ) (s : Story) : Type 0 where
  pub reached : IsReachedStory s
  pub world : World
  pub left : LeaveWorld (opened_with db) lines out world
  pub origin : s.state.store.origin ≡ world.origin
  pub history : s.state.store.history ≡ world.history

-- the worlds of lines, one after another
lines_leave : (lines : List Said) (w : World) (table : Table) (s : Story) (out : List ℕ) (table' : Table) (s' : Story) → IsReachedStory s → Agrees w table (seen_of s) (IsStopped s) → Runs lines table s out table' s'
    → IsReachedStory s' × ((last : World) × LeaveWorld w lines out last × (s'.state.store.origin ≡ last.origin) × (s'.state.store.history ≡ last.history))
lines_leave [] w table s out table' s' r a runs =
    (subst IsReachedStory (sym runs.2) r, (w, (runs.0, refl), ap (λ (x : Story). x.state.store.origin) runs.2 ∙ sym a.origin, ap (λ (x : Story). x.state.store.history) runs.2 ∙ sym a.history))
lines_leave (said ∷ more) w table s out table' s' r a (piece, mid_table, mid, rest, one, is, others) =
    let x = one_line seen_of DoesOf IsReachedStory IsStopped machine_laws the_programs (programs_law the_works works_law) the_tell (λ why. (told_engines [] None why).0) all_sessions said w table s piece mid_table mid r a one in
    let y = lines_leave more x.1.0 mid_table mid rest table' s' x.0 x.1.2 others in
    (y.0, (y.1.0, (piece, x.1.0, rest, x.1.1, is, y.1.1), y.1.2, y.1.3))

pub has_left : (db : Database) (lines : List Said) (out : List ℕ) (slots : List Slot) (s : Story) → HasRun db lines out slots s → HasLeft db lines out s
has_left db lines out slots s h =
    let begun : Story = begun_story (opened_state h.opening (store.opened db h.stored)) in
    let reached : IsReachedStory begun = record { db = db; view = h.stored; opening = h.opening; was_opened = h.is_opened; steps = []; tells = refl } in
    let new : IsNew db (seen_of begun) = record { origin_is = refl; none_committed = refl; none_open = λ session. refl } in
    let x = lines_leave lines (opened_with db) new_table begun out (table_of slots) s reached (begun_agrees seen_of IsStopped db begun new) h.runs in
    record { reached = x.0; world = x.1.0; left = x.1.1; origin = x.1.2; history = x.1.3 }
