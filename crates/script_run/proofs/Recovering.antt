-- What a crash recovers where lines were run.
use Rattle.std.proofs.Common.{◌≡◌, ◌≢◌, ℕ, ◌+◌, ◌≤◌, List, [], ◌∷◌, ◌++◌, take, drop, Option, Some, refl, ap, sym, subst, ◌∙◌, append_assoc, inl, inr}
use Rattle.std.specs.Prelude.{◌⊎◌}
use Rattle.std.proofs.lemmas.List.{take-append-drop}
use Rattle.iv_meaning.specs.Lines.{lines_of}
use Rattle.iv_meaning.specs.Database.{Database}
use Rattle.iv_meaning.specs.History.{Entry, fold, state_at}
use Rattle.iv_meaning.specs.Said.{Said}
use Rattle.iv_meaning.specs.Serial.{opened_with}
use Rattle.txn_machine.specs.Log.{Opening}
use Rattle.txn_machine.specs.State.{State}
use Rattle.txn_machine.specs.Store.{Store, committed}
use Rattle.txn_machine.specs.Alone.{Story}
use Rattle.script_law.specs.RunLines.{LeaveAll, all_sessions}
use Rattle.script_law.specs.Machine.{DoesOf, seen_of}
use Rattle.session_asks.specs.Askable.{the_programs}
use Rattle.txn_book.specs.Crashes as crash
use Rattle.line_wire.specs.Wire.{WroteFront}
use Rattle.line_wire.specs.Reading.{Reading}
use Rattle.session_table.specs.declared.slot.Slot.{Slot}
use Rattle.session_table.specs.Going.{the_tell, StandsIn, Leads}
use Rattle.session_table.specs.Slots.{table_of, AllGo}
use Rattle.script_run.specs.Lines.{WasOpened, HasRun}
use Rattle.script_run.specs.Recovered.{AreNext, HasEntryMore, IsAllOf, IsFrontOf, MayBeUntold, history_of, Ends, Survives}
use Rattle.script_run.specs.Writing.{Finishes}
use Rattle.script_run.specs.declared.status.Status.{Status}
use Rattle.script_run.specs.declared.status.Status.TheVariants.{Done, Usage, ReadFault, WriteFault, DiskFault, BadImage, NoMemory, TooMuch}
use Rattle.script_run.proofs.Apart.{append_none}
use Rattle.script_run.proofs.Going.{GoesOn, goes_on, leave_all_stays, has_left}
use Rattle.script_run.proofs.Ran.{beginning}
use Rattle.script_run.proofs.Serving.{Serving}

-- ---- an engine that committed these entries

-- with one entry more
entry_more : (s : Store) (origin : Database) (history : List Entry) → s.origin ≡ origin → s.history ≡ history → (db : Database) (e : Entry) → e.number ≡ (committed s).number + 1 → db ≡ fold (s.history ++ e ∷ []) s.origin
    → HasEntryMore origin history db
entry_more s origin history o h db e number is = record {
  entry = e;
  number = number ∙ (λ k. (fold (h k) (o k)).number + 1);
  is = is ∙ (λ k. fold (h k ++ e ∷ []) (o k));
}

pub front_of : (s : State) (origin : Database) (history : List Entry) → s.store.origin ≡ origin → s.store.history ≡ history → (db : Database) → crash.IsPrefix s db → IsFrontOf origin history db
front_of s origin history o h db (crash.committed_to number le is) =
    inl (number, subst (λ (x : Database). number ≤ x.number) (λ k. fold (h k) (o k)) le, is ∙ (λ k. state_at (o k) (h k) number))
front_of s origin history o h db (crash.with_one_more m) = inr (entry_more s.store origin history o h db m.entry m.number m.is)

pub all_of : (s : State) (origin : Database) (history : List Entry) → s.store.origin ≡ origin → s.store.history ≡ history → (db : Database) → crash.IsWhole s db → IsAllOf origin history db
all_of s origin history o h db (inl is) = inl (is ∙ (λ k. fold (h k) (o k)))
all_of s origin history o h db (inr m) = inr (entry_more s.store origin history o h db m.entry m.number m.is)

-- nothing was committed that was not told
none_untold : (status : Status) → MayBeUntold status []
none_untold Done = refl
none_untold Usage = refl
none_untold ReadFault = refl
none_untold WriteFault = tt
none_untold DiskFault = refl
none_untold BadImage = refl
none_untold NoMemory = tt
none_untold TooMuch = refl

-- ---- what was written

-- a front of what a run that ends had to write
pub record Wrote (result : Status) (before answers : List ℕ) (written : Option (List ℕ)) : Type 0 where
  pub out : List ℕ
  pub rest : List ℕ
  pub front : answers ≡ out ++ rest
  pub all : result ≢ WriteFault → rest ≡ []
  pub wrote : written ≡ Some (before ++ out)

pub wrote_front : (result : Status) (before out waiting : List ℕ) (written : Option (List ℕ)) → result ≡ WriteFault → WroteFront (before ++ out) waiting written → Wrote result before (out ++ waiting) written
wrote_front result before out waiting written failed f = record {
  out = out ++ take f.count waiting;
  rest = drop f.count waiting;
  front = sym (append_assoc out (take f.count waiting) (drop f.count waiting) ∙ ap (λ (xs : List ℕ). out ++ xs) (take-append-drop f.count waiting));
  all = λ other. absurd (other failed);
  wrote = f.same ∙ ap Some (append_assoc before out (take f.count waiting));
}

-- and the status with which it ends
pub ended_so : (status result : Status) (before out waiting : List ℕ) (written : Option (List ℕ)) → Finishes status result (before ++ out) waiting written → Wrote result before (out ++ waiting) written × ((result ≡ status) ⊎ (result ≡ WriteFault))
ended_so status result before out waiting written (inl f) =
    (record { out = out ++ waiting; rest = []; front = sym (append_none (out ++ waiting)); all = λ other. refl; wrote = f.1 ∙ ap Some (append_assoc before out waiting) }, inl f.0)
ended_so status result before out waiting written (inr f) = (wrote_front result before out waiting written f.0 f.1, inr f.0)

lacking : (result : Status) (untold : List Entry) → (result ≡ NoMemory) ⊎ (result ≡ WriteFault) → MayBeUntold result untold
lacking result untold (inl is) = subst (λ (r : Status). MayBeUntold r untold) (sym is) tt
lacking result untold (inr is) = subst (λ (r : Status). MayBeUntold r untold) (sym is) tt

-- ---- an engine that tells what a crash recovers

-- what it tells
pub record Tells (Stands : State → Type 0) (since : ℕ → Database → Type 0) (now : Database → Type 0) : Type 0 where
  pub prefix : (s : State) (db : Database) → Stands s → since s.opening.moment db → crash.IsPrefix s db
  pub whole : (s : State) (db : Database) → Stands s → now db → crash.IsWhole s db

-- by its laws
pub tells_so : {E : Type 0} (stands : E → State → Type 0) (since : E → ℕ → Database → Type 0) (may : E → Database → Type 0) (is_told : Type 0)
    → (is_told → (engine : E) (s : State) (db : Database) → stands engine s → since engine s.opening.moment db → crash.IsPrefix s db) → ((engine : E) (s : State) (db : Database) → stands engine s → may engine db → crash.IsWhole s db)
    → is_told → (engine : E) → Tells (stands engine) (since engine) (may engine)
tells_so stands since may is_told prefix whole told engine = record { prefix = prefix told engine; whole = whole engine }

-- what an engine has committed survives where it tells what a crash recovers
pub survives : {Stands : State → Type 0} (since : ℕ → Database → Type 0) (now : Database → Type 0) → Tells Stands since now → (db : Database) (opening : Opening) (status : Status) (input before : List ℕ) (written : Option (List ℕ))
    → StandsIn Stands (Ends db opening status input before written) → Survives db status input before written (since opening.moment) now
survives since now tells db opening status input before written i =
    let e = i.holds in
    record {
      committed = e.committed;
      since = λ d was. front_of i.story.state e.committed.world.origin (history_of e.committed) e.origin e.history d
          (tells.prefix i.story.state d i.stands (subst (λ (o : Opening). since o.moment d) (sym e.opening_is) was));
      now = λ d may. all_of i.story.state e.committed.world.origin (history_of e.committed) e.origin e.history d (tells.whole i.story.state d i.stands may);
    }

module _ (db : Database) (opening : Opening) (input before : List ℕ) (reading : Reading) (left written : Option (List ℕ)) (waiting : List ℕ) (slots : List Slot) (s : Story) (h : Serving db opening input before reading left written waiting slots s) where
  -- an engine that stands behind the lines that were answered
  ends_behind : (result : Status) (written' : Option (List ℕ)) (after : Story) (g : GoesOn s after) → MayBeUntold result g.more → Wrote result before (h.out ++ waiting) written' → Ends db opening result input before written' after
  ends_behind result written' after g may w =
      let l = has_left db h.said (h.out ++ waiting) slots s h.ran in
      record {
        committed = record {
          first = lines_of h.read;
          others = lines_of (reading.held ++ h.rest);
          split = h.apart;
          said = h.said;
          says = h.says;
          answers = h.out ++ waiting;
          world = l.world;
          left = l.left;
          out = w.out;
          rest = w.rest;
          front = w.front;
          all = w.all;
          wrote = w.wrote;
          untold = g.more;
          may = may;
          next = subst (λ (x : Database). AreNext x.number g.more) (λ k. fold (l.history k) (l.origin k)) g.next;
        };
        origin = g.origin ∙ l.origin;
        history = g.history ∙ ap (λ (x : List Entry). x ++ g.more) l.history;
        opening_is = g.opening ∙ h.opens;
      }

  -- it stands there still
  ends_still : (result : Status) (written' : Option (List ℕ)) → Wrote result before (h.out ++ waiting) written' → Ends db opening result input before written' s
  ends_still result written' w =
      ends_behind result written' s
      (record { reached = (has_left db h.said (h.out ++ waiting) slots s h.ran).reached; origin = refl; opening = refl; more = []; history = sym (append_none s.state.store.history); next = tt })
      (none_untold result) w

  -- its sessions left
  ends_left : (result : Status) (written' : Option (List ℕ)) (after : Story) → LeaveAll DoesOf the_programs the_tell seen_of all_sessions (table_of slots) s after → Wrote result before (h.out ++ waiting) written'
      → Ends db opening result input before written' after
  ends_left result written' after leaves w =
      let x = leave_all_stays all_sessions (table_of slots) s after (has_left db h.said (h.out ++ waiting) slots s h.ran).reached leaves in
      ends_behind result written' after
      (record { reached = x.reached; origin = x.origin; opening = x.opening; more = []; history = x.history ∙ sym (append_none s.state.store.history); next = tt }) (none_untold result) w

  -- a line more lacked memory for its answer
  ends_lost : (result : Status) (written' : Option (List ℕ)) (after : Story) → Leads s after → (result ≡ NoMemory) ⊎ (result ≡ WriteFault) → Wrote result before (h.out ++ waiting) written' → Ends db opening result input before written' after
  ends_lost result written' after leads lacks w =
      let g = goes_on s after (has_left db h.said (h.out ++ waiting) slots s h.ran).reached leads in
      ends_behind result written' after g (lacking result g.more lacks) w

-- ---- the ends of a run

ended_with : (status result : Status) (before out waiting waiting' : List ℕ) (written' : Option (List ℕ)) → Finishes status result (before ++ out) waiting' written' → waiting' ≡ waiting
    → Wrote result before (out ++ waiting) written' × ((result ≡ status) ⊎ (result ≡ WriteFault))
ended_with status result before out waiting waiting' written' finishes is = ended_so status result before out waiting written' (subst (λ (xs : List ℕ). Finishes status result (before ++ out) xs written') is finishes)

module _ {Before : State → Type 0} (db : Database) (opening : Opening) (input before : List ℕ) (reading : Reading) (left written : Option (List ℕ)) (waiting : List ℕ) (slots : List Slot)
    (i : StandsIn Before (Serving db opening input before reading left written waiting slots)) where
  -- the sink failed
  pub at_fault : (written' : Option (List ℕ)) → ((out : List ℕ) → written ≡ Some (before ++ out) → WroteFront (before ++ out) waiting written') → StandsIn Before (Ends db opening WriteFault input before written')
  at_fault written' wrote = record {
    story = i.story;
    stands = i.stands;
    holds = ends_still db opening input before reading left written waiting slots i.story i.holds WriteFault written' (wrote_front WriteFault before i.holds.out waiting written' refl (wrote i.holds.out i.holds.wrote));
  }

  -- what waits is written
  pub at_end : (status result : Status) (written' : Option (List ℕ)) (waiting' : List ℕ) → ((out : List ℕ) → written ≡ Some (before ++ out) → Finishes status result (before ++ out) waiting' written') → waiting' ≡ waiting
      → StandsIn Before (Ends db opening result input before written')
  at_end status result written' waiting' finishes is = record {
    story = i.story;
    stands = i.stands;
    holds = ends_still db opening input before reading left written waiting slots i.story i.holds result written' (ended_with status result before i.holds.out waiting waiting' written' (finishes i.holds.out i.holds.wrote) is).0;
  }

  -- and the sessions left before
  pub at_leave : {Stands : State → Type 0} (status result : Status) (written' : Option (List ℕ)) (waiting' : List ℕ)
      → ((s : Story) → Before s.state → AllGo slots s → StandsIn Stands (LeaveAll DoesOf the_programs the_tell seen_of all_sessions (table_of slots) s))
      → ((out : List ℕ) → written ≡ Some (before ++ out) → Finishes status result (before ++ out) waiting' written') → waiting' ≡ waiting → StandsIn Stands (Ends db opening result input before written')
  at_leave status result written' waiting' leaves finishes is =
      let x = leaves i.story i.stands i.holds.ran.go in
      record {
        story = x.story;
        stands = x.stands;
        holds = ends_left db opening input before reading left written waiting slots i.story i.holds result written' x.story x.holds (ended_with status result before i.holds.out waiting waiting' written' (finishes i.holds.out i.holds.wrote) is).0;
      }

  -- a line lacked memory for its answer
  pub at_loss : {Stands : State → Type 0} (result : Status) (written' : Option (List ℕ)) (waiting' : List ℕ)
      → ((s : Story) (lines : List Said) (out : List ℕ) → Before s.state → HasRun db lines out slots s → StandsIn Stands (Leads s))
      → ((out : List ℕ) → written ≡ Some (before ++ out) → Finishes NoMemory result (before ++ out) waiting' written') → waiting' ≡ waiting → StandsIn Stands (Ends db opening result input before written')
  at_loss result written' waiting' lost finishes is =
      let w = ended_with NoMemory result before i.holds.out waiting waiting' written' (finishes i.holds.out i.holds.wrote) is in
      let x = lost i.story i.holds.said (i.holds.out ++ waiting) i.stands i.holds.ran in
      record {
        story = x.story;
        stands = x.stands;
        holds = ends_lost db opening input before reading left written waiting slots i.story i.holds result written' x.story x.holds w.1 w.0;
      }

-- before any line is read
pub at_start : {Stands : State → Type 0} (o : WasOpened Stands) (input before : List ℕ) (written : Option (List ℕ)) → written ≡ Some before → StandsIn Stands (Ends o.db o.opening NoMemory input before written)
at_start o input before written w = record {
  story = beginning o;
  stands = o.stands;
  holds = record {
    committed = record {
      first = [];
      others = lines_of input;
      split = refl;
      said = [];
      says = tt;
      answers = [];
      world = opened_with o.db;
      left = (refl, refl);
      out = [];
      rest = [];
      front = refl;
      all = λ other. refl;
      wrote = w ∙ ap Some (sym (append_none before));
      untold = [];
      may = tt;
      next = tt;
    };
    origin = refl;
    history = refl;
    opening_is = refl;
  };
}
