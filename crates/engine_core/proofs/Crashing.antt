-- What a crash at any moment of a step recovers.
use Rattle.std.specs.Prelude.{IsSome}
use Rattle.std.proofs.Common.{◌≡◌, ◌⊎◌, inl, inr, ⊎_elim, ℕ, ◌+◌, ◌≤◌, List, [], ◌∷◌, ◌++◌, None, refl, sym, ◌∙◌, ap, subst, arith}
use Rattle.iv_types.specs.Faults.{Rose}
use Rattle.iv_meaning.specs.Database.{Database}
use Rattle.iv_meaning.specs.History.{Entry, fold, state_at}
use Rattle.txn_machine.specs.Acts as act
use Rattle.txn_machine.specs.Acts.{Act}
use Rattle.txn_machine.specs.Answers as answer
use Rattle.txn_machine.specs.Answers.{Answer}
use Rattle.txn_machine.specs.Ghosts.{the_views}
use Rattle.txn_machine.specs.Laws.{IsReached}
use Rattle.txn_machine.specs.Log.{Opening}
use Rattle.txn_machine.specs.May.{May}
use Rattle.txn_machine.specs.State.{State, counted}
use Rattle.txn_machine.specs.Steps.{Says, waits_after, definitions_after, log_after}
use Rattle.txn_machine.specs.Store.{Store, Effect, committed, run}
use Rattle.txn_machine.proofs.Lengths.{entry_law}
use Rattle.txn_machine.proofs.Moving.{state_now}
use Rattle.txn_machine.proofs.Reached.{reached}
use Rattle.txn_machine.proofs.Stepping.{some_not_none}
use Rattle.txn_machine.proofs.Telling.{state_at_push}
use Rattle.txn_log.specs.Replay.{Pages}
use Rattle.txn_log.proofs.Living.{origin_all, fold_both}
use Rattle.txn_book.specs.Crashes.{HasOneMore, IsWhole, IsPrefix, committed_to, with_one_more}
use Rattle.core_journal.specs.Records.{Records, Saved, with_saved, flushed_all, GivesTo}
use Rattle.core_journal.specs.Cuts.{Cut, cut_of, MayHave}
use Rattle.log_journal.specs.Cuts.{IsBorne, Medium, medium_of, Leaves}
use Rattle.log_journal.specs.Standing.{disk_of}
use Rattle.log_journal.specs.declared.journal.LogJournal.{LogJournal}
use Rattle.core_recording.specs.Giving.{LeavesOne}
use Rattle.record_worlds.specs.Pages.{HoldsPages}
use Rattle.record_worlds.specs.Tied.{TiesTo, Recovers}
use Rattle.engine_core.specs.Crashes.{IsUpTo, IsLeft, IsLast}

-- ---- prefixes of what was committed

-- what is committed is the database at its number
at_number : (s : State) → IsReached s → state_at s.store.origin s.store.history (committed s.store).number ≡ committed s.store
at_number s r = state_now s.store.origin s.store.history (reached s r).history

pub up_to_now : (s : State) → IsReached s → IsUpTo s (committed s.store)
up_to_now s r = ((committed s.store).number, omega arith, sym (at_number s r))

is_prefix : (s : State) (db : Database) → IsUpTo s db → IsPrefix s db
is_prefix s db up = committed_to up.0 up.1 up.2

pub prefix_now : (s : State) → IsReached s → IsPrefix s (committed s.store)
prefix_now s r = is_prefix s (committed s.store) (up_to_now s r)

-- a step enters one entry at most
pub record Enters (s t : Store) : Type 0 where
  pub origin : t.origin ≡ s.origin
  pub history : (t.history ≡ s.history) ⊎ ((e : Entry) × (e.number ≡ (committed s).number + 1) × (t.history ≡ s.history ++ e ∷ []))

pub enters : (s : State) (i : ℕ) (a : Act) (said : Answer) (es : List Effect) → May s i a → s.stop ≡ None → Says s i a said es → Enters s.store (run the_views s.store i es)
enters s i a said es may runs says = record {
  origin = origin_all s.store i es;
  history = elim (entry_law s (record { session = i; act = a; said = said }) after (record { may = may; does = inl (record { runs = runs; effects = es; says = says; left = refl }) })) [
    | inl same ↦ inl same
    | inr more ↦ inr (more.0, more.2, more.3)
  ];
}
  where
    after : State
    after = counted s i a said (run the_views s.store i es) (waits_after s.store i a said) (definitions_after s.definitions a said) (log_after s i a said es)

-- the number after it
number_more : (s t : Store) → t.origin ≡ s.origin → (e : Entry) → t.history ≡ s.history ++ e ∷ [] → (committed t).number ≡ e.number
number_more s t origin e history = (λ x. (fold (history x) (origin x)).number) ∙ ap (λ (db : Database). db.number) (fold_both s.history (e ∷ []) s.origin)

number_same : (s t : Store) → t.origin ≡ s.origin → t.history ≡ s.history → (committed t).number ≡ (committed s).number
number_same s t origin history = λ x. (fold (history x) (origin x)).number

same_more : (s after : State) → after.store ≡ s.store → after.stop ≡ s.stop → (db : Database) → HasOneMore s db → HasOneMore after db
same_more s after store stop db h = record {
  stopped = subst IsSome (sym stop) h.stopped;
  entry = h.entry;
  number = h.number ∙ (λ x. (committed (sym store x)).number + 1);
  is = h.is ∙ (λ x. fold ((sym store x).history ++ h.entry ∷ []) (sym store x).origin);
}

stopped_with : (s after : State) (t : Store) → after.store ≡ s.store → IsSome after.stop → t.origin ≡ s.store.origin → (db : Database) → db ≡ committed t
    → (e : Entry) → e.number ≡ (committed s.store).number + 1 → t.history ≡ s.store.history ++ e ∷ [] → HasOneMore after db
stopped_with s after t store some origin db is e number history = record {
  stopped = some;
  entry = e;
  number = number ∙ (λ x. (committed (sym store x)).number + 1);
  is = is ∙ ((λ x. fold (history x) (origin x)) ∙ (λ x. fold ((sym store x).history ++ e ∷ []) (sym store x).origin));
}

-- a prefix stays one
pub up_to_grows : (s after : State) → Enters s.store after.store → (db : Database) → IsUpTo s db → IsUpTo after db
up_to_grows s after h db (n, le, is) = elim h.history [
  | inl same ↦
      (n, let number = number_same s.store after.store h.origin same in omega (arith, number, le), is ∙ (λ x. state_at (sym h.origin x) (sym same x) n))
  | inr more ↦
      let number = number_more s.store after.store h.origin more.0 more.2 in
      let next = more.1 in
      (n, omega (arith, number, next, le), is ∙ (sym (state_at_push s.store.origin s.store.history more.0 n (omega (arith, next, le))) ∙ (λ x. state_at (sym h.origin x) (sym more.2 x) n)))
]

pub prefix_grows : (s after : State) → s.stop ≡ None → Enters s.store after.store → (db : Database) → IsPrefix s db → IsPrefix after db
prefix_grows s after runs h db (committed_to n le is) = is_prefix after db (up_to_grows s after h db (n, le, is))
prefix_grows s after runs h db (with_one_more more) = absurd (some_not_none s.stop more.stopped runs)

pub up_to_same : (s after : State) → after.store ≡ s.store → (db : Database) → IsUpTo s db → IsUpTo after db
up_to_same s after store db (n, le, is) =
    (n, subst (λ (x : Store). n ≤ (committed x).number) (sym store) le, subst (λ (x : Store). db ≡ state_at x.origin x.history n) (sym store) is)

pub prefix_same : (s after : State) → after.store ≡ s.store → after.stop ≡ s.stop → (db : Database) → IsPrefix s db → IsPrefix after db
prefix_same s after store stop db (committed_to n le is) = is_prefix after db (up_to_same s after store db (n, le, is))
prefix_same s after store stop db (with_one_more more) = with_one_more (same_more s after store stop db more)

-- and what a step was committing that stopped the engine is one
pub prefix_stopped : (s after : State) (t : Store) → IsReached s → after.store ≡ s.store → IsSome after.stop → Enters s.store t → (db : Database) → db ≡ committed t → IsPrefix after db
prefix_stopped s after t r store some h db is = elim h.history [
  | inl same ↦
      committed_to (committed s.store).number (subst (λ (x : Store). (committed s.store).number ≤ (committed x).number) (sym store) (omega arith))
      (is ∙ ((λ x. fold (same x) (h.origin x)) ∙ (sym (at_number s r) ∙ (λ x. state_at (sym store x).origin (sym store x).history (committed s.store).number))))
  | inr more ↦
      with_one_more (stopped_with s after t store some h.origin db is more.0 more.1 more.2)
]

pub all_stopped : (s after : State) (t : Store) → after.store ≡ s.store → IsSome after.stop → Enters s.store t → (db : Database) → db ≡ committed t → IsWhole after db
all_stopped s after t store some h db is = elim h.history [
  | inl same ↦ inl (is ∙ ((λ x. fold (same x) (h.origin x)) ∙ ap committed (sym store)))
  | inr more ↦ inr (stopped_with s after t store some h.origin db is more.0 more.1 more.2)
]

pub all_same : (s after : State) → after.store ≡ s.store → after.stop ≡ s.stop → (db : Database) → IsWhole s db → IsWhole after db
all_same s after store stop db (inl is) = inl (is ∙ ap committed (sym store))
all_same s after store stop db (inr h) = inr (same_more s after store stop db h)

-- one that runs has all of it
pub all_running : (s after : State) → s.stop ≡ None → after.store ≡ s.store → (db : Database) → IsWhole s db → IsWhole after db
all_running s after runs store db (inl is) = inl (is ∙ ap committed (sym store))
all_running s after runs store db (inr h) = absurd (some_not_none s.stop h.stopped runs)

-- ---- what is left

pub last_after : (p : Pages) (s after : State) (count now : ℕ) (c : List ℕ) → after.opening ≡ s.opening → after.store ≡ s.store → (Rose s.opening.faults count → Rose after.opening.faults now) → ((db : Database) → IsWhole s db → IsWhole after db)
    → IsLast p s count c → IsLast p after now c
last_after p s after count now c same store rise more l = record {
  cut = l.cut;
  borne = l.borne;
  db = l.db;
  recovers = subst (λ (o : Opening). Recovers HoldsPages p o l.cut l.db) (sym same) l.recovers;
  all = more l.db l.all;
  exact = ⊎_elim (λ is. inl (is ∙ ap committed (sym store))) (λ rose. inr (rise rose)) l.exact;
}

pub left_after : (p : Pages) (s after : State) (count now : ℕ) (c : List ℕ) → after.opening ≡ s.opening → (Rose s.opening.faults count → Rose after.opening.faults now) → ((db : Database) → IsUpTo s db → IsUpTo after db)
    → ((db : Database) → IsPrefix s db → IsPrefix after db) → IsLeft p s count c → IsLeft p after now c
left_after p s after count now c same rise up more l = record {
  cut = l.cut;
  borne = l.borne;
  db = l.db;
  recovers = subst (λ (o : Opening). Recovers HoldsPages p o l.cut l.db) (sym same) l.recovers;
  prefix = more l.db l.prefix;
  exact = ⊎_elim (λ is. inl (up l.db is)) (λ rose. inr (rise rose)) l.exact;
}

-- ---- what a step gives

module _ {J X : Type 0} (has : J → Records → Type 0) (medium : J → X) (leaves : X → X → Cut → Cut → Type 0) (old journal : J) (before : Cut) (Saves Also : Saved → Type 0) where
  abbrev Gives : Records → Type 0
  Gives xs = has journal xs × LeavesOne medium leaves old journal before (cut_of xs)

  -- the records of the journal, behind what was saved
  pub record Given (Ties : Records → Type 0) (rs : Records) : Type 0 where
    pub records : Records
    pub has_them : has journal records
    pub left : LeavesOne medium leaves old journal before (cut_of records)
    pub ties : Ties records
    pub used : records.used ≡ rs.used
    pub saves : records.saves ≡ rs.saves
    pub image_limit : records.image_limit ≡ rs.image_limit

  pub given : (a : Act) (said : Answer) (Ties : Records → Type 0) (rs : Records) → GivesTo Gives Saves a said rs → ((saved : Saved) → Saves saved → Also saved) → TiesTo HoldsPages Ties Also a said rs → Given Ties rs
  given act.Checkpoint (answer.Saved number) Ties rs h more ties =
      record { records = with_saved h.0 rs; has_them = h.2.0; left = h.2.1; ties = ties h.0 (more h.0 h.1); used = refl; saves = refl; image_limit = refl }
  given a said Ties rs h more ties = record { records = rs; has_them = h.0; left = h.1; ties = ties; used = refl; saves = refl; image_limit = refl }

  -- or what its medium may have where that failed
  pub record GivenUp (a : Act) (rs : Records) : Type 0 where
    pub cut : Cut
    pub left : LeavesOne medium leaves old journal before cut
    pub is : MayHave (λ y. cut ≡ y) Also a rs

  pub given_up : (a : Act) (rs : Records) → MayHave (LeavesOne medium leaves old journal before) Saves a rs → ((saved : Saved) → Saves saved → Also saved) → GivenUp a rs
  given_up act.Checkpoint rs h more = record { cut = record { saved = h.0; records = [] }; left = h.2; is = (h.0, more h.0 h.1, refl) }
  given_up a rs h more = record { cut = cut_of (flushed_all rs); left = h; is = refl }

-- ---- time goes on

module _ {D : Type 0} (is_told : Type 0) (moment : D → ℕ) (left_since : D → ℕ → List ℕ → Type 0) where
  -- since a moment before, a crash left what it left before, or one of two cuts
  pub record Passes (old new : LogJournal D) (x y : Cut) : Type 0 where
    pub later : moment (disk_of old) ≤ moment (disk_of new)
    pub before : (t : ℕ) (c : List ℕ) → t ≤ moment (disk_of old) → left_since (disk_of new) t c → left_since (disk_of old) t c ⊎ (IsBorne c x ⊎ IsBorne c y)

  pub passes : (old new : LogJournal D) (x y : Cut) → is_told → LeavesOne medium_of (Leaves is_told moment left_since) old new x y → Passes old new x y
  passes old new x y told (inl same) =
      let disk : disk_of new ≡ disk_of old = ap (λ (m : Medium D). m.disk) same in record {
        later = let e = ap moment disk in omega (arith, e);
        before = λ t c le left. inl (subst (λ (d : D). left_since d t c) disk left);
      }
  passes old new x y told (inr leaves) = let l = leaves told in record { later = l.later; before = l.before }
