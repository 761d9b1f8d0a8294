-- What a work asks the machine for may be asked for.
use Rattle.std.specs.Prelude.{◌≡◌, ℕ, true, List, [], ◌∷◌, ◌++◌, Option, Some, None}
use Rattle.std.specs.List.{AllByRecursion}
use mathlib.Core.Path.{refl, sym, ap, subst, ◌∙◌}
use Rattle.std.proofs.lemmas.List.Elements.{All-contains, All-from_recursion, recursion_from_All}
use Rattle.std.specs.FinMap.{get}
use Rattle.iv_types.specs.declared.statement.Mode.{Mode}
use Rattle.iv_types.specs.declared.statement.Mode.TheVariants.{Serial, Snapshot}
use Rattle.iv_types.specs.declared.value.Interval.{Interval}
use Rattle.iv_types.specs.declared.lock.LockMode.TheVariants.{Exclusive}
use Rattle.iv_types.specs.declared.lock.Want.{Want}
use Rattle.iv_types.specs.Syntax.{StatementTree}
use Rattle.table_laws.specs.Place.{Place}
use Rattle.table_laws.specs.Kept.{redo}
use Rattle.iv_meaning.specs.Schema.{Schema, numbered}
use Rattle.iv_meaning.specs.Database.{Row, Rows, Database}
use Rattle.iv_meaning.specs.View.{read}
use Rattle.iv_meaning.specs.History.{state_at}
use Rattle.iv_meaning.specs.Transaction.{refused_inside}
use Rattle.txn_machine.specs.Acts as act
use Rattle.txn_machine.specs.Acts.{Act}
use Rattle.txn_machine.specs.Deltas.{RowChange}
use Rattle.txn_machine.specs.Entries.{AgreeAt}
use Rattle.txn_machine.specs.Fresh.{fresh}
use Rattle.txn_machine.specs.Ghosts.{Holds, MayReadIn, the_views}
use Rattle.txn_machine.specs.Ghosts as ghosts
use Rattle.txn_machine.specs.Keeping.{Open}
use Rattle.txn_machine.specs.Store.{Store, committed, schema_of, changes_by, locks_of}
use Rattle.txn_machine.specs.May.{MayPeek, IsOpen}
use Rattle.txn_machine.specs.ViewLaws.{AreSound}
use Rattle.txn_machine.specs.Alone.{Fact, Found, WasThere, TookBack, Story, IsTrueIn, with_changes}
use Rattle.txn_machine.specs.Laws.{IsReachedStory}
use Rattle.txn_machine.proofs.Entered.{AreProper, sound_redo}
use Rattle.txn_machine.proofs.Agreeing.{agree_first}
use Rattle.txn_machine.proofs.Good.{the_open, read_at}
use Rattle.txn_machine.proofs.Looking.{view_laws}
use Rattle.txn_machine.proofs.Telling.{NoteGood, NoteFor, NoteOf}
use Rattle.query_laws.proofs.Each.{each_to}
use Rattle.txn_machine.proofs.Stories.{story_reached}
use Rattle.txn_machine.proofs.OwnRows.{told_law}
use Rattle.txn_machine.proofs.Peeking.{snapshot_readable_law}
use Rattle.script_law.proofs.OverMachine.{reached_of}
use Rattle.script_law.specs.Machine.{IsFitting}
use Rattle.script_law.specs.Works.{Work, done, refuses, fetches, puts, is_work}
use Rattle.script_law.proofs.Changing.{with_more, redo_append}
use Rattle.script_law.proofs.Asking.{may_law}
use Rattle.statement_law.specs.Fitting.{IsLocked, EachFits, next_step, Leads, begins, finds, sets}
use Rattle.statement_law.specs.Statements.{statement_work}
use Rattle.statement_law.specs.Laws.{AskedLaw}
use Rattle.statement_law.proofs.Each.{each_parts}
use Rattle.statement_law.proofs.Works.{fits_law}

-- ---- where a work is led by what is so

-- what was told is so, and of each interval that was read this holds
abbrev IsGood : Database → (ℕ → Interval → Type 0) → Fact → Type 0
IsGood base May (Found index interval rows kept) = May index interval × IsTrueIn base (Found index interval rows kept)
IsGood base May t = IsTrueIn base t

-- it stands so: it locked intervals of which this holds, and its steps fit
record StandsSo (mode : Mode) (db : Database) (May : ℕ → Interval → Type 0) (work : Work) (cs : List RowChange) : Type 0 where
  locks : List Want
  may : AllByRecursion (λ (w : Want). May w.index w.interval) locks
  fits : EachFits mode db work locks cs

module _ (mode : Mode) (base : Database) (earlier : List RowChange) (May : ℕ → Interval → Type 0) (begun : Work) (fits : EachFits mode (with_changes earlier base) begun [] []) where
  led : (told : List Fact) (cs : List RowChange) (work : Work) → Leads earlier begun told cs work → AllByRecursion (IsGood base May) told → StandsSo mode (with_changes earlier base) May work cs
  led _ _ _ begins h = record { locks = []; may = tt; fits = fits }
  led _ _ _ (finds told cs index interval lock f rows l) h =
      let s = led told cs (fetches index interval lock f) l h.1 in
      record {
        locks = record { index = index; interval = interval; mode = lock } ∷ s.locks;
        may = (h.0.0, s.may);
        fits = subst (λ (found : List Row). EachFits mode (with_changes earlier base) (f found) (record { index = index; interval = interval; mode = lock } ∷ s.locks) cs)
            (ap (λ d. read d index interval) (sym (with_more cs earlier base)) ∙ h.0.1) s.fits.1;
      }
  led _ _ _ (sets told cs number key new f before l) h =
      let s = led told cs (puts number key new f) l h.1 in
      record {
        locks = s.locks;
        may = s.may;
        fits = subst (λ (was : Option Row). EachFits mode (with_changes earlier base) (f was) s.locks (record { key = (number, key); before = was; after = new } ∷ cs))
            (ap (λ (d : Database). get d.rows (number, key)) (sym (with_more cs earlier base)) ∙ sym h.0) s.fits.2;
      }

last_proper : (objects : Schema) (cs ds : List RowChange) → AreProper objects (cs ++ ds) → AreProper objects ds
last_proper objects [] ds h = h
last_proper objects (c ∷ cs) ds h = last_proper objects cs ds h.1

-- ---- what is stored where a work puts

-- a key that the work locked may be read by the locks that its session holds
may_read_there : (held locks : List Want) (index : ℕ) (key : List ℕ) → AllByRecursion (λ (w : Want). MayReadIn held w.index w.interval) locks → Holds locks Exclusive index key → ghosts.MayRead held index key
may_read_there held locks index key may h =
    let all = All-contains (λ (w : Want). MayReadIn held w.index w.interval) locks h.lock (All-from_recursion (λ (w : Want). MayReadIn held w.index w.interval) locks may) h.held in
    subst (λ i. ghosts.MayRead held i key) h.index_is (all key h.covers)

-- where rows agree under all that may be read, a row that is locked is the same in both
same_there : (objects : Schema) (held locks : List Want) (place : Place) (one other : Rows) → ((index : ℕ) (key : List ℕ) → ghosts.MayRead held index key → AgreeAt objects index key one other)
    → AllByRecursion (λ (w : Want). MayReadIn held w.index w.interval) locks → (o : Option Row) → get other place ≡ o → IsLocked objects locks place o → get one place ≡ o
same_there objects held locks place one other agree may None e h =
    agree_first objects one other place (agree place.0 place.1 (may_read_there held locks place.0 place.1 may h)) ∙ e
same_there objects held locks place one other agree may (Some row) e h =
    (agree h.0 h.1 (may_read_there held locks h.0 h.1 may h.3)).back place row h.2 e

-- what a serial transaction was told is so in what is committed, and it may read each interval that it was told of
told_good : (base : Database) (held : List Want) (t : Fact) → NoteGood base held t → IsGood base (MayReadIn held) t
told_good base held (Found index interval rows kept) h = (h.may, h.so)
told_good base held (WasThere place new before kept) h = h.so
told_good base held (TookBack kept) h = tt

told_so : (base : Database) (t : Fact) → IsTrueIn base t → IsGood base (λ index interval. Unit {0}) t
told_so base (Found index interval rows kept) h = (tt, h)
told_so base (WasThere place new before kept) h = h
told_so base (TookBack kept) h = tt

nothing_last : {X : Type 0} (xs ys : List X) → xs ++ ys ≡ [] → ys ≡ []
nothing_last [] ys e = e
nothing_last (x ∷ xs) ys e = absurd (cc)

module _ (story : Story) (r : IsReachedStory story) (session : ℕ) (o : IsOpen story.state.store session) where
  abbrev s : Store
  s = story.state.store

  abbrev base : Database
  base = committed s

  abbrev held : List Want
  held = o.transaction.locks

  note : NoteFor s.origin s.history o.transaction (story.told session)
  note = subst (λ (x : Option Open). NoteOf s.origin s.history x (story.told session)) o.is_open ((story_reached story r).noted session o.of_session)

  held_is : locks_of s session ≡ held
  held_is = ap (λ (x : Option Open). (the_open x).locks) o.is_open

  serial_step : (earlier cs : List RowChange) → changes_by s session ≡ cs ++ earlier → (locks : List Want) → AllByRecursion (λ (w : Want). MayReadIn held w.index w.interval) locks
      → (work : Work) → EachFits Serial (with_changes earlier base) work locks cs → (a : Act) → next_step Serial work ≡ Some a → IsFitting story a
  serial_step earlier cs kept locks may (done listed count) fits a e = absurd (cc)
  serial_step earlier cs kept locks may (refuses why) fits a e = absurd (cc)
  serial_step earlier cs kept locks may (fetches index interval lock f) fits a e =
      let same : act.Fetch index interval lock ≡ a = cc in
      subst (IsFitting story) same fits.0
  serial_step earlier cs kept locks may (puts number key new f) fits a e =
      let same : act.Put number key new ≡ a = cc in
      let p = fits.1 in
      let own : redo (changes_by s session) base.rows ≡ redo cs (redo earlier base.rows) = ap (λ l. redo l base.rows) kept ∙ redo_append cs earlier base.rows in
      let agree : (index : ℕ) (k : List ℕ) → ghosts.MayRead held index k → AgreeAt base.schema index k s.rows (redo cs (redo earlier base.rows)) =
      λ index k m. subst (AgreeAt base.schema index k s.rows) own (read_at the_views fresh view_laws base s (story_reached story r).good session o.of_session index k (subst (λ l. ghosts.MayRead l index k) (sym held_is) m)) in
      let there : get s.rows (number, key) ≡ get (redo cs (redo earlier base.rows)) (number, key) =
      same_there base.schema held locks (number, key) s.rows (redo cs (redo earlier base.rows)) agree may (get (redo cs (redo earlier base.rows)) (number, key)) refl p.locked in
      subst (IsFitting story) same (record { of = p.of; table_is = p.table_is; fits = p.fits; changes = λ x. p.changes (sym there ∙ x) })

  serial_fits : o.transaction.mode ≡ Serial → (statement : StatementTree) → is_work statement ≡ true → refused_inside Serial [] statement ≡ None
      → (earlier cs : List RowChange) → changes_by s session ≡ cs ++ earlier → (told before : List Fact) → story.told session ≡ told ++ before
      → (work : Work) → Leads earlier (statement_work Serial (schema_of s) statement) told cs work → (a : Act) → next_step Serial work ≡ Some a → IsFitting story a
  serial_fits m statement w n earlier cs kept told before is work leads a e =
      let g = (story_reached story r).good in
      let sound : AreSound base.schema (redo earlier base.rows) =
      sound_redo base.schema base.rows earlier g.sound (last_proper base.schema cs earlier (subst (AreProper base.schema) kept (g.each session o.of_session).proper)) in
      let good : AllByRecursion (IsGood base (MayReadIn held)) told =
      (each_parts (IsGood base (MayReadIn held)) told before (subst (AllByRecursion (IsGood base (MayReadIn held))) is
      (each_to (NoteGood base held) (IsGood base (MayReadIn held)) (told_good base held) (story.told session) (note.serial m).notes))).0 in
      let stands = led Serial base earlier (MayReadIn held) (statement_work Serial base.schema statement) (fits_law Serial statement w n (with_changes earlier base) sound []) told cs work leads good in
      serial_step earlier cs kept stands.locks stands.may work stands.fits a e

  abbrev then_ : Database
  then_ = state_at s.origin s.history o.transaction.number

  snapshot_step : (then_.schema ≡ schema_of s) → (earlier cs : List RowChange) (locks : List Want) (work : Work) → EachFits Snapshot (with_changes earlier then_) work locks cs → (a : Act) → next_step Snapshot work ≡ Some a → IsFitting story a
  snapshot_step objects earlier cs locks (done listed count) fits a e = absurd (cc)
  snapshot_step objects earlier cs locks (refuses why) fits a e = absurd (cc)
  snapshot_step objects earlier cs locks (fetches index interval lock f) fits a e =
      let same : act.Peek index interval ≡ a = cc in
      subst (IsFitting story) same (subst (λ l. MayPeek (numbered l index)) objects fits.0)
  snapshot_step objects earlier cs locks (puts number key new f) fits a e = let no : Snapshot ≡ Serial = fits.0 in absurd (cc)

  snapshot_fits : o.transaction.mode ≡ Snapshot → (statement : StatementTree) → is_work statement ≡ true → refused_inside Snapshot [] statement ≡ None
      → (earlier cs : List RowChange) → changes_by s session ≡ cs ++ earlier → (told before : List Fact) → story.told session ≡ told ++ before
      → (work : Work) → Leads earlier (statement_work Snapshot (schema_of s) statement) told cs work → (a : Act) → next_step Snapshot work ≡ Some a → IsFitting story a
  snapshot_fits m statement w n earlier cs kept told before is work leads a e =
      let at = (snapshot_readable_law story.state (reached_of story r)).1 session o m in
      let so = (told_law story r session o).1 m in
      let none : earlier ≡ [] = nothing_last cs earlier (sym kept ∙ so.1) in
      let sound : AreSound then_.schema (redo earlier then_.rows) = subst (λ l. AreSound then_.schema (redo l then_.rows)) (sym none) at.0.sound in
      let good : AllByRecursion (IsGood then_ (λ index interval. Unit {0})) told =
      (each_parts (IsGood then_ (λ index interval. Unit {0})) told before (subst (AllByRecursion (IsGood then_ (λ index interval. Unit {0}))) is
      (each_to (IsTrueIn then_) (IsGood then_ (λ index interval. Unit {0})) (told_so then_) (story.told session) (recursion_from_All (IsTrueIn then_) (story.told session) so.0)))).0 in
      let fits : EachFits Snapshot (with_changes earlier then_) (statement_work Snapshot (schema_of s) statement) [] [] =
      subst (λ l. EachFits Snapshot (with_changes earlier then_) (statement_work Snapshot l statement) [] []) at.1 (fits_law Snapshot statement w n (with_changes earlier then_) sound []) in
      let stands = led Snapshot then_ earlier (λ index interval. Unit {0}) (statement_work Snapshot (schema_of s) statement) fits told cs work leads good in
      snapshot_step at.1 earlier cs stands.locks work stands.fits a e

  pub all_fit : (mode : Mode) → o.transaction.mode ≡ mode → (statement : StatementTree) → is_work statement ≡ true → refused_inside mode [] statement ≡ None
      → (earlier cs : List RowChange) → changes_by s session ≡ cs ++ earlier → (told before : List Fact) → story.told session ≡ told ++ before
      → (work : Work) → Leads earlier (statement_work mode (schema_of s) statement) told cs work → (a : Act) → next_step mode work ≡ Some a → IsFitting story a
  all_fit Serial m = serial_fits m
  all_fit Snapshot m = snapshot_fits m

pub asked_law : AskedLaw
asked_law story r session o statement w n earlier cs kept told before is work leads a e ask alive =
    may_law story session a o.of_session alive (all_fit story r session o o.transaction.mode refl statement w n earlier cs kept told before is work leads a e) ask
