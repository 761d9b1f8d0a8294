-- The records that a step gives which is answered so.
use Rattle.std.specs.Prelude.{◌≡◌, ℕ, ◌+◌, Bool, true, false, cond, List, [], ◌∷◌, ◌++◌, Option, Some, None}
use Rattle.std.specs.Option.{unwrap_or}
use mathlib.Core.Path.{refl, ap, ◌∙◌}
use Rattle.iv_types.specs.declared.lock.GroupDelta.{GroupDelta}
use Rattle.iv_types.specs.declared.lock.Want.{Want}
use Rattle.iv_types.specs.declared.refusal.EngineRefusal.TheVariants as refusal
use Rattle.table_laws.specs.Place.{Place}
use Rattle.iv_meaning.specs.Database.{Row}
use Rattle.txn_machine.specs.Acts as act
use Rattle.txn_machine.specs.Acts.{Act}
use Rattle.txn_machine.specs.Answers as answer
use Rattle.txn_machine.specs.Answers.{Answer}
use Rattle.txn_machine.specs.Ghosts.{the_views}
use Rattle.txn_machine.specs.Keeping.{Open, idle}
use Rattle.txn_machine.specs.Log.{Log, Logged, logs, pay_record, undo_record}
use Rattle.txn_machine.specs.Records.{Record, Write, Delta, Ghost, Undo, Commit, Abort}
use Rattle.txn_machine.specs.State.{State, is_fault}
use Rattle.txn_machine.specs.Steps.{Says, asked}
use Rattle.txn_machine.specs.Store.{Store, Effect, Opens, Takes, Notes, Writes, Pays, Ghosts, Undoes, Loses, Ends, Commits, Prunes, committed, schema_of, now, change_at, changes_by, does}
use Rattle.txn_machine.proofs.Basics.{one_same}
use Rattle.core_journal.specs.Records.{Records, with_one, with_perhaps, flushed_all, recorded, recorded_all, records_after}

-- a step that a checkpoint or a fault of the disk ends is told apart
abbrev IsSaved : Answer → Type 0
IsSaved (answer.Saved number) = Unit {0}
IsSaved _ = ⊥

module _ (s : State) (i : ℕ) (rs : Records) where
  -- one record more
  abbrev pub one : Record → Records
  one r = with_one (schema_of s.store) (record { number = s.log.next; of = r }) rs

  abbrev all : Act → List Effect → Records
  all a es = recorded_all s.store i a es s.log rs

  after_all : (a : Act) (said : Answer) (es : List Effect) → is_fault said ≡ false → (IsSaved said → ⊥) → records_after s i a said es rs ≡ all a es
  after_all act.Commit (answer.Refused refusal.DiskFault) es fine other = absurd (let bad : true ≡ false = fine in cc)
  after_all (act.Schema statement) (answer.Refused refusal.DiskFault) es fine other = absurd (let bad : true ≡ false = fine in cc)
  after_all act.Checkpoint (answer.Saved number) es fine other = absurd (other tt)
  after_all a said es fine other = refl

  -- ---- nothing is given

  -- the effects of these give no record
  abbrev pub IsQuiet : Effect → Type 0
  IsQuiet (Opens mode) = Unit {0}
  IsQuiet (Takes wants) = Unit {0}
  IsQuiet (Notes note) = Unit {0}
  IsQuiet Loses = Unit {0}
  IsQuiet Prunes = Unit {0}
  IsQuiet _ = ⊥

  abbrev pub AreQuiet : List Effect → Type 0
  AreQuiet [] = Unit {0}
  AreQuiet (e ∷ es) = IsQuiet e × AreQuiet es

  quiet_one : (u : Store) (a : Act) (e : Effect) (l : Log) (xs : Records) → IsQuiet e → recorded u i a e l xs ≡ xs
  quiet_one u a (Opens mode) l xs q = refl
  quiet_one u a (Takes wants) l xs q = refl
  quiet_one u a (Notes note) l xs q = refl
  quiet_one u a Loses l xs q = refl
  quiet_one u a Prunes l xs q = refl
  quiet_one u a (Writes place new) l xs q = absurd q
  quiet_one u a Pays l xs q = absurd q
  quiet_one u a (Ghosts place columns) l xs q = absurd q
  quiet_one u a Undoes l xs q = absurd q
  quiet_one u a Ends l xs q = absurd q
  quiet_one u a Commits l xs q = absurd q
  quiet_one u a (Rattle.txn_machine.specs.Store.Defines object) l xs q = absurd q
  quiet_one u a (Rattle.txn_machine.specs.Store.Cleans place) l xs q = absurd q

  quiet_all : (u : Store) (a : Act) (es : List Effect) (l : Log) (xs : Records) → AreQuiet es → recorded_all u i a es l xs ≡ xs
  quiet_all u a [] l xs q = refl
  quiet_all u a (e ∷ es) l xs q = quiet_all (does the_views u i e) a es (logs u i a e l) (recorded u i a e l xs) q.1 ∙ quiet_one u a e l xs q.0

  pub quiet : (a : Act) (said : Answer) (es : List Effect) → is_fault said ≡ false → (IsSaved said → ⊥) → AreQuiet es → records_after s i a said es rs ≡ rs
  quiet a said es fine other q = after_all a said es fine other ∙ quiet_all s.store a es s.log rs q

  -- ---- one record is given

  -- the log knows of the session what it knew before its locks were taken
  still_logged : (a : Act) (wants : List Want) → (logs s.store i a (Takes wants) s.log).logged i ≡ s.log.logged i
  still_logged a wants = one_same s.log.logged i (s.log.logged i) i refl

  pub put_gives : (number : ℕ) (key : List ℕ) (new : Option Row) (before : Option Row) (deltas : List GroupDelta) (es : List Effect) → Says s i (act.Put number key new) (answer.Changed before deltas) es
      → records_after s i (act.Put number key new) (answer.Changed before deltas) es rs ≡ one (Write (s.log.logged i).transaction (change_at s.store (number, key) new))
  put_gives number key new before deltas es h =
      ap (λ (xs : List Effect). all (act.Put number key new) xs) h.effects
      ∙ ap (λ (t : Logged). one (Write t.transaction (change_at s.store (number, key) new))) (still_logged (act.Put number key new) (asked s.store i (act.Put number key new)))

  owed_still : (wants : List Want) → (now (does the_views s.store i (Takes wants)) i).owed ≡ (now s.store i).owed
  owed_still wants = ap (λ (o : Option Open). (unwrap_or o idle).owed) (one_same s.store.open_of i (Some (record (now s.store i) { locks = wants ++ (now s.store i).locks })) i refl)

  pub pay_gives : (left : ℕ) (es : List Effect) → (h : Says s i act.Pay (answer.Paid left) es) → records_after s i act.Pay (answer.Paid left) es rs ≡ one (Delta (s.log.logged i).transaction h.pays.first)
  pay_gives left es h =
      ap (λ (xs : List Effect). all act.Pay xs) h.effects
      ∙ ap (λ (r : Option Record). with_perhaps (schema_of s.store) s.log.next r rs)
      ((λ x. pay_record (still_logged act.Pay (asked s.store i act.Pay) x) (owed_still (asked s.store i act.Pay) x)) ∙ ap (pay_record (s.log.logged i)) h.pays.owed_is)

  pub undo_gives : (left : ℕ) (es : List Effect) (number : ℕ) (numbers : List ℕ) → Says s i act.UndoOne (answer.Undone left) es → (s.log.logged i).kept ≡ number ∷ numbers
      → records_after s i act.UndoOne (answer.Undone left) es rs ≡ one (Undo (s.log.logged i).transaction number)
  undo_gives left es number numbers h are =
      ap (λ (xs : List Effect). all act.UndoOne xs) h.effects ∙ ap (λ (r : Option Record). with_perhaps (schema_of s.store) s.log.next r rs) (ap (undo_record (s.log.logged i)) are)

  -- a transaction that ends, where it has appended a record
  abbrev pub ended : Bool → Records
  ended wrote = with_perhaps (schema_of s.store) s.log.next (cond wrote (Some (Abort (s.log.logged i).transaction)) None) rs

  pub end_gives : (es : List Effect) → Says s i act.End answer.Ended es → records_after s i act.End answer.Ended es rs ≡ ended (s.log.logged i).wrote
  end_gives es h = ap (λ (xs : List Effect). all act.End xs) h

  pub commit_gives : (number : ℕ) (es : List Effect) → es ≡ Commits ∷ [] → records_after s i act.Commit (answer.Committed number) es rs ≡ flushed_all (one (Commit (s.log.logged i).transaction ((committed s.store).number + 1) i))
  commit_gives number es h = ap (λ (xs : List Effect). all act.Commit xs) h

  pub leave_gives : (number : ℕ) (es : List Effect) → es ≡ Ends ∷ [] → records_after s i act.Commit (answer.Committed number) es rs ≡ ended (s.log.logged i).wrote
  leave_gives number es h = ap (λ (xs : List Effect). all act.Commit xs) h

  pub ghost_gives : (es : List Effect) (place : Place) (columns : ℕ) → es ≡ Ghosts place columns ∷ [] → records_after s i act.Ghost answer.Ghosted es rs ≡ one (Ghost place)
  ghost_gives es place columns h = ap (λ (xs : List Effect). all act.Ghost xs) h
