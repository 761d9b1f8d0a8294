-- A script on the database of a disk.
use Rattle.std.proofs.Common.{◌≡◌, ◌⊎◌, inl, inr, ⊎_elim, ℕ, zero, suc, ◌+◌, ◌-◌, ◌<◌, ◌≤◌, ◌^◌, List, Some, Ok, Err, refl, sym, ap, subst, ◌∙◌, arith}
use Rattle.std.specs.Prelude.{Option, Result, IfOk, IfErr, OnOk, min}
use Rattle.iv_types.specs.Faults.{Rose, CountsFault}
use Rattle.iv_types.specs.declared.fault.Failed.{Failed}
use Rattle.outside.specs.Outside.{CountsClosed, ReadsAsBefore}
use Rattle.iv_meaning.specs.Database.{Database}
use Rattle.iv_meaning.specs.History.{Entry, fold, state_at}
use Rattle.txn_machine.specs.Log.{Opening}
use Rattle.txn_machine.specs.State.{State}
use Rattle.txn_machine.specs.Store.{committed}
use Rattle.txn_book.specs.Crashes.{IsWhole, IsPrefix}
use Rattle.session_table.specs.Going.{StandsIn}
use Rattle.txn_log.specs.Replay.{Pages, recovered}
use Rattle.txn_log.specs.Refused.{PlacedImage}
use Rattle.image_opening.specs.Faults.{counted_by}
use Rattle.image_opening.specs.Images.{IsImageIn}
use Rattle.image_opening.specs.Telling.{Refuses}
use Rattle.image_opening.specs.declared.fault.OpenFault.{OpenFault}
use Rattle.image_opening.specs.declared.fault.OpenFault.TheVariants as why
use Rattle.log_journal.specs.Standing.{disk_of}
use Rattle.engine_core.specs.Crashes.{ReadsBack, IsUpTo}
use Rattle.engine_core.specs.CrashLaws.{reads_weaker, images_read, last_read, images_sound, last_sound}
use Rattle.engine_core.specs.Standing.{IsOnDisk}
use Rattle.database_opening.specs.Opened.{DiskCore, IsOpenOn, OpensAs, IsRefusal}
use Rattle.script_run.specs.Lines.{WasOpened}
use Rattle.script_run.specs.Recovered.{history_of, Ends}
use Rattle.script_run.proofs.Recovering.{front_of, all_of}
use Rattle.script_run.specs.Run.{Output, Taken, SourceFaults, SinkFaults}
use Rattle.script_run.specs.declared.status.Status.{Status}
use Rattle.script_run.specs.declared.status.Status.TheVariants.{Done, Usage, ReadFault, WriteFault, DiskFault, BadImage, NoMemory, TooMuch}
use Rattle.view_server.specs.OnDisk.{EndsWith, EndsSo, FaultsOnDisk, IsOfLines, IsStop, IsThere, KeepsAll, KeepsFront, IsKeptOn, IsTold, IsToldOf, MightLeave, RanOn, lines, refused, stopped, unopened, StaysSafe, TellsBad, ToldBad}
use Rattle.view_server.specs.Init.{DiskFaults}

-- ---- what is recovered

module _ (s : State) (origin : Database) (history : List Entry) (o : s.store.origin ≡ origin) (h : s.store.history ≡ history) (count : ℕ) (db : Database) where
  front_up : IsUpTo s db → KeepsFront count origin history db
  front_up up = inl (up.0, subst (λ (x : Database). up.0 ≤ x.number) (λ k. fold (h k) (o k)) up.1, up.2 ∙ (λ k. state_at (o k) (h k) up.0))

  front_more : 0 < count → IsPrefix s db → KeepsFront count origin history db
  front_more failed prefix = ⊎_elim (λ up. inl up) (λ more. inr (failed, more)) (front_of s origin history o h db prefix)

  all_now : db ≡ committed s.store → KeepsAll count origin history db
  all_now is = inl (is ∙ (λ k. fold (h k) (o k)))

  all_more : 0 < count → IsWhole s db → KeepsAll count origin history db
  all_more failed whole = ⊎_elim (λ all. inl all) (λ more. inr (failed, more)) (all_of s origin history o h db whole)

-- by whether the disk has failed
by_faults : (P : Type 0) (count : ℕ) → (count ≡ 0 → P) → (0 < count → P) → P
by_faults P zero sound failed = sound refl
by_faults P (suc n) sound failed = failed (omega arith)

-- ---- a core that was opened

module _ {D : Type 0} (is_told : Type 0) (size_of : D → ℕ) (seen : D → List ℕ) (may_leave : D → List ℕ → Type 0) (moment : D → ℕ) (left_since : D → ℕ → List ℕ → Type 0) (faults : D → ℕ) (core : DiskCore D) where
  abbrev pub was_opened : (p : Pages) → IsOpenOn is_told size_of seen may_leave moment left_since faults core p → WasOpened (IsOnDisk is_told size_of seen may_leave moment left_since faults core)
  was_opened p h = record { db = p.db; stored = p.view; opening = h.opening; is_opened = h.was_opened; stands = h.stands }

  -- the output of its lines is that on the database which is there
  pub ran_lines : (There Same : List ℕ → Type 0) (Safe : List ℕ → PlacedImage → Type 0) (Unopened : Type 0) (Leaves : Status → Database → Type 0) (Counts : Status → Type 0) → ((c : List ℕ) → There c → OpensAs is_told size_of seen may_leave moment left_since faults c core) → (p : Pages) → IsOpenOn is_told size_of seen may_leave moment left_since faults core p
      → (of status : Status) → EndsWith of status → (input before : List ℕ) (left written : Option (List ℕ)) → Taken of input left
      → ((q : Pages) → IsOpenOn is_told size_of seen may_leave moment left_since faults core q → Output q.db of input before left written) → ((q : Pages) → IsOpenOn is_told size_of seen may_leave moment left_since faults core q → Leaves of q.db) → RanOn There Same Safe Unopened Leaves Counts status input before left written
  ran_lines There Same Safe Unopened Leaves Counts opens p here of status ends input before left written taken out kept =
      lines of ends taken p.db (out p here) (λ c there. let found = opens c there in (found.0, (λ i im. let o = found.1 i im in (o.0, (o.1.0, o.1.1, out (recovered o.1.0) o.1.2, kept (recovered o.1.0) o.1.2)))))

  -- what its lines committed is kept on its disk
  pub kept_behind : (last : DiskCore D) (disk : D) → disk ≡ disk_of last.journal → (p : Pages) (here : IsOpenOn is_told size_of seen may_leave moment left_since faults core p) → is_told → (of : Status) (input before : List ℕ) (written : Option (List ℕ)) → faults (disk_of core.journal) ≡ 0
      → StandsIn (IsOnDisk is_told size_of seen may_leave moment left_since faults last) (Ends p.db here.opening of input before written) → IsKeptOn may_leave moment left_since faults disk p.db of input before written
  kept_behind last disk is p here told of input before written none i =
      let s = i.story.state in
      let e = i.holds in
      let later = i.stands.lasts.later told in
      record {
        committed = e.committed;
        opened = here.opening.moment;
        past = omega (arith, later, ap (λ (o : Opening). o.moment) e.opening_is, ap moment is);
        since = λ c left.
            let was = subst (λ (o : Opening). left_since (disk_of last.journal) o.moment c) (sym e.opening_is) (subst (λ (x : D). left_since x here.opening.moment c) is left) in
            by_faults (ReadsBack (KeepsFront (faults disk) e.committed.world.origin (history_of e.committed)) c) (faults disk)
            (λ sound. reads_weaker (IsUpTo s) (KeepsFront (faults disk) e.committed.world.origin (history_of e.committed)) (front_up s e.committed.world.origin (history_of e.committed) e.origin e.history (faults disk)) c
            (images_sound is_told size_of seen may_leave moment left_since faults last s c i.stands (not_risen s e.opening_is sound) told was))
            (λ failed. reads_weaker (IsPrefix s) (KeepsFront (faults disk) e.committed.world.origin (history_of e.committed)) (λ db. front_more s e.committed.world.origin (history_of e.committed) e.origin e.history (faults disk) db failed) c
            (images_read is_told size_of seen may_leave moment left_since faults told last s c i.stands was));
        now = λ c left.
            let may = subst (λ (x : D). may_leave x c) is left in
            by_faults (ReadsBack (KeepsAll (faults disk) e.committed.world.origin (history_of e.committed)) c) (faults disk)
            (λ sound. reads_weaker (λ db. db ≡ committed s.store) (KeepsAll (faults disk) e.committed.world.origin (history_of e.committed)) (all_now s e.committed.world.origin (history_of e.committed) e.origin e.history (faults disk)) c
            (last_sound is_told size_of seen may_leave moment left_since faults last s c i.stands (not_risen s e.opening_is sound) told may))
            (λ failed. reads_weaker (IsWhole s) (KeepsAll (faults disk) e.committed.world.origin (history_of e.committed)) (λ db. all_more s e.committed.world.origin (history_of e.committed) e.origin e.history (faults disk) db failed) c
            (last_read is_told size_of seen may_leave moment left_since faults told last s c i.stands may));
      }
    where
      -- a disk that has not failed has not failed since the opening
      not_risen : (s : State) → s.opening ≡ here.opening → faults disk ≡ 0 → Rose s.opening.faults (faults (disk_of last.journal)) → ⊥
      not_risen s opening sound rose =
          let at : min (s.opening.faults + 1) (2 ^ 64 - 1) ≤ faults (disk_of last.journal) = rose in
          let began : s.opening.faults ≡ 0 = ap (λ (o : Opening). o.faults) opening ∙ (sym (here.stands.is_in.well refl) ∙ none) in
          let ends : faults (disk_of last.journal) ≡ 0 = ap faults (sym is) ∙ sound in
          omega (arith, at, began, ends)

-- ---- what was told

-- what is told is a refusal
is_refusal : (fault : OpenFault) (line : List ℕ) → IsTold fault line → IsRefusal fault
is_refusal (why.BadImage bad) line told = tt
is_refusal (why.BadView wrong) line told = tt
is_refusal why.DiskFault line told = told
is_refusal why.NoMemory line told = told

-- a status that tells a stop
is_stop : (fault : OpenFault) (status : Status) → IsStop fault status → (status ≡ DiskFault) ⊎ (status ≡ NoMemory)
is_stop (why.BadImage bad) status other = absurd other
is_stop (why.BadView wrong) status other = absurd other
is_stop why.DiskFault status is = inl is
is_stop why.NoMemory status is = inr is

pub ran_told : (There Same : List ℕ → Type 0) (Safe : List ℕ → PlacedImage → Type 0) (Unopened : Type 0) (Leaves : Status → Database → Type 0) (Counts : Status → Type 0) (fault : OpenFault) → ((c : List ℕ) → There c → Refuses c fault) → ((c : List ℕ) → IsRefusal fault → There c → Same c)
    → ((c : List ℕ) → There c → (i : PlacedImage) → IsImageIn c i → Safe c i) → (status : Status) → Counts status → (input before : List ℕ) (left written : Option (List ℕ)) → left ≡ Some input
    → IsToldOf fault status before written → RanOn There Same Safe Unopened Leaves Counts status input before left written
ran_told There Same Safe Unopened Leaves Counts fault refuses same safe status counts input before left written none (inl told) = refused fault (λ c there. (refuses c there, same c (is_refusal fault told.0 told.1) there)) told.0 told.1 none told.2
ran_told There Same Safe Unopened Leaves Counts fault refuses same safe status counts input before left written none (inr bare) = stopped (is_stop fault status bare.0) counts safe none bare.1

-- a line that was made or not, and told then
pub told_line : {T S N : Type 0} (items : T → List ℕ) (written : S → Option (List ℕ)) (old new : S) (fault : OpenFault) (wanted : List ℕ) → IsTold fault wanted → (line : Result T N) → IfOk line (λ text. items text ≡ wanted)
    → (status : Status) → IfOk line (λ text. (b : List ℕ) → written old ≡ Some b → ToldBad status (items text) b (written new)) → IfErr line (λ _. (status ≡ NoMemory) × (new ≡ old))
    → (before : List ℕ) → written old ≡ Some before → IsToldOf fault status before (written new)
told_line items written old new fault wanted is (Ok text) are status told none before w = inl (wanted, is, inl (subst (λ (line : List ℕ). ToldBad status line before (written new)) are (told before w)))
told_line items written old new fault wanted is (Err e) are status told none before w = inl (wanted, is, inr (none.0, ap written none.1 ∙ w))

-- of fewer bytes, and by what is left
pub ran_more : (There Other Same Still : List ℕ → Type 0) (Safe Kept : List ℕ → PlacedImage → Type 0) (Unopened Closed : Type 0) (Leaves Left : Status → Database → Type 0) (Counts Counted : Status → Type 0) → ((c : List ℕ) → Other c → There c) → ((c : List ℕ) → Same c → Still c)
    → ((c : List ℕ) → Other c → (i : PlacedImage) → Safe c i → Kept c i) → (Unopened → Closed) → ((of : Status) (db : Database) → Leaves of db → Left of db) → (status : Status) → (Counts status → Counted status) → (input before : List ℕ) (left written : Option (List ℕ))
    → RanOn There Same Safe Unopened Leaves Counts status input before left written → RanOn Other Still Kept Closed Left Counted status input before left written
ran_more There Other Same Still Safe Kept Unopened Closed Leaves Left Counts Counted fewer stays keeps closed still status counts input before left written (lines of ends taken db out there) =
    lines of ends taken db out (λ c is. let found = there c (fewer c is) in (found.0, (λ i im. let o = found.1 i im in (o.0, (o.1.0, o.1.1, o.1.2, still of (recovered o.1.0).db o.1.3)))))
ran_more There Other Same Still Safe Kept Unopened Closed Leaves Left Counts Counted fewer stays keeps closed still status counts input before left written (refused fault refuses line told none bad) =
    refused fault (λ c is. let r = refuses c (fewer c is) in (r.0, stays c r.1)) line told none bad
ran_more There Other Same Still Safe Kept Unopened Closed Leaves Left Counts Counted fewer stays keeps closed still status counts input before left written (stopped bare count safe none same) =
    stopped bare (counts count) (λ c is i im. keeps c is i (safe c (fewer c is) i im)) none same
ran_more There Other Same Still Safe Kept Unopened Closed Leaves Left Counts Counted fewer stays keeps closed still status counts input before left written (unopened bare count as_was none same) = unopened bare (counts count) (closed as_was) none same

-- the disk that lay there reads as the one that was opened
pub reads_so : {D : Type 0} (outside_tells disk_tells : Type 0) (size : D → ℕ) (seen : D → List ℕ) (may_leave : D → List ℕ → Type 0) (lay : Option D) (disk : D) → (outside_tells → ReadsAsBefore size seen may_leave lay disk)
    → (c : List ℕ) → IsThere outside_tells disk_tells seen lay c → disk_tells × (seen disk ≡ c)
reads_so outside_tells disk_tells size seen may_leave lay disk opened c is =
    let before = opened is.told in
    let same : before.closed ≡ is.disk = some_same before.closed is.disk (sym before.there ∙ is.there) in
    (is.tells, before.reads ∙ (ap seen same ∙ is.reads))
  where
    some_same : {A : Type 0} (x y : A) → Some x ≡ Some y → x ≡ y
    some_same x y e = cc

-- and what it might have left it might have left before
pub safe_so : {D : Type 0} (outside_tells : Type 0) (size : D → ℕ) (seen : D → List ℕ) (may_leave : D → List ℕ → Type 0) (lay lies : Option D) (disk : D) → (outside_tells → ReadsAsBefore size seen may_leave lay disk)
    → (s : List ℕ) (i : PlacedImage) → StaysSafe outside_tells may_leave (may_leave disk) lies s i → StaysSafe outside_tells may_leave (MightLeave may_leave lay) lies s i
safe_so outside_tells size seen may_leave lay lies disk opened s i safe told =
    let l = safe told in
    let before = opened told in
    record {
      disk = l.disk;
      there = l.there;
      safe = λ c may. ⊎_elim (λ left. inl (record { disk = before.closed; there = before.there; left = before.crash c left })) (λ keeps. inr keeps) (l.safe c may);
    }

-- ---- statuses

pub counted_so : (fault : OpenFault) (before now : ℕ) → before ≡ 0 → counted_by fault before now → counted_by fault 0 now
counted_so fault before now none counts = subst (λ n. counted_by fault n now) none counts

-- a count goes on from one that stood
pub counts_on : (status : Status) (first before now : ℕ) → before ≡ first → DiskFaults status before now → DiskFaults status first now
counts_on status first before now same h = subst (λ n. DiskFaults status n now) same h

-- a count that is exact
pub exact_so : (status : Status) (before now : ℕ) → DiskFaults status before now → FaultsOnDisk status before now
exact_so Done before now h = h
exact_so Usage before now h = inl h
exact_so ReadFault before now h = inl h
exact_so WriteFault before now h = inl h
exact_so DiskFault before now h = h
exact_so BadImage before now h = h
exact_so NoMemory before now h = inl h
exact_so TooMuch before now h = inl h

pub ends_with : (of : Status) (closed : Result (Unit {0}) Failed) (status : Status) → EndsSo of closed status → EndsWith of status
ends_with of (Ok u) status h = inl h
ends_with of (Err failed) status (inl h) = inr h
ends_with of (Err failed) status (inr h) = inl h.1

-- where a run ends with status 0 its disk was closed without a fault
pub closed_well : (of : Status) (closed : Result (Unit {0}) Failed) (status : Status) → EndsSo of closed status → (P : Type 0) → OnOk closed P → status ≡ Done → P
closed_well of (Ok u) status h P ok done = ok
closed_well of (Err failed) status (inl both) P ok done = absurd (let bad : DiskFault ≡ Done = sym both.1 ∙ done in cc)
closed_well of (Err failed) status (inr both) P ok done = absurd (both.0 (sym both.1 ∙ done))

pub source_so : (of status : Status) → EndsWith of status → (before now : ℕ) → SourceFaults of before now → SourceFaults status before now
source_so of status (inl same) before now h = subst (λ s. SourceFaults s before now) (sym same) h
source_so of status (inr both) before now h = subst (λ s. SourceFaults s before now) (sym both.1) (subst (λ s. SourceFaults s before now) both.0 h)

pub sink_so : (of status : Status) → EndsWith of status → (before now : ℕ) → SinkFaults of before now → SinkFaults status before now
sink_so of status (inl same) before now h = subst (λ s. SinkFaults s before now) (sym same) h
sink_so of status (inr both) before now h = subst (λ s. SinkFaults s before now) (sym both.1) (subst (λ s. SinkFaults s before now) both.0 h)

sound_so : (of : Status) → IsOfLines of → (before now : ℕ) → now ≡ before → FaultsOnDisk of before now
sound_so Done is before now same = same
sound_so Usage is before now same = inl same
sound_so ReadFault is before now same = inl same
sound_so WriteFault is before now same = inl same
sound_so DiskFault is before now same = absurd (is.disks refl)
sound_so BadImage is before now same = absurd (is.images refl)
sound_so NoMemory is before now same = inl same
sound_so TooMuch is before now same = inl same

rose_so : (of : Status) → IsOfLines of → (of ≡ Done → ⊥) → (before now : ℕ) → Rose before now → FaultsOnDisk of before now
rose_so Done is other before now rose = absurd (other refl)
rose_so Usage is other before now rose = inr rose
rose_so ReadFault is other before now rose = inr rose
rose_so WriteFault is other before now rose = inr rose
rose_so DiskFault is other before now rose = rose
rose_so BadImage is other before now rose = absurd (is.images refl)
rose_so NoMemory is other before now rose = inr rose
rose_so TooMuch is other before now rose = inr rose

-- the outside's count rose just where a fault is told, or another cause
pub faults_so : (of : Status) → IsOfLines of → (closed : Result (Unit {0}) Failed) (status : Status) → EndsSo of closed status → (before now : ℕ) → CountsFault closed before now → FaultsOnDisk status before now
faults_so of is (Ok u) status same before now h = subst (λ s. FaultsOnDisk s before now) (sym same) (sound_so of is before now h)
faults_so of is (Err failed) status (inl both) before now h = subst (λ s. FaultsOnDisk s before now) (sym both.1) h
faults_so of is (Err failed) status (inr both) before now h = subst (λ s. FaultsOnDisk s before now) (sym both.1) (rose_so of is both.0 before now h)

-- and so where an image was refused
pub told_faults : (status : Status) → TellsBad status → (before now : ℕ) → now ≡ before → DiskFaults status before now
told_faults status (inl bad) before now same = subst (λ s. DiskFaults s before now) (sym bad) same
told_faults status (inr (inl write)) before now same = subst (λ s. DiskFaults s before now) (sym write) same
told_faults status (inr (inr none)) before now same = subst (λ s. DiskFaults s before now) (sym none) same

pub closed_sound : (count before now : ℕ) → count ≡ 0 → CountsClosed count before now → now ≡ before
closed_sound count before now none closed = closed.sound none

pub closed_rose : (count before now : ℕ) → Rose 0 count → CountsClosed count before now → Rose before now
closed_rose count before now rose closed = closed.failed (let least : min (0 + 1) (2 ^ 64 - 1) ≤ count = rose in omega (arith, least))
