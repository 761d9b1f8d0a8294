-- What a crash recovers between two steps, and what it recovers where the disk failed in one.
use Rattle.std.proofs.Common.{◌≡◌, ◌≢◌, inl, inr, ◌⊎◌, ⊎_elim, ℕ, ◌+◌, List, [], ◌∷◌, length, Option, refl, sym, ap, subst, ◌∙◌}
use Rattle.iv_types.specs.Syntax.{StatementTree}
use Rattle.iv_types.specs.declared.refusal.EngineRefusal.TheVariants as refusal
use Rattle.iv_meaning.specs.Database.{Database}
use Rattle.txn_machine.specs.Acts as act
use Rattle.txn_machine.specs.Acts.{Act}
use Rattle.txn_machine.specs.Answers as answer
use Rattle.txn_machine.specs.Deltas.{RowChange}
use Rattle.txn_machine.specs.Ghosts.{the_views}
use Rattle.txn_machine.specs.Log.{Opening, record_of}
use Rattle.txn_machine.specs.Laws.{IsOpened}
use Rattle.txn_machine.specs.May.{May}
use Rattle.txn_machine.specs.Records.{Record}
use Rattle.txn_machine.specs.State.{State}
use Rattle.txn_machine.specs.Steps.{Does, CommitsAs}
use Rattle.txn_machine.specs.Store as stores
use Rattle.txn_machine.specs.Store.{Store, Effect, Commits, Defines, committed, changes_by, schema_of, does}
use Rattle.txn_log.specs.Replay.{Pages, recovered}
use Rattle.txn_log.specs.Appended.{Numbered}
use Rattle.txn_log.specs.Moments.{Disk, World, At, Halted, image_of, with_record, pages_now, published, Happens, fails_commit, fails_define, fails_after, Run, then_move, opened_world, left_by, IsRight}
use Rattle.txn_log.proofs.Groups.{none_left}
use Rattle.txn_log.proofs.Happening.{crash}
use Rattle.txn_log.proofs.Once.{reading_once}
use Rattle.txn_log.proofs.Passing.{fault_crash}
use Rattle.txn_log.proofs.Printed.{prints_again, one_statement}
use Rattle.txn_log.proofs.Settling.{all_committed}
use Rattle.core_journal.specs.Records.{Saved, Records, with_perhaps, flushed_all, records_after}
use Rattle.core_journal.specs.Cuts.{Cut, cut_of, MayHave}
use Rattle.record_worlds.specs.Tied.{IsCutOf, AreOf, IsTied, SavesAll, Recovers, MayCommit}
use Rattle.record_worlds.proofs.Keeping.{perhaps_more, cut_flushed, cut_saved}
use Rattle.record_worlds.proofs.Going.{leads, spellable}

-- a commit of changes would have taken the next number
commits_as : (s : Store) (i : ℕ) (cs : List RowChange) → cs ≢ [] → CommitsAs s i cs ((committed s).number + 1) (Commits ∷ [])
commits_as s i [] some = absurd (some refl)
commits_as s i (c ∷ cs) some = (refl, refl)

module _ (p : Pages) (was : IsOpened p.db p.view) (opening : Opening) (Holds : Saved → Pages → Type 0) where
  abbrev begin : World
  begin = opened_world opening p

  -- between two steps
  pub cut_recovers : (s : State) (rs : Records) → IsTied Holds p opening s rs → Recovers Holds p opening (cut_of rs) (committed s.store)
  cut_recovers s rs is =
      let w : World = At s is.disk in
      let k : ℕ = length is.disk.waiting in
      let right : IsRight s.store (left_by w k) is.disk.acknowledged = crash prints_again p was opening w is.run k in record {
        world = w;
        without = k;
        run = is.run;
        is = subst (λ (xs : List Numbered). IsCutOf Holds (cut_of rs) (image_of is.disk xs)) (sym (none_left is.disk.waiting)) is.records.cut;
        reading = right.reading;
        is_read = right.is_read;
        database = all_committed prints_again (reading_once one_statement) p was opening s is.disk is.run k right.reading right.is_read;
      }

  -- ---- faults

  -- of what is left where a fault stopped the machine
  abbrev Leaves : Store → Store → Cut → Type 0
  Leaves s next x = (db : Database) × ((db ≡ committed s) ⊎ (db ≡ committed next)) × Recovers Holds p opening x db

  halted : (s : State) (d : Disk) → Run begin (At s d) → (stopped : State) (next : Store) (e : Disk) → Happens (At s d) (Halted stopped next e)
      → (x : Cut) → IsCutOf Holds x (image_of e e.waiting) → Leaves s.store next x
  halted s d r stopped next e move x cut =
      let w : World = Halted stopped next e in
      let behind : Run begin w = then_move begin (At s d) w r move in
      let right : IsRight next (left_by w 0) e.acknowledged = crash prints_again p was opening w behind 0 in (
        (recovered right.reading).db,
        fault_crash prints_again (reading_once one_statement) p was opening s d r stopped next e move 0 right.reading right.is_read,
        record { world = w; without = 0; run = behind; is = cut; reading = right.reading; is_read = right.is_read; database = refl },
      )

  -- where a record waits that the disk failed to flush
  unflushed : (s : State) (rs : Records) (d : Disk) → Run begin (At s d) → AreOf Holds rs d → (stopped : State) (next : Store) (o : Option Record)
      → Happens (At s d) (Halted stopped next (with_record o s.log.next d)) → Leaves s.store next (cut_of (flushed_all (with_perhaps (schema_of s.store) s.log.next o rs)))
  unflushed s rs d r are stopped next o move =
      let e : Disk = with_record o s.log.next d in
      let v : World = At s d in
      let w : World = Halted stopped next e in
      let more : AreOf Holds (with_perhaps (schema_of s.store) s.log.next o rs) e =
      perhaps_more Holds (schema_of s.store) o s.log.next d rs are (leads p was opening v r) (spellable p was opening v w o s.log.next r (then_move begin v w r move) refl) in
      halted s d r stopped next e move (cut_of (flushed_all (with_perhaps (schema_of s.store) s.log.next o rs))) (cut_flushed Holds e (with_perhaps (schema_of s.store) s.log.next o rs) more)

  abbrev MayLeave : State → ℕ → Act → Cut → Type 0
  MayLeave s i a x = (db : Database) × MayCommit Holds s i a db × Recovers Holds p opening x db

  commit_fault : (s : State) (rs : Records) → IsTied Holds p opening s rs → (i : ℕ) (stopped : State) → May s i act.Commit → Does s i act.Commit (answer.Refused refusal.DiskFault) stopped
      → MayLeave s i act.Commit (cut_of (flushed_all (records_after s i act.Commit (answer.Refused refusal.DiskFault) [] rs)))
  commit_fault s rs is i stopped may d =
      let left = unflushed s rs is.disk is.run is.records stopped (does the_views s.store i Commits) (record_of s.store i act.Commit s.log Commits) (fails_commit s is.disk i stopped may d) in (
        left.0,
        record {
          said = answer.Committed ((committed s.store).number + 1);
          effects = Commits ∷ [];
          says = commits_as s.store i (changes_by s.store i) d.says.1;
          is = left.1;
        },
        left.2,
      )

  schema_fault : (s : State) (rs : Records) → IsTied Holds p opening s rs → (i : ℕ) (statement : StatementTree) (stopped : State) → May s i (act.Schema statement)
      → Does s i (act.Schema statement) (answer.Refused refusal.DiskFault) stopped
      → MayLeave s i (act.Schema statement) (cut_of (flushed_all (records_after s i (act.Schema statement) (answer.Refused refusal.DiskFault) [] rs)))
  schema_fault s rs is i statement stopped may d =
      let e : Effect = Defines d.says.3.object in
      let left = unflushed s rs is.disk is.run is.records stopped (does the_views s.store i e) (record_of s.store i (act.Schema statement) s.log e)
      (fails_define s is.disk i statement stopped may d e refl) in (
        left.0,
        record {
          said = answer.Committed d.says.1;
          effects = d.says.2;
          says = d.says.3;
          is = ⊎_elim (λ x. inl x) (λ y. inr (y ∙ ap (λ (es : List Effect). committed (stores.run the_views s.store i es)) (sym d.says.3.effects))) left.1;
        },
        left.2,
      )

  checkpoint_fault : (s : State) (rs : Records) → IsTied Holds p opening s rs → (i : ℕ) (stopped : State) → May s i act.Checkpoint → Does s i act.Checkpoint (answer.Refused refusal.DiskFault) stopped
      → (saved : Saved) → SavesAll Holds s saved → MayLeave s i act.Checkpoint (record { saved = saved; records = [] })
  checkpoint_fault s rs is i stopped may d saved so =
      let e : Disk = published (pages_now s.store) so.carried is.disk in
      let left = halted s is.disk is.run stopped s.store e (fails_after s is.disk i stopped may d so.carried so.are so.fall) (record { saved = saved; records = [] }) (cut_saved Holds s saved so is.disk) in (
        left.0,
        record { said = answer.Refused refusal.DiskFault; effects = d.effects; says = d.says; is = inl (⊎_elim (λ x. x) (λ y. y) left.1) },
        left.2,
      )

  pub fault_recovers : (s : State) (rs : Records) → IsTied Holds p opening s rs → (i : ℕ) (a : Act) (stopped : State) → May s i a → Does s i a (answer.Refused refusal.DiskFault) stopped
      → (x : Cut) → MayHave (λ y. x ≡ y) (SavesAll Holds s) a (records_after s i a (answer.Refused refusal.DiskFault) [] rs) → MayLeave s i a x
  fault_recovers s rs is i act.Commit stopped may d x same = subst (MayLeave s i act.Commit) (sym same) (commit_fault s rs is i stopped may d)
  fault_recovers s rs is i (act.Schema statement) stopped may d x same = subst (MayLeave s i (act.Schema statement)) (sym same) (schema_fault s rs is i statement stopped may d)
  fault_recovers s rs is i act.Checkpoint stopped may d x same = subst (MayLeave s i act.Checkpoint) (sym same.2) (checkpoint_fault s rs is i stopped may d same.0 same.1)
  fault_recovers s rs is i a stopped may d x same = absurd d.says
