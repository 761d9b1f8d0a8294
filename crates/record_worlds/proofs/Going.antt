-- A step of the machine that no fault of the disk answers is a run of it with its log, and the records of a journal go with it.
use Rattle.std.proofs.Common.{◌≡◌, ℕ, List, [], ◌∷◌, ◌++◌, map, false, Option, Some, None, refl, sym, ap, subst, ◌∙◌}
use Rattle.std.proofs.lemmas.Bool.{false≢true}
use Rattle.iv_types.specs.declared.refusal.EngineRefusal.TheVariants as refusal
use Rattle.txn_machine.specs.Acts as act
use Rattle.txn_machine.specs.Acts.{Act}
use Rattle.txn_machine.specs.Answers as answer
use Rattle.txn_machine.specs.Answers.{Answer}
use Rattle.iv_types.specs.declared.lock.GroupDelta.{GroupDelta}
use Rattle.txn_machine.specs.Keeping.{KeptStep, Put, Pay}
use Rattle.txn_machine.specs.Ghosts.{the_views}
use Rattle.txn_machine.specs.Log.{Log, Opening, logs, log_all, record_of}
use Rattle.txn_machine.specs.Laws.{IsOpened}
use Rattle.txn_machine.specs.May.{May}
use Rattle.txn_machine.specs.Records.{Record}
use Rattle.txn_machine.specs.State.{State, is_fault, opened_state}
use Rattle.txn_machine.specs.Steps.{Does}
use Rattle.txn_machine.specs.Store as stores
use Rattle.txn_machine.specs.Store.{Store, Effect, Commits, Defines, Pays, Undoes, committed, now, opened, schema_of, does, paid_first, undone}
use Rattle.txn_log.specs.Replay.{Pages}
use Rattle.txn_log.specs.Appended.{Numbered, written}
use Rattle.txn_log.specs.Moments.{Disk, World, At, Amid, store_of, disk_of, image_of, opened_disk, with_record, flushed_all, pages_now, published, begins, acts, ends, flushes, acknowledges, publishes, Run, here, then_move, opened_world, IsRight}
use Rattle.txn_log.proofs.Happening.{AllSaid, all_said, crash}
use Rattle.txn_log.proofs.Lifting.{run_both, settled, is_saving}
use Rattle.txn_log.proofs.Printed.{prints_again}
use Rattle.log_disk.specs.Spelled.{IsSpellable, LeadTo}
use Rattle.log_disk.proofs.Spelling.{said_leads, right_last}
use Rattle.log_disk.proofs.Counted.{saves}
use Rattle.core_journal.specs.Records.{Saved, Records, with_perhaps, with_saved, recorded, recorded_all, records_after}
use Rattle.record_worlds.specs.Tied.{AreOf, IsTied, SavesAll, TiesTo}
use Rattle.record_worlds.proofs.Keeping.{settled_by, opened_of, perhaps_more, settled_after, cut_saved}

-- ---- what is acknowledged

same_acknowledged : (o : Option Record) (n : ℕ) (d : Disk) → (with_record o n d).acknowledged ≡ d.acknowledged
same_acknowledged None n d = refl
same_acknowledged (Some r) n d = refl

paid_number : (s : Store) (i : ℕ) (ds : List GroupDelta) → (committed (paid_first s i (now s i) ds)).number ≡ (committed s).number
paid_number s i [] = refl
paid_number s i (d ∷ ds) = refl

undone_number : (s : Store) (i : ℕ) (ks : List KeptStep) → (committed (undone s i (now s i) ks)).number ≡ (committed s).number
undone_number s i [] = refl
undone_number s i (Put c ds ∷ ks) = refl
undone_number s i (Pay d ∷ ks) = refl

-- what is committed is acknowledged after each effect
acknowledged_by : (s : Store) (i : ℕ) (e : Effect) (d : Disk) → d.acknowledged ≡ (committed s).number
    → (settled_by e (does the_views s i e) d).acknowledged ≡ (committed (does the_views s i e)).number
acknowledged_by s i Commits d is = refl
acknowledged_by s i (Defines object) d is = refl
acknowledged_by s i Pays d is = is ∙ sym (paid_number s i (now s i).owed)
acknowledged_by s i Undoes d is = is ∙ sym (undone_number s i (now s i).kept)
acknowledged_by s i e d is = is

-- a flush, where an effect has one
settles : (after : State) (i : ℕ) (a : Act) (s : Store) (l : Log) (es : List Effect) (d : Disk) → Run (Amid after i a s l es d) (Amid after i a s l es (settled s d))
settles after i a s l es d =
    let w : World = Amid after i a s l es d in
    let f : World = Amid after i a s l es (flushed_all d) in
    then_move w f (Amid after i a s l es (settled s d)) (then_move w w f (here w) (flushes w tt)) (acknowledges f refl tt)

settles_by : (e : Effect) (after : State) (i : ℕ) (a : Act) (s : Store) (l : Log) (es : List Effect) (d : Disk) → Run (Amid after i a s l es d) (Amid after i a s l es (settled_by e s d))
settles_by Commits after i a s l es d = settles after i a s l es d
settles_by (Defines object) after i a s l es d = settles after i a s l es d
settles_by e after i a s l es d = here (Amid after i a s l es d)

module _ (p : Pages) (was : IsOpened p.db p.view) (opening : Opening) where
  abbrev begin : World
  begin = opened_world opening p

  -- ---- the rows of a record that is appended

  -- the records lead to the definitions that stand
  pub leads : (w : World) → Run begin w → LeadTo (disk_of w).pages.db.schema ((disk_of w).waiting ++ (disk_of w).flushed) (schema_of (store_of w))
  leads w r =
      let said : AllSaid (store_of w) (disk_of w) = all_said prints_again p was opening w r in
      subst (LeadTo (disk_of w).pages.db.schema ((disk_of w).waiting ++ (disk_of w).flushed)) (sym said.schema)
      (said_leads (disk_of w).pages.db.schema ((disk_of w).waiting ++ (disk_of w).flushed) said.events said.say)

  pub spellable : (v w : World) (o : Option Record) (number : ℕ) → Run begin v → Run begin w → disk_of w ≡ with_record o number (disk_of v)
      → (r : Record) → o ≡ Some r → IsSpellable (schema_of (store_of v)) r
  spellable v w o number before behind disk r is =
      let d : Disk = disk_of v in
      let x : Numbered = record { number = number; of = r } in
      let right : IsRight (store_of w) (image_of (with_record (Some r) number d) (x ∷ d.waiting)) (disk_of w).acknowledged =
      subst (λ (e : Disk). IsRight (store_of w) (image_of e e.waiting) (disk_of w).acknowledged) (disk ∙ ap (λ (q : Option Record). with_record q number d) is) (crash prints_again p was opening w behind 0) in
      right_last (store_of w) d.pages (map written d.carried) x (d.waiting ++ d.flushed) (disk_of w).acknowledged right (schema_of (store_of v)) (leads v before)

  module _ (Holds : Saved → Pages → Type 0) where
    pub opened_tied : (rs : Records) → Holds rs.saved p → rs.saved.carried ≡ [] → rs.flushed ≡ [] → rs.waiting ≡ [] → IsTied Holds p opening (opened_state opening (opened p.db p.view)) rs
    opened_tied rs holds carried flushed waiting = record { disk = opened_disk p; run = here begin; records = opened_of Holds p rs holds carried flushed waiting; acknowledged = refl }

    -- ---- within a step

    -- effects are to come, and a journal has the records of those that are done
    record IsWithin (after : State) (i : ℕ) (a : Act) (s : Store) (l : Log) (es : List Effect) (rs : Records) : Type 0 where
      disk : Disk
      run : Run begin (Amid after i a s l es disk)
      records : AreOf Holds rs disk
      acknowledged : disk.acknowledged ≡ (committed s).number

    one_effect : (after : State) (i : ℕ) (a : Act) (s : Store) (l : Log) (e : Effect) (es : List Effect) (rs : Records) → IsWithin after i a s l (e ∷ es) rs
        → IsWithin after i a (does the_views s i e) (logs s i a e l) es (recorded s i a e l rs)
    one_effect after i a s l e es rs is =
        let o : Option Record = record_of s i a l e in
        let t : Store = does the_views s i e in
        let m : Log = logs s i a e l in
        let d : Disk = with_record o l.next is.disk in
        let u : World = Amid after i a s l (e ∷ es) is.disk in
        let v : World = Amid after i a t m es d in
        let r : Run begin v = then_move begin u v is.run (acts after i a s l e es is.disk) in
        let more : AreOf Holds (with_perhaps (schema_of s) l.next o rs) d =
        perhaps_more Holds (schema_of s) o l.next is.disk rs is.records (leads u is.run) (spellable u v o l.next is.run r refl) in record {
          disk = settled_by e t d;
          run = run_both begin v (Amid after i a t m es (settled_by e t d)) r (settles_by e after i a t m es d);
          records = settled_after Holds e t d (with_perhaps (schema_of s) l.next o rs) more;
          acknowledged = acknowledged_by s i e d (same_acknowledged o l.next is.disk ∙ is.acknowledged);
        }

    all_effects : (after : State) (i : ℕ) (a : Act) (s : Store) (l : Log) (es : List Effect) (rs : Records) → IsWithin after i a s l es rs
        → IsWithin after i a (stores.run the_views s i es) (log_all s i a es l) [] (recorded_all s i a es l rs)
    all_effects after i a s l [] rs is = is
    all_effects after i a s l (e ∷ es) rs is = all_effects after i a (does the_views s i e) (logs s i a e l) es (recorded s i a e l rs) (one_effect after i a s l e es rs is)

    begun : (s : State) (rs : Records) → IsTied Holds p opening s rs → (i : ℕ) (a : Act) (said : Answer) (after : State) → May s i a → (d : Does s i a said after) → is_fault said ≡ false
        → IsWithin after i a s.store s.log d.effects rs
    begun s rs is i a said after may d fine = record {
      disk = is.disk;
      run = then_move begin (At s is.disk) (Amid after i a s.store s.log d.effects is.disk) is.run (begins s is.disk i a said after may d fine);
      records = is.records;
      acknowledged = is.acknowledged;
    }

    -- ---- steps

    -- one that is no checkpoint
    other_tied : (s : State) (rs : Records) → IsTied Holds p opening s rs → (i : ℕ) (a : Act) (said : Answer) (after : State) → May s i a → (d : Does s i a said after) → is_fault said ≡ false
        → is_saving a ≡ false → IsTied Holds p opening after (recorded_all s.store i a d.effects s.log rs)
    other_tied s rs is i a said after may d fine other =
        let t : Store = stores.run the_views s.store i d.effects in
        let l : Log = log_all s.store i a d.effects s.log in
        let all : IsWithin after i a t l [] (recorded_all s.store i a d.effects s.log rs) = all_effects after i a s.store s.log d.effects rs (begun s rs is i a said after may d fine) in
        let w : World = Amid after i a t l [] all.disk in record {
          disk = all.disk;
          run = then_move begin w (At after all.disk) all.run (ends after i a t l all.disk (record { acknowledged = all.acknowledged; published = λ e. absurd (false≢true (sym other ∙ ap is_saving e)) }));
          records = all.records;
          acknowledged = all.acknowledged ∙ sym (ap (λ (x : State). (committed x.store).number) d.left);
        }

    saved_tied : (s : State) (rs : Records) (i : ℕ) (after : State) → IsWithin after i act.Checkpoint s.store s.log [] rs → after.store ≡ s.store → (n : ℕ) (es : List Effect)
        → (saved : Saved) → SavesAll Holds s saved → IsTied Holds p opening after (with_saved saved (records_after s i act.Checkpoint (answer.Saved n) es rs))
    saved_tied s rs i after is left n es saved so =
        let d : Disk = published (pages_now s.store) so.carried is.disk in
        let u : World = Amid after i act.Checkpoint s.store s.log [] is.disk in
        let v : World = Amid after i act.Checkpoint s.store s.log [] d in record {
          disk = d;
          run = then_move begin v (At after d) (then_move begin u v is.run (publishes u so.carried so.are so.fall))
              (ends after i act.Checkpoint s.store s.log d (record { acknowledged = is.acknowledged; published = λ e. (refl, refl, refl) }));
          records = record { cut = cut_saved Holds s saved so is.disk; long = refl; spelled_all = tt };
          acknowledged = is.acknowledged ∙ sym (ap (λ (x : Store). (committed x).number) left);
        }

    checkpoint_ties : (s : State) (rs : Records) → IsTied Holds p opening s rs → (i : ℕ) (said : Answer) (after : State) → May s i act.Checkpoint → (d : Does s i act.Checkpoint said after)
        → is_fault said ≡ false → TiesTo Holds (IsTied Holds p opening after) (SavesAll Holds s) act.Checkpoint said (records_after s i act.Checkpoint said d.effects rs)
    checkpoint_ties s rs is i said after may d fine =
        let answered : (n : ℕ) × (said ≡ answer.Saved n) × (d.effects ≡ []) = saves s i said d.effects d.says fine in
        let within : IsWithin after i act.Checkpoint s.store s.log [] rs =
        subst (λ (es : List Effect). IsWithin after i act.Checkpoint s.store s.log es rs) answered.2 (begun s rs is i act.Checkpoint said after may d fine) in
        let left : after.store ≡ s.store = ap (λ (x : State). x.store) d.left ∙ ap (stores.run the_views s.store i) answered.2 in
        subst (λ (x : Answer). TiesTo Holds (IsTied Holds p opening after) (SavesAll Holds s) act.Checkpoint x (records_after s i act.Checkpoint x d.effects rs)) (sym answered.1)
        (saved_tied s rs i after within left answered.0 d.effects)

    pub step_ties : (s : State) (rs : Records) → IsTied Holds p opening s rs → (i : ℕ) (a : Act) (said : Answer) (after : State) → May s i a → (d : Does s i a said after) → is_fault said ≡ false
        → TiesTo Holds (IsTied Holds p opening after) (SavesAll Holds s) a said (records_after s i a said d.effects rs)
    step_ties s rs is i act.Checkpoint said after may d fine = checkpoint_ties s rs is i said after may d fine
    step_ties s rs is i act.Commit (answer.Refused refusal.DiskFault) after may d fine = absurd (false≢true (sym fine))
    step_ties s rs is i (act.Schema statement) (answer.Refused refusal.DiskFault) after may d fine = absurd (false≢true (sym fine))
    step_ties s rs is i a said after may d fine = other_tied s rs is i a said after may d fine refl
