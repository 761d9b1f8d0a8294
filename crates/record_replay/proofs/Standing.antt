-- What stands in memory when a record more was replayed.
use Rattle.std.proofs.Common.{◌≡◌, ℕ, ◌+◌, ◌<◌, ◌≤◌, true, false, List, [], ◌∷◌, ◌++◌, Option, Some, refl, sym, ap, subst, ◌∙◌, arith, inl, inr}
use Rattle.std.specs.Prelude.{◌↔◌, not}
use Rattle.std.proofs.lemmas.Bool.{false≢true}
use Rattle.iv_types.specs.Maps.{Map}
use Rattle.iv_meaning.specs.Schema.{Schema}
use Rattle.txn_machine.specs.Stored.{ViewRows, AreStored}
use Rattle.txn_log.specs.Replay.{Deed, Event, Kept, Pages, Stored, apply, survives}
use Rattle.txn_log.specs.Fitting.{InRange, WhatStands, BackFits, Stands, IsKnown, CarriedBelow, AreBelow, number_of}
use Rattle.txn_log.specs.Meaning.{definitions}
use Rattle.txn_log.specs.Appended.{Numbered, written, Says}
use Rattle.txn_log.specs.Refused.{Placed, Anyhow, Untried, most_number, CarriedStands, Passes, BreaksBy}
use Rattle.txn_log.proofs.Refusing.{says_number, same_entry}
use Rattle.log_records.specs.declared.record.Record as bytes
use Rattle.log_records.specs.Spelling.{kind_of}
use Rattle.log_disk.specs.Spelled.{in_bytes}
use Rattle.data_store.specs.declared.store.DataStore.{DataStore}
use Rattle.group_replay.specs.Closed.{IsClosed, with_view}
use Rattle.live_records.specs.declared.kept.LiveRecords.{LiveRecords}
use Rattle.live_records.specs.declared.record.LiveRecord.{LiveRecord}
use Rattle.live_records.specs.Live.{what_of, deed_of, has_ended, SetsOne}
use Rattle.record_replay.specs.declared.answer.Head.{Head}
use Rattle.record_replay.specs.declared.answer.Replayed.TheVariants.{Passed}
use Rattle.record_replay.specs.declared.answer.Tried.TheVariants.{Done, Misfit, OutOfRange}
use Rattle.record_replay.specs.declared.replay.Replay.{Replay}
use Rattle.record_replay.specs.Past.{Past, carrying, left_by, pages_in, with_rows_of, Comes}
use Rattle.record_replay.specs.Standing.{Has, Keeps, AreLive, HasReplayed}
use Rattle.record_replay.specs.Telling.{Reads, ReadsNone, IsRecordOf, Does, Tells}
use Rattle.record_replay.proofs.Lists.{below_weaker}
use Rattle.record_replay.proofs.Live.{keeps_more}
use Rattle.record_replay.proofs.Passing.{refused, read_is, is_record, next_more, next_carried}
use Rattle.record_replay.proofs.Saying.{says_kept, says_deed}
use Rattle.record_replay.proofs.Texts.{told_in, untold_closed, texts_stay}

-- what transactions keep may be followed by a later number
pub live_later : (objects : Schema) (a b : ℕ) (xs : List Deed) → a ≤ b → AreLive objects a xs → AreLive objects b xs
live_later objects a b xs l h = record { known = h.known; fall = h.fall; below = below_weaker a b xs l h.below }

live_more : (objects : Schema) (next : ℕ) (xs : List Deed) (d : Deed) → AreLive objects next xs → IsKnown objects d.what → next ≤ d.number → AreLive objects (d.number + 1) (d ∷ xs)
live_more objects next xs d h known up =
    let below : CarriedBelow d.number xs = below_weaker next d.number xs up h.below in
    record { known = (known, h.known); fall = (below, h.fall); below = (omega arith, below_weaker d.number (d.number + 1) xs (omega arith) below) }

pub same_ended : (old new : LiveRecords) → new.ended ≡ old.ended → (t : ℕ) → has_ended new t ≡ has_ended old t
same_ended old new e t = ap (λ es. Rattle.std.specs.BTreeSet.contains Rattle.std.specs.Ordering.nat_cmp es t) e

module _ {M : Type 0} (maps : M → ℕ → Map) (limit : M → Option ℕ) where
  -- other rows of views
  pub has_view : (old new : DataStore M) (p : Pages) (rows : ViewRows) → Has maps limit old p → new.catalog ≡ old.catalog → limit new.tables ≡ limit old.tables
      → IsClosed new.catalog (maps new.tables) new.views (with_view (told_in maps old p) rows) → AreStored p.db.schema rows → Has maps limit new (record { db = p.db; view = rows })
  has_view old new p rows h same limited closed stored = record {
    made = subst (λ ds. Rattle.image_catalog.specs.Texts.AreMade (Rattle.iv_meaning.specs.Objects.schema_of ds)) (sym same) h.made;
    closed = untold_closed new.catalog (maps new.tables) new.views (with_view (told_in maps old p) rows) closed;
    stored = stored;
    sound = h.sound;
    unlimited = limited ∙ h.unlimited;
    texts = texts_stay (maps old.tables 0) (maps new.tables 0) old.catalog new.catalog p.db.schema closed.held.texts same h.texts;
  }

  -- a commit number changes nothing that is stored
  pub has_number : (store : DataStore M) (p : Pages) (n : ℕ) → Has maps limit store p → Has maps limit store (record { db = record p.db { number = n }; view = p.view })
  has_number store p n h = record { made = h.made; closed = h.closed; stored = h.stored; sound = h.sound; unlimited = h.unlimited; texts = h.texts }

  pub objects_are : (store : DataStore M) (p : Pages) → Has maps limit store p → Rattle.iv_meaning.specs.Objects.schema_of store.catalog ≡ p.db.schema
  objects_are store p h = h.closed.held.objects

  -- ---- carried records

  module _ (old : Replay M) (p : Pages) (first : List Placed) (ds : List Deed) (is : HasReplayed maps limit old (carrying p first ds)) where
    pub carried_more : (new : Replay M) (r : Placed) (q : LiveRecord) → IsRecordOf r q → IsKnown p.db.schema (what_of q.change) → old.next ≤ q.number → q.number ≤ most_number
        → Has maps limit new.store (with_rows_of (what_of q.change) (pages_in (left_by (carrying p first ds)))) → SetsOne old.live q.transaction q.number (Some q) new.live → new.live.ended ≡ old.live.ended
        → new.next ≡ q.number + 1 → new.commits ≡ old.commits → HasReplayed maps limit new (carrying p (r ∷ first) (deed_of q ∷ ds))
    carried_more new r q record_of known up small has sets ended next commits =
        let below : CarriedBelow q.number ds = (is.next q.number).1 up in
        record {
          passed = record { carried = ((record_of.entry, known, below, small), is.passed.carried); events = tt };
          store = has;
          kept = keeps_more first r (written (deed_of q)) record_of.entry old.live new.live ds q is.kept below refl record_of.place sets;
          live = subst (λ n. AreLive p.db.schema n (deed_of q ∷ ds)) (sym next) (live_more p.db.schema old.next ds (deed_of q) is.live known up);
          commits = commits ∙ is.commits;
          next = subst (λ n. (number : ℕ) → AreBelow number (deed_of q ∷ ds) [] ↔ (n ≤ number)) (sym next) (next_carried ds (deed_of q) old.next is.next up);
          small = (let same : new.next ≡ q.number + 1 = next in omega (arith, same, small));
          ended = λ t n l. is.ended t n (let least : new.next ≤ n = l in omega (arith, least, next, up)) ∙ ap not (sym (same_ended old.live new.live ended t));
        }

    module _ (head : Head) (fields : bytes.Record) (r : Placed) (comes : Comes p.db.schema head fields r) where
      pub carried_stands : (q : LiveRecord) → Reads p.db.schema head fields q → old.next ≤ q.number → q.number ≤ most_number → CarriedStands p.db.schema ds r (deed_of q)
      carried_stands q reads up small = ((read_is p.db.schema head fields r q comes reads).entry, reads.known, (is.next q.number).1 up, small)

      pub carried_unnumbered : ((old.next ≤ head.number) × (head.number ≤ most_number) → ⊥) → (d : Deed) → CarriedStands p.db.schema ds r d → ⊥
      carried_unnumbered none d h =
          let at = (is_record p.db.schema head fields r comes (written d) h.0).0 in
          none (subst (λ n. (old.next ≤ n) × (n ≤ most_number)) at ((is.next d.number).0 h.2, h.3))

      pub carried_none : ReadsNone p.db.schema fields → (d : Deed) → CarriedStands p.db.schema ds r d → ⊥
      carried_none none d h = none d.transaction d.what h.1 (sym (is_record p.db.schema head fields r comes (written d) h.0).1)

  -- ---- further records

  module _ (old : Replay M) (x : Past) (is : HasReplayed maps limit old x) where
    abbrev s : Stored
    s = left_by x

    -- one more passed
    pub one_more : (new : Replay M) (r : Placed) (e : Event) (k : ℕ) → Passes x.pages x.first x.carried InRange BackFits x.events r e → number_of e ≡ k → old.next ≤ k → k ≤ most_number
        → Has maps limit new.store (pages_in (apply e s)) → Keeps new.live (r ∷ (x.after ++ x.first)) (apply e s).live → AreLive (apply e s).db.schema (k + 1) (apply e s).live
        → new.commits ≡ (apply e s).db.number → new.next ≡ k + 1 → ((t n : ℕ) → k + 1 ≤ n → survives (e ∷ x.events) t n ≡ not (has_ended new.live t)) → Tells maps limit new x r Passed
    one_more new r e k passes number up small has keeps live commits next ended = (
      e,
      passes,
      record {
        passed = record { carried = is.passed.carried; events = (passes, is.passed.events) };
        store = has;
        kept = keeps;
        live = subst (λ n. AreLive (apply e s).db.schema n (apply e s).live) (sym next) live;
        commits = commits;
        next = subst (λ n. (m : ℕ) → AreBelow m x.carried (e ∷ x.events) ↔ (n ≤ m)) (sym next) (next_more x.carried x.events e old.next k is.next number up);
        small = (let same : new.next ≡ k + 1 = next in omega (arith, same, small));
        ended = λ t n l. ended t n (subst (λ m. m ≤ n) next l);
      },
    )

    -- a later number is free
    pub below_it : (k : ℕ) → old.next ≤ k → AreBelow k x.carried x.events
    below_it k up = (is.next k).1 up

    pub lives : (t k : ℕ) → old.next ≤ k → has_ended old.live t ≡ false → survives x.events t k ≡ true
    lives t k up h = is.ended t k up ∙ ap not h

    pub has_gone : (t k : ℕ) → old.next ≤ k → has_ended old.live t ≡ true → survives x.events t k ≡ true → ⊥
    has_gone t k up h e = false≢true (sym (is.ended t k up ∙ ap not h) ∙ e)

    pub unnumbered : (head : Head) (fields : bytes.Record) (r : Placed) → Comes s.db.schema head fields r → ((old.next ≤ head.number) × (head.number ≤ most_number) → ⊥)
        → BreaksBy x.pages x.first x.carried 13 head.place x.after x.events r
    unnumbered head fields r comes none = refused x head fields r comes (λ m e number fields_are says stands below small.
        let at : number_of e ≡ head.number = says_number s.db.schema m e says ∙ number in
        none (subst (λ n. (old.next ≤ n) × (n ≤ most_number)) at ((is.next (number_of e)).0 below, small)))

    -- ---- Writes and Deltas

    module _ (r : Placed) (q : LiveRecord) (record_of : IsRecordOf r q) (up : old.next ≤ q.number) where
      abbrev d : Deed
      d = deed_of q

      -- it says that and nothing else
      its_event : (m : Numbered) (e : Event) → r.entry ≡ Some m → Says (definitions x.pages.db.schema x.events) m e → e ≡ Kept d
      its_event m e entry says = says_deed (definitions x.pages.db.schema x.events) m d e (same_entry m (written d) (sym entry ∙ record_of.entry)) says

      pub kept_passes : IsKnown s.db.schema (what_of q.change) → has_ended old.live q.transaction ≡ false → q.number ≤ most_number → WhatStands InRange s (what_of q.change)
          → Passes x.pages x.first x.carried InRange BackFits x.events r (Kept d)
      kept_passes known open_still small stands = (written d, record_of.entry, refl, (lives q.transaction q.number up open_still, known, stands), below_it q.number up, small)

      pub kept_more : (new : Replay M) → IsKnown s.db.schema (what_of q.change) → has_ended old.live q.transaction ≡ false → q.number ≤ most_number → Does maps limit new.store s (what_of q.change) Done
          → SetsOne old.live q.transaction q.number (Some q) new.live → new.live.ended ≡ old.live.ended → new.next ≡ q.number + 1 → new.commits ≡ old.commits → Tells maps limit new x r Passed
      kept_more new known open_still small does sets ended next commits =
          one_more new r (Kept d) q.number (kept_passes known open_still small does.0) refl up small does.1
          (keeps_more (x.after ++ x.first) r (written d) record_of.entry old.live new.live s.live q is.kept (below_weaker old.next q.number s.live up is.live.below) refl record_of.place sets)
          (live_more s.db.schema old.next s.live d is.live known up)
          (commits ∙ is.commits) next
          (λ t n l. is.ended t n (omega (arith, l, up)) ∙ ap not (sym (same_ended old.live new.live ended t)))

      pub kept_misfit : (new : Replay M) → Does maps limit new.store s (what_of q.change) Misfit → BreaksBy x.pages x.first x.carried 13 q.place x.after x.events r
      kept_misfit new none = inl (refl, sym record_of.place, λ e p. none (subst (λ f. Stands Anyhow Untried s x.events f) (its_event p.0 e p.1 p.2) p.3).2)

      pub kept_ended : has_ended old.live q.transaction ≡ true → BreaksBy x.pages x.first x.carried 13 q.place x.after x.events r
      kept_ended ended = inl (refl, sym record_of.place, λ e p. has_gone q.transaction q.number up ended (subst (λ f. Stands Anyhow Untried s x.events f) (its_event p.0 e p.1 p.2) p.3).0)

      pub kept_out : (new : Replay M) → IsKnown s.db.schema (what_of q.change) → has_ended old.live q.transaction ≡ false → q.number ≤ most_number → Does maps limit new.store s (what_of q.change) OutOfRange
          → BreaksBy x.pages x.first x.carried 14 q.place x.after x.events r
      kept_out new known open_still small does = inr (inr (
        refl,
        Kept d,
        sym record_of.place,
        (written d, record_of.entry, refl, (lives q.transaction q.number up open_still, known, does.0), below_it q.number up, small),
        λ p. does.1 p.3.2,
      ))

    -- no Write and no Delta of these fields fits its table or view
    pub none_read : (head : Head) (fields : bytes.Record) (r : Placed) → Comes s.db.schema head fields r → kind_of fields < 3 → ReadsNone s.db.schema fields
        → BreaksBy x.pages x.first x.carried 13 head.place x.after x.events r
    none_read head fields r comes kind none = refused x head fields r comes (λ m e number fields_are says stands below small.
        let kept = says_kept s.db.schema m e says (subst (λ f. kind_of f < 3) (sym fields_are) kind) in
        none kept.0.transaction kept.0.what (subst (λ f. Stands Anyhow Untried s x.events f) kept.1 stands).1
        (sym (ap (λ (n : Numbered). in_bytes s.db.schema n.of) (sym kept.2) ∙ fields_are)))
