-- A record that comes next passes, or none of what it may say does.
use Rattle.std.proofs.Common.{◌≡◌, ℕ, ◌+◌, ◌<◌, ◌≤◌, List, [], ◌∷◌, ◌++◌, Option, Some, None, refl, sym, ap, subst, ◌∙◌, arith, inl}
use Rattle.std.specs.Prelude.{◌↔◌, Result, Ok, Err, IfOk}
use Rattle.iv_meaning.specs.Schema.{Schema}
use Rattle.txn_machine.specs.Records as log
use Rattle.txn_log.specs.Replay.{Deed, Event, Kept, Ghost, Clean, Undo, Commit, Abort, Defined, Stored, find, undo_found, replay, on_pages}
use Rattle.txn_log.specs.Fitting.{InRange, BackFits, Stands, IsKnown, AreBelow, number_of}
use Rattle.txn_log.specs.Meaning.{definitions}
use Rattle.txn_log.specs.Appended.{Numbered, what_record, Says}
use Rattle.txn_log.specs.Refused.{Placed, Anyhow, Untried, most_number, Passes, BreaksBy}
use Rattle.log_records.specs.declared.record.Record as bytes
use Rattle.log_records.specs.Area.{Entry}
use Rattle.log_disk.specs.Spelled.{in_bytes, spelled, IsSpellable}
use Rattle.log_disk.specs.Placed.{StandsFor}
use Rattle.log_disk.proofs.Borne.{entry_once}
use Rattle.log_disk.proofs.Spelling.{carried_fits}
use Rattle.live_records.specs.declared.record.LiveRecord.{LiveRecord}
use Rattle.live_records.specs.Live.{what_of, deed_of}
use Rattle.record_replay.specs.declared.answer.Head.{Head}
use Rattle.record_replay.specs.declared.answer.Replayed.{Replayed}
use Rattle.record_replay.specs.declared.answer.Replayed.TheVariants.{Passed}
use Rattle.record_replay.specs.Past.{Past, left_by, Comes, IsReadable}
use Rattle.record_replay.specs.Telling.{Reads, IsRecordOf}

same_numbered : (m n : Numbered) → Some m ≡ Some n → m ≡ n
same_numbered m n e = cc

-- ---- what it stands for

module _ (objects : Schema) (head : Head) (fields : bytes.Record) (r : Placed) (comes : Comes objects head fields r) where
  abbrev entry : Entry
  entry = record { number = head.number; entry = fields }

  -- the record that it is, if its rows decode
  pub is_record : (m : Numbered) → r.entry ≡ Some m → (m.number ≡ head.number) × (in_bytes objects m.of ≡ fields)
  is_record m e =
      let stands : IsSpellable objects m.of × (entry ≡ spelled objects m) = subst (StandsFor objects entry) e comes.stands_for in
      (ap (λ (x : Entry). x.number) (sym stands.1), ap (λ (x : Entry). x.entry) (sym stands.1))

  abbrev this : log.Record → Numbered
  this of = record { number = head.number; of = of }

  -- one whose rows fit is the one that it is
  pub is_this : (of : log.Record) → IsSpellable objects of → fields ≡ in_bytes objects of → r.entry ≡ Some (this of)
  is_this of fits same = by r.entry refl
    where
      spells : entry ≡ spelled objects (this of)
      spells i = record { number = head.number; entry = same i }

      by : (o : Option Numbered) → r.entry ≡ o → r.entry ≡ Some (this of)
      by None e = absurd ((subst (StandsFor objects entry) e comes.stands_for) (this of) fits spells)
      by (Some m) e =
          let stands : IsSpellable objects m.of × (entry ≡ spelled objects m) = subst (StandsFor objects entry) e comes.stands_for in
          e ∙ ap (λ (n : Numbered). Some n) (entry_once objects m (this of) stands.0 fits (sym stands.1 ∙ spells))

known_fits : (objects : Schema) (d : Deed) → IsKnown objects d.what → IsSpellable objects (what_record d.transaction d.what)
known_fits objects d known = (carried_fits objects (d ∷ []) (known, tt)).0

-- what was read of it is what it is
pub read_is : (objects : Schema) (head : Head) (fields : bytes.Record) (r : Placed) (q : LiveRecord) → Comes objects head fields r → Reads objects head fields q → IsRecordOf r q
read_is objects head fields r q comes reads = record {
  place = comes.place ∙ sym reads.place;
  entry = is_this objects head fields r comes (what_record q.transaction (what_of q.change)) (known_fits objects (deed_of q) reads.known) reads.fields_are
      ∙ ap (λ n. Some (record { number = n; of = what_record q.transaction (what_of q.change) })) (sym reads.number);
}

-- what was read decodes
pub read_readable : (objects : Schema) (head : Head) (fields : bytes.Record) (q : LiveRecord) → Reads objects head fields q → IsReadable objects fields
read_readable objects head fields q reads = record { of = what_record q.transaction (what_of q.change); fits = known_fits objects (deed_of q) reads.known; fields_are = reads.fields_are }

-- so it stands for a record
pub readable_comes : (objects : Schema) (head : Head) (fields : bytes.Record) → IsReadable objects fields → (r : Placed) × Comes objects head fields r
readable_comes objects head fields is = (
  record { place = head.place; entry = Some (record { number = head.number; of = is.of }) },
  record { place = refl; stands_for = (is.fits, λ i. record { number = head.number; entry = is.fields_are i }) },
)

-- of any outcome
pub any_answer : {E P : Type 0} (r : Result Replayed E) → P → IfOk r (λ answer. answer ≡ Passed → P)
any_answer (Ok answer) p = λ e. p
any_answer (Err fault) p = tt

-- ---- it passes or not

undo_schema : (s : Stored) (o : Option Deed) → (undo_found s o).db.schema ≡ s.db.schema
undo_schema s None = refl
undo_schema s (Some x) = refl

-- the definitions that stand there
definitions_are : (start : Stored) (es : List Event) → (replay start es).db.schema ≡ definitions start.db.schema es
definitions_are start [] = refl
definitions_are start (Kept x ∷ es) = definitions_are start es
definitions_are start (Ghost n p c ∷ es) = definitions_are start es
definitions_are start (Clean n p ∷ es) = definitions_are start es
definitions_are start (Undo n t m ∷ es) = undo_schema (replay start es) (find t m (replay start es).live) ∙ definitions_are start es
definitions_are start (Commit n t k ∷ es) = definitions_are start es
definitions_are start (Abort n t ∷ es) = definitions_are start es
definitions_are start (Defined n k o ∷ es) = ap (λ (objects : Schema). objects ++ o ∷ []) (definitions_are start es)

module _ (x : Past) where
  abbrev s : Stored
  s = left_by x

  pub schema_is : s.db.schema ≡ definitions x.pages.db.schema x.events
  schema_is = definitions_are (on_pages x.pages x.carried) x.events

  -- ---- a record with these fields

  module _ (head : Head) (fields : bytes.Record) (r : Placed) (comes : Comes s.db.schema head fields r) where
    -- nothing that it may say fits
    pub refused : ((m : Numbered) (e : Event) → m.number ≡ head.number → in_bytes s.db.schema m.of ≡ fields → Says s.db.schema m e → Stands Anyhow Untried s x.events e
        → AreBelow (number_of e) x.carried x.events → number_of e ≤ most_number → ⊥) → BreaksBy x.pages x.first x.carried 13 head.place x.after x.events r
    refused none = inl (
      refl,
      sym comes.place,
      λ e p.
          let is = is_record s.db.schema head fields r comes p.0 p.1 in
          none p.0 e is.0 is.1 (subst (λ o. Says o p.0 e) (sym schema_is) p.2) p.3 p.4 p.5,
    )

    -- what it says fits
    pub accepted : (of : log.Record) (e : Event) → IsSpellable s.db.schema of → fields ≡ in_bytes s.db.schema of → Says s.db.schema (record { number = head.number; of = of }) e
        → Stands InRange BackFits s x.events e → AreBelow (number_of e) x.carried x.events → number_of e ≤ most_number → Passes x.pages x.first x.carried InRange BackFits x.events r e
    accepted of e fits same says stands below small = (
      record { number = head.number; of = of },
      is_this s.db.schema head fields r comes of fits same,
      subst (λ o. Says o (record { number = head.number; of = of }) e) schema_is says,
      stands,
      below,
      small,
    )

-- ---- numbers

-- where one record more stands
pub next_more : (carried : List Deed) (es : List Event) (e : Event) (next k : ℕ) → ((number : ℕ) → AreBelow number carried es ↔ (next ≤ number)) → number_of e ≡ k → next ≤ k
    → (number : ℕ) → AreBelow number carried (e ∷ es) ↔ (k + 1 ≤ number)
next_more carried es e next k is same up number = (
  (λ h. let less : number_of e < number = h.0 in omega (arith, less, same)),
  (λ l. ((let below : k + 1 ≤ number = l in omega (arith, below, same)), (is number).1 (omega (arith, l, up)))),
)

pub next_carried : (carried : List Deed) (d : Deed) (next : ℕ) → ((number : ℕ) → AreBelow number carried [] ↔ (next ≤ number)) → next ≤ d.number
    → (number : ℕ) → AreBelow number (d ∷ carried) [] ↔ (d.number + 1 ≤ number)
next_carried carried d next is up number = (
  (λ h. let less : d.number < number = h.0 in omega (arith, less)),
  (λ l. ((let below : d.number + 1 ≤ number = l in omega (arith, below)), (is number).1 (omega (arith, l, up)))),
)
