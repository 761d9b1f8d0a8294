-- No clause of `run` rests on this module: it serves contracts between crates.
--
-- What is answered of a record.
use Rattle.std.specs.Prelude.{◌≡◌, ℕ, Bool, true, false, List, ◌∷◌, Option, Some}
use Rattle.iv_types.specs.Maps.{Map}
use Rattle.iv_meaning.specs.Schema.{Schema, Object}
use Rattle.txn_log.specs.Replay.{What, Deed, Event, Pages, Stored, reversed}
use Rattle.txn_log.specs.Fitting.{InRange, WhatStands, BackFits, IsKnown, IsAccepted, AllBack}
use Rattle.txn_log.specs.Appended.{what_record, written, Creates}
use Rattle.txn_log.specs.Refused.{Placed, Anyhow, BackAnyhow, place_by, CarriedStands, Passes, BreaksBy, BackBreaks}
use Rattle.txn_log.specs.Reversals.{BreaksBack}
use Rattle.log_records.specs.declared.record.Record as bytes
use Rattle.log_disk.specs.Spelled.{in_bytes}
use Rattle.data_store.specs.declared.store.DataStore.{DataStore}
use Rattle.live_records.specs.declared.record.LiveRecord.{LiveRecord}
use Rattle.live_records.specs.Live.{what_of, deed_of}
use Rattle.record_replay.specs.Past.{Past, pages_in, with_what, without_what, with_defined, carrying, with_record}
use Rattle.record_replay.specs.Standing.{Has, HasReplayed}
use Rattle.record_replay.specs.declared.answer.Head.{Head}
use Rattle.record_replay.specs.declared.answer.Replayed.{Replayed}
use Rattle.record_replay.specs.declared.answer.Replayed.TheVariants.{Passed, Broken}
use Rattle.record_replay.specs.declared.answer.Tried.{Tried}
use Rattle.record_replay.specs.declared.answer.Tried.TheVariants.{Done, Misfit, OutOfRange}
use Rattle.record_replay.specs.declared.replay.Replay.{Replay}

-- ---- what a record says of a row

-- the record of these fields says what can be taken back, of a table or a view that is there
pub record Reads (objects : Schema) (head : Head) (fields : bytes.Record) (r : LiveRecord) : Type 0 where
  pub place : r.place ≡ head.place
  pub number : r.number ≡ head.number
  pub known : IsKnown objects (what_of r.change)
  pub fields_are : fields ≡ in_bytes objects (what_record r.transaction (what_of r.change))

-- the record is the one that a transaction keeps
pub record IsRecordOf (r : Placed) (q : LiveRecord) : Type 0 where
  pub place : r.place ≡ q.place
  pub entry : r.entry ≡ Some (written (deed_of q))

-- a record of these fields says no such thing
abbrev pub ReadsNone : Schema → bytes.Record → Type 0
ReadsNone objects fields = (transaction : ℕ) (w : What) → IsKnown objects w → fields ≡ in_bytes objects (what_record transaction w) → ⊥

module _ {M : Type 0} (maps : M → ℕ → Map) (limit : M → Option ℕ) where
  -- it is done, where it fits what stands there
  abbrev pub Does : DataStore M → Stored → What → Tried → Type 0
  Does new s w Done = WhatStands InRange s w × Has maps limit new (with_what w (pages_in s))
  Does new s w Misfit = WhatStands Anyhow s w → ⊥
  Does new s w OutOfRange = WhatStands Anyhow s w × (WhatStands InRange s w → ⊥)

  -- it is taken back, where that fits
  abbrev pub TakesBack : DataStore M → Stored → What → Tried → Type 0
  TakesBack new s w Done = BackFits s.db.rows s.view w × Has maps limit new (without_what w (pages_in s))
  TakesBack new s w Misfit = BackAnyhow s.db.rows s.view w → ⊥
  TakesBack new s w OutOfRange = BackAnyhow s.db.rows s.view w × (BackFits s.db.rows s.view w → ⊥)

  -- a record is taken back; or it breaks a rule, at its place
  abbrev pub TellsBack : DataStore M → LiveRecord → Stored → Replayed → Type 0
  TellsBack new q s Passed = BackFits s.db.rows s.view (what_of q.change) × Has maps limit new (without_what (what_of q.change) (pages_in s))
  TellsBack new q s (Broken bad) = (bad.place ≡ q.place) × BreaksBack bad.rule s.db.rows s.view (what_of q.change)

  -- a text makes an object that is accepted beside these pages, and the store has it with them
  pub record DefinesOne (new : DataStore M) (p : Pages) (text : List ℕ) : Type 0 where
    pub object : Object
    pub creates : Creates p.db.schema text object
    pub accepted : IsAccepted p.db object
    pub has : Has maps limit new (with_defined object p)

  -- it does, or it makes none that is accepted
  abbrev pub Defines : DataStore M → Pages → List ℕ → Bool → Type 0
  Defines new p text true = DefinesOne new p text
  Defines new p text false = (o : Object) → Creates p.db.schema text o → IsAccepted p.db o → ⊥

  -- ---- records one after another

  -- a carried record passed, and stands behind those before it; or rule 13 tells it
  abbrev pub TellsCarried : Replay M → Pages → List Placed → List Deed → Placed → Replayed → Type 0
  TellsCarried new p first ds r Passed = (d : Deed) × CarriedStands p.db.schema ds r d × HasReplayed maps limit new (carrying p (r ∷ first) (d ∷ ds))
  TellsCarried new p first ds r (Broken bad) = (bad.rule ≡ 13) × (bad.place ≡ r.place) × ((d : Deed) → CarriedStands p.db.schema ds r d → ⊥)

  -- a further record passed, and stands behind those before it; or it breaks a rule
  abbrev pub Tells : Replay M → Past → Placed → Replayed → Type 0
  Tells new x r Passed = (e : Event) × Passes x.pages x.first x.carried InRange BackFits x.events r e × HasReplayed maps limit new (with_record x r e)
  Tells new x r (Broken bad) = BreaksBy x.pages x.first x.carried bad.rule bad.place x.after x.events r

  -- what is left was taken back, or a reversal breaks a rule
  abbrev pub TellsReversed : DataStore M → List Placed → Stored → Replayed → Type 0
  TellsReversed new rs s Passed = AllBack s.live s.db.rows s.view × Has maps limit new (reversed s)
  TellsReversed new rs s (Broken bad) = BackBreaks (λ n. place_by n rs) s.live s.db.rows s.view bad.rule bad.place
