-- One record after another.
use Rattle.std.proofs.Common.{◌≡◌, ℕ, suc, ◌+◌, ◌^◌, ◌<◌, List, [], ◌∷◌, length, get_or, drop, Option, refl, sym, ap, subst, ◌∙◌, inr, arith, add-one, drop-cons}
use Rattle.iv_types.specs.Maps.{Map}
use Rattle.iv_meaning.specs.Schema.{Schema}
use Rattle.iv_meaning.specs.Objects.{schema_of}
use Rattle.txn_log.specs.Replay.{Deed, Event, Pages}
use Rattle.txn_log.specs.Refused.{Placed}
use Rattle.log_records.specs.declared.record.Record as bytes
use Rattle.log_records.specs.declared.record.Scanned.{Scanned}
use Rattle.data_store.specs.declared.store.DataStore.{DataStore}
use Rattle.log_disk.specs.Spelled.{LeadTo}
use Rattle.log_disk.specs.Placed.{StandsFor, known}
use Rattle.log_disk.proofs.Spelling.{said_leads}
use Rattle.record_replay.specs.declared.answer.Head.{Head}
use Rattle.record_replay.specs.declared.answer.Replayed.{Replayed}
use Rattle.record_replay.specs.declared.answer.Replayed.TheVariants.{Passed, Broken}
use Rattle.record_replay.specs.declared.replay.Replay.{Replay}
use Rattle.record_replay.specs.Past.{Past, carrying, left_by, pages_in, with_record, Comes, IsReadable}
use Rattle.record_replay.specs.Standing.{HasReplayed}
use Rattle.record_replay.specs.Telling.{TellsCarried, Tells}
use Rattle.record_replay.proofs.Passing.{schema_is, readable_comes}
use Rattle.record_replay.proofs.Standing.{objects_are}
use Rattle.log_replay.specs.Through.{IsCarriedAt, CarryTo, GoTo}
use Rattle.log_replay.specs.Told.{TellsEachCarried, TellsEach}
use Rattle.log_replay.proofs.Through.{carried_breaks, further_breaks, said_known}

stands_as : (objects : Schema) (s : Scanned) (o : _) (n : ℕ) → n ≡ s.number → StandsFor objects (record { number = s.number; entry = s.entry }) o → StandsFor objects (record { number = n; entry = s.entry }) o
stands_as objects s o n e h = subst (λ m. StandsFor objects (record { number = m; entry = s.entry }) o) (sym e) h

pub carried_comes : (at : ℕ) (objects : Schema) (s : Scanned) (r : Placed) (head : Head) → (at + s.place < 2 ^ 64 → head.place ≡ at + s.place) → head.number ≡ s.number → IsCarriedAt at objects s r → Comes objects head s.entry r
carried_comes at objects s r head place number is = record { place = is.place ∙ sym (place (let low = is.low in let same = is.place in omega (arith, low, same))); stands_for = stands_as objects s r.entry head.number number is.stands_for }

module _ {M : Type 0} (maps : M → ℕ → Map) (limit : M → Option ℕ) where
  -- ---- carried records

  -- some were replayed, and these are left
  pub record CarriesOn (now : Replay M) (at : ℕ) (p : Pages) (ss : List Scanned) (all : List Placed) : Type 0 where
    pub rs : List Placed
    pub ds : List Deed
    pub replayed : HasReplayed maps limit now (carrying p rs ds)
    pub rest : CarryTo at p.db.schema rs ss all

  module _ (at : ℕ) (p : Pages) (all : List Placed) (old now : Replay M) (s : Scanned) (ss : List Scanned) (on : CarriesOn old at p (s ∷ ss) all) where
    pub carry_more : TellsCarried maps limit now p on.rs on.ds on.rest.0 Passed → CarriesOn now at p ss all
    carry_more told = record { rs = on.rest.0 ∷ on.rs; ds = told.0 ∷ on.ds; replayed = told.2; rest = on.rest.2 }

    pub carry_breaks : (answer : Replayed) → (answer ≡ Passed → ⊥) → TellsCarried maps limit now p on.rs on.ds on.rest.0 answer → TellsEachCarried maps limit now p all answer
    carry_breaks Passed none told = absurd (none refl)
    carry_breaks (Broken bad) none told = (told.0, carried_breaks at p.db.schema ss (on.rest.0 ∷ on.rs) all bad.place on.rest.2 (inr (told.1, on.ds, on.replayed.passed.carried, told.2)))

  pub carried_all : (at : ℕ) (p : Pages) (all : List Placed) (now : Replay M) → CarriesOn now at p [] all → TellsEachCarried maps limit now p all Passed
  carried_all at p all now on = (on.ds, subst (λ (rs : List Placed). HasReplayed maps limit now (carrying p rs on.ds)) (sym on.rest) on.replayed)

  -- ---- further records

  abbrev pub going : Pages → List Placed → List Deed → List Placed → List Event → Past
  going p first ds rs es = record { pages = p; first = first; carried = ds; after = rs; events = es }

  pub record GoesOn (now : Replay M) (at : ℕ) (p : Pages) (first : List Placed) (ds : List Deed) (ss : List Scanned) (all : List Placed) : Type 0 where
    pub rs : List Placed
    pub es : List Event
    pub replayed : HasReplayed maps limit now (going p first ds rs es)
    pub rest : GoTo at p.db.schema rs ss all

  module _ (at : ℕ) (p : Pages) (first : List Placed) (ds : List Deed) (all : List Placed) (old now : Replay M) (s : Scanned) (ss : List Scanned) (on : GoesOn old at p first ds (s ∷ ss) all) where
    abbrev x : Past
    x = going p first ds on.rs on.es

    pub further_comes : (head : Head) → (at + s.place < 2 ^ 64 → head.place ≡ at + s.place) → head.number ≡ s.number → Comes (left_by x).db.schema head s.entry on.rest.0
    further_comes head place number =
        let leads : LeadTo p.db.schema (known on.rs) (left_by x).db.schema
        = subst (LeadTo p.db.schema (known on.rs)) (sym (schema_is x)) (said_leads p.db.schema (known on.rs) on.es (said_known p first ds on.rs on.es on.replayed.passed.events)) in
        record { place = on.rest.1.place ∙ sym (place (let low = on.rest.1.low in let same = on.rest.1.place in omega (arith, low, same))); stands_for = stands_as (left_by x).db.schema s on.rest.0.entry head.number number (on.rest.1.stands_for (left_by x).db.schema leads) }

    pub go_more : Tells maps limit now x on.rest.0 Passed → GoesOn now at p first ds ss all
    go_more told = record { rs = on.rest.0 ∷ on.rs; es = told.0 ∷ on.es; replayed = told.2; rest = on.rest.2 }

    pub go_breaks : (answer : Replayed) → (answer ≡ Passed → ⊥) → Tells maps limit now x on.rest.0 answer → TellsEach maps limit now p first ds all answer
    go_breaks Passed none told = absurd (none refl)
    go_breaks (Broken bad) none told = further_breaks at p first ds ss (on.rest.0 ∷ on.rs) all bad.rule bad.place on.rest.2 (inr (on.es, on.replayed.passed.events, told))

  pub gone_all : (at : ℕ) (p : Pages) (first : List Placed) (ds : List Deed) (all : List Placed) (now : Replay M) → GoesOn now at p first ds [] all → TellsEach maps limit now p first ds all Passed
  gone_all at p first ds all now on = (on.es, subst (λ (rs : List Placed). HasReplayed maps limit now (going p first ds rs on.es)) (sym on.rest) on.replayed)

  -- ---- whatever the records stand for

  pub carry_some : (old now : Replay M) (head : Head) (fields : bytes.Record) (p : Pages) (first : List Placed) (ds : List Deed) → HasReplayed maps limit old (carrying p first ds) → IsReadable (schema_of old.store.catalog) fields
      → ((r : Placed) → Comes p.db.schema head fields r → TellsCarried maps limit now p first ds r Passed) → (p : Pages) × (first : List Placed) × (ds : List Deed) × HasReplayed maps limit now (carrying p first ds)
  carry_some old now head fields p first ds h reads told =
      let comes = readable_comes p.db.schema head fields (subst (λ (objects : Schema). IsReadable objects fields) (objects_are maps limit old.store (pages_in (left_by (carrying p first ds))) h.store) reads) in
      let more = told comes.0 comes.1 in
      (p, comes.0 ∷ first, more.0 ∷ ds, more.2)

  pub go_some : (old now : Replay M) (head : Head) (fields : bytes.Record) (x : Past) → HasReplayed maps limit old x → IsReadable (schema_of old.store.catalog) fields
      → ((r : Placed) → Comes (left_by x).db.schema head fields r → Tells maps limit now x r Passed) → (x : Past) × HasReplayed maps limit now x
  go_some old now head fields x h reads told =
      let comes = readable_comes (left_by x).db.schema head fields (subst (λ (objects : Schema). IsReadable objects fields) (objects_are maps limit old.store (pages_in (left_by x)) h.store) reads) in
      let more = told comes.0 comes.1 in
      (with_record x comes.0 more.0, more.2)

-- the others of the store's fields stay
pub rest_on : {M : Type 0} (a b c : DataStore M) → b ≡ record a { catalog = b.catalog; tables = b.tables; views = b.views } → c ≡ record b { catalog = c.catalog; tables = c.tables; views = c.views }
    → c ≡ record a { catalog = c.catalog; tables = c.tables; views = c.views }
rest_on {M = M} a b c h k = k ∙ ap (λ (d : DataStore M). record d { catalog = c.catalog; tables = c.tables; views = c.views }) h

-- the next of some records
pub next_of : (records : List Scanned) (i : ℕ) (s : Scanned) → i < length records → s ≡ get_or records i s → drop i records ≡ s ∷ drop (i + 1) records
next_of records i s less is = rw (add-one, drop-cons records i s) (ap (λ (x : Scanned). x ∷ drop (suc i) records) (sym is))
