-- What changes of rows and deltas leave in a store.
use Rattle.std.proofs.Common.{◌≡◌, ℕ, length, Option, Some, None, refl, sym, ap, subst, ◌∙◌}
use Rattle.std.specs.Prelude.{IsSome, neg_ℤ, Result, Ok, Err, OnOk}
use Rattle.std.specs.FinMap.{get}
use Rattle.iv_types.specs.Maps.{Map}
use Rattle.iv_types.specs.declared.lock.GroupDelta.{GroupDelta}
use Rattle.iv_meaning.specs.Database.{Rows}
use Rattle.iv_meaning.specs.Objects.{schema_of}
use Rattle.query_laws.specs.Limited.{IsLimited}
use Rattle.txn_machine.specs.Deltas.{RowChange, place_of, negated}
use Rattle.txn_machine.specs.Stored.{add_to}
use Rattle.txn_machine.specs.ViewLaws.{AreSound}
use Rattle.txn_log.specs.Replay.{What, Wrote, Added, Pages, Stored, rows_with, rows_without}
use Rattle.txn_log.specs.Fitting.{IsKnown, IsGroup}
use Rattle.data_store.specs.Held.{IsHeld}
use Rattle.data_store.specs.declared.store.DataStore.{DataStore}
use Rattle.data_store.proofs.Told.{untold_held}
use Rattle.image_catalog.specs.Texts.{AreMade}
use Rattle.image_catalog.proofs.Making.{made_so}
use Rattle.row_replay.specs.Exchanged.{with_rows}
use Rattle.group_replay.specs.Closed.{IsClosed, with_view}
use Rattle.group_replay.specs.Adding.{Tells}
use Rattle.group_replay.specs.declared.adding.AddedDelta.TheVariants as added
use Rattle.record_replay.specs.Past.{pages_in, with_rows_of}
use Rattle.record_replay.specs.Standing.{Has}
use Rattle.record_replay.specs.Telling.{Does, TakesBack}
use Rattle.record_replay.specs.declared.answer.Tried.TheVariants.{Done, Misfit, OutOfRange}
use Rattle.record_replay.proofs.Sound.{sound_with, sound_without, stored_added, length_negated}
use Rattle.record_replay.proofs.Standing.{has_view, objects_are}
use Rattle.record_replay.proofs.Texts.{told_in, texts_stay}

pub once_ok : {X E P Q : Type 0} (r : Result X E) → (P → Q) → OnOk r P → OnOk r Q
once_ok (Ok x) f p = f p
once_ok (Err e) f p = tt

none_there : {X A : Type 0} (o : Option X) → o ≡ None → IsSome o → A
none_there None e some = absurd (cc some)
none_there (Some x) e some = absurd (cc e)

module _ {M : Type 0} (maps : M → ℕ → Map) (limit : M → Option ℕ) (store : DataStore M) where
  pub limited : (p : Pages) → Has maps limit store p → IsLimited (schema_of store.catalog)
  limited p h = (made_so (schema_of store.catalog) h.made).limited

  pub known_there : (p : Pages) (w : What) → Has maps limit store p → IsKnown (schema_of store.catalog) w → IsKnown p.db.schema w
  known_there p w h k = subst (λ objects. IsKnown objects w) (objects_are maps limit store p h) k

  pub known_here : (p : Pages) (w : What) → Has maps limit store p → IsKnown p.db.schema w → IsKnown (schema_of store.catalog) w
  known_here p w h k = subst (λ objects. IsKnown objects w) (sym (objects_are maps limit store p h)) k

  module _ (new : DataStore M) (unlimited : limit new.tables ≡ limit store.tables) where
    -- other rows of tables
    has_rows : (p : Pages) (rows : Rows) → Has maps limit store p → new ≡ record store { tables = new.tables } → IsHeld new.catalog (maps new.tables) new.views (with_rows (told_in maps store p) rows)
        → AreSound p.db.schema rows → Has maps limit new (record { db = record p.db { rows = rows }; view = p.view })
    has_rows p rows h rest held sound = record {
      made = subst (λ (d : DataStore M). AreMade (schema_of d.catalog)) (sym rest) h.made;
      closed = record { held = untold_held new.catalog (maps new.tables) new.views (with_rows (told_in maps store p) rows) held; closed = ap (λ (d : DataStore M). d.views.rows) rest ∙ h.closed.closed; unkept = λ session. refl };
      stored = h.stored;
      sound = sound;
      unlimited = unlimited ∙ h.unlimited;
      texts = texts_stay (maps store.tables 0) (maps new.tables 0) store.catalog new.catalog p.db.schema held.texts (ap (λ (d : DataStore M). d.catalog) rest) h.texts;
    }

    -- with a delta
    has_added : (p : Pages) (d : GroupDelta) → Has maps limit store p → new ≡ record store { tables = new.tables; views = new.views }
        → IsClosed new.catalog (maps new.tables) new.views (with_view (told_in maps store p) (add_to p.view d)) → (g : IsGroup p.db.schema (place_of d)) → length d.sums ≡ length g.of.sums
        → Has maps limit new (record { db = p.db; view = add_to p.view d })
    has_added p d h rest closed g sums = has_view maps limit store new p (add_to p.view d) h (ap (λ (x : DataStore M). x.catalog) rest) unlimited closed (stored_added p.db.schema p.view d h.stored g sums)

    module _ (s : Stored) (h : Has maps limit store (pages_in s)) where
      pub does_set : (c : RowChange) → IsKnown (schema_of store.catalog) (Wrote c) → new ≡ record store { tables = new.tables }
          → (c.before ≡ get s.db.rows c.key) × IsHeld new.catalog (maps new.tables) new.views (with_rows (told_in maps store (pages_in s)) (rows_with (Wrote c) s.db.rows)) → Does maps limit new s (Wrote c) Done
      does_set c known rest told =
          (told.0, has_rows (pages_in s) (rows_with (Wrote c) s.db.rows) h rest told.1 (sound_with s.db.schema s.db.rows c h.sound (known_there (pages_in s) (Wrote c) h known)))

      pub takes_set : (c : RowChange) → IsKnown (schema_of store.catalog) (Wrote c) → new ≡ record store { tables = new.tables }
          → (get s.db.rows c.key ≡ c.after) × IsHeld new.catalog (maps new.tables) new.views (with_rows (told_in maps store (pages_in s)) (rows_without (Wrote c) s.db.rows)) → TakesBack maps limit new s (Wrote c) Done
      takes_set c known rest told =
          (told.0, has_rows (pages_in s) (rows_without (Wrote c) s.db.rows) h rest told.1 (sound_without s.db.schema s.db.rows c h.sound (known_there (pages_in s) (Wrote c) h known)))

      pub does_add : (d : GroupDelta) → IsKnown (schema_of store.catalog) (Added d) → new ≡ record store { tables = new.tables; views = new.views } → Tells s.view d added.Added
          → IsClosed new.catalog (maps new.tables) new.views (with_view (told_in maps store (pages_in s)) (add_to s.view d)) → Does maps limit new s (Added d) Done
      does_add d known rest told closed =
          let k = known_there (pages_in s) (Added d) h known in
          (told, has_added (pages_in s) d h rest closed k.0 k.1)

      pub takes_add : (d : GroupDelta) → IsKnown (schema_of store.catalog) (Added d) → new ≡ record store { tables = new.tables; views = new.views } → Tells s.view (negated d) added.Added
          → IsClosed new.catalog (maps new.tables) new.views (with_view (told_in maps store (pages_in s)) (add_to s.view (negated d))) → TakesBack maps limit new s (Added d) Done
      takes_add d known rest told closed =
          let k = known_there (pages_in s) (Added d) h known in
          (told, has_added (pages_in s) (negated d) h rest closed k.0 (length_negated d.sums neg_ℤ ∙ k.1))

    -- a carried Write
    pub carries : (p : Pages) (c : RowChange) → Has maps limit store p → IsKnown (schema_of store.catalog) (Wrote c) → new ≡ record store { tables = new.tables }
        → IsHeld new.catalog (maps new.tables) new.views (with_rows (told_in maps store p) (rows_with (Wrote c) p.db.rows)) → Has maps limit new (with_rows_of (Wrote c) p)
    carries p c h known rest held = has_rows p (rows_with (Wrote c) p.db.rows) h rest held (sound_with p.db.schema p.db.rows c h.sound (known_there p (Wrote c) h known))

  -- a delta that is not added
  pub no_row : (new : DataStore M) (s : Stored) (d : GroupDelta) → Tells s.view d added.NoRow → Does maps limit new s (Added d) Misfit
  no_row new s d none stands = none_there (get s.view (place_of d)) none stands.0

  pub no_row_back : (new : DataStore M) (s : Stored) (d : GroupDelta) → Tells s.view (negated d) added.NoRow → TakesBack maps limit new s (Added d) Misfit
  no_row_back new s d none stands = none_there (get s.view (place_of d)) none stands.0

  pub out_there : (new : DataStore M) (s : Stored) (d : GroupDelta) → Tells s.view d added.OutOfRange → Does maps limit new s (Added d) OutOfRange
  out_there new s d told = ((told.0, tt), λ stands. told.1 stands.1)

  pub out_back : (new : DataStore M) (s : Stored) (d : GroupDelta) → Tells s.view (negated d) added.OutOfRange → TakesBack maps limit new s (Added d) OutOfRange
  out_back new s d told = ((told.0, tt), λ stands. told.1 stands.1)
