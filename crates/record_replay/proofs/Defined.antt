-- A definition with its text, on a store that has what was replayed so far.
use Rattle.std.proofs.Common.{◌≡◌, ℕ, ◌+◌, List, length, Option, false, refl, sym, ap, subst, ◌∙◌, arith}
use Rattle.std.specs.Prelude.{◌≢◌}
use Rattle.iv_types.specs.Maps.{Map}
use Rattle.iv_meaning.specs.Objects.{schema_of}
use Rattle.iv_meaning.specs.Schema.{Schema, Object}
use Rattle.txn_log.specs.Appended.{Creates}
use Rattle.txn_log.specs.Replay.{Pages}
use Rattle.ghost_rows.specs.State.{State}
use Rattle.data_store.specs.Held.{IsHeld}
use Rattle.data_store.specs.declared.store.DataStore.{DataStore}
use Rattle.data_defining.specs.Defining.{with_object}
use Rattle.data_defining.proofs.Beside.{beside_held}
use Rattle.image_catalog.specs.Storing.{HasBefore, StoresKept}
use Rattle.image_catalog.specs.Texts.{AreMade}
use Rattle.definition_replay.specs.Replaying.{CanReplay, IsReplayed, IsNoneAccepted}
use Rattle.record_replay.specs.Past.{with_defined}
use Rattle.record_replay.specs.Standing.{contents_of, Has}
use Rattle.record_replay.specs.Telling.{DefinesOne, Defines}
use Rattle.record_replay.proofs.Standing.{objects_are}
use Rattle.record_replay.proofs.Texts.{told_in, told_closed, one_text}

module _ {M : Type 0} (maps : M → ℕ → Map) (limit : M → Option ℕ) (store : DataStore M) (p : Pages) (h : Has maps limit store p) where
  -- definitions can be replayed on it
  pub can_replay : CanReplay store.catalog (maps store.tables) store.views (told_in maps store p)
  can_replay = record { readable = record { held = (told_closed maps limit store p h).held; stored = h.stored }; sound = h.sound; unkept = λ session. refl }

  objects : schema_of store.catalog ≡ p.db.schema
  objects = objects_are maps limit store p h

  pub defines_none : (new : DataStore M) (text : List ℕ) → IsNoneAccepted store.catalog (maps store.tables) store.views text → Defines maps limit new p text false
  defines_none new text none = λ o creates accepted.
      none o (subst (λ (os : Schema). Creates os text o) (sym objects) creates) (told_in maps store p) can_replay p.db.number accepted

  -- one was replayed
  module _ (mid : DataStore M) (text : List ℕ) (replayed : IsReplayed store.catalog mid.catalog (maps store.tables) (maps mid.tables) store.views text) where
    abbrev o : Object
    o = replayed.object

    has_then : CanReplay mid.catalog (maps mid.tables) store.views (with_object (told_in maps store p) o)
    has_then = replayed.has (told_in maps store p) can_replay

    -- its text comes behind those that stand there
    pub has_before : (number : ℕ) → number ≡ length store.catalog + 1 → HasBefore number (maps mid.tables 0) h.texts.texts
    has_before number is =
        let many = h.texts.has.many in
        record { stored = has_then.readable.held.texts ∙ h.texts.has.are; number_is = omega (arith, is, many) }

    -- and then it stands there
    pub defines_one : (tables : M) → AreMade (schema_of mid.catalog) → mid.views ≡ store.views → limit mid.tables ≡ limit store.tables
        → ((i : ℕ) → i ≢ 0 → maps tables i ≡ maps mid.tables i) → limit tables ≡ limit mid.tables → StoresKept text h.texts.texts (maps tables 0)
        → DefinesOne maps limit (record mid { tables = tables }) p text
    defines_one tables made views unlimited others same_limit stores =
        let creates : Creates p.db.schema text o = subst (λ (os : Schema). Creates os text o) objects replayed.creates in
        record {
          object = o;
          creates = creates;
          accepted = replayed.accepted (told_in maps store p) can_replay p.db.number;
          has = record {
            made = made;
            closed = record {
              held = subst (λ (state : State). IsHeld mid.catalog (maps tables) state (contents_of (with_defined o p))) (sym views)
                  (beside_held mid.catalog (maps mid.tables) (maps tables) store.views (with_object (told_in maps store p) o) others has_then.readable.held);
              closed = ap (λ (state : State). state.rows) views ∙ h.closed.closed;
              unkept = λ session. refl;
            };
            stored = has_then.readable.stored;
            sound = has_then.sound;
            unlimited = same_limit ∙ (unlimited ∙ h.unlimited);
            texts = one_text (maps store.tables 0) (maps tables 0) store.catalog mid.catalog p.db.schema o text h.texts has_then.readable.held.objects creates stores;
          };
        }
