-- More room leaves what a core holds.
use Rattle.std.specs.Prelude.{◌≡◌, ℕ, ◌≤◌, List, Option, Some, refl}
use Rattle.std.specs.Option.{unwrap_or}
use mathlib.Core.Path.{sym, ap, subst, ◌∙◌}
use Rattle.std.proofs.Common.{arith}
use Rattle.iv_types.specs.Maps.{Map}
use Rattle.iv_types.specs.declared.lock.GroupDelta.{GroupDelta}
use Rattle.table_laws.specs.Place.{Place}
use Rattle.ghost_rows.specs.State.{HasSeat, room_of}
use Rattle.ghost_rows.specs.State as ghost
use Rattle.lock_desk.specs.PayWants.{wants_at}
use Rattle.query_laws.specs.Limited.{IsLimited}
use Rattle.txn_machine.specs.Counts.{definition_sizes}
use Rattle.txn_machine.specs.KeptLaws.{IsDelta}
use Rattle.txn_machine.specs.Keeping.{idle}
use Rattle.txn_machine.specs.Log.{Log}
use Rattle.txn_machine.specs.May.{IsOpen}
use Rattle.txn_machine.specs.Store.{Store, now, schema_of, committed}
use Rattle.txn_book.specs.Books.{Books, IsBook, Changes}
use Rattle.txn_book.specs.Opens.{open_at}
use Rattle.txn_book.specs.Txns.{txn_of}
use Rattle.txn_book.specs.declared.open_table.Open.{Open as BookOpen}
use Rattle.txn_book.proofs.Holding.{changed_holds}
use Rattle.data_changes.specs.Paying.{HasFor}
use Rattle.data_store.specs.Contents.{contents_of}
use Rattle.data_store.specs.Held.{IsHeld}
use Rattle.core_state.specs.Rooms.{gone_if}
use Rattle.core_state.specs.Stands.{Holds, Texts, all_texts}
use Rattle.definition_parts.proofs.Staying.{same_texts}
use Rattle.core_state.specs.declared.state.CoreState.{CoreState}
use Rattle.core_state.proofs.Rooms.{rooms_changed, elsewhere_same, covered_by}
use Rattle.core_effects.proofs.Opened.{Has, own}

module _ {M : Type 0} (maps : M → ℕ → Map) (spare : M → ℕ → ℕ) (limit : M → Option ℕ) (core : CoreState M) (s : Store) (l : Log) (texts : Texts) (h : Holds maps spare limit core s l texts) where
  -- in indexes
  pub entries_holds : (tables : M) → ((n : ℕ) → maps tables n ≡ maps core.store.tables n) → ((n : ℕ) → spare core.store.tables n ≤ spare tables n) → limit tables ≡ limit core.store.tables
      → Holds maps spare limit (record core { store = record core.store { tables = tables } }) s l texts
  entries_holds tables same more same_limit = record {
    stored = subst (λ ms. IsHeld core.store.catalog ms core.store.views (contents_of s)) (λ i. λ n. sym (same n) i) h.stored;
    book = h.book;
    locks = h.locks;
    begun = h.begun;
    next = h.next;
    texts = same_texts (maps core.store.tables 0) (maps tables 0) core.store.catalog (all_texts texts) h.texts (same 0);
    row_mark = h.row_mark;
    delta_mark = h.delta_mark;
    most = same_limit ∙ h.most;
    past = h.past;
    ahead = h.ahead;
    rooms = record {
      limited = h.rooms.limited;
      undo = λ index. let had = h.rooms.undo index in omega (arith, had, more index);
      each = h.rooms.each;
    };
  }

  -- in view rows
  pub views_holds : (views : ghost.State) → IsHeld core.store.catalog (maps core.store.tables) views (contents_of s) → ((j : ℕ) → room_of core.store.views j ≤ room_of views j) → ((j : ℕ) (place : Place) → HasSeat core.store.views place j → HasSeat views place j)
      → Holds maps spare limit (record core { store = record core.store { views = views } }) s l texts
  views_holds views stored rooms seats = record {
    stored = stored;
    book = h.book;
    locks = h.locks;
    begun = h.begun;
    next = h.next;
    texts = h.texts;
    row_mark = h.row_mark;
    delta_mark = h.delta_mark;
    most = h.most;
    past = h.past;
    ahead = h.ahead;
    rooms = record {
      limited = h.rooms.limited;
      undo = h.rooms.undo;
      each = λ j js t there. covered_by core.store.catalog core.store.views views core.locks core.locks (wants_at core.wants j) (wants_at core.wants j) j (txn_of t) (h.rooms.each j js t there) refl refl (rooms j) (λ place. seats j place);
    };
  }

  pub has_for : (d : GroupDelta) → IsDelta (schema_of s) d → HasFor core.store.catalog (maps core.store.tables) core.store.views d (contents_of s)
  has_for d delta = record { held = h.stored; of_view = record { of = delta.of; is = delta.view_is; sums = delta.sums } }

  pub limited_here : IsLimited (schema_of s)
  limited_here = subst IsLimited h.stored.objects h.rooms.limited

  -- in a session's transaction
  module _ (i : ℕ) (o : IsOpen s i) where
    abbrev pub mine : Has (schema_of s) (open_at core.book.opens i) (now s i) (l.logged i)
    mine = own maps spare limit core s l texts i h o

    pub step_holds : (after : Books) → IsBook core.book → ((t : BookOpen) → open_at core.book.opens i ≡ Some t → Changes core.book after i (txn_of t)) → Holds maps spare limit (record core { book = after }) s l texts
    step_holds after good same =
        let changes : Changes core.book after i (txn_of mine.txn) = same mine.txn mine.there in
        record {
          stored = h.stored;
          book = changed_holds core.book (schema_of s) s.open_of l.logged s.history (committed s).number (definition_sizes texts.since) h.book good i o.of_session after s.open_of l.logged
              (λ j n. (refl, refl)) (txn_of mine.txn) (now s i) changes (o.is_open ∙ ap Some (sym (ap (λ x. unwrap_or x idle) o.is_open))) mine.is;
          locks = h.locks;
          begun = h.begun;
          next = h.next;
          texts = h.texts;
          row_mark = h.row_mark;
          delta_mark = h.delta_mark;
          most = h.most;
          past = h.past;
          ahead = h.ahead;
          rooms = rooms_changed (spare core.store.tables) (spare core.store.tables) core.store.catalog core.store.views core.store.views core.book after core.locks core.locks core.wants core.wants i
              (txn_of mine.txn) good o.of_session h.rooms changes (λ index. let here : gone_if index (open_at core.book.opens i) ≡ gone_if index (Some mine.txn) = ap (gone_if index) mine.there in omega (arith, here)) (elsewhere_same i core.store.views core.locks core.wants)
              (h.rooms.each i o.of_session mine.txn mine.there);
        }
