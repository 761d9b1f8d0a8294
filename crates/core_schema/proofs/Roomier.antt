-- A core of which nothing changed but room.
use Rattle.std.specs.Prelude.{◌≡◌, ℕ, ◌≤◌, Option, Result, Ok, Err, OnErr}
use Rattle.std.specs.List.{AllZip}
use mathlib.Core.Path.{sym, ap, subst, ◌∙◌}
use Rattle.std.proofs.Common.{arith}
use Rattle.iv_types.specs.Maps.{Map}
use Rattle.txn_machine.specs.State.{State}
use Rattle.txn_machine.specs.Store.{schema_of}
use Rattle.txn_machine.specs.Steps.{texts_of}
use Rattle.txn_book.specs.Books.{Books, IsSame}
use Rattle.txn_book.specs.Holding as book
use Rattle.txn_book.specs.Opens.{open_at}
use Rattle.txn_book.proofs.Booking.{same_number}
use Rattle.data_store.specs.Contents.{contents_of}
use Rattle.data_store.specs.Held.{IsHeld}
use Rattle.core_state.specs.Rooms.{all_gone}
use Rattle.core_state.specs.Stands.{Began}
use Rattle.definition_parts.proofs.Staying.{same_texts}
use Rattle.core_state.specs.declared.state.CoreState.{CoreState}

-- what holds after whatever error
pub on_err_of : {A E : Type 0} {P : Type 0} (r : Result A E) → P → OnErr r P
on_err_of (Ok a) p = tt
on_err_of (Err e) p = p

pub roomier : {M : Type 0} (maps : M → ℕ → Map) (spare : M → ℕ → ℕ) (limit : M → Option ℕ) (core : CoreState M) (s : State) (i : ℕ) (after : Books) (tables : M) → Began maps spare limit core s i → IsSame core.book after
    → ((k : ℕ) → maps tables k ≡ maps core.store.tables k) → ((k : ℕ) → spare core.store.tables k ≤ spare tables k) → limit tables ≡ limit core.store.tables
    → Began maps spare limit (record core { store = record core.store { tables = tables }; book = after }) s i
roomier maps spare limit core s i after tables h same as_before more limits = record {
  reached = h.reached;
  opening = h.opening;
  runs = h.runs;
  holds = record {
    stored = (let P : (ℕ → Map) → Type 0 = λ ms. IsHeld core.store.catalog ms core.store.views (contents_of s.store) in subst P (λ x k. sym (as_before k) x) h.holds.stored);
    book = record {
      number = same_number core.book after same ∙ h.holds.book.number;
      nobody = ap (λ os. open_at os 0) same.opens ∙ h.holds.book.nobody;
      txns = λ j js. subst (λ os. book.IsSame (schema_of s.store) (open_at os j) (s.store.open_of j) (s.log.logged j)) (sym same.opens) (h.holds.book.txns j js);
      entries = subst (λ es. AllZip book.IsEntry es s.store.history) (sym same.history) h.holds.book.entries;
      bytes = same.entry_bytes ∙ h.holds.book.bytes;
    };
    locks = h.holds.locks;
    begun = h.holds.begun;
    next = h.holds.next;
    texts = same_texts (maps core.store.tables 0) (maps tables 0) core.store.catalog (texts_of s) h.holds.texts (as_before 0);
    row_mark = h.holds.row_mark;
    delta_mark = h.holds.delta_mark;
    most = limits ∙ h.holds.most;
    past = h.holds.past;
    ahead = h.holds.ahead;
    rooms = record {
      limited = h.holds.rooms.limited;
      undo = λ k. let were = h.holds.rooms.undo k in let gone : all_gone k after.opens ≡ all_gone k core.book.opens = ap (all_gone k) same.opens in let room = more k in omega (arith, were, gone, room);
      each = λ j js t there. h.holds.rooms.each j js t (sym (ap (λ os. open_at os j) same.opens) ∙ there);
    };
  };
  reserves = h.reserves;
  own = h.own;
  waiting = h.waiting;
  counts = record { steps = h.counts.steps; seats = h.counts.seats; few = h.counts.few; cleaner = h.counts.cleaner; removed = h.counts.removed; running = h.counts.running; begun = h.counts.begun; next = h.counts.next; stop = h.counts.stop };
}
