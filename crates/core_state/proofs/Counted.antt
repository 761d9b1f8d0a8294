-- What a core's history and open transactions count.
use Rattle.std.specs.Prelude.{◌≡◌, ℕ, [], Option, Some}
use mathlib.Core.Path.{sym, ◌∙◌}
use mathlib.Core.Logic.{inl, inr}
use Rattle.std.proofs.lemmas.Option.{none-some}
use Rattle.iv_types.specs.Maps.{Map}
use Rattle.iv_types.specs.declared.statement.Mode.TheVariants.{Snapshot}
use Rattle.txn_machine.specs.Counts.{definition_sizes}
use Rattle.txn_machine.specs.Keeping.{Open}
use Rattle.txn_machine.specs.State.{State}
use Rattle.txn_machine.specs.Steps.{history_bytes}
use Rattle.txn_machine.specs.Store.{committed, schema_of}
use Rattle.txn_machine.proofs.Seats.{session_or, nobody_open}
use Rattle.txn_book.specs.Books.{IsBook, total_bytes}
use Rattle.txn_book.proofs.Totals.{bytes_law}
use Rattle.core_state.specs.Stands.{Began}
use Rattle.core_state.specs.declared.state.CoreState.{CoreState}
use Rattle.core_state.proofs.Sessions.{snapshots_bare}

-- the machine counts the same
pub counted : {M : Type 0} (maps : M → ℕ → Map) (spare : M → ℕ → ℕ) (limit : M → Option ℕ) (core : CoreState M) (s : State) (i : ℕ) → Began maps spare limit core s i → IsBook core.book → total_bytes core.book ≡ history_bytes s
counted maps spare limit core s i h good =
    bytes_law core.book (schema_of s.store) s.store.open_of s.log.logged s.store.history (committed s.store).number (definition_sizes s.definitions) good h.holds.book each
  where
    each : (j : ℕ) (t : Open) → s.store.open_of j ≡ Some t → t.mode ≡ Snapshot → t.kept ≡ []
    each j t e mode = elim (session_or j) [ inl js ↦ snapshots_bare maps spare limit core s i h j t js e mode | inr n ↦ absurd (none-some t (sym (nobody_open s h.reached j n) ∙ e)) ]
