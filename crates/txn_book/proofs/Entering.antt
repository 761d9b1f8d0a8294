-- A book that has the transactions of a state has them after a commit and after a definition.
use Rattle.std.specs.Prelude.{◌≡◌, ◌≢◌, ℕ, ◌+◌, List, [], ◌∷◌, ◌++◌, length, reverse, Option, None}
use Rattle.std.specs.List.{AllZip}
use mathlib.Core.Path.{refl, sym, ap, subst, ◌∙◌}
use Rattle.std.proofs.Common.{arith}
use Rattle.std.proofs.lemmas.List.{length-append}
use Rattle.table_laws.proofs.Stored.{by_session}
use Rattle.iv_types.specs.declared.lock.Change.{Change}
use Rattle.iv_types.specs.declared.statement.Mode.TheVariants.{Serial}
use Rattle.iv_meaning.specs.Schema.{Schema, Object}
use Rattle.iv_meaning.specs.History.{Entry}
use Rattle.iv_meaning.specs.Statement.{Kept, defines}
use Rattle.iv_meaning.specs.Escrow.{IsSession}
use Rattle.txn_machine.specs.Keeping as machine
use Rattle.txn_machine.specs.Store.{entry_changes}
use Rattle.txn_machine.specs.Counts as counts
use Rattle.txn_machine.specs.Counts.{size_of_entry}
use Rattle.txn_machine.specs.Log.{Logged}
use Rattle.txn_book.specs.Opens.{open_at}
use Rattle.txn_book.specs.Txns.{Txn, entry_size, changes_in}
use Rattle.txn_book.specs.Books.{Books, IsBook, Committed, Defined, entry_of}
use Rattle.txn_book.specs.Holding.{IsTxn, IsSame, IsEntry, Holds}
use Rattle.txn_book.proofs.Booking.{set_at, set_other}
use Rattle.txn_book.proofs.Totals.{zip_push, sum_with, entry_counts, entry_alike}

module _ (b : Books) (objects : Schema) (open_of : ℕ → Option machine.Open) (logged : ℕ → Logged) (history : List Entry) (greatest definitions : ℕ) (holds : Holds b objects open_of logged history greatest definitions)
    (session : ℕ) (after : Books) where
  abbrev next_entry : List Kept → Entry
  next_entry changes = record { number = greatest + 1; session = session; kept = changes }

  pub committed_holds : IsBook b → IsSession session → (open_after : ℕ → Option machine.Open) (logged_after : ℕ → Logged)
      → ((j : ℕ) → j ≢ session → (open_after j ≡ open_of j) × (logged_after j ≡ logged j)) → (t : Txn) (o : machine.Open) (l : Logged) → IsTxn objects t o l → o.mode ≡ Serial
      → open_after session ≡ None → Committed b after session t → Holds after objects open_after logged_after (history ++ next_entry (entry_changes o.kept) ∷ []) (greatest + 1) definitions
  committed_holds good of_session open_after logged_after others t o l is serial gone did = record {
    number = omega (arith, did.opened, ap length did.history, length-append b.history (entry_of b session (reverse (changes_in t.kept)) ∷ []), holds.number);
    nobody = ap (λ os. open_at os 0) did.opens ∙ (set_other b.opens session 0 None (λ e. absurd (omega (arith, e, of_session.0))) ∙ holds.nobody);
    txns = λ j js. by_session j session
        (λ e. subst (λ k. IsSame objects (open_at after.opens k) (open_after k) (logged_after k)) (sym e)
        (subst (λ x. IsSame objects x (open_after session) (logged_after session)) (sym (ap (λ os. open_at os session) did.opens ∙ set_at b.opens session None (omega (arith, good.places, of_session.1))))
        (subst (λ x. IsSame objects None x (logged_after session)) (sym gone) tt)))
        (λ n. subst (λ x. IsSame objects x (open_after j) (logged_after j)) (sym (ap (λ os. open_at os j) did.opens ∙ set_other b.opens session j None n))
        (subst (λ x. IsSame objects (open_at b.opens j) x (logged_after j)) (sym (others j n).0) (subst (λ x. IsSame objects (open_at b.opens j) (open_of j) x) (sym (others j n).1) (holds.txns j js))));
    entries = subst (λ es. AllZip IsEntry es (history ++ next_entry (entry_changes o.kept) ∷ [])) (sym did.history)
        (zip_push IsEntry b.history history (entry_of b session (reverse (changes_in t.kept))) (next_entry (entry_changes o.kept)) holds.entries (record { number = ap (λ n. n + 1) holds.number; session = refl; changes = entry_alike t.kept o.kept l.kept is.kept }));
    bytes = omega (arith, did.entry_bytes, holds.bytes, is.history_bytes, ap entry_size serial, sum_with (size_of_entry objects) history (next_entry (entry_changes o.kept)), entry_counts objects (greatest + 1) session o.kept);
  }

  -- a definition is kept as one change, whose row is its text
  pub defined_holds : (c : Change) (object : Object) (size : ℕ) → c.table ≡ 0 → Defined b after session (c ∷ []) (counts.entry_size + size)
      → Holds after objects open_of logged (history ++ next_entry (defines object ∷ []) ∷ []) (greatest + 1) (definitions + size)
  defined_holds c object size no_table did = record {
    number = omega (arith, did.opened, ap length did.history, length-append b.history (entry_of b session (c ∷ []) ∷ []), holds.number);
    nobody = ap (λ os. open_at os 0) did.opens ∙ holds.nobody;
    txns = subst (λ os. (j : ℕ) → IsSession j → IsSame objects (open_at os j) (open_of j) (logged j)) (sym did.opens) holds.txns;
    entries = subst (λ es. AllZip IsEntry es (history ++ next_entry (defines object ∷ []) ∷ [])) (sym did.history)
        (zip_push IsEntry b.history history (entry_of b session (c ∷ [])) (next_entry (defines object ∷ [])) holds.entries (record { number = ap (λ n. n + 1) holds.number; session = refl; changes = (no_table, tt) }));
    bytes = omega (arith, did.entry_bytes, holds.bytes, sum_with (size_of_entry objects) history (next_entry (defines object ∷ [])));
  }
