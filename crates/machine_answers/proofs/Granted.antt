-- Steps that ask for locks, where nobody is in the way.
use Rattle.std.specs.Prelude.{◌≡◌, ◌⊎◌, ℕ, ℤ, ◌+◌, ◌≤◌, ◌<◌, List, [], ◌∷◌, length, Option, Some, None, IsSome}
use Rattle.std.specs.FinMap.{get}
use mathlib.Core.Path.{refl, sym, ap, subst, ◌∙◌}
use mathlib.Core.Logic.{inl, inr}
use Rattle.iv_types.specs.declared.lock.LockMode.{LockMode}
use Rattle.iv_types.specs.declared.lock.Want.{Want}
use Rattle.iv_types.specs.declared.value.Interval.{Interval}
use Rattle.iv_types.specs.declared.refusal.EngineRefusal.TheVariants as refusal
use Rattle.iv_types.specs.Encoding.{IsHuge, is_huge}
use Rattle.iv_meaning.specs.Database.{Row}
use Rattle.iv_meaning.specs.Escrow.{Account, IsAllowed, with_increment, paid, inf, sup}
use Rattle.iv_types.proofs.Fitting.{huge_so as is_huge_of}
use Rattle.txn_machine.specs.Acts as act
use Rattle.txn_machine.specs.Acts.{Act}
use Rattle.txn_machine.specs.Answers as answer
use Rattle.txn_machine.specs.Deltas.{RowChange, columns_of, place_of, worth}
use Rattle.txn_machine.specs.Keeping.{Open}
use Rattle.txn_machine.specs.Store.{schema_of, now, change_at, Takes, Notes, Writes, Pays}
use Rattle.txn_machine.specs.Ghosts.{account_of}
use Rattle.txn_machine.specs.Counts.{fetch_size, transaction_size, most_of_transaction, kept_change_size, most_of_history, told_need}
use Rattle.txn_machine.specs.Log.{Within, Above, reserved}
use Rattle.txn_machine.specs.State.{State}
use Rattle.txn_machine.specs.May.{Owes}
use Rattle.txn_machine.specs.Steps.{asked, IsFree, Finds, FitsTransaction, FitsLog, FitsData, note_of, put_owed, put_need, log_need, data_need, used_data, history_bytes, IsAllowedIn, AllAllow, PaysFirst}
use Rattle.txn_machine.proofs.Looking.{view_laws}
use Rattle.txn_machine.proofs.Stepping.{now_is}
use Rattle.txn_machine.proofs.Testing.{holds, in_range}
use Rattle.machine_answers.proofs.Saying.{HasAnswer}
use Rattle.machine_answers.proofs.Choosing.{so_or_not, some_or_none, at_most_or_more, within_or_above, FirstWithout, all_or_first}

module _ (s : State) (session : ℕ) where
  -- ---- Fetch

  pub fetches : (number : ℕ) (interval : Interval) (mode : LockMode) → (rows : List Row) → Finds s.store number interval rows
      → IsFree s.store session (asked s.store session (act.Fetch number interval mode)) → HasAnswer s session (act.Fetch number interval mode)
  fetches number interval mode rows found free = by (at_most_or_more (kept + need) most_of_transaction)
    where
      kept : ℕ
      kept = transaction_size (schema_of s.store) (now s.store session)

      need : ℕ
      need = fetch_size (schema_of s.store) number interval rows

      wants : List Want
      wants = asked s.store session (act.Fetch number interval mode)

      by : (kept + need ≤ most_of_transaction) ⊎ (most_of_transaction < kept + need) → HasAnswer s session (act.Fetch number interval mode)
      by (inl fits) = record {
        said = answer.Rows rows;
        effects = Takes wants ∷ Notes (note_of s.store session number interval rows) ∷ [];
        of_state = tt;
        says = record { free = free; found = found; room = fits; effects = refl };
      }
      by (inr full) = record {
        said = answer.Refused (refusal.TxnFull kept (told_need need));
        effects = [];
        of_state = tt;
        says = (record { free = free; rows = rows; found = found; need_is = refl; full = record { kept_is = refl; full = full } }, refl);
      }

  -- ---- Put

  module _ (number : ℕ) (key : List ℕ) (new : Option Row) (free : IsFree s.store session (asked s.store session (act.Put number key new))) where
    abbrev change : RowChange
    change = change_at s.store (number, key) new

    in_history : FitsTransaction s.store session (put_need s.store change) → FitsLog s (log_need s.store change) → FitsData s (data_need s.store change)
        → (history_bytes s + kept_change_size (schema_of s.store) change ≤ most_of_history) ⊎ (most_of_history < history_bytes s + kept_change_size (schema_of s.store) change)
        → HasAnswer s session (act.Put number key new)
    in_history room log_room data_room (inl fits) = record {
      said = answer.Changed change.before (put_owed s.store change);
      effects = Takes (asked s.store session (act.Put number key new)) ∷ Writes change.key change.after ∷ [];
      of_state = tt;
      says = record { free = free; room = room; log_room = log_room; data_room = data_room; history_room = fits; before_is = refl; owed_is = refl; effects = refl };
    }
    in_history room log_room data_room (inr full) = record {
      said = answer.Refused (refusal.HistoryFull (history_bytes s) (told_need (kept_change_size (schema_of s.store) change)));
      effects = [];
      of_state = tt;
      says = (record { free = free; room = room; log_room = log_room; data_room = data_room; need_is = refl; full = record { kept_is = refl; full = full } }, refl);
    }

    in_data : FitsTransaction s.store session (put_need s.store change) → FitsLog s (log_need s.store change)
        → Within s.opening.data_limit (used_data s + data_need s.store change) ⊎ Above s.opening.data_limit (used_data s + data_need s.store change)
        → HasAnswer s session (act.Put number key new)
    in_data room log_room (inl fits) = in_history room log_room fits (at_most_or_more (history_bytes s + kept_change_size (schema_of s.store) change) most_of_history)
    in_data room log_room (inr full) = record {
      said = answer.Refused (refusal.DataFull (used_data s) (told_need (data_need s.store change)));
      effects = [];
      of_state = tt;
      says = (record { free = free; room = room; log_room = log_room; need_is = refl; full = record { used_is = refl; full = full } }, refl);
    }

    in_log : FitsTransaction s.store session (put_need s.store change)
        → Within s.opening.log_limit (s.log.used + reserved s.store s.log + log_need s.store change) ⊎ Above s.opening.log_limit (s.log.used + reserved s.store s.log + log_need s.store change)
        → HasAnswer s session (act.Put number key new)
    in_log room (inl fits) = in_data room fits (within_or_above s.opening.data_limit (used_data s + data_need s.store change))
    in_log room (inr full) = record {
      said = answer.Refused (refusal.LogFull s.log.used (reserved s.store s.log) (told_need (log_need s.store change)));
      effects = [];
      of_state = tt;
      says = (record { free = free; room = room; need_is = refl; full = record { used_is = refl; reserved_is = refl; full = full } }, refl);
    }

    pub puts : HasAnswer s session (act.Put number key new)
    puts = elim (at_most_or_more (transaction_size (schema_of s.store) (now s.store session) + put_need s.store change) most_of_transaction) [
      | inl fits ↦ in_log fits (within_or_above s.opening.log_limit (s.log.used + reserved s.store s.log + log_need s.store change))
      | inr full ↦ record {
        said = answer.Refused (refusal.TxnFull (transaction_size (schema_of s.store) (now s.store session)) (told_need (put_need s.store change)));
        effects = [];
        of_state = tt;
        says = (record { free = free; need_is = refl; full = record { kept_is = refl; full = full } }, refl);
      }
    ]

  -- ---- Pay

  huge_or_not : (n : ℤ) → IsHuge n ⊎ (IsHuge n → ⊥)
  huge_or_not n = elim (so_or_not (is_huge n)) [ inl so ↦ inl (in_range n so) | inr lacks ↦ inr (λ h. lacks (holds (is_huge n) (is_huge_of n h))) ]

  allowed_or_not : (a : Account) (d : ℤ) → IsAllowed a session d ⊎ (IsAllowed a session d → ⊥)
  allowed_or_not a d = by (huge_or_not (inf (with_increment a session d))) (huge_or_not (sup (with_increment a session d))) (huge_or_not (paid (d ∷ a.kept session)))
    where
      by : IsHuge (inf (with_increment a session d)) ⊎ (IsHuge (inf (with_increment a session d)) → ⊥) → IsHuge (sup (with_increment a session d)) ⊎ (IsHuge (sup (with_increment a session d)) → ⊥)
          → IsHuge (paid (d ∷ a.kept session)) ⊎ (IsHuge (paid (d ∷ a.kept session)) → ⊥) → IsAllowed a session d ⊎ (IsAllowed a session d → ⊥)
      by (inr lacks) high sum = inr (λ h. lacks h.inf)
      by (inl low) (inr lacks) sum = inr (λ h. lacks h.sup)
      by (inl low) (inl high) (inr lacks) = inr (λ h. lacks h.sum)
      by (inl low) (inl high) (inl sum) = inl (record { inf = low; sup = high; sum = sum })

  pub owed_now : (o : Owes s.store session) → (now s.store session).owed ≡ o.first ∷ o.others
  owed_now o = ap (λ (t : Open). t.owed) (now_is view_laws s.store session o.goes_on.transaction o.goes_on.is_open) ∙ o.owed_is

  pub pays : (o : Owes s.store session) → IsFree s.store session (asked s.store session act.Pay) → HasAnswer s session act.Pay
  pays o free = by (some_or_none (get s.store.view (place_of o.first)))
    where
      wants : List Want
      wants = asked s.store session act.Pay

      first : PaysFirst s.store session wants
      first = record { free = free; first = o.first; others = o.others; owed_is = owed_now o }

      weighed : IsSome (get s.store.view (place_of o.first)) → AllAllow s.store session o.first ⊎ FirstWithout (IsAllowedIn s.store session o.first) (length (columns_of o.first)) → HasAnswer s session act.Pay
      weighed there (inl allowed) = record {
        said = answer.Paid (length o.others);
        effects = Takes wants ∷ Pays ∷ [];
        of_state = tt;
        says = record { pays = first; there = there; allowed = allowed; left_is = refl; effects = refl };
      }
      weighed there (inr f) = record {
        said = answer.Refused (refusal.Escrow f.number (inf (account_of s.store (place_of o.first) f.number)) (sup (account_of s.store (place_of o.first) f.number)));
        effects = Takes wants ∷ [];
        of_state = tt;
        says = record { pays = first; there = there; refused = record { is_column = f.below; refuses = f.lacks; first = f.before; low_is = refl; high_is = refl }; effects = refl };
      }

      by : ((numbers : List ℤ) × (get s.store.view (place_of o.first) ≡ Some numbers)) ⊎ (get s.store.view (place_of o.first) ≡ None) → HasAnswer s session act.Pay
      by (inl (numbers, there)) = weighed (subst IsSome (sym there) refl)
          (all_or_first (IsAllowedIn s.store session o.first) (λ column. allowed_or_not (account_of s.store (place_of o.first) column) (worth column o.first)) (length (columns_of o.first)))
      by (inr absent) = record { said = answer.NeedsGhost; effects = Takes wants ∷ []; of_state = tt; says = record { pays = first; absent = absent; effects = refl } }
