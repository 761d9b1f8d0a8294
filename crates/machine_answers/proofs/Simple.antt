-- Steps that ask for no lock.
use Rattle.std.specs.Prelude.{◌≡◌, ◌≢◌, ◌⊎◌, ℕ, ℤ, ◌+◌, ◌≤◌, ◌<◌, List, [], ◌∷◌, length, Some, None, IsSome}
use Rattle.std.specs.FinMap.{get}
use mathlib.Core.Path.{refl, sym, ap, subst, ◌∙◌}
use mathlib.Core.Logic.{inl, inr}
use Rattle.iv_types.specs.declared.statement.Mode.{Mode}
use Rattle.iv_types.specs.declared.statement.Mode.TheVariants.{Serial, Snapshot}
use Rattle.iv_types.specs.declared.value.Interval.{Interval}
use Rattle.iv_types.specs.declared.refusal.EngineRefusal.TheVariants as refusal
use Rattle.iv_meaning.specs.View.{read}
use Rattle.iv_meaning.specs.History.{state_at}
use Rattle.txn_machine.specs.Acts as act
use Rattle.txn_machine.specs.Acts.{Act}
use Rattle.txn_machine.specs.Answers as answer
use Rattle.txn_machine.specs.Deltas.{RowChange, columns_of, place_of}
use Rattle.txn_machine.specs.Keeping.{KeptStep, Open}
use Rattle.txn_machine.specs.Store.{committed, schema_of, now, changes_by, Opens, Ghosts, Undoes, Ends, Commits, Prunes}
use Rattle.txn_machine.specs.Counts.{entry_size}
use Rattle.txn_machine.specs.Log.{end_bytes, reserved}
use Rattle.txn_machine.specs.State.{State}
use Rattle.txn_machine.specs.May.{Owes, IsOpen}
use Rattle.txn_machine.specs.Steps as Steps
use Rattle.txn_machine.specs.Steps.{history_bytes, number_unchanged, FitsLog, FitsHistory}
use Rattle.txn_machine.specs.Counts.{most_of_history}
use Rattle.txn_machine.specs.Log.{Within, Above}
use Rattle.txn_machine.proofs.Looking.{view_laws}
use Rattle.txn_machine.proofs.Stepping.{now_is}
use Rattle.machine_answers.proofs.Saying.{HasAnswer}
use Rattle.machine_answers.proofs.Granted.{owed_now}
use Rattle.machine_answers.proofs.Choosing.{at_most_or_more, within_or_above, some_or_none}

module _ (s : State) (session : ℕ) where
  pub begins : (mode : Mode) → HasAnswer s session (act.Begin mode)
  begins Snapshot = record {
    said = answer.Begun (committed s.store).number (length (schema_of s.store));
    effects = Opens Snapshot ∷ [];
    of_state = tt;
    says = record { room = tt; number_is = refl; defs_are = refl; effects = refl };
  }
  begins Serial = by (within_or_above s.opening.log_limit (s.log.used + reserved s.store s.log + end_bytes)) (at_most_or_more (history_bytes s + entry_size) most_of_history)
    where
      by : Within s.opening.log_limit (s.log.used + reserved s.store s.log + end_bytes) ⊎ Above s.opening.log_limit (s.log.used + reserved s.store s.log + end_bytes)
          → (history_bytes s + entry_size ≤ most_of_history) ⊎ (most_of_history < history_bytes s + entry_size) → HasAnswer s session (act.Begin Serial)
      by (inr full) h = record {
        said = answer.Refused (refusal.LogFull s.log.used (reserved s.store s.log) end_bytes);
        effects = [];
        of_state = tt;
        says = (refl, refl, refl, record { used_is = refl; reserved_is = refl; full = full });
      }
      by (inl room) (inr full) = record {
        said = answer.Refused (refusal.HistoryFull (history_bytes s) entry_size);
        effects = [];
        of_state = tt;
        says = (refl, refl, record { kept_is = refl; full = full }, refl, room);
      }
      by (inl room) (inl fits) = record {
        said = answer.Begun (committed s.store).number (length (schema_of s.store));
        effects = Opens Serial ∷ [];
        of_state = tt;
        says = record { room = (room, fits); number_is = refl; defs_are = refl; effects = refl };
      }

  pub learns : HasAnswer s session act.Defs
  learns = record { said = answer.Defs (schema_of s.store); effects = []; of_state = tt; says = (refl, refl) }

  pub peeks : (index : ℕ) (interval : Interval) → HasAnswer s session (act.Peek index interval)
  peeks index interval = record {
    said = answer.Rows (read (state_at s.store.origin s.store.history (now s.store session).number) index interval);
    effects = [];
    of_state = tt;
    says = (refl, refl);
  }

  pub makes_ghost : Owes s.store session → HasAnswer s session act.Ghost
  makes_ghost o = by (some_or_none (get s.store.view (place_of o.first)))
    where
      by : ((numbers : List ℤ) × (get s.store.view (place_of o.first) ≡ Some numbers)) ⊎ (get s.store.view (place_of o.first) ≡ None) → HasAnswer s session act.Ghost
      by (inl (numbers, there)) = record {
        said = answer.Ghosted;
        effects = [];
        of_state = tt;
        says = record { first = o.first; others = o.others; owed_is = owed_now s session o; effects = inr (subst IsSome (sym there) refl, refl) };
      }
      by (inr absent) = record {
        said = answer.Ghosted;
        effects = Ghosts (place_of o.first) (length (columns_of o.first)) ∷ [];
        of_state = tt;
        says = record { first = o.first; others = o.others; owed_is = owed_now s session o; effects = inl (absent, refl) };
      }

  pub takes_back : (o : IsOpen s.store session) → o.transaction.kept ≢ [] → HasAnswer s session act.UndoOne
  takes_back o some = by (now s.store session).kept refl
    where
      same : (now s.store session).kept ≡ o.transaction.kept
      same = ap (λ (t : Open). t.kept) (now_is view_laws s.store session o.transaction o.is_open)

      by : (ks : List KeptStep) → (now s.store session).kept ≡ ks → HasAnswer s session act.UndoOne
      by [] e = absurd (some (sym same ∙ e))
      by (k ∷ ks) e = record { said = answer.Undone (length ks); effects = Undoes ∷ []; of_state = tt; says = record { latest = k; earlier = ks; kept_is = e; left_is = refl; effects = refl } }

  pub ends : HasAnswer s session act.End
  ends = record { said = answer.Ended; effects = Ends ∷ []; of_state = tt; says = refl }

  pub commits : HasAnswer s session act.Commit
  commits = by (changes_by s.store session) refl
    where
      by : (cs : List RowChange) → changes_by s.store session ≡ cs → HasAnswer s session act.Commit
      by [] e = record {
        said = answer.Committed (number_unchanged s.store (now s.store session));
        effects = Ends ∷ [];
        of_state = tt;
        says = subst (λ cs. Steps.CommitsAs s.store session cs (number_unchanged s.store (now s.store session)) (Ends ∷ [])) (sym e) (refl, refl);
      }
      by (c ∷ cs) e = record {
        said = answer.Committed ((committed s.store).number + 1);
        effects = Commits ∷ [];
        of_state = tt;
        says = subst (λ cs. Steps.CommitsAs s.store session cs ((committed s.store).number + 1) (Commits ∷ [])) (sym e) (refl, refl);
      }

  pub prunes : HasAnswer s session act.Prune
  prunes = record { said = answer.Pruned; effects = Prunes ∷ []; of_state = tt; says = refl }

  pub saves : HasAnswer s session act.Checkpoint
  saves = record { said = answer.Saved (committed s.store).number; effects = []; of_state = tt; says = (refl, refl) }

  pub cancels : HasAnswer s session act.Cancel
  cancels = record { said = answer.Cancelled; effects = []; of_state = tt; says = refl }
