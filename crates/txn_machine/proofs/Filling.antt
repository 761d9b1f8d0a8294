-- A log that fills up, and a disk that fails.
use Rattle.std.specs.Prelude.{◌≡◌, ℕ, ◌≤◌, List, [], ◌∷◌, Some, None}
use mathlib.Core.Path.{refl, sym}
use mathlib.Core.Logic.{inl, inr}
use Rattle.std.proofs.Common.{arith}
use Rattle.iv_types.specs.declared.statement.Mode.TheVariants.{Serial, Snapshot}
use Rattle.iv_types.specs.declared.refusal.EngineRefusal.TheVariants as refusal
use Rattle.iv_meaning.specs.Escrow.{IsSession}
use Rattle.txn_machine.specs.Acts as act
use Rattle.txn_machine.specs.Acts.{Act}
use Rattle.txn_machine.specs.Answers as answer
use Rattle.txn_machine.specs.Answers.{Answer}
use Rattle.txn_machine.specs.Keeping.{begun}
use Rattle.txn_machine.specs.Log.{reserved}
use Rattle.txn_machine.specs.Store.{Effect, Opens, Ends, run}
use Rattle.txn_machine.specs.Ghosts.{the_views}
use Rattle.txn_machine.specs.State.{State, Stop, counted, told_of_stop}
use Rattle.txn_machine.specs.May.{MayAct, May}
use Rattle.txn_machine.specs.Steps.{Says, Step, waits_after, definitions_after, log_after, history_bytes}
use Rattle.txn_machine.specs.Example.{small_state, LogFillsUp, DiskFails, FullMisses}
use Rattle.txn_machine.proofs.Missing.{refuses}
use Rattle.txn_machine.proofs.MovesAlone.{asks}

-- the state after a step with these effects
abbrev next : State → ℕ → Act → Answer → List Effect → State
next s i a said es = counted s i a said (run the_views s.store i es) (waits_after s.store i a said) (definitions_after s.definitions a said) (log_after s i a said es)

steps : (s : State) (i : ℕ) (a : Act) (said : Answer) (es : List Effect) → s.stop ≡ None → i ≤ 64 → MayAct s.store i a → Says s i a said es → Step s i a said (next s i a said es)
steps s i a said es runs low may says = record { may = (asks s.store i a low may, inr may); does = inl (record { runs = runs; effects = es; says = says; left = refl }) }

one : IsSession 1
one = (omega arith, omega arith)

two : IsSession 2
two = (omega arith, omega arith)

abbrev opened_one : State
opened_one = next small_state 1 (act.Begin Serial) (answer.Begun 2 2) (Opens Serial ∷ [])

one_begins : Step small_state 1 (act.Begin Serial) (answer.Begun 2 2) opened_one
one_begins = steps small_state 1 (act.Begin Serial) (answer.Begun 2 2) (Opens Serial ∷ []) refl (omega arith) (one, refl) (record {
  room = (
    (let none : reserved small_state.store small_state.log ≡ 0 = refl in omega (arith, none)),
    (let none : history_bytes small_state ≡ 0 = refl in omega (arith, none)),
  );
  number_is = refl;
  defs_are = refl;
  effects = refl;
})

one_reserves : reserved opened_one.store opened_one.log ≡ 40
one_reserves = refl

abbrev refused_two : State
refused_two = next opened_one 2 (act.Begin Serial) (answer.Refused (refusal.LogFull 6 40 40)) []

two_is_refused : Step opened_one 2 (act.Begin Serial) (answer.Refused (refusal.LogFull 6 40 40)) refused_two
two_is_refused = steps opened_one 2 (act.Begin Serial) (answer.Refused (refusal.LogFull 6 40 40)) [] refl (omega arith) (two, refl)
    (refl, refl, refl, record { used_is = refl; reserved_is = sym one_reserves; full = omega arith })

abbrev ended_one : State
ended_one = next refused_two 1 act.End answer.Ended (Ends ∷ [])

one_ends : Step refused_two 1 act.End answer.Ended ended_one
one_ends = steps refused_two 1 act.End answer.Ended (Ends ∷ []) refl (omega arith) (record { of_session = one; transaction = begun Serial 2; is_open = refl }, refl) refl

abbrev saved : State
saved = next ended_one 0 act.Checkpoint (answer.Saved 2) []

is_saved : Step ended_one 0 act.Checkpoint (answer.Saved 2) saved
is_saved = steps ended_one 0 act.Checkpoint (answer.Saved 2) [] refl (omega arith) refl (refl, refl)

abbrev opened_two : State
opened_two = next saved 2 (act.Begin Serial) (answer.Begun 2 2) (Opens Serial ∷ [])

two_begins : Step saved 2 (act.Begin Serial) (answer.Begun 2 2) opened_two
two_begins = steps saved 2 (act.Begin Serial) (answer.Begun 2 2) (Opens Serial ∷ []) refl (omega arith) (two, refl) (record {
  room = (
    (let none : reserved saved.store saved.log ≡ 0 = refl in let used : saved.log.used ≡ 6 = refl in omega (arith, none, used)),
    (let none : history_bytes saved ≡ 0 = refl in omega (arith, none)),
  );
  number_is = refl;
  defs_are = refl;
  effects = refl;
})

pub log_fills_up : LogFillsUp
log_fills_up = (opened_two, (opened_one, one_begins, (refused_two, two_is_refused, (ended_one, one_ends, (saved, is_saved, (opened_two, two_begins, refl))))))

-- ---- the disk

abbrev failed : State
failed = next small_state 0 act.Checkpoint (answer.Refused refusal.DiskFault) []

told : (s : State) (i : ℕ) (a : Act) → May s i a → (x : Stop) → s.stop ≡ Some x → Step s i a (answer.Refused (refusal.Stopped x.step)) (told_of_stop s i)
told s i a may x e = record { may = may; does = inr (record { stop = x; stopped = e; says = refl; left = refl }) }

pub disk_fails : DiskFails
disk_fails = (
  told_of_stop (told_of_stop failed 1) 0,
  (
    failed,
    steps small_state 0 act.Checkpoint (answer.Refused refusal.DiskFault) [] refl (omega arith) refl refl,
    (told_of_stop failed 1, told failed 1 act.Defs (one, inl refl) _ refl, (told_of_stop (told_of_stop failed 1) 0, told (told_of_stop failed 1) 0 act.Clean (omega arith, inl refl) _ refl, refl)),
  ),
)

-- ---- near misses

pub full_misses : FullMisses
full_misses = (
  opened_one,
  one_begins,
  record {
    no_room = λ number defs. refuses opened_one 2 (act.Begin Serial) (answer.Begun number defs) refl (λ es may h. let room = h.room.0 in let some = one_reserves in omega (arith, room, some));
    more_used = refuses opened_one 2 (act.Begin Serial) (answer.Refused (refusal.LogFull 7 40 40)) refl (λ es may h. let e : 7 ≡ 6 = h.3.used_is in omega (arith, e));
    less_reserved = refuses opened_one 2 (act.Begin Serial) (answer.Refused (refusal.LogFull 6 0 40)) refl (λ es may h. let e = h.3.reserved_is in let some = one_reserves in omega (arith, e, some));
    not_for_snapshots = λ used reserved need. refuses opened_one 2 (act.Begin Snapshot) (answer.Refused (refusal.LogFull used reserved need)) refl (λ es may h. absurd (cc h.1));
    nothing_written = refuses opened_one 1 act.Commit (answer.Refused refusal.DiskFault) refl (λ es may h. h.1 refl);
  },
)
