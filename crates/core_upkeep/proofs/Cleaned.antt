-- What a Clean gives to the journal.
use Rattle.std.specs.Prelude.{◌≡◌, ℕ, List, [], ◌∷◌, Option}
use mathlib.Core.Path.{refl, sym, ap, subst}
use Rattle.iv_types.specs.Maps.{Map}
use Rattle.iv_types.specs.declared.refusal.EngineRefusal.{EngineRefusal}
use Rattle.iv_types.specs.declared.refusal.EngineRefusal.TheVariants as refusal
use Rattle.table_laws.specs.Place.{Place}
use Rattle.txn_machine.specs.Acts as act
use Rattle.txn_machine.specs.Answers as answer
use Rattle.txn_machine.specs.Answers.{Answer}
use Rattle.txn_machine.specs.Records.{Clean}
use Rattle.txn_machine.specs.State.{State}
use Rattle.txn_machine.specs.Steps.{Says}
use Rattle.txn_machine.specs.Store.{Effect, Cleans, schema_of}
use Rattle.core_journal.specs.Records.{Records, with_one, recorded_all, records_after}
use Rattle.core_journal.specs.Cuts.{Cut}
use Rattle.core_state.specs.Stands.{Began, Told}
use Rattle.core_state.specs.declared.state.CoreState.{CoreState}
use Rattle.core_recording.specs.Giving.{Gave}
use Rattle.core_recording.proofs.Ones.{gave_all}

module _ (s : State) (rs : Records) where
  pub none_gives : (es : List Effect) → Says s 0 act.Clean (answer.Cleaned 0) es → records_after s 0 act.Clean (answer.Cleaned 0) es rs ≡ rs
  none_gives es says = ap (λ (xs : List Effect). recorded_all s.store 0 act.Clean xs s.log rs) says.1

  pub refused_gives : (why : EngineRefusal) (es : List Effect) → Says s 0 act.Clean (answer.Refused why) es → records_after s 0 act.Clean (answer.Refused why) es rs ≡ rs
  refused_gives (refusal.LogFull used reserved_bytes need) es says = ap (λ (xs : List Effect). recorded_all s.store 0 act.Clean xs s.log rs) says.0
  refused_gives refusal.NoMemory es says = absurd says.0
  refused_gives (refusal.Deadlock cycle) es says = absurd says.0
  refused_gives why es says = absurd says

  pub clean_gives : (place : Place) (es : List Effect) → es ≡ Cleans place ∷ [] → records_after s 0 act.Clean (answer.Cleaned 1) es rs ≡ with_one (schema_of s.store) (record { number = s.log.next; of = Clean place }) rs
  clean_gives place es is = ap (λ (xs : List Effect). recorded_all s.store 0 act.Clean xs s.log rs) is

-- where nothing is given the journal is as it was
pub gave_none : {M J X : Type 0} (maps : M → ℕ → Map) (spare : M → ℕ → ℕ) (limit : M → Option ℕ) (has : J → Records → Type 0) (area : J → Option ℕ) (medium : J → X) (leaves : X → X → Cut → Cut → Type 0) (core : CoreState M) (journal : J) (s : State) (said : Answer) (then : CoreState M)
    → Began maps spare limit core s 0 → (told : Told maps spare limit s 0 act.Clean said then) → ((rs : Records) → records_after s 0 act.Clean said told.effects rs ≡ rs) → Gave maps spare limit has area medium leaves s 0 act.Clean said core journal then journal
gave_none maps spare limit has area medium leaves core journal s said then began told quiet =
    gave_all maps spare limit has area medium leaves core journal s 0 act.Clean said then began told journal (λ rs mine. subst (has journal) (sym (quiet rs)) mine) refl refl tt
