-- What an act gives that is done, and what is counted of faults.
use Rattle.std.specs.Prelude.{◌≡◌, ℕ, true, false, Option, Result, Ok, Err, IfOk}
use mathlib.Core.Path.{refl, sym, ap, subst, ◌∙◌}
use mathlib.Core.Logic.{inl}
use Rattle.iv_types.specs.Maps.{Map}
use Rattle.iv_types.specs.declared.refusal.EngineRefusal.TheVariants.{NoMemory}
use Rattle.txn_machine.specs.Acts.{Act}
use Rattle.txn_machine.specs.Answers as answer
use Rattle.txn_machine.specs.Answers.{Answer}
use Rattle.txn_machine.specs.May.{MayAct}
use Rattle.txn_machine.specs.State.{State, is_fault}
use Rattle.txn_machine.specs.Steps.{TakesMemory}
use Rattle.txn_book.specs.Acts.{act_of, answer_of}
use Rattle.txn_book.specs.Moves.{CountsFault}
use Rattle.txn_book.specs.declared.step.Act.{Act as BookAct}
use Rattle.txn_book.specs.declared.step.Answer.{Answer as BookAnswer}
use Rattle.core_journal.specs.Records.{Records, records_after}
use Rattle.core_journal.specs.Cuts.{Cut, cut_of}
use Rattle.core_recording.specs.Giving.{IsSaved, CanGive, LeavesOne, Gives, MayGiveUp}
use Rattle.core_recording.proofs.Plain.{plain_gives, other_gives}
use Rattle.core_state.specs.Stands.{Began, Told}
use Rattle.core_state.specs.declared.state.CoreState.{CoreState}
use Rattle.engine_core.proofs.Quiet.{IsQuiet, quiet_plain, quiet_records, unmade_records}
use Rattle.engine_core.proofs.Telling.{no_memory_told}

-- the count stands where the answer tells no fault
pub fine_counts : (said : BookAnswer) (before now : ℕ) → is_fault (answer_of said) ≡ false → now ≡ before → CountsFault said before now
fine_counts said before now fine same = record { rises = λ bad. absurd (let no : true ≡ false = sym bad ∙ fine in cc); stays = λ _. same }

-- what holds of a result that is there
pub both_ok : {A E : Type 0} {P Q R : A → Type 0} (r : Result A E) → ((a : A) → P a → Q a → R a) → IfOk r P → IfOk r Q → IfOk r R
both_ok (Ok a) f p q = f a p q
both_ok (Err e) f p q = tt

-- what an act needs, where it is this one
pub can_give : {M J : Type 0} (maps : M → ℕ → Map) (spare : M → ℕ → ℕ) (limit : M → Option ℕ) (has : J → Records → Type 0) (area : J → Option ℕ) (core : CoreState M) (journal : J) (i : ℕ) (x y : BookAct) → x ≡ y → CanGive maps spare limit has area core journal i (act_of x)
    → CanGive maps spare limit has area core journal i (act_of y)
can_give maps spare limit has area core journal i x y e h = subst (λ (a : BookAct). CanGive maps spare limit has area core journal i (act_of a)) e h

module _ {M J X : Type 0} (maps : M → ℕ → Map) (spare : M → ℕ → ℕ) (limit : M → Option ℕ) (has : J → Records → Type 0) (area : J → Option ℕ) (medium : J → X) (leaves : X → X → Cut → Cut → Type 0) (core : CoreState M) (journal : J) (i : ℕ) where
  -- the journal has these, and nothing was written
  abbrev Still : Records → Records → Type 0
  Still rs xs = has journal xs × LeavesOne medium leaves journal journal (cut_of rs) (cut_of xs)

  still : (rs xs : Records) → xs ≡ rs → has journal rs → Still rs xs
  still rs xs same h = (subst (has journal) (sym same) h, inl refl)

  -- an act that gives nothing
  pub quiet_did : (a : Act) (said : Answer) (then : CoreState M) → IsQuiet a → ((s : State) → Began maps spare limit core s i → MayAct s.store i a → Told maps spare limit s i a said then)
      → MayGiveUp maps spare limit has area medium leaves core journal i a said then journal
  quiet_did a said then quiet tells s began may =
      let told : Told maps spare limit s i a said then = tells s began may in
      inl (record {
        told = told;
        gave = λ rs behind.
            let given : Records = records_after s i a said told.effects rs in
            plain_gives (Still rs) (IsSaved s) a said given (quiet_plain a quiet) (still rs given (quiet_records s i rs a said told.effects quiet told.says) behind.has_them);
        same_limit = refl;
      })

  -- one for which there was no memory
  pub lacks_did : (a : Act) (then : CoreState M) → TakesMemory a → ((s : State) → Began maps spare limit core s i → MayAct s.store i a → Began maps spare limit then s i)
      → MayGiveUp maps spare limit has area medium leaves core journal i a (answer.Refused NoMemory) then journal
  lacks_did a then takes still_began s began may =
      let told : Told maps spare limit s i a (answer.Refused NoMemory) then = no_memory_told maps spare limit then s i a takes (still_began s began may) in
      inl (record {
        told = told;
        gave = λ rs behind.
            let given : Records = records_after s i a (answer.Refused NoMemory) told.effects rs in
            other_gives (Still rs) (IsSaved s) a (answer.Refused NoMemory) given (λ x. x) (still rs given (ap (λ es. records_after s i a (answer.Refused NoMemory) es rs) told.says.1 ∙ unmade_records s i rs a) behind.has_them);
        same_limit = refl;
      })

  -- one that gives
  pub gives_did : (a : Act) (said : Answer) (then : CoreState M) (after : J) → Gives maps spare limit has area medium leaves core journal i a said then after → MayGiveUp maps spare limit has area medium leaves core journal i a said then after
  gives_did a said then after gives s began may = inl (gives s began may)
