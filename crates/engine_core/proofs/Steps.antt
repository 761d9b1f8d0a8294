-- What is told of a step, and how many steps an open transaction keeps.
use Rattle.std.specs.Prelude.{◌≡◌, ℕ, ◌+◌, ◌==◌, ◌≤◌, Bool, true, false, List, length, Option, None, Some, refl, if◌then◌else◌}
use Rattle.std.specs.Option.{option_map}
use mathlib.Core.Path.{sym, ap, ◌∙◌}
use mathlib.Core.Logic.{inl, inr}
use Rattle.std.proofs.Common.{arith}
use Rattle.std.proofs.lemmas.List.{length-reverse}
use Rattle.iv_types.specs.Maps.{Map}
use Rattle.iv_meaning.specs.Schema.{Schema}
use Rattle.txn_machine.specs.Acts.{Act}
use Rattle.txn_machine.specs.Answers.{Answer}
use Rattle.txn_machine.specs.Keeping.{Open}
use Rattle.txn_machine.specs.Log.{Logged, Opening}
use Rattle.txn_machine.specs.State.{State, Stop, is_fault, most_steps}
use Rattle.txn_machine.specs.Steps.{Step}
use Rattle.txn_book.specs.Acts.{act_of, answer_of}
use Rattle.txn_book.specs.Holding.{IsSame}
use Rattle.txn_book.specs.Moves.{IsAskable, IsAsked, Moves, CountsFault, kept_count}
use Rattle.txn_book.specs.Txns.{txn_of}
use Rattle.txn_book.specs.declared.open_table.Open.{Open as BookOpen}
use Rattle.txn_book.specs.declared.step.Step as asked
use Rattle.txn_book.specs.declared.step.Answer as told
use Rattle.ordered_index.specs.Tree.{Tree, map_of, spare_of, limit_of}
use Rattle.core_journal.specs.NoJournal as no_journal
use Rattle.core_journal.specs.Records.{Records, records_after}
use Rattle.core_journal.specs.Cuts.{Cut}
use Rattle.core_journal.specs.declared.none.NoJournal.{NoJournal}
use Rattle.log_journal.specs.Standing.{Has, area_limit}
use Rattle.log_journal.specs.declared.journal.LogJournal.{LogJournal}
use Rattle.core_recording.specs.Giving.{IsSaved, IsBehind}
use Rattle.core_state.specs.Stands.{Stands}
use Rattle.core_effects.proofs.Counted.{many_same}
use Rattle.engine_core.specs.Acting.{Recorded}
use Rattle.engine_core.specs.Standing.{IsIn, IsInMemory, IsOnDisk}
use Rattle.engine_core.specs.declared.engine.Core.{Core}
use Rattle.engine_core.proofs.Recording.{gives_some, opening_stays, stays_stopped}

-- a step after which a core is not stopped was not told of a fault, nor was the core stopped before it
pub runs_still : (s : State) (i : ℕ) (a : Act) (said : Answer) (after : State) → Step s i a said after → after.stop ≡ None → (s.stop ≡ None) × (is_fault said ≡ false)
runs_still s i a said after step none = by s.stop refl
  where
    not_told : (told : Bool) → is_fault said ≡ told → s.stop ≡ None → is_fault said ≡ false
    not_told false is runs = is
    not_told true is runs = absurd (
        elim step.does [
          | inl d ↦ let bad : Some (record { step = s.steps + 1; act = a }) ≡ None =
              sym (ap (λ (x : State). x.stop) d.left ∙ ap (λ b. if b then Some (record { step = s.steps + 1; act = a }) else if s.steps + 1 == most_steps then Some (record { step = s.steps + 1; act = a }) else s.stop) is) ∙ none in cc
          | inr t ↦ let bad : Some t.stop ≡ None = sym t.stopped ∙ runs in cc
        ])

    by : (stop : Option Stop) → s.stop ≡ stop → (s.stop ≡ None) × (is_fault said ≡ false)
    by None is = (is, not_told (is_fault said) refl is)
    by (Some x) is = absurd (let bad : Some x ≡ None = sym (stays_stopped s i a said after x is step).0 ∙ none in cc)

module _ {M J : Type 0} (maps : M → ℕ → Map) (spare : M → ℕ → ℕ) (limit : M → Option ℕ) (has : J → Records → Type 0) (area : J → Option ℕ) (faults : J → ℕ) where
  -- a core moves as its state does
  pub moves_as : {X : Type 0} (medium : J → X) (leaves : X → X → Cut → Cut → Type 0) (old : J) (core : Core M J) (s : State) (step : asked.Step) (said : told.Answer) (rs : Records) → rs.saves ≤ s.steps + 1 → (s.stop ≡ None → faults old ≡ s.opening.faults) → CountsFault said (faults old) (faults core.journal)
      → Recorded maps spare limit has area medium leaves s step.session (act_of step.act) (answer_of said) rs old core.state core.journal → Moves (IsIn maps spare limit has area faults core) (λ db. ⊥) s step said
  moves_as medium leaves old core s step said rs few well counts r = record {
    after = r.moved.after;
    does = r.moved.does;
    stands = by r.moved.after.stop refl;
    durable = λ runs fine db no. absurd no;
  }
    where
      well_then : r.moved.after.stop ≡ None → faults core.journal ≡ r.moved.after.opening.faults
      well_then none =
          let ran = runs_still s step.session (act_of step.act) (answer_of said) r.moved.after r.moved.does none in
          counts.stays ran.1 ∙ (well ran.0 ∙ sym (ap (λ (o : Opening). o.faults) (opening_stays s step.session (act_of step.act) (answer_of said) r.moved.after r.moved.does)))

      by : (stop : Option Stop) → r.moved.after.stop ≡ stop → IsIn maps spare limit has area faults core r.moved.after
      by None runs = let xs = gives_some (IsBehind maps spare limit has area core.state core.journal r.moved.after.log) (IsSaved s) (act_of step.act) (answer_of said) (records_after s step.session (act_of step.act) (answer_of said) r.effects rs) (r.behind runs) in record {
        stands = r.moved.stands;
        records = xs.0;
        behind = λ _. xs.1;
        few = let same = xs.2 in let less = r.few few in omega (arith, same, less);
        well = well_then;
      }
      by (Some stop) stopped = record {
        stands = r.moved.stands;
        records = records_after s step.session (act_of step.act) (answer_of said) r.effects rs;
        behind = λ runs. absurd (let bad : Some stop ≡ None = sym stopped ∙ runs in cc);
        few = r.few few;
        well = well_then;
      }

  -- a step that may be asked for may be done
  pub may_be_done : (core : Core M J) (step : asked.Step) → IsAskable (IsIn maps spare limit has area faults core) step
      → (s : State) × (rs : Records) × Stands maps spare limit core.state s × (s.stop ≡ None → IsBehind maps spare limit has area core.state core.journal s.log rs) × IsAsked s step × (rs.saves ≤ s.steps + 1)
  may_be_done core step q = (q.state, q.stands.records, q.stands.stands, q.stands.behind, q.asked, q.stands.few)

-- of a core without a disk, and of one on a disk
pub done_in_memory : (core : Core Tree NoJournal) (step : asked.Step) → IsAskable (IsInMemory core) step
    → (s : State) × (rs : Records) × Stands map_of spare_of limit_of core.state s × (s.stop ≡ None → IsBehind map_of spare_of limit_of no_journal.has_any no_journal.limit_of core.state core.journal s.log rs) × IsAsked s step × (rs.saves ≤ s.steps + 1)
done_in_memory = may_be_done map_of spare_of limit_of no_journal.has_any no_journal.limit_of (λ journal. 0)

pub done_on_disk : {D : Type 0} (is_told : Type 0) (size_of : D → ℕ) (seen : D → List ℕ) (may_leave : D → List ℕ → Type 0) (moment : D → ℕ) (left_since : D → ℕ → List ℕ → Type 0) (faults : D → ℕ) (core : Core Tree (LogJournal D)) (step : asked.Step)
    → IsAskable (IsOnDisk is_told size_of seen may_leave moment left_since faults core) step
    → (s : State) × (rs : Records) × Stands map_of spare_of limit_of core.state s × (s.stop ≡ None → IsBehind map_of spare_of limit_of (Has is_told size_of seen may_leave) area_limit core.state core.journal s.log rs) × IsAsked s step × (rs.saves ≤ s.steps + 1)
done_on_disk is_told size_of seen may_leave moment left_since faults core step q =
    let h = q.stands.is_in in (q.state, h.records, h.stands, h.behind, q.asked, h.few)

-- as many are kept in the book
pub kept_as : (objects : Schema) (o : Option BookOpen) (m : Option Open) (l : Logged) → IsSame objects o m l → option_map (λ (t : BookOpen). length t.kept.items) o ≡ option_map kept_count m
kept_as objects None None l h = refl
kept_as objects None (Some u) l h = absurd h
kept_as objects (Some t) None l h = absurd h
kept_as objects (Some t) (Some u) l h = ap Some (sym (length-reverse t.kept.items) ∙ many_same (txn_of t).kept u.kept l.kept h.kept)
