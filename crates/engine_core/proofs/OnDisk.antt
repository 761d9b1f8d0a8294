-- A step of a core on a disk: what is told, how time goes on, and what a crash recovers.
use Rattle.std.proofs.Common.{◌≡◌, ◌⊎◌, inl, inr, ⊎_elim, ℕ, suc, zero, ◌≤◌, List, None, sym, ◌∙◌, ap, subst, arith}
use Rattle.iv_meaning.specs.Database.{Database}
use Rattle.txn_machine.specs.State.{State}
use Rattle.txn_machine.specs.Log.{Opening}
use Rattle.txn_book.specs.Acts.{act_of, answer_of}
use Rattle.txn_book.specs.Crashes.{MayCommit, Elapses}
use Rattle.txn_book.specs.Moves.{Moves, CountsFault}
use Rattle.txn_book.specs.declared.step.Step as asked
use Rattle.txn_book.specs.declared.step.Answer as told
use Rattle.ordered_index.specs.Tree.{Tree}
use Rattle.txn_log.proofs.Finding.{by_number}
use Rattle.core_journal.specs.Records.{Saved}
use Rattle.log_journal.specs.Standing.{disk_of}
use Rattle.log_journal.specs.declared.journal.LogJournal.{LogJournal}
use Rattle.core_recording.specs.Giving.{IsSaved}
use Rattle.record_worlds.specs.Pages.{HoldsPages}
use Rattle.record_worlds.specs.Tied.{SavesAll}
use Rattle.record_worlds.specs.Laws.{StepLaw, CutLaw, FaultLaw}
use Rattle.record_worlds.proofs.Going.{step_ties}
use Rattle.record_worlds.proofs.Stopping.{cut_recovers, fault_recovers}
use Rattle.engine_core.specs.Crashes.{RecoverTo, MayRecover, RecoveredSince}
use Rattle.engine_core.specs.CrashLaws.{only_to, recovers_now}
use Rattle.engine_core.specs.Standing.{IsOnDisk}
use Rattle.engine_core.specs.declared.engine.Core.{Core}
use Rattle.engine_core.proofs.Lasting.{DiskRecorded, NewLeft, Stepped, stepped}
use Rattle.engine_core.proofs.Recording.{opening_stays}
use Rattle.engine_core.proofs.Saving.{saves_all}
use Rattle.engine_core.proofs.Steps.{runs_still}

-- what stands up to a moment, or is new at one of these
each_up_to : (P : ℕ → Type 0) (Q : Type 0) (t : ℕ) → ((u : ℕ) → u ≤ t → P u ⊎ Q) → ((u : ℕ) → u ≤ t → P u) ⊎ Q
each_up_to P Q zero h = ⊎_elim (λ p. inl (λ u le. subst P (let same : 0 ≡ u = omega (arith, le) in same) p)) (λ q. inr q) (h 0 (omega arith))
each_up_to P Q (suc t) h = ⊎_elim
    (λ before.
    ⊎_elim (λ p. inl (λ u le. by u le p before)) (λ q. inr q) (h (suc t) (omega arith)))
    (λ q. inr q)
    (each_up_to P Q t (λ u le. h u (omega (arith, le))))
  where
    by : (u : ℕ) → u ≤ suc t → P (suc t) → ((u : ℕ) → u ≤ t → P u) → P u
    by u le last before = by_number u (suc t) (λ same. subst P (sym same) last) (λ differs. before u (omega (arith, le, differs)))

module _ {D : Type 0} (is_told : Type 0) (size_of : D → ℕ) (seen : D → List ℕ) (may_leave : D → List ℕ → Type 0) (moment : D → ℕ) (left_since : D → ℕ → List ℕ → Type 0) (faults : D → ℕ)
    (counts_now : (disk : D) (t : ℕ) (c : List ℕ) → t ≤ moment disk → may_leave disk c → left_since disk t c) (only_now : (disk : D) (c : List ℕ) → left_since disk (moment disk) c → may_leave disk c)
    (old new : Core Tree (LogJournal D)) (s : State) (step : asked.Step) (said : told.Answer) (h : IsOnDisk is_told size_of seen may_leave moment left_since faults old s) (counts : CountsFault said (faults (disk_of old.journal)) (faults (disk_of new.journal)))
    (r : DiskRecorded is_told size_of seen may_leave moment left_since faults s step.session (act_of step.act) (answer_of said) h.is_in.records old.journal new.state new.journal) where
  step_law : StepLaw HoldsPages
  step_law p was opening s rs is i a said after may does fine = step_ties p was opening HoldsPages s rs is i a said after may does fine

  cut_law : CutLaw HoldsPages
  cut_law p was opening s rs is = cut_recovers p was opening HoldsPages s rs is

  fault_law : FaultLaw HoldsPages
  fault_law p was opening s rs is i a stopped may does x have = fault_recovers p was opening HoldsPages s rs is i a stopped may does x have

  saves : s.stop ≡ None → (saved : Saved) → IsSaved s saved → SavesAll HoldsPages s saved
  saves runs saved is = saves_all h.pages h.lasts.was_opened s.opening s h.is_in.records (h.lasts.tied runs) saved is (h.lasts.creates runs)

  done : Stepped is_told size_of seen may_leave moment left_since faults h.pages s step.session (act_of step.act) (answer_of said) h.is_in.records old.journal new.state new.journal r.moved.after
  done = stepped is_told size_of seen may_leave moment left_since faults counts_now only_now step_law cut_law fault_law h.pages s step.session (act_of step.act) (answer_of said) h.is_in.records old.journal new.state new.journal h.lasts h.is_in.well counts.rises counts.stays saves r h.is_in.stands.reached

  well_then : r.moved.after.stop ≡ None → faults (disk_of new.journal) ≡ r.moved.after.opening.faults
  well_then none =
      let ran = runs_still s step.session (act_of step.act) (answer_of said) r.moved.after r.moved.does none in
      counts.stays ran.1 ∙ (h.is_in.well ran.0 ∙ sym (ap (λ (o : Opening). o.faults) (opening_stays s step.session (act_of step.act) (answer_of said) r.moved.after r.moved.does)))

  pub moves_on_disk : Moves (IsOnDisk is_told size_of seen may_leave moment left_since faults new) (MayRecover is_told left_since may_leave new) s step said
  moves_on_disk = record {
    after = r.moved.after;
    does = r.moved.does;
    stands = record {
      is_in = record { stands = r.moved.stands; records = done.records; behind = done.behind; few = done.few h.is_in.few; well = well_then };
      pages = h.pages;
      lasts = done.lasts;
    };
    durable = λ runs fine db may.
        let d = done.durable runs fine in
        recovers_now is_told size_of seen may_leave moment left_since faults new.journal h.pages h.lasts.was_opened r.moved.after done.records d.0 d.1 db may.1.0 may.0 may.1.1 may.1.2;
  }

  -- what is new may be what the step commits
  new_so : (c : List ℕ) (db : Database) → NewLeft is_told size_of seen may_leave moment left_since faults h.pages s step.session (act_of step.act) (answer_of said) c → RecoverTo c db → MayCommit s step said db
  new_so c db left to =
      let same = only_to h.pages s.opening c left.cut left.db db left.borne left.recovers to in
      record {
        runs = left.runs;
        said = left.may.answer;
        of_answer = left.may.same;
        effects = left.may.effects;
        says = left.may.says;
        is = ⊎_elim (λ e. inl (same ∙ e)) (λ e. inr (same ∙ e)) left.may.is;
      }

  pub time_on_disk : is_told → Elapses (MayCommit s step said) (moment (disk_of old.journal)) (moment (disk_of new.journal)) (RecoveredSince is_told left_since old) (RecoveredSince is_told left_since new)
  time_on_disk told = record {
    later = done.later told;
    nothing_else = λ t db le since.
        let c = since.1.0 in
        ⊎_elim
        (λ was. inl (told, (c, was, since.1.2)))
        (λ left. inr (new_so c db left since.1.2))
        (each_up_to (λ u. left_since (disk_of old.journal) u c) (NewLeft is_told size_of seen may_leave moment left_since faults h.pages s step.session (act_of step.act) (answer_of said) c) t
        (λ u within. done.images told u c (omega (arith, within, le)) (since.1.1 u within)));
  }
