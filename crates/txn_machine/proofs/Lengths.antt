-- How many entries steps make, and how many steps there are.
use Rattle.std.specs.Prelude.{◌≡◌, ◌⊎◌, ℕ, zero, suc, ◌+◌, ◌<◌, ◌≤◌, ◌==◌, cond, Bool, true, false, List, [], ◌∷◌, ◌++◌, length, Option, Some, None}
use mathlib.Core.Path.{refl, sym, ap, subst, ◌∙◌}
use mathlib.Core.Logic.{inl, inr}
use Rattle.std.proofs.Common.{arith}
use Rattle.std.proofs.lemmas.Bool.Decides.{eqb_tells}
use Rattle.std.proofs.lemmas.Option.{none-some}
use Rattle.std.proofs.lemmas.List.{length-append}
use Rattle.iv_types.specs.declared.lock.GroupDelta.{GroupDelta}
use Rattle.iv_types.specs.declared.refusal.EngineRefusal.TheVariants as refusal
use Rattle.iv_meaning.specs.Statement.{Kept, defines}
use Rattle.iv_meaning.specs.History.{Entry}
use Rattle.txn_machine.specs.Acts as act
use Rattle.txn_machine.specs.Acts.{Act}
use Rattle.txn_machine.specs.Answers as answer
use Rattle.txn_machine.specs.Answers.{Answer}
use Rattle.txn_machine.specs.Deltas.{RowChange}
use Rattle.txn_machine.specs.Keeping.{KeptStep, Put, Pay}
use Rattle.txn_machine.specs.Ghosts.{the_views}
use Rattle.txn_machine.specs.Store.{Store, committed, now, changes_by, paid_first, undone, entry_changes, Effect, Opens, Takes, Notes, Writes, Pays, Ghosts, Undoes, Loses, Ends, Commits, Defines, Cleans, Prunes, does, run}
use Rattle.txn_machine.specs.State.{State, Stop, is_fault, stop_after, most_steps}
use Rattle.txn_machine.specs.Steps.{CommitsAs, Says, Step, Did, Run}
use Rattle.txn_machine.specs.KeptLaws.{EntryLaw, LengthLaw}

-- effects that make no entry
abbrev IsQuiet : Effect → Type 0
IsQuiet Commits = ⊥
IsQuiet (Defines o) = ⊥
IsQuiet _ = Unit {0}

abbrev AreQuiet : List Effect → Type 0
AreQuiet [] = Unit {0}
AreQuiet (e ∷ es) = IsQuiet e × AreQuiet es

quiet_pays : (s : Store) (i : ℕ) (ds : List GroupDelta) → (paid_first s i (now s i) ds).history ≡ s.history
quiet_pays s i [] = refl
quiet_pays s i (d ∷ ds) = refl

quiet_undoes : (s : Store) (i : ℕ) (ks : List KeptStep) → (undone s i (now s i) ks).history ≡ s.history
quiet_undoes s i [] = refl
quiet_undoes s i (Put c ds ∷ ks) = refl
quiet_undoes s i (Pay d ∷ ks) = refl

quiet : (s : Store) (i : ℕ) (e : Effect) → IsQuiet e → (does the_views s i e).history ≡ s.history
quiet s i (Opens mode) h = refl
quiet s i (Takes wants) h = refl
quiet s i (Notes n) h = refl
quiet s i (Writes p new) h = refl
quiet s i Pays h = quiet_pays s i (now s i).owed
quiet s i (Ghosts p n) h = refl
quiet s i Undoes h = quiet_undoes s i (now s i).kept
quiet s i Loses h = refl
quiet s i Ends h = refl
quiet s i Commits h = absurd h
quiet s i (Defines o) h = absurd h
quiet s i (Cleans p) h = refl
quiet s i Prunes h = refl

all_quiet : (s : Store) (i : ℕ) (es : List Effect) → AreQuiet es → (run the_views s i es).history ≡ s.history
all_quiet s i [] h = refl
all_quiet s i (e ∷ es) h = all_quiet (does the_views s i e) i es h.1 ∙ quiet s i e h.0

-- the entry that a step makes, if it makes one
abbrev Entered : Store → ℕ → Store → Type 0
Entered s i t = (t.history ≡ s.history) ⊎ ((e : Entry) × (e.session ≡ i) × (e.number ≡ (committed s).number + 1) × (t.history ≡ s.history ++ e ∷ []))

by_quiet : (s : Store) (i : ℕ) (es fs : List Effect) → es ≡ fs → AreQuiet fs → Entered s i (run the_views s i es)
by_quiet s i es fs e h = inl (ap (λ l. (run the_views s i l).history) e ∙ all_quiet s i fs h)

by_entry : (s : Store) (i : ℕ) (es : List Effect) (f : Effect) (ks : List Kept) → es ≡ f ∷ [] → (does the_views s i f).history ≡ s.history ++ record { number = (committed s).number + 1; session = i; kept = ks } ∷ []
    → Entered s i (run the_views s i es)
by_entry s i es f ks e h = inr (record { number = (committed s).number + 1; session = i; kept = ks }, refl, refl, ap (λ l. (run the_views s i l).history) e ∙ h)

entered_commit : (s : Store) (i number : ℕ) (es : List Effect) (cs : List RowChange) → CommitsAs s i cs number es → Entered s i (run the_views s i es)
entered_commit s i number es [] h = by_quiet s i es (Ends ∷ []) h.1 (tt, tt)
entered_commit s i number es (c ∷ cs) h = by_entry s i es Commits (entry_changes (now s i).kept) h.1 refl

entered : (s : State) (i : ℕ) (a : Act) (said : Answer) (es : List Effect) → Says s i a said es → Entered s.store i (run the_views s.store i es)
entered s i a (answer.Blocked sessions) es h = by_quiet s.store i es [] h.2 tt
entered s i a (answer.Refused (refusal.Deadlock cycle)) es h = by_quiet s.store i es (Loses ∷ []) h.2 (tt, tt)
entered s i a (answer.Refused refusal.NoMemory) es h = by_quiet s.store i es [] h.1 tt
entered s i (act.Begin mode) (answer.Begun number defs) es h = by_quiet s.store i es (Opens mode ∷ []) h.effects (tt, tt)
entered s i (act.Begin mode) (answer.Refused (refusal.HistoryFull kept need)) es h = by_quiet s.store i es [] h.3 tt
entered s i act.Defs (answer.Defs objects) es h = by_quiet s.store i es [] h.1 tt
entered s i (act.Fetch number interval mode) (answer.Rows rows) es h = by_quiet s.store i es (Takes _ ∷ Notes _ ∷ []) h.effects (tt, (tt, tt))
entered s i (act.Fetch number interval mode) (answer.Refused (refusal.TxnFull kept need)) es h = by_quiet s.store i es [] h.1 tt
entered s i (act.Peek number interval) (answer.Rows rows) es h = by_quiet s.store i es [] h.1 tt
entered s i (act.Put number key new) (answer.Changed before deltas) es h = by_quiet s.store i es (Takes _ ∷ Writes _ _ ∷ []) h.effects (tt, (tt, tt))
entered s i (act.Put number key new) (answer.Refused (refusal.TxnFull kept need)) es h = by_quiet s.store i es [] h.1 tt
entered s i (act.Put number key new) (answer.Refused (refusal.HistoryFull kept need)) es h = by_quiet s.store i es [] h.1 tt
entered s i act.Pay (answer.Paid left) es h = by_quiet s.store i es (Takes _ ∷ Pays ∷ []) h.effects (tt, (tt, tt))
entered s i act.Pay answer.NeedsGhost es h = by_quiet s.store i es (Takes _ ∷ []) h.effects (tt, tt)
entered s i act.Pay (answer.Refused (refusal.Escrow column low high)) es h = by_quiet s.store i es (Takes _ ∷ []) h.effects (tt, tt)
entered s i act.Ghost answer.Ghosted es h = elim h.effects [
  | inl m ↦ by_quiet s.store i es (Ghosts _ _ ∷ []) m.1 (tt, tt)
  | inr m ↦ by_quiet s.store i es [] m.1 tt
]
entered s i act.UndoOne (answer.Undone left) es h = by_quiet s.store i es (Undoes ∷ []) h.effects (tt, tt)
entered s i act.End answer.Ended es h = by_quiet s.store i es (Ends ∷ []) h (tt, tt)
entered s i act.Commit (answer.Committed number) es h = entered_commit s.store i number es (changes_by s.store i) h
entered s i (act.Schema statement) (answer.Committed number) es h = by_entry s.store i es (Defines h.object) (defines h.object ∷ []) h.effects refl
entered s i (act.Schema statement) (answer.Denied why) es h = by_quiet s.store i es [] h.1 tt
entered s i (act.Schema statement) (answer.Refused (refusal.SchemaBusy busy)) es h = by_quiet s.store i es [] h.1 tt
entered s i (act.Schema statement) (answer.Refused (refusal.HistoryFull kept need)) es h = by_quiet s.store i es [] h.1 tt
entered s i act.Clean (answer.Cleaned zero) es h = by_quiet s.store i es [] h.1 tt
entered s i act.Clean (answer.Cleaned (suc zero)) es h = by_quiet s.store i es (Cleans _ ∷ []) h.2 (tt, tt)
entered s i act.Prune answer.Pruned es h = by_quiet s.store i es (Prunes ∷ []) h (tt, tt)
entered s i (act.Begin mode) (answer.Refused (refusal.LogFull used reserved need)) es h = by_quiet s.store i es [] h.0 tt
entered s i (act.Put number key new) (answer.Refused (refusal.LogFull used reserved need)) es h = by_quiet s.store i es [] h.1 tt
entered s i (act.Put number key new) (answer.Refused (refusal.DataFull used need)) es h = by_quiet s.store i es [] h.1 tt
entered s i act.Commit (answer.Refused refusal.DiskFault) es h = by_quiet s.store i es [] h.0 tt
entered s i (act.Schema statement) (answer.Refused (refusal.LogFull used reserved need)) es h = by_quiet s.store i es [] h.1 tt
entered s i (act.Schema statement) (answer.Refused (refusal.DataFull used need)) es h = by_quiet s.store i es [] h.1 tt
entered s i (act.Schema statement) (answer.Refused refusal.DiskFault) es h = by_quiet s.store i es [] h.0 tt
entered s i act.Clean (answer.Refused (refusal.LogFull used reserved need)) es h = by_quiet s.store i es [] h.0 tt
entered s i act.Checkpoint (answer.Saved greatest) es h = by_quiet s.store i es [] h.0 tt
entered s i act.Checkpoint (answer.Refused refusal.DiskFault) es h = by_quiet s.store i es [] h tt
entered s i act.Cancel answer.Cancelled es h = by_quiet s.store i es [] h tt
entered s i _ _ es h = absurd h

pub entry_law : EntryLaw
entry_law s d after step = elim step.does [
  | inl x ↦ subst (λ (z : State). Entered s.store d.session z.store) (sym x.left) (entered s d.session d.act d.said x.effects x.says)
  | inr x ↦ inl (ap (λ (z : State). z.store.history) x.left)
]

-- ---- how many

pub record Counted (s : State) : Type 0 where
  pub entries : length s.store.history ≤ s.steps
  pub steps : s.steps ≤ most_steps
  pub runs : s.stop ≡ None → s.steps < most_steps

one_more : (s t : Store) (i : ℕ) → Entered s i t → length t.history ≤ length s.history + 1
one_more s t i (inl e) = let l : length t.history ≡ length s.history = ap length e in omega (arith, l)
one_more s t i (inr e) =
    let l : length t.history ≡ length s.history + 1 = ap length e.3 ∙ length-append s.history (e.0 ∷ []) in
    omega (arith, l)

goes_on : (number : ℕ) (a : Act) (said : Answer) → number ≤ most_steps → stop_after None number a said ≡ None → number < most_steps
goes_on number a said below e = elim (eqb_tells number most_steps) [
  | inl t ↦ absurd (none-some stop (sym e ∙ either (is_fault said) (number == most_steps) t.0))
  | inr f ↦ (let n = f.1 in omega (arith, below, n))
]
  where
    stop : Stop
    stop = record { step = number; act = a }

    either : (fault last : Bool) → last ≡ true → cond fault (Some stop) (cond last (Some stop) None) ≡ Some stop
    either true last e = refl
    either false last e = ap (λ b. cond b (Some stop) None) e

counted_step : (s : State) (d : Did) (after : State) → Counted s → Step s d.session d.act d.said after → Counted after
counted_step s d after c step = elim step.does [
  | inl x ↦
      let more = one_more s.store (run the_views s.store d.session x.effects) d.session (entered s d.session d.act d.said x.effects x.says) in
      let old = c.entries in
      let room = c.runs x.runs in
      subst Counted (sym x.left) (record {
        entries = omega (arith, more, old);
        steps = omega (arith, room);
        runs = λ e. goes_on (s.steps + 1) d.act d.said (omega (arith, room)) (sym (ap (λ (o : Option Stop). stop_after o (s.steps + 1) d.act d.said) x.runs) ∙ e);
      })
  | inr x ↦ subst Counted (sym x.left) (record { entries = c.entries; steps = c.steps; runs = c.runs })
]

counted_run : (s : State) (ds : List Did) (after : State) → Counted s → Run s ds after → Counted after
counted_run s [] after c r = subst Counted (sym r) c
counted_run s (d ∷ ds) after c r = counted_run r.0 ds after (counted_step s d r.0 c r.1) r.2

pub length_law : LengthLaw
length_law s r =
    let c = counted_run _ r.steps s (record { entries = omega arith; steps = omega arith; runs = λ e. omega arith }) r.run in
    (c.entries, c.steps)
