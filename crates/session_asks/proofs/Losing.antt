-- A deadlock alone loses a transaction; and a pay that lacks its row holds the lock of its group.
use Rattle.std.specs.Prelude.{◌≡◌, ℕ, zero, suc, Bool, false, List, [], ◌∷◌, ◌++◌, Option, Some, None}
use mathlib.Core.Path.{refl, sym, ap, subst, ◌∙◌}
use mathlib.Core.Logic.{inl, inr}
use Rattle.std.specs.List.{Contains}
use Rattle.iv_types.specs.declared.lock.GroupDelta.{GroupDelta}
use Rattle.iv_types.specs.declared.lock.LockMode.TheVariants.{Increment}
use Rattle.iv_types.specs.declared.lock.Want.{Want}
use Rattle.iv_types.specs.declared.refusal.EngineRefusal.TheVariants as refusal
use Rattle.txn_machine.specs.Acts as act
use Rattle.txn_machine.specs.Acts.{Act}
use Rattle.txn_machine.specs.Answers as answer
use Rattle.txn_machine.specs.Answers.{Answer}
use Rattle.txn_machine.specs.Alone.{Story}
use Rattle.txn_machine.specs.Deltas.{RowChange}
use Rattle.txn_machine.specs.Ghosts.{the_views, Holds}
use Rattle.txn_machine.specs.Keeping.{KeptStep, Put, Pay, Open, begun}
use Rattle.txn_machine.specs.May.{Owes}
use Rattle.txn_machine.specs.Store.{Store, committed, now, locks_of, changes_by, paid_first, undone, notes_before, Effect, Opens, Takes, Notes, Writes, Pays, Ghosts, Undoes, Loses, Ends, Commits, Defines, Cleans, Prunes, does, run, change_at}
use Rattle.txn_machine.specs.State.{State}
use Rattle.std.proofs.Common.{arith}
use Rattle.txn_machine.specs.Steps.{CommitsAs, Says, first_want, group_want}
use Rattle.txn_machine.proofs.Good.{the_open}
use Rattle.txn_machine.proofs.Basics.{one_same}
use Rattle.txn_machine.proofs.Holding.{in_point}
use Rattle.script_law.specs.Seen.{is_deadlock_event}
use Rattle.script_law.specs.Machine.{DoesOf}

-- ---- no deadlock met it

abbrev pub IsAlive : Store → ℕ → Type 0
IsAlive s i = (now s i).is_lost ≡ false

abbrev IsHarmless : Effect → Type 0
IsHarmless Loses = ⊥
IsHarmless e = Unit {0}

abbrev AreHarmless : List Effect → Type 0
AreHarmless [] = Unit {0}
AreHarmless (e ∷ es) = IsHarmless e × AreHarmless es

pays_alive : (s : Store) (i : ℕ) (ds : List GroupDelta) → IsAlive s i → IsAlive (paid_first s i (now s i) ds) i
pays_alive s i [] h = h
pays_alive s i (d ∷ ds) h = ap (λ (x : Option Open). (the_open x).is_lost) (one_same s.open_of i (Some (record (now s i) { kept = Pay d ∷ (now s i).kept; owed = ds })) i refl) ∙ h

undoes_alive : (s : Store) (i : ℕ) (ks : List KeptStep) → IsAlive s i → IsAlive (undone s i (now s i) ks) i
undoes_alive s i [] h = h
undoes_alive s i (Put c ds ∷ ks) h = ap (λ (x : Option Open). (the_open x).is_lost) (one_same s.open_of i (Some (record (now s i) { kept = ks; owed = []; back = 0; notes = notes_before _ (now s i).notes })) i refl) ∙ h
undoes_alive s i (Pay d ∷ ks) h = ap (λ (x : Option Open). (the_open x).is_lost) (one_same s.open_of i (Some (record (now s i) { kept = ks; owed = d ∷ (now s i).owed; back = _ })) i refl) ∙ h

effect_alive : (s : Store) (i : ℕ) (e : Effect) → IsHarmless e → IsAlive s i → IsAlive (does the_views s i e) i
effect_alive s i (Opens mode) g h = ap (λ (x : Option Open). (the_open x).is_lost) (one_same s.open_of i (Some (begun mode (committed s).number)) i refl)
effect_alive s i (Takes wants) g h = ap (λ (x : Option Open). (the_open x).is_lost) (one_same s.open_of i (Some (record (now s i) { locks = wants ++ (now s i).locks })) i refl) ∙ h
effect_alive s i (Notes n) g h = ap (λ (x : Option Open). (the_open x).is_lost) (one_same s.open_of i (Some (record (now s i) { notes = n ∷ (now s i).notes })) i refl) ∙ h
effect_alive s i (Writes p new) g h = ap (λ (x : Option Open). (the_open x).is_lost) (one_same s.open_of i (Some (record (now s i) { kept = Put (change_at s p new) _ ∷ (now s i).kept; owed = _; back = 0 })) i refl) ∙ h
effect_alive s i Pays g h = pays_alive s i (now s i).owed h
effect_alive s i (Ghosts p n) g h = h
effect_alive s i Undoes g h = undoes_alive s i (now s i).kept h
effect_alive s i Loses g h = absurd g
effect_alive s i Ends g h = ap (λ (x : Option Open). (the_open x).is_lost) (one_same s.open_of i None i refl)
effect_alive s i Commits g h = ap (λ (x : Option Open). (the_open x).is_lost) (one_same s.open_of i None i refl)
effect_alive s i (Defines o) g h = h
effect_alive s i (Cleans p) g h = h
effect_alive s i Prunes g h = h

run_alive : (s : Store) (i : ℕ) (es : List Effect) → AreHarmless es → IsAlive s i → IsAlive (run the_views s i es) i
run_alive s i [] g h = h
run_alive s i (e ∷ es) g h = run_alive (does the_views s i e) i es g.1 (effect_alive s i e g.0 h)

abbrev pub is_dead : Answer → Bool
is_dead (answer.Refused why) = is_deadlock_event why
is_dead said = false

made_by : (es fs : List Effect) → es ≡ fs → AreHarmless fs → AreHarmless es
made_by es fs e h = subst AreHarmless (sym e) h

commit_harmless : (s : Store) (i number : ℕ) (es : List Effect) (cs : List RowChange) → CommitsAs s i cs number es → AreHarmless es
commit_harmless s i number es [] h = made_by es (Ends ∷ []) h.1 (tt, tt)
commit_harmless s i number es (c ∷ cs) h = made_by es (Commits ∷ []) h.1 (tt, tt)

harmless : (s : State) (i : ℕ) (a : Act) (said : Answer) (es : List Effect) → Says s i a said es → is_dead said ≡ false → AreHarmless es
harmless s i a (answer.Blocked sessions) es h d = made_by es [] h.2 tt
harmless s i a (answer.Refused (refusal.Deadlock cycle)) es h d = absurd (cc)
harmless s i a (answer.Refused refusal.NoMemory) es h d = made_by es [] h.1 tt
harmless s i (act.Begin mode) (answer.Begun number defs) es h d = made_by es (Opens mode ∷ []) h.effects (tt, tt)
harmless s i (act.Begin mode) (answer.Refused (refusal.HistoryFull kept need)) es h d = made_by es [] h.3 tt
harmless s i (act.Begin mode) (answer.Refused (refusal.LogFull used reserved need)) es h d = made_by es [] h.0 tt
harmless s i act.Defs (answer.Defs objects) es h d = made_by es [] h.1 tt
harmless s i (act.Fetch number interval mode) (answer.Rows rows) es h d = made_by es (Takes _ ∷ Notes _ ∷ []) h.effects (tt, (tt, tt))
harmless s i (act.Fetch number interval mode) (answer.Refused (refusal.TxnFull kept need)) es h d = made_by es [] h.1 tt
harmless s i (act.Peek number interval) (answer.Rows rows) es h d = made_by es [] h.1 tt
harmless s i (act.Put number key new) (answer.Changed before deltas) es h d = made_by es (Takes _ ∷ Writes _ _ ∷ []) h.effects (tt, (tt, tt))
harmless s i (act.Put number key new) (answer.Refused (refusal.TxnFull kept need)) es h d = made_by es [] h.1 tt
harmless s i (act.Put number key new) (answer.Refused (refusal.HistoryFull kept need)) es h d = made_by es [] h.1 tt
harmless s i (act.Put number key new) (answer.Refused (refusal.LogFull used reserved need)) es h d = made_by es [] h.1 tt
harmless s i (act.Put number key new) (answer.Refused (refusal.DataFull used need)) es h d = made_by es [] h.1 tt
harmless s i act.Pay (answer.Paid left) es h d = made_by es (Takes _ ∷ Pays ∷ []) h.effects (tt, (tt, tt))
harmless s i act.Pay answer.NeedsGhost es h d = made_by es (Takes _ ∷ []) h.effects (tt, tt)
harmless s i act.Pay (answer.Refused (refusal.Escrow column low high)) es h d = made_by es (Takes _ ∷ []) h.effects (tt, tt)
harmless s i act.Ghost answer.Ghosted es h d = elim h.effects [
  | inl m ↦ made_by es (Ghosts _ _ ∷ []) m.1 (tt, tt)
  | inr m ↦ made_by es [] m.1 tt
]
harmless s i act.UndoOne (answer.Undone left) es h d = made_by es (Undoes ∷ []) h.effects (tt, tt)
harmless s i act.End answer.Ended es h d = made_by es (Ends ∷ []) h (tt, tt)
harmless s i act.Commit (answer.Committed number) es h d = commit_harmless s.store i number es (changes_by s.store i) h
harmless s i act.Commit (answer.Refused refusal.DiskFault) es h d = made_by es [] h.0 tt
harmless s i (act.Schema statement) (answer.Committed number) es h d = made_by es (Defines h.object ∷ []) h.effects (tt, tt)
harmless s i (act.Schema statement) (answer.Denied why) es h d = made_by es [] h.1 tt
harmless s i (act.Schema statement) (answer.Refused (refusal.SchemaBusy busy)) es h d = made_by es [] h.1 tt
harmless s i (act.Schema statement) (answer.Refused (refusal.LogFull used reserved need)) es h d = made_by es [] h.1 tt
harmless s i (act.Schema statement) (answer.Refused (refusal.DataFull used need)) es h d = made_by es [] h.1 tt
harmless s i (act.Schema statement) (answer.Refused (refusal.HistoryFull kept need)) es h d = made_by es [] h.1 tt
harmless s i (act.Schema statement) (answer.Refused refusal.DiskFault) es h d = made_by es [] h.0 tt
harmless s i act.Clean (answer.Cleaned zero) es h d = made_by es [] h.1 tt
harmless s i act.Clean (answer.Cleaned (suc zero)) es h d = made_by es (Cleans _ ∷ []) h.2 (tt, tt)
harmless s i act.Clean (answer.Refused (refusal.LogFull used reserved need)) es h d = made_by es [] h.0 tt
harmless s i act.Prune answer.Pruned es h d = made_by es (Prunes ∷ []) h (tt, tt)
harmless s i act.Checkpoint (answer.Saved number) es h d = made_by es [] h.0 tt
harmless s i act.Checkpoint (answer.Refused refusal.DiskFault) es h d = made_by es [] h tt
harmless s i act.Cancel answer.Cancelled es h d = made_by es [] h tt
harmless s i _ _ es h d = absurd h

-- a step that meets no deadlock leaves it so
pub step_alive : (s mid : Story) (i : ℕ) (a : Act) (said : Answer) → DoesOf s i a said mid → is_dead said ≡ false → IsAlive s.state.store i → IsAlive mid.state.store i
step_alive s mid i a said does dead h = elim does.1.does [
  | inl d ↦ subst (λ (t : Store). IsAlive t i) (sym (ap (λ (z : Story). z.state.store) does.2 ∙ ap (λ (z : State). z.store) d.left)) (run_alive s.state.store i d.effects (harmless s.state i a said d.effects d.says dead) h)
  | inr d ↦ subst (λ (t : Store). IsAlive t i) (sym (ap (λ (z : Story). z.state.store) does.2 ∙ ap (λ (z : State). z.store) d.left)) h
]

-- ---- a pay that lacks its row

-- the lock of the first owed delta's group is held
abbrev pub HoldsFirst : Store → ℕ → Type 0
HoldsFirst s i = (o : Owes s i) → Holds (locks_of s i) Increment o.first.view o.first.group

head_in : (w : Want) (ws : List Want) → Contains (w ∷ ws) w
head_in w ws = (zero, omega arith, refl)

holds_in : (locks : List Want) (d : GroupDelta) (more : List Want) → locks ≡ group_want d ∷ more → Holds locks Increment d.view d.group
holds_in locks d more e = record { lock = group_want d; held = subst (λ l. Contains l (group_want d)) (sym e) (head_in (group_want d) more); mode_is = refl; index_is = refl; covers = in_point d.group }

some_is : {A : Type 0} {a b : A} → Some a ≡ Some b → a ≡ b
some_is e = cc

taken : (s : Store) (i : ℕ) (t : Store) → t ≡ run the_views s i (Takes (first_want (now s i).owed) ∷ []) → HoldsFirst t i
taken s i t e o =
    let after : Open = record (now s i) { locks = first_want (now s i).owed ++ (now s i).locks } in
    let is_open : t.open_of i ≡ Some after = ap (λ (z : Store). z.open_of i) e ∙ one_same s.open_of i (Some after) i refl in
    let same : after ≡ o.goes_on.transaction = some_is (sym is_open ∙ o.goes_on.is_open) in
    let owed : (now s i).owed ≡ o.first ∷ o.others = ap (λ (x : Open). x.owed) same ∙ o.owed_is in
    let locks : locks_of t i ≡ first_want (now s i).owed ++ (now s i).locks = ap (λ (x : Option Open). (the_open x).locks) is_open in
    holds_in (locks_of t i) o.first (now s i).locks (locks ∙ ap (λ ds. first_want ds ++ (now s i).locks) owed)

pub lacking_holds : (s mid : Story) (i : ℕ) → DoesOf s i act.Pay answer.NeedsGhost mid → HoldsFirst mid.state.store i
lacking_holds s mid i does = elim does.1.does [
  | inl d ↦ taken s.state.store i mid.state.store
      (ap (λ (z : Story). z.state.store) does.2 ∙ ap (λ (z : State). z.store) d.left ∙ ap (run the_views s.state.store i) d.says.effects)
  | inr d ↦ let never : answer.NeedsGhost ≡ answer.Refused (refusal.Stopped d.stop.step) = d.says in absurd (cc)
]
