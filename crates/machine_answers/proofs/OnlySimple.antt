-- Acts that have one answer of a kind, or two.
use Rattle.std.specs.Prelude.{◌≡◌, ◌⊎◌, ℕ, suc, ◌-◌, List, [], ◌∷◌, length, Option, Some, None, IsSome}
use Rattle.std.specs.FinMap.{get}
use mathlib.Core.Path.{refl, sym, ap, subst, ◌∙◌}
use mathlib.Core.Logic.{inl, inr}
use Rattle.std.proofs.Common.{arith}
use Rattle.iv_types.specs.declared.statement.Mode.TheVariants.{Serial, Snapshot}
use Rattle.iv_types.specs.declared.lock.GroupDelta.{GroupDelta}
use Rattle.iv_types.specs.declared.value.Interval.{Interval}
use Rattle.iv_types.specs.declared.refusal.EngineRefusal.TheVariants as refusal
use Rattle.iv_meaning.specs.View.{read}
use Rattle.iv_meaning.specs.History.{state_at}
use Rattle.txn_machine.specs.Acts as act
use Rattle.txn_machine.specs.Acts.{Act}
use Rattle.txn_machine.specs.Answers as answer
use Rattle.txn_machine.specs.Answers.{Answer}
use Rattle.txn_machine.specs.Deltas.{RowChange, columns_of, place_of}
use Rattle.txn_machine.specs.Store.{committed, schema_of, now, changes_by, Effect, Opens, Ghosts, Undoes, Ends, Prunes}
use Rattle.txn_machine.specs.State.{State}
use Rattle.txn_machine.specs.Steps.{Says, CommitsAs, MakesGhost}
use Rattle.machine_answers.specs.Answered.{IsOfState}
use Rattle.machine_answers.proofs.Only.{Both}

module _ (s : State) (session : ℕ) where
  pub snapshot_says : (said : Answer) (es : List Effect) → IsOfState said → Says s session (act.Begin Snapshot) said es
      → Both (answer.Begun (committed s.store).number (length (schema_of s.store))) (Opens Snapshot ∷ []) said es
  snapshot_says (answer.Blocked x) es of h = absurd h.0
  snapshot_says (answer.Refused (refusal.Deadlock c)) es of h = absurd h.0
  snapshot_says (answer.Refused refusal.NoMemory) es of h = absurd of
  snapshot_says (answer.Begun number defs) es of h = ((λ i. answer.Begun (h.number_is i) (h.defs_are i)), h.effects)
  snapshot_says (answer.Refused (refusal.LogFull used reserved_bytes need)) es of h = let other : Snapshot ≡ Serial = h.1 in cc
  snapshot_says (answer.Refused (refusal.HistoryFull kept need)) es of h = let other : Snapshot ≡ Serial = h.0 in cc
  snapshot_says _ es of h = absurd h

  pub defs_says : (said : Answer) (es : List Effect) → IsOfState said → Says s session act.Defs said es → Both (answer.Defs (schema_of s.store)) [] said es
  defs_says (answer.Blocked x) es of h = absurd h.0
  defs_says (answer.Refused (refusal.Deadlock c)) es of h = absurd h.0
  defs_says (answer.Refused refusal.NoMemory) es of h = absurd of
  defs_says (answer.Defs objects) es of h = (ap answer.Defs h.0, h.1)
  defs_says _ es of h = absurd h

  pub peek_says : (number : ℕ) (interval : Interval) (said : Answer) (es : List Effect) → IsOfState said → Says s session (act.Peek number interval) said es
      → Both (answer.Rows (read (state_at s.store.origin s.store.history (now s.store session).number) number interval)) [] said es
  peek_says number interval (answer.Blocked x) es of h = absurd h.0
  peek_says number interval (answer.Refused (refusal.Deadlock c)) es of h = absurd h.0
  peek_says number interval (answer.Refused refusal.NoMemory) es of h = absurd of
  peek_says number interval (answer.Rows rows) es of h = (ap answer.Rows (sym h.0), h.1)
  peek_says number interval _ es of h = absurd h

  pub ghost_says : (said : Answer) (es : List Effect) → IsOfState said → Says s session act.Ghost said es → (said ≡ answer.Ghosted) × MakesGhost s.store session es
  ghost_says (answer.Blocked x) es of h = absurd h.0
  ghost_says (answer.Refused (refusal.Deadlock c)) es of h = absurd h.0
  ghost_says (answer.Refused refusal.NoMemory) es of h = absurd of
  ghost_says answer.Ghosted es of h = (refl, h)
  ghost_says _ es of h = absurd h

  pub same_first : (c d : GroupDelta) (cs ds : List GroupDelta) → (now s.store session).owed ≡ c ∷ cs → (now s.store session).owed ≡ d ∷ ds → (c ≡ d) × (cs ≡ ds)
  same_first c d cs ds e f = let same : (c ∷ cs) ≡ (d ∷ ds) = sym e ∙ f in (cc, cc)

  pub not_there : {X : Type 0} (o : Option X) → o ≡ None → IsSome o → ⊥
  not_there None e some = cc
  not_there (Some x) e some = cc

  abbrev ghost_effects : (d : GroupDelta) → List Effect
  ghost_effects d = Ghosts (place_of d) (length (columns_of d)) ∷ []

  pub one_ghost : (es fs : List Effect) → MakesGhost s.store session es → MakesGhost s.store session fs → es ≡ fs
  one_ghost es fs h k = by h.effects k.effects
    where
      same : h.first ≡ k.first
      same = (same_first h.first k.first h.others k.others h.owed_is k.owed_is).0

      by : ((get s.store.view (place_of h.first) ≡ None) × (es ≡ ghost_effects h.first)) ⊎ (IsSome (get s.store.view (place_of h.first)) × (es ≡ []))
          → ((get s.store.view (place_of k.first) ≡ None) × (fs ≡ ghost_effects k.first)) ⊎ (IsSome (get s.store.view (place_of k.first)) × (fs ≡ [])) → es ≡ fs
      by (inl x) (inl y) = x.1 ∙ ap ghost_effects same ∙ sym y.1
      by (inr x) (inr y) = x.1 ∙ sym y.1
      by (inl x) (inr y) = absurd (not_there (get s.store.view (place_of k.first)) (subst (λ (d : GroupDelta). get s.store.view (place_of d) ≡ None) same x.0) y.0)
      by (inr x) (inl y) = absurd (not_there (get s.store.view (place_of h.first)) (subst (λ (d : GroupDelta). get s.store.view (place_of d) ≡ None) (sym same) y.0) x.0)

  pub undo_says : (said : Answer) (es : List Effect) → IsOfState said → Says s session act.UndoOne said es → Both (answer.Undone (length (now s.store session).kept - 1)) (Undoes ∷ []) said es
  undo_says (answer.Blocked x) es of h = absurd h.0
  undo_says (answer.Refused (refusal.Deadlock c)) es of h = absurd h.0
  undo_says (answer.Refused refusal.NoMemory) es of h = absurd of
  undo_says (answer.Undone left) es of h =
      let many : length (now s.store session).kept ≡ suc (length h.earlier) = ap length h.kept_is in
      let left_is : left ≡ length h.earlier = h.left_is in
      let is : left ≡ length (now s.store session).kept - 1 = omega (arith, many, left_is) in
      (ap answer.Undone is, h.effects)
  undo_says _ es of h = absurd h

  pub end_says : (said : Answer) (es : List Effect) → IsOfState said → Says s session act.End said es → Both answer.Ended (Ends ∷ []) said es
  end_says (answer.Blocked x) es of h = absurd h.0
  end_says (answer.Refused (refusal.Deadlock c)) es of h = absurd h.0
  end_says (answer.Refused refusal.NoMemory) es of h = absurd of
  end_says answer.Ended es of h = (refl, h)
  end_says _ es of h = absurd h

  pub commit_says : (said : Answer) (es : List Effect) → IsOfState said → Says s session act.Commit said es → (number : ℕ) × (said ≡ answer.Committed number) × CommitsAs s.store session (changes_by s.store session) number es
  commit_says (answer.Blocked x) es of h = absurd h.0
  commit_says (answer.Refused (refusal.Deadlock c)) es of h = absurd h.0
  commit_says (answer.Refused refusal.NoMemory) es of h = absurd of
  commit_says (answer.Refused refusal.DiskFault) es of h = absurd of
  commit_says (answer.Committed number) es of h = (number, refl, h)
  commit_says _ es of h = absurd h

  pub one_commit : (cs : List RowChange) (n m : ℕ) (es fs : List Effect) → CommitsAs s.store session cs n es → CommitsAs s.store session cs m fs → (n ≡ m) × (es ≡ fs)
  one_commit [] n m es fs h k = (h.0 ∙ sym k.0, h.1 ∙ sym k.1)
  one_commit (c ∷ cs) n m es fs h k = (h.0 ∙ sym k.0, h.1 ∙ sym k.1)

  pub prune_says : (said : Answer) (es : List Effect) → IsOfState said → Says s session act.Prune said es → Both answer.Pruned (Prunes ∷ []) said es
  prune_says (answer.Blocked x) es of h = absurd h.0
  prune_says (answer.Refused (refusal.Deadlock c)) es of h = absurd h.0
  prune_says (answer.Refused refusal.NoMemory) es of h = absurd of
  prune_says answer.Pruned es of h = (refl, h)
  prune_says _ es of h = absurd h

  pub save_says : (said : Answer) (es : List Effect) → IsOfState said → Says s session act.Checkpoint said es → Both (answer.Saved (committed s.store).number) [] said es
  save_says (answer.Blocked x) es of h = absurd h.0
  save_says (answer.Refused (refusal.Deadlock c)) es of h = absurd h.0
  save_says (answer.Refused refusal.NoMemory) es of h = absurd of
  save_says (answer.Refused refusal.DiskFault) es of h = absurd of
  save_says (answer.Saved number) es of h = (ap answer.Saved h.1, h.0)
  save_says _ es of h = absurd h

  pub cancel_says : (said : Answer) (es : List Effect) → IsOfState said → Says s session act.Cancel said es → Both answer.Cancelled [] said es
  cancel_says (answer.Blocked x) es of h = absurd h.0
  cancel_says (answer.Refused (refusal.Deadlock c)) es of h = absurd h.0
  cancel_says (answer.Refused refusal.NoMemory) es of h = absurd of
  cancel_says answer.Cancelled es of h = (refl, h)
  cancel_says _ es of h = absurd h
