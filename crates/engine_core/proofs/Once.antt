-- What is answered tells the effects.
use Rattle.std.specs.Prelude.{◌≡◌, ℕ, ℤ, List, [], ◌∷◌, length, Option, Result, Ok}
use Rattle.std.specs.FinMap.{get}
use mathlib.Core.Path.{sym, ap, ◌∙◌}
use mathlib.Core.Logic.{inl, inr}
use Rattle.iv_types.specs.declared.refusal.Refusal.{Refusal}
use Rattle.iv_types.specs.declared.refusal.EngineRefusal.TheVariants as refusal
use Rattle.table_laws.specs.Place.{Place, place_cmp}
use Rattle.table_laws.proofs.Place.{place_cmp_total, place_cmp-IsAntisymmetric}
use Rattle.iv_meaning.specs.Schema.{Object}
use Rattle.iv_meaning.specs.Statement.{BoundTree, create}
use Rattle.txn_machine.specs.Acts as act
use Rattle.txn_machine.specs.Acts.{Act}
use Rattle.txn_machine.specs.Answers as answer
use Rattle.txn_machine.specs.Answers.{Answer}
use Rattle.txn_machine.specs.Deltas.{RowChange, place_of, columns_of}
use Rattle.iv_types.specs.declared.lock.GroupDelta.{GroupDelta}
use Rattle.txn_machine.specs.Ghosts.{IsFirstCleanable}
use Rattle.txn_machine.specs.State.{State}
use Rattle.txn_machine.specs.Steps.{Says, CommitsAs, MakesGhost}
use Rattle.txn_machine.specs.Store.{Store, Effect, Ghosts, Cleans, Defines, changes_by}
use Rattle.txn_machine.proofs.Stepping.{some_not_none}
use Rattle.machine_answers.proofs.Only.{tied_both}

-- the first ghost that can go is one
one_first : (s : Store) (p q : Place) → IsFirstCleanable s p → IsFirstCleanable s q → p ≡ q
one_first s p q h k = place_cmp-IsAntisymmetric p q (tied_both place_cmp place_cmp_total p q (h.first q k.is) (k.first p h.is))

commits_once : (s : Store) (i number : ℕ) (cs : List RowChange) (es fs : List Effect) → CommitsAs s i cs number es → CommitsAs s i cs number fs → es ≡ fs
commits_once s i number [] es fs h k = h.1 ∙ sym k.1
commits_once s i number (c ∷ cs) es fs h k = h.1 ∙ sym k.1

first_owed : (d e : GroupDelta) (ds es : List GroupDelta) → d ∷ ds ≡ e ∷ es → d ≡ e
first_owed d e ds es h = cc

-- a row is made where there is none
ghosts_once : (s : Store) (i : ℕ) (es fs : List Effect) → MakesGhost s i es → MakesGhost s i fs → es ≡ fs
ghosts_once s i es fs h k =
    let same : h.first ≡ k.first = first_owed h.first k.first h.others k.others (sym h.owed_is ∙ k.owed_is) in
    elim h.effects [
      | inl made ↦ elim k.effects [
        | inl other ↦ made.1 ∙ ((λ t. Ghosts (place_of (same t)) (columns (same t)) ∷ []) ∙ sym other.1)
        | inr there ↦ absurd (some_not_none _ there.0 (ap (λ (d : GroupDelta). get_of d) (sym same) ∙ made.0))
      ]
      | inr there ↦ elim k.effects [
        | inl made ↦ absurd (some_not_none _ there.0 (ap (λ (d : GroupDelta). get_of d) same ∙ made.0))
        | inr other ↦ there.1 ∙ sym other.1
      ]
    ]
  where
    columns : GroupDelta → ℕ
    columns d = length (columns_of d)

    get_of : GroupDelta → Option (List ℤ)
    get_of d = get s.view (place_of d)

made_once : (a b : Object) → ◌≡◌ {A = Result BoundTree Refusal} (Ok (create a)) (Ok (create b)) → a ≡ b
made_once a b e = cc

pub says_once : (s : State) (i : ℕ) (a : Act) (said : Answer) (es fs : List Effect) → Says s i a said es → Says s i a said fs → es ≡ fs
says_once s i a (answer.Blocked sessions) es fs h k = h.2 ∙ sym k.2
says_once s i a (answer.Refused (refusal.Deadlock cycle)) es fs h k = h.2 ∙ sym k.2
says_once s i a (answer.Refused refusal.NoMemory) es fs h k = h.1 ∙ sym k.1
says_once s i (act.Begin mode) (answer.Begun number defs) es fs h k = h.effects ∙ sym k.effects
says_once s i (act.Begin mode) (answer.Refused (refusal.LogFull used reserved need)) es fs h k = h.0 ∙ sym k.0
says_once s i (act.Begin mode) (answer.Refused (refusal.HistoryFull kept need)) es fs h k = h.3 ∙ sym k.3
says_once s i act.Defs (answer.Defs objects) es fs h k = h.1 ∙ sym k.1
says_once s i (act.Fetch number interval mode) (answer.Rows rows) es fs h k = h.effects ∙ sym k.effects
says_once s i (act.Fetch number interval mode) (answer.Refused (refusal.TxnFull kept need)) es fs h k = h.1 ∙ sym k.1
says_once s i (act.Peek number interval) (answer.Rows rows) es fs h k = h.1 ∙ sym k.1
says_once s i (act.Put number key new) (answer.Changed before deltas) es fs h k = h.effects ∙ sym k.effects
says_once s i (act.Put number key new) (answer.Refused (refusal.TxnFull kept need)) es fs h k = h.1 ∙ sym k.1
says_once s i (act.Put number key new) (answer.Refused (refusal.LogFull used reserved need)) es fs h k = h.1 ∙ sym k.1
says_once s i (act.Put number key new) (answer.Refused (refusal.DataFull used need)) es fs h k = h.1 ∙ sym k.1
says_once s i (act.Put number key new) (answer.Refused (refusal.HistoryFull kept need)) es fs h k = h.1 ∙ sym k.1
says_once s i act.Pay (answer.Paid left) es fs h k = h.effects ∙ sym k.effects
says_once s i act.Pay answer.NeedsGhost es fs h k = h.effects ∙ sym k.effects
says_once s i act.Pay (answer.Refused (refusal.Escrow column low high)) es fs h k = h.effects ∙ sym k.effects
says_once s i act.Ghost answer.Ghosted es fs h k = ghosts_once s.store i es fs h k
says_once s i act.UndoOne (answer.Undone left) es fs h k = h.effects ∙ sym k.effects
says_once s i act.End answer.Ended es fs h k = h ∙ sym k
says_once s i act.Commit (answer.Committed number) es fs h k = commits_once s.store i number (changes_by s.store i) es fs h k
says_once s i act.Commit (answer.Refused refusal.DiskFault) es fs h k = h.0 ∙ sym k.0
says_once s i (act.Schema statement) (answer.Committed number) es fs h k =
    h.effects ∙ ((λ t. Defines (made_once h.object k.object (sym h.makes.bound ∙ k.makes.bound) t) ∷ []) ∙ sym k.effects)
says_once s i (act.Schema statement) (answer.Denied why) es fs h k = h.1 ∙ sym k.1
says_once s i (act.Schema statement) (answer.Refused (refusal.SchemaBusy busy)) es fs h k = h.1 ∙ sym k.1
says_once s i (act.Schema statement) (answer.Refused (refusal.LogFull used reserved need)) es fs h k = h.1 ∙ sym k.1
says_once s i (act.Schema statement) (answer.Refused (refusal.DataFull used need)) es fs h k = h.1 ∙ sym k.1
says_once s i (act.Schema statement) (answer.Refused (refusal.HistoryFull kept need)) es fs h k = h.1 ∙ sym k.1
says_once s i (act.Schema statement) (answer.Refused refusal.DiskFault) es fs h k = h.0 ∙ sym k.0
says_once s i act.Clean (answer.Cleaned ℕ.zero) es fs h k = h.1 ∙ sym k.1
says_once s i act.Clean (answer.Cleaned (ℕ.suc ℕ.zero)) es fs h k = h.2 ∙ ((λ t. Cleans (one_first s.store h.0 k.0 h.1 k.1 t) ∷ []) ∙ sym k.2)
says_once s i act.Clean (answer.Refused (refusal.LogFull used reserved need)) es fs h k = h.0 ∙ sym k.0
says_once s i act.Prune answer.Pruned es fs h k = h ∙ sym k
says_once s i act.Checkpoint (answer.Saved number) es fs h k = h.0 ∙ sym k.0
says_once s i act.Checkpoint (answer.Refused refusal.DiskFault) es fs h k = h ∙ sym k
says_once s i act.Cancel answer.Cancelled es fs h k = h ∙ sym k
says_once s i a said es fs h k = absurd h
