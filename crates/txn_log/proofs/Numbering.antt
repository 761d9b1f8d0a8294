-- A serial transaction has a number, and nothing else has: so each effect of a step that appends a record finds one.
use Rattle.std.specs.Prelude.{◌≡◌, ◌≢◌, ℕ, zero, suc, ◌+◌, ◌≤◌, Bool, true, false, List, [], ◌∷◌, ◌++◌, Option, Some, None, IsSome}
use Rattle.std.specs.FinMap.{get}
use mathlib.Core.Path.{refl, sym, ap, subst, ◌∙◌}
use mathlib.Core.Logic.{inl, inr}
use Rattle.std.proofs.Common.{arith}
use Rattle.std.proofs.lemmas.Bool.{false≢true}
use Rattle.iv_types.specs.declared.statement.Mode.{Mode}
use Rattle.iv_types.specs.declared.statement.Mode.TheVariants.{Serial, Snapshot}
use Rattle.iv_types.specs.declared.lock.GroupDelta.{GroupDelta}
use Rattle.iv_types.specs.declared.lock.Want.{Want}
use Rattle.iv_types.specs.declared.refusal.EngineRefusal.TheVariants as refusal
use Rattle.iv_meaning.specs.Escrow.{IsSession}
use Rattle.txn_machine.specs.Acts as act
use Rattle.txn_machine.specs.Acts.{Act}
use Rattle.txn_machine.specs.Answers as answer
use Rattle.txn_machine.specs.Answers.{Answer}
use Rattle.txn_machine.specs.Locks.{with_one}
use Rattle.txn_machine.specs.Deltas.{RowChange}
use Rattle.txn_machine.specs.Keeping.{KeptStep, Put, Pay, Open, begun}
use Rattle.txn_machine.specs.Store.{Store, committed, schema_of, now, changes_by, change_at, paid_first, undone, Effect, Opens, Takes, Notes, Writes, Pays, Ghosts, Undoes, Loses, Ends, Commits, Defines, Cleans, Prunes, does}
use Rattle.txn_machine.specs.Ghosts.{the_views}
use Rattle.txn_machine.specs.State.{State}
use Rattle.iv_types.specs.Syntax.{StatementTree}
use Rattle.iv_meaning.specs.Schema.{Object}
use Rattle.iv_meaning.specs.Database.{Row}
use Rattle.txn_machine.proofs.Reached.{Holds'}
use Rattle.txn_machine.specs.May.{IsOpenIn, MayAct, MayPut, IsWritten}
use Rattle.txn_machine.specs.Steps.{asked, MayWait, CommitsAs, Says, Makes}
use Rattle.txn_machine.proofs.Basics.{one_same, one_other}
use Rattle.txn_machine.proofs.Good.{the_open}
use Rattle.txn_machine.proofs.Stepping.{now_is, now_locked}
use Rattle.txn_machine.proofs.Looking.{view_laws}
use Rattle.txn_machine.proofs.Runs.{Can}
use Rattle.txn_machine.specs.Fresh.{fresh}
use Rattle.txn_log.specs.Replay.{Deed, Wrote, Added}
use Rattle.txn_log.specs.Fitting.{IsAccepted}
use Rattle.txn_log.specs.Moments.{Txn}
use Rattle.txn_log.proofs.Memory.{no_txn, Memory, deed_now, pays, undoes, aborts, begins, remembers, HasNumber}
use Rattle.txn_log.proofs.Finding.{by_number}
use Rattle.txn_log.proofs.Owning.{set_each}
use Rattle.txn_log.proofs.Tying.{Tied}
use Rattle.txn_log.proofs.Knowing.{change_known}
use Rattle.txn_log.proofs.KeptTied.{number_of_changes, Finds}

abbrev pub ModeNumber : Mode → Txn → Type 0
ModeNumber Serial t = 1 ≤ t.id
ModeNumber Snapshot t = (t.id ≡ 0) × (t.wrote ≡ false)

abbrev pub NumberOf : Option Open → Txn → Type 0
NumberOf None t = (t.id ≡ 0) × (t.wrote ≡ false)
NumberOf (Some o) t = ModeNumber o.mode t

abbrev pub IsNumbered : Store → Memory → Type 0
IsNumbered s l = (i : ℕ) → IsSession i → NumberOf (s.open_of i) (l.txn_of i)

-- the definition of an act is one that its text makes and that is accepted
abbrev pub IsMade : Store → Act → Object → Type 0
IsMade s a o = (statement : StatementTree) × (a ≡ act.Schema statement) × Makes s statement o × IsWritten statement × IsAccepted (committed s) o

-- what an effect of an act finds of its session's transaction
abbrev pub OpenFor : Store → ℕ → Act → Effect → Type 0
OpenFor s i a (Takes wants) = IsSome (s.open_of i)
OpenFor s i a (Notes n) = IsSome (s.open_of i)
OpenFor s i a (Writes place new) = IsSome (s.open_of i) × ((now s i).mode ≡ Serial) × MayPut s place.0 place.1 new
OpenFor s i a Pays = IsSome (s.open_of i) × ((now s i).mode ≡ Serial) × ((d : GroupDelta) × (ds : List GroupDelta) × ((now s i).owed ≡ d ∷ ds))
OpenFor s i a Undoes = IsSome (s.open_of i) × ((k : KeptStep) × (ks : List KeptStep) × ((now s i).kept ≡ k ∷ ks))
OpenFor s i a Loses = IsSome (s.open_of i)
OpenFor s i a Commits = changes_by s i ≢ []
OpenFor s i a (Opens mode) = s.open_of i ≡ None
OpenFor s i a (Defines o) = IsMade s a o
OpenFor s i a (Cleans p) = IsSome (get s.view p)
OpenFor s i a _ = Unit {0}

abbrev pub AllOpen : Store → ℕ → Act → List Effect → Type 0
AllOpen s i a [] = Unit {0}
AllOpen s i a (e ∷ es) = OpenFor s i a e × AllOpen (does the_views s i e) i a es

-- ---- each step's effects find it

open_some : (s : Store) (i : ℕ) (t : Open) → s.open_of i ≡ Some t → IsSome (s.open_of i)
open_some s i t e = subst IsSome (sym e) refl

goes_some : (s : Store) (i : ℕ) (mode : Mode) → IsOpenIn s i mode → IsSome (s.open_of i)
goes_some s i mode g = open_some s i g.transaction g.is_open

goes_mode : (s : Store) (i : ℕ) (mode : Mode) → IsOpenIn s i mode → (now s i).mode ≡ mode
goes_mode s i mode g = ap (λ (t : Open). t.mode) (now_is view_laws s i g.transaction g.is_open) ∙ g.mode_is

-- after new locks
locked_some : (s : Store) (i : ℕ) (wants : List Want) → IsSome ((does the_views s i (Takes wants)).open_of i)
locked_some s i wants = subst IsSome (sym (one_same s.open_of i (Some (record (now s i) { locks = wants ++ (now s i).locks })) i refl)) refl

locked_mode : (s : Store) (i : ℕ) (wants : List Want) → (now (does the_views s i (Takes wants)) i).mode ≡ (now s i).mode
locked_mode s i wants = ap (λ o. (the_open o).mode) (one_same s.open_of i (Some (record (now s i) { locks = wants ++ (now s i).locks })) i refl)

waiting_some : (s : Store) (i : ℕ) (a : Act) → MayWait a → MayAct s i a → IsSome (s.open_of i)
waiting_some s i (act.Fetch number interval mode) w may = goes_some s i Serial may.0.goes_on
waiting_some s i (act.Put number key new) w may = goes_some s i Serial may.0.goes_on
waiting_some s i act.Pay w may = goes_some s i Serial may.goes_on
waiting_some s i _ w may = absurd w

locked_put : (s : Store) (i : ℕ) (wants : List Want) (number : ℕ) (key : List ℕ) (new : Option Row) → MayPut s number key new → MayPut (does the_views s i (Takes wants)) number key new
locked_put s i wants number key new m = record { of = m.of; table_is = m.table_is; fits = m.fits; changes = m.changes }

open_commit : (s : Store) (i number : ℕ) (es : List Effect) (cs : List RowChange) → changes_by s i ≡ cs → CommitsAs s i cs number es → AllOpen s i act.Commit es
open_commit s i number es [] e h = subst (AllOpen s i act.Commit) (sym h.1) (tt, tt)
open_commit s i number es (c ∷ cs) e h = subst (AllOpen s i act.Commit) (sym h.1) ((λ none. absurd (let both : c ∷ cs ≡ [] = sym e ∙ none in cc)), tt)

pub open_says : (s : State) (i : ℕ) (a : Act) (said : Answer) (es : List Effect) → MayAct s.store i a → Says s i a said es → AllOpen s.store i a es
open_says s i a (answer.Blocked sessions) es may h = subst (AllOpen s.store i a) (sym h.2) tt
open_says s i a (answer.Refused (refusal.Deadlock cycle)) es may h = subst (AllOpen s.store i a) (sym h.2) (waiting_some s.store i a h.0 may, tt)
open_says s i a (answer.Refused refusal.NoMemory) es may h = subst (AllOpen s.store i a) (sym h.1) tt
open_says s i (act.Begin mode) (answer.Begun number defs) es may h = subst (AllOpen s.store i (act.Begin mode)) (sym h.effects) (may.1, tt)
open_says s i (act.Begin mode) (answer.Refused (refusal.HistoryFull kept need)) es may h = subst (AllOpen s.store i (act.Begin mode)) (sym h.3) tt
open_says s i act.Defs (answer.Defs objects) es may h = subst (AllOpen s.store i act.Defs) (sym h.1) tt
open_says s i (act.Fetch number interval mode) (answer.Rows rows) es may h =
    subst (AllOpen s.store i (act.Fetch number interval mode)) (sym h.effects) (goes_some s.store i Serial may.0.goes_on, (locked_some s.store i (asked s.store i (act.Fetch number interval mode)), tt))
open_says s i (act.Fetch number interval mode) (answer.Refused (refusal.TxnFull kept need)) es may h = subst (AllOpen s.store i (act.Fetch number interval mode)) (sym h.1) tt
open_says s i (act.Peek number interval) (answer.Rows rows) es may h = subst (AllOpen s.store i (act.Peek number interval)) (sym h.1) tt
open_says s i (act.Put number key new) (answer.Changed before deltas) es may h =
    subst (AllOpen s.store i (act.Put number key new)) (sym h.effects)
    (goes_some s.store i Serial may.0.goes_on, ((locked_some s.store i (asked s.store i (act.Put number key new)), locked_mode s.store i (asked s.store i (act.Put number key new)) ∙ goes_mode s.store i Serial may.0.goes_on, locked_put s.store i (asked s.store i (act.Put number key new)) number key new may.1), tt))
open_says s i (act.Put number key new) (answer.Refused (refusal.TxnFull kept need)) es may h = subst (AllOpen s.store i (act.Put number key new)) (sym h.1) tt
open_says s i (act.Put number key new) (answer.Refused (refusal.HistoryFull kept need)) es may h = subst (AllOpen s.store i (act.Put number key new)) (sym h.1) tt
open_says s i act.Pay (answer.Paid left) es may h =
    subst (AllOpen s.store i act.Pay) (sym h.effects)
    (goes_some s.store i Serial may.goes_on, ((locked_some s.store i (asked s.store i act.Pay), locked_mode s.store i (asked s.store i act.Pay) ∙ goes_mode s.store i Serial may.goes_on, (h.pays.first, h.pays.others, ap (λ (t : Open). t.owed) (now_locked view_laws s.store i (asked s.store i act.Pay)) ∙ h.pays.owed_is)), tt))
open_says s i act.Pay answer.NeedsGhost es may h = subst (AllOpen s.store i act.Pay) (sym h.effects) (goes_some s.store i Serial may.goes_on, tt)
open_says s i act.Pay (answer.Refused (refusal.Escrow column low high)) es may h = subst (AllOpen s.store i act.Pay) (sym h.effects) (goes_some s.store i Serial may.goes_on, tt)
open_says s i act.Ghost answer.Ghosted es may h = elim h.effects [
  | inl m ↦ subst (AllOpen s.store i act.Ghost) (sym m.1) (tt, tt)
  | inr m ↦ subst (AllOpen s.store i act.Ghost) (sym m.1) tt
]
open_says s i act.UndoOne (answer.Undone left) es may h = subst (AllOpen s.store i act.UndoOne) (sym h.effects) ((open_some s.store i may.0.transaction may.0.is_open, (h.latest, h.earlier, h.kept_is)), tt)
open_says s i act.End answer.Ended es may h = subst (AllOpen s.store i act.End) (sym h) (tt, tt)
open_says s i act.Commit (answer.Committed number) es may h = open_commit s.store i number es (changes_by s.store i) refl h
open_says s i (act.Schema statement) (answer.Committed number) es may h = subst (AllOpen s.store i (act.Schema statement)) (sym h.effects) ((statement, refl, h.makes, may.3, h.accepted), tt)
open_says s i (act.Schema statement) (answer.Denied why) es may h = subst (AllOpen s.store i (act.Schema statement)) (sym h.1) tt
open_says s i (act.Schema statement) (answer.Refused (refusal.SchemaBusy busy)) es may h = subst (AllOpen s.store i (act.Schema statement)) (sym h.1) tt
open_says s i (act.Schema statement) (answer.Refused (refusal.HistoryFull kept need)) es may h = subst (AllOpen s.store i (act.Schema statement)) (sym h.1) tt
open_says s i act.Clean (answer.Cleaned zero) es may h = subst (AllOpen s.store i act.Clean) (sym h.1) tt
open_says s i act.Clean (answer.Cleaned (suc zero)) es may h = subst (AllOpen s.store i act.Clean) (sym h.2) (h.1.is.ghost.stored, tt)
open_says s i act.Prune answer.Pruned es may h = subst (AllOpen s.store i act.Prune) (sym h) (tt, tt)
open_says s i act.Cancel answer.Cancelled es may h = subst (AllOpen s.store i act.Cancel) (sym h) tt
open_says s i (act.Begin mode) (answer.Refused (refusal.LogFull used reserved need)) es may h = subst (AllOpen s.store i (act.Begin mode)) (sym h.0) tt
open_says s i (act.Put number key new) (answer.Refused (refusal.LogFull used reserved need)) es may h = subst (AllOpen s.store i (act.Put number key new)) (sym h.1) tt
open_says s i (act.Put number key new) (answer.Refused (refusal.DataFull used need)) es may h = subst (AllOpen s.store i (act.Put number key new)) (sym h.1) tt
open_says s i act.Commit (answer.Refused refusal.DiskFault) es may h = subst (AllOpen s.store i act.Commit) (sym h.0) tt
open_says s i (act.Schema statement) (answer.Refused (refusal.LogFull used reserved need)) es may h = subst (AllOpen s.store i (act.Schema statement)) (sym h.1) tt
open_says s i (act.Schema statement) (answer.Refused (refusal.DataFull used need)) es may h = subst (AllOpen s.store i (act.Schema statement)) (sym h.1) tt
open_says s i (act.Schema statement) (answer.Refused refusal.DiskFault) es may h = subst (AllOpen s.store i (act.Schema statement)) (sym h.0) tt
open_says s i act.Clean (answer.Refused (refusal.LogFull used reserved need)) es may h = subst (AllOpen s.store i act.Clean) (sym h.0) tt
open_says s i act.Checkpoint (answer.Saved greatest) es may h = subst (AllOpen s.store i act.Checkpoint) (sym h.0) tt
open_says s i act.Checkpoint (answer.Refused refusal.DiskFault) es may h = subst (AllOpen s.store i act.Checkpoint) (sym h) tt
open_says s i _ _ es may h = absurd h

-- ---- the numbers

-- the number of a transaction that is there, by its mode
number_some : (o : Option Open) (t : Txn) → NumberOf o t → IsSome o → ModeNumber (the_open o).mode t
number_some None t h some = absurd (false≢true some)
number_some (Some o) t h some = h

mode_same : (m : Mode) (t u : Txn) → u.id ≡ t.id → u.wrote ≡ t.wrote → ModeNumber m t → ModeNumber m u
mode_same Serial t u id wrote h = subst (λ n. 1 ≤ n) (sym id) h
mode_same Snapshot t u id wrote h = (id ∙ h.0, wrote ∙ h.1)

number_serial : (m : Mode) → m ≡ Serial → (t : Txn) → 1 ≤ t.id → ModeNumber m t
number_serial m e t h = subst (λ k. ModeNumber k t) (sym e) h

number_bare : (m : Mode) → m ≡ Snapshot → ModeNumber m no_txn
number_bare m e = subst (λ k. ModeNumber k no_txn) (sym e) (refl, refl)

number_wrote : (o : Option Open) (t : Txn) → NumberOf o t → t.wrote ≡ true → 1 ≤ t.id
number_wrote None t h e = absurd (false≢true (sym h.1 ∙ e))
number_wrote (Some o) t h e = by_mode o.mode h
  where
    by_mode : (m : Mode) → ModeNumber m t → 1 ≤ t.id
    by_mode Serial k = k
    by_mode Snapshot k = absurd (false≢true (sym k.1 ∙ e))

module _ (s : Store) (l : Memory) (is : IsNumbered s l) (i : ℕ) (one : IsSession i) where
  -- both replaced
  numbered_set : (o : Option Open) (u : Txn) → NumberOf o u → (j : ℕ) → IsSession j → NumberOf (with_one s.open_of i o j) (with_one l.txn_of i u j)
  numbered_set o u this j = set_each (λ k p. IsSession k → NumberOf (with_one s.open_of i o k) p) l.txn_of i u
      (λ k. subst (λ q. NumberOf q u) (sym (one_same s.open_of i o i refl)) this)
      (λ k n js. subst (λ q. NumberOf q (l.txn_of k)) (sym (one_other s.open_of i o k n)) (is k js))
      j

  -- the machine's alone
  numbered_open : (o : Option Open) → NumberOf o (l.txn_of i) → (j : ℕ) → IsSession j → NumberOf (with_one s.open_of i o j) (l.txn_of j)
  numbered_open o this j js = by_number j i
      (λ e. subst (λ q. NumberOf q (l.txn_of j)) (sym (one_same s.open_of i o j e)) (subst (λ k. NumberOf o (l.txn_of k)) (sym e) this))
      (λ n. subst (λ q. NumberOf q (l.txn_of j)) (sym (one_other s.open_of i o j n)) (is j js))

  -- the number that an effect finds
  serial_number : IsSome (s.open_of i) → (now s i).mode ≡ Serial → 1 ≤ (l.txn_of i).id
  serial_number some mode = subst (λ m. ModeNumber m (l.txn_of i)) mode (number_some (s.open_of i) (l.txn_of i) (is i one) some)

  numbered_paid : IsSome (s.open_of i) → (now s i).mode ≡ Serial → (owed : List GroupDelta) → IsNumbered (paid_first s i (now s i) owed) (pays l i owed)
  numbered_paid some mode [] = is
  numbered_paid some mode (d ∷ ds) =
      let u : Txn = record { id = (l.txn_of i).id; kept = deed_now l i (Added d) ∷ (l.txn_of i).kept; wrote = true } in
      numbered_set (Some (record (now s i) { kept = Pay d ∷ (now s i).kept; owed = ds })) u (number_serial (now s i).mode mode u (serial_number some mode))

  numbered_undone : IsSome (s.open_of i) → (ks : List KeptStep) (xs : List Deed) → IsNumbered (undone s i (now s i) ks) (undoes l i xs)
  numbered_undone some [] [] = is
  numbered_undone some [] (x ∷ xs) = λ j js. set_each (λ k p. IsSession k → NumberOf (s.open_of k) p) l.txn_of i _
      (λ k. number_same (s.open_of i) (l.txn_of i) _ refl refl (is i one)) (λ k n ks. is k ks) j js
    where
      number_same : (o : Option Open) (t u : Txn) → u.id ≡ t.id → u.wrote ≡ t.wrote → NumberOf o t → NumberOf o u
      number_same None t u id wrote h = (id ∙ h.0, wrote ∙ h.1)
      number_same (Some o) t u id wrote h = mode_same o.mode t u id wrote h
  numbered_undone some (Put c ds ∷ ks) [] = numbered_open _ (number_some (s.open_of i) (l.txn_of i) (is i one) some)
  numbered_undone some (Pay d ∷ ks) [] = numbered_open _ (number_some (s.open_of i) (l.txn_of i) (is i one) some)
  numbered_undone some (Put c ds ∷ ks) (x ∷ xs) = numbered_set _ _ (mode_same (now s i).mode (l.txn_of i) _ refl refl (number_some (s.open_of i) (l.txn_of i) (is i one) some))
  numbered_undone some (Pay d ∷ ks) (x ∷ xs) = numbered_set _ _ (mode_same (now s i).mode (l.txn_of i) _ refl refl (number_some (s.open_of i) (l.txn_of i) (is i one) some))

  numbered_begun : (o : Open) (mode : Mode) → o.mode ≡ mode → IsNumbered (record s { open_of = with_one s.open_of i (Some o) }) (begins l i mode)
  numbered_begun o Serial e =
      let u : Txn = record { id = l.begun + 1; kept = []; wrote = false } in
      numbered_set (Some o) u (number_serial o.mode e u (omega arith))
  numbered_begun o Snapshot e = numbered_set (Some o) no_txn (number_bare o.mode e)

  numbered_ended : (n : ℕ) (wrote : Bool) → (j : ℕ) → IsSession j → NumberOf (with_one s.open_of i None j) (with_one (aborts l n wrote).txn_of i no_txn j)
  numbered_ended n true = numbered_set None no_txn (refl, refl)
  numbered_ended n false = numbered_set None no_txn (refl, refl)

pub has_number : (s : Store) (l : Memory) (i : ℕ) (a : Act) (e : Effect) → Can the_views fresh view_laws s i e → Tied s l → IsNumbered s l → OpenFor s i a e → HasNumber e (l.txn_of i)
has_number s l i a (Opens mode) can t is h = (subst (λ q. NumberOf q (l.txn_of i)) h (is i can.0)).0
has_number s l i a (Takes wants) can t is h = tt
has_number s l i a (Notes n) can t is h = tt
has_number s l i a (Writes place new) can t is h = serial_number s l is i can.0 h.0 h.1
has_number s l i a Pays can t is h = serial_number s l is i can.0 h.0 h.1
has_number s l i a (Ghosts p n) can t is h = tt
has_number s l i a Undoes can t is h = tt
has_number s l i a Loses can t is h = tt
has_number s l i a Ends can t is h = number_wrote (s.open_of i) (l.txn_of i) (is i can.0)
has_number s l i a Commits can t is h = number_of_changes s l t i can.0 h
has_number s l i a (Defines o) can t is h = tt
has_number s l i a (Cleans p) can t is h = tt
has_number s l i a Prunes can t is h = tt

pub numbered_does : (s : Store) (l : Memory) (i : ℕ) (a : Act) (e : Effect) → Can the_views fresh view_laws s i e → IsNumbered s l → OpenFor s i a e → IsNumbered (does the_views s i e) (remembers s i e l)
numbered_does s l i a (Opens mode) can is h = numbered_begun s l is i can.0 (begun mode (committed s).number) mode refl
numbered_does s l i a (Takes wants) can is h = numbered_open s l is i can.0 _ (number_some (s.open_of i) (l.txn_of i) (is i can.0) h)
numbered_does s l i a (Notes n) can is h = numbered_open s l is i can _ (number_some (s.open_of i) (l.txn_of i) (is i can) h)
numbered_does s l i a (Writes place new) can is h = numbered_set s l is i can.0 (Some (record (now s i) { kept = Put (change_at s place new) (the_views.owed (schema_of s) s.rows (change_at s place new)) ∷ (now s i).kept; owed = the_views.owed (schema_of s) s.rows (change_at s place new); back = 0 }))
    (record { id = (l.txn_of i).id; kept = deed_now l i (Wrote (change_at s place new)) ∷ (l.txn_of i).kept; wrote = true })
    (number_serial (now s i).mode h.1 (record { id = (l.txn_of i).id; kept = deed_now l i (Wrote (change_at s place new)) ∷ (l.txn_of i).kept; wrote = true }) (serial_number s l is i can.0 h.0 h.1))
numbered_does s l i a Pays can is h = numbered_paid s l is i can.0 h.0 h.1 (now s i).owed
numbered_does s l i a (Ghosts p n) can is h = is
numbered_does s l i a Undoes can is h = numbered_undone s l is i can h.0 (now s i).kept (l.txn_of i).kept
numbered_does s l i a Loses can is h = numbered_open s l is i can _ (number_some (s.open_of i) (l.txn_of i) (is i can) h)
numbered_does s l i a Ends can is h = numbered_ended s l is i can.0 (l.txn_of i).id (l.txn_of i).wrote
numbered_does s l i a Commits can is h = numbered_set s l is i can.0 None no_txn (refl, refl)
numbered_does s l i a (Defines o) can is h = is
numbered_does s l i a (Cleans p) can is h = is
numbered_does s l i a Prunes can is h = is

pub finds : (s : Store) (i : ℕ) (a : Act) (e : Effect) → Holds' s → OpenFor s i a e → Finds s i e
finds s i a (Opens mode) g h = tt
finds s i a (Takes wants) g h = tt
finds s i a (Notes n) g h = tt
finds s i a (Writes place new) g h = change_known s g place.0 place.1 new h.2
finds s i a Pays g h = tt
finds s i a (Ghosts p n) g h = tt
finds s i a Undoes g h = tt
finds s i a Loses g h = tt
finds s i a Ends g h = tt
finds s i a Commits g h = tt
finds s i a (Defines o) g h = h.4
finds s i a (Cleans p) g h = h
finds s i a Prunes g h = tt
