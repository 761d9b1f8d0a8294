-- Before each effect of a step and after the last, the bytes of data lie within the limit.
use Rattle.std.specs.Prelude.{◌≡◌, ℕ, zero, suc, List, [], ◌∷◌, ◌++◌, length, cond, Bool, true, false, Option, Some, None}
use mathlib.Core.Path.{refl, sym, ap, subst, ◌∙◌}
use mathlib.Core.Logic.{inl, inr}
use Rattle.std.proofs.Common.{arith, append_assoc, append-nil}
use Rattle.std.proofs.lemmas.List.{length-append}
use Rattle.iv_types.specs.declared.session.Sessions.{Sessions}
use Rattle.iv_types.specs.declared.statement.Mode.TheVariants.{Serial}
use Rattle.iv_types.specs.declared.lock.GroupDelta.{GroupDelta}
use Rattle.iv_types.specs.declared.lock.Want.{Want}
use Rattle.iv_types.specs.declared.refusal.EngineRefusal.TheVariants as refusal
use Rattle.iv_types.specs.Printing.{statement_text}
use Rattle.iv_meaning.specs.Database.{Database}
use Rattle.iv_meaning.specs.Escrow.{IsSession}
use Rattle.txn_machine.specs.Acts as act
use Rattle.txn_machine.specs.Acts.{Act}
use Rattle.txn_machine.specs.Answers as answer
use Rattle.txn_machine.specs.Answers.{Answer}
use Rattle.txn_machine.specs.Deltas.{RowChange, place_of, columns_of}
use Rattle.txn_machine.specs.Keeping.{KeptStep, Put, Pay}
use Rattle.txn_machine.specs.Fresh.{fresh}
use Rattle.txn_machine.specs.Ghosts.{the_views}
use Rattle.txn_machine.specs.Records.{Record, Abort}
use Rattle.txn_machine.specs.Log.{Within, Log, logs, text_of, record_of, pay_record, undo_record, data_bytes}
use Rattle.txn_machine.specs.Store.{Store, schema_of, now, changes_by, paid_first, undone, Effect, Opens, Takes, Notes, Writes, Pays, Ghosts, Undoes, Loses, Ends, Commits, Defines, Cleans, Prunes, does, run}
use Rattle.txn_machine.specs.State.{State}
use Rattle.txn_machine.specs.May.{IsOpenIn, MayAct}
use Rattle.txn_machine.specs.Steps.{CommitsAs, Says, Does, definitions_after, texts_of}
use Rattle.txn_machine.proofs.Looking.{view_laws}
use Rattle.txn_machine.proofs.Runs.{committed_after, defined}
use Rattle.txn_log.specs.Refused.{text_in}
use Rattle.txn_log.proofs.Enlarging.{takes_wants}
use Rattle.txn_log.proofs.Limiting.{IsAmple, open_now}

-- ---- texts

-- the texts after an effect of an act
abbrev pub texts_with : Act → Effect → List (List ℕ) → List (List ℕ)
texts_with a (Defines o) texts = texts ++ text_of a ∷ []
texts_with a _ texts = texts

abbrev pub text_said : Option Record → List (List ℕ)
text_said None = []
text_said (Some r) = text_in r

-- an effect's record tells them
pub texts_said : (s : Store) (i : ℕ) (a : Act) (l : Log) (e : Effect) (texts : List (List ℕ)) → texts ++ text_said (record_of s i a l e) ≡ texts_with a e texts
texts_said s i a l (Opens mode) texts = append-nil texts
texts_said s i a l (Takes wants) texts = append-nil texts
texts_said s i a l (Notes n) texts = append-nil texts
texts_said s i a l (Writes p new) texts = append-nil texts
texts_said s i a l Pays texts = go (now s i).owed
  where
    go : (ds : List GroupDelta) → texts ++ text_said (pay_record (l.logged i) ds) ≡ texts
    go [] = append-nil texts
    go (d ∷ ds) = append-nil texts
texts_said s i a l (Ghosts p n) texts = append-nil texts
texts_said s i a l Undoes texts = go (l.logged i).kept
  where
    go : (ns : List ℕ) → texts ++ text_said (undo_record (l.logged i) ns) ≡ texts
    go [] = append-nil texts
    go (n ∷ ns) = append-nil texts
texts_said s i a l Loses texts = append-nil texts
texts_said s i a l Ends texts = go (l.logged i).wrote
  where
    go : (b : Bool) → texts ++ text_said (cond b (Some (Abort (l.logged i).transaction)) None) ≡ texts
    go true = append-nil texts
    go false = append-nil texts
texts_said s i a l Commits texts = append-nil texts
texts_said s i a l (Defines o) texts = refl
texts_said s i a l (Cleans p) texts = append-nil texts
texts_said s i a l Prunes texts = append-nil texts

-- and each text is of a definition
pub texts_long : (s : Store) (i : ℕ) (a : Act) (e : Effect) (texts : List (List ℕ)) → length texts ≡ length (schema_of s) → length (texts_with a e texts) ≡ length (schema_of (does the_views s i e))
texts_long s i a (Opens mode) texts h = h
texts_long s i a (Takes wants) texts h = h
texts_long s i a (Notes n) texts h = h
texts_long s i a (Writes p new) texts h = h
texts_long s i a Pays texts h = go (now s i).owed
  where
    go : (ds : List GroupDelta) → length texts ≡ length (schema_of (paid_first s i (now s i) ds))
    go [] = h
    go (d ∷ ds) = h
texts_long s i a (Ghosts p n) texts h = h
texts_long s i a Undoes texts h = go (now s i).kept
  where
    go : (ks : List KeptStep) → length texts ≡ length (schema_of (undone s i (now s i) ks))
    go [] = h
    go (Put c ds ∷ ks) = h
    go (Pay d ∷ ks) = h
texts_long s i a Loses texts h = h
texts_long s i a Ends texts h = h
texts_long s i a Commits texts h = h ∙ sym (ap (λ (db : Database). length db.schema) (committed_after the_views fresh view_laws s i))
texts_long s i a (Defines o) texts h =
    let one = length-append texts (text_of a ∷ []) in
    let other = length-append (schema_of s) (o ∷ []) in
    let same = ap (λ (db : Database). length db.schema) (defined the_views fresh view_laws s i o) in
    omega (arith, h, one, other, same)
texts_long s i a (Cleans p) texts h = h
texts_long s i a Prunes texts h = h

-- what an effect adds
pub texts_more : (a : Act) (e : Effect) (texts : List (List ℕ)) → (more : List (List ℕ)) × (texts_with a e texts ≡ texts ++ more)
texts_more a (Defines o) texts = (text_of a ∷ [], refl)
texts_more a (Opens mode) texts = ([], sym (append-nil texts))
texts_more a (Takes wants) texts = ([], sym (append-nil texts))
texts_more a (Notes n) texts = ([], sym (append-nil texts))
texts_more a (Writes p new) texts = ([], sym (append-nil texts))
texts_more a Pays texts = ([], sym (append-nil texts))
texts_more a (Ghosts p n) texts = ([], sym (append-nil texts))
texts_more a Undoes texts = ([], sym (append-nil texts))
texts_more a Loses texts = ([], sym (append-nil texts))
texts_more a Ends texts = ([], sym (append-nil texts))
texts_more a Commits texts = ([], sym (append-nil texts))
texts_more a (Cleans p) texts = ([], sym (append-nil texts))
texts_more a Prunes texts = ([], sym (append-nil texts))

-- ---- stages

-- the bytes of data lie within the limit before each of these effects and after the last, with these texts at first
abbrev pub AreStaged : Option ℕ → ℕ → Act → State → Store → Log → List (List ℕ) → List Effect → Type 0
AreStaged limit i a after s l texts [] = Within limit (data_bytes s after.log texts) × (texts_of after ≡ texts)
AreStaged limit i a after s l texts (e ∷ es) = Within limit (data_bytes s l texts) × AreStaged limit i a after (does the_views s i e) (logs s i a e l) (texts_with a e texts) es

pub staged_more : (limit : Option ℕ) (i : ℕ) (a : Act) (after : State) (s : Store) (l : Log) (texts : List (List ℕ)) (es : List Effect) → AreStaged limit i a after s l texts es
    → (more : List (List ℕ)) × (texts_of after ≡ texts ++ more)
staged_more limit i a after s l texts [] h = ([], h.1 ∙ sym (append-nil texts))
staged_more limit i a after s l texts (e ∷ es) h =
    let rest = staged_more limit i a after (does the_views s i e) (logs s i a e l) (texts_with a e texts) es h.1 in
    let one = texts_more a e texts in
    (one.0 ++ rest.0, rest.1 ∙ (ap (λ (x : List (List ℕ)). x ++ rest.0) one.1 ∙ append_assoc texts one.0 rest.0))

-- some log with which they do
pub staged_now : (limit : Option ℕ) (i : ℕ) (a : Act) (after : State) (s : Store) (l : Log) (texts : List (List ℕ)) (es : List Effect) → AreStaged limit i a after s l texts es
    → (any : Log) × Within limit (data_bytes s any texts)
staged_now limit i a after s l texts [] h = (after.log, h.0)
staged_now limit i a after s l texts (e ∷ es) h = (l, h.0)

-- the effects of an answer: none, one, or new locks and one that defines nothing
data IsShort (s : State) (i : ℕ) (a : Act) (said : Answer) (es : List Effect) : Type 0 where
  none : es ≡ [] → definitions_after s.definitions a said ≡ s.definitions → IsShort s i a said es
  single : (e : Effect) → es ≡ e ∷ [] → s.opening.definitions ++ definitions_after s.definitions a said ≡ texts_with a e (texts_of s) → IsShort s i a said es
  double : (wants : List Want) (e : Effect) → es ≡ Takes wants ∷ e ∷ [] → definitions_after s.definitions a said ≡ s.definitions → texts_with a e (texts_of s) ≡ texts_of s
      → IsSession i → s.store.open_of i ≡ Some (now s.store i) → IsShort s i a said es

module _ (s : State) (i : ℕ) where
  still : (a : Act) (x : Sessions) → definitions_after s.definitions a (answer.Blocked x) ≡ s.definitions
  still (act.Schema statement) x = refl
  still _ x = refl

  unable : (a : Act) → definitions_after s.definitions a (answer.Refused refusal.NoMemory) ≡ s.definitions
  unable (act.Schema statement) = refl
  unable _ = refl

  lost : (a : Act) (c : _) → s.opening.definitions ++ definitions_after s.definitions a (answer.Refused (refusal.Deadlock c)) ≡ texts_of s
  lost (act.Schema statement) c = refl
  lost _ c = refl

  going : (h : IsOpenIn s.store i Serial) → s.store.open_of i ≡ Some (now s.store i)
  going h = open_now s.store i h.transaction h.is_open

  committed_it : (es : List Effect) (number : ℕ) (cs : List RowChange) → CommitsAs s.store i cs number es → IsShort s i act.Commit (answer.Committed number) es
  committed_it es number [] h = single Ends h.1 refl
  committed_it es number (c ∷ cs) h = single Commits h.1 refl

  short : (a : Act) (said : Answer) (es : List Effect) → MayAct s.store i a → Says s i a said es → IsShort s i a said es
  short a (answer.Blocked sessions) es may h = none h.2 (still a sessions)
  short a (answer.Refused (refusal.Deadlock cycle)) es may h = single Loses h.2 (lost a cycle)
  short a (answer.Refused refusal.NoMemory) es may h = none h.1 (unable a)
  short (act.Begin mode) (answer.Begun number defs) es may h = single (Opens mode) h.effects refl
  short (act.Begin mode) (answer.Refused (refusal.LogFull used reserved need)) es may h = none h.0 refl
  short (act.Begin mode) (answer.Refused (refusal.HistoryFull kept need)) es may h = none h.3 refl
  short act.Defs (answer.Defs objects) es may h = none h.1 refl
  short (act.Fetch number interval mode) (answer.Rows rows) es may h = double _ (Notes _) h.effects refl refl may.0.goes_on.of_session (going may.0.goes_on)
  short (act.Fetch number interval mode) (answer.Refused (refusal.TxnFull kept need)) es may h = none h.1 refl
  short (act.Peek number interval) (answer.Rows rows) es may h = none h.1 refl
  short (act.Put number key new) (answer.Changed before deltas) es may h = double _ (Writes (number, key) new) h.effects refl refl may.0.goes_on.of_session (going may.0.goes_on)
  short (act.Put number key new) (answer.Refused (refusal.TxnFull kept need)) es may h = none h.1 refl
  short (act.Put number key new) (answer.Refused (refusal.LogFull used reserved need)) es may h = none h.1 refl
  short (act.Put number key new) (answer.Refused (refusal.DataFull used need)) es may h = none h.1 refl
  short (act.Put number key new) (answer.Refused (refusal.HistoryFull kept need)) es may h = none h.1 refl
  short act.Pay (answer.Paid left) es may h = double _ Pays h.effects refl refl may.goes_on.of_session (going may.goes_on)
  short act.Pay answer.NeedsGhost es may h = single (Takes _) h.effects refl
  short act.Pay (answer.Refused (refusal.Escrow column low high)) es may h = single (Takes _) h.effects refl
  short act.Ghost answer.Ghosted es may h = elim h.effects [
    | inl m ↦ single (Ghosts (place_of h.first) (length (columns_of h.first))) m.1 refl
    | inr m ↦ none m.1 refl
  ]
  short act.UndoOne (answer.Undone left) es may h = single Undoes h.effects refl
  short act.End answer.Ended es may h = single Ends h refl
  short act.Commit (answer.Committed number) es may h = committed_it es number (changes_by s.store i) h
  short act.Commit (answer.Refused refusal.DiskFault) es may h = none h.0 refl
  short (act.Schema statement) (answer.Committed number) es may h = single (Defines h.object) h.effects (sym (append_assoc s.opening.definitions s.definitions (statement_text statement ∷ [])))
  short (act.Schema statement) (answer.Denied why) es may h = none h.1 refl
  short (act.Schema statement) (answer.Refused (refusal.SchemaBusy busy)) es may h = none h.1 refl
  short (act.Schema statement) (answer.Refused (refusal.LogFull used reserved need)) es may h = none h.1 refl
  short (act.Schema statement) (answer.Refused (refusal.DataFull used need)) es may h = none h.1 refl
  short (act.Schema statement) (answer.Refused (refusal.HistoryFull kept need)) es may h = none h.1 refl
  short (act.Schema statement) (answer.Refused refusal.DiskFault) es may h = none h.0 refl
  short act.Clean (answer.Cleaned zero) es may h = none h.1 refl
  short act.Clean (answer.Cleaned (suc zero)) es may h = single (Cleans h.0) h.2 refl
  short act.Clean (answer.Refused (refusal.LogFull used reserved need)) es may h = none h.0 refl
  short act.Prune answer.Pruned es may h = single Prunes h refl
  short act.Checkpoint (answer.Saved greatest) es may h = none h.0 refl
  short act.Checkpoint (answer.Refused refusal.DiskFault) es may h = none h refl
  short act.Cancel answer.Cancelled es may h = none h refl
  short _ _ es may h = absurd h

  pub are_staged : (a : Act) (said : Answer) (after : State) → MayAct s.store i a → (d : Does s i a said after) → IsAmple s → IsAmple after → AreStaged s.opening.data_limit i a after s.store s.log (texts_of s) d.effects
  are_staged a said after may d r h = go (short a said d.effects may d.says)
    where
      texts_are : texts_of after ≡ s.opening.definitions ++ definitions_after s.definitions a said
      texts_are = ap texts_of d.left

      -- with these texts and effects
      last : (es : List Effect) (texts : List (List ℕ)) → d.effects ≡ es → texts_of after ≡ texts → Within s.opening.data_limit (data_bytes (run the_views s.store i es) after.log texts)
      last es texts e same = subst (λ (x : List Effect). Within s.opening.data_limit (data_bytes (run the_views s.store i x) after.log texts)) e
          (subst (λ (x : Store). Within s.opening.data_limit (data_bytes x after.log texts)) (ap (λ (x : State). x.store) d.left)
          (subst (λ (x : List (List ℕ)). Within s.opening.data_limit (data_bytes after.store after.log x)) same
          (subst (λ (x : Option ℕ). Within x (data_bytes after.store after.log (texts_of after))) (ap (λ (x : State). x.opening.data_limit) d.left) h.fits)))

      go : IsShort s i a said d.effects → AreStaged s.opening.data_limit i a after s.store s.log (texts_of s) d.effects
      go (none e same) =
          let texts = texts_are ∙ ap (λ (x : List (List ℕ)). s.opening.definitions ++ x) same in
          subst (AreStaged s.opening.data_limit i a after s.store s.log (texts_of s)) (sym e) (last [] (texts_of s) e texts, texts)
      go (single f e same) =
          subst (AreStaged s.opening.data_limit i a after s.store s.log (texts_of s)) (sym e)
          (r.fits, (last (f ∷ []) (texts_with a f (texts_of s)) e (texts_are ∙ same), texts_are ∙ same))
      go (double wants f e same none_more is open_is) =
          let texts = texts_are ∙ (ap (λ (x : List (List ℕ)). s.opening.definitions ++ x) same ∙ sym none_more) in
          subst (AreStaged s.opening.data_limit i a after s.store s.log (texts_of s)) (sym e)
          (r.fits, ((takes_wants s.opening.data_limit (texts_of s) s.store s.log i a is r open_is wants).fits, (last (Takes wants ∷ f ∷ []) (texts_with a f (texts_of s)) e texts, texts)))
