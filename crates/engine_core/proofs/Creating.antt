-- The texts of definitions make the objects that are defined, behind each step.
use Rattle.std.proofs.Common.{◌≡◌, true, false, Bool, ℕ, List, [], ◌∷◌, ◌++◌, refl, sym, ◌∙◌, ap, subst, append_assoc}
use Rattle.iv_types.specs.declared.refusal.EngineRefusal.TheVariants as refusal
use Rattle.iv_types.specs.declared.lock.GroupDelta.{GroupDelta}
use Rattle.iv_types.specs.Printing.{statement_text}
use Rattle.iv_types.specs.Syntax.{StatementTree}
use Rattle.iv_meaning.specs.Database.{Database}
use Rattle.iv_meaning.specs.Schema.{Schema, Object}
use Rattle.txn_machine.specs.Acts as act
use Rattle.txn_machine.specs.Acts.{Act}
use Rattle.txn_machine.specs.Answers as answer
use Rattle.txn_machine.specs.Answers.{Answer}
use Rattle.txn_machine.specs.Fresh.{fresh}
use Rattle.txn_machine.specs.Ghosts.{the_views}
use Rattle.txn_machine.specs.Keeping.{KeptStep, Put, Pay}
use Rattle.txn_machine.specs.Laws.{IsReached}
use Rattle.txn_machine.specs.May.{MayAct}
use Rattle.txn_machine.specs.State.{State}
use Rattle.txn_machine.specs.Steps.{Says, definitions_after}
use Rattle.txn_machine.specs.Store.{Store, Effect, Pays, Undoes, Commits, Defines, schema_of, now, paid_first, undone, does, run}
use Rattle.txn_machine.proofs.Looking.{view_laws}
use Rattle.txn_machine.proofs.Runs.{committed_after, defined}
use Rattle.txn_log.specs.Appended.{Creates}
use Rattle.txn_log.specs.Stored.{AllCreate}
use Rattle.txn_log.proofs.Numbering.{OpenFor, AllOpen, open_says}
use Rattle.txn_log.proofs.Printed.{prints_again}

-- one text more
one_more : (objects : Schema) (texts : List (List ℕ)) (between : Schema) (text : List ℕ) (o : Object) → AllCreate objects texts between → Creates between text o → AllCreate objects (texts ++ text ∷ []) (between ++ o ∷ [])
one_more objects [] between text o h k = (o, subst (λ (s : Schema). Creates s text o) h k, ap (λ (s : Schema). s ++ o ∷ []) h)
one_more objects (first ∷ texts) between text o h k = (h.0, h.1, one_more (objects ++ h.0 ∷ []) texts between text o h.2 k)

-- ---- only a definition changes what is defined

abbrev MakesNone : Effect → Type 0
MakesNone (Defines o) = ⊥
MakesNone _ = Unit {0}

schema_paid : (s : Store) (i : ℕ) (owed : List GroupDelta) → schema_of (paid_first s i (now s i) owed) ≡ schema_of s
schema_paid s i [] = refl
schema_paid s i (d ∷ ds) = refl

schema_undone : (s : Store) (i : ℕ) (ks : List KeptStep) → schema_of (undone s i (now s i) ks) ≡ schema_of s
schema_undone s i [] = refl
schema_undone s i (Put c ds ∷ ks) = refl
schema_undone s i (Pay d ∷ ks) = refl

schema_effect : (s : Store) (i : ℕ) (e : Effect) → MakesNone e → schema_of (does the_views s i e) ≡ schema_of s
schema_effect s i Pays h = schema_paid s i (now s i).owed
schema_effect s i Undoes h = schema_undone s i (now s i).kept
schema_effect s i Commits h = ap (λ (d : Database). d.schema) (committed_after the_views fresh view_laws s i)
schema_effect s i (Defines o) h = absurd h
schema_effect s i e h = refl

abbrev is_schema : Act → Bool
is_schema (act.Schema statement) = true
is_schema _ = false

not_made : (s : Store) (i : ℕ) (a : Act) (e : Effect) → is_schema a ≡ false → OpenFor s i a e → MakesNone e
not_made s i a (Defines o) plain h = let bad : true ≡ false = sym (ap is_schema h.1) ∙ plain in absurd cc
not_made s i a e plain h = tt

schema_others : (s : Store) (i : ℕ) (a : Act) (es : List Effect) → is_schema a ≡ false → AllOpen s i a es → schema_of (run the_views s i es) ≡ schema_of s
schema_others s i a [] plain h = refl
schema_others s i a (e ∷ es) plain h = schema_others (does the_views s i e) i a es plain h.1 ∙ schema_effect s i e (not_made s i a e plain h.0)

same_definitions : (texts : List (List ℕ)) (a : Act) (said : Answer) → is_schema a ≡ false → definitions_after texts a said ≡ texts
same_definitions texts (act.Schema statement) said plain = let bad : true ≡ false = plain in absurd cc
same_definitions texts a said plain = refl

-- ---- each step

module _ (s : State) (i : ℕ) (before : List (List ℕ)) (creates : AllCreate [] (before ++ s.definitions) (schema_of s.store)) where
  abbrev After : Act → Answer → List Effect → Type 0
  After a said es = AllCreate [] (before ++ definitions_after s.definitions a said) (schema_of (run the_views s.store i es))

  quiet : (es : List Effect) → es ≡ [] → AllCreate [] (before ++ s.definitions) (schema_of (run the_views s.store i es))
  quiet es none = subst (λ (fs : List Effect). AllCreate [] (before ++ s.definitions) (schema_of (run the_views s.store i fs))) (sym none) creates

  others : (a : Act) (said : Answer) (es : List Effect) → is_schema a ≡ false → AllOpen s.store i a es → After a said es
  others a said es plain h =
      subst (λ (ts : List (List ℕ)). AllCreate [] (before ++ ts) (schema_of (run the_views s.store i es))) (sym (same_definitions s.definitions a said plain))
      (subst (AllCreate [] (before ++ s.definitions)) (sym (schema_others s.store i a es plain h)) creates)

  module _ (statement : StatementTree) (may : MayAct s.store i (act.Schema statement)) where
    schema_step : (said : Answer) (es : List Effect) → Says s i (act.Schema statement) said es → After (act.Schema statement) said es
    schema_step (answer.Committed number) es h =
        subst (λ (fs : List Effect). AllCreate [] (before ++ (s.definitions ++ statement_text statement ∷ [])) (schema_of (run the_views s.store i fs))) (sym h.effects)
        (subst (λ (ts : List (List ℕ)). AllCreate [] ts (schema_of (run the_views s.store i (Defines h.object ∷ [])))) (append_assoc before s.definitions (statement_text statement ∷ []))
        (subst (AllCreate [] ((before ++ s.definitions) ++ statement_text statement ∷ [])) (sym (ap (λ (d : Database). d.schema) (defined the_views fresh view_laws s.store i h.object)))
        (one_more [] (before ++ s.definitions) (schema_of s.store) (statement_text statement) h.object creates (statement, prints_again may.3.0 statement may.3.1, h.makes.bound))))
    schema_step (answer.Blocked sessions) es h = absurd h.0
    schema_step (answer.Refused (refusal.Deadlock cycle)) es h = absurd h.0
    schema_step (answer.Refused refusal.NoMemory) es h = quiet es h.1
    schema_step (answer.Denied why) es h = quiet es h.1
    schema_step (answer.Refused (refusal.SchemaBusy busy)) es h = quiet es h.1
    schema_step (answer.Refused (refusal.LogFull used reserved need)) es h = quiet es h.1
    schema_step (answer.Refused (refusal.DataFull used need)) es h = quiet es h.1
    schema_step (answer.Refused (refusal.HistoryFull kept need)) es h = quiet es h.1
    schema_step (answer.Refused refusal.DiskFault) es h = quiet es h.0
    schema_step said es h = absurd h

  pub creates_after : (a : Act) (said : Answer) (es : List Effect) → IsReached s → MayAct s.store i a → Says s i a said es → After a said es
  creates_after (act.Schema statement) said es r may h = schema_step statement may said es h
  creates_after a said es r may h = others a said es refl (open_says s i a said es may h)
