-- No clause of `run` rests on this module: it serves contracts between crates.
--
-- The texts of definitions, and what they make.
use Rattle.std.specs.Prelude.{◌≡◌, ◌<◌, ℕ, Bool, true, false, List, [], ◌∷◌, ◌++◌, length, get_or, drop, Option, Some, None, Ok}
use Rattle.std.specs.Str.{bytes_eq}
use Rattle.byteorder.specs.Endian.{big_bytes}
use Rattle.iv_types.specs.declared.catalog.Definition.{Definition}
use Rattle.iv_types.specs.declared.statement.Statement.{Statement}
use Rattle.iv_types.specs.Syntax.{StatementTree}
use Rattle.iv_types.specs.Trees.{statement_tree}
use Rattle.iv_types.specs.Grammar.{Spells}
use Rattle.iv_meaning.specs.Schema.{Schema, Object}
use Rattle.iv_meaning.specs.Objects.{object_of}
use Rattle.iv_meaning.specs.Binding.{bind}
use Rattle.iv_meaning.specs.Statement.{BoundTree, create}
use Rattle.txn_log.specs.Appended.{Creates}
use Rattle.txn_log.specs.Stored.{AllCreate}
use Rattle.txn_log.specs.Damaged.{Found, FirstBad, key_in, in_texts, MakesNext}
use Rattle.image_finding.specs.declared.fault.BadImage.{BadImage}
use Rattle.image_entries.specs.Parts.{no_found}
use Rattle.image_catalog.specs.declared.texts.Text.{Text}

-- ---- texts among the parts

-- a part is the first of its definition
abbrev pub is_first : Found → Bool
is_first f = bytes_eq (drop 4 (key_in f)) (big_bytes 2 0)

-- no part of an earlier definition stands there
abbrev pub BeginsAt : ℕ → List Found → Type 0
BeginsAt at fs = at < length fs → is_first (get_or fs at no_found) ≡ true

-- the texts of the parts from there on, each with the place of its first part's page
abbrev pub texts_from : ℕ → List Found → List (ℕ × List ℕ)
texts_from at fs = (in_texts (drop at fs)).1

-- the text whose first part stands there
pub record IsFirstText (at : ℕ) (fs : List Found) (t : Text) : Type 0 where
  pub texts : texts_from at fs ≡ (t.page, t.bytes.items) ∷ texts_from t.end fs
  pub further : at < t.end
  pub begins : BeginsAt t.end fs

-- ---- what one of them makes

-- the statement that a text is
abbrev pub IsSpelled : List ℕ → Option Statement → Type 0
IsSpelled text None = (s : StatementTree) → Spells text s → ⊥
IsSpelled text (Some statement) = Spells text (statement_tree statement)

-- what a bound statement creates
abbrev pub IsCreated : BoundTree → Option Definition → Type 0
IsCreated bound None = (o : Object) → bound ≡ create o → ⊥
IsCreated bound (Some definition) = bound ≡ create (object_of definition)

-- what a statement creates beside these objects
abbrev pub IsBound : Schema → StatementTree → Option Definition → Type 0
IsBound objects statement None = (o : Object) → bind objects statement ≡ Ok (create o) → ⊥
IsBound objects statement (Some definition) = bind objects statement ≡ Ok (create (object_of definition))

-- a text makes no object beside these
abbrev pub MakesNone : Schema → List ℕ → Type 0
MakesNone objects text = (o : Object) → Creates objects text o → ⊥

-- what a text makes beside these objects
abbrev pub IsDefined : Schema → List ℕ → Option Definition → Type 0
IsDefined objects text None = MakesNone objects text
IsDefined objects text (Some definition) = Creates objects text (object_of definition)

-- a text makes one object more
pub record MakesOne (objects : Schema) (text : List ℕ) (after : Schema) : Type 0 where
  pub object : Object
  pub creates : Creates objects text object
  pub after_is : after ≡ objects ++ object ∷ []

-- it makes one more, or none
abbrev pub MakesIf : Schema → List ℕ → Schema → Bool → Type 0
MakesIf objects text after true = MakesOne objects text after
MakesIf objects text after false = MakesNone objects text

-- texts made these objects
pub record AreMade (objects : Schema) : Type 0 where
  pub texts : List (List ℕ)
  pub all_create : AllCreate [] texts objects

-- the text that stands there makes one object more, and the next begins where it ends
pub record TakesText (at end : ℕ) (fs : List Found) (objects after : Schema) : Type 0 where
  pub text : ℕ × List ℕ
  pub texts : texts_from at fs ≡ text ∷ texts_from end fs
  pub makes : MakesOne objects text.1 after
  pub further : at < end
  pub begins : BeginsAt end fs

-- it makes none, and rule 11 tells the place of its first part's page
pub record RefusesText (at : ℕ) (fs : List Found) (objects : Schema) (bad : BadImage) : Type 0 where
  pub text : ℕ × List ℕ
  pub later : List (ℕ × List ℕ)
  pub texts : texts_from at fs ≡ text ∷ later
  pub makes : MakesNone objects text.1
  pub rule : bad.rule ≡ 11
  pub place : bad.place ≡ text.0

-- ---- all of them

abbrev pub TextFails : List (ℕ × List ℕ) → ℕ × List ℕ → Type 0
TextFails earlier t = MakesNext earlier t → ⊥

-- the page of the first part of the first text that does not make what comes next is told by rule 11
pub record TellsText (fs : List Found) (bad : BadImage) : Type 0 where
  pub text : ℕ × List ℕ
  pub first : FirstBad TextFails [] (in_texts fs).1 text
  pub rule : bad.rule ≡ 11
  pub place : bad.place ≡ text.0
