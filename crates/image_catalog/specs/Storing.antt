-- No clause of `run` rests on this module: it serves contracts between crates.
--
-- Texts of definitions that are put into the map of index 0, one after another.
use Rattle.std.specs.Prelude.{◌≡◌, ℕ, suc, List, [], ◌∷◌, ◌++◌, length}
use Rattle.iv_types.specs.Maps.{Map}
use Rattle.iv_types.specs.Syntax.{StatementTree}
use Rattle.iv_types.specs.Grammar.{Spells}
use Rattle.iv_types.specs.Printing.{statement_text}
use Rattle.iv_meaning.specs.Schema.{Schema, Object}
use Rattle.txn_log.specs.Appended.{Creates}
use Rattle.txn_log.specs.Damaged.{Found}
use Rattle.definition_parts.specs.Parts.{parts_map, IsShort}
use Rattle.image_catalog.specs.Texts.{BeginsAt, texts_from}

-- the map has just the parts of these texts, and the object that comes next has this number
pub record HasBefore (number : ℕ) (m : Map) (texts : List (List ℕ)) : Type 0 where
  pub stored : m ≡ parts_map texts
  pub number_is : number ≡ suc (length texts)

-- the text that stands there came behind those before it, and the next begins where it ends
pub record StoresText (at end : ℕ) (fs : List Found) (earlier : List (List ℕ)) (after : Map) : Type 0 where
  pub text : ℕ × List ℕ
  pub texts : texts_from at fs ≡ text ∷ texts_from end fs
  pub stored : after ≡ parts_map (earlier ++ text.1 ∷ [])
  pub begins : BeginsAt end fs

-- ---- a text of any length

-- What is kept of a text: itself where two bytes tell its parts apart, else what its statement is printed as. It makes the same object.
pub record IsKept (text kept : List ℕ) : Type 0 where
  pub itself : IsShort text → kept ≡ text
  pub printed : (IsShort text → ⊥) → (statement : StatementTree) → Spells text statement → kept ≡ statement_text statement
  pub short : IsShort kept
  pub same : (objects : Schema) (o : Object) → Creates objects text o → Creates objects kept o

-- what is kept of a text came behind those before it
pub record StoresKept (text : List ℕ) (earlier : List (List ℕ)) (after : Map) : Type 0 where
  pub kept : List ℕ
  pub is_kept : IsKept text kept
  pub stored : after ≡ parts_map (earlier ++ kept ∷ [])
