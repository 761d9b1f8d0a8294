-- No clause of `run` rests on this module: it serves contracts between crates.
--
-- Records with the numbers that the log gave them, an image of them, and what it says as it is read.
use Rattle.std.specs.Prelude.{◌≡◌, ℕ, suc, List, [], ◌∷◌, map, length, Some, Ok}
use Rattle.iv_types.specs.Syntax.{StatementTree}
use Rattle.iv_types.specs.Grammar.{Spells}
use Rattle.iv_meaning.specs.Schema.{Schema, Object, view, ViewTree, numbered}
use Rattle.iv_meaning.specs.Binding.{bind}
use Rattle.iv_meaning.specs.Statement.{create}
use Rattle.txn_machine.specs.Records as log
use Rattle.txn_machine.specs.Records.{Record}
use Rattle.txn_log.specs.Replay.{What, Wrote, Added, Deed, Event, Kept, Ghost, Clean, Undo, Commit, Abort, Defined, Pages, Reading, recovered}
use Rattle.txn_log.specs.Meaning.{definitions}

-- a record with its number
pub record Numbered : Type 0 where
  pub number : ℕ
  pub of : Record

abbrev pub what_record : ℕ → What → Record
what_record transaction (Wrote c) = log.Write transaction c
what_record transaction (Added d) = log.Delta transaction d

abbrev pub written : Deed → Numbered
written x = record { number = x.number; of = what_record x.transaction x.what }

-- ---- images

-- Lists of records have the latest first.
pub record Image : Type 0 where
  -- the stored pages of a checkpoint, with its header's greatest commit number
  pub pages : Pages
  -- the records of the first block
  pub carried : List Numbered
  -- those after the redo place
  pub after : List Numbered

-- the one that the checkpoint at the end of an opening publishes
abbrev pub closed : Reading → Image
closed r = record { pages = recovered r; carried = []; after = [] }

-- ---- how they are read

-- the text of a CREATE statement that makes this object, beside these definitions
abbrev pub Creates : Schema → List ℕ → Object → Type 0
Creates objects text o = (statement : StatementTree) × Spells text statement × (bind objects statement ≡ Ok (create o))

-- a Ghost makes as many zeros as its view's rows have numbers, and a definition's text makes its object
abbrev pub Says : Schema → Numbered → Event → Type 0
Says objects r (Kept x) = r ≡ written x
Says objects r (Ghost n place columns) =
    (r ≡ record { number = n; of = log.Ghost place }) × (v : ViewTree) × (numbered objects place.0 ≡ Some (view v)) × (columns ≡ suc (length v.sums))
Says objects r (Clean n place) = r ≡ record { number = n; of = log.Clean place }
Says objects r (Undo n t m) = r ≡ record { number = n; of = log.Undo t m }
Says objects r (Commit n t k) = (session : ℕ) × (r ≡ record { number = n; of = log.Commit t k session })
Says objects r (Abort n t) = r ≡ record { number = n; of = log.Abort t }
Says objects r (Defined n k o) = (session : ℕ) × (text : List ℕ) × (r ≡ record { number = n; of = log.Definition k session text }) × Creates objects text o

-- each with the definitions that stand where it was appended
abbrev pub AllSay : Schema → List Numbered → List Event → Type 0
AllSay objects [] [] = Unit {0}
AllSay objects (r ∷ rs) (e ∷ es) = Says (definitions objects es) r e × AllSay objects rs es
AllSay objects _ _ = ⊥

pub record IsRead (i : Image) (r : Reading) : Type 0 where
  pub pages : r.pages ≡ i.pages
  pub carried : i.carried ≡ map written r.carried
  pub after : AllSay i.pages.db.schema i.after r.after
