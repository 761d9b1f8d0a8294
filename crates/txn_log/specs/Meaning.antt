-- No clause of `run` rests on this module: it serves contracts between crates.
--
-- What an image means, by its pages and its records alone.
use Rattle.std.specs.Prelude.{ℕ, ℤ, pos, ◌+ℤ◌, ◌-ℤ◌, List, [], ◌∷◌, ◌++◌, Option, Some, None, if◌then◌else◌}
use Rattle.std.specs.FinMap.{get}
use Rattle.std.specs.Ordering.{eq_by_cmp}
use Rattle.table_laws.specs.Place.{Place, place_cmp}
use Rattle.iv_meaning.specs.Schema.{Schema}
use Rattle.iv_meaning.specs.Database.{Row}
use Rattle.txn_machine.specs.Deltas.{due}
use Rattle.txn_machine.specs.Stored.{stored_number}
use Rattle.txn_machine.specs.Fresh.{made_of}
use Rattle.txn_log.specs.Replay.{What, Wrote, Added, Deed, Event, Kept, Ghost, Clean, Undo, Commit, Abort, Defined, Reading, losers_kept, deeds, find, Stored, replay, on_pages, amount_of, amounts}

-- ---- view rows

abbrev pub amount_found : Place → ℕ → Option Deed → ℤ
amount_found p column None = pos 0
amount_found p column (Some x) = amount_of p column x.what

-- the Deltas after the redo place
abbrev pub added : Place → ℕ → List Event → ℤ
added p column [] = pos 0
added p column (Kept x ∷ rs) = added p column rs +ℤ amount_of p column x.what
added p column (Ghost n g c ∷ rs) = added p column rs
added p column (Clean n g ∷ rs) = added p column rs
added p column (Undo n t m ∷ rs) = added p column rs
added p column (Commit n t k ∷ rs) = added p column rs
added p column (Abort n t ∷ rs) = added p column rs
added p column (Defined n k o ∷ rs) = added p column rs

-- the Deltas that Undo records after the redo place name
abbrev pub named : Place → ℕ → List Deed → List Event → ℤ
named p column carried [] = pos 0
named p column carried (Kept x ∷ rs) = named p column carried rs
named p column carried (Ghost n g c ∷ rs) = named p column carried rs
named p column carried (Clean n g ∷ rs) = named p column carried rs
named p column carried (Undo n t m ∷ rs) = named p column carried rs +ℤ amount_found p column (find t m (deeds carried rs))
named p column carried (Commit n t k ∷ rs) = named p column carried rs
named p column carried (Abort n t ∷ rs) = named p column carried rs
named p column carried (Defined n k o ∷ rs) = named p column carried rs

-- what a definition after the redo place makes of the base rows that stand at its record
abbrev pub made : Place → ℕ → Stored → List Event → ℤ
made p column start [] = pos 0
made p column start (Kept x ∷ rs) = made p column start rs
made p column start (Ghost n g c ∷ rs) = made p column start rs
made p column start (Clean n g ∷ rs) = made p column start rs
made p column start (Undo n t m ∷ rs) = made p column start rs
made p column start (Commit n t k ∷ rs) = made p column start rs
made p column start (Abort n t ∷ rs) = made p column start rs
made p column start (Defined n k o ∷ rs) =
    made p column start rs +ℤ due p column (made_of ((replay start rs).db.schema ++ o ∷ []) (replay start rs).db.rows o)

-- the first row of a group: its page's, and that of a view which was made after the redo place
abbrev pub first_number : Reading → Place → ℕ → ℤ
first_number i p column = stored_number i.pages.view p column +ℤ made p column (on_pages i.pages i.carried) i.after

-- the first row, plus the Deltas after the redo place, less those that Undos after it name, less what losers kept
abbrev pub view_number : Reading → Place → ℕ → ℤ
view_number i p column = ((first_number i p column +ℤ added p column i.after) -ℤ named p column i.carried i.after) -ℤ amounts p column (losers_kept i)

-- ---- base rows

abbrev pub row_after : Place → What → Option Row → Option Row
row_after q (Wrote c) row = if eq_by_cmp place_cmp q c.key then c.after else row
row_after q (Added d) row = row

-- what the last carried record about a key leaves, or the page's row where there is none
abbrev pub row_carried : Place → Option Row → List Deed → Option Row
row_carried q row [] = row
row_carried q row (x ∷ xs) = row_after q x.what (row_carried q row xs)

abbrev pub row_before : Place → What → Option Row → Option Row
row_before q (Wrote c) row = if eq_by_cmp place_cmp q c.key then c.before else row
row_before q (Added d) row = row

abbrev pub row_without : Place → Option Deed → Option Row → Option Row
row_without q None row = row
row_without q (Some x) row = row_before q x.what row

-- what the last record about a key leaves: of these records, or else this row
abbrev pub row_left : Place → Option Row → List Deed → List Event → Option Row
row_left q row carried [] = row
row_left q row carried (Kept x ∷ rs) = row_after q x.what (row_left q row carried rs)
row_left q row carried (Ghost n g c ∷ rs) = row_left q row carried rs
row_left q row carried (Clean n g ∷ rs) = row_left q row carried rs
row_left q row carried (Undo n t m ∷ rs) = row_without q (find t m (deeds carried rs)) (row_left q row carried rs)
row_left q row carried (Commit n t k ∷ rs) = row_left q row carried rs
row_left q row carried (Abort n t ∷ rs) = row_left q row carried rs
row_left q row carried (Defined n k o ∷ rs) = row_left q row carried rs

-- taken back, latest first
abbrev pub row_back : Place → List Deed → Option Row → Option Row
row_back q [] row = row
row_back q (x ∷ xs) row = row_back q xs (row_before q x.what row)

-- what the last record about a key leaves, carried ones counted, or the page's row; with what losers kept taken back
abbrev pub base_row : Reading → Place → Option Row
base_row i q = row_back q (losers_kept i) (row_left q (row_carried q (get i.pages.db.rows q) i.carried) i.carried i.after)

-- ---- number and definitions

-- the header's, or that of the last Commit or definition
abbrev pub greatest : ℕ → List Event → ℕ
greatest number [] = number
greatest number (Kept x ∷ rs) = greatest number rs
greatest number (Ghost n g c ∷ rs) = greatest number rs
greatest number (Clean n g ∷ rs) = greatest number rs
greatest number (Undo n t m ∷ rs) = greatest number rs
greatest number (Commit n t k ∷ rs) = k
greatest number (Abort n t ∷ rs) = greatest number rs
greatest number (Defined n k o ∷ rs) = k

-- the pages', and those after the redo place in order
abbrev pub definitions : Schema → List Event → Schema
definitions objects [] = objects
definitions objects (Kept x ∷ rs) = definitions objects rs
definitions objects (Ghost n g c ∷ rs) = definitions objects rs
definitions objects (Clean n g ∷ rs) = definitions objects rs
definitions objects (Undo n t m ∷ rs) = definitions objects rs
definitions objects (Commit n t k ∷ rs) = definitions objects rs
definitions objects (Abort n t ∷ rs) = definitions objects rs
definitions objects (Defined n k o ∷ rs) = definitions objects rs ++ o ∷ []
