-- No clause of `run` rests on this module: it serves contracts between crates.
--
-- What recovery makes of the records of an image: they are replayed in order, and what losers kept is taken back. Lists of
-- records have the latest first.
use Rattle.std.specs.Prelude.{ℕ, ◌==◌, ℤ, pos, ◌+ℤ◌, Bool, true, not, ◌&&◌, List, [], ◌∷◌, ◌++◌, Option, Some, None, if◌then◌else◌}
use Rattle.iv_types.specs.declared.lock.GroupDelta.{GroupDelta}
use Rattle.table_laws.specs.Place.{Place}
use Rattle.table_laws.specs.Table.{write}
use Rattle.iv_meaning.specs.Schema.{Object}
use Rattle.iv_meaning.specs.Database.{Rows, Database}
use Rattle.txn_machine.specs.Deltas.{RowChange, negated, is_for, worth}
use Rattle.txn_machine.specs.Stored.{ViewRows, add_to, add_all, zeros}
use Rattle.txn_machine.specs.Fresh.{made_of}

-- what a transaction does that can be taken back
pub data What : Type 0 where
  -- a change of a row, with the row before and the row after
  Wrote : RowChange → What
  -- a delta that was added to the view row of its group
  Added : GroupDelta → What

-- a Write or a Delta with its number and its transaction
pub record Deed : Type 0 where
  pub number : ℕ
  pub transaction : ℕ
  pub what : What

-- what a record says as it is replayed; each has its number first
pub data Event : Type 0 where
  -- Write and Delta
  Kept : Deed → Event
  -- a row of zeros was made, with so many numbers
  Ghost : ℕ → Place → ℕ → Event
  -- and one removed
  Clean : ℕ → Place → Event
  -- a transaction took back its record of that number
  Undo : ℕ → ℕ → ℕ → Event
  -- a transaction committed with that commit number
  Commit : ℕ → ℕ → ℕ → Event
  Abort : ℕ → ℕ → Event
  -- a definition, with its commit number
  Defined : ℕ → ℕ → Object → Event

-- the tables and definitions, with a number, and the stored view rows
pub record Pages : Type 0 where
  pub db : Database
  pub view : ViewRows

-- an image as it is read
pub record Reading : Type 0 where
  -- the stored pages of a checkpoint, with pending changes in them, and its header's greatest commit number
  pub pages : Pages
  -- what open transactions kept as the pages were written
  pub carried : List Deed
  -- the records after the redo place
  pub after : List Event

-- ---- which records count

-- a record that neither ends the transaction nor names its record of that number
abbrev pub spares : Event → ℕ → ℕ → Bool
spares (Undo n t m) txn number = not ((t == txn) && (m == number))
spares (Commit n t k) txn number = not (t == txn)
spares (Abort n t) txn number = not (t == txn)
spares _ txn number = true

-- the transaction has neither Commit nor Abort, and no Undo names its record of that number
abbrev pub survives : List Event → ℕ → ℕ → Bool
survives [] txn number = true
survives (r ∷ rs) txn number = spares r txn number && survives rs txn number

abbrev pub keep_where : (ℕ → ℕ → Bool) → List Deed → List Deed
keep_where f [] = []
keep_where f (x ∷ xs) = if f x.transaction x.number then x ∷ keep_where f xs else keep_where f xs

-- the Writes and Deltas of the carried records and of those after the redo place
abbrev pub deeds : List Deed → List Event → List Deed
deeds carried [] = carried
deeds carried (Kept x ∷ rs) = x ∷ deeds carried rs
deeds carried (Ghost n p c ∷ rs) = deeds carried rs
deeds carried (Clean n p ∷ rs) = deeds carried rs
deeds carried (Undo n t m ∷ rs) = deeds carried rs
deeds carried (Commit n t k ∷ rs) = deeds carried rs
deeds carried (Abort n t ∷ rs) = deeds carried rs
deeds carried (Defined n k o ∷ rs) = deeds carried rs

-- what losers kept: Writes and Deltas of transactions with neither Commit nor Abort that no Undo names
abbrev pub losers_kept : Reading → List Deed
losers_kept i = keep_where (survives i.after) (deeds i.carried i.after)

-- the transaction's record of that number
abbrev pub find : ℕ → ℕ → List Deed → Option Deed
find t m [] = None
find t m (x ∷ xs) = if (t == x.transaction) && (m == x.number) then Some x else find t m xs

-- ---- recovery: replay in order, then reversal

-- what stands in memory as records are replayed
pub record Stored : Type 0 where
  pub db : Database
  pub view : ViewRows
  -- what transactions keep that have not ended
  pub live : List Deed

abbrev pub rows_with : What → Rows → Rows
rows_with (Wrote c) rows = write rows c.key c.after
rows_with (Added d) rows = rows

abbrev pub view_with : What → ViewRows → ViewRows
view_with (Wrote c) view = view
view_with (Added d) view = add_to view d

abbrev pub rows_without : What → Rows → Rows
rows_without (Wrote c) rows = write rows c.key c.before
rows_without (Added d) rows = rows

abbrev pub view_without : What → ViewRows → ViewRows
view_without (Wrote c) view = view
view_without (Added d) view = add_to view (negated d)

abbrev pub undo_found : Stored → Option Deed → Stored
undo_found s None = s
undo_found s (Some x) = record s { db = record s.db { rows = rows_without x.what s.db.rows }; view = view_without x.what s.view }

abbrev pub apply : Event → Stored → Stored
apply (Kept x) s = record s { db = record s.db { rows = rows_with x.what s.db.rows }; view = view_with x.what s.view; live = x ∷ s.live }
apply (Ghost n p columns) s = record s { view = write s.view p (Some (zeros columns)) }
apply (Clean n p) s = record s { view = write s.view p None }
apply (Undo n t m) s = record (undo_found s (find t m s.live)) { live = keep_where (spares (Undo n t m)) s.live }
apply (Commit n t k) s = record s { db = record s.db { number = k }; live = keep_where (spares (Commit n t k)) s.live }
apply (Abort n t) s = record s { live = keep_where (spares (Abort n t)) s.live }
apply (Defined n k o) s = record s {
  db = record s.db { number = k; schema = s.db.schema ++ o ∷ [] };
  view = add_all s.view (made_of (s.db.schema ++ o ∷ []) s.db.rows o);
}

abbrev pub replay : Stored → List Event → Stored
replay s [] = s
replay s (r ∷ rs) = apply r (replay s rs)

-- a carried Write sets its row, which the pages of a run have already; a carried Delta is in the pages
abbrev pub carried_rows : List Deed → Rows → Rows
carried_rows [] rows = rows
carried_rows (x ∷ xs) rows = rows_with x.what (carried_rows xs rows)

abbrev pub on_pages : Pages → List Deed → Stored
on_pages p carried = record { db = record p.db { rows = carried_rows carried p.db.rows }; view = p.view; live = carried }

abbrev pub replayed : Reading → Stored
replayed i = replay (on_pages i.pages i.carried) i.after

abbrev pub all_rows_back : List Deed → Rows → Rows
all_rows_back [] rows = rows
all_rows_back (x ∷ xs) rows = all_rows_back xs (rows_without x.what rows)

abbrev pub all_view_back : List Deed → ViewRows → ViewRows
all_view_back [] view = view
all_view_back (x ∷ xs) view = all_view_back xs (view_without x.what view)

-- with what is left of each transaction taken back
abbrev pub reversed : Stored → Pages
reversed s = record { db = record s.db { rows = all_rows_back s.live s.db.rows }; view = all_view_back s.live s.view }

abbrev pub recovered : Reading → Pages
recovered i = reversed (replayed i)

-- ---- image meaning, by sums over the records

abbrev pub amount_of : Place → ℕ → What → ℤ
amount_of p column (Wrote c) = pos 0
amount_of p column (Added d) = if is_for p d then worth column d else pos 0

-- the Deltas of a list
abbrev pub amounts : Place → ℕ → List Deed → ℤ
amounts p column [] = pos 0
amounts p column (x ∷ xs) = amounts p column xs +ℤ amount_of p column x.what

-- the records of one transaction
abbrev pub own : ℕ → List Deed → List Deed
own t xs = keep_where (λ u n. t == u) xs
