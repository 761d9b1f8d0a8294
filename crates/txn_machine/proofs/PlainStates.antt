-- A state of the machine with its tables as lists, and what is read of them, owed by their changes and counted: all of it computes.
use Rattle.std.specs.Prelude.{ℕ, zero, suc, ◌+◌, ◌==◌, nat_le, negsuc, cond, Bool, true, false, not, ◌&&◌, ◌||◌, List, [], ◌∷◌, ◌++◌, map, filter, ℤ, pos, ◌+ℤ◌, Option, Some, None, is_some, if◌then◌else◌}
use Rattle.std.specs.List.{flat_map}
use Rattle.std.specs.Option.{unwrap_or, option_map_or}
use Rattle.std.specs.FinMap.{FinMap, empty, find, put as put_entry, from_sorted}
use Rattle.std.specs.FinMap.Entries.{where_key}
use Rattle.std.specs.Ordering.{nat_cmp, eq_by_cmp, is_lt, is_eq}
use Rattle.std.specs.Cmp.Lexicographic.{slice_cmp}
use Rattle.std.specs.Str.{bytes_eq}
use Rattle.iv_types.specs.declared.statement.Mode.{Mode}
use Rattle.iv_types.specs.declared.statement.Mode.TheVariants.{Serial, Snapshot}
use Rattle.iv_types.specs.declared.lock.LockMode.{LockMode}
use Rattle.iv_types.specs.declared.lock.LockMode.TheVariants.{Share, Increment}
use Rattle.iv_types.specs.declared.lock.GroupDelta.{GroupDelta}
use Rattle.iv_types.specs.declared.lock.Want.{Want}
use Rattle.iv_types.specs.declared.catalog.TableDef.{TableDef}
use Rattle.iv_types.specs.declared.catalog.IndexDef.{IndexDef}
use Rattle.iv_types.specs.declared.value.Kind.{Kind}
use Rattle.iv_types.specs.declared.value.Value.{Value}
use Rattle.iv_types.specs.declared.value.Value.TheVariants.{Number}
use Rattle.iv_types.specs.declared.value.Interval.{Interval}
use Rattle.iv_types.specs.Encoding.{key_bytes, row_cmp, kinds_of, is_huge, lies_in, fits}
use Rattle.table_laws.specs.Place.{Place, place_cmp}
use Rattle.table_laws.specs.Table.{rows_where}
use Rattle.table_laws.specs.Sums.{sum_to}
use Rattle.iv_meaning.specs.Schema.{Schema, Object, table, index, view, ViewTree, numbered, sources_of}
use Rattle.iv_meaning.specs.Database.{Row, Rows, Database, key_of}
use Rattle.iv_meaning.specs.Statement.{Kept, sets, defines}
use Rattle.iv_meaning.specs.History.{Entry}
use Rattle.iv_meaning.specs.Query.{combinations, conjunction, answer}
use Rattle.iv_meaning.specs.Values.{is_true}
use Rattle.iv_meaning.specs.View.{conditions_of, query_of, index_key, view_key, rows_by_group}
use Rattle.iv_meaning.specs.Escrow.{Account, with_increment, lo, hi, paid}
use Rattle.iv_meaning.specs.SerialExample.{shop_database}
use Rattle.txn_machine.specs.Deltas.{contribution, is_counted, views_of, exchanged, columns_of, worth, place_of, is_for, due}
use Rattle.txn_machine.specs.Keeping.{increments, Open}
use Rattle.txn_machine.specs.Stored.{ViewRows, plus, first_numbers, is_shown}
use Rattle.txn_machine.specs.Store.{opened, now, locks_of}
use Rattle.txn_machine.specs.Counts.{transaction_size, most_of_transaction, history_size, most_of_history, definition_sizes}
use Rattle.txn_machine.specs.Log.{unlimited}
use Rattle.txn_machine.specs.State.{State, opened_state}

-- ---- tables as lists

abbrev pub table_of : {X : Type 0} → List (Place × X) → FinMap place_cmp X
table_of l = from_sorted l

-- the list with this entry, or with none under the key
abbrev pub set_in : {X : Type 0} → Place → Option X → List (Place × X) → List (Place × X)
set_in k None l = where_key place_cmp (λ x. not (eq_by_cmp place_cmp k x)) l
set_in k (Some x) l = put_entry place_cmp k x l

-- a database of these definitions without rows
abbrev pub bare : ℕ → Schema → Database
bare n objects = record { number = n; schema = objects; rows = empty }

-- the state as it is played: its tables are in the order of their keys
pub record Plain : Type 0 where
  -- the commit number and the definitions of the database as it was opened, which had no rows
  pub number : ℕ
  pub objects : Schema
  -- what was committed
  pub history : List Entry
  pub rows : List (Place × Row)
  pub view : List (Place × List ℤ)
  -- all else; its tables and its history say nothing
  pub of : State

-- a state with this origin, this history and these tables
abbrev pub put_in : State → Database → List Entry → Rows → ViewRows → State
put_in s origin history rows stored = record s { store = record s.store { origin = origin; history = history; rows = rows; view = stored } }

-- the state that is meant
abbrev pub state_of : Plain → State
state_of p = put_in p.of (bare p.number p.objects) p.history (table_of p.rows) (table_of p.view)

-- a database of these definitions without rows, as it is opened
abbrev pub start_with : ℕ → Schema → Plain
start_with n objects = record { number = n; objects = objects; history = []; rows = []; view = []; of = opened_state unlimited (opened (bare n objects) empty) }

abbrev pub shop_schema : Schema
shop_schema = shop_database.schema

-- the shop as it is opened
abbrev pub start : Plain
start = start_with 2 shop_schema

-- ---- what was committed

-- the rows after kept changes, of which the first was made first
abbrev pub kept_in : List Kept → List (Place × Row) → List (Place × Row)
kept_in [] l = l
kept_in (sets c ∷ ks) l = kept_in ks (set_in c.key c.after l)
kept_in (defines o ∷ ks) l = kept_in ks l

abbrev pub kept_objects : List Kept → Schema → Schema
kept_objects [] objects = objects
kept_objects (sets c ∷ ks) objects = kept_objects ks objects
kept_objects (defines o ∷ ks) objects = kept_objects ks (objects ++ o ∷ [])

abbrev pub rows_after : List Entry → List (Place × Row) → List (Place × Row)
rows_after [] l = l
rows_after (e ∷ es) l = rows_after es (kept_in e.kept l)

abbrev pub objects_after : List Entry → Schema → Schema
objects_after [] objects = objects
objects_after (e ∷ es) objects = objects_after es (kept_objects e.kept objects)

-- the greatest commit number, from this one on
abbrev pub number_after : List Entry → ℕ → ℕ
number_after [] n = n
number_after (e ∷ es) n = number_after es e.number

-- the committed rows
abbrev pub base : Plain → List (Place × Row)
base p = rows_after p.history []

-- what is defined
abbrev pub schema : Plain → Schema
schema p = objects_after p.history p.objects

abbrev pub number_of : Plain → ℕ
number_of p = number_after p.history p.number

-- what was committed up to a number
abbrev pub history_by : Plain → ℕ → List Entry
history_by p n = filter (λ e. nat_le e.number n) p.history

-- the session's transaction
abbrev pub txn : Plain → ℕ → Open
txn p i = now p.of.store i

-- ---- what is read

-- the rows of a table
abbrev pub rows_at : List (Place × Row) → ℕ → List Row
rows_at l number = map (λ e. e.1) (rows_where (λ place row. place.0 == number) l)

-- sorted by their keys
abbrev pub listed : List (List ℕ × Row) → List (List ℕ × Row)
listed [] = []
listed (e ∷ es) = put_entry (slice_cmp nat_cmp) e.0 e.1 (listed es)

abbrev pub between : (Row → List ℕ) → Interval → List Row → List Row
between key interval rows = map (λ e. e.1) (filter (λ e. lies_in e.0 interval) (listed (map (λ row. (key row, row)) rows)))

-- the rows of a view, evaluated afresh
abbrev pub view_rows_in : Schema → List (Place × Row) → ViewTree → List Row
view_rows_in objects l v = rows_by_group v (filter (λ c. is_true (conjunction (conditions_of objects v) c)) (combinations (map (rows_at l) (sources_of v))))

abbrev pub index_rows_in : List (Place × Row) → IndexDef → Option Object → Interval → List Row
index_rows_in l i (Some (table t)) interval = between (index_key t i) interval (rows_at l t.number)
index_rows_in l i _ interval = []

abbrev pub object_rows_in : Schema → List (Place × Row) → Option Object → Interval → List Row
object_rows_in objects l (Some (table t)) interval = between (key_of t) interval (rows_at l t.number)
object_rows_in objects l (Some (index i)) interval = index_rows_in l i (numbered objects i.table) interval
object_rows_in objects l (Some (view v)) interval = between (view_key objects v) interval (view_rows_in objects l v)
object_rows_in objects l None interval = []

-- what a table, an index or a view has in an interval
abbrev pub found_in : Schema → List (Place × Row) → ℕ → Interval → List Row
found_in objects l number interval = object_rows_in objects l (numbered objects number) interval

-- the stored groups of a view that are read
abbrev pub seen : Plain → ℕ → Interval → List (Place × List ℤ)
seen p number interval = rows_where (is_shown number interval) p.view

-- the rows of stored groups, which are these, with so many numbers
abbrev pub shown_in : ℕ → List (Place × List ℤ) → List Row → List Row
shown_in width [] groups = []
shown_in width (e ∷ es) [] = []
shown_in width (e ∷ es) (g ∷ gs) = (g ++ map Number (first_numbers width e.1)) ∷ shown_in width es gs

abbrev pub fit_all : List Kind → List Value → Bool
fit_all [] [] = true
fit_all (kind ∷ kinds) (value ∷ values) = fits kind value && fit_all kinds values
fit_all _ _ = false

-- each stored row is that of its group
abbrev pub are_shown : List Kind → List (Place × List ℤ) → List Row → Bool
are_shown kinds [] [] = true
are_shown kinds (e ∷ es) (g ∷ gs) = fit_all kinds g && (bytes_eq (key_bytes kinds g) e.0.1 && are_shown kinds es gs)
are_shown kinds _ _ = false

-- ---- what is owed

-- the rows with which a row of a view's first table is combined
abbrev pub others_in : List (Place × Row) → ViewTree → List (List Row)
others_in l v = option_map_or (λ second. rows_at l second.table ∷ []) v.second []

abbrev pub contributions_in : Schema → ViewTree → List (Place × Row) → Option Row → List GroupDelta
contributions_in objects v l None = []
contributions_in objects v l (Some row) = map (contribution objects v) (filter (is_counted objects v) (map (λ rest. row ∷ rest) (combinations (others_in l v))))

-- by a row's place, from the rows before and after
abbrev pub owed_at : Schema → ViewTree → List (Place × Row) → List (Place × Row) → Place → List GroupDelta
owed_at objects v before after k = exchanged (contributions_in objects v before (find place_cmp k before)) (contributions_in objects v after (find place_cmp k after))

-- the rows of which the places are gone through
abbrev pub around : List (Place × Row) → Place → Option Row → List (Place × Row)
around l k None = l
around l k (Some row) = set_in k (Some row) l

-- to a view
abbrev pub owed_to_in : Schema → List (Place × Row) → Place → Option Row → ViewTree → List GroupDelta
owed_to_in objects l k new v = flat_map (owed_at objects v l (set_in k new l)) (map (λ e. e.0) (rows_where (λ place row. place.0 == v.first) (around l k new)))

-- by a change
abbrev pub owed_in : Schema → List (Place × Row) → Place → Option Row → List GroupDelta
owed_in objects l k new = flat_map (owed_to_in objects l k new) (views_of objects)

-- a delta is added to its row
abbrev pub add_in : GroupDelta → List (Place × List ℤ) → List (Place × List ℤ)
add_in d l = set_in (place_of d) (Some (plus (unwrap_or (find place_cmp (place_of d) l) []) (columns_of d))) l

abbrev pub adds_in : List GroupDelta → List (Place × List ℤ) → List (Place × List ℤ)
adds_in [] l = l
adds_in (d ∷ ds) l = adds_in ds (add_in d l)

-- ---- views evaluated afresh

-- what all combinations of a view add to their groups
abbrev pub all_in : Schema → List (Place × Row) → ViewTree → List GroupDelta
all_in objects l v = map (contribution objects v) (filter (is_counted objects v) (combinations (map (rows_at l) (sources_of v))))

-- a column of a group of these rows
abbrev pub fresh_in : Schema → List (Place × Row) → Place → ℕ → ℤ
fresh_in objects l place column = due place column (flat_map (all_in objects l) (views_of objects))

-- what a new object's stored rows are made of
abbrev pub made_in : Schema → List (Place × Row) → Object → List GroupDelta
made_in objects l (view v) = all_in objects l v
made_in objects l _ = []

-- no sum of it leaves the range
abbrev pub is_made : Schema → List (Place × Row) → Object → Bool
is_made objects l (view v) = is_some (answer (query_of objects v) (map (rows_at l) (sources_of v)))
is_made objects l _ = true

-- ---- tests

abbrev pub is_session : ℕ → Bool
is_session i = nat_le 1 i && nat_le i 64

-- of each number from 1 on
abbrev pub each_to : ℕ → (ℕ → Bool) → Bool
each_to zero f = true
each_to (suc n) f = f (suc n) && each_to n f

abbrev pub each_of : {X : Type 0} → (X → Bool) → List X → Bool
each_of f [] = true
each_of f (x ∷ xs) = f x && each_of f xs

-- of one of them
abbrev pub some_of : {X : Type 0} → (X → Bool) → List X → Bool
some_of f [] = false
some_of f (x ∷ xs) = f x || some_of f xs

-- of each number below
abbrev pub all_below : ℕ → (ℕ → Bool) → Bool
all_below zero f = true
all_below (suc n) f = f n && all_below n f

abbrev pub is_serial : Mode → Bool
is_serial Serial = true
is_serial Snapshot = false

abbrev pub is_nil : {X : Type 0} → List X → Bool
is_nil [] = true
is_nil (x ∷ xs) = false

abbrev pub is_zero : ℤ → Bool
is_zero (pos zero) = true
is_zero (pos (suc n)) = false
is_zero (negsuc n) = false

abbrev pub agree : LockMode → LockMode → Bool
agree Share Share = true
agree Increment Increment = true
agree _ _ = false

abbrev pub is_increment : LockMode → Bool
is_increment Increment = true
is_increment _ = false

-- the low end of what two intervals have in common
abbrev pub greater_low : List ℕ → List ℕ → List ℕ
greater_low a b = cond (is_lt (slice_cmp nat_cmp a b)) b a

-- before the high end, if there is one
abbrev pub is_below : List ℕ → Option (List ℕ) → Bool
is_below low None = true
is_below low (Some high) = is_lt (slice_cmp nat_cmp low high)

abbrev pub have_common : Interval → Interval → Bool
have_common a b = is_below (greater_low a.low b.low) a.high && is_below (greater_low a.low b.low) b.high

-- ---- tests of locks

abbrev pub clash : Want → Want → Bool
clash l w = (l.index == w.index) && (have_common l.interval w.interval && not (agree l.mode w.mode))

abbrev pub clash_any : List Want → List Want → Bool
clash_any locks wants = some_of (λ l. some_of (clash l) wants) locks

-- a lock of another session is in the way
abbrev pub in_way : (ℕ → List Want) → ℕ → List Want → ℕ → Bool
in_way locks i wants j = not (j == i) && clash_any (locks j) wants

abbrev pub is_free : Plain → ℕ → List Want → Bool
is_free p i wants = each_to 64 (λ j. not (in_way (locks_of p.of.store) i wants j))

-- ---- tests of a transaction

abbrev pub goes_on : Plain → ℕ → Bool
goes_on p i = is_session i && (is_some (p.of.store.open_of i) && not (txn p i).is_lost)

abbrev pub is_ready : Plain → ℕ → Bool
is_ready p i = goes_on p i && (is_serial (txn p i).mode && is_nil (txn p i).owed)

abbrev pub fits_txn : Plain → ℕ → ℕ → Bool
fits_txn p i need = nat_le (transaction_size (schema p) (txn p i) + need) most_of_transaction

abbrev pub fits_history : Plain → ℕ → Bool
fits_history p need = nat_le (history_size (schema p) p.history (definition_sizes p.of.definitions) p.of.store.open_of + need) most_of_history

-- ---- tests of rows

abbrev pub fits_under : TableDef → List ℕ → Option Row → Bool
fits_under t key None = true
fits_under t key (Some row) = bytes_eq key (key_of t row) && fit_all (kinds_of t) row

-- the row is there and goes, or is not there and comes, or changes
abbrev pub differ : Option Row → Option Row → Bool
differ None None = false
differ None (Some new) = true
differ (Some old) None = true
differ (Some old) (Some new) = not (is_eq (row_cmp old new))

-- ---- escrow

-- the account of a column
abbrev pub account_in : Plain → Place → ℕ → Account
account_in p place column = record { committed = fresh_in (schema p) (base p) place column; kept = λ j. increments place column (txn p j).kept }

abbrev pub inf_in : Account → ℤ
inf_in a = a.committed +ℤ sum_to 64 (λ j. lo (a.kept j))

abbrev pub sup_in : Account → ℤ
sup_in a = a.committed +ℤ sum_to 64 (λ j. hi (a.kept j))

abbrev pub allows : Plain → ℕ → GroupDelta → ℕ → Bool
allows p i d column =
    let a : Account = account_in p (place_of d) column in
    let b : Account = with_increment a i (worth column d) in
    is_huge (inf_in b) && (is_huge (sup_in b) && is_huge (paid (worth column d ∷ a.kept i)))

-- ---- stored rows that may be removed

-- a held Increment lock covers the group
abbrev pub holds_in : List Want → Place → Bool
holds_in locks place = some_of (λ l. is_increment l.mode && ((l.index == place.0) && lies_in place.1 l.interval)) locks

-- the deltas of kept changes, of which the first was made first, and what is left then
abbrev pub kept_deltas : Schema → List (Place × Row) → List Kept → List GroupDelta
kept_deltas objects l [] = []
kept_deltas objects l (sets c ∷ ks) = owed_in objects l c.key c.after ++ kept_deltas objects (set_in c.key c.after l) ks
kept_deltas objects l (defines o ∷ ks) = kept_deltas (objects ++ o ∷ []) l ks

-- of the entries above the mark
abbrev pub deltas_in : ℕ → Schema → List (Place × Row) → List Entry → List GroupDelta
deltas_in mark objects l [] = []
deltas_in mark objects l (e ∷ es) =
    let later : List GroupDelta = deltas_in mark (kept_objects e.kept objects) (kept_in e.kept l) es in
    if nat_le e.number mark then later else kept_deltas objects l e.kept ++ later

abbrev pub versions_in : Plain → List GroupDelta
versions_in p = deltas_in p.of.store.mark p.objects [] p.history

-- of a stored row
abbrev pub is_cleanable : Plain → Place → Bool
is_cleanable p place =
    is_zero (fresh_in (schema p) (base p) place 0) && (each_to 64 (λ j. is_nil (increments place 0 (txn p j).kept))
    && (each_of (λ d. not (is_for place d)) (versions_in p) && each_to 64 (λ j. not (holds_in (txn p j).locks place))))
