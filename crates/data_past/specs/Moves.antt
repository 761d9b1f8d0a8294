-- No clause of `run` rests on this module: it serves contracts between crates.
--
-- What changes make of pending rows and of versions.
use Rattle.std.specs.Prelude.{◌≡◌, ◌<◌, ◌≤◌, ◌-◌, ◌^◌, ℕ, zero, suc, List, [], ◌∷◌, ◌++◌, map, Option, Some, None, IfSome, if◌then◌else◌}
use Rattle.std.specs.List.{AllByRecursion, filter_map}
use Rattle.std.specs.Option.{option_and_then}
use Rattle.std.specs.Ordering.{eq_by_cmp}
use Rattle.std.specs.FinMap.{get}
use Rattle.iv_types.specs.declared.lock.Change.{Change}
use Rattle.iv_types.specs.declared.lock.GroupDelta.{GroupDelta}
use Rattle.iv_types.specs.declared.lock.KeptStep.{KeptStep}
use Rattle.iv_types.specs.declared.lock.KeptStep.TheVariants.{Put, Pay}
use Rattle.iv_types.specs.Definitions.{Definitions}
use Rattle.iv_types.specs.Encoding.{FitAll, kinds_of}
use Rattle.table_laws.specs.Place.{Place, place_cmp}
use Rattle.iv_meaning.specs.Database.{Row}
use Rattle.table_store.specs.Stored.{stored, table_of, IsTableAnd}
use Rattle.txn_machine.specs.Deltas.{RowChange}
use Rattle.txn_machine.specs.Keeping as machine
use Rattle.txn_machine.specs.RowChanges.{row_change}
use Rattle.version_chain.specs.Versions.{Version}
use Rattle.version_chain.specs.Law.{Push, called_all}
use Rattle.version_chain.specs.declared.deltas.Delta.{Delta}
use Rattle.version_chain.specs.declared.rows.Version as row
use Rattle.data_store.specs.Past.{Pendings}
use Rattle.data_store.specs.Machine.{changes_on, pending_of, delta_by}
use Rattle.data_store.specs.declared.store.Pending.{Pending}

-- ---- pending rows

-- one more change of a row of which these bytes are committed
abbrev pub one_more : Option (List ℕ) → Option Pending → Option Pending
one_more bytes None = Some (record { changes = 1; committed = bytes })
one_more bytes (Some p) = Some (record p { changes = suc p.changes })

abbrev pub with_fewer : Pending → ℕ → Option Pending
with_fewer p zero = None
with_fewer p (suc zero) = None
with_fewer p (suc (suc n)) = Some (record p { changes = suc n })

-- one less; with the last one the entry goes
abbrev pub one_less : Option Pending → Option Pending
one_less None = None
one_less (Some p) = with_fewer p p.changes

-- so many less
abbrev pub fewer : ℕ → Option Pending → Option Pending
fewer zero pending = pending
fewer (suc n) pending = fewer n (one_less pending)

-- the entry of one key is another one
abbrev pub ChangesAt : Place → (Option Pending → Option Pending) → Pendings → Pendings → Type 0
ChangesAt key f old new = (place : Place) → get new place ≡ (if eq_by_cmp place_cmp place key then f (get old place) else get old place)

-- there is room in the count for one more change
abbrev pub CanCount : Pendings → Place → Type 0
CanCount pending key = IfSome (get pending key) (λ p. p.changes < 2 ^ 64 - 1)

-- a change of the row is counted
abbrev pub HasChange : Pendings → Place → Type 0
HasChange pending key = (p : Pending) × (get pending key ≡ Some p) × (1 ≤ p.changes)

-- these changes are counted, of each row as many as there are
abbrev pub CanForget : Pendings → List RowChange → Type 0
CanForget pending cs = (place : Place) → (n : ℕ) × (bytes : Option (List ℕ)) × (get pending place ≡ pending_of n bytes) × (changes_on place cs ≤ n)

-- ---- kept steps

abbrev pub put_in : KeptStep → Option RowChange
put_in (Put kept txn_bytes history_bytes number) = Some (row_change kept.change)
put_in (Pay delta before number) = None

-- the changes of kept steps, in their order
abbrev pub puts_in : List KeptStep → List RowChange
puts_in ks = filter_map put_in ks

abbrev pub delta_in : KeptStep → Option GroupDelta
delta_in (Put kept txn_bytes history_bytes number) = None
delta_in (Pay delta before number) = Some delta

-- the deltas that were paid, in their order
abbrev pub deltas_in : List KeptStep → List GroupDelta
deltas_in ks = filter_map delta_in ks

-- of the machine's, of which the latest stands first
abbrev pub pays_of : List machine.KeptStep → List GroupDelta
pays_of [] = []
pays_of (machine.Put c ds ∷ ks) = pays_of ks
pays_of (machine.Pay d ∷ ks) = pays_of ks ++ d ∷ []

-- ---- versions

-- the row before a change fits its table
abbrev pub HasFitting : Definitions → Change → Type 0
HasFitting definitions change = IsTableAnd definitions change.table (λ t. IfSome change.before (FitAll (kinds_of t)))

abbrev pub IsFitting : Definitions → KeptStep → Type 0
IsFitting definitions (Put kept txn_bytes history_bytes number) = HasFitting definitions kept.change
IsFitting definitions (Pay delta before number) = Unit {0}

abbrev pub AreFitting : Definitions → List KeptStep → Type 0
AreFitting definitions ks = AllByRecursion (IsFitting definitions) ks

-- the bytes of a row of a table, if there is one
abbrev pub bytes_in : Definitions → ℕ → Option Row → Option (List ℕ)
bytes_in definitions number before = option_and_then (λ t. stored t before) (table_of definitions number)

abbrev pub version_of : Definitions → Change → row.Version
version_of definitions change = record { index = change.table; key = change.key; before = bytes_in definitions change.table change.before }

abbrev pub version_in : Definitions → KeptStep → Option row.Version
version_in definitions (Put kept txn_bytes history_bytes number) = Some (version_of definitions kept.change)
version_in definitions (Pay delta before number) = None

-- those of the changes of kept steps, in their order
abbrev pub versions_in : Definitions → List KeptStep → List row.Version
versions_in definitions ks = filter_map (version_in definitions) ks

-- with the number of a commit
abbrev pub version_at : ℕ → row.Version → Version (Option (List ℕ))
version_at number v = (((v.index, v.key), number), v.before)

abbrev pub delta_at : ℕ → GroupDelta → Version Delta
delta_at number d = delta_by number d

-- what is left when some were pushed one after another
abbrev pub pushed_all : {A V : Type 0} → (A → Version V) → List A → ℕ → List (Version V) → List (Version V)
pushed_all f xs mark left = (called_all (left, mark) (map (λ x. Push (f x)) xs)).0

-- ---- with the machine's kept steps

-- the kept steps are those of the machine, the latest first in both
abbrev pub AreSteps : List KeptStep → List machine.KeptStep → Type 0
AreSteps [] [] = Unit {0}
AreSteps (Put kept txn_bytes history_bytes number ∷ bs) (machine.Put c owed ∷ ks) = (row_change kept.change ≡ c) × AreSteps bs ks
AreSteps (Pay delta before number ∷ bs) (machine.Pay d ∷ ks) = (delta ≡ d) × AreSteps bs ks
AreSteps _ _ = ⊥
