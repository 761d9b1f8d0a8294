-- No clause of `run` rests on this module: it serves contracts between crates.
--
-- What an open transaction is, without the room that was made for it, and what its steps make of it.
use Rattle.std.specs.Prelude.{◌≡◌, ℕ, suc, ◌+◌, ◌≤◌, Bool, true, false, List, [], ◌∷◌, reverse, length, Option, None, Some, vec_capacity}
use Rattle.iv_types.specs.declared.statement.Mode.{Mode}
use Rattle.iv_types.specs.declared.statement.Mode.TheVariants.{Serial, Snapshot}
use Rattle.iv_types.specs.declared.lock.Change.{Change}
use Rattle.iv_types.specs.declared.lock.GroupDelta.{GroupDelta}
use Rattle.iv_types.specs.declared.lock.Kept.{Kept}
use Rattle.iv_types.specs.declared.lock.KeptStep.{KeptStep}
use Rattle.iv_types.specs.declared.lock.KeptStep.TheVariants.{Put, Pay}
use Rattle.iv_types.specs.declared.lock.Prefix.{Prefix}
use Rattle.txn_book.specs.declared.open_table.Open.{Open}
use Rattle.txn_book.specs.declared.book.TheConstants.{ENTRY_BYTES}

pub record Txn : Type 0 where
  pub mode : Mode
  pub number : ℕ
  pub id : ℕ
  -- the latest first
  pub kept : List KeptStep
  -- the next one to be paid first
  pub owed : List GroupDelta
  pub back : ℕ
  pub is_ghosted : Bool
  pub is_lost : Bool
  pub has_written : Bool
  pub txn_bytes : ℕ
  pub history_bytes : ℕ

abbrev pub txn_of : Open → Txn
txn_of o = record {
  mode = o.mode;
  number = o.number;
  id = o.id;
  kept = reverse o.kept.items;
  owed = reverse o.owed.items;
  back = o.back;
  is_ghosted = o.is_ghosted;
  is_lost = o.is_lost;
  has_written = o.has_written;
  txn_bytes = o.txn_bytes;
  history_bytes = o.history_bytes;
}

-- what a transaction of this mode counts in the history besides its changes
abbrev pub entry_size : Mode → ℕ
entry_size Serial = ENTRY_BYTES
entry_size Snapshot = 0

abbrev pub begun : Mode → ℕ → ℕ → Txn
begun mode number id = record {
  mode = mode;
  number = number;
  id = id;
  kept = [];
  owed = [];
  back = 0;
  is_ghosted = false;
  is_lost = false;
  has_written = false;
  txn_bytes = 0;
  history_bytes = entry_size mode;
}

-- ---- its steps

-- a Fetch is noted that counts so many bytes
abbrev pub noting : Txn → ℕ → Txn
noting t bytes = record t { txn_bytes = t.txn_bytes + bytes }

-- the first owed delta has had its Ghost
abbrev pub with_ghost : Txn → Txn
with_ghost t = record t { is_ghosted = true }

-- a deadlock met it
abbrev pub lost : Txn → Txn
lost t = record t { is_lost = true }

-- a change is kept that owes these deltas and counts so many bytes, for the transaction and for the history
abbrev pub with_put : Txn → Kept → ℕ → List GroupDelta → ℕ → ℕ → Txn
with_put t kept number owed more more_history = record t {
  kept = Put kept t.txn_bytes t.history_bytes number ∷ t.kept;
  owed = owed;
  back = 0;
  is_ghosted = false;
  has_written = true;
  txn_bytes = t.txn_bytes + more;
  history_bytes = t.history_bytes + more_history;
}

-- the first owed delta, before these others, is paid
abbrev pub with_pay : Txn → GroupDelta → List GroupDelta → List Prefix → ℕ → Txn
with_pay t d ds before number = record t { kept = Pay d before number ∷ t.kept; owed = ds; is_ghosted = false; has_written = true }

-- The latest kept step, behind these, is taken back. After a change it counts what it counted before it.
abbrev pub without_step : Txn → KeptStep → List KeptStep → Txn
without_step t (Put kept txn_bytes history_bytes number) ks = record t { kept = ks; owed = []; back = 0; is_ghosted = false; txn_bytes = txn_bytes; history_bytes = history_bytes }
without_step t (Pay d before number) ks = record t { kept = ks; owed = d ∷ t.owed; back = t.back + 1 }

-- what is given of it then
abbrev pub kept_in : KeptStep → Option Kept
kept_in (Put kept txn_bytes history_bytes number) = Some kept
kept_in (Pay d before number) = None

-- the changes among kept steps
abbrev pub changes_in : List KeptStep → List Change
changes_in [] = []
changes_in (Put kept txn_bytes history_bytes number ∷ ks) = kept.change ∷ changes_in ks
changes_in (Pay d before number ∷ ks) = changes_in ks

-- ---- room

-- So many deltas that come back have room, and so have all others that taking these steps back one by one makes come.
abbrev pub CanComeBack : ℕ → ℕ → List KeptStep → Type 0
CanComeBack most n [] = n ≤ most
CanComeBack most n (Put kept txn_bytes history_bytes number ∷ ks) = (n ≤ most) × CanComeBack most 0 ks
CanComeBack most n (Pay d before number ∷ ks) = CanComeBack most (suc n) ks

-- a transaction with these steps counts as many bytes in the history as before each change, or more
abbrev pub Counted : ℕ → List KeptStep → Type 0
Counted bytes [] = Unit {0}
Counted bytes (Put kept txn_bytes history_bytes number ∷ ks) = (history_bytes ≤ bytes) × Counted history_bytes ks
Counted bytes (Pay d before number ∷ ks) = Counted bytes ks

-- there is room to pay all that is owed, to take all back and to commit
pub record IsRoomy (o : Open) : Type 0 where
  pub kept : length o.kept.items + length o.owed.items ≤ vec_capacity o.kept
  pub owed : CanComeBack (vec_capacity o.owed) (length o.owed.items) (reverse o.kept.items)
  pub puts : o.puts ≡ length (changes_in (reverse o.kept.items))
  pub entry : o.puts ≤ vec_capacity o.entry
  pub empty : o.entry.items ≡ []
  pub back : o.back ≤ length o.owed.items
  pub counted : Counted o.history_bytes (reverse o.kept.items)

-- and to keep one more change that owes so many deltas
pub record HasRoomFor (deltas : ℕ) (o : Open) : Type 0 where
  pub kept : length o.kept.items + 1 + deltas ≤ vec_capacity o.kept
  pub owed : deltas ≤ vec_capacity o.owed
  pub entry : o.puts + 1 ≤ vec_capacity o.entry
