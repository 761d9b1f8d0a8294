-- No clause of `run` rests on this module: it serves contracts between crates.
--
-- What a session's transaction owes.
use Rattle.std.specs.Prelude.{◌≡◌, ℕ, ℤ, List, [], ◌∷◌, Some, None}
use Rattle.std.specs.FinMap.{get}
use Rattle.iv_types.specs.declared.lock.GroupDelta.{GroupDelta}
use Rattle.txn_machine.specs.Deltas.{place_of}
use Rattle.txn_machine.specs.KeptLaws.{IsDelta}
use Rattle.txn_machine.specs.May.{IsOpen}
use Rattle.txn_machine.specs.Store.{Store, now, schema_of}
use Rattle.txn_book.specs.Books.{Books}
use Rattle.txn_book.specs.Opens.{open_at}
use Rattle.txn_book.specs.Txns.{txn_of}
use Rattle.txn_book.specs.declared.open_table.Open.{Open}
use Rattle.ghost_rows.specs.Kept.{width, IsAllowedIn}
use Rattle.ghost_rows.specs.declared.view_rows.PayRefusal.{PayRefusal}
use Rattle.ghost_rows.specs.declared.view_rows.PayRefusal.TheVariants.{Absent, Escrow}
use Rattle.data_store.specs.Contents.{contents_of, pays_on}
use Rattle.data_changes.specs.Paying.{AreCommittedAt, IsRefusedWith}
use Rattle.core_state.specs.Rooms.{still_owed}

-- it owes nothing but what is coming back
abbrev pub OwesNone : Books → ℕ → Type 0
OwesNone b session = (t : Open) → open_at b.opens session ≡ Some t → still_owed (txn_of t) ≡ []

-- it owes a delta of the schema's views, before others, and none is coming back
pub record OwesFirst (s : Store) (session : ℕ) : Type 0 where
  pub is_open : IsOpen s session
  pub first : GroupDelta
  pub others : List GroupDelta
  pub owed_is : (now s session).owed ≡ first ∷ others
  pub none_back : (now s session).back ≡ 0
  pub delta : IsDelta (schema_of s) first

-- the numbers that are committed in the row of that delta allow it
abbrev pub Allows : (s : Store) (session : ℕ) → OwesFirst s session → Type 0
Allows s session o = (committed : ℕ → ℤ) → AreCommittedAt (contents_of s) o.first committed
    → IsAllowedIn committed (λ j. pays_on (place_of o.first) ((contents_of s).kept j)) session o.first (width o.first)

-- why the delta is not paid: its row is absent, or a column refuses it
abbrev pub IsUnpaid : (s : Store) (session : ℕ) → OwesFirst s session → PayRefusal → Type 0
IsUnpaid s session o Absent = get s.view (place_of o.first) ≡ None
IsUnpaid s session o (Escrow column low high) =
    (get s.view (place_of o.first) ≡ None → ⊥)
    × ((committed : ℕ → ℤ) → AreCommittedAt (contents_of s) o.first committed → IsRefusedWith (contents_of s) session o.first committed (Escrow column low high))
