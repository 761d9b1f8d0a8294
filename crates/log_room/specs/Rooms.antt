-- No clause of `run` rests on this module: it serves contracts between crates.
--
-- What is used and reserved of the log, as the machine counts it, and what is known of a session's transaction as an effect moves that.
use Rattle.std.specs.Prelude.{◌≡◌, ℕ, ◌+◌, ◌<◌, ◌≤◌, ◌^◌, Bool, true, false, List, [], ◌∷◌, Option, Some, None}
use Rattle.iv_types.specs.declared.lock.GroupDelta.{GroupDelta}
use Rattle.iv_types.specs.declared.lock.Want.{Want}
use Rattle.iv_types.specs.declared.statement.Mode.TheVariants.{Serial, Snapshot}
use Rattle.iv_meaning.specs.Escrow.{IsSession}
use Rattle.txn_machine.specs.Acts.{Act}
use Rattle.txn_machine.specs.Ghosts.{the_views}
use Rattle.txn_machine.specs.Keeping.{KeptStep, Note}
use Rattle.txn_machine.specs.Log.{Log, logs, reserved, ghost_bytes}
use Rattle.txn_machine.specs.Store.{Store, Effect, Opens, Takes, Notes, Loses, Ends, Prunes, does, now}
use Rattle.log_room.specs.declared.room.LogRoom.{LogRoom}

-- these are the bytes that the machine counts as used and as reserved, and they lie within an area of so many
pub record AreCounted (most used reserved_bytes : ℕ) (s : Store) (l : Log) : Type 0 where
  pub few : most < 2 ^ 32
  pub used_are : used ≡ l.used
  pub reserved_are : reserved_bytes ≡ reserved s l
  pub within : used + reserved_bytes ≤ most

-- so they are where there is a limit
abbrev pub AreCountedIn : Option ℕ → ℕ → ℕ → Store → Log → Type 0
AreCountedIn None used reserved_bytes s l = Unit {0}
AreCountedIn (Some most) used reserved_bytes s l = AreCounted most used reserved_bytes s l

abbrev pub IsRoomOf : LogRoom → Store → Log → Type 0
IsRoomOf room s l = AreCountedIn room.limit room.used room.reserved s l

-- ---- a session's transaction

pub record IsSerial (s : Store) (session : ℕ) : Type 0 where
  pub of_session : IsSession session
  pub is_open : s.open_of session ≡ Some (now s session)
  pub mode_is : (now s session).mode ≡ Serial

-- it owes this delta next, which is not coming back, and which had its Ghost or had none
pub record OwesFirst (s : Store) (l : Log) (session : ℕ) (d : GroupDelta) (ghosted : Bool) : Type 0 where
  pub serial : IsSerial s session
  pub others : List GroupDelta
  pub owed_is : (now s session).owed ≡ d ∷ others
  pub none_back : (now s session).back ≡ 0
  pub ghosted_is : (l.logged session).ghosted ≡ ghosted

-- what is still reserved for the Ghost of a delta's row, which is nothing where it had that
abbrev pub ghost_left : Bool → GroupDelta → ℕ
ghost_left true d = 0
ghost_left false d = ghost_bytes d

-- this is the latest step that it keeps, and the log has its record's number
pub record KeepsLatest (s : Store) (l : Log) (session : ℕ) (k : KeptStep) : Type 0 where
  pub serial : IsSerial s session
  pub earlier : List KeptStep
  pub kept_is : (now s session).kept ≡ k ∷ earlier
  pub number : ℕ
  pub numbers : List ℕ
  pub logged_is : (l.logged session).kept ≡ number ∷ numbers

-- it owes nothing
pub record OwesNothing (s : Store) (session : ℕ) : Type 0 where
  pub serial : IsSerial s session
  pub owed_is : (now s session).owed ≡ []

-- a snapshot has appended nothing
pub record IsBareSnapshot (s : Store) (l : Log) (session : ℕ) : Type 0 where
  pub of_session : IsSession session
  pub is_open : s.open_of session ≡ Some (now s session)
  pub mode_is : (now s session).mode ≡ Snapshot
  pub wrote_nothing : (l.logged session).wrote ≡ false

-- ---- effects that use and reserve nothing

-- the room of the log is that of the store and the log which an effect leaves
abbrev pub Stays : LogRoom → Store → Log → ℕ → Act → Effect → Type 0
Stays room s l session a e = IsRoomOf room (does the_views s session e) (logs s session a e l)

pub record SameRoomLaw : Type 0 where
  pub locks : (room : LogRoom) (s : Store) (l : Log) (session : ℕ) (a : Act) (wants : List Want) → IsSession session → s.open_of session ≡ Some (now s session) → IsRoomOf room s l → Stays room s l session a (Takes wants)
  pub notes : (room : LogRoom) (s : Store) (l : Log) (session : ℕ) (a : Act) (note : Note) → IsSession session → s.open_of session ≡ Some (now s session) → IsRoomOf room s l → Stays room s l session a (Notes note)
  pub deadlocks : (room : LogRoom) (s : Store) (l : Log) (session : ℕ) (a : Act) → IsSession session → s.open_of session ≡ Some (now s session) → IsRoomOf room s l → Stays room s l session a Loses
  pub snapshots_begin : (room : LogRoom) (s : Store) (l : Log) (session : ℕ) (a : Act) → IsSession session → s.open_of session ≡ None → IsRoomOf room s l → Stays room s l session a (Opens Snapshot)
  pub snapshots_end : (room : LogRoom) (s : Store) (l : Log) (session : ℕ) (a : Act) → IsBareSnapshot s l session → IsRoomOf room s l → Stays room s l session a Ends
  pub prunes : (room : LogRoom) (s : Store) (l : Log) (session : ℕ) (a : Act) → IsRoomOf room s l → Stays room s l session a Prunes
