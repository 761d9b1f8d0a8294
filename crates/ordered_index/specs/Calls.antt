-- No clause of `run` rests on this module: it serves contracts between crates.
--
-- What calls on sorted maps ask, what they answer, and what they leave.
use Rattle.std.specs.Prelude.{ℕ, ◌≡◌, ◌+◌, ◌-◌, ◌≤◌, ◌==◌, max, if◌then◌else◌, List, [], ◌∷◌, Option, None, IsSome}
use Rattle.std.specs.FinMap.{get, insert, remove}
use Rattle.iv_types.specs.Maps.{Map, CanHold, IsWithin, entry_at, entry_after, used, with_map}
use Rattle.ordered_index.specs.declared.calls.MapCall.{MapCall}
use Rattle.ordered_index.specs.declared.calls.MapCall.TheVariants.{Reserve, Get, FirstAt, FirstAfter, Insert, Replace, Remove}
use Rattle.ordered_index.specs.declared.calls.MapAnswer.{MapAnswer}
use Rattle.ordered_index.specs.declared.calls.MapAnswer.TheVariants.{Done, Value, Entry}

-- an entry of this size can be put among what the maps hold
pub record CanPut (index : ℕ) (key value : List ℕ) (maps : ℕ → Map) (limit : Option ℕ) : Type 0 where
  pub held : CanHold index key value
  pub within : IsWithin limit (used (with_map maps index (insert (maps index) key value)))

-- the call may be asked for, of maps that hold these entries and have at least this much room
abbrev pub CanCall : MapCall → (ℕ → Map) → (ℕ → ℕ) → Option ℕ → Type 0
CanCall (Insert index key value) maps room limit = (1 ≤ room index) × (get (maps index) key ≡ None) × CanPut index key value maps limit
CanCall (Replace index key value) maps room limit = IsSome (get (maps index) key) × CanPut index key value maps limit
CanCall (Remove index key) maps room limit = IsSome (get (maps index) key)
CanCall (Reserve index more) maps room limit = Unit {0}
CanCall (Get index key) maps room limit = Unit {0}
CanCall (FirstAt index key) maps room limit = Unit {0}
CanCall (FirstAfter index key) maps room limit = Unit {0}

-- the maps after it
abbrev pub maps_after : MapCall → (ℕ → Map) → ℕ → Map
maps_after (Insert index key value) maps = with_map maps index (insert (maps index) key value)
maps_after (Replace index key value) maps = with_map maps index (insert (maps index) key value)
maps_after (Remove index key) maps = with_map maps index (remove (maps index) key)
maps_after (Reserve index more) maps = maps
maps_after (Get index key) maps = maps
maps_after (FirstAt index key) maps = maps
maps_after (FirstAfter index key) maps = maps

-- the room that there is at least after it
abbrev pub room_after : MapCall → (ℕ → ℕ) → ℕ → ℕ
room_after (Reserve index more) room i = if i == index then max (room i) more else room i
room_after (Insert index key value) room i = if i == index then room i - 1 else room i
room_after (Remove index key) room i = if i == index then room i + 1 else room i
room_after (Replace index key value) room i = room i
room_after (Get index key) room i = room i
room_after (FirstAt index key) room i = room i
room_after (FirstAfter index key) room i = room i

-- its answer
abbrev pub answer_of : MapCall → (ℕ → Map) → MapAnswer
answer_of (Get index key) maps = Value (get (maps index) key)
answer_of (FirstAt index key) maps = Entry (entry_at (maps index) key)
answer_of (FirstAfter index key) maps = Entry (entry_after (maps index) key)
answer_of (Insert index key value) maps = Done
answer_of (Replace index key value) maps = Done
answer_of (Remove index key) maps = Done
answer_of (Reserve index more) maps = Done

-- ---- lists of calls

unfoldable pub CanRun : List MapCall → (ℕ → Map) → (ℕ → ℕ) → Option ℕ → Type 0
CanRun [] maps room limit = Unit {0}
CanRun (c ∷ cs) maps room limit = CanCall c maps room limit × CanRun cs (maps_after c maps) (room_after c room) limit

unfoldable pub maps_after_all : List MapCall → (ℕ → Map) → ℕ → Map
maps_after_all [] maps = maps
maps_after_all (c ∷ cs) maps = maps_after_all cs (maps_after c maps)

unfoldable pub answers_of : List MapCall → (ℕ → Map) → List MapAnswer
answers_of [] maps = []
answers_of (c ∷ cs) maps = answer_of c maps ∷ answers_of cs (maps_after c maps)
