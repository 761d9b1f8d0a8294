-- No clause of `run` rests on this module: it serves contracts between crates.
--
-- What a seat knows, and what each step makes of it.
use Rattle.std.specs.Prelude.{◌≡◌, ◌+◌, true, false, List, [], ◌∷◌, ◌++◌, length, nat_lt, if◌then◌else◌, Option, Some, None}
use Rattle.atomic_table.specs.Table.{Me}
use Rattle.turn_latch.specs.declared.view.View.{View}
use Rattle.turn_latch.specs.declared.view.Retired.{Retired}
use Rattle.turn_latch.specs.declared.view.Exchange.{Exchange}

module _ {T E : Type 0} (history : T → List E) where
  -- the history that was seen with a value
  abbrev pub seen_of : Option T → List E
  seen_of None = []
  seen_of (Some x) = history x

  -- the longer one of two seen histories
  abbrev pub longer : Option T → Option T → Option T
  longer a b = if nat_lt (length (seen_of a)) (length (seen_of b)) then b else a

  -- a seat that has met another
  abbrev pub has_met : View T → View T → View T
  has_met v w = record v { seen = longer v.seen w.seen }

module _ {T : Type 0} where
  -- the first seat of a new latch
  abbrev pub first_view : T → View T
  first_view x = record { numbered = true; number = 0; made = 0; origin = Some x; seen = None; knew = Some x; held = None; log = []; met = None; retired = [] }

  -- a view without a number, which has seen as much
  abbrev pub note_of : Option T → View T
  note_of seen = record { numbered = false; number = 0; made = 0; origin = None; seen = seen; knew = None; held = None; log = []; met = None; retired = [] }

  -- the first seat after a split
  abbrev pub parent : View T → View T
  parent v = record v { made = v.made + 1 }

  -- the new seat: it has the next number, has seen as much as the first, exchanges too, and knows its part of the value as it was put in
  abbrev pub child : View T → View T
  child v = record { numbered = true; number = v.made + 1; made = 0; origin = v.origin; seen = v.seen; knew = v.origin; held = None; log = v.log; met = None; retired = [] }

  -- the seat has asked for a turn in vain, after which these are the exchanges that it knows
  abbrev pub tried : View T → List (Exchange T) → View T
  tried v log = record v { log = log }

  -- the seat has taken the value
  abbrev pub holding : View T → List (Exchange T) → T → View T
  holding v log x = record v { log = log; held = Some x }

  -- the seat after a turn: it has put the value back, has seen the history that the turn left, and knows the part that it left
  abbrev pub after_turn : View T → List (Exchange T) → T → View T
  after_turn v log y = record v { log = log; seen = Some y; knew = Some y; held = None }

  -- a seat that has taken a note in
  abbrev pub meeting : View T → View T → View T
  meeting v w = record v { met = w.seen }

  abbrev pub retired_of : View T → Retired T
  retired_of w = record { number = w.number; seen = w.seen; knew = w.knew; log = w.log }

  -- the first seat has taken a seat in
  abbrev pub retiring : View T → View T → View T
  retiring v w = record v { retired = v.retired ++ retired_of w ∷ [] }

  -- the seat has a number, holds no turn, and is not in the midst of a meeting
  abbrev pub IsFree : Me (Option T) (View T) → Type 0
  IsFree m = (m.0.numbered ≡ true) × (m.0.held ≡ None) × (m.0.met ≡ None) × (m.1 ≡ [])
