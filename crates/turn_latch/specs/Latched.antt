-- No clause of `run` rests on this module: it serves contracts between crates.
--
-- The rule of the latch, and what each of its steps tells.
use Rattle.std.specs.Prelude.{◌≡◌, ◌≢◌, ℕ, ◌+◌, ◌*◌, ◌^◌, ◌%◌, ◌<◌, ◌≤◌, true, List, [], ◌∷◌, ◌++◌, length, Option, Some, None}
use mathlib.Core.Option.{some, none}
use mathlib.Core.Option as maybe
use lib.ListN.{get_elem?}
use Rattle.atomic_table.specs.Table.{State, Me, Step}
use Rattle.turn_latch.specs.declared.view.View.{View}
use Rattle.turn_latch.specs.declared.view.Retired.{Retired}
use Rattle.turn_latch.specs.Histories.{Begins, of}
use Rattle.turn_latch.specs.declared.view.Exchange.{Exchange}
use Rattle.turn_latch.specs.Exchanges.{exchange, maker, Saw, Others, Leads, Run}
use Rattle.turn_latch.specs.Views.{seen_of, longer, tried, holding, after_turn}

module _ {T : Type 0} where
  -- no two seats have one number
  abbrev pub Apart : List (View T) → Type 0
  Apart vs = (i j : ℕ) (v w : View T) → get_elem? vs i ≡ some v → get_elem? vs j ≡ some w → v.numbered ≡ true → w.numbered ≡ true → v.number ≡ w.number → i ≡ j

  -- no seat has the number of one that was taken in
  abbrev pub Gone : List (View T) → Type 0
  Gone vs = (i j k : ℕ) (v w : View T) (q : Retired T) → get_elem? vs i ≡ some v → get_elem? v.retired k ≡ some q → get_elem? vs j ≡ some w → w.numbered ≡ true → w.number ≢ q.number

  -- the seat that has the turn has this number, and holds the value
  abbrev pub Holder : Option ℕ → Option ℕ → T → List (View T) → Type 0
  Holder turn taker x vs = (j : ℕ) → turn ≡ Some j → (v : View T) × (get_elem? vs j ≡ some v) × (v.numbered ≡ true) × (v.held ≡ Some x) × (taker ≡ Some v.number)

-- where the value lies: at home, or with the seat j
module _ {T E : Type 0} (history : T → List E) (words : List ℕ) (homes : List (maybe.Option (Option T))) (x : T) where
  abbrev pub Lies : Option ℕ → Type 0
  Lies None = (words ≡ (2 * length (history x)) ∷ []) × (homes ≡ some (Some x) ∷ [])
  Lies (Some j) = (words ≡ (2 * length (history x) + 1) ∷ []) × (homes ≡ none ∷ [])

module _ {T E Q : Type 0} (history : T → List E) (by : E → ℕ) (part : T → ℕ → Q) where
  -- who has this number, these entries seen and this part knows the part of its number, and has seen all entries with its number
  pub record Fits (x : T) (number : ℕ) (seen : Option T) (knew : Option T) : Type 0 where
    pub begins : Begins (history x) (seen_of history seen)
    pub part_is : (z : T) × (knew ≡ Some z) × (part x number ≡ part z number)
    pub mine : of by number (history x) ≡ of by number (seen_of history seen)

  -- what a seat knows is true of the value x, which was origin as it was put in, where so many seats were made, these are all exchanges and this seat has the turn
  pub record Knows (x : T) (origin : T) (made : ℕ) (log : List (Exchange T)) (turn : Option ℕ) (j : ℕ) (v : View T) : Type 0 where
    pub begins : Begins (history x) (seen_of history v.seen)
    pub met : Begins (history x) (seen_of history v.met)
    pub fits : v.numbered ≡ true → Fits x v.number v.seen v.knew × (v.number ≤ made) × Saw log v.number v.log
    pub put_in : v.numbered ≡ true → v.origin ≡ Some origin
    pub first : v.numbered ≡ true → v.number ≡ 0 → v.made ≡ made
    pub holds : (y : T) → v.held ≡ Some y → (turn ≡ Some j) × (y ≡ x)
    pub retired : (k : ℕ) (q : Retired T) → get_elem? v.retired k ≡ some q → Fits x q.number q.seen q.knew × (q.number ≤ made) × Saw log q.number q.log

  -- the rule: with no turn the word is twice the history's length and the value is at home; with a turn the word is one more, and the seat that has it holds the value. All exchanges lead from the value that was put in to this one, and to this turn
  pub record Latched (s : State (Option T) (View T)) : Type 0 where
    pub value : T
    pub origin : T
    pub made : ℕ
    pub turn : Option ℕ
    pub taker : Option ℕ
    pub log : List (Exchange T)
    pub short : length (history value) ≤ 2 ^ 62
    pub lies : Lies history s.words s.homes value turn
    pub each : (j : ℕ) (v : View T) → get_elem? s.views j ≡ some v → Knows value origin made log turn j v
    pub apart : Apart s.views
    pub gone : Gone s.views
    pub holder : Holder turn taker value s.views
    pub idle : turn ≡ None → taker ≡ None
    pub leads : Leads history origin None log value taker
    pub unmade : (k : ℕ) → made < k → (part value k ≡ part origin k) × (of by k (history value) ≡ []) × (of maker k log ≡ [])

  -- what the word says to a seat with this view while another holds the turn: it is odd, the history is as long at least as what the seat has seen, and there is another seat: a first seat that split none off finds no turn held
  abbrev pub IsBusy : View T → ℕ → Type 0
  IsBusy v n = (n % 2 ≡ 1) × (2 * length (seen_of history v.seen) + 1 ≤ n) × (n ≤ 2 ^ 63 + 1) × (v.number ≡ 0 → 0 < v.made)

  -- where the word was even the value was taken, and it fits what the seat knows; where it was odd another had the turn, and nothing was taken
  abbrev pub took : Step (Option T) → Me (Option T) (View T) → ℕ → Me (Option T) (View T) → Type 0
  took st m n m' = (log : List (Exchange T)) × (x : T) × Others m.0.number m.0.log log
      × (n % 2 ≡ 0 → (m' ≡ (holding m.0 (log ++ exchange m.0.number n (Some x) ∷ []) x, (0, Some x) ∷ m.1)) × Fits x m.0.number m.0.seen m.0.knew × (n ≡ 2 * length (history x)) × (length (history x) ≤ 2 ^ 62) × Run history m.0.origin log x None)
      × (n % 2 ≢ 0 → (m' ≡ (tried m.0 (log ++ exchange m.0.number n None ∷ []), m.1)) × IsBusy m.0 n × (n ≡ 2 * length (history x) + 1) × ((k : ℕ) × (k ≢ m.0.number) × Run history m.0.origin log x (Some k)))

module _ {T E : Type 0} (history : T → List E) where
  -- the value that the seat held last is at home; the word found was that of the value that the seat had taken, and the turn is over
  abbrev pub released : Step (Option T) → Me (Option T) (View T) → ℕ → Me (Option T) (View T) → Type 0
  released st m n m' = (y : T) → m.1 ≡ (0, Some y) ∷ [] → (log : List (Exchange T)) × Others m.0.number m.0.log log × (m' ≡ (after_turn m.0 (log ++ exchange m.0.number n (Some y) ∷ []) y, []))
      × Run history m.0.origin (log ++ exchange m.0.number n (Some y) ∷ []) y None × ((x : T) → m.0.held ≡ Some x → n ≡ 2 * length (history x) + 1)

module _ {T E : Type 0} (history : T → List E) where
  -- of the two histories the longer one stays; both begin it, and it has no entry of the seat's number besides
  abbrev pub compared : (E → ℕ) → Step (Option T) → Me (Option T) (View T) → ℕ → Me (Option T) (View T) → Type 0
  compared by st m n m' =
      (m' ≡ (record (m.0) { seen = longer history m.0.seen m.0.met; met = None }, m.1)) × Begins (seen_of history (longer history m.0.seen m.0.met)) (seen_of history m.0.seen)
      × Begins (seen_of history (longer history m.0.seen m.0.met)) (seen_of history m.0.met)
      × (m.0.numbered ≡ true → of by m.0.number (seen_of history (longer history m.0.seen m.0.met)) ≡ of by m.0.number (seen_of history m.0.seen))

  -- the first seat has seen no entry of a number that was not made
  abbrev pub looked : (E → ℕ) → Step (Option T) → Me (Option T) (View T) → ℕ → Me (Option T) (View T) → Type 0
  looked by st m n m' = (m' ≡ m) × ((k : ℕ) → m.0.numbered ≡ true → m.0.number ≡ 0 → m.0.made < k → of by k (seen_of history m.0.seen) ≡ [])

module _ {T E Q : Type 0} (history : T → List E) (by : E → ℕ) (part : T → ℕ → Q) where
  -- the value agrees with what a seat knows: its history begins with what the seat has seen and has no entry of its number besides, and its part is the one that the seat's last turn left
  abbrev pub Ends : T → View T → Type 0
  Ends x v = Fits history by part x v.number v.seen v.knew

  -- of a number that was not made the value has the part with which it was put in, and no entry
  abbrev pub Rest : T → View T → Type 0
  Rest x v = (k : ℕ) → v.made < k → ((z : T) × (v.origin ≡ Some z) × (part x k ≡ part z k)) × (of by k (history x) ≡ [])
