-- No clause of `run` rests on this module: it serves contracts between crates.
--
-- What a call of a turn tells.
use Rattle.std.specs.Prelude.{◌≡◌, ◌≢◌, ℕ, ◌+◌, ◌*◌, ◌^◌, ◌<◌, ◌≤◌, List, [], ◌∷◌, ◌++◌, length, All, Some, None}
use Rattle.turn_latch.specs.declared.view.View.{View}
use Rattle.turn_latch.specs.declared.view.Exchange.{Exchange}
use Rattle.turn_latch.specs.Histories.{of, AddsOne}
use Rattle.turn_latch.specs.Exchanges.{exchange, maker, Saw, Others, Run}
use Rattle.turn_latch.specs.Latched.{Fits, IsBusy}
use Rattle.turn_latch.specs.Views.{tried, after_turn}

module _ {T E Q : Type 0} (history : T → List E) (by : E → ℕ) (part : T → ℕ → Q) where
  -- One turn of a seat: it found a value that fits what the seat knew, whose history begins with what the seat had seen and has no entry of its number besides. The turn did its work on the value, and added at most one entry, which names the seat's number. Then the seat knows what the turn left.
  -- The seat made two exchanges. One found an even word, twice the length of that history, where the exchanges before it had led to that value with nobody's turn, and took it; the other put back what the turn left. Between the two there are only others' exchanges, which by `Run` found the turn held
  pub record Turned (does : T → T → Type 0) (v v' : View T) : Type 0 where
    pub found : T
    pub left : T
    pub before : List (Exchange T)
    pub until : List (Exchange T)
    pub fits : Fits history by part found v.number v.seen v.knew
    pub done : does found left
    pub adds : AddsOne by v.number (history found) (history left)
    pub short : length (history left) ≤ 2 ^ 62
    pub first : Others v.number v.log before
    pub free : Run history v.origin before found None
    pub held : Others v.number (before ++ exchange v.number (2 * length (history found)) (Some found) ∷ []) until
    pub ends : Run history v.origin (until ++ exchange v.number (2 * length (history found) + 1) (Some left) ∷ []) left None
    pub knows : v' ≡ after_turn v (until ++ exchange v.number (2 * length (history found) + 1) (Some left) ∷ []) left

  -- A seat was told that another holds the turn, by the word n. It made one exchange, which found that word, and all exchanges before it had led to a value of which another number has the turn: the word is twice the length of that value's history, and one more. The seat knows nothing new besides
  pub record FoundHeld (v : View T) (n : ℕ) (v' : View T) : Type 0 where
    pub value : T
    pub taker : ℕ
    pub before : List (Exchange T)
    pub busy : IsBusy history by part v n
    pub word : n ≡ 2 * length (history value) + 1
    pub other : taker ≢ v.number
    pub first : Others v.number v.log before
    pub held : Run history v.origin before value (Some taker)
    pub knows : v' ≡ tried v (before ++ exchange v.number n None ∷ [])

module _ {T E : Type 0} (history : T → List E) where
  -- One list of all exchanges leads from the value that was put in to x, with nobody's turn. Each seat knew a beginning of it, which has all of its own, and none is by a number that the first seat did not make
  abbrev pub OneList : T → View T → List (View T) → Type 0
  OneList x first seats = (log : List (Exchange T)) × Run history first.origin log x None × All (λ v. Saw log v.number v.log) (first ∷ seats) × ((k : ℕ) → first.made < k → of maker k log ≡ [])
