-- No clause of `run` rests on this module: it serves contracts between crates.
--
-- The exchanges that seats make on the latch's word, in their order, and what each does to the turn.
use Rattle.std.specs.Prelude.{◌≡◌, ◌≢◌, ◌⊎◌, ℕ, ◌+◌, ◌*◌, List, [], ◌∷◌, ◌++◌, length, Option, Some, None}
use Rattle.turn_latch.specs.declared.view.Exchange.{Exchange}
use Rattle.turn_latch.specs.Histories.{Begins, of}

module _ {T : Type 0} where
  -- the seat n found the word w, and took or put back this value
  abbrev pub exchange : ℕ → ℕ → Option T → Exchange T
  exchange n w x = record { number = n; found = w; value = x }

  abbrev pub maker : Exchange T → ℕ
  maker e = e.number

  -- what the seat n knows of all exchanges: how they began, and in that each of its own
  abbrev pub Saw : List (Exchange T) → ℕ → List (Exchange T) → Type 0
  Saw all n log = Begins all log × (of maker n all ≡ of maker n log)

  -- more exchanges, none of them by the seat n
  abbrev pub Others : ℕ → List (Exchange T) → List (Exchange T) → Type 0
  Others n log log' = (more : List (Exchange T)) × (log' ≡ log ++ more) × (of maker n more ≡ [])

module _ {T E : Type 0} (history : T → List E) where
  -- One exchange on the word of a latch with the value x, of which this number has the turn; then the value is y, and that number has the turn.
  -- Where nobody has the turn the word found is even, and the maker has the turn and takes the value. Where another has it the word is odd, and nothing changes. Who has the turn puts a value back, and ends the turn
  abbrev pub Exchanged : T → Option ℕ → Exchange T → T → Option ℕ → Type 0
  Exchanged x None e y u = (e.found ≡ 2 * length (history x)) × (e.value ≡ Some x) × (y ≡ x) × (u ≡ Some e.number)
  Exchanged x (Some n) e y u =
      (e.found ≡ 2 * length (history x) + 1)
      × (((n ≢ e.number) × (e.value ≡ None) × (y ≡ x) × (u ≡ Some n)) ⊎ ((n ≡ e.number) × (e.value ≡ Some y) × (u ≡ None)))

  -- the exchanges lead from one value and turn to another
  abbrev pub Leads : T → Option ℕ → List (Exchange T) → T → Option ℕ → Type 0
  Leads x t [] y u = (x ≡ y) × (t ≡ u)
  Leads x t (e ∷ es) y u = (z : T) × (s : Option ℕ) × Exchanged x t e z s × Leads z s es y u

  -- the exchanges on a latch since this value was put in lead to the value x, of which this number has the turn
  abbrev pub Run : Option T → List (Exchange T) → T → Option ℕ → Type 0
  Run origin log x u = (o : T) × (origin ≡ Some o) × Leads o None log x u
