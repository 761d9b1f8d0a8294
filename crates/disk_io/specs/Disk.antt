-- No clause of `run` rests on this module: it serves contracts between crates.
--
-- What the calls of a disk do to its bytes, and what a crash may do between two syncs.
use Rattle.std.specs.Prelude.{◌<◌, ◌≡◌, ◌⊎◌, ℕ, ◌+◌, ◌≤◌, List, ◌++◌, length, take, drop, get_or}
pub use Rattle.iv_types.specs.Faults.{CountsFault}

-- n bytes from a place on
abbrev pub part : ℕ → ℕ → List ℕ → List ℕ
part at n bytes = take n (drop at bytes)

-- old with these bytes at a place
abbrev pub splice : ℕ → List ℕ → List ℕ → List ℕ
splice at bytes old = take at old ++ (bytes ++ drop (at + length bytes) old)

-- each is a byte
abbrev pub AreBytes : List ℕ → Type 0
AreBytes bytes = (i : ℕ) → get_or bytes i 0 < 256

-- after a write of n bytes that a crash cuts short: any bytes in the range, the same elsewhere
pub record Torn (at n : ℕ) (old new : List ℕ) : Type 0 where
  pub size : length new ≡ length old
  pub before : (i : ℕ) → i < at → get_or new i 0 ≡ get_or old i 0
  pub after : (i : ℕ) → at + n ≤ i → get_or new i 0 ≡ get_or old i 0
  pub bytes : AreBytes new

-- each new outcome of a crash is an old outcome after a step
abbrev pub Follows : (List ℕ → List ℕ → Type 0) → (List ℕ → Type 0) → (List ℕ → Type 0) → Type 0
Follows step old new = (c : List ℕ) → new c → (d : List ℕ) × old d × step d c

-- a crash leaves this and nothing else
abbrev pub Only : List ℕ → (List ℕ → Type 0) → Type 0
Only bytes outcomes = (c : List ℕ) → outcomes c → c ≡ bytes

-- Time goes on: a crash since t might have left what it might have left before, or what it may leave now.
pub record Elapses (before now : ℕ) (past since : ℕ → List ℕ → Type 0) (may_leave : List ℕ → Type 0) : Type 0 where
  pub later : before ≤ now
  pub nothing_else : (t : ℕ) (c : List ℕ) → t ≤ before → since t c → past t c ⊎ may_leave c
  pub keeps : (t : ℕ) (c : List ℕ) → t ≤ before → past t c → since t c

-- A crash at any moment since old leaves an image that has P.
pub record LeavesOnly {D : Type 0} (moment : D → ℕ) (left_since : D → ℕ → List ℕ → Type 0) (old new : D) (P : List ℕ → Type 0) : Type 0 where
  pub later : moment old ≤ moment new
  pub each : (c : List ℕ) → left_since new (moment old) c → P c
  -- for a run that began earlier
  pub before : (t : ℕ) (c : List ℕ) → t ≤ moment old → left_since new t c → left_since old t c ⊎ P c
