-- No clause of `run` rests on this module: it serves contracts between crates.
--
-- An area as the log writes it.
use Rattle.std.specs.Prelude.{◌≡◌, ◌≢◌, ℕ, ◌+◌, ◌<◌, ◌^◌, List, [], ◌∷◌, ◌++◌, length, get_or}
use Rattle.std.specs.List.{flat_map, AllByRecursion}
use Rattle.byteorder.specs.Endian.{big_bytes}
use Rattle.log_records.specs.declared.record.Record.{Record}
use Rattle.log_records.specs.declared.record.Scanned.{Scanned}
use Rattle.log_records.specs.Spelling.{spelling, Fits}

-- a record with its number
pub record Entry : Type 0 where
  pub number : ℕ
  pub entry : Record

-- the bytes of the records of one block
abbrev pub group : List Entry → List ℕ
group es = flat_map (λ e. spelling e.number e.entry) es

-- a block with its gate open
unfoldable pub block : List ℕ → List ℕ
block bytes = 165 ∷ (big_bytes 4 (length bytes) ++ bytes)

-- blocks of these records, each with its gate open
abbrev pub blocks : List (List Entry) → List ℕ
blocks groups = flat_map (λ es. block (group es)) groups

-- an area begins with these blocks, and behind them is a gate that is not open
pub record Begins (groups : List (List Entry)) (area : List ℕ) : Type 0 where
  pub tail : List ℕ
  pub split : area ≡ blocks groups ++ tail
  pub more : 0 < length tail
  pub shut : get_or tail 0 0 ≢ 165

-- a record that can be written
pub record IsSmall (e : Entry) : Type 0 where
  pub numbered : e.number < 2 ^ 64
  pub fits : Fits e.entry

-- records that a block can hold
pub record FitsBlock (es : List Entry) : Type 0 where
  pub small : AllByRecursion IsSmall es
  pub short : length (group es) < 2 ^ 32

-- a record as it is scanned from this place
abbrev pub at_place : ℕ → Entry → Scanned
at_place place e = record { place = place; end = place + length (spelling e.number e.entry); number = e.number; entry = e.entry }

-- the records of one block, the first of them from this place
abbrev pub at_places : ℕ → List Entry → List Scanned
at_places place [] = []
at_places place (e ∷ es) = at_place place e ∷ at_places (place + length (spelling e.number e.entry)) es

-- the records of blocks, the first gate at this place
abbrev pub laid : ℕ → List (List Entry) → List Scanned
laid place [] = []
laid place (es ∷ groups) = at_places (place + 5) es ++ laid (place + (5 + length (group es))) groups

-- a record as it was scanned, without its place
abbrev pub unplaced : Scanned → Entry
unplaced s = record { number = s.number; entry = s.entry }

-- this record begins the bytes
pub record BeginsWith (number : ℕ) (e : Record) (bytes : List ℕ) : Type 0 where
  pub numbered : number < 2 ^ 64
  pub fits : Fits e
  pub rest : List ℕ
  pub split : bytes ≡ spelling number e ++ rest
