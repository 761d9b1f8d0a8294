-- No clause of `run` rests on this module: it serves contracts between crates.
--
-- What an area stands for, whatever its bytes are.
use Rattle.std.specs.Prelude.{◌≡◌, ℕ, zero, suc, ◌+◌, ◌==◌, ◌&&◌, not, nat_lt, Bool, if◌then◌else◌, List, [], ◌∷◌, ◌++◌, length, drop, get_or, Option, Some, None, Result, Ok, Err}
use Rattle.byteorder.specs.Endian.{big_number}
use Rattle.disk_io.specs.Disk.{part}
use Rattle.log_records.specs.declared.record.Scanned.{Scanned}
use Rattle.log_records.specs.declared.fault.ScanFault.{ScanFault}
use Rattle.log_records.specs.declared.fault.ScanFault.TheVariants as faults
use Rattle.log_records.specs.Reading.{record_at}

-- a rule and the place where it fails
pub record Fault : Type 0 where
  pub rule : ℕ
  pub place : ℕ

abbrev pub Fails : {A : Type 0} → ScanFault → Result A Fault → Type 0
Fails faults.NoMemory read = Unit {0}
Fails (faults.Bad rule place) read = read ≡ Err (record { rule = rule; place = place })

-- what a call answered, seen by view, is what reading gives, unless memory ran out
abbrev pub Answers : {X Y : Type 0} → (X → Y) → Result X ScanFault → Result Y Fault → Type 0
Answers view (Ok x) read = read ≡ Ok (view x)
Answers view (Err e) read = Fails e read

-- these and then those that are read
abbrev pub with_before : {A : Type 0} → List A → Result (List A) Fault → Result (List A) Fault
with_before xs (Ok ys) = Ok (xs ++ ys)
with_before xs (Err e) = Err e

-- the record that begins the bytes, whose first byte has this place, and the bytes after it; else rule 7 fails there
abbrev pub or_seven : ℕ → Option (Scanned × List ℕ) → Result (Scanned × List ℕ) Fault
or_seven place (Some read) = Ok read
or_seven place None = Err (record { rule = 7; place = place })

abbrev pub without_rest : Result (Scanned × List ℕ) Fault → Result Scanned Fault
without_rest (Ok read) = Ok read.0
without_rest (Err e) = Err e

abbrev pub with_first : (Scanned × List ℕ → Result (List Scanned) Fault) → Result (Scanned × List ℕ) Fault → Result (List Scanned) Fault
with_first others (Ok read) = with_before (read.0 ∷ []) (others read)
with_first others (Err e) = Err e

-- the records of one block, of at most so many bytes
unfoldable pub records : ℕ → ℕ → List ℕ → Result (List Scanned) Fault
records zero place bytes = Ok []
records (suc fuel) place bytes =
    if length bytes == 0 then Ok []
    else with_first (λ read. records fuel read.0.end read.1) (or_seven place (record_at place bytes))

-- the size that a block states, with its gate and its length
abbrev pub frame_size : List ℕ → ℕ
frame_size bytes = 5 + big_number 4 (drop 1 bytes)

-- the block and the gate after it lie in these bytes
abbrev pub holds_block : List ℕ → Bool
holds_block bytes = not (nat_lt (length bytes) 5) && not (nat_lt (length bytes) (frame_size bytes + 1))

-- a block found in an area, by where its records begin and how many bytes they have
abbrev pub framed : List ℕ → ℕ × ℕ → ℕ × List ℕ
framed area p = (p.0, part p.0 p.1 area)

-- the open blocks up to the first gate that is not open, each with the place and the bytes of its records; rule 6 fails
-- where one does not lie in the area
unfoldable pub frames : ℕ → ℕ → List ℕ → Result (List (ℕ × List ℕ)) Fault
frames zero place bytes = Ok []
frames (suc fuel) place bytes =
    if get_or bytes 0 0 == 165 then
    (if holds_block bytes
    then with_before ((place + 5, part 5 (big_number 4 (drop 1 bytes)) bytes) ∷ []) (frames fuel (place + frame_size bytes) (drop (frame_size bytes) bytes))
    else Err (record { rule = 6; place = place }))
    else Ok []

abbrev pub and_then : Result (List Scanned) Fault → Result (List Scanned) Fault → Result (List Scanned) Fault
and_then (Ok xs) r = with_before xs r
and_then (Err e) r = Err e

unfoldable pub all_records : List (ℕ × List ℕ) → Result (List Scanned) Fault
all_records [] = Ok []
all_records (b ∷ bs) = and_then (records (length b.1) b.0 b.1) (all_records bs)

abbrev pub of_frames : Result (List (ℕ × List ℕ)) Fault → Result (List Scanned) Fault
of_frames (Ok bs) = all_records bs
of_frames (Err e) = Err e

-- all records of an area, or its first fault: each failing rule 6 comes before each failing rule 7
unfoldable pub scanned : List ℕ → Result (List Scanned) Fault
scanned area = of_frames (frames (length area) 0 area)
