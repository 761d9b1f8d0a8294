-- No clause of `run` rests on this module: it serves contracts between crates.
--
-- The bytes of a record.
use Rattle.std.specs.Prelude.{ℕ, ℤ, ◌<◌, ◌^◌, List, [], ◌∷◌, ◌++◌, length, Option, Some, None, IfSome}
use Rattle.std.specs.List.{flat_map, AllByRecursion}
use Rattle.std.specs.Int.{Width, w8, w128, byte_len, cast_unsigned}
use Rattle.std.specs.Int.RustNames.{FitsSigned}
use Rattle.byteorder.specs.Endian.{big_bytes}
use Rattle.log_records.specs.declared.record.Record.{Record}
use Rattle.log_records.specs.declared.record.Record.TheVariants.{Write, Delta, Ghost, Clean, Undo, Commit, Abort, Schema}

-- a length of n bytes, and that many bytes
abbrev pub string : ℕ → List ℕ → List ℕ
string n bytes = big_bytes n (length bytes) ++ bytes

-- 0, or 1 and a length of two bytes and that many bytes
abbrev pub optional : Option (List ℕ) → List ℕ
optional None = 0 ∷ []
optional (Some bytes) = 1 ∷ string 2 bytes

-- a number of this width in two's complement
abbrev pub signed : Width → ℤ → List ℕ
signed w z = big_bytes (byte_len w) (cast_unsigned w z)

-- how many numbers there are, and each of them
abbrev pub numbers : List ℤ → List ℕ
numbers zs = big_bytes 1 (length zs) ++ flat_map (signed w128) zs

abbrev pub kind_of : Record → ℕ
kind_of (Write transaction table key before after) = 1
kind_of (Delta transaction view group count sums) = 2
kind_of (Ghost view group) = 3
kind_of (Clean view group) = 4
kind_of (Undo transaction number) = 5
kind_of (Commit transaction commit session) = 6
kind_of (Abort transaction) = 7
kind_of (Schema commit session text) = 8

abbrev pub fields : Record → List ℕ
fields (Write transaction table key before after) = big_bytes 8 transaction ++ (big_bytes 4 table ++ (string 2 key ++ (optional before ++ optional after)))
fields (Delta transaction view group count sums) = big_bytes 8 transaction ++ (big_bytes 4 view ++ (string 2 group ++ (signed w8 count ++ numbers sums)))
fields (Ghost view group) = big_bytes 4 view ++ string 2 group
fields (Clean view group) = big_bytes 4 view ++ string 2 group
fields (Undo transaction number) = big_bytes 8 transaction ++ big_bytes 8 number
fields (Commit transaction commit session) = big_bytes 8 transaction ++ (big_bytes 8 commit ++ big_bytes 4 session)
fields (Abort transaction) = big_bytes 8 transaction
fields (Schema commit session text) = big_bytes 8 commit ++ (big_bytes 4 session ++ string 4 text)

-- the bytes of a record: its kind, its number and its fields
abbrev pub spelling : ℕ → Record → List ℕ
spelling number entry = kind_of entry ∷ (big_bytes 8 number ++ fields entry)

-- what the bytes of a record can hold: fields of at most 65,535 bytes, a text below 2^32 bytes and at most 255 sums
abbrev pub IsShort : Record → Type 0
IsShort (Write transaction table key before after) = (length key < 2 ^ 16) × IfSome before (λ row. length row < 2 ^ 16) × IfSome after (λ row. length row < 2 ^ 16)
IsShort (Delta transaction view group count sums) = (length group < 2 ^ 16) × (length sums < 2 ^ 8)
IsShort (Ghost view group) = length group < 2 ^ 16
IsShort (Clean view group) = length group < 2 ^ 16
IsShort (Undo transaction number) = Unit {0}
IsShort (Commit transaction commit session) = Unit {0}
IsShort (Abort transaction) = Unit {0}
IsShort (Schema commit session text) = length text < 2 ^ 32

-- the same, and each number has its size
abbrev pub Fits : Record → Type 0
Fits (Write transaction table key before after) = (transaction < 2 ^ 64) × ((table < 2 ^ 32) × ((length key < 2 ^ 16) × (IfSome before (λ row. length row < 2 ^ 16) × IfSome after (λ row. length row < 2 ^ 16))))
Fits (Delta transaction view group count sums) = (transaction < 2 ^ 64) × ((view < 2 ^ 32) × ((length group < 2 ^ 16) × (FitsSigned w8 count × ((length sums < 2 ^ 8) × AllByRecursion (FitsSigned w128) sums))))
Fits (Ghost view group) = (view < 2 ^ 32) × (length group < 2 ^ 16)
Fits (Clean view group) = (view < 2 ^ 32) × (length group < 2 ^ 16)
Fits (Undo transaction number) = (transaction < 2 ^ 64) × (number < 2 ^ 64)
Fits (Commit transaction commit session) = (transaction < 2 ^ 64) × ((commit < 2 ^ 64) × (session < 2 ^ 32))
Fits (Abort transaction) = transaction < 2 ^ 64
Fits (Schema commit session text) = (commit < 2 ^ 64) × ((session < 2 ^ 32) × (length text < 2 ^ 32))
