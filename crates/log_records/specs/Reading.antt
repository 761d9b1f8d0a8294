-- No clause of `run` rests on this module: it serves contracts between crates.
--
-- Reading a record from left to right. A reader gives a value and the bytes after it, or nothing where no such value
-- begins the bytes.
use Rattle.std.specs.Prelude.{◌≡◌, ℕ, zero, suc, ◌+◌, ◌-◌, ℤ, List, [], ◌∷◌, length, take, drop, Option, Some, None, Result, Ok, Err, nat_lt, ◌==◌, if◌then◌else◌}
use Rattle.std.specs.Int.{Width, w8, w128, byte_len, cast_signed}
use Rattle.byteorder.specs.Endian.{big_number}
use Rattle.log_records.specs.declared.fault.Unread.{Unread}
use Rattle.log_records.specs.declared.fault.Unread.TheVariants as unread
use Rattle.log_records.specs.declared.record.Record.{Record}
use Rattle.log_records.specs.declared.record.Record.TheVariants.{Write, Delta, Ghost, Clean, Undo, Commit, Abort, Schema}
use Rattle.log_records.specs.declared.record.Scanned.{Scanned}

infixl 10 ◌>>=◌
abbrev pub ◌>>=◌ : {A B : Type 0} → Option A → (A → Option B) → Option B
(Some x) >>= f = f x
None >>= f = None

-- what a function returned, seen by view, is what reading gives, unless memory ran out
abbrev pub Gives : {X Y : Type 0} → (X → Y) → Result X Unread → Option Y → Type 0
Gives view (Ok x) read = read ≡ Some (view x)
Gives view (Err unread.NoRecord) read = read ≡ None
Gives view (Err unread.NoMemory) read = Unit {0}

-- the number in the first n bytes
abbrev pub number_at : ℕ → List ℕ → Option (ℕ × List ℕ)
number_at n bytes = if nat_lt (length bytes) n then None else Some (big_number n bytes, drop n bytes)

-- the first n bytes
abbrev pub piece_at : ℕ → List ℕ → Option (List ℕ × List ℕ)
piece_at n bytes = if nat_lt (length bytes) n then None else Some (take n bytes, drop n bytes)

unfoldable pub string_at : ℕ → List ℕ → Option (List ℕ × List ℕ)
string_at n bytes = do
  size ← number_at n bytes
  piece_at size.0 size.1

unfoldable pub optional_at : List ℕ → Option (Option (List ℕ) × List ℕ)
optional_at [] = None
optional_at (zero ∷ rest) = Some (None, rest)
optional_at (suc zero ∷ rest) = do
  bytes ← string_at 2 rest
  Some (Some bytes.0, bytes.1)
optional_at (suc (suc flag) ∷ rest) = None

-- a number of this width in two's complement
unfoldable pub signed_at : Width → List ℕ → Option (ℤ × List ℕ)
signed_at w bytes = do
  n ← number_at (byte_len w) bytes
  Some (cast_signed w n.0, n.1)

unfoldable pub many_at : ℕ → List ℕ → Option (List ℤ × List ℕ)
many_at zero bytes = Some ([], bytes)
many_at (suc n) bytes = do
  first ← signed_at w128 bytes
  others ← many_at n first.1
  Some (first.0 ∷ others.0, others.1)

unfoldable pub numbers_at : List ℕ → Option (List ℤ × List ℕ)
numbers_at bytes = do
  count ← number_at 1 bytes
  many_at count.0 count.1

-- one value and then another
abbrev pub both : {A B : Type 0} → (List ℕ → Option (A × List ℕ)) → (List ℕ → Option (B × List ℕ)) → List ℕ → Option ((A × B) × List ℕ)
both first second bytes = do
  a ← first bytes
  b ← second a.1
  Some ((a.0, b.0), b.1)

-- a record made of the values that are read
abbrev pub made : {A : Type 0} → (A → Record) → (List ℕ → Option (A × List ℕ)) → List ℕ → Option (Record × List ℕ)
made make values bytes = do
  a ← values bytes
  Some (make a.0, a.1)

unfoldable pub write_at : List ℕ → Option (Record × List ℕ)
write_at = made (λ x. Write x.0 x.1.0 x.1.1.0 x.1.1.1.0 x.1.1.1.1) (both (number_at 8) (both (number_at 4) (both (string_at 2) (both optional_at optional_at))))

unfoldable pub delta_at : List ℕ → Option (Record × List ℕ)
delta_at = made (λ x. Delta x.0 x.1.0 x.1.1.0 x.1.1.1.0 x.1.1.1.1) (both (number_at 8) (both (number_at 4) (both (string_at 2) (both (signed_at w8) numbers_at))))

unfoldable pub ghost_at : List ℕ → Option (Record × List ℕ)
ghost_at = made (λ x. Ghost x.0 x.1) (both (number_at 4) (string_at 2))

unfoldable pub clean_at : List ℕ → Option (Record × List ℕ)
clean_at = made (λ x. Clean x.0 x.1) (both (number_at 4) (string_at 2))

unfoldable pub undo_at : List ℕ → Option (Record × List ℕ)
undo_at = made (λ x. Undo x.0 x.1) (both (number_at 8) (number_at 8))

unfoldable pub commit_at : List ℕ → Option (Record × List ℕ)
commit_at = made (λ x. Commit x.0 x.1.0 x.1.1) (both (number_at 8) (both (number_at 8) (number_at 4)))

unfoldable pub abort_at : List ℕ → Option (Record × List ℕ)
abort_at = made (λ x. Abort x) (number_at 8)

unfoldable pub schema_at : List ℕ → Option (Record × List ℕ)
schema_at = made (λ x. Schema x.0 x.1.0 x.1.1) (both (number_at 8) (both (number_at 4) (string_at 4)))

-- the fields of a record of this kind
unfoldable pub fields_at : ℕ → List ℕ → Option (Record × List ℕ)
fields_at kind bytes =
    if kind == 1 then write_at bytes
    else if kind == 2 then delta_at bytes
    else if kind == 3 then ghost_at bytes
    else if kind == 4 then clean_at bytes
    else if kind == 5 then undo_at bytes
    else if kind == 6 then commit_at bytes
    else if kind == 7 then abort_at bytes
    else if kind == 8 then schema_at bytes
    else None

-- a record from its kind to its last field, with the places of the bytes
unfoldable pub record_at : ℕ → List ℕ → Option (Scanned × List ℕ)
record_at place bytes = do
  kind ← number_at 1 bytes
  number ← number_at 8 kind.1
  entry ← fields_at kind.0 number.1
  Some (record { place = place; end = place + (length bytes - length entry.1); number = number.0; entry = entry.0 }, entry.1)
