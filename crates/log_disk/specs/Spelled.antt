-- No clause of `run` rests on this module: it serves contracts between crates.
--
-- Records of the machine as they stand in the log's blocks. Lists of records have the latest first.
use Rattle.std.specs.Prelude.{◌≡◌, ℕ, ℤ, List, [], ◌∷◌, ◌++◌, length, Option, Some, None}
use Rattle.std.specs.Int.{w8, w128, cast_unsigned}
use Rattle.std.specs.List.{flat_map}
use Rattle.byteorder.specs.Endian.{big_bytes}
use Rattle.iv_types.specs.declared.value.Kind.{Kind}
use Rattle.std.specs.Option.{option_map, IfSome}
use Rattle.iv_types.specs.Encoding.{FitAll, row_bytes}
use Rattle.table_laws.specs.Place.{Place}
use Rattle.iv_meaning.specs.Schema.{Schema, Object, numbered, kinds_of_table}
use Rattle.iv_meaning.specs.Database.{Row}
use Rattle.txn_machine.specs.Records as machine
use Rattle.txn_machine.specs.Records.{Record}
use Rattle.log_records.specs.declared.record.Record as bytes
use Rattle.log_records.specs.declared.record.Record.TheVariants.{Write, Delta, Ghost, Clean, Undo, Commit, Abort, Schema as Definition}
use Rattle.log_records.specs.Spelling.{spelling}
use Rattle.log_records.specs.Area.{Entry}
use Rattle.txn_log.specs.Appended.{Numbered, Creates}

-- the bytes of a row of this place's table, if there is a row
abbrev pub row_in : Schema → Place → Option Row → Option (List ℕ)
row_in objects place row = option_map (row_bytes (kinds_of_table (numbered objects place.0))) row

-- a record, with its rows in bytes beside these definitions
abbrev pub in_bytes : Schema → Record → bytes.Record
in_bytes objects (machine.Write transaction c) = Write transaction c.key.0 c.key.1 (row_in objects c.key c.before) (row_in objects c.key c.after)
in_bytes objects (machine.Delta transaction d) = Delta transaction d.view d.group d.count d.sums
in_bytes objects (machine.Ghost place) = Ghost place.0 place.1
in_bytes objects (machine.Clean place) = Clean place.0 place.1
in_bytes objects (machine.Undo transaction number) = Undo transaction number
in_bytes objects (machine.Commit transaction number session) = Commit transaction number session
in_bytes objects (machine.Abort transaction) = Abort transaction
in_bytes objects (machine.Definition number session text) = Definition number session text

abbrev pub spelled : Schema → Numbered → Entry
spelled objects r = record { number = r.number; entry = in_bytes objects r.of }

-- a record's rows fit the table that it names
abbrev pub IsSpellable : Schema → Record → Type 0
IsSpellable objects (machine.Write transaction c) =
    IfSome c.before (FitAll (kinds_of_table (numbered objects c.key.0))) × IfSome c.after (FitAll (kinds_of_table (numbered objects c.key.0)))
IsSpellable objects _ = Unit {0}

abbrev pub AreSpellable : Schema → List Numbered → Type 0
AreSpellable objects [] = Unit {0}
AreSpellable objects (r ∷ rs) = IsSpellable objects r.of × AreSpellable objects rs

-- the definitions after a record, where these stood before it
abbrev pub AddsTo : Schema → Record → Schema → Type 0
AddsTo objects (machine.Definition number session text) all = (o : Object) × Creates objects text o × (all ≡ objects ++ o ∷ [])
AddsTo objects _ all = all ≡ objects

-- after these records
abbrev pub LeadTo : Schema → List Numbered → Schema → Type 0
LeadTo objects [] all = all ≡ objects
LeadTo objects (r ∷ rs) all = (before : Schema) × LeadTo objects rs before × AddsTo before r.of all

-- each beside the definitions that stand where it was appended
abbrev pub AreSpelled : Schema → List Numbered → List Entry → Type 0
AreSpelled objects [] [] = Unit {0}
AreSpelled objects (r ∷ rs) (e ∷ es) = AreSpelled objects rs es × ((before : Schema) × LeadTo objects rs before × IsSpellable before r.of × (e ≡ spelled before r))
AreSpelled objects _ _ = ⊥

-- ---- laws

-- bytes behind their length
abbrev pub with_length : List ℕ → List ℕ
with_length bytes = big_bytes 2 (length bytes) ++ bytes

abbrev pub row_or_none : List Kind → Option Row → List ℕ
row_or_none kinds None = 0 ∷ []
row_or_none kinds (Some row) = 1 ∷ with_length (row_bytes kinds row)

abbrev pub sum_bytes : ℤ → List ℕ
sum_bytes sum = big_bytes 16 (cast_unsigned w128 sum)

-- the kind of a record, and its fields as they stand behind its number
abbrev pub kind_and_fields : Schema → Record → ℕ × List ℕ
kind_and_fields objects (machine.Write transaction c) =
    let kinds : List Kind = kinds_of_table (numbered objects c.key.0) in
    (1, big_bytes 8 transaction ++ (big_bytes 4 c.key.0 ++ (with_length c.key.1 ++ (row_or_none kinds c.before ++ row_or_none kinds c.after))))
kind_and_fields objects (machine.Delta transaction d) =
    (2, big_bytes 8 transaction ++ (big_bytes 4 d.view ++ (with_length d.group ++ (big_bytes 1 (cast_unsigned w8 d.count) ++ (big_bytes 1 (length d.sums) ++ flat_map sum_bytes d.sums)))))
kind_and_fields objects (machine.Ghost place) = (3, big_bytes 4 place.0 ++ with_length place.1)
kind_and_fields objects (machine.Clean place) = (4, big_bytes 4 place.0 ++ with_length place.1)
kind_and_fields objects (machine.Undo transaction number) = (5, big_bytes 8 transaction ++ big_bytes 8 number)
kind_and_fields objects (machine.Commit transaction number session) = (6, big_bytes 8 transaction ++ (big_bytes 8 number ++ big_bytes 4 session))
kind_and_fields objects (machine.Abort transaction) = (7, big_bytes 8 transaction)
kind_and_fields objects (machine.Definition number session text) = (8, big_bytes 8 number ++ (big_bytes 4 session ++ (big_bytes 4 (length text) ++ text)))

-- a record's fields stand in its bytes as they are named
abbrev pub FieldsLaw : Type 0
FieldsLaw = (objects : Schema) (number : ℕ) (r : Record)
    → spelling number (in_bytes objects r) ≡ (kind_and_fields objects r).0 ∷ (big_bytes 8 number ++ (kind_and_fields objects r).1)

-- as in this Commit
abbrev pub CommitBytes : Type 0
CommitBytes = spelling 5 (in_bytes [] (machine.Commit 1 3 1))
    ≡ 6 ∷ 0 ∷ 0 ∷ 0 ∷ 0 ∷ 0 ∷ 0 ∷ 0 ∷ 5 ∷ 0 ∷ 0 ∷ 0 ∷ 0 ∷ 0 ∷ 0 ∷ 0 ∷ 1 ∷ 0 ∷ 0 ∷ 0 ∷ 0 ∷ 0 ∷ 0 ∷ 0 ∷ 3 ∷ 0 ∷ 0 ∷ 0 ∷ 1 ∷ []
