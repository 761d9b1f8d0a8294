-- No clause of `run` rests on this module: it serves contracts between crates.
--
-- How a refusal of the engine's is told: with the names that the definitions of its session give.
use Rattle.std.specs.Prelude.{ℕ, zero, suc, ℤ, pos, ◌-ℤ◌, ◌+◌, ◌^◌, ◌==◌, List, [], ◌∷◌, drop, length, slice_get, Option, Some, None, if◌then◌else◌}
use Rattle.std.specs.Option.{unwrap_or}
use Rattle.byteorder.specs.Endian.{big_number}
use Rattle.iv_types.specs.declared.value.Kind.{Kind}
use Rattle.iv_types.specs.declared.value.Kind.TheVariants.{Int, Huge, Text}
use Rattle.iv_types.specs.declared.value.Value.{Value}
use Rattle.iv_types.specs.declared.value.Value.TheVariants.{Number, Word}
use Rattle.iv_types.specs.declared.lock.GroupDelta.{GroupDelta}
use Rattle.iv_types.specs.declared.refusal.Refusal.{Refusal}
use Rattle.iv_types.specs.declared.refusal.Refusal.TheVariants as refusal
use Rattle.iv_types.specs.declared.refusal.EngineRefusal.{EngineRefusal}
use Rattle.iv_types.specs.declared.refusal.EngineRefusal.TheVariants as engine
use Rattle.iv_meaning.specs.Schema.{Schema, Object, view, ViewTree, numbered, group_kinds}
use Rattle.iv_meaning.specs.Database.{Row}

-- ---- the values of a key

-- the text at the front, up to a byte 0 that has no 255 behind it
abbrev pub text_in : List ℕ → List ℕ
text_in [] = []
text_in (zero ∷ []) = []
text_in (zero ∷ b ∷ bytes) = if b == 255 then zero ∷ text_in bytes else []
text_in (suc a ∷ bytes) = suc a ∷ text_in bytes

abbrev pub behind_text : List ℕ → List ℕ
behind_text [] = []
behind_text (zero ∷ []) = []
behind_text (zero ∷ b ∷ bytes) = if b == 255 then behind_text bytes else bytes
behind_text (suc a ∷ bytes) = behind_text bytes

abbrev pub value_in : Kind → List ℕ → Value
value_in Int bytes = Number (pos (big_number 8 bytes) -ℤ pos (2 ^ 63))
value_in Huge bytes = Number (pos (big_number 16 bytes) -ℤ pos (2 ^ 127))
value_in Text bytes = Word (text_in bytes)

abbrev pub bytes_behind : Kind → List ℕ → List ℕ
bytes_behind Int bytes = drop 8 bytes
bytes_behind Huge bytes = drop 16 bytes
bytes_behind Text bytes = behind_text bytes

abbrev pub values_in : List Kind → List ℕ → Row
values_in [] bytes = []
values_in (kind ∷ kinds) bytes = value_in kind bytes ∷ values_in kinds (bytes_behind kind bytes)

-- ---- names

-- the name of the count, which is column 0, or of a sum: they stand behind those of the group
abbrev pub column_name : ViewTree → ℕ → List ℕ
column_name v column = unwrap_or (slice_get v.names (length v.group + column)) []

-- Of a pay that the escrow of a column refuses. Of what is no view, the names and the group are empty.
abbrev pub escrow_told : Schema → Option Object → List ℕ → (column : ℕ) (inf sup : ℤ) → Refusal
escrow_told objects (Some (view v)) group column inf sup = refusal.EscrowRange v.name (values_in (group_kinds objects v) group) (column_name v column) inf sup
escrow_told objects o group column inf sup = refusal.EscrowRange [] [] [] inf sup

-- of the delta that was to be paid; no step but Pay is refused so
abbrev pub of_delta : Schema → Option GroupDelta → (column : ℕ) (inf sup : ℤ) → Refusal
of_delta objects (Some d) column inf sup = escrow_told objects (numbered objects d.view) d.group column inf sup
of_delta objects None column inf sup = refusal.EscrowRange [] [] [] inf sup

abbrev pub tell : Schema → Option GroupDelta → EngineRefusal → Refusal
tell objects delta (engine.Deadlock cycle) = refusal.Deadlock cycle
tell objects delta (engine.Escrow column inf sup) = of_delta objects delta column inf sup
tell objects delta (engine.LogFull used reserved need) = refusal.LogFull used reserved need
tell objects delta (engine.DataFull used need) = refusal.DataFull used need
tell objects delta (engine.TxnFull kept need) = refusal.TxnFull kept need
tell objects delta (engine.HistoryFull kept need) = refusal.HistoryFull kept need
tell objects delta (engine.SchemaBusy session) = refusal.SchemaBusy session
tell objects delta engine.DiskFault = refusal.DiskFault
tell objects delta (engine.Stopped step) = refusal.Stopped step
tell objects delta engine.NoMemory = refusal.NoMemory
