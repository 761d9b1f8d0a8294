-- Values are read from their key, and a refusal of the engine's is told as one.
use Rattle.std.specs.Prelude.{◌≡◌, ℕ, zero, suc, ℤ, pos, ◌+ℤ◌, ◌-ℤ◌, ◌+◌, ◌^◌, ◌<◌, false, IsTrue, List, [], ◌∷◌, ◌++◌, drop, Option, Some, None}
use Rattle.std.specs.List.{flat_map}
use Rattle.std.specs.Int.{Width, w64, w128, cast_unsigned, bytes_high_first}
use mathlib.Core.Path.{refl, ap, subst, ◌∙◌}
use lib.Signed.{mag}
use Rattle.std.proofs.Common.{arith, append_assoc}
use Rattle.std.proofs.lemmas.Int.{ints}
use Rattle.std.proofs.lemmas.List.{drop_at}
use Rattle.byteorder.specs.Endian.{big_number}
use Rattle.byteorder.specs.Numbers.{big_number-reads_back, length-bytes_high_first}
use Rattle.iv_types.specs.declared.value.Kind.{Kind}
use Rattle.iv_types.specs.declared.value.Kind.TheVariants.{Int, Huge, Text}
use Rattle.iv_types.specs.declared.value.Value.TheVariants.{Number, Word}
use Rattle.iv_types.specs.Encoding.{Fits, key_byte, key_value_bytes, key_bytes}
use Rattle.iv_types.specs.declared.lock.GroupDelta.{GroupDelta}
use Rattle.iv_types.specs.declared.refusal.Refusal.TheVariants.{EscrowRange}
use Rattle.iv_types.specs.declared.refusal.EngineRefusal.{EngineRefusal}
use Rattle.iv_types.specs.declared.refusal.EngineRefusal.TheVariants as engine
use Rattle.iv_meaning.specs.Schema.{Schema, Object, table, index, view, numbered, group_kinds}
use Rattle.iv_meaning.specs.Serial.{is_engines, is_deadlock}
use Rattle.row_codec.proofs.KeyFormat.{key_byte_front}
use Rattle.row_codec.proofs.Shifts.{shift}
use Rattle.script_law.specs.Seen.{is_deadlock_event}
use Rattle.statement_law.specs.Telling.{text_in, behind_text, value_in, bytes_behind, values_in, column_name, escrow_told, of_delta, tell}
use Rattle.statement_law.specs.Laws.{KeyLaw, EscrowLaw}
use Rattle.iv_types.proofs.Fitting.{int_is, huge_is}

-- ---- texts

text_read : (text more : List ℕ) → text_in (flat_map key_byte text ++ 0 ∷ 0 ∷ more) ≡ text
text_read [] more = refl
text_read (zero ∷ text) more = ap (λ l. 0 ∷ l) (text_read text more)
text_read (suc b ∷ text) more =
    ap text_in (append_assoc (key_byte (suc b)) (flat_map key_byte text) (0 ∷ 0 ∷ more) ∙ key_byte_front b (flat_map key_byte text ++ 0 ∷ 0 ∷ more)) ∙ ap (λ l. suc b ∷ l) (text_read text more)

text_behind : (text more : List ℕ) → behind_text (flat_map key_byte text ++ 0 ∷ 0 ∷ more) ≡ more
text_behind [] more = refl
text_behind (zero ∷ text) more = text_behind text more
text_behind (suc b ∷ text) more =
    ap behind_text (append_assoc (key_byte (suc b)) (flat_map key_byte text) (0 ∷ 0 ∷ more) ∙ key_byte_front b (flat_map key_byte text ++ 0 ∷ 0 ∷ more)) ∙ text_behind text more

-- ---- numbers

less : (h : ℕ) (z : ℤ) (x : ℕ) → z +ℤ pos h ≡ pos x → pos x -ℤ pos h ≡ z
less h z x e = omega (arith, ints, e)

number_read : (w : Width) (n h : ℕ) → h + h ≡ 256 ^ n → (z : ℤ) (more : List ℕ) → mag z < h → pos (big_number n (bytes_high_first n (cast_unsigned w (z +ℤ pos h)) ++ more)) -ℤ pos h ≡ z
number_read w n h size z more lt =
    let x = shift h z lt in
    ap (λ (y : ℤ). pos (big_number n (bytes_high_first n (cast_unsigned w y) ++ more)) -ℤ pos h) x.1
    ∙ (ap (λ m. pos m -ℤ pos h) (big_number-reads_back n x.0 more (subst (λ (k : ℕ). x.0 < k) size x.2)) ∙ less h z x.0 x.1)

number_behind : (n x : ℕ) (more : List ℕ) → drop n (bytes_high_first n x ++ more) ≡ more
number_behind n x more = drop_at (bytes_high_first n x) more n (length-bytes_high_first n x)

-- ---- columns

value_read : (kind : Kind) (value : _) (more : List ℕ) → Fits kind value → (value_in kind (key_value_bytes kind value ++ more) ≡ value) × (bytes_behind kind (key_value_bytes kind value ++ more) ≡ more)
value_read Int (Number n) more f = (ap Number (number_read w64 8 (2 ^ 63) refl n more (int_is n f).sfits), number_behind 8 (cast_unsigned w64 (n +ℤ pos (2 ^ 63))) more)
value_read Huge (Number n) more f = (ap Number (number_read w128 16 (2 ^ 127) refl n more (huge_is n f).0.sfits), number_behind 16 (cast_unsigned w128 (n +ℤ pos (2 ^ 127))) more)
value_read Text (Word text) more f = (
  ap (λ l. Word (text_in l)) (append_assoc (flat_map key_byte text) (0 ∷ 0 ∷ []) more) ∙ ap Word (text_read text more),
  ap behind_text (append_assoc (flat_map key_byte text) (0 ∷ 0 ∷ []) more) ∙ text_behind text more,
)
value_read Int (Word text) more f = absurd (cc)
value_read Huge (Word text) more f = absurd (cc)
value_read Text (Number n) more f = absurd (cc)

pub key_law : KeyLaw
key_law [] [] f = refl
key_law [] (v ∷ vs) f = absurd f
key_law (k ∷ ks) [] f = absurd f
key_law (k ∷ ks) (v ∷ vs) f =
    let one = value_read k v (key_bytes ks vs) f.0 in
    λ i. one.0 i ∷ (ap (values_in ks) one.1 ∙ key_law ks vs f.1) i

pub escrow_law : EscrowLaw
escrow_law objects d is column inf sup =
    ap (λ (o : Option Object). escrow_told objects o d.group column inf sup) is.view_is
    ∙ ap (λ l. EscrowRange is.of.name l (column_name is.of column) inf sup) (ap (values_in (group_kinds objects is.of)) is.key ∙ key_law (group_kinds objects is.of) is.group is.fits)

-- ---- a refusal of the engine's is told as one, and a deadlock as a deadlock

escrow_engines : (objects : Schema) (o : Option Object) (group : List ℕ) (column : ℕ) (inf sup : ℤ) → IsTrue (is_engines (escrow_told objects o group column inf sup)) × (is_deadlock (escrow_told objects o group column inf sup) ≡ false)
escrow_engines objects None group column inf sup = (refl, refl)
escrow_engines objects (Some (view v)) group column inf sup = (refl, refl)
escrow_engines objects (Some (table t)) group column inf sup = (refl, refl)
escrow_engines objects (Some (index i)) group column inf sup = (refl, refl)

delta_engines : (objects : Schema) (delta : Option GroupDelta) (column : ℕ) (inf sup : ℤ) → IsTrue (is_engines (of_delta objects delta column inf sup)) × (is_deadlock (of_delta objects delta column inf sup) ≡ false)
delta_engines objects None column inf sup = (refl, refl)
delta_engines objects (Some d) column inf sup = escrow_engines objects (numbered objects d.view) d.group column inf sup

pub told_engines : (objects : Schema) (delta : Option GroupDelta) (why : EngineRefusal) → IsTrue (is_engines (tell objects delta why)) × (is_deadlock (tell objects delta why) ≡ is_deadlock_event why)
told_engines objects delta (engine.Deadlock cycle) = (refl, refl)
told_engines objects delta (engine.Escrow column inf sup) = delta_engines objects delta column inf sup
told_engines objects delta (engine.LogFull used reserved need) = (refl, refl)
told_engines objects delta (engine.DataFull used need) = (refl, refl)
told_engines objects delta (engine.TxnFull kept need) = (refl, refl)
told_engines objects delta (engine.HistoryFull kept need) = (refl, refl)
told_engines objects delta (engine.SchemaBusy session) = (refl, refl)
told_engines objects delta engine.DiskFault = (refl, refl)
told_engines objects delta (engine.Stopped step) = (refl, refl)
told_engines objects delta engine.NoMemory = (refl, refl)
