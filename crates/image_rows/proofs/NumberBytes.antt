-- The bytes of numbers, one after another.
use Rattle.std.proofs.Common.{◌≡◌, ℕ, suc, ◌+◌, ◌-◌, ◌<◌, ℤ, Bool, true, false, List, [], ◌∷◌, ◌++◌, length, sym, ap, subst, ◌∙◌, arith}
use Rattle.std.specs.Prelude.{IsTrue, ◌↔◌}
use Rattle.std.specs.List.{All}
use Rattle.std.proofs.lemmas.List.Elements.{All-cons, All-head, All-tail}
use Rattle.iv_types.specs.declared.value.Kind.TheVariants.{Huge}
use Rattle.iv_types.specs.declared.value.Value.TheVariants.{Number}
use Rattle.iv_types.specs.Encoding.{IsHuge, value_bytes}
use Rattle.iv_types.proofs.Fitting.{huge_so}
use Rattle.row_codec.proofs.RowFormat.{row_format}
use Rattle.txn_log.specs.Stored.{total_bytes}
use Rattle.image_rows.specs.Rows.{HasNumber, BeginsWithNumber, AreNumbers}

-- one number more
pub numbers_more : (many : ℕ) (bytes rest : List ℕ) → HasNumber bytes rest → AreNumbers many rest → AreNumbers (suc many) bytes
numbers_more many bytes rest one are = record {
  numbers = one.number ∷ are.numbers;
  count = ap suc are.count;
  in_range = All-cons IsHuge one.number are.numbers one.in_range are.in_range;
  bytes = one.is ∙ ap (λ (bs : List ℕ). value_bytes Huge (Number one.number) ++ bs) are.bytes;
}

-- some number is the first
pub numbers_first : (many : ℕ) (bytes : List ℕ) → AreNumbers (suc many) bytes → BeginsWithNumber bytes
numbers_first many bytes are = by are.numbers are.count are.in_range are.bytes
  where
    by : (ns : List ℤ) → length ns ≡ suc many → All IsHuge ns → bytes ≡ total_bytes ns → BeginsWithNumber bytes
    by [] count all is = absurd (omega (arith, count))
    by (n ∷ ns) count all is = (total_bytes ns, record { number = n; in_range = All-head IsHuge n ns all; is = is })

-- the others are behind it
pub numbers_rest : (many : ℕ) (bytes rest : List ℕ) → HasNumber bytes rest → AreNumbers (suc many) bytes → AreNumbers many rest
numbers_rest many bytes rest one are = by are.numbers are.count are.in_range are.bytes
  where
    by : (ns : List ℤ) → length ns ≡ suc many → All IsHuge ns → bytes ≡ total_bytes ns → AreNumbers many rest
    by [] count all is = absurd (omega (arith, count))
    by (n ∷ ns) count all is = record {
      numbers = ns;
      count = omega (arith, count);
      in_range = All-tail IsHuge n ns all;
      bytes = (row_format.split Huge (Number one.number) (Number n) rest (total_bytes ns) (huge_so one.number one.in_range) (huge_so n (All-head IsHuge n ns all)) (sym one.is ∙ is)).1;
    }

-- ---- a walk over them

-- where the first of some numbers are read, these are left
pub record AreLeft (many : ℕ) (bytes : List ℕ) (left : ℕ) (rest : List ℕ) : Type 0 where
  pub forth : AreNumbers many bytes → AreNumbers left rest
  pub back : AreNumbers left rest → AreNumbers many bytes

pub left_first : (many : ℕ) (bytes rest : List ℕ) → HasNumber bytes rest → AreLeft (suc many) bytes many rest
left_first many bytes rest one = record { forth = numbers_rest many bytes rest one; back = numbers_more many bytes rest one }

pub left_next : (many : ℕ) (bytes : List ℕ) (i sums : ℕ) (rest after : List ℕ) → i < sums → HasNumber rest after → AreLeft many bytes (sums - i) rest → AreLeft many bytes (sums - (i + 1)) after
left_next many bytes i sums rest after inside one left =
    let one_less : sums - i ≡ suc (sums - (i + 1)) = omega (arith, inside) in
    record {
      forth = λ are. numbers_rest (sums - (i + 1)) rest after one (subst (λ n. AreNumbers n rest) one_less (left.forth are));
      back = λ are. left.back (subst (λ n. AreNumbers n rest) (sym one_less) (numbers_more (sums - (i + 1)) rest after one are));
    }

-- one that is missing
pub left_short : (many : ℕ) (bytes : List ℕ) (i sums : ℕ) (rest : List ℕ) → i < sums → (BeginsWithNumber rest → ⊥) → AreLeft many bytes (sums - i) rest → AreNumbers many bytes → ⊥
left_short many bytes i sums rest inside none left are =
    let one_less : sums - i ≡ suc (sums - (i + 1)) = omega (arith, inside) in
    none (numbers_first (sums - (i + 1)) rest (subst (λ n. AreNumbers n rest) one_less (left.forth are)))

pub never : {P : Type 0} (b : Bool) → b ≡ false → (P → ⊥) → IsTrue b ↔ P
never b is none = ((λ t. absurd (let wrong : true ≡ false = sym t ∙ is in cc)), (λ p. absurd (none p)))
