-- The order of values and of rows, which is the one that the derived comparisons compute.
use Rattle.std.specs.Prelude.{◌≡◌, T}
use mathlib.Core.Path.{refl, ap, subst}
use Rattle.std.specs.declared.cmp.Ordering.TheVariants.{Less, Equal, Greater}
use Rattle.std.specs.Ordering.{is_lt, is_gt, ordering_reverse}
use Rattle.std.specs.Cmp.{IsTotalOrder, int_cmp_total}
use Rattle.std.specs.Cmp.Lexicographic.{lists_total, nat_list_cmp_total}
use Rattle.std.specs.FinMap.{IsAntisymmetric, int_cmp-IsAntisymmetric, nat_cmp-IsAntisymmetric, slice_cmp-IsAntisymmetric}
use Rattle.iv_types.specs.declared.value.Value.{Value}
use Rattle.iv_types.specs.declared.value.Value.TheVariants.{Number, Word}
use Rattle.iv_types.specs.Encoding.{value_cmp, row_cmp}
use Rattle.iv_types.specs.contracts.value.ValueOrd.TheImpl.{cmp-value}

greater_less : Greater ≡ Less → ⊥
greater_less e = subst (λ o. T (is_gt o)) e tt

less_equal : Less ≡ Equal → ⊥
less_equal e = subst (λ o. T (is_lt o)) e tt

greater_equal : Greater ≡ Equal → ⊥
greater_equal e = subst (λ o. T (is_gt o)) e tt

pub value_antisymm : (v w : Value) → value_cmp v w ≡ ordering_reverse (value_cmp w v)
value_antisymm (Number m) (Number n) = int_cmp_total.antisymm m n
value_antisymm (Number m) (Word b) = refl
value_antisymm (Word a) (Number n) = refl
value_antisymm (Word a) (Word b) = nat_list_cmp_total.antisymm a b

value_trans : (u v w : Value) → value_cmp u v ≡ Less → value_cmp v w ≡ Less → value_cmp u w ≡ Less
value_trans (Number l) (Number m) (Number n) p q = int_cmp_total.trans l m n p q
value_trans (Number l) (Number m) (Word c) p q = refl
value_trans (Number l) (Word b) (Number n) p q = absurd (greater_less q)
value_trans (Number l) (Word b) (Word c) p q = refl
value_trans (Word a) (Number m) w p q = absurd (greater_less p)
value_trans (Word a) (Word b) (Number n) p q = absurd (greater_less q)
value_trans (Word a) (Word b) (Word c) p q = nat_list_cmp_total.trans a b c p q

value_congr : (u v w : Value) → value_cmp u v ≡ Equal → value_cmp u w ≡ value_cmp v w
value_congr (Number l) (Number m) (Number n) p = int_cmp_total.congr l m n p
value_congr (Number l) (Number m) (Word c) p = refl
value_congr (Number l) (Word b) w p = absurd (less_equal p)
value_congr (Word a) (Number m) w p = absurd (greater_equal p)
value_congr (Word a) (Word b) (Number n) p = refl
value_congr (Word a) (Word b) (Word c) p = nat_list_cmp_total.congr a b c p

pub value_cmp_total : IsTotalOrder value_cmp
value_cmp_total = record { antisymm = value_antisymm; trans = value_trans; congr = value_congr }

pub value_cmp_exact : IsAntisymmetric value_cmp
value_cmp_exact (Number m) (Number n) e = ap Number (int_cmp-IsAntisymmetric m n e)
value_cmp_exact (Number m) (Word b) e = absurd (less_equal e)
value_cmp_exact (Word a) (Number n) e = absurd (greater_equal e)
value_cmp_exact (Word a) (Word b) e = ap Word (slice_cmp-IsAntisymmetric nat_cmp-IsAntisymmetric a b e)

pub row_cmp_total : IsTotalOrder row_cmp
row_cmp_total = lists_total value_cmp_total

pub row_cmp_exact : IsAntisymmetric row_cmp
row_cmp_exact = slice_cmp-IsAntisymmetric value_cmp_exact

-- what the derived comparison computes
derived_at : (v w : Value) → cmp-value.it v w ≡ value_cmp v w
derived_at (Number m) (Number n) = refl
derived_at (Number m) (Word b) = refl
derived_at (Word a) (Number n) = refl
derived_at (Word a) (Word b) = refl

pub derived_value_cmp : cmp-value.it ≡ value_cmp
derived_value_cmp i v w = derived_at v w i
