-- The order of places is a total order, in which only equal places tie.
use Rattle.std.specs.Prelude.{◌≡◌}
use mathlib.Core.Path.{refl}
use Rattle.std.specs.FinMap.{IsAntisymmetric, nat_cmp-IsAntisymmetric, slice_cmp-IsAntisymmetric}
use Rattle.std.specs.declared.cmp.Ordering.{Ordering}
use Rattle.std.specs.declared.cmp.Ordering.TheVariants.{Less, Equal, Greater}
use Rattle.std.specs.Ordering.{nat_cmp, ordering_then}
use Rattle.std.specs.Cmp.{IsTotalOrder, on_total, then_total, nat_cmp_total}
use Rattle.std.specs.Cmp.Lexicographic.{slice_cmp, nat_list_cmp_total}
use Rattle.table_laws.specs.Place.{Place, place_cmp}

pub place_cmp_total : IsTotalOrder place_cmp
place_cmp_total = then_total (on_total (λ (x : Place). x.0) nat_cmp_total) (on_total (λ (x : Place). x.1) nat_list_cmp_total)

both_equal : (r s : Ordering) → ordering_then r s ≡ Equal → (r ≡ Equal) × (s ≡ Equal)
both_equal Less s e = (e, cc)
both_equal Equal s e = (refl, e)
both_equal Greater s e = (e, cc)

pub place_cmp-IsAntisymmetric : IsAntisymmetric place_cmp
place_cmp-IsAntisymmetric x y e =
    let parts : (nat_cmp x.0 y.0 ≡ Equal) × (slice_cmp nat_cmp x.1 y.1 ≡ Equal) = both_equal _ _ e in
    λ i. (nat_cmp-IsAntisymmetric x.0 y.0 parts.0 i, slice_cmp-IsAntisymmetric nat_cmp-IsAntisymmetric x.1 y.1 parts.1 i)
