use Rattle.table_laws.proofs.Place.{place_cmp_total, place_cmp-IsAntisymmetric}
use Rattle.table_laws.proofs.order.place_law.Goals as goal

pub returns : goal.returns
returns c = record { total = place_cmp_total; exact = place_cmp-IsAntisymmetric }
