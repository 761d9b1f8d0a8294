-- What is known of the numbers of versions from a mark.
use Rattle.std.specs.Prelude.{◌≡◌, ◌<◌, ◌≤◌, ℕ, true, nat_lt, List, [], ◌∷◌}
use mathlib.Core.Path.{refl, ap}
use Rattle.std.proofs.Common.{arith}
use Rattle.version_chain.specs.Versions.{Version, number, above}
use Rattle.version_chain.specs.Trees.{AreFrom}

is_above : (n mark m : ℕ) → n < mark → mark ≤ m → nat_lt n m ≡ true
is_above n mark m p q = grind (arith, p, q)

-- none goes where all are above
pub all_above : {V : Type 0} (n mark : ℕ) (vs : List (Version V)) → n < mark → AreFrom mark vs → above n vs ≡ vs
all_above n mark [] p h = refl
all_above n mark (v ∷ vs) p h = rw (is_above n mark (number v) p h.0) (ap (λ (t : List (Version _)). v ∷ t) (all_above n mark vs p h.1))
