-- No clause of `run` rests on this module: it serves contracts between crates.
--
-- Places at which a stored row may be a ghost.
use Rattle.std.specs.Prelude.{◌≡◌, ◌≢◌, ℕ, Bool, true, IsSome, refl}
use Rattle.std.specs.Coded.{Coded, coded_ℕ, coded×, coded_list, code_by}
use Rattle.std.specs.FinMap.{FinMap, empty, get, code}
use Rattle.std.specs.declared.cmp.Ordering.TheVariants.{Greater}
use Rattle.table_laws.specs.Place.{Place, place_cmp}
use Rattle.spare_map.specs.Trees.{is_from}

abbrev pub Places : Type 0
Places = FinMap place_cmp (Unit {0})

abbrev pub no_places : Places
no_places = empty

abbrev pub coded_places : Coded Places
coded_places = code (coded× coded_ℕ (coded_list coded_ℕ)) (code_by ℕ coded_ℕ (λ u. 0) (λ n. tt) (λ u. refl))

abbrev pub IsAmong : Places → Place → Type 0
IsAmong places place = IsSome (get places place)

-- of the places at one or behind it, or only of the latter, it is the first
pub record IsFirstFrom (past : Bool) (from : Place) (places : Places) (place : Place) : Type 0 where
  pub among : IsAmong places place
  pub behind : is_from past from place ≡ true
  pub first : (q : Place) → IsAmong places q → is_from past from q ≡ true → place_cmp place q ≢ Greater
