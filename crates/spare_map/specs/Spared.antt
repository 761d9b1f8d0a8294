-- No clause of `run` rests on this module: it serves contracts between crates.
--
-- What a map is to its callers.
use Rattle.std.specs.Prelude.{ℕ}
use mathlib.Core.Path.{refl}
use Rattle.std.specs.Coded.{Coded, code_by, coded×, coded_list, coded_ℕ}
use Rattle.std.specs.FinMap.{FinMap, code}
use Rattle.table_laws.specs.Place.{place_cmp}

pub record Spared (V : Type 0) : Type 0 where
  -- the values under their places
  pub entries : FinMap place_cmp V
  -- how many more it can take without memory
  pub room : ℕ

abbrev pub spared_code : {V : Type 0} → Coded V → Coded (Spared V)
spared_code {V} values =
    code_by (FinMap place_cmp V × ℕ) (coded× (code (coded× coded_ℕ (coded_list coded_ℕ)) values) coded_ℕ) (λ s. (s.entries, s.room)) (λ p. record { entries = p.0; room = p.1 }) (λ _. refl)
