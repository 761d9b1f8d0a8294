-- No clause of `run` rests on this module: it serves contracts between crates.
--
-- Chains: the versions that readers of older numbers may still ask for.
use Rattle.std.specs.Prelude.{◌≡◌, ◌≢◌, ◌&&◌, ℕ, nat_lt, Bool, not, true, false, List, [], ◌∷◌, Option, Some, None, IfSome, if◌then◌else◌}
use Rattle.std.specs.List.{filter}
use mathlib.Core.Path.{refl}
use Rattle.std.specs.Coded.{Coded, code_by, coded×, coded_list, coded_ℕ}
use Rattle.std.specs.Ordering.{nat_cmp, eq_by_cmp}
use Rattle.std.specs.Cmp.Lexicographic.{slice_cmp}
use Rattle.std.specs.declared.cmp.Ordering.TheVariants.{Greater}
use Rattle.table_laws.specs.Place.{Place, place_cmp}
use Rattle.version_chain.specs.Versions.{Version, place, number, with_version}

pub record Chains (V : Type 0) : Type 0 where
  -- what was pushed and is above what was pruned, in the order of the places, and of one place in that of their pushing
  pub versions : List (Version V)
  -- the greatest number that was pruned
  pub pruned : ℕ
  -- how many more it can take without memory
  pub room : ℕ

abbrev pub chains_code : {V : Type 0} → Coded V → Coded (Chains V)
chains_code {V} values =
    code_by (List (Version V) × (ℕ × ℕ)) (coded× (coded_list (coded× (coded× (coded× coded_ℕ (coded_list coded_ℕ)) coded_ℕ) values)) (coded× coded_ℕ coded_ℕ)) (λ c. (c.versions, (c.pruned, c.room))) (λ p. record { versions = p.0; pruned = p.1.0; room = p.1.1 }) (λ _. refl)

module _ {V : Type 0} where
  -- a version is of a place
  abbrev pub is_of : Place → Version V → Bool
  is_of p v = eq_by_cmp place_cmp p (place v)

  -- those of a place
  abbrev pub chain_of : Place → List (Version V) → List (Version V)
  chain_of p vs = filter (is_of p) vs

  -- none of the versions is of a place
  abbrev pub is_empty : Place → List (Version V) → Bool
  is_empty p [] = true
  is_empty p (v ∷ vs) = not (is_of p v) && is_empty p vs

-- what stands after a push: a version that is not above what was pruned is not kept
abbrev pub pushed : {V : Type 0} → Version V → ℕ → List (Version V) → List (Version V)
pushed v pruned vs = if nat_lt pruned (number v) then with_version v vs else vs

-- no version of a place has a greater number
abbrev pub none_above : {V : Type 0} → ℕ → Place → List (Version V) → Bool
none_above n p [] = true
none_above n p (v ∷ vs) = not (is_of p v && nat_lt n (number v)) && none_above n p vs

-- a key comes no later than another one
abbrev pub IsUpTo : List ℕ → List ℕ → Type 0
IsUpTo k l = slice_cmp nat_cmp k l ≢ Greater

abbrev pub HasUpTo : Option (List ℕ) → List ℕ → Type 0
HasUpTo None k = ⊥
HasUpTo (Some found) k = IsUpTo found k

-- the least key at or after this one that has versions in the index, if there is one
pub record IsLeastFrom {V : Type 0} (index : ℕ) (key : List ℕ) (vs : List (Version V)) (found : Option (List ℕ)) : Type 0 where
  pub held : IfSome found (λ k. IsUpTo key k × (is_empty (index, k) vs ≡ false))
  pub least : (k : List ℕ) → IsUpTo key k → is_empty (index, k) vs ≡ false → HasUpTo found k

-- a row as it was at a number: as it was before the first version above that number, and else as it is now
abbrev pub row_at : {X : Type 0} → ℕ → Place → Option X → List (Version (Option X)) → Option X
row_at n p now [] = now
row_at n p now (v ∷ vs) = if is_of p v && nat_lt n (number v) then v.1 else row_at n p now vs
