-- No clause of `run` rests on this module: it serves contracts between crates.
--
-- Versions: what stands under a place (the number of an index and a key) was another thing until a commit number.
use Rattle.std.specs.Prelude.{ℕ, ◌≢◌, nat_lt, Bool, not, List, [], ◌∷◌, Option, Some, None, if◌then◌else◌}
use Rattle.std.specs.List.{AllByRecursion, filter}
use Rattle.std.specs.Ordering.{nat_cmp, ordering_then, is_lt, is_gt}
use Rattle.std.specs.declared.cmp.Ordering.{Ordering}
use Rattle.std.specs.declared.cmp.Ordering.TheVariants.{Greater}
use Rattle.table_laws.specs.Place.{Place, place_cmp}

-- a place at a commit number
abbrev pub Moment : Type 0
Moment = Place × ℕ

-- by the place, and of one place by the number
abbrev pub moment_cmp : Moment → Moment → Ordering
moment_cmp x y = ordering_then (place_cmp x.0 y.0) (nat_cmp x.1 y.1)

-- what a commit with this number left of a place: the row before it, or its delta
abbrev pub Version : Type 0 → Type 0
Version V = Moment × V

module _ {V : Type 0} where
  abbrev pub place : Version V → Place
  place v = v.0.0

  abbrev pub number : Version V → ℕ
  number v = v.0.1

  -- one more version, behind all that are not behind it
  abbrev pub with_version : Version V → List (Version V) → List (Version V)
  with_version v [] = v ∷ []
  with_version v (w ∷ ws) = if is_lt (moment_cmp v.0 w.0) then v ∷ w ∷ ws else w ∷ with_version v ws

  -- those with greater numbers
  abbrev pub above : ℕ → List (Version V) → List (Version V)
  above n vs = filter (λ v. nat_lt n (number v)) vs

  -- in the order of their moments
  abbrev pub AreInOrder : List (Version V) → Type 0
  AreInOrder [] = Unit {0}
  AreInOrder (v ∷ vs) = AllByRecursion (λ w. moment_cmp v.0 w.0 ≢ Greater) vs × AreInOrder vs

  -- a moment is at one or behind it, or only the latter
  abbrev pub is_from : Bool → Moment → Version V → Bool
  is_from past m v = if past then is_lt (moment_cmp m v.0) else not (is_gt (moment_cmp m v.0))

  -- the first version that passes a test
  abbrev pub first_where : (Version V → Bool) → List (Version V) → Option (Version V)
  first_where test [] = None
  first_where test (v ∷ vs) = if test v then Some v else first_where test vs
