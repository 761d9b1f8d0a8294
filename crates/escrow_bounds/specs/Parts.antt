-- No clause of `run` rests on this module: it serves contracts between crates.
--
-- The parts of the sessions in memory, and the bounds beside them.
use Rattle.std.specs.Prelude.{◌≡◌, ℕ, ◌<◌, ℤ, pos, ◌+ℤ◌, ◌-ℤ◌, ◌≤ℤ◌, FitsSigned, List, [], ◌∷◌, length, slice_index_or, slice_set, Some}
use Rattle.std.specs.Int.{w128}
use Rattle.std.specs.Ordering.{nat_cmp}
use Rattle.std.specs.FinMap.{FinMap, empty, get, insert}
use Rattle.iv_types.specs.declared.lock.Prefix.{Prefix}
use Rattle.iv_types.specs.Encoding.{IsHuge}
use Rattle.escrow_bounds.specs.declared.part.Part.{Part}
use Rattle.escrow_bounds.specs.declared.escrow.Range.{Range}
use Rattle.escrow_bounds.specs.Column.{Column, part, least, greatest}

abbrev pub parts_of : List Part → FinMap nat_cmp Prefix
parts_of [] = empty
parts_of (p ∷ ps) = insert (parts_of ps) p.session p.prefix

-- the session's part stands at this place
pub record StandsAt (parts : List Part) (session place : ℕ) : Type 0 where
  pub within : place < length parts
  pub found : (d : Part) → get (parts_of parts) session ≡ Some (slice_index_or parts place d).prefix
  pub put : (p : Prefix) → parts_of (slice_set parts place (record { session = session; prefix = p })) ≡ insert (parts_of parts) session p

-- the least sum is at most 0 and the sum, and the greatest at least
pub record IsPrefix (p : Prefix) : Type 0 where
  pub lo_zero : p.lo ≤ℤ pos 0
  pub lo_sum : p.lo ≤ℤ p.sum
  pub hi_zero : pos 0 ≤ℤ p.hi
  pub hi_sum : p.sum ≤ℤ p.hi
  pub lo_huge : IsHuge p.lo
  pub hi_huge : IsHuge p.hi

-- the bounds are the column's, and lie in its range
pub record Keeps (c : Column) (inf sup : ℤ) : Type 0 where
  pub inf_is : inf ≡ least c
  pub sup_is : sup ≡ greatest c
  pub inf_huge : IsHuge inf
  pub sup_huge : IsHuge sup
  pub prefixes : (session : ℕ) → IsPrefix (part c session)

-- the bounds where a session's prefix becomes another
abbrev pub moved_by : Range → Prefix → Prefix → Range
moved_by bounds p q = record { inf = bounds.inf -ℤ p.lo +ℤ q.lo; sup = bounds.sup -ℤ p.hi +ℤ q.hi }

-- both fit 128 bits
pub record IsWithin (a b : ℤ) : Type 0 where
  pub first : FitsSigned w128 a
  pub second : FitsSigned w128 b

pub record AreHuge (bounds : Range) : Type 0 where
  pub inf : IsHuge bounds.inf
  pub sup : IsHuge bounds.sup
