-- What holds where there is a limit.
use Rattle.std.specs.Prelude.{ℕ, ◌≤◌, Option, None, Some}
use Rattle.std.proofs.Common.{arith}
use Rattle.iv_types.specs.Maps.{IsWithin}
use Rattle.txn_machine.specs.Log.{Within, Above}
use Rattle.data_room.specs.Reserved.{Where}

pub where_always : {P : Type 0} (limit : Option ℕ) → P → Where limit P
where_always None p = tt
where_always (Some most) p = p

pub where_map : {P Q : Type 0} (limit : Option ℕ) → (P → Q) → Where limit P → Where limit Q
where_map None f p = tt
where_map (Some most) f p = f p

pub where_two : {P Q R : Type 0} (limit : Option ℕ) → (P → Q → R) → Where limit P → Where limit Q → Where limit R
where_two None f p q = tt
where_two (Some most) f p q = f p q

pub where_three : {P Q R S : Type 0} (limit : Option ℕ) → (P → Q → R → S) → Where limit P → Where limit Q → Where limit R → Where limit S
where_three None f p q r = tt
where_three (Some most) f p q r = f p q r

pub where_four : {P Q R S T : Type 0} (limit : Option ℕ) → (P → Q → R → S → T) → Where limit P → Where limit Q → Where limit R → Where limit S → Where limit T
where_four None f p q r s = tt
where_four (Some most) f p q r s = f p q r s

-- it is so where something is above the limit
pub where_above : {P : Type 0} (limit : Option ℕ) (n : ℕ) → Where limit P → Above limit n → P
where_above None n p h = absurd h
where_above (Some most) n p h = p

-- both spellings of a limit
pub within_is : (limit : Option ℕ) (n : ℕ) → Within limit n → IsWithin limit n
within_is None n h = tt
within_is (Some most) n h = h

pub is_within : (limit : Option ℕ) (n : ℕ) → IsWithin limit n → Within limit n
is_within None n h = tt
is_within (Some most) n h = h

-- fewer are within it too
pub within_fewer : (limit : Option ℕ) (more less : ℕ) → Where limit (less ≤ more) → IsWithin limit more → IsWithin limit less
within_fewer None more less le h = tt
within_fewer (Some most) more less le h = omega (arith, le, h)

-- more pass it too
pub above_more : (limit : Option ℕ) (less more : ℕ) → Where limit (less ≤ more) → Above limit less → Above limit more
above_more None less more le h = h
above_more (Some most) less more le h = omega (arith, le, h)
