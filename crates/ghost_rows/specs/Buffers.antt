-- No clause of `run` rests on this module: it serves contracts between crates.
--
-- Buffers for values of stored rows.
use Rattle.std.specs.Prelude.{◌≡◌, ℕ, ◌≤◌, [], Vec, vec_capacity}
use Rattle.iv_types.specs.declared.limit.TheConstants.{VIEW_ROW_BYTES}

-- it is empty, and has room for a stored row
abbrev pub IsBuffer : {A : Type 0} → Vec ℕ A → Type 0
IsBuffer v = (v.items ≡ []) × (VIEW_ROW_BYTES ≤ vec_capacity v)
