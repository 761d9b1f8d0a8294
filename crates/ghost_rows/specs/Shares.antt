-- No clause of `run` rests on this module: it serves contracts between crates.
--
-- What the transactions of sessions have added to a row's count.
use Rattle.std.specs.Prelude.{ℕ, ◌==◌, ℤ, List, [], ◌∷◌, Option, Some, None, if◌then◌else◌}
use Rattle.ghost_rows.specs.declared.shares.Share.{Share}

-- that of a session, if it has room
abbrev pub sum_at : List Share → ℕ → Option ℤ
sum_at [] session = None
sum_at (s ∷ shares) session = if s.session == session then Some s.sum else sum_at shares session

-- the share with this sum, if it is the session's
abbrev pub updated : ℕ → ℤ → Share → Share
updated session sum s = if s.session == session then record { session = session; sum = sum } else s
