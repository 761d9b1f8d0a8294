-- No clause of `run` rests on this module: it serves contracts between crates.
--
-- Sets of sessions, and the sessions that two of them share.
use Rattle.std.specs.Prelude.{ℕ, ◌≤◌}
use Rattle.std.specs.List.{Contains}
use Rattle.iv_types.specs.declared.session.Sessions.{Sessions}
use Rattle.iv_types.specs.Replies.{members}

-- the session is in the set
unfoldable pub Has : Sessions → ℕ → Type 0
Has set session = Contains (members set) session

-- somebody is in the set
abbrev pub IsSomebody : Sessions → Type 0
IsSomebody set = (session : ℕ) × Has set session

-- some session is in both sets
abbrev pub HaveCommon : Sessions → Sessions → Type 0
HaveCommon a b = (session : ℕ) × Has a session × Has b session

-- the session is in both sets, and none before it is
pub record IsFirstCommon (a b : Sessions) (session : ℕ) : Type 0 where
  pub in_one : Has a session
  pub in_other : Has b session
  pub first : (other : ℕ) → Has a other → Has b other → session ≤ other
