-- No clause of `run` rests on this module: it serves contracts between crates.
--
-- What standings and replies of the code are, as the programs of sessions have them.
use Rattle.std.specs.Prelude.{◌≡◌, ℕ, List, [], ◌∷◌, ◌++◌, map, drop, Option, Some, None}
use Rattle.std.specs.Option.{option_to_list}
use Rattle.iv_types.specs.declared.reply.Reply.{Reply}
use Rattle.iv_meaning.specs.Objects.{schema_of}
use Rattle.script_law.specs.Programs as programs
use Rattle.script_law.specs.Sessions.{from_marked}
use Rattle.txn_sessions.specs.declared.standing.Savepoint.{Savepoint}
use Rattle.txn_sessions.specs.declared.standing.Standing.{Standing}
use Rattle.txn_sessions.specs.declared.line.Replies.{Replies}

-- a savepoint's name, and how many steps were kept then
abbrev pub mark_of : Savepoint → List ℕ × ℕ
mark_of s = (s.name, s.kept)

abbrev pub marks_of : List Savepoint → List (List ℕ × ℕ)
marks_of saved = map mark_of saved

abbrev pub standing_of : Standing → programs.Standing
standing_of s = record { mode = s.mode; saved = marks_of s.saved.items; kept = s.kept; copy = schema_of s.catalog }

abbrev pub replies_of : Replies → List Reply
replies_of r = r.told ++ option_to_list r.last

-- the latest savepoint of a name stands at this place, and so many steps were kept then; or there is none
abbrev pub IsFound : List ℕ → List (List ℕ × ℕ) → Option (ℕ × ℕ) → Type 0
IsFound name marks None = from_marked name marks ≡ []
IsFound name marks (Some x) =
    (first : List ℕ × ℕ) × (rest : List (List ℕ × ℕ)) × (from_marked name marks ≡ first ∷ rest) × (drop x.0 marks ≡ first ∷ rest) × (x.1 ≡ first.1)
