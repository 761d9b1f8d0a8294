-- No clause of `run` rests on this module: it serves contracts between crates.
--
-- Laws of transcripts, and of what lines say.
use Rattle.std.specs.Prelude.{◌≡◌, ◌≤◌, ℕ, ◌+◌, Bool, true, false, List, [], ◌∷◌, codes}
use Rattle.iv_types.specs.declared.statement.Mode.TheVariants.{Serial}
use Rattle.iv_types.specs.Syntax.{StatementTree}
use Rattle.iv_types.specs.Grammar.{OneStatement}
use Rattle.iv_types.specs.Refusing.{OneRefusal}
use Rattle.iv_meaning.specs.Database.{Database}
use Rattle.iv_meaning.specs.Statement.{Kept}
use Rattle.iv_meaning.specs.Transaction.{alone, committed, outside}
use Rattle.iv_meaning.specs.History.{Entry, state_at}
use Rattle.iv_meaning.specs.Said.{Said, unread, IsMarked, Says}
use Rattle.iv_meaning.specs.Serial.{World, latest, commits, Answers}

-- no line with this mark is of two sessions or has two texts
abbrev pub IsOne : List ℕ → Type 0
IsOne mark = (line text other : List ℕ) (session another : ℕ) → IsMarked mark session text line → IsMarked mark another other line → (session ≡ another) × (text ≡ other)

abbrev pub SessionLaw : Type 0
SessionLaw = IsOne (codes ":") × IsOne (codes "/")

abbrev pub is_unread : Said → Bool
is_unread (unread session) = true
is_unread said = false

-- No line says two things where there is memory for its text, as no text is two statements, or refused for two causes.
abbrev pub SaysLaw : Type 0
SaysLaw = OneStatement → OneRefusal → (line : List ℕ) (one other : Said) → is_unread one ≡ false → is_unread other ≡ false
    → Says line one → Says line other → one ≡ other

-- the entries have the numbers that follow this one, in order
abbrev pub AreNumbered : ℕ → List Entry → Type 0
AreNumbered number [] = Unit {0}
AreNumbered number (e ∷ es) = (e.number ≡ number + 1) × AreNumbered e.number es

-- the history begins with this database, and its numbers follow that of the database
pub record IsSince (db : Database) (w : World) : Type 0 where
  pub began : w.origin ≡ db
  pub numbered : AreNumbered db.number w.history

-- so it is with every line
abbrev pub HistoryLaw : Type 0
HistoryLaw = (db : Database) (said : Said) (w after : World) (piece : List ℕ) → IsSince db w → Answers said w piece after → IsSince db after

-- then the database of the greatest printed number is the state at that number
abbrev pub LatestLaw : Type 0
LatestLaw = (db : Database) (w : World) → IsSince db w → latest w ≡ state_at w.origin w.history (latest w).number

-- The database that a transaction leaves, alone on that of the greatest printed number, is the one of the number that it
-- takes: what runs alone on the state at n - 1 leaves the state at n.
abbrev pub CommitLaw : Type 0
CommitLaw = (w : World) (session : ℕ) (statements : List StatementTree) →
    committed (alone Serial statements (latest w)).1 ≡ latest (commits w session (alone Serial statements (latest w)).1.kept)

-- so does a statement that is a transaction of its own
abbrev pub OutsideLaw : Type 0
OutsideLaw = (w : World) (session : ℕ) (statement : StatementTree) →
    (outside statement (latest w)).leaves ≡ latest (commits w session (outside statement (latest w)).kept)

-- a commit leaves the database at each number before its own
abbrev pub StateLaw : Type 0
StateLaw = (w : World) (session number : ℕ) (kept : List Kept) → number ≤ (latest w).number →
    state_at w.origin (commits w session kept).history number ≡ state_at w.origin w.history number
