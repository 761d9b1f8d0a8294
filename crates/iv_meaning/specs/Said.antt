-- What a line of a script says.
use Rattle.std.specs.Prelude.{◌≡◌, ◌≢◌, ◌⊎◌, ◌≤◌, ◌<◌, ℕ, List, [], ◌++◌, length, Result, Ok, Err, codes, decimal, IsUtf8}
use Rattle.std.specs.List.{All}
use Rattle.iv_types.specs.declared.limit.TheConstants.{MOST_SESSIONS}
use Rattle.iv_types.specs.declared.refusal.Refusal.{Refusal}
use Rattle.iv_types.specs.Syntax.{StatementTree}
use Rattle.iv_types.specs.Grammar.{Spells}
use Rattle.iv_types.specs.Refusing.{Refuses}
use Rattle.iv_meaning.specs.Lines.{longest_line}

pub data Said : Type 0 where
  nothing : Said
  -- it is too long to be read
  too_long : Said
  -- it has no form of a line
  bad : Said
  -- `N: ..` and `N/ ..` with a statement, or with a text that the grammar refuses
  runs : (session : ℕ) → Result StatementTree Refusal → Said
  loads : (session : ℕ) → Result StatementTree Refusal → Said
  -- one of these two with a text for which there is no memory
  unread : (session : ℕ) → Said
  -- `N+`
  steps : (session : ℕ) → Said
  cleans : Said
  checkpoints : Said

-- what the grammar makes of a text
abbrev pub IsRead : List ℕ → Result StatementTree Refusal → Type 0
IsRead text (Ok statement) = Spells text statement
IsRead text (Err refusal) = Refuses text refusal

-- an empty line, or one that begins with `#`
abbrev pub IsRemark : List ℕ → Type 0
IsRemark line = (line ≡ []) ⊎ ((rest : List ℕ) × (line ≡ codes "#" ++ rest))

-- The session's number from 1 to 64, a mark, any number of spaces, and a text in UTF-8, which begins with no space. What
-- stands before the text is ASCII, so this is to say that the line is UTF-8.
pub record IsMarked (mark : List ℕ) (session : ℕ) (text line : List ℕ) : Type 0 where
  pub first : 1 ≤ session
  pub last : session ≤ MOST_SESSIONS
  pub spaces : List ℕ
  pub only_spaces : All (λ b. b ≡ 32) spaces
  pub written : line ≡ decimal session ++ (mark ++ (spaces ++ text))
  pub unspaced : (rest : List ℕ) → text ≢ codes " " ++ rest
  pub readable : IsUtf8 text

abbrev pub IsOfSession : ℕ → List ℕ → List ℕ → Type 0
IsOfSession = IsMarked (codes ":")

abbrev pub IsLoading : ℕ → List ℕ → List ℕ → Type 0
IsLoading = IsMarked (codes "/")

pub record IsStepping (session : ℕ) (line : List ℕ) : Type 0 where
  pub first : 1 ≤ session
  pub last : session ≤ MOST_SESSIONS
  pub written : line ≡ decimal session ++ codes "+"

-- the forms of a line
abbrev pub HasForm : List ℕ → Said → Type 0
HasForm line nothing = IsRemark line
HasForm line (runs session read) = (text : List ℕ) × IsOfSession session text line × IsRead text read
HasForm line (loads session read) = (text : List ℕ) × IsLoading session text line × IsRead text read
HasForm line (steps session) = IsStepping session line
HasForm line cleans = line ≡ codes "clean"
HasForm line checkpoints = line ≡ codes "checkpoint"
HasForm line _ = ⊥

abbrev pub SaysRead : List ℕ → Said → Type 0
SaysRead line bad = (form : Said) → ¬ (HasForm line form)
SaysRead line (unread session) = (text : List ℕ) × (IsOfSession session text line ⊎ IsLoading session text line)
SaysRead line form = HasForm line form

-- a line of more bytes than are read is too long, whatever it is; any other says what stands in it
abbrev pub Says : List ℕ → Said → Type 0
Says line said = ((longest_line < length line) × (said ≡ too_long)) ⊎ ((length line ≤ longest_line) × SaysRead line said)
