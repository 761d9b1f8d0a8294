-- No clause of `run` rests on this module: it serves contracts between crates.
--
-- What a line says that asks for this.
use Rattle.std.specs.Prelude.{◌≡◌, ◌⊎◌, ℕ, List, Result, Ok, Err}
use Rattle.iv_types.specs.declared.statement.Statement.{Statement}
use Rattle.iv_types.specs.declared.refusal.Refusal.{Refusal}
use Rattle.iv_types.specs.Syntax.{StatementTree}
use Rattle.iv_types.specs.Trees.{statement_tree}
use Rattle.iv_meaning.specs.Escrow.{IsSession}
use Rattle.iv_meaning.specs.Said.{Said, nothing, too_long, bad, runs, loads, unread, steps, cleans, checkpoints, IsRead}
use Rattle.txn_machine.specs.May.{IsWritten}
use Rattle.line_requests.specs.declared.asked.Ask.{Ask}
use Rattle.line_requests.specs.declared.asked.Ask.TheVariants as ask
use Rattle.line_requests.specs.declared.asked.Request.{Request}
use Rattle.line_requests.specs.declared.asked.Request.TheVariants as request

abbrev pub read_of : Result Statement Refusal → Result StatementTree Refusal
read_of (Ok statement) = Ok (statement_tree statement)
read_of (Err why) = Err why

-- a line of a session says this, or there was no memory for its text
abbrev pub SaysOf : ℕ → Ask → Said → Type 0
SaysOf session (ask.Runs read) said = (said ≡ runs session (read_of read)) ⊎ (said ≡ unread session)
SaysOf session (ask.Loads read) said = (said ≡ loads session (read_of read)) ⊎ (said ≡ unread session)
SaysOf session ask.Unread said = said ≡ unread session
SaysOf session ask.Steps said = said ≡ steps session

abbrev pub SaysSo : Request → Said → Type 0
SaysSo request.Nothing said = said ≡ nothing
SaysSo request.TooLong said = said ≡ too_long
SaysSo request.Bad said = said ≡ bad
SaysSo (request.OfSession session a) said = SaysOf session a said
SaysSo request.Clean said = said ≡ cleans
SaysSo request.Checkpoint said = said ≡ checkpoints

-- a statement that was read is written in some text
abbrev pub WasRead : Result Statement Refusal → Type 0
WasRead (Ok statement) = IsWritten (statement_tree statement)
WasRead (Err why) = Unit {0}

abbrev pub IsAsk : Ask → Type 0
IsAsk (ask.Runs read) = WasRead read
IsAsk (ask.Loads read) = WasRead read
IsAsk _ = Unit {0}

-- the session's number is one, and its statement is written in some text
abbrev pub IsRequest : Request → Type 0
IsRequest (request.OfSession session a) = IsSession session × IsAsk a
IsRequest _ = Unit {0}

-- to run the statement of this text, or to load it; there may be no memory for the text
abbrev pub RunsText : List ℕ → Ask → Type 0
RunsText text (ask.Runs read) = IsRead text (read_of read)
RunsText text ask.Unread = Unit {0}
RunsText text _ = ⊥

abbrev pub LoadsText : List ℕ → Ask → Type 0
LoadsText text (ask.Loads read) = IsRead text (read_of read)
LoadsText text ask.Unread = Unit {0}
LoadsText text _ = ⊥
