-- The lines of output.
use Rattle.std.specs.Prelude.{ℕ, List, ◌++◌, Some, codes}
use Rattle.std.specs.List.{flat_map}
use Rattle.iv_types.specs.declared.reply.Reply.{Reply}
use Rattle.iv_types.specs.Replies.{reply_text}

-- a reply's text with its session's number, and a LF
abbrev pub reply_line : ℕ → Reply → List ℕ
reply_line session reply = reply_text (Some session) reply ++ codes "\n"

-- the lines of some replies
abbrev pub reply_lines : ℕ → List Reply → List ℕ
reply_lines session replies = flat_map (reply_line session) replies
