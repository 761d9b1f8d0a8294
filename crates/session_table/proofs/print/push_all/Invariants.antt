use Rattle.std.proofs.Common.{◌≡◌, ◌++◌, take}
use Rattle.iv_meaning.specs.Reply.{reply_lines}
use Rattle.session_table.proofs.print.push_all.Given as goal

abbrev pub invariant-loop-reply : goal.invariant-loop-reply
invariant-loop-reply l = l.text.items ≡ l.fn.text.items ++ reply_lines l.session (take l.reply-index l.replies)
