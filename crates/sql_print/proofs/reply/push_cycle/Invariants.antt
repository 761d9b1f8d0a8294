use Rattle.std.proofs.Common.{◌≡◌, ◌++◌, take}
use Rattle.iv_types.specs.Replies.{numbers_text}
use Rattle.sql_print.proofs.reply.push_cycle.Given as goal

abbrev pub invariant-loop-session : goal.invariant-loop-session
invariant-loop-session l = l.text.items ≡ l.fn.text.items ++ numbers_text (take l.session-index l.session-items)
