use Rattle.std.proofs.Common.{◌≡◌, ◌++◌, ◌+◌, ◌-◌}
use Rattle.iv_types.specs.Replies.{numbers_text, members_from}
use Rattle.sql_print.proofs.reply.push_members.Given as goal

abbrev pub invariant-loop-i : goal.invariant-loop-i
invariant-loop-i l = l.text.items ++ numbers_text (members_from (l.count - l.i) (l.i + 1) l.left) ≡ l.fn.text.items ++ numbers_text (members_from l.count 1 l.bits)
