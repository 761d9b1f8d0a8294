use Rattle.std.proofs.Common.{◌≡◌, ◌++◌, take}
use Rattle.iv_types.specs.Replies.{row_text}
use Rattle.sql_print.proofs.reply.push_row.Given as goal

abbrev pub invariant-loop-value : goal.invariant-loop-value
invariant-loop-value l = l.text.items ≡ l.fn.text.items ++ row_text (take l.value-index l.value-items)
