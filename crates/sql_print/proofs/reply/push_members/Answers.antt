use Rattle.std.proofs.Common.{ap, ◌∙◌, ◌++◌}
use Rattle.iv_types.specs.Replies.{numbers_text, members_from}
use Rattle.sql_print.proofs.Members.{with_member, without_member, after_members}
use Rattle.sql_print.proofs.reply.push_members.Goals as goal
use Rattle.sql_print.proofs.reply.push_members.Goals.{then-left-eq1+in_ok-push_spaced_number, else-left-eq1}

pub loop-i-preserved : goal.loop-i-preserved
loop-i-preserved c =
    let all = c.args.text.now.items ++ numbers_text (members_from c.args.count 1 c.args.bits) in
    elim c.if-left-eq1.branch [
      | then-left-eq1+in_ok-push_spaced_number w ↦ with_member c.args.count c.loop-i.i c.loop-i.left c.loop-i.text.items c.if-left-eq1.text.items all c.loop-i-test.true w.if-left-eq1.true c.loop-i.invariant (ap (λ t. t.items) w.text-is ∙ w.in_ok-push_spaced_number.ensures)
      | else-left-eq1 w ↦ rw w.text-is (without_member c.args.count c.loop-i.i c.loop-i.left c.loop-i.text.items all c.loop-i-test.true w.if-left-eq1.false c.loop-i.invariant)
    ]

pub returns : goal.returns
returns c = after_members c.args.count c.loop-i.i c.loop-i.left c.loop-i.text.items _ c.loop-i-test.false c.loop-i.invariant
