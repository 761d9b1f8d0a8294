use Rattle.sql_print.proofs.reply.push_sessions.Goals as goal

pub returns : goal.returns
returns c = c.push_members.ensures
