use Rattle.iv_types.proofs.Members.{has_with}
use Rattle.iv_types.proofs.session.Sessions.with.Goals as goal

pub returns : goal.returns
returns c = λ other. has_with c.args.self c.args.session other c.requires.from_1 c.requires.to_64
