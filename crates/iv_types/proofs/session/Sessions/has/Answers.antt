use Rattle.iv_types.proofs.Members.{has_by_test}
use Rattle.iv_types.proofs.session.Sessions.has.Goals as goal

pub returns : goal.returns
returns c = has_by_test c.args.self c.args.session c.requires.from_1 c.requires.to_64
