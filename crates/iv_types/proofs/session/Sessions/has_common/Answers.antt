use Rattle.std.proofs.Common.{arith}
use Rattle.iv_types.proofs.Members.{have_by_test}
use Rattle.iv_types.proofs.session.Sessions.has_common.Goals as goal

pub returns : goal.returns
returns c = have_by_test c.args.self c.args.other (omega arith)
