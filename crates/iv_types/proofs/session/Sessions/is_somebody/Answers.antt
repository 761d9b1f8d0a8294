use Rattle.std.proofs.Common.{arith}
use Rattle.iv_types.proofs.Members.{somebody_by_bits}
use Rattle.iv_types.proofs.session.Sessions.is_somebody.Goals as goal

pub returns : goal.returns
returns c = somebody_by_bits c.args.self (omega arith)
