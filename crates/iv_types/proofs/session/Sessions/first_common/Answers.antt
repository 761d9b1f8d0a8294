use Rattle.std.proofs.Common.{arith}
use Rattle.iv_types.proofs.Members.{first_by_zeros, bit_of}
use Rattle.iv_types.proofs.session.Sessions.first_common.Goals as goal

pub returns-clause-first : goal.returns-clause-first
returns-clause-first c = first_by_zeros c.args.self c.args.other (omega arith) c.requires

pub returns-clause-to_64 : goal.returns-clause-to_64
returns-clause-to_64 c = (bit_of c.args.self _ (first_by_zeros c.args.self c.args.other (omega arith) c.requires).in_one).to
