use Rattle.wal_log.proofs.BlockLaws.{begins_of, held_stays}
use Rattle.wal_log.proofs.log.held_blocks_stand.Goals as goal

pub returns-clause-begin : goal.returns-clause-begin
returns-clause-begin c start gate size disk groups holds = begins_of start gate size disk groups holds

pub returns-clause-stay : goal.returns-clause-stay
returns-clause-stay c start gate size old new groups holds same each = held_stays start gate size old new groups holds same each
