use Rattle.std.proofs.Common.{◌≡◌, ◌+◌, ◌/◌, length, arith}
use Rattle.std.proofs.lemmas.Result.{on_ok_weaker}
use Rattle.txn_log.specs.Stored.{in_parts}
use Rattle.definition_parts.proofs.Entries.{parts_many}
use Rattle.definition_parts.proofs.storing.reserve_parts.Goals as goal

pub returns-clause-room : goal.returns-clause-room
returns-clause-room g c =
    let text = c.args.text.now in
    let many : length (in_parts text) ≡ (length text + 1023) / 1024 = parts_many ((length text + 1023) / 1024) text in
    let count = c.div_ceil.ensures in
    on_ok_weaker c.reserve.result (λ room. omega (arith, many, count, room)) c.reserve.ensures.room
