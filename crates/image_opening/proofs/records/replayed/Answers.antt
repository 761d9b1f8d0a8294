use Rattle.std.proofs.Common.{sym, ◌∙◌}
use Rattle.log_replay.proofs.Recovering.{told_weaker}
use Rattle.image_opening.proofs.Scanned.{is_image, commits_are}
use Rattle.image_opening.proofs.records.replayed.Goals as goal

pub new-replay-requires-after_bounds : goal.new-replay-requires-after_bounds
new-replay-requires-after_bounds c κs =
    let has = c.requires.has c.args.image.now.header.commits in
    (has.0, has.1, sym has.2)

pub replay_records-requires-clause-begins : goal.replay_records-requires-clause-begins
replay_records-requires-clause-begins c κs =
    let has = c.requires.has c.args.image.now.header.commits in
    (has.0, c.new-replay.ensures.begins has.0 has.1 (sym has.2))

pub returns-in-Ok-clause-recovered : goal.returns-in-Ok-clause-recovered
returns-in-Ok-clause-recovered c bytes are has pages i im =
    let commits = commits_are bytes are c.args.image.now has i im ∙ sym im.placed.commits in
    c.in-Ok.ensures.recovered i (is_image bytes are c.args.image.now has i im c.new-replay.result
    (c.new-replay.ensures.begins i.pages (pages im.room im.count im.here im.whole i.pages im.placed.stored im.placed.commits) commits)
    c.area_place.result c.area_place.ensures c.as_slice.result.now c.as_slice.ensures)

pub returns-in-Err-clause-refused : goal.returns-in-Err-clause-refused
returns-in-Err-clause-refused c bytes are has pages i im =
    let commits = commits_are bytes are c.args.image.now has i im ∙ sym im.placed.commits in
    told_weaker c.in-Err.fault (λ bad refused.
    refused i (is_image bytes are c.args.image.now has i im c.new-replay.result
    (c.new-replay.ensures.begins i.pages (pages im.room im.count im.here im.whole i.pages im.placed.stored im.placed.commits) commits)
    c.area_place.result c.area_place.ensures c.as_slice.result.now c.as_slice.ensures)) c.in-Err.ensures.refused
