-- No clause of `run` rests on this module: it serves contracts between crates.
--
-- How a SELECT works: the intervals of its plan are locked in Share and read, one after another, and then it lists its rows.
use Rattle.std.specs.Prelude.{List, [], ◌∷◌}
use Rattle.iv_types.specs.declared.statement.Mode.{Mode}
use Rattle.iv_types.specs.declared.lock.LockMode.TheVariants.{Share}
use Rattle.iv_types.specs.declared.reply.Reply.{Reply}
use Rattle.iv_types.specs.declared.reply.Reply.TheVariants as reply
use Rattle.iv_meaning.specs.Schema.{Schema}
use Rattle.iv_meaning.specs.Database.{Row}
use Rattle.iv_meaning.specs.Query.{BoundQuery}
use Rattle.iv_meaning.specs.Reading.{Program, done as replies_with, fetch, program, sources_for}
use Rattle.script_law.specs.Works.{Work, done, refuses, fetches}

-- it lists this row before others
abbrev pub with_row : Row → Work → Work
with_row row (done listed count) = done (row ∷ listed) count
with_row row w = w

-- it has these replies: its rows and their count, or its refusal
abbrev pub replied : List Reply → Work
replied [] = done [] 0
replied (reply.Row row ∷ more) = with_row row (replied more)
replied (reply.Done count ∷ more) = done [] count
replied (reply.Error why ∷ more) = refuses why
replied (r ∷ more) = replied more

-- each interval that is asked for is locked and read
abbrev pub reads : Program → Work
reads (replies_with replies) = replied replies
reads (fetch index interval more) = fetches index interval Share (λ rows. reads (more rows))

abbrev pub select_work : Mode → Schema → BoundQuery → Work
select_work mode objects query = reads (program query (sources_for objects query mode))
